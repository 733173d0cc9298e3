-- Forms of what is made of their operands, of which the node knows where their last calls stand.
use Rattle.std.proofs.Common.{◌≡◌, ◌∙◌, refl, sym, ap, ℕ, Bool, false, ◌||◌, List, [], ◌∷◌, Option}
use Rattle.lane_core.specs.declared.event.AtomicKind.{AtomicKind}
use Rattle.hl_meaning.specs.Types.{Ty}
use Rattle.hl_meaning.specs.Trees.{Expr, Location, MaybeExpr, MaybeLocation, PathParts, Root, Target, a_location, an_expr, atomic_form, binary_form, choose_form, convert_form, method_form, pick_form, unary_form, write_form}
use Rattle.hl_inline.specs.FlatTrees.{FlatStmt}
use Rattle.hl_inline.specs.Operands.{filled_expr_if, filled_parts, filled_place, filled_place_if, filled_root, filled_target}
use Rattle.hl_inline.specs.EmittedExpressions.{emitted, emitter, expr_if_emitters, form_emitter, parts_emitters, place_emitters, place_if_emitters, root_emitters, target_emitters}
use Rattle.hl_inline.specs.Emitting.{Valued, any_call, emit_all, settled}
use Rattle.hl_inline.specs.Fresh.{Fresh, Instance}
use Rattle.hl_inline.specs.InlinedCalls.{Inlined}
use Rattle.hl_inline.specs.Building.{Made, behind, made, made_behind, operand_behind, valued}
use Rattle.hl_inline.specs.LastCalls.{any_holds, expr_if_path, expr_path, holds, parts_paths, place_if_path}
use Rattle.hl_inline.proofs.Flags.{or-false}
use Rattle.hl_inline.proofs.CallPaths.{expr-calls, expr_if-calls, parts-calls, place_if-calls}
use Rattle.hl_inline.proofs.EmittingLemmas.{atomic_done, binary_done, choose_done, convert_done, method_done, pick_done, place_done, unary_done, write_done}

-- an operand behind which nothing comes
last-settled : (f : Bool) (code : List FlatStmt) (x : Valued) (o : Made Expr) → f ≡ false → operand_behind code (settled f x) ≡ o → operand_behind code (settled false x) ≡ o
last-settled f code x o is done = ap (λ b. operand_behind code (settled b x)) (sym is) ∙ done

module _ (k : List Inlined) (i : Instance) (code : List FlatStmt) (fresh : Fresh) where
  pub place_known : (further f : Bool) (ty : Ty) (root : Root) (parts : PathParts) (a : Made Root) (b : Made PathParts) →
      f ≡ (further || any_holds (parts_paths parts)) →
      made_behind code (filled_root i.first root) (emit_all f (root_emitters k i root) fresh) ≡ a →
      made_behind a.code (filled_parts parts) (emit_all further (parts_emitters k i parts) a.fresh) ≡ b →
      made_behind code (filled_place i.first (a_location ty root parts)) (emit_all further (place_emitters k i (a_location ty root parts)) fresh) ≡
      made b.code (a_location ty a.value b.value) b.fresh
  place_known further f ty root parts a b is first second =
      place_done k i code fresh further f ty root parts a b (is ∙ ap (λ x. further || x) (parts-calls k i parts)) first second

  module _ (ty : Ty) (at : ℕ) where
    pub convert_known : (e : Expr) (f : Bool) (o : Made Expr) → f ≡ false → operand_behind code (settled f (emitted k i e fresh)) ≡ o →
        behind code ((form_emitter k i ty at (convert_form e)).emit fresh) ≡ valued o.code (an_expr ty at (convert_form o.value)) false o.fresh
    convert_known e f o is done = convert_done k i code fresh ty at e o (last-settled f code (emitted k i e fresh) o is done)

    pub unary_known : (op : ℕ) (e : Expr) (f : Bool) (o : Made Expr) → f ≡ false → operand_behind code (settled f (emitted k i e fresh)) ≡ o →
        behind code ((form_emitter k i ty at (unary_form op e)).emit fresh) ≡ valued o.code (an_expr ty at (unary_form op o.value)) false o.fresh
    unary_known op e f o is done = unary_done k i code fresh ty at op e o (last-settled f code (emitted k i e fresh) o is done)

    pub pick_known : (e : Expr) (parts : PathParts) (f : Bool) (o : Made Expr) → f ≡ false → operand_behind code (settled f (emitted k i e fresh)) ≡ o →
        behind code ((form_emitter k i ty at (pick_form e parts)).emit fresh) ≡ valued o.code (an_expr ty at (pick_form o.value parts)) false o.fresh
    pick_known e parts f o is done = pick_done k i code fresh ty at e parts o (last-settled f code (emitted k i e fresh) o is done)

    pub write_known : (to : Location) (op : Option ℕ) (common : Ty) (value : Expr) (old f g : Bool) (a : Made Location) (b : Made Expr) →
        f ≡ any_holds (expr_path value ∷ []) → g ≡ false →
        made_behind code (filled_place i.first to) (emit_all f (place_emitters k i to) fresh) ≡ a →
        operand_behind a.code (settled g (emitted k i value a.fresh)) ≡ b →
        behind code ((form_emitter k i ty at (write_form to op common value old)).emit fresh) ≡ valued b.code (an_expr ty at (write_form a.value op common b.value old)) false b.fresh
    write_known to op common value old f g a b f_is g_is first second =
        write_done k i code fresh ty at to op common value old f a b (f_is ∙ (or-false (holds (expr_path value)) ∙ expr-calls k i value)) first
        (last-settled g a.code (emitted k i value a.fresh) b g_is second)

    pub binary_known : (op : ℕ) (left right : Expr) (f g : Bool) (a b : Made Expr) → f ≡ any_holds (expr_path right ∷ []) → g ≡ false →
        operand_behind code (settled f (emitted k i left fresh)) ≡ a →
        operand_behind a.code (settled g (emitted k i right a.fresh)) ≡ b →
        behind code ((form_emitter k i ty at (binary_form op left right)).emit fresh) ≡ valued b.code (an_expr ty at (binary_form op a.value b.value)) false b.fresh
    binary_known op left right f g a b f_is g_is first second =
        binary_done k i code fresh ty at op left right f a b (f_is ∙ (or-false (holds (expr_path right)) ∙ expr-calls k i right)) first
        (last-settled g a.code (emitted k i right a.fresh) b g_is second)

    pub method_known : (resource count : ℕ) (address : Expr) (value : MaybeExpr) (f g : Bool) (a : Made Expr) (b : Made MaybeExpr) → f ≡ any_holds (expr_if_path value ∷ []) → g ≡ false →
        operand_behind code (settled f (emitted k i address fresh)) ≡ a →
        made_behind a.code (filled_expr_if value) (emit_all g (expr_if_emitters k i value) a.fresh) ≡ b →
        behind code ((form_emitter k i ty at (method_form resource count address value)).emit fresh) ≡ valued b.code (an_expr ty at (method_form resource count a.value b.value)) false b.fresh
    method_known resource count address value f g a b f_is g_is first second =
        method_done k i code fresh ty at resource count address value f a b (f_is ∙ (or-false (holds (expr_if_path value)) ∙ expr_if-calls k i value)) first
        (ap (λ x. made_behind a.code (filled_expr_if value) (emit_all x (expr_if_emitters k i value) a.fresh)) (sym g_is) ∙ second)

    pub choose_known : (cond consequent alternative : Expr) (f g h : Bool) (a b d : Made Expr) →
        f ≡ any_holds (expr_path consequent ∷ expr_path alternative ∷ []) → g ≡ any_holds (expr_path alternative ∷ []) → h ≡ false →
        operand_behind code (settled f (emitted k i cond fresh)) ≡ a →
        operand_behind a.code (settled g (emitted k i consequent a.fresh)) ≡ b →
        operand_behind b.code (settled h (emitted k i alternative b.fresh)) ≡ d →
        behind code ((form_emitter k i ty at (choose_form cond consequent alternative)).emit fresh) ≡ valued d.code (an_expr ty at (choose_form a.value b.value d.value)) false d.fresh
    choose_known cond consequent alternative f g h a b d f_is g_is h_is first second third =
        choose_done k i code fresh ty at cond consequent alternative f g a b d
        (g_is ∙ (or-false (holds (expr_path alternative)) ∙ expr-calls k i alternative))
        (f_is ∙ (ap (λ x. x || any_holds (expr_path alternative ∷ [])) (expr-calls k i consequent) ∙ ap (λ x. (emitter k i consequent).has_call || x) (sym g_is)))
        first second (last-settled h b.code (emitted k i alternative b.fresh) d h_is third)

    pub atomic_known : (target : Target) (kind : Option AtomicKind) (compare : MaybeExpr) (value : Expr) (original : MaybeLocation) (f g h j : Bool)
        (a : Made Target) (b : Made MaybeExpr) (d : Made Expr) (l : Made MaybeLocation) →
        f ≡ any_holds (expr_if_path compare ∷ expr_path value ∷ place_if_path original ∷ []) → g ≡ any_holds (expr_path value ∷ place_if_path original ∷ []) →
        h ≡ any_holds (place_if_path original ∷ []) → j ≡ false →
        made_behind code (filled_target i.first target) (emit_all f (target_emitters k i target) fresh) ≡ a →
        made_behind a.code (filled_expr_if compare) (emit_all g (expr_if_emitters k i compare) a.fresh) ≡ b →
        operand_behind b.code (settled h (emitted k i value b.fresh)) ≡ d →
        made_behind d.code (filled_place_if i.first original) (emit_all j (place_if_emitters k i original) d.fresh) ≡ l →
        behind code ((form_emitter k i ty at (atomic_form target kind compare value original)).emit fresh) ≡ valued l.code (an_expr ty at (atomic_form a.value kind b.value d.value l.value)) false l.fresh
    atomic_known target kind compare value original f g h j a b d l f_is g_is h_is j_is first second third fourth =
        atomic_done k i code fresh ty at target kind compare value original f g h a b d l
        (h_is ∙ (or-false (holds (place_if_path original)) ∙ place_if-calls k i original))
        (g_is ∙ (ap (λ x. x || any_holds (place_if_path original ∷ [])) (expr-calls k i value) ∙ ap (λ x. (emitter k i value).has_call || x) (sym h_is)))
        (f_is ∙ (ap (λ x. x || any_holds (expr_path value ∷ place_if_path original ∷ [])) (expr_if-calls k i compare) ∙ ap (λ x. any_call (expr_if_emitters k i compare) || x) (sym g_is)))
        first second third
        (ap (λ x. made_behind d.code (filled_place_if i.first original) (emit_all x (place_if_emitters k i original) d.fresh)) (sym j_is) ∙ fourth)
