-- Places and forms of what is made of their operands.
use Rattle.std.proofs.Common.{◌≡◌, ◌∙◌, refl, sym, ap, subst, ℕ, ◌+◌, Bool, false, ◌||◌, List, [], ◌∷◌, ◌++◌, length, drop, Option, arith}
use Rattle.std.proofs.lemmas.List.{length-map}
use Rattle.lane_core.specs.declared.event.AtomicKind.{AtomicKind}
use Rattle.hl_meaning.specs.Types.{Ty}
use Rattle.hl_meaning.specs.Trees.{Expr, Exprs, Form, Location, MaybeExpr, MaybeLocation, PathPart, PathParts, Root, Target, a_location, an_expr, atomic_form, binary_form, build_form, bytes_target, choose_form, constant_root, convert_form, element_root, index_part, intrinsic_form, member_part, method_form, more_parts, no_expr, no_parts, pick_form, place_target, read_form, shared_root, some_expr, swizzle_part, unary_form, variable_root, write_form}
use Rattle.hl_meaning.specs.Views.{exprs_of}
use Rattle.hl_inline.specs.FlatTrees.{FlatStmt}
use Rattle.typed_laws.proofs.OperandExpressions.{expr_if_list}
use Rattle.hl_inline.specs.Operands.{behind_expr_if, behind_target, filled, filled_expr_if, filled_parts, filled_place, filled_place_if, filled_root, filled_target, first_expr}
use Rattle.typed_laws.specs.Operands.{parts_exprs, place_exprs, target_exprs}
use Rattle.hl_inline.specs.EmittedExpressions.{emitted, emitter, expr_if_emitters, exprs_emitters, form_emitter, part_emitters, parts_emitters, place_emitters, place_if_emitters, root_emitters, target_emitters}
use Rattle.hl_inline.specs.Emitting.{Emitter, any_call, emit_all, settled}
use Rattle.hl_inline.specs.Fresh.{Fresh, Instance}
use Rattle.hl_inline.specs.InlinedCalls.{Inlined}
use Rattle.hl_inline.specs.Building.{Made, behind, filled_part, made, made_behind, operand_behind, valued}
use Rattle.hl_inline.proofs.OperandLemmas.{place_emitters_all}
use Rattle.hl_inline.proofs.BuildingLemmas.{map_made, node_done, one, pair}
use Rattle.hl_inline.proofs.Flags.{any-append, or-false}

-- values in front of others

first_front : (xs ys : List Expr) → length xs ≡ 1 → first_expr (xs ++ ys) ≡ first_expr xs
first_front [] ys e = absurd (omega (arith, e))
first_front (x ∷ xs) ys e = refl

behind_one : (xs ys : List Expr) → length xs ≡ 1 → drop 1 (xs ++ ys) ≡ ys
behind_one [] ys e = absurd (omega (arith, e))
behind_one (x ∷ []) ys e = refl
behind_one (x ∷ y ∷ xs) ys e = absurd (omega (arith, e))

empty : {A : Type 0} (xs : List A) → length xs ≡ 0 → xs ≡ []
empty [] e = refl
empty (x ∷ xs) e = absurd (omega (arith, e))

-- counts

root_count : (k : List Inlined) (i : Instance) (root : Root) (xs : List Expr) → length xs ≡ length (root_emitters k i root) →
    (first : ℕ) (ty : Ty) (parts : PathParts) (ys : List Expr) →
    filled_place first (a_location ty root parts) (xs ++ ys) ≡ a_location ty (filled_root first root xs) (filled_parts parts ys)
root_count k i (variable_root number) xs e first ty parts ys = ap (λ l. a_location ty (variable_root (first + number)) (filled_parts parts (l ++ ys))) (empty xs e)
root_count k i (constant_root number) xs e first ty parts ys = ap (λ l. a_location ty (variable_root number) (filled_parts parts (l ++ ys))) (empty xs e)
root_count k i (shared_root number) xs e first ty parts ys = ap (λ l. a_location ty (shared_root number) (filled_parts parts (l ++ ys))) (empty xs e)
root_count k i (element_root resource index) xs e first ty parts ys =
    ap (λ v. a_location ty (element_root resource v) (filled_parts parts (drop 1 (xs ++ ys)))) (first_front xs ys e) ∙
    ap (λ l. a_location ty (element_root resource (first_expr xs)) (filled_parts parts l)) (behind_one xs ys e)

part_count : (k : List Inlined) (i : Instance) (part : PathPart) (rest : PathParts) (xs ys : List Expr) → length xs ≡ length (part_emitters k i part) →
    filled_parts (more_parts part rest) (xs ++ ys) ≡ more_parts (filled_part part xs) (filled_parts rest ys)
part_count k i (member_part number) rest xs ys e = ap (λ l. more_parts (member_part number) (filled_parts rest (l ++ ys))) (empty xs e)
part_count k i (index_part index) rest xs ys e =
    ap (λ v. more_parts (index_part v) (filled_parts rest (drop 1 (xs ++ ys)))) (first_front xs ys e) ∙
    ap (λ l. more_parts (index_part (first_expr xs)) (filled_parts rest l)) (behind_one xs ys e)
part_count k i (swizzle_part letters) rest xs ys e = ap (λ l. more_parts (swizzle_part letters) (filled_parts rest (l ++ ys))) (empty xs e)

place_count : (k : List Inlined) (i : Instance) (place : Location) → length (place_emitters k i place) ≡ length (place_exprs place)
place_count k i place = ap length (place_emitters_all k i place) ∙ length-map (place_exprs place) (emitter k i)

target_count : (k : List Inlined) (i : Instance) (target : Target) → length (target_emitters k i target) ≡ length (target_exprs target)
target_count k i (place_target place) = place_count k i place
target_count k i (bytes_target resource address) = refl

expr_if_count : (k : List Inlined) (i : Instance) (value : MaybeExpr) → length (expr_if_emitters k i value) ≡ length (expr_if_list value)
expr_if_count k i no_expr = refl
expr_if_count k i (some_expr value) = refl

drop_front : (n : ℕ) (xs ys : List Expr) → length xs ≡ n → drop n (xs ++ ys) ≡ ys
drop_front n xs ys e = subst (λ m. drop m (xs ++ ys) ≡ ys) e (seam xs)
  where
    seam : (xs : List Expr) → drop (length xs) (xs ++ ys) ≡ ys
    seam [] = refl
    seam (x ∷ xs) = seam xs

parts_front : (parts : PathParts) (xs ys : List Expr) → length xs ≡ length (parts_exprs parts) → filled_parts parts (xs ++ ys) ≡ filled_parts parts xs
parts_front no_parts xs ys e = refl
parts_front (more_parts (member_part number) rest) xs ys e = ap (more_parts (member_part number)) (parts_front rest xs ys e)
parts_front (more_parts (swizzle_part letters) rest) xs ys e = ap (more_parts (swizzle_part letters)) (parts_front rest xs ys e)
parts_front (more_parts (index_part index) rest) [] ys e = absurd (omega (arith, e))
parts_front (more_parts (index_part index) rest) (x ∷ xs) ys e = ap (more_parts (index_part x)) (parts_front rest xs ys (omega (arith, e)))

place_front : (first : ℕ) (place : Location) (xs ys : List Expr) → length xs ≡ length (place_exprs place) → filled_place first place (xs ++ ys) ≡ filled_place first place xs
place_front first (a_location ty (variable_root number) parts) xs ys e = ap (a_location ty (variable_root (first + number))) (parts_front parts xs ys e)
place_front first (a_location ty (constant_root number) parts) xs ys e = ap (a_location ty (variable_root number)) (parts_front parts xs ys e)
place_front first (a_location ty (shared_root number) parts) xs ys e = ap (a_location ty (shared_root number)) (parts_front parts xs ys e)
place_front first (a_location ty (element_root resource index) parts) [] ys e = absurd (omega (arith, e))
place_front first (a_location ty (element_root resource index) parts) (x ∷ xs) ys e = ap (a_location ty (element_root resource x)) (parts_front parts xs ys (omega (arith, e)))

target_front : (first : ℕ) (target : Target) (xs ys : List Expr) → length xs ≡ length (target_exprs target) → filled_target first target (xs ++ ys) ≡ filled_target first target xs
target_front first (place_target place) xs ys e = ap place_target (place_front first place xs ys e)
target_front first (bytes_target resource address) xs ys e = ap (bytes_target resource) (first_front xs ys e)

expr_if_front : (value : MaybeExpr) (xs ys : List Expr) → length xs ≡ length (expr_if_list value) → filled_expr_if value (xs ++ ys) ≡ filled_expr_if value xs
expr_if_front no_expr xs ys e = refl
expr_if_front (some_expr value) xs ys e = ap some_expr (first_front xs ys e)

expr_if_behind : (value : MaybeExpr) (xs ys : List Expr) → length xs ≡ length (expr_if_list value) → behind_expr_if value (xs ++ ys) ≡ ys
expr_if_behind no_expr xs ys e = ap (λ l. l ++ ys) (empty xs e)
expr_if_behind (some_expr value) xs ys e = behind_one xs ys e

-- places

module _ (k : List Inlined) (i : Instance) (code : List FlatStmt) (fresh : Fresh) where
  pub place_done : (further f : Bool) (ty : Ty) (root : Root) (parts : PathParts) (a : Made Root) (b : Made PathParts) →
      f ≡ (further || any_call (parts_emitters k i parts)) →
      made_behind code (filled_root i.first root) (emit_all f (root_emitters k i root) fresh) ≡ a →
      made_behind a.code (filled_parts parts) (emit_all further (parts_emitters k i parts) a.fresh) ≡ b →
      made_behind code (filled_place i.first (a_location ty root parts)) (emit_all further (place_emitters k i (a_location ty root parts)) fresh) ≡
      made b.code (a_location ty a.value b.value) b.fresh
  place_done further f ty root parts a b is first second =
      pair (filled_root i.first root) (filled_parts parts) (a_location ty) (filled_place i.first (a_location ty root parts)) further f
      (root_emitters k i root) (parts_emitters k i parts) code fresh a b (λ xs ys e. root_count k i root xs e i.first ty parts ys) is first second

  -- one step and those behind it
  pub parts_done : (further f : Bool) (part : PathPart) (rest : PathParts) (a : Made PathPart) →
      f ≡ (further || any_call (parts_emitters k i rest)) →
      made_behind code (filled_part part) (emit_all f (part_emitters k i part) fresh) ≡ a →
      made_behind code (filled_parts (more_parts part rest)) (emit_all further (parts_emitters k i (more_parts part rest)) fresh) ≡
      map_made (more_parts a.value) (made_behind a.code (filled_parts rest) (emit_all further (parts_emitters k i rest) a.fresh))
  parts_done further f part rest a is first =
      pair (filled_part part) (filled_parts rest) more_parts (filled_parts (more_parts part rest)) further f
      (part_emitters k i part) (parts_emitters k i rest) code fresh a (made_behind a.code (filled_parts rest) (emit_all further (parts_emitters k i rest) a.fresh))
      (λ xs ys e. part_count k i part rest xs ys e) is first refl

  -- operands

  pub operand_done : (further : Bool) (e : Expr) (o : Made Expr) → operand_behind code (settled further (emitted k i e fresh)) ≡ o →
      made_behind code first_expr (emit_all further (emitter k i e ∷ []) fresh) ≡ o
  operand_done further e o done = one further (emitter k i e) code fresh o done

  pub expr_if_done : (further : Bool) (e : Expr) (o : Made Expr) → operand_behind code (settled further (emitted k i e fresh)) ≡ o →
      made_behind code (filled_expr_if (some_expr e)) (emit_all further (expr_if_emitters k i (some_expr e)) fresh) ≡ made o.code (some_expr o.value) o.fresh
  expr_if_done further e o done = ap (map_made some_expr) (operand_done further e o done)

  pub index_done : (further : Bool) (e : Expr) (o : Made Expr) → operand_behind code (settled further (emitted k i e fresh)) ≡ o →
      made_behind code (filled_part (index_part e)) (emit_all further (part_emitters k i (index_part e)) fresh) ≡ made o.code (index_part o.value) o.fresh
  index_done further e o done = ap (map_made index_part) (operand_done further e o done)

  pub element_done : (further : Bool) (resource : ℕ) (e : Expr) (o : Made Expr) → operand_behind code (settled further (emitted k i e fresh)) ≡ o →
      made_behind code (filled_root i.first (element_root resource e)) (emit_all further (root_emitters k i (element_root resource e)) fresh) ≡ made o.code (element_root resource o.value) o.fresh
  element_done further resource e o done = ap (map_made (element_root resource)) (operand_done further e o done)

  pub bytes_done : (further : Bool) (resource : ℕ) (e : Expr) (o : Made Expr) → operand_behind code (settled further (emitted k i e fresh)) ≡ o →
      made_behind code (filled_target i.first (bytes_target resource e)) (emit_all further (target_emitters k i (bytes_target resource e)) fresh) ≡ made o.code (bytes_target resource o.value) o.fresh
  bytes_done further resource e o done = ap (map_made (bytes_target resource)) (operand_done further e o done)

  -- forms

  module _ (ty : Ty) (at : ℕ) where
    pub read_done : (place : Location) (a : Made Location) → made_behind code (filled_place i.first place) (emit_all false (place_emitters k i place) fresh) ≡ a →
        behind code ((form_emitter k i ty at (read_form place)).emit fresh) ≡ valued a.code (an_expr ty at (read_form a.value)) false a.fresh
    read_done place a done = node_done i ty at (read_form place) (place_emitters k i place) code fresh (map_made read_form a) (ap (map_made read_form) done)

    pub convert_done : (e : Expr) (o : Made Expr) → operand_behind code (settled false (emitted k i e fresh)) ≡ o →
        behind code ((form_emitter k i ty at (convert_form e)).emit fresh) ≡ valued o.code (an_expr ty at (convert_form o.value)) false o.fresh
    convert_done e o done = node_done i ty at (convert_form e) (emitter k i e ∷ []) code fresh (map_made convert_form o) (ap (map_made convert_form) (operand_done false e o done))

    pub unary_done : (op : ℕ) (e : Expr) (o : Made Expr) → operand_behind code (settled false (emitted k i e fresh)) ≡ o →
        behind code ((form_emitter k i ty at (unary_form op e)).emit fresh) ≡ valued o.code (an_expr ty at (unary_form op o.value)) false o.fresh
    unary_done op e o done = node_done i ty at (unary_form op e) (emitter k i e ∷ []) code fresh (map_made (unary_form op) o) (ap (map_made (unary_form op)) (operand_done false e o done))

    pub pick_done : (e : Expr) (parts : PathParts) (o : Made Expr) → operand_behind code (settled false (emitted k i e fresh)) ≡ o →
        behind code ((form_emitter k i ty at (pick_form e parts)).emit fresh) ≡ valued o.code (an_expr ty at (pick_form o.value parts)) false o.fresh
    pick_done e parts o done = node_done i ty at (pick_form e parts) (emitter k i e ∷ []) code fresh (map_made (λ v. pick_form v parts) o) (ap (map_made (λ v. pick_form v parts)) (operand_done false e o done))

    pub build_done : (es : Exprs) (a : Made Exprs) → made_behind code exprs_of (emit_all false (exprs_emitters k i es) fresh) ≡ a →
        behind code ((form_emitter k i ty at (build_form es)).emit fresh) ≡ valued a.code (an_expr ty at (build_form a.value)) false a.fresh
    build_done es a done = node_done i ty at (build_form es) (exprs_emitters k i es) code fresh (map_made build_form a) (ap (map_made build_form) done)

    pub intrinsic_done : (number : ℕ) (es : Exprs) (a : Made Exprs) → made_behind code exprs_of (emit_all false (exprs_emitters k i es) fresh) ≡ a →
        behind code ((form_emitter k i ty at (intrinsic_form number es)).emit fresh) ≡ valued a.code (an_expr ty at (intrinsic_form number a.value)) false a.fresh
    intrinsic_done number es a done = node_done i ty at (intrinsic_form number es) (exprs_emitters k i es) code fresh (map_made (intrinsic_form number) a) (ap (map_made (intrinsic_form number)) done)

    pub write_done : (to : Location) (op : Option ℕ) (common : Ty) (value : Expr) (old f : Bool) (a : Made Location) (b : Made Expr) →
        f ≡ (emitter k i value).has_call →
        made_behind code (filled_place i.first to) (emit_all f (place_emitters k i to) fresh) ≡ a →
        operand_behind a.code (settled false (emitted k i value a.fresh)) ≡ b →
        behind code ((form_emitter k i ty at (write_form to op common value old)).emit fresh) ≡ valued b.code (an_expr ty at (write_form a.value op common b.value old)) false b.fresh
    write_done to op common value old f a b is first second =
        node_done i ty at (write_form to op common value old) (place_emitters k i to ++ emitter k i value ∷ []) code fresh (made b.code (write_form a.value op common b.value old) b.fresh)
        (pair (filled_place i.first to) first_expr (λ p v. write_form p op common v old) (filled i.first (write_form to op common value old)) false f
        (place_emitters k i to) (emitter k i value ∷ []) code fresh a b
        (λ xs ys e. ap (λ p. write_form p op common (first_expr (drop (length (place_exprs to)) (xs ++ ys))) old) (place_front i.first to xs ys (e ∙ place_count k i to)) ∙
        ap (λ l. write_form (filled_place i.first to xs) op common (first_expr l) old) (drop_front (length (place_exprs to)) xs ys (e ∙ place_count k i to)))
        (is ∙ sym (or-false (emitter k i value).has_call)) first (one false (emitter k i value) a.code a.fresh b second))

    pub binary_done : (op : ℕ) (left right : Expr) (f : Bool) (a b : Made Expr) → f ≡ (emitter k i right).has_call →
        operand_behind code (settled f (emitted k i left fresh)) ≡ a →
        operand_behind a.code (settled false (emitted k i right a.fresh)) ≡ b →
        behind code ((form_emitter k i ty at (binary_form op left right)).emit fresh) ≡ valued b.code (an_expr ty at (binary_form op a.value b.value)) false b.fresh
    binary_done op left right f a b is first second =
        node_done i ty at (binary_form op left right) (emitter k i left ∷ emitter k i right ∷ []) code fresh (made b.code (binary_form op a.value b.value) b.fresh)
        (pair first_expr first_expr (binary_form op) (filled i.first (binary_form op left right)) false f
        (emitter k i left ∷ []) (emitter k i right ∷ []) code fresh a b
        (λ xs ys e. ap (λ v. binary_form op v (first_expr (drop 1 (xs ++ ys)))) (first_front xs ys e) ∙ ap (λ l. binary_form op (first_expr xs) (first_expr l)) (behind_one xs ys e))
        (is ∙ sym (or-false (emitter k i right).has_call)) (operand_done f left a first) (one false (emitter k i right) a.code a.fresh b second))

    pub method_done : (resource count : ℕ) (address : Expr) (value : MaybeExpr) (f : Bool) (a : Made Expr) (b : Made MaybeExpr) → f ≡ any_call (expr_if_emitters k i value) →
        operand_behind code (settled f (emitted k i address fresh)) ≡ a →
        made_behind a.code (filled_expr_if value) (emit_all false (expr_if_emitters k i value) a.fresh) ≡ b →
        behind code ((form_emitter k i ty at (method_form resource count address value)).emit fresh) ≡ valued b.code (an_expr ty at (method_form resource count a.value b.value)) false b.fresh
    method_done resource count address value f a b is first second =
        node_done i ty at (method_form resource count address value) (emitter k i address ∷ expr_if_emitters k i value) code fresh (made b.code (method_form resource count a.value b.value) b.fresh)
        (pair first_expr (filled_expr_if value) (method_form resource count) (filled i.first (method_form resource count address value)) false f
        (emitter k i address ∷ []) (expr_if_emitters k i value) code fresh a b
        (λ xs ys e. ap (λ v. method_form resource count v (filled_expr_if value (drop 1 (xs ++ ys)))) (first_front xs ys e) ∙ ap (λ l. method_form resource count (first_expr xs) (filled_expr_if value l)) (behind_one xs ys e))
        is (operand_done f address a first) second)

    pub choose_done : (cond consequent alternative : Expr) (f g : Bool) (a b d : Made Expr) → g ≡ (emitter k i alternative).has_call → f ≡ ((emitter k i consequent).has_call || g) →
        operand_behind code (settled f (emitted k i cond fresh)) ≡ a →
        operand_behind a.code (settled g (emitted k i consequent a.fresh)) ≡ b →
        operand_behind b.code (settled false (emitted k i alternative b.fresh)) ≡ d →
        behind code ((form_emitter k i ty at (choose_form cond consequent alternative)).emit fresh) ≡ valued d.code (an_expr ty at (choose_form a.value b.value d.value)) false d.fresh
    choose_done cond consequent alternative f g a b d is_g is_f first second third =
        node_done i ty at (choose_form cond consequent alternative) (emitter k i cond ∷ emitter k i consequent ∷ emitter k i alternative ∷ []) code fresh (made d.code (choose_form a.value b.value d.value) d.fresh)
        (pair first_expr two (λ v vs. choose_form v vs.0 vs.1) (filled i.first (choose_form cond consequent alternative)) false f
        (emitter k i cond ∷ []) (emitter k i consequent ∷ emitter k i alternative ∷ []) code fresh a (made d.code (b.value, d.value) d.fresh)
        one_and_two (is_f ∙ ap (λ x. (emitter k i consequent).has_call || x) (is_g ∙ sym (or-false (emitter k i alternative).has_call))) (operand_done f cond a first)
        (pair first_expr first_expr (λ x y. (x, y)) two false g (emitter k i consequent ∷ []) (emitter k i alternative ∷ []) a.code a.fresh b d one_and_one
        (is_g ∙ sym (or-false (emitter k i alternative).has_call)) (one g (emitter k i consequent) a.code a.fresh b second) (one false (emitter k i alternative) b.code b.fresh d third)))
      where
        two : List Expr → Expr × Expr
        two es = (first_expr es, first_expr (drop 1 es))

        one_and_one : (xs ys : List Expr) → length xs ≡ 1 → two (xs ++ ys) ≡ (first_expr xs, first_expr ys)
        one_and_one [] ys e = absurd (omega (arith, e))
        one_and_one (x ∷ []) ys e = refl
        one_and_one (x ∷ y ∷ xs) ys e = absurd (omega (arith, e))

        one_and_two : (xs ys : List Expr) → length xs ≡ 1 → filled i.first (choose_form cond consequent alternative) (xs ++ ys) ≡ choose_form (first_expr xs) (two ys).0 (two ys).1
        one_and_two [] ys e = absurd (omega (arith, e))
        one_and_two (x ∷ []) ys e = refl
        one_and_two (x ∷ y ∷ xs) ys e = absurd (omega (arith, e))

-- atomic operations

pub record AtomicParts : Type 0 where
  pub compare : MaybeExpr
  pub value : Expr
  pub original : MaybeLocation

pub record LastParts : Type 0 where
  pub value : Expr
  pub original : MaybeLocation

abbrev last_parts : (first : ℕ) → MaybeLocation → List Expr → LastParts
last_parts first original es = record { value = first_expr es; original = filled_place_if first original (drop 1 es) }

abbrev atomic_parts : (first : ℕ) → MaybeExpr → MaybeLocation → List Expr → AtomicParts
atomic_parts first compare original es = record {
  compare = filled_expr_if compare es;
  value = first_expr (behind_expr_if compare es);
  original = filled_place_if first original (drop 1 (behind_expr_if compare es));
}

abbrev atomic_of : Option AtomicKind → Target → AtomicParts → Form
atomic_of kind target parts = atomic_form target kind parts.compare parts.value parts.original

abbrev with_compare : MaybeExpr → LastParts → AtomicParts
with_compare compare last = record { compare = compare; value = last.value; original = last.original }

last_apart : (first : ℕ) (original : MaybeLocation) (xs ys : List Expr) → length xs ≡ 1 →
    last_parts first original (xs ++ ys) ≡ record { value = first_expr xs; original = filled_place_if first original ys }
last_apart first original [] ys e = absurd (omega (arith, e))
last_apart first original (x ∷ []) ys e = refl
last_apart first original (x ∷ y ∷ xs) ys e = absurd (omega (arith, e))

compare_apart : (first : ℕ) (compare : MaybeExpr) (original : MaybeLocation) (xs ys : List Expr) → length xs ≡ length (expr_if_list compare) →
    atomic_parts first compare original (xs ++ ys) ≡ with_compare (filled_expr_if compare xs) (last_parts first original ys)
compare_apart first compare original xs ys e =
    ap (λ c. with_compare c (last_parts first original (behind_expr_if compare (xs ++ ys)))) (expr_if_front compare xs ys e) ∙
    ap (λ l. with_compare (filled_expr_if compare xs) (last_parts first original l)) (expr_if_behind compare xs ys e)

atomic_apart : (first : ℕ) (target : Target) (kind : Option AtomicKind) (compare : MaybeExpr) (value : Expr) (original : MaybeLocation) (xs ys : List Expr) → length xs ≡ length (target_exprs target) →
    filled first (atomic_form target kind compare value original) (xs ++ ys) ≡ atomic_of kind (filled_target first target xs) (atomic_parts first compare original ys)
atomic_apart first target kind compare value original xs ys e =
    ap (λ t. atomic_of kind t (atomic_parts first compare original (behind_target target (xs ++ ys)))) (target_front first target xs ys e) ∙
    ap (λ l. atomic_of kind (filled_target first target xs) (atomic_parts first compare original l)) (drop_front (length (target_exprs target)) xs ys e)

pub atomic_done : (k : List Inlined) (i : Instance) (code : List FlatStmt) (fresh : Fresh) (ty : Ty) (at : ℕ)
    (target : Target) (kind : Option AtomicKind) (compare : MaybeExpr) (value : Expr) (original : MaybeLocation) (f g h : Bool)
    (a : Made Target) (b : Made MaybeExpr) (d : Made Expr) (l : Made MaybeLocation) →
    h ≡ any_call (place_if_emitters k i original) → g ≡ ((emitter k i value).has_call || h) → f ≡ (any_call (expr_if_emitters k i compare) || g) →
    made_behind code (filled_target i.first target) (emit_all f (target_emitters k i target) fresh) ≡ a →
    made_behind a.code (filled_expr_if compare) (emit_all g (expr_if_emitters k i compare) a.fresh) ≡ b →
    operand_behind b.code (settled h (emitted k i value b.fresh)) ≡ d →
    made_behind d.code (filled_place_if i.first original) (emit_all false (place_if_emitters k i original) d.fresh) ≡ l →
    behind code ((form_emitter k i ty at (atomic_form target kind compare value original)).emit fresh) ≡ valued l.code (an_expr ty at (atomic_form a.value kind b.value d.value l.value)) false l.fresh
atomic_done k i code fresh ty at target kind compare value original f g h a b d l is_h is_g is_f first second third fourth =
    node_done i ty at (atomic_form target kind compare value original) (target_emitters k i target ++ rest_of_target) code fresh (made l.code (atomic_form a.value kind b.value d.value l.value) l.fresh)
    (pair (filled_target i.first target) (atomic_parts i.first compare original) (atomic_of kind) (filled i.first (atomic_form target kind compare value original)) false f
    (target_emitters k i target) rest_of_target code fresh a (made l.code (record { compare = b.value; value = d.value; original = l.value }) l.fresh)
    (λ xs ys e. atomic_apart i.first target kind compare value original xs ys (e ∙ target_count k i target))
    (is_f ∙ (ap (λ x. any_call (expr_if_emitters k i compare) || x) g_is ∙ sym (any-append (expr_if_emitters k i compare) rest_of_compare))) first
    (pair (filled_expr_if compare) (last_parts i.first original) with_compare (atomic_parts i.first compare original) false g
    (expr_if_emitters k i compare) rest_of_compare a.code a.fresh b (made l.code (record { value = d.value; original = l.value }) l.fresh)
    (λ xs ys e. compare_apart i.first compare original xs ys (e ∙ expr_if_count k i compare)) g_is second
    (pair first_expr (filled_place_if i.first original) (λ v o. record { value = v; original = o }) (last_parts i.first original) false h
    (emitter k i value ∷ []) (place_if_emitters k i original) b.code b.fresh d l
    (λ xs ys e. last_apart i.first original xs ys e) is_h (one h (emitter k i value) b.code b.fresh d third) fourth)))
  where
    rest_of_compare : List Emitter
    rest_of_compare = emitter k i value ∷ place_if_emitters k i original

    rest_of_target : List Emitter
    rest_of_target = expr_if_emitters k i compare ++ rest_of_compare

    g_is : g ≡ any_call (emitter k i value ∷ place_if_emitters k i original)
    g_is = is_g ∙ ap (λ x. (emitter k i value).has_call || x) is_h
