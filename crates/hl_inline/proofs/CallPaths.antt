-- A path is empty where no call stands in an expression.
use Rattle.std.proofs.Common.{◌≡◌, ◌∙◌, refl, sym, ap, ℕ, Bool, false, ◌||◌, List, [], ◌∷◌, ◌++◌}
use Rattle.hl_meaning.specs.Types.{Ty}
use Rattle.hl_meaning.specs.Trees.{Expr, Exprs, Form, Location, MaybeExpr, MaybeLocation, PathPart, PathParts, Root, Target, a_location, an_expr, atomic_form, binary_form, build_form, bytes_target, call_form, choose_form, constant_root, convert_form, element_root, index_part, intrinsic_form, literal_form, member_part, method_form, more_exprs, more_parts, no_expr, no_exprs, no_location, no_parts, pick_form, place_target, read_form, shared_root, some_expr, some_location, swizzle_part, unary_form, variable_root, write_form}
use Rattle.hl_inline.specs.EmittedExpressions.{emitter, expr_if_emitters, exprs_emitters, form_emitter, part_emitters, parts_emitters, place_emitters, place_if_emitters, root_emitters, target_emitters}
use Rattle.hl_inline.specs.Emitting.{Emitter, any_call}
use Rattle.hl_inline.specs.Fresh.{Instance}
use Rattle.hl_inline.specs.InlinedCalls.{Inlined}
use Rattle.hl_inline.specs.LastCalls.{any_holds, expr_if_path, expr_path, exprs_paths, form_path, holds, part_path, parts_paths, path_among, place_if_path, place_path, root_path, target_path}
use Rattle.hl_inline.proofs.Flags.{any-append, or-false}
use Rattle.hl_inline.proofs.LastCallLemmas.{holds-from}

-- operands of a node

alone : {b : Bool} (e : Emitter) → b ≡ e.has_call → b ≡ any_call (e ∷ [])
alone e is = is ∙ sym (or-false e.has_call)

only : (path : List ℕ) (xs : List Emitter) → holds path ≡ any_call xs → any_holds (path ∷ []) ≡ any_call xs
only path xs is = or-false (holds path) ∙ is

more : (path : List ℕ) (rest : List (List ℕ)) (xs ys : List Emitter) → holds path ≡ any_call xs → any_holds rest ≡ any_call ys → any_holds (path ∷ rest) ≡ any_call (xs ++ ys)
more path rest xs ys first others = ap (λ b. b || any_holds rest) first ∙ (ap (λ b. any_call xs || b) others ∙ sym (any-append xs ys))

module _ (k : List Inlined) (i : Instance) where
  mutual
    pub expr-calls : (e : Expr) → holds (expr_path e) ≡ (emitter k i e).has_call
    expr-calls (an_expr ty at form) = form-calls ty at form

    form-calls : (ty : Ty) (at : ℕ) (form : Form) → holds (form_path form) ≡ (form_emitter k i ty at form).has_call
    form-calls ty at (literal_form word) = refl
    form-calls ty at (read_form place) = place-calls place
    form-calls ty at (write_form to op common value old) =
        holds-from 1 (place_path to ∷ expr_path value ∷ []) ∙
        more (place_path to) (expr_path value ∷ []) (place_emitters k i to) (emitter k i value ∷ []) (place-calls to) (only (expr_path value) (emitter k i value ∷ []) (alone (emitter k i value) (expr-calls value)))
    form-calls ty at (convert_form value) = alone (emitter k i value) (expr-calls value)
    form-calls ty at (unary_form op value) = alone (emitter k i value) (expr-calls value)
    form-calls ty at (binary_form op left right) =
        holds-from 1 (expr_path left ∷ expr_path right ∷ []) ∙
        more (expr_path left) (expr_path right ∷ []) (emitter k i left ∷ []) (emitter k i right ∷ []) (alone (emitter k i left) (expr-calls left)) (only (expr_path right) (emitter k i right ∷ []) (alone (emitter k i right) (expr-calls right)))
    form-calls ty at (choose_form cond consequent alternative) =
        holds-from 1 (expr_path cond ∷ expr_path consequent ∷ expr_path alternative ∷ []) ∙
        more (expr_path cond) (expr_path consequent ∷ expr_path alternative ∷ []) (emitter k i cond ∷ []) (emitter k i consequent ∷ emitter k i alternative ∷ []) (alone (emitter k i cond) (expr-calls cond))
        (more (expr_path consequent) (expr_path alternative ∷ []) (emitter k i consequent ∷ []) (emitter k i alternative ∷ []) (alone (emitter k i consequent) (expr-calls consequent))
        (only (expr_path alternative) (emitter k i alternative ∷ []) (alone (emitter k i alternative) (expr-calls alternative))))
    form-calls ty at (build_form parts) = holds-from 1 (exprs_paths parts) ∙ exprs-calls parts
    form-calls ty at (pick_form value parts) = alone (emitter k i value) (expr-calls value)
    form-calls ty at (call_form function args) = refl
    form-calls ty at (intrinsic_form number args) = holds-from 1 (exprs_paths args) ∙ exprs-calls args
    form-calls ty at (method_form resource count address value) =
        holds-from 1 (expr_path address ∷ expr_if_path value ∷ []) ∙
        more (expr_path address) (expr_if_path value ∷ []) (emitter k i address ∷ []) (expr_if_emitters k i value) (alone (emitter k i address) (expr-calls address)) (only (expr_if_path value) (expr_if_emitters k i value) (expr_if-calls value))
    form-calls ty at (atomic_form target kind compare value original) =
        holds-from 1 (target_path target ∷ expr_if_path compare ∷ expr_path value ∷ place_if_path original ∷ []) ∙
        more (target_path target) (expr_if_path compare ∷ expr_path value ∷ place_if_path original ∷ []) (target_emitters k i target) (expr_if_emitters k i compare ++ emitter k i value ∷ place_if_emitters k i original) (target-calls target)
        (more (expr_if_path compare) (expr_path value ∷ place_if_path original ∷ []) (expr_if_emitters k i compare) (emitter k i value ∷ place_if_emitters k i original) (expr_if-calls compare)
        (more (expr_path value) (place_if_path original ∷ []) (emitter k i value ∷ []) (place_if_emitters k i original) (alone (emitter k i value) (expr-calls value))
        (only (place_if_path original) (place_if_emitters k i original) (place_if-calls original))))

    pub exprs-calls : (es : Exprs) → any_holds (exprs_paths es) ≡ any_call (exprs_emitters k i es)
    exprs-calls no_exprs = refl
    exprs-calls (more_exprs first rest) =
        more (expr_path first) (exprs_paths rest) (emitter k i first ∷ []) (exprs_emitters k i rest) (alone (emitter k i first) (expr-calls first)) (exprs-calls rest)

    place-calls : (place : Location) → holds (place_path place) ≡ any_call (place_emitters k i place)
    place-calls (a_location ty root parts) =
        holds-from 1 (root_path root ∷ parts_paths parts) ∙ more (root_path root) (parts_paths parts) (root_emitters k i root) (parts_emitters k i parts) (root-calls root) (parts-calls parts)

    root-calls : (root : Root) → holds (root_path root) ≡ any_call (root_emitters k i root)
    root-calls (variable_root number) = refl
    root-calls (constant_root number) = refl
    root-calls (shared_root number) = refl
    root-calls (element_root resource index) = alone (emitter k i index) (expr-calls index)

    pub parts-calls : (parts : PathParts) → any_holds (parts_paths parts) ≡ any_call (parts_emitters k i parts)
    parts-calls no_parts = refl
    parts-calls (more_parts first rest) = more (part_path first) (parts_paths rest) (part_emitters k i first) (parts_emitters k i rest) (part-calls first) (parts-calls rest)

    part-calls : (part : PathPart) → holds (part_path part) ≡ any_call (part_emitters k i part)
    part-calls (member_part number) = refl
    part-calls (index_part index) = alone (emitter k i index) (expr-calls index)
    part-calls (swizzle_part letters) = refl

    target-calls : (target : Target) → holds (target_path target) ≡ any_call (target_emitters k i target)
    target-calls (place_target place) = place-calls place
    target-calls (bytes_target resource address) = alone (emitter k i address) (expr-calls address)

    pub expr_if-calls : (value : MaybeExpr) → holds (expr_if_path value) ≡ any_call (expr_if_emitters k i value)
    expr_if-calls no_expr = refl
    expr_if-calls (some_expr value) = alone (emitter k i value) (expr-calls value)

    pub place_if-calls : (place : MaybeLocation) → holds (place_if_path place) ≡ any_call (place_if_emitters k i place)
    place_if-calls no_location = refl
    place_if-calls (some_location place) = place-calls place
