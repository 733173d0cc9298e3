-- What becomes of forms, by what becomes of their operands.
use Rattle.std.proofs.Common.{◌≡◌, ◌∙◌, refl, sym, ap, ℕ, false, List, [], ◌∷◌, ◌++◌, map}
use Rattle.std.proofs.lemmas.List.{map-append}
use Rattle.std.proofs.lemmas.Bool.{true≢false}
use Rattle.hl_meaning.specs.Types.{Ty}
use Rattle.hl_meaning.specs.Trees.{Expr, Exprs, Form, Location, MaybeExpr, MaybeLocation, PathParts, Target, a_location, atomic_form, binary_form, build_form, bytes_target, call_form, choose_form, constant_root, convert_form, element_root, index_part, intrinsic_form, literal_form, member_part, method_form, more_exprs, more_parts, no_expr, no_exprs, no_location, no_parts, pick_form, place_target, read_form, shared_root, some_expr, some_location, swizzle_part, unary_form, variable_root, write_form, Args, more_args, no_args, place_arg, value_arg}
use Rattle.typed_laws.proofs.OperandExpressions.{expr_if_list, exprs_list, operand_exprs, place_if_exprs}
use Rattle.typed_laws.proofs.OperandValues.{is_call_form}
use Rattle.typed_laws.specs.Operands.{parts_exprs, place_exprs, target_exprs}
use Rattle.hl_inline.specs.EmittedExpressions.{args_emitters, emitter, expr_if_emitters, exprs_emitters, form_emitter, node, parts_emitters, place_emitters, place_if_emitters, target_emitters}
use Rattle.hl_inline.specs.Emitting.{Emitter}
use Rattle.hl_inline.specs.Fresh.{Instance}
use Rattle.hl_inline.specs.InlinedCalls.{Argument, Inlined, place_argument, value_argument}

-- what becomes of the operands is what becomes of their expressions

expr_emitters_all : (k : List Inlined) (i : Instance) (es : Exprs) → exprs_emitters k i es ≡ map (emitter k i) (exprs_list es)
expr_emitters_all k i no_exprs = refl
expr_emitters_all k i (more_exprs first rest) = ap (λ es. emitter k i first ∷ es) (expr_emitters_all k i rest)

expr_if_emitters_all : (k : List Inlined) (i : Instance) (value : MaybeExpr) → expr_if_emitters k i value ≡ map (emitter k i) (expr_if_list value)
expr_if_emitters_all k i no_expr = refl
expr_if_emitters_all k i (some_expr value) = refl

parts_emitters_all : (k : List Inlined) (i : Instance) (parts : PathParts) → parts_emitters k i parts ≡ map (emitter k i) (parts_exprs parts)
parts_emitters_all k i no_parts = refl
parts_emitters_all k i (more_parts (index_part index) rest) = ap (λ es. emitter k i index ∷ es) (parts_emitters_all k i rest)
parts_emitters_all k i (more_parts (member_part number) rest) = parts_emitters_all k i rest
parts_emitters_all k i (more_parts (swizzle_part letters) rest) = parts_emitters_all k i rest

pub place_emitters_all : (k : List Inlined) (i : Instance) (place : Location) → place_emitters k i place ≡ map (emitter k i) (place_exprs place)
place_emitters_all k i (a_location ty (variable_root number) parts) = parts_emitters_all k i parts
place_emitters_all k i (a_location ty (constant_root number) parts) = parts_emitters_all k i parts
place_emitters_all k i (a_location ty (shared_root number) parts) = parts_emitters_all k i parts
place_emitters_all k i (a_location ty (element_root resource index) parts) = ap (λ es. emitter k i index ∷ es) (parts_emitters_all k i parts)

place_if_emitters_all : (k : List Inlined) (i : Instance) (place : MaybeLocation) → place_if_emitters k i place ≡ map (emitter k i) (place_if_exprs place)
place_if_emitters_all k i no_location = refl
place_if_emitters_all k i (some_location place) = place_emitters_all k i place

target_emitters_all : (k : List Inlined) (i : Instance) (target : Target) → target_emitters k i target ≡ map (emitter k i) (target_exprs target)
target_emitters_all k i (place_target place) = place_emitters_all k i place
target_emitters_all k i (bytes_target resource address) = refl

-- what becomes of arguments, given what becomes of their expressions
abbrev pub args_by : (Expr → Emitter) → Args → List Argument
args_by em no_args = []
args_by em (more_args (value_arg value) rest) = value_argument (em value) ∷ args_by em rest
args_by em (more_args (place_arg place) rest) = place_argument place (map em (place_exprs place)) ∷ args_by em rest

pub args_emitters_all : (k : List Inlined) (i : Instance) (args : Args) → args_emitters k i args ≡ args_by (emitter k i) args
args_emitters_all k i no_args = refl
args_emitters_all k i (more_args (value_arg value) rest) = ap (λ l. value_argument (emitter k i value) ∷ l) (args_emitters_all k i rest)
args_emitters_all k i (more_args (place_arg place) rest) =
    ap (λ es. place_argument place es ∷ args_emitters k i rest) (place_emitters_all k i place) ∙
    ap (λ l. place_argument place (map (emitter k i) (place_exprs place)) ∷ l) (args_emitters_all k i rest)

map_both : {A B : Type 0} (f : A → B) (xs ys : List A) (us vs : List B) → us ≡ map f xs → vs ≡ map f ys → us ++ vs ≡ map f (xs ++ ys)
map_both f xs ys us vs e e' = ap (λ l. l ++ vs) e ∙ (ap (λ l. map f xs ++ l) e' ∙ sym (map-append f xs ys))

pub form_emitter_all : (k : List Inlined) (i : Instance) (ty : Ty) (at : ℕ) (form : Form) → is_call_form form ≡ false →
    form_emitter k i ty at form ≡ node i ty at form (map (emitter k i) (operand_exprs form))
form_emitter_all k i ty at (literal_form word) _ = refl
form_emitter_all k i ty at (read_form place) _ = ap (node i ty at (read_form place)) (place_emitters_all k i place)
form_emitter_all k i ty at (write_form to op common value old) _ =
    ap (node i ty at (write_form to op common value old)) (map_both (emitter k i) (place_exprs to) (value ∷ []) _ _ (place_emitters_all k i to) refl)
form_emitter_all k i ty at (convert_form value) _ = refl
form_emitter_all k i ty at (unary_form op value) _ = refl
form_emitter_all k i ty at (binary_form op left right) _ = refl
form_emitter_all k i ty at (choose_form cond consequent alternative) _ = refl
form_emitter_all k i ty at (build_form parts) _ = ap (node i ty at (build_form parts)) (expr_emitters_all k i parts)
form_emitter_all k i ty at (pick_form value parts) _ = refl
form_emitter_all k i ty at (call_form function args) e = absurd (true≢false e)
form_emitter_all k i ty at (intrinsic_form number args) _ = ap (node i ty at (intrinsic_form number args)) (expr_emitters_all k i args)
form_emitter_all k i ty at (method_form resource count address value) _ =
    ap (λ es. node i ty at (method_form resource count address value) (emitter k i address ∷ es)) (expr_if_emitters_all k i value)
form_emitter_all k i ty at (atomic_form target kind compare value original) _ =
    ap (node i ty at (atomic_form target kind compare value original))
    (map_both (emitter k i) (target_exprs target) (expr_if_list compare ++ value ∷ place_if_exprs original) _ _ (target_emitters_all k i target)
    (map_both (emitter k i) (expr_if_list compare) (value ∷ place_if_exprs original) _ _ (expr_if_emitters_all k i compare)
    (ap (λ es. emitter k i value ∷ es) (place_if_emitters_all k i original))))
