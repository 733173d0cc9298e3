-- The operands of a form are its expressions, evaluated in order.
use Rattle.std.proofs.Common.{◌≡◌, ◌∙◌, refl, sym, ap, subst, ℕ, suc, Bool, true, false, List, [], ◌∷◌, ◌++◌, length, drop, take}
use Rattle.std.proofs.lemmas.Bool.{true≢false}
use Rattle.std.proofs.Math.Seq.{drop-append_seam, take-append_seam}
use Rattle.std.specs.List.{concat}
use Rattle.hl_meaning.specs.Trees.{Expr, Exprs, Form, Location, MaybeExpr, MaybeLocation, PathParts, Root, Target, a_location, atomic_form, binary_form, build_form, bytes_target, call_form, choose_form, constant_root, convert_form, element_root, index_part, intrinsic_form, literal_form, member_part, method_form, more_exprs, more_parts, no_expr, no_exprs, no_location, no_parts, pick_form, place_target, read_form, shared_root, some_expr, some_location, swizzle_part, unary_form, variable_root, write_form}
use Rattle.hl_source.specs.State.{Context, Progress, State, after, alone, each, first_then, goes_with, joined}
use Rattle.hl_source.specs.Expressions.{evaluates, indexes, indexes_if, operands, root_index, step_indexes, target_indexes, value_if, values, values_if}
use Rattle.typed_laws.specs.Operands.{parts_exprs, place_exprs, root_exprs, target_exprs}
use Rattle.typed_laws.proofs.OperandExpressions.{expr_if_list, exprs_list, operand_exprs, place_if_exprs}
use Rattle.typed_laws.proofs.ProgressLemmas.{after_assoc, after_cong, after_giving, concat_append, concat_one, each_append, giving, giving_after, giving_cong, giving_giving, giving_same}

abbrev pub is_call_form : Form → Bool
is_call_form (call_form function args) = true
is_call_form _ = false

-- expressions in order
abbrev pub evaluate_all : Context → List Expr → State → Progress (List (List ℕ))
evaluate_all c es s = each (evaluates c) es s

values_all : (c : Context) (es : Exprs) (s : State) → values c es s ≡ evaluate_all c (exprs_list es) s
values_all c no_exprs s = refl
values_all c (more_exprs first rest) s = after_cong (evaluates c first s) _ _ (λ w s1. ap (giving (λ ws. w ∷ ws)) (values_all c rest s1))

root_all : (c : Context) (root : Root) (s : State) → root_index c root s ≡ giving concat (evaluate_all c (root_exprs root) s)
root_all c (variable_root number) s = refl
root_all c (constant_root number) s = refl
root_all c (shared_root number) s = refl
root_all c (element_root resource index) s =
    sym (after_giving (λ w. w ∷ []) (evaluates c index s) (λ ws s1. goes_with (concat ws) s1) ∙
    (giving_same (λ w. concat (w ∷ [])) concat_one (evaluates c index s)))

-- the words of the indexes of two lists
joined_all : (c : Context) (xs ys : List Expr) (s : State) →
    joined (giving concat (evaluate_all c xs s)) (λ s1. giving concat (evaluate_all c ys s1)) ≡ giving concat (evaluate_all c (xs ++ ys) s)
joined_all c xs ys s =
    after_giving concat (evaluate_all c xs s) _ ∙
    (after_cong (evaluate_all c xs s) _ _ (λ first s1.
    giving_giving concat (λ more. concat first ++ more) (evaluate_all c ys s1) ∙
    (giving_cong (λ rest. concat first ++ concat rest) (λ rest. concat (first ++ rest)) (λ rest. sym (concat_append first rest)) (evaluate_all c ys s1) ∙
    sym (giving_giving (λ rest. first ++ rest) concat (evaluate_all c ys s1)))) ∙
    (sym (giving_after concat (evaluate_all c xs s) _) ∙ ap (giving concat) (sym (each_append (evaluates c) xs ys s))))

steps_all : (c : Context) (parts : PathParts) (s : State) → step_indexes c parts s ≡ giving concat (evaluate_all c (parts_exprs parts) s)
steps_all c no_parts s = refl
steps_all c (more_parts (index_part index) rest) s =
    ap (λ p. joined p (λ s1. step_indexes c rest s1)) (root_all c (element_root 0 index) s) ∙
    (after_cong (giving concat (evaluate_all c (index ∷ []) s)) _ _ (λ first s1. ap (giving (λ more. first ++ more)) (steps_all c rest s1)) ∙
    joined_all c (index ∷ []) (parts_exprs rest) s)
steps_all c (more_parts (member_part number) rest) s =
    giving_same (λ more. more) (λ more. refl) (step_indexes c rest s) ∙ steps_all c rest s
steps_all c (more_parts (swizzle_part letters) rest) s =
    giving_same (λ more. more) (λ more. refl) (step_indexes c rest s) ∙ steps_all c rest s

pub indexes_all : (c : Context) (place : Location) (s : State) → indexes c place s ≡ giving concat (evaluate_all c (place_exprs place) s)
indexes_all c (a_location ty root parts) s =
    ap (λ p. joined p (λ s1. step_indexes c parts s1)) (root_all c root s) ∙
    (after_cong (giving concat (evaluate_all c (root_exprs root) s)) _ _ (λ first s1. ap (giving (λ more. first ++ more)) (steps_all c parts s1)) ∙
    joined_all c (root_exprs root) (parts_exprs parts) s)

-- the operands of an atomic operation behind its target: how many words' lists the compared value has, none or one
abbrev pub grouped_atomic : (compared : ℕ) → (at : List ℕ) → List (List ℕ) → List (List ℕ)
grouped_atomic compared at ws = at ∷ concat (take compared ws) ∷ concat (take 1 (drop compared ws)) ∷ concat (drop 1 (drop compared ws)) ∷ []

-- how the words of the operands' expressions are grouped: the indexes of a place are one operand
abbrev pub grouped : Form → List (List ℕ) → List (List ℕ)
grouped (literal_form word) ws = []
grouped (read_form place) ws = concat ws ∷ []
grouped (write_form to op common value old) ws = concat (take (length (place_exprs to)) ws) ∷ drop (length (place_exprs to)) ws
grouped (atomic_form target kind compare value original) ws =
    grouped_atomic (length (expr_if_list compare)) (concat (take (length (target_exprs target)) ws)) (drop (length (target_exprs target)) ws)
grouped form ws = ws

target_all : (c : Context) (target : Target) (s : State) → target_indexes c target s ≡ giving concat (evaluate_all c (target_exprs target) s)
target_all c (place_target place) s = indexes_all c place s
target_all c (bytes_target resource address) s = root_all c (element_root resource address) s

value_if_all : (c : Context) (value : MaybeExpr) (s : State) → value_if c value s ≡ giving concat (evaluate_all c (expr_if_list value) s)
value_if_all c no_expr s = refl
value_if_all c (some_expr value) s = root_all c (element_root 0 value) s

values_if_all : (c : Context) (value : MaybeExpr) (s : State) → values_if c value s ≡ evaluate_all c (expr_if_list value) s
values_if_all c no_expr s = refl
values_if_all c (some_expr value) s = refl

indexes_if_all : (c : Context) (place : MaybeLocation) (s : State) → indexes_if c place s ≡ giving concat (evaluate_all c (place_if_exprs place) s)
indexes_if_all c no_location s = refl
indexes_if_all c (some_location place) s = indexes_all c place s

-- as many parts as there are
each_cong_length : {A B C : Type 0} (part : A → State → Progress B) (xs : List A) (s : State) (f g : List B → State → Progress C) →
    ((ws : List B) (s1 : State) → length ws ≡ length xs → f ws s1 ≡ g ws s1) → after (each part xs s) f ≡ after (each part xs s) g
each_cong_length part [] s f g h = h [] s refl
each_cong_length part (x ∷ xs) s f g h =
    after_assoc (part x s) _ f ∙
    (after_cong (part x s) _ _ (λ w s1. after_giving (λ ws. w ∷ ws) (each part xs s1) f ∙
    (each_cong_length part xs s1 (λ ws. f (w ∷ ws)) (λ ws. g (w ∷ ws)) (λ ws s2 e. h (w ∷ ws) s2 (ap suc e)) ∙
    sym (after_giving (λ ws. w ∷ ws) (each part xs s1) g))) ∙
    sym (after_assoc (part x s) _ g))

take_front : {A : Type 0} (n : ℕ) (xs ys : List A) → length xs ≡ n → take n (xs ++ ys) ≡ xs
take_front n xs ys e = subst (λ k. take k (xs ++ ys) ≡ xs) e (take-append_seam xs ys)

drop_front : {A : Type 0} (n : ℕ) (xs ys : List A) → length xs ≡ n → drop n (xs ++ ys) ≡ ys
drop_front n xs ys e = subst (λ k. drop k (xs ++ ys) ≡ ys) e (drop-append_seam xs ys)

-- two lists of expressions, whose words are grouped apart
apart_all : {A : Type 0} (c : Context) (n : ℕ) (xs ys : List Expr) (s : State) (h : List (List ℕ) → List (List ℕ) → A) → length xs ≡ n →
    after (evaluate_all c xs s) (λ first s1. giving (h first) (evaluate_all c ys s1)) ≡
    giving (λ ws. h (take n ws) (drop n ws)) (evaluate_all c (xs ++ ys) s)
apart_all c n xs ys s h e =
    each_cong_length (evaluates c) xs s _ _ (λ first s1 is.
    giving_cong (h first) (λ rest. h (take n (first ++ rest)) (drop n (first ++ rest)))
    (λ rest. ap (λ f. h f rest) (sym (take_front n first rest (is ∙ e))) ∙ ap (h (take n (first ++ rest))) (sym (drop_front n first rest (is ∙ e))))
    (evaluate_all c ys s1) ∙
    sym (giving_giving (λ rest. first ++ rest) (λ ws. h (take n ws) (drop n ws)) (evaluate_all c ys s1))) ∙
    (sym (giving_after (λ ws. h (take n ws) (drop n ws)) (evaluate_all c xs s) _) ∙
    ap (giving (λ ws. h (take n ws) (drop n ws))) (sym (each_append (evaluates c) xs ys s)))

-- an operand of several indexes, and then the others
then_all : (c : Context) (first : Progress (List ℕ)) (rest : State → Progress (List (List ℕ))) (xs ys : List Expr) (h : List (List ℕ) → List (List ℕ)) (n : ℕ) (s : State) →
    length xs ≡ n → first ≡ giving concat (evaluate_all c xs s) → ((s1 : State) → rest s1 ≡ giving h (evaluate_all c ys s1)) →
    first_then first rest ≡ giving (λ ws. concat (take n ws) ∷ h (drop n ws)) (evaluate_all c (xs ++ ys) s)
then_all c first rest xs ys h n s e is behind =
    ap (λ p. first_then p rest) is ∙
    (after_giving concat (evaluate_all c xs s) _ ∙
    (after_cong (evaluate_all c xs s) _ _ (λ ws s1. ap (giving (λ more. concat ws ∷ more)) (behind s1) ∙ giving_giving h (λ more. concat ws ∷ more) (evaluate_all c ys s1)) ∙
    apart_all c n xs ys s (λ ws more. concat ws ∷ h more) e))

alone_all : (c : Context) (value : Expr) (s : State) → evaluates c value s ≡ giving concat (evaluate_all c (value ∷ []) s)
alone_all c value s = root_all c (element_root 0 value) s

alone_place_all : (c : Context) (place : Location) (s : State) → alone (indexes c place s) ≡ giving (λ ws. concat ws ∷ []) (evaluate_all c (place_exprs place) s)
alone_place_all c place s = ap alone (indexes_all c place s) ∙ giving_giving concat (λ w. w ∷ []) (evaluate_all c (place_exprs place) s)

same_all : (c : Context) (es : List Expr) (s : State) → evaluate_all c es s ≡ giving (λ ws. ws) (evaluate_all c es s)
same_all c es s = sym (giving_same (λ ws. ws) (λ ws. refl) (evaluate_all c es s))

-- the operands of a form are its expressions in order
pub operands_all : (c : Context) (form : Form) (s : State) → is_call_form form ≡ false → operands c form s ≡ giving (grouped form) (evaluate_all c (operand_exprs form) s)
operands_all c (literal_form word) s _ = refl
operands_all c (read_form place) s _ = alone_place_all c place s
operands_all c (write_form to op common value old) s _ =
    then_all c (indexes c to s) (λ s1. alone (evaluates c value s1)) (place_exprs to) (value ∷ []) (λ ws. ws) (length (place_exprs to)) s refl (indexes_all c to s)
    (λ s1. same_all c (value ∷ []) s1)
operands_all c (convert_form value) s _ = same_all c (value ∷ []) s
operands_all c (unary_form op value) s _ = same_all c (value ∷ []) s
operands_all c (binary_form op left right) s _ = same_all c (left ∷ right ∷ []) s
operands_all c (choose_form cond consequent alternative) s _ = same_all c (cond ∷ consequent ∷ alternative ∷ []) s
operands_all c (build_form parts) s _ = values_all c parts s ∙ same_all c (exprs_list parts) s
operands_all c (pick_form value parts) s _ = same_all c (value ∷ []) s
operands_all c (call_form function args) s e = absurd (true≢false e)
operands_all c (intrinsic_form number args) s _ = values_all c args s ∙ same_all c (exprs_list args) s
operands_all c (method_form resource count address value) s _ =
    after_cong (evaluates c address s) _ _ (λ w s1. ap (giving (λ ws. w ∷ ws)) (values_if_all c value s1)) ∙ same_all c (address ∷ expr_if_list value) s
operands_all c (atomic_form target kind compare value original) s _ =
    then_all c (target_indexes c target s) _ (target_exprs target) (expr_if_list compare ++ value ∷ place_if_exprs original) _ (length (target_exprs target)) s refl (target_all c target s) (λ s1.
    then_all c (value_if c compare s1) _ (expr_if_list compare) (value ∷ place_if_exprs original) _ (length (expr_if_list compare)) s1 refl (value_if_all c compare s1) (λ s2.
    then_all c (evaluates c value s2) _ (value ∷ []) (place_if_exprs original) _ 1 s2 refl (alone_all c value s2) (λ s3.
    ap alone (indexes_if_all c original s3) ∙ giving_giving concat (λ w. w ∷ []) (evaluate_all c (place_if_exprs original) s3))))
