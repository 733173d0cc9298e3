-- A form with other expressions in place of its operands.
use Rattle.std.proofs.Common.{◌≡◌, ◌∙◌, refl, sym, ap, subst, ℕ, suc, ◌+◌, false, List, [], ◌∷◌, ◌++◌, length, drop, take, arith}
use Rattle.std.proofs.lemmas.List.{append-nil, length-append, take-append-drop, length-drop, length-take}
use Rattle.std.proofs.lemmas.Bool.{true≢false}
use Rattle.std.proofs.Math.Seq.{drop-append_seam}
use Rattle.std.specs.List.{concat}
use Rattle.hl_meaning.specs.Trees.{Expr, Form, Location, MaybeExpr, MaybeLocation, PathParts, Target, a_location, atomic_form, binary_form, build_form, bytes_target, call_form, choose_form, constant_root, convert_form, element_root, index_part, intrinsic_form, literal_form, member_part, method_form, more_parts, no_expr, no_location, no_parts, pick_form, place_target, read_form, shared_root, some_expr, some_location, swizzle_part, unary_form, variable_root, write_form, place_type}
use Rattle.hl_meaning.specs.Views.{exprs_of}
use Rattle.typed_laws.proofs.OperandExpressions.{expr_if_list, exprs_list, operand_exprs, place_if_exprs}
use Rattle.hl_inline.specs.Operands.{behind_expr_if, behind_target, filled, filled_expr_if, filled_parts, filled_place, filled_place_if, filled_target, first_expr}
use Rattle.typed_laws.specs.Operands.{parts_exprs, place_exprs, target_exprs}
use Rattle.typed_laws.proofs.OperandValues.{grouped, grouped_atomic, is_call_form}

-- lists of a length

nothing_more : {A : Type 0} (n : ℕ) (x : A) (xs : List A) → length (x ∷ xs) ≡ 0 → n ≡ n → ⊥
nothing_more n x xs e _ = omega (arith, e)

-- a list that is as long as two together, cut in two
pub record Cut {A : Type 0} (n m : ℕ) (xs : List A) : Type 0 where
  pub front : List A
  pub back : List A
  pub whole : xs ≡ front ++ back
  pub front_length : length front ≡ n
  pub back_length : length back ≡ m

pub cut : {A : Type 0} (n m : ℕ) (xs : List A) → length xs ≡ n + m → Cut n m xs
cut n m xs e = record {
  front = take n xs;
  back = drop n xs;
  whole = sym (take-append-drop n xs);
  front_length = length-take n xs ∙ omega (arith, e);
  back_length = length-drop n xs ∙ omega (arith, e);
}

pub one_of : {A : Type 0} (xs : List A) → length xs ≡ 1 → (x : A) × (xs ≡ x ∷ [])
one_of [] e = absurd (omega (arith, e))
one_of (x ∷ []) e = (x, refl)
one_of (x ∷ y ∷ xs) e = absurd (omega (arith, e))

pub none_of : {A : Type 0} (xs : List A) → length xs ≡ 0 → xs ≡ []
none_of [] e = refl
none_of (x ∷ xs) e = absurd (omega (arith, e))

list_of_exprs : (es : List Expr) → exprs_list (exprs_of es) ≡ es
list_of_exprs [] = refl
list_of_exprs (e ∷ es) = ap (λ l. e ∷ l) (list_of_exprs es)

-- what is filled in, with more behind it

parts_filled : (parts : PathParts) (es more : List Expr) → length es ≡ length (parts_exprs parts) → parts_exprs (filled_parts parts (es ++ more)) ≡ es
parts_filled no_parts es more e = sym (none_of es e)
parts_filled (more_parts (index_part index) rest) [] more e = absurd (omega (arith, e))
parts_filled (more_parts (index_part index) rest) (value ∷ es) more e = ap (λ l. value ∷ l) (parts_filled rest es more (omega (arith, e)))
parts_filled (more_parts (member_part number) rest) es more e = parts_filled rest es more e
parts_filled (more_parts (swizzle_part letters) rest) es more e = parts_filled rest es more e

pub place_filled : (first : ℕ) (place : Location) (es more : List Expr) → length es ≡ length (place_exprs place) → place_exprs (filled_place first place (es ++ more)) ≡ es
place_filled first (a_location ty (variable_root number) parts) es more e = parts_filled parts es more e
place_filled first (a_location ty (constant_root number) parts) es more e = parts_filled parts es more e
place_filled first (a_location ty (shared_root number) parts) es more e = parts_filled parts es more e
place_filled first (a_location ty (element_root resource index) parts) [] more e = absurd (omega (arith, e))
place_filled first (a_location ty (element_root resource index) parts) (value ∷ es) more e = ap (λ l. value ∷ l) (parts_filled parts es more (omega (arith, e)))

target_filled : (first : ℕ) (target : Target) (es more : List Expr) → length es ≡ length (target_exprs target) → target_exprs (filled_target first target (es ++ more)) ≡ es
target_filled first (place_target place) es more e = place_filled first place es more e
target_filled first (bytes_target resource address) [] more e = absurd (omega (arith, e))
target_filled first (bytes_target resource address) (value ∷ []) more e = refl
target_filled first (bytes_target resource address) (value ∷ other ∷ es) more e = absurd (omega (arith, e))

expr_if_filled : (value : MaybeExpr) (es more : List Expr) → length es ≡ length (expr_if_list value) → expr_if_list (filled_expr_if value (es ++ more)) ≡ es
expr_if_filled no_expr es more e = sym (none_of es e)
expr_if_filled (some_expr value) [] more e = absurd (omega (arith, e))
expr_if_filled (some_expr value) (x ∷ []) more e = refl
expr_if_filled (some_expr value) (x ∷ y ∷ es) more e = absurd (omega (arith, e))

place_if_filled : (first : ℕ) (place : MaybeLocation) (es : List Expr) → length es ≡ length (place_if_exprs place) → place_if_exprs (filled_place_if first place es) ≡ es
place_if_filled first no_location es e = sym (none_of es e)
place_if_filled first (some_location place) es e =
    ap (λ l. place_exprs (filled_place first place l)) (sym (append-nil es)) ∙ place_filled first place es [] e

behind_expr_if_filled : (value : MaybeExpr) (es more : List Expr) → length es ≡ length (expr_if_list value) → behind_expr_if value (es ++ more) ≡ more
behind_expr_if_filled no_expr es more e = ap (λ l. l ++ more) (none_of es e)
behind_expr_if_filled (some_expr value) [] more e = absurd (omega (arith, e))
behind_expr_if_filled (some_expr value) (x ∷ []) more e = refl
behind_expr_if_filled (some_expr value) (x ∷ y ∷ es) more e = absurd (omega (arith, e))

behind_filled : (n : ℕ) (es more : List Expr) → length es ≡ n → drop n (es ++ more) ≡ more
behind_filled n es more e = subst (λ k. drop k (es ++ more) ≡ more) e (drop-append_seam es more)

-- other expressions as the operands of a form: as many of them, and the form is no call

pub filled_operands : (first : ℕ) (form : Form) (es : List Expr) → is_call_form form ≡ false → length es ≡ length (operand_exprs form) →
    operand_exprs (filled first form es) ≡ es
filled_operands first (literal_form word) es _ e = sym (none_of es e)
filled_operands first (read_form place) es _ e =
    ap (λ l. place_exprs (filled_place first place l)) (sym (append-nil es)) ∙ place_filled first place es [] e
filled_operands first (write_form to op common value old) es _ e = by_cut (cut (length (place_exprs to)) 1 es (e ∙ length-append (place_exprs to) (value ∷ [])))
  where
    whole : (front back : List Expr) → length front ≡ length (place_exprs to) → length back ≡ 1 →
        operand_exprs (filled first (write_form to op common value old) (front ++ back)) ≡ front ++ back
    whole front back f b =
        ap (λ l. l ++ first_expr (drop (length (place_exprs to)) (front ++ back)) ∷ []) (place_filled first to front back f) ∙
        (ap (λ l. front ++ first_expr l ∷ []) (behind_filled (length (place_exprs to)) front back f) ∙
        ap (λ l. front ++ l) (ap (λ l. first_expr l ∷ []) (one_of back b).1 ∙ sym (one_of back b).1))

    by_cut : Cut (length (place_exprs to)) 1 es → operand_exprs (filled first (write_form to op common value old) es) ≡ es
    by_cut c = subst (λ l. operand_exprs (filled first (write_form to op common value old) l) ≡ l) (sym c.whole) (whole c.front c.back c.front_length c.back_length)
filled_operands first (convert_form value) es _ e = ap (λ l. first_expr l ∷ []) (one_of es e).1 ∙ sym (one_of es e).1
filled_operands first (unary_form op value) es _ e = ap (λ l. first_expr l ∷ []) (one_of es e).1 ∙ sym (one_of es e).1
filled_operands first (binary_form op left right) es _ e = two es e
  where
    two : (es : List Expr) → length es ≡ 2 → operand_exprs (filled first (binary_form op left right) es) ≡ es
    two [] e = absurd (omega (arith, e))
    two (a ∷ []) e = absurd (omega (arith, e))
    two (a ∷ b ∷ []) e = refl
    two (a ∷ b ∷ x ∷ es) e = absurd (omega (arith, e))
filled_operands first (choose_form cond consequent alternative) es _ e = three es e
  where
    three : (es : List Expr) → length es ≡ 3 → operand_exprs (filled first (choose_form cond consequent alternative) es) ≡ es
    three [] e = absurd (omega (arith, e))
    three (a ∷ []) e = absurd (omega (arith, e))
    three (a ∷ b ∷ []) e = absurd (omega (arith, e))
    three (a ∷ b ∷ x ∷ []) e = refl
    three (a ∷ b ∷ x ∷ y ∷ es) e = absurd (omega (arith, e))
filled_operands first (build_form parts) es _ e = list_of_exprs es
filled_operands first (pick_form value parts) es _ e = ap (λ l. first_expr l ∷ []) (one_of es e).1 ∙ sym (one_of es e).1
filled_operands first (call_form function args) es e _ = absurd (true≢false e)
filled_operands first (intrinsic_form number args) es _ e = list_of_exprs es
filled_operands first (method_form resource count address value) [] _ e = absurd (omega (arith, e))
filled_operands first (method_form resource count address value) (x ∷ es) _ e =
    ap (λ l. x ∷ l) (ap (λ l. expr_if_list (filled_expr_if value l)) (sym (append-nil es)) ∙ expr_if_filled value es [] (omega (arith, e)))
filled_operands first (atomic_form target kind compare value original) es _ e =
    by_cut (cut (length (target_exprs target)) (length (expr_if_list compare ++ value ∷ place_if_exprs original)) es (e ∙ length-append (target_exprs target) (expr_if_list compare ++ value ∷ place_if_exprs original)))
  where
    last : (middle : List Expr) (x : Expr) (end : List Expr) → length middle ≡ length (expr_if_list compare) → length end ≡ length (place_if_exprs original) →
        (es1 : List Expr) → es1 ≡ middle ++ x ∷ end →
        expr_if_list (filled_expr_if compare es1) ++ first_expr (behind_expr_if compare es1) ∷ place_if_exprs (filled_place_if first original (drop 1 (behind_expr_if compare es1))) ≡ es1
    last middle x end m n es1 is =
        subst (λ l. expr_if_list (filled_expr_if compare l) ++ first_expr (behind_expr_if compare l) ∷ place_if_exprs (filled_place_if first original (drop 1 (behind_expr_if compare l))) ≡ l) (sym is)
        (ap (λ l. expr_if_list (filled_expr_if compare (middle ++ x ∷ end)) ++ first_expr l ∷ place_if_exprs (filled_place_if first original (drop 1 l))) (behind_expr_if_filled compare middle (x ∷ end) m) ∙
        (ap (λ l. l ++ x ∷ place_if_exprs (filled_place_if first original end)) (expr_if_filled compare middle (x ∷ end) m) ∙
        ap (λ l. middle ++ x ∷ l) (place_if_filled first original end n)))

    by_end : (middle end : List Expr) → length middle ≡ length (expr_if_list compare) → length end ≡ suc (length (place_if_exprs original)) → (es1 : List Expr) → es1 ≡ middle ++ end →
        expr_if_list (filled_expr_if compare es1) ++ first_expr (behind_expr_if compare es1) ∷ place_if_exprs (filled_place_if first original (drop 1 (behind_expr_if compare es1))) ≡ es1
    by_end middle [] m n es1 is = absurd (omega (arith, n))
    by_end middle (x ∷ end) m n es1 is = last middle x end m (omega (arith, n)) es1 is

    by_middle : (es1 : List Expr) → Cut (length (expr_if_list compare)) (suc (length (place_if_exprs original))) es1 →
        expr_if_list (filled_expr_if compare es1) ++ first_expr (behind_expr_if compare es1) ∷ place_if_exprs (filled_place_if first original (drop 1 (behind_expr_if compare es1))) ≡ es1
    by_middle es1 c = by_end c.front c.back c.front_length c.back_length es1 c.whole

    whole : (front back : List Expr) → length front ≡ length (target_exprs target) → length back ≡ length (expr_if_list compare ++ value ∷ place_if_exprs original) →
        operand_exprs (filled first (atomic_form target kind compare value original) (front ++ back)) ≡ front ++ back
    whole front back f b =
        ap (λ l. l ++ (expr_if_list (filled_expr_if compare (behind_target target (front ++ back))) ++ first_expr (behind_expr_if compare (behind_target target (front ++ back))) ∷
        place_if_exprs (filled_place_if first original (drop 1 (behind_expr_if compare (behind_target target (front ++ back))))))) (target_filled first target front back f) ∙
        ap (λ l. front ++ l)
        (ap (λ l. expr_if_list (filled_expr_if compare l) ++ first_expr (behind_expr_if compare l) ∷ place_if_exprs (filled_place_if first original (drop 1 (behind_expr_if compare l)))) (behind_filled (length (target_exprs target)) front back f) ∙
        by_middle back (cut (length (expr_if_list compare)) (suc (length (place_if_exprs original))) back (b ∙ length-append (expr_if_list compare) (value ∷ place_if_exprs original))))

    by_cut : Cut (length (target_exprs target)) (length (expr_if_list compare ++ value ∷ place_if_exprs original)) es →
        operand_exprs (filled first (atomic_form target kind compare value original) es) ≡ es
    by_cut c = subst (λ l. operand_exprs (filled first (atomic_form target kind compare value original) l) ≡ l) (sym c.whole) (whole c.front c.back c.front_length c.back_length)

-- a place keeps its type
pub place_type_filled : (first : ℕ) (place : Location) (es : List Expr) → place_type (filled_place first place es) ≡ place_type place
place_type_filled first (a_location ty root parts) es = refl

-- it has as many operands, and they are grouped alike

pub filled_not_call : (first : ℕ) (form : Form) (es : List Expr) → is_call_form form ≡ false → is_call_form (filled first form es) ≡ false
filled_not_call first (literal_form word) es _ = refl
filled_not_call first (read_form place) es _ = refl
filled_not_call first (write_form to op common value old) es _ = refl
filled_not_call first (convert_form value) es _ = refl
filled_not_call first (unary_form op value) es _ = refl
filled_not_call first (binary_form op left right) es _ = refl
filled_not_call first (choose_form cond consequent alternative) es _ = refl
filled_not_call first (build_form parts) es _ = refl
filled_not_call first (pick_form value parts) es _ = refl
filled_not_call first (call_form function args) es e = e
filled_not_call first (intrinsic_form number args) es _ = refl
filled_not_call first (method_form resource count address value) es _ = refl
filled_not_call first (atomic_form target kind compare value original) es _ = refl

parts_count : (parts : PathParts) (es : List Expr) → length (parts_exprs (filled_parts parts es)) ≡ length (parts_exprs parts)
parts_count no_parts es = refl
parts_count (more_parts (index_part index) rest) es = ap suc (parts_count rest (drop 1 es))
parts_count (more_parts (member_part number) rest) es = parts_count rest es
parts_count (more_parts (swizzle_part letters) rest) es = parts_count rest es

pub place_count : (first : ℕ) (place : Location) (es : List Expr) → length (place_exprs (filled_place first place es)) ≡ length (place_exprs place)
place_count first (a_location ty (variable_root number) parts) es = parts_count parts es
place_count first (a_location ty (constant_root number) parts) es = parts_count parts es
place_count first (a_location ty (shared_root number) parts) es = parts_count parts es
place_count first (a_location ty (element_root resource index) parts) es = ap suc (parts_count parts (drop 1 es))

target_count : (first : ℕ) (target : Target) (es : List Expr) → length (target_exprs (filled_target first target es)) ≡ length (target_exprs target)
target_count first (place_target place) es = place_count first place es
target_count first (bytes_target resource address) es = refl

expr_if_count : (value : MaybeExpr) (es : List Expr) → length (expr_if_list (filled_expr_if value es)) ≡ length (expr_if_list value)
expr_if_count no_expr es = refl
expr_if_count (some_expr value) es = refl

pub filled_grouped : (first : ℕ) (form : Form) (es : List Expr) (ws : List (List ℕ)) → grouped (filled first form es) ws ≡ grouped form ws
filled_grouped first (literal_form word) es ws = refl
filled_grouped first (read_form place) es ws = refl
filled_grouped first (write_form to op common value old) es ws = ap (λ n. concat (take n ws) ∷ drop n ws) (place_count first to es)
filled_grouped first (convert_form value) es ws = refl
filled_grouped first (unary_form op value) es ws = refl
filled_grouped first (binary_form op left right) es ws = refl
filled_grouped first (choose_form cond consequent alternative) es ws = refl
filled_grouped first (build_form parts) es ws = refl
filled_grouped first (pick_form value parts) es ws = refl
filled_grouped first (call_form function args) es ws = refl
filled_grouped first (intrinsic_form number args) es ws = refl
filled_grouped first (method_form resource count address value) es ws = refl
filled_grouped first (atomic_form target kind compare value original) es ws =
    ap (λ n. grouped_atomic (length (expr_if_list (filled_expr_if compare (behind_target target es)))) (concat (take n ws)) (drop n ws)) (target_count first target es) ∙
    ap (λ n. grouped_atomic n (concat (take (length (target_exprs target)) ws)) (drop (length (target_exprs target)) ws)) (expr_if_count compare (behind_target target es))
