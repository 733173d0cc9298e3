-- The places of a form, and the same of the form over other expressions.
use Rattle.std.proofs.Common.{◌≡◌, ◌∙◌, refl, sym, ap, subst, ℕ, ◌+◌, ◌<◌, ◌≤◌, ◌⊎◌, inl, inr, Bool, true, false, List, [], ◌∷◌, ◌++◌, length, append_assoc, arith}
use Rattle.std.specs.Prelude.{◌||◌, ◌==◌, ◌&&◌, not, drop}
use Rattle.std.specs.List.{list_any}
use Rattle.std.proofs.lemmas.Bool.{and_parts, cases_eq, eq-eqb, eqb-true, false≢true, ne_eqb, true≢false}
use Rattle.std.proofs.lemmas.List.{append-nil}
use Rattle.std.proofs.lemmas.List.Folds.{list_any-append}
use Rattle.std.proofs.lemmas.List.Sorted.{IsPermutation-refl}
use Rattle.hl_meaning.specs.Trees.{Expr, Exprs, Form, Location, MaybeExpr, MaybeLocation, PathParts, Root, Target, a_location, an_expr, atomic_form, binary_form, build_form, bytes_target, call_form, choose_form, constant_root, convert_form, element_root, index_part, intrinsic_form, literal_form, member_part, method_form, more_exprs, more_parts, no_expr, no_exprs, no_location, no_parts, pick_form, place_target, read_form, shared_root, some_expr, some_location, swizzle_part, unary_form, variable_root, write_form}
use Rattle.hl_meaning.specs.Programs.{StructDef, Variable}
use Rattle.hl_meaning.specs.Places.{has_literal_indexes, is_literal}
use Rattle.hl_inline.specs.IndexedVariables.{CallTree}
use Rattle.hl_inline.specs.Occurrences.{Occurrence, expr_if_occurrences, expr_occurrences, exprs_occurrences, form_occurrences, location_if_occurrences, location_occurrences, parts_occurrences, place_occurrence, target_occurrences}
use Rattle.typed_laws.proofs.OperandExpressions.{expr_if_list, exprs_list, operand_exprs, place_if_exprs}
use Rattle.hl_inline.specs.Operands.{filled_parts, filled_place}
use Rattle.typed_laws.specs.Operands.{parts_exprs, place_exprs, target_exprs}
use Rattle.typed_laws.proofs.OperandValues.{is_call_form}
use Rattle.hl_inline.proofs.Touching.{Touches, any_moved, or_false, touched, touches_moved}

-- ---- occurrences

-- the places and calls in some expressions
abbrev pub list_occurrences : List Expr → List Occurrence
list_occurrences [] = []
list_occurrences (e ∷ es) = expr_occurrences e ++ list_occurrences es

pub list_occurrences-append : (xs ys : List Expr) → list_occurrences (xs ++ ys) ≡ list_occurrences xs ++ list_occurrences ys
list_occurrences-append [] ys = refl
list_occurrences-append (x ∷ xs) ys = ap (λ l. expr_occurrences x ++ l) (list_occurrences-append xs ys) ∙ sym (append_assoc (expr_occurrences x) (list_occurrences xs) (list_occurrences ys))

-- a place itself, without its indexes
abbrev pub own_place : Location → List Occurrence
own_place (a_location ty root parts) = place_occurrence root parts ∷ []

abbrev pub own_target : Target → List Occurrence
own_target (place_target place) = own_place place
own_target (bytes_target resource address) = []

abbrev pub own_place_if : MaybeLocation → List Occurrence
own_place_if no_location = []
own_place_if (some_location place) = own_place place

-- the places of a form, without what its operands hold
abbrev pub own_places : Form → List Occurrence
own_places (read_form place) = own_place place
own_places (write_form to op common value old) = own_place to
own_places (atomic_form target kind compare value original) = own_target target ++ own_place_if original
own_places _ = []

parts_occurrences_are : (parts : PathParts) → parts_occurrences parts ≡ list_occurrences (parts_exprs parts)
parts_occurrences_are no_parts = refl
parts_occurrences_are (more_parts (index_part index) rest) = ap (λ l. expr_occurrences index ++ l) (parts_occurrences_are rest)
parts_occurrences_are (more_parts (member_part number) rest) = parts_occurrences_are rest
parts_occurrences_are (more_parts (swizzle_part letters) rest) = parts_occurrences_are rest

pub place_occurrences_are : (place : Location) → location_occurrences place ≡ own_place place ++ list_occurrences (place_exprs place)
place_occurrences_are (a_location ty (variable_root number) parts) = ap (λ l. place_occurrence (variable_root number) parts ∷ l) (parts_occurrences_are parts)
place_occurrences_are (a_location ty (constant_root number) parts) = ap (λ l. place_occurrence (constant_root number) parts ∷ l) (parts_occurrences_are parts)
place_occurrences_are (a_location ty (shared_root number) parts) = ap (λ l. place_occurrence (shared_root number) parts ∷ l) (parts_occurrences_are parts)
place_occurrences_are (a_location ty (element_root resource index) parts) = ap (λ l. place_occurrence (element_root resource index) parts ∷ (expr_occurrences index ++ l)) (parts_occurrences_are parts)

place_if_occurrences_are : (place : MaybeLocation) → location_if_occurrences place ≡ own_place_if place ++ list_occurrences (place_if_exprs place)
place_if_occurrences_are no_location = refl
place_if_occurrences_are (some_location place) = place_occurrences_are place

target_occurrences_are : (target : Target) → target_occurrences target ≡ own_target target ++ list_occurrences (target_exprs target)
target_occurrences_are (place_target place) = place_occurrences_are place
target_occurrences_are (bytes_target resource address) = sym (append-nil (expr_occurrences address))

expr_if_occurrences_are : (value : MaybeExpr) → expr_if_occurrences value ≡ list_occurrences (expr_if_list value)
expr_if_occurrences_are no_expr = refl
expr_if_occurrences_are (some_expr value) = sym (append-nil (expr_occurrences value))

exprs_occurrences_are : (es : Exprs) → exprs_occurrences es ≡ list_occurrences (exprs_list es)
exprs_occurrences_are no_exprs = refl
exprs_occurrences_are (more_exprs first rest) = ap (λ l. expr_occurrences first ++ l) (exprs_occurrences_are rest)

-- nothing occurs in literals
literal_occurrences_are : (e : Expr) → is_literal e ≡ true → expr_occurrences e ≡ []
literal_occurrences_are (an_expr ty at (literal_form word)) h = refl
literal_occurrences_are (an_expr ty at (read_form place)) h = absurd (false≢true h)
literal_occurrences_are (an_expr ty at (write_form to op common value old)) h = absurd (false≢true h)
literal_occurrences_are (an_expr ty at (convert_form value)) h = absurd (false≢true h)
literal_occurrences_are (an_expr ty at (unary_form op value)) h = absurd (false≢true h)
literal_occurrences_are (an_expr ty at (binary_form op left right)) h = absurd (false≢true h)
literal_occurrences_are (an_expr ty at (choose_form cond consequent alternative)) h = absurd (false≢true h)
literal_occurrences_are (an_expr ty at (build_form parts)) h = absurd (false≢true h)
literal_occurrences_are (an_expr ty at (pick_form value parts)) h = absurd (false≢true h)
literal_occurrences_are (an_expr ty at (call_form function args)) h = absurd (false≢true h)
literal_occurrences_are (an_expr ty at (intrinsic_form number args)) h = absurd (false≢true h)
literal_occurrences_are (an_expr ty at (method_form resource count address value)) h = absurd (false≢true h)
literal_occurrences_are (an_expr ty at (atomic_form target kind compare value original)) h = absurd (false≢true h)

literal_parts_occurrences_are : (parts : PathParts) → has_literal_indexes parts ≡ true → parts_occurrences parts ≡ []
literal_parts_occurrences_are no_parts h = refl
literal_parts_occurrences_are (more_parts (index_part index) rest) h =
    let both = and_parts (is_literal index) (has_literal_indexes rest) h in
    ap (λ l. l ++ parts_occurrences rest) (literal_occurrences_are index both.0) ∙ literal_parts_occurrences_are rest both.1
literal_parts_occurrences_are (more_parts (member_part number) rest) h = literal_parts_occurrences_are rest h
literal_parts_occurrences_are (more_parts (swizzle_part letters) rest) h = literal_parts_occurrences_are rest h

-- steps into a value that isn't a place have literals as indexes
abbrev pub PicksLiterally : Form → Type 0
PicksLiterally (pick_form value parts) = has_literal_indexes parts ≡ true
PicksLiterally _ = Unit {0}

-- the occurrences in a form: its places and those in its operands, of which two pieces may stand in the other order
record FormOccurrences (form : Form) : Type 0 where
  front : List Occurrence
  used_undeclared : List Occurrence
  late : List Occurrence
  back : List Occurrence
  apart : own_places form ++ list_occurrences (operand_exprs form) ≡ front ++ (used_undeclared ++ (late ++ back))
  occurrences : form_occurrences form ≡ front ++ (late ++ (used_undeclared ++ back))

as_it_is : (form : Form) → form_occurrences form ≡ own_places form ++ list_occurrences (operand_exprs form) → FormOccurrences form
as_it_is form is = record {
  front = form_occurrences form;
  used_undeclared = [];
  late = [];
  back = [];
  apart = sym is ∙ sym (append-nil (form_occurrences form));
  occurrences = sym (append-nil (form_occurrences form));
}

one_occurrences_are : (e : Expr) → expr_occurrences e ≡ list_occurrences (e ∷ [])
one_occurrences_are e = sym (append-nil (expr_occurrences e))

form_occurrences_are : (form : Form) → is_call_form form ≡ false → PicksLiterally form → FormOccurrences form
form_occurrences_are (literal_form word) plain picks = as_it_is (literal_form word) refl
form_occurrences_are (read_form place) plain picks = as_it_is (read_form place) (place_occurrences_are place)
form_occurrences_are (write_form to op common value old) plain picks =
    as_it_is (write_form to op common value old)
    (ap (λ l. l ++ expr_occurrences value) (place_occurrences_are to) ∙ (append_assoc (own_place to) (list_occurrences (place_exprs to)) (expr_occurrences value) ∙
    ap (λ l. own_place to ++ l) (ap (λ l. list_occurrences (place_exprs to) ++ l) (one_occurrences_are value) ∙ sym (list_occurrences-append (place_exprs to) (value ∷ [])))))
form_occurrences_are (convert_form value) plain picks = as_it_is (convert_form value) (one_occurrences_are value)
form_occurrences_are (unary_form op value) plain picks = as_it_is (unary_form op value) (one_occurrences_are value)
form_occurrences_are (binary_form op left right) plain picks = as_it_is (binary_form op left right) (ap (λ l. expr_occurrences left ++ l) (one_occurrences_are right))
form_occurrences_are (choose_form cond consequent alternative) plain picks =
    as_it_is (choose_form cond consequent alternative) (ap (λ l. expr_occurrences cond ++ (expr_occurrences consequent ++ l)) (one_occurrences_are alternative))
form_occurrences_are (build_form parts) plain picks = as_it_is (build_form parts) (exprs_occurrences_are parts)
form_occurrences_are (pick_form value parts) plain picks = as_it_is (pick_form value parts) (ap (λ l. expr_occurrences value ++ l) (literal_parts_occurrences_are parts picks))
form_occurrences_are (call_form function args) plain picks = absurd (true≢false plain)
form_occurrences_are (intrinsic_form number args) plain picks = as_it_is (intrinsic_form number args) (exprs_occurrences_are args)
form_occurrences_are (method_form resource count address value) plain picks =
    as_it_is (method_form resource count address value) (ap (λ l. expr_occurrences address ++ l) (expr_if_occurrences_are value))
form_occurrences_are (atomic_form target kind compare value original) plain picks = record {
  front = own_target target;
  used_undeclared = own_place_if original;
  late = list_occurrences (target_exprs target) ++ (list_occurrences (expr_if_list compare) ++ expr_occurrences value);
  back = list_occurrences (place_if_exprs original);
  apart = append_assoc (own_target target) (own_place_if original) (list_occurrences (target_exprs target ++ (expr_if_list compare ++ value ∷ place_if_exprs original))) ∙
      ap (λ l. own_target target ++ (own_place_if original ++ l)) operands_occurrences_are;
  occurrences = ap (λ l. l ++ (expr_if_occurrences compare ++ (expr_occurrences value ++ location_if_occurrences original))) (target_occurrences_are target) ∙
      (append_assoc (own_target target) (list_occurrences (target_exprs target)) (expr_if_occurrences compare ++ (expr_occurrences value ++ location_if_occurrences original)) ∙
      ap (λ l. own_target target ++ l) rest_occurrences_are);
}
  where
    operands_occurrences_are : list_occurrences (target_exprs target ++ (expr_if_list compare ++ value ∷ place_if_exprs original)) ≡
        (list_occurrences (target_exprs target) ++ (list_occurrences (expr_if_list compare) ++ expr_occurrences value)) ++ list_occurrences (place_if_exprs original)
    operands_occurrences_are =
        list_occurrences-append (target_exprs target) (expr_if_list compare ++ value ∷ place_if_exprs original) ∙
        (ap (λ l. list_occurrences (target_exprs target) ++ l) (list_occurrences-append (expr_if_list compare) (value ∷ place_if_exprs original) ∙
        sym (append_assoc (list_occurrences (expr_if_list compare)) (expr_occurrences value) (list_occurrences (place_if_exprs original)))) ∙
        sym (append_assoc (list_occurrences (target_exprs target)) (list_occurrences (expr_if_list compare) ++ expr_occurrences value) (list_occurrences (place_if_exprs original))))

    rest_occurrences_are : list_occurrences (target_exprs target) ++ (expr_if_occurrences compare ++ (expr_occurrences value ++ location_if_occurrences original)) ≡
        (list_occurrences (target_exprs target) ++ (list_occurrences (expr_if_list compare) ++ expr_occurrences value)) ++ (own_place_if original ++ list_occurrences (place_if_exprs original))
    rest_occurrences_are =
        ap (λ l. list_occurrences (target_exprs target) ++ (l ++ (expr_occurrences value ++ location_if_occurrences original))) (expr_if_occurrences_are compare) ∙
        (ap (λ l. list_occurrences (target_exprs target) ++ (list_occurrences (expr_if_list compare) ++ (expr_occurrences value ++ l))) (place_if_occurrences_are original) ∙
        (ap (λ l. list_occurrences (target_exprs target) ++ l) (sym (append_assoc (list_occurrences (expr_if_list compare)) (expr_occurrences value) (own_place_if original ++ list_occurrences (place_if_exprs original)))) ∙
        sym (append_assoc (list_occurrences (target_exprs target)) (list_occurrences (expr_if_list compare) ++ expr_occurrences value) (own_place_if original ++ list_occurrences (place_if_exprs original)))))

-- a test of the places and calls of a form
pub any_form : (p : Occurrence → Bool) (form : Form) → is_call_form form ≡ false → PicksLiterally form → list_any p (form_occurrences form) ≡ (list_any p (own_places form) || list_any p (list_occurrences (operand_exprs form)))
any_form p form plain picks =
    let t = form_occurrences_are form plain picks in
    ap (list_any p) t.occurrences ∙ (sym (any_moved p t.front t.used_undeclared t.late t.back) ∙ (ap (list_any p) (sym t.apart) ∙ list_any-append p (own_places form) (list_occurrences (operand_exprs form))))

-- ---- other expressions in place of the operands

-- the first expressions are literals where others are
abbrev pub LiteralsAs : (others es : List Expr) → Type 0
LiteralsAs [] es = Unit {0}
LiteralsAs (x ∷ xs) [] = ⊥
LiteralsAs (x ∷ xs) (e ∷ es) = (is_literal e ≡ is_literal x) × LiteralsAs xs es

pub literals_front : (xs ys es : List Expr) → LiteralsAs (xs ++ ys) es → LiteralsAs xs es
literals_front [] ys es h = tt
literals_front (x ∷ xs) ys [] h = absurd h
literals_front (x ∷ xs) ys (e ∷ es) h = (h.0, literals_front xs ys es h.1)

pub literals_back : (xs ys es : List Expr) → LiteralsAs (xs ++ ys) es → LiteralsAs ys (drop (length xs) es)
literals_back [] ys es h = h
literals_back (x ∷ xs) ys [] h = absurd h
literals_back (x ∷ xs) ys (e ∷ es) h = literals_back xs ys es h.1

parts_literal : (parts : PathParts) (es : List Expr) → LiteralsAs (parts_exprs parts) es → has_literal_indexes (filled_parts parts es) ≡ has_literal_indexes parts
parts_literal no_parts es h = refl
parts_literal (more_parts (index_part index) rest) [] h = absurd h
parts_literal (more_parts (index_part index) rest) (e ∷ es) h =
    ap (λ b. b && has_literal_indexes (filled_parts rest es)) h.0 ∙ ap (λ b. is_literal index && b) (parts_literal rest es h.1)
parts_literal (more_parts (member_part number) rest) es h = parts_literal rest es h
parts_literal (more_parts (swizzle_part letters) rest) es h = parts_literal rest es h

-- a root that is there: a variable of a function that has so many, or one of so many constants
abbrev pub RootFits : (size constants : ℕ) → Root → Type 0
RootFits size constants (variable_root number) = number < size
RootFits size constants (constant_root number) = number < constants
RootFits size constants _ = Unit {0}

abbrev pub PlaceFits : (size constants : ℕ) → Location → Type 0
PlaceFits size constants (a_location ty root parts) = RootFits size constants root

abbrev pub PlaceIfFits : (size constants : ℕ) → MaybeLocation → Type 0
PlaceIfFits size constants no_location = Unit {0}
PlaceIfFits size constants (some_location place) = PlaceFits size constants place

abbrev pub TargetFits : (size constants : ℕ) → Target → Type 0
TargetFits size constants (place_target place) = PlaceFits size constants place
TargetFits size constants (bytes_target resource address) = Unit {0}

abbrev pub FormFits : (size constants : ℕ) → Form → Type 0
FormFits size constants (read_form place) = PlaceFits size constants place
FormFits size constants (write_form to op common value old) = PlaceFits size constants to
FormFits size constants (atomic_form target kind compare value original) = TargetFits size constants target × PlaceIfFits size constants original
FormFits size constants _ = Unit {0}

shifted_eq : (a b d : ℕ) → ((a + b) == (a + d)) ≡ (b == d)
shifted_eq a b d = by_case (cases_eq b d)
  where
    by_case : (b ≡ d) ⊎ (b ≡ d → ⊥) → ((a + b) == (a + d)) ≡ (b == d)
    by_case (inl is) = eq-eqb (a + b) (a + d) (ap (λ x. a + x) is) ∙ sym (eq-eqb b d is)
    by_case (inr apart) = ne_eqb (a + b) (a + d) (λ is. apart (omega (arith, is))) ∙ sym (ne_eqb b d apart)

module _ (structs : List StructDef) (before : List CallTree) (constants first size from : ℕ) (high : constants ≤ first) (room : first + size ≤ from) where
  -- a place, where the constants and the variables of the function are there
  pub place_touches : (place : Location) (es : List Expr) → PlaceFits size constants place → LiteralsAs (place_exprs place) es →
      Touches structs before constants first size from (own_place place) (touched (own_place (filled_place first place es))) []
  place_touches (a_location ty (variable_root u) parts) es low same = record {
    own = λ v is_own. ap (λ b. (b && not (has_literal_indexes (filled_parts parts es))) || false) (shifted_eq first u v) ∙ ap (λ b. ((u == v) && not b) || false) (parts_literal parts es same);
    constant = λ k is_constant. ap (λ b. (b && not (has_literal_indexes (filled_parts parts es))) || false) (ne_eqb (first + u) k (λ is. omega (arith, is, is_constant, high)));
    lengths = IsPermutation-refl [];
    within = λ n is. inr (inl (its_own n (one_true _ is)));
  }
    where
      one_true : (b : Bool) → (b || false) ≡ true → b ≡ true
      one_true true h = refl
      one_true false h = h

      its_own : (n : ℕ) → ((first + u == n) && not (has_literal_indexes (filled_parts parts es))) ≡ true → (first ≤ n) × (n < first + size)
      its_own n is =
          let e : first + u ≡ n = eqb-true (first + u) n (and_parts (first + u == n) _ is).0 in
          (omega (arith, e), omega (arith, e, low))
  place_touches (a_location ty (constant_root u) parts) es low same = record {
    own = λ v is_own. ap (λ b. (b && not (has_literal_indexes (filled_parts parts es))) || false) (ne_eqb u (first + v) (λ is. omega (arith, is, low, high)));
    constant = λ k is_constant. ap (λ b. ((u == k) && not b) || false) (parts_literal parts es same) ∙ sym (or_false _ false refl);
    lengths = IsPermutation-refl [];
    within = λ n is. inl (its_own n (one_true _ is));
  }
    where
      one_true : (b : Bool) → (b || false) ≡ true → b ≡ true
      one_true true h = refl
      one_true false h = h

      its_own : (n : ℕ) → ((u == n) && not (has_literal_indexes (filled_parts parts es))) ≡ true → n < constants
      its_own n is =
          let e : u ≡ n = eqb-true u n (and_parts (u == n) _ is).0 in
          omega (arith, e, low)
  place_touches (a_location ty (shared_root u) parts) es low same = record {
    own = λ v is_own. refl;
    constant = λ k is_constant. refl;
    lengths = IsPermutation-refl [];
    within = λ n is. absurd (false≢true is);
  }
  place_touches (a_location ty (element_root resource index) parts) es low same = record {
    own = λ v is_own. refl;
    constant = λ k is_constant. refl;
    lengths = IsPermutation-refl [];
    within = λ n is. absurd (false≢true is);
  }

-- the occurrences in a form, from its places and those in its operands
pub form_touches : (structs : List StructDef) (before : List CallTree) (constants first size : ℕ) (form : Form) → is_call_form form ≡ false → PicksLiterally form → (from : ℕ) (h : ℕ → Bool) (new : List Variable) →
    Touches structs before constants first size from (own_places form ++ list_occurrences (operand_exprs form)) h new → Touches structs before constants first size from (form_occurrences form) h new
form_touches structs before constants first size form plain picks from h new touches =
    let t = form_occurrences_are form plain picks in
    subst (λ l. Touches structs before constants first size from l h new) (sym t.occurrences)
    (touches_moved structs before constants first size from t.front t.used_undeclared t.late t.back h new
    (subst (λ l. Touches structs before constants first size from l h new) t.apart touches))
