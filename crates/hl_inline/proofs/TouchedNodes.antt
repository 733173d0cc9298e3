-- What expressions index, and what becomes of them.
use Rattle.std.proofs.Common.{◌≡◌, ◌∙◌, refl, sym, ap, subst, ℕ, suc, ◌+◌, ◌≤◌, Bool, true, false, List, [], ◌∷◌, ◌++◌, Some, length, length-append, map, append_assoc, arith}
use Rattle.std.specs.Prelude.{◌||◌, ◌==◌, ◌&&◌, not, if◌then◌else◌, drop}
use Rattle.std.proofs.lemmas.Bool.{and_parts, false≢true, true≢false}
use Rattle.std.proofs.lemmas.List.{append-nil}
use Rattle.std.proofs.lemmas.List.Folds.{list_any-append}
use Rattle.hl_meaning.specs.Types.{Ty}
use Rattle.hl_meaning.specs.Trees.{Expr, Form, MaybeExpr, Target, MaybeLocation, an_expr, atomic_form, binary_form, build_form, bytes_target, call_form, choose_form, convert_form, intrinsic_form, literal_form, method_form, no_expr, no_location, pick_form, place_target, read_form, some_expr, some_location, type_of, unary_form, write_form}
use Rattle.hl_meaning.specs.Programs.{StructDef, Variable}
use Rattle.hl_meaning.specs.Places.{is_literal}
use Rattle.hl_inline.specs.FlatTrees.{FlatStmt, flat_local}
use Rattle.hl_inline.specs.FlatViews.{flat_stmts_of}
use Rattle.hl_inline.specs.IndexedVariables.{CallTree, indexes_variable}
use Rattle.hl_inline.specs.Occurrences.{Occurrence, expr_occurrences, flat_stmt_occurrences, flat_stmts_occurrences, form_occurrences}
use Rattle.typed_laws.proofs.OperandExpressions.{expr_if_list, operand_exprs, place_if_exprs}
use Rattle.hl_inline.specs.Operands.{behind_expr_if, behind_target, filled, filled_place, filled_place_if, filled_target}
use Rattle.typed_laws.specs.Operands.{place_exprs, target_exprs}
use Rattle.hl_inline.specs.EmittedExpressions.{is_literal_form, node, over}
use Rattle.hl_inline.specs.Emitting.{Emitter, Valued, Values, any_call, emit_all, reading, saved, settled, token_of, values_with}
use Rattle.hl_inline.specs.Fresh.{Fresh, Instance, next_of, unnamed}
use Rattle.typed_laws.proofs.Induction.{Every}
use Rattle.typed_laws.proofs.OperandValues.{is_call_form}
use Rattle.hl_inline.proofs.FilledLemmas.{filled_not_call, filled_operands}
use Rattle.hl_inline.proofs.Touching.{Touches, or_both, or_four, or_false, touched, touches_both, touches_none, touches_same, touches_unnamed}
use Rattle.hl_inline.proofs.TouchedForms.{FormFits, LiteralsAs, PicksLiterally, any_form, form_touches, list_occurrences, literals_back, literals_front, own_place, own_place_if, own_places, own_target, place_touches}

-- the places and calls in code
abbrev pub occurrences_of : List FlatStmt → List Occurrence
occurrences_of code = flat_stmts_occurrences (flat_stmts_of code)

pub occurrences-append : (xs ys : List FlatStmt) → occurrences_of (xs ++ ys) ≡ occurrences_of xs ++ occurrences_of ys
occurrences-append [] ys = refl
occurrences-append (x ∷ xs) ys = ap (λ l. flat_stmt_occurrences x ++ l) (occurrences-append xs ys) ∙ sym (append_assoc (flat_stmt_occurrences x) (occurrences_of xs) (occurrences_of ys))

pub touched-append : (xs ys : List Occurrence) (n : ℕ) → touched (xs ++ ys) n ≡ (touched xs n || touched ys n)
touched-append xs ys n = list_any-append (indexes_variable n) xs ys

-- a whole variable that is read isn't indexed
pub untouched_reading : (ty : Ty) (at number n : ℕ) → touched (expr_occurrences (reading ty at number)) n ≡ false
untouched_reading ty at number n = by_test (number == n)
  where
    by_test : (b : Bool) → ((b && not true) || false) ≡ false
    by_test true = refl
    by_test false = refl

pub grown_next : (before : Fresh) (behind : Fresh) (new : List Variable) → behind.variables ≡ before.variables ++ new → next_of behind ≡ next_of before + length new
grown_next before behind new is = ap length is ∙ length-append before.variables new

module _ (structs : List StructDef) (before : List CallTree) (constants first size : ℕ) where
  -- what becomes of an expression indexes what the expression does
  pub record EmittedAs (e : Expr) (fresh : Fresh) (x : Valued) : Type 0 where
    pub new : List Variable
    pub grows : x.fresh.variables ≡ fresh.variables ++ new
    pub touches : Touches structs before constants first size (next_of fresh) (expr_occurrences e) (touched (occurrences_of x.code ++ expr_occurrences x.value)) new
    pub literal : is_literal x.value ≡ is_literal e
    pub fixed : x.fixed ≡ false → is_literal e ≡ false

  abbrev pub EmitsOccurrences : Expr → Emitter → Type 0
  EmitsOccurrences e em = (fresh : Fresh) → first + size ≤ next_of fresh → EmittedAs e fresh (em.emit fresh)

  -- the same of expressions in order
  pub record ValuesAs (es : List Expr) (fresh : Fresh) (x : Values) : Type 0 where
    pub new : List Variable
    pub grows : x.fresh.variables ≡ fresh.variables ++ new
    pub touches : Touches structs before constants first size (next_of fresh) (list_occurrences es) (touched (occurrences_of x.code ++ list_occurrences x.values)) new
    pub literals : LiteralsAs es x.values
    pub count : length x.values ≡ length es

  module _ (high : constants ≤ first) where
    saved_as : (e : Expr) (fresh : Fresh) (x : Valued) → first + size ≤ next_of fresh → x.fixed ≡ false → EmittedAs e fresh x → EmittedAs e fresh (saved x)
    saved_as e fresh x room loose emitted = record {
      new = emitted.new ++ unnamed (type_of x.value) (token_of x.value) ∷ [];
      grows = ap (λ l. l ++ unnamed (type_of x.value) (token_of x.value) ∷ []) emitted.grows ∙ append_assoc fresh.variables emitted.new (unnamed (type_of x.value) (token_of x.value) ∷ []);
      touches = touches_same structs before constants first size (next_of fresh) (expr_occurrences e) _ _ _ same
          (touches_unnamed structs before constants first size high (next_of fresh) room (expr_occurrences e) _ emitted.new (unnamed (type_of x.value) (token_of x.value) ∷ []) emitted.touches);
      literal = sym (emitted.fixed loose);
      fixed = λ is. absurd (true≢false is);
    }
      where
        same : (n : ℕ) → touched (occurrences_of x.code ++ expr_occurrences x.value) n ≡
            touched (occurrences_of (x.code ++ flat_local (next_of x.fresh) (Some x.value) ∷ []) ++ expr_occurrences (reading (type_of x.value) (token_of x.value) (next_of x.fresh))) n
        same n = sym
            (touched-append (occurrences_of (x.code ++ flat_local (next_of x.fresh) (Some x.value) ∷ [])) (expr_occurrences (reading (type_of x.value) (token_of x.value) (next_of x.fresh))) n ∙
            (or_false _ _ (untouched_reading (type_of x.value) (token_of x.value) (next_of x.fresh) n) ∙
            ap (λ l. touched l n) (occurrences-append x.code (flat_local (next_of x.fresh) (Some x.value) ∷ []) ∙ ap (λ l. occurrences_of x.code ++ l) (append-nil (expr_occurrences x.value)))))

    pub settled_as : (further : Bool) (e : Expr) (fresh : Fresh) (x : Valued) → first + size ≤ next_of fresh → EmittedAs e fresh x → EmittedAs e fresh (settled further x)
    settled_as further e fresh x room emitted = by_test (further && not x.fixed) refl
      where
        not_true : (b : Bool) → not b ≡ true → b ≡ false
        not_true true h = absurd (false≢true h)
        not_true false h = refl

        by_test : (b : Bool) → (further && not x.fixed) ≡ b → EmittedAs e fresh (if b then saved x else x)
        by_test true is = saved_as e fresh x room (not_true x.fixed (and_parts further (not x.fixed) is).1) emitted
        by_test false is = emitted

    one_more : (e : Expr) (es : List Expr) (fresh : Fresh) (x : Valued) (rest : Values) → first + size ≤ next_of fresh → EmittedAs e fresh x → ValuesAs es x.fresh rest → ValuesAs (e ∷ es) fresh (values_with x rest)
    one_more e es fresh x rest room emitted others = record {
      new = emitted.new ++ others.new;
      grows = others.grows ∙ (ap (λ l. l ++ others.new) emitted.grows ∙ append_assoc fresh.variables emitted.new others.new);
      touches = touches_same structs before constants first size (next_of fresh) (expr_occurrences e ++ list_occurrences es) _ _ _ same
          (touches_both structs before constants first size high (next_of fresh) (next_of x.fresh) room (expr_occurrences e) (list_occurrences es) _ _ emitted.new others.new
          (grown_next fresh x.fresh emitted.new emitted.grows) emitted.touches others.touches);
      literals = (emitted.literal, others.literals);
      count = ap suc others.count;
    }
      where
        same : (n : ℕ) → (touched (occurrences_of x.code ++ expr_occurrences x.value) n || touched (occurrences_of rest.code ++ list_occurrences rest.values) n) ≡
            touched (occurrences_of (x.code ++ rest.code) ++ (expr_occurrences x.value ++ list_occurrences rest.values)) n
        same n =
            or_both _ _ _ _ (touched-append (occurrences_of x.code) (expr_occurrences x.value) n) (touched-append (occurrences_of rest.code) (list_occurrences rest.values) n) ∙
            (or_four (touched (occurrences_of x.code) n) (touched (expr_occurrences x.value) n) (touched (occurrences_of rest.code) n) (touched (list_occurrences rest.values) n) ∙
            sym (touched-append (occurrences_of (x.code ++ rest.code)) (expr_occurrences x.value ++ list_occurrences rest.values) n ∙
            or_both _ _ _ _ (ap (λ l. touched l n) (occurrences-append x.code rest.code) ∙ touched-append (occurrences_of x.code) (occurrences_of rest.code) n) (touched-append (expr_occurrences x.value) (list_occurrences rest.values) n)))

    -- operands in order
    pub all_as : (em : Expr → Emitter) (further : Bool) (es : List Expr) → Every (λ e. EmitsOccurrences e (em e)) es → (fresh : Fresh) → first + size ≤ next_of fresh →
        ValuesAs es fresh (emit_all further (map em es) fresh)
    all_as em further [] emits fresh room = record {
      new = [];
      grows = sym (append-nil fresh.variables);
      touches = touches_same structs before constants first size (next_of fresh) [] _ _ [] (λ n. refl) (touches_none structs before constants first size (next_of fresh));
      literals = tt;
      count = refl;
    }
    all_as em further (e ∷ es) emits fresh room =
        one_more e es fresh x (emit_all further (map em es) x.fresh) room emitted (all_as em further es emits.1 x.fresh (omega (arith, room, grown_next fresh x.fresh emitted.new emitted.grows)))
      where
        x : Valued
        x = settled (further || any_call (map em es)) ((em e).emit fresh)

        emitted : EmittedAs e fresh x
        emitted = settled_as (further || any_call (map em es)) e fresh ((em e).emit fresh) room (emits.0 fresh room)

    -- ---- an expression that isn't a call

    picks_filled : (form : Form) (es : List Expr) → PicksLiterally form → PicksLiterally (filled first form es)
    picks_filled (literal_form word) es h = tt
    picks_filled (read_form place) es h = tt
    picks_filled (write_form to op common value old) es h = tt
    picks_filled (convert_form value) es h = tt
    picks_filled (unary_form op value) es h = tt
    picks_filled (binary_form op left right) es h = tt
    picks_filled (choose_form cond consequent alternative) es h = tt
    picks_filled (build_form parts) es h = tt
    picks_filled (pick_form value parts) es h = h
    picks_filled (call_form function args) es h = tt
    picks_filled (intrinsic_form number args) es h = tt
    picks_filled (method_form resource count address value) es h = tt
    picks_filled (atomic_form target kind compare value original) es h = tt

    literal_filled : (ty : Ty) (at : ℕ) (form : Form) (es : List Expr) → is_literal (an_expr ty at (filled first form es)) ≡ is_literal (an_expr ty at form)
    literal_filled ty at (literal_form word) es = refl
    literal_filled ty at (read_form place) es = refl
    literal_filled ty at (write_form to op common value old) es = refl
    literal_filled ty at (convert_form value) es = refl
    literal_filled ty at (unary_form op value) es = refl
    literal_filled ty at (binary_form op left right) es = refl
    literal_filled ty at (choose_form cond consequent alternative) es = refl
    literal_filled ty at (build_form parts) es = refl
    literal_filled ty at (pick_form value parts) es = refl
    literal_filled ty at (call_form function args) es = refl
    literal_filled ty at (intrinsic_form number args) es = refl
    literal_filled ty at (method_form resource count address value) es = refl
    literal_filled ty at (atomic_form target kind compare value original) es = refl

    literal_form_is : (ty : Ty) (at : ℕ) (form : Form) → is_literal (an_expr ty at form) ≡ is_literal_form form
    literal_form_is ty at (literal_form word) = refl
    literal_form_is ty at (read_form place) = refl
    literal_form_is ty at (write_form to op common value old) = refl
    literal_form_is ty at (convert_form value) = refl
    literal_form_is ty at (unary_form op value) = refl
    literal_form_is ty at (binary_form op left right) = refl
    literal_form_is ty at (choose_form cond consequent alternative) = refl
    literal_form_is ty at (build_form parts) = refl
    literal_form_is ty at (pick_form value parts) = refl
    literal_form_is ty at (call_form function args) = refl
    literal_form_is ty at (intrinsic_form number args) = refl
    literal_form_is ty at (method_form resource count address value) = refl
    literal_form_is ty at (atomic_form target kind compare value original) = refl

    nothing_own : (from : ℕ) → Touches structs before constants first size from [] (touched []) []
    nothing_own from = touches_same structs before constants first size from [] _ _ [] (λ n. refl) (touches_none structs before constants first size from)

    -- the places of a form itself
    own_touches : (from : ℕ) → first + size ≤ from → (form : Form) (es : List Expr) → FormFits size constants form → LiteralsAs (operand_exprs form) es →
        Touches structs before constants first size from (own_places form) (touched (own_places (filled first form es))) []
    own_touches from room (literal_form word) es fits same = nothing_own from
    own_touches from room (read_form place) es fits same = place_touches structs before constants first size from high room place es fits same
    own_touches from room (write_form to op common value old) es fits same =
        place_touches structs before constants first size from high room to es fits (literals_front (place_exprs to) (value ∷ []) es same)
    own_touches from room (convert_form value) es fits same = nothing_own from
    own_touches from room (unary_form op value) es fits same = nothing_own from
    own_touches from room (binary_form op left right) es fits same = nothing_own from
    own_touches from room (choose_form cond consequent alternative) es fits same = nothing_own from
    own_touches from room (build_form parts) es fits same = nothing_own from
    own_touches from room (pick_form value parts) es fits same = nothing_own from
    own_touches from room (call_form function args) es fits same = nothing_own from
    own_touches from room (intrinsic_form number args) es fits same = nothing_own from
    own_touches from room (method_form resource count address value) es fits same = nothing_own from
    own_touches from room (atomic_form target kind compare value original) es fits same =
        both target original (drop 1 (behind_expr_if compare (behind_target target es))) fits
        (literals_front (target_exprs target) (expr_if_list compare ++ value ∷ place_if_exprs original) es same)
        (literals_back (value ∷ []) (place_if_exprs original) (behind_expr_if compare (behind_target target es))
        (behind compare (behind_target target es) (literals_back (target_exprs target) (expr_if_list compare ++ value ∷ place_if_exprs original) es same)))
      where
        behind : (compare : MaybeExpr) (es : List Expr) → LiteralsAs (expr_if_list compare ++ value ∷ place_if_exprs original) es → LiteralsAs (value ∷ place_if_exprs original) (behind_expr_if compare es)
        behind no_expr es same = same
        behind (some_expr x) es same = literals_back (x ∷ []) (value ∷ place_if_exprs original) es same

        both : (target : Target) (original : MaybeLocation) (others : List Expr) → FormFits size constants (atomic_form target kind compare value original) → LiteralsAs (target_exprs target) es → LiteralsAs (place_if_exprs original) others →
            Touches structs before constants first size from (own_target target ++ own_place_if original)
            (touched (own_target (filled_target first target es) ++ own_place_if (filled_place_if first original others))) []
        both (bytes_target resource address) no_location others fits a b = nothing_own from
        both (bytes_target resource address) (some_location place) others fits a b = place_touches structs before constants first size from high room place others fits.1 b
        both (place_target to) no_location others fits a b =
            subst (λ l. Touches structs before constants first size from l (touched (own_place (filled_place first to es) ++ [])) []) (sym (append-nil (own_place to)))
            (subst (λ l. Touches structs before constants first size from (own_place to) (touched l) []) (sym (append-nil (own_place (filled_place first to es))))
            (place_touches structs before constants first size from high room to es fits.0 a))
        both (place_target to) (some_location place) others fits a b =
            touches_same structs before constants first size from (own_place to ++ own_place place) _ _ []
            (λ n. sym (touched-append (own_place (filled_place first to es)) (own_place (filled_place first place others)) n))
            (touches_both structs before constants first size high from from room (own_place to) (own_place place) _ _ [] [] (omega arith)
            (place_touches structs before constants first size from high room to es fits.0 a) (place_touches structs before constants first size from high room place others fits.1 b))

    or_swapped : (a b d : Bool) → (a || (b || d)) ≡ (b || (a || d))
    or_swapped true true d = refl
    or_swapped true false d = refl
    or_swapped false true d = refl
    or_swapped false false d = refl

    over_as : (i : Instance) → i.first ≡ first → (ty : Ty) (at : ℕ) (form : Form) → is_call_form form ≡ false → PicksLiterally form → FormFits size constants form → (fresh : Fresh) → first + size ≤ next_of fresh →
        (x : Values) → ValuesAs (operand_exprs form) fresh x → EmittedAs (an_expr ty at form) fresh (over i ty at form x)
    over_as i is ty at form plain picks fits fresh room x values = record {
      new = values.new;
      grows = values.grows;
      touches = touches_same structs before constants first size (next_of fresh) (form_occurrences form) _ _ _ same
          (form_touches structs before constants first size form plain picks (next_of fresh) _ values.new
          (touches_both structs before constants first size high (next_of fresh) (next_of fresh) room (own_places form) _ _ _ [] values.new (omega arith)
          (own_touches (next_of fresh) room form x.values fits values.literals) values.touches));
      literal = ap (λ k. is_literal (an_expr ty at (filled k form x.values))) is ∙ literal_filled ty at form x.values;
      fixed = λ loose. literal_form_is ty at form ∙ loose;
    }
      where
        same : (n : ℕ) → (touched (own_places (filled first form x.values)) n || touched (occurrences_of x.code ++ list_occurrences x.values) n) ≡
            touched (occurrences_of x.code ++ form_occurrences (filled i.first form x.values)) n
        same n =
            ap (λ b. touched (own_places (filled first form x.values)) n || b) (touched-append (occurrences_of x.code) (list_occurrences x.values) n) ∙
            (or_swapped (touched (own_places (filled first form x.values)) n) (touched (occurrences_of x.code) n) (touched (list_occurrences x.values) n) ∙
            sym (touched-append (occurrences_of x.code) (form_occurrences (filled i.first form x.values)) n ∙
            ap (λ b. touched (occurrences_of x.code) n || b) (ap (λ k. touched (form_occurrences (filled k form x.values)) n) is ∙
            (any_form (indexes_variable n) (filled first form x.values) (filled_not_call first form x.values plain) (picks_filled form x.values picks) ∙
            ap (λ l. touched (own_places (filled first form x.values)) n || touched (list_occurrences l) n) (filled_operands first form x.values plain values.count)))))

    pub node_as : (i : Instance) → i.first ≡ first → (ty : Ty) (at : ℕ) (form : Form) (em : Expr → Emitter) → is_call_form form ≡ false → PicksLiterally form → FormFits size constants form →
        Every (λ e. EmitsOccurrences e (em e)) (operand_exprs form) → EmitsOccurrences (an_expr ty at form) (node i ty at form (map em (operand_exprs form)))
    node_as i is ty at form em plain picks fits emits fresh room =
        over_as i is ty at form plain picks fits fresh room (emit_all false (map em (operand_exprs form)) fresh) (all_as em false (operand_exprs form) emits fresh room)
