-- The value of an expression has the words of its type.
use Rattle.std.proofs.Common.{◌≡◌, ◌∙◌, refl, sym, ap, subst, ℕ, zero, suc, ◌+◌, ◌*◌, ◌<◌, ◌≤◌, ◌⊎◌, inl, inr, Bool, true, false, List, [], ◌∷◌, ◌++◌, map, length, Option, None, Some, slice_get, unwrap_or, get_or, arith}
use Rattle.std.specs.Prelude.{is_some, ◌==◌, not, if◌then◌else◌, IsTrue, drop, nat_lt, option_and_then, replicate, slice_index, slice_index_or, take}
use Rattle.std.specs.Int.{div_ceil}
use Rattle.std.specs.List.{concat, list_all}
use Rattle.std.proofs.lemmas.List.{length-append, length-map, length-replicate, length-take}
use Rattle.std.proofs.lemmas.List.FromFn.{length-map-range_with_len}
use Rattle.std.proofs.lemmas.Bool.{eqb-true, ltb-true, true≢false}
use Rattle.std.proofs.lemmas.Option.{none-some, same_Some}
use Rattle.lane_core.specs.Lane.{Exchange}
use Rattle.lane_core.specs.declared.event.AtomicKind.{AtomicKind}
use Rattle.lane_core.specs.declared.event.Event.TheVariants.{BufferLoad, BufferStore, SharedLoad}
use Rattle.lane_core.specs.declared.event.Slot.{Slot}
use Rattle.hl_meaning.specs.declared.ty.Kind.{Kind}
use Rattle.hl_meaning.specs.declared.ty.Kind.TheVariants.{Bool as BoolKind, Int as IntKind, Uint as UintKind}
use Rattle.hl_meaning.specs.Types.{Ty, array_type, components_type, is_basic, is_numeric, is_void, scalar_type, struct_type, ty_eq, vector_type, void_type}
use Rattle.hl_meaning.specs.Conversions.{converts}
use Rattle.hl_meaning.specs.Operators.{binary_type, computing, is_among}
use Rattle.hl_meaning.specs.Trees.{Args, Expr, Exprs, Form, Location, MaybeExpr, MaybeLocation, PathParts, Target, a_location, an_expr, atomic_form, binary_form, build_form, call_form, choose_form, convert_form, intrinsic_form, literal_form, method_form, more_exprs, no_expr, no_exprs, pick_form, place_type, read_form, some_expr, type_of, types_of, unary_form, write_form}
use Rattle.hl_meaning.specs.Programs.{FunctionDef, StructDef}
use Rattle.hl_meaning.specs.Layout.{kinds_of, words_of}
use Rattle.hl_meaning.specs.Places.{Scope, has_literal_indexes, path_type, root_type}
use Rattle.hl_meaning.specs.WellFormed.{Assigns, IsDeclared, IsExpr, IsForm, IsLiteralOf, IsMethod, IsPlace, IsResult, IsType, callee_params, callee_result, most_words}
use Rattle.hl_meaning.proofs.LayoutForms.{length-kinds_of}
use Rattle.hl_meaning.proofs.LayoutLemmas.{words-void}
use Rattle.lane_core.specs.Words.{wrapping_add}
use Rattle.hl_source.specs.Operations.{binary_words, component_kind, converted, map_2, picked, word_as}
use Rattle.hl_source.specs.State.{Context, Progress, State, after, asks, asks_word, each, gives, no_value, variable_words}
use Rattle.lane_core.specs.Replies.{reply_words}
use Rattle.hl_source.specs.Offsets.{Holder, Reached, in_constant, in_element, in_shared, in_variable, indexes_of_steps, literal_indexes, picked_words, place_of, reached, slot_of, start_of, type_of_root}
use Rattle.hl_source.specs.Memory.{byte_offset, cell, constant_words, load_four, pieces, read_place, read_words, shared_size, within, word_of, word_offsets, write_place}
use Rattle.hl_source.specs.Expressions.{acts, arguments, assigned, atomic_original, assigns, copies_out, evaluates, no_callee, parameters_of, read_if, initial_parameters, write_if}
use Rattle.typed_laws.proofs.OperandExpressions.{expr_if_list, exprs_list, operand_exprs}
use Rattle.typed_laws.specs.Operands.{place_exprs}
use Rattle.typed_laws.proofs.Induction.{Every, Step, by_operands, every_back}
use Rattle.typed_laws.proofs.ProgressLemmas.{after_giving}
use Rattle.typed_laws.proofs.OperandValues.{evaluate_all, grouped, is_call_form, operands_all}
use Rattle.typed_laws.specs.Fitting.{Fits, HasKinds, Yields}
use Rattle.typed_laws.proofs.Fitting.{fits_length, kinds_read}
use Rattle.typed_laws.proofs.Typed.{IsValue, ParamsSome, and_left, and_right, form_values, never}
use Rattle.typed_laws.proofs.KindParts.{AreStructs, PartOf, kinds-scalar, kinds-vector, part_whole}
use Rattle.typed_laws.proofs.ReachedTypes.{ReachedAs, pick_part, reached_as}
use Rattle.typed_laws.proofs.ValueFits.{FitTypes, HasComponents, basic_fits, basic_length, basic_numeric, binary_fits, built_fits, chosen_fits, converted_fits, each_of_kind, gives_yields, one_kind, resized_count, unary_fits, yields_after, yields_any, yields_giving, yields_map}
use Rattle.typed_laws.proofs.IntrinsicFits.{intrinsic_fits, nothing_fits}

-- What a value of an expression is: words of its type, of which there aren't too many.
pub record HasValue (c : Context) (e : Expr) : Type 0 where
  pub fits : (s : State) → Yields (Fits c.scope.structs (type_of e)) (evaluates c e s)
  pub small : words_of c.scope.structs (type_of e) ≤ most_words

-- a place is read as a value of its type, of which there aren't too many words
pub record HasPlaceValue (c : Context) (place : Location) : Type 0 where
  pub long : (ixs : List ℕ) (s : State) → Yields (λ ws. length ws ≡ words_of c.scope.structs (place_type place)) (read_place c place ixs s)
  pub small : words_of c.scope.structs (place_type place) ≤ most_words

-- places

each_long : {A B : Type 0} (part : A → State → Progress B) (xs : List A) (s : State) → Yields (λ ws. length ws ≡ length xs) (each part xs s)
each_long part [] s = refl
each_long part (x ∷ xs) s =
    yields_after (λ w. Unit {0}) (λ ws. length ws ≡ suc (length xs)) (part x s) _ (yields_any (λ w. Unit {0}) (λ w. tt) (part x s)) (λ w s1 h.
    yields_giving (λ ws. length ws ≡ length xs) (λ ws. length ws ≡ suc (length xs)) (λ ws. w ∷ ws) (λ ws e. ap suc e) (each part xs s1) (each_long part xs s1))

each_holds : {A B : Type 0} (P : B → Type 0) (part : A → State → Progress B) → ((x : A) (s : State) → Yields P (part x s)) → (xs : List A) (s : State) → Yields (λ ws. (length ws ≡ length xs) × Every P ws) (each part xs s)
each_holds P part h [] s = (refl, tt)
each_holds P part h (x ∷ xs) s =
    yields_after P (λ ws. (length ws ≡ suc (length xs)) × Every P ws) (part x s) _ (h x s) (λ w s1 p.
    yields_giving (λ ws. (length ws ≡ length xs) × Every P ws) (λ ws. (length ws ≡ suc (length xs)) × Every P ws) (λ ws. w ∷ ws) (λ ws r. (ap suc r.0, (p, r.1))) (each part xs s1) (each_holds P part h xs s1))

concat_long : (n : ℕ) (words : List (List ℕ)) → Every (λ ws. length ws ≡ n) words → length (concat words) ≡ length words * n
concat_long n [] h = omega arith
concat_long n (ws ∷ words) h = length-append ws (concat words) ∙ (ap (λ k. k + length (concat words)) h.0 ∙ (ap (λ k. n + k) (concat_long n words h.1) ∙ grind arith))

enough_pieces : (count : ℕ) → count ≤ div_ceil count 4 * 4
enough_pieces count = omega arith

offsets_long : (part : ℕ → State → Progress ℕ) (offset count : ℕ) (s : State) → Yields (λ ws. length ws ≡ count) (each part (word_offsets offset count) s)
offsets_long part offset count s =
    subst (λ n. Yields (λ ws. length ws ≡ n) (each part (word_offsets offset count) s)) (length-map-range_with_len (wrapping_add offset) 0 count) (each_long part (word_offsets offset count) s)

four_long : (slot : Slot) (index at : ℕ) (s : State) → Yields (λ ws. length ws ≡ 4) (load_four slot index at s)
four_long slot index at s =
    yields_giving (λ r. Unit {0}) (λ ws. length ws ≡ 4) (reply_words 4) (λ r h. refl) (asks (BufferLoad slot index at) s) (yields_any (λ r. Unit {0}) (λ r. tt) (asks (BufferLoad slot index at) s))

pub read_long : (c : Context) (holder : Holder) (offset count : ℕ) (s : State) → Yields (λ ws. length ws ≡ count) (read_words c holder offset count s)
read_long c (in_variable number) offset count s = offsets_long (word_of (variable_words s number)) offset count s
read_long c (in_constant number) offset count s = offsets_long (word_of (constant_words c number)) offset count s
read_long c (in_shared number) offset count s = offsets_long (λ at. within at (shared_size c number) (asks_word (SharedLoad (cell number at)))) offset count s
read_long c (in_element slot index) offset count s =
    yields_giving (λ fours. (length fours ≡ length (pieces count)) × Every (λ ws. length ws ≡ 4) fours) (λ ws. length ws ≡ count) (λ fours. take count (concat fours))
    (λ fours r. length-take count (concat fours) ∙ omega (arith, concat_long 4 fours r.1, r.0, length-map-range_with_len (λ piece. 4 * piece) 0 (div_ceil count 4), enough_pieces count))
    (each (λ piece. load_four slot index (byte_offset offset piece)) (pieces count) s)
    (each_holds (λ ws. length ws ≡ 4) (λ piece. load_four slot index (byte_offset offset piece)) (λ piece s1. four_long slot index (byte_offset offset piece) s1) (pieces count) s)

-- picked letters

every_at : (P : ℕ → Type 0) (ws : List ℕ) (i : ℕ) → Every P ws → i < length ws → P (get_or ws i 0)
every_at P [] i h low = absurd (omega (arith, low))
every_at P (w ∷ ws) zero h low = h.0
every_at P (w ∷ ws) (suc i) h low = every_at P ws i h.1 (omega (arith, low))

letters_fit : (kind : Kind) (size : ℕ) (ws letters : List ℕ) → length ws ≡ size → Every (λ w. word_as kind w ≡ w) ws → IsTrue (list_all (λ letter. nat_lt letter size) letters) → Every (λ w. word_as kind w ≡ w) (map (slice_index ws) letters)
letters_fit kind size ws [] e h low = tt
letters_fit kind size ws (letter ∷ letters) e h low =
    (every_at (λ w. word_as kind w ≡ w) ws letter h (omega (arith, e, ltb-true letter size (and_left (nat_lt letter size) _ low))), letters_fit kind size ws letters e h (and_right (nat_lt letter size) _ low))

components_kinds : (structs : List StructDef) (kind : Kind) (count : ℕ) → kinds_of structs (components_type kind count) ≡ replicate count kind
components_kinds structs kind count = by_test (count == 1) refl
  where
    by_test : (b : Bool) → (count == 1) ≡ b → kinds_of structs (if b then scalar_type kind else vector_type kind count) ≡ replicate count kind
    by_test true is = kinds-scalar structs kind ∙ ap (λ n. replicate n kind) (sym (eqb-true count 1 is))
    by_test false is = kinds-vector structs kind count

-- what is picked of words that fit what was reached
picked_fits : (structs : List StructDef) (at : Reached) (to : Ty) (ws : List ℕ) → ReachedAs structs at to → Fits structs at.ty ws → Fits structs to (picked at.letters ws)
picked_fits structs at to ws (inl plain) fits =
    subst (λ t. Fits structs t (picked at.letters ws)) plain.1 (subst (λ l. Fits structs at.ty (picked l ws)) (sym plain.0) fits)
picked_fits structs at to ws (inr l) fits = by_letters at.letters refl l.longer
  where
    of_kind : HasKinds (replicate l.size l.kind) ws
    of_kind = subst (λ k. HasKinds k ws) l.kinds fits

    long : length ws ≡ l.size
    long = fits_length structs at.ty ws fits ∙ (sym (length-kinds_of structs at.ty) ∙ (ap length l.kinds ∙ length-replicate l.size l.kind))

    by_letters : (letters : List ℕ) → at.letters ≡ letters → 1 < length letters → Fits structs to (picked letters ws)
    by_letters [] is longer = absurd (omega (arith, longer))
    by_letters (letter ∷ letters) is longer =
        subst (λ k. HasKinds k (map (slice_index ws) (letter ∷ letters)))
        (sym (components_kinds structs l.kind (length (letter ∷ letters))) ∙ (ap (λ n. kinds_of structs (components_type l.kind (length n))) (sym is) ∙ ap (kinds_of structs) (sym l.is)))
        (one_kind l.kind (length (letter ∷ letters)) (map (slice_index ws) (letter ∷ letters)) (length-map (letter ∷ letters) (slice_index ws))
        (letters_fit l.kind l.size ws (letter ∷ letters) long (each_of_kind l.kind l.size ws of_kind) (subst (λ n. IsTrue (list_all (λ letter. nat_lt letter l.size) n)) is l.low)))

root_path : (s : Scope) (o : Option Ty) (parts : PathParts) (ty : Ty) → option_and_then (λ t. path_type s.structs t parts) o ≡ Some ty → path_type s.structs (unwrap_or o void_type) parts ≡ Some ty
root_path s None parts ty h = absurd (none-some ty h)
root_path s (Some t) parts ty h = h

pub place_fits : (c : Context) (place : Location) → IsPlace c.scope place → (ixs : List ℕ) (s : State) → Yields (Fits c.scope.structs (place_type place)) (read_place c place ixs s)
place_fits c (a_location ty root parts) h ixs s =
    let at = (place_of c (a_location ty root parts) ixs).reached in
    yields_giving (λ ws. length ws ≡ words_of c.scope.structs at.ty) (Fits c.scope.structs ty) (λ ws. picked at.letters (map_2 word_as (kinds_of c.scope.structs at.ty) ws))
    (λ ws e. picked_fits c.scope.structs at ty (map_2 word_as (kinds_of c.scope.structs at.ty) ws)
    (reached_as c.scope.structs (start_of (type_of_root c root)) parts (indexes_of_steps root ixs) (type_of_root c root) ty refl refl (root_path c.scope (root_type c.scope root) parts ty h.3))
    (kinds_read (kinds_of c.scope.structs at.ty) ws (e ∙ sym (length-kinds_of c.scope.structs at.ty))))
    (read_words c (place_of c (a_location ty root parts) ixs).holder at.offset (words_of c.scope.structs at.ty) s)
    (read_long c (place_of c (a_location ty root parts) ixs).holder at.offset (words_of c.scope.structs at.ty) s)

pub place_value : (c : Context) (place : Location) → IsPlace c.scope place → HasPlaceValue c place
place_value c (a_location ty root parts) h = record {
  long = λ ixs s. yields_map (Fits c.scope.structs ty) (λ ws. length ws ≡ words_of c.scope.structs ty) (λ ws fits. fits_length c.scope.structs ty ws fits) (read_place c (a_location ty root parts) ixs s) (place_fits c (a_location ty root parts) h ixs s);
  small = h.0.1;
}

-- parts of values

kinds_slice : (front kinds back : List Kind) (ws : List ℕ) → HasKinds (front ++ (kinds ++ back)) ws → HasKinds kinds (take (length kinds) (drop (length front) ws))
kinds_slice [] kinds back ws h = kinds_front kinds back ws h
  where
    kinds_front : (kinds back : List Kind) (ws : List ℕ) → HasKinds (kinds ++ back) ws → HasKinds kinds (take (length kinds) ws)
    kinds_front [] back ws h = tt
    kinds_front (kind ∷ kinds) back [] h = absurd h
    kinds_front (kind ∷ kinds) back (w ∷ ws) h = (h.0, kinds_front kinds back ws h.1)
kinds_slice (f ∷ front) kinds back [] h = absurd h
kinds_slice (f ∷ front) kinds back (w ∷ ws) h = kinds_slice front kinds back ws h.1

part_fits : (structs : List StructDef) (whole part : Ty) (offset : ℕ) (ws : List ℕ) → PartOf structs whole offset part → Fits structs whole ws → Fits structs part (take (words_of structs part) (drop offset ws))
part_fits structs whole part offset ws p fits =
    subst (λ n. Fits structs part (take n (drop offset ws))) (length-kinds_of structs part)
    (subst (λ n. HasKinds (kinds_of structs part) (take (length (kinds_of structs part)) (drop n ws))) p.offset_is
    (kinds_slice p.front (kinds_of structs part) p.back ws (subst (λ k. HasKinds k ws) p.is fits)))

pub pick_fits : (structs : List StructDef) → AreStructs structs → (from : Ty) (parts : PathParts) (to : Ty) (ws : List ℕ) → words_of structs from ≤ most_words → IsTrue (has_literal_indexes parts) → path_type structs from parts ≡ Some to →
    Fits structs from ws → Fits structs to (picked_words structs from parts ws)
pick_fits structs are from parts to ws small literal path fits =
    let at = reached structs (start_of from) parts (literal_indexes parts) in
    picked_fits structs at to (take (words_of structs at.ty) (drop at.offset ws)) (reached_as structs (start_of from) parts (literal_indexes parts) from to refl refl path)
    (part_fits structs from at.ty at.offset ws (pick_part structs are from small (start_of from) parts from to refl refl path literal (part_whole structs from)) fits)

-- literals

literal_fits : (structs : List StructDef) (ty : Ty) (word : ℕ) → IsLiteralOf ty word → Fits structs ty (word ∷ [])
literal_fits structs void_type word h = absurd h
literal_fits structs (vector_type kind size) word h = absurd h
literal_fits structs (array_type element count) word h = absurd h
literal_fits structs (struct_type number) word h = absurd h
literal_fits structs (scalar_type BoolKind) word h = basic_fits structs (scalar_type BoolKind) (word ∷ []) refl refl (by_word word h, tt)
  where
    by_word : (word : ℕ) → word ≤ 1 → word_as BoolKind word ≡ word
    by_word zero h = refl
    by_word (suc zero) h = refl
    by_word (suc (suc word)) h = absurd (omega (arith, h))
literal_fits structs (scalar_type IntKind) word h = basic_fits structs (scalar_type IntKind) (word ∷ []) refl refl (refl, tt)
literal_fits structs (scalar_type UintKind) word h = basic_fits structs (scalar_type UintKind) (word ∷ []) refl refl (refl, tt)

-- conversions

components_of : (structs : List StructDef) (ty : Ty) → IsType structs ty → IsTrue (is_basic ty) → HasComponents ty
components_of structs void_type h basic = absurd h
components_of structs (scalar_type kind) h basic = tt
components_of structs (vector_type kind size) h basic = omega (arith, h.0)
components_of structs (array_type element count) h basic = never basic
components_of structs (struct_type number) h basic = never basic

-- what converts to something else than itself is a scalar or a vector, and so is what it converts to
convertible : (from to : Ty) → IsTrue (converts from to) → (IsTrue (is_basic from) × IsTrue (is_basic to)) ⊎ IsTrue (ty_eq from to)
convertible void_type to h = never h
convertible (scalar_type kind) void_type h = never h
convertible (scalar_type kind) (scalar_type k) h = inl (refl, refl)
convertible (scalar_type kind) (vector_type k size) h = inl (refl, refl)
convertible (scalar_type kind) (array_type element count) h = never h
convertible (scalar_type kind) (struct_type number) h = never h
convertible (vector_type kind size) void_type h = never h
convertible (vector_type kind size) (scalar_type k) h = inl (refl, refl)
convertible (vector_type kind size) (vector_type k count) h = inl (refl, refl)
convertible (vector_type kind size) (array_type element count) h = never h
convertible (vector_type kind size) (struct_type number) h = never h
convertible (array_type element count) to h = by_test (ty_eq (array_type element count) to) refl h
  where
    by_test : (b : Bool) → ty_eq (array_type element count) to ≡ b → IsTrue (is_some {T = ℕ} (if b then Some 0 else None)) → (IsTrue (is_basic (array_type element count)) × IsTrue (is_basic to)) ⊎ IsTrue (ty_eq (array_type element count) to)
    by_test true is h = inr is
    by_test false is h = never h
convertible (struct_type number) to h = by_test (ty_eq (struct_type number) to) refl h
  where
    by_test : (b : Bool) → ty_eq (struct_type number) to ≡ b → IsTrue (is_some {T = ℕ} (if b then Some 0 else None)) → (IsTrue (is_basic (struct_type number)) × IsTrue (is_basic to)) ⊎ IsTrue (ty_eq (struct_type number) to)
    by_test true is h = inr is
    by_test false is h = never h

conversion_fits : (structs : List StructDef) (from to : Ty) (ws : List ℕ) → IsType structs from → IsTrue (is_basic from) → IsTrue (is_basic to) → IsTrue (converts from to) → Fits structs from ws → Fits structs to (converted from to ws)
conversion_fits structs from to ws typed basic basic' h fits =
    converted_fits structs from to ws basic' (resized_count from to ws (components_of structs from typed basic) basic' h (basic_length structs from ws basic fits))

not_both : (b : Bool) → IsTrue b → IsTrue (not b) → ⊥
not_both true h h' = never h'
not_both false h h' = never h

-- a number converts to and from scalars and vectors alone
basic_beside : (from to : Ty) → IsTrue (is_numeric to) → IsTrue (converts from to) → IsTrue (is_basic from)
basic_beside from to numeric h = by_case (convertible from to h)
  where
    same_basic : (from to : Ty) → IsTrue (is_numeric to) → IsTrue (ty_eq from to) → IsTrue (is_basic from)
    same_basic void_type to numeric h = by_void to numeric h
      where
        by_void : (to : Ty) → IsTrue (is_numeric to) → IsTrue (ty_eq void_type to) → IsTrue (is_basic void_type)
        by_void void_type numeric h = never numeric
        by_void (scalar_type k) numeric h = never h
        by_void (vector_type k size) numeric h = never h
        by_void (array_type element count) numeric h = never h
        by_void (struct_type number) numeric h = never h
    same_basic (scalar_type kind) to numeric h = refl
    same_basic (vector_type kind size) to numeric h = refl
    same_basic (array_type element count) void_type numeric h = never h
    same_basic (array_type element count) (scalar_type k) numeric h = never h
    same_basic (array_type element count) (vector_type k size) numeric h = never h
    same_basic (array_type element count) (array_type e n) numeric h = never numeric
    same_basic (array_type element count) (struct_type number) numeric h = never h
    same_basic (struct_type number) void_type numeric h = never h
    same_basic (struct_type number) (scalar_type k) numeric h = never h
    same_basic (struct_type number) (vector_type k size) numeric h = never h
    same_basic (struct_type number) (array_type e n) numeric h = never h
    same_basic (struct_type number) (struct_type n) numeric h = never numeric

    by_case : (IsTrue (is_basic from) × IsTrue (is_basic to)) ⊎ IsTrue (ty_eq from to) → IsTrue (is_basic from)
    by_case (inl both) = both.0
    by_case (inr same) = same_basic from to numeric same

-- assignments

-- an assignment with an operator
abbrev pub IsComputing : Option ℕ → Type 0
IsComputing None = ⊥
IsComputing (Some op) = Unit {0}

computing_type : (op : ℕ) (ty : Ty) → IsTrue (is_among computing op) → IsTrue (is_numeric ty) → binary_type op ty ≡ Some ty
computing_type op ty among numeric = rw (among, numeric)

assigned_fits : (structs : List StructDef) (op : Option ℕ) (to common value : Ty) (old : Bool) (before ws : List ℕ) (s : State) → IsType structs to → IsType structs value → Assigns op to common value old → Fits structs value ws →
    (IsComputing op → Fits structs to before) → Yields (Fits structs to) (assigned op common to before ws s)
assigned_fits structs None to common value old before ws s typed typed' h fits fits' = subst (λ t. Fits structs t ws) h.1 fits
assigned_fits structs (Some op) to common value old before ws s typed typed' h fits fits' =
    let basic = basic_numeric common h.2 in
    let basic_to = basic_beside to common h.2 h.3 in
    yields_giving (Fits structs common) (Fits structs to) (converted common to)
    (λ computed f. conversion_fits structs common to computed (subst (IsType structs) h.1 typed') basic basic_to h.4 f)
    (gives (binary_words op (component_kind common) (converted to common before) ws) s)
    (gives_yields (Fits structs common) (binary_words op (component_kind common) (converted to common before) ws) s
    (binary_fits structs op common common (converted to common before) ws (computing_type op common h.0 h.2)
    (conversion_fits structs to common before typed basic_to basic h.3 (fits' tt)) (subst (λ t. Fits structs t ws) h.1 fits)))

assigned_value : (structs : List StructDef) (op : Option ℕ) (to common value : Ty) (old : Bool) (before written : List ℕ) → Assigns op to common value old → (IsComputing op → Fits structs to before) → Fits structs to written →
    Fits structs to (if old then before else written)
assigned_value structs None to common value old before written h fits fits' = subst (λ b. Fits structs to (if b then before else written)) (sym h.2) fits'
assigned_value structs (Some op) to common value true before written h fits fits' = fits tt
assigned_value structs (Some op) to common value false before written h fits fits' = fits'

assigns_fits : (c : Context) (to : Location) (op : Option ℕ) (common value : Ty) (old : Bool) (ixs ws : List ℕ) (s : State) → IsPlace c.scope to → IsType c.scope.structs (place_type to) → IsType c.scope.structs value →
    Assigns op (place_type to) common value old → Fits c.scope.structs value ws → Yields (Fits c.scope.structs (place_type to)) (assigns c to op common old ixs ws s)
assigns_fits c to op common value old ixs ws s place typed typed' h fits =
    yields_after (λ before. IsComputing op → Fits c.scope.structs (place_type to) before) (Fits c.scope.structs (place_type to)) (read_if c op to ixs s) _ (reads op)
    (λ before s1 fits_before.
    yields_after (Fits c.scope.structs (place_type to)) (Fits c.scope.structs (place_type to)) (assigned op common (place_type to) before ws s1) _
    (assigned_fits c.scope.structs op (place_type to) common value old before ws s1 typed typed' h fits fits_before)
    (λ written s2 fits_written.
    yields_giving (λ _. Unit {0}) (Fits c.scope.structs (place_type to)) (λ _. if old then before else written)
    (λ _ x. assigned_value c.scope.structs op (place_type to) common value old before written h fits_before fits_written) (write_place c to ixs written s2) (yields_any (λ _. Unit {0}) (λ _. tt) (write_place c to ixs written s2))))
  where
    reads : (op : Option ℕ) → Yields (λ before. IsComputing op → Fits c.scope.structs (place_type to) before) (read_if c op to ixs s)
    reads None = λ x. absurd x
    reads (Some op) = yields_map (Fits c.scope.structs (place_type to)) (λ before. Unit {0} → Fits c.scope.structs (place_type to) before) (λ before f x. f) (read_place c to ixs s) (place_fits c to place ixs s)

-- values of expressions in order
abbrev pub FitEach : List StructDef → List Expr → List (List ℕ) → Type 0
FitEach structs [] [] = Unit {0}
FitEach structs (e ∷ es) (ws ∷ words) = Fits structs (type_of e) ws × FitEach structs es words
FitEach structs _ _ = ⊥

fit_types : (structs : List StructDef) (es : Exprs) (words : List (List ℕ)) → FitEach structs (exprs_list es) words → FitTypes structs (types_of es) words
fit_types structs no_exprs [] h = tt
fit_types structs no_exprs (ws ∷ words) h = absurd h
fit_types structs (more_exprs first rest) [] h = absurd h
fit_types structs (more_exprs first rest) (ws ∷ words) h = (h.0, fit_types structs rest words h.1)

fit_behind : (structs : List StructDef) (xs ys : List Expr) (words : List (List ℕ)) → FitEach structs (xs ++ ys) words → FitEach structs ys (drop (length xs) words)
fit_behind structs [] ys words h = h
fit_behind structs (x ∷ xs) ys [] h = absurd h
fit_behind structs (x ∷ xs) ys (ws ∷ words) h = fit_behind structs xs ys words h.1

one_fit : (structs : List StructDef) (e : Expr) (words : List (List ℕ)) → FitEach structs (e ∷ []) words → (ws : List ℕ) × (words ≡ ws ∷ []) × Fits structs (type_of e) ws
one_fit structs e [] h = absurd h
one_fit structs e (ws ∷ []) h = (ws, refl, h.0)
one_fit structs e (ws ∷ us ∷ words) h = absurd h.1

two_fit : (structs : List StructDef) (a b : Expr) (words : List (List ℕ)) → FitEach structs (a ∷ b ∷ []) words → (x : List ℕ) × (y : List ℕ) × (words ≡ x ∷ y ∷ []) × Fits structs (type_of a) x × Fits structs (type_of b) y
two_fit structs a b [] h = absurd h
two_fit structs a b (x ∷ words) h = let rest = one_fit structs b words h.1 in (x, rest.0, ap (λ l. x ∷ l) rest.1, h.0, rest.2)

three_fit : (structs : List StructDef) (a b d : Expr) (words : List (List ℕ)) → FitEach structs (a ∷ b ∷ d ∷ []) words →
    (x : List ℕ) × (y : List ℕ) × (z : List ℕ) × (words ≡ x ∷ y ∷ z ∷ []) × Fits structs (type_of a) x × Fits structs (type_of b) y × Fits structs (type_of d) z
three_fit structs a b d [] h = absurd h
three_fit structs a b d (x ∷ words) h = let rest = two_fit structs b d words h.1 in (x, rest.0, rest.1, ap (λ l. x ∷ l) rest.2, h.0, rest.3, rest.4)

typed_of : (structs : List StructDef) (ty : Ty) → IsResult structs ty → is_void ty ≡ false → IsDeclared structs ty
typed_of structs void_type h some = absurd (true≢false some)
typed_of structs (scalar_type kind) h some = h
typed_of structs (vector_type kind size) h some = h
typed_of structs (array_type element count) h some = h
typed_of structs (struct_type number) h some = h

-- the types of an expression that has a value
value_type : (s : Scope) (e : Expr) → IsValue s e → IsDeclared s.structs (type_of e)
value_type s (an_expr ty at form) h = typed_of s.structs ty h.0.0 h.1

result_small : (structs : List StructDef) (ty : Ty) → IsResult structs ty → words_of structs ty ≤ most_words
result_small structs void_type h = subst (λ n. n ≤ most_words) (sym (words-void structs)) (omega arith)
result_small structs (scalar_type kind) h = h.1
result_small structs (vector_type kind size) h = h.1
result_small structs (array_type element count) h = h.1
result_small structs (struct_type number) h = h.1

place_typed : (s : Scope) (place : Location) → IsPlace s place → IsType s.structs (place_type place)
place_typed s (a_location ty root parts) h = h.0.0

-- a part without a value
nothing_given : {A : Type 0} (structs : List StructDef) (p : Progress A) → Yields (Fits structs void_type) (no_value p)
nothing_given structs p = yields_giving (λ a. Unit {0}) (Fits structs void_type) (λ a. []) (λ a x. nothing_fits structs) p (yields_any (λ a. Unit {0}) (λ a. tt) p)

-- each function that may be called gives words of the type of its result
abbrev pub CalleesFit : Context → Type 0
CalleesFit c =
    (function : ℕ) (d : FunctionDef) → slice_get c.scope.functions function ≡ Some d → (parameters : List (List ℕ)) (x : Exchange) → Yields (Fits c.scope.structs d.result) (slice_index_or c.callees function no_callee parameters x)

module _ (c : Context) (are : AreStructs c.scope.structs) (callees : CalleesFit c) (some_params : (function : ℕ) → ParamsSome (callee_params (slice_get c.scope.functions function))) where
  abbrev pub IsSound : Expr → Type 0
  IsSound e = IsExpr c.scope e → (s : State) → Yields (Fits c.scope.structs (type_of e)) (evaluates c e s)

  all_fit : (es : List Expr) → Every IsSound es → Every (IsValue c.scope) es → (s : State) → Yields (FitEach c.scope.structs es) (evaluate_all c es s)
  all_fit [] sound values s = tt
  all_fit (e ∷ es) sound values s =
      yields_after (Fits c.scope.structs (type_of e)) (FitEach c.scope.structs (e ∷ es)) (evaluates c e s) _ (sound.0 values.0.0 s) (λ ws s1 fits.
      yields_giving (FitEach c.scope.structs es) (FitEach c.scope.structs (e ∷ es)) (λ words. ws ∷ words) (λ words r. (fits, r)) (evaluate_all c es s1) (all_fit es sound.1 values.1 s1))

  method_fits : (resource count : ℕ) (address : Expr) (value : MaybeExpr) (ty : Ty) (words : List (List ℕ)) (s : State) → count ≤ 4 → IsMethod c.scope resource (components_type UintKind count) ty value →
      FitEach c.scope.structs (address ∷ expr_if_list value) words → Yields (Fits c.scope.structs ty) (acts c ty (method_form resource count address value) words s)
  method_fits resource count address no_expr ty words s low h fits =
      let one = one_fit c.scope.structs address words fits in
      subst (λ l. Yields (Fits c.scope.structs ty) (acts c ty (method_form resource count address no_expr) l s)) (sym one.1)
      (subst (λ t. Yields (Fits c.scope.structs t) (acts c t (method_form resource count address no_expr) (one.0 ∷ []) s)) (sym h)
      (yields_giving (λ ws. length ws ≡ 4) (Fits c.scope.structs (components_type UintKind count)) (take count) (λ ws e. loaded count ws low e) (load_four (slot_of c resource) (slice_index one.0 0) 0 s)
      (four_long (slot_of c resource) (slice_index one.0 0) 0 s)))
    where
      loaded : (count : ℕ) (ws : List ℕ) → count ≤ 4 → length ws ≡ 4 → Fits c.scope.structs (components_type UintKind count) (take count ws)
      loaded count ws low e =
          subst (λ k. HasKinds k (take count ws)) (sym (components_kinds c.scope.structs UintKind count)) (one_kind UintKind count (take count ws) (length-take count ws ∙ omega (arith, e, low)) (every_word (take count ws)))
        where
          every_word : (ws : List ℕ) → Every (λ w. word_as UintKind w ≡ w) ws
          every_word [] = tt
          every_word (w ∷ ws) = (refl, every_word ws)
  method_fits resource count address (some_expr value) ty words s low h fits =
      let two = two_fit c.scope.structs address value words fits in
      subst (λ l. Yields (Fits c.scope.structs ty) (acts c ty (method_form resource count address (some_expr value)) l s)) (sym two.2)
      (subst (λ t. Yields (Fits c.scope.structs t) (acts c t (method_form resource count address (some_expr value)) (two.0 ∷ two.1 ∷ []) s)) (sym h.0)
      (nothing_given c.scope.structs (asks (BufferStore (slot_of c resource) (slice_index two.0 0) 0 (length two.1) (take 4 (two.1 ++ replicate 4 0))) s)))

  -- an atomic operation gives no value
  atomic_fits : (target : Target) (kind : Option AtomicKind) (compare : MaybeExpr) (value : Expr) (original : MaybeLocation) (words : List (List ℕ)) (s : State) →
      Yields (Fits c.scope.structs void_type) (acts c void_type (atomic_form target kind compare value original) words s)
  atomic_fits target kind compare value original [] s = nothing_fits c.scope.structs
  atomic_fits target kind compare value original (x ∷ []) s = nothing_fits c.scope.structs
  atomic_fits target kind compare value original (x ∷ y ∷ []) s = nothing_fits c.scope.structs
  atomic_fits target kind compare value original (x ∷ y ∷ z ∷ []) s = nothing_fits c.scope.structs
  atomic_fits target kind compare value original (x ∷ y ∷ z ∷ q ∷ []) s =
      yields_after (λ w. Unit {0}) (Fits c.scope.structs void_type) (atomic_original c target kind x (slice_index y 0) (slice_index z 0) s) (λ before s1. no_value (write_if c original q (before ∷ []) s1))
      (yields_any (λ w. Unit {0}) (λ w. tt) (atomic_original c target kind x (slice_index y 0) (slice_index z 0) s)) (λ before s1 h. nothing_given c.scope.structs (write_if c original q (before ∷ []) s1))
  atomic_fits target kind compare value original (x ∷ y ∷ z ∷ q ∷ p ∷ words) s = nothing_fits c.scope.structs

  -- a form that isn't a call, on words that fit its operands
  acts_fit : (ty : Ty) (form : Form) → is_call_form form ≡ false → IsForm c.scope ty form → Every (IsValue c.scope) (operand_exprs form) → (words : List (List ℕ)) (s : State) → FitEach c.scope.structs (operand_exprs form) words →
      Yields (Fits c.scope.structs ty) (acts c ty form (grouped form words) s)
  acts_fit ty (literal_form word) _ h values words s fits = literal_fits c.scope.structs ty word h
  acts_fit ty (read_form place) _ h values words s fits = subst (λ t. Yields (Fits c.scope.structs t) (read_place c place (concat words) s)) h.1 (place_fits c place h.0 (concat words) s)
  acts_fit ty (write_form to op common value old) _ h values words s fits =
      let one = one_fit c.scope.structs value (drop (length (place_exprs to)) words) (fit_behind c.scope.structs (place_exprs to) (value ∷ []) words fits) in
      let value_is = every_back (IsValue c.scope) (place_exprs to) (value ∷ []) values in
      subst (λ l. Yields (Fits c.scope.structs ty) (acts c ty (write_form to op common value old) (concat (take (length (place_exprs to)) words) ∷ l) s)) (sym one.1)
      (subst (λ t. Yields (Fits c.scope.structs t) (assigns c to op common old (concat (take (length (place_exprs to)) words)) one.0 s)) h.2
      (assigns_fits c to op common (type_of value) old (concat (take (length (place_exprs to)) words)) one.0 s h.0 (place_typed c.scope to h.0) (value_type c.scope value value_is.0).0
      (subst (λ t. Assigns op t common (type_of value) old) (sym h.2) h.4) one.2))
  acts_fit ty (convert_form value) _ h values words s fits =
      let one = one_fit c.scope.structs value words fits in
      subst (λ l. Yields (Fits c.scope.structs ty) (acts c ty (convert_form value) l s)) (sym one.1) (by_case (convertible (type_of value) ty h.1) one.0 one.2)
    where
      by_case : (IsTrue (is_basic (type_of value)) × IsTrue (is_basic ty)) ⊎ IsTrue (ty_eq (type_of value) ty) → (ws : List ℕ) → Fits c.scope.structs (type_of value) ws → Fits c.scope.structs ty (converted (type_of value) ty ws)
      by_case (inl basic) ws fits = conversion_fits c.scope.structs (type_of value) ty ws (value_type c.scope value values.0).0 basic.0 basic.1 h.1 fits
      by_case (inr same) ws fits = absurd (not_both (ty_eq (type_of value) ty) same h.2)
  acts_fit ty (unary_form op value) _ h values words s fits =
      let one = one_fit c.scope.structs value words fits in
      subst (λ l. Yields (Fits c.scope.structs ty) (acts c ty (unary_form op value) l s)) (sym one.1) (unary_fits c.scope.structs op (type_of value) ty one.0 h.1 one.2)
  acts_fit ty (binary_form op left right) _ h values words s fits =
      let two = two_fit c.scope.structs left right words fits in
      subst (λ l. Yields (Fits c.scope.structs ty) (acts c ty (binary_form op left right) l s)) (sym two.2)
      (gives_yields (Fits c.scope.structs ty) (binary_words op (component_kind (type_of left)) two.0 two.1) s
      (binary_fits c.scope.structs op (type_of left) ty two.0 two.1 h.3 two.3 (subst (λ t. Fits c.scope.structs t two.1) (sym h.2) two.4)))
  acts_fit ty (choose_form cond consequent alternative) _ h values words s fits =
      let three = three_fit c.scope.structs cond consequent alternative words fits in
      subst (λ l. Yields (Fits c.scope.structs ty) (acts c ty (choose_form cond consequent alternative) l s)) (sym three.3)
      (chosen_fits c.scope.structs ty three.0 three.1 three.2 h.6 (subst (λ t. Fits c.scope.structs t three.0) h.3 three.4) (subst (λ t. Fits c.scope.structs t three.1) h.4 three.5)
      (subst (λ t. Fits c.scope.structs t three.2) h.5 three.6))
  acts_fit ty (build_form parts) _ h values words s fits = built_fits c.scope.structs ty (types_of parts) words h.1 (fit_types c.scope.structs parts words fits)
  acts_fit ty (pick_form value parts) _ h values words s fits =
      let one = one_fit c.scope.structs value words fits in
      subst (λ l. Yields (Fits c.scope.structs ty) (acts c ty (pick_form value parts) l s)) (sym one.1)
      (pick_fits c.scope.structs are (type_of value) parts ty one.0 (value_type c.scope value values.0).1 h.2 h.4 one.2)
  acts_fit ty (call_form function args) e h values words s fits = absurd (true≢false e)
  acts_fit ty (intrinsic_form number args) _ h values words s fits = intrinsic_fits c.scope.structs c number (types_of args) ty words s h.1 (fit_types c.scope.structs args words fits)
  acts_fit ty (method_form resource count address value) _ h values words s fits = method_fits resource count address value ty words s h.2 h.5 fits
  acts_fit ty (atomic_form target kind compare value original) _ h values words s fits =
      subst (λ t. Yields (Fits c.scope.structs t) (acts c t (atomic_form target kind compare value original) (grouped (atomic_form target kind compare value original) words) s)) (sym h.0) (atomic_fits target kind compare value original (grouped (atomic_form target kind compare value original) words) s)

  plain_sound : (ty : Ty) (at : ℕ) (form : Form) → is_call_form form ≡ false → Every IsSound (operand_exprs form) → IsSound (an_expr ty at form)
  plain_sound ty at form plain sound h s =
      let values = form_values c.scope some_params ty form h.1 in
      subst (Yields (Fits c.scope.structs ty)) (sym (ap (λ p. after p (acts c ty form)) (operands_all c form s plain) ∙ after_giving (grouped form) (evaluate_all c (operand_exprs form) s) (acts c ty form)))
      (yields_after (FitEach c.scope.structs (operand_exprs form)) (Fits c.scope.structs ty) (evaluate_all c (operand_exprs form) s) (λ words s1. acts c ty form (grouped form words) s1) (all_fit (operand_exprs form) sound values s)
      (λ words s1 fits. acts_fit ty form plain h.1 values words s1 fits))

  call_sound : (ty : Ty) (at function : ℕ) (args : Args) → IsSound (an_expr ty at (call_form function args))
  call_sound ty at function args h s = by_function (slice_get c.scope.functions function) refl h.1.0
    where
      by_function : (o : Option FunctionDef) → slice_get c.scope.functions function ≡ o → callee_result o ≡ Some ty → Yields (Fits c.scope.structs ty) (evaluates c (an_expr ty at (call_form function args)) s)
      by_function None is result = absurd (none-some ty result)
      by_function (Some d) is result =
          yields_after (λ words. Unit {0}) (Fits c.scope.structs ty) (arguments c args (parameters_of c function) s) _ (yields_any (λ words. Unit {0}) (λ words. tt) (arguments c args (parameters_of c function) s)) (λ words s1 x.
          yields_after (Fits c.scope.structs ty) (Fits c.scope.structs ty) (slice_index_or c.callees function no_callee (initial_parameters words) s1.exchange) _
          (subst (λ t. Yields (Fits c.scope.structs t) (slice_index_or c.callees function no_callee (initial_parameters words) s1.exchange)) (same_Some d.result ty result) (callees function d is (initial_parameters words) s1.exchange))
          (λ result ended fits.
          yields_giving (λ _. Unit {0}) (Fits c.scope.structs ty) (λ _. result) (λ _ y. fits) (copies_out c args words ended.variables (record s1 { exchange = ended.exchange }))
          (yields_any (λ _. Unit {0}) (λ _. tt) (copies_out c args words ended.variables (record s1 { exchange = ended.exchange })))))

  sound_step : Step IsSound
  sound_step ty at (literal_form word) sound = plain_sound ty at (literal_form word) refl sound
  sound_step ty at (read_form place) sound = plain_sound ty at (read_form place) refl sound
  sound_step ty at (write_form to op common value old) sound = plain_sound ty at (write_form to op common value old) refl sound
  sound_step ty at (convert_form value) sound = plain_sound ty at (convert_form value) refl sound
  sound_step ty at (unary_form op value) sound = plain_sound ty at (unary_form op value) refl sound
  sound_step ty at (binary_form op left right) sound = plain_sound ty at (binary_form op left right) refl sound
  sound_step ty at (choose_form cond consequent alternative) sound = plain_sound ty at (choose_form cond consequent alternative) refl sound
  sound_step ty at (build_form parts) sound = plain_sound ty at (build_form parts) refl sound
  sound_step ty at (pick_form value parts) sound = plain_sound ty at (pick_form value parts) refl sound
  sound_step ty at (call_form function args) sound = call_sound ty at function args
  sound_step ty at (intrinsic_form number args) sound = plain_sound ty at (intrinsic_form number args) refl sound
  sound_step ty at (method_form resource count address value) sound = plain_sound ty at (method_form resource count address value) refl sound
  sound_step ty at (atomic_form target kind compare value original) sound = plain_sound ty at (atomic_form target kind compare value original) refl sound

  pub sound : (e : Expr) → IsExpr c.scope e → HasValue c e
  sound (an_expr ty at form) h = record { fits = λ s. by_operands IsSound sound_step (an_expr ty at form) h s; small = result_small c.scope.structs ty h.0 }
