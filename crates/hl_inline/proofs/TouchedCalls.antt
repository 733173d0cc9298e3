-- What calls index, and what becomes of them.
use Rattle.std.proofs.Common.{◌≡◌, ◌∙◌, refl, sym, ap, subst, ℕ, suc, ◌+◌, ◌<◌, ◌≤◌, ◌⊎◌, inl, inr, Bool, true, false, List, [], ◌∷◌, ◌++◌, Some, length, length-append, map, append_assoc, arith}
use Rattle.std.specs.Prelude.{◌||◌}
use Rattle.std.specs.List.{list_any}
use Rattle.std.specs.List.Sorted.{IsPermutation}
use Rattle.std.proofs.lemmas.Bool.{true≢false}
use Rattle.std.proofs.lemmas.Grind.{flat_map-append}
use Rattle.std.proofs.lemmas.List.{append-nil}
use Rattle.std.proofs.lemmas.List.Folds.{list_any-append}
use Rattle.std.proofs.lemmas.List.Sorted.{IsPermutation-append, IsPermutation-append_comm, IsPermutation-append_left, IsPermutation-refl, IsPermutation-trans}
use Rattle.hl_meaning.specs.declared.program.Copying.{Copying}
use Rattle.hl_meaning.specs.declared.program.Copying.TheVariants.{CopyBoth, CopyIn, CopyOut}
use Rattle.hl_meaning.specs.declared.program.Parameter.{Parameter}
use Rattle.hl_meaning.specs.Types.{Ty}
use Rattle.hl_meaning.specs.Trees.{Arg, Args, Expr, Location, an_expr, call_form, more_args, no_args, place_arg, place_type, value_arg}
use Rattle.hl_meaning.specs.Programs.{StructDef, Variable}
use Rattle.hl_inline.specs.FlatTrees.{FlatStmt, flat_block, flat_local, flat_named}
use Rattle.hl_inline.specs.FlatViews.{flat_stmts_of}
use Rattle.hl_inline.specs.IndexedVariables.{CallTree, call_tree_of, indexed_from, indexes_constant, indexes_variable, lengths_where}
use Rattle.hl_inline.specs.Occurrences.{Occurrence, args_occurrences, call_occurrence, expr_occurrences, location_occurrences}
use Rattle.hl_inline.specs.Operands.{filled_place}
use Rattle.typed_laws.specs.Operands.{place_exprs}
use Rattle.hl_inline.specs.EmittedCode.{EmittedCode}
use Rattle.hl_inline.specs.Emitting.{Emitter, Valued, Values, emit_all, reading}
use Rattle.hl_inline.specs.Fresh.{Fresh, Instance, next_of}
use Rattle.hl_inline.specs.InlinedCalls.{Inlined, Passed, around_body, call, copy_back, instance_of, pass_all, passed_with, result_variables, start_value, with_instance}
use Rattle.typed_laws.proofs.Induction.{Every}
use Rattle.hl_inline.proofs.FilledLemmas.{place_filled}
use Rattle.hl_inline.proofs.OperandLemmas.{args_by}
use Rattle.hl_inline.proofs.Touching.{Touches, indexed-by, lengths-append, lengths-none, lengths-same, or_both, or_false, or_true, reached_lengths, reached_occurrences, touched, touches_both, touches_none, touches_same, untouched}
use Rattle.hl_inline.proofs.TouchedForms.{PlaceFits, list_occurrences, own_place, place_occurrences_are, place_touches}
use Rattle.hl_inline.proofs.TouchedNodes.{EmitsOccurrences, EmittedAs, ValuesAs, all_as, grown_next, occurrences-append, occurrences_of, touched-append, untouched_reading}

-- what becomes of arguments, and of what is written back behind the call, indexes what the arguments do
pub record PassedOccurrences (structs : List StructDef) (before : List CallTree) (constants first size : ℕ) (occurrences : List Occurrence) (fresh : Fresh) (x : Passed) : Type 0 where
  pub new : List Variable
  pub grows : x.fresh.variables ≡ fresh.variables ++ new
  pub touches : Touches structs before constants first size (next_of fresh) occurrences (touched (occurrences_of x.code ++ occurrences_of x.copies)) new

module _ (structs : List StructDef) (before : List CallTree) (constants first size : ℕ) (high : constants ≤ first) (em : Expr → Emitter) where
  -- ---- arguments

  abbrev pub ArgOccurrences : Arg → Type 0
  ArgOccurrences (value_arg value) = EmitsOccurrences structs before constants first size value (em value)
  ArgOccurrences (place_arg place) = PlaceFits size constants place × Every (λ e. EmitsOccurrences structs before constants first size e (em e)) (place_exprs place)

  -- one argument for each parameter
  abbrev pub ArgsOccurrences : Args → List Parameter → Type 0
  ArgsOccurrences no_args parameters = Unit {0}
  ArgsOccurrences (more_args arg rest) [] = ⊥
  ArgsOccurrences (more_args arg rest) (p ∷ parameters) = ArgOccurrences arg × ArgsOccurrences rest parameters

  or_more : (a b d e : Bool) → ((a || d) || (b || e)) ≡ ((a || b) || (d || e))
  or_more true b d e = refl
  or_more false true true e = refl
  or_more false false true e = refl
  or_more false true false e = refl
  or_more false false false e = refl

  -- one argument behind others
  passed_more : (occurrences rest_occurrences_are : List Occurrence) (fresh middle : Fresh) (code copies : List FlatStmt) (new : List Variable) (rest : Passed) → first + size ≤ next_of fresh → middle.variables ≡ fresh.variables ++ new →
      Touches structs before constants first size (next_of fresh) occurrences (touched (occurrences_of code ++ occurrences_of copies)) new → PassedOccurrences structs before constants first size rest_occurrences_are middle rest → PassedOccurrences structs before constants first size (occurrences ++ rest_occurrences_are) fresh (passed_with code copies rest)
  passed_more occurrences rest_occurrences_are fresh middle code copies new rest room grows touches others = record {
    new = new ++ others.new;
    grows = others.grows ∙ (ap (λ l. l ++ others.new) grows ∙ append_assoc fresh.variables new others.new);
    touches = touches_same structs before constants first size (next_of fresh) (occurrences ++ rest_occurrences_are) _ _ _ same
        (touches_both structs before constants first size high (next_of fresh) (next_of middle) room occurrences rest_occurrences_are _ _ new others.new (grown_next fresh middle new grows) touches others.touches);
  }
    where
      same : (n : ℕ) → (touched (occurrences_of code ++ occurrences_of copies) n || touched (occurrences_of rest.code ++ occurrences_of rest.copies) n) ≡ touched (occurrences_of (code ++ rest.code) ++ occurrences_of (copies ++ rest.copies)) n
      same n =
          or_both _ _ _ _ (touched-append (occurrences_of code) (occurrences_of copies) n) (touched-append (occurrences_of rest.code) (occurrences_of rest.copies) n) ∙
          (or_more (touched (occurrences_of code) n) (touched (occurrences_of rest.code) n) (touched (occurrences_of copies) n) (touched (occurrences_of rest.copies) n) ∙
          sym (touched-append (occurrences_of (code ++ rest.code)) (occurrences_of (copies ++ rest.copies)) n ∙
          or_both _ _ _ _ (ap (λ l. touched l n) (occurrences-append code rest.code) ∙ touched-append (occurrences_of code) (occurrences_of rest.code) n)
          (ap (λ l. touched l n) (occurrences-append copies rest.copies) ∙ touched-append (occurrences_of copies) (occurrences_of rest.copies) n)))

  -- a value
  value_touches : (e : Expr) (number : ℕ) (fresh : Fresh) (x : Valued) (emitted : EmittedAs structs before constants first size e fresh x) →
      Touches structs before constants first size (next_of fresh) (expr_occurrences e) (touched (occurrences_of (x.code ++ flat_local number (Some x.value) ∷ []) ++ [])) emitted.new
  value_touches e number fresh x emitted =
      touches_same structs before constants first size (next_of fresh) (expr_occurrences e) _ _ emitted.new
      (λ n. sym (ap (λ l. touched l n) (append-nil (occurrences_of (x.code ++ flat_local number (Some x.value) ∷ [])) ∙
      (occurrences-append x.code (flat_local number (Some x.value) ∷ []) ∙ ap (λ l. occurrences_of x.code ++ l) (append-nil (expr_occurrences x.value))))))
      emitted.touches

  -- a place that is written behind the call, and may be read before it
  abbrev to_place : Location → Values → Location
  to_place place x = filled_place first place x.values

  abbrev place_code : (number : ℕ) → Copying → (at : ℕ) → Location → Values → List FlatStmt
  place_code number copying at place x = x.code ++ flat_local number (start_value copying (to_place place x) at) ∷ []

  or_place : (c o v : Bool) → (o || (c || v)) ≡ ((c || false) || ((o || v) || false))
  or_place true true v = refl
  or_place true false v = refl
  or_place false true v = refl
  or_place false false true = refl
  or_place false false false = refl

  or_place_twice : (c o v : Bool) → (o || (c || v)) ≡ ((c || (o || v)) || ((o || v) || false))
  or_place_twice true true v = refl
  or_place_twice true false v = refl
  or_place_twice false true v = refl
  or_place_twice false false true = refl
  or_place_twice false false false = refl

  -- what is written back
  copied_occurrences_are : (at number : ℕ) (place : Location) (n : ℕ) → touched (occurrences_of (copy_back place at number ∷ [])) n ≡ (touched (location_occurrences place) n || false)
  copied_occurrences_are at number place n =
      ap (λ l. touched l n) (append-nil (location_occurrences place ++ expr_occurrences (reading (place_type place) at number))) ∙
      (touched-append (location_occurrences place) (expr_occurrences (reading (place_type place) at number)) n ∙
      ap (λ b. touched (location_occurrences place) n || b) (untouched_reading (place_type place) at number n))

  place_part : (place : Location) (x : Values) → length x.values ≡ length (place_exprs place) → (n : ℕ) →
      touched (location_occurrences (to_place place x)) n ≡ (touched (own_place (to_place place x)) n || touched (list_occurrences x.values) n)
  place_part place x count n =
      ap (λ l. touched l n) (place_occurrences_are (to_place place x) ∙ ap (λ es. own_place (to_place place x) ++ list_occurrences es)
      (ap (λ l. place_exprs (filled_place first place l)) (sym (append-nil x.values)) ∙ place_filled first place x.values [] count)) ∙
      touched-append (own_place (to_place place x)) (list_occurrences x.values) n

  place_passed_touches : (at number : ℕ) (copying : Copying) (place : Location) (fresh : Fresh) (x : Values) → first + size ≤ next_of fresh → PlaceFits size constants place →
      (values : ValuesAs structs before constants first size (place_exprs place) fresh x) →
      Touches structs before constants first size (next_of fresh) (location_occurrences place)
      (touched (occurrences_of (place_code number copying at place x) ++ occurrences_of (copy_back (to_place place x) at number ∷ []))) values.new
  place_passed_touches at number copying place fresh x room fits values =
      touches_same structs before constants first size (next_of fresh) (location_occurrences place) _ _ values.new (same copying)
      (subst (λ l. Touches structs before constants first size (next_of fresh) l (λ n. touched (own_place (to_place place x)) n || touched (occurrences_of x.code ++ list_occurrences x.values) n) values.new) (sym (place_occurrences_are place))
      (touches_both structs before constants first size high (next_of fresh) (next_of fresh) room (own_place place) (list_occurrences (place_exprs place)) _ _ [] values.new (omega arith)
      (place_touches structs before constants first size (next_of fresh) high room place x.values fits values.literals) values.touches))
    where
      own : ℕ → Bool
      own n = touched (own_place (to_place place x)) n

      parts : (n : ℕ) → (own n || touched (occurrences_of x.code ++ list_occurrences x.values) n) ≡ (own n || (touched (occurrences_of x.code) n || touched (list_occurrences x.values) n))
      parts n = ap (λ b. own n || b) (touched-append (occurrences_of x.code) (list_occurrences x.values) n)

      whole : (copying : Copying) (n : ℕ) → touched (occurrences_of (place_code number copying at place x) ++ occurrences_of (copy_back (to_place place x) at number ∷ [])) n ≡
          ((touched (occurrences_of x.code) n || touched (occurrences_of (flat_local number (start_value copying (to_place place x) at) ∷ [])) n) || ((own n || touched (list_occurrences x.values) n) || false))
      whole copying n =
          touched-append (occurrences_of (place_code number copying at place x)) (occurrences_of (copy_back (to_place place x) at number ∷ [])) n ∙
          or_both _ _ _ _ (ap (λ l. touched l n) (occurrences-append x.code (flat_local number (start_value copying (to_place place x) at) ∷ [])) ∙
          touched-append (occurrences_of x.code) (occurrences_of (flat_local number (start_value copying (to_place place x) at) ∷ [])) n)
          (copied_occurrences_are at number (to_place place x) n ∙ ap (λ b. b || false) (place_part place x values.count n))

      started : (n : ℕ) → touched (location_occurrences (to_place place x) ++ []) n ≡ (own n || touched (list_occurrences x.values) n)
      started n = ap (λ l. touched l n) (append-nil (location_occurrences (to_place place x))) ∙ place_part place x values.count n

      same : (copying : Copying) (n : ℕ) → (own n || touched (occurrences_of x.code ++ list_occurrences x.values) n) ≡
          touched (occurrences_of (place_code number copying at place x) ++ occurrences_of (copy_back (to_place place x) at number ∷ [])) n
      same CopyOut n = parts n ∙ (or_place (touched (occurrences_of x.code) n) (own n) (touched (list_occurrences x.values) n) ∙ sym (whole CopyOut n))
      same CopyIn n = parts n ∙ (or_place_twice (touched (occurrences_of x.code) n) (own n) (touched (list_occurrences x.values) n) ∙
          sym (whole CopyIn n ∙ ap (λ b. (touched (occurrences_of x.code) n || b) || ((own n || touched (list_occurrences x.values) n) || false)) (started n)))
      same CopyBoth n = parts n ∙ (or_place_twice (touched (occurrences_of x.code) n) (own n) (touched (list_occurrences x.values) n) ∙
          sym (whole CopyBoth n ∙ ap (λ b. (touched (occurrences_of x.code) n || b) || ((own n || touched (list_occurrences x.values) n) || false)) (started n)))

  -- arguments in order
  pub passed_as : (i : Instance) → i.first ≡ first → (at number : ℕ) (args : Args) (parameters : List Parameter) → ArgsOccurrences args parameters → (fresh : Fresh) → first + size ≤ next_of fresh →
      PassedOccurrences structs before constants first size (args_occurrences args) fresh (pass_all i at number (args_by em args) parameters fresh)
  passed_as i is at number no_args parameters ready fresh room = nothing parameters
    where
      nothing : (parameters : List Parameter) → PassedOccurrences structs before constants first size [] fresh (pass_all i at number [] parameters fresh)
      nothing [] = record {
        new = [];
        grows = sym (append-nil fresh.variables);
        touches = touches_same structs before constants first size (next_of fresh) [] _ _ [] (λ n. refl) (touches_none structs before constants first size (next_of fresh));
      }
      nothing (p ∷ parameters) = record {
        new = [];
        grows = sym (append-nil fresh.variables);
        touches = touches_same structs before constants first size (next_of fresh) [] _ _ [] (λ n. refl) (touches_none structs before constants first size (next_of fresh));
      }
  passed_as i is at number (more_args (value_arg value) rest) [] ready fresh room = absurd ready
  passed_as i is at number (more_args (place_arg place) rest) [] ready fresh room = absurd ready
  passed_as i is at number (more_args (value_arg value) rest) (p ∷ parameters) ready fresh room =
      passed_more (expr_occurrences value) (args_occurrences rest) fresh x.fresh (x.code ++ flat_local number (Some x.value) ∷ []) [] emitted.new (pass_all i at (suc number) (args_by em rest) parameters x.fresh) room emitted.grows
      (value_touches value number fresh x emitted)
      (passed_as i is at (suc number) rest parameters ready.1 x.fresh (omega (arith, room, grown_next fresh x.fresh emitted.new emitted.grows)))
    where
      x : Valued
      x = (em value).emit fresh

      emitted : EmittedAs structs before constants first size value fresh x
      emitted = ready.0 fresh room
  passed_as i is at number (more_args (place_arg place) rest) (p ∷ parameters) ready fresh room =
      subst (λ k. PassedOccurrences structs before constants first size (location_occurrences place ++ args_occurrences rest) fresh (passed_with (x.code ++ flat_local number (start_value p.copying (filled_place k place x.values) at) ∷ [])
      (copy_back (filled_place k place x.values) at number ∷ []) (pass_all i at (suc number) (args_by em rest) parameters x.fresh))) (sym is)
      (passed_more (location_occurrences place) (args_occurrences rest) fresh x.fresh (place_code number p.copying at place x) (copy_back (to_place place x) at number ∷ []) values.new
      (pass_all i at (suc number) (args_by em rest) parameters x.fresh) room values.grows
      (place_passed_touches at number p.copying place fresh x room ready.0.0 values)
      (passed_as i is at (suc number) rest parameters ready.1 x.fresh (omega (arith, room, grown_next fresh x.fresh values.new values.grows))))
    where
      x : Values
      x = emit_all true (map em (place_exprs place)) fresh

      values : ValuesAs structs before constants first size (place_exprs place) fresh x
      values = all_as structs before constants first size high em true (place_exprs place) ready.0.1 fresh room

-- ---- functions

-- what the body of a function indexes in place
pub record BodyAs (structs : List StructDef) (before : List CallTree) (constants : ℕ) (occurrences : List Occurrence) (own : Instance) (count : ℕ) (fresh : Fresh) (x : EmittedCode) : Type 0 where
  pub new : List Variable
  pub grows : x.fresh.variables ≡ fresh.variables ++ new
  pub touches : Touches structs before constants own.first count (next_of fresh) occurrences (touched (occurrences_of x.code)) new

-- a function in place indexes what is reached by it
pub record CalleeAs (structs : List StructDef) (constants : ℕ) (r : CallTree) (g : Inlined) : Type 0 where
  pub before : List CallTree
  pub occurrences : List Occurrence
  pub lengths : r.lengths ≡ indexed_from structs occurrences 0 g.variables ++ reached_lengths before occurrences
  pub whole : r.occurrences ≡ occurrences ++ reached_occurrences before occurrences
  pub body : (own : Instance) (fresh : Fresh) → constants ≤ own.first → own.first + length g.variables ≤ next_of fresh → BodyAs structs before constants occurrences own (length g.variables) fresh (g.body own fresh)

module _ (structs : List StructDef) (before : List CallTree) (constants first size : ℕ) (high : constants ≤ first) where
  or_call : (a b d : Bool) → ((a || d) || b) ≡ ((a || (b || d)) || false)
  or_call true b d = refl
  or_call false true true = refl
  or_call false false true = refl
  or_call false true false = refl
  or_call false false false = refl

  or_occurrences : (a b d e : Bool) → ((a || b) || (d || e)) ≡ ((a || false) || (b || ((d || e) || false)))
  or_occurrences true b d e = refl
  or_occurrences false true d e = refl
  or_occurrences false false true e = refl
  or_occurrences false false false true = refl
  or_occurrences false false false false = refl

  module _ (function : ℕ) (g : Inlined) (callee : CalleeAs structs constants (call_tree_of before (call_occurrence function)) g) (passed_occurrences : List Occurrence) (ty : Ty) (at : ℕ) (fresh : Fresh) (room : first + size ≤ next_of fresh)
      (x : Passed) (passed : PassedOccurrences structs before constants first size passed_occurrences (with_instance g ty at fresh) x) where
    abbrev own : Instance
    own = instance_of g fresh

    abbrev with_own : Fresh
    with_own = with_instance g ty at fresh

    there : BodyAs structs callee.before constants callee.occurrences own (length g.variables) x.fresh (g.body own x.fresh)
    there = callee.body own x.fresh (omega (arith, high, room)) (omega (arith, grown_next with_own x.fresh passed.new passed.grows, length-append fresh.variables (g.variables ++ result_variables ty at), length-append g.variables (result_variables ty at)))

    own_count : next_of with_own ≡ next_of fresh + (length g.variables + length (result_variables ty at))
    own_count = length-append fresh.variables (g.variables ++ result_variables ty at) ∙ ap (λ k. next_of fresh + k) (length-append g.variables (result_variables ty at))

    passed_count : next_of x.fresh ≡ next_of with_own + length passed.new
    passed_count = grown_next with_own x.fresh passed.new passed.grows

    abbrev by_args : ℕ → Bool
    by_args n = touched (occurrences_of x.code ++ occurrences_of x.copies) n

    abbrev by_body : ℕ → Bool
    by_body n = touched (occurrences_of (g.body own x.fresh).code) n

    abbrev by_both : ℕ → Bool
    by_both n = by_args n || by_body n

    args_quiet : (n : ℕ) → next_of fresh ≤ n → (n < next_of with_own) ⊎ (next_of with_own + length passed.new ≤ n) → by_args n ≡ false
    args_quiet n high_n past = untouched structs before constants first size (next_of with_own) passed_occurrences by_args passed.new passed.touches n (omega (arith, high, room, high_n)) (inr (omega (arith, room, high_n))) past

    body_quiet : (n : ℕ) → constants ≤ n → (n < next_of fresh) ⊎ (next_of fresh + length g.variables ≤ n) → (n < next_of x.fresh) ⊎ (next_of x.fresh + length there.new ≤ n) → by_body n ≡ false
    body_quiet n high_n apart past = untouched structs callee.before constants own.first (length g.variables) (next_of x.fresh) callee.occurrences by_body there.new there.touches n high_n apart past

    abbrev new : List Variable
    new = (g.variables ++ result_variables ty at) ++ (passed.new ++ there.new)

    own_lengths : lengths_where structs by_both (next_of fresh) g.variables ≡ indexed_from structs callee.occurrences 0 g.variables
    own_lengths =
        lengths-same structs by_both (touched callee.occurrences) (next_of fresh) 0 g.variables (λ j low.
        ap (λ b. b || by_body (next_of fresh + j)) (args_quiet (next_of fresh + j) (omega arith) (inl (omega (arith, low, own_count)))) ∙ (there.touches.own j low ∙ ap (touched callee.occurrences) (omega arith))) ∙
        sym (indexed-by structs callee.occurrences 0 g.variables)

    result_lengths : lengths_where structs by_both (next_of fresh + length g.variables) (result_variables ty at) ≡ []
    result_lengths = lengths-none structs by_both (next_of fresh + length g.variables) (result_variables ty at) (λ j low.
        or_both _ _ _ _ (args_quiet ((next_of fresh + length g.variables) + j) (omega arith) (inl (omega (arith, low, own_count))))
        (body_quiet ((next_of fresh + length g.variables) + j) (omega (arith, high, room)) (inr (omega arith)) (inl (omega (arith, low, own_count, passed_count)))))

    args_lengths : lengths_where structs by_both (next_of with_own) passed.new ≡ lengths_where structs by_args (next_of with_own) passed.new
    args_lengths = lengths-same structs by_both by_args (next_of with_own) (next_of with_own) passed.new (λ j low.
        or_false _ _ (body_quiet (next_of with_own + j) (omega (arith, high, room, own_count)) (inr (omega (arith, own_count))) (inl (omega (arith, low, passed_count)))))

    body_lengths : lengths_where structs by_both (next_of x.fresh) there.new ≡ lengths_where structs by_body (next_of x.fresh) there.new
    body_lengths = lengths-same structs by_both by_body (next_of x.fresh) (next_of x.fresh) there.new (λ j low.
        ap (λ b. b || by_body (next_of x.fresh + j)) (args_quiet (next_of x.fresh + j) (omega (arith, own_count, passed_count)) (inr (omega (arith, passed_count)))))

    all_lengths : lengths_where structs by_both (next_of fresh) new ≡
        indexed_from structs callee.occurrences 0 g.variables ++ (lengths_where structs by_args (next_of with_own) passed.new ++ lengths_where structs by_body (next_of x.fresh) there.new)
    all_lengths =
        lengths-append structs by_both (next_of fresh) (g.variables ++ result_variables ty at) (passed.new ++ there.new) ∙
        or_lists _ _ _ _ (lengths-append structs by_both (next_of fresh) g.variables (result_variables ty at) ∙ (ap (λ l. l ++ lengths_where structs by_both (next_of fresh + length g.variables) (result_variables ty at)) own_lengths ∙
        (ap (λ l. indexed_from structs callee.occurrences 0 g.variables ++ l) result_lengths ∙ append-nil (indexed_from structs callee.occurrences 0 g.variables))))
        (ap (λ k. lengths_where structs by_both k (passed.new ++ there.new)) (ap (λ k. next_of fresh + k) (length-append g.variables (result_variables ty at)) ∙ sym own_count) ∙
        (lengths-append structs by_both (next_of with_own) passed.new there.new ∙
        or_lists _ _ _ _ args_lengths (ap (λ k. lengths_where structs by_both k there.new) (sym passed_count) ∙ body_lengths)))
      where
        or_lists : (us vs ws xs : List ℕ) → us ≡ ws → vs ≡ xs → us ++ vs ≡ ws ++ xs
        or_lists us vs ws xs e f = ap (λ l. l ++ vs) e ∙ ap (λ l. ws ++ l) f

    -- what the call indexes
    abbrev all_occurrences : List Occurrence
    all_occurrences = passed_occurrences ++ call_occurrence function ∷ []

    no_call : (p : Occurrence → Bool) → p (call_occurrence function) ≡ false → list_any p all_occurrences ≡ (list_any p passed_occurrences || false)
    no_call p is = list_any-append p passed_occurrences (call_occurrence function ∷ []) ∙ ap (λ b. list_any p passed_occurrences || (b || false)) is

    call_reached_occurrences_are : reached_occurrences before all_occurrences ≡ reached_occurrences before passed_occurrences ++ (callee.occurrences ++ reached_occurrences callee.before callee.occurrences)
    call_reached_occurrences_are = flat_map-append (λ m. (call_tree_of before m).occurrences) passed_occurrences (call_occurrence function ∷ []) ∙
        ap (λ l. reached_occurrences before passed_occurrences ++ l) (append-nil (call_tree_of before (call_occurrence function)).occurrences ∙ callee.whole)

    call_reached_lengths : reached_lengths before all_occurrences ≡ reached_lengths before passed_occurrences ++ (indexed_from structs callee.occurrences 0 g.variables ++ reached_lengths callee.before callee.occurrences)
    call_reached_lengths = flat_map-append (λ m. (call_tree_of before m).lengths) passed_occurrences (call_occurrence function ∷ []) ∙
        ap (λ l. reached_lengths before passed_occurrences ++ l) (append-nil (call_tree_of before (call_occurrence function)).lengths ∙ callee.lengths)

    to_front : (us vs ws : List ℕ) → IsPermutation (us ++ (vs ++ ws)) (vs ++ (us ++ ws))
    to_front us vs ws =
        subst (λ l. IsPermutation l (vs ++ (us ++ ws))) (append_assoc us vs ws)
        (subst (IsPermutation ((us ++ vs) ++ ws)) (append_assoc vs us ws) (IsPermutation-append_left ws (us ++ vs) (vs ++ us) (IsPermutation-append_comm us vs)))

    lengths_alike : IsPermutation (lengths_where structs by_both (next_of fresh) new) (reached_lengths before all_occurrences)
    lengths_alike =
        subst (λ l. IsPermutation l (reached_lengths before all_occurrences)) (sym all_lengths)
        (subst (IsPermutation (indexed_from structs callee.occurrences 0 g.variables ++ (lengths_where structs by_args (next_of with_own) passed.new ++ lengths_where structs by_body (next_of x.fresh) there.new))) (sym call_reached_lengths)
        (IsPermutation-trans _ _ _
        (IsPermutation-append _ _ _ _ (IsPermutation-refl (indexed_from structs callee.occurrences 0 g.variables)) (IsPermutation-append _ _ _ _ passed.touches.lengths there.touches.lengths))
        (to_front (indexed_from structs callee.occurrences 0 g.variables) (reached_lengths before passed_occurrences) (reached_lengths callee.before callee.occurrences))))

    constant_alike : (k : ℕ) → k < constants → by_both k ≡ (list_any (indexes_constant k) all_occurrences || list_any (indexes_constant k) (reached_occurrences before all_occurrences))
    constant_alike k low =
        or_both _ _ _ _ (passed.touches.constant k low) (there.touches.constant k low) ∙
        (or_parts (list_any (indexes_constant k) passed_occurrences) (list_any (indexes_constant k) (reached_occurrences before passed_occurrences)) (list_any (indexes_constant k) callee.occurrences) (list_any (indexes_constant k) (reached_occurrences callee.before callee.occurrences)) ∙
        sym (or_both _ _ _ _ (no_call (indexes_constant k) refl)
        (ap (list_any (indexes_constant k)) call_reached_occurrences_are ∙
        (list_any-append (indexes_constant k) (reached_occurrences before passed_occurrences) (callee.occurrences ++ reached_occurrences callee.before callee.occurrences) ∙
        ap (λ b. list_any (indexes_constant k) (reached_occurrences before passed_occurrences) || b) (list_any-append (indexes_constant k) callee.occurrences (reached_occurrences callee.before callee.occurrences))))))
      where
        or_parts : (a b d e : Bool) → ((a || b) || (d || e)) ≡ ((a || false) || (b || (d || e)))
        or_parts true b d e = refl
        or_parts false true d e = refl
        or_parts false false d e = refl

    new_count : length new ≡ (length g.variables + length (result_variables ty at)) + (length passed.new + length there.new)
    new_count =
        length-append (g.variables ++ result_variables ty at) (passed.new ++ there.new) ∙
        (ap (λ k. k + length (passed.new ++ there.new)) (length-append g.variables (result_variables ty at)) ∙
        ap (λ k. (length g.variables + length (result_variables ty at)) + k) (length-append passed.new there.new))

    within_all : (n : ℕ) → by_both n ≡ true → (n < constants) ⊎ (((first ≤ n) × (n < first + size)) ⊎ ((next_of fresh ≤ n) × (n < next_of fresh + length new)))
    within_all n is = by_case (or_true (by_args n) (by_body n) is)
      where
        args_within : (n < constants) ⊎ (((first ≤ n) × (n < first + size)) ⊎ ((next_of with_own ≤ n) × (n < next_of with_own + length passed.new))) →
            (n < constants) ⊎ (((first ≤ n) × (n < first + size)) ⊎ ((next_of fresh ≤ n) × (n < next_of fresh + length new)))
        args_within (inl low) = inl low
        args_within (inr (inl its_own)) = inr (inl its_own)
        args_within (inr (inr newer)) = inr (inr (omega (arith, newer.0, own_count), omega (arith, newer.1, own_count, new_count)))

        body_within : (n < constants) ⊎ (((next_of fresh ≤ n) × (n < next_of fresh + length g.variables)) ⊎ ((next_of x.fresh ≤ n) × (n < next_of x.fresh + length there.new))) →
            (n < constants) ⊎ (((first ≤ n) × (n < first + size)) ⊎ ((next_of fresh ≤ n) × (n < next_of fresh + length new)))
        body_within (inl low) = inl low
        body_within (inr (inl its_own)) = inr (inr (its_own.0, omega (arith, its_own.1, new_count)))
        body_within (inr (inr newer)) = inr (inr (omega (arith, newer.0, own_count, passed_count), omega (arith, newer.1, own_count, passed_count, new_count)))

        by_case : (by_args n ≡ true) ⊎ (by_body n ≡ true) → (n < constants) ⊎ (((first ≤ n) × (n < first + size)) ⊎ ((next_of fresh ≤ n) × (n < next_of fresh + length new)))
        by_case (inl is_args) = args_within (passed.touches.within n is_args)
        by_case (inr is_body) = body_within (there.touches.within n is_body)

    both_touch : Touches structs before constants first size (next_of fresh) all_occurrences by_both new
    both_touch = record {
      own = λ v low. or_both _ _ _ _ (passed.touches.own v low) (body_quiet (first + v) (omega (arith, high)) (inl (omega (arith, low, room))) (inl (omega (arith, low, room, own_count, passed_count)))) ∙
          sym (no_call (indexes_variable v) refl);
      constant = constant_alike;
      lengths = lengths_alike;
      within = within_all;
    }

    abbrev whole_call : Valued
    whole_call = around_body ty at own x (g.body own x.fresh)

    same_call : (n : ℕ) → by_both n ≡ touched (occurrences_of whole_call.code ++ expr_occurrences whole_call.value) n
    same_call n =
        ap (λ b. b || by_body n) (touched-append (occurrences_of x.code) (occurrences_of x.copies) n) ∙
        (or_call (touched (occurrences_of x.code) n) (by_body n) (touched (occurrences_of x.copies) n) ∙
        sym (touched-append (occurrences_of whole_call.code) (expr_occurrences whole_call.value) n ∙
        or_both _ _ _ _ (ap (λ l. touched l n) (occurrences-append x.code (flat_named own.exit (flat_block (flat_stmts_of (g.body own x.fresh).code)) ∷ x.copies)) ∙
        (touched-append (occurrences_of x.code) (occurrences_of (g.body own x.fresh).code ++ occurrences_of x.copies) n ∙ ap (λ b. touched (occurrences_of x.code) n || b) (touched-append (occurrences_of (g.body own x.fresh).code) (occurrences_of x.copies) n)))
        (untouched_reading ty at own.result n)))

    pub call_around : (args : Args) → args_occurrences args ≡ passed_occurrences → EmittedAs structs before constants first size (an_expr ty at (call_form function args)) fresh whole_call
    call_around args is = record {
      new = new;
      grows = there.grows ∙ (ap (λ l. l ++ there.new) (passed.grows ∙ append_assoc fresh.variables (g.variables ++ result_variables ty at) passed.new) ∙
          (append_assoc fresh.variables ((g.variables ++ result_variables ty at) ++ passed.new) there.new ∙ ap (λ l. fresh.variables ++ l) (append_assoc (g.variables ++ result_variables ty at) passed.new there.new)));
      touches = subst (λ l. Touches structs before constants first size (next_of fresh) (l ++ call_occurrence function ∷ []) (touched (occurrences_of whole_call.code ++ expr_occurrences whole_call.value)) new) (sym is)
          (touches_same structs before constants first size (next_of fresh) all_occurrences by_both _ new same_call both_touch);
      literal = refl;
      fixed = λ loose. absurd (true≢false loose);
    }

  -- a call
  pub call_as : (i : Instance) → i.first ≡ first → (em : Expr → Emitter) (ty : Ty) (at function : ℕ) (args : Args) (g : Inlined) → CalleeAs structs constants (call_tree_of before (call_occurrence function)) g →
      ArgsOccurrences structs before constants first size high em args g.parameters → EmitsOccurrences structs before constants first size (an_expr ty at (call_form function args)) (call i ty at g (args_by em args))
  call_as i is em ty at function args g callee ready fresh room =
      call_around function g callee (args_occurrences args) ty at fresh room (pass_all i at (next_of fresh) (args_by em args) g.parameters (with_instance g ty at fresh))
      (passed_as structs before constants first size high em i is at (next_of fresh) args g.parameters ready (with_instance g ty at fresh)
      (omega (arith, room, length-append fresh.variables (g.variables ++ result_variables ty at))))
      args refl
