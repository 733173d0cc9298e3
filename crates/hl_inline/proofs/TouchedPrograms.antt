-- The indexed variables of a program without calls are those of the program that it was made of.
use Rattle.std.proofs.Common.{◌≡◌, ◌∙◌, refl, sym, ap, subst, ℕ, zero, suc, ◌+◌, ◌<◌, ◌≤◌, Bool, false, List, [], ◌∷◌, ◌++◌, map, length, length-append, Option, None, Some, slice_get, unwrap_or, append_assoc, arith}
use Rattle.std.specs.Prelude.{if◌then◌else◌, option_map, take}
use Rattle.std.specs.List.{list_any}
use Rattle.std.specs.List.Sorted.{IsPermutation}
use Rattle.std.proofs.lemmas.List.{append-nil, length-map}
use Rattle.std.proofs.lemmas.List.Folds.{list_any-append}
use Rattle.std.proofs.lemmas.List.Sorted.{IsPermutation-append, IsPermutation-refl}
use Rattle.std.proofs.lemmas.Option.{none-some, same_Some}
use Rattle.std.proofs.Math.Seq.{take-append_seam}
use Rattle.hl_meaning.specs.declared.program.Parameter.{Parameter}
use Rattle.hl_meaning.specs.declared.program.Semantic.{Semantic}
use Rattle.hl_meaning.specs.declared.ty.Kind.{Kind}
use Rattle.hl_meaning.specs.Programs.{Constant, FunctionDef, Program, StructDef, Variable}
use Rattle.hl_meaning.specs.Layout.{kinds_of, words_of}
use Rattle.hl_meaning.specs.Views.{exprs_of}
use Rattle.hl_meaning.specs.WellFormed.{IsEntryIf, IsFunction, IsWellFormed, callee_params, scope_of}
use Rattle.hl_meaning.proofs.LayoutForms.{get-front, get-next}
use Rattle.hl_inline.specs.FlatTrees.{FlatStmt, flat_block, flat_local, flat_named}
use Rattle.hl_inline.specs.FlatViews.{flat_stmts_of}
use Rattle.hl_inline.specs.IndexedVariables.{CallTree, call_tree, call_trees_after, empty_call_tree, entry_call_tree, flat_indexed_lengths, indexed_constants_from, indexed_from, indexed_lengths, indexes_constant, indexes_variable, lengths_where}
use Rattle.hl_inline.specs.Occurrences.{Occurrence, exprs_occurrences, stmts_occurrences}
use Rattle.hl_inline.specs.UsedUndeclared.{variables_used_undeclared}
use Rattle.hl_inline.specs.EmittedCode.{EmittedCode}
use Rattle.hl_inline.specs.EmittedStatements.{emit_stmts}
use Rattle.hl_inline.specs.Fresh.{Fresh, Instance, nameless, next_of}
use Rattle.hl_inline.specs.InlinedCalls.{Inlined, inlined_at}
use Rattle.hl_inline.specs.InlinedFunctions.{inlined, inlined_after, outside_loops, zeros_first}
use Rattle.hl_inline.specs.InlinedPrograms.{entry_body, entry_fresh, entry_instance, inlined_entry, inlined_program, literals, set_constants, set_inputs}
use Rattle.hl_inline.proofs.Fronts.{nameless_length}
use Rattle.hl_inline.proofs.Reading.{there_by_map}
use Rattle.typed_laws.proofs.Functions.{variables_some}
use Rattle.typed_laws.proofs.Typed.{ParamsSome, params_some}
use Rattle.hl_inline.proofs.Touching.{indexed-by, lengths-append, lengths-same, reached_lengths, reached_occurrences, touched}
use Rattle.hl_inline.proofs.TouchedNodes.{occurrences-append, occurrences_of}
use Rattle.hl_inline.proofs.TouchedCalls.{BodyAs, CalleeAs}
use Rattle.hl_inline.proofs.TouchedExpressions.{CalleeThere}
use Rattle.hl_inline.proofs.TouchedStatements.{emit_stmts_as, same_as}

-- ---- functions

-- each function in place indexes what is reached by it
abbrev pub AllReach : Program → List CallTree → List Inlined → List FunctionDef → Type 0
AllReach p [] [] [] = Unit {0}
AllReach p (r ∷ rs) (g ∷ gs) (d ∷ ds) = (CalleeAs p.structs (length p.constants) r g × (g.parameters ≡ d.parameters) × (g.variables ≡ map nameless d.variables)) × AllReach p rs gs ds
AllReach p _ _ _ = ⊥

reach_at : (p : Program) (rs : List CallTree) (gs : List Inlined) (ds : List FunctionDef) → AllReach p rs gs ds → (function : ℕ) (d : FunctionDef) → slice_get ds function ≡ Some d →
    CalleeAs p.structs (length p.constants) (unwrap_or (slice_get rs function) empty_call_tree) (inlined_at gs function) × ((inlined_at gs function).parameters ≡ d.parameters) × ((inlined_at gs function).variables ≡ map nameless d.variables)
reach_at p [] [] [] all function d e = absurd (none-some d e)
reach_at p [] [] (x ∷ ds) all function d e = absurd all
reach_at p [] (g ∷ gs) [] all function d e = absurd all
reach_at p [] (g ∷ gs) (x ∷ ds) all function d e = absurd all
reach_at p (r ∷ rs) [] [] all function d e = absurd all
reach_at p (r ∷ rs) [] (x ∷ ds) all function d e = absurd all
reach_at p (r ∷ rs) (g ∷ gs) [] all function d e = absurd all
reach_at p (r ∷ rs) (g ∷ gs) (x ∷ ds) all zero d e =
    (all.0.0, all.0.1 ∙ ap (λ o. o.parameters) (same_Some x d e), all.0.2 ∙ ap (λ o. map nameless o.variables) (same_Some x d e))
reach_at p (r ∷ rs) (g ∷ gs) (x ∷ ds) all (suc function) d e = reach_at p rs gs ds all.1 function d e

reach_push : (p : Program) (rs : List CallTree) (gs : List Inlined) (ds : List FunctionDef) (r : CallTree) (g : Inlined) (d : FunctionDef) → AllReach p rs gs ds →
    CalleeAs p.structs (length p.constants) r g × (g.parameters ≡ d.parameters) × (g.variables ≡ map nameless d.variables) → AllReach p (rs ++ r ∷ []) (gs ++ g ∷ []) (ds ++ d ∷ [])
reach_push p [] [] [] r g d all one = (one, tt)
reach_push p [] [] (x ∷ ds) r g d all one = absurd all
reach_push p [] (h ∷ gs) [] r g d all one = absurd all
reach_push p [] (h ∷ gs) (x ∷ ds) r g d all one = absurd all
reach_push p (q ∷ rs) [] [] r g d all one = absurd all
reach_push p (q ∷ rs) [] (x ∷ ds) r g d all one = absurd all
reach_push p (q ∷ rs) (h ∷ gs) [] r g d all one = absurd all
reach_push p (q ∷ rs) (h ∷ gs) (x ∷ ds) r g d all one = (all.0, reach_push p rs gs ds r g d all.1 one)

zeros_silent : (i : Instance) (numbers : List ℕ) → occurrences_of (map (λ variable. flat_local (i.first + variable) None) numbers) ≡ []
zeros_silent i [] = refl
zeros_silent i (v ∷ numbers) = zeros_silent i numbers

nameless_indexed : (structs : List StructDef) (occurrences : List Occurrence) (number : ℕ) (variables : List Variable) → indexed_from structs occurrences number (map nameless variables) ≡ indexed_from structs occurrences number variables
nameless_indexed structs occurrences number [] = refl
nameless_indexed structs occurrences number (v ∷ variables) = ap (λ l. (if list_any (indexes_variable number) occurrences then words_of structs v.ty ∷ [] else []) ++ l) (nameless_indexed structs occurrences (suc number) variables)

-- a function behind those before it
module _ (p : Program) (well : IsWellFormed p) (rs : List CallTree) (gs : List Inlined) (ds more : List FunctionDef) (d : FunctionDef) (all : AllReach p rs gs ds) (whole : p.functions ≡ ds ++ d ∷ more) where
  before_is : take (length ds) p.functions ≡ ds
  before_is = ap (take (length ds)) whole ∙ take-append_seam ds (d ∷ more)

  is_function : IsFunction p (length ds) d
  is_function = well.functions (length ds) d (ap (λ l. slice_get l (length ds)) whole ∙ get-next ds d more)

  low_here : (function : ℕ) (e : FunctionDef) → slice_get ds function ≡ Some e → function < length ds
  low_here function e there = there_by_map (λ x. x) ds function e (ap (option_map (λ x. x)) there)

  earlier_function : (function : ℕ) (e : FunctionDef) → slice_get ds function ≡ Some e → IsFunction p function e
  earlier_function function e there = well.functions function e (ap (λ l. slice_get l function) whole ∙ (get-front ds (d ∷ more) function (low_here function e there) ∙ there))

  callees : (function : ℕ) (e : FunctionDef) → slice_get (take (length ds) p.functions) function ≡ Some e → CalleeThere (scope_of p (length ds) d) rs function e (inlined_at gs function)
  callees function e there =
      let x = reach_at p rs gs ds all function e (ap (λ l. slice_get l function) (sym before_is) ∙ there) in
      record { as_reached = x.0; parameters = x.1 }

  some_params : (function : ℕ) → ParamsSome (callee_params (slice_get (take (length ds) p.functions) function))
  some_params function = subst (λ l. ParamsSome (callee_params (slice_get l function))) (sym before_is) (by_function (slice_get ds function) refl)
    where
      by_function : (o : Option FunctionDef) → slice_get ds function ≡ o → ParamsSome (callee_params o)
      by_function None e = tt
      by_function (Some g) e =
          params_some g.variables g.parameters (variables_some p function g (earlier_function function g e))

  body_here : (own : Instance) (fresh : Fresh) → length p.constants ≤ own.first → own.first + length d.variables ≤ next_of fresh →
      BodyAs p.structs rs (length p.constants) (stmts_occurrences d.body) own (length d.variables) fresh ((inlined gs d).body own fresh)
  body_here own fresh high room =
      let l = same_as p.structs rs (length p.constants) own.first (length d.variables) high (stmts_occurrences d.body) fresh (emit_stmts gs own outside_loops d.body fresh) (zeros_first own d ++ (emit_stmts gs own outside_loops d.body fresh).code)
      (λ n. sym (ap (λ t. touched t n) (occurrences-append (zeros_first own d) (emit_stmts gs own outside_loops d.body fresh).code ∙
      ap (λ t. t ++ occurrences_of (emit_stmts gs own outside_loops d.body fresh).code) (zeros_silent own (variables_used_undeclared d)))))
      (emit_stmts_as (scope_of p (length ds) d) rs own.first high gs own refl callees some_params outside_loops false d.body is_function.body fresh room) in
      record { new = l.new; grows = l.grows; touches = l.touches }

  pub function_reaches : CalleeAs p.structs (length p.constants) (call_tree p.structs rs d) (inlined gs d)
  function_reaches = record {
    before = rs;
    occurrences = stmts_occurrences d.body;
    lengths = ap (λ l. l ++ reached_lengths rs (stmts_occurrences d.body)) (sym (nameless_indexed p.structs (stmts_occurrences d.body) 0 d.variables));
    whole = refl;
    body = λ own fresh.
        subst (λ m. length p.constants ≤ own.first → own.first + m ≤ next_of fresh → BodyAs p.structs rs (length p.constants) (stmts_occurrences d.body) own m fresh ((inlined gs d).body own fresh))
        (sym (nameless_length d.variables)) (body_here own fresh);
  }

-- all functions
functions_reach : (p : Program) → IsWellFormed p → (rs : List CallTree) (gs : List Inlined) (ds more : List FunctionDef) → AllReach p rs gs ds → p.functions ≡ ds ++ more → AllReach p (call_trees_after p.structs rs more) (inlined_after gs more) p.functions
functions_reach p well rs gs ds [] all whole = subst (AllReach p rs gs) (sym (append-nil ds) ∙ sym whole) all
functions_reach p well rs gs ds (d ∷ more) all whole =
    functions_reach p well (rs ++ call_tree p.structs rs d ∷ []) (gs ++ inlined gs d ∷ []) (ds ++ d ∷ []) more
    (reach_push p rs gs ds (call_tree p.structs rs d) (inlined gs d) d all (function_reaches p well rs gs ds more d all whole, refl, refl)) (whole ∙ sym (append_assoc ds (d ∷ []) more))

-- ---- programs

literals_silent : (at : ℕ) (kinds : List Kind) (words : List ℕ) → exprs_occurrences (exprs_of (literals at kinds words)) ≡ []
literals_silent at [] words = refl
literals_silent at (kind ∷ kinds) [] = refl
literals_silent at (kind ∷ kinds) (word ∷ words) = literals_silent at kinds words

constants_silent : (structs : List StructDef) (number : ℕ) (constants : List Constant) → occurrences_of (set_constants structs number constants) ≡ []
constants_silent structs number [] = refl
constants_silent structs number (c ∷ constants) =
    ap (λ l. l ++ occurrences_of (set_constants structs (suc number) constants)) (literals_silent c.variable.at (kinds_of structs c.variable.ty) c.words) ∙ constants_silent structs (suc number) constants

with_semantic : (p : Parameter) (o : Option Semantic) → p.semantic ≡ o → p ≡ record p { semantic = o }
with_semantic p o e = ap (λ x. record p { semantic = x }) e

input_silent : (first : ℕ) (p : Parameter) (parameters : List Parameter) (o : Option Semantic) → p.semantic ≡ o → occurrences_of (set_inputs first parameters) ≡ [] → occurrences_of (set_inputs first (p ∷ parameters)) ≡ []
input_silent first p parameters None e rest = ap (λ q. occurrences_of (set_inputs first (q ∷ parameters))) (with_semantic p None e) ∙ rest
input_silent first p parameters (Some semantic) e rest = ap (λ q. occurrences_of (set_inputs first (q ∷ parameters))) (with_semantic p (Some semantic) e) ∙ rest

inputs_silent : (first : ℕ) (parameters : List Parameter) → occurrences_of (set_inputs first parameters) ≡ []
inputs_silent first [] = refl
inputs_silent first (p ∷ parameters) = input_silent first p parameters p.semantic refl (inputs_silent first parameters)

-- the constants that are indexed
constants_lengths : (structs : List StructDef) (h : ℕ → Bool) (occurrences : List _) (number : ℕ) (constants : List Constant) → ((k : ℕ) → k < length constants → h (number + k) ≡ list_any (indexes_constant (number + k)) occurrences) →
    lengths_where structs h number (map (λ c. c.variable) constants) ≡ indexed_constants_from structs occurrences number constants
constants_lengths structs h occurrences number [] same = refl
constants_lengths structs h occurrences number (c ∷ constants) same =
    let here : h number ≡ list_any (indexes_constant number) occurrences = ap h (omega arith) ∙ (same 0 (omega arith) ∙ ap (λ k. list_any (indexes_constant k) occurrences) (omega arith)) in
    let next : lengths_where structs h (suc number) (map (λ c. c.variable) constants) ≡ indexed_constants_from structs occurrences (suc number) constants =
    constants_lengths structs h occurrences (suc number) constants (λ k low. ap h (omega arith) ∙ (same (suc k) (omega (arith, low)) ∙ ap (λ j. list_any (indexes_constant j) occurrences) (omega arith))) in
    ap (λ b. (if b then words_of structs c.variable.ty ∷ [] else []) ++ lengths_where structs h (suc number) (map (λ c. c.variable) constants)) here ∙
    ap (λ l. (if list_any (indexes_constant number) occurrences then words_of structs c.variable.ty ∷ [] else []) ++ l) next

module _ (p : Program) (well : IsWellFormed p) (r : CallTree) (g : Inlined) (callee : CalleeAs p.structs (length p.constants) r g) where
  abbrev body : EmittedCode
  body = entry_body p g

  fresh_count : next_of (entry_fresh p g) ≡ length p.constants + length g.variables
  fresh_count = length-append (map (λ c. c.variable) p.constants) g.variables ∙ ap (λ k. k + length g.variables) (length-map p.constants (λ c. c.variable))

  there : BodyAs p.structs callee.before (length p.constants) callee.occurrences (entry_instance p g) (length g.variables) (entry_fresh p g) body
  there = callee.body (entry_instance p g) (entry_fresh p g) (omega arith) (omega (arith, fresh_count))

  abbrev by_body : ℕ → Bool
  by_body n = touched (occurrences_of body.code) n

  abbrev whole_code : List FlatStmt
  whole_code = set_constants p.structs 0 p.constants ++ (set_inputs (length p.constants) g.parameters ++ flat_named 0 (flat_block (flat_stmts_of body.code)) ∷ [])

  whole_occurrences_are : occurrences_of whole_code ≡ occurrences_of body.code
  whole_occurrences_are =
      occurrences-append (set_constants p.structs 0 p.constants) (set_inputs (length p.constants) g.parameters ++ flat_named 0 (flat_block (flat_stmts_of body.code)) ∷ []) ∙
      (ap (λ l. l ++ occurrences_of (set_inputs (length p.constants) g.parameters ++ flat_named 0 (flat_block (flat_stmts_of body.code)) ∷ [])) (constants_silent p.structs 0 p.constants) ∙
      (occurrences-append (set_inputs (length p.constants) g.parameters) (flat_named 0 (flat_block (flat_stmts_of body.code)) ∷ []) ∙
      (ap (λ l. l ++ (occurrences_of body.code ++ [])) (inputs_silent (length p.constants) g.parameters) ∙ append-nil (occurrences_of body.code))))

  constants_part : lengths_where p.structs by_body 0 (map (λ c. c.variable) p.constants) ≡ indexed_constants_from p.structs r.occurrences 0 p.constants
  constants_part = constants_lengths p.structs by_body r.occurrences 0 p.constants (λ k low.
      there.touches.constant (0 + k) (omega (arith, low)) ∙
      sym (ap (list_any (indexes_constant (0 + k))) callee.whole ∙ list_any-append (indexes_constant (0 + k)) callee.occurrences (reached_occurrences callee.before callee.occurrences)))

  own_part : lengths_where p.structs by_body (length p.constants) g.variables ≡ indexed_from p.structs callee.occurrences 0 g.variables
  own_part =
      lengths-same p.structs by_body (touched callee.occurrences) (length p.constants) 0 g.variables (λ j low. there.touches.own j low ∙ ap (touched callee.occurrences) (omega arith)) ∙ sym (indexed-by p.structs callee.occurrences 0 g.variables)

  lengths_are : lengths_where p.structs by_body 0 body.fresh.variables ≡
      indexed_constants_from p.structs r.occurrences 0 p.constants ++ (indexed_from p.structs callee.occurrences 0 g.variables ++ lengths_where p.structs by_body (next_of (entry_fresh p g)) there.new)
  lengths_are =
      ap (lengths_where p.structs by_body 0) (there.grows ∙ append_assoc (map (λ c. c.variable) p.constants) g.variables there.new) ∙
      (lengths-append p.structs by_body 0 (map (λ c. c.variable) p.constants) (g.variables ++ there.new) ∙
      (ap (λ l. l ++ lengths_where p.structs by_body (0 + length (map (λ c. c.variable) p.constants)) (g.variables ++ there.new)) constants_part ∙
      ap (λ l. indexed_constants_from p.structs r.occurrences 0 p.constants ++ l)
      (ap (λ k. lengths_where p.structs by_body k (g.variables ++ there.new)) (omega (arith, length-map p.constants (λ c. c.variable))) ∙
      (lengths-append p.structs by_body (length p.constants) g.variables there.new ∙
      (ap (λ l. l ++ lengths_where p.structs by_body (length p.constants + length g.variables) there.new) own_part ∙
      ap (λ k. indexed_from p.structs callee.occurrences 0 g.variables ++ lengths_where p.structs by_body k there.new) (sym fresh_count))))))

  pub around_entry : IsPermutation (indexed_from p.structs (occurrences_of whole_code) 0 body.fresh.variables) (indexed_constants_from p.structs r.occurrences 0 p.constants ++ r.lengths)
  around_entry =
      subst (λ l. IsPermutation l (indexed_constants_from p.structs r.occurrences 0 p.constants ++ r.lengths))
      (sym (ap (λ t. indexed_from p.structs t 0 body.fresh.variables) whole_occurrences_are ∙ (indexed-by p.structs (occurrences_of body.code) 0 body.fresh.variables ∙ lengths_are)))
      (subst (λ l. IsPermutation (indexed_constants_from p.structs r.occurrences 0 p.constants ++ (indexed_from p.structs callee.occurrences 0 g.variables ++ lengths_where p.structs by_body (next_of (entry_fresh p g)) there.new)) (indexed_constants_from p.structs r.occurrences 0 p.constants ++ l)) (sym callee.lengths)
      (IsPermutation-append _ _ _ _ (IsPermutation-refl (indexed_constants_from p.structs r.occurrences 0 p.constants))
      (IsPermutation-append _ _ _ _ (IsPermutation-refl (indexed_from p.structs callee.occurrences 0 g.variables)) there.touches.lengths)))

-- they have the same lengths, up to order
pub keeps_lengths : (p : Program) → IsWellFormed p → IsPermutation (flat_indexed_lengths (inlined_program p)) (indexed_lengths p)
unfolding inlined_program indexed_lengths flat_indexed_lengths
keeps_lengths p well = by_entry (slice_get p.functions p.entry) refl well.entry
  where
    by_entry : (o : Option FunctionDef) → slice_get p.functions p.entry ≡ o → IsEntryIf o → IsPermutation (flat_indexed_lengths (inlined_program p)) (indexed_lengths p)
    by_entry None e is = absurd is
    by_entry (Some d) e is =
        around_entry p well (entry_call_tree p) (inlined_entry p) (reach_at p (call_trees_after p.structs [] p.functions) (inlined_after [] p.functions) p.functions (functions_reach p well [] [] [] p.functions tt refl) p.entry d e).0
