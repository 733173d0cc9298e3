-- A program that is well formed becomes one without calls that is.
use Rattle.std.proofs.Common.{◌≡◌, ◌∙◌, refl, sym, ap, subst, ℕ, zero, suc, ◌+◌, ◌*◌, ◌≤◌, true, List, [], ◌∷◌, ◌++◌, map, length, Option, None, Some, slice_get, arith}
use Rattle.std.specs.Prelude.{◌&&◌, IsTrue, option_map, replicate, sum_by}
use Rattle.std.specs.List.{list_all}
use Rattle.std.proofs.lemmas.Bool.{true≢false}
use Rattle.std.proofs.lemmas.List.{length-map}
use Rattle.std.proofs.lemmas.List.Sums.{sum_by-cons}
use Rattle.std.proofs.lemmas.Option.{slice_get-map}
use Rattle.hl_meaning.specs.declared.ty.Kind.{Kind}
use Rattle.hl_meaning.specs.declared.ty.Kind.TheVariants.{Bool as BoolKind, Int as IntKind, Uint as UintKind}
use Rattle.hl_meaning.specs.declared.program.Parameter.{Parameter}
use Rattle.hl_meaning.specs.declared.program.Semantic.{Semantic}
use Rattle.hl_meaning.specs.Types.{Ty, array_type, component_count, is_alike, is_void, kind_eq, scalar_type, struct_type, vector_type, void_type}
use Rattle.hl_meaning.specs.Trees.{types_of}
use Rattle.hl_meaning.specs.Programs.{Constant, FunctionDef, Program, StructDef, Variable}
use Rattle.hl_meaning.specs.Places.{Scope, is_without_repeats, variable_type}
use Rattle.hl_meaning.specs.Layout.{kinds_of, words_of}
use Rattle.hl_meaning.specs.Views.{exprs_of}
use Rattle.hl_meaning.specs.Stopping.{stopped}
use Rattle.hl_meaning.specs.Sums.{variable_words}
use Rattle.hl_meaning.specs.WellFormed.{AreExprs, Builds, HasSemanticIf, HoldWords, IsConstant, IsDeclared, IsEntry, IsEntryIf, IsExpr, IsInput, IsWellFormed, semantic_number}
use Rattle.hl_inline.specs.FlatTrees.{FlatStmt, flat_block, flat_named}
use Rattle.hl_inline.specs.FlatViews.{flat_stmts_of}
use Rattle.hl_inline.specs.FlatWellFormed.{AreFlatStmts, IsFlat, IsFlatStmt, inputs_in, inputs_of, most_shared_words}
use Rattle.hl_inline.specs.EmittedCode.{EmittedCode}
use Rattle.hl_inline.specs.InlinedCalls.{Inlined}
use Rattle.hl_inline.specs.Fresh.{nameless}
use Rattle.hl_inline.specs.InlinedFunctions.{inlined_after}
use Rattle.hl_inline.specs.InlinedPrograms.{constant_value, entry_body, entry_fresh, entry_instance, flat_around, inlined_entry, inlined_program, literals, set_constants, set_inputs}
use Rattle.typed_laws.proofs.Induction.{Every, every_append, all_from_every, every_from_all}
use Rattle.typed_laws.proofs.Typed.{IsSome}
use Rattle.hl_inline.proofs.Fronts.{IsFront, front_refl, nameless_every, nameless_type, type_behind, type_front}
use Rattle.hl_inline.proofs.FlatCode.{AreDeclared, AreFitting, IsCode, IsFitting, block_fits, named_here}
use Rattle.hl_inline.proofs.FlatExprs.{result_declared}
use Rattle.hl_inline.proofs.FlatForms.{StandsFrom}
use Rattle.hl_inline.proofs.FlatCalls.{InsideExit, IsInlined, StandsAs}
use Rattle.hl_inline.proofs.FlatFunctions.{functions_inlined, inlined_get, program_over}

-- constants

kind_same : (kind : Kind) → IsTrue (kind_eq kind kind)
kind_same BoolKind = refl
kind_same IntKind = refl
kind_same UintKind = refl

replicated_alike : (kind : Kind) (size count : ℕ) → IsTrue (list_all (is_alike (vector_type kind size)) (map scalar_type (replicate count kind)))
replicated_alike kind size zero = refl
replicated_alike kind size (suc count) = ap (λ b. b && list_all (is_alike (vector_type kind size)) (map scalar_type (replicate count kind))) (kind_same kind) ∙ replicated_alike kind size count

replicated_count : (kind : Kind) (count : ℕ) → sum_by component_count (map scalar_type (replicate count kind)) ≡ count
replicated_count kind zero = refl
replicated_count kind (suc count) = sum_by-cons component_count (scalar_type kind) (map scalar_type (replicate count kind)) ∙ (ap (λ n. 1 + n) (replicated_count kind count) ∙ omega arith)

-- a value is built of a scalar for each word of its type
builds_kinds : (structs : List StructDef) (ty : Ty) → IsDeclared structs ty → Builds structs ty (map scalar_type (kinds_of structs ty))
unfolding kinds_of
builds_kinds structs void_type h = absurd h.0
builds_kinds structs (scalar_type kind) h = (ap (λ b. b && true) (kind_same kind), refl)
builds_kinds structs (vector_type kind size) h = (replicated_alike kind size size, replicated_count kind size)
builds_kinds structs (array_type element size) h = refl
builds_kinds structs (struct_type number) h = refl

scalar_declared : (structs : List StructDef) (kind : Kind) → IsDeclared structs (scalar_type kind)
unfolding words_of
scalar_declared structs kind = (tt, omega arith)

literals_well : (S : Scope) (at : ℕ) (kinds : List Kind) (words : List ℕ) → HoldWords kinds words → AreExprs S (exprs_of (literals at kinds words)) × (types_of (exprs_of (literals at kinds words)) ≡ map scalar_type kinds)
literals_well S at [] [] h = (tt, refl)
literals_well S at [] (word ∷ words) h = absurd h
literals_well S at (kind ∷ kinds) [] h = absurd h
literals_well S at (kind ∷ kinds) (word ∷ words) h =
    let rest = literals_well S at kinds words h.1 in (((scalar_declared S.structs kind, h.0), rest.0), ap (λ l. scalar_type kind ∷ l) rest.1)

constant_well : (S : Scope) (c : Constant) → IsConstant S.structs c → IsExpr S (constant_value S.structs c)
constant_well S c h =
    let values = literals_well S c.variable.at (kinds_of S.structs c.variable.ty) c.words h.words in
    (result_declared S.structs c.variable.ty h.type, (values.0, subst (Builds S.structs c.variable.ty) (sym values.1) (builds_kinds S.structs c.variable.ty h.type)))

-- the constants from one on are variables
constants_set : (S : Scope) (names : List ℕ) (number : ℕ) (constants : List Constant) → Every (IsConstant S.structs) constants →
    ((k : ℕ) (ty : Ty) → option_map (λ c. c.variable.ty) (slice_get constants k) ≡ Some ty → variable_type S.variables (number + k) ≡ Some ty) → AreFitting S names (set_constants S.structs number constants)
constants_set S names number [] h typed = tt
constants_set S names number (c ∷ constants) h typed = (
  ((constant_well S c h.0, ap (variable_type S.variables) (plus_zero number) ∙ typed 0 c.variable.ty refl), refl),
  constants_set S names (suc number) constants h.1 (λ k ty e. ap (variable_type S.variables) (next number k) ∙ typed (suc k) ty e),
)
  where
    plus_zero : (n : ℕ) → n ≡ n + 0
    plus_zero n = omega arith

    next : (n k : ℕ) → suc n + k ≡ n + suc k
    next n k = omega arith

-- semantics

-- the statements of inputs, and the semantics that they set
inputs_set : (S : Scope) (names : List ℕ) (own : List Variable) (first : ℕ) → ((v : ℕ) (ty : Ty) → variable_type own v ≡ Some ty → variable_type S.variables (first + v) ≡ Some ty) → (parameters : List Parameter) →
    Every (IsInput own) parameters → Every (IsFlatStmt S names) (set_inputs first parameters)
inputs_set S names own first typed [] h = tt
inputs_set S names own first typed (p ∷ parameters) h = by_semantic p.semantic refl (inputs_set S names own first typed parameters h.1)
  where
    there : (semantic : Semantic) (o : Option Ty) → variable_type own p.variable ≡ o → HasSemanticIf (Some semantic) o → HasSemanticIf (Some semantic) (variable_type S.variables (first + p.variable))
    there semantic None e h = absurd h
    there semantic (Some ty) e h = subst (HasSemanticIf (Some semantic)) (sym (typed p.variable ty e)) h

    by_semantic : (o : Option Semantic) → p.semantic ≡ o → Every (IsFlatStmt S names) (set_inputs first parameters) → Every (IsFlatStmt S names) (set_inputs first (p ∷ parameters))
    by_semantic None e rest = absurd (subst (λ o. HasSemanticIf o (variable_type own p.variable)) e h.0.semantic)
    by_semantic (Some semantic) e rest =
        subst (λ o. Every (IsFlatStmt S names) (set_inputs first (record p { semantic = o } ∷ parameters))) (sym e)
        (there semantic (variable_type own p.variable) refl (subst (λ o. HasSemanticIf o (variable_type own p.variable)) e h.0.semantic), rest)

-- the number of a semantic that is set
abbrev pub set_number : Semantic → ℕ
set_number semantic = semantic_number (Some semantic)

inputs_numbers : (own : List Variable) (first : ℕ) (parameters : List Parameter) → Every (IsInput own) parameters →
    map set_number (inputs_in (flat_stmts_of (set_inputs first parameters))) ≡ map (λ p. semantic_number p.semantic) parameters
inputs_numbers own first [] h = refl
inputs_numbers own first (p ∷ parameters) h = by_semantic p.semantic refl (inputs_numbers own first parameters h.1)
  where
    by_semantic : (o : Option Semantic) → p.semantic ≡ o → map set_number (inputs_in (flat_stmts_of (set_inputs first parameters))) ≡ map (λ p. semantic_number p.semantic) parameters →
        map set_number (inputs_in (flat_stmts_of (set_inputs first (p ∷ parameters)))) ≡ semantic_number p.semantic ∷ map (λ p. semantic_number p.semantic) parameters
    by_semantic None e rest = absurd (subst (λ o. HasSemanticIf o (variable_type own p.variable)) e h.0.semantic)
    by_semantic (Some semantic) e rest =
        subst (λ o. map set_number (inputs_in (flat_stmts_of (set_inputs first (record p { semantic = o } ∷ parameters)))) ≡ semantic_number o ∷ map (λ p. semantic_number p.semantic) parameters) (sym e)
        (ap (λ l. semantic_number (Some semantic) ∷ l) rest)

-- statements in order

all_flat : (S : Scope) (names : List ℕ) (code : List FlatStmt) → Every (IsFlatStmt S names) code → AreFlatStmts S names (flat_stmts_of code)
all_flat S names [] h = tt
all_flat S names (stmt ∷ code) h = (h.0, all_flat S names code h.1)

fitting_flat : (S : Scope) (names : List ℕ) (code : List FlatStmt) → AreFitting S names code → Every (IsFlatStmt S names) code
fitting_flat S names [] h = tt
fitting_flat S names (stmt ∷ code) h = (h.0.0, fitting_flat S names code h.1)

-- code that sets no semantic, in front of other code and behind it
inputs_behind : (S : Scope) (names : List ℕ) (code more : List FlatStmt) → AreFitting S names code → inputs_in (flat_stmts_of (code ++ more)) ≡ inputs_in (flat_stmts_of more)
inputs_behind S names [] more h = refl
inputs_behind S names (stmt ∷ code) more h = ap (λ l. l ++ inputs_in (flat_stmts_of (code ++ more))) h.0.1 ∙ inputs_behind S names code more h.1

inputs_before : (code : List FlatStmt) (stmt : FlatStmt) → inputs_of stmt ≡ [] → inputs_in (flat_stmts_of (code ++ stmt ∷ [])) ≡ inputs_in (flat_stmts_of code)
inputs_before [] stmt e = ap (λ l. l ++ []) e
inputs_before (first ∷ code) stmt e = ap (λ l. inputs_of first ++ l) (inputs_before code stmt e)

-- the entry

-- the variables in the end begin with the constants and those of the entry
entry_stands : (constants : List Constant) (own V : List Variable) → IsFront (map (λ c. c.variable) constants ++ map nameless own) V → StandsFrom constants own V (length constants)
entry_stands constants own V (more, e) = record {
  own_type = λ v ty typed.
      ap (λ l. variable_type l (length constants + v)) e ∙
      type_front (map (λ c. c.variable) constants ++ map nameless own) more (length constants + v) ty
      (ap (λ n. variable_type (map (λ c. c.variable) constants ++ map nameless own) (n + v)) (sym (length-map constants (λ c. c.variable))) ∙
      (type_behind (map (λ c. c.variable) constants) (map nameless own) v ∙ (nameless_type own v ∙ typed)));
  constant_type = λ k ty typed.
      ap (λ l. variable_type l k) e ∙
      type_front (map (λ c. c.variable) constants ++ map nameless own) more k ty
      (type_front (map (λ c. c.variable) constants) (map nameless own) k ty (ap (option_map (λ v. v.ty)) (slice_get-map (λ c. c.variable) constants k) ∙ (both (slice_get constants k) ∙ typed)));
}
  where
    both : (o : Option Constant) → option_map (λ v. v.ty) (option_map (λ c. c.variable) o) ≡ option_map (λ c. c.variable.ty) o
    both None = refl
    both (Some c) = refl

constants_declared : (structs : List StructDef) (constants : List Constant) → Every (IsConstant structs) constants → AreDeclared structs (map (λ c. c.variable) constants)
constants_declared structs [] h = tt
constants_declared structs (c ∷ constants) h = (h.0.type, constants_declared structs constants h.1)

-- the statements of a program around the body of its entry
abbrev pub around_code : Program → Inlined → EmittedCode → List FlatStmt
around_code p g body = set_constants p.structs 0 p.constants ++ (set_inputs (length p.constants) g.parameters ++ flat_named 0 (flat_block (flat_stmts_of body.code)) ∷ [])

module _ (p : Program) (d : FunctionDef) (g : Inlined) (body : EmittedCode) (wf : IsWellFormed p) (entry : IsEntry d) (inlined : IsInlined (program_over p body.fresh.variables) p.constants d g)
    (code : IsCode (program_over p body.fresh.variables) (StandsAs p.constants d body.fresh.variables (entry_instance p g)) (InsideExit (entry_instance p g)) (entry_fresh p g) body.fresh body.code) where
  around_stands : StandsFrom p.constants d.variables body.fresh.variables (length p.constants)
  around_stands =
      entry_stands p.constants d.variables body.fresh.variables
      (subst (λ own. IsFront (map (λ c. c.variable) p.constants ++ own) body.fresh.variables) inlined.variables code.extends.grows)

  all_constants : Every (IsConstant p.structs) p.constants
  all_constants = every_from_all (IsConstant p.structs) p.constants wf.constants

  all_inputs : Every (IsInput d.variables) g.parameters
  all_inputs = subst (Every (IsInput d.variables)) (sym inlined.parameters) (every_from_all (IsInput d.variables) d.parameters entry.inputs)

  around_variables : AreDeclared p.structs body.fresh.variables
  around_variables =
      code.extends.declared (every_append (λ v. IsDeclared p.structs v.ty) (map (λ c. c.variable) p.constants) g.variables (constants_declared p.structs p.constants all_constants)
      (subst (AreDeclared p.structs) (sym inlined.variables) (nameless_every (IsDeclared p.structs) d.variables inlined.own_declared)))

  constants_fit : AreFitting (program_over p body.fresh.variables) [] (set_constants p.structs 0 p.constants)
  constants_fit =
      constants_set (program_over p body.fresh.variables) [] 0 p.constants all_constants
      (λ k ty e. ap (variable_type body.fresh.variables) (zero_plus k) ∙ around_stands.constant_type k ty e)
    where
      zero_plus : (k : ℕ) → 0 + k ≡ k
      zero_plus k = omega arith

  -- no value is returned
  no_result : IsSome d.result → variable_type body.fresh.variables (length p.constants + length g.variables) ≡ Some d.result
  no_result some = absurd (true≢false (sym (ap is_void entry.result) ∙ some))

  named_fits : IsFitting (program_over p body.fresh.variables) [] (flat_named 0 (flat_block (flat_stmts_of body.code)))
  named_fits =
      let inside = block_fits (program_over p body.fresh.variables) (0 ∷ []) body.code
      (code.fits (around_stands, no_result) (front_refl body.fresh.variables) (0 ∷ []) (omega arith, tt) (named_here 0 [])) in
      ((refl, inside.0), inside.1)

  around_body_flat : AreFlatStmts (program_over p body.fresh.variables) [] (flat_stmts_of (around_code p g body))
  around_body_flat =
      all_flat (program_over p body.fresh.variables) [] (around_code p g body)
      (every_append (IsFlatStmt (program_over p body.fresh.variables) []) (set_constants p.structs 0 p.constants)
      (set_inputs (length p.constants) g.parameters ++ flat_named 0 (flat_block (flat_stmts_of body.code)) ∷ [])
      (fitting_flat (program_over p body.fresh.variables) [] (set_constants p.structs 0 p.constants) constants_fit)
      (every_append (IsFlatStmt (program_over p body.fresh.variables) []) (set_inputs (length p.constants) g.parameters) (flat_named 0 (flat_block (flat_stmts_of body.code)) ∷ [])
      (inputs_set (program_over p body.fresh.variables) [] d.variables (length p.constants) around_stands.own_type g.parameters all_inputs) (named_fits.0, tt)))

  around_numbers : map set_number (inputs_in (flat_stmts_of (around_code p g body))) ≡ map (λ p. semantic_number p.semantic) d.parameters
  around_numbers =
      ap (map set_number)
      (inputs_behind (program_over p body.fresh.variables) [] (set_constants p.structs 0 p.constants) (set_inputs (length p.constants) g.parameters ++ flat_named 0 (flat_block (flat_stmts_of body.code)) ∷ []) constants_fit ∙
      inputs_before (set_inputs (length p.constants) g.parameters) (flat_named 0 (flat_block (flat_stmts_of body.code))) named_fits.1) ∙
      (inputs_numbers d.variables (length p.constants) g.parameters all_inputs ∙ ap (map (λ p. semantic_number p.semantic)) inlined.parameters)

  around_flat : variable_words p.structs p.shared ≤ most_shared_words → IsFlat (flat_around p g body)
  around_flat fits = record {
    structs = wf.structs;
    resources = wf.resources;
    shared = wf.shared;
    shared_fits = fits;
    variables = all_from_every (λ v. IsDeclared p.structs v.ty) body.fresh.variables around_variables;
    body = around_body_flat;
    distinct = subst (λ l. IsTrue (is_without_repeats l)) (sym around_numbers) entry.distinct;
    threads = wf.threads;
  }

-- what becomes of a program
pub inlined_program_is_flat : (p : Program) → IsWellFormed p → variable_words p.structs p.shared ≤ most_shared_words → IsFlat (inlined_program p)
unfolding inlined_program
inlined_program_is_flat p wf fits = by_entry (slice_get p.functions p.entry) refl wf.entry
  where
    by_entry : (o : Option FunctionDef) → slice_get p.functions p.entry ≡ o → IsEntryIf o → IsFlat (flat_around p (inlined_entry p) (entry_body p (inlined_entry p)))
    by_entry None e h = absurd h
    by_entry (Some d) e h =
        let V = (entry_body p (inlined_entry p)).fresh.variables in
        let inlined = inlined_get (program_over p V) p.constants p.functions (inlined_after [] p.functions) (functions_inlined p V wf) p.entry d e in
        around_flat p d (inlined_entry p) (entry_body p (inlined_entry p)) wf h inlined (inlined.body (entry_instance p (inlined_entry p)) (entry_fresh p (inlined_entry p))) fits

-- few words are counted only where there are few
pub few_words : (words : ℕ) → stopped (4 * words) ≤ 4 * most_shared_words → words ≤ most_shared_words
few_words words h = omega (arith, h)
