-- The program without calls around the body of its entry.
use Rattle.std.proofs.Common.{◌≡◌, ◌∙◌, ap, sym, ℕ, ◌+◌, ◌<◌, ◌≤◌, ◌⊎◌, inl, inr, subst, List, [], ◌∷◌, ◌++◌, append_assoc, get_or, length, length-append, map, take}
use Rattle.std.specs.Prelude.{slice_get}
use Rattle.std.proofs.Math.Logic.{∥∥₁_elim}
use Rattle.std.proofs.Props.{props}
use Rattle.std.proofs.lemmas.Bool.{cases_lt}
use Rattle.std.proofs.lemmas.List.{length-map}
use Rattle.std.proofs.lemmas.Option.{slice_get_past}
use Rattle.hl_meaning.specs.declared.program.FunctionDef.{FunctionDef as HeldFunction}
use Rattle.hl_meaning.specs.Programs.{FunctionDef, Program, Resource, StructDef, Variable}
use Rattle.hl_meaning.specs.Views.{plain_function}
use Rattle.hl_meaning.specs.WellFormed.{IsEntryIf, IsWellFormed}
use Rattle.hl_inline.specs.Building.{emitted_to, inlined_all, named_body}
use Rattle.hl_inline.specs.Entering.{entry_before, entry_behind}
use Rattle.hl_inline.specs.FlatTrees.{Flat, FlatStmt, flat_block, flat_named}
use Rattle.hl_inline.specs.FlatViews.{flat_stmts_of}
use Rattle.hl_inline.specs.EmittedCode.{EmittedCode, emitted_with}
use Rattle.hl_inline.specs.Fresh.{Fresh, next_of}
use Rattle.hl_inline.specs.InlinedCalls.{Inlined, inlined_at}
use Rattle.hl_inline.specs.InlinedFunctions.{inlined}
use Rattle.hl_inline.specs.InlinedPrograms.{entry_body, entry_fresh, entry_instance, flat_around, inlined_entry, inlined_program, set_constants, set_inputs}
use Rattle.hl_inline.proofs.CalleeLemmas.{callee_found}

-- the code of the entry, behind what is set first
pub entry-code : (p : Program) (d : FunctionDef) (f : Inlined) (fresh : Fresh) (first result : ℕ) (code : List FlatStmt) (y : EmittedCode) → first ≡ length p.constants → result ≡ next_of fresh → code ≡ entry_before p d
    → emitted_with code (named_body f (record { first = first; result = result; exit = 0 }) fresh) ≡ y → emitted_with (entry_before p d) (named_body f (entry_behind p fresh) fresh) ≡ y
entry-code p d f fresh first result code y first-is result-is code-is e =
    ap (λ l. emitted_with l (named_body f (entry_behind p fresh) fresh)) (sym code-is) ∙
    (ap (λ n. emitted_with code (named_body f (record { first = n; result = next_of fresh; exit = 0 }) fresh)) (sym first-is) ∙
    (ap (λ n. emitted_with code (named_body f (record { first = first; result = n; exit = 0 }) fresh)) (sym result-is) ∙ e))

-- the entry stands behind the variables of the constants and its own
entry-place : (p : Program) (f : Inlined) → entry_behind p (entry_fresh p f) ≡ entry_instance p f
entry-place p f =
    ap (λ n. record { first = length p.constants; result = n; exit = 0 })
    (length-append (map (λ c. c.variable) p.constants) f.variables ∙ ap (λ n. n + length f.variables) (length-map p.constants (λ c. c.variable)))

pub flat-around : (p : Program) (d : FunctionDef) (k : List Inlined) (fresh now : Fresh) (code : List FlatStmt) → fresh ≡ entry_fresh p (inlined k d)
    → emitted_with (entry_before p d) (named_body (inlined k d) (entry_behind p fresh) fresh) ≡ emitted_to code now
    → flat_around p (inlined k d) (entry_body p (inlined k d)) ≡
    record { structs = p.structs; variables = now.variables; resources = p.resources; shared = p.shared; threads = p.threads; body = flat_stmts_of code }
flat-around p d k fresh now code is e =
    let f = inlined k d in
    let body = entry_body p f in
    let constants = set_constants p.structs 0 p.constants in
    let inputs = set_inputs (length p.constants) d.parameters in
    let named = flat_named 0 (flat_block (flat_stmts_of body.code)) ∷ [] in
    let emitted_stmt : emitted_with (entry_before p d) (named_body f (entry_instance p f) (entry_fresh p f)) ≡ emitted_to code now =
    ap (λ i. emitted_with (entry_before p d) (named_body f i (entry_fresh p f))) (sym (entry-place p f)) ∙
    (ap (λ x. emitted_with (entry_before p d) (named_body f (entry_behind p x) x)) (sym is) ∙ e) in
    ap (around p body.fresh.variables) (sym (append_assoc constants inputs named) ∙ ap (λ l. l.code) emitted_stmt) ∙ ap (λ l. around p l.fresh.variables code) emitted_stmt
  where
    around : (p : Program) → List Variable → List FlatStmt → Flat
    around p variables code = record { structs = p.structs; variables = variables; resources = p.resources; shared = p.shared; threads = p.threads; body = flat_stmts_of code }

-- what the entry starts with
abbrev pub started : (constants variables : List Variable) → Fresh
started constants variables = record { variables = constants ++ variables; names = 1 }

-- the entry, as it is called
pub entry-is : (held functions : List HeldFunction) (number : ℕ) (entry : HeldFunction) → held ≡ functions → number < length functions → entry ≡ get_or functions number entry
    → inlined_at (inlined_all held) number ≡ inlined (inlined_all (take number functions)) (plain_function entry)
entry-is held functions number entry same within is = ap (λ l. inlined_at (inlined_all l) number) same ∙ callee_found functions number entry within is

pub inlined_program-as : (p : Program) (f : Inlined) → inlined_entry p ≡ f → inlined_program p ≡ flat_around p f (entry_body p f)
unfolding inlined_program
inlined_program-as p f is = ap (λ g. flat_around p g (entry_body p g)) is

-- the parts of it
abbrev pub flat_with : Program → List StructDef → List Variable → List Resource → (shared : List Variable) → List FlatStmt → Flat
flat_with p structs variables resources shared code = record {
  structs = structs;
  variables = variables;
  resources = resources;
  shared = shared;
  threads = p.threads;
  body = flat_stmts_of code;
}

pub flat-parts : (p : Program) (structs : List StructDef) (variables : List Variable) (resources : List Resource) (shared : List Variable) (code : List FlatStmt)
    → structs ≡ p.structs → resources ≡ p.resources → shared ≡ p.shared → flat_with p structs variables resources shared code ≡ flat_with p p.structs variables p.resources p.shared code
flat-parts p structs variables resources shared code a b c =
    ap (λ x. flat_with p x variables resources shared code) a ∙
    (ap (λ x. flat_with p p.structs variables x shared code) b ∙ ap (λ x. flat_with p p.structs variables p.resources x code) c)

-- the entry of a well-formed program is there
pub entry_there : (p : Program) → ∥ IsWellFormed p ∥₁ → p.entry < length p.functions
entry_there p well_formed =
    let is_prop : IsProp (p.entry < length p.functions) = hlevel props in
    ∥∥₁_elim well_formed is_prop (λ w. within w.entry (cases_lt p.entry (length p.functions)))
  where
    within : IsEntryIf (slice_get p.functions p.entry) → (p.entry < length p.functions) ⊎ (length p.functions ≤ p.entry) → p.entry < length p.functions
    within entry (inl small) = small
    within entry (inr past) = absurd (subst IsEntryIf (slice_get_past p.functions p.entry past) entry)
