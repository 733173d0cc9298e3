-- The laws on whole programs.
use Rattle.std.proofs.Common.{◌≡◌, ◌∙◌, refl, sym, ap, subst, ℕ, zero, suc, List, [], ◌∷◌, length, map, Some, slice_get}
use Rattle.std.specs.Prelude.{drop, take}
use Rattle.std.proofs.lemmas.List.{append-nil, take-append-drop}
use Rattle.std.proofs.lemmas.Option.{none-some}
use Rattle.lane_core.specs.Lane.{Lane}
use Rattle.hl_meaning.specs.Trees.{Expr}
use Rattle.hl_meaning.specs.Programs.{FunctionDef, Program}
use Rattle.hl_meaning.specs.Layout.{words_of}
use Rattle.hl_meaning.specs.WellFormed.{ArePassed, IsEntry, IsEntryIf, IsExpr, IsFunction, IsInput, IsStmt, IsWellFormed, callee_params, scope_of}
use Rattle.hl_source.specs.Expressions.{arguments, initial_parameters, parameters_of}
use Rattle.hl_source.specs.SourceLane.{callees_after}
use Rattle.typed_laws.specs.Fitting.{Yields}
use Rattle.typed_laws.specs.Laws.{ArgumentsFit, CallsFit, ExpressionsHold, FitParams, InputsFit, StatementsFit, StatementsHold, ValuesFit, VariablesBegin, callees_before, context_at}
use Rattle.typed_laws.proofs.Induction.{every_from_all}
use Rattle.typed_laws.proofs.Sound.{CalleesFit, HasValue}
use Rattle.typed_laws.proofs.Leaving.{does_leaves}
use Rattle.typed_laws.proofs.Functions.{AllGiving, all_giving, callees_giving, giving_at, giving_length, sound_in}
use Rattle.typed_laws.proofs.Arguments.{call_arguments}
use Rattle.typed_laws.proofs.Inputs.{all_inputs}
use Rattle.typed_laws.proofs.Sizes.{keeps_expr}
use Rattle.typed_laws.proofs.StatementSizes.{first_sizes, statement_holds}

-- there are so many functions before one
taken_length : {A : Type 0} (xs : List A) (number : ℕ) (x : A) → slice_get xs number ≡ Some x → length (take number xs) ≡ number
taken_length [] number x e = absurd (none-some x e)
taken_length (y ∷ xs) zero x e = refl
taken_length (y ∷ xs) (suc number) x e = ap suc (taken_length xs number x e)

-- a function of a number in a program, and those before it
module _ (p : Program) (well : IsWellFormed p) (lane : Lane) (n number : ℕ) (f : FunctionDef) (there : slice_get p.functions number ≡ Some f) where
  before : AllGiving p.structs (take number p.functions) (callees_before p lane n number)
  before = all_giving p well lane n [] [] (take number p.functions) (drop number p.functions) tt (sym (take-append-drop number p.functions))

  many : length (callees_before p lane n number) ≡ number
  many = giving_length p.structs (take number p.functions) (callees_before p lane n number) before ∙ taken_length p.functions number f there

  callees : CalleesFit (context_at p lane n number f)
  callees = callees_giving p lane (take number p.functions) (drop number p.functions) (callees_before p lane n number) f before (sym (take-append-drop number p.functions))

  sound_at : (e : Expr) → IsExpr (context_at p lane n number f).scope e → HasValue (context_at p lane n number f) e
  sound_at = sound_in p well lane n (callees_before p lane n number) f callees

pub values_fit : ValuesFit
values_fit p well lane n number f there e h s = (sound_at p well lane n number f there e (subst (λ m. IsExpr (scope_of p m f) e) (sym (many p well lane n number f there)) h)).fits s

pub arguments_fit : ArgumentsFit
arguments_fit p well lane n number f there function args h s =
    subst (λ m. ArePassed (scope_of p m f) (callee_params (slice_get (take m p.functions) function)) args → Yields (λ operands. FitParams p.structs (callee_params (slice_get (take m p.functions) function)) (initial_parameters operands)) (arguments (context_at p lane n number f) args (parameters_of (context_at p lane n number f) function) s))
    (many p well lane n number f there) (λ h'. call_arguments (context_at p lane n number f) (sound_at p well lane n number f there) function args s h') h

pub statements_fit : StatementsFit
statements_fit p well lane n number f there in_loop stmt h s =
    does_leaves (context_at p lane n number f) n (sound_at p well lane n number f there) stmt in_loop (subst (λ m. IsStmt (scope_of p m f) in_loop stmt) (sym (many p well lane n number f there)) h) s

pub calls_fit : CallsFit
calls_fit p well lane n number f there = giving_at p.structs p.functions (callees_after p lane n [] p.functions) (all_giving p well lane n [] [] p.functions [] tt (sym (append-nil p.functions))) number f there

pub inputs_fit : InputsFit
inputs_fit p well f there lane = all_inputs p lane f.variables f.parameters (every_from_all (IsInput f.variables) f.parameters is.inputs)
  where
    is : IsEntry f
    is = subst IsEntryIf there well.entry

pub variables_begin : VariablesBegin
variables_begin p well lane n number f there parameters exchange fit = first_sizes (context_at p lane n number f) f parameters exchange is.numbered is.there fit
  where
    is : IsFunction p number f
    is = well.functions number f there

pub expressions_hold : ExpressionsHold
expressions_hold c variables e s h = keeps_expr (map (λ v. words_of c.scope.structs v.ty) variables) c e s h

pub statements_hold : StatementsHold
statements_hold p well lane n number f there in_loop stmt is s h =
    statement_holds (context_at p lane n number f) n (sound_at p well lane n number f there) stmt in_loop (subst (λ m. IsStmt (scope_of p m f) in_loop stmt) (sym (many p well lane n number f there)) is) s h
