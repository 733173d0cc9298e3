-- Answers that are errors.
use mathlib.Core.Logic.{inl, inr}
use Rattle.std.proofs.Common.{◌≡◌, ◌∙◌, ap}
use Rattle.std.specs.Prelude.{◌⊎◌, Result, Ok, Err}
use Rattle.std.specs.Result.{IsErrAnd, IsErrOf}
use Rattle.dxil_driver.specs.declared.compiler.CompileFault.{CompileFault}

-- an answer that is made of an error
pub answered : {T : Type 0} (r : Result T CompileFault) (fault : CompileFault) → IsErrAnd r (λ x. x ≡ fault) → r ≡ Err fault
answered (Ok value) fault h = absurd h
answered (Err other) fault h = ap (λ (f : CompileFault). Err f) h

-- a value is no error
pub no_error : {T E : Type 0} {value : T} {one other : E} → IsErrOf (Ok value) one ⊎ IsErrOf (Ok value) other → ⊥
no_error (inl e) = cc
no_error (inr e) = cc

-- an error that is one of two
pub named : {T : Type 0} {r : Result T CompileFault} {fault one other : CompileFault} → r ≡ Err fault → (fault ≡ one) ⊎ (fault ≡ other) → IsErrOf r one ⊎ IsErrOf r other
named is (inl e) = inl (is ∙ ap (λ (f : CompileFault). Err f) e)
named is (inr e) = inr (is ∙ ap (λ (f : CompileFault). Err f) e)
