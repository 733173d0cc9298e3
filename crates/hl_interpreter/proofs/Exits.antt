-- The exits of functions whose calls stop.
use Rattle.std.proofs.Common.{◌≡◌, subst, sym, ℕ, List, [], Result, Ok, Err}
use Rattle.std.specs.Result.{IsErrAnd}
use Rattle.lane_core.specs.declared.event.Asked.{Asked}
use Rattle.lane_core.specs.declared.event.Asked.TheVariants.{Fault}
use Rattle.lane_core.specs.declared.event.LaneFault.{LaneFault}
use Rattle.lane_core.specs.Lane.{standing}
use Rattle.hl_source.specs.State.{Progress, State, ends_at, faults}
use Rattle.hl_interpreter.specs.declared.run.Stop.{Stop}
use Rattle.hl_interpreter.specs.declared.run.Stop.TheVariants.{Ends, Memory}
use Rattle.hl_interpreter.specs.Runs.{Meets}

-- what a call gives that is done for its effect
abbrev pub effect : Unit {0} → List ℕ
effect _ = []

-- memory was refused
pub memory-err : {A C : Type 0} (view : A → C) (e : Stop) (s : State) (p : Progress C) → e ≡ Memory → Meets view (Err e) s p
memory-err view e s p is = subst (λ x. Meets view (Err x) s p) (sym is) tt

pub memory-exit : {A C : Type 0} (view : A → C) (r : Result A Stop) (s : State) (p : Progress C) → IsErrAnd r (λ e. e ≡ Memory) → Meets view r s p
memory-exit view (Ok a) s p is = absurd is
memory-exit view (Err e) s p is = memory-err view e s p is

-- the run ends
pub ends-err : {A C : Type 0} (view : A → C) (e : Stop) (outcome : Asked) (s : State) (p : Progress C) → e ≡ Ends outcome → p ≡ ends_at (standing s.exchange outcome) → Meets view (Err e) s p
ends-err view e outcome s p is h = subst (λ x. Meets view (Err x) s p) (sym is) h

pub fault-exit : {A C : Type 0} (view : A → C) (r : Result A Stop) (fault : LaneFault) (s : State) (p : Progress C) → IsErrAnd r (λ e. e ≡ Ends (Fault fault)) → p ≡ faults fault s → Meets view r s p
fault-exit view (Ok a) fault s p is h = absurd is
fault-exit view (Err e) fault s p is h = ends-err view e (Fault fault) s p is h

-- a call stops, and so does its caller
pub stop-exit : {A C : Type 0} (view : A → C) (r : Result A Stop) (e : Stop) (s : State) (p : Progress C) → IsErrAnd r (λ x. x ≡ e) → Meets view (Err e) s p → Meets view r s p
stop-exit view (Ok a) e s p is h = absurd is
stop-exit view (Err x) e s p is h = subst (λ y. Meets view (Err y) s p) (sym is) h
