use Rattle.std.proofs.Common.{rules, arith, ◌+◌, Bool, false, subst, sym}
use Rattle.ir_core.specs.ValidatorRules.{IsPlain}
use Rattle.ir_core.specs.ValidatorRules.{HasBody}
use Rattle.dx_validate.proofs.BodySearch.{Passed, Passed-bodiless, Passed-first, Passed-all, seen_one, seen_none}
use Rattle.dx_validate.proofs.rules.first_body_fault.Goals as goal
use Rattle.dx_validate.proofs.rules.first_body_fault.Goals.{then-is_some+else-found+else-not-is_plain, else-is_some}

pub loop-place-preserved : goal.loop-place-preserved
loop-place-preserved c =
    elim c.if-is_some.branch [
      | then-is_some+else-found+else-not-is_plain w ↦
          let before : Passed c.args.types.now c.args.functions.now c.loop-place.place false = subst (λ (f : Bool). Passed c.args.types.now c.args.functions.now c.loop-place.place f) w.if-found.false c.loop-place.invariant in
          let body : HasBody c.index-functions-place.result = search rules in
          let plain : IsPlain c.args.types.now c.index-functions-place.result.ty = search rules in
          subst (λ (f : Bool). Passed c.args.types.now c.args.functions.now (c.loop-place.place + 1) f) (sym w.found-is)
          (Passed-first c.args.types.now c.args.functions.now c.loop-place.place c.index-functions-place.result before (omega arith) c.index-functions-place.is body plain)
      | else-is_some w ↦
          let none : HasBody c.index-functions-place.result → ⊥ = search rules in
          subst (λ (f : Bool). Passed c.args.types.now c.args.functions.now (c.loop-place.place + 1) f) (sym w.found-is)
          (Passed-bodiless c.args.types.now c.args.functions.now c.loop-place.place c.loop-place.found c.index-functions-place.result c.loop-place.invariant c.index-functions-place.is none)
    ]

pub returns-then-found-2-clause-first : goal.returns-then-found-2-clause-first
returns-then-found-2-clause-first c = (
  seen_one c.args.types.now c.args.functions.now c.loop-place.place (subst (λ (f : Bool). Passed c.args.types.now c.args.functions.now c.loop-place.place f) c.if-found-2.true c.loop-place.invariant),
  Passed-all c.args.types.now c.args.functions.now c.loop-place.place c.loop-place.found c.loop-place.invariant (omega arith),
)

pub returns-else-found-2-clause-first : goal.returns-else-found-2-clause-first
returns-else-found-2-clause-first c =
    seen_none c.args.types.now c.args.functions.now c.loop-place.place (subst (λ (f : Bool). Passed c.args.types.now c.args.functions.now c.loop-place.place f) c.if-found-2.false c.loop-place.invariant) (omega arith)
