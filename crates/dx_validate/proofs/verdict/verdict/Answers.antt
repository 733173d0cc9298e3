use Rattle.std.proofs.Common.{List, Some, None, rules, subst, sym}
use Rattle.ir_core.specs.declared.module.Named.{Named}
use Rattle.ir_core.specs.declared.module.Ty.{Ty}
use Rattle.ir_core.specs.declared.module.Function.{Function}
use Rattle.ir_core.specs.declared.spot.Spot.{Spot}
use Rattle.dx_validate.specs.Places.{IsFirstFailure, HasKnownName, HasFineWidth}
use Rattle.dx_validate.specs.Bodies.{IsFirstBodyFault}
use Rattle.dx_validate.specs.Verdict.{IsVerdict}
use Rattle.dx_validate.specs.declared.rules.BodyFault.{BodyFault}
use Rattle.dx_validate.specs.declared.rules.BodyFault.TheVariants.{Missing, At}
use Rattle.dx_validate.proofs.Verdicts.{HasTriple, KnowsNames, HasFineWidths, verdict-1, verdict-3, verdict-8, verdict-9, verdict-9-missing, spotless}
use Rattle.dx_validate.proofs.verdict.verdict.Goals as goal

pub returns-then-not-is_shader_triple : goal.returns-then-not-is_shader_triple
returns-then-not-is_shader_triple c =
    let wrong : ¬ HasTriple c.args.module.now = search rules in verdict-1 c.args.module.now wrong

pub returns-in-Some : goal.returns-in-Some
returns-in-Some c =
    let right : HasTriple c.args.module.now = search rules in
    let found : IsFirstFailure HasKnownName c.args.module.now.named (Some c.in-Some.place) =
    subst (λ (xs : List Named). IsFirstFailure HasKnownName xs (Some c.in-Some.place)) c.as_slice-2.ensures.value c.in-Some.ensures.first in
    subst (λ (s : Spot). IsVerdict c.args.module.now 3 s) (sym c.of_named.ensures) (verdict-3 c.args.module.now c.in-Some.place right found.0 found.1)

pub returns-in-Some-first_odd_width : goal.returns-in-Some-first_odd_width
returns-in-Some-first_odd_width c =
    let right : HasTriple c.args.module.now = search rules in
    let names : KnowsNames c.args.module.now = subst (λ (xs : List Named). IsFirstFailure HasKnownName xs None) c.as_slice-2.ensures.value c.in_default.ensures.first in
    let found : IsFirstFailure HasFineWidth c.args.module.now.types (Some c.in-Some-first_odd_width.number) =
    subst (λ (xs : List Ty). IsFirstFailure HasFineWidth xs (Some c.in-Some-first_odd_width.number)) c.as_slice-3.ensures.value c.in-Some-first_odd_width.ensures.first in
    subst (λ (s : Spot). IsVerdict c.args.module.now 8 s) (sym c.of_type.ensures)
    (verdict-8 c.args.module.now c.in-Some-first_odd_width.number right names found.0 found.1)

pub returns-in-None : goal.returns-in-None
returns-in-None c =
    let right : HasTriple c.args.module.now = search rules in
    let names : KnowsNames c.args.module.now = subst (λ (xs : List Named). IsFirstFailure HasKnownName xs None) c.as_slice-2.ensures.value c.in_default.ensures.first in
    let widths : HasFineWidths c.args.module.now = subst (λ (xs : List Ty). IsFirstFailure HasFineWidth xs None) c.as_slice-3.ensures.value c.in_default-first_odd_width.ensures.first in
    let found : IsFirstBodyFault c.args.module.now.types c.args.module.now.functions None =
    subst (λ (fs : List Function). IsFirstBodyFault c.args.module.now.types fs None) c.as_slice-5.ensures.value
    (subst (λ (xs : List Ty). IsFirstBodyFault xs c.as_slice-5.result.now None) c.as_slice-4.ensures.value c.in-None.ensures.first) in
    spotless c.args.module.now right names widths found.0 found.1

pub returns-in-Some-Missing : goal.returns-in-Some-Missing
returns-in-Some-Missing c =
    let right : HasTriple c.args.module.now = search rules in
    let names : KnowsNames c.args.module.now = subst (λ (xs : List Named). IsFirstFailure HasKnownName xs None) c.as_slice-2.ensures.value c.in_default.ensures.first in
    let widths : HasFineWidths c.args.module.now = subst (λ (xs : List Ty). IsFirstFailure HasFineWidth xs None) c.as_slice-3.ensures.value c.in_default-first_odd_width.ensures.first in
    let first : IsFirstBodyFault c.as_slice-4.result.now c.as_slice-5.result.now (Some Missing) =
    subst (λ (b : BodyFault). IsFirstBodyFault c.as_slice-4.result.now c.as_slice-5.result.now (Some b)) c.in-Some-Missing.field-0-is c.in-Some-Missing.ensures.first in
    let found : IsFirstBodyFault c.args.module.now.types c.args.module.now.functions (Some Missing) =
    subst (λ (fs : List Function). IsFirstBodyFault c.args.module.now.types fs (Some Missing)) c.as_slice-5.ensures.value
    (subst (λ (xs : List Ty). IsFirstBodyFault xs c.as_slice-5.result.now (Some Missing)) c.as_slice-4.ensures.value first) in
    verdict-9-missing c.args.module.now right names widths found

pub returns-in-Some-At : goal.returns-in-Some-At
returns-in-Some-At c =
    let right : HasTriple c.args.module.now = search rules in
    let names : KnowsNames c.args.module.now = subst (λ (xs : List Named). IsFirstFailure HasKnownName xs None) c.as_slice-2.ensures.value c.in_default.ensures.first in
    let widths : HasFineWidths c.args.module.now = subst (λ (xs : List Ty). IsFirstFailure HasFineWidth xs None) c.as_slice-3.ensures.value c.in_default-first_odd_width.ensures.first in
    let first : IsFirstBodyFault c.as_slice-4.result.now c.as_slice-5.result.now (Some (At c.in-Some-At.place)) =
    subst (λ (b : BodyFault). IsFirstBodyFault c.as_slice-4.result.now c.as_slice-5.result.now (Some b)) c.in-Some-At.field-0-is c.in-Some-At.ensures.first in
    let found : IsFirstBodyFault c.args.module.now.types c.args.module.now.functions (Some (At c.in-Some-At.place)) =
    subst (λ (fs : List Function). IsFirstBodyFault c.args.module.now.types fs (Some (At c.in-Some-At.place))) c.as_slice-5.ensures.value
    (subst (λ (xs : List Ty). IsFirstBodyFault xs c.as_slice-5.result.now (Some (At c.in-Some-At.place))) c.as_slice-4.ensures.value first) in
    subst (λ (s : Spot). IsVerdict c.args.module.now 9 s) (sym c.of_function.ensures)
    (verdict-9 c.args.module.now c.in-Some-At.place right names widths found.0 found.1)
