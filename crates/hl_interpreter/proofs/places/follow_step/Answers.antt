use Rattle.std.proofs.Common.{◌∙◌, ap}
use Rattle.std.proofs.lemmas.Result.{IfOk-weaker}
use Rattle.hl_meaning.specs.Views.{plain_structs}
use Rattle.hl_source.specs.Offsets.{step_to_letters}
use Rattle.hl_interpreter.specs.HeldPlaces.{plain_reached}
use Rattle.hl_interpreter.proofs.HeldPaths.{step-index, step-member, step-swizzle}
use Rattle.hl_interpreter.proofs.places.follow_step.Goals as goal

pub returns-in-Member : goal.returns-in-Member
returns-in-Member c = λ rest indexes e.
    step-member (plain_structs c.args.program.now.structs) (plain_reached c.args.from) (plain_reached c.step_to_member.result) c.args.part.now rest indexes c.in-Member.number c.in-Member.is c.step_to_member.ensures

pub returns-in-Index : goal.returns-in-Index
returns-in-Index c =
    IfOk-weaker c.step_to_element.result _ _
    (λ there h. λ rest indexes e. step-index (plain_structs c.args.program.now.structs) (plain_reached c.args.from) (plain_reached there) c.args.part.now rest indexes c.in-Index.field-0 c.args.index c.in-Index.is e h)
    c.step_to_element.ensures

pub returns-in-Swizzle : goal.returns-in-Swizzle
returns-in-Swizzle c = λ rest indexes e.
    step-swizzle (plain_structs c.args.program.now.structs) (plain_reached c.args.from) (plain_reached c.step_to_letters.result) c.args.part.now rest indexes c.in-Swizzle.letters c.in-Swizzle.is
    (c.step_to_letters.ensures ∙ ap (step_to_letters (plain_reached c.args.from)) c.as_slice.ensures.value)
