use Rattle.std.proofs.Common.{◌∙◌, sym, ap, map}
use Rattle.hl_meaning.specs.Views.{plain_ty}
use Rattle.hl_meaning.proofs.Plain.{plain_ty-Void}
use Rattle.hl_rules.specs.Intrinsics.{passed}
use Rattle.hl_values.specs.Intrinsics.{nothing_passed}
use Rattle.hl_values.proofs.PassingLemmas.{nothing-Barrier}
use Rattle.hl_values.proofs.passing.passed.Goals as goal

pub returns-in-Barrier : goal.returns-in-Barrier
returns-in-Barrier c =
    let types = map plain_ty c.args.args.now in
    c.nothing.ensures ∙ (ap (λ t. nothing_passed t types) plain_ty-Void ∙ (sym (nothing-Barrier types) ∙ sym (ap (λ s. passed s types) c.in-Barrier.is)))
