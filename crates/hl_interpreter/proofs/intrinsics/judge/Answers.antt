use Rattle.std.proofs.Common.{◌∙◌, ap, sym, rules, tests}
use Rattle.std.proofs.lemmas.Iterator.{YieldsList-from_slice}
use Rattle.std.proofs.lemmas.Iterator.Search.{all_from_yields_List, any_from_yields_List}
use Rattle.lane_core.specs.Words.{holds}
use Rattle.hl_interpreter.specs.HeldWorks.{plain_judgement}
use Rattle.hl_interpreter.proofs.intrinsics.judge.Goals as goal

pub returns-in-Any : goal.returns-in-Any
returns-in-Any c =
    any_from_yields_List holds _ _ _ c.any.ensures.ran (YieldsList-from_slice c.args.words.now cc) (λ x b q k. search (rules, tests)) ∙ sym (ap (λ j. plain_judgement j c.args.words.now) c.in-Any.is)

pub returns-in-All : goal.returns-in-All
returns-in-All c =
    all_from_yields_List holds _ _ _ c.all.ensures.ran (YieldsList-from_slice c.args.words.now cc) (λ x b q k. search (rules, tests)) ∙ sym (ap (λ j. plain_judgement j c.args.words.now) c.in-All.is)
