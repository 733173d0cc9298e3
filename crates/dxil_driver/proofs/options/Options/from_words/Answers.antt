use Rattle.std.proofs.Common.{List, ℕ, IfOk, MatchOption, string_bytes, subst}
use Rattle.dxil_driver.specs.Options.{Chooses, ChoosesNone}
use Rattle.dxil_driver.proofs.Words.{no_words, four_words}
use Rattle.dxil_driver.proofs.options.Options.from_words.Goals as goal

pub returns-in_ok-chosen-in-empty : goal.returns-in_ok-chosen-in-empty
returns-in_ok-chosen-in-empty c =
    no_words string_bytes c.args.words.now c.in_ok-chosen-in-empty.chosen c.in-empty.len_below c.in_ok-chosen-in-empty.ensures

pub returns-in-len4 : goal.returns-in-len4
returns-in-len4 c =
    subst (λ (words : List (List ℕ)). IfOk c.from_two.result (λ found. MatchOption found (ChoosesNone words) (Chooses words)))
    (four_words string_bytes c.args.words.now c.first-item.result c.one-item.result c.second-item.result c.other-item.result
    c.as_str-in-len4.result.now c.as_str-in-len4-2.result.now c.as_str-in-len4-3.result.now c.as_str-in-len4-4.result.now
    c.in-len4.len_at_least c.in-len4.len_below c.first-item.is c.one-item.is c.second-item.is c.other-item.is
    c.as_str-in-len4.ensures.value c.as_str-in-len4-2.ensures.value c.as_str-in-len4-3.ensures.value c.as_str-in-len4-4.ensures.value) c.from_two.ensures
