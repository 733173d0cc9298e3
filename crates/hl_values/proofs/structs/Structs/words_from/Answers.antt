use Rattle.std.proofs.Common.{◌∙◌, sym, ap, option_map, map, drop, ◌+◌}
use Rattle.hl_rules.specs.Scopes.{members_words, words_if}
use Rattle.hl_values.specs.StructTables.{plain_member, plain_structs}
use Rattle.hl_values.specs.Views.{plain_type_if}
use Rattle.hl_values.specs.WordCounts.{counted}
use Rattle.hl_values.proofs.WordLemmas.{members_words-at, plus-known, plus-unknown, plus-without}
use Rattle.hl_values.proofs.structs.Structs.words_from.Goals as goal

pub returns-in_err-words : goal.returns-in_err-words
returns-in_err-words c =
    c.from_residual-in_err-words.ensures ∙
    (plus-unknown (words_if (plain_structs c.args.self.now) (plain_type_if c.in_ok-ty.ty.now)) (members_words (plain_structs c.args.self.now) (map plain_member (drop (c.args.at + 1) c.args.members.now)))
    c.in_err-words.ensures ∙
    sym (ap (λ o. option_map counted o) (members_words-at (plain_structs c.args.self.now) c.args.members.now c.args.at c.in_ok-ty.ty.now c.in_ok-ty.ensures)))

pub returns-in_err-more : goal.returns-in_err-more
returns-in_err-more c =
    c.from_residual-in_err-more.ensures ∙
    (plus-without (words_if (plain_structs c.args.self.now) (plain_type_if c.in_ok-ty.ty.now)) (members_words (plain_structs c.args.self.now) (map plain_member (drop (c.args.at + 1) c.args.members.now)))
    c.in_ok-words.words c.in_ok-words.ensures (sym c.in_err-more.was ∙ c.requires.behind) ∙
    sym (ap (λ o. option_map counted o) (members_words-at (plain_structs c.args.self.now) c.args.members.now c.args.at c.in_ok-ty.ty.now c.in_ok-ty.ensures)))

pub returns : goal.returns
returns c =
    plus-known (words_if (plain_structs c.args.self.now) (plain_type_if c.in_ok-ty.ty.now)) (members_words (plain_structs c.args.self.now) (map plain_member (drop (c.args.at + 1) c.args.members.now)))
    c.in_ok-words.words c.in_ok-more.more c.plus.result c.in_ok-words.ensures (sym c.in_ok-more.was ∙ c.requires.behind) c.plus.ensures ∙
    sym (ap (λ o. option_map counted o) (members_words-at (plain_structs c.args.self.now) c.args.members.now c.args.at c.in_ok-ty.ty.now c.in_ok-ty.ensures))
