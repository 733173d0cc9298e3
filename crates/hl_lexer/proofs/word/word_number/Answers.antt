use Rattle.std.proofs.Common.{◌∙◌, sym, ap, [], length, slice_index_or, arith, eqb-true}
use Rattle.std.proofs.lemmas.Bool.{both_ways}
use Rattle.std.proofs.lemmas.Bool.Decides.{Decides-eqb}
use Rattle.std.proofs.lemmas.Slice.Eq.{slice_eq-Decides}
use Rattle.hl_lexer.specs.Spellings.{words}
use Rattle.hl_lexer.proofs.TableFacts.{word_at, word_in_slot, word_is, word_long, word_short, word_within}
use Rattle.hl_lexer.proofs.word.word_number.Goals as goal

pub returns-then-is_empty : goal.returns-then-is_empty
returns-then-is_empty c = λ n word.
    word_long n c.args.text.now (eqb-true (length c.args.text.now) 0 (sym c.is_empty.ensures ∙ c.if-is_empty.true)) word

pub returns-then-text-gt-LONGEST_WORD : goal.returns-then-text-gt-LONGEST_WORD
returns-then-text-gt-LONGEST_WORD c = λ n word. let short = word_short n c.args.text.now word in omega arith

pub returns-then-number-ge-WORD_COUNT : goal.returns-then-number-ge-WORD_COUNT
returns-then-number-ge-WORD_COUNT c = λ n word.
    let within = word_within n c.args.text.now word in
    let same = word_in_slot n c.word_in-number.result c.slot.result c.args.text.now c.word_in-number.ensures c.slot.ensures word in
    omega arith

pub returns-then-eq : goal.returns-then-eq
returns-then-eq c =
    let same = (slice_eq-Decides Decides-eqb c.spelling.result.now c.args.text.now c.eq.result c.eq.ensures).0 c.if-eq.true in
    word_at c.word_in-number.result c.args.text.now c.if-number-ge-WORD_COUNT.false (sym c.spelling.ensures ∙ same)

pub returns-else-eq : goal.returns-else-eq
returns-else-eq c = λ n word.
    let same = word_in_slot n c.word_in-number.result c.slot.result c.args.text.now c.word_in-number.ensures c.slot.ensures word in
    let spelled = c.spelling.ensures ∙ (ap (λ m. slice_index_or words m []) same ∙ word_is n c.args.text.now word) in
    both_ways c.eq.result c.if-eq.false ((slice_eq-Decides Decides-eqb c.spelling.result.now c.args.text.now c.eq.result c.eq.ensures).1 spelled)
