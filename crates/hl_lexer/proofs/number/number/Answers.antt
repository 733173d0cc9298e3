use Rattle.std.proofs.Common.{◌≡◌, ◌∙◌, sym, subst, ℕ, List, MatchOption}
use Rattle.std.proofs.lemmas.List.{take_rest}
use Rattle.hl_lexer.specs.Numbers.{AreSomeDigits, digits_number}
use Rattle.hl_lexer.specs.Scanning.{capped}
use Rattle.hl_lexer.proofs.NumberFacts.{IsBaseByte}
use Rattle.hl_lexer.proofs.ValueFacts.{hexadecimal_given}
use Rattle.hl_lexer.proofs.number.number.Goals as goal

pub returns-then-is_hexadecimal_mark : goal.returns-then-is_hexadecimal_mark
returns-then-is_hexadecimal_mark c =
    let digits = c.args.digits.now in
    let found = c.value-then-is_hexadecimal_mark.result in
    let given = λ (rest : List ℕ). MatchOption found (¬ AreSomeDigits 16 rest) (λ v. AreSomeDigits 16 rest × (v ≡ capped (digits_number 16 rest))) in
    hexadecimal_given digits
    (sym c.byte_at.ensures ∙ c.if-byte_at-ne48.false)
    (subst IsBaseByte c.byte_at-2.ensures (c.is_hexadecimal_mark.ensures.0 c.if-is_hexadecimal_mark.true))
    found
    (subst given (take_rest digits 2) c.value-then-is_hexadecimal_mark.ensures)
