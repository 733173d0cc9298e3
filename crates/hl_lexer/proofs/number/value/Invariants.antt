use Rattle.std.proofs.Common.{◌≡◌, take}
use Rattle.std.specs.Char.{is_digit}
use Rattle.std.specs.List.{AllPass}
use Rattle.hl_lexer.specs.Numbers.{digits_number}
use Rattle.hl_lexer.specs.Scanning.{capped}
use Rattle.hl_lexer.proofs.number.value.Given as goal

abbrev pub invariant-loop-byte : goal.invariant-loop-byte
invariant-loop-byte l = record {
  each : AllPass (λ b. is_digit b l.base) (take l.byte-index l.digits);
  number : l.value ≡ capped (digits_number l.base (take l.byte-index l.digits));
}
