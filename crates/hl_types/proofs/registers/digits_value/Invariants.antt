use Rattle.std.proofs.Common.{◌≡◌, take}
use Rattle.hl_lexer.specs.Numbers.{digits_number}
use Rattle.hl_lexer.specs.Scanning.{capped}
use Rattle.hl_types.proofs.registers.digits_value.Given as goal

abbrev pub invariant-loop-byte : goal.invariant-loop-byte
invariant-loop-byte l = l.value ≡ capped (digits_number 10 (take l.byte-index l.digits))
