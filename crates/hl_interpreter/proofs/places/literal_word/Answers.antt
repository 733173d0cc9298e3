use Rattle.std.proofs.Common.{ap, sym}
use Rattle.hl_meaning.proofs.Plain.{plain_form-Literal}
use Rattle.hl_source.specs.Offsets.{literal_word}
use Rattle.hl_interpreter.proofs.Forms.{expr-of}
use Rattle.hl_interpreter.proofs.HeldPaths.{literal_word-other}
use Rattle.hl_interpreter.proofs.places.literal_word.Goals as goal

pub returns-in-Literal : goal.returns-in-Literal
returns-in-Literal c = sym (ap literal_word (expr-of c.args.expr.now _ _ c.in-Literal.is (plain_form-Literal c.in-Literal.word)))

pub returns-in_default : goal.returns-in_default
returns-in_default c = sym (literal_word-other c.args.expr.now c.in_default.not-Literal)
