use Rattle.std.proofs.Common.{◌≡◌, ℕ, ◌+◌, List, ◌++◌, length, ap, ◌∙◌}
use Rattle.byteorder.specs.Endian.{little_bytes}
use Rattle.dx_container.specs.Container.{program_body, program_name, written_part}
use Rattle.dx_container.proofs.Form.{written_program}
use Rattle.dx_container.proofs.written.put_program.Goals as goal

-- three additions, one after the other
added : (a b c d bitcode : List ℕ) (minor : ℕ)
    → b ≡ a ++ program_name
    → c ≡ b ++ little_bytes 4 (24 + length bitcode)
    → d ≡ c ++ program_body bitcode minor
    → d ≡ a ++ written_part program_name (program_body bitcode minor)
added a b c d bitcode minor e f g =
    g
    ∙ ap (λ (x : List ℕ). x ++ program_body bitcode minor) (f ∙ ap (λ (x : List ℕ). x ++ little_bytes 4 (24 + length bitcode)) e)
    ∙ written_program a bitcode minor

pub returns : goal.returns
returns c = added _ _ _ _ _ c.args.minor c.in_ok-extend_from_slice.ensures.items c.in_ok-put_word.ensures c.in_ok-put_program_body.ensures
