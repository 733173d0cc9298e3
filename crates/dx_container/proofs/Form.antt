-- The pieces of the container that is written.
use Rattle.std.proofs.Common.{◌≡◌, ℕ, ◌+◌, List, ◌++◌, length, sym, ap, ◌∙◌, append_assoc, arith}
use Rattle.byteorder.specs.Endian.{little_bytes}
use Rattle.dx_container.specs.Container.{program_name, program_body, written_part}

-- how long the body of the part `DXIL` is
pub length-program_body : (bitcode : List ℕ) (minor : ℕ) → length (program_body bitcode minor) ≡ 24 + length bitcode
length-program_body bitcode minor = omega arith

-- the part `DXIL`, piece by piece
pub written_program : (bytes bitcode : List ℕ) (minor : ℕ)
    → ((bytes ++ program_name) ++ little_bytes 4 (24 + length bitcode)) ++ program_body bitcode minor
    ≡ bytes ++ written_part program_name (program_body bitcode minor)
written_program bytes bitcode minor =
    ap (λ (n : ℕ). ((bytes ++ program_name) ++ little_bytes 4 n) ++ program_body bitcode minor) (sym (length-program_body bitcode minor))
    ∙ append_assoc (bytes ++ program_name) (little_bytes 4 (length (program_body bitcode minor))) (program_body bitcode minor)
    ∙ append_assoc bytes program_name (little_bytes 4 (length (program_body bitcode minor)) ++ program_body bitcode minor)
