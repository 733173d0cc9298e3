-- Whether a module has a wave operation: DXIL's opcodes 110 (WaveIsFirstLane) to 121 (WavePrefixOp).
use Rattle.std.specs.Prelude.{ℕ, List, [], ◌∷◌, Bool, false, ◌||◌, ◌&&◌, nat_le, Option, Some, None}
use Rattle.ir_core.specs.declared.module.Function.{Function}
use Rattle.ir_core.specs.declared.module.Module.{Module}
use Rattle.ir_core.specs.declared.instruction.Body.{Body}
use Rattle.ir_core.specs.declared.instruction.Inst.{Inst}
use Rattle.ir_core.specs.declared.instruction.Inst.TheVariants.{Call}
use Rattle.ir_core.specs.Values.{Value, body_values, integer_at, instructions}

-- the opcode of a call: the number of its first argument, where that is a constant
abbrev pub call_opcode : Module → List Value → Inst → Option ℕ
call_opcode m values (Call function (opcode ∷ args)) = integer_at m.types values opcode
call_opcode m values _ = None

abbrev pub is_wave_opcode : Option ℕ → Bool
is_wave_opcode None = false
is_wave_opcode (Some opcode) = nat_le 110 opcode && nat_le opcode 121

-- whether one of the instructions is a call of a wave operation
abbrev pub any_wave : Module → List Value → List Inst → Bool
any_wave m values [] = false
any_wave m values (inst ∷ insts) =
    is_wave_opcode (call_opcode m values inst) || any_wave m values insts

abbrev pub body_uses_waves : Module → Function → Option Body → Bool
body_uses_waves m f None = false
body_uses_waves m f (Some body) =
    any_wave m (body_values m f body) (instructions body)

abbrev pub any_body_uses_waves : Module → List Function → Bool
any_body_uses_waves m [] = false
any_body_uses_waves m (f ∷ fs) = body_uses_waves m f f.body || any_body_uses_waves m fs

abbrev pub uses_waves : Module → Bool
uses_waves m = any_body_uses_waves m m.functions
