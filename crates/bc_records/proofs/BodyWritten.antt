-- The written body records the body.
use Rattle.std.proofs.Common.{◌≡◌, ℕ, ◌<◌, List, [], ◌∷◌, ◌++◌, Some, None, Option, map, length, refl, ap, sym, ◌∙◌, subst, lit<}
use Rattle.std.specs.Prelude.{All, Contains, flat_map, option_and_then, MatchOption, if◌then◌else◌}
use Rattle.std.proofs.lemmas.List.{append-nil}
use Rattle.std.proofs.lemmas.List.Elements.{All-nil, All-cons, All-head, All-tail}
use Rattle.ir_core.specs.declared.instruction.Inst.{Inst}
use Rattle.ir_core.specs.declared.instruction.Inst.TheVariants.{Call, Ret}
use Rattle.ir_core.specs.declared.instruction.Block.{Block}
use Rattle.ir_core.specs.declared.instruction.Body.{Body}
use Rattle.ir_core.specs.declared.module.Function.{Function}
use Rattle.ir_core.specs.declared.module.Module.{Module}
use Rattle.ir_core.specs.Values.{instructions, function_at, signature}
use Rattle.ir_core.specs.Soundness.{IsSoundInst, Takes, EndsOnce}
use Rattle.bc_stream.specs.Blocks.{no_more}
use Rattle.bc_records.specs.Entries.{IsWord}
use Rattle.bc_records.specs.ConstantRecords.{ConstantsRecorded}
use Rattle.bc_records.specs.BodyRecords.{declare_blocks, body_entry, declared_blocks, instruction_records, InstructionsRecorded, IsTypeOf, absolute, first_value, next_value, filled_blocks, before_first, BodyRecorded}
use Rattle.bc_records.specs.FirstList.{IsListedInst}
use Rattle.bc_records.specs.Ranges.{InstInRange, AreWords}
use Rattle.bc_records.specs.Written.{relative, type_number, written_code, constants_contents, body_contents}
use Rattle.bc_records.proofs.ListedLemmas.{entries_in-alone, block_ids-listed, blocks_in-listed}
use Rattle.bc_records.proofs.ConstantsWritten.{constants_written}
use Rattle.bc_records.proofs.Numbers.{absolute-relative, relative-below}

operands_back : (next : ℕ) (args : List ℕ) → AreWords args → map (absolute next) (map (relative next) args) ≡ args
operands_back next [] words = refl
operands_back next (arg ∷ args) words =
    ap (λ a. a ∷ map (absolute next) (map (relative next) args)) (absolute-relative next arg (All-head IsWord arg args words))
    ∙ ap (λ rest. arg ∷ rest) (operands_back next args (All-tail IsWord arg args words))

relative_words : (next : ℕ) (args : List ℕ) → All IsWord (map (relative next) args)
relative_words next [] = All-nil IsWord
relative_words next (arg ∷ args) = All-cons IsWord (relative next arg) (map (relative next) args) (relative-below next arg) (relative_words next args)

-- a call of a function that takes so many arguments has the function's type
type_of_found : (m : Module) (found : Option Function) (args : ℕ) → MatchOption (option_and_then (λ f. signature m.types f.ty) found) ⊥ (λ s. length s.1 ≡ args) →
    (function : ℕ) → function_at m function ≡ found → IsTypeOf m function (type_number m function)
type_of_found m None args takes function is = absurd takes
type_of_found m (Some f) args takes function is = rw is refl

type_of_callee : (m : Module) (function args : ℕ) → Takes m function args → IsTypeOf m function (type_number m function)
type_of_callee m function args takes = type_of_found m (function_at m function) args takes function refl

module _ (m : Module) (values blocks : ℕ) where
  code_written : (next : ℕ) (insts : List Inst) → All IsListedInst insts → All InstInRange insts → All (IsSoundInst m values blocks) insts →
      InstructionsRecorded m next (instruction_records (written_code m next insts)) insts
  code_written next [] listed in_range sound = tt
  code_written next (Ret ∷ insts) listed in_range sound =
      (refl, code_written (next_value m next Ret) insts (All-tail IsListedInst Ret insts listed) (All-tail InstInRange Ret insts in_range) (All-tail (IsSoundInst m values blocks) Ret insts sound))
  code_written next (Call function args ∷ insts) listed in_range sound =
      let ranges : InstInRange (Call function args) = All-head InstInRange (Call function args) insts in_range in
      let facts : IsSoundInst m values blocks (Call function args) = All-head (IsSoundInst m values blocks) (Call function args) insts sound in
      let callee : absolute next (relative next function) ≡ function = absolute-relative next function ranges.0 in
      let is : Call function args ≡ Call (absolute next (relative next function)) (map (absolute next) (map (relative next) args))
      = ap (λ f. Call f args) (sym callee) ∙ ap (Call (absolute next (relative next function))) (sym (operands_back next args ranges.1)) in (
        (
          is,
          refl,
          subst (λ f. IsTypeOf m f (type_number m function)) (sym callee) (type_of_callee m function (length args) facts.0),
          All-cons IsWord (relative next function) (map (relative next) args) (relative-below next function) (relative_words next args),
        ),
        code_written (next_value m next (Call function args)) insts (All-tail IsListedInst (Call function args) insts listed) (All-tail InstInRange (Call function args) insts in_range) (All-tail (IsSoundInst m values blocks) (Call function args) insts sound),
      )
  code_written next (inst ∷ insts) listed in_range sound = absurd (All-head IsListedInst inst insts listed)

no_declarations : (m : Module) (next : ℕ) (insts : List Inst) → declared_blocks (written_code m next insts) ≡ []
no_declarations m next [] = refl
no_declarations m next (Ret ∷ insts) = no_declarations m (next_value m next Ret) insts
no_declarations m next (inst ∷ insts) = no_declarations m (next_value m next inst) insts

-- instructions that end once fill one block
filled-once : (insts rest : List Inst) → EndsOnce insts → filled_blocks (insts ++ rest) ≡ insts ∷ filled_blocks rest
filled-once [] rest ends = absurd ends
filled-once (inst ∷ []) rest ends = ap (λ b. if b then (inst ∷ []) ∷ filled_blocks rest else before_first inst (filled_blocks rest)) ends
filled-once (inst ∷ next ∷ insts) rest ends =
    ap (λ b. if b then (inst ∷ []) ∷ filled_blocks ((next ∷ insts) ++ rest) else before_first inst (filled_blocks ((next ∷ insts) ++ rest))) ends.0
    ∙ ap (before_first inst) (filled-once (next ∷ insts) rest ends.1)

filled-blocks : (blocks : List Block) → All (λ k. EndsOnce k.insts) blocks → map (λ k. k.insts) blocks ≡ filled_blocks (flat_map (λ k. k.insts) blocks)
filled-blocks [] ended = refl
filled-blocks (block ∷ blocks) ended =
    ap (λ bs. block.insts ∷ bs) (filled-blocks blocks (All-tail (λ k. EndsOnce k.insts) block blocks ended))
    ∙ sym (filled-once block.insts (flat_map (λ k. k.insts) blocks) (All-head (λ k. EndsOnce k.insts) block blocks ended))

pub body_written : (m : Module) (f : Function) (body : Body) (values : ℕ) →
    All (λ c. c.ty < length m.types) body.consts →
    All (IsSoundInst m values (length body.blocks)) (instructions body) →
    All (λ k. EndsOnce k.insts) body.blocks →
    All IsListedInst (instructions body) → All InstInRange (instructions body) →
    BodyRecorded m f (body_contents m f body) body
body_written m f body values consts sound ended listed_insts in_range = record {
  records = declare_blocks (length body.blocks) ∷ written_code m (first_value m f body) (instructions body);
  spelled = ap (λ entries. body_entry (declare_blocks (length body.blocks)) ∷ entries) (entries_in-alone (map body_entry (written_code m (first_value m f body) (instructions body))));
  known_blocks = subst (λ ids. All (Contains (11 ∷ 14 ∷ 15 ∷ [])) (11 ∷ ids)) (sym (block_ids-listed (map body_entry (written_code m (first_value m f body) (instructions body))) no_more))
      (All-cons (Contains (11 ∷ 14 ∷ 15 ∷ [])) 11 [] (0, lit< tt, refl) (All-nil (Contains (11 ∷ 14 ∷ 15 ∷ []))));
  constants = subst (λ blocks. ConstantsRecorded (length m.types) (constants_contents body.consts ∷ blocks) body.consts)
      (sym (blocks_in-listed 11 (map body_entry (written_code m (first_value m f body) (instructions body))) no_more))
      (constants_written (length m.types) body.consts consts);
  number = ap (λ ns. length body.blocks ∷ ns) (no_declarations m (first_value m f body) (instructions body));
  code = code_written m values (length body.blocks) (first_value m f body) (instructions body) listed_insts in_range sound;
  empty = 0;
  filled = filled-blocks body.blocks ended ∙ sym (append-nil (filled_blocks (instructions body)));
}
