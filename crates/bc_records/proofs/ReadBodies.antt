-- A block FUNCTION without a fault holds a body, which is sound and in range.
use Rattle.std.proofs.Common.{◌≡◌, ℕ, zero, suc, ◌+◌, ◌-◌, ◌≤◌, List, [], ◌∷◌, ◌++◌, map, length, refl, ap, sym, ◌∙◌, subst, arith}
use Rattle.std.specs.Prelude.{Bool, true, false, if◌then◌else◌, Some, slice_get, replicate, flat_map, All}
use Rattle.std.specs.List.{filter}
use Rattle.std.specs.Option.{option_map_or}
use Rattle.std.proofs.lemmas.List.{length-append, length-map, length-replicate}
use Rattle.std.proofs.lemmas.List.Elements.{All-nil, All-cons, All-head, All-tail, All-append}
use Rattle.ir_core.specs.declared.instruction.Inst.{Inst}
use Rattle.ir_core.specs.declared.instruction.Block.{Block}
use Rattle.ir_core.specs.declared.instruction.Body.{Body}
use Rattle.ir_core.specs.declared.module.Const.{Const}
use Rattle.ir_core.specs.declared.module.Function.{Function}
use Rattle.ir_core.specs.declared.module.Module.{Module}
use Rattle.ir_core.specs.Values.{constant_value, parameter_value, instruction_value, parameters, module_values, body_values, instructions, has_value}
use Rattle.ir_core.specs.Soundness.{IsSoundInst, IsSoundBody, IsSoundType, ends_block}
use Rattle.bc_stream.specs.Blocks.{Contents}
use Rattle.bc_records.specs.Entries.{Entry, entries_in, blocks_in, IsWord}
use Rattle.bc_records.specs.BodyRecords.{BodyRecord, body_entry, first_value, instruction_records, InstructionsRecorded, filled_blocks, before_first, BodyRecorded}
use Rattle.bc_records.specs.RecordKinds.{Known, Numbers, numbers_of, constant_kinds, constants_in, all_of, first_operand, next_after, has_code}
use Rattle.bc_records.specs.Ranges.{InstInRange, BlockInRange, BodyInRange}
use Rattle.bc_records.specs.Read.{word, read_constants, read_instructions, read_count, block_of, up_to, read_body}
use Rattle.bc_records.proofs.Agreement.{Agrees}
use Rattle.bc_records.proofs.FreeBodies.{values_long}
use Rattle.bc_records.proofs.NoRecordFault.{params_long, values_count}
use Rattle.bc_records.proofs.Tests.{Each}
use Rattle.bc_records.proofs.ReadConstants.{ConstantsTold, constants_told}
use Rattle.bc_records.proofs.HeldBlocks.{BodyHeld}
use Rattle.bc_records.proofs.ReadCode.{FreeBody, body_spelled, Number, one_number, CodeTold, code_told, room_told, insts_fit, insts_listed}
use Rattle.bc_records.proofs.HaveTypes.{HasType, have_types, constants_typed, parameters_typed, parameters_named, insts_typed}
use Rattle.bc_records.proofs.Told.{Plain, word_same}

-- blocks of instructions

joined_append : (xs ys zs : List Inst) → (xs ++ ys) ++ zs ≡ xs ++ (ys ++ zs)
joined_append [] ys zs = refl
joined_append (x ∷ xs) ys zs = ap (λ l. x ∷ l) (joined_append xs ys zs)

-- filled blocks hold the instructions in order
filled_join : (insts : List Inst) → flat_map (λ (b : List Inst). b) (filled_blocks insts) ≡ insts
filled_join [] = refl
filled_join (inst ∷ insts) = by (ends_block inst) ∙ ap (λ is. inst ∷ is) (filled_join insts)
  where
    first : (bs : List (List Inst)) → flat_map (λ (b : List Inst). b) (before_first inst bs) ≡ inst ∷ flat_map (λ (b : List Inst). b) bs
    first [] = refl
    first (b ∷ bs) = refl

    by : (t : Bool) → flat_map (λ (b : List Inst). b) (if t then (inst ∷ []) ∷ filled_blocks insts else before_first inst (filled_blocks insts)) ≡ inst ∷ flat_map (λ (b : List Inst). b) (filled_blocks insts)
    by true = refl
    by false = first (filled_blocks insts)

empty_join : (n : ℕ) → flat_map (λ (k : Block). k.insts) (replicate n (block_of [])) ≡ []
empty_join zero = refl
empty_join (suc n) = empty_join n

blocks_join : (filled : List (List Inst)) (n : ℕ) → flat_map (λ (k : Block). k.insts) (map block_of filled ++ replicate n (block_of [])) ≡ flat_map (λ (b : List Inst). b) filled
blocks_join [] n = empty_join n
blocks_join (b ∷ bs) n = ap (λ is. b ++ is) (blocks_join bs n)

empty_insts : (n : ℕ) → map (λ (k : Block). k.insts) (replicate n (block_of [])) ≡ replicate n []
empty_insts zero = refl
empty_insts (suc n) = ap (λ bs. [] ∷ bs) (empty_insts n)

blocks_insts : (filled : List (List Inst)) (n : ℕ) → map (λ (k : Block). k.insts) (map block_of filled ++ replicate n (block_of [])) ≡ filled ++ replicate n []
blocks_insts [] n = empty_insts n
blocks_insts (b ∷ bs) n = ap (λ rest. b ∷ rest) (blocks_insts bs n)

up_to_long : (count : ℕ) (filled : List (List Inst)) → length filled ≤ count → length (up_to count filled) ≡ count
up_to_long count filled room =
    omega (
      arith,
      room,
      length-append (map block_of filled) (replicate (count - length filled) (block_of [])),
      length-map filled block_of,
      length-replicate (count - length filled) (block_of []),
    )

-- each block is in range where the instructions are
filled_fit : (insts : List Inst) → All InstInRange insts → All (All InstInRange) (filled_blocks insts)
filled_fit [] fit = All-nil (All InstInRange)
filled_fit (inst ∷ insts) fit = by (ends_block inst) (filled_blocks insts) (All-head InstInRange inst insts fit) (filled_fit insts (All-tail InstInRange inst insts fit))
  where
    by : (t : Bool) (bs : List (List Inst)) → InstInRange inst → All (All InstInRange) bs → All (All InstInRange) (if t then (inst ∷ []) ∷ bs else before_first inst bs)
    by true bs own more = All-cons (All InstInRange) (inst ∷ []) bs (All-cons InstInRange inst [] own (All-nil InstInRange)) more
    by false [] own more = All-cons (All InstInRange) (inst ∷ []) [] (All-cons InstInRange inst [] own (All-nil InstInRange)) more
    by false (b ∷ bs) own more =
        All-cons (All InstInRange) (inst ∷ b) bs (All-cons InstInRange inst b own (All-head (All InstInRange) b bs more)) (All-tail (All InstInRange) b bs more)

empty_fit : (n : ℕ) → All BlockInRange (replicate n (block_of []))
empty_fit zero = All-nil BlockInRange
empty_fit (suc n) = All-cons BlockInRange (block_of []) (replicate n (block_of [])) (All-nil InstInRange) (empty_fit n)

blocks_fit : (filled : List (List Inst)) (n : ℕ) → All (All InstInRange) filled → All BlockInRange (map block_of filled ++ replicate n (block_of []))
blocks_fit [] n fit = empty_fit n
blocks_fit (b ∷ bs) n fit =
    All-cons BlockInRange (block_of b) (map block_of bs ++ replicate n (block_of [])) (All-head (All InstInRange) b bs fit) (blocks_fit bs n (All-tail (All InstInRange) b bs fit))

-- one body

-- what is told of a body of a function
pub record BodyTold (m : Module) (f : Function) (block : Contents) (body : Body) : Type 0 where
  pub recorded : BodyRecorded m f block body
  pub sound : IsSoundBody m f body
  pub range : BodyInRange body

-- the module, and the module without its bodies, beside what is known of their records
pub record Around (known : Known) (m outline : Module) : Type 0 where
  pub whole : Agrees known m
  pub parts : Agrees known outline
  pub few_types : IsWord (length m.types)
  pub types : All (IsSoundType (length m.types)) m.types
  pub values : All (HasType m) (module_values m)

abbrev body_of : List Const → List Block → Body
body_of consts blocks = record { consts = consts; blocks = blocks }

start_at : (known : Known) (m : Module) (a : Agrees known m) (f : Function) (operands : List ℕ) (block : Contents) (n : ℕ) → slice_get operands 0 ≡ Some f.ty →
    constants_in (all_of (blocks_in 11 block)) ≡ n → length (module_values m) + (length (parameters m f) + n) ≡ (numbers_of known operands block).first
start_at known m a f operands block n head long = omega (arith, a.values, params_long known m a f operands head, long)

constants_here : (known : Known) (m outline : Module) (around : Around known m outline) (operands : List ℕ) (block : Contents) → BodyHeld known operands block →
    ConstantsTold (length m.types) (blocks_in 11 block) (read_constants block)
constants_here known m outline around operands block held =
    constants_told (length m.types) (blocks_in 11 block) around.few_types
    (subst (λ n. Each (Plain (λ before e after. constant_kinds n before e)) (blocks_in 11 block)) around.whole.types held.constants)

-- the body that records say
plain_told : (known : Known) (m outline : Module) (around : Around known m outline) (f : Function) (operands : List ℕ) (block : Contents) (rs : List BodyRecord) (number : Number rs) →
    slice_get operands 0 ≡ Some f.ty → BodyHeld known operands block → entries_in block ≡ map body_entry rs →
    FreeBody known (numbers_of known operands block) [] (map body_entry rs) →
    BodyTold m f block (body_of (read_constants block) (up_to number.n (filled_blocks (read_instructions outline (numbers_of known operands block).first (map body_entry rs)))))
plain_told known m outline around f operands block rs number head held spelled free =
    let numbers : Numbers = numbers_of known operands block in
    let insts : List Inst = read_instructions outline numbers.first (map body_entry rs) in
    let n : ℕ = number.n in
    let filled : List (List Inst) = filled_blocks insts in
    let consts : List Const = read_constants block in
    let body : Body = body_of consts (up_to n filled) in
    let told : ConstantsTold (length m.types) (blocks_in 11 block) consts = constants_here known m outline around operands block held in
    let code : CodeTold m numbers.values n numbers.first rs insts = code_told known m outline around.whole around.parts numbers n [] rs free in
    let said : numbers.blocks ≡ Some n = ap (first_operand 1) spelled ∙ number.said in
    let room : length filled ≤ n = omega (arith, room_told known outline numbers n [] rs numbers.first said (omega arith) free) in
    let long : length (up_to n filled) ≡ n = up_to_long n filled room in
    let are : instructions body ≡ insts = blocks_join filled (n - length filled) ∙ filled_join insts in
    let start : first_value m f body ≡ numbers.first = start_at known m around.whole f operands block (length consts) head told.long in
    let counted : numbers.values ≡ length (body_values m f body)
    = ap (next_after known numbers.first) spelled
    ∙ (values_long known m around.whole numbers.values n numbers.first rs insts code.code code.sound
    ∙ omega (arith, sym start, values_count m f body, ap (λ is. length (filter (has_value m) is)) are)) in
    let own : All (HasType m) (map instruction_value (filter (has_value m) (instructions body)))
    = subst (λ is. All (HasType m) (map instruction_value (filter (has_value m) is))) (sym are) (insts_typed m insts (insts_listed outline numbers.first (map body_entry rs))) in
    let made = map instruction_value (filter (has_value m) (instructions body)) in
    let later = map constant_value consts ++ made in
    let typed : All (HasType m) (body_values m f body)
    = All-append (HasType m) (module_values m) (map parameter_value (parameters m f) ++ later) around.values
    (All-append (HasType m) (map parameter_value (parameters m f)) later (parameters_typed m (parameters m f) (parameters_named m f around.types))
    (All-append (HasType m) (map constant_value consts) made (constants_typed m consts told.sound) own)) in
    record {
      recorded = record {
        records = rs;
        spelled = spelled;
        known_blocks = held.ids;
        constants = told.recorded;
        number = number.once ∙ ap (λ k. k ∷ []) (sym long);
        code = subst (λ is. InstructionsRecorded m (first_value m f body) (instruction_records rs) is) (sym are)
            (subst (λ x. InstructionsRecorded m x (instruction_records rs) insts) (sym start) code.code);
        empty = n - length filled;
        filled = blocks_insts filled (n - length filled) ∙ ap (λ is. filled_blocks is ++ replicate (n - length filled) []) (sym are);
      };
      sound = record {
        consts = told.sound;
        insts = subst (λ v. All (IsSoundInst m v (length (up_to n filled))) (instructions body)) counted
            (subst (λ k. All (IsSoundInst m numbers.values k) (instructions body)) (sym long)
            (subst (λ is. All (IsSoundInst m numbers.values n) is) (sym are) code.sound));
        typed = have_types m (body_values m f body) typed;
      };
      range = (told.range, subst IsWord (sym long) number.fits, blocks_fit filled (n - length filled) (filled_fit insts (insts_fit outline numbers.first (map body_entry rs))));
    }

-- the body that is read
pub body_told : (known : Known) (m outline : Module) (around : Around known m outline) (f g : Function) (operands : List ℕ) (block : Contents) →
    slice_get operands 0 ≡ Some f.ty → slice_get operands 0 ≡ Some g.ty → BodyHeld known operands block → BodyTold m f block (read_body outline g block)
body_told known m outline around f g operands block head own held =
    let numbers : Numbers = numbers_of known operands block in
    let es : List Entry = entries_in block in
    let spelled = body_spelled known numbers es held.records in
    let rs : List BodyRecord = spelled.0 in
    let free : FreeBody known numbers [] (map body_entry rs) = subst (FreeBody known numbers []) spelled.1 held.records in
    let number : Number rs = one_number known numbers [] rs (sym (ap (has_code 1) spelled.1) ∙ held.declared) free in
    let told = constants_here known m outline around operands block held in
    let first : length (module_values outline) + (length (parameters outline g) + length (read_constants block)) ≡ numbers.first
    = start_at known outline around.parts g operands block (length (read_constants block)) own told.long in
    let count : read_count es ≡ number.n
    = ap (λ o. option_map_or word o 0) (ap (first_operand 1) spelled.1 ∙ number.said) ∙ word_same number.n number.fits in
    let blocks : up_to (read_count es) (filled_blocks (read_instructions outline (length (module_values outline) + (length (parameters outline g) + length (read_constants block))) es))
    ≡ up_to number.n (filled_blocks (read_instructions outline numbers.first (map body_entry rs)))
    = ap (λ n. up_to n (filled_blocks (read_instructions outline (length (module_values outline) + (length (parameters outline g) + length (read_constants block))) es))) count
    ∙ (ap (λ x. up_to number.n (filled_blocks (read_instructions outline x es))) first ∙ ap (λ xs. up_to number.n (filled_blocks (read_instructions outline numbers.first xs))) spelled.1) in
    subst (BodyTold m f block) (ap (body_of (read_constants block)) (sym blocks)) (plain_told known m outline around f operands block rs number head held spelled.1 free)
