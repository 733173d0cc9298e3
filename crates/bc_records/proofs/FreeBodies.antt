-- A block that holds the body of a function has no fault.
use mathlib.Core.Logic.{◌⊎◌, inl, inr}
use Rattle.std.proofs.Common.{◌≡◌, ℕ, suc, ◌+◌, ◌/◌, ◌%◌, ◌^◌, ◌<◌, ◌≤◌, List, [], ◌∷◌, ◌++◌, map, length, refl, ap, sym, ◌∙◌, subst, arith}
use Rattle.std.specs.Prelude.{Bool, true, false, ◌==◌, Option, None, Some, is_some, option_map, option_and_then, slice_get, nat_lt, nat_le, if◌then◌else◌, MatchOption, All}
use Rattle.std.specs.List.{list_all, filter}
use Rattle.std.specs.Option.{option_map_or}
use Rattle.std.proofs.lemmas.Bool.Decides.{leb_tells}
use Rattle.std.proofs.lemmas.List.{length-map}
use Rattle.std.proofs.lemmas.List.Elements.{All-head, All-tail}
use Rattle.ir_core.specs.declared.instruction.Inst.{Inst}
use Rattle.ir_core.specs.declared.instruction.Inst.TheVariants.{Call}
use Rattle.ir_core.specs.declared.module.Function.{Function}
use Rattle.ir_core.specs.declared.module.Module.{Module}
use Rattle.ir_core.specs.Values.{signature, signature_of, callee_signature, has_value, function_at}
use Rattle.ir_core.specs.Soundness.{IsSoundInst, Names, Takes}
use Rattle.bc_records.specs.Entries.{Entry, entry, IsWord}
use Rattle.bc_records.specs.BodyRecords.{BodyRecord, declare_blocks, return_record, call_record, body_entry, declared_blocks, absolute, IsTypeOf, instruction_records, InstructionsRecorded, filled_blocks, before_first, next_value}
use Rattle.bc_records.specs.RecordKinds.{Known, Numbers, counts, has_code, count_code, code_of, kind_if, kind_unless, is_word, signature_at, function_type_at, same_signature, same_type, is_value_type_at, entry_has_value, next_after, names_operand, called_signature, call_counts, call_names, is_past, body_kinds}
use Rattle.bc_records.proofs.Agreement.{Agrees, callee, has_result}
use Rattle.bc_records.proofs.BodiesOnce.{parts_same}
use Rattle.bc_records.proofs.FreeSites.{FreeRecords}
use Rattle.bc_records.proofs.Tests.{below, equal, both, unless, no_kinds, word_passes, same_passes, code_before, count_more}

past_not : (n k : ℕ) → k < n → nat_le n k ≡ false
past_not n k less = tells (leb_tells n k)
  where
    tells : ((nat_le n k ≡ true) × (n ≤ k)) ⊎ ((nat_le n k ≡ false) × (k < n)) → nat_le n k ≡ false
    tells (inl h) = absurd (omega (arith, h.1, less))
    tells (inr h) = h.0

-- one record more, and the number of the next value
pub next_more : (known : Known) (first : ℕ) (before : List Entry) (e : Entry) →
    next_after known first (before ++ e ∷ []) ≡ (if entry_has_value known (next_after known first before) e then suc (next_after known first before) else next_after known first before)
next_more known first [] e = refl
next_more known first (x ∷ xs) e = next_more known (if entry_has_value known first x then suc first else first) xs e

-- calls

counts_pass : (s : Option (ℕ × List ℕ)) (operands : List ℕ) (n : ℕ) (otherwise : Bool) → MatchOption s ⊥ (λ s. length s.1 ≡ n) → length operands ≡ 4 + n →
    option_map_or (λ s. counts operands (4 + length s.1)) s otherwise ≡ true
counts_pass None operands n otherwise takes long = absurd takes
counts_pass (Some s) operands n otherwise takes long = equal (length operands) (4 + length s.1) (omega (arith, takes, long))

some_passes : (s : Option (ℕ × List ℕ)) (n : ℕ) → MatchOption s ⊥ (λ s. length s.1 ≡ n) → is_some s ≡ true
some_passes None n takes = absurd takes
some_passes (Some s) n takes = refl

same_signature_passes : (s : Option (ℕ × List ℕ)) (n : ℕ) → MatchOption s ⊥ (λ s. length s.1 ≡ n) → same_signature s s ≡ true
same_signature_passes None n takes = absurd takes
same_signature_passes (Some s) n takes = both (s.0 == s.0) _ (equal s.0 s.0 refl) (same_passes s.1)

type_passes : (known : Known) (m : Module) (a : Agrees known m) (ty n : ℕ) (o : Option Function) →
    MatchOption (option_and_then (λ (f : Function). signature m.types f.ty) o) ⊥ (λ s. length s.1 ≡ n) →
    slice_get m.types ty ≡ option_and_then (λ (f : Function). slice_get m.types f.ty) o →
    option_map_or (same_type known ty) (option_map (λ (f : Function). f.ty) o) false ≡ true
type_passes known m a ty n None takes same = absurd takes
type_passes known m a ty n (Some f) takes same =
    let x : signature_at known ty ≡ signature m.types f.ty = a.signatures ty ∙ ap (option_and_then signature_of) same in
    ap (λ s. same_signature s (signature_at known f.ty)) x
    ∙ (ap (same_signature (signature m.types f.ty)) (a.signatures f.ty) ∙ same_signature_passes (signature m.types f.ty) n takes)

args_pass : (values next : ℕ) (args : List ℕ) → All IsWord args → All (Names values) (map (absolute next) args) → list_all (names_operand values next) args ≡ true
args_pass values next [] words names = refl
args_pass values next (x ∷ xs) words names =
    both (names_operand values next x) (list_all (names_operand values next) xs)
    (both (is_word x) (nat_lt (absolute next x) values) (word_passes x (All-head IsWord x xs words)) (below (absolute next x) values (All-head (Names values) (absolute next x) (map (absolute next) xs) names)))
    (args_pass values next xs (All-tail IsWord x xs words) (All-tail (Names values) (absolute next x) (map (absolute next) xs) names))

-- a call whose record is that of a sound instruction
pub record SoundCall (m : Module) (values next ty function : ℕ) (args : List ℕ) : Type 0 where
  pub takes : Takes m (absolute next function) (length args)
  pub named : All (Names values) (map (absolute next) args)
  pub typed : IsTypeOf m (absolute next function) ty
  pub words : All IsWord (function ∷ args)

counts_free : (known : Known) (m : Module) → Agrees known m → (values next attributes convention ty function : ℕ) (args : List ℕ) → SoundCall m values next ty function args →
    call_counts known next (attributes ∷ convention ∷ ty ∷ function ∷ args) ≡ true
counts_free known m a values next attributes convention ty function args s =
    let operands : List ℕ = attributes ∷ convention ∷ ty ∷ function ∷ args in
    counts_pass (called_signature known next operands) operands (length args)
    (if nat_le next (absolute next function) then nat_le 5 (length operands) else nat_le 4 (length operands))
    (subst (λ o. MatchOption o ⊥ (λ s. length s.1 ≡ length args)) (sym (callee known m a (absolute next function))) s.takes) (omega arith)

names_free : (known : Known) (m : Module) → Agrees known m → (values next attributes convention ty function : ℕ) (args : List ℕ) → SoundCall m values next ty function args →
    call_names known values next (attributes ∷ convention ∷ ty ∷ function ∷ args) ≡ true
names_free known m a values next attributes convention ty function args s =
    let operands : List ℕ = attributes ∷ convention ∷ ty ∷ function ∷ args in
    let v : ℕ = absolute next function in
    let takes = subst (λ o. MatchOption o ⊥ (λ s. length s.1 ≡ length args)) (sym (callee known m a v)) s.takes in
    let some : is_some (called_signature known next operands) ≡ true = some_passes (called_signature known next operands) (length args) takes in
    let typed : option_map_or (same_type known ty) (function_type_at known v) false ≡ true
    = ap (λ o. option_map_or (same_type known ty) o false) (a.function_types v) ∙ type_passes known m a ty (length args) (function_at m v) s.takes s.typed in
    both (is_word function) _ (word_passes function (All-head IsWord function args s.words))
    (both (is_some (called_signature known next operands)) _ some
    (both (option_map_or (same_type known ty) (function_type_at known v) false) _ typed
    (args_pass values next args (All-tail IsWord function args s.words) s.named)))

-- where a function is called, its type counts
type_of_called : (o : Option ℕ) (stated : Option ℕ) (known : Known) (n : ℕ) → MatchOption (option_and_then (signature_at known) o) ⊥ (λ s. length s.1 ≡ n) →
    option_map_or (λ ty. Some ty) o stated ≡ o
type_of_called None stated known n takes = absurd takes
type_of_called (Some ty) stated known n takes = refl

pub value_same : (known : Known) (m : Module) → Agrees known m → (values next attributes convention ty function : ℕ) (args : List ℕ) → SoundCall m values next ty function args →
    entry_has_value known next (entry 34 (attributes ∷ convention ∷ ty ∷ function ∷ args)) ≡ has_value m (Call (absolute next function) (map (absolute next) args))
value_same known m a values next attributes convention ty function args s =
    let v : ℕ = absolute next function in
    let takes = subst (λ o. MatchOption o ⊥ (λ s. length s.1 ≡ length args)) (sym (callee known m a v)) s.takes in
    ap (λ o. option_map_or (λ s. is_value_type_at known s.0) (option_and_then (signature_at known) o) false) (type_of_called (function_type_at known v) (Some ty) known (length args) takes)
    ∙ (ap (λ o. option_map_or (λ s. is_value_type_at known s.0) o false) (callee known m a v) ∙ has_result known m a (callee_signature m v))

call_free : (known : Known) (m : Module) → Agrees known m → (numbers : Numbers) (n : ℕ) (before : List Entry) (attributes convention ty function : ℕ) (args : List ℕ) →
    SoundCall m numbers.values (next_after known numbers.first before) ty function args → convention / 2 ^ 15 % 2 ≡ 1 → numbers.blocks ≡ Some n → count_code 10 before < n →
    body_kinds known numbers before (entry 34 (attributes ∷ convention ∷ ty ∷ function ∷ args)) ≡ []
call_free known m a numbers n before attributes convention ty function args s bit blocks less =
    let next : ℕ = next_after known numbers.first before in
    let operands : List ℕ = attributes ∷ convention ∷ ty ∷ function ∷ args in
    let two = kind_unless (call_counts known next operands) 2 in
    let three = kind_unless (call_names known numbers.values next operands) 3 in
    let six = kind_if (is_past numbers.blocks before) 6 in
    let eight = kind_unless (convention / 2 ^ 15 % 2 == 1) 8 in
    no_kinds two (three ++ (six ++ eight)) (unless (call_counts known next operands) 2 (counts_free known m a numbers.values next attributes convention ty function args s))
    (no_kinds three (six ++ eight) (unless (call_names known numbers.values next operands) 3 (names_free known m a numbers.values next attributes convention ty function args s))
    (no_kinds six eight (ap (λ o. kind_if (is_past o before) 6) blocks ∙ ap (λ b. kind_if b 6) (past_not n (count_code 10 before) less))
    (unless (convention / 2 ^ 15 % 2 == 1) 8 (equal (convention / 2 ^ 15 % 2) 1 bit))))

ret_free : (known : Known) (numbers : Numbers) (n : ℕ) (before : List Entry) → numbers.blocks ≡ Some n → count_code 10 before < n → body_kinds known numbers before (entry 10 []) ≡ []
ret_free known numbers n before blocks less =
    ap (λ o. kind_if (is_past o before) 6) blocks ∙ ap (λ b. kind_if b 6) (past_not n (count_code 10 before) less)

-- the declared number is still to come, once, or it stood before
abbrev Declared : ℕ → List Entry → List BodyRecord → Type 0
Declared n before rs = (declared_blocks rs ≡ []) ⊎ ((has_code 1 before ≡ false) × (declared_blocks rs ≡ n ∷ []))

declared_more : (n : ℕ) (before : List Entry) (e : Entry) (rs : List BodyRecord) → (code_of e == 1) ≡ false → Declared n before rs → Declared n (before ++ e ∷ []) rs
declared_more n before e rs other (inl h) = inl h
declared_more n before e rs other (inr h) = inr (code_before 1 before e h.0 other, h.1)

declare_free : (known : Known) (numbers : Numbers) (n k : ℕ) (before : List Entry) → k ≡ n → IsWord n → has_code 1 before ≡ false → body_kinds known numbers before (entry 1 (k ∷ [])) ≡ []
declare_free known numbers n k before same word none =
    no_kinds (kind_unless (is_word k) 3) (kind_if (has_code 1 before) 6) (unless (is_word k) 3 (word_passes k (subst IsWord (sym same) word))) (ap (λ b. kind_if b 6) none)

declared_here : (n k : ℕ) (before : List Entry) (rs : List BodyRecord) → Declared n before (declare_blocks k ∷ rs) → (k ≡ n) × (has_code 1 before ≡ false) × (declared_blocks rs ≡ [])
declared_here n k before rs (inl h) = absurd (omega (arith, ap length h))
declared_here n k before rs (inr h) = let same = parts_same k n (declared_blocks rs) [] h.1 in (same.0, h.0, same.1)

fill_more : (inst : Inst) (blocks : List (List Inst)) → (0 < length (before_first inst blocks)) × (length blocks ≤ length (before_first inst blocks))
fill_more inst [] = (omega arith, omega arith)
fill_more inst (b ∷ bs) = (omega arith, omega arith)

-- a CALL in front of others fills no fewer blocks than they
call_fills : (inst : Inst) (insts : List Inst) (v : ℕ) (args : List ℕ) → inst ≡ Call v args →
    (0 < length (filled_blocks (inst ∷ insts))) × (length (filled_blocks insts) ≤ length (filled_blocks (inst ∷ insts)))
call_fills inst insts v args same =
    subst (λ i. (0 < length (filled_blocks (i ∷ insts))) × (length (filled_blocks insts) ≤ length (filled_blocks (i ∷ insts)))) (sym same) (fill_more (Call v args) (filled_blocks insts))

-- a record is sound where its instruction is
sound_call : (m : Module) (values blocks next ty function : ℕ) (args : List ℕ) (inst : Inst) → inst ≡ Call (absolute next function) (map (absolute next) args) →
    IsTypeOf m (absolute next function) ty → All IsWord (function ∷ args) → IsSoundInst m values blocks inst → SoundCall m values next ty function args
sound_call m values blocks next ty function args inst same typed words sound =
    let own : IsSoundInst m values blocks (Call (absolute next function) (map (absolute next) args)) = subst (IsSoundInst m values blocks) same sound in
    record { takes = subst (Takes m (absolute next function)) (length-map args (absolute next)) own.0; named = own.1; typed = typed; words = words }

pub body_free : (known : Known) (m : Module) (a : Agrees known m) (numbers : Numbers) (n blocks : ℕ) (before : List Entry) (rs : List BodyRecord) (insts : List Inst) →
    InstructionsRecorded m (next_after known numbers.first before) (instruction_records rs) insts → All (IsSoundInst m numbers.values blocks) insts →
    numbers.blocks ≡ Some n → IsWord n → count_code 10 before + length (filled_blocks insts) ≤ n → Declared n before rs →
    FreeRecords (λ before e after. body_kinds known numbers before e) before (map body_entry rs)
body_free known m a numbers n blocks before [] insts code sound said word room declared = tt
body_free known m a numbers n blocks before (declare_blocks k ∷ rs) insts code sound said word room declared =
    let e : Entry = entry 1 (k ∷ []) in
    let here = declared_here n k before rs declared in (
      declare_free known numbers n k before here.0 word here.1,
      body_free known m a numbers n blocks (before ++ e ∷ []) rs insts
          (subst (λ x. InstructionsRecorded m x (instruction_records rs) insts) (sym (next_more known numbers.first before e)) code) sound said word
          (omega (arith, room, count_more 10 before (e ∷ []))) (inl here.2),
    )
body_free known m a numbers n blocks before (return_record ∷ rs) [] code sound said word room declared = absurd code
body_free known m a numbers n blocks before (return_record ∷ rs) (inst ∷ insts) code sound said word room declared =
    let e : Entry = entry 10 [] in
    let next : ℕ = next_after known numbers.first before in
    let fills : length (filled_blocks (inst ∷ insts)) ≡ suc (length (filled_blocks insts)) = ap (λ i. length (filled_blocks (i ∷ insts))) code.0 in
    let after : next_value m next inst ≡ next_after known numbers.first (before ++ e ∷ []) = ap (next_value m next) code.0 ∙ sym (next_more known numbers.first before e) in (
      ret_free known numbers n before said (omega (arith, room, fills)),
      body_free known m a numbers n blocks (before ++ e ∷ []) rs insts
          (subst (λ x. InstructionsRecorded m x (instruction_records rs) insts) after code.1) (All-tail (IsSoundInst m numbers.values blocks) inst insts sound) said word
          (omega (arith, room, fills, count_more 10 before (e ∷ []))) (declared_more n before e rs refl declared),
    )
body_free known m a numbers n blocks before (call_record attributes convention ty function args ∷ rs) [] code sound said word room declared = absurd code
body_free known m a numbers n blocks before (call_record attributes convention ty function args ∷ rs) (inst ∷ insts) code sound said word room declared =
    let e : Entry = entry 34 (attributes ∷ convention ∷ ty ∷ function ∷ args) in
    let next : ℕ = next_after known numbers.first before in
    let is : inst ≡ Call (absolute next function) (map (absolute next) args) = code.0.0 in
    let fills = call_fills inst insts (absolute next function) (map (absolute next) args) is in
    let own : SoundCall m numbers.values next ty function args
    = sound_call m numbers.values blocks next ty function args inst is code.0.2 code.0.3 (All-head (IsSoundInst m numbers.values blocks) inst insts sound) in
    let after : next_value m next inst ≡ next_after known numbers.first (before ++ e ∷ [])
    = ap (next_value m next) is
    ∙ (ap (λ b. if b then suc next else next) (sym (value_same known m a numbers.values next attributes convention ty function args own)) ∙ sym (next_more known numbers.first before e)) in (
      call_free known m a numbers n before attributes convention ty function args own code.0.1 said (omega (arith, room, fills.0)),
      body_free known m a numbers n blocks (before ++ e ∷ []) rs insts
          (subst (λ x. InstructionsRecorded m x (instruction_records rs) insts) after code.1) (All-tail (IsSoundInst m numbers.values blocks) inst insts sound) said word
          (omega (arith, room, fills.1, count_more 10 before (e ∷ []))) (declared_more n before e rs refl declared),
    )

-- how many values there are

filter_more : (m : Module) (next : ℕ) (inst : Inst) (insts : List Inst) → next_value m next inst + length (filter (has_value m) insts) ≡ next + length (filter (has_value m) (inst ∷ insts))
filter_more m next inst insts = by (has_value m inst)
  where
    by : (b : Bool) → (if b then suc next else next) + length (filter (has_value m) insts) ≡ next + length (if b then inst ∷ filter (has_value m) insts else filter (has_value m) insts)
    by true = omega arith
    by false = refl

pub values_long : (known : Known) (m : Module) (a : Agrees known m) (values blocks next : ℕ) (rs : List BodyRecord) (insts : List Inst) →
    InstructionsRecorded m next (instruction_records rs) insts → All (IsSoundInst m values blocks) insts →
    next_after known next (map body_entry rs) ≡ next + length (filter (has_value m) insts)
values_long known m a values blocks next [] [] code sound = omega arith
values_long known m a values blocks next [] (inst ∷ insts) code sound = absurd code
values_long known m a values blocks next (declare_blocks k ∷ rs) insts code sound = values_long known m a values blocks next rs insts code sound
values_long known m a values blocks next (return_record ∷ rs) [] code sound = absurd code
values_long known m a values blocks next (return_record ∷ rs) (inst ∷ insts) code sound =
    values_long known m a values blocks next rs insts (subst (λ x. InstructionsRecorded m x (instruction_records rs) insts) (ap (next_value m next) code.0) code.1) (All-tail (IsSoundInst m values blocks) inst insts sound)
    ∙ ap (λ i. next + length (filter (has_value m) (i ∷ insts))) (sym code.0)
values_long known m a values blocks next (call_record attributes convention ty function args ∷ rs) [] code sound = absurd code
values_long known m a values blocks next (call_record attributes convention ty function args ∷ rs) (inst ∷ insts) code sound =
    let is : inst ≡ Call (absolute next function) (map (absolute next) args) = code.0.0 in
    let own : SoundCall m values next ty function args
    = sound_call m values blocks next ty function args inst is code.0.2 code.0.3 (All-head (IsSoundInst m values blocks) inst insts sound) in
    let same : next_value m next inst ≡ (if entry_has_value known next (entry 34 (attributes ∷ convention ∷ ty ∷ function ∷ args)) then suc next else next)
    = ap (next_value m next) is ∙ ap (λ b. if b then suc next else next) (sym (value_same known m a values next attributes convention ty function args own)) in
    ap (λ x. next_after known x (map body_entry rs)) (sym same)
    ∙ (values_long known m a values blocks (next_value m next inst) rs insts code.1 (All-tail (IsSoundInst m values blocks) inst insts sound) ∙ filter_more m next inst insts)
