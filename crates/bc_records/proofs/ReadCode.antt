-- What the records of a body without a fault say: its instructions.
use Rattle.std.proofs.Common.{◌≡◌, ℕ, suc, ◌+◌, ◌/◌, ◌%◌, ◌^◌, ◌<◌, ◌≤◌, List, [], ◌∷◌, ◌++◌, map, length, refl, ap, sym, ◌∙◌, subst, arith}
use Rattle.std.specs.Prelude.{Bool, true, false, ◌&&◌, ◌==◌, if◌then◌else◌, nat_le, nat_lt, Some, None, Option, is_some, option_map, option_and_then, slice_get, drop, MatchOption, All}
use Rattle.std.specs.List.{list_all}
use Rattle.std.specs.Option.{option_map_or}
use Rattle.std.proofs.lemmas.Option.{none-some, same_Some}
use lib.Pointwise.{pointwise}
use Rattle.std.proofs.lemmas.List.{length-map}
use Rattle.std.proofs.lemmas.List.Elements.{All-nil, All-cons, All-head, All-tail}
use Rattle.ir_core.specs.declared.instruction.Inst.{Inst}
use Rattle.ir_core.specs.declared.instruction.Inst.TheVariants.{Call, Ret}
use Rattle.ir_core.specs.declared.module.Ty.{Ty}
use Rattle.ir_core.specs.declared.module.Ty.TheVariants.{Void, Label, Metadata, Int, Pointer, Array, Vector, Struct, Function as FunctionType}
use Rattle.ir_core.specs.declared.module.Function.{Function}
use Rattle.ir_core.specs.declared.module.Module.{Module}
use Rattle.ir_core.specs.Values.{signature_of, function_at}
use Rattle.ir_core.specs.Soundness.{IsSoundInst, Names, Takes}
use Rattle.bc_records.specs.Entries.{Entry, entry, IsWord}
use Rattle.bc_records.specs.BodyRecords.{BodyRecord, declare_blocks, return_record, call_record, body_entry, declared_blocks, absolute, instruction_records, InstructionsRecorded, filled_blocks, before_first, next_value}
use Rattle.bc_records.specs.RecordKinds.{Known, Numbers, counts, operand, first_operand, has_code, count_code, kind_if, kind_unless, is_word, signature_at, function_type_at, same_signature, same_type, next_after, names_operand, called_signature, call_counts, call_names, is_past, body_kinds}
use Rattle.bc_records.specs.Ranges.{InstInRange, AreWords}
use Rattle.bc_records.specs.Read.{word, words, read_instructions}
use Rattle.bc_records.specs.FirstList.{IsListedInst}
use Rattle.bc_records.proofs.Agreement.{Agrees, callee}
use Rattle.bc_records.proofs.FreeSites.{FreeRecords}
use Rattle.bc_records.proofs.FreeBodies.{SoundCall, value_same, next_more}
use Rattle.bc_records.proofs.Tests.{both_none, code_stays, count_more}
use Rattle.std.proofs.lemmas.Bool.{and_parts, eqb-true, leb-false, ltb-true, true≢false}
use Rattle.bc_records.proofs.Told.{chosen, code_here, four_operands, is_same, no_operands, one_operand, some_kind, spelled_by, told_if, told_unless, told_word, word_same, words_same}

abbrev pub FreeBody : Known → Numbers → List Entry → List Entry → Type 0
FreeBody known numbers before es = FreeRecords (λ b e after. body_kinds known numbers b e) before es

-- records

counts_four : (o : Option (ℕ × List ℕ)) (ops : List ℕ) (otherwise : Bool) → is_some o ≡ true → option_map_or (λ (s : ℕ × List ℕ). counts ops (4 + length s.1)) o otherwise ≡ true → 4 ≤ length ops
counts_four None ops otherwise some h = absurd (true≢false (sym some))
counts_four (Some s) ops otherwise some h = omega (arith, eqb-true (length ops) (4 + length s.1) h)

call_is : (known : Known) (next values code : ℕ) (ops rest : List ℕ) → code ≡ 34 →
    kind_unless (call_counts known next ops) 2 ++ (kind_unless (call_names known values next ops) 3 ++ rest) ≡ [] → (r : BodyRecord) × (entry code ops ≡ body_entry r)
call_is known next values code ops rest is none =
    let two = kind_unless (call_counts known next ops) 2 in
    let three = kind_unless (call_names known values next ops) 3 in
    let apart = both_none two (three ++ rest) none in
    let names = told_unless (call_names known values next ops) 3 (both_none three rest apart.1).0 in
    let same = option_map_or (same_type known (operand ops 2)) (function_type_at known (absolute next (operand ops 3))) false in
    let args = list_all (names_operand values next) (drop 4 ops) in
    let some = (and_parts (is_some (called_signature known next ops)) (same && args) (and_parts (is_word (operand ops 3)) (is_some (called_signature known next ops) && (same && args)) names).1).0 in
    let long = counts_four (called_signature known next ops) ops (if nat_le next (absolute next (operand ops 3)) then nat_le 5 (length ops) else nat_le 4 (length ops)) some
    (told_unless (call_counts known next ops) 2 apart.0) in
    (call_record (operand ops 0) (operand ops 1) (operand ops 2) (operand ops 3) (drop 4 ops), ap (λ c. entry c ops) is ∙ ap (entry 34) (four_operands ops long))

body_one : (known : Known) (numbers : Numbers) (before : List Entry) (e : Entry) (after : List Entry) → body_kinds known numbers before e ≡ [] → (r : BodyRecord) × (e ≡ body_entry r)
body_one known numbers before (entry code ops) after none =
    let next : ℕ = next_after known numbers.first before in
    let one = kind_unless (is_word (operand ops 0)) 3 ++ kind_if (has_code 1 before) 6 in
    let past = kind_if (is_past numbers.blocks before) 6 in
    let last = past ++ kind_unless (operand ops 1 / 2 ^ 15 % 2 == 1) 8 in
    let call = kind_unless (call_counts known next ops) 2 ++ (kind_unless (call_names known numbers.values next ops) 3 ++ last) in
    let ten = kind_unless (counts ops 0) 2 ++ past in
    chosen (code == 1) (kind_unless (counts ops 1) 2 ++ one) (if code == 10 then ten else if code == 34 then call else 8 ∷ []) none
    (λ is here.
    let ops_are = one_operand ops (told_unless (counts ops 1) 2 (both_none (kind_unless (counts ops 1) 2) one here).0) in
    (declare_blocks (operand ops 0), ap (λ c. entry c ops) (eqb-true code 1 is) ∙ ap (entry 1) ops_are))
    (λ no rest. chosen (code == 10) ten (if code == 34 then call else 8 ∷ []) rest
    (λ is here. (return_record, ap (λ c. entry c ops) (eqb-true code 10 is) ∙ ap (entry 10) (no_operands ops (told_unless (counts ops 0) 2 (both_none (kind_unless (counts ops 0) 2) past here).0))))
    (λ not more. chosen (code == 34) call (8 ∷ []) more (λ is here. call_is known next numbers.values code ops last (eqb-true code 34 is) here) (λ other end. some_kind 8 [] end)))

pub body_spelled : (known : Known) (numbers : Numbers) (es : List Entry) → FreeBody known numbers [] es → (rs : List BodyRecord) × (es ≡ map body_entry rs)
body_spelled known numbers es free = spelled_by body_entry (λ b e after. body_kinds known numbers b e) (body_one known numbers) [] es free

-- the number of blocks

free_declared : (known : Known) (numbers : Numbers) (before : List Entry) (n : ℕ) → body_kinds known numbers before (entry 1 (n ∷ [])) ≡ [] → IsWord n × (has_code 1 before ≡ false)
free_declared known numbers before n none =
    let apart = both_none (kind_unless (is_word n) 3) (kind_if (has_code 1 before) 6) none in
    (told_word n (told_unless (is_word n) 3 apart.0), told_if (has_code 1 before) 6 apart.1)

no_number : (known : Known) (numbers : Numbers) (before : List Entry) (rs : List BodyRecord) → has_code 1 before ≡ true → FreeBody known numbers before (map body_entry rs) → declared_blocks rs ≡ []
no_number known numbers before [] has free = refl
no_number known numbers before (declare_blocks n ∷ rs) has free = absurd (true≢false (sym has ∙ (free_declared known numbers before n free.0).1))
no_number known numbers before (return_record ∷ rs) has free = no_number known numbers (before ++ entry 10 [] ∷ []) rs (code_stays 1 before (entry 10 []) has) free.1
no_number known numbers before (call_record a b c d e ∷ rs) has free =
    let own : Entry = entry 34 (a ∷ b ∷ c ∷ d ∷ e) in no_number known numbers (before ++ own ∷ []) rs (code_stays 1 before own has) free.1

-- the declared number of blocks, which fits its field
pub record Number (rs : List BodyRecord) : Type 0 where
  pub n : ℕ
  pub fits : IsWord n
  pub once : declared_blocks rs ≡ n ∷ []
  pub said : first_operand 1 (map body_entry rs) ≡ Some n

pub one_number : (known : Known) (numbers : Numbers) (before : List Entry) (rs : List BodyRecord) → has_code 1 (map body_entry rs) ≡ true → FreeBody known numbers before (map body_entry rs) → Number rs
one_number known numbers before [] has free = absurd (true≢false (sym has))
one_number known numbers before (declare_blocks n ∷ rs) has free =
    let own : Entry = entry 1 (n ∷ []) in
    record { n = n; fits = (free_declared known numbers before n free.0).0; once = ap (λ ns. n ∷ ns) (no_number known numbers (before ++ own ∷ []) rs (code_here 1 before own refl) free.1); said = refl }
one_number known numbers before (return_record ∷ rs) has free =
    let more : Number rs = one_number known numbers (before ++ entry 10 [] ∷ []) rs has free.1 in record { n = more.n; fits = more.fits; once = more.once; said = more.said }
one_number known numbers before (call_record a b c d e ∷ rs) has free =
    let more : Number rs = one_number known numbers (before ++ entry 34 (a ∷ b ∷ c ∷ d ∷ e) ∷ []) rs has free.1 in record { n = more.n; fits = more.fits; once = more.once; said = more.said }

-- calls

signature_is : (o : Option (ℕ × List ℕ)) (ops : List ℕ) (n : ℕ) (otherwise : Bool) → is_some o ≡ true → length ops ≡ 4 + n →
    option_map_or (λ (s : ℕ × List ℕ). counts ops (4 + length s.1)) o otherwise ≡ true → MatchOption o ⊥ (λ s. length s.1 ≡ n)
signature_is None ops n otherwise some long h = absurd (true≢false (sym some))
signature_is (Some s) ops n otherwise some long h = omega (arith, eqb-true (length ops) (4 + length s.1) h, long)

-- an entry of the type table with a signature is that function type
type_of_signature : (o : Option Ty) (s : ℕ × List ℕ) → option_and_then signature_of o ≡ Some s → o ≡ Some (FunctionType s.0 s.1)
type_of_signature None s h = absurd (none-some s h)
type_of_signature (Some Void) s h = absurd (none-some s h)
type_of_signature (Some Label) s h = absurd (none-some s h)
type_of_signature (Some Metadata) s h = absurd (none-some s h)
type_of_signature (Some (Int w)) s h = absurd (none-some s h)
type_of_signature (Some (Pointer to space)) s h = absurd (none-some s h)
type_of_signature (Some (Array n of)) s h = absurd (none-some s h)
type_of_signature (Some (Vector n of)) s h = absurd (none-some s h)
type_of_signature (Some (Struct name of)) s h = absurd (none-some s h)
type_of_signature (Some (FunctionType result params)) s h =
    let own : (result, params) ≡ s = same_Some (result, params) s h in
    ap (λ (q : ℕ × List ℕ). Some (FunctionType q.0 q.1)) own

same_signature_told : (p q : Option (ℕ × List ℕ)) → same_signature p q ≡ true → (s : ℕ × List ℕ) × (p ≡ Some s) × (q ≡ Some s)
same_signature_told None q h = absurd (true≢false (sym h))
same_signature_told (Some a) None h = absurd (true≢false (sym h))
same_signature_told (Some a) (Some b) h =
    let apart = and_parts (a.0 == b.0) (pointwise (λ x y. x == y) a.1 b.1) h in
    let first : a.0 ≡ b.0 = eqb-true a.0 b.0 apart.0 in
    let second : a.1 ≡ b.1 = is_same a.1 b.1 apart.1 in
    (a, refl, sym (pair_same a b first second))
  where
    pair_same : (a b : ℕ × List ℕ) → a.0 ≡ b.0 → a.1 ≡ b.1 → ◌≡◌ {A = Option (ℕ × List ℕ)} (Some a) (Some b)
    pair_same a b p q = let one : ℕ → List ℕ → Option (ℕ × List ℕ) = λ x xs. Some (x, xs) in ap (λ x. one x a.1) p ∙ ap (λ xs. one b.0 xs) q

type_told : (known : Known) (m : Module) (a : Agrees known m) (ty : ℕ) (o : Option Function) → option_map_or (same_type known ty) (option_map (λ (f : Function). f.ty) o) false ≡ true →
    slice_get m.types ty ≡ option_and_then (λ (f : Function). slice_get m.types f.ty) o
type_told known m a ty None h = absurd (true≢false (sym h))
type_told known m a ty (Some f) h =
    let s = same_signature_told (signature_at known ty) (signature_at known f.ty) h in
    type_of_signature (slice_get m.types ty) s.0 (sym (a.signatures ty) ∙ s.1)
    ∙ sym (type_of_signature (slice_get m.types f.ty) s.0 (sym (a.signatures f.ty) ∙ s.2))

args_told : (values next : ℕ) (args : List ℕ) → list_all (names_operand values next) args ≡ true → All IsWord args × All (Names values) (map (absolute next) args)
args_told values next [] h = (All-nil IsWord, All-nil (Names values))
args_told values next (x ∷ xs) h =
    let apart = and_parts (names_operand values next x) (list_all (names_operand values next) xs) h in
    let own = and_parts (is_word x) (nat_lt (absolute next x) values) apart.0 in
    let more = args_told values next xs apart.1 in (
      All-cons IsWord x xs (told_word x own.0) more.0,
      All-cons (Names values) (absolute next x) (map (absolute next) xs) (ltb-true (absolute next x) values own.1) more.1,
    )

-- what is told of a CALL
pub record CallTold (m : Module) (numbers : Numbers) (before : List Entry) (next convention ty function : ℕ) (args : List ℕ) : Type 0 where
  pub sound : SoundCall m numbers.values next ty function args
  pub bit : convention / 2 ^ 15 % 2 ≡ 1
  pub open_block : is_past numbers.blocks before ≡ false

call_told : (known : Known) (m : Module) (a : Agrees known m) (numbers : Numbers) (before : List Entry) (attributes convention ty function : ℕ) (args : List ℕ) →
    body_kinds known numbers before (entry 34 (attributes ∷ convention ∷ ty ∷ function ∷ args)) ≡ [] →
    CallTold m numbers before (next_after known numbers.first before) convention ty function args
call_told known m a numbers before attributes convention ty function args none =
    let next : ℕ = next_after known numbers.first before in
    let ops : List ℕ = attributes ∷ convention ∷ ty ∷ function ∷ args in
    let two = kind_unless (call_counts known next ops) 2 in
    let three = kind_unless (call_names known numbers.values next ops) 3 in
    let six = kind_if (is_past numbers.blocks before) 6 in
    let eight = kind_unless (convention / 2 ^ 15 % 2 == 1) 8 in
    let first = both_none two (three ++ (six ++ eight)) none in
    let second = both_none three (six ++ eight) first.1 in
    let third = both_none six eight second.1 in
    let some : Bool = is_some (called_signature known next ops) in
    let typed : Bool = option_map_or (same_type known ty) (function_type_at known (absolute next function)) false in
    let named : Bool = list_all (names_operand numbers.values next) args in
    let names = and_parts (is_word function) (some && (typed && named)) (told_unless (call_names known numbers.values next ops) 3 second.0) in
    let more = and_parts some (typed && named) names.1 in
    let last = and_parts typed named more.1 in
    let own = args_told numbers.values next args last.1 in
    let takes = signature_is (called_signature known next ops) ops (length args)
    (if nat_le next (absolute next function) then nat_le 5 (length ops) else nat_le 4 (length ops)) more.0 (omega arith) (told_unless (call_counts known next ops) 2 first.0) in
    record {
      sound = record {
        takes = subst (λ o. MatchOption o ⊥ (λ s. length s.1 ≡ length args)) (callee known m a (absolute next function)) takes;
        named = own.1;
        typed = type_told known m a ty (function_at m (absolute next function)) (sym (ap (λ o. option_map_or (same_type known ty) o false) (a.function_types (absolute next function))) ∙ last.0);
        words = All-cons IsWord function args (told_word function names.0) own.0;
      };
      bit = eqb-true (convention / 2 ^ 15 % 2) 1 (told_unless (convention / 2 ^ 15 % 2 == 1) 8 third.1);
      open_block = told_if (is_past numbers.blocks before) 6 third.0;
    }

-- instructions

pub record CodeTold (m : Module) (values blocks next : ℕ) (rs : List BodyRecord) (insts : List Inst) : Type 0 where
  pub code : InstructionsRecorded m next (instruction_records rs) insts
  pub sound : All (IsSoundInst m values blocks) insts

read_call : (m : Module) (next attributes convention ty function : ℕ) (args : List ℕ) (es : List Entry) → All IsWord (function ∷ args) →
    read_instructions m next (entry 34 (attributes ∷ convention ∷ ty ∷ function ∷ args) ∷ es)
    ≡ Call (absolute next function) (map (absolute next) args) ∷ read_instructions m (next_value m next (Call (absolute next function) (map (absolute next) args))) es
read_call m next attributes convention ty function args es fit =
    let call : ℕ → List ℕ → List Inst = λ x xs. let inst : Inst = Call (absolute next x) (map (absolute next) xs) in inst ∷ read_instructions m (next_value m next inst) es in
    ap (λ x. call x (words args)) (word_same function (All-head IsWord function args fit)) ∙ ap (call function) (words_same args (All-tail IsWord function args fit))

module _ (known : Known) (m outline : Module) (a : Agrees known m) (o : Agrees known outline) (numbers : Numbers) (blocks : ℕ) where
  abbrev told_at : ℕ → List BodyRecord → Type 0
  told_at next rs = CodeTold m numbers.values blocks next rs (read_instructions outline next (map body_entry rs))

  pub code_told : (before : List Entry) (rs : List BodyRecord) → FreeBody known numbers before (map body_entry rs) → told_at (next_after known numbers.first before) rs
  code_told before [] free = record { code = tt; sound = All-nil (IsSoundInst m numbers.values blocks) }
  code_told before (declare_blocks n ∷ rs) free =
      let e : Entry = entry 1 (n ∷ []) in
      let more = subst (λ x. told_at x rs) (next_more known numbers.first before e) (code_told (before ++ e ∷ []) rs free.1) in
      record { code = more.code; sound = more.sound }
  code_told before (return_record ∷ rs) free =
      let e : Entry = entry 10 [] in
      let next : ℕ = next_after known numbers.first before in
      let more = subst (λ x. told_at x rs) (next_more known numbers.first before e) (code_told (before ++ e ∷ []) rs free.1) in
      record { code = (refl, more.code); sound = All-cons (IsSoundInst m numbers.values blocks) Ret (read_instructions outline next (map body_entry rs)) tt more.sound }
  code_told before (call_record attributes convention ty function args ∷ rs) free =
      let e : Entry = entry 34 (attributes ∷ convention ∷ ty ∷ function ∷ args) in
      let next : ℕ = next_after known numbers.first before in
      let es : List Entry = map body_entry rs in
      let call : Inst = Call (absolute next function) (map (absolute next) args) in
      let own = call_told known m a numbers before attributes convention ty function args free.0 in
      let again = call_told known outline o numbers before attributes convention ty function args free.0 in
      let after : next_after known numbers.first (before ++ e ∷ []) ≡ next_value m next call
      = next_more known numbers.first before e ∙ ap (λ b. if b then suc next else next) (value_same known m a numbers.values next attributes convention ty function args own.sound) in
      let both : next_value m next call ≡ next_value outline next call
      = ap (λ b. if b then suc next else next) (sym (value_same known m a numbers.values next attributes convention ty function args own.sound)
      ∙ value_same known outline o numbers.values next attributes convention ty function args again.sound) in
      let more : told_at (next_value m next call) rs = subst (λ x. told_at x rs) after (code_told (before ++ e ∷ []) rs free.1) in
      let rest : CodeTold m numbers.values blocks (next_value m next call) rs (read_instructions outline (next_value outline next call) es)
      = subst (λ x. CodeTold m numbers.values blocks (next_value m next call) rs (read_instructions outline x es)) both more in
      let sound : IsSoundInst m numbers.values blocks call = (subst (Takes m (absolute next function)) (sym (length-map args (absolute next))) own.sound.takes, own.sound.named) in
      subst (CodeTold m numbers.values blocks next (call_record attributes convention ty function args ∷ rs)) (sym (read_call outline next attributes convention ty function args es own.sound.words)) (record {
        code = ((refl, own.bit, own.sound.typed, own.sound.words), rest.code);
        sound = All-cons (IsSoundInst m numbers.values blocks) call (read_instructions outline (next_value outline next call) es) sound rest.sound;
      })

-- blocks

is_open : (blocks : Option ℕ) (n : ℕ) (before : List Entry) → blocks ≡ Some n → is_past blocks before ≡ false → count_code 10 before < n
is_open blocks n before said past = leb-false n (count_code 10 before) (sym (ap (λ o. is_past o before) said) ∙ past)

-- no more blocks are filled than are declared
pub room_told : (known : Known) (outline : Module) (numbers : Numbers) (n : ℕ) (before : List Entry) (rs : List BodyRecord) (next : ℕ) → numbers.blocks ≡ Some n → count_code 10 before ≤ n →
    FreeBody known numbers before (map body_entry rs) → count_code 10 before + length (filled_blocks (read_instructions outline next (map body_entry rs))) ≤ n
room_told known outline numbers n before [] next said low free = omega (arith, low)
room_told known outline numbers n before (declare_blocks k ∷ rs) next said low free =
    let e : Entry = entry 1 (k ∷ []) in
    omega (arith, count_more 10 before (e ∷ []), room_told known outline numbers n (before ++ e ∷ []) rs next said (omega (arith, low, count_more 10 before (e ∷ []))) free.1)
room_told known outline numbers n before (return_record ∷ rs) next said low free =
    let e : Entry = entry 10 [] in
    let less : count_code 10 before < n = is_open numbers.blocks n before said (told_if (is_past numbers.blocks before) 6 free.0) in
    omega (arith, count_more 10 before (e ∷ []), room_told known outline numbers n (before ++ e ∷ []) rs next said (omega (arith, less, count_more 10 before (e ∷ []))) free.1)
room_told known outline numbers n before (call_record attributes convention ty function args ∷ rs) next said low free =
    let ops : List ℕ = attributes ∷ convention ∷ ty ∷ function ∷ args in
    let e : Entry = entry 34 ops in
    let at : ℕ = next_after known numbers.first before in
    let two = kind_unless (call_counts known at ops) 2 in
    let three = kind_unless (call_names known numbers.values at ops) 3 in
    let six = kind_if (is_past numbers.blocks before) 6 in
    let eight = kind_unless (convention / 2 ^ 15 % 2 == 1) 8 in
    let past = (both_none six eight (both_none three (six ++ eight) (both_none two (three ++ (six ++ eight)) free.0).1).1).0 in
    let less : count_code 10 before < n = is_open numbers.blocks n before said (told_if (is_past numbers.blocks before) 6 past) in
    let call : Inst = Call (absolute next (word function)) (map (absolute next) (words args)) in
    let insts : List Inst = read_instructions outline (next_value outline next call) (map body_entry rs) in
    most call (filled_blocks insts) less
    (omega (arith, count_more 10 before (e ∷ []), room_told known outline numbers n (before ++ e ∷ []) rs (next_value outline next call) said (omega (arith, less, count_more 10 before (e ∷ []))) free.1))
  where
    most : (inst : Inst) (filled : List (List Inst)) → count_code 10 before < n → count_code 10 before + length filled ≤ n → count_code 10 before + length (before_first inst filled) ≤ n
    most inst [] less room = omega (arith, less)
    most inst (b ∷ bs) less room = omega (arith, room)

-- what holds of RET and of each CALL that is read holds of each instruction
pub read_each : (P : Inst → Type 0) → P Ret → ((next function : ℕ) (args : List ℕ) → P (Call (absolute next function) (map (absolute next) args))) →
    (m : Module) (next : ℕ) (es : List Entry) → All P (read_instructions m next es)
read_each P ret call m next [] = All-nil P
read_each P ret call m next (entry code ops ∷ es) =
    let inst : Inst = Call (absolute next (word (operand ops 3))) (map (absolute next) (words (drop 4 ops))) in
    by (code == 1) (code == 10) (read_each P ret call m next es) (read_each P ret call m (next_value m next inst) es)
  where
    by : (b c : Bool) → All P (read_instructions m next es) →
        All P (read_instructions m (next_value m next (Call (absolute next (word (operand ops 3))) (map (absolute next) (words (drop 4 ops))))) es) →
        All P (if b then read_instructions m next es else if c then Ret ∷ read_instructions m next es
        else Call (absolute next (word (operand ops 3))) (map (absolute next) (words (drop 4 ops)))
        ∷ read_instructions m (next_value m next (Call (absolute next (word (operand ops 3))) (map (absolute next) (words (drop 4 ops))))) es)
    by true c here after = here
    by false true here after = All-cons P Ret (read_instructions m next es) ret here
    by false false here after =
        let inst : Inst = Call (absolute next (word (operand ops 3))) (map (absolute next) (words (drop 4 ops))) in
        All-cons P inst (read_instructions m (next_value m next inst) es) (call next (word (operand ops 3)) (words (drop 4 ops))) after

-- numbers of values are words
absolute_fits : (next operand : ℕ) → IsWord (absolute next operand)
absolute_fits next operand = omega arith

all_fit : (next : ℕ) (args : List ℕ) → AreWords (map (absolute next) args)
all_fit next [] = All-nil IsWord
all_fit next (x ∷ xs) = All-cons IsWord (absolute next x) (map (absolute next) xs) (absolute_fits next x) (all_fit next xs)

pub insts_fit : (m : Module) (next : ℕ) (es : List Entry) → All InstInRange (read_instructions m next es)
insts_fit m next es = read_each InstInRange tt (λ at function args. (absolute_fits at function, all_fit at args)) m next es

pub insts_listed : (m : Module) (next : ℕ) (es : List Entry) → All IsListedInst (read_instructions m next es)
insts_listed m next es = read_each IsListedInst tt (λ at function args. tt) m next es
