-- Instructions, one record after the other.
use Rattle.std.proofs.Common.{◌≡◌, ◌≢◌, ℕ, suc, ◌%◌, ◌^◌, Bool, true, false, List, [], ◌∷◌, ◌++◌, append_assoc, map, drop, refl, ap, sym, ◌∙◌, arith}
use Rattle.std.specs.Prelude.{◌==◌, if◌then◌else◌, slice_get, OnOk, Ok, Err}
use Rattle.std.specs.declared.result.Result.{Result}
use Rattle.std.specs.Option.{option_map_or}
use Rattle.ir_core.specs.declared.instruction.Inst.{Inst}
use Rattle.ir_core.specs.declared.instruction.Inst.TheVariants.{Call, Ret}
use Rattle.ir_core.specs.declared.module.Module.{Module}
use Rattle.ir_core.specs.Soundness.{ends_block}
use Rattle.ir_core.specs.Values.{has_value}
use Rattle.bc_records.specs.BodyRecords.{absolute, before_first, filled_blocks, next_value}
use Rattle.bc_records.specs.Entries.{Entry, entry}
use Rattle.bc_records.specs.RecordKinds.{operand}
use Rattle.bc_records.specs.Read.{word, words, read_count, read_instructions}
use Rattle.bc_records.specs.ReadBodies.{filled_after, unless_empty}
use Rattle.bc_records.proofs.Numbers.{test_same, test_other}

if_same : {X : Type 0} (t : Bool) (x y v w : X) → x ≡ v → y ≡ w → (if t then x else y) ≡ (if t then v else w)
if_same true x y v w first second = first
if_same false x y v w first second = second

-- only the next number modulo 2^32 counts

absolute_same : (a b n : ℕ) → a % 2 ^ 32 ≡ b % 2 ^ 32 → absolute a (word n) ≡ absolute b (word n)
absolute_same a b n same = omega arith

all_same : (a b : ℕ) (ns : List ℕ) → a % 2 ^ 32 ≡ b % 2 ^ 32 → map (absolute a) (words ns) ≡ map (absolute b) (words ns)
all_same a b [] same = refl
all_same a b (n ∷ ns) same = ap (λ v. v ∷ map (absolute a) (words ns)) (absolute_same a b n same) ∙ ap (λ vs. absolute b (word n) ∷ vs) (all_same a b ns same)

next_same : (m : Module) (a b : ℕ) (inst : Inst) → a % 2 ^ 32 ≡ b % 2 ^ 32 → next_value m a inst % 2 ^ 32 ≡ next_value m b inst % 2 ^ 32
next_same m a b inst same =
    elim (has_value m inst) as (λ t. (if t then suc a else a) % 2 ^ 32 ≡ (if t then suc b else b) % 2 ^ 32) [ true ↦ omega arith | false ↦ same ]

-- the call of a record
abbrev pub call_of : ℕ → List ℕ → Inst
call_of next operands = Call (absolute next (word (operand operands 3))) (map (absolute next) (words (drop 4 operands)))

call_same : (a b : ℕ) (operands : List ℕ) → a % 2 ^ 32 ≡ b % 2 ^ 32 → call_of a operands ≡ call_of b operands
call_same a b operands same =
    ap (λ f. Call f (map (absolute a) (words (drop 4 operands)))) (absolute_same a b (operand operands 3) same)
    ∙ ap (Call (absolute b (word (operand operands 3)))) (all_same a b (drop 4 operands) same)

pub instructions_same : (m : Module) (a b : ℕ) (es : List Entry) → a % 2 ^ 32 ≡ b % 2 ^ 32 → read_instructions m a es ≡ read_instructions m b es
instructions_same m a b [] same = refl
instructions_same m a b (entry code operands ∷ rest) same =
    if_same (code == 1) _ _ _ _ (instructions_same m a b rest same)
    (if_same (code == 10) _ _ _ _ (ap (λ is. Ret ∷ is) (instructions_same m a b rest same))
    (ap (λ i. i ∷ read_instructions m (next_value m a (call_of a operands)) rest) (call_same a b operands same)
    ∙ ap (λ is. call_of b operands ∷ is)
    (ap (λ i. read_instructions m (next_value m a i) rest) (call_same a b operands same)
    ∙ instructions_same m (next_value m a (call_of b operands)) (next_value m b (call_of b operands)) rest (next_same m a b (call_of b operands) same))))

-- a record that is neither DECLAREBLOCKS nor RET
pub call_first : (m : Module) (next after code : ℕ) (operands : List ℕ) (call : Inst) (rest : List Entry) → code ≢ 1 → code ≢ 10 →
    call ≡ call_of next operands → after ≡ word (next_value m next call) →
    call ∷ read_instructions m after rest ≡ read_instructions m next (entry code operands ∷ rest)
call_first m next after code operands call rest other other_too is after_is =
    ap (λ is'. call ∷ is') (instructions_same m after (next_value m next call) rest (low after (next_value m next call) after_is))
    ∙ (ap (λ i. i ∷ read_instructions m (next_value m next i) rest) is
    ∙ (sym (test_other code 10 _ _ other_too) ∙ sym (test_other code 1 _ _ other)))
  where
    low : (a b : ℕ) → a ≡ b % 2 ^ 32 → a % 2 ^ 32 ≡ b % 2 ^ 32
    low a b e = omega arith

-- blocks, where one is open

-- an open block before others
goes_on : List Inst → List (List Inst) → List (List Inst)
goes_on before [] = unless_empty before
goes_on before (block ∷ blocks) = (before ++ block) ∷ blocks

not_empty : (before : List Inst) (inst : Inst) → unless_empty (before ++ inst ∷ []) ≡ (before ++ inst ∷ []) ∷ []
not_empty [] inst = refl
not_empty (i ∷ before) inst = refl

goes_on-more : (before : List Inst) (inst : Inst) (blocks : List (List Inst)) → goes_on (before ++ inst ∷ []) blocks ≡ goes_on before (before_first inst blocks)
unfolding goes_on
goes_on-more before inst [] = not_empty before inst
goes_on-more before inst (block ∷ blocks) = ap (λ b. b ∷ blocks) (append_assoc before (inst ∷ []) block)

nothing : (blocks : List (List Inst)) → goes_on [] blocks ≡ blocks
unfolding goes_on
nothing [] = refl
nothing (block ∷ blocks) = refl

after_filled : (before insts : List Inst) → filled_after before insts ≡ goes_on before (filled_blocks insts)
unfolding goes_on
after_filled before [] = refl
after_filled before (inst ∷ insts) =
    elim (ends_block inst) as (λ t.
    (if t then (before ++ inst ∷ []) ∷ filled_after [] insts else filled_after (before ++ inst ∷ []) insts)
    ≡ goes_on before (if t then (inst ∷ []) ∷ filled_blocks insts else before_first inst (filled_blocks insts))) [
      | true ↦ ap (λ bs. (before ++ inst ∷ []) ∷ bs) (after_filled [] insts ∙ nothing (filled_blocks insts))
      | false ↦ after_filled (before ++ inst ∷ []) insts ∙ goes_on-more before inst (filled_blocks insts)
    ]

pub filled_from_none : (insts : List Inst) → filled_after [] insts ≡ filled_blocks insts
filled_from_none insts = after_filled [] insts ∙ nothing (filled_blocks insts)

-- the number of blocks

pub count_here : (code : ℕ) (operands : List ℕ) (rest : List Entry) → code ≡ 1 → read_count (entry code operands ∷ rest) ≡ word (operand operands 0)
count_here code operands rest is = ap (λ n. option_map_or word n 0) (test_same code 1 _ _ is) ∙ first operands
  where
    first : (ns : List ℕ) → option_map_or word (slice_get ns 0) 0 ≡ word (operand ns 0)
    first [] = refl
    first (n ∷ ns) = refl

pub count_later : (code : ℕ) (operands : List ℕ) (rest : List Entry) → code ≢ 1 → read_count (entry code operands ∷ rest) ≡ read_count rest
count_later code operands rest other = ap (λ n. option_map_or word n 0) (test_other code 1 _ _ other)

-- what follows from an answer
pub on_ok : {X E P Q : Type 0} (r : Result X E) → OnOk r P → (P → Q) → OnOk r Q
on_ok (Ok x) p f = f p
on_ok (Err e) p f = tt
