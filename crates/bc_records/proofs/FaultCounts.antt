-- Counts over the parts that a walk has passed, with one part more.
use Rattle.std.proofs.Common.{◌≡◌, ℕ, suc, ◌+◌, ◌<◌, ◌==◌, Bool, true, false, ◌||◌, if◌then◌else◌, List, [], ◌∷◌, ◌++◌, length, get_or, refl, ap, sym, ◌∙◌, arith, append_assoc, zero-add, eqb-true, eq-eqb}
use Rattle.std.proofs.lemmas.Bool.{ne_eqb}
use Rattle.bc_stream.specs.Blocks.{Contents, no_more, a_record, a_block, append, parts_contents}
use Rattle.bc_stream.specs.declared.block.Entry as held
use Rattle.bc_stream.specs.declared.block.Part.{Part}
use Rattle.bc_stream.specs.declared.block.Part.TheVariants.{Block, Entry}
use Rattle.bc_stream.specs.declared.block.BlockTree.{BlockTree}
use Rattle.bc_stream.proofs.BlockLemmas.{block_more, entry_more}
use Rattle.bc_records.specs.Entries.{Entry as EntryForm, entry, entries_in, blocks_in, block_count}
use Rattle.bc_records.specs.FaultCounts.{is_code_from, codes_from}
use Rattle.bc_records.specs.RecordKinds.{code_of, count_code, all_of}
use Rattle.bc_records.proofs.FreeSites.{entries-append, more_none}
use Rattle.bc_records.proofs.FaultWalk.{past, count-append}

pub blocks-append : (id : ℕ) (a b : Contents) → blocks_in id (append a b) ≡ blocks_in id a ++ blocks_in id b
blocks-append id no_more b = refl
blocks-append id (a_record code values a) b = blocks-append id a b
blocks-append id (a_block other inner a) b = by_case (other == id) (blocks-append id a b) where
  by_case : (is : Bool) → blocks_in id (append a b) ≡ blocks_in id a ++ blocks_in id b →
      (if is then inner ∷ blocks_in id (append a b) else blocks_in id (append a b)) ≡ (if is then inner ∷ blocks_in id a else blocks_in id a) ++ blocks_in id b
  by_case true h = ap (λ bs. inner ∷ bs) h
  by_case false h = h

-- a block more
module _ (parts : List Part) (i : ℕ) (part : Part) (b : BlockTree) (within : i < length parts) (is : part ≡ get_or parts i part) (form : part ≡ Block b) where
  pub count-block : block_count (past parts (i + 1)) ≡ block_count (past parts i) + suc (block_count (parts_contents b.parts))
  count-block =
      ap block_count (block_more parts i part b within is form)
      ∙ (count-append (past parts i) (a_block b.id (parts_contents b.parts) no_more) ∙ omega arith)

  pub entries-block : entries_in (past parts (i + 1)) ≡ entries_in (past parts i)
  entries-block =
      ap entries_in (block_more parts i part b within is form)
      ∙ (entries-append (past parts i) (a_block b.id (parts_contents b.parts) no_more) ∙ more_none (entries_in (past parts i)))

  pub blocks-block : (id : ℕ) → b.id ≡ id → blocks_in id (past parts (i + 1)) ≡ blocks_in id (past parts i) ++ parts_contents b.parts ∷ []
  blocks-block id same =
      ap (blocks_in id) (block_more parts i part b within is form)
      ∙ (blocks-append id (past parts i) (a_block b.id (parts_contents b.parts) no_more)
      ∙ ap (λ t. blocks_in id (past parts i) ++ (if t then parts_contents b.parts ∷ [] else [])) (eq-eqb b.id id same))

  pub blocks-other : (id : ℕ) → (b.id ≡ id → ⊥) → blocks_in id (past parts (i + 1)) ≡ blocks_in id (past parts i)
  blocks-other id other =
      ap (blocks_in id) (block_more parts i part b within is form)
      ∙ (blocks-append id (past parts i) (a_block b.id (parts_contents b.parts) no_more)
      ∙ (ap (λ t. blocks_in id (past parts i) ++ (if t then parts_contents b.parts ∷ [] else [])) (ne_eqb b.id id other) ∙ more_none (blocks_in id (past parts i))))

-- a record more
module _ (parts : List Part) (i : ℕ) (part : Part) (e : held.Entry) (within : i < length parts) (is : part ≡ get_or parts i part) (form : part ≡ Entry e) where
  pub count-entry : block_count (past parts (i + 1)) ≡ block_count (past parts i)
  count-entry =
      ap block_count (entry_more parts i part e within is form)
      ∙ (count-append (past parts i) (a_record e.code e.values no_more) ∙ omega arith)

  pub blocks-entry : (id : ℕ) → blocks_in id (past parts (i + 1)) ≡ blocks_in id (past parts i)
  blocks-entry id =
      ap (blocks_in id) (entry_more parts i part e within is form)
      ∙ (blocks-append id (past parts i) (a_record e.code e.values no_more) ∙ more_none (blocks_in id (past parts i)))

-- counts of codes
pub count_code-append : (code : ℕ) (xs ys : List EntryForm) → count_code code (xs ++ ys) ≡ count_code code xs + count_code code ys
count_code-append code [] ys = sym (zero-add (count_code code ys))
count_code-append code (x ∷ xs) ys = by_case (code_of x == code) (count_code-append code xs ys) where
  by_case : (is : Bool) → count_code code (xs ++ ys) ≡ count_code code xs + count_code code ys →
      (if is then suc (count_code code (xs ++ ys)) else count_code code (xs ++ ys))
      ≡ (if is then suc (count_code code xs) else count_code code xs) + count_code code ys
  by_case true h = omega (arith, h)
  by_case false h = h

pub codes_from-append : (first : ℕ) (xs ys : List EntryForm) → codes_from first (xs ++ ys) ≡ codes_from first xs + codes_from first ys
codes_from-append first xs ys =
    omega (arith, count_code-append first xs ys, count_code-append (suc first) xs ys, count_code-append (suc (suc first)) xs ys)

-- a record with one of the codes counts once
pub codes_from-true : (first code : ℕ) (operands : List ℕ) → is_code_from first code ≡ true → codes_from first (entry code operands ∷ []) ≡ 1
codes_from-true first code operands is = by_case (code == first) refl is where
  one : (a b : ℕ) → (a ≡ b → ⊥) → count_code b (entry a operands ∷ []) ≡ 0
  one a b other = ap (λ t. if t then 1 else 0) (ne_eqb a b other)

  own : (a b : ℕ) → a ≡ b → count_code b (entry a operands ∷ []) ≡ 1
  own a b same = ap (λ t. if t then 1 else 0) (eq-eqb a b same)

  third : code ≡ suc (suc first) → codes_from first (entry code operands ∷ []) ≡ 1
  third same = omega (arith, one code first (λ e. omega (arith, e, same)), one code (suc first) (λ e. omega (arith, e, same)), own code (suc (suc first)) same)

  second_case : (b : Bool) → (code == suc first) ≡ b → (b || (code == suc (suc first))) ≡ true → codes_from first (entry code operands ∷ []) ≡ 1
  second_case true e h =
      let same : code ≡ suc first = eqb-true code (suc first) e in
      omega (arith, one code first (λ d. omega (arith, d, same)), own code (suc first) same, one code (suc (suc first)) (λ d. omega (arith, d, same)))
  second_case false e h = third (eqb-true code (suc (suc first)) h)

  by_case : (b : Bool) → (code == first) ≡ b → (b || ((code == suc first) || (code == suc (suc first)))) ≡ true → codes_from first (entry code operands ∷ []) ≡ 1
  by_case true e h =
      let same : code ≡ first = eqb-true code first e in
      omega (arith, own code first same, one code (suc first) (λ d. omega (arith, d, same)), one code (suc (suc first)) (λ d. omega (arith, d, same)))
  by_case false e h = second_case (code == suc first) refl h

pub codes_from-false : (first code : ℕ) (operands : List ℕ) → is_code_from first code ≡ false → codes_from first (entry code operands ∷ []) ≡ 0
codes_from-false first code operands is = by_case (code == first) (code == suc first) (code == suc (suc first)) is where
  by_case : (a b c : Bool) → (a || (b || c)) ≡ false → (if a then 1 else 0) + ((if b then 1 else 0) + (if c then 1 else 0)) ≡ 0
  by_case false false false h = omega arith
  by_case true b c h = absurd (cc h)
  by_case false true c h = absurd (cc h)
  by_case false false true h = absurd (cc h)

pub all_of-append : (xs ys : List Contents) → all_of (xs ++ ys) ≡ all_of xs ++ all_of ys
all_of-append [] ys = refl
all_of-append (x ∷ xs) ys = ap (λ es. entries_in x ++ es) (all_of-append xs ys) ∙ sym (append_assoc (entries_in x) (all_of xs) (all_of ys))

pub all_of-one : (xs : List Contents) (x : Contents) → all_of (xs ++ x ∷ []) ≡ all_of xs ++ entries_in x
all_of-one xs x = all_of-append xs (x ∷ []) ∙ ap (λ es. all_of xs ++ es) (more_none (entries_in x))
