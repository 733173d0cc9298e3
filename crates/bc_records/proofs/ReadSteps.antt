-- A loop over the parts of a block: what its state gives with the parts that are left is the whole.
use Rattle.std.proofs.Common.{◌≡◌, ◌≢◌, ℕ, ◌+◌, ◌<◌, ◌≤◌, List, ◌∷◌, ◌++◌, append_assoc, length, drop, get_or, ap, sym, ◌∙◌}
use Rattle.std.specs.Prelude.{flat_map, IfOk, Ok, Err}
use Rattle.std.specs.declared.result.Result.{Result}
use Rattle.std.proofs.lemmas.List.{drop_more, drop_all}
use Rattle.bc_stream.specs.Blocks.{Contents, no_more, a_record, a_block, before_part, contents_of, parts_contents}
use Rattle.bc_stream.specs.declared.block.Entry as entry_type
use Rattle.bc_stream.specs.declared.block.Part.{Part}
use Rattle.bc_stream.specs.declared.block.Part.TheVariants.{Block, Entry}
use Rattle.bc_stream.specs.declared.block.BlockTree.{BlockTree}
use Rattle.bc_stream.proofs.BlockLemmas.{before_part-Block, before_part-Entry, before_block-is, parts_contents-first, parts_contents-none, contents_of-first, contents_of-none}
use Rattle.bc_records.specs.Entries.{blocks_in}
use Rattle.bc_records.proofs.Numbers.{test_same, test_other}
use Rattle.bc_records.proofs.Steps.{drop-zero}

-- what the parts from a place on hold
abbrev pub from : List Part → ℕ → Contents
from parts i = parts_contents (drop i parts)

pub from_start : (parts : List Part) → from parts 0 ≡ parts_contents parts
from_start parts = ap parts_contents (drop-zero parts)

pub next_part : (parts : List Part) (i : ℕ) (part : Part) → i < length parts → part ≡ get_or parts i part →
    from parts i ≡ before_part part (from parts (i + 1))
next_part parts i part below is =
    ap parts_contents (drop_more parts i part below ∙ ap (λ p. p ∷ drop (i + 1) parts) (sym is)) ∙ parts_contents-first part (drop (i + 1) parts)

pub record_next : (parts : List Part) (i : ℕ) (part : Part) (e : entry_type.Entry) → i < length parts → part ≡ get_or parts i part → part ≡ Entry e →
    from parts i ≡ a_record e.code e.values (from parts (i + 1))
record_next parts i part e below is form =
    next_part parts i part below is ∙ (ap (λ p. before_part p (from parts (i + 1))) form ∙ before_part-Entry e (from parts (i + 1)))

pub block_next : (parts : List Part) (i : ℕ) (part : Part) (b : BlockTree) → i < length parts → part ≡ get_or parts i part → part ≡ Block b →
    from parts i ≡ a_block b.id (parts_contents b.parts) (from parts (i + 1))
block_next parts i part b below is form =
    next_part parts i part below is
    ∙ (ap (λ p. before_part p (from parts (i + 1))) form ∙ (before_part-Block b (from parts (i + 1)) ∙ before_block-is b (from parts (i + 1))))

pub from_end : (parts : List Part) (i : ℕ) → length parts ≤ i → from parts i ≡ no_more
from_end parts i past = ap parts_contents (drop_all i parts past) ∙ parts_contents-none

-- `old` and `new` say what the states before and after a part give with what is left
module _ {Y : Type 0} (old : Contents → Y) (new : Contents → Y) (whole : Y) (parts : List Part) (i : ℕ) (part : Part) where
  pub record_step : (e : entry_type.Entry) → i < length parts → part ≡ get_or parts i part → part ≡ Entry e →
      ((rest : Contents) → new rest ≡ old (a_record e.code e.values rest)) →
      old (from parts i) ≡ whole → new (from parts (i + 1)) ≡ whole
  record_step e below is form step so_far = step (from parts (i + 1)) ∙ (ap old (sym (record_next parts i part e below is form)) ∙ so_far)

  pub block_step : (b : BlockTree) → i < length parts → part ≡ get_or parts i part → part ≡ Block b →
      ((rest : Contents) → new rest ≡ old (a_block b.id (parts_contents b.parts) rest)) →
      old (from parts i) ≡ whole → new (from parts (i + 1)) ≡ whole
  block_step b below is form step so_far = step (from parts (i + 1)) ∙ (ap old (sym (block_next parts i part b below is form)) ∙ so_far)

module _ {Y : Type 0} (old : Contents → Y) (whole : Y) (parts : List Part) where
  pub begin : old (parts_contents parts) ≡ whole → old (from parts 0) ≡ whole
  begin e = ap old (from_start parts) ∙ e

  pub stop : (i : ℕ) → length parts ≤ i → old (from parts i) ≡ whole → old no_more ≡ whole
  stop i past so_far = ap old (sym (from_end parts i past)) ∙ so_far

-- the blocks of an id, where the first part is a record, another block, or such a block
pub skip_record : (id : ℕ) (part : Part) (e : entry_type.Entry) (rest : Contents) → part ≡ Entry e →
    blocks_in id (before_part part rest) ≡ blocks_in id rest
skip_record id part e rest form = ap (blocks_in id) (ap (λ p. before_part p rest) form ∙ before_part-Entry e rest)

block_is : (part : Part) (b : BlockTree) (rest : Contents) → part ≡ Block b →
    before_part part rest ≡ a_block b.id (parts_contents b.parts) rest
block_is part b rest form = ap (λ p. before_part p rest) form ∙ (before_part-Block b rest ∙ before_block-is b rest)

pub skip_block : (id : ℕ) (part : Part) (b : BlockTree) (rest : Contents) → part ≡ Block b → b.id ≢ id →
    blocks_in id (before_part part rest) ≡ blocks_in id rest
skip_block id part b rest form other =
    ap (blocks_in id) (block_is part b rest form)
    ∙ test_other b.id id (parts_contents b.parts ∷ blocks_in id rest) (blocks_in id rest) other

pub take_block : (id : ℕ) (part : Part) (b : BlockTree) (rest : Contents) → part ≡ Block b → b.id ≡ id →
    blocks_in id (before_part part rest) ≡ parts_contents b.parts ∷ blocks_in id rest
take_block id part b rest form same =
    ap (blocks_in id) (block_is part b rest form)
    ∙ test_same b.id id (parts_contents b.parts ∷ blocks_in id rest) (blocks_in id rest) same

-- a step whatever the part is
module _ {Y : Type 0} (old : Contents → Y) (new : Contents → Y) (whole : Y) (parts : List Part) (i : ℕ) (part : Part) where
  pub part_step : i < length parts → part ≡ get_or parts i part → ((rest : Contents) → new rest ≡ old (before_part part rest)) →
      old (from parts i) ≡ whole → new (from parts (i + 1)) ≡ whole
  part_step below is step so_far = step (from parts (i + 1)) ∙ (ap old (sym (next_part parts i part below is)) ∙ so_far)

-- a loop over the blocks of an id, which adds what each of them gives
module _ {X : Type 0} (of : Contents → List X) (id : ℕ) where
  pub skipped : (so_far whole : List X) (parts : List Part) (i : ℕ) (part : Part) → i < length parts → part ≡ get_or parts i part →
      ((rest : Contents) → blocks_in id (before_part part rest) ≡ blocks_in id rest) →
      so_far ++ flat_map of (blocks_in id (from parts i)) ≡ whole → so_far ++ flat_map of (blocks_in id (from parts (i + 1))) ≡ whole
  skipped so_far whole parts i part below is none before =
      let gives : Contents → List X = λ rest. so_far ++ flat_map of (blocks_in id rest) in
      part_step gives gives whole parts i part below is (λ rest. ap (λ bs. so_far ++ flat_map of bs) (sym (none rest))) before

  pub taken : (so_far more whole : List X) (parts : List Part) (i : ℕ) (part : Part) (block : Contents) → i < length parts → part ≡ get_or parts i part →
      ((rest : Contents) → blocks_in id (before_part part rest) ≡ block ∷ blocks_in id rest) →
      more ≡ so_far ++ of block →
      so_far ++ flat_map of (blocks_in id (from parts i)) ≡ whole → more ++ flat_map of (blocks_in id (from parts (i + 1))) ≡ whole
  taken so_far more whole parts i part block below is one grown before =
      part_step (λ rest. so_far ++ flat_map of (blocks_in id rest)) (λ rest. more ++ flat_map of (blocks_in id rest)) whole parts i part below is
      (λ rest.
      ap (λ ys. ys ++ flat_map of (blocks_in id rest)) grown
      ∙ (append_assoc so_far (of block) (flat_map of (blocks_in id rest))
      ∙ ap (λ bs. so_far ++ flat_map of bs) (sym (one rest))))
      before

-- an answer that is equal to a second value, where it is equal to a first
pub ok_same : {X E : Type 0} (r : Result X E) (x y : X) → IfOk r (λ z. z ≡ x) → x ≡ y → IfOk r (λ z. z ≡ y)
ok_same (Ok z) x y is same = is ∙ same
ok_same (Err e) x y is same = tt

-- the outermost blocks

pub contents_next : (blocks : List BlockTree) (i : ℕ) (block : BlockTree) → i < length blocks → block ≡ get_or blocks i block →
    contents_of (drop i blocks) ≡ a_block block.id (parts_contents block.parts) (contents_of (drop (i + 1) blocks))
contents_next blocks i block below is =
    ap contents_of (drop_more blocks i block below ∙ ap (λ b. b ∷ drop (i + 1) blocks) (sym is)) ∙ contents_of-first block (drop (i + 1) blocks)

pub contents_start : (blocks : List BlockTree) → contents_of (drop 0 blocks) ≡ contents_of blocks
contents_start blocks = ap contents_of (drop-zero blocks)

pub contents_end : (blocks : List BlockTree) (i : ℕ) → length blocks ≤ i → contents_of (drop i blocks) ≡ no_more
contents_end blocks i past = ap contents_of (drop_all i blocks past) ∙ contents_of-none

pub block_found : (id number : ℕ) (inner rest : Contents) → number ≡ id → blocks_in id (a_block number inner rest) ≡ inner ∷ blocks_in id rest
block_found id number inner rest same = test_same number id (inner ∷ blocks_in id rest) (blocks_in id rest) same

pub block_passed : (id number : ℕ) (inner rest : Contents) → number ≢ id → blocks_in id (a_block number inner rest) ≡ blocks_in id rest
block_passed id number inner rest other = test_other number id (inner ∷ blocks_in id rest) (blocks_in id rest) other
