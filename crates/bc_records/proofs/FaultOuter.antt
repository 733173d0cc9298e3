-- A walk over the outermost blocks.
use Rattle.std.proofs.Common.{◌≡◌, ℕ, suc, ◌+◌, ◌<◌, ◌≤◌, ◌==◌, ◌||◌, Option, None, Some, List, [], ◌∷◌, ◌++◌, take, drop, length, get_or, ap, sym, ◌∙◌, arith, zero-add}
use Rattle.std.specs.Prelude.{nat_lt}
use Rattle.std.proofs.lemmas.List.{drop_more, drop_all, take-append-drop}
use Rattle.bc_stream.specs.Blocks.{Contents, no_more, a_block, append, parts_contents, contents_of}
use Rattle.bc_stream.specs.declared.block.BlockTree.{BlockTree}
use Rattle.bc_stream.proofs.BlockLemmas.{contents_of-none, contents_of-first, contents_of-more}
use Rattle.bc_records.specs.declared.faults.fault.Fault.{Fault}
use Rattle.bc_records.specs.Codes.{module_block}
use Rattle.bc_records.specs.Entries.{blocks_in, block_count}
use Rattle.bc_records.specs.FaultSearch.{first_kind, fault_at, or_else, first_fault}
use Rattle.bc_records.specs.FaultSites.{sites_after}
use Rattle.bc_records.specs.RecordKinds.{has_block}
use Rattle.bc_records.specs.RecordFaults.{outer_table, outer_heads, outer_inside}
use Rattle.bc_records.proofs.FaultWalk.{count-append, or_else-or_else, or_else-some, or_else-none, first_fault-append}
use Rattle.bc_records.proofs.FaultModules.{counted-block, positive}
use Rattle.bc_records.proofs.Steps.{drop-zero}

abbrev pub outer_left : List BlockTree → ℕ → Contents
outer_left blocks i = contents_of (drop i blocks)

abbrev pub outer_past : List BlockTree → ℕ → Contents
outer_past blocks i = contents_of (take i blocks)

abbrev pub outer_fault : (before : Contents) → (number id : ℕ) → Contents → Option Fault
outer_fault before number id inner = or_else (fault_at number 0 (first_kind (outer_heads before id))) (first_fault (outer_inside id number inner))

abbrev pub outer_rest : (before rest : Contents) → Option Fault
outer_rest before rest = first_fault (sites_after outer_table 0 0 before rest)

pub record OuterWalked (blocks : List BlockTree) (i : ℕ) : Type 0 where
  pub same : outer_rest no_more (contents_of blocks) ≡ outer_rest (outer_past blocks i) (outer_left blocks i)

pub outer-start : (blocks : List BlockTree) → OuterWalked blocks 0
outer-start blocks = record {
  same = ap (outer_rest no_more) (ap contents_of (sym (drop-zero blocks)))
      ∙ ap (λ c. outer_rest c (outer_left blocks 0)) (sym contents_of-none);
}

pub outer-left : (blocks : List BlockTree) (i : ℕ) (b : BlockTree) → i < length blocks → b ≡ get_or blocks i b →
    outer_left blocks i ≡ a_block b.id (parts_contents b.parts) (outer_left blocks (i + 1))
outer-left blocks i b within is =
    ap contents_of (drop_more blocks i b within)
    ∙ (ap (λ p. contents_of (p ∷ drop (i + 1) blocks)) (sym is) ∙ contents_of-first b (drop (i + 1) blocks))

pub outer-none : (blocks : List BlockTree) (i : ℕ) → length blocks ≤ i → outer_left blocks i ≡ no_more
outer-none blocks i all = ap contents_of (drop_all i blocks all) ∙ contents_of-none

module _ (blocks : List BlockTree) (i : ℕ) (b : BlockTree) (within : i < length blocks) (is : b ≡ get_or blocks i b) where
  pub outer-past : outer_past blocks (i + 1) ≡ append (outer_past blocks i) (a_block b.id (parts_contents b.parts) no_more)
  outer-past = contents_of-more blocks i b within is

  pub outer-count : block_count (outer_past blocks (i + 1)) ≡ block_count (outer_past blocks i) + suc (block_count (parts_contents b.parts))
  outer-count =
      ap block_count outer-past
      ∙ (count-append (outer_past blocks i) (a_block b.id (parts_contents b.parts) no_more) ∙ omega arith)

  pub outer-seen : has_block module_block (outer_past blocks (i + 1)) ≡ (has_block module_block (outer_past blocks i) || (b.id == module_block))
  outer-seen =
      ap (has_block module_block) outer-past
      ∙ (ap (nat_lt 0) (counted-block module_block (outer_past blocks i) b.id (parts_contents b.parts))
      ∙ positive (length (blocks_in module_block (outer_past blocks i))) (b.id == module_block))

  at-outer : OuterWalked blocks i → outer_rest no_more (contents_of blocks)
      ≡ or_else (outer_fault (outer_past blocks i) (block_count (outer_past blocks i)) b.id (parts_contents b.parts)) (outer_rest (outer_past blocks (i + 1)) (outer_left blocks (i + 1)))
  at-outer w =
      w.same
      ∙ (ap (outer_rest (outer_past blocks i)) (outer-left blocks i b within is)
      ∙ (ap (λ n. or_else (fault_at n 0 (first_kind (outer_heads (outer_past blocks i) b.id)))
      (first_fault (outer_inside b.id n (parts_contents b.parts)
      ++ sites_after outer_table 0 0 (append (outer_past blocks i) (a_block b.id (parts_contents b.parts) no_more)) (outer_left blocks (i + 1)))))
      (zero-add (block_count (outer_past blocks i)))
      ∙ (ap (or_else head)
      (first_fault-append (outer_inside b.id number (parts_contents b.parts))
      (sites_after outer_table 0 0 (append (outer_past blocks i) (a_block b.id (parts_contents b.parts) no_more)) (outer_left blocks (i + 1)))
      ∙ ap (λ c. or_else inside (outer_rest c (outer_left blocks (i + 1)))) (sym outer-past))
      ∙ sym (or_else-or_else head inside (outer_rest (outer_past blocks (i + 1)) (outer_left blocks (i + 1))))))) where
        number : ℕ
        number = block_count (outer_past blocks i)

        head : Option Fault
        head = fault_at number 0 (first_kind (outer_heads (outer_past blocks i) b.id))

        inside : Option Fault
        inside = first_fault (outer_inside b.id number (parts_contents b.parts))

  pub outer-more : OuterWalked blocks i → outer_fault (outer_past blocks i) (block_count (outer_past blocks i)) b.id (parts_contents b.parts) ≡ None →
      OuterWalked blocks (i + 1)
  outer-more w free = record { same = at-outer w ∙ or_else-none _ _ free }

  pub outer-found : OuterWalked blocks i → (f : Fault) → outer_fault (outer_past blocks i) (block_count (outer_past blocks i)) b.id (parts_contents b.parts) ≡ Some f →
      outer_rest no_more (contents_of blocks) ≡ Some f
  outer-found w f is_fault = at-outer w ∙ or_else-some _ _ f is_fault

pub outer-end : (blocks : List BlockTree) (i : ℕ) → length blocks ≤ i → OuterWalked blocks i → outer_rest no_more (contents_of blocks) ≡ None
outer-end blocks i all w = w.same ∙ ap (outer_rest (outer_past blocks i)) (outer-none blocks i all)

-- the blocks up to one are among those that there are
pub outer-room : (blocks : List BlockTree) (i : ℕ) (b : BlockTree) → i < length blocks → b ≡ get_or blocks i b →
    block_count (outer_past blocks i) + suc (block_count (parts_contents b.parts)) ≤ block_count (contents_of blocks)
outer-room blocks i b within is = omega (arith, split, ap block_count (outer-left blocks i b within is)) where
  contents-append : (xs ys : List BlockTree) → contents_of (xs ++ ys) ≡ append (contents_of xs) (contents_of ys)
  contents-append [] ys = ap (λ c. append c (contents_of ys)) (sym contents_of-none)
  contents-append (x ∷ xs) ys =
      contents_of-first x (xs ++ ys)
      ∙ (ap (a_block x.id (parts_contents x.parts)) (contents-append xs ys)
      ∙ ap (λ c. append c (contents_of ys)) (sym (contents_of-first x xs)))

  split : block_count (contents_of blocks) ≡ block_count (outer_past blocks i) + block_count (outer_left blocks i)
  split =
      ap (λ ps. block_count (contents_of ps)) (sym (take-append-drop i blocks))
      ∙ (ap block_count (contents-append (take i blocks) (drop i blocks)) ∙ count-append (outer_past blocks i) (outer_left blocks i))
