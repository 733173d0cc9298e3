-- One instruction more, and one block more.
use Rattle.std.proofs.Common.{◌≡◌, ℕ, suc, ◌+◌, ◌<◌, ◌≤◌, true, false, List, [], ◌∷◌, ◌++◌, map, length, drop, get_or, refl, ap, sym, ◌∙◌, arith, append_assoc}
use Rattle.std.specs.Prelude.{flat_map, if◌then◌else◌}
use Rattle.std.proofs.lemmas.List.{drop_more, drop_all, map-append}
use Rattle.ir_core.specs.declared.instruction.Inst.{Inst}
use Rattle.ir_core.specs.declared.instruction.Block.{Block}
use Rattle.ir_core.specs.declared.module.Module.{Module}
use Rattle.ir_core.specs.Values.{has_value}
use Rattle.bc_stream.specs.Blocks.{Contents, append}
use Rattle.bc_records.specs.BodyRecords.{body_entry, next_value}
use Rattle.bc_records.specs.Written.{inst_records, written_code, value_after}
use Rattle.bc_records.proofs.Steps.{alone, append_none, one_step}

-- the records of the instructions that are left
abbrev pub left : Module → ℕ → List Inst → Contents
left m next insts = alone (map body_entry (written_code m next insts))

pub next_value-limit : (m : Module) (next : ℕ) (inst : Inst) → next_value m next inst ≤ next + 1
next_value-limit m next inst = elim (has_value m inst) as (λ b. (if b then suc next else next) ≤ next + 1) [ true ↦ omega arith | false ↦ omega arith ]

-- those of some instructions, and then those of others
code-append : (m : Module) (next : ℕ) (first second : List Inst) →
    written_code m next (first ++ second) ≡ written_code m next first ++ written_code m (value_after m next first) second
code-append m next [] second = refl
code-append m next (inst ∷ first) second =
    ap (λ rs. inst_records m next inst ++ rs) (code-append m (next_value m next inst) first second)
    ∙ sym (append_assoc (inst_records m next inst) (written_code m (next_value m next inst) first) (written_code m (value_after m (next_value m next inst) first) second))

module _ (m : Module) where
  pub inst_step : (insts : List Inst) (i : ℕ) (x : Inst) (next after : ℕ) (old new whole : Contents) → i < length insts → x ≡ get_or insts i x →
      after ≡ next_value m next x → new ≡ append old (alone (map body_entry (inst_records m next x))) →
      append old (left m next (drop i insts)) ≡ whole → append new (left m after (drop (i + 1) insts)) ≡ whole
  inst_step insts i x next after old new whole below is after_is pushed so_far =
      one_step old new whole (map body_entry (inst_records m next x)) (map body_entry (written_code m after (drop (i + 1) insts))) (map body_entry (written_code m next (drop i insts)))
      (ap (λ is. map body_entry (written_code m next is)) (drop_more insts i x below ∙ ap (λ y. y ∷ drop (i + 1) insts) (sym is))
      ∙ (map-append body_entry (inst_records m next x) (written_code m (next_value m next x) (drop (i + 1) insts))
      ∙ ap (λ n. map body_entry (inst_records m next x) ++ map body_entry (written_code m n (drop (i + 1) insts))) (sym after_is)))
      pushed so_far

  pub after_step : (insts : List Inst) (i : ℕ) (x : Inst) (next after whole : ℕ) → i < length insts → x ≡ get_or insts i x →
      after ≡ next_value m next x → value_after m next (drop i insts) ≡ whole → value_after m after (drop (i + 1) insts) ≡ whole
  after_step insts i x next after whole below is after_is so_far =
      ap (λ n. value_after m n (drop (i + 1) insts)) after_is
      ∙ (sym (ap (value_after m next) (drop_more insts i x below ∙ ap (λ y. y ∷ drop (i + 1) insts) (sym is))) ∙ so_far)

  pub inst_stop : (insts : List Inst) (i next : ℕ) (old whole : Contents) → length insts ≤ i → append old (left m next (drop i insts)) ≡ whole → old ≡ whole
  inst_stop insts i next old whole past so_far =
      sym (append_none old) ∙ (ap (λ is. append old (left m next is)) (sym (drop_all i insts past)) ∙ so_far)

  pub after_stop : (insts : List Inst) (i next whole : ℕ) → length insts ≤ i → value_after m next (drop i insts) ≡ whole → next ≡ whole
  after_stop insts i next whole past so_far = sym (ap (value_after m next) (drop_all i insts past)) ∙ so_far

  pub block_step : (blocks : List Block) (i : ℕ) (x : Block) (next after : ℕ) (old new whole : Contents) → i < length blocks → x ≡ get_or blocks i x →
      after ≡ value_after m next x.insts → new ≡ append old (left m next x.insts) →
      append old (left m next (flat_map (λ k. k.insts) (drop i blocks))) ≡ whole →
      append new (left m after (flat_map (λ k. k.insts) (drop (i + 1) blocks))) ≡ whole
  block_step blocks i x next after old new whole below is after_is pushed so_far =
      let rest : List Inst = flat_map (λ (k : Block). k.insts) (drop (i + 1) blocks) in
      one_step old new whole (map body_entry (written_code m next x.insts)) (map body_entry (written_code m after rest)) (map body_entry (written_code m next (flat_map (λ k. k.insts) (drop i blocks))))
      (ap (λ bs. map body_entry (written_code m next (flat_map (λ k. k.insts) bs))) (drop_more blocks i x below ∙ ap (λ y. y ∷ drop (i + 1) blocks) (sym is))
      ∙ (ap (map body_entry) (code-append m next x.insts rest)
      ∙ (map-append body_entry (written_code m next x.insts) (written_code m (value_after m next x.insts) rest)
      ∙ ap (λ n. map body_entry (written_code m next x.insts) ++ map body_entry (written_code m n rest)) (sym after_is))))
      pushed so_far

  pub block_stop : (blocks : List Block) (i next : ℕ) (old whole : Contents) → length blocks ≤ i →
      append old (left m next (flat_map (λ k. k.insts) (drop i blocks))) ≡ whole → old ≡ whole
  block_stop blocks i next old whole past so_far =
      sym (append_none old) ∙ (ap (λ bs. append old (left m next (flat_map (λ k. k.insts) bs))) (sym (drop_all i blocks past)) ∙ so_far)
