-- One constant more.
use Rattle.std.proofs.Common.{◌≡◌, ℕ, ◌+◌, ◌<◌, ◌≤◌, true, false, List, [], ◌∷◌, ◌++◌, Some, None, Option, map, length, drop, get_or, refl, ap, sym, ◌∙◌, append_assoc}
use Rattle.std.specs.Prelude.{◌==◌, if◌then◌else◌}
use Rattle.std.proofs.lemmas.List.{drop_more, drop_all, map-append}
use Rattle.ir_core.specs.declared.module.Const.{Const}
use Rattle.bc_stream.specs.Blocks.{Contents, no_more, append}
use Rattle.bc_stream.proofs.BlockLemmas.{append-append}
use Rattle.bc_records.specs.ConstantRecords.{ConstantRecord, set_type, constant_entry}
use Rattle.bc_records.specs.Written.{listed, constant_record, set_before, written_constants}
use Rattle.bc_records.proofs.Numbers.{test_same}
use Rattle.bc_records.proofs.Steps.{alone, alone-append, append_none, one_step}

set_before-append : (last_type : Option ℕ) (ty : ℕ) (rest : List ConstantRecord) → set_before last_type ty rest ≡ set_before last_type ty [] ++ rest
set_before-append None ty rest = refl
set_before-append (Some last) ty rest =
    elim (last == ty) as (λ b. (if b then rest else set_type ty ∷ rest) ≡ (if b then [] else set_type ty ∷ []) ++ rest) [ true ↦ refl | false ↦ refl ]

-- the records of a constant are those that set its type, and its own
own_records : (last_type : Option ℕ) (ty : ℕ) (first : ConstantRecord) (rest : List ConstantRecord) →
    map constant_entry (set_before last_type ty (first ∷ rest)) ≡ map constant_entry (set_before last_type ty (first ∷ [])) ++ map constant_entry rest
own_records last_type ty first rest =
    ap (map constant_entry) (set_before-append last_type ty (first ∷ rest))
    ∙ (map-append constant_entry (set_before last_type ty []) (first ∷ rest)
    ∙ (sym (append_assoc (map constant_entry (set_before last_type ty [])) (constant_entry first ∷ []) (map constant_entry rest))
    ∙ ap (λ es. es ++ map constant_entry rest)
    (sym (map-append constant_entry (set_before last_type ty []) (first ∷ [])) ∙ ap (map constant_entry) (sym (set_before-append last_type ty (first ∷ []))))))

-- a type that is set already
pub kept : (old : Contents) (last_type : Option ℕ) (last ty : ℕ) → last_type ≡ Some last → last ≡ ty →
    old ≡ append old (listed (map constant_entry (set_before last_type ty [])) no_more)
kept old last_type last ty is same =
    sym (append_none old)
    ∙ ap (λ rs. append old (alone (map constant_entry rs))) (sym (ap (λ t. set_before t ty []) is ∙ test_same last ty [] (set_type ty ∷ []) same))

pub both : (old between new : Contents) (last_type : Option ℕ) (ty : ℕ) (own : ConstantRecord) →
    between ≡ append old (listed (map constant_entry (set_before last_type ty [])) no_more) →
    new ≡ append between (listed (constant_entry own ∷ []) no_more) →
    new ≡ append old (listed (map constant_entry (set_before last_type ty (own ∷ []))) no_more)
both old between new last_type ty own first second =
    second ∙ (ap (λ c. append c (alone (constant_entry own ∷ []))) first
    ∙ (append-append old (alone (map constant_entry (set_before last_type ty []))) (alone (constant_entry own ∷ []))
    ∙ ap (append old) (alone-append (map constant_entry (set_before last_type ty [])) (constant_entry own ∷ [])
    ∙ ap alone (sym (map-append constant_entry (set_before last_type ty []) (own ∷ [])) ∙ ap (map constant_entry) (sym (set_before-append last_type ty (own ∷ [])))))))

-- the records of the constants that are left
abbrev pub left : Option ℕ → List Const → Contents
left last_type constants = alone (map constant_entry (written_constants last_type constants))

pub constant_step : (constants : List Const) (i : ℕ) (d : Const) (last_type : Option ℕ) (old new whole : Contents) → i < length constants →
    new ≡ append old (listed (map constant_entry (set_before last_type (get_or constants i d).ty (constant_record (get_or constants i d).value ∷ []))) no_more) →
    append old (left last_type (drop i constants)) ≡ whole →
    append new (left (Some (get_or constants i d).ty) (drop (i + 1) constants)) ≡ whole
constant_step constants i d last_type old new whole below pushed so_far =
    let c : Const = get_or constants i d in
    let rest : List ConstantRecord = written_constants (Some c.ty) (drop (i + 1) constants) in
    one_step old new whole (map constant_entry (set_before last_type c.ty (constant_record c.value ∷ []))) (map constant_entry rest) (map constant_entry (written_constants last_type (drop i constants)))
    (ap (λ cs. map constant_entry (written_constants last_type cs)) (drop_more constants i d below) ∙ own_records last_type c.ty (constant_record c.value) rest)
    pushed so_far

pub constant_stop : (constants : List Const) (i : ℕ) (last_type : Option ℕ) (old whole : Contents) → length constants ≤ i →
    append old (left last_type (drop i constants)) ≡ whole → old ≡ whole
constant_stop constants i last_type old whole past so_far =
    sym (append_none old) ∙ (ap (λ cs. append old (left last_type cs)) (sym (drop_all i constants past)) ∙ so_far)
