-- A block of records alone that has no fault holds no block.
use Rattle.std.proofs.Common.{◌≡◌, ℕ, suc, ◌+◌, Bool, true, false, if◌then◌else◌, Option, None, Some, List, [], ◌∷◌, ◌++◌, length, refl}
use Rattle.bc_stream.specs.Blocks.{Contents, no_more, a_record, a_block, append}
use Rattle.bc_records.specs.Codes.{symbols_block}
use Rattle.bc_records.specs.declared.faults.fault.Fault.{Fault}
use Rattle.bc_records.specs.Entries.{Entry, entry, entries_in, blocks_in, block_count}
use Rattle.bc_records.specs.FaultSearch.{fault_at, first_fault, first_kind, or_else}
use Rattle.bc_records.specs.FaultSites.{sites_after}
use Rattle.bc_records.specs.RecordFaults.{flat_table, module_inside}
use Rattle.bc_records.specs.RecordKinds.{Known, all_of, has_code, kind_unless, type_kinds, constant_kinds, metadata_kinds, symbol_kinds}

pub second-none : (a b : Option Fault) → or_else a b ≡ None → b ≡ None
second-none None b none = none
second-none (Some fault) b none = absurd (cc)

-- any block in it is misplaced
some-kind : (known : Bool) (number : ℕ) (rest : Option Fault) → or_else (fault_at number 0 (first_kind (if known then 6 ∷ [] else 8 ∷ []))) rest ≡ None → ⊥
some-kind true number rest none = cc
some-kind false number rest none = cc

pub flat-none : (kinds : List Entry → Entry → List Entry → List ℕ) (ends : Contents → List ℕ) (number first : ℕ) (before rest : Contents) →
    first_fault (sites_after (flat_table kinds ends) number first before rest) ≡ None → block_count rest ≡ 0
flat-none kinds ends number first before no_more none = refl
flat-none kinds ends number first before (a_record code values rest) none =
    flat-none kinds ends number first (append before (a_record code values no_more)) rest
    (second-none (fault_at number (length (entries_in before)) (first_kind (kinds (entries_in before) (entry code values) (entries_in rest))))
    (first_fault (sites_after (flat_table kinds ends) number first (append before (a_record code values no_more)) rest)) none)
flat-none kinds ends number first before (a_block id inner rest) none =
    absurd (some-kind _ (first + block_count before)
    (first_fault (sites_after (flat_table kinds ends) number first (append before (a_block id inner no_more)) rest)) none)

module _ (known : Known) (before : Contents) (number : ℕ) (inner : Contents) where
  pub types-none : first_fault (module_inside known before 17 number inner) ≡ None → block_count inner ≡ 0
  types-none none = flat-none (λ earlier e after. type_kinds (length known.types) earlier e) (λ block. kind_unless (has_code 1 (entries_in block)) 1) number (suc number) no_more inner none

  pub constants-none : first_fault (module_inside known before 11 number inner) ≡ None → block_count inner ≡ 0
  constants-none none = flat-none (λ earlier e after. constant_kinds (length known.types) earlier e) (λ block. []) number (suc number) no_more inner none

  pub metadata-none : first_fault (module_inside known before 15 number inner) ≡ None → block_count inner ≡ 0
  metadata-none none = flat-none (metadata_kinds known) (λ block. []) number (suc number) no_more inner none

  pub symbols-none : first_fault (module_inside known before 14 number inner) ≡ None → block_count inner ≡ 0
  symbols-none none =
      flat-none (λ earlier e after. symbol_kinds (length known.functions) (all_of (blocks_in symbols_block before) ++ earlier) e) (λ block. []) number (suc number) no_more inner none
