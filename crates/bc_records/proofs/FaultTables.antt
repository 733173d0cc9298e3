-- Facts of the tables that the walks over blocks need.
use Rattle.std.proofs.Common.{◌≡◌, ℕ, suc, ◌+◌, Option, Some, [], ◌∷◌, ap, ◌∙◌, sym, add-one, add-zero}
use Rattle.bc_stream.specs.Blocks.{Contents}
use Rattle.bc_records.specs.declared.faults.fault.Fault.{Fault}
use Rattle.bc_records.specs.declared.faults.flat.Flat.{Flat}
use Rattle.bc_records.specs.declared.faults.flat.Flat.TheVariants.{Types, Constants, Metadata}
use Rattle.bc_records.specs.FaultSearch.{fault_at, first_fault, first_kind, or_else}
use Rattle.bc_records.specs.FlatTables.{flat_table_of}
use Rattle.bc_records.specs.RecordKinds.{Known}
use Rattle.bc_records.specs.RecordFaults.{misplaced, body_heads, body_inside, module_heads, module_inside}
use Rattle.bc_records.proofs.FaultWalk.{head_fault}

pub number-first : (number kind : ℕ) (id : ℕ) → misplaced id ≡ kind ∷ [] →
    fault_at (suc number + 0) 0 (first_kind (misplaced id)) ≡ Some (record { kind = kind; block = number + 1; at = 0 })
number-first number kind id is =
    ap (λ ks. fault_at (suc number + 0) 0 (first_kind ks)) is
    ∙ ap (λ n. fault_at n 0 (Some kind)) (add-zero (suc number) ∙ sym (add-one number))

-- any block in a block of records alone is at fault
pub flat-head : (known : Known) (flat : Flat) (before : Contents) (id number kind : ℕ) → misplaced id ≡ kind ∷ [] →
    head_fault (flat_table_of known flat) (suc number + 0) before id ≡ Some (record { kind = kind; block = number + 1; at = 0 })
flat-head known Types before id number kind is = number-first number kind id is
flat-head known Constants before id number kind is = number-first number kind id is
flat-head known Metadata before id number kind is = number-first number kind id is

-- the fault of a block in a body
abbrev pub part_fault : Known → (number id : ℕ) → Contents → Option Fault
part_fault known number id inner = or_else (fault_at number 0 (first_kind (body_heads id))) (first_fault (body_inside known id number inner))

-- the fault of a block in MODULE
abbrev pub module_part_fault : Known → (before : Contents) → (number id : ℕ) → Contents → Option Fault
module_part_fault known before number id inner = or_else (fault_at number 0 (first_kind (module_heads known before id))) (first_fault (module_inside known before id number inner))
