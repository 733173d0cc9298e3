-- The records of the block MODULE, id 8 (LLVM Bitcode File Format, "MODULE_BLOCK Contents").
use Rattle.std.specs.Prelude.{ℕ, Option, None, Some, List, [], ◌∷◌}
use Rattle.ir_core.specs.declared.instruction.Body.{Body}
use Rattle.ir_core.specs.declared.module.Function.{Function}
use Rattle.bc_records.specs.Entries.{Entry, entry}

pub data ModuleRecord : Type 0 where
  version_record : ModuleRecord
  triple_record : (text : List ℕ) → ModuleRecord
  layout_record : (text : List ℕ) → ModuleRecord
  function_record : (ty convention prototype linkage : ℕ) (others : List ℕ) → ModuleRecord

-- VERSION 1 (relative operands), TRIPLE 2, DATALAYOUT 3, FUNCTION 8
abbrev pub module_entry : ModuleRecord → Entry
module_entry version_record = entry 1 (1 ∷ [])
module_entry (triple_record text) = entry 2 text
module_entry (layout_record text) = entry 3 text
module_entry (function_record ty convention prototype linkage others) = entry 8 (ty ∷ convention ∷ prototype ∷ linkage ∷ others)

abbrev pub versions : List ModuleRecord → List ℕ
versions [] = []
versions (version_record ∷ rest) = 1 ∷ versions rest
versions (_ ∷ rest) = versions rest

abbrev pub triples : List ModuleRecord → List (List ℕ)
triples [] = []
triples (triple_record text ∷ rest) = text ∷ triples rest
triples (_ ∷ rest) = triples rest

abbrev pub layouts : List ModuleRecord → List (List ℕ)
layouts [] = []
layouts (layout_record text ∷ rest) = text ∷ layouts rest
layouts (_ ∷ rest) = layouts rest

-- the type of each function, and 1 where it has no body
abbrev pub declarations : List ModuleRecord → List (ℕ × ℕ)
declarations [] = []
declarations (function_record ty convention prototype linkage others ∷ rest) = (ty, prototype) ∷ declarations rest
declarations (_ ∷ rest) = declarations rest

-- 1 where there is no body
abbrev pub prototype_of : Option Body → ℕ
prototype_of None = 1
prototype_of (Some body) = 0

abbrev pub declaration_of : Function → ℕ × ℕ
declaration_of f = (f.ty, prototype_of f.body)
