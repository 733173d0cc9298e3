-- The fault of a block list that records no module: the first place in the order of the stream that has a kind of
-- fault, with the least kind there.
use Rattle.std.specs.Prelude.{◌≡◌, ℕ, ◌==◌, nat_le, nat_lt, Bool, ◌&&◌, ◌||◌, if◌then◌else◌, List, [], ◌∷◌, ◌++◌, length, get_or, All}
use Rattle.ir_core.specs.declared.module.Module.{Module}
use Rattle.bc_stream.specs.Blocks.{Contents, no_more}
use Rattle.bc_records.specs.Codes.{module_block, constants_block, function_block, symbols_block, metadata_block, types_block}
use Rattle.bc_records.specs.Entries.{Entry, entries_in, blocks_in}
use Rattle.bc_records.specs.FaultSites.{Site, site, Table, sites, sites_after, IsFirst, IsFree}
use Rattle.bc_records.specs.RecordKinds.{Known, known_of, kind_if, kind_unless, has_code, has_block, all_of, type_kinds, constant_kinds, metadata_kinds, symbol_kinds, numbers_of, Numbers, body_kinds, module_kinds, with_bodies}
use Rattle.bc_records.specs.Records.{Recorded}

-- a block that can't stand where it does: a known one has kind 6, and the others aren't read yet
abbrev pub misplaced : ℕ → List ℕ
misplaced id =
    if (id == module_block) || ((id == constants_block) || ((id == function_block) || ((id == symbols_block) || ((id == metadata_block) || (id == types_block))))) then 6 ∷ []
    else 8 ∷ []

-- a block without blocks in it
abbrev pub flat_table : ((before : List Entry) → Entry → (after : List Entry) → List ℕ) → (Contents → List ℕ) → Table
flat_table kinds ends = record { records = kinds; heads = λ before id. misplaced id; ends = ends; inside = λ before id number inner. [] }

-- TYPE_NEW needs its number of entries
abbrev pub types_table : Known → Table
types_table known = flat_table (λ before e after. type_kinds (length known.types) before e) (λ block. kind_unless (has_code 1 (entries_in block)) 1)

abbrev pub constants_table : Known → Table
constants_table known = flat_table (λ before e after. constant_kinds (length known.types) before e) (λ block. [])

abbrev pub metadata_table : Known → Table
metadata_table known = flat_table (metadata_kinds known) (λ block. [])

-- VALUE_SYMTAB, after the records of earlier such blocks
abbrev pub symbols_table : Known → (earlier : List Entry) → Table
symbols_table known earlier = flat_table (λ before e after. symbol_kinds (length known.functions) (earlier ++ before) e) (λ block. [])

-- FUNCTION has constants; symbol tables and metadata in it aren't read. It needs its number of blocks.
abbrev pub body_heads : ℕ → List ℕ
body_heads id = if (id == constants_block) || ((id == symbols_block) || (id == metadata_block)) then [] else misplaced id

abbrev pub body_inside : Known → (id number : ℕ) → Contents → List Site
body_inside known id number inner = if id == constants_block then sites (constants_table known) number inner else []

abbrev pub body_table : Known → Numbers → Table
body_table known numbers = record {
  records = λ before e after. body_kinds known numbers before e;
  heads = λ before id. body_heads id;
  ends = λ block. kind_unless (has_code 1 (entries_in block)) 1;
  inside = λ before id number inner. body_inside known id number inner;
}

-- MODULE: one TYPE_NEW, a FUNCTION for each function with a body, and any number of the others

abbrev pub body_count : Known → ℕ
body_count known = length (with_bodies known.functions)

abbrev pub bodies_before : Contents → ℕ
bodies_before before = length (blocks_in function_block before)

abbrev pub module_heads : Known → (before : Contents) → (id : ℕ) → List ℕ
module_heads known before id =
    if (id == constants_block) || ((id == symbols_block) || (id == metadata_block)) then []
    else if id == types_block then kind_if (has_block types_block before) 6
    else if id == function_block then kind_unless (nat_lt (bodies_before before) (body_count known)) 6
    else misplaced id

abbrev pub module_inside : Known → (before : Contents) → (id number : ℕ) → Contents → List Site
module_inside known before id number inner =
    if id == types_block then sites (types_table known) number inner
    else if id == constants_block then sites (constants_table known) number inner
    else if id == metadata_block then sites (metadata_table known) number inner
    else if id == symbols_block then sites (symbols_table known (all_of (blocks_in symbols_block before))) number inner
    else if id == function_block then sites (body_table known (numbers_of known (get_or (with_bodies known.functions) (bodies_before before) []) inner)) number inner
    else []

-- MODULE needs VERSION 1, TRIPLE 2, DATALAYOUT 3, TYPE_NEW and the bodies
abbrev pub is_complete : Known → Contents → Bool
is_complete known block =
    has_code 1 (entries_in block) && (has_code 2 (entries_in block) && (has_code 3 (entries_in block)
    && (has_block types_block block && nat_le (body_count known) (bodies_before block))))

abbrev pub module_table : Known → Table
module_table known = record {
  records = λ before e after. module_kinds known before e;
  heads = module_heads known;
  ends = λ block. kind_unless (is_complete known block) 1;
  inside = module_inside known;
}

-- outside all blocks stands one MODULE

abbrev pub outer_heads : (before : Contents) → (id : ℕ) → List ℕ
outer_heads before id = if id == module_block then kind_if (has_block module_block before) 6 else misplaced id

abbrev pub outer_inside : (id number : ℕ) → Contents → List Site
outer_inside id number inner = if id == module_block then sites (module_table (known_of inner)) number inner else []

abbrev pub outer_table : Table
outer_table = record {
  records = λ before e after. [];
  heads = outer_heads;
  ends = λ blocks. [];
  inside = λ before id number inner. outer_inside id number inner;
}

-- all places of a block list in the order of the stream; a missing MODULE stands before all of them
abbrev pub record_sites : Contents → List Site
record_sites blocks = site 0 0 (kind_unless (has_block module_block blocks) 1) ∷ sites_after outer_table 0 0 no_more blocks

-- the fault of a block list
abbrev pub IsFault : (blocks : Contents) → (kind block at : ℕ) → Type 0
IsFault blocks kind block at = IsFirst (record_sites blocks) kind block at

-- A block list has at most one fault.
abbrev pub OneRecordFault : Type 0
OneRecordFault =
    (blocks : Contents) (kind block at other number place : ℕ) → IsFault blocks kind block at → IsFault blocks other number place →
    (kind ≡ other) × (block ≡ number) × (at ≡ place)

-- A block list that records a module has no fault.
abbrev pub NoRecordFault : Type 0
NoRecordFault = (blocks : Contents) (m : Module) → Recorded blocks m → All IsFree (record_sites blocks)
