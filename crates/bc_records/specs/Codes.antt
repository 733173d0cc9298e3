-- The ids of blocks (LLVM Bitcode File Format, "LLVM IR Blocks"). The codes of records stand in the table of each block.
use Rattle.std.specs.Prelude.{ℕ}

-- MODULE
abbrev pub module_block : ℕ
module_block = 8

-- CONSTANTS
abbrev pub constants_block : ℕ
constants_block = 11

-- FUNCTION
abbrev pub function_block : ℕ
function_block = 12

-- VALUE_SYMTAB
abbrev pub symbols_block : ℕ
symbols_block = 14

-- METADATA
abbrev pub metadata_block : ℕ
metadata_block = 15

-- TYPE_NEW
abbrev pub types_block : ℕ
types_block = 17
