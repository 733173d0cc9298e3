-- The kinds of faults that records have, one table a block, as far as records are read so far.
--
-- 1 a needed block or record is missing; 2 a wrong number of operands; 3 a number that names nothing, that is above
-- its field, or that isn't the one that the table gives; 6 a record or block in a place where it can't stand; 7 a
-- character above 255; 8 a block, code or form of a record that isn't read yet.
use Rattle.std.specs.Prelude.{ℕ, zero, suc, ◌+◌, ◌/◌, ◌%◌, ◌^◌, ◌==◌, nat_le, nat_lt, Bool, true, false, not, ◌&&◌, ◌||◌, if◌then◌else◌, Option, None, Some, is_some, List, [], ◌∷◌, ◌++◌, length, drop, get_or, slice_get, option_and_then, flat_map}
use Rattle.std.specs.List.{list_all}
use Rattle.std.specs.Option.{option_map_or}
use lib.Pointwise.{pointwise}
use Rattle.bc_stream.specs.Blocks.{Contents}
use Rattle.bc_records.specs.Codes.{constants_block, metadata_block, types_block}
use Rattle.bc_records.specs.Entries.{Entry, entry, entries_in, blocks_in}
use Rattle.bc_records.specs.BodyRecords.{absolute}

abbrev pub code_of : Entry → ℕ
code_of (entry code operands) = code

abbrev pub operands_of : Entry → List ℕ
operands_of (entry code operands) = operands

-- an operand, where there are so many
abbrev pub operand : List ℕ → ℕ → ℕ
operand operands place = get_or operands place 0

-- the kind where the fact holds
abbrev pub kind_if : Bool → ℕ → List ℕ
kind_if holds kind = if holds then kind ∷ [] else []

abbrev pub kind_unless : Bool → ℕ → List ℕ
kind_unless holds kind = if holds then [] else kind ∷ []

-- facts of records

abbrev pub counts : List ℕ → ℕ → Bool
counts operands n = length operands == n

abbrev pub is_word : ℕ → Bool
is_word number = nat_lt number (2 ^ 32)

-- a number names one of so many things
abbrev pub names : (count number : ℕ) → Bool
names count number = nat_lt number count && is_word number

abbrev pub is_text : List ℕ → Bool
is_text operands = list_all (λ c. nat_lt c 256) operands

abbrev pub has_code : ℕ → List Entry → Bool
has_code code [] = false
has_code code (e ∷ es) = (code_of e == code) || has_code code es

abbrev pub count_code : ℕ → List Entry → ℕ
count_code code [] = 0
count_code code (e ∷ es) = if code_of e == code then suc (count_code code es) else count_code code es

abbrev pub first_has_code : ℕ → List Entry → Bool
first_has_code code [] = false
first_has_code code (e ∷ es) = code_of e == code

abbrev pub last_has_code : ℕ → List Entry → Bool
last_has_code code [] = false
last_has_code code (e ∷ []) = code_of e == code
last_has_code code (e ∷ next ∷ es) = last_has_code code (next ∷ es)

-- the first operand of the first record of a code
abbrev pub first_operand : ℕ → List Entry → Option ℕ
first_operand code [] = None
first_operand code (e ∷ es) = if code_of e == code then slice_get (operands_of e) 0 else first_operand code es

abbrev pub has_block : ℕ → Contents → Bool
has_block id block = nat_lt 0 (length (blocks_in id block))

-- what records say, faulty ones too

-- the records of the type table that are entries: all but NUMENTRY 1 and STRUCT_NAME 19, whatever their codes
abbrev pub is_type_entry : Entry → Bool
is_type_entry e = not (code_of e == 1) && not (code_of e == 19)

abbrev pub type_entries : List Entry → List Entry
type_entries [] = []
type_entries (e ∷ es) = if is_type_entry e then e ∷ type_entries es else type_entries es

-- NULL 2, UNDEF 3 and INTEGER 4 are constants
abbrev pub constants_in : List Entry → ℕ
constants_in es = count_code 2 es + (count_code 3 es + count_code 4 es)

-- STRING 1, VALUE 2 and NODE 3 are metadata
abbrev pub metadata_in : List Entry → ℕ
metadata_in es = count_code 1 es + (count_code 2 es + count_code 3 es)

-- FUNCTION 8
abbrev pub function_entries : List Entry → List (List ℕ)
function_entries [] = []
function_entries (e ∷ es) = if code_of e == 8 then operands_of e ∷ function_entries es else function_entries es

abbrev pub first_of : List Contents → List Entry
first_of [] = []
first_of (block ∷ blocks) = entries_in block

abbrev pub all_of : List Contents → List Entry
all_of blocks = flat_map entries_in blocks

-- What the block MODULE says: the entries of its type table and the operands of its functions as they stand, and
-- how many constants and metadata it has.
pub record Known : Type 0 where
  pub types : List Entry
  pub functions : List (List ℕ)
  pub constants : ℕ
  pub metas : ℕ

abbrev pub known_of : Contents → Known
known_of inner = record {
  types = type_entries (first_of (blocks_in types_block inner));
  functions = function_entries (entries_in inner);
  constants = constants_in (all_of (blocks_in constants_block inner));
  metas = metadata_in (all_of (blocks_in metadata_block inner));
}

abbrev pub module_value_count : Known → ℕ
module_value_count known = length known.functions + known.constants

-- the result and the parameters of an entry FUNCTION 21 of the type table
abbrev pub signature_in : List ℕ → Option (ℕ × List ℕ)
signature_in (marker ∷ result ∷ params) = Some (result, params)
signature_in _ = None

abbrev pub signature_of_entry : Entry → Option (ℕ × List ℕ)
signature_of_entry e = if code_of e == 21 then signature_in (operands_of e) else None

abbrev pub signature_at : Known → ℕ → Option (ℕ × List ℕ)
signature_at known ty = option_and_then signature_of_entry (slice_get known.types ty)

abbrev pub same_entry : Entry → Entry → Bool
same_entry a b = (code_of a == code_of b) && pointwise (λ x y. x == y) (operands_of a) (operands_of b)

abbrev pub has_entry : List Entry → Entry → Bool
has_entry [] wanted = false
has_entry (e ∷ es) wanted = same_entry e wanted || has_entry es wanted

-- an entry of the type table is the pointer to a type, in the space of functions
abbrev pub has_pointer_to : Known → ℕ → Bool
has_pointer_to known ty = has_entry known.types (entry 8 (ty ∷ 0 ∷ []))

abbrev pub same_signature : Option (ℕ × List ℕ) → Option (ℕ × List ℕ) → Bool
same_signature (Some a) (Some b) = (a.0 == b.0) && pointwise (λ x y. x == y) a.1 b.1
same_signature _ _ = false

-- two type numbers name the same function type
abbrev pub same_type : Known → (a b : ℕ) → Bool
same_type known a b = same_signature (signature_at known a) (signature_at known b)

-- the type number of the function that has a value number
abbrev pub function_type_at : Known → ℕ → Option ℕ
function_type_at known value = option_and_then (λ operands. slice_get operands 0) (slice_get known.functions value)

-- whether a function has a body
abbrev pub has_body : List ℕ → Bool
has_body operands = option_map_or (λ prototype. prototype == 0) (slice_get operands 2) false

abbrev pub with_bodies : List (List ℕ) → List (List ℕ)
with_bodies [] = []
with_bodies (f ∷ fs) = if has_body f then f ∷ with_bodies fs else with_bodies fs

-- TYPE_NEW, where the table has so many entries

abbrev pub type_kinds : (entries : ℕ) → (before : List Entry) → Entry → List ℕ
type_kinds entries before (entry code operands) =
    if code == 1 then kind_unless (counts operands 1) 2 ++ (kind_unless (operand operands 0 == entries) 3 ++ kind_if (has_code 1 before) 6)
    else if (code == 2) || (code == 16) then kind_unless (counts operands 0) 2
    else if code == 7 then kind_unless (counts operands 1) 2 ++ kind_unless (is_word (operand operands 0)) 3
    else if code == 8 then kind_unless (counts operands 2) 2 ++ kind_unless (names entries (operand operands 0) && is_word (operand operands 1)) 3
    else if code == 19 then kind_unless (is_text operands) 7
    else if code == 20 then kind_unless (nat_le 1 (length operands)) 2 ++ kind_unless ((operand operands 0 == 0) && list_all (names entries) (drop 1 operands)) 3
    else if code == 21 then kind_unless (nat_le 2 (length operands)) 2 ++ kind_unless ((operand operands 0 == 0) && list_all (names entries) (drop 1 operands)) 3
    else 8 ∷ []

-- CONSTANTS, where there are so many types: a type is set before the first constant

abbrev pub constant_kinds : (types : ℕ) → (before : List Entry) → Entry → List ℕ
constant_kinds types before (entry code operands) =
    if code == 1 then kind_unless (counts operands 1) 2 ++ kind_unless (nat_lt (operand operands 0) types) 3
    else if (code == 2) || (code == 3) then kind_unless (counts operands 0) 2 ++ kind_unless (has_code 1 before) 6
    else if code == 4 then kind_unless (counts operands 1) 2 ++ kind_unless (has_code 1 before) 6
    else 8 ∷ []

-- METADATA: NAME and NAMED_NODE stand directly beside one another

-- a part of a node is null, or names metadata by its number and 1
abbrev pub names_part : (metas part : ℕ) → Bool
names_part metas zero = true
names_part metas (suc id) = names metas id

abbrev pub metadata_kinds : Known → (before : List Entry) → Entry → (after : List Entry) → List ℕ
metadata_kinds known before (entry code operands) after =
    if code == 1 then kind_unless (is_text operands) 7
    else if code == 2 then kind_unless (counts operands 2) 2 ++ kind_unless (names (length known.types) (operand operands 0) && names (module_value_count known) (operand operands 1)) 3
    else if code == 3 then kind_unless (list_all (names_part known.metas) operands) 3
    else if code == 4 then kind_unless (first_has_code 10 after) 6 ++ kind_unless (is_text operands) 7
    else if code == 10 then kind_unless (list_all (names known.metas) operands) 3 ++ kind_unless (last_has_code 4 before) 6
    else 8 ∷ []

-- VALUE_SYMTAB, where `earlier` are the records before in all of these blocks

abbrev pub names_value : ℕ → List Entry → Bool
names_value value [] = false
names_value value (e ∷ es) = ((code_of e == 1) && (nat_lt 0 (length (operands_of e)) && (operand (operands_of e) 0 == value))) || names_value value es

abbrev pub symbol_kinds : (functions : ℕ) → (earlier : List Entry) → Entry → List ℕ
symbol_kinds functions earlier (entry code operands) =
    if code == 1 then kind_unless (nat_le 1 (length operands)) 2 ++ (kind_unless (nat_lt (operand operands 0) functions) 3
    ++ (kind_if (names_value (operand operands 0) earlier) 6 ++ kind_unless (is_text (drop 1 operands)) 7))
    else 8 ∷ []

-- FUNCTION: bodies

-- the numbers of a body: that of its first instruction's value, how many values are known in it, and how many
-- blocks are declared, where that is said
pub record Numbers : Type 0 where
  pub first : ℕ
  pub values : ℕ
  pub blocks : Option ℕ

-- a type number names a type of values: any but VOID 2
abbrev pub is_value_type_at : Known → ℕ → Bool
is_value_type_at known ty = option_map_or (λ e. not (code_of e == 2)) (slice_get known.types ty) false

-- the type of what a CALL calls: the function's, and where no function is called the stated one
abbrev pub called_type : Known → (next : ℕ) → List ℕ → Option ℕ
called_type known next operands =
    option_map_or (λ ty. Some ty) (function_type_at known (absolute next (operand operands 3))) (slice_get operands 2)

abbrev pub entry_has_value : Known → (next : ℕ) → Entry → Bool
entry_has_value known next (entry code operands) =
    if code == 34 then option_map_or (λ s. is_value_type_at known s.0) (option_and_then (signature_at known) (called_type known next operands)) false
    else false

-- the number of the next value after some records
abbrev pub next_after : Known → (next : ℕ) → List Entry → ℕ
next_after known next [] = next
next_after known next (e ∷ es) = next_after known (if entry_has_value known next e then suc next else next) es

abbrev pub parameters_of : Known → List ℕ → ℕ
parameters_of known function = option_map_or (λ s. length s.1) (option_and_then (signature_at known) (slice_get function 0)) 0

abbrev pub numbers_of : Known → (function : List ℕ) → Contents → Numbers
numbers_of known function block =
    let first : ℕ = module_value_count known + (parameters_of known function + constants_in (all_of (blocks_in constants_block block))) in
    record { first = first; values = next_after known first (entries_in block); blocks = first_operand 1 (entries_in block) }

-- an argument is a word that names a value
abbrev pub names_operand : (values next operand : ℕ) → Bool
names_operand values next operand = is_word operand && nat_lt (absolute next operand) values

-- the signature of the function that is called
abbrev pub called_signature : Known → (next : ℕ) → List ℕ → Option (ℕ × List ℕ)
called_signature known next operands = option_and_then (signature_at known) (function_type_at known (absolute next (operand operands 3)))

-- a CALL has as many operands as the function needs; a type follows a function operand that isn't defined yet
abbrev pub call_counts : Known → (next : ℕ) → List ℕ → Bool
call_counts known next operands =
    option_map_or (λ s. counts operands (4 + length s.1)) (called_signature known next operands)
    (if nat_le next (absolute next (operand operands 3)) then nat_le 5 (length operands) else nat_le 4 (length operands))

abbrev pub call_names : Known → (values next : ℕ) → List ℕ → Bool
call_names known values next operands =
    is_word (operand operands 3)
    && (is_some (called_signature known next operands)
    && (option_map_or (same_type known (operand operands 2)) (function_type_at known (absolute next (operand operands 3))) false
    && list_all (names_operand values next) (drop 4 operands)))

-- all declared blocks have ended, each by a RET 10
abbrev pub is_past : Option ℕ → (before : List Entry) → Bool
is_past blocks before = option_map_or (λ n. nat_le n (count_code 10 before)) blocks false

abbrev pub body_kinds : Known → Numbers → (before : List Entry) → Entry → List ℕ
body_kinds known numbers before (entry code operands) =
    let next : ℕ = next_after known numbers.first before in
    if code == 1 then kind_unless (counts operands 1) 2 ++ (kind_unless (is_word (operand operands 0)) 3 ++ kind_if (has_code 1 before) 6)
    else if code == 10 then kind_unless (counts operands 0) 2 ++ kind_if (is_past numbers.blocks before) 6
    else if code == 34 then kind_unless (call_counts known next operands) 2 ++ (kind_unless (call_names known numbers.values next operands) 3
    ++ (kind_if (is_past numbers.blocks before) 6 ++ kind_unless (operand operands 1 / 2 ^ 15 % 2 == 1) 8))
    else 8 ∷ []

-- MODULE

-- the type of a function is a function type, and its value's type is in the table
abbrev pub is_function_type : Known → ℕ → Bool
is_function_type known ty = is_word ty && (is_some (signature_at known ty) && has_pointer_to known ty)

abbrev pub module_kinds : Known → (before : List Entry) → Entry → List ℕ
module_kinds known before (entry code operands) =
    if code == 1 then kind_unless (counts operands 1) 2 ++ (kind_unless (operand operands 0 == 1) 3 ++ kind_if (has_code 1 before) 6)
    else if (code == 2) || (code == 3) then kind_if (has_code code before) 6 ++ kind_unless (is_text operands) 7
    else if code == 8 then kind_unless (nat_le 4 (length operands)) 2 ++ kind_unless (is_function_type known (operand operands 0) && nat_le (operand operands 2) 1) 3
    else 8 ∷ []
