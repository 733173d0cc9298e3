-- The container that holds a shader's bitcode (LLVM, "DirectX Container": "File Header", "Part Data",
-- "DXIL Part"). All numbers in it are little-endian.
--
-- Header: `DXBC`, 16 bytes of digest, two version numbers of 16 bits, the total size and the number of
-- parts in 32 bits each, and for each part the place where it stands. A part is a name of four bytes,
-- the size of its body, and the body. The body of the part `DXIL`: the program version, the size of the
-- body in words, `DXIL` again, the version of DXIL, the place of the bitcode from that name on, the
-- size of the bitcode, and the bitcode.
use Rattle.std.specs.Prelude.{◌≡◌, ◌≢◌, ℕ, ◌+◌, ◌*◌, ◌/◌, ◌%◌, ◌<◌, ◌≤◌, Bool, if◌then◌else◌, List, [], ◌∷◌, ◌++◌, length, take, drop, replicate}
use Rattle.byteorder.specs.Endian.{little_bytes, little_number}

-- the letters `DXBC`, by which a container is known
abbrev pub container_name : List ℕ
container_name = 68 ∷ 88 ∷ 66 ∷ 67 ∷ []

-- the letters `DXIL`, which name the part with the bitcode and stand in front of the bitcode
abbrev pub program_name : List ℕ
program_name = 68 ∷ 88 ∷ 73 ∷ 76 ∷ []

-- the number in the 16 bits from a place on, where a byte past the end counts as 0
unfoldable pub half_at : List ℕ → ℕ → ℕ
half_at bytes at = little_number 2 (drop at bytes)

-- the number in the 32 bits from a place on, where a byte past the end counts as 0
unfoldable pub word_at : List ℕ → ℕ → ℕ
word_at bytes at = little_number 4 (drop at bytes)

-- the four bytes from a place on
unfoldable pub name_at : List ℕ → ℕ → List ℕ
name_at bytes at = take 4 (drop at bytes)

-- how many parts there are
abbrev pub part_count : List ℕ → ℕ
part_count bytes = word_at bytes 28

-- where part k stands
abbrev pub part_place : List ℕ → ℕ → ℕ
part_place bytes k = word_at bytes (32 + 4 * k)

-- how many bytes the body has of the part that stands at a place
abbrev pub body_size : List ℕ → ℕ → ℕ
body_size bytes part = word_at bytes (part + 4)

-- part k is there, and its name is `DXIL`
pub record IsProgram (bytes : List ℕ) (k : ℕ) : Type 0 where
  pub counted : k < part_count bytes
  pub named : name_at bytes (part_place bytes k) ≡ program_name

-- part k is the one part with the name `DXIL`
pub record IsOnlyProgram (bytes : List ℕ) (k : ℕ) : Type 0 where
  pub program : IsProgram bytes k
  pub only : (j : ℕ) → IsProgram bytes j → j ≡ k

-- the one part with the name `DXIL` stands at this place
pub record StandsAt (bytes : List ℕ) (part : ℕ) : Type 0 where
  pub index : ℕ
  pub only : IsOnlyProgram bytes index
  pub place-is : part ≡ part_place bytes index

-- the fields of the part `DXIL` that stands at a place

-- the program version: the kind of shader from bit 16 up, the major version in the bits 4 to 15, the
-- minor version in the bits 0 to 3
abbrev pub program_version : List ℕ → ℕ → ℕ
program_version bytes part = word_at bytes (part + 8)

abbrev pub shader_kind : List ℕ → ℕ → ℕ
shader_kind bytes part = program_version bytes part / 65536

abbrev pub major_version : List ℕ → ℕ → ℕ
major_version bytes part = program_version bytes part / 16 % 4096

abbrev pub minor_version : List ℕ → ℕ → ℕ
minor_version bytes part = program_version bytes part % 16

-- the size of the body, in words of 32 bits
abbrev pub words_size : List ℕ → ℕ → ℕ
words_size bytes part = word_at bytes (part + 12)

-- how far the bitcode stands from the second name on
abbrev pub bitcode_place : List ℕ → ℕ → ℕ
bitcode_place bytes part = word_at bytes (part + 24)

abbrev pub bitcode_size : List ℕ → ℕ → ℕ
bitcode_size bytes part = word_at bytes (part + 28)

abbrev pub bitcode_at : List ℕ → ℕ → List ℕ
bitcode_at bytes part = take (bitcode_size bytes part) (drop (part + 32) bytes)

-- what can be wrong in the part `DXIL` that stands at a place, and the place of the field: a body that
-- has no room for the fields, no compute shader of model 6, more words than the body, another name,
-- a bitcode that doesn't follow the fields, or one that passes the end of the body
pub data ProgramFault (bytes : List ℕ) (part : ℕ) : (offset : ℕ) → Type 0 where
  short_body : body_size bytes part < 24 → ProgramFault bytes part part
  other_shader : ¬ ((shader_kind bytes part ≡ 5) × (major_version bytes part ≡ 6)) → ProgramFault bytes part (part + 8)
  many_words : body_size bytes part < 4 * words_size bytes part → ProgramFault bytes part (part + 12)
  other_name : name_at bytes (part + 16) ≢ program_name → ProgramFault bytes part (part + 16)
  bitcode_elsewhere : bitcode_place bytes part ≢ 16 → ProgramFault bytes part (part + 24)
  long_bitcode : body_size bytes part < 24 + bitcode_size bytes part → ProgramFault bytes part (part + 28)

-- the fault of the first field that has one, by its place
pub record FirstProgramFault (bytes : List ℕ) (part offset : ℕ) : Type 0 where
  pub holds : ProgramFault bytes part offset
  pub nearest : (o : ℕ) → ProgramFault bytes part o → offset ≤ o

-- what can be wrong in a container, by its kind and its place:
-- 1 no room for a header, at the end; 2 another name; 3 other version numbers than 1 and 0; 4 another
-- total size than the length; 5 no room for the places of the parts; 6 a part that passes the end, at
-- its entry among the places (a size that stands past the end is one too); 7 no part or several with
-- the name `DXIL`; 8 a fault of such a part
pub data HasFault (bytes : List ℕ) : (kind offset : ℕ) → Type 0 where
  short_header : length bytes < 32 → HasFault bytes 1 (length bytes)
  no_container : name_at bytes 0 ≢ container_name → HasFault bytes 2 0
  other_version : ¬ ((half_at bytes 20 ≡ 1) × (half_at bytes 22 ≡ 0)) → HasFault bytes 3 20
  other_size : word_at bytes 24 ≢ length bytes → HasFault bytes 4 24
  many_parts : length bytes < 32 + 4 * part_count bytes → HasFault bytes 5 28
  long_part : (k : ℕ) → k < part_count bytes → length bytes < part_place bytes k + 8 + body_size bytes (part_place bytes k) → HasFault bytes 6 (32 + 4 * k)
  no_only_program : ((k : ℕ) → ¬ IsOnlyProgram bytes k) → HasFault bytes 7 28
  program_fault : (k : ℕ) → IsProgram bytes k → (offset : ℕ) → ProgramFault bytes (part_place bytes k) offset → HasFault bytes 8 offset

-- each fault is of this kind or of a later one
abbrev pub NoFaultBelow : List ℕ → ℕ → Type 0
NoFaultBelow bytes kind = (k o : ℕ) → HasFault bytes k o → kind ≤ k

-- the first fault: no other is of an earlier kind, or of its kind at an earlier place
pub record FaultIs (bytes : List ℕ) (kind offset : ℕ) : Type 0 where
  pub holds : HasFault bytes kind offset
  pub first : NoFaultBelow bytes kind
  pub nearest : (o : ℕ) → HasFault bytes kind o → offset ≤ o

-- the bytes have no fault, and this is the bitcode of their part `DXIL`, with its versions
pub record Contained (bytes bitcode : List ℕ) (major minor : ℕ) : Type 0 where
  pub faultless : (kind offset : ℕ) → ¬ HasFault bytes kind offset
  pub part : ℕ
  pub program : IsProgram bytes part
  pub bitcode-is : bitcode ≡ bitcode_at bytes (part_place bytes part)
  pub major-is : major ≡ major_version bytes (part_place bytes part)
  pub minor-is : minor ≡ minor_version bytes (part_place bytes part)

-- a part, from its name and its body
abbrev pub written_part : List ℕ → List ℕ → List ℕ
written_part name body = name ++ little_bytes 4 (length body) ++ body

-- `SFI0`: the features that the shader needs, in 64 bits, of which bit 14 is wave operations
abbrev pub features_part : Bool → List ℕ
features_part waves =
    written_part (83 ∷ 70 ∷ 73 ∷ 48 ∷ []) (little_bytes 8 (if waves then 16384 else 0))

-- a signature without elements: their number, and the place where they would begin
abbrev pub no_elements : List ℕ
no_elements = little_bytes 4 0 ++ little_bytes 4 8

-- `ISG1`: the inputs, which a compute shader has none of
abbrev pub inputs_part : List ℕ
inputs_part = written_part (73 ∷ 83 ∷ 71 ∷ 49 ∷ []) no_elements

-- `OSG1`: the outputs, which a compute shader has none of
abbrev pub outputs_part : List ℕ
outputs_part = written_part (79 ∷ 83 ∷ 71 ∷ 49 ∷ []) no_elements

-- the body of `DXIL`: a compute shader, 5, of model 6 with a minor version, and DXIL 1 with the same one
abbrev pub program_body : List ℕ → ℕ → List ℕ
program_body bitcode minor =
    little_bytes 4 (5 * 65536 + 6 * 16 + minor)
    ++ little_bytes 4 ((24 + length bitcode) / 4)
    ++ program_name
    ++ little_bytes 4 (256 + minor)
    ++ little_bytes 4 16
    ++ little_bytes 4 (length bitcode)
    ++ bitcode

-- the header in front of four parts, for a bitcode of so many bytes: a digest of zeros, the versions 1
-- and 0, the total size, and where the parts stand
abbrev pub written_header : ℕ → List ℕ
written_header size =
    container_name
    ++ replicate 16 0
    ++ little_bytes 2 1
    ++ little_bytes 2 0
    ++ little_bytes 4 (128 + size)
    ++ little_bytes 4 4
    ++ little_bytes 4 48
    ++ little_bytes 4 64
    ++ little_bytes 4 80
    ++ little_bytes 4 96

-- the container that is written: the header, and the four parts one after the other
abbrev pub written_form : List ℕ → ℕ → Bool → List ℕ
written_form bitcode minor waves =
    written_header (length bitcode)
    ++ features_part waves
    ++ inputs_part
    ++ outputs_part
    ++ written_part program_name (program_body bitcode minor)
