-- Blocks of metadata without a fault are recorded, and the metadata is sound and in range.
use Rattle.std.proofs.Common.{◌≡◌, ℕ, zero, suc, List, [], ◌∷◌, ◌++◌, map, length, refl, ap, sym, ◌∙◌, subst}
use Rattle.std.specs.Prelude.{true, false, ◌==◌, ◌&&◌, IfSome, All, flat_map}
use Rattle.std.specs.List.{list_all}
use Rattle.std.proofs.lemmas.Bool.{eqb-true, both_ways, and_parts}
use Rattle.std.proofs.lemmas.List.Elements.{All-nil, All-cons}
use Rattle.ir_core.specs.declared.module.Meta.{Meta}
use Rattle.ir_core.specs.declared.module.Meta.TheVariants.{Chars, Value, Node}
use Rattle.ir_core.specs.declared.module.Named.{Named}
use Rattle.ir_core.specs.Soundness.{IsSoundMeta, Names}
use Rattle.bc_stream.specs.Blocks.{Contents}
use Rattle.bc_records.specs.Entries.{Entry, entry, entries_in}
use Rattle.bc_records.specs.MetadataRecords.{MetadataRecord, string_metadata, value_metadata, node_metadata, named_metadata, metadata_entries, node_part, MetadataRecorded, metas_of, named_of}
use Rattle.bc_records.specs.Ranges.{MetaInRange, NamedInRange, PartInRange}
use Rattle.bc_records.specs.Read.{word, words, text, read_part, read_metadata}
use Rattle.bc_records.specs.RecordKinds.{Known, operand, counts, names, names_part, is_text, first_has_code, last_has_code, metadata_kinds, metadata_in, module_value_count, all_of}
use Rattle.bc_records.proofs.FreeSites.{FreeRecords}
use Rattle.bc_records.proofs.FreeMetadata.{SoundRecords, SoundMetas, SoundNamed, metadata_long}
use Rattle.bc_records.proofs.Tests.{Each, last_more}
use Rattle.bc_records.proofs.Told.{Plain, no_ids, flat_map_map, all_blocks_spelled, all_in_blocks, choose, some_kind, told_unless, told_two, told_text, told_name, told_names, word_same, words_same, text_same, two_operands}

-- parts of nodes

part_same : (metas part : ℕ) → names_part metas part ≡ true → read_part part ≡ part
part_same metas zero is = refl
part_same metas (suc id) is = ap suc (word_same id (told_name metas id is).1)

node_parts_same : (metas : ℕ) (parts : List ℕ) → list_all (names_part metas) parts ≡ true → map read_part parts ≡ parts
node_parts_same metas [] all = refl
node_parts_same metas (p ∷ ps) all =
    let told = and_parts (names_part metas p) (list_all (names_part metas) ps) all in
    ap (λ x. x ∷ map read_part ps) (part_same metas p told.0) ∙ ap (λ xs. p ∷ xs) (node_parts_same metas ps told.1)

part_told : (metas part : ℕ) → names_part metas part ≡ true → IfSome (node_part part) (Names metas) × PartInRange (node_part part)
part_told metas zero is = (tt, tt)
part_told metas (suc id) is = told_name metas id is

parts_sound : (metas : ℕ) (parts : List ℕ) → list_all (names_part metas) parts ≡ true → All (λ part. IfSome part (Names metas)) (map node_part parts)
parts_sound metas [] all = All-nil (λ part. IfSome part (Names metas))
parts_sound metas (p ∷ ps) all =
    let told = and_parts (names_part metas p) (list_all (names_part metas) ps) all in
    All-cons (λ part. IfSome part (Names metas)) (node_part p) (map node_part ps) (part_told metas p told.0).0 (parts_sound metas ps told.1)

parts_range : (metas : ℕ) (parts : List ℕ) → list_all (names_part metas) parts ≡ true → All PartInRange (map node_part parts)
parts_range metas [] all = All-nil PartInRange
parts_range metas (p ∷ ps) all =
    let told = and_parts (names_part metas p) (list_all (names_part metas) ps) all in
    All-cons PartInRange (node_part p) (map node_part ps) (part_told metas p told.0).1 (parts_range metas ps told.1)

-- records are spelled as they are read, where no name waits for its nodes

abbrev IsSpelled : (name : List ℕ) → List Entry → Type 0
IsSpelled name es = es ≡ flat_map metadata_entries (read_metadata name es)

abbrev Spelled : Known → List Entry → Type 0
Spelled k es = (before : List Entry) (name : List ℕ) → last_has_code 4 before ≡ false → FreeRecords (metadata_kinds k) before es → IsSpelled name es

-- the same after a name
abbrev SpelledNamed : Known → List Entry → Type 0
SpelledNamed k es = (before : List Entry) (name ops : List ℕ) → FreeRecords (metadata_kinds k) before (entry 4 ops ∷ es) → IsSpelled name (entry 4 ops ∷ es)

name_told : (k : Known) (before : List Entry) (ops : List ℕ) (after : List Entry) → metadata_kinds k before (entry 4 ops) after ≡ [] → (first_has_code 10 after ≡ true) × (is_text ops ≡ true)
name_told k before ops after free = told_two (first_has_code 10 after) (is_text ops) 6 7 free

no_nodes : (k : Known) → SpelledNamed k []
no_nodes k before name ops free = absurd (both_ways (first_has_code 10 []) refl (name_told k before ops [] free.0).0)

nodes : (k : Known) (ids : List ℕ) (es : List Entry) → Spelled k es → (before : List Entry) (name ops : List ℕ) → FreeRecords (metadata_kinds k) before (entry 4 ops ∷ entry 10 ids ∷ es) →
    IsSpelled name (entry 4 ops ∷ entry 10 ids ∷ es)
nodes k ids es later before name ops free =
    let b : List Entry = before ++ entry 4 ops ∷ [] in
    let told = told_two (list_all (names k.metas) ids) (last_has_code 4 b) 3 6 free.1.0 in
    let chars = text_same ops (told_text ops (name_told k before ops (entry 10 ids ∷ es) free.0).1) in
    let numbers = words_same ids (told_names k.metas ids told.0).1 in
    ap (λ xs. entry 4 xs ∷ entry 10 ids ∷ es) (sym chars)
    ∙ (
    ap (λ xs. entry 4 (text ops) ∷ entry 10 xs ∷ es) (sym numbers)
    ∙ ap (λ xs. entry 4 (text ops) ∷ entry 10 (words ids) ∷ xs) (later (b ++ entry 10 ids ∷ []) (text ops) (last_more 4 b (entry 10 ids)) free.1.1)
    )

nodes_next : (k : Known) (f : Entry) (es : List Entry) → Spelled k es → SpelledNamed k (f ∷ es)
nodes_next k (entry code ids) es later before name ops free =
    subst (λ c. FreeRecords (metadata_kinds k) before (entry 4 ops ∷ entry c ids ∷ es) → IsSpelled name (entry 4 ops ∷ entry c ids ∷ es))
    (sym (eqb-true code 10 (name_told k before ops (entry code ids ∷ es) free.0).0)) (nodes k ids es later before name ops) free

other_code : (k : Known) (before : List Entry) (ops : List ℕ) (after : List Entry) (code : ℕ) →
    (code == 1) ≡ false → (code == 2) ≡ false → (code == 3) ≡ false → (code == 4) ≡ false → (code == 10) ≡ false → metadata_kinds k before (entry code ops) after ≡ 8 ∷ []
other_code k before ops after code a b c d e = rw a (rw b (rw c (rw d (rw e refl))))

module _ (k : Known) (es : List Entry) (later : Spelled k es) (before : List Entry) (name ops : List ℕ) where
  abbrev Step : ℕ → Type 0
  Step code = FreeRecords (metadata_kinds k) before (entry code ops ∷ es) → IsSpelled name (entry code ops ∷ es)

  -- the records after one that isn't a name
  rest_spelled : (code : ℕ) → (code == 4) ≡ false → FreeRecords (metadata_kinds k) before (entry code ops ∷ es) → IsSpelled name es
  rest_spelled code other free = later (before ++ entry code ops ∷ []) name (last_more 4 before (entry code ops) ∙ other) free.1

  string_spelled : Step 1
  string_spelled free =
      ap (λ xs. entry 1 xs ∷ es) (sym (text_same ops (told_text ops (told_unless (is_text ops) 7 free.0)))) ∙ ap (λ xs. entry 1 (text ops) ∷ xs) (rest_spelled 1 refl free)

  value_spelled : Step 2
  value_spelled free =
      let ty : ℕ = operand ops 0 in
      let value : ℕ = operand ops 1 in
      let types : ℕ = length k.types in
      let told = told_two (counts ops 2) (names types ty && names (module_value_count k) value) 2 3 free.0 in
      let parts = and_parts (names types ty) (names (module_value_count k) value) told.1 in
      let same : ops ≡ word ty ∷ word value ∷ []
      = two_operands ops told.0
      ∙ (ap (λ x. x ∷ value ∷ []) (sym (word_same ty (told_name types ty parts.0).1)) ∙ ap (λ x. word ty ∷ x ∷ []) (sym (word_same value (told_name (module_value_count k) value parts.1).1))) in
      ap (λ xs. entry 2 xs ∷ es) same ∙ ap (λ xs. entry 2 (word ty ∷ word value ∷ []) ∷ xs) (rest_spelled 2 refl free)

  node_spelled : Step 3
  node_spelled free =
      ap (λ xs. entry 3 xs ∷ es) (sym (node_parts_same k.metas ops (told_unless (list_all (names_part k.metas) ops) 3 free.0)))
      ∙ ap (λ xs. entry 3 (map read_part ops) ∷ xs) (rest_spelled 3 refl free)

  step : (code : ℕ) → SpelledNamed k es → last_has_code 4 before ≡ false → Step code
  step code named unnamed =
      choose Step code 1 string_spelled (λ a.
      choose Step code 2 value_spelled (λ b.
      choose Step code 3 node_spelled (λ c.
      choose Step code 4 (named before name ops) (λ d.
      choose Step code 10 (λ free. absurd (both_ways (last_has_code 4 before) unnamed (told_two (list_all (names k.metas) ops) (last_has_code 4 before) 3 6 free.0).1)) (λ e free.
      some_kind 8 [] (sym (other_code k before ops es code a b c d e) ∙ free.0))))))

spelled : (k : Known) (es : List Entry) → Spelled k es
spelled k [] before name unnamed free = refl
spelled k (entry code ops ∷ []) before name unnamed free = step k [] (spelled k []) before name ops code (no_nodes k) unnamed free
spelled k (entry code ops ∷ f ∷ es) before name unnamed free =
    step k (f ∷ es) (spelled k (f ∷ es)) before name ops code (nodes_next k f es (spelled k es)) unnamed free

-- the numbers and characters in each record

records_told : (k : Known) (before : List Entry) (rs : List MetadataRecord) → FreeRecords (metadata_kinds k) before (flat_map metadata_entries rs) → SoundRecords k rs
records_told k before [] free = tt
records_told k before (string_metadata chars ∷ rs) free =
    (told_text chars (told_unless (is_text chars) 7 free.0), records_told k (before ++ entry 1 chars ∷ []) rs free.1)
records_told k before (value_metadata ty value ∷ rs) free =
    let types : ℕ = length k.types in
    let values : ℕ = module_value_count k in
    let parts = and_parts (names types ty) (names values value) (told_unless (names types ty && names values value) 3 free.0) in
    let first = told_name types ty parts.0 in
    let second = told_name values value parts.1 in
    ((first.0, first.1, second.0, second.1), records_told k (before ++ entry 2 (ty ∷ value ∷ []) ∷ []) rs free.1)
records_told k before (node_metadata parts ∷ rs) free =
    (told_unless (list_all (names_part k.metas) parts) 3 free.0, records_told k (before ++ entry 3 parts ∷ []) rs free.1)
records_told k before (named_metadata name ids ∷ rs) free =
    let b : List Entry = before ++ entry 4 name ∷ [] in
    let told = told_two (list_all (names k.metas) ids) (last_has_code 4 b) 3 6 free.1.0 in
    let numbers = told_names k.metas ids told.0 in
    ((told_text name (told_unless (is_text name) 7 free.0), numbers.0, numbers.1), records_told k (b ++ entry 10 ids ∷ []) rs free.1.1)

-- the metadata that records say

abbrev IsSound : Known → Meta → Type 0
IsSound k = IsSoundMeta (length k.types) (module_value_count k) k.metas

abbrev AreNames : Known → Named → Type 0
AreNames k n = All (Names k.metas) n.ids

abbrev named : (name ids : List ℕ) → Named
named name ids = record { name = name; ids = ids }

metas_told : (k : Known) (rs : List MetadataRecord) → SoundRecords k rs → SoundMetas k (metas_of rs)
metas_told k [] sound = (All-nil (IsSound k), All-nil MetaInRange)
metas_told k (string_metadata chars ∷ rs) sound =
    let rest = metas_told k rs sound.1 in
    (All-cons (IsSound k) (Chars chars) (metas_of rs) tt rest.0, All-cons MetaInRange (Chars chars) (metas_of rs) sound.0 rest.1)
metas_told k (value_metadata ty value ∷ rs) sound =
    let rest = metas_told k rs sound.1 in
    (All-cons (IsSound k) (Value ty value) (metas_of rs) (sound.0.0, sound.0.2) rest.0, All-cons MetaInRange (Value ty value) (metas_of rs) (sound.0.1, sound.0.3) rest.1)
metas_told k (node_metadata parts ∷ rs) sound =
    let rest = metas_told k rs sound.1 in (
      All-cons (IsSound k) (Node (map node_part parts)) (metas_of rs) (parts_sound k.metas parts sound.0) rest.0,
      All-cons MetaInRange (Node (map node_part parts)) (metas_of rs) (parts_range k.metas parts sound.0) rest.1,
    )
metas_told k (named_metadata name ids ∷ rs) sound = metas_told k rs sound.1

names_told : (k : Known) (rs : List MetadataRecord) → SoundRecords k rs → SoundNamed k (named_of rs)
names_told k [] sound = (All-nil (AreNames k), All-nil NamedInRange)
names_told k (string_metadata chars ∷ rs) sound = names_told k rs sound.1
names_told k (value_metadata ty value ∷ rs) sound = names_told k rs sound.1
names_told k (node_metadata parts ∷ rs) sound = names_told k rs sound.1
names_told k (named_metadata name ids ∷ rs) sound =
    let rest = names_told k rs sound.1 in (
      All-cons (AreNames k) (named name ids) (named_of rs) sound.0.1 rest.0,
      All-cons NamedInRange (named name ids) (named_of rs) (sound.0.0, sound.0.2) rest.1,
    )

-- all blocks

abbrev records_of : Contents → List MetadataRecord
records_of block = read_metadata [] (entries_in block)

abbrev metas_in_block : Contents → List Meta
metas_in_block block = metas_of (records_of block)

abbrev named_in_block : Contents → List Named
named_in_block block = named_of (records_of block)

block_spelled : (k : Known) (block : Contents) → FreeRecords (metadata_kinds k) [] (entries_in block) → entries_in block ≡ flat_map metadata_entries (records_of block)
block_spelled k block free = spelled k (entries_in block) [] [] refl free

block_told : (k : Known) (block : Contents) → FreeRecords (metadata_kinds k) [] (entries_in block) → SoundRecords k (records_of block)
block_told k block free = records_told k [] (records_of block) (subst (FreeRecords (metadata_kinds k) []) (block_spelled k block free) free)

-- what is told of blocks of metadata and the metadata that they say
pub record MetadataTold (known : Known) (blocks : List Contents) (metas : List Meta) (named : List Named) : Type 0 where
  pub recorded : MetadataRecorded blocks metas named
  pub sound : All (IsSoundMeta (length known.types) (module_value_count known) known.metas) metas
  pub range : All MetaInRange metas
  pub named_sound : All (λ (n : Named). All (Names known.metas) n.ids) named
  pub named_range : All NamedInRange named
  pub long : metadata_in (all_of blocks) ≡ length metas

pub metadata_told : (known : Known) (blocks : List Contents) → Each (Plain (metadata_kinds known)) blocks →
    MetadataTold known blocks (flat_map (λ block. metas_of (read_metadata [] (entries_in block))) blocks) (flat_map (λ block. named_of (read_metadata [] (entries_in block))) blocks)
metadata_told known blocks plain =
    let kinds = metadata_kinds known in
    let same : map entries_in blocks ≡ map (flat_map metadata_entries) (map records_of blocks)
    = all_blocks_spelled kinds (flat_map metadata_entries) records_of (block_spelled known) blocks plain in
    let numbered : flat_map metas_of (map records_of blocks) ≡ flat_map metas_in_block blocks = flat_map_map records_of metas_of blocks in
    record {
      recorded = record {
        records = map records_of blocks;
        spelled = same;
        no_blocks = no_ids kinds blocks plain;
        numbered = numbered;
        names = flat_map_map records_of named_of blocks;
      };
      sound = all_in_blocks (IsSound known) kinds metas_in_block (λ b free. (metas_told known (records_of b) (block_told known b free)).0) blocks plain;
      range = all_in_blocks MetaInRange kinds metas_in_block (λ b free. (metas_told known (records_of b) (block_told known b free)).1) blocks plain;
      named_sound = all_in_blocks (AreNames known) kinds named_in_block (λ b free. (names_told known (records_of b) (block_told known b free)).0) blocks plain;
      named_range = all_in_blocks NamedInRange kinds named_in_block (λ b free. (names_told known (records_of b) (block_told known b free)).1) blocks plain;
      long = metadata_long blocks (map records_of blocks) same ∙ ap length numbered;
    }
