-- Blocks that hold metadata have no fault.
use Rattle.std.proofs.Common.{◌≡◌, ℕ, zero, suc, ◌<◌, List, [], ◌∷◌, ◌++◌, map, length, refl, ap, sym, ◌∙◌, subst, arith}
use Rattle.std.specs.Prelude.{true, IfSome, ◌&&◌, All, flat_map}
use Rattle.std.specs.List.{list_all}
use Rattle.std.proofs.lemmas.List.{length-append}
use Rattle.std.proofs.lemmas.List.Elements.{All-head, All-tail}
use Rattle.ir_core.specs.declared.module.Meta.{Meta}
use Rattle.ir_core.specs.declared.module.Meta.TheVariants.{Chars, Value, Node}
use Rattle.ir_core.specs.declared.module.Named.{Named}
use Rattle.ir_core.specs.Soundness.{IsSoundMeta, Names}
use Rattle.bc_stream.specs.Blocks.{Contents}
use Rattle.bc_records.specs.Entries.{Entry, entry, entries_in, block_ids, IsWord, IsText}
use Rattle.bc_records.specs.MetadataRecords.{MetadataRecord, string_metadata, value_metadata, node_metadata, named_metadata, metadata_entries, node_part, metas_of, named_of}
use Rattle.bc_records.specs.Ranges.{MetaInRange, NamedInRange, PartInRange}
use Rattle.bc_records.specs.FaultSites.{IsFree, sites}
use Rattle.bc_records.specs.RecordKinds.{Known, kind_unless, names, names_part, is_text, last_has_code, metadata_kinds, metadata_in, module_value_count, all_of}
use Rattle.bc_records.specs.RecordFaults.{metadata_table}
use Rattle.bc_records.proofs.BodiesOnce.{parts_same}
use Rattle.bc_records.proofs.FreeSites.{FreeRecords, free_flat}
use Rattle.bc_records.proofs.Tests.{both, unless, no_kinds, text_passes, name_passes, names_pass, last_more, Each, both_none, all_left, all_right, count_more}

-- the numbers and characters in records
abbrev pub SoundRecord : Known → MetadataRecord → Type 0
SoundRecord k (string_metadata text) = IsText text
SoundRecord k (value_metadata ty value) = (ty < length k.types) × (IsWord ty) × (value < module_value_count k) × IsWord value
SoundRecord k (node_metadata parts) = list_all (names_part k.metas) parts ≡ true
SoundRecord k (named_metadata name ids) = IsText name × All (λ i. i < k.metas) ids × All IsWord ids

abbrev pub SoundRecords : Known → List MetadataRecord → Type 0
SoundRecords k [] = Unit {0}
SoundRecords k (r ∷ rs) = SoundRecord k r × SoundRecords k rs

part_passes : (metas part : ℕ) → IfSome (node_part part) (Names metas) → IfSome (node_part part) IsWord → names_part metas part ≡ true
part_passes metas zero sound range = refl
part_passes metas (suc id) sound range = name_passes metas id sound range

parts_pass : (metas : ℕ) (parts : List ℕ) → All (λ part. IfSome part (Names metas)) (map node_part parts) → All PartInRange (map node_part parts) → list_all (names_part metas) parts ≡ true
parts_pass metas [] sound range = refl
parts_pass metas (p ∷ ps) sound range =
    both (names_part metas p) (list_all (names_part metas) ps)
    (part_passes metas p (All-head (λ part. IfSome part (Names metas)) (node_part p) (map node_part ps) sound) (All-head PartInRange (node_part p) (map node_part ps) range))
    (parts_pass metas ps (All-tail (λ part. IfSome part (Names metas)) (node_part p) (map node_part ps) sound) (All-tail PartInRange (node_part p) (map node_part ps) range))

-- every piece of metadata and every named one is sound and in range
abbrev pub SoundMetas : Known → List Meta → Type 0
SoundMetas k metas = All (IsSoundMeta (length k.types) (module_value_count k) k.metas) metas × All MetaInRange metas

abbrev pub SoundNamed : Known → List Named → Type 0
SoundNamed k named = All (λ (n : Named). All (Names k.metas) n.ids) named × All NamedInRange named

metas_tail : (k : Known) (x : Meta) (xs : List Meta) → SoundMetas k (x ∷ xs) → SoundMetas k xs
metas_tail k x xs s = (All-tail (IsSoundMeta (length k.types) (module_value_count k) k.metas) x xs s.0, All-tail MetaInRange x xs s.1)

sound_records : (k : Known) (rs : List MetadataRecord) → SoundMetas k (metas_of rs) → SoundNamed k (named_of rs) → SoundRecords k rs
sound_records k [] metas named = tt
sound_records k (string_metadata text ∷ rs) metas named =
    (All-head MetaInRange (Chars text) (metas_of rs) metas.1, sound_records k rs (metas_tail k (Chars text) (metas_of rs) metas) named)
sound_records k (value_metadata ty value ∷ rs) metas named =
    let own : Meta = Value ty value in
    let sound = All-head (IsSoundMeta (length k.types) (module_value_count k) k.metas) own (metas_of rs) metas.0 in
    let range = All-head MetaInRange own (metas_of rs) metas.1 in
    ((sound.0, range.0, sound.1, range.1), sound_records k rs (metas_tail k own (metas_of rs) metas) named)
sound_records k (node_metadata parts ∷ rs) metas named =
    let own : Meta = Node (map node_part parts) in (
      parts_pass k.metas parts (All-head (IsSoundMeta (length k.types) (module_value_count k) k.metas) own (metas_of rs) metas.0) (All-head MetaInRange own (metas_of rs) metas.1),
      sound_records k rs (metas_tail k own (metas_of rs) metas) named,
    )
sound_records k (named_metadata name ids ∷ rs) metas named =
    let own : Named = record { name = name; ids = ids } in
    let range = All-head NamedInRange own (named_of rs) named.1 in (
      (range.0, All-head (λ (n : Named). All (Names k.metas) n.ids) own (named_of rs) named.0, range.1),
      sound_records k rs metas (All-tail (λ (n : Named). All (Names k.metas) n.ids) own (named_of rs) named.0, All-tail NamedInRange own (named_of rs) named.1),
    )

all_free : (k : Known) (before : List Entry) (rs : List MetadataRecord) → SoundRecords k rs → FreeRecords (metadata_kinds k) before (flat_map metadata_entries rs)
all_free k before [] sound = tt
all_free k before (string_metadata text ∷ rs) sound = (unless (is_text text) 7 (text_passes text sound.0), all_free k (before ++ entry 1 text ∷ []) rs sound.1)
all_free k before (value_metadata ty value ∷ rs) sound =
    let s = sound.0 in (
      unless (names (length k.types) ty && names (module_value_count k) value) 3
          (both (names (length k.types) ty) (names (module_value_count k) value) (name_passes (length k.types) ty s.0 s.1) (name_passes (module_value_count k) value s.2 s.3)),
      all_free k (before ++ entry 2 (ty ∷ value ∷ []) ∷ []) rs sound.1,
    )
all_free k before (node_metadata parts ∷ rs) sound = (unless (list_all (names_part k.metas) parts) 3 sound.0, all_free k (before ++ entry 3 parts ∷ []) rs sound.1)
all_free k before (named_metadata name ids ∷ rs) sound =
    let s = sound.0 in (
      unless (is_text name) 7 (text_passes name s.0),
      (
        no_kinds (kind_unless (list_all (names k.metas) ids) 3) (kind_unless (last_has_code 4 (before ++ entry 4 name ∷ [])) 6)
            (unless (list_all (names k.metas) ids) 3 (names_pass k.metas ids s.1 s.2))
            (unless (last_has_code 4 (before ++ entry 4 name ∷ [])) 6 (last_more 4 before (entry 4 name))),
        all_free k ((before ++ entry 4 name ∷ []) ++ entry 10 ids ∷ []) rs sound.1,
      ),
    )

-- each block has no fault, whatever its number
pub metadata_free : (known : Known) (blocks : List Contents) (records : List (List MetadataRecord)) →
    map entries_in blocks ≡ map (flat_map metadata_entries) records → flat_map block_ids blocks ≡ [] →
    SoundMetas known (flat_map metas_of records) → SoundNamed known (flat_map named_of records) →
    Each (λ block. (number : ℕ) → All IsFree (sites (metadata_table known) number block)) blocks
metadata_free known [] records spelled none metas named = tt
metadata_free known (b ∷ bs) [] spelled none metas named = absurd (omega (arith, ap length spelled))
metadata_free known (b ∷ bs) (r ∷ rs) spelled none metas named =
    let same = parts_same (entries_in b) (flat_map metadata_entries r) (map entries_in bs) (map (flat_map metadata_entries) rs) spelled in
    let apart = both_none (block_ids b) (flat_map block_ids bs) none in
    let P = IsSoundMeta (length known.types) (module_value_count known) known.metas in
    let Q = λ (n : Named). All (Names known.metas) n.ids in
    let more = flat_map metas_of rs in
    let others = flat_map named_of rs in
    let own : FreeRecords (metadata_kinds known) [] (flat_map metadata_entries r)
    = all_free known [] r (sound_records known r (all_left P (metas_of r) more metas.0, all_left MetaInRange (metas_of r) more metas.1)
    (all_left Q (named_of r) others named.0, all_left NamedInRange (named_of r) others named.1)) in (
      (λ number. free_flat (metadata_table known) number b apart.0 (subst (FreeRecords (metadata_kinds known) []) (sym same.0) own) refl),
      metadata_free known bs rs same.1 apart.1 (all_right P (metas_of r) more metas.0, all_right MetaInRange (metas_of r) more metas.1)
          (all_right Q (named_of r) others named.0, all_right NamedInRange (named_of r) others named.1),
    )

-- how much metadata there is

one_count : (rs : List MetadataRecord) → metadata_in (flat_map metadata_entries rs) ≡ length (metas_of rs)
one_count [] = refl
one_count (string_metadata text ∷ rs) = omega (arith, one_count rs)
one_count (value_metadata ty value ∷ rs) = omega (arith, one_count rs)
one_count (node_metadata parts ∷ rs) = omega (arith, one_count rs)
one_count (named_metadata name ids ∷ rs) = one_count rs

pub metadata_long : (blocks : List Contents) (records : List (List MetadataRecord)) → map entries_in blocks ≡ map (flat_map metadata_entries) records →
    metadata_in (all_of blocks) ≡ length (flat_map metas_of records)
metadata_long [] [] spelled = refl
metadata_long [] (r ∷ rs) spelled = absurd (omega (arith, ap length spelled))
metadata_long (b ∷ bs) [] spelled = absurd (omega (arith, ap length spelled))
metadata_long (b ∷ bs) (r ∷ rs) spelled =
    let same = parts_same (entries_in b) (flat_map metadata_entries r) (map entries_in bs) (map (flat_map metadata_entries) rs) spelled in
    let one : metadata_in (entries_in b) ≡ length (metas_of r) = ap metadata_in same.0 ∙ one_count r in
    omega (
      arith,
      one,
      metadata_long bs rs same.1,
      length-append (metas_of r) (flat_map metas_of rs),
      count_more 1 (entries_in b) (all_of bs),
      count_more 2 (entries_in b) (all_of bs),
      count_more 3 (entries_in b) (all_of bs),
    )
