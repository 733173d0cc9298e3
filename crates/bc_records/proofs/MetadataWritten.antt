-- The written metadata records the metadata and the named metadata, in one block.
use Rattle.std.proofs.Common.{◌≡◌, ℕ, List, [], ◌∷◌, ◌++◌, Some, None, Option, map, refl, ap, ◌∙◌}
use Rattle.std.specs.Prelude.{flat_map}
use Rattle.std.proofs.lemmas.List.{append-nil}
use Rattle.ir_core.specs.declared.module.Meta.{Meta}
use Rattle.ir_core.specs.declared.module.Meta.TheVariants.{Chars, Value, Node}
use Rattle.ir_core.specs.declared.module.Named.{Named}
use Rattle.bc_stream.specs.Blocks.{no_more}
use Rattle.bc_records.specs.MetadataRecords.{MetadataRecord, metadata_entries, node_part, metas_of, named_of, MetadataRecorded}
use Rattle.bc_records.specs.Written.{written_part, meta_record, named_record, written_metadata, metadata_contents}
use Rattle.bc_records.proofs.ListedLemmas.{entries_in-alone, block_ids-listed}

parts_back : (parts : List (Option ℕ)) → map node_part (map written_part parts) ≡ parts
parts_back [] = refl
parts_back (None ∷ parts) = ap (λ ps. None ∷ ps) (parts_back parts)
parts_back (Some id ∷ parts) = ap (λ ps. Some id ∷ ps) (parts_back parts)

no_metas : (named : List Named) → metas_of (map named_record named) ≡ []
no_metas [] = refl
no_metas (first ∷ named) = no_metas named

metas_back : (metas : List Meta) (rest : List MetadataRecord) → metas_of (map meta_record metas ++ rest) ≡ metas ++ metas_of rest
metas_back [] rest = refl
metas_back (Chars text ∷ metas) rest = ap (λ ms. Chars text ∷ ms) (metas_back metas rest)
metas_back (Value ty value ∷ metas) rest = ap (λ ms. Value ty value ∷ ms) (metas_back metas rest)
metas_back (Node parts ∷ metas) rest =
    ap (λ ps. Node ps ∷ metas_of (map meta_record metas ++ rest)) (parts_back parts) ∙ ap (λ ms. Node parts ∷ ms) (metas_back metas rest)

named_back : (named : List Named) → named_of (map named_record named) ≡ named
named_back [] = refl
named_back (first ∷ named) = ap (λ ns. first ∷ ns) (named_back named)

names_past : (metas : List Meta) (rest : List MetadataRecord) → named_of (map meta_record metas ++ rest) ≡ named_of rest
names_past [] rest = refl
names_past (Chars text ∷ metas) rest = names_past metas rest
names_past (Value ty value ∷ metas) rest = names_past metas rest
names_past (Node parts ∷ metas) rest = names_past metas rest

pub metadata_written : (metas : List Meta) (named : List Named) → MetadataRecorded (metadata_contents metas named ∷ []) metas named
metadata_written metas named = record {
  records = written_metadata metas named ∷ [];
  spelled = ap (λ entries. entries ∷ []) (entries_in-alone (flat_map metadata_entries (written_metadata metas named)));
  no_blocks = append-nil _ ∙ block_ids-listed (flat_map metadata_entries (written_metadata metas named)) no_more;
  numbered = append-nil _ ∙ (metas_back metas (map named_record named) ∙ (ap (λ ms. metas ++ ms) (no_metas named) ∙ append-nil metas));
  names = append-nil _ ∙ (names_past metas (map named_record named) ∙ named_back named);
}
