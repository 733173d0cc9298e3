-- The records of all metadata, and then those of the named.
use Rattle.std.proofs.Common.{◌≡◌, List, [], ◌∷◌, ◌++◌, map, refl, ap, sym, ◌∙◌}
use Rattle.std.specs.Prelude.{flat_map}
use Rattle.std.proofs.lemmas.List.Concat.{flat_map-append}
use Rattle.ir_core.specs.declared.module.Meta.{Meta}
use Rattle.ir_core.specs.declared.module.Named.{Named}
use Rattle.bc_stream.specs.Blocks.{Contents, append}
use Rattle.bc_records.specs.MetadataRecords.{MetadataRecord, metadata_entries}
use Rattle.bc_records.specs.Written.{meta_record, named_record, metadata_contents}
use Rattle.bc_records.proofs.Steps.{alone, alone-append}

flat_map-map : {X : Type 0} (f : X → MetadataRecord) (xs : List X) → flat_map metadata_entries (map f xs) ≡ flat_map (λ x. metadata_entries (f x)) xs
flat_map-map f [] = refl
flat_map-map f (x ∷ xs) = ap (λ es. metadata_entries (f x) ++ es) (flat_map-map f xs)

pub then_named : (first : Contents) (metas : List Meta) (named : List Named) → first ≡ alone (flat_map (λ m. metadata_entries (meta_record m)) metas) →
    append first (alone (flat_map (λ n. metadata_entries (named_record n)) named)) ≡ metadata_contents metas named
then_named first metas named is =
    ap (λ c. append c (alone (flat_map (λ n. metadata_entries (named_record n)) named))) is
    ∙ (alone-append (flat_map (λ m. metadata_entries (meta_record m)) metas) (flat_map (λ n. metadata_entries (named_record n)) named)
    ∙ ap alone (sym (flat_map-append metadata_entries (map meta_record metas) (map named_record named)
    ∙ (ap (λ es. es ++ flat_map metadata_entries (map named_record named)) (flat_map-map meta_record metas)
    ∙ ap (λ es. flat_map (λ m. metadata_entries (meta_record m)) metas ++ es) (flat_map-map named_record named)))))
