-- Blocks record at most one type table, one list of constants, one list of metadata and one list of names.
use Rattle.std.proofs.Common.{◌≡◌, ℕ, suc, List, [], ◌∷◌, map, length, refl, ap, sym, ◌∙◌, subst, arith}
use Rattle.std.specs.Prelude.{flat_map}
use Rattle.ir_core.specs.declared.module.Ty.{Ty}
use Rattle.ir_core.specs.declared.module.Const.{Const}
use Rattle.ir_core.specs.declared.module.Meta.{Meta}
use Rattle.ir_core.specs.declared.module.Named.{Named}
use Rattle.bc_stream.specs.Blocks.{Contents}
use Rattle.bc_records.specs.TypeRecords.{type_entry, table_of, TypesRecorded}
use Rattle.bc_records.specs.ConstantRecords.{constant_entry, constants_of, ConstantsRecorded}
use Rattle.bc_records.specs.MetadataRecords.{metadata_entries, metas_of, named_of, MetadataRecorded}
use Rattle.bc_records.specs.SymbolRecords.{SymbolRecord, symbol_entry, NamedFrom, SymbolsRecorded}
use Rattle.bc_records.proofs.Back.{map_back, map_once, type_back, type_is_back, constant_back, constant_is_back, metadata_back, metadata_is_back, symbol_back, symbol_is_back}

pub types_once : (block : Contents) (ts us : List Ty) → TypesRecorded block ts → TypesRecorded block us → ts ≡ us
types_once block ts us r s =
    let same : r.records ≡ s.records = map_once type_entry type_back type_is_back r.records s.records (sym r.spelled ∙ s.spelled) in
    sym r.entries ∙ (ap (table_of []) same ∙ s.entries)

pub constants_once : (k l : ℕ) (blocks : List Contents) (cs ds : List Const) → ConstantsRecorded k blocks cs → ConstantsRecorded l blocks ds → cs ≡ ds
constants_once k l blocks cs ds r s =
    let same : r.records ≡ s.records
    = map_once (map constant_entry) (map constant_back) (map_back constant_entry constant_back constant_is_back) r.records s.records (sym r.spelled ∙ s.spelled) in
    sym r.values ∙ (ap (flat_map (constants_of 0)) same ∙ s.values)

metadata_records : (blocks : List Contents) (ms ns : List Meta) (ps qs : List Named) (r : MetadataRecorded blocks ms ps) (s : MetadataRecorded blocks ns qs) → r.records ≡ s.records
metadata_records blocks ms ns ps qs r s =
    map_once (flat_map metadata_entries) (metadata_back []) (metadata_is_back []) r.records s.records (sym r.spelled ∙ s.spelled)

pub metas_once : (blocks : List Contents) (ms ns : List Meta) (ps qs : List Named) → MetadataRecorded blocks ms ps → MetadataRecorded blocks ns qs → ms ≡ ns
metas_once blocks ms ns ps qs r s = sym r.numbered ∙ (ap (flat_map metas_of) (metadata_records blocks ms ns ps qs r s) ∙ s.numbered)

pub named_once : (blocks : List Contents) (ms ns : List Meta) (ps qs : List Named) → MetadataRecorded blocks ms ps → MetadataRecorded blocks ns qs → ps ≡ qs
named_once blocks ms ns ps qs r s = sym r.names ∙ (ap (flat_map named_of) (metadata_records blocks ms ns ps qs r s) ∙ s.names)

names_from : (value : ℕ) (records : List SymbolRecord) (xs ys : List (List ℕ)) → length xs ≡ length ys → NamedFrom value records xs → NamedFrom value records ys → xs ≡ ys
names_from value records [] [] long p q = refl
names_from value records [] (y ∷ ys) long p q = absurd (omega arith)
names_from value records (x ∷ xs) [] long p q = absurd (omega arith)
names_from value records (x ∷ xs) (y ∷ ys) long p q =
    ap (λ z. z ∷ xs) (sym p.0 ∙ q.0) ∙ ap (λ zs. y ∷ zs) (names_from (suc value) records xs ys (omega arith) p.1 q.1)

pub symbols_once : (k l : ℕ) (blocks : List Contents) (xs ys : List (List ℕ)) → length xs ≡ length ys → SymbolsRecorded k blocks xs → SymbolsRecorded l blocks ys → xs ≡ ys
symbols_once k l blocks xs ys long r s =
    let same : r.records ≡ s.records
    = map_once (map symbol_entry) (map symbol_back) (map_back symbol_entry symbol_back symbol_is_back) r.records s.records (sym r.spelled ∙ s.spelled) in
    names_from 0 (flat_map (λ block. block) s.records) xs ys long
    (subst (λ rs. NamedFrom 0 (flat_map (λ block. block) rs) xs) same r.names_are) s.names_are
