-- A block list records at most one module.
use Rattle.std.proofs.Common.{◌≡◌, ℕ, List, [], ◌∷◌, map, length, refl, ap, sym, ◌∙◌, subst}
use Rattle.std.proofs.lemmas.List.{length-map}
use Rattle.ir_core.specs.declared.module.Const.{Const}
use Rattle.ir_core.specs.declared.module.Function.{Function}
use Rattle.ir_core.specs.declared.module.GlobalVar.{GlobalVar}
use Rattle.ir_core.specs.declared.module.Meta.{Meta}
use Rattle.ir_core.specs.declared.module.Module.{Module}
use Rattle.ir_core.specs.declared.module.Named.{Named}
use Rattle.ir_core.specs.declared.module.Ty.{Ty}
use Rattle.ir_core.specs.Values.{bodies}
use Rattle.bc_stream.specs.Blocks.{Contents, no_more, a_record, a_block}
use Rattle.bc_records.specs.Entries.{blocks_in, entries_in}
use Rattle.bc_records.specs.TypeRecords.{TypesRecorded}
use Rattle.bc_records.specs.ConstantRecords.{ConstantsRecorded}
use Rattle.bc_records.specs.MetadataRecords.{MetadataRecorded}
use Rattle.bc_records.specs.SymbolRecords.{SymbolsRecorded}
use Rattle.bc_records.specs.BodyRecords.{BodiesRecorded}
use Rattle.bc_records.specs.ModuleRecords.{module_entry, triples, layouts, declarations, declaration_of}
use Rattle.bc_records.specs.Records.{OneModule}
use Rattle.bc_records.proofs.Back.{map_once, module_back, module_is_back}
use Rattle.bc_records.proofs.TablesOnce.{types_once, constants_once, metas_once, named_once, symbols_once}
use Rattle.bc_records.proofs.BodiesOnce.{parts_same, functions_once}

-- what the first block holds
abbrev held : Contents → Contents
held no_more = no_more
held (a_record code values rest) = no_more
held (a_block id inner rest) = inner

abbrev module_of : List ℕ → List ℕ → List Ty → List GlobalVar → List Function → List Const → List Meta → List Named → Module
module_of triple layout types globals functions consts metas named =
    record { triple = triple; layout = layout; types = types; globals = globals; functions = functions; consts = consts; metas = metas; named = named }

module_same : (m n : Module) → m.triple ≡ n.triple → m.layout ≡ n.layout → m.types ≡ n.types → m.globals ≡ n.globals → m.functions ≡ n.functions →
    m.consts ≡ n.consts → m.metas ≡ n.metas → m.named ≡ n.named → m ≡ n
module_same m n a b c d e f g h =
    ap (λ x. module_of x m.layout m.types m.globals m.functions m.consts m.metas m.named) a
    ∙ (ap (λ x. module_of n.triple x m.types m.globals m.functions m.consts m.metas m.named) b
    ∙ (ap (λ x. module_of n.triple n.layout x m.globals m.functions m.consts m.metas m.named) c
    ∙ (ap (λ x. module_of n.triple n.layout n.types x m.functions m.consts m.metas m.named) d
    ∙ (ap (λ x. module_of n.triple n.layout n.types n.globals x m.consts m.metas m.named) e
    ∙ (ap (λ x. module_of n.triple n.layout n.types n.globals n.functions x m.metas m.named) f
    ∙ (ap (λ x. module_of n.triple n.layout n.types n.globals n.functions n.consts x m.named) g
    ∙ ap (λ x. module_of n.triple n.layout n.types n.globals n.functions n.consts n.metas x) h))))))

-- the types of the functions, by their records
numbers_same : (fs gs : List Function) → map declaration_of fs ≡ map declaration_of gs → map (λ (f : Function). f.ty) fs ≡ map (λ (f : Function). f.ty) gs
numbers_same fs gs same = sym (numbers fs) ∙ (ap (map (λ (d : ℕ × ℕ). d.0)) same ∙ numbers gs)
  where
    numbers : (hs : List Function) → map (λ (d : ℕ × ℕ). d.0) (map declaration_of hs) ≡ map (λ (f : Function). f.ty) hs
    numbers [] = refl
    numbers (h ∷ hs) = ap (λ xs. h.ty ∷ xs) (numbers hs)

names_long : (fs gs : List Function) → map declaration_of fs ≡ map declaration_of gs → length (map (λ (f : Function). f.name) fs) ≡ length (map (λ (f : Function). f.name) gs)
names_long fs gs same =
    length-map fs (λ (f : Function). f.name)
    ∙ (sym (length-map fs declaration_of) ∙ (ap length same ∙ (length-map gs declaration_of ∙ sym (length-map gs (λ (f : Function). f.name)))))

pub one_module : OneModule
one_module blocks m n r s =
    let inner : r.inner ≡ s.inner = ap held (sym r.one_module ∙ s.one_module) in
    let records : r.records ≡ s.records = map_once module_entry module_back module_is_back r.records s.records (sym r.spelled ∙ (ap entries_in inner ∙ s.spelled)) in
    let triple : m.triple ≡ n.triple = (parts_same m.triple n.triple [] [] (sym r.triple ∙ (ap triples records ∙ s.triple))).0 in
    let layout : m.layout ≡ n.layout = (parts_same m.layout n.layout [] [] (sym r.layout ∙ (ap layouts records ∙ s.layout))).0 in
    let table : r.type_block ≡ s.type_block = (parts_same r.type_block s.type_block [] [] (sym r.one_type_table ∙ (ap (blocks_in 17) inner ∙ s.one_type_table))).0 in
    let types : m.types ≡ n.types = types_once s.type_block m.types n.types (subst (λ b. TypesRecorded b m.types) table r.types) s.types in
    let consts : m.consts ≡ n.consts
    = constants_once (length m.types) (length n.types) (blocks_in 11 s.inner) m.consts n.consts
    (subst (λ b. ConstantsRecorded (length m.types) (blocks_in 11 b) m.consts) inner r.constants) s.constants in
    let metadata : MetadataRecorded (blocks_in 15 s.inner) m.metas m.named = subst (λ b. MetadataRecorded (blocks_in 15 b) m.metas m.named) inner r.metadata in
    let metas : m.metas ≡ n.metas = metas_once (blocks_in 15 s.inner) m.metas n.metas m.named n.named metadata s.metadata in
    let named : m.named ≡ n.named = named_once (blocks_in 15 s.inner) m.metas n.metas m.named n.named metadata s.metadata in
    let declared : map declaration_of m.functions ≡ map declaration_of n.functions = sym r.functions ∙ (ap declarations records ∙ s.functions) in
    let names : map (λ (f : Function). f.name) m.functions ≡ map (λ (f : Function). f.name) n.functions
    = symbols_once (length m.functions) (length n.functions) (blocks_in 14 s.inner) (map (λ (f : Function). f.name) m.functions) (map (λ (f : Function). f.name) n.functions)
    (names_long m.functions n.functions declared)
    (subst (λ b. SymbolsRecorded (length m.functions) (blocks_in 14 b) (map (λ (f : Function). f.name) m.functions)) inner r.symbols) s.symbols in
    let functions : m.functions ≡ n.functions
    = functions_once m n (record { types = types; numbers = numbers_same m.functions n.functions declared; consts = consts; none = r.globals; no_others = s.globals })
    m.functions n.functions (blocks_in 12 s.inner) declared names
    (subst (λ b. BodiesRecorded m (blocks_in 12 b) (bodies m.functions)) inner r.code) s.code in
    module_same m n triple layout types (r.globals ∙ sym s.globals) functions consts metas named
