-- The written block list records the module.
use Rattle.std.proofs.Common.{◌≡◌, ℕ, List, [], ◌∷◌, ◌++◌, Some, None, Option, map, length, refl, ap, sym, ◌∙◌, subst, lit<, get_or}
use Rattle.std.specs.Prelude.{All, Contains, flat_map, IfSome, replicate}
use Rattle.std.specs.Option.{option_map_or}
use Rattle.std.proofs.lemmas.List.{append-nil}
use Rattle.std.proofs.lemmas.List.Elements.{All-nil, All-cons, All-head, All-tail, All-append}
use Rattle.ir_core.specs.declared.instruction.Block.{Block}
use Rattle.ir_core.specs.declared.instruction.Body.{Body}
use Rattle.ir_core.specs.declared.module.Function.{Function}
use Rattle.ir_core.specs.declared.module.Module.{Module}
use Rattle.ir_core.specs.Values.{instructions, bodies, body_values}
use Rattle.ir_core.specs.Soundness.{IsSoundBody, IsWhole, EndsOnce}
use Rattle.bc_stream.specs.Blocks.{Contents, a_block}
use Rattle.bc_records.specs.Entries.{entry, entries_in, block_ids, blocks_in}
use Rattle.bc_records.specs.ConstantRecords.{ConstantsRecorded}
use Rattle.bc_records.specs.MetadataRecords.{MetadataRecorded}
use Rattle.bc_records.specs.SymbolRecords.{SymbolsRecorded}
use Rattle.bc_records.specs.BodyRecords.{BodyRecorded, BodiesRecorded}
use Rattle.bc_records.specs.ModuleRecords.{ModuleRecord, version_record, triple_record, layout_record, function_record, module_entry, versions, triples, layouts, declarations, declaration_of, prototype_of}
use Rattle.bc_records.specs.Ranges.{FunctionInRange, BodyInRange, BlockInRange, InstInRange, IsInRange}
use Rattle.bc_records.specs.FirstList.{IsListed, IsListedInst}
use Rattle.bc_records.specs.Records.{Recorded}
use Rattle.bc_records.specs.Written.{function_entry, body_contents, bodies_contents, module_contents, written, types_contents, constants_contents, metadata_contents, symbols_contents}
use Rattle.bc_records.proofs.ListedLemmas.{entries_in-listed, block_ids-listed, blocks_in-listed}
use Rattle.bc_records.proofs.TypesWritten.{types_written}
use Rattle.bc_records.proofs.ConstantsWritten.{constants_written}
use Rattle.bc_records.proofs.MetadataWritten.{metadata_written}
use Rattle.bc_records.proofs.SymbolsWritten.{symbols_written}
use Rattle.bc_records.proofs.BodyWritten.{body_written}

abbrev function_records : List Function → List ModuleRecord
function_records [] = []
function_records (f ∷ fs) = function_record f.ty 0 (prototype_of f.body) 0 (replicate 11 0) ∷ function_records fs

abbrev module_records : Module → List ModuleRecord
module_records m = version_record ∷ triple_record m.triple ∷ layout_record m.layout ∷ function_records m.functions

entries_of_functions : (fs : List Function) → map function_entry fs ≡ map module_entry (function_records fs)
entries_of_functions [] = refl
entries_of_functions (f ∷ fs) = ap (λ entries. function_entry f ∷ entries) (entries_of_functions fs)

no_versions : (fs : List Function) → versions (function_records fs) ≡ []
no_versions [] = refl
no_versions (f ∷ fs) = no_versions fs

no_triples : (fs : List Function) → triples (function_records fs) ≡ []
no_triples [] = refl
no_triples (f ∷ fs) = no_triples fs

no_layouts : (fs : List Function) → layouts (function_records fs) ≡ []
no_layouts [] = refl
no_layouts (f ∷ fs) = no_layouts fs

declared : (fs : List Function) → declarations (function_records fs) ≡ map declaration_of fs
declared [] = refl
declared (f ∷ fs) = ap (λ ds. declaration_of f ∷ ds) (declared fs)

-- what stands among the bodies
module _ (m : Module) where
  no_records : (bs : List (Function × Body)) → entries_in (bodies_contents m bs) ≡ []
  no_records [] = refl
  no_records (b ∷ bs) = no_records bs

  no_others : (id : ℕ) (bs : List (Function × Body)) → ((inner : Contents) (rest : Contents) → blocks_in id (a_block 12 inner rest) ≡ blocks_in id rest) → blocks_in id (bodies_contents m bs) ≡ []
  no_others id [] other = refl
  no_others id (b ∷ bs) other = other (body_contents m b.0 b.1) (bodies_contents m bs) ∙ no_others id bs other

  known_bodies : (known : List ℕ) (bs : List (Function × Body)) → Contains known 12 → All (Contains known) (block_ids (bodies_contents m bs))
  known_bodies known [] here = All-nil (Contains known)
  known_bodies known (b ∷ bs) here = All-cons (Contains known) 12 (block_ids (bodies_contents m bs)) here (known_bodies known bs here)

  bodies_recorded : (bs : List (Function × Body)) → All (λ b. BodyRecorded m b.0 (body_contents m b.0 b.1) b.1) bs → BodiesRecorded m (blocks_in 12 (bodies_contents m bs)) bs
  bodies_recorded [] all = tt
  bodies_recorded (b ∷ bs) all = (
    All-head (λ b. BodyRecorded m b.0 (body_contents m b.0 b.1) b.1) b bs all,
    bodies_recorded bs (All-tail (λ b. BodyRecorded m b.0 (body_contents m b.0 b.1) b.1) b bs all),
  )

-- the ranges of a body are those of its function
ranges_of_bodies : (fs : List Function) → All FunctionInRange fs → All (λ b. BodyInRange b.1) (bodies fs)
ranges_of_bodies [] all = All-nil (λ (b : Function × Body). BodyInRange b.1)
ranges_of_bodies (f ∷ fs) all =
    let own : IfSome f.body BodyInRange = (All-head FunctionInRange f fs all).2 in
    with_body f.body f fs own (ranges_of_bodies fs (All-tail FunctionInRange f fs all))
  where
    with_body : (body : Option Body) (f : Function) (fs : List Function) → IfSome body BodyInRange → All (λ b. BodyInRange b.1) (bodies fs) →
        All (λ b. BodyInRange b.1) (option_map_or (λ body. (f, body) ∷ bodies fs) body (bodies fs))
    with_body None f fs own rest = rest
    with_body (Some body) f fs own rest = All-cons (λ (b : Function × Body). BodyInRange b.1) (f, body) (bodies fs) own rest

inst_ranges : (blocks : List Block) → All BlockInRange blocks → All InstInRange (flat_map (λ k. k.insts) blocks)
inst_ranges [] all = All-nil InstInRange
inst_ranges (block ∷ blocks) all =
    All-append InstInRange block.insts (flat_map (λ k. k.insts) blocks) (All-head BlockInRange block blocks all)
    (inst_ranges blocks (All-tail BlockInRange block blocks all))

one_body : (m : Module) (b : Function × Body) → IsSoundBody m b.0 b.1 → All (λ k. EndsOnce k.insts) b.1.blocks → All IsListedInst (instructions b.1) → BodyInRange b.1 →
    BodyRecorded m b.0 (body_contents m b.0 b.1) b.1
one_body m b sound ended listed_insts ranges =
    body_written m b.0 b.1 (length (body_values m b.0 b.1)) sound.consts sound.insts ended listed_insts (inst_ranges b.1.blocks ranges.2)

all_bodies : (m : Module) (bs : List (Function × Body)) → All (λ b. IsSoundBody m b.0 b.1) bs → All (λ b. All (λ k. EndsOnce k.insts) b.1.blocks) bs →
    All (λ b. All IsListedInst (instructions b.1)) bs → All (λ b. BodyInRange b.1) bs → All (λ b. BodyRecorded m b.0 (body_contents m b.0 b.1) b.1) bs
all_bodies m bs sound ended listed_insts ranges = λ k d below. one_body m (get_or bs k d) (sound k d below) (ended k d below) (listed_insts k d below) (ranges k d below)

known : (m : Module) → All (Contains (11 ∷ 12 ∷ 14 ∷ 15 ∷ 17 ∷ [])) (block_ids (module_contents m))
known m =
    let P : ℕ → Type 0 = Contains (11 ∷ 12 ∷ 14 ∷ 15 ∷ 17 ∷ []) in
    let bs : List ℕ = block_ids (bodies_contents m (bodies m.functions)) in
    subst (λ ids. All P (17 ∷ ids)) (sym (block_ids-listed (map function_entry m.functions) _))
    (All-cons P 17 (11 ∷ 15 ∷ 14 ∷ bs) (4, lit< tt, refl)
    (All-cons P 11 (15 ∷ 14 ∷ bs) (0, lit< tt, refl)
    (All-cons P 15 (14 ∷ bs) (3, lit< tt, refl)
    (All-cons P 14 bs (2, lit< tt, refl)
    (known_bodies m (11 ∷ 12 ∷ 14 ∷ 15 ∷ 17 ∷ []) (bodies m.functions) (1, lit< tt, refl))))))

pub recorded : (m : Module) → IsWhole m → IsListed m → IsInRange m → Recorded (written m) m
recorded m whole first_list ranges = record {
  inner = module_contents m;
  one_module = refl;
  known_blocks = known m;
  records = module_records m;
  spelled = ap (λ entries. entry 1 (1 ∷ []) ∷ entry 2 m.triple ∷ entry 3 m.layout ∷ entries)
      (entries_in-listed (map function_entry m.functions) _ ∙ (ap (λ entries. map function_entry m.functions ++ entries) (no_records m (bodies m.functions)) ∙ (append-nil _ ∙ entries_of_functions m.functions)));
  version = ap (λ vs. 1 ∷ vs) (no_versions m.functions);
  triple = ap (λ ts. m.triple ∷ ts) (no_triples m.functions);
  layout = ap (λ ls. m.layout ∷ ls) (no_layouts m.functions);
  globals = first_list.globals;
  functions = declared m.functions;
  type_block = types_contents m.types;
  one_type_table = ap (λ bs. types_contents m.types ∷ bs) (blocks_in-listed 17 (map function_entry m.functions) _ ∙ no_others m 17 (bodies m.functions) (λ inner rest. refl));
  types = types_written m.types first_list.types ranges.types;
  constants = subst (λ bs. ConstantsRecorded (length m.types) bs m.consts)
      (sym (blocks_in-listed 11 (map function_entry m.functions) _ ∙ ap (λ bs. constants_contents m.consts ∷ bs) (no_others m 11 (bodies m.functions) (λ inner rest. refl))))
      (constants_written (length m.types) m.consts whole.sound.consts);
  metadata = subst (λ bs. MetadataRecorded bs m.metas m.named)
      (sym (blocks_in-listed 15 (map function_entry m.functions) _ ∙ ap (λ bs. metadata_contents m.metas m.named ∷ bs) (no_others m 15 (bodies m.functions) (λ inner rest. refl))))
      (metadata_written m.metas m.named);
  symbols = subst (λ bs. SymbolsRecorded (length m.functions) bs (map (λ f. f.name) m.functions))
      (sym (blocks_in-listed 14 (map function_entry m.functions) _ ∙ ap (λ bs. symbols_contents m.functions ∷ bs) (no_others m 14 (bodies m.functions) (λ inner rest. refl))))
      (symbols_written m.functions);
  code = subst (λ bs. BodiesRecorded m bs (bodies m.functions))
      (sym (blocks_in-listed 12 (map function_entry m.functions) _))
      (bodies_recorded m (bodies m.functions) (all_bodies m (bodies m.functions) whole.sound.bodies_sound whole.ended first_list.code (ranges_of_bodies m.functions ranges.functions)));
  sound = whole.sound;
  in_range = ranges;
}
