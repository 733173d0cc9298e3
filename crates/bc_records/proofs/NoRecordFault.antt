-- A block list that records a module has no fault.
use mathlib.Core.Logic.{inr}
use Rattle.std.proofs.Common.{◌≡◌, ℕ, suc, ◌+◌, ◌≤◌, List, [], ◌∷◌, ◌++◌, map, length, get_or, refl, ap, sym, ◌∙◌, subst, arith}
use Rattle.std.specs.Prelude.{true, false, not, IfSome, ◌==◌, ◌&&◌, Option, None, Some, IsSome, is_some, option_and_then, slice_get, All, replicate, flat_map}
use Rattle.std.specs.List.{filter}
use Rattle.std.specs.Option.{option_map_or}
use Rattle.std.proofs.lemmas.List.{length-append, length-map}
use Rattle.std.proofs.lemmas.List.Elements.{All-cons, All-nil, All-head, All-tail, All-map}
use Rattle.ir_core.specs.declared.instruction.Block.{Block}
use Rattle.ir_core.specs.declared.instruction.Body.{Body}
use Rattle.ir_core.specs.declared.module.Ty.TheVariants.{Pointer}
use Rattle.ir_core.specs.declared.module.Function.{Function}
use Rattle.ir_core.specs.declared.module.Module.{Module}
use Rattle.ir_core.specs.Values.{constant_value, parameter_value, instruction_value, signature, parameters, module_values, body_values, instructions, has_value, bodies, number_of}
use Rattle.ir_core.specs.Soundness.{IsSoundInst, IsSoundBody, IsSoundMeta, Names}
use Rattle.bc_stream.specs.Blocks.{Contents, no_more, a_block}
use Rattle.bc_records.specs.Entries.{entry, entries_in, blocks_in, IsText}
use Rattle.bc_records.specs.TypeRecords.{type_entry}
use Rattle.bc_records.specs.BodyRecords.{BodyRecord, declare_blocks, return_record, call_record, body_entry, declared_blocks, first_value, instruction_records, InstructionsRecorded, filled_blocks, BodyRecorded, BodiesRecorded}
use Rattle.bc_records.specs.ModuleRecords.{ModuleRecord, version_record, triple_record, layout_record, function_record, module_entry, declarations, declaration_of, prototype_of}
use Rattle.ir_core.specs.declared.module.Named.{Named}
use Rattle.bc_records.specs.MetadataRecords.{metas_of, named_of}
use Rattle.bc_records.specs.Ranges.{BodyInRange, FunctionInRange, MetaInRange, NamedInRange}
use Rattle.bc_records.specs.Records.{Recorded}
use Rattle.bc_records.specs.FaultSites.{site, IsFree, sites, sites_after}
use Rattle.bc_records.specs.RecordKinds.{signature_of_entry, code_of, has_entry, Known, Numbers, known_of, numbers_of, parameters_of, signature_at, module_value_count, first_operand, next_after, has_code, with_bodies, function_entries, type_entries, first_of, all_of, constants_in, body_kinds, module_kinds, is_word, has_pointer_to, has_block}
use Rattle.bc_records.specs.RecordFaults.{body_table, module_table, outer_table, is_complete, body_count, bodies_before, record_sites, NoRecordFault}
use Rattle.bc_records.proofs.Agreement.{Agrees, is_value}
use Rattle.bc_records.proofs.AgreeModule.{signature_same, value_type_same, pointer_found, functions_long, function_types_same, pointers_typed}
use Rattle.bc_records.proofs.BodiesOnce.{parts_same}
use Rattle.bc_records.proofs.FreeSites.{FreeRecords, free}
use Rattle.bc_records.proofs.FreeTypes.{types_free, entries_long}
use Rattle.bc_records.proofs.FreeConstants.{constants_free, constants_long}
use Rattle.bc_records.proofs.FreeMetadata.{metadata_free, metadata_long}
use Rattle.bc_records.proofs.FreeSymbols.{symbols_all_free}
use Rattle.bc_records.proofs.FreeBodies.{values_long, body_free}
use Rattle.bc_records.proofs.FreeModules.{Declared, module_free, version_stands, triple_stands, layout_stands}
use Rattle.bc_records.proofs.FreeBlocks.{Fits, TypesFree, EachBody, body_blocks, module_blocks}
use Rattle.bc_records.proofs.Tests.{Each, at_most, below, both, unless, word_passes}
use Rattle.bc_records.proofs.ValueLemmas.{value_count}

-- one body

pub params_long : (known : Known) (m : Module) (a : Agrees known m) (f : Function) (operands : List ℕ) → slice_get operands 0 ≡ Some f.ty → parameters_of known operands ≡ length (parameters m f)
params_long known m a f operands head =
    ap (λ o. option_map_or (λ (s : ℕ × List ℕ). length s.1) (option_and_then (signature_at known) o) 0) head
    ∙ (ap (λ o. option_map_or (λ (s : ℕ × List ℕ). length s.1) o 0) (a.signatures f.ty) ∙ by (signature m.types f.ty))
  where
    by : (o : Option (ℕ × List ℕ)) → option_map_or (λ (s : ℕ × List ℕ). length s.1) o 0 ≡ length (option_map_or (λ (s : ℕ × List ℕ). s.1) o [])
    by None = refl
    by (Some s) = refl

declared_first : (rs : List BodyRecord) (n : ℕ) → declared_blocks rs ≡ n ∷ [] → first_operand 1 (map body_entry rs) ≡ Some n
declared_first [] n said = absurd (omega (arith, ap length said))
declared_first (declare_blocks k ∷ rs) n said = ap Some (parts_same k n (declared_blocks rs) [] said).0
declared_first (return_record ∷ rs) n said = declared_first rs n said
declared_first (call_record a b c d e ∷ rs) n said = declared_first rs n said

declared_stands : (rs : List BodyRecord) (n : ℕ) → declared_blocks rs ≡ n ∷ [] → has_code 1 (map body_entry rs) ≡ true
declared_stands [] n said = absurd (omega (arith, ap length said))
declared_stands (declare_blocks k ∷ rs) n said = refl
declared_stands (return_record ∷ rs) n said = declared_stands rs n said
declared_stands (call_record a b c d e ∷ rs) n said = declared_stands rs n said

pub values_count : (m : Module) (f : Function) (body : Body) →
    length (body_values m f body) ≡ length (module_values m) + (length (parameters m f) + (length body.consts + length (filter (has_value m) (instructions body))))
values_count m f body =
    let made = map instruction_value (filter (has_value m) (instructions body)) in
    let own = map constant_value body.consts ++ made in
    omega (
      arith,
      length-append (module_values m) (map parameter_value (parameters m f) ++ own),
      length-append (map parameter_value (parameters m f)) own,
      length-map (parameters m f) parameter_value,
      length-append (map constant_value body.consts) made,
      length-map body.consts constant_value,
      length-map (filter (has_value m) (instructions body)) instruction_value,
    )

one_body : (known : Known) (m : Module) (a : Agrees known m) (f : Function) (block : Contents) (body : Body) (operands : List ℕ) → slice_get operands 0 ≡ Some f.ty →
    BodyRecorded m f block body → IsSoundBody m f body → BodyInRange body → (number : ℕ) → All IsFree (sites (body_table known (numbers_of known operands block)) number block)
one_body known m a f block body operands head r sound range number =
    let numbers : Numbers = numbers_of known operands block in
    let n : ℕ = length body.blocks in
    let values : ℕ = length (body_values m f body) in
    let own : ℕ = constants_in (all_of (blocks_in 11 block)) in
    let consts : own ≡ length body.consts = constants_long (blocks_in 11 block) r.constants.records r.constants.spelled ∙ ap length r.constants.values in
    let start : first_value m f body ≡ numbers.first = omega (arith, consts, params_long known m a f operands head, a.values) in
    let code : InstructionsRecorded m numbers.first (instruction_records r.records) (instructions body)
    = subst (λ x. InstructionsRecorded m x (instruction_records r.records) (instructions body)) start r.code in
    let counted : numbers.values ≡ values
    = ap (next_after known numbers.first) r.spelled
    ∙ (values_long known m a values n numbers.first r.records (instructions body) code sound.insts
    ∙ omega (arith, sym start, values_count m f body)) in
    let room : length (filled_blocks (instructions body)) ≤ n
    = omega (arith, ap length r.filled, length-map body.blocks (λ (k : Block). k.insts), length-append (filled_blocks (instructions body)) (replicate r.empty [])) in
    let all : FreeRecords (λ b e y. body_kinds known numbers b e) [] (map body_entry r.records)
    = body_free known m a numbers n n [] r.records (instructions body) code
    (subst (λ v. All (IsSoundInst m v n) (instructions body)) (sym counted) sound.insts)
    (ap (first_operand 1) r.spelled ∙ declared_first r.records n r.number) range.1 (omega (arith, room)) (inr (refl, r.number)) in
    free (body_table known numbers) number (suc number) no_more block (subst (FreeRecords (λ b e y. body_kinds known numbers b e) []) (sym r.spelled) all)
    (body_blocks known numbers (suc number) no_more block r.known_blocks
    (constants_free known (length m.types) (blocks_in 11 block) r.constants.records a.types r.constants.spelled r.constants.no_blocks r.constants.typed r.constants.named))
    (unless (has_code 1 (entries_in block)) 1 (ap (has_code 1) r.spelled ∙ declared_stands r.records n r.number))

-- all bodies

-- the operands of functions, by their functions
abbrev Headed : List (List ℕ) → List (Function × Body) → Type 0
Headed [] [] = Unit {0}
Headed [] (b ∷ bs) = ⊥
Headed (x ∷ xs) [] = ⊥
Headed (x ∷ xs) (b ∷ bs) = (slice_get x 0 ≡ Some b.0.ty) × Headed xs bs

headed : (rs : List ModuleRecord) (fs : List Function) → declarations rs ≡ map declaration_of fs → Headed (with_bodies (function_entries (map module_entry rs))) (bodies fs)
headed [] [] same = tt
headed [] (f ∷ fs) same = absurd (omega (arith, ap length same))
headed (version_record ∷ rs) fs same = headed rs fs same
headed (triple_record t ∷ rs) fs same = headed rs fs same
headed (layout_record t ∷ rs) fs same = headed rs fs same
headed (function_record ty convention prototype linkage others ∷ rs) [] same = absurd (omega (arith, ap length same))
headed (function_record ty convention prototype linkage others ∷ rs) (f ∷ fs) same =
    let apart = parts_same (ty, prototype) (declaration_of f) (declarations rs) (map declaration_of fs) same in
    let operands : List ℕ = ty ∷ convention ∷ prototype ∷ linkage ∷ others in
    let numbers : prototype ≡ prototype_of f.body = ap (λ (d : ℕ × ℕ). d.1) apart.0 in
    by f.body (ap Some (ap (λ (d : ℕ × ℕ). d.0) apart.0)) numbers (headed rs fs apart.1)
  where
    by : (o : Option Body) → Some ty ≡ Some f.ty → prototype ≡ prototype_of o → Headed (with_bodies (function_entries (map module_entry rs))) (bodies fs) →
        Headed (with_bodies ((ty ∷ convention ∷ prototype ∷ linkage ∷ others) ∷ function_entries (map module_entry rs))) (option_map_or (λ body. (f, body) ∷ bodies fs) o (bodies fs))
    by None head number rest = subst (λ p. Headed (with_bodies ((ty ∷ convention ∷ p ∷ linkage ∷ others) ∷ function_entries (map module_entry rs))) (bodies fs)) (sym number) rest
    by (Some body) head number rest =
        subst (λ p. Headed (with_bodies ((ty ∷ convention ∷ p ∷ linkage ∷ others) ∷ function_entries (map module_entry rs))) ((f, body) ∷ bodies fs)) (sym number) (head, rest)

headed_long : (xs : List (List ℕ)) (bs : List (Function × Body)) → Headed xs bs → length xs ≡ length bs
headed_long [] [] h = refl
headed_long [] (b ∷ bs) h = absurd h
headed_long (x ∷ xs) [] h = absurd h
headed_long (x ∷ xs) (b ∷ bs) h = ap suc (headed_long xs bs h.1)

recorded_long : (m : Module) (blocks : List Contents) (bs : List (Function × Body)) → BodiesRecorded m blocks bs → length blocks ≡ length bs
recorded_long m [] [] h = refl
recorded_long m [] (b ∷ bs) h = absurd h
recorded_long m (x ∷ xs) [] h = absurd h
recorded_long m (x ∷ xs) (b ∷ bs) h = ap suc (recorded_long m xs bs h.1)

-- each body is in range
bodies_in_range : (fs : List Function) → All FunctionInRange fs → All (λ (b : Function × Body). BodyInRange b.1) (bodies fs)
bodies_in_range [] range = All-nil (λ (b : Function × Body). BodyInRange b.1)
bodies_in_range (f ∷ fs) range = by f.body (All-head FunctionInRange f fs range).2 (bodies_in_range fs (All-tail FunctionInRange f fs range))
  where
    by : (o : Option Body) → IfSome o BodyInRange → All (λ (b : Function × Body). BodyInRange b.1) (bodies fs) →
        All (λ (b : Function × Body). BodyInRange b.1) (option_map_or (λ body. (f, body) ∷ bodies fs) o (bodies fs))
    by None own rest = rest
    by (Some body) own rest = All-cons (λ (b : Function × Body). BodyInRange b.1) (f, body) (bodies fs) own rest

-- the blocks from one on, with the operands of their functions: `xs` are all operands, of which `ys` are the last
each_body : (known : Known) (m : Module) (a : Agrees known m) (at : ℕ) (ys : List (List ℕ)) (blocks : List Contents) (bs : List (Function × Body)) →
    ((i : ℕ) → get_or (with_bodies known.functions) (at + i) [] ≡ get_or ys i []) → at + length ys ≡ body_count known → Headed ys bs → BodiesRecorded m blocks bs →
    All (λ (b : Function × Body). IsSoundBody m b.0 b.1) bs → All (λ (b : Function × Body). BodyInRange b.1) bs → EachBody known at blocks
each_body known m a at ys [] bs place count head recorded sound range = tt
each_body known m a at ys (x ∷ xs) [] place count head recorded sound range = absurd recorded
each_body known m a at [] (x ∷ xs) (b ∷ bs) place count head recorded sound range = absurd head
each_body known m a at (y ∷ ys) (x ∷ xs) (b ∷ bs) place count head recorded sound range =
    let P = λ (b : Function × Body). IsSoundBody m b.0 b.1 in
    let Q = λ (b : Function × Body). BodyInRange b.1 in
    let here : y ≡ get_or (with_bodies known.functions) at [] = sym (ap (λ k. get_or (with_bodies known.functions) k []) (omega arith) ∙ place 0) in (
      omega (arith, count),
      subst (λ operands. (number : ℕ) → All IsFree (sites (body_table known (numbers_of known operands x)) number x)) here
          (one_body known m a b.0 x b.1 y head.0 recorded.0 (All-head P b bs sound) (All-head Q b bs range)),
      each_body known m a (suc at) ys xs bs (λ i. ap (λ k. get_or (with_bodies known.functions) k []) (omega arith) ∙ place (suc i)) (omega (arith, count)) head.1 recorded.1
          (All-tail P b bs sound) (All-tail Q b bs range),
    )

-- functions

declared_all : (known : Known) (m : Module) (a : Agrees known m) (fs : List Function) → All (λ (f : Function). IsSome (signature m.types f.ty)) fs → All FunctionInRange fs →
    All (λ (f : Function). IsSome (number_of m.types (Pointer f.ty 0))) fs → Declared known (map declaration_of fs)
declared_all known m a [] some range typed = tt
declared_all known m a (f ∷ fs) some range typed =
    let S = λ (f : Function). IsSome (signature m.types f.ty) in
    let P = λ (f : Function). IsSome (number_of m.types (Pointer f.ty 0)) in (
      both (is_word f.ty) (is_some (signature_at known f.ty) && has_pointer_to known f.ty) (word_passes f.ty (All-head FunctionInRange f fs range).1)
          (both (is_some (signature_at known f.ty)) (has_pointer_to known f.ty) (ap is_some (a.signatures f.ty) ∙ All-head S f fs some) (a.pointers f.ty (All-head P f fs typed))),
      low f.body,
      declared_all known m a fs (All-tail S f fs some) (All-tail FunctionInRange f fs range) (All-tail P f fs typed),
    )
  where
    low : (o : Option Body) → prototype_of o ≤ 1
    low None = omega arith
    low (Some body) = omega arith

-- the module

agrees : (blocks : Contents) (m : Module) (r : Recorded blocks m) → Agrees (known_of r.inner) m
agrees blocks m r =
    let known : Known = known_of r.inner in
    let table : known.types ≡ type_entries (map type_entry r.types.records)
    = ap (λ bs. type_entries (first_of bs)) r.one_type_table ∙ ap type_entries r.types.spelled in
    let functions : known.functions ≡ function_entries (map module_entry r.records) = ap function_entries r.spelled in
    let count : length known.functions ≡ length m.functions
    = ap length functions ∙ (functions_long r.records ∙ (ap length r.functions ∙ length-map m.functions declaration_of)) in
    let consts : known.constants ≡ length m.consts
    = constants_long (blocks_in 11 r.inner) r.constants.records r.constants.spelled ∙ ap length r.constants.values in
    record {
      types = ap length table ∙ (entries_long [] r.types.records ∙ ap length r.types.entries);
      signatures = λ v. ap (λ ts. option_and_then signature_of_entry (slice_get ts v)) table
          ∙ (signature_same [] r.types.records v ∙ ap (λ ts. signature ts v) r.types.entries);
      value_types = λ v. ap (λ ts. option_map_or (λ e. not (code_of e == 2)) (slice_get ts v) false) table
          ∙ (value_type_same [] r.types.records v ∙ ap (λ ts. is_value (slice_get ts v)) r.types.entries);
      pointers = λ v found. ap (λ ts. has_entry ts (entry 8 (v ∷ 0 ∷ []))) table
          ∙ pointer_found v 0 [] r.types.records (ap (λ ts. is_some (number_of ts (Pointer v 0))) r.types.entries ∙ found);
      functions = count;
      function_types = λ v. ap (λ fs. option_and_then (λ operands. slice_get operands 0) (slice_get fs v)) functions ∙ function_types_same m r.records r.globals r.functions v;
      values = omega (arith, count, consts, value_count m, ap length r.globals);
      metas = metadata_long (blocks_in 15 r.inner) r.metadata.records r.metadata.spelled ∙ ap length r.metadata.numbered;
    }

one_text : (text : List ℕ) → IsText text → All IsText (text ∷ [])
one_text text is = All-cons IsText text [] is (All-nil IsText)

module_fits : (blocks : Contents) (m : Module) (r : Recorded blocks m) → Fits (known_of r.inner) no_more r.inner
module_fits blocks m r =
    let known : Known = known_of r.inner in
    let a : Agrees known m = agrees blocks m r in
    let names : All IsText (map (λ (f : Function). f.name) m.functions) = All-map IsText (λ (f : Function). f.name) m.functions (λ k d within. (r.in_range.functions k d within).0) in
    let head : Headed (with_bodies known.functions) (bodies m.functions)
    = subst (λ es. Headed (with_bodies (function_entries es)) (bodies m.functions)) (sym r.spelled) (headed r.records m.functions r.functions) in
    let metas = subst (All (IsSoundMeta (length m.types) (length (module_values m)) (length m.metas))) (sym r.metadata.numbered) r.sound.metas in
    record {
      types = subst (Each (TypesFree known)) (sym r.one_type_table)
          ((λ number. types_free known number r.type_block m.types r.types a.types r.sound.types r.in_range.types), tt);
      types_once = omega (arith, ap length r.one_type_table);
      constants = constants_free known (length m.types) (blocks_in 11 r.inner) r.constants.records a.types r.constants.spelled r.constants.no_blocks r.constants.typed r.constants.named;
      metadata = metadata_free known (blocks_in 15 r.inner) r.metadata.records r.metadata.spelled r.metadata.no_blocks (
        subst (λ k. All (IsSoundMeta k (module_value_count known) known.metas) (flat_map metas_of r.metadata.records)) (sym a.types)
            (subst (λ k. All (IsSoundMeta (length m.types) k known.metas) (flat_map metas_of r.metadata.records)) (sym a.values)
            (subst (λ k. All (IsSoundMeta (length m.types) (length (module_values m)) k) (flat_map metas_of r.metadata.records)) (sym a.metas) metas)),
        subst (All MetaInRange) (sym r.metadata.numbered) r.in_range.metas,
      ) (
        subst (λ k. All (λ (n : Named). All (Names k) n.ids) (flat_map named_of r.metadata.records)) (sym a.metas)
            (subst (All (λ (n : Named). All (Names (length m.metas)) n.ids)) (sym r.metadata.names) r.sound.named),
        subst (All NamedInRange) (sym r.metadata.names) r.in_range.named,
      );
      symbols = symbols_all_free known (length m.functions) (blocks_in 14 r.inner) (map (λ (f : Function). f.name) m.functions) r.symbols a.functions (length-map m.functions (λ (f : Function). f.name)) names;
      bodies = each_body known m a 0 (with_bodies known.functions) (blocks_in 12 r.inner) (bodies m.functions) (λ i. ap (λ k. get_or (with_bodies known.functions) k []) (omega arith)) (omega arith)
          head r.code r.sound.bodies_sound (bodies_in_range m.functions r.in_range.functions);
    }

module_records : (blocks : Contents) (m : Module) (r : Recorded blocks m) → FreeRecords (λ b e y. module_kinds (known_of r.inner) b e) [] (entries_in r.inner)
module_records blocks m r =
    let known : Known = known_of r.inner in
    let a : Agrees known m = agrees blocks m r in
    subst (FreeRecords (λ b e y. module_kinds known b e) []) (sym r.spelled)
    (module_free known [] r.records (inr (refl, ap length r.version)) (inr (refl, ap length r.triple)) (inr (refl, ap length r.layout))
    (subst (All IsText) (sym r.triple) (one_text m.triple r.in_range.triple)) (subst (All IsText) (sym r.layout) (one_text m.layout r.in_range.layout))
    (subst (Declared known) (sym r.functions) (declared_all known m a m.functions r.sound.functions r.in_range.functions (pointers_typed m r.globals r.sound.typed))))

complete : (blocks : Contents) (m : Module) (r : Recorded blocks m) → is_complete (known_of r.inner) r.inner ≡ true
complete blocks m r =
    let known : Known = known_of r.inner in
    let es = entries_in r.inner in
    let stands = λ (code : ℕ) (here : has_code code (map module_entry r.records) ≡ true). ap (has_code code) r.spelled ∙ here in
    let head : Headed (with_bodies known.functions) (bodies m.functions)
    = subst (λ es. Headed (with_bodies (function_entries es)) (bodies m.functions)) (sym r.spelled) (headed r.records m.functions r.functions) in
    both (has_code 1 es) _ (stands 1 (version_stands r.records (ap length r.version)))
    (both (has_code 2 es) _ (stands 2 (triple_stands r.records (ap length r.triple)))
    (both (has_code 3 es) _ (stands 3 (layout_stands r.records (ap length r.layout)))
    (both (has_block 17 r.inner) _ (below 0 (length (blocks_in 17 r.inner)) (omega (arith, ap length r.one_type_table)))
    (at_most (body_count known) (bodies_before r.inner)
    (omega (arith, headed_long (with_bodies known.functions) (bodies m.functions) head, recorded_long m (blocks_in 12 r.inner) (bodies m.functions) r.code))))))

inner_free : (blocks : Contents) (m : Module) (r : Recorded blocks m) → All IsFree (sites (module_table (known_of r.inner)) 0 r.inner)
inner_free blocks m r =
    let known : Known = known_of r.inner in
    free (module_table known) 0 1 no_more r.inner (module_records blocks m r) (module_blocks known 1 no_more r.inner r.known_blocks (module_fits blocks m r))
    (unless (is_complete known r.inner) 1 (complete blocks m r))

pub no_record_fault : NoRecordFault
no_record_fault blocks m r =
    let whole : Contents = a_block 8 r.inner no_more in
    subst (λ b. All IsFree (record_sites b)) (sym r.one_module)
    (All-cons IsFree (site 0 0 []) (sites_after outer_table 0 0 no_more whole) refl
    (free outer_table 0 0 no_more whole tt (refl, inner_free blocks m r, tt) refl))
