-- A block list without a fault records the module that it says.
use Rattle.std.proofs.Common.{◌≡◌, ℕ, suc, ◌+◌, ◌<◌, ◌≤◌, List, [], ◌∷◌, map, length, get_or, refl, ap, sym, ◌∙◌, subst, arith}
use Rattle.std.specs.Prelude.{Bool, true, false, ◌&&◌, ◌==◌, if◌then◌else◌, nat_le, is_some, IsSome, All}
use Rattle.std.proofs.lemmas.List.Elements.{All-nil, All-cons, All-append, All-map}
use Rattle.ir_core.specs.declared.module.Ty.TheVariants.{Pointer}
use Rattle.ir_core.specs.declared.module.Function.{Function}
use Rattle.ir_core.specs.declared.module.GlobalVar.{GlobalVar}
use Rattle.ir_core.specs.declared.module.Named.{Named}
use Rattle.ir_core.specs.declared.module.Module.{Module}
use Rattle.ir_core.specs.Values.{function_value, constant_value, signature, module_values, bodies, number_of}
use Rattle.ir_core.specs.Soundness.{IsSound, IsSoundMeta, IsAlignment, Names}
use Rattle.bc_stream.specs.Blocks.{Contents, no_more, a_block}
use Rattle.bc_records.specs.Entries.{Entry, entries_in, blocks_in, IsWord, IsText}
use Rattle.bc_records.specs.FaultSites.{IsFree}
use Rattle.bc_records.specs.ModuleRecords.{ModuleRecord, module_entry, declarations, declaration_of}
use Rattle.bc_records.specs.TypeRecords.{table_of}
use Rattle.bc_records.specs.SymbolRecords.{SymbolsRecorded}
use Rattle.bc_records.specs.Records.{Recorded}
use Rattle.bc_records.specs.Ranges.{IsInRange}
use Rattle.bc_records.specs.RecordKinds.{Known, known_of, code_of, operands_of, is_word, signature_at, has_pointer_to, has_code, has_block, type_entries, constant_kinds, module_value_count, first_of, all_of, function_entries, with_bodies}
use Rattle.bc_records.specs.RecordFaults.{record_sites, body_count, bodies_before}
use Rattle.bc_records.specs.Read.{text, read_type, read_types, read_constants, read_metas, read_named, read_symbol, read_text, declared, with_code, read_outline, read_inner, read_module}
use Rattle.bc_records.proofs.Agreement.{Agrees}
use Rattle.bc_records.proofs.FreeModules.{Declared}
use Rattle.bc_records.proofs.Tests.{Each}
use Rattle.bc_records.proofs.ReadTypes.{TypesTold, types_told}
use Rattle.bc_records.proofs.ReadConstants.{ConstantsTold, constants_told}
use Rattle.bc_records.proofs.ReadMetadata.{MetadataTold, metadata_told}
use Rattle.bc_records.proofs.ReadSymbols.{SymbolsTold, symbols_told}
use Rattle.bc_records.proofs.HeldBlocks.{TypesHeld, EachBodyHeld, Holds, OneBlock, one_block_held, ModuleHeld, module_held}
use Rattle.bc_records.proofs.ReadRecords.{FreeModule, module_spelled, one_version, one_triple, one_layout, each_declared}
use Rattle.bc_records.proofs.HaveTypes.{HasType, have_types, functions_typed, constants_typed}
use Rattle.bc_records.proofs.ReadBodies.{Around}
use Rattle.bc_records.proofs.ReadFunctions.{Typed, Bare, bare_declared, bare_names, typed_bare, typed_code, typed_long, names_code, agrees_read, declared_each, declared_code, EachTold, each_recorded, each_sound, each_fits, each_told, functions_fit}
use Rattle.std.proofs.lemmas.Bool.{and_parts, leb-true, ltb-true}
use Rattle.bc_records.proofs.Told.{Plain, told_word}

-- counts

only_one : (bs : List Contents) → length bs ≤ 1 → 0 < length bs → (b : Contents) × (bs ≡ b ∷ [])
only_one [] most least = absurd (omega (arith, least))
only_one (b ∷ []) most least = (b, refl)
only_one (b ∷ c ∷ bs) most least = absurd (omega (arith, most))

few_bodies : (known : Known) (at : ℕ) (bs : List Contents) → at ≤ body_count known → EachBodyHeld known at bs → at + length bs ≤ body_count known
few_bodies known at [] low held = omega (arith, low)
few_bodies known at (b ∷ bs) low held = omega (arith, few_bodies known (suc at) bs held.0 held.2)

-- functions have no names before they are read
unnamed : (xs : List (List ℕ)) → All (λ (f : Function). f.name ≡ []) (declared xs)
unnamed [] = All-nil (λ (f : Function). f.name ≡ [])
unnamed (x ∷ xs) = All-cons (λ (f : Function). f.name ≡ []) _ (declared xs) refl (unnamed xs)

declared_long : (xs : List (List ℕ)) → length (declared xs) ≡ length xs
declared_long [] = refl
declared_long (x ∷ xs) = ap suc (declared_long xs)

-- characters are bytes
text_fits : (xs : List ℕ) → IsText (text xs)
text_fits [] = All-nil (λ c. c < 256)
text_fits (x ∷ xs) = All-cons (λ c. c < 256) _ (text xs) (omega arith) (text_fits xs)

read_text_fits : (code : ℕ) (es : List Entry) → IsText (read_text code es)
read_text_fits code [] = All-nil (λ c. c < 256)
read_text_fits code (e ∷ es) = by (code_of e == code) (read_text_fits code es)
  where
    by : (b : Bool) → IsText (read_text code es) → IsText (if b then text (operands_of e) else read_text code es)
    by true more = text_fits (operands_of e)
    by false more = more

-- what is told of a module's tables
record Tables (inner : Contents) : Type 0 where
  type_block : Contents
  one_type_table : blocks_in 17 inner ≡ type_block ∷ []
  types : TypesTold (known_of inner) type_block (read_types inner)
  few_types : IsWord (length (read_types inner))
  constants : ConstantsTold (length (read_types inner)) (blocks_in 11 inner) (read_constants inner)
  metadata : MetadataTold (known_of inner) (blocks_in 15 inner) (read_metas inner) (read_named inner)

tables_told : (inner : Contents) → ModuleHeld inner → IsWord (length (read_types inner)) → 0 < length (blocks_in 17 inner) → Tables inner
tables_told inner held few has =
    let known : Known = known_of inner in
    let blocks : Holds known no_more inner = held.blocks in
    let one = only_one (blocks_in 17 inner) (omega (arith, blocks.types_once)) has in
    let b : Contents = one.0 in
    let own : TypesHeld known b = (subst (Each (TypesHeld known)) one.1 blocks.types).0 in
    let types : TypesTold known b (read_types inner)
    = subst (λ bs. TypesTold known b (table_of [] (map read_type (first_of bs)))) (sym one.1)
    (types_told known b (ap (λ bs. type_entries (first_of bs)) one.1) own.0 own.1) in
    record {
      type_block = b;
      one_type_table = one.1;
      types = types;
      few_types = few;
      constants = constants_told (length (read_types inner)) (blocks_in 11 inner) few
          (subst (λ n. Each (Plain (λ before e after. constant_kinds n before e)) (blocks_in 11 inner)) types.long blocks.constants);
      metadata = metadata_told known (blocks_in 15 inner) blocks.metadata;
    }

-- the functions, and what is told of their types
record Functions (inner : Contents) (rs : List ModuleRecord) : Type 0 where
  declared_all : Declared (known_of inner) (declarations rs)
  bare : Bare (function_entries (entries_in inner)) (read_outline inner).functions
  typed : Typed (function_entries (entries_in inner)) (read_inner inner).functions
  count : length (blocks_in 12 inner) ≡ length (with_bodies (function_entries (entries_in inner)))

functions_told : (inner : Contents) (held : ModuleHeld inner) (rs : List ModuleRecord) → entries_in inner ≡ map module_entry rs → body_count (known_of inner) ≤ bodies_before inner → Functions inner rs
functions_told inner held rs spelled enough =
    let known : Known = known_of inner in
    let xs : List (List ℕ) = function_entries (entries_in inner) in
    let free : FreeModule known [] (map module_entry rs) = subst (FreeModule known []) spelled held.records in
    let all : Declared known (declarations rs) = each_declared known [] rs free in
    let bare : Bare xs (read_outline inner).functions
    = bare_names xs (declared xs) (map read_symbol (all_of (blocks_in 14 inner)))
    (subst (λ es. Bare (function_entries es) (declared (function_entries es))) (sym spelled) (bare_declared known rs all)) in
    record {
      declared_all = all;
      bare = bare;
      typed = typed_code (read_outline inner) xs (read_outline inner).functions (blocks_in 12 inner) bare;
      count = omega (arith, enough, few_bodies known 0 (blocks_in 12 inner) (omega arith) held.blocks.bodies);
    }

-- the module agrees with its records, and so does the module without its bodies
around_told : (inner : Contents) (rs : List ModuleRecord) → entries_in inner ≡ map module_entry rs → Tables inner → Functions inner rs → Around (known_of inner) (read_inner inner) (read_outline inner)
around_told inner rs spelled t f =
    let known : Known = known_of inner in
    let m : Module = read_inner inner in
    let outline : Module = read_outline inner in
    let whole : Agrees known m = agrees_read known m t.type_block t.types refl f.typed t.constants.long t.metadata.long in
    let typed = subst (λ es. Typed (function_entries es) m.functions) spelled f.typed in
    let numbered : All (λ (f : Function). IsSome (number_of m.types (Pointer f.ty 0))) m.functions
    = declared_each known (λ ty. IsSome (number_of m.types (Pointer ty 0)))
    (λ ty is. t.types.pointer_types ty (and_parts (is_some (signature_at known ty)) (has_pointer_to known ty) (and_parts (is_word ty) (is_some (signature_at known ty) && has_pointer_to known ty) is).1).1)
    rs m.functions f.declared_all typed in
    record {
      whole = whole;
      parts = agrees_read known outline t.type_block t.types refl (typed_bare (function_entries (entries_in inner)) outline.functions f.bare) t.constants.long t.metadata.long;
      few_types = t.few_types;
      types = t.types.sound;
      values = All-append (HasType m) (map function_value m.functions) (map constant_value m.consts) (functions_typed m m.functions numbered) (constants_typed m m.consts t.constants.sound);
    }

-- the bodies
bodies_told : (inner : Contents) (rs : List ModuleRecord) → ModuleHeld inner → Functions inner rs → Around (known_of inner) (read_inner inner) (read_outline inner) →
    EachTold (read_inner inner) (blocks_in 12 inner) (bodies (read_inner inner).functions)
bodies_told inner rs held f around =
    let known : Known = known_of inner in
    let xs : List (List ℕ) = function_entries (entries_in inner) in
    each_told known (read_inner inner) (read_outline inner) around 0 xs (read_outline inner).functions (blocks_in 12 inner)
    ((λ i. ap (λ k. get_or (with_bodies xs) k []) (omega arith)), f.count, held.blocks.bodies) f.bare

sound_told : (inner : Contents) (rs : List ModuleRecord) → entries_in inner ≡ map module_entry rs → Tables inner → Functions inner rs → Around (known_of inner) (read_inner inner) (read_outline inner) →
    EachTold (read_inner inner) (blocks_in 12 inner) (bodies (read_inner inner).functions) → IsSound (read_inner inner)
sound_told inner rs spelled t f around each =
    let known : Known = known_of inner in
    let m : Module = read_inner inner in
    let a : Agrees known m = around.whole in
    let typed = subst (λ es. Typed (function_entries es) m.functions) spelled f.typed in
    record {
      types = t.types.sound;
      globals = All-nil (λ (g : GlobalVar). Names (length m.types) g.ty × IsAlignment g.align);
      functions = declared_each known (λ ty. IsSome (signature m.types ty))
          (λ ty is. ap is_some (sym (a.signatures ty)) ∙ (and_parts (is_some (signature_at known ty)) (has_pointer_to known ty) (and_parts (is_word ty) (is_some (signature_at known ty) && has_pointer_to known ty) is).1).0)
          rs m.functions f.declared_all typed;
      consts = t.constants.sound;
      typed = have_types m (module_values m) around.values;
      metas = subst (λ k. All (IsSoundMeta k (length (module_values m)) (length m.metas)) m.metas) a.types
          (subst (λ k. All (IsSoundMeta (length known.types) k (length m.metas)) m.metas) a.values
          (subst (λ k. All (IsSoundMeta (length known.types) (module_value_count known) k) m.metas) a.metas t.metadata.sound));
      named = subst (λ k. All (λ (n : Named). All (Names k) n.ids) m.named) a.metas t.metadata.named_sound;
      bodies_sound = each_sound m (blocks_in 12 inner) (bodies m.functions) each;
    }

-- the names of functions
names_told : (inner : Contents) (rs : List ModuleRecord) → ModuleHeld inner → Functions inner rs → SymbolsTold (length (read_inner inner).functions) (blocks_in 14 inner) (read_outline inner).functions
names_told inner rs held f =
    let xs : List (List ℕ) = function_entries (entries_in inner) in
    subst (λ n. SymbolsTold n (blocks_in 14 inner) (read_outline inner).functions) (typed_long xs (read_inner inner).functions f.typed)
    (symbols_told (length xs) (blocks_in 14 inner) (declared xs) held.blocks.symbols (declared_long xs) (unnamed xs))

range_told : (inner : Contents) (rs : List ModuleRecord) → entries_in inner ≡ map module_entry rs → Tables inner → Functions inner rs →
    All IsText (map (λ (f : Function). f.name) (read_inner inner).functions) →
    EachTold (read_inner inner) (blocks_in 12 inner) (bodies (read_inner inner).functions) → IsInRange (read_inner inner)
range_told inner rs spelled t f names each =
    let known : Known = known_of inner in
    let m : Module = read_inner inner in
    let typed = subst (λ es. Typed (function_entries es) m.functions) spelled f.typed in
    let words : All (λ (f : Function). IsWord f.ty) m.functions
    = declared_each known IsWord (λ ty is. told_word ty (and_parts (is_word ty) (is_some (signature_at known ty) && has_pointer_to known ty) is).0) rs m.functions f.declared_all typed in
    record {
      triple = read_text_fits 2 (entries_in inner);
      layout = read_text_fits 3 (entries_in inner);
      types = t.types.range;
      functions = functions_fit m.functions names words (each_fits m (blocks_in 12 inner) (bodies m.functions) each);
      consts = t.constants.range;
      metas = t.metadata.range;
      named = t.metadata.named_range;
    }

inner_recorded : (inner : Contents) → ModuleHeld inner → IsWord (length (read_types inner)) → Recorded (a_block 8 inner no_more) (read_inner inner)
inner_recorded inner held few =
    let known : Known = known_of inner in
    let m : Module = read_inner inner in
    let outline : Module = read_outline inner in
    let es : List Entry = entries_in inner in
    let xs : List (List ℕ) = function_entries es in
    let last : Bool = nat_le (body_count known) (bodies_before inner) in
    let one = and_parts (has_code 1 es) (has_code 2 es && (has_code 3 es && (has_block 17 inner && last))) held.complete in
    let two = and_parts (has_code 2 es) (has_code 3 es && (has_block 17 inner && last)) one.1 in
    let three = and_parts (has_code 3 es) (has_block 17 inner && last) two.1 in
    let four = and_parts (has_block 17 inner) last three.1 in
    let all = module_spelled known es held.records in
    let rs : List ModuleRecord = all.0 in
    let spelled : es ≡ map module_entry rs = all.1 in
    let free : FreeModule known [] (map module_entry rs) = subst (FreeModule known []) spelled held.records in
    let t : Tables inner = tables_told inner held few (ltb-true 0 (length (blocks_in 17 inner)) four.0) in
    let f : Functions inner rs = functions_told inner held rs spelled (leb-true (body_count known) (bodies_before inner) four.1) in
    let around : Around known m outline = around_told inner rs spelled t f in
    let each : EachTold m (blocks_in 12 inner) (bodies m.functions) = bodies_told inner rs held f around in
    let same_names : map (λ (f : Function). f.name) m.functions ≡ map (λ (f : Function). f.name) outline.functions = names_code outline xs outline.functions (blocks_in 12 inner) f.bare in
    let names : SymbolsTold (length m.functions) (blocks_in 14 inner) outline.functions = names_told inner rs held f in
    let texts : All IsText (map (λ (f : Function). f.name) m.functions)
    = subst (All IsText) (sym same_names) (All-map IsText (λ (f : Function). f.name) outline.functions names.texts) in
    record {
      inner = inner;
      one_module = refl;
      known_blocks = held.blocks.ids;
      records = rs;
      spelled = spelled;
      version = one_version known [] rs (sym (ap (has_code 1) spelled) ∙ one.0) free;
      triple = one_triple known [] rs (sym (ap (has_code 2) spelled) ∙ two.0) free ∙ ap (λ xs. read_text 2 xs ∷ []) (sym spelled);
      layout = one_layout known [] rs (sym (ap (has_code 3) spelled) ∙ three.0) free ∙ ap (λ xs. read_text 3 xs ∷ []) (sym spelled);
      globals = refl;
      functions = declared_code known outline rs outline.functions (blocks_in 12 inner) f.declared_all
          (subst (λ xs. Bare (function_entries xs) outline.functions) spelled f.bare) (f.count ∙ ap (λ xs. length (with_bodies (function_entries xs))) spelled)
          ∙ ap (λ xs. map declaration_of (with_code outline (function_entries xs) outline.functions (blocks_in 12 inner))) (sym spelled);
      type_block = t.type_block;
      one_type_table = t.one_type_table;
      types = t.types.recorded;
      constants = t.constants.recorded;
      metadata = t.metadata.recorded;
      symbols = subst (SymbolsRecorded (length m.functions) (blocks_in 14 inner)) (sym same_names) names.recorded;
      code = each_recorded m (blocks_in 12 inner) (bodies m.functions) each;
      sound = sound_told inner rs spelled t f around each;
      in_range = range_told inner rs spelled t f texts each;
    }

-- A block list without records outside its blocks, in which no place has a kind of fault and whose type table has
-- fewer than 2^32 entries, records the module that it says.
pub free_is_recorded : (c : Contents) → entries_in c ≡ [] → IsWord (length (read_module c).types) → All IsFree (record_sites c) → Recorded c (read_module c)
free_is_recorded c blocks_alone few free =
    let one : OneBlock c = one_block_held c blocks_alone free in
    subst (λ b. Recorded b (read_module b)) (sym one.is)
    (inner_recorded one.inner (module_held one.inner one.free) (subst (λ b. IsWord (length (read_module b).types)) one.is few))
