-- The blocks of a module, of a body and outside all blocks, where no place has a kind of fault.
use Rattle.std.proofs.Common.{◌≡◌, ℕ, suc, ◌+◌, ◌<◌, ◌≤◌, List, [], ◌∷◌, ◌++◌, length, get_or, refl, ap, sym, ◌∙◌, subst, arith}
use Rattle.std.specs.Prelude.{Bool, true, false, ◌==◌, ◌||◌, if◌then◌else◌, nat_lt, All, Contains}
use Rattle.std.proofs.lemmas.List.{length-append}
use Rattle.std.proofs.lemmas.List.Elements.{All-nil, All-cons, All-head, All-tail}
use Rattle.bc_stream.specs.Blocks.{Contents, no_more, a_record, a_block, append}
use Rattle.bc_records.specs.Entries.{Entry, entries_in, block_ids, blocks_in, block_count}
use Rattle.bc_records.specs.FaultSites.{Site, site, IsFree, sites, sites_after}
use Rattle.bc_records.specs.RecordKinds.{Known, Numbers, numbers_of, with_bodies, all_of, kind_if, kind_unless, has_block, has_code, type_kinds, constant_kinds, metadata_kinds, symbol_kinds, body_kinds, module_kinds, known_of}
use Rattle.bc_records.specs.RecordFaults.{types_table, constants_table, metadata_table, symbols_table, body_table, body_heads, body_inside, module_table, module_heads, module_inside, bodies_before, body_count, misplaced, outer_table, outer_heads, outer_inside, record_sites, is_complete}
use Rattle.bc_records.proofs.FreeSites.{FreeBlocks, FreeRecords, more_none}
use Rattle.bc_records.proofs.FreeSymbols.{joined}
use Rattle.bc_records.proofs.FreeBlocks.{blocks_append, five}
use Rattle.bc_records.proofs.SitesFree.{has_place, held_flat, held}
use Rattle.bc_records.proofs.Tests.{Each}
use Rattle.bc_records.proofs.ReadSymbols.{PlainSymbols}
use Rattle.std.proofs.lemmas.Bool.{eqb-true, leb-false, ltb-true, true≢false}
use Rattle.bc_records.proofs.Told.{Plain, chosen, either_passes, told_if, told_unless}

-- constants

abbrev pub ConstantsHeld : Known → Contents → Type 0
ConstantsHeld known block = Plain (λ before e after. constant_kinds (length known.types) before e) block

constants_held : (known : Known) (number : ℕ) (block : Contents) → All IsFree (sites (constants_table known) number block) → ConstantsHeld known block
constants_held known number block all =
    let h = held_flat (λ before e after. constant_kinds (length known.types) before e) (λ b. []) number block all in (h.1, h.0)

-- bodies

body_ids : (id : ℕ) → body_heads id ≡ [] → Contains (11 ∷ 14 ∷ 15 ∷ []) id
body_ids id none =
    chosen ((id == 11) || ((id == 14) || (id == 15))) [] (misplaced id) none
    (λ is here. either_passes (id == 11) ((id == 14) || (id == 15)) is (λ e. (0, omega arith, sym (eqb-true id 11 e)))
    (λ others. either_passes (id == 14) (id == 15) others (λ e. (1, omega arith, sym (eqb-true id 14 e))) (λ e. (2, omega arith, sym (eqb-true id 15 e)))))
    (λ other rest. absurd (has_place id rest))

-- a block of constants in a body
constants_inside : (known : Known) (number id : ℕ) (inner rest : Contents) → All IsFree (body_inside known id number inner) → Each (ConstantsHeld known) (blocks_in 11 rest) →
    Each (ConstantsHeld known) (blocks_in 11 (a_block id inner rest))
constants_inside known number id inner rest all each = by (id == 11) all
  where
    by : (b : Bool) → All IsFree (if b then sites (constants_table known) number inner else []) → Each (ConstantsHeld known) (if b then inner ∷ blocks_in 11 rest else blocks_in 11 rest)
    by true all = (constants_held known number inner all, each)
    by false all = each

pub body_blocks_held : (known : Known) (numbers : Numbers) (first : ℕ) (before rest : Contents) → FreeBlocks (body_table known numbers) first before rest →
    All (Contains (11 ∷ 14 ∷ 15 ∷ [])) (block_ids rest) × Each (ConstantsHeld known) (blocks_in 11 rest)
body_blocks_held known numbers first before no_more free = (All-nil (Contains (11 ∷ 14 ∷ 15 ∷ [])), tt)
body_blocks_held known numbers first before (a_record code values rest) free = body_blocks_held known numbers first (append before (a_record code values no_more)) rest free
body_blocks_held known numbers first before (a_block id inner rest) free =
    let more = body_blocks_held known numbers first (append before (a_block id inner no_more)) rest free.2 in (
      All-cons (Contains (11 ∷ 14 ∷ 15 ∷ [])) id (block_ids rest) (body_ids id free.0) more.0,
      constants_inside known (first + block_count before) id inner rest free.1 more.1,
    )

-- a body, with the operands of its function
pub record BodyHeld (known : Known) (operands : List ℕ) (block : Contents) : Type 0 where
  pub ids : All (Contains (11 ∷ 14 ∷ 15 ∷ [])) (block_ids block)
  pub constants : Each (ConstantsHeld known) (blocks_in 11 block)
  pub records : FreeRecords (λ before e after. body_kinds known (numbers_of known operands block) before e) [] (entries_in block)
  pub declared : has_code 1 (entries_in block) ≡ true

body_held : (known : Known) (operands : List ℕ) (number : ℕ) (block : Contents) → All IsFree (sites (body_table known (numbers_of known operands block)) number block) → BodyHeld known operands block
body_held known operands number block all =
    let numbers : Numbers = numbers_of known operands block in
    let h = held (body_table known numbers) number (suc number) no_more block all in
    let blocks = body_blocks_held known numbers (suc number) no_more block h.1 in
    record { ids = blocks.0; constants = blocks.1; records = h.0; declared = told_unless (has_code 1 (entries_in block)) 1 h.2 }

-- modules

abbrev pub TypesHeld : Known → Contents → Type 0
TypesHeld known block = Plain (λ before e after. type_kinds (length known.types) before e) block × (has_code 1 (entries_in block) ≡ true)

types_held : (known : Known) (number : ℕ) (block : Contents) → All IsFree (sites (types_table known) number block) → TypesHeld known block
types_held known number block all =
    let h = held_flat (λ before e after. type_kinds (length known.types) before e) (λ b. kind_unless (has_code 1 (entries_in b)) 1) number block all in
    ((h.1, h.0), told_unless (has_code 1 (entries_in block)) 1 h.2)

abbrev pub MetadataHeld : Known → Contents → Type 0
MetadataHeld known block = Plain (metadata_kinds known) block

metadata_held : (known : Known) (number : ℕ) (block : Contents) → All IsFree (sites (metadata_table known) number block) → MetadataHeld known block
metadata_held known number block all = let h = held_flat (metadata_kinds known) (λ b. []) number block all in (h.1, h.0)

abbrev SymbolsHeld : Known → List Entry → Contents → Type 0
SymbolsHeld known earlier block = Plain (λ before e after. symbol_kinds (length known.functions) (earlier ++ before) e) block

symbols_held : (known : Known) (earlier : List Entry) (number : ℕ) (block : Contents) → All IsFree (sites (symbols_table known earlier) number block) → SymbolsHeld known earlier block
symbols_held known earlier number block all =
    let h = held_flat (λ before e after. symbol_kinds (length known.functions) (earlier ++ before) e) (λ b. []) number block all in (h.1, h.0)

-- the blocks FUNCTION from one on are the bodies of functions
abbrev pub EachBodyHeld : Known → (at : ℕ) → List Contents → Type 0
EachBodyHeld known at [] = Unit {0}
EachBodyHeld known at (b ∷ bs) =
    (at < body_count known) × BodyHeld known (get_or (with_bodies known.functions) at []) b × EachBodyHeld known (suc at) bs

-- the blocks of a module after some others
pub record Holds (known : Known) (before rest : Contents) : Type 0 where
  pub ids : All (Contains (11 ∷ 12 ∷ 14 ∷ 15 ∷ 17 ∷ [])) (block_ids rest)
  pub types : Each (TypesHeld known) (blocks_in 17 rest)
  pub types_once : length (blocks_in 17 before) + length (blocks_in 17 rest) ≤ 1
  pub constants : Each (ConstantsHeld known) (blocks_in 11 rest)
  pub metadata : Each (MetadataHeld known) (blocks_in 15 rest)
  pub symbols : PlainSymbols (length known.functions) (all_of (blocks_in 14 before)) (blocks_in 14 rest)
  pub bodies : EachBodyHeld known (bodies_before before) (blocks_in 12 rest)

-- what stands after one more, said by what stood before it and by it
record After (known : Known) (before one rest : Contents) : Type 0 where
  ids : All (Contains (11 ∷ 12 ∷ 14 ∷ 15 ∷ 17 ∷ [])) (block_ids rest)
  types : Each (TypesHeld known) (blocks_in 17 rest)
  types_once : length (blocks_in 17 before) + (length (blocks_in 17 one) + length (blocks_in 17 rest)) ≤ 1
  constants : Each (ConstantsHeld known) (blocks_in 11 rest)
  metadata : Each (MetadataHeld known) (blocks_in 15 rest)
  symbols : PlainSymbols (length known.functions) (all_of (blocks_in 14 before) ++ all_of (blocks_in 14 one)) (blocks_in 14 rest)
  bodies : EachBodyHeld known (bodies_before before + bodies_before one) (blocks_in 12 rest)

all_append : (xs ys : List Contents) → all_of (xs ++ ys) ≡ all_of xs ++ all_of ys
all_append [] ys = refl
all_append (x ∷ xs) ys = ap (λ es. entries_in x ++ es) (all_append xs ys) ∙ sym (joined (entries_in x) (all_of xs) (all_of ys))

after_one : (known : Known) (before one rest : Contents) → Holds known (append before one) rest → After known before one rest
after_one known before one rest h = record {
  ids = h.ids;
  types = h.types;
  types_once = omega (arith, h.types_once, ap length (blocks_append 17 before one), length-append (blocks_in 17 before) (blocks_in 17 one));
  constants = h.constants;
  metadata = h.metadata;
  symbols = subst (λ es. PlainSymbols (length known.functions) es (blocks_in 14 rest)) (ap all_of (blocks_append 14 before one) ∙ all_append (blocks_in 14 before) (blocks_in 14 one)) h.symbols;
  bodies = subst (λ n. EachBodyHeld known n (blocks_in 12 rest)) (ap length (blocks_append 12 before one) ∙ length-append (blocks_in 12 before) (blocks_in 12 one)) h.bodies;
}

symbols_same : (n : ℕ) (earlier : List Entry) (bs : List Contents) → PlainSymbols n (earlier ++ []) bs → PlainSymbols n earlier bs
symbols_same n earlier bs h = subst (λ es. PlainSymbols n es bs) (more_none earlier) h

bodies_same : (known : Known) (a b : ℕ) (bs : List Contents) → a ≡ b → EachBodyHeld known a bs → EachBodyHeld known b bs
bodies_same known a b bs same h = subst (λ n. EachBodyHeld known n bs) same h

abbrev Known_id : ℕ → Type 0
Known_id id = Contains (11 ∷ 12 ∷ 14 ∷ 15 ∷ 17 ∷ []) id

abbrev Step : Known → Contents → Contents → Contents → ℕ → Type 0
Step known before inner rest id =
    (number : ℕ) → Known_id id → All IsFree (module_inside known before id number inner) → After known before (a_block id inner no_more) rest → Holds known before (a_block id inner rest)

step_constants : (known : Known) (before inner rest : Contents) → Step known before inner rest 11
step_constants known before inner rest number has all a = record {
  ids = All-cons Known_id 11 (block_ids rest) has a.ids;
  types = a.types;
  types_once = omega (arith, a.types_once);
  constants = (constants_held known number inner all, a.constants);
  metadata = a.metadata;
  symbols = symbols_same (length known.functions) (all_of (blocks_in 14 before)) (blocks_in 14 rest) a.symbols;
  bodies = bodies_same known (bodies_before before + 0) (bodies_before before) (blocks_in 12 rest) (omega arith) a.bodies;
}

step_metadata : (known : Known) (before inner rest : Contents) → Step known before inner rest 15
step_metadata known before inner rest number has all a = record {
  ids = All-cons Known_id 15 (block_ids rest) has a.ids;
  types = a.types;
  types_once = omega (arith, a.types_once);
  constants = a.constants;
  metadata = (metadata_held known number inner all, a.metadata);
  symbols = symbols_same (length known.functions) (all_of (blocks_in 14 before)) (blocks_in 14 rest) a.symbols;
  bodies = bodies_same known (bodies_before before + 0) (bodies_before before) (blocks_in 12 rest) (omega arith) a.bodies;
}

step_types : (known : Known) (before inner rest : Contents) → Step known before inner rest 17
step_types known before inner rest number has all a = record {
  ids = All-cons Known_id 17 (block_ids rest) has a.ids;
  types = (types_held known number inner all, a.types);
  types_once = omega (arith, a.types_once);
  constants = a.constants;
  metadata = a.metadata;
  symbols = symbols_same (length known.functions) (all_of (blocks_in 14 before)) (blocks_in 14 rest) a.symbols;
  bodies = bodies_same known (bodies_before before + 0) (bodies_before before) (blocks_in 12 rest) (omega arith) a.bodies;
}

step_symbols : (known : Known) (before inner rest : Contents) → Step known before inner rest 14
step_symbols known before inner rest number has all a = record {
  ids = All-cons Known_id 14 (block_ids rest) has a.ids;
  types = a.types;
  types_once = omega (arith, a.types_once);
  constants = a.constants;
  metadata = a.metadata;
  symbols = (
    symbols_held known (all_of (blocks_in 14 before)) number inner all,
    subst (λ es. PlainSymbols (length known.functions) (all_of (blocks_in 14 before) ++ es) (blocks_in 14 rest)) (more_none (entries_in inner)) a.symbols,
  );
  bodies = bodies_same known (bodies_before before + 0) (bodies_before before) (blocks_in 12 rest) (omega arith) a.bodies;
}

-- a block FUNCTION is counted
step_body : (known : Known) (before inner rest : Contents) → bodies_before before < body_count known → Step known before inner rest 12
step_body known before inner rest less number has all a = record {
  ids = All-cons Known_id 12 (block_ids rest) has a.ids;
  types = a.types;
  types_once = omega (arith, a.types_once);
  constants = a.constants;
  metadata = a.metadata;
  symbols = symbols_same (length known.functions) (all_of (blocks_in 14 before)) (blocks_in 14 rest) a.symbols;
  bodies = (
    less,
    body_held known (get_or (with_bodies known.functions) (bodies_before before) []) number inner all,
    bodies_same known (bodies_before before + 1) (suc (bodies_before before)) (blocks_in 12 rest) (omega arith) a.bodies,
  );
}

-- what the head of a block in a module tells

known_ids : (known : Known) (before : Contents) (id : ℕ) → module_heads known before id ≡ [] → Known_id id
known_ids known before id none =
    let types = kind_if (has_block 17 before) 6 in
    let bodies = kind_unless (nat_lt (bodies_before before) (body_count known)) 6 in
    chosen ((id == 11) || ((id == 14) || (id == 15))) [] (if id == 17 then types else if id == 12 then bodies else misplaced id) none
    (λ is here. either_passes (id == 11) ((id == 14) || (id == 15)) is (λ e. (0, omega arith, sym (eqb-true id 11 e)))
    (λ others. either_passes (id == 14) (id == 15) others (λ e. (2, omega arith, sym (eqb-true id 14 e))) (λ e. (3, omega arith, sym (eqb-true id 15 e)))))
    (λ other rest. chosen (id == 17) types (if id == 12 then bodies else misplaced id) rest (λ e here. (4, omega arith, sym (eqb-true id 17 e)))
    (λ no more. chosen (id == 12) bodies (misplaced id) more (λ e here. (1, omega arith, sym (eqb-true id 12 e)))
    (λ not last. absurd (has_place id last))))

body_counted : (known : Known) (before : Contents) → module_heads known before 12 ≡ [] → bodies_before before < body_count known
body_counted known before none = ltb-true (bodies_before before) (body_count known) (told_unless (nat_lt (bodies_before before) (body_count known)) 6 none)

-- whether there are fewer than two type tables so far
once_so_far : (known : Known) (before inner : Contents) (id : ℕ) → Known_id id → module_heads known before id ≡ [] → length (blocks_in 17 before) ≤ 1 →
    length (blocks_in 17 (append before (a_block id inner no_more))) ≤ 1
once_so_far known before inner id has none so_far =
    five (λ x. module_heads known before x ≡ [] → length (blocks_in 17 (append before (a_block x inner no_more))) ≤ 1) id
    (λ h. plain (a_block 11 inner no_more) refl) (λ h. plain (a_block 12 inner no_more) refl) (λ h. plain (a_block 14 inner no_more) refl) (λ h. plain (a_block 15 inner no_more) refl)
    (λ h. first (told_if (has_block 17 before) 6 h)) has none
  where
    long : (one : Contents) → length (blocks_in 17 (append before one)) ≡ length (blocks_in 17 before) + length (blocks_in 17 one)
    long one = ap length (blocks_append 17 before one) ∙ length-append (blocks_in 17 before) (blocks_in 17 one)

    plain : (one : Contents) → length (blocks_in 17 one) ≡ 0 → length (blocks_in 17 (append before one)) ≤ 1
    plain one empty = omega (arith, long one, empty, so_far)

    first : has_block 17 before ≡ false → length (blocks_in 17 (append before (a_block 17 inner no_more))) ≤ 1
    first none = let low : length (blocks_in 17 before) < 1 = leb-false 1 (length (blocks_in 17 before)) none in omega (arith, long (a_block 17 inner no_more), low)

pub module_blocks_held : (known : Known) (first : ℕ) (before rest : Contents) → length (blocks_in 17 before) ≤ 1 → FreeBlocks (module_table known) first before rest → Holds known before rest
module_blocks_held known first before no_more once free =
    record { ids = All-nil Known_id; types = tt; types_once = omega (arith, once); constants = tt; metadata = tt; symbols = tt; bodies = tt }
module_blocks_held known first before (a_record code values rest) once free =
    let one : Contents = a_record code values no_more in
    let a : After known before one rest
    = after_one known before one rest (module_blocks_held known first (append before one) rest (omega (arith, once, ap length (blocks_append 17 before one), length-append (blocks_in 17 before) (blocks_in 17 one))) free) in record {
      ids = a.ids;
      types = a.types;
      types_once = omega (arith, a.types_once);
      constants = a.constants;
      metadata = a.metadata;
      symbols = symbols_same (length known.functions) (all_of (blocks_in 14 before)) (blocks_in 14 rest) a.symbols;
      bodies = bodies_same known (bodies_before before + 0) (bodies_before before) (blocks_in 12 rest) (omega arith) a.bodies;
    }
module_blocks_held known first before (a_block id inner rest) once free =
    let one : Contents = a_block id inner no_more in
    let has : Known_id id = known_ids known before id free.0 in
    let a : After known before one rest
    = after_one known before one rest (module_blocks_held known first (append before one) rest (once_so_far known before inner id has free.0 once) free.2) in
    five (λ x. module_heads known before x ≡ [] → Step known before inner rest x) id
    (λ h. step_constants known before inner rest) (λ h. step_body known before inner rest (body_counted known before h)) (λ h. step_symbols known before inner rest)
    (λ h. step_metadata known before inner rest) (λ h. step_types known before inner rest) has free.0 (first + block_count before) has free.1 a

-- outside all blocks stands one block MODULE

outer_id : (before : Contents) (id : ℕ) → outer_heads before id ≡ [] → (id ≡ 8) × (has_block 8 before ≡ false)
outer_id before id none =
    chosen (id == 8) (kind_if (has_block 8 before) 6) (misplaced id) none (λ e here. (eqb-true id 8 e, told_if (has_block 8 before) 6 here)) (λ other rest. absurd (has_place id rest))

-- after a block MODULE stands no other
nothing_after : (first : ℕ) (before rest : Contents) → has_block 8 before ≡ true → entries_in rest ≡ [] → FreeBlocks outer_table first before rest → rest ≡ no_more
nothing_after first before no_more has none free = refl
nothing_after first before (a_record code values rest) has none free = absurd (omega (arith, ap length none))
nothing_after first before (a_block id inner rest) has none free = absurd (true≢false (sym has ∙ (outer_id before id free.0).1))

-- a block list without records outside its blocks is one block MODULE
pub record OneBlock (c : Contents) : Type 0 where
  pub inner : Contents
  pub is : c ≡ a_block 8 inner no_more
  pub free : All IsFree (sites (module_table (known_of inner)) 0 inner)

one_block : (c : Contents) → entries_in c ≡ [] → has_block 8 c ≡ true → FreeBlocks outer_table 0 no_more c → OneBlock c
one_block no_more none has free = absurd (true≢false (sym has))
one_block (a_record code values rest) none has free = absurd (omega (arith, ap length none))
one_block (a_block id inner rest) none has free =
    let own : id ≡ 8 = (outer_id no_more id free.0).0 in
    let alone : rest ≡ no_more
    = nothing_after 0 (a_block id inner no_more) rest (subst (λ x. has_block 8 (a_block x inner no_more) ≡ true) (sym own) refl) none free.2 in
    record {
      inner = inner;
      is = ap (λ x. a_block x inner rest) own ∙ ap (a_block 8 inner) alone;
      free = subst (λ x. All IsFree (outer_inside x 0 inner)) own free.1;
    }

pub one_block_held : (c : Contents) → entries_in c ≡ [] → All IsFree (record_sites c) → OneBlock c
one_block_held c none all =
    let own : Site = site 0 0 (kind_unless (has_block 8 c) 1) in
    let others : List Site = sites_after outer_table 0 0 no_more c in
    one_block c none (told_unless (has_block 8 c) 1 (All-head IsFree own others all)) (held outer_table 0 0 no_more c (All-tail IsFree own others all)).1

-- what a module holds
pub record ModuleHeld (inner : Contents) : Type 0 where
  pub records : FreeRecords (λ before e after. module_kinds (known_of inner) before e) [] (entries_in inner)
  pub blocks : Holds (known_of inner) no_more inner
  pub complete : is_complete (known_of inner) inner ≡ true

pub module_held : (inner : Contents) → All IsFree (sites (module_table (known_of inner)) 0 inner) → ModuleHeld inner
module_held inner all =
    let known : Known = known_of inner in
    let h = held (module_table known) 0 1 no_more inner all in
    record { records = h.0; blocks = module_blocks_held known 1 no_more inner (omega arith) h.1; complete = told_unless (is_complete known inner) 1 h.2 }
