-- The kinds of each place ascend, so that the first of them is the least; with this a first fault is the fault.
use Rattle.std.proofs.Common.{◌≡◌, ℕ, suc, ◌+◌, ◌≤◌, ◌==◌, Bool, true, false, ◌||◌, if◌then◌else◌, None, Some, List, [], ◌∷◌, ◌++◌, length, refl, ap, sym, subst, arith}
use Rattle.std.specs.Prelude.{All, nat_lt, get_or}
use Rattle.std.proofs.lemmas.List.Elements.{All-nil, All-cons, All-append}
use Rattle.bc_stream.specs.Blocks.{Contents, no_more, a_record, a_block, append}
use Rattle.bc_records.specs.declared.faults.fault.Fault.{Fault}
use Rattle.bc_records.specs.Codes.{module_block, constants_block, function_block, symbols_block, metadata_block, types_block}
use Rattle.bc_records.specs.Entries.{Entry, entry, entries_in, blocks_in, block_count}
use Rattle.bc_records.specs.FaultSearch.{first_kind, fault_at, or_else, first_fault}
use Rattle.bc_records.specs.FaultSites.{Site, site, Table, IsFree, IsFirst, sites_after, sites}
use Rattle.bc_records.specs.RecordKinds.{Known, Numbers, kind_if, kind_unless, has_block, type_kinds, constant_kinds, metadata_kinds, symbol_kinds, body_kinds, module_kinds, known_of, numbers_of, with_bodies, all_of}
use Rattle.bc_records.specs.RecordFaults.{misplaced, types_table, constants_table, metadata_table, symbols_table, body_table, module_table, outer_table, body_heads, module_heads, module_inside, record_sites, bodies_before, body_count}

-- kinds from a least one on, in ascending order
abbrev pub Rises : (low : ℕ) → List ℕ → Type 0
Rises low [] = Unit {0}
Rises low (kind ∷ kinds) = (low ≤ kind) × Rises kind kinds

rises-from : (low high : ℕ) (kinds : List ℕ) → low ≤ high → Rises high kinds → Rises low kinds
rises-from low high [] le rises = tt
rises-from low high (kind ∷ kinds) le rises = (omega (arith, le, rises.0), rises.1)

rises-all : (low : ℕ) (kinds : List ℕ) → Rises low kinds → All (λ other. low ≤ other) kinds
rises-all low [] rises = All-nil (λ other. low ≤ other)
rises-all low (kind ∷ kinds) rises =
    All-cons (λ other. low ≤ other) kind kinds rises.0 (rises-all low kinds (rises-from low kind kinds rises.0 rises.1))

unless-then : (low kind : ℕ) (holds : Bool) (kinds : List ℕ) → low ≤ kind → Rises kind kinds → Rises low (kind_unless holds kind ++ kinds)
unless-then low kind true kinds le rises = rises-from low kind kinds le rises
unless-then low kind false kinds le rises = (le, rises)

if-then : (low kind : ℕ) (holds : Bool) (kinds : List ℕ) → low ≤ kind → Rises kind kinds → Rises low (kind_if holds kind ++ kinds)
if-then low kind true kinds le rises = (le, rises)
if-then low kind false kinds le rises = rises-from low kind kinds le rises

unless-alone : (low kind : ℕ) (holds : Bool) → low ≤ kind → Rises low (kind_unless holds kind)
unless-alone low kind true le = tt
unless-alone low kind false le = (le, tt)

if-alone : (low kind : ℕ) (holds : Bool) → low ≤ kind → Rises low (kind_if holds kind)
if-alone low kind true le = (le, tt)
if-alone low kind false le = tt

alone : (low kind : ℕ) → low ≤ kind → Rises low (kind ∷ [])
alone low kind le = (le, tt)

either : (holds : Bool) (xs ys : List ℕ) → Rises 0 xs → Rises 0 ys → Rises 0 (if holds then xs else ys)
either true xs ys x y = x
either false xs ys x y = y

-- the kinds of each table
types-rise : (entries : ℕ) (before : List Entry) (e : Entry) → Rises 0 (type_kinds entries before e)
types-rise entries before (entry code operands) = search (arith, either, unless-then, if-then, unless-alone, if-alone, alone) depth 12

constants-rise : (types : ℕ) (before : List Entry) (e : Entry) → Rises 0 (constant_kinds types before e)
constants-rise types before (entry code operands) = search (arith, either, unless-then, if-then, unless-alone, if-alone, alone) depth 12

metadata-rise : (known : Known) (before : List Entry) (e : Entry) (after : List Entry) → Rises 0 (metadata_kinds known before e after)
metadata-rise known before (entry code operands) after = search (arith, either, unless-then, if-then, unless-alone, if-alone, alone) depth 12

symbols-rise : (functions : ℕ) (earlier : List Entry) (e : Entry) → Rises 0 (symbol_kinds functions earlier e)
symbols-rise functions earlier (entry code operands) = search (arith, either, unless-then, if-then, unless-alone, if-alone, alone) depth 12

bodies-rise : (known : Known) (numbers : Numbers) (before : List Entry) (e : Entry) → Rises 0 (body_kinds known numbers before e)
bodies-rise known numbers before (entry code operands) = search (arith, either, unless-then, if-then, unless-alone, if-alone, alone) depth 12

modules-rise : (known : Known) (before : List Entry) (e : Entry) → Rises 0 (module_kinds known before e)
modules-rise known before (entry code operands) = search (arith, either, unless-then, if-then, unless-alone, if-alone, alone) depth 12

misplaced-rises : (id : ℕ) → Rises 0 (misplaced id)
misplaced-rises id = search (arith, either, alone)

-- the kinds of each place in a block
abbrev pub SiteRises : Site → Type 0
SiteRises s = Rises 0 s.kinds

record TableRises (table : Table) : Type 0 where
  records : (before : List Entry) (e : Entry) (after : List Entry) → Rises 0 (table.records before e after)
  heads : (before : Contents) (id : ℕ) → Rises 0 (table.heads before id)
  ends : (block : Contents) → Rises 0 (table.ends block)
  inside : (before : Contents) (id number : ℕ) (inner : Contents) → All SiteRises (table.inside before id number inner)

sites-rise : (table : Table) (block first : ℕ) (before rest : Contents) → TableRises table → All SiteRises (sites_after table block first before rest)
sites-rise table block first before no_more rises =
    All-cons SiteRises (site block (length (entries_in before)) (table.ends before)) [] (rises.ends before) (All-nil SiteRises)
sites-rise table block first before (a_record code values rest) rises =
    All-cons SiteRises (site block (length (entries_in before)) (table.records (entries_in before) (entry code values) (entries_in rest)))
    (sites_after table block first (append before (a_record code values no_more)) rest)
    (rises.records (entries_in before) (entry code values) (entries_in rest))
    (sites-rise table block first (append before (a_record code values no_more)) rest rises)
sites-rise table block first before (a_block id inner rest) rises =
    All-cons SiteRises (site (first + block_count before) 0 (table.heads before id))
    (table.inside before id (first + block_count before) inner ++ sites_after table block first (append before (a_block id inner no_more)) rest)
    (rises.heads before id)
    (All-append SiteRises (table.inside before id (first + block_count before) inner)
    (sites_after table block first (append before (a_block id inner no_more)) rest)
    (rises.inside before id (first + block_count before) inner)
    (sites-rise table block first (append before (a_block id inner no_more)) rest rises))

either-sites : (holds : Bool) (xs ys : List Site) → All SiteRises xs → All SiteRises ys → All SiteRises (if holds then xs else ys)
either-sites true xs ys x y = x
either-sites false xs ys x y = y

types-table : (known : Known) → TableRises (types_table known)
types-table known = record {
  records = λ before e after. types-rise (length known.types) before e;
  heads = λ before id. misplaced-rises id;
  ends = λ block. unless-alone 0 1 _ (omega arith);
  inside = λ before id number inner. All-nil SiteRises;
}

constants-table : (known : Known) → TableRises (constants_table known)
constants-table known = record {
  records = λ before e after. constants-rise (length known.types) before e;
  heads = λ before id. misplaced-rises id;
  ends = λ block. tt;
  inside = λ before id number inner. All-nil SiteRises;
}

metadata-table : (known : Known) → TableRises (metadata_table known)
metadata-table known = record {
  records = λ before e after. metadata-rise known before e after;
  heads = λ before id. misplaced-rises id;
  ends = λ block. tt;
  inside = λ before id number inner. All-nil SiteRises;
}

symbols-table : (known : Known) (earlier : List Entry) → TableRises (symbols_table known earlier)
symbols-table known earlier = record {
  records = λ before e after. symbols-rise (length known.functions) (earlier ++ before) e;
  heads = λ before id. misplaced-rises id;
  ends = λ block. tt;
  inside = λ before id number inner. All-nil SiteRises;
}

body-heads : (id : ℕ) → Rises 0 (body_heads id)
body-heads id = either ((id == constants_block) || ((id == symbols_block) || (id == metadata_block))) [] (misplaced id) tt (misplaced-rises id)

body-table : (known : Known) (numbers : Numbers) → TableRises (body_table known numbers)
body-table known numbers = record {
  records = λ before e after. bodies-rise known numbers before e;
  heads = λ before id. body-heads id;
  ends = λ block. unless-alone 0 1 _ (omega arith);
  inside = λ before id number inner.
      either-sites (id == constants_block) (sites (constants_table known) number inner) []
      (sites-rise (constants_table known) number (suc number) no_more inner (constants-table known)) (All-nil SiteRises);
}

module-heads : (known : Known) (before : Contents) (id : ℕ) → Rises 0 (module_heads known before id)
module-heads known before id =
    let function_heads : List ℕ = if id == function_block then kind_unless (nat_lt (bodies_before before) (body_count known)) 6 else misplaced id in
    let types_heads : List ℕ = if id == types_block then kind_if (has_block types_block before) 6 else function_heads in
    either ((id == constants_block) || ((id == symbols_block) || (id == metadata_block))) [] types_heads tt
    (either (id == types_block) (kind_if (has_block types_block before) 6) function_heads (if-alone 0 6 (has_block types_block before) (omega arith))
    (either (id == function_block) (kind_unless (nat_lt (bodies_before before) (body_count known)) 6) (misplaced id)
    (unless-alone 0 6 (nat_lt (bodies_before before) (body_count known)) (omega arith)) (misplaced-rises id)))

module-inside : (known : Known) (before : Contents) (id number : ℕ) (inner : Contents) → All SiteRises (module_inside known before id number inner)
module-inside known before id number inner =
    let function : List ℕ = get_or (with_bodies known.functions) (bodies_before before) [] in
    let body : Table = body_table known (numbers_of known function inner) in
    let symbols : Table = symbols_table known (all_of (blocks_in symbols_block before)) in
    let four : List Site = if id == function_block then sites body number inner else [] in
    let three : List Site = if id == symbols_block then sites symbols number inner else four in
    let two : List Site = if id == metadata_block then sites (metadata_table known) number inner else three in
    let one : List Site = if id == constants_block then sites (constants_table known) number inner else two in
    either-sites (id == types_block) (sites (types_table known) number inner) one
    (sites-rise (types_table known) number (suc number) no_more inner (types-table known))
    (either-sites (id == constants_block) (sites (constants_table known) number inner) two
    (sites-rise (constants_table known) number (suc number) no_more inner (constants-table known))
    (either-sites (id == metadata_block) (sites (metadata_table known) number inner) three
    (sites-rise (metadata_table known) number (suc number) no_more inner (metadata-table known))
    (either-sites (id == symbols_block) (sites symbols number inner) four
    (sites-rise symbols number (suc number) no_more inner (symbols-table known (all_of (blocks_in symbols_block before))))
    (either-sites (id == function_block) (sites body number inner) []
    (sites-rise body number (suc number) no_more inner (body-table known (numbers_of known function inner))) (All-nil SiteRises)))))

module-table : (known : Known) → TableRises (module_table known)
module-table known = record {
  records = λ before e after. modules-rise known before e;
  heads = module-heads known;
  ends = λ block. unless-alone 0 1 _ (omega arith);
  inside = module-inside known;
}

outer-table : TableRises outer_table
outer-table = record {
  records = λ before e after. tt;
  heads = λ before id.
      either (id == module_block) (kind_if (has_block module_block before) 6) (misplaced id) (if-alone 0 6 (has_block module_block before) (omega arith)) (misplaced-rises id);
  ends = λ blocks. tt;
  inside = λ before id number inner.
      either-sites (id == module_block) (sites (module_table (known_of inner)) number inner) []
      (sites-rise (module_table (known_of inner)) number (suc number) no_more inner (module-table (known_of inner))) (All-nil SiteRises);
}

record_sites-rise : (blocks : Contents) → All SiteRises (record_sites blocks)
record_sites-rise blocks =
    All-cons SiteRises (site 0 0 (kind_unless (has_block module_block blocks) 1)) (sites_after outer_table 0 0 no_more blocks)
    (unless-alone 0 1 (has_block module_block blocks) (omega arith)) (sites-rise outer_table 0 0 no_more blocks outer-table)

-- the first of some places
rises-tail : (s : Site) (ss : List Site) → All SiteRises (s ∷ ss) → All SiteRises ss
rises-tail s ss rise = λ k d within. rise (suc k) d (omega arith)

-- where no place has a fault, all are free
all_free : (places : List Site) → first_fault places ≡ None → All IsFree places
all_free [] none = All-nil IsFree
all_free (s ∷ ss) none = by_case s.kinds refl none (all_free ss) where
  by_case : (kinds : List ℕ) → s.kinds ≡ kinds → or_else (fault_at s.block s.at (first_kind kinds)) (first_fault ss) ≡ None →
      (first_fault ss ≡ None → All IsFree ss) → All IsFree (s ∷ ss)
  by_case [] is h rest = All-cons IsFree s ss is (rest h)
  by_case (kind ∷ kinds) is h rest = absurd (cc h)

pub no_fault : (blocks : Contents) → first_fault (record_sites blocks) ≡ None → All IsFree (record_sites blocks)
no_fault blocks none = all_free (record_sites blocks) none

-- the first fault of places whose kinds ascend
first_here : (block at kind : ℕ) (kinds : List ℕ) (ss : List Site) → Rises 0 (kind ∷ kinds) → IsFirst (site block at (kind ∷ kinds) ∷ ss) kind block at
first_here block at kind kinds ss rise = record {
  before = [];
  kinds = kind ∷ kinds;
  after = ss;
  order = refl;
  first = All-nil IsFree;
  has = (0, omega arith, refl);
  least = All-cons (λ other. kind ≤ other) kind kinds (omega arith) (rises-all kind kinds rise.1);
}

first_later : (s : Site) (ss : List Site) (kind block at : ℕ) → IsFree s → IsFirst ss kind block at → IsFirst (s ∷ ss) kind block at
first_later s ss kind block at free f = record {
  before = s ∷ f.before;
  kinds = f.kinds;
  after = f.after;
  order = ap (λ places. s ∷ places) f.order;
  first = All-cons IsFree s f.before free f.first;
  has = f.has;
  least = f.least;
}

first_found : (places : List Site) (f : Fault) → All SiteRises places → first_fault places ≡ Some f → IsFirst places f.kind f.block f.at
first_found [] f rise found = absurd (cc found)
first_found (s ∷ ss) f rise found = by_case s.kinds refl found (first_found ss f (rises-tail s ss rise)) where
  here : (kind : ℕ) (kinds : List ℕ) → s.kinds ≡ kind ∷ kinds → IsFirst (s ∷ ss) kind s.block s.at
  here kind kinds is =
      subst (λ ks. IsFirst (site s.block s.at ks ∷ ss) kind s.block s.at) (sym is)
      (first_here s.block s.at kind kinds ss (subst (Rises 0) is (rise 0 s (omega arith))))

  by_case : (kinds : List ℕ) → s.kinds ≡ kinds → or_else (fault_at s.block s.at (first_kind kinds)) (first_fault ss) ≡ Some f →
      (first_fault ss ≡ Some f → IsFirst ss f.kind f.block f.at) → IsFirst (s ∷ ss) f.kind f.block f.at
  by_case [] is h rest = first_later s ss f.kind f.block f.at is (rest h)
  by_case (kind ∷ kinds) is h rest =
      let own : Fault = record { kind = kind; block = s.block; at = s.at } in
      let same : own ≡ f = cc in
      subst (λ (g : Fault). IsFirst (s ∷ ss) g.kind g.block g.at) same (here kind kinds is)

pub the_fault : (blocks : Contents) (f : Fault) → first_fault (record_sites blocks) ≡ Some f → IsFirst (record_sites blocks) f.kind f.block f.at
the_fault blocks f found = first_found (record_sites blocks) f (record_sites-rise blocks) found
