-- The blocks of a module, and of a body, have no fault where each of them has none.
use Rattle.std.proofs.Common.{◌≡◌, ℕ, zero, suc, ◌+◌, ◌<◌, ◌≤◌, List, [], ◌∷◌, ◌++◌, length, get_or, refl, ap, sym, ◌∙◌, subst, arith}
use Rattle.std.specs.Prelude.{Bool, true, false, ◌==◌, if◌then◌else◌, nat_lt, All, Contains}
use Rattle.std.proofs.lemmas.List.{length-append}
use Rattle.std.proofs.lemmas.List.Elements.{All-nil, All-head, All-tail}
use Rattle.bc_stream.specs.Blocks.{Contents, no_more, a_record, a_block, append}
use Rattle.bc_records.specs.Entries.{entries_in, block_ids, blocks_in, block_count}
use Rattle.bc_records.specs.FaultSites.{IsFree, sites}
use Rattle.bc_records.specs.RecordKinds.{Known, Numbers, numbers_of, with_bodies, all_of, kind_if}
use Rattle.bc_records.specs.RecordFaults.{types_table, constants_table, metadata_table, body_table, body_heads, body_inside, module_table, module_heads, module_inside, bodies_before, body_count}
use Rattle.bc_records.proofs.FreeSites.{FreeBlocks, more_none}
use Rattle.bc_records.proofs.FreeSymbols.{EachSymbols, joined}
use Rattle.bc_records.proofs.Tests.{Each, below, unless}

if_append : (t : Bool) (inner : Contents) (xs ys zs : List Contents) → xs ≡ ys ++ zs → (if t then inner ∷ xs else xs) ≡ (if t then inner ∷ ys else ys) ++ zs
if_append true inner xs ys zs same = ap (λ bs. inner ∷ bs) same
if_append false inner xs ys zs same = same

pub blocks_append : (id : ℕ) (a b : Contents) → blocks_in id (append a b) ≡ blocks_in id a ++ blocks_in id b
blocks_append id no_more b = refl
blocks_append id (a_record code values a) b = blocks_append id a b
blocks_append id (a_block other inner a) b =
    if_append (other == id) inner (blocks_in id (append a b)) (blocks_in id a) (blocks_in id b) (blocks_append id a b)

-- bodies

three : (Q : ℕ → Type 0) (x : ℕ) → Q 11 → Q 14 → Q 15 → Contains (11 ∷ 14 ∷ 15 ∷ []) x → Q x
three Q x p q r has = by has.0 has.1 has.2
  where
    by : (k : ℕ) → k < 3 → get_or (11 ∷ 14 ∷ 15 ∷ []) k x ≡ x → Q x
    by zero within is = subst Q is p
    by (suc zero) within is = subst Q is q
    by (suc (suc zero)) within is = subst Q is r
    by (suc (suc (suc k))) within is = absurd (omega (arith, within))

abbrev pub ConstantsFree : Known → Contents → Type 0
ConstantsFree known block = (number : ℕ) → All IsFree (sites (constants_table known) number block)

abbrev BodyStep : Known → Contents → Contents → ℕ → Type 0
BodyStep known inner rest id =
    (number : ℕ) → Each (ConstantsFree known) (blocks_in 11 (a_block id inner rest)) →
    (body_heads id ≡ []) × (All IsFree (body_inside known id number inner)) × Each (ConstantsFree known) (blocks_in 11 rest)

body_step : (known : Known) (inner rest : Contents) (id : ℕ) → Contains (11 ∷ 14 ∷ 15 ∷ []) id → BodyStep known inner rest id
body_step known inner rest id has =
    three (BodyStep known inner rest) id (λ number each. (refl, each.0 number, each.1)) (λ number each. (refl, All-nil IsFree, each)) (λ number each. (refl, All-nil IsFree, each)) has

pub body_blocks : (known : Known) (numbers : Numbers) (first : ℕ) (before rest : Contents) → All (Contains (11 ∷ 14 ∷ 15 ∷ [])) (block_ids rest) →
    Each (ConstantsFree known) (blocks_in 11 rest) → FreeBlocks (body_table known numbers) first before rest
body_blocks known numbers first before no_more ids each = tt
body_blocks known numbers first before (a_record code values rest) ids each = body_blocks known numbers first (append before (a_record code values no_more)) rest ids each
body_blocks known numbers first before (a_block id inner rest) ids each =
    let step = body_step known inner rest id (All-head (Contains (11 ∷ 14 ∷ 15 ∷ [])) id (block_ids rest) ids) (first + block_count before) each in
    (step.0, step.1, body_blocks known numbers first (append before (a_block id inner no_more)) rest (All-tail (Contains (11 ∷ 14 ∷ 15 ∷ [])) id (block_ids rest) ids) step.2)

-- modules

pub five : (Q : ℕ → Type 0) (x : ℕ) → Q 11 → Q 12 → Q 14 → Q 15 → Q 17 → Contains (11 ∷ 12 ∷ 14 ∷ 15 ∷ 17 ∷ []) x → Q x
five Q x p q r s t has = by has.0 has.1 has.2
  where
    by : (k : ℕ) → k < 5 → get_or (11 ∷ 12 ∷ 14 ∷ 15 ∷ 17 ∷ []) k x ≡ x → Q x
    by zero within is = subst Q is p
    by (suc zero) within is = subst Q is q
    by (suc (suc zero)) within is = subst Q is r
    by (suc (suc (suc zero))) within is = subst Q is s
    by (suc (suc (suc (suc zero)))) within is = subst Q is t
    by (suc (suc (suc (suc (suc k))))) within is = absurd (omega (arith, within))

abbrev pub TypesFree : Known → Contents → Type 0
TypesFree known block = (number : ℕ) → All IsFree (sites (types_table known) number block)

abbrev pub MetadataFree : Known → Contents → Type 0
MetadataFree known block = (number : ℕ) → All IsFree (sites (metadata_table known) number block)

-- the blocks FUNCTION from one on are the bodies of functions
abbrev pub EachBody : Known → (at : ℕ) → List Contents → Type 0
EachBody known at [] = Unit {0}
EachBody known at (b ∷ bs) =
    (at < body_count known)
    × ((number : ℕ) → All IsFree (sites (body_table known (numbers_of known (get_or (with_bodies known.functions) at []) b)) number b))
    × EachBody known (suc at) bs

-- what stands before some blocks of a module, and those blocks
pub record Fits (known : Known) (before rest : Contents) : Type 0 where
  pub types : Each (TypesFree known) (blocks_in 17 rest)
  pub types_once : length (blocks_in 17 before) + length (blocks_in 17 rest) ≤ 1
  pub constants : Each (ConstantsFree known) (blocks_in 11 rest)
  pub metadata : Each (MetadataFree known) (blocks_in 15 rest)
  pub symbols : EachSymbols known (all_of (blocks_in 14 before)) (blocks_in 14 rest)
  pub bodies : EachBody known (bodies_before before) (blocks_in 12 rest)

-- one block of another id before doesn't count
kept : (id : ℕ) (before one : Contents) → blocks_in id one ≡ [] → blocks_in id (append before one) ≡ blocks_in id before
kept id before one none = blocks_append id before one ∙ (ap (λ bs. blocks_in id before ++ bs) none ∙ more_none (blocks_in id before))

fits_on : (known : Known) (before one rest : Contents) →
    Each (TypesFree known) (blocks_in 17 rest) → length (blocks_in 17 before) + (length (blocks_in 17 one) + length (blocks_in 17 rest)) ≤ 1 → Each (ConstantsFree known) (blocks_in 11 rest) → Each (MetadataFree known) (blocks_in 15 rest) →
    EachSymbols known (all_of (blocks_in 14 before) ++ all_of (blocks_in 14 one)) (blocks_in 14 rest) →
    EachBody known (bodies_before before + bodies_before one) (blocks_in 12 rest) → Fits known (append before one) rest
fits_on known before one rest types once constants metadata symbols bodies = record {
  types = types;
  types_once = omega (arith, once, ap length (blocks_append 17 before one), length-append (blocks_in 17 before) (blocks_in 17 one));
  constants = constants;
  metadata = metadata;
  symbols = subst (λ es. EachSymbols known es (blocks_in 14 rest)) (sym (ap all_of (blocks_append 14 before one) ∙ all_append (blocks_in 14 before) (blocks_in 14 one))) symbols;
  bodies = subst (λ n. EachBody known n (blocks_in 12 rest)) (sym (ap length (blocks_append 12 before one) ∙ length-append (blocks_in 12 before) (blocks_in 12 one))) bodies;
}
  where
    all_append : (xs ys : List Contents) → all_of (xs ++ ys) ≡ all_of xs ++ all_of ys
    all_append [] ys = refl
    all_append (x ∷ xs) ys = ap (λ es. entries_in x ++ es) (all_append xs ys) ∙ sym (joined (entries_in x) (all_of xs) (all_of ys))

same_sum : (known : Known) (a b : ℕ) (bs : List Contents) → a ≡ b → EachBody known a bs → EachBody known b bs
same_sum known a b bs same each = subst (λ n. EachBody known n bs) same each

-- a block whose records don't count for names, types and bodies
plain_on : (known : Known) (before one rest : Contents) → blocks_in 17 one ≡ [] → blocks_in 14 one ≡ [] → blocks_in 12 one ≡ [] →
    Each (TypesFree known) (blocks_in 17 rest) → length (blocks_in 17 before) + length (blocks_in 17 rest) ≤ 1 → Each (ConstantsFree known) (blocks_in 11 rest) → Each (MetadataFree known) (blocks_in 15 rest) →
    EachSymbols known (all_of (blocks_in 14 before)) (blocks_in 14 rest) → EachBody known (bodies_before before) (blocks_in 12 rest) → Fits known (append before one) rest
plain_on known before one rest no_types no_symbols no_bodies types once constants metadata symbols bodies =
    fits_on known before one rest types (omega (arith, once, ap length no_types)) constants metadata
    (subst (λ es. EachSymbols known es (blocks_in 14 rest)) (sym (ap (λ bs. all_of (blocks_in 14 before) ++ all_of bs) no_symbols ∙ more_none (all_of (blocks_in 14 before)))) symbols)
    (same_sum known (bodies_before before) (bodies_before before + bodies_before one) (blocks_in 12 rest) (omega (arith, ap length no_bodies)) bodies)

abbrev Step : Known → Contents → Contents → Contents → ℕ → Type 0
Step known before inner rest id =
    (number : ℕ) → Fits known before (a_block id inner rest) →
    (module_heads known before id ≡ []) × (All IsFree (module_inside known before id number inner)) × Fits known (append before (a_block id inner no_more)) rest

step_constants : (known : Known) (before inner rest : Contents) → Step known before inner rest 11
step_constants known before inner rest number f =
    (refl, f.constants.0 number, plain_on known before (a_block 11 inner no_more) rest refl refl refl f.types f.types_once f.constants.1 f.metadata f.symbols f.bodies)

step_metadata : (known : Known) (before inner rest : Contents) → Step known before inner rest 15
step_metadata known before inner rest number f =
    (refl, f.metadata.0 number, plain_on known before (a_block 15 inner no_more) rest refl refl refl f.types f.types_once f.constants f.metadata.1 f.symbols f.bodies)

step_body : (known : Known) (before inner rest : Contents) → Step known before inner rest 12
step_body known before inner rest number f = (
  unless (nat_lt (bodies_before before) (body_count known)) 6 (below (bodies_before before) (body_count known) f.bodies.0),
  f.bodies.1 number,
  fits_on known before (a_block 12 inner no_more) rest f.types (omega (arith, f.types_once)) f.constants f.metadata
      (subst (λ es. EachSymbols known es (blocks_in 14 rest)) (sym (more_none (all_of (blocks_in 14 before)))) f.symbols)
      (same_sum known (suc (bodies_before before)) (bodies_before before + 1) (blocks_in 12 rest) (omega arith) f.bodies.2),
)

step_symbols : (known : Known) (before inner rest : Contents) → Step known before inner rest 14
step_symbols known before inner rest number f = (
  refl,
  f.symbols.0 number,
  fits_on known before (a_block 14 inner no_more) rest f.types (omega (arith, f.types_once)) f.constants f.metadata
      (subst (λ es. EachSymbols known (all_of (blocks_in 14 before) ++ es) (blocks_in 14 rest)) (sym (more_none (entries_in inner))) f.symbols.1)
      (same_sum known (bodies_before before) (bodies_before before + 0) (blocks_in 12 rest) (omega arith) f.bodies),
)

none_before : (n : ℕ) → n ≡ 0 → nat_lt 0 n ≡ false
none_before n none = ap (nat_lt 0) none

step_types : (known : Known) (before inner rest : Contents) → Step known before inner rest 17
step_types known before inner rest number f = (
  ap (λ b. kind_if b 6) (none_before (length (blocks_in 17 before)) (omega (arith, f.types_once))),
  f.types.0 number,
  fits_on known before (a_block 17 inner no_more) rest f.types.1 (omega (arith, f.types_once)) f.constants f.metadata
      (subst (λ es. EachSymbols known es (blocks_in 14 rest)) (sym (more_none (all_of (blocks_in 14 before)))) f.symbols)
      (same_sum known (bodies_before before) (bodies_before before + 0) (blocks_in 12 rest) (omega arith) f.bodies),
)

pub module_blocks : (known : Known) (first : ℕ) (before rest : Contents) → All (Contains (11 ∷ 12 ∷ 14 ∷ 15 ∷ 17 ∷ [])) (block_ids rest) → Fits known before rest →
    FreeBlocks (module_table known) first before rest
module_blocks known first before no_more ids f = tt
module_blocks known first before (a_record code values rest) ids f =
    module_blocks known first (append before (a_record code values no_more)) rest ids
    (plain_on known before (a_record code values no_more) rest refl refl refl f.types f.types_once f.constants f.metadata f.symbols f.bodies)
module_blocks known first before (a_block id inner rest) ids f =
    let Known_id = Contains (11 ∷ 12 ∷ 14 ∷ 15 ∷ 17 ∷ []) in
    let step = five (Step known before inner rest) id (step_constants known before inner rest) (step_body known before inner rest) (step_symbols known before inner rest)
    (step_metadata known before inner rest) (step_types known before inner rest) (All-head Known_id id (block_ids rest) ids) (first + block_count before) f in
    (step.0, step.1, module_blocks known first (append before (a_block id inner no_more)) rest (All-tail Known_id id (block_ids rest) ids) step.2)
