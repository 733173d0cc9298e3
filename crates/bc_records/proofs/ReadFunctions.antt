-- The functions of a module without a fault: their types, names and bodies.
use Rattle.std.proofs.Common.{◌≡◌, ℕ, zero, suc, ◌+◌, ◌-◌, ◌≤◌, List, [], ◌∷◌, map, length, get_or, refl, ap, sym, ◌∙◌, subst, arith}
use Rattle.std.specs.Prelude.{Bool, true, false, ◌==◌, ◌&&◌, if◌then◌else◌, Some, None, Option, is_some, IfSome, option_map, option_and_then, slice_get, drop, All}
use Rattle.std.specs.Option.{option_map_or}
use Rattle.std.proofs.lemmas.Option.{same_Some}
use Rattle.std.proofs.lemmas.List.Elements.{All-nil, All-cons, All-head, All-tail}
use Rattle.ir_core.specs.declared.instruction.Body.{Body}
use Rattle.ir_core.specs.declared.module.Function.{Function}
use Rattle.ir_core.specs.declared.module.Module.{Module}
use Rattle.ir_core.specs.Values.{function_at, bodies}
use Rattle.ir_core.specs.Soundness.{IsSoundBody}
use Rattle.bc_stream.specs.Blocks.{Contents}
use Rattle.bc_records.specs.Entries.{IsWord, IsText}
use Rattle.bc_records.specs.ModuleRecords.{ModuleRecord, version_record, triple_record, layout_record, function_record, module_entry, declarations, declaration_of, prototype_of}
use Rattle.bc_records.specs.SymbolRecords.{SymbolRecord, symbol}
use Rattle.bc_records.specs.BodyRecords.{BodiesRecorded}
use Rattle.bc_records.specs.RecordKinds.{Known, is_word, signature_at, has_pointer_to, is_function_type, function_entries, has_body, with_bodies}
use Rattle.bc_records.specs.Ranges.{BodyInRange, FunctionInRange}
use Rattle.bc_records.specs.Read.{declared, with_name, with_names, read_body, with_first, with_code}
use Rattle.bc_records.proofs.Agreement.{Agrees}
use Rattle.bc_records.proofs.FreeModules.{Declared}
use Rattle.bc_records.proofs.ValueLemmas.{from_globals, value_count}
use Rattle.bc_records.proofs.ReadTypes.{TypesTold}
use Rattle.bc_records.proofs.HeldBlocks.{BodyHeld, EachBodyHeld}
use Rattle.bc_records.proofs.ReadBodies.{BodyTold, Around, body_told}
use Rattle.std.proofs.lemmas.Bool.{and_parts, eqb-false, eqb-true}
use Rattle.bc_records.proofs.Told.{told_word, word_same}

-- functions with the types of their records
abbrev pub Typed : List (List ℕ) → List Function → Type 0
Typed [] [] = Unit {0}
Typed [] (f ∷ fs) = ⊥
Typed (x ∷ xs) [] = ⊥
Typed (x ∷ xs) (f ∷ fs) = (slice_get x 0 ≡ Some f.ty) × Typed xs fs

-- and without bodies
abbrev pub Bare : List (List ℕ) → List Function → Type 0
Bare [] [] = Unit {0}
Bare [] (f ∷ fs) = ⊥
Bare (x ∷ xs) [] = ⊥
Bare (x ∷ xs) (f ∷ fs) = (slice_get x 0 ≡ Some f.ty) × (f.body ≡ None) × Bare xs fs

pub bare_declared : (known : Known) (rs : List ModuleRecord) → Declared known (declarations rs) → Bare (function_entries (map module_entry rs)) (declared (function_entries (map module_entry rs)))
bare_declared known [] all = tt
bare_declared known (version_record ∷ rs) all = bare_declared known rs all
bare_declared known (triple_record t ∷ rs) all = bare_declared known rs all
bare_declared known (layout_record t ∷ rs) all = bare_declared known rs all
bare_declared known (function_record ty convention prototype linkage others ∷ rs) all =
    let fits : IsWord ty = told_word ty (and_parts (is_word ty) (is_some (signature_at known ty) && has_pointer_to known ty) all.0).0 in
    (ap Some (sym (word_same ty fits)), refl, bare_declared known rs all.2)

bare_name : (xs : List (List ℕ)) (fs : List Function) (value : ℕ) (name : List ℕ) → Bare xs fs → Bare xs (with_name fs value name)
bare_name [] [] value name bare = tt
bare_name [] (f ∷ fs) value name bare = absurd bare
bare_name (x ∷ xs) [] value name bare = absurd bare
bare_name (x ∷ xs) (f ∷ fs) zero name bare = bare
bare_name (x ∷ xs) (f ∷ fs) (suc value) name bare = (bare.0, bare.1, bare_name xs fs value name bare.2)

pub bare_names : (xs : List (List ℕ)) (fs : List Function) (rs : List SymbolRecord) → Bare xs fs → Bare xs (with_names fs rs)
bare_names xs fs [] bare = bare
bare_names xs fs (symbol value name ∷ rs) bare = bare_names xs (with_name fs value name) rs (bare_name xs fs value name bare)

pub typed_bare : (xs : List (List ℕ)) (fs : List Function) → Bare xs fs → Typed xs fs
typed_bare [] [] bare = tt
typed_bare [] (f ∷ fs) bare = absurd bare
typed_bare (x ∷ xs) [] bare = absurd bare
typed_bare (x ∷ xs) (f ∷ fs) bare = (bare.0, typed_bare xs fs bare.2)

-- a body changes neither type nor name
first_type : (m : Module) (f : Function) (blocks : List Contents) → (with_first m f blocks).ty ≡ f.ty
first_type m f [] = refl
first_type m f (b ∷ bs) = refl

first_name : (m : Module) (f : Function) (blocks : List Contents) → (with_first m f blocks).name ≡ f.name
first_name m f [] = refl
first_name m f (b ∷ bs) = refl

pub typed_code : (m : Module) (xs : List (List ℕ)) (fs : List Function) (blocks : List Contents) → Bare xs fs → Typed xs (with_code m xs fs blocks)
typed_code m [] [] blocks bare = tt
typed_code m [] (f ∷ fs) blocks bare = absurd bare
typed_code m (x ∷ xs) [] blocks bare = absurd bare
typed_code m (x ∷ xs) (f ∷ fs) blocks bare = by (has_body x) (typed_code m xs fs (drop 1 blocks) bare.2) (typed_code m xs fs blocks bare.2)
  where
    by : (b : Bool) → Typed xs (with_code m xs fs (drop 1 blocks)) → Typed xs (with_code m xs fs blocks) →
        Typed (x ∷ xs) (if b then with_first m f blocks ∷ with_code m xs fs (drop 1 blocks) else f ∷ with_code m xs fs blocks)
    by true one other = (bare.0 ∙ ap Some (sym (first_type m f blocks)), one)
    by false one other = (bare.0, other)

pub names_code : (m : Module) (xs : List (List ℕ)) (fs : List Function) (blocks : List Contents) → Bare xs fs → map (λ (f : Function). f.name) (with_code m xs fs blocks) ≡ map (λ (f : Function). f.name) fs
names_code m [] [] blocks bare = refl
names_code m [] (f ∷ fs) blocks bare = absurd bare
names_code m (x ∷ xs) [] blocks bare = absurd bare
names_code m (x ∷ xs) (f ∷ fs) blocks bare = by (has_body x) (names_code m xs fs (drop 1 blocks) bare.2) (names_code m xs fs blocks bare.2)
  where
    name : Function → List ℕ
    name f = f.name

    by : (b : Bool) → map (λ (f : Function). f.name) (with_code m xs fs (drop 1 blocks)) ≡ map (λ (f : Function). f.name) fs →
        map (λ (f : Function). f.name) (with_code m xs fs blocks) ≡ map (λ (f : Function). f.name) fs →
        map (λ (f : Function). f.name) (if b then with_first m f blocks ∷ with_code m xs fs (drop 1 blocks) else f ∷ with_code m xs fs blocks) ≡ f.name ∷ map (λ (f : Function). f.name) fs
    by true one other =
        ap (λ n. n ∷ map (λ (f : Function). f.name) (with_code m xs fs (drop 1 blocks))) (first_name m f blocks) ∙ ap (λ ns. f.name ∷ ns) one
    by false one other = ap (λ ns. f.name ∷ ns) other

-- the numbers of functions and values

pub typed_long : (xs : List (List ℕ)) (fs : List Function) → Typed xs fs → length xs ≡ length fs
typed_long [] [] typed = refl
typed_long [] (f ∷ fs) typed = absurd typed
typed_long (x ∷ xs) [] typed = absurd typed
typed_long (x ∷ xs) (f ∷ fs) typed = ap suc (typed_long xs fs typed.1)

types_at : (xs : List (List ℕ)) (fs : List Function) (v : ℕ) → Typed xs fs → option_and_then (λ operands. slice_get operands 0) (slice_get xs v) ≡ option_map (λ (f : Function). f.ty) (slice_get fs v)
types_at [] [] v typed = refl
types_at [] (f ∷ fs) v typed = absurd typed
types_at (x ∷ xs) [] v typed = absurd typed
types_at (x ∷ xs) (f ∷ fs) zero typed = typed.0
types_at (x ∷ xs) (f ∷ fs) (suc v) typed = types_at xs fs v typed.1

pub agrees_read : (known : Known) (m : Module) (block : Contents) → TypesTold known block m.types → m.globals ≡ [] → Typed known.functions m.functions →
    known.constants ≡ length m.consts → known.metas ≡ length m.metas → Agrees known m
agrees_read known m block t none typed constants metas = record {
  types = t.long;
  signatures = t.signatures;
  value_types = t.value_types;
  pointers = t.pointers;
  functions = typed_long known.functions m.functions typed;
  function_types = λ v. types_at known.functions m.functions v typed ∙ ap (option_map (λ (f : Function). f.ty)) (sym (at v));
  values = omega (arith, value_count m, ap length none, typed_long known.functions m.functions typed, constants);
  metas = metas;
}
  where
    at : (v : ℕ) → function_at m v ≡ slice_get m.functions v
    at v = let place : v - length m.globals ≡ v = omega (arith, ap length none) in from_globals m v (omega (arith, ap length none)) ∙ ap (slice_get m.functions) place

-- what holds of the types of functions holds of each function's
pub declared_each : (known : Known) (P : ℕ → Type 0) → ((ty : ℕ) → is_function_type known ty ≡ true → P ty) → (rs : List ModuleRecord) (fs : List Function) → Declared known (declarations rs) →
    Typed (function_entries (map module_entry rs)) fs → All (λ (f : Function). P f.ty) fs
declared_each known P holds [] [] all typed = All-nil (λ (f : Function). P f.ty)
declared_each known P holds [] (f ∷ fs) all typed = absurd typed
declared_each known P holds (version_record ∷ rs) fs all typed = declared_each known P holds rs fs all typed
declared_each known P holds (triple_record t ∷ rs) fs all typed = declared_each known P holds rs fs all typed
declared_each known P holds (layout_record t ∷ rs) fs all typed = declared_each known P holds rs fs all typed
declared_each known P holds (function_record ty a b c d ∷ rs) [] all typed = absurd typed
declared_each known P holds (function_record ty a b c d ∷ rs) (f ∷ fs) all typed =
    All-cons (λ (f : Function). P f.ty) f fs (subst P (same_Some ty f.ty typed.0) (holds ty all.0)) (declared_each known P holds rs fs all.2 typed.1)

-- the declarations are those of the functions

pair_same : (x y a b : ℕ) (ps qs : List (ℕ × ℕ)) → x ≡ a → y ≡ b → ps ≡ qs → (x, y) ∷ ps ≡ (a, b) ∷ qs
pair_same x y a b ps qs p q r =
    let one : ℕ → ℕ → List (ℕ × ℕ) → List (ℕ × ℕ) = λ u v rest. (u, v) ∷ rest in
    ap (λ u. one u y ps) p ∙ (ap (λ v. one a v ps) q ∙ ap (one a b) r)

low_number : (prototype : ℕ) → prototype ≤ 1 → (prototype == 0) ≡ false → prototype ≡ 1
low_number prototype low other = apart (eqb-false prototype 0 other)
  where
    apart : (prototype ≡ 0 → ⊥) → prototype ≡ 1
    apart never = grind arith

pub declared_code : (known : Known) (m : Module) (rs : List ModuleRecord) (fs : List Function) (blocks : List Contents) → Declared known (declarations rs) →
    Bare (function_entries (map module_entry rs)) fs → length blocks ≡ length (with_bodies (function_entries (map module_entry rs))) →
    declarations rs ≡ map declaration_of (with_code m (function_entries (map module_entry rs)) fs blocks)
declared_code known m [] [] blocks all bare long = refl
declared_code known m [] (f ∷ fs) blocks all bare long = absurd bare
declared_code known m (version_record ∷ rs) fs blocks all bare long = declared_code known m rs fs blocks all bare long
declared_code known m (triple_record t ∷ rs) fs blocks all bare long = declared_code known m rs fs blocks all bare long
declared_code known m (layout_record t ∷ rs) fs blocks all bare long = declared_code known m rs fs blocks all bare long
declared_code known m (function_record ty a prototype c d ∷ rs) [] blocks all bare long = absurd bare
declared_code known m (function_record ty a prototype c d ∷ rs) (f ∷ fs) blocks all bare long =
    by (prototype == 0) (eqb-true prototype 0) (low_number prototype all.1) blocks long (λ bs same. declared_code known m rs fs bs all.2 bare.2 same)
  where
    own : ty ≡ f.ty
    own = same_Some ty f.ty bare.0

    by : (b : Bool) → (b ≡ true → prototype ≡ 0) → (b ≡ false → prototype ≡ 1) → (blocks : List Contents) →
        length blocks ≡ length (if b then (ty ∷ a ∷ prototype ∷ c ∷ d) ∷ with_bodies (function_entries (map module_entry rs)) else with_bodies (function_entries (map module_entry rs))) →
        ((bs : List Contents) → length bs ≡ length (with_bodies (function_entries (map module_entry rs))) → declarations rs ≡ map declaration_of (with_code m (function_entries (map module_entry rs)) fs bs)) →
        (ty, prototype) ∷ declarations rs
        ≡ map declaration_of (if b then with_first m f blocks ∷ with_code m (function_entries (map module_entry rs)) fs (drop 1 blocks) else f ∷ with_code m (function_entries (map module_entry rs)) fs blocks)
    by true zero_is one_is [] long rest = absurd (omega (arith, long))
    by true zero_is one_is (block ∷ blocks) long rest =
        pair_same ty prototype f.ty 0 (declarations rs) (map declaration_of (with_code m (function_entries (map module_entry rs)) fs blocks)) own (zero_is refl) (rest blocks (omega (arith, long)))
    by false zero_is one_is blocks long rest =
        pair_same ty prototype f.ty (prototype_of f.body) (declarations rs) (map declaration_of (with_code m (function_entries (map module_entry rs)) fs blocks)) own
        (one_is refl ∙ ap prototype_of (sym bare.1)) (rest blocks long)

-- bodies

-- each block is the body of a function
abbrev pub EachTold : Module → List Contents → List (Function × Body) → Type 0
EachTold m [] [] = Unit {0}
EachTold m [] (b ∷ bs) = ⊥
EachTold m (block ∷ blocks) [] = ⊥
EachTold m (block ∷ blocks) (b ∷ bs) = BodyTold m b.0 block b.1 × EachTold m blocks bs

pub each_recorded : (m : Module) (blocks : List Contents) (bs : List (Function × Body)) → EachTold m blocks bs → BodiesRecorded m blocks bs
each_recorded m [] [] told = tt
each_recorded m [] (b ∷ bs) told = absurd told
each_recorded m (block ∷ blocks) [] told = absurd told
each_recorded m (block ∷ blocks) (b ∷ bs) told = (told.0.recorded, each_recorded m blocks bs told.1)

pub each_sound : (m : Module) (blocks : List Contents) (bs : List (Function × Body)) → EachTold m blocks bs → All (λ (b : Function × Body). IsSoundBody m b.0 b.1) bs
each_sound m [] [] told = All-nil (λ (b : Function × Body). IsSoundBody m b.0 b.1)
each_sound m [] (b ∷ bs) told = absurd told
each_sound m (block ∷ blocks) [] told = absurd told
each_sound m (block ∷ blocks) (b ∷ bs) told = All-cons (λ (b : Function × Body). IsSoundBody m b.0 b.1) b bs told.0.sound (each_sound m blocks bs told.1)

pub each_fits : (m : Module) (blocks : List Contents) (bs : List (Function × Body)) → EachTold m blocks bs → All (λ (b : Function × Body). BodyInRange b.1) bs
each_fits m [] [] told = All-nil (λ (b : Function × Body). BodyInRange b.1)
each_fits m [] (b ∷ bs) told = absurd told
each_fits m (block ∷ blocks) [] told = absurd told
each_fits m (block ∷ blocks) (b ∷ bs) told = All-cons (λ (b : Function × Body). BodyInRange b.1) b bs told.0.range (each_fits m blocks bs told.1)

module _ (known : Known) (m outline : Module) (around : Around known m outline) where
  -- the blocks from one on, for the functions from one on
  abbrev From : ℕ → List (List ℕ) → List Contents → Type 0
  From at xs blocks =
      ((i : ℕ) → get_or (with_bodies known.functions) (at + i) [] ≡ get_or xs i [])
      × (length blocks ≡ length xs)
      × EachBodyHeld known at blocks

  pub each_told : (at : ℕ) (xs : List (List ℕ)) (fs : List Function) (blocks : List Contents) → From at (with_bodies xs) blocks → Bare xs fs → EachTold m blocks (bodies (with_code outline xs fs blocks))
  each_told at [] [] [] from bare = tt
  each_told at [] [] (b ∷ bs) from bare = absurd (omega (arith, from.1))
  each_told at [] (f ∷ fs) blocks from bare = absurd bare
  each_told at (x ∷ xs) [] blocks from bare = absurd bare
  each_told at (x ∷ xs) (f ∷ fs) blocks from bare = by (has_body x) blocks from (λ place bs next. each_told place xs fs bs next bare.2)
    where
      by : (b : Bool) (blocks : List Contents) → From at (if b then x ∷ with_bodies xs else with_bodies xs) blocks →
          ((place : ℕ) (bs : List Contents) → From place (with_bodies xs) bs → EachTold m bs (bodies (with_code outline xs fs bs))) →
          EachTold m blocks (bodies (if b then with_first outline f blocks ∷ with_code outline xs fs (drop 1 blocks) else f ∷ with_code outline xs fs blocks))
      by true [] from rest = absurd (omega (arith, from.1))
      by true (block ∷ blocks) from rest =
          let g : Function = record { name = f.name; ty = f.ty; body = Some (read_body outline f block) } in
          let here : get_or (with_bodies known.functions) at [] ≡ x = ap (λ k. get_or (with_bodies known.functions) k []) (omega arith) ∙ from.0 0 in
          let held : BodyHeld known x block = subst (λ operands. BodyHeld known operands block) here from.2.1 in (
            body_told known m outline around g f x block bare.0 bare.0 held,
            rest (suc at) blocks ((λ i. ap (λ k. get_or (with_bodies known.functions) k []) (omega arith) ∙ from.0 (suc i)), omega (arith, from.1), from.2.2),
          )
      by false blocks from rest =
          subst (λ (o : Option Body). EachTold m blocks (option_map_or (λ body. (f, body) ∷ bodies (with_code outline xs fs blocks)) o (bodies (with_code outline xs fs blocks)))) (sym bare.1) (rest at blocks from)

-- functions are in range where their names, types and bodies are
pub functions_fit : (fs : List Function) → All IsText (map (λ (f : Function). f.name) fs) → All (λ (f : Function). IsWord f.ty) fs → All (λ (b : Function × Body). BodyInRange b.1) (bodies fs) → All FunctionInRange fs
functions_fit [] names types fit = All-nil FunctionInRange
functions_fit (f ∷ fs) names types fit =
    let W = λ (f : Function). IsWord f.ty in
    let own = by f.body fit in
    All-cons FunctionInRange f fs (All-head IsText f.name (map (λ (f : Function). f.name) fs) names, All-head W f fs types, own.0)
    (functions_fit fs (All-tail IsText f.name (map (λ (f : Function). f.name) fs) names) (All-tail W f fs types) own.1)
  where
    by : (o : Option Body) → All (λ (b : Function × Body). BodyInRange b.1) (option_map_or (λ body. (f, body) ∷ bodies fs) o (bodies fs)) → IfSome o BodyInRange × All (λ (b : Function × Body). BodyInRange b.1) (bodies fs)
    by None fit = (tt, fit)
    by (Some body) fit = (All-head (λ (b : Function × Body). BodyInRange b.1) (f, body) (bodies fs) fit, All-tail (λ (b : Function × Body). BodyInRange b.1) (f, body) (bodies fs) fit)
