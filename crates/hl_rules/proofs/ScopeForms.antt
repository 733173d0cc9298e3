-- What is known at a place stays known behind a declaration, and stands in the environment of the program.
use Rattle.std.proofs.Common.{◌≡◌, ◌∙◌, ◌⊎◌, inl, inr, refl, sym, ap, subst, ℕ, ◌+◌, ◌<◌, ◌≤◌, Bool, true, false, List, [], ◌∷◌, ◌++◌, length, Option, None, Some, append_assoc, length-append, arith}
use Rattle.std.specs.Prelude.{bytes_eq, option_map, slice_get, unwrap_or}
use Rattle.hl_lexer.specs.Numbers.{greatest_number}
use Rattle.hl_meaning.specs.Types.{Ty, void_type}
use Rattle.hl_meaning.specs.Trees.{variable_root}
use Rattle.hl_meaning.specs.Places as places
use Rattle.hl_meaning.specs.Programs.{StructDef, Variable}
use Rattle.hl_meaning.specs.WellFormed.{IsDeclared}
use Rattle.hl_rules.specs.Declarations.{variable, with_variable}
use Rattle.hl_rules.specs.Elaboration.{variable_of}
use Rattle.hl_rules.specs.Scopes.{BufferInfo, Named, Scope, Sort, StructInfo, a_buffer_name, a_function_name, a_struct_name, a_variable_name, behind, declared_among, declared_in, looped, named, opened, sort_of, spelled, with_global, with_local}
use Rattle.hl_rules.specs.Statements.{struct_defs}
use Rattle.hl_rules.proofs.DeclaratorForms.{IsKnownAs}
use Rattle.hl_rules.proofs.Fitting.{Fits, FitsStructs, FitsVariable, is_inside}
use Rattle.hl_meaning.proofs.LayoutForms.{get-next}
use Rattle.hl_rules.proofs.Soundness.{IsSound}
use Rattle.hl_rules.proofs.StructForms.{IsKnownType, declared-known, known_words}
use Rattle.hl_rules.proofs.VariableCounts.{IsBehind}

-- ---- names

-- what every name stands for
abbrev pub AllSorts : Scope → (Sort → Type 0) → Type 0
AllSorts s P = (name : List ℕ) (sort : Sort) → sort_of s name ≡ Some sort → P sort

in-this : (n : Named) (names : List Named) (name : List ℕ) → bytes_eq n.name name ≡ true → declared_in (n ∷ names) name ≡ Some n.sort
in-this n names name e = rw e refl

in-other : (n : Named) (names : List Named) (name : List ℕ) → bytes_eq n.name name ≡ false → declared_in (n ∷ names) name ≡ declared_in names name
in-other n names name e = rw e refl

-- one more name behind others
names-push : (P : Sort → Type 0) (names : List Named) (n : Named) (name : List ℕ) → ((sort : Sort) → declared_in names name ≡ Some sort → P sort) → P n.sort → (sort : Sort) → declared_in (names ++ n ∷ []) name ≡ Some sort → P sort
names-push P [] n name all new sort e = on (bytes_eq n.name name) refl
  where
    on : (b : Bool) → bytes_eq n.name name ≡ b → P sort
    on true h = subst P (ap (λ o. unwrap_or o sort) (sym (in-this n [] name h) ∙ e)) new
    on false h = absurd (cc (sym (in-other n [] name h) ∙ e))
names-push P (m ∷ names) n name all new sort e = on (bytes_eq m.name name) refl (λ among. names-push P names n name among new sort)
  where
    on : (b : Bool) → bytes_eq m.name name ≡ b → (((x : Sort) → declared_in names name ≡ Some x → P x) → declared_in (names ++ n ∷ []) name ≡ Some sort → P sort) → P sort
    on true h rest = all sort (in-this m names name h ∙ (sym (in-this m (names ++ n ∷ []) name h) ∙ e))
    on false h rest = rest (λ x k. all x (in-other m names name h ∙ k)) (sym (in-other m (names ++ n ∷ []) name h) ∙ e)

names-fewer : (names : List Named) (n : Named) (name : List ℕ) → declared_in (names ++ n ∷ []) name ≡ None → declared_in names name ≡ None
names-fewer [] n name e = refl
names-fewer (m ∷ names) n name e = on (bytes_eq m.name name) refl (names-fewer names n name)
  where
    on : (b : Bool) → bytes_eq m.name name ≡ b → (declared_in (names ++ n ∷ []) name ≡ None → declared_in names name ≡ None) → declared_in (m ∷ names) name ≡ None
    on true h rest = absurd (cc (sym (in-this m (names ++ n ∷ []) name h) ∙ e))
    on false h rest = in-other m names name h ∙ rest (sym (in-other m (names ++ n ∷ []) name h) ∙ e)

block-there : (block : List Named) (blocks : List (List Named)) (name : List ℕ) (other : Option Sort) (sort : Sort) → declared_in block name ≡ Some sort → declared_among (block ∷ blocks) name other ≡ Some sort
block-there block blocks name other sort e = rw e refl

block-passed : (block : List Named) (blocks : List (List Named)) (name : List ℕ) (other : Option Sort) → declared_in block name ≡ None → declared_among (block ∷ blocks) name other ≡ declared_among blocks name other
block-passed block blocks name other e = rw e refl

-- one more name in the innermost block
block-push : (P : Sort → Type 0) (block : List Named) (n : Named) (blocks : List (List Named)) (name : List ℕ) (other : Option Sort) →
    ((sort : Sort) → declared_among (block ∷ blocks) name other ≡ Some sort → P sort) → P n.sort → (sort : Sort) → declared_among ((block ++ n ∷ []) ∷ blocks) name other ≡ Some sort → P sort
block-push P block n blocks name other all new sort e = on (declared_in (block ++ n ∷ []) name) refl
  where
    on : (o : Option Sort) → declared_in (block ++ n ∷ []) name ≡ o → P sort
    on None k = all sort (block-passed block blocks name other (names-fewer block n name k) ∙ (sym (block-passed (block ++ n ∷ []) blocks name other k) ∙ e))
    on (Some x) k =
        subst P (ap (λ o. unwrap_or o sort) (sym (block-there (block ++ n ∷ []) blocks name other x k) ∙ e))
        (names-push P block n name (λ y h. all y (block-there block blocks name other y h)) new x k)

-- the blocks have the name, or what stands outside counts
among-cases : (blocks : List (List Named)) (name : List ℕ) → ((other : Option Sort) → declared_among blocks name other ≡ other) ⊎ ((sort : Sort) × ((other : Option Sort) → declared_among blocks name other ≡ Some sort))
among-cases [] name = inl (λ other. refl)
among-cases (block ∷ blocks) name = on (declared_in block name) refl (among-cases blocks name)
  where
    on : (o : Option Sort) → declared_in block name ≡ o → ((other : Option Sort) → declared_among blocks name other ≡ other) ⊎ ((sort : Sort) × ((other : Option Sort) → declared_among blocks name other ≡ Some sort)) → ((other : Option Sort) → declared_among (block ∷ blocks) name other ≡ other) ⊎ ((sort : Sort) × ((other : Option Sort) → declared_among (block ∷ blocks) name other ≡ Some sort))
    on None h (inl r) = inl (λ other. block-passed block blocks name other h ∙ r other)
    on None h (inr r) = inr (r.0, λ other. block-passed block blocks name other h ∙ r.1 other)
    on (Some x) h r = inr (x, λ other. block-there block blocks name other x h)

pub sorts-global : (P : Sort → Type 0) (s : Scope) (n : Named) → AllSorts s P → P n.sort → AllSorts (with_global n s) P
sorts-global P s n all new name sort e = on (among-cases s.blocks name)
  where
    on : ((other : Option Sort) → declared_among s.blocks name other ≡ other) ⊎ ((x : Sort) × ((other : Option Sort) → declared_among s.blocks name other ≡ Some x)) → P sort
    on (inl r) =
        names-push P s.globals n name (λ x h. all name x (r (declared_in s.globals name) ∙ h)) new sort
        (sym (r (declared_in (s.globals ++ n ∷ []) name)) ∙ e)
    on (inr r) = all name sort (r.1 (declared_in s.globals name) ∙ (sym (r.1 (declared_in (s.globals ++ n ∷ []) name)) ∙ e))

sorts-block : (P : Sort → Type 0) (blocks : List (List Named)) (s : Scope) (n : Named) → AllSorts (record s { blocks = blocks }) P → P n.sort → AllSorts (with_local n (record s { blocks = blocks })) P
sorts-block P [] s n all new name sort e = block-push P [] n [] name (declared_in s.globals name) (λ x h. all name x h) new sort e
sorts-block P (block ∷ blocks) s n all new name sort e = block-push P block n blocks name (declared_in s.globals name) (λ x h. all name x h) new sort e

pub sorts-local : (P : Sort → Type 0) (s : Scope) (n : Named) → AllSorts s P → P n.sort → AllSorts (with_local n s) P
sorts-local P s n all new = sorts-block P s.blocks s n all new

-- where no block stands around, the names of a function's own block are the global ones
pub sorts-outside : (P : Sort → Type 0) (s : Scope) → s.blocks ≡ [] → AllSorts s P → AllSorts (record s { blocks = [] ∷ [] }) P
sorts-outside P s h all name sort e = all name sort (ap (λ b. declared_among b name (declared_in s.globals name)) h ∙ e)

-- ---- what a scope knows

-- what a name stands for has a type, or is there
abbrev pub KnownSort : List BufferInfo → List StructInfo → Sort → Type 0
KnownSort buffers structs (a_variable_name v) =
    ((ty : Ty) × (v.ty ≡ Some ty)) × ((number : ℕ) → v.number ≡ Some number → number ≤ greatest_number)
KnownSort buffers structs (a_buffer_name number) = (buffer : BufferInfo) × (slice_get buffers number ≡ Some buffer)
KnownSort buffers structs (a_struct_name number) = number < length structs
KnownSort buffers structs a_function_name = Unit {0}

known-sort : (s : Scope) → IsSound s → (name : List ℕ) (sort : Sort) → sort_of s name ≡ Some sort → KnownSort s.buffers s.structs sort
known-sort s sound name (a_variable_name v) e = (sound.known.variables name v e, λ number h. sound.known.numbers name v number e h)
known-sort s sound name (a_buffer_name number) e = sound.known.buffers name number e
known-sort s sound name (a_struct_name number) e = sound.struct_names name number e
known-sort s sound name a_function_name e = tt

pub known-sorts : (s : Scope) → IsSound s → AllSorts s (KnownSort s.buffers s.structs)
known-sorts s sound name sort e = known-sort s sound name sort e

-- another scope of the same function knows as much, if its names do
pub sound-names : (s : Scope) (blocks : List (List Named)) (globals : List Named) (variables : ℕ) (in_loop : Bool) (result : Option Ty) → IsSound s →
    AllSorts (record s { blocks = blocks; globals = globals }) (KnownSort s.buffers s.structs) → IsSound (record s { blocks = blocks; globals = globals; variables = variables; in_loop = in_loop; result = result })
sound-names s blocks globals variables in_loop result sound all = record {
  known = record {
    tokens = sound.known.tokens;
    variables = λ name v e. (all name (a_variable_name v) e).0;
    numbers = λ name v number e h. (all name (a_variable_name v) e).1 number h;
    members = λ number member name e. sound.known.members number member name e;
    buffers = λ name number e. all name (a_buffer_name number) e;
    elements = λ number buffer e h. sound.known.elements number buffer e h;
    functions = λ number f e. sound.known.functions number f e;
  };
  structs = sound.structs;
  struct_names = λ name number e. all name (a_struct_name number) e;
}

pub sound-opened : (s : Scope) → IsSound s → IsSound (opened s)
sound-opened s sound = sound-names s ([] ∷ s.blocks) s.globals s.variables s.in_loop s.result sound (λ name sort e. known-sorts s sound name sort e)

pub sound-looped : (s : Scope) → IsSound s → IsSound (looped s)
sound-looped s sound = sound-names s ([] ∷ s.blocks) s.globals s.variables true s.result sound (λ name sort e. known-sorts s sound name sort e)

pub sound-behind : (count : ℕ) (s : Scope) → IsSound s → IsSound (behind count s)
sound-behind count s sound = sound-names s s.blocks s.globals (s.variables + count) s.in_loop s.result sound (known-sorts s sound)

pub sound-local : (n : Named) (s : Scope) → IsSound s → KnownSort s.buffers s.structs n.sort → IsSound (with_local n s)
sound-local n s sound new = sound-names s (with_local n s).blocks s.globals s.variables s.in_loop s.result sound (sorts-local (KnownSort s.buffers s.structs) s n (known-sorts s sound) new)

pub sound-global : (n : Named) (s : Scope) → IsSound s → KnownSort s.buffers s.structs n.sort → IsSound (with_global n s)
sound-global n s sound new = sound-names s s.blocks (s.globals ++ n ∷ []) s.variables s.in_loop s.result sound (sorts-global (KnownSort s.buffers s.structs) s n (known-sorts s sound) new)

-- behind the declaration of a variable of a known type
pub sound-variable : (name : ℕ) (ty : Option Ty) (is_const : Bool) (s : Scope) → IsSound s → IsKnownAs s ty → IsSound (with_variable name ty is_const s)
sound-variable name ty is_const s sound known =
    sound-behind 1 (with_local (named (spelled s name) (variable (variable_root s.variables) ty is_const None)) s)
    (sound-local (named (spelled s name) (variable (variable_root s.variables) ty is_const None)) s sound
    ((known.type, known.is), λ number h. absurd (cc h)))

-- ---- environments

-- what a name stands for stands in the environment
abbrev pub FitSort : places.Scope → Sort → Type 0
FitSort env (a_variable_name v) = (ty : Ty) → v.ty ≡ Some ty → FitsVariable env v ty
FitSort env _ = Unit {0}

-- the structs and the names of a scope stand in an environment
pub record FitsNames (env : places.Scope) (s : Scope) : Type 0 where
  pub more : List StructDef
  pub prefix : env.structs ≡ struct_defs s.structs ++ more
  pub names : AllSorts s (FitSort env)

fit-sort : (env : places.Scope) (s : Scope) → Fits env s → (name : List ℕ) (sort : Sort) → sort_of s name ≡ Some sort → FitSort env sort
fit-sort env s fits name (a_variable_name v) e = λ ty h. fits.variables name v ty e h
fit-sort env s fits name (a_buffer_name number) e = tt
fit-sort env s fits name (a_struct_name number) e = tt
fit-sort env s fits name a_function_name e = tt

pub names-fit : (env : places.Scope) (s : Scope) → Fits env s → FitsNames env s
names-fit env s fits = record { more = fits.more; prefix = fits.prefix; names = λ name sort e. fit-sort env s fits name sort e }

-- a known type is one that something of the program may have
pub declared-there : (env : places.Scope) (s : Scope) (ty : Ty) → IsSound s → FitsNames env s → IsKnownType (known_words s.structs) ty → IsDeclared env.structs ty
declared-there env s ty sound fits known = subst (λ l. IsDeclared l ty) (sym fits.prefix) (declared-known s.structs s.structs fits.more ty sound.structs known)

-- ---- variables

-- some variables stand at a place of a list
pub record HoldsPart (variables : List Variable) (at : ℕ) (part : List Variable) : Type 0 where
  pub before : List Variable
  pub behind : List Variable
  pub is : variables ≡ before ++ (part ++ behind)
  pub begins : length before ≡ at

pub holds-left : (variables : List Variable) (at : ℕ) (a b : List Variable) → HoldsPart variables at (a ++ b) → HoldsPart variables at a
holds-left variables at a b h = record { before = h.before; behind = b ++ h.behind; is = h.is ∙ ap (λ l. h.before ++ l) (append_assoc a b h.behind); begins = h.begins }

pub holds-right : (variables : List Variable) (at count : ℕ) (a b : List Variable) → length a ≡ count → HoldsPart variables at (a ++ b) → HoldsPart variables (at + count) b
holds-right variables at count a b e h = record {
  before = h.before ++ a;
  behind = h.behind;
  is = h.is ∙ (ap (λ l. h.before ++ l) (append_assoc a b h.behind) ∙ sym (append_assoc h.before a (b ++ h.behind)));
  begins = length-append h.before a ∙ omega (arith, h.begins, e);
}

pub holds-first : (variables : List Variable) (at : ℕ) (v : Variable) (rest : List Variable) → HoldsPart variables at (v ∷ rest) → slice_get variables at ≡ Some v
holds-first variables at v rest h = ap (λ l. slice_get l at) h.is ∙ (ap (λ n. slice_get (h.before ++ v ∷ (rest ++ h.behind)) n) (sym h.begins) ∙ get-next h.before v (rest ++ h.behind))

-- the variable of a number that a name stands for
fits-variable : (env : places.Scope) (s : Scope) (name : ℕ) (ty : Option Ty) (is_const : Bool) (own : Ty) → slice_get env.variables s.variables ≡ Some (variable_of s name ty) → ty ≡ Some own → IsDeclared env.structs own → FitsVariable env (record { root = variable_root s.variables; ty = ty; is_const = is_const; number = None }) own
fits-variable env s name ty is_const own there is declared = record {
  type = ap (λ o. option_map (λ (v : Variable). v.ty) o) there ∙ ap (λ o. Some (unwrap_or o void_type)) is;
  declared = declared;
  writes = λ h. refl;
  whole = refl;
}

pub names-variable : (env : places.Scope) (s : Scope) (name : ℕ) (ty : Option Ty) (is_const : Bool) → IsSound s → IsKnownAs s ty → FitsNames env s → slice_get env.variables s.variables ≡ Some (variable_of s name ty) → FitsNames env (with_variable name ty is_const s)
names-variable env s name ty is_const sound known fits there = record {
  more = fits.more;
  prefix = fits.prefix;
  names = sorts-local (FitSort env) s (named (spelled s name) (variable (variable_root s.variables) ty is_const None)) fits.names (λ own is. fits-variable env s name ty is_const own there is (declared-there env s own sound fits (subst (λ t. IsKnownType (known_words s.structs) t) (ap (λ o. unwrap_or o own) (sym known.is ∙ is)) known.known)));
}

-- what a scope in the same function knows stands in the environment too, if its names do
pub fits-behind : (env : places.Scope) (count : ℕ) (s t : Scope) → Fits env s → IsBehind count s t → FitsNames env t → Fits env t
fits-behind env count s t fits same names = record {
  more = names.more;
  prefix = names.prefix;
  structs = subst (λ l. FitsStructs l env.structs) (sym same.structs) fits.structs;
  buffers = λ number buffer e. fits.buffers number buffer (ap (λ l. slice_get l number) (sym same.buffers) ∙ e);
  variables = λ name v ty e h. names.names name (a_variable_name v) e ty h;
  functions = λ number f e h. fits.functions number f (ap (λ l. slice_get l number) (sym same.functions) ∙ e) (ap (λ i. is_inside i number) (sym same.inside) ∙ h);
  result = same.result ∙ fits.result;
}
