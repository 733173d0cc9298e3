-- How a lane of a program and one of the program without calls stand to one another, inside one call of a function.
use Rattle.std.proofs.Common.{◌≡◌, ◌∙◌, refl, sym, ap, subst, ℕ, ◌+◌, ◌<◌, ◌≤◌, ◌⊎◌, inl, inr, List, [], ◌∷◌, length, Some, slice_get, arith}
use Rattle.std.specs.Prelude.{option_map}
use Rattle.std.proofs.lemmas.Bool.{cases_eq}
use Rattle.hl_meaning.specs.Types.{Ty, void_type}
use Rattle.hl_meaning.specs.Places.{variable_type}
use Rattle.hl_meaning.specs.Programs.{Variable}
use Rattle.hl_source.specs.State.{Context, Progress, State, after, each, ends_at, goes_with, variable_words, with_variable}
use Rattle.hl_source.specs.Memory.{constant_words}
use Rattle.typed_laws.proofs.Variables.{count_by_sizes, sizes_at, sizes_in, sizes_set, words_set_other, words_set_same}

-- what is known in a program without calls, of the same buffers, groupshared variables and lane, with these variables
abbrev pub flat_of_context : Context → List Variable → Context
flat_of_context c V = record {
  scope = record {
    structs = c.scope.structs;
    resources = c.scope.resources;
    shared = c.scope.shared;
    constants = [];
    functions = [];
    variables = V;
    result = void_type;
  };
  slots = c.slots;
  callees = [];
  lane = c.lane;
}

-- The state of a function, whose variable of a number stands `first` further in the other state. The variables in D hold
-- the same words, and each variable has the words of its type.
pub record Related (c : Context) (V : List Variable) (first : ℕ) (D : ℕ → Type 0) (s t : State) : Type 0 where
  pub exchange : s.exchange ≡ t.exchange
  pub sizes : sizes_at s ≡ sizes_in c c.scope.variables
  pub flat_sizes : sizes_at t ≡ sizes_in c V
  pub same : (v : ℕ) → v < length c.scope.variables → D v → variable_words t (first + v) ≡ variable_words s v
  pub constants : (k : ℕ) → k < length c.scope.constants → variable_words t k ≡ constant_words c k

-- a variable that isn't one of the function
abbrev pub IsOutside : (first size : ℕ) → ℕ → Type 0
IsOutside first size w = (w < first) ⊎ (first + size ≤ w)

-- the variables below a number that aren't those of the function are as they were
abbrev pub Keeps : (first size below : ℕ) → State → State → Type 0
Keeps first size below t u = (w : ℕ) → w < below → IsOutside first size w → variable_words u w ≡ variable_words t w

-- The same with each variable outside the function's.
abbrev pub KeepsAll : (first size : ℕ) → State → State → Type 0
KeepsAll first size t u = (w : ℕ) → IsOutside first size w → variable_words u w ≡ variable_words t w

-- two parts of runs that end alike, or go on with the same and with related states
abbrev pub Alike : {A : Type 0} → (State → State → Type 0) → Progress A → Progress A → Type 0
Alike R (goes_with a s) q = (t : State) × (q ≡ goes_with a t) × R s t
Alike R (ends_at run) q = q ≡ ends_at run

pub alike_after : {A B : Type 0} (R S : State → State → Type 0) (p q : Progress A) (f g : A → State → Progress B) →
    Alike R p q → ((a : A) (s t : State) → R s t → Alike S (f a s) (g a t)) → Alike S (after p f) (after q g)
alike_after R S (goes_with a s) q f g (t, e, r) h = subst (λ x. Alike S (f a s) (after x g)) (sym e) (h a s t r)
alike_after R S (ends_at run) q f g e h = ap (λ x. after x g) e

pub alike_goes : {A : Type 0} (R : State → State → Type 0) (a : A) (s t : State) → R s t → Alike R (goes_with a s) (goes_with a t)
alike_goes R a s t r = (t, refl, r)

pub alike_each : {A B : Type 0} (R : State → State → Type 0) (part other : A → State → Progress B) →
    ((x : A) (s t : State) → R s t → Alike R (part x s) (other x t)) → (xs : List A) (s t : State) → R s t → Alike R (each part xs s) (each other xs t)
alike_each R part other h [] s t r = alike_goes R [] s t r
alike_each R part other h (x ∷ xs) s t r =
    alike_after R R (part x s) (other x t) _ _ (h x s t r) (λ a s1 t1 r1.
    alike_after R R (each part xs s1) (each other xs t1) _ _ (alike_each R part other h xs s1 t1 r1) (λ as_rest s2 t2 r2. alike_goes R (a ∷ as_rest) s2 t2 r2))

-- what makes an instance of a function stand among the variables of a program without calls: its variables and the
-- constants have their types, and there is room
pub record Stands (c : Context) (V : List Variable) (first : ℕ) : Type 0 where
  pub own : (v : ℕ) (t : Ty) → variable_type c.scope.variables v ≡ Some t → variable_type V (first + v) ≡ Some t
  pub constant : (k : ℕ) (t : Ty) → option_map (λ d. d.variable.ty) (slice_get c.scope.constants k) ≡ Some t → variable_type V k ≡ Some t
  pub below : length c.scope.constants ≤ first
  pub room : first + length c.scope.variables ≤ length V

-- a variable of the function is set in both states to as many words as it has
pub related_set : (c : Context) (V : List Variable) (first : ℕ) (D E : ℕ → Type 0) (v : ℕ) (ws : List ℕ) (s t : State) → Stands c V first → Related c V first D s t →
    v < length c.scope.variables → ((u : ℕ) → E u → D u ⊎ (u ≡ v)) → length ws ≡ length (variable_words s v) → length ws ≡ length (variable_words t (first + v)) →
    Related c V first E (with_variable v ws s) (with_variable (first + v) ws t)
related_set c V first D E v ws s t stands r low among e e' = record {
  exchange = r.exchange;
  sizes = sizes_set v ws s e ∙ r.sizes;
  flat_sizes = sizes_set (first + v) ws t e' ∙ r.flat_sizes;
  same = λ u here is_e. by_case u here (among u is_e) (cases_eq u v);
  constants = λ k is_k. words_set_other (first + v) k ws t (λ is. omega (arith, is, is_k, stands.below)) ∙ r.constants k is_k;
}
  where
    source_low : v < length s.variables
    source_low = omega (arith, low, count_by_sizes c c.scope.variables s r.sizes)

    flat_low : first + v < length t.variables
    flat_low = omega (arith, low, stands.room, count_by_sizes c V t r.flat_sizes)

    set_both : (u : ℕ) → u ≡ v → variable_words (with_variable (first + v) ws t) (first + u) ≡ variable_words (with_variable v ws s) u
    set_both u is =
        subst (λ w. variable_words (with_variable (first + v) ws t) (first + w) ≡ variable_words (with_variable v ws s) w) (sym is)
        (words_set_same (first + v) ws t flat_low ∙ sym (words_set_same v ws s source_low))

    by_case : (u : ℕ) → u < length c.scope.variables → D u ⊎ (u ≡ v) → (u ≡ v) ⊎ (u ≡ v → ⊥) → variable_words (with_variable (first + v) ws t) (first + u) ≡ variable_words (with_variable v ws s) u
    by_case u here among (inl is) = set_both u is
    by_case u here (inr is) (inr apart) = set_both u is
    by_case u here (inl d) (inr apart) =
        words_set_other (first + v) (first + u) ws t (λ is. apart (omega (arith, is))) ∙ (r.same u here d ∙ sym (words_set_other v u ws s apart))

-- the variables outside are as they were
pub outside_set : (first size v : ℕ) (ws : List ℕ) (t : State) → v < size → KeepsAll first size t (with_variable (first + v) ws t)
outside_set first size v ws t low w outside = words_set_other (first + v) w ws t (λ is. apart outside is)
  where
    apart : IsOutside first size w → w ≡ first + v → ⊥
    apart (inl below) is = omega (arith, below, is)
    apart (inr above) is = omega (arith, above, is, low)

pub keeps_all_trans : (first size : ℕ) (t u v : State) → KeepsAll first size t u → KeepsAll first size u v → KeepsAll first size t v
keeps_all_trans first size t u v k l w outside = l w outside ∙ k w outside
