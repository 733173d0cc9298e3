-- The first state of a function, and what stands in the variables of the function in place where its body begins.
use Rattle.std.proofs.Common.{◌≡◌, ◌∙◌, refl, sym, ap, subst, ℕ, zero, suc, ◌+◌, ◌<◌, ◌≤◌, ◌⊎◌, inl, inr, List, [], ◌∷◌, ◌++◌, map, length, None, Some, get_or, arith}
use Rattle.std.specs.Prelude.{drop}
use Rattle.std.proofs.lemmas.List.{length-map, length-set}
use Rattle.std.proofs.lemmas.Bool.{cases_eq}
use Rattle.std.proofs.lemmas.Option.{none-some, same_Some}
use Rattle.lane_core.specs.Lane.{Lane}
use Rattle.hl_meaning.specs.declared.program.Parameter.{Parameter}
use Rattle.hl_meaning.specs.Types.{Ty}
use Rattle.hl_meaning.specs.Places.{variable_type}
use Rattle.hl_meaning.specs.Programs.{Variable}
use Rattle.hl_meaning.specs.Layout.{words_of}
use Rattle.hl_source.specs.State.{Context, State, goes_with, variable_words, with_variable}
use Rattle.hl_source.specs.Memory.{zeros_of}
use Rattle.hl_inline.specs.FlatTrees.{Flat, flat_local}
use Rattle.hl_inline.specs.FlatLane.{flat_end}
use Rattle.typed_laws.proofs.StatementSizes.{zeros_sizes}
use Rattle.typed_laws.proofs.Variables.{sizes_at, sizes_in, sizes_set, variable_size, words_set_other, words_set_same}
use Rattle.hl_inline.proofs.Performing.{perform}
use Rattle.hl_inline.proofs.Passing.{HeldAs}
use Rattle.typed_laws.proofs.Typed.{never}
use Rattle.hl_inline.proofs.UsedUndeclaredLemmas.{In, in_cases, in_first, in_rest}

-- sums of places

pub zero_plus : (m : ℕ) → 0 + m ≡ m
zero_plus m = omega arith

pub nothing_more : (m : ℕ) → m + 0 ≡ m
nothing_more m = omega arith

pub one_more : (m u : ℕ) → m + suc u ≡ suc m + u
one_more m u = omega arith

-- zeros

abbrev pub zeros : List ℕ → List ℕ
zeros ws = map (λ _. 0) ws

zeros_twice : (ws : List ℕ) → zeros (zeros ws) ≡ zeros ws
zeros_twice [] = refl
zeros_twice (w ∷ ws) = ap (λ l. 0 ∷ l) (zeros_twice ws)

-- a variable set to zeros
abbrev pub cleared : (number : ℕ) → State → State
cleared number t = with_variable number (zeros (variable_words t number)) t

-- some variables of an instance set to zeros
abbrev pub zeroed : (first : ℕ) → List ℕ → State → State
zeroed first [] t = t
zeroed first (v ∷ vs) t = zeroed first vs (cleared (first + v) t)

pub zeroed_runs : (f : Flat) (lane : Lane) (n : ℕ) (first : ℕ) (vs : List ℕ) (t : State) → perform f lane n (map (λ v. flat_local (first + v) None) vs) t ≡ goes_with flat_end (zeroed first vs t)
zeroed_runs f lane n first [] t = refl
zeroed_runs f lane n first (v ∷ vs) t = zeroed_runs f lane n first vs (cleared (first + v) t)

pub zeroed_exchange : (first : ℕ) (vs : List ℕ) (t : State) → (zeroed first vs t).exchange ≡ t.exchange
zeroed_exchange first [] t = refl
zeroed_exchange first (v ∷ vs) t = zeroed_exchange first vs (cleared (first + v) t)

pub zeroed_sizes : (first : ℕ) (vs : List ℕ) (t : State) → sizes_at (zeroed first vs t) ≡ sizes_at t
zeroed_sizes first [] t = refl
zeroed_sizes first (v ∷ vs) t =
    zeroed_sizes first vs (cleared (first + v) t) ∙ sizes_set (first + v) (zeros (variable_words t (first + v))) t (length-map (variable_words t (first + v)) (λ _. 0))

pub zeroed_other : (first : ℕ) (vs : List ℕ) (t : State) (w : ℕ) → ((v : ℕ) → In vs v → w ≡ first + v → ⊥) → variable_words (zeroed first vs t) w ≡ variable_words t w
zeroed_other first [] t w apart = refl
zeroed_other first (v ∷ vs) t w apart =
    zeroed_other first vs (cleared (first + v) t) w (λ u there. apart u (in_rest v u vs there)) ∙
    words_set_other (first + v) w (zeros (variable_words t (first + v))) t (apart v (in_first v vs))

cleared_low : (number w : ℕ) (t : State) → w < length t.variables → w < length (cleared number t).variables
cleared_low number w t low = subst (λ k. w < k) (sym (length-set t.variables number (zeros (variable_words t number)))) low

-- zeros stay zeros
zeroed_stays : (first : ℕ) (vs : List ℕ) (t : State) (w : ℕ) (ws : List ℕ) → variable_words t w ≡ zeros ws → w < length t.variables → variable_words (zeroed first vs t) w ≡ zeros ws
zeroed_stays first [] t w ws e low = e
zeroed_stays first (v ∷ vs) t w ws e low =
    zeroed_stays first vs (cleared (first + v) t) w ws (by_case (cases_eq w (first + v))) (cleared_low (first + v) w t low)
  where
    by_case : (w ≡ first + v) ⊎ (w ≡ first + v → ⊥) → variable_words (cleared (first + v) t) w ≡ zeros ws
    by_case (inl is) =
        subst (λ m. variable_words (cleared m t) w ≡ zeros ws) is (words_set_same w (zeros (variable_words t w)) t low ∙ (ap zeros e ∙ zeros_twice ws))
    by_case (inr apart) = words_set_other (first + v) w (zeros (variable_words t (first + v))) t apart ∙ e

-- each of them is zeros then
pub zeroed_at : (first : ℕ) (vs : List ℕ) (t : State) (v : ℕ) → In vs v → first + v < length t.variables → variable_words (zeroed first vs t) (first + v) ≡ zeros (variable_words t (first + v))
zeroed_at first [] t v there low = never there
zeroed_at first (u ∷ vs) t v there low =
    by_case (cases_eq v u) (in_cases u v vs there) (λ there. zeroed_at first vs (cleared (first + u) t) v there (cleared_low (first + u) (first + v) t low))
  where
    by_case : (v ≡ u) ⊎ (v ≡ u → ⊥) → (v ≡ u) ⊎ In vs v → (In vs v → variable_words (zeroed first vs (cleared (first + u) t)) (first + v) ≡ zeros (variable_words (cleared (first + u) t) (first + v))) →
        variable_words (zeroed first vs (cleared (first + u) t)) (first + v) ≡ zeros (variable_words t (first + v))
    by_case (inl is) either next =
        zeroed_stays first vs (cleared (first + u) t) (first + v) (variable_words t (first + v))
        (subst (λ m. variable_words (cleared (first + m) t) (first + v) ≡ zeros (variable_words t (first + v))) is (words_set_same (first + v) (zeros (variable_words t (first + v))) t low))
        (cleared_low (first + u) (first + v) t low)
    by_case (inr apart) (inl is) next = absurd (apart is)
    by_case (inr apart) (inr h) next =
        next h ∙ ap zeros (words_set_other (first + u) (first + v) (zeros (variable_words t (first + u))) t (λ is. apart (omega (arith, is))))

-- the first state of a function

pub first_sizes : (c : Context) (V : List Variable) (t : State) (first : ℕ) (vs : List Variable) (parameters : List Parameter) (words : List (List ℕ)) → sizes_at t ≡ sizes_in c V → length parameters ≤ length vs → length words ≡ length parameters →
    HeldAs t first parameters words → ((v : ℕ) (ty : Ty) → variable_type vs v ≡ Some ty → variable_type V (first + v) ≡ Some ty) →
    map length (words ++ map (λ v. zeros_of c v.ty) (drop (length parameters) vs)) ≡ map (λ v. words_of c.scope.structs v.ty) vs
first_sizes c V t first vs [] [] sizes fewer exact held typed = zeros_sizes c vs
first_sizes c V t first vs [] (w ∷ words) sizes fewer exact held typed = absurd (omega (arith, exact))
first_sizes c V t first vs (p ∷ parameters) [] sizes fewer exact held typed = absurd (omega (arith, exact))
first_sizes c V t first [] (p ∷ parameters) (w ∷ words) sizes fewer exact held typed = absurd (omega (arith, fewer))
first_sizes c V t first (v ∷ vs) (p ∷ parameters) (w ∷ words) sizes fewer exact held typed =
    ap (λ k. k ∷ map length (words ++ map (λ v. zeros_of c v.ty) (drop (length parameters) vs)))
    (ap length (sym held.0) ∙ variable_size c V t first v.ty sizes (subst (λ k. variable_type V k ≡ Some v.ty) (nothing_more first) (typed 0 v.ty refl))) ∙
    ap (λ l. words_of c.scope.structs v.ty ∷ l)
    (first_sizes c V t (suc first) vs parameters words sizes (omega (arith, fewer)) (omega (arith, exact)) held.1 (λ u ty e. subst (λ k. variable_type V k ≡ Some ty) (one_more first u) (typed (suc u) ty e)))

-- the words of a parameter
pub parameter_words : (t : State) (first : ℕ) (parameters : List Parameter) (words more : List (List ℕ)) (v : ℕ) → length words ≡ length parameters → HeldAs t first parameters words → v < length parameters → variable_words t (first + v) ≡ get_or (words ++ more) v []
parameter_words t first [] words more v exact held low = absurd (omega (arith, low))
parameter_words t first (p ∷ parameters) [] more v exact held low = absurd held
parameter_words t first (p ∷ parameters) (w ∷ words) more zero exact held low = subst (λ k. variable_words t k ≡ w) (sym (nothing_more first)) held.0
parameter_words t first (p ∷ parameters) (w ∷ words) more (suc v) exact held low =
    subst (λ k. variable_words t k ≡ get_or (words ++ more) v []) (sym (one_more first v)) (parameter_words t (suc first) parameters words more v (omega (arith, exact)) held.1 (omega (arith, low)))

zeros_words : (c : Context) (vs : List Variable) (v : ℕ) (ty : Ty) → variable_type vs v ≡ Some ty → get_or (map (λ x. zeros_of c x.ty) vs) v [] ≡ zeros_of c ty
zeros_words c [] v ty e = absurd (none-some ty e)
zeros_words c (x ∷ vs) zero ty e = ap (zeros_of c) (same_Some x.ty ty e)
zeros_words c (x ∷ vs) (suc v) ty e = zeros_words c vs v ty e

-- the words of another variable
pub other_words : (c : Context) (vs : List Variable) (words : List (List ℕ)) (v : ℕ) (ty : Ty) → length words ≤ v → variable_type vs v ≡ Some ty → get_or (words ++ map (λ x. zeros_of c x.ty) (drop (length words) vs)) v [] ≡ zeros_of c ty
other_words c vs [] v ty low typed = zeros_words c vs v ty typed
other_words c [] (w ∷ words) v ty low typed = absurd (none-some ty typed)
other_words c (x ∷ vs) (w ∷ words) zero ty low typed = absurd (omega (arith, low))
other_words c (x ∷ vs) (w ∷ words) (suc v) ty low typed = other_words c vs words v ty (omega (arith, low)) typed

-- parameters that stand in a list of words
pub held_from : (u : State) (first : ℕ) (parameters : List Parameter) (words : List (List ℕ)) → length parameters ≤ length words → ((v : ℕ) → v < length parameters → variable_words u (first + v) ≡ get_or words v []) → HeldAs u first parameters words
held_from u first [] words fewer h = tt
held_from u first (p ∷ parameters) [] fewer h = absurd (omega (arith, fewer))
held_from u first (p ∷ parameters) (w ∷ words) fewer h = (
  subst (λ k. variable_words u k ≡ w) (nothing_more first) (h 0 (omega arith)),
  held_from u (suc first) parameters words (omega (arith, fewer)) (λ v low. subst (λ k. variable_words u k ≡ get_or words v []) (one_more first v) (h (suc v) (omega (arith, low)))),
)
