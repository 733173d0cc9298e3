-- Words that are a value of a type: as many as the type has, and each of its kind. Such words are read as they are.
use Rattle.std.proofs.Common.{◌≡◌, ◌∙◌, refl, ap, subst, ℕ, suc, ◌+◌, ◌^◌, ◌<◌, Bool, true, false, List, [], ◌∷◌, ◌++◌, map, length, arith}
use Rattle.std.specs.List.{range_with_len}
use Rattle.std.specs.Option.{ok_or}
use Rattle.std.proofs.lemmas.List.{append_assoc, length-append}
use Rattle.std.proofs.Math.Nat.{mod-eq_of_lt, zero-add}
use Rattle.lane_core.specs.declared.event.LaneFault.TheVariants.{OutOfBounds}
use Rattle.lane_core.specs.Words.{holds, truth, wrapping_add}
use Rattle.hl_meaning.specs.declared.ty.Kind.{Kind}
use Rattle.hl_meaning.specs.declared.ty.Kind.TheVariants.{Bool as BoolKind, Int as IntKind, Uint as UintKind}
use Rattle.hl_meaning.specs.Types.{Ty}
use Rattle.hl_meaning.specs.Programs.{StructDef}
use Rattle.hl_meaning.specs.Layout.{kinds_of, words_of}
use Rattle.hl_meaning.proofs.LayoutForms.{get-next, length-kinds_of}
use Rattle.hl_source.specs.Operations.{map_2, word_as}
use Rattle.hl_source.specs.State.{State, each, first_then, gives, goes_with}
use Rattle.hl_source.specs.Memory.{word_of, word_offsets}
use Rattle.typed_laws.specs.Fitting.{Fits, HasKinds}
use Rattle.typed_laws.proofs.ProgressLemmas.{giving}

pub kinds_length : (kinds : List Kind) (words : List ℕ) → HasKinds kinds words → length words ≡ length kinds
kinds_length [] [] h = refl
kinds_length [] (word ∷ words) h = absurd h
kinds_length (kind ∷ kinds) [] h = absurd h
kinds_length (kind ∷ kinds) (word ∷ words) h = ap suc (kinds_length kinds words h.1)

pub fits_length : (structs : List StructDef) (ty : Ty) (words : List ℕ) → Fits structs ty words → length words ≡ words_of structs ty
fits_length structs ty words h = kinds_length (kinds_of structs ty) words h ∙ length-kinds_of structs ty

pub kinds_same : (kinds : List Kind) (words : List ℕ) → HasKinds kinds words → map_2 word_as kinds words ≡ words
kinds_same [] [] h = refl
kinds_same [] (word ∷ words) h = absurd h
kinds_same (kind ∷ kinds) [] h = absurd h
kinds_same (kind ∷ kinds) (word ∷ words) h = ap (λ w. w ∷ map_2 word_as kinds words) h.0 ∙ ap (λ ws. word ∷ ws) (kinds_same kinds words h.1)

-- a word is read once as it is read twice
pub word_as_twice : (kind : Kind) (word : ℕ) → word_as kind (word_as kind word) ≡ word_as kind word
word_as_twice BoolKind word = by_truth (holds word)
  where
    by_truth : (b : Bool) → truth (holds (truth b)) ≡ truth b
    by_truth true = refl
    by_truth false = refl
word_as_twice IntKind word = refl
word_as_twice UintKind word = refl

pub kinds_read : (kinds : List Kind) (words : List ℕ) → length words ≡ length kinds → HasKinds kinds (map_2 word_as kinds words)
kinds_read [] [] e = tt
kinds_read [] (word ∷ words) e = absurd (omega (arith, e))
kinds_read (kind ∷ kinds) [] e = absurd (omega (arith, e))
kinds_read (kind ∷ kinds) (word ∷ words) e = (word_as_twice kind word, kinds_read kinds words (omega (arith, e)))

-- reading a whole variable

pub words_from : (before ws : List ℕ) (u : State) → length before + length ws < 2 ^ 32 →
    each (word_of (before ++ ws)) (map (wrapping_add 0) (range_with_len (length before) (length ws))) u ≡ goes_with ws u
words_from before [] u low = refl
words_from before (w ∷ ws) u low =
    let small : wrapping_add 0 (length before) ≡ length before = mod-eq_of_lt (omega (arith, low)) ∙ zero-add (length before) in
    let first : word_of (before ++ w ∷ ws) (wrapping_add 0 (length before)) u ≡ goes_with w u =
    ap (λ n. word_of (before ++ w ∷ ws) n u) small ∙ ap (λ o. gives (ok_or o OutOfBounds) u) (get-next before w ws) in
    let longer : length (before ++ w ∷ []) ≡ length before + 1 = length-append before (w ∷ []) in
    let rest = words_from (before ++ w ∷ []) ws u (omega (arith, low, longer)) in
    ap (λ p. first_then p (each (word_of (before ++ w ∷ ws)) (map (wrapping_add 0) (range_with_len (length before + 1) (length ws))))) first ∙
    ap (giving (λ r. w ∷ r))
    (subst (λ l. each (word_of l) (map (wrapping_add 0) (range_with_len (length before + 1) (length ws))) u ≡ goes_with ws u) (append_assoc before (w ∷ []) ws)
    (subst (λ n. each (word_of ((before ++ w ∷ []) ++ ws)) (map (wrapping_add 0) (range_with_len n (length ws))) u ≡ goes_with ws u) longer rest))

pub whole_words : (ws : List ℕ) (u : State) → length ws < 2 ^ 32 → each (word_of ws) (word_offsets 0 (length ws)) u ≡ goes_with ws u
whole_words ws u low = words_from [] ws u (omega (arith, low))
