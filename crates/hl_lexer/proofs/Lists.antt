-- Lists that begin alike, and tables of them.
use Rattle.std.proofs.Common.{◌≡◌, ◌∙◌, refl, sym, ap, subst, ℕ, zero, suc, ◌+◌, ◌≤◌, Bool, true, ◌&&◌, List, [], ◌∷◌, ◌++◌, Some, length, get_or, slice_get, arith}
use Rattle.std.specs.List.{AllPass, position_or_len, list_all}
use Rattle.std.specs.Str.{bytes_eq}
use Rattle.std.proofs.lemmas.Bool.{and_parts, both_ways, ltb-true}
use Rattle.std.proofs.lemmas.List.Elements.{All-head, All-tail}
use Rattle.std.proofs.lemmas.List.Sums.{AllPass-from_list_all, passes_at_first}
use Rattle.std.proofs.lemmas.Option.{cond_some, slice_get_within, get_or_from_slice_get, slice_get-get_or}
use Rattle.std.proofs.lemmas.Slice.Eq.{bytes_eq-Decides}
use Rattle.hl_lexer.specs.Bytes.{Ends}
use Rattle.hl_lexer.specs.Scanning.{number_in}

-- two lists that begin alike, at fronts of one length
pub split_same : {X : Type 0} (a c b d : List X) → length a ≡ length c → a ++ b ≡ c ++ d → (a ≡ c) × (b ≡ d)
split_same [] [] b d h e = (refl, e)
split_same [] (y ∷ c) b d h e = absurd (omega arith)
split_same (x ∷ a) [] b d h e = absurd (omega arith)
split_same (x ∷ a) (y ∷ c) b d h e =
    let head : x ≡ y = cc e in
    let rest : a ++ b ≡ c ++ d = cc e in
    let same : length a ≡ length c = omega arith in
    let both = split_same a c b d same rest in
    (λ i. head i ∷ both.0 i, both.1)

-- a run that ends here is no shorter than a front that passes
pub run_longest : (p : ℕ → Bool) (run front after back : List ℕ) → Ends p after → AllPass p front → front ++ back ≡ run ++ after → length front ≤ length run
run_longest p run [] after back ends passes e = omega arith
run_longest p [] (x ∷ front) [] back ends passes e = cc
run_longest p [] (x ∷ front) (y ∷ after) back ends passes e =
    let same : x ≡ y = cc in
    absurd (both_ways (p y) ends (sym (ap p same) ∙ All-head (λ b. p b ≡ true) x front passes))
run_longest p (y ∷ run) (x ∷ front) after back ends passes e =
    let rest : front ++ back ≡ run ++ after = cc e in
    let shorter = run_longest p run front after back ends (All-tail (λ b. p b ≡ true) x front passes) rest in
    omega arith

-- two runs that begin alike and end are one
pub run_once : (p : ℕ → Bool) (run front after back : List ℕ) → AllPass p run → AllPass p front → Ends p after → Ends p back → run ++ after ≡ front ++ back → (run ≡ front) × (after ≡ back)
run_once p run front after back h g ends stops e =
    let one = run_longest p run front after back ends g (sym e) in
    let two = run_longest p front run back after stops h e in
    split_same run front after back (omega arith) e

-- what passes everywhere in a table passes at a number
pub passes_at : {X : Type 0} (p : X → Bool) (xs : List X) (n : ℕ) (x : X) → list_all p xs ≡ true → slice_get xs n ≡ Some x → p x ≡ true
passes_at p xs n x h e =
    let within = slice_get_within xs n x e in
    let passes = AllPass-from_list_all p xs h n x within in
    subst (λ y. p y ≡ true) (get_or_from_slice_get xs n x x e) passes

-- a test of each element with its number, from a number on
abbrev pub each_passes : {X : Type 0} → (ℕ → X → Bool) → ℕ → List X → Bool
each_passes p k [] = true
each_passes p k (x ∷ xs) = p k x && each_passes p (suc k) xs

pub each_at : {X : Type 0} (p : ℕ → X → Bool) (k : ℕ) (xs : List X) (n : ℕ) (x : X) → each_passes p k xs ≡ true → slice_get xs n ≡ Some x → p (n + k) x ≡ true
each_at p k [] n x h e = cc
each_at p k (y ∷ xs) zero x h e =
    let same : y ≡ x = cc e in
    let zeros : k ≡ 0 + k = omega arith in
    subst (λ m. p m x ≡ true) zeros (subst (λ z. p k z ≡ true) same (and_parts (p k y) (each_passes p (suc k) xs) h).0)
each_at p k (y ∷ xs) (suc n) x h e =
    let rest = each_at p (suc k) xs n x (and_parts (p k y) (each_passes p (suc k) xs) h).1 e in
    let moved : n + suc k ≡ suc n + k = omega arith in
    subst (λ m. p m x ≡ true) moved rest

-- the number of a spelling is where it stands
pub number_stands : (spellings : List (List ℕ)) (bytes : List ℕ) (n : ℕ) → number_in spellings bytes ≡ Some n → slice_get spellings n ≡ Some bytes
number_stands spellings bytes n e =
    let test = λ (spelling : List ℕ). bytes_eq spelling bytes in
    let found = cond_some _ (position_or_len test spellings) n e in
    let within = ltb-true (position_or_len test spellings) (length spellings) found.0 in
    let passes = passes_at_first test spellings [] within in
    let same = (bytes_eq-Decides (get_or spellings (position_or_len test spellings) []) bytes).0 passes in
    subst (λ m. slice_get spellings m ≡ Some bytes) found.1
    (slice_get-get_or spellings (position_or_len test spellings) [] within ∙ ap Some same)
