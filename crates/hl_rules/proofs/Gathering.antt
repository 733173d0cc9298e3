-- What gathering over sites finds is the first broken rule.
use Rattle.std.proofs.Common.{◌≡◌, ◌∙◌, refl, sym, ap, subst, arith, ℕ, ◌⊎◌, inl, inr, Bool, true, false, if◌then◌else◌, List, [], ◌∷◌, ◌++◌, Option, None, Some}
use Rattle.std.specs.Prelude.{flat_map, unwrap_or}
use Rattle.hl_lexer.specs.Tokens.{Lexeme}
use Rattle.hl_parser.specs.Trees.{Tree}
use Rattle.hl_rules.specs.declared.found.Broken.{Broken}
use Rattle.hl_rules.specs.Found.{Among, IsNotBehind, broken, first_of, gathered, is_before}
use Rattle.hl_rules.specs.Laws.{OneFirst}
use Rattle.hl_rules.specs.Parts.{Site}
use Rattle.hl_rules.specs.Rules.{Breaks, BreaksFirst, IsFirstBroken, broken_by, broken_in}
use Rattle.hl_rules.specs.Sites.{program_sites}

-- ---- lists

pub among-left : {A : Type 0} (xs ys : List A) (x : A) → Among xs x → Among (xs ++ ys) x
among-left [] ys x h = absurd h
among-left (y ∷ xs) ys x (inl e) = inl e
among-left (y ∷ xs) ys x (inr h) = inr (among-left xs ys x h)

pub among-right : {A : Type 0} (xs ys : List A) (x : A) → Among ys x → Among (xs ++ ys) x
among-right [] ys x h = h
among-right (y ∷ xs) ys x h = inr (among-right xs ys x h)

pub among-parts : {A : Type 0} (xs ys : List A) (x : A) → Among (xs ++ ys) x → Among xs x ⊎ Among ys x
among-parts [] ys x h = inr h
among-parts (y ∷ xs) ys x (inl e) = inl (inl e)
among-parts (y ∷ xs) ys x (inr h) = on_rest (among-parts xs ys x h)
  where
    on_rest : Among xs x ⊎ Among ys x → Among (y ∷ xs) x ⊎ Among ys x
    on_rest (inl k) = inl (inr k)
    on_rest (inr k) = inr k

-- what stands in the list of one of them stands in the whole
pub among-flat : {A B : Type 0} (f : A → List B) (xs : List A) (y : A) (x : B) → Among xs y → Among (f y) x → Among (flat_map f xs) x
among-flat f [] y x h k = absurd h
among-flat f (z ∷ xs) y x (inl e) k = among-left (f z) (flat_map f xs) x (subst (λ w. Among (f w) x) (sym e) k)
among-flat f (z ∷ xs) y x (inr h) k = among-right (f z) (flat_map f xs) x (among-flat f xs y x h k)

-- what stands in the whole stands in the list of one of them
pub flat-among : {A B : Type 0} (f : A → List B) (xs : List A) (x : B) → Among (flat_map f xs) x → (y : A) × Among xs y × Among (f y) x
flat-among f [] x h = absurd h
flat-among {A} f (z ∷ xs) x h = on_parts (λ k. on_rest (flat-among f xs x k)) (among-parts (f z) (flat_map f xs) x h)
  where
    on_rest : (y : A) × Among xs y × Among (f y) x → (y : A) × Among (z ∷ xs) y × Among (f y) x
    on_rest r = (r.0, inr r.1, r.2)

    on_parts : (Among (flat_map f xs) x → (y : A) × Among (z ∷ xs) y × Among (f y) x) → Among (f z) x ⊎ Among (flat_map f xs) x → (y : A) × Among (z ∷ xs) y × Among (f y) x
    on_parts rest (inl k) = (z, inl refl, k)
    on_parts rest (inr k) = rest k

-- ---- order

not_behind-same : (a : Broken) → IsNotBehind a a
not_behind-same a = grind arith

not_behind-trans : (a b c : Broken) → IsNotBehind a b → IsNotBehind b c → IsNotBehind a c
not_behind-trans a b c h k = grind arith

-- of two the first isn't behind either
chosen : (a b : Broken) (before : Bool) → is_before b a ≡ before → IsNotBehind (if before then b else a) a × IsNotBehind (if before then b else a) b
chosen a b true e = grind arith
chosen a b false e = grind arith

which : (a b : Broken) (before : Bool) → ((if before then b else a) ≡ a) ⊎ ((if before then b else a) ≡ b)
which a b true = inr refl
which a b false = inl refl

-- ---- gathering

-- what is found is none other than what was found before or stands in the list, and isn't behind any of these
pub record IsFirstOf (found : Option Broken) (more : List Broken) (first : Broken) : Type 0 where
  pub there : (found ≡ Some first) ⊎ Among more first
  pub before : (other : Broken) → found ≡ Some other → IsNotBehind first other
  pub among : (other : Broken) → Among more other → IsNotBehind first other

some_same : {A : Type 0} {x y : A} → Some x ≡ Some y → x ≡ y
some_same {x = x} e = ap (λ o. unwrap_or o x) e

not_none : {A : Type 0} {x : A} → ¬ (None ≡ Some x)
not_none e = cc

-- gathering from something found finds the first
pub gathered-some : (found : Broken) (more : List Broken) → (first : Broken) × (gathered (Some found) more ≡ Some first) × IsFirstOf (Some found) more first
gathered-some found [] = (
  found,
  refl,
  record {
    there = inl refl;
    before = λ other e. subst (λ o. IsNotBehind found o) (some_same e) (not_behind-same found);
    among = λ other h. absurd h;
  },
)
gathered-some found (b ∷ more) = on_rest (gathered-some (first_of (Some found) b) more)
  where
    next : Broken
    next = first_of (Some found) b

    there_if : (first : Broken) → (next ≡ found) ⊎ (next ≡ b) → (Some next ≡ Some first) ⊎ Among more first → (Some found ≡ Some first) ⊎ Among (b ∷ more) first
    there_if first w (inr h) = inr (inr h)
    there_if first (inl e) (inl h) = inl (ap Some (sym e ∙ some_same h))
    there_if first (inr e) (inl h) = inr (inl (sym e ∙ some_same h))

    among_if : (first : Broken) → IsFirstOf (Some next) more first → (other : Broken) → (b ≡ other) ⊎ Among more other → IsNotBehind first other
    among_if first k other (inl e) =
        subst (λ o. IsNotBehind first o) e
        (not_behind-trans first next b (k.before next refl) (chosen found b (is_before b found) refl).1)
    among_if first k other (inr h) = k.among other h

    on_rest : (first : Broken) × (gathered (Some next) more ≡ Some first) × IsFirstOf (Some next) more first → (first : Broken) × (gathered (Some found) (b ∷ more) ≡ Some first) × IsFirstOf (Some found) (b ∷ more) first
    on_rest r = (
      r.0,
      r.1,
      record {
        there = there_if r.0 (which found b (is_before b found)) r.2.there;
        before = λ other e.
            subst (λ o. IsNotBehind r.0 o) (some_same e)
            (not_behind-trans r.0 next found (r.2.before next refl) (chosen found b (is_before b found) refl).0);
        among = among_if r.0 r.2;
      },
    )

-- ---- programs

-- what stands in the list of all that sites break is broken, and the other way round
breaks-listed : (tree : Tree) (tokens : List Lexeme) (entry : List ℕ) (at rule : ℕ) → Breaks tree tokens entry at rule → Among (broken_in (program_sites tokens entry tree)) (broken at rule)
breaks-listed tree tokens entry at rule b =
    among-flat (λ place. broken_by place.scope place.part) (program_sites tokens entry tree) b.place (broken at rule) b.stands b.breaks

listed-breaks : (tree : Tree) (tokens : List Lexeme) (entry : List ℕ) (at rule : ℕ) → Among (broken_in (program_sites tokens entry tree)) (broken at rule) → Breaks tree tokens entry at rule
listed-breaks tree tokens entry at rule h =
    given (flat-among (λ place. broken_by place.scope place.part) (program_sites tokens entry tree) (broken at rule) h)
  where
    given : (place : Site) × Among (program_sites tokens entry tree) place × Among (broken_by place.scope place.part) (broken at rule) → Breaks tree tokens entry at rule
    given r = record { place = r.0; stands = r.1; breaks = r.2 }

-- what is gathered over the list of all that is broken is the first
first-gathered : (tree : Tree) (tokens : List Lexeme) (entry : List ℕ) (list : List Broken) → broken_in (program_sites tokens entry tree) ≡ list → IsFirstBroken tree tokens entry (gathered None list)
first-gathered tree tokens entry [] e = λ at rule b. subst (λ l. Among l (broken at rule)) e (breaks-listed tree tokens entry at rule b)
first-gathered tree tokens entry (b ∷ more) e = given (gathered-some b more)
  where
    listed : (first : Broken) → (Some b ≡ Some first) ⊎ Among more first → Among (b ∷ more) first
    listed first (inl h) = inl (some_same h)
    listed first (inr h) = inr h

    not_behind : (first : Broken) → IsFirstOf (Some b) more first → (other : Broken) → Among (b ∷ more) other → IsNotBehind first other
    not_behind first k other (inl h) = k.before other (ap Some h)
    not_behind first k other (inr h) = k.among other h

    is_first : (first : Broken) → IsFirstOf (Some b) more first → BreaksFirst tree tokens entry first.at first.rule
    is_first first k = record {
      breaks = listed-breaks tree tokens entry first.at first.rule (subst (λ l. Among l first) (sym e) (listed first k.there));
      first = λ at rule h. not_behind first k (broken at rule) (subst (λ l. Among l (broken at rule)) e (breaks-listed tree tokens entry at rule h));
    }

    given : (first : Broken) × (gathered (Some b) more ≡ Some first) × IsFirstOf (Some b) more first → IsFirstBroken tree tokens entry (gathered (Some b) more)
    given r = subst (λ found. IsFirstBroken tree tokens entry found) (sym r.1) (is_first r.0 r.2)

pub one_first : OneFirst
one_first tree tokens entry = first-gathered tree tokens entry (broken_in (program_sites tokens entry tree)) refl
