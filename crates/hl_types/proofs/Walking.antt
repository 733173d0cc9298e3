-- Walks that note, make statements and declare variables, one part behind the other.
use Rattle.std.proofs.Common.{◌≡◌, ◌∙◌, refl, sym, ap, ℕ, ◌+◌, ◌<◌, ◌≤◌, List, [], ◌∷◌, ◌++◌, Option, None, Some, append_assoc, append-nil, length, drop, get_or, Bool, is_some}
use Rattle.hl_parser.specs.Trees.{Tree, Trees, a_local}
use Rattle.hl_meaning.specs.Trees.{Stmts, more_stmts, no_stmts}
use Rattle.hl_rules.specs.declared.found.Broken.{Broken}
use Rattle.hl_rules.specs.Parts.{Site}
use Rattle.hl_rules.specs.Rules.{noted}
use Rattle.hl_rules.specs.Statements.{append_stmts, appended}
use Rattle.hl_rules.proofs.Noting.{noted-append}
use Rattle.hl_types.proofs.Turns.{left-end, left-turn}

-- ---- what is noted

pub noted-both : (f0 f1 f2 : Option Broken) (a b : List Site) → f1 ≡ noted f0 a → f2 ≡ noted f1 b → f2 ≡ noted f0 (a ++ b)
noted-both f0 f1 f2 a b first second = second ∙ (ap (λ f. noted f b) first ∙ sym (noted-append f0 a b))

pub noted-three : (f0 f1 f2 f3 : Option Broken) (a b c : List Site) → f1 ≡ noted f0 a → f2 ≡ noted f1 b → f3 ≡ noted f2 c → f3 ≡ noted f0 (a ++ (b ++ c))
noted-three f0 f1 f2 f3 a b c e1 e2 e3 = noted-both f0 f1 f3 a (b ++ c) e1 (noted-both f1 f2 f3 b c e2 e3)

-- ---- statements behind others

append_stmts-assoc : (a b c : Stmts) → append_stmts (append_stmts a b) c ≡ append_stmts a (append_stmts b c)
append_stmts-assoc no_stmts b c = refl
append_stmts-assoc (more_stmts first rest) b c = ap (more_stmts first) (append_stmts-assoc rest b c)

append_stmts-none : (a : Stmts) → append_stmts a no_stmts ≡ a
append_stmts-none no_stmts = refl
append_stmts-none (more_stmts first rest) = ap (more_stmts first) (append_stmts-none rest)

pub appended-assoc : (a b c : Option Stmts) → appended (appended a b) c ≡ appended a (appended b c)
appended-assoc None b c = refl
appended-assoc (Some a) None c = refl
appended-assoc (Some a) (Some b) None = refl
appended-assoc (Some a) (Some b) (Some c) = ap Some (append_stmts-assoc a b c)

pub appended-first : (b : Option Stmts) → appended (Some no_stmts) b ≡ b
appended-first None = refl
appended-first (Some b) = refl

pub appended-last : (a : Option Stmts) → appended a (Some no_stmts) ≡ a
appended-last None = refl
appended-last (Some a) = ap Some (append_stmts-none a)

pub code-turn : {A : Type 0} (here there : List A → Option Stmts) (one : Option Stmts) (xs : List A) (i : ℕ) (x : A) (made next before : Option Stmts)
    → i < length xs → x ≡ get_or xs i x → here (x ∷ drop (i + 1) xs) ≡ appended one (there (drop (i + 1) xs))
    → appended made (here (drop i xs)) ≡ before → next ≡ appended made one → appended next (there (drop (i + 1) xs)) ≡ before
code-turn here there one xs i x made next before within is step invariant e =
    ap (λ a. appended a (there (drop (i + 1) xs))) e ∙ (appended-assoc made one (there (drop (i + 1) xs)) ∙
    (ap (appended made) (sym step) ∙ left-turn (λ l. appended made (here l)) xs i x before within is invariant))

pub code-end : {A : Type 0} (code : List A → Option Stmts) (xs : List A) (i : ℕ) (made before : Option Stmts)
    → length xs ≤ i → code [] ≡ Some no_stmts → appended made (code (drop i xs)) ≡ before → made ≡ before
code-end code xs i made before within none invariant =
    sym (appended-last made) ∙ (ap (appended made) (sym none) ∙ left-end (λ l. appended made (code l)) xs i before within invariant)

-- ---- variables behind others

pub list-turn : {A B : Type 0} (here there : List A → List B) (one : List B) (xs : List A) (i : ℕ) (x : A) (made next before : List B)
    → i < length xs → x ≡ get_or xs i x → here (x ∷ drop (i + 1) xs) ≡ one ++ there (drop (i + 1) xs)
    → made ++ here (drop i xs) ≡ before → next ≡ made ++ one → next ++ there (drop (i + 1) xs) ≡ before
list-turn here there one xs i x made next before within is step invariant e =
    ap (λ a. a ++ there (drop (i + 1) xs)) e ∙ (append_assoc made one (there (drop (i + 1) xs)) ∙
    (ap (λ l. made ++ l) (sym step) ∙ left-turn (λ l. made ++ here l) xs i x before within is invariant))

pub list-end : {A B : Type 0} (list : List A → List B) (xs : List A) (i : ℕ) (made before : List B)
    → length xs ≤ i → list [] ≡ [] → made ++ list (drop i xs) ≡ before → made ≡ before
list-end list xs i made before within none invariant =
    sym (append-nil made) ∙ (ap (λ l. made ++ l) (sym none) ∙ left-end (λ l. made ++ list l) xs i before within invariant)

pub list-both : {B : Type 0} (v0 v1 v2 a b : List B) → v1 ≡ v0 ++ a → v2 ≡ v1 ++ b → v2 ≡ v0 ++ (a ++ b)
list-both v0 v1 v2 a b first second = second ∙ (ap (λ v. v ++ b) first ∙ append_assoc v0 a b)

-- two equal parts
pub both-is : {A B C : Type 0} (f : A → B → C) {a b : A} {x y : B} → a ≡ b → x ≡ y → f a x ≡ f b y
both-is f {a = a} {b = b} {x = x} {y = y} e h = ap (λ z. f z x) e ∙ ap (f b) h

-- what a declaration is, whatever is read of it
pub local-is : {A : Type 0} (f : Tree → A) (g : Tree → Bool → A) (at : ℕ) (constant : Option ℕ) (same type : Tree) (is_const : Bool) (starts : Trees) (t : Tree)
    → ((x : Tree) → g x (is_some constant) ≡ f (a_local at constant x starts)) → same ≡ type → is_const ≡ is_some constant → t ≡ a_local at constant type starts → g same is_const ≡ f t
local-is f g at constant same type is_const starts t form e is tree = both-is g e is ∙ (form type ∙ sym (ap f tree))
