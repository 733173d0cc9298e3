-- The words of a constant that breaks no rule.
use Rattle.std.proofs.Common.{◌≡◌, ◌∙◌, refl, sym, ap, arith, ℕ, ◌≤◌, Bool, true, false, if◌then◌else◌, List, [], ◌∷◌, ◌++◌, map, length, Option, None, Some}
use Rattle.std.specs.Prelude.{◌==◌, ◌||◌, is_some, option_map}
use Rattle.hl_lexer.specs.declared.terminal.Terminal.{Terminal}
use Rattle.hl_lexer.specs.declared.terminal.Terminal.TheVariants as terminals
use Rattle.hl_lexer.specs.Numbers.{greatest_number}
use Rattle.hl_parser.specs.Trees.{Tree, Trees, a_primary, a_unary, absent, an_init, more_trees, no_trees, present}
use Rattle.hl_meaning.specs.declared.ty.Kind.{Kind}
use Rattle.hl_meaning.specs.declared.ty.Kind.TheVariants.{Bool as BoolKind, Int as IntKind, Uint as UintKind}
use Rattle.hl_meaning.specs.Types.{scalar_type}
use Rattle.hl_meaning.specs.WellFormed.{HoldWords, IsLiteralOf}
use Rattle.hl_rules.specs.Constants.{constant_number}
use Rattle.hl_rules.specs.DeclarationRules.{are_constant_inits, is_constant_init, is_minus, is_signed_or_truth, is_truth_word, leaves_among, leaves_of}
use Rattle.hl_rules.specs.Elaboration.{init_words, leaf_word, leaf_words, negative, signed_or_truth, truth_word, word_in}
use Rattle.hl_rules.specs.Expressions.{with_two}
use Rattle.hl_rules.specs.Scopes.{Scope}
use Rattle.hl_rules.specs.Source.{terminal_at}
use Rattle.hl_rules.proofs.TypeLemmas.{and-left, and-right}
use Rattle.hl_rules.proofs.ConstantNumbers.{number-fits}
use Rattle.hl_rules.proofs.Fitting.{IsKnown}

-- a word of 32 bits
pub record IsWordThere (found : Option ℕ) : Type 0 where
  pub word : ℕ
  pub is : found ≡ Some word
  pub fits : word ≤ greatest_number

-- what rule 9 says of a leaf
abbrev pub is_constant_leaf : Scope → Tree → Bool
is_constant_leaf s leaf = is_some (constant_number s leaf) || is_signed_or_truth s leaf

truth-there : (terminal : Terminal) → is_truth_word terminal ≡ true → IsWordThere (truth_word terminal)
truth-there terminals.True e = record { word = 1; is = refl; fits = omega arith }
truth-there terminals.False e = record { word = 0; is = refl; fits = omega arith }
truth-there other e = absurd (cc e)

negative-fits : (n : ℕ) → negative n ≤ greatest_number
negative-fits n = omega arith

negative-there : (o : Option ℕ) → is_some o ≡ true → IsWordThere (option_map negative o)
negative-there None e = absurd (cc e)
negative-there (Some n) e = record { word = negative n; is = refl; fits = negative-fits n }

signed-there : (s : Scope) (leaf : Tree) → is_signed_or_truth s leaf ≡ true → IsWordThere (signed_or_truth s leaf)
signed-there s (a_primary at absent absent) e = truth-there (terminal_at s.tokens at) e
signed-there s (a_unary at absent operand) e = negative-there (constant_number s operand) (and-right (is_minus (terminal_at s.tokens at)) (is_some (constant_number s operand)) e)
signed-there s other e = absurd (cc e)

leaf-signed : (s : Scope) (leaf : Tree) → constant_number s leaf ≡ None → leaf_word s leaf ≡ signed_or_truth s leaf
leaf-signed s leaf h = rw h refl

leaf-there : (s : Scope) → IsKnown s → (leaf : Tree) → is_constant_leaf s leaf ≡ true → IsWordThere (leaf_word s leaf)
leaf-there s known leaf e = on (constant_number s leaf) refl
  where
    on : (found : Option ℕ) → constant_number s leaf ≡ found → IsWordThere (leaf_word s leaf)
    on (Some n) h = record { word = n; is = rw h refl; fits = number-fits s known leaf n h }
    on None h =
        let own = signed-there s leaf (ap (λ o. is_some o || is_signed_or_truth s leaf) (sym h) ∙ e) in
        record { word = own.word; is = leaf-signed s leaf h ∙ own.is; fits = own.fits }

-- ---- words of kinds

-- a bool is 0 or 1, and another word keeps its bits
kind-holds : (kind : Kind) (word : ℕ) → word ≤ greatest_number → IsLiteralOf (scalar_type kind) (word_in kind word)
kind-holds BoolKind word h = on (word == 0)
  where
    on : (nothing : Bool) → (if nothing then 0 else 1) ≤ 1
    on true = omega arith
    on false = omega arith
kind-holds IntKind word h = omega (arith, h)
kind-holds UintKind word h = omega (arith, h)

-- one word fills all
fill-holds : (kinds : List Kind) (word : ℕ) → word ≤ greatest_number → HoldWords kinds (map (λ kind. word_in kind word) kinds)
fill-holds [] word h = tt
fill-holds (kind ∷ kinds) word h = (kind-holds kind word h, fill-holds kinds word h)

-- words of kinds are there
pub record HasWords (kinds : List Kind) (found : Option (List ℕ)) : Type 0 where
  pub words : List ℕ
  pub is : found ≡ Some words
  pub hold : HoldWords kinds words

-- each leaf is what rule 9 asks for
abbrev pub AreConstantLeaves : Scope → List Tree → Type 0
AreConstantLeaves s [] = Unit {0}
AreConstantLeaves s (leaf ∷ leaves) = (is_constant_leaf s leaf ≡ true) × AreConstantLeaves s leaves

leaves-join : (s : Scope) (a b : List Tree) → AreConstantLeaves s a → AreConstantLeaves s b → AreConstantLeaves s (a ++ b)
leaves-join s [] b h k = k
leaves-join s (leaf ∷ a) b h k = (h.0, leaves-join s a b h.1 k)

mutual
  init-leaves : (s : Scope) (init : Tree) → is_constant_init s init ≡ true → AreConstantLeaves s (leaves_of init)
  init-leaves s (an_init at (present value) parts) e = (e, tt)
  init-leaves s (an_init at absent parts) e = inits-leaves s parts e
  init-leaves s other e = absurd (cc e)

  inits-leaves : (s : Scope) (inits : Trees) → are_constant_inits s inits ≡ true → AreConstantLeaves s (leaves_among inits)
  inits-leaves s no_trees e = tt
  inits-leaves s (more_trees first rest) e =
      leaves-join s (leaves_of first) (leaves_among rest) (init-leaves s first (and-left (is_constant_init s first) (are_constant_inits s rest) e))
      (inits-leaves s rest (and-right (is_constant_init s first) (are_constant_inits s rest) e))

leaves-there : (s : Scope) → IsKnown s → (kinds : List Kind) (leaves : List Tree) → length leaves ≡ length kinds → AreConstantLeaves s leaves → HasWords kinds (leaf_words s kinds leaves)
leaves-there s known [] [] e ready = record { words = []; is = refl; hold = tt }
leaves-there s known [] (leaf ∷ leaves) e ready = absurd (omega (arith, e))
leaves-there s known (kind ∷ kinds) [] e ready = absurd (omega (arith, e))
leaves-there s known (kind ∷ kinds) (leaf ∷ leaves) e ready = joined (leaf-there s known leaf ready.0) (leaves-there s known kinds leaves (omega (arith, e)) ready.1)
  where
    joined : IsWordThere (leaf_word s leaf) → HasWords kinds (leaf_words s kinds leaves) → HasWords (kind ∷ kinds) (leaf_words s (kind ∷ kinds) (leaf ∷ leaves))
    joined first rest = record {
      words = word_in kind first.word ∷ rest.words;
      is =
          ap (λ o. with_two (λ word words. Some (word_in kind word ∷ words)) o (leaf_words s kinds leaves)) first.is
          ∙ ap (λ o. with_two (λ word words. Some (word_in kind word ∷ words)) (Some first.word) o) rest.is;
      hold = (kind-holds kind first.word first.fits, rest.hold);
    }

-- ---- initialisers

-- one value fills a scalar or a vector
pub value-words : (s : Scope) → IsKnown s → (kinds : List Kind) (at : ℕ) (value : Tree) (parts : Trees) → is_constant_leaf s value ≡ true → HasWords kinds (init_words s kinds (an_init at (present value) parts))
value-words s known kinds at value parts e =
    let own = leaf-there s known value e in
    record { words = map (λ kind. word_in kind own.word) kinds; is = ap (λ o. option_map (λ word. map (λ kind. word_in kind word) kinds) o) own.is; hold = fill-holds kinds own.word own.fits }

-- braces hold one for each word
pub brace-words : (s : Scope) → IsKnown s → (kinds : List Kind) (at : ℕ) (parts : Trees) → length (leaves_among parts) ≡ length kinds → are_constant_inits s parts ≡ true → HasWords kinds (init_words s kinds (an_init at absent parts))
brace-words s known kinds at parts e h = leaves-there s known kinds (leaves_among parts) e (inits-leaves s parts h)
