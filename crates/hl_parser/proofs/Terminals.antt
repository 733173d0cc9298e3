-- Terminals are told apart by their numbers, and a test of all of them is one of each.
use Rattle.std.proofs.Common.{◌≡◌, ◌∙◌, refl, sym, ap, subst, ℕ, zero, suc, Bool, true, false, not, cond, ◌&&◌, List, [], ◌∷◌}
use Rattle.std.proofs.lemmas.Bool.{and_parts, eqb-true, eq-eqb}
use Rattle.hl_lexer.specs.declared.terminal.Terminal.{Terminal}
use Rattle.hl_lexer.specs.declared.terminal.Terminal.TheVariants as terminals
use Rattle.hl_parser.specs.Codes.{all_terminals, code_of, is}
use Rattle.hl_parser.specs.Machine.{Move, only}

at_number : List Terminal → ℕ → Terminal
at_number [] n = terminals.Unlisted
at_number (x ∷ xs) zero = x
at_number (x ∷ xs) (suc n) = at_number xs n

at_code : (t : Terminal) → at_number all_terminals (code_of t) ≡ t
unfolding at_number
at_code terminals.Name = refl
at_code terminals.Number = refl
at_code terminals.Void = refl
at_code terminals.Bool = refl
at_code terminals.Int = refl
at_code terminals.Uint = refl
at_code terminals.Bool2 = refl
at_code terminals.Bool3 = refl
at_code terminals.Bool4 = refl
at_code terminals.Int2 = refl
at_code terminals.Int3 = refl
at_code terminals.Int4 = refl
at_code terminals.Uint2 = refl
at_code terminals.Uint3 = refl
at_code terminals.Uint4 = refl
at_code terminals.Struct = refl
at_code terminals.Static = refl
at_code terminals.Const = refl
at_code terminals.Groupshared = refl
at_code terminals.In = refl
at_code terminals.Out = refl
at_code terminals.Inout = refl
at_code terminals.If = refl
at_code terminals.Else = refl
at_code terminals.For = refl
at_code terminals.While = refl
at_code terminals.Do = refl
at_code terminals.Break = refl
at_code terminals.Continue = refl
at_code terminals.Return = refl
at_code terminals.True = refl
at_code terminals.False = refl
at_code terminals.Register = refl
at_code terminals.ByteAddressBuffer = refl
at_code terminals.RwByteAddressBuffer = refl
at_code terminals.StructuredBuffer = refl
at_code terminals.RwStructuredBuffer = refl
at_code terminals.OpenParenthesis = refl
at_code terminals.CloseParenthesis = refl
at_code terminals.OpenBrace = refl
at_code terminals.CloseBrace = refl
at_code terminals.OpenBracket = refl
at_code terminals.CloseBracket = refl
at_code terminals.Semicolon = refl
at_code terminals.Comma = refl
at_code terminals.Dot = refl
at_code terminals.Colon = refl
at_code terminals.Question = refl
at_code terminals.Equals = refl
at_code terminals.Plus = refl
at_code terminals.Minus = refl
at_code terminals.Star = refl
at_code terminals.Slash = refl
at_code terminals.Percent = refl
at_code terminals.Less = refl
at_code terminals.Greater = refl
at_code terminals.Exclamation = refl
at_code terminals.Tilde = refl
at_code terminals.Ampersand = refl
at_code terminals.Bar = refl
at_code terminals.Caret = refl
at_code terminals.AmpersandAmpersand = refl
at_code terminals.BarBar = refl
at_code terminals.EqualsEquals = refl
at_code terminals.ExclamationEquals = refl
at_code terminals.LessEquals = refl
at_code terminals.GreaterEquals = refl
at_code terminals.LessLess = refl
at_code terminals.GreaterGreater = refl
at_code terminals.PlusEquals = refl
at_code terminals.MinusEquals = refl
at_code terminals.StarEquals = refl
at_code terminals.SlashEquals = refl
at_code terminals.PercentEquals = refl
at_code terminals.AmpersandEquals = refl
at_code terminals.BarEquals = refl
at_code terminals.CaretEquals = refl
at_code terminals.LessLessEquals = refl
at_code terminals.GreaterGreaterEquals = refl
at_code terminals.PlusPlus = refl
at_code terminals.MinusMinus = refl
at_code terminals.Unlisted = refl

pub same_is : (t u : Terminal) → is t u ≡ true → t ≡ u
same_is t u e = sym (at_code t) ∙ (ap (at_number all_terminals) (eqb-true (code_of t) (code_of u) e) ∙ at_code u)

pub is_self : (t : Terminal) → is t t ≡ true
is_self t = eq-eqb (code_of t) (code_of t) refl

-- a test that all of them pass
abbrev pub all_pass : (Terminal → Bool) → List Terminal → Bool
all_pass p [] = p terminals.Unlisted
all_pass p (x ∷ xs) = p x && all_pass p xs

pass_at : (p : Terminal → Bool) (xs : List Terminal) (n : ℕ) → all_pass p xs ≡ true → p (at_number xs n) ≡ true
unfolding at_number
pass_at p [] n h = h
pass_at p (x ∷ xs) zero h = (and_parts (p x) (all_pass p xs) h).0
pass_at p (x ∷ xs) (suc n) h = pass_at p xs n (and_parts (p x) (all_pass p xs) h).1

pub every : (p : Terminal → Bool) → all_pass p all_terminals ≡ true → (t : Terminal) → p t ≡ true
every p h t = subst (λ x. p x ≡ true) (at_code t) (pass_at p all_terminals (code_of t) h)

pub only_itself : {move : Move} (t : Terminal) → only t t move ≡ move
only_itself {move = move} t = ap (λ b. cond b move Move.refuses) (is_self t)

-- tests that imply others

abbrev pub implies : Bool → Bool → Bool
implies true b = b
implies false b = true

pub implied : (a b : Bool) → implies a b ≡ true → a ≡ true → b ≡ true
implied a b h e = subst (λ x. implies x b ≡ true) e h

pub by_every : (p q : Terminal → Bool) → all_pass (λ t. implies (p t) (q t)) all_terminals ≡ true → (t : Terminal) → p t ≡ true → q t ≡ true
by_every p q h t e = implied (p t) (q t) (every (λ t. implies (p t) (q t)) h t) e

pub not_true : (b : Bool) → not b ≡ true → b ≡ false
not_true true e = cc
not_true false e = refl
