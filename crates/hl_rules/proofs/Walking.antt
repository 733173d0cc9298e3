-- Steps of the grammar over the tokens of a source: what each says of the tokens that it passes.
use Rattle.std.proofs.Common.{◌≡◌, ◌∙◌, refl, sym, ap, subst, ℕ, suc, inl, inr, Bool, List, [], ◌∷◌, ◌++◌, length, append_assoc}
use Rattle.std.specs.Prelude.{IsTrue}
use Rattle.hl_lexer.specs.declared.terminal.Terminal.{Terminal}
use Rattle.hl_lexer.specs.Terminals.{terminal_of}
use Rattle.hl_lexer.specs.Tokens.{Lexeme}
use Rattle.hl_parser.specs.Grammar.{As, At, Mark, Nothing, Numbered, Operator, Step, Token, Word, nth, numbered, operator_of, ◌or◌, ◌then◌}
use Rattle.hl_rules.specs.Source.{terminal_at, terminals_of}
use Rattle.hl_rules.proofs.Options.{length-one}

-- each token is what stands at its index
abbrev pub AreRead : List Lexeme → List Numbered → Type 0
AreRead tokens [] = Unit {0}
AreRead tokens (nth index terminal ∷ more) = (terminal_at tokens index ≡ terminal) × AreRead tokens more

-- ---- the tokens of a source are

terminal-seam : (before : List Lexeme) (token : Lexeme) (after : List Lexeme) → terminal_at (before ++ token ∷ after) (length before) ≡ terminal_of token.kind
terminal-seam [] token after = refl
terminal-seam (first ∷ before) token after = terminal-seam before token after

pub read-behind : (before tokens : List Lexeme) → AreRead (before ++ tokens) (numbered (length before) (terminals_of tokens))
read-behind before [] = tt
read-behind before (token ∷ tokens) = (
  terminal-seam before token tokens,
  subst (λ all. AreRead all (numbered (suc (length before)) (terminals_of tokens))) (append_assoc before (token ∷ []) tokens)
      (subst (λ at. AreRead ((before ++ token ∷ []) ++ tokens) (numbered at (terminals_of tokens))) (length-one before token)
      (read-behind (before ++ token ∷ []) tokens)),
)

pub source-read : (tokens : List Lexeme) → AreRead tokens (numbered 0 (terminals_of tokens))
source-read tokens = read-behind [] tokens

-- ---- what a step says

-- wherever the step goes, this holds, and the tokens behind it stand at their indices if those before it do
abbrev pub Walks : List Lexeme → Step → Type 0 → Type 0
Walks tokens step P = (from to : List Numbered) → step from to → AreRead tokens from → P × AreRead tokens to

pub walk-token : (tokens : List Lexeme) (index : ℕ) (terminal : Terminal) → Walks tokens (Token index terminal) (terminal_at tokens index ≡ terminal)
walk-token tokens index terminal from to e read = subst (λ all. AreRead tokens all) e read

pub walk-mark : (tokens : List Lexeme) (terminal : Terminal) → Walks tokens (Mark terminal) (Unit {0})
walk-mark tokens terminal from to e read = (tt, (subst (λ all. AreRead tokens all) e.1 read).1)

pub walk-word : (tokens : List Lexeme) (index : ℕ) (among : Terminal → Bool) → Walks tokens (Word index among) (IsTrue (among (terminal_at tokens index)))
walk-word tokens index among from to e read = (subst (λ t. IsTrue (among t)) (sym here.0) e.1, here.1)
  where
    here : AreRead tokens (nth index e.0 ∷ to)
    here = subst (λ all. AreRead tokens all) e.2 read

pub walk-operator : (tokens : List Lexeme) (index production : ℕ) → Walks tokens (Operator index production) (operator_of (terminal_at tokens index) ≡ production)
walk-operator tokens index production from to e read = (ap operator_of here.0 ∙ e.1, here.1)
  where
    here : AreRead tokens (nth index e.0 ∷ to)
    here = subst (λ all. AreRead tokens all) e.2 read

pub walk-then : {P Q : Type 0} (tokens : List Lexeme) (one other : Step) → Walks tokens one P → Walks tokens other Q → Walks tokens (one then other) (P × Q)
walk-then tokens one other f g from to h read =
    let first = f from h.0 h.1 read in
    let second = g h.0 to h.2 first.1 in
    ((first.0, second.0), second.1)

pub walk-or : {P : Type 0} (tokens : List Lexeme) (one other : Step) → Walks tokens one P → Walks tokens other P → Walks tokens (one or other) P
walk-or tokens one other f g from to (inl h) read = f from to h read
walk-or tokens one other f g from to (inr h) read = g from to h read

pub walk-as : {P : Type 0} (tokens : List Lexeme) (asked production : ℕ) (step : Step) → Walks tokens step P → Walks tokens (As asked production step) P
walk-as tokens asked production step f from to h read = f from to h.2 read

pub walk-map : {P Q : Type 0} (tokens : List Lexeme) (step : Step) → (P → Q) → Walks tokens step P → Walks tokens step Q
walk-map tokens step f g from to h read =
    let walked = g from to h read in
    (f walked.0, walked.1)

-- a step that begins where its first part begins
pub walk-at : {P : Type 0} (tokens : List Lexeme) (at first : ℕ) (step : Step) → Walks tokens step P → Walks tokens (At at first step) P
walk-at tokens at first step f from to h read = f from to h.1 read

pub walk-at-kept : {P : Type 0} (tokens : List Lexeme) (at first : ℕ) (step : Step) → Walks tokens step P → Walks tokens (At at first step) ((at ≡ first) × P)
walk-at-kept tokens at first step f from to h read =
    let walked = f from to h.1 read in
    ((h.0, walked.0), walked.1)

-- a step behind a mark, and a step before one
pub walk-behind : {P : Type 0} (tokens : List Lexeme) (terminal : Terminal) (step : Step) → Walks tokens step P → Walks tokens (Mark terminal then step) P
walk-behind tokens terminal step f from to h read = f h.0 to h.2 (walk-mark tokens terminal from h.0 h.1 read).1

pub walk-before : {P : Type 0} (tokens : List Lexeme) (terminal : Terminal) (step : Step) → Walks tokens step P → Walks tokens (step then Mark terminal) P
walk-before tokens terminal step f from to h read =
    let walked = f from h.0 h.1 read in
    (walked.0, (walk-mark tokens terminal h.0 to h.2 walked.1).1)

-- a step behind a token
pub walk-past : {P : Type 0} (tokens : List Lexeme) (index : ℕ) (terminal : Terminal) (step : Step) → Walks tokens step P → Walks tokens (Token index terminal then step) P
walk-past tokens index terminal step f from to h read = f h.0 to h.2 (walk-token tokens index terminal from h.0 h.1 read).1

pub walk-nothing : {P : Type 0} (tokens : List Lexeme) → P → Walks tokens Nothing P
walk-nothing tokens p from to e read = (p, subst (λ all. AreRead tokens all) e read)
