-- What tokens a symbol stands for.
use Rattle.std.proofs.Common.{◌≡◌, refl, sym, subst, ℕ, ◌≤◌, Bool, true, false, if◌then◌else◌, Option, List, [], ◌∷◌, ◌++◌}
use Rattle.hl_lexer.specs.declared.terminal.Terminal.{Terminal}
use Rattle.hl_lexer.specs.declared.terminal.Terminal.TheVariants as terminals
use Rattle.hl_parser.specs.declared.act.Act.{Act}
use Rattle.hl_parser.specs.declared.symbol.Symbol.{Symbol}
use Rattle.hl_parser.specs.declared.symbol.Symbol.TheVariants as symbols
use Rattle.hl_parser.specs.Codes.{is}
use Rattle.hl_parser.specs.Grammar.{AttributeArguments, Commas, Each, ElseIs, FirstIs, InitIs, Lengths, Mark, Nothing, Numbered, Perhaps, PerhapsListed, RegisterIs, SemanticIs, SpaceIs, Spells, Step, n_args, n_attribute, n_block, n_declarator, n_direction, n_do, n_expr, n_for, n_if, n_init, n_item, n_local, n_member, n_param, n_primary, n_result, n_start, n_stmt, n_type, n_unary, n_while, nth, peek, ◌or◌, ◌then◌}
use Rattle.hl_parser.specs.Machine.{Move, followed, led, only, reads, refuses, yields}
use Rattle.hl_parser.proofs.Runs.{NeverYields}
use Rattle.hl_parser.proofs.Terminals.{same_is}
use Rattle.hl_parser.specs.Trees.{Maybe, Tree, Trees}

-- some tree of a production
abbrev pub Spelled : ℕ → Step
Spelled production from to = (tree : Tree) × Spells production tree from to

-- some trees, or perhaps one
abbrev pub SomeTrees : (Trees → Step) → Step
SomeTrees step from to = (trees : Trees) × step trees from to

abbrev pub SomeMaybe : (Maybe → Step) → Step
SomeMaybe step from to = (maybe : Maybe) × step maybe from to

abbrev pub SomeOption : (Option ℕ → Step) → Step
SomeOption step from to = (option : Option ℕ) × step option from to

abbrev pub Control : Tree → Step
Control tree = Spells n_if tree or Spells n_for tree or Spells n_while tree or Spells n_do tree

-- an `if` or a loop, behind its attributes
abbrev pub AttributedWord : Step
AttributedWord from to =
    (attributes : Trees) (before : List Numbered) → Each n_attribute attributes before from → (tree : Tree) × Control tree before to

-- an expression of at least a level
abbrev pub OperandWord : ℕ → Step
OperandWord k from to = n_expr ≤ k → k ≤ n_unary → Spelled k from to

-- the same behind an opening parenthesis
abbrev pub ParenthesisWord : ℕ → Step
ParenthesisWord k from to =
    n_expr ≤ k → k ≤ n_unary → (index : ℕ) (before : List Numbered) → before ≡ nth index terminals.OpenParenthesis ∷ from → Spelled k before to

-- operators behind an operand of a production make an expression of at least a level
abbrev pub TailWord : ℕ → ℕ → Step
TailWord production k from to =
    n_expr ≤ k → k ≤ n_unary → k ≤ production → production ≤ n_primary → (left : Tree) (before : List Numbered) → Spells production left before from → Spelled k before to

abbrev pub BracesEnd : Step
BracesEnd = Mark terminals.CloseBrace or (Mark terminals.Comma then Mark terminals.CloseBrace)

abbrev pub Word : Symbol → Step
Word (symbols.Make act) = Nothing
Word (symbols.Skip terminal) = Mark terminal
Word symbols.Name = Mark terminals.Name
Word symbols.Item = Spelled n_item
Word symbols.Items = SomeTrees (Each n_item)
Word symbols.Members = SomeTrees (Each n_member)
Word symbols.Member = Spelled n_member
Word symbols.Type = Spelled n_type
Word symbols.Declarator = Spelled n_declarator
Word symbols.Declarators = SomeTrees (Commas n_declarator)
Word symbols.Lengths = SomeTrees Lengths
Word symbols.Register = λ from to. (register space : Option ℕ) × RegisterIs register space from to
Word symbols.Space = SomeOption SpaceIs
Word symbols.Init = Spelled n_init
Word symbols.Inits = SomeTrees (λ trees. Commas n_init trees then BracesEnd)
Word symbols.Result = Spelled n_result
Word symbols.Params = SomeTrees (λ trees. PerhapsListed n_param trees then Mark terminals.CloseParenthesis)
Word symbols.Param = Spelled n_param
Word symbols.MoreParams = SomeTrees (Commas n_param)
Word symbols.Direction = SomeMaybe (Perhaps n_direction)
Word symbols.Semantic = SomeOption SemanticIs
Word symbols.AttributeArguments = SomeTrees AttributeArguments
Word symbols.Attributes = SomeTrees (Each n_attribute)
Word symbols.Attributed = AttributedWord
Word symbols.Block = Spelled n_block
Word symbols.Statement = Spelled n_stmt
Word symbols.Statements = SomeTrees (Each n_stmt)
Word symbols.Local = Spelled n_local
Word symbols.Start = Spelled n_start
Word symbols.Starts = SomeTrees (Commas n_start)
Word symbols.StartInit = SomeMaybe InitIs
Word symbols.Else = SomeMaybe ElseIs
Word symbols.First = SomeMaybe FirstIs
Word symbols.Optional = SomeMaybe (Perhaps n_expr)
Word (symbols.Operand k) = OperandWord k
Word (symbols.Parenthesis k) = ParenthesisWord k
Word (symbols.Tail production k) = TailWord production k
Word symbols.MethodArguments = SomeMaybe (Perhaps n_args)
Word symbols.Args = Spelled n_args
Word symbols.ArgList = SomeTrees (λ trees. PerhapsListed n_expr trees then Mark terminals.CloseParenthesis)
Word symbols.Expressions = SomeTrees (Commas n_expr)

-- what symbols stand for, one behind the other; acts stand for nothing
abbrev pub Words : List Symbol → Step
Words [] = Nothing
Words (symbols.Make act ∷ more) = Words more
Words (symbol ∷ more) = Word symbol then Words more

-- the tokens that a move reads, with those that its symbols stand for, are what a symbol stands for
abbrev pub SoundMove : Step → Terminal → Move → Type 0
SoundMove step t (reads done more) = (i : ℕ) (m to : List Numbered) → Words more m to → step (nth i t ∷ m) to
SoundMove step t (yields done) = (ts : List Numbered) → peek ts ≡ t → step ts ts
SoundMove step t refuses = Unit {0}

pub record Sound (step : Step) (t : Terminal) (move : Move) : Type 0 where
  pub sound : SoundMove step t move

-- one symbol, and then others
pub words_cons : (s : Symbol) (more : List Symbol) (from m to : List Numbered) → Word s from m → Words more m to → Words (s ∷ more) from to
words_cons (symbols.Make act) more from m to h k = subst (λ ts. Words more ts to) (sym h) k
words_cons s more from m to h k = (m, h, k)

record Parts (s : Symbol) (more : List Symbol) (from to : List Numbered) : Type 0 where
  middle : List Numbered
  first : Word s from middle
  rest : Words more middle to

words_parts : (s : Symbol) (more : List Symbol) (from to : List Numbered) → Words (s ∷ more) from to → Parts s more from to
words_parts (symbols.Make act) more from to h = record { middle = from; first = refl; rest = h }
words_parts s more from to (m, h, k) = record { middle = m; first = h; rest = k }

pub record Split (xs ys : List Symbol) (from to : List Numbered) : Type 0 where
  pub middle : List Numbered
  pub first : Words xs from middle
  pub rest : Words ys middle to

pub words_split : (xs ys : List Symbol) (from to : List Numbered) → Words (xs ++ ys) from to → Split xs ys from to
words_split [] ys from to h = record { middle = from; first = refl; rest = h }
words_split (x ∷ xs) ys from to h =
    let p = words_parts x (xs ++ ys) from to h in
    let s = words_split xs ys p.middle to p.rest in
    record { middle = s.middle; first = words_cons x xs from p.middle s.middle p.first s.first; rest = s.rest }

-- choices, and moves made of others

pub sound_if : {step : Step} {t : Terminal} (b : Bool) (x y : Move) → (b ≡ true → Sound step t x) → (b ≡ false → Sound step t y) → Sound step t (if b then x else y)
sound_if true x y h g = h refl
sound_if false x y h g = g refl

pub sound_refuses : {step : Step} {t : Terminal} → Sound step t refuses
sound_refuses = record { sound = tt }

pub sound_reads : {step : Step} {t : Terminal} {done : List Act} {more : List Symbol} → ((i : ℕ) (m to : List Numbered) → Words more m to → step (nth i t ∷ m) to) → Sound step t (reads done more)
sound_reads h = record { sound = h }

pub sound_yields : {step : Step} {t : Terminal} {done : List Act} → ((ts : List Numbered) → peek ts ≡ t → step ts ts) → Sound step t (yields done)
sound_yields h = record { sound = h }

-- where the token is known
pub sound_known : {step : Step} {move : Move} (t u : Terminal) → t ≡ u → Sound step u move → Sound step t move
sound_known {step = step} {move = move} t u e h = subst (λ x. Sound step x move) (sym e) h

pub sound_only : {step : Step} {move : Move} (t u : Terminal) → Sound step u move → Sound step t (only t u move)
sound_only {step = step} {move = move} t u h =
    sound_if (is t u) move refuses (λ e. subst (λ x. Sound step x move) (sym (same_is t u e)) h) (λ e. sound_refuses)

pub sound_is : {step : Step} {x : Move} {y : Move} (t u : Terminal) → Sound step u x → (is t u ≡ false → Sound step t y) → Sound step t (if is t u then x else y)
sound_is {step = step} {x = x} {y = y} t u h g =
    sound_if (is t u) x y (λ e. subst (λ v. Sound step v x) (sym (same_is t u e)) h) g

pub sound_followed : {step other : Step} {t : Terminal} (x : Move) (more : List Symbol) → Sound other t x → ((from m to : List Numbered) → other from m → Words more m to → step from to) → Sound step t (followed x more)
sound_followed {t = t} (reads done pending) more h build = record {
  sound = λ i m to words.
      let s = words_split pending more m to words in
      build (nth i t ∷ m) s.middle to (h.sound i m s.middle s.first) s.rest;
}
sound_followed (yields done) more h build = sound_refuses
sound_followed refuses more h build = sound_refuses

pub sound_led : {step : Step} {t : Terminal} (first : List Act) (x : Move) → Sound step t x → Sound step t (led first x)
sound_led first (reads done pending) h = record { sound = h.sound }
sound_led first (yields done) h = sound_refuses
sound_led first refuses h = sound_refuses

-- what stands for one step stands for another
pub sound_as : {step other : Step} {t : Terminal} (x : Move) → ((from to : List Numbered) → other from to → step from to) → NeverYields x → Sound other t x → Sound step t x
sound_as {t = t} (reads done more) as_step never h = record { sound = λ i m to words. as_step (nth i t ∷ m) to (h.sound i m to words) }
sound_as (yields done) as_step never h = absurd never
sound_as refuses as_step never h = sound_refuses
