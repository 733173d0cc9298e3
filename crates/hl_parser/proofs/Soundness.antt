-- Each move of the machine is sound: what its symbols stand for, behind the token that it reads, is what the symbol
-- stands for.
use Rattle.std.proofs.Common.{◌≡◌, ◌∙◌, refl, ap, subst, ℕ, suc, ◌≤◌, true, nat_le, ◌&&◌, None, Some, List, [], ◌∷◌, arith}
use Rattle.std.proofs.lemmas.Bool.{and_parts, leb-true}
use Rattle.hl_lexer.specs.declared.terminal.Terminal.{Terminal}
use Rattle.hl_lexer.specs.declared.terminal.Terminal.TheVariants as terminals
use Rattle.hl_parser.specs.declared.act.Act.TheVariants as acts
use Rattle.hl_parser.specs.declared.symbol.Symbol.TheVariants as symbols
use Rattle.hl_parser.specs.Codes.{is}
use Rattle.hl_parser.specs.Grammar.{Commas, Each, Lengths, Mark, Numbered, Perhaps, Spells, Step, is_assign, is_basic, is_prefix, is_step, is_word, last_for, n_args, n_choice, n_declarator, n_expr, n_member, n_or, n_postfix, n_primary, n_product, n_type, n_unary, nth, operator_of}
use Rattle.hl_parser.specs.Machine.{begins_type, is_repeating, joins_to, level_of, on_args, on_declarator, on_declarators, on_expressions, on_lengths, on_member, on_members, on_method_arguments, on_operand, on_operator, on_parenthesis, on_tail, on_type}
use Rattle.hl_parser.specs.Trees.{Tree, a_program, an_item, a_struct, a_member, a_type, a_basic, a_declarator, a_buffer, a_kind, a_shared, a_constant, an_init, a_function, a_result, a_param, a_direction, an_attribute, a_block, a_stmt, a_local, a_start, an_if, a_for, a_while, a_do, a_jump, an_expr, a_choice, a_binary, a_unary, a_postfix, a_primary, an_args, no_trees, more_trees, absent, present, at_of}
use Rattle.hl_parser.proofs.Moves.{Joins, joins_all, joins_cases, joins_none, joins_one, level_assign, level_repeating, level_step}
use Rattle.hl_parser.proofs.Opening.{last_of_expression}
use Rattle.hl_parser.proofs.Terminals.{by_every, same_is}
use Rattle.hl_parser.proofs.Words.{OperandWord, ParenthesisWord, SomeMaybe, SomeTrees, Sound, Spelled, TailWord, Words, sound_followed, sound_if, sound_is, sound_known, sound_only, sound_reads, sound_refuses, sound_yields}

-- a step to a place is one to an equal place
pub end_at : (step : Step) {from m to : List Numbered} → m ≡ to → step from m → step from to
end_at step {from = from} e h = subst (λ ts. step from ts) e h

-- an expression of a level is one of each lower level

pub less : (p k n : ℕ) → n_expr ≤ k → k ≤ p → p ≤ n_primary → p ≤ n → n ≤ last_for p → (k ≤ n) × (n ≤ last_for k)
less p k n low between high a b =
    let last : last_for p ≡ 42 = last_of_expression p (omega arith) high in
    let same : last_for k ≡ 42 = last_of_expression k low (omega arith) in
    (omega arith, omega arith)

pub stands_for : (tree : Tree) (p k : ℕ) (from to : List Numbered) → n_expr ≤ k → k ≤ p → p ≤ n_primary → Spells p tree from to → Spells k tree from to
stands_for (a_program at no_trees) p k from to low between high h = absurd h
stands_for (a_program at (more_trees first items)) p k from to low between high (a, b, h) = let x = less p k 1 low between high a b in (x.0, x.1, h)
stands_for (an_item at item) p k from to low between high (a, b, h) = let x = less p k 2 low between high a b in (x.0, x.1, h)
stands_for (a_struct at name members) p k from to low between high (a, b, h) = let x = less p k 3 low between high a b in (x.0, x.1, h)
stands_for (a_member at type declarators) p k from to low between high (a, b, h) = let x = less p k 4 low between high a b in (x.0, x.1, h)
stands_for (a_type at (present basic)) p k from to low between high (a, b, h) = let x = less p k 5 low between high a b in (x.0, x.1, h)
stands_for (a_type at absent) p k from to low between high (a, b, h) = let x = less p k 5 low between high a b in (x.0, x.1, h)
stands_for (a_basic at) p k from to low between high (a, b, h) = let x = less p k 6 low between high a b in (x.0, x.1, h)
stands_for (a_declarator at lengths) p k from to low between high (a, b, h) = let x = less p k 7 low between high a b in (x.0, x.1, h)
stands_for (a_buffer at kind name register space) p k from to low between high (a, b, h) = let x = less p k 8 low between high a b in (x.0, x.1, h)
stands_for (a_kind at absent) p k from to low between high (a, b, h) = let x = less p k 9 low between high a b in (x.0, x.1, h)
stands_for (a_kind at (present element)) p k from to low between high (a, b, h) = let x = less p k 9 low between high a b in (x.0, x.1, h)
stands_for (a_shared at type declarators) p k from to low between high (a, b, h) = let x = less p k 10 low between high a b in (x.0, x.1, h)
stands_for (a_constant at type declarator init) p k from to low between high (a, b, h) = let x = less p k 11 low between high a b in (x.0, x.1, h)
stands_for (an_init at (present value) no_trees) p k from to low between high (a, b, h) = let x = less p k 12 low between high a b in (x.0, x.1, h)
stands_for (an_init at (present value) (more_trees part parts)) p k from to low between high h = absurd h
stands_for (an_init at absent parts) p k from to low between high (a, b, h) = let x = less p k 12 low between high a b in (x.0, x.1, h)
stands_for (a_function at attributes result name params block) p k from to low between high (a, b, h) = let x = less p k 13 low between high a b in (x.0, x.1, h)
stands_for (a_result at absent) p k from to low between high (a, b, h) = let x = less p k 14 low between high a b in (x.0, x.1, h)
stands_for (a_result at (present type)) p k from to low between high (a, b, h) = let x = less p k 14 low between high a b in (x.0, x.1, h)
stands_for (a_param at constant direction type declarator semantic) p k from to low between high (a, b, h) = let x = less p k 15 low between high a b in (x.0, x.1, h)
stands_for (a_direction at) p k from to low between high (a, b, h) = let x = less p k 16 low between high a b in (x.0, x.1, h)
stands_for (an_attribute at name arguments) p k from to low between high (a, b, h) = let x = less p k 17 low between high a b in (x.0, x.1, h)
stands_for (a_block at statements) p k from to low between high (a, b, h) = let x = less p k 18 low between high a b in (x.0, x.1, h)
stands_for (a_stmt at (present part)) p k from to low between high (a, b, h) = let x = less p k 19 low between high a b in (x.0, x.1, h)
stands_for (a_stmt at absent) p k from to low between high (a, b, h) = let x = less p k 19 low between high a b in (x.0, x.1, h)
stands_for (a_local at constant type starts) p k from to low between high (a, b, h) = let x = less p k 20 low between high a b in (x.0, x.1, h)
stands_for (a_start at declarator init) p k from to low between high (a, b, h) = let x = less p k 21 low between high a b in (x.0, x.1, h)
stands_for (an_if at attributes condition consequent alternative) p k from to low between high (a, b, h) = let x = less p k 22 low between high a b in (x.0, x.1, h)
stands_for (a_for at attributes first condition step body) p k from to low between high (a, b, h) = let x = less p k 23 low between high a b in (x.0, x.1, h)
stands_for (a_while at attributes condition body) p k from to low between high (a, b, h) = let x = less p k 24 low between high a b in (x.0, x.1, h)
stands_for (a_do at attributes body condition) p k from to low between high (a, b, h) = let x = less p k 25 low between high a b in (x.0, x.1, h)
stands_for (a_jump at absent) p k from to low between high (a, b, h) = let x = less p k 26 low between high a b in (x.0, x.1, h)
stands_for (a_jump at (present value)) p k from to low between high (a, b, h) = let x = less p k 26 low between high a b in (x.0, x.1, h)
stands_for (an_expr at left mark right) p k from to low between high (a, b, h) = let x = less p k 27 low between high a b in (x.0, x.1, h)
stands_for (a_choice at condition consequent alternative) p k from to low between high (a, b, h) = let x = less p k 29 low between high a b in (x.0, x.1, h)
stands_for (a_binary production at left mark right) p k from to low between high (c, d, (a, b, h)) = let x = less p k production low between high a b in (c, d, (x.0, x.1, h))
stands_for (a_unary at absent operand) p k from to low between high (a, b, h) = let x = less p k 40 low between high a b in (x.0, x.1, h)
stands_for (a_unary at (present basic) operand) p k from to low between high (a, b, h) = let x = less p k 40 low between high a b in (x.0, x.1, h)
stands_for (a_postfix at operand mark (Some name) absent) p k from to low between high (a, b, h) = let x = less p k 41 low between high a b in (x.0, x.1, h)
stands_for (a_postfix at operand mark (Some name) (present arguments)) p k from to low between high (a, b, h) = let x = less p k 41 low between high a b in (x.0, x.1, h)
stands_for (a_postfix at operand mark None (present index)) p k from to low between high (a, b, h) = let x = less p k 41 low between high a b in (x.0, x.1, h)
stands_for (a_postfix at operand mark None absent) p k from to low between high (a, b, h) = let x = less p k 41 low between high a b in (x.0, x.1, h)
stands_for (a_primary at absent absent) p k from to low between high (a, b, h) = let x = less p k 42 low between high a b in (x.0, x.1, h)
stands_for (a_primary at absent (present arguments)) p k from to low between high (a, b, h) = let x = less p k 42 low between high a b in (x.0, x.1, h)
stands_for (a_primary at (present basic) (present arguments)) p k from to low between high (a, b, h) = let x = less p k 42 low between high a b in (x.0, x.1, h)
stands_for (a_primary at (present inner) absent) p k from to low between high (a, b, h) = let x = less p k 42 low between high a b in (x.0, x.1, h)
stands_for (an_args at arguments) p k from to low between high (a, b, h) = let x = less p k 43 low between high a b in (x.0, x.1, h)

-- ---- types, declarators and members

pub sound_type : (t : Terminal) → Sound (Spelled n_type) t (on_type t)
sound_type t =
    sound_if (is_basic t) _ _
    (λ c. sound_reads (λ i m to e. end_at (Spelled n_type) e (a_type i (present (a_basic i)), (omega arith, omega arith, (refl, (omega arith, omega arith, (t, c, refl)))))))
    (λ _. sound_only t terminals.Name (sound_reads (λ i m to e. end_at (Spelled n_type) e (a_type i absent, (omega arith, omega arith, refl)))))

member_row : (from m to : List Numbered) → Spelled n_type from m → Words (symbols.Make acts.Empty ∷ symbols.Declarator ∷ symbols.Make acts.Append ∷ symbols.Declarators ∷ symbols.Skip terminals.Semicolon ∷ symbols.Make acts.Member ∷ []) m to → Spelled n_member from to
member_row from m to (type, ht) (n, (first, hf), (o, (others, ho), (p, semicolon, e))) =
    end_at (Spelled n_member) e
    (a_member (at_of type) type (more_trees first others), (omega arith, omega arith, (refl, (m, ht, (o, (n, hf, ho), semicolon)))))

pub sound_member : (t : Terminal) → Sound (Spelled n_member) t (on_member t)
sound_member t = sound_followed (on_type t) _ (sound_type t) member_row

members_row : (from m to : List Numbered) → Spelled n_member from m → Words (symbols.Make acts.Append ∷ symbols.Members ∷ []) m to → SomeTrees (Each n_member) from to
members_row from m to (first, hf) (n, (others, ho), e) = end_at (SomeTrees (Each n_member)) e (more_trees first others, (m, hf, ho))

pub sound_members : (t : Terminal) → Sound (SomeTrees (Each n_member)) t (on_members t)
sound_members t =
    sound_if (begins_type t) _ _ (λ _. sound_followed (on_member t) _ (sound_member t) members_row)
    (λ _. sound_yields (λ ts e. (no_trees, refl)))

declarator_row : (i : ℕ) (m to : List Numbered) → Words (symbols.Make acts.Empty ∷ symbols.Lengths ∷ symbols.Make acts.Declarator ∷ []) m to → Spelled n_declarator (nth i terminals.Name ∷ m) to
declarator_row i m to (n, (lengths, h), e) =
    end_at (Spelled n_declarator) e (a_declarator i lengths, (omega arith, omega arith, (m, refl, h)))

pub sound_declarator : (t : Terminal) → Sound (Spelled n_declarator) t (on_declarator t)
sound_declarator t = sound_only t terminals.Name (sound_reads declarator_row)

declarators_row : (i : ℕ) (m to : List Numbered) → Words (symbols.Declarator ∷ symbols.Make acts.Append ∷ symbols.Declarators ∷ []) m to → SomeTrees (Commas n_declarator) (nth i terminals.Comma ∷ m) to
declarators_row i m to (n, (first, hf), (o, (others, ho), e)) =
    end_at (SomeTrees (Commas n_declarator)) e (more_trees first others, (m, (i, refl), (n, hf, ho)))

pub sound_declarators : (t : Terminal) → Sound (SomeTrees (Commas n_declarator)) t (on_declarators t)
sound_declarators t = sound_is t terminals.Comma (sound_reads declarators_row) (λ _. sound_yields (λ ts e. (no_trees, refl)))

operand : (k : ℕ) → n_expr ≤ k → k ≤ n_unary → {from to : List Numbered} → OperandWord k from to → Spelled k from to
operand k low high h = h low high

lengths_row : (i : ℕ) (m to : List Numbered) → Words (symbols.Operand 27 ∷ symbols.Skip terminals.CloseBracket ∷ symbols.Make acts.Append ∷ symbols.Lengths ∷ []) m to → SomeTrees Lengths (nth i terminals.OpenBracket ∷ m) to
lengths_row i m to (n, h, (o, close_mark, (p, (others, ho), e))) =
    let first = h (omega arith) (omega arith) in
    end_at (SomeTrees Lengths) e (more_trees first.0 others, (m, (i, refl), (n, first.1, (o, close_mark, ho))))

pub sound_lengths : (t : Terminal) → Sound (SomeTrees Lengths) t (on_lengths t)
sound_lengths t = sound_is t terminals.OpenBracket (sound_reads lengths_row) (λ _. sound_yields (λ ts e. (no_trees, refl)))

-- ---- arguments and expressions

expressions_row : (i : ℕ) (m to : List Numbered) → Words (symbols.Operand 27 ∷ symbols.Make acts.Append ∷ symbols.Expressions ∷ []) m to → SomeTrees (Commas n_expr) (nth i terminals.Comma ∷ m) to
expressions_row i m to (n, h, (o, (others, ho), e)) =
    let first = h (omega arith) (omega arith) in
    end_at (SomeTrees (Commas n_expr)) e (more_trees first.0 others, (m, (i, refl), (n, first.1, ho)))

pub sound_expressions : (t : Terminal) → Sound (SomeTrees (Commas n_expr)) t (on_expressions t)
sound_expressions t = sound_is t terminals.Comma (sound_reads expressions_row) (λ _. sound_yields (λ ts e. (no_trees, refl)))

args_row : (i : ℕ) (m to : List Numbered) → Words (symbols.Make acts.Empty ∷ symbols.ArgList ∷ symbols.Make acts.Args ∷ []) m to → Spelled n_args (nth i terminals.OpenParenthesis ∷ m) to
args_row i m to (n, (arguments, (o, h, close_mark)), e) =
    end_at (Spelled n_args) e (an_args i arguments, (omega arith, omega arith, (m, refl, (o, h, close_mark))))

pub sound_args : (t : Terminal) → Sound (Spelled n_args) t (on_args t)
sound_args t = sound_only t terminals.OpenParenthesis (sound_reads args_row)

method_arguments_row : {t : Terminal} → Sound (Spelled n_args) t (on_args t) → Sound (SomeMaybe (Perhaps n_args)) t (on_args t)
method_arguments_row {t = t} h = sound_only t terminals.OpenParenthesis (sound_reads (λ i m to words. let a = args_row i m to words in (present a.0, a.1)))

pub sound_method_arguments : (t : Terminal) → Sound (SomeMaybe (Perhaps n_args)) t (on_method_arguments t)
sound_method_arguments t =
    sound_if (is t terminals.OpenParenthesis) _ _ (λ _. method_arguments_row (sound_args t)) (λ _. sound_yields (λ ts e. (absent, refl)))

-- an operand with the operators behind it
tail : (production k : ℕ) {from m to : List Numbered} → n_expr ≤ k → k ≤ n_unary → k ≤ production → production ≤ n_primary → (left : Tree) → Spells production left from m → TailWord production k m to → Spelled k from to
tail production k {from = from} low high between top left h word = word low high between top left from h

call_row : (k i : ℕ) (m to : List Numbered) → Words (symbols.Args ∷ symbols.Make acts.Call ∷ symbols.Tail 42 k ∷ []) m to → OperandWord k (nth i terminals.Name ∷ m) to
call_row k i m to (n, (arguments, ha), (o, word, e)) low high =
    end_at (Spelled k) e
    (tail 42 k low high (omega arith) (omega arith) (a_primary i absent (present arguments)) (omega arith, omega arith, (m, refl, ha)) word)

word_row : (k : ℕ) (t : Terminal) → is_word t ≡ true → (i : ℕ) (m to : List Numbered) → Words (symbols.Make acts.Word ∷ symbols.Tail 42 k ∷ []) m to → OperandWord k (nth i t ∷ m) to
word_row k t c i m to (n, word, e) low high =
    end_at (Spelled k) e (tail 42 k low high (omega arith) (omega arith) (a_primary i absent absent) (omega arith, omega arith, (t, c, refl)) word)

constructor_row : (k : ℕ) (t : Terminal) → is_basic t ≡ true → (i : ℕ) (m to : List Numbered) → Words (symbols.Make acts.Basic ∷ symbols.Args ∷ symbols.Make acts.Constructor ∷ symbols.Tail 42 k ∷ []) m to → OperandWord k (nth i t ∷ m) to
constructor_row k t c i m to (n, (arguments, ha), (o, word, e)) low high =
    end_at (Spelled k) e
    (tail 42 k low high (omega arith) (omega arith) (a_primary i (present (a_basic i)) (present arguments))
    (omega arith, omega arith, (refl, (m, (omega arith, omega arith, (t, c, refl)), ha))) word)

prefix_row : (k : ℕ) (t : Terminal) → is_prefix t ≡ true → (i : ℕ) (m to : List Numbered) → Words (symbols.Operand 40 ∷ symbols.Make acts.Unary ∷ symbols.Tail 40 k ∷ []) m to → OperandWord k (nth i t ∷ m) to
prefix_row k t c i m to (n, h, (o, word, e)) low high =
    let inner = h (omega arith) (omega arith) in
    end_at (Spelled k) e
    (tail 40 k low high high (omega arith) (a_unary i absent inner.0) (omega arith, omega arith, (m, (t, c, refl), inner.1)) word)

parenthesis_row : (k i : ℕ) (m to : List Numbered) → Words (symbols.Parenthesis k ∷ []) m to → OperandWord k (nth i terminals.OpenParenthesis ∷ m) to
parenthesis_row k i m to (n, word, e) low high = end_at (Spelled k) e (word low high i (nth i terminals.OpenParenthesis ∷ m) refl)

pub sound_operand : (k : ℕ) (t next : Terminal) → Sound (OperandWord k) t (on_operand k t next)
sound_operand k t next =
    sound_if (is t terminals.Name && is next terminals.OpenParenthesis) _ _
    (λ c. let both = and_parts (is t terminals.Name) (is next terminals.OpenParenthesis) c in
    sound_known t terminals.Name (same_is t terminals.Name both.0) (sound_reads (call_row k)))
    (λ _. sound_if (is_word t) _ _ (λ c. sound_reads (word_row k t c))
    (λ _. sound_if (is_basic t) _ _ (λ c. sound_reads (constructor_row k t c))
    (λ _. sound_if (is_prefix t) _ _ (λ c. sound_reads (prefix_row k t c))
    (λ _. sound_only t terminals.OpenParenthesis (sound_reads (parenthesis_row k))))))

cast_row : (k : ℕ) (t : Terminal) → is_basic t ≡ true → (i : ℕ) (m to : List Numbered) → Words (symbols.Make acts.Basic ∷ symbols.Skip terminals.CloseParenthesis ∷ symbols.Operand 40 ∷ symbols.Make acts.Cast ∷ symbols.Tail 40 k ∷ []) m to → ParenthesisWord k (nth i t ∷ m) to
cast_row k t c i m to (n, close_mark, (o, h, (p, word, e))) low high index before at_before =
    let inner = h (omega arith) (omega arith) in
    end_at (Spelled k) e
    (tail 40 k low high high (omega arith) (a_unary index (present (a_basic i)) inner.0)
    (omega arith, omega arith, (nth i t ∷ m, at_before, (m, (omega arith, omega arith, (t, c, refl)), (n, close_mark, inner.1)))) word)

parentheses_row : (k : ℕ) (from m to : List Numbered) → OperandWord 27 from m → Words (symbols.Skip terminals.CloseParenthesis ∷ symbols.Make acts.Parentheses ∷ symbols.Tail 42 k ∷ []) m to → ParenthesisWord k from to
parentheses_row k from m to h (n, close_mark, (o, word, e)) low high index before at_before =
    let inner = h (omega arith) (omega arith) in
    end_at (Spelled k) e
    (tail 42 k low high (omega arith) (omega arith) (a_primary index (present inner.0) absent)
    (inner_of index inner.0 before from m n at_before inner.1 close_mark) word)
  where
    inner_of : (index : ℕ) (tree : Tree) (before from m n : List Numbered) → before ≡ nth index terminals.OpenParenthesis ∷ from → Spells n_expr tree from m → Mark terminals.CloseParenthesis m n → Spells n_primary (a_primary index (present tree) absent) before n
    inner_of index tree before from m n e h close_mark = (omega arith, omega arith, (from, e, (m, h, close_mark)))

pub sound_parenthesis : (k : ℕ) (t next : Terminal) → Sound (ParenthesisWord k) t (on_parenthesis k t next)
sound_parenthesis k t next =
    sound_if (is_basic t && is next terminals.CloseParenthesis) _ _
    (λ c. sound_reads (cast_row k t (and_parts (is_basic t) (is next terminals.CloseParenthesis) c).0))
    (λ _. sound_followed (on_operand 27 t next) _ (sound_operand 27 t next) (parentheses_row k))

-- ---- operators

joins_below : (production level : ℕ) → n_or ≤ level → level ≤ joins_to production → level ≤ production
joins_below production level low h = by_cases (joins_cases production)
  where
    by_cases : Joins production → level ≤ production
    by_cases (joins_none a b) = omega arith
    by_cases (joins_one a b) = omega arith
    by_cases (joins_all a b) = omega arith

joins_choice : (production : ℕ) → 27 ≤ joins_to production → n_choice ≤ production
joins_choice production h = by_cases (joins_cases production)
  where
    by_cases : Joins production → n_choice ≤ production
    by_cases (joins_none a b) = omega arith
    by_cases (joins_one a b) = omega arith
    by_cases (joins_all a b) = omega arith

joins_or : (production : ℕ) → 29 ≤ joins_to production → n_or ≤ production
joins_or production h = by_cases (joins_cases production)
  where
    by_cases : Joins production → n_or ≤ production
    by_cases (joins_none a b) = omega arith
    by_cases (joins_one a b) = omega arith
    by_cases (joins_all a b) = omega arith

joins_postfix : (production : ℕ) → 41 ≤ joins_to production → 41 ≤ production
joins_postfix production h = by_cases (joins_cases production)
  where
    by_cases : Joins production → 41 ≤ production
    by_cases (joins_none a b) = omega arith
    by_cases (joins_one a b) = omega arith
    by_cases (joins_all a b) = omega arith

last_of_operator : (production : ℕ) → n_or ≤ production → production ≤ n_product → production ≤ last_for production
last_of_operator production low high = let last = last_of_expression production (omega arith) (omega arith) in omega arith

repeating_row : (production k : ℕ) (t : Terminal) → n_or ≤ operator_of t → operator_of t ≤ n_product → k ≤ operator_of t → operator_of t ≤ joins_to production → (i : ℕ) (m to : List Numbered) → Words (symbols.Operand (suc (operator_of t)) ∷ symbols.Make (acts.Binary (operator_of t)) ∷ symbols.Tail (operator_of t) k ∷ []) m to → TailWord production k (nth i t ∷ m) to
repeating_row production k t low_operator high_operator k_low joins i m to (n, h, (o, word, e)) low high between top left before hl =
    let right = h (omega arith) (omega arith) in
    let above : operator_of t ≤ production = joins_below production (operator_of t) low_operator joins in
    let hl_low = stands_for left production (operator_of t) before (nth i t ∷ m) (omega arith) above top hl in
    end_at (Spelled k) e
    (word low high k_low (omega arith) (a_binary (operator_of t) (at_of left) left i right.0) before
    (low_operator, high_operator, (omega arith, last_of_operator (operator_of t) low_operator high_operator, (refl, (nth i t ∷ m, hl_low, (m, (t, refl, refl), right.1))))))

assign_row : (production k : ℕ) (t : Terminal) → is_assign t ≡ true → k ≤ 27 → 27 ≤ joins_to production → (i : ℕ) (m to : List Numbered) → Words (symbols.Operand 27 ∷ symbols.Make acts.Assignment ∷ symbols.Tail 27 k ∷ []) m to → TailWord production k (nth i t ∷ m) to
assign_row production k t c k_low joins i m to (n, h, (o, word, e)) low high between top left before hl =
    let right = h (omega arith) (omega arith) in
    let hl_low = stands_for left production n_choice before (nth i t ∷ m) (omega arith) (joins_choice production joins) top hl in
    end_at (Spelled k) e
    (word low high k_low (omega arith) (an_expr (at_of left) left i right.0) before
    (omega arith, omega arith, (refl, (nth i t ∷ m, hl_low, (m, (t, c, refl), right.1)))))

question_row : (production k : ℕ) → k ≤ 29 → 29 ≤ joins_to production → (i : ℕ) (m to : List Numbered) → Words (symbols.Operand 27 ∷ symbols.Skip terminals.Colon ∷ symbols.Operand 29 ∷ symbols.Make acts.Choice ∷ symbols.Tail 29 k ∷ []) m to → TailWord production k (nth i terminals.Question ∷ m) to
question_row production k k_low joins i m to (n, h, (o, colon, (p, g, (q, word, e)))) low high between top left before hl =
    let consequent = h (omega arith) (omega arith) in
    let alternative = g (omega arith) (omega arith) in
    let hl_low = stands_for left production n_or before (nth i terminals.Question ∷ m) (omega arith) (joins_or production joins) top hl in
    end_at (Spelled k) e
    (word low high k_low (omega arith) (a_choice (at_of left) left consequent.0 alternative.0) before
    (omega arith, omega arith, (refl, (nth i terminals.Question ∷ m, hl_low, (m, (i, refl), (n, consequent.1, (o, colon, alternative.1)))))))

step_row : (production k : ℕ) (t : Terminal) → is_step t ≡ true → 41 ≤ production → (i : ℕ) (m to : List Numbered) → Words (symbols.Make acts.Step ∷ symbols.Tail 41 k ∷ []) m to → TailWord production k (nth i t ∷ m) to
step_row production k t c above i m to (n, word, e) low high between top left before hl =
    let hl_low = stands_for left production n_postfix before (nth i t ∷ m) (omega arith) above top hl in
    end_at (Spelled k) e
    (word low high (omega arith) (omega arith) (a_postfix (at_of left) left i None absent) before
    (omega arith, omega arith, (refl, (nth i t ∷ m, hl_low, (t, c, refl)))))

dot_row : (production k : ℕ) → 41 ≤ production → (i : ℕ) (m to : List Numbered) → Words (symbols.Name ∷ symbols.MethodArguments ∷ symbols.Make acts.Field ∷ symbols.Tail 41 k ∷ []) m to → TailWord production k (nth i terminals.Dot ∷ m) to
dot_row production k above i m to (n, (name, named), (o, (absent, is_end), (p, word, e))) low high between top left before hl =
    let hl_low = stands_for left production n_postfix before (nth i terminals.Dot ∷ m) (omega arith) above top hl in
    end_at (Spelled k) e
    (word low high (omega arith) (omega arith) (a_postfix (at_of left) left i (Some name) absent) before
    (omega arith, omega arith, (refl, (nth i terminals.Dot ∷ m, hl_low, (m, refl, named ∙ ap (λ ts. nth name terminals.Name ∷ ts) is_end)))))
dot_row production k above i m to (n, (name, named), (o, (present arguments, ha), (p, word, e))) low high between top left before hl =
    let hl_low = stands_for left production n_postfix before (nth i terminals.Dot ∷ m) (omega arith) above top hl in
    end_at (Spelled k) e
    (word low high (omega arith) (omega arith) (a_postfix (at_of left) left i (Some name) (present arguments)) before
    (omega arith, omega arith, (refl, (nth i terminals.Dot ∷ m, hl_low, (m, refl, (n, named, ha))))))

bracket_row : (production k : ℕ) → 41 ≤ production → (i : ℕ) (m to : List Numbered) → Words (symbols.Operand 27 ∷ symbols.Skip terminals.CloseBracket ∷ symbols.Make acts.Index ∷ symbols.Tail 41 k ∷ []) m to → TailWord production k (nth i terminals.OpenBracket ∷ m) to
bracket_row production k above i m to (n, h, (o, close_mark, (p, word, e))) low high between top left before hl =
    let index = h (omega arith) (omega arith) in
    let hl_low = stands_for left production n_postfix before (nth i terminals.OpenBracket ∷ m) (omega arith) above top hl in
    end_at (Spelled k) e
    (word low high (omega arith) (omega arith) (a_postfix (at_of left) left i None (present index.0)) before
    (omega arith, omega arith, (refl, (nth i terminals.OpenBracket ∷ m, hl_low, (m, refl, (n, index.1, close_mark))))))

-- the bounds of a level that is read

record Reads (production k : ℕ) (t : Terminal) : Type 0 where
  low : k ≤ level_of t
  high : level_of t ≤ joins_to production

sound_operator : (production k : ℕ) (t : Terminal) → Reads production k t → Sound (TailWord production k) t (on_operator k t)
sound_operator production k t r =
    sound_if (is_repeating t) _ _
    (λ c. let level : level_of t ≡ operator_of t = level_repeating t c in
    let low : n_or ≤ operator_of t = leb-true n_or (operator_of t) (by_every is_repeating (λ t. nat_le n_or (operator_of t)) refl t c) in
    let high : operator_of t ≤ n_product = leb-true (operator_of t) n_product (by_every is_repeating (λ t. nat_le (operator_of t) n_product) refl t c) in
    sound_reads (repeating_row production k t low high (omega arith) (omega arith)))
    (λ _. sound_if (is_assign t) _ _
    (λ c. let level : level_of t ≡ 27 = level_assign t c in sound_reads (assign_row production k t c (omega arith) (omega arith)))
    (λ _. sound_if (is_step t) _ _
    (λ c. let level : level_of t ≡ 41 = level_step t c in sound_reads (step_row production k t c (joins_postfix production (omega arith))))
    (λ _. sound_if (is t terminals.Dot) _ _
    (λ c. let level : level_of t ≡ 41 = ap level_of (same_is t terminals.Dot c) in
    sound_known t terminals.Dot (same_is t terminals.Dot c) (sound_reads (dot_row production k (joins_postfix production (omega arith)))))
    (λ _. sound_if (is t terminals.OpenBracket) _ _
    (λ c. let level : level_of t ≡ 41 = ap level_of (same_is t terminals.OpenBracket c) in
    sound_known t terminals.OpenBracket (same_is t terminals.OpenBracket c) (sound_reads (bracket_row production k (joins_postfix production (omega arith)))))
    (λ _. sound_if (is t terminals.Question) _ _
    (λ c. let level : level_of t ≡ 29 = ap level_of (same_is t terminals.Question c) in
    sound_known t terminals.Question (same_is t terminals.Question c) (sound_reads (question_row production k (omega arith) (omega arith))))
    (λ _. sound_refuses))))))

pub sound_tail : (production k : ℕ) (t : Terminal) → Sound (TailWord production k) t (on_tail production k t)
sound_tail production k t =
    sound_if (nat_le k (level_of t) && nat_le (level_of t) (joins_to production)) _ _
    (λ c. let both = and_parts (nat_le k (level_of t)) (nat_le (level_of t) (joins_to production)) c in
    sound_operator production k t (record { low = leb-true k (level_of t) both.0; high = leb-true (level_of t) (joins_to production) both.1 }))
    (λ _. sound_yields (λ ts e low high between top left before h. (left, stands_for left production k before ts low between top h)))
