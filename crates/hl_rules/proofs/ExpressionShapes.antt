-- The grammar gives expressions their shapes.
use Rattle.std.proofs.Common.{ℕ, suc, ◌≤◌, List, None, Some, arith}
use Rattle.hl_lexer.specs.declared.terminal.Terminal.TheVariants as terminals
use Rattle.hl_lexer.specs.Tokens.{Lexeme}
use Rattle.hl_parser.specs.Grammar.{AttributeArguments, Commas, Lengths, PerhapsListed, Spells, is_assign, is_basic, is_prefix, is_step, is_word}
use Rattle.hl_parser.specs.Trees.{Tree, Trees, a_basic, a_binary, a_choice, a_postfix, a_primary, a_unary, absent, an_args, an_expr, at_of, more_trees, no_trees, present}
use Rattle.std.specs.Prelude.{IsTrue}
use Rattle.hl_rules.specs.Source.{terminal_at}
use Rattle.hl_rules.proofs.Productions.{IsExpressionNumber, production_of, stands, stands-arguments, stands-expression, stands-itself}
use Rattle.hl_rules.proofs.Shapes.{AreArguments, AreExpressions, IsExpression}
use Rattle.hl_rules.proofs.Walking.{Walks, walk-as, walk-at, walk-before, walk-behind, walk-map, walk-nothing, walk-operator, walk-past, walk-then, walk-token, walk-word}

-- the word of a basic type
pub walk-basic : (tokens : List Lexeme) (basic : Tree) → Walks tokens (Spells 6 basic) (IsTrue (is_basic (terminal_at tokens (at_of basic))))
walk-basic tokens (a_basic at) = walk-as tokens 6 6 _ (walk-word tokens at is_basic)
walk-basic tokens tree = λ from to h read. absurd (let e = stands-itself 6 (production_of tree) (omega arith) (stands tree 6 from to h) in omega (arith, e))

-- an expression stands for each of the productions from 27 to 42
within : (n : ℕ) → 27 ≤ n → n ≤ 42 → IsExpressionNumber n
within n from to = record { from = from; to = to }

mutual
  walk-expression : (tokens : List Lexeme) (e : Tree) (asked : ℕ) → IsExpressionNumber asked → Walks tokens (Spells asked e) (IsExpression tokens e)
  walk-expression tokens (a_primary at absent absent) asked k = walk-as tokens asked 42 _ (walk-word tokens at is_word)
  walk-expression tokens (a_primary at absent (present arguments)) asked k =
      walk-as tokens asked 42 _
      (walk-then tokens _ _ (walk-token tokens at terminals.Name) (walk-arguments tokens arguments))
  walk-expression tokens (a_primary at (present basic) (present arguments)) asked k =
      walk-as tokens asked 42 _ (walk-at tokens at (at_of basic) _
      (walk-then tokens _ _ (walk-basic tokens basic) (walk-arguments tokens arguments)))
  walk-expression tokens (a_primary at (present inner) absent) asked k =
      walk-as tokens asked 42 _ (walk-past tokens at terminals.OpenParenthesis _
      (walk-before tokens terminals.CloseParenthesis _ (walk-expression tokens inner 27 (within 27 (omega arith) (omega arith)))))
  walk-expression tokens (a_postfix at operand mark (Some name) absent) asked k =
      walk-as tokens asked 41 _ (walk-at tokens at (at_of operand) _
      (walk-then tokens _ _ (walk-expression tokens operand 41 (within 41 (omega arith) (omega arith)))
      (walk-past tokens mark terminals.Dot _ (walk-token tokens name terminals.Name))))
  walk-expression tokens (a_postfix at operand mark (Some name) (present arguments)) asked k =
      walk-as tokens asked 41 _ (walk-at tokens at (at_of operand) _ (walk-map tokens _ (λ r. (r.0, r.1.0, r.1.1))
      (walk-then tokens _ _ (walk-expression tokens operand 41 (within 41 (omega arith) (omega arith)))
      (walk-past tokens mark terminals.Dot _
      (walk-then tokens _ _ (walk-token tokens name terminals.Name) (walk-arguments tokens arguments))))))
  walk-expression tokens (a_postfix at operand mark None (present index)) asked k =
      walk-as tokens asked 41 _ (walk-at tokens at (at_of operand) _
      (walk-then tokens _ _ (walk-expression tokens operand 41 (within 41 (omega arith) (omega arith)))
      (walk-past tokens mark terminals.OpenBracket _
      (walk-before tokens terminals.CloseBracket _ (walk-expression tokens index 27 (within 27 (omega arith) (omega arith)))))))
  walk-expression tokens (a_postfix at operand mark None absent) asked k =
      walk-as tokens asked 41 _ (walk-at tokens at (at_of operand) _
      (walk-then tokens _ _ (walk-expression tokens operand 41 (within 41 (omega arith) (omega arith)))
      (walk-word tokens mark is_step)))
  walk-expression tokens (a_unary at (present basic) operand) asked k =
      walk-as tokens asked 40 _ (walk-past tokens at terminals.OpenParenthesis _
      (walk-then tokens _ _ (walk-basic tokens basic)
      (walk-behind tokens terminals.CloseParenthesis _ (walk-expression tokens operand 40 (within 40 (omega arith) (omega arith))))))
  walk-expression tokens (a_unary at absent operand) asked k =
      walk-as tokens asked 40 _
      (walk-then tokens _ _ (walk-word tokens at is_prefix) (walk-expression tokens operand 40 (within 40 (omega arith) (omega arith))))
  walk-expression tokens (a_binary production at left mark right) asked k = λ from to h read.
      let low : 30 ≤ production = h.0 in
      let high : production ≤ 39 = h.1 in
      walk-map tokens _ (λ r. (low, high, r.1.0, r.0, r.1.1))
      (walk-then tokens _ _ (walk-expression tokens left production (within production (omega arith) (omega arith)))
      (walk-then tokens _ _ (walk-operator tokens mark production)
      (walk-expression tokens right (suc production) (within (suc production) (omega arith) (omega arith)))))
      from to h.2.2.1 read
  walk-expression tokens (a_choice at condition consequent alternative) asked k =
      walk-as tokens asked 29 _ (walk-at tokens at (at_of condition) _ (walk-map tokens _ (λ r. (r.0, r.1.0, r.1.1))
      (walk-then tokens _ _ (walk-expression tokens condition 30 (within 30 (omega arith) (omega arith)))
      (walk-behind tokens terminals.Question _
      (walk-then tokens _ _ (walk-expression tokens consequent 27 (within 27 (omega arith) (omega arith)))
      (walk-behind tokens terminals.Colon _ (walk-expression tokens alternative 29 (within 29 (omega arith) (omega arith)))))))))
  walk-expression tokens (an_expr at left mark right) asked k =
      walk-as tokens asked 27 _ (walk-at tokens at (at_of left) _ (walk-map tokens _ (λ r. (r.1.0, r.0, r.1.1))
      (walk-then tokens _ _ (walk-expression tokens left 29 (within 29 (omega arith) (omega arith)))
      (walk-then tokens _ _ (walk-word tokens mark is_assign)
      (walk-expression tokens right 27 (within 27 (omega arith) (omega arith)))))))
  walk-expression tokens tree asked k = λ from to h read. absurd (
      let e = stands-expression asked (production_of tree) k (stands tree asked from to h) in
      let low = e.from in
      let high = e.to in
      omega (arith, low, high))

  pub walk-arguments : (tokens : List Lexeme) (tree : Tree) → Walks tokens (Spells 43 tree) (AreArguments tokens tree)
  walk-arguments tokens (an_args at arguments) =
      walk-as tokens 43 43 _ (walk-past tokens at terminals.OpenParenthesis _
      (walk-before tokens terminals.CloseParenthesis _ (walk-listed tokens arguments)))
  walk-arguments tokens (a_binary production at left mark right) = λ from to h read. absurd (
      let e = stands-arguments production (stands (a_binary production at left mark right) 43 from to h) in
      let high = h.1 in
      omega (arith, e, high))
  walk-arguments tokens tree = λ from to h read. absurd (
      let e = stands-arguments (production_of tree) (stands tree 43 from to h) in
      omega (arith, e))

  pub walk-listed : (tokens : List Lexeme) (trees : Trees) → Walks tokens (PerhapsListed 27 trees) (AreExpressions tokens trees)
  walk-listed tokens no_trees = walk-nothing tokens tt
  walk-listed tokens (more_trees first rest) =
      walk-then tokens _ _ (walk-expression tokens first 27 (within 27 (omega arith) (omega arith))) (walk-commas tokens rest)

  walk-commas : (tokens : List Lexeme) (trees : Trees) → Walks tokens (Commas 27 trees) (AreExpressions tokens trees)
  walk-commas tokens no_trees = walk-nothing tokens tt
  walk-commas tokens (more_trees first rest) =
      walk-behind tokens terminals.Comma _
      (walk-then tokens _ _ (walk-expression tokens first 27 (within 27 (omega arith) (omega arith))) (walk-commas tokens rest))

-- a tree of the production `expr`
pub walk-expr : (tokens : List Lexeme) (e : Tree) → Walks tokens (Spells 27 e) (IsExpression tokens e)
walk-expr tokens e = walk-expression tokens e 27 (within 27 (omega arith) (omega arith))

-- the lengths of a declarator
pub walk-lengths : (tokens : List Lexeme) (lengths : Trees) → Walks tokens (Lengths lengths) (AreExpressions tokens lengths)
walk-lengths tokens no_trees = walk-nothing tokens tt
walk-lengths tokens (more_trees first rest) =
    walk-behind tokens terminals.OpenBracket _
    (walk-then tokens _ _ (walk-expr tokens first) (walk-behind tokens terminals.CloseBracket _ (walk-lengths tokens rest)))

-- the arguments of an attribute
pub walk-attribute_arguments : (tokens : List Lexeme) (arguments : Trees) → Walks tokens (AttributeArguments arguments) (AreExpressions tokens arguments)
walk-attribute_arguments tokens no_trees = walk-nothing tokens tt
walk-attribute_arguments tokens (more_trees first rest) =
    walk-behind tokens terminals.OpenParenthesis _
    (walk-then tokens _ _ (walk-expr tokens first) (walk-before tokens terminals.CloseParenthesis _ (walk-commas tokens rest)))
