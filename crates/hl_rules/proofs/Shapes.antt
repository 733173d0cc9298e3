-- What the grammar says of the tokens of an expression.
use Rattle.std.proofs.Common.{◌≡◌, ◌≤◌, List, None, Some}
use Rattle.std.specs.Prelude.{IsTrue}
use Rattle.hl_lexer.specs.declared.terminal.Terminal.TheVariants as terminals
use Rattle.hl_lexer.specs.Tokens.{Lexeme}
use Rattle.hl_parser.specs.Trees.{Tree, Trees, absent, present, no_trees, more_trees, a_binary, a_choice, a_postfix, a_primary, a_unary, an_args, an_expr, at_of}
use Rattle.hl_parser.specs.Grammar.{is_assign, is_basic, is_prefix, is_step, is_word, operator_of}
use Rattle.hl_rules.specs.Source.{terminal_at}

abbrev mutual
  -- the tree is an expression, whose tokens are those of its productions
  pub IsExpression : List Lexeme → Tree → Type 0
  IsExpression tokens (a_primary at absent absent) = IsTrue (is_word (terminal_at tokens at))
  IsExpression tokens (a_primary at absent (present arguments)) =
      (terminal_at tokens at ≡ terminals.Name) × AreArguments tokens arguments
  IsExpression tokens (a_primary at (present inner) absent) = IsExpression tokens inner
  IsExpression tokens (a_primary at (present basic) (present arguments)) =
      IsTrue (is_basic (terminal_at tokens (at_of basic))) × AreArguments tokens arguments
  IsExpression tokens (a_postfix at operand mark (Some name) absent) =
      IsExpression tokens operand × (terminal_at tokens name ≡ terminals.Name)
  IsExpression tokens (a_postfix at operand mark (Some name) (present arguments)) =
      IsExpression tokens operand × (terminal_at tokens name ≡ terminals.Name) × AreArguments tokens arguments
  IsExpression tokens (a_postfix at operand mark None (present index)) =
      IsExpression tokens operand × IsExpression tokens index
  IsExpression tokens (a_postfix at operand mark None absent) =
      IsExpression tokens operand × IsTrue (is_step (terminal_at tokens mark))
  IsExpression tokens (a_unary at (present basic) operand) =
      IsTrue (is_basic (terminal_at tokens (at_of basic))) × IsExpression tokens operand
  IsExpression tokens (a_unary at absent operand) =
      IsTrue (is_prefix (terminal_at tokens at)) × IsExpression tokens operand
  IsExpression tokens (a_binary production at left mark right) =
      (30 ≤ production) × (production ≤ 39) × (operator_of (terminal_at tokens mark) ≡ production) × IsExpression tokens left × IsExpression tokens right
  IsExpression tokens (a_choice at condition consequent alternative) =
      IsExpression tokens condition × IsExpression tokens consequent × IsExpression tokens alternative
  IsExpression tokens (an_expr at left mark right) =
      IsTrue (is_assign (terminal_at tokens mark)) × IsExpression tokens left × IsExpression tokens right
  IsExpression tokens _ = ⊥

  -- the tree is the arguments of a call
  pub AreArguments : List Lexeme → Tree → Type 0
  AreArguments tokens (an_args at arguments) = AreExpressions tokens arguments
  AreArguments tokens _ = ⊥

  pub AreExpressions : List Lexeme → Trees → Type 0
  AreExpressions tokens no_trees = Unit {0}
  AreExpressions tokens (more_trees first rest) = IsExpression tokens first × AreExpressions tokens rest
