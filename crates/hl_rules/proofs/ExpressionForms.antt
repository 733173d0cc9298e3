-- An expression that breaks no rule becomes what is known of it, and that is well formed in every program that the scope fits.
use Rattle.std.proofs.Common.{◌≡◌, refl, subst, true, false, if◌then◌else◌, List, [], ◌∷◌, ◌++◌, None, Some}
use Rattle.std.specs.Prelude.{is_some}
use Rattle.hl_lexer.specs.declared.terminal.Terminal.{Terminal}
use Rattle.hl_lexer.specs.declared.terminal.Terminal.TheVariants as terminals
use Rattle.hl_parser.specs.Trees.{Tree, Trees, absent, present, no_trees, more_trees, a_binary, a_choice, a_postfix, a_primary, a_unary, an_args, an_expr}
use Rattle.hl_rules.specs.Expressions.{code_of, codes_of}
use Rattle.hl_rules.specs.Nodes.{Code}
use Rattle.hl_rules.specs.Parts.{Site, a_call, a_constructor, a_method_call, an_index, a_cast, a_dot, a_written_side, site}
use Rattle.hl_rules.specs.Scopes.{Scope}
use Rattle.hl_rules.specs.Sites.{arguments_sites, assignment_sites, buffer_or_used, expression_sites, operated, prefix_sites, used}
use Rattle.hl_rules.specs.Source.{terminal_at}
use Rattle.hl_rules.specs.Values.{buffer_at, value_of, values_of}
use Rattle.hl_rules.proofs.Arguments.{ArgumentsBecome, becomes-argument, codes-more}
use Rattle.hl_rules.proofs.Becoming.{operated-inside, used-inside}
use Rattle.hl_rules.proofs.CallSites.{call-known, constructor-known}
use Rattle.hl_rules.proofs.Fitting.{IsKnown}
use Rattle.hl_rules.proofs.Free.{IsFree, free-left, free-right}
use Rattle.hl_rules.proofs.IndexSites.{index-sites}
use Rattle.hl_rules.proofs.Marks.{sign-marked}
use Rattle.hl_rules.proofs.OperatorSites.{Known, binary-known, cast-known, choice-known, used-of}
use Rattle.hl_rules.proofs.PostfixSites.{dot-known, method-known}
use Rattle.hl_rules.proofs.Shapes.{AreExpressions, IsExpression}
use Rattle.hl_rules.proofs.WordForms.{word-becomes}
use Rattle.hl_rules.proofs.WriteSites.{assignment-on, prefix-on, step-known}

-- what all arguments become
pub record AreKnown (s : Scope) (trees : Trees) : Type 0 where
  pub codes : List Code
  pub coded : codes_of s trees ≡ Some codes
  pub become : ArgumentsBecome s (values_of s trees) codes

more-known : (s : Scope) (first : Tree) (rest : Trees) → Known s first → IsFree (used s first (expression_sites s first)) → AreKnown s rest → AreKnown s (more_trees first rest)
more-known s first rest b free a = record {
  codes = b.to ∷ a.codes;
  coded = codes-more s first rest b.to a.codes b.is a.coded;
  become = (becomes-argument s (value_of s first) (code_of s first) b (used-of s first (expression_sites s first) b free), a.become);
}

-- ---- sites

used-first : (s : Scope) (operand : Tree) (rest : List Site) → IsFree (used s operand (expression_sites s operand) ++ rest) → IsFree (expression_sites s operand)
used-first s operand rest free = used-inside s operand (expression_sites s operand) (free-left (used s operand (expression_sites s operand)) rest free)

operated-first : (s : Scope) (operand : Tree) (rest : List Site) → IsFree (operated s operand (expression_sites s operand) ++ rest) → IsFree (expression_sites s operand)
operated-first s operand rest free = operated-inside s operand (expression_sites s operand) (free-left (operated s operand (expression_sites s operand)) rest free)

operated-behind : (s : Scope) (operand : Tree) (rest : List Site) → IsFree (operated s operand (expression_sites s operand) ++ rest) → IsFree rest
operated-behind s operand rest free = free-right (operated s operand (expression_sites s operand)) rest free

-- what stands before an index, where it names no buffer
buffer-first : (s : Scope) (operand : Tree) (rest : List Site) → is_some (buffer_at s operand) ≡ false → IsFree (buffer_or_used s operand (expression_sites s operand) ++ rest) → IsFree (expression_sites s operand)
buffer-first s operand rest none free =
    used-inside s operand (expression_sites s operand)
    (subst (λ c. IsFree (if c then [] else used s operand (expression_sites s operand))) none
    (free-left (buffer_or_used s operand (expression_sites s operand)) rest free))

-- the operand of a mark before it
prefix-first : (s : Scope) (terminal : Terminal) (operand : Tree) → IsFree (prefix_sites s terminal operand (expression_sites s operand)) → IsFree (expression_sites s operand)
prefix-first s terminals.PlusPlus operand free = operated-first s operand (site s (a_written_side operand) ∷ []) free
prefix-first s terminals.MinusMinus operand free = operated-first s operand (site s (a_written_side operand) ∷ []) free
prefix-first s _ operand free = operated-inside s operand (expression_sites s operand) free

-- the sides of an assignment
record IsAssigned (s : Scope) (left right : Tree) : Type 0 where
  left_free : IsFree (expression_sites s left)
  right_free : IsFree (expression_sites s right)

assigned-first : (s : Scope) (terminal : Terminal) (left right : Tree) → IsFree (assignment_sites s terminal left right (expression_sites s left) (expression_sites s right)) → IsAssigned s left right
assigned-first s terminals.Equals left right free = record {
  left_free = used-first s left _ free;
  right_free = used-first s right _ (free-right (used s left (expression_sites s left)) _ free);
}
assigned-first s _ left right free = record {
  left_free = operated-first s left _ free;
  right_free = operated-first s right _ (operated-behind s left _ free);
}

-- ---- expressions

mutual
  pub expression-becomes : (s : Scope) → IsKnown s → (e : Tree) → IsExpression s.tokens e → IsFree (expression_sites s e) → Known s e
  expression-becomes s known (a_primary at absent absent) shape free = word-becomes s known (terminal_at s.tokens at) at shape free
  expression-becomes s known (a_primary at (present inner) absent) shape free = expression-becomes s known inner shape free
  expression-becomes s known (a_primary at absent (present (an_args first trees))) shape free =
      let a : AreKnown s trees = arguments-become s known trees shape.1 (free-left (arguments_sites s trees) (site s (a_call at (an_args first trees)) ∷ []) free) in
      call-known s known at first trees a.codes a.coded a.become free
  expression-becomes s known (a_primary at absent (present other)) shape free = absurd shape.1
  expression-becomes s known (a_primary at (present basic) (present (an_args first trees))) shape free =
      let a : AreKnown s trees = arguments-become s known trees shape.1 (free-left (arguments_sites s trees) (site s (a_constructor at basic (an_args first trees)) ∷ []) free) in
      constructor-known s at first basic trees a.codes shape.0 a.coded a.become free
  expression-becomes s known (a_primary at (present basic) (present other)) shape free = absurd shape.1
  expression-becomes s known (a_postfix at operand mark (Some name) absent) shape free =
      dot-known s known at mark name operand shape.1 (expression-becomes s known operand shape.0 (used-first s operand (site s (a_dot operand name) ∷ []) free)) free
  expression-becomes s known (a_postfix at operand mark (Some name) (present (an_args first trees))) shape free =
      let a : AreKnown s trees = arguments-become s known trees shape.2 (free-left (arguments_sites s trees) (site s (a_method_call operand name (an_args first trees)) ∷ []) (free-right (buffer_or_used s operand (expression_sites s operand)) (arguments_sites s trees ++ site s (a_method_call operand name (an_args first trees)) ∷ []) free)) in
      method-known s known at mark name first operand trees a.codes a.coded a.become free
  expression-becomes s known (a_postfix at operand mark (Some name) (present other)) shape free = absurd shape.2
  expression-becomes s known (a_postfix at operand mark None (present index)) shape free =
      index-sites s known at mark operand index
      (λ none. expression-becomes s known operand shape.0 (buffer-first s operand (used s index (expression_sites s index) ++ site s (an_index operand index) ∷ []) none free))
      (expression-becomes s known index shape.1 (used-first s index (site s (an_index operand index) ∷ []) (free-right (buffer_or_used s operand (expression_sites s operand)) (used s index (expression_sites s index) ++ site s (an_index operand index) ∷ []) free)))
      free
  expression-becomes s known (a_postfix at operand mark None absent) shape free =
      step-known s at mark true operand (expression_sites s operand) (expression-becomes s known operand shape.0 (operated-first s operand (site s (a_written_side operand) ∷ []) free)) free
  expression-becomes s known (a_unary at (present basic) operand) shape free =
      cast-known s at basic operand shape.0 (expression-becomes s known operand shape.1 (used-first s operand (site s (a_cast at basic operand) ∷ []) free)) free
  expression-becomes s known (a_unary at absent operand) shape free =
      prefix-on s (terminal_at s.tokens at) at operand (expression_sites s operand)
      (expression-becomes s known operand shape.1 (prefix-first s (terminal_at s.tokens at) operand free)) shape.0 (sign-marked s.tokens at) free
  expression-becomes s known (a_binary production at left mark right) shape free =
      binary-known s production at mark left right shape.0 shape.2
      (expression-becomes s known left shape.3 (operated-first s left (operated s right (expression_sites s right)) free))
      (expression-becomes s known right shape.4 (operated-inside s right (expression_sites s right) (operated-behind s left (operated s right (expression_sites s right)) free)))
      free
  expression-becomes s known (a_choice at condition consequent alternative) shape free =
      choice-known s at condition consequent alternative
      (expression-becomes s known condition shape.0 (operated-first s condition (operated s consequent (expression_sites s consequent) ++ operated s alternative (expression_sites s alternative)) free))
      (expression-becomes s known consequent shape.1 (operated-first s consequent (operated s alternative (expression_sites s alternative)) (operated-behind s condition (operated s consequent (expression_sites s consequent) ++ operated s alternative (expression_sites s alternative)) free)))
      (expression-becomes s known alternative shape.2 (operated-inside s alternative (expression_sites s alternative) (operated-behind s consequent (operated s alternative (expression_sites s alternative)) (operated-behind s condition (operated s consequent (expression_sites s consequent) ++ operated s alternative (expression_sites s alternative)) free))))
      free
  expression-becomes s known (an_expr at left mark right) shape free =
      assignment-on s (terminal_at s.tokens mark) at left right (expression_sites s left) (expression_sites s right)
      (expression-becomes s known left shape.1 (assigned-first s (terminal_at s.tokens mark) left right free).left_free)
      (expression-becomes s known right shape.2 (assigned-first s (terminal_at s.tokens mark) left right free).right_free)
      shape.0 free
  expression-becomes s known _ shape free = absurd shape

  pub arguments-become : (s : Scope) → IsKnown s → (trees : Trees) → AreExpressions s.tokens trees → IsFree (arguments_sites s trees) → AreKnown s trees
  arguments-become s known no_trees shape free = record { codes = []; coded = refl; become = tt }
  arguments-become s known (more_trees first rest) shape free =
      more-known s first rest
      (expression-becomes s known first shape.0 (used-first s first (arguments_sites s rest) free))
      (free-left (used s first (expression_sites s first)) (arguments_sites s rest) free)
      (arguments-become s known rest shape.1 (free-right (used s first (expression_sites s first)) (arguments_sites s rest) free))
