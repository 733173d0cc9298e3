use Rattle.std.proofs.Common.{◌≡◌, ◌∙◌, ◌++◌, ap}
use Rattle.hl_parser.specs.Views.{plain_maybe, plain_trees}
use Rattle.hl_rules.specs.Declarations.{after_first}
use Rattle.hl_rules.specs.Elaboration.{first_variables}
use Rattle.hl_rules.specs.Rules.{noted}
use Rattle.hl_rules.specs.Scopes.{opened}
use Rattle.hl_rules.specs.Sites.{attributes_sites, condition_if, expression_if, first_if}
use Rattle.hl_rules.specs.Statements.{condition_code_if, first_code_if, value_code_if}
use Rattle.hl_values.specs.ScopeChanges.{held_of}
use Rattle.hl_values.specs.ScopeViews.{scope_of}
use Rattle.hl_types.proofs.StatementNotes.{noted-four}
use Rattle.hl_types.proofs.Walking.{both-is}
use Rattle.hl_types.proofs.statements.for_head.Goals as goal

pub returns : goal.returns
returns c =
    let s = scope_of c.args.scope.now in
    let f = c.args.found.now in
    let v = (held_of c.args.scope.now).variables in
    let first = plain_maybe c.args.first.now in
    let cond = plain_maybe c.args.cond.now in
    let step = plain_maybe c.args.step.now in
    let a = after_first s first in
    let opens = c.in_ok-open_block.ensures.scope in
    let after = c.in_ok-init.ensures.scope s opens in
    let held : (held_of c.open_block.new.self).variables ≡ v = ap (λ h. h.variables) c.open_block.ensures.held in
    record {
      init = c.in_ok-init.ensures.code ∙ ap (λ z. first_code_if z first) opens;
      cond = c.in_ok-cond.ensures.code ∙ ap (λ z. condition_code_if z cond) after;
      step = c.in_ok-step.ensures.code ∙ ap (λ z. value_code_if z step) after;
      found =
          noted-four f c.note_attributes.new.found c.first_given.new.found c.condition_if.new.found c.step_if.new.found (attributes_sites s (plain_trees c.args.attributes.now)) (first_if (opened s) first) (condition_if a cond) (expression_if a step)
          c.in_ok-note_attributes.ensures (c.in_ok-init.ensures.found ∙ ap (λ z. noted c.note_attributes.new.found (first_if z first)) opens)
          (c.in_ok-cond.ensures.found ∙ ap (λ z. noted c.first_given.new.found (condition_if z cond)) after) (c.in_ok-step.ensures.found ∙ ap (λ z. noted c.condition_if.new.found (expression_if z step)) after);
      scope = after;
      variables = c.in_ok-init.ensures.variables ∙ both-is (λ l z. l ++ first_variables z first) held opens;
    }
