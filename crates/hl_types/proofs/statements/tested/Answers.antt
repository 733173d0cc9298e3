use Rattle.hl_parser.specs.Views.{plain_of, plain_trees}
use Rattle.hl_rules.specs.Sites.{attributes_sites, condition_sites}
use Rattle.hl_values.specs.ScopeViews.{scope_of}
use Rattle.hl_types.proofs.TypedForms.{noted-ok}
use Rattle.hl_types.proofs.statements.tested.Goals as goal

pub returns : goal.returns
returns c =
    let s = scope_of c.args.scope.now in
    record {
      code = c.condition.ensures.code;
      found =
          noted-ok c.condition.result c.args.found.now c.note_attributes.new.found c.condition.new.found (attributes_sites s (plain_trees c.args.attributes.now)) (condition_sites s (plain_of c.args.cond.now))
          c.in_ok-note_attributes.ensures c.condition.ensures.found;
    }
