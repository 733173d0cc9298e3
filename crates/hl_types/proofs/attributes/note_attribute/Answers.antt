use Rattle.std.proofs.Common.{◌∙◌, sym, ap}
use Rattle.hl_parser.specs.Trees.{more_trees, no_trees}
use Rattle.hl_parser.specs.Views.{plain_of}
use Rattle.hl_parser.proofs.Plain.{plain-Attribute}
use Rattle.hl_rules.specs.Rules.{noted}
use Rattle.hl_rules.specs.Sites.{attributes_sites}
use Rattle.hl_rules.proofs.Noting.{noted-none}
use Rattle.hl_values.specs.ScopeViews.{scope_of}
use Rattle.hl_types.proofs.AttributeForms.{attribute-noted}
use Rattle.hl_types.proofs.Shapes.{attributes_sites-none}
use Rattle.hl_types.proofs.attributes.note_attribute.Goals as goal

pub returns-in_ok-note_arguments-in-Attribute : goal.returns-in_ok-note_arguments-in-Attribute
returns-in_ok-note_arguments-in-Attribute c =
    let s = scope_of c.args.scope.now in
    let f = c.args.found.now in
    attribute-noted s c.in-Attribute.name c.in-Attribute.at c.in-Attribute.arguments c.text_at.result.now c.len.result c.is_statement_attribute-known.result f c.note_arguments.new.found c.note_if.new.found
    c.in_ok-note_arguments-in-Attribute.ensures c.is_statement_attribute-known.ensures c.text_at.ensures c.len.ensures c.note_if.ensures ∙
    sym (ap (λ t. noted f (attributes_sites s (more_trees t no_trees))) (ap plain_of c.in-Attribute.is ∙ plain-Attribute _ _ _))

pub returns-in_default : goal.returns-in_default
returns-in_default c =
    let s = scope_of c.args.scope.now in
    let f = c.args.found.now in
    sym (ap (noted f) (attributes_sites-none s c.args.tree.now c.in_default.not-Attribute) ∙ noted-none f)
