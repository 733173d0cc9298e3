use Rattle.std.proofs.Common.{◌∙◌, sym, ap}
use Rattle.hl_parser.specs.Views.{plain_of, plain_trees}
use Rattle.hl_parser.proofs.Plain.{plain-Declarator}
use Rattle.hl_rules.specs.Constants.{declarator_type}
use Rattle.hl_rules.specs.Rules.{noted}
use Rattle.hl_rules.specs.Scopes.{words_if}
use Rattle.hl_rules.specs.Sites.{declarator_sites}
use Rattle.hl_rules.proofs.Noting.{noted-none}
use Rattle.hl_values.specs.ScopeViews.{scope_of}
use Rattle.hl_values.specs.Views.{plain_type_if}
use Rattle.hl_types.proofs.DeclaratorNotes.{declarator-noted}
use Rattle.hl_types.proofs.Shapes.{declarator_sites-none, declarator_type-none}
use Rattle.hl_types.proofs.declarators.declarator.Goals as goal

pub returns-in_ok-own-in-Declarator : goal.returns-in_ok-own-in-Declarator
returns-in_ok-own-in-Declarator c =
    let s = scope_of c.args.scope.now in
    let f = c.args.found.now in
    let ty = plain_type_if c.args.ty.now in
    let tree = ap plain_of c.in-Declarator.is ∙ plain-Declarator c.in-Declarator.at c.in-Declarator.lengths in
    record {
      ty = c.in_ok-own-in-Declarator.ensures;
      found =
          declarator-noted s ty c.in-Declarator.at (plain_trees c.in-Declarator.lengths) (plain_type_if c.in_ok-own-in-Declarator.own) f c.note_lengths.new.found c.note_if.new.found c.is_more.result
          c.in_ok-note_lengths-in-Declarator.ensures (c.in_ok-own-in-Declarator.ensures ∙ ap (declarator_type s ty) tree) (c.is_more.ensures (words_if s.structs (plain_type_if c.in_ok-own-in-Declarator.own)) c.words_if.ensures) c.note_if.ensures ∙
          sym (ap (λ t. noted f (declarator_sites s ty t)) tree);
    }

pub returns-in_default : goal.returns-in_default
returns-in_default c =
    let s = scope_of c.args.scope.now in
    let f = c.args.found.now in
    let ty = plain_type_if c.args.ty.now in
    record {
      ty = sym (declarator_type-none s ty c.args.tree.now c.in_default.not-Declarator);
      found = sym (ap (noted f) (declarator_sites-none s ty c.args.tree.now c.in_default.not-Declarator) ∙ noted-none f);
    }
