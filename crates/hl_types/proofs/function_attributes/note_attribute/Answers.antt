use Rattle.std.proofs.Common.{◌≡◌, ◌∙◌, sym, ap, Bool, true, false, ◌&&◌, not}
use Rattle.hl_parser.specs.Trees.{more_trees, no_trees}
use Rattle.hl_parser.specs.Views.{plain_of, plain_trees}
use Rattle.hl_parser.proofs.Plain.{plain-Attribute}
use Rattle.hl_rules.specs.DeclarationRules.{have_threads}
use Rattle.hl_rules.specs.Rules.{noted}
use Rattle.hl_rules.specs.Sites.{function_attributes_sites}
use Rattle.hl_rules.proofs.Noting.{noted-none}
use Rattle.hl_values.specs.ScopeViews.{scope_of}
use Rattle.hl_types.proofs.AttributeLemmas.{attribute-noted, attribute_sites-none}
use Rattle.hl_types.proofs.function_attributes.note_attribute.Goals.{then-again, else-again, then-numthreads, else-numthreads}
use Rattle.hl_types.proofs.function_attributes.note_attribute.Goals as goal

when-true : (a b v : Bool) → v ≡ b → a ≡ true → v ≡ (a && b)
when-true true b v e h = e
when-true false b v e h = absurd (cc h)

when-false : (a b v : Bool) → v ≡ a → a ≡ false → v ≡ (a && b)
when-false false b v e h = e
when-false true b v e h = absurd (cc h)

pub returns-after-numthreads : goal.returns-after-numthreads
returns-after-numthreads c =
    let s = scope_of c.args.scope.now in
    let numthreads = c.is_numthreads-numthreads.result in
    let threads = c.have_threads-threads.result in
    let first : c.if-again.note_if ≡ (c.args.again && numthreads) =
    elim c.if-again.branch [ then-again w ↦ when-true _ _ _ w.note_if-is w.if-again.true | else-again w ↦ when-false _ _ _ w.note_if-is w.if-again.false ] in
    let second : c.if-numthreads.note_if ≡ (numthreads && not threads) =
    elim c.if-numthreads.branch [ then-numthreads w ↦ when-true _ _ _ w.note_if-is w.if-numthreads.true | else-numthreads w ↦ when-false _ _ _ w.note_if-is w.if-numthreads.false ] in
    attribute-noted s c.args.again c.in-Attribute.at c.in-Attribute.name (plain_trees c.in-Attribute.arguments) _ _ _ _ _ numthreads threads _ _
    c.in_ok-note_arguments-in-Attribute.ensures c.is_numthreads-numthreads.ensures (c.have_threads-threads.ensures ∙ ap (λ l. have_threads s (plain_trees l)) c.as_slice.ensures)
    first second c.note_if.ensures c.note_if-in-Attribute.ensures c.note_if-in-Attribute-2.ensures ∙
    sym (ap (λ x. noted c.args.found.now (function_attributes_sites s c.args.again (more_trees x no_trees))) (ap plain_of c.in-Attribute.is ∙ plain-Attribute _ _ _))

pub returns-in_default : goal.returns-in_default
returns-in_default c =
    sym (ap (noted c.args.found.now) (attribute_sites-none (scope_of c.args.scope.now) c.args.again c.args.tree.now c.in_default.not-Attribute) ∙ noted-none c.args.found.now)
