use Rattle.std.proofs.Common.{◌∙◌, sym, ap, if◌then◌else◌, None, Some}
use Rattle.hl_parser.specs.Views.{plain_of, plain_trees}
use Rattle.hl_parser.proofs.Plain.{plain-Attribute}
use Rattle.hl_values.specs.ScopeViews.{scope_of}
use Rattle.hl_types.specs.Threads.{numthreads_in}
use Rattle.hl_types.proofs.ThreadLemmas.{numthreads_in-none}
use Rattle.hl_types.proofs.threads.numthreads_in.Goals as goal

pub returns-then-is_numthreads : goal.returns-then-is_numthreads
returns-then-is_numthreads c =
    ap (λ b. if b then Some (plain_trees c.in-Attribute.arguments) else None) (sym c.if-is_numthreads.true ∙ c.is_numthreads.ensures) ∙
    sym (ap (numthreads_in (scope_of c.args.scope.now)) (ap plain_of c.in-Attribute.is ∙ plain-Attribute _ _ _))

pub returns-else-is_numthreads : goal.returns-else-is_numthreads
returns-else-is_numthreads c =
    ap (λ b. if b then Some (plain_trees c.in-Attribute.arguments) else None) (sym c.if-is_numthreads.false ∙ c.is_numthreads.ensures) ∙
    sym (ap (numthreads_in (scope_of c.args.scope.now)) (ap plain_of c.in-Attribute.is ∙ plain-Attribute _ _ _))

pub returns-in_default : goal.returns-in_default
returns-in_default c = sym (numthreads_in-none (scope_of c.args.scope.now) c.args.tree.now c.in_default.not-Attribute)
