use Rattle.hl_meaning.specs.Views.{plain_ty}
use Rattle.hl_parser.specs.Views.{plain_of}
use Rattle.hl_values.specs.ScopeViews.{scope_of}
use Rattle.hl_types.proofs.ConstructorLemmas.{constructor-found, constructor-typed}
use Rattle.hl_types.proofs.constructors.whole_constructor.Goals as goal

pub returns-clause-typed : goal.returns-clause-typed
returns-clause-typed c =
    constructor-typed (scope_of c.args.scope.now) c.args.at (plain_of c.args.basic.now) (plain_of c.args.arguments.now) c.args.args c.in_ok-typed.typed c.behind.result (plain_ty c.basic_type-ty.result)
    c.requires c.basic_type-ty.ensures c.in_ok-typed.ensures.typed c.behind.ensures

pub returns-clause-found : goal.returns-clause-found
returns-clause-found c = λ f before.
    constructor-found f c.args.found.now c.constructed.new.found (scope_of c.args.scope.now) c.args.at (plain_of c.args.basic.now) (plain_of c.args.arguments.now) c.args.args (plain_ty c.basic_type-ty.result)
    c.requires c.basic_type-ty.ensures before c.in_ok-typed.ensures.found
