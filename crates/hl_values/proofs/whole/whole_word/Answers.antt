use Rattle.std.proofs.lemmas.Result.{IfOk-weaker}
use Rattle.hl_parser.specs.Trees.{a_primary, absent}
use Rattle.hl_values.specs.ScopeViews.{scope_of}
use Rattle.hl_values.proofs.ExpressionLemmas.{known-typed}
use Rattle.hl_values.proofs.whole.whole_word.Goals as goal

pub returns-clause-typed : goal.returns-clause-typed
returns-clause-typed c =
    IfOk-weaker c.word.result _ _ (λ t e. known-typed (scope_of c.args.scope.now) (a_primary c.args.at absent absent) t e) c.word.ensures

pub returns-clause-found : goal.returns-clause-found
returns-clause-found c = IfOk-weaker c.word.result _ _ (λ t e. c.note_word.ensures) c.word.ensures
