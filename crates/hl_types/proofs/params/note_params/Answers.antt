use Rattle.std.proofs.Common.{◌∙◌, refl, sym, ap, ◌+◌, ◌||◌, ◌++◌, drop, take, map}
use Rattle.std.proofs.lemmas.List.{map-append}
use Rattle.hl_parser.specs.Views.{plain_of, plain_trees}
use Rattle.hl_rules.specs.Declarations.{after_params, params_info}
use Rattle.hl_rules.specs.DeclarationRules.{has_semantic}
use Rattle.hl_rules.specs.Elaboration.{param_variables}
use Rattle.hl_rules.specs.Rules.{noted}
use Rattle.hl_rules.specs.Sites.{params_sites}
use Rattle.hl_values.specs.ScopeChanges.{held_of}
use Rattle.hl_values.specs.ScopeViews.{plain_param, scope_of}
use Rattle.hl_types.specs.Semantics.{holds}
use Rattle.hl_types.proofs.ParamLemmas.{and-taken, more-found, more-held, more-info, more-scope, more-variables}
use Rattle.hl_types.proofs.Turns.{left-turn, noted-end}
use Rattle.hl_types.proofs.params.note_params.Goals as goal

pub loop-tree-preserved : goal.loop-tree-preserved
loop-tree-preserved c =
    let s = scope_of c.loop-tree.scope in
    let s' = scope_of c.param.new.scope in
    let xs = c.args.params.now in
    let i = c.loop-tree.tree-index in
    let x = c.tree-item.result in
    let t = plain_of x in
    let rest = plain_trees (drop (i + 1) xs) in
    let before = plain_trees (take i xs) in
    let turn = c.loop-tree.invariant in
    let taken = sym (and-taken xs i x c.loop-tree-test.true c.tree-item.is) in
    record {
      info = more-info s s' t rest (map plain_param c.loop-tree.infos) _ _ (plain_param c.in_ok-info.info) c.in_ok-info.ensures.scope
          (ap (map plain_param) c.in_ok-push.ensures.ok ∙ map-append plain_param c.loop-tree.infos _) c.in_ok-info.ensures.info
          (left-turn (λ l. map plain_param c.loop-tree.infos ++ params_info s (plain_trees l)) xs i x _ c.loop-tree-test.true c.tree-item.is turn.info);
      scope = more-scope s s' _ t rest c.in_ok-info.ensures.scope
          (left-turn (λ l. after_params s (plain_trees l)) xs i x _ c.loop-tree-test.true c.tree-item.is turn.scope);
      held = more-variables s s' t rest (held_of c.loop-tree.scope) (held_of c.param.new.scope) _ c.in_ok-info.ensures.scope c.in_ok-info.ensures.held
          (left-turn (λ l. record (held_of c.loop-tree.scope) { variables = (held_of c.loop-tree.scope).variables ++ param_variables s (plain_trees l) }) xs i x _ c.loop-tree-test.true c.tree-item.is turn.held);
      semantics = more-held s s' before _ t c.loop-tree.before c.with-before.result c.in_ok-info.ensures.scope taken turn.semantics
          (λ semantic. c.with-before.ensures semantic ∙ ap (λ o. holds c.loop-tree.before semantic || has_semantic semantic o) c.semantic_in-semantic.ensures);
      found = more-found s s' c.args.entry before _ t rest c.loop-tree.found c.param.new.found _ c.in_ok-info.ensures.scope taken (c.in_ok-info.ensures.found before turn.semantics)
          (left-turn (λ l. noted c.loop-tree.found (params_sites s c.args.entry before (plain_trees l))) xs i x _ c.loop-tree-test.true c.tree-item.is turn.found);
    }

pub returns-clause-found : goal.returns-clause-found
returns-clause-found c =
    let xs = c.args.params.now in
    let i = c.loop-tree.tree-index in
    noted-end (λ l. params_sites (scope_of c.loop-tree.scope) c.args.entry (plain_trees (take i xs)) (plain_trees l)) xs i _ c.loop-tree.found c.loop-tree-test.false refl c.loop-tree.invariant.found
