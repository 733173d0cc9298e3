use Rattle.std.proofs.Common.{◌∙◌, sym, ap, not}
use Rattle.hl_parser.specs.Trees.{absent}
use Rattle.hl_rules.specs.ExpressionRules.{is_void_result}
use Rattle.hl_rules.specs.Found.{breaking, broken_if, gathered}
use Rattle.hl_rules.specs.Rules.{noted}
use Rattle.hl_rules.specs.Sites.{jump_sites}
use Rattle.hl_rules.proofs.Noting.{noted-loop_jump, noted-return}
use Rattle.hl_values.specs.ScopeViews.{scope_of}
use Rattle.hl_types.proofs.TypedForms.{jump_sites-other, loop-around, result-is}
use Rattle.hl_types.proofs.jumps.note_jump.Goals as goal

pub returns-in-Return : goal.returns-in-Return
returns-in-Return c =
    let s = scope_of c.args.scope.now in
    let f = c.args.found.now in
    c.note_if.ensures ∙ (ap (λ b. gathered f (breaking 20 (broken_if (not b) c.args.at))) (c.is_void_result.ensures ∙ ap is_void_result (result-is c.args.scope.now)) ∙
    (sym (noted-return f s c.args.at absent) ∙ ap (λ t. noted f (jump_sites s t c.args.at)) c.in-Return.ensures))

pub returns-in_default : goal.returns-in_default
returns-in_default c =
    let s = scope_of c.args.scope.now in
    let f = c.args.found.now in
    c.note_if-in_default.ensures ∙ (ap (λ b. gathered f (breaking 19 (broken_if (not b) c.args.at))) (loop-around c.args.scope.now) ∙ (sym (noted-loop_jump f s c.args.at) ∙
    (sym (ap (noted f) (jump_sites-other s c.terminal_at.result c.args.at c.in_default.not-Return)) ∙ ap (λ t. noted f (jump_sites s t c.args.at)) c.terminal_at.ensures)))
