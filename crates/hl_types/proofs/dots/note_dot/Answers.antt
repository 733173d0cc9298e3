use Rattle.std.specs.Option.{option_copied}
use Rattle.hl_rules.specs.Values.{valued}
use Rattle.hl_values.specs.ScopeViews.{scope_of}
use Rattle.hl_values.specs.Views.{plain_type_if}
use Rattle.hl_types.proofs.DotLemmas.{dot-judged}
use Rattle.hl_types.proofs.dots.note_dot.Goals as goal

pub returns : goal.returns
returns c =
    let swizzle = c.in_ok-swizzle.ensures in
    dot-judged c.args.found.now c.note_if.new.found c.note_if-2.new.found (scope_of c.args.scope.now) c.args.name c.text_at-word.result.now
    (plain_type_if (option_copied c.valued.result)) (plain_type_if (option_copied c.valued-2.result)) (valued (plain_type_if c.args.ty.now))
    c.is_no_member-member.result c.in_ok-swizzle.swizzle c.text_at-word.ensures c.valued.ensures c.valued-2.ensures c.is_no_member-member.ensures swizzle c.note_if.ensures c.note_if-2.ensures
