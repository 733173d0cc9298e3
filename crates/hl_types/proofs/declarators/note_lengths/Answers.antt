use Rattle.std.proofs.Common.{◌∙◌, ◌+◌, ◌∷◌, ◌++◌, [], refl, ap, drop, arith}
use Rattle.hl_parser.specs.Views.{plain_of, plain_trees}
use Rattle.hl_rules.specs.Parts.{a_length, site}
use Rattle.hl_rules.specs.Rules.{noted}
use Rattle.hl_rules.specs.Sites.{lengths_sites, value_sites}
use Rattle.hl_values.specs.ScopeViews.{scope_of}
use Rattle.hl_types.proofs.DeclaratorNotes.{lengths-turn}
use Rattle.hl_types.proofs.Turns.{noted-end, noted-turn}
use Rattle.hl_types.proofs.declarators.note_lengths.Goals as goal

pub loop-before-preserved : goal.loop-before-preserved
loop-before-preserved c =
    let s = scope_of c.args.scope.now in
    let xs = c.as_slice-lengths.result.now in
    let i = c.loop-before.before in
    let x = c.index-lengths-before.result in
    noted-turn (λ l. lengths_sites s i (plain_trees l)) (λ l. lengths_sites s (i + 1) (plain_trees l)) xs i x (value_sites s (plain_of x) ++ site s (a_length i (plain_of x)) ∷ [])
    _ c.loop-before.found c.note_length.new.found c.loop-before-test.true c.index-lengths-before.is (lengths-turn s i (plain_of x) (plain_trees (drop (i + 1) xs))) c.loop-before.invariant c.in_ok-note_length.ensures

pub returns : goal.returns
returns c =
    let s = scope_of c.args.scope.now in
    let xs = c.as_slice-lengths.result.now in
    let i = c.loop-before.before in
    noted-end (λ l. lengths_sites s i (plain_trees l)) xs i _ c.loop-before.found (omega arith) refl c.loop-before.invariant ∙
    ap (λ l. noted c.args.found.now (lengths_sites s 0 (plain_trees l))) c.as_slice-lengths.ensures
