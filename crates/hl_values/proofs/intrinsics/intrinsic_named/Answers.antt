use Rattle.std.proofs.Common.{◌≡◌, ◌∙◌, sym, ap, [], length, slice_index_or, arith}
use Rattle.std.proofs.lemmas.Bool.{both_ways}
use Rattle.std.proofs.lemmas.Bool.Decides.{Decides-eqb}
use Rattle.std.proofs.lemmas.Slice.Eq.{slice_eq-Decides}
use Rattle.hl_values.specs.Intrinsics.{intrinsic_names}
use Rattle.hl_values.proofs.IntrinsicTable.{name_at, name_in_slot, name_is, name_short, name_some, name_within, none_found}
use Rattle.hl_values.proofs.intrinsics.intrinsic_named.Goals as goal

pub returns-then-name-lt-SHORTEST_NAME : goal.returns-then-name-lt-SHORTEST_NAME
returns-then-name-lt-SHORTEST_NAME c = sym (none_found _ (λ n found. let some = name_some n c.args.name.now found in omega arith))

pub returns-then-name-gt-LONGEST_NAME : goal.returns-then-name-gt-LONGEST_NAME
returns-then-name-gt-LONGEST_NAME c = sym (none_found _ (λ n found. let short = name_short n c.args.name.now found in omega arith))

pub returns-then-number-ge-COUNT : goal.returns-then-number-ge-COUNT
returns-then-number-ge-COUNT c = sym (none_found _ (λ n found.
    let within = name_within n c.args.name.now found in
    let same = name_in_slot n c.name_in-number.result c.slot.result c.args.name.now c.name_in-number.ensures c.slot.ensures found in
    omega arith))

pub returns-then-eq : goal.returns-then-eq
returns-then-eq c =
    let same = (slice_eq-Decides Decides-eqb c.spelling.result.now c.args.name.now c.eq.result c.eq.ensures).0 c.if-eq.true in
    sym (name_at c.name_in-number.result c.args.name.now c.if-number-ge-COUNT.false (sym c.spelling.ensures ∙ same))

pub returns-else-eq : goal.returns-else-eq
returns-else-eq c = sym (none_found _ (λ n found.
    let same = name_in_slot n c.name_in-number.result c.slot.result c.args.name.now c.name_in-number.ensures c.slot.ensures found in
    let spelled = c.spelling.ensures ∙ (ap (λ m. slice_index_or intrinsic_names m []) same ∙ name_is n c.args.name.now found) in
    both_ways c.eq.result c.if-eq.false ((slice_eq-Decides Decides-eqb c.spelling.result.now c.args.name.now c.eq.result c.eq.ensures).1 spelled)))
