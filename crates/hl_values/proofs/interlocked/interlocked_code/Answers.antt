use Rattle.std.proofs.Common.{◌≡◌, ◌∙◌, sym, ap}
use Rattle.std.specs.Prelude.{option_map}
use Rattle.hl_values.specs.Atomics.{plain_operands}
use Rattle.hl_values.proofs.AtomicLemmas.{code-behind, ok_along}
use Rattle.hl_values.proofs.interlocked.interlocked_code.Goals as goal

pub returns-in-Some-operands_of : goal.returns-in-Some-operands_of
returns-in-Some-operands_of c =
    ok_along c.interlocked_place.result _ _ c.interlocked_place.ensures
    (code-behind c.args.at c.args.form c.args.codes.items c.in-Some.rest.items c.in-Some.target (plain_operands c.in-Some-operands_of.operands)
    (sym (ap (option_map (λ p. (p.0, p.1.items))) c.in-Some.is) ∙ c.first_and_rest.ensures)
    (sym (ap (option_map plain_operands) c.in-Some-operands_of.is) ∙ c.operands_of.ensures))
