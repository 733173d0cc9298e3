use Rattle.std.proofs.Common.{map}
use Rattle.hl_meaning.specs.Views.{plain_exprs, plain_ty}
use Rattle.hl_rules.specs.Nodes.{in_kind}
use Rattle.hl_values.specs.Views.{plain_code}
use Rattle.hl_values.proofs.FormLemmas.{constructor-done, there}
use Rattle.hl_values.proofs.forms.constructor_code.Goals as goal

pub returns : goal.returns
returns c =
    let made = c.in_ok-built.ensures in
    let parts = c.in_ok-parts.ensures in
    constructor-done c.args.at (plain_ty c.args.ty) c.kind_of.result (map plain_code c.args.codes.items) c.in-Some.parts (plain_code c.in_ok-built.built) c.kind_of.ensures
    (there plain_exprs c.in_ok-parts.field-0 c.in-Some.parts (in_kind c.kind_of.result (map plain_code c.args.codes.items)) c.in-Some.is parts) made
