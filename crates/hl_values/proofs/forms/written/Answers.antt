use Rattle.hl_values.specs.Views.{plain_code}
use Rattle.hl_values.proofs.FormLemmas.{written-made}
use Rattle.hl_values.proofs.forms.written.Goals as goal

pub returns : goal.returns
returns c =
    let h = c.in_ok-made.ensures in
    let ty = c.in_ok-ty.ensures in
    written-made c.in_ok-ty.ty c.args.at c.args.to c.get.result.now c.into_inner.result c.args.op c.args.common c.args.value c.args.old (plain_code c.in_ok-made.made) ty c.get.ensures c.into_inner.ensures h
