use Rattle.std.proofs.Common.{◌∙◌, ◌<◌, refl, sym, ap, length, sum_by, arith, rules}
use Rattle.std.proofs.lemmas.List.{take_all}
use Rattle.hl_meaning.specs.Layout.{words_of}
use Rattle.hl_meaning.specs.Stopping.{stopped}
use Rattle.hl_meaning.specs.Views.{plain_structs, plain_ty, plain_constant}
use Rattle.hl_meaning.proofs.WordSums.{stopped_sum_more, sum_by-map}
use Rattle.hl_meaning.proofs.statement_counting.constants_words.Goals as goal

pub loop-constant-init : goal.loop-constant-init
loop-constant-init c = refl

pub loop-constant-preserved : goal.loop-constant-preserved
loop-constant-preserved c =
    let xs = c.as_slice-constant-items.result.now in
    let within : c.loop-constant.constant-index < length xs = search rules in
    stopped_sum_more (λ x. words_of (plain_structs c.args.structs.now) (plain_ty x.variable.ty)) xs c.loop-constant.constant-index c.constant-item.result c.loop-constant.words c.stopped_words.result c.stop-words.result within c.constant-item.is c.loop-constant.invariant
    c.stopped_words.ensures (omega (arith, c.stop-words.ensures, c.saturating_add.ensures))

pub returns : goal.returns
returns c =
    let xs = c.as_slice-constant-items.result.now in
    c.loop-constant.invariant ∙ (ap (λ ys. stopped (sum_by (λ x. words_of (plain_structs c.args.structs.now) (plain_ty x.variable.ty)) ys)) (take_all c.loop-constant.constant-index xs (omega arith) ∙ c.as_slice-constant-items.ensures.value) ∙
    ap stopped (sym (sum_by-map (λ v. words_of (plain_structs c.args.structs.now) v.variable.ty) plain_constant c.args.constants.now)))
