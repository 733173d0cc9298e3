use Rattle.std.proofs.Common.{◌∙◌, ◌<◌, refl, sym, ap, length, sum_by, arith, rules}
use Rattle.std.proofs.lemmas.List.{take_all}
use Rattle.hl_meaning.specs.Layout.{words_of}
use Rattle.hl_meaning.specs.Stopping.{stopped}
use Rattle.hl_meaning.specs.Views.{plain_structs, plain_ty, plain_variable}
use Rattle.hl_meaning.proofs.WordSums.{stopped_sum_more, sum_by-map}
use Rattle.hl_meaning.proofs.statement_counting.variables_words.Goals as goal

pub loop-variable-init : goal.loop-variable-init
loop-variable-init c = refl

pub loop-variable-preserved : goal.loop-variable-preserved
loop-variable-preserved c =
    let xs = c.as_slice-variable-items.result.now in
    let within : c.loop-variable.variable-index < length xs = search rules in
    stopped_sum_more (λ x. words_of (plain_structs c.args.structs.now) (plain_ty x.ty)) xs c.loop-variable.variable-index c.variable-item.result c.loop-variable.words c.stopped_words.result c.stop-words.result within c.variable-item.is c.loop-variable.invariant
    c.stopped_words.ensures (omega (arith, c.stop-words.ensures, c.saturating_add.ensures))

pub returns : goal.returns
returns c =
    let xs = c.as_slice-variable-items.result.now in
    c.loop-variable.invariant ∙ (ap (λ ys. stopped (sum_by (λ x. words_of (plain_structs c.args.structs.now) (plain_ty x.ty)) ys)) (take_all c.loop-variable.variable-index xs (omega arith) ∙ c.as_slice-variable-items.ensures.value) ∙
    ap stopped (sym (sum_by-map (λ v. words_of (plain_structs c.args.structs.now) v.ty) plain_variable c.args.variables.now)))
