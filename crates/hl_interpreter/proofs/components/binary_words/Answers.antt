use Rattle.std.proofs.Common.{◌∙◌, arith, ap, sym, get_or}
use Rattle.std.proofs.lemmas.List.{get_or_default}
use Rattle.hl_source.specs.Operations.{binary_word, binary_words}
use Rattle.hl_source.specs.State.{gives}
use Rattle.hl_interpreter.proofs.Exits.{fault-exit, memory-exit}
use Rattle.hl_interpreter.proofs.Values.{all-done, all-fault, all-pushed, all_behind, all_behind-none}
use Rattle.hl_interpreter.proofs.components.binary_words.Goals as goal

pub loop-at-init : goal.loop-at-init
loop-at-init c =
    let whole = binary_words c.args.op c.args.kind c.args.left.now c.args.right.now in
    all_behind-none whole ∙ ap (λ l. all_behind l whole) (sym c.new-result.ensures)

pub loop-at-preserved : goal.loop-at-preserved
loop-at-preserved c =
    let left = c.args.left.now in
    let right = c.args.right.now in
    let i = c.loop-at.at in
    let x = get_or left i 0 in
    let y = get_or right i 0 in
    all-pushed (binary_word c.args.op c.args.kind) left right _ i x y c.loop-at.result (omega arith) (get_or_default left i 0 x (omega arith)) (get_or_default right i 0 y (omega arith)) c.loop-at.invariant
    c.in_ok-word.word _ (sym c.in_ok-word.was ∙ c.binary_word.ensures) c.in_ok-push.ensures.ok

pub returns-in_err-word : goal.returns-in_err-word
returns-in_err-word c = λ s.
    let left = c.args.left.now in
    let right = c.args.right.now in
    let i = c.loop-at.at in
    let x = get_or left i 0 in
    let y = get_or right i 0 in
    let whole = all-fault (binary_word c.args.op c.args.kind) left right (binary_words c.args.op c.args.kind left right) i x y c.loop-at.result (omega arith) (get_or_default left i 0 x (omega arith)) (get_or_default right i 0 y (omega arith)) c.loop-at.invariant
    c.in_err-word.field-0.0 (sym c.in_err-word.was ∙ c.binary_word.ensures) in
    fault-exit (λ words. words) _ c.in_err-word.field-0.0 s _ c.from_residual.ensures.1 (ap (λ r. gives r s) whole)

pub returns-in_err-push : goal.returns-in_err-push
returns-in_err-push c = λ s. memory-exit (λ words. words) _ s _ c.from_residual-in_err-push.ensures.1

pub returns : goal.returns
returns c = λ s.
    ap (λ r. gives r s) (all-done (binary_word c.args.op c.args.kind) c.args.left.now c.args.right.now _ c.loop-at.at c.loop-at.result (omega arith) c.loop-at.invariant)
