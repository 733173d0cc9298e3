use Rattle.std.proofs.Common.{◌∙◌, ◌∷◌, ◌++◌, [], ap}
use Rattle.std.proofs.lemmas.List.{replicate_more}
use Rattle.hl_interpreter.proofs.components.repeat_word.Goals as goal

pub loop-done-preserved : goal.loop-done-preserved
loop-done-preserved c = c.in_ok-push.ensures.ok ∙ (ap (λ l. l ++ c.args.word ∷ []) c.loop-done.invariant ∙ replicate_more c.loop-done._done c.args.word)
