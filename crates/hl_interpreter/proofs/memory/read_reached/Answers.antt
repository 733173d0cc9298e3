use Rattle.std.proofs.Common.{◌∙◌, ℕ, List, Err, ap, sym}
use Rattle.hl_meaning.specs.Layout.{kinds_of}
use Rattle.hl_meaning.specs.Views.{plain_structs}
use Rattle.hl_source.specs.Memory.{read_words}
use Rattle.hl_source.specs.Operations.{map_2, picked, word_as}
use Rattle.hl_source.specs.State.{after, goes_with}
use Rattle.hl_interpreter.specs.HeldPlaces.{plain_holder, plain_type}
use Rattle.hl_interpreter.specs.Runs.{context_of, state_of}
use Rattle.hl_interpreter.proofs.Exits.{memory-exit, stop-exit}
use Rattle.hl_interpreter.proofs.Meeting.{same, stops}
use Rattle.hl_interpreter.proofs.memory.read_reached.Goals as goal

pub returns-in_err-count : goal.returns-in_err-count
returns-in_err-count c = memory-exit (λ w. w) c.from_residual.result _ _ c.from_residual.ensures.1

pub returns-in_err-words : goal.returns-in_err-words
returns-in_err-words c =
    let context = c.args.context.now in
    let at = c.args.at in
    let e = c.in_err-words.field-0.0 in
    let s = state_of context.run.now.replies.now c.args.state.now in
    let t = state_of context.run.now.replies.now c.read_words.new.state in
    stop-exit (λ w. w) c.from_residual-in_err-words.result e t _ c.from_residual-in_err-words.ensures.1
    (stops (λ w. w) (λ w. w) e t _ (λ words u. goes_with (picked at.letters.now (map_2 word_as (kinds_of (plain_structs context.run.now.program.now.structs) (plain_type at.ty)) words)) u)
    (same (λ w. w) (Err e) t _ _ (ap (λ n. read_words (context_of context) (plain_holder c.args.holder) at.offset n s) c.in_ok-count.ensures) c.in_err-words.ensures))

pub returns-in_err-value : goal.returns-in_err-value
returns-in_err-value c = memory-exit (λ w. w) c.from_residual-in_err-value.result _ _ c.from_residual-in_err-value.ensures.1

pub returns : goal.returns
returns c =
    let context = c.args.context.now in
    let at = c.args.at in
    let s = state_of context.run.now.replies.now c.args.state.now in
    let t = state_of context.run.now.replies.now c.read_words.new.state in
    let value = λ (words : List ℕ). picked at.letters.now (map_2 word_as (kinds_of (plain_structs context.run.now.program.now.structs) (plain_type at.ty)) words) in
    ap (λ p. after p (λ words u. goes_with (value words) u)) (ap (λ n. read_words (context_of context) (plain_holder c.args.holder) at.offset n s) (sym c.in_ok-count.ensures) ∙ c.in_ok-words.ensures) ∙
    ap (λ v. goes_with v t) (sym (c.in_ok-value.ensures ∙ ap value c.as_slice.ensures.value))
