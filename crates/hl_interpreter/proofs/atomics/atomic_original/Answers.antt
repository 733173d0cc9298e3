use Rattle.std.proofs.Common.{◌∙◌, ap, sym}
use Rattle.hl_meaning.specs.Views.{plain_target}
use Rattle.hl_meaning.proofs.Plain.{plain_target-Bytes, plain_target-Place}
use Rattle.hl_source.specs.Expressions.{atomic_original}
use Rattle.hl_source.specs.Memory.{atomic_word, buffer_atomic}
use Rattle.hl_source.specs.Offsets.{Place, slot_of}
use Rattle.hl_source.specs.State.{asks_word}
use Rattle.hl_interpreter.specs.Runs.{context_of, state_of}
use Rattle.hl_interpreter.proofs.Exits.{memory-exit}
use Rattle.hl_interpreter.proofs.Meeting.{same}
use Rattle.hl_interpreter.proofs.atomics.atomic_original.Goals as goal

pub returns-in_err-place-in-Place : goal.returns-in_err-place-in-Place
returns-in_err-place-in-Place c = memory-exit (λ w. w) c.from_residual.result _ _ c.from_residual.ensures.1

pub returns-in_ok-place-in-Place : goal.returns-in_ok-place-in-Place
returns-in_ok-place-in-Place c =
    let context = context_of c.args.context.now in
    let s = state_of c.args.context.now.run.now.replies.now c.args.state.now in
    same (λ w. w) c.atomic_word.result _ _ _
    (ap (λ (p : Place). atomic_word context p.holder p.reached.offset c.args.kind c.args.compare c.args.word s) c.in_ok-place-in-Place.ensures ∙
    sym (ap (λ t. atomic_original context t c.args.kind c.args.indexes.now c.args.compare c.args.word s) (ap plain_target c.in-Place.is ∙ plain_target-Place c.in-Place.location)))
    c.atomic_word.ensures

pub returns-in-Bytes : goal.returns-in-Bytes
returns-in-Bytes c =
    let context = context_of c.args.context.now in
    let s = state_of c.args.context.now.run.now.replies.now c.args.state.now in
    same (λ w. w) c.ask_word.result _ _ _
    (ap (λ e. asks_word e s) (c.buffer_atomic.ensures ∙ (ap (λ slot. buffer_atomic slot c.word_at-address.result 0 c.args.kind c.args.compare c.args.word) c.slot_of-slot.ensures ∙
    ap (λ address. buffer_atomic (slot_of context c.in-Bytes.resource) address 0 c.args.kind c.args.compare c.args.word) c.word_at-address.ensures)) ∙
    sym (ap (λ t. atomic_original context t c.args.kind c.args.indexes.now c.args.compare c.args.word s) (ap plain_target c.in-Bytes.is ∙ plain_target-Bytes c.in-Bytes.resource _)))
    c.ask_word.ensures
