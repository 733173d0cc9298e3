use Rattle.std.proofs.Common.{◌≡◌, ◌∙◌, [], Err, ap, false, sym, true}
use Rattle.hl_meaning.specs.Trees.{place_type}
use Rattle.hl_meaning.specs.Views.{plain_location, plain_ty}
use Rattle.hl_source.specs.Expressions.{assigned}
use Rattle.hl_source.specs.Memory.{write_place}
use Rattle.hl_interpreter.specs.Runs.{context_of, state_of}
use Rattle.hl_interpreter.proofs.Assigning.{assigns-goes, assigns-second, assigns-third, place-type}
use Rattle.hl_interpreter.proofs.Exits.{stop-exit}
use Rattle.hl_interpreter.proofs.Meeting.{same}
use Rattle.hl_interpreter.proofs.assignments.assign.Goals as goal

pub returns-in_err-written : goal.returns-in_err-written
returns-in_err-written c =
    let context = context_of c.args.context.now in
    let s = state_of c.args.context.now.run.now.replies.now c.args.state.now in
    let t = state_of c.args.context.now.run.now.replies.now c.read_if.new.state in
    let common = plain_ty c.args.common.now in
    let to = plain_location c.args.to.now in
    let seen : assigned c.args.op common (plain_ty c.args.to.now.ty) c.as_slice.result.now c.args.words t ≡ assigned c.args.op common (place_type to) c.in_ok-before.before c.args.words t =
    ap (λ l. assigned c.args.op common (plain_ty c.args.to.now.ty) l c.args.words t) c.as_slice.ensures.value ∙ ap (λ y. assigned c.args.op common y c.in_ok-before.before c.args.words t) (sym (place-type c.args.to.now)) in
    let e = c.in_err-written.field-0.0 in
    stop-exit (λ w. w) c.from_residual-in_err-written.result e t _ c.from_residual-in_err-written.ensures.1
    (assigns-second context to c.args.op common c.args.old c.args.indexes.now c.args.words s t c.in_ok-before.before c.in_ok-before.ensures e
    (same (λ w. w) (Err e) t _ _ seen (c.in_err-written.ensures t)))

pub returns-in_err-write_place : goal.returns-in_err-write_place
returns-in_err-write_place c =
    let context = context_of c.args.context.now in
    let s = state_of c.args.context.now.run.now.replies.now c.args.state.now in
    let t = state_of c.args.context.now.run.now.replies.now c.read_if.new.state in
    let common = plain_ty c.args.common.now in
    let to = plain_location c.args.to.now in
    let seen : assigned c.args.op common (plain_ty c.args.to.now.ty) c.as_slice.result.now c.args.words t ≡ assigned c.args.op common (place_type to) c.in_ok-before.before c.args.words t =
    ap (λ l. assigned c.args.op common (plain_ty c.args.to.now.ty) l c.args.words t) c.as_slice.ensures.value ∙ ap (λ y. assigned c.args.op common y c.in_ok-before.before c.args.words t) (sym (place-type c.args.to.now)) in
    let u = state_of c.args.context.now.run.now.replies.now c.write_place.new.state in
    let w = c.in_ok-written.written in
    let e = c.in_err-write_place.field-0.0 in
    stop-exit (λ w. w) c.from_residual-in_err-write_place.result e u _ c.from_residual-in_err-write_place.ensures.1
    (assigns-third context to c.args.op common c.args.old c.args.indexes.now c.args.words s t c.in_ok-before.before c.in_ok-before.ensures w (sym seen ∙ c.in_ok-written.ensures t) u e
    (same {B = Unit {0}} (λ _. []) (Err e) u _ _ (ap (λ l. write_place context to c.args.indexes.now l t) c.as_slice-2.ensures.value) c.in_err-write_place.ensures))

pub returns-then-old : goal.returns-then-old
returns-then-old c =
    let context = context_of c.args.context.now in
    let s = state_of c.args.context.now.run.now.replies.now c.args.state.now in
    let t = state_of c.args.context.now.run.now.replies.now c.read_if.new.state in
    let common = plain_ty c.args.common.now in
    let to = plain_location c.args.to.now in
    let seen : assigned c.args.op common (plain_ty c.args.to.now.ty) c.as_slice.result.now c.args.words t ≡ assigned c.args.op common (place_type to) c.in_ok-before.before c.args.words t =
    ap (λ l. assigned c.args.op common (plain_ty c.args.to.now.ty) l c.args.words t) c.as_slice.ensures.value ∙ ap (λ y. assigned c.args.op common y c.in_ok-before.before c.args.words t) (sym (place-type c.args.to.now)) in
    let u = state_of c.args.context.now.run.now.replies.now c.write_place.new.state in
    let w = c.in_ok-written.written in
    assigns-goes context to c.args.op common c.args.old c.args.indexes.now c.args.words s t c.in_ok-before.before c.in_ok-before.ensures w (sym seen ∙ c.in_ok-written.ensures t) u true
    (ap (λ l. write_place context to c.args.indexes.now l t) (sym c.as_slice-2.ensures.value) ∙ c.in_ok-write_place.ensures) c.if-old.true

pub returns-else-old : goal.returns-else-old
returns-else-old c =
    let context = context_of c.args.context.now in
    let s = state_of c.args.context.now.run.now.replies.now c.args.state.now in
    let t = state_of c.args.context.now.run.now.replies.now c.read_if.new.state in
    let common = plain_ty c.args.common.now in
    let to = plain_location c.args.to.now in
    let seen : assigned c.args.op common (plain_ty c.args.to.now.ty) c.as_slice.result.now c.args.words t ≡ assigned c.args.op common (place_type to) c.in_ok-before.before c.args.words t =
    ap (λ l. assigned c.args.op common (plain_ty c.args.to.now.ty) l c.args.words t) c.as_slice.ensures.value ∙ ap (λ y. assigned c.args.op common y c.in_ok-before.before c.args.words t) (sym (place-type c.args.to.now)) in
    let u = state_of c.args.context.now.run.now.replies.now c.write_place.new.state in
    let w = c.in_ok-written.written in
    assigns-goes context to c.args.op common c.args.old c.args.indexes.now c.args.words s t c.in_ok-before.before c.in_ok-before.ensures w (sym seen ∙ c.in_ok-written.ensures t) u false
    (ap (λ l. write_place context to c.args.indexes.now l t) (sym c.as_slice-2.ensures.value) ∙ c.in_ok-write_place.ensures) c.if-old.false
