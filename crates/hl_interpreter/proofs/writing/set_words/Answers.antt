use Rattle.std.proofs.Common.{◌∙◌, ℕ, List, [], Err, ap, arith, get_or, length, subst, sym}
use Rattle.std.proofs.lemmas.List.{get_or_default}
use Rattle.std.specs.List.{zip}
use Rattle.lane_core.specs.Words.{wrapping_add}
use Rattle.hl_source.specs.Memory.{word_offsets, write_variable_word}
use Rattle.hl_source.specs.State.{Progress, State, each, goes_with, no_value, with_variable}
use Rattle.hl_interpreter.specs.Runs.{Does}
use Rattle.hl_interpreter.proofs.Cells.{variable-same, variable-twice, variable-written, variables-kept}
use Rattle.hl_interpreter.proofs.Exits.{effect, stop-exit}
use Rattle.hl_interpreter.proofs.ListLoops.{done-end, done-stops, done-turn, length-written, written-next}
use Rattle.hl_interpreter.proofs.writing.set_words.Goals as goal

abbrev part_of : (number : ℕ) → ℕ × ℕ → State → Progress (List ℕ)
part_of number w = write_variable_word number w.0 w.1

abbrev whole_of : (number offset : ℕ) (words : List ℕ) → State → Progress (List ℕ)
whole_of number offset words s = no_value (each (part_of number) (zip (word_offsets offset (length words)) words) s)

pub loop-more-init : goal.loop-more-init
loop-more-init c = λ number s there is.
    ap (λ t. no_value (each (λ w. write_variable_word number w.0 w.1) (zip (word_offsets c.args.offset (length c.args.words.now)) c.args.words.now) t)) (sym (variable-same number c.args.variable.now s is))

pub loop-more-preserved : goal.loop-more-preserved
loop-more-preserved c = λ number s there is.
    let words = c.args.words.now in
    let offset = c.args.offset in
    let i = c.loop-more.more in
    let word = get_or words i 0 in
    let old = c.loop-more.variable in
    let new = c.set_word.new.variable in
    let before : State = with_variable number old s in
    done-turn (part_of number) (zip (word_offsets offset (length words)) words) (whole_of number offset words s) i (wrapping_add offset i, word) before (with_variable number new s)
    (written-next offset words i word c.loop-more-test.true (get_or_default words i 0 word c.loop-more-test.true)) (c.loop-more.invariant number s there is)
    (
    (c.in_ok-set_word.ensures number before (variables-kept number number old s there) (variable-written number old s there) ∙ ap (goes_with []) (variable-twice number old new s)))

pub returns-in_err-set_word : goal.returns-in_err-set_word
returns-in_err-set_word c = λ number s there is.
    let words = c.args.words.now in
    let offset = c.args.offset in
    let i = c.loop-more.more in
    let word = get_or words i 0 in
    let old = c.loop-more.variable in
    let new = c.set_word.new.variable in
    let e = c.in_err-set_word.field-0.0 in
    let before : State = with_variable number old s in
    stop-exit effect c.from_residual.result e (with_variable number new s) (whole_of number offset words s) c.from_residual.ensures.1
    (done-stops (part_of number) (zip (word_offsets offset (length words)) words) (whole_of number offset words s) effect i (wrapping_add offset i, word) e before (with_variable number new s)
    (written-next offset words i word c.loop-more-test.true (get_or_default words i 0 word c.loop-more-test.true)) (c.loop-more.invariant number s there is)
    (subst (λ t. Does (Err e) t (no_value (write_variable_word number (wrapping_add offset i) word before))) (variable-twice number old new s)
    (c.in_err-set_word.ensures number before (variables-kept number number old s there) (variable-written number old s there))))

pub returns : goal.returns
returns c = λ number s there is.
    let words = c.args.words.now in
    let offset = c.args.offset in
    done-end (part_of number) (zip (word_offsets offset (length words)) words) (whole_of number offset words s) c.loop-more.more (with_variable number c.loop-more.variable s)
    (omega (arith, length-written offset words)) (c.loop-more.invariant number s there is)
