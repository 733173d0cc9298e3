use Rattle.std.proofs.Common.{◌∙◌, sym, subst, ℕ, ◌≤◌, List, length, take, drop}
use Rattle.std.specs.List.{AllPass}
use Rattle.std.proofs.lemmas.List.{take_rest}
use Rattle.hl_lexer.specs.Bytes.{Ends, is_no_line_feed}
use Rattle.hl_lexer.specs.Scanning.{FirstClosing, NoClosing}
use Rattle.hl_lexer.proofs.SpaceFacts.{block_space, line_space, no_second, no_slash, unclosed}
use Rattle.hl_lexer.proofs.space.comment_of.Goals as goal

pub returns-then-second-eq47 : goal.returns-then-second-eq47
returns-then-second-eq47 c =
    let rest = c.args.rest.now in
    let n = c.line_length.result in
    let body = take_rest rest 2 in
    line_space rest n
    (sym c.byte_at.ensures ∙ c.if-byte_at-ne47.false)
    (sym c.byte_at-second.ensures ∙ c.if-second-eq47.true)
    (subst (λ (bs : List ℕ). n ≤ length bs) body c.line_length.ensures.within)
    (subst (λ bs. AllPass is_no_line_feed (take n bs)) body c.line_length.ensures.line)
    (subst (λ bs. Ends is_no_line_feed (drop n bs)) body c.line_length.ensures.end)

pub returns-in-Some : goal.returns-in-Some
returns-in-Some c =
    let rest = c.args.rest.now in
    let n = c.in-Some.length in
    block_space rest n
    (sym c.byte_at.ensures ∙ c.if-byte_at-ne47.false)
    (sym c.byte_at-second.ensures ∙ c.if-second-ne42.false)
    (subst (λ bs. FirstClosing bs n) (take_rest rest 2) c.in-Some.ensures)

pub returns-in-None : goal.returns-in-None
returns-in-None c =
    unclosed c.args.rest.now
    (sym c.byte_at.ensures ∙ c.if-byte_at-ne47.false)
    (sym c.byte_at-second.ensures ∙ c.if-second-ne42.false)
    (subst NoClosing (take_rest c.args.rest.now 2) c.in-None.ensures)

pub returns-then-byte_at-ne47 : goal.returns-then-byte_at-ne47
returns-then-byte_at-ne47 c = no_slash c.args.rest.now (λ e. c.if-byte_at-ne47.true (c.byte_at.ensures ∙ e))

pub returns-then-second-ne42 : goal.returns-then-second-ne42
returns-then-second-ne42 c =
    no_second c.args.rest.now
    (λ e. c.if-second-eq47.false (c.byte_at-second.ensures ∙ e))
    (λ e. c.if-second-ne42.true (c.byte_at-second.ensures ∙ e))
