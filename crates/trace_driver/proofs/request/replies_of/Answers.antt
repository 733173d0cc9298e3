use Rattle.std.proofs.Common.{◌≡◌, ◌∙◌, ◌+◌, List, ap, drop, map, string_bytes, subst, sym}
use Rattle.lane_core.specs.declared.event.Reply.{Reply}
use Rattle.trace_driver.specs.Requests.{each_of, reply_of}
use Rattle.trace_driver.proofs.Eaches.{rest_fails, rest_more, with_rest}
use Rattle.trace_driver.proofs.request.replies_of.Goals as goal

pub returns-in-None : goal.returns-in-None
returns-in-None c =
    rest_fails reply_of string_bytes c.loop-word.replies c.args.words.now c.loop-word.word-index c.word-item.result (each_of reply_of (map string_bytes c.args.words.now))
    c.loop-word-test.true c.word-item.is (ap reply_of (sym c.as_str.ensures.value) ∙ sym c.in-None.ensures) c.loop-word.invariant

pub loop-word-preserved : goal.loop-word-preserved
loop-word-preserved c =
    subst (λ (done : List Reply). with_rest reply_of string_bytes done (drop (c.loop-word.word-index + 1) c.args.words.now) ≡ each_of reply_of (map string_bytes c.args.words.now)) (sym c.in_ok-push-in-Some.ensures.ok)
    (rest_more reply_of string_bytes c.loop-word.replies c.args.words.now c.loop-word.word-index c.word-item.result c.in-Some.reply (each_of reply_of (map string_bytes c.args.words.now))
    c.loop-word-test.true c.word-item.is (ap reply_of (sym c.as_str.ensures.value) ∙ sym c.in-Some.ensures) c.loop-word.invariant)
