-- The words are read each at its place.
use Rattle.std.proofs.Common.{◌∙◌, ap, length, string_bytes, sym}
use Rattle.trace_driver.proofs.Asked.{asked, eight}
use Rattle.trace_driver.proofs.request.Request.from_words.Goals as goal

pub lane_of-requires : goal.lane_of-requires
lane_of-requires c =
    ap length c.as_slice.ensures.value ∙ eight string_bytes c.args.words.now c.in-Some-2.numbers c.if-words-lt-REPLIES.false (sym c.in_ok-numbers.ensures ∙ c.in-Some-2.is)

pub returns : goal.returns
returns c =
    asked string_bytes c.args.words.now c.if-words-lt-REPLIES.false c.index-words-0.result c.index-words-0-2.result c.index-words-9.result
    c.as_bytes.result.now c.in_ok-entry.entry c.as_str.result.now c.lane_of.result c.in-Some.turns c.in-Some-2.numbers c.as_slice.result.now c.in-Some-3.replies
    c.index-words-0.is c.as_bytes.ensures.value c.if-not-is_name.ensures c.index-words-0-2.is (c.in_ok-entry.ensures ∙ c.as_bytes-2.ensures.value)
    c.index-words-9.is c.as_str.ensures.value (sym c.count_of.ensures ∙ c.in-Some.is) (sym c.in_ok-numbers.ensures ∙ c.in-Some-2.is) c.as_slice.ensures.value c.lane_of.ensures
    (sym c.in_ok-replies.ensures ∙ c.in-Some-3.is)
