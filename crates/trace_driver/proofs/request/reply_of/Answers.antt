use Rattle.trace_driver.proofs.Replies.{reply_is}
use Rattle.trace_driver.proofs.request.reply_of.Goals as goal

pub returns : goal.returns
returns c =
    reply_is c.args.text.now c.at_comma.result.1.now c.at_comma-2.result.1.now c.at_comma.result.0.now c.at_comma-2.result.0.now c.at_comma-3.result.0.now c.at_comma-3.result.1.now c.reply_with.result
    c.at_comma.ensures.before c.at_comma.ensures.behind c.at_comma-2.ensures.before c.at_comma-2.ensures.behind c.at_comma-3.ensures.before c.at_comma-3.ensures.behind c.reply_with.ensures
