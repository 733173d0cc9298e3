use Rattle.hl_types.proofs.MadeForms.{append_both}
use Rattle.hl_types.proofs.made.append.Goals as goal

pub returns : goal.returns
returns c = append_both c.args.made c.args.more c.in-Some.made c.in-Some-more.more c.append.new.self c.in-Some.is c.in-Some-more.is c.in_ok-append.ensures
