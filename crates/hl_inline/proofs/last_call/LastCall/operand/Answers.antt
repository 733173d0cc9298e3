use Rattle.std.proofs.Common.{arith}
use Rattle.hl_inline.proofs.AlongLemmas.{before-known, behind-known, here-known, none-known}
use Rattle.hl_inline.proofs.last_call.LastCall.operand.Goals as goal

pub returns-in_default : goal.returns-in_default
returns-in_default c = λ before path behind number_is is.
    none-known before path behind c.args.self.numbers.now c.args.number number_is is c.args.further c.searched.result c.in_default.ensures.cases c.searched.ensures

pub returns-then-number-last : goal.returns-then-number-last
returns-then-number-last c = λ before path behind number_is is.
    (behind-known before path behind c.args.self.numbers.now c.args.number number_is is c.args.further c.in-Some.inner.now c.in-Some.last.now c.in-Some.ensures.cases.0 (omega arith), tt)

pub returns-then-number-last-2 : goal.returns-then-number-last-2
returns-then-number-last-2 c = λ before path behind number_is is.
    here-known before path behind c.args.self.numbers.now c.args.number number_is is c.args.further c.searched-then-number-last-2.result c.in-Some.inner.now c.in-Some.last.now c.in-Some.ensures.cases.0 (omega arith) c.searched-then-number-last-2.ensures

pub returns : goal.returns
returns c = λ before path behind number_is is.
    before-known before path behind c.args.self.numbers.now c.args.number number_is is c.args.further c.searched-2.result c.in-Some.inner.now c.in-Some.last.now c.in-Some.ensures.cases.0 (omega arith) c.searched-2.ensures
