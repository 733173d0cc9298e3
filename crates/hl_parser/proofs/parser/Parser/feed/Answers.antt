use Rattle.std.proofs.Common.{refl, ap, subst, length, arith}
use Rattle.hl_parser.specs.declared.parser.Parser.{Parser}
use Rattle.hl_parser.specs.Held.{Did}
use Rattle.hl_parser.specs.Machine.{move_of}
use Rattle.hl_parser.proofs.FeedFacts.{goes_reads, goes_refuses, goes_yields, yields_pending}
use Rattle.hl_parser.proofs.parser.Parser.feed.Goals as goal

pub returns-in-Reads : goal.returns-in-Reads
returns-in-Reads c = λ values held.
    let look = c.args.look in
    let middle : Parser = record { pending = c.pop.new.self; values = c.loop-symbol.self.values } in
    goes_reads c.args.self.now c.loop-symbol.self middle c.step.new.self c.in-Some.symbol look.at look.terminal look.next values
    (c.loop-symbol.invariant values held) c.in-Some.ensures refl
    (subst (λ o. Did (move_of c.in-Some.symbol look.terminal look.next) look.at middle c.step.new.self o) c.in-Reads.is c.in_ok-step.ensures)

pub loop-symbol-smaller : goal.loop-symbol-smaller
loop-symbol-smaller c =
    let look = c.args.look in
    let middle : Parser = record { pending = c.pop.new.self; values = c.loop-symbol.self.values } in
    let same = yields_pending (move_of c.in-Some.symbol look.terminal look.next) look.at middle c.step.new.self (subst (λ o. Did (move_of c.in-Some.symbol look.terminal look.next) look.at middle c.step.new.self o) c.in-Yields.is c.in_ok-step.ensures) in
    omega (arith, ap length same, ap length c.in-Some.ensures)

pub loop-symbol-preserved : goal.loop-symbol-preserved
loop-symbol-preserved c = λ values held.
    let look = c.args.look in
    let middle : Parser = record { pending = c.pop.new.self; values = c.loop-symbol.self.values } in
    goes_yields c.args.self.now c.loop-symbol.self middle c.step.new.self c.in-Some.symbol look.at look.terminal look.next values
    (c.loop-symbol.invariant values held) c.in-Some.ensures refl
    (subst (λ o. Did (move_of c.in-Some.symbol look.terminal look.next) look.at middle c.step.new.self o) c.in-Yields.is c.in_ok-step.ensures)

pub returns-in-Refuses : goal.returns-in-Refuses
returns-in-Refuses c = λ values held.
    let look = c.args.look in
    let middle : Parser = record { pending = c.pop.new.self; values = c.loop-symbol.self.values } in
    goes_refuses c.args.self.now c.loop-symbol.self middle c.step.new.self c.in-Some.symbol look.at look.terminal look.next values
    (c.loop-symbol.invariant values held) c.in-Some.ensures
    (subst (λ o. Did (move_of c.in-Some.symbol look.terminal look.next) look.at middle c.step.new.self o) c.in-Refuses.is c.in_ok-step.ensures)
