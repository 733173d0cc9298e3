use Rattle.std.proofs.Common.{◌≡◌, ◌<◌, ◌≤◌, ℕ, List, sym, subst, IfOk, IfErr, length, arith}
use Rattle.hl_lexer.specs.declared.terminal.Terminal.TheVariants.{Unlisted}
use Rattle.hl_lexer.specs.declared.token.Token.{Token}
use Rattle.hl_parser.specs.Grammar.{IsSyntaxFault}
use Rattle.hl_parser.specs.Held.{FedIs, Holds}
use Rattle.hl_parser.specs.Machine.{Kept, feed}
use Rattle.hl_parser.specs.Parsing.{IsAnswer, IsFault, terminals_of}
use Rattle.hl_parser.specs.Views.{plain_of}
use Rattle.hl_parser.proofs.ParseFacts.{answered_fault, answered_tree, fault_behind, fault_here, held_at_end, length-terminals, reached_more}
use Rattle.hl_parser.proofs.read.read.Goals as goal

pub returns-in_default : goal.returns-in_default
returns-in_default c =
    let ts = terminals_of c.args.tokens.now in
    let within : c.loop-at.at < length ts = omega (arith, c.loop-at-test.true, length-terminals c.args.tokens.now) in
    let stands = c.loop-at.invariant in
    record {
      tree = tt;
      fault = fault_here ts c.loop-at.at c.loop-at.next c.terminal_at-next-in-loop-at.result c.loop-at.parser c.feed.new.self c.in_ok-feed.field-0
          within stands.next_is stands.reached c.in_ok-feed.ensures c.in_default.not-Read;
    }

pub loop-at-preserved : goal.loop-at-preserved
loop-at-preserved c =
    let ts = terminals_of c.args.tokens.now in
    let within : c.loop-at.at < length ts = omega (arith, c.loop-at-test.true, length-terminals c.args.tokens.now) in
    let stands = c.loop-at.invariant in
    record {
      reached = reached_more ts c.loop-at.at c.loop-at.next c.terminal_at-next-in-loop-at.result c.loop-at.parser c.feed.new.self
          within stands.next_is c.terminal_at-next-in-loop-at.ensures stands.reached
          (subst (λ o. (values : Kept) → Holds c.loop-at.parser.values values → FedIs (feed c.loop-at.parser.pending values c.loop-at.at c.loop-at.next c.terminal_at-next-in-loop-at.result) c.feed.new.self o) c.in-Read.is c.in_ok-feed.ensures);
      next_is = c.terminal_at-next-in-loop-at.ensures;
    }

whole : (tokens : List Token) (at : ℕ) → at ≤ length tokens → length tokens ≤ at → at ≡ length (terminals_of tokens)
whole tokens at within past = omega (arith, length-terminals tokens)

pub finish-requires : goal.finish-requires
finish-requires c =
    let held = held_at_end (terminals_of c.args.tokens.now) c.loop-at.at c.loop-at.parser c.feed-2.new.self
    (whole c.args.tokens.now c.loop-at.at (omega (arith, c.loop-at.auto.at-end)) c.loop-at-test.false) c.loop-at.invariant.reached
    (subst (λ o. (values : Kept) → Holds c.loop-at.parser.values values → FedIs (feed c.loop-at.parser.pending values 0 Unlisted Unlisted) c.feed-2.new.self o) c.in-Spent.is c.in_ok-feed-2.ensures) in
    (held.tree, held.held)

pub returns-in-Spent-clause-tree : goal.returns-in-Spent-clause-tree
returns-in-Spent-clause-tree c =
    let ts = terminals_of c.args.tokens.now in
    let held = held_at_end ts c.loop-at.at c.loop-at.parser c.feed-2.new.self
    (whole c.args.tokens.now c.loop-at.at (omega (arith, c.loop-at.auto.at-end)) c.loop-at-test.false) c.loop-at.invariant.reached
    (subst (λ o. (values : Kept) → Holds c.loop-at.parser.values values → FedIs (feed c.loop-at.parser.pending values 0 Unlisted Unlisted) c.feed-2.new.self o) c.in-Spent.is c.in_ok-feed-2.ensures) in
    subst (λ answer. IfOk answer (λ tree. IsAnswer ts (plain_of tree))) (sym c.ok_or.ensures.value)
    (answered_tree ts held.tree c.finish.result held.spelled (c.finish.ensures held.tree held.held))

pub returns-in-Spent-clause-fault : goal.returns-in-Spent-clause-fault
returns-in-Spent-clause-fault c =
    let ts = terminals_of c.args.tokens.now in
    let held = held_at_end ts c.loop-at.at c.loop-at.parser c.feed-2.new.self
    (whole c.args.tokens.now c.loop-at.at (omega (arith, c.loop-at.auto.at-end)) c.loop-at-test.false) c.loop-at.invariant.reached
    (subst (λ o. (values : Kept) → Holds c.loop-at.parser.values values → FedIs (feed c.loop-at.parser.pending values 0 Unlisted Unlisted) c.feed-2.new.self o) c.in-Spent.is c.in_ok-feed-2.ensures) in
    subst (λ answer. IfErr answer (IsFault ts)) (sym c.ok_or.ensures.value)
    (answered_fault ts held.tree c.finish.result held.spelled (c.finish.ensures held.tree held.held))

pub returns-in_default-2 : goal.returns-in_default-2
returns-in_default-2 c =
    let ts = terminals_of c.args.tokens.now in
    record {
      tree = tt;
      fault = subst (λ n. IsSyntaxFault ts n) (length-terminals c.args.tokens.now)
          (fault_behind ts c.loop-at.at c.loop-at.parser c.feed-2.new.self c.in_ok-feed-2.field-0
          (whole c.args.tokens.now c.loop-at.at (omega (arith, c.loop-at.auto.at-end)) c.loop-at-test.false)
          c.loop-at.invariant.reached c.in_ok-feed-2.ensures c.in_default-2.not-Spent);
    }
