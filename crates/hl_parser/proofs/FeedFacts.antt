-- A token that is fed to the parser, as to the machine.
use Rattle.std.proofs.Common.{◌≡◌, ◌∙◌, sym, ap, subst, ℕ, List, [], ◌∷◌, Result, IfOk}
use Rattle.base_core.specs.declared.sequence.NoMemory.{NoMemory}
use Rattle.hl_lexer.specs.declared.terminal.Terminal.{Terminal}
use Rattle.hl_parser.specs.declared.parser.Outcome.{Outcome}
use Rattle.hl_parser.specs.declared.parser.Outcome.TheVariants.{Reads, Yields, Refuses}
use Rattle.hl_parser.specs.declared.parser.Parser.{Parser}
use Rattle.hl_parser.specs.declared.step.Fed.TheVariants.{Read, Spent, Refused}
use Rattle.hl_parser.specs.declared.symbol.Symbol.{Symbol}
use Rattle.hl_parser.specs.declared.symbol.Symbol.TheVariants as symbols
use Rattle.hl_parser.specs.declared.values.Values.{Values}
use Rattle.hl_parser.proofs.Terminals.{only_itself}
use Rattle.hl_parser.specs.Held.{Did, FedIs, Holds}
use Rattle.hl_parser.specs.Machine.{Fed, Kept, Move, after_move, feed, move_of, only, perform_all, reads, refuses, yields}

pub skip_did : (t u next : Terminal) (at : ℕ) (before after : Parser) (r : Result Outcome NoMemory) → t ≡ u → IfOk r (λ o. Did (reads [] []) at before after o) → IfOk r (λ o. Did (move_of (symbols.Skip u) t next) at before after o)
skip_did t u next at before after r e h =
    subst (λ x. IfOk r (λ o. Did (only x u (reads [] [])) at before after o)) (sym e)
    (subst (λ m. IfOk r (λ o. Did m at before after o)) (sym (only_itself {move = reads [] []} u)) h)

-- the machine goes on as from the start of a token
pub record GoesOn (first now : Parser) (at : ℕ) (t next : Terminal) (values : Kept) : Type 0 where
  pub kept_now : Kept
  pub same : feed first.pending values at t next ≡ feed now.pending kept_now at t next
  pub held : Holds now.values kept_now

-- a symbol was taken
record Took (s : Symbol) (x : Move) (at : ℕ) (t next : Terminal) (pending : List Symbol) (before : Values) (after : Parser) (values : Kept) : Type 0 where
  after_values : Kept
  same : after_move x at pending values (λ v. feed pending v at t next) ≡ feed after.pending after_values at t next
  held : Holds after.values after_values

took_yields : (s : Symbol) (x : Move) (at : ℕ) (t next : Terminal) (middle after : Parser) (values : Kept) → Did x at middle after Yields → Holds middle.values values → Took s x at t next middle.pending middle.values after values
took_yields s (reads done more) at t next middle after values h held = absurd h
took_yields s (yields done) at t next middle after values (e, p) held = record {
  after_values = perform_all done at values;
  same = ap (λ ts. feed ts (perform_all done at values) at t next) (sym e);
  held = p values held;
}
took_yields s refuses at t next middle after values h held = absurd h

pub goes_yields : (first now middle after : Parser) (s : Symbol) (at : ℕ) (t next : Terminal) (values : Kept) → GoesOn first now at t next values → now.pending ≡ s ∷ middle.pending → middle.values ≡ now.values → Did (move_of s t next) at middle after Yields → GoesOn first after at t next values
goes_yields first now middle after s at t next values g e f h =
    let took = took_yields s (move_of s t next) at t next middle after g.kept_now h (subst (λ v. Holds v g.kept_now) (sym f) g.held) in
    record {
      kept_now = took.after_values;
      same = g.same ∙ (ap (λ ts. feed ts g.kept_now at t next) e ∙ took.same);
      held = took.held;
    }

fed_reads : (s : Symbol) (x : Move) (at : ℕ) (middle after : Parser) (values : Kept) (go : Kept → Fed) → Did x at middle after Reads → Holds middle.values values → FedIs (after_move x at middle.pending values go) after Read
fed_reads s (reads done more) at middle after values go (e, p) held = (e, p values held)
fed_reads s (yields done) at middle after values go h held = absurd h
fed_reads s refuses at middle after values go h held = absurd h

pub goes_reads : (first now middle after : Parser) (s : Symbol) (at : ℕ) (t next : Terminal) (values : Kept) → GoesOn first now at t next values → now.pending ≡ s ∷ middle.pending → middle.values ≡ now.values → Did (move_of s t next) at middle after Reads → FedIs (feed first.pending values at t next) after Read
goes_reads first now middle after s at t next values g e f h =
    subst (λ x. FedIs x after Read) (sym (g.same ∙ ap (λ ts. feed ts g.kept_now at t next) e))
    (fed_reads s (move_of s t next) at middle after g.kept_now (λ v. feed middle.pending v at t next) h (subst (λ v. Holds v g.kept_now) (sym f) g.held))

fed_refuses : (s : Symbol) (x : Move) (at : ℕ) (middle after : Parser) (values : Kept) (go : Kept → Fed) → Did x at middle after Refuses → FedIs (after_move x at middle.pending values go) after Refused
fed_refuses s (reads done more) at middle after values go h = absurd h
fed_refuses s (yields done) at middle after values go h = absurd h
fed_refuses s refuses at middle after values go h = tt

pub goes_refuses : (first now middle after : Parser) (s : Symbol) (at : ℕ) (t next : Terminal) (values : Kept) → GoesOn first now at t next values → now.pending ≡ s ∷ middle.pending → Did (move_of s t next) at middle after Refuses → FedIs (feed first.pending values at t next) after Refused
goes_refuses first now middle after s at t next values g e h =
    subst (λ x. FedIs x after Refused) (sym (g.same ∙ ap (λ ts. feed ts g.kept_now at t next) e))
    (fed_refuses s (move_of s t next) at middle after g.kept_now (λ v. feed middle.pending v at t next) h)

pub goes_spent : (first now after : Parser) (at : ℕ) (t next : Terminal) (values : Kept) → GoesOn first now at t next values → now.pending ≡ [] → after.values ≡ now.values → FedIs (feed first.pending values at t next) after Spent
goes_spent first now after at t next values g e f =
    subst (λ x. FedIs x after Spent) (sym (g.same ∙ ap (λ ts. feed ts g.kept_now at t next) e)) (subst (λ v. Holds v g.kept_now) (sym f) g.held)

pub yields_pending : (x : Move) (at : ℕ) (before after : Parser) → Did x at before after Yields → after.pending ≡ before.pending
yields_pending (reads done more) at before after h = absurd h
yields_pending (yields done) at before after (e, p) = e
yields_pending refuses at before after h = absurd h
