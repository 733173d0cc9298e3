-- Stacks that are held with the top at the end.
use Rattle.std.proofs.Common.{◌≡◌, ◌∙◌, refl, sym, ap, subst, ℕ, true, suc, ◌+◌, ◌-◌, ◌<◌, ◌≤◌, List, [], ◌∷◌, ◌++◌, length, reverse, take, drop, get_or, arith, append_assoc, Result, Ok, Err, IfOk}
use Rattle.std.proofs.lemmas.List.{reverse-append, take_more}
use Rattle.std.proofs.Math.Seq.{drop-cons}
use Rattle.base_core.specs.declared.sequence.NoMemory.{NoMemory}
use Rattle.hl_lexer.specs.declared.terminal.Terminal.{Terminal}
use Rattle.hl_parser.specs.declared.act.Act.{Act}
use Rattle.hl_parser.specs.declared.act.Act.TheVariants as acts
use Rattle.hl_parser.specs.declared.symbol.Symbol.TheVariants as symbols
use Rattle.hl_parser.proofs.Moves.{if_true}
use Rattle.hl_parser.proofs.ReadStatements.{statement_never}
use Rattle.hl_parser.specs.declared.parser.Outcome.{Outcome}
use Rattle.hl_parser.specs.declared.parser.Outcome.TheVariants.{Reads, Yields, Refuses}
use Rattle.hl_parser.specs.declared.parser.Parser.{Parser}
use Rattle.hl_parser.specs.declared.symbol.Symbol.{Symbol}
use Rattle.hl_parser.specs.declared.values.Values.{Values}
use Rattle.hl_parser.specs.Held.{Did, Holds, Performed}
use Rattle.hl_parser.proofs.Runs.{NeverYields, perform-append}
use Rattle.hl_parser.specs.Machine.{Kept, Move, begins_statement, followed, on_statement, on_statements, perform_all, reads, refuses, yields}

pub pushed : (mine mine' symbols before : List Symbol) (left : ℕ) (d : Symbol) → 0 < left → left ≤ length symbols → mine' ≡ mine ++ get_or symbols (left - 1) d ∷ [] → reverse mine ≡ drop left symbols ++ before → reverse mine' ≡ drop (left - 1) symbols ++ before
pushed mine mine' symbols before left d some within e h =
    let x = get_or symbols (left - 1) d in
    let next : suc (left - 1) ≡ left = omega arith in
    let below : left - 1 < length symbols = omega arith in
    let front : drop (left - 1) symbols ≡ x ∷ drop left symbols = drop-cons symbols (left - 1) d below ∙ ap (λ n. x ∷ drop n symbols) next in
    ap reverse e ∙ (reverse-append mine (x ∷ []) ∙ (ap (λ ts. x ∷ ts) h ∙ ap (λ ts. ts ++ before) (sym front)))

pub performed_more : (acts : List Act) (i at : ℕ) (d : Act) (first mine mine' : Values) → i < length acts → Performed (take i acts) at first mine → Performed (get_or acts i d ∷ []) at mine mine' → Performed (take (i + 1) acts) at first mine'
performed_more acts i at d first mine mine' within h g values held =
    subst (Holds mine')
    (sym (ap (λ done. perform_all done at values) (take_more acts i d within) ∙ perform-append (take i acts) (get_or acts i d ∷ []) at values))
    (g (perform_all (take i acts) at values) (h values held))

-- symbols that are put in front of others, before what stands first is read

perform_none : (V : Kept) (at : ℕ) → perform_all [] at V ≡ V
perform_none V at = refl

pub did_followed : (x : Move) (more : List Symbol) (at : ℕ) (before middle after : Parser) (o : Outcome) → NeverYields x → middle.pending ≡ more ++ before.pending → Performed [] at before.values middle.values → Did x at middle after o → Did (followed x more) at before after o
did_followed (reads done pending) more at before middle after Reads never e p (f, g) =
    (f ∙ (ap (λ ts. pending ++ ts) e ∙ sym (append_assoc pending more before.pending)), λ values held. g values (p values held))
did_followed (reads done pending) more at before middle after Yields never e p h = absurd h
did_followed (reads done pending) more at before middle after Refuses never e p h = absurd h
did_followed (yields done) more at before middle after o never e p h = absurd never
did_followed refuses more at before middle after Reads never e p h = absurd h
did_followed refuses more at before middle after Yields never e p h = absurd h
did_followed refuses more at before middle after Refuses never e p h = tt

pub if_ok : {A E : Type 0} (r : Result A E) (P Q : A → Type 0) → ((a : A) → P a → Q a) → IfOk r P → IfOk r Q
if_ok (Ok a) P Q h p = h a p
if_ok (Err e) P Q h p = p

pub statements_did : (t next : Terminal) (at : ℕ) (before middle after : Parser) (r : Result Outcome NoMemory) → begins_statement t ≡ true → middle.pending ≡ (symbols.Make acts.Append ∷ symbols.Statements ∷ []) ++ before.pending → Performed [] at before.values middle.values → IfOk r (λ o. Did (on_statement t next) at middle after o) → IfOk r (λ o. Did (on_statements t next) at before after o)
statements_did t next at before middle after r begins e p h =
    if_ok r (λ o. Did (on_statement t next) at middle after o) (λ o. Did (on_statements t next) at before after o)
    (λ o k. subst (λ m. Did m at before after o) (sym (if_true (begins_statement t) (followed (on_statement t next) (symbols.Make acts.Append ∷ symbols.Statements ∷ [])) (yields []) begins))
    (did_followed (on_statement t next) (symbols.Make acts.Append ∷ symbols.Statements ∷ []) at before middle after o (statement_never t next) e p k))
    h
