-- Tokens are read to their end, and what is answered is the only right answer.
use Rattle.std.proofs.Common.{◌≡◌, ◌≢◌, ◌∙◌, refl, sym, ap, subst, ℕ, zero, suc, ◌+◌, ◌<◌, ◌≤◌, inl, inr, Option, None, Some, List, [], ◌∷◌, ◌++◌, length, take, drop, get_or, Result, Ok, Err, IfOk, IfErr, arith, append_assoc, Bool, true, false, nat_lt, ◌⊎◌}
use Rattle.std.proofs.lemmas.Bool.{ltb-false, ltb-true}
use Rattle.std.proofs.lemmas.List.{take-append-drop}
use Rattle.std.specs.Option.{ok_or}
use Rattle.hl_lexer.specs.declared.terminal.Terminal.{Terminal}
use Rattle.hl_lexer.specs.declared.terminal.Terminal.TheVariants.{Unlisted}
use Rattle.hl_lexer.specs.declared.token.Token.{Token}
use Rattle.hl_lexer.specs.Terminals.{terminal_of}
use Rattle.hl_parser.specs.declared.fault.ParseFault.{ParseFault}
use Rattle.hl_parser.specs.declared.fault.ParseFault.TheVariants.{Syntax, TooDeep, Memory}
use Rattle.hl_parser.specs.declared.parser.Parser.{Parser}
use Rattle.hl_parser.specs.declared.step.Fed.{Fed}
use Rattle.hl_parser.specs.declared.step.Fed.TheVariants.{Read, Spent, Refused}
use Rattle.hl_parser.specs.declared.tree.Tree.{Tree}
use Rattle.hl_parser.specs.Grammar.{BeginsProgram, IsSyntaxFault, SpellsProgram}
use Rattle.hl_parser.specs.Held.{FedIs, Finishes, Holds}
use Rattle.hl_parser.specs.Machine.{Kept, feed, kept, start, tree_value}
use Rattle.hl_parser.specs.Machine as machine
use Rattle.hl_parser.specs.Parsing.{GivesFault, GivesTree, IsAnswer, IsFault, SpellsTooDeep, first_terminal, most_depth, terminals_of}
use Rattle.hl_parser.specs.Trees.{depth}
use Rattle.hl_parser.specs.Trees as plain
use Rattle.hl_parser.specs.Views.{plain_of}
use Rattle.hl_parser.proofs.Complete.{at_most_one_tree}
use Rattle.hl_parser.proofs.Independence.{outcome_of}
use Rattle.hl_parser.proofs.Progress.{HasRead, fault_at_end, fault_at_token, has_read_nothing, next_of, reads_more, tree_at_end}

pub first_at : (tokens : List Token) (at : ℕ) (d : Token) → at < length tokens → terminal_of (get_or tokens at d).kind ≡ first_terminal (drop at (terminals_of tokens))
first_at [] at d h = absurd (omega arith)
first_at (t ∷ ts) zero d h = refl
first_at (t ∷ ts) (suc at) d h = first_at ts at d (omega arith)

-- the parser has read this many tokens
pub record Reached (tokens : List Terminal) (at : ℕ) (parser : Parser) : Type 0 where
  pub values : Kept
  pub read : HasRead (take at tokens) (drop at tokens) parser.pending values
  pub held : Holds parser.values values

-- and what the next one is
pub record Stands (tokens : List Terminal) (at : ℕ) (parser : Parser) (next : Terminal) : Type 0 where
  pub reached : Reached tokens at parser
  pub next_is : next ≡ first_terminal (drop at tokens)

pub reached_start : (tokens : List Terminal) (parser : Parser) → parser.pending ≡ start → Holds parser.values (kept []) → Reached tokens 0 parser
reached_start tokens parser e h = record {
  values = kept [];
  read = subst (λ p. HasRead [] tokens p (kept [])) (sym e) (has_read_nothing tokens);
  held = h;
}

-- a list at a place within
record At (ts : List Terminal) (at : ℕ) : Type 0 where
  token : Terminal
  back : List Terminal
  front_long : length (take at ts) ≡ at
  here : drop at ts ≡ token ∷ back
  behind : drop (at + 1) ts ≡ back
  through : take (at + 1) ts ≡ take at ts ++ (token ∷ [])

suc-plus : (n : ℕ) → n + 1 ≡ suc n
suc-plus n = omega arith

at_place : (ts : List Terminal) (at : ℕ) → at < length ts → At ts at
at_place [] at h = absurd (omega arith)
at_place (t ∷ ts) zero h = record { token = t; back = ts; front_long = refl; here = refl; behind = ap (λ n. drop n (t ∷ ts)) (suc-plus 0); through = ap (λ n. take n (t ∷ ts)) (suc-plus 0) }
at_place (t ∷ ts) (suc at) h =
    let a = at_place ts at (omega arith) in
    record {
      token = a.token;
      back = a.back;
      front_long = ap suc a.front_long;
      here = a.here;
      behind = ap (λ n. drop n (t ∷ ts)) (suc-plus (suc at)) ∙ (ap (λ n. drop n ts) (sym (suc-plus at)) ∙ a.behind);
      through = ap (λ n. take n (t ∷ ts)) (suc-plus (suc at)) ∙ ap (λ l. t ∷ l) (ap (λ n. take n ts) (sym (suc-plus at)) ∙ a.through);
    }

next_is_first : (ts : List Terminal) → next_of ts ≡ first_terminal ts
next_is_first [] = refl
next_is_first (t ∷ ts) = refl

-- what is fed, where it is read
record Feeds (outcome : machine.Fed) (after : Parser) : Type 0 where
  values : Kept
  is : outcome ≡ machine.fed after.pending values
  held : Holds after.values values

feeds : (outcome : machine.Fed) (after : Parser) → FedIs outcome after Read → Feeds outcome after
feeds (machine.fed pending values) after (e, h) = record { values = values; is = ap (λ p. machine.fed p values) (sym e); held = h }
feeds (machine.spent values) after h = absurd h
feeds machine.refused after h = absurd h

-- a token more
pub reached_more : (tokens : List Terminal) (at : ℕ) (t next : Terminal) (before after : Parser) → at < length tokens → t ≡ first_terminal (drop at tokens) → next ≡ first_terminal (drop (at + 1) tokens) → Reached tokens at before → ((values : Kept) → Holds before.values values → FedIs (feed before.pending values at t next) after Read) → Reached tokens (at + 1) after
reached_more tokens at t next before after within e f r h =
    let a = at_place tokens at within in
    let fed = feeds (feed before.pending r.values at t next) after (h r.values r.held) in
    let token_is : t ≡ a.token = e ∙ ap first_terminal a.here in
    let next_is : next ≡ next_of a.back = f ∙ (ap first_terminal a.behind ∙ sym (next_is_first a.back)) in
    let same : feed before.pending r.values (length (take at tokens)) a.token (next_of a.back) ≡ machine.fed after.pending fed.values =
    ap (λ n. feed before.pending r.values n a.token (next_of a.back)) a.front_long
    ∙ (ap (λ x. feed before.pending r.values at x (next_of a.back)) (sym token_is) ∙ (ap (feed before.pending r.values at t) (sym next_is) ∙ fed.is)) in
    let read = reads_more (take at tokens) a.back a.token before.pending after.pending r.values fed.values (subst (λ b. HasRead (take at tokens) b before.pending r.values) a.here r.read) same in
    record {
      values = fed.values;
      read = subst (λ b. HasRead (take (at + 1) tokens) b after.pending fed.values) (sym a.behind) (subst (λ b. HasRead b a.back after.pending fed.values) (sym a.through) read);
      held = fed.held;
    }

not_read : (outcome : machine.Fed) (after : Parser) (result : Fed) → FedIs outcome after result → result ≢ Read → outcome_of outcome ≢ 0
not_read (machine.fed pending values) after Read h no_read = absurd (no_read refl)
not_read (machine.fed pending values) after Spent h no_read = absurd h
not_read (machine.fed pending values) after Refused h no_read = absurd h
not_read (machine.spent values) after result h no_read = λ e. one_is_no_zero e
  where
    one_is_no_zero : ◌≡◌ {A = ℕ} 1 0 → ⊥
    one_is_no_zero e = cc
not_read machine.refused after result h no_read = λ e. two_is_no_zero e
  where
    two_is_no_zero : ◌≡◌ {A = ℕ} 2 0 → ⊥
    two_is_no_zero e = cc

not_spent : (outcome : machine.Fed) (after : Parser) (result : Fed) → FedIs outcome after result → result ≢ Spent → outcome_of outcome ≢ 1
not_spent (machine.fed pending values) after result h no_spent = λ e. zero_is_no_one e
  where
    zero_is_no_one : ◌≡◌ {A = ℕ} 0 1 → ⊥
    zero_is_no_one e = cc
not_spent (machine.spent values) after Read h no_spent = absurd h
not_spent (machine.spent values) after Spent h no_spent = absurd (no_spent refl)
not_spent (machine.spent values) after Refused h no_spent = absurd h
not_spent machine.refused after result h no_spent = λ e. two_is_no_one e
  where
    two_is_no_one : ◌≡◌ {A = ℕ} 2 1 → ⊥
    two_is_no_one e = cc

-- a token that isn't read
pub fault_here : (tokens : List Terminal) (at : ℕ) (t next : Terminal) (before after : Parser) (result : Fed) → at < length tokens → t ≡ first_terminal (drop at tokens) → Reached tokens at before → ((values : Kept) → Holds before.values values → FedIs (feed before.pending values at t next) after result) → result ≢ Read → IsSyntaxFault tokens at
fault_here tokens at t next before after result within e r h no_read =
    let a = at_place tokens at within in
    let token_is : t ≡ a.token = e ∙ ap first_terminal a.here in
    let unread : outcome_of (feed before.pending r.values (length (take at tokens)) a.token next) ≢ 0 =
    subst (λ n. outcome_of (feed before.pending r.values n a.token next) ≢ 0) (sym a.front_long)
    (subst (λ x. outcome_of (feed before.pending r.values at x next) ≢ 0) token_is (not_read (feed before.pending r.values at t next) after result (h r.values r.held) no_read)) in
    let whole : take at tokens ++ (a.token ∷ a.back) ≡ tokens = ap (λ b. take at tokens ++ b) (sym a.here) ∙ take-append-drop at tokens in
    let fault = fault_at_token (take at tokens) a.back a.token before.pending r.values r.values next (subst (λ b. HasRead (take at tokens) b before.pending r.values) a.here r.read) unread in
    subst (λ n. IsSyntaxFault tokens n) a.front_long (subst (λ ts. IsSyntaxFault ts (length (take at tokens))) whole fault)

-- the end

take_whole : (ts : List Terminal) → take (length ts) ts ≡ ts
take_whole [] = refl
take_whole (t ∷ ts) = ap (λ l. t ∷ l) (take_whole ts)

drop_whole : (ts : List Terminal) → drop (length ts) ts ≡ []
drop_whole [] = refl
drop_whole (t ∷ ts) = drop_whole ts

at_the_end : (tokens : List Terminal) (at : ℕ) (parser : Parser) (r : Reached tokens at parser) → at ≡ length tokens → HasRead tokens [] parser.pending r.values
at_the_end tokens at parser r e =
    subst (λ f. HasRead f [] parser.pending r.values) (take_whole tokens)
    (subst (λ b. HasRead (take (length tokens) tokens) b parser.pending r.values) (drop_whole tokens)
    (subst (λ n. HasRead (take n tokens) (drop n tokens) parser.pending r.values) e r.read))

pub fault_behind : (tokens : List Terminal) (at : ℕ) (before after : Parser) (result : Fed) → at ≡ length tokens → Reached tokens at before → ((values : Kept) → Holds before.values values → FedIs (feed before.pending values 0 Unlisted Unlisted) after result) → result ≢ Spent → IsSyntaxFault tokens (length tokens)
fault_behind tokens at before after result e r h no_spent =
    fault_at_end tokens before.pending r.values r.values (at_the_end tokens at before r e) (not_spent (feed before.pending r.values 0 Unlisted Unlisted) after result (h r.values r.held) no_spent)

record Spends (outcome : machine.Fed) (after : Parser) : Type 0 where
  values : Kept
  is : outcome ≡ machine.spent values
  held : Holds after.values values

spends : (outcome : machine.Fed) (after : Parser) → FedIs outcome after Spent → Spends outcome after
spends (machine.fed pending values) after h = absurd h
spends (machine.spent values) after h = record { values = values; is = refl; held = h }
spends machine.refused after h = absurd h

-- the tree that is held in the end
pub record Held (tokens : List Terminal) (after : Parser) : Type 0 where
  pub tree : plain.Tree
  pub spelled : SpellsProgram tokens tree
  pub held : Holds after.values (kept (tree_value tree ∷ []))

pub held_at_end : (tokens : List Terminal) (at : ℕ) (before after : Parser) → at ≡ length tokens → Reached tokens at before → ((values : Kept) → Holds before.values values → FedIs (feed before.pending values 0 Unlisted Unlisted) after Spent) → Held tokens after
held_at_end tokens at before after e r h =
    let s = spends (feed before.pending r.values 0 Unlisted Unlisted) after (h r.values r.held) in
    let t = tree_at_end tokens before.pending r.values s.values (at_the_end tokens at before r e) s.is in
    record { tree = t.tree; spelled = t.spelled; held = subst (λ v. Holds after.values v) t.value s.held }

pub answered_tree : (tokens : List Terminal) (tree : plain.Tree) (found : Option Tree) → SpellsProgram tokens tree → Finishes found tree → IfOk (ok_or {E = ParseFault} found TooDeep) (λ found. IsAnswer tokens (plain_of found))
answered_tree tokens tree (Some found) spelled (e, shallow) = subst (IsAnswer tokens) (sym e) (record { spelled = spelled; shallow = shallow })
answered_tree tokens tree None spelled h = tt

pub answered_fault : (tokens : List Terminal) (tree : plain.Tree) (found : Option Tree) → SpellsProgram tokens tree → Finishes found tree → IfErr (ok_or {E = ParseFault} found TooDeep) (IsFault tokens)
answered_fault tokens tree (Some found) spelled h = tt
answered_fault tokens tree None spelled h = (tree, spelled, h)

-- the only right answer

pub gives_tree : (tokens : List Terminal) (answer : Result Tree ParseFault) (tree : plain.Tree) → IfOk answer (λ found. IsAnswer tokens (plain_of found)) → IfErr answer (IsFault tokens) → SpellsProgram tokens tree → depth tree ≤ most_depth → GivesTree answer tree
gives_tree tokens (Ok found) tree ok err spelled shallow = at_most_one_tree tokens (plain_of found) tree ok.spelled spelled
gives_tree tokens (Err Memory) tree ok err spelled shallow = tt
gives_tree tokens (Err (Syntax at)) tree ok err spelled shallow = absurd (err.no_program tree spelled)
gives_tree tokens (Err TooDeep) tree ok (deep, other, below) spelled shallow =
    let same : depth deep ≡ depth tree = ap depth (at_most_one_tree tokens deep tree other spelled) in
    absurd (omega arith)

begins_front : (front back : List Terminal) → BeginsProgram (front ++ back) → BeginsProgram front
begins_front front back (more, tree, h) = (back ++ more, tree, subst (λ ts. SpellsProgram ts tree) (append_assoc front back more) h)

take_take : (n m : ℕ) (ts : List Terminal) → n ≤ m → take n (take m ts) ≡ take n ts
take_take zero m ts h = refl
take_take (suc n) zero ts h = absurd (omega arith)
take_take (suc n) (suc m) [] h = refl
take_take (suc n) (suc m) (t ∷ ts) h = ap (λ l. t ∷ l) (take_take n m ts (omega arith))

earlier_fault : (tokens : List Terminal) (at other : ℕ) → IsSyntaxFault tokens at → IsSyntaxFault tokens other → at < other → ⊥
earlier_fault tokens at other h g below =
    let within = g.within in
    let front : take (suc at) tokens ++ drop (suc at) (take other tokens) ≡ take other tokens =
    ap (λ f. f ++ drop (suc at) (take other tokens)) (sym (take_take (suc at) other tokens (omega arith))) ∙ take-append-drop (suc at) (take other tokens) in
    h.begins_not (omega arith) (begins_front (take (suc at) tokens) (drop (suc at) (take other tokens)) (subst BeginsProgram (sym front) g.begins_before))

-- the least index is one
pub at_most_one_syntax_fault : (tokens : List Terminal) (at other : ℕ) → IsSyntaxFault tokens at → IsSyntaxFault tokens other → at ≡ other
at_most_one_syntax_fault tokens at other h g = by_order (lt_cases at other)
  where
    lt_cases : (a b : ℕ) → (a < b) ⊎ ((a ≡ b) ⊎ (b < a))
    lt_cases a b = by_test (nat_lt a b) refl
      where
        by_last : (c : Bool) → nat_lt a b ≡ false → nat_lt b a ≡ c → (a < b) ⊎ ((a ≡ b) ⊎ (b < a))
        by_last true e f = inr (inr (ltb-true b a f))
        by_last false e f = let x = ltb-false a b e in let y = ltb-false b a f in inr (inl (omega arith))

        by_test : (c : Bool) → nat_lt a b ≡ c → (a < b) ⊎ ((a ≡ b) ⊎ (b < a))
        by_test true e = inl (ltb-true a b e)
        by_test false e = by_last (nat_lt b a) e refl

    by_order : (at < other) ⊎ ((at ≡ other) ⊎ (other < at)) → at ≡ other
    by_order (inl below) = absurd (earlier_fault tokens at other h g below)
    by_order (inr (inl e)) = e
    by_order (inr (inr above)) = absurd (earlier_fault tokens other at g h above)

pub gives_syntax : (tokens : List Terminal) (answer : Result Tree ParseFault) (at : ℕ) → IfOk answer (λ found. IsAnswer tokens (plain_of found)) → IfErr answer (IsFault tokens) → IsSyntaxFault tokens at → GivesFault answer (Syntax at)
gives_syntax tokens (Ok found) at ok err h = absurd (h.no_program (plain_of found) ok.spelled)
gives_syntax tokens (Err Memory) at ok err h = tt
gives_syntax tokens (Err (Syntax other)) at ok err h = ap Syntax (at_most_one_syntax_fault tokens other at err h)
gives_syntax tokens (Err TooDeep) at ok (tree, spelled, below) h = absurd (h.no_program tree spelled)

pub gives_too_deep : (tokens : List Terminal) (answer : Result Tree ParseFault) → IfOk answer (λ found. IsAnswer tokens (plain_of found)) → IfErr answer (IsFault tokens) → SpellsTooDeep tokens → GivesFault answer TooDeep
gives_too_deep tokens (Ok found) ok err (tree, spelled, below) =
    let same : depth (plain_of found) ≡ depth tree = ap depth (at_most_one_tree tokens (plain_of found) tree ok.spelled spelled) in
    let shallow = ok.shallow in
    absurd (omega arith)
gives_too_deep tokens (Err Memory) ok err h = tt
gives_too_deep tokens (Err (Syntax other)) ok err (tree, spelled, below) = absurd (err.no_program tree spelled)
gives_too_deep tokens (Err TooDeep) ok err h = refl

pub length-terminals : (tokens : List Token) → length (terminals_of tokens) ≡ length tokens
length-terminals [] = refl
length-terminals (t ∷ ts) = ap suc (length-terminals ts)
