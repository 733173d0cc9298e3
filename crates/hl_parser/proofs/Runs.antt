-- Runs of the machine, step by step: where the rest runs to an outcome, so does the whole.
use Rattle.std.proofs.Common.{◌≡◌, ◌∙◌, refl, sym, ap, subst, ℕ, List, [], ◌∷◌, ◌++◌, Option, append_assoc}
use Rattle.hl_lexer.specs.declared.terminal.Terminal.{Terminal}
use Rattle.hl_lexer.specs.declared.terminal.Terminal.TheVariants as terminals
use Rattle.hl_parser.specs.declared.act.Act.{Act}
use Rattle.hl_parser.specs.declared.act.Act.TheVariants as acts
use Rattle.hl_parser.specs.declared.symbol.Symbol.{Symbol}
use Rattle.hl_parser.specs.declared.symbol.Symbol.TheVariants as symbols
use Rattle.hl_parser.specs.Grammar.{Mark, Numbered, Token, nth, peek}
use Rattle.hl_parser.proofs.Terminals.{only_itself}
use Rattle.hl_parser.specs.Machine.{Fed, Kept, Move, reads, yields, refuses, after_move, after_token, at_end, feed, followed, led, move_of, perform, perform_all, run}

-- the index of the first token, and the tokens behind it
abbrev pub index_of : List Numbered → ℕ
index_of [] = 0
index_of (nth index terminal ∷ more) = index

abbrev pub rest_of : List Numbered → List Numbered
rest_of [] = []
rest_of (first ∷ more) = more

-- what a symbol does at the first token
abbrev pub move_at : Symbol → List Numbered → Move
move_at s ts = move_of s (peek ts) (peek (rest_of ts))

pub record Runs (pending : List Symbol) (values : Kept) (tokens : List Numbered) (outcome : Option Kept) : Type 0 where
  pub is_run : run pending values tokens ≡ outcome

-- a symbol that yields
pub yields_to : {s : Symbol} {K : List Symbol} {V : Kept} {w : Option Kept} (done : List Act) (ts : List Numbered) → move_at s ts ≡ yields done → Runs K (perform_all done (index_of ts) V) ts w → Runs (s ∷ K) V ts w
unfolding run
yields_to {K = K} {V = V} done [] e h =
    record { is_run = ap (λ m. at_end (after_move m 0 K V (λ v. feed K v 0 terminals.Unlisted terminals.Unlisted))) e ∙ h.is_run }
yields_to {K = K} {V = V} done (nth i t ∷ m) e h =
    record { is_run = ap (λ x. after_token (after_move x i K V (λ v. feed K v i t (peek m))) (λ p v. run p v m)) e ∙ h.is_run }

-- a symbol that reads a token
pub reads_to : {s : Symbol} {K : List Symbol} {V : Kept} {w : Option Kept} (done : List Act) (more : List Symbol) (i : ℕ) (t : Terminal) (m : List Numbered) → move_of s t (peek m) ≡ reads done more → Runs (more ++ K) (perform_all done i V) m w → Runs (s ∷ K) V (nth i t ∷ m) w
unfolding run
reads_to {K = K} {V = V} done more i t m e h =
    record { is_run = ap (λ x. after_token (after_move x i K V (λ v. feed K v i t (peek m))) (λ p v. run p v m)) e ∙ h.is_run }

-- an act
pub does : {a : Act} {K : List Symbol} {V : Kept} {w : Option Kept} {ts : List Numbered} → Runs K (perform a (index_of ts) V) ts w → Runs (symbols.Make a ∷ K) V ts w
does {a = a} {ts = ts} h = yields_to (a ∷ []) ts refl h

pub perform-append : (xs ys : List Act) (i : ℕ) (V : Kept) → perform_all (xs ++ ys) i V ≡ perform_all ys i (perform_all xs i V)
perform-append [] ys i V = refl
perform-append (x ∷ xs) ys i V = perform-append xs ys i (perform x i V)

-- a symbol that never yields
abbrev pub NeverYields : Move → Type 0
NeverYields (reads done more) = Unit {0}
NeverYields (yields done) = ⊥
NeverYields refuses = Unit {0}

-- one symbol does what another does, with more acts before it and more symbols behind it
led_move : (first : List Act) (more : List Symbol) (x : Move) (at : ℕ) (K : List Symbol) (V : Kept) (go go' : Kept → Fed) → NeverYields x → after_move (led first (followed x more)) at K V go ≡ after_move x at (more ++ K) (perform_all first at V) go'
led_move first more (reads done pending) at K V go go' never =
    ap (λ p. Fed.fed p (perform_all (first ++ done) at V)) (append_assoc pending more K)
    ∙ ap (λ v. Fed.fed (pending ++ (more ++ K)) v) (perform-append first done at V)
led_move first more (yields done) at K V go go' never = absurd never
led_move first more refuses at K V go go' never = refl

followed_move : (more : List Symbol) (x : Move) (at : ℕ) (K : List Symbol) (V : Kept) (go go' : Kept → Fed) → NeverYields x → after_move (followed x more) at K V go ≡ after_move x at (more ++ K) V go'
followed_move more (reads done pending) at K V go go' never = ap (λ p. Fed.fed p (perform_all done at V)) (append_assoc pending more K)
followed_move more (yields done) at K V go go' never = absurd never
followed_move more refuses at K V go go' never = refl

pub led_by : {s : Symbol} {K : List Symbol} {V : Kept} {w : Option Kept} (other : Symbol) (first : List Act) (more : List Symbol) (ts : List Numbered) → move_at s ts ≡ led first (followed (move_at other ts) more) → NeverYields (move_at other ts) → Runs (other ∷ (more ++ K)) (perform_all first (index_of ts) V) ts w → Runs (s ∷ K) V ts w
unfolding run
led_by {K = K} {V = V} other first more [] e never h =
    record {
      is_run =
          ap (λ m. at_end (after_move m 0 K V (λ v. feed K v 0 terminals.Unlisted terminals.Unlisted))) e
          ∙ ap at_end (led_move first more (move_at other []) 0 K V (λ v. feed K v 0 terminals.Unlisted terminals.Unlisted) (λ v. feed (more ++ K) v 0 terminals.Unlisted terminals.Unlisted) never)
          ∙ h.is_run;
    }
led_by {K = K} {V = V} other first more (nth i t ∷ m) e never h =
    record {
      is_run =
          ap (λ x. after_token (after_move x i K V (λ v. feed K v i t (peek m))) (λ p v. run p v m)) e
          ∙ ap (λ x. after_token x (λ p v. run p v m)) (led_move first more (move_of other t (peek m)) i K V (λ v. feed K v i t (peek m)) (λ v. feed (more ++ K) v i t (peek m)) never)
          ∙ h.is_run;
    }

pub followed_by : {s : Symbol} {K : List Symbol} {V : Kept} {w : Option Kept} (other : Symbol) (more : List Symbol) (ts : List Numbered) → move_at s ts ≡ followed (move_at other ts) more → NeverYields (move_at other ts) → Runs (other ∷ (more ++ K)) V ts w → Runs (s ∷ K) V ts w
unfolding run
followed_by {K = K} {V = V} other more [] e never h =
    record {
      is_run =
          ap (λ m. at_end (after_move m 0 K V (λ v. feed K v 0 terminals.Unlisted terminals.Unlisted))) e
          ∙ ap at_end (followed_move more (move_at other []) 0 K V (λ v. feed K v 0 terminals.Unlisted terminals.Unlisted) (λ v. feed (more ++ K) v 0 terminals.Unlisted terminals.Unlisted) never)
          ∙ h.is_run;
    }
followed_by {K = K} {V = V} other more (nth i t ∷ m) e never h =
    record {
      is_run =
          ap (λ x. after_token (after_move x i K V (λ v. feed K v i t (peek m))) (λ p v. run p v m)) e
          ∙ ap (λ x. after_token x (λ p v. run p v m)) (followed_move more (move_of other t (peek m)) i K V (λ v. feed K v i t (peek m)) (λ v. feed (more ++ K) v i t (peek m)) never)
          ∙ h.is_run;
    }

-- a symbol that is another one there
pub same_as : {s : Symbol} {K : List Symbol} {V : Kept} {w : Option Kept} (other : Symbol) (ts : List Numbered) → move_at s ts ≡ move_at other ts → Runs (other ∷ K) V ts w → Runs (s ∷ K) V ts w
unfolding run
same_as {K = K} {V = V} other [] e h =
    record { is_run = ap (λ m. at_end (after_move m 0 K V (λ v. feed K v 0 terminals.Unlisted terminals.Unlisted))) e ∙ h.is_run }
same_as {K = K} {V = V} other (nth i t ∷ m) e h =
    record { is_run = ap (λ x. after_token (after_move x i K V (λ v. feed K v i t (peek m))) (λ p v. run p v m)) e ∙ h.is_run }

-- a token that is no part of a tree, a name, and the end
pub skip : {t : Terminal} {K : List Symbol} {V : Kept} {w : Option Kept} {from m : List Numbered} → Mark t from m → Runs K V m w → Runs (symbols.Skip t ∷ K) V from w
skip {t = t} {K = K} {V = V} {w = w} {m = m} (i, e) h =
    subst (λ ts. Runs (symbols.Skip t ∷ K) V ts w) (sym e) (reads_to [] [] i t m (only_itself t) h)

pub name : {index : ℕ} {K : List Symbol} {V : Kept} {w : Option Kept} {from m : List Numbered} → Token index terminals.Name from m → Runs K (perform acts.Here index V) m w → Runs (symbols.Name ∷ K) V from w
name {index = index} {K = K} {V = V} {w = w} {m = m} e h =
    subst (λ ts. Runs (symbols.Name ∷ K) V ts w) (sym e) (reads_to (acts.Here ∷ []) [] index terminals.Name m refl h)

-- a symbol that reads the first token
pub reads_at : {s : Symbol} {K : List Symbol} {V : Kept} {w : Option Kept} {i : ℕ} {t : Terminal} {from m : List Numbered} (done : List Act) (more : List Symbol) → from ≡ nth i t ∷ m → move_of s t (peek m) ≡ reads done more → Runs (more ++ K) (perform_all done i V) m w → Runs (s ∷ K) V from w
reads_at {s = s} {K = K} {V = V} {w = w} {i = i} {t = t} {m = m} done more e move h =
    subst (λ ts. Runs (s ∷ K) V ts w) (sym e) (reads_to done more i t m move h)
