-- How far the machine has read, and where a syntax fault is.
use Rattle.std.proofs.Common.{◌≡◌, ◌≢◌, ◌∙◌, refl, sym, ap, subst, ℕ, suc, ◌+◌, Option, None, Some, List, [], ◌∷◌, ◌++◌, length, take, arith, append_assoc, append-nil}
use Rattle.hl_lexer.specs.declared.terminal.Terminal.{Terminal}
use Rattle.hl_lexer.specs.declared.terminal.Terminal.TheVariants as terminals
use Rattle.hl_parser.specs.declared.symbol.Symbol.{Symbol}
use Rattle.hl_parser.specs.Grammar.{BeginsProgram, IsSyntaxFault, SpellsProgram, numbered, peek}
use Rattle.hl_parser.specs.Machine.{Fed, Kept, after_token, at_end, fed, feed, kept, refused, run, spent, start, tree_value}
use Rattle.hl_parser.specs.Trees.{Tree}
use Rattle.hl_parser.proofs.Complete.{complete}
use Rattle.hl_parser.proofs.Completion.{completes_all}
use Rattle.hl_parser.proofs.Independence.{outcome_of, same_outcome}
use Rattle.hl_parser.proofs.SoundRun.{FedSound, accepted, feed_sound, start_program}
use Rattle.hl_parser.proofs.Words.{Words}

-- the first token, or what stands behind the end
abbrev pub next_of : List Terminal → Terminal
next_of [] = terminals.Unlisted
next_of (t ∷ ts) = t

peek-numbered : (i : ℕ) (ts : List Terminal) → peek (numbered i ts) ≡ next_of ts
peek-numbered i [] = refl
peek-numbered i (t ∷ ts) = refl

-- behind these tokens, of which the machine has read a front, these symbols are still to be read, and these values are
-- kept, whatever stands further behind
pub record HasRead (front back : List Terminal) (pending : List Symbol) (values : Kept) : Type 0 where
  pub goes_on : (w : List Terminal) → next_of w ≡ next_of back → run start (kept []) (numbered 0 (front ++ w)) ≡ run pending values (numbered (length front) w)
  pub words : (w : List Terminal) → Words pending (numbered (length front) w) [] → Words start (numbered 0 (front ++ w)) []

pub has_read_nothing : (tokens : List Terminal) → HasRead [] tokens start (kept [])
has_read_nothing tokens = record { goes_on = λ w e. refl; words = λ w h. h }

length-more : (front : List Terminal) (t : Terminal) → length (front ++ (t ∷ [])) ≡ suc (length front)
length-more [] t = refl
length-more (x ∷ front) t = ap suc (length-more front t)

run_token : (K : List Symbol) (V : Kept) (i : ℕ) (t : Terminal) (w : List Terminal) → run K V (numbered i (t ∷ w)) ≡ after_token (feed K V i t (next_of w)) (λ p v. run p v (numbered (suc i) w))
unfolding run
run_token K V i t w = ap (λ n. after_token (feed K V i t n) (λ p v. run p v (numbered (suc i) w))) (peek-numbered (suc i) w)

-- a token more
pub reads_more : (front back : List Terminal) (t : Terminal) (K K' : List Symbol) (V V' : Kept) → HasRead front (t ∷ back) K V → feed K V (length front) t (next_of back) ≡ fed K' V' → HasRead (front ++ (t ∷ [])) back K' V'
reads_more front back t K K' V V' h e = record {
  goes_on = λ w f.
      ap (λ ts. run start (kept []) (numbered 0 ts)) (append_assoc front (t ∷ []) w)
      ∙ (h.goes_on (t ∷ w) refl
      ∙ (run_token K V (length front) t w
      ∙ (ap (λ x. after_token x (λ p v. run p v (numbered (suc (length front)) w))) (ap (feed K V (length front) t) f ∙ e)
      ∙ ap (λ n. run K' V' (numbered n w)) (sym (length-more front t)))));
  words = λ w words.
      subst (λ ts. Words start (numbered 0 ts) []) (sym (append_assoc front (t ∷ []) w))
      (h.words (t ∷ w) (sound_of (feed K V (length front) t (next_of back)) e (feed_sound K V (length front) t (next_of back)) w (subst (λ n. Words K' (numbered n w) []) (length-more front t) words)));
}
  where
    sound_of : (f : Fed) → f ≡ fed K' V' → FedSound K (length front) t f → (w : List Terminal) → Words K' (numbered (suc (length front)) w) [] → Words K (numbered (length front) (t ∷ w)) []
    sound_of (fed pending values) same sound w words =
        let pending_is : pending ≡ K' = cc in
        sound (numbered (suc (length front)) w) [] (subst (λ p. Words p (numbered (suc (length front)) w) []) (sym pending_is) words)
    sound_of (spent values) same sound w words = absurd cc
    sound_of refused same sound w words = absurd cc

-- what is read begins a program
pub begins : (front back : List Terminal) (K : List Symbol) (V : Kept) → HasRead front back K V → BeginsProgram front
begins front back K V h =
    let c = completes_all K in
    let p = start_program (numbered 0 (front ++ c.word)) (h.words c.word (c.are_words (length front))) in
    (c.word, p.0, p.1)

-- a token that isn't read ends every program
no_value : (f : Fed) (go : List Symbol → Kept → Option Kept) → outcome_of f ≢ 0 → after_token f go ≡ None
no_value (fed pending values) go h = absurd (h refl)
no_value (spent values) go h = refl
no_value refused go h = refl

none_is_no_some : {A : Type 0} (o : Option Kept) (v : Kept) → o ≡ None → o ≡ Some v → A
none_is_no_some o v e f = absurd (differ (sym e ∙ f))
  where
    differ : ◌≡◌ {A = Option Kept} None (Some v) → ⊥
    differ e = cc

pub stops : (front back : List Terminal) (t : Terminal) (K : List Symbol) (V W : Kept) (n : Terminal) → HasRead front (t ∷ back) K V → outcome_of (feed K W (length front) t n) ≢ 0 → (more : List Terminal) (tree : Tree) → ¬ SpellsProgram (front ++ (t ∷ more)) tree
stops front back t K V W n h unread more tree spelled =
    let done = complete (front ++ (t ∷ more)) tree spelled in
    let goes = h.goes_on (t ∷ more) refl in
    let fails = run_token K V (length front) t more ∙ no_value (feed K V (length front) t (next_of more)) _ (λ e. unread (same_outcome K W V (length front) (length front) t n (next_of more) ∙ e)) in
    none_is_no_some (run start (kept []) (numbered 0 (front ++ (t ∷ more)))) (kept (tree_value tree ∷ [])) (goes ∙ fails) done

take-front : (front back : List Terminal) → take (length front) (front ++ back) ≡ front
take-front [] back = refl
take-front (x ∷ front) back = ap (λ ts. x ∷ ts) (take-front front back)

length-front : (front back : List Terminal) → length (front ++ back) ≡ length front + length back
length-front [] back = zero_plus (length back)
  where
    zero_plus : (n : ℕ) → n ≡ 0 + n
    zero_plus n = omega arith
length-front (x ∷ front) back = ap suc (length-front front back) ∙ suc_plus (length front) (length back)
  where
    suc_plus : (n m : ℕ) → suc (n + m) ≡ suc n + m
    suc_plus n m = omega arith

-- the fault at a token
pub fault_at_token : (front back : List Terminal) (t : Terminal) (K : List Symbol) (V W : Kept) (n : Terminal) → HasRead front (t ∷ back) K V → outcome_of (feed K W (length front) t n) ≢ 0 → IsSyntaxFault (front ++ (t ∷ back)) (length front)
fault_at_token front back t K V W n h unread = record {
  no_program = stops front back t K V W n h unread back;
  within = let all = length-front front (t ∷ back) in omega arith;
  begins_before = subst BeginsProgram (sym (take-front front (t ∷ back))) (begins front (t ∷ back) K V h);
  begins_not = λ below program.
      let through : take (suc (length front)) (front ++ (t ∷ back)) ≡ front ++ (t ∷ []) =
      ap (λ ts. take (suc (length front)) ts) (sym (append_assoc front (t ∷ []) back))
      ∙ (ap (λ n. take n ((front ++ (t ∷ [])) ++ back)) (sym (length-more front t)) ∙ take-front (front ++ (t ∷ [])) back) in
      let p = subst BeginsProgram through program in
      stops front back t K V W n h unread p.0 p.1 (subst (λ ts. SpellsProgram ts p.1) (append_assoc front (t ∷ []) p.0) p.2);
}

-- the end
no_end : (f : Fed) → outcome_of f ≢ 1 → at_end f ≡ None
no_end (fed pending values) h = refl
no_end (spent values) h = absurd (h refl)
no_end refused h = refl

pub fault_at_end : (front : List Terminal) (K : List Symbol) (V W : Kept) → HasRead front [] K V → outcome_of (feed K W 0 terminals.Unlisted terminals.Unlisted) ≢ 1 → IsSyntaxFault front (length front)
unfolding run
fault_at_end front K V W h unread = record {
  no_program = λ tree spelled.
      let done = complete front tree spelled in
      let goes = ap (λ ts. run start (kept []) (numbered 0 ts)) (sym (append-nil front)) ∙ h.goes_on [] refl in
      let fails = no_end (feed K V 0 terminals.Unlisted terminals.Unlisted) (λ e. unread (same_outcome K W V 0 0 terminals.Unlisted terminals.Unlisted terminals.Unlisted ∙ e)) in
      none_is_no_some (run start (kept []) (numbered 0 front)) (kept (tree_value tree ∷ [])) (goes ∙ fails) done;
  within = omega arith;
  begins_before = subst BeginsProgram (sym (take_all front)) (begins front [] K V h);
  begins_not = λ below program. absurd (omega arith);
}
  where
    take_all : (ts : List Terminal) → take (length ts) ts ≡ ts
    take_all [] = refl
    take_all (t ∷ ts) = ap (λ x. t ∷ x) (take_all ts)

-- the tree at the end
pub record IsTree (tokens : List Terminal) (values : Kept) : Type 0 where
  pub tree : Tree
  pub spelled : SpellsProgram tokens tree
  pub value : values ≡ kept (tree_value tree ∷ [])

pub tree_at_end : (front : List Terminal) (K : List Symbol) (V V' : Kept) → HasRead front [] K V → feed K V 0 terminals.Unlisted terminals.Unlisted ≡ spent V' → IsTree front V'
unfolding run
tree_at_end front K V V' h e =
    let ends : run start (kept []) (numbered 0 front) ≡ Some V' = ap (λ ts. run start (kept []) (numbered 0 ts)) (sym (append-nil front)) ∙ (h.goes_on [] refl ∙ ap at_end e) in
    let p = accepted front V' ends in
    let done = complete front p.0 p.1 in
    let same : Some V' ≡ Some (kept (tree_value p.0 ∷ [])) = sym ends ∙ done in
    record { tree = p.0; spelled = p.1; value = cc }
