-- What the machine reads to its end is a program.
use Rattle.std.proofs.Common.{◌≡◌, refl, subst, ℕ, Option, None, Some, List, [], ◌∷◌, arith}
use Rattle.hl_lexer.specs.declared.terminal.Terminal.{Terminal}
use Rattle.hl_lexer.specs.declared.terminal.Terminal.TheVariants as terminals
use Rattle.hl_parser.specs.declared.symbol.Symbol.{Symbol}
use Rattle.hl_parser.specs.Grammar.{Nothing, Numbered, Spells, SpellsProgram, n_program, nth, numbered, peek}
use Rattle.hl_parser.specs.Machine.{Fed, Kept, Move, after_move, after_token, at_end, fed, feed, kept, move_of, perform_all, reads, refused, refuses, run, spent, start, yields}
use Rattle.hl_parser.specs.Trees.{Tree, a_program, at_of, more_trees}
use Rattle.hl_parser.proofs.SoundStatements.{sound_move}
use Rattle.hl_parser.proofs.Words.{SoundMove, Word, Words, words_cons, words_split}

-- what the symbols stand for, where what comes of a token is known
abbrev pub FedSound : List Symbol → ℕ → Terminal → Fed → Type 0
FedSound K i t (fed pending values) = (m to : List Numbered) → Words pending m to → Words K (nth i t ∷ m) to
FedSound K i t (spent values) = (ts : List Numbered) → peek ts ≡ t → Words K ts ts
FedSound K i t refused = Unit {0}

one_sound : (s : Symbol) (K : List Symbol) (i : ℕ) (t : Terminal) (x : Move) (V : Kept) (go : Kept → Fed) → SoundMove (Word s) t x → ((v : Kept) → FedSound K i t (go v)) → FedSound (s ∷ K) i t (after_move x i K V go)
one_sound s K i t (reads done more) V go h rest = λ m to words.
    let split = words_split more K m to words in
    words_cons s K (nth i t ∷ m) split.middle to (h i m split.middle split.first) split.rest
one_sound s K i t (yields done) V go h rest = after_yield (go (perform_all done i V)) (rest (perform_all done i V))
  where
    after_yield : (f : Fed) → FedSound K i t f → FedSound (s ∷ K) i t f
    after_yield (fed pending values) k = λ m to words. words_cons s K (nth i t ∷ m) (nth i t ∷ m) to (h (nth i t ∷ m) refl) (k m to words)
    after_yield (spent values) k = λ ts e. words_cons s K ts ts ts (h ts e) (k ts e)
    after_yield refused k = tt
one_sound s K i t refuses V go h rest = tt

pub feed_sound : (K : List Symbol) (V : Kept) (i : ℕ) (t next : Terminal) → FedSound K i t (feed K V i t next)
feed_sound [] V i t next = λ ts e. refl
feed_sound (s ∷ K) V i t next =
    one_sound s K i t (move_of s t next) V (λ v. feed K v i t next) (sound_move s t next).sound (λ v. feed_sound K v i t next)

end_sound : (K : List Symbol) (v : Kept) (f : Fed) → FedSound K 0 terminals.Unlisted f → at_end f ≡ Some v → Words K [] []
end_sound K v (fed pending values) h e = absurd (none_is_no_some e)
  where
    none_is_no_some : {v : Kept} → ◌≡◌ {A = Option Kept} None (Some v) → ⊥
    none_is_no_some e = cc
end_sound K v (spent values) h e = h [] refl
end_sound K v refused h e = absurd (none_is_no_some e)
  where
    none_is_no_some : {v : Kept} → ◌≡◌ {A = Option Kept} None (Some v) → ⊥
    none_is_no_some e = cc

pub run_sound : (ts : List Numbered) (K : List Symbol) (V v : Kept) → run K V ts ≡ Some v → Words K ts []
unfolding run
run_sound [] K V v e = end_sound K v (feed K V 0 terminals.Unlisted terminals.Unlisted) (feed_sound K V 0 terminals.Unlisted terminals.Unlisted) e
run_sound (nth i t ∷ m) K V v e =
    token_sound (feed K V i t (peek m)) (feed_sound K V i t (peek m)) e (λ pending values f. run_sound m pending values v f)
  where
    token_sound : (f : Fed) → FedSound K i t f → after_token f (λ pending values. run pending values m) ≡ Some v → ((pending : List Symbol) (values : Kept) → run pending values m ≡ Some v → Words pending m []) → Words K (nth i t ∷ m) []
    token_sound (fed pending values) h e rest = h m [] (rest pending values e)
    token_sound (spent values) h e rest = absurd cc
    token_sound refused h e rest = absurd cc

-- what the start stands for is a program
pub start_program : (ts : List Numbered) → Words start ts [] → (tree : Tree) × Spells n_program tree ts []
start_program ts (m, (item, h), (n, (items, hs), e)) = (
  a_program (at_of item) (more_trees item items),
  (omega arith, omega arith, (refl, (m, h, subst (λ x. Rattle.hl_parser.specs.Grammar.Each Rattle.hl_parser.specs.Grammar.n_item items m x) e hs))),
)

pub accepted : (tokens : List Terminal) (v : Kept) → run start (kept []) (numbered 0 tokens) ≡ Some v → (tree : Tree) × SpellsProgram tokens tree
accepted tokens v e = start_program (numbered 0 tokens) (run_sound (numbered 0 tokens) start (kept []) v e)
