-- The machine reads lists of trees, up to where the symbol that reads more of them yields.
use Rattle.std.proofs.Common.{◌≡◌, ◌∙◌, refl, sym, ap, subst, ℕ, Bool, true, List, [], ◌∷◌}
use Rattle.hl_lexer.specs.declared.terminal.Terminal.{Terminal}
use Rattle.hl_lexer.specs.declared.terminal.Terminal.TheVariants as terminals
use Rattle.hl_parser.specs.declared.act.Act.TheVariants as acts
use Rattle.hl_parser.specs.declared.symbol.Symbol.{Symbol}
use Rattle.hl_parser.specs.declared.symbol.Symbol.TheVariants as symbols
use Rattle.hl_parser.specs.Grammar.{Numbered, n_attribute, peek}
use Rattle.hl_parser.specs.Machine.{append_tree, followed, kept, move_of, reads, rest_of_attribute, trees_value}
use Rattle.hl_parser.specs.Trees.{Tree, Trees, no_trees, more_trees}
use Rattle.hl_parser.proofs.Claims.{Claimed, CommasClaimed, EachClaimed, LengthsClaimed, Loops, Takes, TakesBefore, append_trees, closes}
use Rattle.hl_parser.proofs.Opening.{peek_mark}
use Rattle.hl_parser.proofs.ReadExpressions.{closed, commas_close}
use Rattle.hl_parser.proofs.Runs.{NeverYields, Runs, does, followed_by, move_at, reads_at, skip, yields_to}
use Rattle.hl_parser.proofs.StandsAs.{as_attribute}

-- trees behind trees

joined : Trees → Trees → Trees
joined no_trees more = more
joined (more_trees first rest) more = more_trees first (joined rest more)

joined-append : (done : Trees) (tree : Tree) (more : Trees) → joined (append_tree done tree) more ≡ joined done (more_trees tree more)
unfolding joined
joined-append no_trees tree more = refl
joined-append (more_trees first rest) tree more = ap (more_trees first) (joined-append rest tree more)

joined-none : (done : Trees) → joined done no_trees ≡ done
unfolding joined
joined-none no_trees = refl
joined-none (more_trees first rest) = ap (more_trees first) (joined-none rest)

append_trees-joined : (done trees : Trees) → append_trees done trees ≡ joined done trees
append_trees-joined done no_trees = sym (joined-none done)
append_trees-joined done (more_trees first rest) = append_trees-joined (append_tree done first) rest ∙ joined-append done first rest

pub all_appended : (first : Tree) (rest : Trees) → append_trees (more_trees first no_trees) rest ≡ more_trees first rest
unfolding joined
all_appended first rest = append_trees-joined (more_trees first no_trees) rest

pub none_appended : (trees : Trees) → append_trees no_trees trees ≡ trees
unfolding joined
none_appended trees = append_trees-joined no_trees trees

-- lists with commas

pub comma_loop : (s e : Symbol) (asked : ℕ) (test : Terminal → Bool) → ((next : Terminal) → move_of s terminals.Comma next ≡ reads [] (e ∷ symbols.Make acts.Append ∷ s ∷ [])) → test terminals.Comma ≡ true → ((tree : Tree) (from to : List Numbered) → Claimed asked tree from to → TakesBefore test e [] tree from to) → (trees : Trees) (from to : List Numbered) → CommasClaimed asked trees from to → test (peek to) ≡ true → Loops s trees from to
comma_loop s e asked test sep comma_passes element no_trees from to is_end c = λ K vs done w move rest.
    subst (λ ts. Runs (s ∷ K) (kept (trees_value done ∷ vs)) ts w) (sym is_end) (yields_to [] to move rest)
comma_loop s e asked test sep comma_passes element (more_trees first others) from to (m, comma, (n, cf, more)) c = λ K vs done w move rest.
    reads_at [] (e ∷ symbols.Make acts.Append ∷ s ∷ []) comma.1 (sep (peek m))
    (element first m n cf _ _ _ (commas_close asked test others n to comma_passes more c)
    (does (comma_loop s e asked test sep comma_passes element others n to more c K vs (append_tree done first) w move rest)))

-- lists without

pub each_loop : (s e : Symbol) (asked : ℕ) → ((tree : Tree) (from to : List Numbered) → Claimed asked tree from to → move_at s from ≡ followed (move_at e from) (symbols.Make acts.Append ∷ s ∷ [])) → ((from : List Numbered) → NeverYields (move_at e from)) → ((tree : Tree) (from to : List Numbered) → Claimed asked tree from to → Takes e tree from to) → (trees : Trees) (from to : List Numbered) → EachClaimed asked trees from to → Loops s trees from to
each_loop s e asked move_first never element no_trees from to is_end = λ K vs done w move rest.
    subst (λ ts. Runs (s ∷ K) (kept (trees_value done ∷ vs)) ts w) (sym is_end) (yields_to [] to move rest)
each_loop s e asked move_first never element (more_trees first others) from to (m, cf, more) = λ K vs done w move rest.
    followed_by e (symbols.Make acts.Append ∷ s ∷ []) from (move_first first from m cf) (never from)
    (element first from m cf _ _ _
    (does (each_loop s e asked move_first never element others m to more K vs (append_tree done first) w move rest)))

pub attributes_loop : (trees : Trees) (from to : List Numbered) → EachClaimed n_attribute trees from to → Loops symbols.Attributes trees from to
attributes_loop no_trees from to is_end = λ K vs done w move rest.
    subst (λ ts. Runs (symbols.Attributes ∷ K) (kept (trees_value done ∷ vs)) ts w) (sym is_end) (yields_to [] to move rest)
attributes_loop (more_trees first others) from to (m, cf, more) = λ K vs done w move rest.
    let c = as_attribute first from m cf in
    reads_at (acts.Here ∷ []) rest_of_attribute c.bracket refl
    (c.reads K vs done w (attributes_loop others m to more K vs (append_tree done first) w move rest))

pub lengths_loop : (trees : Trees) (from to : List Numbered) → LengthsClaimed trees from to → Loops symbols.Lengths trees from to
lengths_loop no_trees from to is_end = λ K vs done w move rest.
    subst (λ ts. Runs (symbols.Lengths ∷ K) (kept (trees_value done ∷ vs)) ts w) (sym is_end) (yields_to [] to move rest)
lengths_loop (more_trees first others) from to (m, bracket, (n, cf, (o, close_mark, more))) = λ K vs done w move rest.
    reads_at [] (symbols.Operand 27 ∷ symbols.Skip terminals.CloseBracket ∷ symbols.Make acts.Append ∷ symbols.Lengths ∷ []) bracket.1 refl
    (closed first m n cf (ap closes (peek_mark close_mark)) _ _ _
    (skip close_mark
    (does (lengths_loop others o to more K vs (append_tree done first) w move rest))))
