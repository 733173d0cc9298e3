-- The machine reads expressions, one lemma a form.
use Rattle.std.proofs.Common.{◌≡◌, ◌∙◌, refl, sym, ap, ap₂, subst, ℕ, suc, ◌<◌, ◌≤◌, Bool, true, false, ◌&&◌, Option, None, Some, List, [], ◌∷◌, arith}
use Rattle.std.proofs.lemmas.Bool.{le-leb}
use Rattle.hl_lexer.specs.declared.terminal.Terminal.{Terminal}
use Rattle.hl_lexer.specs.declared.terminal.Terminal.TheVariants as terminals
use Rattle.hl_parser.specs.declared.act.Act.TheVariants as acts
use Rattle.hl_parser.specs.declared.symbol.Symbol.{Symbol}
use Rattle.hl_parser.specs.declared.symbol.Symbol.TheVariants as symbols
use Rattle.hl_parser.specs.Codes.{is}
use Rattle.hl_parser.specs.Grammar.{Mark, Numbered, Operator, Spells, Token, Word, is_assign, is_basic, is_prefix, is_step, is_word, n_choice, n_expr, n_or, n_postfix, n_primary, n_product, n_unary, peek}
use Rattle.hl_parser.specs.Machine.{Kept, Value, append_tree, begins_expression, begins_local, gone, is_level, is_repeating, joins_to, kept, level_of, make_binary, move_of, on_args, on_operand, reads, no_value, token_value, tree_value, trees_value, yields}
use Rattle.hl_parser.specs.Trees.{Tree, a_basic, an_expr, a_choice, a_binary, a_unary, a_postfix, a_primary, Trees, no_trees, more_trees, absent, present, at_of}
use Rattle.hl_parser.proofs.Claims.{Claim, Claimed, CommasClaimed, Loops, Takes, TakesExpression, closes, edge_of}
use Rattle.hl_parser.proofs.Moves.{class_quiet, closes_no_name, edge_above, edge_high, edge_repeats, if_false, if_true, joins_assign, joins_high, level_assign, level_not_unary, level_repeating, level_step, operand_basic, operand_never, operand_prefix, operand_word, operator_assign, operator_repeating, operator_step, quiet_closes, repeating, tail_takes, tail_yields}
use Rattle.hl_parser.proofs.Opening.{last_of_expression, not_expression, opens, peek_mark}
use Rattle.hl_parser.proofs.Runs.{Runs, does, followed_by, name, reads_at, rest_of, same_as, skip, yields_to}
use Rattle.hl_parser.proofs.Shapes.{number_is, number_of}

-- a tree that stands as an expression is read as one
as_expression : (tree : Tree) (asked : ℕ) (from to : List Numbered) → n_expr ≤ asked → asked ≤ n_primary → Spells asked tree from to → Claim tree from to → TakesExpression tree from to
as_expression (an_expr at left mark right) asked from to l u h c = c
as_expression (a_choice at condition consequent alternative) asked from to l u h c = c
as_expression (a_binary production at left mark right) asked from to l u h c = c
as_expression (a_unary at cast operand) asked from to l u h c = c
as_expression (a_postfix at operand mark name part) asked from to l u h c = c
as_expression (a_primary at part arguments) asked from to l u h c = c
as_expression tree asked from to l u h c = not_expression tree asked from to l u refl h

-- its production
record Between (asked : ℕ) (tree : Tree) : Type 0 where
  low : asked ≤ number_of tree
  high : number_of tree ≤ 42

between : (tree : Tree) (asked : ℕ) (from to : List Numbered) → n_expr ≤ asked → asked ≤ n_primary → Spells asked tree from to → Between asked tree
between tree asked from to l u h =
    let n = number_is tree asked from to h in
    let last = last_of_expression asked l u in
    record { low = n.from; high = omega arith }

-- a whole expression of at least a level
pub whole : (k : ℕ) (tree : Tree) (from to : List Numbered) → n_expr ≤ k → k ≤ n_primary → Claimed k tree from to → level_of (peek to) < k → is (peek to) terminals.OpenParenthesis ≡ false → Takes (symbols.Operand k) tree from to
whole k tree from to l u c below no_call = λ K vs w rest.
    let b = between tree k from to l u c.spelled in
    let above = edge_above (number_of tree) b.high in
    as_expression tree k from to l u c.spelled c.claim k K vs w b.low (record { below = omega arith; no_call = no_call })
    (yields_to [] to (tail_yields (number_of tree) k (peek to) (peek (rest_of to)) below) rest)

-- a whole expression before a token that closes it
pub closed : (tree : Tree) (from to : List Numbered) → Claimed n_expr tree from to → closes (peek to) ≡ true → Takes (symbols.Operand 27) tree from to
closed tree from to c e =
    let q = quiet_closes to e in
    whole n_expr tree from to (omega arith) (omega arith) c q.below q.no_call

-- the left side of an operator
left_side : (asked level k : ℕ) (tree : Tree) (t : Terminal) (from m : List Numbered) (K : List Symbol) (vs : List Value) (w : Option Kept) →
    n_expr ≤ asked → asked ≤ n_primary → Claimed asked tree from m → peek m ≡ t → level_of t ≡ level → k ≤ asked → level < edge_of (number_of tree) → is t terminals.OpenParenthesis ≡ false →
    Runs (symbols.Tail (number_of tree) k ∷ K) (kept (tree_value tree ∷ vs)) m w → Runs (symbols.Operand k ∷ K) (kept vs) from w
left_side asked level k tree t from m K vs w l u c e f low below no_call rest =
    let b = between tree asked from m l u c.spelled in
    let same : level_of (peek m) ≡ level = ap level_of e ∙ f in
    as_expression tree asked from m l u c.spelled c.claim k K vs w (omega arith)
    (record { below = omega arith; no_call = ap (λ x. is x terminals.OpenParenthesis) e ∙ no_call }) rest

level_true : (production : ℕ) → n_or ≤ production → production ≤ n_product → is_level production ≡ true
level_true production low high =
    ap₂ (λ x y. x && y) (le-leb n_or production low) (le-leb production n_product high)

pub binary_reads : (production at : ℕ) (left : Tree) (mark : ℕ) (right : Tree) (from m n to : List Numbered) → n_or ≤ production → production ≤ n_product → at ≡ at_of left → Claimed production left from m → Operator mark production m n → Claimed (suc production) right n to → TakesExpression (a_binary production at left mark right) from to
binary_reads production at left mark right from m n to low high e cl (t, eo, em) cr = λ k K vs w k_low quiet rest.
    let b = between left production from m (omega arith) (omega arith) cl.spelled in
    let rep = repeating t production (omega arith) eo in
    let level : level_of t ≡ production = level_repeating t rep ∙ eo in
    let edge = edge_high (number_of left) (omega arith) b.high in
    let joins = joins_high (number_of left) (omega arith) in
    let quiet_below : level_of (peek to) < suc production = subst (λ x. level_of (peek to) < x) (edge_repeats production low high) quiet.below in
    left_side production production k left t from m K vs w (omega arith) (omega arith) cl (ap peek em) level k_low (omega arith)
    (class_quiet is_repeating production t refl rep)
    (reads_at (acts.Here ∷ []) (symbols.Operand (suc production) ∷ symbols.Make (acts.Binary production) ∷ symbols.Tail production k ∷ []) em
    (tail_takes (number_of left) k production t (peek n) level k_low (omega arith) ∙ operator_repeating k t rep
    ∙ ap (λ p. reads (acts.Here ∷ []) (symbols.Operand (suc p) ∷ symbols.Make (acts.Binary p) ∷ symbols.Tail p k ∷ [])) eo)
    (whole (suc production) right n to (omega arith) (omega arith) cr quiet_below quiet.no_call _ _ _
    (does (subst (λ V. Runs (symbols.Tail production k ∷ K) V to w) (sym (if_true (is_level production) (make_binary production (tree_value right ∷ token_value mark ∷ tree_value left ∷ vs)) gone (level_true production low high)))
    (subst (λ a. Runs (symbols.Tail production k ∷ K) (kept (tree_value (a_binary production a left mark right) ∷ vs)) to w) e rest)))))

pub assignment_reads : (at : ℕ) (left : Tree) (mark : ℕ) (right : Tree) (from m n to : List Numbered) → at ≡ at_of left → Claimed n_choice left from m → Word mark is_assign m n → Claimed n_expr right n to → TakesExpression (an_expr at left mark right) from to
assignment_reads at left mark right from m n to e cl (t, c, em) cr = λ k K vs w k_low quiet rest.
    let b = between left n_choice from m (omega arith) (omega arith) cl.spelled in
    let level = level_assign t c in
    let edge = edge_above (number_of left) b.high in
    left_side n_choice 27 k left t from m K vs w (omega arith) (omega arith) cl (ap peek em) level (omega arith) (omega arith)
    (class_quiet is_assign 27 t refl c)
    (reads_at (acts.Here ∷ []) (symbols.Operand 27 ∷ symbols.Make acts.Assignment ∷ symbols.Tail 27 k ∷ []) em
    (tail_takes (number_of left) k 27 t (peek n) level k_low (joins_assign (number_of left) b.low) ∙ operator_assign k t c)
    (whole n_expr right n to (omega arith) (omega arith) cr quiet.below quiet.no_call _ _ _
    (does (subst (λ a. Runs (symbols.Tail 27 k ∷ K) (kept (tree_value (an_expr a left mark right) ∷ vs)) to w) e rest))))

pub choice_reads : (at : ℕ) (condition consequent alternative : Tree) (from m n o p to : List Numbered) → at ≡ at_of condition → Claimed n_or condition from m → Mark terminals.Question m n → Claimed n_expr consequent n o → Mark terminals.Colon o p → Claimed n_choice alternative p to → TakesExpression (a_choice at condition consequent alternative) from to
choice_reads at condition consequent alternative from m n o p to e cc question cs colon ca = λ k K vs w k_low quiet rest.
    let b = between condition n_or from m (omega arith) (omega arith) cc.spelled in
    let edge = edge_above (number_of condition) b.high in
    let joins = joins_high (number_of condition) b.low in
    left_side n_or 29 k condition terminals.Question from m K vs w (omega arith) (omega arith) cc (peek_mark question) refl (omega arith) (omega arith) refl
    (reads_at [] (symbols.Operand 27 ∷ symbols.Skip terminals.Colon ∷ symbols.Operand 29 ∷ symbols.Make acts.Choice ∷ symbols.Tail 29 k ∷ []) question.1
    (tail_takes (number_of condition) k 29 terminals.Question (peek n) refl k_low (omega arith))
    (closed consequent n o cs (ap closes (peek_mark colon)) _ _ _
    (skip colon
    (whole n_choice alternative p to (omega arith) (omega arith) ca quiet.below quiet.no_call _ _ _
    (does (subst (λ a. Runs (symbols.Tail 29 k ∷ K) (kept (tree_value (a_choice a condition consequent alternative) ∷ vs)) to w) e rest))))))

pub unary_reads : (at : ℕ) (operand : Tree) (from m to : List Numbered) → Word at is_prefix from m → Claimed n_unary operand m to → TakesExpression (a_unary at absent operand) from to
unary_reads at operand from m to (t, c, em) co = λ k K vs w k_low quiet rest.
    reads_at (acts.Here ∷ []) (symbols.Operand 40 ∷ symbols.Make acts.Unary ∷ symbols.Tail 40 k ∷ []) em (operand_prefix k t (peek m) c)
    (whole n_unary operand m to (omega arith) (omega arith) co (level_not_unary (peek to) quiet.below) quiet.no_call _ _ _ (does rest))

pub cast_reads : (at at_basic : ℕ) (operand : Tree) (from m n o to : List Numbered) → Token at terminals.OpenParenthesis from m → Word at_basic is_basic m n → Mark terminals.CloseParenthesis n o → Claimed n_unary operand o to → TakesExpression (a_unary at (present (a_basic at_basic)) operand) from to
cast_reads at at_basic operand from m n o to open_mark (t, c, em) close_mark co = λ k K vs w k_low quiet rest.
    reads_at (acts.Here ∷ []) (symbols.Parenthesis k ∷ []) open_mark refl
    (reads_at (acts.Here ∷ [])
    (symbols.Make acts.Basic ∷ symbols.Skip terminals.CloseParenthesis ∷ symbols.Operand 40 ∷ symbols.Make acts.Cast ∷ symbols.Tail 40 k ∷ []) em
    (if_true (is_basic t && is (peek n) terminals.CloseParenthesis) _ _ (ap (λ b. b && is (peek n) terminals.CloseParenthesis) c ∙ ap (λ x. is x terminals.CloseParenthesis) (peek_mark close_mark)))
    (does (skip close_mark
    (whole n_unary operand o to (omega arith) (omega arith) co (level_not_unary (peek to) quiet.below) quiet.no_call _ _ _ (does rest)))))

-- what stands behind an operand

behind_operand : (k : ℕ) (operand : Tree) (t : Terminal) (from m : List Numbered) (K : List Symbol) (vs : List Value) (w : Option Kept) → k ≤ 41 → Claimed n_postfix operand from m → peek m ≡ t → level_of t ≡ 41 → is t terminals.OpenParenthesis ≡ false →
    Runs (symbols.Tail (number_of operand) k ∷ K) (kept (tree_value operand ∷ vs)) m w → Runs (symbols.Operand k ∷ K) (kept vs) from w
behind_operand k operand t from m K vs w k_low c e level no_call rest =
    let b = between operand n_postfix from m (omega arith) (omega arith) c.spelled in
    let edge = edge_high (number_of operand) (omega arith) b.high in
    left_side n_postfix 41 k operand t from m K vs w (omega arith) (omega arith) c e level k_low (omega arith) no_call rest

takes_postfix : (k : ℕ) (operand : Tree) (t next : Terminal) (from m : List Numbered) → k ≤ 41 → Claimed n_postfix operand from m → level_of t ≡ 41 → move_of (symbols.Tail (number_of operand) k) t next ≡ Rattle.hl_parser.specs.Machine.on_operator k t
takes_postfix k operand t next from m k_low c level =
    let b = between operand n_postfix from m (omega arith) (omega arith) c.spelled in
    let joins = joins_high (number_of operand) (omega arith) in
    tail_takes (number_of operand) k 41 t next level k_low (omega arith)

pub field_reads : (at : ℕ) (operand : Tree) (mark index : ℕ) (from m n to : List Numbered) → at ≡ at_of operand → Claimed n_postfix operand from m → Token mark terminals.Dot m n → Token index terminals.Name n to → TakesExpression (a_postfix at operand mark (Some index) absent) from to
field_reads at operand mark index from m n to e c dot member = λ k K vs w k_low quiet rest.
    behind_operand k operand terminals.Dot from m K vs w k_low c (ap peek dot) refl refl
    (reads_at (acts.Here ∷ []) (symbols.Name ∷ symbols.MethodArguments ∷ symbols.Make acts.Field ∷ symbols.Tail 41 k ∷ []) dot
    (takes_postfix k operand terminals.Dot (peek n) from m k_low c refl)
    (name member
    (yields_to (acts.Absent ∷ []) to (if_false (is (peek to) terminals.OpenParenthesis) _ _ quiet.no_call)
    (does (subst (λ a. Runs (symbols.Tail 41 k ∷ K) (kept (tree_value (a_postfix a operand mark (Some index) absent) ∷ vs)) to w) e rest)))))

pub method_reads : (at : ℕ) (operand : Tree) (mark index : ℕ) (arguments : Tree) (from m n o to : List Numbered) → at ≡ at_of operand → Claimed n_postfix operand from m → Token mark terminals.Dot m n → Token index terminals.Name n o → peek o ≡ terminals.OpenParenthesis → Takes symbols.Args arguments o to → TakesExpression (a_postfix at operand mark (Some index) (present arguments)) from to
method_reads at operand mark index arguments from m n o to e c dot member parenthesis args = λ k K vs w k_low quiet rest.
    behind_operand k operand terminals.Dot from m K vs w k_low c (ap peek dot) refl refl
    (reads_at (acts.Here ∷ []) (symbols.Name ∷ symbols.MethodArguments ∷ symbols.Make acts.Field ∷ symbols.Tail 41 k ∷ []) dot
    (takes_postfix k operand terminals.Dot (peek n) from m k_low c refl)
    (name member
    (same_as symbols.Args o (if_true (is (peek o) terminals.OpenParenthesis) (on_args (peek o)) _ (ap (λ x. is x terminals.OpenParenthesis) parenthesis))
    (args _ _ _
    (does (subst (λ a. Runs (symbols.Tail 41 k ∷ K) (kept (tree_value (a_postfix a operand mark (Some index) (present arguments)) ∷ vs)) to w) e rest))))))

pub index_reads : (at : ℕ) (operand : Tree) (mark : ℕ) (index : Tree) (from m n o to : List Numbered) → at ≡ at_of operand → Claimed n_postfix operand from m → Token mark terminals.OpenBracket m n → Claimed n_expr index n o → Mark terminals.CloseBracket o to → TakesExpression (a_postfix at operand mark None (present index)) from to
index_reads at operand mark index from m n o to e c bracket ci close_mark = λ k K vs w k_low quiet rest.
    behind_operand k operand terminals.OpenBracket from m K vs w k_low c (ap peek bracket) refl refl
    (reads_at (acts.Here ∷ []) (symbols.Operand 27 ∷ symbols.Skip terminals.CloseBracket ∷ symbols.Make acts.Index ∷ symbols.Tail 41 k ∷ []) bracket
    (takes_postfix k operand terminals.OpenBracket (peek n) from m k_low c refl)
    (closed index n o ci (ap closes (peek_mark close_mark)) _ _ _
    (skip close_mark
    (does (subst (λ a. Runs (symbols.Tail 41 k ∷ K) (kept (tree_value (a_postfix a operand mark None (present index)) ∷ vs)) to w) e rest)))))

pub step_reads : (at : ℕ) (operand : Tree) (mark : ℕ) (from m to : List Numbered) → at ≡ at_of operand → Claimed n_postfix operand from m → Word mark is_step m to → TakesExpression (a_postfix at operand mark None absent) from to
step_reads at operand mark from m to e c (t, ct, em) = λ k K vs w k_low quiet rest.
    behind_operand k operand t from m K vs w k_low c (ap peek em) (level_step t ct) (class_quiet is_step 41 t refl ct)
    (reads_at (acts.Here ∷ []) (symbols.Make acts.Step ∷ symbols.Tail 41 k ∷ []) em
    (takes_postfix k operand t (peek to) from m k_low c (level_step t ct) ∙ operator_step k t ct)
    (does (subst (λ a. Runs (symbols.Tail 41 k ∷ K) (kept (tree_value (a_postfix a operand mark None absent) ∷ vs)) to w) e rest)))

-- what stands alone

pub word_reads : (at : ℕ) (from to : List Numbered) → Word at is_word from to → TakesExpression (a_primary at absent absent) from to
word_reads at from to (t, c, em) = λ k K vs w k_low quiet rest.
    reads_at (acts.Here ∷ []) (symbols.Make acts.Word ∷ symbols.Tail 42 k ∷ []) em (operand_word k t (peek to) c quiet.no_call) (does rest)

pub call_reads : (at : ℕ) (arguments : Tree) (from m to : List Numbered) → Token at terminals.Name from m → peek m ≡ terminals.OpenParenthesis → Takes symbols.Args arguments m to → TakesExpression (a_primary at absent (present arguments)) from to
call_reads at arguments from m to em parenthesis args = λ k K vs w k_low quiet rest.
    reads_at (acts.Here ∷ []) (symbols.Args ∷ symbols.Make acts.Call ∷ symbols.Tail 42 k ∷ []) em
    (if_true (is (peek m) terminals.OpenParenthesis) _ _ (ap (λ x. is x terminals.OpenParenthesis) parenthesis))
    (args _ _ _ (does rest))

pub constructor_reads : (at at_basic : ℕ) (arguments : Tree) (from m to : List Numbered) → at ≡ at_basic → Word at_basic is_basic from m → Takes symbols.Args arguments m to → TakesExpression (a_primary at (present (a_basic at_basic)) (present arguments)) from to
constructor_reads at at_basic arguments from m to e (t, c, em) args = λ k K vs w k_low quiet rest.
    reads_at (acts.Here ∷ []) (symbols.Make acts.Basic ∷ symbols.Args ∷ symbols.Make acts.Constructor ∷ symbols.Tail 42 k ∷ []) em (operand_basic k t (peek m) c)
    (does (args _ _ _ (does (subst (λ a. Runs (symbols.Tail 42 k ∷ K) (kept (tree_value (a_primary a (present (a_basic at_basic)) (present arguments)) ∷ vs)) to w) e rest))))

pub parentheses_reads : (at : ℕ) (inner : Tree) (from m n to : List Numbered) → Token at terminals.OpenParenthesis from m → Claimed n_expr inner m n → Mark terminals.CloseParenthesis n to → TakesExpression (a_primary at (present inner) absent) from to
parentheses_reads at inner from m n to open_mark c close_mark = λ k K vs w k_low quiet rest.
    let close_test : closes (peek n) ≡ true = ap closes (peek_mark close_mark) in
    let o = opens inner n_expr m n (omega arith) (omega arith) c.spelled (closes_no_name (peek n) close_test) in
    reads_at (acts.Here ∷ []) (symbols.Parenthesis k ∷ []) open_mark refl
    (followed_by (symbols.Operand 27) (symbols.Skip terminals.CloseParenthesis ∷ symbols.Make acts.Parentheses ∷ symbols.Tail 42 k ∷ []) m
    (if_false (is_basic (peek m) && is (peek (rest_of m)) terminals.CloseParenthesis) _ _ o.no_cast)
    (operand_never 27 (peek m) (peek (rest_of m)))
    (closed inner m n c close_test _ _ _ (skip close_mark (does rest))))

-- lists of expressions

pub commas_close : (asked : ℕ) (test : Terminal → Bool) (trees : Trees) (from to : List Numbered) → test terminals.Comma ≡ true → CommasClaimed asked trees from to → test (peek to) ≡ true → test (peek from) ≡ true
commas_close asked test no_trees from to comma e h = ap (λ ts. test (peek ts)) e ∙ h
commas_close asked test (more_trees first rest) from to comma (m, hm, more) h = ap test (peek_mark hm) ∙ comma

pub expressions_loop : (trees : Trees) (from to : List Numbered) → CommasClaimed n_expr trees from to → closes (peek to) ≡ true → Loops symbols.Expressions trees from to
expressions_loop no_trees from to e c = λ K vs done w move rest.
    subst (λ ts. Runs (symbols.Expressions ∷ K) (kept (trees_value done ∷ vs)) ts w) (sym e) (yields_to [] to move rest)
expressions_loop (more_trees first others) from to (m, comma, (n, cf, more)) c = λ K vs done w move rest.
    reads_at [] (symbols.Operand 27 ∷ symbols.Make acts.Append ∷ symbols.Expressions ∷ []) comma.1 refl
    (closed first m n cf (commas_close n_expr closes others n to refl more c) _ _ _
    (does (expressions_loop others n to more c K vs (append_tree done first) w move rest)))
