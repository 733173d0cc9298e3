-- The machine reads statements, one lemma a form.
use Rattle.std.proofs.Common.{◌≡◌, ◌≢◌, ◌∙◌, refl, sym, ap, subst, ℕ, Bool, true, false, not, ◌&&◌, ◌||◌, inl, inr, Option, None, Some, List, [], ◌∷◌, ◌++◌, arith}
use Rattle.hl_lexer.specs.declared.terminal.Terminal.{Terminal}
use Rattle.hl_lexer.specs.declared.terminal.Terminal.TheVariants as terminals
use Rattle.hl_parser.specs.declared.act.Act.TheVariants as acts
use Rattle.hl_parser.specs.declared.symbol.Symbol.{Symbol}
use Rattle.hl_parser.specs.declared.symbol.Symbol.TheVariants as symbols
use Rattle.hl_parser.specs.Codes.{is}
use Rattle.hl_parser.specs.Grammar.{Each, Headed, Mark, Numbered, PerhapsToken, Spells, Token, Word, first_among, first_of, is_basic, is_jump, n_attribute, n_block, n_declarator, n_do, n_expr, n_for, n_if, n_jump, n_local, n_start, n_stmt, n_type, n_while, nth, peek}
use Rattle.hl_parser.specs.Machine.{Kept, Value, begins_expression, begins_local, begins_statement, begins_type, followed, is_control, kept, led, move_of, on_attributed, on_block, on_first, on_local, on_operand, on_statement, on_type, reads, rest_of_attribute, token_value, tree_value, trees_value, yields}
use Rattle.hl_parser.specs.Trees.{Tree, a_declarator, a_block, a_stmt, a_local, a_start, an_if, a_for, a_while, a_do, a_jump, Trees, no_trees, more_trees, Maybe, absent, present, at_of}
use Rattle.hl_parser.proofs.Claims.{Claimed, CommasClaimed, EachClaimed, ElseClaimed, FirstClaimed, InitClaimed, Loops, Takes, TakesBefore, always, PerhapsClaimed, append_trees, closes, ends_declarator, ends_local, ends_start}
use Rattle.hl_parser.proofs.Moves.{closes_no_name, if_false, if_true, never_followed, never_if, never_led, never_only, operand_never, type_never}
use Rattle.hl_parser.proofs.Opening.{opens, peek_mark}
use Rattle.hl_parser.proofs.ReadExpressions.{closed, commas_close}
use Rattle.hl_parser.proofs.ReadLists.{all_appended, attributes_loop, comma_loop, each_loop, none_appended}
use Rattle.hl_parser.proofs.Runs.{NeverYields, Runs, does, followed_by, led_by, move_at, reads_at, rest_of, same_as, skip, yields_to}
use Rattle.hl_parser.proofs.Shapes.{number_is}
use Rattle.hl_parser.proofs.Terminals.{by_every, implies, not_true}
use Rattle.hl_parser.proofs.ReadDeclarations.{option_value, or_left, type_begins, type_token}
use Rattle.hl_parser.proofs.ReadFunctions.{attribute_begins, maybe_value}
use Rattle.hl_parser.proofs.StandsAs.{as_attribute, as_block, as_declarator, as_init, as_jump, as_local, as_start, as_stmt, as_type}
use Rattle.hl_parser.proofs.Terminals.{every, implied, same_is}

-- ---- locals

pub start_read : (at : ℕ) (declarator : Tree) (init : Maybe) (from m to : List Numbered) → at ≡ at_of declarator → Claimed n_declarator declarator from m → InitClaimed init m to → TakesBefore ends_start symbols.Start [] (a_start at declarator init) from to
start_read at declarator absent from m to e cd is_end = λ K vs w end rest.
    followed_by symbols.Declarator (symbols.StartInit ∷ symbols.Make acts.Start ∷ []) from refl (never_only (peek from) terminals.Name _ tt)
    (as_declarator declarator from m cd _ _ _ (ap (λ ts. ends_declarator (peek ts)) is_end ∙ by_every ends_start ends_declarator refl (peek to) end)
    (subst (λ ts. Runs (symbols.StartInit ∷ symbols.Make acts.Start ∷ K) (kept (tree_value declarator ∷ vs)) ts w) (sym is_end)
    (yields_to (acts.Absent ∷ []) to (if_false (is (peek to) terminals.Equals) _ _ (not_true _ (by_every ends_start (λ t. not (is t terminals.Equals)) refl (peek to) end)))
    (does (subst (λ a. Runs K (kept (tree_value (a_start a declarator absent) ∷ vs)) to w) e rest)))))
start_read at declarator (present init) from m to e cd (n, equals, ci) = λ K vs w end rest.
    followed_by symbols.Declarator (symbols.StartInit ∷ symbols.Make acts.Start ∷ []) from refl (never_only (peek from) terminals.Name _ tt)
    (as_declarator declarator from m cd _ _ _ (ap ends_declarator (peek_mark equals))
    (reads_at [] (symbols.Init ∷ []) equals.1 refl
    (as_init init n to ci _ _ _ (by_every ends_start closes refl (peek to) end)
    (does (subst (λ a. Runs K (kept (tree_value (a_start a declarator (present init)) ∷ vs)) to w) e rest)))))

starts_loop : (trees : Trees) (from to : List Numbered) → CommasClaimed n_start trees from to → ends_start (peek to) ≡ true → Loops symbols.Starts trees from to
starts_loop = comma_loop symbols.Starts symbols.Start n_start ends_start (λ next. refl) refl as_start

local_made : (at : ℕ) (constant : Option ℕ) (type : Tree) (starts : Trees) (to : List Numbered) (K : List Symbol) (vs : List Value) (w : Option Kept) → at ≡ first_of constant (at_of type) → Runs K (kept (tree_value (a_local at constant type starts) ∷ vs)) to w → Runs (symbols.Make acts.Local ∷ K) (kept (trees_value starts ∷ tree_value type ∷ option_value constant ∷ vs)) to w
local_made at None type starts to K vs w e rest = does (subst (λ a. Runs K (kept (tree_value (a_local a None type starts) ∷ vs)) to w) e rest)
local_made at (Some c) type starts to K vs w e rest = does (subst (λ a. Runs K (kept (tree_value (a_local a (Some c) type starts) ∷ vs)) to w) e rest)

-- from the type of a local on
local_rest : (at : ℕ) (constant : Option ℕ) (type first : Tree) (others : Trees) (from m n to : List Numbered) (K : List Symbol) (vs : List Value) (w : Option Kept) → at ≡ first_of constant (at_of type) → Claimed n_type type from m → Claimed n_start first m n → CommasClaimed n_start others n to → ends_local (peek to) ≡ true → Runs K (kept (tree_value (a_local at constant type (more_trees first others)) ∷ vs)) to w →
    Runs (symbols.Type ∷ symbols.Make acts.Empty ∷ symbols.Start ∷ symbols.Make acts.Append ∷ symbols.Starts ∷ symbols.Make acts.Local ∷ K) (kept (option_value constant ∷ vs)) from w
local_rest at constant type first others from m n to K vs w e ct cf more end rest =
    let end_start : ends_start (peek to) ≡ true = by_every ends_local ends_start refl (peek to) end in
    let behind : ends_start (peek n) ≡ true = commas_close n_start ends_start others n to refl more end_start in
    as_type type from m ct _ _ _
    (does (as_start first m n cf _ _ _ behind
    (does (starts_loop others n to more end_start _ _ _ _ (if_false (is (peek to) terminals.Comma) _ _ (not_true _ (by_every ends_local (λ t. not (is t terminals.Comma)) refl (peek to) end)))
    (local_made at constant type (append_trees (more_trees first no_trees) others) to K vs w e
    (subst (λ ts. Runs K (kept (tree_value (a_local at constant type ts) ∷ vs)) to w) (sym (all_appended first others)) rest))))))

pub local_read : (at : ℕ) (constant : Option ℕ) (type first : Tree) (others : Trees) (from m n o to : List Numbered) → at ≡ first_of constant (at_of type) → PerhapsToken constant terminals.Const from m → Claimed n_type type m n → Claimed n_start first n o → CommasClaimed n_start others o to → TakesBefore ends_local symbols.Local [] (a_local at constant type (more_trees first others)) from to
local_read at (Some c) type first others from m n o to e constant ct cf more = λ K vs w end rest.
    reads_at (acts.Here ∷ [])
    (symbols.Type ∷ symbols.Make acts.Empty ∷ symbols.Start ∷ symbols.Make acts.Append ∷ symbols.Starts ∷ symbols.Make acts.Local ∷ []) constant refl
    (local_rest at (Some c) type first others m n o to K vs w e ct cf more end rest)
local_read at None type first others from m n o to e is_start ct cf more = λ K vs w end rest.
    subst (λ ts. Runs (symbols.Local ∷ K) (kept vs) ts w) (sym is_start)
    (led_by symbols.Type (acts.Absent ∷ [])
    (symbols.Make acts.Empty ∷ symbols.Start ∷ symbols.Make acts.Append ∷ symbols.Starts ∷ symbols.Make acts.Local ∷ []) m
    (if_true (begins_type (peek m)) _ _ (type_begins type m n ct.spelled)) (type_never (peek m))
    (local_rest at None type first others m n o to K vs w e ct cf more end rest))

-- a local begins as none but a local does

start_named : (tree : Tree) (from to : List Numbered) → Spells n_start tree from to → peek from ≡ terminals.Name
start_named (a_start at declarator init) from to (a, b, (e, (m, hd, h))) = declarator_named declarator from m hd
  where
    declarator_named : (tree : Tree) (from to : List Numbered) → Spells n_declarator tree from to → peek from ≡ terminals.Name
    declarator_named (a_declarator at lengths) from to (a, b, (m, e, h)) = ap peek e
    declarator_named tree from to h = let n = number_is tree n_declarator from to h in absurd (omega arith)
start_named tree from to h = let n = number_is tree n_start from to h in absurd (omega arith)

local_by_type : (t : Terminal) → begins_type t ≡ true → begins_local t terminals.Name ≡ true
local_by_type t e = by_every begins_type (λ t. begins_local t terminals.Name) refl t e

pub local_begins : (tree : Tree) (from to : List Numbered) → Spells n_local tree from to → begins_local (peek from) (peek (rest_of from)) ≡ true
local_begins (a_local at (Some c) type starts) from to (a, b, (e, (m, constant, h))) =
    ap (λ ts. begins_local (peek ts) (peek (rest_of ts))) constant
local_begins (a_local at None type no_trees) from to (a, b, (e, (m, is_start, (n, ht, h)))) = absurd h
local_begins (a_local at None type (more_trees first others)) from to (a, b, (e, (m, is_start, (n, ht, (o, hs, more))))) =
    let token = type_token type m n ht in
    ap (λ ts. begins_local (peek ts) (peek (rest_of ts))) (is_start ∙ token.token)
    ∙ (ap (begins_local token.terminal) (start_named first n o hs) ∙ local_by_type token.terminal token.begins)
local_begins tree from to h = let n = number_is tree n_local from to h in absurd (omega arith)

pub local_never : (t : Terminal) → NeverYields (on_local t)
local_never t =
    never_if (begins_type t) _ _
    (never_led (acts.Absent ∷ [])
    (followed (on_type t) (symbols.Make acts.Empty ∷ symbols.Start ∷ symbols.Make acts.Append ∷ symbols.Starts ∷ symbols.Make acts.Local ∷ [])))
    (never_only t terminals.Const _ tt)

-- ---- blocks

pub statement_never : (t next : Terminal) → NeverYields (on_statement t next)
statement_never t next =
    never_if (begins_local t next) _ _ (never_followed (on_local t) (symbols.Skip terminals.Semicolon ∷ symbols.Make acts.Part ∷ []))
    (never_if (begins_expression t) _ _ (never_followed (on_operand 27 t next) (symbols.Skip terminals.Semicolon ∷ symbols.Make acts.Part ∷ []))
    (never_if (is_control t) _ _ (never_led (acts.Empty ∷ []) (followed (on_attributed t) (symbols.Make acts.Part ∷ [])))
    (never_if (is t terminals.Return) _ _ tt (never_if (is_jump t) _ _ tt (never_if (is t terminals.OpenBracket) _ _ tt
    (never_if (is t terminals.Semicolon) _ _ tt (never_followed (on_block t) (symbols.Make acts.Part ∷ []))))))))

pub block_read : (at : ℕ) (statements : Trees) (from m n to : List Numbered) → Token at terminals.OpenBrace from m → Loops symbols.Statements statements m n → Mark terminals.CloseBrace n to → Takes symbols.Block (a_block at statements) from to
block_read at statements from m n to brace loop close_mark = λ K vs w rest.
    reads_at (acts.Here ∷ []) (symbols.Make acts.Empty ∷ symbols.Statements ∷ symbols.Skip terminals.CloseBrace ∷ symbols.Make acts.Block ∷ []) brace refl
    (does (loop _ _ _ _ (ap (λ t. move_of symbols.Statements t (peek (rest_of n))) (peek_mark close_mark))
    (skip close_mark (does (subst (λ ts. Runs K (kept (tree_value (a_block at ts) ∷ vs)) to w) (sym (none_appended statements)) rest)))))

-- ---- an `if` and loops

block_never : (t : Terminal) → NeverYields (on_block t)
block_never t = never_only t terminals.OpenBrace _ tt

attributed_never : (t : Terminal) → NeverYields (on_attributed t)
attributed_never t =
    never_if (is t terminals.If) _ _ tt (never_if (is t terminals.For) _ _ tt (never_if (is t terminals.While) _ _ tt (never_only t terminals.Do _ tt)))

statement_control : (t next : Terminal) → is_control t ≡ true → on_statement t next ≡ led (acts.Empty ∷ []) (followed (on_attributed t) (symbols.Make acts.Part ∷ []))
statement_control t next e =
    if_false (begins_local t next) _ _ (not_true _ (by_every is_control (λ t. not (begins_local t next)) refl t e))
    ∙ if_false (begins_expression t) _ _ (not_true _ (by_every is_control (λ t. not (begins_expression t)) refl t e))
    ∙ if_true (is_control t) _ _ e

-- attributes in front of a word
pub headed_read : (at : ℕ) (attributes : Trees) (index : ℕ) (word : Terminal) (from m n : List Numbered) (K : List Symbol) (vs : List Value) (w : Option Kept) → is_control word ≡ true → EachClaimed n_attribute attributes from m → Token index word m n →
    Runs (symbols.Attributed ∷ symbols.Make acts.Part ∷ K) (kept (trees_value attributes ∷ vs)) m w → Runs (symbols.Statement ∷ K) (kept vs) from w
headed_read at no_trees index word from m n K vs w control is_start token rest =
    subst (λ ts. Runs (symbols.Statement ∷ K) (kept vs) ts w) (sym is_start)
    (led_by symbols.Attributed (acts.Empty ∷ []) (symbols.Make acts.Part ∷ []) m
    (statement_control (peek m) (peek (rest_of m)) (ap (λ ts. is_control (peek ts)) token ∙ control)) (attributed_never (peek m)) rest)
headed_read at (more_trees first others) index word from m n K vs w control (l, cf, more) token rest =
    let c = as_attribute first from l cf in
    let no_more : move_at symbols.Attributes m ≡ yields [] =
    if_false (is (peek m) terminals.OpenBracket) _ _ (ap (λ ts. is (peek ts) terminals.OpenBracket) token ∙ not_true _ (by_every is_control (λ t. not (is t terminals.OpenBracket)) refl word control)) in
    reads_at (acts.Empty ∷ acts.Here ∷ []) (rest_of_attribute ++ symbols.Attributed ∷ symbols.Make acts.Part ∷ []) c.bracket refl
    (c.reads (symbols.Attributed ∷ symbols.Make acts.Part ∷ K) vs no_trees w
    (attributes_loop others l m more _ _ _ _ no_more
    (subst (λ ts. Runs (symbols.Attributed ∷ symbols.Make acts.Part ∷ K) (kept (trees_value ts ∷ vs)) m w) (sym (all_appended first others)) rest)))

is_not : (t u : Terminal) → t ≢ u → is t u ≡ false
is_not t u h = by_test (is t u) refl
  where
    by_test : (b : Bool) → is t u ≡ b → b ≡ false
    by_test true e = absurd (h (same_is t u e))
    by_test false e = refl

pub else_read : (alternative : Maybe) (from to : List Numbered) (K : List Symbol) (vs : List Value) (w : Option Kept) → ElseClaimed alternative from to → Runs K (kept (maybe_value alternative ∷ vs)) to w → Runs (symbols.Else ∷ K) (kept vs) from w
else_read absent from to K vs w (is_end, no_else) rest =
    subst (λ ts. Runs (symbols.Else ∷ K) (kept vs) ts w) (sym is_end)
    (yields_to (acts.Absent ∷ []) to (if_false (is (peek to) terminals.Else) _ _ (is_not (peek to) terminals.Else (λ e. no_else (ap peek is_end ∙ e)))) rest)
else_read (present tree) from to K vs w (m, word, c) rest =
    reads_at [] (symbols.Statement ∷ []) word.1 refl (as_stmt tree m to c _ _ _ rest)

if_made : (at : ℕ) (attributes : Trees) (index : ℕ) (condition consequent : Tree) (alternative : Maybe) (to : List Numbered) (K : List Symbol) (vs : List Value) (w : Option Kept) → at ≡ first_among attributes index → Runs K (kept (tree_value (an_if at attributes condition consequent alternative) ∷ vs)) to w → Runs (symbols.Make acts.If ∷ K) (kept (maybe_value alternative ∷ tree_value consequent ∷ tree_value condition ∷ token_value index ∷ trees_value attributes ∷ vs)) to w
if_made at attributes index condition consequent absent to K vs w e rest = does (subst (λ a. Runs K (kept (tree_value (an_if a attributes condition consequent absent) ∷ vs)) to w) e rest)
if_made at attributes index condition consequent (present tree) to K vs w e rest = does (subst (λ a. Runs K (kept (tree_value (an_if a attributes condition consequent (present tree)) ∷ vs)) to w) e rest)

pub if_read : (at : ℕ) (attributes : Trees) (index : ℕ) (condition consequent : Tree) (alternative : Maybe) (from m n o p q r to : List Numbered) → at ≡ first_among attributes index → EachClaimed n_attribute attributes from m → Token index terminals.If m n → Mark terminals.OpenParenthesis n o → Claimed n_expr condition o p → Mark terminals.CloseParenthesis p q → Claimed n_stmt consequent q r → ElseClaimed alternative r to → TakesBefore always symbols.Statement (symbols.Make acts.Part ∷ []) (an_if at attributes condition consequent alternative) from to
if_read at attributes index condition consequent alternative from m n o p q r to e ca word open_mark cc close_mark cs ce = λ K vs w end rest.
    headed_read at attributes index terminals.If from m n K vs w refl ca word
    (reads_at (acts.Here ∷ [])
    (symbols.Skip terminals.OpenParenthesis ∷ symbols.Operand 27 ∷ symbols.Skip terminals.CloseParenthesis
    ∷ symbols.Statement ∷ symbols.Else ∷ symbols.Make acts.If ∷ []) word refl
    (skip open_mark (closed condition o p cc (ap closes (peek_mark close_mark)) _ _ _
    (skip close_mark (as_stmt consequent q r cs _ _ _
    (else_read alternative r to _ _ _ ce
    (if_made at attributes index condition consequent alternative to (symbols.Make acts.Part ∷ K) vs w e rest)))))))

pub while_read : (at : ℕ) (attributes : Trees) (index : ℕ) (condition body : Tree) (from m n o p q to : List Numbered) → at ≡ first_among attributes index → EachClaimed n_attribute attributes from m → Token index terminals.While m n → Mark terminals.OpenParenthesis n o → Claimed n_expr condition o p → Mark terminals.CloseParenthesis p q → Claimed n_stmt body q to → TakesBefore always symbols.Statement (symbols.Make acts.Part ∷ []) (a_while at attributes condition body) from to
while_read at attributes index condition body from m n o p q to e ca word open_mark cc close_mark cs = λ K vs w end rest.
    headed_read at attributes index terminals.While from m n K vs w refl ca word
    (reads_at (acts.Here ∷ [])
    (symbols.Skip terminals.OpenParenthesis ∷ symbols.Operand 27 ∷ symbols.Skip terminals.CloseParenthesis
    ∷ symbols.Statement ∷ symbols.Make acts.While ∷ []) word refl
    (skip open_mark (closed condition o p cc (ap closes (peek_mark close_mark)) _ _ _
    (skip close_mark (as_stmt body q to cs _ _ _
    (does (subst (λ a. Runs (symbols.Make acts.Part ∷ K) (kept (tree_value (a_while a attributes condition body) ∷ vs)) to w) e rest)))))))

pub do_read : (at : ℕ) (attributes : Trees) (index : ℕ) (body condition : Tree) (from m n o p q r s to : List Numbered) → at ≡ first_among attributes index → EachClaimed n_attribute attributes from m → Token index terminals.Do m n → Claimed n_stmt body n o → Mark terminals.While o p → Mark terminals.OpenParenthesis p q → Claimed n_expr condition q r → Mark terminals.CloseParenthesis r s → Mark terminals.Semicolon s to → TakesBefore always symbols.Statement (symbols.Make acts.Part ∷ []) (a_do at attributes body condition) from to
do_read at attributes index body condition from m n o p q r s to e ca word cs while_word open_mark cc close_mark semicolon = λ K vs w end rest.
    headed_read at attributes index terminals.Do from m n K vs w refl ca word
    (reads_at (acts.Here ∷ [])
    (symbols.Statement ∷ symbols.Skip terminals.While ∷ symbols.Skip terminals.OpenParenthesis ∷ symbols.Operand 27
    ∷ symbols.Skip terminals.CloseParenthesis ∷ symbols.Skip terminals.Semicolon ∷ symbols.Make acts.Do ∷ []) word refl
    (as_stmt body n o cs _ _ _
    (skip while_word (skip open_mark (closed condition q r cc (ap closes (peek_mark close_mark)) _ _ _
    (skip close_mark (skip semicolon
    (does (subst (λ a. Runs (symbols.Make acts.Part ∷ K) (kept (tree_value (a_do a attributes body condition) ∷ vs)) to w) e rest)))))))))

-- the parts of the head of a `for`

no_local_at_end : (t next : Terminal) → closes t ≡ true → begins_local t next ≡ false
no_local_at_end t next e = not_true _ (by_every closes (λ t. not (begins_local t next)) refl t e)

no_expression_at_end : (t : Terminal) → closes t ≡ true → begins_expression t ≡ false
no_expression_at_end t e = not_true _ (by_every closes (λ t. not (begins_expression t)) refl t e)

pub optional_read : (tree : Maybe) (from to : List Numbered) (K : List Symbol) (vs : List Value) (w : Option Kept) → PerhapsClaimed n_expr tree from to → closes (peek to) ≡ true → Runs K (kept (maybe_value tree ∷ vs)) to w → Runs (symbols.Optional ∷ K) (kept vs) from w
optional_read absent from to K vs w is_end end rest =
    subst (λ ts. Runs (symbols.Optional ∷ K) (kept vs) ts w) (sym is_end)
    (yields_to (acts.Absent ∷ []) to (if_false (begins_expression (peek to)) _ _ (no_expression_at_end (peek to) end)) rest)
optional_read (present tree) from to K vs w c end rest =
    let opening = opens tree n_expr from to (omega arith) (omega arith) c.spelled (closes_no_name (peek to) end) in
    same_as (symbols.Operand 27) from (if_true (begins_expression (peek from)) _ _ opening.begins) (closed tree from to c end _ _ _ rest)

pub first_read : (tree : Maybe) (from to : List Numbered) (K : List Symbol) (vs : List Value) (w : Option Kept) → FirstClaimed tree from to → peek to ≡ terminals.Semicolon → Runs K (kept (maybe_value tree ∷ vs)) to w → Runs (symbols.First ∷ K) (kept vs) from w
first_read absent from to K vs w is_end end rest =
    subst (λ ts. Runs (symbols.First ∷ K) (kept vs) ts w) (sym is_end)
    (yields_to (acts.Absent ∷ []) to (ap (λ t. on_first t (peek (rest_of to))) end) rest)
first_read (present tree) from to K vs w (inl c) end rest =
    same_as symbols.Local from (if_true (begins_local (peek from) (peek (rest_of from))) _ _ (local_begins tree from to c.spelled))
    (as_local tree from to c _ _ _ (ap ends_local end) rest)
first_read (present tree) from to K vs w (inr c) end rest =
    let opening = opens tree n_expr from to (omega arith) (omega arith) c.spelled (ap (λ t. is t terminals.Name) end) in
    same_as (symbols.Operand 27) from
    (if_false (begins_local (peek from) (peek (rest_of from))) _ _ opening.no_local ∙ if_true (begins_expression (peek from)) _ _ opening.begins)
    (closed tree from to c (ap closes end) _ _ _ rest)

for_made : (at : ℕ) (attributes : Trees) (index : ℕ) (first condition step : Maybe) (body : Tree) (to : List Numbered) (K : List Symbol) (vs : List Value) (w : Option Kept) → at ≡ first_among attributes index → Runs K (kept (tree_value (a_for at attributes first condition step body) ∷ vs)) to w → Runs (symbols.Make acts.For ∷ K) (kept (tree_value body ∷ maybe_value step ∷ maybe_value condition ∷ maybe_value first ∷ token_value index ∷ trees_value attributes ∷ vs)) to w
for_made at attributes index absent absent absent body to K vs w e rest = does (subst (λ a. Runs K (kept (tree_value (a_for a attributes absent absent absent body) ∷ vs)) to w) e rest)
for_made at attributes index absent absent (present s) body to K vs w e rest = does (subst (λ a. Runs K (kept (tree_value (a_for a attributes absent absent (present s) body) ∷ vs)) to w) e rest)
for_made at attributes index absent (present c) absent body to K vs w e rest = does (subst (λ a. Runs K (kept (tree_value (a_for a attributes absent (present c) absent body) ∷ vs)) to w) e rest)
for_made at attributes index absent (present c) (present s) body to K vs w e rest = does (subst (λ a. Runs K (kept (tree_value (a_for a attributes absent (present c) (present s) body) ∷ vs)) to w) e rest)
for_made at attributes index (present f) absent absent body to K vs w e rest = does (subst (λ a. Runs K (kept (tree_value (a_for a attributes (present f) absent absent body) ∷ vs)) to w) e rest)
for_made at attributes index (present f) absent (present s) body to K vs w e rest = does (subst (λ a. Runs K (kept (tree_value (a_for a attributes (present f) absent (present s) body) ∷ vs)) to w) e rest)
for_made at attributes index (present f) (present c) absent body to K vs w e rest = does (subst (λ a. Runs K (kept (tree_value (a_for a attributes (present f) (present c) absent body) ∷ vs)) to w) e rest)
for_made at attributes index (present f) (present c) (present s) body to K vs w e rest = does (subst (λ a. Runs K (kept (tree_value (a_for a attributes (present f) (present c) (present s) body) ∷ vs)) to w) e rest)

pub for_read : (at : ℕ) (attributes : Trees) (index : ℕ) (first condition step : Maybe) (body : Tree) (from m n o p q r s t to : List Numbered) → at ≡ first_among attributes index → EachClaimed n_attribute attributes from m → Token index terminals.For m n → Mark terminals.OpenParenthesis n o → FirstClaimed first o p → Mark terminals.Semicolon p q → PerhapsClaimed n_expr condition q r → Mark terminals.Semicolon r s → (u : List Numbered) → PerhapsClaimed n_expr step s t → Mark terminals.CloseParenthesis t u → Claimed n_stmt body u to → TakesBefore always symbols.Statement (symbols.Make acts.Part ∷ []) (a_for at attributes first condition step body) from to
for_read at attributes index first condition step body from m n o p q r s t to e ca word open_mark cf semicolon cc second_semicolon u cs close_mark cb = λ K vs w end rest.
    headed_read at attributes index terminals.For from m n K vs w refl ca word
    (reads_at (acts.Here ∷ [])
    (symbols.Skip terminals.OpenParenthesis ∷ symbols.First ∷ symbols.Skip terminals.Semicolon ∷ symbols.Optional
    ∷ symbols.Skip terminals.Semicolon ∷ symbols.Optional ∷ symbols.Skip terminals.CloseParenthesis ∷ symbols.Statement
    ∷ symbols.Make acts.For ∷ []) word refl
    (skip open_mark (first_read first o p _ _ _ cf (peek_mark semicolon)
    (skip semicolon (optional_read condition q r _ _ _ cc (ap closes (peek_mark second_semicolon))
    (skip second_semicolon (optional_read step s t _ _ _ cs (ap closes (peek_mark close_mark))
    (skip close_mark (as_stmt body u to cb _ _ _
    (for_made at attributes index first condition step body to (symbols.Make acts.Part ∷ K) vs w e rest))))))))))

-- ---- jumps and statements

statement_jump : (t next : Terminal) → is_jump t ≡ true → is t terminals.Return ≡ false → on_statement t next ≡ reads (acts.Here ∷ []) (symbols.Make acts.Absent ∷ symbols.Make acts.Jump ∷ symbols.Skip terminals.Semicolon ∷ symbols.Make acts.Part ∷ [])
statement_jump t next e f =
    if_false (begins_local t next) _ _ (not_true _ (by_every is_jump (λ t. not (begins_local t next)) refl t e))
    ∙ if_false (begins_expression t) _ _ (not_true _ (by_every is_jump (λ t. not (begins_expression t)) refl t e))
    ∙ if_false (is_control t) _ _ (not_true _ (by_every is_jump (λ t. not (is_control t)) refl t e))
    ∙ if_false (is t terminals.Return) _ _ f
    ∙ if_true (is_jump t) _ _ e

return_read : (at : ℕ) (value : Maybe) (from m to : List Numbered) (K : List Symbol) (vs : List Value) (w : Option Kept) → Token at terminals.Return from m → PerhapsClaimed n_expr value m to → ends_local (peek to) ≡ true → Runs (symbols.Skip terminals.Semicolon ∷ symbols.Make acts.Part ∷ K) (kept (tree_value (a_jump at value) ∷ vs)) to w → Runs (symbols.Statement ∷ K) (kept vs) from w
return_read at absent from m to K vs w e c end rest =
    reads_at (acts.Here ∷ []) (symbols.Optional ∷ symbols.Make acts.Jump ∷ symbols.Skip terminals.Semicolon ∷ symbols.Make acts.Part ∷ []) e refl
    (optional_read absent m to _ _ _ c (by_every ends_local closes refl (peek to) end) (does rest))
return_read at (present value) from m to K vs w e c end rest =
    reads_at (acts.Here ∷ []) (symbols.Optional ∷ symbols.Make acts.Jump ∷ symbols.Skip terminals.Semicolon ∷ symbols.Make acts.Part ∷ []) e refl
    (optional_read (present value) m to _ _ _ c (by_every ends_local closes refl (peek to) end) (does rest))

pub jump_read : (at : ℕ) (from to : List Numbered) → Word at is_jump from to → TakesBefore ends_local symbols.Statement (symbols.Skip terminals.Semicolon ∷ symbols.Make acts.Part ∷ []) (a_jump at absent) from to
jump_read at from to (t, c, e) = λ K vs w end rest. by_test K vs w end rest (is t terminals.Return) refl
  where
    by_test : (K : List Symbol) (vs : List Value) (w : Option Kept) → ends_local (peek to) ≡ true → Runs (symbols.Skip terminals.Semicolon ∷ symbols.Make acts.Part ∷ K) (kept (tree_value (a_jump at absent) ∷ vs)) to w → (b : Bool) → is t terminals.Return ≡ b → Runs (symbols.Statement ∷ K) (kept vs) from w
    by_test K vs w end rest true f = return_read at absent from to to K vs w (e ∙ ap (λ x. nth at x ∷ to) (same_is t terminals.Return f)) refl end rest
    by_test K vs w end rest false f =
        reads_at (acts.Here ∷ []) (symbols.Make acts.Absent ∷ symbols.Make acts.Jump ∷ symbols.Skip terminals.Semicolon ∷ symbols.Make acts.Part ∷ []) e
        (statement_jump t (peek to) c f) (does (does rest))

pub value_jump_read : (at : ℕ) (value : Tree) (from m to : List Numbered) → Token at terminals.Return from m → Claimed n_expr value m to → TakesBefore ends_local symbols.Statement (symbols.Skip terminals.Semicolon ∷ symbols.Make acts.Part ∷ []) (a_jump at (present value)) from to
value_jump_read at value from m to e c = λ K vs w end rest. return_read at (present value) from m to K vs w e c end rest

block_begins : (tree : Tree) (from to : List Numbered) → Spells n_block tree from to → peek from ≡ terminals.OpenBrace
block_begins (a_block at statements) from to (a, b, (m, e, h)) = ap peek e
block_begins tree from to h = let n = number_is tree n_block from to h in absurd (omega arith)

part_made : (at : ℕ) (part : Tree) (to : List Numbered) (K : List Symbol) (vs : List Value) (w : Option Kept) → at ≡ at_of part → Runs K (kept (tree_value (a_stmt at (present part)) ∷ vs)) to w → Runs (symbols.Make acts.Part ∷ K) (kept (tree_value part ∷ vs)) to w
part_made at part to K vs w e rest = does (subst (λ a. Runs K (kept (tree_value (a_stmt a (present part)) ∷ vs)) to w) e rest)

pub empty_statement_read : (at : ℕ) (from to : List Numbered) → Token at terminals.Semicolon from to → Takes symbols.Statement (a_stmt at absent) from to
empty_statement_read at from to e = λ K vs w rest. reads_at (acts.Here ∷ []) (symbols.Make acts.Nothing ∷ []) e refl (does rest)

pub block_statement_read : (at : ℕ) (part : Tree) (from to : List Numbered) → at ≡ at_of part → Claimed n_block part from to → Takes symbols.Statement (a_stmt at (present part)) from to
block_statement_read at part from to e c = λ K vs w rest.
    followed_by symbols.Block (symbols.Make acts.Part ∷ []) from
    (ap (λ t. on_statement t (peek (rest_of from))) (block_begins part from to c.spelled) ∙ ap (λ t. followed (on_block t) (symbols.Make acts.Part ∷ [])) (sym (block_begins part from to c.spelled)))
    (block_never (peek from))
    (as_block part from to c _ _ _ (part_made at part to K vs w e rest))

pub local_statement_read : (at : ℕ) (part : Tree) (from m to : List Numbered) → at ≡ at_of part → Claimed n_local part from m → Mark terminals.Semicolon m to → Takes symbols.Statement (a_stmt at (present part)) from to
local_statement_read at part from m to e c semicolon = λ K vs w rest.
    followed_by symbols.Local (symbols.Skip terminals.Semicolon ∷ symbols.Make acts.Part ∷ []) from
    (if_true (begins_local (peek from) (peek (rest_of from))) _ _ (local_begins part from m c.spelled)) (local_never (peek from))
    (as_local part from m c _ _ _ (ap ends_local (peek_mark semicolon)) (skip semicolon (part_made at part to K vs w e rest)))

pub expression_statement_read : (at : ℕ) (part : Tree) (from m to : List Numbered) → at ≡ at_of part → Claimed n_expr part from m → Mark terminals.Semicolon m to → Takes symbols.Statement (a_stmt at (present part)) from to
expression_statement_read at part from m to e c semicolon = λ K vs w rest.
    let opening = opens part n_expr from m (omega arith) (omega arith) c.spelled (ap (λ t. is t terminals.Name) (peek_mark semicolon)) in
    followed_by (symbols.Operand 27) (symbols.Skip terminals.Semicolon ∷ symbols.Make acts.Part ∷ []) from
    (if_false (begins_local (peek from) (peek (rest_of from))) _ _ opening.no_local ∙ if_true (begins_expression (peek from)) _ _ opening.begins)
    (operand_never 27 (peek from) (peek (rest_of from)))
    (closed part from m c (ap closes (peek_mark semicolon)) _ _ _ (skip semicolon (part_made at part to K vs w e rest)))

pub control_statement_read : (at : ℕ) (part : Tree) (from to : List Numbered) → at ≡ at_of part → TakesBefore always symbols.Statement (symbols.Make acts.Part ∷ []) part from to → Takes symbols.Statement (a_stmt at (present part)) from to
control_statement_read at part from to e h = λ K vs w rest. h K vs w refl (part_made at part to K vs w e rest)

pub jump_statement_read : (at : ℕ) (part : Tree) (from m to : List Numbered) → at ≡ at_of part → Claimed n_jump part from m → Mark terminals.Semicolon m to → Takes symbols.Statement (a_stmt at (present part)) from to
jump_statement_read at part from m to e c semicolon = λ K vs w rest.
    as_jump part from m c K vs w (ap ends_local (peek_mark semicolon)) (skip semicolon (part_made at part to K vs w e rest))

-- ---- the first tokens of statements

headed_begins : (at : ℕ) (attributes : Trees) (word : Terminal) (from to : List Numbered) → is_control word ≡ true → Headed at attributes (Each n_attribute attributes) word from to → begins_statement (peek from) ≡ true
headed_begins at no_trees word from to control (index, e, (m, is_start, token)) =
    ap (λ ts. begins_statement (peek ts)) (is_start ∙ token) ∙ by_every is_control begins_statement refl word control
headed_begins at (more_trees first others) word from to control (index, e, (m, (l, hf, more), token)) =
    ap begins_statement (attribute_begins first from l hf)

if_begins : (tree : Tree) (from to : List Numbered) → Spells n_if tree from to → begins_statement (peek from) ≡ true
if_begins (an_if at attributes condition consequent alternative) from to (a, b, (m, headed, h)) = headed_begins at attributes terminals.If from m refl headed
if_begins tree from to h = let n = number_is tree n_if from to h in absurd (omega arith)

for_begins : (tree : Tree) (from to : List Numbered) → Spells n_for tree from to → begins_statement (peek from) ≡ true
for_begins (a_for at attributes first condition step body) from to (a, b, (m, headed, h)) = headed_begins at attributes terminals.For from m refl headed
for_begins tree from to h = let n = number_is tree n_for from to h in absurd (omega arith)

while_begins : (tree : Tree) (from to : List Numbered) → Spells n_while tree from to → begins_statement (peek from) ≡ true
while_begins (a_while at attributes condition body) from to (a, b, (m, headed, h)) = headed_begins at attributes terminals.While from m refl headed
while_begins tree from to h = let n = number_is tree n_while from to h in absurd (omega arith)

do_begins : (tree : Tree) (from to : List Numbered) → Spells n_do tree from to → begins_statement (peek from) ≡ true
do_begins (a_do at attributes body condition) from to (a, b, (m, headed, h)) = headed_begins at attributes terminals.Do from m refl headed
do_begins tree from to h = let n = number_is tree n_do from to h in absurd (omega arith)

jump_begins : (tree : Tree) (from to : List Numbered) → Spells n_jump tree from to → begins_statement (peek from) ≡ true
jump_begins (a_jump at absent) from to (a, b, (t, c, e)) = ap (λ ts. begins_statement (peek ts)) e ∙ by_every is_jump begins_statement refl t c
jump_begins (a_jump at (present value)) from to (a, b, (m, e, h)) = ap (λ ts. begins_statement (peek ts)) e
jump_begins tree from to h = let n = number_is tree n_jump from to h in absurd (omega arith)

local_statement : (t next : Terminal) → begins_local t next ≡ true → begins_statement t ≡ true
local_statement t next e = implied (begins_local t next) (begins_statement t) (every_next t) e
  where
    any_next : (t : Terminal) (b c : Bool) → implies (is t terminals.Const || ((is_basic t && b) || (is t terminals.Name && c))) (begins_statement t) ≡ true
    any_next t true true = every (λ t. implies (is t terminals.Const || ((is_basic t && true) || (is t terminals.Name && true))) (begins_statement t)) refl t
    any_next t true false = every (λ t. implies (is t terminals.Const || ((is_basic t && true) || (is t terminals.Name && false))) (begins_statement t)) refl t
    any_next t false true = every (λ t. implies (is t terminals.Const || ((is_basic t && false) || (is t terminals.Name && true))) (begins_statement t)) refl t
    any_next t false false = every (λ t. implies (is t terminals.Const || ((is_basic t && false) || (is t terminals.Name && false))) (begins_statement t)) refl t

    every_next : (t : Terminal) → implies (begins_local t next) (begins_statement t) ≡ true
    every_next t = any_next t (not (is next terminals.OpenParenthesis)) (is next terminals.Name)

-- ---- the statements of a block

statement_begins : (tree : Tree) (from to : List Numbered) → Spells n_stmt tree from to → begins_statement (peek from) ≡ true
statement_begins (a_stmt at absent) from to (a, b, e) = ap (λ ts. begins_statement (peek ts)) e
statement_begins (a_stmt at (present part)) from to (a, b, (e, inl h)) = ap begins_statement (block_begins part from to h)
statement_begins (a_stmt at (present part)) from to (a, b, (e, inr (inl (m, h, semicolon)))) =
    local_statement (peek from) (peek (rest_of from)) (local_begins part from m h)
statement_begins (a_stmt at (present part)) from to (a, b, (e, inr (inr (inl (m, h, semicolon))))) =
    let opening = opens part n_expr from m (omega arith) (omega arith) h (ap (λ t. is t terminals.Name) (peek_mark semicolon)) in
    or_left (begins_expression (peek from)) _ opening.begins
statement_begins (a_stmt at (present part)) from to (a, b, (e, inr (inr (inr (inl h))))) = if_begins part from to h
statement_begins (a_stmt at (present part)) from to (a, b, (e, inr (inr (inr (inr (inl h)))))) = for_begins part from to h
statement_begins (a_stmt at (present part)) from to (a, b, (e, inr (inr (inr (inr (inr (inl h))))))) = while_begins part from to h
statement_begins (a_stmt at (present part)) from to (a, b, (e, inr (inr (inr (inr (inr (inr (inl h)))))))) = do_begins part from to h
statement_begins (a_stmt at (present part)) from to (a, b, (e, inr (inr (inr (inr (inr (inr (inr (m, h, semicolon))))))))) = jump_begins part from m h
statement_begins tree from to h = let n = number_is tree n_stmt from to h in absurd (omega arith)

pub statements_loop : (trees : Trees) (from to : List Numbered) → EachClaimed n_stmt trees from to → Loops symbols.Statements trees from to
statements_loop =
    each_loop symbols.Statements symbols.Statement n_stmt
    (λ tree from to c. if_true (begins_statement (peek from)) _ _ (statement_begins tree from to c.spelled))
    (λ from. statement_never (peek from) (peek (rest_of from))) as_stmt
