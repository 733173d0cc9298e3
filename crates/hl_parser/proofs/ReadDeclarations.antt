-- The machine reads declarations, one lemma a form.
use Rattle.std.proofs.Common.{◌≡◌, ◌∙◌, refl, sym, ap, subst, ℕ, Bool, true, false, if◌then◌else◌, not, ◌||◌, inl, inr, Option, None, Some, List, [], ◌∷◌, arith}
use Rattle.hl_lexer.specs.declared.terminal.Terminal.{Terminal}
use Rattle.hl_lexer.specs.declared.terminal.Terminal.TheVariants as terminals
use Rattle.hl_parser.specs.declared.act.Act.TheVariants as acts
use Rattle.hl_parser.specs.declared.symbol.Symbol.{Symbol}
use Rattle.hl_parser.specs.declared.symbol.Symbol.TheVariants as symbols
use Rattle.hl_parser.specs.Codes.{is}
use Rattle.hl_parser.specs.Grammar.{Mark, Numbered, RegisterIs, SpaceIs, Spells, Step, Token, Word, is_basic, is_element_kind, is_raw_kind, n_declarator, n_expr, n_init, n_kind, n_member, n_type, nth, peek, ◌or◌, ◌then◌}
use Rattle.hl_parser.specs.Machine.{Kept, Value, append_tree, begins_expression, begins_init, begins_type, behind_kind, kept, move_of, on_item, on_type, reads, rest_of_buffer, no_value, token_value, tree_value, trees_value}
use Rattle.hl_parser.specs.Trees.{Tree, a_struct, a_member, a_type, a_basic, a_declarator, a_buffer, a_kind, a_shared, a_constant, an_init, an_args, Trees, no_trees, more_trees, absent, present, at_of}
use Rattle.hl_parser.proofs.Claims.{Claimed, CommasClaimed, EachClaimed, LengthsClaimed, Loops, Takes, TakesBefore, always, append_trees, closes, ends_declarator}
use Rattle.hl_parser.proofs.Moves.{closes_no_name, if_false, if_true, never_followed, operand_never, type_never}
use Rattle.hl_parser.proofs.Opening.{basic_token, opens, peek_mark}
use Rattle.hl_parser.proofs.ReadExpressions.{closed, commas_close, expressions_loop}
use Rattle.hl_parser.proofs.ReadLists.{all_appended, comma_loop, each_loop, lengths_loop, none_appended}
use Rattle.hl_parser.proofs.Runs.{Runs, does, followed_by, name, reads_at, rest_of, skip, yields_to}
use Rattle.hl_parser.proofs.Shapes.{number_is}
use Rattle.hl_parser.proofs.Terminals.{by_every, not_true}
use Rattle.hl_parser.proofs.StandsAs.{as_declarator, as_init, as_kind, as_member, as_type}

-- ---- arguments

pub no_args_read : (at : ℕ) (from m to : List Numbered) → Token at terminals.OpenParenthesis from m → Mark terminals.CloseParenthesis m to → Takes symbols.Args (an_args at no_trees) from to
no_args_read at from m to e close_mark = λ K vs w rest.
    reads_at (acts.Here ∷ []) (symbols.Make acts.Empty ∷ symbols.ArgList ∷ symbols.Make acts.Args ∷ []) e refl
    (does (reads_at [] [] close_mark.1 refl (does rest)))

pub args_read : (at : ℕ) (first : Tree) (others : Trees) (from m n o to : List Numbered) → Token at terminals.OpenParenthesis from m → Claimed n_expr first m n → CommasClaimed n_expr others n o → Mark terminals.CloseParenthesis o to → Takes symbols.Args (an_args at (more_trees first others)) from to
args_read at first others from m n o to e c more close_mark = λ K vs w rest.
    let behind : closes (peek n) ≡ true = commas_close n_expr closes others n o refl more (ap closes (peek_mark close_mark)) in
    let opening = opens first n_expr m n (omega arith) (omega arith) c.spelled (closes_no_name (peek n) behind) in
    reads_at (acts.Here ∷ []) (symbols.Make acts.Empty ∷ symbols.ArgList ∷ symbols.Make acts.Args ∷ []) e refl
    (does (followed_by (symbols.Operand 27) (symbols.Make acts.Append ∷ symbols.Expressions ∷ symbols.Skip terminals.CloseParenthesis ∷ []) m
    (if_true (begins_expression (peek m)) _ _ opening.begins)
    (operand_never 27 (peek m) (peek (rest_of m)))
    (closed first m n c behind _ _ _
    (does (expressions_loop others n o more (ap closes (peek_mark close_mark)) _ _ _ _ (ap (λ t. move_of symbols.Expressions t (peek (rest_of o))) (peek_mark close_mark))
    (skip close_mark
    (does (subst (λ ts. Runs K (kept (tree_value (an_args at ts) ∷ vs)) to w) (sym (all_appended first others)) rest))))))))

-- ---- types

-- a type is one token
pub record TypeToken (from to : List Numbered) : Type 0 where
  pub index : ℕ
  pub terminal : Terminal
  pub token : from ≡ nth index terminal ∷ to
  pub begins : begins_type terminal ≡ true

pub or_left : (a b : Bool) → a ≡ true → (a || b) ≡ true
or_left a b e = ap (λ x. x || b) e

pub or_right : (a b : Bool) → b ≡ true → (a || b) ≡ true
or_right true b e = refl
or_right false b e = e

pub type_token : (tree : Tree) (from to : List Numbered) → Spells n_type tree from to → TypeToken from to
type_token (a_type at (present basic)) from to (a, b, (e, h)) =
    let token = basic_token basic from to h in
    let word = token.2 in
    record { index = token.0; terminal = word.0; token = word.2; begins = or_left _ _ word.1 }
type_token (a_type at absent) from to (a, b, e) = record { index = at; terminal = terminals.Name; token = e; begins = refl }
type_token tree from to h = let n = number_is tree n_type from to h in absurd (omega arith)

pub type_begins : (tree : Tree) (from to : List Numbered) → Spells n_type tree from to → begins_type (peek from) ≡ true
type_begins tree from to h = let t = type_token tree from to h in ap (λ ts. begins_type (peek ts)) t.token ∙ t.begins

pub basic_type_read : (at at_basic : ℕ) (from to : List Numbered) → at ≡ at_basic → Word at_basic is_basic from to → Takes symbols.Type (a_type at (present (a_basic at_basic))) from to
basic_type_read at at_basic from to e (t, c, em) = λ K vs w rest.
    reads_at (acts.Here ∷ []) (symbols.Make acts.Basic ∷ symbols.Make acts.BasicType ∷ []) em (if_true (is_basic t) _ _ c)
    (does (does (subst (λ a. Runs K (kept (tree_value (a_type a (present (a_basic at_basic))) ∷ vs)) to w) e rest)))

pub name_type_read : (at : ℕ) (from to : List Numbered) → Token at terminals.Name from to → Takes symbols.Type (a_type at absent) from to
name_type_read at from to e = λ K vs w rest. reads_at (acts.Here ∷ []) (symbols.Make acts.NameType ∷ []) e refl (does rest)

-- ---- declarators and members

pub declarator_read : (at : ℕ) (lengths : Trees) (from m to : List Numbered) → Token at terminals.Name from m → LengthsClaimed lengths m to → TakesBefore ends_declarator symbols.Declarator [] (a_declarator at lengths) from to
declarator_read at lengths from m to e more = λ K vs w end rest.
    reads_at (acts.Here ∷ []) (symbols.Make acts.Empty ∷ symbols.Lengths ∷ symbols.Make acts.Declarator ∷ []) e refl
    (does (lengths_loop lengths m to more _ _ _ _ (if_false (is (peek to) terminals.OpenBracket) _ _ (not_true _ end))
    (does (subst (λ ts. Runs K (kept (tree_value (a_declarator at ts) ∷ vs)) to w) (sym (none_appended lengths)) rest))))

declarators_loop : (trees : Trees) (from to : List Numbered) → CommasClaimed n_declarator trees from to → ends_declarator (peek to) ≡ true → Loops symbols.Declarators trees from to
declarators_loop = comma_loop symbols.Declarators symbols.Declarator n_declarator ends_declarator (λ next. refl) refl as_declarator

-- declarators before a semicolon, behind a type
declared : (first : Tree) (others : Trees) (from m n to : List Numbered) (K : List Symbol) (vs : List Value) (w : Option Kept) → Claimed n_declarator first from m → CommasClaimed n_declarator others m n → Mark terminals.Semicolon n to →
    Runs K (kept (trees_value (more_trees first others) ∷ vs)) to w →
    Runs (symbols.Make acts.Empty ∷ symbols.Declarator ∷ symbols.Make acts.Append ∷ symbols.Declarators ∷ symbols.Skip terminals.Semicolon ∷ K) (kept vs) from w
declared first others from m n to K vs w c more semicolon rest =
    let behind : ends_declarator (peek n) ≡ true = ap ends_declarator (peek_mark semicolon) in
    does (as_declarator first from m c _ _ _ (commas_close n_declarator ends_declarator others m n refl more behind)
    (does (declarators_loop others m n more behind _ _ _ _ (ap (λ t. move_of symbols.Declarators t (peek (rest_of n))) (peek_mark semicolon))
    (skip semicolon (subst (λ ts. Runs K (kept (trees_value ts ∷ vs)) to w) (sym (all_appended first others)) rest)))))

pub member_read : (at : ℕ) (type first : Tree) (others : Trees) (from m n o to : List Numbered) → at ≡ at_of type → Claimed n_type type from m → Claimed n_declarator first m n → CommasClaimed n_declarator others n o → Mark terminals.Semicolon o to → Takes symbols.Member (a_member at type (more_trees first others)) from to
member_read at type first others from m n o to e ct cf more semicolon = λ K vs w rest.
    followed_by symbols.Type
    (symbols.Make acts.Empty ∷ symbols.Declarator ∷ symbols.Make acts.Append ∷ symbols.Declarators ∷ symbols.Skip terminals.Semicolon ∷ symbols.Make acts.Member ∷ [])
    from refl (type_never (peek from))
    (as_type type from m ct _ _ _
    (declared first others m n o to _ _ _ cf more semicolon
    (does (subst (λ a. Runs K (kept (tree_value (a_member a type (more_trees first others)) ∷ vs)) to w) e rest))))

member_begins : (tree : Tree) (from to : List Numbered) → Spells n_member tree from to → begins_type (peek from) ≡ true
member_begins (a_member at type declarators) from to (a, b, (e, (m, ht, h))) = type_begins type from m ht
member_begins tree from to h = let n = number_is tree n_member from to h in absurd (omega arith)

members_loop : (trees : Trees) (from to : List Numbered) → EachClaimed n_member trees from to → Loops symbols.Members trees from to
members_loop =
    each_loop symbols.Members symbols.Member n_member
    (λ tree from to c. if_true (begins_type (peek from)) _ _ (member_begins tree from to c.spelled))
    (λ from. never_followed (on_type (peek from)) _) as_member

pub struct_read : (at index : ℕ) (first : Tree) (others : Trees) (from m n o p q r to : List Numbered) → Token at terminals.Struct from m → Token index terminals.Name m n → Mark terminals.OpenBrace n o → Claimed n_member first o p → EachClaimed n_member others p q → Mark terminals.CloseBrace q r → Mark terminals.Semicolon r to → TakesBefore always symbols.Item (symbols.Make acts.Item ∷ []) (a_struct at index (more_trees first others)) from to
struct_read at index first others from m n o p q r to word named open_mark cf more close_mark semicolon = λ K vs w end rest.
    reads_at (acts.Here ∷ [])
    (symbols.Name ∷ symbols.Skip terminals.OpenBrace ∷ symbols.Make acts.Empty ∷ symbols.Member ∷ symbols.Make acts.Append
    ∷ symbols.Members ∷ symbols.Skip terminals.CloseBrace ∷ symbols.Skip terminals.Semicolon ∷ symbols.Make acts.Struct
    ∷ symbols.Make acts.Item ∷ []) word refl
    (name named (skip open_mark (does (as_member first o p cf _ _ _
    (does (members_loop others p q more _ _ _ _ (ap (λ t. move_of symbols.Members t (peek (rest_of q))) (peek_mark close_mark))
    (skip close_mark (skip semicolon
    (does (subst (λ ts. Runs (symbols.Make acts.Item ∷ K) (kept (tree_value (a_struct at index ts) ∷ vs)) to w) (sym (all_appended first others)) rest))))))))))

-- ---- buffers

abbrev pub option_value : Option ℕ → Value
option_value None = no_value
option_value (Some index) = token_value index

space_read : (space : Option ℕ) (from to : List Numbered) (K : List Symbol) (vs : List Value) (w : Option Kept) → SpaceIs space from to → peek to ≡ terminals.CloseParenthesis → Runs K (kept (option_value space ∷ vs)) to w → Runs (symbols.Space ∷ K) (kept vs) from w
space_read None from to K vs w e end rest =
    subst (λ ts. Runs (symbols.Space ∷ K) (kept vs) ts w) (sym e)
    (yields_to (acts.Absent ∷ []) to (ap (λ t. move_of symbols.Space t (peek (rest_of to))) end) rest)
space_read (Some index) from to K vs w (m, comma, named) end rest = reads_at [] (symbols.Name ∷ []) comma.1 refl (name named rest)

register_read : (register space : Option ℕ) (from to : List Numbered) (K : List Symbol) (vs : List Value) (w : Option Kept) → RegisterIs register space from to → peek to ≡ terminals.Semicolon → Runs K (kept (option_value space ∷ option_value register ∷ vs)) to w → Runs (symbols.Register ∷ K) (kept vs) from w
register_read None None from to K vs w e end rest =
    subst (λ ts. Runs (symbols.Register ∷ K) (kept vs) ts w) (sym e)
    (yields_to (acts.Absent ∷ acts.Absent ∷ []) to (ap (λ t. move_of symbols.Register t (peek (rest_of to))) end) rest)
register_read None (Some space) from to K vs w h end rest = absurd h
register_read (Some register) space from to K vs w (m, colon, (n, word, (o, open_mark, (p, named, (q, has_space, close_mark))))) end rest =
    reads_at []
    (symbols.Skip terminals.Register ∷ symbols.Skip terminals.OpenParenthesis ∷ symbols.Name ∷ symbols.Space ∷ symbols.Skip terminals.CloseParenthesis ∷ [])
    colon.1 refl
    (skip word (skip open_mark (name named (space_read space p q _ _ _ has_space (peek_mark close_mark) (skip close_mark rest)))))

buffer_made : (at : ℕ) (kind : Tree) (index : ℕ) (register space : Option ℕ) (to : List Numbered) (K : List Symbol) (vs : List Value) (w : Option Kept) → at ≡ at_of kind → Runs K (kept (tree_value (a_buffer at kind index register space) ∷ vs)) to w → Runs (symbols.Make acts.Buffer ∷ K) (kept (option_value space ∷ option_value register ∷ token_value index ∷ tree_value kind ∷ vs)) to w
buffer_made at kind index None None to K vs w e rest = does (subst (λ a. Runs K (kept (tree_value (a_buffer a kind index None None) ∷ vs)) to w) e rest)
buffer_made at kind index None (Some s) to K vs w e rest = does (subst (λ a. Runs K (kept (tree_value (a_buffer a kind index None (Some s)) ∷ vs)) to w) e rest)
buffer_made at kind index (Some r) None to K vs w e rest = does (subst (λ a. Runs K (kept (tree_value (a_buffer a kind index (Some r) None) ∷ vs)) to w) e rest)
buffer_made at kind index (Some r) (Some s) to K vs w e rest = does (subst (λ a. Runs K (kept (tree_value (a_buffer a kind index (Some r) (Some s)) ∷ vs)) to w) e rest)

pub buffer_read : (at : ℕ) (kind : Tree) (index : ℕ) (register space : Option ℕ) (from m n o to : List Numbered) → at ≡ at_of kind → Claimed n_kind kind from m → Token index terminals.Name m n → RegisterIs register space n o → Mark terminals.Semicolon o to → TakesBefore always symbols.Item (symbols.Make acts.Item ∷ []) (a_buffer at kind index register space) from to
buffer_read at kind index register space from m n o to e ck named has_register semicolon = λ K vs w end rest.
    as_kind kind from m ck _ _ _ refl
    (name named (register_read register space n o _ _ _ has_register (peek_mark semicolon)
    (skip semicolon (buffer_made at kind index register space to (symbols.Make acts.Item ∷ K) vs w e rest))))

item_raw : (t : Terminal) → is_raw_kind t ≡ true → on_item t ≡ reads (acts.Here ∷ []) (symbols.Make acts.Absent ∷ rest_of_buffer)
item_raw t e =
    if_false (begins_type t || is t terminals.Void) _ _ (not_true _ (by_every is_raw_kind (λ t. not (begins_type t || is t terminals.Void)) refl t e))
    ∙ if_true (is_raw_kind t) _ _ e

item_element : (t : Terminal) → is_element_kind t ≡ true → on_item t ≡ reads (acts.Here ∷ []) (symbols.Skip terminals.Less ∷ symbols.Type ∷ symbols.Skip terminals.Greater ∷ rest_of_buffer)
item_element t e =
    if_false (begins_type t || is t terminals.Void) _ _ (not_true _ (by_every is_element_kind (λ t. not (begins_type t || is t terminals.Void)) refl t e))
    ∙ if_false (is_raw_kind t) _ _ (not_true _ (by_every is_element_kind (λ t. not (is_raw_kind t)) refl t e))
    ∙ if_true (is_element_kind t) _ _ e

pub raw_kind_read : (at : ℕ) (from to : List Numbered) → Word at is_raw_kind from to → TakesBefore always symbols.Item behind_kind (a_kind at absent) from to
raw_kind_read at from to (t, c, em) = λ K vs w end rest.
    reads_at (acts.Here ∷ []) (symbols.Make acts.Absent ∷ rest_of_buffer) em (item_raw t c) (does (does rest))

pub element_kind_read : (at : ℕ) (element : Tree) (from m n o to : List Numbered) → Word at is_element_kind from m → Mark terminals.Less m n → Claimed n_type element n o → Mark terminals.Greater o to → TakesBefore always symbols.Item behind_kind (a_kind at (present element)) from to
element_kind_read at element from m n o to (t, c, em) less ct greater = λ K vs w end rest.
    reads_at (acts.Here ∷ []) (symbols.Skip terminals.Less ∷ symbols.Type ∷ symbols.Skip terminals.Greater ∷ rest_of_buffer) em (item_element t c)
    (skip less (as_type element n o ct _ _ _ (skip greater (does rest))))

-- ---- shared variables and constants

pub shared_read : (at : ℕ) (type first : Tree) (others : Trees) (from m n o p to : List Numbered) → Token at terminals.Groupshared from m → Claimed n_type type m n → Claimed n_declarator first n o → CommasClaimed n_declarator others o p → Mark terminals.Semicolon p to → TakesBefore always symbols.Item (symbols.Make acts.Item ∷ []) (a_shared at type (more_trees first others)) from to
shared_read at type first others from m n o p to word ct cf more semicolon = λ K vs w end rest.
    reads_at (acts.Here ∷ [])
    (symbols.Type ∷ symbols.Make acts.Empty ∷ symbols.Declarator ∷ symbols.Make acts.Append ∷ symbols.Declarators
    ∷ symbols.Skip terminals.Semicolon ∷ symbols.Make acts.Shared ∷ symbols.Make acts.Item ∷ []) word refl
    (as_type type m n ct _ _ _ (declared first others n o p to _ _ _ cf more semicolon (does rest)))

pub constant_read : (at : ℕ) (type declarator init : Tree) (from m n o p q r to : List Numbered) → Token at terminals.Static from m → Mark terminals.Const m n → Claimed n_type type n o → Claimed n_declarator declarator o p → Mark terminals.Equals p q → Claimed n_init init q r → Mark terminals.Semicolon r to → TakesBefore always symbols.Item (symbols.Make acts.Item ∷ []) (a_constant at type declarator init) from to
constant_read at type declarator init from m n o p q r to word constant ct cd equals ci semicolon = λ K vs w end rest.
    reads_at (acts.Here ∷ [])
    (symbols.Skip terminals.Const ∷ symbols.Type ∷ symbols.Declarator ∷ symbols.Skip terminals.Equals ∷ symbols.Init
    ∷ symbols.Skip terminals.Semicolon ∷ symbols.Make acts.Constant ∷ symbols.Make acts.Item ∷ []) word refl
    (skip constant (as_type type n o ct _ _ _
    (as_declarator declarator o p cd _ _ _ (ap ends_declarator (peek_mark equals))
    (skip equals (as_init init q r ci _ _ _ (ap closes (peek_mark semicolon)) (skip semicolon (does rest)))))))

-- ---- initialisers

pub value_read : (at : ℕ) (value : Tree) (from to : List Numbered) → at ≡ at_of value → Claimed n_expr value from to → TakesBefore closes symbols.Init [] (an_init at (present value) no_trees) from to
value_read at value from to e c = λ K vs w end rest.
    let opening = opens value n_expr from to (omega arith) (omega arith) c.spelled (closes_no_name (peek to) end) in
    followed_by (symbols.Operand 27) (symbols.Make acts.Value ∷ []) from (if_true (begins_expression (peek from)) _ _ opening.begins)
    (operand_never 27 (peek from) (peek (rest_of from)))
    (closed value from to c end _ _ _
    (does (subst (λ a. Runs K (kept (tree_value (an_init a (present value) no_trees) ∷ vs)) to w) e rest)))

init_begins : (tree : Tree) (from to : List Numbered) → Spells n_init tree from to → closes (peek to) ≡ true → begins_init (peek from) ≡ true
init_begins (an_init at (present value) no_trees) from to (a, b, (e, h)) end =
    let opening = opens value n_expr from to (omega arith) (omega arith) h (closes_no_name (peek to) end) in
    or_left (begins_expression (peek from)) _ opening.begins
init_begins (an_init at (present value) (more_trees part parts)) from to h end = absurd h
init_begins (an_init at absent parts) from to (a, b, (m, e, h)) end = ap (λ ts. begins_init (peek ts)) e
init_begins tree from to h end = let n = number_is tree n_init from to h in absurd (omega arith)

-- the end of an initialiser in braces
BracesEnd : Step
BracesEnd = Mark terminals.CloseBrace or (Mark terminals.Comma then Mark terminals.CloseBrace)

braces_end_closes : (from to : List Numbered) → BracesEnd from to → closes (peek from) ≡ true
unfolding BracesEnd
braces_end_closes from to (inl h) = ap closes (peek_mark h)
braces_end_closes from to (inr (m, comma, h)) = ap closes (peek_mark comma)

inits_read : (trees : Trees) (from m to : List Numbered) (K : List Symbol) (vs : List Value) (done : Trees) (w : Option Kept) → CommasClaimed n_init trees from m → BracesEnd m to → Runs K (kept (trees_value (append_trees done trees) ∷ vs)) to w → Runs (symbols.Inits ∷ K) (kept (trees_value done ∷ vs)) from w
unfolding BracesEnd
inits_read no_trees from m to K vs done w is_end (inl close_mark) rest =
    reads_at [] [] (is_end ∙ close_mark.1) refl rest
inits_read no_trees from m to K vs done w is_end (inr (n, comma, close_mark)) rest =
    reads_at [] (symbols.Skip terminals.CloseBrace ∷ []) (is_end ∙ comma.1)
    (ap (λ t. move_of symbols.Inits terminals.Comma t) (peek_mark close_mark)) (skip close_mark rest)
inits_read (more_trees first others) from m to K vs done w (n, comma, (o, cf, more)) end rest =
    let behind : closes (peek o) ≡ true = commas_close n_init closes others o m refl more (braces_end_closes m to end) in
    reads_at [] (symbols.Init ∷ symbols.Make acts.Append ∷ symbols.Inits ∷ []) comma.1
    (if_true (begins_init (peek n)) _ _ (init_begins first n o cf.spelled behind))
    (as_init first n o cf _ _ _ behind
    (does (inits_read others o m to K vs (append_tree done first) w more end rest)))

pub braces_read : (at : ℕ) (first : Tree) (others : Trees) (from m n o to : List Numbered) → Token at terminals.OpenBrace from m → Claimed n_init first m n → CommasClaimed n_init others n o → (Mark terminals.CloseBrace or (Mark terminals.Comma then Mark terminals.CloseBrace)) o to → TakesBefore closes symbols.Init [] (an_init at absent (more_trees first others)) from to
unfolding BracesEnd
braces_read at first others from m n o to brace cf more braces_end = λ K vs w end rest.
    let behind : closes (peek n) ≡ true = commas_close n_init closes others n o refl more (braces_end_closes o to braces_end) in
    reads_at (acts.Here ∷ [])
    (symbols.Make acts.Empty ∷ symbols.Init ∷ symbols.Make acts.Append ∷ symbols.Inits ∷ symbols.Make acts.Braces ∷ []) brace refl
    (does (as_init first m n cf _ _ _ behind
    (does (inits_read others n o to _ _ _ _ more braces_end
    (does (subst (λ ts. Runs K (kept (tree_value (an_init at absent ts) ∷ vs)) to w) (sym (all_appended first others)) rest))))))
