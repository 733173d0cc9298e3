-- The machine reads functions, items and programs, one lemma a form.
use Rattle.std.proofs.Common.{◌≡◌, ◌∙◌, refl, sym, ap, subst, ℕ, Bool, true, false, not, ◌||◌, inl, inr, Option, None, Some, List, [], ◌∷◌, ◌++◌, arith}
use Rattle.hl_lexer.specs.declared.terminal.Terminal.{Terminal}
use Rattle.hl_lexer.specs.declared.terminal.Terminal.TheVariants as terminals
use Rattle.hl_parser.specs.declared.act.Act.TheVariants as acts
use Rattle.hl_parser.specs.declared.symbol.Symbol.{Symbol}
use Rattle.hl_parser.specs.declared.symbol.Symbol.TheVariants as symbols
use Rattle.hl_parser.specs.Codes.{is}
use Rattle.hl_parser.specs.Grammar.{Mark, Numbered, Perhaps, PerhapsToken, SemanticIs, Spells, Token, Word, first_among, first_if, first_of, is_direction, is_element_kind, is_raw_kind, n_attribute, n_block, n_buffer, n_constant, n_declarator, n_direction, n_expr, n_function, n_item, n_kind, n_param, n_result, n_shared, n_struct, n_type, peek}
use Rattle.hl_parser.specs.Machine.{Kept, Value, append_tree, begins_item, begins_param, begins_type, followed, kept, move_of, on_item, on_param, on_result, on_type, rest_of_attribute, rest_of_function, no_value, tree_value, trees_value, yields}
use Rattle.hl_parser.specs.Trees.{Tree, a_program, an_item, a_struct, a_buffer, a_kind, a_shared, a_constant, a_function, a_result, a_param, a_direction, an_attribute, Trees, no_trees, more_trees, Maybe, absent, present, at_of}
use Rattle.hl_parser.proofs.Claims.{Claimed, CommasClaimed, EachClaimed, Loops, Takes, TakesAttribute, TakesBefore, TakesProgram, always, PerhapsListedClaimed, closes, ends_declarator, ends_param}
use Rattle.hl_parser.proofs.Moves.{if_false, if_true, never_followed, never_if, never_led, never_only, type_never}
use Rattle.hl_parser.proofs.Opening.{peek_mark}
use Rattle.hl_parser.proofs.ReadExpressions.{closed, commas_close, expressions_loop}
use Rattle.hl_parser.proofs.ReadLists.{all_appended, attributes_loop, comma_loop, each_loop}
use Rattle.hl_parser.proofs.Runs.{NeverYields, Runs, does, followed_by, led_by, move_at, name, reads_at, rest_of, skip, yields_to}
use Rattle.hl_parser.proofs.Shapes.{number_is}
use Rattle.hl_parser.proofs.Terminals.{by_every, not_true}
use Rattle.hl_parser.proofs.ReadDeclarations.{option_value, or_left, type_begins}
use Rattle.hl_parser.proofs.StandsAs.{as_attribute, as_block, as_declarator, as_item, as_param, as_result, as_type}

-- ---- attributes

pub plain_attribute_read : (at index : ℕ) (from m n to : List Numbered) → Token at terminals.OpenBracket from m → Token index terminals.Name m n → Mark terminals.CloseBracket n to → TakesAttribute at (an_attribute at index no_trees) from to
plain_attribute_read at index from m n to bracket named close_mark = record {
  middle = m;
  bracket = bracket;
  reads = λ K vs done w rest.
      name named (yields_to (acts.Empty ∷ []) n (ap (λ t. move_of symbols.AttributeArguments t (peek (rest_of n))) (peek_mark close_mark))
      (skip close_mark (does (does rest))));
}

pub attribute_read : (at index : ℕ) (first : Tree) (others : Trees) (from m n o p q r to : List Numbered) → Token at terminals.OpenBracket from m → Token index terminals.Name m n → Mark terminals.OpenParenthesis n o → Claimed n_expr first o p → CommasClaimed n_expr others p q → Mark terminals.CloseParenthesis q r → Mark terminals.CloseBracket r to → TakesAttribute at (an_attribute at index (more_trees first others)) from to
attribute_read at index first others from m n o p q r to bracket named open_mark c more close_mark close_bracket = record {
  middle = m;
  bracket = bracket;
  reads = λ K vs done w rest.
      let behind : closes (peek p) ≡ true = commas_close n_expr closes others p q refl more (ap closes (peek_mark close_mark)) in
      name named
      (reads_at (acts.Empty ∷ [])
      (symbols.Operand 27 ∷ symbols.Make acts.Append ∷ symbols.Expressions ∷ symbols.Skip terminals.CloseParenthesis ∷ [])
      open_mark.1 refl
      (closed first o p c behind _ _ _
      (does (expressions_loop others p q more (ap closes (peek_mark close_mark)) _ _ _ _ (ap (λ t. move_of symbols.Expressions t (peek (rest_of q))) (peek_mark close_mark))
      (skip close_mark (skip close_bracket
      (does (does (subst (λ ts. Runs (symbols.Attributes ∷ K) (kept (trees_value (append_tree done (an_attribute at index ts)) ∷ vs)) to w) (sym (all_appended first others)) rest)))))))));
}

pub attribute_begins : (tree : Tree) (from to : List Numbered) → Spells n_attribute tree from to → peek from ≡ terminals.OpenBracket
attribute_begins (an_attribute at index arguments) from to (a, b, (m, e, h)) = ap peek e
attribute_begins tree from to h = let n = number_is tree n_attribute from to h in absurd (omega arith)

-- ---- parameters

direction_token : (tree : Tree) (from to : List Numbered) → Spells n_direction tree from to → (at : ℕ) × (tree ≡ a_direction at) × Word at is_direction from to
direction_token (a_direction at) from to (a, b, h) = (at, refl, h)
direction_token tree from to h = let n = number_is tree n_direction from to h in absurd (omega arith)

abbrev pub maybe_value : Maybe → Value
maybe_value absent = no_value
maybe_value (present tree) = tree_value tree

type_no_direction : (t : Terminal) → begins_type t ≡ true → is_direction t ≡ false
type_no_direction t e = not_true _ (by_every begins_type (λ t. not (is_direction t)) refl t e)

direction_read : (direction : Maybe) (from to : List Numbered) (K : List Symbol) (vs : List Value) (w : Option Kept) → Perhaps n_direction direction from to → begins_type (peek to) ≡ true → Runs K (kept (maybe_value direction ∷ vs)) to w → Runs (symbols.Direction ∷ K) (kept vs) from w
direction_read absent from to K vs w e begins rest =
    subst (λ ts. Runs (symbols.Direction ∷ K) (kept vs) ts w) (sym e)
    (yields_to (acts.Absent ∷ []) to (if_false (is_direction (peek to)) _ _ (type_no_direction (peek to) begins)) rest)
direction_read (present tree) from to K vs w h begins rest =
    let token = direction_token tree from to h in
    let word = token.2 in
    reads_at (acts.Here ∷ []) (symbols.Make acts.Direction ∷ []) word.2 (if_true (is_direction word.0) _ _ word.1)
    (does (subst (λ t. Runs K (kept (tree_value t ∷ vs)) to w) token.1 rest))

semantic_read : (semantic : Option ℕ) (from to : List Numbered) (K : List Symbol) (vs : List Value) (w : Option Kept) → SemanticIs semantic from to → ends_param (peek to) ≡ true → Runs K (kept (option_value semantic ∷ vs)) to w → Runs (symbols.Semantic ∷ K) (kept vs) from w
semantic_read None from to K vs w e end rest =
    subst (λ ts. Runs (symbols.Semantic ∷ K) (kept vs) ts w) (sym e)
    (yields_to (acts.Absent ∷ []) to (if_false (is (peek to) terminals.Colon) _ _ (not_true _ (by_every ends_param (λ t. not (is t terminals.Colon)) refl (peek to) end))) rest)
semantic_read (Some index) from to K vs w (m, colon, named) end rest = reads_at [] (symbols.Name ∷ []) colon.1 refl (name named rest)

semantic_behind : (semantic : Option ℕ) (from to : List Numbered) → SemanticIs semantic from to → ends_param (peek to) ≡ true → ends_declarator (peek from) ≡ true
semantic_behind None from to e end = ap (λ ts. ends_declarator (peek ts)) e ∙ by_every ends_param ends_declarator refl (peek to) end
semantic_behind (Some index) from to (m, colon, named) end = ap ends_declarator (peek_mark colon)

param_made : (at : ℕ) (constant : Option ℕ) (direction : Maybe) (type declarator : Tree) (semantic : Option ℕ) (to : List Numbered) (K : List Symbol) (vs : List Value) (w : Option Kept) → at ≡ first_of constant (first_if direction (at_of type)) → Runs K (kept (tree_value (a_param at constant direction type declarator semantic) ∷ vs)) to w → Runs (symbols.Make acts.Param ∷ K) (kept (option_value semantic ∷ tree_value declarator ∷ tree_value type ∷ maybe_value direction ∷ option_value constant ∷ vs)) to w
param_made at None absent type declarator None to K vs w e rest = does (subst (λ a. Runs K (kept (tree_value (a_param a None absent type declarator None) ∷ vs)) to w) e rest)
param_made at None absent type declarator (Some s) to K vs w e rest = does (subst (λ a. Runs K (kept (tree_value (a_param a None absent type declarator (Some s)) ∷ vs)) to w) e rest)
param_made at None (present d) type declarator None to K vs w e rest = does (subst (λ a. Runs K (kept (tree_value (a_param a None (present d) type declarator None) ∷ vs)) to w) e rest)
param_made at None (present d) type declarator (Some s) to K vs w e rest = does (subst (λ a. Runs K (kept (tree_value (a_param a None (present d) type declarator (Some s)) ∷ vs)) to w) e rest)
param_made at (Some c) absent type declarator None to K vs w e rest = does (subst (λ a. Runs K (kept (tree_value (a_param a (Some c) absent type declarator None) ∷ vs)) to w) e rest)
param_made at (Some c) absent type declarator (Some s) to K vs w e rest = does (subst (λ a. Runs K (kept (tree_value (a_param a (Some c) absent type declarator (Some s)) ∷ vs)) to w) e rest)
param_made at (Some c) (present d) type declarator None to K vs w e rest = does (subst (λ a. Runs K (kept (tree_value (a_param a (Some c) (present d) type declarator None) ∷ vs)) to w) e rest)
param_made at (Some c) (present d) type declarator (Some s) to K vs w e rest = does (subst (λ a. Runs K (kept (tree_value (a_param a (Some c) (present d) type declarator (Some s)) ∷ vs)) to w) e rest)

-- from the type of a parameter on
param_rest : (at : ℕ) (constant : Option ℕ) (direction : Maybe) (type declarator : Tree) (semantic : Option ℕ) (from m n to : List Numbered) (K : List Symbol) (vs : List Value) (w : Option Kept) → at ≡ first_of constant (first_if direction (at_of type)) → Claimed n_type type from m → Claimed n_declarator declarator m n → SemanticIs semantic n to → ends_param (peek to) ≡ true → Runs K (kept (tree_value (a_param at constant direction type declarator semantic) ∷ vs)) to w →
    Runs (symbols.Type ∷ symbols.Declarator ∷ symbols.Semantic ∷ symbols.Make acts.Param ∷ K) (kept (maybe_value direction ∷ option_value constant ∷ vs)) from w
param_rest at constant direction type declarator semantic from m n to K vs w e ct cd has_semantic end rest =
    as_type type from m ct _ _ _
    (as_declarator declarator m n cd _ _ _ (semantic_behind semantic n to has_semantic end)
    (semantic_read semantic n to _ _ _ has_semantic end (param_made at constant direction type declarator semantic to K vs w e rest)))

pub param_read : (at : ℕ) (constant : Option ℕ) (direction : Maybe) (type declarator : Tree) (semantic : Option ℕ) (from m n o p to : List Numbered) → at ≡ first_of constant (first_if direction (at_of type)) → PerhapsToken constant terminals.Const from m → Perhaps n_direction direction m n → Claimed n_type type n o → Claimed n_declarator declarator o p → SemanticIs semantic p to → TakesBefore ends_param symbols.Param [] (a_param at constant direction type declarator semantic) from to
param_read at (Some c) direction type declarator semantic from m n o p to e constant hd ct cd has_semantic = λ K vs w end rest.
    reads_at (acts.Here ∷ [])
    (symbols.Direction ∷ symbols.Type ∷ symbols.Declarator ∷ symbols.Semantic ∷ symbols.Make acts.Param ∷ []) constant refl
    (direction_read direction m n _ _ _ hd (type_begins type n o ct.spelled)
    (param_rest at (Some c) direction type declarator semantic n o p to K vs w e ct cd has_semantic end rest))
param_read at None (present d) type declarator semantic from m n o p to e is_start hd ct cd has_semantic = λ K vs w end rest.
    let token = direction_token d m n hd in
    let word = token.2 in
    reads_at (acts.Absent ∷ acts.Here ∷ [])
    (symbols.Make acts.Direction ∷ symbols.Type ∷ symbols.Declarator ∷ symbols.Semantic ∷ symbols.Make acts.Param ∷ []) (is_start ∙ word.2)
    (if_false (begins_type word.0) _ _ (not_true _ (by_every is_direction (λ t. not (begins_type t)) refl word.0 word.1)) ∙ if_true (is_direction word.0) _ _ word.1)
    (does (subst (λ t. Runs (symbols.Type ∷ symbols.Declarator ∷ symbols.Semantic ∷ symbols.Make acts.Param ∷ K) (kept (tree_value t ∷ no_value ∷ vs)) n w) token.1
    (param_rest at None (present d) type declarator semantic n o p to K vs w e ct cd has_semantic end rest)))
param_read at None absent type declarator semantic from m n o p to e is_start hd ct cd has_semantic = λ K vs w end rest.
    subst (λ ts. Runs (symbols.Param ∷ K) (kept vs) ts w) (sym (is_start ∙ hd))
    (led_by symbols.Type (acts.Absent ∷ acts.Absent ∷ []) (symbols.Declarator ∷ symbols.Semantic ∷ symbols.Make acts.Param ∷ []) n
    (if_true (begins_type (peek n)) _ _ (type_begins type n o ct.spelled)) (type_never (peek n))
    (param_rest at None absent type declarator semantic n o p to K vs w e ct cd has_semantic end rest))

param_begins : (tree : Tree) (from to : List Numbered) → Spells n_param tree from to → begins_param (peek from) ≡ true
param_begins (a_param at (Some c) direction type declarator semantic) from to (a, b, (e, (m, constant, h))) = ap (λ ts. begins_param (peek ts)) constant
param_begins (a_param at None (present d) type declarator semantic) from to (a, b, (e, (m, is_start, (n, hd, h)))) =
    let token = direction_token d m n hd in
    let word = token.2 in
    ap (λ ts. begins_param (peek ts)) (is_start ∙ word.2) ∙ by_every is_direction begins_param refl word.0 word.1
param_begins (a_param at None absent type declarator semantic) from to (a, b, (e, (m, is_start, (n, hd, (o, ht, h))))) =
    ap (λ ts. begins_param (peek ts)) (is_start ∙ hd) ∙ or_left (begins_type (peek n)) _ (type_begins type n o ht)
param_begins tree from to h = let n = number_is tree n_param from to h in absurd (omega arith)

params_loop : (trees : Trees) (from to : List Numbered) → CommasClaimed n_param trees from to → ends_param (peek to) ≡ true → Loops symbols.MoreParams trees from to
params_loop = comma_loop symbols.MoreParams symbols.Param n_param ends_param (λ next. refl) refl as_param

param_never : (t : Terminal) → NeverYields (on_param t)
param_never t =
    never_if (begins_type t) _ _
    (never_led (acts.Absent ∷ acts.Absent ∷ []) (followed (on_type t) (symbols.Declarator ∷ symbols.Semantic ∷ symbols.Make acts.Param ∷ [])))
    (never_if (is_direction t) _ _ tt (never_only t terminals.Const _ tt))

params_read : (params : Trees) (from m to : List Numbered) (K : List Symbol) (vs : List Value) (w : Option Kept) → PerhapsListedClaimed n_param params from m → Mark terminals.CloseParenthesis m to → Runs K (kept (trees_value params ∷ vs)) to w → Runs (symbols.Params ∷ K) (kept (trees_value no_trees ∷ vs)) from w
params_read no_trees from m to K vs w is_end close_mark rest = reads_at [] [] (is_end ∙ close_mark.1) refl rest
params_read (more_trees first others) from m to K vs w (n, cf, more) close_mark rest =
    let behind : ends_param (peek n) ≡ true = commas_close n_param ends_param others n m refl more (ap ends_param (peek_mark close_mark)) in
    followed_by symbols.Param (symbols.Make acts.Append ∷ symbols.MoreParams ∷ symbols.Skip terminals.CloseParenthesis ∷ []) from
    (if_true (begins_param (peek from)) _ _ (param_begins first from n cf.spelled)) (param_never (peek from))
    (as_param first from n cf _ _ _ behind
    (does (params_loop others n m more (ap ends_param (peek_mark close_mark)) _ _ _ _ (ap (λ t. move_of symbols.MoreParams t (peek (rest_of m))) (peek_mark close_mark))
    (skip close_mark (subst (λ ts. Runs K (kept (trees_value ts ∷ vs)) to w) (sym (all_appended first others)) rest)))))

-- ---- results and functions

pub void_result_read : (at : ℕ) (from to : List Numbered) → Token at terminals.Void from to → Takes symbols.Result (a_result at absent) from to
void_result_read at from to e = λ K vs w rest. reads_at (acts.Here ∷ []) (symbols.Make acts.VoidResult ∷ []) e refl (does rest)

pub type_result_read : (at : ℕ) (type : Tree) (from to : List Numbered) → at ≡ at_of type → Claimed n_type type from to → Takes symbols.Result (a_result at (present type)) from to
type_result_read at type from to e c = λ K vs w rest.
    followed_by symbols.Type (symbols.Make acts.TypeResult ∷ []) from (if_true (begins_type (peek from)) _ _ (type_begins type from to c.spelled)) (type_never (peek from))
    (as_type type from to c _ _ _ (does (subst (λ a. Runs K (kept (tree_value (a_result a (present type)) ∷ vs)) to w) e rest)))

begins_result : Terminal → Bool
begins_result t = begins_type t || is t terminals.Void

result_begins : (tree : Tree) (from to : List Numbered) → Spells n_result tree from to → begins_result (peek from) ≡ true
unfolding begins_result
result_begins (a_result at absent) from to (a, b, e) = ap (λ ts. begins_result (peek ts)) e
result_begins (a_result at (present type)) from to (a, b, (e, h)) = or_left (begins_type (peek from)) _ (type_begins type from to h)
result_begins tree from to h = let n = number_is tree n_result from to h in absurd (omega arith)

result_never : (t : Terminal) → NeverYields (on_result t)
result_never t = never_if (begins_type t) _ _ (never_followed (on_type t) _) (never_only t terminals.Void _ tt)

-- from the name of a function on
function_rest : (at : ℕ) (attributes : Trees) (result : Tree) (index : ℕ) (params : Trees) (block : Tree) (from m n o p to : List Numbered) (K : List Symbol) (vs : List Value) (w : Option Kept) → at ≡ first_among attributes (at_of result) → Token index terminals.Name from m → Mark terminals.OpenParenthesis m n → PerhapsListedClaimed n_param params n o → Mark terminals.CloseParenthesis o p → Claimed n_block block p to →
    Runs (symbols.Make acts.Item ∷ K) (kept (tree_value (a_function at attributes result index params block) ∷ vs)) to w → Runs (rest_of_function ++ K) (kept (tree_value result ∷ trees_value attributes ∷ vs)) from w
function_rest at attributes result index params block from m n o p to K vs w e named open_mark cp close_mark cb rest =
    name named (skip open_mark (does (params_read params n o p _ _ _ cp close_mark
    (as_block block p to cb _ _ _
    (does (subst (λ a. Runs (symbols.Make acts.Item ∷ K) (kept (tree_value (a_function a attributes result index params block) ∷ vs)) to w) e rest))))))

pub function_read : (at : ℕ) (attributes : Trees) (result : Tree) (index : ℕ) (params : Trees) (block : Tree) (from m n o p q r to : List Numbered) → at ≡ first_among attributes (at_of result) → EachClaimed n_attribute attributes from m → Claimed n_result result m n → Token index terminals.Name n o → Mark terminals.OpenParenthesis o p → PerhapsListedClaimed n_param params p q → Mark terminals.CloseParenthesis q r → Claimed n_block block r to → TakesBefore always symbols.Item (symbols.Make acts.Item ∷ []) (a_function at attributes result index params block) from to
unfolding begins_result
function_read at no_trees result index params block from m n o p q r to e is_start cr named open_mark cp close_mark cb = λ K vs w end rest.
    subst (λ ts. Runs (symbols.Item ∷ K) (kept vs) ts w) (sym is_start)
    (led_by symbols.Result (acts.Empty ∷ []) rest_of_function m
    (if_true (begins_type (peek m) || is (peek m) terminals.Void) _ _ (result_begins result m n cr.spelled)) (result_never (peek m))
    (as_result result m n cr _ _ _ (function_rest at no_trees result index params block n o p q r to K vs w e named open_mark cp close_mark cb rest)))
function_read at (more_trees first others) result index params block from m n o p q r to e (l, cf, more) cr named open_mark cp close_mark cb = λ K vs w end rest.
    let c = as_attribute first from l cf in
    let no_more : move_at symbols.Attributes m ≡ yields [] =
    if_false (is (peek m) terminals.OpenBracket) _ _ (not_true _ (by_every begins_result (λ t. not (is t terminals.OpenBracket)) refl (peek m) (result_begins result m n cr.spelled))) in
    reads_at (acts.Empty ∷ acts.Here ∷ []) (rest_of_attribute ++ symbols.Result ∷ rest_of_function) c.bracket refl
    (c.reads (symbols.Result ∷ (rest_of_function ++ K)) vs no_trees w
    (attributes_loop others l m more _ _ _ _ no_more
    (subst (λ ts. Runs (symbols.Result ∷ (rest_of_function ++ K)) (kept (trees_value ts ∷ vs)) m w) (sym (all_appended first others))
    (as_result result m n cr _ _ _ (function_rest at (more_trees first others) result index params block n o p q r to K vs w e named open_mark cp close_mark cb rest)))))

-- ---- items and programs

pub item_read : (at : ℕ) (item : Tree) (from to : List Numbered) → at ≡ at_of item → TakesBefore always symbols.Item (symbols.Make acts.Item ∷ []) item from to → Takes symbols.Item (an_item at item) from to
item_read at item from to e h = λ K vs w rest. h K vs w refl (does (subst (λ a. Runs K (kept (tree_value (an_item a item) ∷ vs)) to w) e rest))

kind_begins : (tree : Tree) (from to : List Numbered) → Spells n_kind tree from to → begins_item (peek from) ≡ true
kind_begins (a_kind at absent) from to (a, b, (t, c, e)) = ap (λ ts. begins_item (peek ts)) e ∙ by_every is_raw_kind begins_item refl t c
kind_begins (a_kind at (present element)) from to (a, b, (m, (t, c, e), h)) = ap (λ ts. begins_item (peek ts)) e ∙ by_every is_element_kind begins_item refl t c
kind_begins tree from to h = let n = number_is tree n_kind from to h in absurd (omega arith)

struct_begins : (tree : Tree) (from to : List Numbered) → Spells n_struct tree from to → begins_item (peek from) ≡ true
struct_begins (a_struct at index members) from to (a, b, (m, e, h)) = ap (λ ts. begins_item (peek ts)) e
struct_begins tree from to h = let n = number_is tree n_struct from to h in absurd (omega arith)

buffer_begins : (tree : Tree) (from to : List Numbered) → Spells n_buffer tree from to → begins_item (peek from) ≡ true
buffer_begins (a_buffer at kind index register space) from to (a, b, (e, (m, hk, h))) = kind_begins kind from m hk
buffer_begins tree from to h = let n = number_is tree n_buffer from to h in absurd (omega arith)

shared_begins : (tree : Tree) (from to : List Numbered) → Spells n_shared tree from to → begins_item (peek from) ≡ true
shared_begins (a_shared at type declarators) from to (a, b, (m, e, h)) = ap (λ ts. begins_item (peek ts)) e
shared_begins tree from to h = let n = number_is tree n_shared from to h in absurd (omega arith)

constant_begins : (tree : Tree) (from to : List Numbered) → Spells n_constant tree from to → begins_item (peek from) ≡ true
constant_begins (a_constant at type declarator init) from to (a, b, (m, e, h)) = ap (λ ts. begins_item (peek ts)) e
constant_begins tree from to h = let n = number_is tree n_constant from to h in absurd (omega arith)

function_begins : (tree : Tree) (from to : List Numbered) → Spells n_function tree from to → begins_item (peek from) ≡ true
unfolding begins_result
function_begins (a_function at no_trees result index params block) from to (a, b, (e, (m, is_start, (n, hr, h)))) =
    ap (λ ts. begins_item (peek ts)) is_start ∙ by_every begins_result begins_item refl (peek m) (result_begins result m n hr)
function_begins (a_function at (more_trees first others) result index params block) from to (a, b, (e, (m, (l, hf, more), h))) =
    ap begins_item (attribute_begins first from l hf)
function_begins tree from to h = let n = number_is tree n_function from to h in absurd (omega arith)

item_begins : (tree : Tree) (from to : List Numbered) → Spells n_item tree from to → begins_item (peek from) ≡ true
item_begins (an_item at item) from to (a, b, (e, inl h)) = struct_begins item from to h
item_begins (an_item at item) from to (a, b, (e, inr (inl h))) = buffer_begins item from to h
item_begins (an_item at item) from to (a, b, (e, inr (inr (inl h)))) = shared_begins item from to h
item_begins (an_item at item) from to (a, b, (e, inr (inr (inr (inl h))))) = constant_begins item from to h
item_begins (an_item at item) from to (a, b, (e, inr (inr (inr (inr h))))) = function_begins item from to h
item_begins tree from to h = let n = number_is tree n_item from to h in absurd (omega arith)

item_never : (t : Terminal) → NeverYields (on_item t)
item_never t =
    never_if (begins_type t || is t terminals.Void) _ _ (never_led (acts.Empty ∷ []) (followed (on_result t) rest_of_function))
    (never_if (is_raw_kind t) _ _ tt (never_if (is_element_kind t) _ _ tt (never_if (is t terminals.OpenBracket) _ _ tt
    (never_if (is t terminals.Struct) _ _ tt (never_if (is t terminals.Groupshared) _ _ tt (never_only t terminals.Static _ tt))))))

items_loop : (trees : Trees) (from to : List Numbered) → EachClaimed n_item trees from to → Loops symbols.Items trees from to
items_loop =
    each_loop symbols.Items symbols.Item n_item
    (λ tree from to c. if_true (begins_item (peek from)) _ _ (item_begins tree from to c.spelled))
    (λ from. item_never (peek from)) as_item

pub program_read : (at : ℕ) (item : Tree) (items : Trees) (from m to : List Numbered) → at ≡ at_of item → Claimed n_item item from m → EachClaimed n_item items m to → TakesProgram (a_program at (more_trees item items)) from to
program_read at item items from m to e c more = λ w end rest.
    does (as_item item from m c _ _ _
    (does (items_loop items m to more _ _ _ _ (if_false (begins_item (peek to)) _ _ end)
    (subst (λ ts. Runs (symbols.Make acts.Program ∷ []) (kept (trees_value ts ∷ [])) to w) (sym (all_appended item items))
    (does (subst (λ a. Runs [] (kept (tree_value (a_program a (more_trees item items)) ∷ [])) to w) e rest))))))
