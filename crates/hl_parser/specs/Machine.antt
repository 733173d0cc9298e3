-- The machine that reads tokens: what is still to be read is a stack of symbols, and what is read a stack of values.
use Rattle.std.specs.Prelude.{ℕ, suc, Bool, true, false, ◌&&◌, ◌||◌, not, nat_le, nat_lt, ◌==◌, if◌then◌else◌, List, [], ◌∷◌, ◌++◌, Option, None, Some}
use Rattle.hl_lexer.specs.declared.terminal.Terminal.{Terminal}
use Rattle.hl_lexer.specs.declared.terminal.Terminal.TheVariants as terminals
use Rattle.hl_parser.specs.declared.act.Act.{Act}
use Rattle.hl_parser.specs.declared.act.Act.TheVariants as acts
use Rattle.hl_parser.specs.declared.symbol.Symbol.{Symbol}
use Rattle.hl_parser.specs.declared.symbol.Symbol.TheVariants as symbols
use Rattle.hl_parser.specs.Trees.{Tree, a_program, an_item, a_struct, a_member, a_type, a_basic, a_declarator, a_buffer, a_kind, a_shared, a_constant, an_init, a_function, a_result, a_param, a_direction, an_attribute, a_block, a_stmt, a_local, a_start, an_if, a_for, a_while, a_do, a_jump, an_expr, a_choice, a_binary, a_unary, a_postfix, a_primary, an_args, Trees, no_trees, more_trees, Maybe, absent, present, at_of}
use Rattle.hl_parser.specs.Grammar.{Numbered, nth, peek, first_of, first_if, first_among, is_assign, is_basic, is_direction, is_element_kind, is_jump, is_prefix, is_raw_kind, is_step, is_word, operator_of}
use Rattle.hl_parser.specs.Codes.{is}

-- ---- values

-- what is read: the index of a token, a tree, a list of trees, or nothing in the place of an optional part
pub data Value : Type 0 where
  token_value : (index : ℕ) → Value
  tree_value : (tree : Tree) → Value
  trees_value : (trees : Trees) → Value
  no_value : Value

-- the values that are kept, the last one first, or that none are kept any more
pub data Kept : Type 0 where
  gone : Kept
  kept : (values : List Value) → Kept

-- the trees, and one more at the end
abbrev pub append_tree : Trees → Tree → Trees
append_tree no_trees tree = more_trees tree no_trees
append_tree (more_trees first rest) tree = more_trees first (append_tree rest tree)

-- one value more, whatever it is
abbrev pub push : Value → Kept → Kept
push value gone = gone
push value (kept values) = kept (value ∷ values)

-- the last value as what an optional tree or an optional token is
abbrev pub with_maybe : Value → (Maybe → Kept) → Kept
with_maybe (token_value index) go = gone
with_maybe (tree_value tree) go = go (present tree)
with_maybe (trees_value trees) go = gone
with_maybe no_value go = go absent

abbrev pub with_option : Value → (Option ℕ → Kept) → Kept
with_option (token_value index) go = go (Some index)
with_option (tree_value tree) go = gone
with_option (trees_value trees) go = gone
with_option no_value go = go None

abbrev pub with_token : Value → (ℕ → Kept) → Kept
with_token (token_value index) go = go index
with_token (tree_value tree) go = gone
with_token (trees_value trees) go = gone
with_token no_value go = gone

abbrev pub with_tree : Value → (Tree → Kept) → Kept
with_tree (token_value index) go = gone
with_tree (tree_value tree) go = go tree
with_tree (trees_value trees) go = gone
with_tree no_value go = gone

abbrev pub with_trees : Value → (Trees → Kept) → Kept
with_trees (token_value index) go = gone
with_trees (tree_value tree) go = gone
with_trees (trees_value trees) go = go trees
with_trees no_value go = gone

-- takes the last value
abbrev pub take_value : List Value → (Value → List Value → Kept) → Kept
take_value [] go = gone
take_value (value ∷ values) go = go value values

-- takes the last value as what it has to be
abbrev pub take_token : List Value → (ℕ → List Value → Kept) → Kept
take_token values go = take_value values (λ value rest. with_token value (λ index. go index rest))

abbrev pub take_tree : List Value → (Tree → List Value → Kept) → Kept
take_tree values go = take_value values (λ value rest. with_tree value (λ tree. go tree rest))

abbrev pub take_trees : List Value → (Trees → List Value → Kept) → Kept
take_trees values go = take_value values (λ value rest. with_trees value (λ trees. go trees rest))

abbrev pub take_maybe : List Value → (Maybe → List Value → Kept) → Kept
take_maybe values go = take_value values (λ value rest. with_maybe value (λ maybe. go maybe rest))

abbrev pub take_option : List Value → (Option ℕ → List Value → Kept) → Kept
take_option values go = take_value values (λ value rest. with_option value (λ option. go option rest))

-- puts a tree on the others
abbrev pub put : Tree → List Value → Kept
put tree values = kept (tree_value tree ∷ values)

-- ---- acts

-- whether a number is that of a production of operators that repeat
abbrev pub is_level : ℕ → Bool
is_level level = nat_le 30 level && nat_le level 39

abbrev pub make_binary : ℕ → List Value → Kept
make_binary level values =
    take_tree values (λ right values. take_token values (λ mark values. take_tree values (λ left values. put (a_binary level (at_of left) left mark right) values)))

-- what an act makes of the values, where the token at an index is looked at
abbrev pub act_on : Act → ℕ → List Value → Kept
act_on acts.Here at values = kept (token_value at ∷ values)
act_on acts.Absent at values = kept (no_value ∷ values)
act_on acts.Empty at values = kept (trees_value no_trees ∷ values)
act_on acts.Append at values = take_tree values (λ tree values. take_trees values (λ trees values. kept (trees_value (append_tree trees tree) ∷ values)))
act_on acts.Program at values = take_trees values (λ items values. put (a_program (first_among items 0) items) values)
act_on acts.Item at values = take_tree values (λ item values. put (an_item (at_of item) item) values)
act_on acts.Struct at values = take_trees values (λ members values. take_token values (λ name values. take_token values (λ word values. put (a_struct word name members) values)))
act_on acts.Member at values = take_trees values (λ declarators values. take_tree values (λ type values. put (a_member (at_of type) type declarators) values))
act_on acts.Basic at values = take_token values (λ word values. put (a_basic word) values)
act_on acts.BasicType at values = take_tree values (λ basic values. put (a_type (at_of basic) (present basic)) values)
act_on acts.NameType at values = take_token values (λ name values. put (a_type name absent) values)
act_on acts.Declarator at values = take_trees values (λ lengths values. take_token values (λ name values. put (a_declarator name lengths) values))
act_on acts.Buffer at values = take_option values (λ space values. take_option values (λ register values. take_token values (λ name values. take_tree values (λ kind values. put (a_buffer (at_of kind) kind name register space) values))))
act_on acts.Kind at values = take_maybe values (λ element values. take_token values (λ word values. put (a_kind word element) values))
act_on acts.Shared at values = take_trees values (λ declarators values. take_tree values (λ type values. take_token values (λ word values. put (a_shared word type declarators) values)))
act_on acts.Constant at values = take_tree values (λ init values. take_tree values (λ declarator values. take_tree values (λ type values. take_token values (λ word values. put (a_constant word type declarator init) values))))
act_on acts.Value at values = take_tree values (λ value values. put (an_init (at_of value) (present value) no_trees) values)
act_on acts.Braces at values = take_trees values (λ parts values. take_token values (λ brace values. put (an_init brace absent parts) values))
act_on acts.Function at values = take_tree values (λ block values. take_trees values (λ params values. take_token values (λ name values. take_tree values (λ result values. take_trees values (λ attributes values. put (a_function (first_among attributes (at_of result)) attributes result name params block) values)))))
act_on acts.VoidResult at values = take_token values (λ word values. put (a_result word absent) values)
act_on acts.TypeResult at values = take_tree values (λ type values. put (a_result (at_of type) (present type)) values)
act_on acts.Param at values = take_option values (λ semantic values. take_tree values (λ declarator values. take_tree values (λ type values. take_maybe values (λ direction values. take_option values (λ constant values. put (a_param (first_of constant (first_if direction (at_of type))) constant direction type declarator semantic) values)))))
act_on acts.Direction at values = take_token values (λ word values. put (a_direction word) values)
act_on acts.Attribute at values = take_trees values (λ arguments values. take_token values (λ name values. take_token values (λ bracket values. put (an_attribute bracket name arguments) values)))
act_on acts.Block at values = take_trees values (λ statements values. take_token values (λ brace values. put (a_block brace statements) values))
act_on acts.Part at values = take_tree values (λ part values. put (a_stmt (at_of part) (present part)) values)
act_on acts.Nothing at values = take_token values (λ mark values. put (a_stmt mark absent) values)
act_on acts.Local at values = take_trees values (λ starts values. take_tree values (λ type values. take_option values (λ constant values. put (a_local (first_of constant (at_of type)) constant type starts) values)))
act_on acts.Start at values = take_maybe values (λ init values. take_tree values (λ declarator values. put (a_start (at_of declarator) declarator init) values))
act_on acts.If at values = take_maybe values (λ alternative values. take_tree values (λ consequent values. take_tree values (λ condition values. take_token values (λ word values. take_trees values (λ attributes values. put (an_if (first_among attributes word) attributes condition consequent alternative) values)))))
act_on acts.For at values = take_tree values (λ body values. take_maybe values (λ step values. take_maybe values (λ condition values. take_maybe values (λ first values. take_token values (λ word values. take_trees values (λ attributes values. put (a_for (first_among attributes word) attributes first condition step body) values))))))
act_on acts.While at values = take_tree values (λ body values. take_tree values (λ condition values. take_token values (λ word values. take_trees values (λ attributes values. put (a_while (first_among attributes word) attributes condition body) values))))
act_on acts.Do at values = take_tree values (λ condition values. take_tree values (λ body values. take_token values (λ word values. take_trees values (λ attributes values. put (a_do (first_among attributes word) attributes body condition) values))))
act_on acts.Jump at values = take_maybe values (λ value values. take_token values (λ word values. put (a_jump word value) values))
act_on acts.Assignment at values = take_tree values (λ right values. take_token values (λ mark values. take_tree values (λ left values. put (an_expr (at_of left) left mark right) values)))
act_on acts.Choice at values = take_tree values (λ alternative values. take_tree values (λ consequent values. take_tree values (λ condition values. put (a_choice (at_of condition) condition consequent alternative) values)))
act_on (acts.Binary level) at values = if is_level level then make_binary level values else gone
act_on acts.Unary at values = take_tree values (λ operand values. take_token values (λ mark values. put (a_unary mark absent operand) values))
act_on acts.Cast at values = take_tree values (λ operand values. take_tree values (λ basic values. take_token values (λ mark values. put (a_unary mark (present basic) operand) values)))
act_on acts.Field at values = take_maybe values (λ arguments values. take_token values (λ name values. take_token values (λ mark values. take_tree values (λ operand values. put (a_postfix (at_of operand) operand mark (Some name) arguments) values))))
act_on acts.Index at values = take_tree values (λ index values. take_token values (λ mark values. take_tree values (λ operand values. put (a_postfix (at_of operand) operand mark None (present index)) values)))
act_on acts.Step at values = take_token values (λ mark values. take_tree values (λ operand values. put (a_postfix (at_of operand) operand mark None absent) values))
act_on acts.Word at values = take_token values (λ word values. put (a_primary word absent absent) values)
act_on acts.Call at values = take_tree values (λ arguments values. take_token values (λ name values. put (a_primary name absent (present arguments)) values))
act_on acts.Constructor at values = take_tree values (λ arguments values. take_tree values (λ basic values. put (a_primary (at_of basic) (present basic) (present arguments)) values))
act_on acts.Parentheses at values = take_tree values (λ inner values. take_token values (λ mark values. put (a_primary mark (present inner) absent) values))
act_on acts.Args at values = take_trees values (λ arguments values. take_token values (λ mark values. put (an_args mark arguments) values))

abbrev pub perform : Act → ℕ → Kept → Kept
perform act at gone = gone
perform act at (kept values) = act_on act at values

abbrev pub perform_all : List Act → ℕ → Kept → Kept
perform_all [] at values = values
perform_all (act ∷ more) at values = perform_all more at (perform act at values)

-- ---- moves

-- what a symbol does at a token: it does acts and reads it, with these symbols still to be read in its place; or it
-- does acts and is done with, without reading it; or it can'terminal stand there
pub data Move : Type 0 where
  reads : (done : List Act) (pending : List Symbol) → Move
  yields : (done : List Act) → Move
  refuses : Move

-- a move that reads, with more symbols behind its own
abbrev pub followed : Move → List Symbol → Move
followed (reads done pending) more = reads done (pending ++ more)
followed (yields done) more = refuses
followed refuses more = refuses

-- a move that reads, with more acts before its own
abbrev pub led : List Act → Move → Move
led first (reads done pending) = reads (first ++ done) pending
led first (yields done) = refuses
led first refuses = refuses

-- the level of an operator that stands behind an operand, by the number of its production
abbrev pub level_of : Terminal → ℕ
level_of terminals.Question = 29
level_of terminals.Dot = 41
level_of terminals.OpenBracket = 41
level_of terminals.PlusPlus = 41
level_of terminals.MinusMinus = 41
level_of terminal = if is_assign terminal then 27 else operator_of terminal

-- whether a mark is an operator that repeats
abbrev pub is_repeating : Terminal → Bool
is_repeating terminal = nat_le 1 (operator_of terminal)

-- whether a type, an expression, a parameter, an initialiser, an item or a statement begins with a token
abbrev pub begins_type : Terminal → Bool
begins_type terminal = is_basic terminal || is terminal terminals.Name

abbrev pub begins_expression : Terminal → Bool
begins_expression terminal = is_word terminal || (is_basic terminal || (is_prefix terminal || is terminal terminals.OpenParenthesis))

abbrev pub begins_param : Terminal → Bool
begins_param terminal = begins_type terminal || (is_direction terminal || is terminal terminals.Const)

abbrev pub begins_init : Terminal → Bool
begins_init terminal = begins_expression terminal || is terminal terminals.OpenBrace

abbrev pub is_item_word : Terminal → Bool
is_item_word terminals.Struct = true
is_item_word terminals.Groupshared = true
is_item_word terminals.Static = true
is_item_word terminals.Void = true
is_item_word terminals.OpenBracket = true
is_item_word _ = false

abbrev pub begins_item : Terminal → Bool
begins_item terminal = begins_type terminal || (is_raw_kind terminal || (is_element_kind terminal || is_item_word terminal))

-- the words of an `if` and of loops
abbrev pub is_control : Terminal → Bool
is_control terminals.If = true
is_control terminals.For = true
is_control terminals.While = true
is_control terminals.Do = true
is_control _ = false

abbrev pub is_statement_mark : Terminal → Bool
is_statement_mark terminals.OpenBrace = true
is_statement_mark terminals.Semicolon = true
is_statement_mark terminals.OpenBracket = true
is_statement_mark terminals.Const = true
is_statement_mark _ = false

abbrev pub begins_statement : Terminal → Bool
begins_statement terminal = begins_expression terminal || (is_control terminal || (is_jump terminal || is_statement_mark terminal))

-- whether a local begins with a token that is followed by another
abbrev pub begins_local : Terminal → Terminal → Bool
begins_local terminal next =
    is terminal terminals.Const || ((is_basic terminal && not (is next terminals.OpenParenthesis)) || (is terminal terminals.Name && is next terminals.Name))

abbrev pub only : Terminal → Terminal → Move → Move
only terminal wanted move = if is terminal wanted then move else refuses

abbrev pub on_type : Terminal → Move
on_type terminal =
    if is_basic terminal then reads (acts.Here ∷ []) (symbols.Make acts.Basic ∷ symbols.Make acts.BasicType ∷ [])
    else only terminal terminals.Name (reads (acts.Here ∷ []) (symbols.Make acts.NameType ∷ []))

abbrev pub on_member : Terminal → Move
on_member terminal =
    followed (on_type terminal)
    (symbols.Make acts.Empty ∷ symbols.Declarator ∷ symbols.Make acts.Append ∷ symbols.Declarators ∷ symbols.Skip terminals.Semicolon ∷ symbols.Make acts.Member ∷ [])

abbrev pub on_members : Terminal → Move
on_members terminal =
    if begins_type terminal then followed (on_member terminal) (symbols.Make acts.Append ∷ symbols.Members ∷ []) else yields []

abbrev pub on_declarator : Terminal → Move
on_declarator terminal =
    only terminal terminals.Name
    (reads (acts.Here ∷ []) (symbols.Make acts.Empty ∷ symbols.Lengths ∷ symbols.Make acts.Declarator ∷ []))

abbrev pub on_declarators : Terminal → Move
on_declarators terminal =
    if is terminal terminals.Comma then reads [] (symbols.Declarator ∷ symbols.Make acts.Append ∷ symbols.Declarators ∷ [])
    else yields []

abbrev pub on_lengths : Terminal → Move
on_lengths terminal =
    if is terminal terminals.OpenBracket
    then reads [] (symbols.Operand 27 ∷ symbols.Skip terminals.CloseBracket ∷ symbols.Make acts.Append ∷ symbols.Lengths ∷ [])
    else yields []

abbrev pub on_register : Terminal → Move
on_register terminal =
    if is terminal terminals.Colon
    then reads [] (symbols.Skip terminals.Register ∷ symbols.Skip terminals.OpenParenthesis ∷ symbols.Name ∷ symbols.Space ∷ symbols.Skip terminals.CloseParenthesis ∷ [])
    else yields (acts.Absent ∷ acts.Absent ∷ [])

abbrev pub on_space : Terminal → Move
on_space terminal = if is terminal terminals.Comma then reads [] (symbols.Name ∷ []) else yields (acts.Absent ∷ [])

-- behind the first token of a function: its result, unless there are attributes
abbrev pub rest_of_function : List Symbol
rest_of_function =
    symbols.Name ∷ symbols.Skip terminals.OpenParenthesis ∷ symbols.Make acts.Empty ∷ symbols.Params ∷ symbols.Block
    ∷ symbols.Make acts.Function ∷ symbols.Make acts.Item ∷ []

abbrev pub rest_of_attribute : List Symbol
rest_of_attribute =
    symbols.Name ∷ symbols.AttributeArguments ∷ symbols.Skip terminals.CloseBracket ∷ symbols.Make acts.Attribute
    ∷ symbols.Make acts.Append ∷ symbols.Attributes ∷ []

abbrev pub behind_kind : List Symbol
behind_kind =
    symbols.Name ∷ symbols.Register ∷ symbols.Skip terminals.Semicolon ∷ symbols.Make acts.Buffer
    ∷ symbols.Make acts.Item ∷ []

abbrev pub rest_of_buffer : List Symbol
rest_of_buffer = symbols.Make acts.Kind ∷ behind_kind

abbrev pub on_result : Terminal → Move
on_result terminal =
    if begins_type terminal then followed (on_type terminal) (symbols.Make acts.TypeResult ∷ [])
    else only terminal terminals.Void (reads (acts.Here ∷ []) (symbols.Make acts.VoidResult ∷ []))

abbrev pub on_item : Terminal → Move
on_item terminal =
    if begins_type terminal || is terminal terminals.Void then led (acts.Empty ∷ []) (followed (on_result terminal) rest_of_function)
    else (if is_raw_kind terminal then reads (acts.Here ∷ []) (symbols.Make acts.Absent ∷ rest_of_buffer)
    else (if is_element_kind terminal
    then reads (acts.Here ∷ []) (symbols.Skip terminals.Less ∷ symbols.Type ∷ symbols.Skip terminals.Greater ∷ rest_of_buffer)
    else (if is terminal terminals.OpenBracket
    then reads (acts.Empty ∷ acts.Here ∷ []) (rest_of_attribute ++ symbols.Result ∷ rest_of_function)
    else (if is terminal terminals.Struct
    then reads (acts.Here ∷ [])
    (symbols.Name ∷ symbols.Skip terminals.OpenBrace ∷ symbols.Make acts.Empty ∷ symbols.Member ∷ symbols.Make acts.Append
    ∷ symbols.Members ∷ symbols.Skip terminals.CloseBrace ∷ symbols.Skip terminals.Semicolon ∷ symbols.Make acts.Struct
    ∷ symbols.Make acts.Item ∷ [])
    else (if is terminal terminals.Groupshared
    then reads (acts.Here ∷ [])
    (symbols.Type ∷ symbols.Make acts.Empty ∷ symbols.Declarator ∷ symbols.Make acts.Append ∷ symbols.Declarators
    ∷ symbols.Skip terminals.Semicolon ∷ symbols.Make acts.Shared ∷ symbols.Make acts.Item ∷ [])
    else only terminal terminals.Static
    (reads (acts.Here ∷ [])
    (symbols.Skip terminals.Const ∷ symbols.Type ∷ symbols.Declarator ∷ symbols.Skip terminals.Equals ∷ symbols.Init
    ∷ symbols.Skip terminals.Semicolon ∷ symbols.Make acts.Constant ∷ symbols.Make acts.Item ∷ [])))))))

abbrev pub on_items : Terminal → Move
on_items terminal =
    if begins_item terminal then followed (on_item terminal) (symbols.Make acts.Append ∷ symbols.Items ∷ []) else yields []

-- an expression of at least a level, but for a call
abbrev pub other_operand : ℕ → Terminal → Move
other_operand least terminal =
    if is_word terminal then reads (acts.Here ∷ []) (symbols.Make acts.Word ∷ symbols.Tail 42 least ∷ [])
    else (if is_basic terminal
    then reads (acts.Here ∷ []) (symbols.Make acts.Basic ∷ symbols.Args ∷ symbols.Make acts.Constructor ∷ symbols.Tail 42 least ∷ [])
    else (if is_prefix terminal then reads (acts.Here ∷ []) (symbols.Operand 40 ∷ symbols.Make acts.Unary ∷ symbols.Tail 40 least ∷ [])
    else only terminal terminals.OpenParenthesis (reads (acts.Here ∷ []) (symbols.Parenthesis least ∷ []))))

-- an expression of at least a level
abbrev pub on_operand : ℕ → Terminal → Terminal → Move
on_operand least terminal next =
    if is terminal terminals.Name && is next terminals.OpenParenthesis
    then reads (acts.Here ∷ []) (symbols.Args ∷ symbols.Make acts.Call ∷ symbols.Tail 42 least ∷ [])
    else other_operand least terminal

abbrev pub on_parenthesis : ℕ → Terminal → Terminal → Move
on_parenthesis least terminal next =
    if is_basic terminal && is next terminals.CloseParenthesis
    then reads (acts.Here ∷ [])
    (symbols.Make acts.Basic ∷ symbols.Skip terminals.CloseParenthesis ∷ symbols.Operand 40 ∷ symbols.Make acts.Cast
    ∷ symbols.Tail 40 least ∷ [])
    else followed (on_operand 27 terminal next)
    (symbols.Skip terminals.CloseParenthesis ∷ symbols.Make acts.Parentheses ∷ symbols.Tail 42 least ∷ [])

-- an operator that repeats
abbrev pub on_repeating : ℕ → Terminal → Move
on_repeating least terminal =
    if operator_of terminal == 0 then refuses
    else reads (acts.Here ∷ []) (symbols.Operand (suc (operator_of terminal)) ∷ symbols.Make (acts.Binary (operator_of terminal)) ∷ symbols.Tail (operator_of terminal) least ∷ [])

-- an operator behind an operand, where an expression of at least a level is read
abbrev pub on_operator : ℕ → Terminal → Move
on_operator least terminal =
    if is_repeating terminal
    then reads (acts.Here ∷ []) (symbols.Operand (suc (operator_of terminal)) ∷ symbols.Make (acts.Binary (operator_of terminal)) ∷ symbols.Tail (operator_of terminal) least ∷ [])
    else (if is_assign terminal then reads (acts.Here ∷ []) (symbols.Operand 27 ∷ symbols.Make acts.Assignment ∷ symbols.Tail 27 least ∷ [])
    else (if is_step terminal then reads (acts.Here ∷ []) (symbols.Make acts.Step ∷ symbols.Tail 41 least ∷ [])
    else (if is terminal terminals.Dot
    then reads (acts.Here ∷ []) (symbols.Name ∷ symbols.MethodArguments ∷ symbols.Make acts.Field ∷ symbols.Tail 41 least ∷ [])
    else (if is terminal terminals.OpenBracket
    then reads (acts.Here ∷ [])
    (symbols.Operand 27 ∷ symbols.Skip terminals.CloseBracket ∷ symbols.Make acts.Index ∷ symbols.Tail 41 least ∷ [])
    else only terminal terminals.Question
    (reads [] (symbols.Operand 27 ∷ symbols.Skip terminals.Colon ∷ symbols.Operand 29 ∷ symbols.Make acts.Choice ∷ symbols.Tail 29 least ∷ []))))))

-- the greatest level of an operator that an expression of a production may stand to the left of
abbrev pub joins_to : ℕ → ℕ
joins_to production = if nat_lt production 29 then 0 else (if nat_lt production 30 then 28 else production)

abbrev pub on_tail : ℕ → ℕ → Terminal → Move
on_tail production least terminal =
    if nat_le least (level_of terminal) && nat_le (level_of terminal) (joins_to production) then on_operator least terminal else yields []

abbrev pub on_init : Terminal → Terminal → Move
on_init terminal next =
    if begins_expression terminal then followed (on_operand 27 terminal next) (symbols.Make acts.Value ∷ [])
    else only terminal terminals.OpenBrace
    (reads (acts.Here ∷ [])
    (symbols.Make acts.Empty ∷ symbols.Init ∷ symbols.Make acts.Append ∷ symbols.Inits ∷ symbols.Make acts.Braces ∷ []))

abbrev pub on_inits : Terminal → Terminal → Move
on_inits terminal next =
    if is terminal terminals.CloseBrace then reads [] []
    else only terminal terminals.Comma
    (if begins_init next then reads [] (symbols.Init ∷ symbols.Make acts.Append ∷ symbols.Inits ∷ [])
    else reads [] (symbols.Skip terminals.CloseBrace ∷ []))

abbrev pub on_param : Terminal → Move
on_param terminal =
    if begins_type terminal
    then led (acts.Absent ∷ acts.Absent ∷ [])
    (followed (on_type terminal) (symbols.Declarator ∷ symbols.Semantic ∷ symbols.Make acts.Param ∷ []))
    else (if is_direction terminal
    then reads (acts.Absent ∷ acts.Here ∷ [])
    (symbols.Make acts.Direction ∷ symbols.Type ∷ symbols.Declarator ∷ symbols.Semantic ∷ symbols.Make acts.Param ∷ [])
    else only terminal terminals.Const
    (reads (acts.Here ∷ [])
    (symbols.Direction ∷ symbols.Type ∷ symbols.Declarator ∷ symbols.Semantic ∷ symbols.Make acts.Param ∷ [])))

abbrev pub on_params : Terminal → Move
on_params terminal =
    if begins_param terminal
    then followed (on_param terminal) (symbols.Make acts.Append ∷ symbols.MoreParams ∷ symbols.Skip terminals.CloseParenthesis ∷ [])
    else only terminal terminals.CloseParenthesis (reads [] [])

abbrev pub on_more_params : Terminal → Move
on_more_params terminal =
    if is terminal terminals.Comma then reads [] (symbols.Param ∷ symbols.Make acts.Append ∷ symbols.MoreParams ∷ []) else yields []

abbrev pub on_direction : Terminal → Move
on_direction terminal =
    if is_direction terminal then reads (acts.Here ∷ []) (symbols.Make acts.Direction ∷ []) else yields (acts.Absent ∷ [])

abbrev pub on_semantic : Terminal → Move
on_semantic terminal = if is terminal terminals.Colon then reads [] (symbols.Name ∷ []) else yields (acts.Absent ∷ [])

abbrev pub on_attribute_arguments : Terminal → Move
on_attribute_arguments terminal =
    if is terminal terminals.OpenParenthesis
    then reads (acts.Empty ∷ [])
    (symbols.Operand 27 ∷ symbols.Make acts.Append ∷ symbols.Expressions ∷ symbols.Skip terminals.CloseParenthesis ∷ [])
    else yields (acts.Empty ∷ [])

abbrev pub on_attributes : Terminal → Move
on_attributes terminal = if is terminal terminals.OpenBracket then reads (acts.Here ∷ []) rest_of_attribute else yields []

abbrev pub on_attributed : Terminal → Move
on_attributed terminal =
    if is terminal terminals.If
    then reads (acts.Here ∷ [])
    (symbols.Skip terminals.OpenParenthesis ∷ symbols.Operand 27 ∷ symbols.Skip terminals.CloseParenthesis
    ∷ symbols.Statement ∷ symbols.Else ∷ symbols.Make acts.If ∷ [])
    else (if is terminal terminals.For
    then reads (acts.Here ∷ [])
    (symbols.Skip terminals.OpenParenthesis ∷ symbols.First ∷ symbols.Skip terminals.Semicolon ∷ symbols.Optional
    ∷ symbols.Skip terminals.Semicolon ∷ symbols.Optional ∷ symbols.Skip terminals.CloseParenthesis ∷ symbols.Statement
    ∷ symbols.Make acts.For ∷ [])
    else (if is terminal terminals.While
    then reads (acts.Here ∷ [])
    (symbols.Skip terminals.OpenParenthesis ∷ symbols.Operand 27 ∷ symbols.Skip terminals.CloseParenthesis
    ∷ symbols.Statement ∷ symbols.Make acts.While ∷ [])
    else only terminal terminals.Do
    (reads (acts.Here ∷ [])
    (symbols.Statement ∷ symbols.Skip terminals.While ∷ symbols.Skip terminals.OpenParenthesis ∷ symbols.Operand 27
    ∷ symbols.Skip terminals.CloseParenthesis ∷ symbols.Skip terminals.Semicolon ∷ symbols.Make acts.Do ∷ []))))

abbrev pub on_block : Terminal → Move
on_block terminal =
    only terminal terminals.OpenBrace
    (reads (acts.Here ∷ [])
    (symbols.Make acts.Empty ∷ symbols.Statements ∷ symbols.Skip terminals.CloseBrace ∷ symbols.Make acts.Block ∷ []))

abbrev pub on_local : Terminal → Move
on_local terminal =
    if begins_type terminal
    then led (acts.Absent ∷ [])
    (followed (on_type terminal) (symbols.Make acts.Empty ∷ symbols.Start ∷ symbols.Make acts.Append ∷ symbols.Starts ∷ symbols.Make acts.Local ∷ []))
    else only terminal terminals.Const
    (reads (acts.Here ∷ [])
    (symbols.Type ∷ symbols.Make acts.Empty ∷ symbols.Start ∷ symbols.Make acts.Append ∷ symbols.Starts ∷ symbols.Make acts.Local ∷ []))

-- a statement, but for locals and expressions
abbrev pub other_statement : Terminal → Move
other_statement terminal =
    if is_control terminal then led (acts.Empty ∷ []) (followed (on_attributed terminal) (symbols.Make acts.Part ∷ []))
    else (if is terminal terminals.Return
    then reads (acts.Here ∷ []) (symbols.Optional ∷ symbols.Make acts.Jump ∷ symbols.Skip terminals.Semicolon ∷ symbols.Make acts.Part ∷ [])
    else (if is_jump terminal
    then reads (acts.Here ∷ []) (symbols.Make acts.Absent ∷ symbols.Make acts.Jump ∷ symbols.Skip terminals.Semicolon ∷ symbols.Make acts.Part ∷ [])
    else (if is terminal terminals.OpenBracket
    then reads (acts.Empty ∷ acts.Here ∷ []) (rest_of_attribute ++ symbols.Attributed ∷ symbols.Make acts.Part ∷ [])
    else (if is terminal terminals.Semicolon then reads (acts.Here ∷ []) (symbols.Make acts.Nothing ∷ [])
    else followed (on_block terminal) (symbols.Make acts.Part ∷ [])))))

abbrev pub on_statement : Terminal → Terminal → Move
on_statement terminal next =
    if begins_local terminal next then followed (on_local terminal) (symbols.Skip terminals.Semicolon ∷ symbols.Make acts.Part ∷ [])
    else (if begins_expression terminal
    then followed (on_operand 27 terminal next) (symbols.Skip terminals.Semicolon ∷ symbols.Make acts.Part ∷ [])
    else other_statement terminal)

abbrev pub on_statements : Terminal → Terminal → Move
on_statements terminal next =
    if begins_statement terminal then followed (on_statement terminal next) (symbols.Make acts.Append ∷ symbols.Statements ∷ []) else yields []

abbrev pub on_start : Terminal → Move
on_start terminal = followed (on_declarator terminal) (symbols.StartInit ∷ symbols.Make acts.Start ∷ [])

abbrev pub on_starts : Terminal → Move
on_starts terminal =
    if is terminal terminals.Comma then reads [] (symbols.Start ∷ symbols.Make acts.Append ∷ symbols.Starts ∷ []) else yields []

abbrev pub on_start_init : Terminal → Move
on_start_init terminal = if is terminal terminals.Equals then reads [] (symbols.Init ∷ []) else yields (acts.Absent ∷ [])

abbrev pub on_else : Terminal → Move
on_else terminal = if is terminal terminals.Else then reads [] (symbols.Statement ∷ []) else yields (acts.Absent ∷ [])

abbrev pub on_first : Terminal → Terminal → Move
on_first terminal next =
    if begins_local terminal next then on_local terminal
    else (if begins_expression terminal then on_operand 27 terminal next else yields (acts.Absent ∷ []))

abbrev pub on_optional : Terminal → Terminal → Move
on_optional terminal next = if begins_expression terminal then on_operand 27 terminal next else yields (acts.Absent ∷ [])

abbrev pub on_args : Terminal → Move
on_args terminal =
    only terminal terminals.OpenParenthesis
    (reads (acts.Here ∷ []) (symbols.Make acts.Empty ∷ symbols.ArgList ∷ symbols.Make acts.Args ∷ []))

abbrev pub on_method_arguments : Terminal → Move
on_method_arguments terminal = if is terminal terminals.OpenParenthesis then on_args terminal else yields (acts.Absent ∷ [])

abbrev pub on_arg_list : Terminal → Terminal → Move
on_arg_list terminal next =
    if begins_expression terminal
    then followed (on_operand 27 terminal next)
    (symbols.Make acts.Append ∷ symbols.Expressions ∷ symbols.Skip terminals.CloseParenthesis ∷ [])
    else only terminal terminals.CloseParenthesis (reads [] [])

abbrev pub on_expressions : Terminal → Move
on_expressions terminal =
    if is terminal terminals.Comma then reads [] (symbols.Operand 27 ∷ symbols.Make acts.Append ∷ symbols.Expressions ∷ [])
    else yields []

-- what a symbol does at a token that is followed by another
abbrev pub move_of : Symbol → Terminal → Terminal → Move
move_of (symbols.Make act) terminal next = yields (act ∷ [])
move_of (symbols.Skip wanted) terminal next = only terminal wanted (reads [] [])
move_of symbols.Name terminal next = only terminal terminals.Name (reads (acts.Here ∷ []) [])
move_of symbols.Item terminal next = on_item terminal
move_of symbols.Items terminal next = on_items terminal
move_of symbols.Members terminal next = on_members terminal
move_of symbols.Member terminal next = on_member terminal
move_of symbols.Type terminal next = on_type terminal
move_of symbols.Declarator terminal next = on_declarator terminal
move_of symbols.Declarators terminal next = on_declarators terminal
move_of symbols.Lengths terminal next = on_lengths terminal
move_of symbols.Register terminal next = on_register terminal
move_of symbols.Space terminal next = on_space terminal
move_of symbols.Init terminal next = on_init terminal next
move_of symbols.Inits terminal next = on_inits terminal next
move_of symbols.Result terminal next = on_result terminal
move_of symbols.Params terminal next = on_params terminal
move_of symbols.Param terminal next = on_param terminal
move_of symbols.MoreParams terminal next = on_more_params terminal
move_of symbols.Direction terminal next = on_direction terminal
move_of symbols.Semantic terminal next = on_semantic terminal
move_of symbols.AttributeArguments terminal next = on_attribute_arguments terminal
move_of symbols.Attributes terminal next = on_attributes terminal
move_of symbols.Attributed terminal next = on_attributed terminal
move_of symbols.Block terminal next = on_block terminal
move_of symbols.Statement terminal next = on_statement terminal next
move_of symbols.Statements terminal next = on_statements terminal next
move_of symbols.Local terminal next = on_local terminal
move_of symbols.Start terminal next = on_start terminal
move_of symbols.Starts terminal next = on_starts terminal
move_of symbols.StartInit terminal next = on_start_init terminal
move_of symbols.Else terminal next = on_else terminal
move_of symbols.First terminal next = on_first terminal next
move_of symbols.Optional terminal next = on_optional terminal next
move_of (symbols.Operand least) terminal next = on_operand least terminal next
move_of (symbols.Parenthesis least) terminal next = on_parenthesis least terminal next
move_of (symbols.Tail production least) terminal next = on_tail production least terminal
move_of symbols.MethodArguments terminal next = on_method_arguments terminal
move_of symbols.Args terminal next = on_args terminal
move_of symbols.ArgList terminal next = on_arg_list terminal next
move_of symbols.Expressions terminal next = on_expressions terminal

-- ---- runs

-- what comes of a token: it is read, with these symbols still to be read and these values; or all symbols are done
-- with before it is read; or it can'terminal stand there
pub data Fed : Type 0 where
  fed : (pending : List Symbol) (values : Kept) → Fed
  spent : (values : Kept) → Fed
  refused : Fed

abbrev pub after_move : Move → ℕ → List Symbol → Kept → (Kept → Fed) → Fed
after_move (reads done more) at pending values go = fed (more ++ pending) (perform_all done at values)
after_move (yields done) at pending values go = go (perform_all done at values)
after_move refuses at pending values go = refused

abbrev pub feed : List Symbol → Kept → ℕ → Terminal → Terminal → Fed
feed [] values at terminal next = spent values
feed (symbol ∷ pending) values at terminal next =
    after_move (move_of symbol terminal next) at pending values (λ values. feed pending values at terminal next)

-- the values in the end, if the tokens are read to the end
abbrev pub at_end : Fed → Option Kept
at_end (fed pending values) = None
at_end (spent values) = Some values
at_end refused = None

abbrev pub after_token : Fed → (List Symbol → Kept → Option Kept) → Option Kept
after_token (fed pending values) go = go pending values
after_token (spent values) go = None
after_token refused go = None

unfoldable pub run : List Symbol → Kept → List Numbered → Option Kept
run pending values [] = at_end (feed pending values 0 terminals.Unlisted terminals.Unlisted)
run pending values (nth at terminal ∷ more) = after_token (feed pending values at terminal (peek more)) (λ pending values. run pending values more)

-- what is to be read at first
abbrev pub start : List Symbol
start = symbols.Make acts.Empty ∷ symbols.Item ∷ symbols.Make acts.Append ∷ symbols.Items ∷ symbols.Make acts.Program ∷ []
