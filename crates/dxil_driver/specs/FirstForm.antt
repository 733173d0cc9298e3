-- Programs of the first form: an entry of literal stores to one byte-address buffer.
--
-- The program has no struct, groupshared variable or constant, at most one buffer, and one function, which is its entry
-- and has no parameters. Each statement of it is a store of a literal word at a literal address of the buffer.
use Rattle.std.specs.Prelude.{◌≡◌, ℕ, ◌==◌, ◌&&◌, Bool, true, false, if◌then◌else◌, List, [], ◌∷◌, Option, Some, None, option_map, option_and_then}
use Rattle.hl_lexer.specs.Tokens.{Lexeme}
use Rattle.hl_parser.specs.Trees.{Tree}
use Rattle.hl_meaning.specs.Programs.{FunctionDef, Program, Resource}
use Rattle.hl_meaning.specs.Trees.{Expr, Form, MaybeExpr, Stmt, Stmts, an_expr, convert_form, literal_form, method_form, more_stmts, no_expr, no_stmts, run_stmt, some_expr}
use Rattle.hl_rules.specs.Elaboration.{Elaborates}
use Rattle.dxil_driver.specs.declared.stores.LiteralStore.{LiteralStore}
use Rattle.dxil_driver.specs.declared.stores.FirstForm.{FirstForm}
use Rattle.dxil_driver.specs.SourceText.{HasTree}

abbrev pub is_empty : {A : Type 0} → List A → Bool
is_empty [] = true
is_empty (x ∷ xs) = false

-- ---- stores

-- the word of a literal
abbrev pub literal_word : Form → Option ℕ
literal_word (literal_form word) = Some word
literal_word _ = None

-- the form of what is converted, which is a literal of another kind; any other form is itself
abbrev pub unconverted : Form → Form
unconverted (convert_form (an_expr ty at form)) = form
unconverted form = form

-- The word of an address or of what is stored, where it is a literal. Both are of the type uint, since the program is
-- well formed, and a literal that is converted to it keeps its word.
abbrev pub word_of : Expr → Option ℕ
word_of (an_expr ty at form) = literal_word (unconverted form)

abbrev pub a_store : (address word : Option ℕ) → Option LiteralStore
a_store address word = option_and_then (λ a. option_map (λ w. record { address = a; word = w }) word) address

-- the store of one word to the buffer of number 0
abbrev pub one_word : (resource count : ℕ) → (address value : Expr) → Option LiteralStore
one_word resource count address value = if resource == 0 && count == 1 then a_store (word_of address) (word_of value) else None

abbrev pub stored : (resource count : ℕ) → (address : Expr) → MaybeExpr → Option LiteralStore
stored resource count address no_expr = None
stored resource count address (some_expr value) = one_word resource count address value

-- `Store` of two literals
abbrev pub form_store : Form → Option LiteralStore
form_store (method_form resource count address value) = stored resource count address value
form_store _ = None

abbrev pub expr_store : Expr → Option LiteralStore
expr_store (an_expr ty at form) = form_store form

abbrev pub store_of : Stmt → Option LiteralStore
store_of (run_stmt value) = expr_store value
store_of _ = None

-- the stores that statements are, where each of them is one
abbrev pub stores_of : Stmts → Option (List LiteralStore)
stores_of no_stmts = Some []
stores_of (more_stmts first rest) = option_and_then (λ store. option_map (λ stores. store ∷ stores) (stores_of rest)) (store_of first)

-- without a buffer there is no statement
abbrev pub stores_with : Option (List ℕ) → Stmts → Option (List LiteralStore)
stores_with None no_stmts = Some []
stores_with None (more_stmts first rest) = None
stores_with (Some buffer) statements = stores_of statements

-- ---- programs

abbrev pub is_zero : Option ℕ → Bool
is_zero None = false
is_zero (Some number) = number == 0

-- a byte-address buffer that may be written, at register 0 of space 0
abbrev pub is_output : Resource → Bool
is_output r = r.raw && (r.class == 1 && (r.space == 0 && is_zero r.register))

-- the name of the buffer, where there is one
abbrev pub buffer_of : List Resource → Option (Option (List ℕ))
buffer_of [] = Some None
buffer_of (r ∷ []) = if is_output r then Some (Some r.name) else None
buffer_of (r ∷ other ∷ resources) = None

-- the only function, which has no parameters; it is the entry, since the program has one
abbrev pub entry_of : List FunctionDef → Option FunctionDef
entry_of [] = None
entry_of (f ∷ []) = if is_empty f.parameters then Some f else None
entry_of (f ∷ other ∷ functions) = None

-- the form of a program by its parts
abbrev pub form_with : (buffer : Option (List ℕ)) → FunctionDef → (threads : List ℕ) → Option FirstForm
form_with buffer f threads =
    option_map (λ stores. record { entry = f.name; buffer = buffer; threads = threads; stores = stores }) (stores_with buffer f.body)

-- whether there is no struct, groupshared variable or constant
abbrev pub is_alone : Program → Bool
is_alone p = is_empty p.structs && (is_empty p.shared && is_empty p.constants)

abbrev pub form_between : Program → Option FirstForm
form_between p = option_and_then (λ buffer. option_and_then (λ f. form_with buffer f p.threads) (entry_of p.functions)) (buffer_of p.resources)

-- the first form of a program, where it has one
unfoldable pub form_of : Program → Option FirstForm
form_of p = if is_alone p then form_between p else None

-- the text has a tree that breaks no rule, and what it is elaborated to has this first form
pub record IsFirstForm (text entry : List ℕ) (form : FirstForm) : Type 0 where
  pub tokens : List Lexeme
  pub tree : Tree
  pub has : HasTree text tokens tree
  pub program : Program
  pub elaborated : Elaborates tree tokens entry program
  pub is_form : form_of program ≡ Some form

-- stores are there only with a buffer
abbrev pub HasBuffer : Option (List ℕ) → List LiteralStore → Type 0
HasBuffer buffer stores = buffer ≡ None → stores ≡ []

-- a text has at most one first form for an entry of a name
abbrev pub AtMostOneFirstForm : Type 0
AtMostOneFirstForm = (text entry : List ℕ) (one other : FirstForm) → IsFirstForm text entry one → IsFirstForm text entry other → one ≡ other
