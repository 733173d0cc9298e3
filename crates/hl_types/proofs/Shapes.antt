-- Trees of no form that a walk looks for.
use Rattle.std.proofs.Common.{◌≡◌, ◌∙◌, refl, sym, ap, subst, ℕ, Bool, List, [], Option, None, option_map}
use Rattle.hl_parser.specs.declared.tree.Tree.{Tree, Tree-F, out-Tree}
use Rattle.hl_parser.specs.declared.tree.Tree.TheVariants.{rolls-Attribute, rolls-Block, rolls-Declarator, rolls-Do, rolls-For, rolls-If, rolls-Init, rolls-Jump, rolls-Local, rolls-Start, rolls-Stmt, rolls-Type, rolls-While}
use Rattle.hl_parser.specs.declared.tree.Tree.TheVariants as variants
use Rattle.hl_parser.specs.Trees as plain
use Rattle.hl_parser.specs.Trees.{Trees, more_trees, no_trees, present}
use Rattle.hl_parser.specs.Views.{plain_of}
use Rattle.hl_meaning.specs.Trees.{run_stmt}
use Rattle.hl_meaning.specs.Types.{Ty}
use Rattle.hl_rules.specs.Constants.{declarator_type}
use Rattle.hl_rules.specs.Declarations.{after_first, after_start, after_statement}
use Rattle.hl_rules.specs.Elaboration.{first_variables, start_variable, statement_variables}
use Rattle.hl_rules.specs.Expressions.{value_code}
use Rattle.hl_rules.specs.Scopes.{Scope, opened}
use Rattle.hl_rules.specs.Sites.{attributes_sites, declarator_sites, expression_sites, first_sites, init_sites, start_sites, statement_sites, type_sites}
use Rattle.hl_rules.specs.Statements.{first_code, init_code, one_stmt, start_code, statement_code}
use Rattle.hl_types.proofs.Closing.{behind-none}
use Rattle.hl_types.proofs.DeclaredShapes.{by_layer, layer, of_layer}

-- ---- types

abbrev IsNoType : Tree → Type 0
IsNoType tree = (at : ℕ) (basic : Option Tree) → tree ≡ variants.Type at basic → ⊥

type-none : (s : Scope) (tree : Tree) (form : Tree-F Tree) → out-Tree tree ≡ form → IsNoType tree → type_sites s (layer form) ≡ []
type-none s tree (Tree-F.Type at basic) e not = absurd (not at basic (of_layer tree (Tree-F.Type at basic) e ∙ rolls-Type at basic))
type-none s tree form e not = refl

pub type_sites-none : (s : Scope) (tree : Tree) → IsNoType tree → type_sites s (plain_of tree) ≡ []
type_sites-none s tree not = ap (type_sites s) (by_layer tree) ∙ type-none s tree (out-Tree tree) refl not

-- ---- attributes

abbrev IsNoAttribute : Tree → Type 0
IsNoAttribute tree = (at name : ℕ) (arguments : List Tree) → tree ≡ variants.Attribute at name arguments → ⊥

attribute-none : (s : Scope) (tree : Tree) (form : Tree-F Tree) → out-Tree tree ≡ form → IsNoAttribute tree → attributes_sites s (more_trees (layer form) no_trees) ≡ []
attribute-none s tree (Tree-F.Attribute at name arguments) e not = absurd (not at name arguments (of_layer tree (Tree-F.Attribute at name arguments) e ∙ rolls-Attribute at name arguments))
attribute-none s tree form e not = refl

pub attributes_sites-none : (s : Scope) (tree : Tree) → IsNoAttribute tree → attributes_sites s (more_trees (plain_of tree) no_trees) ≡ []
attributes_sites-none s tree not = ap (λ t. attributes_sites s (more_trees t no_trees)) (by_layer tree) ∙ attribute-none s tree (out-Tree tree) refl not

-- ---- declarators

abbrev IsNoDeclarator : Tree → Type 0
IsNoDeclarator tree = (at : ℕ) (lengths : List Tree) → tree ≡ variants.Declarator at lengths → ⊥

record NoDeclarator (s : Scope) (ty : Option Ty) (t : plain.Tree) : Type 0 where
  pub own : declarator_type s ty t ≡ None
  pub found : declarator_sites s ty t ≡ []

declarator-none : (s : Scope) (ty : Option Ty) (tree : Tree) (form : Tree-F Tree) → out-Tree tree ≡ form → IsNoDeclarator tree → NoDeclarator s ty (layer form)
declarator-none s ty tree (Tree-F.Declarator at lengths) e not = absurd (not at lengths (of_layer tree (Tree-F.Declarator at lengths) e ∙ rolls-Declarator at lengths))
declarator-none s ty tree form e not = record { own = refl; found = refl }

pub declarator_type-none : (s : Scope) (ty : Option Ty) (tree : Tree) → IsNoDeclarator tree → declarator_type s ty (plain_of tree) ≡ None
declarator_type-none s ty tree not = ap (declarator_type s ty) (by_layer tree) ∙ (declarator-none s ty tree (out-Tree tree) refl not).own

pub declarator_sites-none : (s : Scope) (ty : Option Ty) (tree : Tree) → IsNoDeclarator tree → declarator_sites s ty (plain_of tree) ≡ []
declarator_sites-none s ty tree not = ap (declarator_sites s ty) (by_layer tree) ∙ (declarator-none s ty tree (out-Tree tree) refl not).found

-- ---- initialisers

abbrev IsNoInit : Tree → Type 0
IsNoInit tree = (at : ℕ) (value : Option Tree) (parts : List Tree) → tree ≡ variants.Init at value parts → ⊥

init-none : (s : Scope) (ty : Option Ty) (tree : Tree) (form : Tree-F Tree) → out-Tree tree ≡ form → IsNoInit tree → init_sites s ty (layer form) ≡ []
init-none s ty tree (Tree-F.Init at value parts) e not = absurd (not at value parts (of_layer tree (Tree-F.Init at value parts) e ∙ rolls-Init at value parts))
init-none s ty tree form e not = refl

pub init_sites-none : (s : Scope) (ty : Option Ty) (tree : Tree) → IsNoInit tree → init_sites s ty (plain_of tree) ≡ []
init_sites-none s ty tree not = ap (init_sites s ty) (by_layer tree) ∙ init-none s ty tree (out-Tree tree) refl not

init-no-code : (s : Scope) (ty : Ty) (tree : Tree) (form : Tree-F Tree) → out-Tree tree ≡ form → IsNoInit tree → init_code s ty (layer form) ≡ None
init-no-code s ty tree (Tree-F.Init at value parts) e not = absurd (not at value parts (of_layer tree (Tree-F.Init at value parts) e ∙ rolls-Init at value parts))
init-no-code s ty tree form e not = refl

pub init_code-none : (s : Scope) (ty : Ty) (tree : Tree) → IsNoInit tree → init_code s ty (plain_of tree) ≡ None
init_code-none s ty tree not = ap (init_code s ty) (by_layer tree) ∙ init-no-code s ty tree (out-Tree tree) refl not

-- ---- variables

abbrev IsNoStart : Tree → Type 0
IsNoStart tree = (at : ℕ) (declarator : Tree) (init : Option Tree) → tree ≡ variants.Start at declarator init → ⊥

pub record NoStart (s : Scope) (ty : Option Ty) (is_const : Bool) (t : plain.Tree) : Type 0 where
  pub code : start_code s ty t ≡ None
  pub found : start_sites s ty t ≡ []
  pub scope : after_start ty is_const s t ≡ s
  pub variables : start_variable s ty t ≡ []

start-none : (s : Scope) (ty : Option Ty) (is_const : Bool) (tree : Tree) (form : Tree-F Tree) → out-Tree tree ≡ form → IsNoStart tree → NoStart s ty is_const (layer form)
start-none s ty is_const tree (Tree-F.Start at declarator init) e not = absurd (not at declarator init (of_layer tree (Tree-F.Start at declarator init) e ∙ rolls-Start at declarator init))
start-none s ty is_const tree form e not = record { code = refl; found = refl; scope = refl; variables = refl }

pub no_start : (s : Scope) (ty : Option Ty) (is_const : Bool) (tree : Tree) → IsNoStart tree → NoStart s ty is_const (plain_of tree)
no_start s ty is_const tree not = subst (NoStart s ty is_const) (sym (by_layer tree)) (start-none s ty is_const tree (out-Tree tree) refl not)

-- ---- first parts of a `for`

abbrev IsNoLocal : Tree → Type 0
IsNoLocal tree = (at : ℕ) (constant : Option ℕ) (type : Tree) (starts : List Tree) → tree ≡ variants.Local at constant type starts → ⊥

pub record IsRun (s : Scope) (t : plain.Tree) : Type 0 where
  pub code : first_code s t ≡ option_map (λ value. one_stmt (run_stmt value)) (value_code s t)
  pub found : first_sites s t ≡ expression_sites s t
  pub scope : (around : Scope) → after_first around (present t) ≡ opened around
  pub variables : first_variables s (present t) ≡ []

first-run : (s : Scope) (tree : Tree) (form : Tree-F Tree) → out-Tree tree ≡ form → IsNoLocal tree → IsRun s (layer form)
first-run s tree (Tree-F.Local at constant type starts) e not = absurd (not at constant type starts (of_layer tree (Tree-F.Local at constant type starts) e ∙ rolls-Local at constant type starts))
first-run s tree form e not = record { code = refl; found = refl; scope = λ around. refl; variables = refl }

pub is_run : (s : Scope) (tree : Tree) → IsNoLocal tree → IsRun s (plain_of tree)
is_run s tree not = subst (IsRun s) (sym (by_layer tree)) (first-run s tree (out-Tree tree) refl not)

-- ---- statements

pub record IsOther (tree : Tree) : Type 0 where
  pub stmt : (at : ℕ) (part : Option Tree) → tree ≡ variants.Stmt at part → ⊥
  pub block : (at : ℕ) (statements : List Tree) → tree ≡ variants.Block at statements → ⊥
  pub local : (at : ℕ) (constant : Option ℕ) (type : Tree) (starts : List Tree) → tree ≡ variants.Local at constant type starts → ⊥
  pub choice : (at : ℕ) (attributes : List Tree) (condition consequent : Tree) (alternative : Option Tree) → tree ≡ variants.If at attributes condition consequent alternative → ⊥
  pub for_loop : (at : ℕ) (attributes : List Tree) (first condition step : Option Tree) (body : Tree) → tree ≡ variants.For at attributes first condition step body → ⊥
  pub while_loop : (at : ℕ) (attributes : List Tree) (condition body : Tree) → tree ≡ variants.While at attributes condition body → ⊥
  pub do_loop : (at : ℕ) (attributes : List Tree) (body condition : Tree) → tree ≡ variants.Do at attributes body condition → ⊥
  pub jump : (at : ℕ) (value : Option Tree) → tree ≡ variants.Jump at value → ⊥

pub record Runs (s : Scope) (t : plain.Tree) : Type 0 where
  pub code : statement_code s t ≡ option_map (λ value. one_stmt (run_stmt value)) (value_code s t)
  pub found : statement_sites s t ≡ expression_sites s t
  pub scope : after_statement s t ≡ s
  pub variables : statement_variables s t ≡ []

statement-runs : (s : Scope) (tree : Tree) (form : Tree-F Tree) → out-Tree tree ≡ form → IsOther tree → Runs s (layer form)
statement-runs s tree (Tree-F.Stmt at part) e not = absurd (not.stmt at part (of_layer tree (Tree-F.Stmt at part) e ∙ rolls-Stmt at part))
statement-runs s tree (Tree-F.Block at statements) e not = absurd (not.block at statements (of_layer tree (Tree-F.Block at statements) e ∙ rolls-Block at statements))
statement-runs s tree (Tree-F.Local at constant type starts) e not = absurd (not.local at constant type starts (of_layer tree (Tree-F.Local at constant type starts) e ∙ rolls-Local at constant type starts))
statement-runs s tree (Tree-F.If at attributes condition consequent alternative) e not = absurd (not.choice at attributes condition consequent alternative (of_layer tree (Tree-F.If at attributes condition consequent alternative) e ∙ rolls-If at attributes condition consequent alternative))
statement-runs s tree (Tree-F.For at attributes first condition step body) e not = absurd (not.for_loop at attributes first condition step body (of_layer tree (Tree-F.For at attributes first condition step body) e ∙ rolls-For at attributes first condition step body))
statement-runs s tree (Tree-F.While at attributes condition body) e not = absurd (not.while_loop at attributes condition body (of_layer tree (Tree-F.While at attributes condition body) e ∙ rolls-While at attributes condition body))
statement-runs s tree (Tree-F.Do at attributes body condition) e not = absurd (not.do_loop at attributes body condition (of_layer tree (Tree-F.Do at attributes body condition) e ∙ rolls-Do at attributes body condition))
statement-runs s tree (Tree-F.Jump at value) e not = absurd (not.jump at value (of_layer tree (Tree-F.Jump at value) e ∙ rolls-Jump at value))
statement-runs s tree form e not = record { code = refl; found = refl; scope = behind-none s; variables = refl }

pub runs : (s : Scope) (tree : Tree) → IsOther tree → Runs s (plain_of tree)
runs s tree not = subst (Runs s) (sym (by_layer tree)) (statement-runs s tree (out-Tree tree) refl not)
