-- Trees of no form that a walk over declarations looks for.
use Rattle.std.proofs.Common.{◌≡◌, ◌∙◌, refl, sym, ap, ℕ, Bool, true, false, List, Option, None, Some, is_some, not}
use Rattle.hl_lexer.specs.Tokens.{Lexeme}
use Rattle.hl_parser.specs.declared.tree.Tree.{Tree, Tree-F, fold_out-Tree, map-Tree, out-Tree, roll-Tree, roll-out-Tree}
use Rattle.hl_parser.specs.declared.tree.Tree.TheVariants.{rolls-Attribute, rolls-Block, rolls-If, rolls-Init, rolls-Jump, rolls-Param, rolls-Primary, rolls-Result, rolls-Stmt, rolls-Unary}
use Rattle.hl_parser.specs.declared.tree.Tree.TheVariants as variants
use Rattle.hl_parser.specs.Trees as plain
use Rattle.hl_parser.specs.Trees.{more_trees, no_trees}
use Rattle.hl_parser.specs.Views.{plain_maybe, plain_of, plain_step}
use Rattle.hl_rules.specs.DeclarationRules.{always_returns, is_no_result}

-- a tree as its layer, with the plain trees of its parts
abbrev pub layer : Tree-F Tree → plain.Tree
layer form = plain_step (map-Tree Tree plain.Tree plain_of form)

pub by_layer : (tree : Tree) → plain_of tree ≡ layer (out-Tree tree)
unfolding plain_of
by_layer tree = fold_out-Tree plain.Tree plain_step tree

pub of_layer : (tree : Tree) (form : Tree-F Tree) → out-Tree tree ≡ form → tree ≡ roll-Tree form
of_layer tree form e = sym (roll-out-Tree tree) ∙ ap roll-Tree e

-- ---- statements that always return

abbrev pub IsNoStmt : Tree → Type 0
IsNoStmt tree = (at : ℕ) (part : Option Tree) → tree ≡ variants.Stmt at part → ⊥

abbrev pub IsNoBlock : Tree → Type 0
IsNoBlock tree = (at : ℕ) (statements : List Tree) → tree ≡ variants.Block at statements → ⊥

abbrev pub IsNoIf : Tree → Type 0
IsNoIf tree = (at : ℕ) (attributes : List Tree) (condition consequent : Tree) (alternative : Option Tree) → tree ≡ variants.If at attributes condition consequent alternative → ⊥

abbrev pub IsNoJump : Tree → Type 0
IsNoJump tree = (at : ℕ) (value : Option Tree) → tree ≡ variants.Jump at value → ⊥

returns-none : (tokens : List Lexeme) (tree : Tree) (form : Tree-F Tree) → out-Tree tree ≡ form → IsNoStmt tree → IsNoBlock tree → IsNoIf tree → IsNoJump tree → always_returns tokens (layer form) ≡ false
returns-none tokens tree (Tree-F.Stmt at part) e a b c d = absurd (a at part (of_layer tree (Tree-F.Stmt at part) e ∙ rolls-Stmt at part))
returns-none tokens tree (Tree-F.Block at statements) e a b c d = absurd (b at statements (of_layer tree (Tree-F.Block at statements) e ∙ rolls-Block at statements))
returns-none tokens tree (Tree-F.If at attributes condition consequent alternative) e a b c d = absurd (c at attributes condition consequent alternative (of_layer tree (Tree-F.If at attributes condition consequent alternative) e ∙ rolls-If at attributes condition consequent alternative))
returns-none tokens tree (Tree-F.Jump at value) e a b c d = absurd (d at value (of_layer tree (Tree-F.Jump at value) e ∙ rolls-Jump at value))
returns-none tokens tree form e a b c d = refl

pub always_returns-none : (tokens : List Lexeme) (tree : Tree) → IsNoStmt tree → IsNoBlock tree → IsNoIf tree → IsNoJump tree → always_returns tokens (plain_of tree) ≡ false
always_returns-none tokens tree a b c d = ap (always_returns tokens) (by_layer tree) ∙ returns-none tokens tree (out-Tree tree) refl a b c d

-- ---- results

abbrev pub IsNoResult : Tree → Type 0
IsNoResult tree = (at : ℕ) (type : Option Tree) → tree ≡ variants.Result at type → ⊥

result-none : (tree : Tree) (form : Tree-F Tree) → out-Tree tree ≡ form → IsNoResult tree → is_no_result (layer form) ≡ false
result-none tree (Tree-F.Result at type) e a = absurd (a at type (of_layer tree (Tree-F.Result at type) e ∙ rolls-Result at type))
result-none tree form e a = refl

pub is_no_result-none : (tree : Tree) → IsNoResult tree → is_no_result (plain_of tree) ≡ false
is_no_result-none tree a = ap is_no_result (by_layer tree) ∙ result-none tree (out-Tree tree) refl a

pub no-value : (at : ℕ) (type : Option Tree) → not (is_some type) ≡ is_no_result (plain.a_result at (plain_maybe type))
no-value at None = refl
no-value at (Some type) = refl

-- what isn't there
pub none-is : (there none' : Bool) → there ≡ not none' → none' ≡ not there
none-is there true e = ap not (sym e)
none-is there false e = ap not (sym e)
