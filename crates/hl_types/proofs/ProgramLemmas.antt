-- What elaboration answers, from what was noted and what was made.
use Rattle.std.proofs.Common.{◌≡◌, ◌∙◌, refl, sym, ap, subst, ℕ, List, [], Option, None, Some, option_map}
use Rattle.std.specs.Prelude.{IfOk, OnOk, Result, Ok, Err}
use Rattle.std.proofs.lemmas.Option.{none-some, same_Some}
use Rattle.base_core.specs.declared.sequence.NoMemory.{NoMemory}
use Rattle.base_core.specs.declared.place.Place.{Place}
use Rattle.hl_lexer.specs.Tokens.{Lexeme}
use Rattle.hl_parser.specs.declared.tree.Tree.{Tree as HeldTree, Tree-F, out-Tree}
use Rattle.hl_parser.specs.declared.tree.Tree.TheVariants.{rolls-Program}
use Rattle.hl_parser.specs.declared.tree.Tree.TheVariants as variants
use Rattle.hl_parser.specs.Trees.{Tree}
use Rattle.hl_parser.specs.Views.{plain_of, plain_trees}
use Rattle.hl_parser.proofs.Plain.{plain-Program}
use Rattle.hl_meaning.specs.Programs.{Program}
use Rattle.hl_meaning.specs.WellFormed.{IsWellFormed}
use Rattle.hl_rules.specs.Elaboration.{Elaborates, items_program, program_of}
use Rattle.hl_rules.specs.Laws.{AtMostOneFirst, FreeIsWellFormed, OneFirst}
use Rattle.hl_rules.specs.Rules.{BreaksFirst, BreaksNothing, IsFirstBroken, noted}
use Rattle.hl_rules.specs.Scopes.{first_scope}
use Rattle.hl_rules.specs.Sites.{items_sites, program_sites}
use Rattle.hl_rules.specs.declared.found.Broken.{Broken}
use Rattle.hl_types.specs.Elaborating.{AreSpelling}
use Rattle.hl_types.specs.Items.{plain_parts}
use Rattle.hl_types.specs.declared.fault.RuleFault.TheVariants.{Broken as BrokenFault}
use Rattle.hl_types.specs.declared.items.ProgramParts.{ProgramParts}
use Rattle.hl_types.proofs.DeclaredShapes.{by_layer, layer, of_layer}

-- ---- the tree of a program

program-items : (tokens : List Lexeme) (entry : List ℕ) (tree : HeldTree) (at : ℕ) (items : List HeldTree) → tree ≡ variants.Program at items
    → items_program (first_scope tokens entry) (plain_trees items) ≡ program_of tokens entry (plain_of tree)
program-items tokens entry tree at items is = sym (ap (program_of tokens entry) (ap plain_of is ∙ plain-Program at items))

sites-items : (tokens : List Lexeme) (entry : List ℕ) (tree : HeldTree) (at : ℕ) (items : List HeldTree) → tree ≡ variants.Program at items
    → items_sites (first_scope tokens entry) (plain_trees items) ≡ program_sites tokens entry (plain_of tree)
sites-items tokens entry tree at items is = sym (ap (program_sites tokens entry) (ap plain_of is ∙ plain-Program at items))

pub made-of : (tokens : List Lexeme) (entry : List ℕ) (tree : HeldTree) (at : ℕ) (items : List HeldTree) → tree ≡ variants.Program at items
    → (found : Option Broken) (r : Result (Option ProgramParts) NoMemory)
    → IfOk r (λ made. found ≡ None → option_map plain_parts made ≡ items_program (first_scope tokens entry) (plain_trees items))
    → IfOk r (λ made. found ≡ None → option_map plain_parts made ≡ program_of tokens entry (plain_of tree))
made-of tokens entry tree at items is found (Ok made) h = λ none. h none ∙ program-items tokens entry tree at items is
made-of tokens entry tree at items is found (Err refused) h = tt

pub noted-of : (tokens : List Lexeme) (entry : List ℕ) (tree : HeldTree) (at : ℕ) (items : List HeldTree) → tree ≡ variants.Program at items
    → (before found : Option Broken) (r : Result (Option ProgramParts) NoMemory)
    → OnOk r (found ≡ noted before (items_sites (first_scope tokens entry) (plain_trees items)))
    → OnOk r (found ≡ noted before (program_sites tokens entry (plain_of tree)))
noted-of tokens entry tree at items is before found (Ok made) h = h ∙ ap (noted before) (sites-items tokens entry tree at items is)
noted-of tokens entry tree at items is before found (Err refused) h = tt

abbrev pub IsNoProgram : HeldTree → Type 0
IsNoProgram tree = (at : ℕ) (items : List HeldTree) → tree ≡ variants.Program at items → ⊥

layer-none : (tokens : List Lexeme) (entry : List ℕ) (tree : HeldTree) (form : Tree-F HeldTree) → out-Tree tree ≡ form → IsNoProgram tree
    → (program_of tokens entry (layer form) ≡ None) × (program_sites tokens entry (layer form) ≡ [])
layer-none tokens entry tree (Tree-F.Program at items) e not = absurd (not at items (of_layer tree (Tree-F.Program at items) e ∙ rolls-Program at items))
layer-none tokens entry tree form e not = (refl, refl)

pub program-none : (tokens : List Lexeme) (entry : List ℕ) (tree : HeldTree) → IsNoProgram tree → None ≡ program_of tokens entry (plain_of tree)
program-none tokens entry tree not = sym (ap (program_of tokens entry) (by_layer tree) ∙ (layer-none tokens entry tree (out-Tree tree) refl not).0)

-- a tree of another form has no places, and nothing is noted
pub noted-none : (tokens : List Lexeme) (entry : List ℕ) (tree : HeldTree) (found : Option Broken) → IsNoProgram tree → found ≡ noted found (program_sites tokens entry (plain_of tree))
unfolding noted
noted-none tokens entry tree found not =
    sym (ap (noted found) (ap (program_sites tokens entry) (by_layer tree) ∙ (layer-none tokens entry tree (out-Tree tree) refl not).1))

-- ---- answers

-- rules that are first broken alike are the same fault
pub same_fault : (one : AtMostOneFirst) (tree : Tree) (tokens : List Lexeme) (entry : List ℕ) (at rule other_at other : ℕ)
    → BreaksFirst tree tokens entry at rule → BreaksFirst tree tokens entry other_at other → BrokenFault rule at ≡ BrokenFault other other_at
same_fault one tree tokens entry at rule other_at other first also =
    let same = one tree tokens entry at rule other_at other first also in
    ap (λ r. BrokenFault r at) same.1 ∙ ap (λ a. BrokenFault other a) same.0

module _ (tree : Tree) (tokens : List Lexeme) (entry : List ℕ) (found : Option Broken) (found-is : found ≡ noted None (program_sites tokens entry tree)) (one : OneFirst) where
  first : IsFirstBroken tree tokens entry found
  unfolding noted
  first = subst (IsFirstBroken tree tokens entry) (sym found-is) (one tree tokens entry)

  pub breaks : (b : Broken) → found ≡ Some b → BreaksFirst tree tokens entry b.at b.rule
  breaks b is = subst (IsFirstBroken tree tokens entry) is first

  pub free : found ≡ None → BreaksNothing tree tokens entry
  free is = subst (IsFirstBroken tree tokens entry) is first

module _ (tree : Tree) (tokens : List Lexeme) (end : Place) (entry : List ℕ) (spelling : AreSpelling tokens end tree) (fits : FreeIsWellFormed) (free : BreaksNothing tree tokens entry)
    (made : Option ProgramParts) (made-is : option_map plain_parts made ≡ program_of tokens entry tree) where
  becomes : (program : Program) × (program_of tokens entry tree ≡ Some program) × IsWellFormed program
  becomes = fits spelling.text entry tokens end tree spelling.list spelling.spelled free

  pub never_none : made ≡ None → ⊥
  never_none none = none-some becomes.0 (ap (λ m. option_map plain_parts m) (sym none) ∙ (made-is ∙ becomes.1))

  pub parts-become : (parts : ProgramParts) → made ≡ Some parts → program_of tokens entry tree ≡ Some (plain_parts parts)
  parts-become parts is = sym made-is ∙ ap (λ m. option_map plain_parts m) is

  pub parts-fit : (parts : ProgramParts) → made ≡ Some parts → IsWellFormed (plain_parts parts)
  parts-fit parts is = subst IsWellFormed (same_Some becomes.0 (plain_parts parts) (sym becomes.1 ∙ parts-become parts is)) becomes.2

  pub elaborated : (parts : ProgramParts) (program : Program) → made ≡ Some parts → program ≡ plain_parts parts → Elaborates tree tokens entry program
  elaborated parts program is same = record { free = free; becomes = parts-become parts is ∙ ap (λ p. Some p) (sym same) }
