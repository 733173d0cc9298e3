-- The values that the parser holds, beside those of the machine.
use Rattle.std.specs.Prelude.{◌≡◌, ℕ, Bool, true, false, ◌<◌, ◌≤◌, max, List, [], ◌∷◌, ◌++◌, map, reverse, Option, None, Some}
use Rattle.hl_parser.specs.declared.act.Act.{Act}
use Rattle.hl_parser.specs.declared.parts.Value as held
use Rattle.hl_parser.specs.declared.values.Values.{Values}
use Rattle.hl_parser.specs.declared.parser.Parser.{Parser}
use Rattle.hl_parser.specs.declared.parser.Outcome.{Outcome}
use Rattle.hl_parser.specs.declared.parser.Outcome.TheVariants.{Reads, Yields, Refuses}
use Rattle.hl_parser.specs.declared.step.Fed.{Fed}
use Rattle.hl_parser.specs.declared.step.Fed.TheVariants.{Read, Spent, Refused}
use Rattle.hl_parser.specs.Parts.{depth_of, value_of}
use Rattle.hl_parser.specs.declared.tree.Tree.{Tree}
use Rattle.hl_parser.specs.Trees.{depth}
use Rattle.hl_parser.specs.Trees as plain
use Rattle.hl_parser.specs.Views.{plain_of}
use Rattle.hl_parser.specs.Machine as machine
use Rattle.hl_parser.specs.Machine.{Kept, Move, Value, gone, kept, perform_all, reads, refuses, yields, no_value, token_value, tree_value, trees_value}

-- the values as the machine sees them, the last one first
abbrev pub values_of : List held.Value → List Value
values_of values = reverse (map (λ v. value_of v.part) values)

-- how deep the deepest value is
abbrev pub deepest : List Value → ℕ
deepest [] = 0
deepest (value ∷ values) = max (depth_of value) (deepest values)

-- no values are kept because there are none, or one is too deep
abbrev pub IsLost : Kept → Type 0
IsLost gone = Unit {0}
IsLost (kept values) = 64 < deepest values

abbrev pub IsHeld : Option (List held.Value) → Kept → Type 0
IsHeld None values = IsLost values
IsHeld (Some mine) values = values ≡ kept (values_of mine)

abbrev pub Holds : Values → Kept → Type 0
Holds mine values = IsHeld mine.kept values

-- acts were done on the values
abbrev pub Performed : List Act → ℕ → Values → Values → Type 0
Performed done at before after = (values : Kept) → Holds before values → Holds after (perform_all done at values)

-- what a symbol did at a token: it read it, it yielded, or it can't stand there
abbrev pub Did : Move → ℕ → Parser → Parser → Outcome → Type 0
Did (reads done more) at before after Reads = (after.pending ≡ more ++ before.pending) × Performed done at before.values after.values
Did (yields done) at before after Yields = (after.pending ≡ before.pending) × Performed done at before.values after.values
Did refuses at before after Refuses = Unit {0}
Did move at before after outcome = ⊥

-- what comes of a token, with what is held then
abbrev pub FedIs : machine.Fed → Parser → Fed → Type 0
FedIs (machine.fed pending values) after Read = (after.pending ≡ pending) × Holds after.values values
FedIs (machine.spent values) after Spent = Holds after.values values
FedIs machine.refused after Refused = Unit {0}
FedIs outcome after result = ⊥

-- one tree alone was read
abbrev pub HoldsOneTree : Values → Type 0
HoldsOneTree mine = (tree : plain.Tree) × Holds mine (kept (tree_value tree ∷ []))

-- what the values are in the end: the tree, or none where the tree is too deep
abbrev pub Finishes : Option Tree → plain.Tree → Type 0
Finishes (Some found) tree = (plain_of found ≡ tree) × (depth tree ≤ 64)
Finishes None tree = 64 < depth tree

-- an act made the values, or none are kept any more
abbrev pub Makes : Kept → Bool → List held.Value → Type 0
Makes values true mine = values ≡ kept (values_of mine)
Makes values false mine = IsLost values
