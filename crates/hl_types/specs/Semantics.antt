-- The semantics of parameters that stand before others.
use Rattle.std.specs.Prelude.{◌≡◌, ◌&&◌, Bool, false, not, Option, None, Some}
use Rattle.hl_parser.specs.Trees.{Trees}
use Rattle.hl_meaning.specs.declared.program.Semantic.{Semantic}
use Rattle.hl_meaning.specs.declared.program.Semantic.TheVariants.{DispatchThreadId, GroupId, GroupThreadId, GroupIndex}
use Rattle.hl_meaning.specs.Types.{Ty}
use Rattle.hl_rules.specs.DeclarationRules.{is_semantic_among, is_semantic_type}
use Rattle.hl_rules.specs.Scopes.{Scope}
use Rattle.hl_rules.specs.Values.{is_known}
use Rattle.hl_types.specs.declared.semantics.Semantics.{Semantics}

-- whether a semantic is among those that are held
abbrev pub holds : Semantics → Semantic → Bool
holds held DispatchThreadId = held.dispatch_thread_id
holds held GroupId = held.group_id
holds held GroupThreadId = held.group_thread_id
holds held GroupIndex = held.group_index

-- those of parameters are held
abbrev pub AreHeld : Scope → (before : Trees) → Semantics → Type 0
AreHeld s before held = (semantic : Semantic) → holds held semantic ≡ is_semantic_among s semantic before

-- whether a parameter of a type may have a semantic, where these are taken
abbrev pub is_input_behind : Semantics → Option Ty → Option Semantic → Bool
is_input_behind held ty None = false
is_input_behind held ty (Some semantic) = not (is_known (λ x. not (is_semantic_type semantic x)) ty) && not (holds held semantic)
