-- The parameters of a function that breaks no rule have types, and stand in the program.
use Rattle.std.proofs.Common.{◌≡◌, Bool, false, [], ◌∷◌}
use Rattle.hl_parser.specs.Trees.{Tree, Trees, a_param, more_trees, no_trees}
use Rattle.hl_rules.specs.Declarations.{after_param, at_params, param_type}
use Rattle.hl_rules.specs.Sites.{and_tree, params_sites}
use Rattle.hl_rules.specs.Scopes.{Scope}
use Rattle.hl_rules.proofs.DeclaratorForms.{IsKnownAs}
use Rattle.hl_rules.proofs.Free.{IsFree}
use Rattle.hl_rules.proofs.InputForms.{AreKnownParams, free-param, free-params}
use Rattle.hl_rules.proofs.LocalForms.{param-declares, param-known}
use Rattle.hl_rules.proofs.ScopeForms.{KnownSort, known-sorts, sorts-outside, sound-names}
use Rattle.hl_rules.proofs.Soundness.{IsSound}
use Rattle.hl_rules.proofs.TreeShapes.{AllTrees, IsParam}
use Rattle.hl_rules.specs.Constants.{result_type}

-- before the parameters
pub sound-params : (s : Scope) (result : Tree) → IsSound s → s.blocks ≡ [] → IsSound (at_params s result)
sound-params s result sound outside =
    sound-names s ([] ∷ []) s.globals 0 false (result_type s result) sound (sorts-outside (KnownSort s.buffers s.structs) s outside (known-sorts s sound))

-- each parameter has a type that something may have
abbrev pub AreTypedParams : Scope → Trees → Type 0
AreTypedParams s no_trees = Unit {0}
AreTypedParams s (more_trees first rest) = IsKnownAs s (param_type s first) × AreTypedParams (after_param s first) rest

pub typed-params : (s : Scope) → IsSound s → (entry : Bool) (before params : Trees) → AllTrees (IsParam s.tokens) params → IsFree (params_sites s entry before params) → AreTypedParams s params
typed-params s sound entry before no_trees shape free = tt
typed-params s sound entry before (more_trees (a_param at constant direction type declarator semantic) rest) shape free =
    let param = a_param at constant direction type declarator semantic in
    let own = free-param s entry before param rest free in (
      param-known s sound at constant direction type declarator semantic shape.0 own,
      typed-params (after_param s param) (param-declares s sound param shape.0 own).sound entry (and_tree before param) rest shape.1 (free-params s entry before param rest free),
    )
typed-params s sound entry before (more_trees other rest) shape free = absurd shape.0

pub known-params : (s : Scope) (params : Trees) → AreTypedParams s params → AreKnownParams s params
known-params s no_trees typed = tt
known-params s (more_trees first rest) typed = ((typed.0.type, typed.0.is), known-params (after_param s first) rest typed.1)
