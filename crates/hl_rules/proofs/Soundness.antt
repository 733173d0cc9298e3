-- What holds of a scope behind declarations that break no rule.
use Rattle.std.proofs.Common.{◌≡◌, ℕ, ◌<◌, List, [], length, Some}
use Rattle.hl_rules.specs.Scopes.{Scope, a_struct_name, sort_of}
use Rattle.hl_rules.proofs.Fitting.{IsKnown}
use Rattle.hl_rules.proofs.StructForms.{AreKnownStructs}

-- All that the scope knows has types, its structs have a layout, and the names of structs name them.
pub record IsSound (s : Scope) : Type 0 where
  pub known : IsKnown s
  pub structs : AreKnownStructs [] s.structs
  pub struct_names : (name : List ℕ) (number : ℕ) → sort_of s name ≡ Some (a_struct_name number) → number < length s.structs
