use Rattle.std.proofs.Common.{◌∙◌, ap, sym}
use Rattle.hl_source.specs.Operations.{component_kind}
use Rattle.hl_interpreter.specs.HeldPlaces.{plain_type}
use Rattle.hl_interpreter.proofs.places.reached_kind.Goals as goal

pub returns-in-Held : goal.returns-in-Held
returns-in-Held c = c.component_kind.ensures ∙ sym (ap (λ t. component_kind (plain_type t)) c.in-Held.is)

pub returns-in-Component : goal.returns-in-Component
returns-in-Component c = sym (ap (λ t. component_kind (plain_type t)) c.in-Component.is)

pub returns-in-Nothing : goal.returns-in-Nothing
returns-in-Nothing c = sym (ap (λ t. component_kind (plain_type t)) c.in-Nothing.is)
