use Rattle.std.proofs.Common.{◌∙◌, sym, ap}
use Rattle.std.specs.Option.{unwrap_or}
use Rattle.hl_meaning.specs.Types.{void_type}
use Rattle.hl_values.specs.Views.{plain_type_if}
use Rattle.hl_meaning.proofs.Plain.{plain_ty-Void}
use Rattle.hl_types.proofs.layout.type_or_void.Goals as goal

pub returns-in-None : goal.returns-in-None
returns-in-None c = plain_ty-Void ∙ sym (ap (λ ty. unwrap_or (plain_type_if ty) void_type) c.in-None.is)
