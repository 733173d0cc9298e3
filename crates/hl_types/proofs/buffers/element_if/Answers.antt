use Rattle.std.proofs.Common.{◌∙◌, sym, ap, if◌then◌else◌}
use Rattle.std.specs.Option.{unwrap_or}
use Rattle.hl_meaning.specs.Types.{void_type}
use Rattle.hl_values.specs.Views.{plain_type_if}
use Rattle.hl_meaning.proofs.Plain.{plain_ty-Void}
use Rattle.hl_types.proofs.buffers.element_if.Goals as goal

pub returns-then-buffer : goal.returns-then-buffer
returns-then-buffer c = plain_ty-Void ∙ sym (ap (λ raw. if raw then void_type else unwrap_or (plain_type_if c.args.buffer.now.element) void_type) c.if-buffer.true)
