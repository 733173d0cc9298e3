use Rattle.std.proofs.Common.{◌∙◌, sym, ap}
use Rattle.hl_meaning.specs.Views.{plain_ty}
use Rattle.hl_meaning.proofs.Plain.{plain_ty-Struct}
use Rattle.hl_types.specs.Postfix.{struct_number}
use Rattle.hl_types.proofs.DotLemmas.{struct-other}
use Rattle.hl_types.proofs.dots.struct_number.Goals as goal

pub returns-in-Struct : goal.returns-in-Struct
returns-in-Struct c = sym (ap struct_number (ap plain_ty c.in-Struct.is ∙ plain_ty-Struct c.in-Struct.number))

pub returns-in_default : goal.returns-in_default
returns-in_default c = struct-other c.args.ty.now c.in_default.not-Struct
