use Rattle.std.proofs.Common.{◌∙◌, ap, sym}
use Rattle.hl_meaning.specs.Types.{struct_type}
use Rattle.hl_meaning.specs.Views.{plain_structs, plain_ty}
use Rattle.hl_meaning.proofs.Plain.{plain_ty-Struct}
use Rattle.hl_source.specs.Offsets.{member_of}
use Rattle.hl_interpreter.proofs.HeldPaths.{member_of-other}
use Rattle.hl_interpreter.proofs.places.held_member.Goals as goal

pub returns-in-Struct : goal.returns-in-Struct
returns-in-Struct c =
    c.struct_member.ensures ∙ (ap (λ l. member_of (plain_structs l) (struct_type c.in-Struct.structure) c.args.number) c.as_slice.ensures.value ∙
    sym (ap (λ t. member_of (plain_structs c.args.program.now.structs) t c.args.number) (ap plain_ty c.in-Struct.is ∙ plain_ty-Struct c.in-Struct.structure)))

pub returns-in_default : goal.returns-in_default
returns-in_default c = sym (member_of-other (plain_structs c.args.program.now.structs) c.args.number c.args.ty.now c.in_default.not-Struct)
