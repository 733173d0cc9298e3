use Rattle.std.proofs.Common.{◌∙◌, ap, [], ◌∷◌, ◌++◌, map}
use Rattle.std.proofs.lemmas.List.{map-append}
use Rattle.hl_meaning.specs.Views.{plain_member as program_member, plain_struct as program_struct}
use Rattle.hl_values.specs.StructTables.{plain_structs}
use Rattle.hl_types.proofs.LayoutLemmas.{known_def, no-members, no-name, struct-there}
use Rattle.hl_types.proofs.layout.add_struct.Goals as goal

pub returns-in_default : goal.returns-in_default
returns-in_default c = λ d is. absurd (no-name c.args.structs.now c.args.number d c.in_default.ensures is)

pub returns-in_default-members : goal.returns-in_default-members
returns-in_default-members c = λ d is. absurd (no-members c.args.structs.now c.args.number d c.in_default-members.ensures is)

pub returns : goal.returns
returns c = λ d is.
    let all = plain_structs c.args.structs.now in
    let members = map program_member c.in_ok-members.members in
    ap (map program_struct) c.in_ok-push.ensures.ok ∙
    (map-append program_struct c.args.made.now _ ∙
    ap (λ x. map program_struct c.args.made.now ++ x ∷ [])
    (ap (λ x. known_def x members c.in_ok-words.words) c.in_ok-name.ensures ∙
    struct-there all c.args.structs.now c.args.number c.in-Some.name.now c.in-Some-members.table.now members c.in_ok-words.words d c.in-Some.ensures c.in-Some-members.ensures c.in_ok-members.ensures
    (c.in_ok-words.ensures _ c.words.ensures) is))
