use Rattle.std.proofs.Common.{◌∙◌, sym, ap, ◌+◌, [], ◌∷◌, ◌++◌, map}
use Rattle.std.specs.Option.{unwrap_or}
use Rattle.std.proofs.lemmas.List.{map-append}
use Rattle.hl_meaning.specs.Types.{void_type}
use Rattle.hl_meaning.specs.Views.{plain_member as program_member}
use Rattle.hl_rules.specs.Scopes.{MemberInfo, type_words}
use Rattle.hl_values.specs.StructTables.{Member, plain_member, plain_structs}
use Rattle.hl_types.proofs.LayoutLemmas.{made-member, member-is, no-entry}
use Rattle.hl_types.proofs.layout.add_member.Goals as goal

pub returns-in_default-clause-made : goal.returns-in_default-clause-made
returns-in_default-clause-made c = λ m is. absurd (no-entry (λ (e : Member). e.0) plain_member c.args.table.now c.args.at m (sym c.in_default.ensures) is)

pub returns-in_default-clause-next : goal.returns-in_default-clause-next
returns-in_default-clause-next c = λ m is. absurd (no-entry (λ (e : Member). e.0) plain_member c.args.table.now c.args.at m (sym c.in_default.ensures) is)

pub returns-in_default-value_at-clause-made : goal.returns-in_default-value_at-clause-made
returns-in_default-value_at-clause-made c = λ m is. absurd (no-entry (λ (e : Member). e.1) plain_member c.args.table.now c.args.at m (sym c.in_default-value_at.ensures) is)

pub returns-in_default-value_at-clause-next : goal.returns-in_default-value_at-clause-next
returns-in_default-value_at-clause-next c = λ m is. absurd (no-entry (λ (e : Member). e.1) plain_member c.args.table.now c.args.at m (sym c.in_default-value_at.ensures) is)

pub returns-clause-made : goal.returns-clause-made
returns-clause-made c = λ m is.
    let known = member-is c.args.table.now c.args.at c.in-Some.name.now c.in-Some-value_at.ty.now m c.in-Some.ensures c.in-Some-value_at.ensures is in
    ap (map program_member) c.in_ok-push.ensures.ok ∙
    (map-append program_member c.args.made.now _ ∙
    ap (λ x. map program_member c.args.made.now ++ x ∷ [])
    (made-member c.in_ok-name.name c.in-Some.name.now c.in-Some-value_at.ty.now _ c.args.offset m c.in_ok-name.ensures c.in_ok-ty.ensures known))

pub returns-clause-next : goal.returns-clause-next
returns-clause-next c = λ m is.
    let known = member-is c.args.table.now c.args.at c.in-Some.name.now c.in-Some-value_at.ty.now m c.in-Some.ensures c.in-Some-value_at.ensures is in
    c.in_ok-next.ensures ∙ (ap (λ n. c.args.offset + n) c.in_ok-words.ensures ∙
    ap (λ (x : MemberInfo). c.args.offset + unwrap_or (type_words (plain_structs c.args.structs.now) (unwrap_or x.ty void_type)) 0) known)
