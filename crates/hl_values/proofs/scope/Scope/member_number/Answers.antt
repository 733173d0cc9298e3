use Rattle.std.proofs.Common.{◌∙◌, sym, ap, None, Some}
use Rattle.hl_rules.specs.Values.{member_number}
use Rattle.hl_values.specs.ScopeViews.{scope_of}
use Rattle.hl_values.proofs.KnownLemmas.{member-number, members-known}
use Rattle.hl_values.proofs.scope.Scope.member_number.Goals as goal

pub returns-in_err-members : goal.returns-in_err-members
unfolding scope_of
returns-in_err-members c =
    c.from_residual.ensures ∙
    sym (ap (λ members. member_number members c.args.name.now) (members-known c.args.self.now.structs c.args.number None c.in_err-members.ensures))

pub returns : goal.returns
unfolding scope_of
returns c =
    c.number.ensures ∙
    sym (ap (λ members. member_number members c.args.name.now) (members-known c.args.self.now.structs c.args.number (Some c.in_ok-members.field-0.now) c.in_ok-members.ensures) ∙
    member-number c.in_ok-members.field-0.now c.args.name.now)
