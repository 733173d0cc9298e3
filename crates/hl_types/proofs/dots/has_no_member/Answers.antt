use Rattle.std.proofs.Common.{◌∙◌, sym, ap, Some}
use Rattle.std.specs.Option.{is_none}
use Rattle.hl_meaning.specs.Types.{Ty}
use Rattle.hl_meaning.specs.Views.{plain_ty}
use Rattle.hl_meaning.proofs.Plain.{plain_ty-Array, plain_ty-Struct}
use Rattle.hl_rules.specs.ExpressionRules.{is_no_member}
use Rattle.hl_values.specs.ScopeViews.{scope_of}
use Rattle.hl_types.proofs.DotLemmas.{member-other, none-found}
use Rattle.hl_types.proofs.dots.has_no_member.Goals as goal

pub returns-in-Struct : goal.returns-in-Struct
returns-in-Struct c =
    none-found c.member_number.result c.is_none.result c.is_none.ensures ∙ (ap is_none c.member_number.ensures ∙
    sym (ap (λ (t : Ty). is_no_member (scope_of c.args.scope.now) c.args.name.now (Some t)) (ap plain_ty c.in-Struct.is ∙ plain_ty-Struct c.in-Struct.number)))

pub returns-in-Array : goal.returns-in-Array
returns-in-Array c =
    sym (ap (λ (t : Ty). is_no_member (scope_of c.args.scope.now) c.args.name.now (Some t)) (ap plain_ty c.in-Array.is ∙ plain_ty-Array _ _))

pub returns-in_default : goal.returns-in_default
returns-in_default c = member-other (scope_of c.args.scope.now) c.args.name.now c.args.ty.now c.in_default.not-Struct c.in_default.not-Array
