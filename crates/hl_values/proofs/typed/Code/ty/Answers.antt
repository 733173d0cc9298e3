use Rattle.std.proofs.Common.{◌∙◌, sym, ap}
use Rattle.hl_meaning.specs.declared.expression.Expr.{Expr}
use Rattle.hl_meaning.specs.declared.expression.Location.{Location}
use Rattle.hl_meaning.specs.Views.{plain_ty}
use Rattle.hl_rules.specs.Nodes.{type_of_code}
use Rattle.hl_values.specs.Views.{plain_code}
use Rattle.hl_values.proofs.NodeLemmas.{place_type-is, type_of-is}
use Rattle.hl_values.proofs.typed.Code.ty.Goals as goal

pub returns-in-Place : goal.returns-in-Place
returns-in-Place c = ap (λ (p : Location). plain_ty p.ty) c.get.ensures ∙ sym (ap (λ code. type_of_code (plain_code code)) c.in-Place.is ∙ place_type-is _)

pub returns-in-Value : goal.returns-in-Value
returns-in-Value c = ap (λ (e : Expr). plain_ty e.ty) c.get-in-Value.ensures ∙ sym (ap (λ code. type_of_code (plain_code code)) c.in-Value.is ∙ type_of-is _)
