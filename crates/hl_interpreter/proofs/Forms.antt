-- Expressions that are held, as the meaning of programs speaks of them.
use Rattle.std.proofs.Common.{◌≡◌, ◌∙◌, ap}
use Rattle.hl_meaning.specs.declared.expression.Expr.{Expr}
use Rattle.hl_meaning.specs.declared.expression.Form.{Form}
use Rattle.hl_meaning.specs.Trees.{an_expr, type_of}
use Rattle.hl_meaning.specs.Trees as plain
use Rattle.hl_meaning.specs.Views.{plain_expr, plain_form, plain_ty}
use Rattle.hl_meaning.proofs.Plain.{plain_expr-is}

-- an expression of a form
pub expr-of : (e : Expr) (f : Form) (g : plain.Form) → e.form ≡ f → plain_form f ≡ g → plain_expr e ≡ an_expr (plain_ty e.ty) e.at g
expr-of e f g is seen = plain_expr-is e ∙ ap (an_expr (plain_ty e.ty) e.at) (ap plain_form is ∙ seen)

-- its type
pub type-of : (e : Expr) → type_of (plain_expr e) ≡ plain_ty e.ty
type-of e = ap type_of (plain_expr-is e)
