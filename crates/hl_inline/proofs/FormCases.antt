-- Held expressions that are no calls.
use Rattle.std.proofs.Common.{◌≡◌, ◌∙◌, sym, ap, subst, ℕ, true, false, List}
use Rattle.hl_meaning.specs.declared.expression.Arg.{Arg}
use Rattle.hl_meaning.specs.declared.expression.Expr.{Expr}
use Rattle.hl_meaning.specs.declared.expression.Form.{Form, Form-F, out-Form, roll-Form, roll-out-Form}
use Rattle.hl_meaning.specs.declared.expression.Form.TheVariants as forms
use Rattle.hl_meaning.specs.declared.expression.Form.TheVariants.{rolls-Literal, rolls-Read, rolls-Write, rolls-Convert, rolls-Unary, rolls-Binary, rolls-Choose, rolls-Build, rolls-Pick, rolls-Call, rolls-Intrinsic, rolls-Method, rolls-Atomic}
use Rattle.hl_meaning.specs.declared.expression.Location.{Location}
use Rattle.hl_meaning.specs.declared.expression.PathPart.{PathPart}
use Rattle.hl_meaning.specs.declared.expression.Root.{Root}
use Rattle.hl_meaning.specs.declared.expression.Target.{Target}
use Rattle.hl_meaning.specs.Types.{Ty}
use Rattle.hl_meaning.specs.Trees.{an_expr}
use Rattle.hl_meaning.specs.Views.{plain_expr, plain_form, plain_ty}
use Rattle.hl_meaning.proofs.Plain.{plain_expr-is, plain_form-Atomic, plain_form-Binary, plain_form-Build, plain_form-Call, plain_form-Choose, plain_form-Convert, plain_form-Intrinsic, plain_form-Literal, plain_form-Method, plain_form-Pick, plain_form-Read, plain_form-Unary, plain_form-Write}
use Rattle.hl_inline.specs.EmittedStatements.{is_call}

form-no_call : (ty : Ty) (at : ℕ) (o : Form) → ((function : ℕ) (args : List Arg) → o ≡ forms.Call function args → ⊥) → is_call (an_expr ty at (plain_form o)) ≡ false
form-no_call ty at o =
    subst (λ o. ((function : ℕ) (args : List Arg) → o ≡ forms.Call function args → ⊥) → is_call (an_expr ty at (plain_form o)) ≡ false) (roll-out-Form o) (of_layer (out-Form o))
  where
    of_layer : (x : Form-F Arg Form PathPart Root Target Expr Location) → ((function : ℕ) (args : List Arg) → roll-Form x ≡ forms.Call function args → ⊥)
        → is_call (an_expr ty at (plain_form (roll-Form x))) ≡ false
    of_layer (Form-F.Literal word) other = ap (λ f. is_call (an_expr ty at f)) (ap plain_form (rolls-Literal word) ∙ plain_form-Literal word)
    of_layer (Form-F.Read place) other = ap (λ f. is_call (an_expr ty at f)) (ap plain_form (rolls-Read place) ∙ plain_form-Read place)
    of_layer (Form-F.Write to op common value old) other = ap (λ f. is_call (an_expr ty at f)) (ap plain_form (rolls-Write to op common value old) ∙ plain_form-Write to op common value old)
    of_layer (Form-F.Convert value) other = ap (λ f. is_call (an_expr ty at f)) (ap plain_form (rolls-Convert value) ∙ plain_form-Convert value)
    of_layer (Form-F.Unary op value) other = ap (λ f. is_call (an_expr ty at f)) (ap plain_form (rolls-Unary op value) ∙ plain_form-Unary op value)
    of_layer (Form-F.Binary op left right) other = ap (λ f. is_call (an_expr ty at f)) (ap plain_form (rolls-Binary op left right) ∙ plain_form-Binary op left right)
    of_layer (Form-F.Choose cond yes' no') other = ap (λ f. is_call (an_expr ty at f)) (ap plain_form (rolls-Choose cond yes' no') ∙ plain_form-Choose cond yes' no')
    of_layer (Form-F.Build parts) other = ap (λ f. is_call (an_expr ty at f)) (ap plain_form (rolls-Build parts) ∙ plain_form-Build parts)
    of_layer (Form-F.Pick value parts) other = ap (λ f. is_call (an_expr ty at f)) (ap plain_form (rolls-Pick value parts) ∙ plain_form-Pick value parts)
    of_layer (Form-F.Call function args) other = absurd (other function args (rolls-Call function args))
    of_layer (Form-F.Intrinsic number args) other = ap (λ f. is_call (an_expr ty at f)) (ap plain_form (rolls-Intrinsic number args) ∙ plain_form-Intrinsic number args)
    of_layer (Form-F.Method resource count address value) other = ap (λ f. is_call (an_expr ty at f)) (ap plain_form (rolls-Method resource count address value) ∙ plain_form-Method resource count address value)
    of_layer (Form-F.Atomic target kind compare value original) other =
        ap (λ f. is_call (an_expr ty at f)) (ap plain_form (rolls-Atomic target kind compare value original) ∙ plain_form-Atomic target kind compare value original)

pub expr-call : (e : Expr) (function : ℕ) (args : List Arg) → e.form ≡ forms.Call function args → true ≡ is_call (plain_expr e)
expr-call e function args is =
    sym (ap is_call (plain_expr-is e) ∙ ap (λ f. is_call (an_expr (plain_ty e.ty) e.at f)) (ap plain_form is ∙ plain_form-Call function args))

pub expr-no_call : (e : Expr) → ((function : ℕ) (args : List Arg) → e.form ≡ forms.Call function args → ⊥) → false ≡ is_call (plain_expr e)
expr-no_call e other = sym (ap is_call (plain_expr-is e) ∙ form-no_call (plain_ty e.ty) e.at e.form other)
