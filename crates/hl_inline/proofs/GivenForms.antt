-- Expressions and places of given parts.
use Rattle.std.proofs.Common.{◌≡◌, ◌∙◌, ap, sym, ℕ, []}
use Rattle.hl_meaning.specs.declared.expression.Expr.{Expr}
use Rattle.hl_meaning.specs.declared.expression.Location.{Location}
use Rattle.hl_meaning.specs.declared.expression.Root.{Root}
use Rattle.hl_meaning.specs.declared.expression.Root.TheVariants.{Variable}
use Rattle.hl_meaning.specs.Types.{Ty}
use Rattle.hl_meaning.specs.Trees.{PathParts, a_location, an_expr, variable_root}
use Rattle.hl_meaning.specs.Trees as plain
use Rattle.hl_meaning.specs.Views.{plain_expr, plain_form, plain_location, plain_parts, plain_root, plain_ty}
use Rattle.hl_meaning.proofs.Plain.{plain_expr-is, plain_location-is, plain_root-Variable}
use Rattle.hl_inline.specs.Emitting.{place_of_variable}

pub expr-as : (e : Expr) (ty : Ty) (form : plain.Form) → plain_ty e.ty ≡ ty → plain_form e.form ≡ form → plain_expr e ≡ an_expr ty e.at form
expr-as e ty form a b = plain_expr-is e ∙ (ap (λ t. an_expr t e.at (plain_form e.form)) a ∙ ap (an_expr ty e.at) b)

pub location-as : (l : Location) (ty : Ty) (root : plain.Root) (parts : PathParts) → plain_ty l.ty ≡ ty → plain_root l.root ≡ root → plain_parts l.parts ≡ parts → plain_location l ≡ a_location ty root parts
location-as l ty root parts a b d =
    plain_location-is l ∙ (ap (λ t. a_location t (plain_root l.root) (plain_parts l.parts)) a ∙ (ap (λ r. a_location ty r (plain_parts l.parts)) b ∙ ap (a_location ty root) d))

-- a variable, whole
pub location-whole : (l : Location) (ty : Ty) (number : ℕ) → plain_ty l.ty ≡ ty → l.root ≡ Variable number → l.parts ≡ [] → plain_location l ≡ place_of_variable ty number
location-whole l ty number a b d = location-as l ty _ _ a (ap plain_root b ∙ plain_root-Variable number) (ap plain_parts d)

-- what is made of the root that is a variable
pub root-variable : {A : Type 0} (f : plain.Root → A) (a : A) (r : Root) (x : ℕ) → r ≡ Variable x → f (variable_root x) ≡ a → a ≡ f (plain_root r)
root-variable f a r x is h = sym (ap f (ap plain_root is ∙ plain_root-Variable x) ∙ h)
