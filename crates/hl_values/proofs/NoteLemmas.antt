-- The sites of expressions note what their parts break.
use Rattle.std.proofs.Common.{◌≡◌, ◌∙◌, refl, sym, ap, ℕ, not, List, [], ◌∷◌, ◌++◌, Option, None, Some}
use Rattle.hl_lexer.specs.declared.terminal.Terminal.{Terminal}
use Rattle.hl_lexer.specs.declared.terminal.Terminal.TheVariants as terminals
use Rattle.hl_parser.specs.Trees.{Tree, at_of}
use Rattle.hl_meaning.specs.Conversions.{converts}
use Rattle.hl_meaning.specs.Types.{Ty, array_type, scalar_type, struct_type, vector_type, void_type}
use Rattle.hl_rules.specs.declared.found.Broken.{Broken}
use Rattle.hl_rules.specs.ExpressionRules.{rule_32, rule_39}
use Rattle.hl_rules.specs.Found.{breaking, gathered}
use Rattle.hl_rules.specs.Operands.{of_two, operator_type}
use Rattle.hl_rules.specs.Parts.{Site, a_use, an_operand, site}
use Rattle.hl_rules.specs.Rules.{noted}
use Rattle.hl_rules.specs.Scopes.{Scope}
use Rattle.hl_rules.specs.Sites.{compound_production, operated, used}
use Rattle.hl_rules.specs.Values.{Value, is_known, value_of, valued}
use Rattle.hl_rules.proofs.Noting.{noted-append, noted-first, noted-operand, noted-use}
use Rattle.hl_values.specs.Noted.{noted_assigned, noted_conversion, noted_if, noted_operand, noted_use, noted_written}

pub used-noted : (f : Option Broken) (s : Scope) (e : Tree) (inside : List Site) → noted f (used s e inside) ≡ noted_use (noted f inside) (value_of s e) (at_of e)
used-noted f s e inside = noted-append f inside (site s (a_use e) ∷ []) ∙ noted-use (noted f inside) s e

pub operated-noted : (f : Option Broken) (s : Scope) (e : Tree) (inside : List Site) → noted f (operated s e inside) ≡ noted_operand (noted f inside) (value_of s e) (at_of e)
operated-noted f s e inside =
    noted-append f inside (site s (a_use e) ∷ site s (an_operand e) ∷ []) ∙
    (noted-first (noted f inside) (site s (a_use e)) (site s (an_operand e) ∷ []) ∙
    (ap (λ g. noted g (site s (an_operand e) ∷ [])) (noted-use (noted f inside) s e) ∙
    noted-operand (gathered (noted f inside) (breaking 39 (rule_39 s (a_use e)))) s e))

-- ---- conversions

valued-twice : (o : Option Ty) → valued (valued o) ≡ valued o
valued-twice None = refl
valued-twice (Some void_type) = refl
valued-twice (Some (scalar_type kind)) = refl
valued-twice (Some (vector_type kind size)) = refl
valued-twice (Some (array_type element size)) = refl
valued-twice (Some (struct_type number)) = refl

conversion-valued : (f : Option Broken) (from to : Option Ty) (at : ℕ) → noted_conversion f from to at ≡ noted_conversion f from (valued to) at
conversion-valued f from to at = ap (λ v. noted_if f 24 (is_known (λ x. is_known (λ y. not (converts x y)) v) (valued from)) at) (sym (valued-twice to))

pub of_two-same : (f g : Ty → Ty → Option Ty) (a b : Option Ty) → ((x y : Ty) → f x y ≡ g x y) → of_two f a b ≡ of_two g a b
of_two-same f g None b h = refl
of_two-same f g (Some x) None h = refl
of_two-same f g (Some x) (Some y) h = h x y

-- a compound assignment
pub assigned-other : (mark : Terminal) (f : Option Broken) (l r : Value) (left_at right_at : ℕ) (from : Option Ty) → (mark ≡ terminals.Equals → ⊥) → from ≡ of_two (operator_type (compound_production mark)) (valued l.ty) (valued r.ty) → noted_conversion (noted_written f l left_at) from l.ty right_at ≡ noted_assigned f mark l r left_at right_at
assigned-other terminals.Equals f l r left_at right_at from other e = absurd (other refl)
assigned-other _ f l r left_at right_at from other e =
    conversion-valued (noted_written f l left_at) from l.ty right_at ∙ ap (λ x. noted_conversion (noted_written f l left_at) x (valued l.ty) right_at) e
