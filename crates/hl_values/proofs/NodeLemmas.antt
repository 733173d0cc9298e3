-- The nodes of typed programs.
use Rattle.std.proofs.Common.{◌≡◌, ◌∙◌, refl, sym, ap, subst, ℕ, Bool, true, false, if◌then◌else◌, List, [], ◌∷◌, ◌++◌, map, drop, length, get_or, ◌<◌, ◌≤◌, ◌+◌, Option, None, Some}
use Rattle.std.proofs.lemmas.List.{at_drop_all, at_drop_more}
use Rattle.std.specs.Prelude.{is_some, option_map, option_and_then}
use Rattle.hl_meaning.specs.declared.ty.Kind.{Kind}
use Rattle.hl_meaning.specs.declared.ty.HlType.{HlType}
use Rattle.hl_meaning.specs.declared.expression.Expr.{Expr}
use Rattle.hl_meaning.specs.declared.expression.Location.{Location}
use Rattle.hl_meaning.specs.Conversions.{converts}
use Rattle.hl_meaning.specs.Trees.{Exprs, an_expr, convert_form, more_exprs, no_exprs, place_type, type_of}
use Rattle.hl_meaning.specs.Trees as plain
use Rattle.hl_meaning.specs.Types.{Ty, ty_eq, with_kind}
use Rattle.hl_meaning.specs.Views.{plain_expr, plain_exprs, plain_form, plain_location, plain_parts, plain_root, plain_ty}
use Rattle.hl_meaning.specs.declared.expression.Form.TheVariants.{Convert, Read}
use Rattle.hl_meaning.proofs.Plain.{plain_expr-is, plain_form-Convert, plain_form-Read, plain_location-is}
use Rattle.hl_rules.specs.Nodes.{a_place_code, value_of_code, converted, converted_code, converted_each, in_kind, type_of_code}
use Rattle.hl_rules.specs.Nodes as rules
use Rattle.hl_values.specs.declared.typed.Code.{Code}
use Rattle.hl_values.specs.Views.{plain_code}

pub place_type-is : (l : Location) → place_type (plain_location l) ≡ plain_ty l.ty
place_type-is l = ap place_type (plain_location-is l)

pub type_of-is : (e : Expr) → type_of (plain_expr e) ≡ plain_ty e.ty
type_of-is e = ap type_of (plain_expr-is e)

-- ---- conversions

pub converted-same : (ty : Ty) (e : plain.Expr) → ty_eq (type_of e) ty ≡ true → converted ty e ≡ Some e
converted-same ty (an_expr from at form) h = rw h refl

pub converted-none : (ty : Ty) (e : plain.Expr) → ty_eq (type_of e) ty ≡ false → converts (type_of e) ty ≡ false → converted ty e ≡ None
converted-none ty (an_expr from at form) h k = rw h (rw k refl)

pub converted-made : (ty from : Ty) (at : ℕ) (form : plain.Form) → ty_eq from ty ≡ false → converts from ty ≡ true → converted ty (an_expr from at form) ≡ Some (an_expr ty at (convert_form (an_expr from at form)))
converted-made ty from at form h k = rw h (rw k refl)

-- ---- lists

-- expressions before others
abbrev pub exprs_before : List Expr → Exprs → Exprs
exprs_before [] rest = rest
exprs_before (e ∷ es) rest = more_exprs (plain_expr e) (exprs_before es rest)

pub exprs_before-push : (es : List Expr) (e : Expr) (rest : Exprs) → exprs_before (es ++ e ∷ []) rest ≡ exprs_before es (more_exprs (plain_expr e) rest)
exprs_before-push [] e rest = refl
exprs_before-push (x ∷ es) e rest = ap (more_exprs (plain_expr x)) (exprs_before-push es e rest)

pub exprs_before-all : (es : List Expr) → exprs_before es no_exprs ≡ plain_exprs es
exprs_before-all [] = refl
exprs_before-all (x ∷ es) = ap (more_exprs (plain_expr x)) (exprs_before-all es)

pub before-none : (o : Option Exprs) → option_map (exprs_before []) o ≡ o
before-none None = refl
before-none (Some es) = refl

pub before-push : (es : List Expr) (e : Expr) (o : Option Exprs) → option_map (exprs_before es) (option_map (λ rest. more_exprs (plain_expr e) rest) o) ≡ option_map (exprs_before (es ++ e ∷ [])) o
before-push es e None = refl
before-push es e (Some rest) = ap Some (sym (exprs_before-push es e rest))

-- one part of a constructor is converted, or isn't
pub in_kind-turn : (kind : Kind) (es : List Expr) (e : Expr) (code : Code) (codes : List Code) → Some (plain_expr e) ≡ converted_code (with_kind kind (type_of_code (plain_code code))) (plain_code code) → option_map (exprs_before es) (in_kind kind (map plain_code (code ∷ codes))) ≡ option_map (exprs_before (es ++ e ∷ [])) (in_kind kind (map plain_code codes))
in_kind-turn kind es e code codes h =
    ap (λ o. option_map (exprs_before es) (option_and_then (λ first. option_map (λ rest. more_exprs first rest) (in_kind kind (map plain_code codes))) o)) (sym h) ∙
    before-push es e (in_kind kind (map plain_code codes))

pub in_kind-stop : (kind : Kind) (es : List Expr) (code : Code) (codes : List Code) → None ≡ converted_code (with_kind kind (type_of_code (plain_code code))) (plain_code code) → option_map (exprs_before es) (in_kind kind (map plain_code (code ∷ codes))) ≡ None
in_kind-stop kind es code codes h =
    ap (λ o. option_map (exprs_before es) (option_and_then (λ first. option_map (λ rest. more_exprs first rest) (in_kind kind (map plain_code codes))) o)) (sym h)

-- one of several is converted to its type, or isn't
pub each-turn : (es : List Expr) (e : Expr) (ty : Ty) (types : List Ty) (code : Code) (codes : List Code) → Some (plain_expr e) ≡ converted_code ty (plain_code code) → option_map (exprs_before es) (converted_each (ty ∷ types) (map plain_code (code ∷ codes))) ≡ option_map (exprs_before (es ++ e ∷ [])) (converted_each types (map plain_code codes))
each-turn es e ty types code codes h =
    ap (λ o. option_map (exprs_before es) (option_and_then (λ first. option_map (λ rest. more_exprs first rest) (converted_each types (map plain_code codes))) o)) (sym h) ∙
    before-push es e (converted_each types (map plain_code codes))

pub each-stop : (es : List Expr) (ty : Ty) (types : List Ty) (code : Code) (codes : List Code) → None ≡ converted_code ty (plain_code code) → option_map (exprs_before es) (converted_each (ty ∷ types) (map plain_code (code ∷ codes))) ≡ None
each-stop es ty types code codes h =
    ap (λ o. option_map (exprs_before es) (option_and_then (λ first. option_map (λ rest. more_exprs first rest) (converted_each types (map plain_code codes))) o)) (sym h)

-- ---- values

-- a place that is read
pub read-made : (r : Expr) (ty : HlType) (at : ℕ) (place : Location) → plain_expr r ≡ an_expr (plain_ty ty) at (plain_form (Read place)) → plain_ty ty ≡ plain_ty place.ty → plain_expr r ≡ value_of_code (a_place_code at (plain_location place))
read-made r ty at place e k =
    e ∙ (ap (λ t. an_expr t at (plain_form (Read place))) (k ∙ sym (place_type-is place)) ∙
    ap (λ f. an_expr (place_type (plain_location place)) at f) (plain_form-Read place))

-- a value that is converted
pub convert-made : (r value : Expr) (ty : HlType) (own : Ty) → plain_expr r ≡ an_expr (plain_ty ty) value.at (plain_form (Convert value)) → plain_ty ty ≡ own → ty_eq (plain_ty value.ty) own ≡ false → converts (plain_ty value.ty) own ≡ true → Some (plain_expr r) ≡ converted own (plain_expr value)
convert-made r value ty own e k h m =
    ap Some (e ∙ (ap (λ t. an_expr t value.at (plain_form (Convert value))) k ∙
    (ap (λ f. an_expr own value.at f) (plain_form-Convert value) ∙ ap (λ v. an_expr own value.at (convert_form v)) (plain_expr-is value)))) ∙
    sym (ap (converted own) (plain_expr-is value) ∙ converted-made own (plain_ty value.ty) value.at (plain_form value.form) h m)

pub convert-same : (value : Expr) (own : Ty) → ty_eq (plain_ty value.ty) own ≡ true → Some (plain_expr value) ≡ converted own (plain_expr value)
convert-same value own h = sym (converted-same own (plain_expr value) (ap (λ t. ty_eq t own) (type_of-is value) ∙ h))

pub convert-none : (value : Expr) (own : Ty) → ty_eq (plain_ty value.ty) own ≡ false → converts (plain_ty value.ty) own ≡ false → None ≡ converted own (plain_expr value)
convert-none value own h m = sym (converted-none own (plain_expr value) (ap (λ t. ty_eq t own) (type_of-is value) ∙ h) (ap (λ t. converts t own) (type_of-is value) ∙ m))

-- ---- turns

pub in_kind-loop : (kind : Kind) (es next_es : List Expr) (e item : Expr) (code : Code) (rest next : List Code) (made : Option Expr) (whole : Option Exprs) → option_map (exprs_before es) (in_kind kind (map plain_code rest)) ≡ whole → rest ≡ code ∷ next → made ≡ Some e → option_map plain_expr made ≡ converted_code (with_kind kind (type_of_code (plain_code code))) (plain_code code) → item ≡ e → next_es ≡ es ++ item ∷ [] → option_map (exprs_before next_es) (in_kind kind (map plain_code next)) ≡ whole
in_kind-loop kind es next_es e item code rest next made whole inv left is conv same pushed =
    ap (λ l. option_map (exprs_before l) (in_kind kind (map plain_code next))) (pushed ∙ ap (λ x. es ++ x ∷ []) same) ∙
    (sym (in_kind-turn kind es e code next (ap (λ o. option_map plain_expr o) (sym is) ∙ conv)) ∙
    (ap (λ l. option_map (exprs_before es) (in_kind kind (map plain_code l))) (sym left) ∙ inv))

pub in_kind-end : (kind : Kind) (es : List Expr) (rest : List Code) (whole : Option Exprs) → option_map (exprs_before es) (in_kind kind (map plain_code rest)) ≡ whole → rest ≡ [] → Some (plain_exprs es) ≡ whole
in_kind-end kind es rest whole inv empty =
    ap Some (sym (exprs_before-all es)) ∙ (ap (λ l. option_map (exprs_before es) (in_kind kind (map plain_code l))) (sym empty) ∙ inv)

pub each-loop : (types : List HlType) (i : ℕ) (ty : HlType) (es next_es : List Expr) (e item : Expr) (code : Code) (rest next : List Code) (made : Option Expr) (whole : Option Exprs) → option_map (exprs_before es) (converted_each (map plain_ty (drop i types)) (map plain_code rest)) ≡ whole → i < length types → ty ≡ get_or types i ty → rest ≡ code ∷ next → made ≡ Some e → option_map plain_expr made ≡ converted_code (plain_ty ty) (plain_code code) → item ≡ e → next_es ≡ es ++ item ∷ [] → option_map (exprs_before next_es) (converted_each (map plain_ty (drop (i + 1) types)) (map plain_code next)) ≡ whole
each-loop types i ty es next_es e item code rest next made whole inv within at left is conv same pushed =
    ap (λ l. option_map (exprs_before l) (converted_each (map plain_ty (drop (i + 1) types)) (map plain_code next))) (pushed ∙ ap (λ x. es ++ x ∷ []) same) ∙
    (sym (each-turn es e (plain_ty ty) (map plain_ty (drop (i + 1) types)) code next (ap (λ o. option_map plain_expr o) (sym is) ∙ conv)) ∙
    (ap (λ (t : HlType). option_map (exprs_before es) (converted_each (plain_ty t ∷ map plain_ty (drop (i + 1) types)) (map plain_code (code ∷ next)))) at ∙
    (sym (at_drop_more (λ l. option_map (exprs_before es) (converted_each (map plain_ty l) (map plain_code (code ∷ next)))) types i ty within) ∙
    (ap (λ l. option_map (exprs_before es) (converted_each (map plain_ty (drop i types)) (map plain_code l))) (sym left) ∙ inv))))

pub each-end : (types : List HlType) (i : ℕ) (es : List Expr) (rest : List Code) (whole : Option Exprs) → option_map (exprs_before es) (converted_each (map plain_ty (drop i types)) (map plain_code rest)) ≡ whole → length types ≤ i → rest ≡ [] → Some (plain_exprs es) ≡ whole
each-end types i es rest whole inv past empty =
    ap Some (sym (exprs_before-all es)) ∙
    (sym (at_drop_all (λ l. option_map (exprs_before es) (converted_each (map plain_ty l) [])) types i past) ∙
    (ap (λ l. option_map (exprs_before es) (converted_each (map plain_ty (drop i types)) (map plain_code l))) (sym empty) ∙ inv))
