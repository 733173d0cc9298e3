-- Arguments of calls, each for its parameter.
use Rattle.std.proofs.Common.{◌≡◌, ◌∙◌, refl, sym, ap, ℕ, ◌+◌, ◌<◌, ◌≤◌, List, [], ◌∷◌, ◌++◌, length, drop, map, get_or, Option, None, Some}
use Rattle.std.specs.Prelude.{option_and_then, option_map}
use Rattle.std.proofs.lemmas.List.{at_drop_all, at_drop_more}
use Rattle.hl_meaning.specs.declared.expression.Arg.{Arg}
use Rattle.hl_meaning.specs.declared.expression.Arg.TheVariants.{Place, Value}
use Rattle.hl_meaning.specs.declared.expression.Expr.{Expr}
use Rattle.hl_meaning.specs.declared.expression.Form.TheVariants.{Call, Intrinsic}
use Rattle.hl_meaning.specs.declared.expression.Location.{Location}
use Rattle.hl_meaning.specs.declared.intrinsic.Signature.{Signature}
use Rattle.hl_meaning.specs.declared.ty.HlType.{HlType}
use Rattle.hl_meaning.specs.Intrinsics.{signature_of}
use Rattle.hl_meaning.specs.Trees.{Args, an_expr, call_form, intrinsic_form, more_args, no_args}
use Rattle.hl_meaning.specs.Trees as plain
use Rattle.hl_meaning.specs.Types.{Ty}
use Rattle.hl_meaning.specs.Views.{plain_arg, plain_args, plain_exprs, plain_form, plain_ty}
use Rattle.hl_meaning.proofs.Plain.{plain_form-Call, plain_form-Intrinsic}
use Rattle.hl_overload.specs.declared.choice.Param.{Param}
use Rattle.hl_overload.specs.Views.{plain_params}
use Rattle.hl_rules.specs.Expressions.{code_by_form, function_code, passed_arg, passed_args}
use Rattle.hl_rules.specs.Intrinsics.{passed}
use Rattle.hl_rules.specs.Nodes as rules
use Rattle.hl_rules.specs.Nodes.{a_value, a_value_code, converted_each, type_of_code}
use Rattle.hl_rules.specs.Scopes.{Scope}
use Rattle.hl_rules.specs.Values.{Candidate, function_result}
use Rattle.hl_values.specs.declared.typed.Code.{Code}
use Rattle.hl_values.specs.Views.{plain_code}

-- ---- intrinsic functions

pub intrinsic-made : (at number : ℕ) (signature : Signature) (codes : List Code) (types : List Ty) (takes : List HlType) (gives : HlType) (args : List Expr) (made : rules.Code) →
    Some signature ≡ signature_of number → types ≡ map type_of_code (map plain_code codes) →
    Some (record { takes = map plain_ty takes; gives = plain_ty gives }) ≡ passed signature types →
    Some (plain_exprs args) ≡ converted_each (map plain_ty takes) (map plain_code codes) →
    made ≡ a_value_code (an_expr (plain_ty gives) at (plain_form (Intrinsic number args))) →
    Some made ≡ code_by_form None at number (map plain_code codes)
intrinsic-made at number signature codes types takes gives args made signed types_are passes conv is =
    ap Some (is ∙ ap (λ f. a_value_code (an_expr (plain_ty gives) at f)) (plain_form-Intrinsic number args)) ∙
    (ap (λ o. option_and_then (λ own. a_value (plain_ty gives) at (intrinsic_form number own)) o) conv ∙
    (ap (λ o. option_and_then (λ p. option_and_then (λ own. a_value p.gives at (intrinsic_form number own)) (converted_each p.takes (map plain_code codes))) o) (passes ∙ ap (passed signature) types_are) ∙
    ap (λ o. option_and_then (λ p. option_and_then (λ own. a_value p.gives at (intrinsic_form number own)) (converted_each p.takes (map plain_code codes))) (option_and_then (λ s. passed s (map type_of_code (map plain_code codes))) o)) signed))

-- ---- functions

pub call-made : (s : Scope) (at : ℕ) (candidate : Candidate) (codes : List Code) (ty : HlType) (args : List Arg) (made : rules.Code) →
    function_result s candidate.number ≡ Some (plain_ty ty) → Some (plain_args args) ≡ passed_args candidate.params (map plain_code codes) →
    made ≡ a_value_code (an_expr (plain_ty ty) at (plain_form (Call candidate.number args))) →
    Some made ≡ function_code s at candidate (map plain_code codes)
call-made s at candidate codes ty args made result passes is =
    ap Some (is ∙ ap (λ f. a_value_code (an_expr (plain_ty ty) at f)) (plain_form-Call candidate.number args)) ∙
    (ap (λ o. option_and_then (λ own. a_value (plain_ty ty) at (call_form candidate.number own)) o) passes ∙
    ap (λ o. option_and_then (λ t. option_and_then (λ own. a_value t at (call_form candidate.number own)) (passed_args candidate.params (map plain_code codes))) o) (sym result))

-- arguments before others
abbrev pub args_before : List Arg → Args → Args
args_before [] rest = rest
args_before (a ∷ args) rest = more_args (plain_arg a) (args_before args rest)

before-push : (args : List Arg) (a : Arg) (rest : Args) → args_before (args ++ a ∷ []) rest ≡ args_before args (more_args (plain_arg a) rest)
before-push [] a rest = refl
before-push (x ∷ args) a rest = ap (more_args (plain_arg x)) (before-push args a rest)

before-all : (args : List Arg) → args_before args no_args ≡ plain_args args
before-all [] = refl
before-all (x ∷ args) = ap (more_args (plain_arg x)) (before-all args)

push-if : (args : List Arg) (a : Arg) (o : Option Args) → option_map (args_before args) (option_map (λ rest. more_args (plain_arg a) rest) o) ≡ option_map (args_before (args ++ a ∷ [])) o
push-if args a None = refl
push-if args a (Some rest) = ap Some (sym (before-push args a rest))

turn : (args : List Arg) (a : Arg) (param : Param) (params : List Param) (code : Code) (codes : List Code) → Some (plain_arg a) ≡ passed_arg param.copying (plain_ty param.ty) (plain_code code) →
    option_map (args_before args) (passed_args (plain_params (param ∷ params)) (map plain_code (code ∷ codes))) ≡ option_map (args_before (args ++ a ∷ [])) (passed_args (plain_params params) (map plain_code codes))
turn args a param params code codes is =
    ap (λ o. option_map (args_before args) (option_and_then (λ first. option_map (λ rest. more_args first rest) (passed_args (plain_params params) (map plain_code codes))) o)) (sym is) ∙
    push-if args a (passed_args (plain_params params) (map plain_code codes))

pub passed-loop : (params : List Param) (i : ℕ) (param : Param) (args next_args : List Arg) (a : Arg) (code : Code) (rest next : List Code) (made : Option Arg) (whole : Option Args) →
    option_map (args_before args) (passed_args (plain_params (drop i params)) (map plain_code rest)) ≡ whole → i < length params → param ≡ get_or params i param → rest ≡ code ∷ next →
    made ≡ Some a → option_map plain_arg made ≡ passed_arg param.copying (plain_ty param.ty) (plain_code code) → next_args ≡ args ++ a ∷ [] →
    option_map (args_before next_args) (passed_args (plain_params (drop (i + 1) params)) (map plain_code next)) ≡ whole
passed-loop params i param args next_args a code rest next made whole inv within at left is conv pushed =
    ap (λ l. option_map (args_before l) (passed_args (plain_params (drop (i + 1) params)) (map plain_code next))) pushed ∙
    (sym (turn args a param (drop (i + 1) params) code next (sym (ap (option_map plain_arg) is) ∙ conv)) ∙
    (ap (λ (p : Param). option_map (args_before args) (passed_args (plain_params (p ∷ drop (i + 1) params)) (map plain_code (code ∷ next)))) at ∙
    (sym (at_drop_more (λ l. option_map (args_before args) (passed_args (plain_params l) (map plain_code (code ∷ next)))) params i param within) ∙
    (ap (λ l. option_map (args_before args) (passed_args (plain_params (drop i params)) (map plain_code l))) (sym left) ∙ inv))))

pub passed-end : (params : List Param) (i : ℕ) (args : List Arg) (rest : List Code) (whole : Option Args) →
    option_map (args_before args) (passed_args (plain_params (drop i params)) (map plain_code rest)) ≡ whole → length params ≤ i → rest ≡ [] → Some (plain_args args) ≡ whole
passed-end params i args rest whole inv past empty =
    ap Some (sym (before-all args)) ∙
    (sym (at_drop_all (λ l. option_map (args_before args) (passed_args (plain_params l) [])) params i past) ∙
    (ap (λ l. option_map (args_before args) (passed_args (plain_params (drop i params)) (map plain_code l))) (sym empty) ∙ inv))
