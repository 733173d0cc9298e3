-- What calls of methods become.
use Rattle.std.proofs.Common.{◌≡◌, ◌∙◌, refl, sym, ap, subst, ℕ, List, [], ◌∷◌, map, Option, None, Some}
use Rattle.std.specs.Prelude.{option_and_then, option_map}
use Rattle.std.proofs.lemmas.Option.{same_Some}
use Rattle.hl_meaning.specs.declared.expression.Expr.{Expr}
use Rattle.hl_meaning.specs.declared.expression.Form.TheVariants.{Method, Read}
use Rattle.hl_meaning.specs.declared.expression.Location.{Location}
use Rattle.hl_meaning.specs.declared.expression.Root.TheVariants.{Element}
use Rattle.hl_meaning.specs.declared.expression.Target.TheVariants.{Bytes}
use Rattle.hl_meaning.specs.declared.ty.HlType.{HlType}
use Rattle.hl_meaning.specs.declared.ty.HlType.TheVariants.{Void}
use Rattle.hl_meaning.specs.declared.ty.Kind.TheVariants.{Uint as UintKind}
use Rattle.hl_meaning.specs.Trees as plain
use Rattle.hl_meaning.specs.Trees.{a_location, an_expr, bytes_target, element_root, method_form, no_expr, no_parts, place_type, read_form, some_expr}
use Rattle.hl_meaning.specs.Types.{Ty, components_type, uint_type, void_type}
use Rattle.hl_meaning.specs.Views.{plain_expr, plain_form, plain_location, plain_parts, plain_root, plain_target, plain_ty}
use Rattle.hl_meaning.proofs.Plain.{plain_form-Method, plain_form-Read, plain_root-Element, plain_target-Bytes, plain_ty-Void}
use Rattle.hl_rules.specs.declared.interlocked.Interlocked.{Interlocked}
use Rattle.hl_rules.specs.declared.interlocked.Method.TheVariants.{DoesAtomic, LoadsElement, LoadsWords, StoresWords}
use Rattle.hl_rules.specs.Expressions.{element_if, element_in, index_expr, method_code}
use Rattle.hl_rules.specs.Intrinsics.{Operands, operands_of}
use Rattle.hl_rules.specs.Nodes as rules
use Rattle.hl_rules.specs.Nodes.{a_value, a_value_code, bytes_operand, converted_code, interlocked, type_of_code}
use Rattle.hl_rules.specs.Scopes.{BufferInfo}
use Rattle.hl_values.specs.declared.typed.Code.{Code}
use Rattle.hl_values.specs.Few.{first_and_rest, one_of, two_of}
use Rattle.hl_values.specs.Views.{plain_code}
use Rattle.hl_values.proofs.AtomicLemmas.{first_and_rest-is}
use Rattle.hl_values.proofs.NodeLemmas.{place_type-is}

pub one_of-is : {A : Type 0} (xs : List A) (x : A) → Some x ≡ one_of xs → x ∷ [] ≡ xs
one_of-is [] x e = absurd (cc e)
one_of-is (y ∷ []) x e = cc e
one_of-is (y ∷ z ∷ xs) x e = absurd (cc e)

pub two_of-is : {A : Type 0} (xs : List A) (x y : A) → Some (x, y) ≡ two_of xs → x ∷ y ∷ [] ≡ xs
two_of-is [] x y e = absurd (cc e)
two_of-is (a ∷ []) x y e = absurd (cc e)
two_of-is (a ∷ b ∷ []) x y e = let p = same_Some (x, y) (a, b) e in λ i. (p i).0 ∷ (p i).1 ∷ []
two_of-is (a ∷ b ∷ c ∷ xs) x y e = absurd (cc e)

-- a node of a type and a form
node-is : (at : ℕ) (ty own : Ty) (form written : plain.Form) (made : rules.Code) → made ≡ a_value_code (an_expr ty at form) → ty ≡ own → form ≡ written → made ≡ a_value_code (an_expr own at written)
node-is at ty own form written made is ty_is form_is =
    is ∙ (ap (λ t. a_value_code (an_expr t at form)) ty_is ∙ ap (λ f. a_value_code (an_expr own at f)) form_is)

pub load-made : (buffer : BufferInfo) (at resource count first : ℕ) (constant : Option ℕ) (items : List Code) (code : Code) (address : Expr) (ty : HlType) (made : rules.Code) →
    Some code ≡ one_of items → Some (plain_expr address) ≡ converted_code uint_type (plain_code code) → plain_ty ty ≡ components_type UintKind count →
    made ≡ a_value_code (an_expr (plain_ty ty) at (plain_form (Method resource count address None))) →
    Some made ≡ method_code buffer at resource (LoadsWords count) first constant (map plain_code items)
load-made buffer at resource count first constant items code address ty made one conv ty_is made_is =
    ap Some (node-is at (plain_ty ty) (components_type UintKind count) (plain_form (Method resource count address None)) (method_form resource count (plain_expr address) no_expr) made made_is ty_is (plain_form-Method resource count address None)) ∙
    (ap (λ o. option_and_then (λ a. a_value (components_type UintKind count) at (method_form resource count a no_expr)) o) conv ∙
    ap (λ l. method_code buffer at resource (LoadsWords count) first constant (map plain_code l)) (one_of-is items code one))

pub store-made : (buffer : BufferInfo) (at resource count first : ℕ) (constant : Option ℕ) (items : List Code) (code stored : Code) (address value : Expr) (words : Ty) (made : rules.Code) →
    Some (code, stored) ≡ two_of items → Some (plain_expr address) ≡ converted_code uint_type (plain_code code) → words ≡ components_type UintKind count → Some (plain_expr value) ≡ converted_code words (plain_code stored) →
    made ≡ a_value_code (an_expr (plain_ty Void) at (plain_form (Method resource count address (Some value)))) →
    Some made ≡ method_code buffer at resource (StoresWords count) first constant (map plain_code items)
store-made buffer at resource count first constant items code stored address value words made two conv words_is value_is made_is =
    ap Some (node-is at (plain_ty Void) void_type (plain_form (Method resource count address (Some value))) (method_form resource count (plain_expr address) (some_expr (plain_expr value))) made made_is plain_ty-Void (plain_form-Method resource count address (Some value))) ∙
    (ap (λ o. option_and_then (λ v. a_value void_type at (method_form resource count (plain_expr address) (some_expr v))) o) (value_is ∙ ap (λ w. converted_code w (plain_code stored)) words_is) ∙
    (ap (λ o. option_and_then (λ a. option_and_then (λ v. a_value void_type at (method_form resource count a (some_expr v))) (converted_code (components_type UintKind count) (plain_code stored))) o) conv ∙
    ap (λ l. method_code buffer at resource (StoresWords count) first constant (map plain_code l)) (two_of-is items code stored two)))

-- an operation on a word
pub atomic-behind : (buffer : BufferInfo) (at resource first : ℕ) (constant : Option ℕ) (form : Interlocked) (items rest : List Code) (code : Code) (address : Expr) (o : Operands rules.Code) (own ty : Ty) →
    Some (code, rest) ≡ first_and_rest items → Some o ≡ operands_of form (map plain_code rest) → Some (plain_expr address) ≡ converted_code uint_type (plain_code code) →
    own ≡ type_of_code o.value → ty ≡ bytes_operand own →
    interlocked at (plain_target (Bytes resource address)) ty form o ≡ method_code buffer at resource (DoesAtomic form) first constant (map plain_code items)
atomic-behind buffer at resource first constant form items rest code address o own ty split is conv own_is ty_is =
    ap (λ t. interlocked at t ty form o) (plain_target-Bytes resource address) ∙
    (ap (λ t. interlocked at (bytes_target resource (plain_expr address)) t form o) (ty_is ∙ ap bytes_operand own_is) ∙
    (ap (λ x. option_and_then (λ a. interlocked at (bytes_target resource a) (bytes_operand (type_of_code o.value)) form o) x) conv ∙
    (ap (λ x. option_and_then (λ p. option_and_then (λ a. interlocked at (bytes_target resource a) (bytes_operand (type_of_code p.value)) form p) (converted_code uint_type (plain_code code))) x) is ∙
    ap (λ l. method_code buffer at resource (DoesAtomic form) first constant (map plain_code l)) (first_and_rest-is items rest code split))))

-- an element that is read
pub element-read : (buffer : BufferInfo) (at resource first : ℕ) (constant : Option ℕ) (items : List Code) (code : Code) (index : Expr) (place : Location) (ty : HlType) (made : rules.Code) →
    Some code ≡ one_of items → Some (plain_expr index) ≡ index_expr first constant (plain_code code) → Some (plain_location place) ≡ element_in buffer resource (plain_expr index) → plain_ty ty ≡ plain_ty place.ty →
    made ≡ a_value_code (an_expr (plain_ty ty) at (plain_form (Read place))) →
    Some made ≡ method_code buffer at resource LoadsElement first constant (map plain_code items)
element-read buffer at resource first constant items code index place ty made one index_is place_is ty_is made_is =
    ap Some (node-is at (plain_ty ty) (place_type (plain_location place)) (plain_form (Read place)) (read_form (plain_location place)) made made_is (ty_is ∙ sym (place_type-is place)) (plain_form-Read place)) ∙
    (ap (λ x. option_and_then (λ p. a_value (place_type p) at (read_form p)) x) place_is ∙
    (ap (λ x. option_and_then (λ i. option_and_then (λ p. a_value (place_type p) at (read_form p)) (element_in buffer resource i)) x) index_is ∙
    ap (λ l. method_code buffer at resource LoadsElement first constant (map plain_code l)) (one_of-is items code one)))

-- an element as a place
pub element-made : (buffer : BufferInfo) (resource : ℕ) (index : Expr) (ty : HlType) (place : plain.Location) → Some (plain_ty ty) ≡ element_if buffer → place ≡ a_location (plain_ty ty) (plain_root (Element resource index)) (plain_parts []) →
    Some place ≡ element_in buffer resource (plain_expr index)
element-made buffer resource index ty place ty_is is =
    ap Some (is ∙ ap (λ r. a_location (plain_ty ty) r no_parts) (plain_root-Element resource index)) ∙
    ap (λ x. option_map (λ t. a_location t (element_root resource (plain_expr index)) no_parts) x) ty_is
