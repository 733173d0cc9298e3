-- What forms become, from what their parts become.
use Rattle.std.proofs.Common.{◌≡◌, ◌∙◌, refl, sym, ap, ℕ, Bool, false, true, List, length, Option, None, Some}
use Rattle.std.specs.Prelude.{option_map, option_and_then}
use Rattle.hl_meaning.specs.declared.ty.Kind.{Kind}
use Rattle.hl_meaning.specs.declared.ty.Kind.TheVariants.{Bool as BoolKind}
use Rattle.hl_meaning.specs.Places.{is_literal}
use Rattle.hl_meaning.specs.Trees.{Expr, Exprs, Form, Location, literal_form, an_expr, binary_form, build_form, choose_form, index_part, place_type, unary_form, write_form}
use Rattle.hl_meaning.specs.Types.{Ty, array_type, scalar_type, struct_type, vector_type, void_type, with_kind}
use Rattle.hl_rules.specs.Expressions.{binary_code, choice_code, compound_code, indexed_code, indexed_into, plain_assignment, with_three, with_two}
use Rattle.hl_rules.specs.Nodes.{Code, a_place_code, a_value, a_value_code, converted_code, place_of_code, type_of_code, with_part}
use Rattle.hl_rules.specs.Operands.{choice_type, operand_type, operator_type}
use Rattle.hl_values.specs.Steps.{element_of}
use Rattle.hl_lexer.specs.declared.terminal.Terminal.{Terminal}
use Rattle.hl_lexer.specs.declared.terminal.Terminal.TheVariants as terminals
use Rattle.hl_meaning.specs.declared.ty.HlType.{HlType}
use Rattle.hl_meaning.specs.declared.expression.Expr.{Expr as HeldExpr}
use Rattle.hl_meaning.specs.declared.expression.Location.{Location as HeldLocation}
use Rattle.hl_meaning.specs.declared.expression.Form.TheVariants as forms
use Rattle.hl_meaning.specs.declared.expression.PathPart.TheVariants as parts
use Rattle.hl_meaning.specs.Views.{plain_expr, plain_exprs, plain_form, plain_location, plain_part, plain_ty}
use Rattle.hl_meaning.proofs.Plain.{plain_expr-is, plain_form-Binary, plain_form-Build, plain_form-Choose, plain_form-Unary, plain_form-Write, plain_part-Index, plain_part-Member, plain_part-Swizzle}
use Rattle.hl_rules.specs.Expressions.{assignment_code, compound_mark, constructor_code, member_code, no_literal, signed_code, swizzled_code}
use Rattle.hl_rules.specs.Nodes.{in_kind}
use Rattle.hl_rules.specs.Operands.{kind_of}
use Rattle.hl_rules.specs.Sites.{compound_production}
use Rattle.hl_meaning.specs.Types.{components_type}
use Rattle.hl_meaning.specs.Trees.{member_part, swizzle_part}
use Rattle.hl_values.proofs.NodeLemmas.{place_type-is}
use Rattle.hl_meaning.specs.declared.ty.HlType.TheVariants as types
use Rattle.hl_meaning.proofs.Plain.{plain_ty-Scalar, plain_ty-Struct, plain_ty-Void}
use Rattle.hl_meaning.proofs.TypeLemmas.{type_cases}

-- ---- what may be there

pub two-none_left : {A B C : Type 0} (f : A → B → Option C) (a : Option A) (b : Option B) → None ≡ a → None ≡ with_two f a b
two-none_left f a b h = ap (λ o. with_two f o b) h

pub two-none_right : {A B C : Type 0} (f : A → B → Option C) (a : Option A) (b : Option B) (x : A) → Some x ≡ a → None ≡ b → None ≡ with_two f a b
two-none_right f a b x h k = ap (λ o. with_two f (Some x) o) k ∙ ap (λ o. with_two f o b) h

pub two-there : {A B C : Type 0} (f : A → B → Option C) (a : Option A) (b : Option B) (x : A) (y : B) → Some x ≡ a → Some y ≡ b → f x y ≡ with_two f a b
two-there f a b x y h k = ap (λ o. with_two f (Some x) o) k ∙ ap (λ o. with_two f o b) h

-- ---- operators between two operands

-- what two codes give, by their types
pub of_codes : (f : Ty → Ty → Option Ty) (l r : Code) (a b : Ty) (o : Option Ty) → o ≡ f a b → a ≡ type_of_code l → b ≡ type_of_code r → o ≡ f (type_of_code l) (type_of_code r)
of_codes f l r a b o h k m = h ∙ (ap (λ x. f x b) k ∙ ap (f (type_of_code l)) m)

abbrev binary_by : (at op : ℕ) (l r : Code) → Option Ty → Option Ty → Option Code
binary_by at op l r T G = option_and_then (λ ty. option_and_then (λ g. with_two (λ x y. a_value g at (binary_form op x y)) (converted_code ty l) (converted_code ty r)) G) T

pub binary-none_type : (p at op : ℕ) (l r : Code) → None ≡ operand_type p (type_of_code l) (type_of_code r) → None ≡ binary_code p at op l r
binary-none_type p at op l r h = ap (λ T. binary_by at op l r T (operator_type p (type_of_code l) (type_of_code r))) h

pub binary-none_gives : (p at op : ℕ) (l r : Code) (ty : Ty) → Some ty ≡ operand_type p (type_of_code l) (type_of_code r) → None ≡ operator_type p (type_of_code l) (type_of_code r) → None ≡ binary_code p at op l r
binary-none_gives p at op l r ty h k = ap (λ G. binary_by at op l r (Some ty) G) k ∙ ap (λ T. binary_by at op l r T (operator_type p (type_of_code l) (type_of_code r))) h

pub binary-at : (p at op : ℕ) (l r : Code) (ty g : Ty) → Some ty ≡ operand_type p (type_of_code l) (type_of_code r) → Some g ≡ operator_type p (type_of_code l) (type_of_code r) → with_two (λ x y. a_value g at (binary_form op x y)) (converted_code ty l) (converted_code ty r) ≡ binary_code p at op l r
binary-at p at op l r ty g h k = ap (λ G. binary_by at op l r (Some ty) G) k ∙ ap (λ T. binary_by at op l r T (operator_type p (type_of_code l) (type_of_code r))) h

-- ---- choices

pub of_three_codes : (c y n : Code) (a b d : Ty) (o : Option Ty) → o ≡ choice_type a b d → a ≡ type_of_code c → b ≡ type_of_code y → d ≡ type_of_code n → o ≡ choice_type (type_of_code c) (type_of_code y) (type_of_code n)
of_three_codes c y n a b d o h k m l = h ∙ (ap (λ x. choice_type x b d) k ∙ (ap (λ x. choice_type (type_of_code c) x d) m ∙ ap (choice_type (type_of_code c) (type_of_code y)) l))

abbrev choice_by : (at : ℕ) (c y n : Code) → Option Ty → Option Code
choice_by at c y n T = option_and_then (λ ty. with_three (λ c' y' n'. a_value ty at (choose_form c' y' n')) (converted_code (with_kind BoolKind ty) c) (converted_code ty y) (converted_code ty n)) T

pub choice-none : (at : ℕ) (c y n : Code) → None ≡ choice_type (type_of_code c) (type_of_code y) (type_of_code n) → None ≡ choice_code at c y n
choice-none at c y n h = ap (λ T. choice_by at c y n T) h

pub choice-at : (at : ℕ) (c y n : Code) (ty : Ty) → Some ty ≡ choice_type (type_of_code c) (type_of_code y) (type_of_code n) → with_three (λ c' y' n'. a_value ty at (choose_form c' y' n')) (converted_code (with_kind BoolKind ty) c) (converted_code ty y) (converted_code ty n) ≡ choice_code at c y n
choice-at at c y n ty h = ap (λ T. choice_by at c y n T) h

pub three-none_first : {A B C D : Type 0} (f : A → B → C → Option D) (a : Option A) (b : Option B) (c : Option C) → None ≡ a → None ≡ with_three f a b c
three-none_first f a b c h = ap (λ o. with_three f o b c) h

pub three-none_second : {A B C D : Type 0} (f : A → B → C → Option D) (a : Option A) (b : Option B) (c : Option C) (x : A) → Some x ≡ a → None ≡ b → None ≡ with_three f a b c
three-none_second f a b c x h k = ap (λ o. with_three f (Some x) o c) k ∙ ap (λ o. with_three f o b c) h

pub three-none_third : {A B C D : Type 0} (f : A → B → C → Option D) (a : Option A) (b : Option B) (c : Option C) (x : A) (y : B) → Some x ≡ a → Some y ≡ b → None ≡ c → None ≡ with_three f a b c
three-none_third f a b c x y h k m = ap (λ o. with_three f (Some x) (Some y) o) m ∙ (ap (λ o. with_three f (Some x) o c) k ∙ ap (λ o. with_three f o b c) h)

pub three-there : {A B C D : Type 0} (f : A → B → C → Option D) (a : Option A) (b : Option B) (c : Option C) (x : A) (y : B) (z : C) → Some x ≡ a → Some y ≡ b → Some z ≡ c → f x y z ≡ with_three f a b c
three-there f a b c x y z h k m = ap (λ o. with_three f (Some x) (Some y) o) m ∙ (ap (λ o. with_three f (Some x) o c) k ∙ ap (λ o. with_three f o b c) h)

-- ---- writing

abbrev compound_by : (at op : ℕ) (old : Bool) (r : Code) → Location → Option Ty → Option Code
compound_by at op old r place T = option_and_then (λ ty. option_and_then (λ value. a_value (place_type place) at (write_form place (Some op) ty value old)) (converted_code ty r)) T

abbrev compound_to : (p at op : ℕ) (old : Bool) (r : Code) → Option Location → Option Code
compound_to p at op old r to = option_and_then (λ place. compound_by at op old r place (operand_type p (place_type place) (type_of_code r))) to

pub compound-none_place : (p at op : ℕ) (old : Bool) (l r : Code) → None ≡ place_of_code l → None ≡ compound_code p at op old l r
compound-none_place p at op old l r h = ap (λ to. compound_to p at op old r to) h

pub compound-none_type : (p at op : ℕ) (old : Bool) (l r : Code) (place : Location) (a b : Ty) → Some place ≡ place_of_code l → a ≡ place_type place → b ≡ type_of_code r → None ≡ operand_type p a b → None ≡ compound_code p at op old l r
compound-none_type p at op old l r place a b h e k m =
    ap (λ T. compound_by at op old r place T) (m ∙ (ap (λ x. operand_type p x b) e ∙ ap (operand_type p (place_type place)) k)) ∙ ap (λ to. compound_to p at op old r to) h

pub compound-at : (p at op : ℕ) (old : Bool) (l r : Code) (place : Location) (a b ty : Ty) → Some place ≡ place_of_code l → a ≡ place_type place → b ≡ type_of_code r → Some ty ≡ operand_type p a b → option_and_then (λ value. a_value (place_type place) at (write_form place (Some op) ty value old)) (converted_code ty r) ≡ compound_code p at op old l r
compound-at p at op old l r place a b ty h e k m =
    ap (λ T. compound_by at op old r place T) (m ∙ (ap (λ x. operand_type p x b) e ∙ ap (operand_type p (place_type place)) k)) ∙ ap (λ to. compound_to p at op old r to) h

abbrev assigned_to : (at : ℕ) (r : Code) → Option Location → Option Code
assigned_to at r to = option_and_then (λ place. option_and_then (λ value. a_value (place_type place) at (write_form place None (place_type place) value false)) (converted_code (place_type place) r)) to

pub assignment-none_place : (at : ℕ) (l r : Code) → None ≡ place_of_code l → None ≡ plain_assignment at l r
assignment-none_place at l r h = ap (λ to. assigned_to at r to) h

pub assignment-at : (at : ℕ) (l r : Code) (place : Location) → Some place ≡ place_of_code l → option_and_then (λ value. a_value (place_type place) at (write_form place None (place_type place) value false)) (converted_code (place_type place) r) ≡ plain_assignment at l r
assignment-at at l r place h = ap (λ to. assigned_to at r to) h

-- ---- indexes

pub indexed-none : (at : ℕ) (index : Expr) (ty : Ty) (code : Code) → None ≡ element_of ty → None ≡ indexed_into at index ty code
indexed-none at index (array_type element size) code h = absurd (cc h)
indexed-none at index (vector_type kind size) code h = absurd (cc h)
indexed-none at index void_type code h = refl
indexed-none at index (scalar_type kind) code h = refl
indexed-none at index (struct_type number) code h = refl

pub indexed-at : (at : ℕ) (index : Expr) (ty element : Ty) (code : Code) → Some element ≡ element_of ty → Some (with_part at (index_part index) element code) ≡ indexed_into at index ty code
indexed-at at index (array_type e size) element code h = ap (λ o. option_map (λ x. with_part at (index_part index) x code) o) h
indexed-at at index (vector_type kind size) element code h = ap (λ o. option_map (λ x. with_part at (index_part index) x code) o) h
indexed-at at index void_type element code h = absurd (cc h)
indexed-at at index (scalar_type kind) element code h = absurd (cc h)
indexed-at at index (struct_type number) element code h = absurd (cc h)

-- ---- what is made

pub there : {A B : Type 0} (f : A → B) (o : Option A) (x : A) (r : Option B) → o ≡ Some x → option_map f o ≡ r → Some (f x) ≡ r
there f o x r e h = ap (λ p. option_map f p) (sym e) ∙ h

pub gone : {A B : Type 0} (f : A → B) (o : Option A) (r : Option B) → o ≡ None → option_map f o ≡ r → None ≡ r
gone f o r e h = ap (λ p. option_map f p) (sym e) ∙ h

pub binary-done : (p at op : ℕ) (l r : Code) (ty g : HlType) (x y : HeldExpr) (made : Code) → Some (plain_ty ty) ≡ operand_type p (type_of_code l) (type_of_code r) → Some (plain_ty g) ≡ operator_type p (type_of_code l) (type_of_code r) → Some (plain_expr x) ≡ converted_code (plain_ty ty) l → Some (plain_expr y) ≡ converted_code (plain_ty ty) r → made ≡ a_value_code (an_expr (plain_ty g) at (plain_form (forms.Binary op x y))) → Some made ≡ binary_code p at op l r
binary-done p at op l r ty g x y made T G L R e =
    ap Some (e ∙ ap (λ f. a_value_code (an_expr (plain_ty g) at f)) (plain_form-Binary op x y)) ∙
    (two-there (λ x y. a_value (plain_ty g) at (binary_form op x y)) (converted_code (plain_ty ty) l) (converted_code (plain_ty ty) r) (plain_expr x) (plain_expr y) L R ∙
    binary-at p at op l r (plain_ty ty) (plain_ty g) T G)

pub choice-done : (at : ℕ) (c y n : Code) (ty : HlType) (c' y' n' : HeldExpr) (made : Code) → Some (plain_ty ty) ≡ choice_type (type_of_code c) (type_of_code y) (type_of_code n) → Some (plain_expr c') ≡ converted_code (with_kind BoolKind (plain_ty ty)) c → Some (plain_expr y') ≡ converted_code (plain_ty ty) y → Some (plain_expr n') ≡ converted_code (plain_ty ty) n → made ≡ a_value_code (an_expr (plain_ty ty) at (plain_form (forms.Choose c' y' n'))) → Some made ≡ choice_code at c y n
choice-done at c y n ty c' y' n' made T C Y N e =
    ap Some (e ∙ ap (λ f. a_value_code (an_expr (plain_ty ty) at f)) (plain_form-Choose c' y' n')) ∙
    (three-there (λ c y n. a_value (plain_ty ty) at (choose_form c y n)) (converted_code (with_kind BoolKind (plain_ty ty)) c) (converted_code (plain_ty ty) y) (converted_code (plain_ty ty) n) (plain_expr c') (plain_expr y') (plain_expr n') C Y N ∙
    choice-at at c y n (plain_ty ty) T)

pub constructor-done : (at : ℕ) (ty : Ty) (kind : Kind) (codes : List Code) (parts : List HeldExpr) (made : Code) → kind ≡ kind_of ty → Some (plain_exprs parts) ≡ in_kind kind codes → made ≡ a_value_code (an_expr ty at (plain_form (forms.Build parts))) → Some made ≡ constructor_code at ty codes
constructor-done at ty kind codes parts made k h e =
    ap Some (e ∙ ap (λ f. a_value_code (an_expr ty at f)) (plain_form-Build parts)) ∙
    ap (λ o. option_and_then (λ parts. a_value ty at (build_form parts)) o) (h ∙ ap (λ k. in_kind k codes) k)

pub signed-done : (at op : ℕ) (tys : Option Ty) (ty : HlType) (operand : Code) (x : HeldExpr) (made : Code) → Some (plain_ty ty) ≡ tys → Some (plain_expr x) ≡ converted_code (plain_ty ty) operand → made ≡ a_value_code (an_expr (plain_ty ty) at (plain_form (forms.Unary op x))) → Some made ≡ signed_code at op tys operand
signed-done at op tys ty operand x made h k e =
    ap Some (e ∙ ap (λ f. a_value_code (an_expr (plain_ty ty) at f)) (plain_form-Unary op x)) ∙
    (ap (λ o. option_and_then (λ value. a_value (plain_ty ty) at (unary_form op value)) o) k ∙
    ap (λ o. signed_code at op o operand) h)

pub written-made : (ty : HlType) (at : ℕ) (to shown inner : HeldLocation) (op : Option ℕ) (common : HlType) (value : HeldExpr) (old : Bool) (made : Code) → plain_ty ty ≡ plain_ty shown.ty → shown ≡ to → inner ≡ to → made ≡ a_value_code (an_expr (plain_ty ty) at (plain_form (forms.Write inner op common value old))) → Some made ≡ a_value (place_type (plain_location to)) at (write_form (plain_location to) op (plain_ty common) (plain_expr value) old)
written-made ty at to shown inner op common value old made h k m e =
    ap Some (e ∙ (ap (λ t. a_value_code (an_expr t at (plain_form (forms.Write inner op common value old)))) (h ∙ (ap (λ (p : HeldLocation). plain_ty p.ty) k ∙ sym (place_type-is to))) ∙
    (ap (λ f. a_value_code (an_expr (place_type (plain_location to)) at f)) (plain_form-Write inner op common value old) ∙
    ap (λ (p : HeldLocation). a_value_code (an_expr (place_type (plain_location to)) at (write_form (plain_location p) op (plain_ty common) (plain_expr value) old))) m)))

pub compound-gone : (p at op : ℕ) (old : Bool) (l r : Code) (place : Location) (a b ty : Ty) → Some place ≡ place_of_code l → a ≡ place_type place → b ≡ type_of_code r → Some ty ≡ operand_type p a b → None ≡ converted_code ty r → None ≡ compound_code p at op old l r
compound-gone p at op old l r place a b ty h e k m n =
    ap (λ o. option_and_then (λ value. a_value (place_type place) at (write_form place (Some op) ty value old)) o) n ∙ compound-at p at op old l r place a b ty h e k m

pub compound-done : (p at op : ℕ) (old : Bool) (l r : Code) (place : Location) (a b ty : Ty) (x : Expr) → Some place ≡ place_of_code l → a ≡ place_type place → b ≡ type_of_code r → Some ty ≡ operand_type p a b → Some x ≡ converted_code ty r → a_value (place_type place) at (write_form place (Some op) ty x old) ≡ compound_code p at op old l r
compound-done p at op old l r place a b ty x h e k m n =
    ap (λ o. option_and_then (λ value. a_value (place_type place) at (write_form place (Some op) ty value old)) o) n ∙ compound-at p at op old l r place a b ty h e k m

pub compound-same : (p q at op : ℕ) (old : Bool) (l r : Code) → ((a b : Ty) → operand_type p a b ≡ operand_type q a b) → compound_code p at op old l r ≡ compound_code q at op old l r
compound-same p q at op old l r h = by (place_of_code l)
  where
    by : (o : Option Location) → compound_to p at op old r o ≡ compound_to q at op old r o
    by None = refl
    by (Some place) = ap (λ T. compound_by at op old r place T) (h (place_type place) (type_of_code r))

pub assignment-gone : (at : ℕ) (l r : Code) (place : Location) (a : Ty) → Some place ≡ place_of_code l → a ≡ place_type place → None ≡ converted_code a r → None ≡ plain_assignment at l r
assignment-gone at l r place a h e n =
    ap (λ o. option_and_then (λ value. a_value (place_type place) at (write_form place None (place_type place) value false)) o) (n ∙ ap (λ t. converted_code t r) e) ∙ assignment-at at l r place h

pub assignment-done : (at : ℕ) (l r : Code) (place : Location) (a b : Ty) (x : Expr) → Some place ≡ place_of_code l → a ≡ place_type place → b ≡ place_type place → Some x ≡ converted_code a r → a_value (place_type place) at (write_form place None b x false) ≡ plain_assignment at l r
assignment-done at l r place a b x h e k n =
    ap (λ t. a_value (place_type place) at (write_form place None t x false)) k ∙
    (ap (λ o. option_and_then (λ value. a_value (place_type place) at (write_form place None (place_type place) value false)) o) (n ∙ ap (λ t. converted_code t r) e) ∙ assignment-at at l r place h)

pub assignment-other : (mark : Terminal) (at : ℕ) (l r : Code) → (mark ≡ terminals.Equals → ⊥) → assignment_code mark at l r ≡ compound_code (compound_production mark) at (compound_mark mark) false l r
assignment-other terminals.Equals at l r other = absurd (other refl)
assignment-other _ at l r other = refl

pub swizzled-done : (at : ℕ) (kind : Kind) (given : Option (List ℕ)) (letters : List ℕ) (ty : HlType) (n : ℕ) (code made : Code) → given ≡ Some letters → plain_ty ty ≡ components_type kind n → n ≡ length letters → made ≡ with_part at (plain_part (parts.Swizzle letters)) (plain_ty ty) code → Some made ≡ swizzled_code at kind given code
swizzled-done at kind given letters ty n code made g h k e =
    ap Some (e ∙ (ap (λ p. with_part at p (plain_ty ty) code) (plain_part-Swizzle letters) ∙
    ap (λ t. with_part at (swizzle_part letters) t code) (h ∙ ap (components_type kind) k))) ∙
    ap (λ o. swizzled_code at kind o code) (sym g)

pub member-done : (at : ℕ) (given : Option ℕ) (number : ℕ) (tys : Option Ty) (ty : HlType) (own : Ty) (code made : Code) → given ≡ Some number → Some own ≡ tys → plain_ty ty ≡ own → made ≡ with_part at (plain_part (parts.Member number)) (plain_ty ty) code → Some made ≡ member_code at given tys code
member-done at given number tys ty own code made g h k e =
    ap Some (e ∙ (ap (λ p. with_part at p (plain_ty ty) code) (plain_part-Member number) ∙ ap (λ t. with_part at (member_part number) t code) k)) ∙
    (ap (λ o. member_code at (Some number) o code) h ∙ ap (λ o. member_code at o tys code) (sym g))

pub indexed-done : (at : ℕ) (index : HeldExpr) (element : HlType) (own : Ty) (code made : Code) → Some (plain_ty element) ≡ element_of own → own ≡ type_of_code code → made ≡ with_part at (plain_part (parts.Index index)) (plain_ty element) code → Some made ≡ indexed_code at (plain_expr index) code
indexed-done at index element own code made h k e =
    ap Some (e ∙ ap (λ p. with_part at p (plain_ty element) code) (plain_part-Index index)) ∙
    (indexed-at at (plain_expr index) own (plain_ty element) code h ∙ ap (λ t. indexed_into at (plain_expr index) t code) k)

pub element-other : (o : HlType) → ((k : Kind) (n : ℕ) → o ≡ types.Vector k n → ⊥) → ((e : HlType) (n : ℕ) → o ≡ types.Array e n → ⊥) → None ≡ element_of (plain_ty o)
element-other = type_cases (λ o. ((k : Kind) (n : ℕ) → o ≡ types.Vector k n → ⊥) → ((e : HlType) (n : ℕ) → o ≡ types.Array e n → ⊥) → None ≡ element_of (plain_ty o))
    (λ vector array. sym (ap element_of plain_ty-Void))
    (λ k vector array. sym (ap element_of (plain_ty-Scalar k)))
    (λ k n vector array. absurd (vector k n refl))
    (λ e n vector array. absurd (array e n refl))
    (λ n vector array. sym (ap element_of (plain_ty-Struct n)))

-- ---- literals

literal-made : (t : Ty) (at : ℕ) (form : Form) → is_literal (an_expr t at form) ≡ true → no_literal (an_expr t at form) ≡ an_expr t at (unary_form 12 (an_expr t at form))
literal-made t at (literal_form word) h = refl
literal-made t at form h = absurd (cc h)

pub no_literal-done : (e first second third : HeldExpr) (ty : HlType) (made : Expr) → first ≡ e → second ≡ e → third ≡ e → true ≡ is_literal (plain_expr first) → plain_ty ty ≡ plain_ty third.ty → made ≡ an_expr (plain_ty ty) second.at (plain_form (forms.Unary 12 e)) → made ≡ no_literal (plain_expr e)
no_literal-done e first second third ty made a b d literal t is =
    is ∙ (ap (λ u. an_expr u second.at (plain_form (forms.Unary 12 e))) (t ∙ ap (λ (x : HeldExpr). plain_ty x.ty) d) ∙
    (ap (λ (x : HeldExpr). an_expr (plain_ty e.ty) x.at (plain_form (forms.Unary 12 e))) b ∙
    (ap (λ f. an_expr (plain_ty e.ty) e.at f) (plain_form-Unary 12 e) ∙
    (ap (λ x. an_expr (plain_ty e.ty) e.at (unary_form 12 x)) (plain_expr-is e) ∙
    sym (ap no_literal (plain_expr-is e) ∙
    literal-made (plain_ty e.ty) e.at (plain_form e.form) (sym (literal ∙ ap is_literal (ap (λ (x : HeldExpr). plain_expr x) a ∙ plain_expr-is e))))))))
