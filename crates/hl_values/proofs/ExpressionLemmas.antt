-- What is known of an expression is what its form makes of what is known of its parts, and its sites note what these break.
use Rattle.std.proofs.Common.{◌≡◌, ◌∙◌, refl, sym, ap, ℕ, List, [], ◌∷◌, ◌++◌, Option, None, Some}
use Rattle.hl_lexer.specs.declared.terminal.Terminal.{Terminal}
use Rattle.hl_lexer.specs.declared.terminal.Terminal.TheVariants as terminals
use Rattle.hl_parser.specs.Trees.{Tree, absent, present, a_binary, a_choice, a_postfix, a_unary, an_expr, at_of}
use Rattle.hl_meaning.specs.declared.ty.Kind.{Kind}
use Rattle.hl_meaning.specs.declared.ty.HlType.TheVariants.{Scalar}
use Rattle.hl_meaning.specs.Trees.{literal_form}
use Rattle.hl_meaning.specs.Types.{Ty, scalar_type}
use Rattle.hl_meaning.specs.Views.{plain_ty}
use Rattle.hl_meaning.proofs.Plain.{plain_ty-Scalar}
use Rattle.hl_rules.specs.Nodes.{Code, a_value}
use Rattle.hl_rules.specs.declared.found.Broken.{Broken}
use Rattle.hl_rules.specs.Constants.{basic_type}
use Rattle.hl_rules.specs.Operands.{of_two, operator_type}
use Rattle.hl_rules.specs.Parts.{Site, a_cast, a_conversion, a_written_side, site}
use Rattle.hl_rules.specs.Rules.{noted}
use Rattle.hl_rules.specs.Scopes.{Scope}
use Rattle.hl_rules.specs.Sites.{assignment_sites, compound_production, expression_sites, operated, prefix_sites, used}
use Rattle.hl_rules.specs.Source.{terminal_at}
use Rattle.hl_rules.specs.Values.{Value, plain_value, type_in, value_of}
use Rattle.hl_rules.proofs.Noting.{noted-append, noted-cast, noted-conversion, noted-first, noted-written_side}
use Rattle.hl_values.specs.declared.typed.Typed.{Typed}
use Rattle.hl_values.specs.Known.{assignment_known, binary_known, cast_known, choice_known, known, known_of, plain_known, prefix_known, step_known}
use Rattle.hl_values.specs.Noted.{noted_assigned, noted_cast, noted_conversion, noted_operand, noted_prefix, noted_side, noted_use, noted_written}
use Rattle.hl_values.specs.TypedViews.{IsTyped}
use Rattle.hl_values.specs.Views as views
use Rattle.hl_values.specs.Views.{plain_code_if}
use Rattle.hl_values.proofs.NoteLemmas.{operated-noted, used-noted}

pub known-typed : (s : Scope) (e : Tree) (t : Typed) → plain_known t ≡ known_of s e → IsTyped s e t
known-typed s e t h = record {
  value = ap (λ k. k.value) h;
  number = ap (λ k. k.number) h;
  code = ap (λ k. k.code) h;
}

pub typed-known : (s : Scope) (e : Tree) (t : Typed) → IsTyped s e t → plain_known t ≡ known_of s e
typed-known s e t h =
    ap (λ v. known v t.number (plain_code_if t.code)) h.value ∙
    (ap (λ n. known (value_of s e) n (plain_code_if t.code)) h.number ∙ ap (λ c. known (value_of s e) (known_of s e).number c) h.code)

-- an operator between two operands
pub binary-typed : (s : Scope) (p at mark : ℕ) (l r : Tree) (left right t : Typed) → IsTyped s l left → IsTyped s r right → plain_known t ≡ binary_known s p at mark (plain_known left) (plain_known right) → IsTyped s (a_binary p at l mark r) t
binary-typed s p at mark l r left right t h k e =
    known-typed s (a_binary p at l mark r) t
    (e ∙ (ap (λ x. binary_known s p at mark x (plain_known right)) (typed-known s l left h) ∙ ap (λ x. binary_known s p at mark (known_of s l) x) (typed-known s r right k)))

pub binary-noted : (f : Option Broken) (s : Scope) (p at mark : ℕ) (l r : Tree) → noted f (expression_sites s (a_binary p at l mark r)) ≡ noted_operand (noted (noted_operand (noted f (expression_sites s l)) (value_of s l) (at_of l)) (expression_sites s r)) (value_of s r) (at_of r)
binary-noted f s p at mark l r =
    noted-append f (operated s l (expression_sites s l)) (operated s r (expression_sites s r)) ∙
    (ap (λ g. noted g (operated s r (expression_sites s r))) (operated-noted f s l (expression_sites s l)) ∙
    operated-noted (noted_operand (noted f (expression_sites s l)) (value_of s l) (at_of l)) s r (expression_sites s r))

-- `?:`
pub choice-typed : (s : Scope) (at : ℕ) (c y n : Tree) (cond yes' no' t : Typed) → IsTyped s c cond → IsTyped s y yes' → IsTyped s n no' → plain_known t ≡ choice_known at (plain_known cond) (plain_known yes') (plain_known no') → IsTyped s (a_choice at c y n) t
choice-typed s at c y n cond yes' no' t h k m e =
    known-typed s (a_choice at c y n) t
    (e ∙ (ap (λ x. choice_known at x (plain_known yes') (plain_known no')) (typed-known s c cond h) ∙
    (ap (λ x. choice_known at (known_of s c) x (plain_known no')) (typed-known s y yes' k) ∙ ap (λ x. choice_known at (known_of s c) (known_of s y) x) (typed-known s n no' m))))

pub choice-noted : (f : Option Broken) (s : Scope) (at : ℕ) (c y n : Tree) → noted f (expression_sites s (a_choice at c y n)) ≡ noted_operand (noted (noted_operand (noted (noted_operand (noted f (expression_sites s c)) (value_of s c) (at_of c)) (expression_sites s y)) (value_of s y) (at_of y)) (expression_sites s n)) (value_of s n) (at_of n)
choice-noted f s at c y n =
    noted-append f (operated s c (expression_sites s c)) (operated s y (expression_sites s y) ++ operated s n (expression_sites s n)) ∙
    (ap (λ g. noted g (operated s y (expression_sites s y) ++ operated s n (expression_sites s n))) (operated-noted f s c (expression_sites s c)) ∙
    binary-noted (noted_operand (noted f (expression_sites s c)) (value_of s c) (at_of c)) s 0 at 0 y n)

-- casts
pub cast-typed : (s : Scope) (at : ℕ) (basic o : Tree) (operand t : Typed) (ty : Ty) → IsTyped s o operand → ty ≡ basic_type s basic → plain_known t ≡ cast_known ty (plain_known operand) → IsTyped s (a_unary at (present basic) o) t
cast-typed s at basic o operand t ty h k e =
    known-typed s (a_unary at (present basic) o) t (e ∙ (ap (λ u. cast_known u (plain_known operand)) k ∙ ap (λ x. cast_known (basic_type s basic) x) (typed-known s o operand h)))

pub cast-noted : (f : Option Broken) (s : Scope) (at : ℕ) (basic o : Tree) → noted f (expression_sites s (a_unary at (present basic) o)) ≡ noted_cast (noted_use (noted f (expression_sites s o)) (value_of s o) (at_of o)) (value_of s o) (basic_type s basic) at
cast-noted f s at basic o =
    noted-append f (used s o (expression_sites s o)) (site s (a_cast at basic o) ∷ []) ∙
    (ap (λ g. noted g (site s (a_cast at basic o) ∷ [])) (used-noted f s o (expression_sites s o)) ∙
    noted-cast (noted_use (noted f (expression_sites s o)) (value_of s o) (at_of o)) s at basic o)

-- operators before an operand
pub prefix-typed : (s : Scope) (at : ℕ) (o : Tree) (operand t : Typed) → IsTyped s o operand → plain_known t ≡ prefix_known s at (plain_known operand) → IsTyped s (a_unary at absent o) t
prefix-typed s at o operand t h e = known-typed s (a_unary at absent o) t (e ∙ ap (λ x. prefix_known s at x) (typed-known s o operand h))

written-noted : (f : Option Broken) (s : Scope) (o : Tree) (inside : List Site) → noted f (operated s o inside ++ site s (a_written_side o) ∷ []) ≡ noted_written (noted_operand (noted f inside) (value_of s o) (at_of o)) (value_of s o) (at_of o)
written-noted f s o inside =
    noted-append f (operated s o inside) (site s (a_written_side o) ∷ []) ∙
    (ap (λ g. noted g (site s (a_written_side o) ∷ [])) (operated-noted f s o inside) ∙ noted-written_side (noted_operand (noted f inside) (value_of s o) (at_of o)) s o)

prefix-by : (f : Option Broken) (s : Scope) (mark : Terminal) (o : Tree) (inside : List Site) → noted f (prefix_sites s mark o inside) ≡ noted_prefix (noted f inside) mark (value_of s o) (at_of o)
prefix-by f s terminals.PlusPlus o inside = written-noted f s o inside
prefix-by f s terminals.MinusMinus o inside = written-noted f s o inside
prefix-by f s _ o inside = operated-noted f s o inside

pub prefix-noted : (f : Option Broken) (s : Scope) (at : ℕ) (o : Tree) → noted f (expression_sites s (a_unary at absent o)) ≡ noted_prefix (noted f (expression_sites s o)) (terminal_at s.tokens at) (value_of s o) (at_of o)
prefix-noted f s at o = prefix-by f s (terminal_at s.tokens at) o (expression_sites s o)

-- `++` and `--` behind an operand
pub step-typed : (s : Scope) (at mark : ℕ) (o : Tree) (operand t : Typed) → IsTyped s o operand → plain_known t ≡ step_known s at mark (plain_known operand) → IsTyped s (a_postfix at o mark None absent) t
step-typed s at mark o operand t h e = known-typed s (a_postfix at o mark None absent) t (e ∙ ap (λ x. step_known s at mark x) (typed-known s o operand h))

pub step-noted : (f : Option Broken) (s : Scope) (at mark : ℕ) (o : Tree) → noted f (expression_sites s (a_postfix at o mark None absent)) ≡ noted_written (noted_operand (noted f (expression_sites s o)) (value_of s o) (at_of o)) (value_of s o) (at_of o)
step-noted f s at mark o = written-noted f s o (expression_sites s o)

-- assignments
pub assignment-typed : (s : Scope) (at mark : ℕ) (l r : Tree) (left right t : Typed) → IsTyped s l left → IsTyped s r right → plain_known t ≡ assignment_known s at mark (plain_known left) (plain_known right) → IsTyped s (an_expr at l mark r) t
assignment-typed s at mark l r left right t h k e =
    known-typed s (an_expr at l mark r) t
    (e ∙ (ap (λ x. assignment_known s at mark x (plain_known right)) (typed-known s l left h) ∙ ap (λ x. assignment_known s at mark (known_of s l) x) (typed-known s r right k)))

-- the sites of one side, of the other, and what both write and convert
sides-noted : (f : Option Broken) (a b : List Site) (w c : Site) → noted f (a ++ (b ++ (w ∷ c ∷ []))) ≡ noted (noted (noted (noted f a) b) (w ∷ [])) (c ∷ [])
sides-noted f a b w c =
    noted-append f a (b ++ (w ∷ c ∷ [])) ∙ (noted-append (noted f a) b (w ∷ c ∷ []) ∙ noted-first (noted (noted f a) b) w (c ∷ []))

assigned-by : (f : Option Broken) (s : Scope) (l r : Tree) (a b : List Site) (x y : Option Broken) (from : Option Ty) → noted f a ≡ x → noted x b ≡ y → noted f (a ++ (b ++ (site s (a_written_side l) ∷ site s (a_conversion from (type_in s l) (at_of r)) ∷ []))) ≡ noted_conversion (noted_written y (value_of s l) (at_of l)) from (type_in s l) (at_of r)
assigned-by f s l r a b x y from h k =
    sides-noted f a b (site s (a_written_side l)) (site s (a_conversion from (type_in s l) (at_of r))) ∙
    (ap (λ g. noted (noted g (site s (a_written_side l) ∷ [])) (site s (a_conversion from (type_in s l) (at_of r)) ∷ [])) (ap (λ g. noted g b) h ∙ k) ∙
    (ap (λ g. noted g (site s (a_conversion from (type_in s l) (at_of r)) ∷ [])) (noted-written_side y s l) ∙
    noted-conversion (noted_written y (value_of s l) (at_of l)) s from (type_in s l) (at_of r)))

assignment-by : (f : Option Broken) (s : Scope) (mark : Terminal) (l r : Tree) (li ri : List Site) → noted f (assignment_sites s mark l r li ri) ≡ noted_assigned (noted_side (noted (noted_side (noted f li) mark (value_of s l) (at_of l)) ri) mark (value_of s r) (at_of r)) mark (value_of s l) (value_of s r) (at_of l) (at_of r)
assignment-by f s terminals.Equals l r li ri =
    assigned-by f s l r (used s l li) (used s r ri) _ _ (type_in s r) (used-noted f s l li) (used-noted (noted_use (noted f li) (value_of s l) (at_of l)) s r ri)
assignment-by f s mark l r li ri =
    assigned-by f s l r (operated s l li) (operated s r ri) _ _ (of_two (operator_type (compound_production mark)) (type_in s l) (type_in s r)) (operated-noted f s l li) (operated-noted (noted_operand (noted f li) (value_of s l) (at_of l)) s r ri)

pub assignment-noted : (f : Option Broken) (s : Scope) (at mark : ℕ) (l r : Tree) → noted f (expression_sites s (an_expr at l mark r)) ≡ noted_assigned (noted_side (noted (noted_side (noted f (expression_sites s l)) (terminal_at s.tokens mark) (value_of s l) (at_of l)) (expression_sites s r)) (terminal_at s.tokens mark) (value_of s r) (at_of r)) (terminal_at s.tokens mark) (value_of s l) (value_of s r) (at_of l) (at_of r)
assignment-noted f s at mark l r = assignment-by f s (terminal_at s.tokens mark) l r (expression_sites s l) (expression_sites s r)

-- ---- what is noted of what is held

pub noted-there : (N : Option Broken → Value → ℕ → Option Broken) (old whole new : Option Broken) (s : Scope) (e : Tree) (t : Typed) (at : ℕ) → IsTyped s e t → at ≡ at_of e → old ≡ whole → new ≡ N old (views.plain_value t) at → new ≡ N whole (value_of s e) (at_of e)
noted-there N old whole new s e t at typed same before h =
    h ∙ (ap (λ x. N x (views.plain_value t) at) before ∙ (ap (λ v. N whole v at) typed.value ∙ ap (λ n. N whole (value_of s e) n) same))

pub cast-there : (old whole new : Option Broken) (s : Scope) (e : Tree) (t : Typed) (ty own : Ty) (at : ℕ) → IsTyped s e t → ty ≡ own → old ≡ whole → new ≡ noted_cast old (views.plain_value t) ty at → new ≡ noted_cast whole (value_of s e) own at
cast-there old whole new s e t ty own at typed same before h =
    h ∙ (ap (λ x. noted_cast x (views.plain_value t) ty at) before ∙ (ap (λ v. noted_cast whole v ty at) typed.value ∙ ap (λ u. noted_cast whole (value_of s e) u at) same))

pub assigned-there : (mark : Terminal) (old whole new : Option Broken) (s : Scope) (l r : Tree) (left right : Typed) (left_at right_at : ℕ) → IsTyped s l left → IsTyped s r right → left_at ≡ at_of l → right_at ≡ at_of r → old ≡ whole → new ≡ noted_assigned old mark (views.plain_value left) (views.plain_value right) left_at right_at → new ≡ noted_assigned whole mark (value_of s l) (value_of s r) (at_of l) (at_of r)
assigned-there mark old whole new s l r left right left_at right_at typed_left typed_right same_left same_right before h =
    h ∙ (ap (λ x. noted_assigned x mark (views.plain_value left) (views.plain_value right) left_at right_at) before ∙
    (ap (λ v. noted_assigned whole mark v (views.plain_value right) left_at right_at) typed_left.value ∙
    (ap (λ v. noted_assigned whole mark (value_of s l) v left_at right_at) typed_right.value ∙
    (ap (λ n. noted_assigned whole mark (value_of s l) (value_of s r) n right_at) same_left ∙
    ap (λ n. noted_assigned whole mark (value_of s l) (value_of s r) (at_of l) n) same_right))))

-- ---- words

pub number-known : (kind : Kind) (n m at : ℕ) (ty : Ty) (code : Option Code) → scalar_type kind ≡ ty → n ≡ m → code ≡ a_value (plain_ty (Scalar kind)) at (literal_form n) → known (plain_value (Some (plain_ty (Scalar kind)))) (Some n) code ≡ known (plain_value (Some ty)) (Some m) (a_value ty at (literal_form m))
number-known kind n m at ty code h k e =
    let t : plain_ty (Scalar kind) ≡ ty = plain_ty-Scalar kind ∙ h in
    ap (λ x. known (plain_value (Some (plain_ty (Scalar kind)))) (Some n) x) e ∙
    (ap (λ x. known (plain_value (Some x)) (Some n) (a_value x at (literal_form n))) t ∙
    ap (λ x. known (plain_value (Some ty)) (Some x) (a_value ty at (literal_form x))) k)

pub known-parts : (v w : Value) (m n : Option ℕ) (c d : Option Code) → v ≡ w → m ≡ n → c ≡ d → known v m c ≡ known w n d
known-parts v w m n c d h k e = ap (λ x. known x m c) h ∙ (ap (λ x. known w x c) k ∙ ap (λ x. known w n x) e)
