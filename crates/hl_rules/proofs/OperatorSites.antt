-- Operators and casts among free sites.
use Rattle.std.proofs.Common.{◌≡◌, ◌∙◌, refl, sym, ap, subst, ℕ, ◌≤◌, true, false, not, List, [], ◌∷◌, ◌++◌, Option, Some}
use Rattle.std.specs.Prelude.{option_and_then, option_map}
use Rattle.hl_parser.specs.Grammar as grammar
use Rattle.hl_parser.specs.Trees.{Tree, a_binary, a_choice, a_unary, at_of, present}
use Rattle.hl_meaning.specs.Types.{Ty, is_void}
use Rattle.hl_meaning.specs.Conversions.{converts}
use Rattle.hl_rules.specs.Constants.{basic_type}
use Rattle.hl_rules.specs.Expressions.{binary_code, choice_code, code_of}
use Rattle.hl_rules.specs.Nodes.{Code, a_value_code, converted_code, type_of_code, value_of_code}
use Rattle.hl_rules.specs.Operands.{choice_type, of_three, operator_type}
use Rattle.hl_rules.specs.Parts.{Site, a_cast, site}
use Rattle.hl_rules.specs.Scopes.{Scope}
use Rattle.hl_rules.specs.Sites.{expression_sites, operated, used}
use Rattle.hl_rules.specs.Source.{mark_at, terminal_at}
use Rattle.hl_rules.specs.Values.{Value, plain_value, type_in, value_of, valued, is_known}
use Rattle.hl_rules.proofs.Becoming.{Becomes, IsOperand, IsValueIn, becomes-stands, not-true, of_two-there, operated-known, used-known, valued-there, with_two-there}
use Rattle.hl_rules.proofs.BinaryForms.{binary-becomes}
use Rattle.hl_rules.proofs.ChoiceForms.{choice-becomes}
use Rattle.hl_rules.proofs.Free.{IsFree, Obeys, free-first, free-left, free-right, not_broken}
use Rattle.hl_rules.proofs.Marks.{operator-marked}
use Rattle.hl_rules.proofs.ShortTypes.{short-result}
use Rattle.hl_rules.proofs.SignForms.{cast-becomes, word-short}

-- ---- operands

abbrev pub Known : Scope → Tree → Type 0
Known s e = Becomes s (value_of s e) (code_of s e)

-- an operand that is known, among free sites
pub operand-of : (s : Scope) (e : Tree) (inside : List Site) (b : Known s e) → IsFree (operated s e inside) → IsOperand (value_of s e) (type_of_code b.to)
operand-of s e inside b free = operated-known s e inside (type_of_code b.to) free b.type

pub used-of : (s : Scope) (e : Tree) (inside : List Site) (b : Known s e) → IsFree (used s e inside) → is_void (type_of_code b.to) ≡ false
used-of s e inside b free = used-known s e inside (type_of_code b.to) free b.type

pub type-known : (s : Scope) (e : Tree) (ty : Ty) → (value_of s e).ty ≡ Some ty → is_void ty ≡ false → type_in s e ≡ Some ty
type-known s e ty h k = ap (λ o. valued o) h ∙ valued-there ty k

pub known-stands : (s : Scope) (e : Tree) (b : Known s e) → IsValueIn s (value_of_code b.to)
known-stands s e b = becomes-stands s (value_of s e) (code_of s e) b

-- what is made of what one becomes
pub of-one : {A : Type 0} (s : Scope) (v : Value) (f : A → Option Code) (code : Option A) (to : A) → code ≡ Some to → Becomes s v (f to) → Becomes s v (option_and_then f code)
of-one s v f code to e h = subst (λ o. Becomes s v (option_and_then f o)) (sym e) h

-- ---- operators

pub binary-known : (s : Scope) (production at mark : ℕ) (left right : Tree) → 30 ≤ production → grammar.operator_of (terminal_at s.tokens mark) ≡ production → Known s left → Known s right → IsFree (expression_sites s (a_binary production at left mark right)) → Known s (a_binary production at left mark right)
binary-known s production at mark left right low marked l r free =
    let at_l : IsOperand (value_of s left) (type_of_code l.to) = operand-of s left (expression_sites s left) l (free-left (operated s left (expression_sites s left)) (operated s right (expression_sites s right)) free) in
    let at_r : IsOperand (value_of s right) (type_of_code r.to) = operand-of s right (expression_sites s right) r (free-right (operated s left (expression_sites s left)) (operated s right (expression_sites s right)) free) in
    subst (λ c. Becomes s (value_of s (a_binary production at left mark right)) c) (sym (with_two-there (binary_code production at (mark_at s.tokens mark)) (code_of s left) (code_of s right) l.to r.to l.is r.is))
    (subst (λ o. Becomes s (plain_value o) (binary_code production at (mark_at s.tokens mark) l.to r.to)) (sym (of_two-there (operator_type production) (valued (value_of s left).ty) (valued (value_of s right).ty) (type_of_code l.to) (type_of_code r.to) at_l.known at_r.known))
    (binary-becomes s production at (mark_at s.tokens mark) l.to r.to (operator-marked s.tokens mark production low marked) at_l.basic at_r.basic (known-stands s left l) (known-stands s right r)))

three-types : (a b c : Option Ty) (x y z : Ty) → a ≡ Some x → b ≡ Some y → c ≡ Some z → of_three choice_type a b c ≡ choice_type x y z
three-types a b c x y z e h k = rw e (rw h (rw k refl))

three-codes : (s : Scope) (at : ℕ) (condition consequent alternative : Tree) (c y n : Code) → code_of s condition ≡ Some c → code_of s consequent ≡ Some y → code_of s alternative ≡ Some n → code_of s (a_choice at condition consequent alternative) ≡ choice_code at c y n
three-codes s at condition consequent alternative c y n e h k = rw e (rw h (rw k refl))

pub choice-known : (s : Scope) (at : ℕ) (condition consequent alternative : Tree) → Known s condition → Known s consequent → Known s alternative → IsFree (expression_sites s (a_choice at condition consequent alternative)) → Known s (a_choice at condition consequent alternative)
choice-known s at condition consequent alternative c y n free =
    let at_c : IsOperand (value_of s condition) (type_of_code c.to) = operand-of s condition (expression_sites s condition) c (free-left (operated s condition (expression_sites s condition)) branches free) in
    let at_y : IsOperand (value_of s consequent) (type_of_code y.to) = operand-of s consequent (expression_sites s consequent) y (free-left (operated s consequent (expression_sites s consequent)) (operated s alternative (expression_sites s alternative)) rest) in
    let at_n : IsOperand (value_of s alternative) (type_of_code n.to) = operand-of s alternative (expression_sites s alternative) n (free-right (operated s consequent (expression_sites s consequent)) (operated s alternative (expression_sites s alternative)) rest) in
    subst (λ o. Becomes s (value_of s (a_choice at condition consequent alternative)) o) (sym (three-codes s at condition consequent alternative c.to y.to n.to c.is y.is n.is))
    (subst (λ o. Becomes s (plain_value o) (choice_code at c.to y.to n.to)) (sym (three-types (valued (value_of s condition).ty) (valued (value_of s consequent).ty) (valued (value_of s alternative).ty) (type_of_code c.to) (type_of_code y.to) (type_of_code n.to) at_c.known at_y.known at_n.known))
    (choice-becomes s at c.to y.to n.to at_c.basic at_y.basic at_n.basic (known-stands s condition c) (known-stands s consequent y) (known-stands s alternative n)))
  where
    branches : List Site
    branches = operated s consequent (expression_sites s consequent) ++ operated s alternative (expression_sites s alternative)

    rest : IsFree branches
    rest = free-right (operated s condition (expression_sites s condition)) branches free

pub cast-known : (s : Scope) (at : ℕ) (basic operand : Tree) → grammar.is_basic (terminal_at s.tokens (at_of basic)) ≡ true → Known s operand → IsFree (expression_sites s (a_unary at (present basic) operand)) → Known s (a_unary at (present basic) operand)
cast-known s at basic operand word b free =
    of-one s (plain_value (Some (basic_type s basic))) (λ code. option_map a_value_code (converted_code (basic_type s basic) code)) (code_of s operand) b.to b.is
    (cast-becomes s (basic_type s basic) b.to converting (known-stands s operand b)
    (λ env f. short-result env.structs (basic_type s basic) (word-short (terminal_at s.tokens (at_of basic)) word)))
  where
    inside : List Site
    inside = used s operand (expression_sites s operand)

    own : Obeys s (a_cast at basic operand)
    own = free-first (site s (a_cast at basic operand)) [] (free-right inside (site s (a_cast at basic operand) ∷ []) free)

    there : type_in s operand ≡ Some (type_of_code b.to)
    there = type-known s operand (type_of_code b.to) b.type (used-of s operand (expression_sites s operand) b (free-left inside (site s (a_cast at basic operand) ∷ []) free))

    converting : converts (type_of_code b.to) (basic_type s basic) ≡ true
    converting =
        not-true (converts (type_of_code b.to) (basic_type s basic))
        (sym (ap (λ o. is_known (λ ty. not (converts ty (basic_type s basic))) o) there)
        ∙ not_broken (is_known (λ ty. not (converts ty (basic_type s basic))) (type_in s operand)) at own.obeys_34)
