-- Operators, by the numbers of their marks (HLSL, "Operators").
use Rattle.std.specs.Prelude.{ℕ, List, [], ◌∷◌, ◌==◌, ◌&&◌, Bool, if◌then◌else◌, Option, Some, None}
use Rattle.std.specs.List.{list_any}
use Rattle.hl_meaning.specs.declared.ty.Kind.TheVariants.{Bool as BoolKind}
use Rattle.hl_meaning.specs.Types.{Ty, is_numeric, is_of, with_kind}

abbrev pub is_among : List ℕ → ℕ → Bool
is_among marks op = list_any (λ mark. op == mark) marks

-- `+ - * / % & | ^ << >>`, which a compound assignment may have
abbrev pub computing : List ℕ
computing = 12 ∷ 13 ∷ 14 ∷ 15 ∷ 16 ∷ 21 ∷ 22 ∷ 23 ∷ 30 ∷ 31 ∷ []

-- `< > == != <= >=`
abbrev pub comparing : List ℕ
comparing = 17 ∷ 18 ∷ 26 ∷ 27 ∷ 28 ∷ 29 ∷ []

-- `&& ||`
abbrev pub joining : List ℕ
joining = 24 ∷ 25 ∷ []

-- `+ - ~` before an operand
abbrev pub signing : List ℕ
signing = 12 ∷ 13 ∷ 20 ∷ []

-- `!`
abbrev pub negating : List ℕ
negating = 19 ∷ []

-- `+ -`, which `++` and `--` have
abbrev pub stepping : List ℕ
stepping = 12 ∷ 13 ∷ []

-- The type that an operator gives for two operands of one type. Numbers are computed and compared, truth values are
-- joined.
abbrev pub binary_type : ℕ → Ty → Option Ty
binary_type op ty =
    if is_among computing op && is_numeric ty then Some ty else (
    if is_among comparing op && is_numeric ty then Some (with_kind BoolKind ty) else (
    if is_among joining op && is_of BoolKind ty then Some ty else None))

-- the type that an operator gives for one operand
abbrev pub unary_type : ℕ → Ty → Option Ty
unary_type op ty =
    if is_among signing op && is_numeric ty then Some ty else (
    if is_among negating op && is_of BoolKind ty then Some ty else None)
