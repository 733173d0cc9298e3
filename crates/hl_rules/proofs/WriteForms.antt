-- Assignments, and operators that write what they compute.
use Rattle.std.proofs.Common.{◌≡◌, ◌∙◌, refl, sym, ap, subst, arith, ℕ, Bool, true, false, ◌||◌, not, nat_le, List, None, Some}
use Rattle.std.specs.Prelude.{IsTrue}
use Rattle.std.proofs.lemmas.Bool.{and_from}
use Rattle.std.proofs.lemmas.Option.{option_and_then_some, same_Some}
use Rattle.hl_meaning.specs.declared.ty.Kind.TheVariants.{Int as IntKind}
use Rattle.hl_meaning.specs.Types.{Ty, is_basic, scalar_type}
use Rattle.hl_meaning.specs.Conversions.{converts}
use Rattle.hl_meaning.specs.Operators.{computing, is_among, stepping}
use Rattle.hl_meaning.specs.Trees.{Expr, Location, PathParts, Root, a_location, an_expr, literal_form, place_type, write_form}
use Rattle.hl_meaning.specs.Places as places
use Rattle.hl_meaning.specs.Places.{has_distinct_letters, is_writable_place, is_writable_root, is_without_repeats, path_type, reached_type, root_type}
use Rattle.hl_meaning.specs.WellFormed.{IsDeclared, IsPlace, IsResult}
use Rattle.hl_lexer.specs.declared.terminal.Terminal.{Terminal}
use Rattle.hl_lexer.specs.declared.terminal.Terminal.TheVariants as terminals
use Rattle.hl_rules.specs.Expressions.{compound_code, plain_assignment, step_code, step_mark}
use Rattle.hl_rules.specs.Nodes.{Code, a_place_code, a_value, a_value_code, converted_code, type_of_code, value_of_code}
use Rattle.hl_rules.specs.Operands.{operand_type}
use Rattle.hl_rules.specs.Scopes.{Scope}
use Rattle.hl_rules.specs.Source.{terminal_at}
use Rattle.hl_rules.specs.Values.{a_place, may_be_written, plain_value}
use Rattle.hl_rules.proofs.Becoming.{Becomes, IsConverted, IsValueIn, converted-there, operand-short}
use Rattle.hl_rules.proofs.BinaryForms.{IsOperated, operated-there, result_of}
use Rattle.hl_rules.proofs.Fitting.{Fits, IsStanding}
use Rattle.hl_rules.proofs.Paths.{distinct-last}
use Rattle.hl_rules.proofs.ShortTypes.{IsShort, declared-result, result-short, short-result}
use Rattle.hl_rules.proofs.TypeLemmas.{and-left, and-right}

-- ---- places

pub place-declared : (env : places.Scope) (place : Location) → IsPlace env place → IsDeclared env.structs (place_type place)
place-declared env (a_location ty root parts) h = h.0

-- where the steps of a place begin, and that they lead to its type
pub place-path : (env : places.Scope) (ty : Ty) (root : Root) (parts : PathParts) → reached_type env root parts ≡ Some ty → (from : Ty) × (root_type env root ≡ Some from) × (path_type env.structs from parts ≡ Some ty)
place-path env ty root parts e =
    option_and_then_some (λ t. path_type env.structs t parts) (root_type env root) ty e (λ from h k. (from, h, k))

-- a place that may be written, for what is known of it
pub standing-written : (env : places.Scope) (writable atomic : Bool) (letters : List ℕ) (ty : Ty) (root : Root) (parts : PathParts) → IsStanding env writable atomic letters ty root parts → may_be_written (a_place writable atomic letters) ≡ true → is_writable_place env (a_location ty root parts) ≡ true
standing-written env writable atomic letters ty root parts h e =
    and_from (is_writable_root env root) (has_distinct_letters parts) (h.writes (and-left writable (is_without_repeats letters) e))
    (distinct (place-path env ty root parts h.is.3))
  where
    distinct : (from : Ty) × (root_type env root ≡ Some from) × (path_type env.structs from parts ≡ Some ty) → has_distinct_letters parts ≡ true
    distinct p =
        distinct-last env.structs p.0 ty parts p.2
        ∙ (ap (λ l. is_without_repeats l) (sym h.ends) ∙ and-right writable (is_without_repeats letters) e)

-- a place may be written wherever the scope fits
abbrev pub IsTargetIn : Scope → Location → Type 0
IsTargetIn s place = (env : places.Scope) → Fits env s → IsPlace env place × IsTrue (is_writable_place env place)

pub target-result : (s : Scope) (place : Location) → IsTargetIn s place → (env : places.Scope) → Fits env s → IsResult env.structs (place_type place)
target-result s place h env fits = declared-result env.structs (place_type place) (place-declared env place (h env fits).0)

-- ---- writing

-- a value that is written into a place
pub assignment-becomes : (s : Scope) (at first : ℕ) (place : Location) (right : Code) → converts (type_of_code right) (place_type place) ≡ true → IsTargetIn s place → IsValueIn s (value_of_code right) → Becomes s (plain_value (Some (place_type place))) (plain_assignment at (a_place_code first place) right)
assignment-becomes s at first place right h target stands = given (converted-there (place_type place) (value_of_code right) h)
  where
    made : (value : Expr) → converted_code (place_type place) right ≡ Some value → plain_assignment at (a_place_code first place) right ≡ a_value (place_type place) at (write_form place None (place_type place) value false)
    made value e = rw e refl

    given : IsConverted (place_type place) (value_of_code right) (converted_code (place_type place) right) → Becomes s (plain_value (Some (place_type place))) (plain_assignment at (a_place_code first place) right)
    given c = record {
      to = a_value_code (an_expr (place_type place) at (write_form place None (place_type place) c.to false));
      is = made c.to c.is;
      type = refl;
      agrees = tt;
      fits = λ env fits. (
        target-result s place target env fits,
        (
          (target env fits).0,
          (target env fits).1,
          refl,
          c.stands env (stands env fits) (target-result s place target env fits),
          (refl, c.type, refl),
        ),
      );
    }

compound-made : (production at op : ℕ) (old : Bool) (first : ℕ) (place : Location) (right : Code) (ty : Ty) (value : Expr) → operand_type production (place_type place) (type_of_code right) ≡ Some ty → converted_code ty right ≡ Some value → compound_code production at op old (a_place_code first place) right ≡ a_value (place_type place) at (write_form place (Some op) ty value old)
compound-made production at op old first place right ty value e k = rw e (rw k refl)

-- what an operator that writes needs: it computes numbers in a type that converts back to that of the place
pub record IsCompound (production op : ℕ) (old : Bool) (to from : Ty) : Type 0 where
  pub computes : is_among computing op ≡ true
  pub numbers : nat_le production 31 ≡ false
  pub steps : not old || is_among stepping op ≡ true
  pub back : (ty : Ty) → operand_type production to from ≡ Some ty → converts ty to ≡ true

-- an operator that writes what it computes
pub compound-becomes : (s : Scope) (production at op : ℕ) (old : Bool) (first : ℕ) (place : Location) (right : Code) → IsCompound production op old (place_type place) (type_of_code right) → is_basic (place_type place) ≡ true → is_basic (type_of_code right) ≡ true → IsTargetIn s place → IsValueIn s (value_of_code right) → Becomes s (plain_value (Some (place_type place))) (compound_code production at op old (a_place_code first place) right)
compound-becomes s production at op old first place right is h k target stands = given (operated-there production (place_type place) (type_of_code right) h k)
  where
    made : (ty : Ty) → IsOperated production (place_type place) (type_of_code right) ty (result_of production ty) → IsConverted ty (value_of_code right) (converted_code ty right) → Becomes s (plain_value (Some (place_type place))) (compound_code production at op old (a_place_code first place) right)
    made ty o c = record {
      to = a_value_code (an_expr (place_type place) at (write_form place (Some op) ty c.to old));
      is = compound-made production at op old first place right ty c.to o.computes c.is;
      type = refl;
      agrees = tt;
      fits = λ env fits.
          let short : IsShort ty = o.short (result-short env.structs (place_type place) h (target-result s place target env fits)) (operand-short env (value_of_code right) k (stands env fits)) in (
            target-result s place target env fits,
            (
              (target env fits).0,
              (target env fits).1,
              refl,
              c.stands env (stands env fits) (short-result env.structs ty short),
              (is.computes, c.type, o.numbers is.numbers, o.left, is.back ty o.computes, is.steps),
            ),
          );
    }

    given : (ty : Ty) × IsOperated production (place_type place) (type_of_code right) ty (result_of production ty) → Becomes s (plain_value (Some (place_type place))) (compound_code production at op old (a_place_code first place) right)
    given r = made r.0 r.1 (converted-there r.0 (value_of_code right) r.1.right)

-- ---- steps

step-computes : (terminal : Terminal) → (is_among computing (step_mark terminal) ≡ true) × (is_among stepping (step_mark terminal) ≡ true)
step-computes terminals.MinusMinus = (refl, refl)
step-computes _ = (refl, refl)

step-old : (old : Bool) (op : ℕ) → is_among stepping op ≡ true → not old || is_among stepping op ≡ true
step-old true op e = e
step-old false op e = refl

-- the int 1
abbrev one_at : ℕ → Expr
one_at mark = an_expr (scalar_type IntKind) mark (literal_form 1)

one-stands : (s : Scope) (mark : ℕ) → IsValueIn s (one_at mark)
one-stands s mark env fits = (short-result env.structs (scalar_type IntKind) tt, omega arith)

step-back : (to : Ty) → is_basic to ≡ true → (ty : Ty) → operand_type 38 to (scalar_type IntKind) ≡ Some ty → converts ty to ≡ true
step-back to h ty e = given (operated-there 38 to (scalar_type IntKind) h refl)
  where
    given : (own : Ty) × IsOperated 38 to (scalar_type IntKind) own (result_of 38 own) → converts ty to ≡ true
    given r = subst (λ t. converts t to ≡ true) (same_Some r.0 ty (sym r.1.computes ∙ e)) (r.1.back refl)

-- `++` and `--`
pub step-becomes : (s : Scope) (at mark : ℕ) (old : Bool) (first : ℕ) (place : Location) → is_basic (place_type place) ≡ true → IsTargetIn s place → Becomes s (plain_value (Some (place_type place))) (step_code s at mark old (a_place_code first place))
step-becomes s at mark old first place h target =
    let op = step_mark (terminal_at s.tokens mark) in
    let c : (is_among computing op ≡ true) × (is_among stepping op ≡ true) = step-computes (terminal_at s.tokens mark) in
    compound-becomes s 38 at op old first place (a_value_code (one_at mark))
    (record { computes = c.0; numbers = refl; steps = step-old old op c.1; back = step-back (place_type place) h })
    h refl target (one-stands s mark)
