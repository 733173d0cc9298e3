-- Arguments become what is known of them, one by one.
use Rattle.std.proofs.Common.{◌≡◌, ◌∙◌, refl, sym, ap, true, false, List, [], ◌∷◌, map, Option, Some}
use Rattle.std.specs.Prelude.{option_and_then, option_map}
use Rattle.hl_parser.specs.Trees.{Tree, Trees, more_trees}
use Rattle.hl_meaning.specs.Types.{Ty, is_basic, is_void}
use Rattle.hl_meaning.specs.Conversions.{converts}
use Rattle.hl_meaning.specs.Trees.{Expr, Exprs, more_exprs, no_exprs, types_of}
use Rattle.hl_meaning.specs.Places as places
use Rattle.hl_meaning.specs.WellFormed.{AreExprs, IsResult}
use Rattle.hl_rules.specs.Expressions.{code_of, codes_of}
use Rattle.hl_rules.specs.Nodes.{Code, converted_code, converted_each, type_of_code, value_of_code}
use Rattle.hl_rules.specs.Scopes.{Scope}
use Rattle.hl_rules.specs.Values.{Value, argument_types, is_no_operand, is_no_operand_type, valued}
use Rattle.hl_rules.proofs.Becoming.{Agrees, Becomes, IsConverted, IsValueIn, code-stands, converted-there, not-true, valued-there, with_two-there}
use Rattle.hl_rules.proofs.Fitting.{Fits, IsCode}

-- what is known of an argument, and what it becomes; it is a value
pub record IsArgument (s : Scope) (v : Value) (code : Code) : Type 0 where
  pub type : v.ty ≡ Some (type_of_code code)
  pub used : is_void (type_of_code code) ≡ false
  pub agrees : Agrees v.standing code
  pub fits : (env : places.Scope) → Fits env s → IsCode env v.standing code

-- each one
abbrev pub ArgumentsBecome : Scope → List Value → List Code → Type 0
ArgumentsBecome s [] [] = Unit {0}
ArgumentsBecome s (v ∷ values) (code ∷ codes) = IsArgument s v code × ArgumentsBecome s values codes
ArgumentsBecome s _ _ = ⊥

pub argument-stands : (s : Scope) (v : Value) (code : Code) → IsArgument s v code → IsValueIn s (value_of_code code)
argument-stands s v code a env fits = code-stands env v.standing code (a.fits env fits)

pub argument-valued : (s : Scope) (v : Value) (code : Code) → IsArgument s v code → valued v.ty ≡ Some (type_of_code code)
argument-valued s v code a = ap (λ o. valued o) a.type ∙ valued-there (type_of_code code) a.used

-- a scalar or a vector, where it is no wrong operand
pub argument-basic : (s : Scope) (v : Value) (code : Code) → IsArgument s v code → is_no_operand v.ty ≡ false → is_basic (type_of_code code) ≡ true
argument-basic s v code a e =
    not-true (is_basic (type_of_code code)) (sym (ap (λ o. is_no_operand_type o) (argument-valued s v code a)) ∙ e)

-- the types of arguments
pub arguments-typed : (s : Scope) (values : List Value) (codes : List Code) → ArgumentsBecome s values codes → argument_types values ≡ Some (map type_of_code codes)
arguments-typed s [] [] h = refl
arguments-typed s [] (code ∷ codes) h = absurd h
arguments-typed s (v ∷ values) [] h = absurd h
arguments-typed s (v ∷ values) (code ∷ codes) h =
    ap (λ o. option_and_then (λ ty. option_map (λ types. ty ∷ types) (argument_types values)) o) (argument-valued s v code h.0)
    ∙ ap (λ o. option_map (λ types. type_of_code code ∷ types) o) (arguments-typed s values codes h.1)

-- ---- conversions

-- each converts to its own type
abbrev pub AllConvert : List Ty → List Ty → Type 0
AllConvert [] [] = Unit {0}
AllConvert (to ∷ tos) (from ∷ froms) = (converts from to ≡ true) × AllConvert tos froms
AllConvert _ _ = ⊥

-- each is a type of a value
abbrev pub AllResults : places.Scope → List Ty → Type 0
AllResults env [] = Unit {0}
AllResults env (ty ∷ types) = IsResult env.structs ty × AllResults env types

-- what all of them become
pub record AreConverted (s : Scope) (takes : List Ty) (made : Option Exprs) : Type 0 where
  pub to : Exprs
  pub is : made ≡ Some to
  pub types : types_of to ≡ takes
  pub stands : (env : places.Scope) → Fits env s → AllResults env takes → AreExprs env to

converted-more : (takes : List Ty) (ty : Ty) (codes : List Code) (code : Code) (first : Expr) (rest : Exprs) → converted_code ty code ≡ Some first → converted_each takes codes ≡ Some rest → converted_each (ty ∷ takes) (code ∷ codes) ≡ Some (more_exprs first rest)
converted-more takes ty codes code first rest e h = rw e (rw h refl)

pub converted-all : (s : Scope) (takes : List Ty) (values : List Value) (codes : List Code) → ArgumentsBecome s values codes → AllConvert takes (map type_of_code codes) → AreConverted s takes (converted_each takes codes)
converted-all s [] [] [] h k = record { to = no_exprs; is = refl; types = refl; stands = λ env f r. tt }
converted-all s [] [] (code ∷ codes) h k = absurd h
converted-all s [] (v ∷ values) [] h k = absurd h
converted-all s [] (v ∷ values) (code ∷ codes) h k = absurd k
converted-all s (ty ∷ takes) [] [] h k = absurd k
converted-all s (ty ∷ takes) [] (code ∷ codes) h k = absurd h
converted-all s (ty ∷ takes) (v ∷ values) [] h k = absurd h
converted-all s (ty ∷ takes) (v ∷ values) (code ∷ codes) h k =
    given (converted-there ty (value_of_code code) k.0) (converted-all s takes values codes h.1 k.1)
  where
    given : IsConverted ty (value_of_code code) (converted_code ty code) → AreConverted s takes (converted_each takes codes) → AreConverted s (ty ∷ takes) (converted_each (ty ∷ takes) (code ∷ codes))
    given c d = record {
      to = more_exprs c.to d.to;
      is = converted-more takes ty codes code c.to d.to c.is d.is;
      types = ap (λ t. t ∷ types_of d.to) c.type ∙ ap (λ ts. ty ∷ ts) d.types;
      stands = λ env f r. (c.stands env (argument-stands s v code h.0 env f) r.0, d.stands env f r.1);
    }

-- ---- codes

pub codes-more : (s : Scope) (first : Tree) (rest : Trees) (code : Code) (codes : List Code) → code_of s first ≡ Some code → codes_of s rest ≡ Some codes → codes_of s (more_trees first rest) ≡ Some (code ∷ codes)
codes-more s first rest code codes e h = with_two-there (λ c cs. Some (c ∷ cs)) _ _ code codes e h

-- what an expression becomes that is used as an argument
pub becomes-argument : (s : Scope) (v : Value) (code : Option Code) (b : Becomes s v code) → is_void (type_of_code b.to) ≡ false → IsArgument s v b.to
becomes-argument s v code b e = record { type = b.type; used = e; agrees = b.agrees; fits = b.fits }
