-- Calls of intrinsic functions become what is known of them.
use Rattle.std.proofs.Common.{◌≡◌, refl, sym, subst, ℕ, false, List, [], ◌∷◌, map, Option, None, Some}
use Rattle.std.specs.Prelude.{is_none, option_and_then, option_map}
use Rattle.hl_meaning.specs.declared.intrinsic.Signature.{Signature}
use Rattle.hl_meaning.specs.Types.{Ty}
use Rattle.hl_meaning.specs.Intrinsics.{HasSignature, HasSignatureOf, signature_of}
use Rattle.hl_meaning.specs.Places as places
use Rattle.hl_meaning.specs.Trees.{Exprs, an_expr, intrinsic_form, types_of}
use Rattle.hl_meaning.specs.WellFormed.{IsResult}
use Rattle.hl_rules.specs.Expressions.{code_by_form}
use Rattle.hl_rules.specs.Intrinsics.{Passing, passed}
use Rattle.hl_rules.specs.Nodes.{Code, a_value, a_value_code, converted_each, type_of_code, value_of_code}
use Rattle.hl_rules.specs.Scopes.{Scope}
use Rattle.hl_rules.specs.Values.{Value, plain_value, result_by_form}
use Rattle.hl_rules.proofs.Arguments.{AllResults, AreConverted, ArgumentsBecome, argument-stands, converted-all}
use Rattle.hl_rules.proofs.Becoming.{Becomes, expr-result}
use Rattle.hl_rules.proofs.Fitting.{Fits}
use Rattle.hl_rules.proofs.Signatures.{IsPassing, passed-says}

-- the types of arguments are ones of values
pub arguments-results : (s : Scope) (values : List Value) (codes : List Code) → ArgumentsBecome s values codes → (env : places.Scope) → Fits env s → AllResults env (map type_of_code codes)
arguments-results s [] [] h env f = tt
arguments-results s [] (code ∷ codes) h env f = absurd h
arguments-results s (v ∷ values) [] h env f = absurd h
arguments-results s (v ∷ values) (code ∷ codes) h env f =
    (expr-result env (value_of_code code) (argument-stands s v code h.0 env f), arguments-results s values codes h.1 env f)

intrinsic-made : (at number : ℕ) (codes : List Code) (signature : Signature) (p : Passing) (args : Exprs) → signature_of number ≡ Some signature → passed signature (map type_of_code codes) ≡ Some p → converted_each p.takes codes ≡ Some args → code_by_form None at number codes ≡ a_value p.gives at (intrinsic_form number args)
intrinsic-made at number codes signature p args e h k = rw e (rw h (rw k refl))

result-made : (number : ℕ) (values : List Value) (types : List Ty) (signature : Signature) (p : Passing) → signature_of number ≡ Some signature → passed signature types ≡ Some p → result_by_form None number values types ≡ Some p.gives
result-made number values types signature p e h = rw e (rw h refl)

-- an intrinsic function that is no interlocked operation
pub intrinsic-becomes : (s : Scope) (at number : ℕ) (values : List Value) (codes : List Code) → ArgumentsBecome s values codes → is_none (result_by_form None number values (map type_of_code codes)) ≡ false → Becomes s (plain_value (result_by_form None number values (map type_of_code codes))) (code_by_form None at number codes)
intrinsic-becomes s at number values codes h e = on (signature_of number) refl (passed-of (signature_of number)) refl e
  where
    passed-of : Option Signature → Option Passing
    passed-of o = option_and_then (λ signature. passed signature (map type_of_code codes)) o

    made : (signature : Signature) (p : Passing) → signature_of number ≡ Some signature → passed signature (map type_of_code codes) ≡ Some p → IsPassing signature (map type_of_code codes) p → AreConverted s p.takes (converted_each p.takes codes) → Becomes s (plain_value (result_by_form None number values (map type_of_code codes))) (code_by_form None at number codes)
    made signature p k l is c = record {
      to = a_value_code (an_expr p.gives at (intrinsic_form number c.to));
      is = intrinsic-made at number codes signature p c.to k l c.is;
      type = result-made number values (map type_of_code codes) signature p k l;
      agrees = tt;
      fits = λ env f.
          let r : AllResults env p.takes × IsResult env.structs p.gives = is.results env (arguments-results s values codes h env f) in (
            r.1,
            (
              c.stands env f r.0,
              subst (λ o. HasSignatureOf o (types_of c.to) p.gives) (sym k) (subst (λ ts. HasSignature signature ts p.gives) (sym c.types) is.has),
            ),
          );
    }

    given : (signature : Signature) (p : Passing) → signature_of number ≡ Some signature → passed signature (map type_of_code codes) ≡ Some p → IsPassing signature (map type_of_code codes) p → Becomes s (plain_value (result_by_form None number values (map type_of_code codes))) (code_by_form None at number codes)
    given signature p k l is = made signature p k l is (converted-all s p.takes values codes h is.converting)

    on : (signature : Option Signature) → signature_of number ≡ signature → (p : Option Passing) → option_and_then (λ x. passed x (map type_of_code codes)) signature ≡ p → is_none (option_map (λ x. x.gives) p) ≡ false → Becomes s (plain_value (result_by_form None number values (map type_of_code codes))) (code_by_form None at number codes)
    on None k p l m = absurd (cc (l, m))
    on (Some signature) k None l m = absurd (cc m)
    on (Some signature) k (Some p) l m = given signature p k l (passed-says signature (map type_of_code codes) p l)
