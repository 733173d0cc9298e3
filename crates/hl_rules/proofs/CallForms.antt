-- Calls of functions become what is known of them.
use Rattle.std.proofs.Common.{◌≡◌, ◌∙◌, refl, sym, ap, subst, arith, ℕ, suc, Bool, true, false, if◌then◌else◌, List, [], ◌∷◌, map, All, Option, None, Some}
use Rattle.std.specs.Prelude.{is_some, option_and_then, option_map, slice_get, IsTrue}
use Rattle.hl_parser.specs.Trees.{Tree, Trees, at_of, more_trees, no_trees}
use Rattle.hl_meaning.specs.declared.program.Copying.{Copying}
use Rattle.hl_meaning.specs.declared.program.Copying.TheVariants.{CopyBoth, CopyIn, CopyOut}
use Rattle.hl_meaning.specs.Types.{Ty, ty_eq}
use Rattle.hl_meaning.specs.Conversions.{conversion_cost, converts}
use Rattle.hl_meaning.specs.Trees.{Arg, Args, Location, a_location, an_expr, call_form, more_args, no_args, place_arg, place_type, value_arg}
use Rattle.hl_meaning.specs.Places as places
use Rattle.hl_meaning.specs.Places.{is_writable_place}
use Rattle.hl_meaning.specs.WellFormed.{ArePassed, IsDeclared, IsPassed, IsPlace, IsResult, callee_params}
use Rattle.hl_overload.specs.Choice.{Param, add_costs, passing_cost, sum_of_costs}
use Rattle.hl_rules.specs.ExpressionRules.{is_unwritable, unwritable_arguments}
use Rattle.hl_rules.specs.Expressions.{function_code, passed_arg, passed_args}
use Rattle.hl_rules.specs.Found.{broken_if}
use Rattle.hl_rules.specs.Nodes.{Code, a_place_code, a_value, a_value_code, converted_code, place_of_code, type_of_code, value_of_code}
use Rattle.hl_rules.specs.Scopes.{FunctionInfo, Scope}
use Rattle.hl_rules.specs.Values.{Candidate, Standing, Value, a_place, function_result, may_be_written, no_place, params_known, plain_value, unclear, value_of, values_of}
use Rattle.hl_rules.proofs.Arguments.{ArgumentsBecome, IsArgument, argument-stands}
use Rattle.hl_rules.proofs.Becoming.{Agrees, Becomes, IsConverted, converted-there, not-true}
use Rattle.hl_rules.proofs.Fitting.{Fits, FitsFunction, IsCode, IsStanding, is_inside, param_for}
use Rattle.hl_rules.proofs.Free.{empty-left, empty-right, not_broken}
use Rattle.hl_rules.proofs.ShortTypes.{declared-result}
use Rattle.hl_rules.proofs.TypeLemmas.{ty_eq-same}
use Rattle.hl_rules.proofs.WriteForms.{standing-written}

-- ---- places

-- a place that may be written
pub record IsWritten (s : Scope) (code : Code) : Type 0 where
  pub place : Location
  pub is : place_of_code code ≡ Some place
  pub type : place_type place ≡ type_of_code code
  pub stands : (env : places.Scope) → Fits env s → IsPlace env place × IsTrue (is_writable_place env place)

-- where it isn't known that a place can't be written, it can
pub written-there : (s : Scope) (standing : Standing) (code : Code) → Agrees standing code → ((env : places.Scope) → Fits env s → IsCode env standing code) → is_unwritable standing ≡ false → IsWritten s code
written-there s (a_place w a letters) (a_place_code at (a_location ty root parts)) h fits e = record {
  place = a_location ty root parts;
  is = refl;
  type = refl;
  stands = λ env f.
      let standing : IsStanding env w a letters ty root parts = fits env f in
      (standing.is, standing-written env w a letters ty root parts standing (not-true (may_be_written (a_place w a letters)) e));
}
written-there s (a_place w a letters) (a_value_code value) h fits e = absurd h
written-there s no_place code h fits e = absurd (cc e)
written-there s unclear code h fits e = absurd h

-- ---- arguments

-- what an argument becomes
record IsPassedAs (s : Scope) (ty : Ty) (copying : Copying) (made : Option Arg) : Type 0 where
  to : Arg
  is : made ≡ Some to
  stands : (env : places.Scope) → Fits env s → IsResult env.structs ty → IsPassed env ty copying to

passed-value : (s : Scope) (ty : Ty) (v : Value) (code : Code) → IsArgument s v code → converts (type_of_code code) ty ≡ true → IsPassedAs s ty CopyIn (passed_arg CopyIn ty code)
passed-value s ty v code a h = given (converted-there ty (value_of_code code) h)
  where
    given : IsConverted ty (value_of_code code) (converted_code ty code) → IsPassedAs s ty CopyIn (passed_arg CopyIn ty code)
    given c = record {
      to = value_arg c.to;
      is = ap (λ o. option_map value_arg o) c.is;
      stands = λ env f r. (c.stands env (argument-stands s v code a env f) r, c.type);
    }

cost-converts : (from to : Ty) (cost : ℕ) → conversion_cost from to ≡ Some cost → converts from to ≡ true
cost-converts from to cost e = ap (λ o. is_some o) e

same-cost : (from to : Ty) (cost : ℕ) → (if ty_eq from to then Some 0 else None) ≡ Some cost → from ≡ to
same-cost from to cost e = on (ty_eq from to) refl e
  where
    on : (same : Bool) → ty_eq from to ≡ same → (if same then Some 0 else None) ≡ Some cost → from ≡ to
    on true k l = ty_eq-same from to k
    on false k l = absurd (cc l)

-- an argument of a parameter, with those behind it, where no rule is broken
record IsFree37 (s : Scope) (standing : Standing) (copying : Copying) (params : List Param) (rest : Trees) : Type 0 where
  writes : (copying ≡ CopyIn → ⊥) → is_unwritable standing ≡ false
  behind : unwritable_arguments s params rest ≡ []

free-first : (s : Scope) (ty : Ty) (copying : Copying) (params : List Param) (first : Tree) (rest : Trees) → unwritable_arguments s (record { ty = ty; copying = copying } ∷ params) (more_trees first rest) ≡ [] → IsFree37 s (value_of s first).standing copying params rest
free-first s ty CopyIn params first rest e = record { writes = λ h. absurd (h refl); behind = e }
free-first s ty CopyOut params first rest e = record {
  writes = λ h. not_broken (is_unwritable (value_of s first).standing) (at_of first) (empty-left (broken_if (is_unwritable (value_of s first).standing) (at_of first)) (unwritable_arguments s params rest) e);
  behind = empty-right (broken_if (is_unwritable (value_of s first).standing) (at_of first)) (unwritable_arguments s params rest) e;
}
free-first s ty CopyBoth params first rest e = record {
  writes = λ h. not_broken (is_unwritable (value_of s first).standing) (at_of first) (empty-left (broken_if (is_unwritable (value_of s first).standing) (at_of first)) (unwritable_arguments s params rest) e);
  behind = empty-right (broken_if (is_unwritable (value_of s first).standing) (at_of first)) (unwritable_arguments s params rest) e;
}

passed-there : (s : Scope) (ty : Ty) (copying : Copying) (v : Value) (code : Code) (cost : ℕ) → IsArgument s v code → passing_cost copying ty (type_of_code code) ≡ Some cost → ((copying ≡ CopyIn → ⊥) → is_unwritable v.standing ≡ false) → IsPassedAs s ty copying (passed_arg copying ty code)
passed-there s ty CopyIn v code cost a e h = passed-value s ty v code a (cost-converts (type_of_code code) ty cost e)
passed-there s ty CopyOut v code cost a e h = given (written-there s v.standing code a.agrees a.fits (h (λ k. cc k)))
  where
    given : IsWritten s code → IsPassedAs s ty CopyOut (passed_arg CopyOut ty code)
    given w = record {
      to = place_arg w.place;
      is = ap (λ o. option_map place_arg o) w.is;
      stands = λ env f r. ((w.stands env f).0, (w.stands env f).1, w.type ∙ same-cost (type_of_code code) ty cost e);
    }
passed-there s ty CopyBoth v code cost a e h = given (written-there s v.standing code a.agrees a.fits (h (λ k. cc k)))
  where
    given : IsWritten s code → IsPassedAs s ty CopyBoth (passed_arg CopyBoth ty code)
    given w = record {
      to = place_arg w.place;
      is = ap (λ o. option_map place_arg o) w.is;
      stands = λ env f r. ((w.stands env f).0, (w.stands env f).1, w.type ∙ same-cost (type_of_code code) ty cost e);
    }

-- what all arguments become
pub record AreAllPassed (s : Scope) (params : List Param) (made : Option Args) : Type 0 where
  pub to : Args
  pub is : made ≡ Some to
  pub stands : (env : places.Scope) → Fits env s → All (λ p. IsDeclared env.structs p.ty) params → ArePassed env (map param_for params) to

costs-parts : (one rest : Option ℕ) (sum : ℕ) → add_costs one rest ≡ Some sum → ((m : ℕ) × (one ≡ Some m)) × ((n : ℕ) × (rest ≡ Some n))
costs-parts (Some m) (Some n) sum e = ((m, refl), (n, refl))
costs-parts (Some m) None sum e = absurd (cc e)
costs-parts None rest sum e = absurd (cc e)

passed-more : (p : Param) (params : List Param) (code : Code) (codes : List Code) (first : Arg) (rest : Args) → passed_arg p.copying p.ty code ≡ Some first → passed_args params codes ≡ Some rest → passed_args (p ∷ params) (code ∷ codes) ≡ Some (more_args first rest)
passed-more p params code codes first rest e h = rw e (rw h refl)

pub all-passed : (s : Scope) (params : List Param) (trees : Trees) (codes : List Code) (sum : ℕ) → ArgumentsBecome s (values_of s trees) codes → sum_of_costs params (map type_of_code codes) ≡ Some sum → unwritable_arguments s params trees ≡ [] → AreAllPassed s params (passed_args params codes)
all-passed s [] no_trees [] sum h e k = record { to = no_args; is = refl; stands = λ env f d. tt }
all-passed s [] no_trees (code ∷ codes) sum h e k = absurd h
all-passed s [] (more_trees first rest) [] sum h e k = absurd h
all-passed s [] (more_trees first rest) (code ∷ codes) sum h e k = absurd (cc e)
all-passed s (p ∷ params) no_trees [] sum h e k = absurd (cc e)
all-passed s (p ∷ params) no_trees (code ∷ codes) sum h e k = absurd h
all-passed s (p ∷ params) (more_trees first rest) [] sum h e k = absurd h
all-passed s (p ∷ params) (more_trees first rest) (code ∷ codes) sum h e k =
    let c : ((m : ℕ) × (passing_cost p.copying p.ty (type_of_code code) ≡ Some m)) × ((n : ℕ) × (sum_of_costs params (map type_of_code codes) ≡ Some n)) = costs-parts (passing_cost p.copying p.ty (type_of_code code)) (sum_of_costs params (map type_of_code codes)) sum e in
    let f : IsFree37 s (value_of s first).standing p.copying params rest = free-first s p.ty p.copying params first rest k in
    given (passed-there s p.ty p.copying (value_of s first) code c.0.0 h.0 c.0.1 f.writes) (all-passed s params rest codes c.1.0 h.1 c.1.1 f.behind)
  where
    given : IsPassedAs s p.ty p.copying (passed_arg p.copying p.ty code) → AreAllPassed s params (passed_args params codes) → AreAllPassed s (p ∷ params) (passed_args (p ∷ params) (code ∷ codes))
    given a b = record {
      to = more_args a.to b.to;
      is = passed-more p params code codes a.to b.to a.is b.is;
      stands = λ env f d. (
        a.stands env f (declared-result env.structs p.ty (d 0 p (omega arith))),
        b.stands env f (λ i q l. d (suc i) q (omega arith)),
      );
    }

-- ---- calls

call-made : (s : Scope) (at : ℕ) (candidate : Candidate) (codes : List Code) (result : Ty) (args : Args) → function_result s candidate.number ≡ Some result → passed_args candidate.params codes ≡ Some args → function_code s at candidate codes ≡ a_value result at (call_form candidate.number args)
call-made s at candidate codes result args e h = rw e (rw h refl)

-- a candidate is a function that is known, and not the one whose body stands around
pub record IsCandidate (s : Scope) (candidate : Candidate) : Type 0 where
  pub f : FunctionInfo
  pub there : slice_get s.functions candidate.number ≡ Some f
  pub params : params_known f.params ≡ Some candidate.params
  pub other : is_inside s.inside candidate.number ≡ false

-- a call of a candidate that fits
pub function-becomes : (s : Scope) (at : ℕ) (candidate : Candidate) (result : Ty) (trees : Trees) (codes : List Code) (sum : ℕ) (c : IsCandidate s candidate) → c.f.result ≡ Some result → ArgumentsBecome s (values_of s trees) codes → sum_of_costs candidate.params (map type_of_code codes) ≡ Some sum → unwritable_arguments s candidate.params trees ≡ [] → Becomes s (plain_value (function_result s candidate.number)) (function_code s at candidate codes)
function-becomes s at candidate result trees codes sum c r h e k = given (all-passed s candidate.params trees codes sum h e k)
  where
    results : function_result s candidate.number ≡ Some result
    results = ap (λ o. option_and_then (λ f. f.result) o) c.there ∙ r

    given : AreAllPassed s candidate.params (passed_args candidate.params codes) → Becomes s (plain_value (function_result s candidate.number)) (function_code s at candidate codes)
    given a = record {
      to = a_value_code (an_expr result at (call_form candidate.number a.to));
      is = call-made s at candidate codes result a.to results a.is;
      type = results;
      agrees = tt;
      fits = λ env f.
          let own : FitsFunction env c.f (slice_get env.functions candidate.number) = f.functions candidate.number c.f c.there c.other in
          let params : (callee_params (slice_get env.functions candidate.number) ≡ map param_for candidate.params) × All (λ p. IsDeclared env.structs p.ty) candidate.params = own.params candidate.params c.params in (
            (own.result result r).1,
            ((own.result result r).0, subst (λ ps. ArePassed env ps a.to) (sym params.0) (a.stands env f params.1)),
          );
    }
