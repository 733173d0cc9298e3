-- Steps into something: members, swizzles and indexes.
use Rattle.std.proofs.Common.{◌≡◌, ◌∙◌, refl, sym, ap, subst, ℕ, Bool, true, false, not, List, length, Some}
use Rattle.std.specs.Prelude.{option_and_then}
use Rattle.hl_meaning.specs.declared.ty.Kind.{Kind}
use Rattle.hl_meaning.specs.Types.{Ty, vector_type}
use Rattle.hl_meaning.specs.Trees.{Expr, PathPart, PathParts, Root, a_location, an_expr, more_parts, no_parts, pick_form, type_of}
use Rattle.hl_meaning.specs.Places as places
use Rattle.hl_meaning.specs.Places.{part_type, path_type, reached_type, root_type}
use Rattle.hl_meaning.specs.Programs.{StructDef}
use Rattle.hl_meaning.specs.WellFormed.{IsDeclared, IsExpr, IsPart}
use Rattle.hl_rules.specs.Nodes.{Code, a_place_code, a_value_code, and_part, type_of_code, with_part}
use Rattle.hl_rules.specs.Scopes.{Scope}
use Rattle.hl_rules.specs.Values.{Standing, a_place, is_longer, no_place, unclear, value}
use Rattle.hl_rules.proofs.Becoming.{Agrees, Becomes}
use Rattle.hl_rules.proofs.Fitting.{Fits, IsCode, IsStanding, last_letters}
use Rattle.hl_rules.proofs.Paths.{is_picking, path-single}
use Rattle.hl_rules.proofs.PathSteps.{and-fixed, and-more, and-parts, is_fixed, longer-vector, path-step}
use Rattle.hl_rules.proofs.ShortTypes.{declared-result}
use Rattle.hl_rules.proofs.WriteForms.{place-path}

-- ---- types

-- what a step leads to: something of the type that is stated
pub record IsStepped (ty : Ty) (value : Expr) (made : Code) : Type 0 where
  pub to : Expr
  pub is : made ≡ a_value_code to
  pub type : type_of to ≡ ty

pub value-part : (at : ℕ) (part : PathPart) (ty : Ty) (e : Expr) → IsStepped ty e (with_part at part ty (a_value_code e))
value-part at part ty (an_expr from first (pick_form value parts)) = record { to = _; is = refl; type = refl }
value-part at part ty (an_expr from first form) = record { to = _; is = refl; type = refl }

pub part-type : (at : ℕ) (part : PathPart) (ty : Ty) (code : Code) → type_of_code (with_part at part ty code) ≡ ty
part-type at part ty (a_place_code first (a_location from root parts)) = refl
part-type at part ty (a_value_code e) = ap (λ c. type_of_code c) (value-part at part ty e).is ∙ (value-part at part ty e).type

-- whether both are places, or both are none
abbrev pub IsAlike : Standing → Standing → Type 0
IsAlike (a_place w a letters) (a_place v b others) = Unit {0}
IsAlike no_place no_place = Unit {0}
IsAlike _ _ = ⊥

pub part-agrees : (at : ℕ) (part : PathPart) (ty : Ty) (before after : Standing) (code : Code) → Agrees before code → IsAlike before after → Agrees after (with_part at part ty code)
part-agrees at part ty (a_place w a letters) (a_place v b others) (a_place_code first (a_location from root parts)) h k = tt
part-agrees at part ty no_place no_place (a_value_code e) h k = subst (λ c. Agrees no_place c) (sym (value-part at part ty e).is) tt
part-agrees at part ty (a_place w a letters) (a_place v b others) (a_value_code e) h k = absurd h
part-agrees at part ty no_place no_place (a_place_code first place) h k = absurd h
part-agrees at part ty (a_place w a letters) no_place code h k = absurd k
part-agrees at part ty (a_place w a letters) unclear code h k = absurd k
part-agrees at part ty no_place (a_place v b others) code h k = absurd k
part-agrees at part ty no_place unclear code h k = absurd k
part-agrees at part ty unclear after code h k = absurd k

-- ---- well-formed steps

-- a step is well formed in an environment, behind something of a type
pub record IsStep (env : places.Scope) (part : PathPart) (from ty : Ty) : Type 0 where
  pub part_is : IsPart env part
  pub leads : part_type env.structs from part ≡ Some ty
  pub declared : IsDeclared env.structs ty

abbrev pub is_vector : Ty → Bool
is_vector (vector_type kind size) = true
is_vector _ = false

-- What is known behind a step of what is known before it. An index of a value is a constant number, and behind several
-- letters, which are a vector, a step picks among them.
abbrev pub IsFollowed : PathPart → (from : Ty) → Standing → Standing → Type 0
IsFollowed part from (a_place w a letters) (a_place v b others) =
    (w ≡ v) × (a ≡ b) × ((parts : PathParts) → letters ≡ last_letters parts → others ≡ last_letters (and_part parts part)) × (is_longer letters ≡ true → is_vector from ≡ true → is_picking part ≡ true)
IsFollowed part from no_place no_place = (is_fixed part ≡ true) × (is_vector from ≡ true → is_picking part ≡ true)
IsFollowed part from _ _ = ⊥

vector-same : (from : Ty) (kind : Kind) (size : ℕ) → from ≡ vector_type kind size → is_vector from ≡ true
vector-same from kind size e = ap (λ t. is_vector t) e

-- where several letters stand at the end
picks : (structs : List StructDef) (start from : Ty) (parts : PathParts) (part : PathPart) → path_type structs start parts ≡ Some from → (is_vector from ≡ true → is_picking part ≡ true) → is_longer (last_letters parts) ≡ true → is_picking part ≡ true
picks structs start from parts part e pick l =
    let v : (kind : Kind) × (from ≡ vector_type kind (length (last_letters parts))) = longer-vector structs start from parts e l in
    pick (vector-same from v.0 (length (last_letters parts)) v.1)

reached-step : (env : places.Scope) (from ty : Ty) (root : Root) (parts : PathParts) (part : PathPart) → (is_longer (last_letters parts) ≡ true → is_vector from ≡ true → is_picking part ≡ true) → reached_type env root parts ≡ Some from → part_type env.structs from part ≡ Some ty → reached_type env root (and_part parts part) ≡ Some ty
reached-step env from ty root parts part pick e h = given (place-path env from root parts e)
  where
    given : (start : Ty) × (root_type env root ≡ Some start) × (path_type env.structs start parts ≡ Some from) → reached_type env root (and_part parts part) ≡ Some ty
    given p =
        ap (λ o. option_and_then (λ t. path_type env.structs t (and_part parts part)) o) p.1
        ∙ path-step env.structs p.0 from ty parts part (λ l. picks env.structs p.0 from parts part p.2 (pick l) l) p.2 h

place-fits : (env : places.Scope) (at : ℕ) (part : PathPart) (from ty : Ty) (w a v b : Bool) (letters others : List ℕ) (root : Root) (parts : PathParts) → IsStep env part from ty → IsFollowed part from (a_place w a letters) (a_place v b others) → IsStanding env w a letters from root parts → IsStanding env v b others ty root (and_part parts part)
place-fits env at part from ty w a v b letters others root parts step follows h = record {
  is = (
    step.declared,
    h.is.1,
    and-parts env parts part h.is.2 step.part_is,
    reached-step env from ty root parts part (λ l. follows.3 (ap (λ x. is_longer x) h.ends ∙ l)) h.is.3 step.leads,
  );
  writes = λ e. h.writes (follows.0 ∙ e);
  shares = λ e. h.shares (follows.1 ∙ e);
  ends = follows.2 parts h.ends;
}

picked-fits : (env : places.Scope) (at : ℕ) (part : PathPart) (ty : Ty) (e : Expr) → IsStep env part (type_of e) ty → is_fixed part ≡ true → IsExpr env e → IsExpr env (an_expr ty at (pick_form e (more_parts part no_parts)))
picked-fits env at part ty e step fixed h = (
  declared-result env.structs ty step.declared,
  (h, (step.part_is, tt), and-fixed no_parts part refl fixed, refl, path-single env.structs (type_of e) part ∙ step.leads),
)

again-fits : (env : places.Scope) (at first : ℕ) (part : PathPart) (from ty : Ty) (e : Expr) (parts : PathParts) → IsStep env part from ty → is_fixed part ≡ true → (is_vector from ≡ true → is_picking part ≡ true) → IsExpr env (an_expr from first (pick_form e parts)) → IsExpr env (an_expr ty at (pick_form e (and_part parts part)))
again-fits env at first part from ty e parts step fixed pick h = (
  declared-result env.structs ty step.declared,
  (
    h.1.0,
    and-parts env parts part h.1.1 step.part_is,
    and-fixed parts part h.1.2 fixed,
    ap not (and-more parts part),
    path-step env.structs (type_of e) from ty parts part (picks env.structs (type_of e) from parts part h.1.4 pick) h.1.4 step.leads,
  ),
)

value-fits : (env : places.Scope) (at : ℕ) (part : PathPart) (ty : Ty) (e : Expr) → IsStep env part (type_of e) ty → is_fixed part ≡ true → (is_vector (type_of e) ≡ true → is_picking part ≡ true) → IsExpr env e → IsCode env no_place (with_part at part ty (a_value_code e))
value-fits env at part ty (an_expr from first (pick_form value parts)) step fixed pick h = again-fits env at first part from ty value parts step fixed pick h
value-fits env at part ty (an_expr from first form) step fixed pick h = picked-fits env at part ty (an_expr from first form) step fixed h

part-fits : (env : places.Scope) (at : ℕ) (part : PathPart) (ty : Ty) (before after : Standing) (code : Code) → IsStep env part (type_of_code code) ty → IsFollowed part (type_of_code code) before after → IsCode env before code → IsCode env after (with_part at part ty code)
part-fits env at part ty (a_place w a letters) (a_place v b others) (a_place_code first (a_location from root parts)) step follows h =
    place-fits env at part from ty w a v b letters others root parts step follows h
part-fits env at part ty no_place no_place (a_value_code e) step follows h = value-fits env at part ty e step follows.0 follows.1 h
part-fits env at part ty (a_place w a letters) (a_place v b others) (a_value_code e) step follows h = absurd h
part-fits env at part ty no_place no_place (a_place_code first place) step follows h = absurd h
part-fits env at part ty (a_place w a letters) no_place code step follows h = absurd follows
part-fits env at part ty (a_place w a letters) unclear code step follows h = absurd follows
part-fits env at part ty no_place (a_place v b others) code step follows h = absurd follows
part-fits env at part ty no_place unclear code step follows h = absurd follows
part-fits env at part ty unclear after code step follows h = absurd follows

followed-alike : (part : PathPart) (from : Ty) (before after : Standing) → IsFollowed part from before after → IsAlike before after
followed-alike part from (a_place w a letters) (a_place v b others) h = tt
followed-alike part from no_place no_place h = tt
followed-alike part from (a_place w a letters) no_place h = absurd h
followed-alike part from (a_place w a letters) unclear h = absurd h
followed-alike part from no_place (a_place v b others) h = absurd h
followed-alike part from no_place unclear h = absurd h
followed-alike part from unclear after h = absurd h

-- a step into something
pub part-becomes : (s : Scope) (at : ℕ) (part : PathPart) (ty : Ty) (before after : Standing) (code : Code) → Agrees before code → IsFollowed part (type_of_code code) before after → ((env : places.Scope) → Fits env s → IsStep env part (type_of_code code) ty) → ((env : places.Scope) → Fits env s → IsCode env before code) → Becomes s (value (Some ty) after) (Some (with_part at part ty code))
part-becomes s at part ty before after code h follows step fits = record {
  to = with_part at part ty code;
  is = refl;
  type = ap Some (sym (part-type at part ty code));
  agrees = part-agrees at part ty before after code h (followed-alike part (type_of_code code) before after follows);
  fits = λ env f. part-fits env at part ty before after code (step env f) follows (fits env f);
}
