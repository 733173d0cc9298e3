-- The functions of a program, one behind another: each gives words of its result's type.
use Rattle.std.proofs.Common.{◌≡◌, ◌∙◌, refl, sym, ap, subst, ℕ, zero, suc, Bool, true, false, List, [], ◌∷◌, ◌++◌, length, Option, None, Some, slice_get}
use Rattle.std.specs.Prelude.{◌||◌, IsTrue, slice_index_or, take}
use Rattle.std.proofs.lemmas.List.{append_assoc, append-nil}
use Rattle.std.proofs.lemmas.Bool.{true≢false}
use Rattle.std.proofs.Math.Seq.{take-append_seam}
use Rattle.std.proofs.lemmas.Option.{none-some, same_Some}
use Rattle.lane_core.specs.Lane.{Exchange, Lane}
use Rattle.hl_meaning.specs.Types.{Ty, array_type, is_void, scalar_type, struct_type, vector_type, void_type}
use Rattle.hl_meaning.specs.Trees.{Expr}
use Rattle.hl_meaning.specs.Places.{variable_type}
use Rattle.hl_meaning.specs.Programs.{FunctionDef, Program, StructDef, Variable}
use Rattle.hl_meaning.specs.WellFormed.{IsDeclared, IsExpr, IsFunction, IsWellFormed, callee_params, one_returns}
use Rattle.hl_meaning.proofs.LayoutForms.{get-next}
use Rattle.hl_source.specs.State.{Callee, Progress, State, after, ends_at, goes_with}
use Rattle.hl_source.specs.Statements.{Leaving, at_end, by_break, by_continue, by_return, does_all}
use Rattle.hl_source.specs.Expressions.{no_callee}
use Rattle.hl_source.specs.SourceLane.{callee_of, callees_after, context_of, first_state, returned_value}
use Rattle.typed_laws.specs.Fitting.{Fits, Yields}
use Rattle.typed_laws.specs.Laws.{LeavesAs}
use Rattle.typed_laws.proofs.Induction.{Every, every_from_all, every_map}
use Rattle.typed_laws.proofs.Typed.{IsSome, ParamsSome, never, params_some, some_declared}
use Rattle.typed_laws.proofs.IntrinsicFits.{nothing_fits}
use Rattle.typed_laws.proofs.Sound.{CalleesFit, HasValue, sound}
use Rattle.typed_laws.proofs.Leaving.{all_leaves}

-- what holds of the types of variables
pub every_type : (P : Ty → Type 0) (vs : List Variable) → Every (λ v. P v.ty) vs → (v : ℕ) (ty : Ty) → variable_type vs v ≡ Some ty → P ty
every_type P [] h v ty e = absurd (none-some ty e)
every_type P (x ∷ vs) h zero ty e = subst P (same_Some x.ty ty e) h.0
every_type P (x ∷ vs) h (suc v) ty e = every_type P vs h.1 v ty e

-- the variables of a function have types
pub variables_some : (p : Program) (number : ℕ) (d : FunctionDef) → IsFunction p number d → (v : ℕ) (ty : Ty) → variable_type d.variables v ≡ Some ty → IsSome ty
variables_some p number d is v ty typed =
    every_type IsSome d.variables (every_map (λ x. IsDeclared p.structs x.ty) (λ x. IsSome x.ty) (λ x h. some_declared p.structs x.ty h) d.variables (every_from_all (λ x. IsDeclared p.structs x.ty) d.variables is.variables)) v ty typed

pub void_fits : (structs : List StructDef) (ty : Ty) → is_void ty ≡ true → Fits structs ty []
void_fits structs void_type e = nothing_fits structs
void_fits structs (scalar_type kind) e = absurd (true≢false (sym e))
void_fits structs (vector_type kind size) e = absurd (true≢false (sym e))
void_fits structs (array_type element count) e = absurd (true≢false (sym e))
void_fits structs (struct_type number) e = absurd (true≢false (sym e))

-- what is found among the first of a list is found in it
pub get_taken : {A : Type 0} (count : ℕ) (xs : List A) (k : ℕ) (x : A) → slice_get (take count xs) k ≡ Some x → slice_get xs k ≡ Some x
get_taken zero xs k x e = absurd (none-some x e)
get_taken (suc count) [] k x e = absurd (none-some x e)
get_taken (suc count) (y ∷ xs) zero x e = e
get_taken (suc count) (y ∷ xs) (suc k) x e = get_taken count xs k x e

-- a function that gives words of its result's type, whatever its parameters start with
abbrev pub Giving : List StructDef → FunctionDef → Callee → Type 0
Giving structs d callee = (parameters : List (List ℕ)) (x : Exchange) → Yields (Fits structs d.result) (callee parameters x)

-- each of some functions does
abbrev pub AllGiving : List StructDef → List FunctionDef → List Callee → Type 0
AllGiving structs [] [] = Unit {0}
AllGiving structs (d ∷ ds) (callee ∷ callees) = Giving structs d callee × AllGiving structs ds callees
AllGiving structs _ _ = ⊥

pub giving_at : (structs : List StructDef) (ds : List FunctionDef) (callees : List Callee) → AllGiving structs ds callees → (function : ℕ) (d : FunctionDef) → slice_get ds function ≡ Some d →
    Giving structs d (slice_index_or callees function no_callee)
giving_at structs [] [] all function d e = absurd (none-some d e)
giving_at structs [] (callee ∷ callees) all function d e = absurd all
giving_at structs (d' ∷ ds) [] all function d e = absurd all
giving_at structs (d' ∷ ds) (callee ∷ callees) all zero d e = subst (λ f. Giving structs f callee) (same_Some d' d e) all.0
giving_at structs (d' ∷ ds) (callee ∷ callees) all (suc function) d e = giving_at structs ds callees all.1 function d e

giving_more : (structs : List StructDef) (ds : List FunctionDef) (callees : List Callee) (d : FunctionDef) (callee : Callee) → AllGiving structs ds callees → Giving structs d callee → AllGiving structs (ds ++ d ∷ []) (callees ++ callee ∷ [])
giving_more structs [] [] d callee all one = (one, tt)
giving_more structs [] (callee' ∷ callees) d callee all one = absurd all
giving_more structs (d' ∷ ds) [] d callee all one = absurd all
giving_more structs (d' ∷ ds) (callee' ∷ callees) d callee all one = (all.0, giving_more structs ds callees d callee all.1 one)

pub giving_length : (structs : List StructDef) (ds : List FunctionDef) (callees : List Callee) → AllGiving structs ds callees → length callees ≡ length ds
giving_length structs [] [] all = refl
giving_length structs [] (callee ∷ callees) all = absurd all
giving_length structs (d ∷ ds) [] all = absurd all
giving_length structs (d ∷ ds) (callee ∷ callees) all = ap suc (giving_length structs ds callees all.1)

-- the end without a `return` is for functions without a result
pub end_void : (d : FunctionDef) → IsTrue (is_void d.result || one_returns d.body) → one_returns d.body ≡ false → is_void d.result ≡ true
end_void d returns none = by_result (is_void d.result) (subst (λ b. IsTrue (is_void d.result || b)) none returns)
  where
    by_result : (b : Bool) → IsTrue (b || false) → b ≡ true
    by_result true h = refl
    by_result false h = never h

-- a function behind those before it
module _ (p : Program) (well : IsWellFormed p) (lane : Lane) (n : ℕ) (earlier : List Callee) (d : FunctionDef) (callees : CalleesFit (context_of p lane earlier d)) where
  -- the parameters of the functions before it have values
  pub params_there : (function : ℕ) → ParamsSome (callee_params (slice_get (take (length earlier) p.functions) function))
  params_there function = by_function (slice_get (take (length earlier) p.functions) function) refl
    where
      by_function : (o : Option FunctionDef) → slice_get (take (length earlier) p.functions) function ≡ o → ParamsSome (callee_params o)
      by_function None e = tt
      by_function (Some g) e = params_some g.variables g.parameters (variables_some p function g (well.functions function g (get_taken (length earlier) p.functions function g e)))

  -- the values of its expressions
  pub sound_in : (e : Expr) → IsExpr (context_of p lane earlier d).scope e → HasValue (context_of p lane earlier d) e
  sound_in e h = sound (context_of p lane earlier d) well.structs callees params_there e h

  -- how its body is left
  pub leaves_in : IsFunction p (length earlier) d → (s : State) → Yields (LeavesAs p.structs d.result false (one_returns d.body)) (does_all (context_of p lane earlier d) n d.body s)
  leaves_in is s = all_leaves (context_of p lane earlier d) n sound_in d.body false is.body s

  -- what it gives
  pub giving_here : IsFunction p (length earlier) d → Giving p.structs d (callee_of (context_of p lane earlier d) n d)
  giving_here is parameters x = by_leaving (does_all (context_of p lane earlier d) n d.body (first_state (context_of p lane earlier d) d parameters x)) (leaves_in is (first_state (context_of p lane earlier d) d parameters x))
    where
      by_leaving : (q : Progress Leaving) → Yields (LeavesAs p.structs d.result false (one_returns d.body)) q → Yields (Fits p.structs d.result) (after q (λ leaving s. goes_with (returned_value leaving) s))
      by_leaving (ends_at run) l = tt
      by_leaving (goes_with at_end s) l = void_fits p.structs d.result (end_void d is.returns l)
      by_leaving (goes_with by_break s) l = never l
      by_leaving (goes_with by_continue s) l = never l
      by_leaving (goes_with (by_return value) s) l = l

-- The functions that may be called in one are those before it.
pub callees_giving : (p : Program) (lane : Lane) (ds rest : List FunctionDef) (earlier : List Callee) (d : FunctionDef) → AllGiving p.structs ds earlier → p.functions ≡ ds ++ rest → CalleesFit (context_of p lane earlier d)
callees_giving p lane ds rest earlier d all whole function e there = giving_at p.structs ds earlier all function e (ap (λ l. slice_get l function) (sym before_is) ∙ there)
  where
    before_is : take (length earlier) p.functions ≡ ds
    before_is = ap (take (length earlier)) whole ∙ (ap (λ m. take m (ds ++ rest)) (giving_length p.structs ds earlier all) ∙ take-append_seam ds rest)

-- Some functions behind those that are shown: all give words of their results' types.
pub all_giving : (p : Program) → IsWellFormed p → (lane : Lane) (n : ℕ) (ds : List FunctionDef) (earlier : List Callee) (more rest : List FunctionDef) → AllGiving p.structs ds earlier → p.functions ≡ ds ++ (more ++ rest) →
    AllGiving p.structs (ds ++ more) (callees_after p lane n earlier more)
all_giving p well lane n ds earlier [] rest all whole = subst (λ l. AllGiving p.structs l earlier) (sym (append-nil ds)) all
all_giving p well lane n ds earlier (d ∷ more) rest all whole =
    subst (λ l. AllGiving p.structs l (callees_after p lane n earlier (d ∷ more))) (append_assoc ds (d ∷ []) more)
    (all_giving p well lane n (ds ++ d ∷ []) (earlier ++ callee_of (context_of p lane earlier d) n d ∷ []) more rest
    (giving_more p.structs ds earlier d (callee_of (context_of p lane earlier d) n d) all
    (giving_here p well lane n earlier d (callees_giving p lane ds (d ∷ (more ++ rest)) earlier d all whole) is))
    (whole ∙ sym (append_assoc ds (d ∷ []) (more ++ rest))))
  where
    is : IsFunction p (length earlier) d
    is = well.functions (length earlier) d
        (ap (λ l. slice_get l (length earlier)) whole ∙ (ap (slice_get (ds ++ d ∷ (more ++ rest))) (giving_length p.structs ds earlier all) ∙ get-next ds d (more ++ rest)))
