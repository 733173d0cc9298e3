-- The functions that may be called, and what they weigh.
use Rattle.std.proofs.Common.{◌≡◌, ◌∙◌, refl, sym, ap, ℕ, zero, suc, ◌+◌, ◌<◌, ◌≤◌, List, [], ◌∷◌, ◌++◌, length, length-append, map, take, get_or, Option, Some, Result, Ok, Err, arith}
use Rattle.std.specs.Prelude.{IfOk, slice_get, unwrap_or}
use Rattle.std.proofs.lemmas.List.{length-map}
use Rattle.std.proofs.lemmas.List.Sums.{get_or-le-sum_by, sum_by-take-le, sum_by_more}
use Rattle.std.proofs.lemmas.Option.{slice_get_past}
use Rattle.hl_meaning.specs.declared.program.FunctionDef as held
use Rattle.hl_meaning.specs.declared.statement.Stmt.{Stmt}
use Rattle.hl_meaning.specs.Programs.{FunctionDef}
use Rattle.hl_meaning.specs.Types.{Ty}
use Rattle.hl_meaning.specs.Views.{plain_function, plain_variable}
use Rattle.hl_inline.specs.Emitting.{Valued}
use Rattle.hl_inline.specs.Fresh.{Fresh, Instance, nameless, next_of}
use Rattle.hl_inline.specs.InlinedCalls.{Argument, Inlined, call, inlined_at, instance_of, nothing_inlined, pass_all, with_body, with_instance}
use Rattle.hl_inline.specs.InlinedFunctions.{inlined, inlined_after}
use Rattle.hl_inline.specs.FlatTrees.{FlatStmt}
use Rattle.hl_inline.specs.Building.{behind, inlined_all}
use Rattle.hl_source.proofs.Weights.{function_weight, stmt_weight, stmts_weight, weight_of}

abbrev pub instance : (first result exit : ℕ) → Instance
instance first result exit = record { first = first; result = result; exit = exit }

-- ---- the function of a number

get_front : {A : Type 0} (xs ys : List A) (n : ℕ) (x : A) → slice_get xs n ≡ Some x → slice_get (xs ++ ys) n ≡ Some x
get_front [] ys n x is = cc
get_front (a ∷ xs) ys zero x is = is
get_front (a ∷ xs) ys (suc n) x is = get_front xs ys n x is

get_next : {A : Type 0} (xs : List A) (x : A) → slice_get (xs ++ x ∷ []) (length xs) ≡ Some x
get_next [] x = refl
get_next (a ∷ xs) x = get_next xs x

front : (before : List Inlined) (fs : List FunctionDef) (n : ℕ) (x : Inlined) → slice_get before n ≡ Some x → slice_get (inlined_after before fs) n ≡ Some x
front before [] n x is = is
front before (f ∷ fs) n x is = front (before ++ inlined before f ∷ []) fs n x (get_front before (inlined before f ∷ []) n x is)

at_number : (before : List Inlined) (fs : List held.FunctionDef) (n : ℕ) (f : held.FunctionDef) → n < length fs → f ≡ get_or fs n f →
    slice_get (inlined_after before (map plain_function fs)) (length before + n) ≡ Some (inlined (inlined_after before (map plain_function (take n fs))) (plain_function f))
at_number before [] n f within is = absurd (omega arith)
at_number before (g ∷ fs) zero f within is =
    ap (slice_get (inlined_after before (map plain_function (g ∷ fs)))) (let e : length before + 0 ≡ length before = omega arith in e) ∙
    (front (before ++ inlined before (plain_function g) ∷ []) (map plain_function fs) (length before) (inlined before (plain_function g)) (get_next before (inlined before (plain_function g))) ∙
    ap (λ h. Some (inlined before (plain_function h))) (sym is))
at_number before (g ∷ fs) (suc n) f within is =
    ap (slice_get (inlined_after before (map plain_function (g ∷ fs)))) (longer before (inlined before (plain_function g)) n) ∙
    at_number (before ++ inlined before (plain_function g) ∷ []) fs n f (omega arith) is
  where
    longer : (before : List Inlined) (x : Inlined) (n : ℕ) → length before + suc n ≡ length (before ++ x ∷ []) + n
    longer before x n = omega (arith, length-append before (x ∷ []))

pub callee_found : (fs : List held.FunctionDef) (n : ℕ) (f : held.FunctionDef) → n < length fs → f ≡ get_or fs n f →
    inlined_at (inlined_all fs) n ≡ inlined (inlined_all (take n fs)) (plain_function f)
callee_found fs n f within is =
    ap (λ o. unwrap_or o nothing_inlined) (ap (slice_get (inlined_all fs)) (let e : n ≡ 0 + n = omega arith in e) ∙ at_number [] fs n f within is)

length_after : (before : List Inlined) (fs : List FunctionDef) → length (inlined_after before fs) ≡ length before + length fs
length_after before [] = omega arith
length_after before (f ∷ fs) =
    length_after (before ++ inlined before f ∷ []) fs ∙ omega (arith, length-append before (inlined before f ∷ []))

pub callee_missing : (fs : List held.FunctionDef) (n : ℕ) → length fs ≤ n → inlined_at (inlined_all fs) n ≡ nothing_inlined
callee_missing fs n past =
    ap (λ o. unwrap_or o nothing_inlined)
    (slice_get_past (inlined_all fs) n (omega (arith, length_after [] (map plain_function fs), length-map fs plain_function)))

-- ---- calls

-- where a function stands that is called
pub stands_at : (k : List Inlined) (f : held.FunctionDef) (fresh : Fresh) (first result exit : ℕ) → first ≡ next_of fresh → result ≡ next_of fresh + length f.variables → exit ≡ fresh.names →
    instance first result exit ≡ instance_of (inlined k (plain_function f)) fresh
stands_at k f fresh first result exit a b d =
    ap (λ n. instance n result exit) a ∙
    (ap (λ n. instance (next_of fresh) n exit) (b ∙ ap (λ n. next_of fresh + n) (sym (length-map (map plain_variable f.variables) nameless ∙ length-map f.variables plain_variable))) ∙
    ap (λ n. instance (next_of fresh) (next_of fresh + length (map nameless (map plain_variable f.variables))) n) d)

pub called : {A E : Type 0} (r : Result A E) (value : A → Valued) (code : List FlatStmt) (ty : Ty) (at : ℕ) (i : Instance) (args : List Argument) (fresh : Fresh) (g f : Inlined) (inner : Instance) (now : Fresh)
    → g ≡ f → inner ≡ instance_of f fresh → now ≡ with_instance f ty at fresh
    → IfOk r (λ made. behind code (with_body ty at f inner (pass_all i at inner.first args f.parameters now)) ≡ value made)
    → IfOk r (λ made. behind code ((call i ty at g args).emit fresh) ≡ value made)
called (Ok made) value code ty at i args fresh g f inner now found stands grown done =
    ap (λ (g : Inlined). behind code ((call i ty at g args).emit fresh)) found ∙
    (ap (λ (j : Instance). behind code (with_body ty at f j (pass_all i at j.first args f.parameters (with_instance f ty at fresh)))) (sym stands) ∙
    (ap (λ (h : Fresh). behind code (with_body ty at f inner (pass_all i at inner.first args f.parameters h))) (sym grown) ∙ done))
called (Err e) value code ty at i args fresh g f inner now found stands grown done = done

pub called_missing : {A E : Type 0} (r : Result A E) (value : A → Valued) (code : List FlatStmt) (ty : Ty) (at : ℕ) (i : Instance) (args : List Argument) (fresh : Fresh) (g : Inlined)
    → g ≡ nothing_inlined
    → IfOk r (λ made. (i : Instance) → (args : List Argument) → behind code ((call i ty at nothing_inlined args).emit fresh) ≡ value made)
    → IfOk r (λ made. behind code ((call i ty at g args).emit fresh) ≡ value made)
called_missing (Ok made) value code ty at i args fresh g missing done =
    ap (λ (g : Inlined). behind code ((call i ty at g args).emit fresh)) missing ∙ done i args
called_missing (Err e) value code ty at i args fresh g missing done = done

-- ---- weights

-- a function and those before it
pub weight_before : (fs : List held.FunctionDef) (n : ℕ) (f : held.FunctionDef) → n < length fs → f ≡ get_or fs n f →
    weight_of (take n fs) + function_weight f ≤ weight_of fs
weight_before fs n f within is =
    omega (arith, sum_by_more function_weight fs n f within, sum_by-take-le function_weight fs (n + 1), ap function_weight is)

-- a statement among others
pub weight_within : (stmts : List Stmt) (n : ℕ) (stmt : Stmt) → n < length stmts → stmt ≡ get_or stmts n stmt → stmt_weight stmt ≤ stmts_weight stmts
weight_within stmts n stmt within is = omega (arith, get_or-le-sum_by stmt_weight stmts n stmt within, ap stmt_weight is)
