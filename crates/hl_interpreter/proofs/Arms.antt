-- Expressions of each form, and what they do with their operands.
use Rattle.std.proofs.Common.{◌≡◌, refl, sym, ap, ℕ, List, [], ◌∷◌, Option, Result}
use Rattle.lane_core.specs.Words.{wrapped}
use Rattle.hl_meaning.specs.declared.expression.Expr.{Expr as HeldExpr}
use Rattle.hl_meaning.specs.declared.expression.Form.{Form as HeldForm}
use Rattle.lane_core.specs.declared.event.AtomicKind.{AtomicKind}
use Rattle.hl_meaning.specs.Trees.{Expr, Form, MaybeLocation, Target, binary_form}
use Rattle.hl_meaning.specs.Types.{Ty}
use Rattle.hl_meaning.specs.Views.{plain_expr, plain_form, plain_ty}
use Rattle.hl_source.specs.Expressions.{acts, atomic_original, evaluates, write_if}
use Rattle.hl_source.specs.Intrinsics.{Work, barrier, from_all, from_one, from_three, from_two, of_lane, own_form, wave, wave_alone, wave_at, wave_four, worked}
use Rattle.hl_source.specs.Operations.{binary_words, component_kind}
use Rattle.hl_source.specs.State.{Context, Progress, State, after, gives, goes_with, no_value}
use Rattle.hl_interpreter.specs.declared.run.Stop.{Stop}
use Rattle.hl_interpreter.specs.Runs.{Gives, form_value}
use Rattle.hl_interpreter.proofs.Expressing.{by-form}
use Rattle.hl_interpreter.proofs.Forms.{expr-of, type-of}

-- an expression of a form
pub form-of : (c : Context) (e : HeldExpr) (s : State) (f : HeldForm) (g : Form) (r : Result (List ℕ) Stop) (t : State) → e.form ≡ f → plain_form f ≡ g → Gives r t (form_value c (plain_ty e.ty) g s)
    → Gives r t (evaluates c (plain_expr e) s)
form-of c e s f g r t is seen h = by-form c (plain_ty e.ty) s e e.at g r t (expr-of e f g is seen) h

-- what a binary operator does
pub binary-acts : (c : Context) (ty : Ty) (s : State) (op : ℕ) (left : HeldExpr) (right : Expr) (a b : List ℕ)
    → gives (binary_words op (component_kind (plain_ty left.ty)) a b) s ≡ acts c ty (binary_form op (plain_expr left) right) (a ∷ b ∷ []) s
binary-acts c ty s op left right a b = ap (λ t. gives (binary_words op (component_kind t) a b) s) (sym (type-of left))

-- what an atomic operation does
abbrev pub operation : Context → Target → Option AtomicKind → MaybeLocation → (at : List ℕ) → (compare word : ℕ) → (place : List ℕ) → State → Progress (List ℕ)
operation c target kind original at compare word place s =
    after (atomic_original c target kind at compare word s) (λ before s'. no_value (write_if c original place (before ∷ []) s'))

-- an intrinsic asks nothing of a context but its lane
pub worked-same : (c d : Context) (work : Work) (ty : Ty) (args : List (List ℕ)) (s : State) → c.lane ≡ d.lane → worked c work ty args s ≡ worked d work ty args s
worked-same c d (from_one f) ty [] s e = refl
worked-same c d (from_one f) ty (xs ∷ []) s e = refl
worked-same c d (from_one f) ty (xs ∷ ys ∷ more) s e = refl
worked-same c d (from_two f) ty [] s e = refl
worked-same c d (from_two f) ty (xs ∷ []) s e = refl
worked-same c d (from_two f) ty (xs ∷ ys ∷ []) s e = refl
worked-same c d (from_two f) ty (xs ∷ ys ∷ zs ∷ more) s e = refl
worked-same c d (from_three f) ty [] s e = refl
worked-same c d (from_three f) ty (xs ∷ []) s e = refl
worked-same c d (from_three f) ty (xs ∷ ys ∷ []) s e = refl
worked-same c d (from_three f) ty (xs ∷ ys ∷ zs ∷ []) s e = refl
worked-same c d (from_three f) ty (xs ∷ ys ∷ zs ∷ us ∷ more) s e = refl
worked-same c d (from_all judge) ty [] s e = refl
worked-same c d (from_all judge) ty (xs ∷ []) s e = refl
worked-same c d (from_all judge) ty (xs ∷ ys ∷ more) s e = refl
worked-same c d (of_lane tell) ty [] s e = ap (λ lane. goes_with (wrapped (tell lane) ∷ []) s) e
worked-same c d (of_lane tell) ty (xs ∷ more) s e = refl
worked-same c d (barrier mode) ty [] s e = refl
worked-same c d (barrier mode) ty (xs ∷ more) s e = refl
worked-same c d (wave kind) ty [] s e = refl
worked-same c d (wave kind) ty (xs ∷ []) s e = refl
worked-same c d (wave kind) ty (xs ∷ ys ∷ more) s e = refl
worked-same c d (wave_at kind) ty [] s e = refl
worked-same c d (wave_at kind) ty (xs ∷ []) s e = refl
worked-same c d (wave_at kind) ty (xs ∷ ys ∷ []) s e = refl
worked-same c d (wave_at kind) ty (xs ∷ ys ∷ zs ∷ more) s e = refl
worked-same c d (wave_alone kind) ty [] s e = refl
worked-same c d (wave_alone kind) ty (xs ∷ more) s e = refl
worked-same c d (wave_four kind) ty [] s e = refl
worked-same c d (wave_four kind) ty (xs ∷ []) s e = refl
worked-same c d (wave_four kind) ty (xs ∷ ys ∷ more) s e = refl
worked-same c d own_form ty args s e = refl
