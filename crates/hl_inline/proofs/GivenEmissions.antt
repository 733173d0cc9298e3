-- What functions that emit promise, of other equal parts.
use Rattle.std.proofs.Common.{◌≡◌, ◌∙◌, refl, sym, ap, subst, ℕ, Bool, true, false, ◌&&◌, not, if◌then◌else◌, List, [], ◌∷◌, ◌++◌, map, Option, Some}
use Rattle.std.specs.Prelude.{Result, IfOk}
use Rattle.std.proofs.lemmas.Result.{IfOk-weaker}
use Rattle.std.proofs.lemmas.List.{append_assoc, append-nil}
use Rattle.base_core.specs.declared.sequence.NoMemory.{NoMemory}
use Rattle.hl_meaning.specs.declared.expression.Expr as held_expr
use Rattle.hl_meaning.specs.Types.{Ty}
use Rattle.hl_meaning.specs.Trees.{Args, Expr, Form, an_expr, call_form, literal_form}
use Rattle.hl_meaning.specs.Views.{plain_expr, plain_form}
use Rattle.hl_inline.specs.FlatTrees.{FlatStmt, flat_local}
use Rattle.hl_inline.specs.declared.emitting.Formed.{Formed}
use Rattle.hl_inline.specs.EmittedExpressions.{args_emitters, emitted, form_emitter}
use Rattle.hl_inline.specs.Emitting.{Valued, saved, settled}
use Rattle.hl_inline.specs.Fresh.{Fresh, Instance, next_of}
use Rattle.hl_inline.specs.InlinedCalls.{Inlined, call, inlined_at}
use Rattle.hl_inline.specs.Building.{behind, made, operand_behind, valued}

-- a form, emitted
abbrev pub IsEmitted : List Inlined → Instance → (code code' : List FlatStmt) → (fresh fresh' : Fresh) → Form → Formed → Type 0
IsEmitted k i code code' fresh fresh' form m =
    (ty : Ty) → (at : ℕ) → behind code ((form_emitter k i ty at form).emit fresh) ≡ valued code' (an_expr ty at (plain_form m.form)) m.fixed fresh'

-- what a function gives for a form that is the same
pub emitted_as : (k : List Inlined) (i : Instance) (code code' : List FlatStmt) (fresh fresh' : Fresh) (ty : Ty) (at : ℕ) (r : Result Formed NoMemory) (f g : Form) →
    g ≡ f → IfOk r (λ m. IsEmitted k i code code' fresh fresh' f m) →
    IfOk r (λ m. behind code ((form_emitter k i ty at g).emit fresh) ≡ valued code' (an_expr ty at (plain_form m.form)) m.fixed fresh')
emitted_as k i code code' fresh fresh' ty at r f g is done =
    IfOk-weaker r _ _ (λ m e. ap (λ h. behind code ((form_emitter k i ty at h).emit fresh)) is ∙ e ty at) done

-- a form that is made of what was emitted
pub formed : (k : List Inlined) (i : Instance) (code code' : List FlatStmt) (fresh fresh' : Fresh) (ty : Ty) (at : ℕ) (m : Formed) (f g h : Form) (fixed : Bool) →
    g ≡ f → behind code ((form_emitter k i ty at f).emit fresh) ≡ valued code' (an_expr ty at h) fixed fresh' → plain_form m.form ≡ h → m.fixed ≡ fixed →
    behind code ((form_emitter k i ty at g).emit fresh) ≡ valued code' (an_expr ty at (plain_form m.form)) m.fixed fresh'
formed k i code code' fresh fresh' ty at m f g h fixed is done made_is fixed_is =
    ap (λ x. behind code ((form_emitter k i ty at x).emit fresh)) is ∙
    (done ∙ (ap (λ x. valued code' (an_expr ty at x) fixed fresh') (sym made_is) ∙ ap (λ b. valued code' (an_expr ty at (plain_form m.form)) b fresh') (sym fixed_is)))

-- a literal
pub literal_done : (k : List Inlined) (i : Instance) (code : List FlatStmt) (fresh : Fresh) (ty : Ty) (at word : ℕ) →
    behind code ((form_emitter k i ty at (literal_form word)).emit fresh) ≡ valued code (an_expr ty at (literal_form word)) true fresh
literal_done k i code fresh ty at word = ap (λ c. valued c (an_expr ty at (literal_form word)) true fresh) (append-nil code)

-- a value that is settled behind statements

settled_if : (b : Bool) (code : List FlatStmt) (x : Valued) →
    operand_behind code (if b then saved x else x) ≡ operand_behind [] (if b then saved (behind code x) else behind code x)
settled_if true code x =
    ap (λ c. made c (saved x).value (saved x).fresh) (sym (append_assoc code x.code (flat_local (next_of x.fresh) (Some x.value) ∷ [])))
settled_if false code x = refl

pub settled_behind : (further : Bool) (code : List FlatStmt) (x : Valued) → operand_behind code (settled further x) ≡ operand_behind [] (settled further (behind code x))
settled_behind further code x = settled_if (further && not x.fixed) code x

pub settled_as : (k : List Inlined) (i : Instance) (code code1 code2 : List FlatStmt) (fresh fresh1 fresh2 : Fresh) (further fixed : Bool) (e value : Expr) (r : Result held_expr.Expr NoMemory) →
    behind code (emitted k i e fresh) ≡ valued code1 value fixed fresh1 →
    IfOk r (λ v. operand_behind [] (settled further (valued code1 value fixed fresh1)) ≡ made code2 (plain_expr v) fresh2) →
    IfOk r (λ v. operand_behind code (settled further (emitted k i e fresh)) ≡ made code2 (plain_expr v) fresh2)
settled_as k i code code1 code2 fresh fresh1 fresh2 further fixed e value r emitted_is settles =
    IfOk-weaker r (λ v. operand_behind [] (settled further (valued code1 value fixed fresh1)) ≡ made code2 (plain_expr v) fresh2)
    (λ v. operand_behind code (settled further (emitted k i e fresh)) ≡ made code2 (plain_expr v) fresh2)
    (λ v s. settled_behind further code (emitted k i e fresh) ∙ (ap (λ x. operand_behind [] (settled further x)) emitted_is ∙ s))
    settles

-- a call
pub called_as : (k : List Inlined) (i : Instance) (code code' : List FlatStmt) (fresh fresh' : Fresh) (ty : Ty) (at function : ℕ) (args : Args) (r : Result Formed NoMemory) (g : Form) →
    g ≡ call_form function args →
    IfOk r (λ m. behind code ((call i ty at (inlined_at k function) (args_emitters k i args)).emit fresh) ≡ valued code' (an_expr ty at (plain_form m.form)) m.fixed fresh') →
    IfOk r (λ m. behind code ((form_emitter k i ty at g).emit fresh) ≡ valued code' (an_expr ty at (plain_form m.form)) m.fixed fresh')
called_as k i code code' fresh fresh' ty at function args r g is done =
    IfOk-weaker r (λ m. behind code ((call i ty at (inlined_at k function) (args_emitters k i args)).emit fresh) ≡ valued code' (an_expr ty at (plain_form m.form)) m.fixed fresh')
    (λ m. behind code ((form_emitter k i ty at g).emit fresh) ≡ valued code' (an_expr ty at (plain_form m.form)) m.fixed fresh')
    (λ m e. ap (λ h. behind code ((form_emitter k i ty at h).emit fresh)) is ∙ e) done
