-- The word and the store of a form, and the store of a statement, as they are held.
use Rattle.std.proofs.Common.{◌≡◌, ◌∙◌, refl, sym, ap, subst, ℕ, Option, None, Some}
use Rattle.hl_meaning.specs.declared.expression.Arg.{Arg}
use Rattle.hl_meaning.specs.declared.expression.Expr.{Expr}
use Rattle.hl_meaning.specs.declared.expression.Form.{Form, Form-F, out-Form, roll-Form, roll-out-Form}
use Rattle.hl_meaning.specs.declared.expression.Form.TheVariants as forms
use Rattle.hl_meaning.specs.declared.expression.Form.TheVariants.{rolls-Literal, rolls-Read, rolls-Write, rolls-Convert, rolls-Unary, rolls-Binary, rolls-Choose, rolls-Build, rolls-Pick, rolls-Call, rolls-Intrinsic, rolls-Method, rolls-Atomic}
use Rattle.hl_meaning.specs.declared.expression.Location.{Location}
use Rattle.hl_meaning.specs.declared.expression.PathPart.{PathPart}
use Rattle.hl_meaning.specs.declared.expression.Root.{Root}
use Rattle.hl_meaning.specs.declared.expression.Target.{Target}
use Rattle.hl_meaning.specs.declared.statement.Stmt.{Stmt, Stmt-F, fold_out-Stmt, map-Stmt, out-Stmt, roll-Stmt, roll-out-Stmt}
use Rattle.hl_meaning.specs.declared.statement.Stmt.TheVariants as statements
use Rattle.hl_meaning.specs.declared.statement.Stmt.TheVariants.{rolls-Run}
use Rattle.hl_meaning.specs.Trees as plain
use Rattle.hl_meaning.specs.Views.{plain_expr, plain_form, plain_maybe_expr, plain_stmt, stmt_step}
use Rattle.hl_meaning.proofs.Plain.{plain_expr-is, plain_form-Atomic, plain_form-Binary, plain_form-Build, plain_form-Call, plain_form-Choose, plain_form-Convert, plain_form-Intrinsic, plain_form-Literal, plain_form-Method, plain_form-Pick, plain_form-Read, plain_form-Unary, plain_form-Write, plain_stmt-Run}
use Rattle.dxil_driver.specs.FirstForm.{expr_store, form_store, literal_word, one_word, store_of, stored, unconverted, word_of}

-- ---- forms

-- a form that is no literal, conversion or method
record IsOther (f : plain.Form) : Type 0 where
  word : literal_word f ≡ None
  same : unconverted f ≡ f
  store : form_store f ≡ None

-- what holds of a form, by what it is
by_form : (P : plain.Form → Type 0) (o : Form)
    → ((word : ℕ) → o ≡ forms.Literal word → P (plain.literal_form word))
    → ((value : Expr) → o ≡ forms.Convert value → P (plain.convert_form (plain_expr value)))
    → ((resource count : ℕ) (address : Expr) (value : Option Expr) → o ≡ forms.Method resource count address value → P (plain.method_form resource count (plain_expr address) (plain_maybe_expr value)))
    → ((f : plain.Form) → IsOther f → P f) → P (plain_form o)
by_form P o = subst (λ o. ((word : ℕ) → o ≡ forms.Literal word → P (plain.literal_form word))
    → ((value : Expr) → o ≡ forms.Convert value → P (plain.convert_form (plain_expr value)))
    → ((resource count : ℕ) (address : Expr) (value : Option Expr) → o ≡ forms.Method resource count address value → P (plain.method_form resource count (plain_expr address) (plain_maybe_expr value)))
    → ((f : plain.Form) → IsOther f → P f) → P (plain_form o)) (roll-out-Form o) (of_layer (out-Form o))
  where
    of_layer : (x : Form-F Arg Form PathPart Root Target Expr Location)
        → ((word : ℕ) → roll-Form x ≡ forms.Literal word → P (plain.literal_form word))
        → ((value : Expr) → roll-Form x ≡ forms.Convert value → P (plain.convert_form (plain_expr value)))
        → ((resource count : ℕ) (address : Expr) (value : Option Expr) → roll-Form x ≡ forms.Method resource count address value → P (plain.method_form resource count (plain_expr address) (plain_maybe_expr value)))
        → ((f : plain.Form) → IsOther f → P f) → P (plain_form (roll-Form x))
    of_layer (Form-F.Literal word) literal convert method other = subst P (sym (ap plain_form (rolls-Literal word) ∙ plain_form-Literal word)) (literal word (rolls-Literal word))
    of_layer (Form-F.Convert value) literal convert method other = subst P (sym (ap plain_form (rolls-Convert value) ∙ plain_form-Convert value)) (convert value (rolls-Convert value))
    of_layer (Form-F.Method resource count address value) literal convert method other = subst P (sym (ap plain_form (rolls-Method resource count address value) ∙ plain_form-Method resource count address value)) (method resource count address value (rolls-Method resource count address value))
    of_layer (Form-F.Read place) literal convert method other = subst P (sym (ap plain_form (rolls-Read place) ∙ plain_form-Read place)) (other _ (record { word = refl; same = refl; store = refl }))
    of_layer (Form-F.Write to op common value old) literal convert method other = subst P (sym (ap plain_form (rolls-Write to op common value old) ∙ plain_form-Write to op common value old)) (other _ (record { word = refl; same = refl; store = refl }))
    of_layer (Form-F.Unary op value) literal convert method other = subst P (sym (ap plain_form (rolls-Unary op value) ∙ plain_form-Unary op value)) (other _ (record { word = refl; same = refl; store = refl }))
    of_layer (Form-F.Binary op left right) literal convert method other = subst P (sym (ap plain_form (rolls-Binary op left right) ∙ plain_form-Binary op left right)) (other _ (record { word = refl; same = refl; store = refl }))
    of_layer (Form-F.Choose cond yes' no') literal convert method other = subst P (sym (ap plain_form (rolls-Choose cond yes' no') ∙ plain_form-Choose cond yes' no')) (other _ (record { word = refl; same = refl; store = refl }))
    of_layer (Form-F.Build parts) literal convert method other = subst P (sym (ap plain_form (rolls-Build parts) ∙ plain_form-Build parts)) (other _ (record { word = refl; same = refl; store = refl }))
    of_layer (Form-F.Pick value parts) literal convert method other = subst P (sym (ap plain_form (rolls-Pick value parts) ∙ plain_form-Pick value parts)) (other _ (record { word = refl; same = refl; store = refl }))
    of_layer (Form-F.Call function args) literal convert method other = subst P (sym (ap plain_form (rolls-Call function args) ∙ plain_form-Call function args)) (other _ (record { word = refl; same = refl; store = refl }))
    of_layer (Form-F.Intrinsic number args) literal convert method other = subst P (sym (ap plain_form (rolls-Intrinsic number args) ∙ plain_form-Intrinsic number args)) (other _ (record { word = refl; same = refl; store = refl }))
    of_layer (Form-F.Atomic target kind compare value original) literal convert method other = subst P (sym (ap plain_form (rolls-Atomic target kind compare value original) ∙ plain_form-Atomic target kind compare value original)) (other _ (record { word = refl; same = refl; store = refl }))

pub literal-word : (o : Form) (word : ℕ) → o ≡ forms.Literal word → Some word ≡ literal_word (plain_form o)
literal-word o word is = sym (ap literal_word (ap plain_form is ∙ plain_form-Literal word))

pub literal-none : (o : Form) → ((word : ℕ) → o ≡ forms.Literal word → ⊥) → None ≡ literal_word (plain_form o)
literal-none o not = by_form (λ f. None ≡ literal_word f) o (λ word is. absurd (not word is)) (λ value is. refl) (λ resource count address value is. refl) (λ f other. sym other.word)

-- the word of an expression

word-by_form : (e : Expr) → word_of (plain_expr e) ≡ literal_word (unconverted (plain_form e.form))
word-by_form e = ap word_of (plain_expr-is e)

pub word-converted : (e inner found : Expr) → e.form ≡ forms.Convert inner → found ≡ inner → literal_word (plain_form found.form) ≡ word_of (plain_expr e)
word-converted e inner found is same =
    let form : unconverted (plain_form e.form) ≡ plain_form inner.form =
    ap unconverted (ap plain_form is ∙ plain_form-Convert inner) ∙ ap (λ x. unconverted (plain.convert_form x)) (plain_expr-is inner) in
    ap (λ (x : Expr). literal_word (plain_form x.form)) same ∙ sym (word-by_form e ∙ ap literal_word form)

pub word-itself : (e : Expr) → ((inner : Expr) → e.form ≡ forms.Convert inner → ⊥) → literal_word (plain_form e.form) ≡ word_of (plain_expr e)
word-itself e not =
    let same : unconverted (plain_form e.form) ≡ plain_form e.form =
    by_form (λ f. unconverted f ≡ f) e.form (λ word is. refl) (λ value is. absurd (not value is)) (λ resource count address value is. refl) (λ f other. other.same) in
    sym (word-by_form e ∙ ap literal_word same)

-- the store of a form

pub method-store : (o : Form) (resource count : ℕ) (address : Expr) (value : Option Expr) → o ≡ forms.Method resource count address value
    → form_store (plain_form o) ≡ stored resource count (plain_expr address) (plain_maybe_expr value)
method-store o resource count address value is = ap form_store (ap plain_form is ∙ plain_form-Method resource count address value)

pub method-stored : (o : Form) (resource count : ℕ) (address : Expr) (found : Option Expr) (value one other : Expr) → o ≡ forms.Method resource count address found → found ≡ Some value
    → one ≡ address → other ≡ value → one_word resource count (plain_expr one) (plain_expr other) ≡ form_store (plain_form o)
method-stored o resource count address found value one other is some one-is other-is =
    ap (λ x. one_word resource count (plain_expr x) (plain_expr other)) one-is ∙ (ap (λ x. one_word resource count (plain_expr address) (plain_expr x)) other-is ∙
    sym (method-store o resource count address found is ∙ ap (λ v. stored resource count (plain_expr address) (plain_maybe_expr v)) some))

pub method-loads : (o : Form) (resource count : ℕ) (address : Expr) (found : Option Expr) → o ≡ forms.Method resource count address found → found ≡ None → None ≡ form_store (plain_form o)
method-loads o resource count address found is none =
    sym (method-store o resource count address found is ∙ ap (λ v. stored resource count (plain_expr address) (plain_maybe_expr v)) none)

pub form-none : (o : Form) → ((resource count : ℕ) (address : Expr) (value : Option Expr) → o ≡ forms.Method resource count address value → ⊥) → None ≡ form_store (plain_form o)
form-none o not =
    by_form (λ f. None ≡ form_store f) o (λ word is. refl) (λ value is. refl) (λ resource count address value is. absurd (not resource count address value is)) (λ f other. sym other.store)

-- ---- statements

pub run-store : (o : Stmt) (value : Expr) → o ≡ statements.Run value → form_store (plain_form value.form) ≡ store_of (plain_stmt o)
run-store o value is = sym (ap store_of (ap plain_stmt is ∙ plain_stmt-Run value) ∙ ap expr_store (plain_expr-is value))

abbrev layer : Stmt-F Stmt → plain.Stmt
layer form = stmt_step (map-Stmt Stmt plain.Stmt plain_stmt form)

by_layer : (o : Stmt) → plain_stmt o ≡ layer (out-Stmt o)
unfolding plain_stmt
by_layer o = fold_out-Stmt plain.Stmt stmt_step o

layer-none : (o : Stmt) (form : Stmt-F Stmt) → out-Stmt o ≡ form → ((value : Expr) → o ≡ statements.Run value → ⊥) → None ≡ store_of (layer form)
layer-none o (Stmt-F.Run value) e not = absurd (not value (sym (roll-out-Stmt o) ∙ (ap roll-Stmt e ∙ rolls-Run value)))
layer-none o form e not = refl

pub stmt-none : (o : Stmt) → ((value : Expr) → o ≡ statements.Run value → ⊥) → None ≡ store_of (plain_stmt o)
stmt-none o not = layer-none o (out-Stmt o) refl not ∙ sym (ap store_of (by_layer o))
