-- What is emitted in parts: one part behind the other.
use Rattle.std.proofs.Common.{◌≡◌, ◌∙◌, refl, sym, ap, subst, ℕ, suc, ◌+◌, Bool, true, false, ◌||◌, List, [], ◌∷◌, ◌++◌, map, length, drop, arith}
use Rattle.std.proofs.lemmas.List.{append_assoc, append-nil, length-map}
use Rattle.hl_meaning.specs.Types.{Ty}
use Rattle.hl_meaning.specs.Trees.{Expr, Form, an_expr}
use Rattle.hl_inline.specs.FlatTrees.{FlatStmt}
use Rattle.hl_inline.specs.Operands.{filled, first_expr}
use Rattle.hl_inline.specs.EmittedCode.{EmittedCode, emitted_then, emitted_with}
use Rattle.hl_inline.specs.EmittedExpressions.{is_literal_form, node, over}
use Rattle.hl_inline.specs.Emitting.{Emitter, Valued, Values, any_call, emit_all, settled}
use Rattle.hl_inline.specs.Fresh.{Fresh, Instance}
use Rattle.hl_inline.specs.InlinedCalls.{Passed}
use Rattle.hl_inline.proofs.Flags.{any-append, or-assoc, or-false}
use Rattle.hl_inline.specs.Building.{Made, behind, emitted_to, made, made_behind, operand_behind, valued}

-- truth values

pub or-comm : (a b : Bool) → (a || b) ≡ (b || a)
or-comm true true = refl
or-comm true false = refl
or-comm false true = refl
or-comm false false = refl

-- operands of a list in front of others
flags_apart : (further : Bool) (front back : List Emitter) → (further || any_call (front ++ back)) ≡ ((further || any_call back) || any_call front)
flags_apart further front back =
    ap (λ b. further || b) (any-append front back ∙ or-comm (any_call front) (any_call back)) ∙ sym (or-assoc further (any_call back) (any_call front))

-- values

abbrev pub values_of : List FlatStmt → List Expr → Fresh → Values
values_of code values fresh = record { code = code; values = values; fresh = fresh }

-- behind statements and values
abbrev pub values_behind : List FlatStmt → List Expr → Values → Values
values_behind code values x = values_of (code ++ x.code) (values ++ x.values) x.fresh

abbrev pub with_operand : List Expr → (Fresh → Values) → Made Expr → Values
with_operand values rest o = values_behind o.code (values ++ o.value ∷ []) (rest o.fresh)

pub step : (further : Bool) (e : Emitter) (es : List Emitter) (code : List FlatStmt) (values : List Expr) (fresh : Fresh) →
    values_behind code values (emit_all further (e ∷ es) fresh) ≡
    with_operand values (emit_all further es) (operand_behind code (settled (further || any_call es) (e.emit fresh)))
step further e es code values fresh = joined (settled (further || any_call es) (e.emit fresh))
  where
    joined : (x : Valued) →
        values_of (code ++ (x.code ++ (emit_all further es x.fresh).code)) (values ++ x.value ∷ (emit_all further es x.fresh).values) (emit_all further es x.fresh).fresh ≡
        with_operand values (emit_all further es) (operand_behind code x)
    joined x =
        ap (λ c. values_of c (values ++ x.value ∷ (emit_all further es x.fresh).values) (emit_all further es x.fresh).fresh)
        (sym (append_assoc code x.code (emit_all further es x.fresh).code)) ∙
        ap (λ vs. values_of ((code ++ x.code) ++ (emit_all further es x.fresh).code) vs (emit_all further es x.fresh).fresh)
        (sym (append_assoc values (x.value ∷ []) (emit_all further es x.fresh).values))

-- an operand that is emitted as asked
pub next_operand : (further f : Bool) (e : Emitter) (es : List Emitter) (code : List FlatStmt) (values : List Expr) (fresh : Fresh) (o : Made Expr) →
    f ≡ (further || any_call es) → operand_behind code (settled f (e.emit fresh)) ≡ o →
    values_behind code values (emit_all further (e ∷ es) fresh) ≡ with_operand values (emit_all further es) o
next_operand further f e es code values fresh o is done =
    step further e es code values fresh ∙
    ap (with_operand values (emit_all further es)) (ap (λ b. operand_behind code (settled b (e.emit fresh))) (sym is) ∙ done)

pub no_operand : (further : Bool) (code : List FlatStmt) (values : List Expr) (fresh : Fresh) →
    values_behind code values (emit_all further [] fresh) ≡ values_of code values fresh
no_operand further code values fresh =
    ap (λ c. values_of c (values ++ []) fresh) (append-nil code) ∙ ap (λ vs. values_of code vs fresh) (append-nil values)

abbrev both_behind : (further : Bool) (front back : List Emitter) (code : List FlatStmt) (values : List Expr) → Fresh → Values
both_behind further front back code values fresh =
    values_behind (code ++ (emit_all (further || any_call back) front fresh).code) (values ++ (emit_all (further || any_call back) front fresh).values)
    (emit_all further back (emit_all (further || any_call back) front fresh).fresh)

operand_joined : (further : Bool) (front back : List Emitter) (code : List FlatStmt) (values : List Expr) (x : Valued) →
    both_behind further front back (code ++ x.code) (values ++ x.value ∷ []) x.fresh ≡
    values_behind (code ++ (x.code ++ (emit_all (further || any_call back) front x.fresh).code)) (values ++ x.value ∷ (emit_all (further || any_call back) front x.fresh).values)
    (emit_all further back (emit_all (further || any_call back) front x.fresh).fresh)
operand_joined further front back code values x =
    ap (λ c. values_behind c ((values ++ x.value ∷ []) ++ (emit_all (further || any_call back) front x.fresh).values)
    (emit_all further back (emit_all (further || any_call back) front x.fresh).fresh)) (append_assoc code x.code (emit_all (further || any_call back) front x.fresh).code) ∙
    ap (λ vs. values_behind (code ++ (x.code ++ (emit_all (further || any_call back) front x.fresh).code)) vs
    (emit_all further back (emit_all (further || any_call back) front x.fresh).fresh)) (append_assoc values (x.value ∷ []) (emit_all (further || any_call back) front x.fresh).values)

-- operands and others behind them
pub next_operands : (further : Bool) (front back : List Emitter) (code : List FlatStmt) (values : List Expr) (fresh : Fresh) →
    values_behind code values (emit_all further (front ++ back) fresh) ≡ both_behind further front back code values fresh
next_operands further [] back code values fresh =
    sym (ap (λ c. values_behind c (values ++ []) (emit_all further back fresh)) (append-nil code) ∙
    ap (λ vs. values_behind code vs (emit_all further back fresh)) (append-nil values))
next_operands further (e ∷ front) back code values fresh =
    let x = settled ((further || any_call back) || any_call front) (e.emit fresh) in
    step further e (front ++ back) code values fresh ∙
    (ap (λ b. with_operand values (emit_all further (front ++ back)) (operand_behind code (settled b (e.emit fresh)))) (flags_apart further front back) ∙
    (next_operands further front back (code ++ x.code) (values ++ x.value ∷ []) x.fresh ∙ operand_joined further front back code values x))

-- as many values as operands
pub values_count : (further : Bool) (es : List Emitter) (fresh : Fresh) → length (emit_all further es fresh).values ≡ length es
values_count further [] fresh = refl
values_count further (e ∷ es) fresh = ap suc (values_count further es (settled (further || any_call es) (e.emit fresh)).fresh)

-- what is made of values

abbrev pub map_made : {A B : Type 0} → (A → B) → Made A → Made B
map_made f m = made m.code (f m.value) m.fresh

-- one operand
pub one : (further : Bool) (e : Emitter) (code : List FlatStmt) (fresh : Fresh) (o : Made Expr) →
    operand_behind code (settled further (e.emit fresh)) ≡ o → made_behind code first_expr (emit_all further (e ∷ []) fresh) ≡ o
one further e code fresh o done =
    ap (λ v. made v.code (first_expr v.values) v.fresh)
    (next_operand further further e [] code [] fresh o (sym (or-false further)) done ∙ no_operand further o.code (o.value ∷ []) o.fresh)

-- no operand
pub none : {A : Type 0} (further : Bool) (fill : List Expr → A) (code : List FlatStmt) (fresh : Fresh) →
    made_behind code fill (emit_all further [] fresh) ≡ made code (fill []) fresh
none further fill code fresh = ap (λ c. made c (fill []) fresh) (append-nil code)

-- what is made of the values of two lists
pub pair : {A B C : Type 0} (fa : List Expr → A) (fb : List Expr → B) (g : A → B → C) (fc : List Expr → C) (further f : Bool) (front back : List Emitter)
    (code : List FlatStmt) (fresh : Fresh) (a : Made A) (b : Made B) →
    ((xs ys : List Expr) → length xs ≡ length front → fc (xs ++ ys) ≡ g (fa xs) (fb ys)) → f ≡ (further || any_call back) →
    made_behind code fa (emit_all f front fresh) ≡ a → made_behind a.code fb (emit_all further back a.fresh) ≡ b →
    made_behind code fc (emit_all further (front ++ back) fresh) ≡ made b.code (g a.value b.value) b.fresh
pair fa fb g fc further f front back code fresh a b fills is first second =
    ap (λ v. made v.code (fc v.values) v.fresh) (next_operands further front back code [] fresh) ∙
    (ap (λ value. made ((code ++ x.code) ++ (emit_all further back x.fresh).code) value (emit_all further back x.fresh).fresh)
    (fills x.values (emit_all further back x.fresh).values (values_count (further || any_call back) front fresh)) ∙
    (ap (λ m. map_made (g m.value) (made_behind m.code fb (emit_all further back m.fresh)))
    (ap (λ b. made_behind code fa (emit_all b front fresh)) (sym is) ∙ first) ∙
    ap (map_made (g a.value)) second))
  where
    x : Values
    x = emit_all (further || any_call back) front fresh

-- a node of what is made of its operands
pub node_done : (i : Instance) (ty : Ty) (at : ℕ) (form : Form) (ops : List Emitter) (code : List FlatStmt) (fresh : Fresh) (m : Made Form) →
    made_behind code (filled i.first form) (emit_all false ops fresh) ≡ m →
    behind code ((node i ty at form ops).emit fresh) ≡ valued m.code (an_expr ty at m.value) (is_literal_form form) m.fresh
node_done i ty at form ops code fresh m done = ap (λ m. valued m.code (an_expr ty at m.value) (is_literal_form form) m.fresh) done

-- statements

pub next_emitted : (code : List FlatStmt) (first : EmittedCode) (rest : Fresh → EmittedCode) (y : EmittedCode) →
    emitted_with code first ≡ y → emitted_with code (emitted_then first rest) ≡ emitted_with y.code (rest y.fresh)
next_emitted code first rest y done =
    ap (λ c. emitted_to c (rest first.fresh).fresh) (sym (append_assoc code first.code (rest first.fresh).code)) ∙
    ap (λ y. emitted_with y.code (rest y.fresh)) done

pub none_emitted : (code : List FlatStmt) (fresh : Fresh) → emitted_to (code ++ []) fresh ≡ emitted_to code fresh
none_emitted code fresh = ap (λ c. emitted_to c fresh) (append-nil code)
