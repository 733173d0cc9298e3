-- Walks over held lists: what is left of a list, and what is emitted for it.
use Rattle.std.proofs.Common.{◌≡◌, ◌∙◌, refl, sym, ap, subst, ℕ, zero, suc, ◌+◌, ◌<◌, ◌≤◌, Bool, true, false, ◌||◌, List, [], ◌∷◌, ◌++◌, map, length, drop, get_or, ltb, add-one, drop-cons, arith}
use Rattle.std.proofs.lemmas.List.{append_assoc, append-nil, map-append, length-map}
use Rattle.hl_meaning.specs.declared.expression.Expr.{Expr}
use Rattle.hl_meaning.specs.declared.expression.PathPart.{PathPart}
use Rattle.hl_meaning.specs.Trees as plain
use Rattle.hl_meaning.specs.Trees.{more_parts, no_parts}
use Rattle.hl_meaning.specs.Views.{exprs_of, parts_of, plain_expr, plain_exprs, plain_part, plain_parts}
use Rattle.hl_inline.specs.FlatTrees.{FlatStmt}
use Rattle.hl_inline.specs.Operands.{filled_parts}
use Rattle.hl_inline.specs.EmittedExpressions.{emitted, emitter, exprs_emitters, part_emitters, parts_emitters}
use Rattle.hl_inline.specs.Emitting.{Emitter, any_call, emit_all, settled}
use Rattle.hl_inline.specs.Fresh.{Fresh, Instance}
use Rattle.hl_inline.specs.InlinedCalls.{Inlined}
use Rattle.hl_inline.specs.Building.{Made, filled_part, made, made_behind, operand_behind}
use Rattle.hl_inline.proofs.BuildingLemmas.{map_made, next_operand, no_operand, none, values_behind, values_of, with_operand}
use Rattle.hl_inline.proofs.EmittingLemmas.{parts_done}

-- lists

pub drop_item : {A : Type 0} (xs : List A) (j : ℕ) (x : A) → j < length xs → x ≡ get_or xs j x → drop j xs ≡ x ∷ drop (j + 1) xs
drop_item [] j x h is = absurd (omega (arith, h))
drop_item (y ∷ xs) zero x h is = ap (λ z. z ∷ xs) (sym is)
drop_item (y ∷ xs) (suc j) x h is = drop_item xs j x (omega arith) is ∙ ap (λ n. x ∷ drop n (y ∷ xs)) (same_suc j)
  where
    same_suc : (j : ℕ) → suc (j + 1) ≡ suc j + 1
    same_suc j = omega arith

pub drop_end : {A : Type 0} (xs : List A) (j : ℕ) → length xs ≤ j → drop j xs ≡ []
drop_end [] zero h = refl
drop_end [] (suc j) h = refl
drop_end (x ∷ xs) zero h = absurd (omega (arith, h))
drop_end (x ∷ xs) (suc j) h = drop_end xs j (omega arith)

-- expressions

abbrev pub em : List Inlined → Instance → Expr → Emitter
em k i e = emitter k i (plain_expr e)

pub exprs_held : (k : List Inlined) (i : Instance) (es : List Expr) → exprs_emitters k i (plain_exprs es) ≡ map (em k i) es
exprs_held k i [] = refl
exprs_held k i (e ∷ es) = ap (λ l. em k i e ∷ l) (exprs_held k i es)

pub exprs_next : (k : List Inlined) (i : Instance) (f : Bool) (xs : List Expr) (j : ℕ) (x : Expr) (code : List FlatStmt) (values : List plain.Expr) (fresh : Fresh) (o : Made plain.Expr) →
    j < length xs → x ≡ get_or xs j x → f ≡ any_call (exprs_emitters k i (plain_exprs (drop (j + 1) xs))) →
    operand_behind code (settled f (emitted k i (plain_expr x) fresh)) ≡ o →
    values_behind code values (emit_all false (map (em k i) (drop j xs)) fresh) ≡ with_operand values (emit_all false (map (em k i) (drop (j + 1) xs))) o
exprs_next k i f xs j x code values fresh o within is f_is done =
    ap (λ l. values_behind code values (emit_all false (map (em k i) l) fresh)) (drop_item xs j x within is) ∙
    next_operand false f (em k i x) (map (em k i) (drop (j + 1) xs)) code values fresh o (f_is ∙ ap any_call (exprs_held k i (drop (j + 1) xs))) done

pub exprs_end : (k : List Inlined) (i : Instance) (xs : List Expr) (j : ℕ) (code : List FlatStmt) (values : List plain.Expr) (fresh : Fresh) → length xs ≤ j →
    values_behind code values (emit_all false (map (em k i) (drop j xs)) fresh) ≡ values_of code values fresh
exprs_end k i xs j code values fresh h =
    ap (λ l. values_behind code values (emit_all false (map (em k i) l) fresh)) (drop_end xs j h) ∙ no_operand false code values fresh

-- steps

abbrev pub front_parts : List plain.PathPart → plain.PathParts → plain.PathParts
front_parts [] rest = rest
front_parts (part ∷ parts) rest = more_parts part (front_parts parts rest)

front_more : (parts : List plain.PathPart) (part : plain.PathPart) (rest : plain.PathParts) → front_parts (parts ++ part ∷ []) rest ≡ front_parts parts (more_parts part rest)
front_more [] part rest = refl
front_more (first ∷ parts) part rest = ap (more_parts first) (front_more parts part rest)

pub front_end : (parts : List plain.PathPart) → front_parts parts no_parts ≡ parts_of parts
front_end [] = refl
front_end (first ∷ parts) = ap (more_parts first) (front_end parts)

-- what is emitted for the steps that are left, in front of which some stand
abbrev pub parts_left : List Inlined → Instance → (further : Bool) → List FlatStmt → List plain.PathPart → List PathPart → Fresh → Made plain.PathParts
parts_left k i further code parts left fresh =
    map_made (front_parts parts) (made_behind code (filled_parts (plain_parts left)) (emit_all further (parts_emitters k i (plain_parts left)) fresh))

pub parts_next : (k : List Inlined) (i : Instance) (further f : Bool) (xs : List PathPart) (j : ℕ) (x : PathPart) (code : List FlatStmt) (parts : List plain.PathPart) (fresh : Fresh) (a : Made plain.PathPart) →
    j < length xs → x ≡ get_or xs j x → f ≡ (further || any_call (parts_emitters k i (plain_parts (drop (j + 1) xs)))) →
    made_behind code (filled_part (plain_part x)) (emit_all f (part_emitters k i (plain_part x)) fresh) ≡ a →
    parts_left k i further code parts (drop j xs) fresh ≡ parts_left k i further a.code (parts ++ a.value ∷ []) (drop (j + 1) xs) a.fresh
parts_next k i further f xs j x code parts fresh a within is f_is done =
    ap (λ l. parts_left k i further code parts l fresh) (drop_item xs j x within is) ∙
    (ap (map_made (front_parts parts)) (parts_done k i code fresh further f (plain_part x) (plain_parts (drop (j + 1) xs)) a
    f_is done) ∙
    ap (λ v. made m.code v m.fresh) (sym (front_more parts a.value m.value)))
  where
    m : Made plain.PathParts
    m = made_behind a.code (filled_parts (plain_parts (drop (j + 1) xs))) (emit_all further (parts_emitters k i (plain_parts (drop (j + 1) xs))) a.fresh)

pub parts_end : (k : List Inlined) (i : Instance) (further : Bool) (xs : List PathPart) (j : ℕ) (code : List FlatStmt) (parts : List plain.PathPart) (fresh : Fresh) → length xs ≤ j →
    parts_left k i further code parts (drop j xs) fresh ≡ made code (parts_of parts) fresh
parts_end k i further xs j code parts fresh h =
    ap (λ l. parts_left k i further code parts l fresh) (drop_end xs j h) ∙
    (ap (map_made (front_parts parts)) (none further (filled_parts no_parts) code fresh) ∙ ap (λ v. made code v fresh) (front_end parts))
