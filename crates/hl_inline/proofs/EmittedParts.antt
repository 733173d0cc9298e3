-- Statements that are emitted in parts: behind values, inside others, in loops, and behind the arguments of calls.
use Rattle.std.proofs.Common.{◌≡◌, ◌∙◌, ◌⊎◌, inl, inr, refl, sym, ap, ℕ, suc, ◌+◌, ◌<◌, ◌≤◌, List, [], ◌∷◌, ◌++◌, length, drop, drop-cons, get_or, map, min, zero, arith, add-one, Bool, true, Option, Some, Result, Ok, Err}
use Rattle.std.specs.Prelude.{OnOk}
use Rattle.std.proofs.lemmas.List.{append_assoc, append-nil, drop_all}
use Rattle.hl_meaning.specs.declared.expression.Arg as held_arg
use Rattle.hl_meaning.specs.declared.program.Copying.{Copying}
use Rattle.hl_meaning.specs.declared.program.Parameter.{Parameter}
use Rattle.hl_meaning.specs.declared.statement.Stmt as held
use Rattle.hl_meaning.specs.Trees.{Arg, Expr, Location, Stmt, place_arg, value_arg}
use Rattle.hl_meaning.specs.Types.{Ty}
use Rattle.hl_meaning.specs.Views.{plain_arg, plain_args, plain_stmt, plain_stmts}
use Rattle.hl_inline.specs.declared.flat.FlatStmt as held_stmt
use Rattle.hl_inline.specs.FlatTrees.{FlatStmt, flat_block, flat_if, flat_local, flat_loop, flat_named}
use Rattle.hl_inline.specs.FlatViews.{flat_stmts_of}
use Rattle.hl_inline.specs.Operands.{filled_place}
use Rattle.hl_inline.specs.EmittedCode.{EmittedCode, as_alternative, as_one, emitted_stmt, emitted_then, emitted_with}
use Rattle.hl_inline.specs.EmittedExpressions.{arg_emitter, args_emitters, emitted, place_emitters}
use Rattle.hl_inline.specs.EmittedStatements.{Jumps, choice_of, emit_loop, emit_stmt, emit_stmts, jumps_of, with_jumps}
use Rattle.hl_inline.specs.Emitting.{Valued, emit_all, reading}
use Rattle.hl_inline.specs.Fresh.{Fresh, Instance}
use Rattle.hl_inline.specs.InlinedCalls.{Argument, Inlined, Passed, around_body, copy_back, pass_all, place_argument, start_value, value_argument}
use Rattle.hl_inline.specs.Building.{Made, behind, emitted_to, made, made_behind, passed_behind, passed_to, plain_code, valued}
use Rattle.hl_inline.proofs.BuildingLemmas.{next_emitted, none_emitted}

-- ---- where nothing fails

-- what is equal to what holds where nothing fails
pub on_ok : {A E B : Type 0} (r : Result A E) (x y z : B) → x ≡ y → OnOk r (y ≡ z) → OnOk r (x ≡ z)
on_ok (Ok a) x y z e h = e ∙ h
on_ok (Err a) x y z e h = h

-- one more statement, where nothing fails
pub added : {E : Type 0} (r : Result (Unit {0}) E) (old new : List held_stmt.FlatStmt) (s t : FlatStmt) → s ≡ t
    → OnOk r (plain_code new ≡ plain_code old ++ s ∷ []) → OnOk r (plain_code new ≡ plain_code old ++ t ∷ [])
added (Ok u) old new s t e h = h ∙ ap (λ x. plain_code old ++ x ∷ []) e
added (Err x) old new s t e h = h

-- ---- a value, and statements

-- a statement that is made of a value
pub with_value : (make : Expr → FlatStmt) (code : List FlatStmt) (x : Valued) (after : List FlatStmt) (value : Expr) (fixed : Bool) (fresh : Fresh) (all : List FlatStmt)
    → behind code x ≡ valued after value fixed fresh → all ≡ after ++ make value ∷ []
    → emitted_to (code ++ (x.code ++ make x.value ∷ [])) x.fresh ≡ emitted_to all fresh
with_value make code x after value fixed fresh all emitted pushed =
    ap (λ c. emitted_to c x.fresh) (sym (append_assoc code x.code (make x.value ∷ []))) ∙
    (ap (λ (b : Valued). emitted_to (b.code ++ make b.value ∷ []) b.fresh) emitted ∙
    ap (λ c. emitted_to c fresh) (sym pushed))

-- nothing is left of the value
pub without_value : (code : List FlatStmt) (x : Valued) (after : List FlatStmt) (value : Expr) (fixed : Bool) (fresh : Fresh)
    → behind code x ≡ valued after value fixed fresh → emitted_to (code ++ x.code) x.fresh ≡ emitted_to after fresh
without_value code x after value fixed fresh emitted = ap (λ (b : Valued). emitted_to b.code b.fresh) emitted

-- one statement
pub one_emitted : (code : List FlatStmt) (stmt : FlatStmt) (fresh : Fresh) (all : List FlatStmt)
    → all ≡ code ++ stmt ∷ [] → emitted_with code (emitted_stmt stmt fresh) ≡ emitted_to all fresh
one_emitted code stmt fresh all pushed = ap (λ c. emitted_to c fresh) (sym pushed)

-- a statement that is made of others
pub inside : (make : List FlatStmt → FlatStmt) (code : List FlatStmt) (body : EmittedCode) (inner : List FlatStmt) (fresh : Fresh) (all : List FlatStmt)
    → emitted_with [] body ≡ emitted_to inner fresh → all ≡ code ++ make inner ∷ []
    → emitted_with code (emitted_stmt (make body.code) body.fresh) ≡ emitted_to all fresh
inside make code body inner fresh all done pushed =
    ap (λ (l : EmittedCode). emitted_to (code ++ make l.code ∷ []) l.fresh) done ∙ ap (λ c. emitted_to c fresh) (sym pushed)

-- statements and others behind them
pub both_emitted : (code : List FlatStmt) (first : EmittedCode) (rest : Fresh → EmittedCode) (middle : List FlatStmt) (fresh : Fresh) (y : EmittedCode)
    → emitted_with code first ≡ emitted_to middle fresh → emitted_with middle (rest fresh) ≡ y → emitted_with code (emitted_then first rest) ≡ y
both_emitted code first rest middle fresh y one other = next_emitted code first rest (emitted_to middle fresh) one ∙ other

-- ---- a statement of a form

module _ (k : List Inlined) (i : Instance) (j : Jumps) where
  pub emitted_stmt-as : {E : Type 0} (r : Result (Unit {0}) E) (code : List FlatStmt) (fresh : Fresh) (s t : Stmt) (y : EmittedCode) → s ≡ t
      → OnOk r (emitted_with code (emit_stmt k i j t fresh) ≡ y) → OnOk r (emitted_with code (emit_stmt k i j s fresh) ≡ y)
  emitted_stmt-as r code fresh s t y is h = on_ok r (emitted_with code (emit_stmt k i j s fresh)) (emitted_with code (emit_stmt k i j t fresh)) y (ap (λ x. emitted_with code (emit_stmt k i j x fresh)) is) h

  pub jumped : {E : Type 0} (r : Result (Unit {0}) E) (code : List FlatStmt) (fresh : Fresh) (s t : Stmt) (stmt : FlatStmt) (all : List FlatStmt) → s ≡ t → emit_stmt k i j t fresh ≡ emitted_stmt stmt fresh
      → OnOk r (all ≡ code ++ stmt ∷ []) → OnOk r (emitted_with code (emit_stmt k i j s fresh) ≡ emitted_to all fresh)
  jumped (Ok u) code fresh s t stmt all is form h =
      ap (λ x. emitted_with code (emit_stmt k i j x fresh)) is ∙ (ap (emitted_with code) form ∙ one_emitted code stmt fresh all h)
  jumped (Err x) code fresh s t stmt all is form h = h

-- ---- a choice

abbrev choice_emitted : (Fresh → EmittedCode) → List FlatStmt → Expr → EmittedCode → EmittedCode
choice_emitted alternative c v y = emitted_to (c ++ flat_if v (as_one y.code) (as_alternative (alternative y.fresh).code) ∷ []) (alternative y.fresh).fresh

pub chosen : (code : List FlatStmt) (x : Valued) (consequent alternative : Fresh → EmittedCode) (after : List FlatStmt) (value : Expr) (fixed : Bool) (f : Fresh)
    (one : List FlatStmt) (g : Fresh) (two : List FlatStmt) (h : Fresh) (all : List FlatStmt)
    → behind code x ≡ valued after value fixed f → emitted_with [] (consequent f) ≡ emitted_to one g → emitted_with [] (alternative g) ≡ emitted_to two h
    → all ≡ after ++ flat_if value (as_one one) (as_alternative two) ∷ []
    → emitted_with code (choice_of x (consequent x.fresh).code (alternative (consequent x.fresh).fresh).code (alternative (consequent x.fresh).fresh).fresh) ≡ emitted_to all h
chosen code x consequent alternative after value fixed f one g two h all emitted first second pushed =
    ap (λ c. emitted_to c (alternative (consequent x.fresh).fresh).fresh)
    (sym (append_assoc code x.code (flat_if x.value (as_one (consequent x.fresh).code) (as_alternative (alternative (consequent x.fresh).fresh).code) ∷ []))) ∙
    (ap (λ (b : Valued). choice_emitted alternative b.code b.value (consequent b.fresh)) emitted ∙
    (ap (λ (y : EmittedCode). choice_emitted alternative after value y) first ∙
    (ap (λ (n : EmittedCode). emitted_to (after ++ flat_if value (as_one one) (as_alternative n.code) ∷ []) n.fresh) second ∙
    ap (λ c. emitted_to c h) (sym pushed))))

-- ---- loops

pub looped : (turn : Jumps → Fresh → EmittedCode) (code : List FlatStmt) (before f : Fresh) (j : Jumps) (inner : List FlatStmt) (g : Fresh) (all : List FlatStmt)
    → j ≡ jumps_of before → f ≡ with_jumps before → emitted_with [] (turn j f) ≡ emitted_to inner g
    → all ≡ code ++ flat_named j.break_name (flat_loop (as_one inner)) ∷ []
    → emitted_with code (emit_loop before.names (turn (jumps_of before) (with_jumps before))) ≡ emitted_to all g
looped turn code before f j inner g all names fresh done pushed =
    ap (λ (k : Jumps). emitted_with code (emit_loop k.break_name (turn k (with_jumps before)))) (sym names) ∙
    (ap (λ (f : Fresh). emitted_with code (emit_loop j.break_name (turn j f))) (sym fresh) ∙
    inside (λ c. flat_named j.break_name (flat_loop (as_one c))) code (turn j f) inner g all done pushed)

-- ---- statements in order

left_step : {A : Type 0} (xs : List A) (i : ℕ) (x : A) → i < length xs → x ≡ get_or xs i x → drop i xs ≡ x ∷ drop (i + 1) xs
left_step xs i x within is =
    drop-cons xs i x within ∙ (ap (λ y. y ∷ drop (suc i) xs) (sym is) ∙ ap (λ k. x ∷ drop k xs) (sym (add-one i)))

pub all_turn : (k : List Inlined) (i : Instance) (j : Jumps) (xs : List held.Stmt) (n : ℕ) (x : held.Stmt) (whole : EmittedCode) (code : List FlatStmt) (fresh : Fresh) (after : List FlatStmt) (f : Fresh)
    → n < length xs → x ≡ get_or xs n x → whole ≡ emitted_with code (emit_stmts k i j (plain_stmts (drop n xs)) fresh)
    → emitted_with code (emit_stmt k i j (plain_stmt x) fresh) ≡ emitted_to after f
    → whole ≡ emitted_with after (emit_stmts k i j (plain_stmts (drop (n + 1) xs)) f)
all_turn k i j xs n x whole code fresh after f within is invariant done =
    invariant ∙ (ap (λ l. emitted_with code (emit_stmts k i j (plain_stmts l) fresh)) (left_step xs n x within is) ∙
    next_emitted code (emit_stmt k i j (plain_stmt x) fresh) (emit_stmts k i j (plain_stmts (drop (n + 1) xs))) (emitted_to after f) done)

pub all_end : (k : List Inlined) (i : Instance) (j : Jumps) (xs : List held.Stmt) (n : ℕ) (whole : EmittedCode) (code : List FlatStmt) (fresh : Fresh)
    → length xs ≤ n → whole ≡ emitted_with code (emit_stmts k i j (plain_stmts (drop n xs)) fresh) → whole ≡ emitted_to code fresh
all_end k i j xs n whole code fresh within invariant =
    invariant ∙ (ap (λ l. emitted_with code (emit_stmts k i j (plain_stmts l) fresh)) (drop_all n xs within) ∙ none_emitted code fresh)

-- ---- functions

pub behind_zeros : (code zeros : List FlatStmt) (body : EmittedCode) (middle : List FlatStmt) (y : EmittedCode)
    → middle ≡ code ++ zeros → emitted_with middle body ≡ y → emitted_with code (emitted_with zeros body) ≡ y
behind_zeros code zeros body middle y set done =
    ap (λ c. emitted_to c body.fresh) (sym (append_assoc code zeros body.code)) ∙ (ap (λ c. emitted_with c body) (sym set) ∙ done)

-- ---- arguments

-- one more behind others
abbrev pub passed_then : (Fresh → Passed) → Passed → Passed
passed_then rest x = passed_behind x.code x.copies (rest x.fresh)

parts_behind : (code copies here back : List FlatStmt) (fresh : Fresh) (rest : Fresh → Passed)
    → passed_behind code copies (passed_behind here back (rest fresh)) ≡ passed_then rest (passed_to (code ++ here) (copies ++ back) fresh)
parts_behind code copies here back fresh rest =
    ap (λ c. passed_to c (copies ++ (back ++ (rest fresh).copies)) (rest fresh).fresh) (sym (append_assoc code here (rest fresh).code)) ∙
    ap (λ c. passed_to ((code ++ here) ++ (rest fresh).code) c (rest fresh).fresh) (sym (append_assoc copies back (rest fresh).copies))

alone : (code copies here back : List FlatStmt) (fresh : Fresh)
    → passed_to (code ++ (here ++ [])) (copies ++ (back ++ [])) fresh ≡ passed_to (code ++ here) (copies ++ back) fresh
alone code copies here back fresh =
    ap (λ c. passed_to (code ++ c) (copies ++ (back ++ [])) fresh) (append-nil here) ∙ ap (λ c. passed_to (code ++ here) (copies ++ c) fresh) (append-nil back)

nothing_behind : (code copies : List FlatStmt) (fresh : Fresh) → passed_to (code ++ []) (copies ++ []) fresh ≡ passed_to code copies fresh
nothing_behind code copies fresh = ap (λ c. passed_to c (copies ++ []) fresh) (append-nil code) ∙ ap (λ c. passed_to code c fresh) (append-nil copies)

parts_then : (code copies here back : List FlatStmt) (fresh : Fresh) (rest : Fresh → Passed) (y : Passed)
    → passed_to (code ++ (here ++ [])) (copies ++ (back ++ [])) fresh ≡ y
    → passed_behind code copies (passed_behind here back (rest fresh)) ≡ passed_then rest y
parts_then code copies here back fresh rest y done =
    parts_behind code copies here back fresh rest ∙ ap (passed_then rest) (sym (alone code copies here back fresh) ∙ done)

pub next_passed : (i : Instance) (at number : ℕ) (arg : Argument) (args : List Argument) (p : Parameter) (parameters : List Parameter)
    (code copies : List FlatStmt) (fresh : Fresh) (y : Passed)
    → passed_behind code copies (pass_all i at number (arg ∷ []) (p ∷ []) fresh) ≡ y
    → passed_behind code copies (pass_all i at number (arg ∷ args) (p ∷ parameters) fresh) ≡ passed_then (pass_all i at (suc number) args parameters) y
next_passed i at number (value_argument e) args p parameters code copies fresh y done =
    parts_then code copies ((e.emit fresh).code ++ flat_local number (Some (e.emit fresh).value) ∷ []) [] (e.emit fresh).fresh (pass_all i at (suc number) args parameters) y done
next_passed i at number (place_argument place indexes) args p parameters code copies fresh y done =
    parts_then code copies
    ((emit_all true indexes fresh).code ++ flat_local number (start_value p.copying (filled_place i.first place (emit_all true indexes fresh).values) at) ∷ [])
    (copy_back (filled_place i.first place (emit_all true indexes fresh).values) at number ∷ [])
    (emit_all true indexes fresh).fresh (pass_all i at (suc number) args parameters) y done

-- no more arguments, or no more parameters
pub none_passed : (i : Instance) (at number : ℕ) (args : List Argument) (parameters : List Parameter) (code copies : List FlatStmt) (fresh : Fresh)
    → (args ≡ []) ⊎ (parameters ≡ []) → passed_behind code copies (pass_all i at number args parameters fresh) ≡ passed_to code copies fresh
none_passed i at number [] parameters code copies fresh e = nothing_behind code copies fresh
none_passed i at number (value_argument e ∷ args) [] code copies fresh is = nothing_behind code copies fresh
none_passed i at number (place_argument place indexes ∷ args) [] code copies fresh is = nothing_behind code copies fresh
none_passed i at number (arg ∷ args) (p ∷ parameters) code copies fresh (inl is) = cc
none_passed i at number (arg ∷ args) (p ∷ parameters) code copies fresh (inr is) = cc

-- ---- one argument

value-done : (code copies : List FlatStmt) (number : ℕ) (x : Valued) (after : List FlatStmt) (v : Expr) (fixed : Bool) (f : Fresh) (all : List FlatStmt)
    → behind code x ≡ valued after v fixed f → all ≡ after ++ flat_local number (Some v) ∷ []
    → passed_to (code ++ ((x.code ++ flat_local number (Some x.value) ∷ []) ++ [])) (copies ++ []) x.fresh ≡ passed_to all copies f
value-done code copies number x after v fixed f all emitted pushed =
    alone code copies (x.code ++ flat_local number (Some x.value) ∷ []) [] x.fresh ∙
    (ap (λ c. passed_to (code ++ (x.code ++ flat_local number (Some x.value) ∷ [])) c x.fresh) (append-nil copies) ∙
    ap (λ (l : EmittedCode). passed_to l.code copies l.fresh) (with_value (λ e. flat_local number (Some e)) code x after v fixed f all emitted pushed))

place-done : (code copies : List FlatStmt) (at number : ℕ) (copying other : Copying) (x : Made Location) (after : List FlatStmt) (to : Location) (f : Fresh) (all back : List FlatStmt)
    → copying ≡ other → made (code ++ x.code) x.value x.fresh ≡ made after to f
    → all ≡ after ++ flat_local number (start_value other to at) ∷ [] → back ≡ copies ++ copy_back to at number ∷ []
    → passed_to (code ++ ((x.code ++ flat_local number (start_value copying x.value at) ∷ []) ++ [])) (copies ++ copy_back x.value at number ∷ []) x.fresh ≡ passed_to all back f
place-done code copies at number copying other x after to f all back same emitted pushed written =
    alone code copies (x.code ++ flat_local number (start_value copying x.value at) ∷ []) (copy_back x.value at number ∷ []) x.fresh ∙
    (ap (λ c. passed_to c (copies ++ copy_back x.value at number ∷ []) x.fresh) (sym (append_assoc code x.code (flat_local number (start_value copying x.value at) ∷ []))) ∙
    (ap (λ (m : Made Location). passed_to (m.code ++ flat_local number (start_value copying m.value at) ∷ []) (copies ++ copy_back m.value at number ∷ []) m.fresh) emitted ∙
    (ap (λ y. passed_to (after ++ flat_local number (start_value y to at) ∷ []) (copies ++ copy_back to at number ∷ []) f) same ∙
    (ap (λ c. passed_to c (copies ++ copy_back to at number ∷ []) f) (sym pushed) ∙
    ap (λ c. passed_to all c f) (sym written)))))

module _ (k : List Inlined) (i : Instance) (at number : ℕ) (code copies : List FlatStmt) (fresh : Fresh) (p : Parameter) (arg : Arg) where
  pub value-passed : {E : Type 0} (r : Result (Unit {0}) E) (value : Expr) (after : List FlatStmt) (v : Expr) (fixed : Bool) (f : Fresh) (all : List FlatStmt)
      → arg ≡ value_arg value → behind code (emitted k i value fresh) ≡ valued after v fixed f → OnOk r (all ≡ after ++ flat_local number (Some v) ∷ [])
      → OnOk r (passed_behind code copies (pass_all i at number (arg_emitter k i arg ∷ []) (p ∷ []) fresh) ≡ passed_to all copies f)
  value-passed (Ok u) value after v fixed f all is done h =
      ap (λ a. passed_behind code copies (pass_all i at number (arg_emitter k i a ∷ []) (p ∷ []) fresh)) is ∙
      value-done code copies number (emitted k i value fresh) after v fixed f all done h
  value-passed (Err x) value after v fixed f all is done h = h

  pub place-passed : {E : Type 0} (r : Result (Unit {0}) E) (place : Location) (other : Copying) (after : List FlatStmt) (to : Location) (f : Fresh) (all back : List FlatStmt)
      → arg ≡ place_arg place → p.copying ≡ other
      → made_behind code (filled_place i.first place) (emit_all true (place_emitters k i place) fresh) ≡ made after to f
      → OnOk r (all ≡ after ++ flat_local number (start_value other to at) ∷ []) → OnOk r (back ≡ copies ++ copy_back to at number ∷ [])
      → OnOk r (passed_behind code copies (pass_all i at number (arg_emitter k i arg ∷ []) (p ∷ []) fresh) ≡ passed_to all back f)
  place-passed (Ok u) place other after to f all back is same done h w =
      ap (λ a. passed_behind code copies (pass_all i at number (arg_emitter k i a ∷ []) (p ∷ []) fresh)) is ∙
      place-done code copies at number p.copying other
      (made (emit_all true (place_emitters k i place) fresh).code (filled_place i.first place (emit_all true (place_emitters k i place) fresh).values) (emit_all true (place_emitters k i place) fresh).fresh)
      after to f all back same done h w
  place-passed (Err x) place other after to f all back is same done h w = h

-- ---- arguments in order

module _ (k : List Inlined) (i : Instance) (at number : ℕ) (args : List held_arg.Arg) (parameters : List Parameter) where
  pub pass-turn : (n : ℕ) (a : held_arg.Arg) (p : Parameter) (whole : Passed) (code copies : List FlatStmt) (fresh : Fresh) (after back : List FlatStmt) (f : Fresh)
      → n < length args → a ≡ get_or args n a → n < length parameters → p ≡ get_or parameters n p
      → whole ≡ passed_behind code copies (pass_all i at (number + n) (args_emitters k i (plain_args (drop n args))) (drop n parameters) fresh)
      → passed_behind code copies (pass_all i at (number + n) (arg_emitter k i (plain_arg a) ∷ []) (p ∷ []) fresh) ≡ passed_to after back f
      → whole ≡ passed_behind after back (pass_all i at (number + (n + 1)) (args_emitters k i (plain_args (drop (n + 1) args))) (drop (n + 1) parameters) f)
  pass-turn n a p whole code copies fresh after back f within is within' is' invariant done =
      invariant ∙
      (ap (λ l. passed_behind code copies (pass_all i at (number + n) (args_emitters k i (plain_args l)) (drop n parameters) fresh)) (left_step args n a within is) ∙
      (ap (λ l. passed_behind code copies (pass_all i at (number + n) (arg_emitter k i (plain_arg a) ∷ args_emitters k i (plain_args (drop (n + 1) args))) l fresh)) (left_step parameters n p within' is') ∙
      (next_passed i at (number + n) (arg_emitter k i (plain_arg a)) (args_emitters k i (plain_args (drop (n + 1) args))) p (drop (n + 1) parameters) code copies fresh (passed_to after back f) done ∙
      ap (λ m. passed_behind after back (pass_all i at m (args_emitters k i (plain_args (drop (n + 1) args))) (drop (n + 1) parameters) f)) (further number n))))
    where
      further : (number n : ℕ) → suc (number + n) ≡ number + (n + 1)
      further number n = omega arith

  pub pass-end : (n : ℕ) (whole : Passed) (code copies : List FlatStmt) (fresh : Fresh) → min (length args) (length parameters) ≤ n
      → whole ≡ passed_behind code copies (pass_all i at (number + n) (args_emitters k i (plain_args (drop n args))) (drop n parameters) fresh)
      → whole ≡ passed_to code copies fresh
  pass-end n whole code copies fresh past invariant =
      invariant ∙ none_passed i at (number + n) (args_emitters k i (plain_args (drop n args))) (drop n parameters) code copies fresh (ended (short args parameters n past))
    where
      short : {A B : Type 0} (xs : List A) (ys : List B) (n : ℕ) → min (length xs) (length ys) ≤ n → (drop n xs ≡ []) ⊎ (drop n ys ≡ [])
      short [] ys n h = inl (drop_all n [] (omega arith))
      short (x ∷ xs) [] n h = inr (drop_all n [] (omega arith))
      short (x ∷ xs) (y ∷ ys) zero h = absurd (omega arith)
      short (x ∷ xs) (y ∷ ys) (suc n) h = short xs ys n (omega arith)

      ended : (drop n args ≡ []) ⊎ (drop n parameters ≡ []) → (args_emitters k i (plain_args (drop n args)) ≡ []) ⊎ (drop n parameters ≡ [])
      ended (inl e) = inl (ap (λ l. args_emitters k i (plain_args l)) e)
      ended (inr e) = inr e
