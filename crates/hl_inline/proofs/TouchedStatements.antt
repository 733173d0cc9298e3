-- What becomes of each statement of a function indexes what the statement does.
use Rattle.std.proofs.Common.{◌≡◌, ◌∙◌, refl, sym, ap, subst, ℕ, suc, ◌+◌, ◌≤◌, Bool, true, false, List, [], ◌∷◌, ◌++◌, length, Option, None, Some, slice_get, append_assoc, arith}
use Rattle.std.specs.Prelude.{◌||◌}
use Rattle.std.proofs.lemmas.List.{append-nil}
use Rattle.hl_meaning.specs.Trees.{Expr, MaybeStmt, Stmt, Stmts, an_expr, atomic_form, binary_form, block_stmt, break_stmt, build_form, call_form, choose_form, continue_stmt, convert_form, do_stmt, for_stmt, if_stmt, intrinsic_form, literal_form, local_stmt, method_form, more_stmts, no_stmt, no_stmts, pick_form, read_form, return_stmt, run_stmt, some_stmt, unary_form, while_stmt, write_form}
use Rattle.hl_meaning.specs.Programs.{FunctionDef, StructDef, Variable}
use Rattle.hl_meaning.specs.Places.{Scope}
use Rattle.hl_meaning.specs.WellFormed.{AreStmts, IsConditionIf, IsExpr, IsExprIf, IsLocal, IsReturn, IsStmt, IsStmtIf, callee_params}
use Rattle.hl_inline.specs.FlatTrees.{FlatStmt, flat_block, flat_if, flat_leave, flat_local, flat_run, no_flat_stmts, some_flat_stmt}
use Rattle.hl_inline.specs.IndexedVariables.{CallTree}
use Rattle.hl_inline.specs.Occurrences.{Occurrence, expr_occurrences, expr_option_occurrences, flat_stmt_if_occurrences, flat_stmt_occurrences, stmt_if_occurrences, stmt_occurrences, stmts_occurrences}
use Rattle.hl_inline.specs.EmittedCode.{EmittedCode, as_alternative, as_one, emitted_stmt, emitted_then}
use Rattle.hl_inline.specs.EmittedExpressions.{emitted}
use Rattle.hl_inline.specs.EmittedStatements.{Jumps, block_of, choice_of, emit_body, emit_local, emit_loop, emit_return, emit_run, emit_run_if, emit_stmt, emit_stmt_if, emit_stmts, emit_test, emit_test_if, jumps_of, run_of, set_to, test_of, with_jumps}
use Rattle.hl_inline.specs.Emitting.{Valued}
use Rattle.hl_inline.specs.Fresh.{Fresh, Instance, next_of}
use Rattle.hl_inline.specs.InlinedCalls.{Inlined, inlined_at}
use Rattle.typed_laws.proofs.Typed.{ParamsSome}
use Rattle.hl_inline.proofs.Touching.{Touches, or_both, or_false, touched, touches_both, touches_none, touches_same, touches_swapped}
use Rattle.hl_inline.proofs.TouchedNodes.{EmittedAs, grown_next, occurrences-append, occurrences_of, touched-append, untouched_reading}
use Rattle.hl_inline.proofs.TouchedExpressions.{CalleeThere, indexing}

-- code as one statement

pub one_touched : (code : List FlatStmt) (n : ℕ) → touched (flat_stmt_occurrences (as_one code)) n ≡ touched (occurrences_of code) n
one_touched [] n = refl
one_touched (x ∷ []) n = sym (ap (λ l. touched l n) (append-nil (flat_stmt_occurrences x)))
one_touched (x ∷ y ∷ code) n = refl

alternative_touched : (code : List FlatStmt) (n : ℕ) → touched (flat_stmt_if_occurrences (as_alternative code)) n ≡ touched (occurrences_of code) n
alternative_touched [] n = refl
alternative_touched (x ∷ []) n = one_touched (x ∷ []) n
alternative_touched (x ∷ y ∷ code) n = one_touched (x ∷ y ∷ code) n

-- code and one statement more
more_touched : (code : List FlatStmt) (stmt : FlatStmt) (n : ℕ) → touched (occurrences_of (code ++ stmt ∷ [])) n ≡ (touched (occurrences_of code) n || touched (flat_stmt_occurrences stmt) n)
more_touched code stmt n =
    ap (λ l. touched l n) (occurrences-append code (stmt ∷ [])) ∙ (touched-append (occurrences_of code) (flat_stmt_occurrences stmt ++ []) n ∙ ap (λ l. touched (occurrences_of code) n || touched l n) (append-nil (flat_stmt_occurrences stmt)))

-- what code indexes that stands for some occurrences
pub record EmittedCodeAs (structs : List StructDef) (before : List CallTree) (constants first size : ℕ) (occurrences : List Occurrence) (fresh : Fresh) (x : EmittedCode) : Type 0 where
  pub new : List Variable
  pub grows : x.fresh.variables ≡ fresh.variables ++ new
  pub touches : Touches structs before constants first size (next_of fresh) occurrences (touched (occurrences_of x.code)) new

module _ (structs : List StructDef) (before : List CallTree) (constants first size : ℕ) (high : constants ≤ first) where
  pub nothing_as : (fresh : Fresh) (code : List FlatStmt) → ((n : ℕ) → touched (occurrences_of code) n ≡ false) → EmittedCodeAs structs before constants first size [] fresh (record { code = code; fresh = fresh })
  nothing_as fresh code quiet = record {
    new = [];
    grows = sym (append-nil fresh.variables);
    touches = touches_same structs before constants first size (next_of fresh) [] _ _ [] (λ n. sym (quiet n)) (touches_none structs before constants first size (next_of fresh));
  }

  pub then_as : (xs ys : List Occurrence) (fresh : Fresh) (a : EmittedCode) (rest : Fresh → EmittedCode) → first + size ≤ next_of fresh → EmittedCodeAs structs before constants first size xs fresh a → EmittedCodeAs structs before constants first size ys a.fresh (rest a.fresh) →
      EmittedCodeAs structs before constants first size (xs ++ ys) fresh (emitted_then a rest)
  then_as xs ys fresh a rest room one other = record {
    new = one.new ++ other.new;
    grows = other.grows ∙ (ap (λ l. l ++ other.new) one.grows ∙ append_assoc fresh.variables one.new other.new);
    touches = touches_same structs before constants first size (next_of fresh) (xs ++ ys) _ _ _
        (λ n. sym (ap (λ l. touched l n) (occurrences-append a.code (rest a.fresh).code) ∙ touched-append (occurrences_of a.code) (occurrences_of (rest a.fresh).code) n))
        (touches_both structs before constants first size high (next_of fresh) (next_of a.fresh) room xs ys _ _ one.new other.new (grown_next fresh a.fresh one.new one.grows) one.touches other.touches);
  }

  swapped_as : (xs ys : List Occurrence) (fresh : Fresh) (x : EmittedCode) → EmittedCodeAs structs before constants first size (xs ++ ys) fresh x → EmittedCodeAs structs before constants first size (ys ++ xs) fresh x
  swapped_as xs ys fresh x l = record { new = l.new; grows = l.grows; touches = touches_swapped structs before constants first size (next_of fresh) xs ys _ l.new l.touches }

  -- code that indexes the same
  pub same_as : (occurrences : List Occurrence) (fresh : Fresh) (x : EmittedCode) (code : List FlatStmt) → ((n : ℕ) → touched (occurrences_of x.code) n ≡ touched (occurrences_of code) n) → EmittedCodeAs structs before constants first size occurrences fresh x →
      EmittedCodeAs structs before constants first size occurrences fresh (record { code = code; fresh = x.fresh })
  same_as occurrences fresh x code same l = record { new = l.new; grows = l.grows; touches = touches_same structs before constants first size (next_of fresh) occurrences _ _ l.new same l.touches }

  one_stmt : (stmt : FlatStmt) (n : ℕ) → touched (flat_stmt_occurrences stmt) n ≡ touched (occurrences_of (stmt ∷ [])) n
  one_stmt stmt n = sym (ap (λ l. touched l n) (append-nil (flat_stmt_occurrences stmt)))

  block_as : (occurrences : List Occurrence) (fresh : Fresh) (x : EmittedCode) → EmittedCodeAs structs before constants first size occurrences fresh x → EmittedCodeAs structs before constants first size occurrences fresh (block_of x)
  block_as occurrences fresh x l = same_as occurrences fresh x (block_of x).code (λ n. sym (ap (λ t. touched t n) (append-nil (occurrences_of x.code)))) l

  body_as : (name : ℕ) (occurrences : List Occurrence) (fresh : Fresh) (x : EmittedCode) → EmittedCodeAs structs before constants first size occurrences fresh x → EmittedCodeAs structs before constants first size occurrences fresh (emit_body name x)
  body_as name occurrences fresh x l = same_as occurrences fresh x (emit_body name x).code (λ n. sym (one_touched x.code n) ∙ one_stmt (as_one x.code) n) l

  loop_as : (name : ℕ) (occurrences : List Occurrence) (fresh : Fresh) (x : EmittedCode) → EmittedCodeAs structs before constants first size occurrences fresh x → EmittedCodeAs structs before constants first size occurrences fresh (emit_loop name x)
  loop_as name occurrences fresh x l = same_as occurrences fresh x (emit_loop name x).code (λ n. sym (one_touched x.code n) ∙ one_stmt (as_one x.code) n) l

  -- names of jumps are no variables
  jumps_as : (occurrences : List Occurrence) (fresh : Fresh) (x : EmittedCode) → EmittedCodeAs structs before constants first size occurrences (with_jumps fresh) x → EmittedCodeAs structs before constants first size occurrences fresh x
  jumps_as occurrences fresh x l = record { new = l.new; grows = l.grows; touches = l.touches }

  -- ---- an expression in a statement

  value_as : (e : Expr) (fresh : Fresh) (x : Valued) (code : List FlatStmt) → ((n : ℕ) → touched (occurrences_of x.code ++ expr_occurrences x.value) n ≡ touched (occurrences_of code) n) → EmittedAs structs before constants first size e fresh x →
      EmittedCodeAs structs before constants first size (expr_occurrences e) fresh (record { code = code; fresh = x.fresh })
  value_as e fresh x code same emitted = record { new = emitted.new; grows = emitted.grows; touches = touches_same structs before constants first size (next_of fresh) (expr_occurrences e) _ _ emitted.new same emitted.touches }

  set_as : (e : Expr) (variable : ℕ) (fresh : Fresh) (x : Valued) → EmittedAs structs before constants first size e fresh x → EmittedCodeAs structs before constants first size (expr_occurrences e) fresh (set_to variable x)
  set_as e variable fresh x emitted =
      value_as e fresh x (set_to variable x).code (λ n. touched-append (occurrences_of x.code) (expr_occurrences x.value) n ∙ sym (more_touched x.code (flat_local variable (Some x.value)) n)) emitted

  test_as : (e : Expr) (name : ℕ) (fresh : Fresh) (x : Valued) → EmittedAs structs before constants first size e fresh x → EmittedCodeAs structs before constants first size (expr_occurrences e) fresh (test_of name x)
  test_as e name fresh x emitted =
      value_as e fresh x (test_of name x).code (λ n. touched-append (occurrences_of x.code) (expr_occurrences x.value) n ∙
      (ap (λ l. touched (occurrences_of x.code) n || touched l n) (sym (append-nil (expr_occurrences x.value))) ∙ sym (more_touched x.code (flat_if x.value (flat_block no_flat_stmts) (some_flat_stmt (flat_leave name))) n))) emitted

  run_as : (e : Expr) (fresh : Fresh) (x : Valued) → EmittedAs structs before constants first size e fresh x → EmittedCodeAs structs before constants first size (expr_occurrences e) fresh (run_of false x)
  run_as e fresh x emitted =
      value_as e fresh x (run_of false x).code (λ n. touched-append (occurrences_of x.code) (expr_occurrences x.value) n ∙ sym (more_touched x.code (flat_run x.value) n)) emitted

  -- nothing is left of the value of a call
  run_call_as : (e : Expr) (fresh : Fresh) (x : Valued) → ((n : ℕ) → touched (expr_occurrences x.value) n ≡ false) → EmittedAs structs before constants first size e fresh x → EmittedCodeAs structs before constants first size (expr_occurrences e) fresh (run_of true x)
  run_call_as e fresh x quiet emitted =
      value_as e fresh x (run_of true x).code (λ n. touched-append (occurrences_of x.code) (expr_occurrences x.value) n ∙ or_false (touched (occurrences_of x.code) n) (touched (expr_occurrences x.value) n) (quiet n)) emitted

  or_if : (a b d e : Bool) → ((a || b) || (d || e)) ≡ (a || (b || (d || e)))
  or_if true b d e = refl
  or_if false b d e = refl

  choice_as : (cond : Expr) (xs ys : List Occurrence) (fresh : Fresh) (x : Valued) (a b : EmittedCode) → first + size ≤ next_of fresh → EmittedAs structs before constants first size cond fresh x →
      EmittedCodeAs structs before constants first size xs x.fresh a → EmittedCodeAs structs before constants first size ys a.fresh b →
      EmittedCodeAs structs before constants first size (expr_occurrences cond ++ (xs ++ ys)) fresh (choice_of x a.code b.code b.fresh)
  choice_as cond xs ys fresh x a b room emitted one other = record {
    new = emitted.new ++ (one.new ++ other.new);
    grows = other.grows ∙ (ap (λ l. l ++ other.new) (one.grows ∙ ap (λ l. l ++ one.new) emitted.grows) ∙
        (append_assoc (fresh.variables ++ emitted.new) one.new other.new ∙ append_assoc fresh.variables emitted.new (one.new ++ other.new)));
    touches = touches_same structs before constants first size (next_of fresh) (expr_occurrences cond ++ (xs ++ ys)) _ _ _ same
        (touches_both structs before constants first size high (next_of fresh) (next_of x.fresh) room (expr_occurrences cond) (xs ++ ys) _ _ emitted.new (one.new ++ other.new) (grown_next fresh x.fresh emitted.new emitted.grows) emitted.touches
        (touches_both structs before constants first size high (next_of x.fresh) (next_of a.fresh) (omega (arith, room, grown_next fresh x.fresh emitted.new emitted.grows)) xs ys _ _ one.new other.new
        (grown_next x.fresh a.fresh one.new one.grows) one.touches other.touches));
  }
    where
      same : (n : ℕ) → (touched (occurrences_of x.code ++ expr_occurrences x.value) n || (touched (occurrences_of a.code) n || touched (occurrences_of b.code) n)) ≡ touched (occurrences_of (choice_of x a.code b.code b.fresh).code) n
      same n =
          ap (λ q. q || (touched (occurrences_of a.code) n || touched (occurrences_of b.code) n)) (touched-append (occurrences_of x.code) (expr_occurrences x.value) n) ∙
          (or_if (touched (occurrences_of x.code) n) (touched (expr_occurrences x.value) n) (touched (occurrences_of a.code) n) (touched (occurrences_of b.code) n) ∙
          sym (more_touched x.code (flat_if x.value (as_one a.code) (as_alternative b.code)) n ∙
          ap (λ q. touched (occurrences_of x.code) n || q) (touched-append (expr_occurrences x.value) (flat_stmt_occurrences (as_one a.code) ++ flat_stmt_if_occurrences (as_alternative b.code)) n ∙
          ap (λ q. touched (expr_occurrences x.value) n || q) (touched-append (flat_stmt_occurrences (as_one a.code)) (flat_stmt_if_occurrences (as_alternative b.code)) n ∙
          or_both _ _ _ _ (one_touched a.code n) (alternative_touched b.code n)))))

module _ (s : Scope) (before : List CallTree) (first : ℕ) (high : length s.constants ≤ first) (k : List Inlined) (i : Instance) (is : i.first ≡ first)
    (callees : (function : ℕ) (d : FunctionDef) → slice_get s.functions function ≡ Some d → CalleeThere s before function d (inlined_at k function)) (some_params : (function : ℕ) → ParamsSome (callee_params (slice_get s.functions function))) where
  abbrev Here : List Occurrence → Fresh → EmittedCode → Type 0
  Here = EmittedCodeAs s.structs before (length s.constants) first (length s.variables)

  abbrev HasRoom : Fresh → Type 0
  HasRoom fresh = first + length s.variables ≤ next_of fresh

  expr_as : (e : Expr) → IsExpr s e → (fresh : Fresh) → HasRoom fresh → EmittedAs s.structs before (length s.constants) first (length s.variables) e fresh (emitted k i e fresh)
  expr_as e h fresh room = indexing s before first high k i is callees some_params e h fresh room

  more_room : (occurrences : List Occurrence) (fresh : Fresh) (x : EmittedCode) → Here occurrences fresh x → HasRoom fresh → HasRoom x.fresh
  more_room occurrences fresh x l room = omega (arith, room, grown_next fresh x.fresh l.new l.grows)

  emit_run_as : (e : Expr) → IsExpr s e → (fresh : Fresh) → HasRoom fresh → Here (expr_occurrences e) fresh (emit_run k i e fresh)
  emit_run_as (an_expr ty at (literal_form word)) h fresh room = run_as s.structs before (length s.constants) first (length s.variables) high _ fresh _ (expr_as (an_expr ty at (literal_form word)) h fresh room)
  emit_run_as (an_expr ty at (read_form place)) h fresh room = run_as s.structs before (length s.constants) first (length s.variables) high _ fresh _ (expr_as (an_expr ty at (read_form place)) h fresh room)
  emit_run_as (an_expr ty at (write_form to op common value old)) h fresh room = run_as s.structs before (length s.constants) first (length s.variables) high _ fresh _ (expr_as (an_expr ty at (write_form to op common value old)) h fresh room)
  emit_run_as (an_expr ty at (convert_form value)) h fresh room = run_as s.structs before (length s.constants) first (length s.variables) high _ fresh _ (expr_as (an_expr ty at (convert_form value)) h fresh room)
  emit_run_as (an_expr ty at (unary_form op value)) h fresh room = run_as s.structs before (length s.constants) first (length s.variables) high _ fresh _ (expr_as (an_expr ty at (unary_form op value)) h fresh room)
  emit_run_as (an_expr ty at (binary_form op left right)) h fresh room = run_as s.structs before (length s.constants) first (length s.variables) high _ fresh _ (expr_as (an_expr ty at (binary_form op left right)) h fresh room)
  emit_run_as (an_expr ty at (choose_form cond consequent alternative)) h fresh room =
      run_as s.structs before (length s.constants) first (length s.variables) high _ fresh _ (expr_as (an_expr ty at (choose_form cond consequent alternative)) h fresh room)
  emit_run_as (an_expr ty at (build_form parts)) h fresh room = run_as s.structs before (length s.constants) first (length s.variables) high _ fresh _ (expr_as (an_expr ty at (build_form parts)) h fresh room)
  emit_run_as (an_expr ty at (pick_form value parts)) h fresh room = run_as s.structs before (length s.constants) first (length s.variables) high _ fresh _ (expr_as (an_expr ty at (pick_form value parts)) h fresh room)
  emit_run_as (an_expr ty at (call_form function args)) h fresh room =
      run_call_as s.structs before (length s.constants) first (length s.variables) high _ fresh _ (λ n. untouched_reading ty at _ n) (expr_as (an_expr ty at (call_form function args)) h fresh room)
  emit_run_as (an_expr ty at (intrinsic_form number args)) h fresh room = run_as s.structs before (length s.constants) first (length s.variables) high _ fresh _ (expr_as (an_expr ty at (intrinsic_form number args)) h fresh room)
  emit_run_as (an_expr ty at (method_form resource count address value)) h fresh room =
      run_as s.structs before (length s.constants) first (length s.variables) high _ fresh _ (expr_as (an_expr ty at (method_form resource count address value)) h fresh room)
  emit_run_as (an_expr ty at (atomic_form target kind compare value original)) h fresh room =
      run_as s.structs before (length s.constants) first (length s.variables) high _ fresh _ (expr_as (an_expr ty at (atomic_form target kind compare value original)) h fresh room)

  nothing_here : (stmt : FlatStmt) → flat_stmt_occurrences stmt ≡ [] → (fresh : Fresh) → Here [] fresh (emitted_stmt stmt fresh)
  nothing_here stmt silent fresh =
      nothing_as s.structs before (length s.constants) first (length s.variables) high fresh (stmt ∷ []) (λ n. ap (λ l. touched (l ++ []) n) silent)

  emit_run_if_as : (e : Option Expr) → IsExprIf s e → (fresh : Fresh) → HasRoom fresh → Here (expr_option_occurrences e) fresh (emit_run_if k i e fresh)
  emit_run_if_as None h fresh room = nothing_as s.structs before (length s.constants) first (length s.variables) high fresh [] (λ n. refl)
  emit_run_if_as (Some e) h fresh room = emit_run_as e h fresh room

  emit_local_as : (variable : ℕ) (e : Option Expr) → IsLocal s variable e → (fresh : Fresh) → HasRoom fresh → Here (expr_option_occurrences e) fresh (emit_local k i variable e fresh)
  emit_local_as variable None h fresh room = nothing_here (flat_local (i.first + variable) None) refl fresh
  emit_local_as variable (Some e) h fresh room = set_as s.structs before (length s.constants) first (length s.variables) high e (i.first + variable) fresh (emitted k i e fresh) (expr_as e h.0 fresh room)

  emit_return_as : (e : Option Expr) → IsReturn s e → (fresh : Fresh) → HasRoom fresh → Here (expr_option_occurrences e) fresh (emit_return k i e fresh)
  emit_return_as None h fresh room = nothing_here (flat_leave i.exit) refl fresh
  emit_return_as (Some e) h fresh room =
      subst (λ l. Here l fresh (emit_return k i (Some e) fresh)) (append-nil (expr_occurrences e))
      (then_as s.structs before (length s.constants) first (length s.variables) high (expr_occurrences e) [] fresh (set_to i.result (emitted k i e fresh)) (emitted_stmt (flat_leave i.exit)) room
      (set_as s.structs before (length s.constants) first (length s.variables) high e i.result fresh (emitted k i e fresh) (expr_as e h.0 fresh room))
      (nothing_here (flat_leave i.exit) refl (emitted k i e fresh).fresh))

  emit_test_as : (name : ℕ) (e : Expr) → IsExpr s e → (fresh : Fresh) → HasRoom fresh → Here (expr_occurrences e) fresh (emit_test k i name e fresh)
  emit_test_as name e h fresh room = test_as s.structs before (length s.constants) first (length s.variables) high e name fresh (emitted k i e fresh) (expr_as e h fresh room)

  emit_test_if_as : (name : ℕ) (e : Option Expr) → IsConditionIf s e → (fresh : Fresh) → HasRoom fresh → Here (expr_option_occurrences e) fresh (emit_test_if k i name e fresh)
  emit_test_if_as name None h fresh room = nothing_as s.structs before (length s.constants) first (length s.variables) high fresh [] (λ n. refl)
  emit_test_if_as name (Some e) h fresh room = emit_test_as name e h.0 fresh room

  -- ---- loops, by their parts

  abbrev Part : List Occurrence → (Fresh → EmittedCode) → Type 0
  Part occurrences part = (fresh : Fresh) → HasRoom fresh → Here occurrences fresh (part fresh)

  then_part : (xs ys : List Occurrence) (one other : Fresh → EmittedCode) → Part xs one → Part ys other → Part (xs ++ ys) (λ fresh. emitted_then (one fresh) other)
  then_part xs ys one other a b fresh room =
      let first_part : Here xs fresh (one fresh) = a fresh room in
      then_as s.structs before (length s.constants) first (length s.variables) high xs ys fresh (one fresh) other room first_part (b (one fresh).fresh (more_room xs fresh (one fresh) first_part room))

  loop_part : (occurrences : List Occurrence) (name : ℕ) (turn : Fresh → EmittedCode) → Part occurrences turn → (fresh : Fresh) → HasRoom fresh → Here occurrences fresh (emit_loop name (turn (with_jumps fresh)))
  loop_part occurrences name turn part fresh room =
      loop_as s.structs before (length s.constants) first (length s.variables) high name occurrences fresh (turn (with_jumps fresh))
      (jumps_as s.structs before (length s.constants) first (length s.variables) high occurrences fresh (turn (with_jumps fresh)) (part (with_jumps fresh) room))

  body_part : (occurrences : List Occurrence) (name : ℕ) (body : Fresh → EmittedCode) → Part occurrences body → Part occurrences (λ fresh. emit_body name (body fresh))
  body_part occurrences name body part fresh room = body_as s.structs before (length s.constants) first (length s.variables) high name occurrences fresh (body fresh) (part fresh room)

  swapped_part : (xs ys : List Occurrence) (part : Fresh → EmittedCode) → Part (xs ++ ys) part → Part (ys ++ xs) part
  swapped_part xs ys part whole fresh room = swapped_as s.structs before (length s.constants) first (length s.variables) high xs ys fresh (part fresh) (whole fresh room)

  mutual
    pub emit_stmt_as : (j : Jumps) (in_loop : Bool) (stmt : Stmt) → IsStmt s in_loop stmt → (fresh : Fresh) → HasRoom fresh → Here (stmt_occurrences stmt) fresh (emit_stmt k i j stmt fresh)
    emit_stmt_as j in_loop (block_stmt body) h fresh room = block_as s.structs before (length s.constants) first (length s.variables) high (stmts_occurrences body) fresh (emit_stmts k i j body fresh) (emit_stmts_as j in_loop body h fresh room)
    emit_stmt_as j in_loop (local_stmt variable init) h fresh room = emit_local_as variable init h fresh room
    emit_stmt_as j in_loop (run_stmt value) h fresh room = emit_run_as value h fresh room
    emit_stmt_as j in_loop (if_stmt cond consequent alternative) h fresh room =
        let x : Valued = emitted k i cond fresh in
        let e : EmittedAs s.structs before (length s.constants) first (length s.variables) cond fresh x = expr_as cond h.0.0 fresh room in
        let inside : HasRoom x.fresh = omega (arith, room, grown_next fresh x.fresh e.new e.grows) in
        let a : Here (stmt_occurrences consequent) x.fresh (emit_stmt k i j consequent x.fresh) = emit_stmt_as j in_loop consequent h.1 x.fresh inside in
        choice_as s.structs before (length s.constants) first (length s.variables) high cond (stmt_occurrences consequent) (stmt_if_occurrences alternative) fresh x (emit_stmt k i j consequent x.fresh)
        (emit_stmt_if k i j alternative (emit_stmt k i j consequent x.fresh).fresh) room e a
        (emit_stmt_if_as j in_loop alternative h.2 (emit_stmt k i j consequent x.fresh).fresh (more_room (stmt_occurrences consequent) x.fresh (emit_stmt k i j consequent x.fresh) a inside))
    emit_stmt_as j in_loop (for_stmt init cond step body) h fresh room =
        block_as s.structs before (length s.constants) first (length s.variables) high (stmts_occurrences init ++ (expr_option_occurrences cond ++ (expr_option_occurrences step ++ stmt_occurrences body))) fresh _
        (then_part (stmts_occurrences init) (expr_option_occurrences cond ++ (expr_option_occurrences step ++ stmt_occurrences body)) (emit_stmts k i j init) _ (emit_stmts_as j in_loop init h.0)
        (λ inner inner_room. loop_part (expr_option_occurrences cond ++ (expr_option_occurrences step ++ stmt_occurrences body)) inner.names _
        (then_part (expr_option_occurrences cond) (expr_option_occurrences step ++ stmt_occurrences body) (emit_test_if k i inner.names cond) _ (emit_test_if_as inner.names cond h.1)
        (swapped_part (stmt_occurrences body) (expr_option_occurrences step) _
        (then_part (stmt_occurrences body) (expr_option_occurrences step) (λ fresh'. emit_body (suc inner.names) (emit_stmt k i (jumps_of inner) body fresh')) (emit_run_if k i step)
        (body_part (stmt_occurrences body) (suc inner.names) (emit_stmt k i (jumps_of inner) body) (emit_stmt_as (jumps_of inner) true body h.3)) (emit_run_if_as step h.2)))) inner inner_room) fresh room)
    emit_stmt_as j in_loop (while_stmt cond body) h fresh room =
        loop_part (expr_occurrences cond ++ stmt_occurrences body) fresh.names _
        (then_part (expr_occurrences cond) (stmt_occurrences body) (emit_test k i fresh.names cond) (λ fresh'. emit_body (suc fresh.names) (emit_stmt k i (jumps_of fresh) body fresh')) (emit_test_as fresh.names cond h.0.0)
        (body_part (stmt_occurrences body) (suc fresh.names) (emit_stmt k i (jumps_of fresh) body) (emit_stmt_as (jumps_of fresh) true body h.1))) fresh room
    emit_stmt_as j in_loop (do_stmt body cond) h fresh room =
        loop_part (stmt_occurrences body ++ expr_occurrences cond) fresh.names _
        (then_part (stmt_occurrences body) (expr_occurrences cond) (λ fresh'. emit_body (suc fresh.names) (emit_stmt k i (jumps_of fresh) body fresh')) (emit_test k i fresh.names cond)
        (body_part (stmt_occurrences body) (suc fresh.names) (emit_stmt k i (jumps_of fresh) body) (emit_stmt_as (jumps_of fresh) true body h.0)) (emit_test_as fresh.names cond h.1.0)) fresh room
    emit_stmt_as j in_loop break_stmt h fresh room = nothing_here (flat_leave j.break_name) refl fresh
    emit_stmt_as j in_loop continue_stmt h fresh room = nothing_here (flat_leave j.continue_name) refl fresh
    emit_stmt_as j in_loop (return_stmt value) h fresh room = emit_return_as value h fresh room

    pub emit_stmts_as : (j : Jumps) (in_loop : Bool) (stmts : Stmts) → AreStmts s in_loop stmts → (fresh : Fresh) → HasRoom fresh → Here (stmts_occurrences stmts) fresh (emit_stmts k i j stmts fresh)
    emit_stmts_as j in_loop no_stmts h fresh room = nothing_as s.structs before (length s.constants) first (length s.variables) high fresh [] (λ n. refl)
    emit_stmts_as j in_loop (more_stmts x rest) h fresh room =
        let one : Here (stmt_occurrences x) fresh (emit_stmt k i j x fresh) = emit_stmt_as j in_loop x h.0 fresh room in
        then_as s.structs before (length s.constants) first (length s.variables) high (stmt_occurrences x) (stmts_occurrences rest) fresh (emit_stmt k i j x fresh) (λ fresh'. emit_stmts k i j rest fresh') room one
        (emit_stmts_as j in_loop rest h.1 (emit_stmt k i j x fresh).fresh (more_room (stmt_occurrences x) fresh (emit_stmt k i j x fresh) one room))

    pub emit_stmt_if_as : (j : Jumps) (in_loop : Bool) (stmt : MaybeStmt) → IsStmtIf s in_loop stmt → (fresh : Fresh) → HasRoom fresh → Here (stmt_if_occurrences stmt) fresh (emit_stmt_if k i j stmt fresh)
    emit_stmt_if_as j in_loop no_stmt h fresh room = nothing_as s.structs before (length s.constants) first (length s.variables) high fresh [] (λ n. refl)
    emit_stmt_if_as j in_loop (some_stmt body) h fresh room = emit_stmt_as j in_loop body h fresh room
