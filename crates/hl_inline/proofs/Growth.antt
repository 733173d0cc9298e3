-- What is free behind code is what was free before it, or more: variables and names are only added.
use Rattle.std.proofs.Common.{◌≡◌, refl, sym, subst, ℕ, suc, ◌≤◌, Bool, true, false, List, [], ◌∷◌, ◌++◌, map, Option, None, Some, arith}
use Rattle.std.specs.Prelude.{if◌then◌else◌, ◌||◌, ◌&&◌, not}
use Rattle.hl_meaning.specs.declared.program.Parameter.{Parameter}
use Rattle.hl_meaning.specs.Types.{Ty}
use Rattle.hl_meaning.specs.Trees.{Args, Expr, Form, MaybeStmt, Stmt, Stmts, an_expr, atomic_form, binary_form, block_stmt, break_stmt, build_form, call_form, choose_form, continue_stmt, convert_form, do_stmt, for_stmt, if_stmt, intrinsic_form, literal_form, local_stmt, method_form, more_args, more_stmts, no_args, no_stmt, no_stmts, pick_form, place_arg, read_form, return_stmt, run_stmt, some_stmt, type_of, unary_form, value_arg, while_stmt, write_form}
use Rattle.hl_meaning.specs.Programs.{FunctionDef}
use Rattle.typed_laws.proofs.OperandExpressions.{args_exprs, operand_exprs}
use Rattle.typed_laws.specs.Operands.{place_exprs}
use Rattle.hl_inline.specs.EmittedExpressions.{emitted, emitter}
use Rattle.hl_inline.specs.EmittedStatements.{Jumps, emit_local, emit_return, emit_run, emit_run_if, emit_stmt, emit_stmt_if, emit_stmts, emit_test_if, is_call, jumps_of, run_of, with_jumps}
use Rattle.hl_inline.specs.Emitting.{Emitter, Valued, any_call, emit_all, saved, settled, token_of}
use Rattle.hl_inline.specs.Fresh.{Fresh, Instance, next_of, unnamed}
use Rattle.hl_inline.specs.InlinedCalls.{Argument, Inlined, call, inlined_at, instance_of, pass_all, place_argument, result_variables, value_argument, with_instance}
use Rattle.hl_inline.specs.InlinedFunctions.{inlined, outside_loops}
use Rattle.typed_laws.proofs.Induction.{Every, Step, by_operands, every_back, every_front}
use Rattle.hl_inline.proofs.OperandLemmas.{form_emitter_all, args_by, args_emitters_all}
use Rattle.typed_laws.proofs.OperandValues.{is_call_form}
use Rattle.hl_inline.proofs.Fronts.{IsFront, front_more, front_refl, front_trans}

pub record Grows (fresh after : Fresh) : Type 0 where
  pub front : IsFront fresh.variables after.variables
  pub names : fresh.names ≤ after.names

pub grows_refl : (fresh : Fresh) → Grows fresh fresh
grows_refl fresh = record { front = front_refl fresh.variables; names = omega arith }

pub grows_trans : (a b d : Fresh) → Grows a b → Grows b d → Grows a d
grows_trans a b d g h = record { front = front_trans a.variables b.variables d.variables g.front h.front; names = omega (arith, g.names, h.names) }

abbrev pub EmitterGrows : Emitter → Type 0
EmitterGrows em = (fresh : Fresh) → Grows fresh (em.emit fresh).fresh

-- the body of a function that may be called
abbrev pub BodyGrows : Inlined → Type 0
BodyGrows g = (own : Instance) (fresh : Fresh) → Grows fresh (g.body own fresh).fresh

-- operands

settled_grow : (further : Bool) (x : Valued) → Grows x.fresh (settled further x).fresh
settled_grow further x = by_test (further && not x.fixed)
  where
    by_test : (b : Bool) → Grows x.fresh (if b then saved x else x).fresh
    by_test true = record { front = front_more x.fresh.variables (unnamed (type_of x.value) (token_of x.value) ∷ []); names = omega arith }
    by_test false = grows_refl x.fresh

operands_grow : (further : Bool) (es : List Emitter) → Every EmitterGrows es → (fresh : Fresh) → Grows fresh (emit_all further es fresh).fresh
operands_grow further [] all fresh = grows_refl fresh
operands_grow further (e ∷ es) all fresh =
    grows_trans fresh (e.emit fresh).fresh _ (all.0 fresh)
    (grows_trans (e.emit fresh).fresh (settled (further || any_call es) (e.emit fresh)).fresh _ (settled_grow (further || any_call es) (e.emit fresh))
    (operands_grow further es all.1 (settled (further || any_call es) (e.emit fresh)).fresh))

-- calls

abbrev ArgumentGrows : Argument → Type 0
ArgumentGrows (value_argument e) = EmitterGrows e
ArgumentGrows (place_argument place indexes) = Every EmitterGrows indexes

passed_grow : (i : Instance) (at number : ℕ) (args : List Argument) (parameters : List Parameter) → Every ArgumentGrows args → (fresh : Fresh) → Grows fresh (pass_all i at number args parameters fresh).fresh
passed_grow i at number [] [] all fresh = grows_refl fresh
passed_grow i at number [] (p ∷ parameters) all fresh = grows_refl fresh
passed_grow i at number (value_argument e ∷ args) [] all fresh = grows_refl fresh
passed_grow i at number (place_argument place indexes ∷ args) [] all fresh = grows_refl fresh
passed_grow i at number (value_argument e ∷ args) (p ∷ parameters) all fresh =
    grows_trans fresh (e.emit fresh).fresh _ (all.0 fresh) (passed_grow i at (suc number) args parameters all.1 (e.emit fresh).fresh)
passed_grow i at number (place_argument place indexes ∷ args) (p ∷ parameters) all fresh =
    grows_trans fresh (emit_all true indexes fresh).fresh _ (operands_grow true indexes all.0 fresh) (passed_grow i at (suc number) args parameters all.1 (emit_all true indexes fresh).fresh)

called_grows : (i : Instance) (ty : Ty) (at : ℕ) (g : Inlined) (args : List Argument) → BodyGrows g → Every ArgumentGrows args → EmitterGrows (call i ty at g args)
called_grows i ty at g args body all fresh =
    grows_trans fresh (with_instance g ty at fresh) _ (record { front = front_more fresh.variables (g.variables ++ result_variables ty at); names = omega arith })
    (grows_trans (with_instance g ty at fresh) (pass_all i at (next_of fresh) args g.parameters (with_instance g ty at fresh)).fresh _
    (passed_grow i at (next_of fresh) args g.parameters all (with_instance g ty at fresh))
    (body (instance_of g fresh) (pass_all i at (next_of fresh) args g.parameters (with_instance g ty at fresh)).fresh))

module _ (k : List Inlined) (i : Instance) (bodies : (function : ℕ) → BodyGrows (inlined_at k function)) where
  -- expressions

  abbrev Growing : Expr → Type 0
  Growing e = EmitterGrows (emitter k i e)

  emitters_grow : (es : List Expr) → Every Growing es → Every EmitterGrows (map (emitter k i) es)
  emitters_grow [] all = tt
  emitters_grow (e ∷ es) all = (all.0, emitters_grow es all.1)

  plain_grows : (ty : Ty) (at : ℕ) (form : Form) → is_call_form form ≡ false → Every Growing (operand_exprs form) → Growing (an_expr ty at form)
  plain_grows ty at form plain all =
      subst EmitterGrows (sym (form_emitter_all k i ty at form plain)) (λ fresh. operands_grow false (map (emitter k i) (operand_exprs form)) (emitters_grow (operand_exprs form) all) fresh)

  args_grow : (args : Args) → Every Growing (args_exprs args) → Every ArgumentGrows (args_by (emitter k i) args)
  args_grow no_args all = tt
  args_grow (more_args (value_arg value) rest) all = (all.0, args_grow rest all.1)
  args_grow (more_args (place_arg place) rest) all =
      (emitters_grow (place_exprs place) (every_front Growing (place_exprs place) (args_exprs rest) all), args_grow rest (every_back Growing (place_exprs place) (args_exprs rest) all))

  growing_step : Step Growing
  growing_step ty at (literal_form word) all = plain_grows ty at (literal_form word) refl all
  growing_step ty at (read_form place) all = plain_grows ty at (read_form place) refl all
  growing_step ty at (write_form to op common value old) all = plain_grows ty at (write_form to op common value old) refl all
  growing_step ty at (convert_form value) all = plain_grows ty at (convert_form value) refl all
  growing_step ty at (unary_form op value) all = plain_grows ty at (unary_form op value) refl all
  growing_step ty at (binary_form op left right) all = plain_grows ty at (binary_form op left right) refl all
  growing_step ty at (choose_form cond consequent alternative) all = plain_grows ty at (choose_form cond consequent alternative) refl all
  growing_step ty at (build_form parts) all = plain_grows ty at (build_form parts) refl all
  growing_step ty at (pick_form value parts) all = plain_grows ty at (pick_form value parts) refl all
  growing_step ty at (call_form function args) all =
      subst (λ l. EmitterGrows (call i ty at (inlined_at k function) l)) (sym (args_emitters_all k i args))
      (called_grows i ty at (inlined_at k function) (args_by (emitter k i) args) (bodies function) (args_grow args all))
  growing_step ty at (intrinsic_form number args) all = plain_grows ty at (intrinsic_form number args) refl all
  growing_step ty at (method_form resource count address value) all = plain_grows ty at (method_form resource count address value) refl all
  growing_step ty at (atomic_form target kind compare value original) all = plain_grows ty at (atomic_form target kind compare value original) refl all

  pub value_grows : (e : Expr) (fresh : Fresh) → Grows fresh (emitted k i e fresh).fresh
  value_grows e = by_operands Growing growing_step e

  -- statements

  pub run_grows : (value : Expr) (fresh : Fresh) → Grows fresh (emit_run k i value fresh).fresh
  run_grows value fresh = by_test (is_call value)
    where
      by_test : (b : Bool) → Grows fresh (run_of b (emitted k i value fresh)).fresh
      by_test true = value_grows value fresh
      by_test false = value_grows value fresh

  pub run_if_grows : (value : Option Expr) (fresh : Fresh) → Grows fresh (emit_run_if k i value fresh).fresh
  run_if_grows None fresh = grows_refl fresh
  run_if_grows (Some value) fresh = run_grows value fresh

  pub test_if_grows : (name : ℕ) (cond : Option Expr) (fresh : Fresh) → Grows fresh (emit_test_if k i name cond fresh).fresh
  test_if_grows name None fresh = grows_refl fresh
  test_if_grows name (Some cond) fresh = value_grows cond fresh

  local_grows : (variable : ℕ) (init : Option Expr) (fresh : Fresh) → Grows fresh (emit_local k i variable init fresh).fresh
  local_grows variable None fresh = grows_refl fresh
  local_grows variable (Some init) fresh = value_grows init fresh

  return_grows : (value : Option Expr) (fresh : Fresh) → Grows fresh (emit_return k i value fresh).fresh
  return_grows None fresh = grows_refl fresh
  return_grows (Some value) fresh = value_grows value fresh

  jumps_grow : (fresh after : Fresh) → Grows (with_jumps fresh) after → Grows fresh after
  jumps_grow fresh after g = record { front = g.front; names = omega (arith, g.names) }

  -- a test, a body and a step
  pub loop_grows : (cond step : Option Expr) (body : Stmt) (fresh : Fresh) → ((j : Jumps) (fresh' : Fresh) → Grows fresh' (emit_stmt k i j body fresh').fresh) →
      Grows fresh (emit_run_if k i step (emit_stmt k i (jumps_of fresh) body (emit_test_if k i fresh.names cond (with_jumps fresh)).fresh).fresh).fresh
  loop_grows cond step body fresh grows =
      let tested : Fresh = (emit_test_if k i fresh.names cond (with_jumps fresh)).fresh in
      let bodied : Fresh = (emit_stmt k i (jumps_of fresh) body tested).fresh in
      jumps_grow fresh _
      (grows_trans (with_jumps fresh) tested _ (test_if_grows fresh.names cond (with_jumps fresh))
      (grows_trans tested bodied _ (grows (jumps_of fresh) tested) (run_if_grows step bodied)))

  mutual
    pub stmt_grows : (stmt : Stmt) (j : Jumps) (fresh : Fresh) → Grows fresh (emit_stmt k i j stmt fresh).fresh
    stmt_grows (block_stmt body) j fresh = stmts_grow body j fresh
    stmt_grows (local_stmt variable init) j fresh = local_grows variable init fresh
    stmt_grows (run_stmt value) j fresh = run_grows value fresh
    stmt_grows (if_stmt cond consequent alternative) j fresh =
        grows_trans fresh (emitted k i cond fresh).fresh _ (value_grows cond fresh)
        (grows_trans (emitted k i cond fresh).fresh (emit_stmt k i j consequent (emitted k i cond fresh).fresh).fresh _ (stmt_grows consequent j (emitted k i cond fresh).fresh)
        (maybe_grows alternative j (emit_stmt k i j consequent (emitted k i cond fresh).fresh).fresh))
    stmt_grows (for_stmt init cond step body) j fresh =
        grows_trans fresh (emit_stmts k i j init fresh).fresh _ (stmts_grow init j fresh)
        (loop_grows cond step body (emit_stmts k i j init fresh).fresh (λ j' fresh'. stmt_grows body j' fresh'))
    stmt_grows (while_stmt cond body) j fresh =
        jumps_grow fresh _
        (grows_trans (with_jumps fresh) (emitted k i cond (with_jumps fresh)).fresh _ (value_grows cond (with_jumps fresh)) (stmt_grows body (jumps_of fresh) (emitted k i cond (with_jumps fresh)).fresh))
    stmt_grows (do_stmt body cond) j fresh =
        jumps_grow fresh _
        (grows_trans (with_jumps fresh) (emit_stmt k i (jumps_of fresh) body (with_jumps fresh)).fresh _ (stmt_grows body (jumps_of fresh) (with_jumps fresh)) (value_grows cond (emit_stmt k i (jumps_of fresh) body (with_jumps fresh)).fresh))
    stmt_grows break_stmt j fresh = grows_refl fresh
    stmt_grows continue_stmt j fresh = grows_refl fresh
    stmt_grows (return_stmt value) j fresh = return_grows value fresh

    pub stmts_grow : (stmts : Stmts) (j : Jumps) (fresh : Fresh) → Grows fresh (emit_stmts k i j stmts fresh).fresh
    stmts_grow no_stmts j fresh = grows_refl fresh
    stmts_grow (more_stmts first rest) j fresh =
        grows_trans fresh (emit_stmt k i j first fresh).fresh _ (stmt_grows first j fresh) (stmts_grow rest j (emit_stmt k i j first fresh).fresh)

    pub maybe_grows : (stmt : MaybeStmt) (j : Jumps) (fresh : Fresh) → Grows fresh (emit_stmt_if k i j stmt fresh).fresh
    maybe_grows no_stmt j fresh = grows_refl fresh
    maybe_grows (some_stmt body) j fresh = stmt_grows body j fresh

-- a function whose body calls such functions is one of them
pub inlined_grows : (k : List Inlined) (f : FunctionDef) → ((function : ℕ) → BodyGrows (inlined_at k function)) → BodyGrows (inlined k f)
inlined_grows k f bodies own fresh = stmts_grow k own bodies f.body outside_loops fresh
