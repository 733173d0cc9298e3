-- Each variable of a function has as many words as its type: where the function begins, and behind each statement.
use Rattle.std.proofs.Common.{◌≡◌, ◌∙◌, refl, sym, ap, subst, ℕ, zero, suc, ◌+◌, ◌≤◌, Bool, true, false, List, [], ◌∷◌, ◌++◌, map, length, Option, None, Some, arith}
use Rattle.std.specs.Prelude.{if◌then◌else◌, drop, option_map}
use Rattle.std.proofs.lemmas.List.{length-map, length-replicate}
use Rattle.lane_core.specs.Lane.{Exchange}
use Rattle.hl_meaning.specs.declared.program.Parameter.{Parameter}
use Rattle.hl_meaning.specs.Trees.{Expr, MaybeStmt, Stmt, Stmts, block_stmt, break_stmt, continue_stmt, do_stmt, for_stmt, if_stmt, local_stmt, more_stmts, no_stmt, no_stmts, return_stmt, run_stmt, some_stmt, type_of, while_stmt}
use Rattle.hl_meaning.specs.Places.{variable_type}
use Rattle.hl_meaning.specs.Programs.{FunctionDef, Variable}
use Rattle.hl_meaning.specs.Layout.{words_of}
use Rattle.hl_meaning.specs.WellFormed.{AreNumberedFrom, AreStmts, IsExpr, IsLocal, IsStmt, IsStmtIf, param_of, params_of}
use Rattle.hl_source.specs.State.{Context, Progress, State, after, ends_at, goes_with, variable_words}
use Rattle.hl_source.specs.Memory.{zeros_of}
use Rattle.hl_source.specs.Statements.{Doing, Leaving, after_body, after_statement, after_turn, at_end, by_break, by_continue, by_return, choice, computes, computes_if, condition, condition_if, declares, do_turn, does, does_all, does_if, for_turn, leaves, returns, turns}
use Rattle.hl_source.specs.Expressions.{evaluates}
use Rattle.hl_source.specs.SourceLane.{first_state}
use Rattle.typed_laws.specs.Fitting.{Fits, LeadsTo, Yields}
use Rattle.typed_laws.specs.Laws.{FitParams, HoldVariables}
use Rattle.typed_laws.proofs.Fitting.{fits_length}
use Rattle.typed_laws.proofs.Sound.{HasValue}
use Rattle.typed_laws.proofs.Variables.{sizes_in, sizes_set, variable_size}
use Rattle.typed_laws.proofs.Sizes.{keeps_expr, leads_after, leads_giving}

-- where a function begins

pub zeros_sizes : (c : Context) (vs : List Variable) → map length (map (λ v. zeros_of c v.ty) vs) ≡ map (λ v. words_of c.scope.structs v.ty) vs
zeros_sizes c [] = refl
zeros_sizes c (v ∷ vs) =
    ap (λ k. k ∷ map length (map (λ v. zeros_of c v.ty) vs)) (length-replicate (words_of c.scope.structs v.ty) 0) ∙ ap (λ l. words_of c.scope.structs v.ty ∷ l) (zeros_sizes c vs)

-- parameters whose variables begin at a number, and all variables from there on
parameters_sizes : (c : Context) (V : List Variable) (number : ℕ) (vs : List Variable) (parameters : List Parameter) (words : List (List ℕ)) → ((v : ℕ) → variable_type V (number + v) ≡ variable_type vs v) → AreNumberedFrom number parameters →
    length parameters ≤ length vs → FitParams c.scope.structs (map (param_of V) parameters) words →
    map length (words ++ map (λ v. zeros_of c v.ty) (drop (length parameters) vs)) ≡ map (λ v. words_of c.scope.structs v.ty) vs
parameters_sizes c V number vs [] [] same numbered fewer fit = zeros_sizes c vs
parameters_sizes c V number vs [] (ws ∷ words) same numbered fewer fit = absurd fit
parameters_sizes c V number [] (p ∷ parameters) words same numbered fewer fit = absurd (omega (arith, fewer))
parameters_sizes c V number (v ∷ vs) (p ∷ parameters) words same numbered fewer fit =
    by_words words (subst (λ o. FitParams c.scope.structs (option_map (λ ty. record { ty = ty; copying = p.copying }) o ∷ map (param_of V) parameters) words) typed fit)
    (λ rest fit'. parameters_sizes c V (suc number) vs parameters rest (λ u. subst (λ k. variable_type V k ≡ variable_type vs u) (one_more number u) (same (suc u))) numbered.1 (omega (arith, fewer)) fit')
  where
    nothing_more : (m : ℕ) → m + 0 ≡ m
    nothing_more m = omega arith

    one_more : (m u : ℕ) → m + suc u ≡ suc m + u
    one_more m u = omega arith

    typed : variable_type V p.variable ≡ Some v.ty
    typed = ap (variable_type V) (numbered.0 ∙ sym (nothing_more number)) ∙ same 0

    by_words : (words : List (List ℕ)) → FitParams c.scope.structs (Some (record { ty = v.ty; copying = p.copying }) ∷ map (param_of V) parameters) words →
        ((rest : List (List ℕ)) → FitParams c.scope.structs (map (param_of V) parameters) rest → map length (rest ++ map (λ v. zeros_of c v.ty) (drop (length parameters) vs)) ≡ map (λ v. words_of c.scope.structs v.ty) vs) →
        map length (words ++ map (λ v. zeros_of c v.ty) (drop (length parameters) vs)) ≡ words_of c.scope.structs v.ty ∷ map (λ v. words_of c.scope.structs v.ty) vs
    by_words [] fit again = absurd fit
    by_words (ws ∷ rest) fit again =
        ap (λ k. k ∷ map length (rest ++ map (λ v. zeros_of c v.ty) (drop (length parameters) vs))) (fits_length c.scope.structs v.ty ws fit.0) ∙ ap (λ l. words_of c.scope.structs v.ty ∷ l) (again rest fit.1)

pub first_sizes : (c : Context) (f : FunctionDef) (parameters : List (List ℕ)) (exchange : Exchange) → AreNumberedFrom 0 f.parameters → length f.parameters ≤ length f.variables → FitParams c.scope.structs (params_of f) parameters →
    HoldVariables c.scope.structs f.variables (first_state c f parameters exchange)
first_sizes c f parameters exchange numbered there fit = parameters_sizes c f.variables 0 f.variables f.parameters parameters (λ v. ap (variable_type f.variables) (nothing_before v)) numbered there fit
  where
    nothing_before : (v : ℕ) → 0 + v ≡ v
    nothing_before v = omega arith

-- a part that gives something of which more is known
leads_with : {A B : Type 0} (Q : A → Type 0) (P : State → Type 0) (p : Progress A) (g : A → State → Progress B) → Yields Q p → LeadsTo P p → ((a : A) (s : State) → Q a → P s → LeadsTo P (g a s)) → LeadsTo P (after p g)
leads_with Q P (goes_with a s) g y h next = next a s y h
leads_with Q P (ends_at run) g y h next = tt

module _ (c : Context) (n : ℕ) (sound : (e : Expr) → IsExpr c.scope e → HasValue c e) where
  abbrev pub Holding : State → Type 0
  Holding s = HoldVariables c.scope.structs c.scope.variables s

  -- what a statement does keeps the sizes of the variables
  abbrev pub Holds : Doing → Type 0
  Holds doing = (s : State) → Holding s → LeadsTo Holding (doing s)

  evaluates_holds : (e : Expr) (s : State) → Holding s → LeadsTo Holding (evaluates c e s)
  evaluates_holds e s h = keeps_expr (sizes_in c c.scope.variables) c e s h

  condition_holds : (e : Expr) (s : State) → Holding s → LeadsTo Holding (condition c e s)
  condition_holds e s h = leads_giving Holding (evaluates c e s) _ (evaluates_holds e s h)

  condition_if_holds : (cond : Option Expr) (s : State) → Holding s → LeadsTo Holding (condition_if c cond s)
  condition_if_holds None s h = h
  condition_if_holds (Some cond) s h = condition_holds cond s h

  computes_holds : (e : Expr) → Holds (computes c e)
  computes_holds e s h = leads_giving Holding (evaluates c e s) (λ _. at_end) (evaluates_holds e s h)

  computes_if_holds : (value : Option Expr) → Holds (computes_if c value)
  computes_if_holds None s h = h
  computes_if_holds (Some value) s h = computes_holds value s h

  declares_holds : (variable : ℕ) (init : Option Expr) → IsLocal c.scope variable init → Holds (declares c variable init)
  declares_holds variable None is s h = sizes_set variable (map (λ _. 0) (variable_words s variable)) s (length-map (variable_words s variable) (λ _. 0)) ∙ h
  declares_holds variable (Some init) is s h =
      leads_with (Fits c.scope.structs (type_of init)) Holding (evaluates c init s) _ ((sound init is.0).fits s) (evaluates_holds init s h) (λ words s1 fits h1.
      sizes_set variable words s1 (fits_length c.scope.structs (type_of init) words fits ∙ sym (variable_size c c.scope.variables s1 variable (type_of init) h1 is.1)) ∙ h1)

  returns_holds : (value : Option Expr) → Holds (returns c value)
  returns_holds None s h = h
  returns_holds (Some value) s h = leads_giving Holding (evaluates c value s) by_return (evaluates_holds value s h)

  behind_holds : (next : Doing) → Holds next → (leaving : Leaving) → Holds (after_statement next leaving)
  behind_holds next h at_end s holding = h s holding
  behind_holds next h by_break s holding = holding
  behind_holds next h by_continue s holding = holding
  behind_holds next h (by_return value) s holding = holding

  body_holds : (next : Doing) → Holds next → (leaving : Leaving) → Holds (after_body next leaving)
  body_holds next h at_end s holding = h s holding
  body_holds next h by_break s holding = holding
  body_holds next h by_continue s holding = h s holding
  body_holds next h (by_return value) s holding = holding

  turn_holds : (next : Doing) → Holds next → (leaving : Leaving) → Holds (after_turn next leaving)
  turn_holds next h at_end s holding = h s holding
  turn_holds next h by_break s holding = holding
  turn_holds next h by_continue s holding = h s holding
  turn_holds next h (by_return value) s holding = holding

  choice_holds : (b : Bool) (consequent alternative : Doing) → Holds consequent → Holds alternative → Holds (choice b consequent alternative)
  choice_holds true consequent alternative h h' s holding = h s holding
  choice_holds false consequent alternative h h' s holding = h' s holding

  turns_hold : (k : ℕ) (turn : Doing) → Holds turn → Holds (turns k turn)
  turns_hold zero turn h s holding = tt
  turns_hold (suc k) turn h s holding = leads_after Holding (turn s) _ (h s holding) (λ leaving s1 h1. turn_holds (turns k turn) (turns_hold k turn h) leaving s1 h1)

  for_turn_holds : (cond : Option Expr) (body : Doing) (step : Option Expr) → Holds body → Holds (for_turn c cond body step)
  for_turn_holds cond body step h s holding =
      leads_after Holding (condition_if c cond s) _ (condition_if_holds cond s holding) (λ goes_on s1 h1.
      choice_holds goes_on (λ s'. after (body s') (after_body (computes_if c step))) (leaves by_break)
      (λ s2 h2. leads_after Holding (body s2) _ (h s2 h2) (λ leaving s3 h3. body_holds (computes_if c step) (computes_if_holds step) leaving s3 h3)) (λ s2 h2. h2) s1 h1)

  do_turn_holds : (body : Doing) (cond : Expr) → Holds body → Holds (do_turn c body cond)
  do_turn_holds body cond h s holding =
      leads_after Holding (body s) _ (h s holding) (λ leaving s1 h1.
      body_holds (λ s'. after (condition c cond s') (λ goes_on. leaves (if goes_on then at_end else by_break)))
      (λ s2 h2. leads_giving Holding (condition c cond s2) (λ goes_on. if goes_on then at_end else by_break) (condition_holds cond s2 h2)) leaving s1 h1)

  mutual
    pub statement_holds : (stmt : Stmt) (in_loop : Bool) → IsStmt c.scope in_loop stmt → Holds (does c n stmt)
    statement_holds (block_stmt body) in_loop is s h = statements_hold body in_loop is s h
    statement_holds (local_stmt variable init) in_loop is s h = declares_holds variable init is s h
    statement_holds (run_stmt value) in_loop is s h = computes_holds value s h
    statement_holds (if_stmt cond consequent alternative) in_loop is s h =
        leads_after Holding (condition c cond s) _ (condition_holds cond s h) (λ is_true s1 h1.
        choice_holds is_true (λ s'. does c n consequent s') (λ s'. does_if c n alternative s') (λ s2 h2. statement_holds consequent in_loop is.1 s2 h2) (λ s2 h2. statement_if_holds alternative in_loop is.2 s2 h2) s1 h1)
    statement_holds (for_stmt init cond step body) in_loop is s h =
        leads_after Holding (does_all c n init s) _ (statements_hold init in_loop is.0 s h) (λ leaving s1 h1.
        behind_holds (turns n (for_turn c cond (λ s'. does c n body s') step)) (turns_hold n (for_turn c cond (λ s'. does c n body s') step) (for_turn_holds cond (λ s'. does c n body s') step (λ s2 h2. statement_holds body true is.3 s2 h2))) leaving s1 h1)
    statement_holds (while_stmt cond body) in_loop is s h =
        turns_hold n (for_turn c (Some cond) (λ s'. does c n body s') None) (for_turn_holds (Some cond) (λ s'. does c n body s') None (λ s2 h2. statement_holds body true is.1 s2 h2)) s h
    statement_holds (do_stmt body cond) in_loop is s h =
        turns_hold n (do_turn c (λ s'. does c n body s') cond) (do_turn_holds (λ s'. does c n body s') cond (λ s2 h2. statement_holds body true is.0 s2 h2)) s h
    statement_holds break_stmt in_loop is s h = h
    statement_holds continue_stmt in_loop is s h = h
    statement_holds (return_stmt value) in_loop is s h = returns_holds value s h

    pub statements_hold : (stmts : Stmts) (in_loop : Bool) → AreStmts c.scope in_loop stmts → Holds (does_all c n stmts)
    statements_hold no_stmts in_loop is s h = h
    statements_hold (more_stmts first rest) in_loop is s h =
        leads_after Holding (does c n first s) _ (statement_holds first in_loop is.0 s h) (λ leaving s1 h1. behind_holds (λ s'. does_all c n rest s') (λ s2 h2. statements_hold rest in_loop is.1 s2 h2) leaving s1 h1)

    statement_if_holds : (stmt : MaybeStmt) (in_loop : Bool) → IsStmtIf c.scope in_loop stmt → Holds (does_if c n stmt)
    statement_if_holds no_stmt in_loop is s h = h
    statement_if_holds (some_stmt body) in_loop is s h = statement_holds body in_loop is s h
