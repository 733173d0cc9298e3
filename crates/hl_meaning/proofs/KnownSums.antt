-- What a part of a program holds, where the sums of the functions that it may call are stopped.
use Rattle.std.proofs.Common.{◌≡◌, ◌∙◌, refl, sym, ap, ℕ, ◌+◌, max, List, [], ◌∷◌, ◌++◌, map, Option, None, Some, option_map, slice_get, unwrap_or}
use Rattle.std.proofs.lemmas.Option.{slice_get-map}
use Rattle.hl_meaning.specs.declared.sums.Sums.{Sums}
use Rattle.hl_meaning.specs.Trees.{Arg, Args, Expr, Exprs, Form, Location, MaybeExpr, MaybeLocation, MaybeStmt, PathPart, PathParts, Root, Stmt, Stmts, Target, a_location, an_expr, atomic_form, binary_form, block_stmt, break_stmt, build_form, bytes_target, call_form, choose_form, constant_root, continue_stmt, convert_form, do_stmt, element_root, for_stmt, if_stmt, index_part, intrinsic_form, literal_form, local_stmt, member_part, method_form, more_args, more_exprs, more_parts, more_stmts, no_args, no_expr, no_exprs, no_location, no_parts, no_stmt, no_stmts, pick_form, place_arg, place_target, read_form, return_stmt, run_stmt, shared_root, some_expr, some_location, some_stmt, swizzle_part, unary_form, value_arg, variable_root, while_stmt, write_form}
use Rattle.hl_meaning.specs.Programs.{FunctionDef, StructDef}
use Rattle.hl_meaning.specs.Layout.{words_of}
use Rattle.hl_meaning.specs.Sums.{Counted, arg_sums, args_sums, both, branch, callee_sums, expr_if_sums, expr_option_sums, expr_sums, exprs_sums, form_sums, function_sums, functions_sums, indexes_sums, location_if_sums, location_sums, memory, node, nothing, part_sums, parts_sums, root_sums, step, stmt_if_sums, stmt_sums, stmts_sums, stop_all, target_sums, variable_words}
use Rattle.hl_meaning.proofs.SumLemmas.{stop_all-both, stop_all-branch, stop_all-node_of, stop_all-step, stop_all-twice}

-- the same with the sums of the functions stopped
abbrev pub stopped_known : Counted → Counted
stopped_known k = record { structs = k.structs; functions = map stop_all k.functions }

pub both-alike : (a a' b b' : Sums) → stop_all a ≡ stop_all a' → stop_all b ≡ stop_all b' → stop_all (both a b) ≡ stop_all (both a' b')
both-alike a a' b b' left right =
    sym (stop_all-both a b) ∙ (ap (λ s. stop_all (both s (stop_all b))) left ∙ (ap (λ s. stop_all (both (stop_all a') s)) right ∙ stop_all-both a' b'))

pub node-alike : (n : ℕ) (a a' : Sums) → stop_all a ≡ stop_all a' → stop_all (node n a) ≡ stop_all (node n a')
node-alike n a a' is = sym (stop_all-node_of n a) ∙ (ap (λ s. stop_all (node n s)) is ∙ stop_all-node_of n a')

pub step-alike : (a a' : Sums) → stop_all a ≡ stop_all a' → stop_all (step 1 a) ≡ stop_all (step 1 a')
step-alike a a' is = sym (stop_all-step a) ∙ (ap (λ s. stop_all (step 1 s)) is ∙ stop_all-step a')

pub branch-alike : (a a' : Sums) → stop_all a ≡ stop_all a' → stop_all (branch a) ≡ stop_all (branch a')
branch-alike a a' is = sym (stop_all-branch a) ∙ (ap (λ s. stop_all (branch s)) is ∙ stop_all-branch a')

-- the function of a number among stopped sums
pub get-stopped : (known : List Sums) (n : ℕ) → unwrap_or (slice_get (map stop_all known) n) nothing ≡ stop_all (unwrap_or (slice_get known n) nothing)
get-stopped known n = ap (λ o. unwrap_or o nothing) (slice_get-map stop_all known n) ∙ by_option (slice_get known n)
  where
    by_option : (o : Option Sums) → unwrap_or (option_map stop_all o) nothing ≡ stop_all (unwrap_or o nothing)
    by_option None = refl
    by_option (Some s) = refl

pub callee-alike : (k : Counted) (n : ℕ) → stop_all (callee_sums (stopped_known k) n) ≡ stop_all (callee_sums k n)
callee-alike k n = ap stop_all (get-stopped k.functions n) ∙ stop_all-twice (callee_sums k n)

mutual
  pub expr-alike : (k : Counted) (e : Expr) → stop_all (expr_sums (stopped_known k) e) ≡ stop_all (expr_sums k e)
  expr-alike k (an_expr ty at form) = node-alike (max 1 (words_of k.structs ty)) _ _ (form-alike k form)

  pub form-alike : (k : Counted) (f : Form) → stop_all (form_sums (stopped_known k) f) ≡ stop_all (form_sums k f)
  form-alike k (literal_form word) = refl
  form-alike k (read_form place) = location-alike k place
  form-alike k (write_form to op common value old) = both-alike _ (location_sums k to) _ (expr_sums k value) (location-alike k to) (expr-alike k value)
  form-alike k (convert_form value) = expr-alike k value
  form-alike k (unary_form op value) = expr-alike k value
  form-alike k (binary_form op left right) = both-alike _ (expr_sums k left) _ (expr_sums k right) (expr-alike k left) (expr-alike k right)
  form-alike k (choose_form cond consequent alternative) =
      both-alike _ (expr_sums k cond) _ (both (expr_sums k consequent) (expr_sums k alternative)) (expr-alike k cond)
      (both-alike _ (expr_sums k consequent) _ (expr_sums k alternative) (expr-alike k consequent) (expr-alike k alternative))
  form-alike k (build_form parts) = exprs-alike k parts
  form-alike k (pick_form value parts) = both-alike _ (expr_sums k value) _ (indexes_sums k parts) (expr-alike k value) (indexes-alike k parts)
  form-alike k (call_form function args) = both-alike _ (args_sums k args) _ (callee_sums k function) (args-alike k args) (callee-alike k function)
  form-alike k (intrinsic_form number args) = exprs-alike k args
  form-alike k (method_form resource count address value) =
      both-alike _ (expr_sums k address) _ (expr_if_sums k value) (expr-alike k address) (expr_if-alike k value)
  form-alike k (atomic_form target kind compare value original) =
      both-alike _ (target_sums k target) _ (both (expr_if_sums k compare) (both (expr_sums k value) (location_if_sums k original))) (target-alike k target)
      (both-alike _ (expr_if_sums k compare) _ (both (expr_sums k value) (location_if_sums k original)) (expr_if-alike k compare)
      (both-alike _ (expr_sums k value) _ (location_if_sums k original) (expr-alike k value) (location_if-alike k original)))

  pub location-alike : (k : Counted) (l : Location) → stop_all (location_sums (stopped_known k) l) ≡ stop_all (location_sums k l)
  location-alike k (a_location ty root parts) = both-alike _ (root_sums k root) _ (parts_sums k parts) (root-alike k root) (parts-alike k parts)

  pub root-alike : (k : Counted) (r : Root) → stop_all (root_sums (stopped_known k) r) ≡ stop_all (root_sums k r)
  root-alike k (variable_root number) = refl
  root-alike k (constant_root number) = refl
  root-alike k (shared_root number) = refl
  root-alike k (element_root resource index) = expr-alike k index

  pub parts-alike : (k : Counted) (ps : PathParts) → stop_all (parts_sums (stopped_known k) ps) ≡ stop_all (parts_sums k ps)
  parts-alike k no_parts = refl
  parts-alike k (more_parts first rest) =
      both-alike _ (step 1 (part_sums k first)) _ (parts_sums k rest) (step-alike _ (part_sums k first) (part-alike k first)) (parts-alike k rest)

  pub indexes-alike : (k : Counted) (ps : PathParts) → stop_all (indexes_sums (stopped_known k) ps) ≡ stop_all (indexes_sums k ps)
  indexes-alike k no_parts = refl
  indexes-alike k (more_parts first rest) = both-alike _ (part_sums k first) _ (indexes_sums k rest) (part-alike k first) (indexes-alike k rest)

  pub part-alike : (k : Counted) (p : PathPart) → stop_all (part_sums (stopped_known k) p) ≡ stop_all (part_sums k p)
  part-alike k (member_part number) = refl
  part-alike k (index_part index) = expr-alike k index
  part-alike k (swizzle_part letters) = refl

  pub exprs-alike : (k : Counted) (es : Exprs) → stop_all (exprs_sums (stopped_known k) es) ≡ stop_all (exprs_sums k es)
  exprs-alike k no_exprs = refl
  exprs-alike k (more_exprs first rest) = both-alike _ (expr_sums k first) _ (exprs_sums k rest) (expr-alike k first) (exprs-alike k rest)

  pub args-alike : (k : Counted) (as' : Args) → stop_all (args_sums (stopped_known k) as') ≡ stop_all (args_sums k as')
  args-alike k no_args = refl
  args-alike k (more_args first rest) = both-alike _ (arg_sums k first) _ (args_sums k rest) (arg-alike k first) (args-alike k rest)

  pub arg-alike : (k : Counted) (a : Arg) → stop_all (arg_sums (stopped_known k) a) ≡ stop_all (arg_sums k a)
  arg-alike k (value_arg value) = expr-alike k value
  arg-alike k (place_arg place) = location-alike k place

  pub target-alike : (k : Counted) (t : Target) → stop_all (target_sums (stopped_known k) t) ≡ stop_all (target_sums k t)
  target-alike k (place_target place) = location-alike k place
  target-alike k (bytes_target resource address) = expr-alike k address

  pub expr_if-alike : (k : Counted) (e : MaybeExpr) → stop_all (expr_if_sums (stopped_known k) e) ≡ stop_all (expr_if_sums k e)
  expr_if-alike k no_expr = refl
  expr_if-alike k (some_expr value) = expr-alike k value

  pub location_if-alike : (k : Counted) (l : MaybeLocation) → stop_all (location_if_sums (stopped_known k) l) ≡ stop_all (location_if_sums k l)
  location_if-alike k no_location = refl
  location_if-alike k (some_location place) = location-alike k place

pub option-alike : (k : Counted) (e : Option Expr) → stop_all (expr_option_sums (stopped_known k) e) ≡ stop_all (expr_option_sums k e)
option-alike k None = refl
option-alike k (Some value) = expr-alike k value

mutual
  pub stmt-alike : (k : Counted) (s : Stmt) → stop_all (stmt_sums (stopped_known k) s) ≡ stop_all (stmt_sums k s)
  stmt-alike k (block_stmt body) = node-alike 1 _ (stmts_sums k body) (stmts-alike k body)
  stmt-alike k (local_stmt variable init) = node-alike 0 _ (expr_option_sums k init) (option-alike k init)
  stmt-alike k (run_stmt value) = node-alike 1 _ (expr_sums k value) (expr-alike k value)
  stmt-alike k (if_stmt cond consequent alternative) =
      branch-alike _ (both (expr_sums k cond) (both (stmt_sums k consequent) (stmt_if_sums k alternative)))
      (both-alike _ (expr_sums k cond) _ (both (stmt_sums k consequent) (stmt_if_sums k alternative)) (expr-alike k cond)
      (both-alike _ (stmt_sums k consequent) _ (stmt_if_sums k alternative) (stmt-alike k consequent) (stmt_if-alike k alternative)))
  stmt-alike k (for_stmt init cond step body) =
      branch-alike _ (both (stmts_sums k init) (both (expr_option_sums k cond) (both (expr_option_sums k step) (stmt_sums k body))))
      (both-alike _ (stmts_sums k init) _ (both (expr_option_sums k cond) (both (expr_option_sums k step) (stmt_sums k body))) (stmts-alike k init)
      (both-alike _ (expr_option_sums k cond) _ (both (expr_option_sums k step) (stmt_sums k body)) (option-alike k cond)
      (both-alike _ (expr_option_sums k step) _ (stmt_sums k body) (option-alike k step) (stmt-alike k body))))
  stmt-alike k (while_stmt cond body) =
      branch-alike _ (both (expr_sums k cond) (stmt_sums k body)) (both-alike _ (expr_sums k cond) _ (stmt_sums k body) (expr-alike k cond) (stmt-alike k body))
  stmt-alike k (do_stmt body cond) =
      branch-alike _ (both (stmt_sums k body) (expr_sums k cond)) (both-alike _ (stmt_sums k body) _ (expr_sums k cond) (stmt-alike k body) (expr-alike k cond))
  stmt-alike k break_stmt = refl
  stmt-alike k continue_stmt = refl
  stmt-alike k (return_stmt value) = branch-alike _ (expr_option_sums k value) (option-alike k value)

  pub stmts-alike : (k : Counted) (ss : Stmts) → stop_all (stmts_sums (stopped_known k) ss) ≡ stop_all (stmts_sums k ss)
  stmts-alike k no_stmts = refl
  stmts-alike k (more_stmts first rest) = both-alike _ (stmt_sums k first) _ (stmts_sums k rest) (stmt-alike k first) (stmts-alike k rest)

  pub stmt_if-alike : (k : Counted) (s : MaybeStmt) → stop_all (stmt_if_sums (stopped_known k) s) ≡ stop_all (stmt_if_sums k s)
  stmt_if-alike k no_stmt = refl
  stmt_if-alike k (some_stmt body) = stmt-alike k body

pub function-alike : (k : Counted) (f : FunctionDef) → stop_all (function_sums (stopped_known k) f) ≡ stop_all (function_sums k f)
function-alike k f =
    let words = memory (variable_words k.structs f.variables) (variable_words k.structs f.variables + words_of k.structs f.result) in
    both-alike _ (stmts_sums k f.body) words words (stmts-alike k f.body) refl

-- the sums of one more function
pub functions_sums-more : (structs : List StructDef) (before : List Sums) (fs : List FunctionDef) (f : FunctionDef) →
    functions_sums structs before (fs ++ f ∷ []) ≡ functions_sums structs before fs ++ function_sums (record { structs = structs; functions = functions_sums structs before fs }) f ∷ []
functions_sums-more structs before [] f = refl
functions_sums-more structs before (g ∷ fs) f = functions_sums-more structs (before ++ function_sums (record { structs = structs; functions = before }) g ∷ []) fs f
