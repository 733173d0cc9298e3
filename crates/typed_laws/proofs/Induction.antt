-- Induction over expressions: what holds of each expression whose operands it holds of.
use Rattle.std.proofs.Common.{ℕ, List, [], ◌∷◌, ◌++◌, zero, suc, arith}
use Rattle.std.specs.List.{All}
use Rattle.hl_meaning.specs.Types.{Ty}
use Rattle.hl_meaning.specs.Trees.{Arg, Args, Expr, Exprs, Form, Location, MaybeExpr, MaybeLocation, PathParts, Root, Target, a_location, an_expr, atomic_form, binary_form, build_form, bytes_target, call_form, choose_form, constant_root, convert_form, element_root, index_part, intrinsic_form, literal_form, member_part, method_form, more_args, more_exprs, more_parts, no_args, no_expr, no_exprs, no_location, no_parts, pick_form, place_arg, place_target, read_form, shared_root, some_expr, some_location, swizzle_part, unary_form, value_arg, variable_root, write_form}
use Rattle.typed_laws.proofs.OperandExpressions.{arg_exprs, args_exprs, expr_if_list, exprs_list, operand_exprs, place_if_exprs}
use Rattle.typed_laws.specs.Operands.{parts_exprs, place_exprs, root_exprs, target_exprs}

-- something holds of each of a list
abbrev pub Every : {A : Type 0} → (A → Type 0) → List A → Type 0
Every P [] = Unit {0}
Every P (x ∷ xs) = P x × Every P xs

pub every_append : {A : Type 0} (P : A → Type 0) (xs ys : List A) → Every P xs → Every P ys → Every P (xs ++ ys)
every_append P [] ys _ q = q
every_append P (x ∷ xs) ys p q = (p.0, every_append P xs ys p.1 q)

pub every_front : {A : Type 0} (P : A → Type 0) (xs ys : List A) → Every P (xs ++ ys) → Every P xs
every_front P [] ys p = tt
every_front P (x ∷ xs) ys p = (p.0, every_front P xs ys p.1)

pub every_back : {A : Type 0} (P : A → Type 0) (xs ys : List A) → Every P (xs ++ ys) → Every P ys
every_back P [] ys p = p
every_back P (x ∷ xs) ys p = every_back P xs ys p.1

pub every_map : {A : Type 0} (P Q : A → Type 0) → ((x : A) → P x → Q x) → (xs : List A) → Every P xs → Every Q xs
every_map P Q f [] p = tt
every_map P Q f (x ∷ xs) p = (f x p.0, every_map P Q f xs p.1)

pub every_both : {A : Type 0} (P Q : A → Type 0) (xs : List A) → Every P xs → Every Q xs → Every (λ x. P x × Q x) xs
every_both P Q [] p q = tt
every_both P Q (x ∷ xs) p q = ((p.0, q.0), every_both P Q xs p.1 q.1)

pub every_from_all : {A : Type 0} (P : A → Type 0) (xs : List A) → All P xs → Every P xs
every_from_all P [] all = tt
every_from_all P (x ∷ xs) all = (all 0 x (omega arith), every_from_all P xs (λ k d low. all (suc k) d (omega (arith, low))))

pub all_from_every : {A : Type 0} (P : A → Type 0) (xs : List A) → Every P xs → All P xs
all_from_every P [] h k d low = absurd (omega (arith, low))
all_from_every P (x ∷ xs) h zero d low = h.0
all_from_every P (x ∷ xs) h (suc k) d low = all_from_every P xs h.1 k d (omega (arith, low))

-- what each step of an induction shows
abbrev pub Step : (Expr → Type 0) → Type 0
Step P = (ty : Ty) (at : ℕ) (form : Form) → Every P (operand_exprs form) → P (an_expr ty at form)

mutual
  pub by_operands : (P : Expr → Type 0) → Step P → (e : Expr) → P e
  by_operands P step (an_expr ty at form) = step ty at form (every_operand P step form)

  pub every_operand : (P : Expr → Type 0) → Step P → (form : Form) → Every P (operand_exprs form)
  every_operand P step (literal_form word) = tt
  every_operand P step (read_form place) = every_place P step place
  every_operand P step (write_form to op common value old) =
      every_append P (place_exprs to) (value ∷ []) (every_place P step to) (by_operands P step value, tt)
  every_operand P step (convert_form value) = (by_operands P step value, tt)
  every_operand P step (unary_form op value) = (by_operands P step value, tt)
  every_operand P step (binary_form op left right) = (by_operands P step left, (by_operands P step right, tt))
  every_operand P step (choose_form cond consequent alternative) =
      (by_operands P step cond, (by_operands P step consequent, (by_operands P step alternative, tt)))
  every_operand P step (build_form parts) = every_expr P step parts
  every_operand P step (pick_form value parts) = (by_operands P step value, tt)
  every_operand P step (call_form function args) = every_args P step args
  every_operand P step (intrinsic_form number args) = every_expr P step args
  every_operand P step (method_form resource count address value) = (by_operands P step address, every_if P step value)
  every_operand P step (atomic_form target kind compare value original) =
      every_append P (target_exprs target) (expr_if_list compare ++ value ∷ place_if_exprs original) (every_target P step target)
      (every_append P (expr_if_list compare) (value ∷ place_if_exprs original) (every_if P step compare)
      (by_operands P step value, every_place_if P step original))

  every_place : (P : Expr → Type 0) → Step P → (place : Location) → Every P (place_exprs place)
  every_place P step (a_location ty root parts) = every_append P (root_exprs root) (parts_exprs parts) (every_root P step root) (every_parts P step parts)

  every_root : (P : Expr → Type 0) → Step P → (root : Root) → Every P (root_exprs root)
  every_root P step (variable_root number) = tt
  every_root P step (constant_root number) = tt
  every_root P step (shared_root number) = tt
  every_root P step (element_root resource index) = (by_operands P step index, tt)

  every_parts : (P : Expr → Type 0) → Step P → (parts : PathParts) → Every P (parts_exprs parts)
  every_parts P step no_parts = tt
  every_parts P step (more_parts (index_part index) rest) = (by_operands P step index, every_parts P step rest)
  every_parts P step (more_parts (member_part number) rest) = every_parts P step rest
  every_parts P step (more_parts (swizzle_part letters) rest) = every_parts P step rest

  every_expr : (P : Expr → Type 0) → Step P → (es : Exprs) → Every P (exprs_list es)
  every_expr P step no_exprs = tt
  every_expr P step (more_exprs first rest) = (by_operands P step first, every_expr P step rest)

  every_args : (P : Expr → Type 0) → Step P → (args : Args) → Every P (args_exprs args)
  every_args P step no_args = tt
  every_args P step (more_args first rest) = every_append P (arg_exprs first) (args_exprs rest) (every_arg P step first) (every_args P step rest)

  every_arg : (P : Expr → Type 0) → Step P → (arg : Arg) → Every P (arg_exprs arg)
  every_arg P step (value_arg value) = (by_operands P step value, tt)
  every_arg P step (place_arg place) = every_place P step place

  every_target : (P : Expr → Type 0) → Step P → (target : Target) → Every P (target_exprs target)
  every_target P step (place_target place) = every_place P step place
  every_target P step (bytes_target resource address) = (by_operands P step address, tt)

  every_if : (P : Expr → Type 0) → Step P → (value : MaybeExpr) → Every P (expr_if_list value)
  every_if P step no_expr = tt
  every_if P step (some_expr value) = (by_operands P step value, tt)

  every_place_if : (P : Expr → Type 0) → Step P → (place : MaybeLocation) → Every P (place_if_exprs place)
  every_place_if P step no_location = tt
  every_place_if P step (some_location place) = every_place P step place
