-- What becomes of each form of expression (HLSL, "Expressions"). That operands stand from left to right is this
-- project's own.
use Rattle.std.specs.Prelude.{ℕ, Bool, true, false, List, [], ◌∷◌, ◌++◌}
use Rattle.hl_meaning.specs.Types.{Ty}
use Rattle.hl_meaning.specs.Trees.{Arg, Args, Expr, Exprs, Form, Location, MaybeExpr, MaybeLocation, PathPart, PathParts, Root, Target, a_location, an_expr, atomic_form, binary_form, build_form, bytes_target, call_form, choose_form, convert_form, element_root, index_part, intrinsic_form, literal_form, method_form, more_args, more_exprs, more_parts, no_args, no_expr, no_exprs, no_location, no_parts, pick_form, place_arg, place_target, read_form, some_expr, some_location, unary_form, value_arg, write_form}
use Rattle.hl_inline.specs.Operands.{filled}
use Rattle.hl_inline.specs.Fresh.{Fresh, Instance}
use Rattle.hl_inline.specs.Emitting.{Emitter, Valued, Values, any_call, emit_all}
use Rattle.hl_inline.specs.InlinedCalls.{Argument, Inlined, call, inlined_at, place_argument, value_argument}

abbrev pub is_literal_form : Form → Bool
is_literal_form (literal_form word) = true
is_literal_form _ = false

-- an expression that isn't a call: its operands' statements, and then the form over what is left of them
abbrev pub over : Instance → Ty → (at : ℕ) → Form → Values → Valued
over i ty at form x = record {
  code = x.code;
  value = an_expr ty at (filled i.first form x.values);
  fixed = is_literal_form form;
  fresh = x.fresh;
}

abbrev pub node : Instance → Ty → (at : ℕ) → Form → List Emitter → Emitter
node i ty at form operands = record { has_call = any_call operands; emit = λ fresh. over i ty at form (emit_all false operands fresh) }

abbrev mutual
  -- what becomes of an expression of a function, given the functions before it and where it stands
  pub emitter : List Inlined → Instance → Expr → Emitter
  emitter k i (an_expr ty at form) = form_emitter k i ty at form

  pub form_emitter : List Inlined → Instance → Ty → (at : ℕ) → Form → Emitter
  form_emitter k i ty at (literal_form word) = node i ty at (literal_form word) []
  form_emitter k i ty at (read_form place) = node i ty at (read_form place) (place_emitters k i place)
  form_emitter k i ty at (write_form to op common value old) =
      node i ty at (write_form to op common value old) (place_emitters k i to ++ emitter k i value ∷ [])
  form_emitter k i ty at (convert_form value) = node i ty at (convert_form value) (emitter k i value ∷ [])
  form_emitter k i ty at (unary_form op value) = node i ty at (unary_form op value) (emitter k i value ∷ [])
  form_emitter k i ty at (binary_form op left right) =
      node i ty at (binary_form op left right) (emitter k i left ∷ emitter k i right ∷ [])
  form_emitter k i ty at (choose_form cond consequent alternative) =
      node i ty at (choose_form cond consequent alternative) (emitter k i cond ∷ emitter k i consequent ∷ emitter k i alternative ∷ [])
  form_emitter k i ty at (build_form parts) = node i ty at (build_form parts) (exprs_emitters k i parts)
  form_emitter k i ty at (pick_form value parts) = node i ty at (pick_form value parts) (emitter k i value ∷ [])
  form_emitter k i ty at (call_form function args) = call i ty at (inlined_at k function) (args_emitters k i args)
  form_emitter k i ty at (intrinsic_form number args) = node i ty at (intrinsic_form number args) (exprs_emitters k i args)
  form_emitter k i ty at (method_form resource count address value) =
      node i ty at (method_form resource count address value) (emitter k i address ∷ expr_if_emitters k i value)
  form_emitter k i ty at (atomic_form target kind compare value original) =
      node i ty at (atomic_form target kind compare value original)
      (target_emitters k i target ++ (expr_if_emitters k i compare ++ emitter k i value ∷ place_if_emitters k i original))

  pub place_emitters : List Inlined → Instance → Location → List Emitter
  place_emitters k i (a_location ty root parts) = root_emitters k i root ++ parts_emitters k i parts

  pub root_emitters : List Inlined → Instance → Root → List Emitter
  root_emitters k i (element_root resource index) = emitter k i index ∷ []
  root_emitters k i _ = []

  pub parts_emitters : List Inlined → Instance → PathParts → List Emitter
  parts_emitters k i no_parts = []
  parts_emitters k i (more_parts first rest) = part_emitters k i first ++ parts_emitters k i rest

  pub part_emitters : List Inlined → Instance → PathPart → List Emitter
  part_emitters k i (index_part index) = emitter k i index ∷ []
  part_emitters k i _ = []

  pub exprs_emitters : List Inlined → Instance → Exprs → List Emitter
  exprs_emitters k i no_exprs = []
  exprs_emitters k i (more_exprs first rest) = emitter k i first ∷ exprs_emitters k i rest

  pub args_emitters : List Inlined → Instance → Args → List Argument
  args_emitters k i no_args = []
  args_emitters k i (more_args first rest) = arg_emitter k i first ∷ args_emitters k i rest

  pub arg_emitter : List Inlined → Instance → Arg → Argument
  arg_emitter k i (value_arg value) = value_argument (emitter k i value)
  arg_emitter k i (place_arg place) = place_argument place (place_emitters k i place)

  pub target_emitters : List Inlined → Instance → Target → List Emitter
  target_emitters k i (place_target place) = place_emitters k i place
  target_emitters k i (bytes_target resource address) = emitter k i address ∷ []

  pub expr_if_emitters : List Inlined → Instance → MaybeExpr → List Emitter
  expr_if_emitters k i no_expr = []
  expr_if_emitters k i (some_expr value) = emitter k i value ∷ []

  pub place_if_emitters : List Inlined → Instance → MaybeLocation → List Emitter
  place_if_emitters k i no_location = []
  place_if_emitters k i (some_location place) = place_emitters k i place

abbrev pub emitted : List Inlined → Instance → Expr → Fresh → Valued
emitted k i value fresh = (emitter k i value).emit fresh
