-- Expressions, with further replies and no fewer turns of what they call, and whatever the words are that the private
-- allocations of the lane start with.
use Rattle.std.proofs.Common.{ℕ, List, [], ◌∷◌}
use Rattle.lane_core.specs.declared.event.Reply.{Reply}
use Rattle.hl_meaning.specs.declared.program.Copying.{Copying}
use Rattle.hl_meaning.specs.declared.program.Parameter.{Parameter}
use Rattle.hl_meaning.specs.Trees.{Arg, Args, Expr, Exprs, Form, Location, MaybeExpr, MaybeLocation, PathPart, PathParts, Root, Target, a_location, an_expr, atomic_form, binary_form, build_form, bytes_target, call_form, choose_form, convert_form, element_root, index_part, intrinsic_form, literal_form, method_form, more_args, more_exprs, more_parts, no_expr, no_exprs, no_location, no_parts, pick_form, place_arg, place_target, read_form, some_expr, some_location, unary_form, value_arg, write_form}
use Rattle.hl_source.specs.State.{Callee, Context}
use Rattle.hl_source.specs.Expressions.{argument_of, argument_operands, arguments, evaluates, indexes, indexes_if, operands, parameters_of, root_index, step_index, step_indexes, target_indexes, value_if, values, values_if}
use Rattle.source_laws.proofs.Continuing.{Continuing, continuing_after, continuing_alone, continuing_first_then, continuing_goes, continuing_joined, continuing_then}
use Rattle.source_laws.proofs.Forms.{ContinuingCallees, beside, continuing_acts, continuing_copies_in}

module _ (more : List Reply) (c : Context) (others : List Callee) (start : List ℕ) (callees : ContinuingCallees more c.callees others) where
  mutual
    pub continuing_evaluates : (e : Expr) → Continuing more (evaluates c e) (evaluates (beside c others start) e)
    continuing_evaluates (an_expr ty at form) = continuing_after more _ _ _ _ (continuing_operands form) (continuing_acts more c others start callees ty form)

    continuing_operands : (form : Form) → Continuing more (operands c form) (operands (beside c others start) form)
    continuing_operands (literal_form word) = continuing_goes more []
    continuing_operands (read_form place) = continuing_alone more _ _ (continuing_indexes place)
    continuing_operands (write_form to op common value old) = continuing_first_then more _ _ _ _ (continuing_indexes to) (continuing_alone more _ _ (continuing_evaluates value))
    continuing_operands (convert_form value) = continuing_alone more _ _ (continuing_evaluates value)
    continuing_operands (unary_form op value) = continuing_alone more _ _ (continuing_evaluates value)
    continuing_operands (binary_form op left right) = continuing_first_then more _ _ _ _ (continuing_evaluates left) (continuing_alone more _ _ (continuing_evaluates right))
    continuing_operands (choose_form cond consequent alternative) =
        continuing_first_then more _ _ _ _ (continuing_evaluates cond) (continuing_first_then more _ _ _ _ (continuing_evaluates consequent) (continuing_alone more _ _ (continuing_evaluates alternative)))
    continuing_operands (build_form parts) = continuing_values parts
    continuing_operands (pick_form value parts) = continuing_alone more _ _ (continuing_evaluates value)
    continuing_operands (call_form function args) = continuing_arguments args (parameters_of c function)
    continuing_operands (intrinsic_form number args) = continuing_values args
    continuing_operands (method_form resource count address value) = continuing_first_then more _ _ _ _ (continuing_evaluates address) (continuing_values_if value)
    continuing_operands (atomic_form target kind compare value original) =
        continuing_first_then more _ _ _ _ (continuing_target_indexes target)
        (continuing_first_then more _ _ _ _ (continuing_value_if compare)
        (continuing_first_then more _ _ _ _ (continuing_evaluates value) (continuing_alone more _ _ (continuing_indexes_if original))))

    continuing_indexes : (place : Location) → Continuing more (indexes c place) (indexes (beside c others start) place)
    continuing_indexes (a_location ty root parts) = continuing_joined more _ _ _ _ (continuing_root_index root) (continuing_step_indexes parts)

    continuing_root_index : (root : Root) → Continuing more (root_index c root) (root_index (beside c others start) root)
    continuing_root_index (element_root resource index) = continuing_evaluates index
    continuing_root_index root = continuing_goes more []

    continuing_step_indexes : (parts : PathParts) → Continuing more (step_indexes c parts) (step_indexes (beside c others start) parts)
    continuing_step_indexes no_parts = continuing_goes more []
    continuing_step_indexes (more_parts first rest) = continuing_joined more _ _ _ _ (continuing_step_index first) (continuing_step_indexes rest)

    continuing_step_index : (part : PathPart) → Continuing more (step_index c part) (step_index (beside c others start) part)
    continuing_step_index (index_part index) = continuing_evaluates index
    continuing_step_index part = continuing_goes more []

    continuing_target_indexes : (target : Target) → Continuing more (target_indexes c target) (target_indexes (beside c others start) target)
    continuing_target_indexes (place_target place) = continuing_indexes place
    continuing_target_indexes (bytes_target resource address) = continuing_evaluates address

    continuing_values : (es : Exprs) → Continuing more (values c es) (values (beside c others start) es)
    continuing_values no_exprs = continuing_goes more []
    continuing_values (more_exprs first rest) = continuing_first_then more _ _ _ _ (continuing_evaluates first) (continuing_values rest)

    continuing_values_if : (e : MaybeExpr) → Continuing more (values_if c e) (values_if (beside c others start) e)
    continuing_values_if no_expr = continuing_goes more []
    continuing_values_if (some_expr value) = continuing_alone more _ _ (continuing_evaluates value)

    continuing_value_if : (e : MaybeExpr) → Continuing more (value_if c e) (value_if (beside c others start) e)
    continuing_value_if no_expr = continuing_goes more []
    continuing_value_if (some_expr value) = continuing_evaluates value

    continuing_indexes_if : (place : MaybeLocation) → Continuing more (indexes_if c place) (indexes_if (beside c others start) place)
    continuing_indexes_if no_location = continuing_goes more []
    continuing_indexes_if (some_location place) = continuing_indexes place

    continuing_arguments : (args : Args) (parameters : List Parameter) → Continuing more (arguments c args parameters) (arguments (beside c others start) args parameters)
    continuing_arguments (more_args first rest) (p ∷ parameters) = continuing_joined more _ _ _ _ (continuing_argument first p.copying) (continuing_arguments rest parameters)
    continuing_arguments args parameters = continuing_goes more []

    continuing_argument : (arg : Arg) (passing : Copying) → Continuing more (argument_of c arg passing) (argument_of (beside c others start) arg passing)
    continuing_argument (value_arg value) passing = continuing_then more _ _ (argument_operands []) (continuing_evaluates value)
    continuing_argument (place_arg place) passing =
        continuing_after more _ _ _ _ (continuing_indexes place) (λ indexes. continuing_then more _ _ (argument_operands indexes) (continuing_copies_in more c passing place indexes))
