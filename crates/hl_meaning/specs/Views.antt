-- The plain data of what is held.
use Rattle.std.specs.Prelude.{ℕ, List, [], ◌∷◌, map, Option, None, Some, option_map}
use Rattle.hl_meaning.specs.declared.ty.HlType.{HlType, HlType-F, fold-HlType}
use Rattle.hl_meaning.specs.declared.expression.Root.{Root, Root-F, fold-Root}
use Rattle.hl_meaning.specs.declared.expression.PathPart.{PathPart, PathPart-F, fold-PathPart}
use Rattle.hl_meaning.specs.declared.expression.Location.{Location, Location-F, fold-Location}
use Rattle.hl_meaning.specs.declared.expression.Expr.{Expr, Expr-F, fold-Expr}
use Rattle.hl_meaning.specs.declared.expression.Form.{Form, Form-F, fold-Form}
use Rattle.hl_meaning.specs.declared.expression.Arg.{Arg, Arg-F, fold-Arg}
use Rattle.hl_meaning.specs.declared.expression.Target.{Target, Target-F, fold-Target}
use Rattle.hl_meaning.specs.declared.statement.Stmt.{Stmt, Stmt-F, fold-Stmt}
use Rattle.hl_meaning.specs.declared.program.Member.{Member}
use Rattle.hl_meaning.specs.declared.program.StructDef.{StructDef}
use Rattle.hl_meaning.specs.declared.program.Resource.{Resource}
use Rattle.hl_meaning.specs.declared.program.Variable.{Variable}
use Rattle.hl_meaning.specs.declared.program.Constant.{Constant}
use Rattle.hl_meaning.specs.declared.program.FunctionDef.{FunctionDef}
use Rattle.hl_meaning.specs.Types.{Ty, array_type, scalar_type, struct_type, vector_type, void_type}
use Rattle.hl_meaning.specs.Trees.{Args, Exprs, MaybeExpr, MaybeLocation, MaybeStmt, PathParts, Stmts, a_location, an_expr, atomic_form, binary_form, block_stmt, break_stmt, build_form, bytes_target, call_form, choose_form, constant_root, continue_stmt, convert_form, do_stmt, element_root, for_stmt, if_stmt, index_part, intrinsic_form, literal_form, local_stmt, member_part, method_form, more_args, more_exprs, more_parts, more_stmts, no_args, no_expr, no_exprs, no_location, no_parts, no_stmt, no_stmts, pick_form, place_arg, place_target, read_form, return_stmt, run_stmt, shared_root, some_expr, some_location, some_stmt, swizzle_part, unary_form, value_arg, variable_root, while_stmt, write_form}
use Rattle.hl_meaning.specs.Trees as plain
use Rattle.hl_meaning.specs.Programs as plain_program

-- types

abbrev pub ty_step : HlType-F Ty → Ty
ty_step HlType-F.Void = void_type
ty_step (HlType-F.Scalar kind) = scalar_type kind
ty_step (HlType-F.Vector kind size) = vector_type kind size
ty_step (HlType-F.Array element length) = array_type element length
ty_step (HlType-F.Struct number) = struct_type number

unfoldable pub plain_ty : HlType → Ty
plain_ty = fold-HlType Ty ty_step

-- lists and what may be there

abbrev pub parts_of : List plain.PathPart → PathParts
parts_of [] = no_parts
parts_of (part ∷ parts) = more_parts part (parts_of parts)

abbrev pub exprs_of : List plain.Expr → Exprs
exprs_of [] = no_exprs
exprs_of (expr ∷ exprs) = more_exprs expr (exprs_of exprs)

abbrev pub args_of : List plain.Arg → Args
args_of [] = no_args
args_of (arg ∷ args) = more_args arg (args_of args)

abbrev pub stmts_of : List plain.Stmt → Stmts
stmts_of [] = no_stmts
stmts_of (stmt ∷ stmts) = more_stmts stmt (stmts_of stmts)

abbrev pub maybe_expr : Option plain.Expr → MaybeExpr
maybe_expr None = no_expr
maybe_expr (Some expr) = some_expr expr

abbrev pub maybe_location : Option plain.Location → MaybeLocation
maybe_location None = no_location
maybe_location (Some place) = some_location place

abbrev pub maybe_stmt : Option plain.Stmt → MaybeStmt
maybe_stmt None = no_stmt
maybe_stmt (Some stmt) = some_stmt stmt

-- expressions, each with the plain data of its parts

abbrev pub root_step : Root-F plain.Arg plain.Form plain.PathPart plain.Root plain.Target plain.Expr plain.Location → plain.Root
root_step (Root-F.Variable number) = variable_root number
root_step (Root-F.Constant number) = constant_root number
root_step (Root-F.Shared number) = shared_root number
root_step (Root-F.Element resource index) = element_root resource index

abbrev pub part_step : PathPart-F plain.Arg plain.Form plain.PathPart plain.Root plain.Target plain.Expr plain.Location → plain.PathPart
part_step (PathPart-F.Member number) = member_part number
part_step (PathPart-F.Index index) = index_part index
part_step (PathPart-F.Swizzle letters) = swizzle_part letters

abbrev pub location_step : Location-F plain.Arg plain.Form plain.PathPart plain.Root plain.Target plain.Expr plain.Location → plain.Location
location_step l = a_location (plain_ty l.ty) l.root (parts_of l.parts)

abbrev pub expr_step : Expr-F plain.Arg plain.Form plain.PathPart plain.Root plain.Target plain.Expr plain.Location → plain.Expr
expr_step e = an_expr (plain_ty e.ty) e.at e.form

abbrev pub form_step : Form-F plain.Arg plain.Form plain.PathPart plain.Root plain.Target plain.Expr plain.Location → plain.Form
form_step (Form-F.Literal word) = literal_form word
form_step (Form-F.Read place) = read_form place
form_step (Form-F.Write to op common value old) = write_form to op (plain_ty common) value old
form_step (Form-F.Convert value) = convert_form value
form_step (Form-F.Unary op value) = unary_form op value
form_step (Form-F.Binary op left right) = binary_form op left right
form_step (Form-F.Choose cond consequent alternative) = choose_form cond consequent alternative
form_step (Form-F.Build parts) = build_form (exprs_of parts)
form_step (Form-F.Pick value parts) = pick_form value (parts_of parts)
form_step (Form-F.Call function args) = call_form function (args_of args)
form_step (Form-F.Intrinsic number args) = intrinsic_form number (exprs_of args)
form_step (Form-F.Method resource count address value) = method_form resource count address (maybe_expr value)
form_step (Form-F.Atomic target kind compare value original) = atomic_form target kind (maybe_expr compare) value (maybe_location original)

abbrev pub arg_step : Arg-F plain.Arg plain.Form plain.PathPart plain.Root plain.Target plain.Expr plain.Location → plain.Arg
arg_step (Arg-F.Value value) = value_arg value
arg_step (Arg-F.Arg::Place place) = place_arg place

abbrev pub target_step : Target-F plain.Arg plain.Form plain.PathPart plain.Root plain.Target plain.Expr plain.Location → plain.Target
target_step (Target-F.Target::Place place) = place_target place
target_step (Target-F.Bytes resource address) = bytes_target resource address

unfoldable pub plain_root : Root → plain.Root
plain_root = fold-Root plain.Arg plain.Form plain.PathPart plain.Root plain.Target plain.Expr plain.Location arg_step form_step part_step root_step target_step expr_step location_step

unfoldable pub plain_part : PathPart → plain.PathPart
plain_part = fold-PathPart plain.Arg plain.Form plain.PathPart plain.Root plain.Target plain.Expr plain.Location arg_step form_step part_step root_step target_step expr_step location_step

unfoldable pub plain_location : Location → plain.Location
plain_location = fold-Location plain.Arg plain.Form plain.PathPart plain.Root plain.Target plain.Expr plain.Location arg_step form_step part_step root_step target_step expr_step location_step

unfoldable pub plain_expr : Expr → plain.Expr
plain_expr = fold-Expr plain.Arg plain.Form plain.PathPart plain.Root plain.Target plain.Expr plain.Location arg_step form_step part_step root_step target_step expr_step location_step

unfoldable pub plain_form : Form → plain.Form
plain_form = fold-Form plain.Arg plain.Form plain.PathPart plain.Root plain.Target plain.Expr plain.Location arg_step form_step part_step root_step target_step expr_step location_step

unfoldable pub plain_arg : Arg → plain.Arg
plain_arg = fold-Arg plain.Arg plain.Form plain.PathPart plain.Root plain.Target plain.Expr plain.Location arg_step form_step part_step root_step target_step expr_step location_step

unfoldable pub plain_target : Target → plain.Target
plain_target = fold-Target plain.Arg plain.Form plain.PathPart plain.Root plain.Target plain.Expr plain.Location arg_step form_step part_step root_step target_step expr_step location_step

abbrev pub plain_parts : List PathPart → PathParts
plain_parts parts = parts_of (map plain_part parts)

abbrev pub plain_exprs : List Expr → Exprs
plain_exprs exprs = exprs_of (map plain_expr exprs)

abbrev pub plain_args : List Arg → Args
plain_args args = args_of (map plain_arg args)

abbrev pub plain_maybe_expr : Option Expr → MaybeExpr
plain_maybe_expr expr = maybe_expr (option_map plain_expr expr)

abbrev pub plain_maybe_location : Option Location → MaybeLocation
plain_maybe_location place = maybe_location (option_map plain_location place)

-- statements, each with the plain data of its parts

abbrev pub stmt_step : Stmt-F plain.Stmt → plain.Stmt
stmt_step (Stmt-F.Block body) = block_stmt (stmts_of body)
stmt_step (Stmt-F.Local variable init) = local_stmt variable (option_map plain_expr init)
stmt_step (Stmt-F.Run value) = run_stmt (plain_expr value)
stmt_step (Stmt-F.If cond consequent alternative) = if_stmt (plain_expr cond) consequent (maybe_stmt alternative)
stmt_step (Stmt-F.For init cond step body) = for_stmt (stmts_of init) (option_map plain_expr cond) (option_map plain_expr step) body
stmt_step (Stmt-F.While cond body) = while_stmt (plain_expr cond) body
stmt_step (Stmt-F.Do body cond) = do_stmt body (plain_expr cond)
stmt_step Stmt-F.Break = break_stmt
stmt_step Stmt-F.Continue = continue_stmt
stmt_step (Stmt-F.Return value) = return_stmt (option_map plain_expr value)

unfoldable pub plain_stmt : Stmt → plain.Stmt
plain_stmt = fold-Stmt plain.Stmt stmt_step

abbrev pub plain_stmts : List Stmt → Stmts
plain_stmts stmts = stmts_of (map plain_stmt stmts)

abbrev pub plain_maybe_stmt : Option Stmt → MaybeStmt
plain_maybe_stmt stmt = maybe_stmt (option_map plain_stmt stmt)

-- programs

abbrev pub plain_member : Member → plain_program.Member
plain_member m = record { name = m.name; ty = plain_ty m.ty; offset = m.offset }

abbrev pub plain_struct : StructDef → plain_program.StructDef
plain_struct d = record { name = d.name; members = map plain_member d.members; words = d.words }

abbrev pub plain_structs : List StructDef → List plain_program.StructDef
plain_structs structs = map plain_struct structs

abbrev pub plain_resource : Resource → plain_program.Resource
plain_resource r = record {
  name = r.name;
  class = r.class;
  raw = r.raw;
  element = plain_ty r.element;
  words = r.words;
  register = r.register;
  space = r.space;
  at = r.at;
}

abbrev pub plain_variable : Variable → plain_program.Variable
plain_variable v = record { name = v.name; ty = plain_ty v.ty; at = v.at }

abbrev pub plain_constant : Constant → plain_program.Constant
plain_constant c = record { variable = plain_variable c.variable; words = c.words }

abbrev pub plain_function : FunctionDef → plain_program.FunctionDef
plain_function f = record {
  name = f.name;
  result = plain_ty f.result;
  parameters = f.parameters;
  variables = map plain_variable f.variables;
  body = plain_stmts f.body;
}

-- the program of these parts
abbrev pub program_of : List StructDef → List Resource → (shared : List Variable) → List Constant → List FunctionDef → (entry : ℕ) → (threads : List ℕ) → plain_program.Program
program_of structs resources shared constants functions entry threads = record {
  structs = map plain_struct structs;
  resources = map plain_resource resources;
  shared = map plain_variable shared;
  constants = map plain_constant constants;
  functions = map plain_function functions;
  entry = entry;
  threads = threads;
}
