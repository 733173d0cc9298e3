-- The plain data of each form.
use Rattle.std.proofs.Common.{◌≡◌, ◌∙◌, sym, ap, ℕ, Bool, List, Option, None, Some, option_map}
use Rattle.lane_core.specs.declared.event.AtomicKind.{AtomicKind}
use Rattle.hl_meaning.specs.declared.ty.Kind.{Kind}
use Rattle.hl_meaning.specs.declared.ty.HlType.{HlType, HlType-F, fold-roll-HlType}
use Rattle.hl_meaning.specs.declared.ty.HlType.TheVariants.{rolls-Void, rolls-Scalar, rolls-Vector, rolls-Array, rolls-Struct}
use Rattle.hl_meaning.specs.declared.ty.HlType.TheVariants as HlType_variants
use Rattle.hl_meaning.specs.declared.expression.Root.{Root-F, fold-roll-Root}
use Rattle.hl_meaning.specs.declared.expression.Root.TheVariants.{rolls-Variable, rolls-Constant, rolls-Shared, rolls-Element}
use Rattle.hl_meaning.specs.declared.expression.Root.TheVariants as Root_variants
use Rattle.hl_meaning.specs.declared.expression.PathPart.{PathPart, PathPart-F, fold-roll-PathPart}
use Rattle.hl_meaning.specs.declared.expression.PathPart.TheVariants.{rolls-Member, rolls-Index, rolls-Swizzle}
use Rattle.hl_meaning.specs.declared.expression.PathPart.TheVariants as PathPart_variants
use Rattle.hl_meaning.specs.declared.expression.Form.{Form-F, fold-roll-Form}
use Rattle.hl_meaning.specs.declared.expression.Form.TheVariants.{rolls-Literal, rolls-Read, rolls-Write, rolls-Convert, rolls-Unary, rolls-Binary, rolls-Choose, rolls-Build, rolls-Pick, rolls-Call, rolls-Intrinsic, rolls-Method, rolls-Atomic}
use Rattle.hl_meaning.specs.declared.expression.Form.TheVariants as Form_variants
use Rattle.hl_meaning.specs.declared.expression.Arg.{Arg, Arg-F, fold-roll-Arg}
use Rattle.hl_meaning.specs.declared.expression.Arg.TheVariants.{rolls-Value, rolls-Place as rolls-Place_Arg}
use Rattle.hl_meaning.specs.declared.expression.Arg.TheVariants as Arg_variants
use Rattle.hl_meaning.specs.declared.expression.Target.{Target, Target-F, fold-roll-Target}
use Rattle.hl_meaning.specs.declared.expression.Target.TheVariants.{rolls-Place as rolls-Place_Target, rolls-Bytes}
use Rattle.hl_meaning.specs.declared.expression.Target.TheVariants as Target_variants
use Rattle.hl_meaning.specs.declared.statement.Stmt.{Stmt, Stmt-F, fold-roll-Stmt}
use Rattle.hl_meaning.specs.declared.statement.Stmt.TheVariants.{rolls-Block, rolls-Local, rolls-Run, rolls-If, rolls-For, rolls-While, rolls-Do, rolls-Break, rolls-Continue, rolls-Return}
use Rattle.hl_meaning.specs.declared.statement.Stmt.TheVariants as Stmt_variants
use Rattle.hl_meaning.specs.declared.expression.Expr.{Expr, fold_out-Expr}
use Rattle.hl_meaning.specs.declared.expression.Location.{Location, fold_out-Location}
use Rattle.hl_meaning.specs.Types.{Ty, array_type, scalar_type, struct_type, vector_type, void_type}
use Rattle.hl_meaning.specs.Trees.{a_location, an_expr, atomic_form, binary_form, block_stmt, break_stmt, build_form, bytes_target, call_form, choose_form, constant_root, continue_stmt, convert_form, do_stmt, element_root, for_stmt, if_stmt, index_part, intrinsic_form, literal_form, local_stmt, member_part, method_form, pick_form, place_arg, place_target, read_form, return_stmt, run_stmt, shared_root, swizzle_part, unary_form, value_arg, variable_root, while_stmt, write_form}
use Rattle.hl_meaning.specs.Trees as plain
use Rattle.hl_meaning.specs.Views.{arg_step, expr_step, form_step, location_step, part_step, plain_arg, plain_args, plain_expr, plain_exprs, plain_form, plain_location, plain_maybe_expr, plain_maybe_location, plain_maybe_stmt, plain_part, plain_parts, plain_root, plain_stmt, plain_stmts, plain_target, plain_ty, root_step, stmt_step, target_step, ty_step}

pub plain_ty-Void : plain_ty HlType_variants.Void ≡ void_type
unfolding plain_ty
plain_ty-Void = ap plain_ty (sym rolls-Void) ∙ fold-roll-HlType Ty ty_step HlType-F.Void

pub plain_ty-Scalar : (kind : Kind) → plain_ty (HlType_variants.Scalar kind) ≡ scalar_type kind
unfolding plain_ty
plain_ty-Scalar kind = ap plain_ty (sym (rolls-Scalar kind)) ∙ fold-roll-HlType Ty ty_step (HlType-F.Scalar kind)

pub plain_ty-Vector : (kind : Kind) (size : ℕ) → plain_ty (HlType_variants.Vector kind size) ≡ vector_type kind size
unfolding plain_ty
plain_ty-Vector kind size = ap plain_ty (sym (rolls-Vector kind size)) ∙ fold-roll-HlType Ty ty_step (HlType-F.Vector kind size)

pub plain_ty-Array : (element : HlType) (length : ℕ) → plain_ty (HlType_variants.Array element length) ≡ array_type (plain_ty element) length
unfolding plain_ty
plain_ty-Array element length = ap plain_ty (sym (rolls-Array element length)) ∙ fold-roll-HlType Ty ty_step (HlType-F.Array element length)

pub plain_ty-Struct : (number : ℕ) → plain_ty (HlType_variants.Struct number) ≡ struct_type number
unfolding plain_ty
plain_ty-Struct number = ap plain_ty (sym (rolls-Struct number)) ∙ fold-roll-HlType Ty ty_step (HlType-F.Struct number)

pub plain_root-Variable : (number : ℕ) → plain_root (Root_variants.Variable number) ≡ variable_root number
unfolding plain_root
plain_root-Variable number = ap plain_root (sym (rolls-Variable number)) ∙ fold-roll-Root plain.Arg plain.Form plain.PathPart plain.Root plain.Target plain.Expr plain.Location arg_step form_step part_step root_step target_step expr_step location_step (Root-F.Variable number)

pub plain_root-Constant : (number : ℕ) → plain_root (Root_variants.Constant number) ≡ constant_root number
unfolding plain_root
plain_root-Constant number = ap plain_root (sym (rolls-Constant number)) ∙ fold-roll-Root plain.Arg plain.Form plain.PathPart plain.Root plain.Target plain.Expr plain.Location arg_step form_step part_step root_step target_step expr_step location_step (Root-F.Constant number)

pub plain_root-Shared : (number : ℕ) → plain_root (Root_variants.Shared number) ≡ shared_root number
unfolding plain_root
plain_root-Shared number = ap plain_root (sym (rolls-Shared number)) ∙ fold-roll-Root plain.Arg plain.Form plain.PathPart plain.Root plain.Target plain.Expr plain.Location arg_step form_step part_step root_step target_step expr_step location_step (Root-F.Shared number)

pub plain_root-Element : (resource : ℕ) (index : Expr) → plain_root (Root_variants.Element resource index) ≡ element_root resource (plain_expr index)
unfolding plain_root plain_expr
plain_root-Element resource index = ap plain_root (sym (rolls-Element resource index)) ∙ fold-roll-Root plain.Arg plain.Form plain.PathPart plain.Root plain.Target plain.Expr plain.Location arg_step form_step part_step root_step target_step expr_step location_step (Root-F.Element resource index)

pub plain_part-Member : (number : ℕ) → plain_part (PathPart_variants.Member number) ≡ member_part number
unfolding plain_part
plain_part-Member number = ap plain_part (sym (rolls-Member number)) ∙ fold-roll-PathPart plain.Arg plain.Form plain.PathPart plain.Root plain.Target plain.Expr plain.Location arg_step form_step part_step root_step target_step expr_step location_step (PathPart-F.Member number)

pub plain_part-Index : (index : Expr) → plain_part (PathPart_variants.Index index) ≡ index_part (plain_expr index)
unfolding plain_part plain_expr
plain_part-Index index = ap plain_part (sym (rolls-Index index)) ∙ fold-roll-PathPart plain.Arg plain.Form plain.PathPart plain.Root plain.Target plain.Expr plain.Location arg_step form_step part_step root_step target_step expr_step location_step (PathPart-F.Index index)

pub plain_part-Swizzle : (letters : List ℕ) → plain_part (PathPart_variants.Swizzle letters) ≡ swizzle_part letters
unfolding plain_part
plain_part-Swizzle letters = ap plain_part (sym (rolls-Swizzle letters)) ∙ fold-roll-PathPart plain.Arg plain.Form plain.PathPart plain.Root plain.Target plain.Expr plain.Location arg_step form_step part_step root_step target_step expr_step location_step (PathPart-F.Swizzle letters)

pub plain_form-Literal : (word : ℕ) → plain_form (Form_variants.Literal word) ≡ literal_form word
unfolding plain_form
plain_form-Literal word = ap plain_form (sym (rolls-Literal word)) ∙ fold-roll-Form plain.Arg plain.Form plain.PathPart plain.Root plain.Target plain.Expr plain.Location arg_step form_step part_step root_step target_step expr_step location_step (Form-F.Literal word)

pub plain_form-Read : (place : Location) → plain_form (Form_variants.Read place) ≡ read_form (plain_location place)
unfolding plain_form plain_location
plain_form-Read place = ap plain_form (sym (rolls-Read place)) ∙ fold-roll-Form plain.Arg plain.Form plain.PathPart plain.Root plain.Target plain.Expr plain.Location arg_step form_step part_step root_step target_step expr_step location_step (Form-F.Read place)

pub plain_form-Write : (to : Location) (op : Option ℕ) (common : HlType) (value : Expr) (old : Bool) → plain_form (Form_variants.Write to op common value old) ≡ write_form (plain_location to) op (plain_ty common) (plain_expr value) old
unfolding plain_form plain_expr plain_location
plain_form-Write to op common value old = ap plain_form (sym (rolls-Write to op common value old)) ∙ fold-roll-Form plain.Arg plain.Form plain.PathPart plain.Root plain.Target plain.Expr plain.Location arg_step form_step part_step root_step target_step expr_step location_step (Form-F.Write to op common value old)

pub plain_form-Convert : (value : Expr) → plain_form (Form_variants.Convert value) ≡ convert_form (plain_expr value)
unfolding plain_form plain_expr
plain_form-Convert value = ap plain_form (sym (rolls-Convert value)) ∙ fold-roll-Form plain.Arg plain.Form plain.PathPart plain.Root plain.Target plain.Expr plain.Location arg_step form_step part_step root_step target_step expr_step location_step (Form-F.Convert value)

pub plain_form-Unary : (op : ℕ) (value : Expr) → plain_form (Form_variants.Unary op value) ≡ unary_form op (plain_expr value)
unfolding plain_form plain_expr
plain_form-Unary op value = ap plain_form (sym (rolls-Unary op value)) ∙ fold-roll-Form plain.Arg plain.Form plain.PathPart plain.Root plain.Target plain.Expr plain.Location arg_step form_step part_step root_step target_step expr_step location_step (Form-F.Unary op value)

pub plain_form-Binary : (op : ℕ) (left : Expr) (right : Expr) → plain_form (Form_variants.Binary op left right) ≡ binary_form op (plain_expr left) (plain_expr right)
unfolding plain_form plain_expr
plain_form-Binary op left right = ap plain_form (sym (rolls-Binary op left right)) ∙ fold-roll-Form plain.Arg plain.Form plain.PathPart plain.Root plain.Target plain.Expr plain.Location arg_step form_step part_step root_step target_step expr_step location_step (Form-F.Binary op left right)

pub plain_form-Choose : (cond : Expr) (consequent : Expr) (alternative : Expr) → plain_form (Form_variants.Choose cond consequent alternative) ≡ choose_form (plain_expr cond) (plain_expr consequent) (plain_expr alternative)
unfolding plain_form plain_expr
plain_form-Choose cond consequent alternative = ap plain_form (sym (rolls-Choose cond consequent alternative)) ∙ fold-roll-Form plain.Arg plain.Form plain.PathPart plain.Root plain.Target plain.Expr plain.Location arg_step form_step part_step root_step target_step expr_step location_step (Form-F.Choose cond consequent alternative)

pub plain_form-Build : (parts : List Expr) → plain_form (Form_variants.Build parts) ≡ build_form (plain_exprs parts)
unfolding plain_form plain_expr
plain_form-Build parts = ap plain_form (sym (rolls-Build parts)) ∙ fold-roll-Form plain.Arg plain.Form plain.PathPart plain.Root plain.Target plain.Expr plain.Location arg_step form_step part_step root_step target_step expr_step location_step (Form-F.Build parts)

pub plain_form-Pick : (value : Expr) (parts : List PathPart) → plain_form (Form_variants.Pick value parts) ≡ pick_form (plain_expr value) (plain_parts parts)
unfolding plain_form plain_expr plain_part
plain_form-Pick value parts = ap plain_form (sym (rolls-Pick value parts)) ∙ fold-roll-Form plain.Arg plain.Form plain.PathPart plain.Root plain.Target plain.Expr plain.Location arg_step form_step part_step root_step target_step expr_step location_step (Form-F.Pick value parts)

pub plain_form-Call : (function : ℕ) (args : List Arg) → plain_form (Form_variants.Call function args) ≡ call_form function (plain_args args)
unfolding plain_form plain_arg
plain_form-Call function args = ap plain_form (sym (rolls-Call function args)) ∙ fold-roll-Form plain.Arg plain.Form plain.PathPart plain.Root plain.Target plain.Expr plain.Location arg_step form_step part_step root_step target_step expr_step location_step (Form-F.Call function args)

pub plain_form-Intrinsic : (number : ℕ) (args : List Expr) → plain_form (Form_variants.Intrinsic number args) ≡ intrinsic_form number (plain_exprs args)
unfolding plain_form plain_expr
plain_form-Intrinsic number args = ap plain_form (sym (rolls-Intrinsic number args)) ∙ fold-roll-Form plain.Arg plain.Form plain.PathPart plain.Root plain.Target plain.Expr plain.Location arg_step form_step part_step root_step target_step expr_step location_step (Form-F.Intrinsic number args)

pub plain_form-Method : (resource : ℕ) (count : ℕ) (address : Expr) (value : Option Expr) → plain_form (Form_variants.Method resource count address value) ≡ method_form resource count (plain_expr address) (plain_maybe_expr value)
unfolding plain_form plain_expr
plain_form-Method resource count address None = ap plain_form (sym (rolls-Method resource count address None)) ∙ fold-roll-Form plain.Arg plain.Form plain.PathPart plain.Root plain.Target plain.Expr plain.Location arg_step form_step part_step root_step target_step expr_step location_step (Form-F.Method resource count address None)
plain_form-Method resource count address (Some value) = ap plain_form (sym (rolls-Method resource count address (Some value))) ∙ fold-roll-Form plain.Arg plain.Form plain.PathPart plain.Root plain.Target plain.Expr plain.Location arg_step form_step part_step root_step target_step expr_step location_step (Form-F.Method resource count address (Some value))

pub plain_form-Atomic : (target : Target) (kind : Option AtomicKind) (compare : Option Expr) (value : Expr) (original : Option Location) → plain_form (Form_variants.Atomic target kind compare value original) ≡ atomic_form (plain_target target) kind (plain_maybe_expr compare) (plain_expr value) (plain_maybe_location original)
unfolding plain_form plain_expr plain_location plain_target
plain_form-Atomic target kind None value None = ap plain_form (sym (rolls-Atomic target kind None value None)) ∙ fold-roll-Form plain.Arg plain.Form plain.PathPart plain.Root plain.Target plain.Expr plain.Location arg_step form_step part_step root_step target_step expr_step location_step (Form-F.Atomic target kind None value None)
plain_form-Atomic target kind None value (Some original) = ap plain_form (sym (rolls-Atomic target kind None value (Some original))) ∙ fold-roll-Form plain.Arg plain.Form plain.PathPart plain.Root plain.Target plain.Expr plain.Location arg_step form_step part_step root_step target_step expr_step location_step (Form-F.Atomic target kind None value (Some original))
plain_form-Atomic target kind (Some compare) value None = ap plain_form (sym (rolls-Atomic target kind (Some compare) value None)) ∙ fold-roll-Form plain.Arg plain.Form plain.PathPart plain.Root plain.Target plain.Expr plain.Location arg_step form_step part_step root_step target_step expr_step location_step (Form-F.Atomic target kind (Some compare) value None)
plain_form-Atomic target kind (Some compare) value (Some original) = ap plain_form (sym (rolls-Atomic target kind (Some compare) value (Some original))) ∙ fold-roll-Form plain.Arg plain.Form plain.PathPart plain.Root plain.Target plain.Expr plain.Location arg_step form_step part_step root_step target_step expr_step location_step (Form-F.Atomic target kind (Some compare) value (Some original))

pub plain_arg-Value : (value : Expr) → plain_arg (Arg_variants.Value value) ≡ value_arg (plain_expr value)
unfolding plain_arg plain_expr
plain_arg-Value value = ap plain_arg (sym (rolls-Value value)) ∙ fold-roll-Arg plain.Arg plain.Form plain.PathPart plain.Root plain.Target plain.Expr plain.Location arg_step form_step part_step root_step target_step expr_step location_step (Arg-F.Value value)

pub plain_arg-Place : (place : Location) → plain_arg (Arg_variants.Place place) ≡ place_arg (plain_location place)
unfolding plain_arg plain_location
plain_arg-Place place = ap plain_arg (sym (rolls-Place_Arg place)) ∙ fold-roll-Arg plain.Arg plain.Form plain.PathPart plain.Root plain.Target plain.Expr plain.Location arg_step form_step part_step root_step target_step expr_step location_step (Arg-F.Arg::Place place)

pub plain_target-Place : (place : Location) → plain_target (Target_variants.Place place) ≡ place_target (plain_location place)
unfolding plain_target plain_location
plain_target-Place place = ap plain_target (sym (rolls-Place_Target place)) ∙ fold-roll-Target plain.Arg plain.Form plain.PathPart plain.Root plain.Target plain.Expr plain.Location arg_step form_step part_step root_step target_step expr_step location_step (Target-F.Target::Place place)

pub plain_target-Bytes : (resource : ℕ) (address : Expr) → plain_target (Target_variants.Bytes resource address) ≡ bytes_target resource (plain_expr address)
unfolding plain_target plain_expr
plain_target-Bytes resource address = ap plain_target (sym (rolls-Bytes resource address)) ∙ fold-roll-Target plain.Arg plain.Form plain.PathPart plain.Root plain.Target plain.Expr plain.Location arg_step form_step part_step root_step target_step expr_step location_step (Target-F.Bytes resource address)

pub plain_stmt-Block : (body : List Stmt) → plain_stmt (Stmt_variants.Block body) ≡ block_stmt (plain_stmts body)
unfolding plain_stmt
plain_stmt-Block body = ap plain_stmt (sym (rolls-Block body)) ∙ fold-roll-Stmt plain.Stmt stmt_step (Stmt-F.Block body)

pub plain_stmt-Local : (variable : ℕ) (init : Option Expr) → plain_stmt (Stmt_variants.Local variable init) ≡ local_stmt variable (option_map plain_expr init)
unfolding plain_stmt
plain_stmt-Local variable init = ap plain_stmt (sym (rolls-Local variable init)) ∙ fold-roll-Stmt plain.Stmt stmt_step (Stmt-F.Local variable init)

pub plain_stmt-Run : (value : Expr) → plain_stmt (Stmt_variants.Run value) ≡ run_stmt (plain_expr value)
unfolding plain_stmt
plain_stmt-Run value = ap plain_stmt (sym (rolls-Run value)) ∙ fold-roll-Stmt plain.Stmt stmt_step (Stmt-F.Run value)

pub plain_stmt-If : (cond : Expr) (consequent : Stmt) (alternative : Option Stmt) → plain_stmt (Stmt_variants.If cond consequent alternative) ≡ if_stmt (plain_expr cond) (plain_stmt consequent) (plain_maybe_stmt alternative)
unfolding plain_stmt
plain_stmt-If cond consequent None = ap plain_stmt (sym (rolls-If cond consequent None)) ∙ fold-roll-Stmt plain.Stmt stmt_step (Stmt-F.If cond consequent None)
plain_stmt-If cond consequent (Some alternative) = ap plain_stmt (sym (rolls-If cond consequent (Some alternative))) ∙ fold-roll-Stmt plain.Stmt stmt_step (Stmt-F.If cond consequent (Some alternative))

pub plain_stmt-For : (init : List Stmt) (cond : Option Expr) (step : Option Expr) (body : Stmt) → plain_stmt (Stmt_variants.For init cond step body) ≡ for_stmt (plain_stmts init) (option_map plain_expr cond) (option_map plain_expr step) (plain_stmt body)
unfolding plain_stmt
plain_stmt-For init cond step body = ap plain_stmt (sym (rolls-For init cond step body)) ∙ fold-roll-Stmt plain.Stmt stmt_step (Stmt-F.For init cond step body)

pub plain_stmt-While : (cond : Expr) (body : Stmt) → plain_stmt (Stmt_variants.While cond body) ≡ while_stmt (plain_expr cond) (plain_stmt body)
unfolding plain_stmt
plain_stmt-While cond body = ap plain_stmt (sym (rolls-While cond body)) ∙ fold-roll-Stmt plain.Stmt stmt_step (Stmt-F.While cond body)

pub plain_stmt-Do : (body : Stmt) (cond : Expr) → plain_stmt (Stmt_variants.Do body cond) ≡ do_stmt (plain_stmt body) (plain_expr cond)
unfolding plain_stmt
plain_stmt-Do body cond = ap plain_stmt (sym (rolls-Do body cond)) ∙ fold-roll-Stmt plain.Stmt stmt_step (Stmt-F.Do body cond)

pub plain_stmt-Break : plain_stmt Stmt_variants.Break ≡ break_stmt
unfolding plain_stmt
plain_stmt-Break = ap plain_stmt (sym rolls-Break) ∙ fold-roll-Stmt plain.Stmt stmt_step Stmt-F.Break

pub plain_stmt-Continue : plain_stmt Stmt_variants.Continue ≡ continue_stmt
unfolding plain_stmt
plain_stmt-Continue = ap plain_stmt (sym rolls-Continue) ∙ fold-roll-Stmt plain.Stmt stmt_step Stmt-F.Continue

pub plain_stmt-Return : (value : Option Expr) → plain_stmt (Stmt_variants.Return value) ≡ return_stmt (option_map plain_expr value)
unfolding plain_stmt
plain_stmt-Return value = ap plain_stmt (sym (rolls-Return value)) ∙ fold-roll-Stmt plain.Stmt stmt_step (Stmt-F.Return value)

pub plain_expr-is : (e : Expr) → plain_expr e ≡ an_expr (plain_ty e.ty) e.at (plain_form e.form)
unfolding plain_expr plain_form
plain_expr-is e = fold_out-Expr plain.Arg plain.Form plain.PathPart plain.Root plain.Target plain.Expr plain.Location arg_step form_step part_step root_step target_step expr_step location_step e

pub plain_location-is : (l : Location) → plain_location l ≡ a_location (plain_ty l.ty) (plain_root l.root) (plain_parts l.parts)
unfolding plain_location plain_root plain_part
plain_location-is l = fold_out-Location plain.Arg plain.Form plain.PathPart plain.Root plain.Target plain.Expr plain.Location arg_step form_step part_step root_step target_step expr_step location_step l
