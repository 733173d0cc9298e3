-- What the parameters of a call start with has the words of their types.
use Rattle.std.proofs.Common.{◌≡◌, refl, sym, subst, ℕ, List, [], ◌∷◌, ◌++◌, map, length, Option, None, Some, slice_get}
use Rattle.std.specs.Prelude.{option_map, replicate}
use Rattle.std.specs.Option.{option_map_or}
use Rattle.hl_meaning.specs.declared.ty.Kind.{Kind}
use Rattle.hl_meaning.specs.declared.ty.Kind.TheVariants.{Bool as BoolKind, Int as IntKind, Uint as UintKind}
use Rattle.hl_meaning.specs.declared.program.Copying.{Copying}
use Rattle.hl_meaning.specs.declared.program.Copying.TheVariants.{CopyBoth, CopyIn, CopyOut}
use Rattle.hl_meaning.specs.declared.program.Parameter.{Parameter}
use Rattle.hl_meaning.specs.Types.{Ty}
use Rattle.hl_meaning.specs.Trees.{Arg, Args, Expr, Location, more_args, no_args, place_arg, place_type, type_of, value_arg}
use Rattle.hl_meaning.specs.Places.{variable_type}
use Rattle.hl_meaning.specs.Programs.{FunctionDef, StructDef, Variable}
use Rattle.hl_meaning.specs.Layout.{kinds_of}
use Rattle.hl_meaning.specs.WellFormed.{ArePassed, IsExpr, IsPassed, IsPlace, Param, callee_params, param_of}
use Rattle.hl_meaning.proofs.LayoutForms.{length-kinds_of}
use Rattle.hl_source.specs.Operations.{word_as}
use Rattle.hl_source.specs.State.{Context, State}
use Rattle.hl_source.specs.Memory.{zeros_of}
use Rattle.hl_source.specs.Expressions.{argument_of, argument_operands, arguments, copies_in, evaluates, indexes, initial_parameters, parameters_of}
use Rattle.typed_laws.specs.Fitting.{Fits, HasKinds, Yields}
use Rattle.typed_laws.specs.Laws.{FitParams}
use Rattle.typed_laws.proofs.ValueFits.{yields_after, yields_any, yields_giving}
use Rattle.typed_laws.proofs.Sound.{HasValue, place_fits}

-- zeros are a value of each type

zeros_kinds : (kinds : List Kind) → HasKinds kinds (replicate (length kinds) 0)
zeros_kinds [] = tt
zeros_kinds (kind ∷ kinds) = (by_kind kind, zeros_kinds kinds)
  where
    by_kind : (kind : Kind) → word_as kind 0 ≡ 0
    by_kind BoolKind = refl
    by_kind IntKind = refl
    by_kind UintKind = refl

pub zeros_fit : (c : Context) (ty : Ty) → Fits c.scope.structs ty (zeros_of c ty)
zeros_fit c ty = subst (λ m. HasKinds (kinds_of c.scope.structs ty) (replicate m 0)) (length-kinds_of c.scope.structs ty) (zeros_kinds (kinds_of c.scope.structs ty))

-- the two operands of an argument, the second of which is a value of a type
pub record Operands (structs : List StructDef) (ty : Ty) (operands : List (List ℕ)) : Type 0 where
  pub indexes : List ℕ
  pub initial : List ℕ
  pub are : operands ≡ argument_operands indexes initial
  pub fits : Fits structs ty initial

module _ (c : Context) (sound : (e : Expr) → IsExpr c.scope e → HasValue c e) where
  copied_fit : (copying : Copying) (place : Location) (ixs : List ℕ) (s : State) → IsPlace c.scope place → Yields (Fits c.scope.structs (place_type place)) (copies_in c copying place ixs s)
  copied_fit CopyIn place ixs s is = place_fits c place is ixs s
  copied_fit CopyOut place ixs s is = zeros_fit c (place_type place)
  copied_fit CopyBoth place ixs s is = place_fits c place is ixs s

  place_argument : (copying : Copying) (place : Location) (ty : Ty) (s : State) → IsPlace c.scope place → place_type place ≡ ty → Yields (Operands c.scope.structs ty) (argument_of c (place_arg place) copying s)
  place_argument copying place ty s is typed =
      yields_after (λ ixs. Unit {0}) (Operands c.scope.structs ty) (indexes c place s) _ (yields_any (λ ixs. Unit {0}) (λ ixs. tt) (indexes c place s)) (λ ixs s1 x.
      yields_giving (Fits c.scope.structs (place_type place)) (Operands c.scope.structs ty) (λ initial. argument_operands ixs initial)
      (λ initial fits. record { indexes = ixs; initial = initial; are = refl; fits = subst (λ t. Fits c.scope.structs t initial) typed fits }) (copies_in c copying place ixs s1) (copied_fit copying place ixs s1 is))

  one_argument : (param : Param) (arg : Arg) (s : State) → IsPassed c.scope param.ty param.copying arg → Yields (Operands c.scope.structs param.ty) (argument_of c arg param.copying s)
  one_argument param arg s h = by_copying param.ty param.copying arg h
    where
      by_copying : (ty : Ty) (copying : Copying) (arg : Arg) → IsPassed c.scope ty copying arg → Yields (Operands c.scope.structs ty) (argument_of c arg copying s)
      by_copying ty CopyIn (value_arg value) h =
          yields_giving (Fits c.scope.structs (type_of value)) (Operands c.scope.structs ty) (λ words. argument_operands [] words)
          (λ words fits. record { indexes = []; initial = words; are = refl; fits = subst (λ t. Fits c.scope.structs t words) h.1 fits }) (evaluates c value s) ((sound value h.0).fits s)
      by_copying ty CopyIn (place_arg place) h = absurd h
      by_copying ty CopyOut (value_arg value) h = absurd h
      by_copying ty CopyOut (place_arg place) h = place_argument CopyOut place ty s h.0 h.2
      by_copying ty CopyBoth (value_arg value) h = absurd h
      by_copying ty CopyBoth (place_arg place) h = place_argument CopyBoth place ty s h.0 h.2

  -- the words of a parameter before those of the others
  initial_first : (ty : Ty) (copying : Copying) (params : List (Option Param)) (some more : List (List ℕ)) → Operands c.scope.structs ty some → FitParams c.scope.structs params (initial_parameters more) →
      FitParams c.scope.structs (Some (record { ty = ty; copying = copying }) ∷ params) (initial_parameters (some ++ more))
  initial_first ty copying params some more one rest =
      subst (λ l. FitParams c.scope.structs (Some (record { ty = ty; copying = copying }) ∷ params) (initial_parameters (l ++ more))) (sym one.are) (one.fits, rest)

  pub all_arguments : (variables : List Variable) (parameters : List Parameter) (args : Args) (s : State) → ArePassed c.scope (map (param_of variables) parameters) args →
      Yields (λ operands. FitParams c.scope.structs (map (param_of variables) parameters) (initial_parameters operands)) (arguments c args parameters s)
  all_arguments variables [] no_args s h = tt
  all_arguments variables [] (more_args first rest) s h = absurd h
  all_arguments variables (p ∷ parameters) args s h = by_type (λ rest s1 h'. all_arguments variables parameters rest s1 h') (variable_type variables p.variable) args h
    where
      by_type : ((args : Args) (s : State) → ArePassed c.scope (map (param_of variables) parameters) args → Yields (λ operands. FitParams c.scope.structs (map (param_of variables) parameters) (initial_parameters operands)) (arguments c args parameters s)) →
          (o : Option Ty) (args : Args) → ArePassed c.scope (option_map (λ ty. record { ty = ty; copying = p.copying }) o ∷ map (param_of variables) parameters) args →
          Yields (λ operands. FitParams c.scope.structs (option_map (λ ty. record { ty = ty; copying = p.copying }) o ∷ map (param_of variables) parameters) (initial_parameters operands)) (arguments c args (p ∷ parameters) s)
      by_type again None no_args h = absurd h
      by_type again None (more_args first rest) h = absurd h
      by_type again (Some ty) no_args h = absurd h
      by_type again (Some ty) (more_args first rest) h =
          yields_after (Operands c.scope.structs ty) (λ operands. FitParams c.scope.structs (Some (record { ty = ty; copying = p.copying }) ∷ map (param_of variables) parameters) (initial_parameters operands))
          (argument_of c first p.copying s) _ (one_argument (record { ty = ty; copying = p.copying }) first s h.0) (λ some s1 one.
          yields_giving (λ more. FitParams c.scope.structs (map (param_of variables) parameters) (initial_parameters more))
          (λ operands. FitParams c.scope.structs (Some (record { ty = ty; copying = p.copying }) ∷ map (param_of variables) parameters) (initial_parameters operands)) (λ more. some ++ more)
          (λ more fits. initial_first ty p.copying (map (param_of variables) parameters) some more one fits) (arguments c rest parameters s1) (again rest s1 h.1))

  -- of a function that may be called
  pub call_arguments : (function : ℕ) (args : Args) (s : State) → ArePassed c.scope (callee_params (slice_get c.scope.functions function)) args →
      Yields (λ operands. FitParams c.scope.structs (callee_params (slice_get c.scope.functions function)) (initial_parameters operands)) (arguments c args (parameters_of c function) s)
  call_arguments function args s h = by_function (slice_get c.scope.functions function) refl h
    where
      none_passed : (args : Args) → ArePassed c.scope [] args → Yields (λ operands. FitParams c.scope.structs [] (initial_parameters operands)) (arguments c args [] s)
      none_passed no_args h = tt
      none_passed (more_args first rest) h = absurd h

      by_function : (o : Option FunctionDef) → slice_get c.scope.functions function ≡ o → ArePassed c.scope (callee_params o) args →
          Yields (λ operands. FitParams c.scope.structs (callee_params o) (initial_parameters operands)) (arguments c args (parameters_of c function) s)
      by_function None is h = subst (λ o. Yields (λ operands. FitParams c.scope.structs [] (initial_parameters operands)) (arguments c args (option_map_or (λ f. f.parameters) o []) s)) (sym is) (none_passed args h)
      by_function (Some g) is h =
          subst (λ o. Yields (λ operands. FitParams c.scope.structs (callee_params (Some g)) (initial_parameters operands)) (arguments c args (option_map_or (λ f. f.parameters) o []) s)) (sym is) (all_arguments g.variables g.parameters args s h)
