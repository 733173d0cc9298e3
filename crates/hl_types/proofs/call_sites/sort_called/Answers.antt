use Rattle.std.proofs.Common.{sym, ap, map, Some}
use Rattle.std.proofs.lemmas.Result.{IfOk-weaker}
use Rattle.hl_parser.specs.Views.{plain_trees}
use Rattle.hl_rules.specs.Scopes.{a_buffer_name, a_function_name, a_struct_name, a_variable_name}
use Rattle.hl_values.specs.declared.scope.Sort.{Sort}
use Rattle.hl_values.specs.Arguments.{plain_codes}
use Rattle.hl_values.specs.Known.{plain_known}
use Rattle.hl_values.specs.ScopeViews.{plain_sort, plain_variable, scope_of}
use Rattle.hl_values.specs.Views.{plain_value}
use Rattle.hl_types.proofs.CallLemmas.{nothing-known, sort-found, sort-known}
use Rattle.hl_types.proofs.call_sites.sort_called.Goals as goal

pub returns-in-Function-clause-typed : goal.returns-in-Function-clause-typed
returns-in-Function-clause-typed c =
    IfOk-weaker c.function_called.result _ _
    (λ t e. sort-known (scope_of c.args.scope.now) c.args.at (map plain_value c.args.args) (plain_codes c.args.args) (Some a_function_name) (Some (plain_sort c.args.sort.now)) (plain_known t) (ap (λ (x : Sort). Some (plain_sort x)) (sym c.in-Function.is)) e)
    c.function_called.ensures.typed

pub returns-in-Function-clause-found : goal.returns-in-Function-clause-found
returns-in-Function-clause-found c =
    IfOk-weaker c.function_called.result _ _
    (λ t e. sort-found c.args.found.now c.function_called.new.found (scope_of c.args.scope.now) c.args.at (plain_trees c.args.trees.now) (map plain_value c.args.args) (Some a_function_name) (Some (plain_sort c.args.sort.now)) (ap (λ (x : Sort). Some (plain_sort x)) (sym c.in-Function.is)) e)
    c.function_called.ensures.found

pub returns-in-Struct-clause-typed : goal.returns-in-Struct-clause-typed
returns-in-Struct-clause-typed c =
    sort-known (scope_of c.args.scope.now) c.args.at (map plain_value c.args.args) (plain_codes c.args.args) (Some (a_struct_name c.in-Struct.field-0)) (Some (plain_sort c.args.sort.now)) (plain_known c.refused.result) (ap (λ (x : Sort). Some (plain_sort x)) (sym c.in-Struct.is))
    (nothing-known (plain_known c.refused.result) (plain_codes c.args.args) c.refused.ensures.typed)

pub returns-in-Struct-clause-found : goal.returns-in-Struct-clause-found
returns-in-Struct-clause-found c =
    sort-found c.args.found.now c.refused.new.found (scope_of c.args.scope.now) c.args.at (plain_trees c.args.trees.now) (map plain_value c.args.args) (Some (a_struct_name c.in-Struct.field-0)) (Some (plain_sort c.args.sort.now)) (ap (λ (x : Sort). Some (plain_sort x)) (sym c.in-Struct.is)) c.refused.ensures.found

pub returns-in-Buffer-clause-typed : goal.returns-in-Buffer-clause-typed
returns-in-Buffer-clause-typed c =
    sort-known (scope_of c.args.scope.now) c.args.at (map plain_value c.args.args) (plain_codes c.args.args) (Some (a_buffer_name c.in-Buffer.field-0)) (Some (plain_sort c.args.sort.now)) (plain_known c.refused-in-Buffer.result) (ap (λ (x : Sort). Some (plain_sort x)) (sym c.in-Buffer.is))
    (nothing-known (plain_known c.refused-in-Buffer.result) (plain_codes c.args.args) c.refused-in-Buffer.ensures.typed)

pub returns-in-Buffer-clause-found : goal.returns-in-Buffer-clause-found
returns-in-Buffer-clause-found c =
    sort-found c.args.found.now c.refused-in-Buffer.new.found (scope_of c.args.scope.now) c.args.at (plain_trees c.args.trees.now) (map plain_value c.args.args) (Some (a_buffer_name c.in-Buffer.field-0)) (Some (plain_sort c.args.sort.now)) (ap (λ (x : Sort). Some (plain_sort x)) (sym c.in-Buffer.is)) c.refused-in-Buffer.ensures.found

pub returns-in-Variable-clause-typed : goal.returns-in-Variable-clause-typed
returns-in-Variable-clause-typed c =
    sort-known (scope_of c.args.scope.now) c.args.at (map plain_value c.args.args) (plain_codes c.args.args) (Some (a_variable_name (plain_variable c.in-Variable.field-0))) (Some (plain_sort c.args.sort.now)) (plain_known c.refused-in-Variable.result) (ap (λ (x : Sort). Some (plain_sort x)) (sym c.in-Variable.is))
    (nothing-known (plain_known c.refused-in-Variable.result) (plain_codes c.args.args) c.refused-in-Variable.ensures.typed)

pub returns-in-Variable-clause-found : goal.returns-in-Variable-clause-found
returns-in-Variable-clause-found c =
    sort-found c.args.found.now c.refused-in-Variable.new.found (scope_of c.args.scope.now) c.args.at (plain_trees c.args.trees.now) (map plain_value c.args.args) (Some (a_variable_name (plain_variable c.in-Variable.field-0))) (Some (plain_sort c.args.sort.now)) (ap (λ (x : Sort). Some (plain_sort x)) (sym c.in-Variable.is)) c.refused-in-Variable.ensures.found
