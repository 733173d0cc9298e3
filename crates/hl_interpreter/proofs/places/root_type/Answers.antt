use Rattle.std.proofs.Common.{◌∙◌, ap, map, slice_get, sym}
use Rattle.std.specs.Prelude.{option_and_then, option_map, unwrap_or}
use Rattle.hl_meaning.specs.Places.{element_type, root_type, variable_type}
use Rattle.hl_meaning.specs.Types.{void_type}
use Rattle.hl_meaning.specs.Views.{plain_constant, plain_resource, plain_root, plain_variable}
use Rattle.hl_meaning.proofs.Plain.{plain_root-Constant, plain_root-Element, plain_root-Shared, plain_root-Variable}
use Rattle.hl_interpreter.specs.Runs.{context_of}
use Rattle.hl_interpreter.proofs.places.root_type.Goals as goal

pub returns-in-Variable : goal.returns-in-Variable
returns-in-Variable c =
    c.variable_type.ensures ∙ (ap (λ l. unwrap_or (variable_type (map plain_variable l) c.in-Variable.number) void_type) c.as_slice.ensures.value ∙
    sym (ap (λ r. unwrap_or (root_type (context_of c.args.context.now).scope r) void_type) (ap plain_root c.in-Variable.is ∙ plain_root-Variable c.in-Variable.number)))

pub returns-in-Constant : goal.returns-in-Constant
returns-in-Constant c =
    c.constant_type.ensures ∙ (ap (λ l. unwrap_or (option_map (λ k. k.variable.ty) (slice_get (map plain_constant l) c.in-Constant.number)) void_type) c.as_slice-in-Constant.ensures.value ∙
    sym (ap (λ r. unwrap_or (root_type (context_of c.args.context.now).scope r) void_type) (ap plain_root c.in-Constant.is ∙ plain_root-Constant c.in-Constant.number)))

pub returns-in-Shared : goal.returns-in-Shared
returns-in-Shared c =
    c.variable_type-in-Shared.ensures ∙ (ap (λ l. unwrap_or (variable_type (map plain_variable l) c.in-Shared.number) void_type) c.as_slice-in-Shared.ensures.value ∙
    sym (ap (λ r. unwrap_or (root_type (context_of c.args.context.now).scope r) void_type) (ap plain_root c.in-Shared.is ∙ plain_root-Shared c.in-Shared.number)))

pub returns-in-Element : goal.returns-in-Element
returns-in-Element c =
    c.element_type.ensures ∙ (ap (λ l. unwrap_or (option_and_then element_type (slice_get (map plain_resource l) c.in-Element.resource)) void_type) c.as_slice-in-Element.ensures.value ∙
    sym (ap (λ r. unwrap_or (root_type (context_of c.args.context.now).scope r) void_type) (ap plain_root c.in-Element.is ∙ plain_root-Element c.in-Element.resource _)))
