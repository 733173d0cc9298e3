-- What is known at a place, as plain data.
use Rattle.std.specs.Prelude.{ℕ, List, Option, map, length, reverse, option_map}
use Rattle.hl_lexer.specs.Tokens.{lexeme_of}
use Rattle.hl_meaning.specs.Trees.{Root, constant_root, shared_root, variable_root}
use Rattle.hl_values.specs.declared.scope.BufferInfo.{BufferInfo}
use Rattle.hl_values.specs.declared.scope.FunctionInfo.{FunctionInfo}
use Rattle.hl_values.specs.declared.scope.ParamInfo.{ParamInfo}
use Rattle.hl_values.specs.declared.scope.Scope.{Scope}
use Rattle.hl_values.specs.declared.scope.Sort.{Sort}
use Rattle.hl_values.specs.declared.scope.Sort.TheVariants as sorts
use Rattle.hl_values.specs.declared.scope.VariableInfo.{VariableInfo}
use Rattle.hl_values.specs.declared.scope.VariableRoot.{VariableRoot}
use Rattle.hl_values.specs.declared.scope.VariableRoot.TheVariants as roots
use Rattle.hl_values.specs.StructTables.{plain_structs}
use Rattle.hl_values.specs.Views.{plain_type_if}
use Rattle.hl_rules.specs.Scopes as plain
use Rattle.hl_rules.specs.Scopes.{a_buffer_name, a_function_name, a_struct_name, a_variable_name}

abbrev pub plain_root : VariableRoot → Root
plain_root (roots.Variable number) = variable_root number
plain_root (roots.Shared number) = shared_root number
plain_root (roots.Constant number) = constant_root number

abbrev pub plain_variable : VariableInfo → plain.VariableInfo
plain_variable v = record {
  root = plain_root v.root;
  ty = plain_type_if v.ty;
  is_const = v.is_const;
  number = v.number;
}

abbrev pub plain_sort : Sort → plain.Sort
plain_sort (sorts.Struct number) = a_struct_name number
plain_sort (sorts.Buffer number) = a_buffer_name number
plain_sort (sorts.Variable variable) = a_variable_name (plain_variable variable)
plain_sort sorts.Function = a_function_name

abbrev pub plain_sort_if : Option Sort → Option plain.Sort
plain_sort_if sort = option_map plain_sort sort

abbrev pub plain_named : List ℕ × Sort → plain.Named
plain_named n = record { name = n.0; sort = plain_sort n.1 }

abbrev pub plain_names : List (List ℕ × Sort) → List plain.Named
plain_names names = map plain_named names

abbrev pub plain_buffer : BufferInfo → plain.BufferInfo
plain_buffer b = record { writable = b.writable; raw = b.raw; element = plain_type_if b.element }

abbrev pub plain_param : ParamInfo → plain.ParamInfo
plain_param p = record { ty = plain_type_if p.ty; copying = p.copying }

abbrev pub plain_function : List ℕ × FunctionInfo → plain.FunctionInfo
plain_function f = record {
  name = f.0;
  params = map plain_param f.1.params;
  result = plain_type_if f.1.result;
}

-- the blocks around, the innermost first
abbrev pub plain_blocks : List (List (List ℕ × Sort)) → List (List plain.Named)
plain_blocks blocks = reverse (map plain_names blocks)

unfoldable pub scope_of : Scope → plain.Scope
scope_of s = record {
  tokens = map lexeme_of s.tokens.now;
  entry = s.entry.now;
  structs = plain_structs s.structs;
  buffers = map plain_buffer s.buffers;
  functions = map plain_function s.functions;
  shared = length s.shared;
  constants = length s.constants;
  globals = plain_names s.globals;
  blocks = plain_blocks s.blocks.items;
  variables = length s.variables;
  in_loop = s.in_loop;
  inside = s.inside;
  result = plain_type_if s.result;
}
