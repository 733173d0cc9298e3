-- What becomes of a function that is called once, in place (HLSL, "Functions"). That the functions before it are all
-- that it may call, and that variables are zeros before their declaration, is this project's own.
use Rattle.std.specs.Prelude.{◌+◌, List, [], ◌∷◌, ◌++◌, map, None}
use Rattle.hl_meaning.specs.Programs.{FunctionDef}
use Rattle.hl_inline.specs.FlatTrees.{FlatStmt, flat_local}
use Rattle.hl_inline.specs.UsedUndeclared.{variables_used_undeclared}
use Rattle.hl_inline.specs.Fresh.{Instance, nameless}
use Rattle.hl_inline.specs.EmittedCode.{emitted_with}
use Rattle.hl_inline.specs.InlinedCalls.{Inlined}
use Rattle.hl_inline.specs.EmittedStatements.{Jumps, emit_stmts}

-- Variables that may be used before their declaration are set to zeros, as they are in a call.
abbrev pub zeros_first : Instance → FunctionDef → List FlatStmt
zeros_first i f = map (λ variable. flat_local (i.first + variable) None) (variables_used_undeclared f)

abbrev pub outside_loops : Jumps
outside_loops = record { break_name = 0; continue_name = 0 }

abbrev pub inlined : List Inlined → FunctionDef → Inlined
inlined k f = record {
  parameters = f.parameters;
  variables = map nameless f.variables;
  result = f.result;
  body = λ i fresh. emitted_with (zeros_first i f) (emit_stmts k i outside_loops f.body fresh);
}

-- the functions as they are called, behind those before them; a function calls earlier ones alone
abbrev pub inlined_after : List Inlined → List FunctionDef → List Inlined
inlined_after before [] = before
inlined_after before (f ∷ functions) = inlined_after (before ++ inlined before f ∷ []) functions
