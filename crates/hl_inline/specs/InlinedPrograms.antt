-- The program without calls that a program becomes: its constants and inputs are set, and then the body of its entry
-- runs. These definitions are this project's own: no public standard speaks of them.
use Rattle.std.specs.Prelude.{ℕ, suc, ◌+◌, List, [], ◌∷◌, ◌++◌, length, map, Option, None, Some}
use Rattle.hl_meaning.specs.declared.ty.Kind.{Kind}
use Rattle.hl_meaning.specs.declared.program.Parameter.{Parameter}
use Rattle.hl_meaning.specs.declared.program.Semantic.{Semantic}
use Rattle.hl_meaning.specs.Types.{scalar_type}
use Rattle.hl_meaning.specs.Trees.{Expr, an_expr, build_form, literal_form}
use Rattle.hl_meaning.specs.Programs.{Constant, Program, StructDef}
use Rattle.hl_meaning.specs.Layout.{kinds_of}
use Rattle.hl_meaning.specs.Views.{exprs_of}
use Rattle.hl_inline.specs.FlatTrees.{Flat, FlatStmt, flat_block, flat_input, flat_local, flat_named}
use Rattle.hl_inline.specs.FlatViews.{flat_stmts_of}
use Rattle.hl_inline.specs.Fresh.{Fresh, Instance}
use Rattle.hl_inline.specs.EmittedCode.{EmittedCode}
use Rattle.hl_inline.specs.InlinedCalls.{Inlined, inlined_at}
use Rattle.hl_inline.specs.InlinedFunctions.{inlined_after}

-- the words of a constant, one literal each
abbrev pub literals : (at : ℕ) → List Kind → List ℕ → List Expr
literals at (kind ∷ kinds) (word ∷ words) = an_expr (scalar_type kind) at (literal_form word) ∷ literals at kinds words
literals at _ _ = []

abbrev pub constant_value : List StructDef → Constant → Expr
constant_value structs c = an_expr c.variable.ty c.variable.at (build_form (exprs_of (literals c.variable.at (kinds_of structs c.variable.ty) c.words)))

-- constants are variables that are set first
abbrev pub set_constants : List StructDef → (number : ℕ) → List Constant → List FlatStmt
set_constants structs number [] = []
set_constants structs number (c ∷ constants) =
    flat_local number (Some (constant_value structs c)) ∷ set_constants structs (suc number) constants

-- the parameters of the entry are set to their semantics
abbrev pub set_inputs : (first : ℕ) → List Parameter → List FlatStmt
set_inputs first [] = []
set_inputs first (p ∷ parameters) = set_input first p.variable p.semantic (set_inputs first parameters)
  where
    set_input : (first variable : ℕ) → Option Semantic → List FlatStmt → List FlatStmt
    set_input first variable None rest = rest
    set_input first variable (Some semantic) rest = flat_input (first + variable) semantic ∷ rest

-- where the entry stands
abbrev pub entry_instance : Program → Inlined → Instance
entry_instance p f = record { first = length p.constants; result = length p.constants + length f.variables; exit = 0 }

abbrev pub entry_fresh : Program → Inlined → Fresh
entry_fresh p f = record { variables = map (λ c. c.variable) p.constants ++ f.variables; names = 1 }

abbrev pub entry_body : Program → Inlined → EmittedCode
entry_body p f = f.body (entry_instance p f) (entry_fresh p f)

abbrev pub inlined_entry : Program → Inlined
inlined_entry p = inlined_at (inlined_after [] p.functions) p.entry

abbrev pub flat_around : Program → Inlined → EmittedCode → Flat
flat_around p f body = record {
  structs = p.structs;
  variables = body.fresh.variables;
  resources = p.resources;
  shared = p.shared;
  threads = p.threads;
  body = flat_stmts_of (set_constants p.structs 0 p.constants ++ (set_inputs (length p.constants) f.parameters ++
      flat_named 0 (flat_block (flat_stmts_of body.code)) ∷ []));
}

-- the program without calls
unfoldable pub inlined_program : Program → Flat
inlined_program p = flat_around p (inlined_entry p) (entry_body p (inlined_entry p))
