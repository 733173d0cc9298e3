-- Which variables are indexed by an expression that isn't a literal, by their lengths in words.
use Rattle.std.specs.Prelude.{ℕ, suc, ◌==◌, ◌&&◌, not, Bool, false, if◌then◌else◌, List, [], ◌∷◌, ◌++◌, map, slice_get, unwrap_or, flat_map}
use Rattle.std.specs.List.{list_any}
use Rattle.hl_meaning.specs.Trees.{constant_root, variable_root}
use Rattle.hl_meaning.specs.Programs.{Constant, FunctionDef, Program, StructDef, Variable}
use Rattle.hl_meaning.specs.Layout.{words_of}
use Rattle.hl_meaning.specs.Places.{has_literal_indexes}
use Rattle.hl_inline.specs.FlatTrees.{Flat}
use Rattle.hl_inline.specs.Occurrences.{Occurrence, call_occurrence, flat_stmts_occurrences, place_occurrence, stmts_occurrences}

-- whether a place of a variable, or of a constant, has an index that isn't a literal
abbrev pub indexes_variable : (variable : ℕ) → Occurrence → Bool
indexes_variable variable (place_occurrence (variable_root number) parts) = number == variable && not (has_literal_indexes parts)
indexes_variable variable _ = false

abbrev pub indexes_constant : (constant : ℕ) → Occurrence → Bool
indexes_constant constant (place_occurrence (constant_root number) parts) = number == constant && not (has_literal_indexes parts)
indexes_constant constant _ = false

-- the lengths of those among the variables from a number on that are indexed
abbrev pub lengths_where : List StructDef → (is_indexed : ℕ → Bool) → (number : ℕ) → List Variable → List ℕ
lengths_where structs is_indexed number [] = []
lengths_where structs is_indexed number (v ∷ variables) =
    (if is_indexed number then words_of structs v.ty ∷ [] else []) ++ lengths_where structs is_indexed (suc number) variables

-- the lengths of those among the variables from a number on that occurrences index so
abbrev pub indexed_from : List StructDef → List Occurrence → ℕ → List Variable → List ℕ
indexed_from structs occurrences number variables =
    lengths_where structs (λ n. list_any (indexes_variable n) occurrences) number variables

-- the same of constants
abbrev pub indexed_constants_from : List StructDef → List Occurrence → ℕ → List Constant → List ℕ
indexed_constants_from structs occurrences number constants =
    lengths_where structs (λ n. list_any (indexes_constant n) occurrences) number (map (λ c. c.variable) constants)

-- A function as it is called once: the lengths of the variables that it and what it calls index so, each as often as
-- there are paths of calls to it, and the places and calls in all these functions.
pub record CallTree : Type 0 where
  pub lengths : List ℕ
  pub occurrences : List Occurrence

abbrev pub empty_call_tree : CallTree
empty_call_tree = record { lengths = []; occurrences = [] }

-- the call tree of a call, given those of the functions before
abbrev pub call_tree_of : List CallTree → Occurrence → CallTree
call_tree_of before (call_occurrence function) = unwrap_or (slice_get before function) empty_call_tree
call_tree_of before (place_occurrence root parts) = empty_call_tree

abbrev pub call_tree : List StructDef → List CallTree → FunctionDef → CallTree
call_tree structs before f = record {
  lengths = indexed_from structs (stmts_occurrences f.body) 0 f.variables ++ flat_map (λ m. (call_tree_of before m).lengths) (stmts_occurrences f.body);
  occurrences = stmts_occurrences f.body ++ flat_map (λ m. (call_tree_of before m).occurrences) (stmts_occurrences f.body);
}

-- the call trees of functions, behind those of the functions before them; a function calls earlier ones alone
abbrev pub call_trees_after : List StructDef → List CallTree → List FunctionDef → List CallTree
call_trees_after structs before [] = before
call_trees_after structs before (f ∷ functions) = call_trees_after structs (before ++ call_tree structs before f ∷ []) functions

-- the call tree of the entry
abbrev pub entry_call_tree : Program → CallTree
entry_call_tree p = unwrap_or (slice_get (call_trees_after p.structs [] p.functions) p.entry) empty_call_tree

-- The lengths of the indexed variables of a program. An indexed variable is a path of calls from the entry with a
-- variable or parameter of the function that it reaches, or a constant by itself, that this function, or some function
-- that is reached, indexes by an expression that isn't a literal.
unfoldable pub indexed_lengths : Program → List ℕ
indexed_lengths p = indexed_constants_from p.structs (entry_call_tree p).occurrences 0 p.constants ++ (entry_call_tree p).lengths

-- the lengths of the variables that a program without calls indexes so
unfoldable pub flat_indexed_lengths : Flat → List ℕ
flat_indexed_lengths f = indexed_from f.structs (flat_stmts_occurrences f.body) 0 f.variables
