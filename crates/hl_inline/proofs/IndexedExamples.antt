-- The indexed variables of some small programs.
use Rattle.std.specs.Prelude.{◌≡◌, ℕ, List, [], ◌∷◌, None, Some, refl}
use Rattle.hl_meaning.specs.declared.program.Copying.TheVariants.{CopyBoth, CopyIn}
use Rattle.hl_meaning.specs.Types.{array_type, uint_type, void_type}
use Rattle.hl_meaning.specs.Trees.{Expr, PathParts, a_location, binary_form, call_form, constant_root, index_part, more_args, more_parts, no_args, no_parts, place_arg, return_stmt, run_stmt, value_arg, variable_root}
use Rattle.hl_meaning.specs.Programs.{FunctionDef, Program}
use Rattle.hl_meaning.specs.Layout.{kinds_of, words_of}
use Rattle.hl_source.proofs.SmallPrograms.{expr, function, place_read, program_with, set_place, uint_word, uints, variable, variable_read}
use Rattle.hl_inline.specs.IndexedVariables.{flat_indexed_lengths, indexed_lengths}
use Rattle.hl_inline.specs.InlinedPrograms.{inlined_program}

-- an index by a variable, and by a number
abbrev by_variable : (number : ℕ) → PathParts
by_variable number = more_parts (index_part (variable_read uint_type number)) no_parts

abbrev by_number : (number : ℕ) → PathParts
by_number number = more_parts (index_part (uint_word number)) no_parts

-- static const uint N[4] = {1, 2, 3, 4};
abbrev with_constant : List FunctionDef → (entry : ℕ) → Program
with_constant functions entry =
    record (program_with [] [] [] functions entry) { constants = record { variable = variable (array_type uint_type 4); words = 1 ∷ 2 ∷ 3 ∷ 4 ∷ [] } ∷ [] }

-- uint h(uint i) { uint a[3]; a[i] = N[i]; return a[0]; }
abbrev h : FunctionDef
h = function uint_type (record { variable = 0; copying = CopyIn; semantic = None } ∷ []) (uint_type ∷ array_type uint_type 3 ∷ []) (
    set_place uint_type (variable_root 1) (by_variable 0) (place_read uint_type (constant_root 0) (by_variable 0)) ∷
    return_stmt (Some (place_read uint_type (variable_root 1) (by_number 0))) ∷ [])

abbrev call_h : Expr → Expr
call_h value = expr uint_type (call_form 0 (more_args (value_arg value) no_args))

-- uint x; x = h(1) + h(x);
-- The variable of `h` counts for each call, and the constant once.
abbrev calls_twice : Program
calls_twice =
    with_constant (h ∷ function void_type [] (uint_type ∷ []) (
    set_place uint_type (variable_root 0) no_parts (expr uint_type (binary_form 12 (call_h (uint_word 1)) (call_h (variable_read uint_type 0)))) ∷ []) ∷ []) 1

counts_each_call : indexed_lengths calls_twice ≡ 4 ∷ 3 ∷ 3 ∷ []
unfolding indexed_lengths words_of
counts_each_call = refl

keeps_each_call : flat_indexed_lengths (inlined_program calls_twice) ≡ 4 ∷ 3 ∷ 3 ∷ []
unfolding inlined_program flat_indexed_lengths words_of kinds_of
keeps_each_call = refl

-- uint x; x = N[1];
-- A function that isn't called counts nothing, and no index that is a literal does.
abbrev calls_nothing : Program
calls_nothing =
    with_constant (h ∷ function void_type [] (uint_type ∷ []) (
    set_place uint_type (variable_root 0) no_parts (place_read uint_type (constant_root 0) (by_number 1)) ∷ []) ∷ []) 1

counts_nothing : indexed_lengths calls_nothing ≡ []
unfolding indexed_lengths words_of
counts_nothing = refl

-- void f(inout uint u) { u = 0; }
-- uint i; uint b[5]; f(b[i]);
-- The place of an argument is one of the caller.
abbrev passes_an_element : Program
passes_an_element =
    program_with [] [] [] (
    function void_type (record { variable = 0; copying = CopyBoth; semantic = None } ∷ []) (uint_type ∷ []) (set_place uint_type (variable_root 0) no_parts (uint_word 0) ∷ []) ∷
    function void_type [] (uint_type ∷ array_type uint_type 5 ∷ []) (
    run_stmt (expr void_type (call_form 0 (more_args (place_arg (a_location uint_type (variable_root 1) (by_variable 0))) no_args))) ∷ []) ∷ []) 1

counts_the_caller : indexed_lengths passes_an_element ≡ 5 ∷ []
unfolding indexed_lengths words_of
counts_the_caller = refl

-- uint g(uint3 v, uint i) { return v[i]; }
-- uint x; x = g(uint3 .., x);
-- A parameter that is indexed counts as a variable.
abbrev indexes_a_parameter : Program
indexes_a_parameter =
    program_with [] [] [] (
    function uint_type (record { variable = 0; copying = CopyIn; semantic = None } ∷ record { variable = 1; copying = CopyIn; semantic = None } ∷ []) (uints 3 ∷ uint_type ∷ []) (
    return_stmt (Some (place_read uint_type (variable_root 0) (by_variable 1))) ∷ []) ∷
    function void_type [] (uint_type ∷ uints 3 ∷ []) (
    set_place uint_type (variable_root 0) no_parts (expr uint_type (call_form 0 (more_args (value_arg (variable_read (uints 3) 1)) (more_args (value_arg (variable_read uint_type 0)) no_args)))) ∷ []) ∷ []) 1

counts_a_parameter : indexed_lengths indexes_a_parameter ≡ 3 ∷ []
unfolding indexed_lengths words_of
counts_a_parameter = refl
