-- What the lanes of some small programs ask.
use Rattle.std.specs.Prelude.{ℕ, [], ◌∷◌, true, false, Some, None, refl}
use Rattle.lane_core.specs.declared.event.Event.TheVariants.{BufferStore, SharedLoad, SharedStore}
use Rattle.lane_core.specs.declared.event.Asked.TheVariants.{Asks, Ended, Fault, Goes}
use Rattle.lane_core.specs.declared.event.LaneFault.TheVariants.{DivideByZero, DivideOverflow, OutOfBounds}
use Rattle.hl_meaning.specs.declared.program.Copying.TheVariants.{CopyBoth, CopyIn}
use Rattle.hl_meaning.specs.Types.{array_type, bool_type, uint_type, void_type}
use Rattle.hl_meaning.specs.Trees.{Stmt, a_location, binary_form, call_form, convert_form, for_stmt, index_part, literal_form, local_stmt, more_args, more_parts, no_args, no_parts, no_stmts, place_arg, return_stmt, run_stmt, shared_root, swizzle_part, value_arg, variable_root, while_stmt, write_form, block_stmt}
use Rattle.hl_meaning.specs.Programs.{Program}
use Rattle.hl_meaning.specs.Layout.{kinds_of, words_of}
use Rattle.hl_source.specs.SourceLane.{source_lane}
use Rattle.hl_source.proofs.SmallPrograms.{RunsTo, built, expr, function, int_type, int_word, kernel, load, loaded, program_with, set_place, stmts, store, store_3, stored, dst_slot, uint_word, uints, variable_read}

-- dst.Store(4, 7);
abbrev one_store : Program
one_store = kernel [] [] (store 4 (uint_word 7) ∷ [])

asks_the_store : RunsTo one_store 0 [] [] (Asks (stored 4 7))
unfolding source_lane words_of kinds_of
asks_the_store = refl

ends_behind_the_store : RunsTo one_store 0 (0 ∷ []) (stored 4 7 ∷ []) Ended
unfolding source_lane words_of kinds_of
ends_behind_the_store = refl

-- groupshared uint tile[4];
-- tile[dst.Load(0)] += dst.Load(4);
-- An assignment evaluates the indexes of its left side, then its right side, then it reads, then it writes.
abbrev adds_to_a_tile : Program
adds_to_a_tile =
    kernel (array_type uint_type 4 ∷ []) [] (
    run_stmt (expr uint_type (write_form (a_location uint_type (shared_root 0) (more_parts (index_part (load 0)) no_parts)) (Some 12) uint_type (load 4) false)) ∷ [])

reads_between : RunsTo adds_to_a_tile 0 (2 ∷ 5 ∷ 7 ∷ 0 ∷ [])
    (loaded 0 ∷ loaded 4 ∷ SharedLoad (record { variable = 0; word = 2 }) ∷ SharedStore (record { variable = 0; word = 2 }) 12 ∷ []) Ended
unfolding source_lane words_of kinds_of
reads_between = refl

-- the index 4 is out of bounds when the word is reached
faults_where_it_is_reached : RunsTo adds_to_a_tile 0 (4 ∷ 5 ∷ 7 ∷ 0 ∷ []) (loaded 0 ∷ loaded 4 ∷ []) (Fault OutOfBounds)
unfolding source_lane words_of kinds_of
faults_where_it_is_reached = refl

-- uint x = 5; dst.Store(0, x++); dst.Store(4, x);
abbrev counts_up : Program
counts_up =
    kernel [] (uint_type ∷ []) (
    local_stmt 0 (Some (uint_word 5)) ∷
    store 0 (expr uint_type (write_form (a_location uint_type (variable_root 0) no_parts) (Some 12) uint_type (expr uint_type (convert_form (int_word 1))) true)) ∷
    store 4 (variable_read uint_type 0) ∷ [])

has_the_old_value : RunsTo counts_up 0 (0 ∷ 0 ∷ []) (stored 0 5 ∷ stored 4 6 ∷ []) Ended
unfolding source_lane words_of kinds_of
has_the_old_value = refl

-- groupshared uint3 shared_vector;
-- uint3 v = uint3(1, 2, 3); v.zx = uint2(7, 8); dst.Store3(0, v); shared_vector.zx = uint2(7, 8);
abbrev writes_letters : Program
writes_letters =
    kernel (uints 3 ∷ []) (uints 3 ∷ []) (
    local_stmt 0 (Some (built (uints 3) (uint_word 1 ∷ uint_word 2 ∷ uint_word 3 ∷ []))) ∷
    set_place (uints 2) (variable_root 0) (more_parts (swizzle_part (2 ∷ 0 ∷ [])) no_parts) (built (uints 2) (uint_word 7 ∷ uint_word 8 ∷ [])) ∷
    store_3 0 (variable_read (uints 3) 0) ∷
    set_place (uints 2) (shared_root 0) (more_parts (swizzle_part (2 ∷ 0 ∷ [])) no_parts) (built (uints 2) (uint_word 7 ∷ uint_word 8 ∷ [])) ∷ [])

one_store_a_letter : RunsTo writes_letters 0 (0 ∷ 0 ∷ 0 ∷ [])
    (BufferStore dst_slot 0 0 3 (8 ∷ 2 ∷ 7 ∷ 0 ∷ []) ∷ SharedStore (record { variable = 0; word = 2 }) 7 ∷ SharedStore (record { variable = 0; word = 0 }) 8 ∷ []) Ended
unfolding source_lane words_of kinds_of
one_store_a_letter = refl

-- bool g(uint v) { dst.Store(0, v); return true; }
-- bool b = false && g(7); dst.Store(4, b);
-- Both operands of `&&` are evaluated.
abbrev joins_both : Program
joins_both =
    program_with [] [] [] (
    function bool_type (record { variable = 0; copying = CopyIn; semantic = None } ∷ []) (uint_type ∷ []) (
    store 0 (variable_read uint_type 0) ∷ return_stmt (Some (expr bool_type (literal_form 1))) ∷ []) ∷
    function void_type [] (bool_type ∷ []) (
    local_stmt 0 (Some (expr bool_type (binary_form 24 (expr bool_type (literal_form 0)) (expr bool_type (call_form 0 (more_args (value_arg (uint_word 7)) no_args)))))) ∷
    store 4 (expr uint_type (convert_form (variable_read bool_type 0))) ∷ []) ∷ []) 1

evaluates_both : RunsTo joins_both 0 (0 ∷ 0 ∷ []) (stored 0 7 ∷ stored 4 0 ∷ []) Ended
unfolding source_lane words_of kinds_of
evaluates_both = refl

-- void f(inout uint a, inout uint b) { a = a + 1; b = b + 10; }
-- uint x = 5; f(x, x); dst.Store(0, x);
-- The values are written back in order of the parameters.
abbrev raise : (number by : ℕ) → Stmt
raise number by =
    set_place uint_type (variable_root number) no_parts (expr uint_type (binary_form 12 (variable_read uint_type number) (uint_word by)))

abbrev copies_twice : Program
copies_twice =
    program_with [] [] [] (
    function void_type (record { variable = 0; copying = CopyBoth; semantic = None } ∷ record { variable = 1; copying = CopyBoth; semantic = None } ∷ []) (uint_type ∷ uint_type ∷ []) (raise 0 1 ∷ raise 1 10 ∷ []) ∷
    function void_type [] (uint_type ∷ []) (
    local_stmt 0 (Some (uint_word 5)) ∷
    run_stmt (expr void_type (call_form 0 (more_args (place_arg (a_location uint_type (variable_root 0) no_parts)) (more_args (place_arg (a_location uint_type (variable_root 0) no_parts)) no_args)))) ∷
    store 0 (variable_read uint_type 0) ∷ []) ∷ []) 1

the_last_copy_counts : RunsTo copies_twice 0 (0 ∷ []) (stored 0 15 ∷ []) Ended
unfolding source_lane words_of kinds_of
the_last_copy_counts = refl

-- dst.Store(0, 1); while (true) {}
abbrev loops_for_ever : Program
loops_for_ever =
    kernel [] [] (store 0 (uint_word 1) ∷ while_stmt (expr bool_type (literal_form 1)) (block_stmt no_stmts) ∷ [])

goes_on_and_on : RunsTo loops_for_ever 3 (0 ∷ []) (stored 0 1 ∷ []) Goes
unfolding source_lane words_of kinds_of
goes_on_and_on = refl

-- for (uint i = 0; i < 2; i++) dst.Store(0, i);
abbrev loops_twice : Program
loops_twice =
    kernel [] (uint_type ∷ []) (
    block_stmt (stmts (
    for_stmt (stmts (local_stmt 0 (Some (uint_word 0)) ∷ []))
    (Some (expr bool_type (binary_form 17 (variable_read uint_type 0) (uint_word 2))))
    (Some (expr uint_type (write_form (a_location uint_type (variable_root 0) no_parts) (Some 12) uint_type (uint_word 1) true)))
    (store 0 (variable_read uint_type 0)) ∷ [])) ∷ [])

-- two turns aren't enough, since the third one's test ends the loop
needs_a_third_turn : RunsTo loops_twice 2 (0 ∷ 0 ∷ []) (stored 0 0 ∷ stored 0 1 ∷ []) Goes
unfolding source_lane words_of kinds_of
needs_a_third_turn = refl

ends_in_the_third_turn : RunsTo loops_twice 3 (0 ∷ 0 ∷ []) (stored 0 0 ∷ stored 0 1 ∷ []) Ended
unfolding source_lane words_of kinds_of
ends_in_the_third_turn = refl

-- int a = 0x80000000; dst.Store(0, 1); dst.Store(4, a / b);
abbrev divides : (by : ℕ) → Program
divides by =
    kernel [] (int_type ∷ []) (
    local_stmt 0 (Some (expr int_type (convert_form (uint_word 2147483648)))) ∷
    store 0 (uint_word 1) ∷
    store 4 (expr uint_type (convert_form (expr int_type (binary_form 15 (variable_read int_type 0) (int_word by))))) ∷ [])

divides_by_zero : RunsTo (divides 0) 0 (0 ∷ 0 ∷ []) (stored 0 1 ∷ []) (Fault DivideByZero)
unfolding source_lane words_of kinds_of
divides_by_zero = refl

-- by -1
overflows : RunsTo (divides 4294967295) 0 (0 ∷ 0 ∷ []) (stored 0 1 ∷ []) (Fault DivideOverflow)
unfolding source_lane words_of kinds_of
overflows = refl

-- -2147483648 / 7 is truncated toward zero: -306783378
truncates : RunsTo (divides 7) 0 (0 ∷ 0 ∷ []) (stored 0 1 ∷ stored 4 3988183918 ∷ []) Ended
unfolding source_lane words_of kinds_of
truncates = refl
