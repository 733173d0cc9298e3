-- How the lanes of small programs ask their neighbours, what they know of themselves, and how they leave loops.
use Rattle.std.specs.Prelude.{◌≡◌, ℕ, List, [], ◌∷◌, true, false, Some, None, refl}
use Rattle.lane_core.specs.declared.event.Event.TheVariants.{Barrier, BufferStore, Wave}
use Rattle.lane_core.specs.declared.event.WaveKind.TheVariants.{AnyTrue, Ballot, IsFirst, ReadLaneAt, SignedMin, Sum}
use Rattle.lane_core.specs.declared.event.Asked.TheVariants.{Ended}
use Rattle.lane_core.specs.Lane.{Lane}
use Rattle.hl_meaning.specs.declared.ty.Kind.TheVariants.{Bool as BoolKind, Int as IntKind}
use Rattle.hl_meaning.specs.declared.program.Copying.TheVariants.{CopyIn}
use Rattle.hl_meaning.specs.declared.program.Parameter.{Parameter}
use Rattle.hl_meaning.specs.declared.program.Semantic.{Semantic}
use Rattle.hl_meaning.specs.declared.program.Semantic.TheVariants.{DispatchThreadId, GroupId, GroupIndex, GroupThreadId}
use Rattle.hl_meaning.specs.Types.{Ty, bool_type, uint_type, vector_type, void_type}
use Rattle.hl_meaning.specs.Trees.{Expr, a_location, binary_form, block_stmt, break_stmt, choose_form, continue_stmt, convert_form, do_stmt, if_stmt, intrinsic_form, literal_form, local_stmt, no_parts, no_stmt, run_stmt, variable_root, write_form}
use Rattle.hl_meaning.specs.Programs.{Program}
use Rattle.hl_meaning.specs.Layout.{kinds_of, words_of}
use Rattle.hl_source.specs.SourceLane.{source_lane}
use Rattle.hl_source.proofs.SmallPrograms.{RunsTo, built, dst_slot, expr, exprs, function, int_type, int_word, kernel, load, loaded, program_with, stmts, store, store_3, stored, uint_word, uints, variable_read, word_reply}

abbrev bool_word : ℕ → Expr
bool_word word = expr bool_type (literal_form word)

abbrev intrinsic : Ty → (number : ℕ) → List Expr → Expr
intrinsic ty number args = expr ty (intrinsic_form number (exprs args))

-- WaveActiveSum(uint2(dst.Load(0), dst.Load(4))); WaveActiveMin(-1); WaveReadLaneAt(true, 3); WaveActiveBallot(true);
-- GroupMemoryBarrierWithGroupSync(); dst.Store(0, WaveIsFirstLane()); dst.Store(4, WaveActiveAnyTrue(false));
abbrev asks_the_wave : Program
asks_the_wave =
    kernel [] [] (
    run_stmt (intrinsic (uints 2) 35 (built (uints 2) (load 0 ∷ load 4 ∷ []) ∷ [])) ∷
    run_stmt (intrinsic int_type 37 (int_word 4294967295 ∷ [])) ∷
    run_stmt (intrinsic bool_type 33 (bool_word 1 ∷ uint_word 3 ∷ [])) ∷
    run_stmt (intrinsic (uints 4) 31 (bool_word 1 ∷ [])) ∷
    run_stmt (intrinsic void_type 21 []) ∷
    store 0 (expr uint_type (convert_form (intrinsic bool_type 26 []))) ∷
    store 4 (expr uint_type (convert_form (intrinsic bool_type 29 (bool_word 0 ∷ [])))) ∷ [])

one_event_a_component :
    RunsTo asks_the_wave 0 (5 ∷ 6 ∷ 0 ∷ 0 ∷ 0 ∷ 0 ∷ 0 ∷ 0 ∷ 9 ∷ 0 ∷ 0 ∷ 0 ∷ [])
    (loaded 0 ∷ loaded 4 ∷ Wave Sum 5 0 ∷ Wave Sum 6 0 ∷ Wave SignedMin 4294967295 0 ∷ Wave ReadLaneAt 1 3 ∷ Wave Ballot 1 0 ∷ Barrier 9 ∷ Wave IsFirst 0 0 ∷ stored 0 1 ∷ Wave AnyTrue 0 0 ∷ stored 4 0 ∷ []) Ended
unfolding source_lane words_of kinds_of
one_event_a_component = refl

-- dst.Store3(0, bool3(true, false, true) ? uint3(1, 2, 3) : uint3(dst.Load(0), dst.Load(4), 9));
abbrev chooses : Program
chooses =
    kernel [] [] (
    store_3 0 (expr (uints 3) (choose_form
    (built (vector_type BoolKind 3) (bool_word 1 ∷ bool_word 0 ∷ bool_word 1 ∷ []))
    (built (uints 3) (uint_word 1 ∷ uint_word 2 ∷ uint_word 3 ∷ []))
    (built (uints 3) (load 0 ∷ load 4 ∷ uint_word 9 ∷ [])))) ∷ [])

chooses_by_component : RunsTo chooses 0 (5 ∷ 6 ∷ 0 ∷ []) (loaded 0 ∷ loaded 4 ∷ BufferStore dst_slot 0 0 3 (1 ∷ 6 ∷ 3 ∷ 0 ∷ []) ∷ []) Ended
unfolding source_lane words_of kinds_of
chooses_by_component = refl

-- void main(uint3 a : SV_DispatchThreadID, uint b : SV_GroupIndex, int2 c : SV_GroupID, uint3 d : SV_GroupThreadID)
-- { dst.Store3(0, a); dst.Store(12, b); dst.Store3(16, uint3(c, WaveGetLaneIndex())); dst.Store3(28, d); }
abbrev input : ℕ → Semantic → Parameter
input variable semantic = record { variable = variable; copying = CopyIn; semantic = Some semantic }

abbrev tells_its_place : Program
tells_its_place =
    program_with [] [] [] (
    function void_type (input 0 DispatchThreadId ∷ input 1 GroupIndex ∷ input 2 GroupId ∷ input 3 GroupThreadId ∷ []) (uints 3 ∷ uint_type ∷ vector_type IntKind 2 ∷ uints 3 ∷ []) (
    store_3 0 (variable_read (uints 3) 0) ∷
    store 12 (variable_read uint_type 1) ∷
    store_3 16 (built (uints 3) (expr (uints 2) (convert_form (variable_read (vector_type IntKind 2) 2)) ∷ intrinsic uint_type 27 [] ∷ [])) ∷
    store_3 28 (variable_read (uints 3) 3) ∷ []) ∷ []) 0

abbrev far_lane : Lane
far_lane = record {
  group = record { x = 1; y = 2; z = 3 };
  thread = record { x = 3; y = 1; z = 0 };
  lane_index = 2;
  wave_size = 4;
  start = [];
}

knows_its_place :
    source_lane tells_its_place 0 far_lane (word_reply 0 ∷ word_reply 0 ∷ word_reply 0 ∷ word_reply 0 ∷ [])
    ≡ Some (record {
      events = BufferStore dst_slot 0 0 3 (7 ∷ 5 ∷ 3 ∷ 0 ∷ []) ∷ stored 12 7 ∷ BufferStore dst_slot 16 0 3 (1 ∷ 2 ∷ 2 ∷ 0 ∷ []) ∷ BufferStore dst_slot 28 0 3 (3 ∷ 1 ∷ 0 ∷ 0 ∷ []) ∷ [];
      outcome = Ended;
    })
unfolding source_lane words_of kinds_of
knows_its_place = refl

-- uint i = 0;
-- do { i++; if (i == 2) continue; if (i == 4) break; uint y; dst.Store(i, y); y = 7; } while (i < 9);
-- dst.Store(0, i);
abbrev is_equal : ℕ → Expr
is_equal word = expr bool_type (binary_form 26 (variable_read uint_type 0) (uint_word word))

abbrev leaves_a_loop : Program
leaves_a_loop =
    kernel [] (uint_type ∷ uint_type ∷ []) (
    local_stmt 0 (Some (uint_word 0)) ∷
    do_stmt (block_stmt (stmts (
    run_stmt (expr uint_type (write_form (a_location uint_type (variable_root 0) no_parts) (Some 12) uint_type (uint_word 1) true)) ∷
    if_stmt (is_equal 2) continue_stmt no_stmt ∷
    if_stmt (is_equal 4) break_stmt no_stmt ∷
    local_stmt 1 None ∷
    store 8 (variable_read uint_type 1) ∷
    run_stmt (expr uint_type (write_form (a_location uint_type (variable_root 1) no_parts) None uint_type (uint_word 7) false)) ∷ [])))
    (expr bool_type (binary_form 17 (variable_read uint_type 0) (uint_word 9))) ∷
    store 0 (variable_read uint_type 0) ∷ [])

leaves_in_the_fourth_turn : RunsTo leaves_a_loop 4 (0 ∷ 0 ∷ 0 ∷ []) (stored 8 0 ∷ stored 8 0 ∷ stored 0 4 ∷ []) Ended
unfolding source_lane words_of kinds_of
leaves_in_the_fourth_turn = refl
