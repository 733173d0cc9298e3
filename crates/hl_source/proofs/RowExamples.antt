-- How the lanes of small programs divide the least number, and load and store several words at once.
use Rattle.std.specs.Prelude.{◌≡◌, [], ◌∷◌, true, Some, None, refl}
use Rattle.lane_core.specs.declared.event.Event.TheVariants.{BufferLoad, BufferStore}
use Rattle.lane_core.specs.declared.event.Asked.TheVariants.{Ended, Fault}
use Rattle.lane_core.specs.declared.event.LaneFault.TheVariants.{DivideOverflow}
use Rattle.hl_meaning.specs.Types.{uint_type, void_type}
use Rattle.hl_meaning.specs.Trees.{Expr, binary_form, convert_form, local_stmt, method_form, no_expr, unary_form}
use Rattle.hl_meaning.specs.Programs.{Program, Resource}
use Rattle.hl_meaning.specs.Layout.{kinds_of, words_of}
use Rattle.hl_source.specs.SourceLane.{source_lane}
use Rattle.hl_source.proofs.SmallPrograms.{RunsTo, dst_slot, expr, first_lane, function, int_type, int_word, kernel, program_with, store, store_3, stored, uint_word, uints, variable_read, word_reply}

-- `-1`
abbrev minus_one : Expr
minus_one = expr int_type (unary_form 13 (int_word 1))

-- int a = 0x80000000; dst.Store(0, a / -1);
abbrev divides_the_least : Program
divides_the_least =
    kernel [] (int_type ∷ []) (
    local_stmt 0 (Some (expr int_type (convert_form (uint_word 2147483648)))) ∷
    store 0 (expr uint_type (convert_form (expr int_type (binary_form 15 (variable_read int_type 0) minus_one)))) ∷ [])

faults_before_any_event : RunsTo divides_the_least 0 [] [] (Fault DivideOverflow)
unfolding source_lane words_of kinds_of
faults_before_any_event = refl

-- dst.Store(0, -2147483648 / -1);
-- The number is a uint, so both sides are.
abbrev divides_uints : Program
divides_uints =
    kernel [] [] (
    store 0 (expr uint_type (binary_form 15 (expr uint_type (unary_form 13 (uint_word 2147483648))) (expr uint_type (convert_form minus_one)))) ∷ [])

divides_to_zero : RunsTo divides_uints 0 (0 ∷ []) (stored 0 0 ∷ []) Ended
unfolding source_lane words_of kinds_of
divides_to_zero = refl

-- ByteAddressBuffer src;
-- dst.Store3(0, src.Load3(52));
abbrev src : Resource
src = record { name = []; class = 0; raw = true; element = void_type; words = 0; register = None; space = 0; at = 0 }

abbrev copies_three : Program
copies_three =
    program_with [] (src ∷ []) [] (
    function void_type [] [] (
    store_3 0 (expr (uints 3) (method_form 1 3 (uint_word 52) no_expr)) ∷ []) ∷ []) 0

stores_the_first_three :
    source_lane copies_three 0 first_lane (record { words = 4 ∷ 5 ∷ 6 ∷ 7 ∷ [] } ∷ word_reply 0 ∷ [])
    ≡ Some (record {
      events = BufferLoad (record { class = 0; space = 0; register = 0 }) 52 0 ∷ BufferStore dst_slot 0 0 3 (4 ∷ 5 ∷ 6 ∷ 0 ∷ []) ∷ [];
      outcome = Ended;
    })
unfolding source_lane words_of kinds_of
stores_the_first_three = refl
