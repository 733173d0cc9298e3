-- How many blocks bytes can spell.
use Rattle.std.proofs.Common.{◌≡◌, ℕ, zero, suc, ◌+◌, ◌*◌, ◌^◌, ◌<◌, ◌≤◌, List, [], ◌∷◌, ◌++◌, length, Result, Ok, Err, IfOk, MatchResult, ap, arith}
use Rattle.std.specs.List.{flat_map}
use Rattle.bc_stream.specs.declared.block.BlockTree.{BlockTree}
use Rattle.bc_stream.specs.declared.fault.StreamFault.{StreamFault}
use Rattle.bc_stream.specs.Bits.{low_bits, bits_of, Place, Fixed, Aligned, chunks_bits, Vbr, Vbrs}
use Rattle.bc_stream.specs.Blocks.{Contents, no_more, a_record, a_block, block_count, contents_of}
use Rattle.bc_stream.specs.Spelling.{Raw, raw_leave, raw_enter, raw_define, raw_record, raw_undefined, layout, State, width_in, id_of, frames_after, Good, Leads, Shown, shown_leave, shown_enter, shown_record, shown, shown_of, Spelled}
use Rattle.bc_stream.specs.Faults.{IsBad}
use Rattle.bc_stream.proofs.BitLemmas.{length-bits_of, length-low_bits}
use Rattle.bc_stream.proofs.ReaderLemmas.{takes_length}

-- how many heads of blocks are shown
heads : List Shown → ℕ
heads [] = 0
heads (shown_leave ∷ rest) = heads rest
heads (shown_enter id ∷ rest) = suc (heads rest)
heads (shown_record code values ∷ rest) = heads rest

heads-append : (a b : List Shown) → heads (a ++ b) ≡ heads a + heads b
unfolding heads
heads-append [] b = omega arith
heads-append (shown_leave ∷ a) b = heads-append a b
heads-append (shown_enter id ∷ a) b = omega (arith, heads-append a b)
heads-append (shown_record code values ∷ a) b = heads-append a b

heads-blocks : (c : Contents) → heads (shown_of c) ≡ block_count c
unfolding heads
heads-blocks no_more = omega arith
heads-blocks (a_record code values rest) = heads-blocks rest
heads-blocks (a_block id inner rest) =
    omega (arith, heads-append (shown_of inner) (shown_leave ∷ shown_of rest), heads-blocks inner, heads-blocks rest)

-- what is left behind a step
fixed_takes : (width number : ℕ) (f t : Place) → Fixed width number f t → width + length t.left ≤ length f.left
fixed_takes width number f t p = omega (arith, takes_length (low_bits width number) f t p.takes, length-low_bits width number)

aligned_takes : (f t : Place) → Aligned f t → length t.left ≤ length f.left
aligned_takes f t p = omega (arith, takes_length p.gap f t p.takes)

vbr_takes : (width number : ℕ) (f t : Place) → Vbr width number f t → length t.left ≤ length f.left
vbr_takes zero number f t p = omega (arith, ap (λ (place : Place). length place.left) p.1)
vbr_takes (suc unit) number f t p = omega (arith, takes_length (chunks_bits unit p.first p.more) f t p.takes)

vbrs_take : (width : ℕ) (numbers : List ℕ) (f t : Place) → Vbrs width numbers f t → length t.left ≤ length f.left
vbrs_take width [] f t p = omega (arith, ap (λ (place : Place). length place.left) p)
vbrs_take width (number ∷ numbers) f t p = omega (arith, vbr_takes width number f p.middle p.one, vbrs_take width numbers p.middle t p.two)

-- a head of a block has a word of 32 bits
layout_takes : (raw : Raw) (f t : Place) → layout raw f t → 32 * heads (shown raw) + length t.left ≤ length f.left
unfolding heads
layout_takes raw_leave f t p = omega (arith, aligned_takes f t p)
layout_takes (raw_enter id width words) f t p =
    omega (
      arith,
      vbr_takes 8 id f p.middle p.one,
      vbr_takes 4 width p.middle p.two.middle p.two.one,
      aligned_takes p.two.middle p.two.two.middle p.two.two.one,
      fixed_takes 32 words p.two.two.middle t p.two.two.two,
    )
layout_takes raw_define f t p = omega (arith, ap (λ (place : Place). length place.left) p)
layout_takes (raw_record code values) f t p =
    omega (arith, vbr_takes 6 code f p.middle p.one, vbr_takes 6 (length values) p.middle p.two.middle p.two.one, vbrs_take 6 values p.two.middle t p.two.two)
layout_takes (raw_undefined id) f t p = omega (arith, ap (λ (place : Place). length place.left) p.1)

good_takes : (from : State) (raw : Raw) (to : Place) → Good from raw to → 32 * heads (shown raw) + length to.left ≤ length from.place.left
good_takes from raw to g =
    omega (arith, fixed_takes (width_in from.frames) (id_of raw) from.place g.is_read.middle g.is_read.one, layout_takes raw g.is_read.middle to g.is_read.two)

leads_take : (raws : List Raw) (from to : State) → Leads raws to from → 32 * heads (flat_map shown raws) + length to.place.left ≤ length from.place.left
unfolding heads
leads_take [] from to p = omega (arith, ap (λ (state : State). length state.place.left) p)
leads_take (raw ∷ raws) from to p =
    omega (
      arith,
      good_takes from raw p.behind p.good,
      leads_take raws (record { frames = frames_after from.frames raw p.behind; place = p.behind }) to p.rest,
      heads-append (shown raw) (flat_map shown raws),
    )

few_blocks : (bytes : List ℕ) (blocks : Contents) → length bytes < 2 ^ 32 → Spelled bytes blocks → block_count blocks < 2 ^ 32
few_blocks bytes blocks short s =
    omega (
      arith,
      leads_take s.pieces (record { frames = []; place = record { at = 32; left = bits_of s.behind } }) s.end s.leads,
      length-bits_of s.behind,
      ap length s.magic,
      ap heads s.shows,
      heads-blocks blocks,
    )

pub answers_few : (bytes : List ℕ) (answer : Result (List BlockTree) StreamFault) → length bytes < 2 ^ 32 → MatchResult answer (λ found. Spelled bytes (contents_of found)) (IsBad bytes) →
    IfOk answer (λ blocks. block_count (contents_of blocks) < 2 ^ 32)
answers_few bytes (Ok found) short h = few_blocks bytes (contents_of found) short h
answers_few bytes (Err fault) short h = tt
