-- What was appended to the bits before spells steps and pieces.
use Rattle.std.proofs.Common.{◌≡◌, ℕ, ◌+◌, ◌-◌, ◌*◌, ◌/◌, ◌%◌, ◌^◌, ◌<◌, ◌≤◌, List, [], ◌∷◌, ◌++◌, length, refl, sym, ap, ◌∙◌, subst, arith}
use Rattle.std.specs.List.{All}
use Rattle.std.specs.Int.{to_le_bytes, w32}
use Rattle.std.proofs.Math.Nat.{mul_comm, mul-le-mul_left}
use Rattle.std.proofs.lemmas.List.{append_assoc, append-nil, length-append}
use Rattle.std.proofs.lemmas.List.Elements.{All-nil, All-cons}
use Rattle.std.proofs.lemmas.Nat.{shr_split, mod_below, pow_pos, pow_below, div_below}
use Rattle.bc_stream.specs.Bits.{low_bits, bits_of, Place, Step, Takes, ◌then◌, Fixed, Aligned, chunks_number, chunks_bits, Chunked, Vbr, Vbrs}
use Rattle.bc_stream.specs.Writing.{place, Wrote}
use Rattle.bc_stream.proofs.BitLemmas.{low_bits-none, low_bits-more, low_bits-join, low_bits-split, bits_of-append, bits_of-word, length-bits_of, length-low_bits}

pub wrote_takes : (bits old new rest : List ℕ) (base : ℕ) → new ≡ old ++ bits →
    Takes bits (place (base + length old) (bits ++ rest)) (place (base + length new) rest)
wrote_takes bits old new rest base is = record {
  left = refl;
  at = omega (arith, ap length is, length-append old bits);
}

pub wrote_then : (R S : Step) (old middle new : List ℕ) → Wrote R old middle → Wrote S middle new → Wrote (R then S) old new
wrote_then R S old middle new p q = record {
  bits = p.bits ++ q.bits;
  appended = q.appended ∙ (ap (λ l. l ++ q.bits) p.appended ∙ append_assoc old p.bits q.bits);
  spells = λ base rest on. record {
    middle = place (base + length middle) (q.bits ++ rest);
    one = subst (λ l. R (place (base + length old) l) (place (base + length middle) (q.bits ++ rest))) (sym (append_assoc p.bits q.bits rest)) (p.spells base (q.bits ++ rest) on);
    two = q.spells base rest on;
  };
}

pub wrote_fixed : (width number : ℕ) (old new : List ℕ) → number < 2 ^ width → new ≡ old ++ low_bits width number → Wrote (Fixed width number) old new
wrote_fixed width number old new fits is = record {
  bits = low_bits width number;
  appended = is;
  spells = λ base rest on. record { fits = fits; takes = wrote_takes (low_bits width number) old new rest base is };
}

-- ---- the gap before a word

pub wrote_no_gap : (old : List ℕ) → length old % 32 ≡ 0 → Wrote Aligned old old
wrote_no_gap old on = record {
  bits = [];
  appended = sym (append-nil old);
  spells = λ base rest at. record {
    gap = [];
    short = omega arith;
    on_word = omega (arith, on, at);
    takes = wrote_takes [] old old rest base (sym (append-nil old));
  };
}

pub wrote_gap : (gap old new : List ℕ) → length gap < 32 → new ≡ old ++ gap → length new % 32 ≡ 0 → Wrote Aligned old new
wrote_gap gap old new short is on = record {
  bits = gap;
  appended = is;
  spells = λ base rest at. record {
    gap = gap;
    short = short;
    on_word = omega (arith, on, at);
    takes = wrote_takes gap old new rest base is;
  };
}

-- the word that the last bits are filled up to
pub filled : (words after old : List ℕ) (u l : ℕ) → u < 32 → bits_of words ++ low_bits u l ≡ old → after ≡ words ++ to_le_bytes w32 l →
    bits_of after ++ low_bits 0 0 ≡ old ++ low_bits (32 - u) (l / 2 ^ u)
filled words after old u l h is more =
    let count : u + (32 - u) ≡ 32 = omega arith in
    ap (λ x. bits_of after ++ x) (low_bits-none 0)
    ∙ (append-nil (bits_of after)
    ∙ (ap bits_of more
    ∙ (bits_of-append words (to_le_bytes w32 l)
    ∙ (ap (λ x. bits_of words ++ x) (bits_of-word l ∙ (ap (λ c. low_bits c l) (sym count) ∙ low_bits-split u (32 - u) l))
    ∙ (sym (append_assoc (bits_of words) (low_bits u l) (low_bits (32 - u) (l / 2 ^ u)))
    ∙ ap (λ x. x ++ low_bits (32 - u) (l / 2 ^ u)) is)))))

pub words_length : (words : List ℕ) (now : List ℕ) → length words % 4 ≡ 0 → bits_of words ++ low_bits 0 0 ≡ now → length now % 32 ≡ 0
words_length words now whole is =
    let size : 8 * length words ≡ length now = omega (arith, ap length is, length-append (bits_of words) (low_bits 0 0), length-bits_of words, length-low_bits 0 0) in
    omega arith

-- ---- chunks

-- bits that are a number in chunks
pub record IsChunks (unit : ℕ) (number : ℕ) (bits : List ℕ) : Type 0 where
  pub first : ℕ
  pub more : List ℕ
  pub fit : All (λ chunk. chunk < 2 ^ unit) (first ∷ more)
  pub makes : number ≡ chunks_number unit (first ∷ more)
  pub is : bits ≡ chunks_bits unit first more

pub wrote_chunks : (unit number : ℕ) (bits old new : List ℕ) → IsChunks unit number bits → new ≡ old ++ bits → Wrote (Chunked unit number) old new
wrote_chunks unit number bits old new h is = record {
  bits = bits;
  appended = is;
  spells = λ base rest on. record {
    first = h.first;
    more = h.more;
    fit = h.fit;
    makes = h.makes;
    takes = subst (λ b. Takes b (place (base + length old) (bits ++ rest)) (place (base + length new) rest)) h.is (wrote_takes bits old new rest base is);
  };
}

-- a chunk with the bit behind it
pub flagged : (unit chunk flag : ℕ) → chunk < 2 ^ unit → flag < 2 → low_bits (unit + 1) (chunk + flag * 2 ^ unit) ≡ low_bits unit chunk ++ flag ∷ []
flagged unit chunk flag h g =
    low_bits-join unit 1 chunk flag h
    ∙ ap (λ l. low_bits unit chunk ++ l) (low_bits-more 0 flag ∙ (ap (λ d. d ∷ low_bits 0 (flag / 2)) low ∙ ap (λ l. flag ∷ l) (low_bits-none (flag / 2))))
  where
    low : flag % 2 ≡ flag
    low = omega arith

pub last_chunk : (unit rest : ℕ) → rest < 2 ^ unit → IsChunks unit rest (low_bits (unit + 1) rest)
last_chunk unit rest h = record {
  first = rest;
  more = [];
  fit = All-cons (λ chunk. chunk < 2 ^ unit) rest [] h (All-nil (λ chunk. chunk < 2 ^ unit));
  makes = omega arith;
  is = ap (low_bits (unit + 1)) (plain rest (2 ^ unit)) ∙ flagged unit rest 0 h (omega arith);
}
  where
    plain : (r p : ℕ) → r ≡ r + 0 * p
    plain r p = omega arith

pub chunk_before : (unit rest : ℕ) (bits : List ℕ) → IsChunks unit (rest / 2 ^ unit) bits →
    IsChunks unit rest (low_bits (unit + 1) (rest % 2 ^ unit + 2 ^ unit) ++ bits)
chunk_before unit rest bits h = record {
  first = rest % 2 ^ unit;
  more = h.first ∷ h.more;
  fit = All-cons (λ chunk. chunk < 2 ^ unit) (rest % 2 ^ unit) (h.first ∷ h.more) below h.fit;
  makes = worth;
  is = ap (λ l. l ++ bits) head ∙ (append_assoc (low_bits unit (rest % 2 ^ unit)) (1 ∷ []) bits ∙ ap (λ l. low_bits unit (rest % 2 ^ unit) ++ 1 ∷ l) h.is);
}
  where
    below : rest % 2 ^ unit < 2 ^ unit
    below = mod_below rest (2 ^ unit) (pow_pos unit)

    worth : rest ≡ rest % 2 ^ unit + 2 ^ unit * chunks_number unit (h.first ∷ h.more)
    worth = omega (arith, shr_split rest unit, mul_comm (rest / 2 ^ unit) (2 ^ unit), ap (λ z. 2 ^ unit * z) h.makes)

    once : (p : ℕ) → p ≡ 1 * p
    once p = omega arith

    head : low_bits (unit + 1) (rest % 2 ^ unit + 2 ^ unit) ≡ low_bits unit (rest % 2 ^ unit) ++ 1 ∷ []
    head = ap (λ n. low_bits (unit + 1) (rest % 2 ^ unit + n)) (once (2 ^ unit)) ∙ flagged unit (rest % 2 ^ unit) 1 below (omega arith)

pub fewer : (unit rest : ℕ) → 0 < unit → 0 < rest → rest / 2 ^ unit < rest
fewer unit rest h g =
    let two : 2 ≤ 2 ^ unit = pow_below 0 unit h in
    div_below rest (2 ^ unit) rest (pow_pos unit) (omega (arith, mul-le-mul_left rest two, pow_pos unit))

no_more : (unit rest : ℕ) → rest / 2 ^ unit ≤ rest
no_more unit rest =
    let one : 1 ≤ 2 ^ unit = pow_pos unit in
    let below : rest / 2 ^ unit < rest + 1 = div_below rest (2 ^ unit) (rest + 1) (pow_pos unit) (omega (arith, mul-le-mul_left (rest + 1) one)) in
    omega arith

pub four_fewer : (unit rest : ℕ) → 0 < unit → 2 ^ unit ≤ rest / 2 ^ unit / 2 ^ unit / 2 ^ unit → rest / 2 ^ unit / 2 ^ unit / 2 ^ unit / 2 ^ unit < rest
four_fewer unit rest h g =
    let fourth : 0 < rest / 2 ^ unit / 2 ^ unit / 2 ^ unit = omega (arith, pow_pos unit) in
    omega (arith, fewer unit (rest / 2 ^ unit / 2 ^ unit / 2 ^ unit) h fourth, no_more unit rest, no_more unit (rest / 2 ^ unit), no_more unit (rest / 2 ^ unit / 2 ^ unit))

-- Some of a number is written, so many bits are there now, and this is left of it: with the chunks of what is left the
-- bits will be the number's.
abbrev pub SoFar : (unit number rest : ℕ) (old now : List ℕ) → Type 0
SoFar unit number rest old now = (bits : List ℕ) → IsChunks unit rest bits → (whole : List ℕ) × IsChunks unit number whole × (old ++ whole ≡ now ++ bits)

none_so_far : (unit number : ℕ) (old : List ℕ) → SoFar unit number number old old
none_so_far unit number old bits h = (bits, h, refl)

-- the lowest chunk of what is left, with the flag that another follows
abbrev pub IsFlagged : (unit rest chunk : ℕ) → Type 0
IsFlagged unit rest chunk = chunk ≡ rest % 2 ^ unit + 2 ^ unit

-- where no more chunks follow
pub end_of_chunks : (unit number rest : ℕ) (old now new : List ℕ) → SoFar unit number rest old now →
    rest < 2 ^ unit → new ≡ now ++ low_bits (unit + 1) rest → Wrote (Chunked unit number) old new
end_of_chunks unit number rest old now new so_far below is =
    let w = so_far (low_bits (unit + 1) rest) (last_chunk unit rest below) in
    wrote_chunks unit number w.0 old new w.1 (is ∙ sym w.2)

-- where another chunk follows
pub next_chunk : (unit number rest chunk : ℕ) (old now new : List ℕ) → SoFar unit number rest old now → IsFlagged unit rest chunk →
    new ≡ now ++ low_bits (unit + 1) chunk → SoFar unit number (rest / 2 ^ unit) old new
next_chunk unit number rest chunk old now new so_far flag is bits h =
    let w = so_far (low_bits (unit + 1) (rest % 2 ^ unit + 2 ^ unit) ++ bits) (chunk_before unit rest bits h) in
    let put : new ≡ now ++ low_bits (unit + 1) (rest % 2 ^ unit + 2 ^ unit) = is ∙ ap (λ n. now ++ low_bits (unit + 1) n) flag in
    (w.0, w.1, w.2 ∙ (sym (append_assoc now (low_bits (unit + 1) (rest % 2 ^ unit + 2 ^ unit)) bits) ∙ ap (λ l. l ++ bits) (sym put)))

-- where two chunks stand before others
next_two : (unit number rest a b : ℕ) (old now new : List ℕ) → SoFar unit number rest old now → IsFlagged unit rest a → IsFlagged unit (rest / 2 ^ unit) b →
    new ≡ (now ++ low_bits (unit + 1) a) ++ low_bits (unit + 1) b → SoFar unit number (rest / 2 ^ unit / 2 ^ unit) old new
next_two unit number rest a b old now new so_far f g is =
    let one = now ++ low_bits (unit + 1) a in
    next_chunk unit number (rest / 2 ^ unit) b old one new (next_chunk unit number rest a old now one so_far f refl) g is

-- where four do
pub next_four : (unit number rest a b c d : ℕ) (old now new : List ℕ) → SoFar unit number rest old now →
    IsFlagged unit rest a → IsFlagged unit (rest / 2 ^ unit) b → IsFlagged unit (rest / 2 ^ unit / 2 ^ unit) c → IsFlagged unit (rest / 2 ^ unit / 2 ^ unit / 2 ^ unit) d →
    new ≡ (((now ++ low_bits (unit + 1) a) ++ low_bits (unit + 1) b) ++ low_bits (unit + 1) c) ++ low_bits (unit + 1) d →
    SoFar unit number (rest / 2 ^ unit / 2 ^ unit / 2 ^ unit / 2 ^ unit) old new
next_four unit number rest a b c d old now new so_far e f g h is =
    let two = (now ++ low_bits (unit + 1) a) ++ low_bits (unit + 1) b in
    next_two unit number (rest / 2 ^ unit / 2 ^ unit) c d old two new (next_two unit number rest a b old now two so_far e f refl) g h is

-- where what is left is written whole
pub rest_of_chunks : (unit number rest : ℕ) (old now new : List ℕ) → SoFar unit number rest old now → Wrote (Chunked unit rest) now new →
    Wrote (Chunked unit number) old new
rest_of_chunks unit number rest old now new so_far wrote =
    let read = wrote.spells 0 [] (omega arith) in
    let bits : wrote.bits ≡ chunks_bits unit read.first read.more =
    sym (append-nil wrote.bits) ∙ (read.takes.left ∙ append-nil (chunks_bits unit read.first read.more)) in
    let w = so_far wrote.bits (record { first = read.first; more = read.more; fit = read.fit; makes = read.makes; is = bits }) in
    wrote_chunks unit number w.0 old new w.1 (wrote.appended ∙ sym w.2)

pub one_chunk : (unit number : ℕ) (old new : List ℕ) → number < 2 ^ unit → new ≡ old ++ low_bits (unit + 1) number → Wrote (Chunked unit number) old new
one_chunk unit number old new below is = end_of_chunks unit number number old old new (none_so_far unit number old) below is

pub two_chunks : (unit number a : ℕ) (old new : List ℕ) → number / 2 ^ unit < 2 ^ unit → IsFlagged unit number a →
    new ≡ (old ++ low_bits (unit + 1) a) ++ low_bits (unit + 1) (number / 2 ^ unit) → Wrote (Chunked unit number) old new
two_chunks unit number a old new below f is =
    let one = old ++ low_bits (unit + 1) a in
    end_of_chunks unit number (number / 2 ^ unit) old one new (next_chunk unit number number a old old one (none_so_far unit number old) f refl) below is

pub three_chunks : (unit number a b : ℕ) (old new : List ℕ) → number / 2 ^ unit / 2 ^ unit < 2 ^ unit →
    IsFlagged unit number a → IsFlagged unit (number / 2 ^ unit) b →
    new ≡ ((old ++ low_bits (unit + 1) a) ++ low_bits (unit + 1) b) ++ low_bits (unit + 1) (number / 2 ^ unit / 2 ^ unit) →
    Wrote (Chunked unit number) old new
three_chunks unit number a b old new below f g is =
    let two = (old ++ low_bits (unit + 1) a) ++ low_bits (unit + 1) b in
    end_of_chunks unit number (number / 2 ^ unit / 2 ^ unit) old two new (next_two unit number number a b old old two (none_so_far unit number old) f g refl) below is

pub four_chunks : (unit number a b c : ℕ) (old new : List ℕ) → number / 2 ^ unit / 2 ^ unit / 2 ^ unit < 2 ^ unit →
    IsFlagged unit number a → IsFlagged unit (number / 2 ^ unit) b → IsFlagged unit (number / 2 ^ unit / 2 ^ unit) c →
    new ≡ (((old ++ low_bits (unit + 1) a) ++ low_bits (unit + 1) b) ++ low_bits (unit + 1) c) ++ low_bits (unit + 1) (number / 2 ^ unit / 2 ^ unit / 2 ^ unit) →
    Wrote (Chunked unit number) old new
four_chunks unit number a b c old new below f g h is =
    let two = (old ++ low_bits (unit + 1) a) ++ low_bits (unit + 1) b in
    let three = two ++ low_bits (unit + 1) c in
    end_of_chunks unit number (number / 2 ^ unit / 2 ^ unit / 2 ^ unit) old three new
    (next_chunk unit number (number / 2 ^ unit / 2 ^ unit) c old two three (next_two unit number number a b old old two (none_so_far unit number old) f g refl) h refl) below is

-- ---- numbers one after another

pub wrote_as : (R S : Step) (old new : List ℕ) → ((f t : Place) → R f t → S f t) → Wrote R old new → Wrote S old new
wrote_as R S old new into p = record {
  bits = p.bits;
  appended = p.appended;
  spells = λ base rest on. into (place (base + length old) (p.bits ++ rest)) (place (base + length new) rest) (p.spells base rest on);
}

pub vbrs_push : (w v : ℕ) (xs : List ℕ) (f t : Place) → (Vbrs w xs then Vbr w v) f t → Vbrs w (xs ++ v ∷ []) f t
vbrs_push w v [] f t p = record { middle = t; one = subst (λ m. Vbr w v m t) p.one p.two; two = refl }
vbrs_push w v (x ∷ xs) f t p = record {
  middle = p.one.middle;
  one = p.one.one;
  two = vbrs_push w v xs p.one.middle t (record { middle = p.middle; one = p.one.two; two = p.two });
}

pub wrote_no_vbrs : (w : ℕ) (old : List ℕ) → Wrote (Vbrs w []) old old
wrote_no_vbrs w old = record {
  bits = [];
  appended = sym (append-nil old);
  spells = λ base rest on. refl;
}

pub wrote_vbr_more : (w v : ℕ) (xs old middle new : List ℕ) → Wrote (Vbrs w xs) old middle → Wrote (Vbr w v) middle new → Wrote (Vbrs w (xs ++ v ∷ [])) old new
wrote_vbr_more w v xs old middle new p q =
    wrote_as (Vbrs w xs then Vbr w v) (Vbrs w (xs ++ v ∷ [])) old new (vbrs_push w v xs) (wrote_then (Vbrs w xs) (Vbr w v) old middle new p q)
