-- Bits at places of bytes, taken from words of 64 bits.
use Rattle.std.proofs.Common.{◌≡◌, ℕ, zero, suc, ◌+◌, ◌-◌, ◌*◌, ◌/◌, ◌%◌, ◌^◌, ◌<◌, ◌≤◌, List, [], ◌∷◌, ◌++◌, length, take, drop, get_or, refl, sym, ap, ◌∙◌, subst, arith}
use Rattle.std.specs.Prelude.{replicate}
use Rattle.std.proofs.lemmas.List.{append_assoc, length-append, length-drop, length-take-le, take-append-drop, take-append-le, take_at, drop_at, drop-drop, drop-take, get_or-drop}
use Rattle.std.proofs.lemmas.Nat.{mod_below, pow_pos}
use Rattle.byteorder.specs.Endian.{little_number}
use Rattle.byteorder.specs.Numbers.{little_from-cons}
use Rattle.bc_stream.specs.Bits.{low_bits, bits_of, Place, Takes, Fixed, Aligned}
use Rattle.bc_stream.specs.Reading.{place_in, NoNumber, IsFront, IsWindow, FixedAt, AlignedAt}
use Rattle.bc_stream.proofs.WriterLemmas.{both_below}
use Rattle.bc_stream.proofs.BitLemmas.{low_bits-none, low_bits-join, low_bits-split, low_bits-mod, bits_of-none, bits_of-more, bits_of-append, length-bits_of, length-low_bits}

-- ---- fronts

-- the lowest bits of a number's lowest bits
take-low_bits : (n k word : ℕ) → k ≤ n → take k (low_bits n word) ≡ low_bits k word
take-low_bits n k word h =
    let count : k + (n - k) ≡ n = omega arith in
    ap (λ m. take k (low_bits m word)) (sym count)
    ∙ (ap (take k) (low_bits-split k (n - k) word)
    ∙ take_at (low_bits k word) (low_bits (n - k) (word / 2 ^ k)) k (length-low_bits k word))

drop-low_bits : (n k word : ℕ) → k ≤ n → drop k (low_bits n word) ≡ low_bits (n - k) (word / 2 ^ k)
drop-low_bits n k word h =
    let count : k + (n - k) ≡ n = omega arith in
    ap (λ m. drop k (low_bits m word)) (sym count)
    ∙ (ap (drop k) (low_bits-split k (n - k) word)
    ∙ drop_at (low_bits k word) (low_bits (n - k) (word / 2 ^ k)) k (length-low_bits k word))

turned : (a b : ℕ) → a + 256 * b ≡ a + b * 2 ^ 8
turned a b = omega arith

-- a number of bytes has their bits
number_bits : (n : ℕ) (xs : List ℕ) → n ≤ length xs → ((i : ℕ) → get_or xs i 0 < 256) → low_bits (8 * n) (little_number n xs) ≡ bits_of (take n xs)
number_bits zero xs h bytes = low_bits-none 0 ∙ sym bits_of-none
number_bits (suc n) [] h bytes = absurd (omega arith)
number_bits (suc n) (x ∷ xs) h bytes =
    let rest = number_bits n xs (omega arith) (λ i. bytes (suc i)) in
    let number : little_number (suc n) (x ∷ xs) ≡ x + little_number n xs * 2 ^ 8 =
    ap (λ r. x + 256 * r) (little_from-cons 0 n x xs) ∙ turned x (little_number n xs) in
    let count : 8 * suc n ≡ 8 + 8 * n = omega arith in
    let byte : x < 2 ^ 8 = omega (arith, bytes 0) in
    ap (λ m. low_bits m (little_number (suc n) (x ∷ xs))) count
    ∙ (ap (low_bits (8 + 8 * n)) number
    ∙ (low_bits-join 8 (8 * n) x (little_number n xs) byte
    ∙ (ap (λ l. low_bits 8 x ++ l) rest ∙ sym (bits_of-more x (take n xs)))))

take_of_front : (count n : ℕ) (xs : List ℕ) → count ≤ 8 * n → n ≤ length xs → take count (bits_of xs) ≡ take count (bits_of (take n xs))
take_of_front count n xs h within =
    let size : length (bits_of (take n xs)) ≡ 8 * n = omega (arith, length-bits_of (take n xs), length-take-le n xs within) in
    ap (λ l. take count (bits_of l)) (sym (take-append-drop n xs))
    ∙ (ap (take count) (bits_of-append (take n xs) (drop n xs))
    ∙ take-append-le count (bits_of (take n xs)) (bits_of (drop n xs)) (omega arith))

-- eight bytes as one word
pub front_of_eight : (bytes : List ℕ) (word : ℕ) → 8 ≤ length bytes → ((i : ℕ) → get_or bytes i 0 < 256) → word ≡ little_number 8 bytes → IsFront bytes word
front_of_eight bytes word long fits is count few within =
    take_of_front count 8 bytes (omega arith) long
    ∙ (ap (take count) (sym (number_bits 8 bytes long fits))
    ∙ (take-low_bits 64 count (little_number 8 bytes) few ∙ ap (low_bits count) (sym is)))

-- bytes that are left are bytes
pub rest_bytes : (bytes : List ℕ) (start : ℕ) → ((i : ℕ) → get_or bytes i 0 < 256) → (i : ℕ) → get_or (drop start bytes) i 0 < 256
rest_bytes bytes start fits i = subst (λ b. b < 256) (sym (get_or-drop start bytes i 0)) (fits (start + i))

-- fewer bytes, filled up with zeros
zero_bytes : (n i : ℕ) → get_or (replicate n 0) i 0 < 256
zero_bytes zero i = omega arith
zero_bytes (suc n) zero = omega arith
zero_bytes (suc n) (suc i) = zero_bytes n i

joined_bytes : (xs ys : List ℕ) → ((i : ℕ) → get_or xs i 0 < 256) → ((i : ℕ) → get_or ys i 0 < 256) → (i : ℕ) → get_or (xs ++ ys) i 0 < 256
joined_bytes [] ys h g i = g i
joined_bytes (x ∷ xs) ys h g zero = h 0
joined_bytes (x ∷ xs) ys h g (suc i) = joined_bytes xs ys (λ k. h (suc k)) g i

pub front_of_last : (bytes filled : List ℕ) (word : ℕ) → length bytes < 8 → ((i : ℕ) → get_or bytes i 0 < 256) →
    filled ≡ bytes ++ drop (length bytes) (replicate 8 0) → word ≡ little_number 8 filled → IsFront bytes word
front_of_last bytes filled word short fits joined is count few within =
    let pad : List ℕ = drop (length bytes) (replicate 8 0) in
    let pad_fits : (i : ℕ) → get_or pad i 0 < 256 = λ i. subst (λ b. b < 256) (sym (get_or-drop (length bytes) (replicate 8 0) i 0)) (zero_bytes 8 (length bytes + i)) in
    let filled_fits : (i : ℕ) → get_or filled i 0 < 256 = subst (λ l. (i : ℕ) → get_or l i 0 < 256) (sym joined) (joined_bytes bytes pad fits pad_fits) in
    let size : 8 ≤ length filled = omega (arith, ap length joined, length-append bytes pad, length-drop {A = ℕ} (length bytes) (replicate 8 0)) in
    sym (take-append-le count (bits_of bytes) (bits_of pad) (omega (arith, length-bits_of bytes)))
    ∙ (ap (take count) (sym (bits_of-append bytes pad) ∙ ap bits_of (sym joined))
    ∙ front_of_eight filled word size filled_fits is count few (omega arith))

-- ---- places

-- bits at a place that is on a byte
pub drop_bytes : (start : ℕ) (bytes : List ℕ) → drop (8 * start) (bits_of bytes) ≡ bits_of (drop start bytes)
drop_bytes zero bytes = refl
drop_bytes (suc start) [] =
    let more : 8 * suc start ≡ suc (8 * start + 7) = omega arith in
    ap (λ n. drop n (bits_of [])) more ∙ ap (drop (suc (8 * start + 7))) bits_of-none ∙ sym bits_of-none
drop_bytes (suc start) (x ∷ bytes) =
    let count : 8 * suc start ≡ 8 + 8 * start = omega arith in
    ap (λ n. drop n (bits_of (x ∷ bytes))) count
    ∙ (sym (drop-drop (8 * start) 8 (bits_of (x ∷ bytes)))
    ∙ (ap (λ l. drop (8 * start) (drop 8 l)) (bits_of-more x bytes)
    ∙ (ap (drop (8 * start)) (drop_at (low_bits 8 x) (bits_of bytes) 8 (length-low_bits 8 x)) ∙ drop_bytes start bytes)))

pub left_length : (bytes : List ℕ) (at : ℕ) → length (drop at (bits_of bytes)) ≡ 8 * length bytes - at
left_length bytes at = length-drop at (bits_of bytes) ∙ ap (λ n. n - at) (length-bits_of bytes)

-- bits that stand at a place
pub takes_at : (bytes bits : List ℕ) (at width to : ℕ) → length bits ≡ width → to ≡ at + width → take width (drop at (bits_of bytes)) ≡ bits →
    Takes bits (place_in bytes at) (place_in bytes to)
takes_at bytes bits at width to size behind is = record {
  left = sym (take-append-drop width (drop at (bits_of bytes)))
      ∙ (ap (λ l. l ++ drop width (drop at (bits_of bytes))) is
      ∙ ap (λ l. bits ++ l) (drop-drop width at (bits_of bytes) ∙ ap (λ n. drop n (bits_of bytes)) (sym behind)));
  at = omega arith;
}

-- a window is a front, moved by less than a byte
pub window_of : (bytes : List ℕ) (at word : ℕ) → at ≤ 8 * length bytes → IsFront (drop (at / 8) bytes) word → IsWindow bytes at (word / 2 ^ (at % 8))
window_of bytes at word inside front width short within =
    let start = at / 8 in
    let k = at % 8 in
    let small : k < 8 = mod_below at 8 (omega arith) in
    let place : 8 * start + k ≡ at = omega arith in
    let size : length (drop start bytes) ≡ length bytes - start = length-drop start bytes in
    let fits : k + width ≤ 8 * length (drop start bytes) = omega arith in
    let here : drop at (bits_of bytes) ≡ drop k (bits_of (drop start bytes)) =
    ap (λ n. drop n (bits_of bytes)) (sym place) ∙ (sym (drop-drop k (8 * start) (bits_of bytes)) ∙ ap (drop k) (drop_bytes start bytes)) in
    let left : k + width - k ≡ width = omega arith in
    let bits : take width (drop at (bits_of bytes)) ≡ low_bits width (word / 2 ^ k) =
    ap (take width) here
    ∙ (sym (drop-take k width (bits_of (drop start bytes)))
    ∙ (ap (drop k) (front (k + width) (omega arith) fits)
    ∙ (drop-low_bits (k + width) k word (omega arith) ∙ ap (λ n. low_bits n (word / 2 ^ k)) left))) in
    takes_at bytes (low_bits width (word / 2 ^ k)) at width (at + width) (length-low_bits width (word / 2 ^ k)) refl bits

-- the bits of a window behind its first
pub window_behind : (bytes : List ℕ) (at word k width to : ℕ) → IsWindow bytes at word → k + width ≤ 57 → at + k + width ≤ 8 * length bytes → to ≡ at + k + width →
    Takes (low_bits width (word / 2 ^ k)) (place_in bytes (at + k)) (place_in bytes to)
window_behind bytes at word k width to window few within is =
    let whole = window (k + width) few (omega arith) in
    let rest = drop (at + (k + width)) (bits_of bytes) in
    let split : low_bits (k + width) word ≡ low_bits k word ++ low_bits width (word / 2 ^ k) = low_bits-split k width word in
    let here : drop (at + k) (bits_of bytes) ≡ low_bits width (word / 2 ^ k) ++ rest =
    sym (drop-drop k at (bits_of bytes))
    ∙ (ap (drop k) (whole.left ∙ (ap (λ l. l ++ rest) split ∙ append_assoc (low_bits k word) (low_bits width (word / 2 ^ k)) rest))
    ∙ drop_at (low_bits k word) (low_bits width (word / 2 ^ k) ++ rest) k (length-low_bits k word)) in
    let same : at + (k + width) ≡ to = omega arith in
    record {
      left = here ∙ ap (λ n. low_bits width (word / 2 ^ k) ++ drop n (bits_of bytes)) same;
      at = omega (arith, length-low_bits width (word / 2 ^ k));
    }

-- ---- numbers in a fixed number of bits

pub takes_then : (a b : List ℕ) (f m t : Place) → Takes a f m → Takes b m t → Takes (a ++ b) f t
takes_then a b f m t p q = record {
  left = p.left ∙ (ap (λ l. a ++ l) q.left ∙ sym (append_assoc a b t.left));
  at = omega (arith, p.at, q.at, length-append a b);
}

pub takes_same : (a b : List ℕ) (f t : Place) → a ≡ b → Takes a f t → Takes b f t
takes_same a b f t e p = subst (λ x. Takes x f t) e p

-- how many bits a step takes
pub takes_length : (bits : List ℕ) (f t : Place) → Takes bits f t → length f.left ≡ length bits + length t.left
takes_length bits f t p = ap length p.left ∙ length-append bits t.left

-- the lowest bits of a window
pub fixed_of : (bytes : List ℕ) (width at word number : ℕ) → width ≤ 57 → at + width ≤ 8 * length bytes → IsWindow bytes at word → number ≡ word % 2 ^ width →
    FixedAt bytes width at number
fixed_of bytes width at word number short within window is = record {
  reads = record {
    fits = subst (λ n. n < 2 ^ width) (sym is) (mod_below word (2 ^ width) (pow_pos width));
    takes = takes_same (low_bits width word) (low_bits width number) (place_in bytes at) (place_in bytes (at + width))
        (sym (low_bits-mod width word) ∙ ap (low_bits width) (sym is)) (window width short within);
  };
  within = within;
}

-- the bits of a window behind its first
pub fixed_behind : (bytes : List ℕ) (width at k word number : ℕ) → k + width ≤ 57 → at + k + width ≤ 8 * length bytes → IsWindow bytes at word → number ≡ word / 2 ^ k % 2 ^ width →
    FixedAt bytes width (at + k) number
fixed_behind bytes width at k word number short within window is =
    let high = word / 2 ^ k in
    record {
      reads = record {
        fits = subst (λ n. n < 2 ^ width) (sym is) (mod_below high (2 ^ width) (pow_pos width));
        takes = takes_same (low_bits width high) (low_bits width number) (place_in bytes (at + k)) (place_in bytes (at + k + width))
            (sym (low_bits-mod width high) ∙ ap (low_bits width) (sym is)) (window_behind bytes at word k width (at + k + width) window short within refl);
      };
      within = within;
    }

-- the lowest 32 bits of one window and the bits of another behind them
pub fixed_of_two : (bytes : List ℕ) (width at low high number : ℕ) → 57 < width → width ≤ 64 →
    FixedAt bytes 32 at low → FixedAt bytes (width - 32) (at + 32) high → number ≡ low + high * 2 ^ 32 → FixedAt bytes width at number
fixed_of_two bytes width at low high number long limit p q is =
    let count : 32 + (width - 32) ≡ width = omega arith in
    let behind : at + 32 + (width - 32) ≡ at + width = omega arith in
    let whole : low_bits 32 low ++ low_bits (width - 32) high ≡ low_bits width number =
    sym (low_bits-join 32 (width - 32) low high p.reads.fits) ∙ (ap (λ n. low_bits n (low + high * 2 ^ 32)) count ∙ ap (low_bits width) (sym is)) in
    let takes : Takes (low_bits 32 low ++ low_bits (width - 32) high) (place_in bytes at) (place_in bytes (at + 32 + (width - 32))) =
    takes_then (low_bits 32 low) (low_bits (width - 32) high) (place_in bytes at) (place_in bytes (at + 32)) (place_in bytes (at + 32 + (width - 32))) p.reads.takes q.reads.takes in
    record {
      reads = record {
        fits = subst (λ n. n < 2 ^ width) (sym is) (subst (λ n. low + high * 2 ^ 32 < 2 ^ n) count (both_below low high 32 (width - 32) p.reads.fits q.reads.fits));
        takes = takes_same (low_bits 32 low ++ low_bits (width - 32) high) (low_bits width number) (place_in bytes at) (place_in bytes (at + width)) whole
            (subst (λ n. Takes (low_bits 32 low ++ low_bits (width - 32) high) (place_in bytes at) (place_in bytes n)) behind takes);
      };
      within = omega (arith, q.within);
    }

-- fewer bits are left
pub no_fixed : (bytes : List ℕ) (width at left : ℕ) → at + left ≡ 8 * length bytes → left < width → NoNumber (Fixed width) (place_in bytes at)
no_fixed bytes width at left whole short number to p =
    omega (arith, takes_length (low_bits width number) (place_in bytes at) to p.takes, length-low_bits width number, left_length bytes at)

-- ---- the next word

pub aligned_at : (bytes : List ℕ) (at to : ℕ) → to % 32 ≡ 0 → at ≤ to → to < at + 32 → to ≤ 8 * length bytes → AlignedAt bytes at to
aligned_at bytes at to on forward short within =
    let gap = take (to - at) (drop at (bits_of bytes)) in
    let size : length gap ≡ to - at =
    length-take-le (to - at) (drop at (bits_of bytes)) (omega (arith, left_length bytes at)) in
    record {
      reads = record {
        gap = gap;
        short = omega arith;
        on_word = on;
        takes = takes_at bytes gap at (to - at) to size (omega arith) refl;
      };
      on_word = on;
      forward = forward;
      within = within;
    }

pub not_aligned : (bytes : List ℕ) (at next : ℕ) → at ≤ 8 * length bytes → next % 32 ≡ 0 → at ≤ next → next < at + 32 → 8 * length bytes < next → (to : Place) → Aligned (place_in bytes at) to → ⊥
not_aligned bytes at next inside on forward short past to p =
    let behind : to.at ≡ at + length p.gap = p.takes.at in
    let size : length (drop at (bits_of bytes)) ≡ length p.gap + length to.left = takes_length p.gap (place_in bytes at) to p.takes in
    omega (arith, left_length bytes at, p.on_word, p.short)
