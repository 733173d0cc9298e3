-- What the bit writer's fields are worth.
use Rattle.std.proofs.Common.{◌≡◌, ℕ, ◌+◌, ◌-◌, ◌*◌, ◌/◌, ◌%◌, ◌^◌, ◌<◌, ◌≤◌, List, [], ◌++◌, length, refl, sym, ap, ◌∙◌, subst, arith}
use Rattle.std.specs.Int.{to_le_bytes, w32}
use Rattle.std.proofs.lemmas.List.{append_assoc, append-nil, length-append}
use Rattle.std.proofs.lemmas.Nat.{pow-add, mul-add-lt, shl_whole, shr_below}
use Rattle.bc_stream.specs.Bits.{low_bits, bits_of}
use Rattle.bc_stream.proofs.BitLemmas.{low_bits-none, low_bits-join, low_bits-split, low_bits-mod, bits_of-append, bits_of-word, length-bits_of, length-low_bits}

-- a number shifted behind the bits there are
pub shifted : (n u w : ℕ) → n < 2 ^ w → u < 32 → w ≤ 32 → n * 2 ^ u % 2 ^ 64 ≡ n * 2 ^ u
shifted n u w fits h g = shl_whole n w u 64 fits (omega arith)

pub both_below : (l n u w : ℕ) → l < 2 ^ u → n < 2 ^ w → l + n * 2 ^ u < 2 ^ (u + w)
both_below l n u w h g =
    let place = mul-add-lt n (2 ^ u) l (2 ^ w) g h in
    omega (arith, place, pow-add 2 u w)

-- numbers of one width side by side
pub two_joined : (w a b m : ℕ) (old new : List ℕ) → a < 2 ^ w → m ≡ a + b * 2 ^ w → new ≡ old ++ low_bits (w + w) m →
    new ≡ (old ++ low_bits w a) ++ low_bits w b
two_joined w a b m old new h e is =
    is ∙ (ap (λ n. old ++ low_bits (w + w) n) e
    ∙ (ap (λ l. old ++ l) (low_bits-join w w a b h) ∙ sym (append_assoc old (low_bits w a) (low_bits w b))))

pub three_joined : (w a b c m n : ℕ) (old new : List ℕ) → a < 2 ^ w → b < 2 ^ w → m ≡ b + c * 2 ^ w → n ≡ a + m * 2 ^ w → new ≡ old ++ low_bits (w + (w + w)) n →
    new ≡ ((old ++ low_bits w a) ++ low_bits w b) ++ low_bits w c
three_joined w a b c m n old new h g e f is =
    is ∙ (ap (λ x. old ++ low_bits (w + (w + w)) x) f
    ∙ (ap (λ l. old ++ l) (low_bits-join w (w + w) a m h)
    ∙ (sym (append_assoc old (low_bits w a) (low_bits (w + w) m))
    ∙ two_joined w b c m (old ++ low_bits w a) ((old ++ low_bits w a) ++ low_bits (w + w) m) g e refl)))

pub four_joined : (w a b c d m n : ℕ) (old new : List ℕ) → a < 2 ^ w → c < 2 ^ w → m ≡ a + b * 2 ^ w → n ≡ c + d * 2 ^ w →
    new ≡ (old ++ low_bits (w + w) m) ++ low_bits (w + w) n →
    new ≡ (((old ++ low_bits w a) ++ low_bits w b) ++ low_bits w c) ++ low_bits w d
four_joined w a b c d m n old new h g e f is =
    two_joined w c d n (old ++ low_bits (w + w) m) new g f is
    ∙ ap (λ l. (l ++ low_bits w c) ++ low_bits w d) (two_joined w a b m old (old ++ low_bits (w + w) m) h e refl)

pub joined_below : (w v a b m : ℕ) → a < 2 ^ w → b < 2 ^ v → m ≡ a + b * 2 ^ w → m < 2 ^ (w + v)
joined_below w v a b m h g e = subst (λ x. x < 2 ^ (w + v)) (sym e) (both_below a b w v h g)

-- where the bits don't fill a word
pub put_within : (words old : List ℕ) (u w l n m : ℕ) → l < 2 ^ u → m ≡ n * 2 ^ u → bits_of words ++ low_bits u l ≡ old →
    bits_of words ++ low_bits (u + w) (l + m) ≡ old ++ low_bits w n
put_within words old u w l n m h e is =
    ap (λ x. bits_of words ++ low_bits (u + w) (l + x)) e
    ∙ (ap (λ x. bits_of words ++ x) (low_bits-join u w l n h)
    ∙ (sym (append_assoc (bits_of words) (low_bits u l) (low_bits w n)) ∙ ap (λ x. x ++ low_bits w n) is))

-- where they do
pub put_beyond : (words after old : List ℕ) (u w l n m : ℕ) → l < 2 ^ u → 32 ≤ u + w → m ≡ n * 2 ^ u → bits_of words ++ low_bits u l ≡ old →
    after ≡ words ++ to_le_bytes w32 ((l + m) % 2 ^ 32) →
    bits_of after ++ low_bits (u + w - 32) ((l + m) / 2 ^ 32) ≡ old ++ low_bits w n
put_beyond words after old u w l n m h full e is more =
    let count : 32 + (u + w - 32) ≡ u + w = omega arith in
    let word : bits_of after ≡ bits_of words ++ low_bits 32 (l + m) =
    ap bits_of more ∙ (bits_of-append words (to_le_bytes w32 ((l + m) % 2 ^ 32))
    ∙ ap (λ x. bits_of words ++ x) (bits_of-word ((l + m) % 2 ^ 32) ∙ low_bits-mod 32 (l + m))) in
    ap (λ x. x ++ low_bits (u + w - 32) ((l + m) / 2 ^ 32)) word
    ∙ (append_assoc (bits_of words) (low_bits 32 (l + m)) (low_bits (u + w - 32) ((l + m) / 2 ^ 32))
    ∙ (ap (λ x. bits_of words ++ x) (sym (low_bits-split 32 (u + w - 32) (l + m)) ∙ ap (λ c. low_bits c (l + m)) count)
    ∙ put_within words old u w l n m h e is))

pub beyond_below : (l n m u w : ℕ) → l < 2 ^ u → n < 2 ^ w → 32 ≤ u + w → m ≡ n * 2 ^ u → (l + m) / 2 ^ 32 < 2 ^ (u + w - 32)
beyond_below l n m u w h g full e =
    let count : u + w - 32 + 32 ≡ u + w = omega arith in
    let below : l + n * 2 ^ u < 2 ^ (u + w) = both_below l n u w h g in
    let sum : l + m < 2 ^ (u + w - 32 + 32) = subst (λ x. x) (ap (λ k. l + k < 2 ^ (u + w)) (sym e) ∙ ap (λ c. l + m < 2 ^ c) (sym count)) below in
    shr_below (l + m) (u + w - 32) 32 sum

-- on a word there are no bits in the last one
pub none_used : (words now : List ℕ) (u l : ℕ) → u < 32 → bits_of words ++ low_bits u l ≡ now → length words % 4 ≡ 0 → length now % 32 ≡ 0 → u ≡ 0
none_used words now u l h is whole on =
    let size : 8 * length words + u ≡ length now =
    omega (arith, ap length is, length-append (bits_of words) (low_bits u l), length-bits_of words, length-low_bits u l) in
    omega arith

pub whole_words : (words now : List ℕ) (u l : ℕ) → u ≡ 0 → bits_of words ++ low_bits u l ≡ now → bits_of words ≡ now
whole_words words now u l none is =
    sym (append-nil (bits_of words)) ∙ (ap (λ x. bits_of words ++ x) (sym (low_bits-none l) ∙ sym (ap (λ c. low_bits c l) none)) ∙ is)

pub on_word : (words now : List ℕ) (u l : ℕ) → u ≡ 0 → length words % 4 ≡ 0 → bits_of words ++ low_bits u l ≡ now → length now % 32 ≡ 0
on_word words now u l none whole is =
    let size : 8 * length words + u ≡ length now =
    omega (arith, ap length is, length-append (bits_of words) (low_bits u l), length-bits_of words, length-low_bits u l) in
    omega arith

pub put_after : (words more after now : List ℕ) (u l : ℕ) → u ≡ 0 → bits_of words ++ low_bits u l ≡ now → after ≡ words ++ more →
    bits_of after ++ low_bits u l ≡ now ++ bits_of more
put_after words more after now u l none is e =
    let nothing : low_bits u l ≡ [] = ap (λ c. low_bits c l) none ∙ low_bits-none l in
    ap (λ x. bits_of after ++ x) nothing
    ∙ (append-nil (bits_of after)
    ∙ (ap bits_of e
    ∙ (bits_of-append words more
    ∙ ap (λ x. x ++ bits_of more) (whole_words words now u l none is))))
