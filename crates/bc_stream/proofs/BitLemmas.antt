-- The lowest bits of numbers, and the bits of bytes.
use Rattle.std.proofs.Common.{◌≡◌, ℕ, zero, suc, ◌+◌, ◌*◌, ◌/◌, ◌%◌, ◌^◌, ◌<◌, List, [], ◌∷◌, ◌++◌, length, refl, sym, ap, ◌∙◌, arith}
use Rattle.std.specs.Int.{to_le_bytes, w32}
use Rattle.std.proofs.Math.Nat.{pow-suc}
use Rattle.std.proofs.lemmas.List.{append_assoc, append-nil, length-append}
use Rattle.std.proofs.lemmas.Nat.{shr_split, mod_below, pow_pos}
use Rattle.bc_stream.specs.Bits.{low_bits, bits_of}

pub low_bits-none : (n : ℕ) → low_bits 0 n ≡ []
unfolding low_bits
low_bits-none n = refl

pub low_bits-more : (k n : ℕ) → low_bits (suc k) n ≡ n % 2 ∷ low_bits k (n / 2)
unfolding low_bits
low_bits-more k n = refl

pub length-low_bits : (k n : ℕ) → length (low_bits k n) ≡ k
unfolding low_bits
length-low_bits zero n = refl
length-low_bits (suc k) n = ap suc (length-low_bits k (n / 2))

half_below : (k a : ℕ) → a < 2 ^ suc k → a / 2 < 2 ^ k
half_below k a h = omega (arith, pow-suc 2 k)

-- numbers that fit are told by their bits
pub low_bits_once : (k a b : ℕ) (r s : List ℕ) → a < 2 ^ k → b < 2 ^ k →
    low_bits k a ++ r ≡ low_bits k b ++ s → (a ≡ b) × (r ≡ s)
unfolding low_bits
low_bits_once zero a b r s h g e = (omega arith, e)
low_bits_once (suc k) a b r s h g e =
    let head : a % 2 ≡ b % 2 = cc in
    let tail : low_bits k (a / 2) ++ r ≡ low_bits k (b / 2) ++ s = cc in
    let both = low_bits_once k (a / 2) (b / 2) r s (half_below k a h) (half_below k b g) tail in
    let half : a / 2 ≡ b / 2 = both.0 in
    (omega arith, both.1)

turned : (y z : ℕ) → y * (z * 2) ≡ 2 * (y * z)
turned y z = omega arith

low_of : (x s t : ℕ) → s ≡ 2 * t → (x + s) % 2 ≡ x % 2
low_of x s t e = omega arith

high_of : (x s t : ℕ) → s ≡ 2 * t → (x + s) / 2 ≡ x / 2 + t
high_of x s t e = omega arith

-- two numbers side by side in one
pub low_bits-join : (a b x y : ℕ) → x < 2 ^ a → low_bits (a + b) (x + y * 2 ^ a) ≡ low_bits a x ++ low_bits b y
unfolding low_bits
low_bits-join zero b x y h =
    let count : 0 + b ≡ b = omega arith in
    let number : x + y * 2 ^ 0 ≡ y = omega arith in
    ap (λ n. low_bits n (x + y * 2 ^ 0)) count ∙ ap (low_bits b) number
low_bits-join (suc a) b x y h =
    let p = pow-suc 2 a in
    let q : y * 2 ^ suc a ≡ 2 * (y * 2 ^ a) = ap (λ z. y * z) p ∙ turned y (2 ^ a) in
    let count : suc a + b ≡ suc (a + b) = omega arith in
    let low : (x + y * 2 ^ suc a) % 2 ≡ x % 2 = low_of x (y * 2 ^ suc a) (y * 2 ^ a) q in
    let high : (x + y * 2 ^ suc a) / 2 ≡ x / 2 + y * 2 ^ a = high_of x (y * 2 ^ suc a) (y * 2 ^ a) q in
    ap (λ n. low_bits n (x + y * 2 ^ suc a)) count
    ∙ (ap (λ d. d ∷ low_bits (a + b) ((x + y * 2 ^ suc a) / 2)) low
    ∙ ap (λ t. x % 2 ∷ t) (ap (low_bits (a + b)) high ∙ low_bits-join a b (x / 2) y (half_below a x h)))

low_bits_of_low : (a n : ℕ) → low_bits a n ≡ low_bits a (n % 2 ^ a)
unfolding low_bits
low_bits_of_low a n =
    let count : a + 0 ≡ a = omega arith in
    let number : n % 2 ^ a + n / 2 ^ a * 2 ^ a ≡ n = omega (arith, shr_split n a) in
    let joined = low_bits-join a 0 (n % 2 ^ a) (n / 2 ^ a) (mod_below n (2 ^ a) (pow_pos a)) in
    sym (ap (low_bits a) number) ∙ (sym (ap (λ c. low_bits c (n % 2 ^ a + n / 2 ^ a * 2 ^ a)) count) ∙ (joined ∙ append-nil (low_bits a (n % 2 ^ a))))

-- the lowest bits depend on the lowest bits alone
pub low_bits-mod : (a n : ℕ) → low_bits a (n % 2 ^ a) ≡ low_bits a n
low_bits-mod a n = sym (low_bits_of_low a n)

-- a number cut in two
pub low_bits-split : (a b n : ℕ) → low_bits (a + b) n ≡ low_bits a n ++ low_bits b (n / 2 ^ a)
low_bits-split a b n =
    let number : n % 2 ^ a + n / 2 ^ a * 2 ^ a ≡ n = omega (arith, shr_split n a) in
    sym (ap (low_bits (a + b)) number)
    ∙ (low_bits-join a b (n % 2 ^ a) (n / 2 ^ a) (mod_below n (2 ^ a) (pow_pos a))
    ∙ ap (λ l. l ++ low_bits b (n / 2 ^ a)) (low_bits-mod a n))

-- the bits of bytes
pub bits_of-none : bits_of [] ≡ []
unfolding bits_of
bits_of-none = refl

pub bits_of-more : (b : ℕ) (bs : List ℕ) → bits_of (b ∷ bs) ≡ low_bits 8 b ++ bits_of bs
unfolding bits_of
bits_of-more b bs = refl

pub bits_of-append : (xs ys : List ℕ) → bits_of (xs ++ ys) ≡ bits_of xs ++ bits_of ys
unfolding bits_of
bits_of-append [] ys = refl
bits_of-append (x ∷ xs) ys = ap (λ l. low_bits 8 x ++ l) (bits_of-append xs ys) ∙ sym (append_assoc (low_bits 8 x) (bits_of xs) (bits_of ys))

pub length-bits_of : (bs : List ℕ) → length (bits_of bs) ≡ 8 * length bs
unfolding bits_of
length-bits_of [] = refl
length-bits_of (b ∷ bs) = omega (arith, length-append (low_bits 8 b) (bits_of bs), length-low_bits 8 b, length-bits_of bs)

eight : (n : ℕ) → low_bits 8 (n % 256) ≡ low_bits 8 n
eight n = low_bits-mod 8 n

four_bytes : (a b c d : ℕ) → bits_of (a ∷ b ∷ c ∷ d ∷ []) ≡ low_bits 8 a ++ (low_bits 8 b ++ (low_bits 8 c ++ (low_bits 8 d ++ [])))
unfolding bits_of
four_bytes a b c d = refl

four_parts : (n : ℕ) → low_bits 32 n ≡ low_bits 8 n ++ (low_bits 8 (n / 256) ++ (low_bits 8 (n / 65536) ++ low_bits 8 (n / 16777216)))
four_parts n =
    let two : n / 256 / 256 ≡ n / 65536 = omega arith in
    let three : n / 65536 / 256 ≡ n / 16777216 = omega arith in
    low_bits-split 8 24 n
    ∙ ap (λ l. low_bits 8 n ++ l)
    (low_bits-split 8 16 (n / 256)
    ∙ ap (λ l. low_bits 8 (n / 256) ++ l)
    (ap (low_bits 16) two
    ∙ (low_bits-split 8 8 (n / 65536) ∙ ap (λ m. low_bits 8 (n / 65536) ++ low_bits 8 m) three)))

four_alike : (a b c d p q r s : List ℕ) → a ≡ p → b ≡ q → c ≡ r → d ≡ s → a ++ (b ++ (c ++ (d ++ []))) ≡ p ++ (q ++ (r ++ s))
four_alike a b c d p q r s e f g h =
    let last : d ++ [] ≡ s = append-nil d ∙ h in
    cc

-- the four bytes of a word
pub bits_of-word : (n : ℕ) → bits_of (to_le_bytes w32 n) ≡ low_bits 32 n
bits_of-word n =
    let one : bits_of (to_le_bytes w32 n) ≡ low_bits 8 (n % 256) ++ (low_bits 8 (n / 256 % 256) ++ (low_bits 8 (n / 65536 % 256) ++ (low_bits 8 (n / 16777216 % 256) ++ []))) =
    four_bytes (n % 256) (n / 256 % 256) (n / 65536 % 256) (n / 16777216 % 256) in
    let two : low_bits 32 n ≡ low_bits 8 n ++ (low_bits 8 (n / 256) ++ (low_bits 8 (n / 65536) ++ low_bits 8 (n / 16777216))) = four_parts n in
    one ∙ (four_alike (low_bits 8 (n % 256)) (low_bits 8 (n / 256 % 256)) (low_bits 8 (n / 65536 % 256)) (low_bits 8 (n / 16777216 % 256))
    (low_bits 8 n) (low_bits 8 (n / 256)) (low_bits 8 (n / 65536)) (low_bits 8 (n / 16777216))
    (eight n) (eight (n / 256)) (eight (n / 65536)) (eight (n / 16777216)) ∙ sym two)
