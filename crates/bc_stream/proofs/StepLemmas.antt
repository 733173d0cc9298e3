-- A step that begins at a place ends at one place, with one number.
use Rattle.std.proofs.Common.{◌≡◌, ℕ, zero, suc, ◌+◌, ◌%◌, ◌^◌, ◌<◌, List, [], ◌∷◌, ◌++◌, length, drop, refl, sym, ap, ◌∙◌, subst, arith}
use Rattle.std.specs.List.{All}
use Rattle.std.proofs.lemmas.List.{append_assoc, append_cancel_left, drop_at}
use Rattle.std.proofs.lemmas.List.Elements.{All-head, All-tail}
use Rattle.bc_stream.specs.Bits.{low_bits, Place, Step, Takes, Both, Fixed, Aligned, chunks_number, chunks_bits, Chunked, Vbr, Vbrs}
use Rattle.bc_stream.proofs.BitLemmas.{low_bits_once}

pub same_place : (p q : Place) → p.at ≡ q.at → p.left ≡ q.left → p ≡ q
same_place p q e f = λ i. record { at = e i; left = f i }

-- what the same bits leave
takes_once : (bits : List ℕ) (f t u : Place) → Takes bits f t → Takes bits f u → t ≡ u
takes_once bits f t u p q =
    same_place t u (p.at ∙ sym q.at) (append_cancel_left bits t.left u.left (sym p.left ∙ q.left))

-- two steps that begin alike: where the first ends, the second begins
pub then_once : (R R' S S' : Step) (Q Z : Type 0) (f t u : Place) →
    ((m n : Place) → R f m → R' f n → Q × (m ≡ n)) → (Q → (m : Place) → S m t → S' m u → Z) →
    Both R S f t → Both R' S' f u → Z
then_once R R' S S' Q Z f t u first second p q =
    let e = first p.middle q.middle p.one q.one in
    let back : (n m : Place) → m ≡ n → S' n u → S' m u = λ n m is s. subst (λ x. S' x u) (sym is) s in
    second e.0 p.middle p.two (back q.middle p.middle e.1 q.two)

pub fixed_once : (w a b : ℕ) (f t u : Place) → Fixed w a f t → Fixed w b f u → (a ≡ b) × (t ≡ u)
fixed_once w a b f t u p q =
    let e = low_bits_once w a b t.left u.left p.fits q.fits (sym p.takes.left ∙ q.takes.left) in
    let again : Takes (low_bits w a) f u = subst (λ n. Takes (low_bits w n) f u) (sym e.0) q.takes in
    (e.0, takes_once (low_bits w a) f t u p.takes again)

gap_once : (f t u m n : ℕ) → m < 32 → n < 32 → t % 32 ≡ 0 → u % 32 ≡ 0 → t ≡ f + m → u ≡ f + n → m ≡ n
gap_once f t u m n h g p q e d = omega arith

pub aligned_once : (f t u : Place) → Aligned f t → Aligned f u → t ≡ u
aligned_once f t u p q =
    let e : length p.gap ≡ length q.gap =
    gap_once f.at t.at u.at (length p.gap) (length q.gap) p.short q.short p.on_word q.on_word p.takes.at q.takes.at in
    same_place t u (p.takes.at ∙ (ap (λ n. f.at + n) e ∙ sym q.takes.at))
    (sym (drop_at p.gap t.left (length p.gap) refl)
    ∙ (ap (drop (length p.gap)) (sym p.takes.left ∙ q.takes.left) ∙ drop_at q.gap u.left (length p.gap) (sym e)))

-- chunks are told by their bits
chunks_once : (unit a b : ℕ) (xs bs r s : List ℕ) → All (λ chunk. chunk < 2 ^ unit) (a ∷ xs) → All (λ chunk. chunk < 2 ^ unit) (b ∷ bs) →
    chunks_bits unit a xs ++ r ≡ chunks_bits unit b bs ++ s → (a ∷ xs ≡ b ∷ bs) × (r ≡ s)
chunks_once unit a b [] [] r s h g e =
    let d : low_bits unit a ++ (0 ∷ r) ≡ low_bits unit b ++ (0 ∷ s) =
    sym (append_assoc (low_bits unit a) (0 ∷ []) r) ∙ (e ∙ append_assoc (low_bits unit b) (0 ∷ []) s) in
    let o = low_bits_once unit a b (0 ∷ r) (0 ∷ s) (All-head (λ chunk. chunk < 2 ^ unit) a [] h) (All-head (λ chunk. chunk < 2 ^ unit) b [] g) d in
    let tail : r ≡ s = cc o.1 in
    (ap (λ x. x ∷ []) o.0, tail)
chunks_once unit a b [] (c ∷ cs) r s h g e =
    let d : low_bits unit a ++ (0 ∷ r) ≡ low_bits unit b ++ (1 ∷ (chunks_bits unit c cs ++ s)) =
    sym (append_assoc (low_bits unit a) (0 ∷ []) r) ∙ (e ∙ append_assoc (low_bits unit b) (1 ∷ chunks_bits unit c cs) s) in
    let o = low_bits_once unit a b (0 ∷ r) (1 ∷ (chunks_bits unit c cs ++ s)) (All-head (λ chunk. chunk < 2 ^ unit) a [] h) (All-head (λ chunk. chunk < 2 ^ unit) b (c ∷ cs) g) d in
    let head : ◌≡◌ {A = ℕ} 0 1 = cc o.1 in
    absurd (omega (arith, head))
chunks_once unit a b (c ∷ cs) [] r s h g e =
    let d : low_bits unit a ++ (1 ∷ (chunks_bits unit c cs ++ r)) ≡ low_bits unit b ++ (0 ∷ s) =
    sym (append_assoc (low_bits unit a) (1 ∷ chunks_bits unit c cs) r) ∙ (e ∙ append_assoc (low_bits unit b) (0 ∷ []) s) in
    let o = low_bits_once unit a b (1 ∷ (chunks_bits unit c cs ++ r)) (0 ∷ s) (All-head (λ chunk. chunk < 2 ^ unit) a (c ∷ cs) h) (All-head (λ chunk. chunk < 2 ^ unit) b [] g) d in
    let head : ◌≡◌ {A = ℕ} 1 0 = cc o.1 in
    absurd (omega (arith, head))
chunks_once unit a b (c ∷ cs) (d ∷ ds) r s h g e =
    let k : low_bits unit a ++ (1 ∷ (chunks_bits unit c cs ++ r)) ≡ low_bits unit b ++ (1 ∷ (chunks_bits unit d ds ++ s)) =
    sym (append_assoc (low_bits unit a) (1 ∷ chunks_bits unit c cs) r) ∙ (e ∙ append_assoc (low_bits unit b) (1 ∷ chunks_bits unit d ds) s) in
    let o = low_bits_once unit a b (1 ∷ (chunks_bits unit c cs ++ r)) (1 ∷ (chunks_bits unit d ds ++ s))
    (All-head (λ chunk. chunk < 2 ^ unit) a (c ∷ cs) h) (All-head (λ chunk. chunk < 2 ^ unit) b (d ∷ ds) g) k in
    let tail : chunks_bits unit c cs ++ r ≡ chunks_bits unit d ds ++ s = cc o.1 in
    let rest = chunks_once unit c d cs ds r s (All-tail (λ chunk. chunk < 2 ^ unit) a (c ∷ cs) h) (All-tail (λ chunk. chunk < 2 ^ unit) b (d ∷ ds) g) tail in
    let same : a ∷ c ∷ cs ≡ b ∷ d ∷ ds = cc (o.0, rest.0) in
    (same, rest.1)

chunked_once : (unit a b : ℕ) (f t u : Place) → Chunked unit a f t → Chunked unit b f u → (a ≡ b) × (t ≡ u)
chunked_once unit a b f t u p q =
    let e = chunks_once unit p.first q.first p.more q.more t.left u.left p.fit q.fit (sym p.takes.left ∙ q.takes.left) in
    let first : p.first ≡ q.first = cc e.0 in
    let more : p.more ≡ q.more = cc e.0 in
    let bits : chunks_bits unit p.first p.more ≡ chunks_bits unit q.first q.more = ap (λ x. chunks_bits unit x p.more) first ∙ ap (chunks_bits unit q.first) more in
    let again : Takes (chunks_bits unit p.first p.more) f u = subst (λ x. Takes x f u) (sym bits) q.takes in
    (p.makes ∙ (ap (chunks_number unit) e.0 ∙ sym q.makes), takes_once (chunks_bits unit p.first p.more) f t u p.takes again)

pub vbr_once : (w a b : ℕ) (f t u : Place) → Vbr w a f t → Vbr w b f u → (a ≡ b) × (t ≡ u)
vbr_once zero a b f t u p q = (p.0 ∙ sym q.0, p.1 ∙ sym q.1)
vbr_once (suc unit) a b f t u p q = chunked_once unit a b f t u p q

pub vbrs_once : (w : ℕ) (xs bs : List ℕ) (f t u : Place) → length xs ≡ length bs → Vbrs w xs f t → Vbrs w bs f u → (xs ≡ bs) × (t ≡ u)
vbrs_once w [] [] f t u n p q = (refl, p ∙ sym q)
vbrs_once w [] (b ∷ bs) f t u n p q = absurd (omega (arith, n))
vbrs_once w (a ∷ xs) [] f t u n p q = absurd (omega (arith, n))
vbrs_once w (a ∷ xs) (b ∷ bs) f t u n p q =
    then_once (Vbr w a) (Vbr w b) (Vbrs w xs) (Vbrs w bs) (a ≡ b) ((a ∷ xs ≡ b ∷ bs) × (t ≡ u)) f t u
    (λ m l x y. vbr_once w a b f m l x y)
    (λ e m x y.
    let rest = vbrs_once w xs bs m t u (omega (arith, n)) x y in
    let same : a ∷ xs ≡ b ∷ bs = cc (e, rest.0) in
    (same, rest.1))
    p q
