-- Bytes spell at most one list, or have one fault.
use Rattle.std.proofs.Common.{◌≡◌, ℕ, ◌≤◌, List, [], ◌∷◌, ◌++◌, length, refl, sym, ap, ◌∙◌, subst, inl, inr, arith}
use Rattle.std.specs.List.{All, flat_map}
use Rattle.std.proofs.lemmas.List.{append_assoc}
use Rattle.std.proofs.lemmas.List.Elements.{All-head}
use Rattle.bc_stream.specs.Bits.{low_bits, Place, ◌then◌, Fixed, Aligned, Vbr, Vbrs}
use Rattle.bc_stream.specs.Blocks.{Contents, no_more, a_record, a_block}
use Rattle.bc_stream.specs.Spelling.{Raw, raw_leave, raw_enter, raw_define, raw_record, raw_undefined, id_of, layout, reads, State, width_in, frames_after, Has, Good, Leads, Shown, shown_leave, shown, shown_of, start, IsEnd, OneList, OneFault, NoFault, FaultHere, outside_blocks, undefined_id}
use Rattle.bc_stream.proofs.StepLemmas.{then_once, fixed_once, aligned_once, vbr_once, vbrs_once}

enter_once : (i j v w n m : ℕ) (f t u : Place) →
    (Vbr 8 i then Vbr 4 v then Aligned then Fixed 32 n) f t → (Vbr 8 j then Vbr 4 w then Aligned then Fixed 32 m) f u →
    (raw_enter i v n ≡ raw_enter j w m) × (t ≡ u)
enter_once i j v w n m f t u =
    let Z = (raw_enter i v n ≡ raw_enter j w m) × (t ≡ u) in
    then_once (Vbr 8 i) (Vbr 8 j) (Vbr 4 v then Aligned then Fixed 32 n) (Vbr 4 w then Aligned then Fixed 32 m) (i ≡ j) Z f t u
    (λ a b x y. vbr_once 8 i j f a b x y)
    (λ ids a. then_once (Vbr 4 v) (Vbr 4 w) (Aligned then Fixed 32 n) (Aligned then Fixed 32 m) (v ≡ w) Z a t u
    (λ b c x y. vbr_once 4 v w a b c x y)
    (λ widths b. then_once Aligned Aligned (Fixed 32 n) (Fixed 32 m) (v ≡ w) Z b t u
    (λ c d x y. (widths, aligned_once b c d x y))
    (λ _ c x y.
    let words = fixed_once 32 n m c t u x y in
    let same : raw_enter i v n ≡ raw_enter j w m = cc (ids, widths, words.0) in
    (same, words.1))))

record_once : (c d : ℕ) (xs bs : List ℕ) (f t u : Place) →
    (Vbr 6 c then Vbr 6 (length xs) then Vbrs 6 xs) f t → (Vbr 6 d then Vbr 6 (length bs) then Vbrs 6 bs) f u →
    (raw_record c xs ≡ raw_record d bs) × (t ≡ u)
record_once c d xs bs f t u =
    let Z = (raw_record c xs ≡ raw_record d bs) × (t ≡ u) in
    then_once (Vbr 6 c) (Vbr 6 d) (Vbr 6 (length xs) then Vbrs 6 xs) (Vbr 6 (length bs) then Vbrs 6 bs) (c ≡ d) Z f t u
    (λ a b x y. vbr_once 6 c d f a b x y)
    (λ codes a. then_once (Vbr 6 (length xs)) (Vbr 6 (length bs)) (Vbrs 6 xs) (Vbrs 6 bs) (length xs ≡ length bs) Z a t u
    (λ b e x y. vbr_once 6 (length xs) (length bs) a b e x y)
    (λ counts b x y.
    let values = vbrs_once 6 xs bs b t u counts x y in
    let same : raw_record c xs ≡ raw_record d bs = cc (codes, values.0) in
    (same, values.1)))

layout_once : (x y : Raw) (f t u : Place) → id_of x ≡ id_of y → layout x f t → layout y f u → (x ≡ y) × (t ≡ u)
layout_once raw_leave raw_leave f t u e p q = (refl, aligned_once f t u p q)
layout_once (raw_enter i v n) (raw_enter j w m) f t u e p q = enter_once i j v w n m f t u p q
layout_once raw_define raw_define f t u e p q = (refl, p ∙ sym q)
layout_once (raw_record c xs) (raw_record d bs) f t u e p q = record_once c d xs bs f t u p q
layout_once (raw_undefined i) (raw_undefined j) f t u e p q = (ap raw_undefined e, p.1 ∙ sym q.1)
layout_once raw_leave (raw_enter j w m) f t u e p q = absurd (omega (arith, e))
layout_once raw_leave raw_define f t u e p q = absurd (omega (arith, e))
layout_once raw_leave (raw_record d bs) f t u e p q = absurd (omega (arith, e))
layout_once raw_leave (raw_undefined j) f t u e p q = absurd (omega (arith, e, q.0))
layout_once (raw_enter i v n) raw_leave f t u e p q = absurd (omega (arith, e))
layout_once (raw_enter i v n) raw_define f t u e p q = absurd (omega (arith, e))
layout_once (raw_enter i v n) (raw_record d bs) f t u e p q = absurd (omega (arith, e))
layout_once (raw_enter i v n) (raw_undefined j) f t u e p q = absurd (omega (arith, e, q.0))
layout_once raw_define raw_leave f t u e p q = absurd (omega (arith, e))
layout_once raw_define (raw_enter j w m) f t u e p q = absurd (omega (arith, e))
layout_once raw_define (raw_record d bs) f t u e p q = absurd (omega (arith, e))
layout_once raw_define (raw_undefined j) f t u e p q = absurd (omega (arith, e, q.0))
layout_once (raw_record c xs) raw_leave f t u e p q = absurd (omega (arith, e))
layout_once (raw_record c xs) (raw_enter j w m) f t u e p q = absurd (omega (arith, e))
layout_once (raw_record c xs) raw_define f t u e p q = absurd (omega (arith, e))
layout_once (raw_record c xs) (raw_undefined j) f t u e p q = absurd (omega (arith, e, q.0))
layout_once (raw_undefined i) raw_leave f t u e p q = absurd (omega (arith, e, p.0))
layout_once (raw_undefined i) (raw_enter j w m) f t u e p q = absurd (omega (arith, e, p.0))
layout_once (raw_undefined i) raw_define f t u e p q = absurd (omega (arith, e, p.0))
layout_once (raw_undefined i) (raw_record d bs) f t u e p q = absurd (omega (arith, e, p.0))

-- what is read at a place is one piece
pub reads_once : (w : ℕ) (x y : Raw) (f t u : Place) → reads w x f t → reads w y f u → (x ≡ y) × (t ≡ u)
reads_once w x y f t u p q =
    then_once (Fixed w (id_of x)) (Fixed w (id_of y)) (layout x) (layout y) (id_of x ≡ id_of y) ((x ≡ y) × (t ≡ u)) f t u
    (λ m n a b. fixed_once w (id_of x) (id_of y) f m n a b) (λ e m a b. layout_once x y m t u e a b) p q

two_bits_of_one : low_bits 2 1 ≡ 1 ∷ 0 ∷ []
unfolding low_bits
two_bits_of_one = refl

one_in_zeros : (w : ℕ) (f t : Place) → w ≡ 2 → Fixed w 1 f t → All (λ bit. bit ≡ 0) f.left → ⊥
one_in_zeros w f t two first zeros =
    let bits : f.left ≡ 1 ∷ 0 ∷ t.left = first.takes.left ∙ ap (λ l. l ++ t.left) (ap (λ n. low_bits n 1) two ∙ two_bits_of_one) in
    let one : ◌≡◌ {A = ℕ} 1 0 = All-head (λ bit. bit ≡ 0) 1 (0 ∷ t.left) (subst (All (λ bit. bit ≡ 0)) bits zeros) in
    omega (arith, one)

-- outside all blocks a good piece is the beginning of a block, whose id has a bit that isn't 0
no_piece_in_zeros : (raw : Raw) (behind : Place) (s : State) → IsEnd s → Good s raw behind → ⊥
no_piece_in_zeros raw_leave behind s e g = g.has_none outside_blocks (inl (refl, e.closed))
no_piece_in_zeros raw_define behind s e g = g.has_none outside_blocks (inl (refl, e.closed))
no_piece_in_zeros (raw_record code values) behind s e g = g.has_none outside_blocks (inl (refl, e.closed))
no_piece_in_zeros (raw_undefined id) behind s e g = g.has_none undefined_id refl
no_piece_in_zeros (raw_enter id v n) behind s e g =
    one_in_zeros (width_in s.frames) s.place g.is_read.middle (ap width_in e.closed) g.is_read.one e.zeros

-- no good piece begins here
Stops : State → Type 0
Stops s = (raw : Raw) (behind : Place) → Good s raw behind → ⊥

stops_at_end : (s : State) → IsEnd s → Stops s
unfolding Stops
stops_at_end s e raw behind g = no_piece_in_zeros raw behind s e g

stops_at_fault : (s : State) (kind : ℕ) → FaultHere s kind → Stops s
unfolding Stops
stops_at_fault s kind (inl h) raw behind g = h.1 raw behind g.is_read
stops_at_fault s kind (inr h) raw behind g =
    let o = reads_once (width_in s.frames) h.raw raw s.place h.behind behind h.is_read g.is_read in
    let has : Has s.frames behind raw kind = subst (λ b. Has s.frames b raw kind) o.1 (subst (λ r. Has s.frames h.behind r kind) o.0 h.has) in
    g.has_none kind has

-- good pieces lead to one place where none begins
leads_once : (xs ys : List Raw) (s d e : State) → Stops d → Stops e → Leads xs d s → Leads ys e s → (xs ≡ ys) × (d ≡ e)
unfolding Stops
leads_once [] [] s d e p q x y = (refl, x ∙ sym y)
leads_once [] (y ∷ ys) s d e p q x l = absurd (subst Stops x p y l.behind l.good)
leads_once (x ∷ xs) [] s d e p q k y = absurd (subst Stops y q x k.behind k.good)
leads_once (x ∷ xs) (y ∷ ys) s d e p q k l =
    let o = reads_once (width_in s.frames) x y s.place k.behind l.behind k.good.is_read l.good.is_read in
    let at : State = record { frames = frames_after s.frames x k.behind; place = k.behind } in
    let after : State = record { frames = frames_after s.frames y l.behind; place = l.behind } in
    let same : at ≡ after = λ i. record { frames = frames_after s.frames (o.0 i) (o.1 i); place = o.1 i } in
    let rest = leads_once xs ys at d e p q k.rest (subst (Leads ys e) (sym same) l.rest) in
    let both : x ∷ xs ≡ y ∷ ys = cc (o.0, rest.0) in
    (both, rest.1)

-- lists are told by what their pieces show, also where more follows the end of the block
shown_once : (a b : Contents) (r s : List Shown) → shown_of a ++ (shown_leave ∷ r) ≡ shown_of b ++ (shown_leave ∷ s) → (a ≡ b) × (r ≡ s)
shown_once no_more no_more r s e = (refl, cc)
shown_once no_more (a_record d v b) r s e = absurd cc
shown_once no_more (a_block j k b) r s e = absurd cc
shown_once (a_record c u a) no_more r s e = absurd cc
shown_once (a_record c u a) (a_record d v b) r s e =
    let tail : shown_of a ++ (shown_leave ∷ r) ≡ shown_of b ++ (shown_leave ∷ s) = cc in
    let rest = shown_once a b r s tail in
    let code : c ≡ d = cc in
    let values : u ≡ v = cc in
    let same : a_record c u a ≡ a_record d v b = cc (rest.0, code, values) in
    (same, rest.1)
shown_once (a_record c u a) (a_block j k b) r s e = absurd cc
shown_once (a_block i h a) no_more r s e = absurd cc
shown_once (a_block i h a) (a_record d v b) r s e = absurd cc
shown_once (a_block i h a) (a_block j k b) r s e =
    let id : i ≡ j = cc in
    let tail : (shown_of h ++ (shown_leave ∷ shown_of a)) ++ (shown_leave ∷ r) ≡ (shown_of k ++ (shown_leave ∷ shown_of b)) ++ (shown_leave ∷ s) = cc in
    let inside : shown_of h ++ (shown_leave ∷ (shown_of a ++ (shown_leave ∷ r))) ≡ shown_of k ++ (shown_leave ∷ (shown_of b ++ (shown_leave ∷ s))) =
    sym (append_assoc (shown_of h) (shown_leave ∷ shown_of a) (shown_leave ∷ r)) ∙ (tail ∙ append_assoc (shown_of k) (shown_leave ∷ shown_of b) (shown_leave ∷ s)) in
    let inner = shown_once h k (shown_of a ++ (shown_leave ∷ r)) (shown_of b ++ (shown_leave ∷ s)) inside in
    let rest = shown_once a b r s inner.1 in
    let same : a_block i h a ≡ a_block j k b = cc (inner.0, rest.0, id) in
    (same, rest.1)

blocks_once : (a b : Contents) → shown_of a ≡ shown_of b → a ≡ b
blocks_once a b e = (shown_once a b [] [] (ap (λ l. l ++ (shown_leave ∷ [])) e)).0

magic_once : (bytes a b : List ℕ) → bytes ≡ 66 ∷ 67 ∷ 192 ∷ 222 ∷ a → bytes ≡ 66 ∷ 67 ∷ 192 ∷ 222 ∷ b → a ≡ b
magic_once bytes a b p q = cc (sym p ∙ q)

pub one_list : OneList
one_list bytes a b p q =
    let behind : p.behind ≡ q.behind = magic_once bytes p.behind q.behind p.magic q.magic in
    let again : Leads q.pieces q.end (start p.behind) = subst (λ l. Leads q.pieces q.end (start l)) (sym behind) q.leads in
    let same = leads_once p.pieces q.pieces (start p.behind) p.end q.end (stops_at_end p.end p.ends) (stops_at_end q.end q.ends) p.leads again in
    blocks_once a b (sym p.shows ∙ (ap (flat_map shown) same.0 ∙ q.shows))

pub no_fault : NoFault
no_fault bytes blocks kind bit p (inl h) = h.2 p.behind p.magic
no_fault bytes blocks kind bit p (inr h) =
    let behind : p.behind ≡ h.behind = magic_once bytes p.behind h.behind p.magic h.magic in
    let again : Leads h.pieces h.from (start p.behind) = subst (λ l. Leads h.pieces h.from (start l)) (sym behind) h.leads in
    let same = leads_once p.pieces h.pieces (start p.behind) p.end h.from (stops_at_end p.end p.ends) (stops_at_fault h.from kind h.here) p.leads again in
    h.goes_on (subst IsEnd same.1 p.ends)

fault_once : (s : State) (k l : ℕ) → FaultHere s k → FaultHere s l → k ≡ l
fault_once s k l (inl h) (inl g) = h.0 ∙ sym g.0
fault_once s k l (inl h) (inr g) = absurd (h.1 g.raw g.behind g.is_read)
fault_once s k l (inr h) (inl g) = absurd (g.1 h.raw h.behind h.is_read)
fault_once s k l (inr h) (inr g) =
    let o = reads_once (width_in s.frames) h.raw g.raw s.place h.behind g.behind h.is_read g.is_read in
    let here : Has s.frames g.behind g.raw k = subst (λ b. Has s.frames b g.raw k) o.1 (subst (λ r. Has s.frames h.behind r k) o.0 h.has) in
    let there : Has s.frames h.behind h.raw l = subst (λ b. Has s.frames b h.raw l) (sym o.1) (subst (λ r. Has s.frames g.behind r l) (sym o.0) g.has) in
    let low : l ≤ k = g.least k here in
    let high : k ≤ l = h.least l there in
    omega (arith, low, high)

pub one_fault : OneFault
one_fault bytes k l a b (inl h) (inl g) = (h.0 ∙ sym g.0, h.1 ∙ sym g.1)
one_fault bytes k l a b (inl h) (inr g) = absurd (h.2 g.behind g.magic)
one_fault bytes k l a b (inr h) (inl g) = absurd (g.2 h.behind h.magic)
one_fault bytes k l a b (inr h) (inr g) =
    let behind : h.behind ≡ g.behind = magic_once bytes h.behind g.behind h.magic g.magic in
    let again : Leads g.pieces g.from (start h.behind) = subst (λ x. Leads g.pieces g.from (start x)) (sym behind) g.leads in
    let same = leads_once h.pieces g.pieces (start h.behind) h.from g.from (stops_at_fault h.from k h.here) (stops_at_fault g.from l g.here) h.leads again in
    let kinds : k ≡ l = fault_once g.from k l (subst (λ s. FaultHere s k) same.1 h.here) g.here in
    (kinds, h.at ∙ (ap (λ s. s.place.at) same.1 ∙ sym g.at))
