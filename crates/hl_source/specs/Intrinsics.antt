-- What the intrinsic functions do (HLSL, "Intrinsic Functions"; Shader Model 6, "Wave Intrinsics"). Vectors are worked on
-- by component, in order.
use Rattle.std.specs.Prelude.{ℕ, if◌then◌else◌, Bool, List, [], ◌∷◌, map, slice_get, slice_index, unwrap_or, count_ones}
use Rattle.std.specs.Int.{reverse_bits, w32}
use Rattle.std.specs.List.{list_all, list_any}
use Rattle.lane_core.specs.declared.event.Event.TheVariants.{Barrier, Wave}
use Rattle.lane_core.specs.declared.event.WaveKind.{WaveKind}
use Rattle.lane_core.specs.declared.event.WaveKind.TheVariants.{AllEqual, AllTrue, AnyTrue, Ballot, BitAnd, BitOr, BitXor, IsFirst, PrefixProduct, PrefixSum, Product, ReadLaneAt, ReadLaneFirst, SignedMax, SignedMin, Sum, UnsignedMax, UnsignedMin}
use Rattle.lane_core.specs.Lane.{Lane}
use Rattle.hl_meaning.specs.declared.ty.Kind.{Kind}
use Rattle.hl_meaning.specs.Types.{Ty}
use Rattle.lane_core.specs.Words.{first_bit_low, holds, truth, wrapped, wrapping_sub}
use Rattle.hl_source.specs.Operations.{by_sign, component_kind, less, map_2, map_3, word_as}
use Rattle.hl_source.specs.State.{Context, Progress, State, after, asks, asks_word, each, goes_with, no_value}
use Rattle.lane_core.specs.Replies.{reply_words}

-- words of a kind

-- the lesser of two words, as numbers of their kind
abbrev pub lesser : Kind → ℕ → ℕ → ℕ
lesser kind a b = if less kind b a then b else a

-- the greater of two words, as numbers of their kind
abbrev pub greater : Kind → ℕ → ℕ → ℕ
greater kind a b = if less kind a b then b else a

-- for int the greater of the word and 0 less the word, which wraps; for uint the word
abbrev pub absolute : Kind → ℕ → ℕ
absolute kind word = by_sign (greater kind word (wrapping_sub 0 word)) word kind

-- the lesser of the upper bound and the greater of the word and the lower bound
abbrev pub clamped : Kind → (word low high : ℕ) → ℕ
clamped kind word low high = lesser kind (greater kind word low) high

-- what an intrinsic function does
pub data Work : Type 0 where
  -- it computes each component of its result from those of one, two or three arguments, by the kind of the result
  from_one : (Kind → ℕ → ℕ) → Work
  from_two : (Kind → ℕ → ℕ → ℕ) → Work
  from_three : (Kind → ℕ → ℕ → ℕ → ℕ) → Work
  -- it judges all components of its argument together
  from_all : (List ℕ → Bool) → Work
  -- it tells something of the lane, without an event
  of_lane : (Lane → ℕ) → Work
  -- a barrier of a mode: 1 for a sync of the group, 2 for the memory of buffers, 8 for groupshared memory, added up
  -- (DXIL.rst, "Barrier")
  barrier : (mode : ℕ) → Work
  -- it is a wave operation, of a kind that hangs on that of its result, with one event for each component
  wave : (Kind → WaveKind) → Work
  -- the same, with the lane that is read as its second argument
  wave_at : WaveKind → Work
  -- the same without an argument
  wave_alone : WaveKind → Work
  -- the same with one component, and a reply of four words
  wave_four : WaveKind → Work
  -- it is a form of expression of its own
  own_form : Work

-- what each intrinsic function does, in the order of their numbers
abbrev pub works : List Work
works =
    -- abs, min, max, clamp
    from_one absolute ∷ from_two lesser ∷ from_two greater ∷ from_three clamped ∷
    -- countbits, reversebits, firstbitlow
    from_one (λ kind word. count_ones word) ∷ from_one (λ kind word. reverse_bits w32 word) ∷ from_one (λ kind word. first_bit_low word) ∷
    -- any, all
    from_all (λ words. list_any holds words) ∷ from_all (λ words. list_all holds words) ∷
    -- asuint, asint: the same bits
    from_one (λ kind word. word) ∷ from_one (λ kind word. word) ∷
    -- InterlockedAdd, And, Or, Xor, Min, Max, Exchange, CompareExchange, CompareStore
    own_form ∷ own_form ∷ own_form ∷ own_form ∷ own_form ∷ own_form ∷ own_form ∷ own_form ∷ own_form ∷
    -- GroupMemoryBarrier, DeviceMemoryBarrier and AllMemoryBarrier, each without and with group sync
    barrier 8 ∷ barrier 9 ∷ barrier 2 ∷ barrier 3 ∷ barrier 10 ∷ barrier 11 ∷
    -- WaveIsFirstLane, WaveGetLaneIndex, WaveGetLaneCount
    wave_alone IsFirst ∷ of_lane (λ lane. lane.lane_index) ∷ of_lane (λ lane. lane.wave_size) ∷
    -- WaveActiveAnyTrue, AllTrue, Ballot, AllEqual
    wave (λ kind. AnyTrue) ∷ wave (λ kind. AllTrue) ∷ wave_four Ballot ∷ wave (λ kind. AllEqual) ∷
    -- WaveReadLaneAt, WaveReadLaneFirst
    wave_at ReadLaneAt ∷ wave (λ kind. ReadLaneFirst) ∷
    -- WaveActiveSum, Product, Min, Max
    wave (λ kind. Sum) ∷ wave (λ kind. Product) ∷ wave (by_sign SignedMin UnsignedMin) ∷ wave (by_sign SignedMax UnsignedMax) ∷
    -- WavePrefixSum, WavePrefixProduct
    wave (λ kind. PrefixSum) ∷ wave (λ kind. PrefixProduct) ∷
    -- WaveActiveBitAnd, BitOr, BitXor
    wave (λ kind. BitAnd) ∷ wave (λ kind. BitOr) ∷ wave (λ kind. BitXor) ∷
    -- WaveActiveCountBits, WavePrefixCountBits: sums of 0 or 1
    wave (λ kind. Sum) ∷ wave (λ kind. PrefixSum) ∷ []

-- the work of the function of a number; no well-formed program has another number
abbrev pub work_of : (number : ℕ) → Work
work_of number = unwrap_or (slice_get works number) own_form

-- a wave operation with a word: a bool of its result is whether the reply's word differs from 0
abbrev pub wave_word : WaveKind → (lane : ℕ) → Kind → (word : ℕ) → State → Progress ℕ
wave_word kind lane result word s =
    after (asks_word (Wave kind word lane) s) (λ reply s'. goes_with (word_as result reply) s')

-- a wave operation with each word, one event after another
abbrev pub wave_words : WaveKind → (lane : ℕ) → Kind → List ℕ → State → Progress (List ℕ)
wave_words kind lane result words s = each (wave_word kind lane result) words s

-- what is done with the arguments, for a result of a type
abbrev pub worked : Context → Work → Ty → (args : List (List ℕ)) → State → Progress (List ℕ)
worked c (from_one f) ty (xs ∷ []) s = goes_with (map (f (component_kind ty)) xs) s
worked c (from_two f) ty (xs ∷ ys ∷ []) s = goes_with (map_2 (f (component_kind ty)) xs ys) s
worked c (from_three f) ty (xs ∷ ys ∷ zs ∷ []) s = goes_with (map_3 (f (component_kind ty)) xs ys zs) s
worked c (from_all judge) ty (xs ∷ []) s = goes_with (truth (judge xs) ∷ []) s
worked c (of_lane tell) ty [] s = goes_with (wrapped (tell c.lane) ∷ []) s
worked c (barrier mode) ty [] s = no_value (asks (Barrier mode) s)
worked c (wave kind) ty (xs ∷ []) s = wave_words (kind (component_kind ty)) 0 (component_kind ty) xs s
worked c (wave_at kind) ty (xs ∷ lane ∷ []) s = wave_words kind (slice_index lane 0) (component_kind ty) xs s
worked c (wave_alone kind) ty [] s = wave_words kind 0 (component_kind ty) (0 ∷ []) s
worked c (wave_four kind) ty (xs ∷ []) s =
    after (asks (Wave kind (slice_index xs 0) 0) s) (λ reply s'. goes_with (reply_words 4 reply) s')
-- no well-formed program reaches this: its functions have no other arguments, and an atomic operation has its own form
worked c _ ty _ s = goes_with [] s
