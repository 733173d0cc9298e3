-- Numbers in chunks, read one chunk after another.
use Rattle.std.proofs.Common.{◌≡◌, ℕ, zero, suc, ◌+◌, ◌-◌, ◌*◌, ◌/◌, ◌%◌, ◌^◌, ◌<◌, ◌≤◌, ◌⊎◌, inl, inr, min, List, [], ◌∷◌, ◌++◌, length, Option, Some, None, MatchOption, refl, sym, ap, ◌∙◌, subst, arith}
use Rattle.std.specs.List.{All}
use Rattle.std.proofs.Math.Nat.{mod-eq_of_lt, mul-le-mul_right, mul_comm}
use Rattle.std.proofs.lemmas.Bool.{cases_lt}
use Rattle.std.proofs.lemmas.List.{append_assoc, length-append}
use Rattle.std.proofs.lemmas.List.Elements.{All-head, All-tail}
use Rattle.std.proofs.lemmas.Nat.{mod_below, pow_pos, pow-add, shr_high, mod_low, mod-mul-add, pow_below, shl_whole}
use Rattle.bc_stream.specs.Bits.{low_bits, Place, Takes, Fixed, chunks_number, chunks_bits, Chunked}
use Rattle.bc_stream.specs.Writing.{place}
use Rattle.bc_stream.specs.Reading.{place_in, NoNumber, FixedAt, Holds, NumberAt, ChunksAt}
use Rattle.bc_stream.proofs.BitLemmas.{length-low_bits}
use Rattle.bc_stream.proofs.StepLemmas.{fixed_once}
use Rattle.bc_stream.proofs.WroteLemmas.{IsChunks, flagged, last_chunk, chunk_before}
use Rattle.bc_stream.proofs.ReaderLemmas.{takes_same, takes_then}
use Rattle.bc_stream.proofs.WriterLemmas.{both_below}

-- ---- a chunk with the bit behind it

-- How a number in chunks begins: with its only chunk, or with one that others follow.
pub record Opens (unit : ℕ) (number : ℕ) (from : Place) (to : Place) : Type 0 where
  pub chunk : ℕ
  pub behind : Place
  pub reads : Fixed (unit + 1) chunk from behind
  pub goes_on : (chunk < 2 ^ unit) ⊎ ((rest : ℕ) × Chunked unit rest behind to)

once : (p c : ℕ) → c + p ≡ c + 1 * p
once p c = omega arith

never : (p c : ℕ) → c ≡ c + 0 * p
never p c = omega arith

opens_with : (unit number first : ℕ) (more : List ℕ) (f t : Place) → All (λ chunk. chunk < 2 ^ unit) (first ∷ more) → Takes (chunks_bits unit first more) f t →
    Opens unit number f t
opens_with unit number first [] f t fit takes =
    let below : first < 2 ^ unit = All-head (λ chunk. chunk < 2 ^ unit) first [] fit in
    let bits : low_bits (unit + 1) first ≡ low_bits unit first ++ 0 ∷ [] =
    ap (low_bits (unit + 1)) (never (2 ^ unit) first) ∙ flagged unit first 0 below (omega arith) in
    record {
      chunk = first;
      behind = t;
      reads = record {
        fits = omega (arith, below, pow-add 2 unit 1);
        takes = takes_same (low_bits unit first ++ 0 ∷ []) (low_bits (unit + 1) first) f t (sym bits) takes;
      };
      goes_on = inl below;
    }
opens_with unit number first (next ∷ more) f t fit takes =
    let below : first < 2 ^ unit = All-head (λ chunk. chunk < 2 ^ unit) first (next ∷ more) fit in
    let chunk = first + 2 ^ unit in
    let bits : low_bits (unit + 1) chunk ≡ low_bits unit first ++ 1 ∷ [] =
    ap (low_bits (unit + 1)) (once (2 ^ unit) first) ∙ flagged unit first 1 below (omega arith) in
    let rest = chunks_bits unit next more in
    let whole : chunks_bits unit first (next ∷ more) ≡ low_bits (unit + 1) chunk ++ rest =
    sym (append_assoc (low_bits unit first) (1 ∷ []) rest) ∙ ap (λ l. l ++ rest) (sym bits) in
    let behind = place (f.at + (unit + 1)) (rest ++ t.left) in
    record {
      chunk = chunk;
      behind = behind;
      reads = record {
        fits = omega (arith, below, pow-add 2 unit 1);
        takes = record {
          left = takes.left ∙ (ap (λ l. l ++ t.left) whole ∙ append_assoc (low_bits (unit + 1) chunk) rest t.left);
          at = omega (arith, length-low_bits (unit + 1) chunk);
        };
      };
      goes_on = inr (
        chunks_number unit (next ∷ more),
        record {
          first = next;
          more = more;
          fit = All-tail (λ c. c < 2 ^ unit) first (next ∷ more) fit;
          makes = refl;
          takes = record {
            left = refl;
            at = omega (arith, takes.at, ap length whole, length-append (low_bits (unit + 1) chunk) rest, length-low_bits (unit + 1) chunk);
          };
        },
      );
    }

pub opens : (unit number : ℕ) (f t : Place) → Chunked unit number f t → Opens unit number f t
opens unit number f t p = opens_with unit number p.first p.more f t p.fit p.takes

chunked_of : (unit number : ℕ) (bits : List ℕ) (f t : Place) → IsChunks unit number bits → Takes bits f t → Chunked unit number f t
chunked_of unit number bits f t h takes = record {
  first = h.first;
  more = h.more;
  fit = h.fit;
  makes = h.makes;
  takes = takes_same bits (chunks_bits unit h.first h.more) f t h.is takes;
}

-- a number of one chunk
pub last_of : (unit chunk : ℕ) (f t : Place) → Fixed (unit + 1) chunk f t → chunk < 2 ^ unit → Chunked unit chunk f t
last_of unit chunk f t p below = chunked_of unit chunk (low_bits (unit + 1) chunk) f t (last_chunk unit chunk below) p.takes

-- a chunk before others
pub before_of : (unit chunk number : ℕ) (f m t : Place) → Fixed (unit + 1) chunk f m → 2 ^ unit ≤ chunk → Chunked unit number m t →
    Chunked unit (chunk % 2 ^ unit + 2 ^ unit * number) f t
before_of unit chunk number f m t p flag q =
    let low = chunk % 2 ^ unit in
    let small : low < 2 ^ unit = mod_below chunk (2 ^ unit) (pow_pos unit) in
    let whole = low + 2 ^ unit * number in
    let turned : whole ≡ number * 2 ^ unit + low = omega (arith, mul_comm (2 ^ unit) number) in
    let high_is : whole / 2 ^ unit ≡ number = ap (λ n. n / 2 ^ unit) turned ∙ shr_high number unit low small in
    let low_is : whole % 2 ^ unit ≡ low = ap (λ n. n % 2 ^ unit) turned ∙ mod_low number unit low small in
    let chunk_is : chunk ≡ low + 2 ^ unit = top_of (2 ^ unit) chunk (pow_pos unit) flag (omega (arith, p.fits, pow-add 2 unit 1)) in
    let bits = chunks_bits unit q.first q.more in
    let rest : IsChunks unit (whole / 2 ^ unit) bits =
    subst (λ n. IsChunks unit n bits) (sym high_is) (record { first = q.first; more = q.more; fit = q.fit; makes = q.makes; is = refl }) in
    let head : low_bits (unit + 1) chunk ≡ low_bits (unit + 1) (whole % 2 ^ unit + 2 ^ unit) =
    ap (low_bits (unit + 1)) (chunk_is ∙ ap (λ n. n + 2 ^ unit) (sym low_is)) in
    let all = low_bits (unit + 1) (whole % 2 ^ unit + 2 ^ unit) ++ bits in
    chunked_of unit whole all f t (chunk_before unit whole bits rest)
    (takes_same (low_bits (unit + 1) chunk ++ bits) all f t (ap (λ l. l ++ bits) head) (takes_then (low_bits (unit + 1) chunk) bits f m t p.takes q.takes))
  where
    top_of : (u c : ℕ) → 0 < u → u ≤ c → c < u * 2 → c ≡ c % u + u
    top_of u c some h g =
        let low : c - u < u = omega arith in
        let split : c ≡ 1 * u + (c - u) = omega arith in
        let rest : c % u ≡ c - u = ap (λ n. n % u) split ∙ mod-mul-add 1 u (c - u) low in
        omega arith

-- where no chunk is read, no number is
pub no_chunk : (unit : ℕ) (from : Place) → NoNumber (Fixed (unit + 1)) from → NoNumber (Chunked unit) from
no_chunk unit from none number to p = let o = opens unit number from to p in none o.chunk o.behind o.reads

-- a number whose first chunk says that it is the only one
pub only_chunk : (bytes : List ℕ) (unit at chunk to : ℕ) → FixedAt bytes (unit + 1) at chunk → chunk < 2 ^ unit → chunk < 2 ^ 64 → to ≡ at + (unit + 1) →
    NumberAt bytes unit at (record { value = Some chunk; to = to })
only_chunk bytes unit at chunk to p below fits is = record {
  number = chunk;
  reads = subst (λ n. Chunked unit chunk (place_in bytes at) (place_in bytes n)) (sym is)
      (last_of unit chunk (place_in bytes at) (place_in bytes (at + (unit + 1))) p.reads below);
  holds = (refl, fits);
  forward = omega arith;
  within = omega (arith, p.within);
}

-- a number of two chunks
pub two_chunks : (bytes : List ℕ) (unit at first second number to : ℕ) → FixedAt bytes (unit + 1) at first → FixedAt bytes (unit + 1) (at + (unit + 1)) second → 2 ^ unit ≤ first → second < 2 ^ unit →
    number ≡ first % 2 ^ unit + second * 2 ^ unit → number < 2 ^ 64 → to ≡ at + 2 * (unit + 1) → NumberAt bytes unit at (record { value = Some number; to = to })
two_chunks bytes unit at first second number to p q flag below is fits to-is =
    let from = place_in bytes at in
    let middle = place_in bytes (at + (unit + 1)) in
    let behind = place_in bytes (at + (unit + 1) + (unit + 1)) in
    let same : at + (unit + 1) + (unit + 1) ≡ to = omega arith in
    let reads : Chunked unit (first % 2 ^ unit + 2 ^ unit * second) from behind =
    before_of unit first second from middle behind p.reads flag (last_of unit second middle behind q.reads below) in
    let turned : first % 2 ^ unit + 2 ^ unit * second ≡ number = omega (arith, is, mul_comm (2 ^ unit) second) in
    record {
      number = number;
      reads = subst (λ n. Chunked unit number from (place_in bytes n)) same (subst (λ n. Chunked unit n from behind) turned reads);
      holds = (refl, fits);
      forward = omega arith;
      within = omega (arith, q.within);
    }

-- ---- some chunks

-- a sum up to 2^64 with a chunk more
capped_more : (low places chunk sum shift : ℕ) → sum ≡ min low (2 ^ 64) → shift ≡ min places 64 →
    min (sum + chunk * 2 ^ shift) (2 ^ 64) ≡ min (low + 2 ^ places * chunk) (2 ^ 64)
capped_more low places chunk sum shift is at = by_places (cases_lt 64 places)
  where
    by_chunk : (c s p : ℕ) → 2 ^ 64 ≤ s → 2 ^ 64 ≤ p → min (sum + c * s) (2 ^ 64) ≡ min (low + p * c) (2 ^ 64)
    by_chunk zero s p h g = omega arith
    by_chunk (suc c) s p h g = omega (arith, mul-le-mul_right (suc c) h, mul-le-mul_right (suc c) g)

    by_places : (64 < places) ⊎ (places ≤ 64) → min (sum + chunk * 2 ^ shift) (2 ^ 64) ≡ min (low + 2 ^ places * chunk) (2 ^ 64)
    by_places (inl far) =
        let most : shift ≡ 64 = omega arith in
        by_chunk chunk (2 ^ shift) (2 ^ places) (omega (arith, ap (λ n. 2 ^ n) most)) (omega (arith, pow_below 64 places far))
    by_places (inr near) =
        let same : shift ≡ places = omega arith in
        omega (arith, mul_comm chunk (2 ^ shift), ap (λ n. 2 ^ n * chunk) same)

goes_on : (unit chunk other : ℕ) (m n t : Place) → 2 ^ unit ≤ chunk → chunk ≡ other → m ≡ n → (other < 2 ^ unit) ⊎ ((rest : ℕ) × Chunked unit rest n t) →
    (rest : ℕ) × Chunked unit rest m t
goes_on unit chunk other m n t flag same is (inl below) = absurd (omega arith)
goes_on unit chunk other m n t flag same is (inr more) = (more.0, subst (λ b. Chunked unit more.0 b t) (sym is) more.1)

pub chunk_more : (bytes : List ℕ) (unit from at sum shift chunk to new moved : ℕ) → ChunksAt bytes unit from at sum shift → FixedAt bytes (unit + 1) at chunk → 2 ^ unit ≤ chunk →
    to ≡ at + (unit + 1) → new ≡ min (sum + chunk % 2 ^ unit * 2 ^ shift) (2 ^ 64) → moved ≡ min (shift + unit) 64 → ChunksAt bytes unit from to new moved
chunk_more bytes unit from at sum shift chunk to new moved s p flag to-is new-is moved-is =
    let bits = chunk % 2 ^ unit in
    let behind = place_in bytes (at + (unit + 1)) in
    let reads : Fixed (unit + 1) chunk (place_in bytes at) (place_in bytes to) =
    subst (λ n. Fixed (unit + 1) chunk (place_in bytes at) (place_in bytes n)) (sym to-is) p.reads in
    record {
      low = s.low + 2 ^ s.places * bits;
      places = s.places + unit;
      sum-is = new-is ∙ capped_more s.low s.places bits sum shift s.sum-is s.shift-is;
      shift-is = omega (arith, moved-is, s.shift-is);
      onward = λ number t q.
          subst (λ n. Chunked unit n (place_in bytes from) t) (further s.low (2 ^ s.places) bits number (2 ^ unit) (2 ^ (s.places + unit)) (pow-add 2 s.places unit))
          (s.onward (bits + 2 ^ unit * number) t (before_of unit chunk number (place_in bytes at) (place_in bytes to) t reads flag q));
      back = λ number t q.
          let r = s.back number t q in
          let o = opens unit r.0 (place_in bytes at) t r.1 in
          let e = fixed_once (unit + 1) chunk o.chunk (place_in bytes at) (place_in bytes to) o.behind reads o.reads in
          goes_on unit chunk o.chunk (place_in bytes to) o.behind t flag e.0 e.1 o.goes_on;
      forward = omega (arith, s.forward);
      within = omega (arith, p.within);
    }
  where
    further : (l s b n u r : ℕ) → r ≡ s * u → l + s * (b + u * n) ≡ l + s * b + r * n
    further l s b n u r e = omega (arith, ap (λ z. z * n) e)

pub no_chunk_more : (bytes : List ℕ) (unit from at sum shift : ℕ) → ChunksAt bytes unit from at sum shift → NoNumber (Fixed (unit + 1)) (place_in bytes at) →
    NoNumber (Chunked unit) (place_in bytes from)
no_chunk_more bytes unit from at sum shift s none number to p =
    let r = s.back number to p in
    no_chunk unit (place_in bytes at) none r.0 to r.1

-- the number that a sum up to 2^64 stands for
holds_sum : (value : Option ℕ) (sum number : ℕ) → MatchOption value (2 ^ 64 ≤ sum) (λ v. (v ≡ sum) × (v < 2 ^ 64)) → sum ≡ min number (2 ^ 64) → Holds value number
holds_sum None sum number h is = omega arith
holds_sum (Some v) sum number h is = (omega arith, omega arith)

pub chunks_end : (bytes : List ℕ) (unit from at sum shift chunk to new : ℕ) (value : Option ℕ) → ChunksAt bytes unit from at sum shift → FixedAt bytes (unit + 1) at chunk → chunk < 2 ^ unit →
    to ≡ at + (unit + 1) → new ≡ min (sum + chunk % 2 ^ unit * 2 ^ shift) (2 ^ 64) → MatchOption value (2 ^ 64 ≤ new) (λ v. (v ≡ new) × (v < 2 ^ 64)) →
    NumberAt bytes unit from (record { value = value; to = to })
chunks_end bytes unit from at sum shift chunk to new value s p below to-is new-is is =
    let same : chunk % 2 ^ unit ≡ chunk = mod-eq_of_lt below in
    let reads : Fixed (unit + 1) chunk (place_in bytes at) (place_in bytes to) =
    subst (λ n. Fixed (unit + 1) chunk (place_in bytes at) (place_in bytes n)) (sym to-is) p.reads in
    let number = s.low + 2 ^ s.places * chunk in
    record {
      number = number;
      reads = s.onward chunk (place_in bytes to) (last_of unit chunk (place_in bytes at) (place_in bytes to) reads below);
      holds = holds_sum value new number is
          (new-is ∙ (ap (λ c. min (sum + c * 2 ^ shift) (2 ^ 64)) same ∙ capped_more s.low s.places chunk sum shift s.sum-is s.shift-is));
      forward = omega (arith, s.forward);
      within = omega (arith, p.within);
    }

-- ---- chunks of a window

-- a sum of few bits with a chunk more
pub record WithChunk (unit : ℕ) (sum : ℕ) (chunk : ℕ) (shift : ℕ) (new : ℕ) : Type 0 where
  pub new-is : new ≡ min (sum + chunk % 2 ^ unit * 2 ^ shift) (2 ^ 64)
  pub moved-is : shift + unit ≡ min (shift + unit) 64
  pub small : new < 2 ^ (shift + unit)
  pub fits : new < 2 ^ 64

pub with_chunk : (unit sum chunk low shift used : ℕ) → low ≡ chunk % 2 ^ unit → sum < 2 ^ shift → shift ≤ used → used + (unit + 1) ≤ 57 →
    WithChunk unit sum chunk shift (sum + low * 2 ^ shift % 2 ^ 64)
with_chunk unit sum chunk low shift used is small few room =
    let below : low < 2 ^ unit = subst (λ n. n < 2 ^ unit) (sym is) (mod_below chunk (2 ^ unit) (pow_pos unit)) in
    let whole : low * 2 ^ shift % 2 ^ 64 ≡ low * 2 ^ shift = shl_whole low unit shift 64 below (omega arith) in
    let new : sum + low * 2 ^ shift % 2 ^ 64 ≡ sum + chunk % 2 ^ unit * 2 ^ shift = ap (λ n. sum + n) (whole ∙ ap (λ n. n * 2 ^ shift) is) in
    let short : sum + low * 2 ^ shift % 2 ^ 64 < 2 ^ (shift + unit) = omega (arith, whole, both_below sum low shift unit small below) in
    let fits : sum + low * 2 ^ shift % 2 ^ 64 < 2 ^ 64 = omega (arith, short, pow_below (shift + unit) 64 (omega arith)) in
    record {
      new-is = omega (arith, new, fits);
      moved-is = omega arith;
      small = short;
      fits = fits;
    }
