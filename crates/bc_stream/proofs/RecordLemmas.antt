-- Records, read number by number.
use Rattle.std.proofs.Common.{◌≡◌, ℕ, suc, ◌+◌, ◌-◌, ◌*◌, ◌^◌, ◌<◌, ◌≤◌, List, [], ◌∷◌, ◌++◌, length, Option, Some, None, MatchOption, refl, sym, ap, ◌∙◌, subst, arith}
use Rattle.std.specs.List.{All}
use Rattle.std.proofs.lemmas.List.{length-append, drop_at}
use Rattle.std.proofs.lemmas.List.Elements.{All-push, All-head, All-drop}
use Rattle.bc_stream.specs.declared.reader.Number.{Number}
use Rattle.bc_stream.specs.declared.record.ValuesRead.{ValuesRead}
use Rattle.bc_stream.specs.Bits.{low_bits, Place, ◌then◌, chunks_bits, Chunked, Vbr, Vbrs}
use Rattle.bc_stream.specs.Reading.{place_in, NoNumber, Holds, HoldAll, NumberAt, SkippedAt, ListAt, ValuesAt, NoValues, CountWithin, NoRecord}
use Rattle.bc_stream.proofs.BitLemmas.{length-low_bits}
use Rattle.bc_stream.proofs.StepLemmas.{vbr_once}
use Rattle.bc_stream.proofs.WroteLemmas.{vbrs_push}
use Rattle.bc_stream.proofs.ReaderLemmas.{takes_length, left_length}

-- ---- numbers one after another

pub vbrs_join : (width : ℕ) (xs ys : List ℕ) (f m t : Place) → Vbrs width xs f m → Vbrs width ys m t → Vbrs width (xs ++ ys) f t
vbrs_join width [] ys f m t p q = subst (λ n. Vbrs width ys n t) p q
vbrs_join width (x ∷ xs) ys f m t p q = record { middle = p.middle; one = p.one; two = vbrs_join width xs ys p.middle m t p.two q }

-- Behind numbers that are read, others are read where all are.
no_more_of : (width k : ℕ) (xs zs : List ℕ) (f m t : Place) → Vbrs width xs f m → ((ys : List ℕ) (u : Place) → length ys ≡ k → Vbrs width ys m u → ⊥) →
    length zs ≡ length xs + k → Vbrs width zs f t → ⊥
no_more_of width k [] zs f m t p none count q = none zs t (omega arith) (subst (λ n. Vbrs width zs n t) (sym p) q)
no_more_of width k (x ∷ xs) [] f m t p none count q = omega arith
no_more_of width k (x ∷ xs) (z ∷ zs) f m t p none count q =
    let same = vbr_once width x z f p.middle q.middle p.one q.one in
    no_more_of width k xs zs p.middle m t p.two none (omega arith) (subst (λ n. Vbrs width zs n t) (sym same.1) q.two)

no_first : (k : ℕ) (ys : List ℕ) (m u : Place) → NoNumber (Chunked 5) m → length ys ≡ suc k → Vbrs 6 ys m u → ⊥
no_first k [] m u none count p = omega arith
no_first k (y ∷ ys) m u none count p = none y p.middle p.one

chunks_long : (unit chunk : ℕ) (more : List ℕ) → unit + 1 ≤ length (chunks_bits unit chunk more)
chunks_long unit chunk [] = omega (arith, length-append (low_bits unit chunk) (0 ∷ []), length-low_bits unit chunk)
chunks_long unit chunk (next ∷ more) =
    omega (arith, length-append (low_bits unit chunk) (1 ∷ chunks_bits unit next more), length-low_bits unit chunk)

-- how many bits numbers take at least
vbrs_long : (xs : List ℕ) (f t : Place) → Vbrs 6 xs f t → 6 * length xs ≤ length f.left
vbrs_long [] f t p = omega arith
vbrs_long (x ∷ xs) f t p =
    let size = takes_length (chunks_bits 5 p.one.first p.one.more) f p.middle p.one.takes in
    omega (arith, vbrs_long xs p.middle t p.two, chunks_long 5 p.one.first p.one.more)

-- ---- values of a record

pub skipped_more : (bytes : List ℕ) (count from at more : ℕ) (found : Number) → SkippedAt bytes count from at → NumberAt bytes 5 at found → more ≡ count + 1 → SkippedAt bytes more from found.to
skipped_more bytes count from at more found s p is = record {
  values = s.values ++ p.number ∷ [];
  count-is = omega (arith, length-append s.values (p.number ∷ []), s.count-is);
  reads = vbrs_push 6 p.number s.values (place_in bytes from) (place_in bytes found.to) (record { middle = place_in bytes at; one = s.reads; two = p.reads });
  forward = omega (arith, s.forward, p.forward);
  within = p.within;
}

pub skipped_stop : (bytes : List ℕ) (i count from at : ℕ) → SkippedAt bytes i from at → NoNumber (Chunked 5) (place_in bytes at) → i < count → NoValues bytes count from
skipped_stop bytes i count from at s none more values to size p =
    no_more_of 6 (suc (count - i - 1)) s.values values (place_in bytes from) (place_in bytes at) to s.reads
    (λ ys u n q. no_first (count - i - 1) ys (place_in bytes at) u none n q) (omega (arith, s.count-is, size)) p

skipped_list : (bytes : List ℕ) (count from to : ℕ) (list : List ℕ) → ListAt bytes count from list to → SkippedAt bytes count from to
skipped_list bytes count from to list s = record { values = list; count-is = s.count-is; reads = s.reads; forward = s.forward; within = s.within }

pub list_stop : (bytes : List ℕ) (i count from at : ℕ) (list : List ℕ) → ListAt bytes i from list at → NoNumber (Chunked 5) (place_in bytes at) → i < count → NoValues bytes count from
list_stop bytes i count from at list s = skipped_stop bytes i count from at (skipped_list bytes i from at list s)

pub list_more : (bytes : List ℕ) (count from at more value : ℕ) (list new : List ℕ) (found : Number) → ListAt bytes count from list at → NumberAt bytes 5 at found → found.value ≡ Some value → more ≡ count + 1 →
    new ≡ list ++ value ∷ [] → ListAt bytes more from new found.to
list_more bytes count from at more value list new found s p some is put =
    let holds : (value ≡ p.number) × (p.number < 2 ^ 64) = subst (λ v. Holds v p.number) some p.holds in
    let all : new ≡ list ++ p.number ∷ [] = put ∙ ap (λ v. list ++ v ∷ []) holds.0 in
    subst (λ l. ListAt bytes more from l found.to) (sym all) (record {
      count-is = omega (arith, length-append list (p.number ∷ []), s.count-is);
      reads = vbrs_push 6 p.number list (place_in bytes from) (place_in bytes found.to) (record { middle = place_in bytes at; one = s.reads; two = p.reads });
      fit = All-push (λ v. v < 2 ^ 64) list p.number s.fit holds.1;
      forward = omega (arith, s.forward, p.forward);
      within = p.within;
    })

-- a value above 64 bits, and the others behind it
pub list_large : (bytes : List ℕ) (i count from at : ℕ) (list : List ℕ) (large : Number) (found : ValuesRead) → ListAt bytes i from list at → NumberAt bytes 5 at large → large.value ≡ None → i < count →
    SkippedAt bytes (count - i - 1) large.to found.to → found.list ≡ None → ValuesAt bytes count from found
list_large bytes i count from at list large found s p none more rest empty =
    let above : 2 ^ 64 ≤ p.number = subst (λ v. Holds v p.number) none p.holds in
    let values = list ++ p.number ∷ rest.values in
    record {
      values = values;
      count-is = omega (arith, length-append list (p.number ∷ rest.values), s.count-is, rest.count-is);
      reads = vbrs_join 6 list (p.number ∷ rest.values) (place_in bytes from) (place_in bytes at) (place_in bytes found.to) s.reads
          (record { middle = place_in bytes large.to; one = p.reads; two = rest.reads });
      hold = subst (λ l. HoldAll l values) (sym empty) (λ fit.
          let behind = subst (All (λ v. v < 2 ^ 64)) (drop_at list (p.number ∷ rest.values) (length list) refl) (All-drop (λ v. v < 2 ^ 64) (length list) values fit) in
          omega (arith, above, All-head (λ v. v < 2 ^ 64) p.number rest.values behind));
      forward = omega (arith, s.forward, p.forward, rest.forward);
      within = rest.within;
    }

pub list_large_stop : (bytes : List ℕ) (i count from at : ℕ) (list : List ℕ) (large : Number) → ListAt bytes i from list at → NumberAt bytes 5 at large → i < count →
    NoValues bytes (count - i - 1) large.to → NoValues bytes count from
list_large_stop bytes i count from at list large s p more none values to size q =
    let so_far = skipped_more bytes i from at (i + 1) large (skipped_list bytes i from at list s) p refl in
    no_more_of 6 (count - i - 1) so_far.values values (place_in bytes from) (place_in bytes large.to) to so_far.reads none (omega (arith, so_far.count-is, size)) q

-- what is read from such a value on
pub list_large_found : (bytes : List ℕ) (i count from at : ℕ) (list : List ℕ) (large : Number) (rest : Option ValuesRead) → ListAt bytes i from list at → NumberAt bytes 5 at large → large.value ≡ None → i < count →
    MatchOption rest (NoValues bytes (count - i - 1) large.to) (λ found. SkippedAt bytes (count - i - 1) large.to found.to × (found.list ≡ None)) →
    MatchOption rest (NoValues bytes count from) (ValuesAt bytes count from)
list_large_found bytes i count from at list large None s p none more h = list_large_stop bytes i count from at list large s p more h
list_large_found bytes i count from at list large (Some found) s p none more h = list_large bytes i count from at list large found s p none more h.0 h.1

-- ---- records

pub no_code : (bytes : List ℕ) (at : ℕ) → NoNumber (Chunked 5) (place_in bytes at) → NoRecord bytes at
no_code bytes at none code values to p = none code p.middle p.one

-- what a record is read by, where its code is read
behind_code : (bytes : List ℕ) (at : ℕ) (code : Number) → NumberAt bytes 5 at code → ((values : List ℕ) (to : Place) → (Vbr 6 (length values) then Vbrs 6 values) (place_in bytes code.to) to → ⊥) → NoRecord bytes at
behind_code bytes at code c none number values to p =
    let same = vbr_once 6 c.number number (place_in bytes at) (place_in bytes code.to) p.middle c.reads p.one in
    none values to (subst (λ m. (Vbr 6 (length values) then Vbrs 6 values) m to) (sym same.1) p.two)

pub no_count : (bytes : List ℕ) (at : ℕ) (code : Number) → NumberAt bytes 5 at code → NoNumber (Chunked 5) (place_in bytes code.to) → NoRecord bytes at
no_count bytes at code c none = behind_code bytes at code c (λ values to p. none (length values) p.middle p.one)

-- where its number of values is read too
behind_count : (bytes : List ℕ) (at : ℕ) (code count : Number) → NumberAt bytes 5 at code → (n : NumberAt bytes 5 code.to count) → NoValues bytes n.number count.to → NoRecord bytes at
behind_count bytes at code count c n none = behind_code bytes at code c (λ values to p.
    let same = vbr_once 6 n.number (length values) (place_in bytes code.to) (place_in bytes count.to) p.middle n.reads p.one in
    none values to (sym same.0) (subst (λ m. Vbrs 6 values m to) (sym same.1) p.two))

pub no_room : (bytes : List ℕ) (at bits : ℕ) (code count : Number) → NumberAt bytes 5 at code → NumberAt bytes 5 code.to count → CountWithin count.value bits None →
    count.to + bits ≡ 8 * length bytes → NoRecord bytes at
no_room bytes at bits code count c n many left = behind_count bytes at code count c n (λ values to size p.
    omega (arith, many n.number n.holds, vbrs_long values (place_in bytes count.to) to p, left_length bytes count.to, size))

-- the number of values that is read
pub count_is : (value : Option ℕ) (number bits count : ℕ) → Holds value number → CountWithin value bits (Some count) → number ≡ count
count_is value number bits count holds within =
    let holds_count : (count ≡ number) × (number < 2 ^ 64) = subst (λ v. Holds v number) within.0 holds in
    sym holds_count.0

pub no_values : (bytes : List ℕ) (at bits found : ℕ) (code count : Number) → NumberAt bytes 5 at code → NumberAt bytes 5 code.to count → CountWithin count.value bits (Some found) →
    NoValues bytes found count.to → NoRecord bytes at
no_values bytes at bits found code count c n within none =
    behind_count bytes at code count c n (subst (λ k. NoValues bytes k count.to) (sym (count_is count.value n.number bits found n.holds within)) none)
