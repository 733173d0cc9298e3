-- Lemmas on one more piece that was taken or given.
use Rattle.std.proofs.Common.{◌≡◌, ℕ, ◌+◌, ◌-◌, ◌≤◌, List, ◌++◌, length, take, drop, sym, subst, arith}
use Rattle.std.proofs.lemmas.List.{length-append, length-drop, length-take-le, take_rest}
use Rattle.std.proofs.Math.Seq.{take-add}
use Rattle.std.proofs.KnownBytes.{Appends-trans, Consumes-trans}
use Rattle.std.specs.declared.option.Option.{Option}
use Rattle.std.specs.Io.KnownBytes.{Appends, Consumes}
use Rattle.base_core.specs.Ends.{TakesFront}

-- a piece of n bytes taken after others
pub taken_more : (first second third : Option (List ℕ)) (bytes buffer : List ℕ) (n from to now : ℕ)
    → Consumes first second bytes → Consumes second third (take n buffer) → n ≤ length buffer
    → to ≡ from + length bytes → now ≡ to + n → TakesFront first third from now
taken_more first second third bytes buffer n from to now before piece fits counted more = (
  bytes ++ take n buffer,
  Consumes-trans first second third bytes (take n buffer) before piece,
  omega (arith, length-append bytes (take n buffer), length-take-le n buffer fits),
)

-- n bytes given after others
pub given_more : (first second third : Option (List ℕ)) (bytes : List ℕ) (done n : ℕ)
    → Appends first second (take done bytes) → Appends second third (take n (take (length bytes - done) (drop done bytes)))
    → Appends first third (take (done + n) bytes)
given_more first second third bytes done n before piece =
    let front : Appends second third (take n (drop done bytes)) =
    subst (λ l. Appends second third (take n l)) (take_rest bytes done) piece in
    subst (Appends first third) (sym (take-add done n bytes))
    (Appends-trans first second third (take done bytes) (take n (drop done bytes)) before front)

-- no more bytes were given than were left
pub given_within : (bytes : List ℕ) (done n : ℕ) → done ≤ length bytes
    → n ≤ length (take (length bytes - done) (drop done bytes)) → done + n ≤ length bytes
given_within bytes done n within more =
    let left : n ≤ length (drop done bytes) = subst (λ l. n ≤ length l) (take_rest bytes done) more in
    omega (arith, length-drop done bytes)
