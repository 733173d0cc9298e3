-- Bits and the numbers in them (LLVM Bitcode File Format, "Bitstream Format", "Primitives").
--
-- Bits are a list of 0 and 1. A step says which bits lie between two places: it is the relation of the place where
-- something begins and the place behind it.
use Rattle.std.specs.Prelude.{◌≡◌, ℕ, zero, suc, ◌+◌, ◌*◌, ◌/◌, ◌%◌, ◌^◌, ◌<◌, List, [], ◌∷◌, ◌++◌, length}
use Rattle.std.specs.List.{All}

-- The lowest bits of a number, so many of them, the lowest first.
unfoldable pub low_bits : ℕ → ℕ → List ℕ
low_bits zero number = []
low_bits (suc count) number = number % 2 ∷ low_bits count (number / 2)

-- "the bitstream is read from the least significant bit of each byte"
unfoldable pub bits_of : List ℕ → List ℕ
bits_of [] = []
bits_of (byte ∷ bytes) = low_bits 8 byte ++ bits_of bytes

-- A place in a stream: how many bits lie before it, and those that are left.
pub record Place : Type 0 where
  pub at : ℕ
  pub left : List ℕ

abbrev pub Step : Type 1
Step = Place → Place → Type 0

-- these bits
pub record Takes (bits : List ℕ) (from : Place) (to : Place) : Type 0 where
  pub left : from.left ≡ bits ++ to.left
  pub at : to.at ≡ from.at + length bits

-- the one step, and from where it ends the other
pub record Both (first : Step) (second : Step) (from : Place) (to : Place) : Type 0 where
  pub middle : Place
  pub one : first from middle
  pub two : second middle to

infixr 30 ◌then◌
abbrev pub ◌then◌ : Step → Step → Step
◌then◌ = Both

-- A number in a fixed number of bits.
pub record Fixed (width : ℕ) (number : ℕ) (from : Place) (to : Place) : Type 0 where
  pub fits : number < 2 ^ width
  pub takes : Takes (low_bits width number) from to

-- "aligned to 32 bits": the bits in the gap may be any.
pub record Aligned (from : Place) (to : Place) : Type 0 where
  pub gap : List ℕ
  pub short : length gap < 32
  pub on_word : to.at % 32 ≡ 0
  pub takes : Takes gap from to

-- The number that chunks make, the lowest chunk first, each of so many bits.
abbrev pub chunks_number : ℕ → List ℕ → ℕ
chunks_number unit [] = 0
chunks_number unit (chunk ∷ chunks) = chunk + 2 ^ unit * chunks_number unit chunks

-- The bits of a chunk and of those after it: behind each stands a bit that says whether another follows.
abbrev pub chunks_bits : ℕ → ℕ → List ℕ → List ℕ
chunks_bits unit chunk [] = low_bits unit chunk ++ 0 ∷ []
chunks_bits unit chunk (next ∷ chunks) = low_bits unit chunk ++ 1 ∷ chunks_bits unit next chunks

-- A number in chunks of `unit` bits with their bits behind, of which there may be any number.
pub record Chunked (unit : ℕ) (number : ℕ) (from : Place) (to : Place) : Type 0 where
  pub first : ℕ
  pub more : List ℕ
  pub fit : All (λ chunk. chunk < 2 ^ unit) (first ∷ more)
  pub makes : number ≡ chunks_number unit (first ∷ more)
  pub takes : Takes (chunks_bits unit first more) from to

-- A number of a variable width (VBR), in chunks of `width` bits. Of width 0 it is 0 and takes no bits.
abbrev pub Vbr : ℕ → ℕ → Step
Vbr zero number from to = (number ≡ 0) × (to ≡ from)
Vbr (suc unit) number from to = Chunked unit number from to

-- Numbers of a variable width, one after another.
abbrev pub Vbrs : ℕ → List ℕ → Step
Vbrs width [] from to = to ≡ from
Vbrs width (number ∷ numbers) from to = (Vbr width number then Vbrs width numbers) from to
