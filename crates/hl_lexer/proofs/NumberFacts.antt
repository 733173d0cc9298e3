-- Numbers: their bytes, and that bytes spell at most one.
use Rattle.std.proofs.Common.{◌≡◌, ◌∙◌, refl, sym, ap, subst, ℕ, ◌⊎◌, inl, inr, Bool, true, false, List, [], ◌∷◌, ◌++◌, length, slice_index, arith}
use Rattle.std.specs.Char.{is_ascii_digit, is_digit}
use Rattle.std.specs.List.{AllPass}
use Rattle.std.proofs.lemmas.Bool.{both_ways}
use Rattle.std.proofs.lemmas.List.{append-nil, same_from_push}
use Rattle.std.proofs.lemmas.List.Elements.{All-append, All-cons, All-head, All-nil, All-tail, All-weaker}
use Rattle.hl_lexer.specs.Bytes.{is_word_byte}
use Rattle.hl_lexer.specs.Numbers.{AreSomeDigits, IsNumber, IsSuffix, SpellsNumber, decimal, octal, hexadecimal, digits_number}
use Rattle.hl_lexer.proofs.ByteFacts.{decimal_digit, decimal_word_byte, hexadecimal_word_byte, octal_word_byte}

-- `u` or `U`
abbrev pub IsSuffixByte : ℕ → Type 0
IsSuffixByte b = (b ≡ 117) ⊎ (b ≡ 85)

-- `x` or `X`
abbrev pub IsBaseByte : ℕ → Type 0
IsBaseByte x = (x ≡ 120) ⊎ (x ≡ 88)

-- a test that doesn't pass at either of two bytes
two_bytes : (p : ℕ → Bool) (m n b : ℕ) → p m ≡ false → p n ≡ false → (b ≡ m) ⊎ (b ≡ n) → p b ≡ false
two_bytes p m n b h g (inl e) = ap p e ∙ h
two_bytes p m n b h g (inr e) = ap p e ∙ g

two_word_bytes : (m n b : ℕ) → is_word_byte m ≡ true → is_word_byte n ≡ true → (b ≡ m) ⊎ (b ≡ n) → is_word_byte b ≡ true
two_word_bytes m n b h g (inl e) = ap is_word_byte e ∙ h
two_word_bytes m n b h g (inr e) = ap is_word_byte e ∙ g

-- bytes of numbers

suffix_run : (suffix : List ℕ) (unsigned : Bool) → IsSuffix suffix unsigned → AllPass is_word_byte suffix
suffix_run [] unsigned h = All-nil (λ b. is_word_byte b ≡ true)
suffix_run (b ∷ []) unsigned h = All-cons (λ c. is_word_byte c ≡ true) b [] (two_word_bytes 117 85 b refl refl h.0) (All-nil (λ c. is_word_byte c ≡ true))
suffix_run (b ∷ c ∷ bs) unsigned h = absurd h

spelled_run : (bytes : List ℕ) (n : ℕ) → SpellsNumber bytes n → AllPass is_word_byte bytes
spelled_run bytes n (decimal first some number) = All-weaker (λ b. is_digit b 10 ≡ true) (λ b. is_word_byte b ≡ true) decimal_word_byte bytes some.each
spelled_run bytes n (octal first some number) = All-weaker (λ b. is_digit b 8 ≡ true) (λ b. is_word_byte b ≡ true) octal_word_byte bytes some.each
spelled_run bytes n (hexadecimal x digits is base some number) =
    subst (AllPass is_word_byte) (sym is)
    (All-cons (λ b. is_word_byte b ≡ true) 48 (x ∷ digits) refl
    (All-cons (λ b. is_word_byte b ≡ true) x digits (two_word_bytes 120 88 x refl refl base)
    (All-weaker (λ b. is_digit b 16 ≡ true) (λ b. is_word_byte b ≡ true) hexadecimal_word_byte digits some.each)))

pub number_run : (bytes : List ℕ) (n : ℕ) (unsigned : Bool) → IsNumber bytes n unsigned → AllPass is_word_byte bytes
number_run bytes n unsigned h =
    subst (AllPass is_word_byte) (sym h.bytes-are)
    (All-append (λ b. is_word_byte b ≡ true) h.digits h.suffix (spelled_run h.digits n h.spelled) (suffix_run h.suffix unsigned h.suffix-is))

-- a number begins with a digit

spelled_some : (n : ℕ) → SpellsNumber [] n → ⊥
spelled_some n (decimal first some number) = omega (arith, some.some)
spelled_some n (octal first some number) = omega (arith, some.some)
spelled_some n (hexadecimal x digits is base some number) = cc

spelled_begins : (b : ℕ) (bs : List ℕ) (n : ℕ) → SpellsNumber (b ∷ bs) n → is_ascii_digit b ≡ true
spelled_begins b bs n (decimal first some number) = decimal_digit b (All-head (λ c. is_digit c 10 ≡ true) b bs some.each)
spelled_begins b bs n (octal first some number) = ap is_ascii_digit first
spelled_begins b bs n (hexadecimal x digits is base some number) = let first : b ≡ 48 = cc is in ap is_ascii_digit first

begins_joined : (b : ℕ) (bs digits suffix : List ℕ) (n : ℕ) → b ∷ bs ≡ digits ++ suffix → SpellsNumber digits n → is_ascii_digit b ≡ true
begins_joined b bs [] suffix n e h = absurd (spelled_some n h)
begins_joined b bs (d ∷ digits) suffix n e h = let same : d ≡ b = cc e in subst (λ c. is_ascii_digit c ≡ true) same (spelled_begins d digits n h)

pub number_begins : (b : ℕ) (bs : List ℕ) (n : ℕ) (unsigned : Bool) → IsNumber (b ∷ bs) n unsigned → is_ascii_digit b ≡ true
number_begins b bs n unsigned h = begins_joined b bs h.digits h.suffix n h.bytes-are h.spelled

some_joined : (digits suffix : List ℕ) (n : ℕ) → [] ≡ digits ++ suffix → SpellsNumber digits n → ⊥
some_joined [] suffix n e h = spelled_some n h
some_joined (d ∷ digits) suffix n e h = cc

pub number_some : (n : ℕ) (unsigned : Bool) → IsNumber [] n unsigned → ⊥
number_some n unsigned h = some_joined h.digits h.suffix n h.bytes-are h.spelled

-- digits spell at most one number

based_first : (base : ℕ) (bytes : List ℕ) (x : ℕ) (digits : List ℕ) → AreSomeDigits base bytes → bytes ≡ 48 ∷ x ∷ digits → is_digit x base ≡ true
based_first base bytes x digits some e =
    let each : AllPass (λ c. is_digit c base) (48 ∷ x ∷ digits) = subst (AllPass (λ c. is_digit c base)) e some.each in
    All-head (λ c. is_digit c base ≡ true) x digits (All-tail (λ c. is_digit c base ≡ true) 48 (x ∷ digits) each)

pub octal_or_hexadecimal : (bytes : List ℕ) (x : ℕ) (digits : List ℕ) → AreSomeDigits 8 bytes → bytes ≡ 48 ∷ x ∷ digits → IsBaseByte x → ⊥
octal_or_hexadecimal bytes x digits some e base =
    both_ways (is_digit x 8) (two_bytes (λ b. is_digit b 8) 120 88 x refl refl base) (based_first 8 bytes x digits some e)

pub one_spelled : (bytes : List ℕ) (m n : ℕ) → SpellsNumber bytes m → SpellsNumber bytes n → m ≡ n
one_spelled bytes m n (decimal first some number) (decimal first' some' number') = number ∙ sym number'
one_spelled bytes m n (decimal first some number) (octal first' some' number') = absurd (first first')
one_spelled bytes m n (decimal first some number) (hexadecimal x digits is base some' number') = absurd (first (ap (λ bs. slice_index bs 0) is))
one_spelled bytes m n (octal first some number) (decimal first' some' number') = absurd (first' first)
one_spelled bytes m n (octal first some number) (octal first' some' number') = number ∙ sym number'
one_spelled bytes m n (octal first some number) (hexadecimal x digits is base some' number') = absurd (octal_or_hexadecimal bytes x digits some is base)
one_spelled bytes m n (hexadecimal x digits is base some number) (decimal first' some' number') = absurd (first' (ap (λ bs. slice_index bs 0) is))
one_spelled bytes m n (hexadecimal x digits is base some number) (octal first' some' number') = absurd (octal_or_hexadecimal bytes x digits some' is base)
one_spelled bytes m n (hexadecimal x digits is base some number) (hexadecimal x' digits' is' base' some' number') =
    let same : digits ≡ digits' = cc (is, is') in
    number ∙ (ap (digits_number 16) same ∙ sym number')

-- digits don't end in a suffix

last_passes : (p : ℕ → Bool) (front : List ℕ) (b : ℕ) → AllPass p (front ++ b ∷ []) → p b ≡ true
last_passes p [] b h = All-head (λ c. p c ≡ true) b [] h
last_passes p (x ∷ front) b h = last_passes p front b (All-tail (λ c. p c ≡ true) x (front ++ b ∷ []) h)

ends_in_digit : (base : ℕ) (bytes front : List ℕ) (b : ℕ) → is_digit 117 base ≡ false → is_digit 85 base ≡ false → AllPass (λ c. is_digit c base) bytes → IsSuffixByte b → bytes ≡ front ++ b ∷ [] → ⊥
ends_in_digit base bytes front b h g each suffix e =
    both_ways (is_digit b base) (two_bytes (λ c. is_digit c base) 117 85 b h g suffix) (last_passes (λ c. is_digit c base) front b (subst (AllPass (λ c. is_digit c base)) e each))

hexadecimal_end : (x : ℕ) (digits front : List ℕ) (b : ℕ) → AreSomeDigits 16 digits → IsSuffixByte b → 48 ∷ x ∷ digits ≡ front ++ b ∷ [] → ⊥
hexadecimal_end x digits [] b some suffix e = cc
hexadecimal_end x digits (c ∷ []) b some suffix e = let none : digits ≡ [] = cc e in omega (arith, some.some, ap length none)
hexadecimal_end x digits (c ∷ d ∷ front) b some suffix e = let rest : digits ≡ front ++ b ∷ [] = cc e in ends_in_digit 16 digits front b refl refl some.each suffix rest

pub spelled_end : (bytes front : List ℕ) (b n : ℕ) → SpellsNumber bytes n → IsSuffixByte b → bytes ≡ front ++ b ∷ [] → ⊥
spelled_end bytes front b n (decimal first some number) suffix e = ends_in_digit 10 bytes front b refl refl some.each suffix e
spelled_end bytes front b n (octal first some number) suffix e = ends_in_digit 8 bytes front b refl refl some.each suffix e
spelled_end bytes front b n (hexadecimal x digits is base some number) suffix e = hexadecimal_end x digits front b some suffix (sym is ∙ e)

joined_once : (digits suffix others other : List ℕ) (m n : ℕ) (u v : Bool) → SpellsNumber digits m → SpellsNumber others n → IsSuffix suffix u → IsSuffix other v → digits ++ suffix ≡ others ++ other → (m ≡ n) × (u ≡ v)
joined_once digits [] others [] m n u v h g p q e =
    let same : digits ≡ others = sym (append-nil digits) ∙ (e ∙ append-nil others) in
    (one_spelled digits m n h (subst (λ bs. SpellsNumber bs n) (sym same) g), p ∙ sym q)
joined_once digits [] others (b ∷ []) m n u v h g p q e = absurd (spelled_end digits others b m h q.0 (sym (append-nil digits) ∙ e))
joined_once digits [] others (b ∷ c ∷ bs) m n u v h g p q e = absurd q
joined_once digits (b ∷ []) others [] m n u v h g p q e = absurd (spelled_end others digits b n g p.0 (sym (append-nil others) ∙ sym e))
joined_once digits (b ∷ []) others (c ∷ []) m n u v h g p q e =
    let same = (same_from_push digits others b c e).0 in
    (one_spelled digits m n h (subst (λ bs. SpellsNumber bs n) (sym same) g), p.1 ∙ sym q.1)
joined_once digits (b ∷ []) others (c ∷ d ∷ ds) m n u v h g p q e = absurd q
joined_once digits (b ∷ c ∷ bs) others other m n u v h g p q e = absurd p

-- bytes are at most one number
pub one_number : (bytes : List ℕ) (m n : ℕ) (u v : Bool) → IsNumber bytes m u → IsNumber bytes n v → (m ≡ n) × (u ≡ v)
one_number bytes m n u v h g =
    joined_once h.digits h.suffix g.digits g.suffix m n u v h.spelled g.spelled h.suffix-is g.suffix-is (sym h.bytes-are ∙ g.bytes-are)
