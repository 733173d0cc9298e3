-- The forms of tokens: what they begin with, and that bytes have at most one.
use Rattle.std.proofs.Common.{◌≡◌, ◌∙◌, refl, sym, ap, ap₂, subst, ℕ, ◌<◌, true, List, [], ◌∷◌, ◌++◌, Option, Some, arith}
use Rattle.std.specs.List.{AllPass}
use Rattle.std.proofs.lemmas.Bool.{or_left}
use Rattle.std.proofs.lemmas.List.Elements.{All-cons, All-weaker}
use Rattle.hl_lexer.specs.declared.token.TokenKind.{TokenKind}
use Rattle.hl_lexer.specs.declared.token.TokenKind.TheVariants.{Name, Word, Number, Mark}
use Rattle.hl_lexer.specs.Bytes.{is_letter, is_word_byte, is_no_line_feed}
use Rattle.hl_lexer.specs.Scanning.{class_of}
use Rattle.hl_lexer.specs.Tokens.{IsForm, IsName, IsToken, IsWord}
use Rattle.hl_lexer.proofs.ByteFacts.{class_sort, digit_sort, letter_sort, on_line}
use Rattle.hl_lexer.proofs.Lists.{split_same}
use Rattle.hl_lexer.proofs.NumberFacts.{number_begins, number_run, number_some, one_number}
use Rattle.hl_lexer.proofs.TableFacts.{mark_begins, mark_line, mark_number_is, mark_some, word_begins, word_number_is, word_run, word_some}

-- the classes of bytes that tokens of a kind begin with, by numbers
abbrev pub kind_sort : TokenKind → ℕ
kind_sort Name = 0
kind_sort (Word number) = 0
kind_sort (Number value unsigned) = 1
kind_sort (Mark number) = 2

pub kind_sort_small : (kind : TokenKind) → kind_sort kind < 3
kind_sort_small Name = omega arith
kind_sort_small (Word number) = omega arith
kind_sort_small (Number value unsigned) = omega arith
kind_sort_small (Mark number) = omega arith

pub form_some : (kind : TokenKind) (after : List ℕ) → IsForm kind [] after → ⊥
form_some Name after h = h
form_some (Word number) after h = word_some number h
form_some (Number value unsigned) after h = number_some value unsigned h.0
form_some (Mark number) after h = mark_some number h

pub form_begins : (kind : TokenKind) (b : ℕ) (bs after : List ℕ) → IsForm kind (b ∷ bs) after → class_sort (class_of b) ≡ kind_sort kind
form_begins Name b bs after h = letter_sort b h.0
form_begins (Word number) b bs after h = letter_sort b (word_begins number b bs h)
form_begins (Number value unsigned) b bs after h = digit_sort b (number_begins b bs value unsigned h.0)
form_begins (Mark number) b bs after h = mark_begins number b bs h

pub name_run : (bytes : List ℕ) → IsName bytes → AllPass is_word_byte bytes
name_run [] h = absurd h
name_run (b ∷ bs) h = All-cons (λ c. is_word_byte c ≡ true) b bs (or_left (is_letter b) _ h.0) h.1

-- all tokens but marks are runs of letters, digits and `_`
pub form_run : (kind : TokenKind) (bytes after : List ℕ) → kind_sort kind < 2 → IsForm kind bytes after → AllPass is_word_byte bytes
form_run Name bytes after small h = name_run bytes h
form_run (Word number) bytes after small h = word_run number bytes h
form_run (Number value unsigned) bytes after small h = number_run bytes value unsigned h.0
form_run (Mark number) bytes after small h = absurd (omega arith)

run_line : (bytes : List ℕ) → AllPass is_word_byte bytes → AllPass is_no_line_feed bytes
run_line bytes h = All-weaker (λ b. is_word_byte b ≡ true) (λ b. is_no_line_feed b ≡ true) on_line bytes h

-- a token stands on one line
pub form_line : (kind : TokenKind) (bytes after : List ℕ) → IsForm kind bytes after → AllPass is_no_line_feed bytes
form_line Name bytes after h = run_line bytes (name_run bytes h)
form_line (Word number) bytes after h = run_line bytes (word_run number bytes h)
form_line (Number value unsigned) bytes after h = run_line bytes (number_run bytes value unsigned h.0)
form_line (Mark number) bytes after h = mark_line number bytes h

-- bytes are of one kind

same_sort : (j k : TokenKind) (bytes after : List ℕ) → IsForm j bytes after → IsForm k bytes after → kind_sort j ≡ kind_sort k
same_sort j k [] after h g = absurd (form_some j after h)
same_sort j k (b ∷ bs) after h g = sym (form_begins j b bs after h) ∙ form_begins k b bs after g

pub no_name : (number : ℕ) (bytes : List ℕ) → IsName bytes → IsWord number bytes → ⊥
no_name number [] h g = h
no_name number (b ∷ bs) h g = h.2 number g

same_some : {X : Type 0} (o : Option X) (m n : X) → o ≡ Some m → o ≡ Some n → m ≡ n
same_some o m n e f = let both : Some m ≡ Some n = sym e ∙ f in cc

pub one_kind : (j k : TokenKind) (bytes after : List ℕ) → IsForm j bytes after → IsForm k bytes after → j ≡ k
one_kind Name Name bytes after h g = refl
one_kind Name (Word n) bytes after h g = absurd (no_name n bytes h g)
one_kind Name (Number v u) bytes after h g = let e = same_sort Name (Number v u) bytes after h g in absurd (omega (arith, e))
one_kind Name (Mark n) bytes after h g = let e = same_sort Name (Mark n) bytes after h g in absurd (omega (arith, e))
one_kind (Word m) Name bytes after h g = absurd (no_name m bytes g h)
one_kind (Word m) (Word n) bytes after h g = ap Word (same_some _ m n (word_number_is m bytes h) (word_number_is n bytes g))
one_kind (Word m) (Number v u) bytes after h g = let e = same_sort (Word m) (Number v u) bytes after h g in absurd (omega (arith, e))
one_kind (Word m) (Mark n) bytes after h g = let e = same_sort (Word m) (Mark n) bytes after h g in absurd (omega (arith, e))
one_kind (Number w t) Name bytes after h g = let e = same_sort (Number w t) Name bytes after h g in absurd (omega (arith, e))
one_kind (Number w t) (Word n) bytes after h g = let e = same_sort (Number w t) (Word n) bytes after h g in absurd (omega (arith, e))
one_kind (Number w t) (Number v u) bytes after h g = let e = one_number bytes w v t u h.0 g.0 in ap₂ Number e.0 e.1
one_kind (Number w t) (Mark n) bytes after h g = let e = same_sort (Number w t) (Mark n) bytes after h g in absurd (omega (arith, e))
one_kind (Mark m) Name bytes after h g = let e = same_sort (Mark m) Name bytes after h g in absurd (omega (arith, e))
one_kind (Mark m) (Word n) bytes after h g = let e = same_sort (Mark m) (Word n) bytes after h g in absurd (omega (arith, e))
one_kind (Mark m) (Number v u) bytes after h g = let e = same_sort (Mark m) (Number v u) bytes after h g in absurd (omega (arith, e))
one_kind (Mark m) (Mark n) bytes after h g = ap Mark (same_some _ m n (mark_number_is m bytes h) (mark_number_is n bytes g))

-- at most one token begins at a place
pub one_token : (j k : TokenKind) (bytes after front back : List ℕ) → IsToken j bytes after → IsToken k front back → bytes ++ after ≡ front ++ back → (j ≡ k) × (bytes ≡ front) × (after ≡ back)
one_token j k bytes after front back h g e =
    let one = h.longest k front back (sym e) g.form in
    let two = g.longest j bytes after e h.form in
    let same = split_same bytes front after back (omega arith) e in
    let form : IsForm k bytes after = subst (λ bs. IsForm k bs after) (sym same.0) (subst (λ bs. IsForm k front bs) (sym same.1) g.form) in
    (one_kind j k bytes after h.form form, same.0, same.1)
