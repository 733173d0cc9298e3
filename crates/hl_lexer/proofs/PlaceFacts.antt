-- Places, byte by byte.
use Rattle.std.proofs.Common.{◌≡◌, ◌∙◌, refl, sym, ap, ℕ, ◌+◌, ◌-◌, ◌<◌, ◌≤◌, Bool, true, false, cond, not, List, [], ◌∷◌, ◌++◌, length, get_or, drop, arith, append_assoc, append-nil, length-drop}
use Rattle.std.specs.List.{AllPass, after_last, count_by, prefix_len, suffix_len}
use Rattle.std.proofs.lemmas.Bool.{not-true}
use Rattle.std.proofs.lemmas.List.{drop_more, reverse-append}
use Rattle.std.proofs.lemmas.List.Elements.{All-head, All-tail}
use Rattle.std.proofs.lemmas.List.Sums.{count_by-le-length, suffix_len-le-length, sum_by_push}
use Rattle.base_core.specs.declared.place.Place.{Place}
use Rattle.hl_lexer.specs.Bytes.{is_line_feed, is_no_line_feed}
use Rattle.hl_lexer.specs.Reading.{next_place, place_past}
use Rattle.hl_lexer.specs.Tokens.{place_after}

same_place : (p q : Place) → p.line ≡ q.line → p.column ≡ q.column → p ≡ q
same_place p q e f = λ i. record { line = e i; column = f i }

-- how many bytes stand behind the last line feed

line_rest : (before : List ℕ) → length (after_last is_line_feed before) ≡ suffix_len is_no_line_feed before
line_rest before =
    let short = suffix_len-le-length is_no_line_feed before in
    omega (arith, length-drop (length before - suffix_len is_no_line_feed before) before)

rest_push : (before : List ℕ) (b : ℕ) → suffix_len is_no_line_feed (before ++ b ∷ []) ≡ cond (is_no_line_feed b) (1 + suffix_len is_no_line_feed before) 0
rest_push before b = ap (prefix_len is_no_line_feed) (reverse-append before (b ∷ []))

-- the place behind one more byte

column_push : (before : List ℕ) (b : ℕ) → length (after_last is_line_feed (before ++ b ∷ [])) ≡ cond (is_no_line_feed b) (1 + length (after_last is_line_feed before)) 0
column_push before b = line_rest (before ++ b ∷ []) ∙ (rest_push before b ∙ ap (λ n. cond (is_no_line_feed b) (1 + n) 0) (sym (line_rest before)))

line_push : (before : List ℕ) (b : ℕ) → count_by is_line_feed (before ++ b ∷ []) ≡ count_by is_line_feed before + cond (is_line_feed b) 1 0
line_push before b = sum_by_push (λ x. cond (is_line_feed x) 1 0) before b

abbrev place_at : ℕ → ℕ → Place
place_at line column = record { line = line; column = column }

pushed : (feed : Bool) (line column lines columns : ℕ) → lines ≡ line + cond feed 1 0 → columns ≡ cond (not feed) (1 + column) 0 → place_at (lines + 1) (columns + 1) ≡ cond feed (place_at (line + 1 + 1) 1) (place_at (line + 1) (column + 1 + 1))
pushed true line column lines columns e f = same_place (place_at (lines + 1) (columns + 1)) (place_at (line + 1 + 1) 1) (omega arith) (omega arith)
pushed false line column lines columns e f = same_place (place_at (lines + 1) (columns + 1)) (place_at (line + 1) (column + 1 + 1)) (omega arith) (omega arith)

place_push : (before : List ℕ) (b : ℕ) → place_after (before ++ b ∷ []) ≡ next_place (place_after before) b
place_push before b =
    pushed (is_line_feed b) (count_by is_line_feed before) (length (after_last is_line_feed before)) (count_by is_line_feed (before ++ b ∷ [])) (length (after_last is_line_feed (before ++ b ∷ [])))
    (line_push before b) (column_push before b)

-- the place behind more bytes
pub place_more : (before bytes : List ℕ) → place_after (before ++ bytes) ≡ place_past (place_after before) bytes
place_more before [] = ap place_after (append-nil before)
place_more before (b ∷ bs) =
    ap place_after (sym (append_assoc before (b ∷ []) bs))
    ∙ (place_more (before ++ b ∷ []) bs
    ∙ ap (λ place. place_past place bs) (place_push before b))

-- the place behind bytes on one line
pub place_along : (place : Place) (bytes : List ℕ) → AllPass is_no_line_feed bytes → place_past place bytes ≡ record { line = place.line; column = place.column + length bytes }
place_along place [] line = same_place place (place_at place.line (place.column + 0)) refl (omega arith)
place_along place (b ∷ bs) line =
    let no_feed = not-true (is_line_feed b) (All-head (λ c. is_no_line_feed c ≡ true) b bs line) in
    let first : next_place place b ≡ place_at place.line (place.column + 1) = ap (λ feed. cond feed (place_at (place.line + 1) 1) (place_at place.line (place.column + 1))) no_feed in
    ap (λ p. place_past p bs) first
    ∙ (place_along (place_at place.line (place.column + 1)) bs (All-tail (λ c. is_no_line_feed c ≡ true) b bs line)
    ∙ same_place (place_at place.line (place.column + 1 + length bs)) (place_at place.line (place.column + length (b ∷ bs))) refl (omega arith))

-- a place is no further than its bytes

pub line_within : (before : List ℕ) → (place_after before).line ≤ length before + 1
line_within before = let few = count_by-le-length is_line_feed before in omega arith

pub column_within : (before : List ℕ) → (place_after before).column ≤ length before + 1
column_within before = omega (arith, length-drop (length before - suffix_len is_no_line_feed before) before)

-- one byte of the bytes that are passed
pub past_more : (place : Place) (bytes : List ℕ) (i : ℕ) → i < length bytes → place_past place (drop i bytes) ≡ place_past (next_place place (get_or bytes i 0)) (drop (i + 1) bytes)
past_more place bytes i within = ap (place_past place) (drop_more bytes i 0 within)

next_line_at : (feed : Bool) (place : Place) → (cond feed (place_at (place.line + 1) 1) (place_at place.line (place.column + 1))).line ≤ place.line + 1
next_line_at true place = omega arith
next_line_at false place = omega arith

next_column_at : (feed : Bool) (place : Place) → (cond feed (place_at (place.line + 1) 1) (place_at place.line (place.column + 1))).column ≤ place.column + 1
next_column_at true place = omega arith
next_column_at false place = omega arith

pub next_line : (place : Place) (b : ℕ) → (next_place place b).line ≤ place.line + 1
next_line place b = next_line_at (is_line_feed b) place

pub next_column : (place : Place) (b : ℕ) → (next_place place b).column ≤ place.column + 1
next_column place b = next_column_at (is_line_feed b) place
