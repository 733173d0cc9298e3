-- Comments at the front of a text.
use Rattle.std.proofs.Common.{◌≡◌, ◌≢◌, ◌∙◌, refl, sym, ap, subst, ℕ, suc, ◌+◌, ◌<◌, ◌≤◌, inr, ⊎_elim, true, false, List, [], ◌∷◌, ◌++◌, length, get_or, slice_index, take, drop, arith, add-zero, append_assoc, length-append, length-take, take-append-drop, get_or-append-add}
use Rattle.std.specs.List.{AllPass}
use Rattle.std.proofs.lemmas.Bool.{cases_lt}
use Rattle.std.proofs.lemmas.List.{drop_more, get_or_past, take_at}
use Rattle.hl_lexer.specs.Bytes.{Ends, is_no_line_feed, is_space_byte}
use Rattle.hl_lexer.specs.Scanning.{BeginsNoSpace, ClosesAt, FirstClosing, HasSpace, NoClosing}
use Rattle.hl_lexer.specs.Tokens.{BeginsComment, IsSpace, a_block, a_byte, a_line}

-- where `*/` stands

closes_within : (bytes : List ℕ) (n : ℕ) → ClosesAt bytes n → n + 2 ≤ length bytes
closes_within bytes n h =
    ⊎_elim (λ within. omega arith) (λ past. let none = get_or_past bytes (n + 1) 0 past in absurd (omega (arith, h.1))) (cases_lt (n + 1) (length bytes))

closes_here : (bytes : List ℕ) (n : ℕ) → ClosesAt bytes n → bytes ≡ take n bytes ++ 42 ∷ 47 ∷ drop (n + 2) bytes
closes_here bytes n h =
    let within = closes_within bytes n h in
    let first : drop n bytes ≡ get_or bytes n 0 ∷ drop (n + 1) bytes = drop_more bytes n 0 (omega arith) in
    let second : drop (n + 1) bytes ≡ get_or bytes (n + 1) 0 ∷ drop (n + 1 + 1) bytes = drop_more bytes (n + 1) 0 (omega arith) in
    let next : n + 1 + 1 ≡ n + 2 = omega arith in
    let both : drop n bytes ≡ 42 ∷ 47 ∷ drop (n + 2) bytes = rw (first, second, h.0, h.1, next) refl in
    sym (take-append-drop n bytes) ∙ ap (λ bs. take n bytes ++ bs) both

front_closes : (bytes front back : List ℕ) → bytes ≡ front ++ 42 ∷ 47 ∷ back → ClosesAt bytes (length front)
front_closes bytes front back e = (
  ap (λ bs. get_or bs (length front) 0) e ∙ (ap (λ n. get_or (front ++ 42 ∷ 47 ∷ back) n 0) (sym (add-zero (length front))) ∙ get_or-append-add front (42 ∷ 47 ∷ back) 0 0),
  ap (λ bs. get_or bs (length front + 1) 0) e ∙ get_or-append-add front (42 ∷ 47 ∷ back) 1 0,
)

pub first_closing : (bytes : List ℕ) (n : ℕ) → ((k : ℕ) → k < n → ClosesAt bytes k → ⊥) → ClosesAt bytes n → FirstClosing bytes n
first_closing bytes n none h = record {
  within = closes_within bytes n h;
  here = closes_here bytes n h;
  first = λ front back e. ⊎_elim (λ sooner. absurd (none (length front) sooner (front_closes bytes front back e))) (λ later. later) (cases_lt (length front) n);
}

pub no_closing : (bytes : List ℕ) → ((k : ℕ) → k < length bytes → ClosesAt bytes k → ⊥) → NoClosing bytes
no_closing bytes none front back e =
    none (length front) (omega (arith, ap length e, length-append front (42 ∷ 47 ∷ back))) (front_closes bytes front back e)

-- a comment up to the end of its line

line_space_at : (bs : List ℕ) (n : ℕ) → n ≤ length bs → AllPass is_no_line_feed (take n bs) → Ends is_no_line_feed (drop n bs) → HasSpace (47 ∷ 47 ∷ bs) (suc (suc n))
line_space_at bs n within line end = record {
  some = omega arith;
  within = omega arith;
  space = a_line (take n bs) refl line end;
}

pub line_space : (rest : List ℕ) (n : ℕ) → slice_index rest 0 ≡ 47 → slice_index rest 1 ≡ 47 → n ≤ length (drop 2 rest) → AllPass is_no_line_feed (take n (drop 2 rest)) → Ends is_no_line_feed (drop n (drop 2 rest)) → HasSpace rest (2 + n)
line_space [] n first second within line end = absurd (omega (arith, first))
line_space (a ∷ []) n first second within line end = absurd (omega (arith, second))
line_space (a ∷ b ∷ bs) n first second within line end =
    let more : suc (suc n) ≡ 2 + n = omega arith in
    let text : 47 ∷ 47 ∷ bs ≡ a ∷ b ∷ bs = λ i. sym first i ∷ sym second i ∷ bs in
    subst (HasSpace (a ∷ b ∷ bs)) more (subst (λ t. HasSpace t (suc (suc n))) text (line_space_at bs n within line end))

-- a comment up to the next `*/`

closed_front : (body : List ℕ) (n : ℕ) → FirstClosing body n → take (n + 2) body ≡ take n body ++ 42 ∷ 47 ∷ []
closed_front body n h =
    let whole : body ≡ (take n body ++ 42 ∷ 47 ∷ []) ++ drop (n + 2) body = h.here ∙ sym (append_assoc (take n body) (42 ∷ 47 ∷ []) (drop (n + 2) body)) in
    let long : length (take n body ++ 42 ∷ 47 ∷ []) ≡ n + 2 = omega (arith, length-append (take n body) (42 ∷ 47 ∷ []), length-take n body, h.within) in
    ap (take (n + 2)) whole ∙ take_at (take n body ++ 42 ∷ 47 ∷ []) (drop (n + 2) body) (n + 2) long

block_space_at : (body : List ℕ) (n : ℕ) → FirstClosing body n → HasSpace (47 ∷ 42 ∷ body) (suc (suc (n + 2)))
block_space_at body n h = record {
  some = omega arith;
  within = omega (arith, h.within);
  space = a_block (take n body) (ap (λ bs. 47 ∷ 42 ∷ bs) (closed_front body n h)) (λ front back e.
      let shortest = h.first front back (h.here ∙ e) in
      omega (arith, length-take n body, h.within));
}

pub block_space : (rest : List ℕ) (n : ℕ) → slice_index rest 0 ≡ 47 → slice_index rest 1 ≡ 42 → FirstClosing (drop 2 rest) n → HasSpace rest (2 + n + 2)
block_space [] n first second h = absurd (omega (arith, first))
block_space (a ∷ []) n first second h = absurd (omega (arith, second))
block_space (a ∷ b ∷ bs) n first second h =
    let more : suc (suc (n + 2)) ≡ 2 + n + 2 = omega arith in
    let text : 47 ∷ 42 ∷ bs ≡ a ∷ b ∷ bs = λ i. sym first i ∷ sym second i ∷ bs in
    subst (HasSpace (a ∷ b ∷ bs)) more (subst (λ t. HasSpace t (suc (suc (n + 2)))) text (block_space_at bs n h))

-- a comment that doesn't end

no_space_at : (bs bytes after : List ℕ) → NoClosing bs → 47 ∷ 42 ∷ bs ≡ bytes ++ after → IsSpace bytes after → ⊥
no_space_at bs bytes after none e (a_byte b space is) =
    let same : 47 ∷ 42 ∷ bs ≡ b ∷ after = e ∙ ap (λ x. x ++ after) is in
    let first : b ≡ 47 = cc same in
    let no : true ≡ false = sym space ∙ ap is_space_byte first in
    cc no
no_space_at bs bytes after none e (a_line body is line end) =
    let same : 47 ∷ 42 ∷ bs ≡ (47 ∷ 47 ∷ body) ++ after = e ∙ ap (λ x. x ++ after) is in
    let second : ◌≡◌ {A = ℕ} 42 47 = cc same in
    omega (arith, second)
no_space_at bs bytes after none e (a_block body is first) =
    let same : 47 ∷ 42 ∷ bs ≡ (47 ∷ 42 ∷ body ++ 42 ∷ 47 ∷ []) ++ after = e ∙ ap (λ x. x ++ after) is in
    let rest : bs ≡ (body ++ 42 ∷ 47 ∷ []) ++ after = cc same in
    none body after (rest ∙ append_assoc body (42 ∷ 47 ∷ []) after)

pub unclosed : (rest : List ℕ) → slice_index rest 0 ≡ 47 → slice_index rest 1 ≡ 42 → NoClosing (drop 2 rest) → BeginsComment rest × BeginsNoSpace rest
unclosed [] first second none = absurd (omega (arith, first))
unclosed (a ∷ []) first second none = absurd (omega (arith, second))
unclosed (a ∷ b ∷ bs) first second none =
    let text : 47 ∷ 42 ∷ bs ≡ a ∷ b ∷ bs = λ i. sym first i ∷ sym second i ∷ bs in
    ((first, inr second), λ bytes after e space. no_space_at bs bytes after none (text ∙ e) space)

-- what begins otherwise is no comment

pub no_slash : (rest : List ℕ) → slice_index rest 0 ≢ 47 → ¬ BeginsComment rest
no_slash [] other h = h
no_slash (a ∷ []) other h = h
no_slash (a ∷ b ∷ bs) other h = other h.0

pub no_second : (rest : List ℕ) → slice_index rest 1 ≢ 47 → slice_index rest 1 ≢ 42 → ¬ BeginsComment rest
no_second [] line block h = h
no_second (a ∷ []) line block h = h
no_second (a ∷ b ∷ bs) line block h = ⊎_elim line block h.1
