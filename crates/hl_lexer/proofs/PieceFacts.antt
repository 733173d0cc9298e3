-- At most one piece stands at a place.
use Rattle.std.proofs.Common.{◌≡◌, ◌∙◌, refl, sym, ap, subst, ℕ, ◌<◌, ◌≤◌, ◌⊎◌, inl, inr, ⊎_elim, true, List, [], ◌∷◌, ◌++◌, length, arith, append_assoc}
use Rattle.std.specs.List.{AllPass}
use Rattle.hl_lexer.specs.declared.token.TokenKind.{TokenKind}
use Rattle.hl_lexer.specs.Bytes.{Ends, is_no_line_feed, is_space_byte}
use Rattle.hl_lexer.specs.Scanning.{class_of}
use Rattle.hl_lexer.specs.Tokens.{BeginsComment, IsForm, IsSpace, IsToken, MayStand, Piece, a_block, a_byte, a_line, a_space, a_token, bytes_of, order_mark}
use Rattle.hl_lexer.proofs.ByteFacts.{class_sort, space_sort}
use Rattle.hl_lexer.proofs.FormFacts.{form_begins, form_some, kind_sort, kind_sort_small, one_token}
use Rattle.hl_lexer.proofs.Lists.{run_once, split_same}

-- a text begins with a byte of a class, by its number
abbrev pub Starts : ℕ → List ℕ → Type 0
Starts sort [] = ⊥
Starts sort (b ∷ bs) = class_sort (class_of b) ≡ sort

pub starts_once : (m n : ℕ) (text : List ℕ) → Starts m text → Starts n text → m ≡ n
starts_once m n [] h g = absurd h
starts_once m n (b ∷ bs) h g = sym h ∙ g

form_starts : (kind : TokenKind) (bytes after back : List ℕ) → IsForm kind bytes after → Starts (kind_sort kind) (bytes ++ back)
form_starts kind [] after back h = absurd (form_some kind after h)
form_starts kind (b ∷ bs) after back h = form_begins kind b bs after h

pub token_starts : (kind : TokenKind) (bytes after : List ℕ) → IsToken kind bytes after → Starts (kind_sort kind) (bytes ++ after)
token_starts kind bytes after h = form_starts kind bytes after after h.form

pub comment_starts : (text : List ℕ) → BeginsComment text → Starts 2 text
comment_starts [] h = absurd h
comment_starts (a ∷ []) h = absurd h
comment_starts (a ∷ b ∷ rest) h = ap (λ c. class_sort (class_of c)) h.0

-- a space begins with a byte that is a space, or a comment begins
pub space_starts : (bytes after : List ℕ) → IsSpace bytes after → Starts 3 (bytes ++ after) ⊎ BeginsComment (bytes ++ after)
space_starts bytes after (a_byte b space is) = inl (subst (λ bs. Starts 3 (bs ++ after)) (sym is) (space_sort b space))
space_starts bytes after (a_line body is line ends) = inr (subst (λ bs. BeginsComment (bs ++ after)) (sym is) (refl, inl refl))
space_starts bytes after (a_block body is first) = inr (subst (λ bs. BeginsComment (bs ++ after)) (sym is) (refl, inr refl))

-- texts that begin otherwise

byte_or_comment : (b : ℕ) (bytes after front back : List ℕ) → is_space_byte b ≡ true → bytes ≡ b ∷ [] → bytes ++ after ≡ front ++ back → BeginsComment (front ++ back) → ⊥
byte_or_comment b bytes after front back space is e comment =
    let three : Starts 3 (front ++ back) = subst (Starts 3) e (subst (λ bs. Starts 3 (bs ++ after)) (sym is) (space_sort b space)) in
    let same = starts_once 3 2 (front ++ back) three (comment_starts (front ++ back) comment) in
    omega (arith, same)

space_or_token : (kind : TokenKind) (bytes after front back : List ℕ) → IsSpace bytes after → IsToken kind front back → bytes ++ after ≡ front ++ back → ⊥
space_or_token kind bytes after front back h g e =
    ⊎_elim
    (λ three. let same = starts_once 3 (kind_sort kind) (front ++ back) (subst (Starts 3) e three) (token_starts kind front back g) in omega (arith, kind_sort_small kind))
    (λ comment. g.no_comment (subst BeginsComment e comment))
    (space_starts bytes after h)

mark_or_space : (after front back : List ℕ) → IsSpace front back → bytes_of order_mark ++ after ≡ front ++ back → ⊥
mark_or_space after front back h e =
    let four : Starts 4 (front ++ back) = subst (Starts 4) e refl in
    ⊎_elim
    (λ three. let same = starts_once 4 3 (front ++ back) four three in omega (arith, same))
    (λ comment. let same = starts_once 4 2 (front ++ back) four (comment_starts (front ++ back) comment) in omega (arith, same))
    (space_starts front back h)

mark_or_token : (kind : TokenKind) (after front back : List ℕ) → IsToken kind front back → bytes_of order_mark ++ after ≡ front ++ back → ⊥
mark_or_token kind after front back h e =
    let four : Starts 4 (front ++ back) = subst (Starts 4) e refl in
    let same = starts_once 4 (kind_sort kind) (front ++ back) four (token_starts kind front back h) in
    omega (arith, kind_sort_small kind)

-- at most one space begins at a place

line_or_block : (body other bytes after front back : List ℕ) → bytes ≡ 47 ∷ 47 ∷ body → front ≡ 47 ∷ 42 ∷ other → bytes ++ after ≡ front ++ back → ⊥
line_or_block body other bytes after front back is are e =
    let same : (47 ∷ 47 ∷ body) ++ after ≡ (47 ∷ 42 ∷ other) ++ back = sym (ap (λ bs. bs ++ after) is) ∙ (e ∙ ap (λ bs. bs ++ back) are) in
    let second : ◌≡◌ {A = ℕ} 47 42 = cc same in
    omega (arith, second)

two_lines : (body other bytes after front back : List ℕ) → bytes ≡ 47 ∷ 47 ∷ body → front ≡ 47 ∷ 47 ∷ other → AllPass is_no_line_feed body → AllPass is_no_line_feed other → Ends is_no_line_feed after → Ends is_no_line_feed back → bytes ++ after ≡ front ++ back → (bytes ≡ front) × (after ≡ back)
two_lines body other bytes after front back is are h g ends stops e =
    let same : (47 ∷ 47 ∷ body) ++ after ≡ (47 ∷ 47 ∷ other) ++ back = sym (ap (λ bs. bs ++ after) is) ∙ (e ∙ ap (λ bs. bs ++ back) are) in
    let bodies : body ++ after ≡ other ++ back = cc same in
    let once = run_once is_no_line_feed body other after back h g ends stops bodies in
    (is ∙ (ap (λ bs. 47 ∷ 47 ∷ bs) once.0 ∙ sym are), once.1)

two_blocks : (body other bytes after front back : List ℕ) → bytes ≡ 47 ∷ 42 ∷ body ++ 42 ∷ 47 ∷ [] → front ≡ 47 ∷ 42 ∷ other ++ 42 ∷ 47 ∷ [] →
    ((f b : List ℕ) → body ++ 42 ∷ 47 ∷ after ≡ f ++ 42 ∷ 47 ∷ b → length body ≤ length f) →
    ((f b : List ℕ) → other ++ 42 ∷ 47 ∷ back ≡ f ++ 42 ∷ 47 ∷ b → length other ≤ length f) →
    bytes ++ after ≡ front ++ back → (bytes ≡ front) × (after ≡ back)
two_blocks body other bytes after front back is are first second e =
    let same : (47 ∷ 42 ∷ body ++ 42 ∷ 47 ∷ []) ++ after ≡ (47 ∷ 42 ∷ other ++ 42 ∷ 47 ∷ []) ++ back = sym (ap (λ bs. bs ++ after) is) ∙ (e ∙ ap (λ bs. bs ++ back) are) in
    let inner : (body ++ 42 ∷ 47 ∷ []) ++ after ≡ (other ++ 42 ∷ 47 ∷ []) ++ back = cc same in
    let bodies : body ++ 42 ∷ 47 ∷ after ≡ other ++ 42 ∷ 47 ∷ back = sym (append_assoc body (42 ∷ 47 ∷ []) after) ∙ (inner ∙ append_assoc other (42 ∷ 47 ∷ []) back) in
    let one = first other back bodies in
    let two = second body after (sym bodies) in
    let once = split_same body other (42 ∷ 47 ∷ after) (42 ∷ 47 ∷ back) (omega arith) bodies in
    let rest : after ≡ back = cc once.1 in
    (is ∙ (ap (λ bs. 47 ∷ 42 ∷ bs ++ 42 ∷ 47 ∷ []) once.0 ∙ sym are), rest)

pub one_space : (bytes after front back : List ℕ) → IsSpace bytes after → IsSpace front back → bytes ++ after ≡ front ++ back → (bytes ≡ front) × (after ≡ back)
one_space bytes after front back (a_byte b h is) (a_byte c g are) e = split_same bytes front after back (ap length is ∙ sym (ap length are)) e
one_space bytes after front back (a_byte b h is) (a_line other are g stops) e = absurd (byte_or_comment b bytes after front back h is e (subst (λ bs. BeginsComment (bs ++ back)) (sym are) (refl, inl refl)))
one_space bytes after front back (a_byte b h is) (a_block other are second) e = absurd (byte_or_comment b bytes after front back h is e (subst (λ bs. BeginsComment (bs ++ back)) (sym are) (refl, inr refl)))
one_space bytes after front back (a_line body is h ends) (a_byte c g are) e = absurd (byte_or_comment c front back bytes after g are (sym e) (subst (λ bs. BeginsComment (bs ++ after)) (sym is) (refl, inl refl)))
one_space bytes after front back (a_line body is h ends) (a_line other are g stops) e = two_lines body other bytes after front back is are h g ends stops e
one_space bytes after front back (a_line body is h ends) (a_block other are second) e = absurd (line_or_block body (other ++ 42 ∷ 47 ∷ []) bytes after front back is are e)
one_space bytes after front back (a_block body is first) (a_byte c g are) e = absurd (byte_or_comment c front back bytes after g are (sym e) (subst (λ bs. BeginsComment (bs ++ after)) (sym is) (refl, inr refl)))
one_space bytes after front back (a_block body is first) (a_line other are g stops) e = absurd (line_or_block other (body ++ 42 ∷ 47 ∷ []) front back bytes after are is (sym e))
one_space bytes after front back (a_block body is first) (a_block other are second) e = two_blocks body other bytes after front back is are first second e

-- at most one piece stands at a place
pub one_piece : (before : List ℕ) (p q : Piece) (after back : List ℕ) → MayStand before p after → MayStand before q back → bytes_of p ++ after ≡ bytes_of q ++ back → (p ≡ q) × (after ≡ back)
one_piece before order_mark order_mark after back h g e = (refl, (split_same (bytes_of order_mark) (bytes_of order_mark) after back refl e).1)
one_piece before order_mark (a_space front) after back h g e = absurd (mark_or_space after front back g e)
one_piece before order_mark (a_token k front) after back h g e = absurd (mark_or_token k after front back g e)
one_piece before (a_space bytes) order_mark after back h g e = absurd (mark_or_space back bytes after h (sym e))
one_piece before (a_space bytes) (a_space front) after back h g e = let once = one_space bytes after front back h g e in (ap a_space once.0, once.1)
one_piece before (a_space bytes) (a_token k front) after back h g e = absurd (space_or_token k bytes after front back h g e)
one_piece before (a_token j bytes) order_mark after back h g e = absurd (mark_or_token j back bytes after h (sym e))
one_piece before (a_token j bytes) (a_space front) after back h g e = absurd (space_or_token j front back bytes after g h (sym e))
one_piece before (a_token j bytes) (a_token k front) after back h g e =
    let once = one_token j k bytes after front back h g e in
    (λ i. a_token (once.0 i) (once.1 i), once.2)

-- a piece has a byte
pub piece_some : (before : List ℕ) (p : Piece) (after : List ℕ) → MayStand before p after → 0 < length (bytes_of p)
piece_some before order_mark after h = omega arith
piece_some before (a_space bytes) after (a_byte b space is) = omega (arith, ap length is)
piece_some before (a_space bytes) after (a_line body is line ends) = omega (arith, ap length is)
piece_some before (a_space bytes) after (a_block body is first) = omega (arith, ap length is)
piece_some before (a_token kind []) after h = absurd (form_some kind after h.form)
piece_some before (a_token kind (b ∷ bs)) after h = omega arith
