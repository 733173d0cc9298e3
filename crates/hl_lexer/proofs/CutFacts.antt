-- Two cuts of one text go alike as far as both go.
use Rattle.std.proofs.Common.{◌≡◌, ◌∙◌, refl, sym, ap, subst, ℕ, ◌+◌, ◌≤◌, ◌⊎◌, inl, inr, ⊎_elim, List, [], ◌∷◌, ◌++◌, length, flat_map, arith, append_assoc, append-nil, length-append}
use Rattle.hl_lexer.specs.declared.fault.LexFault.{LexFault}
use Rattle.hl_lexer.specs.declared.fault.LexFault.TheVariants.{BadByte, NumberTooLarge, TooManyTokens, Memory}
use Rattle.hl_lexer.specs.declared.token.TokenKind.TheVariants.{Number}
use Rattle.hl_lexer.specs.Numbers.{greatest_number}
use Rattle.hl_lexer.specs.Tokens.{BeginsLargeNumber, BeginsNothing, BeginsToken, FaultAt, IsCut, MayStand, Piece, PieceHasRoom, a_space, a_token, bytes_of, lexemes, most_tokens, order_mark, place_after}
use Rattle.hl_lexer.proofs.PieceFacts.{one_piece, piece_some}

-- the bytes of pieces
abbrev pub joined : List Piece → List ℕ
joined pieces = flat_map bytes_of pieces

-- a cut goes over the bytes of its pieces
pub cut_text : (before : List ℕ) (pieces : List Piece) (text rest : List ℕ) → IsCut before pieces text rest → text ≡ joined pieces ++ rest
cut_text before [] text rest h = h
cut_text before (p ∷ ps) text rest (after, e, stands, room, cut) =
    e ∙ (ap (λ bs. bytes_of p ++ bs) (cut_text (before ++ bytes_of p) ps after rest cut) ∙ sym (append_assoc (bytes_of p) (joined ps) rest))

-- another piece behind a cut
pub cut_more : (before : List ℕ) (pieces : List Piece) (text rest after : List ℕ) (p : Piece) → IsCut before pieces text rest → rest ≡ bytes_of p ++ after → MayStand (before ++ joined pieces) p after → PieceHasRoom p → IsCut before (pieces ++ p ∷ []) text after
cut_more before [] text rest after p h e stands room = (after, h ∙ e, subst (λ bs. MayStand bs p after) (append-nil before) stands, room, refl)
cut_more before (q ∷ qs) text rest after p (next, f, stood, had, cut) e stands room =
    (next, f, stood, had, cut_more (before ++ bytes_of q) qs next rest after p cut e (subst (λ bs. MayStand bs p after) (sym (append_assoc before (bytes_of q) (joined qs))) stands) room)

-- the tokens of more pieces
pub lexemes-append : (before : List ℕ) (ps qs : List Piece) → lexemes before (ps ++ qs) ≡ lexemes before ps ++ lexemes (before ++ joined ps) qs
lexemes-append before [] qs = ap (λ bs. lexemes bs qs) (sym (append-nil before))
lexemes-append before (order_mark ∷ ps) qs =
    lexemes-append (before ++ bytes_of order_mark) ps qs ∙ ap (λ bs. lexemes (before ++ bytes_of order_mark) ps ++ lexemes bs qs) (append_assoc before (bytes_of order_mark) (joined ps))
lexemes-append before (a_space bytes ∷ ps) qs =
    lexemes-append (before ++ bytes) ps qs ∙ ap (λ bs. lexemes (before ++ bytes) ps ++ lexemes bs qs) (append_assoc before bytes (joined ps))
lexemes-append before (a_token kind bytes ∷ ps) qs =
    ap (λ ts. record { kind = kind; text = bytes; start = length before; place = place_after before } ∷ ts)
    (lexemes-append (before ++ bytes) ps qs ∙ ap (λ bs. lexemes (before ++ bytes) ps ++ lexemes bs qs) (append_assoc before bytes (joined ps)))

-- one list of pieces goes on behind the other
pub record GoesOn (before : List ℕ) (ps qs : List Piece) (r s : List ℕ) : Type 0 where
  pub more : List Piece
  pub pieces-are : ps ≡ qs ++ more
  pub cut : IsCut (before ++ joined qs) more s r

on_from_none : (before : List ℕ) (ps : List Piece) (text r s : List ℕ) → IsCut before ps text r → text ≡ s → GoesOn before ps [] r s
on_from_none before ps text r s h e = record {
  more = ps;
  pieces-are = refl;
  cut = subst (λ bs. IsCut bs ps s r) (sym (append-nil before)) (subst (λ bs. IsCut before ps bs r) e h);
}

on_from_more : (before : List ℕ) (p : Piece) (ps qs : List Piece) (r s : List ℕ) → GoesOn (before ++ bytes_of p) ps qs r s → GoesOn before (p ∷ ps) (p ∷ qs) r s
on_from_more before p ps qs r s g = record {
  more = g.more;
  pieces-are = ap (λ xs. p ∷ xs) g.pieces-are;
  cut = subst (λ bs. IsCut bs g.more s r) (append_assoc before (bytes_of p) (joined qs)) g.cut;
}

pub cuts_meet : (before : List ℕ) (ps qs : List Piece) (text r s : List ℕ) → IsCut before ps text r → IsCut before qs text s → GoesOn before ps qs r s ⊎ GoesOn before qs ps s r
cuts_meet before [] qs text r s h g = inr (on_from_none before qs text s r g h)
cuts_meet before (p ∷ ps) [] text r s h g = inl (on_from_none before (p ∷ ps) text r s h g)
cuts_meet before (p ∷ ps) (q ∷ qs) text r s (after, e, stands, room, cut) (back, f, stood, had, other) =
    let once = one_piece before p q after back stands stood (sym e ∙ f) in
    let same : IsCut (before ++ bytes_of p) qs after s = subst (λ x. IsCut (before ++ bytes_of x) qs after s) (sym once.0) (subst (λ bs. IsCut (before ++ bytes_of q) qs bs s) (sym once.1) other) in
    let heads = λ (X : List Piece → Type 0) (x : X (p ∷ qs)). subst (λ y. X (y ∷ qs)) once.0 x in
    ⊎_elim
    (λ on. inl (heads (λ ys. GoesOn before (p ∷ ps) ys r s) (on_from_more before p ps qs r s on)))
    (λ on. inr (heads (λ ys. GoesOn before ys (p ∷ ps) s r) (on_from_more before p qs ps s r on)))
    (cuts_meet (before ++ bytes_of p) ps qs after r s cut same)

-- nothing goes on at the end of a text
pub end_stops : (before : List ℕ) (p : Piece) (ps : List Piece) (rest : List ℕ) → IsCut before (p ∷ ps) [] rest → ⊥
end_stops before p ps rest (after, e, stands, room, cut) =
    let some = piece_some before p after stands in
    omega (arith, ap length e, length-append (bytes_of p) after)

-- how many tokens a piece is
abbrev pub token_count : Piece → ℕ
token_count order_mark = 0
token_count (a_space bytes) = 0
token_count (a_token kind bytes) = 1

pub length-lexemes-cons : (before : List ℕ) (p : Piece) (ps : List Piece) → length (lexemes before (p ∷ ps)) ≡ token_count p + length (lexemes (before ++ bytes_of p) ps)
length-lexemes-cons before order_mark ps = omega arith
length-lexemes-cons before (a_space bytes) ps = omega arith
length-lexemes-cons before (a_token kind bytes) ps = omega arith

is_token_piece : (before : List ℕ) (p : Piece) (after rest : List ℕ) → rest ≡ bytes_of p ++ after → MayStand before p after → BeginsToken rest → token_count p ≡ 1
is_token_piece before p after rest e stands h =
    let once = one_piece before p (a_token h.kind h.bytes) after h.after stands h.token (sym e ∙ h.rest-is) in
    ap token_count once.0

-- at a fault no piece goes on within the limits
pub fault_stops : (before : List ℕ) (count : ℕ) (rest : List ℕ) (fault : LexFault) (p : Piece) (after : List ℕ) → FaultAt before count rest fault → rest ≡ bytes_of p ++ after → MayStand before p after → PieceHasRoom p → count + token_count p ≤ most_tokens → ⊥
fault_stops before count rest (BadByte place) p after h e stands room within = h.2 p after e stands
fault_stops before count rest (NumberTooLarge place) p after (place-is, few, h) e stands room within =
    let once = one_piece before p (a_token (Number h.value h.unsigned) h.bytes) after h.after stands h.token (sym e ∙ h.rest-is) in
    let small : h.value ≤ greatest_number = subst PieceHasRoom once.0 room in
    omega (arith, h.large)
fault_stops before count rest TooManyTokens p after h e stands room within =
    let one = is_token_piece before p after rest e stands h.1 in
    omega (arith, h.0)
fault_stops before count rest Memory p after h e stands room within = h

-- a fault doesn't stand at the end of a text
pub fault_some : (before : List ℕ) (count : ℕ) (fault : LexFault) → FaultAt before count [] fault → ⊥
fault_some before count (BadByte place) h = omega (arith, h.1)
fault_some before count (NumberTooLarge place) (place-is, few, h) =
    let some = piece_some before (a_token (Number h.value h.unsigned) h.bytes) h.after h.token in
    omega (arith, ap length h.rest-is, length-append h.bytes h.after)
fault_some before count TooManyTokens (many, h) =
    let some = piece_some before (a_token h.kind h.bytes) h.after h.token in
    omega (arith, ap length h.rest-is, length-append h.bytes h.after)
fault_some before count Memory h = h

nothing_or_large : (before rest : List ℕ) → BeginsNothing before rest → BeginsLargeNumber rest → ⊥
nothing_or_large before rest h g = h (a_token (Number g.value g.unsigned) g.bytes) g.after g.rest-is g.token

nothing_or_token : (before rest : List ℕ) → BeginsNothing before rest → BeginsToken rest → ⊥
nothing_or_token before rest h g = h (a_token g.kind g.bytes) g.after g.rest-is g.token

-- at most one fault stands at a place
pub one_fault_here : (before : List ℕ) (count : ℕ) (rest : List ℕ) (f g : LexFault) → FaultAt before count rest f → FaultAt before count rest g → f ≡ g
one_fault_here before count rest (BadByte p) (BadByte q) h k = ap BadByte (h.0 ∙ sym k.0)
one_fault_here before count rest (BadByte p) (NumberTooLarge q) h k = absurd (nothing_or_large before rest h.2 k.2)
one_fault_here before count rest (BadByte p) TooManyTokens h k = absurd (nothing_or_token before rest h.2 k.1)
one_fault_here before count rest (BadByte p) Memory h k = absurd k
one_fault_here before count rest (NumberTooLarge p) (BadByte q) h k = absurd (nothing_or_large before rest k.2 h.2)
one_fault_here before count rest (NumberTooLarge p) (NumberTooLarge q) h k = ap NumberTooLarge (h.0 ∙ sym k.0)
one_fault_here before count rest (NumberTooLarge p) TooManyTokens h k = absurd (omega (arith, h.1, k.0))
one_fault_here before count rest (NumberTooLarge p) Memory h k = absurd k
one_fault_here before count rest TooManyTokens (BadByte q) h k = absurd (nothing_or_token before rest k.2 h.1)
one_fault_here before count rest TooManyTokens (NumberTooLarge q) h k = absurd (omega (arith, k.1, h.0))
one_fault_here before count rest TooManyTokens TooManyTokens h k = refl
one_fault_here before count rest TooManyTokens Memory h k = absurd k
one_fault_here before count rest Memory g h k = absurd h
