-- How far a reader has read, piece by piece.
use Rattle.std.proofs.Common.{◌≡◌, ◌≢◌, ◌∙◌, refl, sym, ap, subst, ℕ, ◌+◌, ◌^◌, ◌<◌, ◌≤◌, inl, inr, List, [], ◌∷◌, ◌++◌, length, map, take, drop, arith, append-nil, length-append, length-drop, length-take-le, take-append-drop}
use Rattle.std.proofs.Math.Seq.{take-add}
use Rattle.std.proofs.lemmas.List.{append_cancel_right, drop-drop, drop_all, length-map, map_push, take_all}
use Rattle.hl_lexer.specs.declared.fault.LexFault.{LexFault}
use Rattle.hl_lexer.specs.declared.fault.LexFault.TheVariants.{BadByte, NumberTooLarge, TooManyTokens}
use Rattle.hl_lexer.specs.declared.reader.Reader.{Reader}
use Rattle.hl_lexer.specs.declared.token.Token.{Token}
use Rattle.hl_lexer.specs.declared.token.TokenKind.{TokenKind}
use Rattle.hl_lexer.specs.declared.token.TokenKind.TheVariants.{Number}
use Rattle.hl_lexer.specs.Reading.{HasRead, OrderMarkIs, place_past}
use Rattle.hl_lexer.specs.Scanning.{BeginsNoSpace, BeginsNoToken, HasSpace, HasToken}
use Rattle.hl_lexer.specs.Tokens.{BeginsLargeNumber, BeginsNothing, IsCut, IsFirstFault, IsTokenList, MayStand, Piece, PieceHasRoom, FaultAt, a_space, a_token, bytes_of, lexeme_of, lexemes, most_tokens, order_mark, place_after}
use Rattle.hl_lexer.proofs.CutFacts.{cut_more, cut_text, joined, lexemes-append}
use Rattle.hl_lexer.proofs.FormFacts.{form_line}
use Rattle.hl_lexer.proofs.PlaceFacts.{place_along, place_more}

-- what is read and what isn't

abbrev pub read_of : Reader → List ℕ
read_of reader = take reader.start reader.text.now

abbrev pub rest_of : Reader → List ℕ
rest_of reader = drop reader.start reader.text.now

-- the bytes that are read are those of the pieces
pieces_read : (reader : Reader) (h : HasRead reader) → joined h.pieces ≡ read_of reader
pieces_read reader h =
    append_cancel_right (joined h.pieces) (read_of reader) (rest_of reader)
    (sym (cut_text [] h.pieces reader.text.now (rest_of reader) h.cut) ∙ sym (take-append-drop reader.start reader.text.now))

count_read : (reader : Reader) (h : HasRead reader) → length (lexemes [] h.pieces) ≡ length reader.tokens
count_read reader h = sym (ap length h.tokens-are) ∙ length-map reader.tokens lexeme_of

length_read : (reader : Reader) → HasRead reader → length (read_of reader) ≡ reader.start
length_read reader h = length-take-le reader.start reader.text.now h.within

-- one more piece, of n bytes

-- a reader that went over n bytes more of the same text
pub record WentOver (old new : Reader) (n : ℕ) : Type 0 where
  pub some : 0 < n
  pub within : n ≤ length (rest_of old)
  pub text : new.text.now ≡ old.text.now
  pub start : new.start ≡ old.start + n
  pub place : new.place ≡ place_past old.place (take n (rest_of old))

over_within : (old new : Reader) (n : ℕ) → HasRead old → WentOver old new n → new.start ≤ length new.text.now
over_within old new n h w = omega (arith, ap length w.text, length-drop old.start old.text.now, w.within, w.start, h.within)

over_rest : (old new : Reader) (n : ℕ) → WentOver old new n → rest_of new ≡ drop n (rest_of old)
over_rest old new n w =
    ap (drop new.start) w.text ∙ (ap (λ s. drop s old.text.now) w.start ∙ sym (drop-drop n old.start old.text.now))

over_place : (old new : Reader) (n : ℕ) → HasRead old → WentOver old new n → new.place ≡ place_after (read_of new)
over_place old new n h w =
    let taken : read_of new ≡ read_of old ++ take n (rest_of old) = ap (take new.start) w.text ∙ (ap (λ s. take s old.text.now) w.start ∙ take-add old.start n old.text.now) in
    w.place ∙ (ap (λ p. place_past p (take n (rest_of old))) h.place-is ∙ (sym (place_more (read_of old) (take n (rest_of old))) ∙ ap place_after (sym taken)))

over_cut : (old new : Reader) (n : ℕ) (p : Piece) (h : HasRead old) → WentOver old new n → bytes_of p ≡ take n (rest_of old) → MayStand (joined h.pieces) p (drop n (rest_of old)) → PieceHasRoom p → IsCut [] (h.pieces ++ p ∷ []) new.text.now (rest_of new)
over_cut old new n p h w bytes stands room =
    let text : rest_of old ≡ bytes_of p ++ drop n (rest_of old) = sym (take-append-drop n (rest_of old)) ∙ ap (λ bs. bs ++ drop n (rest_of old)) (sym bytes) in
    let cut = cut_more [] h.pieces old.text.now (rest_of old) (drop n (rest_of old)) p h.cut text stands room in
    subst (λ bs. IsCut [] (h.pieces ++ p ∷ []) bs (rest_of new)) (sym w.text)
    (subst (IsCut [] (h.pieces ++ p ∷ []) old.text.now) (sym (over_rest old new n w)) cut)

-- after a space

pub read_space : (old new : Reader) (n : ℕ) → HasRead old → HasSpace (rest_of old) n → WentOver old new n → new.tokens ≡ old.tokens → HasRead new
read_space old new n h space w tokens = record {
  short = subst (λ (bs : List ℕ). length bs < 2 ^ 31) (sym w.text) h.short;
  within = over_within old new n h w;
  pieces = h.pieces ++ a_space (take n (rest_of old)) ∷ [];
  cut = over_cut old new n (a_space (take n (rest_of old))) h w refl space.space tt;
  place-is = over_place old new n h w;
  tokens-are = ap (map lexeme_of) tokens ∙ (h.tokens-are ∙ (sym (append-nil (lexemes [] h.pieces)) ∙ sym (lexemes-append [] h.pieces (a_space (take n (rest_of old)) ∷ []))));
  limit = omega (arith, h.limit, ap length tokens);
  no_order_mark = λ e after f. omega (arith, w.some, w.start);
}

-- after a token

pub read_token : (old new : Reader) (kind : TokenKind) (n : ℕ) (token : Token) → HasRead old → HasToken (rest_of old) kind n → WentOver old new n →
    length old.tokens < most_tokens → new.tokens ≡ old.tokens ++ token ∷ [] → lexeme_of token ≡ record { kind = kind; text = take n (rest_of old); start = old.start; place = old.place } → HasRead new
read_token old new kind n token h found w few tokens lexeme =
    let read = pieces_read old h in
    let lexeme-is : lexeme_of token ≡ record { kind = kind; text = take n (rest_of old); start = length (joined h.pieces); place = place_after (joined h.pieces) } =
    lexeme ∙ (λ i. record { kind = kind; text = take n (rest_of old); start = (sym (length_read old h) ∙ ap length (sym read)) i; place = (h.place-is ∙ ap place_after (sym read)) i }) in
    record {
      short = subst (λ (bs : List ℕ). length bs < 2 ^ 31) (sym w.text) h.short;
      within = over_within old new n h w;
      pieces = h.pieces ++ a_token kind (take n (rest_of old)) ∷ [];
      cut = over_cut old new n (a_token kind (take n (rest_of old))) h w refl found.token found.room;
      place-is = over_place old new n h w;
      tokens-are =
          ap (map lexeme_of) tokens
          ∙ (map_push lexeme_of old.tokens token
          ∙ (ap (λ ts. ts ++ lexeme_of token ∷ []) h.tokens-are
          ∙ (ap (λ t. lexemes [] h.pieces ++ t ∷ []) lexeme-is
          ∙ sym (lexemes-append [] h.pieces (a_token kind (take n (rest_of old)) ∷ [])))));
      limit = omega (arith, ap length tokens, length-append old.tokens (token ∷ []));
      no_order_mark = λ e after f. omega (arith, w.some, w.start);
    }

-- faults

fault_here : (reader : Reader) (fault : LexFault) (h : HasRead reader) → FaultAt (read_of reader) (length reader.tokens) (rest_of reader) fault → IsFirstFault reader.text.now fault
fault_here reader fault h here = record {
  pieces = h.pieces;
  before = read_of reader;
  rest = rest_of reader;
  text-is = sym (take-append-drop reader.start reader.text.now);
  cut = h.cut;
  within = omega (arith, count_read reader h, h.limit);
  here = subst (λ n. FaultAt (read_of reader) n (rest_of reader) fault) (sym (count_read reader h)) here;
}

nothing_begins : (reader : Reader) → HasRead reader → BeginsNoSpace (rest_of reader) → BeginsNoToken (rest_of reader) → BeginsNothing (read_of reader) (rest_of reader)
nothing_begins reader h no_space no_token order_mark after e stands =
    let none : reader.start ≡ 0 = omega (arith, length_read reader h, ap length stands) in
    h.no_order_mark none after (ap (λ s. drop s reader.text.now) (sym none) ∙ e)
nothing_begins reader h no_space no_token (a_space bytes) after e stands = no_space bytes after e stands
nothing_begins reader h no_space no_token (a_token kind bytes) after e stands = no_token kind bytes after e stands

pub bad_byte : (reader : Reader) → HasRead reader → reader.start < length reader.text.now → BeginsNoSpace (rest_of reader) → BeginsNoToken (rest_of reader) → IsFirstFault reader.text.now (BadByte reader.place)
bad_byte reader h more no_space no_token =
    fault_here reader (BadByte reader.place) h
    (h.place-is, omega (arith, length-drop reader.start reader.text.now), nothing_begins reader h no_space no_token)

pub one_too_many : (reader : Reader) (kind : TokenKind) (n : ℕ) → HasRead reader → HasToken (rest_of reader) kind n → length reader.tokens ≡ most_tokens → IsFirstFault reader.text.now TooManyTokens
one_too_many reader kind n h found full =
    fault_here reader TooManyTokens h
    (full, record { kind = kind; bytes = take n (rest_of reader); after = drop n (rest_of reader); rest-is = sym (take-append-drop n (rest_of reader)); token = found.token })

pub large_too_many : (reader : Reader) → HasRead reader → BeginsLargeNumber (rest_of reader) → length reader.tokens ≡ most_tokens → IsFirstFault reader.text.now TooManyTokens
large_too_many reader h large full =
    fault_here reader TooManyTokens h
    (full, record { kind = Number large.value large.unsigned; bytes = large.bytes; after = large.after; rest-is = large.rest-is; token = large.token })

pub too_large : (reader : Reader) → HasRead reader → BeginsLargeNumber (rest_of reader) → length reader.tokens ≢ most_tokens → IsFirstFault reader.text.now (NumberTooLarge reader.place)
too_large reader h large full =
    fault_here reader (NumberTooLarge reader.place) h (h.place-is, omega (arith, h.limit), large)

-- the start and the end

pub reads_start : (reader : Reader) → OrderMarkIs reader.text.now reader.start → length reader.text.now < 2 ^ 31 → reader.place ≡ record { line = 1; column = 1 + reader.start } → reader.tokens ≡ [] → HasRead reader
reads_start reader (inl (three, mark)) short place none =
    let read : read_of reader ≡ bytes_of order_mark = ap (λ n. take n reader.text.now) three ∙ ap (take 3) mark in
    let rest : rest_of reader ≡ drop 3 reader.text.now = ap (λ n. drop n reader.text.now) three in
    record {
      short = short;
      within = omega (arith, ap length mark);
      pieces = order_mark ∷ [];
      cut = (drop 3 reader.text.now, mark, refl, tt, sym rest);
      place-is = place ∙ (ap (λ n. record { line = 1; column = 1 + n }) three ∙ sym (ap place_after read));
      tokens-are = ap (map lexeme_of) none;
      limit = omega (arith, ap length none);
      no_order_mark = λ e. absurd (omega arith);
    }
reads_start reader (inr (zero-is, no_mark)) short place none = record {
  short = short;
  within = omega arith;
  pieces = [];
  cut = sym (ap (λ n. drop n reader.text.now) zero-is);
  place-is = place ∙ (ap (λ n. record { line = 1; column = 1 + n }) zero-is ∙ sym (ap (λ n. place_after (take n reader.text.now)) zero-is));
  tokens-are = ap (map lexeme_of) none;
  limit = omega (arith, ap length none);
  no_order_mark = λ e after f. no_mark after f;
}

pub reads_end : (reader : Reader) → HasRead reader → length reader.text.now ≤ reader.start → IsTokenList reader.text.now (map lexeme_of reader.tokens) reader.place
reads_end reader h end = record {
  pieces = h.pieces;
  cut = subst (IsCut [] h.pieces reader.text.now) (drop_all reader.start reader.text.now end) h.cut;
  tokens-are = h.tokens-are;
  end-is = h.place-is ∙ ap place_after (take_all reader.start reader.text.now end);
}

-- the place behind a token
pub token_place : (reader : Reader) (kind : TokenKind) (n : ℕ) → HasToken (rest_of reader) kind n → record { line = reader.place.line; column = reader.place.column + n } ≡ place_past reader.place (take n (rest_of reader))
token_place reader kind n found =
    ap (λ m. record { line = reader.place.line; column = reader.place.column + m }) (sym (length-take-le n (rest_of reader) found.within))
    ∙ sym (place_along reader.place (take n (rest_of reader)) (form_line kind (take n (rest_of reader)) (drop n (rest_of reader)) found.token.form))
