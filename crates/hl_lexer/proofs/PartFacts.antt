-- The bytes of tokens stand in the text.
use Rattle.std.proofs.Common.{◌≡◌, ◌∙◌, refl, sym, ap, subst, ℕ, ◌+◌, ◌-◌, List, [], ◌∷◌, ◌++◌, Result, Ok, Err, IfOk, All, length, take, drop, arith, append_assoc}
use Rattle.std.proofs.lemmas.List.{drop_at, take_at}
use Rattle.std.proofs.lemmas.List.Elements.{All-cons, All-nil}
use Rattle.base_core.specs.declared.place.Place.{Place}
use Rattle.hl_lexer.specs.declared.fault.LexFault.{LexFault}
use Rattle.hl_lexer.specs.declared.token.Tokens.{Tokens}
use Rattle.hl_lexer.specs.Tokens.{IsCut, IsPartOf, IsTokenList, Lexeme, Piece, a_space, a_token, bytes_of, lexemes, lexemes_of, order_mark, place_after}

part : (before bytes after : List ℕ) → take (length before + length bytes - length before) (drop (length before) (before ++ (bytes ++ after))) ≡ bytes
part before bytes after =
    let count : length before + length bytes - length before ≡ length bytes = omega arith in
    ap (λ n. take n (drop (length before) (before ++ (bytes ++ after)))) count
    ∙ (ap (take (length bytes)) (drop_at before (bytes ++ after) (length before) refl)
    ∙ take_at bytes after (length bytes) refl)

further : (whole before bytes after text : List ℕ) → whole ≡ before ++ text → text ≡ bytes ++ after → whole ≡ (before ++ bytes) ++ after
further whole before bytes after text e f = e ∙ (ap (λ bs. before ++ bs) f ∙ sym (append_assoc before bytes after))

parts_of_cut : (whole before : List ℕ) (pieces : List Piece) (text rest : List ℕ) → whole ≡ before ++ text → IsCut before pieces text rest → All (IsPartOf whole) (lexemes before pieces)
parts_of_cut whole before [] text rest e cut = All-nil (IsPartOf whole)
parts_of_cut whole before (order_mark ∷ pieces) text rest e (after, f, stands, room, cut) =
    parts_of_cut whole (before ++ bytes_of order_mark) pieces after rest (further whole before (bytes_of order_mark) after text e f) cut
parts_of_cut whole before (a_space bytes ∷ pieces) text rest e (after, f, stands, room, cut) =
    parts_of_cut whole (before ++ bytes) pieces after rest (further whole before bytes after text e f) cut
parts_of_cut whole before (a_token kind bytes ∷ pieces) text rest e (after, f, stands, room, cut) =
    All-cons (IsPartOf whole) (record { kind = kind; text = bytes; start = length before; place = place_after before }) (lexemes (before ++ bytes) pieces)
    (ap (λ t. take (length before + length bytes - length before) (drop (length before) t)) (e ∙ ap (λ bs. before ++ bs) f) ∙ part before bytes after)
    (parts_of_cut whole (before ++ bytes) pieces after rest (further whole before bytes after text e f) cut)

parts : (text : List ℕ) (tokens : List Lexeme) (end : Place) → IsTokenList text tokens end → All (IsPartOf text) tokens
parts text tokens end h = subst (All (IsPartOf text)) (sym h.tokens-are) (parts_of_cut text [] h.pieces text [] refl h.cut)

pub parts_of_answer : (text : List ℕ) (answer : Result Tokens LexFault) → IfOk answer (λ found. IsTokenList text (lexemes_of found) found.end) → IfOk answer (λ found. All (IsPartOf text) (lexemes_of found))
parts_of_answer text (Ok found) h = parts text (lexemes_of found) found.end h
parts_of_answer text (Err fault) h = tt
