-- The laws of tokens.
use Rattle.std.proofs.Common.{◌≡◌, ◌∙◌, refl, sym, ap, subst, ℕ, ◌≤◌, ⊎_elim, List, [], ◌∷◌, ◌++◌, length, arith, append-nil, length-append}
use Rattle.std.proofs.lemmas.List.{append_cancel_right}
use Rattle.hl_lexer.specs.declared.fault.LexFault.{LexFault}
use Rattle.hl_lexer.specs.Laws.{AtMostOneFault, AtMostOneTokenList, FaultHasNoTokenList}
use Rattle.hl_lexer.specs.Tokens.{FaultAt, IsCut, IsFirstFault, Piece, lexemes, most_tokens}
use Rattle.hl_lexer.proofs.CutFacts.{GoesOn, cut_text, cuts_meet, end_stops, fault_some, fault_stops, joined, length-lexemes-cons, lexemes-append, one_fault_here}

-- what stands behind a whole cut is nothing
same_pieces : (ps qs : List Piece) → (on : GoesOn [] ps qs [] []) → ps ≡ qs
same_pieces ps qs on = nothing_more on.more on.pieces-are on.cut
  where
    nothing_more : (more : List Piece) → ps ≡ qs ++ more → IsCut (joined qs) more [] [] → ps ≡ qs
    nothing_more [] e cut = e ∙ append-nil qs
    nothing_more (m ∷ more) e cut = absurd (end_stops (joined qs) m more [] cut)

pub at_most_one_token_list : AtMostOneTokenList
at_most_one_token_list text tokens others end other_end h g =
    let same : h.pieces ≡ g.pieces = ⊎_elim (λ on. same_pieces h.pieces g.pieces on) (λ on. sym (same_pieces g.pieces h.pieces on)) (cuts_meet [] h.pieces g.pieces text [] [] h.cut g.cut) in
    (h.tokens-are ∙ (ap (lexemes []) same ∙ sym g.tokens-are), h.end-is ∙ sym g.end-is)

-- the bytes before a fault are those of the pieces before it
fault_before : (text : List ℕ) (fault : LexFault) (h : IsFirstFault text fault) → h.before ≡ joined h.pieces
fault_before text fault h = append_cancel_right h.before (joined h.pieces) h.rest (sym h.text-is ∙ cut_text [] h.pieces text h.rest h.cut)

fault_stands : (text : List ℕ) (fault : LexFault) (h : IsFirstFault text fault) → FaultAt (joined h.pieces) (length (lexemes [] h.pieces)) h.rest fault
fault_stands text fault h = subst (λ bs. FaultAt bs (length (lexemes [] h.pieces)) h.rest fault) (fault_before text fault h) h.here

-- no cut within the limit goes on behind a fault
fault_last : (text : List ℕ) (fault : LexFault) (h : IsFirstFault text fault) (more : List Piece) (rest : List ℕ) → IsCut (joined h.pieces) more h.rest rest → length (lexemes [] (h.pieces ++ more)) ≤ most_tokens → more ≡ []
fault_last text fault h [] rest cut within = refl
fault_last text fault h (m ∷ more) rest (after, e, stands, room, cut) within =
    let all = ap length (lexemes-append [] h.pieces (m ∷ more)) in
    let parts = length-append (lexemes [] h.pieces) (lexemes (joined h.pieces) (m ∷ more)) in
    let first = length-lexemes-cons (joined h.pieces) m more in
    absurd (fault_stops (joined h.pieces) (length (lexemes [] h.pieces)) h.rest fault m after (fault_stands text fault h) e stands room (omega arith))

pub fault_has_no_token_list : FaultHasNoTokenList
fault_has_no_token_list text tokens end fault h g within = ⊎_elim fault_further list_further (cuts_meet [] h.pieces g.pieces text h.rest [] h.cut g.cut)
  where
    at_end : h.rest ≡ [] → ⊥
    at_end e = fault_some (joined h.pieces) (length (lexemes [] h.pieces)) fault (subst (λ bs. FaultAt (joined h.pieces) (length (lexemes [] h.pieces)) bs fault) e (fault_stands text fault h))

    nothing_more : (more : List Piece) → IsCut (joined g.pieces) more [] h.rest → ⊥
    nothing_more [] cut = at_end (sym cut)
    nothing_more (m ∷ more) cut = end_stops (joined g.pieces) m more h.rest cut

    fault_further : GoesOn [] h.pieces g.pieces h.rest [] → ⊥
    fault_further on = nothing_more on.more on.cut

    list_further : GoesOn [] g.pieces h.pieces [] h.rest → ⊥
    list_further on =
        let tokens-are : tokens ≡ lexemes [] (h.pieces ++ on.more) = g.tokens-are ∙ ap (lexemes []) on.pieces-are in
        let none : on.more ≡ [] = fault_last text fault h on.more [] on.cut (omega (arith, ap length tokens-are)) in
        at_end (subst (λ more. IsCut (joined h.pieces) more h.rest []) none on.cut)

further : (text : List ℕ) (fault other : LexFault) (h : IsFirstFault text fault) (g : IsFirstFault text other) → GoesOn [] g.pieces h.pieces g.rest h.rest → fault ≡ other
further text fault other h g on =
    let none : on.more ≡ [] = fault_last text fault h on.more g.rest on.cut (omega (arith, g.within, ap (λ ps. length (lexemes [] ps)) on.pieces-are)) in
    let same : g.pieces ≡ h.pieces = on.pieces-are ∙ (ap (λ more. h.pieces ++ more) none ∙ append-nil h.pieces) in
    let rests : h.rest ≡ g.rest = subst (λ more. IsCut (joined h.pieces) more h.rest g.rest) none on.cut in
    let there = fault_stands text other g in
    let here : FaultAt (joined h.pieces) (length (lexemes [] h.pieces)) h.rest other =
    subst (λ bs. FaultAt (joined h.pieces) (length (lexemes [] h.pieces)) bs other) (sym rests)
    (subst (λ ps. FaultAt (joined ps) (length (lexemes [] ps)) g.rest other) same there) in
    one_fault_here (joined h.pieces) (length (lexemes [] h.pieces)) h.rest fault other (fault_stands text fault h) here

pub at_most_one_fault : AtMostOneFault
at_most_one_fault text fault other h g =
    ⊎_elim
    (λ on. sym (further text other fault g h on))
    (λ on. further text fault other h g on)
    (cuts_meet [] h.pieces g.pieces text h.rest g.rest h.cut g.cut)
