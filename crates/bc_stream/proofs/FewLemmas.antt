-- Records of few values.
use Rattle.std.proofs.Common.{ℕ, ◌+◌, ◌*◌, ◌^◌, ◌<◌, ◌≤◌, List, [], length, refl, sym, subst, arith}
use Rattle.std.proofs.lemmas.List.Elements.{All-nil}
use Rattle.bc_stream.specs.declared.few.Head.{Head}
use Rattle.bc_stream.specs.declared.piece.Scope.{Scope}
use Rattle.bc_stream.specs.Bits.{Vbr}
use Rattle.bc_stream.specs.Reading.{place_in, ListAt}
use Rattle.bc_stream.specs.Pieces.{EntryAt, HeadOfFew}
use Rattle.bc_stream.proofs.PieceLemmas.{entry_of}

-- no values
pub list_none : (bytes : List ℕ) (at : ℕ) → at ≤ 8 * length bytes → ListAt bytes 0 at [] at
list_none bytes at within = record { count-is = refl; reads = refl; fit = All-nil (λ value. value < 2 ^ 64); forward = omega arith; within = within }

-- the head of a record, and then its values
pub entry_of_few : (bytes : List ℕ) (scope : Scope) (at to : ℕ) (values : List ℕ) (head : Head) → HeadOfFew bytes scope.width at head → ListAt bytes head.count head.to values to → 0 < scope.levels →
    EntryAt bytes scope at head.code values to
entry_of_few bytes scope at to values head h l inside =
    let code : Vbr 6 head.code (place_in bytes (at + scope.width)) (place_in bytes h.behind) =
    subst (λ n. Vbr 6 n (place_in bytes (at + scope.width)) (place_in bytes h.behind)) (sym h.code.holds.0) h.code.reads in
    let count : Vbr 6 (length values) (place_in bytes h.behind) (place_in bytes head.to) =
    subst (λ n. Vbr 6 n (place_in bytes h.behind) (place_in bytes head.to)) (omega (arith, h.count.holds.0, l.count-is)) h.count.reads in
    entry_of bytes scope at (at + scope.width) to head.code values refl h.id
    (record { middle = place_in bytes h.behind; one = code; two = record { middle = place_in bytes head.to; one = count; two = l.reads } })
    h.small l.fit (omega arith) (omega (arith, h.code.forward, h.count.forward, l.forward)) l.within
