-- Pieces, read whole and then judged.
use Rattle.std.proofs.Common.{◌≡◌, ℕ, ◌+◌, ◌*◌, ◌^◌, ◌<◌, ◌≤◌, ◌≢◌, List, [], length, Some, None, refl, sym, ap, ◌∙◌, subst, inl, inr, arith}
use Rattle.std.specs.List.{All}
use Rattle.std.proofs.lemmas.List.{nil_from_length}
use Rattle.bc_stream.specs.declared.fault.StreamFault.{StreamFault}
use Rattle.bc_stream.specs.declared.fault.StreamFault.TheVariants.{Bad}
use Rattle.bc_stream.specs.declared.piece.HeadRead.{HeadRead}
use Rattle.bc_stream.specs.declared.piece.Scope.{Scope}
use Rattle.bc_stream.specs.declared.reader.Number.{Number}
use Rattle.bc_stream.specs.declared.record.RecordRead.{RecordRead}
use Rattle.bc_stream.specs.Bits.{Place, ◌then◌, Fixed, Aligned, Chunked, Vbr}
use Rattle.bc_stream.specs.Spelling.{Raw, raw_leave, raw_enter, raw_define, raw_record, raw_undefined, id_of, layout, reads, Frame, width_in, Has}
use Rattle.bc_stream.specs.Reading.{place_in, NoNumber, FixedAt, AlignedAt, HoldAll, NumberAt, RecordAt, NoRecord}
use Rattle.bc_stream.specs.Pieces.{IsBelow, HeadAt, NoHead, Knows, GoodAt, HasFault, FaultAt, EntryAt}
use Rattle.bc_stream.proofs.StepLemmas.{fixed_once, aligned_once, vbr_once}

pub fault_at : (bytes : List ℕ) (scope : Scope) (at kind : ℕ) (fault : StreamFault) → fault ≡ Bad kind at → HasFault bytes scope at kind → FaultAt bytes scope at fault
fault_at bytes scope at kind fault is h = subst (FaultAt bytes scope at) (sym is) (refl, h)

-- ---- no piece is read

cut_short : (bytes : List ℕ) (scope : Scope) (at : ℕ) → ((raw : Raw) (to : Place) → reads scope.width raw (place_in bytes at) to → ⊥) → HasFault bytes scope at 2
cut_short bytes scope at none frames knows =
    inl (refl, λ raw to p. none raw to (subst (λ w. reads w raw (place_in bytes at) to) knows.width-is p))

-- where the id is read, but no piece with it
cut_behind : (bytes : List ℕ) (scope : Scope) (at behind id : ℕ) → behind ≡ at + scope.width → FixedAt bytes scope.width at id →
    ((raw : Raw) (to : Place) → id ≡ id_of raw → layout raw (place_in bytes behind) to → ⊥) → HasFault bytes scope at 2
cut_behind bytes scope at behind id is read none = cut_short bytes scope at (λ raw to p.
    let same = fixed_once scope.width id (id_of raw) (place_in bytes at) (place_in bytes (at + scope.width)) p.middle read.reads p.one in
    let here : place_in bytes behind ≡ p.middle = ap (place_in bytes) is ∙ same.1 in
    none raw to same.0 (subst (λ m. layout raw m to) (sym here) p.two))

no_end : (raw : Raw) (from to : Place) → ((t : Place) → Aligned from t → ⊥) → 0 ≡ id_of raw → layout raw from to → ⊥
no_end raw_leave from to none is p = none to p
no_end (raw_enter id width words) from to none is p = omega (arith, is)
no_end raw_define from to none is p = omega (arith, is)
no_end (raw_record code values) from to none is p = omega (arith, is)
no_end (raw_undefined id) from to none is p = omega (arith, is, p.0)

pub cut_leave : (bytes : List ℕ) (scope : Scope) (at behind : ℕ) → behind ≡ at + scope.width → FixedAt bytes scope.width at 0 →
    ((to : Place) → Aligned (place_in bytes behind) to → ⊥) → HasFault bytes scope at 2
cut_leave bytes scope at behind is read none =
    cut_behind bytes scope at behind 0 is read (λ raw to id p. no_end raw (place_in bytes behind) to none id p)

no_head : (raw : Raw) (from to : Place) → ((id width words : ℕ) (t : Place) → layout (raw_enter id width words) from t → ⊥) → 1 ≡ id_of raw → layout raw from to → ⊥
no_head raw_leave from to none is p = omega (arith, is)
no_head (raw_enter id width words) from to none is p = none id width words to p
no_head raw_define from to none is p = omega (arith, is)
no_head (raw_record code values) from to none is p = omega (arith, is)
no_head (raw_undefined id) from to none is p = omega (arith, is, p.0)

pub cut_enter : (bytes : List ℕ) (scope : Scope) (at behind : ℕ) → behind ≡ at + scope.width → FixedAt bytes scope.width at 1 → NoHead bytes behind → HasFault bytes scope at 2
cut_enter bytes scope at behind is read none =
    cut_behind bytes scope at behind 1 is read (λ raw to id p. no_head raw (place_in bytes behind) to none id p)

no_entry : (raw : Raw) (from to : Place) → ((code : ℕ) (values : List ℕ) (t : Place) → layout (raw_record code values) from t → ⊥) → 3 ≡ id_of raw → layout raw from to → ⊥
no_entry raw_leave from to none is p = omega (arith, is)
no_entry (raw_enter id width words) from to none is p = omega (arith, is)
no_entry raw_define from to none is p = omega (arith, is)
no_entry (raw_record code values) from to none is p = none code values to p
no_entry (raw_undefined id) from to none is p = omega (arith, is, p.0)

pub cut_record : (bytes : List ℕ) (scope : Scope) (at behind : ℕ) → behind ≡ at + scope.width → FixedAt bytes scope.width at 3 → NoRecord bytes behind → HasFault bytes scope at 2
cut_record bytes scope at behind is read none =
    cut_behind bytes scope at behind 3 is read (λ raw to id p. no_entry raw (place_in bytes behind) to none id p)

-- ---- a piece is read

is_read : (bytes : List ℕ) (scope : Scope) (at behind to : ℕ) (raw : Raw) (frames : List Frame) → Knows scope frames → behind ≡ at + scope.width → FixedAt bytes scope.width at (id_of raw) →
    layout raw (place_in bytes behind) (place_in bytes to) → reads (width_in frames) raw (place_in bytes at) (place_in bytes to)
is_read bytes scope at behind to raw frames knows is read p =
    subst (λ w. reads w raw (place_in bytes at) (place_in bytes to)) (sym knows.width-is) (record {
      middle = place_in bytes (at + scope.width);
      one = read.reads;
      two = subst (λ n. layout raw (place_in bytes n) (place_in bytes to)) is p;
    })

-- nothing is against it
good_at : (bytes : List ℕ) (scope : Scope) (at behind to : ℕ) (raw : Raw) → behind ≡ at + scope.width → FixedAt bytes scope.width at (id_of raw) → layout raw (place_in bytes behind) (place_in bytes to) →
    ((frames : List Frame) → Knows scope frames → (kind : ℕ) → Has frames (place_in bytes to) raw kind → ⊥) → GoodAt bytes scope at raw to
good_at bytes scope at behind to raw is read p none frames knows = record {
  is_read = is_read bytes scope at behind to raw frames knows is read p;
  has_none = λ kind h. none frames knows kind h;
}

-- the least that is against a piece
pub record Least (frames : List Frame) (to : Place) (raw : Raw) (kind : ℕ) : Type 0 where
  pub has : Has frames to raw kind
  pub least : (other : ℕ) → Has frames to raw other → kind ≤ other

least_at : (bytes : List ℕ) (scope : Scope) (at behind to kind : ℕ) (raw : Raw) → behind ≡ at + scope.width → FixedAt bytes scope.width at (id_of raw) → layout raw (place_in bytes behind) (place_in bytes to) →
    ((frames : List Frame) → Knows scope frames → Least frames (place_in bytes to) raw kind) → HasFault bytes scope at kind
least_at bytes scope at behind to kind raw is read p against frames knows =
    let l = against frames knows in
    inr (record {
      raw = raw;
      behind = place_in bytes to;
      is_read = is_read bytes scope at behind to raw frames knows is read p;
      has = l.has;
      least = λ other h. l.least other h;
    })

no_frames : (scope : Scope) (frames : List Frame) → Knows scope frames → scope.levels ≡ 0 → frames ≡ []
no_frames scope frames knows none = nil_from_length frames (knows.levels-is ∙ none)

some_frames : (scope : Scope) (frames : List Frame) → Knows scope frames → scope.levels ≢ 0 → frames ≡ [] → ⊥
some_frames scope frames knows some none = some (sym knows.levels-is ∙ ap length none)

-- ---- the end of a block

-- ---- the head of a block

pub no_head_id : (bytes : List ℕ) (at : ℕ) → NoNumber (Chunked 7) (place_in bytes at) → NoHead bytes at
no_head_id bytes at none id width words to p = none id p.middle p.one

behind_id : (bytes : List ℕ) (at : ℕ) (id : Number) → NumberAt bytes 7 at id →
    ((width words : ℕ) (to : Place) → (Vbr 4 width then Aligned then Fixed 32 words) (place_in bytes id.to) to → ⊥) → NoHead bytes at
behind_id bytes at id i none number width words to p =
    let same = vbr_once 8 i.number number (place_in bytes at) (place_in bytes id.to) p.middle i.reads p.one in
    none width words to (subst (λ m. (Vbr 4 width then Aligned then Fixed 32 words) m to) (sym same.1) p.two)

pub no_head_width : (bytes : List ℕ) (at : ℕ) (id : Number) → NumberAt bytes 7 at id → NoNumber (Chunked 3) (place_in bytes id.to) → NoHead bytes at
no_head_width bytes at id i none = behind_id bytes at id i (λ width words to p. none width p.middle p.one)

behind_width : (bytes : List ℕ) (at : ℕ) (id width : Number) → NumberAt bytes 7 at id → NumberAt bytes 3 id.to width →
    ((words : ℕ) (to : Place) → (Aligned then Fixed 32 words) (place_in bytes width.to) to → ⊥) → NoHead bytes at
behind_width bytes at id width i w none = behind_id bytes at id i (λ number words to p.
    let same = vbr_once 4 w.number number (place_in bytes id.to) (place_in bytes width.to) p.middle w.reads p.one in
    none words to (subst (λ m. (Aligned then Fixed 32 words) m to) (sym same.1) p.two))

pub no_head_gap : (bytes : List ℕ) (at : ℕ) (id width : Number) → NumberAt bytes 7 at id → NumberAt bytes 3 id.to width →
    ((to : Place) → Aligned (place_in bytes width.to) to → ⊥) → NoHead bytes at
no_head_gap bytes at id width i w none = behind_width bytes at id width i w (λ words to p. none p.middle p.one)

pub no_head_words : (bytes : List ℕ) (at start : ℕ) (id width : Number) → NumberAt bytes 7 at id → NumberAt bytes 3 id.to width → AlignedAt bytes width.to start →
    NoNumber (Fixed 32) (place_in bytes start) → NoHead bytes at
no_head_words bytes at start id width i w a none = behind_width bytes at id width i w (λ words to p.
    let same = aligned_once (place_in bytes width.to) (place_in bytes start) p.middle a.reads p.one in
    none words to (subst (λ m. Fixed 32 words m to) (sym same) p.two))

head_large_id : (frames : List Frame) (to : Place) (id width words : ℕ) → 2 ^ 32 ≤ id → Least frames to (raw_enter id width words) 4
head_large_id frames to id width words large = record {
  has = inl (refl, large);
  least = λ other h. elim h [
    | inl a ↦ omega (arith, a.0)
    | inr b ↦ elim b [ inl a ↦ omega (arith, a.0) | inr c ↦ elim c [ inl a ↦ omega (arith, a.0) | inr d ↦ omega (arith, d.0) ] ]
  ];
}

head_large_width : (frames : List Frame) (to : Place) (id width words : ℕ) → 64 < width → Least frames to (raw_enter id width words) 4
head_large_width frames to id width words large = record {
  has = inr (inl (refl, large));
  least = λ other h. elim h [
    | inl a ↦ omega (arith, a.0)
    | inr b ↦ elim b [ inl a ↦ omega (arith, a.0) | inr c ↦ elim c [ inl a ↦ omega (arith, a.0) | inr d ↦ omega (arith, d.0) ] ]
  ];
}

head_deep : (frames : List Frame) (to : Place) (id width words : ℕ) → id < 2 ^ 32 → width ≤ 64 → 16 ≤ length frames → Least frames to (raw_enter id width words) 9
head_deep frames to id width words small short deep = record {
  has = inr (inr (inl (refl, deep)));
  least = λ other h. elim h [
    | inl a ↦ absurd (omega (arith, small, a.1))
    | inr b ↦ elim b [ inl a ↦ absurd (omega (arith, short, a.1)) | inr c ↦ elim c [ inl a ↦ omega (arith, a.0) | inr d ↦ omega (arith, d.0) ] ]
  ];
}

head_zero : (frames : List Frame) (to : Place) (id width words : ℕ) → id ≡ 0 → width ≤ 64 → length frames < 16 → Least frames to (raw_enter id width words) 10
head_zero frames to id width words none short room = record {
  has = inr (inr (inr (refl, none)));
  least = λ other h. elim h [
    | inl a ↦ absurd (omega (arith, none, a.1))
    | inr b ↦ elim b [ inl a ↦ absurd (omega (arith, short, a.1)) | inr c ↦ elim c [ inl a ↦ absurd (omega (arith, room, a.1)) | inr d ↦ omega (arith, d.0) ] ]
  ];
}

pub large_id : (bytes : List ℕ) (scope : Scope) (at behind : ℕ) (head : HeadRead) → behind ≡ at + scope.width → FixedAt bytes scope.width at 1 → HeadAt bytes behind head →
    IsBelow (2 ^ 32) head.id None → HasFault bytes scope at 4
large_id bytes scope at behind head is read p large =
    least_at bytes scope at behind head.to 4 (raw_enter p.id p.width head.words) is read p.reads
    (λ frames knows. head_large_id frames (place_in bytes head.to) p.id p.width head.words (large p.id p.holds_id))

pub large_width : (bytes : List ℕ) (scope : Scope) (at behind : ℕ) (head : HeadRead) → behind ≡ at + scope.width → FixedAt bytes scope.width at 1 → HeadAt bytes behind head →
    IsBelow 65 head.width None → HasFault bytes scope at 4
large_width bytes scope at behind head is read p large =
    least_at bytes scope at behind head.to 4 (raw_enter p.id p.width head.words) is read p.reads
    (λ frames knows. head_large_width frames (place_in bytes head.to) p.id p.width head.words (large p.width p.holds_width))

pub too_deep_head : (bytes : List ℕ) (scope : Scope) (at behind id width : ℕ) (head : HeadRead) → behind ≡ at + scope.width → FixedAt bytes scope.width at 1 → HeadAt bytes behind head →
    IsBelow (2 ^ 32) head.id (Some id) → IsBelow 65 head.width (Some width) → 16 ≤ scope.levels → HasFault bytes scope at 9
too_deep_head bytes scope at behind id width head is read p small short deep =
    least_at bytes scope at behind head.to 9 (raw_enter p.id p.width head.words) is read p.reads
    (λ frames knows. head_deep frames (place_in bytes head.to) p.id p.width head.words (small p.id p.holds_id).1 (omega (arith, (short p.width p.holds_width).1)) (omega (arith, deep, knows.levels-is)))

pub zero_head : (bytes : List ℕ) (scope : Scope) (at behind id width : ℕ) (head : HeadRead) → behind ≡ at + scope.width → FixedAt bytes scope.width at 1 → HeadAt bytes behind head →
    IsBelow (2 ^ 32) head.id (Some id) → IsBelow 65 head.width (Some width) → scope.levels < 16 → id ≡ 0 → HasFault bytes scope at 10
zero_head bytes scope at behind id width head is read p small short room none =
    least_at bytes scope at behind head.to 10 (raw_enter p.id p.width head.words) is read p.reads
    (λ frames knows. head_zero frames (place_in bytes head.to) p.id p.width head.words (sym (small p.id p.holds_id).0 ∙ none) (omega (arith, (short p.width p.holds_width).1)) (omega (arith, room, knows.levels-is)))

-- ---- a record

entry_large_code : (frames : List Frame) (to : Place) (code : ℕ) (values : List ℕ) → 2 ^ 32 ≤ code → Least frames to (raw_record code values) 4
entry_large_code frames to code values large = record {
  has = inr (inl (refl, large));
  least = λ other h. elim h [ inl a ↦ omega (arith, a.0) | inr b ↦ elim b [ inl a ↦ omega (arith, a.0) | inr c ↦ omega (arith, c.0) ] ];
}

entry_large_value : (frames : List Frame) (to : Place) (code : ℕ) (values : List ℕ) → (All (λ value. value < 2 ^ 64) values → ⊥) → Least frames to (raw_record code values) 4
entry_large_value frames to code values large = record {
  has = inr (inr (refl, large));
  least = λ other h. elim h [ inl a ↦ omega (arith, a.0) | inr b ↦ elim b [ inl a ↦ omega (arith, a.0) | inr c ↦ omega (arith, c.0) ] ];
}

entry_outside : (frames : List Frame) (to : Place) (code : ℕ) (values : List ℕ) → frames ≡ [] → code < 2 ^ 32 → All (λ value. value < 2 ^ 64) values → Least frames to (raw_record code values) 7
entry_outside frames to code values none small fit = record {
  has = inl (refl, none);
  least = λ other h. elim h [ inl a ↦ omega (arith, a.0) | inr b ↦ elim b [ inl a ↦ absurd (omega (arith, small, a.1)) | inr c ↦ absurd (c.1 fit) ] ];
}

entry_good : (frames : List Frame) (to : Place) (code : ℕ) (values : List ℕ) (kind : ℕ) → (frames ≡ [] → ⊥) → code < 2 ^ 32 → All (λ value. value < 2 ^ 64) values → Has frames to (raw_record code values) kind → ⊥
entry_good frames to code values kind some small fit (inl a) = some a.1
entry_good frames to code values kind some small fit (inr (inl a)) = omega (arith, small, a.1)
entry_good frames to code values kind some small fit (inr (inr c)) = c.1 fit

pub large_code : (bytes : List ℕ) (scope : Scope) (at behind : ℕ) (found : RecordRead) → behind ≡ at + scope.width → FixedAt bytes scope.width at 3 → RecordAt bytes behind found →
    IsBelow (2 ^ 32) found.code None → HasFault bytes scope at 4
large_code bytes scope at behind found is read p large =
    least_at bytes scope at behind found.to 4 (raw_record p.code p.values) is read p.reads
    (λ frames knows. entry_large_code frames (place_in bytes found.to) p.code p.values (large p.code p.holds))

pub large_value : (bytes : List ℕ) (scope : Scope) (at behind : ℕ) (found : RecordRead) → behind ≡ at + scope.width → FixedAt bytes scope.width at 3 → RecordAt bytes behind found →
    found.values ≡ None → HasFault bytes scope at 4
large_value bytes scope at behind found is read p none =
    least_at bytes scope at behind found.to 4 (raw_record p.code p.values) is read p.reads
    (λ frames knows. entry_large_value frames (place_in bytes found.to) p.code p.values (λ fit. (let h = subst (λ l. HoldAll l p.values) none p.hold in h fit)))

pub outside_record : (bytes : List ℕ) (scope : Scope) (at behind code : ℕ) (values : List ℕ) (found : RecordRead) → behind ≡ at + scope.width → FixedAt bytes scope.width at 3 → RecordAt bytes behind found →
    IsBelow (2 ^ 32) found.code (Some code) → found.values ≡ Some values → scope.levels ≡ 0 → HasFault bytes scope at 7
outside_record bytes scope at behind code values found is read p small some none =
    let hold = subst (λ l. HoldAll l p.values) some p.hold in
    least_at bytes scope at behind found.to 7 (raw_record p.code p.values) is read p.reads
    (λ frames knows. entry_outside frames (place_in bytes found.to) p.code p.values (no_frames scope frames knows none) (small p.code p.holds).1 hold.1)

pub entry_of : (bytes : List ℕ) (scope : Scope) (at behind to code : ℕ) (values : List ℕ) → behind ≡ at + scope.width → FixedAt bytes scope.width at 3 → layout (raw_record code values) (place_in bytes behind) (place_in bytes to) →
    code < 2 ^ 32 → All (λ value. value < 2 ^ 64) values → scope.levels ≢ 0 → behind < to → to ≤ 8 * length bytes → EntryAt bytes scope at code values to
entry_of bytes scope at behind to code values is read p small fit inside forward within = record {
  good = good_at bytes scope at behind to (raw_record code values) is read p
      (λ frames knows kind h. entry_good frames (place_in bytes to) code values kind (some_frames scope frames knows inside) small fit h);
  forward = omega arith;
  within = within;
}

-- ---- other pieces

define_outside : (frames : List Frame) (to : Place) → frames ≡ [] → Least frames to raw_define 7
define_outside frames to none = record { has = inl (refl, none); least = λ other h. elim h [ inl a ↦ omega (arith, a.0) | inr b ↦ omega (arith, b) ] }

define_inside : (frames : List Frame) (to : Place) → (frames ≡ [] → ⊥) → Least frames to raw_define 10
define_inside frames to some = record { has = inr refl; least = λ other h. elim h [ inl a ↦ absurd (some a.1) | inr b ↦ omega (arith, b) ] }

pub outside_define : (bytes : List ℕ) (scope : Scope) (at : ℕ) → FixedAt bytes scope.width at 2 → scope.levels ≡ 0 → HasFault bytes scope at 7
outside_define bytes scope at read none =
    least_at bytes scope at (at + scope.width) (at + scope.width) 7 raw_define refl read refl
    (λ frames knows. define_outside frames (place_in bytes (at + scope.width)) (no_frames scope frames knows none))

pub inside_define : (bytes : List ℕ) (scope : Scope) (at : ℕ) → FixedAt bytes scope.width at 2 → scope.levels ≢ 0 → HasFault bytes scope at 10
inside_define bytes scope at read some =
    least_at bytes scope at (at + scope.width) (at + scope.width) 10 raw_define refl read refl
    (λ frames knows. define_inside frames (place_in bytes (at + scope.width)) (some_frames scope frames knows some))

undefined_least : (frames : List Frame) (to : Place) (id : ℕ) → Least frames to (raw_undefined id) 3
undefined_least frames to id = record { has = refl; least = λ other h. omega (arith, h) }

pub undefined_at : (bytes : List ℕ) (scope : Scope) (at id : ℕ) → FixedAt bytes scope.width at id → 4 ≤ id → HasFault bytes scope at 3
undefined_at bytes scope at id read some =
    least_at bytes scope at (at + scope.width) (at + scope.width) 3 (raw_undefined id) refl read (some, refl)
    (λ frames knows. undefined_least frames (place_in bytes (at + scope.width)) id)
