-- The block of a module has no fault in its own records.
use mathlib.Core.Logic.{◌⊎◌, inl, inr}
use Rattle.std.proofs.Common.{◌≡◌, ℕ, ◌≤◌, List, [], ◌∷◌, ◌++◌, map, length, refl, ap, arith}
use Rattle.std.specs.Prelude.{Bool, true, false, ◌==◌, ◌&&◌, nat_le, All}
use Rattle.std.proofs.lemmas.List.Elements.{All-head, All-tail}
use Rattle.bc_records.specs.Entries.{Entry, entry, IsText}
use Rattle.bc_records.specs.ModuleRecords.{ModuleRecord, version_record, triple_record, layout_record, function_record, module_entry, versions, triples, layouts, declarations}
use Rattle.bc_records.specs.RecordKinds.{Known, code_of, has_code, kind_if, kind_unless, is_text, is_function_type, module_kinds}
use Rattle.bc_records.proofs.FreeSites.{FreeRecords}
use Rattle.bc_records.proofs.Tests.{at_most, both, unless, no_kinds, text_passes, code_before}

-- so many records are still to come: none, or one where none stood before
abbrev pub Once : {A : Type 0} → (code : ℕ) → List Entry → List A → Type 0
Once code before xs = (length xs ≡ 0) ⊎ ((has_code code before ≡ false) × (length xs ≡ 1))

once_more : {A : Type 0} (code : ℕ) (before : List Entry) (e : Entry) (xs : List A) → (code_of e == code) ≡ false → Once code before xs → Once code (before ++ e ∷ []) xs
once_more code before e xs other (inl h) = inl h
once_more code before e xs other (inr h) = inr (code_before code before e h.0 other, h.1)

once_here : {A : Type 0} (code : ℕ) (before : List Entry) (x : A) (xs : List A) → Once code before (x ∷ xs) → (has_code code before ≡ false) × (length xs ≡ 0)
once_here code before x xs (inl h) = absurd (omega (arith, h))
once_here code before x xs (inr h) = (h.0, omega (arith, h.1))

-- each function has the type of one
abbrev pub Declared : Known → List (ℕ × ℕ) → Type 0
Declared known [] = Unit {0}
Declared known (d ∷ ds) = (is_function_type known d.0 ≡ true) × (d.1 ≤ 1) × Declared known ds

text_free : (code : ℕ) (before : List Entry) (text : List ℕ) → has_code code before ≡ false → IsText text → kind_if (has_code code before) 6 ++ kind_unless (is_text text) 7 ≡ []
text_free code before text none is =
    no_kinds (kind_if (has_code code before) 6) (kind_unless (is_text text) 7) (ap (λ b. kind_if b 6) none) (unless (is_text text) 7 (text_passes text is))

function_free : (known : Known) (before : List Entry) (ty convention prototype linkage : ℕ) (others : List ℕ) → is_function_type known ty ≡ true → prototype ≤ 1 →
    module_kinds known before (entry 8 (ty ∷ convention ∷ prototype ∷ linkage ∷ others)) ≡ []
function_free known before ty convention prototype linkage others is low =
    let long : Bool = nat_le 4 (length (ty ∷ convention ∷ prototype ∷ linkage ∷ others)) in
    no_kinds (kind_unless long 2) (kind_unless (is_function_type known ty && nat_le prototype 1) 3)
    (unless long 2 (at_most 4 (length (ty ∷ convention ∷ prototype ∷ linkage ∷ others)) (omega arith)))
    (unless (is_function_type known ty && nat_le prototype 1) 3 (both (is_function_type known ty) (nat_le prototype 1) is (at_most prototype 1 low)))

pub module_free : (known : Known) (before : List Entry) (rs : List ModuleRecord) → Once 1 before (versions rs) → Once 2 before (triples rs) → Once 3 before (layouts rs) →
    All IsText (triples rs) → All IsText (layouts rs) → Declared known (declarations rs) →
    FreeRecords (λ b e after. module_kinds known b e) before (map module_entry rs)
module_free known before [] v t l texts layout_texts ds = tt
module_free known before (version_record ∷ rs) v t l texts layout_texts ds =
    let e : Entry = entry 1 (1 ∷ []) in
    let here = once_here 1 before 1 (versions rs) v in (
      ap (λ b. kind_if b 6) here.0,
      module_free known (before ++ e ∷ []) rs (inl here.1) (once_more 2 before e (triples rs) refl t) (once_more 3 before e (layouts rs) refl l) texts layout_texts ds,
    )
module_free known before (triple_record text ∷ rs) v t l texts layout_texts ds =
    let e : Entry = entry 2 text in
    let here = once_here 2 before text (triples rs) t in (
      text_free 2 before text here.0 (All-head IsText text (triples rs) texts),
      module_free known (before ++ e ∷ []) rs (once_more 1 before e (versions rs) refl v) (inl here.1) (once_more 3 before e (layouts rs) refl l)
          (All-tail IsText text (triples rs) texts) layout_texts ds,
    )
module_free known before (layout_record text ∷ rs) v t l texts layout_texts ds =
    let e : Entry = entry 3 text in
    let here = once_here 3 before text (layouts rs) l in (
      text_free 3 before text here.0 (All-head IsText text (layouts rs) layout_texts),
      module_free known (before ++ e ∷ []) rs (once_more 1 before e (versions rs) refl v) (once_more 2 before e (triples rs) refl t) (inl here.1)
          texts (All-tail IsText text (layouts rs) layout_texts) ds,
    )
module_free known before (function_record ty convention prototype linkage others ∷ rs) v t l texts layout_texts ds =
    let e : Entry = entry 8 (ty ∷ convention ∷ prototype ∷ linkage ∷ others) in (
      function_free known before ty convention prototype linkage others ds.0 ds.1,
      module_free known (before ++ e ∷ []) rs (once_more 1 before e (versions rs) refl v) (once_more 2 before e (triples rs) refl t) (once_more 3 before e (layouts rs) refl l)
          texts layout_texts ds.2,
    )

-- the records that are needed

pub version_stands : (rs : List ModuleRecord) → length (versions rs) ≡ 1 → has_code 1 (map module_entry rs) ≡ true
version_stands [] one = absurd (omega (arith, one))
version_stands (version_record ∷ rs) one = refl
version_stands (triple_record t ∷ rs) one = version_stands rs one
version_stands (layout_record t ∷ rs) one = version_stands rs one
version_stands (function_record a b c d e ∷ rs) one = version_stands rs one

pub triple_stands : (rs : List ModuleRecord) → length (triples rs) ≡ 1 → has_code 2 (map module_entry rs) ≡ true
triple_stands [] one = absurd (omega (arith, one))
triple_stands (version_record ∷ rs) one = triple_stands rs one
triple_stands (triple_record t ∷ rs) one = refl
triple_stands (layout_record t ∷ rs) one = triple_stands rs one
triple_stands (function_record a b c d e ∷ rs) one = triple_stands rs one

pub layout_stands : (rs : List ModuleRecord) → length (layouts rs) ≡ 1 → has_code 3 (map module_entry rs) ≡ true
layout_stands [] one = absurd (omega (arith, one))
layout_stands (version_record ∷ rs) one = layout_stands rs one
layout_stands (triple_record t ∷ rs) one = layout_stands rs one
layout_stands (layout_record t ∷ rs) one = refl
layout_stands (function_record a b c d e ∷ rs) one = layout_stands rs one
