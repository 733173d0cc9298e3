-- What the records of a module without a fault say: its texts and its functions.
use Rattle.std.proofs.Common.{◌≡◌, ℕ, List, [], ◌∷◌, ◌++◌, map, length, refl, ap, sym, ◌∙◌}
use Rattle.std.specs.Prelude.{true, false, ◌&&◌, ◌||◌, ◌==◌, if◌then◌else◌, nat_le, drop}
use Rattle.bc_records.specs.Entries.{Entry, entry, IsText}
use Rattle.bc_records.specs.ModuleRecords.{ModuleRecord, version_record, triple_record, layout_record, function_record, module_entry, versions, triples, layouts, declarations}
use Rattle.bc_records.specs.RecordKinds.{Known, counts, operand, has_code, is_text, is_function_type, kind_if, kind_unless, module_kinds}
use Rattle.bc_records.specs.Read.{read_text}
use Rattle.bc_records.proofs.FreeSites.{FreeRecords}
use Rattle.bc_records.proofs.FreeModules.{Declared}
use Rattle.bc_records.proofs.Tests.{both_none, code_stays}
use Rattle.std.proofs.lemmas.Bool.{and_parts, eqb-true, leb-true, true≢false}
use Rattle.bc_records.proofs.Told.{chosen, code_here, either_passes, four_operands, one_operand, some_kind, spelled_by, text_same, told_if, told_text, told_unless}

-- records

version_is : (code : ℕ) (ops : List ℕ) (six : List ℕ) → code ≡ 1 → kind_unless (counts ops 1) 2 ++ (kind_unless (operand ops 0 == 1) 3 ++ six) ≡ [] → entry code ops ≡ entry 1 (1 ∷ [])
version_is code ops six is none =
    let apart = both_none (kind_unless (counts ops 1) 2) (kind_unless (operand ops 0 == 1) 3 ++ six) none in
    let one = one_operand ops (told_unless (counts ops 1) 2 apart.0) in
    let first : operand ops 0 ≡ 1 = eqb-true (operand ops 0) 1 (told_unless (operand ops 0 == 1) 3 (both_none (kind_unless (operand ops 0 == 1) 3) six apart.1).0) in
    ap (λ c. entry c ops) is ∙ ap (entry 1) (one ∙ ap (λ x. x ∷ []) first)

function_is : (code : ℕ) (ops : List ℕ) (three : List ℕ) → code ≡ 8 → kind_unless (nat_le 4 (length ops)) 2 ++ three ≡ [] → (r : ModuleRecord) × (entry code ops ≡ module_entry r)
function_is code ops three is none =
    let long = told_unless (nat_le 4 (length ops)) 2 (both_none (kind_unless (nat_le 4 (length ops)) 2) three none).0 in
    (function_record (operand ops 0) (operand ops 1) (operand ops 2) (operand ops 3) (drop 4 ops), ap (λ c. entry c ops) is ∙ ap (entry 8) (four_operands ops (leb-true 4 (length ops) long)))

module_one : (known : Known) (before : List Entry) (e : Entry) (after : List Entry) → module_kinds known before e ≡ [] → (r : ModuleRecord) × (e ≡ module_entry r)
module_one known before (entry code ops) after none =
    let one = kind_unless (counts ops 1) 2 ++ (kind_unless (operand ops 0 == 1) 3 ++ kind_if (has_code 1 before) 6) in
    let texts = kind_if (has_code code before) 6 ++ kind_unless (is_text ops) 7 in
    let three = kind_unless (is_function_type known (operand ops 0) && nat_le (operand ops 2) 1) 3 in
    let eight = kind_unless (nat_le 4 (length ops)) 2 ++ three in
    chosen (code == 1) one (if (code == 2) || (code == 3) then texts else if code == 8 then eight else 8 ∷ []) none
    (λ is here. (version_record, version_is code ops (kind_if (has_code 1 before) 6) (eqb-true code 1 is) here))
    (λ no rest. chosen ((code == 2) || (code == 3)) texts (if code == 8 then eight else 8 ∷ []) rest
    (λ is here. either_passes (code == 2) (code == 3) is (λ e. (triple_record ops, ap (λ c. entry c ops) (eqb-true code 2 e))) (λ e. (layout_record ops, ap (λ c. entry c ops) (eqb-true code 3 e))))
    (λ not more. chosen (code == 8) eight (8 ∷ []) more (λ is here. function_is code ops three (eqb-true code 8 is) here) (λ other last. some_kind 8 [] last)))

abbrev pub FreeModule : Known → List Entry → List Entry → Type 0
FreeModule known before es = FreeRecords (λ b e after. module_kinds known b e) before es

pub module_spelled : (known : Known) (es : List Entry) → FreeModule known [] es → (rs : List ModuleRecord) × (es ≡ map module_entry rs)
module_spelled known es free = spelled_by module_entry (λ b e after. module_kinds known b e) (module_one known) [] es free

-- the version

none_impossible : {P : Type 0} → false ≡ true → P
none_impossible h = absurd (true≢false (sym h))

no_version : (known : Known) (before : List Entry) (rs : List ModuleRecord) → has_code 1 before ≡ true → FreeModule known before (map module_entry rs) → versions rs ≡ []
no_version known before [] has free = refl
no_version known before (version_record ∷ rs) has free = absurd (true≢false (sym has ∙ told_if (has_code 1 before) 6 free.0))
no_version known before (triple_record t ∷ rs) has free = no_version known (before ++ entry 2 t ∷ []) rs (code_stays 1 before (entry 2 t) has) free.1
no_version known before (layout_record t ∷ rs) has free = no_version known (before ++ entry 3 t ∷ []) rs (code_stays 1 before (entry 3 t) has) free.1
no_version known before (function_record a b c d e ∷ rs) has free =
    let own : Entry = entry 8 (a ∷ b ∷ c ∷ d ∷ e) in no_version known (before ++ own ∷ []) rs (code_stays 1 before own has) free.1

pub one_version : (known : Known) (before : List Entry) (rs : List ModuleRecord) → has_code 1 (map module_entry rs) ≡ true → FreeModule known before (map module_entry rs) → versions rs ≡ 1 ∷ []
one_version known before [] has free = none_impossible has
one_version known before (version_record ∷ rs) has free =
    let own : Entry = entry 1 (1 ∷ []) in ap (λ vs. 1 ∷ vs) (no_version known (before ++ own ∷ []) rs (code_here 1 before own refl) free.1)
one_version known before (triple_record t ∷ rs) has free = one_version known (before ++ entry 2 t ∷ []) rs has free.1
one_version known before (layout_record t ∷ rs) has free = one_version known (before ++ entry 3 t ∷ []) rs has free.1
one_version known before (function_record a b c d e ∷ rs) has free = one_version known (before ++ entry 8 (a ∷ b ∷ c ∷ d ∷ e) ∷ []) rs has free.1

-- the triple

free_text : (code : ℕ) (before : List Entry) (t : List ℕ) → kind_if (has_code code before) 6 ++ kind_unless (is_text t) 7 ≡ [] → (has_code code before ≡ false) × IsText t
free_text code before t none =
    let apart = both_none (kind_if (has_code code before) 6) (kind_unless (is_text t) 7) none in
    (told_if (has_code code before) 6 apart.0, told_text t (told_unless (is_text t) 7 apart.1))

no_triple : (known : Known) (before : List Entry) (rs : List ModuleRecord) → has_code 2 before ≡ true → FreeModule known before (map module_entry rs) → triples rs ≡ []
no_triple known before [] has free = refl
no_triple known before (version_record ∷ rs) has free = no_triple known (before ++ entry 1 (1 ∷ []) ∷ []) rs (code_stays 2 before (entry 1 (1 ∷ [])) has) free.1
no_triple known before (triple_record t ∷ rs) has free = absurd (true≢false (sym has ∙ (free_text 2 before t free.0).0))
no_triple known before (layout_record t ∷ rs) has free = no_triple known (before ++ entry 3 t ∷ []) rs (code_stays 2 before (entry 3 t) has) free.1
no_triple known before (function_record a b c d e ∷ rs) has free =
    let own : Entry = entry 8 (a ∷ b ∷ c ∷ d ∷ e) in no_triple known (before ++ own ∷ []) rs (code_stays 2 before own has) free.1

pub one_triple : (known : Known) (before : List Entry) (rs : List ModuleRecord) → has_code 2 (map module_entry rs) ≡ true → FreeModule known before (map module_entry rs) →
    triples rs ≡ read_text 2 (map module_entry rs) ∷ []
one_triple known before [] has free = none_impossible has
one_triple known before (version_record ∷ rs) has free = one_triple known (before ++ entry 1 (1 ∷ []) ∷ []) rs has free.1
one_triple known before (triple_record t ∷ rs) has free =
    ap (λ ts. t ∷ ts) (no_triple known (before ++ entry 2 t ∷ []) rs (code_here 2 before (entry 2 t) refl) free.1) ∙ ap (λ x. x ∷ []) (sym (text_same t (free_text 2 before t free.0).1))
one_triple known before (layout_record t ∷ rs) has free = one_triple known (before ++ entry 3 t ∷ []) rs has free.1
one_triple known before (function_record a b c d e ∷ rs) has free = one_triple known (before ++ entry 8 (a ∷ b ∷ c ∷ d ∷ e) ∷ []) rs has free.1

-- the layout

no_layout : (known : Known) (before : List Entry) (rs : List ModuleRecord) → has_code 3 before ≡ true → FreeModule known before (map module_entry rs) → layouts rs ≡ []
no_layout known before [] has free = refl
no_layout known before (version_record ∷ rs) has free = no_layout known (before ++ entry 1 (1 ∷ []) ∷ []) rs (code_stays 3 before (entry 1 (1 ∷ [])) has) free.1
no_layout known before (triple_record t ∷ rs) has free = no_layout known (before ++ entry 2 t ∷ []) rs (code_stays 3 before (entry 2 t) has) free.1
no_layout known before (layout_record t ∷ rs) has free = absurd (true≢false (sym has ∙ (free_text 3 before t free.0).0))
no_layout known before (function_record a b c d e ∷ rs) has free =
    let own : Entry = entry 8 (a ∷ b ∷ c ∷ d ∷ e) in no_layout known (before ++ own ∷ []) rs (code_stays 3 before own has) free.1

pub one_layout : (known : Known) (before : List Entry) (rs : List ModuleRecord) → has_code 3 (map module_entry rs) ≡ true → FreeModule known before (map module_entry rs) →
    layouts rs ≡ read_text 3 (map module_entry rs) ∷ []
one_layout known before [] has free = none_impossible has
one_layout known before (version_record ∷ rs) has free = one_layout known (before ++ entry 1 (1 ∷ []) ∷ []) rs has free.1
one_layout known before (triple_record t ∷ rs) has free = one_layout known (before ++ entry 2 t ∷ []) rs has free.1
one_layout known before (layout_record t ∷ rs) has free =
    ap (λ ts. t ∷ ts) (no_layout known (before ++ entry 3 t ∷ []) rs (code_here 3 before (entry 3 t) refl) free.1) ∙ ap (λ x. x ∷ []) (sym (text_same t (free_text 3 before t free.0).1))
one_layout known before (function_record a b c d e ∷ rs) has free = one_layout known (before ++ entry 8 (a ∷ b ∷ c ∷ d ∷ e) ∷ []) rs has free.1

-- functions

pub each_declared : (known : Known) (before : List Entry) (rs : List ModuleRecord) → FreeModule known before (map module_entry rs) → Declared known (declarations rs)
each_declared known before [] free = tt
each_declared known before (version_record ∷ rs) free = each_declared known (before ++ entry 1 (1 ∷ []) ∷ []) rs free.1
each_declared known before (triple_record t ∷ rs) free = each_declared known (before ++ entry 2 t ∷ []) rs free.1
each_declared known before (layout_record t ∷ rs) free = each_declared known (before ++ entry 3 t ∷ []) rs free.1
each_declared known before (function_record ty convention prototype linkage others ∷ rs) free =
    let own : List ℕ = ty ∷ convention ∷ prototype ∷ linkage ∷ others in
    let apart = both_none (kind_unless (nat_le 4 (length own)) 2) (kind_unless (is_function_type known ty && nat_le prototype 1) 3) free.0 in
    let both = and_parts (is_function_type known ty) (nat_le prototype 1) (told_unless (is_function_type known ty && nat_le prototype 1) 3 apart.1) in
    (both.0, leb-true prototype 1 both.1, each_declared known (before ++ entry 8 own ∷ []) rs free.1)
