-- The positions that are noted for names.
use Rattle.std.proofs.Common.{◌≡◌, ◌∙◌, refl, sym, ap, ℕ, Bool, true, false, cond, if◌then◌else◌, List, [], ◌∷◌, ◌++◌, bytes_eq, map, Some, unwrap_or, length, Bor, append-nil, zero-add, ◌≤◌, arith}
use Rattle.std.proofs.lemmas.List.{length-map, length_push, map-append}
use Rattle.std.proofs.lemmas.Slice.Eq.{bytes_eq-Decides}
use Rattle.indexmap.specs.IndexMap.{IndexMap, UpdatesBy, get_by}
use Rattle.hl_values.specs.NameEntries.{AreNoted, entry_of, noted_for}
use Rattle.hl_values.specs.NameTables.{positions_from}
use Rattle.hl_values.specs.declared.name_table.NameEntry.{NameEntry}
use Rattle.hl_values.proofs.NameLemmas.{positions_from-push}

module _ {S : Type 0} (name : List ℕ) (at : ℕ) (m n : IndexMap (Bor (List ℕ)) (List ℕ) S) (w : List ℕ)
    (updates : UpdatesBy (λ a b. bytes_eq a.now b.now) (λ key. bytes_eq name key.now) m n (Some w)) where
  -- what is noted for each name behind a write
  noted-written : (other : List ℕ) → noted_for n other ≡ (if bytes_eq name other then w else noted_for m other)
  noted-written other = ap (λ o. unwrap_or o []) (updates.0 (record { ref_ptr = (0, 0); now = other })) ∙ by (bytes_eq name other)
    where
      by : (b : Bool) → unwrap_or (cond b (Some w) (get_by (λ key. bytes_eq other key.now) m)) [] ≡ (if b then w else noted_for m other)
      by true = refl
      by false = refl

  -- one more position is noted
  pub noted-push : (before : List ℕ) → noted_for m name ≡ before → w ≡ before ++ at ∷ []
      → (other : List ℕ) → noted_for n other ≡ noted_for m other ++ (if bytes_eq name other then at ∷ [] else [])
  noted-push before noted is other = noted-written other ∙ by (bytes_eq name other) refl
    where
      by : (b : Bool) → bytes_eq name other ≡ b → (if b then w else noted_for m other) ≡ noted_for m other ++ (if b then at ∷ [] else [])
      by true e = is ∙ ap (λ l. l ++ at ∷ []) (sym noted ∙ ap (λ x. noted_for m x) ((bytes_eq-Decides name other).0 e))
      by false e = sym (append-nil (noted_for m other))

  -- what was noted is noted again
  pub noted-same : noted_for m name ≡ w → (other : List ℕ) → noted_for n other ≡ noted_for m other
  noted-same noted other = noted-written other ∙ by (bytes_eq name other) refl
    where
      by : (b : Bool) → bytes_eq name other ≡ b → (if b then w else noted_for m other) ≡ noted_for m other
      by true e = sym noted ∙ ap (λ x. noted_for m x) ((bytes_eq-Decides name other).0 e)
      by false e = refl

-- the positions of all names stay noted with one more entry
pub are_noted-push : {S T : Type 0} (entries : List (NameEntry T)) (m n : IndexMap (Bor (List ℕ)) (List ℕ) S) (e : NameEntry T)
    → AreNoted entries m
    → ((other : List ℕ) → noted_for n other ≡ noted_for m other ++ (if bytes_eq e.name.now other then length entries ∷ [] else []))
    → AreNoted (entries ++ e ∷ []) n
are_noted-push entries m n e noted push other =
    push other ∙ (ap (λ l. l ++ (if bytes_eq e.name.now other then length entries ∷ [] else [])) (noted other) ∙
    (ap (λ k. positions_from 0 other (map entry_of entries) ++ (if bytes_eq e.name.now other then k ∷ [] else [])) (sym (zero-add (length (map entry_of entries)) ∙ length-map entries entry_of)) ∙
    (sym (positions_from-push other 0 (map entry_of entries) (entry_of e)) ∙
    ap (λ l. positions_from 0 other l) (sym (map-append entry_of entries (e ∷ []))))))

-- one more part fits where the greatest length isn't reached
pub length-within : {A : Type 0} (before after : List A) (x : A) (n limit : ℕ) → after ≡ before ++ x ∷ [] → n ≡ length before → length before ≤ limit → (n ≡ limit → ⊥) → length after ≤ limit
length-within before after x n limit is count within apart = omega (arith, ap length is, length_push before x)
