-- Names in order, and where each of them stands.
use Rattle.std.proofs.Common.{◌≡◌, ◌∙◌, refl, sym, ap, ℕ, suc, ◌+◌, Bool, true, false, cond, not, if◌then◌else◌, List, [], ◌∷◌, ◌++◌, length, position, slice_get, bytes_eq, Option, None, Some, option_map, nat_lt, ◌<◌, ◌≤◌, ◌⊎◌, inl, inr, add-zero, zero-add, add-suc, suc-add, true≢false, arith}
use Rattle.std.proofs.lemmas.Bool.{cases_lt, lt-ltb, le-ltb}
use Rattle.std.specs.List.{position_or_len}
use Rattle.std.proofs.lemmas.List.Folds.{find_at}
use Rattle.std.proofs.lemmas.Option.{none-some, same_Some, slice_get_past}
use Rattle.std.proofs.lemmas.Slice.Eq.{bytes_eq-Decides}
use Rattle.hl_values.specs.NameTables.{first_named, is_named, positions_from}

-- two texts are compared in either order
pub bytes_eq-sym : (a b : List ℕ) → bytes_eq a b ≡ bytes_eq b a
bytes_eq-sym a b = by (bytes_eq a b) refl (bytes_eq b a) refl
  where
    by : (x : Bool) → bytes_eq a b ≡ x → (y : Bool) → bytes_eq b a ≡ y → bytes_eq a b ≡ bytes_eq b a
    by true e true f = e ∙ sym f
    by false e false f = e ∙ sym f
    by true e false f = absurd (true≢false (sym ((bytes_eq-Decides b a).1 (sym ((bytes_eq-Decides a b).0 e))) ∙ f))
    by false e true f = absurd (true≢false (sym ((bytes_eq-Decides a b).1 (sym ((bytes_eq-Decides b a).0 f))) ∙ e))

-- the first of positions that may begin with one more
first_behind : (at n count : ℕ) (b : Bool) (rest : List ℕ)
    → slice_get rest 0 ≡ option_map (λ k. suc at + k) (cond (nat_lt n count) (Some n) None)
    → slice_get (if b then at ∷ rest else rest) 0 ≡ option_map (λ k. at + k) (cond (nat_lt (cond (not b) (1 + n) 0) (suc count)) (Some (cond (not b) (1 + n) 0)) None)
first_behind at n count true rest h =
    ap (λ k. Some k) (sym (add-zero at)) ∙ sym (ap (λ t. option_map (λ k. at + k) (cond t (Some 0) None)) (lt-ltb 0 (suc count) (omega arith)))
first_behind at n count false rest h = by (cases_lt n count)
  where
    by : (n < count) ⊎ (count ≤ n) → slice_get rest 0 ≡ option_map (λ k. at + k) (cond (nat_lt (1 + n) (suc count)) (Some (1 + n)) None)
    by (inl below) =
        h ∙ (ap (λ t. option_map (λ k. suc at + k) (cond t (Some n) None)) (lt-ltb n count below) ∙
        (ap (λ k. Some k) (omega arith) ∙
        sym (ap (λ t. option_map (λ k. at + k) (cond t (Some (1 + n)) None)) (lt-ltb (1 + n) (suc count) (omega arith)))))
    by (inr above) =
        h ∙ (ap (λ t. option_map (λ k. suc at + k) (cond t (Some n) None)) (le-ltb n count above) ∙
        sym (ap (λ t. option_map (λ k. at + k) (cond t (Some (1 + n)) None)) (le-ltb (1 + n) (suc count) (omega arith))))

module _ {T : Type 0} (name : List ℕ) where
  -- one more entry is at the end
  pub positions_from-push : (at : ℕ) (table : List (List ℕ × T)) (e : List ℕ × T)
      → positions_from at name (table ++ e ∷ []) ≡ positions_from at name table ++ (if is_named name e then (at + length table) ∷ [] else [])
  positions_from-push at [] e = ap (λ n. if is_named name e then n ∷ [] else []) (sym (add-zero at))
  positions_from-push at (x ∷ table) e =
      by (is_named name x) (positions_from-push (suc at) table e ∙ ap (λ n. positions_from (suc at) name table ++ (if is_named name e then n ∷ [] else [])) (suc-add at (length table) ∙ sym (add-suc at (length table))))
    where
      by : (b : Bool)
          → positions_from (suc at) name (table ++ e ∷ []) ≡ positions_from (suc at) name table ++ (if is_named name e then (at + suc (length table)) ∷ [] else [])
          → (if b then at ∷ positions_from (suc at) name (table ++ e ∷ []) else positions_from (suc at) name (table ++ e ∷ []))
          ≡ (if b then at ∷ positions_from (suc at) name table else positions_from (suc at) name table) ++ (if is_named name e then (at + suc (length table)) ∷ [] else [])
      by true rest = ap (λ l. at ∷ l) rest
      by false rest = rest

  first_position_from : (at : ℕ) (table : List (List ℕ × T)) → slice_get (positions_from at name table) 0 ≡ option_map (λ k. at + k) (position (is_named name) table)
  first_position_from at [] = refl
  first_position_from at (x ∷ table) =
      first_behind at (position_or_len (is_named name) table) (length table) (is_named name x) (positions_from (suc at) name table) (first_position_from (suc at) table)

  -- the first of the positions is where the name stands first
  pub first_position : (table : List (List ℕ × T)) → slice_get (positions_from 0 name table) 0 ≡ position (is_named name) table
  first_position table = first_position_from 0 table ∙ whole (position (is_named name) table)
    where
      whole : (o : Option ℕ) → option_map (λ k. 0 + k) o ≡ o
      whole None = refl
      whole (Some k) = ap (λ n. Some n) (zero-add k)

  -- what it stands for there
  first_named-at : (table : List (List ℕ × T)) → first_named table name ≡ option_map (λ e. e.1) (slice_get table (position_or_len (is_named name) table))
  first_named-at table = ap (λ o. option_map (λ e. e.1) o) (find_at (is_named name) table)

  pub first_named-some : (table : List (List ℕ × T)) (at : ℕ) → Some at ≡ position (is_named name) table → first_named table name ≡ option_map (λ e. e.1) (slice_get table at)
  first_named-some table at e = first_named-at table ∙ ap (λ k. option_map (λ e. e.1) (slice_get table k)) (sym (by (nat_lt (position_or_len (is_named name) table) (length table)) e))
    where
      by : (b : Bool) → Some at ≡ cond b (Some (position_or_len (is_named name) table)) None → at ≡ position_or_len (is_named name) table
      by true h = cc
      by false h = cc

  pub first_named-none : (table : List (List ℕ × T)) → None ≡ position (is_named name) table → first_named table name ≡ None
  first_named-none table e = by (cases_lt (position_or_len (is_named name) table) (length table))
    where
      none : None ≡ Some (position_or_len (is_named name) table) → first_named table name ≡ None
      none h = cc

      by : (position_or_len (is_named name) table < length table) ⊎ (length table ≤ position_or_len (is_named name) table) → first_named table name ≡ None
      by (inl below) = none (e ∙ ap (λ b. cond b (Some (position_or_len (is_named name) table)) None) (lt-ltb (position_or_len (is_named name) table) (length table) below))
      by (inr above) = first_named-at table ∙ ap (λ o. option_map (λ e. e.1) o) (slice_get_past table (position_or_len (is_named name) table) above)

  -- it stands among them
  pub position-within : (table : List (List ℕ × T)) (at : ℕ) → Some at ≡ position (is_named name) table → at < length table
  position-within table at e = by (cases_lt (position_or_len (is_named name) table) (length table))
    where
      here : position_or_len (is_named name) table < length table → Some at ≡ Some (position_or_len (is_named name) table) → at < length table
      here below h = rw (same_Some at (position_or_len (is_named name) table) h) below

      by : (position_or_len (is_named name) table < length table) ⊎ (length table ≤ position_or_len (is_named name) table) → at < length table
      by (inl below) = here below (e ∙ ap (λ b. cond b (Some (position_or_len (is_named name) table)) None) (lt-ltb (position_or_len (is_named name) table) (length table) below))
      by (inr above) = absurd (none-some at (ap (λ b. cond b (Some (position_or_len (is_named name) table)) None) (sym (le-ltb (position_or_len (is_named name) table) (length table) above)) ∙ sym e))
