-- What the block MODULE says, with one record more.
use Rattle.std.proofs.Common.{◌≡◌, ℕ, ◌+◌, ◌<◌, ◌==◌, Bool, true, false, ◌||◌, Some, List, [], ◌∷◌, ◌++◌, map, take, length, get_or, set, refl, ap, sym, ◌∙◌, arith, eq-eqb, get_or-set_same, get_or-set_other, length-set}
use Rattle.std.specs.Prelude.{if◌then◌else◌, slice_get, ◌⊎◌}
use Rattle.std.proofs.Common.{inl, inr}
use Rattle.std.proofs.lemmas.List.{map-append, take_more}
use Rattle.std.proofs.lemmas.Option.{slice_get-get_or}
use Rattle.std.proofs.lemmas.Bool.{cases_order, ne_eqb}
use Rattle.bc_records.specs.Entries.{Entry, entry}
use Rattle.bc_records.specs.HeldEntries.{MarksAmong, operands_form}
use Rattle.std.specs.Borrow.{Bor}
use Rattle.bc_records.specs.RecordKinds.{code_of, operands_of, is_type_entry, type_entries, function_entries, has_body, with_bodies, same_entry, has_entry}
use Rattle.bc_records.proofs.FreeSites.{more_none}
use Rattle.bc_records.proofs.FaultSymbols.{or-assoc, or-false, or-true}

-- the records that a test picks out, with one more at the end
module _ {X Y : Type 0} (test : X → Bool) (pick : X → Y) (picked : List X → List Y)
    (none : picked [] ≡ []) (some : (x : X) (xs : List X) → picked (x ∷ xs) ≡ (if test x then pick x ∷ picked xs else picked xs)) where
  pub picked-append : (xs : List X) (x : X) → picked (xs ++ x ∷ []) ≡ picked xs ++ (if test x then pick x ∷ [] else [])
  picked-append [] x = some x [] ∙ (ap (λ ys. if test x then pick x ∷ ys else ys) none ∙ ap (λ ys. ys ++ (if test x then pick x ∷ [] else [])) (sym none))
  picked-append (z ∷ xs) x =
      some z (xs ++ x ∷ [])
      ∙ (ap (λ ys. if test z then pick z ∷ ys else ys) (picked-append xs x)
      ∙ (front (test z) (picked xs) (if test x then pick x ∷ [] else [])
      ∙ ap (λ ys. ys ++ (if test x then pick x ∷ [] else [])) (sym (some z xs)))) where
        front : (b : Bool) (ys zs : List Y) → (if b then pick z ∷ (ys ++ zs) else (ys ++ zs)) ≡ (if b then pick z ∷ ys else ys) ++ zs
        front true ys zs = refl
        front false ys zs = refl

  pub picked-one : (xs : List X) (x : X) → test x ≡ true → picked (xs ++ x ∷ []) ≡ picked xs ++ pick x ∷ []
  picked-one xs x is = picked-append xs x ∙ ap (λ b. picked xs ++ (if b then pick x ∷ [] else [])) is

  pub picked-same : (xs : List X) (x : X) → test x ≡ false → picked (xs ++ x ∷ []) ≡ picked xs
  picked-same xs x is = picked-append xs x ∙ (ap (λ b. picked xs ++ (if b then pick x ∷ [] else [])) is ∙ more_none (picked xs))

pub types-one : (es : List Entry) (e : Entry) → is_type_entry e ≡ true → type_entries (es ++ e ∷ []) ≡ type_entries es ++ e ∷ []
types-one = picked-one is_type_entry (λ e. e) type_entries refl (λ e es. refl)

pub types-same : (es : List Entry) (e : Entry) → is_type_entry e ≡ false → type_entries (es ++ e ∷ []) ≡ type_entries es
types-same = picked-same is_type_entry (λ e. e) type_entries refl (λ e es. refl)

pub functions-one : (es : List Entry) (e : Entry) → (code_of e == 8) ≡ true → function_entries (es ++ e ∷ []) ≡ function_entries es ++ operands_of e ∷ []
functions-one = picked-one (λ e. code_of e == 8) operands_of function_entries refl (λ e es. refl)

pub functions-same : (es : List Entry) (e : Entry) → (code_of e == 8) ≡ false → function_entries (es ++ e ∷ []) ≡ function_entries es
functions-same = picked-same (λ e. code_of e == 8) operands_of function_entries refl (λ e es. refl)

pub bodies-one : (fs : List (List ℕ)) (f : List ℕ) → has_body f ≡ true → with_bodies (fs ++ f ∷ []) ≡ with_bodies fs ++ f ∷ []
bodies-one = picked-one has_body (λ f. f) with_bodies refl (λ f fs. refl)

pub bodies-same : (fs : List (List ℕ)) (f : List ℕ) → has_body f ≡ false → with_bodies (fs ++ f ∷ []) ≡ with_bodies fs
bodies-same = picked-same has_body (λ f. f) with_bodies refl (λ f fs. refl)

-- a list that is seen through a function, with one more
pub map-one : {X Y : Type 0} (f : X → Y) (xs : List X) (x : X) → map f (xs ++ x ∷ []) ≡ map f xs ++ f x ∷ []
map-one f xs x = map-append f xs (x ∷ [])

pub map-take : {X Y : Type 0} (f : X → Y) (xs : List X) (i : ℕ) (d : X) → i < length xs → map f (take (i + 1) xs) ≡ map f (take i xs) ++ f (get_or xs i d) ∷ []
map-take f xs i d within = ap (map f) (take_more xs i d within) ∙ map-one f (take i xs) (get_or xs i d)

-- pointers among entries
pointer : ℕ → Entry
pointer ty = entry 8 (ty ∷ 0 ∷ [])

pub has-append : (es : List Entry) (e wanted : Entry) → has_entry (es ++ e ∷ []) wanted ≡ (has_entry es wanted || same_entry e wanted)
has-append [] e wanted = or-false (same_entry e wanted)
has-append (x ∷ es) e wanted = ap (λ b. same_entry x wanted || b) (has-append es e wanted) ∙ or-assoc (same_entry x wanted) (has_entry es wanted) (same_entry e wanted)

pub unmarked-pointer : (before : List Entry) (e : Entry) (pointed : List Bool) → MarksAmong before pointed →
    ((ty : ℕ) → ty < length pointed → same_entry e (entry 8 (ty ∷ 0 ∷ [])) ≡ false) → MarksAmong (before ++ e ∷ []) pointed
unmarked-pointer before e pointed marked none ty within =
    let wanted : Entry = entry 8 (ty ∷ 0 ∷ []) in
    marked ty within
    ∙ ap Some (sym (has-append before e wanted ∙ (ap (λ b. has_entry before wanted || b) (none ty within) ∙ or-false (has_entry before wanted))))

pub marked-pointer : (before : List Entry) (e : Entry) (pointed : List Bool) (to : ℕ) → to < length pointed → MarksAmong before pointed →
    ((ty : ℕ) → same_entry e (entry 8 (ty ∷ 0 ∷ [])) ≡ (to == ty)) → MarksAmong (before ++ e ∷ []) (set pointed to true)
marked-pointer before e pointed to within marked same ty inside = by_case (cases_order ty to) where
  inside_old : ty < length pointed
  inside_old = omega (arith, inside, length-set pointed to true)

  has : (b : Bool) → (to == ty) ≡ b → has_entry (before ++ e ∷ []) (entry 8 (ty ∷ 0 ∷ [])) ≡ (has_entry before (entry 8 (ty ∷ 0 ∷ [])) || b)
  has b is = has-append before e (entry 8 (ty ∷ 0 ∷ [])) ∙ ap (λ t. has_entry before (entry 8 (ty ∷ 0 ∷ [])) || t) (same ty ∙ is)

  other : (ty ≡ to → ⊥) → slice_get (set pointed to true) ty ≡ Some (has_entry (before ++ e ∷ []) (entry 8 (ty ∷ 0 ∷ [])))
  other ne =
      slice_get-get_or (set pointed to true) ty false inside
      ∙ (ap Some (get_or-set_other pointed to ty true false ne)
      ∙ (sym (slice_get-get_or pointed ty false inside_old)
      ∙ (marked ty inside_old
      ∙ ap Some (sym (has false (ne_eqb to ty (λ d. ne (sym d))) ∙ or-false (has_entry before (entry 8 (ty ∷ 0 ∷ []))))))))

  by_case : (ty ≡ to) ⊎ ((ty < to) ⊎ (to < ty)) → slice_get (set pointed to true) ty ≡ Some (has_entry (before ++ e ∷ []) (entry 8 (ty ∷ 0 ∷ [])))
  by_case (inl d) =
      slice_get-get_or (set pointed to true) ty false inside
      ∙ (ap (λ n. Some (get_or (set pointed to true) n false)) d
      ∙ (ap Some (get_or-set_same pointed to true false within)
      ∙ ap Some (sym (has true (eq-eqb to ty (sym d)) ∙ or-true (has_entry before (entry 8 (ty ∷ 0 ∷ [])))))))
  by_case (inr (inl lt)) = other (λ d. omega (arith, lt, d))
  by_case (inr (inr lt)) = other (λ d. omega (arith, lt, d))

-- one function more of a list of functions
pub body-step : (functions : List (Bor (List ℕ))) (i : ℕ) (d : Bor (List ℕ)) (old new : List (Bor (List ℕ))) → i < length functions →
    new ≡ old ++ get_or functions i d ∷ [] → true ≡ has_body (operands_form (get_or functions i d)) →
    map operands_form old ≡ with_bodies (map operands_form (take i functions)) → map operands_form new ≡ with_bodies (map operands_form (take (i + 1) functions))
body-step functions i d old new within pushed has so_far =
    ap (map operands_form) pushed
    ∙ (map-one operands_form old (get_or functions i d)
    ∙ (ap (λ fs. fs ++ operands_form (get_or functions i d) ∷ []) so_far
    ∙ (sym (bodies-one (map operands_form (take i functions)) (operands_form (get_or functions i d)) (sym has))
    ∙ ap with_bodies (sym (map-take operands_form functions i d within)))))

pub body-skip : (functions : List (Bor (List ℕ))) (i : ℕ) (d : Bor (List ℕ)) (old : List (Bor (List ℕ))) → i < length functions →
    false ≡ has_body (operands_form (get_or functions i d)) →
    map operands_form old ≡ with_bodies (map operands_form (take i functions)) → map operands_form old ≡ with_bodies (map operands_form (take (i + 1) functions))
body-skip functions i d old within has so_far =
    so_far
    ∙ (sym (bodies-same (map operands_form (take i functions)) (operands_form (get_or functions i d)) (sym has))
    ∙ ap with_bodies (sym (map-take operands_form functions i d within)))
