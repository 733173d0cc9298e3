-- A block list has at most one fault.
use Rattle.std.proofs.Common.{◌≡◌, ℕ, suc, ◌≤◌, List, [], ◌∷◌, ◌++◌, length, ap, sym, ◌∙◌, subst, arith}
use Rattle.std.specs.Prelude.{All, Contains}
use Rattle.bc_records.specs.FaultSites.{Site, site, IsFree}
use Rattle.bc_records.specs.RecordFaults.{OneRecordFault}
use Rattle.bc_records.proofs.BodiesOnce.{parts_same}

all_head : {A : Type 0} (P : A → Type 0) (x : A) (xs : List A) → All P (x ∷ xs) → P x
all_head P x xs all = all 0 x (omega arith)

all_tail : {A : Type 0} (P : A → Type 0) (x : A) (xs : List A) → All P (x ∷ xs) → All P xs
all_tail P x xs all = λ k d within. all (suc k) d (omega arith)

first_same : (ps qs : List Site) (x y : Site) (xs ys : List Site) → ps ++ x ∷ xs ≡ qs ++ y ∷ ys →
    All IsFree ps → All IsFree qs → (IsFree x → ⊥) → (IsFree y → ⊥) → x ≡ y
first_same [] [] x y xs ys same free others p q = (parts_same x y xs ys same).0
first_same [] (z ∷ qs) x y xs ys same free others p q =
    absurd (p (subst IsFree (sym (parts_same x z xs (qs ++ y ∷ ys) same).0) (all_head IsFree z qs others)))
first_same (z ∷ ps) [] x y xs ys same free others p q =
    absurd (q (subst IsFree (parts_same z y (ps ++ x ∷ xs) ys same).0 (all_head IsFree z ps free)))
first_same (z ∷ ps) (w ∷ qs) x y xs ys same free others p q =
    first_same ps qs x y xs ys (parts_same z w (ps ++ x ∷ xs) (qs ++ y ∷ ys) same).1 (all_tail IsFree z ps free) (all_tail IsFree w qs others) p q

-- a place with a kind isn't free
not_free : (kind block at : ℕ) (kinds : List ℕ) → Contains kinds kind → IsFree (site block at kinds) → ⊥
not_free kind block at kinds has free = omega (arith, has.1, ap length free)

least_same : (k l : ℕ) (kinds : List ℕ) → Contains kinds k → Contains kinds l → All (λ other. k ≤ other) kinds → All (λ other. l ≤ other) kinds → k ≡ l
least_same k l kinds p q r s =
    let low : k ≤ l = subst (λ n. k ≤ n) q.2 (r q.0 l q.1) in
    let high : l ≤ k = subst (λ n. l ≤ n) p.2 (s p.0 k p.1) in
    omega (arith, low, high)

pub one_record_fault : OneRecordFault
one_record_fault blocks kind block at other number place f g =
    let same : site block at f.kinds ≡ site number place g.kinds
    = first_same f.before g.before (site block at f.kinds) (site number place g.kinds) f.after g.after (sym f.order ∙ g.order) f.first g.first
    (not_free kind block at f.kinds f.has) (not_free other number place g.kinds g.has) in
    let kinds : f.kinds ≡ g.kinds = ap (λ (s : Site). s.kinds) same in
    let kind_same : kind ≡ other = least_same kind other g.kinds (subst (λ ks. Contains ks kind) kinds f.has) g.has (subst (All (λ o. kind ≤ o)) kinds f.least) g.least in
    (kind_same, ap (λ (s : Site). s.block) same, ap (λ (s : Site). s.at) same)
