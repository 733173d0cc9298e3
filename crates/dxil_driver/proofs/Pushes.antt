-- Lists that grow part by part.
use Rattle.std.proofs.Common.{◌≡◌, List, [], ◌∷◌, ◌++◌}
use Rattle.std.proofs.lemmas.List.{append_assoc}

pub pushes_two : {A : Type 0} (old mid new : List A) (x y p q : A) → mid ≡ old ++ x ∷ [] → new ≡ mid ++ y ∷ [] → x ≡ p → y ≡ q → new ≡ old ++ (p ∷ q ∷ [])
pushes_two old mid new x y p q m n e f =
    let h : new ≡ old ++ (x ∷ y ∷ []) = rw n (rw m (rw append_assoc)) in
    rw (← e) (rw (← f) h)

pub extends_three : {A : Type 0} (old first second new : List A) (xs ys zs : List A) → first ≡ old ++ xs → second ≡ first ++ ys → new ≡ second ++ zs → new ≡ old ++ (xs ++ (ys ++ zs))
extends_three old first second new xs ys zs e f g =
    rw g (rw f (rw e (simp append_assoc)))
