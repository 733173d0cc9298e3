-- Truth values, and whether calls stand in lists of operands.
use Rattle.std.proofs.Common.{◌≡◌, ◌∙◌, refl, ap, sym, ◌||◌, Bool, false, true, List, [], ◌∷◌, ◌++◌}
use Rattle.hl_inline.specs.Emitting.{Emitter, any_call}

pub or-false : (b : Bool) → (b || false) ≡ b
or-false true = refl
or-false false = refl

pub or-assoc : (a b c : Bool) → ((a || b) || c) ≡ (a || (b || c))
or-assoc true b c = refl
or-assoc false b c = refl

pub any-append : (xs ys : List Emitter) → any_call (xs ++ ys) ≡ (any_call xs || any_call ys)
any-append [] ys = refl
any-append (e ∷ xs) ys = ap (λ b. e.has_call || b) (any-append xs ys) ∙ sym (or-assoc e.has_call (any_call xs) (any_call ys))
