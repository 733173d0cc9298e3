-- What a matched option says.
use Rattle.std.proofs.Common.{◌≡◌, Option, None, Some, sym, subst}
use Rattle.std.specs.Prelude.{MatchOption}
use Rattle.std.proofs.lemmas.Option.{none-some, same_Some}

module _ {X : Type 0} (N : Type 0) (P : X → Type 0) where
  pub none_says : (found : Option X) → MatchOption found N P → found ≡ None → N
  none_says None says e = says
  none_says (Some x) says e = absurd (none-some x (sym e))

  pub some_says : (found : Option X) (x : X) → MatchOption found N P → found ≡ Some x → P x
  some_says None x says e = absurd (none-some x e)
  some_says (Some y) x says e = subst P (same_Some y x e) says
