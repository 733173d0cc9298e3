-- Four words with commas between.
use Rattle.std.proofs.Common.{◌≡◌, ◌∙◌, refl, ap, ℕ, List, [], ◌∷◌}
use Rattle.std.specs.Prelude.{Option}
use Rattle.lane_core.specs.declared.event.Reply.{Reply}
use Rattle.trace_driver.specs.Requests.{before_comma, behind_comma, four_parts, reply_of, reply_with}

-- a text is read from the front
pub reply_is : (text behind more a b c d : List ℕ) (reply : Option Reply) → a ≡ before_comma text → behind ≡ behind_comma text → b ≡ before_comma behind
    → more ≡ behind_comma behind → c ≡ before_comma more → d ≡ behind_comma more → reply ≡ reply_with (a ∷ b ∷ c ∷ d ∷ []) → reply ≡ reply_of text
reply_is text behind more a b c d reply first rest second rest' third fourth is = is ∙ ap reply_with parts where
  parts : a ∷ b ∷ c ∷ d ∷ [] ≡ four_parts text
  parts = rw (first, second, third, fourth, rest', rest) refl
