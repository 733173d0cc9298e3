-- Lists of four words, and of none.
use Rattle.std.proofs.Common.{◌≡◌, ℕ, ◌≤◌, ◌<◌, List, [], ◌∷◌, length, map, slice_index_or, sym, ap, subst, refl, ◌∙◌, arith}
use Rattle.std.proofs.lemmas.Bool.{eqb-true}
use Rattle.std.specs.Prelude.{codes, true, ◌==◌}
use Rattle.dxil_driver.specs.Commands.{Asks, a_check}
use Rattle.dxil_driver.specs.declared.command.Command.TheVariants.{Check}
use Rattle.dxil_driver.specs.Options.{Chooses, nothing, default_entry, options}
use Rattle.dxil_driver.specs.declared.options.Options.{Options}
use Rattle.dxil_driver.specs.declared.options.Target.TheVariants.{Cs60}

module _ {W : Type 0} (f : W → List ℕ) where
  pub no_words : (words : List W) (chosen : Options) → length words < 1 → chosen ≡ options default_entry Cs60 → Chooses (map f words) chosen
  no_words [] chosen below e = subst (Chooses []) (sym e) nothing
  no_words (w ∷ words) chosen below e = absurd (omega arith)

  pub four_words : (words : List W) (a b c d : W) (p q r s : List ℕ) → 4 ≤ length words → length words < 5
      → a ≡ slice_index_or words 0 a → b ≡ slice_index_or words 1 b → c ≡ slice_index_or words 2 c → d ≡ slice_index_or words 3 d
      → p ≡ f a → q ≡ f b → r ≡ f c → s ≡ f d → p ∷ q ∷ r ∷ s ∷ [] ≡ map f words
  four_words (w ∷ x ∷ y ∷ z ∷ []) a b c d p q r s at_least below ha hb hc hd ep eq er es =
      rw (ep ∙ ap f ha, eq ∙ ap f hb, er ∙ ap f hc, es ∙ ap f hd) refl
  four_words [] a b c d p q r s at_least below ha hb hc hd ep eq er es = absurd (omega arith)
  four_words (w ∷ []) a b c d p q r s at_least below ha hb hc hd ep eq er es = absurd (omega arith)
  four_words (w ∷ x ∷ []) a b c d p q r s at_least below ha hb hc hd ep eq er es = absurd (omega arith)
  four_words (w ∷ x ∷ y ∷ []) a b c d p q r s at_least below ha hb hc hd ep eq er es = absurd (omega arith)
  four_words (w ∷ x ∷ y ∷ z ∷ v ∷ words) a b c d p q r s at_least below ha hb hc hd ep eq er es = absurd (omega arith)

  -- no words behind the name
  pub only_check : (words : List W) (name : List ℕ) → true ≡ (length words == 0) → name ≡ codes "check" → Asks (name ∷ map f words) Check
  only_check [] name none e = a_check name e
  only_check (w ∷ words) name none e = let empty : length (w ∷ words) ≡ 0 = eqb-true (length (w ∷ words)) 0 (sym none) in absurd (omega (arith, empty))
