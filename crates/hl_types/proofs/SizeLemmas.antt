-- How large types may be.
use Rattle.std.proofs.Common.{◌≡◌, refl, sym, ap, ℕ, ◌^◌, ◌<◌, Bool, true, false, if◌then◌else◌, nat_lt, Option, None, Some, option_map, arith}
use Rattle.std.proofs.lemmas.Bool.{lt-ltb, ltb-false}
use Rattle.hl_rules.specs.DeclarationRules.{is_more}
use Rattle.hl_values.specs.declared.words.WordCount.{WordCount}
use Rattle.hl_values.specs.declared.words.WordCount.TheVariants.{Few, Many}
use Rattle.hl_values.specs.WordCounts.{counted}

pub few-above : (most count known : ℕ) → Few count ≡ counted known → nat_lt most count ≡ nat_lt most known
few-above most count known e = by (nat_lt known (2 ^ 64)) e
  where
    by : (b : Bool) → Few count ≡ (if b then Few known else Many) → nat_lt most count ≡ nat_lt most known
    by true h = ap (nat_lt most) (cc h)
    by false h = absurd (cc h)

pub many-above : (most known : ℕ) → most < 2 ^ 64 → Many ≡ counted known → true ≡ nat_lt most known
many-above most known small e = by (nat_lt known (2 ^ 64)) refl e
  where
    by : (b : Bool) → nat_lt known (2 ^ 64) ≡ b → Many ≡ (if b then Few known else Many) → true ≡ nat_lt most known
    by true is h = absurd (cc h)
    by false is h = let more = ltb-false known (2 ^ 64) is in sym (lt-ltb most known (omega (arith, small, more)))

pub above-known : (most : ℕ) (words : WordCount) (above : Bool) (known : Option ℕ) → ((n : ℕ) → words ≡ counted n → above ≡ nat_lt most n)
    → Some words ≡ option_map counted known → above ≡ is_more most known
above-known most words above None is e = absurd (cc e)
above-known most words above (Some n) is e = is n (cc e)

pub above-none : (most : ℕ) (known : Option ℕ) → None ≡ option_map counted known → false ≡ is_more most known
above-none most None e = refl
above-none most (Some n) e = absurd (cc e)
