-- A constant whose initialiser breaks no rule has the words of its type.
use Rattle.std.proofs.Common.{◌≡◌, ◌∙◌, sym, ap, arith, ℕ, true, false, not, List, [], ◌∷◌, length, Option, Some}
use Rattle.std.specs.Prelude.{◌==◌, ◌||◌}
use Rattle.std.specs.List.{list_any}
use Rattle.hl_parser.specs.Trees.{Tree, absent, an_init, at_of, present}
use Rattle.hl_meaning.specs.declared.ty.Kind.{Kind}
use Rattle.hl_meaning.specs.Types.{Ty, is_scalar}
use Rattle.hl_rules.specs.DeclarationRules.{are_constant_inits, is_other, leaves_among}
use Rattle.hl_rules.specs.Elaboration.{init_words}
use Rattle.hl_rules.specs.Parts.{a_brace_init, a_constant_init, site}
use Rattle.hl_rules.specs.Scopes.{Scope, words_if}
use Rattle.hl_rules.specs.Sites.{constant_sites, init_sites, leaves_sites}
use Rattle.hl_rules.specs.Values.{type_in, is_known}
use Rattle.hl_rules.proofs.ConstantForms.{HasWords, brace-words, is_constant_leaf, value-words}
use Rattle.hl_rules.proofs.Fitting.{IsKnown}
use Rattle.hl_rules.proofs.Free.{IsFree, free-first, free-left, free-right, not_broken}
use Rattle.hl_rules.proofs.Options.{not-false, or-one}

same-count : (m n : ℕ) → not (m == n) ≡ false → m ≡ n
same-count m n e = grind arith

-- the words of a constant are there
pub constant-words : (s : Scope) → IsKnown s → (ty : Option Ty) (init : Tree) (kinds : List Kind) → words_if s.structs ty ≡ Some (length kinds) → IsFree (constant_sites s ty init) → HasWords kinds (init_words s kinds init)
constant-words s known ty (an_init at (present value) parts) kinds words free =
    value-words s known kinds at value parts (not-false (is_constant_leaf s value)
    (not_broken (not (is_constant_leaf s value)) at
    (free-first (site s (a_constant_init init)) [] (free-right (init_sites s ty init) (site s (a_constant_init init) ∷ []) free)).obeys_9))
  where
    init : Tree
    init = an_init at (present value) parts
constant-words s known ty (an_init at absent parts) kinds words free =
    brace-words s known kinds at parts
    (same-count (length (leaves_among parts)) (length kinds)
    (ap (λ o. is_other (length (leaves_among parts)) o) (sym words)
    ∙ or-one (is_other (length (leaves_among parts)) (words_if s.structs ty)) (list_any (λ leaf. is_known (λ x. not (is_scalar x)) (type_in s leaf)) (leaves_among parts))
    (not_broken (is_other (length (leaves_among parts)) (words_if s.structs ty) || list_any (λ leaf. is_known (λ x. not (is_scalar x)) (type_in s leaf)) (leaves_among parts)) at
    (free-first (site s (a_brace_init init ty)) []
    (free-right (leaves_sites s parts) (site s (a_brace_init init ty) ∷ [])
    (free-left (init_sites s ty init) (site s (a_constant_init init) ∷ []) free))).obeys_10)))
    (not-false (are_constant_inits s parts)
    (not_broken (not (are_constant_inits s parts)) at
    (free-first (site s (a_constant_init init)) [] (free-right (init_sites s ty init) (site s (a_constant_init init) ∷ []) free)).obeys_9))
  where
    init : Tree
    init = an_init at absent parts
constant-words s known ty other kinds words free =
    absurd (cc (not_broken true (at_of other)
    (free-first (site s (a_constant_init other)) [] (free-right (init_sites s ty other) (site s (a_constant_init other) ∷ []) free)).obeys_9))
