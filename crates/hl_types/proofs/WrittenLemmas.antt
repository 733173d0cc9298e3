-- The arguments that are written and can't be, one after another.
use Rattle.std.proofs.Common.{◌≡◌, ◌∙◌, refl, sym, ap, ℕ, zero, suc, ◌+◌, ◌<◌, ◌≤◌, Bool, List, [], ◌∷◌, ◌++◌, drop, length, get_or, map, Option, arith}
use Rattle.std.proofs.lemmas.List.{at_drop_all, at_drop_more, map-append}
use Rattle.hl_meaning.specs.declared.program.Copying.{Copying}
use Rattle.hl_meaning.specs.declared.program.Copying.TheVariants.{CopyIn}
use Rattle.hl_meaning.specs.Types.{Ty}
use Rattle.hl_meaning.specs.Views.{plain_ty}
use Rattle.hl_overload.specs.declared.choice.Param as held
use Rattle.hl_overload.specs.Choice.{Param}
use Rattle.hl_overload.specs.Views.{plain_params}
use Rattle.hl_parser.specs.declared.tree.Tree as held_tree
use Rattle.hl_parser.specs.Trees.{Tree, Trees, more_trees, no_trees, at_of}
use Rattle.hl_parser.specs.Views.{plain_of, plain_trees}
use Rattle.hl_rules.specs.declared.found.Broken.{Broken}
use Rattle.hl_rules.specs.ExpressionRules.{unwritable_arguments}
use Rattle.hl_rules.specs.Found.{breaking, broken, broken_if, gathered}
use Rattle.hl_rules.specs.Scopes.{Scope}
use Rattle.hl_rules.specs.Values.{standing_in, value_of, values_of}
use Rattle.hl_rules.proofs.Noting.{gathered-append}
use Rattle.hl_values.specs.declared.typed.Typed.{Typed}
use Rattle.hl_values.specs.Views.{plain_standing, plain_value}
use Rattle.hl_types.specs.Calls.{is_unwritable_for}

-- ---- arguments and what is known of them

pub as-many : (s : Scope) (trees : List held_tree.Tree) (args : List Typed) → values_of s (plain_trees trees) ≡ map plain_value args → length trees ≡ length args
as-many s [] [] e = refl
as-many s [] (arg ∷ args) e = absurd (cc e)
as-many s (tree ∷ trees) [] e = absurd (cc e)
as-many s (tree ∷ trees) (arg ∷ args) e =
    let rest : values_of s (plain_trees trees) ≡ map plain_value args = cc e in
    ap suc (as-many s trees args rest)

pub known-at : (s : Scope) (trees : List held_tree.Tree) (args : List Typed) (i : ℕ) (tree : held_tree.Tree) (arg : Typed) → values_of s (plain_trees trees) ≡ map plain_value args → i < length trees → value_of s (plain_of (get_or trees i tree)) ≡ plain_value (get_or args i arg)
known-at s [] args i tree arg e within = absurd (omega arith)
known-at s (t ∷ trees) [] i tree arg e within = absurd (cc e)
known-at s (t ∷ trees) (a ∷ args) zero tree arg e within = cc e
known-at s (t ∷ trees) (a ∷ args) (suc i) tree arg e within =
    let rest : values_of s (plain_trees trees) ≡ map plain_value args = cc e in
    known-at s trees args i tree arg rest (omega arith)

-- ---- what is left of them

abbrev pub written_from : Scope → List held.Param → List held_tree.Tree → ℕ → List ℕ
written_from s params trees i = unwritable_arguments s (plain_params (drop i params)) (plain_trees (drop i trees))

first-written : (s : Scope) (ty : Ty) (copying : Copying) (params : List Param) (first : Tree) (rest : Trees) → unwritable_arguments s (record { ty = ty; copying = copying } ∷ params) (more_trees first rest) ≡ broken_if (is_unwritable_for copying (standing_in s first)) (at_of first) ++ unwritable_arguments s params rest
first-written s ty CopyIn params first rest = refl
first-written s ty _ params first rest = refl

no-trees : (s : Scope) (params : List Param) → unwritable_arguments s params no_trees ≡ []
no-trees s [] = refl
no-trees s (p ∷ params) = refl

module _ (s : Scope) (params : List held.Param) (trees : List held_tree.Tree) (args : List Typed) (i : ℕ) (old whole : Option Broken) (same : values_of s (plain_trees trees) ≡ map plain_value args) (inv : gathered old (breaking 37 (written_from s params trees i)) ≡ whole) where
  left-more : (param : held.Param) (tree : held_tree.Tree) (arg : Typed) → i < length params → i < length trees →
      written_from s params trees i ≡ broken_if (is_unwritable_for (get_or params i param).copying (plain_standing (get_or args i arg).standing)) (at_of (plain_of (get_or trees i tree))) ++ written_from s params trees (i + 1)
  left-more param tree arg within within_trees =
      at_drop_more (λ l. unwritable_arguments s (plain_params l) (plain_trees (drop i trees))) params i param within ∙
      (at_drop_more (λ l. unwritable_arguments s (plain_params (get_or params i param ∷ drop (i + 1) params)) (plain_trees l)) trees i tree within_trees ∙
      (first-written s (plain_ty (get_or params i param).ty) (get_or params i param).copying (plain_params (drop (i + 1) params)) (plain_of (get_or trees i tree)) (plain_trees (drop (i + 1) trees)) ∙
      ap (λ v. broken_if (is_unwritable_for (get_or params i param).copying v.standing) (at_of (plain_of (get_or trees i tree))) ++ written_from s params trees (i + 1))
      (known-at s trees args i tree arg same within_trees)))

  pub written-step : (param : held.Param) (tree : held_tree.Tree) (arg : Typed) (is : Bool) (at : ℕ) (next : Option Broken) → i < length params → i < length trees →
      param ≡ get_or params i param → tree ≡ get_or trees i tree → arg ≡ get_or args i arg →
      is ≡ is_unwritable_for param.copying (plain_standing arg.standing) → at ≡ at_of (plain_of tree) → next ≡ gathered old (breaking 37 (broken_if is at)) →
      gathered next (breaking 37 (written_from s params trees (i + 1))) ≡ whole
  written-step param tree arg is at next within within_trees param_is tree_is arg_is test place e =
      let own : broken_if is at ≡ broken_if (is_unwritable_for (get_or params i param).copying (plain_standing (get_or args i arg).standing)) (at_of (plain_of (get_or trees i tree))) =
      ap (λ b. broken_if b at) (test ∙ (ap (λ (p : held.Param). is_unwritable_for p.copying (plain_standing arg.standing)) param_is ∙ ap (λ (a : Typed). is_unwritable_for (get_or params i param).copying (plain_standing a.standing)) arg_is)) ∙
      ap (λ n. broken_if (is_unwritable_for (get_or params i param).copying (plain_standing (get_or args i arg).standing)) n) (place ∙ ap (λ (t : held_tree.Tree). at_of (plain_of t)) tree_is) in
      ap (λ g. gathered g (breaking 37 (written_from s params trees (i + 1)))) e ∙
      (sym (gathered-append old (breaking 37 (broken_if is at)) (breaking 37 (written_from s params trees (i + 1)))) ∙
      (ap (gathered old) (sym (map-append (λ n. broken n 37) (broken_if is at) (written_from s params trees (i + 1)))) ∙
      (ap (λ l. gathered old (breaking 37 (l ++ written_from s params trees (i + 1)))) own ∙
      (ap (λ l. gathered old (breaking 37 l)) (sym (left-more param tree arg within within_trees)) ∙ inv))))

  pub written-end : length params ≤ i → old ≡ whole
  written-end past = sym (at_drop_all (λ l. gathered old (breaking 37 (unwritable_arguments s (plain_params l) (plain_trees (drop i trees))))) params i past) ∙ inv

  pub written-stop : length trees ≤ i → old ≡ whole
  written-stop past =
      ap (λ l. gathered old (breaking 37 l)) (sym (no-trees s (plain_params (drop i params)))) ∙
      (sym (at_drop_all (λ l. gathered old (breaking 37 (unwritable_arguments s (plain_params (drop i params)) (plain_trees l)))) trees i past) ∙ inv)

  pub written-none : length args ≤ i → old ≡ whole
  written-none past = written-stop (omega (arith, as-many s trees args same))
