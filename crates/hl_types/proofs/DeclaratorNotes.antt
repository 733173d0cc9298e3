-- What declarators break.
use Rattle.std.proofs.Common.{◌≡◌, ◌∙◌, refl, sym, ap, ℕ, suc, ◌+◌, ◌==◌, ◌||◌, Bool, true, false, not, [], ◌∷◌, ◌++◌, Option, None, Some, add-one, append_assoc, is_none, is_some}
use Rattle.std.specs.Option.{option_copied}
use denote.Ref.{Bor}
use Rattle.hl_parser.specs.Trees.{Tree, Trees, a_declarator, at_of, more_trees}
use Rattle.hl_meaning.specs.Types.{Ty}
use Rattle.hl_meaning.specs.WellFormed.{most_words}
use Rattle.hl_rules.specs.declared.found.Broken.{Broken}
use Rattle.hl_rules.specs.Constants.{array_length, declarator_type, length_if, most_lengths}
use Rattle.hl_rules.specs.DeclarationRules.{is_more, is_other_sort, is_struct_sort}
use Rattle.hl_rules.specs.Found.{breaking, broken_if, gathered}
use Rattle.hl_rules.specs.Parts.{a_declared, a_length, a_type_name, site}
use Rattle.hl_rules.specs.Rules.{noted}
use Rattle.hl_rules.specs.Scopes.{Scope, Sort, sort_at, words_if}
use Rattle.hl_rules.specs.Sites.{declarator_sites, lengths_sites, value_sites}
use Rattle.hl_rules.proofs.Noting.{noted-append, noted-declared, noted-length, noted-type_name}
use Rattle.hl_values.specs.declared.scope.Sort.{Sort as HeldSort}
use Rattle.hl_values.specs.declared.typed.Typed.{Typed}
use Rattle.hl_values.specs.ScopeViews.{plain_sort_if}
use Rattle.hl_values.specs.TypedViews.{IsTyped}

-- ---- the name of a type

pub type_name-noted : (s : Scope) (at : ℕ) (f0 f1 f2 : Option Broken) (sort : Option Sort) (missing other : Bool) → sort ≡ sort_at s at
    → missing ≡ is_none sort → f1 ≡ gathered f0 (breaking 3 (broken_if missing at))
    → other ≡ is_other_sort is_struct_sort sort → f2 ≡ gathered f1 (breaking 4 (broken_if other at))
    → f2 ≡ noted f0 (site s (a_type_name at) ∷ [])
type_name-noted s at f0 f1 f2 sort missing other is is_missing first is_other second =
    second ∙ (ap (λ b. gathered f1 (breaking 4 (broken_if b at))) (is_other ∙ ap (is_other_sort is_struct_sort) is) ∙
    (ap (λ f. gathered f (breaking 4 (broken_if (is_other_sort is_struct_sort (sort_at s at)) at))) (first ∙ ap (λ b. gathered f0 (breaking 3 (broken_if b at))) (is_missing ∙ ap is_none is)) ∙
    sym (noted-type_name f0 s at)))

pub missing-is : (sort : Option (Bor HeldSort)) → is_none sort ≡ is_none (plain_sort_if (option_copied sort))
missing-is None = refl
missing-is (Some sort) = refl

not-not : (b : Bool) → b ≡ not (not b)
not-not true = refl
not-not false = refl

pub none-is : {A : Type 0} (o : Option A) (b : Bool) → is_some o ≡ not b → b ≡ is_none o
none-is None b e = not-not b ∙ ap not (sym e)
none-is (Some x) b e = not-not b ∙ ap not (sym e)

-- ---- lengths

pub lengths-turn : (s : Scope) (before : ℕ) (t : Tree) (rest : Trees)
    → lengths_sites s before (more_trees t rest) ≡ (value_sites s t ++ site s (a_length before t) ∷ []) ++ lengths_sites s (before + 1) rest
lengths-turn s before t rest =
    let here = site s (a_length before t) ∷ [] in
    sym (append_assoc (value_sites s t) here (lengths_sites s (suc before) rest)) ∙ ap (λ n. (value_sites s t ++ here) ++ lengths_sites s n rest) (sym (add-one before))

pub length-noted : (s : Scope) (before : ℕ) (e : Tree) (t : Typed) (f0 f1 f2 : Option Broken) (refused : Bool) (at : ℕ) → IsTyped s e t
    → f1 ≡ noted f0 (value_sites s e) → refused ≡ (is_none (length_if t.number) || before == most_lengths) → at ≡ at_of e
    → f2 ≡ gathered f1 (breaking 6 (broken_if refused at))
    → f2 ≡ noted f0 (value_sites s e ++ site s (a_length before e) ∷ [])
length-noted s before e t f0 f1 f2 refused at typed inner is place e' =
    let f = noted f0 (value_sites s e) in
    e' ∙ (ap (λ g. gathered g (breaking 6 (broken_if refused at))) inner ∙
    (ap (λ b. gathered f (breaking 6 (broken_if b at))) (is ∙ ap (λ n. is_none (length_if n) || before == most_lengths) typed.number) ∙
    (ap (λ n. gathered f (breaking 6 (broken_if (is_none (array_length s e) || before == most_lengths) n))) place ∙
    sym (noted-append f0 (value_sites s e) (site s (a_length before e) ∷ []) ∙ noted-length f s before e))))

-- ---- declarators

pub declarator-noted : (s : Scope) (ty : Option Ty) (at : ℕ) (lengths : Trees) (own : Option Ty) (f0 f1 f2 : Option Broken) (large : Bool)
    → f1 ≡ noted f0 (lengths_sites s 0 lengths) → own ≡ declarator_type s ty (a_declarator at lengths) → large ≡ is_more most_words (words_if s.structs own)
    → f2 ≡ gathered f1 (breaking 42 (broken_if large at)) → f2 ≡ noted f0 (declarator_sites s ty (a_declarator at lengths))
declarator-noted s ty at lengths own f0 f1 f2 large inner is is_large e =
    let full = declarator_type s ty (a_declarator at lengths) in
    let f = noted f0 (lengths_sites s 0 lengths) in
    e ∙ (ap (λ g. gathered g (breaking 42 (broken_if large at))) inner ∙
    (ap (λ b. gathered f (breaking 42 (broken_if b at))) (is_large ∙ ap (λ o. is_more most_words (words_if s.structs o)) is) ∙
    sym (noted-append f0 (lengths_sites s 0 lengths) (site s (a_declared at full) ∷ []) ∙ noted-declared f s at full)))
