-- The threads of an entry that breaks no rule.
use Rattle.std.proofs.Common.{◌≡◌, refl, ℕ, ◌≤◌, ◌*◌, Bool, true, false, if◌then◌else◌, nat_le, List, [], ◌∷◌, Option, None, Some}
use Rattle.std.specs.Prelude.{◌&&◌, ◌||◌, not}
use Rattle.hl_parser.specs.Trees.{Trees, an_attribute, more_trees, no_trees}
use Rattle.hl_meaning.specs.WellFormed.{AreThreads}
use Rattle.hl_rules.specs.Constants.{constant_number}
use Rattle.hl_rules.specs.DeclarationRules.{are_threads, has_numthreads, have_threads, is_from_one_to}
use Rattle.hl_rules.specs.Elaboration.{attribute_threads, thread_numbers}
use Rattle.hl_rules.specs.Expressions.{with_two}
use Rattle.hl_rules.specs.Parts.{a_function_attribute, site}
use Rattle.hl_rules.specs.Scopes.{Scope}
use Rattle.hl_rules.specs.Sites.{arguments_sites, function_attributes_sites, is_numthreads}
use Rattle.hl_rules.proofs.TypeLemmas.{and-left, and-right}
use Rattle.hl_rules.proofs.Free.{IsFree, free-first, free-rest, free-right, not_broken}
use Rattle.hl_rules.proofs.Options.{no-more, not-both}

-- threads are there
pub record HasThreads (found : Option (List ℕ)) : Type 0 where
  pub threads : List ℕ
  pub is : found ≡ Some threads
  pub are : AreThreads threads

one_to : (most number : ℕ) → is_from_one_to most number ≡ true → (1 ≤ number) × (number ≤ most)
one_to most number e = (no-more 1 number (and-left (nat_le 1 number) (nat_le number most) e), no-more number most (and-right (nat_le 1 number) (nat_le number most) e))

three-threads : (x y z : Option ℕ) → are_threads x y z ≡ true → HasThreads (with_two (λ number numbers. Some (number ∷ numbers)) x (with_two (λ number numbers. Some (number ∷ numbers)) y (with_two (λ number numbers. Some (number ∷ numbers)) z (Some []))))
three-threads None y z e = absurd (cc e)
three-threads (Some x) None z e = absurd (cc e)
three-threads (Some x) (Some y) None e = absurd (cc e)
three-threads (Some x) (Some y) (Some z) e =
    let behind = and-right (is_from_one_to 1024 x) (is_from_one_to 1024 y && (is_from_one_to 64 z && nat_le (x * y * z) 1024)) e in
    let last = and-right (is_from_one_to 1024 y) (is_from_one_to 64 z && nat_le (x * y * z) 1024) behind in
    let first = one_to 1024 x (and-left (is_from_one_to 1024 x) (is_from_one_to 1024 y && (is_from_one_to 64 z && nat_le (x * y * z) 1024)) e) in
    let second = one_to 1024 y (and-left (is_from_one_to 1024 y) (is_from_one_to 64 z && nat_le (x * y * z) 1024) behind) in
    let third = one_to 64 z (and-left (is_from_one_to 64 z) (nat_le (x * y * z) 1024) last) in
    record {
      threads = x ∷ y ∷ z ∷ [];
      is = refl;
      are = (first.0, first.1, second.0, second.1, third.0, third.1, no-more (x * y * z) 1024 (and-right (is_from_one_to 64 z) (nat_le (x * y * z) 1024) last));
    }

numbers-there : (s : Scope) (arguments : Trees) → have_threads s arguments ≡ true → HasThreads (thread_numbers s arguments)
numbers-there s no_trees e = absurd (cc e)
numbers-there s (more_trees x no_trees) e = absurd (cc e)
numbers-there s (more_trees x (more_trees y no_trees)) e = absurd (cc e)
numbers-there s (more_trees x (more_trees y (more_trees z no_trees))) e = three-threads (constant_number s x) (constant_number s y) (constant_number s z) e
numbers-there s (more_trees x (more_trees y (more_trees z (more_trees w rest)))) e = absurd (cc e)

-- a `numthreads` that breaks no rule gives threads
pub threads-there : (s : Scope) (again : Bool) (attributes : Trees) → IsFree (function_attributes_sites s again attributes) → has_numthreads s attributes ≡ true → HasThreads (attribute_threads s attributes)
threads-there s again no_trees free e = absurd (cc e)
threads-there s again (more_trees (an_attribute at name arguments) rest) free e =
    on (is_numthreads s name)
    (λ h. threads-there s (again || is_numthreads s name) rest
    (free-rest (site s (a_function_attribute again name at arguments)) (function_attributes_sites s (again || is_numthreads s name) rest) own) h)
    refl e
  where
    own : IsFree (site s (a_function_attribute again name at arguments) ∷ function_attributes_sites s (again || is_numthreads s name) rest)
    own = free-right (arguments_sites s arguments) (site s (a_function_attribute again name at arguments) ∷ function_attributes_sites s (again || is_numthreads s name) rest) free

    on : (named : Bool) → (has_numthreads s rest ≡ true → HasThreads (attribute_threads s rest)) → is_numthreads s name ≡ named → named || has_numthreads s rest ≡ true → HasThreads (if named then thread_numbers s arguments else attribute_threads s rest)
    on true behind e h =
        numbers-there s arguments
        (not-both (is_numthreads s name) (have_threads s arguments)
        (not_broken (is_numthreads s name && not (have_threads s arguments)) _
        (free-first (site s (a_function_attribute again name at arguments)) (function_attributes_sites s (again || is_numthreads s name) rest) own).obeys_15) e)
    on false behind e h = behind h
threads-there s again (more_trees other rest) free e = threads-there s again rest free e
