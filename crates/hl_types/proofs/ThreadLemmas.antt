-- The threads that attributes give, one attribute after the other.
use Rattle.std.proofs.Common.{◌≡◌, ◌≢◌, ◌∙◌, refl, sym, ap, ℕ, Bool, true, false, ◌||◌, if◌then◌else◌, List, [], ◌∷◌, length, Option, None, Some, get_or, is_some}
use Rattle.hl_parser.specs.declared.tree.Tree.{Tree, Tree-F, out-Tree}
use Rattle.hl_parser.specs.declared.tree.Tree.TheVariants.{rolls-Attribute}
use Rattle.hl_parser.specs.declared.tree.Tree.TheVariants as variants
use Rattle.hl_parser.specs.Trees as plain
use Rattle.hl_parser.specs.Trees.{Trees, more_trees, no_trees, an_attribute}
use Rattle.hl_parser.specs.Views.{plain_of, plain_trees}
use Rattle.hl_rules.specs.Constants.{constant_number}
use Rattle.hl_rules.specs.DeclarationRules.{are_threads, has_numthreads, have_threads}
use Rattle.hl_rules.specs.Elaboration.{attribute_threads, thread_numbers}
use Rattle.hl_rules.specs.Expressions.{with_two}
use Rattle.hl_rules.specs.Scopes.{Scope}
use Rattle.hl_rules.specs.Sites.{is_numthreads}
use Rattle.hl_types.specs.Threads.{group_threads, numthreads_in, only_three, three_numbers}
use Rattle.hl_types.proofs.DeclaredShapes.{by_layer, layer, of_layer}

-- ---- attributes

abbrev pub IsNoAttribute : Tree → Type 0
IsNoAttribute tree = (at name : ℕ) (arguments : List Tree) → tree ≡ variants.Attribute at name arguments → ⊥

none-other : (s : Scope) (tree : Tree) (form : Tree-F Tree) → out-Tree tree ≡ form → IsNoAttribute tree → numthreads_in s (layer form) ≡ None
none-other s tree (Tree-F.Attribute at name arguments) e a = absurd (a at name arguments (of_layer tree (Tree-F.Attribute at name arguments) e ∙ rolls-Attribute at name arguments))
none-other s tree form e a = refl

pub numthreads_in-none : (s : Scope) (tree : Tree) → IsNoAttribute tree → numthreads_in s (plain_of tree) ≡ None
numthreads_in-none s tree a = ap (numthreads_in s) (by_layer tree) ∙ none-other s tree (out-Tree tree) refl a

pub has_numthreads-more : (s : Scope) (t : plain.Tree) (rest : Trees) → has_numthreads s (more_trees t rest) ≡ (is_some (numthreads_in s t) || has_numthreads s rest)
has_numthreads-more s (an_attribute at name arguments) rest = by_test (is_numthreads s name) arguments (has_numthreads s rest)
  where
    by_test : (b : Bool) (arguments : Trees) (r : Bool) → (b || r) ≡ (is_some (if b then Some arguments else None) || r)
    by_test true arguments r = refl
    by_test false arguments r = refl
has_numthreads-more s t rest = refl

-- the threads of an attribute, or else those of the others
abbrev pub threads_or : Scope → Option Trees → Trees → Option (List ℕ)
threads_or s (Some arguments) rest = three_numbers s arguments
threads_or s None rest = group_threads s rest

pub group_threads-more : (s : Scope) (t : plain.Tree) (rest : Trees) → group_threads s (more_trees t rest) ≡ threads_or s (numthreads_in s t) rest
group_threads-more s (an_attribute at name arguments) rest = by_test (is_numthreads s name)
  where
    by_test : (b : Bool) → only_three (if b then thread_numbers s arguments else attribute_threads s rest) ≡ threads_or s (if b then Some arguments else None) rest
    by_test true = refl
    by_test false = refl
group_threads-more s t rest = refl

-- ---- three numbers

long-none : (numbers : Option (List ℕ)) (x y z w : Option ℕ) → only_three (with_two (λ n ns. Some (n ∷ ns)) x (with_two (λ n ns. Some (n ∷ ns)) y (with_two (λ n ns. Some (n ∷ ns)) z (with_two (λ n ns. Some (n ∷ ns)) w numbers)))) ≡ None
long-none numbers None y z w = refl
long-none numbers (Some x) None z w = refl
long-none numbers (Some x) (Some y) None w = refl
long-none numbers (Some x) (Some y) (Some z) None = refl
long-none None (Some x) (Some y) (Some z) (Some w) = refl
long-none (Some ns) (Some x) (Some y) (Some z) (Some w) = refl

short-1 : (x : Option ℕ) → only_three (with_two (λ n ns. Some (n ∷ ns)) x (Some [])) ≡ None
short-1 None = refl
short-1 (Some x) = refl

short-2 : (x y : Option ℕ) → only_three (with_two (λ n ns. Some (n ∷ ns)) x (with_two (λ n ns. Some (n ∷ ns)) y (Some []))) ≡ None
short-2 None y = refl
short-2 (Some x) None = refl
short-2 (Some x) (Some y) = refl

pub three_numbers-absent : (s : Scope) (arguments : List Tree) → length arguments ≢ 3 → three_numbers s (plain_trees arguments) ≡ None
three_numbers-absent s [] e = refl
three_numbers-absent s (x ∷ []) e = short-1 (constant_number s (plain_of x))
three_numbers-absent s (x ∷ y ∷ []) e = short-2 (constant_number s (plain_of x)) (constant_number s (plain_of y))
three_numbers-absent s (x ∷ y ∷ z ∷ []) e = absurd (e refl)
three_numbers-absent s (x ∷ y ∷ z ∷ w ∷ more) e = long-none (thread_numbers s (plain_trees more)) (constant_number s (plain_of x)) (constant_number s (plain_of y)) (constant_number s (plain_of z)) (constant_number s (plain_of w))

-- three constant numbers
abbrev pub three_if : Option ℕ → Option ℕ → Option ℕ → Option (List ℕ)
three_if (Some x) (Some y) (Some z) = Some (x ∷ y ∷ z ∷ [])
three_if _ _ _ = None

three-are : (x y z : Option ℕ) → only_three (with_two (λ n ns. Some (n ∷ ns)) x (with_two (λ n ns. Some (n ∷ ns)) y (with_two (λ n ns. Some (n ∷ ns)) z (Some [])))) ≡ three_if x y z
three-are None y z = refl
three-are (Some x) None z = refl
three-are (Some x) (Some y) None = refl
three-are (Some x) (Some y) (Some z) = refl

pub three_numbers-there : (s : Scope) (arguments : List Tree) (x y z : Tree) → length arguments ≡ 3 → x ≡ get_or arguments 0 x → y ≡ get_or arguments 1 y → z ≡ get_or arguments 2 z
    → three_numbers s (plain_trees arguments) ≡ three_if (constant_number s (plain_of x)) (constant_number s (plain_of y)) (constant_number s (plain_of z))
three_numbers-there s [] x y z e ex ey ez = cc
three_numbers-there s (a ∷ []) x y z e ex ey ez = cc
three_numbers-there s (a ∷ b ∷ []) x y z e ex ey ez = cc
three_numbers-there s (a ∷ b ∷ c ∷ []) x y z e ex ey ez =
    rw ex (rw ey (rw ez (three-are (constant_number s (plain_of a)) (constant_number s (plain_of b)) (constant_number s (plain_of c)))))
three_numbers-there s (a ∷ b ∷ c ∷ d ∷ more) x y z e ex ey ez = absurd (cc e)

-- ---- threads

abbrev pub fits_group : Option (List ℕ) → Bool
fits_group (Some (x ∷ y ∷ z ∷ [])) = are_threads (Some x) (Some y) (Some z)
fits_group _ = false

fits-three : (x y z : Option ℕ) → are_threads x y z ≡ fits_group (three_if x y z)
fits-three None y z = refl
fits-three (Some x) None z = refl
fits-three (Some x) (Some y) None = refl
fits-three (Some x) (Some y) (Some z) = refl

pub have_threads-are : (s : Scope) (arguments : Trees) → have_threads s arguments ≡ fits_group (three_numbers s arguments)
have_threads-are s no_trees = refl
have_threads-are s (more_trees x no_trees) = sym (ap fits_group (short-1 (constant_number s x)))
have_threads-are s (more_trees x (more_trees y no_trees)) = sym (ap fits_group (short-2 (constant_number s x) (constant_number s y)))
have_threads-are s (more_trees x (more_trees y (more_trees z no_trees))) = fits-three (constant_number s x) (constant_number s y) (constant_number s z) ∙ ap fits_group (sym (three-are (constant_number s x) (constant_number s y) (constant_number s z)))
have_threads-are s (more_trees x (more_trees y (more_trees z (more_trees w more)))) = sym (ap fits_group (long-none (thread_numbers s more) (constant_number s x) (constant_number s y) (constant_number s z) (constant_number s w)))

pub three-fits : (o : Option (List ℕ)) (sizes : List ℕ) → only_three o ≡ Some sizes
    → fits_group (only_three o) ≡ are_threads (Some (get_or sizes 0 0)) (Some (get_or sizes 1 0)) (Some (get_or sizes 2 0))
three-fits (Some (x ∷ y ∷ z ∷ [])) sizes e = ap (λ o. are_threads (Some (get_or (of o) 0 0)) (Some (get_or (of o) 1 0)) (Some (get_or (of o) 2 0))) e
  where
    of : Option (List ℕ) → List ℕ
    of None = []
    of (Some xs) = xs
three-fits None sizes e = absurd (cc e)
three-fits (Some []) sizes e = absurd (cc e)
three-fits (Some (x ∷ [])) sizes e = absurd (cc e)
three-fits (Some (x ∷ y ∷ [])) sizes e = absurd (cc e)
three-fits (Some (x ∷ y ∷ z ∷ w ∷ more)) sizes e = absurd (cc e)
