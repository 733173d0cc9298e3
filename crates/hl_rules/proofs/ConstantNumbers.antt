-- Constant numbers are words of 32 bits.
use Rattle.std.proofs.Common.{◌≡◌, refl, subst, arith, ℕ, ◌+◌, ◌-◌, ◌*◌, ◌≤◌, Bool, true, false, if◌then◌else◌, nat_le, Option, None, Some}
use Rattle.std.proofs.lemmas.Option.{same_Some}
use Rattle.hl_lexer.specs.declared.terminal.Terminal.{Terminal}
use Rattle.hl_lexer.specs.declared.terminal.Terminal.TheVariants as terminals
use Rattle.hl_lexer.specs.Numbers.{greatest_number}
use Rattle.hl_parser.specs.Trees.{Tree, Trees, a_binary, a_primary, absent, more_trees, no_trees, present}
use Rattle.hl_rules.specs.Constants.{combined, constant_number, number_of_sort, sum_of, word_number}
use Rattle.hl_rules.specs.Expressions.{first_number}
use Rattle.hl_rules.specs.Scopes.{Scope, Sort, VariableInfo, a_buffer_name, a_function_name, a_struct_name, a_variable_name, sort_at, spelled}
use Rattle.hl_rules.specs.Source.{number_at, terminal_at}
use Rattle.hl_rules.proofs.Fitting.{IsKnown}
use Rattle.hl_rules.proofs.Options.{no-more}

-- ---- words of 32 bits

if-some : (b : Bool) (m n : ℕ) → (if b then Some m else None) ≡ Some n → (b ≡ true) × (m ≡ n)
if-some true m n e = (refl, same_Some m n e)
if-some false m n e = absurd (cc e)

sum-fits : (terminal : Terminal) (a b n : ℕ) → a ≤ greatest_number → sum_of terminal a b ≡ Some n → n ≤ greatest_number
sum-fits terminals.Plus a b n h e =
    let r = if-some (nat_le (a + b) greatest_number) (a + b) n e in
    subst (λ x. x ≤ greatest_number) r.1 (no-more (a + b) greatest_number r.0)
sum-fits terminals.Minus a b n h e =
    let r = if-some (nat_le b a) (a - b) n e in
    subst (λ x. x ≤ greatest_number) r.1 (omega (arith, h))
sum-fits terminals.Star a b n h e =
    let r = if-some (nat_le (a * b) greatest_number) (a * b) n e in
    subst (λ x. x ≤ greatest_number) r.1 (no-more (a * b) greatest_number r.0)
sum-fits other a b n h e = absurd (cc e)

combined-fits : (terminal : Terminal) (a b : Option ℕ) (n : ℕ) → ((m : ℕ) → a ≡ Some m → m ≤ greatest_number) → combined terminal a b ≡ Some n → n ≤ greatest_number
combined-fits terminal (Some a) (Some b) n h e = sum-fits terminal a b n (h a refl) e
combined-fits terminal (Some a) None n h e = absurd (cc e)
combined-fits terminal None b n h e = absurd (cc e)

sort-fits : (sort : Option Sort) (n : ℕ) → ((v : VariableInfo) (m : ℕ) → sort ≡ Some (a_variable_name v) → v.number ≡ Some m → m ≤ greatest_number) → number_of_sort sort ≡ Some n → n ≤ greatest_number
sort-fits None n h e = absurd (cc e)
sort-fits (Some (a_variable_name v)) n h e = h v n refl e
sort-fits (Some (a_struct_name number)) n h e = absurd (cc e)
sort-fits (Some (a_buffer_name number)) n h e = absurd (cc e)
sort-fits (Some a_function_name) n h e = absurd (cc e)

word-fits : (s : Scope) → IsKnown s → (terminal : Terminal) (index n : ℕ) → word_number s terminal index ≡ Some n → n ≤ greatest_number
word-fits s known terminals.Number index n e = subst (λ x. x ≤ greatest_number) (same_Some (number_at s.tokens index) n e) (known.tokens.numbers index)
word-fits s known terminals.Name index n e = sort-fits (sort_at s index) n (λ v m h k. known.numbers (spelled s index) v m h k) e
word-fits s known other index n e = absurd (cc e)

pub number-fits : (s : Scope) → IsKnown s → (e : Tree) (n : ℕ) → constant_number s e ≡ Some n → n ≤ greatest_number
number-fits s known (a_primary at absent absent) n e = word-fits s known (terminal_at s.tokens at) at n e
number-fits s known (a_primary at (present inner) absent) n e = number-fits s known inner n e
number-fits s known (a_binary production at left mark right) n e =
    combined-fits (terminal_at s.tokens mark) (constant_number s left) (constant_number s right) n (λ m h. number-fits s known left m h) e
number-fits s known other n e = absurd (cc e)

pub first-small : (s : Scope) → IsKnown s → (trees : Trees) (n : ℕ) → first_number s trees ≡ Some n → n ≤ greatest_number
first-small s known no_trees n e = absurd (cc e)
first-small s known (more_trees first rest) n e = number-fits s known first n e
