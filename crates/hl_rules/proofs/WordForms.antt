-- Numbers, truth values and names become what is known of them.
use Rattle.std.proofs.Common.{◌≡◌, arith, ℕ, ◌≤◌, Bool, true, false, ◌||◌, if◌then◌else◌, nat_lt, []}
use Rattle.std.specs.Prelude.{is_none}
use Rattle.hl_lexer.specs.declared.terminal.Terminal.{Terminal}
use Rattle.hl_lexer.specs.declared.terminal.Terminal.TheVariants as terminals
use Rattle.hl_lexer.specs.Numbers.{greatest_number}
use Rattle.hl_parser.specs.Grammar.{is_word}
use Rattle.hl_meaning.specs.declared.ty.Kind.TheVariants.{Int as IntKind, Uint as UintKind}
use Rattle.hl_meaning.specs.Types.{bool_type, scalar_type}
use Rattle.hl_meaning.specs.Places as places
use Rattle.hl_meaning.specs.Trees.{an_expr, literal_form}
use Rattle.hl_meaning.specs.WellFormed.{IsExpr}
use Rattle.hl_rules.specs.DeclarationRules.{is_other_sort, is_variable_sort}
use Rattle.hl_rules.specs.Expressions.{word_code}
use Rattle.hl_rules.specs.Parts.{a_variable, site}
use Rattle.hl_rules.specs.Scopes.{Scope, sort_at, spelled}
use Rattle.hl_rules.specs.Sites.{word_sites}
use Rattle.hl_rules.specs.Source.{is_unsigned_at, number_at}
use Rattle.hl_rules.specs.Values.{number_type, word_value}
use Rattle.hl_rules.proofs.Becoming.{Becomes, value-becomes}
use Rattle.hl_rules.proofs.Fitting.{IsKnown}
use Rattle.hl_rules.proofs.Free.{IsFree, Obeys, free-first, not_broken}
use Rattle.hl_rules.proofs.PlaceForms.{name-becomes}
use Rattle.hl_rules.proofs.ShortTypes.{short-result}

number-stands : (env : places.Scope) (unsigned : Bool) (at word : ℕ) → word ≤ greatest_number → IsExpr env (an_expr (if unsigned then scalar_type UintKind else scalar_type IntKind) at (literal_form word))
number-stands env true at word h = (short-result env.structs (scalar_type UintKind) tt, omega arith)
number-stands env false at word h = (short-result env.structs (scalar_type IntKind) tt, omega arith)

truth-stands : (env : places.Scope) (at word : ℕ) → word ≤ 1 → IsExpr env (an_expr bool_type at (literal_form word))
truth-stands env at word h = (short-result env.structs bool_type tt, h)

pub word-becomes : (s : Scope) → IsKnown s → (terminal : Terminal) (at : ℕ) → is_word terminal ≡ true → IsFree (word_sites s terminal at) → Becomes s (word_value s terminal at) (word_code s terminal at)
word-becomes s known terminals.Number at e free =
    value-becomes s (number_type s at) at (literal_form (number_at s.tokens at))
    (λ env f. number-stands env (is_unsigned_at s.tokens at || nat_lt 2147483647 (number_at s.tokens at)) at (number_at s.tokens at) (known.tokens.numbers at))
word-becomes s known terminals.True at e free = value-becomes s bool_type at (literal_form 1) (λ env f. truth-stands env at 1 (omega arith))
word-becomes s known terminals.False at e free = value-becomes s bool_type at (literal_form 0) (λ env f. truth-stands env at 0 (omega arith))
word-becomes s known terminals.Name at e free =
    let o : Obeys s (a_variable at) = free-first (site s (a_variable at)) [] free in
    name-becomes s known at (spelled s at) (not_broken (is_none (sort_at s at)) at o.obeys_3) (not_broken (is_other_sort is_variable_sort (sort_at s at)) at o.obeys_4)
word-becomes s known _ at e free = absurd (cc e)
