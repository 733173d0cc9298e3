-- A variable of a program without calls that holds a value of its type is read as that value.
use Rattle.std.proofs.Common.{◌≡◌, ◌∙◌, sym, ap, ℕ, ◌≤◌, List, [], length, Some, unwrap_or, arith}
use Rattle.hl_meaning.specs.Types.{Ty, void_type}
use Rattle.hl_meaning.specs.Places.{variable_type}
use Rattle.hl_meaning.specs.Programs.{Variable}
use Rattle.hl_meaning.specs.Layout.{kinds_of, words_of}
use Rattle.hl_meaning.specs.WellFormed.{most_words}
use Rattle.hl_source.specs.Operations.{map_2, picked, word_as}
use Rattle.hl_source.specs.State.{Context, State, each, goes_with, variable_words}
use Rattle.hl_source.specs.Offsets.{in_variable, start_of}
use Rattle.hl_source.specs.Memory.{read_reached, word_of, word_offsets}
use Rattle.hl_source.specs.Expressions.{evaluates}
use Rattle.hl_inline.specs.Emitting.{reading}
use Rattle.typed_laws.proofs.ProgressLemmas.{giving}
use Rattle.typed_laws.specs.Fitting.{Fits}
use Rattle.typed_laws.proofs.Fitting.{fits_length, kinds_same, whole_words}
use Rattle.hl_inline.proofs.Relation.{flat_of_context}

-- a variable of a type is read as a value of the type
pub reading_words : (c : Context) (V : List Variable) (ty : Ty) (at number : ℕ) (ws : List ℕ) (u : State) → variable_type V number ≡ Some ty → length ws ≡ words_of c.scope.structs ty →
    words_of c.scope.structs ty ≤ most_words → variable_words u number ≡ ws →
    evaluates (flat_of_context c V) (reading ty at number) u ≡ goes_with (map_2 word_as (kinds_of c.scope.structs ty) ws) u
reading_words c V ty at number ws u typed long low is =
    ap (λ o. read_reached (flat_of_context c V) (in_variable number) (start_of (unwrap_or o void_type)) u) typed ∙
    (ap (λ w. giving (whole ty) (each (word_of w) (word_offsets 0 (words_of c.scope.structs ty)) u)) is ∙
    (ap (λ n. giving (whole ty) (each (word_of ws) (word_offsets 0 n) u)) (sym long) ∙
    ap (giving (whole ty)) (whole_words ws u (omega (arith, low, long)))))
  where
    whole : Ty → List ℕ → List ℕ
    whole t words = picked [] (map_2 word_as (kinds_of c.scope.structs t) words)

-- a variable that holds words of its type is read as them
pub reading_gives : (c : Context) (V : List Variable) (ty : Ty) (at number : ℕ) (ws : List ℕ) (u : State) → variable_type V number ≡ Some ty → Fits c.scope.structs ty ws →
    words_of c.scope.structs ty ≤ most_words → variable_words u number ≡ ws → evaluates (flat_of_context c V) (reading ty at number) u ≡ goes_with ws u
reading_gives c V ty at number ws u typed fits low is =
    reading_words c V ty at number ws u typed (fits_length c.scope.structs ty ws fits) low is ∙ ap (λ w. goes_with w u) (kinds_same (kinds_of c.scope.structs ty) ws fits)
