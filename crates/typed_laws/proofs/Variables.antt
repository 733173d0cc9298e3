-- The variables of a state, and how many words each of them has.
use Rattle.std.proofs.Common.{◌≡◌, ◌∙◌, sym, ap, ℕ, ◌<◌, List, [], map, length, Option, None, Some, slice_get, unwrap_or}
use Rattle.std.specs.Prelude.{option_map, slice_set}
use Rattle.std.proofs.lemmas.List.{get_or-set_other, get_or-set_same, length-map}
use Rattle.std.proofs.lemmas.Option.{none-some, same_Some, slice_get-map, unwrap_or-slice_get}
use Rattle.std.proofs.Math.Seq.{map-set_same}
use Rattle.hl_meaning.specs.Types.{Ty}
use Rattle.hl_meaning.specs.Places.{variable_type}
use Rattle.hl_meaning.specs.Programs.{Variable}
use Rattle.hl_meaning.specs.Layout.{words_of}
use Rattle.hl_source.specs.State.{Context, State, variable_words, with_variable}

-- the words of each variable
abbrev pub sizes_in : Context → List Variable → List ℕ
sizes_in c V = map (λ v. words_of c.scope.structs v.ty) V

abbrev pub sizes_at : State → List ℕ
sizes_at s = map length s.variables

pub words_set_same : (n : ℕ) (ws : List ℕ) (s : State) → n < length s.variables → variable_words (with_variable n ws s) n ≡ ws
words_set_same n ws s low = unwrap_or-slice_get (slice_set s.variables n ws) n [] ∙ get_or-set_same s.variables n ws [] low

pub words_set_other : (n m : ℕ) (ws : List ℕ) (s : State) → (m ≡ n → ⊥) → variable_words (with_variable n ws s) m ≡ variable_words s m
words_set_other n m ws s apart =
    unwrap_or-slice_get (slice_set s.variables n ws) m [] ∙ (get_or-set_other s.variables n m ws [] apart ∙ sym (unwrap_or-slice_get s.variables m []))

pub sizes_set : (n : ℕ) (ws : List ℕ) (s : State) → length ws ≡ length (variable_words s n) → sizes_at (with_variable n ws s) ≡ sizes_at s
sizes_set n ws s e = map-set_same length s.variables n ws [] (e ∙ ap length (unwrap_or-slice_get s.variables n []))

-- as many variables as there are types
pub count_by_sizes : (c : Context) (V : List Variable) (s : State) → sizes_at s ≡ sizes_in c V → length s.variables ≡ length V
count_by_sizes c V s e = sym (length-map s.variables length) ∙ (ap length e ∙ length-map V (λ v. words_of c.scope.structs v.ty))

-- a variable of a type has its words
pub variable_size : (c : Context) (V : List Variable) (t : State) (w : ℕ) (ty : Ty) → sizes_at t ≡ sizes_in c V → variable_type V w ≡ Some ty → length (variable_words t w) ≡ words_of c.scope.structs ty
variable_size c V t w ty sizes typed =
    by_words (slice_get t.variables w) (sym (slice_get-map length t.variables w) ∙ (ap (λ l. slice_get l w) sizes ∙ (slice_get-map (λ v. words_of c.scope.structs v.ty) V w ∙ by_type (slice_get V w) typed)))
  where
    by_type : (o : Option Variable) → option_map (λ v. v.ty) o ≡ Some ty → option_map (λ v. words_of c.scope.structs v.ty) o ≡ Some (words_of c.scope.structs ty)
    by_type None e = absurd (none-some ty e)
    by_type (Some v) e = ap (λ x. Some (words_of c.scope.structs x)) (same_Some v.ty ty e)

    by_words : (o : Option (List ℕ)) → option_map length o ≡ Some (words_of c.scope.structs ty) → length (unwrap_or o []) ≡ words_of c.scope.structs ty
    by_words None e = absurd (none-some (words_of c.scope.structs ty) e)
    by_words (Some ws) e = same_Some (length ws) (words_of c.scope.structs ty) e
