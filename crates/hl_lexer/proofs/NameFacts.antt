-- Whether a whole text is a name.
use Rattle.std.proofs.Common.{◌≡◌, ℕ, ◌<◌, sym, ap, ◌∙◌, List, [], Option, None, Some, length, slice_index, take, drop, arith, length-take, take-append-drop}
use Rattle.std.specs.Prelude.{Bool, true, false, not, MatchBool, MatchOption, is_some}
use Rattle.std.specs.List.{AllPass}
use Rattle.std.proofs.lemmas.List.{append-nil}
use Rattle.hl_lexer.specs.declared.class.Class.TheVariants.{Letter}
use Rattle.hl_lexer.specs.Bytes.{Ends, is_word_byte}
use Rattle.hl_lexer.specs.Scanning.{class_of}
use Rattle.hl_lexer.specs.Tokens.{IsName, IsWord}
use Rattle.hl_lexer.proofs.FormFacts.{name_run, no_name}
use Rattle.hl_lexer.proofs.FrontFacts.{name_form, letter_from_class}
use Rattle.hl_lexer.proofs.Lists.{run_once}

-- a run that ends before the text does isn't a name
pub name_whole : (text : List ℕ) (n : ℕ) → n < length text → AllPass is_word_byte (take n text) → Ends is_word_byte (drop n text) → ¬ IsName text
name_whole text n short run end name =
    let once = run_once is_word_byte text (take n text) [] (drop n text) (name_run text name) run tt end (append-nil text ∙ sym (take-append-drop n text)) in
    omega (arith, ap length once.0, length-take n text)

-- a run of letters, digits and `_` that begins with no digit is a name exactly where it is no word
pub name_unless_word : (text : List ℕ) (word : Option ℕ) (free : Bool) → is_some word ≡ not free → 0 < length text → class_of (slice_index text 0) ≡ Letter → AllPass is_word_byte text
    → MatchOption word ((number : ℕ) → ¬ IsWord number text) (λ number. IsWord number text) → MatchBool free (IsName text) (¬ IsName text)
name_unless_word text None true e some class run none = name_form text some (letter_from_class (slice_index text 0) class) run none
name_unless_word text None false e some class run none = cc
name_unless_word text (Some number) true e some class run word = cc
name_unless_word text (Some number) false e some class run word = λ name. no_name number text name word
