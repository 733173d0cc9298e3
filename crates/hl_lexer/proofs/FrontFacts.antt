-- The piece at the front of a text, as its first byte says.
use Rattle.std.proofs.Common.{◌≡◌, ◌≢◌, ◌∙◌, refl, sym, ap, subst, ℕ, zero, suc, ◌<◌, ◌≤◌, ⊎_elim, Bool, true, false, cond, List, [], ◌∷◌, ◌++◌, Option, None, Some, length, slice_index, take, drop, arith, length-take, take-append-drop}
use Rattle.std.specs.Char.{is_ascii_digit}
use Rattle.std.specs.List.{AllPass}
use Rattle.std.proofs.lemmas.Bool.{both_ways, or_left, or_right}
use Rattle.std.proofs.lemmas.List.Elements.{All-tail}
use Rattle.hl_lexer.specs.declared.class.Class.{Class}
use Rattle.hl_lexer.specs.declared.class.Class.TheVariants.{Other, Space, Letter, Digit, Mark}
use Rattle.hl_lexer.specs.declared.token.TokenKind.{TokenKind}
use Rattle.hl_lexer.specs.declared.token.TokenKind.TheVariants as kinds
use Rattle.hl_lexer.specs.Bytes.{Ends, is_letter, is_space_byte, is_word_byte}
use Rattle.hl_lexer.specs.Numbers.{IsNumber}
use Rattle.hl_lexer.specs.Scanning.{BeginsNoSpace, BeginsNoToken, HasSpace, HasToken, capped, class_of, mark_class, number_in}
use Rattle.hl_lexer.specs.Spellings.{marks}
use Rattle.hl_lexer.specs.Tokens.{BeginsComment, BeginsLargeNumber, IsForm, IsMark, IsName, IsToken, IsWord, a_byte}
use Rattle.hl_lexer.proofs.ByteFacts.{class_sort}
use Rattle.hl_lexer.proofs.FormFacts.{form_begins, form_run, form_some, kind_sort, kind_sort_small}
use Rattle.hl_lexer.proofs.Lists.{run_longest, run_once}
use Rattle.hl_lexer.proofs.NumberFacts.{number_run}
use Rattle.hl_lexer.proofs.PieceFacts.{Starts, comment_starts, space_starts, starts_once, token_starts}
use Rattle.hl_lexer.proofs.TableFacts.{mark_some}

-- the class of the first byte

starts_with_class : (rest : List ℕ) (class : Class) → 0 < length rest → class_of (slice_index rest 0) ≡ class → Starts (class_sort class) rest
starts_with_class [] class some e = absurd (omega arith)
starts_with_class (b ∷ bs) class some e = ap class_sort e

class_letter : (letter digit space : Bool) (o : Option ℕ) → cond letter Letter (cond digit Digit (cond space Space (mark_class o))) ≡ Letter → letter ≡ true
class_letter true digit space o e = refl
class_letter false true space o e = cc
class_letter false false true o e = cc
class_letter false false false None e = cc
class_letter false false false (Some n) e = cc

class_space : (letter digit space : Bool) (o : Option ℕ) → cond letter Letter (cond digit Digit (cond space Space (mark_class o))) ≡ Space → space ≡ true
class_space true digit space o e = cc
class_space false true space o e = cc
class_space false false true o e = refl
class_space false false false None e = cc
class_space false false false (Some n) e = cc

pub letter_from_class : (b : ℕ) → class_of b ≡ Letter → is_letter b ≡ true
letter_from_class b e = class_letter (is_letter b) (is_ascii_digit b) (is_space_byte b) (number_in marks (b ∷ [])) e

class_digit : (letter digit space : Bool) (o : Option ℕ) → cond letter Letter (cond digit Digit (cond space Space (mark_class o))) ≡ Digit → digit ≡ true
class_digit true digit space o e = cc
class_digit false true space o e = refl
class_digit false false true o e = cc
class_digit false false false None e = cc
class_digit false false false (Some n) e = cc

digit_from_class : (b : ℕ) → class_of b ≡ Digit → is_ascii_digit b ≡ true
digit_from_class b e = class_digit (is_letter b) (is_ascii_digit b) (is_space_byte b) (number_in marks (b ∷ [])) e

space_from_class : (b : ℕ) → class_of b ≡ Space → is_space_byte b ≡ true
space_from_class b e = class_space (is_letter b) (is_ascii_digit b) (is_space_byte b) (number_in marks (b ∷ [])) e

-- a byte that is a space

pub byte_space : (rest : List ℕ) → 0 < length rest → class_of (slice_index rest 0) ≡ Space → HasSpace rest 1
byte_space [] some e = absurd (omega arith)
byte_space (b ∷ bs) some e = record { some = omega arith; within = omega arith; space = a_byte b (space_from_class b e) refl }

-- no piece begins with a byte of no class, and none where a comment doesn't end

-- a text that begins with a byte of another class than a space or a mark begins with no space
no_space : (sort : ℕ) (rest : List ℕ) → Starts sort rest → sort ≢ 2 → sort ≢ 3 → BeginsNoSpace rest
no_space sort rest starts mark space bytes after e h =
    let here : Starts sort (bytes ++ after) = subst (Starts sort) e starts in
    ⊎_elim
    (λ three. space (starts_once sort 3 (bytes ++ after) here three))
    (λ comment. mark (starts_once sort 2 (bytes ++ after) here (comment_starts (bytes ++ after) comment)))
    (space_starts bytes after h)

-- it begins with no token of another class
other_kind : (sort : ℕ) (rest : List ℕ) (kind : TokenKind) (bytes after : List ℕ) → Starts sort rest → rest ≡ bytes ++ after → IsToken kind bytes after → kind_sort kind ≡ sort
other_kind sort rest kind bytes after starts e token = sym (starts_once sort (kind_sort kind) (bytes ++ after) (subst (Starts sort) e starts) (token_starts kind bytes after token))

pub other_nothing : (rest : List ℕ) → 0 < length rest → class_of (slice_index rest 0) ≡ Other → BeginsNoSpace rest × BeginsNoToken rest
other_nothing rest some e =
    let starts = starts_with_class rest Other some e in (
      no_space 4 rest starts (λ h. omega (arith, h)) (λ h. omega (arith, h)),
      λ kind bytes after f token. let same = other_kind 4 rest kind bytes after starts f token in omega (arith, kind_sort_small kind),
    )

pub comment_nothing : (rest : List ℕ) → BeginsComment rest → BeginsNoToken rest
comment_nothing rest comment kind bytes after e token = token.no_comment (subst BeginsComment e comment)

-- runs of letters, digits and `_`

-- a form is of the class of the first byte
form_sort : (sort : ℕ) (text : List ℕ) (kind : TokenKind) (front back : List ℕ) → Starts sort text → front ++ back ≡ text → IsForm kind front back → kind_sort kind ≡ sort
form_sort sort text kind [] back starts e form = absurd (form_some kind back form)
form_sort sort text kind (b ∷ bs) back starts e form = starts_once (kind_sort kind) sort text (subst (Starts (kind_sort kind)) e (form_begins kind b bs back form)) starts

-- any form at a run is no longer than it
form_in_run : (sort : ℕ) (run after : List ℕ) (kind : TokenKind) (front back : List ℕ) → Starts sort (run ++ after) → sort < 2 → Ends is_word_byte after → front ++ back ≡ run ++ after → IsForm kind front back → length front ≤ length run
form_in_run sort run after kind front back starts small ends e form =
    let same = form_sort sort (run ++ after) kind front back starts e form in
    run_longest is_word_byte run front after back ends (form_run kind front back (omega arith) form) e

no_comment : (sort : ℕ) (rest : List ℕ) → Starts sort rest → sort < 2 → ¬ BeginsComment rest
no_comment sort rest starts small comment = let same = starts_once sort 2 rest starts (comment_starts rest comment) in omega (arith, same)

-- a form that is a whole run is a token
run_token : (sort : ℕ) (kind : TokenKind) (run after : List ℕ) → Starts sort (run ++ after) → sort < 2 → Ends is_word_byte after → IsForm kind run after → IsToken kind run after
run_token sort kind run after starts small ends form = record {
  form = form;
  longest = λ other front back e h. form_in_run sort run after other front back starts small ends e h;
  no_comment = no_comment sort (run ++ after) starts small;
}

-- the run at the front of a text, by its length
pub record RunIs (rest : List ℕ) (n : ℕ) : Type 0 where
  pub within : n ≤ length rest
  pub run : AllPass is_word_byte (take n rest)
  pub end : Ends is_word_byte (drop n rest)

run_some : (rest : List ℕ) (n : ℕ) → 0 < length rest → is_word_byte (slice_index rest 0) ≡ true → Ends is_word_byte (drop n rest) → 0 < n
run_some [] zero some first end = absurd (omega arith)
run_some (b ∷ bs) zero some first end = absurd (both_ways (is_word_byte b) end first)
run_some rest (suc n) some first end = omega arith

first_letter : (b : ℕ) → class_of b ≡ Letter → is_word_byte b ≡ true
first_letter b e = or_left (is_letter b) (is_ascii_digit b) (letter_from_class b e)

first_digit : (b : ℕ) → class_of b ≡ Digit → is_word_byte b ≡ true
first_digit b e = or_right (is_letter b) (is_ascii_digit b) (digit_from_class b e)

split_starts : (sort : ℕ) (rest : List ℕ) (n : ℕ) → Starts sort rest → Starts sort (take n rest ++ drop n rest)
split_starts sort rest n starts = subst (Starts sort) (sym (take-append-drop n rest)) starts

-- names and words

pub word_token : (rest : List ℕ) (n number : ℕ) → 0 < length rest → class_of (slice_index rest 0) ≡ Letter → RunIs rest n → IsWord number (take n rest) → HasToken rest (kinds.Word number) n
word_token rest n number some e run word = record {
  some = run_some rest n some (first_letter (slice_index rest 0) e) run.end;
  within = run.within;
  token = run_token 0 (kinds.Word number) (take n rest) (drop n rest) (split_starts 0 rest n (starts_with_class rest Letter some e)) (omega arith) run.end word;
  room = tt;
}

pub name_form : (bytes : List ℕ) → 0 < length bytes → is_letter (slice_index bytes 0) ≡ true → AllPass is_word_byte bytes → ((number : ℕ) → ¬ IsWord number bytes) → IsName bytes
name_form [] some letter run no_word = absurd (omega arith)
name_form (b ∷ bs) some letter run no_word = (letter, All-tail (λ c. is_word_byte c ≡ true) b bs run, no_word)

first_taken : (rest : List ℕ) (n : ℕ) → 0 < n → slice_index (take n rest) 0 ≡ slice_index rest 0
first_taken [] (suc n) some = refl
first_taken (b ∷ bs) (suc n) some = refl
first_taken rest zero some = absurd (omega arith)

pub name_token : (rest : List ℕ) (n : ℕ) → 0 < length rest → class_of (slice_index rest 0) ≡ Letter → RunIs rest n → ((number : ℕ) → ¬ IsWord number (take n rest)) → HasToken rest kinds.Name n
name_token rest n some e run no_word =
    let positive = run_some rest n some (first_letter (slice_index rest 0) e) run.end in
    let letter : is_letter (slice_index (take n rest) 0) ≡ true = ap is_letter (first_taken rest n positive) ∙ letter_from_class (slice_index rest 0) e in
    let form : IsName (take n rest) = name_form (take n rest) (omega (arith, length-take n rest, run.within)) letter run.run no_word in
    record {
      some = positive;
      within = run.within;
      token = run_token 0 kinds.Name (take n rest) (drop n rest) (split_starts 0 rest n (starts_with_class rest Letter some e)) (omega arith) run.end form;
      room = tt;
    }

-- numbers

number_here : (rest : List ℕ) (n value : ℕ) (unsigned : Bool) → 0 < length rest → class_of (slice_index rest 0) ≡ Digit → RunIs rest n → IsNumber (take n rest) value unsigned → IsToken (kinds.Number value unsigned) (take n rest) (drop n rest)
number_here rest n value unsigned some e run number =
    run_token 1 (kinds.Number value unsigned) (take n rest) (drop n rest) (split_starts 1 rest n (starts_with_class rest Digit some e)) (omega arith) run.end (number, run.end)

pub number_token : (rest : List ℕ) (n value number : ℕ) (unsigned : Bool) → 0 < length rest → class_of (slice_index rest 0) ≡ Digit → RunIs rest n → IsNumber (take n rest) number unsigned → value ≡ capped number → value < 4294967296 → HasToken rest (kinds.Number value unsigned) n
number_token rest n value number unsigned some e run spelled is small =
    let same : number ≡ value = omega arith in
    record {
      some = run_some rest n some (first_digit (slice_index rest 0) e) run.end;
      within = run.within;
      token = number_here rest n value unsigned some e run (subst (λ v. IsNumber (take n rest) v unsigned) same spelled);
      room = omega arith;
    }

pub large_number : (rest : List ℕ) (n value number : ℕ) (unsigned : Bool) → 0 < length rest → class_of (slice_index rest 0) ≡ Digit → RunIs rest n → IsNumber (take n rest) number unsigned → value ≡ capped number → 4294967296 ≤ value → BeginsLargeNumber rest
large_number rest n value number unsigned some e run spelled is large = record {
  value = number;
  unsigned = unsigned;
  bytes = take n rest;
  after = drop n rest;
  rest-is = sym (take-append-drop n rest);
  token = number_here rest n number unsigned some e run spelled;
  large = omega arith;
}

number_of_run : (rest : List ℕ) (n : ℕ) (kind : TokenKind) (bytes after : List ℕ) → RunIs rest n → kind_sort kind ≡ 1 → rest ≡ bytes ++ after → IsForm kind bytes after → (value : ℕ) × (unsigned : Bool) × IsNumber (take n rest) value unsigned
number_of_run rest n kinds.Name bytes after run sort e form = absurd (omega (arith, sort))
number_of_run rest n (kinds.Word m) bytes after run sort e form = absurd (omega (arith, sort))
number_of_run rest n (kinds.Mark m) bytes after run sort e form = absurd (omega (arith, sort))
number_of_run rest n (kinds.Number value unsigned) bytes after run sort e form =
    let once = run_once is_word_byte bytes (take n rest) after (drop n rest) (number_run bytes value unsigned form.0) run.run form.1 run.end (sym e ∙ sym (take-append-drop n rest)) in
    (value, unsigned, subst (λ bs. IsNumber bs value unsigned) once.0 form.0)

pub no_number : (rest : List ℕ) (n : ℕ) → 0 < length rest → class_of (slice_index rest 0) ≡ Digit → RunIs rest n → ((value : ℕ) (unsigned : Bool) → ¬ IsNumber (take n rest) value unsigned) → BeginsNoSpace rest × BeginsNoToken rest
no_number rest n some e run none =
    let starts = starts_with_class rest Digit some e in (
      no_space 1 rest starts (λ h. omega (arith, h)) (λ h. omega (arith, h)),
      λ kind bytes after f token.
          let found = number_of_run rest n kind bytes after run (other_kind 1 rest kind bytes after starts f token) f token.form in
          none found.0 found.1 found.2,
    )

-- marks

marks_longest : (rest bytes after : List ℕ) (kind : TokenKind) (front back : List ℕ) → kind_sort kind ≡ 2 → front ++ back ≡ bytes ++ after → rest ≡ bytes ++ after → ((m : ℕ) (bs more : List ℕ) → rest ≡ bs ++ more → IsMark m bs → length bs ≤ length bytes) → IsForm kind front back → length front ≤ length bytes
marks_longest rest bytes after kinds.Name front back sort e f longest form = absurd (omega (arith, sort))
marks_longest rest bytes after (kinds.Word m) front back sort e f longest form = absurd (omega (arith, sort))
marks_longest rest bytes after (kinds.Number v u) front back sort e f longest form = absurd (omega (arith, sort))
marks_longest rest bytes after (kinds.Mark m) front back sort e f longest form = longest m front back (f ∙ sym e) form

mark_length : (n : ℕ) (rest : List ℕ) (number : ℕ) → IsMark number (take n rest) → 0 < n
mark_length zero rest number mark = absurd (mark_some number mark)
mark_length (suc n) rest number mark = omega arith

pub mark_token : (rest : List ℕ) (single number n : ℕ) → 0 < length rest → class_of (slice_index rest 0) ≡ Mark single → ¬ BeginsComment rest → n ≤ length rest → IsMark number (take n rest) → ((m : ℕ) (bytes after : List ℕ) → rest ≡ bytes ++ after → IsMark m bytes → length bytes ≤ n) → HasToken rest (kinds.Mark number) n
mark_token rest single number n some e no_comment within mark longest =
    let text = take-append-drop n rest in
    let starts = split_starts 2 rest n (starts_with_class rest (Mark single) some e) in
    let long : length (take n rest) ≡ n = omega (arith, length-take n rest) in
    record {
      some = mark_length n rest number mark;
      within = within;
      token = record {
        form = mark;
        longest = λ other front back f form.
            marks_longest rest (take n rest) (drop n rest) other front back
            (form_sort 2 (take n rest ++ drop n rest) other front back starts f form) f (sym text)
            (λ m bs more g h. let short = longest m bs more g h in omega arith) form;
        no_comment = λ comment. no_comment (subst BeginsComment text comment);
      };
      room = tt;
    }
