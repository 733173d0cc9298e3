-- The table of classes.
use Rattle.std.proofs.Common.{◌≡◌, ◌≢◌, ◌∙◌, refl, ap, ℕ, ◌<◌, Bool, true, false, ◌==◌, cond, slice_index}
use Rattle.std.proofs.lemmas.Bool.{agree_below_at, eqb-true, ne_eqb}
use Rattle.hl_lexer.specs.declared.class.Class.{Class}
use Rattle.hl_lexer.specs.declared.class.Class.TheVariants.{Other, Space, Letter, Digit, Mark}
use Rattle.hl_lexer.specs.declared.class.TheConstants.{CLASSES}
use Rattle.hl_lexer.specs.Scanning.{class_of}

-- the class that a number in the table stands for
abbrev pub code_class : ℕ → Class
code_class code = cond (code == 255) Other (cond (code == 254) Space (cond (code == 253) Letter (cond (code == 252) Digit (Mark code))))

abbrev same_class : Class → Class → Bool
same_class Other Other = true
same_class Space Space = true
same_class Letter Letter = true
same_class Digit Digit = true
same_class (Mark m) (Mark n) = m == n
same_class c d = false

same_class_from : (c d : Class) → same_class c d ≡ true → c ≡ d
same_class_from Other Other e = refl
same_class_from Other Space e = cc
same_class_from Other Letter e = cc
same_class_from Other Digit e = cc
same_class_from Other (Mark n) e = cc
same_class_from Space Other e = cc
same_class_from Space Space e = refl
same_class_from Space Letter e = cc
same_class_from Space Digit e = cc
same_class_from Space (Mark n) e = cc
same_class_from Letter Other e = cc
same_class_from Letter Space e = cc
same_class_from Letter Letter e = refl
same_class_from Letter Digit e = cc
same_class_from Letter (Mark n) e = cc
same_class_from Digit Other e = cc
same_class_from Digit Space e = cc
same_class_from Digit Letter e = cc
same_class_from Digit Digit e = refl
same_class_from Digit (Mark n) e = cc
same_class_from (Mark m) Other e = cc
same_class_from (Mark m) Space e = cc
same_class_from (Mark m) Letter e = cc
same_class_from (Mark m) Digit e = cc
same_class_from (Mark m) (Mark n) e = ap Mark (eqb-true m n e)

-- the table has the class of each byte
pub class_in_table : (code b : ℕ) → b < 256 → code ≡ slice_index CLASSES b → code_class code ≡ class_of b
class_in_table code b small e =
    ap code_class e
    ∙ same_class_from (code_class (slice_index CLASSES b)) (class_of b)
    (agree_below_at (λ n. same_class (code_class (slice_index CLASSES n)) (class_of n)) (λ n. true) 256 b refl small)

-- any other number in the table is that of a mark
pub other_code : (code : ℕ) → code ≢ 255 → code ≢ 254 → code ≢ 253 → code ≢ 252 → code_class code ≡ Mark code
other_code code a b c d = rw (ne_eqb code 255 a, ne_eqb code 254 b, ne_eqb code 253 c, ne_eqb code 252 d) refl
