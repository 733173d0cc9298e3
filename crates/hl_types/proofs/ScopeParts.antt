-- Parts of what is known at a place, as they are held.
use Rattle.std.proofs.Common.{◌≡◌, ◌∙◌, refl, sym, ap, ℕ, ◌+◌, Bool, not, cond, nat_lt, List, [], ◌∷◌, length, map, position, bytes_eq, None, Some}
use Rattle.std.specs.List.{position_or_len, prefix_len}
use Rattle.std.proofs.lemmas.List.{length-map}
use Rattle.hl_lexer.specs.Tokens.{lexeme_of}
use Rattle.hl_values.specs.declared.scope.Scope.{Scope}
use Rattle.hl_rules.specs.Elaboration.{entry_number}
use Rattle.hl_values.specs.declared.scope.FunctionInfo.{FunctionInfo}
use Rattle.hl_values.specs.NameTables.{is_named}
use Rattle.hl_values.specs.ScopeViews.{plain_function, scope_of}
use Rattle.hl_values.specs.StructTables.{plain_structs}
use Rattle.hl_values.proofs.ChangeLemmas.{length-plain_structs}

pub structs-in : (s : Scope) → (scope_of s).structs ≡ plain_structs s.structs
unfolding scope_of
structs-in s = refl

pub structs-count : (s : Scope) → length s.structs ≡ length (scope_of s).structs
unfolding scope_of
structs-count s = sym (length-plain_structs s.structs)

pub tokens-count : (s : Scope) → length s.tokens.now ≡ length (scope_of s).tokens
unfolding scope_of
tokens-count s = sym (length-map s.tokens.now lexeme_of)

-- ---- the entry

prefix-mapped : {X Y : Type 0} (f : X → Y) (test : Y → Bool) (xs : List X) → prefix_len test (map f xs) ≡ prefix_len (λ x. test (f x)) xs
prefix-mapped f test [] = refl
prefix-mapped f test (x ∷ xs) = ap (λ n. cond (test (f x)) (1 + n) 0) (prefix-mapped f test xs)

function-position : (functions : List (List ℕ × FunctionInfo)) (name : List ℕ) → position (is_named name) functions ≡ position (λ f. bytes_eq f.name name) (map plain_function functions)
function-position functions name =
    let same : position_or_len (λ f. bytes_eq f.name name) (map plain_function functions) ≡ position_or_len (is_named name) functions = prefix-mapped plain_function (λ f. not (bytes_eq f.name name)) functions in
    sym (ap (λ n. cond (nat_lt n (length (map plain_function functions))) (Some n) None) same ∙
    ap (λ n. cond (nat_lt (position_or_len (is_named name) functions) n) (Some (position_or_len (is_named name) functions)) None) (length-map functions plain_function))

-- the number of the first function with the entry's name
pub entry-position : (s : Scope) → position (is_named s.entry.now) s.functions ≡ entry_number (scope_of s)
unfolding scope_of
entry-position s = function-position s.functions s.entry.now
