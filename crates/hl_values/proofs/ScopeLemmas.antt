-- What is known at a place.
use Rattle.std.proofs.Common.{◌≡◌, ◌∙◌, refl, ap, ℕ, zero, suc, ◌+◌, Bool, true, false, cond, if◌then◌else◌, suc-add, arith, ◌<◌, ◌≤◌, ◌-◌, get_or, ◌||◌, List, [], ◌∷◌, ◌++◌, map, reverse, take, length, find, position, is_some, slice_get, bytes_eq, Option, Some, option_map}
use Rattle.std.specs.List.{list_any}
use Rattle.std.specs.Option.{option_or}
use Rattle.std.proofs.lemmas.List.{reverse-append, map-append}
use Rattle.std.proofs.lemmas.Option.{slice_get-map, slice_get_read}
use Rattle.hl_lexer.specs.declared.token.Token.{Token}
use Rattle.hl_lexer.specs.Tokens.{lexeme_of}
use Rattle.hl_rules.specs.Scopes as plain
use Rattle.hl_rules.specs.Scopes.{declared_among, declared_in}
use Rattle.hl_values.specs.declared.scope.FunctionInfo.{FunctionInfo}
use Rattle.hl_values.specs.declared.scope.Sort.{Sort}
use Rattle.hl_values.specs.NameTables.{first_named, is_named, positions_from}
use Rattle.hl_values.proofs.NameLemmas.{first_position}
use Rattle.hl_values.specs.ScopeViews.{plain_blocks, plain_function, plain_named, plain_names, plain_sort_if}

-- what a name stands for among names
pub declared-first : (names : List (List ℕ × Sort)) (name : List ℕ) → declared_in (plain_names names) name ≡ plain_sort_if (first_named names name)
declared-first [] name = refl
declared-first (n ∷ names) name = by (is_named name n) (declared-first names name)
  where
    by : (b : Bool) → declared_in (plain_names names) name ≡ plain_sort_if (first_named names name)
        → option_map (λ m. m.sort) (cond b (Some (plain_named n)) (find (λ m. bytes_eq m.name name) (plain_names names)))
        ≡ plain_sort_if (option_map (λ e. e.1) (cond b (Some n) (find (is_named name) names)))
    by true rest = refl
    by false rest = rest

-- one more block is the innermost
pub plain_blocks-push : (blocks : List (List (List ℕ × Sort))) (block : List (List ℕ × Sort)) → plain_blocks (blocks ++ block ∷ []) ≡ plain_names block ∷ plain_blocks blocks
plain_blocks-push blocks block = ap reverse (map-append plain_names blocks (block ∷ [])) ∙ reverse-append (map plain_names blocks) (plain_names block ∷ [])

-- what an inner block says goes first
pub declared_among-first : (names : List (List ℕ × Sort)) (blocks : List (List plain.Named)) (name : List ℕ) (other : Option plain.Sort)
    → declared_among (plain_names names ∷ blocks) name other ≡ option_or (plain_sort_if (first_named names name)) (declared_among blocks name other)
declared_among-first names blocks name other = ap (λ o. option_or o (declared_among blocks name other)) (declared-first names name)

-- a token without where its text lies
pub lexeme_at : (tokens : List Token) (index : ℕ) → slice_get (map lexeme_of tokens) index ≡ option_map lexeme_of (slice_get tokens index)
lexeme_at tokens index = slice_get-map lexeme_of tokens index

-- whether a function of a name is declared
any-named : (name : List ℕ) (at : ℕ) (functions : List (List ℕ × FunctionInfo))
    → list_any (λ f. bytes_eq f.name name) (map plain_function functions) ≡ is_some (slice_get (positions_from at name functions) 0)
any-named name at [] = refl
any-named name at (f ∷ functions) = by (is_named name f) (any-named name (suc at) functions)
  where
    by : (b : Bool) → list_any (λ f. bytes_eq f.name name) (map plain_function functions) ≡ is_some (slice_get (positions_from (suc at) name functions) 0)
        → (b || list_any (λ f. bytes_eq f.name name) (map plain_function functions)) ≡ is_some (slice_get (if b then at ∷ positions_from (suc at) name functions else positions_from (suc at) name functions) 0)
    by true rest = refl
    by false rest = rest

pub function-named : (functions : List (List ℕ × FunctionInfo)) (name : List ℕ) → list_any (λ f. bytes_eq f.name name) (map plain_function functions) ≡ is_some (position (is_named name) functions)
function-named functions name = any-named name 0 functions ∙ ap is_some (first_position name functions)

-- the blocks up to one more
pub plain_blocks-take : (blocks : List (List (List ℕ × Sort))) (at : ℕ) (block : List (List ℕ × Sort)) → slice_get blocks at ≡ Some block
    → plain_blocks (take (at + 1) blocks) ≡ plain_names block ∷ plain_blocks (take at blocks)
plain_blocks-take blocks at block e = ap plain_blocks (taken blocks at e) ∙ plain_blocks-push (take at blocks) block
  where
    taken : (blocks : List (List (List ℕ × Sort))) (at : ℕ) → slice_get blocks at ≡ Some block → take (at + 1) blocks ≡ take at blocks ++ block ∷ []
    taken [] at e = cc
    taken (x ∷ blocks) zero e = let same : x ≡ block = cc in ap (λ b. b ∷ []) same
    taken (x ∷ blocks) (suc at) e = ap (λ k. take k (x ∷ blocks)) (suc-add at 1) ∙ ap (λ l. x ∷ l) (taken blocks at e)

pub innermost-step : (blocks : List (List (List ℕ × Sort))) (at : ℕ) (block : List (List ℕ × Sort)) (name : List ℕ) (other : Option plain.Sort)
    → 0 < at → at ≤ length blocks → block ≡ get_or blocks (at - 1) block
    → declared_among (plain_blocks (take at blocks)) name other ≡ option_or (plain_sort_if (first_named block name)) (declared_among (plain_blocks (take (at - 1) blocks)) name other)
innermost-step blocks at block name other some within is =
    ap (λ k. declared_among (plain_blocks (take k blocks)) name other) (omega arith) ∙
    (ap (λ bs. declared_among bs name other) (plain_blocks-take blocks (at - 1) block (slice_get_read blocks (length blocks) (at - 1) block refl (omega arith) is)) ∙
    declared_among-first block (plain_blocks (take (at - 1) blocks)) name other)
