-- What changes of what is known.
use Rattle.std.proofs.Common.{◌≡◌, ◌∙◌, refl, sym, ap, ℕ, ◌+◌, List, [], ◌∷◌, ◌++◌, map, length, drop, Option, None, Some, MatchOption, option_to_list, append-nil, add-zero, zero-add, arith, Bool}
use Rattle.std.proofs.lemmas.List.{length_push, map-append}
use Rattle.hl_rules.specs.Scopes as plain
use Rattle.hl_rules.specs.Scopes.{Named, a_struct_name, behind, named, spelled, with_global, with_local}
use Rattle.hl_values.specs.declared.scope.Sort.{Sort}
use Rattle.hl_values.specs.ScopeChanges.{closed, one_block, with_struct_named}
use Rattle.hl_values.specs.ScopeViews.{plain_blocks, plain_named, plain_names, plain_sort}
use Rattle.hl_values.specs.StructTables.{Member, Members, plain_member, plain_struct, plain_structs, structs_behind}
use Rattle.hl_values.proofs.ScopeLemmas.{plain_blocks-push}
use Rattle.hl_values.proofs.StructLemmas.{plain_structs-push}

-- a local name is declared in the innermost block, which there may not be yet
local-one : (s : plain.Scope) (n : Named) (blocks : List (List Named)) → with_local n (record s { blocks = blocks }) ≡ with_local n (record s { blocks = one_block blocks })
local-one s n [] = refl
local-one s n (block ∷ blocks) = refl

pub declared-local : (s : plain.Scope) (before : List (List (List ℕ × Sort))) (names : List (List ℕ × Sort)) (name : List ℕ) (sort : Sort) (new : List (List (List ℕ × Sort)))
    → plain_blocks (before ++ names ∷ []) ≡ one_block s.blocks
    → new ≡ before ++ (names ++ (name, sort) ∷ []) ∷ []
    → record s { blocks = plain_blocks new } ≡ with_local (named name (plain_sort sort)) s
declared-local s before names name sort new one is =
    let block : plain_names (names ++ (name, sort) ∷ []) ≡ plain_names names ++ named name (plain_sort sort) ∷ [] = map-append plain_named names ((name, sort) ∷ []) in
    ap (λ bs. record s { blocks = plain_blocks bs }) is ∙
    (ap (λ bs. record s { blocks = bs }) (plain_blocks-push before (names ++ (name, sort) ∷ []) ∙ ap (λ b. b ∷ plain_blocks before) block) ∙
    sym (local-one s (named name (plain_sort sort)) s.blocks ∙
    ap (λ bs. with_local (named name (plain_sort sort)) (record s { blocks = bs })) (sym one ∙ plain_blocks-push before names)))

-- behind the innermost block
pub closed-blocks : (blocks before : List (List (List ℕ × Sort))) (last : Option (List (List ℕ × Sort))) (m n : ℕ)
    → n ≡ length blocks → blocks ≡ before ++ option_to_list last → MatchOption last ((n ≡ 0) × (m ≡ 0)) (λ _. m + 1 ≡ n)
    → plain_blocks before ≡ drop 1 (plain_blocks blocks)
closed-blocks blocks before (Some names) m n count is cases = sym (ap (λ bs. drop 1 bs) (ap plain_blocks is ∙ plain_blocks-push before names))
closed-blocks [] before None m n count is cases = ap plain_blocks (sym (append-nil before) ∙ sym is)
closed-blocks (block ∷ blocks) before None m n count is cases = absurd (omega (arith, cases.0, count))

-- as many structs as are held
length-structs_behind : (before : List plain.StructInfo) (structs : List Members) → length (structs_behind before structs) ≡ length before + length structs
length-structs_behind before [] = sym (add-zero (length before))
length-structs_behind before (d ∷ structs) =
    length-structs_behind (before ++ plain_struct before d ∷ []) structs ∙ (ap (λ n. n + length structs) (length_push before (plain_struct before d)) ∙ omega arith)

pub length-plain_structs : (structs : List Members) → length (plain_structs structs) ≡ length structs
length-plain_structs structs = length-structs_behind [] structs ∙ zero-add (length structs)

-- a struct is declared behind others
pub declared-struct : (s : plain.Scope) (structs new : List Members) (name : ℕ) (text : List ℕ) (members : List Member) (number : ℕ)
    → new ≡ structs ++ (text, members) ∷ [] → number ≡ length structs → text ≡ spelled s name
    → with_global (named text (a_struct_name number)) (record s { structs = plain_structs new })
    ≡ with_struct_named name (map plain_member members) (record s { structs = plain_structs structs })
declared-struct s structs new name text members number is count spells =
    ap (λ n. with_global (named text (a_struct_name n)) (record s { structs = plain_structs new })) (count ∙ sym (length-plain_structs structs)) ∙
    (ap (λ l. with_global (named text (a_struct_name (length (plain_structs structs)))) (record s { structs = l })) (ap plain_structs is ∙ plain_structs-push structs (text, members)) ∙
    ap (λ t. with_global (named t (a_struct_name (length (plain_structs structs)))) (record s { structs = plain_structs structs ++ plain_struct (plain_structs structs) (t, members) ∷ [] })) spells)

-- behind a block only the number of variables is another one
pub closed-behind : (s : plain.Scope) (block : List Named) (count : ℕ) (in_loop : Bool)
    → closed s.in_loop (record s { blocks = block ∷ s.blocks; variables = s.variables + count; in_loop = in_loop }) ≡ behind count s
closed-behind s block count in_loop = refl
