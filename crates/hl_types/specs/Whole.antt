-- What a whole function breaks, where its parameters are known already.
use Rattle.std.specs.Prelude.{ℕ, Bool, ◌&&◌, not, List, Option, is_some, bytes_eq}
use Rattle.std.specs.List.{list_any}
use Rattle.hl_parser.specs.Trees.{Tree, Trees, at_of}
use Rattle.hl_rules.specs.declared.found.Broken.{Broken}
use Rattle.hl_rules.specs.DeclarationRules.{always_returns, has_numthreads, have_same_types, is_function_sort, is_global, is_no_result}
use Rattle.hl_rules.specs.Found.{breaking, broken_if, gathered}
use Rattle.hl_rules.specs.Intrinsics.{intrinsic_named}
use Rattle.hl_rules.specs.Scopes.{ParamInfo, Scope, is_function, spelled}
use Rattle.hl_rules.specs.Sites.{is_entry}

-- a rule that is broken or not, behind what was found
abbrev pub judged : (rule : ℕ) → Bool → (at : ℕ) → Option Broken → Option Broken
judged rule test at found = gathered found (breaking rule (broken_if test at))

abbrev pub name_noted : Scope → List ParamInfo → (name : ℕ) → Option Broken → Option Broken
name_noted s params name found =
    judged 13 (bytes_eq (spelled s name) s.entry && is_function s s.entry) name
    (judged 12 (is_some (intrinsic_named (spelled s name))) name
    (judged 11 (list_any (λ f. bytes_eq f.name (spelled s name) && have_same_types f.params params) s.functions) name
    (judged 1 (is_global (λ sort. not (is_function_sort sort)) s name) name found)))

abbrev pub whole_noted : Scope → List ParamInfo → (attributes : Trees) → (result : Tree) → (name : ℕ) → (block : Tree) → Option Broken → Option Broken
whole_noted s params attributes result name block found =
    judged 21 (not (is_no_result result) && not (always_returns s.tokens block)) name
    (judged 16 (is_entry s name && not (is_no_result result)) (at_of result)
    (judged 14 (is_entry s name && not (has_numthreads s attributes)) name
    (name_noted s params name found)))
