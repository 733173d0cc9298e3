-- What the functions of a program hold, one after another.
use Rattle.std.proofs.Common.{◌≡◌, ◌∙◌, sym, ap, ℕ, ◌+◌, ◌<◌, List, [], ◌∷◌, ◌++◌, map, take, length, get_or, slice_get, unwrap_or}
use Rattle.std.proofs.lemmas.List.{map_push, take_more}
use Rattle.hl_meaning.specs.declared.program.FunctionDef.{FunctionDef}
use Rattle.hl_meaning.specs.declared.sums.Sums.{Sums}
use Rattle.hl_meaning.specs.Programs.{StructDef}
use Rattle.hl_meaning.specs.Stopping.{stopped}
use Rattle.hl_meaning.specs.Sums.{both, function_sums, functions_sums, memory, nothing, stop_all}
use Rattle.hl_meaning.specs.Views.{plain_function}
use Rattle.hl_meaning.proofs.SumLemmas.{both_of, stop_all-memory}
use Rattle.hl_meaning.proofs.KnownSums.{function-alike, functions_sums-more, get-stopped}

-- one turn of a loop over the functions
pub functions_more : (structs : List StructDef) (fs : List FunctionDef) (i : ℕ) (f : FunctionDef) (known : List Sums) (sums : Sums) → i < length fs → f ≡ get_or fs i f →
    known ≡ map stop_all (functions_sums structs [] (map plain_function (take i fs))) → sums ≡ stop_all (function_sums (record { structs = structs; functions = known }) (plain_function f)) →
    known ++ sums ∷ [] ≡ map stop_all (functions_sums structs [] (map plain_function (take (i + 1) fs)))
functions_more structs fs i f known sums within read before is =
    let before_f = functions_sums structs [] (map plain_function (take i fs)) in
    let of_f = function_sums (record { structs = structs; functions = before_f }) (plain_function f) in
    let one : sums ≡ stop_all of_f =
    is ∙ (ap (λ ks. stop_all (function_sums (record { structs = structs; functions = ks }) (plain_function f))) before ∙ function-alike (record { structs = structs; functions = before_f }) (plain_function f)) in
    let fronts : map plain_function (take (i + 1) fs) ≡ map plain_function (take i fs) ++ plain_function f ∷ [] =
    ap (λ gs. map plain_function gs) (take_more fs i f within ∙ ap (λ g. take i fs ++ g ∷ []) (sym read)) ∙ map_push plain_function (take i fs) f in
    ap (λ ks. ks ++ sums ∷ []) before ∙ (ap (λ s. map stop_all before_f ++ s ∷ []) one ∙ sym (ap (λ gs. map stop_all (functions_sums structs [] gs)) fronts ∙
    (ap (λ ss. map stop_all ss) (functions_sums-more structs [] (map plain_function (take i fs)) (plain_function f)) ∙ map_push stop_all before_f of_f)))

-- the entry beside the constants
pub entry_and_constants : (known functions : List Sums) (entry : ℕ) (callee mem r : Sums) (constants words : ℕ) → known ≡ map stop_all functions →
    callee ≡ unwrap_or (slice_get known entry) nothing → constants ≡ stopped words → mem ≡ stop_all (memory constants constants) → r ≡ stop_all (both callee mem) →
    r ≡ stop_all (both (unwrap_or (slice_get functions entry) nothing) (memory words words))
entry_and_constants known functions entry callee mem r constants words stopped_all of_callee of_words of_mem is =
    both_of r callee mem (unwrap_or (slice_get functions entry) nothing) (memory words words) is
    (of_callee ∙ (ap (λ ks. unwrap_or (slice_get ks entry) nothing) stopped_all ∙ get-stopped functions entry))
    (of_mem ∙ (ap (λ n. stop_all (memory n n)) of_words ∙ stop_all-memory words words))
