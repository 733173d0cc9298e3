-- Functions with names.
use Rattle.std.proofs.Common.{◌≡◌, ℕ, zero, suc, ◌<◌, ◌≤◌, List, [], ◌∷◌, ◌++◌, map, length, get_or, refl, ap, sym, ◌∙◌, arith}
use Rattle.std.specs.Prelude.{slice_set}
use Rattle.std.proofs.lemmas.List.{map-append}
use Rattle.ir_core.specs.declared.module.Function.{Function}
use Rattle.bc_records.specs.Entries.{Entry}
use Rattle.bc_records.specs.SymbolRecords.{SymbolRecord, symbol}
use Rattle.bc_records.specs.Read.{read_symbol, with_name, with_names}

pub set_is_with_name : (fs : List Function) (value : ℕ) (name : List ℕ) (f : Function) → value < length fs → f ≡ get_or fs value f →
    slice_set fs value (record { name = name; ty = f.ty; body = f.body }) ≡ with_name fs value name
set_is_with_name [] value name f below is = absurd (omega arith)
set_is_with_name (g ∷ fs) zero name f below is = ap (λ (h : Function). record { name = name; ty = h.ty; body = h.body } ∷ fs) is
set_is_with_name (g ∷ fs) (suc value) name f below is = ap (λ gs. g ∷ gs) (set_is_with_name fs value name f (omega arith) is)

pub no_function : (fs : List Function) (value : ℕ) (name : List ℕ) → length fs ≤ value → fs ≡ with_name fs value name
no_function [] value name past = refl
no_function (f ∷ fs) zero name past = absurd (omega arith)
no_function (f ∷ fs) (suc value) name past = ap (λ gs. f ∷ gs) (no_function fs value name (omega arith))

names-append : (fs : List Function) (first second : List SymbolRecord) → with_names fs (first ++ second) ≡ with_names (with_names fs first) second
names-append fs [] second = refl
names-append fs (symbol value name ∷ first) second = names-append (with_name fs value name) first second

-- the names of some records, and then those of others
pub names_then : (fs more : List Function) (first second : List Entry) → more ≡ with_names fs (map read_symbol first) →
    with_names more (map read_symbol second) ≡ with_names fs (map read_symbol (first ++ second))
names_then fs more first second is =
    ap (λ gs. with_names gs (map read_symbol second)) is
    ∙ (sym (names-append fs (map read_symbol first) (map read_symbol second))
    ∙ ap (with_names fs) (sym (map-append read_symbol first second)))
