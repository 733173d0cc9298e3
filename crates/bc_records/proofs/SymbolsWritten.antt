-- The written symbol table names the functions, in one block.
use Rattle.std.proofs.Common.{◌≡◌, ◌≢◌, ℕ, suc, ◌+◌, ◌<◌, ◌≤◌, List, [], ◌∷◌, ◌++◌, map, length, refl, ap, ◌∙◌, subst, arith, append_assoc}
use Rattle.std.specs.Prelude.{All}
use Rattle.std.proofs.lemmas.List.{append-nil}
use Rattle.std.proofs.lemmas.List.Elements.{All-nil, All-cons, All-head, All-tail, All-push, All-weaker}
use Rattle.ir_core.specs.declared.module.Function.{Function}
use Rattle.bc_stream.specs.Blocks.{no_more}
use Rattle.bc_records.specs.SymbolRecords.{SymbolRecord, symbol, symbol_entry, name_of, IsOf, IsOther, NamesOnce, NamedFrom, SymbolsRecorded}
use Rattle.bc_records.specs.Written.{symbols_from, symbols_contents}
use Rattle.bc_records.proofs.ListedLemmas.{entries_in-alone, block_ids-listed}
use Rattle.bc_records.proofs.Numbers.{test_same, test_other}

abbrev names : List Function → List (List ℕ)
names functions = map (λ f. f.name) functions

-- records of smaller values don't name a value
name_of-past : (value : ℕ) (before rest : List SymbolRecord) → All (IsOf value) before → name_of (before ++ rest) value ≡ name_of rest value
name_of-past value [] rest all = refl
name_of-past value (symbol named name ∷ before) rest all =
    let below : named < value = All-head (IsOf value) (symbol named name) before all in
    let other : named ≢ value = omega arith in
    test_other named value _ _ other ∙ name_of-past value before rest (All-tail (IsOf value) (symbol named name) before all)

of_more : (value : ℕ) (r : SymbolRecord) → IsOf value r → IsOf (suc value) r
of_more value (symbol named name) below = omega arith

named_from : (value : ℕ) (before : List SymbolRecord) (functions : List Function) → All (IsOf value) before →
    NamedFrom value (before ++ symbols_from value functions) (names functions)
named_from value before [] all = tt
named_from value before (f ∷ fs) all =
    let own : SymbolRecord = symbol value f.name in
    let found : name_of (before ++ symbols_from value (f ∷ fs)) value ≡ f.name
    = name_of-past value before (symbols_from value (f ∷ fs)) all ∙ test_same value value _ _ refl in
    let last : value < suc value = omega arith in
    let more : NamedFrom (suc value) ((before ++ own ∷ []) ++ symbols_from (suc value) fs) (names fs)
    = named_from (suc value) (before ++ own ∷ []) fs (All-push (IsOf (suc value)) before own (All-weaker (IsOf value) (IsOf (suc value)) (of_more value) before all) last) in
    let whole : (before ++ own ∷ []) ++ symbols_from (suc value) fs ≡ before ++ symbols_from value (f ∷ fs)
    = append_assoc before (own ∷ []) (symbols_from (suc value) fs) in
    (found, subst (λ records. NamedFrom (suc value) records (names fs)) whole more)

others_above : (value from : ℕ) (functions : List Function) → value < from → All (IsOther value) (symbols_from from functions)
others_above value from [] below = All-nil (IsOther value)
others_above value from (f ∷ fs) below =
    let other : from ≢ value = omega arith in
    All-cons (IsOther value) (symbol from f.name) (symbols_from (suc from) fs) other (others_above value (suc from) fs (omega arith))

once_from : (value : ℕ) (functions : List Function) → NamesOnce (symbols_from value functions)
once_from value [] = tt
once_from value (f ∷ fs) = (others_above value (suc value) fs (omega arith), once_from (suc value) fs)

of_all : (count value : ℕ) (functions : List Function) → value + length functions ≤ count → All (IsOf count) (symbols_from value functions)
of_all count value [] fits = All-nil (IsOf count)
of_all count value (f ∷ fs) fits =
    let below : value < count = omega arith in
    All-cons (IsOf count) (symbol value f.name) (symbols_from (suc value) fs) below (of_all count (suc value) fs (omega arith))

pub symbols_written : (functions : List Function) → SymbolsRecorded (length functions) (symbols_contents functions ∷ []) (names functions)
symbols_written functions = record {
  records = symbols_from 0 functions ∷ [];
  spelled = ap (λ entries. entries ∷ []) (entries_in-alone (map symbol_entry (symbols_from 0 functions)));
  no_blocks = append-nil _ ∙ block_ids-listed (map symbol_entry (symbols_from 0 functions)) no_more;
  of_values = rw append-nil (of_all (length functions) 0 functions (omega arith));
  once = rw append-nil (once_from 0 functions);
  names_are = rw append-nil (named_from 0 [] functions (All-nil (IsOf 0)));
}
