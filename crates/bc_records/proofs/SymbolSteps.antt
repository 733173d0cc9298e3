-- One name more.
use Rattle.std.proofs.Common.{◌≡◌, ℕ, ◌+◌, ◌<◌, ◌≤◌, List, [], ◌∷◌, map, length, drop, get_or, ap, sym, ◌∙◌}
use Rattle.std.proofs.Math.Numerals.{add-one}
use Rattle.std.proofs.lemmas.List.{drop_more, drop_all}
use Rattle.ir_core.specs.declared.module.Function.{Function}
use Rattle.bc_stream.specs.Blocks.{Contents, append, no_more, a_record}
use Rattle.bc_records.specs.Entries.{entry}
use Rattle.bc_records.specs.SymbolRecords.{symbol_entry}
use Rattle.bc_records.specs.Written.{symbols_from}
use Rattle.bc_records.proofs.Steps.{alone, append_none, one_step}

-- the records of the functions from a place on
abbrev pub left : ℕ → List Function → Contents
left place functions = alone (map symbol_entry (symbols_from place functions))

pub symbol_step : (functions : List Function) (i : ℕ) (f : Function) (old new whole : Contents) → i < length functions → f ≡ get_or functions i f →
    new ≡ append old (a_record 1 (i ∷ f.name) no_more) →
    append old (left i (drop i functions)) ≡ whole →
    append new (left (i + 1) (drop (i + 1) functions)) ≡ whole
symbol_step functions i f old new whole below is pushed so_far =
    one_step old new whole (entry 1 (i ∷ f.name) ∷ []) (map symbol_entry (symbols_from (i + 1) (drop (i + 1) functions))) (map symbol_entry (symbols_from i (drop i functions)))
    (ap (λ fs. map symbol_entry (symbols_from i fs)) (drop_more functions i f below ∙ ap (λ g. g ∷ drop (i + 1) functions) (sym is))
    ∙ ap (λ next. entry 1 (i ∷ f.name) ∷ map symbol_entry (symbols_from next (drop (i + 1) functions))) (sym (add-one i)))
    pushed so_far

pub symbol_stop : (functions : List Function) (i : ℕ) (old whole : Contents) → length functions ≤ i →
    append old (left i (drop i functions)) ≡ whole → old ≡ whole
symbol_stop functions i old whole past so_far =
    sym (append_none old) ∙ (ap (λ fs. append old (left i fs)) (sym (drop_all i functions past)) ∙ so_far)
