use Rattle.std.proofs.Common.{◌∙◌, ap, [], slice_get, unwrap_or}
use Rattle.hl_meaning.specs.Held.{plain_program}
use Rattle.hl_meaning.specs.Sums.{constant_words, functions_sums, nothing}
use Rattle.hl_meaning.proofs.LayoutLemmas.{has_words}
use Rattle.hl_meaning.proofs.ProgramSums.{entry_and_constants}
use Rattle.hl_meaning.proofs.totals.program_sums.Goals as goal

pub constants_words-constants-requires : goal.constants_words-constants-requires
constants_words-constants-requires c = has_words (plain_program c.args.program.now) c.args.program.now.well_formed

pub returns : goal.returns
returns c =
    let p = plain_program c.args.program.now in
    entry_and_constants c.in_ok-known.known.items (functions_sums p.structs [] p.functions) p.entry c.callee_sums-entry.result c.memory.result c.both.result c.constants_words-constants.result (constant_words p.structs p.constants)
    c.in_ok-known.ensures (c.callee_sums-entry.ensures ∙ ap (λ ks. unwrap_or (slice_get ks p.entry) nothing) c.as_slice.ensures.value)
    c.constants_words-constants.ensures c.memory.ensures c.both.ensures
