use Rattle.std.proofs.Common.{◌∷◌, ◌++◌, [], refl, sym, subst, arith, length, get_or, set, true, eqb-true}
use Rattle.std.proofs.lemmas.Bool.{eqb-false}
use Rattle.bc_records.specs.Entries.{entry}
use Rattle.bc_records.specs.FaultSearch.{MarksNamed}
use Rattle.bc_records.proofs.FaultSymbols.{unmarked-more, marked-more, other-code, none-named, not-named}
use Rattle.bc_records.proofs.faults.symbols.mark.Goals as goal
use Rattle.bc_records.proofs.faults.symbols.mark.Goals.{then-code-ne-SYMBOL_ENTRY-via-then-code-ne-SYMBOL_ENTRY, then-code-ne-SYMBOL_ENTRY-via-else-code-ne-SYMBOL_ENTRY+then-is_empty}

pub returns-then-code-ne-SYMBOL_ENTRY : goal.returns-then-code-ne-SYMBOL_ENTRY
returns-then-code-ne-SYMBOL_ENTRY c earlier marked =
    let marks = c.args.marks.now in
    let operands = c.args.operands.now in
    elim c.then-code-ne-SYMBOL_ENTRY.branch [
      | then-code-ne-SYMBOL_ENTRY-via-then-code-ne-SYMBOL_ENTRY w ↦
          unmarked-more marks earlier (entry c.args.code operands) marked (λ value within. other-code value c.args.code operands w.if-code-ne-SYMBOL_ENTRY.true)
      | then-code-ne-SYMBOL_ENTRY-via-else-code-ne-SYMBOL_ENTRY+then-is_empty w ↦
          unmarked-more marks earlier (entry c.args.code operands) marked (λ value within. none-named value c.args.code operands (eqb-true (length operands) 0 (sym w.if-is_empty.ensures)))
    ]

pub returns-then-value-marks : goal.returns-then-value-marks
returns-then-value-marks c earlier marked =
    let marks = c.args.marks.now in
    let operands = c.args.operands.now in
    subst (λ code. MarksNamed (set marks (get_or operands 0 0) true) (earlier ++ entry code operands ∷ [])) (sym c.if-code-ne-SYMBOL_ENTRY.false)
    (marked-more marks earlier operands (get_or operands 0 0) c.if-value-marks.true (eqb-false (length operands) 0 (sym c.if-is_empty.ensures)) refl marked)

pub returns-else-value-marks : goal.returns-else-value-marks
returns-else-value-marks c earlier marked =
    let marks = c.args.marks.now in
    let operands = c.args.operands.now in
    subst (λ code. MarksNamed marks (earlier ++ entry code operands ∷ [])) (sym c.if-code-ne-SYMBOL_ENTRY.false)
    (unmarked-more marks earlier (entry 1 operands) marked (λ value within. not-named value operands (λ e. omega (arith, e, within, c.if-value-marks.false))))
