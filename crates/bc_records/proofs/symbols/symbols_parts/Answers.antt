use Rattle.std.proofs.Common.{◌∙◌, ap}
use Rattle.ir_core.specs.declared.module.Function.{Function}
use Rattle.bc_stream.specs.Blocks.{parts_contents}
use Rattle.bc_records.specs.Entries.{IsText}
use Rattle.bc_records.specs.Written.{symbols_contents}
use Rattle.bc_records.proofs.Steps.{range_step, range_stop}
use Rattle.bc_records.proofs.SymbolSteps.{symbol_step, symbol_stop}
use Rattle.bc_records.proofs.symbols.symbols_parts.Goals as goal

abbrev NameInRange : Function → Type 0
NameInRange f = IsText f.name

pub loop-value-preserved : goal.loop-value-preserved
loop-value-preserved c = record {
  so_far = symbol_step c.as_slice-all.result.now c.loop-value.value c.index-all-value.result
      (parts_contents c.loop-value.parts) (parts_contents c.push_text.new.parts) (symbols_contents c.as_slice-all.result.now)
      c.loop-value-test.true c.index-all-value.is c.in_ok-push_text.ensures.ok c.loop-value.invariant.so_far;
  range = range_step NameInRange c.as_slice-all.result.now c.loop-value.value c.index-all-value.result
      c.loop-value-test.true c.index-all-value.is c.in_ok-push_text.ensures.range c.loop-value.invariant.range;
}

pub returns-clause-value : goal.returns-clause-value
returns-clause-value c =
    symbol_stop c.as_slice-all.result.now c.loop-value.value (parts_contents c.loop-value.parts) (symbols_contents c.as_slice-all.result.now)
    c.loop-value-test.false c.loop-value.invariant.so_far
    ∙ ap symbols_contents c.as_slice-all.ensures.value

pub returns-clause-range : goal.returns-clause-range
returns-clause-range c =
    range_stop NameInRange c.as_slice-all.result.now c.args.functions.now c.loop-value.value c.loop-value-test.false
    c.as_slice-all.ensures.value c.loop-value.invariant.range
