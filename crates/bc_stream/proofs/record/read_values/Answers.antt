use Rattle.std.proofs.Common.{◌+◌, refl, arith}
use Rattle.bc_stream.proofs.RecordLemmas.{list_stop, list_more, list_large_found}
use Rattle.bc_stream.proofs.record.read_values.Goals as goal

pub returns-in_default : goal.returns-in_default
returns-in_default c =
    list_stop c.args.bytes.now c.loop-index.index c.args.count c.args.at c.loop-index.to c.loop-index.list.items c.loop-index.invariant.read c.in_default.ensures c.loop-index-test.true

pub returns-in_default-value : goal.returns-in_default-value
returns-in_default-value c =
    list_large_found c.args.bytes.now c.loop-index.index c.args.count c.args.at c.loop-index.to c.loop-index.list.items c.in-Some.number c.skip_rest.result
    c.loop-index.invariant.read c.in-Some.ensures c.in_default-value.is c.loop-index-test.true c.skip_rest.ensures

pub loop-index-preserved : goal.loop-index-preserved
loop-index-preserved c = record {
  read = list_more c.args.bytes.now c.loop-index.index c.args.at c.loop-index.to (c.loop-index.index + 1) c.in-Some-value.value c.loop-index.list.items c.push_reserved.new.self.items c.in-Some.number
      c.loop-index.invariant.read c.in-Some.ensures c.in-Some-value.is refl c.push_reserved.ensures.items;
  length-is = omega (arith, c.push_reserved.ensures.len, c.loop-index.invariant.length-is);
  room = omega (arith, c.push_reserved.ensures.capacity, c.loop-index.invariant.room);
}
