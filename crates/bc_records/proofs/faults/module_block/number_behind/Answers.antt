use Rattle.std.proofs.Common.{◌≡◌, None, subst, arith}
use Rattle.bc_stream.specs.Blocks.{parts_contents}
use Rattle.bc_records.specs.FaultSearch.{first_fault}
use Rattle.bc_records.specs.RecordFaults.{module_inside}
use Rattle.bc_records.proofs.FaultFlat.{types-none, constants-none, metadata-none, symbols-none}
use Rattle.bc_records.proofs.faults.module_block.number_behind.Goals as goal

pub returns-in-17 : goal.returns-in-17
returns-in-17 c known before none room =
    let inner = parts_contents c.args.block.now.parts in
    omega (
      arith,
      room,
      c.saturating_add.ensures,
      types-none known before c.args.number inner
          (subst (λ id. first_fault (module_inside known before id c.args.number inner) ≡ None) c.in-17.is none),
    )

pub returns-in-11 : goal.returns-in-11
returns-in-11 c known before none room =
    let inner = parts_contents c.args.block.now.parts in
    omega (
      arith,
      room,
      c.saturating_add-in-11.ensures,
      constants-none known before c.args.number inner
          (subst (λ id. first_fault (module_inside known before id c.args.number inner) ≡ None) c.in-11.is none),
    )

pub returns-in-15 : goal.returns-in-15
returns-in-15 c known before none room =
    let inner = parts_contents c.args.block.now.parts in
    omega (
      arith,
      room,
      c.saturating_add-in-15.ensures,
      metadata-none known before c.args.number inner
          (subst (λ id. first_fault (module_inside known before id c.args.number inner) ≡ None) c.in-15.is none),
    )

pub returns-in-14 : goal.returns-in-14
returns-in-14 c known before none room =
    let inner = parts_contents c.args.block.now.parts in
    omega (
      arith,
      room,
      c.saturating_add-in-14.ensures,
      symbols-none known before c.args.number inner
          (subst (λ id. first_fault (module_inside known before id c.args.number inner) ≡ None) c.in-14.is none),
    )
