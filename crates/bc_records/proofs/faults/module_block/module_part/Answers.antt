use Rattle.std.proofs.Common.{◌∙◌, ap, sym}
use Rattle.bc_stream.specs.Blocks.{parts_contents}
use Rattle.bc_records.specs.FaultSearch.{fault_at, first_fault, first_kind, or_else}
use Rattle.bc_records.specs.KnownTables.{known_by}
use Rattle.bc_records.specs.RecordFaults.{module_heads, module_inside}
use Rattle.bc_records.proofs.FaultWalk.{told-exit, told-same, or_else-some, or_else-none}
use Rattle.bc_records.proofs.FaultModules.{count-bodies}
use Rattle.bc_records.proofs.faults.module_block.module_part.Goals as goal

pub returns-in_err-free_at-clause-told : goal.returns-in_err-free_at-clause-told
returns-in_err-free_at-clause-told c before come marked =
    let known = known_by c.args.tables.now in
    let id = c.args.inner.now.id in
    let inner = parts_contents c.args.inner.now.parts in
    let head = fault_at c.args.number 0 (first_kind (module_heads known before id)) in
    let h = c.head_kind.ensures known before come in
    told-exit c.from_residual.result c.in_err-free_at.field-0.0 (fault_at c.args.number 0 c.head_kind.result)
    (or_else head (first_fault (module_inside known before id c.args.number inner)))
    c.from_residual.ensures.1
    (λ f is. or_else-some head (first_fault (module_inside known before id c.args.number inner)) f (ap (fault_at c.args.number 0) (sym (h (count-bodies c.args.bodies.now known c.requires.bodies))) ∙ is))
    c.in_err-free_at.ensures

pub returns-clause-told : goal.returns-clause-told
returns-clause-told c before come marked =
    let known = known_by c.args.tables.now in
    let id = c.args.inner.now.id in
    let inner = parts_contents c.args.inner.now.parts in
    let head = fault_at c.args.number 0 (first_kind (module_heads known before id)) in
    let inside = first_fault (module_inside known before id c.args.number inner) in
    let h = c.head_kind.ensures known before come in
    told-same c.inside_block.result inside (or_else head inside)
    (or_else-none head inside (ap (fault_at c.args.number 0) (sym (h (count-bodies c.args.bodies.now known c.requires.bodies))) ∙ c.in_ok-free_at.ensures))
    (c.inside_block.ensures.told before come.bodies marked)
