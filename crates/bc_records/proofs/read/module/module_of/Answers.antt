use Rattle.std.proofs.Common.{List, ◌∙◌, ap}
use Rattle.ir_core.specs.declared.module.Function.{Function}
use Rattle.ir_core.specs.declared.module.Module.{Module}
use Rattle.bc_stream.specs.Blocks.{Contents, parts_contents}
use Rattle.bc_records.specs.Codes.{function_block}
use Rattle.bc_records.specs.Entries.{blocks_in, entries_in}
use Rattle.bc_records.specs.Read.{with_code}
use Rattle.bc_records.specs.ReadBodies.{bodies_of, with_bodies}
use Rattle.bc_records.specs.RecordKinds.{function_entries}
use Rattle.bc_records.proofs.ReadDefined.{held, code_is_bodies}
use Rattle.bc_records.proofs.read.module.module_of.Goals as goal

-- a module with other functions
abbrev with_functions : Module → List Function → Module
with_functions m functions = record {
  triple = m.triple;
  layout = m.layout;
  types = m.types;
  globals = m.globals;
  functions = functions;
  consts = m.consts;
  metas = m.metas;
  named = m.named;
}

-- a module with the bodies that a block holds
abbrev with_bodies_of : Contents → Module → Module
with_bodies_of inner m = with_functions m (with_code m (function_entries (entries_in inner)) m.functions (blocks_in function_block inner))

pub returns : goal.returns
returns c =
    let outline = c.in_ok-outline.outline in
    let inner = parts_contents c.args.inner.now in
    let records = function_entries (entries_in inner) in
    let blocks = blocks_in function_block inner in
    let fs = outline.functions in
    ap (with_functions outline)
    (c.in_ok-from_vec.ensures
    ∙ (c.set_bodies.ensures
    ∙ (ap (λ gs. with_bodies gs c.in_ok-bodies.bodies.items) c.into_vec-functions.ensures
    ∙ (ap (with_bodies fs)
    (c.in_ok-bodies.ensures
    ∙ ap (λ bs. bodies_of outline bs fs) (ap held c.as_slice.ensures.value ∙ c.in_ok-blocks.ensures))
    ∙ code_is_bodies outline records fs blocks))))
    ∙ ap (with_bodies_of inner) c.in_ok-outline.ensures
