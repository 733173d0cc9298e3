use Rattle.std.proofs.Common.{◌≡◌, ◌∙◌, ◌<◌, ap, arith, length, length-take, map, sym, take}
use Rattle.std.proofs.lemmas.List.{length-map}
use Rattle.hl_meaning.specs.Held.{plain_program}
use Rattle.hl_meaning.specs.Views.{plain_constant, plain_function, plain_resource, plain_struct, plain_variable}
use Rattle.hl_inline.specs.Building.{constant_variables, inlined_all, plain_code, plain_fresh}
use Rattle.hl_inline.specs.Fresh.{nameless}
use Rattle.hl_inline.specs.InlinedFunctions.{inlined}
use Rattle.hl_inline.specs.InlinedPrograms.{inlined_entry}
use Rattle.hl_inline.proofs.Entered.{entry-is, entry_there, flat-around, flat-parts, inlined_program-as, started}
use Rattle.hl_inline.proofs.inlining.flat_parts.Goals as goal

pub bounds-functions-number : goal.bounds-functions-number
bounds-functions-number c =
    let p = c.args.program.now in
    omega (arith, entry_there (plain_program p) p.well_formed, length-map p.functions plain_function, ap length c.as_slice-functions.ensures.value)

pub slice_bounds-callees-end : goal.slice_bounds-callees-end
slice_bounds-callees-end c =
    let p = c.args.program.now in
    let functions = c.as_slice-functions.result.now in
    omega (arith, entry_there (plain_program p) p.well_formed, length-map p.functions plain_function, ap length c.as_slice-functions.ensures.value, length-take p.entry functions)

pub returns : goal.returns
returns c =
    let held = c.args.program.now in
    let p = plain_program held in
    let functions = c.as_slice-functions.result.now in
    let entry = c.index-functions-number.result in
    let d = plain_function entry in
    let k = inlined_all (take held.entry functions) in
    let fresh = plain_fresh c.in_ok-fresh.fresh in
    let now = plain_fresh c.entry_code.new.fresh in
    let code = plain_code c.in_ok-body.body in
    let within : held.entry < length functions =
    omega (arith, entry_there p held.well_formed, length-map held.functions plain_function, ap length c.as_slice-functions.ensures.value) in
    let called : inlined_entry p ≡ inlined k d = entry-is held.functions functions held.entry entry (sym c.as_slice-functions.ensures.value) within c.index-functions-number.is in
    flat-parts p (map plain_struct c.in_ok-structs.structs) now.variables (map plain_resource c.in_ok-resources.resources) (map plain_variable c.in_ok-shared.shared) code
    c.in_ok-structs.ensures c.in_ok-resources.ensures c.in_ok-shared.ensures ∙
    (sym (flat-around p d k fresh now code
    (c.in_ok-fresh.ensures ∙ ap (λ l. started (constant_variables (map plain_constant l)) (map nameless (map plain_variable entry.variables))) c.as_slice.ensures.value) c.in_ok-body.ensures) ∙
    sym (inlined_program-as p (inlined k d) called))
