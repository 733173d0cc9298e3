use Rattle.std.proofs.Common.{◌≡◌, ◌∙◌, ap, refl, sym}
use Rattle.hl_meaning.specs.Types.{Ty}
use Rattle.hl_meaning.specs.Views.{plain_parts, plain_root, plain_structs}
use Rattle.hl_meaning.proofs.Plain.{plain_location-is}
use Rattle.hl_source.specs.Offsets.{indexes_of_steps, place_of, reached, start_of, type_of_root}
use Rattle.hl_interpreter.specs.HeldPlaces.{plain_reached, plain_type}
use Rattle.hl_interpreter.specs.Runs.{context_of, run_context}
use Rattle.hl_interpreter.proofs.HeldPaths.{holder-same, place-parts}
use Rattle.hl_interpreter.proofs.places.place_of.Goals as goal

pub returns : goal.returns
returns c =
    let context = context_of c.args.context.now in
    let l = c.args.location.now in
    let structs = plain_structs c.args.context.now.run.now.program.now.structs in
    let root = plain_root l.root in
    let parts = plain_parts l.parts in
    let steps = c.indexes_of_steps-steps.result.now in
    let start = c.root_type-start.result in
    let there : plain_reached c.in_ok-at.at ≡ reached structs (start_of (type_of_root context root)) parts (indexes_of_steps root c.args.indexes.now) =
    c.in_ok-at.ensures ∙ (ap (λ ps. reached structs (start_of (plain_type start)) (plain_parts ps) steps) c.as_slice.ensures ∙
    (ap (λ (t : Ty). reached structs (start_of t) parts steps) c.root_type-start.ensures ∙
    ap (λ ix. reached structs (start_of (type_of_root context root)) parts ix) c.indexes_of_steps-steps.ensures)) in
    place-parts _ _ _ _ (c.holder_of.ensures ∙ holder-same (run_context c.args.context.now.run.now) context _ root refl) there ∙ sym (ap (λ x. place_of context x c.args.indexes.now) (plain_location-is l))
