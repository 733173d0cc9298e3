use Rattle.std.proofs.Common.{◌≡◌, true, None, List, [], ◌∷◌, ◌∙◌, length, take, drop, ap, sym, Bor, ◌-◌, arith}
use Rattle.std.specs.Prelude.{option_map}
use Rattle.std.proofs.lemmas.List.{drop_all, map-append}
use Rattle.bc_stream.specs.Blocks.{parts_contents}
use Rattle.bc_stream.specs.declared.block.Part.{Part}
use Rattle.bc_stream.proofs.BlockLemmas.{parts_contents-none}
use Rattle.bc_records.specs.Codes.{function_block}
use Rattle.bc_records.specs.Entries.{blocks_in}
use Rattle.bc_records.specs.RecordKinds.{has_body}
use Rattle.bc_records.proofs.ReadDefined.{held, last_none, slice_from}
use Rattle.bc_records.proofs.read.defined.push_body_block.Goals as goal

pub returns-in_ok-push-in-None : goal.returns-in_ok-push-in-None
returns-in_ok-push-in-None c =
    let rest = c.args.rest.now in
    let values = c.args.entry.now.values in
    let left = take (length rest - length rest) (drop (length rest) rest) in
    let defined : has_body values ≡ true = sym (c.is_defined.ensures ∙ ap has_body c.as_slice.ensures.value) ∙ c.if-not-is_defined.false in
    let none : blocks_in function_block (parts_contents left) ≡ [] =
    ap (λ ps. blocks_in function_block (parts_contents ps)) (slice_from rest (length rest) ∙ drop_all (length rest) rest (omega arith))
    ∙ ap (blocks_in function_block) parts_contents-none in
    λ es.
    last_none (held c.args.found.now.items) (held c.push-in-None.new.self.items) c.args.entry.now.code values es
    (blocks_in function_block (parts_contents left)) (blocks_in function_block (parts_contents rest))
    c.if-entry-ne-FUNCTION.false defined none c.in-None.ensures
    (ap held c.in_ok-push-in-None.ensures.items
    ∙ map-append (option_map (λ (p : Bor (List Part)). parts_contents p.now)) c.args.found.now.items (None ∷ []))
