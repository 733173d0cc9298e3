use Rattle.std.proofs.Common.{◌∙◌, ap, ◌∷◌, ◌++◌, [], if◌then◌else◌, bytes_eq}
use Rattle.hl_values.specs.NameEntries.{noted_for}
use Rattle.hl_values.proofs.NotedLemmas.{are_noted-push, length-within}
use Rattle.base_core.specs.Limits.{most_parts}
use Rattle.hl_values.proofs.name_table.NameTable.push.Goals as goal

pub invariant_of-self-2 : goal.invariant_of-self-2
invariant_of-self-2 g c =
    record {
      within = length-within c.self.inside.entries.items c.push.new.self.items (record { name = c.args.name; value = c.args.value }) c.len.result most_parts
          (c.in_ok-push.ensures.items ∙ ap (λ l. l ++ record { name = c.args.name; value = c.args.value } ∷ []) c.in_ok-reserve.ensures.items)
          (c.len.ensures ∙ c.self.inside.entries.ok.0) c.self.invariant.within c.if-len-eq-MOST_ENTRIES.false;
      noted = rw c.in_ok-push.ensures.items
          (are_noted-push c.reserve.new.self.items c.self.inside.positions c.note_position.new.positions (record { name = c.args.name; value = c.args.value })
          (rw c.in_ok-reserve.ensures.items c.self.invariant.noted)
          (λ other. c.in_ok-note_position.ensures.ok other ∙ ap (λ k. noted_for c.self.inside.positions other ++ (if bytes_eq c.args.name.now other then k ∷ [] else [])) (c.len-2.ensures ∙ c.reserve.new.self.ok.0)));
    }
