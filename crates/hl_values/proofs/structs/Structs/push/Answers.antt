use Rattle.std.proofs.Common.{◌∙◌, ◌++◌, ◌∷◌, [], sym, ap, option_map, map}
use Rattle.hl_rules.specs.Scopes.{members_words}
use Rattle.hl_values.specs.declared.structs.StructInfo.{StructInfo}
use Rattle.hl_values.specs.Innermost.{innermost_in, innermosts}
use Rattle.hl_values.specs.StructEntries.{AreHeld}
use Rattle.hl_values.specs.StructTables.{plain_member, plain_structs}
use Rattle.hl_values.specs.WordCounts.{counted}
use Rattle.hl_values.proofs.StructLemmas.{are_counted-push, are_inside-push}
use Rattle.hl_values.proofs.structs.Structs.push.Goals as goal

pub invariant_of-self-2 : goal.invariant_of-self-2
invariant_of-self-2 c =
    let list = c.self.inside.list in
    let d : StructInfo = record { name = c.args.name; members = c.args.members; words = c.members_words-words.result; innermost = c.innermost_of-innermost.result } in
    let words = are_counted-push list d c.self.invariant.0 (c.members_words-words.ensures ∙ ap (λ structs. option_map counted (members_words (plain_structs structs) (map plain_member c.args.members))) (sym c.self.view_is)) in
    let inside = are_inside-push list d c.self.invariant.1 (c.innermost_of-innermost.ensures ∙ ap (λ structs. innermost_in (innermosts structs) c.args.members) (sym c.self.view_is)) in
    let held : AreHeld (list ++ d ∷ []) = (words, inside) in
    rw c.in_ok-push.ensures.ok held
