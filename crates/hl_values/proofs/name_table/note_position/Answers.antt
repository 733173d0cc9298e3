use Rattle.std.proofs.Common.{rules, ◌∙◌, sym, ap, ◌∷◌, ◌++◌, [], if◌then◌else◌, bytes_eq}
use Rattle.hl_values.specs.NameEntries.{noted_for}
use Rattle.std.specs.Option.{unwrap_or}
use Rattle.std.proofs.lemmas.Result.{on_ok_weaker, on_err_weaker}
use Rattle.hl_values.proofs.NotedLemmas.{noted-push, noted-same}
use Rattle.hl_values.proofs.name_table.note_position.Goals as goal

pub returns-in-Some-clause-ok : goal.returns-in-Some-clause-ok
returns-in-Some-clause-ok c =
    on_ok_weaker c.push.result
    (λ pushed. noted-push c.args.name.now c.args.at c.args.positions.now (c.get_mut.follows.lender c.push.new.self) c.push.new.self
    ((c.get_mut.follows.holds c.push.new.self).3 (search rules)) c.in-Some.noted.now (ap (λ o. unwrap_or o []) (sym c.in-Some.ensures.value)) pushed)
    c.push.ensures.ok

pub returns-in-Some-clause-err : goal.returns-in-Some-clause-err
returns-in-Some-clause-err c =
    on_err_weaker c.push.result
    (λ same. noted-same c.args.name.now c.args.at c.args.positions.now (c.get_mut.follows.lender c.push.new.self) c.push.new.self
    ((c.get_mut.follows.holds c.push.new.self).3 (search rules)) (ap (λ o. unwrap_or o []) (sym c.in-Some.ensures.value) ∙ sym same))
    c.push.ensures.err

pub returns-in_ok-insert-in-None-clause-ok : goal.returns-in_ok-insert-in-None-clause-ok
returns-in_ok-insert-in-None-clause-ok c =
    λ other. noted-push c.args.name.now c.args.at c.get_mut.follows.lender-at-none c.insert.new.self c.push-in-None.new.self
    c.in_ok-insert-in-None.ensures.updates
    [] (ap (λ m. noted_for m c.args.name.now) c.get_mut.follows.holds-at-none ∙ ap (λ o. unwrap_or o []) (sym c.in-None.ensures.value)) (c.in_ok-push-in-None.ensures.ok ∙ ap (λ l. l ++ c.args.at ∷ []) c.new-noted.ensures) other
    ∙ ap (λ m. noted_for m other ++ (if bytes_eq c.args.name.now other then c.args.at ∷ [] else [])) c.get_mut.follows.holds-at-none
