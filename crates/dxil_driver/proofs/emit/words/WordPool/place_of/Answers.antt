use Rattle.std.proofs.lemmas.List.Elements.{All-push}
use Rattle.dxil_driver.specs.Emitted.{IsWord}
use Rattle.dxil_driver.proofs.WordPlaces.{pushed-at, knows-push}
use Rattle.dxil_driver.proofs.emit.words.WordPool.place_of.Goals as goal

pub returns-clause-knows : goal.returns-clause-knows
returns-clause-knows c =
    rw c.in_ok-push.ensures.ok (knows-push c.args.self.now.places c.insert.new.self c.args.self.now.words c.args.word c.len-place.result c.requires c.len-place.ensures.value c.in_ok-insert.ensures.updates.0)

pub returns-clause-place : goal.returns-clause-place
returns-clause-place c =
    rw c.in_ok-push.ensures.ok (pushed-at c.args.self.now.words c.args.word c.len-place.result c.len-place.ensures.value)

pub returns-clause-fit : goal.returns-clause-fit
returns-clause-fit c =
    λ h. rw c.in_ok-push.ensures.ok (All-push IsWord c.args.self.now.words c.args.word h c.ranges.word.fits)
