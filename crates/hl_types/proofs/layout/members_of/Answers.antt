use Rattle.std.proofs.Common.{subst, ap, ◌<◌, ◌≤◌, ◌++◌, map}
use Rattle.hl_meaning.specs.Views.{plain_member as program_member}
use Rattle.hl_rules.specs.Statements.{members_from}
use Rattle.hl_values.specs.StructTables.{plain_member, plain_structs}
use Rattle.hl_types.proofs.LayoutLemmas.{end-members, turn-members}
use Rattle.hl_types.proofs.layout.members_of.Goals as goal

pub loop-at-init : goal.loop-at-init
loop-at-init c = ap (λ l. map program_member l ++ members_from (plain_structs c.args.structs.now) 0 (map plain_member c.args.table.now)) c.new-made.ensures

pub loop-at-preserved : goal.loop-at-preserved
loop-at-preserved c =
    turn-members (plain_structs c.args.structs.now) c.args.table.now c.loop-at.at c.loop-at.offset c.in_ok-offset.offset (map program_member c.loop-at.made) (map program_member c.add_member.new.made) _
    (subst (λ n. c.loop-at.at < n) c.len-at-end.ensures.value c.loop-at-test.true) c.in_ok-offset.ensures.made c.in_ok-offset.ensures.next c.loop-at.invariant

pub returns : goal.returns
returns c =
    end-members (plain_structs c.args.structs.now) c.args.table.now c.loop-at.at c.loop-at.offset (map program_member c.loop-at.made) _
    (subst (λ n. n ≤ c.loop-at.at) c.len-at-end.ensures.value c.loop-at-test.false) c.loop-at.invariant
