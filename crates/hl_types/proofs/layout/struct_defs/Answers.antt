use Rattle.std.proofs.Common.{◌∙◌, sym, subst, ap, ◌<◌, ◌≤◌, ◌++◌, map}
use Rattle.hl_meaning.specs.Views.{plain_struct as program_struct}
use Rattle.hl_rules.specs.Statements as statements
use Rattle.hl_values.specs.StructTables.{plain_structs}
use Rattle.hl_values.proofs.ChangeLemmas.{length-plain_structs}
use Rattle.hl_types.proofs.LayoutLemmas.{end-defs, turn-defs}
use Rattle.hl_types.proofs.layout.struct_defs.Goals as goal

pub loop-number-init : goal.loop-number-init
loop-number-init c = ap (λ l. map program_struct l ++ statements.struct_defs (plain_structs c.args.structs.now)) c.new-made.ensures

pub loop-number-preserved : goal.loop-number-preserved
loop-number-preserved c =
    turn-defs (plain_structs c.args.structs.now) c.loop-number.number (map program_struct c.loop-number.made) (map program_struct c.add_struct.new.made) _
    (subst (λ n. c.loop-number.number < n) (c.len-number-end.ensures.value ∙ sym (length-plain_structs c.args.structs.now)) c.loop-number-test.true) c.in_ok-add_struct.ensures c.loop-number.invariant

pub returns : goal.returns
returns c =
    end-defs (plain_structs c.args.structs.now) c.loop-number.number (map program_struct c.loop-number.made) _
    (subst (λ n. n ≤ c.loop-number.number) (c.len-number-end.ensures.value ∙ sym (length-plain_structs c.args.structs.now)) c.loop-number-test.false) c.loop-number.invariant
