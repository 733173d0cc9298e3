use Rattle.std.proofs.Common.{◌∙◌, sym, ap, None, [], if◌then◌else◌}
use Rattle.hl_rules.specs.Values.{a_place, plain_value, value}
use Rattle.hl_values.specs.Known.{known}
use Rattle.hl_values.specs.Views.{plain_code_if, plain_type_if}
use Rattle.hl_types.proofs.indexes.element_value.Goals as goal

pub returns-then-buffer : goal.returns-then-buffer
returns-then-buffer c =
    let writable = c.args.buffer.now.writable in
    c.stepped.ensures ∙
    sym (ap (λ b. known (if b then plain_value None else value (plain_type_if c.args.buffer.now.element) (a_place writable writable [])) None (plain_code_if c.args.code)) c.if-buffer.true)

pub returns : goal.returns
returns c =
    let writable = c.args.buffer.now.writable in
    let code = plain_code_if c.args.code in
    let ty = c.in_ok-ty.ensures in
    ap (λ t. known (value t (a_place writable writable c.new.result)) None code) ty ∙
    (ap (λ l. known (value (plain_type_if c.args.buffer.now.element) (a_place writable writable l)) None code) c.new.ensures ∙
    sym (ap (λ b. known (if b then plain_value None else value (plain_type_if c.args.buffer.now.element) (a_place writable writable [])) None code) c.if-buffer.false))
