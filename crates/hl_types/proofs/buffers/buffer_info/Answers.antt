use Rattle.std.proofs.Common.{◌∙◌, sym, ap}
use Rattle.hl_parser.specs.Views.{plain_of}
use Rattle.hl_parser.proofs.Plain.{plain-Kind}
use Rattle.hl_rules.specs.Declarations.{buffer_info, is_writable_kind}
use Rattle.hl_values.specs.ScopeViews.{scope_of}
use Rattle.hl_types.proofs.BufferLemmas.{kind-info, no_kind}
use Rattle.hl_types.proofs.buffers.buffer_info.Goals as goal

pub returns-in-Kind : goal.returns-in-Kind
returns-in-Kind c =
    kind-info (scope_of c.args.scope.now) c.in-Kind.at c.in-Kind.element _ _ _ (c.is_writable_kind.ensures ∙ ap is_writable_kind c.terminal_at.ensures) c.is_none.ensures c.element_of.ensures ∙
    sym (ap (buffer_info (scope_of c.args.scope.now)) (ap plain_of c.in-Kind.is ∙ plain-Kind _ _))

pub returns-in_default : goal.returns-in_default
returns-in_default c = sym ((no_kind (scope_of c.args.scope.now) c.args.kind.now c.in_default.not-Kind).info)
