use Rattle.std.proofs.Common.{◌∙◌, ap, ◌++◌, ◌∷◌, [], map}
use Rattle.hl_meaning.specs.Views.{plain_resource}
use Rattle.hl_parser.specs.Views.{plain_of}
use Rattle.hl_rules.specs.Elaboration.{resource}
use Rattle.hl_rules.specs.Scopes.{BufferInfo}
use Rattle.hl_values.specs.ScopeChanges.{with_buffer_named}
use Rattle.hl_values.specs.ScopeViews.{scope_of}
use Rattle.hl_types.proofs.DeclaredItems.{buffer-noted}
use Rattle.hl_types.proofs.buffers.buffer.Goals as goal

pub returns-clause-made : goal.returns-clause-made
returns-clause-made c = λ none.
    c.in_ok-add_resource.ensures none ∙
    ap (λ b. map plain_resource c.args.made.now ++ resource (scope_of c.args.scope.now) b c.args.name c.args.register c.args.space ∷ []) c.buffer_info-info.ensures

pub returns-clause-scope : goal.returns-clause-scope
returns-clause-scope c = c.in_ok-declare_buffer.ensures.scope ∙ ap (λ b. with_buffer_named c.args.name b (scope_of c.args.scope.now)) c.buffer_info-info.ensures

pub returns-clause-found : goal.returns-clause-found
returns-clause-found c =
    buffer-noted (scope_of c.args.scope.now) (plain_of c.args.kind.now) c.args.name c.args.register c.args.space c.buffer_info-info.result.writable c.args.found.now c.note_element.new.found c.note_global.new.found _
    c.note_element.ensures c.note_global.ensures (ap (λ (b : BufferInfo). b.writable) c.buffer_info-info.ensures) c.note_registers.ensures
