use Rattle.std.proofs.Common.{◌∙◌, sym, ap, is_some}
use Rattle.std.specs.Prelude.{option_and_then, slice_get}
use Rattle.std.specs.Option.{option_copied}
use Rattle.hl_values.specs.ScopeViews.{plain_buffer, scope_of}
use Rattle.hl_values.proofs.KnownLemmas.{is_some-copied, is_some-mapped}
use Rattle.hl_types.proofs.indexes.is_buffer.Goals as goal

pub returns-in-Some : goal.returns-in-Some
returns-in-Some c =
    c.is_some.ensures ∙
    (sym (is_some-mapped plain_buffer (option_copied c.buffer.result) ∙ is_some-copied c.buffer.result) ∙
    (ap is_some c.buffer.ensures ∙
    ap (λ n. is_some (option_and_then (λ k. slice_get (scope_of c.args.scope.now).buffers k) n)) c.in-Some.ensures))

pub returns-in-None : goal.returns-in-None
returns-in-None c = ap (λ n. is_some (option_and_then (λ k. slice_get (scope_of c.args.scope.now).buffers k) n)) c.in-None.ensures
