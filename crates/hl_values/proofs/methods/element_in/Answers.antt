use Rattle.std.proofs.Common.{◌∙◌, sym, ap, None, if◌then◌else◌}
use Rattle.std.specs.Prelude.{option_map}
use Rattle.hl_meaning.specs.declared.expression.Root.TheVariants.{Element}
use Rattle.hl_meaning.specs.Trees.{a_location}
use Rattle.hl_meaning.specs.Views.{plain_location, plain_parts, plain_root, plain_ty}
use Rattle.hl_values.specs.ScopeViews.{plain_buffer}
use Rattle.hl_values.specs.Views.{plain_type_if}
use Rattle.hl_values.proofs.MethodLemmas.{element-made}
use Rattle.hl_values.proofs.methods.element_in.Goals as goal

pub returns : goal.returns
returns c =
    element-made (plain_buffer c.args.buffer.now) c.args.resource c.args.index c.in-Some.ty (plain_location c.location.result)
    (sym (ap (option_map plain_ty) c.in-Some.is) ∙ (c.in_ok-ty.ensures ∙ sym (ap (λ b. if b then None else plain_type_if c.args.buffer.now.element) c.if-buffer.false)))
    (c.location.ensures ∙ ap (λ p. a_location (plain_ty c.in-Some.ty) (plain_root (Element c.args.resource c.args.index)) (plain_parts p)) c.new.ensures)
