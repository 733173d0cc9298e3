use Rattle.std.proofs.Common.{◌∙◌, ◌∷◌, ◌++◌, [], ap, sym}
use Rattle.std.proofs.lemmas.Result.{IfOk-weaker}
use Rattle.hl_meaning.specs.Layout.{kinds_of}
use Rattle.hl_meaning.specs.Views.{plain_structs}
use Rattle.hl_interpreter.specs.HeldPlaces.{plain_type}
use Rattle.hl_interpreter.proofs.HeldTypes.{kinds-scalar, kinds-void}
use Rattle.hl_interpreter.proofs.places.reached_kinds.Goals as goal

pub returns-in-Held : goal.returns-in-Held
returns-in-Held c =
    IfOk-weaker c.kinds_of.result _ _ (λ w e. e ∙ sym (ap (λ t. kinds_of (plain_structs c.args.run.now.program.now.structs) (plain_type t)) c.in-Held.is)) c.kinds_of.ensures

pub returns-in_ok-push-in-Component : goal.returns-in_ok-push-in-Component
returns-in_ok-push-in-Component c =
    c.in_ok-push-in-Component.ensures.ok ∙ (ap (λ l. l ++ c.in-Component.kind ∷ []) c.new-kinds.ensures ∙
    sym (ap (λ t. kinds_of (plain_structs c.args.run.now.program.now.structs) (plain_type t)) c.in-Component.is ∙ kinds-scalar _ _))

pub returns-in-Nothing : goal.returns-in-Nothing
returns-in-Nothing c = c.new.ensures ∙ sym (ap (λ t. kinds_of (plain_structs c.args.run.now.program.now.structs) (plain_type t)) c.in-Nothing.is ∙ kinds-void _)
