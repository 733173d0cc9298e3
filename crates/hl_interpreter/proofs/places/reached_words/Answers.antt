use Rattle.std.proofs.Common.{◌∙◌, ap, sym}
use Rattle.std.proofs.lemmas.Result.{IfOk-weaker}
use Rattle.hl_meaning.specs.Layout.{words_of}
use Rattle.hl_meaning.specs.Views.{plain_structs}
use Rattle.hl_meaning.proofs.LayoutLemmas.{words-scalar, words-void}
use Rattle.hl_interpreter.specs.HeldPlaces.{plain_type}
use Rattle.hl_interpreter.proofs.places.reached_words.Goals as goal

pub returns-in-Held : goal.returns-in-Held
returns-in-Held c =
    IfOk-weaker c.words_of.result _ _ (λ w e. e ∙ sym (ap (λ t. words_of (plain_structs c.args.program.now.structs) (plain_type t)) c.in-Held.is)) c.words_of.ensures

pub returns-in-Component : goal.returns-in-Component
returns-in-Component c = sym (ap (λ t. words_of (plain_structs c.args.program.now.structs) (plain_type t)) c.in-Component.is ∙ words-scalar _ _)

pub returns-in-Nothing : goal.returns-in-Nothing
returns-in-Nothing c = sym (ap (λ t. words_of (plain_structs c.args.program.now.structs) (plain_type t)) c.in-Nothing.is ∙ words-void _)
