use Rattle.std.proofs.Common.{◌∙◌, ap, sym}
use Rattle.hl_meaning.specs.Views.{plain_root}
use Rattle.hl_meaning.proofs.Plain.{plain_root-Constant, plain_root-Element, plain_root-Shared, plain_root-Variable}
use Rattle.hl_source.specs.Offsets.{holder_of, in_element, slot_of}
use Rattle.hl_interpreter.specs.Runs.{run_context}
use Rattle.hl_interpreter.proofs.places.holder_of.Goals as goal

pub returns-in-Variable : goal.returns-in-Variable
returns-in-Variable c = sym (ap (λ r. holder_of (run_context c.args.run.now) r c.args.indexes.now) (ap plain_root c.in-Variable.is ∙ plain_root-Variable _))

pub returns-in-Constant : goal.returns-in-Constant
returns-in-Constant c = sym (ap (λ r. holder_of (run_context c.args.run.now) r c.args.indexes.now) (ap plain_root c.in-Constant.is ∙ plain_root-Constant _))

pub returns-in-Shared : goal.returns-in-Shared
returns-in-Shared c = sym (ap (λ r. holder_of (run_context c.args.run.now) r c.args.indexes.now) (ap plain_root c.in-Shared.is ∙ plain_root-Shared _))

pub returns-in-Element : goal.returns-in-Element
returns-in-Element c =
    ap (λ s. in_element s c.word_at.result) c.slot_of.ensures ∙ (ap (in_element (slot_of (run_context c.args.run.now) c.in-Element.resource)) c.word_at.ensures ∙
    sym (ap (λ r. holder_of (run_context c.args.run.now) r c.args.indexes.now) (ap plain_root c.in-Element.is ∙ plain_root-Element c.in-Element.resource _)))
