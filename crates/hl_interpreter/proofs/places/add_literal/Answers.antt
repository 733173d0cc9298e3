use Rattle.std.proofs.Common.{◌∙◌, ◌∷◌, ◌++◌, [], ap, append-nil, sym}
use Rattle.std.proofs.lemmas.Result.{on_ok_weaker}
use Rattle.hl_meaning.specs.Views.{plain_expr, plain_part}
use Rattle.hl_meaning.proofs.Plain.{plain_part-Index, plain_part-Member, plain_part-Swizzle}
use Rattle.hl_source.specs.Offsets.{literal_word}
use Rattle.hl_interpreter.specs.HeldPlaces.{literal_of}
use Rattle.hl_interpreter.proofs.places.add_literal.Goals as goal

pub returns-in-Index : goal.returns-in-Index
returns-in-Index c =
    on_ok_weaker c.push.result
    (λ e. e ∙ ap (λ l. c.args.indexes.now ++ l) (ap (λ w. w ∷ []) (c.literal_word.ensures ∙ ap (λ x. literal_word (plain_expr x)) c.get.ensures) ∙ sym (ap literal_of (ap plain_part c.in-Index.is ∙ plain_part-Index _))))
    c.push.ensures.ok

pub returns-in-Member : goal.returns-in-Member
returns-in-Member c =
    sym (append-nil c.args.indexes.now) ∙ ap (λ l. c.args.indexes.now ++ l) (sym (ap literal_of (ap plain_part c.in-Member.is ∙ plain_part-Member _)))

pub returns-in-Swizzle : goal.returns-in-Swizzle
returns-in-Swizzle c =
    sym (append-nil c.args.indexes.now) ∙ ap (λ l. c.args.indexes.now ++ l) (sym (ap literal_of (ap plain_part c.in-Swizzle.is ∙ plain_part-Swizzle _)))
