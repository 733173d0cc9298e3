use Rattle.std.proofs.Common.{◌∙◌, sym}
use Rattle.hl_parser.specs.Views.{plain_of}
use Rattle.hl_values.specs.ScopeViews.{scope_of}
use Rattle.hl_types.proofs.InitShapes.{number-word, signed-word}
use Rattle.hl_types.proofs.constant_words.leaf_word.Goals as goal

pub returns-in-Some : goal.returns-in-Some
returns-in-Some c = number-word (scope_of c.args.scope.now) (plain_of c.args.tree.now) c.in-Some.number (sym c.constant_number.ensures ∙ c.in-Some.is)

pub returns-in-None : goal.returns-in-None
returns-in-None c = c.signed_or_truth.ensures ∙ signed-word (scope_of c.args.scope.now) (plain_of c.args.tree.now) (sym c.constant_number.ensures ∙ c.in-None.is)
