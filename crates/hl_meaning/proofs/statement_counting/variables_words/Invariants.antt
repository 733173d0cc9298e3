use Rattle.std.proofs.Common.{◌≡◌, sum_by, take}
use Rattle.hl_meaning.specs.Layout.{words_of}
use Rattle.hl_meaning.specs.Stopping.{stopped}
use Rattle.hl_meaning.specs.Views.{plain_structs, plain_ty}
use Rattle.hl_meaning.proofs.statement_counting.variables_words.Given as goal

abbrev pub invariant-loop-variable : goal.invariant-loop-variable
invariant-loop-variable l = l.words ≡ stopped (sum_by (λ x. words_of (plain_structs l.structs) (plain_ty x.ty)) (take l.variable-index l.variable-items))
