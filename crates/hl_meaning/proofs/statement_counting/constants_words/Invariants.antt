use Rattle.std.proofs.Common.{◌≡◌, sum_by, take}
use Rattle.hl_meaning.specs.Layout.{words_of}
use Rattle.hl_meaning.specs.Stopping.{stopped}
use Rattle.hl_meaning.specs.Views.{plain_structs, plain_ty}
use Rattle.hl_meaning.proofs.statement_counting.constants_words.Given as goal

abbrev pub invariant-loop-constant : goal.invariant-loop-constant
invariant-loop-constant l = l.words ≡ stopped (sum_by (λ x. words_of (plain_structs l.structs) (plain_ty x.variable.ty)) (take l.constant-index l.constant-items))
