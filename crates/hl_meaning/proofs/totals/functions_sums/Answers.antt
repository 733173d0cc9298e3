use Rattle.std.proofs.Common.{◌∙◌, [], ap, map, arith}
use Rattle.std.proofs.lemmas.List.{take_all}
use Rattle.hl_meaning.specs.Held.{plain_program}
use Rattle.hl_meaning.specs.Sums.{function_sums, functions_sums, stop_all}
use Rattle.hl_meaning.specs.Views.{plain_function, plain_structs}
use Rattle.hl_meaning.proofs.LayoutLemmas.{has_words}
use Rattle.hl_meaning.proofs.ProgramSums.{functions_more}
use Rattle.hl_meaning.proofs.totals.functions_sums.Goals as goal

pub loop-function-init : goal.loop-function-init
loop-function-init c = c.new-known.ensures.items

pub function_sums-sums-requires : goal.function_sums-sums-requires
function_sums-sums-requires c = has_words (plain_program c.args.program.now) c.args.program.now.well_formed

pub loop-function-preserved : goal.loop-function-preserved
loop-function-preserved c =
    let fs = c.as_slice-function-items.result.now in
    let structs = plain_structs c.args.program.now.structs in
    c.in_ok-push.ensures.items ∙
    functions_more structs fs c.loop-function.function-index c.function-item.result c.loop-function.known.items c.function_sums-sums.result
    c.loop-function-test.true c.function-item.is c.loop-function.invariant
    (c.function_sums-sums.ensures ∙ ap (λ ks. stop_all (function_sums (record { structs = structs; functions = ks }) (plain_function c.function-item.result))) c.as_slice.ensures.value)

pub returns : goal.returns
returns c =
    let fs = c.as_slice-function-items.result.now in
    c.loop-function.invariant ∙
    ap (λ gs. map stop_all (functions_sums (plain_structs c.args.program.now.structs) [] (map plain_function gs))) (take_all c.loop-function.function-index fs (omega arith) ∙ c.as_slice-function-items.ensures.value)
