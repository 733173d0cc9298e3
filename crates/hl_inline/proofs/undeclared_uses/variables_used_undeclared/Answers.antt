use Rattle.std.proofs.Common.{◌≡◌, ◌∙◌, ap, arith, false, length, replicate, sym}
use Rattle.std.proofs.lemmas.List.{length-map, length-replicate}
use Rattle.std.proofs.lemmas.Result.{IfOk-weaker}
use Rattle.std.specs.List.{filter, range_with_len}
use Rattle.hl_meaning.specs.Views.{plain_function, plain_variable}
use Rattle.hl_inline.specs.UsedUndeclared.{parameter_numbers, used_undeclared_in}
use Rattle.hl_meaning.specs.Operators.{is_among}
use Rattle.hl_inline.specs.Marking.{mark_all, marked_numbers, marking, plain_usage}
use Rattle.hl_inline.proofs.Marks.{length-mark_all}
use Rattle.hl_inline.proofs.NotedUses.{numbers-marked}
use Rattle.hl_inline.proofs.undeclared_uses.variables_used_undeclared.Goals as goal

pub numbers_of-requires : goal.numbers_of-requires
numbers_of-requires c =
    let f = plain_function c.args.function.now in
    let known = parameter_numbers f in
    let numbers = used_undeclared_in known f.body in
    let count = length c.args.function.now.variables in
    let unmarked = replicate count false in
    let marked : plain_usage c.note_block.new.usage ≡ marking known (mark_all numbers unmarked) = c.in_ok-note_block.ensures known unmarked c.in_ok-usage.ensures.start in
    let long : length c.as_slice.result.now ≡ count =
    ap length c.as_slice.ensures.value ∙ (ap (λ m. length m.marks) marked ∙ (length-mark_all numbers unmarked ∙ length-replicate count false)) in
    omega (arith, long, c.in_ok-usage.ensures.limit)

pub returns : goal.returns
returns c =
    let f = plain_function c.args.function.now in
    let known = parameter_numbers f in
    let numbers = used_undeclared_in known f.body in
    let variables = c.args.function.now.variables in
    let unmarked = replicate (length variables) false in
    let marked : plain_usage c.note_block.new.usage ≡ marking known (mark_all numbers unmarked) = c.in_ok-note_block.ensures known unmarked c.in_ok-usage.ensures.start in
    IfOk-weaker c.numbers_of.result _ _
    (λ found e. e ∙ (ap marked_numbers (c.as_slice.ensures.value ∙ ap (λ m. m.marks) marked) ∙ (numbers-marked numbers (length variables) ∙
    ap (λ n. filter (λ k. is_among numbers k) (range_with_len 0 n)) (sym (length-map variables plain_variable)))))
    c.numbers_of.ensures
