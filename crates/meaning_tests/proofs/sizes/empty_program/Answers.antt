use Rattle.std.proofs.Common.{◌∙◌, ◌++◌, ◌∷◌, [], ap}
use Rattle.hl_meaning.specs.declared.ty.HlType.TheVariants.{Void}
use Rattle.hl_meaning.specs.declared.program.FunctionDef.{FunctionDef}
use Rattle.meaning_tests.proofs.EmptyProgram.{empty_function-held, empty_program-held}
use Rattle.meaning_tests.proofs.sizes.empty_program.Goals as goal

pub invariant_of-result : goal.invariant_of-result
invariant_of-result c =
    let f : FunctionDef = record { name = c.new.result; result = Void; parameters = c.new-2.result; variables = c.new-3.result; body = c.new-4.result } in
    record {
      well_formed = ∣ empty_program-held c.new.result c.new-5.result c.new-6.result c.new-7.result c.new-8.result c.push.new.self f c.new-5.ensures c.new-6.ensures c.new-7.ensures c.new-8.ensures
          (c.in_ok-push.ensures.ok ∙ ap (λ fs. fs ++ f ∷ []) c.new-functions.ensures)
          (empty_function-held c.new.result c.new-2.result c.new-3.result c.new-4.result c.new-2.ensures c.new-3.ensures c.new-4.ensures) ∣₁;
    }
