use Rattle.std.proofs.Common.{List, ℕ, ◌≡◌, ◌^◌, ◌<◌, length, false, subst, sym, ap, arith}
use Rattle.ir_core.specs.declared.module.Module.{Module}
use Rattle.dx_container.specs.Container.{written_form}
use Rattle.dxil_driver.specs.Compiled.{IsContainerOf}
use Rattle.dxil_driver.specs.Kernel.{SpellsKernel}
use Rattle.dxil_driver.proofs.Containers.{IfOk-weaker, written_container}
use Rattle.dxil_driver.proofs.container.kernel_container.Goals as goal

pub returns : goal.returns
returns c =
    let bitcode : List ℕ = c.as_slice.result.now in
    let small : length bitcode < 2 ^ 31 = omega (arith, c.as_slice.ensures.limit, ap length c.as_slice.ensures.value) in
    let built : (m : Module) × IsContainerOf c.args.form.now m (written_form bitcode 0 false) = written_container c.args.form.now bitcode c.at_most_one_content.ensures c.written_is_contained.ensures c.one_list.ensures c.one_module.ensures small
    (subst (SpellsKernel c.args.form.now) (sym c.as_slice.ensures.value) c.in_ok-bitcode.ensures.spells) in
    IfOk-weaker (λ (bytes : List ℕ). bytes ≡ written_form bitcode 0 false) (λ (bytes : List ℕ). (m : Module) × IsContainerOf c.args.form.now m bytes)
    c.pack.result (λ bytes e. (built.0, subst (IsContainerOf c.args.form.now built.0) (sym e) built.1)) c.pack.ensures
