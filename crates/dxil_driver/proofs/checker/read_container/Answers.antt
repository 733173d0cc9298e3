-- The fault of a layer is the reason why the bytes are refused.
use mathlib.Core.Logic.{inr}
use Rattle.dxil_driver.specs.Compiled.{Spells}
use Rattle.dxil_driver.specs.Check.{in_container, of_stream, of_records, IsRefused}
use Rattle.dxil_driver.specs.declared.checker.CheckFault.TheVariants.{Container}
use Rattle.dxil_driver.proofs.Failing.{exit, stream_refused, records_refused}
use Rattle.dxil_driver.proofs.checker.read_container.Goals as goal

pub returns-in_err-content : goal.returns-in_err-content
returns-in_err-content c =
    let bytes = c.args.bytes.now in
    let fault = c.in_err-content.field-0.0 in
    exit (Spells bytes) (IsRefused bytes) c.from_residual.result (Container fault) c.from_residual.ensures.1 (inr (in_container fault c.in_err-content.ensures))

pub returns-in_err-blocks : goal.returns-in_err-blocks
returns-in_err-blocks c =
    let bytes = c.args.bytes.now in
    let content = c.in_ok-content.content in
    let fault = c.in_err-blocks.field-0.0 in
    exit (Spells bytes) (IsRefused bytes) c.from_residual-in_err-blocks.result (of_stream fault) c.from_residual-in_err-blocks.ensures.1
    (stream_refused bytes content.bitcode.now fault (record { major = content.major; minor = content.minor; contained = c.in_ok-content.ensures })
    c.in_err-blocks.ensures.answer)

pub returns-in_err-module : goal.returns-in_err-module
returns-in_err-module c =
    let bytes = c.args.bytes.now in
    let content = c.in_ok-content.content in
    let fault = c.in_err-module.field-0.0 in
    exit (Spells bytes) (IsRefused bytes) c.from_residual-in_err-module.result (of_records fault) c.from_residual-in_err-module.ensures.1
    (records_refused bytes content.bitcode.now _ fault (record { major = content.major; minor = content.minor; contained = c.in_ok-content.ensures })
    c.in_ok-blocks.ensures.answer c.in_err-module.ensures.answer)
