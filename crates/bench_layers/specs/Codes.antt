-- The statuses of the program.
use Rattle.std.specs.Prelude.{ℕ}
use Rattle.bench_layers.specs.declared.stop.Stop.{Stop}
use Rattle.bench_layers.specs.declared.stop.Stop.TheVariants.{Usage, ReadFault, TooLong, WriteFault, Memory}

-- the exit code of the process, which is 0 where there is an answer
abbrev pub code_of : Stop → ℕ
code_of TooLong = 1
code_of Usage = 2
code_of ReadFault = 3
code_of WriteFault = 4
code_of Memory = 5
