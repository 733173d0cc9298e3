-- What is known when a part of a program is counted.
use Rattle.hl_meaning.specs.declared.counting.Counter.{Counter}
use Rattle.hl_meaning.specs.Views.{plain_structs}
use Rattle.hl_meaning.specs.Sums.{Counted}

abbrev pub counted_by : Counter → Counted
counted_by c = record { structs = plain_structs c.structs.now; functions = c.functions.now }
