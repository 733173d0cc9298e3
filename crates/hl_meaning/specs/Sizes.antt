-- The sums of a program that are limited.
use Rattle.std.specs.Prelude.{◌*◌}
use Rattle.hl_meaning.specs.declared.size.Sizes.{Sizes}
use Rattle.hl_meaning.specs.Programs.{Program}
use Rattle.hl_meaning.specs.Stopping.{stopped}
use Rattle.hl_meaning.specs.Sums.{program_sums, variable_words}

abbrev pub sizes_of : Program → Sizes
sizes_of p = record {
  size = stopped (program_sums p).size;
  branches = stopped (program_sums p).branches;
  depth = stopped (program_sums p).depth;
  shared_bytes = stopped (4 * variable_words p.structs p.shared);
  private_words = stopped (program_sums p).private_words;
}
