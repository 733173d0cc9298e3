-- The plain data of a program without calls that is held.
use Rattle.hl_inline.specs.declared.flat.Flat.{Flat}
use Rattle.hl_inline.specs.FlatTrees as plain
use Rattle.hl_inline.specs.FlatViews.{flat_of}

abbrev pub plain_flat : Flat → plain.Flat
plain_flat f = flat_of f.structs f.variables f.resources f.shared f.threads f.body
