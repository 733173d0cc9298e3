-- How many blocks are written, and how deep they stand.
use Rattle.std.proofs.Common.{◌≡◌, ℕ, suc, ◌*◌, ◌^◌, ◌<◌, ◌≤◌, List, [], ◌∷◌, map, length, refl, arith}
use Rattle.std.specs.Prelude.{◌≢◌, None, flat_map}
use Rattle.ir_core.specs.declared.module.Const.{Const}
use Rattle.ir_core.specs.declared.instruction.Body.{Body}
use Rattle.ir_core.specs.declared.module.Function.{Function}
use Rattle.ir_core.specs.declared.module.Module.{Module}
use Rattle.ir_core.specs.Values.{bodies, instructions}
use Rattle.bc_stream.specs.Blocks.{Contents, no_more, levels, HasNoBlockZero}
use Rattle.bc_stream.specs.Spelling.{most_levels}
use Rattle.bc_records.specs.Entries.{Entry, entry, block_count}
use Rattle.bc_records.specs.TypeRecords.{type_entry}
use Rattle.bc_records.specs.ConstantRecords.{constant_entry}
use Rattle.bc_records.specs.MetadataRecords.{metadata_entries}
use Rattle.bc_records.specs.SymbolRecords.{symbol_entry}
use Rattle.bc_records.specs.BodyRecords.{body_entry, first_value}
use Rattle.bc_records.specs.Written.{written_types, written_constants, written_metadata, symbols_from, written_code, function_entry, tables_contents, listed, bodies_contents, written}

no_zero-listed : (entries : List Entry) (rest : Contents) → HasNoBlockZero rest → HasNoBlockZero (listed entries rest)
no_zero-listed [] rest holds = holds
no_zero-listed (entry code operands ∷ entries) rest holds = no_zero-listed entries rest holds

levels-listed : (entries : List Entry) (rest : Contents) → levels (listed entries rest) ≡ levels rest
levels-listed [] rest = refl
levels-listed (entry code operands ∷ entries) rest = levels-listed entries rest

count-listed : (entries : List Entry) (rest : Contents) → block_count (listed entries rest) ≡ block_count rest
count-listed [] rest = refl
count-listed (entry code operands ∷ entries) rest = count-listed entries rest

other : (n : ℕ) → suc n ≢ 0
other n = λ (e : suc n ≡ 0). absurd (omega arith)

-- the records of each block that holds records alone
abbrev of_constants : List Const → List Entry
of_constants constants = map constant_entry (written_constants None constants)

abbrev of_types : Module → List Entry
of_types m = map type_entry (written_types m.types)

abbrev of_metadata : Module → List Entry
of_metadata m = flat_map metadata_entries (written_metadata m.metas m.named)

abbrev of_symbols : Module → List Entry
of_symbols m = map symbol_entry (symbols_from 0 m.functions)

abbrev of_code : Module → Function × Body → List Entry
of_code m b = map body_entry (written_code m (first_value m b.0 b.1) (instructions b.1))

module _ (m : Module) where
  no_zero_bodies : (bs : List (Function × Body)) → HasNoBlockZero (bodies_contents m bs)
  no_zero_bodies [] = tt
  no_zero_bodies (b ∷ bs) = (
    other 11,
    (other 10, no_zero-listed (of_constants b.1.consts) no_more tt, no_zero-listed (of_code m b) no_more tt),
    no_zero_bodies bs,
  )

  body_levels : (bs : List (Function × Body)) → levels (bodies_contents m bs) ≤ 2
  body_levels [] = omega arith
  body_levels (b ∷ bs) = omega (arith, levels-listed (of_constants b.1.consts) no_more, levels-listed (of_code m b) no_more, body_levels bs)

  body_count : (bs : List (Function × Body)) → block_count (bodies_contents m bs) ≡ 2 * length bs
  body_count [] = refl
  body_count (b ∷ bs) = omega (arith, count-listed (of_constants b.1.consts) no_more, count-listed (of_code m b) no_more, body_count bs)

  pub no_zero_written : HasNoBlockZero (written m)
  no_zero_written = (
    other 7,
    (
      other 16,
      no_zero-listed (of_types m) no_more tt,
      no_zero-listed (map function_entry m.functions) (tables_contents m (bodies_contents m (bodies m.functions))) (
        other 10,
        no_zero-listed (of_constants m.consts) no_more tt,
        (
          other 14,
          no_zero-listed (of_metadata m) no_more tt,
          (other 13, no_zero-listed (of_symbols m) no_more tt, no_zero_bodies (bodies m.functions)),
        ),
      ),
    ),
    tt,
  )

  pub written_levels : levels (written m) ≤ most_levels
  written_levels =
      omega (
        arith,
        levels-listed (of_types m) no_more,
        levels-listed (map function_entry m.functions) (tables_contents m (bodies_contents m (bodies m.functions))),
        levels-listed (of_constants m.consts) no_more,
        levels-listed (of_metadata m) no_more,
        levels-listed (of_symbols m) no_more,
        body_levels (bodies m.functions),
      )

  pub written_few : length (bodies m.functions) < 2 ^ 30 → block_count (written m) < 2 ^ 32
  written_few few =
      omega (
        arith,
        count-listed (of_types m) no_more,
        count-listed (map function_entry m.functions) (tables_contents m (bodies_contents m (bodies m.functions))),
        count-listed (of_constants m.consts) no_more,
        count-listed (of_metadata m) no_more,
        count-listed (of_symbols m) no_more,
        body_count (bodies m.functions),
      )
