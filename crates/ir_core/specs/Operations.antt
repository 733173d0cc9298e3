-- The operations of DXIL that a module calls (DXIL.rst, "Operations"): each is a function's name and an
-- opcode, which is the call's first argument.
use Rattle.std.specs.Prelude.{ℕ, List, [], ◌∷◌, find, ◌==◌, ◌&&◌, Option, option_map, codes, bytes_eq}

pub data Operation : Type 0 where
  create_handle : Operation
  buffer_store : Operation

-- a row of the table of operations
pub record Row : Type 0 where
  pub opcode : ℕ
  pub name : List ℕ
  pub operation : Operation

abbrev pub rows : List Row
rows =
    record { opcode = 57; name = codes "dx.op.createHandle"; operation = create_handle } ∷ record { opcode = 69; name = codes "dx.op.bufferStore.i32"; operation = buffer_store } ∷ []

-- the operation of an opcode and a function's name
abbrev pub operation_of : ℕ → List ℕ → Option Operation
operation_of opcode name =
    option_map (λ row. row.operation) (find (λ row. row.opcode == opcode && bytes_eq row.name name) rows)
