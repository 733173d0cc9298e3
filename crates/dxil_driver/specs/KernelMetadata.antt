-- What the metadata of a kernel of literal stores says: its buffer and its threads.
use Rattle.std.specs.Prelude.{ℕ, List, [], ◌∷◌, slice_index, Option, Some, None}
use Rattle.lane_core.specs.Lane.{Coordinates}
use Rattle.ir_core.specs.Metadata.{NamedResource, writable, raw_kind}

-- the buffer of the kernel, where it has one: raw, writable, at register u0 of space 0
abbrev pub kernel_resources : Option (List ℕ) → List NamedResource
kernel_resources None = []
kernel_resources (Some name) = record { name = name; resource = record { class = writable.number; id = 0; space = 0; register = 0; size = 1; kind = raw_kind; stride = 1 } } ∷ []

-- the threads of a group along x, y and z
abbrev pub kernel_threads : (threads : List ℕ) → Coordinates
kernel_threads threads = record { x = slice_index threads 0; y = slice_index threads 1; z = slice_index threads 2 }
