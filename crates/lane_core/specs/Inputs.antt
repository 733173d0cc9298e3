-- The places of a lane in its dispatch, which it has as inputs (HLSL, "Semantics": SV_DispatchThreadID, SV_GroupID,
-- SV_GroupThreadID and SV_GroupIndex).
use Rattle.std.specs.Prelude.{ℕ, ◌+◌, ◌*◌, List, [], ◌∷◌, slice_index}
use Rattle.lane_core.specs.Lane.{Coordinates}

-- the three numbers of a place: x, y and z
abbrev pub components : Coordinates → List ℕ
components place = place.x ∷ place.y ∷ place.z ∷ []

-- three numbers as coordinates, as the threads of a group in each direction
abbrev pub coordinates_of : List ℕ → Coordinates
coordinates_of numbers = record { x = slice_index numbers 0; y = slice_index numbers 1; z = slice_index numbers 2 }

-- a thread's place in the whole dispatch: its group times the threads of a group, and its place in the group
abbrev pub dispatch_thread : (threads group thread : Coordinates) → Coordinates
dispatch_thread threads group thread = record {
  x = group.x * threads.x + thread.x;
  y = group.y * threads.y + thread.y;
  z = group.z * threads.z + thread.z;
}

-- a thread's number in its group
abbrev pub flat_index : (threads thread : Coordinates) → ℕ
flat_index threads thread = thread.x + (thread.y * threads.x + thread.z * threads.x * threads.y)
