-- What a lane of a kernel of literal stores does: it asks the stores in order, whatever lane it is, and
-- ends.
use Rattle.std.specs.Prelude.{List, [], ◌∷◌, map, Some}
use Rattle.lane_core.specs.declared.event.Event.{Event}
use Rattle.lane_core.specs.declared.event.Event.TheVariants.{BufferStore}
use Rattle.lane_core.specs.declared.event.Slot.{Slot}
use Rattle.lane_core.specs.Lane.{LaneMeaning, asking}
use Rattle.dxil_driver.specs.declared.stores.LiteralStore.{LiteralStore}

-- the one writable buffer: register u0 of space 0
abbrev pub output_slot : Slot
output_slot = record { class = 1; space = 0; register = 0 }

-- the store of one word, whose address is the index in a raw buffer
abbrev pub store_event : LiteralStore → Event
store_event store = BufferStore output_slot store.address 0 1 (store.word ∷ 0 ∷ 0 ∷ 0 ∷ [])

abbrev pub literal_stores : List LiteralStore → LaneMeaning
literal_stores stores n lane replies = Some (asking (map store_event stores) replies)
