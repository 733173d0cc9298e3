-- Places as the meaning of programs speaks of them.
use Rattle.std.specs.Prelude.{ℕ, List, [], ◌∷◌}
use Rattle.hl_meaning.specs.Trees.{PathPart, index_part}
use Rattle.hl_meaning.specs.Types.{Ty, scalar_type, void_type}
use Rattle.hl_meaning.specs.Views.{plain_ty}
use Rattle.hl_source.specs.Offsets.{Holder, Place, Reached, in_constant, in_element, in_shared, in_variable, literal_word}
use Rattle.hl_interpreter.specs.declared.places.Holder.{Holder as HeldHolder}
use Rattle.hl_interpreter.specs.declared.places.Holder.TheVariants.{Constant, Element, Shared, Variable}
use Rattle.hl_interpreter.specs.declared.places.Place.{Place as HeldPlace}
use Rattle.hl_interpreter.specs.declared.places.Reached.{Reached as HeldReached}
use Rattle.hl_interpreter.specs.declared.places.ReachedType.{ReachedType}
use Rattle.hl_interpreter.specs.declared.places.ReachedType.TheVariants.{Component, Held, Nothing}

abbrev pub plain_type : ReachedType → Ty
plain_type (Held ty) = plain_ty ty.now
plain_type (Component kind) = scalar_type kind
plain_type Nothing = void_type

abbrev pub plain_reached : HeldReached → Reached
plain_reached r = record { ty = plain_type r.ty; offset = r.offset; letters = r.letters.now }

abbrev pub plain_holder : HeldHolder → Holder
plain_holder (Variable number) = in_variable number
plain_holder (Constant number) = in_constant number
plain_holder (Shared number) = in_shared number
plain_holder (Element slot index) = in_element slot index

abbrev pub plain_place : HeldPlace → Place
plain_place p = record { holder = plain_holder p.holder; reached = plain_reached p.reached }

-- the word of a step that is an index, and none of another step
abbrev pub literal_of : PathPart → List ℕ
literal_of (index_part index) = literal_word index ∷ []
literal_of _ = []

-- how many indexes a step takes
abbrev pub index_count : PathPart → ℕ
index_count (index_part index) = 1
index_count _ = 0
