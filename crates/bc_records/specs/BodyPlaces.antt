-- Where a walk over the records of a body stands.
use Rattle.std.specs.Prelude.{◌≡◌, suc, ◌==◌, ◌||◌, if◌then◌else◌, List}
use Rattle.bc_records.specs.declared.faults.place.Place.{Place}
use Rattle.bc_records.specs.Entries.{Entry}
use Rattle.bc_records.specs.RecordKinds.{Known, Numbers, next_after, entry_has_value, code_of, has_code, count_code}

-- the place behind some records of a body that has these numbers
pub record IsBehind (known : Known) (numbers : Numbers) (before : List Entry) (place : Place) : Type 0 where
  pub next : next_after known numbers.first before ≡ place.next
  pub declared : has_code 1 before ≡ place.declared
  pub returns : count_code 10 before ≡ place.returns
  pub blocks : numbers.blocks ≡ place.blocks

-- the place behind a record more
abbrev pub place_behind : Known → Place → Entry → Place
place_behind known place e = record {
  next = if entry_has_value known place.next e then suc place.next else place.next;
  declared = place.declared || (code_of e == 1);
  returns = if code_of e == 10 then suc place.returns else place.returns;
  blocks = place.blocks;
}
