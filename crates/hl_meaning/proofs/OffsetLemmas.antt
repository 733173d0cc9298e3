-- Where a member that is held stands.
use Rattle.std.proofs.Common.{◌≡◌, ◌∙◌, sym, ap, subst, ℕ, ◌<◌, ◌≤◌, ◌⊎◌, inl, inr, [], map, length, get_or, Some, None, slice_get, option_map, refl, arith}
use Rattle.std.specs.Option.{option_map_or}
use Rattle.std.proofs.lemmas.Option.{slice_get-map, slice_get_cases, slice_get_read}
use Rattle.std.proofs.lemmas.List.{length-map}
use Rattle.hl_meaning.specs.declared.program.Program.{Program}
use Rattle.hl_meaning.specs.declared.program.StructDef.{StructDef}
use Rattle.hl_meaning.specs.declared.program.Member.{Member}
use Rattle.hl_meaning.specs.Views.{plain_member, plain_struct}
use Rattle.hl_meaning.specs.Layout.{member_offset}
use Rattle.hl_meaning.specs.Held.{HasMember, members_of, offset_in, plain_program}
use Rattle.hl_meaning.proofs.LayoutLemmas.{has_offset}

-- the members of a struct that is there
pub members-there : (p : Program) (number : ℕ) (d : StructDef) → slice_get p.structs number ≡ Some d → members_of (plain_program p) number ≡ map plain_member d.members
members-there p number d there =
    ap (λ o. option_map_or (λ x. x.members) o []) (slice_get-map plain_struct p.structs number ∙ ap (λ o. option_map plain_struct o) there)

pub members-absent : (p : Program) (number : ℕ) → slice_get p.structs number ≡ None → members_of (plain_program p) number ≡ []
members-absent p number absent =
    ap (λ o. option_map_or (λ x. x.members) o []) (slice_get-map plain_struct p.structs number ∙ ap (λ o. option_map plain_struct o) absent)

pub offset-there : (p : Program) (structure member : ℕ) (d : StructDef) (m : Member) → slice_get p.structs structure ≡ Some d → m ≡ get_or d.members member m → HasMember (plain_program p) structure member →
    m.offset ≡ offset_in (plain_program p) structure member
offset-there p structure member d m there read has =
    let members = members-there p structure d there in
    let within : member < length d.members = subst (λ n. member < n) (ap length members ∙ length-map d.members plain_member) has in
    let member_there = slice_get-map plain_member d.members member ∙ ap (λ o. option_map plain_member o) (slice_get_read d.members (length d.members) member m refl within read) in
    has_offset (plain_program p) p.well_formed structure member (plain_struct d) (plain_member m) (slice_get-map plain_struct p.structs structure ∙ ap (λ o. option_map plain_struct o) there) member_there ∙
    ap (λ ms. member_offset (plain_program p).structs ms member) (sym members)

pub offset-read : (p : Program) (structure member : ℕ) (d : StructDef) (m : Member) → d ≡ get_or p.structs structure d → m ≡ get_or d.members member m → HasMember (plain_program p) structure member →
    m.offset ≡ offset_in (plain_program p) structure member
offset-read p structure member d m struct_read read has = by_place (slice_get_cases p.structs structure).1
  where
    by_place : ((x : StructDef) × (structure < length p.structs) × (slice_get p.structs structure ≡ Some x) × (get_or p.structs structure x ≡ x)) ⊎ ((length p.structs ≤ structure) × (slice_get p.structs structure ≡ None)) → m.offset ≡ offset_in (plain_program p) structure member
    by_place (inl there) = offset-there p structure member d m (slice_get_read p.structs (length p.structs) structure d refl there.1 struct_read) read has
    by_place (inr past) =
        let none : member < 0 = subst (λ n. member < n) (ap length (members-absent p structure past.1)) has in
        absurd (omega (arith, none))
