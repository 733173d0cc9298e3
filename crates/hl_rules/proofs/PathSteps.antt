-- One more step behind others: where it leads, and what stands at its end.
use Rattle.std.proofs.Common.{◌≡◌, ◌∙◌, refl, sym, ap, subst, ℕ, Bool, true, false, if◌then◌else◌, List, [], ◌∷◌, map, length, Some}
use Rattle.std.specs.Prelude.{slice_index_or}
use Rattle.std.proofs.lemmas.Bool.{and_from}
use Rattle.std.proofs.lemmas.Option.{same_Some}
use Rattle.hl_meaning.specs.declared.ty.Kind.{Kind}
use Rattle.hl_meaning.specs.Types.{Ty, vector_type}
use Rattle.hl_meaning.specs.Trees.{Expr, PathPart, PathParts, an_expr, index_part, literal_form, member_part, more_parts, no_parts, swizzle_part}
use Rattle.hl_meaning.specs.Places as places
use Rattle.hl_meaning.specs.Places.{has_literal_indexes, is_end, is_literal, is_longer_swizzle, part_type, path_type, swizzle_type}
use Rattle.hl_meaning.specs.Programs.{StructDef}
use Rattle.hl_meaning.specs.WellFormed.{AreParts, IsPart}
use Rattle.hl_rules.specs.Nodes.{and_part, joined}
use Rattle.hl_rules.specs.Values.{is_longer, merged_letters}
use Rattle.hl_rules.proofs.Fitting.{last_letters, part_letters}
use Rattle.hl_rules.proofs.Paths.{IsLong, is_picking, joined-plain, longer-same, path-long, path-more, path-single}
use Rattle.hl_rules.proofs.SwizzleSteps.{IsPicked, longer-components, merged-index, merged-swizzle, picked-from}
use Rattle.hl_rules.proofs.TypeLemmas.{and-left, and-right}

-- ---- one more step

joined-swizzle : (before letters : List ℕ) → is_longer before ≡ true → joined (swizzle_part before) (swizzle_part letters) ≡ more_parts (swizzle_part (map (λ letter. slice_index_or before letter 0) letters)) no_parts
joined-swizzle before letters e = rw e refl

joined-index : (before : List ℕ) (ty : Ty) (at number : ℕ) → is_longer before ≡ true → joined (swizzle_part before) (index_part (an_expr ty at (literal_form number))) ≡ more_parts (swizzle_part (slice_index_or before number 0 ∷ [])) no_parts
joined-index before ty at number e = rw e refl

-- where one more step behind one leads
step-joined : (structs : List StructDef) (from mid to : Ty) (first part : PathPart) (longer : Bool) → is_longer (part_letters first) ≡ longer → (longer ≡ true → is_picking part ≡ true) → part_type structs from first ≡ Some mid → part_type structs mid part ≡ Some to → path_type structs from (joined first part) ≡ Some to
step-joined structs from mid to first part false l pick e h =
    subst (λ p. path_type structs from p ≡ Some to) (sym (joined-plain first part l))
    (path-more structs from mid to first (more_parts part no_parts) (longer-same first ∙ l) e (path-single structs mid part ∙ h))
step-joined structs from mid to (swizzle_part before) (swizzle_part letters) true l pick e h =
    subst (λ p. path_type structs from p ≡ Some to) (sym (joined-swizzle before letters l))
    (path-single structs from (swizzle_part (map (λ letter. slice_index_or before letter 0) letters)) ∙ merged-swizzle structs from mid to before letters l e h)
step-joined structs from mid to (swizzle_part before) (index_part (an_expr ty at (literal_form number))) true l pick e h =
    subst (λ p. path_type structs from p ≡ Some to) (sym (joined-index before ty at number l))
    (path-single structs from (swizzle_part (slice_index_or before number 0 ∷ [])) ∙ merged-index structs from mid to ty at number before l e h)
step-joined structs from mid to (swizzle_part before) (index_part (an_expr ty at form)) true l pick e h = absurd (cc (pick refl))
step-joined structs from mid to (swizzle_part before) (member_part number) true l pick e h = absurd (cc (pick refl))
step-joined structs from mid to (member_part number) part true l pick e h = absurd (cc l)
step-joined structs from mid to (index_part index) part true l pick e h = absurd (cc l)

-- no path ends with one more step
joined-more : (first part : PathPart) → is_end (joined first part) ≡ false
joined-more (swizzle_part before) (swizzle_part letters) = on (is_longer before)
  where
    on : (longer : Bool) → is_end (if longer then more_parts (swizzle_part (if longer then map (λ letter. slice_index_or before letter 0) letters else letters)) no_parts else more_parts (swizzle_part before) (more_parts (swizzle_part letters) no_parts)) ≡ false
    on true = refl
    on false = refl
joined-more (swizzle_part before) (index_part (an_expr ty at (literal_form number))) = on (is_longer before)
  where
    on : (longer : Bool) → is_end (if longer then more_parts (swizzle_part (slice_index_or before number 0 ∷ [])) no_parts else more_parts (swizzle_part before) (more_parts (index_part (an_expr ty at (literal_form number))) no_parts)) ≡ false
    on true = refl
    on false = refl
joined-more (swizzle_part before) (index_part (an_expr ty at form)) = refl
joined-more (swizzle_part before) (member_part number) = refl
joined-more (member_part number) part = refl
joined-more (index_part index) part = refl

pub and-more : (parts : PathParts) (part : PathPart) → is_end (and_part parts part) ≡ false
and-more no_parts part = refl
and-more (more_parts first no_parts) part = joined-more first part
and-more (more_parts first (more_parts second rest)) part = refl

-- where one more step leads
pub path-step : (structs : List StructDef) (from mid to : Ty) (parts : PathParts) (part : PathPart) → (is_longer (last_letters parts) ≡ true → is_picking part ≡ true) → path_type structs from parts ≡ Some mid → part_type structs mid part ≡ Some to → path_type structs from (and_part parts part) ≡ Some to
path-step structs from mid to no_parts part pick e h =
    path-single structs from part ∙ (ap (λ t. part_type structs t part) (same_Some from mid e) ∙ h)
path-step structs from mid to (more_parts first no_parts) part pick e h =
    step-joined structs from mid to first part (is_longer (part_letters first)) refl pick (sym (path-single structs from first) ∙ e) h
path-step structs from mid to (more_parts first (more_parts second rest)) part pick e h =
    let l : IsLong structs from mid first (more_parts second rest) = path-long structs from mid first second rest e in
    path-more structs from l.middle to first (and_part (more_parts second rest) part) l.shorter l.step
    (path-step structs l.middle mid to (more_parts second rest) part pick l.path h)

-- several letters at the end give a vector
pub longer-vector : (structs : List StructDef) (from to : Ty) (parts : PathParts) → path_type structs from parts ≡ Some to → is_longer (last_letters parts) ≡ true → (kind : Kind) × (to ≡ vector_type kind (length (last_letters parts)))
longer-vector structs from to no_parts e l = absurd (cc l)
longer-vector structs from to (more_parts (swizzle_part letters) no_parts) e l =
    let p : IsPicked structs from to letters = picked-from structs from to letters (sym (path-single structs from (swizzle_part letters)) ∙ e) in
    (p.kind, sym p.to_is ∙ longer-components p.kind letters l)
longer-vector structs from to (more_parts (member_part number) no_parts) e l = absurd (cc l)
longer-vector structs from to (more_parts (index_part index) no_parts) e l = absurd (cc l)
longer-vector structs from to (more_parts first (more_parts second rest)) e l =
    let p : IsLong structs from to first (more_parts second rest) = path-long structs from to first second rest e in
    longer-vector structs p.middle to (more_parts second rest) p.path l

-- ---- the end

last-behind : (first : PathPart) (rest : PathParts) → is_end rest ≡ false → last_letters (more_parts first rest) ≡ last_letters rest
last-behind first no_parts e = absurd (cc e)
last-behind first (more_parts second rest) e = refl

last-and : (first second : PathPart) (rest : PathParts) (part : PathPart) → last_letters (and_part (more_parts first (more_parts second rest)) part) ≡ last_letters (and_part (more_parts second rest) part)
last-and first second rest part = last-behind first (and_part (more_parts second rest) part) (and-more (more_parts second rest) part)

-- what stands at the end behind a swizzle
pub last-swizzle : (parts : PathParts) (letters : List ℕ) → last_letters (and_part parts (swizzle_part letters)) ≡ merged_letters (last_letters parts) letters
last-swizzle no_parts letters = refl
last-swizzle (more_parts (swizzle_part before) no_parts) letters = on (is_longer before)
  where
    on : (longer : Bool) → last_letters (if longer then more_parts (swizzle_part (if longer then map (λ letter. slice_index_or before letter 0) letters else letters)) no_parts else more_parts (swizzle_part before) (more_parts (swizzle_part letters) no_parts)) ≡ (if longer then map (λ letter. slice_index_or before letter 0) letters else letters)
    on true = refl
    on false = refl
last-swizzle (more_parts (member_part number) no_parts) letters = refl
last-swizzle (more_parts (index_part index) no_parts) letters = refl
last-swizzle (more_parts first (more_parts second rest)) letters =
    last-and first second rest (swizzle_part letters) ∙ last-swizzle (more_parts second rest) letters

pub last-member : (parts : PathParts) (number : ℕ) → last_letters (and_part parts (member_part number)) ≡ []
last-member no_parts number = refl
last-member (more_parts (swizzle_part before) no_parts) number = refl
last-member (more_parts (member_part m) no_parts) number = refl
last-member (more_parts (index_part index) no_parts) number = refl
last-member (more_parts first (more_parts second rest)) number =
    last-and first second rest (member_part number) ∙ last-member (more_parts second rest) number

-- behind a constant index
pub last-number : (parts : PathParts) (ty : Ty) (at number : ℕ) → last_letters (and_part parts (index_part (an_expr ty at (literal_form number)))) ≡ (if is_longer (last_letters parts) then slice_index_or (last_letters parts) number 0 ∷ [] else [])
last-number no_parts ty at number = refl
last-number (more_parts (swizzle_part before) no_parts) ty at number = on (is_longer before)
  where
    on : (longer : Bool) → last_letters (if longer then more_parts (swizzle_part (slice_index_or before number 0 ∷ [])) no_parts else more_parts (swizzle_part before) (more_parts (index_part (an_expr ty at (literal_form number))) no_parts)) ≡ (if longer then slice_index_or before number 0 ∷ [] else [])
    on true = refl
    on false = refl
last-number (more_parts (member_part m) no_parts) ty at number = refl
last-number (more_parts (index_part index) no_parts) ty at number = refl
last-number (more_parts first (more_parts second rest)) ty at number =
    last-and first second rest (index_part (an_expr ty at (literal_form number))) ∙ last-number (more_parts second rest) ty at number

last-joined : (first : PathPart) (index : Expr) → is_literal index ≡ false → last_letters (joined first (index_part index)) ≡ []
last-joined (swizzle_part before) (an_expr ty at (literal_form number)) e = absurd (cc e)
last-joined (swizzle_part before) (an_expr ty at form) e = refl
last-joined (member_part m) index e = refl
last-joined (index_part i) index e = refl

-- and behind any other index
pub last-index : (parts : PathParts) (index : Expr) → is_literal index ≡ false → last_letters (and_part parts (index_part index)) ≡ []
last-index no_parts index e = refl
last-index (more_parts first no_parts) index e = last-joined first index e
last-index (more_parts first (more_parts second rest)) index e =
    last-and first second rest (index_part index) ∙ last-index (more_parts second rest) index e

-- ---- well-formed steps

joined-parts : (env : places.Scope) (first part : PathPart) → IsPart env first → IsPart env part → AreParts env (joined first part)
joined-parts env (swizzle_part before) (swizzle_part letters) h k = on (is_longer before)
  where
    on : (longer : Bool) → AreParts env (if longer then more_parts (swizzle_part (if longer then map (λ letter. slice_index_or before letter 0) letters else letters)) no_parts else more_parts (swizzle_part before) (more_parts (swizzle_part letters) no_parts))
    on true = (tt, tt)
    on false = (tt, (tt, tt))
joined-parts env (swizzle_part before) (index_part (an_expr ty at (literal_form number))) h k = on (is_longer before)
  where
    on : (longer : Bool) → AreParts env (if longer then more_parts (swizzle_part (slice_index_or before number 0 ∷ [])) no_parts else more_parts (swizzle_part before) (more_parts (index_part (an_expr ty at (literal_form number))) no_parts))
    on true = (tt, tt)
    on false = (tt, (k, tt))
joined-parts env (swizzle_part before) (index_part (an_expr ty at form)) h k = (h, (k, tt))
joined-parts env (swizzle_part before) (member_part number) h k = (h, (k, tt))
joined-parts env (member_part number) part h k = (h, (k, tt))
joined-parts env (index_part index) part h k = (h, (k, tt))

pub and-parts : (env : places.Scope) (parts : PathParts) (part : PathPart) → AreParts env parts → IsPart env part → AreParts env (and_part parts part)
and-parts env no_parts part h k = (k, tt)
and-parts env (more_parts first no_parts) part h k = joined-parts env first part h.0 k
and-parts env (more_parts first (more_parts second rest)) part h k = (h.0, and-parts env (more_parts second rest) part h.1 k)

-- whether an index is a constant number, where one is
abbrev pub is_fixed : PathPart → Bool
is_fixed (index_part index) = is_literal index
is_fixed _ = true

joined-fixed : (first part : PathPart) → is_fixed first ≡ true → is_fixed part ≡ true → has_literal_indexes (joined first part) ≡ true
joined-fixed (swizzle_part before) (swizzle_part letters) h k = on (is_longer before)
  where
    on : (longer : Bool) → has_literal_indexes (if longer then more_parts (swizzle_part (if longer then map (λ letter. slice_index_or before letter 0) letters else letters)) no_parts else more_parts (swizzle_part before) (more_parts (swizzle_part letters) no_parts)) ≡ true
    on true = refl
    on false = refl
joined-fixed (swizzle_part before) (index_part (an_expr ty at (literal_form number))) h k = on (is_longer before)
  where
    on : (longer : Bool) → has_literal_indexes (if longer then more_parts (swizzle_part (slice_index_or before number 0 ∷ [])) no_parts else more_parts (swizzle_part before) (more_parts (index_part (an_expr ty at (literal_form number))) no_parts)) ≡ true
    on true = refl
    on false = refl
joined-fixed (swizzle_part before) (index_part (an_expr ty at form)) h k = absurd (cc k)
joined-fixed (swizzle_part before) (member_part number) h k = refl
joined-fixed (member_part number) (swizzle_part letters) h k = refl
joined-fixed (member_part number) (index_part index) h k = rw k refl
joined-fixed (member_part number) (member_part m) h k = refl
joined-fixed (index_part index) (swizzle_part letters) h k = rw h refl
joined-fixed (index_part index) (index_part other) h k = rw h (rw k refl)
joined-fixed (index_part index) (member_part number) h k = rw h refl

fixed-first : (first : PathPart) (rest : PathParts) → has_literal_indexes (more_parts first rest) ≡ true → (is_fixed first ≡ true) × (has_literal_indexes rest ≡ true)
fixed-first (swizzle_part letters) rest e = (refl, e)
fixed-first (member_part number) rest e = (refl, e)
fixed-first (index_part index) rest e = (and-left (is_literal index) (has_literal_indexes rest) e, and-right (is_literal index) (has_literal_indexes rest) e)

fixed-more : (first : PathPart) (rest : PathParts) → is_fixed first ≡ true → has_literal_indexes rest ≡ true → has_literal_indexes (more_parts first rest) ≡ true
fixed-more (swizzle_part letters) rest h k = k
fixed-more (member_part number) rest h k = k
fixed-more (index_part index) rest h k = and_from (is_literal index) (has_literal_indexes rest) h k

pub and-fixed : (parts : PathParts) (part : PathPart) → has_literal_indexes parts ≡ true → is_fixed part ≡ true → has_literal_indexes (and_part parts part) ≡ true
and-fixed no_parts part h k = fixed-more part no_parts k refl
and-fixed (more_parts first no_parts) part h k = joined-fixed first part (fixed-first first no_parts h).0 k
and-fixed (more_parts first (more_parts second rest)) part h k =
    let f : (is_fixed first ≡ true) × (has_literal_indexes (more_parts second rest) ≡ true) = fixed-first first (more_parts second rest) h in
    fixed-more first (and_part (more_parts second rest) part) f.0 (and-fixed (more_parts second rest) part f.1 k)
