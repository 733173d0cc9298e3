-- The type of what steps reach is the type that they lead to.
use Rattle.std.proofs.Common.{◌≡◌, ◌∙◌, refl, sym, ap, subst, ℕ, ◌+◌, ◌*◌, ◌<◌, ◌≤◌, ◌⊎◌, inl, inr, Bool, true, false, List, [], ◌∷◌, ◌++◌, length, Option, None, Some, slice_get, arith}
use Rattle.std.specs.Prelude.{◌&&◌, not, if◌then◌else◌, IsTrue, drop, nat_le, nat_lt, option_and_then, option_map, replicate, slice_index}
use Rattle.std.specs.List.{list_all}
use Rattle.std.proofs.lemmas.Bool.{lt-ltb, ltb-true, true≢false}
use Rattle.std.proofs.lemmas.Option.{none-some, same_Some}
use Rattle.std.proofs.Math.Nat.{mod-eq_of_lt}
use Rattle.hl_meaning.specs.declared.ty.Kind.{Kind}
use Rattle.hl_meaning.specs.Types.{Ty, array_type, components_type, scalar_type, struct_type, vector_type, void_type}
use Rattle.hl_meaning.specs.Trees.{Expr, PathPart, PathParts, an_expr, index_part, literal_form, member_part, more_parts, no_parts, swizzle_part}
use Rattle.hl_meaning.specs.Programs.{Member, StructDef}
use Rattle.hl_meaning.specs.Layout.{kinds_of, words_of}
use Rattle.hl_meaning.specs.Places.{has_literal_indexes, is_end, is_index_within, is_literal, is_longer_swizzle, member_type, part_type, path_type, swizzle_type}
use Rattle.hl_meaning.specs.WellFormed.{most_words}
use Rattle.hl_meaning.proofs.LayoutLemmas.{words-scalar}
use Rattle.lane_core.specs.Words.{wrapping_add, wrapping_mul}
use Rattle.hl_source.specs.Operations.{component_kind}
use Rattle.hl_source.specs.Offsets.{Reached, element_of, further, literal_indexes, literal_word, member_of, reached, step_to_element, step_to_letters, step_to_member}
use Rattle.typed_laws.proofs.KindParts.{AreStructs, PartOf, kinds-scalar, kinds-vector, part_component, part_element, part_further, part_member, part_within, replicate_at}
use Rattle.typed_laws.proofs.Typed.{and_left, and_right, never}

-- behind a longer swizzle: the kinds of its vector, or of the scalar that it repeats, and its letters, which are below
-- their number
pub record LettersAt (structs : List StructDef) (at : Reached) (to : Ty) : Type 0 where
  pub kind : Kind
  pub size : ℕ
  pub kinds : kinds_of structs at.ty ≡ replicate size kind
  pub low : IsTrue (list_all (λ letter. nat_lt letter size) at.letters)
  pub is : to ≡ components_type kind (length at.letters)
  pub longer : 1 < length at.letters

-- what steps reach has the type that they lead to, or they end with a longer swizzle
abbrev pub ReachedAs : List StructDef → Reached → Ty → Type 0
ReachedAs structs at to = ((at.letters ≡ []) × (at.ty ≡ to)) ⊎ LettersAt structs at to

if_none : {A : Type 0} (b : Bool) (o : Option A) (x : A) → (if b then o else None) ≡ Some x → (b ≡ true) × (o ≡ Some x)
if_none true o x e = (refl, e)
if_none false o x e = absurd (none-some x e)

if_not : {A : Type 0} (b : Bool) (o : Option A) (x : A) → (if b then None else o) ≡ Some x → (b ≡ false) × (o ≡ Some x)
if_not true o x e = absurd (none-some x e)
if_not false o x e = (refl, e)

then_some : {A B : Type 0} (f : A → Option B) (o : Option A) (b : B) → option_and_then f o ≡ Some b → (a : A) × (o ≡ Some a) × (f a ≡ Some b)
then_some f None b e = absurd (none-some b e)
then_some f (Some a) b e = (a, refl, e)

pub truth_of : (b : Bool) → b ≡ true → IsTrue b
truth_of b e = e

pub true_of : (b : Bool) → IsTrue b → b ≡ true
true_of b h = h

-- a member: what is found of it and its type
member_found : (structs : List StructDef) (struct number : ℕ) (t : Ty) → member_type structs struct number ≡ Some t →
    (d : StructDef) × (m : Member) × (slice_get structs struct ≡ Some d) × (slice_get d.members number ≡ Some m) × (m.ty ≡ t)
member_found structs struct number t e = by_struct (then_some (λ d. option_map (λ m. m.ty) (slice_get d.members number)) (slice_get structs struct) t e)
  where
    by_member : (d : StructDef) → slice_get structs struct ≡ Some d → (o : Option Member) → slice_get d.members number ≡ o → option_map (λ m. m.ty) o ≡ Some t →
        (d : StructDef) × (m : Member) × (slice_get structs struct ≡ Some d) × (slice_get d.members number ≡ Some m) × (m.ty ≡ t)
    by_member d there None is e = absurd (none-some t e)
    by_member d there (Some m) is e = (d, m, there, is, same_Some m.ty t e)

    by_struct : (d : StructDef) × (slice_get structs struct ≡ Some d) × (option_map (λ m. m.ty) (slice_get d.members number) ≡ Some t) →
        (d : StructDef) × (m : Member) × (slice_get structs struct ≡ Some d) × (slice_get d.members number ≡ Some m) × (m.ty ≡ t)
    by_struct (d, there, e) = by_member d there (slice_get d.members number) refl e

-- what one step leads to: the place behind it has the type that the step gives
pub record StepAs (structs : List StructDef) (from : Reached) (t : Ty) (at : Reached) : Type 0 where
  pub letters : at.letters ≡ []
  pub type : at.ty ≡ t

member_step : (structs : List StructDef) (from : Reached) (ty : Ty) (number : ℕ) (t : Ty) → from.ty ≡ ty → from.letters ≡ [] → part_type structs ty (member_part number) ≡ Some t →
    StepAs structs from t (step_to_member from (member_of structs from.ty number))
member_step structs from void_type number t is plain e = absurd (none-some t e)
member_step structs from (scalar_type kind) number t is plain e = absurd (none-some t e)
member_step structs from (vector_type kind size) number t is plain e = absurd (none-some t e)
member_step structs from (array_type element count) number t is plain e = absurd (none-some t e)
member_step structs from (struct_type struct) number t is plain e =
    let found = member_found structs struct number t e in
    let member_is : member_of structs from.ty number ≡ Some found.1 =
    ap (λ x. member_of structs x number) is ∙ (ap (λ o. option_and_then (λ d. slice_get d.members number) o) found.2 ∙ found.3) in
    subst (λ o. StepAs structs from t (step_to_member from o)) (sym member_is) (record { letters = refl; type = found.4 })

index_step : (structs : List StructDef) (from : Reached) (ty : Ty) (index : Expr) (word : ℕ) (t : Ty) → from.ty ≡ ty → part_type structs ty (index_part index) ≡ Some t →
    StepAs structs from t (step_to_element structs from word)
index_step structs from void_type index word t is e = absurd (none-some t e)
index_step structs from (scalar_type kind) index word t is e = absurd (none-some t e)
index_step structs from (vector_type kind size) index word t is e =
    record { letters = refl; type = ap element_of is ∙ same_Some (scalar_type kind) t (if_none (is_index_within size index) (Some (scalar_type kind)) t e).1 }
index_step structs from (array_type element count) index word t is e =
    record { letters = refl; type = ap element_of is ∙ same_Some element t (if_none (is_index_within count index) (Some element) t e).1 }
index_step structs from (struct_type number) index word t is e = absurd (none-some t e)

-- a swizzle of a scalar or a vector of so many components
pub record SwizzleAs (structs : List StructDef) (from : Reached) (letters : List ℕ) (t : Ty) : Type 0 where
  pub kind : Kind
  pub size : ℕ
  pub component : component_kind from.ty ≡ kind
  pub kinds : kinds_of structs from.ty ≡ replicate size kind
  pub some : IsTrue (nat_le 1 (length letters))
  pub low : IsTrue (list_all (λ letter. nat_lt letter size) letters)
  pub is : components_type kind (length letters) ≡ t

swizzle_found : (size : ℕ) (letters : List ℕ) (ty t : Ty) → swizzle_type size letters ty ≡ Some t → IsTrue (nat_le 1 (length letters)) × IsTrue (list_all (λ letter. nat_lt letter size) letters) × (ty ≡ t)
swizzle_found size letters ty t e =
    let found = if_none (nat_le 1 (length letters) && (nat_le (length letters) 4 && list_all (λ letter. nat_lt letter size) letters)) (Some ty) t e in
    let holds = truth_of _ found.0 in
    (and_left (nat_le 1 (length letters)) _ holds, and_right (nat_le (length letters) 4) _ (and_right (nat_le 1 (length letters)) _ holds), same_Some ty t found.1)

swizzle_step : (structs : List StructDef) (from : Reached) (ty : Ty) (letters : List ℕ) (t : Ty) → from.ty ≡ ty → part_type structs ty (swizzle_part letters) ≡ Some t → SwizzleAs structs from letters t
swizzle_step structs from void_type letters t is e = absurd (none-some t e)
swizzle_step structs from (scalar_type kind) letters t is e =
    let found = swizzle_found 1 letters (components_type kind (length letters)) t e in
    record { kind = kind; size = 1; component = ap component_kind is; kinds = ap (kinds_of structs) is ∙ kinds-scalar structs kind; some = found.0; low = found.1; is = found.2 }
swizzle_step structs from (vector_type kind size) letters t is e =
    let found = swizzle_found size letters (components_type kind (length letters)) t e in
    record { kind = kind; size = size; component = ap component_kind is; kinds = ap (kinds_of structs) is ∙ kinds-vector structs kind size; some = found.0; low = found.1; is = found.2 }
swizzle_step structs from (array_type element count) letters t is e = absurd (none-some t e)
swizzle_step structs from (struct_type number) letters t is e = absurd (none-some t e)

-- a path goes on behind a step
path_on : (structs : List StructDef) (ty : Ty) (part : PathPart) (rest : PathParts) (to : Ty) → path_type structs ty (more_parts part rest) ≡ Some to →
    ((is_longer_swizzle part && not (is_end rest)) ≡ false) × (t : Ty) × (part_type structs ty part ≡ Some t) × (path_type structs t rest ≡ Some to)
path_on structs ty part rest to e =
    let first = if_not (is_longer_swizzle part && not (is_end rest)) (option_and_then (λ t. path_type structs t rest) (part_type structs ty part)) to e in
    let next = then_some (λ t. path_type structs t rest) (part_type structs ty part) to first.1 in
    (first.0, next.0, next.1, next.2)

nothing_behind : (rest : PathParts) (b : Bool) → b ≡ true → (b && not (is_end rest)) ≡ false → rest ≡ no_parts
nothing_behind no_parts b is e = refl
nothing_behind (more_parts part rest) b is e = absurd (true≢false (sym (ap (λ x. x && true) is) ∙ e))

pub reached_as : (structs : List StructDef) (from : Reached) (parts : PathParts) (ixs : List ℕ) (ty to : Ty) → from.ty ≡ ty → from.letters ≡ [] → path_type structs ty parts ≡ Some to →
    ReachedAs structs (reached structs from parts ixs) to
reached_as structs from no_parts ixs ty to is plain e = inl (plain, is ∙ same_Some ty to e)
reached_as structs from (more_parts (member_part number) rest) ixs ty to is plain e =
    let on = path_on structs ty (member_part number) rest to e in
    let step = member_step structs from ty number on.1 is plain on.2 in
    reached_as structs (step_to_member from (member_of structs from.ty number)) rest ixs on.1 to step.type step.letters on.3
reached_as structs from (more_parts (index_part index) rest) ixs ty to is plain e =
    let on = path_on structs ty (index_part index) rest to e in
    let step = index_step structs from ty index (slice_index ixs 0) on.1 is on.2 in
    reached_as structs (step_to_element structs from (slice_index ixs 0)) rest (drop 1 ixs) on.1 to step.type step.letters on.3
reached_as structs from (more_parts (swizzle_part []) rest) ixs ty to is plain e =
    let on = path_on structs ty (swizzle_part []) rest to e in never ((swizzle_step structs from ty [] on.1 is on.2).some)
reached_as structs from (more_parts (swizzle_part (letter ∷ [])) rest) ixs ty to is plain e =
    let on = path_on structs ty (swizzle_part (letter ∷ [])) rest to e in
    let step = swizzle_step structs from ty (letter ∷ []) on.1 is on.2 in
    reached_as structs (further from (scalar_type (component_kind from.ty)) letter) rest ixs on.1 to (ap scalar_type step.component ∙ step.is) refl on.3
reached_as structs from (more_parts (swizzle_part (letter ∷ other ∷ letters)) rest) ixs ty to is plain e =
    let on = path_on structs ty (swizzle_part (letter ∷ other ∷ letters)) rest to e in
    let longer : 1 < length (letter ∷ other ∷ letters) = omega arith in
    let end : rest ≡ no_parts = nothing_behind rest _ (lt-ltb 1 (length (letter ∷ other ∷ letters)) longer) on.0 in
    let step = swizzle_step structs from ty (letter ∷ other ∷ letters) on.1 is on.2 in
    let ends : Some on.1 ≡ Some to = subst (λ r. path_type structs on.1 r ≡ Some to) end on.3 in
    subst (λ r. ReachedAs structs (reached structs (step_to_letters from (letter ∷ other ∷ letters)) r ixs) to) (sym end)
    (inr (record { kind = step.kind; size = step.size; kinds = step.kinds; low = step.low; is = sym (step.is ∙ same_Some on.1 to ends); longer = longer }))

-- Where the indexes are literals, what steps reach is a part of where they begin.

small_sum : (a b : ℕ) → a + b ≤ most_words → wrapping_add a b ≡ a + b
small_sum a b low = mod-eq_of_lt (omega (arith, low))

small_product : (a b : ℕ) → a * b ≤ most_words → wrapping_mul a b ≡ a * b
small_product a b low = mod-eq_of_lt (omega (arith, low))

literal_within : (count : ℕ) (index : Expr) → IsTrue (is_literal index) → is_index_within count index ≡ true → literal_word index < count
literal_within count (an_expr ty at (literal_form word)) h e = ltb-true word count e
literal_within count (an_expr ty at form) h e = never h

-- a part behind a part, where the whole isn't too large
part_next : (structs : List StructDef) (whole : Ty) → words_of structs whole ≤ most_words → (from : Reached) (part : Ty) (more : ℕ) → PartOf structs whole from.offset from.ty → PartOf structs from.ty more part →
    PartOf structs whole (wrapping_add from.offset more) part
part_next structs whole small from part more p q =
    let both = part_further structs whole from.ty part from.offset more p q in
    subst (λ n. PartOf structs whole n part) (sym (small_sum from.offset more (omega (arith, part_within structs whole part (from.offset + more) both, small)))) both

-- a component, by a letter
part_letter : (structs : List StructDef) (ty : Ty) (size letter : ℕ) (kind : Kind) → kinds_of structs ty ≡ replicate size kind → letter < size → PartOf structs ty letter (scalar_type kind)
part_letter structs ty size letter kind is low =
    let at = replicate_at size letter kind low in
    record { front = at.0; back = at.1; is = is ∙ (at.2 ∙ ap (λ k. at.0 ++ (k ++ at.1)) (sym (kinds-scalar structs kind))); offset_is = at.3 }

member_part_at : (structs : List StructDef) → AreStructs structs → (whole : Ty) → words_of structs whole ≤ most_words → (from : Reached) (ty : Ty) (number : ℕ) (t : Ty) → from.ty ≡ ty →
    part_type structs ty (member_part number) ≡ Some t → PartOf structs whole from.offset from.ty →
    PartOf structs whole (step_to_member from (member_of structs from.ty number)).offset (step_to_member from (member_of structs from.ty number)).ty
member_part_at structs are whole small from void_type number t is e p = absurd (none-some t e)
member_part_at structs are whole small from (scalar_type kind) number t is e p = absurd (none-some t e)
member_part_at structs are whole small from (vector_type kind size) number t is e p = absurd (none-some t e)
member_part_at structs are whole small from (array_type element count) number t is e p = absurd (none-some t e)
member_part_at structs are whole small from (struct_type struct) number t is e p =
    let found = member_found structs struct number t e in
    let member_is : member_of structs from.ty number ≡ Some found.1 =
    ap (λ x. member_of structs x number) is ∙ (ap (λ o. option_and_then (λ d. slice_get d.members number) o) found.2 ∙ found.3) in
    subst (λ o. PartOf structs whole (step_to_member from o).offset (step_to_member from o).ty) (sym member_is)
    (part_next structs whole small from found.1.ty found.1.offset p
    (subst (λ x. PartOf structs x found.1.offset found.1.ty) (sym is) (part_member structs are struct number found.0 found.1 found.2 found.3)))

element_at : (structs : List StructDef) (whole : Ty) → words_of structs whole ≤ most_words → (from : Reached) (element : Ty) (index : ℕ) → element_of from.ty ≡ element → PartOf structs whole from.offset from.ty →
    PartOf structs from.ty (index * words_of structs element) element → PartOf structs whole (step_to_element structs from index).offset (step_to_element structs from index).ty
element_at structs whole small from element index is p q =
    subst (λ x. PartOf structs whole (wrapping_add from.offset (wrapping_mul index (words_of structs x))) x) (sym is)
    (subst (λ n. PartOf structs whole (wrapping_add from.offset n) element)
    (sym (small_product index (words_of structs element) (omega (arith, part_within structs from.ty element (index * words_of structs element) q, part_within structs whole from.ty from.offset p, small))))
    (part_next structs whole small from element (index * words_of structs element) p q))

index_part_at : (structs : List StructDef) (whole : Ty) → words_of structs whole ≤ most_words → (from : Reached) (ty : Ty) (index : Expr) (t : Ty) → from.ty ≡ ty → part_type structs ty (index_part index) ≡ Some t →
    IsTrue (is_literal index) → PartOf structs whole from.offset from.ty →
    PartOf structs whole (step_to_element structs from (literal_word index)).offset (step_to_element structs from (literal_word index)).ty
index_part_at structs whole small from void_type index t is e literal p = absurd (none-some t e)
index_part_at structs whole small from (scalar_type kind) index t is e literal p = absurd (none-some t e)
index_part_at structs whole small from (struct_type number) index t is e literal p = absurd (none-some t e)
index_part_at structs whole small from (array_type element count) index t is e literal p =
    let low = literal_within count index literal (if_none (is_index_within count index) (Some element) t e).0 in
    element_at structs whole small from element (literal_word index) (ap element_of is) p (subst (λ x. PartOf structs x (literal_word index * words_of structs element) element) (sym is) (part_element structs element count (literal_word index) low))
index_part_at structs whole small from (vector_type kind size) index t is e literal p =
    let low = literal_within size index literal (if_none (is_index_within size index) (Some (scalar_type kind)) t e).0 in
    let one : literal_word index ≡ literal_word index * words_of structs (scalar_type kind) = sym (ap (λ n. literal_word index * n) (words-scalar structs kind) ∙ omega arith) in
    element_at structs whole small from (scalar_type kind) (literal_word index) (ap element_of is) p
    (subst (λ x. PartOf structs x (literal_word index * words_of structs (scalar_type kind)) (scalar_type kind)) (sym is)
    (subst (λ n. PartOf structs (vector_type kind size) n (scalar_type kind)) one (part_component structs kind size (literal_word index) low)))

pub pick_part : (structs : List StructDef) → AreStructs structs → (whole : Ty) → words_of structs whole ≤ most_words → (from : Reached) (parts : PathParts) (ty to : Ty) → from.ty ≡ ty → from.letters ≡ [] →
    path_type structs ty parts ≡ Some to → IsTrue (has_literal_indexes parts) → PartOf structs whole from.offset from.ty →
    PartOf structs whole (reached structs from parts (literal_indexes parts)).offset (reached structs from parts (literal_indexes parts)).ty
pick_part structs are whole small from no_parts ty to is plain e literal p = p
pick_part structs are whole small from (more_parts (member_part number) rest) ty to is plain e literal p =
    let on = path_on structs ty (member_part number) rest to e in
    let step = member_step structs from ty number on.1 is plain on.2 in
    pick_part structs are whole small (step_to_member from (member_of structs from.ty number)) rest on.1 to step.type step.letters on.3 literal (member_part_at structs are whole small from ty number on.1 is on.2 p)
pick_part structs are whole small from (more_parts (index_part index) rest) ty to is plain e literal p =
    let on = path_on structs ty (index_part index) rest to e in
    let step = index_step structs from ty index (literal_word index) on.1 is on.2 in
    pick_part structs are whole small (step_to_element structs from (literal_word index)) rest on.1 to step.type step.letters on.3 (and_right (is_literal index) (has_literal_indexes rest) literal)
    (index_part_at structs whole small from ty index on.1 is on.2 (and_left (is_literal index) (has_literal_indexes rest) literal) p)
pick_part structs are whole small from (more_parts (swizzle_part []) rest) ty to is plain e literal p =
    let on = path_on structs ty (swizzle_part []) rest to e in never ((swizzle_step structs from ty [] on.1 is on.2).some)
pick_part structs are whole small from (more_parts (swizzle_part (letter ∷ [])) rest) ty to is plain e literal p =
    let on = path_on structs ty (swizzle_part (letter ∷ [])) rest to e in
    let step = swizzle_step structs from ty (letter ∷ []) on.1 is on.2 in
    let low = ltb-true letter step.size (true_of _ (and_left (nat_lt letter step.size) true step.low)) in
    pick_part structs are whole small (further from (scalar_type (component_kind from.ty)) letter) rest on.1 to (ap scalar_type step.component ∙ step.is) refl on.3 literal
    (part_next structs whole small from (scalar_type (component_kind from.ty)) letter p
    (subst (λ k. PartOf structs from.ty letter (scalar_type k)) (sym step.component) (part_letter structs from.ty step.size letter step.kind step.kinds low)))
pick_part structs are whole small from (more_parts (swizzle_part (letter ∷ other ∷ letters)) rest) ty to is plain e literal p =
    let on = path_on structs ty (swizzle_part (letter ∷ other ∷ letters)) rest to e in
    let longer : 1 < length (letter ∷ other ∷ letters) = omega arith in
    let end : rest ≡ no_parts = nothing_behind rest _ (lt-ltb 1 (length (letter ∷ other ∷ letters)) longer) on.0 in
    subst (λ r. PartOf structs whole (reached structs (step_to_letters from (letter ∷ other ∷ letters)) r (literal_indexes rest)).offset (reached structs (step_to_letters from (letter ∷ other ∷ letters)) r (literal_indexes rest)).ty) (sym end) p
