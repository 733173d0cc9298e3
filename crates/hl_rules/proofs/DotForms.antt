-- Members and swizzles become what is known of them.
use Rattle.std.proofs.Common.{◌≡◌, ◌∙◌, refl, sym, ap, subst, ℕ, suc, ◌≤◌, Bool, true, false, if◌then◌else◌, nat_le, nat_lt, List, [], ◌∷◌, length, position, Option, None, Some}
use Rattle.std.specs.Prelude.{◌==◌, bytes_eq, codes, find, is_none, option_and_then, option_map, slice_get}
use Rattle.std.specs.List.{list_all}
use Rattle.std.proofs.lemmas.Bool.{leb-true}
use Rattle.std.proofs.lemmas.Option.{cond_some, option_and_then_some, same_Some}
use Rattle.hl_meaning.specs.declared.ty.Kind.{Kind}
use Rattle.hl_meaning.specs.Types.{Ty, array_type, components_type, is_void, scalar_type, struct_type, vector_type, void_type}
use Rattle.hl_meaning.specs.Trees.{member_part, swizzle_part}
use Rattle.hl_meaning.specs.Places as places
use Rattle.hl_meaning.specs.Places.{part_type}
use Rattle.hl_meaning.specs.WellFormed.{IsDeclared}
use Rattle.hl_rules.specs.ExpressionRules.{is_no_member, is_no_swizzle}
use Rattle.hl_rules.specs.Expressions.{dotted_into, member_code, swizzled_code}
use Rattle.hl_rules.specs.Nodes.{Code, type_of_code}
use Rattle.hl_rules.specs.Scopes.{MemberInfo, Scope, StructInfo}
use Rattle.hl_rules.specs.Values.{Standing, a_place, dotted_value, letters_in, letters_within, member_number, member_type, members_of, merged_letters, no_place, stepped, swizzle_letters, swizzle_value, swizzled, unclear, value}
use Rattle.hl_rules.proofs.Becoming.{Agrees, Becomes}
use Rattle.hl_rules.proofs.Fitting.{Fits, IsCode, IsKnown}
use Rattle.hl_rules.proofs.PathSteps.{last-member, last-swizzle}
use Rattle.hl_rules.proofs.Searching.{IsFirst, position-first}
use Rattle.hl_rules.proofs.ShortTypes.{components-short, short-declared}
use Rattle.hl_rules.proofs.StepForms.{IsFollowed, IsStep, part-becomes}
use Rattle.hl_rules.proofs.SwizzleSteps.{IsSwizzle, swizzle-there}

-- ---- swizzles

if-some : {A : Type 0} (b : Bool) (o : Option A) (y : A) → (if b then o else None) ≡ Some y → (b ≡ true) × (o ≡ Some y)
if-some true o y e = (refl, e)
if-some false o y e = absurd (cc e)

letters-length : (alphabet name letters : List ℕ) → letters_in alphabet name ≡ Some letters → length letters ≡ length name
letters-length alphabet [] letters e = ap length (sym (same_Some [] letters e))
letters-length alphabet (letter ∷ name) letters e =
    option_and_then_some (λ number. option_map (λ more. number ∷ more) (letters_in alphabet name)) (position (λ x. x == letter) alphabet) letters e
    (λ number h k. on number (letters_in alphabet name) refl k (letters-length alphabet name))
  where
    on : (number : ℕ) (more : Option (List ℕ)) → letters_in alphabet name ≡ more → option_map (λ rest. number ∷ rest) more ≡ Some letters → ((rest : List ℕ) → letters_in alphabet name ≡ Some rest → length rest ≡ length name) → length letters ≡ suc (length name)
    on number None h k rest = absurd (cc k)
    on number (Some more) h k rest = ap length (sym (same_Some (number ∷ more) letters k)) ∙ ap suc (rest more h)

-- the letters of a swizzle are as many as its name has
swizzle-length : (name letters : List ℕ) → swizzle_letters name ≡ Some letters → (length letters ≡ length name) × (length name ≤ 4)
swizzle-length name letters e = on (letters_in (codes "xyzw") name) refl e
  where
    own : (alphabet : List ℕ) → (if nat_le (length name) 4 then letters_in alphabet name else None) ≡ Some letters → (length letters ≡ length name) × (length name ≤ 4)
    own alphabet h =
        let p : (nat_le (length name) 4 ≡ true) × (letters_in alphabet name ≡ Some letters) = if-some (nat_le (length name) 4) (letters_in alphabet name) letters h in
        (letters-length alphabet name letters p.1, leb-true (length name) 4 p.0)

    on : (first : Option (List ℕ)) → letters_in (codes "xyzw") name ≡ first → swizzle_letters name ≡ Some letters → (length letters ≡ length name) × (length name ≤ 4)
    on None k h = own (codes "rgba") (rw k at h)
    on (Some found) k h = own (codes "xyzw") (rw k (rw k at h))

letters-swizzle : (size : ℕ) (name letters : List ℕ) → 1 ≤ length name → letters_within size name ≡ Some letters → IsSwizzle size letters
letters-swizzle size name letters h e =
    option_and_then_some (λ found. if list_all (λ letter. nat_lt letter size) found then Some found else None) (swizzle_letters name) letters e
    (λ found k l. on found k (cond_some (list_all (λ letter. nat_lt letter size) found) found letters l))
  where
    on : (found : List ℕ) → swizzle_letters name ≡ Some found → (list_all (λ letter. nat_lt letter size) found ≡ true) × (found ≡ letters) → IsSwizzle size letters
    on found k p =
        let l : (length found ≡ length name) × (length name ≤ 4) = swizzle-length name found k in
        subst (λ x. IsSwizzle size x) p.1 (record { some = rw l.0 h; few = rw l.0 l.1; within = p.0 })

-- ---- swizzles of something

swizzled-followed : (letters : List ℕ) (from : Ty) (standing : Standing) (code : Code) → Agrees standing code → IsFollowed (swizzle_part letters) from standing (swizzled letters standing)
swizzled-followed letters from (a_place w a before) code h =
    (refl, refl, (λ parts e. ap (λ b. merged_letters b letters) e ∙ sym (last-swizzle parts letters)), (λ l k. refl))
swizzled-followed letters from no_place code h = (refl, λ k. refl)
swizzled-followed letters from unclear code h = absurd h

member-followed : (number : ℕ) (struct : ℕ) (standing : Standing) (code : Code) → Agrees standing code → IsFollowed (member_part number) (struct_type struct) standing (stepped standing)
member-followed number struct (a_place w a before) code h =
    (refl, refl, (λ parts e. sym (last-member parts number)), (λ l k. absurd (cc k)))
member-followed number struct no_place code h = (refl, λ k. absurd (cc k))
member-followed number struct unclear code h = absurd h

-- what a swizzle of a kind and a size is one of
record IsSized (from : Ty) (kind : Kind) (size : ℕ) : Type 0 where
  swizzles : (env : places.Scope) (letters : List ℕ) → part_type env.structs from (swizzle_part letters) ≡ places.swizzle_type size letters (components_type kind (length letters))

swizzle-becomes : (s : Scope) (at : ℕ) (kind : Kind) (size : ℕ) (name : List ℕ) (standing : Standing) (code : Code) → 1 ≤ length name → is_none (letters_within size name) ≡ false → IsSized (type_of_code code) kind size → Agrees standing code → ((env : places.Scope) → Fits env s → IsCode env standing code) → Becomes s (swizzle_value kind (letters_within size name) standing) (swizzled_code at kind (letters_within size name) code)
swizzle-becomes s at kind size name standing code some there sized agrees fits = on (letters_within size name) refl there
  where
    on : (letters : Option (List ℕ)) → letters_within size name ≡ letters → is_none letters ≡ false → Becomes s (swizzle_value kind letters standing) (swizzled_code at kind letters code)
    on None e h = absurd (cc h)
    on (Some letters) e h =
        let swizzle : IsSwizzle size letters = letters-swizzle size name letters some e in
        part-becomes s at (swizzle_part letters) (components_type kind (length letters)) standing (swizzled letters standing) code agrees
        (swizzled-followed letters (type_of_code code) standing code agrees)
        (λ env f. record {
          part_is = tt;
          leads = sized.swizzles env letters ∙ swizzle-there size letters (components_type kind (length letters)) swizzle;
          declared = short-declared env.structs (components_type kind (length letters)) (components-short kind (length letters) swizzle.some swizzle.few);
        })
        fits

-- ---- members

-- a member of a name: the struct, and its member
record IsMember (s : Scope) (number member : ℕ) (ty : Ty) : Type 0 where
  d : StructInfo
  m : MemberInfo
  struct : slice_get s.structs number ≡ Some d
  there : slice_get d.members member ≡ Some m
  type : m.ty ≡ Some ty

member-there : (s : Scope) (number member : ℕ) (name : List ℕ) (ty : Ty) → member_number (members_of s number) name ≡ Some member → member_type s number name ≡ Some ty → IsMember s number member ty
member-there s number member name ty e h = on (slice_get s.structs number) refl
  where
    found : (d : StructInfo) → slice_get s.structs number ≡ Some d → (m : MemberInfo) × IsFirst (λ x. bytes_eq x.name name) d.members member m → option_and_then (λ m. m.ty) (find (λ x. bytes_eq x.name name) d.members) ≡ Some ty → IsMember s number member ty
    found d k r l = record {
      d = d;
      m = r.0;
      struct = k;
      there = r.1.there;
      type = sym (ap (λ o. option_and_then (λ m. m.ty) o) r.1.found) ∙ l;
    }

    on : (d : Option StructInfo) → slice_get s.structs number ≡ d → IsMember s number member ty
    on None k = absurd (cc (rw k at e))
    on (Some d) k = found d k (position-first (λ x. bytes_eq x.name name) d.members member (rw k at e)) (rw k at h)

member-becomes : (s : Scope) → IsKnown s → (at number : ℕ) (name : List ℕ) (standing : Standing) (code : Code) → is_none (member_number (members_of s number) name) ≡ false → type_of_code code ≡ struct_type number → Agrees standing code → ((env : places.Scope) → Fits env s → IsCode env standing code) → Becomes s (value (member_type s number name) (stepped standing)) (member_code at (member_number (members_of s number) name) (member_type s number name) code)
member-becomes s known at number name standing code there is agrees fits = on (member_number (members_of s number) name) refl there
  where
    step : (member : ℕ) (ty : Ty) → IsMember s number member ty → (env : places.Scope) → Fits env s → IsStep env (member_part member) (type_of_code code) ty
    step member ty m env f =
        let p : (places.member_type env.structs number member ≡ Some ty) × IsDeclared env.structs ty = f.structs.members number member m.d m.m ty m.struct m.there m.type in
        record { part_is = tt; leads = ap (λ t. part_type env.structs t (member_part member)) is ∙ p.0; declared = p.1 }

    typed : (member : ℕ) → member_number (members_of s number) name ≡ Some member → (ty : Ty) × (member_type s number name ≡ Some ty) → Becomes s (value (member_type s number name) (stepped standing)) (member_code at (Some member) (member_type s number name) code)
    typed member e r =
        subst (λ o. Becomes s (value o (stepped standing)) (member_code at (Some member) o code)) (sym r.1)
        (part-becomes s at (member_part member) r.0 standing (stepped standing) code agrees
        (subst (λ t. IsFollowed (member_part member) t standing (stepped standing)) (sym is) (member-followed member number standing code agrees))
        (step member r.0 (member-there s number member name r.0 e r.1)) fits)

    on : (o : Option ℕ) → member_number (members_of s number) name ≡ o → is_none o ≡ false → Becomes s (value (member_type s number name) (stepped standing)) (member_code at o (member_type s number name) code)
    on None e h = absurd (cc h)
    on (Some member) e h = typed member e (known.members number member name e)

-- ---- `.` and a name

scalar-sized : (from : Ty) (kind : Kind) → from ≡ scalar_type kind → IsSized from kind 1
scalar-sized from kind e = record { swizzles = λ env letters. ap (λ t. part_type env.structs t (swizzle_part letters)) e }

vector-sized : (from : Ty) (kind : Kind) (size : ℕ) → from ≡ vector_type kind size → IsSized from kind size
vector-sized from kind size e = record { swizzles = λ env letters. ap (λ t. part_type env.structs t (swizzle_part letters)) e }

-- `.` and a name behind something of a type
pub dotted-becomes : (s : Scope) → IsKnown s → (at : ℕ) (name : List ℕ) (ty : Ty) (standing : Standing) (code : Code) → 1 ≤ length name → type_of_code code ≡ ty → is_void ty ≡ false → is_no_member s name (Some ty) ≡ false → is_no_swizzle name (Some ty) ≡ false → Agrees standing code → ((env : places.Scope) → Fits env s → IsCode env standing code) → Becomes s (dotted_value s name (Some ty) standing) (dotted_into s at name ty code)
dotted-becomes s known at name (struct_type number) standing code some is e h k agrees fits = member-becomes s known at number name standing code h is agrees fits
dotted-becomes s known at name (scalar_type kind) standing code some is e h k agrees fits =
    swizzle-becomes s at kind 1 name standing code some k (scalar-sized (type_of_code code) kind is) agrees fits
dotted-becomes s known at name (vector_type kind size) standing code some is e h k agrees fits =
    swizzle-becomes s at kind size name standing code some k (vector-sized (type_of_code code) kind size is) agrees fits
dotted-becomes s known at name (array_type element size) standing code some is e h k agrees fits = absurd (cc h)
dotted-becomes s known at name void_type standing code some is e h k agrees fits = absurd (cc e)
