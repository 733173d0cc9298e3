-- The structs that are declared so far.
use Rattle.std.proofs.Common.{◌≡◌, ◌∙◌, refl, sym, ap, ℕ, ◌+◌, ◌==◌, Bool, true, false, if◌then◌else◌, List, [], ◌∷◌, ◌++◌, length, map, Option, None, Some, option_map, option_and_then, slice_get, arith}
use Rattle.std.proofs.lemmas.Bool.{eqb-true}
use Rattle.std.proofs.lemmas.List.{length_push, map-append}
use Rattle.std.proofs.lemmas.Option.{slice_get-map}
use Rattle.hl_rules.specs.Scopes as plain
use Rattle.hl_rules.specs.Scopes.{members_words}
use Rattle.hl_values.specs.declared.structs.StructInfo.{StructInfo}
use Rattle.hl_values.specs.Innermost.{innermost_in, innermosts, innermosts_behind}
use Rattle.hl_values.specs.StructEntries.{AreCounted, AreInside, members_of}
use Rattle.hl_values.specs.StructTables.{Members, plain_member, plain_struct, plain_structs, structs_behind}
use Rattle.hl_values.specs.WordCounts.{counted}

-- one more struct is at the end
structs_behind-push : (before : List plain.StructInfo) (structs : List Members) (d : Members)
    → structs_behind before (structs ++ d ∷ []) ≡ structs_behind before structs ++ plain_struct (structs_behind before structs) d ∷ []
structs_behind-push before [] d = refl
structs_behind-push before (x ∷ structs) d = structs_behind-push (before ++ plain_struct before x ∷ []) structs d

pub plain_structs-push : (structs : List Members) (d : Members) → plain_structs (structs ++ d ∷ []) ≡ plain_structs structs ++ plain_struct (plain_structs structs) d ∷ []
plain_structs-push structs d = structs_behind-push [] structs d

-- the words of a struct are those that are held
inner : {A B : Type 0} (f : A → Option B) (o : Option A) → option_and_then (λ x. x) (option_map f o) ≡ option_and_then f o
inner f None = refl
inner f (Some x) = refl

counted-inner : (o : Option plain.StructInfo) → option_and_then (λ d. option_map counted d.words) o ≡ option_map counted (option_and_then (λ d. d.words) o)
counted-inner None = refl
counted-inner (Some d) = refl

pub words-at : (structs : List StructInfo) → AreCounted structs → (number : ℕ)
    → option_and_then (λ d. d.words) (slice_get structs number) ≡ option_map counted (option_and_then (λ d. d.words) (slice_get (plain_structs (map members_of structs)) number))
words-at structs held number =
    sym (inner (λ d. d.words) (slice_get structs number)) ∙
    (ap (λ o. option_and_then (λ x. x) o) (sym (slice_get-map (λ d. d.words) structs number) ∙
    (ap (λ l. slice_get l number) held ∙ slice_get-map (λ d. option_map counted d.words) (plain_structs (map members_of structs)) number)) ∙
    (inner (λ d. option_map counted d.words) (slice_get (plain_structs (map members_of structs)) number) ∙
    counted-inner (slice_get (plain_structs (map members_of structs)) number)))

-- and stay so with one more struct
pub are_counted-push : (structs : List StructInfo) (d : StructInfo) → AreCounted structs
    → d.words ≡ option_map counted (members_words (plain_structs (map members_of structs)) (map plain_member d.members))
    → AreCounted (structs ++ d ∷ [])
are_counted-push structs d held words =
    map-append (λ x. x.words) structs (d ∷ []) ∙
    (ap (λ l. l ++ d.words ∷ []) held ∙
    (ap (λ w. map (λ x. option_map counted x.words) (plain_structs (map members_of structs)) ++ w ∷ []) words ∙
    (sym (map-append (λ x. option_map counted x.words) (plain_structs (map members_of structs)) (plain_struct (plain_structs (map members_of structs)) (members_of d) ∷ [])) ∙
    ap (λ l. map (λ x. option_map counted x.words) l) (sym (ap plain_structs (map-append members_of structs (d ∷ [])) ∙ plain_structs-push (map members_of structs) (members_of d))))))

-- ---- innermost structs

innermosts_behind-push : (before : List ℕ) (structs : List Members) (d : Members)
    → innermosts_behind before (structs ++ d ∷ []) ≡ innermosts_behind before structs ++ innermost_in (innermosts_behind before structs) d.1 ∷ []
innermosts_behind-push before [] d = refl
innermosts_behind-push before (x ∷ structs) d = innermosts_behind-push (before ++ innermost_in before x.1 ∷ []) structs d

pub innermosts-push : (structs : List Members) (d : Members) → innermosts (structs ++ d ∷ []) ≡ innermosts structs ++ innermost_in (innermosts structs) d.1 ∷ []
innermosts-push structs d = innermosts_behind-push [] structs d

length-innermosts_behind : (before : List ℕ) (structs : List Members) → length (innermosts_behind before structs) ≡ length before + length structs
length-innermosts_behind before [] = omega arith
length-innermosts_behind before (d ∷ structs) =
    length-innermosts_behind (before ++ innermost_in before d.1 ∷ []) structs ∙ omega (arith, length_push before (innermost_in before d.1))

pub length-innermosts : (structs : List Members) → length (innermosts structs) ≡ length structs
length-innermosts structs = length-innermosts_behind [] structs ∙ omega arith

-- they are those that are held
pub innermost-at : (structs : List StructInfo) → AreInside structs → (number : ℕ)
    → option_map (λ d. d.innermost) (slice_get structs number) ≡ slice_get (innermosts (map members_of structs)) number
innermost-at structs held number = sym (slice_get-map (λ d. d.innermost) structs number) ∙ ap (λ l. slice_get l number) held

-- and stay so with one more struct
pub are_inside-push : (structs : List StructInfo) (d : StructInfo) → AreInside structs
    → d.innermost ≡ innermost_in (innermosts (map members_of structs)) d.members → AreInside (structs ++ d ∷ [])
are_inside-push structs d held own =
    map-append (λ x. x.innermost) structs (d ∷ []) ∙
    (ap (λ l. l ++ d.innermost ∷ []) held ∙
    (ap (λ n. innermosts (map members_of structs) ++ n ∷ []) own ∙
    sym (ap innermosts (map-append members_of structs (d ∷ [])) ∙ innermosts-push (map members_of structs) (members_of d))))

-- an array of another length is no lone struct
pub not-alone : (count : ℕ) (inner : Option ℕ) → (count ≡ 1 → ⊥) → None ≡ (if count == 1 then inner else None)
not-alone count inner apart = by (count == 1) refl
  where
    by : (b : Bool) → count == 1 ≡ b → None ≡ (if b then inner else None)
    by true is = absurd (apart (eqb-true count 1 is))
    by false is = refl
