-- Steps behind one another.
use Rattle.std.proofs.Common.{◌≡◌, ◌∙◌, refl, sym, ap, subst, ℕ, Bool, true, false, List, [], ◌∷◌, ◌++◌, map, Option, None, Some}
use Rattle.std.specs.Prelude.{slice_index_or}
use Rattle.hl_meaning.specs.declared.expression.Arg.{Arg}
use Rattle.hl_meaning.specs.declared.expression.Root.{Root}
use Rattle.hl_meaning.specs.declared.expression.Target.{Target}
use Rattle.hl_meaning.specs.declared.expression.Expr.{Expr}
use Rattle.hl_meaning.specs.declared.expression.Location.{Location}
use Rattle.hl_meaning.specs.declared.expression.Form.{Form, Form-F, out-Form, roll-Form, roll-out-Form}
use Rattle.hl_meaning.specs.declared.expression.Form.TheVariants as forms
use Rattle.hl_meaning.specs.declared.expression.Form.TheVariants.{rolls-Literal, rolls-Read, rolls-Write, rolls-Convert, rolls-Unary, rolls-Binary, rolls-Choose, rolls-Build, rolls-Pick, rolls-Call, rolls-Intrinsic, rolls-Method, rolls-Atomic}
use Rattle.hl_meaning.specs.declared.expression.PathPart.{PathPart, PathPart-F, out-PathPart, roll-PathPart, roll-out-PathPart}
use Rattle.hl_meaning.specs.declared.expression.PathPart.TheVariants as parts
use Rattle.hl_meaning.specs.declared.expression.PathPart.TheVariants.{rolls-Member, rolls-Index, rolls-Swizzle}
use Rattle.hl_meaning.specs.Trees.{PathParts, a_location, an_expr, index_part, literal_form, member_part, more_parts, no_parts, pick_form, swizzle_part}
use Rattle.hl_meaning.specs.Trees as plain
use Rattle.hl_meaning.specs.Places.{is_literal}
use Rattle.hl_meaning.specs.Types.{Ty}
use Rattle.hl_meaning.specs.Views.{plain_expr, plain_form, plain_location, plain_part, plain_parts, plain_root, plain_ty}
use Rattle.hl_meaning.proofs.Plain.{plain_expr-is, plain_form-Atomic, plain_form-Binary, plain_form-Build, plain_form-Call, plain_form-Choose, plain_form-Convert, plain_form-Intrinsic, plain_form-Literal, plain_form-Method, plain_form-Pick, plain_form-Read, plain_form-Unary, plain_form-Write, plain_location-is, plain_part-Index, plain_part-Member, plain_part-Swizzle}
use Rattle.hl_rules.specs.Nodes.{a_place_code, a_value_code, and_part, joined, with_part}
use Rattle.hl_rules.specs.Values.{is_longer, merged_letters}
use Rattle.hl_values.specs.Steps.{joined_as, picked_as}

-- ---- forms that are held

abbrev is_literal_form : plain.Form → Bool
is_literal_form (literal_form word) = true
is_literal_form _ = false

abbrev is_pick_form : plain.Form → Bool
is_pick_form (pick_form value parts) = true
is_pick_form _ = false

pub form-no_literal : (o : Form) → ((word : ℕ) → o ≡ forms.Literal word → ⊥) → is_literal_form (plain_form o) ≡ false
form-no_literal o = subst (λ o. ((word : ℕ) → o ≡ forms.Literal word → ⊥) → is_literal_form (plain_form o) ≡ false) (roll-out-Form o) (of_layer (out-Form o))
  where
    of_layer : (x : Form-F Arg Form PathPart Root Target Expr Location) → ((word : ℕ) → roll-Form x ≡ forms.Literal word → ⊥) → is_literal_form (plain_form (roll-Form x)) ≡ false
    of_layer (Form-F.Literal word) other = absurd (other word (rolls-Literal word))
    of_layer (Form-F.Read place) other = ap (λ f. is_literal_form (plain_form f)) (rolls-Read place) ∙ ap is_literal_form (plain_form-Read place)
    of_layer (Form-F.Write to op common value old) other = ap (λ f. is_literal_form (plain_form f)) (rolls-Write to op common value old) ∙ ap is_literal_form (plain_form-Write to op common value old)
    of_layer (Form-F.Convert value) other = ap (λ f. is_literal_form (plain_form f)) (rolls-Convert value) ∙ ap is_literal_form (plain_form-Convert value)
    of_layer (Form-F.Unary op value) other = ap (λ f. is_literal_form (plain_form f)) (rolls-Unary op value) ∙ ap is_literal_form (plain_form-Unary op value)
    of_layer (Form-F.Binary op left right) other = ap (λ f. is_literal_form (plain_form f)) (rolls-Binary op left right) ∙ ap is_literal_form (plain_form-Binary op left right)
    of_layer (Form-F.Choose cond yes' no') other = ap (λ f. is_literal_form (plain_form f)) (rolls-Choose cond yes' no') ∙ ap is_literal_form (plain_form-Choose cond yes' no')
    of_layer (Form-F.Build parts) other = ap (λ f. is_literal_form (plain_form f)) (rolls-Build parts) ∙ ap is_literal_form (plain_form-Build parts)
    of_layer (Form-F.Pick value parts) other = ap (λ f. is_literal_form (plain_form f)) (rolls-Pick value parts) ∙ ap is_literal_form (plain_form-Pick value parts)
    of_layer (Form-F.Call function args) other = ap (λ f. is_literal_form (plain_form f)) (rolls-Call function args) ∙ ap is_literal_form (plain_form-Call function args)
    of_layer (Form-F.Intrinsic number args) other = ap (λ f. is_literal_form (plain_form f)) (rolls-Intrinsic number args) ∙ ap is_literal_form (plain_form-Intrinsic number args)
    of_layer (Form-F.Method resource count address value) other = ap (λ f. is_literal_form (plain_form f)) (rolls-Method resource count address value) ∙ ap is_literal_form (plain_form-Method resource count address value)
    of_layer (Form-F.Atomic target kind compare value original) other = ap (λ f. is_literal_form (plain_form f)) (rolls-Atomic target kind compare value original) ∙ ap is_literal_form (plain_form-Atomic target kind compare value original)

pub form-no_pick : (o : Form) → ((value : Expr) (parts : List PathPart) → o ≡ forms.Pick value parts → ⊥) → is_pick_form (plain_form o) ≡ false
form-no_pick o = subst (λ o. ((value : Expr) (parts : List PathPart) → o ≡ forms.Pick value parts → ⊥) → is_pick_form (plain_form o) ≡ false) (roll-out-Form o) (of_layer (out-Form o))
  where
    of_layer : (x : Form-F Arg Form PathPart Root Target Expr Location) → ((value : Expr) (parts : List PathPart) → roll-Form x ≡ forms.Pick value parts → ⊥) → is_pick_form (plain_form (roll-Form x)) ≡ false
    of_layer (Form-F.Literal word) other = ap (λ f. is_pick_form (plain_form f)) (rolls-Literal word) ∙ ap is_pick_form (plain_form-Literal word)
    of_layer (Form-F.Read place) other = ap (λ f. is_pick_form (plain_form f)) (rolls-Read place) ∙ ap is_pick_form (plain_form-Read place)
    of_layer (Form-F.Write to op common value old) other = ap (λ f. is_pick_form (plain_form f)) (rolls-Write to op common value old) ∙ ap is_pick_form (plain_form-Write to op common value old)
    of_layer (Form-F.Convert value) other = ap (λ f. is_pick_form (plain_form f)) (rolls-Convert value) ∙ ap is_pick_form (plain_form-Convert value)
    of_layer (Form-F.Unary op value) other = ap (λ f. is_pick_form (plain_form f)) (rolls-Unary op value) ∙ ap is_pick_form (plain_form-Unary op value)
    of_layer (Form-F.Binary op left right) other = ap (λ f. is_pick_form (plain_form f)) (rolls-Binary op left right) ∙ ap is_pick_form (plain_form-Binary op left right)
    of_layer (Form-F.Choose cond yes' no') other = ap (λ f. is_pick_form (plain_form f)) (rolls-Choose cond yes' no') ∙ ap is_pick_form (plain_form-Choose cond yes' no')
    of_layer (Form-F.Build parts) other = ap (λ f. is_pick_form (plain_form f)) (rolls-Build parts) ∙ ap is_pick_form (plain_form-Build parts)
    of_layer (Form-F.Pick value parts) other = absurd (other value parts (rolls-Pick value parts))
    of_layer (Form-F.Call function args) other = ap (λ f. is_pick_form (plain_form f)) (rolls-Call function args) ∙ ap is_pick_form (plain_form-Call function args)
    of_layer (Form-F.Intrinsic number args) other = ap (λ f. is_pick_form (plain_form f)) (rolls-Intrinsic number args) ∙ ap is_pick_form (plain_form-Intrinsic number args)
    of_layer (Form-F.Method resource count address value) other = ap (λ f. is_pick_form (plain_form f)) (rolls-Method resource count address value) ∙ ap is_pick_form (plain_form-Method resource count address value)
    of_layer (Form-F.Atomic target kind compare value original) other = ap (λ f. is_pick_form (plain_form f)) (rolls-Atomic target kind compare value original) ∙ ap is_pick_form (plain_form-Atomic target kind compare value original)

-- what an index that is no literal picks
pub picked-other : (letters : List ℕ) (ty : Ty) (at : ℕ) (form : plain.Form) → is_literal_form form ≡ false → picked_as letters (an_expr ty at form) ≡ None
picked-other letters ty at (literal_form word) e = absurd (cc e)
picked-other letters ty at form e = refl

pub picked-none : (letters : List ℕ) (index : Expr) → ((word : ℕ) → index.form ≡ forms.Literal word → ⊥) → picked_as letters (plain_expr index) ≡ None
picked-none letters index other =
    ap (picked_as letters) (plain_expr-is index) ∙ picked-other letters (plain_ty index.ty) index.at (plain_form index.form) (form-no_literal index.form other)

pub picked-some : (letters : List ℕ) (index : Expr) (word : ℕ) → index.form ≡ forms.Literal word → picked_as letters (plain_expr index) ≡ Some (slice_index_or letters word 0 ∷ [])
picked-some letters index word e =
    ap (picked_as letters) (plain_expr-is index) ∙ ap (λ f. picked_as letters (an_expr (plain_ty index.ty) index.at f)) (ap plain_form e ∙ plain_form-Literal word)

-- ---- two steps

-- a step behind a short swizzle
pub joined-short : (letters : List ℕ) (part : plain.PathPart) → is_longer letters ≡ false → joined (swizzle_part letters) part ≡ joined_as (swizzle_part letters) part None
joined-short letters (member_part number) e = refl
joined-short letters (swizzle_part behind) e = rw e refl
joined-short letters (index_part (an_expr ty at (literal_form word))) e = rw e refl
joined-short letters (index_part (an_expr ty at form)) e = refl

-- a swizzle, an index and a member behind a longer one
pub joined-swizzle : (letters behind : List ℕ) → is_longer letters ≡ true → joined (swizzle_part letters) (swizzle_part behind) ≡ joined_as (swizzle_part letters) (swizzle_part behind) (Some (merged_letters letters behind))
joined-swizzle letters behind e = rw e refl

pub joined-index : (letters : List ℕ) (index : plain.Expr) → is_longer letters ≡ true → joined (swizzle_part letters) (index_part index) ≡ joined_as (swizzle_part letters) (index_part index) (picked_as letters index)
joined-index letters (an_expr ty at (literal_form word)) e = rw e refl
joined-index letters (an_expr ty at form) e = refl

-- what isn't a swizzle that is held
pub joined-other : (o : PathPart) (part : plain.PathPart) → ((letters : List ℕ) → o ≡ parts.Swizzle letters → ⊥) → joined (plain_part o) part ≡ joined_as (plain_part o) part None
joined-other o part = subst (λ o. ((letters : List ℕ) → o ≡ parts.Swizzle letters → ⊥) → joined (plain_part o) part ≡ joined_as (plain_part o) part None) (roll-out-PathPart o) (of_layer (out-PathPart o))
  where
    of_plain : (p q : plain.PathPart) → p ≡ q → joined q part ≡ joined_as q part None → joined p part ≡ joined_as p part None
    of_plain p q e h = subst (λ x. joined x part ≡ joined_as x part None) (sym e) h

    of_layer : (x : PathPart-F Arg Form PathPart Root Target Expr Location) → ((letters : List ℕ) → roll-PathPart x ≡ parts.Swizzle letters → ⊥) → joined (plain_part (roll-PathPart x)) part ≡ joined_as (plain_part (roll-PathPart x)) part None
    of_layer (PathPart-F.Member number) other = of_plain _ (member_part number) (ap plain_part (rolls-Member number) ∙ plain_part-Member number) refl
    of_layer (PathPart-F.Index index) other = of_plain _ (index_part (plain_expr index)) (ap plain_part (rolls-Index index) ∙ plain_part-Index index) refl
    of_layer (PathPart-F.Swizzle letters) other = absurd (other letters (rolls-Swizzle letters))

-- ---- several steps

abbrev parts_then : PathParts → PathParts → PathParts
parts_then no_parts more = more
parts_then (more_parts first rest) more = more_parts first (parts_then rest more)

parts-append : (front more : List PathPart) → plain_parts (front ++ more) ≡ parts_then (plain_parts front) (plain_parts more)
parts-append [] more = refl
parts-append (x ∷ front) more = ap (more_parts (plain_part x)) (parts-append front more)

and_part-behind : (front : List PathPart) (before : PathPart) (part : plain.PathPart) → and_part (plain_parts (front ++ before ∷ [])) part ≡ parts_then (plain_parts front) (joined (plain_part before) part)
and_part-behind [] before part = refl
and_part-behind (x ∷ []) before part = refl
and_part-behind (x ∷ (y ∷ front)) before part = ap (more_parts (plain_part x)) (and_part-behind (y ∷ front) before part)

-- two steps that are one swizzle
pub joined-one : (front all : List PathPart) (before part : PathPart) (letters : List ℕ) → all ≡ front ++ parts.Swizzle letters ∷ [] → joined (plain_part before) (plain_part part) ≡ joined_as (plain_part before) (plain_part part) (Some letters) → plain_parts all ≡ and_part (plain_parts (front ++ before ∷ [])) (plain_part part)
joined-one front all before part letters e h =
    ap plain_parts e ∙ (parts-append front (parts.Swizzle letters ∷ []) ∙
    (ap (λ p. parts_then (plain_parts front) (more_parts p no_parts)) (plain_part-Swizzle letters) ∙
    (ap (parts_then (plain_parts front)) (sym h) ∙ sym (and_part-behind front before (plain_part part)))))

-- two steps that stay two
pub joined-two : (front next all : List PathPart) (before part : PathPart) → next ≡ front ++ before ∷ [] → all ≡ next ++ part ∷ [] → joined (plain_part before) (plain_part part) ≡ joined_as (plain_part before) (plain_part part) None → plain_parts all ≡ and_part (plain_parts (front ++ before ∷ [])) (plain_part part)
joined-two front next all before part e h k =
    ap plain_parts (h ∙ ap (λ l. l ++ part ∷ []) e) ∙ (parts-append (front ++ before ∷ []) (part ∷ []) ∙
    (ap (λ p. parts_then p (more_parts (plain_part part) no_parts)) (parts-append front (before ∷ [])) ∙
    (then_then (plain_parts front) (plain_part before) (plain_part part) ∙
    (ap (parts_then (plain_parts front)) (sym k) ∙ sym (and_part-behind front before (plain_part part))))))
  where
    then_then : (ps : PathParts) (b p : plain.PathPart) → parts_then (parts_then ps (more_parts b no_parts)) (more_parts p no_parts) ≡ parts_then ps (more_parts b (more_parts p no_parts))
    then_then no_parts b p = refl
    then_then (more_parts first rest) b p = ap (more_parts first) (then_then rest b p)

-- ---- a step into a value

pub pick-other : (at : ℕ) (part : plain.PathPart) (ty from : Ty) (first : ℕ) (form : plain.Form) → is_pick_form form ≡ false → with_part at part ty (a_value_code (an_expr from first form)) ≡ a_value_code (an_expr ty at (pick_form (an_expr from first form) (more_parts part no_parts)))
pick-other at part ty from first (pick_form value parts) e = absurd (cc e)
pick-other at part ty from first form e = refl

-- ---- steps that are held

pub behind-swizzle : (letters behind merged : List ℕ) (part : PathPart) → part ≡ parts.Swizzle behind → is_longer letters ≡ true → merged ≡ merged_letters letters behind → joined (swizzle_part letters) (plain_part part) ≡ joined_as (swizzle_part letters) (plain_part part) (Some merged)
behind-swizzle letters behind merged part is long e =
    ap (joined (swizzle_part letters)) (ap plain_part is ∙ plain_part-Swizzle behind) ∙
    (joined-swizzle letters behind long ∙ ap (λ m. more_parts (swizzle_part m) no_parts) (sym e))

pub behind-index : (letters : List ℕ) (index shown : Expr) (part : PathPart) (picked : Option (List ℕ)) → part ≡ parts.Index index → shown ≡ index → is_longer letters ≡ true → picked ≡ picked_as letters (plain_expr shown) → joined (swizzle_part letters) (plain_part part) ≡ joined_as (swizzle_part letters) (plain_part part) picked
behind-index letters index shown part picked is same long e =
    let p : plain_part part ≡ index_part (plain_expr index) = ap plain_part is ∙ plain_part-Index index in
    subst (λ x. joined (swizzle_part letters) x ≡ joined_as (swizzle_part letters) x picked) (sym p)
    (joined-index letters (plain_expr index) long ∙
    ap (joined_as (swizzle_part letters) (index_part (plain_expr index))) (sym (e ∙ ap (λ x. picked_as letters (plain_expr x)) same)))

pub behind-member : (letters : List ℕ) (number : ℕ) (part : PathPart) → part ≡ parts.Member number → joined (swizzle_part letters) (plain_part part) ≡ joined_as (swizzle_part letters) (plain_part part) None
behind-member letters number part is =
    let p : plain_part part ≡ member_part number = ap plain_part is ∙ plain_part-Member number in
    subst (λ x. joined (swizzle_part letters) x ≡ joined_as (swizzle_part letters) x None) (sym p) refl

pub before-swizzle : (letters : List ℕ) (before : PathPart) (part : plain.PathPart) (merged : Option (List ℕ)) → before ≡ parts.Swizzle letters → joined (swizzle_part letters) part ≡ joined_as (swizzle_part letters) part merged → joined (plain_part before) part ≡ joined_as (plain_part before) part merged
before-swizzle letters before part merged is e =
    subst (λ x. joined x part ≡ joined_as x part merged) (sym (ap plain_part is ∙ plain_part-Swizzle letters)) e

-- the merged letters of two steps, where they are one
pub merged-at : (before part : PathPart) (merged at : Option (List ℕ)) → merged ≡ at → joined (plain_part before) (plain_part part) ≡ joined_as (plain_part before) (plain_part part) merged → joined (plain_part before) (plain_part part) ≡ joined_as (plain_part before) (plain_part part) at
merged-at before part merged at e h = h ∙ ap (joined_as (plain_part before) (plain_part part)) e

-- a step behind others into a value, and a first one
pub pick-again : (at : ℕ) (part : plain.PathPart) (ty : Ty) (whole value : Expr) (steps made : List PathPart) → whole.form ≡ forms.Pick value steps → plain_parts made ≡ and_part (plain_parts steps) part → a_value_code (an_expr ty at (plain_form (forms.Pick value made))) ≡ with_part at part ty (a_value_code (plain_expr whole))
pick-again at part ty whole value steps made is e =
    ap (λ f. a_value_code (an_expr ty at f)) (plain_form-Pick value made ∙ ap (pick_form (plain_expr value)) e) ∙
    sym (ap (λ x. with_part at part ty (a_value_code x)) (plain_expr-is whole ∙ ap (an_expr (plain_ty whole.ty) whole.at) (ap plain_form is ∙ plain_form-Pick value steps)))

pub pick-first : (at : ℕ) (part : plain.PathPart) (ty : Ty) (whole value : Expr) (made : List PathPart) → ((v : Expr) (steps : List PathPart) → whole.form ≡ forms.Pick v steps → ⊥) → plain_expr value ≡ an_expr (plain_ty whole.ty) whole.at (plain_form whole.form) → plain_parts made ≡ more_parts part no_parts → a_value_code (an_expr ty at (plain_form (forms.Pick value made))) ≡ with_part at part ty (a_value_code (plain_expr whole))
pick-first at part ty whole value made other is e =
    ap (λ f. a_value_code (an_expr ty at f)) (plain_form-Pick value made ∙ (ap (pick_form (plain_expr value)) e ∙ ap (λ v. pick_form v (more_parts part no_parts)) is)) ∙
    sym (ap (λ x. with_part at part ty (a_value_code x)) (plain_expr-is whole) ∙ pick-other at part ty (plain_ty whole.ty) whole.at (plain_form whole.form) (form-no_pick whole.form other))

-- a step into a place
pub place-stepped : (at first : ℕ) (part : plain.PathPart) (ty : Ty) (place shown stepped : Location) (made : List PathPart) → shown ≡ place → plain_location stepped ≡ a_location ty (plain_root shown.root) (plain_parts made) → plain_parts made ≡ and_part (plain_parts shown.parts) part → a_place_code at (plain_location stepped) ≡ with_part at part ty (a_place_code first (plain_location place))
place-stepped at first part ty place shown stepped made same is e =
    ap (a_place_code at) (is ∙ ap (a_location ty (plain_root shown.root)) e) ∙
    sym (ap (λ (p : Location). with_part at part ty (a_place_code first (plain_location p))) (sym same) ∙ ap (λ l. with_part at part ty (a_place_code first l)) (plain_location-is shown))

-- ---- literals

literal-test : (ty : Ty) (at : ℕ) (form : plain.Form) → is_literal (an_expr ty at form) ≡ is_literal_form form
literal-test ty at (literal_form word) = refl
literal-test ty at form = refl

pub literal-yes : (e : Expr) (word : ℕ) → e.form ≡ forms.Literal word → is_literal (plain_expr e) ≡ true
literal-yes e word is = ap is_literal (plain_expr-is e) ∙ ap (λ f. is_literal (an_expr (plain_ty e.ty) e.at f)) (ap plain_form is ∙ plain_form-Literal word)

pub literal-no : (e : Expr) → ((word : ℕ) → e.form ≡ forms.Literal word → ⊥) → is_literal (plain_expr e) ≡ false
literal-no e other = ap is_literal (plain_expr-is e) ∙ (literal-test (plain_ty e.ty) e.at (plain_form e.form) ∙ form-no_literal e.form other)
