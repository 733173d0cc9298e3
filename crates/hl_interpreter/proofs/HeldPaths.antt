-- Where steps that are held lead.
use Rattle.std.proofs.Common.{◌≡◌, ◌∙◌, refl, sym, ap, subst, ℕ, ◌+◌, ◌<◌, ◌≤◌, List, [], ◌∷◌, ◌++◌, add-zero, append-nil, append_assoc, drop, get_or, length, slice_index, slice_index_or, None, arith}
use Rattle.std.proofs.lemmas.List.{drop-drop, drop_all, get_or-drop}
use Rattle.hl_meaning.specs.declared.ty.HlType.{HlType}
use Rattle.hl_meaning.specs.declared.ty.HlType.TheVariants.{Array, Struct}
use Rattle.hl_meaning.specs.declared.expression.Arg.{Arg}
use Rattle.hl_meaning.specs.declared.expression.Form.{Form, Form-F, out-Form, roll-Form, roll-out-Form}
use Rattle.hl_meaning.specs.declared.expression.Form.TheVariants as forms
use Rattle.hl_meaning.specs.declared.expression.Location.{Location}
use Rattle.hl_meaning.specs.declared.expression.PathPart.{PathPart as HeldPart}
use Rattle.hl_meaning.specs.declared.expression.Root.{Root}
use Rattle.hl_meaning.specs.declared.expression.Target.{Target}
use Rattle.hl_meaning.specs.declared.expression.PathPart.TheVariants.{Index, Member, Swizzle}
use Rattle.hl_meaning.specs.declared.expression.Expr.{Expr}
use Rattle.hl_meaning.specs.Programs as plain
use Rattle.hl_meaning.specs.Trees as form
use Rattle.hl_meaning.specs.Trees.{PathPart, PathParts, an_expr, constant_root, element_root, shared_root, variable_root, index_part, member_part, more_parts, swizzle_part}
use Rattle.hl_meaning.specs.Types.{Ty, scalar_type}
use Rattle.hl_meaning.specs.Views.{plain_expr, plain_form, plain_part, plain_parts, plain_ty}
use Rattle.hl_meaning.proofs.Plain.{plain_expr-is, plain_form-Atomic, plain_form-Binary, plain_form-Build, plain_form-Call, plain_form-Choose, plain_form-Convert, plain_form-Intrinsic, plain_form-Method, plain_form-Pick, plain_form-Read, plain_form-Unary, plain_form-Write, plain_part-Index, plain_part-Member, plain_part-Swizzle, plain_ty-Array, plain_ty-Scalar, plain_ty-Struct, plain_ty-Vector, plain_ty-Void}
use Rattle.hl_meaning.proofs.TypeLemmas.{type_cases}
use Rattle.hl_source.specs.Offsets.{Holder, Place, Reached, element_of, further, holder_of, in_element, literal_indexes, literal_word, member_of, reached, step_to_element, step_to_letters, step_to_member}
use Rattle.hl_source.specs.State.{Context}
use Rattle.hl_source.specs.Operations.{component_kind}
use Rattle.hl_interpreter.specs.HeldPlaces.{index_count, literal_of}
use Rattle.hl_interpreter.proofs.Turns.{drop-next}

-- ---- types

-- what is no struct has no members
pub member_of-other : (structs : List plain.StructDef) (number : ℕ) (o : HlType) → ((n : ℕ) → o ≡ Struct n → ⊥) → member_of structs (plain_ty o) number ≡ None
member_of-other structs number = type_cases (λ o. ((n : ℕ) → o ≡ Struct n → ⊥) → member_of structs (plain_ty o) number ≡ None)
    (λ not. ap (λ t. member_of structs t number) plain_ty-Void)
    (λ k not. ap (λ t. member_of structs t number) (plain_ty-Scalar k))
    (λ k n not. ap (λ t. member_of structs t number) (plain_ty-Vector k n))
    (λ e n not. ap (λ t. member_of structs t number) (plain_ty-Array e n))
    (λ n not. absurd (not n refl))

-- what is no array has components
pub element_of-other : (o : HlType) → ((e : HlType) (n : ℕ) → o ≡ Array e n → ⊥) → element_of (plain_ty o) ≡ scalar_type (component_kind (plain_ty o))
element_of-other = type_cases (λ o. ((e : HlType) (n : ℕ) → o ≡ Array e n → ⊥) → element_of (plain_ty o) ≡ scalar_type (component_kind (plain_ty o)))
    (λ not. at_type plain_ty-Void refl)
    (λ k not. at_type (plain_ty-Scalar k) refl)
    (λ k n not. at_type (plain_ty-Vector k n) refl)
    (λ e n not. absurd (not e n refl))
    (λ n not. at_type (plain_ty-Struct n) refl)
  where
    at_type : {t u : Ty} → t ≡ u → element_of u ≡ scalar_type (component_kind u) → element_of t ≡ scalar_type (component_kind t)
    at_type is h = subst (λ x. element_of x ≡ scalar_type (component_kind x)) (sym is) h

-- ---- swizzles

pub swizzle-one : (from : Reached) (letters : List ℕ) → length letters ≡ 1 → step_to_letters from letters ≡ further from (scalar_type (component_kind from.ty)) (slice_index letters 0)
swizzle-one from [] one = absurd (omega arith)
swizzle-one from (letter ∷ []) one = refl
swizzle-one from (letter ∷ other ∷ letters) one = absurd (omega arith)

pub swizzle-other : (from : Reached) (letters : List ℕ) → (length letters ≡ 1 → ⊥) → step_to_letters from letters ≡ record from { letters = letters }
swizzle-other from [] other = refl
swizzle-other from (letter ∷ []) other = absurd (other refl)
swizzle-other from (letter ∷ next ∷ letters) other = refl

-- ---- one step

module _ (structs : List plain.StructDef) (from there : Reached) (part : HeldPart) (rest : PathParts) (indexes : List ℕ) where
  pub step-member : (number : ℕ) → part ≡ Member number → there ≡ step_to_member from (member_of structs from.ty number)
      → reached structs from (more_parts (plain_part part) rest) indexes ≡ reached structs there rest (drop (index_count (plain_part part)) indexes)
  step-member number is e =
      subst (λ p. reached structs from (more_parts p rest) indexes ≡ reached structs there rest (drop (index_count p) indexes)) (sym (ap plain_part is ∙ plain_part-Member number))
      (ap (λ r. reached structs r rest indexes) (sym e))

  pub step-index : (index : Expr) (word : ℕ) → part ≡ Index index → slice_index indexes 0 ≡ word → there ≡ step_to_element structs from word
      → reached structs from (more_parts (plain_part part) rest) indexes ≡ reached structs there rest (drop (index_count (plain_part part)) indexes)
  step-index index word is at e =
      subst (λ p. reached structs from (more_parts p rest) indexes ≡ reached structs there rest (drop (index_count p) indexes)) (sym (ap plain_part is ∙ plain_part-Index index))
      (ap (λ r. reached structs r rest (drop 1 indexes)) (ap (step_to_element structs from) at ∙ sym e))

  pub step-swizzle : (letters : List ℕ) → part ≡ Swizzle letters → there ≡ step_to_letters from letters
      → reached structs from (more_parts (plain_part part) rest) indexes ≡ reached structs there rest (drop (index_count (plain_part part)) indexes)
  step-swizzle letters is e =
      subst (λ p. reached structs from (more_parts p rest) indexes ≡ reached structs there rest (drop (index_count p) indexes)) (sym (ap plain_part is ∙ plain_part-Swizzle letters))
      (ap (λ r. reached structs r rest indexes) (sym e))

-- ---- steps one after another

module _ (structs : List plain.StructDef) (parts : List HeldPart) (indexes : List ℕ) (whole : Reached) where
  pub steps-turn : (from there : Reached) (i next : ℕ) (part : HeldPart) (word count : ℕ) → i < length parts → part ≡ get_or parts i part → word ≡ slice_index indexes next → count ≡ index_count (plain_part part)
      → ((rest : PathParts) (l : List ℕ) → slice_index l 0 ≡ word → reached structs from (more_parts (plain_part part) rest) l ≡ reached structs there rest (drop (index_count (plain_part part)) l))
      → reached structs from (plain_parts (drop i parts)) (drop next indexes) ≡ whole → reached structs there (plain_parts (drop (i + 1) parts)) (drop (next + count) indexes) ≡ whole
  steps-turn from there i next part word count within is at counted leads e =
      let rest = plain_parts (drop (i + 1) parts) in
      ap (λ l. reached structs there rest l) (ap (λ n. drop (next + n) indexes) counted ∙ sym (drop-drop (index_count (plain_part part)) next indexes)) ∙
      (sym (leads rest (drop next indexes) (get_or-drop next indexes 0 0 ∙ (ap (slice_index indexes) (add-zero next) ∙ sym at))) ∙
      (ap (λ l. reached structs from (plain_parts l) (drop next indexes)) (sym (drop-next parts i part within is)) ∙ e))

  pub steps-end : (from : Reached) (i next : ℕ) → length parts ≤ i → reached structs from (plain_parts (drop i parts)) (drop next indexes) ≡ whole → from ≡ whole
  steps-end from i next past e = ap (λ l. reached structs from (plain_parts l) (drop next indexes)) (sym (drop_all i parts past)) ∙ e

-- ---- indexes that are literals

literals-first : (part : PathPart) (rest : PathParts) → literal_indexes (more_parts part rest) ≡ literal_of part ++ literal_indexes rest
literals-first (member_part number) rest = refl
literals-first (index_part index) rest = refl
literals-first (swizzle_part letters) rest = refl

pub literals-turn : (parts : List HeldPart) (i : ℕ) (part : HeldPart) (acc more whole : List ℕ) → i < length parts → part ≡ get_or parts i part → more ≡ acc ++ literal_of (plain_part part)
    → acc ++ literal_indexes (plain_parts (drop i parts)) ≡ whole → more ++ literal_indexes (plain_parts (drop (i + 1) parts)) ≡ whole
literals-turn parts i part acc more whole within is added e =
    let rest = plain_parts (drop (i + 1) parts) in
    ap (λ l. l ++ literal_indexes rest) added ∙ (append_assoc acc (literal_of (plain_part part)) (literal_indexes rest) ∙
    (ap (λ l. acc ++ l) (sym (ap (λ l. literal_indexes (plain_parts l)) (drop-next parts i part within is) ∙ literals-first (plain_part part) rest)) ∙ e))

pub literals-end : (parts : List HeldPart) (i : ℕ) (acc whole : List ℕ) → length parts ≤ i → acc ++ literal_indexes (plain_parts (drop i parts)) ≡ whole → acc ≡ whole
literals-end parts i acc whole past e = sym (append-nil acc) ∙ (ap (λ l. acc ++ literal_indexes (plain_parts l)) (sym (drop_all i parts past)) ∙ e)

-- what is no literal counts as 0
pub literal_word-other : (e : Expr) → ((word : ℕ) → e.form ≡ forms.Literal word → ⊥) → literal_word (plain_expr e) ≡ 0
literal_word-other e not = ap literal_word (plain_expr-is e) ∙ subst P (roll-out-Form e.form) (of_layer (out-Form e.form)) not
  where
    form_word : form.Form → ℕ
    form_word f = literal_word (an_expr (plain_ty e.ty) e.at f)

    P : Form → Type 0
    P f = ((word : ℕ) → f ≡ forms.Literal word → ⊥) → form_word (plain_form f) ≡ 0

    of_layer : (x : Form-F Arg Form HeldPart Root Target Expr Location) → P (roll-Form x)
    of_layer (Form-F.Literal word) = subst P (sym (forms.rolls-Literal word)) (λ other. absurd (other word refl))
    of_layer (Form-F.Read place) = subst P (sym (forms.rolls-Read place)) (λ other. ap form_word (plain_form-Read place))
    of_layer (Form-F.Write to op common value old) = subst P (sym (forms.rolls-Write to op common value old)) (λ other. ap form_word (plain_form-Write to op common value old))
    of_layer (Form-F.Convert value) = subst P (sym (forms.rolls-Convert value)) (λ other. ap form_word (plain_form-Convert value))
    of_layer (Form-F.Unary op value) = subst P (sym (forms.rolls-Unary op value)) (λ other. ap form_word (plain_form-Unary op value))
    of_layer (Form-F.Binary op left right) = subst P (sym (forms.rolls-Binary op left right)) (λ other. ap form_word (plain_form-Binary op left right))
    of_layer (Form-F.Choose cond consequent alternative) = subst P (sym (forms.rolls-Choose cond consequent alternative)) (λ other. ap form_word (plain_form-Choose cond consequent alternative))
    of_layer (Form-F.Build parts) = subst P (sym (forms.rolls-Build parts)) (λ other. ap form_word (plain_form-Build parts))
    of_layer (Form-F.Pick value parts) = subst P (sym (forms.rolls-Pick value parts)) (λ other. ap form_word (plain_form-Pick value parts))
    of_layer (Form-F.Call function args) = subst P (sym (forms.rolls-Call function args)) (λ other. ap form_word (plain_form-Call function args))
    of_layer (Form-F.Intrinsic number args) = subst P (sym (forms.rolls-Intrinsic number args)) (λ other. ap form_word (plain_form-Intrinsic number args))
    of_layer (Form-F.Method resource count address value) = subst P (sym (forms.rolls-Method resource count address value)) (λ other. ap form_word (plain_form-Method resource count address value))
    of_layer (Form-F.Atomic target kind compare value original) = subst P (sym (forms.rolls-Atomic target kind compare value original)) (λ other. ap form_word (plain_form-Atomic target kind compare value original))

-- ---- places

abbrev pub a_place : Holder → Reached → Place
a_place holder at = record { holder = holder; reached = at }

pub holder-same : (c d : Context) (indexes : List ℕ) (root : form.Root) → c.slots ≡ d.slots → holder_of c root indexes ≡ holder_of d root indexes
holder-same c d indexes (variable_root number) same = refl
holder-same c d indexes (constant_root number) same = refl
holder-same c d indexes (shared_root number) same = refl
holder-same c d indexes (element_root resource index) same = ap (λ l. in_element (slice_index_or l resource (record { class = 0; space = 0; register = 0 })) (slice_index indexes 0)) same

pub place-parts : (h k : Holder) (r t : Reached) → h ≡ k → r ≡ t → a_place h r ≡ a_place k t
place-parts h k r t e f = ap (λ x. a_place x r) e ∙ ap (a_place k) f
