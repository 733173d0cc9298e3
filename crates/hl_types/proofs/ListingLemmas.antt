-- The kinds of a type, step by step.
use Rattle.std.proofs.Common.{◌≡◌, ◌∙◌, refl, sym, ap, ℕ, zero, suc, ◌+◌, ◌<◌, ◌≤◌, true, List, [], ◌∷◌, ◌++◌, Option, None, Some, append_assoc, append-nil, drop, length, option_map, replicate, slice_get, suc-add, unwrap_or, arith}
use Rattle.std.proofs.lemmas.List.{drop_at}
use Rattle.std.proofs.lemmas.Option.{slice_get-get_or}
use Rattle.hl_meaning.specs.declared.ty.HlType.{HlType}
use Rattle.hl_meaning.specs.declared.ty.Kind.{Kind}
use Rattle.hl_meaning.specs.Layout.{kinds_in, repeated}
use Rattle.hl_meaning.specs.Types.{Ty, array_type, struct_type, void_type}
use Rattle.hl_rules.specs.Scopes.{type_words}
use Rattle.hl_types.specs.declared.kinds.Step.{Step}
use Rattle.hl_types.specs.declared.kinds.Step.TheVariants as forms
use Rattle.hl_types.specs.Kinds.{has_count, kinds_front, member_types, members_at, struct_kinds, types_kinds}
use Rattle.hl_types.specs.Listing.{finished, listed, step_weight, steps_weight, type_weight, types_weight, weights_front}
use Rattle.hl_types.proofs.InnermostLemmas.{inner-kinds, inner-weight}
use Rattle.hl_types.proofs.KindLemmas.{each-at, each-past, no-kinds, repeated-next, types-at}
use Rattle.hl_values.specs.Innermost.{innermosts}
use Rattle.hl_values.specs.StructTables.{Member, Members, plain_structs}
use Rattle.hl_values.specs.Views.{plain_type_if}
use Rattle.hl_values.proofs.StructLemmas.{length-innermosts}

-- ---- one more step

pub finished-push : (structs : List Members) (steps : List Step) (step : Step) (kinds : List Kind) → finished structs (steps ++ step ∷ []) kinds ≡ finished structs steps (listed structs step kinds)
finished-push structs [] step kinds = refl
finished-push structs (s ∷ steps) step kinds = ap (listed structs s) (finished-push structs steps step kinds)

pub weight-push : (structs : List Members) (steps : List Step) (step : Step) → steps_weight structs (steps ++ step ∷ []) ≡ steps_weight structs steps + step_weight structs step
weight-push structs [] step = omega arith
weight-push structs (s ∷ steps) step = more _ _ _ _ (weight-push structs steps step)
  where
    more : (a b c d : ℕ) → b ≡ c + d → a + b ≡ (a + c) + d
    more a b c d h = omega (arith, h)

-- nothing is added
pub finished-same : (structs : List Members) (steps : List Step) (kinds more : List Kind) → more ≡ [] → finished structs steps kinds ≡ finished structs steps (kinds ++ more)
finished-same structs steps kinds more e = ap (finished structs steps) (sym (append-nil kinds) ∙ ap (λ l. kinds ++ l) (sym e))

pub weight-is : (a b : ℕ) → a ≡ b → a ≤ b
weight-is a b e = omega (arith, e)

pub weight-whole : (next held own whole : ℕ) → next ≤ held + own → whole ≡ own → next ≤ held + whole
weight-whole next held own whole h e = omega (arith, h, e)

pub weight-array : (next mid held own whole : ℕ) → next ≤ mid + own → mid ≤ held + 1 → whole ≡ 1 + own → next ≤ held + whole
weight-array next mid held own whole h l e = omega (arith, h, l, e)

pub weight-popped : (next popped step old : ℕ) → next < popped + step → old ≡ popped + step → next < old
weight-popped next popped step old h e = omega (arith, h, e)

-- ---- kinds so many times

pub replicate-next : (count : ℕ) (kind : Kind) → replicate count kind ++ kind ∷ [] ≡ replicate (count + 1) kind
replicate-next zero kind = refl
replicate-next (suc count) kind = ap (λ l. kind ∷ l) (replicate-next count kind) ∙ ap (λ k. replicate k kind) (sym (suc-add count 1))

pub added-next : (before held next : List Kind) (count : ℕ) (kind : Kind) → held ≡ before ++ replicate count kind → next ≡ held ++ kind ∷ [] → next ≡ before ++ replicate (count + 1) kind
added-next before held next count kind e pushed =
    pushed ∙ (ap (λ l. l ++ kind ∷ []) e ∙ (append_assoc before (replicate count kind) (kind ∷ []) ∙ ap (λ l. before ++ l) (replicate-next count kind)))

pub repeat-next : (before held next part : List Kind) (count : ℕ) → held ≡ before ++ repeated count part → next ≡ held ++ part → next ≡ before ++ repeated (count + 1) part
repeat-next before held next part count e pushed =
    pushed ∙ (ap (λ l. l ++ part) e ∙ (append_assoc before (repeated count part) part ∙ ap (λ l. before ++ l) (repeated-next count part)))

-- ---- arrays

pub array-none : (count : ℕ) (kinds : List (List Kind)) (ty element : Ty) → count ≡ 0 → ty ≡ array_type element count → kinds_in kinds ty ≡ []
array-none count kinds ty element none is = ap (kinds_in kinds) is ∙ ap (λ n. repeated n (kinds_in kinds element)) none

pub array-more : (structs : List Members) (steps : List Step) (kinds more : List Kind) (start count rest : ℕ) → count ≡ suc rest → length kinds ≡ start
    → finished structs (steps ++ forms.Repeat start rest ∷ []) (kinds ++ more) ≡ finished structs steps (kinds ++ repeated count more)
array-more structs steps kinds more start count rest e at =
    finished-push structs steps (forms.Repeat start rest) (kinds ++ more) ∙
    ap (finished structs steps)
    (ap (λ l. (kinds ++ more) ++ repeated rest l) (drop_at kinds more start at) ∙
    (append_assoc kinds more (repeated rest more) ∙ ap (λ n. kinds ++ repeated n more) (sym e)))

-- ---- structs

struct-at : (structs : List Members) (bound number : ℕ) → number < bound → bound ≤ length structs → kinds_in (kinds_front structs bound) (struct_type number) ≡ struct_kinds structs number
struct-at structs bound number below within = ap (λ o. unwrap_or o []) (each-at types_kinds structs number bound below within)

pub struct-past : (structs : List Members) (bound number : ℕ) → bound ≤ number → bound ≤ length structs → kinds_in (kinds_front structs bound) (struct_type number) ≡ []
struct-past structs bound number past within = ap (λ o. unwrap_or o []) (each-past types_kinds structs number bound past within)

pub struct-empty : (structs : List Members) (bound number : ℕ) → number < bound → bound ≤ length structs → has_count 0 (type_words (plain_structs structs) (struct_type number)) ≡ true
    → kinds_in (kinds_front structs bound) (struct_type number) ≡ []
struct-empty structs bound number below within empty = struct-at structs bound number below within ∙ no-kinds structs number (omega arith) empty

pub struct-inner : (structs : List Members) (bound number inner : ℕ) (steps : List Step) (kinds : List Kind) → number < bound → bound ≤ length structs → Some inner ≡ slice_get (innermosts structs) number
    → finished structs (steps ++ forms.Members inner 0 ∷ []) kinds ≡ finished structs steps (kinds ++ kinds_in (kinds_front structs bound) (struct_type number))
struct-inner structs bound number inner steps kinds below within is =
    finished-push structs steps (forms.Members inner 0) kinds ∙
    ap (λ l. finished structs steps (kinds ++ l)) (inner-kinds structs number inner (omega arith) is ∙ sym (struct-at structs bound number below within))

pub weight-inner : (structs : List Members) (bound number inner : ℕ) (steps : List Step) → number < bound → bound ≤ length structs → Some inner ≡ slice_get (innermosts structs) number
    → steps_weight structs (steps ++ forms.Members inner 0 ∷ []) ≤ steps_weight structs steps + type_weight (weights_front structs bound) (struct_type number)
weight-inner structs bound number inner steps below within is =
    by _ _ _ _ _ (weight-push structs steps (forms.Members inner 0)) (inner-weight structs number inner (omega arith) is) (ap (λ o. unwrap_or o 0) (each-at types_weight structs number bound below within))
  where
    by : (all held own whole weight : ℕ) → all ≡ held + own → own ≤ whole → weight ≡ whole → all ≤ held + weight
    by all held own whole weight e h f = omega (arith, e, h, f)

pub no-inner : (structs : List Members) (bound number : ℕ) → number < bound → bound ≤ length structs → None ≡ slice_get (innermosts structs) number → ⊥
no-inner structs bound number below within none =
    let there = slice_get-get_or (innermosts structs) number 0 (omega (arith, below, within, length-innermosts structs)) in apart _ (none ∙ there)
  where
    apart : (n : ℕ) → None ≡ Some n → ⊥
    apart n h = absurd (cc h)

-- ---- the members of a struct

members-are : (structs : List Members) (number : ℕ) (members : List Member) → Some members ≡ option_map (λ d. d.1) (slice_get structs number) → members_at structs number ≡ members
members-are structs number members e = sym (ap (λ o. unwrap_or o []) e)

types-here : (structs : List Members) (number at : ℕ) (members : List Member) (ty : Option HlType) → Some members ≡ option_map (λ d. d.1) (slice_get structs number)
    → Some ty ≡ option_map (λ m. m.1) (slice_get members at)
    → member_types (drop at (members_at structs number)) ≡ unwrap_or (plain_type_if ty) void_type ∷ member_types (drop (at + 1) (members_at structs number))
types-here structs number at members ty e is =
    let are = members-are structs number members e in
    ap (λ l. member_types (drop at l)) are ∙ (types-at members at ty is ∙ ap (λ l. unwrap_or (plain_type_if ty) void_type ∷ member_types (drop (at + 1) l)) (sym are))

pub step-next : (structs : List Members) (steps next : List Step) (kinds held : List Kind) (number at : ℕ) (members : List Member) (ty : Option HlType)
    → Some members ≡ option_map (λ d. d.1) (slice_get structs number) → Some ty ≡ option_map (λ m. m.1) (slice_get members at)
    → finished structs next held ≡ finished structs (steps ++ forms.Members number (at + 1) ∷ []) (kinds ++ kinds_in (kinds_front structs number) (unwrap_or (plain_type_if ty) void_type))
    → finished structs next held ≡ finished structs steps (listed structs (forms.Members number at) kinds)
step-next structs steps next kinds held number at members ty e is begun =
    let front = kinds_front structs number in
    let own = kinds_in front (unwrap_or (plain_type_if ty) void_type) in
    let rest = types_kinds front (member_types (drop (at + 1) (members_at structs number))) in
    begun ∙ (finished-push structs steps (forms.Members number (at + 1)) (kinds ++ own) ∙
    ap (finished structs steps) (append_assoc kinds own rest ∙ ap (λ l. kinds ++ types_kinds front l) (sym (types-here structs number at members ty e is))))

pub weight-next : (structs : List Members) (steps : List Step) (weight number at : ℕ) (members : List Member) (ty : Option HlType)
    → Some members ≡ option_map (λ d. d.1) (slice_get structs number) → Some ty ≡ option_map (λ m. m.1) (slice_get members at)
    → weight ≤ steps_weight structs (steps ++ forms.Members number (at + 1) ∷ []) + type_weight (weights_front structs number) (unwrap_or (plain_type_if ty) void_type)
    → weight < steps_weight structs steps + step_weight structs (forms.Members number at)
weight-next structs steps weight number at members ty e is begun =
    by _ _ _ _ _ (weight-push structs steps (forms.Members number (at + 1))) (ap (types_weight (weights_front structs number)) (types-here structs number at members ty e is)) begun
  where
    by : (all held rest whole own : ℕ) → all ≡ held + rest → whole ≡ 1 + (own + rest) → weight ≤ all + own → weight < held + whole
    by all held rest whole own h f l = omega (arith, h, f, l)

pub value-within : (members : List Member) (at : ℕ) → at < length members → None ≡ option_map (λ m. m.1) (slice_get members at) → ⊥
value-within members at within none = apart _ (none ∙ ap (option_map (λ (m : Member). m.1)) (slice_get-get_or members at ([], None) within))
  where
    apart : (ty : Option HlType) → None ≡ Some ty → ⊥
    apart ty h = absurd (cc h)
