-- Variables and statements that are added one after another.
use Rattle.std.proofs.Common.{◌≡◌, ◌∙◌, refl, ap, sym, ℕ, ◌+◌, ◌<◌, ◌≤◌, List, [], ◌∷◌, ◌++◌, Option, None, Some, add-one, append-nil, append_assoc, ◌⊎◌, inl, inr, arith, drop, get_or, length, map, min, take}
use Rattle.std.proofs.lemmas.Bool.{cases_lt}
use Rattle.std.proofs.lemmas.List.{drop_all, drop_more, map-append, take_all}
use Rattle.hl_meaning.specs.declared.program.Constant.{Constant as HeldConstant}
use Rattle.hl_meaning.specs.declared.program.Parameter.{Parameter}
use Rattle.hl_meaning.specs.declared.program.Semantic.{Semantic}
use Rattle.hl_meaning.specs.declared.program.Variable as held
use Rattle.hl_meaning.specs.declared.ty.Kind.{Kind}
use Rattle.hl_meaning.specs.Layout.{kinds_in, kinds_of, struct_kinds_after}
use Rattle.hl_meaning.specs.Programs.{StructDef, Variable}
use Rattle.hl_meaning.specs.Trees.{an_expr, literal_form}
use Rattle.hl_meaning.specs.Types.{Ty, scalar_type}
use Rattle.hl_meaning.specs.Views.{plain_constant, plain_variable}
use Rattle.hl_inline.specs.declared.fresh.Fresh.{Fresh}
use Rattle.hl_inline.specs.Building.{plain_fresh}
use Rattle.hl_inline.specs.FlatTrees.{FlatStmt, flat_input, flat_local}
use Rattle.hl_inline.specs.Fresh.{Fresh as PlainFresh, nameless, with_variables}
use Rattle.hl_inline.specs.InlinedPrograms.{constant_value, literals, set_constants, set_inputs}
use Rattle.hl_inline.proofs.Gathering.{drop-next, take-next}

-- variables

pub fresh-as : (fresh : Fresh) (variables : List Variable) (names : ℕ) → map plain_variable fresh.variables ≡ variables → fresh.names ≡ names
    → plain_fresh fresh ≡ record { variables = variables; names = names }
fresh-as fresh variables names a b =
    ap (λ (v : List Variable). record { variables = v; names = fresh.names }) a ∙ ap (λ (n : ℕ). record { variables = variables; names = n }) b

-- one more variable
pub fresh-more : (now end : Fresh) (variable : held.Variable) (v : Variable) → end.variables ≡ now.variables ++ variable ∷ [] → end.names ≡ now.names → plain_variable variable ≡ v
    → plain_fresh end ≡ with_variables (v ∷ []) (plain_fresh now)
fresh-more now end variable v grown names is =
    fresh-as end (map plain_variable now.variables ++ v ∷ []) now.names
    (ap (map plain_variable) grown ∙ (map-append plain_variable now.variables (variable ∷ []) ∙ ap (λ w. map plain_variable now.variables ++ w ∷ []) is)) names

-- variables one behind the other
pub variables-then : (first second : List Variable) (fresh : PlainFresh) → with_variables second (with_variables first fresh) ≡ with_variables (first ++ second) fresh
variables-then first second fresh = ap (λ (v : List Variable). record { variables = v; names = fresh.names }) (append_assoc fresh.variables first second)

-- one more without its name
pub nameless-next : (start now end : Fresh) (xs : List held.Variable) (i : ℕ) (x : held.Variable) → i < length xs → x ≡ get_or xs i x
    → plain_fresh now ≡ with_variables (map nameless (map plain_variable (take i xs))) (plain_fresh start)
    → plain_fresh end ≡ with_variables (nameless (plain_variable x) ∷ []) (plain_fresh now) → plain_fresh end ≡ with_variables (map nameless (map plain_variable (take (i + 1) xs))) (plain_fresh start)
nameless-next start now end xs i x within is e grown =
    grown ∙ (ap (with_variables (nameless (plain_variable x) ∷ [])) e ∙
    (variables-then (map nameless (map plain_variable (take i xs))) (nameless (plain_variable x) ∷ []) (plain_fresh start) ∙
    ap (λ l. with_variables l (plain_fresh start)) (sym (ap (map nameless) (take-next plain_variable xs i x within is) ∙ map-append nameless (map plain_variable (take i xs)) (plain_variable x ∷ [])))))

pub none-yet : (fresh : Fresh) → plain_fresh fresh ≡ with_variables [] (plain_fresh fresh)
none-yet fresh = ap (λ (v : List Variable). record { variables = v; names = fresh.names }) (sym (append-nil (map plain_variable fresh.variables)))

pub nameless-end : (start now : Fresh) (xs : List held.Variable) (i : ℕ) → length xs ≤ i → plain_fresh now ≡ with_variables (map nameless (map plain_variable (take i xs))) (plain_fresh start)
    → plain_fresh now ≡ with_variables (map nameless (map plain_variable xs)) (plain_fresh start)
nameless-end start now xs i past e = e ∙ ap (λ l. with_variables (map nameless (map plain_variable l)) (plain_fresh start)) (take_all i xs past)

-- statements that a list gives, one after another

module _ {A B : Type 0} (f : List A → List B) (xs : List A) where
  pub given-next : (i : ℕ) (x : A) (own now end whole : List B) → i < length xs → x ≡ get_or xs i x → f (x ∷ drop (i + 1) xs) ≡ own ++ f (drop (i + 1) xs)
      → end ≡ now ++ own → now ++ f (drop i xs) ≡ whole → end ++ f (drop (i + 1) xs) ≡ whole
  given-next i x own now end whole within is parts grown e =
      ap (λ l. l ++ f (drop (i + 1) xs)) grown ∙ (append_assoc now own (f (drop (i + 1) xs)) ∙
      (ap (λ l. now ++ l) (sym parts) ∙ (ap (λ l. now ++ f l) (sym (drop-next xs i x within is)) ∙ e)))

  pub given-end : (i : ℕ) (now whole : List B) → length xs ≤ i → f [] ≡ [] → now ++ f (drop i xs) ≡ whole → now ≡ whole
  given-end i now whole past none e = sym (append-nil now) ∙ (ap (λ l. now ++ l) (sym (ap f (drop_all i xs past) ∙ none)) ∙ e)

-- inputs

pub inputs-first : (first : ℕ) (p : Parameter) (parameters : List Parameter) → set_inputs first (p ∷ parameters) ≡ set_inputs first (p ∷ []) ++ set_inputs first parameters
inputs-first first p parameters = by_semantic p.semantic refl
  where
    by_semantic : (s : Option Semantic) → p.semantic ≡ s → set_inputs first (p ∷ parameters) ≡ set_inputs first (p ∷ []) ++ set_inputs first parameters
    by_semantic None is = rw is refl
    by_semantic (Some semantic) is = rw is refl

pub inputs-some : (first : ℕ) (p : Parameter) (semantic : Semantic) → p.semantic ≡ Some semantic → set_inputs first (p ∷ []) ≡ flat_input (first + p.variable) semantic ∷ []
inputs-some first p semantic is = rw is refl

pub inputs-none : (first : ℕ) (p : Parameter) → p.semantic ≡ None → set_inputs first (p ∷ []) ≡ []
inputs-none first p is = rw is refl

-- constants

pub constants-next : (structs : List StructDef) (xs : List HeldConstant) (i : ℕ) (x : HeldConstant) (now end whole : List FlatStmt) → i < length xs → x ≡ get_or xs i x
    → end ≡ now ++ flat_local i (Some (constant_value structs (plain_constant x))) ∷ []
    → now ++ set_constants structs i (map plain_constant (drop i xs)) ≡ whole → end ++ set_constants structs (i + 1) (map plain_constant (drop (i + 1) xs)) ≡ whole
constants-next structs xs i x now end whole within is grown e =
    let rest = map plain_constant (drop (i + 1) xs) in
    let own = flat_local i (Some (constant_value structs (plain_constant x))) in
    ap (λ l. l ++ set_constants structs (i + 1) rest) grown ∙ (append_assoc now (own ∷ []) (set_constants structs (i + 1) rest) ∙
    (ap (λ n. now ++ own ∷ set_constants structs n rest) (add-one i) ∙
    (ap (λ l. now ++ set_constants structs i (map plain_constant l)) (sym (drop-next xs i x within is)) ∙ e)))

pub constants-end : (structs : List StructDef) (xs : List HeldConstant) (i : ℕ) (now whole : List FlatStmt) → length xs ≤ i
    → now ++ set_constants structs i (map plain_constant (drop i xs)) ≡ whole → now ≡ whole
constants-end structs xs i now whole past e =
    sym (append-nil now) ∙ (ap (λ l. now ++ set_constants structs i (map plain_constant l)) (sym (drop_all i xs past)) ∙ e)

-- the kinds of the words of a type, where those of each struct are known
pub kinds-known : (known : List (List Kind)) (structs : List StructDef) (ty : Ty) → known ≡ struct_kinds_after [] structs → kinds_in known ty ≡ kinds_of structs ty
unfolding kinds_of
kinds-known known structs ty same = ap (λ k. kinds_in k ty) same

-- literals

pub literals-next : (at : ℕ) (kinds : List Kind) (words : List ℕ) (i : ℕ) (kind : Kind) (word : ℕ) → i < length kinds → i < length words
    → literals at (drop i kinds) (drop i words) ≡ an_expr (scalar_type (get_or kinds i kind)) at (literal_form (get_or words i word)) ∷ literals at (drop (i + 1) kinds) (drop (i + 1) words)
literals-next at kinds words i kind word a b =
    ap (λ l. literals at l (drop i words)) (drop_more kinds i kind a) ∙ ap (λ l. literals at (get_or kinds i kind ∷ drop (i + 1) kinds) l) (drop_more words i word b)

literals-none : (at : ℕ) (kinds : List Kind) → literals at kinds [] ≡ []
literals-none at [] = refl
literals-none at (kind ∷ kinds) = refl

literals-no_kind : (at : ℕ) (kinds : List Kind) (words : List ℕ) (i : ℕ) → length kinds ≤ i → literals at (drop i kinds) (drop i words) ≡ []
literals-no_kind at kinds words i past = ap (λ l. literals at l (drop i words)) (drop_all i kinds past)

literals-no_word : (at : ℕ) (kinds : List Kind) (words : List ℕ) (i : ℕ) → length words ≤ i → literals at (drop i kinds) (drop i words) ≡ []
literals-no_word at kinds words i past = ap (literals at (drop i kinds)) (drop_all i words past) ∙ literals-none at (drop i kinds)

pub literals-over : (at : ℕ) (kinds : List Kind) (words : List ℕ) (i : ℕ) → min (length kinds) (length words) ≤ i → literals at (drop i kinds) (drop i words) ≡ []
literals-over at kinds words i past = by_place (cases_lt i (length kinds))
  where
    by_place : (i < length kinds) ⊎ (length kinds ≤ i) → literals at (drop i kinds) (drop i words) ≡ []
    by_place (inl within) = literals-no_word at kinds words i (omega (arith, past, within))
    by_place (inr over) = literals-no_kind at kinds words i over
