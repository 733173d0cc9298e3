-- What a lane hands to its entry has the words of the parameters' types, and so have constants.
use Rattle.std.proofs.Common.{◌≡◌, ◌∙◌, refl, sym, ap, subst, ℕ, suc, ◌≤◌, List, [], ◌∷◌, map, length, Option, None, Some, unwrap_or, arith}
use Rattle.std.specs.Prelude.{IsTrue, option_map, take}
use Rattle.std.proofs.lemmas.List.{length-take-le}
use Rattle.lane_core.specs.Inputs.{coordinates_of}
use Rattle.lane_core.specs.Lane.{Coordinates, Lane}
use Rattle.lane_core.specs.Words.{wrapped}
use Rattle.hl_meaning.specs.declared.ty.Kind.{Kind}
use Rattle.hl_meaning.specs.declared.program.Parameter.{Parameter}
use Rattle.hl_meaning.specs.declared.program.Semantic.{Semantic}
use Rattle.hl_meaning.specs.declared.program.Semantic.TheVariants.{DispatchThreadId, GroupId, GroupIndex, GroupThreadId}
use Rattle.hl_meaning.specs.Types.{Ty, array_type, component_count, is_numeric, is_scalar, scalar_type, struct_type, vector_type, void_type}
use Rattle.hl_meaning.specs.Places.{variable_type}
use Rattle.hl_meaning.specs.Programs.{Program, StructDef, Variable}
use Rattle.hl_meaning.specs.Layout.{words_of}
use Rattle.hl_meaning.specs.WellFormed.{HasSemantic, HasSemanticIf, HoldWords, IsInput, IsWord, param_of}
use Rattle.hl_meaning.proofs.LayoutLemmas.{words-scalar, words-vector}
use Rattle.hl_source.specs.SourceLane.{input_words, semantic_components}
use Rattle.typed_laws.specs.Fitting.{Fits}
use Rattle.typed_laws.specs.Laws.{FitParams}
use Rattle.typed_laws.proofs.Induction.{Every}
use Rattle.typed_laws.proofs.Typed.{and_right, never}
use Rattle.typed_laws.proofs.ValueFits.{numbers_fit}

pub hold_length : (kinds : List Kind) (words : List ℕ) → HoldWords kinds words → length words ≡ length kinds
hold_length [] [] h = refl
hold_length [] (word ∷ words) h = absurd h
hold_length (kind ∷ kinds) [] h = absurd h
hold_length (kind ∷ kinds) (word ∷ words) h = ap suc (hold_length kinds words h.1)

-- a parameter has a semantic, and its variable a type that suits it
pub record Input (variables : List Variable) (p : Parameter) : Type 0 where
  pub semantic : Semantic
  pub ty : Ty
  pub is_semantic : p.semantic ≡ Some semantic
  pub is_typed : variable_type variables p.variable ≡ Some ty
  pub suits : HasSemantic semantic ty

pub input_of : (variables : List Variable) (p : Parameter) → IsInput variables p → Input variables p
input_of variables p is = by_cases p.semantic refl (variable_type variables p.variable) refl is.semantic
  where
    by_cases : (o : Option Semantic) → p.semantic ≡ o → (t : Option Ty) → variable_type variables p.variable ≡ t → HasSemanticIf o t → Input variables p
    by_cases None e t e' h = absurd h
    by_cases (Some semantic) e None e' h = absurd h
    by_cases (Some semantic) e (Some ty) e' h = record { semantic = semantic; ty = ty; is_semantic = e; is_typed = e'; suits = h }

-- so many components are there
pub three_length : (ty : Ty) (ws : List ℕ) → component_count ty ≤ 3 → length ws ≡ 3 → length (take (component_count ty) ws) ≡ component_count ty
three_length ty ws low three = length-take-le (component_count ty) ws (omega (arith, low, three))

pub one_length : (ty : Ty) (w : ℕ) → IsWord ty → length (take (component_count ty) (w ∷ [])) ≡ component_count ty
one_length void_type w h = never h
one_length (scalar_type kind) w h = refl
one_length (vector_type kind size) w h = never h
one_length (array_type element count) w h = never h
one_length (struct_type number) w h = never h

pub components_length : (threads : Coordinates) (lane : Lane) (semantic : Semantic) (ty : Ty) → HasSemantic semantic ty → length (take (component_count ty) (map wrapped (semantic_components threads lane (Some semantic)))) ≡ component_count ty
components_length threads lane DispatchThreadId ty h = three_length ty (map wrapped (semantic_components threads lane (Some DispatchThreadId))) h.1 refl
components_length threads lane GroupId ty h = three_length ty (map wrapped (semantic_components threads lane (Some GroupId))) h.1 refl
components_length threads lane GroupThreadId ty h = three_length ty (map wrapped (semantic_components threads lane (Some GroupThreadId))) h.1 refl
components_length threads lane GroupIndex ty h = one_length ty _ h

pub numeric_words : (structs : List StructDef) (ty : Ty) → IsTrue (is_numeric ty) → component_count ty ≡ words_of structs ty
numeric_words structs void_type h = never h
numeric_words structs (scalar_type kind) h = sym (words-scalar structs kind)
numeric_words structs (vector_type kind size) h = sym (words-vector structs kind size)
numeric_words structs (array_type element count) h = never h
numeric_words structs (struct_type number) h = never h

pub suits_numeric : (semantic : Semantic) (ty : Ty) → HasSemantic semantic ty → IsTrue (is_numeric ty)
suits_numeric DispatchThreadId ty h = h.0
suits_numeric GroupId ty h = h.0
suits_numeric GroupThreadId ty h = h.0
suits_numeric GroupIndex ty h = and_right (is_scalar ty) (is_numeric ty) h

-- the words of an input
pub input_is : (p : Program) (lane : Lane) (variables : List Variable) (d : Parameter) (i : Input variables d) →
    input_words p lane variables d ≡ take (component_count i.ty) (map wrapped (semantic_components (coordinates_of p.threads) lane (Some i.semantic)))
input_is p lane variables d i =
    ap (λ o. take (component_count (unwrap_or o void_type)) (map wrapped (semantic_components (coordinates_of p.threads) lane d.semantic))) i.is_typed ∙
    ap (λ o. take (component_count i.ty) (map wrapped (semantic_components (coordinates_of p.threads) lane o))) i.is_semantic

one_input : (p : Program) (lane : Lane) (variables : List Variable) (d : Parameter) (i : Input variables d) → Fits p.structs i.ty (input_words p lane variables d)
one_input p lane variables d i =
    subst (Fits p.structs i.ty) (sym (input_is p lane variables d i))
    (numbers_fit p.structs i.ty (take (component_count i.ty) (map wrapped (semantic_components (coordinates_of p.threads) lane (Some i.semantic)))) (suits_numeric i.semantic i.ty i.suits)
    (components_length (coordinates_of p.threads) lane i.semantic i.ty i.suits))

-- the inputs fit the parameters
pub all_inputs : (p : Program) (lane : Lane) (variables : List Variable) (parameters : List Parameter) → Every (IsInput variables) parameters → FitParams p.structs (map (param_of variables) parameters) (map (input_words p lane variables) parameters)
all_inputs p lane variables [] are = tt
all_inputs p lane variables (d ∷ parameters) are =
    let i = input_of variables d are.0 in
    subst (λ o. FitParams p.structs (option_map (λ ty. record { ty = ty; copying = d.copying }) o ∷ map (param_of variables) parameters) (input_words p lane variables d ∷ map (input_words p lane variables) parameters)) (sym i.is_typed)
    (one_input p lane variables d i, all_inputs p lane variables parameters are.1)
