-- The places of expressions whose variables are all among some.
use Rattle.std.proofs.Common.{◌≡◌, refl, ℕ, List, [], ◌∷◌, ◌++◌, Option, None, Some}
use Rattle.std.specs.Prelude.{IsTrue, option_and_then}
use Rattle.std.proofs.lemmas.Option.{none-some}
use Rattle.lane_core.specs.declared.event.AtomicKind.{AtomicKind}
use Rattle.hl_meaning.specs.Types.{Ty}
use Rattle.hl_meaning.specs.Trees.{Arg, Args, Expr, Exprs, Form, Location, MaybeExpr, MaybeLocation, PathParts, Root, Target, a_location, atomic_form, binary_form, build_form, bytes_target, call_form, choose_form, constant_root, convert_form, element_root, index_part, intrinsic_form, literal_form, member_part, method_form, more_args, more_exprs, more_parts, no_args, no_expr, no_exprs, no_location, no_parts, pick_form, place_arg, place_target, read_form, shared_root, some_expr, some_location, swizzle_part, type_of, unary_form, value_arg, variable_root, write_form}
use Rattle.hl_meaning.specs.Places.{Scope, is_writable_place, path_type, root_type}
use Rattle.hl_meaning.specs.WellFormed.{IsForm, IsOriginal, IsPlace, IsTarget}
use Rattle.hl_source.specs.State.{Context}
use Rattle.hl_inline.specs.Occurrences.{Occurrence, arg_occurrences, args_occurrences, call_occurrence, expr_if_occurrences, expr_occurrences, exprs_occurrences, form_occurrences, location_if_occurrences, location_occurrences, parts_occurrences, place_occurrence, target_occurrences}
use Rattle.typed_laws.proofs.OperandExpressions.{arg_exprs, args_exprs, expr_if_list, exprs_list, operand_exprs, place_if_exprs}
use Rattle.typed_laws.specs.Operands.{parts_exprs, place_exprs, target_exprs}
use Rattle.typed_laws.proofs.Induction.{Every, every_append, every_back, every_front}
use Rattle.hl_inline.proofs.Reading.{IsChangedPlace, IsInD, PlaceIn}
use Rattle.hl_inline.proofs.Acts.{ChangedIn, FormIn, TargetIn}
use Rattle.typed_laws.proofs.Typed.{never}

-- a variable is one of D
abbrev pub OccurrenceIn : (D : ℕ → Type 0) → Occurrence → Type 0
OccurrenceIn D (place_occurrence root parts) = IsInD D root
OccurrenceIn D (call_occurrence function) = Unit {0}

-- the variables among occurrences are among D
abbrev pub Covers : (D : ℕ → Type 0) → List Occurrence → Type 0
Covers D occurrences = Every (OccurrenceIn D) occurrences

abbrev pub CoversExpr : (D : ℕ → Type 0) → Expr → Type 0
CoversExpr D e = Covers D (expr_occurrences e)

-- operands

exprs_covered : (D : ℕ → Type 0) (es : Exprs) → Covers D (exprs_occurrences es) → Every (CoversExpr D) (exprs_list es)
exprs_covered D no_exprs h = tt
exprs_covered D (more_exprs first rest) h =
    (every_front (OccurrenceIn D) (expr_occurrences first) (exprs_occurrences rest) h, exprs_covered D rest (every_back (OccurrenceIn D) (expr_occurrences first) (exprs_occurrences rest) h))

expr_if_covered : (D : ℕ → Type 0) (value : MaybeExpr) → Covers D (expr_if_occurrences value) → Every (CoversExpr D) (expr_if_list value)
expr_if_covered D no_expr h = tt
expr_if_covered D (some_expr value) h = (h, tt)

parts_covered : (D : ℕ → Type 0) (parts : PathParts) → Covers D (parts_occurrences parts) → Every (CoversExpr D) (parts_exprs parts)
parts_covered D no_parts h = tt
parts_covered D (more_parts (index_part index) rest) h =
    (every_front (OccurrenceIn D) (expr_occurrences index) (parts_occurrences rest) h, parts_covered D rest (every_back (OccurrenceIn D) (expr_occurrences index) (parts_occurrences rest) h))
parts_covered D (more_parts (member_part number) rest) h = parts_covered D rest h
parts_covered D (more_parts (swizzle_part letters) rest) h = parts_covered D rest h

pub place_covered : (D : ℕ → Type 0) (place : Location) → Covers D (location_occurrences place) → Every (CoversExpr D) (place_exprs place)
place_covered D (a_location ty (variable_root number) parts) h = parts_covered D parts h.1
place_covered D (a_location ty (constant_root number) parts) h = parts_covered D parts h.1
place_covered D (a_location ty (shared_root number) parts) h = parts_covered D parts h.1
place_covered D (a_location ty (element_root resource index) parts) h =
    (every_front (OccurrenceIn D) (expr_occurrences index) (parts_occurrences parts) h.1, parts_covered D parts (every_back (OccurrenceIn D) (expr_occurrences index) (parts_occurrences parts) h.1))

place_if_covered : (D : ℕ → Type 0) (place : MaybeLocation) → Covers D (location_if_occurrences place) → Every (CoversExpr D) (place_if_exprs place)
place_if_covered D no_location h = tt
place_if_covered D (some_location place) h = place_covered D place h

target_covered : (D : ℕ → Type 0) (target : Target) → Covers D (target_occurrences target) → Every (CoversExpr D) (target_exprs target)
target_covered D (place_target place) h = place_covered D place h
target_covered D (bytes_target resource address) h = (h, tt)

arg_covered : (D : ℕ → Type 0) (arg : Arg) → Covers D (arg_occurrences arg) → Every (CoversExpr D) (arg_exprs arg)
arg_covered D (value_arg value) h = (h, tt)
arg_covered D (place_arg place) h = place_covered D place h

args_covered : (D : ℕ → Type 0) (args : Args) → Covers D (args_occurrences args) → Every (CoversExpr D) (args_exprs args)
args_covered D no_args h = tt
args_covered D (more_args first rest) h =
    every_append (CoversExpr D) (arg_exprs first) (args_exprs rest) (arg_covered D first (every_front (OccurrenceIn D) (arg_occurrences first) (args_occurrences rest) h))
    (args_covered D rest (every_back (OccurrenceIn D) (arg_occurrences first) (args_occurrences rest) h))

pub operands_covered : (D : ℕ → Type 0) (form : Form) → Covers D (form_occurrences form) → Every (CoversExpr D) (operand_exprs form)
operands_covered D (literal_form word) h = tt
operands_covered D (read_form place) h = place_covered D place h
operands_covered D (write_form to op common value old) h =
    every_append (CoversExpr D) (place_exprs to) (value ∷ []) (place_covered D to (every_front (OccurrenceIn D) (location_occurrences to) (expr_occurrences value) h))
    (every_back (OccurrenceIn D) (location_occurrences to) (expr_occurrences value) h, tt)
operands_covered D (convert_form value) h = (h, tt)
operands_covered D (unary_form op value) h = (h, tt)
operands_covered D (binary_form op left right) h =
    (every_front (OccurrenceIn D) (expr_occurrences left) (expr_occurrences right) h, (every_back (OccurrenceIn D) (expr_occurrences left) (expr_occurrences right) h, tt))
operands_covered D (choose_form cond consequent alternative) h =
    let rest = every_back (OccurrenceIn D) (expr_occurrences cond) (expr_occurrences consequent ++ expr_occurrences alternative) h in (
      every_front (OccurrenceIn D) (expr_occurrences cond) (expr_occurrences consequent ++ expr_occurrences alternative) h,
      (every_front (OccurrenceIn D) (expr_occurrences consequent) (expr_occurrences alternative) rest, (every_back (OccurrenceIn D) (expr_occurrences consequent) (expr_occurrences alternative) rest, tt)),
    )
operands_covered D (build_form parts) h = exprs_covered D parts h
operands_covered D (pick_form value parts) h = (every_front (OccurrenceIn D) (expr_occurrences value) (parts_occurrences parts) h, tt)
operands_covered D (call_form function args) h = args_covered D args (every_front (OccurrenceIn D) (args_occurrences args) (call_occurrence function ∷ []) h)
operands_covered D (intrinsic_form number args) h = exprs_covered D args h
operands_covered D (method_form resource count address value) h =
    (every_front (OccurrenceIn D) (expr_occurrences address) (expr_if_occurrences value) h, expr_if_covered D value (every_back (OccurrenceIn D) (expr_occurrences address) (expr_if_occurrences value) h))
operands_covered D (atomic_form target kind compare value original) h =
    let behind_target = every_back (OccurrenceIn D) (target_occurrences target) (expr_if_occurrences compare ++ (expr_occurrences value ++ location_if_occurrences original)) h in
    let behind_compare = every_back (OccurrenceIn D) (expr_if_occurrences compare) (expr_occurrences value ++ location_if_occurrences original) behind_target in
    every_append (CoversExpr D) (target_exprs target) (expr_if_list compare ++ value ∷ place_if_exprs original)
    (target_covered D target (every_front (OccurrenceIn D) (target_occurrences target) (expr_if_occurrences compare ++ (expr_occurrences value ++ location_if_occurrences original)) h))
    (every_append (CoversExpr D) (expr_if_list compare) (value ∷ place_if_exprs original)
    (expr_if_covered D compare (every_front (OccurrenceIn D) (expr_if_occurrences compare) (expr_occurrences value ++ location_if_occurrences original) behind_target)) (
      every_front (OccurrenceIn D) (expr_occurrences value) (location_if_occurrences original) behind_compare,
      place_if_covered D original (every_back (OccurrenceIn D) (expr_occurrences value) (location_if_occurrences original) behind_compare),
    ))

-- places of a form itself

root_of_place : (s : Scope) (root : Root) (parts : PathParts) (ty : Ty) → option_and_then (λ t. path_type s.structs t parts) (root_type s root) ≡ Some ty → (t : Ty) × (root_type s root ≡ Some t)
root_of_place s root parts ty h = by_root (root_type s root) refl h
  where
    by_root : (o : Option Ty) → root_type s root ≡ o → option_and_then (λ t. path_type s.structs t parts) o ≡ Some ty → (t : Ty) × (root_type s root ≡ Some t)
    by_root None is h = absurd (none-some ty h)
    by_root (Some t) is h = (t, is)

pub place_in : (c : Context) (D : ℕ → Type 0) (place : Location) → IsPlace c.scope place → Covers D (location_occurrences place) → PlaceIn c D place
place_in c D (a_location ty root parts) h covers = let r = root_of_place c.scope root parts ty h.3 in (r.0, r.1, covers.0)

pub place_changed : (s : Scope) (place : Location) → IsTrue (is_writable_place s place) → IsChangedPlace place
place_changed s (a_location ty (variable_root number) parts) h = tt
place_changed s (a_location ty (constant_root number) parts) h = never h
place_changed s (a_location ty (shared_root number) parts) h = tt
place_changed s (a_location ty (element_root resource index) parts) h = tt

target_in : (c : Context) (D : ℕ → Type 0) (ty : Ty) (target : Target) → IsTarget c.scope ty target → Covers D (target_occurrences target) → TargetIn c D target
target_in c D ty (place_target place) h covers = place_in c D place h.0 covers
target_in c D ty (bytes_target resource address) h covers = tt

original_in : (c : Context) (D : ℕ → Type 0) (target : Target) (kind : Option AtomicKind) (original : MaybeLocation) → IsOriginal c.scope target kind original → Covers D (location_if_occurrences original) → ChangedIn c D original
original_in c D target kind no_location h covers = tt
original_in c D (place_target place) kind (some_location original) h covers = (place_in c D original h.0 covers, place_changed c.scope original h.1)
original_in c D (bytes_target resource address) kind (some_location original) h covers = (place_in c D original h.0 covers, place_changed c.scope original h.1)

pub form_in : (c : Context) (D : ℕ → Type 0) (ty : Ty) (form : Form) → IsForm c.scope ty form → Covers D (form_occurrences form) → FormIn c D form
form_in c D ty (literal_form word) h covers = tt
form_in c D ty (read_form place) h covers = place_in c D place h.0 covers
form_in c D ty (write_form to op common value old) h covers =
    (place_in c D to h.0 (every_front (OccurrenceIn D) (location_occurrences to) (expr_occurrences value) covers), place_changed c.scope to h.1)
form_in c D ty (convert_form value) h covers = tt
form_in c D ty (unary_form op value) h covers = tt
form_in c D ty (binary_form op left right) h covers = tt
form_in c D ty (choose_form cond consequent alternative) h covers = tt
form_in c D ty (build_form parts) h covers = tt
form_in c D ty (pick_form value parts) h covers = tt
form_in c D ty (call_form function args) h covers = tt
form_in c D ty (intrinsic_form number args) h covers = tt
form_in c D ty (method_form resource count address value) h covers = tt
form_in c D ty (atomic_form target kind compare value original) h covers =
    let behind_target = every_back (OccurrenceIn D) (target_occurrences target) (expr_if_occurrences compare ++ (expr_occurrences value ++ location_if_occurrences original)) covers in
    let behind_compare = every_back (OccurrenceIn D) (expr_if_occurrences compare) (expr_occurrences value ++ location_if_occurrences original) behind_target in (
      target_in c D (type_of value) target h.1 (every_front (OccurrenceIn D) (target_occurrences target) (expr_if_occurrences compare ++ (expr_occurrences value ++ location_if_occurrences original)) covers),
      original_in c D target kind original h.5 (every_back (OccurrenceIn D) (expr_occurrences value) (location_if_occurrences original) behind_compare),
    )
