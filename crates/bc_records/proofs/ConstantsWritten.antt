-- The written constants record the constants, in one block.
use Rattle.std.proofs.Common.{◌≡◌, ℕ, ◌<◌, true, false, List, [], ◌∷◌, Some, None, Option, map, refl, ap, sym, ◌∙◌, ⊎_elim}
use Rattle.std.specs.Prelude.{All, ◌==◌, if◌then◌else◌}
use Rattle.std.proofs.lemmas.List.{append-nil}
use Rattle.std.proofs.lemmas.List.Elements.{All-nil, All-cons, All-head, All-tail}
use Rattle.ir_core.specs.declared.module.Const.{Const}
use Rattle.ir_core.specs.declared.module.ConstValue.{ConstValue}
use Rattle.ir_core.specs.declared.module.ConstValue.TheVariants.{Null, Undef, Int}
use Rattle.bc_stream.specs.Blocks.{no_more}
use Rattle.bc_records.specs.ConstantRecords.{ConstantRecord, set_type, constant_entry, constants_of, SetsTypeFirst, NamesType, ConstantsRecorded}
use Rattle.bc_records.specs.Written.{constant_record, set_before, written_constants, constants_contents}
use Rattle.bc_records.proofs.ListedLemmas.{entries_in-alone, block_ids-listed}
use Rattle.bc_records.proofs.Numbers.{signed_value-signed_number, same_or_other, test_same, test_other}

-- one constant more, of the type in force
one_more : (ty : ℕ) (value : ConstValue) (rest : List ConstantRecord) →
    constants_of ty (constant_record value ∷ rest) ≡ record { ty = ty; value = value } ∷ constants_of ty rest
one_more ty Null rest = refl
one_more ty Undef rest = refl
one_more ty (Int value) rest = ap (λ v. record { ty = ty; value = Int v } ∷ constants_of ty rest) (signed_value-signed_number value)

-- whatever type is in force where none was set, and the one that was
abbrev InForce : Option ℕ → ℕ → Type 0
InForce None ty = Unit {0}
InForce (Some last_type) ty = last_type ≡ ty

values : (last_type : Option ℕ) (ty : ℕ) (constants : List Const) → InForce last_type ty →
    constants_of ty (written_constants last_type constants) ≡ constants
values last_type ty [] force = refl
values None ty (c ∷ cs) force =
    one_more c.ty c.value (written_constants (Some c.ty) cs) ∙ ap (λ rest. c ∷ rest) (values (Some c.ty) c.ty cs refl)
values (Some last_type) ty (c ∷ cs) force =
    let after : constants_of c.ty (constant_record c.value ∷ written_constants (Some c.ty) cs) ≡ c ∷ cs
    = one_more c.ty c.value (written_constants (Some c.ty) cs) ∙ ap (λ rest. c ∷ rest) (values (Some c.ty) c.ty cs refl) in
    ⊎_elim
    (λ same. ap (constants_of ty) (test_same last_type c.ty _ _ same) ∙ (ap (λ t. constants_of t (constant_record c.value ∷ written_constants (Some c.ty) cs)) (sym force ∙ same) ∙ after))
    (λ other. ap (constants_of ty) (test_other last_type c.ty _ _ other) ∙ after)
    (same_or_other last_type c.ty)

-- each type that is set is a constant's
module _ (types : ℕ) where
  named_record : (value : ConstValue) → NamesType types (constant_record value)
  named_record Null = tt
  named_record Undef = tt
  named_record (Int value) = tt

  named_set : (last_type : Option ℕ) (ty : ℕ) (rest : List ConstantRecord) → ty < types → All (NamesType types) rest → All (NamesType types) (set_before last_type ty rest)
  named_set None ty rest below all = All-cons (NamesType types) (set_type ty) rest below all
  named_set (Some last_type) ty rest below all =
      elim (last_type == ty) as (λ b. All (NamesType types) (if b then rest else set_type ty ∷ rest))
      [ true ↦ all | false ↦ All-cons (NamesType types) (set_type ty) rest below all ]

  named_all : (last_type : Option ℕ) (constants : List Const) → All (λ c. c.ty < types) constants → All (NamesType types) (written_constants last_type constants)
  named_all last_type [] all = All-nil (NamesType types)
  named_all last_type (c ∷ cs) all =
      named_set last_type c.ty (constant_record c.value ∷ written_constants (Some c.ty) cs) (All-head (λ c. c.ty < types) c cs all)
      (All-cons (NamesType types) (constant_record c.value) (written_constants (Some c.ty) cs) (named_record c.value)
      (named_all (Some c.ty) cs (All-tail (λ c. c.ty < types) c cs all)))

typed : (constants : List Const) → SetsTypeFirst (written_constants None constants)
typed [] = tt
typed (c ∷ cs) = tt

pub constants_written : (types : ℕ) (constants : List Const) → All (λ c. c.ty < types) constants →
    ConstantsRecorded types (constants_contents constants ∷ []) constants
constants_written types constants names_types = record {
  records = written_constants None constants ∷ [];
  spelled = ap (λ entries. entries ∷ []) (entries_in-alone (map constant_entry (written_constants None constants)));
  no_blocks = append-nil _ ∙ block_ids-listed (map constant_entry (written_constants None constants)) no_more;
  typed = All-cons SetsTypeFirst (written_constants None constants) [] (typed constants) (All-nil SetsTypeFirst);
  named = rw append-nil (named_all types None constants names_types);
  values = append-nil _ ∙ values None 0 constants tt;
}
