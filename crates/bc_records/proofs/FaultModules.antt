-- What has come in MODULE, with one part more.
use Rattle.std.proofs.Common.{◌≡◌, ℕ, suc, ◌+◌, ◌≤◌, ◌==◌, Bool, true, false, ◌||◌, if◌then◌else◌, List, [], ◌∷◌, ◌++◌, length, refl, ap, sym, ◌∙◌, subst, arith}
use Rattle.std.proofs.lemmas.Bool.{ne_eqb, lt-ltb}
use Rattle.std.specs.Prelude.{nat_lt, OnOk}
use Rattle.std.proofs.Common.{Result, Ok, Err}
use Rattle.bc_records.specs.declared.faults.fault.Stop.{Stop}
use Rattle.bc_stream.specs.Blocks.{Contents, no_more, a_record, a_block, append}
use Rattle.bc_records.specs.declared.faults.progress.Progress.{Progress}
use Rattle.bc_records.specs.Codes.{function_block, symbols_block, types_block}
use Rattle.bc_records.specs.Entries.{entry, entries_in, blocks_in}
use Rattle.bc_records.specs.FaultSearch.{MarksNamed}
use Rattle.bc_records.specs.ModuleProgress.{HasCome, MarksBefore, behind_code, behind_id}
use Rattle.std.specs.Borrow.{Bor}
use Rattle.std.proofs.Common.{map}
use Rattle.std.proofs.lemmas.List.{length-map}
use Rattle.bc_records.specs.HeldEntries.{operands_form}
use Rattle.bc_records.specs.RecordFaults.{body_count}
use Rattle.bc_records.specs.RecordKinds.{Known, has_code, all_of, with_bodies}
use Rattle.bc_records.proofs.FreeSites.{entries-append, more_none}
use Rattle.bc_records.proofs.FaultWalk.{has-code-append}
use Rattle.bc_records.proofs.FaultCounts.{blocks-append, all_of-one}

blocks-one : (wanted : ℕ) (before : Contents) (id : ℕ) (inner : Contents) →
    blocks_in wanted (append before (a_block id inner no_more)) ≡ blocks_in wanted before ++ (if id == wanted then inner ∷ [] else [])
blocks-one wanted before id inner = blocks-append wanted before (a_block id inner no_more)

-- marks behind a block
pub marks-other : (before : Contents) (id : ℕ) (inner : Contents) (marks : List Bool) → (id ≡ symbols_block → ⊥) → MarksBefore before marks →
    MarksBefore (append before (a_block id inner no_more)) marks
marks-other before id inner marks other marked =
    subst (λ bs. MarksNamed marks (all_of bs))
    (sym (blocks-one symbols_block before id inner
    ∙ (ap (λ b. blocks_in symbols_block before ++ (if b then inner ∷ [] else [])) (ne_eqb id symbols_block other) ∙ more_none (blocks_in symbols_block before)))) marked

pub marks-symbols : (before inner : Contents) (marks : List Bool) → MarksNamed marks (all_of (blocks_in symbols_block before) ++ entries_in inner) →
    MarksBefore (append before (a_block symbols_block inner no_more)) marks
marks-symbols before inner marks marked =
    subst (MarksNamed marks) (sym (ap all_of (blocks-one symbols_block before symbols_block inner) ∙ all_of-one (blocks_in symbols_block before) inner)) marked

-- marks behind a record
pub marks-record : (before : Contents) (code : ℕ) (operands : List ℕ) (marks : List Bool) → MarksBefore before marks →
    MarksBefore (append before (a_record code operands no_more)) marks
marks-record before code operands marks marked =
    subst (λ bs. MarksNamed marks (all_of bs)) (sym (blocks-append symbols_block before (a_record code operands no_more) ∙ more_none (blocks_in symbols_block before))) marked

-- what has come behind a record
pub come-record : (before : Contents) (progress : Progress) (code : ℕ) (operands : List ℕ) → HasCome before progress →
    HasCome (append before (a_record code operands no_more)) (behind_code progress code)
come-record before progress code operands come = record {
  version = has 1 ∙ ap (λ b. b || (code == 1)) come.version;
  triple = has 2 ∙ ap (λ b. b || (code == 2)) come.triple;
  layout = has 3 ∙ ap (λ b. b || (code == 3)) come.layout;
  types = ap (λ bs. nat_lt 0 (length bs)) (blocks types_block) ∙ come.types;
  bodies = ap length (blocks function_block) ∙ come.bodies;
} where
  has : (wanted : ℕ) → has_code wanted (entries_in (append before (a_record code operands no_more))) ≡ (has_code wanted (entries_in before) || (code == wanted))
  has wanted = ap (has_code wanted) (entries-append before (a_record code operands no_more)) ∙ has-code-append wanted (entries_in before) (entry code operands)

  blocks : (wanted : ℕ) → blocks_in wanted (append before (a_record code operands no_more)) ≡ blocks_in wanted before
  blocks wanted = blocks-append wanted before (a_record code operands no_more) ∙ more_none (blocks_in wanted before)

length-more : {A : Type 0} (xs : List A) (x : A) (b : Bool) → length (xs ++ (if b then x ∷ [] else [])) ≡ (if b then suc (length xs) else length xs)
length-more [] x true = refl
length-more [] x false = refl
length-more (y ∷ xs) x true = ap suc (length-more xs x true)
length-more (y ∷ xs) x false = ap suc (length-more xs x false)

pub positive : (n : ℕ) (b : Bool) → nat_lt 0 (if b then suc n else n) ≡ (nat_lt 0 n || b)
positive n true = lt-ltb 0 (suc n) (omega arith) ∙ sym (or-true (nat_lt 0 n)) where
  or-true : (a : Bool) → (a || true) ≡ true
  or-true true = refl
  or-true false = refl
positive n false = sym (or-false (nat_lt 0 n)) where
  or-false : (a : Bool) → (a || false) ≡ a
  or-false true = refl
  or-false false = refl

pub counted-block : (wanted : ℕ) (before : Contents) (id : ℕ) (inner : Contents) →
    length (blocks_in wanted (append before (a_block id inner no_more))) ≡ (if id == wanted then suc (length (blocks_in wanted before)) else length (blocks_in wanted before))
counted-block wanted before id inner = ap length (blocks-one wanted before id inner) ∙ length-more (blocks_in wanted before) inner (id == wanted)

-- what has come behind a block
pub come-block : (before : Contents) (progress : Progress) (id : ℕ) (inner : Contents) → HasCome before progress →
    HasCome (append before (a_block id inner no_more)) (behind_id progress id)
come-block before progress id inner come = record {
  version = ap (has_code 1) same ∙ come.version;
  triple = ap (has_code 2) same ∙ come.triple;
  layout = ap (has_code 3) same ∙ come.layout;
  types = ap (nat_lt 0) (counted-block types_block before id inner) ∙ (positive (length (blocks_in types_block before)) (id == types_block) ∙ ap (λ b. b || (id == types_block)) come.types);
  bodies = counted-block function_block before id inner ∙ ap (λ n. if id == function_block then suc n else n) come.bodies;
} where
  same : entries_in (append before (a_block id inner no_more)) ≡ entries_in before
  same = entries-append before (a_block id inner no_more) ∙ more_none (entries_in before)

-- what holds in any case holds where a walk goes on
pub on-ok : {P : Type 0} (result : Result (Unit {0}) Stop) → P → OnOk result P
on-ok (Ok done) holds = holds
on-ok (Err stop) holds = tt

-- the bodies that are listed are those that there are
pub count-bodies : (bodies : List (Bor (List ℕ))) (known : Known) → map operands_form bodies ≡ with_bodies known.functions → body_count known ≡ length bodies
count-bodies bodies known same = sym (ap length same) ∙ length-map bodies operands_form

-- one block more is at most one body more
pub bodies-limit : (progress : Progress) (id : ℕ) → (behind_id progress id).bodies ≤ progress.bodies + 1
bodies-limit progress id = by_case (id == function_block) where
  by_case : (b : Bool) → (if b then suc progress.bodies else progress.bodies) ≤ progress.bodies + 1
  by_case true = omega arith
  by_case false = omega arith
