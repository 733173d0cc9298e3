-- Sets of the registers that are taken: what they have behind one more, and the least register that they don't have.
use Rattle.std.proofs.Common.{◌≡◌, ◌∙◌, refl, sym, ap, ℕ, zero, suc, ◌==◌, ◌&&◌, ◌||◌, cond, Bool, true, false, List, [], ◌∷◌, ◌++◌, append-nil, append_assoc, Option, Some, None, arith}
use Rattle.std.proofs.lemmas.Bool.{cases_order, true≢false}
use Rattle.std.proofs.lemmas.List.Elements.{filter_map-append}
use Rattle.std.proofs.lemmas.List.Folds.{list_any-append}
use Rattle.std.proofs.Math.Logic.{⊎_elim}
use Rattle.std.specs.Prelude.{filter_map, replicate, slice_index}
use Rattle.std.specs.BTreeSet.{BTreeSet, contains}
use Rattle.std.specs.Cmp.{unsigned_tied}
use Rattle.std.specs.List.{cons_option, list_any}
use Rattle.std.specs.Ordering.{is_eq, nat_cmp, ordering_then}
use Rattle.std.specs.declared.cmp.Ordering.{Ordering}
use Rattle.std.specs.declared.cmp.Ordering.TheVariants.{Less, Equal, Greater}
use Rattle.lane_core.specs.declared.event.Slot.{Slot}
use Rattle.hl_meaning.specs.Programs.{Resource}
use Rattle.hl_meaning.specs.Slots.{free_register, given_register, least_free, slot_register}
use Rattle.hl_source.proofs.LeastFree.{free_register_is_least}
use Rattle.hl_interpreter.specs.Registers.{Adds, HasAllBelowStarts, IsLeastFree, IsTaken, has_register, is_one}

or-false : (a : Bool) → (a || false) ≡ a
or-false true = refl
or-false false = refl

or-assoc : (a b c : Bool) → ((a || b) || c) ≡ (a || (b || c))
or-assoc true b c = refl
or-assoc false b c = refl

-- ---- one more register in a set

abbrev pair_cmp : ℕ × ℕ → ℕ × ℕ → Ordering
pair_cmp x y = ordering_then (nat_cmp x.0 y.0) (nat_cmp x.1 y.1)

is_eq-then : (o p : Ordering) → is_eq (ordering_then o p) ≡ (is_eq o && is_eq p)
is_eq-then Less p = refl
is_eq-then Equal p = refl
is_eq-then Greater p = refl

same-pair : (a b c d : ℕ) → is_eq (pair_cmp (a, b) (c, d)) ≡ (a == c && b == d)
same-pair a b c d =
    is_eq-then (nat_cmp a c) (nat_cmp b d) ∙ (ap (λ t. t && is_eq (nat_cmp b d)) (unsigned_tied a c) ∙ ap (λ t. a == c && t) (unsigned_tied b d))

one-more : (same space : Bool) (one register : ℕ) (had : Bool) → space ≡ true
    → cond (same && one == register) true had ≡ (had || is_one (cond (same && space) (Some one) None) register)
one-more true true one register true e = either (one == register)
  where
    either : (b : Bool) → cond b true true ≡ true
    either true = refl
    either false = refl
one-more true true one register false e = either (one == register)
  where
    either : (b : Bool) → cond b true false ≡ b
    either true = refl
    either false = refl
one-more true false one register had e = absurd (true≢false (sym e))
one-more false space one register had e = sym (or-false had)

pub inserted : (before behind : BTreeSet (ℕ × ℕ)) (slot : Slot) → slot.space ≡ 0
    → ((q : ℕ × ℕ) → contains pair_cmp behind q ≡ cond (is_eq (pair_cmp (slot.class, slot.register) q)) true (contains pair_cmp before q)) → Adds (λ class. slot_register class slot) before behind
inserted before behind slot in_space_0 e class register =
    e (class, register) ∙ (ap (λ b. cond b true (has_register before class register)) (same-pair slot.class slot.register class register) ∙
    one-more (slot.class == class) (slot.space == 0) slot.register register (has_register before class register) (ap (λ n. n == 0) in_space_0))

-- ---- the registers that buffers give

abbrev pub is_given : (class register : ℕ) → List Resource → Bool
is_given class register resources = list_any (λ t. t == register) (filter_map (given_register class) resources)

any-cons : (o : Option ℕ) (rest : List ℕ) (register : ℕ) → list_any (λ t. t == register) (cons_option o rest) ≡ (is_one o register || list_any (λ t. t == register) rest)
any-cons (Some one) rest register = refl
any-cons None rest register = refl

pub given-turn : (before behind : BTreeSet (ℕ × ℕ)) (r : Resource) (rest : List Resource) (whole : ℕ → ℕ → Bool) → Adds (λ class. given_register class r) before behind
    → ((class register : ℕ) → (has_register before class register || is_given class register (r ∷ rest)) ≡ whole class register)
    → (class register : ℕ) → (has_register behind class register || is_given class register rest) ≡ whole class register
given-turn before behind r rest whole adds e class register =
    ap (λ b. b || is_given class register rest) (adds class register) ∙
    (or-assoc (has_register before class register) (is_one (given_register class r) register) (is_given class register rest) ∙
    (ap (λ b. has_register before class register || b) (sym (any-cons (given_register class r) (filter_map (given_register class) rest) register)) ∙ e class register))

pub given-end : (taken : BTreeSet (ℕ × ℕ)) (all : List Resource)
    → ((class register : ℕ) → (has_register taken class register || false) ≡ is_given class register all) → IsTaken all [] taken
given-end taken all e class register =
    sym (or-false (has_register taken class register)) ∙ (e class register ∙ ap (list_any (λ t. t == register)) (sym (append-nil (filter_map (given_register class) all))))

-- ---- the registers that slots have

joined : (given : List ℕ) (earlier : List Slot) (slot : Slot) (h : Slot → Option ℕ) (register : ℕ)
    → list_any (λ t. t == register) (given ++ filter_map h (earlier ++ slot ∷ [])) ≡ (list_any (λ t. t == register) (given ++ filter_map h earlier) || is_one (h slot) register)
joined given earlier slot h register =
    let p : ℕ → Bool = λ t. t == register in
    ap (λ l. list_any p (given ++ l)) (filter_map-append h earlier (slot ∷ [])) ∙
    (ap (list_any p) (sym (append_assoc given (filter_map h earlier) (filter_map h (slot ∷ [])))) ∙
    (list_any-append p (given ++ filter_map h earlier) (filter_map h (slot ∷ [])) ∙
    ap (λ b. list_any p (given ++ filter_map h earlier) || b) (any-cons (h slot) [] register ∙ or-false (is_one (h slot) register))))

pub taken-turn : (all : List Resource) (earlier : List Slot) (slot : Slot) (before behind : BTreeSet (ℕ × ℕ)) → Adds (λ class. slot_register class slot) before behind → IsTaken all earlier before
    → IsTaken all (earlier ++ slot ∷ []) behind
taken-turn all earlier slot before behind adds is class register =
    adds class register ∙ (ap (λ b. b || is_one (slot_register class slot) register) (is class register) ∙
    sym (joined (filter_map (given_register class) all) earlier slot (slot_register class) register))

no-start : (count class : ℕ) → slice_index (replicate count 0) class ≡ 0
no-start zero class = refl
no-start (suc count) zero = refl
no-start (suc count) (suc class) = no-start count class

pub starts-init : (taken : BTreeSet (ℕ × ℕ)) (count : ℕ) → HasAllBelowStarts taken (replicate count 0)
starts-init taken count class register below = absurd (omega (arith, no-start count class, below))

pub starts-turn : (starts : List ℕ) (one : ℕ → Option ℕ) (before behind : BTreeSet (ℕ × ℕ)) → Adds one before behind → HasAllBelowStarts before starts → HasAllBelowStarts behind starts
starts-turn starts one before behind adds has class register below =
    adds class register ∙ ap (λ b. b || is_one (one class) register) (has class register below)

-- ---- the least register that is free

pub least-is_free : (all : List Resource) (earlier : List Slot) (taken : BTreeSet (ℕ × ℕ)) (class register : ℕ) → IsTaken all earlier taken → IsLeastFree taken class register
    → register ≡ free_register all earlier class
least-is_free all earlier taken class register is least =
    let taken_numbers : List ℕ = filter_map (given_register class) all ++ filter_map (slot_register class) earlier in
    let law = free_register_is_least taken_numbers in
    ⊎_elim (λ same. same) (λ other. ⊎_elim
    (λ below. absurd (true≢false (sym (law.1 register below) ∙ (sym (is class register) ∙ least.0))))
    (λ above. absurd (true≢false (sym (least.1 (least_free taken_numbers) above) ∙ (is class (least_free taken_numbers) ∙ law.0)))) other)
    (cases_order register (least_free taken_numbers))
