-- The methods that buffers have.
use Rattle.std.proofs.Common.{◌≡◌, refl, sym, subst, ℕ, ◌≤◌, Bool, true, false, ◌&&◌, not, if◌then◌else◌, nat_le, List, find, Option, None, Some}
use Rattle.std.specs.Prelude.{bytes_eq, option_map}
use Rattle.std.specs.List.{list_all}
use Rattle.std.proofs.lemmas.Bool.{and_parts, leb-true}
use Rattle.std.proofs.lemmas.Option.{option_and_then_some, same_Some}
use Rattle.hl_rules.specs.declared.interlocked.Interlocked.{Interlocked}
use Rattle.hl_rules.specs.declared.interlocked.Method.{Method}
use Rattle.hl_rules.specs.declared.interlocked.Method.TheVariants.{DoesAtomic, LoadsElement, LoadsWords, StoresWords}
use Rattle.hl_rules.specs.Intrinsics.{MethodRow, atomic_named, element_methods, interlocked_form, intrinsic_named, method_among, or_else, reading_methods, storing_methods}
use Rattle.hl_rules.proofs.Searching.{find-tested}

-- what a buffer's method is
pub data IsMethodOf (raw writable : Bool) (method : Method) : Type 0 where
  a_load : (count : ℕ) → method ≡ LoadsWords count → raw ≡ true → 1 ≤ count → count ≤ 4 → IsMethodOf raw writable method
  a_store : (count : ℕ) → method ≡ StoresWords count → raw ≡ true → writable ≡ true → 1 ≤ count → count ≤ 4 → IsMethodOf raw writable method
  an_atomic : (number : ℕ) (form : Interlocked) → method ≡ DoesAtomic form → interlocked_form number ≡ Some form → raw ≡ true → writable ≡ true → IsMethodOf raw writable method
  an_element_load : method ≡ LoadsElement → raw ≡ false → IsMethodOf raw writable method

abbrev is_reading : Method → Bool
is_reading (LoadsWords count) = nat_le 1 count && nat_le count 4
is_reading _ = false

abbrev is_storing : Method → Bool
is_storing (StoresWords count) = nat_le 1 count && nat_le count 4
is_storing _ = false

abbrev is_loading : Method → Bool
is_loading LoadsElement = true
is_loading _ = false

-- what a test says of each method of rows
among-tested : (test : Method → Bool) (name : List ℕ) (rows : List MethodRow) (method : Method) → list_all (λ r. test r.method) rows ≡ true → method_among name rows ≡ Some method → test method ≡ true
among-tested test name rows method h e =
    option_and_then_some (λ r. Some r.method) (find (λ r. bytes_eq r.name name) rows) method e
    (λ row k l. subst (λ m. test m ≡ true) (same_Some row.method method l) (find-tested (λ r. test r.method) (λ r. bytes_eq r.name name) rows row h k))

reading-is : (writable : Bool) (method : Method) → is_reading method ≡ true → IsMethodOf true writable method
reading-is writable (LoadsWords count) e =
    let p : (nat_le 1 count ≡ true) × (nat_le count 4 ≡ true) = and_parts (nat_le 1 count) (nat_le count 4) e in
    a_load count refl refl (leb-true 1 count p.0) (leb-true count 4 p.1)
reading-is writable (StoresWords count) e = absurd (cc e)
reading-is writable (DoesAtomic form) e = absurd (cc e)
reading-is writable LoadsElement e = absurd (cc e)

storing-is : (method : Method) → is_storing method ≡ true → IsMethodOf true true method
storing-is (StoresWords count) e =
    let p : (nat_le 1 count ≡ true) × (nat_le count 4 ≡ true) = and_parts (nat_le 1 count) (nat_le count 4) e in
    a_store count refl refl refl (leb-true 1 count p.0) (leb-true count 4 p.1)
storing-is (LoadsWords count) e = absurd (cc e)
storing-is (DoesAtomic form) e = absurd (cc e)
storing-is LoadsElement e = absurd (cc e)

loading-is : (writable : Bool) (method : Method) → is_loading method ≡ true → IsMethodOf false writable method
loading-is writable LoadsElement e = an_element_load refl refl
loading-is writable (LoadsWords count) e = absurd (cc e)
loading-is writable (StoresWords count) e = absurd (cc e)
loading-is writable (DoesAtomic form) e = absurd (cc e)

atomic-is : (name : List ℕ) (method : Method) → option_map DoesAtomic (atomic_named name) ≡ Some method → IsMethodOf true true method
atomic-is name method e =
    option_and_then_some (λ form. Some (DoesAtomic form)) (atomic_named name) method e
    (λ form h k. option_and_then_some interlocked_form (intrinsic_named name) form h
    (λ number l m. an_atomic number form (sym (same_Some (DoesAtomic form) method k)) m refl refl))

-- one of two is the first or the second
or_else-is : {A : Type 0} {P : Type 0} (one other : Option A) (x : A) → or_else one other ≡ Some x → (one ≡ Some x → P) → (other ≡ Some x → P) → P
or_else-is None other x e h k = k e
or_else-is (Some y) other x e h k = h e

writable-is : (name : List ℕ) (method : Method) → or_else (method_among name reading_methods) (or_else (method_among name storing_methods) (option_map DoesAtomic (atomic_named name))) ≡ Some method → IsMethodOf true true method
writable-is name method e =
    or_else-is (method_among name reading_methods) (or_else (method_among name storing_methods) (option_map DoesAtomic (atomic_named name))) method e
    (λ h. reading-is true method (among-tested is_reading name reading_methods method refl h))
    (λ h. or_else-is (method_among name storing_methods) (option_map DoesAtomic (atomic_named name)) method h
    (λ k. storing-is method (among-tested is_storing name storing_methods method refl k))
    (λ k. atomic-is name method k))

pub method-is : (raw writable : Bool) (name : List ℕ) (method : Method) → (if not raw then method_among name element_methods else (if not writable then method_among name reading_methods else or_else (method_among name reading_methods) (or_else (method_among name storing_methods) (option_map DoesAtomic (atomic_named name))))) ≡ Some method → IsMethodOf raw writable method
method-is false writable name method e = loading-is writable method (among-tested is_loading name element_methods method refl e)
method-is true false name method e = reading-is false method (among-tested is_reading name reading_methods method refl e)
method-is true true name method e = writable-is name method e
