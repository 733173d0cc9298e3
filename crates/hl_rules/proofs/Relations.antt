-- The Bools by which rules judge say what the relations of typed programs say.
use Rattle.std.proofs.Common.{◌≡◌, ℕ, ◌*◌, ◌≤◌, true, ◌&&◌, [], ◌∷◌, Some, IsTrue, nat_le}
use Rattle.std.specs.Prelude.{◌↔◌}
use Rattle.std.proofs.lemmas.Bool.{and_from, and_parts, le-leb, leb-true}
use Rattle.hl_meaning.specs.declared.program.Semantic.{Semantic}
use Rattle.hl_meaning.specs.declared.program.Semantic.TheVariants.{DispatchThreadId, GroupId, GroupIndex, GroupThreadId}
use Rattle.hl_meaning.specs.Types.{Ty, component_count, is_numeric}
use Rattle.hl_meaning.specs.WellFormed.{AreThreads, HasSemantic, IsWord}
use Rattle.hl_rules.specs.DeclarationRules.{are_threads, is_from_one_to, is_semantic_type}
use Rattle.hl_rules.specs.Values.{is_word}

pub is_word-says : (ty : Ty) → IsTrue (is_word ty) ↔ IsWord ty
is_word-says ty = (λ h. h, λ h. h)

from_one_to : (most number : ℕ) → is_from_one_to most number ≡ true → (1 ≤ number) × (number ≤ most)
from_one_to most number h =
    let both : (nat_le 1 number ≡ true) × (nat_le number most ≡ true) = and_parts (nat_le 1 number) (nat_le number most) h in
    (leb-true 1 number both.0, leb-true number most both.1)

to_one_to : (most number : ℕ) → 1 ≤ number → number ≤ most → is_from_one_to most number ≡ true
to_one_to most number low high =
    and_from (nat_le 1 number) (nat_le number most) (le-leb 1 number low) (le-leb number most high)

threads_from : (x y z : ℕ) → IsTrue (are_threads (Some x) (Some y) (Some z)) → AreThreads (x ∷ y ∷ z ∷ [])
threads_from x y z h =
    let at_x = and_parts (is_from_one_to 1024 x) (is_from_one_to 1024 y && (is_from_one_to 64 z && nat_le (x * y * z) 1024)) h in
    let at_y = and_parts (is_from_one_to 1024 y) (is_from_one_to 64 z && nat_le (x * y * z) 1024) at_x.1 in
    let at_z = and_parts (is_from_one_to 64 z) (nat_le (x * y * z) 1024) at_y.1 in
    let of_x = from_one_to 1024 x at_x.0 in
    let of_y = from_one_to 1024 y at_y.0 in
    let of_z = from_one_to 64 z at_z.0 in
    (of_x.0, of_x.1, of_y.0, of_y.1, of_z.0, of_z.1, leb-true (x * y * z) 1024 at_z.1)

threads_to : (x y z : ℕ) → AreThreads (x ∷ y ∷ z ∷ []) → IsTrue (are_threads (Some x) (Some y) (Some z))
threads_to x y z h =
    and_from (is_from_one_to 1024 x) (is_from_one_to 1024 y && (is_from_one_to 64 z && nat_le (x * y * z) 1024)) (to_one_to 1024 x h.0 h.1)
    (and_from (is_from_one_to 1024 y) (is_from_one_to 64 z && nat_le (x * y * z) 1024) (to_one_to 1024 y h.2 h.3)
    (and_from (is_from_one_to 64 z) (nat_le (x * y * z) 1024) (to_one_to 64 z h.4 h.5) (le-leb (x * y * z) 1024 h.6)))

pub are_threads-says : (x y z : ℕ) → IsTrue (are_threads (Some x) (Some y) (Some z)) ↔ AreThreads (x ∷ y ∷ z ∷ [])
are_threads-says x y z = (threads_from x y z, threads_to x y z)

vector_from : (ty : Ty) → is_numeric ty && nat_le (component_count ty) 3 ≡ true → IsTrue (is_numeric ty) × (component_count ty ≤ 3)
vector_from ty h =
    let both = and_parts (is_numeric ty) (nat_le (component_count ty) 3) h in
    (both.0, leb-true (component_count ty) 3 both.1)

vector_to : (ty : Ty) → IsTrue (is_numeric ty) × (component_count ty ≤ 3) → is_numeric ty && nat_le (component_count ty) 3 ≡ true
vector_to ty h = and_from (is_numeric ty) (nat_le (component_count ty) 3) h.0 (le-leb (component_count ty) 3 h.1)

pub is_semantic_type-says : (semantic : Semantic) (ty : Ty) → IsTrue (is_semantic_type semantic ty) ↔ HasSemantic semantic ty
is_semantic_type-says GroupIndex ty = is_word-says ty
is_semantic_type-says DispatchThreadId ty = (vector_from ty, vector_to ty)
is_semantic_type-says GroupId ty = (vector_from ty, vector_to ty)
is_semantic_type-says GroupThreadId ty = (vector_from ty, vector_to ty)
