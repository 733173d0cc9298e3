use Rattle.std.proofs.Common.{◌≡◌, ◌∙◌, ◌==◌, ℕ, true, Option, None, Some, List, [], ◌∷◌, ap, refl, sym, eq-eqb}
use Rattle.std.specs.Prelude.{is_some, option_map}
use Rattle.std.proofs.lemmas.Bool.{and_from}
use lib.Pointwise.{pointwise}
use Rattle.bc_records.specs.HeldEntries.{signature_form}
use Rattle.bc_records.specs.KnownTables.{known_by}
use Rattle.bc_records.specs.RecordKinds.{same_signature, signature_at}
use Rattle.bc_records.proofs.faults.known.are_same_type.Goals as goal

itself : (numbers : List ℕ) → pointwise (λ x y. x == y) numbers numbers ≡ true
itself [] = refl
itself (n ∷ numbers) = and_from (n == n) (pointwise (λ x y. x == y) numbers numbers) (eq-eqb n n refl) (itself numbers)

-- a signature is the same as itself, where there is one
same_as_itself : (signature : Option (ℕ × List ℕ)) → is_some signature ≡ same_signature signature signature
same_as_itself None = refl
same_as_itself (Some s) = sym (and_from (s.0 == s.0) (pointwise (λ x y. x == y) s.1 s.1) (eq-eqb s.0 s.0 refl) (itself s.1))

mapped : {X Y : Type 0} (f : X → Y) (o : Option X) → is_some o ≡ is_some (option_map f o)
mapped f None = refl
mapped f (Some x) = refl

pub returns-then-a-b : goal.returns-then-a-b
returns-then-a-b c =
    let known = known_by c.args.tables.now in
    c.is_some.ensures
    ∙ (mapped signature_form c.signature.result
    ∙ (ap is_some (sym c.signature.ensures)
    ∙ (same_as_itself (signature_at known c.args.a) ∙ ap (λ n. same_signature (signature_at known c.args.a) (signature_at known n)) c.if-a-b.true)))
