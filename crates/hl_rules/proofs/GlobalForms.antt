-- What is known stays known behind the declarations of structs, buffers and functions.
use Rattle.std.proofs.Common.{◌≡◌, ◌∙◌, ◌⊎◌, inl, inr, refl, ap, subst, ℕ, zero, suc, ◌<◌, false, List, [], ◌∷◌, ◌++◌, length, Some, length-append, arith}
use Rattle.std.specs.Prelude.{slice_get, unwrap_or}
use Rattle.std.proofs.lemmas.Option.{slice_get_within}
use Rattle.hl_meaning.specs.Types.{Ty}
use Rattle.hl_rules.specs.Scopes.{BufferInfo, FunctionInfo, Scope, StructInfo, a_buffer_name, a_function_name, a_struct_name, named, with_global}
use Rattle.hl_rules.proofs.Fitting.{IsKnownFunction}
use Rattle.hl_meaning.proofs.LayoutForms.{get-front, get-next}
use Rattle.hl_rules.proofs.ScopeForms.{sound-global}
use Rattle.hl_rules.proofs.Soundness.{IsSound}
use Rattle.hl_rules.proofs.StructForms.{IsKnownStruct, known-push, known_words}
use Rattle.hl_rules.proofs.StructMembers.{named-member}

-- what stands in a list with one more behind it
pub get-push : {A : Type 0} (xs : List A) (y : A) (n : ℕ) (x : A) → slice_get (xs ++ y ∷ []) n ≡ Some x → (slice_get xs n ≡ Some x) ⊎ (n ≡ length xs) × (y ≡ x)
get-push [] y zero x e = inr (refl, ap (λ o. unwrap_or o y) e)
get-push [] y (suc n) x e = absurd (cc e)
get-push (z ∷ xs) y zero x e = inl e
get-push (z ∷ xs) y (suc n) x e = on (get-push xs y n x e)
  where
    on : (slice_get xs n ≡ Some x) ⊎ (n ≡ length xs) × (y ≡ x) → (slice_get xs n ≡ Some x) ⊎ (suc n ≡ suc (length xs)) × (y ≡ x)
    on (inl h) = inl h
    on (inr h) = inr (ap suc h.0, h.1)

-- counts say nothing of names
pub sound-counts : (s : Scope) (shared constants : ℕ) → IsSound s → IsSound (record s { shared = shared; constants = constants })
sound-counts s shared constants sound = record {
  known = record {
    tokens = sound.known.tokens;
    variables = λ name v e. sound.known.variables name v e;
    numbers = λ name v number e h. sound.known.numbers name v number e h;
    members = λ number member name e. sound.known.members number member name e;
    buffers = λ name number e. sound.known.buffers name number e;
    elements = λ number buffer e h. sound.known.elements number buffer e h;
    functions = λ number f e. sound.known.functions number f e;
  };
  structs = sound.structs;
  struct_names = λ name number e. sound.struct_names name number e;
}

sound-buffer : (s : Scope) (b : BufferInfo) → IsSound s → (b.raw ≡ false → (ty : Ty) × (b.element ≡ Some ty)) → IsSound (record s { buffers = s.buffers ++ b ∷ [] })
sound-buffer s b sound known = record {
  known = record {
    tokens = sound.known.tokens;
    variables = λ name v e. sound.known.variables name v e;
    numbers = λ name v number e h. sound.known.numbers name v number e h;
    members = λ number member name e. sound.known.members number member name e;
    buffers = λ name number e.
        let r = sound.known.buffers name number e in
        (r.0, get-front s.buffers (b ∷ []) number (slice_get_within s.buffers number r.0 r.1) ∙ r.1);
    elements = λ number buffer e h. on number buffer h (get-push s.buffers b number buffer e);
    functions = λ number f e. sound.known.functions number f e;
  };
  structs = sound.structs;
  struct_names = λ name number e. sound.struct_names name number e;
}
  where
    on : (number : ℕ) (buffer : BufferInfo) → buffer.raw ≡ false → (slice_get s.buffers number ≡ Some buffer) ⊎ (number ≡ length s.buffers) × (b ≡ buffer) → (ty : Ty) × (buffer.element ≡ Some ty)
    on number buffer h (inl k) = sound.known.elements number buffer k h
    on number buffer h (inr k) = subst (λ x. (ty : Ty) × (x.element ≡ Some ty)) k.1 (known (ap (λ x. x.raw) k.1 ∙ h))

-- behind the declaration of a buffer
pub sound-buffer_name : (s : Scope) (b : BufferInfo) (name : List ℕ) → IsSound s → (b.raw ≡ false → (ty : Ty) × (b.element ≡ Some ty)) → IsSound (with_global (named name (a_buffer_name (length s.buffers))) (record s { buffers = s.buffers ++ b ∷ [] }))
sound-buffer_name s b name sound known =
    sound-global (named name (a_buffer_name (length s.buffers))) (record s { buffers = s.buffers ++ b ∷ [] }) (sound-buffer s b sound known)
    (b, get-next s.buffers b [])

sound-function : (s : Scope) (f : FunctionInfo) → IsSound s → IsKnownFunction f → IsSound (record s { functions = s.functions ++ f ∷ [] })
sound-function s f sound known = record {
  known = record {
    tokens = sound.known.tokens;
    variables = λ name v e. sound.known.variables name v e;
    numbers = λ name v number e h. sound.known.numbers name v number e h;
    members = λ number member name e. sound.known.members number member name e;
    buffers = λ name number e. sound.known.buffers name number e;
    elements = λ number buffer e h. sound.known.elements number buffer e h;
    functions = λ number g e. on number g (get-push s.functions f number g e);
  };
  structs = sound.structs;
  struct_names = λ name number e. sound.struct_names name number e;
}
  where
    on : (number : ℕ) (g : FunctionInfo) → (slice_get s.functions number ≡ Some g) ⊎ (number ≡ length s.functions) × (f ≡ g) → IsKnownFunction g
    on number g (inl k) = sound.known.functions number g k
    on number g (inr k) = subst (λ x. IsKnownFunction x) k.1 known

-- behind the declaration of a function
pub sound-function_name : (s : Scope) (f : FunctionInfo) (name : List ℕ) → IsSound s → IsKnownFunction f → IsSound (with_global (named name a_function_name) (record s { functions = s.functions ++ f ∷ [] }))
sound-function_name s f name sound known =
    sound-global (named name a_function_name) (record s { functions = s.functions ++ f ∷ [] }) (sound-function s f sound known) tt

sound-struct : (s : Scope) (d : StructInfo) → IsSound s → IsKnownStruct (known_words s.structs) d → IsSound (record s { structs = s.structs ++ d ∷ [] })
sound-struct s d sound known = record {
  known = record {
    tokens = sound.known.tokens;
    variables = λ name v e. sound.known.variables name v e;
    numbers = λ name v number e h. sound.known.numbers name v number e h;
    members = λ number member name e.
        let r = named-member (record s { structs = s.structs ++ d ∷ [] }) number member name (known-push [] s.structs d sound.structs known) e in
        (r.type, r.is);
    buffers = λ name number e. sound.known.buffers name number e;
    elements = λ number buffer e h. sound.known.elements number buffer e h;
    functions = λ number f e. sound.known.functions number f e;
  };
  structs = known-push [] s.structs d sound.structs known;
  struct_names = λ name number e. let h : number < length s.structs = sound.struct_names name number e in omega (arith, length-append s.structs (d ∷ []));
}

-- behind the declaration of a struct
pub sound-struct_name : (s : Scope) (d : StructInfo) (name : List ℕ) → IsSound s → IsKnownStruct (known_words s.structs) d → IsSound (with_global (named name (a_struct_name (length s.structs))) (record s { structs = s.structs ++ d ∷ [] }))
sound-struct_name s d name sound known =
    sound-global (named name (a_struct_name (length s.structs))) (record s { structs = s.structs ++ d ∷ [] }) (sound-struct s d sound known)
    (omega (arith, length-append s.structs (d ∷ [])))
