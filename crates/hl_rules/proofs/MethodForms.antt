-- Calls of methods become what is known of them.
use Rattle.std.proofs.Common.{◌≡◌, ◌∙◌, refl, sym, ap, subst, ℕ, ◌≤◌, Bool, true, false, if◌then◌else◌, List, [], ◌∷◌, Option, None, Some}
use Rattle.std.specs.Prelude.{option_and_then, slice_get}
use Rattle.std.proofs.lemmas.Bool.{and_from, and_parts}
use Rattle.hl_lexer.specs.Numbers.{greatest_number}
use Rattle.hl_parser.specs.Trees.{Trees}
use Rattle.hl_meaning.specs.declared.ty.Kind.{Kind}
use Rattle.hl_meaning.specs.declared.ty.Kind.TheVariants.{Int as IntKind, Uint as UintKind}
use Rattle.hl_meaning.specs.Types.{Ty, components_type, is_of, scalar_type, uint_type, void_type}
use Rattle.hl_meaning.specs.Conversions.{converts}
use Rattle.hl_meaning.specs.Places as places
use Rattle.hl_meaning.specs.Places.{is_raw, is_writable, is_writable_place}
use Rattle.hl_meaning.specs.Trees.{Expr, a_location, an_expr, bytes_target, element_root, method_form, no_expr, no_parts, read_form, some_expr, type_of}
use Rattle.hl_meaning.specs.WellFormed.{IsExpr, IsResult}
use Rattle.hl_rules.specs.declared.interlocked.Interlocked.{Interlocked}
use Rattle.hl_rules.specs.declared.interlocked.Method.{Method}
use Rattle.hl_rules.specs.declared.interlocked.Method.TheVariants.{DoesAtomic, LoadsElement, LoadsWords, StoresWords}
use Rattle.hl_rules.specs.Expressions.{element_in, first_at, first_number, index_expr, method_code}
use Rattle.hl_rules.specs.Intrinsics.{Operands, interlocked_form, operands_of}
use Rattle.hl_rules.specs.Nodes.{Code, a_value, a_value_code, bytes_operand, converted_code, interlocked, type_of_code, value_of_code}
use Rattle.hl_rules.specs.Scopes.{BufferInfo, Scope}
use Rattle.hl_rules.specs.Values.{Value, atomic_operands_fit, converts_to, is_word, method_fits, method_gives, operands_fit, plain_value, value}
use Rattle.hl_rules.proofs.Arguments.{ArgumentsBecome, IsArgument, argument-stands}
use Rattle.hl_rules.proofs.AtomicForms.{bytes-original, interlocked-becomes}
use Rattle.hl_rules.proofs.AtomicOperands.{AreOperands, operands-there}
use Rattle.hl_rules.proofs.Becoming.{Becomes, IsConverted, converted-there}
use Rattle.hl_rules.proofs.Fitting.{Fits, FitsBuffer, IsKnown, IsStanding}
use Rattle.hl_rules.proofs.IndexForms.{IsIndex, index-there}
use Rattle.hl_rules.proofs.Methods.{IsMethodOf, a_load, a_store, an_atomic, an_element_load}
use Rattle.hl_rules.proofs.PlaceForms.{buffer-writes, element-stands, element-there}
use Rattle.hl_rules.proofs.ShortTypes.{components-short, declared-result, short-result}

-- ---- arguments

-- an argument that converts to a type
fits-converts : (s : Scope) (v : Value) (code : Code) (ty : Ty) → IsArgument s v code → converts_to ty v ≡ true → converts (type_of_code code) ty ≡ true
fits-converts s v code ty a e = sym (ap (λ o. converts_to ty (value o v.standing)) a.type) ∙ e

fits-converted : (s : Scope) (v : Value) (code : Code) (ty : Ty) → IsArgument s v code → converts_to ty v ≡ true → IsConverted ty (value_of_code code) (converted_code ty code)
fits-converted s v code ty a e = converted-there ty (value_of_code code) (fits-converts s v code ty a e)

uint-result : (env : places.Scope) → IsResult env.structs uint_type
uint-result env = short-result env.structs uint_type tt

-- a byte-address buffer of the program
raw-buffer : (env : places.Scope) (number : ℕ) (buffer : BufferInfo) → FitsBuffer env number buffer → buffer.raw ≡ true → is_raw (slice_get env.resources number) ≡ true
raw-buffer env number buffer f e = ap (λ o. is_raw o) f.there ∙ (f.raw ∙ e)

-- ---- words

load-made : (s : Scope) (buffer : BufferInfo) (at number count : ℕ) (trees : Trees) (code : Code) (address : Expr) → converted_code uint_type code ≡ Some address → method_code buffer at number (LoadsWords count) (first_at trees) (first_number s trees) (code ∷ []) ≡ a_value (components_type UintKind count) at (method_form number count address no_expr)
load-made s buffer at number count trees code address e = rw e refl

load-becomes : (s : Scope) (at number count : ℕ) (buffer : BufferInfo) (trees : Trees) (values : List Value) (codes : List Code) → slice_get s.buffers number ≡ Some buffer → buffer.raw ≡ true → 1 ≤ count → count ≤ 4 → ArgumentsBecome s values codes → method_fits (LoadsWords count) values ≡ true → Becomes s (plain_value (Some (components_type UintKind count))) (method_code buffer at number (LoadsWords count) (first_at trees) (first_number s trees) codes)
load-becomes s at number count buffer trees (v ∷ []) (code ∷ []) there raw low high h e = given (fits-converted s v code uint_type h.0 e)
  where
    given : IsConverted uint_type (value_of_code code) (converted_code uint_type code) → Becomes s (plain_value (Some (components_type UintKind count))) (method_code buffer at number (LoadsWords count) (first_at trees) (first_number s trees) (code ∷ []))
    given c = record {
      to = a_value_code (an_expr (components_type UintKind count) at (method_form number count c.to no_expr));
      is = load-made s buffer at number count trees code c.to c.is;
      type = refl;
      agrees = tt;
      fits = λ env f. (
        short-result env.structs (components_type UintKind count) (components-short UintKind count low high),
        (
          raw-buffer env number buffer (f.buffers number buffer there) raw,
          low,
          high,
          c.stands env (argument-stands s v code h.0 env f) (uint-result env),
          c.type,
          refl,
        ),
      );
    }
load-becomes s at number count buffer trees [] codes there raw low high h e = absurd (cc e)
load-becomes s at number count buffer trees (v ∷ w ∷ values) codes there raw low high h e = absurd (cc e)
load-becomes s at number count buffer trees (v ∷ []) [] there raw low high h e = absurd h
load-becomes s at number count buffer trees (v ∷ []) (code ∷ other ∷ codes) there raw low high h e = absurd h.1

store-made : (s : Scope) (buffer : BufferInfo) (at number count : ℕ) (trees : Trees) (code other : Code) (address stored : Expr) → converted_code uint_type code ≡ Some address → converted_code (components_type UintKind count) other ≡ Some stored → method_code buffer at number (StoresWords count) (first_at trees) (first_number s trees) (code ∷ other ∷ []) ≡ a_value void_type at (method_form number count address (some_expr stored))
store-made s buffer at number count trees code other address stored e h = rw e (rw h refl)

store-becomes : (s : Scope) (at number count : ℕ) (buffer : BufferInfo) (trees : Trees) (values : List Value) (codes : List Code) → slice_get s.buffers number ≡ Some buffer → buffer.raw ≡ true → buffer.writable ≡ true → 1 ≤ count → count ≤ 4 → ArgumentsBecome s values codes → method_fits (StoresWords count) values ≡ true → Becomes s (plain_value (Some void_type)) (method_code buffer at number (StoresWords count) (first_at trees) (first_number s trees) codes)
store-becomes s at number count buffer trees (v ∷ w ∷ []) (code ∷ other ∷ []) there raw writable low high h e =
    let p : (converts_to uint_type v ≡ true) × (converts_to (components_type UintKind count) w ≡ true) = and_parts (converts_to uint_type v) (converts_to (components_type UintKind count) w) e in
    given (fits-converted s v code uint_type h.0 p.0) (fits-converted s w other (components_type UintKind count) h.1.0 p.1)
  where
    given : IsConverted uint_type (value_of_code code) (converted_code uint_type code) → IsConverted (components_type UintKind count) (value_of_code other) (converted_code (components_type UintKind count) other) → Becomes s (plain_value (Some void_type)) (method_code buffer at number (StoresWords count) (first_at trees) (first_number s trees) (code ∷ other ∷ []))
    given c d = record {
      to = a_value_code (an_expr void_type at (method_form number count c.to (some_expr d.to)));
      is = store-made s buffer at number count trees code other c.to d.to c.is d.is;
      type = refl;
      agrees = tt;
      fits = λ env f. (
        tt,
        (
          raw-buffer env number buffer (f.buffers number buffer there) raw,
          low,
          high,
          c.stands env (argument-stands s v code h.0 env f) (uint-result env),
          c.type,
          (
            refl,
            buffer-writes env number buffer (f.buffers number buffer there) writable,
            d.stands env (argument-stands s w other h.1.0 env f) (short-result env.structs (components_type UintKind count) (components-short UintKind count low high)),
            d.type,
          ),
        ),
      );
    }
store-becomes s at number count buffer trees [] codes there raw writable low high h e = absurd (cc e)
store-becomes s at number count buffer trees (v ∷ []) codes there raw writable low high h e = absurd (cc e)
store-becomes s at number count buffer trees (v ∷ w ∷ x ∷ values) codes there raw writable low high h e = absurd (cc e)
store-becomes s at number count buffer trees (v ∷ w ∷ []) [] there raw writable low high h e = absurd h
store-becomes s at number count buffer trees (v ∷ w ∷ []) (code ∷ []) there raw writable low high h e = absurd h.1
store-becomes s at number count buffer trees (v ∷ w ∷ []) (code ∷ other ∷ third ∷ codes) there raw writable low high h e = absurd h.1.1

-- ---- interlocked operations

atomic-made : (s : Scope) (buffer : BufferInfo) (at number : ℕ) (form : Interlocked) (trees : Trees) (code : Code) (codes : List Code) (o : Operands Code) (address : Expr) → operands_of form codes ≡ Some o → converted_code uint_type code ≡ Some address → method_code buffer at number (DoesAtomic form) (first_at trees) (first_number s trees) (code ∷ codes) ≡ interlocked at (bytes_target number address) (bytes_operand (type_of_code o.value)) form o
atomic-made s buffer at number form trees code codes o address e h = rw e (rw h refl)

record IsFitting (form : Interlocked) (values : List Value) : Type 0 where
  o : Operands Value
  is : operands_of form values ≡ Some o
  fit : operands_fit is_word o ≡ true

fitting-there : (form : Interlocked) (values : List Value) → atomic_operands_fit (operands_of form values) ≡ true → IsFitting form values
fitting-there form values e = on (operands_of form values) refl e
  where
    on : (o : Option (Operands Value)) → operands_of form values ≡ o → atomic_operands_fit o ≡ true → IsFitting form values
    on None h k = absurd (cc k)
    on (Some o) h k = record { o = o; is = h; fit = k }

-- an operation on a word of a buffer
bytes-becomes : (s : Scope) (at number place : ℕ) (form : Interlocked) (buffer : BufferInfo) (address : Expr) (from : Ty) (o : Operands Value) (made : Option (Operands Code)) (a : AreOperands s form.compares form.original o made) → interlocked_form place ≡ Some form → slice_get s.buffers number ≡ Some buffer → buffer.raw ≡ true → buffer.writable ≡ true → operands_fit is_word o ≡ true → type_of address ≡ uint_type → ((env : places.Scope) → Fits env s → IsExpr env address) → Becomes s (plain_value (Some void_type)) (interlocked at (bytes_target number address) (bytes_operand from) form a.to)
bytes-becomes s at number place form buffer address from o made a found there raw writable fit type stands = on (is_of IntKind from)
  where
    of_kind : (kind : Kind) → is_word (scalar_type kind) ≡ true → Becomes s (plain_value (Some void_type)) (interlocked at (bytes_target number address) (scalar_type kind) form a.to)
    of_kind kind word =
        interlocked-becomes s at (bytes_target number address) kind place form is_word o made a found word fit
        (λ env f. (and_from (is_raw (slice_get env.resources number)) (is_writable (slice_get env.resources number)) (raw-buffer env number buffer (f.buffers number buffer there) raw) (buffer-writes env number buffer (f.buffers number buffer there) writable), stands env f, type))
        (λ env k original h w own. bytes-original env number address k original h w own)

    on : (int : Bool) → Becomes s (plain_value (Some void_type)) (interlocked at (bytes_target number address) (if int then scalar_type IntKind else uint_type) form a.to)
    on true = of_kind IntKind refl
    on false = of_kind UintKind refl

atomic-becomes : (s : Scope) (at number place : ℕ) (form : Interlocked) (buffer : BufferInfo) (trees : Trees) (values : List Value) (codes : List Code) → interlocked_form place ≡ Some form → slice_get s.buffers number ≡ Some buffer → buffer.raw ≡ true → buffer.writable ≡ true → ArgumentsBecome s values codes → method_fits (DoesAtomic form) values ≡ true → Becomes s (plain_value (Some void_type)) (method_code buffer at number (DoesAtomic form) (first_at trees) (first_number s trees) codes)
atomic-becomes s at number place form buffer trees (v ∷ values) (code ∷ codes) found there raw writable h e =
    let p : (converts_to uint_type v ≡ true) × (atomic_operands_fit (operands_of form values) ≡ true) = and_parts (converts_to uint_type v) (atomic_operands_fit (operands_of form values)) e in
    fitted (fits-converted s v code uint_type h.0 p.0) (fitting-there form values p.1)
  where
    given : IsConverted uint_type (value_of_code code) (converted_code uint_type code) → (p : IsFitting form values) → AreOperands s form.compares form.original p.o (operands_of form codes) → Becomes s (plain_value (Some void_type)) (method_code buffer at number (DoesAtomic form) (first_at trees) (first_number s trees) (code ∷ codes))
    given c p q =
        subst (λ o. Becomes s (plain_value (Some void_type)) o) (sym (atomic-made s buffer at number form trees code codes q.to c.to q.is c.is))
        (bytes-becomes s at number place form buffer c.to (type_of_code q.to.value) p.o (operands_of form codes) q found there raw writable p.fit c.type
        (λ env f. c.stands env (argument-stands s v code h.0 env f) (uint-result env)))

    fitted : IsConverted uint_type (value_of_code code) (converted_code uint_type code) → IsFitting form values → Becomes s (plain_value (Some void_type)) (method_code buffer at number (DoesAtomic form) (first_at trees) (first_number s trees) (code ∷ codes))
    fitted c p = given c p (operands-there s form values codes p.o h.1 p.is)
atomic-becomes s at number place form buffer trees [] codes found there raw writable h e = absurd (cc e)
atomic-becomes s at number place form buffer trees (v ∷ values) [] found there raw writable h e = absurd h

-- ---- elements

element-made : (s : Scope) (buffer : BufferInfo) (at number : ℕ) (trees : Trees) (code : Code) (index : Expr) (ty : Ty) → index_expr (first_at trees) (first_number s trees) code ≡ Some index → element_in buffer number index ≡ Some (a_location ty (element_root number index) no_parts) → method_code buffer at number LoadsElement (first_at trees) (first_number s trees) (code ∷ []) ≡ a_value ty at (read_form (a_location ty (element_root number index) no_parts))
element-made s buffer at number trees code index ty e h = rw e (rw h refl)

element-becomes : (s : Scope) (at number : ℕ) (buffer : BufferInfo) (ty : Ty) (trees : Trees) (values : List Value) (codes : List Code) → ((n : ℕ) → first_number s trees ≡ Some n → n ≤ greatest_number) → slice_get s.buffers number ≡ Some buffer → buffer.raw ≡ false → buffer.element ≡ Some ty → ArgumentsBecome s values codes → method_fits LoadsElement values ≡ true → Becomes s (plain_value (Some ty)) (method_code buffer at number LoadsElement (first_at trees) (first_number s trees) codes)
element-becomes s at number buffer ty trees (v ∷ []) (code ∷ []) small there raw element h e =
    given (index-there s (first_at trees) (first_number s trees) code small (fits-converts s v code uint_type h.0 e) (argument-stands s v code h.0))
  where
    given : IsIndex s (first_number s trees) (index_expr (first_at trees) (first_number s trees) code) → Becomes s (plain_value (Some ty)) (method_code buffer at number LoadsElement (first_at trees) (first_number s trees) (code ∷ []))
    given i = record {
      to = a_value_code (an_expr ty at (read_form (a_location ty (element_root number i.to) no_parts)));
      is = element-made s buffer at number trees code i.to ty i.is (sym (ap (λ o. option_and_then (λ b. element_in b number i.to) o) there) ∙ element-there s number buffer ty i.to there raw element);
      type = refl;
      agrees = tt;
      fits = λ env f.
          let standing : IsStanding env buffer.writable buffer.writable [] ty (element_root number i.to) no_parts = element-stands env number buffer ty i.to (f.buffers number buffer there) raw element (i.stands env f) i.type in
          (declared-result env.structs ty standing.is.0, (standing.is, refl));
    }
element-becomes s at number buffer ty trees [] codes small there raw element h e = absurd (cc e)
element-becomes s at number buffer ty trees (v ∷ w ∷ values) codes small there raw element h e = absurd (cc e)
element-becomes s at number buffer ty trees (v ∷ []) [] small there raw element h e = absurd h
element-becomes s at number buffer ty trees (v ∷ []) (code ∷ other ∷ codes) small there raw element h e = absurd h.1

-- ---- methods

-- a method of a buffer whose arguments fit
pub method-becomes : (s : Scope) → IsKnown s → (at number : ℕ) (buffer : BufferInfo) (method : Method) (trees : Trees) (values : List Value) (codes : List Code) → ((n : ℕ) → first_number s trees ≡ Some n → n ≤ greatest_number) → slice_get s.buffers number ≡ Some buffer → IsMethodOf buffer.raw buffer.writable method → ArgumentsBecome s values codes → method_fits method values ≡ true → Becomes s (plain_value (method_gives buffer method)) (method_code buffer at number method (first_at trees) (first_number s trees) codes)
method-becomes s known at number buffer method trees values codes small there (a_load count is raw low high) h e =
    subst (λ m. Becomes s (plain_value (method_gives buffer m)) (method_code buffer at number m (first_at trees) (first_number s trees) codes)) (sym is)
    (load-becomes s at number count buffer trees values codes there raw low high h (ap (λ m. method_fits m values) (sym is) ∙ e))
method-becomes s known at number buffer method trees values codes small there (a_store count is raw writable low high) h e =
    subst (λ m. Becomes s (plain_value (method_gives buffer m)) (method_code buffer at number m (first_at trees) (first_number s trees) codes)) (sym is)
    (store-becomes s at number count buffer trees values codes there raw writable low high h (ap (λ m. method_fits m values) (sym is) ∙ e))
method-becomes s known at number buffer method trees values codes small there (an_atomic place form is found raw writable) h e =
    subst (λ m. Becomes s (plain_value (method_gives buffer m)) (method_code buffer at number m (first_at trees) (first_number s trees) codes)) (sym is)
    (atomic-becomes s at number place form buffer trees values codes found there raw writable h (ap (λ m. method_fits m values) (sym is) ∙ e))
method-becomes s known at number buffer method trees values codes small there (an_element_load is raw) h e =
    let element : (ty : Ty) × (buffer.element ≡ Some ty) = known.elements number buffer there raw in
    subst (λ m. Becomes s (plain_value (method_gives buffer m)) (method_code buffer at number m (first_at trees) (first_number s trees) codes)) (sym is)
    (subst (λ o. Becomes s (plain_value o) (method_code buffer at number LoadsElement (first_at trees) (first_number s trees) codes)) (sym element.1)
    (element-becomes s at number buffer element.0 trees values codes small there raw element.1 h (ap (λ m. method_fits m values) (sym is) ∙ e)))
