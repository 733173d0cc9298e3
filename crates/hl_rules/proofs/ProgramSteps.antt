-- Behind each item what is known stands in the program.
use Rattle.std.proofs.Common.{◌≡◌, ◌∙◌, ◌⊎◌, inl, inr, refl, sym, ap, subst, arith, ℕ, suc, ◌<◌, List, [], ◌∷◌, ◌++◌, length, Option, Some, length-append}
use Rattle.std.specs.Prelude.{slice_get}
use Rattle.std.proofs.lemmas.Option.{slice_get_within}
use Rattle.hl_parser.specs.Trees.{Tree, Trees}
use Rattle.hl_meaning.specs.Programs.{Constant, FunctionDef, Resource, StructDef, Variable}
use Rattle.hl_meaning.specs.Types.{Ty}
use Rattle.hl_meaning.specs.WellFormed.{IsDeclared}
use Rattle.hl_rules.specs.Declarations.{buffer_info, function_info, struct_info, with_function}
use Rattle.hl_rules.specs.Elaboration.{resource}
use Rattle.hl_rules.specs.Scopes.{BufferInfo, FunctionInfo, Scope, a_buffer_name, a_function_name, a_struct_name, named, spelled, with_global}
use Rattle.hl_rules.specs.Statements.{struct_defs}
use Rattle.hl_rules.proofs.CalleeForms.{function-fits, function-known}
use Rattle.hl_rules.proofs.Fitting.{FitsBuffer, FitsFunction}
use Rattle.hl_rules.proofs.FunctionEntry.{made_function}
use Rattle.hl_rules.proofs.FunctionItems.{IsFunctionThere}
use Rattle.hl_rules.proofs.GlobalForms.{get-push, sound-buffer_name, sound-function_name, sound-struct_name}
use Rattle.hl_meaning.proofs.LayoutForms.{get-front, get-next}
use Rattle.hl_rules.proofs.ProgramScopes.{Stands, program_env}
use Rattle.hl_rules.proofs.ResourceForms.{IsKnownBuffer, buffer-fits}
use Rattle.hl_rules.proofs.ScopeForms.{FitSort, FitsNames, declared-there, sorts-global}
use Rattle.hl_rules.proofs.StructForms.{IsKnownStruct, IsKnownType, known_words}
use Rattle.hl_rules.proofs.TreeShapes.{AllTrees, IsParam}

pub length-push : {A : Type 0} (xs : List A) (x : A) (n : ℕ) → length xs ≡ n → length (xs ++ x ∷ []) ≡ suc n
length-push xs x n e = omega (arith, length-append xs (x ∷ []), e)

length-both : {A B : Type 0} (xs : List A) (x : A) (ys : List B) (y : B) → length xs ≡ length ys → length (xs ++ x ∷ []) ≡ length (ys ++ y ∷ [])
length-both xs x ys y e = omega (arith, length-append xs (x ∷ []), length-append ys (y ∷ []), e)

-- what stands behind as many
pub get-at : {A : Type 0} (all xs : List A) (x : A) (more : List A) (n : ℕ) → all ≡ xs ++ x ∷ more → length xs ≡ n → slice_get all n ≡ Some x
get-at all xs x more n e h = ap (λ l. slice_get l n) e ∙ (ap (λ k. slice_get (xs ++ x ∷ more) k) (sym h) ∙ get-next xs x more)

module _ (structs : List StructDef) (resources : List Resource) (shared : List Variable) (constants : List Constant) (s : Scope) (rs : List Resource) (ss : List Variable) (cs : List Constant) (fs : List FunctionDef) (stands : Stands (program_env structs resources shared constants) s rs ss cs fs) (more : List StructDef) (prefix : structs ≡ struct_defs s.structs ++ more) where
  names-here : FitsNames (program_env structs resources shared constants) s
  names-here = record { more = more; prefix = prefix; names = stands.names }

  declared-here : (ty : Ty) → IsKnownType (known_words s.structs) ty → IsDeclared structs ty
  declared-here ty known = declared-there (program_env structs resources shared constants) s ty stands.sound names-here known

  -- ---- functions

  pub stands-function : (result : Tree) (name : ℕ) (params : Trees) (block : Tree) (there : IsFunctionThere (program_env structs resources shared constants) s fs result name params block) → AllTrees (IsParam s.tokens) params → Stands (program_env structs resources shared constants) (with_function s result name params) rs ss cs (fs ++ made_function s result name params block there.known.type there.code ∷ [])
  stands-function result name params block there shape = record {
    sound = sound-function_name s (function_info s result name params) (spelled s name) stands.sound (function-known s result name params there.typed there.known);
    outside = stands.outside;
    resources = stands.resources;
    shared = stands.shared;
    constants = stands.constants;
    functions = length-both fs (made_function s result name params block there.known.type there.code) s.functions (function_info s result name params) stands.functions;
    buffers = stands.buffers;
    names = sorts-global (FitSort (program_env structs resources shared constants)) (record s { functions = s.functions ++ function_info s result name params ∷ [] }) (named (spelled s name) a_function_name) (λ n sort e. stands.names n sort e) tt;
    callees = λ number f e. on number f (get-push s.functions (function_info s result name params) number f e);
  }
    where
      def : FunctionDef
      def = made_function s result name params block there.known.type there.code

      on : (number : ℕ) (f : FunctionInfo) → (slice_get s.functions number ≡ Some f) ⊎ (number ≡ length s.functions) × (function_info s result name params ≡ f) → FitsFunction (program_env structs resources shared constants) f (slice_get (fs ++ def ∷ []) number)
      on number f (inl e) =
          let within : number < length s.functions = slice_get_within s.functions number f e in
          subst (λ o. FitsFunction (program_env structs resources shared constants) f o) (sym (get-front fs (def ∷ []) number (omega (arith, within, stands.functions)))) (stands.callees number f e)
      on number f (inr e) =
          subst (λ o. FitsFunction (program_env structs resources shared constants) f o) (sym (get-at (fs ++ def ∷ []) fs def [] number refl (stands.functions ∙ sym e.0)))
          (subst (λ g. FitsFunction (program_env structs resources shared constants) g (Some def)) e.1
          (function-fits (program_env structs resources shared constants) s s.tokens result name params block there.code there.typed there.known shape declared-here))

  -- ---- structs

  pub stands-struct : (name : ℕ) (members : Trees) → IsKnownStruct (known_words s.structs) (struct_info s name members) → Stands (program_env structs resources shared constants) (with_global (named (spelled s name) (a_struct_name (length s.structs))) (record s { structs = s.structs ++ struct_info s name members ∷ [] })) rs ss cs fs
  stands-struct name members known = record {
    sound = sound-struct_name s (struct_info s name members) (spelled s name) stands.sound known;
    outside = stands.outside;
    resources = stands.resources;
    shared = stands.shared;
    constants = stands.constants;
    functions = stands.functions;
    buffers = stands.buffers;
    names = sorts-global (FitSort (program_env structs resources shared constants)) (record s { structs = s.structs ++ struct_info s name members ∷ [] }) (named (spelled s name) (a_struct_name (length s.structs))) (λ n sort e. stands.names n sort e) tt;
    callees = stands.callees;
  }

  -- ---- buffers

  pub stands-buffer : (kind : Tree) (name : ℕ) (register space : Option ℕ) (behind : List Resource) → IsKnownBuffer s (buffer_info s kind) → resources ≡ rs ++ resource s (buffer_info s kind) name register space ∷ behind → Stands (program_env structs resources shared constants) (with_global (named (spelled s name) (a_buffer_name (length s.buffers))) (record s { buffers = s.buffers ++ buffer_info s kind ∷ [] })) (rs ++ resource s (buffer_info s kind) name register space ∷ []) ss cs fs
  stands-buffer kind name register space behind known e = record {
    sound = sound-buffer_name s (buffer_info s kind) (spelled s name) stands.sound (λ h. ((known.element h).type, (known.element h).is));
    outside = stands.outside;
    resources = length-both rs (resource s (buffer_info s kind) name register space) s.buffers (buffer_info s kind) stands.resources;
    shared = stands.shared;
    constants = stands.constants;
    functions = stands.functions;
    buffers = λ number buffer h. on number buffer (get-push s.buffers (buffer_info s kind) number buffer h);
    names = sorts-global (FitSort (program_env structs resources shared constants)) (record s { buffers = s.buffers ++ buffer_info s kind ∷ [] }) (named (spelled s name) (a_buffer_name (length s.buffers))) (λ n sort h. stands.names n sort h) tt;
    callees = stands.callees;
  }
    where
      on : (number : ℕ) (buffer : BufferInfo) → (slice_get s.buffers number ≡ Some buffer) ⊎ (number ≡ length s.buffers) × (buffer_info s kind ≡ buffer) → FitsBuffer (program_env structs resources shared constants) number buffer
      on number buffer (inl h) = stands.buffers number buffer h
      on number buffer (inr h) =
          subst (λ b. FitsBuffer (program_env structs resources shared constants) number b) h.1
          (buffer-fits (program_env structs resources shared constants) s (buffer_info s kind) number name register space stands.sound names-here known (get-at resources rs (resource s (buffer_info s kind) name register space) behind number e (stands.resources ∙ sym h.0)))
