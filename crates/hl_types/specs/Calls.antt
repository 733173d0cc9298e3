-- Calls, constructors and calls of methods, by what is known of their arguments.
use Rattle.std.specs.Prelude.{ℕ, ◌||◌, Bool, true, false, if◌then◌else◌, List, [], is_some, Option, None, Some, option_and_then, slice_get, bytes_eq}
use Rattle.std.specs.List.{list_any}
use Rattle.hl_parser.specs.Trees.{Trees}
use Rattle.hl_meaning.specs.declared.program.Copying.{Copying}
use Rattle.hl_meaning.specs.declared.program.Copying.TheVariants.{CopyIn}
use Rattle.hl_meaning.specs.Types.{Ty, component_count}
use Rattle.hl_overload.specs.declared.choice.ChoiceFault.{ChoiceFault}
use Rattle.hl_overload.specs.declared.choice.ChoiceFault.TheVariants.{Ambiguous, NoMatch}
use Rattle.hl_rules.specs.declared.found.Broken.{Broken}
use Rattle.hl_rules.specs.ExpressionRules.{is_itself, is_no_method, is_other_sum, is_unfit, is_unwritable, untargeted, unwritable_arguments}
use Rattle.hl_rules.specs.Expressions.{call_code, constructor_code, function_code, intrinsic_code, method_code}
use Rattle.hl_rules.specs.Found.{breaking, gathered}
use Rattle.hl_rules.specs.Intrinsics.{interlocked_form, intrinsic_named, method_of}
use Rattle.hl_rules.specs.Nodes.{Code}
use Rattle.hl_rules.specs.Scopes.{BufferInfo, Scope, Sort, a_function_name, spelled}
use Rattle.hl_rules.specs.Values.{Candidate, Standing, Value, argument_types, call_choice, call_type, called, function_result, intrinsic_type, is_no_operand, method_type}
use Rattle.hl_values.specs.Calls.{fault_of}
use Rattle.hl_values.specs.Known.{Known, known_value}
use Rattle.hl_values.specs.Noted.{noted_if}

-- ---- constructors

abbrev pub constructor_known : (at : ℕ) → Ty → Option (List Code) → Known
constructor_known at ty codes = known_value (Some ty) (option_and_then (λ l. constructor_code at ty l) codes)

abbrev pub is_other_constructor : Ty → List Value → Bool
is_other_constructor ty args = list_any (λ v. is_no_operand v.ty) args || is_other_sum (component_count ty) (argument_types args)

-- ---- intrinsic functions

abbrev pub intrinsic_known : (at number : ℕ) → List Value → Option (List Code) → Known
intrinsic_known at number args codes = known_value (intrinsic_type number args) (option_and_then (intrinsic_code at number) codes)

abbrev pub target_noted : Option Broken → Scope → (number : ℕ) → Trees → Option Broken
target_noted found s number trees = gathered found (breaking 40 (if is_some (interlocked_form number) then untargeted s trees else []))

abbrev pub intrinsic_noted : Option Broken → Scope → (at number : ℕ) → Trees → List Value → Option Broken
intrinsic_noted found s at number trees args = target_noted (noted_if found 35 (is_unfit (Some number) args) at) s number trees

-- ---- functions

-- the call of a candidate
abbrev pub callee_known : Scope → (at : ℕ) → Candidate → Option (List Code) → Known
callee_known s at candidate codes =
    known_value (function_result s candidate.number) (option_and_then (λ l. function_code s at candidate l) codes)

abbrev pub callee_noted : Option Broken → Scope → (at : ℕ) → Trees → Option Candidate → Option Broken
callee_noted found s at trees None = found
callee_noted found s at trees (Some candidate) =
    noted_if (gathered found (breaking 37 (unwritable_arguments s candidate.params trees))) 38 (is_itself s.inside (Some candidate)) at

-- whether an argument that is passed so is written and can't be
abbrev pub is_unwritable_for : Copying → Standing → Bool
is_unwritable_for CopyIn standing = false
is_unwritable_for _ standing = is_unwritable standing

-- why no candidate is called
abbrev pub fault_noted : Option Broken → (at : ℕ) → Option ChoiceFault → Option Broken
fault_noted found at None = found
fault_noted found at (Some NoMatch) = noted_if found 35 true at
fault_noted found at (Some (Ambiguous first second)) = noted_if found 36 true at

abbrev pub function_known : Scope → (at : ℕ) → List Value → Option (List Code) → Known
function_known s at args codes =
    known_value
    (option_and_then (λ c. function_result s c.number) (called s (spelled s at) args))
    (option_and_then (λ l. option_and_then (λ c. function_code s at c l) (called s (spelled s at) args)) codes)

abbrev pub function_noted : Option Broken → Scope → (at : ℕ) → Trees → List Value → Option Broken
function_noted found s at trees args =
    callee_noted
    (fault_noted (noted_if found 18 (bytes_eq (spelled s at) s.entry) at) at (fault_of (call_choice s (spelled s at) args)))
    s at trees (called s (spelled s at) args)

-- ---- calls

abbrev pub call_known : Scope → (at : ℕ) → Option Sort → List Value → Option (List Code) → Known
call_known s at sort args codes =
    known_value (call_type s (spelled s at) sort args) (option_and_then (call_code s at sort (called s (spelled s at) args)) codes)

-- of a name that isn't declared
abbrev pub undeclared_noted : Option Broken → Scope → (at : ℕ) → Trees → List Value → Option ℕ → Option Broken
undeclared_noted found s at trees args None = noted_if found 3 true at
undeclared_noted found s at trees args (Some number) = intrinsic_noted found s at number trees args

abbrev pub call_noted : Option Broken → Scope → (at : ℕ) → Trees → List Value → Option Sort → Option Broken
call_noted found s at trees args None = undeclared_noted found s at trees args (intrinsic_named (spelled s at))
call_noted found s at trees args (Some a_function_name) = function_noted found s at trees args
call_noted found s at trees args (Some _) = noted_if found 4 true at

-- ---- methods

-- the buffer of a number
abbrev pub buffer_of : Scope → Option ℕ → Option BufferInfo
buffer_of s buffer = option_and_then (λ number. slice_get s.buffers number) buffer

-- what the method of a name becomes, of the buffer of a number, where the first argument begins and is a constant number
abbrev pub named_code : BufferInfo → (at number : ℕ) → (name : List ℕ) → (first : ℕ) → (constant : Option ℕ) → List Code → Option Code
named_code buffer at number name first constant codes =
    option_and_then (λ method. method_code buffer at number method first constant codes) (method_of buffer name)

abbrev pub buffer_code : Scope → (at : ℕ) → (buffer : Option ℕ) → (name : List ℕ) → (first : ℕ) → (constant : Option ℕ) → List Code → Option Code
buffer_code s at buffer name first constant codes =
    option_and_then (λ number. option_and_then (λ info. named_code info at number name first constant codes) (slice_get s.buffers number)) buffer

abbrev pub method_known : Scope → (at : ℕ) → (buffer : Option ℕ) → (name : List ℕ) → (first : ℕ) → (constant : Option ℕ) → List Value → Option (List Code) → Known
method_known s at buffer name first constant args codes =
    known_value
    (option_and_then (λ info. method_type info name args) (buffer_of s buffer))
    (option_and_then (buffer_code s at buffer name first constant) codes)

abbrev pub method_noted : Option Broken → Scope → (buffer : Option ℕ) → (name : ℕ) → List Value → Option Broken
method_noted found s buffer name args = noted_if found 41 (is_no_method (buffer_of s buffer) (spelled s name) args) name
