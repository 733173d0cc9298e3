-- What is known of indexes and of elements of buffers, and what they break.
use Rattle.std.proofs.Common.{◌≡◌, ◌∙◌, refl, sym, ap, ℕ, false, nat_le, if◌then◌else◌, List, [], ◌∷◌, ◌++◌, Option, None, Some, is_some, option_map, option_and_then, slice_get}
use Rattle.std.specs.Option.{is_none}
use Rattle.std.proofs.lemmas.Option.{same_Some}
use Rattle.hl_lexer.specs.declared.terminal.Terminal.{Terminal}
use Rattle.hl_lexer.specs.declared.terminal.Terminal.TheVariants as terminals
use Rattle.hl_parser.specs.declared.tree.Tree as held
use Rattle.hl_parser.specs.declared.tree.Tree.{Tree-F, out-Tree}
use Rattle.hl_parser.specs.declared.tree.Tree.TheVariants.{rolls-Primary}
use Rattle.hl_parser.specs.declared.tree.Tree.TheVariants as variants
use Rattle.hl_parser.specs.Trees.{Tree, Maybe, a_postfix, a_primary, absent, at_of, present}
use Rattle.hl_parser.specs.Views.{plain_of}
use Rattle.hl_meaning.specs.declared.ty.HlType.{HlType}
use Rattle.hl_meaning.specs.declared.ty.Kind.{Kind}
use Rattle.hl_meaning.specs.declared.ty.HlType.TheVariants as types
use Rattle.hl_meaning.specs.Trees.{Expr}
use Rattle.hl_meaning.specs.Types.{Ty, array_type, scalar_type, struct_type, vector_type, void_type}
use Rattle.hl_meaning.specs.Views.{plain_ty}
use Rattle.hl_meaning.proofs.Plain.{plain_ty-Scalar, plain_ty-Struct, plain_ty-Void}
use Rattle.hl_meaning.proofs.TypeLemmas.{type_cases}
use Rattle.hl_rules.specs.Constants.{constant_number}
use Rattle.hl_rules.specs.declared.found.Broken.{Broken}
use Rattle.hl_rules.specs.ExpressionRules.{is_not_indexed, is_past}
use Rattle.hl_rules.specs.Expressions.{bare_at, bracketed_code, code_of, element_in, index_expr, variable_code, word_code}
use Rattle.hl_rules.specs.Nodes.{Code, a_place_code}
use Rattle.hl_rules.specs.Parts.{Site, an_index, site}
use Rattle.hl_rules.specs.Rules.{noted}
use Rattle.hl_rules.specs.Scopes.{BufferInfo, Scope, Sort, a_buffer_name, a_function_name, a_struct_name, a_variable_name, sort_at}
use Rattle.hl_rules.specs.Sites.{buffer_or_used, expression_sites, used}
use Rattle.hl_rules.specs.Source.{terminal_at}
use Rattle.hl_rules.specs.Values.{Standing, Value, bracketed_value, buffer_at, buffer_named, buffer_sort, buffer_word, element_value, indexed, indexed_value, sort_value, stepped, unclear, value, value_of, word_value}
use Rattle.hl_rules.proofs.Noting.{noted-append, noted-index, noted-none}
use Rattle.hl_types.specs.Postfix.{element_count}
use Rattle.hl_types.proofs.DeclaredShapes.{by_layer, layer, of_layer}
use Rattle.hl_values.specs.declared.typed.Typed.{Typed}
use Rattle.hl_values.specs.Known.{Known, bracketed_known, known, known_of, plain_known}
use Rattle.hl_values.specs.Noted.{noted_index, noted_use}
use Rattle.hl_values.specs.Steps.{element_of}
use Rattle.hl_values.specs.TypedViews.{IsTyped}
use Rattle.hl_values.specs.Views as views
use Rattle.hl_values.proofs.ExpressionLemmas.{known-typed, typed-known}
use Rattle.hl_values.proofs.NoteLemmas.{used-noted}

-- ---- trees that are no words and nothing in parentheses

abbrev pub IsNoPrimary : held.Tree → Type 0
IsNoPrimary tree = (at : ℕ) (part arguments : Option held.Tree) → tree ≡ variants.Primary at part arguments → ⊥

named-none : (s : Scope) (tree : held.Tree) (form : Tree-F held.Tree) → out-Tree tree ≡ form → IsNoPrimary tree → None ≡ buffer_named s (layer form)
named-none s tree (Tree-F.Primary at part arguments) e other = absurd (other at part arguments (of_layer tree (Tree-F.Primary at part arguments) e ∙ rolls-Primary at part arguments))
named-none s tree form e other = refl

pub named-other : (s : Scope) (tree : held.Tree) → IsNoPrimary tree → None ≡ buffer_named s (plain_of tree)
named-other s tree other = named-none s tree (out-Tree tree) refl other ∙ ap (buffer_named s) (sym (by_layer tree))

bare-own : (tree : held.Tree) (form : Tree-F held.Tree) → out-Tree tree ≡ form → IsNoPrimary tree → at_of (layer form) ≡ bare_at (layer form)
bare-own tree (Tree-F.Primary at part arguments) e other = absurd (other at part arguments (of_layer tree (Tree-F.Primary at part arguments) e ∙ rolls-Primary at part arguments))
bare-own tree form e other = refl

pub bare-other : (tree : held.Tree) → IsNoPrimary tree → at_of (plain_of tree) ≡ bare_at (plain_of tree)
bare-other tree other =
    ap at_of (by_layer tree) ∙ (bare-own tree (out-Tree tree) refl other ∙ ap bare_at (sym (by_layer tree)))

pub bare-called : (at : ℕ) (part : Maybe) (arguments : Tree) → at ≡ bare_at (a_primary at part (present arguments))
bare-called at absent arguments = refl
bare-called at (present inner) arguments = refl

pub named-part : (s : Scope) (at : ℕ) (inner : Tree) (arguments : Maybe) → None ≡ buffer_named s (a_primary at (present inner) arguments)
named-part s at inner absent = refl
named-part s at inner (present arguments) = refl

-- ---- names of buffers

pub word-other : (s : Scope) (t : Terminal) (at : ℕ) → (t ≡ terminals.Name → ⊥) → None ≡ buffer_word s t at
word-other s terminals.Name at other = absurd (other refl)
word-other s _ at other = refl

-- what is known of the name of a buffer: nothing
abbrev nothing : Value
nothing = value None unclear

record IsNothing (v : Value) (code : Option Code) : Type 0 where
  no_value : v ≡ nothing
  no_code : code ≡ None

sort-nothing : (at number : ℕ) (sort : Option Sort) → buffer_sort sort ≡ Some number → IsNothing (sort_value sort) (variable_code at sort)
sort-nothing at number (Some (a_buffer_name n)) e = record { no_value = refl; no_code = refl }
sort-nothing at number (Some (a_struct_name n)) e = absurd (cc e)
sort-nothing at number (Some (a_variable_name v)) e = absurd (cc e)
sort-nothing at number (Some a_function_name) e = absurd (cc e)
sort-nothing at number None e = absurd (cc e)

word-nothing : (s : Scope) (t : Terminal) (at number : ℕ) → buffer_word s t at ≡ Some number → IsNothing (word_value s t at) (word_code s t at)
word-nothing s terminals.Name at number e = sort-nothing at number (sort_at s at) e
word-nothing s _ at number e = absurd (cc e)

named-nothing : (s : Scope) (o : Tree) (number : ℕ) → buffer_named s o ≡ Some number → IsNothing (value_of s o) (code_of s o)
named-nothing s (a_primary at absent absent) number e = word-nothing s (terminal_at s.tokens at) at number e
named-nothing s _ number e = absurd (cc e)

none-there : {A : Type 0} (o : Option A) → is_some o ≡ false → o ≡ None
none-there None e = refl
none-there (Some x) e = absurd (cc e)

-- ---- what is known

-- an index, as it is known of its parts
index-known : (s : Scope) (at mark : ℕ) (o i : Tree) (t : Typed) → plain_known t ≡ bracketed_known s at (buffer_named s o) (known_of s o) (known_of s i) (bare_at i) → IsTyped s (a_postfix at o mark None (present i)) t
index-known s at mark o i t e = known-typed s (a_postfix at o mark None (present i)) t e

-- what has no buffer is as what names none
code-unnamed : (s : Scope) (at n : ℕ) (index : Option Expr) → slice_get s.buffers n ≡ None → option_and_then (λ i. bracketed_code s at None i None) index ≡ option_and_then (λ i. bracketed_code s at (Some n) i None) index
code-unnamed s at n None e = refl
code-unnamed s at n (Some i) e = sym (ap (λ b. option_map (a_place_code at) (option_and_then (λ buffer. element_in buffer n i) b)) e)

unnamed : (s : Scope) (at : ℕ) (o : Tree) (index : Known) (bare : ℕ) (named : Option ℕ) → buffer_named s o ≡ named → is_some (option_and_then (λ n. slice_get s.buffers n) named) ≡ false → bracketed_known s at None (known_of s o) index bare ≡ bracketed_known s at named (known_of s o) index bare
unnamed s at o index bare None e h = refl
unnamed s at o index bare (Some n) e h =
    let gone : slice_get s.buffers n ≡ None = none-there (slice_get s.buffers n) h in
    let none : code_of s o ≡ None = (named-nothing s o n e).no_code in
    ap (λ c. known (bracketed_value None index.number (value_of s o)) None c)
    (ap (λ c. option_and_then (λ i. bracketed_code s at None i c) (option_and_then (index_expr bare index.number) index.code)) none ∙
    (code-unnamed s at n (option_and_then (index_expr bare index.number) index.code) gone ∙
    ap (λ c. option_and_then (λ i. bracketed_code s at (Some n) i c) (option_and_then (index_expr bare index.number) index.code)) (sym none))) ∙
    ap (λ b. known (bracketed_value b index.number (value_of s o)) None (option_and_then (λ i. bracketed_code s at (Some n) i (code_of s o)) (option_and_then (index_expr bare index.number) index.code))) (sym gone)

-- an index behind a value
pub index-typed : (s : Scope) (at mark : ℕ) (o i : Tree) (first second t : Typed) (bare : ℕ) → is_some (buffer_at s o) ≡ false → IsTyped s o first → IsTyped s i second → bare ≡ bare_at i → plain_known t ≡ bracketed_known s at None (plain_known first) (plain_known second) bare → IsTyped s (a_postfix at o mark None (present i)) t
index-typed s at mark o i first second t bare none h k same e =
    index-known s at mark o i t
    (e ∙ (ap (λ x. bracketed_known s at None x (plain_known second) bare) (typed-known s o first h) ∙
    (ap (λ x. bracketed_known s at None (known_of s o) x bare) (typed-known s i second k) ∙
    (ap (λ b. bracketed_known s at None (known_of s o) (known_of s i) b) same ∙
    unnamed s at o (known_of s i) (bare_at i) (buffer_named s o) refl none))))

-- an element of a buffer, as it is known of its index
abbrev pub element_known : (at : ℕ) → BufferInfo → (number : ℕ) → (index : Known) → (bare : ℕ) → Known
element_known at buffer number index bare =
    known (element_value buffer) None (option_and_then (λ i. option_map (a_place_code at) (element_in buffer number i)) (option_and_then (index_expr bare index.number) index.code))

pub element-typed : (s : Scope) (at mark : ℕ) (o i : Tree) (buffer : BufferInfo) (number : ℕ) (index t : Typed) (bare : ℕ) → Some number ≡ buffer_named s o → Some buffer ≡ slice_get s.buffers number → IsTyped s i index → bare ≡ bare_at i → plain_known t ≡ element_known at buffer number (plain_known index) bare → IsTyped s (a_postfix at o mark None (present i)) t
element-typed s at mark o i buffer number index t bare named there k same e =
    index-known s at mark o i t
    (e ∙ (ap (λ x. element_known at buffer number x bare) (typed-known s i index k) ∙
    (ap (λ b. element_known at buffer number (known_of s i) b) same ∙
    (ap (λ b. known (bracketed_value b (constant_number s i) (value_of s o)) None (option_and_then (λ x. option_map (a_place_code at) (option_and_then (λ info. element_in info number x) b)) (option_and_then (index_expr (bare_at i) (constant_number s i)) (code_of s i)))) there ∙
    ap (λ n. bracketed_known s at n (known_of s o) (known_of s i) (bare_at i)) named))))

-- ---- what is noted

abbrev index_noted : Option Broken → Scope → (o i : Tree) → Option Broken
index_noted f s o i = noted_index (noted_use (noted f (expression_sites s i)) (value_of s i) (at_of i)) (buffer_at s o) (value_of s o) (value_of s i) (constant_number s i) (at_of i)

behind-noted : (f g : Option Broken) (s : Scope) (o i : Tree) (before : List Site) → noted f before ≡ g → noted f (before ++ (used s i (expression_sites s i) ++ site s (an_index o i) ∷ [])) ≡ index_noted g s o i
behind-noted f g s o i before h =
    noted-append f before (used s i (expression_sites s i) ++ site s (an_index o i) ∷ []) ∙
    (ap (λ x. noted x (used s i (expression_sites s i) ++ site s (an_index o i) ∷ [])) h ∙
    (noted-append g (used s i (expression_sites s i)) (site s (an_index o i) ∷ []) ∙
    (ap (λ x. noted x (site s (an_index o i) ∷ [])) (used-noted g s i (expression_sites s i)) ∙
    noted-index (noted_use (noted g (expression_sites s i)) (value_of s i) (at_of i)) s o i)))

pub index-noted : (f : Option Broken) (s : Scope) (at mark : ℕ) (o i : Tree) → is_some (buffer_at s o) ≡ false → noted f (expression_sites s (a_postfix at o mark None (present i))) ≡ noted_index (noted_use (noted (noted_use (noted f (expression_sites s o)) (value_of s o) (at_of o)) (expression_sites s i)) (value_of s i) (at_of i)) None (value_of s o) (value_of s i) (constant_number s i) (at_of i)
index-noted f s at mark o i none =
    let g : Option Broken = noted_use (noted f (expression_sites s o)) (value_of s o) (at_of o) in
    behind-noted f g s o i (buffer_or_used s o (expression_sites s o))
    (ap (λ b. noted f (if b then [] else used s o (expression_sites s o))) none ∙ used-noted f s o (expression_sites s o)) ∙
    ap (λ b. noted_index (noted_use (noted g (expression_sites s i)) (value_of s i) (at_of i)) b (value_of s o) (value_of s i) (constant_number s i) (at_of i)) (none-there (buffer_at s o) none)

-- the buffer that a name names
buffer-is : (s : Scope) (o : Tree) (buffer : BufferInfo) (number : ℕ) → Some number ≡ buffer_named s o → Some buffer ≡ slice_get s.buffers number → buffer_at s o ≡ Some buffer
buffer-is s o buffer number named there = sym (there ∙ ap (λ n. option_and_then (λ k. slice_get s.buffers k) n) named)

pub element-noted : (f : Option Broken) (s : Scope) (at mark : ℕ) (o i : Tree) (buffer : BufferInfo) (number : ℕ) → Some number ≡ buffer_named s o → Some buffer ≡ slice_get s.buffers number → noted f (expression_sites s (a_postfix at o mark None (present i))) ≡ noted_index (noted_use (noted f (expression_sites s i)) (value_of s i) (at_of i)) (Some buffer) (value None unclear) (value_of s i) (constant_number s i) (at_of i)
element-noted f s at mark o i buffer number named there =
    let is : buffer_at s o ≡ Some buffer = buffer-is s o buffer number named there in
    behind-noted f f s o i (buffer_or_used s o (expression_sites s o))
    (ap (λ b. noted f (if is_some b then [] else used s o (expression_sites s o))) is ∙ noted-none f) ∙
    (ap (λ b. noted_index (noted_use (noted f (expression_sites s i)) (value_of s i) (at_of i)) b (value_of s o) (value_of s i) (constant_number s i) (at_of i)) is ∙
    ap (λ v. noted_index (noted_use (noted f (expression_sites s i)) (value_of s i) (at_of i)) (Some buffer) v (value_of s i) (constant_number s i) (at_of i)) (named-nothing s o number (sym named)).no_value)

-- what is noted of what is held
pub index-there : (old whole new : Option Broken) (s : Scope) (buffer : Option BufferInfo) (v : Value) (i : Tree) (index : Typed) (at : ℕ) → IsTyped s i index → at ≡ at_of i → old ≡ whole → new ≡ noted_index old buffer v (views.plain_value index) index.number at → new ≡ noted_index whole buffer v (value_of s i) (constant_number s i) (at_of i)
index-there old whole new s buffer v i index at typed same before h =
    h ∙ (ap (λ x. noted_index x buffer v (views.plain_value index) index.number at) before ∙
    (ap (λ w. noted_index whole buffer v w index.number at) typed.value ∙
    (ap (λ n. noted_index whole buffer v (value_of s i) n at) typed.number ∙
    ap (λ n. noted_index whole buffer v (value_of s i) (constant_number s i) n) same)))

-- ---- elements

pub count-other : (o : HlType) → ((e : HlType) (n : ℕ) → o ≡ types.Array e n → ⊥) → ((k : Kind) (n : ℕ) → o ≡ types.Vector k n → ⊥) → None ≡ element_count (plain_ty o)
count-other = type_cases (λ o. ((e : HlType) (n : ℕ) → o ≡ types.Array e n → ⊥) → ((k : Kind) (n : ℕ) → o ≡ types.Vector k n → ⊥) → None ≡ element_count (plain_ty o))
    (λ array vector. sym (ap element_count plain_ty-Void))
    (λ k array vector. sym (ap element_count (plain_ty-Scalar k)))
    (λ k n array vector. absurd (vector k n refl))
    (λ e n array vector. absurd (array e n refl))
    (λ n array vector. sym (ap element_count (plain_ty-Struct n)))

pub not_indexed-is : (t : Ty) → is_none (element_count t) ≡ is_not_indexed None (Some t)
not_indexed-is void_type = refl
not_indexed-is (scalar_type kind) = refl
not_indexed-is (vector_type kind size) = refl
not_indexed-is (array_type element size) = refl
not_indexed-is (struct_type number) = refl

pub past-at : (n size : ℕ) (t : Ty) → Some size ≡ element_count t → nat_le size n ≡ is_past (Some n) (Some t)
past-at n size (vector_type kind k) e = ap (λ x. nat_le x n) (same_Some size k e)
past-at n size (array_type element k) e = ap (λ x. nat_le x n) (same_Some size k e)
past-at n size void_type e = absurd (cc e)
past-at n size (scalar_type kind) e = absurd (cc e)
past-at n size (struct_type number) e = absurd (cc e)

pub past-other : (n : ℕ) (t : Ty) → None ≡ element_count t → false ≡ is_past (Some n) (Some t)
past-other n void_type e = refl
past-other n (scalar_type kind) e = refl
past-other n (struct_type number) e = refl
past-other n (vector_type kind k) e = absurd (cc e)
past-other n (array_type element k) e = absurd (cc e)

pub past-none : (number : Option ℕ) → false ≡ is_past number None
past-none None = refl
past-none (Some n) = refl

-- the value behind an index
pub indexed-there : (number : Option ℕ) (ty : Option Ty) (standing : Standing) (element : Ty) → Some element ≡ option_and_then element_of ty → value (Some element) (indexed number standing) ≡ indexed_value number ty standing
indexed-there number None standing element e = absurd (cc e)
indexed-there number (Some (array_type t size)) standing element e = ap (λ x. value (Some x) (indexed number standing)) (same_Some element t e)
indexed-there number (Some (vector_type kind size)) standing element e = ap (λ x. value (Some x) (indexed number standing)) (same_Some element (scalar_type kind) e)
indexed-there number (Some void_type) standing element e = absurd (cc e)
indexed-there number (Some (scalar_type kind)) standing element e = absurd (cc e)
indexed-there number (Some (struct_type n)) standing element e = absurd (cc e)

pub indexed-gone : (number : Option ℕ) (ty : Option Ty) (standing : Standing) → None ≡ option_and_then element_of ty → value None (stepped standing) ≡ indexed_value number ty standing
indexed-gone number None standing e = refl
indexed-gone number (Some void_type) standing e = refl
indexed-gone number (Some (scalar_type kind)) standing e = refl
indexed-gone number (Some (struct_type n)) standing e = refl
indexed-gone number (Some (array_type t size)) standing e = absurd (cc e)
indexed-gone number (Some (vector_type kind size)) standing e = absurd (cc e)
