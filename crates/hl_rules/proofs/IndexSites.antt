-- Indexes among free sites.
use Rattle.std.proofs.Common.{◌≡◌, ◌∙◌, refl, sym, ap, subst, ℕ, true, false, ◌&&◌, not, if◌then◌else◌, List, [], ◌∷◌, ◌++◌, Option, None, Some}
use Rattle.std.specs.Prelude.{is_none, is_some, option_and_then, slice_get}
use Rattle.std.proofs.lemmas.Option.{none-some, same_Some}
use Rattle.hl_lexer.specs.declared.terminal.Terminal.{Terminal}
use Rattle.hl_lexer.specs.declared.terminal.Terminal.TheVariants as terminals
use Rattle.hl_parser.specs.Trees.{Tree, a_postfix, a_primary, absent, at_of, present}
use Rattle.hl_meaning.specs.Types.{Ty, array_type, is_scalar, is_void, scalar_type, struct_type, uint_type, vector_type, void_type}
use Rattle.hl_meaning.specs.Trees.{Expr, type_of}
use Rattle.hl_rules.specs.Constants.{constant_number}
use Rattle.hl_rules.specs.ExpressionRules.{is_not_indexed, is_past, needs_constant_index}
use Rattle.hl_rules.specs.Expressions.{bare_at, bracketed_code, code_of, index_expr, indexed_code}
use Rattle.hl_rules.specs.Nodes.{type_of_code}
use Rattle.hl_rules.specs.Parts.{Site, an_index, site}
use Rattle.hl_rules.specs.Scopes.{BufferInfo, Scope, Sort, a_buffer_name, a_function_name, a_struct_name, a_variable_name, sort_at, spelled}
use Rattle.hl_rules.specs.Sites.{buffer_or_used, expression_sites, used}
use Rattle.hl_rules.specs.Source.{terminal_at}
use Rattle.hl_rules.specs.Values.{is_known, bracketed_value, buffer_at, buffer_named, buffer_sort, buffer_word, element_value, indexed_value, standing_in, type_in, value_of}
use Rattle.hl_rules.proofs.Becoming.{Becomes, IsValueIn, not-true}
use Rattle.hl_rules.proofs.ConstantNumbers.{number-fits}
use Rattle.hl_rules.proofs.Fitting.{IsKnown}
use Rattle.hl_rules.proofs.Free.{IsFree, Obeys, free-first, free-left, free-right, not_broken}
use Rattle.hl_rules.proofs.IndexForms.{IsIndex, index-there, indexed-becomes, is_indexed, scalar-converts}
use Rattle.hl_rules.proofs.OperatorSites.{Known, known-stands, of-one, type-known, used-of}
use Rattle.hl_rules.proofs.PlaceForms.{element-becomes}
use Rattle.hl_rules.proofs.PostfixSites.{IsBuffer, buffer-there}

-- ---- names of buffers

sort-buffer : (sort : Option Sort) (number : ℕ) → buffer_sort sort ≡ Some number → sort ≡ Some (a_buffer_name number)
sort-buffer (Some (a_buffer_name n)) number e = ap (λ m. Some (a_buffer_name m)) (same_Some n number e)
sort-buffer (Some (a_struct_name n)) number e = absurd (cc e)
sort-buffer (Some (a_variable_name v)) number e = absurd (cc e)
sort-buffer (Some a_function_name) number e = absurd (cc e)
sort-buffer None number e = absurd (cc e)

word-buffer : (s : Scope) (terminal : Terminal) (at number : ℕ) → buffer_word s terminal at ≡ Some number → sort_at s at ≡ Some (a_buffer_name number)
word-buffer s terminals.Name at number e = sort-buffer (sort_at s at) number e
word-buffer s _ at number e = absurd (cc e)

-- what names a buffer names one that is there
named-there : (s : Scope) → IsKnown s → (operand : Tree) (number : ℕ) → buffer_named s operand ≡ Some number → (buffer : BufferInfo) × (slice_get s.buffers number ≡ Some buffer)
named-there s known (a_primary at absent absent) number e =
    known.buffers (spelled s at) number (word-buffer s (terminal_at s.tokens at) at number e)
named-there s known _ number e = absurd (cc e)

none-named : (s : Scope) → IsKnown s → (operand : Tree) → buffer_at s operand ≡ None → buffer_named s operand ≡ None
none-named s known operand e = on (buffer_named s operand) refl
  where
    found : (number : ℕ) → buffer_named s operand ≡ Some number → (buffer : BufferInfo) × (slice_get s.buffers number ≡ Some buffer) → buffer_named s operand ≡ None
    found number h r = absurd (none-some r.0 (sym e ∙ (ap (λ o. option_and_then (λ n. slice_get s.buffers n) o) h ∙ r.1)))

    on : (named : Option ℕ) → buffer_named s operand ≡ named → buffer_named s operand ≡ None
    on None h = h
    on (Some number) h = found number h (named-there s known operand number h)

-- ---- indexes

indexed-known : (ty : Ty) → is_void ty ≡ false → is_not_indexed None (Some ty) ≡ false → is_indexed ty ≡ true
indexed-known (array_type element size) e h = refl
indexed-known (vector_type kind size) e h = refl
indexed-known (scalar_type kind) e h = absurd (cc h)
indexed-known (struct_type number) e h = absurd (cc h)
indexed-known void_type e h = absurd (cc e)

-- what an index among free sites becomes
index-known : (s : Scope) → IsKnown s → (operand index : Tree) → (b : Known s index) → IsFree (used s index (expression_sites s index)) → Obeys s (an_index operand index) → IsIndex s (constant_number s index) (index_expr (bare_at index) (constant_number s index) b.to)
index-known s known operand index b free own =
    index-there s (bare_at index) (constant_number s index) b.to (λ n e. number-fits s known index n e)
    (scalar-converts (type_of_code b.to)
    (not-true (is_scalar (type_of_code b.to))
    (sym (ap (λ o. is_known (λ ty. not (is_scalar ty)) o) (type-known s index (type_of_code b.to) b.type (used-of s index (expression_sites s index) b free)))
    ∙ not_broken (is_known (λ ty. not (is_scalar ty)) (type_in s index)) (at_of index) own.obeys_29)))
    (known-stands s index b)

abbrev index_site : Scope → Tree → Tree → List Site
index_site s operand index = site s (an_index operand index) ∷ []

pub index-sites : (s : Scope) → IsKnown s → (at mark : ℕ) (operand index : Tree) → (is_some (buffer_at s operand) ≡ false → Known s operand) → Known s index → IsFree (expression_sites s (a_postfix at operand mark None (present index))) → Known s (a_postfix at operand mark None (present index))
index-sites s known at mark operand index operand_known index_known free = placed (index-known s known operand index index_known index_free own)
  where
    behind : IsFree (used s index (expression_sites s index) ++ index_site s operand index)
    behind = free-right (buffer_or_used s operand (expression_sites s operand)) (used s index (expression_sites s index) ++ index_site s operand index) free

    index_free : IsFree (used s index (expression_sites s index))
    index_free = free-left (used s index (expression_sites s index)) (index_site s operand index) behind

    own : Obeys s (an_index operand index)
    own = free-first (site s (an_index operand index)) [] (free-right (used s index (expression_sites s index)) (index_site s operand index) behind)

    number : Option ℕ
    number = constant_number s index

    -- an element of a buffer
    element : (i : Expr) (buffer : BufferInfo) → IsBuffer s operand buffer → buffer_at s operand ≡ Some buffer → is_not_indexed (buffer_at s operand) (type_in s operand) ≡ false → IsValueIn s i → type_of i ≡ uint_type → Becomes s (bracketed_value (buffer_at s operand) number (value_of s operand)) (bracketed_code s at (buffer_named s operand) i (code_of s operand))
    element i buffer b e judged stands type =
        let raw : buffer.raw ≡ false = ap (λ o. is_not_indexed o (type_in s operand)) (sym e) ∙ judged in
        let ty : (t : Ty) × (buffer.element ≡ Some t) = known.elements b.number buffer b.there raw in
        subst (λ o. Becomes s (bracketed_value o number (value_of s operand)) (bracketed_code s at (buffer_named s operand) i (code_of s operand))) (sym e)
        (subst (λ o. Becomes s (element_value buffer) (bracketed_code s at o i (code_of s operand))) (sym b.named)
        (element-becomes s at b.number buffer ty.0 i b.there raw ty.1 stands type))

    -- an index into something else
    into : (i : IsIndex s number (index_expr (bare_at index) number index_known.to)) → (b : Known s operand) → is_void (type_of_code b.to) ≡ false → is_not_indexed None (type_in s operand) ≡ false → is_none number && needs_constant_index (standing_in s operand) ≡ false → Becomes s (indexed_value number (value_of s operand).ty (value_of s operand).standing) (option_and_then (indexed_code at i.to) (code_of s operand))
    into i b nonvoid judged needs =
        let there : type_in s operand ≡ Some (type_of_code b.to) = type-known s operand (type_of_code b.to) b.type nonvoid in
        of-one s (indexed_value number (value_of s operand).ty (value_of s operand).standing) (indexed_code at i.to) (code_of s operand) b.to b.is
        (subst (λ o. Becomes s (indexed_value number o (value_of s operand).standing) (indexed_code at i.to b.to)) (sym b.type)
        (indexed-becomes s at number (index_expr (bare_at index) number index_known.to) i (type_of_code b.to) (value_of s operand).standing b.to refl
        (indexed-known (type_of_code b.to) nonvoid (ap (λ o. is_not_indexed None o) (sym there) ∙ judged))
        (ap (λ o. is_past number o) (sym there) ∙ not_broken (is_past number (type_in s operand)) (at_of index) own.obeys_30)
        needs b.agrees b.fits))

    bracketed : (i : IsIndex s number (index_expr (bare_at index) number index_known.to)) → (buffer : Option BufferInfo) → buffer_at s operand ≡ buffer → Becomes s (bracketed_value (buffer_at s operand) number (value_of s operand)) (bracketed_code s at (buffer_named s operand) i.to (code_of s operand))
    bracketed i (Some buffer) e =
        element i.to buffer (buffer-there s operand buffer e) e (not_broken (is_not_indexed (buffer_at s operand) (type_in s operand)) (at_of index) own.obeys_28) i.stands i.type
    bracketed i None e =
        let none : is_some (buffer_at s operand) ≡ false = ap (λ o. is_some o) e in
        let b : Known s operand = operand_known none in
        let before : IsFree (used s operand (expression_sites s operand)) = subst (λ c. IsFree (if c then [] else used s operand (expression_sites s operand))) none (free-left (buffer_or_used s operand (expression_sites s operand)) (used s index (expression_sites s index) ++ index_site s operand index) free) in
        subst (λ o. Becomes s (bracketed_value o number (value_of s operand)) (bracketed_code s at (buffer_named s operand) i.to (code_of s operand))) (sym e)
        (subst (λ o. Becomes s (indexed_value number (value_of s operand).ty (value_of s operand).standing) (bracketed_code s at o i.to (code_of s operand))) (sym (none-named s known operand e))
        (into i b (used-of s operand (expression_sites s operand) b before)
        (ap (λ o. is_not_indexed o (type_in s operand)) (sym e) ∙ not_broken (is_not_indexed (buffer_at s operand) (type_in s operand)) (at_of index) own.obeys_28)
        (ap (λ o. is_none o && (is_none number && needs_constant_index (standing_in s operand))) (sym e)
        ∙ not_broken (is_none (buffer_at s operand) && (is_none number && needs_constant_index (standing_in s operand))) (at_of index) own.obeys_31)))

    placed : IsIndex s number (index_expr (bare_at index) number index_known.to) → Known s (a_postfix at operand mark None (present index))
    placed i =
        of-one s (value_of s (a_postfix at operand mark None (present index))) (λ x. bracketed_code s at (buffer_named s operand) x (code_of s operand)) (option_and_then (index_expr (bare_at index) number) (code_of s index)) i.to
        (ap (λ o. option_and_then (index_expr (bare_at index) number) o) index_known.is ∙ i.is)
        (bracketed i (buffer_at s operand) refl)
