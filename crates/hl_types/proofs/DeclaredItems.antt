-- What structs, buffers and constants break, and what is known behind them.
use Rattle.std.proofs.Common.{◌≡◌, ◌∙◌, refl, sym, ap, ℕ, Bool, List, [], ◌∷◌, ◌++◌, length, Option, Some, option_and_then, slice_get, unwrap_or, append_assoc}
use Rattle.hl_parser.specs.Trees.{Tree, Trees, at_of}
use Rattle.hl_meaning.specs.Layout.{kinds_of}
use Rattle.hl_meaning.specs.Programs.{Constant, Variable}
use Rattle.hl_meaning.specs.Types.{Ty}
use Rattle.hl_rules.specs.declared.found.Broken.{Broken}
use Rattle.hl_rules.specs.Constants.{declarator_type, named_type}
use Rattle.hl_rules.specs.DeclarationRules.{is_more}
use Rattle.hl_rules.specs.Declarations.{buffer_info, constant_value, members_info, struct_info, with_constant}
use Rattle.hl_rules.specs.Elaboration.{declared_constant, init_words, variable_of}
use Rattle.hl_rules.specs.Found.{breaking, broken_if, gathered}
use Rattle.hl_rules.specs.Parts.{a_global_name, a_whole_struct, site}
use Rattle.hl_rules.specs.Rules.{noted}
use Rattle.hl_rules.specs.Scopes.{Scope, StructInfo}
use Rattle.hl_rules.specs.Sites.{constant_sites, declarator_sites, element_sites, members_sites, register_sites, type_sites}
use Rattle.hl_rules.specs.Statements.{struct_defs}
use Rattle.hl_rules.proofs.Noting.{noted-append, noted-first, noted-whole_struct}
use Rattle.hl_values.specs.ScopeChanges.{with_constant_named, with_struct_named}
use Rattle.hl_types.specs.Items.{buffer_sites, constant_item_sites, struct_sites}

-- ---- lists

at-end : {A : Type 0} (before : List A) (x : A) → slice_get (before ++ x ∷ []) (length before) ≡ Some x
at-end [] x = refl
at-end (y ∷ before) x = at-end before x

-- ---- structs

-- the words of the struct that was declared last
pub struct-words : (s s' : Scope) (name : ℕ) (members : Trees) (number : ℕ) → s' ≡ with_struct_named name (members_info s members) s → number ≡ length s.structs
    → option_and_then (λ (d : StructInfo). d.words) (slice_get s'.structs number) ≡ (struct_info s name members).words
struct-words s s' name members number e n =
    ap (λ (x : Scope). option_and_then (λ (d : StructInfo). d.words) (slice_get x.structs number)) e ∙
    (ap (λ k. option_and_then (λ (d : StructInfo). d.words) (slice_get (s.structs ++ struct_info s name members ∷ []) k)) n ∙
    ap (option_and_then (λ (d : StructInfo). d.words)) (at-end s.structs (struct_info s name members)))

pub struct-noted : (s : Scope) (name : ℕ) (members : Trees) (f0 f1 f2 f3 : Option Broken) (more : Bool)
    → f1 ≡ noted f0 (members_sites s [] members) → f2 ≡ noted f1 (site s (a_global_name name) ∷ [])
    → more ≡ is_more 65536 (struct_info s name members).words → f3 ≡ gathered f2 (breaking 42 (broken_if more name))
    → f3 ≡ noted f0 (struct_sites s name members)
struct-noted s name members f0 f1 f2 f3 more e1 e2 m e3 =
    let words = (struct_info s name members).words in
    let inner = members_sites s [] members in
    e3 ∙ (ap (λ b. gathered f2 (breaking 42 (broken_if b name))) m ∙
    (sym (noted-whole_struct f2 s name words) ∙
    (ap (λ f. noted f (site s (a_whole_struct name words) ∷ [])) (e2 ∙ ap (λ f. noted f (site s (a_global_name name) ∷ [])) e1) ∙
    (sym (noted-first (noted f0 inner) (site s (a_global_name name)) (site s (a_whole_struct name words) ∷ [])) ∙
    sym (noted-append f0 inner (site s (a_global_name name) ∷ site s (a_whole_struct name words) ∷ []))))))

-- ---- buffers

pub buffer-noted : (s : Scope) (kind : Tree) (name : ℕ) (register space : Option ℕ) (writable : Bool) (f0 f1 f2 f3 : Option Broken)
    → f1 ≡ noted f0 (element_sites s kind) → f2 ≡ noted f1 (site s (a_global_name name) ∷ [])
    → writable ≡ (buffer_info s kind).writable → f3 ≡ noted f2 (register_sites s writable register space)
    → f3 ≡ noted f0 (buffer_sites s kind name register space)
buffer-noted s kind name register space writable f0 f1 f2 f3 e1 e2 w e3 =
    let behind = register_sites s (buffer_info s kind).writable register space in
    e3 ∙ (ap (λ b. noted f2 (register_sites s b register space)) w ∙
    (ap (λ f. noted f behind) (e2 ∙ ap (λ f. noted f (site s (a_global_name name) ∷ [])) e1) ∙
    (sym (noted-first (noted f0 (element_sites s kind)) (site s (a_global_name name)) behind) ∙
    sym (noted-append f0 (element_sites s kind) (site s (a_global_name name) ∷ behind)))))

-- ---- constants

pub constant-behind : (s : Scope) (declarator init : Tree) (at : ℕ) (own known : Option Ty) (number : Option ℕ)
    → at ≡ at_of declarator → known ≡ own → number ≡ constant_value s own init
    → with_constant_named at known number s ≡ with_constant s own declarator init
constant-behind s declarator init at own known number a k n =
    ap (λ x. with_constant_named x known number s) a ∙ (ap (λ x. with_constant_named (at_of declarator) x number s) k ∙
    ap (λ x. with_constant_named (at_of declarator) own x s) n)

pub constant-noted : (s : Scope) (type declarator init : Tree) (own : Option Ty) (f0 f1 f2 : Option Broken)
    → own ≡ declarator_type s (named_type s type) declarator
    → f1 ≡ noted f0 (type_sites s type ++ (declarator_sites s (named_type s type) declarator ++ site s (a_global_name (at_of declarator)) ∷ []))
    → f2 ≡ noted f1 (constant_sites s own init)
    → f2 ≡ noted f0 (constant_item_sites s type declarator init)
constant-noted s type declarator init own f0 f1 f2 o e1 e2 =
    let ty = declarator_type s (named_type s type) declarator in
    let types = type_sites s type in
    let declared = declarator_sites s (named_type s type) declarator in
    let global = site s (a_global_name (at_of declarator)) ∷ [] in
    let inner = constant_sites s ty init in
    e2 ∙ (ap (λ x. noted f1 (constant_sites s x init)) o ∙
    (ap (λ f. noted f inner) e1 ∙
    (sym (noted-append f0 (types ++ (declared ++ global)) inner) ∙
    ap (noted f0) (append_assoc types (declared ++ global) inner ∙ ap (λ l. types ++ l) (append_assoc declared global inner)))))

pub declared-noted : (s : Scope) (type declarator : Tree) (named : Option Ty) (at : ℕ) (f0 f1 f2 f3 : Option Broken)
    → f1 ≡ noted f0 (type_sites s type) → named ≡ named_type s type → f2 ≡ noted f1 (declarator_sites s named declarator)
    → at ≡ at_of declarator → f3 ≡ noted f2 (site s (a_global_name at) ∷ [])
    → f3 ≡ noted f0 (type_sites s type ++ (declarator_sites s (named_type s type) declarator ++ site s (a_global_name (at_of declarator)) ∷ []))
declared-noted s type declarator named at f0 f1 f2 f3 e1 n e2 a e3 =
    let types = type_sites s type in
    let declared = declarator_sites s (named_type s type) declarator in
    let global = site s (a_global_name (at_of declarator)) ∷ [] in
    e3 ∙ (ap (λ k. noted f2 (site s (a_global_name k) ∷ [])) a ∙
    (ap (λ f. noted f global) (e2 ∙ (ap (λ o. noted f1 (declarator_sites s o declarator)) n ∙ ap (λ f. noted f declared) e1)) ∙
    (sym (noted-append (noted f0 types) declared global) ∙ sym (noted-append f0 types (declared ++ global)))))

pub variable-noted : (s : Scope) (ty : Option Ty) (declarator : Tree) (at : ℕ) (f0 f1 f2 : Option Broken)
    → f1 ≡ noted f0 (declarator_sites s ty declarator) → at ≡ at_of declarator → f2 ≡ noted f1 (site s (a_global_name at) ∷ [])
    → f2 ≡ noted f0 (declarator_sites s ty declarator ++ site s (a_global_name (at_of declarator)) ∷ [])
variable-noted s ty declarator at f0 f1 f2 e1 a e2 =
    let global = site s (a_global_name (at_of declarator)) ∷ [] in
    e2 ∙ (ap (λ k. noted f1 (site s (a_global_name k) ∷ [])) a ∙ (ap (λ f. noted f global) e1 ∙ sym (noted-append f0 (declarator_sites s ty declarator) global)))

abbrev pub known_constant : Variable → (words : List ℕ) → Constant
known_constant variable words = record { variable = variable; words = words }

pub constant-made : (s : Scope) (type declarator init : Tree) (at : ℕ) (own : Option Ty) (words : List ℕ)
    → at ≡ at_of declarator → own ≡ declarator_type s (named_type s type) declarator
    → words ≡ unwrap_or (option_and_then (λ ty. init_words s (kinds_of (struct_defs s.structs) ty) init) own) []
    → known_constant (variable_of s at own) words ∷ [] ≡ declared_constant s (named_type s type) declarator init ∷ []
constant-made s type declarator init at own words a o w =
    ap (λ x. x ∷ [])
    (ap (λ x. known_constant (variable_of s x own) words) a ∙
    (ap (λ x. known_constant (variable_of s (at_of declarator) own) x) w ∙
    ap (λ x. known_constant (variable_of s (at_of declarator) x) (unwrap_or (option_and_then (λ ty. init_words s (kinds_of (struct_defs s.structs) ty) init) x) [])) o))
