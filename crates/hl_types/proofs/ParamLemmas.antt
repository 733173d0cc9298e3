-- Parameters one behind the other.
use Rattle.std.proofs.Common.{◌≡◌, ◌∙◌, refl, sym, ap, subst, ℕ, suc, ◌+◌, ◌<◌, Bool, true, false, not, ◌&&◌, ◌||◌, List, [], ◌∷◌, ◌++◌, length, take, get_or, Option, None, Some, is_some, append_assoc, add-one}
use Rattle.std.proofs.lemmas.List.{length_push, take_more}
use Rattle.hl_parser.specs.declared.tree.Tree.{Tree, Tree-F, out-Tree}
use Rattle.hl_parser.specs.declared.tree.Tree.TheVariants.{rolls-Param}
use Rattle.hl_parser.specs.declared.tree.Tree.TheVariants as variants
use Rattle.hl_parser.specs.Trees as plain
use Rattle.hl_parser.specs.Trees.{Maybe, Trees, no_trees, more_trees, a_param, absent, present, at_of}
use Rattle.hl_parser.specs.Views.{plain_maybe, plain_of, plain_trees}
use Rattle.hl_parser.proofs.Plain.{plain-Param}
use Rattle.hl_meaning.specs.declared.program.Copying.{Copying}
use Rattle.hl_meaning.specs.declared.program.Copying.TheVariants.{CopyIn}
use Rattle.hl_meaning.specs.declared.program.Semantic.{Semantic}
use Rattle.hl_meaning.specs.declared.program.Parameter.{Parameter}
use Rattle.hl_meaning.specs.Programs.{Variable}
use Rattle.hl_values.specs.ScopeChanges.{Held, held_variable}
use Rattle.hl_meaning.specs.Types.{Ty}
use Rattle.hl_rules.specs.declared.found.Broken.{Broken}
use Rattle.hl_rules.specs.Constants.{declarator_type, named_type}
use Rattle.hl_rules.specs.Declarations.{after_param, after_params, param_copying, param_type, params_info, with_variable}
use Rattle.hl_rules.specs.DeclarationRules.{has_semantic, is_copied_in, is_input, is_semantic_among, is_semantic_type, param_name, param_semantic, semantic_named}
use Rattle.hl_rules.specs.Elaboration.{param_variable, param_variables, parameters_from}
use Rattle.hl_rules.specs.Found.{breaking, broken_if, gathered}
use Rattle.hl_rules.specs.Parts.{a_local_name, an_entry_param, site}
use Rattle.hl_rules.specs.Rules.{noted}
use Rattle.hl_rules.specs.Scopes.{ParamInfo, Scope, declared_in, innermost, spelled}
use Rattle.hl_rules.specs.Sites.{and_tree, declarator_sites, entry_sites, param_sites, params_sites, type_sites}
use Rattle.hl_rules.specs.Source.{text_at}
use Rattle.hl_rules.specs.Values.{is_known}
use Rattle.hl_rules.proofs.Noting.{noted-append, noted-entry_param, noted-local_name, noted-none}
use Rattle.hl_types.specs.declared.semantics.Semantics.{Semantics}
use Rattle.hl_types.specs.Semantics.{AreHeld, holds, is_input_behind}
use Rattle.hl_types.proofs.DeclaredShapes.{by_layer, layer, of_layer}

-- ---- trees that are no parameters

abbrev pub IsNoParam : Tree → Type 0
IsNoParam tree = (at : ℕ) (constant : Option ℕ) (direction : Option Tree) (ty declarator : Tree) (semantic : Option ℕ) → tree ≡ variants.Param at constant direction ty declarator semantic → ⊥

pub record NoParam (s : Scope) (t : plain.Tree) : Type 0 where
  pub copying : param_copying s t ≡ CopyIn
  pub semantic : param_semantic s t ≡ None
  pub ty : param_type s t ≡ None
  pub after : after_param s t ≡ s
  pub variables : param_variable s t ≡ []
  pub found : param_sites s t ≡ []
  pub name : param_name t ≡ 0

param-none : (s : Scope) (tree : Tree) (form : Tree-F Tree) → out-Tree tree ≡ form → IsNoParam tree → NoParam s (layer form)
param-none s tree (Tree-F.Param at constant direction ty declarator semantic) e a = absurd (a at constant direction ty declarator semantic (of_layer tree (Tree-F.Param at constant direction ty declarator semantic) e ∙ rolls-Param at constant direction ty declarator semantic))
param-none s tree form e a = record { copying = refl; semantic = refl; ty = refl; after = refl; variables = refl; found = refl; name = refl }

pub no_param : (s : Scope) (tree : Tree) → IsNoParam tree → NoParam s (plain_of tree)
no_param s tree a = subst (NoParam s) (sym (by_layer tree)) (param-none s tree (out-Tree tree) refl a)

-- ---- semantics

swapped : (a b c : Bool) → (a || (b || c)) ≡ (b || (a || c))
swapped true true c = refl
swapped true false c = refl
swapped false b c = refl

pub among-and : (s : Scope) (semantic : Semantic) (before : Trees) (t : plain.Tree)
    → is_semantic_among s semantic (and_tree before t) ≡ (has_semantic semantic (param_semantic s t) || is_semantic_among s semantic before)
among-and s semantic no_trees t = refl
among-and s semantic (more_trees first rest) t =
    ap (λ b. has_semantic semantic (param_semantic s first) || b) (among-and s semantic rest t) ∙
    swapped (has_semantic semantic (param_semantic s first)) (has_semantic semantic (param_semantic s t)) (is_semantic_among s semantic rest)

semantic-same : (s s' : Scope) (t : plain.Tree) → s.tokens ≡ s'.tokens → param_semantic s t ≡ param_semantic s' t
semantic-same s s' (a_param at constant direction type declarator None) e = refl
semantic-same s s' (a_param at constant direction type declarator (Some name)) e = ap (λ tokens. semantic_named (text_at tokens name)) e
semantic-same s s' t e = refl

among-same : (s s' : Scope) (semantic : Semantic) (trees : Trees) → s.tokens ≡ s'.tokens → is_semantic_among s semantic trees ≡ is_semantic_among s' semantic trees
among-same s s' semantic no_trees e = refl
among-same s s' semantic (more_trees first rest) e =
    ap (λ x. has_semantic semantic x || is_semantic_among s semantic rest) (semantic-same s s' first e) ∙
    ap (λ b. has_semantic semantic (param_semantic s' first) || b) (among-same s s' semantic rest e)

tokens-kept : (s : Scope) (t : plain.Tree) → s.tokens ≡ (after_param s t).tokens
tokens-kept s (a_param at constant direction type declarator semantic) = refl
tokens-kept s t = refl

or-swapped : (a b : Bool) → (a || b) ≡ (b || a)
or-swapped true true = refl
or-swapped true false = refl
or-swapped false true = refl
or-swapped false false = refl

pub held-with : (s : Scope) (before : Trees) (t : plain.Tree) (held more : Semantics) → AreHeld s before held
    → ((semantic : Semantic) → holds more semantic ≡ (holds held semantic || has_semantic semantic (param_semantic s t)))
    → AreHeld (after_param s t) (and_tree before t) more
held-with s before t held more are is = λ semantic.
    is semantic ∙ (ap (λ b. b || has_semantic semantic (param_semantic s t)) (are semantic) ∙
    (or-swapped (is_semantic_among s semantic before) (has_semantic semantic (param_semantic s t)) ∙
    (sym (among-and s semantic before t) ∙ among-same s (after_param s t) semantic (and_tree before t) (tokens-kept s t))))

-- trees that stand before one more
and-last : (trees : List Tree) (tree : Tree) → and_tree (plain_trees trees) (plain_of tree) ≡ plain_trees (trees ++ tree ∷ [])
and-last [] tree = refl
and-last (first ∷ trees) tree = ap (λ r. more_trees (plain_of first) r) (and-last trees tree)

pub and-taken : (trees : List Tree) (i : ℕ) (tree : Tree) → i < length trees → tree ≡ get_or trees i tree
    → and_tree (plain_trees (take i trees)) (plain_of tree) ≡ plain_trees (take (i + 1) trees)
and-taken trees i tree within is =
    and-last (take i trees) tree ∙
    ap plain_trees (ap (λ x. take i trees ++ x ∷ []) is ∙ sym (take_more trees i tree within))

-- ---- rule 17

input-behind : (s : Scope) (before : Trees) (held : Semantics) (ty : Option Ty) (semantic : Option Semantic) → AreHeld s before held
    → is_input_behind held ty semantic ≡ is_input s before ty semantic
input-behind s before held ty None are = refl
input-behind s before held ty (Some semantic) are =
    ap (λ b. not (is_known (λ x. not (is_semantic_type semantic x)) ty) && not b) (are semantic)

pub entry-noted : (s : Scope) (before : Trees) (t : plain.Tree) (held : Semantics) (entry : Bool) (copying : Copying) (ty : Option Ty) (semantic : Option Semantic) (name : ℕ) (f0 f1 : Option Broken)
    → AreHeld s before held → copying ≡ param_copying s t → ty ≡ param_type s t → semantic ≡ param_semantic s t → name ≡ param_name t
    → f1 ≡ gathered f0 (breaking 17 (broken_if (entry && (not (is_copied_in copying) || not (is_input_behind held ty semantic))) name))
    → f1 ≡ noted f0 (entry_sites s entry before t)
entry-noted s before t held false passed ty semantic name f0 f1 are c o i n e = e ∙ sym (noted-none f0)
entry-noted s before t held true passed ty semantic name f0 f1 are c o i n e =
    e ∙ (ap (λ x. gathered f0 (breaking 17 (broken_if (not (is_copied_in x) || not (is_input_behind held ty semantic)) name))) c ∙
    (ap (λ x. gathered f0 (breaking 17 (broken_if (not (is_copied_in (param_copying s t)) || not (is_input_behind held x semantic)) name))) o ∙
    (ap (λ x. gathered f0 (breaking 17 (broken_if (not (is_copied_in (param_copying s t)) || not (is_input_behind held (param_type s t) x)) name))) i ∙
    (ap (λ x. gathered f0 (breaking 17 (broken_if (not (is_copied_in (param_copying s t)) || not (is_input_behind held (param_type s t) (param_semantic s t))) x))) n ∙
    (ap (λ b. gathered f0 (breaking 17 (broken_if (not (is_copied_in (param_copying s t)) || not b) (param_name t)))) (input-behind s before held (param_type s t) (param_semantic s t) are) ∙
    sym (noted-entry_param f0 s before t))))))

pub none-noted : (s : Scope) (before : Trees) (t : plain.Tree) (entry : Bool) (f0 f1 : Option Broken) → NoParam s t
    → f1 ≡ gathered f0 (breaking 17 (broken_if entry 0)) → f1 ≡ noted f0 (param_sites s t ++ entry_sites s entry before t)
none-noted s before t false f0 f1 none e = e ∙ (sym (noted-none f0) ∙ ap (λ l. noted f0 (l ++ [])) (sym none.found))
none-noted s before t true f0 f1 none e =
    e ∙ (ap (λ n. gathered f0 (breaking 17 (broken_if true n))) (sym none.name) ∙
    (ap (λ x. gathered f0 (breaking 17 (broken_if (not (is_copied_in x) || not (is_input s before None None)) (param_name t)))) (sym none.copying) ∙
    (ap (λ x. gathered f0 (breaking 17 (broken_if (not (is_copied_in (param_copying s t)) || not (is_input s before x None)) (param_name t)))) (sym none.ty) ∙
    (ap (λ x. gathered f0 (breaking 17 (broken_if (not (is_copied_in (param_copying s t)) || not (is_input s before (param_type s t) x)) (param_name t)))) (sym none.semantic) ∙
    (sym (noted-entry_param f0 s before t) ∙ ap (λ l. noted f0 (l ++ (site s (an_entry_param before t) ∷ []))) (sym none.found))))))

-- ---- a parameter

pub param-noted : (s : Scope) (type declarator : plain.Tree) (f0 f1 f2 f3 : Option Broken) (here : Bool) (at : ℕ)
    → f1 ≡ noted f0 (type_sites s type) → f2 ≡ noted f1 (declarator_sites s (named_type s type) declarator)
    → f3 ≡ gathered f2 (breaking 2 (broken_if here at)) → gathered f2 (breaking 2 (broken_if here at)) ≡ noted f2 (site s (a_local_name (at_of declarator)) ∷ [])
    → f3 ≡ noted f0 (type_sites s type ++ (declarator_sites s (named_type s type) declarator ++ site s (a_local_name (at_of declarator)) ∷ []))
param-noted s type declarator f0 f1 f2 f3 here at first second third local =
    third ∙ (local ∙ (ap (λ f. noted f (site s (a_local_name (at_of declarator)) ∷ [])) (second ∙ ap (λ f. noted f (declarator_sites s (named_type s type) declarator)) first) ∙
    (sym (noted-append (noted f0 (type_sites s type)) (declarator_sites s (named_type s type) declarator) (site s (a_local_name (at_of declarator)) ∷ [])) ∙
    sym (noted-append f0 (type_sites s type) (declarator_sites s (named_type s type) declarator ++ site s (a_local_name (at_of declarator)) ∷ [])))))

pub local-noted : (s : Scope) (name : ℕ) (f : Option Broken) (here : Bool) (text : List ℕ) (index at : ℕ)
    → here ≡ is_some (declared_in (innermost s) text) → text ≡ spelled s index → index ≡ name → at ≡ name
    → gathered f (breaking 2 (broken_if here at)) ≡ noted f (site s (a_local_name name) ∷ [])
local-noted s name f here text index at h t i a =
    ap (λ b. gathered f (breaking 2 (broken_if b at))) (h ∙ ap (λ x. is_some (declared_in (innermost s) x)) (t ∙ ap (λ n. spelled s n) i)) ∙
    (ap (λ n. gathered f (breaking 2 (broken_if (is_some (declared_in (innermost s) (spelled s name))) n))) a ∙ sym (noted-local_name f s name))

-- what a parameter declares
pub record IsParam (s : Scope) (t : plain.Tree) (constant : Option ℕ) (type declarator : plain.Tree) : Type 0 where
  pub ty : param_type s t ≡ declarator_type s (named_type s type) declarator
  pub after : after_param s t ≡ with_variable (at_of declarator) (declarator_type s (named_type s type) declarator) (is_some constant) s
  pub variables : param_variable s t ≡ held_variable (spelled s (at_of declarator)) (declarator_type s (named_type s type) declarator) (at_of declarator) ∷ []
  pub found : param_sites s t ≡ type_sites s type ++ (declarator_sites s (named_type s type) declarator ++ site s (a_local_name (at_of declarator)) ∷ [])
  pub name : param_name t ≡ at_of declarator

pub is_param : (s : Scope) (tree : Tree) (at : ℕ) (constant : Option ℕ) (direction : Option Tree) (ty declarator ty' declarator' : Tree) (semantic : Option ℕ)
    → tree ≡ variants.Param at constant direction ty declarator semantic → ty' ≡ ty → declarator' ≡ declarator → IsParam s (plain_of tree) constant (plain_of ty') (plain_of declarator')
is_param s tree at constant direction ty declarator ty' declarator' semantic e t d =
    subst (λ x. IsParam s x constant (plain_of ty') (plain_of declarator'))
    (sym (ap plain_of e ∙ (plain-Param at constant direction ty declarator semantic ∙
    (ap (λ x. a_param at constant (plain_maybe direction) (plain_of x) (plain_of declarator) semantic) (sym t) ∙
    ap (λ x. a_param at constant (plain_maybe direction) (plain_of ty') (plain_of x) semantic) (sym d)))))
    (record { ty = refl; after = refl; variables = refl; found = refl; name = refl })

pub param-after : (s : Scope) (t : plain.Tree) (constant : Option ℕ) (type declarator : plain.Tree) (at : ℕ) (own : Option Ty) (is_const : Bool)
    → IsParam s t constant type declarator → at ≡ at_of declarator → own ≡ declarator_type s (named_type s type) declarator → is_const ≡ is_some constant
    → with_variable at own is_const s ≡ after_param s t
param-after s t constant type declarator at own is_const is a o c =
    ap (λ x. with_variable x own is_const s) a ∙ (ap (λ x. with_variable (at_of declarator) x is_const s) o ∙
    (ap (λ x. with_variable (at_of declarator) (declarator_type s (named_type s type) declarator) x s) c ∙ sym is.after))

pub param-held : (s : Scope) (t : plain.Tree) (constant : Option ℕ) (type declarator : plain.Tree) (at : ℕ) (own : Option Ty)
    → IsParam s t constant type declarator → at ≡ at_of declarator → own ≡ declarator_type s (named_type s type) declarator
    → held_variable (spelled s at) own at ∷ [] ≡ param_variable s t
param-held s t constant type declarator at own is a o =
    ap (λ x. held_variable (spelled s x) own x ∷ []) a ∙ (ap (λ x. held_variable (spelled s (at_of declarator)) x (at_of declarator) ∷ []) o ∙ sym is.variables)

-- ---- one parameter more

pub more-info : (s s' : Scope) (t : plain.Tree) (rest : Trees) (before after all : List ParamInfo) (info : ParamInfo)
    → s' ≡ after_param s t → after ≡ before ++ info ∷ [] → info ≡ record { ty = param_type s t; copying = param_copying s t }
    → before ++ params_info s (more_trees t rest) ≡ all → after ++ params_info s' rest ≡ all
more-info s s' t rest before after all info e a i whole =
    ap (λ x. after ++ params_info x rest) e ∙ (ap (λ l. l ++ params_info (after_param s t) rest) (a ∙ ap (λ x. before ++ x ∷ []) i) ∙
    (append_assoc before (record { ty = param_type s t; copying = param_copying s t } ∷ []) (params_info (after_param s t) rest) ∙ whole))

pub more-scope : (s s' p : Scope) (t : plain.Tree) (rest : Trees) → s' ≡ after_param s t → after_params s (more_trees t rest) ≡ p → after_params s' rest ≡ p
more-scope s s' p t rest e whole = ap (λ x. after_params x rest) e ∙ whole

pub more-variables : (s s' : Scope) (t : plain.Tree) (rest : Trees) (held after all : Held)
    → s' ≡ after_param s t → after ≡ record held { variables = held.variables ++ param_variable s t }
    → record held { variables = held.variables ++ param_variables s (more_trees t rest) } ≡ all
    → record after { variables = after.variables ++ param_variables s' rest } ≡ all
more-variables s s' t rest held after all e a whole =
    ap {A = Scope} (λ x. record after { variables = after.variables ++ param_variables x rest }) e ∙
    (ap {A = Held} (λ x. record x { variables = x.variables ++ param_variables (after_param s t) rest }) a ∙
    (ap {A = List Variable} (λ l. record held { variables = l }) (append_assoc held.variables (param_variable s t) (param_variables (after_param s t) rest)) ∙ whole))

pub more-found : (s s' : Scope) (entry : Bool) (before after : Trees) (t : plain.Tree) (rest : Trees) (f f' all : Option Broken)
    → s' ≡ after_param s t → after ≡ and_tree before t → f' ≡ noted f (param_sites s t ++ entry_sites s entry before t)
    → noted f (params_sites s entry before (more_trees t rest)) ≡ all → noted f' (params_sites s' entry after rest) ≡ all
more-found s s' entry before after t rest f f' all e a found whole =
    let behind = params_sites (after_param s t) entry (and_tree before t) rest in
    ap (λ x. noted f' (params_sites x entry after rest)) e ∙ (ap (λ x. noted f' (params_sites (after_param s t) entry x rest)) a ∙
    (ap (λ x. noted x behind) found ∙
    (sym (noted-append f (param_sites s t ++ entry_sites s entry before t) behind) ∙
    (ap (noted f) (append_assoc (param_sites s t) (entry_sites s entry before t) behind) ∙ whole))))

pub more-held : (s s' : Scope) (before after : Trees) (t : plain.Tree) (held more : Semantics) → s' ≡ after_param s t → after ≡ and_tree before t → AreHeld s before held
    → ((semantic : Semantic) → holds more semantic ≡ (holds held semantic || has_semantic semantic (param_semantic s t)))
    → AreHeld s' after more
more-held s s' before after t held more e a are is = λ semantic.
    held-with s before t held more are is semantic ∙ (ap (λ x. is_semantic_among x semantic (and_tree before t)) (sym e) ∙ ap (λ x. is_semantic_among s' semantic x) (sym a))

-- ---- what parameters become

parameters-same : (s : Scope) (made : List Parameter) (t : plain.Tree) (rest : Trees) (parameter : Parameter)
    → parameter ≡ record { variable = length made; copying = param_copying s t; semantic = param_semantic s t }
    → (made ++ parameter ∷ []) ++ parameters_from s (length (made ++ parameter ∷ [])) rest ≡ made ++ parameters_from s (length made) (more_trees t rest)
parameters-same s made t rest parameter e =
    append_assoc made (parameter ∷ []) (parameters_from s (length (made ++ parameter ∷ [])) rest) ∙
    (ap (λ n. made ++ parameter ∷ parameters_from s n rest) (length_push made parameter ∙ add-one (length made)) ∙
    ap (λ x. made ++ x ∷ parameters_from s (suc (length made)) rest) e)

pub more-parameters : (s : Scope) (made after all : List Parameter) (t : plain.Tree) (rest : Trees) (parameter : Parameter)
    → parameter ≡ record { variable = length made; copying = param_copying s t; semantic = param_semantic s t } → after ≡ made ++ parameter ∷ []
    → made ++ parameters_from s (length made) (more_trees t rest) ≡ all → after ++ parameters_from s (length after) rest ≡ all
more-parameters s made after all t rest parameter e a whole =
    ap (λ l. l ++ parameters_from s (length l) rest) a ∙ (parameters-same s made t rest parameter e ∙ whole)
