-- The parameters of an entry that breaks no rule are inputs.
use Rattle.std.proofs.Common.{◌≡◌, ◌∙◌, refl, ap, subst, ℕ, Bool, true, false, not, nat_le, [], ◌++◌, Option, None, Some}
use Rattle.std.specs.Prelude.{◌||◌, unwrap_or}
use Rattle.hl_parser.specs.Trees.{Maybe, Tree, Trees, a_param, absent, at_of, more_trees, no_trees, present}
use Rattle.hl_meaning.specs.declared.program.Copying.{Copying}
use Rattle.hl_meaning.specs.declared.program.Copying.TheVariants.{CopyBoth, CopyIn, CopyOut}
use Rattle.hl_meaning.specs.declared.program.Semantic.{Semantic}
use Rattle.hl_meaning.specs.declared.program.Semantic.TheVariants.{DispatchThreadId, GroupId, GroupIndex, GroupThreadId}
use Rattle.hl_meaning.specs.Types.{Ty, component_count, is_numeric}
use Rattle.hl_meaning.specs.WellFormed.{HasSemantic}
use Rattle.hl_rules.specs.DeclarationRules.{has_semantic, is_copied_in, is_input, is_semantic_among, is_semantic_type, param_name, param_semantic, rule_17, semantic_if, semantic_named}
use Rattle.hl_rules.specs.Declarations.{after_param, copying_of, direction_copying, param_copying, param_type}
use Rattle.hl_rules.specs.Parts.{an_entry_param, site}
use Rattle.hl_rules.specs.Scopes.{Scope}
use Rattle.hl_rules.specs.Sites.{and_tree, entry_sites, param_sites, params_sites}
use Rattle.hl_rules.specs.Source.{terminal_at, text_at}
use Rattle.hl_rules.proofs.TypeLemmas.{and-left, and-right}
use Rattle.hl_rules.proofs.Free.{IsFree, free-first, free-left, free-right, not_broken}
use Rattle.hl_rules.proofs.Options.{no-more, not-false, not-holds, or-one, or-other}

-- each parameter has a type
abbrev pub AreKnownParams : Scope → Trees → Type 0
AreKnownParams s no_trees = Unit {0}
AreKnownParams s (more_trees first rest) = ((ty : Ty) × (param_type s first ≡ Some ty)) × AreKnownParams (after_param s first) rest

-- ---- what depends on the tokens alone

semantic-tokens : (s t : Scope) (name : Option ℕ) → s.tokens ≡ t.tokens → semantic_if s name ≡ semantic_if t name
semantic-tokens s t None e = refl
semantic-tokens s t (Some name) e = ap (λ tokens. semantic_named (text_at tokens name)) e

pub param_semantic-tokens : (s t : Scope) (param : Tree) → s.tokens ≡ t.tokens → param_semantic s param ≡ param_semantic t param
param_semantic-tokens s t (a_param at constant direction type declarator semantic) e = semantic-tokens s t semantic e
param_semantic-tokens s t other e = refl

pub copying-tokens : (s t : Scope) (direction : Maybe) → s.tokens ≡ t.tokens → copying_of s direction ≡ copying_of t direction
copying-tokens s t absent e = refl
copying-tokens s t (present direction) e = ap (λ tokens. direction_copying (terminal_at tokens (at_of direction))) e

pub among-tokens : (s t : Scope) (semantic : Semantic) (trees : Trees) → s.tokens ≡ t.tokens → is_semantic_among s semantic trees ≡ is_semantic_among t semantic trees
among-tokens s t semantic no_trees e = refl
among-tokens s t semantic (more_trees first rest) e =
    ap (λ o. has_semantic semantic o || is_semantic_among s semantic rest) (param_semantic-tokens s t first e)
    ∙ ap (λ b. has_semantic semantic (param_semantic t first) || b) (among-tokens s t semantic rest e)

pub param-tokens : (s : Scope) (param : Tree) → (after_param s param).tokens ≡ s.tokens
param-tokens s (a_param at constant direction type declarator semantic) = refl
param-tokens s other = refl

-- ---- one parameter

pub record IsInputParam (s : Scope) (before : Trees) (param : Tree) (ty : Ty) : Type 0 where
  pub copying : param_copying s param ≡ CopyIn
  pub semantic : Semantic
  pub is : param_semantic s param ≡ Some semantic
  pub fits : HasSemantic semantic ty
  pub fresh : is_semantic_among s semantic before ≡ false

copied_in : (copying : Copying) → is_copied_in copying ≡ true → copying ≡ CopyIn
copied_in CopyIn e = refl
copied_in CopyOut e = absurd (cc e)
copied_in CopyBoth e = absurd (cc e)

semantic-fits : (semantic : Semantic) (ty : Ty) → is_semantic_type semantic ty ≡ true → HasSemantic semantic ty
semantic-fits GroupIndex ty e = e
semantic-fits DispatchThreadId ty e = (and-left (is_numeric ty) (nat_le (component_count ty) 3) e, no-more (component_count ty) 3 (and-right (is_numeric ty) (nat_le (component_count ty) 3) e))
semantic-fits GroupId ty e = (and-left (is_numeric ty) (nat_le (component_count ty) 3) e, no-more (component_count ty) 3 (and-right (is_numeric ty) (nat_le (component_count ty) 3) e))
semantic-fits GroupThreadId ty e = (and-left (is_numeric ty) (nat_le (component_count ty) 3) e, no-more (component_count ty) 3 (and-right (is_numeric ty) (nat_le (component_count ty) 3) e))

pub record IsInputOf (s : Scope) (before : Trees) (found : Option Semantic) (ty : Ty) : Type 0 where
  pub semantic : Semantic
  pub is : found ≡ Some semantic
  pub fits : HasSemantic semantic ty
  pub fresh : is_semantic_among s semantic before ≡ false

input-of : (s : Scope) (before : Trees) (found : Option Semantic) (own : Option Ty) (ty : Ty) → own ≡ Some ty → is_input s before own found ≡ true → IsInputOf s before found ty
input-of s before None own ty e h = absurd (cc h)
input-of s before (Some semantic) None ty e h = absurd (cc e)
input-of s before (Some semantic) (Some own) ty e h = record {
  semantic = semantic;
  is = refl;
  fits =
      subst (λ t. HasSemantic semantic t) (ap (λ o. unwrap_or o own) e)
      (semantic-fits semantic own (not-false (is_semantic_type semantic own) (not-holds (not (is_semantic_type semantic own)) (and-left (not (not (is_semantic_type semantic own))) (not (is_semantic_among s semantic before)) h))));
  fresh = not-holds (is_semantic_among s semantic before) (and-right (not (not (is_semantic_type semantic own))) (not (is_semantic_among s semantic before)) h);
}

input-there : (s : Scope) (before : Trees) (param : Tree) (ty : Ty) → rule_17 s (an_entry_param before param) ≡ [] → param_type s param ≡ Some ty → IsInputParam s before param ty
input-there s before param ty e h = record {
  copying = copied_in (param_copying s param) (not-false (is_copied_in (param_copying s param)) (or-one (not (is_copied_in (param_copying s param))) (not (is_input s before (param_type s param) (param_semantic s param))) sound));
  semantic = of.semantic;
  is = of.is;
  fits = of.fits;
  fresh = of.fresh;
}
  where
    sound : not (is_copied_in (param_copying s param)) || not (is_input s before (param_type s param) (param_semantic s param)) ≡ false
    sound = not_broken (not (is_copied_in (param_copying s param)) || not (is_input s before (param_type s param) (param_semantic s param))) (param_name param) e

    of : IsInputOf s before (param_semantic s param) ty
    of = input-of s before (param_semantic s param) (param_type s param) ty h (not-false (is_input s before (param_type s param) (param_semantic s param)) (or-other (not (is_copied_in (param_copying s param))) (not (is_input s before (param_type s param) (param_semantic s param))) sound))

-- ---- free sites of parameters

pub free-param : (s : Scope) (entry : Bool) (before : Trees) (first : Tree) (rest : Trees) → IsFree (params_sites s entry before (more_trees first rest)) → IsFree (param_sites s first)
free-param s entry before first rest free = free-left (param_sites s first) (entry_sites s entry before first ++ params_sites (after_param s first) entry (and_tree before first) rest) free

pub free-params : (s : Scope) (entry : Bool) (before : Trees) (first : Tree) (rest : Trees) → IsFree (params_sites s entry before (more_trees first rest)) → IsFree (params_sites (after_param s first) entry (and_tree before first) rest)
free-params s entry before first rest free =
    free-right (entry_sites s entry before first) (params_sites (after_param s first) entry (and_tree before first) rest)
    (free-right (param_sites s first) (entry_sites s entry before first ++ params_sites (after_param s first) entry (and_tree before first) rest) free)

pub first-input : (s : Scope) (before : Trees) (first : Tree) (rest : Trees) (ty : Ty) → IsFree (params_sites s true before (more_trees first rest)) → param_type s first ≡ Some ty → IsInputParam s before first ty
first-input s before first rest ty free h =
    input-there s before first ty
    (free-first (site s (an_entry_param before first)) (params_sites (after_param s first) true (and_tree before first) rest)
    (free-right (param_sites s first) (entry_sites s true before first ++ params_sites (after_param s first) true (and_tree before first) rest) free)).obeys_17 h
