-- Groupshared variables, one behind the other.
use Rattle.std.proofs.Common.{◌≡◌, ◌∙◌, sym, ap, List, [], ◌∷◌, ◌++◌, Option, append_assoc}
use Rattle.hl_parser.specs.Trees.{Tree, Trees, at_of, more_trees}
use Rattle.hl_meaning.specs.Programs.{Variable}
use Rattle.hl_meaning.specs.Types.{Ty}
use Rattle.hl_rules.specs.declared.found.Broken.{Broken}
use Rattle.hl_rules.specs.Declarations.{after_shared, with_shared}
use Rattle.hl_rules.specs.Elaboration.{declared_shared, declared_variable}
use Rattle.hl_rules.specs.Parts.{a_global_name, site}
use Rattle.hl_rules.specs.Rules.{noted}
use Rattle.hl_rules.specs.Scopes.{Scope}
use Rattle.hl_rules.specs.Sites.{declarator_sites, shared_sites}
use Rattle.hl_rules.proofs.Noting.{noted-append}

pub more-scope : (ty : Option Ty) (s s' all : Scope) (t : Tree) (rest : Trees) → s' ≡ with_shared ty s t → after_shared ty s (more_trees t rest) ≡ all → after_shared ty s' rest ≡ all
more-scope ty s s' all t rest e whole = ap (λ x. after_shared ty x rest) e ∙ whole

pub more-variables : (ty : Option Ty) (s s' : Scope) (t : Tree) (rest : Trees) (before after all : List Variable)
    → s' ≡ with_shared ty s t → after ≡ before ++ declared_variable s ty t ∷ []
    → before ++ declared_shared ty s (more_trees t rest) ≡ all → after ++ declared_shared ty s' rest ≡ all
more-variables ty s s' t rest before after all e a whole =
    ap (λ x. after ++ declared_shared ty x rest) e ∙ (ap (λ l. l ++ declared_shared ty (with_shared ty s t) rest) a ∙
    (append_assoc before (declared_variable s ty t ∷ []) (declared_shared ty (with_shared ty s t) rest) ∙ whole))

pub more-found : (ty : Option Ty) (s s' : Scope) (t : Tree) (rest : Trees) (f f' all : Option Broken)
    → s' ≡ with_shared ty s t → f' ≡ noted f (declarator_sites s ty t ++ site s (a_global_name (at_of t)) ∷ [])
    → noted f (shared_sites ty s (more_trees t rest)) ≡ all → noted f' (shared_sites ty s' rest) ≡ all
more-found ty s s' t rest f f' all e found whole =
    let behind = shared_sites ty (with_shared ty s t) rest in
    ap (λ x. noted f' (shared_sites ty x rest)) e ∙ (ap (λ x. noted x behind) found ∙
    (sym (noted-append f (declarator_sites s ty t ++ site s (a_global_name (at_of t)) ∷ []) behind) ∙
    (ap (noted f) (append_assoc (declarator_sites s ty t) (site s (a_global_name (at_of t)) ∷ []) behind) ∙ whole)))
