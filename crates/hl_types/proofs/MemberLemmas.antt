-- Members of structs, one behind the other.
use Rattle.std.proofs.Common.{◌≡◌, ◌∙◌, refl, sym, ap, subst, ℕ, suc, Bool, true, false, ◌||◌, if◌then◌else◌, List, [], ◌∷◌, ◌++◌, map, position, slice_get, bytes_eq, is_some, Option, append_assoc, append-nil}
use Rattle.std.specs.List.{list_any}
use Rattle.std.proofs.lemmas.List.{map-append}
use Rattle.hl_meaning.specs.declared.ty.HlType.{HlType}
use Rattle.hl_rules.specs.Found.{breaking, broken_if, gathered}
use Rattle.hl_values.specs.NameTables.{is_named, positions_from}
use Rattle.hl_values.specs.StructTables.{Member, plain_member}
use Rattle.hl_values.specs.Views.{plain_type_if}
use Rattle.hl_values.proofs.NameLemmas.{first_position}
use Rattle.hl_parser.specs.declared.tree.Tree.{Tree, Tree-F, out-Tree}
use Rattle.hl_parser.specs.declared.tree.Tree.TheVariants.{rolls-Member}
use Rattle.hl_parser.specs.declared.tree.Tree.TheVariants as variants
use Rattle.hl_parser.specs.Trees as plain
use Rattle.hl_parser.specs.Trees.{Trees, more_trees, no_trees, a_member, at_of}
use Rattle.hl_parser.specs.Views.{plain_of}
use Rattle.hl_meaning.specs.Types.{Ty}
use Rattle.hl_rules.specs.declared.found.Broken.{Broken}
use Rattle.hl_rules.specs.Constants.{declarator_type, named_type}
use Rattle.hl_rules.specs.Declarations.{declarators_info, member_info, members_info}
use Rattle.hl_rules.specs.Parts.{a_member_name, site}
use Rattle.hl_rules.specs.Rules.{noted}
use Rattle.hl_rules.specs.Scopes.{MemberInfo, Scope, spelled}
use Rattle.hl_rules.specs.Sites.{declarator_sites, declarators_sites, members_sites, type_sites}
use Rattle.hl_rules.proofs.Noting.{noted-append, noted-member_name}
use Rattle.hl_types.proofs.DeclaredShapes.{by_layer, layer, of_layer}

abbrev pub IsNoMember : Tree → Type 0
IsNoMember tree = (at : ℕ) (ty : Tree) (declarators : List Tree) → tree ≡ variants.Member at ty declarators → ⊥

pub record NoMember (s : Scope) (before : List MemberInfo) (t : plain.Tree) : Type 0 where
  pub info : member_info s t ≡ []
  pub found : members_sites s before (more_trees t no_trees) ≡ []

member-none : (s : Scope) (before : List MemberInfo) (tree : Tree) (form : Tree-F Tree) → out-Tree tree ≡ form → IsNoMember tree → NoMember s before (layer form)
member-none s before tree (Tree-F.Member at ty declarators) e a = absurd (a at ty declarators (of_layer tree (Tree-F.Member at ty declarators) e ∙ rolls-Member at ty declarators))
member-none s before tree form e a = record { info = refl; found = refl }

pub no_member : (s : Scope) (before : List MemberInfo) (tree : Tree) → IsNoMember tree → NoMember s before (plain_of tree)
no_member s before tree a = subst (NoMember s before) (sym (by_layer tree)) (member-none s before tree (out-Tree tree) refl a)

-- the places of members behind those of one tree
pub members-more : (s : Scope) (before : List MemberInfo) (t : plain.Tree) (rest : Trees)
    → members_sites s before (more_trees t rest) ≡ members_sites s before (more_trees t no_trees) ++ members_sites s (before ++ member_info s t) rest
members-more s before (a_member at type declarators) rest =
    sym (ap (λ l. l ++ members_sites s (before ++ member_info s (a_member at type declarators)) rest) (ap (λ l. type_sites s type ++ l) (append-nil (declarators_sites s (named_type s type) before declarators))) ∙
    append_assoc (type_sites s type) (declarators_sites s (named_type s type) before declarators) (members_sites s (before ++ member_info s (a_member at type declarators)) rest))
members-more s before t rest = ap (λ b. members_sites s b rest) (sym (append-nil before))

pub declarators-more : (s : Scope) (ty : Option Ty) (before : List MemberInfo) (t : plain.Tree) (rest : Trees)
    → declarators_sites s ty before (more_trees t rest)
    ≡ (declarator_sites s ty t ++ site s (a_member_name before (at_of t)) ∷ []) ++ declarators_sites s ty (before ++ record { name = spelled s (at_of t); ty = declarator_type s ty t } ∷ []) rest
declarators-more s ty before t rest =
    sym (append_assoc (declarator_sites s ty t) (site s (a_member_name before (at_of t)) ∷ []) (declarators_sites s ty (before ++ record { name = spelled s (at_of t); ty = declarator_type s ty t } ∷ []) rest))

-- ---- names of members

any-member : (name : List ℕ) (at : ℕ) (members : List Member)
    → list_any (λ m. bytes_eq m.name name) (map plain_member members) ≡ is_some (slice_get (positions_from at name members) 0)
any-member name at [] = refl
any-member name at (m ∷ members) = by (is_named name m) (any-member name (suc at) members)
  where
    by : (b : Bool) → list_any (λ x. bytes_eq x.name name) (map plain_member members) ≡ is_some (slice_get (positions_from (suc at) name members) 0)
        → (b || list_any (λ x. bytes_eq x.name name) (map plain_member members)) ≡ is_some (slice_get (if b then at ∷ positions_from (suc at) name members else positions_from (suc at) name members) 0)
    by true rest = refl
    by false rest = rest

pub member-named : (members : List Member) (name : List ℕ) → list_any (λ m. bytes_eq m.name name) (map plain_member members) ≡ is_some (position (is_named name) members)
member-named members name = any-member name 0 members ∙ ap is_some (first_position name members)

-- ---- a member

abbrev pub known_member : List ℕ → Option Ty → MemberInfo
known_member name ty = record { name = name; ty = ty }

pub member-pushed : (s : Scope) (ty : Option Ty) (t : plain.Tree) (before after : List Member) (text : List ℕ) (own : Option HlType)
    → after ≡ before ++ (text, own) ∷ [] → text ≡ spelled s (at_of t) → plain_type_if own ≡ declarator_type s ty t
    → map plain_member after ≡ map plain_member before ++ known_member (spelled s (at_of t)) (declarator_type s ty t) ∷ []
member-pushed s ty t before after text own a n o =
    ap (map plain_member) a ∙ (map-append plain_member before ((text, own) ∷ []) ∙
    (ap (λ x. map plain_member before ++ known_member x (plain_type_if own) ∷ []) n ∙ ap (λ x. map plain_member before ++ known_member (spelled s (at_of t)) x ∷ []) o))

pub member-noted : (s : Scope) (ty : Option Ty) (t : plain.Tree) (before : List Member) (f0 f1 f2 : Option Broken) (found : Option ℕ) (there : Bool) (text : List ℕ) (at : ℕ)
    → f1 ≡ noted f0 (declarator_sites s ty t) → found ≡ position (is_named text) before → there ≡ is_some found → text ≡ spelled s (at_of t) → at ≡ at_of t
    → f2 ≡ gathered f1 (breaking 5 (broken_if there at))
    → f2 ≡ noted f0 (declarator_sites s ty t ++ site s (a_member_name (map plain_member before) (at_of t)) ∷ [])
member-noted s ty t before f0 f1 f2 found there text at e1 p h n a e2 =
    e2 ∙ (ap (λ f. gathered f (breaking 5 (broken_if there at))) e1 ∙
    (ap (λ b. gathered (noted f0 (declarator_sites s ty t)) (breaking 5 (broken_if b at))) (h ∙ (ap is_some p ∙ (sym (member-named before text) ∙ ap (λ x. list_any (λ m. bytes_eq m.name x) (map plain_member before)) n))) ∙
    (ap (λ x. gathered (noted f0 (declarator_sites s ty t)) (breaking 5 (broken_if (list_any (λ m. bytes_eq m.name (spelled s (at_of t))) (map plain_member before)) x))) a ∙
    sym (noted-append f0 (declarator_sites s ty t) (site s (a_member_name (map plain_member before) (at_of t)) ∷ []) ∙ noted-member_name (noted f0 (declarator_sites s ty t)) s (map plain_member before) (at_of t)))))

-- ---- one member more

pub declarators-info : (s : Scope) (ty : Option Ty) (before after all : List MemberInfo) (t : plain.Tree) (rest : Trees)
    → after ≡ before ++ known_member (spelled s (at_of t)) (declarator_type s ty t) ∷ []
    → before ++ declarators_info s ty (more_trees t rest) ≡ all → after ++ declarators_info s ty rest ≡ all
declarators-info s ty before after all t rest a whole =
    ap (λ l. l ++ declarators_info s ty rest) a ∙ (append_assoc before (known_member (spelled s (at_of t)) (declarator_type s ty t) ∷ []) (declarators_info s ty rest) ∙ whole)

pub declarators-found : (s : Scope) (ty : Option Ty) (before after : List MemberInfo) (t : plain.Tree) (rest : Trees) (f f' all : Option Broken)
    → after ≡ before ++ known_member (spelled s (at_of t)) (declarator_type s ty t) ∷ []
    → f' ≡ noted f (declarator_sites s ty t ++ site s (a_member_name before (at_of t)) ∷ [])
    → noted f (declarators_sites s ty before (more_trees t rest)) ≡ all → noted f' (declarators_sites s ty after rest) ≡ all
declarators-found s ty before after t rest f f' all a e whole =
    let behind = declarators_sites s ty (before ++ known_member (spelled s (at_of t)) (declarator_type s ty t) ∷ []) rest in
    ap (λ b. noted f' (declarators_sites s ty b rest)) a ∙ (ap (λ x. noted x behind) e ∙
    (sym (noted-append f (declarator_sites s ty t ++ site s (a_member_name before (at_of t)) ∷ []) behind) ∙
    (ap (noted f) (sym (declarators-more s ty before t rest)) ∙ whole)))

pub members-info : (s : Scope) (before after all : List MemberInfo) (t : plain.Tree) (rest : Trees)
    → after ≡ before ++ member_info s t → before ++ members_info s (more_trees t rest) ≡ all → after ++ members_info s rest ≡ all
members-info s before after all t rest a whole =
    ap (λ l. l ++ members_info s rest) a ∙ (append_assoc before (member_info s t) (members_info s rest) ∙ whole)

pub members-found : (s : Scope) (before after : List MemberInfo) (t : plain.Tree) (rest : Trees) (f f' all : Option Broken)
    → after ≡ before ++ member_info s t → f' ≡ noted f (members_sites s before (more_trees t no_trees))
    → noted f (members_sites s before (more_trees t rest)) ≡ all → noted f' (members_sites s after rest) ≡ all
members-found s before after t rest f f' all a e whole =
    ap (λ b. noted f' (members_sites s b rest)) a ∙ (ap (λ x. noted x (members_sites s (before ++ member_info s t) rest)) e ∙
    (sym (noted-append f (members_sites s before (more_trees t no_trees)) (members_sites s (before ++ member_info s t) rest)) ∙
    (ap (noted f) (sym (members-more s before t rest)) ∙ whole)))

-- the members of a tree
pub tree-noted : (s : Scope) (at : ℕ) (type : plain.Tree) (declarators : Trees) (before : List MemberInfo) (named : Option Ty) (f0 f1 f2 : Option Broken)
    → f1 ≡ noted f0 (type_sites s type) → named ≡ named_type s type → f2 ≡ noted f1 (declarators_sites s named before declarators)
    → f2 ≡ noted f0 (members_sites s before (more_trees (a_member at type declarators) no_trees))
tree-noted s at type declarators before named f0 f1 f2 e1 n e2 =
    e2 ∙ (ap (λ x. noted f1 (declarators_sites s x before declarators)) n ∙ (ap (λ f. noted f (declarators_sites s (named_type s type) before declarators)) e1 ∙
    (sym (noted-append f0 (type_sites s type) (declarators_sites s (named_type s type) before declarators)) ∙
    ap (λ l. noted f0 (type_sites s type ++ l)) (sym (append-nil (declarators_sites s (named_type s type) before declarators))))))
