-- Structs that break no rule have members of known types, and words.
use Rattle.std.proofs.Common.{◌≡◌, ◌∙◌, refl, sym, ap, subst, ℕ, ◌+◌, ◌<◌, List, [], ◌∷◌, ◌++◌, length, Option, Some, length-append, arith}
use Rattle.std.specs.Prelude.{IsTrue, option_and_then, option_map, unwrap_or}
use Rattle.std.proofs.lemmas.List.{length-map}
use Rattle.hl_lexer.specs.Tokens.{Lexeme}
use Rattle.hl_parser.specs.Trees.{Trees, a_member, at_of, more_trees, no_trees}
use Rattle.hl_meaning.specs.Layout.{words_in}
use Rattle.hl_meaning.specs.Types.{Ty, void_type}
use Rattle.hl_meaning.specs.WellFormed.{most_words}
use Rattle.hl_rules.specs.Constants.{declarator_type, named_type}
use Rattle.hl_rules.specs.DeclarationRules.{is_more}
use Rattle.hl_rules.specs.Declarations.{declarators_info, member_info, members_info, struct_info}
use Rattle.hl_rules.specs.Parts.{a_global_name, a_member_name, a_whole_struct, site}
use Rattle.hl_rules.specs.Scopes.{MemberInfo, Scope, StructInfo, members_words, spelled, words_if}
use Rattle.hl_rules.specs.Sites.{declarator_sites, declarators_sites, members_sites, type_sites}
use Rattle.hl_rules.proofs.DeclaratorForms.{IsKnownAs, declarator-known, named-known}
use Rattle.hl_rules.proofs.Free.{IsFree, free-first, free-left, free-rest, free-right, not_broken}
use Rattle.hl_rules.proofs.Soundness.{IsSound}
use Rattle.hl_rules.proofs.StructForms.{AreKnownMembers, AreKnownStructs, IsKnownStruct, IsTypeBelow, info_words, known_words, type_below, type_words-known, words_known}
use Rattle.hl_rules.proofs.TreeShapes.{AllTrees, IsDeclarator, IsMember, are_some}
use Rattle.hl_rules.proofs.ResourceForms.{few-words}

-- ---- members

members-join : (words : List ℕ) (a b : List MemberInfo) → AreKnownMembers words a → AreKnownMembers words b → AreKnownMembers words (a ++ b)
members-join words [] b h k = k
members-join words (m ∷ a) b h k = (h.0, members-join words a b h.1 k)

declarators-known : (s : Scope) → IsSound s → (ty : Option Ty) → IsKnownAs s ty → (before : List MemberInfo) (declarators : Trees) → AllTrees (IsDeclarator s.tokens) declarators → IsFree (declarators_sites s ty before declarators) → AreKnownMembers (known_words s.structs) (declarators_info s ty declarators)
declarators-known s sound ty known before no_trees shape free = tt
declarators-known s sound ty known before (more_trees first rest) shape free = (
  (let own = declarator-known s sound ty known first shape.0 (free-left (declarator_sites s ty first) (site s (a_member_name before (at_of first)) ∷ declarators_sites s ty (before ++ record { name = spelled s (at_of first); ty = declarator_type s ty first } ∷ []) rest) free) in
      record { type = own.type; is = own.is; known = own.known }),
  declarators-known s sound ty known (before ++ record { name = spelled s (at_of first); ty = declarator_type s ty first } ∷ []) rest shape.1
      (free-rest (site s (a_member_name before (at_of first))) (declarators_sites s ty (before ++ record { name = spelled s (at_of first); ty = declarator_type s ty first } ∷ []) rest)
      (free-right (declarator_sites s ty first) (site s (a_member_name before (at_of first)) ∷ declarators_sites s ty (before ++ record { name = spelled s (at_of first); ty = declarator_type s ty first } ∷ []) rest) free)),
)

members-known : (s : Scope) → IsSound s → (before : List MemberInfo) (members : Trees) → AllTrees (IsMember s.tokens) members → IsFree (members_sites s before members) → AreKnownMembers (known_words s.structs) (members_info s members)
members-known s sound before no_trees shape free = tt
members-known s sound before (more_trees (a_member at type declarators) rest) shape free =
    members-join (known_words s.structs) (declarators_info s (named_type s type) declarators) (members_info s rest)
    (declarators-known s sound (named_type s type) (named-known s sound type shape.0.0 (free-left (type_sites s type) (declarators_sites s (named_type s type) before declarators ++ members_sites s (before ++ member_info s (a_member at type declarators)) rest) free)) before declarators shape.0.1.1
    (free-left (declarators_sites s (named_type s type) before declarators) (members_sites s (before ++ member_info s (a_member at type declarators)) rest) behind))
    (members-known s sound (before ++ member_info s (a_member at type declarators)) rest shape.1
    (free-right (declarators_sites s (named_type s type) before declarators) (members_sites s (before ++ member_info s (a_member at type declarators)) rest) behind))
  where
    behind : IsFree (declarators_sites s (named_type s type) before declarators ++ members_sites s (before ++ member_info s (a_member at type declarators)) rest)
    behind = free-right (type_sites s type) (declarators_sites s (named_type s type) before declarators ++ members_sites s (before ++ member_info s (a_member at type declarators)) rest) free
members-known s sound before (more_trees other rest) shape free = absurd shape.0

-- ---- at least one

some-declarator : (s : Scope) (ty : Option Ty) (declarators : Trees) → IsTrue (are_some declarators) → 0 < length (declarators_info s ty declarators)
some-declarator s ty no_trees e = absurd (cc e)
some-declarator s ty (more_trees first rest) e = omega arith

some-member : (s : Scope) (tokens : List Lexeme) (members : Trees) → IsTrue (are_some members) → AllTrees (IsMember tokens) members → 0 < length (members_info s members)
some-member s tokens no_trees e shape = absurd (cc e)
some-member s tokens (more_trees (a_member at type declarators) rest) e shape =
    let h : 0 < length (declarators_info s (named_type s type) declarators) = some-declarator s (named_type s type) declarators shape.0.1.0 in
    omega (arith, length-append (declarators_info s (named_type s type) declarators) (members_info s rest))
some-member s tokens (more_trees other rest) e shape = absurd shape.0

-- ---- words

members-have : (structs : List StructInfo) → AreKnownStructs [] structs → (members : List MemberInfo) → AreKnownMembers (known_words structs) members → members_words structs members ≡ Some (info_words (known_words structs) members)
members-have structs known [] k = refl
members-have structs known (m ∷ members) k =
    ap (λ o. option_and_then (λ words. option_map (λ more. words + more) o) (words_if structs m.ty)) (members-have structs known members k.1)
    ∙ (ap (λ o. option_and_then (λ words. Some (words + info_words (known_words structs) members)) o)
    (ap (λ o. words_if structs o) k.0.is
    ∙ type_words-known structs k.0.type known (type_below (length structs) k.0.type (subst (λ n. IsTypeBelow n k.0.type) (length-map structs words_known) k.0.known.is_type)))
    ∙ ap (λ o. Some (words_in (known_words structs) (unwrap_or o void_type) + info_words (known_words structs) members)) (sym k.0.is))

pub struct-known : (s : Scope) → IsSound s → (name : ℕ) (members : Trees) → IsTrue (are_some members) → AllTrees (IsMember s.tokens) members → IsFree (members_sites s [] members ++ (site s (a_global_name name) ∷ site s (a_whole_struct name (struct_info s name members).words) ∷ [])) → IsKnownStruct (known_words s.structs) (struct_info s name members)
struct-known s sound name members some shape free = record {
  some_member = some-member s s.tokens members some shape;
  members = known;
  has_words = words;
  fits =
      few-words most_words (info_words (known_words s.structs) (members_info s members))
      (ap (λ o. is_more most_words o) (sym words)
      ∙ not_broken (is_more most_words (members_words s.structs (members_info s members))) name
      (free-first (site s (a_whole_struct name (struct_info s name members).words)) []
      (free-rest (site s (a_global_name name)) (site s (a_whole_struct name (struct_info s name members).words) ∷ [])
      (free-right (members_sites s [] members) (site s (a_global_name name) ∷ site s (a_whole_struct name (struct_info s name members).words) ∷ []) free))).obeys_42);
}
  where
    known : AreKnownMembers (known_words s.structs) (members_info s members)
    known = members-known s sound [] members shape (free-left (members_sites s [] members) (site s (a_global_name name) ∷ site s (a_whole_struct name (struct_info s name members).words) ∷ []) free)

    words : members_words s.structs (members_info s members) ≡ Some (info_words (known_words s.structs) (members_info s members))
    words = members-have s.structs sound.structs (members_info s members) known
