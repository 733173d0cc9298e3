-- How many words types have, as it is held.
use Rattle.std.proofs.Common.{◌≡◌, ◌∙◌, refl, sym, ap, ℕ, zero, suc, ◌+◌, ◌*◌, ◌^◌, ◌<◌, List, [], ◌∷◌, map, drop, slice_get, Option, None, Some, option_map, option_and_then, if◌then◌else◌, suc-add}
use Rattle.std.proofs.lemmas.Bool.{lt-ltb}
use Rattle.hl_meaning.specs.declared.ty.HlType.{HlType}
use Rattle.hl_rules.specs.Scopes.{StructInfo, members_words, words_if}
use Rattle.hl_values.specs.declared.words.WordCount.{WordCount}
use Rattle.hl_values.specs.declared.words.WordCount.TheVariants.{Few, Many}
use Rattle.hl_values.specs.StructTables.{Member, plain_member}
use Rattle.hl_values.specs.Views.{plain_type_if}
use Rattle.hl_values.specs.WordCounts.{counted}

pub counted-few : (n : ℕ) → n < 2 ^ 64 → counted n ≡ Few n
counted-few n h = ap (λ b. if b then Few n else Many) (lt-ltb n (2 ^ 64) h)

-- the words of what is repeated
pub times-known : (o : Option ℕ) (words times : WordCount) (length : ℕ) → Some words ≡ option_map counted o
    → ((a : ℕ) → words ≡ counted a → times ≡ counted (length * a)) → Some times ≡ option_map counted (option_map (λ w. length * w) o)
times-known None words times length known product = cc
times-known (Some n) words times length known product = ap (λ w. Some w) (product n (cc))

pub times-unknown : (o : Option ℕ) (f : ℕ → ℕ) → None ≡ option_map counted o → None ≡ option_map counted (option_map f o)
times-unknown None f known = refl
times-unknown (Some n) f known = cc

-- the words of what stands side by side
abbrev pub together : Option ℕ → Option ℕ → Option ℕ
together first rest = option_and_then (λ words. option_map (λ more. words + more) rest) first

pub plus-known : (first rest : Option ℕ) (words more sum : WordCount) → Some words ≡ option_map counted first → Some more ≡ option_map counted rest
    → ((a b : ℕ) → words ≡ counted a → more ≡ counted b → sum ≡ counted (a + b)) → Some sum ≡ option_map counted (together first rest)
plus-known None rest words more sum known behind total = cc
plus-known (Some n) None words more sum known behind total = cc
plus-known (Some n) (Some m) words more sum known behind total = ap (λ w. Some w) (total n m (cc) (cc))

pub plus-unknown : (first rest : Option ℕ) → None ≡ option_map counted first → None ≡ option_map counted (together first rest)
plus-unknown None rest known = refl
plus-unknown (Some n) rest known = cc

pub plus-without : (first rest : Option ℕ) (words : WordCount) → Some words ≡ option_map counted first → None ≡ option_map counted rest → None ≡ option_map counted (together first rest)
plus-without None rest words known behind = cc
plus-without (Some n) None words known behind = refl
plus-without (Some n) (Some m) words known behind = cc

-- the words of the members from one on
pub members_words-at : (structs : List StructInfo) (members : List Member) (at : ℕ) (ty : Option HlType) → Some ty ≡ option_map (λ m. m.1) (slice_get members at)
    → members_words structs (map plain_member (drop at members)) ≡ together (words_if structs (plain_type_if ty)) (members_words structs (map plain_member (drop (at + 1) members)))
members_words-at structs [] at ty e = cc
members_words-at structs (m ∷ members) zero ty e =
    let same : m.1 ≡ ty = cc in
    ap (λ t. together (words_if structs (plain_type_if t)) (members_words structs (map plain_member members))) same
members_words-at structs (m ∷ members) (suc at) ty e = members_words-at structs members at ty e ∙ ap (λ k. together (words_if structs (plain_type_if ty)) (members_words structs (map plain_member (drop k (m ∷ members))))) (sym (suc-add at 1))
