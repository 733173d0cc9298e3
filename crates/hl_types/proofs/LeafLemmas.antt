-- The expressions in initialisers: what they become, and what is noted of them.
use Rattle.std.proofs.Common.{◌≡◌, ◌∙◌, refl, sym, ap, ℕ, suc, ◌+◌, ◌<◌, ◌≤◌, ◌==◌, ◌||◌, Bool, true, false, if◌then◌else◌, List, [], ◌∷◌, ◌++◌, Option, None, Some, append_assoc, append-nil, drop, get_or, length, map, option_map, unwrap_or, arith}
use Rattle.std.specs.Prelude.{IfOk, OnOk, Result, Ok, Err, option_and_then}
use Rattle.std.specs.List.{list_any}
use Rattle.std.proofs.lemmas.List.{at_drop_all, at_drop_more, length-map}
use Rattle.std.proofs.lemmas.Bool.{eqb-false, eqb-true}
use Rattle.hl_meaning.specs.declared.expression.Expr.{Expr}
use Rattle.hl_meaning.specs.declared.ty.Kind.{Kind}
use Rattle.hl_meaning.specs.Trees.{Expr as PlainExpr, Exprs, an_expr, build_form, more_exprs}
use Rattle.hl_meaning.specs.Views.{plain_expr, plain_exprs}
use Rattle.hl_parser.specs.Trees.{Tree, Trees, absent, an_init, present}
use Rattle.hl_rules.specs.declared.found.Broken.{Broken}
use Rattle.hl_rules.specs.DeclarationRules.{is_other, leaves_among, leaves_of}
use Rattle.hl_rules.specs.Elaboration.{init_words, leaf_word, leaf_words, word_in}
use Rattle.hl_rules.specs.Expressions.{code_of, with_two}
use Rattle.hl_rules.specs.Found.{breaking, broken_if, gathered}
use Rattle.hl_rules.specs.Nodes.{Code as PlainCode}
use Rattle.hl_rules.specs.Parts.{a_brace_init, site}
use Rattle.hl_rules.specs.Rules.{noted}
use Rattle.hl_rules.specs.Scopes.{Scope, type_words, words_if}
use Rattle.hl_rules.specs.Sites.{init_sites, leaf_sites, leaves_sites, value_sites}
use Rattle.hl_rules.specs.Statements.{init_code, leaf_codes, struct_defs}
use Rattle.hl_rules.proofs.Noting.{noted-append, noted-brace_init}
use Rattle.hl_meaning.specs.Types.{Ty}
use Rattle.hl_meaning.specs.Layout.{kinds_of}
use Rattle.hl_types.specs.Kinds.{kinds_if, type_kinds}
use Rattle.hl_types.specs.Walks.{made_expr}
use Rattle.hl_rules.specs.Values.{value_of}
use Rattle.hl_types.specs.Leaves.{is_other_leaf, is_other_type, leaf_in, leaves_in, words_in_kinds}
use Rattle.hl_types.proofs.Turns.{left-end, left-turn}
use Rattle.hl_values.specs.declared.scope.Scope.{Scope as HeldScope}
use Rattle.hl_values.specs.declared.typed.Code.{Code}
use Rattle.hl_values.specs.ScopeViews.{scope_of}
use Rattle.hl_values.specs.StructTables.{Members, plain_structs}
use Rattle.hl_values.specs.Views.{plain_code_if}
use Rattle.hl_values.specs.declared.words.WordCount.{WordCount}
use Rattle.hl_values.specs.WordCounts.{counted}
use Rattle.hl_values.proofs.NodeLemmas.{exprs_before, exprs_before-all, exprs_before-push}

-- ---- turns

-- what is listed in order, with what is left
pub listed-turn : {A B : Type 0} (f : List A → List B) (xs : List A) (i : ℕ) (x : A) (own now next before : List B) → i < length xs → x ≡ get_or xs i x
    → f (x ∷ drop (i + 1) xs) ≡ own ++ f (drop (i + 1) xs) → now ++ f (drop i xs) ≡ before → next ≡ now ++ own → next ++ f (drop (i + 1) xs) ≡ before
listed-turn f xs i x own now next before within is step invariant pushed =
    ap (λ l. l ++ f (drop (i + 1) xs)) pushed ∙ (append_assoc now own (f (drop (i + 1) xs)) ∙ (ap (λ l. now ++ l) (sym step) ∙
    left-turn (λ l. now ++ f l) xs i x before within is invariant))

pub listed-end : {A B : Type 0} (f : List A → List B) (xs : List A) (i : ℕ) (now before : List B) → length xs ≤ i → f [] ≡ [] → now ++ f (drop i xs) ≡ before → now ≡ before
listed-end f xs i now before past none invariant =
    sym (append-nil now) ∙ (ap (λ l. now ++ l) (sym none) ∙ left-end (λ l. now ++ f l) xs i before past invariant)

or-assoc : (a b c : Bool) → ((a || b) || c) ≡ (a || (b || c))
or-assoc true b c = refl
or-assoc false b c = refl

pub or-none : (a : Bool) → (a || false) ≡ a
or-none true = refl
or-none false = refl

-- whether one of several is so, with what is left
pub any-turn : {A : Type 0} (f : List A → Bool) (xs : List A) (i : ℕ) (x : A) (own now next before : Bool) → i < length xs → x ≡ get_or xs i x
    → f (x ∷ drop (i + 1) xs) ≡ (own || f (drop (i + 1) xs)) → (now || f (drop i xs)) ≡ before → next ≡ (now || own) → (next || f (drop (i + 1) xs)) ≡ before
any-turn f xs i x own now next before within is step invariant more =
    ap (λ b. b || f (drop (i + 1) xs)) more ∙ (or-assoc now own (f (drop (i + 1) xs)) ∙ (ap (λ b. now || b) (sym step) ∙
    left-turn (λ l. now || f l) xs i x before within is invariant))

pub any-end : {A : Type 0} (f : List A → Bool) (xs : List A) (i : ℕ) (now before : Bool) → length xs ≤ i → f [] ≡ false → (now || f (drop i xs)) ≡ before → now ≡ before
any-end f xs i now before past none invariant =
    sym (or-none now) ∙ (ap (λ b. now || b) (sym none) ∙ left-end (λ l. now || f l) xs i before past invariant)

pub any-append : {A : Type 0} (test : A → Bool) (xs ys : List A) → list_any test (xs ++ ys) ≡ (list_any test xs || list_any test ys)
any-append test [] ys = refl
any-append test (x ∷ xs) ys = ap (λ b. test x || b) (any-append test xs ys) ∙ sym (or-assoc (test x) (list_any test xs) (list_any test ys))

-- ---- leaves in their kinds

pub leaves-are : (s : Scope) (kinds : List Kind) (leaves : List Tree) → leaves_in kinds (map (code_of s) leaves) ≡ leaf_codes s kinds leaves
leaves-are s [] [] = refl
leaves-are s [] (leaf ∷ leaves) = refl
leaves-are s (kind ∷ kinds) [] = refl
leaves-are s (kind ∷ kinds) (leaf ∷ leaves) =
    ap (λ o. with_two (λ first rest. Some (more_exprs first rest)) (leaf_in kind (code_of s leaf)) o) (leaves-are s kinds leaves)

pub words-are : (s : Scope) (kinds : List Kind) (leaves : List Tree) → words_in_kinds kinds (map (leaf_word s) leaves) ≡ leaf_words s kinds leaves
words-are s [] [] = refl
words-are s [] (leaf ∷ leaves) = refl
words-are s (kind ∷ kinds) [] = refl
words-are s (kind ∷ kinds) (leaf ∷ leaves) =
    ap (λ o. with_two (λ first rest. Some (word_in kind first ∷ rest)) (leaf_word s leaf) o) (words-are s kinds leaves)

no-two : {A B C : Type 0} (f : A → B → Option C) (a : Option A) → with_two f a None ≡ None
no-two f None = refl
no-two f (Some x) = refl

-- others than as many
pub leaves-other : (kinds : List Kind) (codes : List (Option PlainCode)) → (length codes ≡ length kinds → ⊥) → leaves_in kinds codes ≡ None
leaves-other [] [] other = absurd (other refl)
leaves-other [] (code ∷ codes) other = refl
leaves-other (kind ∷ kinds) [] other = refl
leaves-other (kind ∷ kinds) (code ∷ codes) other =
    ap (λ o. with_two (λ first rest. Some (more_exprs first rest)) (leaf_in kind code) o) (leaves-other kinds codes (λ e. other (ap suc e))) ∙
    no-two (λ first rest. Some (more_exprs first rest)) (leaf_in kind code)

pub words-other : (kinds : List Kind) (words : List (Option ℕ)) → (length words ≡ length kinds → ⊥) → words_in_kinds kinds words ≡ None
words-other [] [] other = absurd (other refl)
words-other [] (word ∷ words) other = refl
words-other (kind ∷ kinds) [] other = refl
words-other (kind ∷ kinds) (word ∷ words) other =
    ap (λ o. with_two (λ first rest. Some (word_in kind first ∷ rest)) word o) (words-other kinds words (λ e. other (ap suc e))) ∙
    no-two (λ first rest. Some (word_in kind first ∷ rest)) word

-- kinds that there are so many of, or others
pub kinds_if-is : (count : ℕ) (kinds found : List Kind) → Some found ≡ kinds_if count kinds → found ≡ kinds
kinds_if-is count kinds found e = by (count == length kinds) e
  where
    by : (b : Bool) → Some found ≡ (if b then Some kinds else None) → found ≡ kinds
    by true h = cc h
    by false h = absurd (cc h)

pub kinds_if-other : (count : ℕ) (kinds : List Kind) → None ≡ kinds_if count kinds → (count == length kinds) ≡ false
kinds_if-other count kinds e = by (count == length kinds) e
  where
    by : (b : Bool) → None ≡ (if b then Some kinds else None) → b ≡ false
    by true h = absurd (cc h)
    by false h = refl

-- ---- the loop over leaves

before-next : (es : List Expr) (e : Expr) (o : Option Exprs) → option_map (exprs_before es) (option_and_then (λ rest. Some (more_exprs (plain_expr e) rest)) o) ≡ option_map (exprs_before (es ++ e ∷ [])) o
before-next es e None = refl
before-next es e (Some rest) = ap Some (sym (exprs_before-push es e rest))

leaf-turn : (es : List Expr) (e : Expr) (kind : Kind) (kinds : List Kind) (code : Option Code) (codes : List (Option Code)) → Some (plain_expr e) ≡ leaf_in kind (plain_code_if code)
    → option_map (exprs_before es) (leaves_in (kind ∷ kinds) (map plain_code_if (code ∷ codes))) ≡ option_map (exprs_before (es ++ e ∷ [])) (leaves_in kinds (map plain_code_if codes))
leaf-turn es e kind kinds code codes h =
    ap (λ o. option_map (exprs_before es) (with_two (λ first rest. Some (more_exprs first rest)) o (leaves_in kinds (map plain_code_if codes)))) (sym h) ∙
    before-next es e (leaves_in kinds (map plain_code_if codes))

pub leaf-loop : (kinds : List Kind) (i : ℕ) (kind default : Kind) (es next_es : List Expr) (e item : Expr) (code : Option Code) (rest next : List (Option Code)) (made : Option Expr) (whole : Option Exprs)
    → option_map (exprs_before es) (leaves_in (drop i kinds) (map plain_code_if rest)) ≡ whole → i < length kinds → kind ≡ get_or kinds i default → rest ≡ code ∷ next → made ≡ Some e
    → option_map plain_expr made ≡ leaf_in kind (plain_code_if code) → item ≡ e → next_es ≡ es ++ item ∷ []
    → option_map (exprs_before next_es) (leaves_in (drop (i + 1) kinds) (map plain_code_if next)) ≡ whole
leaf-loop kinds i kind default es next_es e item code rest next made whole inv within at left is conv same pushed =
    ap (λ l. option_map (exprs_before l) (leaves_in (drop (i + 1) kinds) (map plain_code_if next))) (pushed ∙ ap (λ x. es ++ x ∷ []) same) ∙
    (sym (leaf-turn es e kind (drop (i + 1) kinds) code next (ap (λ o. option_map plain_expr o) (sym is) ∙ conv)) ∙
    (ap (λ k. option_map (exprs_before es) (leaves_in (k ∷ drop (i + 1) kinds) (map plain_code_if (code ∷ next)))) at ∙
    (sym (at_drop_more (λ l. option_map (exprs_before es) (leaves_in l (map plain_code_if (code ∷ next)))) kinds i default within) ∙
    (ap (λ l. option_map (exprs_before es) (leaves_in (drop i kinds) (map plain_code_if l))) (sym left) ∙ inv))))

pub leaf-end : (kinds : List Kind) (i : ℕ) (es : List Expr) (rest : List (Option Code)) (whole : Option Exprs)
    → option_map (exprs_before es) (leaves_in (drop i kinds) (map plain_code_if rest)) ≡ whole → length kinds ≤ i → rest ≡ [] → Some (plain_exprs es) ≡ whole
leaf-end kinds i es rest whole inv past empty =
    ap Some (sym (exprs_before-all es)) ∙
    (sym (at_drop_all (λ l. option_map (exprs_before es) (leaves_in l [])) kinds i past) ∙
    (ap (λ l. option_map (exprs_before es) (leaves_in (drop i kinds) (map plain_code_if l))) (sym empty) ∙ inv))

pub leaf-short : (kinds : List Kind) (i : ℕ) (kind : Kind) (es : List Expr) (rest : List (Option Code)) (whole : Option Exprs)
    → option_map (exprs_before es) (leaves_in (drop i kinds) (map plain_code_if rest)) ≡ whole → i < length kinds → rest ≡ [] → None ≡ whole
leaf-short kinds i kind es rest whole inv within empty =
    sym (at_drop_more (λ l. option_map (exprs_before es) (leaves_in l [])) kinds i kind within) ∙
    (ap (λ l. option_map (exprs_before es) (leaves_in (drop i kinds) (map plain_code_if l))) (sym empty) ∙ inv)

-- ---- what is noted

-- the places of the leaves, and then that of the whole
pub brace-noted : (f now : Option Broken) (s : Scope) (ty : Option Ty) (at count : ℕ) (other : Bool) (parts : Trees)
    → count ≡ length (leaves_among parts) → other ≡ list_any (is_other_leaf s) (leaves_among parts) → now ≡ noted f (leaves_sites s parts)
    → gathered now (breaking 10 (broken_if (is_other count (words_if s.structs ty) || other) at)) ≡ noted f (init_sites s ty (an_init at absent parts))
brace-noted f now s ty at count other parts counted any before =
    ap (λ n. gathered now (breaking 10 (broken_if (is_other n (words_if s.structs ty) || other) at))) counted ∙
    (ap (λ b. gathered now (breaking 10 (broken_if (is_other (length (leaves_among parts)) (words_if s.structs ty) || b) at))) any ∙
    (ap (λ g. gathered g (breaking 10 (broken_if (is_other (length (leaves_among parts)) (words_if s.structs ty) || list_any (is_other_leaf s) (leaves_among parts)) at))) before ∙
    (sym (noted-brace_init (noted f (leaves_sites s parts)) s (an_init at absent parts) ty) ∙
    sym (noted-append f (leaves_sites s parts) (site s (a_brace_init (an_init at absent parts) ty) ∷ [])))))

pub count-codes : (s : Scope) (codes : List (Option Code)) (leaves : List Tree) → map plain_code_if codes ≡ map (code_of s) leaves → length codes ≡ length leaves
count-codes s codes leaves e = sym (length-map codes plain_code_if) ∙ (ap (λ l. length l) e ∙ length-map leaves (code_of s))

-- ---- one leaf

pub whenever : {A E P : Type 0} (r : Result A E) → P → OnOk r P
whenever (Ok x) p = p
whenever (Err e) p = tt

-- an initialiser without braces is one leaf
pub value-codes : {A E : Type 0} (r : Result A E) (s : Scope) (old new : List (Option PlainCode)) (tree value : Tree) (at : ℕ) (parts : Trees) (code : Option PlainCode) → tree ≡ an_init at (present value) parts → code ≡ code_of s value
    → OnOk r (new ≡ old ++ code ∷ []) → OnOk r (new ≡ old ++ map (code_of s) (leaves_of tree))
value-codes (Ok x) s old new tree value at parts code is own h = h ∙ (ap (λ c. old ++ c ∷ []) own ∙ sym (ap (λ t. old ++ map (code_of s) (leaves_of t)) is))
value-codes (Err e) s old new tree value at parts code is own h = tt

pub value-other : {A E : Type 0} (r : Result A E) (s : Scope) (old new : Bool) (tree value : Tree) (at : ℕ) (parts : Trees) (ty : Option Ty) → tree ≡ an_init at (present value) parts → ty ≡ (value_of s value).ty
    → OnOk r (new ≡ (old || is_other_type ty)) → OnOk r (new ≡ (old || list_any (is_other_leaf s) (leaves_of tree)))
value-other (Ok x) s old new tree value at parts ty is own h =
    h ∙ (ap (λ o. old || is_other_type o) own ∙ (ap (λ b. old || b) (sym (or-none (is_other_leaf s value))) ∙ sym (ap (λ t. old || list_any (is_other_leaf s) (leaves_of t)) is)))
value-other (Err e) s old new tree value at parts ty is own h = tt

pub value-found : {A E : Type 0} (r : Result A E) (s : Scope) (f new : Option Broken) (tree value : Tree) (at : ℕ) (parts : Trees) → tree ≡ an_init at (present value) parts
    → new ≡ noted f (value_sites s value) → OnOk r (new ≡ noted f (leaf_sites s tree))
value-found (Ok x) s f new tree value at parts is h = h ∙ sym (ap (λ t. noted f (leaf_sites s t)) is)
value-found (Err e) s f new tree value at parts is h = tt

-- one in braces has those of its parts
pub parts-codes : {A E : Type 0} (r : Result A E) (s : Scope) (old new : List (Option PlainCode)) (tree : Tree) (at : ℕ) (parts : Trees) → tree ≡ an_init at absent parts
    → OnOk r (new ≡ old ++ map (code_of s) (leaves_among parts)) → OnOk r (new ≡ old ++ map (code_of s) (leaves_of tree))
parts-codes (Ok x) s old new tree at parts is h = h ∙ sym (ap (λ t. old ++ map (code_of s) (leaves_of t)) is)
parts-codes (Err e) s old new tree at parts is h = tt

pub parts-other : {A E : Type 0} (r : Result A E) (s : Scope) (old new : Bool) (tree : Tree) (at : ℕ) (parts : Trees) → tree ≡ an_init at absent parts
    → OnOk r (new ≡ (old || list_any (is_other_leaf s) (leaves_among parts))) → OnOk r (new ≡ (old || list_any (is_other_leaf s) (leaves_of tree)))
parts-other (Ok x) s old new tree at parts is h = h ∙ sym (ap (λ t. old || list_any (is_other_leaf s) (leaves_of t)) is)
parts-other (Err e) s old new tree at parts is h = tt

pub parts-found : {A E : Type 0} (r : Result A E) (s : Scope) (f new : Option Broken) (tree : Tree) (at : ℕ) (parts : Trees) → tree ≡ an_init at absent parts
    → OnOk r (new ≡ noted f (leaves_sites s parts)) → OnOk r (new ≡ noted f (leaf_sites s tree))
parts-found (Ok x) s f new tree at parts is h = h ∙ sym (ap (λ t. noted f (leaf_sites s t)) is)
parts-found (Err e) s f new tree at parts is h = tt

-- ---- the words of leaves

pub value-words : {A E : Type 0} (r : Result A E) (s : Scope) (old new : List (Option ℕ)) (tree value : Tree) (at : ℕ) (parts : Trees) (word : Option ℕ) → tree ≡ an_init at (present value) parts → word ≡ leaf_word s value
    → OnOk r (new ≡ old ++ word ∷ []) → OnOk r (new ≡ old ++ map (leaf_word s) (leaves_of tree))
value-words (Ok x) s old new tree value at parts word is own h = h ∙ (ap (λ c. old ++ c ∷ []) own ∙ sym (ap (λ t. old ++ map (leaf_word s) (leaves_of t)) is))
value-words (Err e) s old new tree value at parts word is own h = tt

pub parts-words : {A E : Type 0} (r : Result A E) (s : Scope) (old new : List (Option ℕ)) (tree : Tree) (at : ℕ) (parts : Trees) → tree ≡ an_init at absent parts
    → OnOk r (new ≡ old ++ map (leaf_word s) (leaves_among parts)) → OnOk r (new ≡ old ++ map (leaf_word s) (leaves_of tree))
parts-words (Ok x) s old new tree at parts is h = h ∙ sym (ap (λ t. old ++ map (leaf_word s) (leaves_of t)) is)
parts-words (Err e) s old new tree at parts is h = tt

-- ---- what is built

pub built-none : (ty : Ty) (at : ℕ) (o : Option Exprs) → o ≡ None → None ≡ option_map (λ leaves. an_expr ty at (build_form leaves)) o
built-none ty at o e = sym (ap (option_map (λ leaves. an_expr ty at (build_form leaves))) e)

pub built-some : (ty : Ty) (at : ℕ) (parts : Exprs) (o : Option Exprs) (e : PlainExpr) → o ≡ Some parts → e ≡ an_expr ty at (build_form parts) → Some e ≡ option_map (λ leaves. an_expr ty at (build_form leaves)) o
built-some ty at parts o e is own = ap Some own ∙ sym (ap (option_map (λ leaves. an_expr ty at (build_form leaves))) is)

-- as many kinds as codes, or others
pub kinds-other : (kinds : List Kind) (codes : List (Option Code)) (count : ℕ) → count ≡ length codes → None ≡ kinds_if count kinds → leaves_in kinds (map plain_code_if codes) ≡ None
kinds-other kinds codes count counted e =
    leaves-other kinds (map plain_code_if codes)
    (λ same. eqb-false count (length kinds) (kinds_if-other count kinds e) (counted ∙ (sym (length-map codes plain_code_if) ∙ same)))

-- ---- initialisers in braces

pub scope-structs : (scope : HeldScope) → (scope_of scope).structs ≡ plain_structs scope.structs
unfolding scope_of
scope-structs scope = refl

-- what doesn't depend on how many words there are
pub when-known : {A : Type 0} (x : Option A) (known : Option ℕ) (words : WordCount) → Some words ≡ option_map counted known → x ≡ option_and_then (λ n. x) known
when-known x None words e = absurd (cc e)
when-known x (Some n) words e = refl

pub when-unknown : {A : Type 0} (x : Option A) (known : Option ℕ) → None ≡ option_map counted known → None ≡ option_and_then (λ n. x) known
when-unknown x None e = refl
when-unknown x (Some n) e = absurd (cc e)

pub built-init : {E : Type 0} (r : Result (Option Expr) E) (s : Scope) (structs : List Members) (ty : Ty) (own : Option Ty) (at : ℕ) (parts : Trees) (codes : List (Option PlainCode))
    → s.structs ≡ plain_structs structs → own ≡ Some ty → codes ≡ map (code_of s) (leaves_among parts)
    → IfOk r (λ made. made_expr made ≡ option_and_then (λ words. option_map (λ leaves. an_expr ty at (build_form leaves)) (leaves_in (type_kinds structs ty) codes)) (type_words (plain_structs structs) ty))
    → IfOk r (λ made. made_expr made ≡ option_and_then (λ x. init_code s x (an_init at absent parts)) own)
built-init (Ok made) s structs ty own at parts codes held known are h =
    let words = type_words (plain_structs structs) ty in
    h ∙ (ap (λ l. option_and_then (λ n. option_map (λ leaves. an_expr ty at (build_form leaves)) (leaves_in (type_kinds structs ty) l)) words) are ∙
    (ap (λ o. option_and_then (λ n. option_map (λ leaves. an_expr ty at (build_form leaves)) o) words) (leaves-are s (type_kinds structs ty) (leaves_among parts)) ∙
    (ap (λ ds. option_and_then (λ n. option_map (λ leaves. an_expr ty at (build_form leaves)) (leaf_codes s (kinds_of (struct_defs ds) ty) (leaves_among parts))) (type_words ds ty)) (sym held) ∙
    sym (ap (option_and_then (λ x. init_code s x (an_init at absent parts))) known))))
built-init (Err e) s structs ty own at parts codes held known are h = tt

-- ---- the words of constants

-- where the word of a turn isn't there
pub words-stop : (kinds : List Kind) (words : List (Option ℕ)) (at : ℕ) (made : List ℕ) (kind : Kind) (word : Option ℕ) (whole : Option (List ℕ)) → at < length kinds → length kinds ≡ length words
    → option_map (λ rest. made ++ rest) (words_in_kinds (drop at kinds) (drop at words)) ≡ whole → get_or words at word ≡ None → None ≡ whole
words-stop kinds words at made kind word whole within same invariant is =
    let there : at < length words = omega (arith, within, same) in
    ap (λ w. option_map (λ rest. made ++ rest) (words_in_kinds (get_or kinds at kind ∷ drop (at + 1) kinds) (w ∷ drop (at + 1) words))) (sym is) ∙
    (sym (at_drop_more (λ l. option_map (λ rest. made ++ rest) (words_in_kinds (get_or kinds at kind ∷ drop (at + 1) kinds) l)) words at word there) ∙
    (sym (at_drop_more (λ l. option_map (λ rest. made ++ rest) (words_in_kinds l (drop at words))) kinds at kind within) ∙ invariant))

pub kinds_if-count : (count : ℕ) (kinds found : List Kind) → Some found ≡ kinds_if count kinds → length found ≡ count
kinds_if-count count kinds found e = by (count == length kinds) refl e
  where
    by : (b : Bool) → (count == length kinds) ≡ b → Some found ≡ (if b then Some kinds else None) → length found ≡ count
    by true is h = ap (λ l. length l) (cc h) ∙ sym (eqb-true count (length kinds) is)
    by false is h = absurd (cc h)

pub words-listed : (s : Scope) (kinds found : List Kind) (words : List (Option ℕ)) (leaves : List Tree) → found ≡ kinds → words ≡ map (leaf_word s) leaves → words_in_kinds found words ≡ leaf_words s kinds leaves
words-listed s kinds found words leaves listed are =
    ap (λ k. words_in_kinds k words) listed ∙ (ap (words_in_kinds kinds) are ∙ words-are s kinds leaves)

pub words-none : (s : Scope) (kinds : List Kind) (words : List (Option ℕ)) (leaves : List Tree) (count : ℕ) → count ≡ length words → words ≡ map (leaf_word s) leaves → None ≡ kinds_if count kinds → None ≡ leaf_words s kinds leaves
words-none s kinds words leaves count counted are e =
    sym (sym (words-are s kinds leaves) ∙ (ap (words_in_kinds kinds) (sym are) ∙
    words-other kinds words (λ same. eqb-false count (length kinds) (kinds_if-other count kinds e) (counted ∙ same))))

pub constant-words : (s : Scope) (structs : List Members) (own : Option Ty) (ty : Ty) (made : Option (List ℕ)) (init : Tree) → s.structs ≡ plain_structs structs → own ≡ Some ty → made ≡ init_words s (type_kinds structs ty) init
    → unwrap_or made [] ≡ unwrap_or (option_and_then (λ x. init_words s (kinds_of (struct_defs s.structs) x) init) own) []
constant-words s structs own ty made init held known are =
    ap (λ o. unwrap_or o []) (are ∙ (ap (λ ds. init_words s (kinds_of (struct_defs ds) ty) init) (sym held) ∙
    sym (ap (option_and_then (λ x. init_words s (kinds_of (struct_defs s.structs) x) init)) known)))
