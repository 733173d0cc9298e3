-- What walks over expressions say of whole trees, by what they say of their parts.
use Rattle.std.proofs.Common.{◌≡◌, ◌∙◌, sym, ap, subst, ℕ, ◌+◌, ◌<◌, ◌≤◌, true, false, if◌then◌else◌, List, [], ◌∷◌, ◌++◌, append_assoc, append-nil, Option, length, drop, get_or, Result, IfOk, OnOk, is_some}
use Rattle.std.proofs.lemmas.List.{drop_all}
use Rattle.std.proofs.lemmas.Result.{IfOk-weaker, on_ok_weaker}
use Rattle.base_core.specs.declared.sequence.NoMemory.{NoMemory}
use Rattle.hl_parser.specs.declared.tree.Tree.{Tree as HeldTree}
use Rattle.hl_parser.specs.Trees.{Tree, Trees, a_primary, absent, at_of, no_trees, present}
use Rattle.hl_parser.specs.Views.{plain_of, plain_trees}
use Rattle.hl_rules.specs.declared.found.Broken.{Broken}
use Rattle.hl_rules.specs.Parts.{Site}
use Rattle.hl_rules.specs.Rules.{noted}
use Rattle.hl_rules.specs.Scopes.{Scope}
use Rattle.hl_rules.specs.Sites.{argument_sites, buffer_or_used, expression_sites, used, value_sites}
use Rattle.hl_rules.specs.Values.{buffer_at, value_of}
use Rattle.hl_rules.proofs.Noting.{noted-none}
use Rattle.hl_types.specs.Arguments.{AreTyped}
use Rattle.hl_types.proofs.Turns.{left-step}
use Rattle.hl_values.specs.declared.typed.Typed.{Typed}
use Rattle.hl_values.specs.Noted.{noted_operand, noted_use}
use Rattle.hl_values.specs.TypedViews.{IsTyped}
use Rattle.hl_values.specs.Views.{plain_value}
use Rattle.hl_values.proofs.ExpressionLemmas.{noted-there}
use Rattle.hl_values.proofs.NoteLemmas.{used-noted}

-- ---- a tree that is another one

pub typed-as : (s : Scope) (e f : Tree) (r : Result Typed NoMemory) → e ≡ f → IfOk r (λ t. IsTyped s f t) → IfOk r (λ t. IsTyped s e t)
typed-as s e f r same h = IfOk-weaker r (λ t. IsTyped s f t) (λ t. IsTyped s e t) (λ t typed. subst (λ x. IsTyped s x t) (sym same) typed) h

pub found-as : (s : Scope) (e f : Tree) (r : Result Typed NoMemory) (old new : Option Broken) → e ≡ f → OnOk r (new ≡ noted old (expression_sites s f)) → OnOk r (new ≡ noted old (expression_sites s e))
found-as s e f r old new same h = on_ok_weaker {P = new ≡ noted old (expression_sites s f)} {Q = new ≡ noted old (expression_sites s e)} r (λ is. is ∙ ap (λ x. noted old (expression_sites s x)) (sym same)) h

-- and what is noted behind its parts
pub found-behind : (s : Scope) (e f : Tree) (inside : Option Broken → Option Broken) (r : Result Typed NoMemory) (start old new : Option Broken) → e ≡ f → old ≡ inside start
    → OnOk r ((g : Option Broken) → old ≡ inside g → new ≡ noted g (expression_sites s f)) → OnOk r (new ≡ noted start (expression_sites s e))
found-behind s e f inside r start old new same before h =
    found-as s e f r start new same
    (on_ok_weaker {P = (g : Option Broken) → old ≡ inside g → new ≡ noted g (expression_sites s f)} {Q = new ≡ noted start (expression_sites s f)} r (λ is. is start before) h)

-- parts, each of which is held somewhere
pub two-sides : (form : Tree → Tree → Tree) (l r left right : HeldTree) → l ≡ left → r ≡ right → form (plain_of left) (plain_of right) ≡ form (plain_of l) (plain_of r)
two-sides form l r left right on_left on_right =
    ap (λ x. form (plain_of x) (plain_of right)) (sym on_left) ∙ ap (λ x. form (plain_of l) (plain_of x)) (sym on_right)

pub three-sides : (form : Tree → Tree → Tree → Tree) (a b c first second third : HeldTree) → a ≡ first → b ≡ second → c ≡ third
    → form (plain_of first) (plain_of second) (plain_of third) ≡ form (plain_of a) (plain_of b) (plain_of c)
three-sides form a b c first second third on_first on_second on_third =
    two-sides (λ x y. form x y (plain_of third)) a b first second on_first on_second ∙ ap (λ x. form (plain_of a) (plain_of b) (plain_of x)) (sym on_third)

-- parentheses
pub typed-inside : (s : Scope) (at : ℕ) (e : Tree) (t : Typed) → IsTyped s e t → IsTyped s (a_primary at (present e) absent) t
typed-inside s at e t h = record { value = h.value; number = h.number; code = h.code }

-- ---- arguments

pub typed-list : (s : Scope) (a b : Trees) (args : List Typed) → a ≡ b → AreTyped s b args → AreTyped s a args
typed-list s a b args same h = subst (λ l. AreTyped s l args) (sym same) h

pub empty-typed : (s : Scope) (args : List Typed) → args ≡ [] → AreTyped s no_trees args
empty-typed s args none = subst (λ l. AreTyped s no_trees l) (sym none) tt

pub found-list : {A : Type 0} (s : Scope) (e f : Tree) (r : Result A NoMemory) (old new : Option Broken) → e ≡ f → OnOk r (new ≡ noted old (argument_sites s f)) → OnOk r (new ≡ noted old (argument_sites s e))
found-list s e f r old new same h = on_ok_weaker {P = new ≡ noted old (argument_sites s f)} {Q = new ≡ noted old (argument_sites s e)} r (λ is. is ∙ ap (λ x. noted old (argument_sites s x)) (sym same)) h

-- some arguments are held, where whatever is held of those that are left is held behind them
abbrev pub ArePartTyped : Scope → (all left : Trees) → List Typed → Type 0
ArePartTyped s all left args = (more : List Typed) → AreTyped s left more → AreTyped s all (args ++ more)

pub part-first : (s : Scope) (all : Trees) (args : List Typed) → args ≡ [] → ArePartTyped s all all args
part-first s all args none more h = subst (λ l. AreTyped s all (l ++ more)) (sym none) h

pub part-turn : (s : Scope) (all : Trees) (xs : List HeldTree) (i : ℕ) (x : HeldTree) (args next : List Typed) (t : Typed) → i < length xs → x ≡ get_or xs i x
    → ArePartTyped s all (plain_trees (drop i xs)) args → IsTyped s (plain_of x) t → next ≡ args ++ t ∷ [] → ArePartTyped s all (plain_trees (drop (i + 1) xs)) next
part-turn s all xs i x args next t within is before typed pushed more h =
    let behind : AreTyped s all (args ++ t ∷ more) = before (t ∷ more) (subst (λ l. AreTyped s (plain_trees l) (t ∷ more)) (sym (left-step xs i x within is)) (typed, h)) in
    subst (λ l. AreTyped s all l) (sym (append_assoc args (t ∷ []) more) ∙ ap (λ l. l ++ more) (sym pushed)) behind

pub part-last : (s : Scope) (all : Trees) (xs : List HeldTree) (i : ℕ) (args : List Typed) → length xs ≤ i → ArePartTyped s all (plain_trees (drop i xs)) args → AreTyped s all args
part-last s all xs i args within before =
    subst (λ l. AreTyped s all l) (append-nil args) (before [] (subst (λ l. AreTyped s (plain_trees l) []) (sym (drop_all i xs within)) tt))

-- ---- what stands before an index or a method

pub before-buffer : (f : Option Broken) (s : Scope) (e : Tree) (inside : List Site) → is_some (buffer_at s e) ≡ true → f ≡ noted f (buffer_or_used s e inside)
before-buffer f s e inside is = sym (ap (λ b. noted f (if b then [] else used s e inside)) is ∙ noted-none f)

pub before-value : (f : Option Broken) (s : Scope) (e : Tree) (inside : List Site) → is_some (buffer_at s e) ≡ false → noted f (used s e inside) ≡ noted f (buffer_or_used s e inside)
before-value f s e inside is = sym (ap (λ b. noted f (if b then [] else used s e inside)) is)

-- behind an operand
pub behind-operand : (f old new : Option Broken) (s : Scope) (e : Tree) (t : Typed) (at : ℕ) → IsTyped s e t → at ≡ at_of e → old ≡ noted f (expression_sites s e) → new ≡ noted_operand old (plain_value t) at
    → new ≡ noted_operand (noted f (expression_sites s e)) (value_of s e) (at_of e)
behind-operand f old new s e t at typed same before is = noted-there noted_operand old (noted f (expression_sites s e)) new s e t at typed same before is

-- a value that is used
pub behind-use : (f old new : Option Broken) (s : Scope) (e : Tree) (t : Typed) (at : ℕ) → IsTyped s e t → at ≡ at_of e → old ≡ noted f (expression_sites s e) → new ≡ noted_use old (plain_value t) at → new ≡ noted f (value_sites s e)
behind-use f old new s e t at typed same before is =
    noted-there noted_use old (noted f (expression_sites s e)) new s e t at typed same before is ∙ sym (used-noted f s e (expression_sites s e))
