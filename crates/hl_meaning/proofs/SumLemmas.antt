-- Sums that stop on the way are those that stop at the end.
use Rattle.std.proofs.Common.{◌≡◌, ◌∙◌, refl, sym, ap, ℕ, suc, ◌+◌, max, List, [], ◌∷◌, ◌++◌, arith}
use Rattle.hl_meaning.specs.declared.sums.Sums.{Sums}
use Rattle.hl_meaning.specs.Stopping.{stopped}
use Rattle.hl_meaning.specs.Sums.{both, node, nothing, step, branch, memory, stop_all}

pub make : ℕ → ℕ → ℕ → ℕ → Sums
make size branches depth private_words = record { size = size; branches = branches; depth = depth; private_words = private_words }

-- sums with equal parts are equal
pub sums_equal : (a b : Sums) → a.size ≡ b.size → a.branches ≡ b.branches → a.depth ≡ b.depth → a.private_words ≡ b.private_words → a ≡ b
unfolding make
sums_equal a b size branches depth words =
    ap (λ n. make n a.branches a.depth a.private_words) size ∙ (ap (λ n. make b.size n a.depth a.private_words) branches ∙ (ap (λ n. make b.size b.branches n a.private_words) depth ∙
    ap (λ n. make b.size b.branches b.depth n) words))

pub stopped-add : (a b : ℕ) → stopped (stopped a + stopped b) ≡ stopped (a + b)
stopped-add a b = omega arith

pub stopped-max : (a b : ℕ) → stopped (max (stopped a) (stopped b)) ≡ stopped (max a b)
stopped-max a b = omega arith

pub stopped-add_left : (a b : ℕ) → stopped (stopped a + b) ≡ stopped (a + b)
stopped-add_left a b = omega arith

pub stopped-max_left : (a b : ℕ) → stopped (max (stopped a) b) ≡ stopped (max a b)
stopped-max_left a b = omega arith

pub stopped-twice : (a : ℕ) → stopped (stopped a) ≡ stopped a
stopped-twice a = omega arith

pub stopped-suc : (a : ℕ) → stopped (suc (stopped a)) ≡ stopped (suc a)
stopped-suc a = omega arith

pub stop_all-twice : (a : Sums) → stop_all (stop_all a) ≡ stop_all a
stop_all-twice a = sums_equal _ _ (stopped-twice a.size) (stopped-twice a.branches) (stopped-twice a.depth) (stopped-twice a.private_words)

pub stop_all-both : (a b : Sums) → stop_all (both (stop_all a) (stop_all b)) ≡ stop_all (both a b)
stop_all-both a b =
    sums_equal _ _ (stopped-add a.size b.size) (stopped-add a.branches b.branches) (stopped-max a.depth b.depth) (stopped-add a.private_words b.private_words)

pub stop_all-both_left : (a b : Sums) → stop_all (both (stop_all a) b) ≡ stop_all (both a b)
stop_all-both_left a b =
    sums_equal _ _ (stopped-add_left a.size b.size) (stopped-add_left a.branches b.branches) (stopped-max_left a.depth b.depth) (stopped-add_left a.private_words b.private_words)

pub stopped-max_one : (w : ℕ) → max 1 (stopped w) ≡ stopped (max 1 w)
stopped-max_one w = omega arith

pub stop_all-node : (n : ℕ) (a : Sums) → stop_all (node (stopped n) (stop_all a)) ≡ stop_all (node n a)
stop_all-node n a = sums_equal _ _ (stopped-add n a.size) (stopped-twice a.branches) (stopped-suc a.depth) (stopped-twice a.private_words)

pub stop_all-step : (a : Sums) → stop_all (step 1 (stop_all a)) ≡ stop_all (step 1 a)
stop_all-step a = sums_equal _ _ (stopped-add 1 a.size) (stopped-twice a.branches) (stopped-twice a.depth) (stopped-twice a.private_words)

pub stop_all-branch : (a : Sums) → stop_all (branch (stop_all a)) ≡ stop_all (branch a)
stop_all-branch a = sums_equal _ _ (stopped-add 1 a.size) (stopped-suc a.branches) (stopped-suc a.depth) (stopped-twice a.private_words)

pub stop_all-memory : (m n : ℕ) → stop_all (memory (stopped m) (stopped n)) ≡ stop_all (memory m n)
stop_all-memory m n = sums_equal _ _ (stopped-twice m) refl refl (stopped-twice n)

-- what two parts hold together, each of them stopped
pub both_of : (r x y a b : Sums) → r ≡ stop_all (both x y) → x ≡ stop_all a → y ≡ stop_all b → r ≡ stop_all (both a b)
both_of r x y a b is left right =
    is ∙ (ap (λ s. stop_all (both s y)) left ∙ (ap (λ s. stop_all (both (stop_all a) s)) right ∙ stop_all-both a b))

pub both_of_left : (r x b a : Sums) → r ≡ stop_all (both x b) → x ≡ stop_all a → r ≡ stop_all (both a b)
both_of_left r x b a is left = is ∙ (ap (λ s. stop_all (both s b)) left ∙ stop_all-both_left a b)

-- what stands beside one another in any order of joining
pub both-assoc : (a b c : Sums) → both (both a b) c ≡ both a (both b c)
both-assoc a b c = sums_equal _ _ (omega arith) (omega arith) (omega arith) (omega arith)

pub both-nothing : (a : Sums) → both a nothing ≡ a
both-nothing a = sums_equal _ _ (omega arith) (omega arith) (omega arith) (omega arith)

pub nothing-both : (a : Sums) → both nothing a ≡ a
nothing-both a = sums_equal _ _ (omega arith) (omega arith) (omega arith) (omega arith)

-- the sums of all parts
abbrev pub all_sums : {A : Type 0} → (A → Sums) → List A → Sums
all_sums f [] = nothing
all_sums f (x ∷ xs) = both (f x) (all_sums f xs)

pub all_sums-append : {A : Type 0} (f : A → Sums) (xs : List A) (x : A) → all_sums f (xs ++ x ∷ []) ≡ both (all_sums f xs) (f x)
all_sums-append f [] x = both-nothing (f x) ∙ sym (nothing-both (f x))
all_sums-append f (y ∷ xs) x = ap (λ s. both (f y) s) (all_sums-append f xs x) ∙ sym (both-assoc (f y) (all_sums f xs) (f x))

pub stopped-add_right : (a b : ℕ) → stopped (a + stopped b) ≡ stopped (a + b)
stopped-add_right a b = omega arith

-- a node's own size may be stopped or not
pub stop_all-node_of : (n : ℕ) (a : Sums) → stop_all (node n (stop_all a)) ≡ stop_all (node n a)
stop_all-node_of n a = sums_equal _ _ (stopped-add_right n a.size) (stopped-twice a.branches) (stopped-suc a.depth) (stopped-twice a.private_words)

pub node_of : (n : ℕ) (r x a : Sums) → r ≡ stop_all (node n x) → x ≡ stop_all a → r ≡ stop_all (node n a)
node_of n r x a is inner = is ∙ (ap (λ s. stop_all (node n s)) inner ∙ stop_all-node_of n a)

pub branch_of : (r x a : Sums) → r ≡ stop_all (branch x) → x ≡ stop_all a → r ≡ stop_all (branch a)
branch_of r x a is inner = is ∙ (ap (λ s. stop_all (branch s)) inner ∙ stop_all-branch a)
