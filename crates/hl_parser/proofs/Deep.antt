-- No act makes what is kept shallower.
use Rattle.std.proofs.Common.{◌≡◌, ℕ, ◌<◌, ◌≤◌, max, Bool, true, false, if◌then◌else◌, Option, None, Some, List, [], ◌∷◌, arith}
use Rattle.hl_parser.specs.declared.act.Act.{Act}
use Rattle.hl_parser.specs.declared.act.Act.TheVariants as acts
use Rattle.hl_parser.specs.Held.{IsLost, deepest}
use Rattle.hl_parser.specs.Machine.{Kept, Value, act_on, append_tree, gone, is_level, kept, make_binary, perform, take_maybe, take_option, take_token, take_tree, take_trees, no_value, token_value, tree_value, trees_value}
use Rattle.hl_parser.specs.Trees.{Maybe, Tree, Trees, absent, depth, depth_if, depths, more_trees, no_trees, present}

-- none are kept, or one is at least this deep
abbrev pub Deeper : ℕ → Kept → Type 0
Deeper n gone = Unit {0}
Deeper n (kept vs) = n ≤ deepest vs

pub record IsDeep (n : ℕ) (k : Kept) : Type 0 where
  pub deep : Deeper n k

nothing_deep : {n : ℕ} → IsDeep n gone
nothing_deep = record { deep = tt }

token_deep : {n : ℕ} (d : ℕ) (vs : List Value) (go : ℕ → List Value → Kept) → n ≤ max d (deepest vs) → ((i : ℕ) (rest : List Value) → n ≤ max d (deepest rest) → IsDeep n (go i rest)) → IsDeep n (take_token vs go)
token_deep d [] go h k = nothing_deep
token_deep d (token_value i ∷ rest) go h k = k i rest (omega arith)
token_deep d (tree_value t ∷ rest) go h k = nothing_deep
token_deep d (trees_value ts ∷ rest) go h k = nothing_deep
token_deep d (no_value ∷ rest) go h k = nothing_deep

tree_deep : {n : ℕ} (d : ℕ) (vs : List Value) (go : Tree → List Value → Kept) → n ≤ max d (deepest vs) → ((t : Tree) (rest : List Value) → n ≤ max (max d (depth t)) (deepest rest) → IsDeep n (go t rest)) → IsDeep n (take_tree vs go)
tree_deep d [] go h k = nothing_deep
tree_deep d (token_value i ∷ rest) go h k = nothing_deep
tree_deep d (tree_value t ∷ rest) go h k = k t rest (omega arith)
tree_deep d (trees_value ts ∷ rest) go h k = nothing_deep
tree_deep d (no_value ∷ rest) go h k = nothing_deep

trees_deep : {n : ℕ} (d : ℕ) (vs : List Value) (go : Trees → List Value → Kept) → n ≤ max d (deepest vs) → ((ts : Trees) (rest : List Value) → n ≤ max (max d (depths ts)) (deepest rest) → IsDeep n (go ts rest)) → IsDeep n (take_trees vs go)
trees_deep d [] go h k = nothing_deep
trees_deep d (token_value i ∷ rest) go h k = nothing_deep
trees_deep d (tree_value t ∷ rest) go h k = nothing_deep
trees_deep d (trees_value ts ∷ rest) go h k = k ts rest (omega arith)
trees_deep d (no_value ∷ rest) go h k = nothing_deep

maybe_deep : {n : ℕ} (d : ℕ) (vs : List Value) (go : Maybe → List Value → Kept) → n ≤ max d (deepest vs) → ((m : Maybe) (rest : List Value) → n ≤ max (max d (depth_if m)) (deepest rest) → IsDeep n (go m rest)) → IsDeep n (take_maybe vs go)
maybe_deep d [] go h k = nothing_deep
maybe_deep d (token_value i ∷ rest) go h k = nothing_deep
maybe_deep d (tree_value t ∷ rest) go h k = k (present t) rest (omega arith)
maybe_deep d (trees_value ts ∷ rest) go h k = nothing_deep
maybe_deep d (no_value ∷ rest) go h k = k absent rest (omega arith)

option_deep : {n : ℕ} (d : ℕ) (vs : List Value) (go : Option ℕ → List Value → Kept) → n ≤ max d (deepest vs) → ((o : Option ℕ) (rest : List Value) → n ≤ max d (deepest rest) → IsDeep n (go o rest)) → IsDeep n (take_option vs go)
option_deep d [] go h k = nothing_deep
option_deep d (token_value i ∷ rest) go h k = k (Some i) rest (omega arith)
option_deep d (tree_value t ∷ rest) go h k = nothing_deep
option_deep d (trees_value ts ∷ rest) go h k = nothing_deep
option_deep d (no_value ∷ rest) go h k = k None rest (omega arith)

pub depths-append : (ts : Trees) (t : Tree) → depths (append_tree ts t) ≡ max (depths ts) (depth t)
depths-append no_trees t = omega arith
depths-append (more_trees first rest) t = let h = depths-append rest t in omega arith

binary_deep : {n : ℕ} (level : ℕ) (vs : List Value) → n ≤ deepest vs → (b : Bool) → IsDeep n (if b then make_binary level vs else gone)
binary_deep level vs h true = tree_deep 0 vs _ (omega arith) (λ t r h. token_deep _ r _ h (λ i r h. tree_deep _ r _ h (λ t r h. record { deep = omega arith })))
binary_deep level vs h false = nothing_deep

act_deep : {n : ℕ} (act : Act) (at : ℕ) (vs : List Value) → n ≤ deepest vs → IsDeep n (act_on act at vs)
act_deep acts.Here at vs h = record { deep = omega arith }
act_deep acts.Absent at vs h = record { deep = omega arith }
act_deep acts.Empty at vs h = record { deep = omega arith }
act_deep acts.Append at vs h = tree_deep 0 vs _ (omega arith) (λ t r h. trees_deep _ r _ h (λ ts r h. let e = depths-append ts t in record { deep = omega arith }))
act_deep (acts.Binary level) at vs h = binary_deep level vs h (is_level level)
act_deep acts.Program at vs h = trees_deep 0 vs _ (omega arith) (λ x r h. record { deep = omega arith })
act_deep acts.Item at vs h = tree_deep 0 vs _ (omega arith) (λ x r h. record { deep = omega arith })
act_deep acts.Struct at vs h = trees_deep 0 vs _ (omega arith) (λ x r h. token_deep _ r _ h (λ x r h. token_deep _ r _ h (λ x r h. record { deep = omega arith })))
act_deep acts.Member at vs h = trees_deep 0 vs _ (omega arith) (λ x r h. tree_deep _ r _ h (λ x r h. record { deep = omega arith }))
act_deep acts.Basic at vs h = token_deep 0 vs _ (omega arith) (λ x r h. record { deep = omega arith })
act_deep acts.BasicType at vs h = tree_deep 0 vs _ (omega arith) (λ x r h. record { deep = omega arith })
act_deep acts.NameType at vs h = token_deep 0 vs _ (omega arith) (λ x r h. record { deep = omega arith })
act_deep acts.Declarator at vs h = trees_deep 0 vs _ (omega arith) (λ x r h. token_deep _ r _ h (λ x r h. record { deep = omega arith }))
act_deep acts.Buffer at vs h = option_deep 0 vs _ (omega arith) (λ x r h. option_deep _ r _ h (λ x r h. token_deep _ r _ h (λ x r h. tree_deep _ r _ h (λ x r h. record { deep = omega arith }))))
act_deep acts.Kind at vs h = maybe_deep 0 vs _ (omega arith) (λ x r h. token_deep _ r _ h (λ x r h. record { deep = omega arith }))
act_deep acts.Shared at vs h = trees_deep 0 vs _ (omega arith) (λ x r h. tree_deep _ r _ h (λ x r h. token_deep _ r _ h (λ x r h. record { deep = omega arith })))
act_deep acts.Constant at vs h = tree_deep 0 vs _ (omega arith) (λ x r h. tree_deep _ r _ h (λ x r h. tree_deep _ r _ h (λ x r h. token_deep _ r _ h (λ x r h. record { deep = omega arith }))))
act_deep acts.Value at vs h = tree_deep 0 vs _ (omega arith) (λ x r h. record { deep = omega arith })
act_deep acts.Braces at vs h = trees_deep 0 vs _ (omega arith) (λ x r h. token_deep _ r _ h (λ x r h. record { deep = omega arith }))
act_deep acts.Function at vs h = tree_deep 0 vs _ (omega arith) (λ x r h. trees_deep _ r _ h (λ x r h. token_deep _ r _ h (λ x r h. tree_deep _ r _ h (λ x r h. trees_deep _ r _ h (λ x r h. record { deep = omega arith })))))
act_deep acts.VoidResult at vs h = token_deep 0 vs _ (omega arith) (λ x r h. record { deep = omega arith })
act_deep acts.TypeResult at vs h = tree_deep 0 vs _ (omega arith) (λ x r h. record { deep = omega arith })
act_deep acts.Param at vs h = option_deep 0 vs _ (omega arith) (λ x r h. tree_deep _ r _ h (λ x r h. tree_deep _ r _ h (λ x r h. maybe_deep _ r _ h (λ x r h. option_deep _ r _ h (λ x r h. record { deep = omega arith })))))
act_deep acts.Direction at vs h = token_deep 0 vs _ (omega arith) (λ x r h. record { deep = omega arith })
act_deep acts.Attribute at vs h = trees_deep 0 vs _ (omega arith) (λ x r h. token_deep _ r _ h (λ x r h. token_deep _ r _ h (λ x r h. record { deep = omega arith })))
act_deep acts.Block at vs h = trees_deep 0 vs _ (omega arith) (λ x r h. token_deep _ r _ h (λ x r h. record { deep = omega arith }))
act_deep acts.Part at vs h = tree_deep 0 vs _ (omega arith) (λ x r h. record { deep = omega arith })
act_deep acts.Nothing at vs h = token_deep 0 vs _ (omega arith) (λ x r h. record { deep = omega arith })
act_deep acts.Local at vs h = trees_deep 0 vs _ (omega arith) (λ x r h. tree_deep _ r _ h (λ x r h. option_deep _ r _ h (λ x r h. record { deep = omega arith })))
act_deep acts.Start at vs h = maybe_deep 0 vs _ (omega arith) (λ x r h. tree_deep _ r _ h (λ x r h. record { deep = omega arith }))
act_deep acts.If at vs h = maybe_deep 0 vs _ (omega arith) (λ x r h. tree_deep _ r _ h (λ x r h. tree_deep _ r _ h (λ x r h. token_deep _ r _ h (λ x r h. trees_deep _ r _ h (λ x r h. record { deep = omega arith })))))
act_deep acts.For at vs h = tree_deep 0 vs _ (omega arith) (λ x r h. maybe_deep _ r _ h (λ x r h. maybe_deep _ r _ h (λ x r h. maybe_deep _ r _ h (λ x r h. token_deep _ r _ h (λ x r h. trees_deep _ r _ h (λ x r h. record { deep = omega arith }))))))
act_deep acts.While at vs h = tree_deep 0 vs _ (omega arith) (λ x r h. tree_deep _ r _ h (λ x r h. token_deep _ r _ h (λ x r h. trees_deep _ r _ h (λ x r h. record { deep = omega arith }))))
act_deep acts.Do at vs h = tree_deep 0 vs _ (omega arith) (λ x r h. tree_deep _ r _ h (λ x r h. token_deep _ r _ h (λ x r h. trees_deep _ r _ h (λ x r h. record { deep = omega arith }))))
act_deep acts.Jump at vs h = maybe_deep 0 vs _ (omega arith) (λ x r h. token_deep _ r _ h (λ x r h. record { deep = omega arith }))
act_deep acts.Assignment at vs h = tree_deep 0 vs _ (omega arith) (λ x r h. token_deep _ r _ h (λ x r h. tree_deep _ r _ h (λ x r h. record { deep = omega arith })))
act_deep acts.Choice at vs h = tree_deep 0 vs _ (omega arith) (λ x r h. tree_deep _ r _ h (λ x r h. tree_deep _ r _ h (λ x r h. record { deep = omega arith })))
act_deep acts.Unary at vs h = tree_deep 0 vs _ (omega arith) (λ x r h. token_deep _ r _ h (λ x r h. record { deep = omega arith }))
act_deep acts.Cast at vs h = tree_deep 0 vs _ (omega arith) (λ x r h. tree_deep _ r _ h (λ x r h. token_deep _ r _ h (λ x r h. record { deep = omega arith })))
act_deep acts.Field at vs h = maybe_deep 0 vs _ (omega arith) (λ x r h. token_deep _ r _ h (λ x r h. token_deep _ r _ h (λ x r h. tree_deep _ r _ h (λ x r h. record { deep = omega arith }))))
act_deep acts.Index at vs h = tree_deep 0 vs _ (omega arith) (λ x r h. token_deep _ r _ h (λ x r h. tree_deep _ r _ h (λ x r h. record { deep = omega arith })))
act_deep acts.Step at vs h = token_deep 0 vs _ (omega arith) (λ x r h. tree_deep _ r _ h (λ x r h. record { deep = omega arith }))
act_deep acts.Word at vs h = token_deep 0 vs _ (omega arith) (λ x r h. record { deep = omega arith })
act_deep acts.Call at vs h = tree_deep 0 vs _ (omega arith) (λ x r h. token_deep _ r _ h (λ x r h. record { deep = omega arith }))
act_deep acts.Constructor at vs h = tree_deep 0 vs _ (omega arith) (λ x r h. tree_deep _ r _ h (λ x r h. record { deep = omega arith }))
act_deep acts.Parentheses at vs h = tree_deep 0 vs _ (omega arith) (λ x r h. token_deep _ r _ h (λ x r h. record { deep = omega arith }))
act_deep acts.Args at vs h = trees_deep 0 vs _ (omega arith) (λ x r h. token_deep _ r _ h (λ x r h. record { deep = omega arith }))

pub lost : (act : Act) (at : ℕ) (vs : List Value) → 64 < deepest vs → IsLost (act_on act at vs)
lost act at vs h = as_lost (act_on act at vs) (act_deep {n = 65} act at vs h)
  where
    as_lost : (k : Kept) → IsDeep 65 k → IsLost k
    as_lost gone d = tt
    as_lost (kept values) d = d.deep

-- none are kept after an act where none were
pub stays_lost : (act : Act) (at : ℕ) (values : Kept) → IsLost values → IsLost (perform act at values)
stays_lost act at gone h = tt
stays_lost act at (kept vs) h = lost act at vs h
