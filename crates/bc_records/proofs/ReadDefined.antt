-- Functions with their bodies.
use Rattle.std.proofs.Common.{◌≡◌, Bor, unwrap_or, ℕ, zero, suc, ◌+◌, ◌-◌, ◌<◌, ◌≤◌, true, false, Option, None, Some, List, [], ◌∷◌, ◌++◌, append_assoc, map, length, take, drop, get_or, refl, ap, sym, ◌∙◌, arith}
use Rattle.std.specs.Prelude.{if◌then◌else◌, option_map, slice_get, slice_set}
use Rattle.std.proofs.lemmas.List.{drop_all, take_all, length-drop}
use Rattle.ir_core.specs.declared.instruction.Body.{Body}
use Rattle.ir_core.specs.declared.module.Function.{Function}
use Rattle.ir_core.specs.declared.module.Module.{Module}
use Rattle.bc_stream.specs.Blocks.{Contents, parts_contents}
use Rattle.bc_stream.specs.declared.block.Part.{Part}
use Rattle.bc_records.specs.Entries.{Entry, entry}
use Rattle.bc_records.specs.RecordKinds.{function_entries, has_body}
use Rattle.bc_records.specs.Read.{read_body, with_code, with_first}
use Rattle.bc_records.specs.ReadBodies.{body_blocks, bodies_of, with_body, with_bodies, with_body_at}
use Rattle.bc_records.proofs.Numbers.{test_same}

-- what blocks hold
abbrev pub holds : Option (Bor (List Part)) → Option Contents
holds block = option_map (λ (p : Bor (List Part)). parts_contents p.now) block

abbrev pub held : List (Option (Bor (List Part))) → List (Option Contents)
held blocks = map holds blocks

-- the parts of a slice from a place on
pub slice_from : {X : Type 0} (xs : List X) (n : ℕ) → take (length xs - n) (drop n xs) ≡ drop n xs
slice_from xs n = take_all (length xs - n) (drop n xs) (omega (arith, length-drop n xs))

-- no block is left for a function that isn't a declaration
pub last_none : (old new : List (Option Contents)) (code : ℕ) (operands : List ℕ) (es : List Entry) (left rest : List Contents) →
    code ≡ 8 → has_body operands ≡ true → left ≡ [] → rest ≡ [] → new ≡ old ++ None ∷ [] →
    new ++ body_blocks (function_entries es) left ≡ old ++ body_blocks (function_entries (entry code operands ∷ es)) rest
last_none old new code operands es left rest is defined none_left none grown =
    ap (λ bs. new ++ body_blocks (function_entries es) bs) none_left
    ∙ (ap (λ xs. xs ++ body_blocks (function_entries es) []) grown
    ∙ (append_assoc old (None ∷ []) (body_blocks (function_entries es) [])
    ∙ ap (λ xs. old ++ xs)
    (sym (ap (λ t. if t then None ∷ body_blocks (function_entries es) [] else None ∷ body_blocks (function_entries es) []) defined)
    ∙ (ap (λ os. body_blocks os []) (sym (test_same code 8 (operands ∷ function_entries es) (function_entries es) is))
    ∙ ap (λ bs. body_blocks (function_entries (entry code operands ∷ es)) bs) (sym none)))))

-- one body more
pub body_more : (m : Module) (so_far more whole : List (Option Body)) (here later : List (Option Contents)) (fs rest : List Function) (block : Option Contents) (f : Function) →
    here ≡ block ∷ later → fs ≡ f ∷ rest → more ≡ so_far ++ option_map (read_body m f) block ∷ [] →
    so_far ++ bodies_of m here fs ≡ whole → more ++ bodies_of m later rest ≡ whole
body_more m so_far more whole here later fs rest block f first first_too grown before =
    ap (λ bs. bs ++ bodies_of m later rest) grown
    ∙ (append_assoc so_far (option_map (read_body m f) block ∷ []) (bodies_of m later rest)
    ∙ (ap (λ bs. so_far ++ bodies_of m bs (f ∷ rest)) (sym first)
    ∙ (ap (λ gs. so_far ++ bodies_of m here gs) (sym first_too) ∙ before)))

-- what a function without a body or with one leaves
pub nothing_at : {X : Type 0} (xs : List X) (i : ℕ) → None ≡ slice_get xs i → drop i xs ≡ []
nothing_at [] i is = drop_all i [] (omega arith)
nothing_at (x ∷ xs) zero is = cc
nothing_at (x ∷ xs) (suc i) is = nothing_at xs i is

pub here_first : {X : Type 0} (xs : List X) (i : ℕ) (x : X) → Some x ≡ slice_get xs i → drop i xs ≡ x ∷ drop (i + 1) xs
here_first [] i x is = cc
here_first (y ∷ xs) zero x is = ap (λ o. unwrap_or o y ∷ drop 1 (y ∷ xs)) (sym is)
here_first (y ∷ xs) (suc i) x is = here_first xs i x is ∙ ap (λ n. x ∷ drop n (y ∷ xs)) (more i)
  where
    more : (n : ℕ) → suc (n + 1) ≡ suc n + 1
    more n = omega arith

-- no function is left
pub no_functions : (m : Module) (blocks : List (Option Contents)) → bodies_of m blocks [] ≡ []
no_functions m [] = refl
no_functions m (block ∷ blocks) = refl

pub set_is_with_body : (fs : List Function) (place : ℕ) (body : Body) (f : Function) → place < length fs → f ≡ get_or fs place f →
    slice_set fs place (record { name = f.name; ty = f.ty; body = Some body }) ≡ with_body_at fs place (Some body)
set_is_with_body [] place body f below is = absurd (omega arith)
set_is_with_body (g ∷ fs) zero body f below is = ap (λ (h : Function). record { name = h.name; ty = h.ty; body = Some body } ∷ fs) is
set_is_with_body (g ∷ fs) (suc place) body f below is = ap (λ gs. g ∷ gs) (set_is_with_body fs place body f (omega arith) is)

pub no_such_place : (fs : List Function) (place : ℕ) (body : Option Body) → length fs ≤ place → fs ≡ with_body_at fs place body
no_such_place [] place body past = refl
no_such_place (f ∷ fs) zero body past = absurd (omega arith)
no_such_place (f ∷ fs) (suc place) body past = ap (λ gs. f ∷ gs) (no_such_place fs place body (omega arith))

pub no_body : (fs : List Function) (place : ℕ) → fs ≡ with_body_at fs place None
no_body [] place = refl
no_body (f ∷ fs) zero = refl
no_body (f ∷ fs) (suc place) = ap (λ gs. f ∷ gs) (no_body fs place)

no_bodies : (fs : List Function) → with_bodies fs [] ≡ fs
no_bodies [] = refl
no_bodies (f ∷ fs) = refl

-- the last body first
pub last_first : (fs : List Function) (bodies : List (Option Body)) (last : Option Body) →
    with_bodies (with_body_at fs (length bodies) last) bodies ≡ with_bodies fs (bodies ++ last ∷ [])
last_first [] bodies last = refl
last_first (f ∷ fs) [] last = ap (λ gs. with_body f last ∷ gs) (sym (no_bodies fs))
last_first (f ∷ fs) (body ∷ bodies) last = ap (λ gs. with_body f body ∷ gs) (last_first fs bodies last)

pub all_set : (fs : List Function) (bodies : List (Option Body)) → bodies ≡ [] → with_bodies fs bodies ≡ fs
all_set fs bodies none = ap (with_bodies fs) none ∙ no_bodies fs

-- the functions with their bodies are those that the definition has
pub code_is_bodies : (m : Module) (records : List (List ℕ)) (fs : List Function) (blocks : List Contents) →
    with_bodies fs (bodies_of m (body_blocks records blocks) fs) ≡ with_code m records fs blocks
code_is_bodies m [] fs blocks = no_bodies fs
code_is_bodies m (operands ∷ rest) [] blocks = refl
code_is_bodies m (operands ∷ rest) (f ∷ fs) [] =
    elim (has_body operands) as (λ t.
    with_bodies (f ∷ fs) (bodies_of m (if t then None ∷ body_blocks rest [] else None ∷ body_blocks rest []) (f ∷ fs))
    ≡ (if t then f ∷ with_code m rest fs [] else f ∷ with_code m rest fs []))
    [ true ↦ ap (λ gs. f ∷ gs) (code_is_bodies m rest fs []) | false ↦ ap (λ gs. f ∷ gs) (code_is_bodies m rest fs []) ]
code_is_bodies m (operands ∷ rest) (f ∷ fs) (block ∷ blocks) =
    elim (has_body operands) as (λ t.
    with_bodies (f ∷ fs) (bodies_of m (if t then Some block ∷ body_blocks rest blocks else None ∷ body_blocks rest (block ∷ blocks)) (f ∷ fs))
    ≡ (if t then with_first m f (block ∷ blocks) ∷ with_code m rest fs blocks else f ∷ with_code m rest fs (block ∷ blocks)))
    [ true ↦ ap (λ gs. with_first m f (block ∷ blocks) ∷ gs) (code_is_bodies m rest fs blocks) | false ↦ ap (λ gs. f ∷ gs) (code_is_bodies m rest fs (block ∷ blocks)) ]
