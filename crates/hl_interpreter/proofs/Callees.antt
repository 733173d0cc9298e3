-- The functions as they are called.
use Rattle.std.proofs.Common.{◌≡◌, ◌∙◌, refl, sym, ap, ℕ, zero, suc, ◌+◌, ◌<◌, ◌≤◌, List, [], ◌∷◌, ◌++◌, append_assoc, append-nil, get_or, length, map, take, slice_index_or, arith}
use Rattle.std.proofs.lemmas.List.{length_push, take-map}
use Rattle.hl_meaning.specs.declared.program.FunctionDef.{FunctionDef as HeldFunction}
use Rattle.hl_meaning.specs.Held.{plain_program}
use Rattle.hl_meaning.specs.Programs.{FunctionDef}
use Rattle.hl_meaning.specs.Slots.{slots_of}
use Rattle.hl_meaning.specs.Views.{plain_function, plain_resource}
use Rattle.hl_source.specs.SourceLane.{callee_of, callees_after, context_of}
use Rattle.hl_source.specs.State.{Callee}
use Rattle.hl_interpreter.specs.declared.run.Run.{Run}
use Rattle.hl_interpreter.specs.Runs.{callees_behind, context_behind, context_in, lane_of}

-- ---- one of them

first-stay : {A : Type 0} (xs ys : List A) (n : ℕ) (d : A) → n < length xs → slice_index_or (xs ++ ys) n d ≡ slice_index_or xs n d
first-stay [] ys n d h = absurd (omega arith)
first-stay (x ∷ xs) ys zero d h = refl
first-stay (x ∷ xs) ys (suc n) d h = first-stay xs ys n d (omega arith)

-- those that are there stay there
callees-keep : (run : Run) (callees : List Callee) (before xs : List FunctionDef) (n : ℕ) (d : Callee) → n < length callees
    → slice_index_or (callees_behind run callees before xs) n d ≡ slice_index_or callees n d
callees-keep run callees before [] n d h = refl
callees-keep run callees before (f ∷ xs) n d h =
    let g : Callee = callee_of (context_in run callees before f) run.turns f in
    callees-keep run (callees ++ g ∷ []) (before ++ f ∷ []) xs n d (omega (arith, length_push callees g)) ∙ first-stay callees (g ∷ []) n d h

last-there : {A : Type 0} (xs : List A) (x : A) (n : ℕ) (d : A) → length xs ≡ n → slice_index_or (xs ++ x ∷ []) n d ≡ x
last-there [] x zero d h = refl
last-there [] x (suc n) d h = absurd (omega arith)
last-there (y ∷ xs) x zero d h = absurd (omega arith)
last-there (y ∷ xs) x (suc n) d h = last-there xs x n d (omega arith)

-- each is called behind those before it
callee-there : (run : Run) (callees : List Callee) (before xs : List FunctionDef) (n at : ℕ) (f : FunctionDef) (d : Callee) → n < length xs → get_or xs n f ≡ f → at ≡ length callees + n
    → slice_index_or (callees_behind run callees before xs) at d ≡ callee_of (context_in run (callees_behind run callees before (take n xs)) (before ++ take n xs) f) run.turns f
callee-there run callees before [] n at f d h is e = absurd (omega arith)
callee-there run callees before (g ∷ xs) zero at f d h is e =
    let c : Callee = callee_of (context_in run callees before g) run.turns g in
    callees-keep run (callees ++ c ∷ []) (before ++ g ∷ []) xs at d (omega (arith, length_push callees c)) ∙
    (last-there callees c at d (omega arith) ∙
    (ap (λ k. callee_of (context_in run callees before k) run.turns k) is ∙
    ap (λ l. callee_of (context_in run callees l f) run.turns f) (sym (append-nil before))))
callee-there run callees before (g ∷ xs) (suc n) at f d h is e =
    let c : Callee = callee_of (context_in run callees before g) run.turns g in
    callee-there run (callees ++ c ∷ []) (before ++ g ∷ []) xs n at f d (omega arith) is (omega (arith, length_push callees c)) ∙
    ap (λ l. callee_of (context_in run (callees_behind run (callees ++ c ∷ []) (before ++ g ∷ []) (take n xs)) l f) run.turns f) (append_assoc before (g ∷ []) (take n xs))

get_or-map : {A B : Type 0} (f : A → B) (xs : List A) (n : ℕ) (x : A) → get_or (map f xs) n (f x) ≡ f (get_or xs n x)
get_or-map f [] n x = refl
get_or-map f (y ∷ xs) zero x = refl
get_or-map f (y ∷ xs) (suc n) x = get_or-map f xs n x

length-of_map : {A B : Type 0} (f : A → B) (xs : List A) → length (map f xs) ≡ length xs
length-of_map f [] = refl
length-of_map f (x ∷ xs) = ap suc (length-of_map f xs)

-- the function of a number, as it is called
pub callee-at : (run : Run) (functions : List HeldFunction) (n : ℕ) (f : HeldFunction) (d : Callee) → n < length functions → f ≡ get_or functions n f
    → slice_index_or (callees_behind run [] [] (map plain_function functions)) n d ≡ callee_of (context_behind run (take n functions) (plain_function f)) run.turns (plain_function f)
callee-at run functions n f d h is =
    callee-there run [] [] (map plain_function functions) n n (plain_function f) d (omega (arith, length-of_map plain_function functions, h))
    (get_or-map plain_function functions n f ∙ ap plain_function (sym is)) (omega arith) ∙
    ap (λ l. callee_of (context_in run (callees_behind run [] [] l) l (plain_function f)) run.turns (plain_function f)) (take-map plain_function n functions)

-- a number past them names none
pub callee-past : (run : Run) (functions : List HeldFunction) (n : ℕ) (d : Callee) → length functions ≤ n
    → slice_index_or (callees_behind run [] [] (map plain_function functions)) n d ≡ d
callee-past run functions n d h =
    past (callees_behind run [] [] (map plain_function functions)) n d (omega (arith, length-callees [] [] (map plain_function functions), length-of_map plain_function functions, h))
  where
    past : {A : Type 0} (xs : List A) (n : ℕ) (d : A) → length xs ≤ n → slice_index_or xs n d ≡ d
    past [] n d h = refl
    past (x ∷ xs) zero d h = absurd (omega arith)
    past (x ∷ xs) (suc n) d h = past xs n d (omega arith)

    length-callees : (callees : List Callee) (before xs : List FunctionDef) → length (callees_behind run callees before xs) ≡ length callees + length xs
    length-callees callees before [] = omega arith
    length-callees callees before (f ∷ xs) =
        let g : Callee = callee_of (context_in run callees before f) run.turns f in
        length-callees (callees ++ g ∷ []) (before ++ f ∷ []) xs ∙ (omega (arith, length_push callees g))

-- ---- those of a program

-- they are the program's, where the slots are
pub callees-same : (run : Run) (callees : List Callee) (before rest : List FunctionDef) → run.slots.now ≡ slots_of (map plain_resource run.program.now.resources) → length callees ≡ length before
    → before ++ rest ≡ (plain_program run.program.now).functions
    → callees_after (plain_program run.program.now) (lane_of run.lane.now) run.turns callees rest ≡ callees_behind run callees before rest
callees-same run callees before [] slots alike whole = refl
callees-same run callees before (f ∷ rest) slots alike whole =
    let p = plain_program run.program.now in
    let lane = lane_of run.lane.now in
    let fronts : take (length callees) p.functions ≡ before =
    ap (λ n. take n p.functions) alike ∙ (ap (take (length before)) (sym whole) ∙ front before (f ∷ rest)) in
    let here : context_of p lane callees f ≡ context_in run callees before f =
    ap (λ l. record (context_in run callees l f) { slots = slots_of p.resources }) fronts ∙
    ap (λ l. record (context_in run callees before f) { slots = l }) (sym slots) in
    let c : Callee = callee_of (context_in run callees before f) run.turns f in
    ap (λ context. callees_after p lane run.turns (callees ++ callee_of context run.turns f ∷ []) rest) here ∙
    callees-same run (callees ++ c ∷ []) (before ++ f ∷ []) rest slots (omega (arith, length_push callees c, length_push before f)) (append_assoc before (f ∷ []) rest ∙ whole)
  where
    front : (xs ys : List FunctionDef) → take (length xs) (xs ++ ys) ≡ xs
    front [] ys = refl
    front (x ∷ xs) ys = ap (λ l. x ∷ l) (front xs ys)
