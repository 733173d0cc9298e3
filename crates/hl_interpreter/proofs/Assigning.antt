-- What assignments and the copies of a call meet, by what their parts give.
use Rattle.std.proofs.Common.{◌≡◌, ◌∙◌, refl, sym, ap, ℕ, ◌+◌, ◌<◌, ◌≤◌, min, Bool, if◌then◌else◌, List, [], ◌∷◌, drop, get_or, length, length-drop, Option, Err, arith}
use Rattle.std.proofs.lemmas.List.{get_or_default}
use Rattle.hl_meaning.specs.declared.expression.Arg.{Arg as HeldArg}
use Rattle.hl_meaning.specs.declared.expression.Location.{Location as HeldLocation}
use Rattle.hl_meaning.specs.Trees.{Arg, Args, Location, more_args, place_arg, place_type, value_arg}
use Rattle.hl_meaning.specs.Types.{Ty}
use Rattle.hl_meaning.specs.Views.{plain_arg, plain_args, plain_location, plain_ty}
use Rattle.hl_meaning.proofs.Plain.{plain_location-is}
use Rattle.hl_source.specs.Expressions.{assigned, assigns, copies_out, read_if}
use Rattle.hl_source.specs.Memory.{write_place}
use Rattle.hl_source.specs.State.{Context, Progress, State, after, goes_with}
use Rattle.hl_interpreter.specs.declared.run.Stop.{Stop}
use Rattle.hl_interpreter.specs.Operands.{copies_if, interleaved}
use Rattle.hl_interpreter.specs.Runs.{Does, Gives}
use Rattle.hl_interpreter.proofs.Meeting.{goes, same, stops}
use Rattle.hl_interpreter.proofs.Turns.{drop-next}

-- the type of a place
pub place-type : (l : HeldLocation) → place_type (plain_location l) ≡ plain_ty l.ty
place-type l = ap place_type (plain_location-is l)

-- ---- an assignment

module _ (c : Context) (to : Location) (op : Option ℕ) (common : Ty) (old : Bool) (indexes words : List ℕ) (s t : State) where
  abbrev behind_read : List ℕ → State → Progress (List ℕ)
  behind_read before s1 =
      after (assigned op common (place_type to) before words s1) (λ written s2.
      after (write_place c to indexes written s2) (λ _ s3. goes_with (if old then before else written) s3))

  pub assigns-first : (e : Stop) → Gives (Err e) t (read_if c op to indexes s) → Gives (Err e) t (assigns c to op common old indexes words s)
  assigns-first e h = stops (λ w. w) (λ w. w) e t (read_if c op to indexes s) behind_read h

  module _ (before : List ℕ) (h : read_if c op to indexes s ≡ goes_with before t) where
    abbrev behind_written : List ℕ → State → Progress (List ℕ)
    behind_written written s2 = after (write_place c to indexes written s2) (λ _ s3. goes_with (if old then before else written) s3)

    pub assigns-second : (e : Stop) → Gives (Err e) t (assigned op common (place_type to) before words t) → Gives (Err e) t (assigns c to op common old indexes words s)
    assigns-second e k =
        goes (λ w. w) before (Err e) t t (read_if c op to indexes s) behind_read h
        (stops (λ w. w) (λ w. w) e t (assigned op common (place_type to) before words t) behind_written k)

    module _ (written : List ℕ) (k : assigned op common (place_type to) before words t ≡ goes_with written t) (u : State) where
      pub assigns-third : (e : Stop) → Does (Err e) u (write_place c to indexes written t) → Gives (Err e) u (assigns c to op common old indexes words s)
      assigns-third e l =
          goes (λ w. w) before (Err e) t u (read_if c op to indexes s) behind_read h
          (goes (λ w. w) written (Err e) t u (assigned op common (place_type to) before words t) behind_written k
          (stops {A = Unit {0}} (λ _. []) (λ w. w) e u (write_place c to indexes written t) (λ _ s3. goes_with (if old then before else written) s3) l))

      pub assigns-goes : (b : Bool) → write_place c to indexes written t ≡ goes_with [] u → old ≡ b → assigns c to op common old indexes words s ≡ goes_with (if b then before else written) u
      assigns-goes b l is =
          ap (λ q. after q behind_read) h ∙ (ap (λ q. after q behind_written) k ∙
          (ap (λ q. after q (λ _ s3. goes_with (if old then before else written) s3)) l ∙ ap (λ d. goes_with (if d then before else written) u) is))

-- ---- what is copied out

copies-open : (c : Context) (a : Arg) (rest : Args) (i x w : List ℕ) (operands parameters : List (List ℕ)) (s : State)
    → copies_out c (more_args a rest) (i ∷ x ∷ operands) (w ∷ parameters) s ≡ after (copies_if c a i w s) (λ _ s'. copies_out c rest operands parameters s')
copies-open c (place_arg place) rest i x w operands parameters s = refl
copies-open c (value_arg value) rest i x w operands parameters s = refl

no-operands : (c : Context) (a : Arg) (rest : Args) (parameters : List (List ℕ)) (s : State) → copies_out c (more_args a rest) [] parameters s ≡ goes_with [] s
no-operands c (place_arg place) rest parameters s = refl
no-operands c (value_arg value) rest parameters s = refl

no-parameters : (c : Context) (a : Arg) (rest : Args) (i x : List ℕ) (operands : List (List ℕ)) (s : State) → copies_out c (more_args a rest) (i ∷ x ∷ operands) [] s ≡ goes_with [] s
no-parameters c (place_arg place) rest i x operands s = refl
no-parameters c (value_arg value) rest i x operands s = refl

module _ (c : Context) (items : List HeldArg) (indexes starts parameters : List (List ℕ)) (at : ℕ) (a : HeldArg) (i w : List ℕ) (s t : State) (whole : Progress (List ℕ))
    (na : drop at items ≡ a ∷ drop (at + 1) items) (ni : drop at indexes ≡ i ∷ drop (at + 1) indexes) (np : drop at parameters ≡ w ∷ drop (at + 1) parameters)
    (alike : length starts ≡ length indexes) (within : at < length indexes)
    (is : whole ≡ copies_out c (plain_args (drop at items)) (interleaved (drop at indexes) (drop at starts)) (drop at parameters) s) where
  abbrev others : State → Progress (List ℕ)
  others s' = copies_out c (plain_args (drop (at + 1) items)) (interleaved (drop (at + 1) indexes) (drop (at + 1) starts)) (drop (at + 1) parameters) s'

  abbrev start : List ℕ
  start = get_or starts at []

  ns : drop at starts ≡ get_or starts at [] ∷ drop (at + 1) starts
  ns = drop-next starts at start (omega arith) (get_or_default starts at [] start (omega arith))

  copies-opened : whole ≡ after (copies_if c (plain_arg a) i w s) (λ _ s'. copies_out c (plain_args (drop (at + 1) items)) (interleaved (drop (at + 1) indexes) (drop (at + 1) starts)) (drop (at + 1) parameters) s')
  copies-opened =
      is ∙ (ap (λ l. copies_out c (plain_args l) (interleaved (drop at indexes) (drop at starts)) (drop at parameters) s) na ∙
      (ap (λ l. copies_out c (plain_args (a ∷ drop (at + 1) items)) (interleaved l (drop at starts)) (drop at parameters) s) ni ∙
      (ap (λ l. copies_out c (plain_args (a ∷ drop (at + 1) items)) (interleaved (i ∷ drop (at + 1) indexes) l) (drop at parameters) s) ns ∙
      (ap (λ l. copies_out c (plain_args (a ∷ drop (at + 1) items)) (interleaved (i ∷ drop (at + 1) indexes) (start ∷ drop (at + 1) starts)) l s) np ∙
      copies-open c (plain_arg a) (plain_args (drop (at + 1) items)) i start w (interleaved (drop (at + 1) indexes) (drop (at + 1) starts)) (drop (at + 1) parameters) s))))

  pub copies-stop : (e : Stop) → Does (Err e) t (copies_if c (plain_arg a) i w s) → Does (Err e) t whole
  copies-stop e h =
      same {B = Unit {0}} (λ _. []) (Err e) t _ _ (sym copies-opened) (stops {A = Unit {0}} {B = Unit {0}} (λ _. []) (λ _. []) e t (copies_if c (plain_arg a) i w s) (λ _ s'. others s') h)

  pub copies-next : copies_if c (plain_arg a) i w s ≡ goes_with [] t
      → whole ≡ copies_out c (plain_args (drop (at + 1) items)) (interleaved (drop (at + 1) indexes) (drop (at + 1) starts)) (drop (at + 1) parameters) t
  copies-next h = copies-opened ∙ ap (λ q. after q (λ _ s'. others s')) h

pub copies-end : (c : Context) (items : List HeldArg) (indexes starts parameters : List (List ℕ)) (at : ℕ) (s : State) → min (min (length items) (length indexes)) (length parameters) ≤ at
    → copies_out c (plain_args (drop at items)) (interleaved (drop at indexes) (drop at starts)) (drop at parameters) s ≡ goes_with [] s
copies-end c items indexes starts parameters at s past = by (drop at items) (drop at indexes) (drop at starts) (drop at parameters) refl refl refl
  where
    by : (xs : List HeldArg) (is ss ps : List (List ℕ)) → drop at items ≡ xs → drop at indexes ≡ is → drop at parameters ≡ ps → copies_out c (plain_args xs) (interleaved is ss) ps s ≡ goes_with [] s
    by [] is ss ps a b d = refl
    by (x ∷ xs) [] ss ps a b d = no-operands c (plain_arg x) (plain_args xs) ps s
    by (x ∷ xs) (i ∷ is) [] ps a b d = no-operands c (plain_arg x) (plain_args xs) ps s
    by (x ∷ xs) (i ∷ is) (y ∷ ss) [] a b d = no-parameters c (plain_arg x) (plain_args xs) i y (interleaved is ss) s
    by (x ∷ xs) (i ∷ is) (y ∷ ss) (p ∷ ps) a b d =
        absurd (omega (arith, length-drop at items, length-drop at indexes, length-drop at parameters, ap length a, ap length b, ap length d))
