-- What words ask for, from what is read of them.
use Rattle.std.proofs.Common.{◌≡◌, refl, sym, ap, ◌∙◌, subst, ℕ, zero, suc, ◌-◌, ◌<◌, ◌≤◌, List, [], ◌∷◌, drop, length, map, get_or, take, arith}
use Rattle.std.specs.Prelude.{Option, None, Some, option_map, option_and_then, slice_get, slice_range}
use Rattle.std.proofs.lemmas.List.{drop-map, length-drop, length-map, length-take-le, take-map, take_rest}
use Rattle.std.proofs.lemmas.Option.{none-some, same_Some}
use Rattle.lane_core.specs.declared.event.Reply.{Reply}
use Rattle.hl_lexer.specs.Tokens.{IsName}
use Rattle.hl_interpreter.specs.declared.run.LanePlace.{LanePlace}
use Rattle.trace_driver.specs.Requests.{Asks, each_of, lane_of, number_of, reply_of}
use Rattle.trace_driver.specs.declared.request.Request.{Request}

-- ---- lists

-- what stands at a place of a list
pub at_place : {A B : Type 0} (f : A → B) (xs : List A) (i : ℕ) (x : A) → i < length xs → x ≡ get_or xs i x → slice_get (map f xs) i ≡ Some (f x)
at_place f [] i x within e = absurd (omega (arith, within))
at_place f (y ∷ xs) zero x within e = ap (λ z. Some (f z)) (sym e)
at_place f (y ∷ xs) (suc i) x within e = at_place f xs i x (omega (arith, within)) e

pub map-range : {A B : Type 0} (f : A → B) (xs : List A) → slice_range (map f xs) 1 9 ≡ map f (slice_range xs 1 9)
map-range f xs = ap (take 8) (drop-map f 1 xs) ∙ take-map f 8 (drop 1 xs)

-- each of a list gives one
pub length_each : {A B : Type 0} (f : A → Option B) (xs : List A) (ys : List B) → each_of f xs ≡ Some ys → length ys ≡ length xs
length_each {B = B} f [] ys e = ap length (sym (same_Some [] ys e))
length_each {B = B} f (x ∷ xs) ys e = by (f x) (each_of f xs) (λ more r. length_each f xs more r) e
  where
    by : (o : Option B) (rest : Option (List B)) → ((more : List B) → rest ≡ Some more → length more ≡ length xs)
        → option_and_then (λ y. option_map (λ more. y ∷ more) rest) o ≡ Some ys → length ys ≡ length (x ∷ xs)
    by None rest r e = absurd (none-some ys e)
    by (Some y) None r e = absurd (none-some ys e)
    by (Some y) (Some more) r e = let n : length more ≡ length xs = r more refl in sym (ap length (same_Some (y ∷ more) ys e)) ∙ ap suc n

-- the numbers of a lane are eight
pub eight : {A : Type 0} (f : A → List ℕ) (held : List A) (numbers : List ℕ) → 10 ≤ length held → each_of (number_of 32) (map f (slice_range held 1 9)) ≡ Some numbers → length numbers ≡ 8
eight f held numbers long e =
    length_each (number_of 32) (map f (slice_range held 1 9)) numbers e
    ∙ (length-map (slice_range held 1 9) f ∙ length-take-le 8 (drop 1 held) (omega (arith, length-drop 1 held, long)))

-- ---- words that ask for a lane

module _ {A : Type 0} (f : A → List ℕ) (held : List A) (long : 10 ≤ length held) where
  -- what is read of the words, each part where it stands
  pub asked : (first again tenth : A) (named name word : List ℕ) (lane : LanePlace) (turns : ℕ) (numbers slice : List ℕ) (replies : List Reply)
      → first ≡ get_or held 0 first → named ≡ f first → IsName named → again ≡ get_or held 0 again → name ≡ f again
      → tenth ≡ get_or held 9 tenth → word ≡ f tenth → number_of 64 word ≡ Some turns
      → each_of (number_of 32) (map f (slice_range held 1 9)) ≡ Some numbers → slice ≡ numbers → lane ≡ lane_of slice
      → each_of reply_of (map f (take (length held - 10) (drop 10 held))) ≡ Some replies
      → Asks (map f held) (record { entry = name; lane = lane; turns = turns; replies = replies })
  asked first again tenth named name word lane turns numbers slice replies at-first named-is is-name at-again name-is at-tenth word-is t n slice-is lane-is r = record {
    entry = entry;
    named = subst IsName same is-name;
    lane = ap (λ (ws : List (List ℕ)). option_map lane_of (each_of (number_of 32) ws)) (map-range f held)
        ∙ (ap (λ (found : Option (List ℕ)). option_map lane_of found) n ∙ ap (λ (l : LanePlace). Some l) (ap lane_of (sym slice-is) ∙ sym lane-is));
    turns = ap (λ (found : Option (List ℕ)). option_and_then (number_of 64) found) (at_place f held 9 tenth (omega (arith, long)) at-tenth ∙ ap (λ (w : List ℕ). Some w) (sym word-is)) ∙ t;
    replies = ap (λ (ws : List (List ℕ)). each_of reply_of ws) (drop-map f 10 held) ∙ (ap (λ (xs : List A). each_of reply_of (map f xs)) (sym (take_rest held 10)) ∙ r);
  } where
    entry : slice_get (map f held) 0 ≡ Some name
    entry = at_place f held 0 again (omega (arith, long)) at-again ∙ ap (λ (w : List ℕ). Some w) (sym name-is)

    same : named ≡ name
    same = named-is ∙ same_Some (f first) name (sym (at_place f held 0 first (omega (arith, long)) at-first) ∙ entry)

same_fields : (e f : List ℕ) (l m : LanePlace) (t u : ℕ) (r s : List Reply) → e ≡ f → l ≡ m → t ≡ u → r ≡ s
    → let one : Request = record { entry = e; lane = l; turns = t; replies = r } in one ≡ record { entry = f; lane = m; turns = u; replies = s }
same_fields e f l m t u r s p q v w = rw (p, q, v, w) refl

-- words ask for at most one lane
pub same_request : (words : List (List ℕ)) (one other : Request) → Asks words one → Asks words other → one ≡ other
same_request words one other h k =
    same_fields one.entry other.entry one.lane other.lane one.turns other.turns one.replies other.replies
    (same_Some one.entry other.entry (sym h.entry ∙ k.entry)) (same_Some one.lane other.lane (sym h.lane ∙ k.lane))
    (same_Some one.turns other.turns (sym h.turns ∙ k.turns)) (same_Some one.replies other.replies (sym h.replies ∙ k.replies))
