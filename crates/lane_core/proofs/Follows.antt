-- Tools to show that two meanings of a lane are the same: it is enough that the second follows the
-- first and is steady.
use Rattle.std.proofs.Common.{◌≡◌, ℕ, zero, suc, ◌+◌, ◌-◌, ◌≤◌, List, [], ◌++◌, Option, Some, None, refl, sym, ap, ◌∙◌, subst, arith, append_assoc, append-nil}
use Rattle.std.specs.Prelude.{◌≢◌}
use Rattle.lane_core.specs.declared.event.Event.{Event}
use Rattle.lane_core.specs.declared.event.Reply.{Reply}
use Rattle.lane_core.specs.declared.event.Asked.TheVariants.{Goes}
use Rattle.lane_core.specs.Lane.{Lane, Run, LaneMeaning}
use Rattle.lane_core.specs.SameLane.{IsPrefix, KeepsOutcomes, KeepsEvents, SameLane, SameLaneIsTransitive}

-- for each run of the first meaning the second has the same run at no lower bound
pub record Follows (first second : LaneMeaning) : Type 0 where
  pub by : (n : ℕ) (lane : Lane) (replies : List Reply) → (run : Run) × (k : ℕ) × (n ≤ k) × (first n lane replies ≡ Some run) × (second k lane replies ≡ Some run)

-- what may stand where a run stood at a lower bound: a run that is over stays, and the events of one
-- that isn't over only grow
abbrev pub GrowsTo : Option Run → Option Run → Type 0
GrowsTo None later = later ≡ None
GrowsTo (Some run) later =
    (run.outcome ≢ Goes → later ≡ Some run) × ((further : Run) → later ≡ Some further → IsPrefix run.events further.events)

-- one instruction or turn more changes a run by growth alone
pub record Steady (meaning : LaneMeaning) : Type 0 where
  pub by : (n : ℕ) (lane : Lane) (replies : List Reply) → GrowsTo (meaning n lane replies) (meaning (suc n) lane replies)

pub prefix_refl : (a : List Event) → IsPrefix a a
prefix_refl a = ([], append-nil a)

pub prefix_trans : (a b c : List Event) → IsPrefix a b → IsPrefix b c → IsPrefix a c
prefix_trans a b c p q = (p.0 ++ q.0, sym (append_assoc a p.0 q.0) ∙ ap (λ l. l ++ q.0) p.1 ∙ q.1)

pub grows_refl : (a : Option Run) → GrowsTo a a
grows_refl None = refl
grows_refl (Some run) =
    (λ _. refl, λ further e. subst (λ r. IsPrefix run.events r.events) (some_is run further e) (prefix_refl run.events))
  where
    some_is : (a b : Run) → Some a ≡ Some b → a ≡ b
    some_is a b e = cc

not_none : (run : Run) (a : Option Run) → a ≡ None → a ≡ Some run → ⊥
not_none run a e h = cc

-- where a later run stays, so does the one before it, seen from here
grows_some : (run : Run) (b c : Option Run) → GrowsTo (Some run) b → GrowsTo b c → GrowsTo (Some run) c
grows_some run None c g h = (λ over. absurd (not_none run None refl (g.0 over)), λ further e. absurd (not_none further c h e))
grows_some run (Some middle) c g h =
    (λ over. h.0 (subst (λ r. r.outcome ≢ Goes) (same over) over) ∙ ap Some (sym (same over)), λ further e. prefix_trans run.events middle.events further.events (g.1 middle refl) (h.1 further e))
  where
    same : run.outcome ≢ Goes → run ≡ middle
    same over = let e = g.0 over in cc

grows_trans : (a b c : Option Run) → GrowsTo a b → GrowsTo b c → GrowsTo a c
grows_trans None b c g h = subst (λ o. GrowsTo o c) g h
grows_trans (Some run) b c g h = grows_some run b c g h

-- a run at any higher bound grows from the run at this one
grows_by : (meaning : LaneMeaning) → Steady meaning → (n m : ℕ) (lane : Lane) (replies : List Reply) → GrowsTo (meaning n lane replies) (meaning (m + n) lane replies)
grows_by meaning steady n zero lane replies =
    let e : n ≡ zero + n = omega arith in
    subst (λ k. GrowsTo (meaning n lane replies) (meaning k lane replies)) e (grows_refl (meaning n lane replies))
grows_by meaning steady n (suc m) lane replies =
    let e : suc (m + n) ≡ suc m + n = omega arith in
    subst (λ k. GrowsTo (meaning n lane replies) (meaning k lane replies)) e (grows_trans (meaning n lane replies) (meaning (m + n) lane replies) (meaning (suc (m + n)) lane replies) (grows_by meaning steady n m lane replies) (steady.by (m + n) lane replies))

pub grows_within : (meaning : LaneMeaning) → Steady meaning → (n k : ℕ) → n ≤ k → (lane : Lane) (replies : List Reply) → GrowsTo (meaning n lane replies) (meaning k lane replies)
grows_within meaning steady n k le lane replies =
    let e : (k - n) + n ≡ k = omega arith in
    subst (λ j. GrowsTo (meaning n lane replies) (meaning j lane replies)) e (grows_by meaning steady n (k - n) lane replies)

module _ (first second : LaneMeaning) (follows : Follows first second) (steady : Steady second) where
  -- the second's run at a bound, and the first's run at that bound, which comes no earlier
  meets : (n : ℕ) (lane : Lane) (replies : List Reply) → (run : Run) × (first n lane replies ≡ Some run) × GrowsTo (second n lane replies) (Some run)
  meets n lane replies =
      let f = follows.by n lane replies in
      (f.0, f.3, subst (λ o. GrowsTo (second n lane replies) o) f.4 (grows_within second steady n f.1 f.2 lane replies))

  outcomes_kept : KeepsOutcomes first second
  outcomes_kept lane replies n run e over =
      let f = follows.by n lane replies in
      (f.1, f.4 ∙ sym f.3 ∙ e)

  outcomes_kept_back : KeepsOutcomes second first
  outcomes_kept_back lane replies n run e over =
      let m = meets n lane replies in
      let g = subst (λ o. GrowsTo o (Some m.0)) e m.2 in
      (n, m.1 ∙ g.0 over)

  events_kept : KeepsEvents first second
  events_kept lane replies n run e =
      let f = follows.by n lane replies in
      (f.1, run, f.4 ∙ sym f.3 ∙ e, prefix_refl run.events)

  events_kept_back : KeepsEvents second first
  events_kept_back lane replies n run e =
      let m = meets n lane replies in
      let g = subst (λ o. GrowsTo o (Some m.0)) e m.2 in
      (n, m.0, m.1, g.1 m.0 refl)

  no_wrong : (n : ℕ) (lane : Lane) (replies : List Reply) → second n lane replies ≢ None
  no_wrong n lane replies e =
      let m = meets n lane replies in
      not_none m.0 (Some m.0) (subst (λ o. GrowsTo o (Some m.0)) e m.2) refl

  -- a meaning that follows another and is steady is the same
  pub same_by_following : SameLane first second
  same_by_following = record {
    outcomes = outcomes_kept;
    outcomes_back = outcomes_kept_back;
    events = events_kept;
    events_back = events_kept_back;
    never_wrong = no_wrong;
  }

outcomes_on : (a b c : LaneMeaning) → KeepsOutcomes a b → KeepsOutcomes b c → KeepsOutcomes a c
outcomes_on a b c p q lane replies n run e over = let f = p lane replies n run e over in q lane replies f.0 run f.1 over

events_on : (a b c : LaneMeaning) → KeepsEvents a b → KeepsEvents b c → KeepsEvents a c
events_on a b c p q lane replies n run e =
    let f = p lane replies n run e in
    let g = q lane replies f.0 f.1 f.2 in
    (g.0, g.1, g.2, prefix_trans run.events f.1.events g.1.events f.3 g.3)

pub same_lane_trans : SameLaneIsTransitive
same_lane_trans a b c s t = record {
  outcomes = outcomes_on a b c s.outcomes t.outcomes;
  outcomes_back = outcomes_on c b a t.outcomes_back s.outcomes_back;
  events = events_on a b c s.events t.events;
  events_back = events_on c b a t.events_back s.events_back;
  never_wrong = t.never_wrong;
}
