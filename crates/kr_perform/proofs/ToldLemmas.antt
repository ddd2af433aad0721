-- What a call is told of its targets rests on what a walk answers of them.
use Rattle.std.proofs.Common.{◌≡◌, ℕ, List, Option, Some, None, refl, ap, sym, ◌∙◌}
use Rattle.std.specs.Option.{option_map, option_map_or}
use Rattle.std.proofs.lemmas.Option.{same_Some}
use Rattle.law_allowed.specs.kr_calls.CallTable.{Told, ToldNothing, LooksAt, ReadsLinkAt, OpensAt, TakesAt, MakesAt, LinksTwo, MovesTwo, NamesHere, line}
use Rattle.law_allowed.specs.kr_calls.declared.request.Request.{Request}
use Rattle.law_allowed.specs.kr_tree.declared.place.Place.{Place}
use Rattle.law_allowed.specs.kr_view.View.{Row}
use Rattle.law_allowed.specs.kr_view.declared.target.Target.{Target}
use Rattle.law_allowed.specs.kr_view.Answers as answers
use Rattle.law_allowed.specs.kr_view.Answers.{target_numbered}
use Rattle.law_allowed.specs.kr_view.Leads.{numbered}
use Rattle.law_allowed.specs.kr_view.Walk.{PlaceTarget}
use Rattle.law_allowed.specs.kr_model.Seen.{Seen, NoPath}
use Rattle.law_allowed.specs.kr_model.State.{State}
use Rattle.law_allowed.specs.kr_model.Walks.{Targets, told, told_by, mounts_of}
use Rattle.kr_transfer.specs.kr_seen.CallWalks.{IsTold}
use Rattle.kr_transfer.specs.kr_seen.Placed.{placed}
use Rattle.kr_perform.specs.Operating.{mounts_at, placed_targets}
use Rattle.kr_perform.specs.Calling.{mounts_numbered}

-- without whether it was jumped to, which no call is told
abbrev plain : PlaceTarget → PlaceTarget
plain t = placed (answers.told t)

abbrev both_plain : Targets → Targets
both_plain t = record { first = option_map plain t.first; second = option_map plain t.second }

one-plain : {A : Type 0} (f : PlaceTarget → A) (other : A) → ((t : PlaceTarget) → f t ≡ f (plain t)) → (o : Option PlaceTarget) → option_map_or f o other ≡ option_map_or f (option_map plain o) other
one-plain f other same None = refl
one-plain f other same (Some t) = same t

two-plain : (f : PlaceTarget → PlaceTarget → Seen) → ((t u : PlaceTarget) → f t u ≡ f (plain t) (plain u)) → (o p : Option PlaceTarget)
    → option_map_or (λ t. option_map_or (f t) p NoPath) o NoPath ≡ option_map_or (λ t. option_map_or (f t) (option_map plain p) NoPath) (option_map plain o) NoPath
two-plain f same None p = refl
two-plain f same (Some t) None = refl
two-plain f same (Some t) (Some u) = same t u

module _ {X : Type 0} (table : List Row) (pid : ℕ) (s : State ℕ X) where
  plain-by : (w : Told) (t : Targets) → told_by table pid s w t ≡ told_by table pid s w (both_plain t)
  plain-by ToldNothing t = refl
  plain-by (LinksTwo how at to) t = two-plain _ (λ t u. refl) t.first t.second
  plain-by (MovesTwo at to) t = two-plain _ (λ t u. refl) t.first t.second
  plain-by NamesHere t = refl
  plain-by (LooksAt how at) t = one-plain _ NoPath (λ t. refl) t.first
  plain-by (ReadsLinkAt at) t = one-plain _ NoPath (λ t. refl) t.first
  plain-by (OpensAt flags at) t = one-plain _ NoPath (λ t. refl) t.first
  plain-by (TakesAt at) t = one-plain _ NoPath (λ t. refl) t.first
  plain-by (MakesAt at) t = one-plain _ NoPath (λ t. refl) t.first

  pub told-plain : (r : Request) (t : Targets) → told table pid s r t ≡ told table pid s r (both_plain t)
  told-plain r t = plain-by (line r).told t

-- ---- the targets in code

module _ {T : Type 0} (number : T → ℕ) where
  placed-is : (o : Option PlaceTarget) (target : Option (Target T)) → IsTold number o target → option_map plain o ≡ option_map (λ t. placed (target_numbered number t)) target
  placed-is None None same = refl
  placed-is None (Some t) same = absurd cc
  placed-is (Some t) None same = absurd cc
  placed-is (Some t) (Some u) same = ap (option_map placed) same

  pub told-placed : {X : Type 0} (table : List Row) (pid : ℕ) (s : State ℕ X) (r : Request) (t : Targets) (first second : Option (Target T)) → IsTold number t.first first → IsTold number t.second second
      → told table pid s r t ≡ told table pid s r (placed_targets number first second)
  told-placed table pid s r t first second one two =
      told-plain table pid s r t ∙ (λ i. told table pid s r (record { first = placed-is t.first first one i; second = placed-is t.second second two i }))

  mount-found : (o : Option (Place T)) → option_map number (option_map (λ p. p.mount) o) ≡ option_map (λ p. p.mount) (option_map (numbered number) o)
  mount-found None = refl
  mount-found (Some p) = refl

  -- the mounts to which the first path led
  pub mounts-told : (t : Targets) (first : Option (Target T)) → IsTold number t.first first → mounts_numbered number (mounts_at first) ≡ mounts_of t
  mounts-told t first same = by t.first first same
    where
      by : (o : Option PlaceTarget) (target : Option (Target T)) → IsTold number o target → mounts_numbered number (mounts_at target) ≡ mounts_of (record { first = o; second = t.second })
      by None None same = refl
      by None (Some u) same = absurd cc
      by (Some x) None same = absurd cc
      by (Some x) (Some u) same =
          let one = sym (same_Some (answers.told x) (target_numbered number u) same) in
          let found = mount-found u.found ∙ ap (λ (t : Target ℕ). option_map (λ (p : Place ℕ). p.mount) t.found) one in
          (λ i. record { found = found i; directory = Some ((one i).dir.mount) })
