-- What is told of a target tells whether something was found, and so which mounts the changes of a call may name.
use Rattle.std.proofs.Common.{◌≡◌, ℕ, Bool, true, false, List, Option, Some, None, refl, sym, ap, ◌∙◌}
use Rattle.std.specs.Bool.{if◌then◌else◌}
use Rattle.std.specs.Option.{option_map, option_map_or}
use Rattle.law_edits.specs.pr_base.declared.errno.Errno.TheVariants.{ENOENT}
use Rattle.law_edits.specs.pr_base.declared.path.Last.{Last}
use Rattle.law_edits.specs.pr_base.declared.path.Last.TheVariants as last
use Rattle.law_places.specs.kr_tree.declared.place.Host.{Host}
use Rattle.law_places.specs.kr_tree.declared.place.Place.{Place}
use Rattle.law_places.specs.kr_view.View.{Row, is_there}
use Rattle.law_places.specs.kr_view.Walk.{PlaceTarget}
use Rattle.law_places.proofs.kr_view.TableLemmas.{there_is}
use Rattle.law_places.specs.kr_model.Bare.{bare_mounts}
use Rattle.law_places.specs.kr_model.Seen.{Entered, Looked, LooksUp, Makes, MakesNoName, MakesOver, Opening, OpensFound, OpensNew, OpensNoName, OpensSlashed, Seen, Takes, TakesCovered, TakesNoName, WalkFails}
use Rattle.law_places.specs.kr_model.State.{Image, State}
use Rattle.law_places.specs.kr_model.Walks.{created_at, entered, if_found, if_name, is_covered, looked_at, made_at, mounts_of, taken_at}
use Rattle.law_plans.proofs.PlanLemmas.{only}

module _ (rows : List Row) (pid : ℕ) (x : State ℕ Image) (t : PlaceTarget) where
  -- ---- what was looked up

  found_by : (o : Option (Place ℕ)) (l : Looked) → option_map_or (λ p. LooksUp (looked_at rows pid x t p)) o (WalkFails ENOENT) ≡ LooksUp l → is_there o ≡ true
  found_by None l e = absurd cc
  found_by (Some p) l e = refl

  pub looked_there : (l : Looked) → if_found rows pid x t LooksUp ≡ LooksUp l → is_there t.found ≡ true
  looked_there l e = found_by t.found l e

  pub looked_is : (p : Place ℕ) (next : Looked → Seen) → t.found ≡ Some p → if_found rows pid x t next ≡ next (looked_at rows pid x t p)
  looked_is p next e = ap (λ o. option_map_or (λ p. next (looked_at rows pid x t p)) o (WalkFails ENOENT)) e

  -- ---- what was opened

  abbrev created_by : Last → Bool → Option (Place ℕ) → Opening
  created_by l slash o = if_name l (if slash then OpensSlashed else option_map_or (λ p. OpensFound (looked_at rows pid x t p)) o (OpensNew t.dir.host t.name)) (OpensNoName l)

  opened_by : (l : Last) (slash : Bool) (o : Option (Place ℕ)) (f : Looked) → created_by l slash o ≡ OpensFound f → is_there o ≡ true
  opened_by last.Name true o f e = absurd cc
  opened_by last.Name false None f e = absurd cc
  opened_by last.Name false (Some p) f e = refl
  opened_by last.Dot slash o f e = absurd cc
  opened_by last.DotDot slash o f e = absurd cc
  opened_by last.Root slash o f e = absurd cc

  pub opened_there : (f : Looked) → created_at rows pid x t ≡ OpensFound f → is_there t.found ≡ true
  opened_there f e = opened_by t.last t.slash t.found f e

  new_by : (l : Last) (slash : Bool) (o : Option (Place ℕ)) (d : Host) (n : List ℕ) → created_by l slash o ≡ OpensNew d n → is_there o ≡ false
  new_by last.Name true o d n e = absurd cc
  new_by last.Name false None d n e = refl
  new_by last.Name false (Some p) d n e = absurd cc
  new_by last.Dot slash o d n e = absurd cc
  new_by last.DotDot slash o d n e = absurd cc
  new_by last.Root slash o d n e = absurd cc

  pub new_free : (d : Host) (n : List ℕ) → created_at rows pid x t ≡ OpensNew d n → is_there t.found ≡ false
  new_free d n e = new_by t.last t.slash t.found d n e

  -- ---- what was made

  made_by : (l : Last) (b : Bool) (d : Host) (n : List ℕ) (slash : Bool) → if_name l (if b then MakesOver else Makes t.dir.host t.name t.slash) (MakesNoName l) ≡ Makes d n slash → b ≡ false
  made_by last.Name true d n slash e = absurd cc
  made_by last.Name false d n slash e = refl
  made_by last.Dot b d n slash e = absurd cc
  made_by last.DotDot b d n slash e = absurd cc
  made_by last.Root b d n slash e = absurd cc

  pub made_free : (d : Host) (n : List ℕ) (slash : Bool) → made_at rows pid x t ≡ Makes d n slash → is_there t.found ≡ false
  made_free d n slash e = made_by t.last (is_there t.found) d n slash e

  -- ---- what was taken

  hosts_there : (o : Option (Place ℕ)) → is_there (option_map (λ (p : Place ℕ). p.host) o) ≡ is_there o
  hosts_there None = refl
  hosts_there (Some p) = refl

  taken_by : (l : Last) (b : Bool) (e : Entered) → if_name l (if b then TakesCovered else Takes (entered t)) (TakesNoName l) ≡ Takes e → entered t ≡ e
  taken_by last.Name true e h = absurd cc
  taken_by last.Name false e h = cc
  taken_by last.Dot b e h = absurd cc
  taken_by last.DotDot b e h = absurd cc
  taken_by last.Root b e h = absurd cc

  pub taken_there : (e : Entered) → taken_at rows pid x t ≡ Takes e → is_there e.found ≡ is_there t.found
  taken_there e h = ap (λ (e : Entered). is_there e.found) (sym (taken_by t.last (is_covered rows t.dir.host t.name) e h)) ∙ hosts_there t.found

-- ---- mounts

abbrev forgotten : ℕ → Unit {0}
forgotten m = tt

same_named : (o p : Option (Place ℕ)) → is_there o ≡ is_there p → option_map forgotten (option_map (λ (p : Place ℕ). p.mount) o) ≡ option_map forgotten (option_map (λ (p : Place ℕ). p.mount) p)
same_named None None e = refl
same_named None (Some q) e = absurd cc
same_named (Some p) None e = absurd cc
same_named (Some p) (Some q) e = refl

pub same_mounts : (a t : PlaceTarget) → is_there a.found ≡ is_there t.found → bare_mounts (mounts_of (only (Some a))) ≡ bare_mounts (mounts_of (only (Some t)))
same_mounts a t e = ap (λ found. record { found = found; directory = Some tt }) (same_named a.found t.found e)

-- what was looked up is found in the plain kernel, too
pub looked_both : (rows others : List Row) (pid : ℕ) (x y : State ℕ Image) (a t : PlaceTarget) → is_there a.found ≡ true → ((next : Looked → Seen) → if_found others pid y t next ≡ if_found rows pid x a next) → is_there t.found ≡ true
looked_both rows others pid x y a t there same =
    let p = there_is a.found there in
    looked_there others pid y t (looked_at rows pid x a p.0) (same LooksUp ∙ looked_is rows pid x a p.0 LooksUp p.1)
