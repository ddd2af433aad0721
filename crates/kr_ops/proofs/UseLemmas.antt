-- What is held in a sound state, and that one hold and one descriptor more fit.
use Rattle.std.specs.FinMap as map
use Rattle.std.proofs.Common.{◌≡◌, ℕ, ◌+◌, ◌≤◌, ◌<◌, ◌^◌, List, sym, subst, arith, Option, Some, None}
use Rattle.std.specs.Option.{option_map, option_map_or}
use Rattle.law_lawful.proofs.pr_base.MapLemmas.{by_key, get-changed_same, get-changed_other}
use Rattle.law_lawful.specs.kr_tree.Tree.{Tree, Inode}
use Rattle.law_lawful.specs.kr_tree.Changes.{held, with_holds}
use Rattle.law_lawful.specs.kr_tree.Holds.{holds_at}
use Rattle.law_lawful.specs.kr_tree.declared.place.Place.{Place}
use Rattle.law_lawful.specs.kr_files.Files.{Counted}
use Rattle.law_lawful.specs.kr_view.View.{Row}
use Rattle.law_lawful.specs.kr_model.Applied.{held_at}
use Rattle.law_lawful.specs.kr_model.Bare.{pins_of}
use Rattle.law_lawful.specs.kr_model.Lawful.{IsLawful}
use Rattle.law_lawful.specs.kr_model.State as model
use Rattle.law_lawful.specs.kr_model.State.{place_of, inode_of}
use Rattle.law_lawful.specs.kr_model.Uses.{process_use}
use Rattle.law_lawful.proofs.kr_model.TreeLemmas.{holds-held}
use Rattle.law_lawful.proofs.HoldingLemmas.{holds_fit, pins-few, used_is_held}
use Rattle.kr_ops.specs.declared.state.State.{State}
use Rattle.kr_ops.specs.Meaning.{meaning}
use Rattle.kr_ops.specs.Sound.{IsServed, IsSound}

-- a hold adds one at most, and takes none away
pub holds-held-most : {T : Type 0} (o : Option (Place T)) (t : Tree) (i : ℕ) → holds_at (held_at o t) i ≤ holds_at t i + 1
holds-held-most None t i = omega arith
holds-held-most (Some p) t i =
    let k : ℕ = inode_of p.host in
    by_key (λ q. holds_at (held k t) q ≤ holds_at t q + 1) k
    (subst (λ o. option_map_or (λ x. x.holds) o 0 ≤ holds_at t k + 1) (sym (get-changed_same t.inodes k (with_holds (λ n. n + 1)))) (more (map.get t.inodes k)))
    (λ q d. subst (λ o. option_map_or (λ x. x.holds) o 0 ≤ holds_at t q + 1) (sym (get-changed_other t.inodes k (with_holds (λ n. n + 1)) q d)) (omega arith)) i
  where
    more : (o : Option Inode) → option_map_or (λ (x : Inode). x.holds) (option_map (with_holds (λ n. n + 1)) o) 0 ≤ option_map_or (λ (x : Inode). x.holds) o 0 + 1
    more None = omega arith
    more (Some x) = omega arith

pub holds-held-least : {T : Type 0} (o : Option (Place T)) (t : Tree) (i : ℕ) → holds_at t i ≤ holds_at (held_at o t) i
holds-held-least None t i = omega arith
holds-held-least (Some p) t i = holds-held (inode_of p.host) t i

module _ {T : Type 0} {M : ℕ} (s : State T M) (sound : IsSound s) where
  pub open-held : (n : ℕ) (p : Place T) → place_of s.files.table n ≡ Some p → 0 < holds_at s.tree (inode_of p.host)
  open-held n p e = (used_is_held T model.Image sound.pins (meaning s) sound.uses).open_ n p e

  pub holds-fit : (i : ℕ) → holds_at s.tree i + 2048 < 2 ^ 32
  holds-fit i = (holds_fit T model.Image sound.pins (meaning s) sound.uses sound.pids sound.few).holds i

  pub counts-fit : (n : ℕ) (h : Counted T) → map.get s.files.table.files n ≡ Some h → h.count + 2048 < 2 ^ 32
  counts-fit n h e = (holds_fit T model.Image sound.pins (meaning s) sound.uses sound.pids sound.few).counts n h e

  pub process-held : (pid i : ℕ) (p : model.Process T model.Image) → model.process pid (meaning s) ≡ Some p → process_use i p ≤ holds_at s.tree i
  process-held pid i p e = (used_is_held T model.Image sound.pins (meaning s) sound.uses).lives pid i p e

-- a state that means a lawful state is sound
pub sound-of : {T : Type 0} {M : ℕ} (number : T → ℕ) (table : List Row) (s : State T M) → IsLawful number table (meaning s) → IsServed s → IsSound s
sound-of number table s lawful served = record {
  served = served;
  pids = lawful.pids;
  descriptors = lawful.descriptors;
  pins = pins_of table;
  few = pins-few table;
  uses = lawful.uses;
}
