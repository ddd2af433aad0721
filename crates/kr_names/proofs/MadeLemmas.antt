-- Entries that are to be made, by their targets.
use Rattle.std.proofs.Common.{◌≡◌, ℕ, Bool, List, Option, Some, None, refl, sym, subst, ◌∙◌}
use Rattle.std.specs.Bool.{if◌then◌else◌}
use Rattle.std.specs.Option.{option_map}
use Rattle.kr_seen.specs.pr_base.declared.path.Last.{Last}
use Rattle.kr_seen.specs.pr_base.declared.path.Last.TheVariants as last
use Rattle.kr_seen.specs.kr_tree.declared.place.Host.{Host}
use Rattle.kr_seen.specs.kr_tree.declared.place.Place.{Place}
use Rattle.kr_seen.specs.kr_tree.Tree.{Tree}
use Rattle.kr_seen.specs.kr_view.declared.target.Target.{Target}
use Rattle.kr_seen.specs.kr_view.Leads.{numbered}
use Rattle.kr_seen.specs.kr_view.View.{Row, is_there}
use Rattle.kr_seen.specs.kr_model.Seen.{MakesNoName, MakesOver, Makes}
use Rattle.kr_seen.specs.kr_model.State.{Image, State}
use Rattle.kr_seen.specs.kr_model.Walks.{if_name, made_at}
use Rattle.kr_seen.specs.Placed.{placed_in}
use Rattle.kr_seen.specs.Resolved.{IsFreeIn}
use Rattle.kr_names.specs.Adding.{IsFreeName}

-- what a target has where an entry may be made
record IsNewName (kind : Last) (at : Option (Place ℕ)) (h d : Host) (n m : List ℕ) : Type 0 where
  named : kind ≡ last.Name
  free : at ≡ None
  dir : d ≡ h
  name : m ≡ n

new-name : (kind : Last) (at : Option (Place ℕ)) (h d : Host) (n m : List ℕ) (a b : Bool) → Makes d m b ≡ if_name kind (if is_there at then MakesOver else Makes h n a) (MakesNoName kind) → IsNewName kind at h d n m
new-name last.Name None h d n m a b e = record { named = refl; free = refl; dir = cc; name = cc }
new-name last.Name (Some p) h d n m a b e = absurd cc
new-name last.Dot at h d n m a b e = absurd cc
new-name last.DotDot at h d n m a b e = absurd cc
new-name last.Root at h d n m a b e = absurd cc

pub none-before : {A B : Type 0} (f : A → B) (o : Option A) → option_map f o ≡ None → o ≡ None
none-before f None e = refl
none-before f (Some x) e = absurd cc

module _ {T : Type 0} (number : T → ℕ) (table : List Row) (pid : ℕ) (s : State ℕ Image) (target : Target T) (d : Host) (name : List ℕ) (slash : Bool)
    (told : Makes d name slash ≡ made_at table pid s (placed_in number target)) where
  new : IsNewName target.last (option_map (numbered number) target.found) target.dir.host d target.name name
  new = new-name target.last (option_map (numbered number) target.found) target.dir.host d target.name name target.slash slash told

  pub made-dir : d ≡ target.dir.host
  made-dir = new.dir

  pub made-free : (t : Tree) → IsFreeIn t target → IsFreeName t d name
  made-free t free =
      subst (λ (n : List ℕ). IsFreeName t d n) (sym new.name) (λ dir at takes. free dir new.named (none-before (numbered number) target.found new.free) (sym new.dir ∙ at) takes)
