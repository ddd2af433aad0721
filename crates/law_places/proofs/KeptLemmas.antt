-- Where nothing is lost, everything keeps what it needs.
use Rattle.std.proofs.Common.{◌≡◌, ℕ, Bool, true, false, not, List, [], ◌∷◌, refl}
use Rattle.kr_calm.specs.pr_base.Texts.{Text}
use Rattle.law_walks.specs.kr_tree.declared.place.Host.{Host}
use Rattle.law_walks.specs.kr_tree.declared.place.Host.TheVariants.{Node, Proc}
use Rattle.law_walks.specs.kr_tree.Tree.{Tree}
use Rattle.law_walks.specs.kr_view.Component.{Namespace, is_process_directory}
use Rattle.law_walks.specs.kr_view.HostReach.{is_link_at}
use Rattle.law_walks.specs.kr_view.View.{Row}
use Rattle.law_walks.specs.kr_model.ProcessDirectory.{space_of}
use Rattle.law_walks.specs.kr_model.State.{State}
use Rattle.law_walks.specs.Settled.{host_text}
use Rattle.law_places.specs.Following.{StoodAndStays}
use Rattle.law_places.specs.Losses.{HostStays, KeepsAbove, KeepsNames, KeepsTable, KeepsUse, KeepsWay, Losses, nothing, pid_of}
use Rattle.law_places.specs.Standing.{UseStands}
use Rattle.law_places.specs.Uses.{Use}

-- an object from which a walk goes on does so later, if no process is over
pub host_lasts : (lost : Losses) (t : Tree) (x : Host) → is_link_at t x ≡ false → ((pid : ℕ) → lost.over pid ≡ false) → HostStays lost x
host_lasts lost t (Node i) firm none = tt
host_lasts lost t (Proc i at) firm none = (by (is_process_directory at) firm, none (pid_of at))
  where
    by : (b : Bool) → not b ≡ false → b ≡ true
    by true e = refl
    by false e = absurd cc

names_kept : (t : Tree) (h : Text) → KeepsNames nothing t h
names_kept t [] = tt
names_kept t (name ∷ h) = (λ d n. refl, names_kept t h)

way_kept : (t : Tree) (h : Text) → KeepsWay nothing t h
way_kept t [] = tt
way_kept t (name ∷ h) = (λ d n. (refl, refl), way_kept t h)

above_kept : (space : Namespace) (g : Text) → KeepsAbove nothing space g
above_kept space [] = tt
above_kept space (name ∷ g) = (way_kept space.tree (host_text space g), λ d n. refl, above_kept space g)

pub table_kept : (space : Namespace) → KeepsTable nothing space
table_kept space = record { sources = λ k r there. way_kept space.tree r.text.source; points = λ k r name up there e. names_kept space.tree (host_text space up) }

pub use_kept : (space : Namespace) (x : Use) → UseStands space x → KeepsUse nothing space x
use_kept space x stands = record {
  host = λ called. host_lasts nothing space.tree x.place.host (stands.called called).1.on.firm (λ pid. refl);
  guest = λ called guest at. record { way = way_kept space.tree (host_text space guest); above = λ dir. above_kept space guest };
}

pub stood_kept : {X : Type 0} (table : List Row) (s : State ℕ X) (x : Use) → UseStands (space_of table s) x → StoodAndStays nothing table s x
stood_kept table s x stands = record { stood = stands; keeps = use_kept (space_of table s) x stands }
