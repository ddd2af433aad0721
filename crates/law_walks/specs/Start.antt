-- That what the laws ask for is met: by every table that was settled, before a process lives, and by living processes.
use Rattle.std.specs.Prelude.{◌≡◌, ℕ, List, [], Some, Ok}
use Rattle.pt_canon.specs.pr_base.Peeks.{Peeked}
use Rattle.pt_canon.specs.pr_base.Texts.{Text}
use Rattle.pt_canon.specs.pr_base.declared.bind.Bind.{Bind}
use Rattle.pt_canon.specs.pt_bind.Tags.{TagTable}
use Rattle.pt_canon.specs.declared.link.ProcessLink.{ProcessLink}
use Rattle.kr_mounts.specs.kr_inode.declared.user.User.{User}
use Rattle.kr_mounts.specs.kr_tree.declared.place.Host.TheVariants.{Proc}
use Rattle.kr_mounts.specs.kr_tree.declared.place.ProcAt.{ProcAt}
use Rattle.kr_mounts.specs.kr_tree.Lawful.{HasItsInodes, IsCounted, IsSound}
use Rattle.kr_mounts.specs.kr_tree.Tree.{Tree}
use Rattle.kr_mounts.specs.kr_view.Component.{Finds, Namespace}
use Rattle.kr_mounts.specs.kr_view.Living.{Each, HasSmallNumbers as IsSmallProcess, Living, finds_among}
use Rattle.kr_mounts.specs.kr_view.Processes.{no_finds, no_leads}
use Rattle.kr_mounts.specs.kr_view.View.{Row, plain, root_place}
use Rattle.kr_mounts.specs.Bounds.{AreNumbered}
use Rattle.kr_mounts.specs.MountTable.{settling}
use Rattle.law_walks.specs.Peeks.{ArePeeks}
use Rattle.law_walks.specs.Scene.{HasSmallNumbers, IsMatched, Scene, host_around, link_of}
use Rattle.law_walks.specs.Settled.{IsSettled}
use Rattle.law_walks.specs.Standing.{StandsOn, reached_in}

-- settled bindings are such a table in the tree that is left, whatever the process directory shows
abbrev pub SettledBindingsAreSettled : Type 0
SettledBindingsAreSettled =
    (t : Tree) (user : User) (root : List ℕ) (binds : List Bind) (table : List Row) (finds : Finds) → IsSound t → IsCounted t → AreNumbered binds → (settling t user root binds).answer ≡ Ok table
    → IsSettled (record { table = table; tree = (settling t user root binds).tree; user = user; finds = finds })

-- and so is the host's own view in every tree
abbrev pub HostViewsAreSettled : Type 0
HostViewsAreSettled = (t : Tree) (user : User) (finds : Finds) → IsSound t → HasItsInodes t → IsSettled (record { table = plain; tree = t; user = user; finds = finds })

-- where paths begin: the root place stands at the root
abbrev pub RootsStand : Type 0
RootsStand = (space : Namespace) → IsSettled space → StandsOn space (root_place space.table) []

-- before a process lives
abbrev pub first_scene : List Row → Tree → User → Peeked → TagTable → Scene
first_scene table t user peeked tags = record {
  around = record { space = record { table = table; tree = t; user = user; finds = no_finds }; leads = no_leads };
  host_leads = no_leads;
  peeked = peeked;
  tags = tags;
}

-- all that walks go by is matched, if a tracer is told what it peeks at
abbrev pub FirstScenesAreMatched : Type 0
FirstScenesAreMatched =
    (table : List Row) (t : Tree) (user : User) (peeked : Peeked) (tags : TagTable) → IsSettled (record { table = table; tree = t; user = user; finds = no_finds }) → ArePeeks peeked (host_around (first_scene table t user peeked tags))
    → IsMatched (first_scene table t user peeked tags)

-- links of living processes have small numbers, where these and their descriptors have
abbrev pub LivingLinksAreSmall : Type 0
LivingLinksAreSmall =
    (space : Namespace) (living : List Living) (host : Text) (i : ℕ) (at : ProcAt) (link : ProcessLink) → space.finds ≡ finds_among living → Each IsSmallProcess living → reached_in space host ≡ Some (Proc i at) → link_of at ≡ Some link
    → HasSmallNumbers link
