-- What stands at guest texts stands there in a state that loses nothing of them.
use Rattle.std.proofs.Common.{◌≡◌, subst, ℕ, Bool, true, List, [], ◌∷◌, map, Option, Some, None, refl, sym, ap, ◌∙◌}
use Rattle.kr_calm.specs.pr_base.MountText.{MountText}
use Rattle.kr_calm.specs.pr_base.Texts.{Text}
use Rattle.law_walks.specs.pt_bind.Binding.{host_of, located}
use Rattle.law_walks.specs.kr_inode.declared.user.User.{User}
use Rattle.law_walks.specs.kr_tree.declared.place.Host.{Host}
use Rattle.law_walks.specs.kr_tree.declared.place.Host.TheVariants.{Node}
use Rattle.law_walks.specs.kr_tree.declared.place.Place.{Place}
use Rattle.law_walks.specs.kr_tree.Lawful.{IsKept}
use Rattle.law_walks.specs.kr_tree.Tree.{Tree}
use Rattle.law_walks.proofs.kr_tree.CountLemmas.{there}
use Rattle.law_walks.proofs.kr_tree.NameLemmas.{some_is}
use Rattle.law_walks.specs.kr_view.Component.{Namespace, is_directory_at}
use Rattle.law_walks.specs.kr_view.HostReach.{reaches}
use Rattle.law_walks.specs.kr_view.Living.{Living}
use Rattle.law_walks.specs.kr_view.View.{Row, StandsIn}
use Rattle.law_walks.proofs.kr_view.HostReachLemmas.{last_object, named_alone}
use Rattle.law_walks.specs.kr_mounts.Standing.{texts_of}
use Rattle.law_walks.specs.kr_model.Lawful.{IsLawful}
use Rattle.law_walks.specs.kr_model.ProcessDirectory.{living_of, space_of}
use Rattle.law_walks.specs.kr_model.State.{Image, Process, State}
use Rattle.law_walks.specs.Settled.{IsSettled}
use Rattle.law_walks.specs.Standing.{IsEntryAt, IsOpen, Stands}
use Rattle.law_walks.proofs.TableLemmas.{host_none, mount_below}
use Rattle.law_places.specs.Following.{Follows, PlacesFollow, StoodAndStays, WhatStoodStands, pids_of}
use Rattle.law_places.specs.Losses.{HostStays, InodesStay, KeepsAbove, KeepsGuest, KeepsTable, KeepsUse, KeepsWay, Losses, PidsStay}
use Rattle.law_places.specs.Standing.{AreSourcesNamed, PlacesStand, StandsAs, UseStands}
use Rattle.law_places.specs.Uses.{IsUse, Use, is_cwd, is_exe, is_open}
use Rattle.law_places.proofs.ShownLemmas.{shown_pids}
use Rattle.law_places.proofs.WayLemmas.{IsWhole, above_lasts, directory_stays, f, g, link_stays, name_stays, names_of_way, node_named, reached_stays, search_stays, way_stays}

pub whole : (t : Tree) → IsKept t → IsWhole t
whole t kept = record { sound = kept.sound; inodes = there t kept.sound kept.counted }

module _ (user : User) (lost : Losses) (t u : Tree) (living later : List Living) (old : IsWhole t) (new : IsWhole u) (stays : InodesStay user lost t.inodes u.inodes) (shown : PidsStay lost (shown_pids living) (shown_pids later)) (table : List Row) where
  abbrev bindings : List MountText
  bindings = texts_of table

  abbrev before : Namespace
  before = record { table = table; tree = t; user = user; finds = f user lost t u living later old new stays shown }

  abbrev after : Namespace
  after = record { table = table; tree = u; user = user; finds = g user lost t u living later old new stays shown }

  abbrev reach : Text → Option Host
  reach h = reaches t user (f user lost t u living later old new stays shown) h

  -- what is above a guest text lasts as long as what stands at it
  above_text : IsSettled before → (name : List ℕ) (x : Text) (o d : Host) → reach (host_of bindings (name ∷ x)) ≡ Some o → reach (host_of bindings x) ≡ Some d → HostStays lost o → HostStays lost d
  above_text set name x o d way up lasts = by (located bindings (name ∷ x)) refl
    where
      by : (k : Option ℕ) → located bindings (name ∷ x) ≡ k → HostStays lost d
      by None e =
          let l = last_object t user (f user lost t u living later old new stays shown) (host_of bindings x) name o (ap reach (sym (host_none bindings name x e)) ∙ way) in
          subst (HostStays lost) (some_is l.dir d (sym l.way ∙ up)) (above_lasts user lost t u living later old new stays shown name l.dir o l.is_dir l.there lasts)
      by (Some k) e =
          let m = mount_below before set name x k e in
          let is : d ≡ Node m.point.dir = named_alone t user (f user lost t u living later old new stays shown) (host_of bindings x) m.point.dir d m.dir up in
          subst (HostStays lost) (sym is) tt

  open_stays : IsSettled before → (x : Text) (o : Host) → reach (host_of bindings x) ≡ Some o → HostStays lost o → KeepsAbove lost before x → IsOpen before x → IsOpen after x
  open_stays set [] o way lasts still ways = tt
  open_stays set (name ∷ x) o way lasts still ways =
      let s = ways.0 in
      let up = above_text set name x o s.dir way s.way lasts in (
        record {
          dir = s.dir;
          way = way_stays user lost t u living later old new stays shown (host_of bindings x) s.dir still.0 up s.way;
          is_dir = directory_stays user lost t u living later old new stays shown (host_of bindings x) s.dir still.0 s.way ∙ s.is_dir;
          search = search_stays user lost t u living later old new stays shown (host_of bindings x) s.dir still.0 s.way (λ i e. still.1 i (node_named user lost t u living later old new stays shown (host_of bindings x) i (s.way ∙ ap Some e))) s.search;
        },
        open_stays set x s.dir s.way up still.2 ways.1,
      )

  -- ---- what stands

  stands_still : IsSettled before → (p : Place ℕ) (x : Text) (is_dir : Bool) → KeepsWay lost t (host_of bindings x) → (is_dir ≡ true → KeepsAbove lost before x) → HostStays lost p.host → is_directory_at t p.host ≡ is_dir → Stands before p x → Stands after p x
  stands_still set p x is_dir way above lasts kind s = record {
    mount = s.mount;
    way = way_stays user lost t u living later old new stays shown (host_of bindings x) p.host way lasts s.way;
    above = λ dir.
        let dir_before = sym (directory_stays user lost t u living later old new stays shown (host_of bindings x) p.host way s.way) ∙ dir in
        open_stays set x p.host s.way lasts (above (sym kind ∙ dir_before)) (s.above dir_before);
  }

  entry_still : (h : Text) (dir : ℕ) (name : List ℕ) → KeepsWay lost t h → IsEntryAt before h (Node dir) name → IsEntryAt after h (Node dir) name
  entry_still h dir name still e =
      let above : KeepsWay lost t (name ∷ e.up) = subst (KeepsWay lost t) e.text still in
      record { up = e.up; text = e.text; way = way_stays user lost t u living later old new stays shown e.up (Node dir) above.1 tt e.way }

  as_still : IsSettled before → (x : Use) (guest : Text) → HostStays lost x.place.host → KeepsGuest lost before x guest → StandsAs before x guest → StandsAs after x guest
  as_still set x guest lasts keeps s =
      let on = s.on.stands in
      record {
        on = record {
          stands = stands_still set x.place guest x.is_directory keeps.way keeps.above lasts s.kind on;
          firm = link_stays user lost t u living later old new stays shown (host_of bindings guest) x.place.host keeps.way on.way ∙ s.on.firm;
        };
        kind = directory_stays user lost t u living later old new stays shown (host_of bindings guest) x.place.host keeps.way on.way ∙ s.kind;
        entry = λ file. entry_still (host_of bindings guest) x.dir x.name keeps.way (s.entry file);
      }

  pub use_still : IsSettled before → (x : Use) → KeepsUse lost before x → UseStands before x → UseStands after x
  use_still set x keeps stood = record {
    called = λ called. let at = stood.called called in (at.0, as_still set x at.0 (keeps.host called) (keeps.guest called at.0 at.1) at.1);
    nameless = stood.nameless;
  }

  -- ---- the table

  pub settled_still : KeepsTable lost before → StandsIn u table → IsSettled before → IsSettled after
  settled_still keeps stand set = record {
    sound = new.sound;
    inodes = new.inodes;
    mounts = stand;
    sources = λ k r there. reached_stays user lost t u living later old new stays shown r.text.source r.source (keeps.sources k r there) (set.sources k r there);
    entries = λ k r there file.
        let s = set.entries k r there file in
        let way : KeepsWay lost t (r.source_name ∷ s.up) = subst (KeepsWay lost t) s.text (keeps.sources k r there) in
        record { up = s.up; text = s.text; way = reached_stays user lost t u living later old new stays shown s.up r.source_dir way.1 s.way };
    points = λ k r p there at.
        let s = set.points k r p there at in
        record {
          up = s.up;
          location = s.location;
          mount = s.mount;
          dir = name_stays user lost t u living later old new stays shown (host_of bindings s.up) p.dir (keeps.points k r p.name s.up there s.location) s.dir;
          text = s.text;
        };
  }

  pub sources_still : KeepsTable lost before → AreSourcesNamed table t → AreSourcesNamed table u
  sources_still keeps named_ k r name up there text =
      let n = named_ k r name up there text in
      let way : KeepsWay lost t (name ∷ up) = subst (KeepsWay lost t) text (keeps.sources k r there) in
      (n.0, name_stays user lost t u living later old new stays shown up r.source_dir (names_of_way lost t up way.1) n.1)

-- ---- of states

pids_shown : {X : Type 0} (shown : Process ℕ X → Living) → ((p : Process ℕ X) → (shown p).pid ≡ p.pid) → (ps : List (Process ℕ X)) → map (λ (l : Living). l.pid) (map shown ps) ≡ map (λ (p : Process ℕ X). p.pid) ps
pids_shown shown same [] = refl
pids_shown shown same (p ∷ ps) = ap (λ n. n ∷ map (λ (l : Living). l.pid) (map shown ps)) (same p) ∙ ap (λ ns. p.pid ∷ ns) (pids_shown shown same ps)

module _ (lost : Losses) (table : List Row) (one s : State ℕ Image) (stand : PlacesStand table one) (lawful : IsLawful (λ m. m) table s) (P : Use → Type 0) (follows : Follows lost P one s) where
  shown_stay : PidsStay lost (shown_pids (living_of one)) (shown_pids (living_of s))
  shown_stay =
      let a = subst (λ ns. PidsStay lost ns (pids_of s)) (sym (pids_shown _ (λ p. refl) one.living)) follows.pids in
      subst (λ ns. PidsStay lost (shown_pids (living_of one)) ns) (sym (pids_shown _ (λ p. refl) s.living)) a

  -- the later state with the user of the first
  abbrev later_space : Namespace
  later_space = record { table = table; tree = s.tree; user = one.user; finds = (space_of table s).finds }

  same_space : later_space ≡ space_of table s
  same_space = ap (λ user. record { table = table; tree = s.tree; user = user; finds = (space_of table s).finds }) (sym follows.user)

  pub use_stays : (x : Use) → StoodAndStays lost table one x → UseStands (space_of table s) x
  use_stays x stood =
      subst (λ space. UseStands space x) same_space
      (use_still one.user lost one.tree s.tree (living_of one) (living_of s) (whole one.tree stand.lawful.tree) (whole s.tree lawful.tree) follows.inodes shown_stay table stand.settled x stood.keeps stood.stood)

  pub settled_stays : KeepsTable lost (space_of table one) → IsSettled (space_of table s)
  settled_stays keeps =
      subst IsSettled same_space
      (settled_still one.user lost one.tree s.tree (living_of one) (living_of s) (whole one.tree stand.lawful.tree) (whole s.tree lawful.tree) follows.inodes shown_stay table keeps lawful.mounts stand.settled)

  pub sources_stay : KeepsTable lost (space_of table one) → AreSourcesNamed table s.tree
  sources_stay keeps = sources_still one.user lost one.tree s.tree (living_of one) (living_of s) (whole one.tree stand.lawful.tree) (whole s.tree lawful.tree) follows.inodes shown_stay table keeps stand.sources

  each_use : (x : Use) → IsUse s x → P x
  each_use _ (is_cwd pid p at) = follows.cwds pid p at
  each_use _ (is_exe pid p at) = follows.exes pid p at
  each_use _ (is_open number o p at there) = follows.opens number o p at there

pub what_stood_stands : WhatStoodStands
what_stood_stands lost table one s x stand lawful follows stood = use_stays lost table one s stand lawful (λ x. Unit {0}) follows x stood

pub places_follow : PlacesFollow
places_follow lost table one s stand keeps lawful follows = record {
  lawful = lawful;
  settled = settled_stays lost table one s stand lawful (StoodAndStays lost table one) follows keeps;
  sources = sources_stay lost table one s stand lawful (StoodAndStays lost table one) follows keeps;
  uses = λ x is. use_stays lost table one s stand lawful (StoodAndStays lost table one) follows x (each_use lost table one s stand lawful (StoodAndStays lost table one) follows x is);
}
