-- What settled bindings, trees without processes and living processes meet.
use Rattle.std.proofs.Common.{◌≡◌, ℕ, Bool, true, false, List, [], ◌∷◌, Option, Some, None, bytes_eq, refl, sym, ap, subst, ◌∙◌}
use Rattle.std.specs.Prelude.{codes}
use Rattle.std.specs.Bool.{if◌then◌else◌}
use Rattle.std.specs.Option.{option_map}
use Rattle.pt_canon.specs.pr_base.Texts.{Text}
use Rattle.pt_canon.specs.declared.link.ProcessLink.{ProcessLink}
use Rattle.pt_canon.specs.declared.link.ProcessLink.TheVariants as process_link
use Rattle.kr_mounts.specs.kr_tree.declared.place.Host.{Host}
use Rattle.kr_mounts.specs.kr_tree.declared.place.Host.TheVariants.{Proc}
use Rattle.kr_mounts.specs.kr_tree.declared.place.ProcAt.{ProcAt}
use Rattle.kr_mounts.specs.kr_tree.declared.place.ProcAt.TheVariants.{SelfLink, Dir, Cwd, Root, Exe, FdDir, Fd}
use Rattle.kr_mounts.proofs.kr_tree.CountLemmas.{there}
use Rattle.kr_mounts.proofs.kr_tree.NameLemmas.{map_some, some_is, then_some}
use Rattle.kr_mounts.specs.kr_view.Component.{Finds, Namespace}
use Rattle.kr_mounts.specs.kr_view.Living.{Each, HasSmallNumbers as IsSmallProcess, IsSmall, Living, finds_among, first, in_directory, names_number, process}
use Rattle.kr_mounts.specs.kr_view.Processes.{no_finds}
use Rattle.kr_mounts.proofs.kr_view.HostReachLemmas.{IsFoundIn, at_top, below_top, found_in, last_object}
use Rattle.kr_mounts.proofs.kr_view.ProcessLemmas.{no_processes}
use Rattle.kr_model.proofs.ToldLemmas.{first_each, small_process}
use Rattle.kr_mounts.specs.MountTable.{settling}
use Rattle.kr_mounts.proofs.BeforeLemmas.{grown_trees_have_all_before}
use Rattle.kr_mounts.proofs.GrowthLemmas.{settling_makes_names_alone}
use Rattle.kr_mounts.proofs.LeadLemmas.{settled_mounts_stand}
use Rattle.law_walks.specs.Scene.{HasSmallNumbers, link_of}
use Rattle.law_walks.specs.Standing.{reached_in}
use Rattle.law_walks.specs.Start.{FirstScenesAreMatched, HostViewsAreSettled, LivingLinksAreSmall, SettledBindingsAreSettled}
use Rattle.law_walks.proofs.PlainLemmas.{plain_settled}

pub settled_bindings_are_settled : SettledBindingsAreSettled
settled_bindings_are_settled t user root binds table finds sound counted numbered is =
    let u = (settling t user root binds).tree in
    let s = settled_mounts_stand t user root binds table sound counted (there t sound counted) numbered is in
    let before = grown_trees_have_all_before user t u sound counted (settling_makes_names_alone t user root binds) in
    record {
      sound = before.sound;
      inodes = there u before.sound before.counted;
      mounts = s.stands;
      sources = λ k r at. (s.sources k r at).way;
      entries = λ k r at file. let e = (s.sources k r at).above file in record { up = e.0; text = e.1; way = e.2 };
      points = λ k r p at stands. let told = s.points k r p at stands in record { up = told.up; location = told.location; mount = told.mount; dir = told.dir; text = told.text };
    }

pub host_views_are_settled : HostViewsAreSettled
host_views_are_settled t user finds sound inodes = plain_settled _ sound inodes refl

-- ---- before a process lives

nothing_reached : (space : Namespace) → space.finds ≡ no_finds → (h : Text) (i : ℕ) (at : ProcAt) → reached_in space h ≡ Some (Proc i at) → ⊥
nothing_reached space none [] i at way = cc
nothing_reached space none (name ∷ h) i at way =
    let s = last_object space.tree space.user space.finds h name (Proc i at) way in
    by s.dir (found_in space.tree space.finds name s.dir i at s.there)
  where
    by : (dir : Host) → IsFoundIn space.tree space.finds name i at dir → ⊥
    by _ (at_top is found) = let clash : None ≡ Some at = sym (ap (λ (f : Finds). f None name) none) ∙ found in cc
    by _ (below_top up found) = let clash : None ≡ Some at = sym (ap (λ (f : Finds). f (Some up) name) none) ∙ found in cc

pub first_scenes_are_matched : FirstScenesAreMatched
first_scenes_are_matched table t user peeked tags set peeks =
    let space : Namespace = record { table = table; tree = t; user = user; finds = no_finds } in
    record {
      settled = set;
      processes = no_processes.lawful;
      host_processes = no_processes.lawful;
      peeks = peeks;
      links = record {
        self = λ host i way. absurd (nothing_reached space refl host i SelfLink way);
        small = λ host i at link way is. absurd (nothing_reached space refl host i at way);
        others = λ host i at link way is. absurd (nothing_reached space refl host i at way);
      };
    }

-- ---- living processes

-- of what stands in the process directory, whatever it is
abbrev IsSmallAt : ProcAt → Type 0
IsSmallAt SelfLink = Unit {0}
IsSmallAt (Dir pid) = IsSmall pid
IsSmallAt (Cwd pid) = IsSmall pid
IsSmallAt (Root pid) = IsSmall pid
IsSmallAt (Exe pid) = IsSmall pid
IsSmallAt (FdDir pid) = IsSmall pid
IsSmallAt (Fd pid fd) = IsSmall pid × IsSmall fd

module _ (living : List Living) (each : Each IsSmallProcess living) where
  in_process : (pid : ℕ) (name : List ℕ) (found : ProcAt) → IsSmall pid → in_directory pid name ≡ Some found → IsSmallAt found
  in_process pid name found small is = one (bytes_eq name (codes "cwd")) (bytes_eq name (codes "root")) (bytes_eq name (codes "exe")) (bytes_eq name (codes "fd")) is
    where
      one : (a b c d : Bool) → (if a then Some (Cwd pid) else if b then Some (Root pid) else if c then Some (Exe pid) else if d then Some (FdDir pid) else None) ≡ Some found → IsSmallAt found
      one true b c d is = subst IsSmallAt (some_is (Cwd pid) found is) small
      one false true c d is = subst IsSmallAt (some_is (Root pid) found is) small
      one false false true d is = subst IsSmallAt (some_is (Exe pid) found is) small
      one false false false true is = subst IsSmallAt (some_is (FdDir pid) found is) small
      one false false false false is = absurd cc

  small_found : (at : Option ProcAt) (name : List ℕ) (found : ProcAt) → finds_among living at name ≡ Some found → IsSmallAt found
  small_found None name found is = by (bytes_eq name (codes "self")) is
    where
      by : (b : Bool) → (if b then Some SelfLink else option_map (λ (l : Living). Dir l.pid) (first (λ (l : Living). names_number name l.pid) living)) ≡ Some found → IsSmallAt found
      by true is = subst IsSmallAt (some_is SelfLink found is) tt
      by false is =
          let l = map_some (λ (l : Living). Dir l.pid) (first (λ (l : Living). names_number name l.pid) living) found is in
          subst IsSmallAt l.2 (first_each IsSmallProcess (λ (l : Living). names_number name l.pid) living l.0 each l.1).0.0
  small_found (Some (Dir pid)) name found is =
      let l = then_some (λ (l : Living). in_directory pid name) (process living pid) found is in
      in_process pid name found (small_process living each pid l.0 l.1).1 l.2
  small_found (Some (FdDir pid)) name found is =
      let l = then_some (λ (l : Living). option_map (Fd pid) (first (names_number name) l.fds)) (process living pid) found is in
      let small = small_process living each pid l.0 l.1 in
      let fd = map_some (Fd pid) (first (names_number name) l.0.fds) found l.2 in
      subst IsSmallAt fd.2 (small.1, (first_each IsSmall (names_number name) l.0.fds fd.0 small.0.1 fd.1).0)
  small_found (Some SelfLink) name found is = absurd cc
  small_found (Some (Cwd pid)) name found is = absurd cc
  small_found (Some (Root pid)) name found is = absurd cc
  small_found (Some (Exe pid)) name found is = absurd cc
  small_found (Some (Fd pid fd)) name found is = absurd cc

small_link : (at : ProcAt) (link : ProcessLink) → link_of at ≡ Some link → IsSmallAt at → HasSmallNumbers link
small_link SelfLink link is small = absurd cc
small_link (Dir pid) link is small = absurd cc
small_link (FdDir pid) link is small = absurd cc
small_link (Cwd pid) link is small = subst HasSmallNumbers (some_is (process_link.Cwd pid) link is) small
small_link (Root pid) link is small = subst HasSmallNumbers (some_is (process_link.Root pid) link is) small
small_link (Exe pid) link is small = subst HasSmallNumbers (some_is (process_link.Exe pid) link is) small
small_link (Fd pid fd) link is small = subst HasSmallNumbers (some_is (process_link.Fd pid fd) link is) small

pub living_links_are_small : LivingLinksAreSmall
living_links_are_small space living [] i at link among each way is = absurd cc
living_links_are_small space living (name ∷ h) i at link among each way is =
    let s = last_object space.tree space.user space.finds h name (Proc i at) way in
    small_link at link is (by s.dir (found_in space.tree space.finds name s.dir i at s.there))
  where
    by : (dir : Host) → IsFoundIn space.tree space.finds name i at dir → IsSmallAt at
    by _ (at_top processes found) = small_found living each None name at (sym (ap (λ (f : Finds). f None name) among) ∙ found)
    by _ (below_top up found) = small_found living each (Some up) name at (sym (ap (λ (f : Finds). f (Some up) name) among) ∙ found)
