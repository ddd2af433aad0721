-- What peeks at host texts tell, where these are reached, and where a name isn't there.
use Rattle.std.proofs.Common.{◌≡◌, ℕ, Bool, true, false, List, [], ◌∷◌, ◌++◌, Option, Some, None, Ok, Err, refl, sym, ap, ◌∙◌, arith, append-nil, inl, inr}
use Rattle.std.specs.Bool.{if◌then◌else◌}
use Rattle.std.specs.Option.{option_map}
use Rattle.std.proofs.lemmas.Bool.Decides.{nat_tests}
use Rattle.pt_canon.specs.pr_base.Paths.{IsPart, below_root, slash, text_of}
use Rattle.pt_canon.specs.pr_base.Texts.{Text}
use Rattle.pt_canon.specs.pr_base.WalkFrame.{Missing, Leads}
use Rattle.pt_canon.specs.pr_base.declared.errno.Errno.TheVariants.{EACCES, ENAMETOOLONG, ENOENT, ENOTDIR}
use Rattle.pt_canon.specs.pr_base.declared.path.Last.TheVariants as last
use Rattle.pt_canon.specs.pr_base.declared.path.WalkMode.TheVariants.{LookLink}
use Rattle.pt_canon.specs.pr_base.declared.peeks.PeekKind.TheVariants as kind
use Rattle.pt_canon.specs.TextWalk.{itself_in}
use Rattle.kr_mounts.specs.kr_tree.declared.place.Host.{Host}
use Rattle.kr_mounts.specs.kr_tree.declared.place.Host.TheVariants.{Node, Proc}
use Rattle.kr_mounts.specs.kr_tree.declared.place.ProcAt.{ProcAt}
use Rattle.kr_mounts.specs.kr_tree.Tree.{Tree, body_is, entry}
use Rattle.kr_mounts.specs.kr_view.Component.{Namespace, SeenPlace, Surroundings, in_node, is_directory_at, is_processes, may_search, seen_at, seen_entry, seen_in_processes, too_long}
use Rattle.kr_mounts.specs.kr_view.HostReach.{host_place, is_link_at, object_in}
use Rattle.kr_mounts.specs.kr_view.ReachLaws.{EndsAtName, IsReachedBy}
use Rattle.kr_mounts.specs.kr_view.View.{plain, root_place}
use Rattle.kr_mounts.proofs.kr_view.ArrivalLemmas.{directories_are_searched, directory_firm, entries_are_found, led_to, text_found}
use Rattle.kr_mounts.proofs.kr_view.HostReachLemmas.{object_name, reached_names, reached_there}
use Rattle.law_walks.specs.Peeks.{at_found, kind_along, kind_of_answer, kind_seen, text_along, text_of_answer, text_seen}
use Rattle.law_walks.specs.Scene.{IsMatched, Scene, host_around, space_of}
use Rattle.law_walks.specs.Standing.{place_in, reached_in}

-- ---- what stands at an object that may be missing

abbrev pub seen_object : Surroundings → ℕ → Option Host → SeenPlace
seen_object around m (Some x) = seen_at around (place_in m x) x
seen_object around m None = Missing

-- a name in an inode, where no mount stands at it, and in the process directory
pub in_node_is : (around : Surroundings) (m i : ℕ) (name : List ℕ) → in_node around m i name ≡ seen_object around m (object_in around.space.tree around.space.finds name (Node i))
in_node_is around m i name = by (body_is is_processes around.space.tree i) (around.space.finds None name) (entry around.space.tree i name)
  where
    by : (b : Bool) (o : Option ProcAt) (e : Option ℕ) → (if b then seen_in_processes around m i o else seen_entry around m e) ≡ seen_object around m (if b then option_map (λ at. Proc i at) o else option_map (λ j. Node j) e)
    by true None e = refl
    by true (Some at) e = refl
    by false o None = refl
    by false o (Some j) = refl

pub in_process_is : (around : Surroundings) (m i : ℕ) (at : ProcAt) (name : List ℕ) → seen_in_processes around m i (around.space.finds (Some at) name) ≡ seen_object around m (object_in around.space.tree around.space.finds name (Proc i at))
in_process_is around m i at name = by (around.space.finds (Some at) name)
  where
    by : (o : Option ProcAt) → seen_in_processes around m i o ≡ seen_object around m (option_map (λ found. Proc i found) o)
    by None = refl
    by (Some found) = refl

module _ (scene : Scene) (m : IsMatched scene) where
  abbrev space : Namespace
  space = space_of scene

  abbrev tree : Tree
  tree = space.tree

  abbrev host : Surroundings
  host = host_around scene

  abbrev reach : Text → Option Host
  reach h = reached_in space h

  pub reached_by : (h : Text) (x : Host) → reach h ≡ Some x → IsReachedBy host h x
  reached_by h x way = record {
    over_plain = refl;
    names = reached_names tree space.user space.finds scene.around.leads h x m.settled.sound m.processes way;
    way = way;
    there = reached_there tree space.user space.finds h x m.settled.sound m.settled.inodes way;
  }

  -- an object of a directory has a short name
  pub object_short : (dir x : Host) (name : List ℕ) → object_in tree space.finds name dir ≡ Some x → too_long name ≡ false
  object_short dir x name is =
      let most = (object_name tree space.finds scene.around.leads m.settled.sound m.processes name dir x is).short in grind (arith, nat_tests)

  -- ---- what is reached

  found_along : (h : Text) (x : Host) → reach h ≡ Some x → (kind_along host (text_of h) ≡ kind_seen (seen_at host (host_place x) x)) × (text_along host (text_of h) ≡ text_seen (seen_at host (host_place x) x))
  found_along h x way =
      let f = text_found host LookLink (root_place plain) h x false (reached_by h x way) (λ e. absurd cc) (λ e. absurd cc) in
      (ap (kind_of_answer host) f.1 ∙ ap (at_found host (Err ENOENT) kind_seen) f.2, ap (text_of_answer host) f.1 ∙ ap (at_found host None text_seen) f.2)

  pub kind_reached : (h : Text) (x : Host) → reach h ≡ Some x → scene.peeked.kind (text_of h) ≡ kind_seen (seen_at host (host_place x) x)
  kind_reached h x way = m.peeks.kind (text_of h) ∙ (found_along h x way).0

  pub text_reached : (h : Text) (x : Host) (text : List ℕ) → reach h ≡ Some x → text_seen (seen_at host (host_place x) x) ≡ Some text → scene.peeked.link_text (text_of h) ≡ Ok text
  text_reached h x text way is = m.peeks.link_text (text_of h) text ((found_along h x way).1 ∙ is)

  -- of no link it tells whether it is a directory
  pub kind_firm : (h : Text) (x : Host) → reach h ≡ Some x → is_link_at tree x ≡ false → scene.peeked.kind (text_of h) ≡ Ok (if is_directory_at tree x then kind.Dir else kind.File)
  kind_firm h x way firm = kind_reached h x way ∙ ap kind_seen (led_to host (host_place x) x (reached_by h x way).there firm) ∙ by (is_directory_at tree x)
    where
      by : (b : Bool) → kind_seen (Leads b (host_place x) (host_place x)) ≡ Ok (if b then kind.Dir else kind.File)
      by true = refl
      by false = refl

  -- whether a directory may be searched
  pub kind_itself : (h : Text) (x : Host) → reach h ≡ Some x → is_directory_at tree x ≡ true → scene.peeked.kind (itself_in h) ≡ (if may_search tree space.user x then Ok kind.Dir else Err EACCES)
  kind_itself h x way dir =
      let firm = directory_firm tree x dir in
      m.peeks.kind (itself_in h)
      ∙ ap (kind_of_answer host) (directories_are_searched host LookLink (root_place plain) h x (itself_in h) (reached_by h x way) firm (inr refl))
      ∙ ap (λ b. kind_of_answer host (if b then (if may_search tree space.user x then Ok (record { dir = host_place x; name = []; last = last.Dot; slash = false; found = Some (host_place x); jumped = false }) else Err EACCES) else Err ENOTDIR)) dir
      ∙ by (may_search tree space.user x)
    where
      by : (b : Bool) → kind_of_answer host (if b then Ok (record { dir = host_place x; name = []; last = last.Dot; slash = false; found = Some (host_place x); jumped = false }) else Err EACCES) ≡ (if b then Ok kind.Dir else Err EACCES)
      by true = ap kind_seen (led_to host (host_place x) x (reached_by h x way).there (directory_firm tree x dir)) ∙ ap (λ b. kind_seen (Leads b (host_place x) (host_place x))) dir
      by false = refl

  -- ---- a name that isn't there

  ends : (h : Text) (dir : Host) (name : List ℕ) → reach h ≡ Some dir → is_directory_at tree dir ≡ true → IsPart name → EndsAtName host dir name false (text_of (name ∷ h))
  ends h dir name way is_dir part = entries_are_found host h dir name false (text_of (name ∷ h)) (reached_by h dir way) is_dir part (inl (ap (λ n. below_root h ++ slash ∷ n) (sym (append-nil name))))

  pub kind_missing : (h : Text) (dir : Host) (name : List ℕ) → reach h ≡ Some dir → is_directory_at tree dir ≡ true → may_search tree space.user dir ≡ true → IsPart name → object_in tree space.finds name dir ≡ None
      → scene.peeked.kind (text_of (name ∷ h)) ≡ Err (if too_long name then ENAMETOOLONG else ENOENT)
  kind_missing h dir name way is_dir search part none = m.peeks.kind (text_of (name ∷ h)) ∙ by (too_long name) refl
    where
      by : (b : Bool) → too_long name ≡ b → kind_along host (text_of (name ∷ h)) ≡ Err (if b then ENAMETOOLONG else ENOENT)
      by true long = ap (kind_of_answer host) ((ends h dir name way is_dir part).long LookLink (root_place plain) search long)
      by false short = ap (kind_of_answer host) ((ends h dir name way is_dir part).free LookLink (root_place plain) (record { search = search; short = short }) none)
