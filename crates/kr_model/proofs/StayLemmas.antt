-- What has a name stays, whatever holds come and go.
use Rattle.std.specs.FinMap as map
use Rattle.std.proofs.Common.{◌≡◌, ℕ, zero, suc, ◌+◌, ◌-◌, ◌<◌, Bool, true, false, ◌&&◌, nat_eq, List, refl, ap, ◌∙◌, arith, cond, Option, Some, None}
use Rattle.std.specs.Option.{option_map, option_map_or, option_and_then}
use Rattle.std.proofs.lemmas.Bool.Decides.{nat_tests}
use Rattle.kr_calls.proofs.pr_base.MapLemmas.{by_key, get-changed_same, get-changed_other}
use Rattle.kr_files.specs.kr_tree.Tree.{Tree, Inode, Inodes, Node}
use Rattle.kr_files.specs.kr_tree.Changes as tree
use Rattle.kr_files.proofs.kr_tree.InodesLemmas.{get-unused_other}
use Rattle.kr_files.specs.kr_tree.declared.place.Host.{Host}
use Rattle.kr_files.specs.kr_tree.declared.place.Place.{Place}
use Rattle.kr_files.specs.declared.opened.Opened.{Opened}
use Rattle.kr_files.specs.Descriptors.{Meanings, Named}
use Rattle.kr_files.specs.Files.{Table}
use Rattle.kr_model.specs.State.{Process, State, inode_of, process, named, place_of}
use Rattle.kr_model.specs.Change.{Birth}
use Rattle.kr_model.specs.Applied.{Computing, held_at, released_at, held_for, open_in, let_go, close_named, close, copy_named, copy_over, cwd_of, exe_of, moved_to, forked_from, close_below, gone, end, executed, is_closed_on_exec, close_on_exec_below}

-- what has a name is still there, with as many names, and f says the same of its node
pub record Stay {A : Type 0} (f : Node → A) (m n : Inodes) : Type 0 where
  pub each : (i : ℕ) (x : Inode) → map.get m i ≡ Some x → 0 < x.names → (y : Inode) × (map.get n i ≡ Some y) × (f y.node ≡ f x.node) × (y.names ≡ x.names)

module _ {A : Type 0} (f : Node → A) where
  pub stay : (m : Inodes) → Stay f m m
  stay m = record { each = λ i x e l. (x, e, refl, refl) }

  pub stay_on : {l m n : Inodes} → Stay f l m → Stay f m n → Stay f l n
  stay_on first second = record {
    each = λ i x e some.
        let one = first.each i x e some in
        let two = second.each i one.0 one.1 (let same = one.3 in omega arith) in
        (two.0, two.1, two.2 ∙ one.2, two.3 ∙ one.3);
  }

  -- an inode changed in what f doesn't tell
  pub stay_with : (k : ℕ) (g : Inode → Inode) → ((x : Inode) → f (g x).node ≡ f x.node) → ((x : Inode) → (g x).names ≡ x.names) → (m : Inodes) → Stay f m (tree.with_inode k g m)
  stay_with k g nodes names m = record {
    each = by_key (λ i. (x : Inode) → map.get m i ≡ Some x → 0 < x.names → (y : Inode) × (map.get (tree.with_inode k g m) i ≡ Some y) × (f y.node ≡ f x.node) × (y.names ≡ x.names)) k
        (λ x e l. (g x, get-changed_same m k g ∙ ap (option_map g) e, nodes x, names x))
        (λ q d x e l. (x, get-changed_other m k g q d ∙ e, refl, refl));
  }

  -- what is dropped has no name
  pub stay_dropped : (k : ℕ) (m : Inodes) → Stay f m (tree.without_unused k m)
  stay_dropped k m = record {
    each = by_key (λ i. (x : Inode) → map.get m i ≡ Some x → 0 < x.names → (y : Inode) × (map.get (tree.without_unused k m) i ≡ Some y) × (f y.node ≡ f x.node) × (y.names ≡ x.names)) k
        (λ x e l.
        let some : nat_eq x.names 0 ≡ false = grind (arith, nat_tests) in (
          x,
          ap (λ o. map.get (cond (option_map_or tree.is_unused o false) (map.remove m k) m) k) e
              ∙ ap (λ b. map.get (cond (b && nat_eq x.holds 0) (map.remove m k) m) k) some ∙ e,
          refl,
          refl,
        ))
        (λ q d x e l. (x, get-unused_other m k q d ∙ e, refl, refl));
  }

  stay_held : (i : ℕ) (t : Tree) → Stay f t.inodes (tree.held i t).inodes
  stay_held i t = stay_with i (tree.with_holds (λ n. n + 1)) (λ x. refl) (λ x. refl) t.inodes

  stay_released : (i : ℕ) (t : Tree) → Stay f t.inodes (tree.released i t).inodes
  stay_released i t =
      stay_on (stay_with i (tree.with_holds (λ n. n - 1)) (λ x. refl) (λ x. refl) t.inodes) (stay_dropped i (tree.with_inode i (tree.with_holds (λ n. n - 1)) t.inodes))

  module _ {M : Type 0} where
    stay_held_at : (o : Option (Place M)) (t : Tree) → Stay f t.inodes (held_at o t).inodes
    stay_held_at None t = stay t.inodes
    stay_held_at (Some p) t = stay_held (inode_of p.host) t

    stay_released_at : (o : Option (Place M)) (t : Tree) → Stay f t.inodes (released_at o t).inodes
    stay_released_at None t = stay t.inodes
    stay_released_at (Some p) t = stay_released (inode_of p.host) t

    stay_held_for : (d : Meanings) (files : Table M) (count : ℕ) (t : Tree) → Stay f t.inodes (held_for d files count t).inodes
    unfolding held_for
    stay_held_for d files zero t = stay t.inodes
    stay_held_for d files (suc fd) t =
        stay_on (stay_held_for d files fd t) (stay_held_at (option_and_then (λ x. place_of files x.number) (map.get d fd)) (held_for d files fd t))

  module _ {M X : Type 0} where
    abbrev pub StayIn : State M X → State M X → Type 0
    StayIn s t = Stay f s.tree.inodes t.tree.inodes

    pub stay_open : (pid fd : ℕ) (cloexec : Bool) (o : Opened (Unit {0})) (m : M) (s : State M X) → StayIn s (open_in pid fd cloexec o m s)
    stay_open pid fd cloexec o m s = stay_held_at o.place s.tree

    stay_let_go : (number : ℕ) (s : State M X) → StayIn s (let_go number s)
    stay_let_go number s = stay_released_at (place_of s.files number) s.tree

    pub stay_close : (pid fd : ℕ) (s : State M X) → StayIn s (close pid fd s)
    unfolding close
    stay_close pid fd s = by_name (named pid fd s)
      where
        by_name : (o : Option Named) → StayIn s (option_map_or (λ x. close_named pid fd x s) o s)
        by_name None = stay s.tree.inodes
        by_name (Some x) = stay_released_at (place_of s.files x.number) s.tree

    stay_copy : (pid to : ℕ) (cloexec : Bool) (x : Named) (s : State M X) → StayIn s (copy_named pid to cloexec x s)
    stay_copy pid to cloexec x s = stay_held_at (place_of s.files x.number) s.tree

    pub stay_copy_over : (pid to : ℕ) (cloexec : Bool) (x : Named) (y : Option Named) (s : State M X) → StayIn s (copy_over pid to cloexec x y s)
    stay_copy_over pid to cloexec x None s = stay_held_at (place_of s.files x.number) s.tree
    stay_copy_over pid to cloexec x (Some y) s =
        let copied : State M X = copy_named pid to cloexec x s in
        stay_on (stay_held_at (place_of s.files x.number) s.tree) (stay_released_at (place_of copied.files y.number) copied.tree)

    pub stay_moved : (pid : ℕ) (host : Host) (m : M) (s : State M X) → StayIn s (moved_to pid host m s)
    stay_moved pid host m s = stay_on (stay_held (inode_of host) s.tree) (stay_released_at (cwd_of pid s) (tree.held (inode_of host) s.tree))

    pub stay_executed : (pid : ℕ) (host : Host) (dir : ℕ) (name : List ℕ) (m : M) (s : State M X) → StayIn s (executed pid host dir name m s)
    stay_executed pid host dir name m s = stay_on (stay_held (inode_of host) s.tree) (stay_released_at (exe_of pid s) (tree.held (inode_of host) s.tree))

    pub stay_forked : (computing : Computing X) (b : Birth) (p : Process M X) (s : State M X) → StayIn s (forked_from computing b p s)
    stay_forked computing b p s =
        let t : Tree = held_for p.descs s.files 1024 s.tree in
        stay_on (stay_held_for p.descs s.files 1024 s.tree) (stay_on (stay_held_at (Some p.cwd) t) (stay_held_at (Some p.exe) (held_at (Some p.cwd) t)))

    stay_close_below : (pid count : ℕ) (s : State M X) → StayIn s (close_below pid count s)
    unfolding close_below
    stay_close_below pid zero s = stay s.tree.inodes
    stay_close_below pid (suc fd) s = stay_on (stay_close_below pid fd s) (stay_close pid fd (close_below pid fd s))

    pub stay_close_on_exec : (pid count : ℕ) (s : State M X) → StayIn s (close_on_exec_below pid count s)
    unfolding close_on_exec_below
    stay_close_on_exec pid zero s = stay s.tree.inodes
    stay_close_on_exec pid (suc fd) s =
        let before : State M X = close_on_exec_below pid fd s in
        stay_on (stay_close_on_exec pid fd s) (by_flag before (is_closed_on_exec pid fd before))
      where
        by_flag : (before : State M X) (b : Bool) → Stay f before.tree.inodes (cond b (close pid fd before) before).tree.inodes
        by_flag before true = stay_close pid fd before
        by_flag before false = stay before.tree.inodes

    pub stay_end : (pid status : ℕ) (s : State M X) → StayIn s (end pid status s)
    stay_end pid status s =
        let closed : State M X = close_below pid 1024 s in
        stay_on (stay_close_below pid 1024 s) (by_process closed (process pid closed))
      where
        by_process : (k : State M X) (o : Option (Process M X)) → Stay f k.tree.inodes (option_map_or (λ p. gone pid status p k) o k).tree.inodes
        by_process k None = stay k.tree.inodes
        by_process k (Some p) = stay_on (stay_released_at (Some p.cwd) k.tree) (stay_released_at (Some p.exe) (released_at (Some p.cwd) k.tree))
