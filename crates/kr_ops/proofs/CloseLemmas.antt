-- A descriptor that the code closes is closed in what its state means.
use Rattle.std.specs.FinMap as map
use Rattle.std.proofs.Common.{◌≡◌, ℕ, ◌<◌, List, length, get_or, refl, sym, ap, ◌∙◌, Option, Some, None, true, false}
use Rattle.std.specs.Prelude.{IfSome, map as map_list, slice_set, IsSome}
use Rattle.std.specs.Option.{option_map, option_map_or, option_and_then, is_some}
use Rattle.std.proofs.lemmas.List.{get_or_default}
use Rattle.law_lawful.specs.kr_tree.Holds.{holds_at}
use Rattle.law_lawful.specs.kr_tree.Tree.{Tree}
use Rattle.law_lawful.specs.kr_tree.declared.place.Place.{Place}
use Rattle.law_lawful.specs.kr_files.declared.descs.Descriptor.{Descriptor}
use Rattle.law_lawful.specs.kr_files.declared.opened.Opened.{Opened}
use Rattle.law_lawful.specs.kr_files.Descriptors.{Descriptors, Meanings, Named, cloexec_of}
use Rattle.law_lawful.specs.kr_files.Files.{Kept, Table, by_descriptor, released, closed, opened_at, file_at}
use Rattle.law_lawful.proofs.pr_base.MapLemmas.{mapped-remove}
use Rattle.law_lawful.specs.kr_model.State as model
use Rattle.law_lawful.specs.kr_model.State.{inode_of, place_of}
use Rattle.law_lawful.specs.kr_model.Applied.{released_at, close, close_named}
use Rattle.kr_ops.specs.declared.state.State.{State}
use Rattle.kr_ops.specs.declared.state.Process.{Process}
use Rattle.kr_ops.specs.Living.{HasPid}
use Rattle.kr_ops.specs.Meaning.{meaning, process_meaning}
use Rattle.kr_ops.specs.Sound.{IsSound}
use Rattle.kr_ops.proofs.ChangeLemmas.{to_named, named-at, shut}
use Rattle.kr_ops.proofs.ListLemmas.{apart, stored, has-number}
use Rattle.kr_ops.proofs.UseLemmas.{open-held}

pub some-open : (d : Descriptors) (fd : ℕ) → is_some (cloexec_of d fd) ≡ true → IsSome (map.get d fd)
some-open d fd e = by (map.get d fd) e
  where
    by : (o : Option Descriptor) → is_some (option_map (λ (x : Descriptor). x.cloexec) o) ≡ true → IsSome o
    by None e = absurd cc
    by (Some x) e = refl

module _ {T : Type 0} where
  -- the place of what a descriptor leads to
  abbrev pub place_at : Kept T → Descriptors → ℕ → Option (Place T)
  place_at f d fd = option_and_then (λ (o : Opened T). o.place) (opened_at f d fd)

  pub place-of : (f : Kept T) (d : Descriptors) (fd : ℕ) (x : Descriptor) → map.get d fd ≡ Some x → place_at f d fd ≡ place_of f.table x.number
  place-of f d fd x is = ap (λ (o : Option Descriptor). option_and_then (λ (o : Opened T). o.place) (option_and_then (λ (x : Descriptor). file_at f.table x.number) o)) is

  pub close-none : (s : model.State T model.Image) (pid fd : ℕ) → model.named pid fd s ≡ None → s ≡ close pid fd s
  unfolding close
  close-none s pid fd none = sym (ap (λ o. option_map_or (λ x. close_named pid fd x s) o s) none)

  pub close-some : (s : model.State T model.Image) (pid fd : ℕ) (x : Named) → model.named pid fd s ≡ Some x → close_named pid fd x s ≡ close pid fd s
  unfolding close
  close-some s pid fd x some = sym (ap (λ o. option_map_or (λ x. close_named pid fd x s) o s) some)

module _ {T : Type 0} {M : ℕ} where
  abbrev pub with_descriptors : Process T M → Descriptors → Process T M
  with_descriptors p d = record {
    pid = p.pid;
    parent = p.parent;
    regs = p.regs;
    mem = p.mem;
    brk_start = p.brk_start;
    brk = p.brk;
    descs = d;
    cwd = p.cwd;
    exe = p.exe;
    exe_dir = p.exe_dir;
    exe_name = p.exe_name;
    umask = p.umask;
    waits = p.waits;
  }

  -- what a state means with another tree, other open files and other living processes
  abbrev pub outcome : State T M → Tree → Table T → List (Process T M) → model.State T model.Image
  outcome s tree files living = record {
    tree = tree;
    user = (meaning s).user;
    files = files;
    input = (meaning s).input;
    taken = (meaning s).taken;
    out = (meaning s).out;
    err = (meaning s).err;
    living = map_list process_meaning living;
    ended = (meaning s).ended;
    next_pid = (meaning s).next_pid;
  }

  pub same-at : (ps : List (Process T M)) (k : ℕ) (p q : Process T M) → k < length ps → p ≡ get_or ps k p → q ≡ get_or ps k q → p ≡ q
  same-at ps k p q l e f = e ∙ get_or_default ps k p q l ∙ sym f

  -- what stands at the place of an open descriptor is held
  pub held-there : (s : State T M) → IsSound s → (d : Descriptors) (fd : ℕ) (o : Option (Place T)) → o ≡ place_at s.files d fd → IfSome o (λ p. 0 < holds_at s.tree (inode_of p.host))
  held-there s sound d fd None e = tt
  held-there s sound d fd (Some place) e = by (map.get d fd) e
    where
      by : (x : Option Descriptor) → Some place ≡ option_and_then (λ (o : Opened T). o.place) (option_and_then (λ (x : Descriptor). file_at s.files.table x.number) x) → 0 < holds_at s.tree (inode_of place.host)
      by None e = absurd cc
      by (Some x) e = open-held s sound x.number place (sym e)

  -- nothing is open there
  pub shut-means : (s : State T M) (pid k fd : ℕ) (p : Process T M) → IsSound s → HasPid pid k s.living.items → p ≡ get_or s.living.items k p → is_some (cloexec_of p.descs fd) ≡ false → model.named pid fd (meaning s) ≡ None
  shut-means s pid k fd p sound h e none = named-at s pid k fd p sound.pids h e ∙ ap (option_map to_named) (shut p.descs fd none)

  module _ (s : State T M) (pid k fd : ℕ) (p : Process T M) (sound : IsSound s) (h : HasPid pid k s.living.items) (e : p ≡ get_or s.living.items k p) where
    closed-named : (x : Descriptor) (tree : Tree) (files : Kept T) (d : Descriptors) → map.get p.descs fd ≡ Some x
        → tree ≡ released_at (place_of s.files.table x.number) s.tree
        → files ≡ by_descriptor p.descs fd released s.files
        → d ≡ map.remove p.descs fd
        → outcome s tree files.table (slice_set s.living.items k (with_descriptors p d)) ≡ close pid fd (meaning s)
    closed-named x tree files d is trees tables descs =
        let n : Named = to_named x in
        let named : model.named pid fd (meaning s) ≡ Some n = named-at s pid k fd p sound.pids h e ∙ ap (option_map to_named) is in
        let table : files.table ≡ closed x.number s.files.table = ap (λ (f : Kept T). f.table) (tables ∙ ap (λ o. option_map_or (λ x. released x s.files) o s.files) is) in
        let remove : Meanings → Meanings = λ d. map.remove d fd in
        let meant : process_meaning (with_descriptors p d) ≡ model.with_descs remove (process_meaning p) =
        ap (λ d. process_meaning (with_descriptors p d)) descs ∙ ap (λ m. model.with_descs (λ _. m) (process_meaning p)) (mapped-remove (λ n x. to_named x) p.descs fd) in
        let lists = stored pid (model.with_descs remove) s.living.items k p (with_descriptors p d) (apart s sound.pids) h.within e (has-number pid k s.living.items h p e) meant in
        let all : outcome s tree files.table (slice_set s.living.items k (with_descriptors p d)) ≡ close_named pid fd n (meaning s) = λ j. record {
          tree = trees j;
          user = (meaning s).user;
          files = table j;
          input = (meaning s).input;
          taken = (meaning s).taken;
          out = (meaning s).out;
          err = (meaning s).err;
          living = lists j;
          ended = (meaning s).ended;
          next_pid = (meaning s).next_pid;
        } in
        all ∙ close-some (meaning s) pid fd n named

    pub closed-means : (place : Option (Place T)) (tree : Tree) (files : Kept T) (d : Descriptors) → IsSome (map.get p.descs fd)
        → place ≡ place_at s.files p.descs fd
        → tree ≡ released_at place s.tree
        → files ≡ by_descriptor p.descs fd released s.files
        → d ≡ map.remove p.descs fd
        → outcome s tree files.table (slice_set s.living.items k (with_descriptors p d)) ≡ close pid fd (meaning s)
    closed-means place tree files d some places trees tables descs = by (map.get p.descs fd) refl some
      where
        by : (o : Option Descriptor) → map.get p.descs fd ≡ o → IsSome o → outcome s tree files.table (slice_set s.living.items k (with_descriptors p d)) ≡ close pid fd (meaning s)
        by None is none = absurd cc
        by (Some x) is there =
            let at : place ≡ place_of s.files.table x.number = places ∙ place-of s.files p.descs fd x is in
            closed-named x tree files d is (trees ∙ ap (λ o. released_at o s.tree) at) tables descs
