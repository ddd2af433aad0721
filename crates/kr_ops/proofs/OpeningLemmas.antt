-- Descriptors that the code makes are made in what its state means.
use Rattle.std.specs.FinMap as map
use Rattle.std.proofs.Common.{◌≡◌, ℕ, ◌+◌, ◌<◌, ◌^◌, get_or, refl, sym, ap, subst, ◌∙◌, Bool, true, false, arith, Option, Some, None}
use Rattle.std.specs.Prelude.{◌↔◌, Result, Err, IfSome, IsSome, ◌&&◌, nat_lt, map as map_list, slice_set}
use Rattle.std.specs.Option.{option_map, option_map_or, option_and_then, is_some}
use Rattle.law_lawful.proofs.pr_base.MapLemmas.{by_key, mapped-insert, get-changed_same, get-changed_other}
use Rattle.law_lawful.specs.kr_tree.Tree.{Tree, Inode, inode}
use Rattle.law_lawful.specs.kr_tree.Holds.{holds_at}
use Rattle.law_lawful.specs.kr_tree.declared.place.Place.{Place}
use Rattle.law_lawful.specs.kr_files.declared.descs.Descriptor.{Descriptor}
use Rattle.law_lawful.specs.kr_files.declared.opened.Opened.{Opened}
use Rattle.law_lawful.specs.kr_files.Descriptors.{Descriptors, Meanings, Named, lowest_free, lowest_pair, with_copy_at, with_cloexec}
use Rattle.law_lawful.specs.kr_files.Files.{Kept, Counted, with_file, with_copy, with_pipe, takes_pipe, closed, copied, released, by_descriptor, counted_more, count_at, file_at, Gives, GivesPair}
use Rattle.law_lawful.proofs.kr_files.DescriptorLemmas.{lowest_free-meanings, lowest_pair-meanings}
use Rattle.law_lawful.specs.kr_model.Applied.{Mounts, images, applied, held_at, released_at, in_mount, mount_of, open_in, copy_over}
use Rattle.law_lawful.specs.kr_model.Change.{CopyDescriptor, MakePipe, MountOf, OpenFile}
use Rattle.law_lawful.specs.kr_model.State as model
use Rattle.law_lawful.specs.kr_model.State.{inode_of, place_of}
use Rattle.kr_ops.specs.declared.state.Process.{Process}
use Rattle.kr_ops.specs.declared.state.State.{State}
use Rattle.kr_ops.specs.Living.{HaveOthers, HasPid}
use Rattle.kr_ops.specs.Meaning.{meaning, process_meaning}
use Rattle.kr_ops.specs.Opening.{lowest_of, pair_of, takes_pipe_of}
use Rattle.kr_ops.specs.Sound.{IsSound}
use Rattle.kr_ops.proofs.ChangeLemmas.{to_named, named-at}
use Rattle.kr_ops.proofs.CloseLemmas.{with_descriptors, outcome, place_at, place-of}
use Rattle.kr_ops.proofs.ListLemmas.{apart, none-found, one-found, stored, has-number}
use Rattle.kr_ops.proofs.UseLemmas.{counts-fit, holds-held-least}

-- ---- what is there

-- one test for two options that are the same
pub full-same : (P : Type 0) (A : Type 0) (x y : Option A) → x ≡ y → (P ↔ (y ≡ None)) → P ↔ (x ≡ None)
full-same P A x y e both = (λ p. e ∙ both.0 p, λ none. both.1 (sym e ∙ none))

of-some : {X Y : Type 0} (f : X → Y) (o : Option X) → IsSome (option_map f o) → IsSome o
of-some f None h = h
of-some f (Some x) h = refl

pub is-there : (o : Option Inode) → 0 < option_map_or (λ (x : Inode). x.holds) o 0 → IsSome o
is-there None l = absurd (let no : 0 < 0 = l in omega arith)
is-there (Some x) l = refl

-- equal errors, of results with whatever values
pub error-of : {X E : Type 0} {a b : E} → ◌≡◌ {A = Result X E} (Err a) (Err b) → a ≡ b
error-of e = cc

-- what is held is there
pub held-is-there : {T : Type 0} (t : Tree) (o : Option (Place T)) → IfSome o (λ p. 0 < holds_at t (inode_of p.host)) → IfSome o (λ p. IsSome (inode t (inode_of p.host)))
held-is-there t None h = tt
held-is-there t (Some p) h = is-there (inode t (inode_of p.host)) h

pub one-more-fits : {T : Type 0} (t : Tree) (o : Option (Place T)) → ((i : ℕ) → holds_at t i + 2048 < 2 ^ 32) → IfSome o (λ p. holds_at t (inode_of p.host) + 1 < 2 ^ 32)
one-more-fits t None fits = tt
one-more-fits t (Some p) fits = let l = fits (inode_of p.host) in omega arith

pub still-held : {T : Type 0} (t u : Tree) (o r : Option (Place T)) → u ≡ held_at o t → IfSome r (λ p. 0 < holds_at t (inode_of p.host)) → IfSome r (λ p. 0 < holds_at u (inode_of p.host))
still-held t u o None e h = tt
still-held t u o (Some p) e h = subst (λ u. 0 < holds_at u (inode_of p.host)) (sym e) (let l = holds-held-least o t (inode_of p.host) in omega arith)

-- the place of an open file, seen in a mount
place-in : {M : Type 0} (m : M) (o : Option (Place (Unit {0}))) (t : Tree) → held_at (option_map (λ p. record { mount = m; host = p.host }) o) t ≡ held_at o t
place-in m None t = refl
place-in m (Some p) t = refl

module _ {T : Type 0} {M : ℕ} where
  pub not-living : (s : State T M) (pid : ℕ) → HaveOthers pid s.living.items → IsSome (model.process pid (meaning s)) → ⊥
  not-living s pid others lives = let none : false ≡ true = subst IsSome (none-found pid s.living.items others) lives in cc

  pub not-open : (s : State T M) (pid fd : ℕ) → HaveOthers pid s.living.items → IsSome (model.named pid fd (meaning s)) → ⊥
  not-open s pid fd others there =
      let none : false ≡ true = subst IsSome (ap (option_and_then (λ (q : model.Process T model.Image). map.get q.descs fd)) (none-found pid s.living.items others)) there in cc

  module _ (s : State T M) (pid k : ℕ) (p : Process T M) (sound : IsSound s) (h : HasPid pid k s.living.items) (e : p ≡ get_or s.living.items k p) where
    pub found : model.process pid (meaning s) ≡ Some (process_meaning p)
    found = one-found pid s.living.items k p (apart s sound.pids) h.within e (has-number pid k s.living.items h p e)

    pub lowest : (from : ℕ) → lowest_of pid from (meaning s) ≡ lowest_free p.descs from
    lowest from = ap (option_and_then (λ (q : model.Process T model.Image). lowest_free q.descs from)) found ∙ lowest_free-meanings p.descs from

    pub lowest-two : pair_of pid (meaning s) ≡ lowest_pair p.descs
    lowest-two = ap (option_and_then (λ (q : model.Process T model.Image). lowest_pair q.descs)) found ∙ lowest_pair-meanings p.descs

    pub is-open : (fd : ℕ) → IsSome (model.named pid fd (meaning s)) → IsSome (map.get p.descs fd)
    is-open fd some = of-some to_named (map.get p.descs fd) (subst IsSome (named-at s pid k fd p sound.pids h e) some)

    pub count-fits : (fd : ℕ) → count_at s.files p.descs fd + 1 < 2 ^ 32
    count-fits fd = by (map.get p.descs fd)
      where
        of_file : (n : ℕ) (o : Option (Counted T)) → map.get s.files.table.files n ≡ o → option_map_or (λ (h : Counted T). h.count) o 0 + 1 < 2 ^ 32
        of_file n None is = omega arith
        of_file n (Some h) is = let l = counts-fit s sound n h is in omega arith

        by : (o : Option Descriptor) → option_map_or (λ (x : Descriptor). option_map_or (λ (h : Counted T). h.count) (map.get s.files.table.files x.number) 0) o 0 + 1 < 2 ^ 32
        by None = omega arith
        by (Some x) = of_file x.number (map.get s.files.table.files x.number) refl

    -- ---- files that are opened

    pub opened-means : (fd : ℕ) (cloexec : Bool) (o : Opened T) (tree : Tree) (files : Kept T) (d : Descriptors)
        → tree ≡ held_at o.place s.tree
        → files.table ≡ with_file o s.files.table
        → Gives s.files.keys files.keys p.descs d fd (s.files.table.last_file + 1) cloexec
        → (mounts : Mounts T) (from : MountOf) (m : T) (b : Opened (Unit {0})) → mount_of mounts pid (meaning s) from ≡ Some m → in_mount m b ≡ o
        → outcome s tree files.table (slice_set s.living.items k (with_descriptors p d)) ≡ applied images mounts pid (OpenFile fd cloexec from b) (meaning s)
    opened-means fd cloexec o tree files d trees tables gives mounts from m b taken same =
        let f : Meanings → Meanings = λ d. map.insert d fd (record { number = s.files.table.last_file + 1; cloexec = cloexec }) in
        let meant : process_meaning (with_descriptors p d) ≡ model.with_descs f (process_meaning p) =
        ap (λ d. process_meaning (with_descriptors p d)) gives.descs ∙ ap (λ m. model.with_descs (λ _. m) (process_meaning p)) (mapped-insert (λ n x. to_named x) p.descs fd _) in
        let lists = stored pid (model.with_descs f) s.living.items k p (with_descriptors p d) (apart s sound.pids) h.within e (has-number pid k s.living.items h p e) meant in
        let root : tree ≡ held_at b.place s.tree = trees ∙ ap (λ (o : Opened T). held_at o.place s.tree) (sym same) ∙ place-in m b.place s.tree in
        let table : files.table ≡ with_file (in_mount m b) s.files.table = tables ∙ ap (λ o. with_file o s.files.table) (sym same) in
        let all : outcome s tree files.table (slice_set s.living.items k (with_descriptors p d)) ≡ open_in pid fd cloexec b m (meaning s) = λ j. record {
          tree = root j;
          user = (meaning s).user;
          files = table j;
          input = (meaning s).input;
          taken = (meaning s).taken;
          out = (meaning s).out;
          err = (meaning s).err;
          living = lists j;
          ended = (meaning s).ended;
          next_pid = (meaning s).next_pid;
        } in
        all ∙ sym (ap (λ (o : Option T). option_map_or (λ m. open_in pid fd cloexec b m (meaning s)) o (meaning s)) taken)

    -- ---- copies

    -- a copy more changes no place
    same-place : (n m : ℕ) → place_of (with_copy n s.files.table) m ≡ place_of s.files.table m
    same-place n m = by_key (λ m. place_of (with_copy n s.files.table) m ≡ place_of s.files.table m) n
        (ap place (get-changed_same s.files.table.files n (counted_more 1)) ∙ kept (map.get s.files.table.files n))
        (λ q d. ap place (get-changed_other s.files.table.files n (counted_more 1) q d)) m
      where
        place : Option (Counted T) → Option (Place T)
        place o = option_and_then (λ (o : Opened T). o.place) (option_map (λ (h : Counted T). h.opened) o)

        kept : (o : Option (Counted T)) → option_and_then (λ (o : Opened T). o.place) (option_map (λ (h : Counted T). h.opened) (option_map (counted_more 1) o)) ≡ option_and_then (λ (o : Opened T). o.place) (option_map (λ (h : Counted T). h.opened) o)
        kept None = refl
        kept (Some x) = refl

    pub copied-means : (mounts : Mounts T) (fd to : ℕ) (cloexec : Bool) (tree end : Tree) (files : Kept T) (d : Descriptors)
        → IsSome (map.get p.descs fd)
        → tree ≡ held_at (place_at s.files p.descs fd) s.tree → end ≡ released_at (place_at s.files p.descs to) tree
        → files ≡ by_descriptor p.descs to released (by_descriptor p.descs fd copied s.files)
        → d ≡ with_copy_at p.descs fd to cloexec
        → outcome s end files.table (slice_set s.living.items k (with_descriptors p d)) ≡ applied images mounts pid (CopyDescriptor fd to cloexec) (meaning s)
    copied-means mounts fd to cloexec tree end files d some trees ends tables descs = by_get (map.get p.descs fd) refl some
      where
        by_old : (x : Descriptor) (o : Option Descriptor) → map.get p.descs to ≡ o
            → map_list process_meaning (slice_set s.living.items k (with_descriptors p d)) ≡ model.with_process pid (model.with_descs (λ d. map.insert d to (record { number = x.number; cloexec = cloexec }))) (map_list process_meaning s.living.items)
            → files ≡ by_descriptor p.descs to released (copied x s.files)
            → tree ≡ held_at (place_of s.files.table x.number) s.tree
            → outcome s end files.table (slice_set s.living.items k (with_descriptors p d)) ≡ copy_over pid to cloexec (to_named x) (option_map to_named o) (meaning s)
        by_old x None is lists from held =
            let none : place_at s.files p.descs to ≡ None = ap (λ (o : Option Descriptor). option_and_then (λ (o : Opened T). o.place) (option_and_then (λ (x : Descriptor). file_at s.files.table x.number) o)) is in
            let t : end ≡ held_at (place_of s.files.table x.number) s.tree = ends ∙ ap (λ o. released_at o tree) none ∙ held in
            let fs : files.table ≡ with_copy x.number s.files.table = ap (λ (f : Kept T). f.table) (from ∙ ap (λ (o : Option Descriptor). option_map_or (λ y. released y (copied x s.files)) o (copied x s.files)) is) in
            λ j. record {
              tree = t j;
              user = (meaning s).user;
              files = fs j;
              input = (meaning s).input;
              taken = (meaning s).taken;
              out = (meaning s).out;
              err = (meaning s).err;
              living = lists j;
              ended = (meaning s).ended;
              next_pid = (meaning s).next_pid;
            }
        by_old x (Some y) is lists from held =
            let old : place_at s.files p.descs to ≡ place_of (with_copy x.number s.files.table) y.number = place-of s.files p.descs to y is ∙ sym (same-place x.number y.number) in
            let t : end ≡ released_at (place_of (with_copy x.number s.files.table) y.number) (held_at (place_of s.files.table x.number) s.tree) =
            ends ∙ ap (λ o. released_at o tree) old ∙ ap (released_at (place_of (with_copy x.number s.files.table) y.number)) held in
            let fs : files.table ≡ closed y.number (with_copy x.number s.files.table) = ap (λ (f : Kept T). f.table) (from ∙ ap (λ (o : Option Descriptor). option_map_or (λ y. released y (copied x s.files)) o (copied x s.files)) is) in
            λ j. record {
              tree = t j;
              user = (meaning s).user;
              files = fs j;
              input = (meaning s).input;
              taken = (meaning s).taken;
              out = (meaning s).out;
              err = (meaning s).err;
              living = lists j;
              ended = (meaning s).ended;
              next_pid = (meaning s).next_pid;
            }

        by_get : (o : Option Descriptor) → map.get p.descs fd ≡ o → IsSome o → outcome s end files.table (slice_set s.living.items k (with_descriptors p d)) ≡ applied images mounts pid (CopyDescriptor fd to cloexec) (meaning s)
        by_get None is none = absurd cc
        by_get (Some x) is there =
            let f : Meanings → Meanings = λ d. map.insert d to (record { number = x.number; cloexec = cloexec }) in
            let d_is : d ≡ map.insert p.descs to (with_cloexec cloexec x) = descs ∙ ap (λ (o : Option Descriptor). option_map_or (λ x. map.insert p.descs to (with_cloexec cloexec x)) o p.descs) is in
            let process : process_meaning (with_descriptors p d) ≡ model.with_descs f (process_meaning p) =
            ap (λ d. process_meaning (with_descriptors p d)) d_is ∙ ap (λ m. model.with_descs (λ _. m) (process_meaning p)) (mapped-insert (λ n x. to_named x) p.descs to (with_cloexec cloexec x)) in
            let lists = stored pid (model.with_descs f) s.living.items k p (with_descriptors p d) (apart s sound.pids) h.within e (has-number pid k s.living.items h p e) process in
            let from : files ≡ by_descriptor p.descs to released (copied x s.files) = tables ∙ ap (λ (o : Option Descriptor). by_descriptor p.descs to released (option_map_or (λ x. copied x s.files) o s.files)) is in
            let held : tree ≡ held_at (place_of s.files.table x.number) s.tree = trees ∙ ap (λ o. held_at o s.tree) (place-of s.files p.descs fd x is) in
            by_old x (map.get p.descs to) refl lists from held
            ∙ ap (λ y. copy_over pid to cloexec (to_named x) y (meaning s)) (sym (named-at s pid k to p sound.pids h e))
            ∙ sym (ap (λ (o : Option Named). option_map_or (λ x. copy_over pid to cloexec x (model.named pid to (meaning s)) (meaning s)) o (meaning s)) (named-at s pid k fd p sound.pids h e ∙ ap (option_map to_named) is))

    -- under a number that is free
    pub copied-fresh : (mounts : Mounts T) (fd to : ℕ) (cloexec : Bool) (tree : Tree) (files : Kept T) (d : Descriptors)
        → IsSome (map.get p.descs fd) → map.get p.descs to ≡ None
        → tree ≡ held_at (place_at s.files p.descs fd) s.tree
        → files ≡ by_descriptor p.descs fd copied s.files
        → d ≡ with_copy_at p.descs fd to cloexec
        → outcome s tree files.table (slice_set s.living.items k (with_descriptors p d)) ≡ applied images mounts pid (CopyDescriptor fd to cloexec) (meaning s)
    copied-fresh mounts fd to cloexec tree files d some free trees tables descs =
        let nowhere : place_at s.files p.descs to ≡ None = ap (λ (o : Option Descriptor). option_and_then (λ (o : Opened T). o.place) (option_and_then (λ (x : Descriptor). file_at s.files.table x.number) o)) free in
        let copy : Kept T = by_descriptor p.descs fd copied s.files in
        copied-means mounts fd to cloexec tree tree files d some trees (sym (ap (λ (o : Option (Place T)). released_at o tree) nowhere))
        (tables ∙ sym (ap (λ (o : Option Descriptor). option_map_or (λ y. released y copy) o copy) free)) descs

    -- ---- pipes

    pub pipe-means : (mounts : Mounts T) (first second : ℕ) (cloexec : Bool) (files : Kept T) (d : Descriptors)
        → files.table ≡ with_pipe s.files.table
        → GivesPair s.files.keys files.keys p.descs d first second (s.files.table.last_file + 1) cloexec
        → outcome s s.tree files.table (slice_set s.living.items k (with_descriptors p d)) ≡ applied images mounts pid (MakePipe first second cloexec) (meaning s)
    pipe-means mounts first second cloexec files d tables gives =
        let number : ℕ = s.files.table.last_file + 1 in
        let f : Meanings → Meanings = λ d. map.insert (map.insert d first (record { number = number; cloexec = cloexec })) second (record { number = number + 1; cloexec = cloexec }) in
        let one : Descriptor = record { key = gives.reader; number = number; cloexec = cloexec } in
        let two : Descriptor = record { key = gives.writer; number = number + 1; cloexec = cloexec } in
        let meant : process_meaning (with_descriptors p d) ≡ model.with_descs f (process_meaning p) =
        ap (λ d. process_meaning (with_descriptors p d)) gives.descs
        ∙ ap (λ m. model.with_descs (λ _. m) (process_meaning p))
        (mapped-insert (λ n x. to_named x) (map.insert p.descs first one) second two ∙ ap (λ m. map.insert m second (to_named two)) (mapped-insert (λ n x. to_named x) p.descs first one)) in
        let lists = stored pid (model.with_descs f) s.living.items k p (with_descriptors p d) (apart s sound.pids) h.within e (has-number pid k s.living.items h p e) meant in
        λ j. record {
          tree = s.tree;
          user = (meaning s).user;
          files = tables j;
          input = (meaning s).input;
          taken = (meaning s).taken;
          out = (meaning s).out;
          err = (meaning s).err;
          living = lists j;
          ended = (meaning s).ended;
          next_pid = (meaning s).next_pid;
        }

    pub takes-pipe : takes_pipe_of pid (meaning s) ≡ takes_pipe s.files.table p.descs
    takes-pipe = ap (λ (o : Option (model.Process T model.Image)). option_map_or (λ q. takes_pipe s.files.table q.descs) o false) found
        ∙ ap (λ o. is_some o && nat_lt (map.len s.files.table.pipes) 4096) (lowest_pair-meanings p.descs)
