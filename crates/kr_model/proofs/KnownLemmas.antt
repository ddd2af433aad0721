-- What is known of a state is known of its bare part.
use Rattle.std.specs.FinMap as map
use Rattle.std.proofs.Common.{◌≡◌, ℕ, List, [], ◌∷◌, refl, sym, ap, ◌∙◌, Option, Some, None}
use Rattle.std.specs.Prelude.{map as map_list, sum, drop}
use Rattle.std.specs.Option.{option_map, option_map_or}
use Rattle.kr_files.specs.kr_tree.Tree.{Inode}
use Rattle.kr_files.specs.kr_tree.Holds.{fewer, with_fewer}
use Rattle.kr_files.proofs.kr_tree.HoldLemmas.{trees_look_alike_with_fewer_holds}
use Rattle.kr_files.specs.Opened.{is_reader, is_writer}
use Rattle.kr_files.specs.WithoutMounts.{without_mount}
use Rattle.kr_files.specs.declared.opened.Opened.{Opened}
use Rattle.kr_files.specs.kr_tree.declared.place.Place.{Place}
use Rattle.kr_model.specs.Bare.{host_only}
use Rattle.kr_calls.proofs.pr_base.MapLemmas.{len-mapped}
use Rattle.kr_files.proofs.MountLemmas.{has_kind-without_mounts}
use Rattle.kr_model.specs.State.{Image, Layout, image_layout, Process, State, process, opened}
use Rattle.kr_model.specs.Bare.{bare, bare_process}
use Rattle.kr_model.specs.Known.{Fact, fact_at, no_caller, caller_of, family_of, known}
use Rattle.kr_model.proofs.BareLemmas.{process-bare, opened-bare}

same_lists : {A B C : Type 0} (f : B → C) (g : A → B) (h : A → C) → ((x : A) → f (g x) ≡ h x) → (xs : List A) → map_list f (map_list g xs) ≡ map_list h xs
same_lists f g h same [] = refl
same_lists f g h same (x ∷ xs) = ap (λ y. y ∷ map_list f (map_list g xs)) (same x) ∙ ap (λ ys. h x ∷ ys) (same_lists f g h same xs)

module _ (M : Type 0) (pins : ℕ → ℕ) (pid : ℕ) (s : State M Image) where
  abbrev bp : Process M Image → Process (Unit {0}) Layout
  bp p = bare_process image_layout p

  abbrev b : State (Unit {0}) Layout
  b = bare image_layout pins s

  caller-same : option_map_or (caller_of image_layout) (process pid s) no_caller ≡ option_map_or (caller_of (λ m. m)) (process pid b) no_caller
  caller-same = same (process pid s) ∙ ap (λ o. option_map_or (caller_of (λ m. m)) o no_caller) (sym (process-bare M pins pid s))
    where
      same : (o : Option (Process M Image)) → option_map_or (caller_of image_layout) o no_caller ≡ option_map_or (caller_of (λ m. m)) (option_map bp o) no_caller
      same None = refl
      same (Some p) = refl

  abbrev fact : Inode → Fact
  fact x = record { node = x.node; names = x.names; directories = x.directories }

  pub known-bare : known image_layout pid s ≡ known (λ m. m) pid b
  known-bare =
      let callers = caller-same in
      let files : (fd : ℕ) → (known image_layout pid s).opened fd ≡ (known (λ m. m) pid b).opened fd = λ fd. opened-twice (opened pid fd s) ∙ sym (ap (option_map without_mount) (opened-bare M pins pid fd s)) in
      let readers : (p : ℕ) → (known image_layout pid s).reader p ≡ (known (λ m. m) pid b).reader p = λ p. sym (has_kind-without_mounts (is_reader p) s.files.files) in
      let writers : (p : ℕ) → (known image_layout pid s).writer p ≡ (known (λ m. m) pid b).writer p = λ p. sym (has_kind-without_mounts (is_writer p) s.files.files) in
      let facts : (i : ℕ) → fact_at s.tree i ≡ fact_at (with_fewer pins s.tree) i = λ i. told i (map.get s.tree.inodes i) ∙ sym (ap (option_map (λ (x : Inode). fact x)) ((trees_look_alike_with_fewer_holds pins s.tree).inode i)) in
      let inodes = sym (len-mapped (λ i. fewer (pins i)) s.tree.inodes) in
      let families = sym (same_lists (family_of {X = Layout} (λ m. m)) bp (family_of image_layout) (λ p. refl) s.living) in
      let pages = ap sum (sym (same_lists (λ (p : Process (Unit {0}) Layout). map.len p.image) bp (λ (p : Process M Image). map.len (image_layout p.image)) (λ p. refl) s.living)) in
      λ j. record {
        caller = callers j;
        user = s.user;
        opened = λ fd. files fd j;
        pipe = λ p. map.get s.files.pipes p;
        reader = λ p. readers p j;
        writer = λ p. writers p j;
        pipes = map.len s.files.pipes;
        fact = λ i. facts i j;
        sizes = record { inodes = inodes j; names = s.tree.names; bytes = s.tree.bytes; next = s.tree.next };
        input = drop s.taken s.input;
        living = families j;
        ended = s.ended;
        next_pid = s.next_pid;
        pages = pages j;
      }
    where
      told : (i : ℕ) (o : Option Inode) → option_map fact o ≡ option_map fact (option_map (fewer (pins i)) o)
      told i None = refl
      told i (Some x) = refl

      place-twice : (p : Option (Place M)) → option_map host_only p ≡ option_map host_only (option_map host_only p)
      place-twice None = refl
      place-twice (Some p) = refl

      opened-twice : (o : Option (Opened M)) → option_map without_mount o ≡ option_map without_mount (option_map without_mount o)
      opened-twice None = refl
      opened-twice (Some o) =
          let places = place-twice o.place in
          ap Some (λ j. record { place = places j; dir = o.dir; name = o.name; what = o.what; read = o.read; write = o.write; append = o.append; at = o.at })
