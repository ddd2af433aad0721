-- What a tracer is told of a state, and where walks over the host's own view of it lead, is that of its bare part.
use Rattle.std.specs.FinMap as map
use Rattle.std.proofs.Common.{◌≡◌, ℕ, List, [], ◌∷◌, refl, sym, ap, ◌∙◌, Option, Some, None, Result, Ok, Err}
use Rattle.std.specs.Bool.{if◌then◌else◌}
use Rattle.std.specs.Option.{option_map, option_map_or, option_and_then}
use Rattle.std.specs.Prelude.{map as map_list}
use Rattle.pt_canon.specs.pr_base.Paths.{text_of}
use Rattle.pt_canon.specs.pr_base.WalkFrame.{walk}
use Rattle.pt_canon.specs.pr_base.declared.errno.Errno.{Errno}
use Rattle.pt_canon.specs.pr_base.declared.errno.Errno.TheVariants.{ENOENT}
use Rattle.pt_canon.specs.pr_base.declared.path.WalkMode.{WalkMode}
use Rattle.pt_canon.specs.pr_base.declared.path.WalkMode.TheVariants.{LookLink}
use Rattle.kr_mounts.specs.kr_inode.declared.user.Right.TheVariants.{Search}
use Rattle.kr_mounts.specs.kr_tree.declared.place.Host.{Host}
use Rattle.kr_mounts.specs.kr_tree.declared.place.Host.TheVariants.{Node, Proc}
use Rattle.kr_mounts.specs.kr_tree.declared.place.Place.{Place}
use Rattle.kr_mounts.specs.kr_tree.declared.place.ProcAt.{ProcAt}
use Rattle.kr_mounts.specs.kr_tree.declared.place.ProcAt.TheVariants.{SelfLink, Dir, Cwd, Root, Exe, FdDir, Fd}
use Rattle.kr_mounts.specs.kr_view.Component.{is_directory_at, seen_at}
use Rattle.kr_mounts.specs.kr_view.HostReach.{host_place}
use Rattle.kr_mounts.specs.kr_view.Living.{finds_among}
use Rattle.kr_mounts.specs.kr_view.Names.{Remembered, guest_name}
use Rattle.kr_mounts.specs.kr_view.Reach.{is_steady}
use Rattle.kr_mounts.specs.kr_view.View.{is_there, plain, root_place}
use Rattle.kr_mounts.specs.kr_view.Walk.{PlaceTarget, place_walk}
use Rattle.kr_mounts.specs.kr_view.declared.procs.Lead.TheVariants.{Jump, Nameless, NoLink}
use Rattle.kr_model.specs.kr_files.WithoutMounts.{without_mount}
use Rattle.kr_model.specs.kr_files.declared.opened.Opened.{Opened}
use Rattle.kr_model.specs.Bare.{bare, bare_process, host_only}
use Rattle.kr_model.specs.HostView.{base_name, base_text, cwd_name, exe_name, host_around_of, host_leads, host_open, host_space, linked_text, open_name}
use Rattle.kr_model.specs.Peeks.{answer_along, at_found, body_head, body_text, head_at, host_walk, is_steady_path, kind_of_answer, kind_of_base, kind_seen, link_text_at, name_or_none, peeked_of, read_of}
use Rattle.kr_model.specs.ProcessDirectory.{jump_to, living_of, name_text, remembered, unplaced_text}
use Rattle.kr_model.specs.State.{Image, Layout, Process, State, image_layout, opened, process}
use Rattle.kr_model.proofs.BareLemmas.{opened-bare, process-bare}
use Rattle.law_walks.specs.Alike.{AreEqualButForMounts, HostWalksAreBare, PeeksAreBare}
use Rattle.law_walks.specs.BareFacts.{process_text, text_on_host}
use Rattle.law_walks.proofs.BareLookLemmas.{same_directory_at, same_looking, same_met, same_seen}
use Rattle.law_walks.proofs.SpaceLemmas.{same_guest_name}
use Rattle.law_walks.proofs.SteadyLemmas.{same_steady}
use Rattle.law_walks.proofs.TreeLemmas.{same_body, same_may}

-- of what may be there, one function tells of it with h what another tells of it
pub of_mapped : {A B C : Type 0} (h : A → B) (f : Option B → C) (g : Option A → C) → f None ≡ g None → ((x : A) → f (Some (h x)) ≡ g (Some x)) → (o : Option A) → f (option_map h o) ≡ g o
of_mapped h f g none same None = none
of_mapped h f g none same (Some x) = same x

module _ (M : Type 0) (pins : ℕ → ℕ) (s : State M Image) where
  abbrev Other : Type 0
  Other = Process (Unit {0}) Layout

  abbrev bp : Process M Image → Other
  bp p = bare_process image_layout p

  abbrev b : State (Unit {0}) Layout
  b = bare image_layout pins s

  -- ---- what is asked of processes and of what is open

  pub of_process : {A : Type 0} (f : Option Other → A) (g : Option (Process M Image) → A) → f None ≡ g None → ((p : Process M Image) → f (Some (bp p)) ≡ g (Some p)) → (pid : ℕ) → f (process pid b) ≡ g (process pid s)
  of_process f g none same pid = ap f (process-bare M pins pid s) ∙ of_mapped bp f g none same (process pid s)

  pub of_opened : {A : Type 0} (f : Option (Opened (Unit {0})) → A) (g : Option (Opened M) → A) → f None ≡ g None → ((o : Opened M) → f (Some (without_mount o)) ≡ g (Some o)) → (pid fd : ℕ) → f (opened pid fd b) ≡ g (opened pid fd s)
  of_opened f g none same pid fd = ap f (opened-bare M pins pid fd s) ∙ of_mapped without_mount f g none same (opened pid fd s)

  same_living : living_of b ≡ living_of s
  same_living = by s.living
    where
      by : (ps : List (Process M Image)) → living_of (record b { living = map_list bp ps }) ≡ living_of (record s { living = ps })
      by [] = refl
      by (p ∷ ps) = ap (λ ls. record { pid = p.pid; fds = map_list (λ e. e.0) (map.entries p.descs) } ∷ ls) (by ps)

  -- ---- names

  same_called : (p : Place ℕ) (remembered : Remembered) → guest_name (host_space b) p remembered ≡ guest_name (host_space s) p remembered
  same_called p remembered = λ j. same_guest_name pins s.tree plain s.user (finds_among (same_living j)) p remembered j

  same_jump : (p : Place ℕ) (dir : ℕ) (name : List ℕ) → jump_to (host_space b) p dir name ≡ jump_to (host_space s) p dir name
  same_jump p dir name = λ j. if is_there (same_called p (remembered dir name) j) then Jump p dir name else Nameless

  same_name : (p : Place ℕ) (dir : ℕ) (name : List ℕ) → name_text (host_space b) p dir name ≡ name_text (host_space s) p dir name
  same_name p dir name = ap (option_map text_of) (same_called p (remembered dir name))

  same_open_name : (o : Opened M) → open_name b (without_mount o) ≡ open_name s o
  same_open_name o =
      of_mapped host_only (option_and_then (λ p. name_text (host_space b) (host_place p.host) o.dir o.name)) (option_and_then (λ p. name_text (host_space s) (host_place p.host) o.dir o.name)) refl
      (λ p. same_name (host_place p.host) o.dir o.name) o.place

  same_linked_text : (o : Opened M) → linked_text b (without_mount o) ≡ linked_text s o
  same_linked_text o =
      of_mapped host_only (λ at. option_map_or (λ p. name_text (host_space b) (host_place p.host) o.dir o.name) at (unplaced_text o.what)) (λ at. option_map_or (λ p. name_text (host_space s) (host_place p.host) o.dir o.name) at (unplaced_text o.what)) refl
      (λ p. same_name (host_place p.host) o.dir o.name) o.place

  same_base_name : (pid fd : ℕ) → base_name b pid fd ≡ base_name s pid fd
  same_base_name pid fd = of_opened (option_and_then (open_name b)) (option_and_then (open_name s)) refl same_open_name pid fd

  same_base_text : (pid fd : ℕ) → base_text b pid fd ≡ base_text s pid fd
  same_base_text pid fd = of_opened (option_and_then (linked_text b)) (option_and_then (linked_text s)) refl same_linked_text pid fd

  pub same_cwd_name : (pid : ℕ) → cwd_name b pid ≡ cwd_name s pid
  same_cwd_name pid =
      of_process (option_and_then (λ p. name_text (host_space b) (host_place p.cwd.host) 0 [])) (option_and_then (λ p. name_text (host_space s) (host_place p.cwd.host) 0 [])) refl
      (λ p. same_name (host_place p.cwd.host) 0 []) pid

  same_exe_name : (pid : ℕ) → exe_name b pid ≡ exe_name s pid
  same_exe_name pid =
      of_process (option_and_then (λ p. name_text (host_space b) (host_place p.exe.host) p.exe_dir p.exe_name)) (option_and_then (λ p. name_text (host_space s) (host_place p.exe.host) p.exe_dir p.exe_name)) refl
      (λ p. same_name (host_place p.exe.host) p.exe_dir p.exe_name) pid

  -- ---- links

  same_open : (o : Opened M) → host_open b (without_mount o) ≡ host_open s o
  same_open o =
      of_mapped host_only (λ at. option_map_or (λ p. jump_to (host_space b) (host_place p.host) o.dir o.name) at Nameless) (λ at. option_map_or (λ p. jump_to (host_space s) (host_place p.host) o.dir o.name) at Nameless) refl
      (λ p. same_jump (host_place p.host) o.dir o.name) o.place

  module _ (caller : ℕ) where
    same_leads : (at : ProcAt) → host_leads b caller at ≡ host_leads s caller at
    same_leads SelfLink = refl
    same_leads (Dir pid) = refl
    same_leads (Cwd pid) =
        of_process (λ o. option_map_or (λ p. jump_to (host_space b) (host_place p.cwd.host) 0 []) o NoLink) (λ o. option_map_or (λ p. jump_to (host_space s) (host_place p.cwd.host) 0 []) o NoLink) refl
        (λ p. same_jump (host_place p.cwd.host) 0 []) pid
    same_leads (Root pid) =
        of_process (λ o. option_map_or (λ p. jump_to (host_space b) (root_place plain) 0 []) o NoLink) (λ o. option_map_or (λ p. jump_to (host_space s) (root_place plain) 0 []) o NoLink) refl
        (λ p. same_jump (root_place plain) 0 []) pid
    same_leads (Exe pid) =
        of_process (λ o. option_map_or (λ p. jump_to (host_space b) (host_place p.exe.host) p.exe_dir p.exe_name) o NoLink) (λ o. option_map_or (λ p. jump_to (host_space s) (host_place p.exe.host) p.exe_dir p.exe_name) o NoLink) refl
        (λ p. same_jump (host_place p.exe.host) p.exe_dir p.exe_name) pid
    same_leads (FdDir pid) = refl
    same_leads (Fd pid fd) = of_opened (λ o. option_map_or (host_open b) o NoLink) (λ o. option_map_or (host_open s) o NoLink) refl same_open pid fd

    -- ---- walks

    pub same_walk : (mode : WalkMode) (base : Place ℕ) (path : List ℕ) → place_walk (host_around_of b caller) mode base path ≡ place_walk (host_around_of s caller) mode base path
    same_walk mode base path = λ j. walk (same_looking pins s.tree plain s.user (finds_among (same_living j)) (λ at. same_leads at j) j) mode base path

    same_shown : (p : Place ℕ) (x : Host) → seen_at (host_around_of b caller) p x ≡ seen_at (host_around_of s caller) p x
    same_shown p x = λ j. same_seen pins s.tree plain s.user (finds_among (same_living j)) (λ at. same_leads at j) p x j

    -- ---- peeks

    same_answer : (path : List ℕ) → answer_along b caller path ≡ answer_along s caller path
    same_answer path = λ j. (same_walk LookLink (root_place plain) path j).answer

    same_kind : (answer : Result PlaceTarget Errno) → kind_of_answer (host_around_of b caller) answer ≡ kind_of_answer (host_around_of s caller) answer
    same_kind (Ok target) = by target.found
      where
        by : (o : Option (Place ℕ)) → at_found (host_around_of b caller) (Err ENOENT) kind_seen o ≡ at_found (host_around_of s caller) (Err ENOENT) kind_seen o
        by (Some p) = ap kind_seen (same_shown p p.host)
        by None = refl
    same_kind (Err e) = refl

    same_link_text : (x : Host) → link_text_at b caller x ≡ link_text_at s caller x
    same_link_text (Node i) = ap body_text (same_body pins s.tree i)
    same_link_text (Proc i SelfLink) = refl
    same_link_text (Proc i (Dir pid)) = refl
    same_link_text (Proc i (Cwd pid)) = ap name_or_none (same_cwd_name pid)
    same_link_text (Proc i (Root pid)) = ap name_or_none (same_name (root_place plain) 0 [])
    same_link_text (Proc i (Exe pid)) = ap name_or_none (same_exe_name pid)
    same_link_text (Proc i (FdDir pid)) = refl
    same_link_text (Proc i (Fd pid fd)) = ap name_or_none (same_base_text pid fd)

    same_head : (n : ℕ) (x : Host) → head_at b.tree b.user n x ≡ head_at s.tree s.user n x
    same_head n (Node i) = λ j. body_head (same_may pins s.tree s.user i Search j) n (same_body pins s.tree i j)
    same_head n (Proc i at) = refl

    same_steady_path : (path : List ℕ) → is_steady_path b caller path ≡ is_steady_path s caller path
    same_steady_path path =
        ap (is_steady (host_around_of b caller) LookLink) (same_walk LookLink (root_place plain) path)
        ∙ same_steady (host_around_of b caller) (host_around_of s caller) LookLink (λ p c j. same_met pins s.tree plain s.user (finds_among (same_living j)) p c j) (host_walk s caller LookLink path)

    pub same_peeks : peeked_of b caller ≡ peeked_of s caller
    same_peeks =
        λ j. record {
          kind = λ path. same_kind (same_answer path j) j;
          link_text = λ path. read_of (λ x. same_link_text x j) (same_answer path j);
          head = λ path n. read_of (λ x. same_head n x j) (same_answer path j);
          steady = λ path. same_steady_path path j;
          base_kind = λ pid fd. of_opened kind_of_base kind_of_base refl (λ o. refl) pid fd j;
          base_name = λ pid fd. same_base_name pid fd j;
          cwd_name = λ pid. same_cwd_name pid j;
          exe_name = λ pid. same_exe_name pid j;
        }

    -- ---- texts of links

    same_process_text : (at : ProcAt) → process_text caller b at ≡ process_text caller s at
    same_process_text SelfLink = refl
    same_process_text (Dir pid) = refl
    same_process_text (Cwd pid) = same_cwd_name pid
    same_process_text (Root pid) =
        of_process (option_and_then (λ p. name_text (host_space b) (root_place plain) 0 [])) (option_and_then (λ p. name_text (host_space s) (root_place plain) 0 [])) refl
        (λ p. same_name (root_place plain) 0 []) pid
    same_process_text (Exe pid) = same_exe_name pid
    same_process_text (FdDir pid) = refl
    same_process_text (Fd pid fd) = same_base_text pid fd

    pub same_text : (x : Host) → text_on_host caller b x ≡ text_on_host caller s x
    same_text (Node i) = refl
    same_text (Proc i at) = same_process_text at

pub peeks_are_bare : (M N : Type 0) → PeeksAreBare M N
peeks_are_bare M N pins less s w caller e = sym (same_peeks M pins s caller) ∙ ap (λ x. peeked_of x caller) e ∙ same_peeks N less w caller

pub host_walks_are_bare : (M N : Type 0) → HostWalksAreBare M N
host_walks_are_bare M N pins less s w caller mode base path e =
    sym (same_walk M pins s caller mode base path) ∙ ap (λ x. place_walk (host_around_of x caller) mode base path) e ∙ same_walk N less w caller mode base path

-- ---- what is asked of both

module _ (M N : Type 0) (pins less : ℕ → ℕ) (s : State M Image) (w : State N Image) (e : AreEqualButForMounts pins less s w) where
  pub same_directories : (x : Host) → is_directory_at s.tree x ≡ is_directory_at w.tree x
  same_directories x = sym (same_directory_at pins s.tree x) ∙ ap (λ (y : State (Unit {0}) Layout). is_directory_at y.tree x) e ∙ same_directory_at less w.tree x

  pub same_texts : (caller : ℕ) (x : Host) → text_on_host caller s x ≡ text_on_host caller w x
  same_texts caller x = sym (same_text M pins s caller x) ∙ ap (λ (y : State (Unit {0}) Layout). text_on_host caller y x) e ∙ same_text N less w caller x

  pub same_cwd_names : (pid : ℕ) → cwd_name s pid ≡ cwd_name w pid
  same_cwd_names pid = sym (same_cwd_name M pins s pid) ∙ ap (λ (y : State (Unit {0}) Layout). cwd_name y pid) e ∙ same_cwd_name N less w pid
