-- What calls know of a state with another thing in place of what processes compute on, what they are told of their paths, and what their walks reach.
use Rattle.std.specs.FinMap as map
use Rattle.std.proofs.Common.{◌≡◌, ℕ, cond, List, [], ◌∷◌, Option, Some, None, Result, Ok, Err, refl, sym, ap, ◌∙◌}
use Rattle.std.specs.Prelude.{drop, map as map_list, sum}
use Rattle.std.specs.Option.{option_and_then, option_map, option_map_or}
use Rattle.kr_core.specs.pr_base.Paths.{is_absolute}
use Rattle.kr_core.specs.pr_base.declared.errno.Errno.{Errno}
use Rattle.kr_core.specs.pr_base.declared.errno.Errno.TheVariants.{EBADF, ENOENT}
use Rattle.kr_core.specs.kr_calls.CallTable.{Told, ToldNothing, LooksAt, ReadsLinkAt, OpensAt, TakesAt, MakesAt, LinksTwo, MovesTwo, NamesHere, line}
use Rattle.kr_core.specs.kr_calls.PathTable.{path_at}
use Rattle.kr_core.specs.kr_calls.PathUses.{PathUse}
use Rattle.kr_core.specs.kr_calls.declared.request.Request.{Request}
use Rattle.kr_core.specs.kr_files.Files.{has_reader, has_writer}
use Rattle.kr_core.specs.kr_files.WithoutMounts.{without_mount}
use Rattle.kr_core.specs.kr_files.declared.opened.Opened.{Opened}
use Rattle.kr_core.specs.kr_tree.declared.place.Host.{Host}
use Rattle.kr_core.specs.kr_tree.declared.place.Host.TheVariants.{Node, Proc}
use Rattle.kr_core.specs.kr_tree.declared.place.Place.{Place}
use Rattle.kr_core.specs.kr_tree.declared.place.ProcAt.{ProcAt}
use Rattle.kr_core.specs.kr_tree.declared.place.ProcAt.TheVariants.{SelfLink, Dir, Cwd, Root, Exe, FdDir, Fd}
use Rattle.kr_core.specs.kr_view.Component.{Namespace, Surroundings}
use Rattle.kr_core.specs.kr_view.Living.{Living, finds_among}
use Rattle.kr_core.specs.kr_view.Reach.{reach_after}
use Rattle.kr_core.specs.kr_view.View.{Row, root_place}
use Rattle.kr_core.specs.kr_view.Walk.{PlaceTarget, place_walk}
use Rattle.kr_core.specs.kr_view.declared.procs.Lead.{Lead}
use Rattle.kr_core.specs.kr_view.declared.procs.Lead.TheVariants.{NoLink}
use Rattle.kr_core.specs.kr_view.declared.target.Reach.{Reach}
use Rattle.kr_core.specs.kr_model.Applied.{cwd_of}
use Rattle.kr_core.specs.kr_model.Asking.{descriptor_number, is_working_directory}
use Rattle.kr_core.specs.kr_model.Known.{caller_of, fact_at, family_of, known, no_caller, pages_in_all}
use Rattle.kr_core.specs.kr_model.ProcessDirectory.{around_of, jump_to, lead_of_open, leads_of, link_text, living_of, name_text, open_text, space_of}
use Rattle.kr_core.specs.kr_model.Seen.{NamesDirectory, ReadsLink}
use Rattle.kr_core.specs.kr_model.State.{Image, Layout, Process, State, image_layout, opened, process}
use Rattle.kr_core.specs.kr_model.Walks.{Targets, and_then, base_of, if_found, of_one, place_of_descriptor, place_of_open, seen, seen_of, target_at, targets_of, text_at, told_by, walked}
use Rattle.kr_core.specs.kr_seen.CallWalks.{call_reach, path_reach, second_reach, walk_reach}
use Rattle.law_beside.specs.Beside.{imaged_by, imaged_in, laid, laid_process}
use Rattle.law_beside.specs.Calls.{CallsKnowLayouts}
use Rattle.law_beside.proofs.ImagedLemmas.{cwd-imaged, opened-imaged, process-imaged}

-- ---- lists and options

all-told : {A B C : Type 0} (tell : A → C) (told : B → C) (f : A → B) → ((x : A) → told (f x) ≡ tell x) → (xs : List A) → map_list told (map_list f xs) ≡ map_list tell xs
all-told tell told f same [] = refl
all-told tell told f same (x ∷ xs) = λ i. same x i ∷ all-told tell told f same xs i

or-told : {A B C : Type 0} (tell : A → C) (told : B → C) (f : A → B) (other : C) → ((x : A) → told (f x) ≡ tell x) → (o : Option A) → option_map_or told (option_map f o) other ≡ option_map_or tell o other
or-told tell told f other same None = refl
or-told tell told f other same (Some x) = same x

then-told : {A B C : Type 0} (tell : A → Option C) (told : B → Option C) (f : A → B) → ((x : A) → told (f x) ≡ tell x) → (o : Option A) → option_and_then told (option_map f o) ≡ option_and_then tell o
then-told tell told f same None = refl
then-told tell told f same (Some x) = same x

module _ {X Y : Type 0} (h : ℕ → X → Y) (table : List Row) (s : State ℕ X) where
  abbrev t : State ℕ Y
  t = imaged_in h s

  abbrev one : Process ℕ X → Process ℕ Y
  one p = imaged_by h p

  found : (q : ℕ) → process q t ≡ option_map one (process q s)
  found q = process-imaged h q s

  open-same : (q fd : ℕ) → opened q fd t ≡ opened q fd s
  open-same q fd = opened-imaged h q fd s

  -- ---- what walks go through

  abbrev shown : {Z : Type 0} → Process ℕ Z → Living
  shown p = record { pid = p.pid; fds = map_list (λ e. e.0) (map.entries p.descs) }

  living-same : living_of t ≡ living_of s
  living-same = all-told shown shown one (λ p. refl) s.living

  space-same : space_of table t ≡ space_of table s
  space-same = ap (λ (living : List Living). record { table = table; tree = s.tree; user = s.user; finds = finds_among living }) living-same

  lead-same : (q : ℕ) (f : Namespace → Process ℕ X → Lead ℕ) (g : Namespace → Process ℕ Y → Lead ℕ) → ((p : Process ℕ X) → g (space_of table s) (one p) ≡ f (space_of table s) p)
      → option_map_or (g (space_of table t)) (process q t) NoLink ≡ option_map_or (f (space_of table s)) (process q s) NoLink
  lead-same q f g same = (λ i. option_map_or (g (space-same i)) (found q i) NoLink) ∙ or-told (f (space_of table s)) (g (space_of table s)) one NoLink same (process q s)

  leads-same : (caller : ℕ) (at : ProcAt) → leads_of table t caller at ≡ leads_of table s caller at
  leads-same caller SelfLink = refl
  leads-same caller (Dir q) = refl
  leads-same caller (Cwd q) = lead-same q (λ space p. jump_to space p.cwd 0 []) (λ space p. jump_to space p.cwd 0 []) (λ p. refl)
  leads-same caller (Root q) = lead-same q (λ space p. jump_to space (root_place table) 0 []) (λ space p. jump_to space (root_place table) 0 []) (λ p. refl)
  leads-same caller (Exe q) = lead-same q (λ space p. jump_to space p.exe p.exe_dir p.exe_name) (λ space p. jump_to space p.exe p.exe_dir p.exe_name) (λ p. refl)
  leads-same caller (FdDir q) = refl
  leads-same caller (Fd q fd) = λ i. option_map_or (lead_of_open (space-same i)) (open-same q fd i) NoLink

  pub around-same : (caller : ℕ) → around_of table caller (imaged_in h s) ≡ around_of table caller s
  around-same caller = λ i. record { space = space-same i; leads = λ at. leads-same caller at i }

  -- ---- the texts of links

  text-same : (q : ℕ) (f : Namespace → Process ℕ X → Option (List ℕ)) (g : Namespace → Process ℕ Y → Option (List ℕ)) → ((p : Process ℕ X) → g (space_of table s) (one p) ≡ f (space_of table s) p)
      → option_and_then (g (space_of table t)) (process q t) ≡ option_and_then (f (space_of table s)) (process q s)
  text-same q f g same = (λ i. option_and_then (g (space-same i)) (found q i)) ∙ then-told (f (space_of table s)) (g (space_of table s)) one same (process q s)

  link-same : (caller : ℕ) (at : ProcAt) → link_text table t caller at ≡ link_text table s caller at
  link-same caller SelfLink = refl
  link-same caller (Dir q) = refl
  link-same caller (Cwd q) = text-same q (λ space p. name_text space p.cwd 0 []) (λ space p. name_text space p.cwd 0 []) (λ p. refl)
  link-same caller (Root q) = text-same q (λ space p. name_text space (root_place table) 0 []) (λ space p. name_text space (root_place table) 0 []) (λ p. refl)
  link-same caller (Exe q) = text-same q (λ space p. name_text space p.exe p.exe_dir p.exe_name) (λ space p. name_text space p.exe p.exe_dir p.exe_name) (λ p. refl)
  link-same caller (FdDir q) = refl
  link-same caller (Fd q fd) = λ i. option_and_then (open_text (space-same i)) (open-same q fd i)

  module _ (pid : ℕ) where
    cwd-same : option_map (λ (p : Process ℕ Y). p.cwd) (process pid t) ≡ option_map (λ (p : Process ℕ X). p.cwd) (process pid s)
    cwd-same = cwd-imaged h pid s

    host-same : (host : Host) → text_at table pid t host ≡ text_at table pid s host
    host-same (Node i) = refl
    host-same (Proc i at) = link-same pid at

    -- ---- walks

    descriptor-same : (fd : Option ℕ) → place_of_descriptor table pid t fd ≡ place_of_descriptor table pid s fd
    descriptor-same None = refl
    descriptor-same (Some fd) = ap (λ (o : Option (Opened ℕ)). option_map_or place_of_open o (Err EBADF)) (open-same pid fd)

    pub base-same : (u : PathUse) → base_of table pid (imaged_in h s) u ≡ base_of table pid s u
    base-same u = λ i.
        cond (is_absolute u.text) (Ok (root_place table))
        (cond (is_working_directory u.dirfd) (option_map_or (λ p. Ok p) (cwd-same i) (Err ENOENT)) (descriptor-same (descriptor_number u.dirfd) i))

    walk-same : (u : PathUse) (path : List ℕ) → walked table pid t u path ≡ walked table pid s u path
    walk-same u [] = refl
    walk-same u (b ∷ path) = λ i. and_then (base-same u i) (λ base. and_then (place_walk (around-same pid i) u.mode base (b ∷ path)).answer (λ target. Ok (Some target)))

    pub target-same : (o : Option PathUse) → target_at table pid (imaged_in h s) o ≡ target_at table pid s o
    target-same None = refl
    target-same (Some u) = walk-same u u.text

    pub targets-same : (r : Request) → targets_of table pid (imaged_in h s) r ≡ targets_of table pid s r
    targets-same r = λ i. and_then (target-same (path_at r 0) i) (λ first. and_then (target-same (path_at r 1) i) (λ second. Ok (record { first = first; second = second })))

    -- ---- what is told

    told-same : (told : Told) (targets : Targets) → told_by table pid t told targets ≡ told_by table pid s told targets
    told-same ToldNothing targets = refl
    told-same (LooksAt how u) targets = refl
    told-same (ReadsLinkAt u) targets = λ i. of_one targets (λ target. if_found table pid s target (λ l. ReadsLink l (host-same l.host i)))
    told-same (OpensAt flags u) targets = refl
    told-same (TakesAt u) targets = refl
    told-same (MakesAt u) targets = refl
    told-same (LinksTwo how old new) targets = refl
    told-same (MovesTwo old new) targets = refl
    told-same NamesHere targets = λ i. NamesDirectory (option_and_then (λ (p : Place ℕ). name_text (space-same i) p 0 []) (cwd-same i))

    pub seen-same : (r : Request) → seen table pid (imaged_in h s) r ≡ seen table pid s r
    seen-same r = ap (seen_of table pid t r) (targets-same r) ∙ by (targets_of table pid s r)
      where
        by : (o : Result Targets Errno) → seen_of table pid t r o ≡ seen_of table pid s r o
        by (Ok targets) = told-same (line r).told targets
        by (Err e) = refl

    -- ---- what is reached

    walk-reached : (u : PathUse) (path : List ℕ) (base : Result (Place ℕ) Errno) (r : Reach) → walk_reach table pid t u path base r ≡ walk_reach table pid s u path base r
    walk-reached u [] base r = refl
    walk-reached u (b ∷ path) (Ok base) r = ap (λ (around : Surroundings). reach_after around u.mode (place_walk around u.mode base (b ∷ path)) r) (around-same pid)
    walk-reached u (b ∷ path) (Err e) r = refl

    path-reached : (o : Option PathUse) (r : Reach) → path_reach table pid t o r ≡ path_reach table pid s o r
    path-reached None r = refl
    path-reached (Some u) r = ap (λ (base : Result (Place ℕ) Errno). walk_reach table pid t u u.text base r) (base-same u) ∙ walk-reached u u.text (base_of table pid s u) r

    second-reached : (target : Result (Option PlaceTarget) Errno) (o : Option PathUse) (r : Reach) → second_reach table pid t target o r ≡ second_reach table pid s target o r
    second-reached (Ok target) o r = path-reached o r
    second-reached (Err e) o r = refl

    pub call-reached : (request : Request) (r : Reach) → call_reach table pid (imaged_in h s) request r ≡ call_reach table pid s request r
    call-reached request r =
        (λ i. second_reach table pid t (target-same (path_at request 0) i) (path_at request 1) (path-reached (path_at request 0) r i))
        ∙ second-reached (target_at table pid s (path_at request 0)) (path_at request 1) (path_reach table pid s (path_at request 0) r)

-- ---- what is known

module _ (pid : ℕ) (s : State ℕ Image) where
  abbrev layout_by : ℕ → Image → Layout
  layout_by n image = image_layout image

  abbrev itself : Layout → Layout
  itself l = l

  caller-same : option_map_or (caller_of itself) (process pid (laid s)) no_caller ≡ option_map_or (caller_of image_layout) (process pid s) no_caller
  caller-same =
      ap (λ (o : Option (Process ℕ Layout)). option_map_or (caller_of itself) o no_caller) (process-imaged layout_by pid s)
      ∙ or-told (λ (p : Process ℕ Image). caller_of image_layout p) (λ (p : Process ℕ Layout). caller_of itself p) laid_process no_caller (λ p. refl) (process pid s)

  pub pages-laid : pages_in_all (λ (l : Layout). l) (laid s).living ≡ pages_in_all image_layout s.living
  pages-laid = ap sum (all-told (λ (p : Process ℕ Image). map.len (image_layout p.image)) (λ (p : Process ℕ Layout). map.len p.image) laid_process (λ p. refl) s.living)

  pub known-laid : known (λ (l : Layout). l) pid (laid s) ≡ known image_layout pid s
  known-laid =
      let callers = caller-same in
      let files : (fd : ℕ) → option_map without_mount (opened pid fd (laid s)) ≡ option_map without_mount (opened pid fd s) = λ fd. ap (option_map without_mount) (opened-imaged layout_by pid fd s) in
      let families = all-told (λ (p : Process ℕ Image). family_of image_layout p) (λ (p : Process ℕ Layout). family_of itself p) laid_process (λ p. refl) s.living in
      let pages = pages-laid in
      λ j. record {
        caller = callers j;
        user = s.user;
        opened = λ fd. files fd j;
        pipe = λ p. map.get s.files.pipes p;
        reader = λ p. has_reader s.files p;
        writer = λ p. has_writer s.files p;
        pipes = map.len s.files.pipes;
        fact = fact_at s.tree;
        sizes = record { inodes = map.len s.tree.inodes; names = s.tree.names; bytes = s.tree.bytes; next = s.tree.next };
        input = drop s.taken s.input;
        living = families j;
        ended = s.ended;
        next_pid = s.next_pid;
        pages = pages j;
      }

-- ---- of two states with the same layouts

module _ (table : List Row) (pid : ℕ) (s t : State ℕ Image) (same : laid s ≡ laid t) where
  abbrev by_layout : ℕ → Image → Layout
  by_layout n image = image_layout image

  pub known-alike : known image_layout pid s ≡ known image_layout pid t
  known-alike = sym (known-laid pid s) ∙ ap (known (λ (l : Layout). l) pid) same ∙ known-laid pid t

  pub pages-alike : pages_in_all image_layout s.living ≡ pages_in_all image_layout t.living
  pages-alike = sym (pages-laid pid s) ∙ ap (λ (l : State ℕ Layout). pages_in_all (λ (l : Layout). l) l.living) same ∙ pages-laid pid t

  pub cwd-alike : cwd_of pid s ≡ cwd_of pid t
  cwd-alike = sym (cwd-imaged by_layout pid s) ∙ ap (cwd_of pid) same ∙ cwd-imaged by_layout pid t

  pub around-alike : around_of table pid s ≡ around_of table pid t
  around-alike = sym (around-same by_layout table s pid) ∙ ap (around_of table pid) same ∙ around-same by_layout table t pid

  pub targets-alike : (r : Request) → targets_of table pid s r ≡ targets_of table pid t r
  targets-alike r = sym (targets-same by_layout table s pid r) ∙ ap (λ (l : State ℕ Layout). targets_of table pid l r) same ∙ targets-same by_layout table t pid r

  pub seen-alike : (r : Request) → seen table pid s r ≡ seen table pid t r
  seen-alike r = sym (seen-same by_layout table s pid r) ∙ ap (λ (l : State ℕ Layout). seen table pid l r) same ∙ seen-same by_layout table t pid r

  pub reached-alike : (r : Request) (before : Reach) → call_reach table pid s r before ≡ call_reach table pid t r before
  reached-alike r before = sym (call-reached by_layout table s pid r before) ∙ ap (λ (l : State ℕ Layout). call_reach table pid l r before) same ∙ call-reached by_layout table t pid r before

pub calls_know_layouts : CallsKnowLayouts
calls_know_layouts = record {
  known = λ pid s. sym (known-laid pid s);
  around = λ table caller s. sym (around-same (λ (n : ℕ). image_layout) table s caller);
  targets = λ table pid s r. sym (targets-same (λ (n : ℕ). image_layout) table s pid r);
  seen = λ table pid s r. sym (seen-same (λ (n : ℕ). image_layout) table s pid r);
}
