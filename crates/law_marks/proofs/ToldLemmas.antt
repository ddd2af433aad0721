-- What calls know of a state without marks, and what they are told of their paths.
use Rattle.std.specs.FinMap as map
use Rattle.std.proofs.Common.{◌≡◌, ℕ, cond, List, [], ◌∷◌, Option, Some, None, Result, Ok, Err, refl, ap, ◌∙◌}
use Rattle.std.specs.Prelude.{drop, map as map_list, sum}
use Rattle.std.specs.Option.{option_and_then, option_map, option_map_or}
use Rattle.kr_turns.specs.kr_model.pr_base.Paths.{is_absolute}
use Rattle.kr_turns.specs.kr_model.pr_base.declared.errno.Errno.{Errno}
use Rattle.kr_turns.specs.kr_model.pr_base.declared.errno.Errno.TheVariants.{EBADF, ENOENT}
use Rattle.kr_turns.specs.kr_model.kr_calls.CallTable.{Told, ToldNothing, LooksAt, ReadsLinkAt, OpensAt, TakesAt, MakesAt, LinksTwo, MovesTwo, NamesHere, line}
use Rattle.kr_turns.specs.kr_model.kr_calls.PathTable.{path_at}
use Rattle.kr_turns.specs.kr_model.kr_calls.PathUses.{PathUse}
use Rattle.kr_turns.specs.kr_model.kr_calls.declared.request.Request.{Request}
use Rattle.kr_turns.specs.kr_model.kr_files.Files.{has_reader, has_writer}
use Rattle.kr_turns.specs.kr_model.kr_files.WithoutMounts.{without_mount}
use Rattle.kr_turns.specs.kr_model.kr_files.declared.opened.Opened.{Opened}
use Rattle.kr_turns.specs.kr_model.kr_tree.declared.place.Host.{Host}
use Rattle.kr_turns.specs.kr_model.kr_tree.declared.place.Host.TheVariants.{Node, Proc}
use Rattle.kr_turns.specs.kr_model.kr_tree.declared.place.Place.{Place}
use Rattle.kr_turns.specs.kr_model.kr_tree.declared.place.ProcAt.{ProcAt}
use Rattle.kr_turns.specs.kr_model.kr_tree.declared.place.ProcAt.TheVariants.{SelfLink, Dir, Cwd, Root, Exe, FdDir, Fd}
use Rattle.kr_turns.specs.kr_model.kr_view.Component.{Namespace}
use Rattle.kr_turns.specs.kr_model.kr_view.Living.{Living, finds_among}
use Rattle.kr_turns.specs.kr_model.kr_view.View.{Row, root_place}
use Rattle.kr_turns.specs.kr_model.kr_view.Walk.{place_walk}
use Rattle.kr_turns.specs.kr_model.kr_view.declared.procs.Lead.{Lead}
use Rattle.kr_turns.specs.kr_model.kr_view.declared.procs.Lead.TheVariants.{NoLink}
use Rattle.kr_turns.specs.kr_model.Applied.{with_image}
use Rattle.kr_turns.specs.kr_model.Asking.{descriptor_number, is_working_directory}
use Rattle.kr_turns.specs.kr_model.Known.{caller_of, fact_at, family_of, known, no_caller, pages_in_all}
use Rattle.kr_turns.specs.kr_model.ProcessDirectory.{around_of, jump_to, lead_of_open, leads_of, link_text, living_of, name_text, open_text, space_of}
use Rattle.kr_turns.specs.kr_model.Seen.{NamesDirectory, ReadsLink}
use Rattle.kr_turns.specs.kr_model.State.{Image, Process, State, image_layout, opened, process}
use Rattle.kr_turns.specs.kr_model.Walks.{Targets, and_then, base_of, if_found, of_one, place_of_descriptor, place_of_open, seen, seen_of, target_at, targets_of, text_at, told_by, walked}
use Rattle.law_marks.specs.Laws.{CallsSeeNoMarks}
use Rattle.law_marks.specs.Unmarked.{unmarked_image, unmarked_in}
use Rattle.law_marks.proofs.MemoryLemmas.{layout-unmarked}
use Rattle.law_marks.proofs.ProcessLemmas.{cwd-each, opened-each, process-each}

-- ---- lists and options

all_told : {A B : Type 0} (tell : A → B) (f : A → A) → ((x : A) → tell (f x) ≡ tell x) → (xs : List A) → map_list tell (map_list f xs) ≡ map_list tell xs
all_told tell f same [] = refl
all_told tell f same (x ∷ xs) = λ i. same x i ∷ all_told tell f same xs i

or_told : {A B : Type 0} (tell : A → B) (f : A → A) (other : B) → ((x : A) → tell (f x) ≡ tell x) → (o : Option A) → option_map_or tell (option_map f o) other ≡ option_map_or tell o other
or_told tell f other same None = refl
or_told tell f other same (Some x) = same x

then_told : {A B : Type 0} (tell : A → Option B) (f : A → A) → ((x : A) → tell (f x) ≡ tell x) → (o : Option A) → option_and_then tell (option_map f o) ≡ option_and_then tell o
then_told tell f same None = refl
then_told tell f same (Some x) = same x

module _ (table : List Row) (s : State ℕ Image) where
  abbrev t : State ℕ Image
  t = unmarked_in s

  abbrev bare : Process ℕ Image → Process ℕ Image
  bare = with_image unmarked_image

  found : (q : ℕ) → process q t ≡ option_map bare (process q s)
  found q = process-each unmarked_image q s

  open_same : (q fd : ℕ) → opened q fd t ≡ opened q fd s
  open_same q fd = opened-each unmarked_image q fd s

  -- ---- what walks go through

  abbrev shown : Process ℕ Image → Living
  shown p = record { pid = p.pid; fds = map_list (λ e. e.0) (map.entries p.descs) }

  living-same : living_of t ≡ living_of s
  living-same = all_told shown bare (λ p. refl) s.living

  space-same : space_of table t ≡ space_of table s
  space-same = ap (λ living. record { table = table; tree = s.tree; user = s.user; finds = finds_among living }) living-same

  lead-same : (q : ℕ) (f : Namespace → Process ℕ Image → Lead ℕ) → ((p : Process ℕ Image) → f (space_of table s) (bare p) ≡ f (space_of table s) p)
      → option_map_or (f (space_of table t)) (process q t) NoLink ≡ option_map_or (f (space_of table s)) (process q s) NoLink
  lead-same q f same = (λ i. option_map_or (f (space-same i)) (found q i) NoLink) ∙ or_told (f (space_of table s)) bare NoLink same (process q s)

  leads-same : (caller : ℕ) (at : ProcAt) → leads_of table t caller at ≡ leads_of table s caller at
  leads-same caller SelfLink = refl
  leads-same caller (Dir q) = refl
  leads-same caller (Cwd q) = lead-same q (λ space p. jump_to space p.cwd 0 []) (λ p. refl)
  leads-same caller (Root q) = lead-same q (λ space p. jump_to space (root_place table) 0 []) (λ p. refl)
  leads-same caller (Exe q) = lead-same q (λ space p. jump_to space p.exe p.exe_dir p.exe_name) (λ p. refl)
  leads-same caller (FdDir q) = refl
  leads-same caller (Fd q fd) = λ i. option_map_or (lead_of_open (space-same i)) (open_same q fd i) NoLink

  pub around-same : (caller : ℕ) → around_of table caller t ≡ around_of table caller s
  around-same caller = λ i. record { space = space-same i; leads = λ at. leads-same caller at i }

  -- ---- the texts of links

  text-same : (q : ℕ) (f : Namespace → Process ℕ Image → Option (List ℕ)) → ((p : Process ℕ Image) → f (space_of table s) (bare p) ≡ f (space_of table s) p)
      → option_and_then (f (space_of table t)) (process q t) ≡ option_and_then (f (space_of table s)) (process q s)
  text-same q f same = (λ i. option_and_then (f (space-same i)) (found q i)) ∙ then_told (f (space_of table s)) bare same (process q s)

  link-same : (caller : ℕ) (at : ProcAt) → link_text table t caller at ≡ link_text table s caller at
  link-same caller SelfLink = refl
  link-same caller (Dir q) = refl
  link-same caller (Cwd q) = text-same q (λ space p. name_text space p.cwd 0 []) (λ p. refl)
  link-same caller (Root q) = text-same q (λ space p. name_text space (root_place table) 0 []) (λ p. refl)
  link-same caller (Exe q) = text-same q (λ space p. name_text space p.exe p.exe_dir p.exe_name) (λ p. refl)
  link-same caller (FdDir q) = refl
  link-same caller (Fd q fd) = λ i. option_and_then (open_text (space-same i)) (open_same q fd i)

  module _ (pid : ℕ) where
    cwd-same : option_map (λ (p : Process ℕ Image). p.cwd) (process pid t) ≡ option_map (λ (p : Process ℕ Image). p.cwd) (process pid s)
    cwd-same = cwd-each unmarked_image pid s

    host-same : (host : Host) → text_at table pid t host ≡ text_at table pid s host
    host-same (Node i) = refl
    host-same (Proc i at) = link-same pid at

    -- ---- walks

    descriptor-same : (fd : Option ℕ) → place_of_descriptor table pid t fd ≡ place_of_descriptor table pid s fd
    descriptor-same None = refl
    descriptor-same (Some fd) = ap (λ (o : Option (Opened ℕ)). option_map_or place_of_open o (Err EBADF)) (open_same pid fd)

    base-same : (u : PathUse) → base_of table pid t u ≡ base_of table pid s u
    base-same u = λ i.
        cond (is_absolute u.text) (Ok (root_place table))
        (cond (is_working_directory u.dirfd) (option_map_or (λ p. Ok p) (cwd-same i) (Err ENOENT)) (descriptor-same (descriptor_number u.dirfd) i))

    walk-same : (u : PathUse) (path : List ℕ) → walked table pid t u path ≡ walked table pid s u path
    walk-same u [] = refl
    walk-same u (b ∷ path) = λ i. and_then (base-same u i) (λ base. and_then (place_walk (around-same pid i) u.mode base (b ∷ path)).answer (λ target. Ok (Some target)))

    target-same : (o : Option PathUse) → target_at table pid t o ≡ target_at table pid s o
    target-same None = refl
    target-same (Some u) = walk-same u u.text

    pub targets-same : (r : Request) → targets_of table pid t r ≡ targets_of table pid s r
    targets-same r = λ i. and_then (target-same (path_at r 0) i) (λ first. and_then (target-same (path_at r 1) i) (λ second. Ok (record { first = first; second = second })))

    -- ---- what is told

    told-same : (told : Told) (targets : Targets) → told_by table pid t told targets ≡ told_by table pid s told targets
    told-same ToldNothing targets = refl
    told-same (LooksAt how u) targets = refl
    told-same (ReadsLinkAt u) targets = λ i. of_one targets (λ target. if_found table pid s target (λ l. ReadsLink l (host-same l.host i)))
    told-same (OpensAt flags u) targets = refl
    told-same (TakesAt u) targets = refl
    told-same (MakesAt u) targets = refl
    told-same (LinksTwo how old new) targets = refl
    told-same (MovesTwo old new) targets = refl
    told-same NamesHere targets = λ i. NamesDirectory (option_and_then (λ (p : Place ℕ). name_text (space-same i) p 0 []) (cwd-same i))

    pub seen-same : (r : Request) → seen table pid t r ≡ seen table pid s r
    seen-same r = ap (seen_of table pid t r) (targets-same r) ∙ by (targets_of table pid s r)
      where
        by : (o : Result Targets Errno) → seen_of table pid t r o ≡ seen_of table pid s r o
        by (Ok targets) = told-same (line r).told targets
        by (Err e) = refl

-- ---- what is known

module _ (pid : ℕ) (s : State ℕ Image) where
  abbrev one : Process ℕ Image → Process ℕ Image
  one = with_image unmarked_image

  caller-same : option_map_or (caller_of image_layout) (process pid (unmarked_in s)) no_caller ≡ option_map_or (caller_of image_layout) (process pid s) no_caller
  caller-same = ap (λ o. option_map_or (caller_of image_layout) o no_caller) (process-each unmarked_image pid s) ∙ or_told (caller_of image_layout) one no_caller same (process pid s)
    where
      same : (p : Process ℕ Image) → caller_of image_layout (one p) ≡ caller_of image_layout p
      same p =
          ap (λ layout. record { parent = p.parent; layout = layout; brk_start = p.brk_start; brk = p.brk; descs = p.descs; cwd = p.cwd.host; umask = p.umask }) (layout-unmarked p.image.memory.pages)

  pub pages-same : pages_in_all image_layout (unmarked_in s).living ≡ pages_in_all image_layout s.living
  pages-same = ap sum (all_told (λ (p : Process ℕ Image). map.len (image_layout p.image)) one (λ p. ap map.len (layout-unmarked p.image.memory.pages)) s.living)

  pub known-same : known image_layout pid (unmarked_in s) ≡ known image_layout pid s
  known-same =
      let callers = caller-same in
      let files : (fd : ℕ) → option_map without_mount (opened pid fd (unmarked_in s)) ≡ option_map without_mount (opened pid fd s) = λ fd. ap (option_map without_mount) (opened-each unmarked_image pid fd s) in
      let families : map_list (family_of image_layout) (map_list one s.living) ≡ map_list (family_of image_layout) s.living = all_told (family_of image_layout) one (λ p. refl) s.living in
      let pages = pages-same in
      λ j. record {
        caller = callers j;
        user = s.user;
        opened = λ fd. files fd j;
        pipe = λ p. map.get s.files.pipes p;
        reader = λ p. has_reader s.files p;
        writer = λ p. has_writer s.files p;
        pipes = map.len s.files.pipes;
        fact = fact_at s.tree;
        sizes = record { inodes = map.len s.tree.inodes; names = s.tree.names; bytes = s.tree.bytes; next = s.tree.next };
        input = drop s.taken s.input;
        living = families j;
        ended = s.ended;
        next_pid = s.next_pid;
        pages = pages j;
      }

pub calls_see_no_marks : CallsSeeNoMarks
calls_see_no_marks = record {
  known = known-same;
  around = λ table caller s. around-same table s caller;
  targets = λ table pid s r. targets-same table s pid r;
  seen = λ table pid s r. seen-same table s pid r;
}
