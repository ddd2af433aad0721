-- What a call knows of a state that has bytes, and what it is told of its paths, are of bytes.
use Rattle.std.proofs.Common.{◌≡◌, ℕ, Bool, true, false, cond, List, [], ◌∷◌, ◌++◌, refl, subst, Option, Some, None}
use Rattle.std.specs.Prelude.{◌==◌, Err, IfSome, Ok, Result, codes}
use Rattle.std.specs.Fmt.{decimal}
use Rattle.std.specs.Option.{option_and_then, option_map, option_map_or}
use Rattle.kr_first.specs.pr_base.declared.errno.Errno.{Errno}
use Rattle.kr_first.specs.pr_base.declared.errno.Errno.TheVariants.{ENOENT}
use Rattle.kr_first.specs.pr_base.declared.path.Last.{Last}
use Rattle.kr_first.specs.pr_base.declared.path.Last.TheVariants as last
use Rattle.kr_first.specs.kr_calls.CallTable.{Told, ToldNothing, LooksAt, ReadsLinkAt, OpensAt, TakesAt, MakesAt, LinksTwo, MovesTwo, NamesHere, line}
use Rattle.kr_first.specs.kr_calls.PathTable.{PathUse, path_at}
use Rattle.kr_first.specs.kr_calls.declared.request.Request.{Request}
use Rattle.kr_first.specs.kr_tree.Lawful.{AreBytes, IsOfBytes}
use Rattle.kr_first.specs.kr_tree.Tree.{Inode, inode}
use Rattle.kr_first.proofs.kr_tree.NameLemmas.{some_is}
use Rattle.kr_first.specs.kr_tree.declared.place.Host.{Host}
use Rattle.kr_first.specs.kr_tree.declared.place.Host.TheVariants.{Node, Proc}
use Rattle.kr_first.specs.kr_tree.declared.place.Place.{Place}
use Rattle.kr_first.specs.kr_tree.declared.place.ProcAt.{ProcAt}
use Rattle.kr_first.specs.kr_tree.declared.place.ProcAt.TheVariants.{Cwd, Dir, Exe, Fd, FdDir, Root, SelfLink}
use Rattle.kr_first.specs.kr_view.Component.{is_directory_at}
use Rattle.kr_first.specs.kr_view.Names.{guest_name}
use Rattle.kr_first.specs.kr_view.View.{Row, is_there, root_place, row, source, source_entry}
use Rattle.kr_first.specs.kr_view.Walk.{PlaceTarget, place_walk}
use Rattle.kr_first.specs.kr_view.declared.procs.Lead.{Lead}
use Rattle.kr_first.specs.kr_view.declared.procs.Lead.TheVariants.{Jump, NoLink, Nameless}
use Rattle.kr_first.specs.kr_procfs.Objects.{pipe_text}
use Rattle.kr_first.specs.kr_files.Descriptors.{Named}
use Rattle.kr_first.specs.kr_files.Files.{file_at}
use Rattle.kr_first.specs.kr_files.declared.opened.Opened.{Opened}
use Rattle.kr_first.specs.kr_files.declared.opened.What.{What}
use Rattle.kr_first.specs.kr_files.declared.opened.What.TheVariants.{Dir as DirOpen, Err as ErrOpen, File, In, Out, PipeRead, PipeWrite}
use Rattle.kr_first.specs.kr_model.Applied.{cwd_of}
use Rattle.kr_first.specs.kr_model.FileRows.{creates}
use Rattle.kr_first.specs.kr_model.Known.{Fact, known}
use Rattle.kr_first.specs.kr_model.ProcessDirectory.{around_of, jump_to, lead_of_open, leads_of, link_text, name_text, open_text, remembered, space_of, unplaced_text}
use Rattle.kr_first.specs.kr_model.Seen.{Links, Looked, LooksUp, Makes, MakesEntry, MakesNoName, MakesOver, NoPath, Opens, OpensFound, OpensNew, OpensNoName, OpensSlashed, ReadsLink, Seen, Takes, TakesCovered, TakesEntry, TakesNoName, WalkFails}
use Rattle.kr_first.specs.kr_model.State.{Image, Process, State, image_layout, inode_of, named, opened, process}
use Rattle.kr_first.specs.kr_model.Walks.{Targets, and_then, base_of, created_at, entered, entry_of, if_found, if_name, is_covered, linked_at, looked_at, looks_up, made_at, mount_found, moved_at, of_one, of_two, opened_at, seen, seen_of, taken_at, target_at, targets_of, text_at, told_by, walked}
use Rattle.kr_first.proofs.kr_perform.AroundLemmas.{both}
use Rattle.law_kept.specs.Bringing.{KnowsBytes, LookedHasBytes, MadeHasBytes, OpeningHasBytes, SeenHasBytes, TakenHasBytes}
use Rattle.law_kept.specs.Bytes.{GivesBytes, HasBytes, TableHasBytes}
use Rattle.law_kept.proofs.ListLemmas.{bytes-tested, decimal-bytes, joined, rest-of}
use Rattle.law_kept.proofs.LivingLemmas.{process-bytes}
use Rattle.law_kept.proofs.NameLemmas.{name-text-bytes}
use Rattle.law_kept.proofs.WalkLemmas.{LeadsByBytes, target-bytes}

-- a directory and a name, if there are any
abbrev pub IsByteEntry : Option (ℕ × List ℕ) → Type 0
IsByteEntry o = IfSome o (λ e. AreBytes e.1)

-- ---- what is kept of mounts

-- of the source of a mount the name at which it was settled
pub source-bytes : (table : List Row) → TableHasBytes table → (mount : ℕ) → IsByteEntry (source table mount)
source-bytes table are mount = by (row table mount) refl
  where
    entered : (r : Row) → row table mount ≡ Some r → (b : Bool) → r.is_dir ≡ b → IsByteEntry (cond b None (Some (r.source_dir, r.source_name)))
    entered r is true kind = tt
    entered r is false kind = are.sources mount r is kind

    by : (o : Option Row) → row table mount ≡ o → IsByteEntry (option_and_then source_entry o)
    by None is = tt
    by (Some r) is = entered r is r.is_dir refl

-- ---- what is known

pub knows-bytes : (pid : ℕ) (s : State ℕ Image) → HasBytes s → KnowsBytes (known image_layout pid s)
knows-bytes pid s has = record { nodes = λ i f e. by i f (inode s.tree i) refl e; pipes = has.files.pipes; input = rest-of s.taken s.input has.input }
  where
    by : (i : ℕ) (f : Fact) (o : Option Inode) → inode s.tree i ≡ o → option_map (λ (x : Inode). record { node = x.node; names = x.names; directories = x.directories }) o ≡ Some f → IsOfBytes f.node.body
    by i f None is e = absurd cc
    by i f (Some x) is e = subst (λ (f : Fact). IsOfBytes f.node.body) (some_is (record { node = x.node; names = x.names; directories = x.directories }) f e) (has.tree i x is)

module _ (table : List Row) (are : TableHasBytes table) (pid : ℕ) (s : State ℕ Image) (has : HasBytes s) where
  -- ---- the process directory

  jump-leads : (p : Place ℕ) (dir : ℕ) (name : List ℕ) → AreBytes name → LeadsByBytes (jump_to (space_of table s) p dir name)
  jump-leads p dir name own = by (is_there (guest_name (space_of table s) p (remembered dir name)))
    where
      by : (b : Bool) → LeadsByBytes (cond b (Jump p dir name) Nameless)
      by true = own
      by false = tt

  living-leads : (q : ℕ) (lead : Process ℕ Image → Lead ℕ) → ((p : Process ℕ Image) → process q s ≡ Some p → LeadsByBytes (lead p)) → LeadsByBytes (option_map_or lead (process q s) NoLink)
  living-leads q lead each = by (process q s) refl
    where
      by : (o : Option (Process ℕ Image)) → process q s ≡ o → LeadsByBytes (option_map_or lead o NoLink)
      by None is = tt
      by (Some p) is = each p is

  -- what is open remembers a name of bytes
  pub opened-name : (q fd : ℕ) (o : Opened ℕ) → opened q fd s ≡ Some o → AreBytes o.name
  opened-name q fd o is = by (named q fd s) is
    where
      by : (x : Option Named) → option_and_then (λ (x : Named). file_at s.files x.number) x ≡ Some o → AreBytes o.name
      by None e = absurd cc
      by (Some x) e = has.files.names x.number o e

  open-leads : (o : Opened ℕ) → AreBytes o.name → LeadsByBytes (lead_of_open (space_of table s) o)
  open-leads o own = by o.place
    where
      by : (p : Option (Place ℕ)) → LeadsByBytes (option_map_or (λ (p : Place ℕ). jump_to (space_of table s) p o.dir o.name) p Nameless)
      by None = tt
      by (Some p) = jump-leads p o.dir o.name own

  pub leads-bytes : (at : ProcAt) → LeadsByBytes (leads_of table s pid at)
  leads-bytes SelfLink = decimal-bytes pid
  leads-bytes (Dir q) = tt
  leads-bytes (Cwd q) = living-leads q (λ p. jump_to (space_of table s) p.cwd 0 []) (λ p is. jump-leads p.cwd 0 [] tt)
  leads-bytes (Root q) = living-leads q (λ p. jump_to (space_of table s) (root_place table) 0 []) (λ p is. jump-leads (root_place table) 0 [] tt)
  leads-bytes (Exe q) = living-leads q (λ p. jump_to (space_of table s) p.exe p.exe_dir p.exe_name) (λ p is. jump-leads p.exe p.exe_dir p.exe_name (process-bytes q s has p is).exe_name)
  leads-bytes (FdDir q) = tt
  leads-bytes (Fd q fd) = by (opened q fd s) refl
    where
      by : (o : Option (Opened ℕ)) → opened q fd s ≡ o → LeadsByBytes (option_map_or (lead_of_open (space_of table s)) o NoLink)
      by None is = tt
      by (Some o) is = open-leads o (opened-name q fd o is)

  -- ---- the texts of its links

  pub name-bytes : (p : Place ℕ) (dir : ℕ) (name : List ℕ) → AreBytes name → IfSome (name_text (space_of table s) p dir name) AreBytes
  name-bytes p dir name own = name-text-bytes (space_of table s) has.tree are p dir name own

  pipe-text-bytes : (n : ℕ) → AreBytes (pipe_text n)
  pipe-text-bytes n = joined (codes "pipe:[") (decimal n ++ codes "]") (bytes-tested (codes "pipe:[") refl) (joined (decimal n) (codes "]") (decimal-bytes n) (bytes-tested (codes "]") refl))

  pub unplaced-bytes : (what : What) → IfSome (unplaced_text what) AreBytes
  unplaced-bytes File = tt
  unplaced-bytes DirOpen = tt
  unplaced-bytes In = bytes-tested (codes "console") refl
  unplaced-bytes Out = bytes-tested (codes "console") refl
  unplaced-bytes ErrOpen = bytes-tested (codes "console") refl
  unplaced-bytes (PipeRead p) = pipe-text-bytes p
  unplaced-bytes (PipeWrite p) = pipe-text-bytes p

  open-text-bytes : (o : Opened ℕ) → AreBytes o.name → IfSome (open_text (space_of table s) o) AreBytes
  open-text-bytes o own = by o.place
    where
      by : (p : Option (Place ℕ)) → IfSome (option_map_or (λ (p : Place ℕ). name_text (space_of table s) p o.dir o.name) p (unplaced_text o.what)) AreBytes
      by None = unplaced-bytes o.what
      by (Some p) = name-bytes p o.dir o.name own

  pub living-text : (q : ℕ) (text : Process ℕ Image → Option (List ℕ)) → ((p : Process ℕ Image) → process q s ≡ Some p → IfSome (text p) AreBytes) → IfSome (option_and_then text (process q s)) AreBytes
  living-text q text each = by (process q s) refl
    where
      by : (o : Option (Process ℕ Image)) → process q s ≡ o → IfSome (option_and_then text o) AreBytes
      by None is = tt
      by (Some p) is = each p is

  link-text-bytes : (at : ProcAt) → IfSome (link_text table s pid at) AreBytes
  link-text-bytes SelfLink = decimal-bytes pid
  link-text-bytes (Dir q) = tt
  link-text-bytes (Cwd q) = living-text q (λ p. name_text (space_of table s) p.cwd 0 []) (λ p is. name-bytes p.cwd 0 [] tt)
  link-text-bytes (Root q) = living-text q (λ p. name_text (space_of table s) (root_place table) 0 []) (λ p is. name-bytes (root_place table) 0 [] tt)
  link-text-bytes (Exe q) = living-text q (λ p. name_text (space_of table s) p.exe p.exe_dir p.exe_name) (λ p is. name-bytes p.exe p.exe_dir p.exe_name (process-bytes q s has p is).exe_name)
  link-text-bytes (FdDir q) = tt
  link-text-bytes (Fd q fd) = by (opened q fd s) refl
    where
      by : (o : Option (Opened ℕ)) → opened q fd s ≡ o → IfSome (option_and_then (open_text (space_of table s)) o) AreBytes
      by None is = tt
      by (Some o) is = open-text-bytes o (opened-name q fd o is)

  text-at-bytes : (h : Host) → IfSome (text_at table pid s h) AreBytes
  text-at-bytes (Node i) = tt
  text-at-bytes (Proc i at) = link-text-bytes at

  -- ---- targets

  abbrev IsTargetOfBytes : PlaceTarget → Type 0
  IsTargetOfBytes w = AreBytes w.name

  along : (u : PathUse) (path : List ℕ) → AreBytes path → (w : PlaceTarget) → walked table pid s u path ≡ Ok (Some w) → IsTargetOfBytes w
  along u [] own w is = absurd cc
  along u (b ∷ path) own w is = from-base (base_of table pid s u) is
    where
      answered : (base : Place ℕ) (a : Result PlaceTarget Errno) → (place_walk (around_of table pid s) u.mode base (b ∷ path)).answer ≡ a → and_then a (λ target. Ok (Some target)) ≡ Ok (Some w) → IsTargetOfBytes w
      answered base (Err e) ends is = absurd cc
      answered base (Ok x) ends is = let one : x ≡ w = cc in subst IsTargetOfBytes one (target-bytes (around_of table pid s) has.tree leads-bytes u.mode base (b ∷ path) x ends own)

      from-base : (r : Result (Place ℕ) Errno) → and_then r (λ base. and_then (place_walk (around_of table pid s) u.mode base (b ∷ path)).answer (λ target. Ok (Some target))) ≡ Ok (Some w) → IsTargetOfBytes w
      from-base (Err e) is = absurd cc
      from-base (Ok base) is = answered base (place_walk (around_of table pid s) u.mode base (b ∷ path)).answer refl is

  target-named : (u : Option PathUse) → ((x : PathUse) → u ≡ Some x → AreBytes x.text) → (w : PlaceTarget) → target_at table pid s u ≡ Ok (Some w) → IsTargetOfBytes w
  target-named None own w is = absurd cc
  target-named (Some u) own w is = along u u.text (own u refl) w is

  record AreTargetsOfBytes (targets : Targets) : Type 0 where
    first : IfSome targets.first IsTargetOfBytes
    second : IfSome targets.second IsTargetOfBytes

  targets-named : (r : Request) (targets : Targets) → GivesBytes r → targets_of table pid s r ≡ Ok targets → AreTargetsOfBytes targets
  targets-named r targets gives is =
      let each = both (target_at table pid s (path_at r 0)) (target_at table pid s (path_at r 1)) targets is in
      record { first = one 0 targets.first each.0; second = one 1 targets.second each.1 }
    where
      one : (k : ℕ) (o : Option PlaceTarget) → target_at table pid s (path_at r k) ≡ Ok o → IfSome o IsTargetOfBytes
      one k None is = tt
      one k (Some w) is = target-named (path_at r k) (gives.paths k) w is

  -- ---- what is told of a target

  entry-bytes : (w : PlaceTarget) (p : Place ℕ) → IsTargetOfBytes w → AreBytes (entry_of table pid s w p).1
  entry-bytes w p own = by (source table p.mount) (source-bytes table are p.mount)
    where
      by : (o : Option (ℕ × List ℕ)) → IsByteEntry o → AreBytes (option_map_or (λ (e : ℕ × List ℕ). e) o (inode_of w.dir.host, w.name)).1
      by None is = own
      by (Some e) is = is

  looked-bytes : (w : PlaceTarget) (p : Place ℕ) → IsTargetOfBytes w → LookedHasBytes (looked_at table pid s w p)
  looked-bytes w p own = by (is_directory_at s.tree p.host)
    where
      by : (b : Bool) → IsByteEntry (cond b None (Some (entry_of table pid s w p)))
      by true = tt
      by false = entry-bytes w p own

  -- by whether a path ends in a name
  by-last : {A : Type 0} (P : A → Type 0) (l : Last) (named other : A) → P named → P other → P (if_name l named other)
  by-last P last.Name named other first second = first
  by-last P last.Dot named other first second = second
  by-last P last.DotDot named other first second = second
  by-last P last.Root named other first second = second

  by-test : {A : Type 0} (P : A → Type 0) (b : Bool) (x y : A) → P x → P y → P (cond b x y)
  by-test P true x y first second = first
  by-test P false x y first second = second

  taken-bytes : (w : PlaceTarget) → IsTargetOfBytes w → TakenHasBytes (taken_at table pid s w)
  taken-bytes w own =
      by-last TakenHasBytes w.last (cond (is_covered table w.dir.host w.name) TakesCovered (Takes (entered w))) (TakesNoName w.last)
      (by-test TakenHasBytes (is_covered table w.dir.host w.name) TakesCovered (Takes (entered w)) tt own) tt

  made-bytes : (w : PlaceTarget) → IsTargetOfBytes w → MadeHasBytes (made_at table pid s w)
  made-bytes w own =
      by-last MadeHasBytes w.last (cond (is_there w.found) MakesOver (Makes w.dir.host w.name w.slash)) (MakesNoName w.last)
      (by-test MadeHasBytes (is_there w.found) MakesOver (Makes w.dir.host w.name w.slash) tt own) tt

  found-or-new : (w : PlaceTarget) → IsTargetOfBytes w → (o : Option (Place ℕ)) → OpeningHasBytes (option_map_or (λ p. OpensFound (looked_at table pid s w p)) o (OpensNew w.dir.host w.name))
  found-or-new w own None = own
  found-or-new w own (Some p) = looked-bytes w p own

  created-bytes : (w : PlaceTarget) → IsTargetOfBytes w → OpeningHasBytes (created_at table pid s w)
  created-bytes w own =
      by-last OpeningHasBytes w.last (cond w.slash OpensSlashed (option_map_or (λ p. OpensFound (looked_at table pid s w p)) w.found (OpensNew w.dir.host w.name))) (OpensNoName w.last)
      (by-test OpeningHasBytes w.slash OpensSlashed (option_map_or (λ p. OpensFound (looked_at table pid s w p)) w.found (OpensNew w.dir.host w.name)) tt (found-or-new w own w.found)) tt

  -- a look-up that found nothing tells an error
  found-told : (w : PlaceTarget) (next : Looked → Seen) → IsTargetOfBytes w → ((l : Looked) → LookedHasBytes l → SeenHasBytes (next l)) → SeenHasBytes (if_found table pid s w next)
  found-told w next own tells = by w.found
    where
      by : (o : Option (Place ℕ)) → SeenHasBytes (option_map_or (λ p. next (looked_at table pid s w p)) o (WalkFails ENOENT))
      by None = tt
      by (Some p) = tells (looked_at table pid s w p) (looked-bytes w p own)

  opened-bytes : (flags : ℕ) (w : PlaceTarget) → IsTargetOfBytes w → SeenHasBytes (opened_at table pid s flags w)
  opened-bytes flags w own =
      by-test SeenHasBytes (creates flags) (Opens (created_at table pid s w)) (if_found table pid s w (λ l. Opens (OpensFound l)))
      (created-bytes w own) (found-told w (λ l. Opens (OpensFound l)) own (λ l is. is))

  one-told : (targets : Targets) (next : PlaceTarget → Seen) → AreTargetsOfBytes targets → ((w : PlaceTarget) → IsTargetOfBytes w → SeenHasBytes (next w)) → SeenHasBytes (of_one targets next)
  one-told targets next named tells = by targets.first named.first
    where
      by : (o : Option PlaceTarget) → IfSome o IsTargetOfBytes → SeenHasBytes (option_map_or next o NoPath)
      by None is = tt
      by (Some w) is = tells w is

  two-told : (targets : Targets) (next : PlaceTarget → PlaceTarget → Seen) → AreTargetsOfBytes targets → ((old new : PlaceTarget) → IsTargetOfBytes old → IsTargetOfBytes new → SeenHasBytes (next old new)) → SeenHasBytes (of_two targets next)
  two-told targets next named tells = by targets.first named.first
    where
      second : (old : PlaceTarget) → IsTargetOfBytes old → (o : Option PlaceTarget) → IfSome o IsTargetOfBytes → SeenHasBytes (option_map_or (next old) o NoPath)
      second old own None is = tt
      second old own (Some new) is = tells old new own is

      by : (o : Option PlaceTarget) → IfSome o IsTargetOfBytes → SeenHasBytes (option_map_or (λ old. option_map_or (next old) targets.second NoPath) o NoPath)
      by None is = tt
      by (Some old) is = second old is targets.second named.second

  linked-bytes : (old new : PlaceTarget) → IsTargetOfBytes old → IsTargetOfBytes new → SeenHasBytes (linked_at table pid s old new)
  linked-bytes old new first second = found-told old (λ l. Links l (made_at table pid s new) (option_map_or (λ m. m == new.dir.mount) (mount_found old) false)) first (λ l is. made-bytes new second)

  looks-told : (targets : Targets) → AreTargetsOfBytes targets → SeenHasBytes (looks_up table pid s targets)
  looks-told targets named = one-told targets (λ w. if_found table pid s w LooksUp) named (λ w own. found-told w LooksUp own (λ l is. tt))

  directory-bytes : IfSome (option_and_then (λ (p : Place ℕ). name_text (space_of table s) p 0 []) (cwd_of pid s)) AreBytes
  directory-bytes = by (cwd_of pid s)
    where
      by : (o : Option (Place ℕ)) → IfSome (option_and_then (λ (p : Place ℕ). name_text (space_of table s) p 0 []) o) AreBytes
      by None = tt
      by (Some p) = name-bytes p 0 [] tt

  -- each way of being told
  told-by-bytes : (t : Told) (targets : Targets) → AreTargetsOfBytes targets → SeenHasBytes (told_by table pid s t targets)
  told-by-bytes ToldNothing targets named = tt
  told-by-bytes (LooksAt how at) targets named = looks-told targets named
  told-by-bytes (ReadsLinkAt at) targets named =
      one-told targets (λ w. if_found table pid s w (λ l. ReadsLink l (text_at table pid s l.host))) named (λ w own. found-told w (λ l. ReadsLink l (text_at table pid s l.host)) own (λ l is. text-at-bytes l.host))
  told-by-bytes (OpensAt flags at) targets named = one-told targets (opened_at table pid s flags) named (opened-bytes flags)
  told-by-bytes (TakesAt at) targets named = one-told targets (λ w. TakesEntry (taken_at table pid s w)) named (λ w own. tt)
  told-by-bytes (MakesAt at) targets named = one-told targets (λ w. MakesEntry (made_at table pid s w)) named made-bytes
  told-by-bytes (LinksTwo how old new) targets named = two-told targets (linked_at table pid s) named linked-bytes
  told-by-bytes (MovesTwo old new) targets named = two-told targets (moved_at table pid s) named (λ old new first second. taken-bytes new second)
  told-by-bytes NamesHere targets named = directory-bytes

  -- ---- what a call is told

  pub seen-bytes : (r : Request) → GivesBytes r → SeenHasBytes (seen table pid s r)
  seen-bytes r gives = by (targets_of table pid s r) refl
    where
      by : (o : Result Targets Errno) → targets_of table pid s r ≡ o → SeenHasBytes (seen_of table pid s r o)
      by (Err e) is = tt
      by (Ok targets) is = told-by-bytes (line r).told targets (targets-named r targets gives is)
