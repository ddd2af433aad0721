-- The walks of a call over a lawful state give the targets on which it rests.
use Rattle.std.proofs.Common.{◌≡◌, subst, ℕ, Bool, true, false, List, [], ◌∷◌, refl, sym, ap, ◌∙◌, cond, Some, None, Option, Ok, Err, Result}
use Rattle.std.specs.Option.{option_map, option_map_or}
use Rattle.law_lawful.specs.pr_base.Paths.{is_absolute}
use Rattle.law_lawful.specs.pr_base.declared.errno.Errno.{Errno}
use Rattle.law_lawful.specs.pr_base.declared.errno.Errno.TheVariants.{ENOENT, EBADF, ENOTDIR}
use Rattle.law_lawful.specs.kr_calls.CallTable.{Told, TakesAt, MovesTwo, line, paths_of, walked_for}
use Rattle.law_lawful.specs.kr_calls.PathTable.{PathUse, path_at, path_from}
use Rattle.law_lawful.specs.kr_calls.declared.request.Request.{Request}
use Rattle.law_lawful.specs.pr_base.declared.path.WalkMode.TheVariants.{Name as NameMode}
use Rattle.std.specs.Prelude.{◌==◌}
use Rattle.law_lawful.specs.kr_tree.Tree.{Inode, inode, is_directory}
use Rattle.law_lawful.specs.kr_tree.declared.place.Place.{Place}
use Rattle.law_lawful.proofs.kr_tree.CountLemmas.{there}
use Rattle.law_lawful.proofs.kr_tree.NameLemmas.{some_is, then_some}
use Rattle.law_lawful.specs.kr_view.InTree.{IsObjectOf, IsPlaceOf, LeadToPlaces, StandsAround}
use Rattle.law_lawful.specs.kr_view.Laws.{IsSettledSource}
use Rattle.law_lawful.specs.kr_view.View.{Row, is_there, root_place}
use Rattle.law_lawful.specs.kr_view.Walk.{PlaceTarget, place_walk}
use Rattle.law_lawful.proofs.kr_view.TableLemmas.{laws_of_places}
use Rattle.law_lawful.specs.kr_files.declared.opened.Opened.{Opened}
use Rattle.law_lawful.specs.kr_files.Descriptors.{Named}
use Rattle.law_lawful.specs.kr_files.Files.{file_at}
use Rattle.law_lawful.specs.kr_model.Applied.{cwd_of}
use Rattle.law_lawful.specs.kr_model.Asking.{descriptor_number, is_working_directory}
use Rattle.law_lawful.specs.kr_model.FileRows.{is_dir}
use Rattle.law_lawful.specs.kr_model.Known.{known}
use Rattle.law_lawful.specs.kr_model.Operation.{operation}
use Rattle.law_lawful.specs.kr_model.Seen.{WalkFails}
use Rattle.law_lawful.specs.rv_mem.Actions.{carried_out}
use Rattle.law_allowed.specs.Allowed.{LeavesLawful}
use Rattle.law_lawful.specs.kr_model.Lawful.{IsLawful, IsOpenIn}
use Rattle.law_lawful.specs.kr_model.ProcessDirectory.{around_of, leads_of}
use Rattle.law_lawful.specs.kr_model.State.{Image, Process, State, process, named, opened, image_layout}
use Rattle.law_lawful.specs.kr_model.Walks.{Targets, place_of_open, and_then, place_of_descriptor, base_of, walked, target_at, targets_of, seen_of}
use Rattle.law_allowed.specs.Told.{IsTargetIn, IsEntryOf, HasGoodName, AreGoodTargets, AreTargetsIn, CallsWalkToTargets, WalkedCallsLeaveLawful, mounts_walked, takes_entries, takes_of}
use Rattle.law_allowed.proofs.OperationLemmas.{operation-is-allowed}
use Rattle.law_allowed.proofs.ToldLemmas.{calls-leave-lawful}
use Rattle.law_allowed.proofs.WalkLemmas.{walks-give-targets}

same-ok : {A : Type 0} (x y : A) → ◌≡◌ {A = Result A Errno} (Ok x) (Ok y) → x ≡ y
same-ok x y e = cc

then-ok : {A B : Type 0} (r : Result A Errno) (next : A → Result B Errno) (y : B) → and_then r next ≡ Ok y → (x : A) × (r ≡ Ok x) × (next x ≡ Ok y)
then-ok (Ok x) next y e = (x, refl, e)
then-ok (Err e) next y is = absurd cc

-- ---- modes

one-name : (b : Bool) (own u : PathUse) → own.mode ≡ NameMode → cond b (Some own) None ≡ Some u → u.mode ≡ NameMode
one-name true own u is e = sym (ap (λ (u : PathUse). u.mode) (some_is own u e)) ∙ is
one-name false own u is e = absurd cc

two-names : (a b : Bool) (old new u : PathUse) → old.mode ≡ NameMode → new.mode ≡ NameMode → cond a (Some old) (cond b (Some new) None) ≡ Some u → u.mode ≡ NameMode
two-names true b old new u first second e = one-name true old u first e
two-names false b old new u first second e = one-name b new u second e

-- the paths of entries that go or move are walked to names
name-modes : (t : Told) (k : ℕ) (u : PathUse) → takes_of t ≡ true → path_from 0 (paths_of t) k ≡ Some u → u.mode ≡ NameMode
name-modes (TakesAt at) k u takes e = one-name (k == 0) (walked_for NameMode at) u refl e
name-modes (MovesTwo old new) k u takes e = two-names (k == 0) (k == 1) (walked_for NameMode old) (walked_for NameMode new) u refl refl e
name-modes _ k u takes e = absurd cc

names-alone : (r : Request) (k : ℕ) (u : PathUse) → takes_entries r ≡ true → path_at r k ≡ Some u → u.mode ≡ NameMode
names-alone r k u takes e = name-modes (line r).told k u takes e

module _ (table : List Row) (pid : ℕ) (s : State ℕ Image) (l : IsLawful (λ m. m) table s) (leads : LeadToPlaces s.tree table (leads_of table s pid)) where
  -- ---- where paths begin

  source-stands : (p : Place ℕ) → IsSettledSource s.tree table p → IsPlaceOf s.tree table p
  source-stands p settled = record { mounted = ap (λ (o : Option Row). is_there o) settled.there; object = subst (λ (q : Place ℕ). IsObjectOf s.tree q.host) (sym settled.place) (by (inode s.tree settled.settled.source) settled.kind) }
    where
      by : (o : Option Inode) → option_map is_directory (option_map (λ (x : Inode). x.node.body) o) ≡ Some settled.settled.is_dir → is_there o ≡ true
      by None e = absurd cc
      by (Some x) e = refl

  cwd-stands : (o : Option (Process ℕ Image)) → process pid s ≡ o → (base : Place ℕ) → option_map_or (λ (p : Place ℕ). Ok p) (option_map (λ (p : Process ℕ Image). p.cwd) o) (Err ENOENT) ≡ Ok base → IsPlaceOf s.tree table base
  cwd-stands None is base e = absurd cc
  cwd-stands (Some p) is base e = subst (IsPlaceOf s.tree table) (same-ok p.cwd base e) (l.processes pid p is).cwd.0

  -- what is open under a descriptor is lawful
  open-is : (fd : ℕ) (o : Opened ℕ) → opened pid fd s ≡ Some o → IsOpenIn (λ m. m) s.tree table o
  open-is fd o e = let found = then_some (λ (x : Named). file_at s.files x.number) (named pid fd s) o e in l.files found.0.number o found.2

  open-stands : (fd : ℕ) (o : Opened ℕ) → opened pid fd s ≡ Some o → (base : Place ℕ) → place_of_open o ≡ Ok base → IsPlaceOf s.tree table base
  open-stands fd o is base e = by (is_dir o.what) e
    where
      placed : (q : Option (Place ℕ)) → o.place ≡ q → option_map_or (λ (p : Place ℕ). Ok p) q (Err ENOTDIR) ≡ Ok base → IsPlaceOf s.tree table base
      placed None at e = absurd cc
      placed (Some p) at e = subst (IsPlaceOf s.tree table) (same-ok p base e) ((open-is fd o is).placed p at).0

      by : (b : Bool) → cond b (option_map_or (λ (p : Place ℕ). Ok p) o.place (Err ENOTDIR)) (Err ENOTDIR) ≡ Ok base → IsPlaceOf s.tree table base
      by true e = placed o.place refl e
      by false e = absurd cc

  descriptor-stands : (fd : Option ℕ) (base : Place ℕ) → place_of_descriptor table pid s fd ≡ Ok base → IsPlaceOf s.tree table base
  descriptor-stands None base e = absurd cc
  descriptor-stands (Some fd) base e = by (opened pid fd s) refl e
    where
      by : (o : Option (Opened ℕ)) → opened pid fd s ≡ o → option_map_or place_of_open o (Err EBADF) ≡ Ok base → IsPlaceOf s.tree table base
      by None is e = absurd cc
      by (Some o) is e = open-stands fd o is base e

  base-stands : (u : PathUse) (base : Place ℕ) → base_of table pid s u ≡ Ok base → IsPlaceOf s.tree table base
  base-stands u base e = by (is_absolute u.text) (is_working_directory u.dirfd) e
    where
      by : (a b : Bool) → cond a (Ok (root_place table)) (cond b (option_map_or (λ (p : Place ℕ). Ok p) (cwd_of pid s) (Err ENOENT)) (place_of_descriptor table pid s (descriptor_number u.dirfd))) ≡ Ok base → IsPlaceOf s.tree table base
      by true b e = subst (IsPlaceOf s.tree table) (same-ok (root_place table) base e) (source-stands (root_place table) (laws_of_places s.tree table l.mounts).root_stands)
      by false true e = cwd-stands (process pid s) refl base e
      by false false e = descriptor-stands (descriptor_number u.dirfd) base e

  -- ---- walks

  -- what holds of each target of a walk holds of a path's
  of-walk : (P : PlaceTarget → Type 0) (target : PlaceTarget) (o : Option PathUse) → ((u : PathUse) (base : Place ℕ) (path : List ℕ) → o ≡ Some u → StandsAround (around_of table pid s) base → (place_walk (around_of table pid s) u.mode base path).answer ≡ Ok target → P target)
      → target_at table pid s o ≡ Ok (Some target) → P target
  of-walk P target None each e = absurd (let no : None ≡ Some target = same-ok None (Some target) e in cc)
  of-walk P target (Some u) each e = by u.text e
    where
      by : (text : List ℕ) → walked table pid s u text ≡ Ok (Some target) → P target
      by [] e = absurd (let no : None ≡ Some target = same-ok None (Some target) e in cc)
      by (b ∷ path) e =
          let first = then-ok (base_of table pid s u) _ (Some target) e in
          let walk = then-ok (place_walk (around_of table pid s) u.mode first.0 (b ∷ path)).answer _ (Some target) first.2 in
          let one : walk.0 ≡ target = some_is walk.0 target (same-ok (Some walk.0) (Some target) walk.2) in
          each u first.0 (b ∷ path) refl (record { sound = l.tree.sound; inodes = there s.tree l.tree.sound l.tree.counted; mounts = l.mounts; leads = leads; begins = base-stands u first.0 first.1 })
          (walk.1 ∙ ap (λ (t : PlaceTarget). Ok t) one)

  is-target : (o : Option PathUse) (target : PlaceTarget) → target_at table pid s o ≡ Ok (Some target) → HasGoodName s.tree target → IsTargetIn s.tree table target
  is-target o target e good = of-walk (λ t. IsTargetIn s.tree table target) target o (λ u base path is stands answered. walks-give-targets.targets (around_of table pid s) u.mode base path target stands answered good) e

  is-entry : (r : Request) (n : ℕ) → takes_entries r ≡ true → (target : PlaceTarget) → target_at table pid s (path_at r n) ≡ Ok (Some target) → IsEntryOf s.tree table target
  is-entry r n takes target e =
      of-walk (λ t. IsEntryOf s.tree table target) target (path_at r n)
      (λ u base path is stands answered.
      walks-give-targets.entries (around_of table pid s) base path target stands (ap (λ mode. (place_walk (around_of table pid s) mode base path).answer) (sym (names-alone r n u takes is)) ∙ answered)) e

  are-targets : (r : Request) (targets : Targets) → targets_of table pid s r ≡ Ok targets → AreGoodTargets s.tree targets → AreTargetsIn s.tree table r targets
  are-targets r targets e good =
      let one = then-ok (target_at table pid s (path_at r 0)) _ targets e in
      let two = then-ok (target_at table pid s (path_at r 1)) _ targets one.2 in
      let both = same-ok (record { first = one.0; second = two.0 }) targets two.2 in
      let first : target_at table pid s (path_at r 0) ≡ Ok targets.first = one.1 ∙ ap (λ (t : Targets). Ok t.first) both in
      let second : target_at table pid s (path_at r 1) ≡ Ok targets.second = two.1 ∙ ap (λ (t : Targets). Ok t.second) both in
      record {
        first = λ target is. is-target (path_at r 0) target (first ∙ ap (λ (o : Option PlaceTarget). Ok o) is) (good.first target is);
        second = λ target is. is-target (path_at r 1) target (second ∙ ap (λ (o : Option PlaceTarget). Ok o) is) (good.second target is);
        first_entry = λ takes target is. is-entry r 0 takes target (first ∙ ap (λ (o : Option PlaceTarget). Ok o) is);
        second_entry = λ takes target is. is-entry r 1 takes target (second ∙ ap (λ (o : Option PlaceTarget). Ok o) is);
      }

pub calls-walk-to-targets : CallsWalkToTargets
calls-walk-to-targets table pid s r targets lawful leads e good = are-targets table pid s lawful leads r targets e good

pub walked-calls-leave-lawful : WalkedCallsLeaveLawful
walked-calls-leave-lawful table pid s p r kind lawful lives holds small given sources leads good = by (targets_of table pid s r) refl
  where
    by : (walked : Result Targets Errno) → targets_of table pid s r ≡ walked
        → LeavesLawful (λ m. m) table (mounts_walked walked) pid s (carried_out (operation pid r (seen_of table pid s r walked) (known image_layout pid s)) p.image.memory)
    by (Ok targets) e = calls-leave-lawful table pid s p r targets kind lawful lives holds small given sources (calls-walk-to-targets table pid s r targets lawful leads e (good targets e))
    by (Err errno) e = operation-is-allowed ℕ (λ m. m) table (mounts_walked (Err errno)) pid r (WalkFails errno) kind given s p lawful lives holds (small, tt)
