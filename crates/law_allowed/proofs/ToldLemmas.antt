-- What a call is told of the targets of its paths is so.
use Rattle.std.proofs.Common.{◌≡◌, subst, ℕ, Bool, true, false, List, refl, sym, ap, ◌∙◌, cond, Some, None, Option}
use Rattle.std.specs.Prelude.{◌==◌}
use Rattle.std.specs.Option.{option_map, option_map_or, option_and_then}
use Rattle.law_lawful.specs.pr_base.declared.errno.Errno.TheVariants.{ENOENT}
use Rattle.law_lawful.specs.pr_base.declared.path.Last.{Last}
use Rattle.law_lawful.specs.pr_base.declared.path.Last.TheVariants as last
use Rattle.law_lawful.specs.kr_calls.CallTable.{Told as WayTold, ToldNothing, LooksAt, ReadsLinkAt, OpensAt, TakesAt, MakesAt, LinksTwo, MovesTwo, NamesHere, line}
use Rattle.law_lawful.specs.kr_tree.declared.place.Place.{Place}
use Rattle.law_lawful.proofs.kr_tree.NameLemmas.{map_some, some_is}
use Rattle.law_lawful.specs.kr_view.View.{Row, source, is_there}
use Rattle.law_lawful.specs.kr_view.Component.{is_directory_at}
use Rattle.law_lawful.specs.kr_view.Walk.{PlaceTarget}
use Rattle.law_lawful.specs.kr_model.FileRows.{creates}
use Rattle.law_lawful.specs.kr_model.Lawful.{IsNameOrNone}
use Rattle.law_lawful.specs.kr_model.Seen.{Seen, Looked, OpensSlashed, OpensFound, OpensNew, OpensNoName, TakesCovered, Takes, TakesNoName, Makes, MakesOver, MakesNoName, NoPath, WalkFails, LooksUp, ReadsLink, Opens, Links}
use Rattle.law_lawful.specs.kr_model.State.{Image, State, inode_of}
use Rattle.law_lawful.specs.kr_model.Walks.{Targets, mounts_of, told, told_by, is_covered, entered, if_name, of_one, of_two, mount_found, entry_of, looked_at, if_found, taken_at, made_at, created_at, opened_at, text_at}
use Rattle.law_allowed.specs.Calls.{IsToldIn}
use Rattle.law_allowed.specs.Resting.{IsSeenIn, IsEntryIn, IsLookedIn, IsTakenIn, IsMadeIn, IsOpeningIn}
use Rattle.law_allowed.specs.Told.{IsTargetIn, IsEntryOf, SourcesAreNamed, TargetsAreTold, CallsLeaveLawful, takes_of}
use Rattle.law_allowed.proofs.OperationLemmas.{operation-is-allowed}

is-none : {A B : Type 0} (f : A → B) (o : Option A) → option_map f o ≡ None → o ≡ None
is-none f None e = refl
is-none f (Some x) e = absurd cc

not-there : {A : Type 0} (o : Option A) → is_there o ≡ false → o ≡ None
not-there None e = refl
not-there (Some x) e = absurd cc

module _ (table : List Row) (sources : SourcesAreNamed table) (pid : ℕ) (s : State ℕ Image) (targets : Targets) where
  abbrev Told : Seen → Type 0
  Told seen = IsToldIn (λ m. m) table (mounts_of targets) s.tree seen

  abbrev LookedUp : Looked → Type 0
  LookedUp looked = IsLookedIn (λ m. m) table (mounts_of targets) s.tree looked

  -- ---- what was looked up along the first path

  module _ (target : PlaceTarget) (first : targets.first ≡ Some target) (is : IsTargetIn s.tree table target) where
    seen-in : (p : Place ℕ) → target.found ≡ Some p → IsSeenIn (λ m. m) table s.tree (mounts_of targets).found p.host
    seen-in p e = record {
      mount = p.mount;
      taken = ap (λ (o : Option PlaceTarget). option_and_then (λ (t : PlaceTarget). option_map (λ (p : Place ℕ). p.mount) t.found) o) first ∙ ap (option_map (λ (p : Place ℕ). p.mount)) e;
      stands = is.found p e;
    }

    named-source : (p : Place ℕ) → IsNameOrNone target.name → IsNameOrNone (entry_of table pid s target p).1
    named-source p named = by (source table p.mount) refl
      where
        by : (o : Option (ℕ × List ℕ)) → source table p.mount ≡ o → IsNameOrNone (option_map_or (λ (e : ℕ × List ℕ). e) o (inode_of target.dir.host, target.name)).1
        by None e = named
        by (Some x) e = sources p.mount x e

    looked-in : (p : Place ℕ) → target.found ≡ Some p → LookedUp (looked_at table pid s target p)
    looked-in p e = record { found = seen-in p e; entry = by (is_directory_at s.tree p.host) refl }
      where
        by : (b : Bool) → is_directory_at s.tree p.host ≡ b → (x : ℕ × List ℕ) → cond b None (Some (entry_of table pid s target p)) ≡ Some x → IsNameOrNone x.1
        by true dir x e2 = absurd cc
        by false dir x e2 = let same = some_is (entry_of table pid s target p) x e2 in subst (λ (x : ℕ × List ℕ). IsNameOrNone x.1) same (named-source p (is.remembered p e dir))

    found-told : (next : Looked → Seen) → ((p : Place ℕ) → target.found ≡ Some p → Told (next (looked_at table pid s target p))) → Told (if_found table pid s target next)
    found-told next each = by target.found refl
      where
        by : (o : Option (Place ℕ)) → target.found ≡ o → Told (option_map_or (λ p. next (looked_at table pid s target p)) o (WalkFails ENOENT))
        by None e = tt
        by (Some p) e = each p e

    -- a file that is made is in the mount of its directory
    created : IsOpeningIn (λ m. m) table (mounts_of targets) s.tree (created_at table pid s target)
    created = by target.last refl
      where
        found-or-new : target.last ≡ last.Name → (o : Option (Place ℕ)) → target.found ≡ o
            → IsOpeningIn (λ m. m) table (mounts_of targets) s.tree (option_map_or (λ p. OpensFound (looked_at table pid s target p)) o (OpensNew target.dir.host target.name))
        found-or-new named (Some p) e = looked-in p e
        found-or-new named None e = (
          record { mount = target.dir.mount; taken = ap (λ (o : Option PlaceTarget). option_map (λ (t : PlaceTarget). t.dir.mount) o) first; stands = is.directory e },
          is.free named e,
        )

        slashed : target.last ≡ last.Name → (b : Bool)
            → IsOpeningIn (λ m. m) table (mounts_of targets) s.tree (cond b OpensSlashed (option_map_or (λ p. OpensFound (looked_at table pid s target p)) target.found (OpensNew target.dir.host target.name)))
        slashed named true = tt
        slashed named false = found-or-new named target.found refl

        by : (l : Last) → target.last ≡ l
            → IsOpeningIn (λ m. m) table (mounts_of targets) s.tree (if_name l (cond target.slash OpensSlashed (option_map_or (λ p. OpensFound (looked_at table pid s target p)) target.found (OpensNew target.dir.host target.name))) (OpensNoName target.last))
        by last.Name named = slashed named target.slash
        by last.Dot named = tt
        by last.DotDot named = tt
        by last.Root named = tt

    opened : (flags : ℕ) → Told (opened_at table pid s flags target)
    opened flags = by (creates flags)
      where
        by : (b : Bool) → Told (cond b (Opens (created_at table pid s target)) (if_found table pid s target (λ l. Opens (OpensFound l))))
        by true = created
        by false = found-told (λ l. Opens (OpensFound l)) looked-in

  -- ---- entries

  module _ (target : PlaceTarget) (is : IsTargetIn s.tree table target) where
    made : IsMadeIn (λ m. m) table (mounts_of targets) s.tree (made_at table pid s target)
    made = by target.last refl
      where
        over : target.last ≡ last.Name → (b : Bool) → is_there target.found ≡ b → IsMadeIn (λ m. m) table (mounts_of targets) s.tree (cond b MakesOver (Makes target.dir.host target.name target.slash))
        over named true e = tt
        over named false e = is.free named (not-there target.found e)

        by : (l : Last) → target.last ≡ l → IsMadeIn (λ m. m) table (mounts_of targets) s.tree (if_name l (cond (is_there target.found) MakesOver (Makes target.dir.host target.name target.slash)) (MakesNoName target.last))
        by last.Name named = over named (is_there target.found) refl
        by last.Dot named = tt
        by last.DotDot named = tt
        by last.Root named = tt

    taken : IsEntryOf s.tree table target → IsTakenIn (λ m. m) table (mounts_of targets) s.tree (taken_at table pid s target)
    taken own = by target.last refl
      where
        entry-in : target.last ≡ last.Name → is_covered table target.dir.host target.name ≡ false → IsEntryIn s.tree table (entered target)
        entry-in named uncovered = record {
          uncovered = λ i at takes. ap (λ h. is_covered table h target.name) (sym at) ∙ uncovered;
          found = λ i host at takes e.
              let p = map_some (λ (p : Place ℕ). p.host) target.found host e in
              let it = own i p.0 named at takes (ap (λ h. is_covered table h target.name) (sym at) ∙ uncovered) p.1 in
              (it.0, sym p.2 ∙ it.1, it.2);
          free = λ e. is.free named (is-none (λ (p : Place ℕ). p.host) target.found e);
        }

        over : target.last ≡ last.Name → (b : Bool) → is_covered table target.dir.host target.name ≡ b → IsTakenIn (λ m. m) table (mounts_of targets) s.tree (cond b TakesCovered (Takes (entered target)))
        over named true e = tt
        over named false e = entry-in named e

        by : (l : Last) → target.last ≡ l → IsTakenIn (λ m. m) table (mounts_of targets) s.tree (if_name l (cond (is_covered table target.dir.host target.name) TakesCovered (Takes (entered target))) (TakesNoName target.last))
        by last.Name named = over named (is_covered table target.dir.host target.name) refl
        by last.Dot named = tt
        by last.DotDot named = tt
        by last.Root named = tt

  -- ---- calls of one path and of two

  one : (next : PlaceTarget → Seen) → ((target : PlaceTarget) → targets.first ≡ Some target → Told (next target)) → Told (of_one targets next)
  one next each = by targets.first refl
    where
      by : (o : Option PlaceTarget) → targets.first ≡ o → Told (option_map_or next o NoPath)
      by None e = tt
      by (Some target) e = each target e

  two : (next : PlaceTarget → PlaceTarget → Seen) → ((old new : PlaceTarget) → targets.first ≡ Some old → targets.second ≡ Some new → Told (next old new)) → Told (of_two targets next)
  two next each = by targets.first refl
    where
      behind : (old : PlaceTarget) → targets.first ≡ Some old → (o : Option PlaceTarget) → targets.second ≡ o → Told (option_map_or (next old) o NoPath)
      behind old e None f = tt
      behind old e (Some new) f = each old new e f

      by : (o : Option PlaceTarget) → targets.first ≡ o → Told (option_map_or (λ old. option_map_or (next old) targets.second NoPath) o NoPath)
      by None e = tt
      by (Some old) e = behind old e targets.second refl

  module _ (first : (target : PlaceTarget) → targets.first ≡ Some target → IsTargetIn s.tree table target) (second : (target : PlaceTarget) → targets.second ≡ Some target → IsTargetIn s.tree table target) where
    looked : (next : Looked → Seen) → ((l : Looked) → LookedUp l → Told (next l)) → Told (of_one targets (λ target. if_found table pid s target next))
    looked next each = one _ (λ target e. found-told target e (first target e) next (λ p f. each (looked_at table pid s target p) (looked-in target e (first target e) p f)))

    -- ---- each way of being told

    so : (t : WayTold) → (takes_of t ≡ true → (target : PlaceTarget) → targets.first ≡ Some target → IsEntryOf s.tree table target)
        → (takes_of t ≡ true → (target : PlaceTarget) → targets.second ≡ Some target → IsEntryOf s.tree table target) → Told (told_by table pid s t targets)
    so ToldNothing first_entry second_entry = tt
    so (LooksAt how at) first_entry second_entry = looked LooksUp (λ l is. is)
    so (ReadsLinkAt at) first_entry second_entry = looked (λ l. ReadsLink l (text_at table pid s l.host)) (λ l is. is)
    so (OpensAt flags at) first_entry second_entry = one _ (λ target e. opened target e (first target e) flags)
    so (TakesAt at) first_entry second_entry = one _ (λ target e. taken target (first target e) (first_entry refl target e))
    so (MakesAt at) first_entry second_entry = one _ (λ target e. made target (first target e))
    so (LinksTwo how at to) first_entry second_entry =
        two _ (λ old new e f. found-told old e (first old e) (λ l. Links l (made_at table pid s new) (option_map_or (λ m. m == new.dir.mount) (mount_found old) false)) (λ p g. (looked-in old e (first old e) p g, made new (second new f))))
    so (MovesTwo at to) first_entry second_entry = two _ (λ old new e f. (taken old (first old e) (first_entry refl old e), taken new (second new f) (second_entry refl new f)))
    so NamesHere first_entry second_entry = tt

pub targets-are-told : TargetsAreTold
targets-are-told table pid s r targets sources are = so table sources pid s targets are.first are.second (line r).told are.first_entry are.second_entry

pub calls-leave-lawful : CallsLeaveLawful
calls-leave-lawful table pid s p r targets kind lawful lives holds small given sources are =
    operation-is-allowed ℕ (λ m. m) table (mounts_of targets) pid r (told table pid s r targets) kind given s p lawful lives holds (small, targets-are-told table pid s r targets sources are)
