-- linkat(2) and renameat2(2).
use Rattle.std.proofs.Common.{◌≡◌, ◌⊎◌, inl, inr, ℕ, Bool, true, false, not, List, Option, Some, None, Ok, refl, sym, ap, ◌∙◌}
use Rattle.std.specs.Bool.{if◌then◌else◌}
use Rattle.std.specs.Option.{option_map, option_map_or}
use Rattle.std.specs.Prelude.{ℤ, ◌&&◌, ◌==◌, ◌||◌}
use Rattle.law_edits.specs.pr_base.WalkFrame.{may_be_free}
use Rattle.law_edits.specs.pr_base.declared.errno.Errno.{Errno}
use Rattle.law_edits.specs.pr_base.declared.errno.Errno.TheVariants.{EBUSY, ENOENT}
use Rattle.law_edits.specs.pr_base.declared.path.Last.{Last}
use Rattle.law_edits.specs.pr_base.declared.path.Last.TheVariants as last
use Rattle.law_edits.specs.pr_base.declared.path.WalkMode.TheVariants as modes
use Rattle.law_edits.specs.pt_bind.Tags.{TagTable}
use Rattle.law_edits.specs.pt_args.Points.{is_at_point}
use Rattle.law_edits.specs.pt_args.Purposes.{entry_swap, purpose_of, swap_for}
use Rattle.law_edits.specs.kr_calls.Arguments.{has}
use Rattle.law_edits.specs.kr_calls.PathTable.{PathUse, link_mode, path_at}
use Rattle.law_edits.specs.kr_calls.declared.request.Request.{Request}
use Rattle.law_edits.specs.kr_calls.declared.request.Request.TheVariants as call
use Rattle.law_places.specs.kr_tree.declared.place.Place.{Place}
use Rattle.law_places.specs.kr_view.View.{Row, is_there, plain}
use Rattle.law_places.specs.kr_view.Walk.{PlaceTarget}
use Rattle.law_places.proofs.kr_view.TableLemmas.{there_is}
use Rattle.law_places.specs.kr_mounts.Standing.{texts_of}
use Rattle.law_places.specs.kr_model.Bare.{bare_mounts}
use Rattle.law_places.specs.kr_model.Known.{Known, known}
use Rattle.law_places.specs.kr_model.NameRows.{ends_in_name, move_taken, move_uncovered, renameat2_row}
use Rattle.law_places.specs.kr_model.Operation.{linked, operation}
use Rattle.law_places.specs.kr_model.Reply.{refuse}
use Rattle.law_places.specs.kr_model.Seen.{Entered, Links, Looked, Made, MakesNoName, MakesOver, Makes, Seen, Taken, Takes, TakesCovered, TakesNoName}
use Rattle.law_places.specs.kr_model.State.{Image, State, image_layout}
use Rattle.law_places.specs.kr_model.Walks.{entered, if_found, if_name, is_covered, made_at, mount_found, mounts_of, taken_at, told}
use Rattle.law_places.specs.kr_calm.Rules.{are_parted, breaks_2}
use Rattle.law_plans.specs.Begins.{LeadsBoth}
use Rattle.law_plans.specs.OnePath.{EndsPlain, IsEntry, IsLookedUp, MakesSame, TakesSame}
use Rattle.law_edits.specs.Operations.{with_path}
use Rattle.law_plans.specs.Plans.{IsPlanned, PlanAgrees}
use Rattle.law_plans.proofs.FoundLemmas.{looked_both, same_mounts, taken_there}
use Rattle.law_plans.proofs.OneLemmas.{swaps_agree}
use Rattle.law_plans.proofs.RequestLemmas.{purpose_looks, purpose_names}
use Rattle.law_plans.proofs.StayLemmas.{by_first, path_good}
use Rattle.law_plans.proofs.TwoLemmas.{both_are, both_busy, both_swapped, both_targets, plain_dir, plain_found, with_second_path}

-- ---- tests of mounts

in_one : (b c : Bool) → (not b || c) ≡ false → b ≡ true
in_one true c e = refl
in_one false c e = absurd cc

uncrossed : (b : Bool) → not b ≡ false → b ≡ true
uncrossed true e = refl
uncrossed false e = absurd cc

both_first : (m n : ℕ) → m ≡ 0 → n ≡ 0 → (m == n) ≡ true
both_first m n e f = ap (λ m. m == n) e ∙ ap (λ n. 0 == n) f

link_must : (flags : ℕ) → may_be_free (link_mode flags) ≡ false
link_must flags = by (has flags 0x400)
  where
    by : (b : Bool) → may_be_free (if b then modes.Look else modes.LookLink) ≡ false
    by true = refl
    by false = refl

module _ (table : List Row) (tags : TagTable) (s w : State ℕ Image) (pid : ℕ) (olddir : ℤ) (old : List ℕ) (newdir : ℤ) (new : List ℕ) where
  -- ---- linkat(2)

  module _ (flags : ℕ) (u v : PathUse) (planned : IsPlanned table tags s w pid (call.Linkat olddir old newdir new flags)) (at : path_at (call.Linkat olddir old newdir new flags) 0 ≡ Some u) (after : path_at (call.Linkat olddir old newdir new flags) 1 ≡ Some v)
      (mode_is : u.mode ≡ link_mode flags) (named : v.mode ≡ modes.Name) where
    abbrev r : Request
    r = call.Linkat olddir old newdir new flags

    abbrev k : Known
    k = known image_layout pid s

    must : may_be_free u.mode ≡ false
    must = ap may_be_free mode_is ∙ link_must flags

    module _ (lead : LeadsBoth table tags s w pid u false) where
      l : IsLookedUp table tags s w pid u false lead
      l = (swaps_agree table tags s w pid u false lead planned.together).looked must

      takes : swap_for (texts_of table) (purpose_of false u.mode) lead.canon ≡ Ok lead.canon.host
      takes = ap (λ p. swap_for (texts_of table) p lead.canon) (purpose_looks false u.mode must)

      there : is_there l.same.target.found ≡ true
      there = looked_both table plain pid s w lead.place l.same.target l.there l.same.same

      module _ (second : LeadsBoth table tags s w pid v false) where
        e : IsEntry table tags s w pid v false second
        e = (swaps_agree table tags s w pid v false second planned.together).entry named (path_good table pid s planned.together.matched.placed.lawful planned.links r planned.texts 1 v after second.place second.target)

        abbrev more : List ℕ
        more = entry_swap (texts_of table) second.canon second.canon.last

        also : swap_for (texts_of table) (purpose_of false v.mode) second.canon ≡ Ok more
        also = ap (λ p. swap_for (texts_of table) p second.canon) (purpose_names false v.mode refl named)

        abbrev is_same : PlaceTarget → PlaceTarget → Bool
        is_same a b = option_map_or (λ m. m == b.dir.mount) (mount_found a) false

        same_mounted : is_same lead.place second.place ≡ true
        same_mounted =
            let p = there_is lead.place.found l.there in
            let within = sym (ap (breaks_2 table s.tree r) (both_are table tags s w pid r planned u v at after refl lead second)) ∙ planned.within in
            ap (λ o. option_map_or (λ m. m == second.place.dir.mount) (option_map (λ (p : Place ℕ). p.mount) o) false) p.1
            ∙ uncrossed (p.0.mount == second.place.dir.mount) (sym (ap (λ o. option_map_or (λ m. not (m == second.place.dir.mount)) (option_map (λ (p : Place ℕ). p.mount) o) false) p.1) ∙ within)

        same_plain : is_same l.same.target e.made.target ≡ true
        same_plain =
            let q = there_is l.same.target.found there in
            ap (λ o. option_map_or (λ m. m == e.made.target.dir.mount) (option_map (λ (p : Place ℕ). p.mount) o) false) q.1
            ∙ both_first q.0.mount e.made.target.dir.mount (plain_found table tags s w pid r planned (with_path lead.canon.host u) l.same.target l.same.ends q.0 q.1) (plain_dir table tags s w pid r planned (with_path more v) e.made.target e.made.ends named)

        abbrev links_to : Made → Bool → Looked → Seen
        links_to m b looked = Links looked m b

        both_leads : PlanAgrees table tags s w pid r
        both_leads =
            both_swapped table tags s w pid r planned u v at after refl lead second lead.canon.host more takes also l.same.target e.made.target l.same.ends e.made.ends refl l.same.new e.made.new
            (ap (λ seen. linked seen k)
            (ap (λ b. if_found table pid s lead.place (links_to (made_at table pid s second.place) b)) same_mounted ∙ ap (λ m. if_found table pid s lead.place (links_to m true)) (sym e.made.same)
            ∙ sym (l.same.same (links_to (made_at plain pid w e.made.target) true)) ∙ ap (λ b. if_found plain pid w l.same.target (links_to (made_at plain pid w e.made.target) b)) (sym same_plain)))
            (inl (same_mounts lead.place l.same.target (l.there ∙ sym there)))

      link_leads : PlanAgrees table tags s w pid r
      link_leads =
          with_second_path table tags s w pid r planned u v at after refl lead lead.canon.host takes l.same.target l.same.ends l.same.new refl (λ rows x one. refl) (λ rows x one. refl) both_leads

    pub links_agree : PlanAgrees table tags s w pid r
    links_agree = by_first table tags s w pid r u planned at (λ none. absurd (planned.first u v at after none)) link_leads

-- ---- entries that move

covered_old : (k : Known) (n : Taken) → renameat2_row k TakesCovered n true ≡ refuse EBUSY
covered_old k (TakesNoName l) = refl
covered_old k TakesCovered = refl
covered_old k (Takes e) = refl

covered_new : (k : Known) (o : Taken) → ((e : Entered) → o ≡ Takes e → is_there e.found ≡ true) → renameat2_row k o TakesCovered true ≡ refuse EBUSY
covered_new k (TakesNoName l) found = refl
covered_new k TakesCovered found = refl
covered_new k (Takes e) found = let x = there_is e.found (found e refl) in ap (λ o. option_map_or (move_uncovered k e TakesCovered) o (refuse ENOENT)) x.1

none_there : {A : Type 0} (o : Option A) → is_there o ≡ false → o ≡ None
none_there None e = refl
none_there (Some x) e = absurd cc

-- of an old entry that isn't there the new one isn't asked, if it ends in a name
free_old : (k : Known) (o n : Taken) → ((e : Entered) → o ≡ Takes e → is_there e.found ≡ false) → ends_in_name n ≡ true → renameat2_row k o TakesCovered true ≡ renameat2_row k o n true
free_old k (TakesNoName l) n free ends = refl
free_old k TakesCovered n free ends = sym (covered_old k n)
free_old k (Takes e) n free ends =
    let none = none_there e.found (free e refl) in
    let missing : (m : Taken) → move_taken k (Takes e) m ≡ refuse ENOENT = λ m. ap (λ o. option_map_or (move_uncovered k e m) o (refuse ENOENT)) none in
    missing TakesCovered ∙ sym (ap (λ b. if not (true && b) then refuse EBUSY else move_taken k (Takes e) n) ends ∙ missing n)

module _ (rows : List Row) (pid : ℕ) (x : State ℕ Image) (t : PlaceTarget) where
  -- ---- ends of names

  abbrev taken_by : Last → Taken
  taken_by l = if_name l (if is_covered rows t.dir.host t.name then TakesCovered else Takes (entered t)) (TakesNoName l)

  entry_by : (l : Last) (e : Entered) → taken_by l ≡ Takes e → l ≡ last.Name
  entry_by last.Name e is = refl
  entry_by last.Dot e is = absurd cc
  entry_by last.DotDot e is = absurd cc
  entry_by last.Root e is = absurd cc

  entry_named : (e : Entered) → taken_at rows pid x t ≡ Takes e → t.last ≡ last.Name
  entry_named e is = entry_by t.last e is

  covered_by : (l : Last) → taken_by l ≡ TakesCovered → l ≡ last.Name
  covered_by last.Name is = refl
  covered_by last.Dot is = absurd cc
  covered_by last.DotDot is = absurd cc
  covered_by last.Root is = absurd cc

  covered_named : taken_at rows pid x t ≡ TakesCovered → t.last ≡ last.Name
  covered_named is = covered_by t.last is

  named_ends : t.last ≡ last.Name → ends_in_name (taken_at rows pid x t) ≡ true
  named_ends is = ap (λ l. ends_in_name (taken_by l)) is ∙ by (is_covered rows t.dir.host t.name)
    where
      by : (b : Bool) → ends_in_name (if b then TakesCovered else Takes (entered t)) ≡ true
      by true = refl
      by false = refl

  -- what is told of what is made tells it, too
  abbrev made_by : Last → Made
  made_by l = if_name l (if is_there t.found then MakesOver else Makes t.dir.host t.name t.slash) (MakesNoName l)

  named_made : (l : Last) → t.last ≡ last.Name → made_at rows pid x t ≡ MakesNoName l → ⊥
  named_made l is none = by (is_there t.found) (sym (ap made_by is) ∙ none)
    where
      by : (b : Bool) → (if b then MakesOver else Makes t.dir.host t.name t.slash) ≡ MakesNoName l → ⊥
      by true e = cc
      by false e = cc

  made_named : ((l : Last) → made_at rows pid x t ≡ MakesNoName l → ⊥) → t.last ≡ last.Name
  made_named some = by t.last refl
    where
      by : (l : Last) → t.last ≡ l → t.last ≡ last.Name
      by last.Name is = is
      by last.Dot is = absurd (some last.Dot (ap made_by is))
      by last.DotDot is = absurd (some last.DotDot (ap made_by is))
      by last.Root is = absurd (some last.Root (ap made_by is))

module _ (table : List Row) (tags : TagTable) (s w : State ℕ Image) (pid : ℕ) (olddir : ℤ) (old : List ℕ) (newdir : ℤ) (new : List ℕ) (u v : PathUse) (planned : IsPlanned table tags s w pid (call.Renameat2 olddir old newdir new))
    (at : path_at (call.Renameat2 olddir old newdir new) 0 ≡ Some u) (after : path_at (call.Renameat2 olddir old newdir new) 1 ≡ Some v) (named : u.mode ≡ modes.Name) (called : v.mode ≡ modes.Name) where
  abbrev m : Request
  m = call.Renameat2 olddir old newdir new

  abbrev knows : Known
  knows = known image_layout pid s

  entry_at : (n : ℕ) (x : PathUse) → path_at m n ≡ Some x → x.mode ≡ modes.Name → (lead : LeadsBoth table tags s w pid x false) → IsEntry table tags s w pid x false lead
  entry_at n x is mode lead = (swaps_agree table tags s w pid x false lead planned.together).entry mode (path_good table pid s planned.together.matched.placed.lawful planned.links m planned.texts n x is lead.place lead.target)

  swapped_at : (x : PathUse) → x.mode ≡ modes.Name → (lead : LeadsBoth table tags s w pid x false) → swap_for (texts_of table) (purpose_of false x.mode) lead.canon ≡ Ok (entry_swap (texts_of table) lead.canon lead.canon.last)
  swapped_at x mode lead = ap (λ p. swap_for (texts_of table) p lead.canon) (purpose_names false x.mode refl mode)

  module _ (lead : LeadsBoth table tags s w pid u false) where
    first : IsEntry table tags s w pid u false lead
    first = entry_at 0 u at named lead

    -- an entry exists for the tracer where it is there
    exists_there : (e : Entered) (b : Bool) → taken_at table pid s lead.place ≡ Takes e → lead.canon.exists ≡ b → is_there e.found ≡ b
    exists_there e b is exists = taken_there table pid s lead.place e is ∙ sym (first.exists (entry_named table pid s lead.place e is)) ∙ exists

    module _ (second : LeadsBoth table tags s w pid v false) where
      next : IsEntry table tags s w pid v false second
      next = entry_at 1 v after called second

      abbrev a : PlaceTarget
      a = lead.place

      abbrev b : PlaceTarget
      b = second.place

      in_mount : (a.dir.mount == b.dir.mount) ≡ true
      in_mount =
          in_one (a.dir.mount == b.dir.mount) (are_parted table s.tree a.dir.host b.dir.host)
          (sym (ap (breaks_2 table s.tree m) (both_are table tags s w pid m planned u v at after refl lead second)) ∙ planned.within)

      moved_is : operation pid m (told table pid s m (both_targets table tags s w pid m planned u v at after refl lead second a b)) knows ≡ renameat2_row knows (taken_at table pid s a) (taken_at table pid s b) true
      moved_is = ap (renameat2_row knows (taken_at table pid s a) (taken_at table pid s b)) in_mount

      abbrev old_text : List ℕ
      old_text = entry_swap (texts_of table) lead.canon lead.canon.last

      abbrev new_text : List ℕ
      new_text = entry_swap (texts_of table) second.canon second.canon.last

      busy_leads : (is_at_point (texts_of table) lead.canon lead.canon.last || (lead.canon.exists && is_at_point (texts_of table) second.canon second.canon.last)) ≡ true
          → renameat2_row knows (taken_at table pid s a) (taken_at table pid s b) true ≡ refuse EBUSY → PlanAgrees table tags s w pid m
      busy_leads busy refused = both_busy table tags s w pid m planned u v at after refl lead second old_text new_text (swapped_at u named lead) (swapped_at v called second) busy (moved_is ∙ refused)

      -- what is moved has a mount where the old entry is there
      moved_mounts : (t x : PlaceTarget) (o : Taken) → taken_at table pid s a ≡ o → taken_at plain pid w t ≡ o
          → (bare_mounts (mounts_of (both_targets table tags s w pid m planned u v at after refl lead second a b)) ≡ bare_mounts (mounts_of (both_targets table tags s w pid m planned u v at after refl lead second t x)))
          ⊎ ((e : Errno) × (operation pid m (told table pid s m (both_targets table tags s w pid m planned u v at after refl lead second a b)) knows ≡ refuse e))
      moved_mounts t x (TakesNoName l) is same = inr (EBUSY, moved_is ∙ ap (λ o. renameat2_row knows o (taken_at table pid s b) true) is)
      moved_mounts t x TakesCovered is same = inr (EBUSY, moved_is ∙ ap (λ o. renameat2_row knows o (taken_at table pid s b) true) is ∙ covered_old knows (taken_at table pid s b))
      moved_mounts t x (Takes e) is same = inl (same_mounts a t (sym (taken_there table pid s a e is) ∙ taken_there plain pid w t e same))

      move_swapped : (t : EndsPlain w pid u old_text (TakesSame table s w pid a)) (told : PlaceTarget → Type 0) (x : EndsPlain w pid v new_text told)
          → (is_at_point (texts_of table) lead.canon lead.canon.last || (lead.canon.exists && is_at_point (texts_of table) second.canon second.canon.last)) ≡ false
          → renameat2_row knows (taken_at table pid s a) (taken_at table pid s b) true ≡ renameat2_row knows (taken_at table pid s a) (taken_at plain pid w x.target) true → PlanAgrees table tags s w pid m
      move_swapped t told x idle same =
          let one : (t.target.dir.mount == x.target.dir.mount) ≡ true = both_first t.target.dir.mount x.target.dir.mount (plain_dir table tags s w pid m planned (with_path old_text u) t.target t.ends named) (plain_dir table tags s w pid m planned (with_path new_text v) x.target x.ends called) in
          both_swapped table tags s w pid m planned u v at after refl lead second old_text new_text (swapped_at u named lead) (swapped_at v called second) t.target x.target t.ends x.ends idle t.new x.new
          (moved_is ∙ same ∙ ap (λ o. renameat2_row knows o (taken_at plain pid w x.target) true) (sym t.same) ∙ sym (ap (renameat2_row knows (taken_at plain pid w t.target) (taken_at plain pid w x.target)) one))
          (moved_mounts t.target x.target (taken_at table pid s a) refl t.same)

      by_points : (old_point exists new_point : Bool) → is_at_point (texts_of table) lead.canon lead.canon.last ≡ old_point → lead.canon.exists ≡ exists → is_at_point (texts_of table) second.canon second.canon.last ≡ new_point → PlanAgrees table tags s w pid m
      by_points true exists new_point e f g =
          busy_leads (ap (λ p. p || (lead.canon.exists && is_at_point (texts_of table) second.canon second.canon.last)) e)
          (ap (λ o. renameat2_row knows o (taken_at table pid s b) true) (first.covered e) ∙ covered_old knows (taken_at table pid s b))
      by_points false true true e f g =
          busy_leads (ap (λ p. p || (lead.canon.exists && is_at_point (texts_of table) second.canon second.canon.last)) e ∙ ap (λ x. x && is_at_point (texts_of table) second.canon second.canon.last) f ∙ g)
          (ap (λ n. renameat2_row knows (taken_at table pid s a) n true) (next.covered g) ∙ covered_new knows (taken_at table pid s a) (λ x is. exists_there x true is f))
      by_points false exists false e f g =
          move_swapped (first.taken e) (TakesSame table s w pid b) (next.taken g)
          (ap (λ p. p || (lead.canon.exists && is_at_point (texts_of table) second.canon second.canon.last)) e ∙ ap (λ p. lead.canon.exists && p) g ∙ nothing lead.canon.exists)
          (ap (λ n. renameat2_row knows (taken_at table pid s a) n true) (sym (next.taken g).same))
        where
          nothing : (x : Bool) → (x && false) ≡ false
          nothing true = refl
          nothing false = refl
      by_points false false true e f g =
          move_swapped (first.taken e) (MakesSame table s w pid b) next.made
          (ap (λ p. p || (lead.canon.exists && is_at_point (texts_of table) second.canon second.canon.last)) e ∙ ap (λ x. x && is_at_point (texts_of table) second.canon second.canon.last) f)
          (ap (λ n. renameat2_row knows (taken_at table pid s a) n true) (next.covered g)
          ∙ free_old knows (taken_at table pid s a) (taken_at plain pid w next.made.target) (λ x is. exists_there x false is f)
          (named_ends plain pid w next.made.target
          (made_named plain pid w next.made.target (λ l none. named_made table pid s b l (covered_named table pid s b (next.covered g)) (sym next.made.same ∙ none)))))

      move_both : PlanAgrees table tags s w pid m
      move_both = by_points (is_at_point (texts_of table) lead.canon lead.canon.last) lead.canon.exists (is_at_point (texts_of table) second.canon second.canon.last) refl refl refl

    move_leads : PlanAgrees table tags s w pid m
    move_leads =
        with_second_path table tags s w pid m planned u v at after refl lead (entry_swap (texts_of table) lead.canon lead.canon.last) (swapped_at u named lead) first.made.target first.made.ends first.made.new refl (λ rows x one. refl)
        (λ rows x one. refl) move_both

  pub moves_agree : PlanAgrees table tags s w pid m
  moves_agree = by_first table tags s w pid m u planned at (λ none. absurd (planned.first u v at after none)) move_leads
