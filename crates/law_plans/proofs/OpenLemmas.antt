-- openat(2): what is looked up, and what may be made.
use Rattle.std.proofs.Common.{◌≡◌, ◌⊎◌, inl, inr, ℕ, Bool, true, false, List, Option, Some, None, Result, Ok, Err, refl, sym, ap, ◌∙◌}
use Rattle.std.specs.Bool.{if◌then◌else◌}
use Rattle.std.specs.Option.{option_map, option_map_or}
use Rattle.std.specs.Prelude.{ℤ, ◌&&◌, ◌||◌}
use Rattle.law_edits.specs.pr_base.WalkFrame.{may_be_free}
use Rattle.law_edits.specs.pr_base.declared.errno.Errno.{Errno}
use Rattle.law_edits.specs.pr_base.declared.errno.Errno.TheVariants.{EEXIST, EISDIR, ENOENT}
use Rattle.law_edits.specs.pr_base.declared.path.WalkMode.{WalkMode}
use Rattle.law_edits.specs.pr_base.declared.path.WalkMode.TheVariants as modes
use Rattle.law_edits.specs.pt_bind.Tags.{TagTable}
use Rattle.law_edits.specs.pt_args.Purposes.{made_swap, purpose_of, swap_for}
use Rattle.law_edits.specs.pt_args.declared.purpose.Purpose.TheVariants as purposes
use Rattle.law_edits.specs.kr_calls.Arguments.{has}
use Rattle.law_edits.specs.kr_calls.PathTable.{PathUse, make_mode, open_mode, path_at}
use Rattle.law_edits.specs.kr_calls.declared.request.Request.{Request}
use Rattle.law_edits.specs.kr_calls.declared.request.Request.TheVariants as call
use Rattle.law_places.specs.kr_tree.Lawful.{IsSound}
use Rattle.law_places.specs.kr_inode.declared.user.Right.TheVariants.{Read as ReadRight}
use Rattle.law_places.specs.kr_tree.Rights.{allows}
use Rattle.law_places.specs.kr_tree.Tree.{Body, Directory, Inode, Node as TreeNode, ProcessDirectory, RegularFile, SymbolicLink, inode, is_directory, root}
use Rattle.law_places.specs.kr_tree.declared.place.Host.TheVariants.{Node}
use Rattle.law_places.proofs.kr_tree.CountLemmas.{root_directory}
use Rattle.law_places.specs.kr_view.View.{Row, plain}
use Rattle.law_places.specs.kr_view.Walk.{PlaceTarget}
use Rattle.law_places.specs.kr_mounts.Standing.{texts_of}
use Rattle.law_places.specs.kr_model.Bare.{bare_mounts}
use Rattle.law_places.specs.kr_model.FileRows.{creates, excludes, open_body, open_directory, open_found, open_host, openat_row, truncates, wants_write}
use Rattle.law_places.specs.kr_model.Known.{Fact, Known, known}
use Rattle.law_places.specs.kr_model.Operation.{opened, operation}
use Rattle.law_places.specs.kr_model.Reply.{refuse}
use Rattle.law_places.specs.kr_model.Seen.{Looked, Opening, Opens, OpensFound, OpensNew, OpensNoName, OpensSlashed}
use Rattle.law_places.specs.kr_model.State.{Image, State, image_layout}
use Rattle.law_places.specs.kr_model.Walks.{created_at, if_found, mounts_of, told}
use Rattle.law_plans.specs.Begins.{LeadsBoth}
use Rattle.law_plans.specs.OnePath.{CreatesSame, IsLookedUp, IsOpenedAlike}
use Rattle.law_plans.specs.Plans.{IsPlanned, PlanAgrees}
use Rattle.law_plans.proofs.FoundLemmas.{looked_both, new_free, opened_there, same_mounts}
use Rattle.law_plans.proofs.OneLemmas.{swaps_agree}
use Rattle.law_plans.proofs.PlanLemmas.{one_cancelled, one_swapped, only}
use Rattle.law_plans.proofs.RequestLemmas.{purpose_looks}
use Rattle.law_plans.proofs.StayLemmas.{by_first, lead_good}

-- ---- modes

purpose_makes : (m : WalkMode) → may_be_free m ≡ true → purpose_of true m ≡ purposes.MayMake
purpose_makes modes.Look e = absurd cc
purpose_makes modes.LookLink e = absurd cc
purpose_makes modes.Name e = refl
purpose_makes modes.Open e = refl

make_free : (b : Bool) → may_be_free (if b then modes.Name else modes.Open) ≡ true
make_free true = refl
make_free false = refl

look_must : (b : Bool) → may_be_free (if b then modes.LookLink else modes.Look) ≡ false
look_must true = refl
look_must false = refl

-- ---- the root of the host

module _ (k : Known) (flags : ℕ) (creating : creates flags ≡ true) where
  makes_either : (a c : Bool) → (a || true || c) ≡ true
  makes_either true c = refl
  makes_either false c = refl

  directory_opened : (readable : Bool) → open_directory k flags (Node root) readable ≡ refuse EISDIR
  directory_opened readable = rw (creating, makes_either (wants_write flags) (truncates flags)) refl

  body_opened : (l : Looked) (n : TreeNode) (b : Body) → is_directory b ≡ true → open_body k flags l root n b ≡ refuse EISDIR
  body_opened l n (Directory entries standing) dir = directory_opened (allows k.user n ReadRight)
  body_opened l n (ProcessDirectory standing) dir = directory_opened (allows k.user n ReadRight)
  body_opened l n (RegularFile bytes) dir = absurd cc
  body_opened l n (SymbolicLink text) dir = absurd cc

module _ (s : State ℕ Image) (pid flags : ℕ) (sound : IsSound s.tree) (creating : creates flags ≡ true) (l : Looked) where
  abbrev k : Known
  k = known image_layout pid s

  abbrev fact : Inode → Fact
  fact x = record { node = x.node; names = x.names; directories = x.directories }

  root_opened : open_host k flags l (Node root) ≡ refuse EISDIR
  root_opened = by (inode s.tree root) (root_directory s.tree sound)
    where
      by : (o : Option Inode) → option_map_or (λ (x : Inode). is_directory x.node.body) o false ≡ true
          → option_map_or (λ n. open_body k flags l root n n.body) (option_map (λ (f : Fact). f.node) (option_map fact o)) (refuse ENOENT) ≡ refuse EISDIR
      by None dir = absurd cc
      by (Some x) dir = body_opened k flags creating l x.node x.node.body dir

  -- with O_CREAT it is refused as an ending without a name is
  root_refused : l.host ≡ Node root → open_found k flags l ≡ refuse (if excludes flags then EEXIST else EISDIR)
  root_refused top = ap (λ c. if c && excludes flags then refuse EEXIST else open_host k flags l l.host) creating ∙ by (excludes flags)
    where
      by : (b : Bool) → (if b then refuse EEXIST else open_host k flags l l.host) ≡ refuse (if b then EEXIST else EISDIR)
      by true = refl
      by false = ap (open_host k flags l) top ∙ root_opened

module _ (table : List Row) (tags : TagTable) (s w : State ℕ Image) (pid : ℕ) (dirfd : ℤ) (path : List ℕ) (flags permissions : ℕ) (u : PathUse) (planned : IsPlanned table tags s w pid (call.Openat dirfd path flags permissions)) (at : path_at (call.Openat dirfd path flags permissions) 0 ≡ Some u) (mode_is : u.mode ≡ open_mode flags) where
  abbrev r : Request
  r = call.Openat dirfd path flags permissions

  abbrev knows : Known
  knows = known image_layout pid s

  abbrev Lead : Type 0
  Lead = LeadsBoth table tags s w pid u true

  -- ---- with O_CREAT

  module _ (creating : creates flags ≡ true) (lead : Lead) where
    free : may_be_free u.mode ≡ true
    free = ap may_be_free mode_is ∙ ap (λ b. may_be_free (if b then make_mode flags else if has flags 0x20000 then modes.LookLink else modes.Look)) creating ∙ make_free (has flags 0x80 || has flags 0x20000)

    made : swap_for (texts_of table) (purpose_of true u.mode) lead.canon ≡ made_swap (texts_of table) lead.canon lead.canon.last
    made = ap (λ p. swap_for (texts_of table) p lead.canon) (purpose_makes u.mode free)

    row_is : (rows : List Row) (x : State ℕ Image) (t : PlaceTarget) → operation pid r (told rows pid x r (only (Some t))) knows ≡ openat_row knows (created_at rows pid x t) flags permissions
    row_is rows x t = ap (λ b. opened (if b then Opens (created_at rows pid x t) else if_found rows pid x t (λ l. Opens (OpensFound l))) (λ o. openat_row knows o flags permissions)) creating

    rows_alike : (m o : Opening) → IsOpenedAlike m o → openat_row knows m flags permissions ≡ openat_row knows o flags permissions
    rows_alike m o (inl same) = ap (λ o. openat_row knows o flags permissions) (sym same)
    rows_alike m o (inr (l, last, is, top, on)) =
        ap (λ o. openat_row knows o flags permissions) is ∙ root_refused s pid flags planned.together.matched.placed.settled.sound creating l top ∙ sym (ap (λ o. openat_row knows o flags permissions) on)

    mounts_by : (t : PlaceTarget) (o : Opening) → created_at table pid s lead.place ≡ o → created_at plain pid w t ≡ o
        → (bare_mounts (mounts_of (only (Some lead.place))) ≡ bare_mounts (mounts_of (only (Some t)))) ⊎ ((e : Errno) × (operation pid r (told table pid s r (only (Some lead.place))) knows ≡ refuse e))
    mounts_by t (OpensNoName l) is same = inr (if excludes flags then EEXIST else EISDIR, row_is table s lead.place ∙ ap (λ o. openat_row knows o flags permissions) is)
    mounts_by t OpensSlashed is same = inr (EISDIR, row_is table s lead.place ∙ ap (λ o. openat_row knows o flags permissions) is)
    mounts_by t (OpensFound f) is same = inl (same_mounts lead.place t (opened_there table pid s lead.place f is ∙ sym (opened_there plain pid w t f same)))
    mounts_by t (OpensNew d n) is same = inl (same_mounts lead.place t (new_free table pid s lead.place d n is ∙ sym (new_free plain pid w t d n same)))

    mounts_alike : (t : PlaceTarget) → IsOpenedAlike (created_at table pid s lead.place) (created_at plain pid w t)
        → (bare_mounts (mounts_of (only (Some lead.place))) ≡ bare_mounts (mounts_of (only (Some t)))) ⊎ ((e : Errno) × (operation pid r (told table pid s r (only (Some lead.place))) knows ≡ refuse e))
    mounts_alike t (inl same) = mounts_by t (created_at table pid s lead.place) refl same
    mounts_alike t (inr (l, last, is, top, on)) =
        inr (
          if excludes flags then EEXIST else EISDIR,
          row_is table s lead.place ∙ ap (λ o. openat_row knows o flags permissions) is ∙ root_refused s pid flags planned.together.matched.placed.settled.sound creating l top,
        )

    by_swap : (x : Result (List ℕ) Errno) → made_swap (texts_of table) lead.canon lead.canon.last ≡ x → CreatesSame table s w pid lead.place u x → PlanAgrees table tags s w pid r
    by_swap (Ok text) takes l =
        one_swapped table tags s pid r u at w refl lead text l.target l.ends l.new (row_is table s lead.place ∙ rows_alike (created_at table pid s lead.place) (created_at plain pid w l.target) l.same ∙ sym (row_is plain w l.target)) (λ looks. absurd looks)
        (mounts_alike l.target l.same) refl (made ∙ takes)
    by_swap (Err e) takes slashed =
        one_cancelled table tags s pid r u at w refl lead e (row_is table s lead.place ∙ ap (λ o. openat_row knows o flags permissions) slashed.1 ∙ ap refuse (sym slashed.0)) (λ looks. looks) (made ∙ takes)

    create_leads : PlanAgrees table tags s w pid r
    create_leads = by_swap (made_swap (texts_of table) lead.canon lead.canon.last) refl ((swaps_agree table tags s w pid u true lead planned.together).created free (lead_good table tags s w pid r u planned at lead))

  -- ---- of what is there

  module _ (looking : creates flags ≡ false) (lead : Lead) where
    must : may_be_free u.mode ≡ false
    must = ap may_be_free mode_is ∙ ap (λ b. may_be_free (if b then make_mode flags else if has flags 0x20000 then modes.LookLink else modes.Look)) looking ∙ look_must (has flags 0x20000)

    found_is : (rows : List Row) (x : State ℕ Image) (t : PlaceTarget) → told rows pid x r (only (Some t)) ≡ if_found rows pid x t (λ l. Opens (OpensFound l))
    found_is rows x t = ap (λ b. if b then Opens (created_at rows pid x t) else if_found rows pid x t (λ l. Opens (OpensFound l))) looking

    found_leads : PlanAgrees table tags s w pid r
    found_leads =
        let l : IsLookedUp table tags s w pid u true lead = (swaps_agree table tags s w pid u true lead planned.together).looked must in
        let t = l.same.target in
        one_swapped table tags s pid r u at w refl lead lead.canon.host t l.same.ends l.same.new
        (ap (λ seen. operation pid r seen knows) (found_is table s lead.place ∙ sym (l.same.same (λ l. Opens (OpensFound l))) ∙ sym (found_is plain w t)))
        (λ looks. absurd looks)
        (inl (same_mounts lead.place t (l.there ∙ sym (looked_both table plain pid s w lead.place t l.there l.same.same)))) refl (ap (λ p. swap_for (texts_of table) p lead.canon) (purpose_looks true u.mode must))

  pub opens_agree : PlanAgrees table tags s w pid r
  opens_agree = by_first table tags s w pid r u planned at (λ none. refl) (by (creates flags) refl)
    where
      by : (b : Bool) → creates flags ≡ b → Lead → PlanAgrees table tags s w pid r
      by true e lead = create_leads e lead
      by false e lead = found_leads e lead
