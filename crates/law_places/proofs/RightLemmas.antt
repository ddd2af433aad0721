-- All places stand after a change of a mode or of an owner that takes search from nothing which needs it.
use Rattle.std.proofs.Common.{◌≡◌, ℕ, Bool, true, false, List, Some, refl, sym, ap, ◌∙◌}
use Rattle.std.specs.FinMap as map
use Rattle.std.specs.Option.{option_map, option_map_or}
use Rattle.std.proofs.lemmas.Bool.{eq-eqb}
use Rattle.kr_calm.proofs.pr_base.MapLemmas.{get-changed_same}
use Rattle.law_walks.specs.kr_inode.declared.user.User.{User}
use Rattle.law_walks.specs.kr_inode.declared.user.Right.TheVariants.{Search}
use Rattle.law_walks.specs.kr_tree.Changes.{mode_set, owner_set, with_inode, with_inodes, with_mode, with_owner}
use Rattle.law_walks.specs.kr_tree.Rights.{allows, may}
use Rattle.law_walks.specs.kr_tree.Tree.{Inode, Node as NodeWord, Tree}
use Rattle.law_walks.specs.kr_view.View.{Row}
use Rattle.kr_calm.proofs.law_lawful.ChangeLemmas.{every-change-keeps}
use Rattle.law_walks.specs.kr_model.Applied.{with_tree}
use Rattle.law_walks.specs.kr_model.Change.{SetMode, SetOwner}
use Rattle.law_walks.specs.kr_model.Lawful.{IsLawful}
use Rattle.law_walks.specs.kr_model.ProcessDirectory.{space_of}
use Rattle.law_walks.specs.kr_model.State.{Image, State}
use Rattle.law_places.specs.Following.{StoodAndStays}
use Rattle.law_places.specs.Losses.{InodesStay, Losses, nothing, search_of}
use Rattle.law_places.specs.Standing.{PlacesStand}
use Rattle.law_places.specs.Taking.{RightsKeepPlaces, SparesSearch}
use Rattle.law_places.specs.Uses.{IsUse, Use, cwd_use, exe_use, is_cwd, is_exe, is_open}
use Rattle.law_places.proofs.FollowLemmas.{follows_itself, follows_tree}
use Rattle.law_places.proofs.KeptLemmas.{stood_kept, table_kept}
use Rattle.law_places.proofs.SpaceLemmas.{places_follow}
use Rattle.law_places.proofs.TreeLemmas.{mode_set_stays, owner_set_stays, stay_all}

-- an inode's search before, and after it was changed
may_before : (t : Tree) (user : User) (i : ℕ) (y : Inode) → map.get t.inodes i ≡ Some y → may t user i Search ≡ allows user y.node Search
may_before t user i y at = ap (λ o. option_map_or (λ (n : NodeWord). allows user n Search) (option_map (λ (x : Inode). x.node) o) false) at

may_after : (t : Tree) (user : User) (i : ℕ) (f : Inode → Inode) (y : Inode) → map.get t.inodes i ≡ Some y → may (with_inodes (with_inode i f t.inodes) t) user i Search ≡ allows user (f y).node Search
may_after t user i f y at = ap (λ o. option_map_or (λ (n : NodeWord). allows user n Search) (option_map (λ (x : Inode). x.node) o) false) (get-changed_same t.inodes i f ∙ ap (option_map f) at)

module _ (table : List Row) (s : State ℕ Image) (stand : PlacesStand table s) (i : ℕ) (f : Tree → Tree) where
  abbrev after : State ℕ Image
  after = with_tree f s

  -- what a tree is left with where nothing is lost, or the search of the inode
  pub record Turns (g : Inode → Inode) : Type 0 where
    pub leaves : (lost : Losses) → ((y : Inode) → map.get s.tree.inodes i ≡ Some y → lost.shut i ≡ false → allows s.user y.node Search ≡ true → allows s.user (g y).node Search ≡ true) → InodesStay s.user lost s.tree.inodes (f s.tree).inodes
    pub told : (y : Inode) → map.get s.tree.inodes i ≡ Some y → may (f s.tree) s.user i Search ≡ allows s.user (g y).node Search

  -- where search is lost
  shut_keeps : (g : Inode → Inode) → Turns g → IsLawful (λ m. m) table after → SparesSearch table s i → PlacesStand table after
  shut_keeps g turns lawful spares =
      let lost = search_of i in
      let P = StoodAndStays lost table s in
      places_follow lost table s after stand spares.mounts lawful
      (follows_tree lost P s f s (λ before. turns.leaves lost (λ y at open_ gives. let clash : true ≡ false = sym (eq-eqb i i refl) ∙ open_ in absurd cc))
      (follows_itself lost P s (λ k p at. (of (cwd_use p) (is_cwd k p at), of (exe_use p) (is_exe k p at))) (λ n o q at there. of _ (is_open n o q at there))))
    where
      of : (x : Use) → IsUse s x → StoodAndStays (search_of i) table s x
      of x is = record { stood = stand.uses x is; keeps = spares.uses x is }

  -- where it isn't
  open_keeps : (g : Inode → Inode) → Turns g → IsLawful (λ m. m) table after → ((y : Inode) → map.get s.tree.inodes i ≡ Some y → allows s.user y.node Search ≡ true → allows s.user (g y).node Search ≡ true) → PlacesStand table after
  open_keeps g turns lawful gives =
      let P = StoodAndStays nothing table s in
      places_follow nothing table s after stand (table_kept (space_of table s)) lawful
      (follows_tree nothing P s f s (λ before. turns.leaves nothing (λ y at open_ had. gives y at had))
      (follows_itself nothing P s (λ k p at. (of (cwd_use p) (is_cwd k p at), of (exe_use p) (is_exe k p at))) (λ n o q at there. of _ (is_open n o q at there))))
    where
      of : (x : Use) → IsUse s x → StoodAndStays nothing table s x
      of x is = stood_kept table s x (stand.uses x is)

  pub rights_keep : (g : Inode → Inode) → Turns g → IsLawful (λ m. m) table after → (may s.tree s.user i Search ≡ true → may (f s.tree) s.user i Search ≡ false → SparesSearch table s i) → PlacesStand table after
  rights_keep g turns lawful spares = by (may s.tree s.user i Search) (may (f s.tree) s.user i Search) refl refl
    where
      by : (a b : Bool) → may s.tree s.user i Search ≡ a → may (f s.tree) s.user i Search ≡ b → PlacesStand table after
      by true false had has = shut_keeps g turns lawful (spares had has)
      by a true had has = open_keeps g turns lawful (λ y at gives. sym (turns.told y at) ∙ has)
      by false false had has = open_keeps g turns lawful (λ y at gives. let clash : false ≡ true = sym had ∙ may_before s.tree s.user i y at ∙ gives in absurd cc)

pub rights_keep_places : RightsKeepPlaces
rights_keep_places = record {
  modes = λ table mounts pid i mode s stand lives can spares.
      rights_keep table s stand i (mode_set i mode) (with_mode mode)
      (record { leaves = λ lost gives. mode_set_stays s.user lost s.tree.inodes s.tree (stay_all s.user lost s.tree.inodes) i mode gives; told = λ y at. may_after s.tree s.user i (with_mode mode) y at })
      (every-change-keeps ℕ (λ m. m) table mounts pid (SetMode i mode) s stand.lawful lives can) spares;
  owners = λ table mounts pid i uid gid s stand lives can spares.
      rights_keep table s stand i (owner_set i uid gid) (with_owner uid gid)
      (record { leaves = λ lost gives. owner_set_stays s.user lost s.tree.inodes s.tree (stay_all s.user lost s.tree.inodes) i uid gid gives; told = λ y at. may_after s.tree s.user i (with_owner uid gid) y at })
      (every-change-keeps ℕ (λ m. m) table mounts pid (SetOwner i uid gid) s stand.lawful lives can) spares;
}
