-- The mounts that are made of bindings, and the rows that they stand for.
use Rattle.std.proofs.Common.{◌≡◌, ◌≢◌, ℕ, Bool, List, [], ◌∷◌, ◌++◌, reverse, Option, Some, Result, Ok, Err, IsErr, IsErrAnd, refl, ap, sym, subst, ◌∙◌}
use Rattle.std.specs.Option.{option_map}
use Rattle.std.proofs.lemmas.List.{map-append}
use Rattle.std.proofs.lemmas.List.Elements.{All-head, All-nil}
use Rattle.kr_walk.specs.kr_inode.declared.user.User.{User}
use Rattle.kr_walk.specs.kr_tree.Tree.{Tree}
use Rattle.kr_walk.specs.kr_view.View.{Point, Row}
use Rattle.pt_bind.specs.pr_base.Paths.{AreParts, IsPart, parts_of, slash}
use Rattle.pt_bind.specs.pr_base.Texts.{Text}
use Rattle.pt_bind.specs.pr_base.declared.bind.Bound.{Bound}
use Rattle.pt_bind.specs.Binding.{IsWritten, names_of, point_of}
use Rattle.pt_bind.proofs.ByteLemmas.{names_written, spelled_in_turn}
use Rattle.kr_mounts.specs.Found.{HasTexts, located_told}
use Rattle.kr_mounts.specs.MountTable.{Located, Settling, after_way, dir_of, point_row, row_of, way_along}
use Rattle.kr_mounts.specs.Passes.{IsPlaced, dir_under, fault_told, standing}
use Rattle.kr_mounts.specs.Points.{Left, Wanted}
use Rattle.kr_mounts.specs.Sources.{Source}
use Rattle.kr_mounts.specs.Stored.{point_told, row_of_mount, table_of}
use Rattle.kr_mounts.specs.Texts.{last_name}
use Rattle.kr_mounts.specs.Ways.{IsEnded, way_of}
use Rattle.kr_mounts.specs.declared.fault.BindFault.{BindFault}
use Rattle.kr_mounts.specs.declared.fault.BindFault.TheVariants.{NoMemory}
use Rattle.kr_mounts.specs.declared.location.Stop.{Stop}
use Rattle.kr_mounts.specs.declared.location.Stop.TheVariants as stop
use Rattle.kr_mounts.specs.declared.mount.Mount.{Mount}
use Rattle.kr_mounts.specs.declared.mount.MountPoint.{MountPoint}
use Rattle.kr_mounts.specs.declared.order.Located.{Located as KeptLocated}
use Rattle.kr_mounts.proofs.CutLemmas.{some_text}
use Rattle.kr_mounts.proofs.PassLemmas.{same_error}

-- ---- rows

pub under_none : (dir : ℕ) (t : Text) → AreParts t → last_name t ≡ [] → 0 ≡ dir_under dir t
under_none dir [] are none = refl
under_none dir (name ∷ t) are none = absurd ((All-head IsPart name t are).some none)

pub under_some : (dir : ℕ) (t : Text) → last_name t ≢ [] → dir ≡ dir_under dir t
under_some dir [] some = absurd (some refl)
under_some dir (name ∷ t) some = refl

same_dir : (s : Source) (t : Text) → dir_under s.dir t ≡ dir_of s t
same_dir s [] = refl
same_dir s (name ∷ t) = refl

-- a mount of a source
abbrev pub mount_with : Bound → ℕ → ℕ → Bool → Option MountPoint → Mount
mount_with text source dir is_dir point = record {
  text = text;
  source = source;
  source_dir = dir_under dir (names_of text.source);
  source_name = last_name (names_of text.source);
  is_dir = is_dir;
  point = point;
}

pub row_told : (text : Bound) (source dir : ℕ) (is_dir : Bool) (point : Option MountPoint)
    → row_of_mount (mount_with text source dir is_dir point)
    ≡ row_of text.index (names_of text.location) (record { inode = source; is_dir = is_dir; dir = dir; text = names_of text.source }) (point_of text.point) (option_map point_told point)
row_told text source dir is_dir point =
    let e = same_dir (record { inode = source; is_dir = is_dir; dir = dir; text = names_of text.source }) (names_of text.source) in
    λ i. record {
      text = record { index = text.index; location = names_of text.location; source = names_of text.source; point = point_of text.point };
      source = source;
      source_dir = e i;
      source_name = last_name (names_of text.source);
      is_dir = is_dir;
      point = option_map point_told point;
    }

pub root_names : names_of (slash ∷ []) ≡ []
root_names = names_written [] (All-nil IsPart)

pub point_some : (bytes : List ℕ) → IsWritten bytes → point_of bytes ≡ Some (names_of bytes)
point_some [] w = absurd (some_text w.names (sym w.written))
point_some (b ∷ bytes) w = refl

-- ---- one binding's mount

along_is : (user : User) (table : List Row) (one : Located) (t : Tree) (names : List (List ℕ)) → way_along user table one t names ≡ way_of user table (record { is_dir = one.source.is_dir; keep = one.keep }) t names
along_is user table one t [] = refl
along_is user table one t (name ∷ names) = refl

module _ (user : User) (mounts : List Mount) (one : KeptLocated) (t new : Tree) (texts : HasTexts one) where
  abbrev wanted : Wanted
  wanted = record { is_dir = one.source.is_dir; keep = one.keep }

  abbrev way : Left Point
  way = way_of user (table_of mounts) wanted t (parts_of one.location)

  abbrev step : (Tree → List Row → Settling) → Settling
  step = standing user (table_of mounts) (located_told one) t

  steps : (go : Tree → List Row → Settling) → step go ≡ after_way (table_of mounts) (located_told one) way.tree way.answer go
  steps go =
      let same = along_is user (table_of mounts) (located_told one) t (reverse (names_of one.location)) ∙ ap (way_of user (table_of mounts) wanted t) (sym (spelled_in_turn one.location texts.location)) in
      ap (λ (l : Left Point). after_way (table_of mounts) (located_told one) l.tree l.answer go) same

  pub placed_there : (point : MountPoint) (mount : Mount) (more : List Mount) → IsEnded way new (Ok point) → row_of_mount mount ≡ point_row new (located_told one) (point_told point) → more ≡ mounts ++ mount ∷ []
      → (go : Tree → List Row → Settling) → step go ≡ go new (table_of more)
  placed_there point mount more ended row is go =
      let rows : table_of more ≡ table_of mounts ++ point_row new (located_told one) (point_told point) ∷ [] = ap table_of is ∙ map-append row_of_mount mounts (mount ∷ []) ∙ ap (λ r. table_of mounts ++ r ∷ []) row in
      steps go ∙ ap (λ u. after_way (table_of mounts) (located_told one) u way.answer go) ended.0 ∙ ap (λ a. after_way (table_of mounts) (located_told one) new a go) ended.1 ∙ ap (go new) (sym rows)

  pub placed_nowhere : (e : Stop) (f : BindFault) → IsEnded way new (Err e) → f ≡ fault_told one.index e → IsPlaced step new (Err f)
  placed_nowhere (stop.Bad why) f ended is =
      subst (λ f. IsPlaced step new (Err f)) (sym is)
      (λ go. steps go ∙ ap (λ u. after_way (table_of mounts) (located_told one) u way.answer go) ended.0 ∙ ap (λ a. after_way (table_of mounts) (located_told one) new a go) ended.1)
  placed_nowhere stop.NoMemory f ended is = subst (λ f. IsPlaced step new (Err f)) (sym is) tt

pub placed_memory : (step : (Tree → List Row → Settling) → Settling) (new : Tree) (r : Result (List Mount) BindFault) → IsErr r → IsErrAnd r (λ f. f ≡ NoMemory) → IsPlaced step new r
placed_memory step new r err same = subst (IsPlaced step new) (sym (same_error r NoMemory err same)) tt
