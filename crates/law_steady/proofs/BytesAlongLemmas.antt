-- Of changes one behind the other, of which one can alter the bytes of a file, that one tells whether they alter them.
use Rattle.std.specs.FinMap as map
use Rattle.std.proofs.Common.{◌≡◌, ℕ, ◌+◌, Bool, true, false, not, ◌||◌, cond, List, [], ◌∷◌, Option, Some, None, refl, sym, ap, ◌∙◌}
use Rattle.std.proofs.lemmas.Bool.{or_parts}
use Rattle.std.specs.Prelude.{◌↔◌}
use Rattle.std.specs.List.{list_all}
use Rattle.std.specs.Option.{option_map, option_map_or}
use Rattle.law_lawful.specs.Laws.{CanAllBeMade}
use Rattle.law_lawful.proofs.ChangeLemmas.{every-change-keeps}
use Rattle.law_lawful.proofs.pr_base.MapLemmas.{by_key, get-changed_other, get-changed_same}
use Rattle.law_lawful.specs.kr_tree.Changes as tree
use Rattle.law_lawful.specs.kr_tree.Tree.{Inode, Tree, bytes_of, inode}
use Rattle.law_lawful.specs.kr_tree.declared.place.Place.{Place}
use Rattle.law_lawful.specs.kr_view.View.{Row}
use Rattle.law_lawful.specs.kr_model.Applied.{Mounts, all_applied, applied, held_at, images, mount_of, open_in}
use Rattle.law_lawful.specs.kr_model.Change.{Change, OpenFile, Seek, SetSize, WriteFile}
use Rattle.law_lawful.specs.kr_model.Judged.{alters_bytes, leaves_bytes}
use Rattle.law_lawful.specs.kr_model.Lawful.{IsLawful}
use Rattle.law_lawful.specs.kr_model.State.{Image, State, inode_of, named}
use Rattle.law_steady.specs.Along.{passes_along}
use Rattle.law_steady.specs.Bytes.{BytesAreToldAlong, HasBytes, alters_bytes_of}
use Rattle.law_steady.specs.Calls.{alter_one_file, is_beside, is_once}
use Rattle.law_steady.proofs.AlongLemmas.{both_true, counted, not_true, only_first, only_later, quiet}
use Rattle.law_steady.proofs.BytesLemmas.{StillHas, bytes_are_told, still, still_after, still_has_bytes, still_on}

-- no more is told than of the kind of a change
pub less_of_bytes : (t : Tree) (c : Change) → alters_bytes c ≡ false → alters_bytes_of t c ≡ false
less_of_bytes t (SetSize i size) none = absurd cc
less_of_bytes t (WriteFile i at bytes) none = absurd cc
less_of_bytes t c none = refl

-- ---- what stands beside a change of bytes

-- every inode is there in both trees or in neither, with the same bytes
pub record SameBytes (t u : Tree) : Type 0 where
  pub there : (i : ℕ) (x : Inode) → inode t i ≡ Some x → (y : Inode) × (inode u i ≡ Some y) × (bytes_of y.node.body ≡ bytes_of x.node.body)
  pub was : (i : ℕ) (y : Inode) → inode u i ≡ Some y → (x : Inode) × (inode t i ≡ Some x) × (bytes_of y.node.body ≡ bytes_of x.node.body)

same : (t : Tree) → SameBytes t t
same t = record { there = λ i x is. (x, is, refl); was = λ i y is. (y, is, refl) }

same_on : {t u v : Tree} → SameBytes t u → SameBytes u v → SameBytes t v
same_on first second = record {
  there = λ i x is. let one = first.there i x is in let two = second.there i one.0 one.1 in (two.0, two.1, two.2 ∙ one.2);
  was = λ i y is. let two = second.was i y is in let one = first.was i two.0 two.1 in (one.0, one.1, two.2 ∙ one.2);
}

-- a hold tells nothing of bytes
from_held : (o : Option Inode) (y : Inode) → option_map (tree.with_holds (λ n. n + 1)) o ≡ Some y → (x : Inode) × (o ≡ Some x) × (bytes_of y.node.body ≡ bytes_of x.node.body)
from_held None y h = absurd cc
from_held (Some x) y h = (x, refl, sym (ap (λ o. option_map_or (λ (z : Inode). bytes_of z.node.body) o []) h))

same_held : (k : ℕ) (t : Tree) → SameBytes t (tree.held k t)
same_held k t = record {
  there = by_key (λ i. (x : Inode) → inode t i ≡ Some x → (y : Inode) × (inode (tree.held k t) i ≡ Some y) × (bytes_of y.node.body ≡ bytes_of x.node.body)) k
      (λ x is. (tree.with_holds (λ n. n + 1) x, get-changed_same t.inodes k (tree.with_holds (λ n. n + 1)) ∙ ap (option_map (tree.with_holds (λ n. n + 1))) is, refl))
      (λ q away x is. (x, get-changed_other t.inodes k (tree.with_holds (λ n. n + 1)) q away ∙ is, refl));
  was = by_key (λ i. (y : Inode) → inode (tree.held k t) i ≡ Some y → (x : Inode) × (inode t i ≡ Some x) × (bytes_of y.node.body ≡ bytes_of x.node.body)) k
      (λ y is. from_held (map.get t.inodes k) y (sym (get-changed_same t.inodes k (tree.with_holds (λ n. n + 1))) ∙ is))
      (λ q away y is. (y, sym (get-changed_other t.inodes k (tree.with_holds (λ n. n + 1)) q away) ∙ is, refl));
}

module _ {M : Type 0} (mounts : Mounts M) (pid : ℕ) where
  same_held_at : {A : Type 0} (o : Option (Place A)) (t : Tree) → SameBytes t (held_at o t)
  same_held_at None t = same t
  same_held_at (Some p) t = same_held (inode_of p.host) t

  by_option : {A : Type 0} (s : State M Image) (o : Option A) (g : A → State M Image) → ((x : A) → SameBytes s.tree (g x).tree) → SameBytes s.tree (option_map_or g o s).tree
  by_option s None g each = same s.tree
  by_option s (Some x) g each = each x

  pub beside_leaves : (c : Change) (s : State M Image) → is_beside c ≡ true → SameBytes s.tree (applied images mounts pid c s).tree
  beside_leaves (OpenFile fd cloexec from o) s is = by_option s (mount_of mounts pid s from) (λ m. open_in pid fd cloexec o m s) (λ m. same_held_at o.place s.tree)
  beside_leaves (Seek fd at) s is = by_option s (named pid fd s) _ (λ x. same s.tree)
  beside_leaves c s is = absurd cc

-- ---- of lists

of_others : (a b : Bool) → (a || b) ≡ true → a ≡ false → b ≡ true
of_others true b one none = absurd cc
of_others false b one none = one

module _ {M : Type 0} (number : M → ℕ) (table : List Row) (mounts : Mounts M) (pid : ℕ) where
  abbrev after : List Change → State M Image → State M Image
  after cs s = all_applied images mounts pid cs s

  abbrev alter : State M Image → List Change → Bool
  alter s cs = passes_along alters_bytes_of mounts pid s cs

  -- what isn't told to alter bytes leaves them, whatever else it does
  pub still_along : (cs : List Change) (s : State M Image) → alter s cs ≡ false → StillHas s.tree (after cs s).tree
  still_along [] s none = still s.tree
  still_along (c ∷ cs) s none =
      let next = applied images mounts pid c s in
      let parts = or_parts (alters_bytes_of s.tree c) (alter next cs) none in
      still_on (still_after images mounts pid c s parts.0) (still_along cs next parts.1)

  forth : (cs : List Change) (s : State M Image) → IsLawful number table s → alter s cs ≡ false → HasBytes s.tree (after cs s).tree
  forth cs s lawful none = still_has_bytes s.tree (after cs s).tree lawful.tree.sound (still_along cs s none)

  -- of changes that can alter the bytes of one file, or stand beside such a one
  abbrev are_beside : List Change → Bool
  are_beside cs = list_all (λ c. alters_bytes c || is_beside c) cs

  all_beside : (cs : List Change) (s : State M Image) → are_beside cs ≡ true → leaves_bytes cs ≡ true → SameBytes s.tree (after cs s).tree
  all_beside [] s plain none = same s.tree
  all_beside (c ∷ cs) s plain none =
      let parts = both_true (alters_bytes c || is_beside c) (are_beside cs) plain in
      let others = both_true (not (alters_bytes c)) (leaves_bytes cs) none in
      let next = applied images mounts pid c s in
      same_on (beside_leaves mounts pid c s (of_others (alters_bytes c) (is_beside c) parts.0 (not_true (alters_bytes c) others.0))) (all_beside cs next parts.1 others.1)

  -- bytes that are the same at the end were so behind the one that can alter them
  before_others : (s t u : Tree) → SameBytes t u → HasBytes s u → HasBytes s t
  before_others s t u beside has i x y old there = let z = beside.there i y there in sym z.2 ∙ has i x z.0 old z.1

  after_others : (s t u : Tree) → SameBytes s t → HasBytes s u → HasBytes t u
  after_others s t u beside has i y z there last = let x = beside.was i y there in has i x.0 z x.1 last ∙ sym x.2

  back : (cs : List Change) (s : State M Image) → IsLawful number table s → CanAllBeMade number table mounts pid s cs → are_beside cs ≡ true → is_once alters_bytes cs ≡ true
      → HasBytes s.tree (after cs s).tree → alter s cs ≡ false
  back [] s lawful made plain once has = refl
  back (c ∷ cs) s lawful made plain once has =
      by (alters_bytes c) refl once (back cs (applied images mounts pid c s) (every-change-keeps M number table mounts pid c s lawful made.0 made.1) made.2 (both_true (alters_bytes c || is_beside c) (are_beside cs) plain).1)
    where
      rest : are_beside cs ≡ true
      rest = (both_true (alters_bytes c || is_beside c) (are_beside cs) plain).1

      this : (alters_bytes c || is_beside c) ≡ true
      this = (both_true (alters_bytes c || is_beside c) (are_beside cs) plain).0

      by : (b : Bool) → alters_bytes c ≡ b → cond b (leaves_bytes cs) (is_once alters_bytes cs) ≡ true → (is_once alters_bytes cs ≡ true → HasBytes (applied images mounts pid c s).tree (after cs (applied images mounts pid c s)).tree → alter (applied images mounts pid c s) cs ≡ false) → alter s (c ∷ cs) ≡ false
      by true is none later =
          let next = applied images mounts pid c s in
          only_first alters_bytes_of alters_bytes less_of_bytes mounts pid c cs s none
          ∙ (bytes_are_told M number table mounts pid c s lawful.tree made.1).1 (before_others s.tree next.tree (after cs next).tree (all_beside cs next rest none) has)
      by false is once later =
          let next = applied images mounts pid c s in
          only_later alters_bytes_of alters_bytes less_of_bytes mounts pid c cs s is
          ∙ later once (after_others s.tree next.tree (after cs next).tree (beside_leaves mounts pid c s (of_others (alters_bytes c) (is_beside c) this is)) has)

  told_along : (cs : List Change) (s : State M Image) → IsLawful number table s → CanAllBeMade number table mounts pid s cs → alter_one_file cs ≡ true → (alter s cs ≡ false) ↔ HasBytes s.tree (after cs s).tree
  told_along cs s lawful made few = (forth cs s lawful, by (leaves_bytes cs) refl parts.1)
    where
      parts : (is_once alters_bytes cs ≡ true) × ((leaves_bytes cs || are_beside cs) ≡ true)
      parts = both_true (is_once alters_bytes cs) (leaves_bytes cs || are_beside cs) few

      by : (b : Bool) → leaves_bytes cs ≡ b → (b || are_beside cs) ≡ true → HasBytes s.tree (after cs s).tree → alter s cs ≡ false
      by true is plain has = quiet alters_bytes_of alters_bytes less_of_bytes mounts pid cs s is
      by false is plain has = back cs s lawful made plain parts.0 has

pub bytes_are_told_along : (M : Type 0) → BytesAreToldAlong M
bytes_are_told_along M number table mounts pid s cs lawful made few =
    record {
      told = told_along number table mounts pid cs s lawful made few;
      times = counted alters_bytes_of alters_bytes less_of_bytes mounts pid cs s (both_true (is_once alters_bytes cs) (leaves_bytes cs || list_all (λ c. alters_bytes c || is_beside c) cs) few).0;
    }
