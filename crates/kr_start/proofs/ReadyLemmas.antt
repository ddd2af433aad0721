-- Trees in which bindings were settled are ready for a kernel.
use Rattle.std.proofs.Common.{◌≡◌, ◌≤◌, ◌<◌, ◌^◌, ℕ, List, [], ◌∷◌, length, map, Option, Some, None, refl, ap, subst, arith}
use Rattle.std.specs.Prelude.{Ok}
use Rattle.std.specs.Option.{option_map_or}
use Rattle.std.proofs.lemmas.List.{length-map}
use Rattle.elf_load.specs.pr_base.declared.bind.Bind.{Bind}
use Rattle.elf_load.specs.pr_base.declared.bind.Bound.{Bound}
use Rattle.law_walks.specs.pt_bind.Binding.{row_of, rows_of}
use Rattle.kr_text.specs.kr_inode.declared.user.User.{User}
use Rattle.kr_text.specs.kr_tree.Lawful.{HasItsInodes, IsKept}
use Rattle.kr_text.specs.kr_tree.Tree.{Tree, Inode, inode}
use Rattle.kr_text.specs.Drawn.{IsDrawn}
use Rattle.law_walks.specs.kr_view.Processes.{no_finds}
use Rattle.law_walks.specs.kr_view.View.{Row}
use Rattle.law_walks.specs.kr_mounts.Bounds.{AreNumbered}
use Rattle.law_walks.specs.kr_mounts.Growth.{IsGrown}
use Rattle.law_walks.specs.kr_mounts.MountTable.{settling}
use Rattle.law_walks.specs.kr_mounts.Standing.{IsSettledIn, texts_of}
use Rattle.law_walks.specs.kr_mounts.Stored.{row_of_mount, table_of}
use Rattle.law_walks.specs.kr_mounts.Ways.{HasNumbers}
use Rattle.law_walks.specs.kr_mounts.declared.mount.Mount.{Mount}
use Rattle.law_walks.proofs.kr_mounts.BeforeLemmas.{grown_trees_have_all_before}
use Rattle.law_walks.proofs.kr_mounts.LeadLemmas.{settled_mounts_stand}
use Rattle.law_allowed.proofs.SourceLemmas.{settled-are-named}
use Rattle.kr_start.proofs.GrownLemmas.{grown-last}
use Rattle.kr_start.proofs.ReadLemmas.{read-last}
use Rattle.kr_start.specs.Start.{HasNoHolds}
use Rattle.law_walks.specs.Settled.{IsSettled}
use Rattle.law_walks.specs.Start.{SettledBindingsAreSettled}
use Rattle.kr_start.specs.Ready.{IsOfListing, IsPrepared}

-- in a tree that was read nothing is held
has-no-holds : (t : Tree) → ((i : ℕ) (x : Inode) → inode t i ≡ Some x → x.holds ≡ 0) → HasNoHolds t
has-no-holds t unheld i = by (inode t i) refl
  where
    by : (o : Option Inode) → inode t i ≡ o → option_map_or (λ (x : Inode). x.holds) o 0 ≡ 0
    by None e = refl
    by (Some x) e = unheld i x e

-- and numbers are left for settling
pub has-numbers : (t : Tree) (user : User) → IsOfListing t user → IsKept t → HasNumbers t
has-numbers t user of kept = (read-last of.elf of.bytes t user of.listing of.drawn kept.sound).1

pub settled-prepared : (t u : Tree) (user : User) (root : List ℕ) (binds : List Bind) (table : List Row) → IsOfListing t user → IsKept t → HasItsInodes t → AreNumbered binds
    → IsGrown user t u → (settling t user root binds).tree ≡ u → (settling t user root binds).answer ≡ Ok table → SettledBindingsAreSettled → IsPrepared u user table
settled-prepared t u user root binds table of kept inodes numbered grown left answer law =
    let begun = read-last of.elf of.bytes t user of.listing of.drawn kept.sound in
    let settled : IsSettledIn u user table = subst (λ (v : Tree). IsSettledIn v user table) left (settled_mounts_stand t user root binds table kept.sound kept.counted inodes numbered answer) in
    let before = grown_trees_have_all_before user t u kept.sound kept.counted grown in
    record {
      stands = settled.stands;
      free = before.no_holds (has-no-holds t of.drawn.unheld);
      lasts = grown-last user t u kept.sound kept.counted begun.1 grown begun.0;
      named = settled-are-named u table settled.as_settled;
      settled = subst (λ (v : Tree). IsSettled (record { table = table; tree = v; user = user; finds = no_finds })) left (law t user root binds table no_finds kept.sound kept.counted numbered answer);
    }

-- a table has a row for each text of its mounts
pub few-rows : (mounts : List Mount) (bounds : List Bound) → bounds ≡ map (λ (m : Mount). m.text) mounts → length bounds ≤ 4294967295 → length (table_of mounts) < 2 ^ 32
few-rows mounts bounds are short =
    let rows : length (table_of mounts) ≡ length mounts = length-map mounts row_of_mount in
    let texts : length bounds ≡ length (map (λ (m : Mount). m.text) mounts) = ap length are in
    let each : length (map (λ (m : Mount). m.text) mounts) ≡ length mounts = length-map mounts (λ (m : Mount). m.text) in
    omega arith

-- a tracer's rows are the texts of the mounts' rows
pub rows-texts : (mounts : List Mount) → rows_of (map (λ (m : Mount). m.text) mounts) ≡ texts_of (table_of mounts)
rows-texts [] = refl
rows-texts (m ∷ mounts) = ap (λ rows. row_of m.text ∷ rows) (rows-texts mounts)
