-- The host's own view is settled, and over it a place stands at its host text.
use Rattle.std.proofs.Common.{◌≡◌, ℕ, zero, suc, true, false, [], ◌∷◌, Some, None, refl, sym, ap, subst, ◌∙◌}
use Rattle.pt_canon.specs.pr_base.Texts.{Text}
use Rattle.pt_canon.specs.pt_bind.Binding.{host_of, owner}
use Rattle.kr_mounts.specs.kr_tree.declared.place.Host.{Host}
use Rattle.kr_mounts.specs.kr_tree.Lawful.{HasItsInodes, IsSound}
use Rattle.kr_mounts.specs.kr_tree.Names.{reached}
use Rattle.kr_mounts.proofs.kr_tree.NameLemmas.{some_is}
use Rattle.kr_mounts.specs.kr_view.Component.{Namespace}
use Rattle.kr_mounts.specs.kr_view.View.{Point, Row, plain, plain_row, row}
use Rattle.kr_mounts.proofs.kr_view.HostReachLemmas.{last_object}
use Rattle.kr_mounts.proofs.kr_view.TableLemmas.{plain_stands as plain_in_tree}
use Rattle.kr_mounts.specs.Standing.{texts_of}
use Rattle.law_walks.specs.Settled.{IsSettled}
use Rattle.law_walks.specs.Standing.{IsOpen, Stands, place_in, reached_in}

-- all texts are those of the host, and belong to its one mount
pub plain_owner : (t : Text) → owner (texts_of plain) t ≡ 0
plain_owner [] = refl
plain_owner (name ∷ t) = plain_owner t

pub plain_host : (t : Text) → host_of (texts_of plain) t ≡ t
plain_host [] = refl
plain_host (name ∷ t) = ap (λ t. name ∷ t) (plain_host t)

plain_settled_in : (space : Namespace) → IsSound space.tree → HasItsInodes space.tree → IsSettled (record { table = plain; tree = space.tree; user = space.user; finds = space.finds })
plain_settled_in space sound inodes = record {
  sound = sound;
  inodes = inodes;
  mounts = (plain_in_tree space.tree sound).0;
  sources = sources;
  entries = λ k r there file. absurd (no_file k r there file);
  points = λ k r p there stands. absurd (no_point k r p there stands);
}
  where
    sources : (k : ℕ) (r : Row) → row plain k ≡ Some r → reached space.tree space.user r.text.source ≡ Some r.source
    sources zero r there = subst (λ (r : Row). reached space.tree space.user r.text.source ≡ Some r.source) (some_is plain_row r there) refl
    sources (suc k) r there = absurd cc

    no_file : (k : ℕ) (r : Row) → row plain k ≡ Some r → r.is_dir ≡ false → ⊥
    no_file zero r there file = let clash : true ≡ false = ap (λ (r : Row). r.is_dir) (some_is plain_row r there) ∙ file in cc
    no_file (suc k) r there file = absurd cc

    no_point : (k : ℕ) (r : Row) (p : Point) → row plain k ≡ Some r → r.point ≡ Some p → ⊥
    no_point zero r p there stands = let clash : None ≡ Some p = ap (λ (r : Row). r.point) (some_is plain_row r there) ∙ stands in cc
    no_point (suc k) r p there stands = absurd cc

pub plain_settled : (space : Namespace) → IsSound space.tree → HasItsInodes space.tree → space.table ≡ plain → IsSettled space
plain_settled space sound inodes is = subst (λ table. IsSettled (record { table = table; tree = space.tree; user = space.user; finds = space.finds })) (sym is) (plain_settled_in space sound inodes)

-- each directory on the way to what is reached gives search
plain_open : (space : Namespace) → space.table ≡ plain → (h : Text) (x : Host) → reached_in space h ≡ Some x → IsOpen space h
plain_open space is [] x way = tt
plain_open space is (name ∷ h) x way =
    let s = last_object space.tree space.user space.finds h name x way in
    let same : host_of (texts_of space.table) h ≡ h = ap (λ table. host_of (texts_of table) h) is ∙ plain_host h in
    (record { dir = s.dir; way = ap (reached_in space) same ∙ s.way; is_dir = s.is_dir; search = s.search }, plain_open space is h s.dir s.way)

pub plain_stands : (space : Namespace) → space.table ≡ plain → (h : Text) (x : Host) → reached_in space h ≡ Some x → Stands space (place_in 0 x) h
plain_stands space is h x way = record {
  mount = sym (ap (λ table. owner (texts_of table) h) is ∙ plain_owner h);
  way = ap (reached_in space) (ap (λ table. host_of (texts_of table) h) is ∙ plain_host h) ∙ way;
  above = λ _. plain_open space is h x way;
}
