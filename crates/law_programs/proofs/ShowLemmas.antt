-- What a plain kernel sees of its state is told by what it shares with the other one.
use Rattle.std.specs.FinMap as map
use Rattle.std.proofs.Common.{◌≡◌, ℕ, ◌&&◌, List, ◌∷◌, refl, sym, ap, ◌∙◌, []}
use Rattle.std.specs.Option.{option_and_then, option_map_or}
use Rattle.std.specs.Prelude.{map as map_list, sum}
use Rattle.kr_first.specs.pr_base.declared.path.WalkMode.TheVariants.{Look}
use Rattle.kr_first.specs.rv_mem.Layout.{Layout}
use Rattle.kr_first.specs.kr_inode.declared.user.User.{User}
use Rattle.kr_first.specs.kr_inode.declared.user.Right.TheVariants.{Search}
use Rattle.kr_first.specs.kr_tree.declared.place.Host.{Host}
use Rattle.kr_first.specs.kr_tree.declared.place.Host.TheVariants.{Node, Proc}
use Rattle.kr_first.specs.kr_tree.Holds.{with_fewer}
use Rattle.kr_first.specs.kr_tree.Tree.{Tree, file_of, is_file}
use Rattle.kr_first.specs.kr_view.Walk.{place_walk}
use Rattle.kr_first.specs.kr_exec.Finding.{is_program}
use Rattle.kr_first.specs.kr_exec.Interpreters.{bytes_at}
use Rattle.law_edits.specs.kr_model.Bare.{bare_process}
use Rattle.law_edits.specs.kr_model.Known.{pages_in_all}
use Rattle.law_edits.specs.kr_model.State.{Image, Process, State, image_layout}
use Rattle.law_edits.specs.law_walks.Alike.{AreEqualButForMounts}
use Rattle.law_edits.specs.law_walks.OneMount.{IsInOneMount}
use Rattle.law_edits.proofs.law_walks.OneMountLemmas.{plain_walks_are_host_walks}
use Rattle.law_edits.proofs.law_walks.BareStateLemmas.{host_walks_are_bare}
use Rattle.law_edits.proofs.law_walks.TreeLemmas.{same_body, same_may, same_test}
use Rattle.law_programs.specs.Executing.{IsShownAlike}
use Rattle.law_programs.specs.Showing.{StatesAreShownAlike}

-- ---- with fewer holds

module _ (less : ℕ → ℕ) (t : Tree) where
  program-light : (user : User) (x : Host) → is_program (with_fewer less t) user x ≡ is_program t user x
  program-light user (Node i) = λ j. same_test less t is_file i j && same_may less t user i Search j
  program-light user (Proc i at) = refl

  bytes-light : (x : Host) → bytes_at (with_fewer less t) x ≡ bytes_at t x
  bytes-light (Node i) = ap (λ o. option_map_or (λ bytes. bytes) (option_and_then file_of o) []) (same_body less t i)
  bytes-light (Proc i at) = refl

-- ---- without memories

pages-light : (ps : List (Process ℕ Image)) → map_list (λ p. map.len p.image) (map_list (bare_process image_layout) ps) ≡ map_list (λ p. map.len (image_layout p.image)) ps
pages-light [] = refl
pages-light (p ∷ ps) = ap (λ rest. map.len (image_layout p.image) ∷ rest) (pages-light ps)

-- states that are equal but for mounts have as many pages
pub same-pages : (pins less : ℕ → ℕ) (s w : State ℕ Image) → AreEqualButForMounts pins less s w → pages_in_all image_layout w.living ≡ pages_in_all image_layout s.living
same-pages pins less s w e = ap sum (sym (pages-light w.living)) ∙ ap (λ (b : State (Unit {0}) Layout). sum (map_list (λ p. map.len p.image) b.living)) (sym e) ∙ ap sum (pages-light s.living)

module _ (pins less : ℕ → ℕ) (s w : State ℕ Image) (caller : ℕ) (e : AreEqualButForMounts pins less s w) (one : IsInOneMount w) where
  shown : IsShownAlike s w caller
  shown = record {
    walks = λ base path.
        ap (λ around. (place_walk around Look base path).answer) (plain_walks_are_host_walks Image w caller one)
        ∙ sym (ap (λ trail. trail.answer) (host_walks_are_bare ℕ ℕ pins less s w caller Look base path e));
    programs = λ x. sym (program-light less w.tree w.user x) ∙ ap (λ (b : State (Unit {0}) Layout). is_program b.tree b.user x) (sym e) ∙ program-light pins s.tree s.user x;
    files = λ x. sym (bytes-light less w.tree x) ∙ ap (λ (b : State (Unit {0}) Layout). bytes_at b.tree x) (sym e) ∙ bytes-light pins s.tree x;
    user = sym (ap (λ (b : State (Unit {0}) Layout). b.user) e);
    pages = same-pages pins less s w e;
  }

pub states_are_shown_alike : StatesAreShownAlike
states_are_shown_alike pins less s w caller e one = shown pins less s w caller e one
