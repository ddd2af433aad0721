-- What lasts of steady host walks, which look up no name in the process directory, where the shape of the tree and the user stay.
use Rattle.std.specs.Prelude.{◌≡◌, ◌≢◌, ℕ, true, List, Ok}
use Rattle.pt_canon.specs.pr_base.declared.path.WalkMode.{WalkMode}
use Rattle.pt_canon.specs.pr_base.declared.peeks.PeekKind.TheVariants as peek
use Rattle.law_lawful.specs.kr_tree.Lawful.{IsSound}
use Rattle.law_lawful.specs.kr_model.Judged.{HasShape, IsReachedStill}
use Rattle.law_lawful.specs.kr_model.Peeks.{host_walk, is_steady_in, is_steady_path, peeked_of}
use Rattle.law_lawful.specs.kr_model.State.{State}

-- two states of one shape and one user, of which the first is sound. Nothing is said of processes, of what is open, nor of bytes
-- of files
pub record HaveOneShape {M N X Y : Type 0} (s : State M X) (t : State N Y) : Type 0 where
  pub sound : IsSound s.tree
  pub shape : HasShape s.tree t.tree
  pub user : t.user ≡ s.user

-- ---- laws

-- a steady walk is the same in both, whoever asks, and steady there too
pub record WalkLasts {M N X Y : Type 0} (s : State M X) (t : State N Y) (caller asker : ℕ) (mode : WalkMode) (path : List ℕ) : Type 0 where
  pub walk : host_walk t asker mode path ≡ host_walk s caller mode path
  pub steady : is_steady_in t asker mode path ≡ true

abbrev pub SteadyWalksLast : Type 0 → Type 0 → Type 0 → Type 0 → Type 0
SteadyWalksLast M N X Y =
    (s : State M X) (t : State N Y) (caller asker : ℕ) (mode : WalkMode) (path : List ℕ) → HaveOneShape s t → is_steady_in s caller mode path ≡ true → WalkLasts s t caller asker mode path

-- and a tracer is told the same of what stands there, which is no link of the process directory. The first bytes are the same
-- where the bytes of files are
pub record PeeksLast {M N X Y : Type 0} (s : State M X) (t : State N Y) (caller asker : ℕ) (path : List ℕ) : Type 0 where
  pub kind : (peeked_of t asker).kind path ≡ (peeked_of s caller).kind path
  pub no_jump : (peeked_of s caller).kind path ≢ Ok peek.Jump
  pub link_text : (peeked_of t asker).link_text path ≡ (peeked_of s caller).link_text path
  pub head : IsReachedStill (λ n. n) s.tree t.tree → (n : ℕ) → (peeked_of t asker).head path n ≡ (peeked_of s caller).head path n

abbrev pub SteadyPeeksLast : Type 0 → Type 0 → Type 0 → Type 0 → Type 0
SteadyPeeksLast M N X Y =
    (s : State M X) (t : State N Y) (caller asker : ℕ) (path : List ℕ) → HaveOneShape s t → is_steady_path s caller path ≡ true → PeeksLast s t caller asker path
