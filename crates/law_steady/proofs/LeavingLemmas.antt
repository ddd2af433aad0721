-- Changes that can't alter the shape of the tree leave it, one behind the other, and no change gives another user.
use Rattle.std.proofs.Common.{◌≡◌, ℕ, zero, suc, Bool, true, false, not, cond, List, [], ◌∷◌, Option, Some, None, refl, ap, ◌∙◌}
use Rattle.std.specs.Option.{option_map_or}
use Rattle.law_lawful.specs.kr_tree.Changes as tree
use Rattle.law_lawful.specs.kr_tree.Tree.{Body, Directory, RegularFile, SymbolicLink, ProcessDirectory, body_without_bytes}
use Rattle.law_lawful.specs.kr_files.Descriptors.{Named}
use Rattle.law_lawful.specs.kr_model.Applied.{Computing, Mounts, all_applied, applied, close, close_below, close_named, close_on_exec_below, copy_over, end, executed, forked_from, gone, images, is_closed_on_exec, mount_of, moved_to, open_in}
use Rattle.law_lawful.specs.kr_model.Change.{Change, OpenFile, CopyDescriptor, CloseDescriptor, Seek, SetAppend, ChangeDirectory, Fork, End, ReplaceExecutable, CloseOnExec}
use Rattle.law_lawful.specs.kr_model.Judged.{alters_shape, leaves_shape, without_bytes}
use Rattle.law_lawful.specs.kr_model.State.{Image, State, named, process}
use Rattle.law_lawful.proofs.kr_model.ShapeLemmas.{Blind, reached_still, stays}
use Rattle.law_lawful.proofs.kr_model.StayLemmas.{StayIn, stay, stay_on}
use Rattle.law_steady.specs.Along.{ShapeStaysAlong}
use Rattle.law_steady.proofs.AlongLemmas.{both_true, not_true}
use Rattle.law_steady.proofs.ExactLemmas.{tells_shape}

-- ---- the user

module _ {M X : Type 0} where
  abbrev KeepsUser : State M X → State M X → Type 0
  KeepsUser s t = t.user ≡ s.user

  if_some : {A : Type 0} (s : State M X) (o : Option A) (f : A → State M X) → ((x : A) → KeepsUser s (f x)) → KeepsUser s (option_map_or f o s)
  if_some s None f each = refl
  if_some s (Some x) f each = each x

  user_closed : (pid fd : ℕ) (s : State M X) → KeepsUser s (close pid fd s)
  unfolding close
  user_closed pid fd s = if_some s (named pid fd s) (λ x. close_named pid fd x s) (λ x. refl)

  user_below : (pid count : ℕ) (s : State M X) → KeepsUser s (close_below pid count s)
  unfolding close_below
  user_below pid zero s = refl
  user_below pid (suc fd) s = user_closed pid fd (close_below pid fd s) ∙ user_below pid fd s

  user_on_exec : (pid count : ℕ) (s : State M X) → KeepsUser s (close_on_exec_below pid count s)
  unfolding close_on_exec_below
  user_on_exec pid zero s = refl
  user_on_exec pid (suc fd) s =
      let before : State M X = close_on_exec_below pid fd s in
      by before (is_closed_on_exec pid fd before) ∙ user_on_exec pid fd s
    where
      by : (before : State M X) (b : Bool) → KeepsUser before (cond b (close pid fd before) before)
      by before true = user_closed pid fd before
      by before false = refl

  user_ended : (pid status : ℕ) (s : State M X) → KeepsUser s (end pid status s)
  user_ended pid status s =
      let closed : State M X = close_below pid 1024 s in
      if_some closed (process pid closed) (λ p. gone pid status p closed) (λ p. refl) ∙ user_below pid 1024 s

  user_copied : (pid to : ℕ) (cloexec : Bool) (x : Named) (o : Option Named) (s : State M X) → KeepsUser s (copy_over pid to cloexec x o s)
  user_copied pid to cloexec x None s = refl
  user_copied pid to cloexec x (Some y) s = refl

  user_stays : (computing : Computing X) (mounts : Mounts M) (pid : ℕ) (s : State M X) (c : Change) → KeepsUser s (applied computing mounts pid c s)
  user_stays computing mounts pid s (OpenFile fd cloexec from o) = if_some s (mount_of mounts pid s from) (λ m. open_in pid fd cloexec o m s) (λ m. refl)
  user_stays computing mounts pid s (CopyDescriptor fd to cloexec) =
      if_some s (named pid fd s) (λ x. copy_over pid to cloexec x (named pid to s) s) (λ x. user_copied pid to cloexec x (named pid to s) s)
  user_stays computing mounts pid s (CloseDescriptor fd) = user_closed pid fd s
  user_stays computing mounts pid s (Seek fd at) = if_some s (named pid fd s) _ (λ x. refl)
  user_stays computing mounts pid s (SetAppend fd on) = if_some s (named pid fd s) _ (λ x. refl)
  user_stays computing mounts pid s (ChangeDirectory from host) = if_some s (mount_of mounts pid s from) (λ m. moved_to pid host m s) (λ m. refl)
  user_stays computing mounts pid s (Fork b) = if_some s (process pid s) (λ p. forked_from computing b p s) (λ p. refl)
  user_stays computing mounts pid s (End status) = user_ended pid status s
  user_stays computing mounts pid s (ReplaceExecutable from host dir name) = if_some s (mount_of mounts pid s from) (λ m. executed pid host dir name m s) (λ m. refl)
  user_stays computing mounts pid s CloseOnExec = user_on_exec pid 1024 s
  user_stays computing mounts pid s c = refl

-- ---- the shape, which tells nothing of bytes

blind_body : (g : List ℕ → List ℕ) (b : Body) → body_without_bytes (tree.with_bytes g b) ≡ body_without_bytes b
blind_body g (Directory entries standing) = refl
blind_body g (RegularFile bytes) = refl
blind_body g (SymbolicLink text) = refl
blind_body g (ProcessDirectory standing) = refl

blind_shape : Blind without_bytes
blind_shape g n = ap (λ (b : Body). record { mode = n.mode; uid = n.uid; gid = n.gid; body = b }) (blind_body g n.body)

module _ {M : Type 0} (mounts : Mounts M) (pid : ℕ) where
  users_stay : (cs : List Change) (s : State M Image) → (all_applied images mounts pid cs s).user ≡ s.user
  users_stay [] s = refl
  users_stay (c ∷ cs) s = users_stay cs (applied images mounts pid c s) ∙ user_stays images mounts pid s c

  all_stay : (cs : List Change) (s : State M Image) → leaves_shape cs ≡ true → StayIn without_bytes s (all_applied images mounts pid cs s)
  all_stay [] s none = stay without_bytes s.tree.inodes
  all_stay (c ∷ cs) s none =
      let parts = both_true (not (alters_shape c)) (leaves_shape cs) none in
      let next = applied images mounts pid c s in
      stay_on without_bytes (stays without_bytes images mounts pid s c (not_true (alters_shape c) parts.0) (λ is. blind_shape)) (all_stay cs next parts.1)

pub shape_stays_along : (M : Type 0) → ShapeStaysAlong M
shape_stays_along M mounts pid s cs kept none = record {
  sound = kept.sound;
  shape = reached_still without_bytes tells_shape s.tree (all_applied images mounts pid cs s).tree kept (all_stay mounts pid cs s none);
  user = users_stay mounts pid cs s;
}
