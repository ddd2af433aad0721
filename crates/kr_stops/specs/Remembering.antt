-- What a watcher may remember of the tree from stop to stop, and for which calls it has to forget it.
use Rattle.std.specs.Prelude.{◌≡◌, ◌≢◌, ℕ, ◌==◌, ◌&&◌, ◌||◌, Bool, true, List, [], ◌∷◌}
use Rattle.std.specs.List.{list_any}
use Rattle.law_lawful.specs.rv_mem.declared.regs.Regs.{Regs}
use Rattle.law_lawful.specs.kr_inode.declared.user.User.{User}
use Rattle.law_lawful.specs.kr_calls.Arguments.{number, word}
use Rattle.law_lawful.specs.kr_tree.Lawful.{IsSound}
use Rattle.law_lawful.specs.kr_tree.Tree.{Tree}
use Rattle.law_lawful.specs.kr_model.FileRows.{creates}
use Rattle.law_lawful.specs.kr_model.Judged.{HasShape}
use Rattle.kr_stops.specs.Stopped.{Stopped, image_at}

-- ---- calls that can alter the shape of the tree

-- mkdirat, unlinkat, symlinkat, linkat; fchmod, fchmodat, fchownat, fchown; renameat2
abbrev pub shape_calls : List ℕ
shape_calls = 34 ∷ 35 ∷ 36 ∷ 37 ∷ 52 ∷ 53 ∷ 54 ∷ 55 ∷ 276 ∷ []

abbrev pub is_shape_call : ℕ → Bool
is_shape_call n = list_any (λ m. n == m) shape_calls

-- whether registers hold one of these, or openat(2) with O_CREAT: by the number and the flags alone, so also where it can't be decoded
abbrev pub can_alter_shape : Regs → Bool
can_alter_shape regs = is_shape_call (number regs) || (number regs == 56 && creates (word regs 2))

-- ---- agreement with a tree, as a user walks it

module _ {S : Type 0} (agrees : S → Tree → User → Type 0) where
  -- with that of the kernel in which a process is stopped
  abbrev pub AgreesAt : S → Stopped → Type 0
  AgreesAt x t = agrees x t.state.tree t.state.user

  -- what agreed with a tree does so still
  abbrev pub StillAgrees : S → S → Type 0
  StillAgrees x y = (t : Tree) (user : User) → agrees x t user → agrees y t user

  -- it lasts where the tree keeps its shape
  abbrev pub LastsWithShape : Type 0
  LastsWithShape = (x : S) (t u : Tree) (user : User) → IsSound t → HasShape t u → agrees x t user → agrees x u user

-- ---- being free for a process, whatever becomes of the tree

module _ {S : Type 0} (is_free : S → ℕ → Type 0) where
  -- for the caller of a call that can alter the shape of the tree
  pub record FreesCaller (t : Stopped) (x : S) : Type 0 where
    pub frees : can_alter_shape (image_at t).regs ≡ true → is_free x t.pid

  -- for all but one it stays so
  pub record KeepsOthersFree (pid : ℕ) (x y : S) : Type 0 where
    pub keeps : (other : ℕ) → other ≢ pid → is_free x other → is_free y other

  -- for all it does
  abbrev pub KeepsAllFree : S → S → Type 0
  KeepsAllFree x y = (pid : ℕ) → is_free x pid → is_free y pid

-- what is free for some process agrees with every tree
abbrev pub FreeAgrees : {S : Type 0} → (agrees : S → Tree → User → Type 0) → (is_free : S → ℕ → Type 0) → Type 0
FreeAgrees {S} agrees is_free = (x : S) (pid : ℕ) → is_free x pid → (t : Tree) (user : User) → agrees x t user
