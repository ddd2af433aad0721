-- What a tree and a user have where a run over them begins with what lasts.
use Rattle.std.specs.Prelude.{◌≡◌, ℕ, ◌+◌, ◌≤◌, ◌<◌, ◌^◌, Some}
use Rattle.kr_text.specs.kr_inode.declared.user.User.{User}
use Rattle.kr_text.specs.kr_tree.Tree.{Tree, Inode, inode}
use Rattle.law_allowed.specs.Lasting.{HaveOwners}
use Rattle.law_allowed.specs.Texts.{LinksHaveTexts}

pub record CanLast (t : Tree) (of : User) : Type 0 where
  pub texts : LinksHaveTexts t
  pub owners : HaveOwners t
  pub user : (of.uid < 2 ^ 32) × (of.gid < 2 ^ 32)
  -- fewer than 2^31 inode numbers were drawn, and 2^63 - 2^31 serials of each directory at most
  pub inodes : t.next < 2 ^ 31
  pub serials : (i : ℕ) (x : Inode) → inode t i ≡ Some x → x.next_serial + 2 ^ 31 ≤ 2 ^ 63
