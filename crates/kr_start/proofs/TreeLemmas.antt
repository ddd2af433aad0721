-- Trees that can last, node by node.
use Rattle.std.proofs.Common.{◌≡◌, ℕ, ◌+◌, ◌≤◌, ◌<◌, ◌^◌, List, [], refl, sym, subst, ap, ◌∙◌, arith, Option, Some, None}
use Rattle.std.specs.FinMap as map
use Rattle.std.specs.Option.{option_map}
use Rattle.std.specs.Ordering.{nat_cmp}
use Rattle.std.proofs.lemmas.Option.{none-some, same_Some}
use Rattle.elf_load.proofs.pr_base.MapLemmas.{by_key, get-insert_same, get-insert_other}
use Rattle.kr_text.specs.kr_inode.declared.user.User.{User}
use Rattle.kr_text.specs.kr_tree.Changes.{new_tree, fresh}
use Rattle.kr_text.specs.kr_tree.Tree.{Tree, Inode, Body, Directory, RegularFile, SymbolicLink, ProcessDirectory, inode, root}
use Rattle.law_allowed.specs.Lasting.{HasText}
use Rattle.law_allowed.specs.Texts.{IsText, LinksHaveTexts}
use Rattle.law_allowed.proofs.TreeLemmas.{InodeLasts, TreeLasts}
use Rattle.kr_start.specs.Beginning.{CanLast}

-- what lasts of a tree, whatever was drawn
abbrev pub IsFit : Tree → Type 0
IsFit t = (names : ℕ) × TreeLasts names t

pub fit-new : (mode uid gid : ℕ) → (uid < 2 ^ 32) × (gid < 2 ^ 32) → IsFit (new_tree mode uid gid)
fit-new mode uid gid small = (0, record { next = omega arith; inodes = inodes })
  where
    first : Inode
    first = fresh mode uid gid (Directory [] (Some (record { inode = root; serial = 0 })))

    lasts : InodeLasts 0 first
    lasts = record { text = tt; owners = small; serials = omega arith }

    inodes : (q : ℕ) (z : Inode) → map.get (map.insert (map.empty {X = Inode} {R = nat_cmp}) root first) q ≡ Some z → InodeLasts 0 z
    inodes = by_key (λ q. (z : Inode) → map.get (map.insert (map.empty {X = Inode} {R = nat_cmp}) root first) q ≡ Some z → InodeLasts 0 z) root
        (λ z at. subst (InodeLasts 0) (same_Some first z (sym (get-insert_same map.empty root first) ∙ at)) lasts)
        (λ q other z at. absurd (none-some z (sym (map.get-empty nat_cmp q) ∙ sym (get-insert_other map.empty root first q other) ∙ at)))

-- ---- between bodies and links

has-text : (t : Tree) → LinksHaveTexts t → (i : ℕ) (x : Inode) → inode t i ≡ Some x → (b : Body) → x.node.body ≡ b → HasText b
has-text t texts i x at (Directory entries standing) is = tt
has-text t texts i x at (RegularFile bytes) is = tt
has-text t texts i x at (SymbolicLink text) is = texts i text (ap (option_map (λ (x : Inode). x.node.body)) at ∙ ap Some is)
has-text t texts i x at (ProcessDirectory standing) is = tt

text-of : (text : List ℕ) (o : Option Inode) → ((x : Inode) → o ≡ Some x → HasText x.node.body) → option_map (λ (x : Inode). x.node.body) o ≡ Some (SymbolicLink text) → IsText text
text-of text None has at = absurd (none-some (SymbolicLink text) at)
text-of text (Some x) has at = subst HasText (same_Some x.node.body (SymbolicLink text) at) (has x refl)

pub lasts-of : (t : Tree) (user : User) → CanLast t user → TreeLasts 0 t
lasts-of t user can = record {
  next = let few = can.inodes in omega arith;
  inodes = λ i x at. record { text = has-text t can.texts i x at x.node.body refl; owners = can.owners i x at; serials = let few = can.serials i x at in omega arith };
}

-- a fit tree can last, where few numbers were drawn
pub can-last : (t : Tree) (user : User) → IsFit t → (user.uid < 2 ^ 32) × (user.gid < 2 ^ 32) → t.next < 2 ^ 31
    → ((i : ℕ) (x : Inode) → inode t i ≡ Some x → x.next_serial + 2 ^ 31 ≤ 2 ^ 63) → CanLast t user
can-last t user fit small inodes serials = record {
  texts = λ i text at. text-of text (inode t i) (λ x is. (fit.1.inodes i x is).text) at;
  owners = λ i x at. (fit.1.inodes i x at).owners;
  user = small;
  inodes = inodes;
  serials = serials;
}
