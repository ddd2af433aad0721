-- What a line adds to a tree that can last, and to what was read so far.
use Rattle.std.proofs.Common.{ℕ, suc, Bool, List, [], ◌∷◌, length, arith, Option, Some, None, Ok}
use Rattle.std.specs.Prelude.{◌||◌, is_some, IfSome, IfOk}
use Rattle.std.specs.Option.{ok_or}
use Rattle.kr_text.specs.kr_inode.declared.user.User.{User}
use Rattle.kr_text.specs.kr_tree.Changes.{added, linked, new_tree, is_too_big, has_no_room, has_no_name_left}
use Rattle.kr_text.specs.kr_tree.Tree.{Tree, Body, Directory, RegularFile, ProcessDirectory, bytes_of}
use Rattle.kr_text.specs.declared.fault.TreeWhy.TheVariants.{Twice, TwoElf, TooBig, NoParent}
use Rattle.kr_text.specs.Reading.{Place, place_below, tree_of, put, node_put, node_read, root_read, dir_read, user_read, elf_put, elf_read, proc_owner, proc_put, proc_read, file_at, link_put, name_put, name_read, with_tree}
use Rattle.law_allowed.specs.Lasting.{HasText}
use Rattle.law_allowed.proofs.TreeLemmas.{added-lasts, linked-lasts}
use Rattle.kr_start.proofs.FieldLemmas.{step, any-step, or-fault, FirstOf, Owner, IsSmall, IsSmallOwner}
use Rattle.kr_start.proofs.TreeLemmas.{IsFit, fit-new}

-- ---- a tree

put-fits : (owner : Owner) (b : Body) (t : Tree) (p : Place) → IsSmallOwner owner → HasText b → IsFit t → IfOk (put owner b t p) IsFit
put-fits owner b t p small text fit =
    or-fault IsFit TooBig (is_too_big b || has_no_room (length (bytes_of b)) t) (Ok (added p.0 p.1 owner.mode owner.uid owner.gid b t))
    (suc fit.0, added-lasts fit.0 t fit.1 p.0 p.1 owner.mode owner.uid owner.gid b small text)

node_put-fits : (owner : Owner) (text : List (List ℕ)) (b : Body) (t : Tree) → IsSmallOwner owner → HasText b → IsFit t → IfOk (node_put owner text b t) IsFit
node_put-fits owner text b t small has fit = any-step IsFit (place_below t text) (put owner b t) (λ p. put-fits owner b t p small has fit)

elf_put-fits : (owner : Owner) (text : List (List ℕ)) (elf : List ℕ) (has_elf : Bool) (t : Tree) → IsSmallOwner owner → IsFit t → IfOk (elf_put owner text elf has_elf t) IsFit
elf_put-fits owner text elf has_elf t small fit =
    any-step IsFit (place_below t text) _ (λ p. or-fault IsFit TwoElf has_elf (put owner (RegularFile elf) t p) (put-fits owner (RegularFile elf) t p small tt fit))

proc_put-fits : (text : List (List ℕ)) (has_proc : Bool) (t : Tree) → IsFit t → IfOk (proc_put text has_proc t) IsFit
proc_put-fits text has_proc t fit =
    any-step IsFit (place_below t text) _ (λ p.
    or-fault IsFit Twice has_proc (put proc_owner (ProcessDirectory None) t p) (put-fits proc_owner (ProcessDirectory None) t p (omega arith, omega arith) tt fit))

name_put-fits : (text existing : List (List ℕ)) (t : Tree) → IsFit t → IfOk (name_put text existing t) IsFit
name_put-fits text existing t fit =
    any-step IsFit (place_below t text) _ (λ p. any-step IsFit (file_at t existing) (link_put t p) (λ file.
    or-fault IsFit TooBig (has_no_name_left t) (Ok (linked p.0 p.1 file t)) (suc fit.0, linked-lasts fit.0 t fit.1 p.0 p.1 file)))

-- ---- what was read so far

abbrev pub SoFar : Type 0
SoFar = FirstOf tree_of

abbrev pub IsSmallUser : User → Type 0
IsSmallUser user = IsSmall user.uid × IsSmall user.gid

pub record HasFit (s : SoFar) : Type 0 where
  pub tree_fits : IfSome s.tree IsFit
  pub user_fits : IfSome s.user IsSmallUser

tree-read : (s : SoFar) → HasFit s → IfOk (tree_of s) IsFit
tree-read s fits = by s.tree fits.tree_fits
  where
    by : (o : Option Tree) → IfSome o IsFit → IfOk (ok_or o NoParent) IsFit
    by None is = tt
    by (Some t) is = is

module _ (s : SoFar) (fits : HasFit s) where
  pub node-fits : (owner : Owner) (text : List (List ℕ)) (b : Body) → IsSmallOwner owner → HasText b → IfOk (node_read owner text b s) HasFit
  node-fits owner text b small has =
      step HasFit (tree_of s) IsFit _ (tree-read s fits) (λ t is.
      step HasFit (node_put owner text b t) IsFit _ (node_put-fits owner text b t small has is) (λ u is. record { tree_fits = is; user_fits = fits.user_fits }))

  root-fits : (owner : Owner) → IsSmallOwner owner → IfOk (root_read owner s) HasFit
  root-fits owner small =
      or-fault HasFit Twice (is_some s.tree) (Ok (with_tree (new_tree owner.mode owner.uid owner.gid) s))
      (record { tree_fits = fit-new owner.mode owner.uid owner.gid small; user_fits = fits.user_fits })

  pub dir-fits : (owner : Owner) (text : List (List ℕ)) → IsSmallOwner owner → IfOk (dir_read owner text s) HasFit
  dir-fits owner [] small = root-fits owner small
  dir-fits owner (name ∷ text) small = node-fits owner (name ∷ text) (Directory [] None) small tt

  pub user-fits : (user : User) → IsSmallUser user → IfOk (user_read user s) HasFit
  user-fits user small = or-fault HasFit Twice (is_some s.user) _ (record { tree_fits = fits.tree_fits; user_fits = small })

  pub elf-fits : (owner : Owner) (text : List (List ℕ)) (elf : List ℕ) → IsSmallOwner owner → IfOk (elf_read owner text elf s) HasFit
  elf-fits owner text elf small =
      step HasFit (tree_of s) IsFit _ (tree-read s fits) (λ t is.
      step HasFit (elf_put owner text elf s.has_elf t) IsFit _ (elf_put-fits owner text elf s.has_elf t small is) (λ u is. record { tree_fits = is; user_fits = fits.user_fits }))

  pub proc-fits : (text : List (List ℕ)) → IfOk (proc_read text s) HasFit
  proc-fits text =
      step HasFit (tree_of s) IsFit _ (tree-read s fits) (λ t is.
      step HasFit (proc_put text s.has_proc t) IsFit _ (proc_put-fits text s.has_proc t is) (λ u is. record { tree_fits = is; user_fits = fits.user_fits }))

  pub name-fits : (text existing : List (List ℕ)) → IfOk (name_read text existing s) HasFit
  name-fits text existing =
      step HasFit (tree_of s) IsFit _ (tree-read s fits) (λ t is.
      step HasFit (name_put text existing t) IsFit _ (name_put-fits text existing t is) (λ u is. record { tree_fits = is; user_fits = fits.user_fits }))
