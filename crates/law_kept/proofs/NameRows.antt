-- Calls that make names and move them bring names of bytes.
use Rattle.std.proofs.Common.{ℕ, Bool, false, List, refl, Option, Some, None}
use Rattle.std.specs.Option.{option_map_or}
use Rattle.std.specs.Prelude.{◌&&◌, ◌||◌, not}
use Rattle.kr_first.specs.pr_base.declared.errno.Errno.TheVariants.{EACCES, EBUSY, EEXIST, EINVAL, EISDIR, ENOENT, ENOSPC, ENOTDIR, ENOTEMPTY, EPERM, EXDEV}
use Rattle.kr_first.specs.kr_tree.Lawful.{AreBytes}
use Rattle.kr_first.specs.kr_tree.Tree.{Node}
use Rattle.kr_first.specs.kr_tree.declared.place.Host.{Host}
use Rattle.kr_first.specs.kr_tree.declared.place.Host.TheVariants as host
use Rattle.kr_first.specs.kr_model.Asking.{is_directory_host, is_processes_host}
use Rattle.kr_first.specs.kr_model.Known.{Known, known_node}
use Rattle.kr_first.specs.kr_model.NameRows.{is_above_old, is_at_or_above, is_one, link_host, linkat_row, mkdirat_row, move_entry, move_found, move_free, move_onto, move_over, move_taken, move_uncovered, renameat2_row, symlinkat_row, unless_kept}
use Rattle.kr_first.specs.kr_model.Reply.{Replying}
use Rattle.kr_first.specs.kr_model.Seen.{Entered, Looked, Made, Makes, MakesNoName, MakesOver, Taken, Takes, TakesCovered, TakesNoName}
use Rattle.law_kept.specs.Bringing.{MadeHasBytes, TakenHasBytes}
use Rattle.law_kept.proofs.ActionLemmas.{either_way}
use Rattle.law_kept.proofs.RowLemmas.{Puts, answered, brought, maybe, refused, written-to}

module _ (k : Known) where
  -- ---- new names

  pub mkdirat-puts : (m : Made) (mode : ℕ) → MadeHasBytes m → Puts (mkdirat_row k m mode)
  mkdirat-puts (MakesNoName last) mode are = refused EEXIST
  mkdirat-puts MakesOver mode are = refused EEXIST
  mkdirat-puts (Makes dir name slash) mode are = written-to k dir (λ d n. either_way _ (refused ENOSPC) (brought ((are, tt), tt)))

  pub symlinkat-puts : (m : Made) (text : List ℕ) → MadeHasBytes m → AreBytes text → Puts (symlinkat_row k m text)
  symlinkat-puts (MakesNoName last) text are text_are = refused EEXIST
  symlinkat-puts MakesOver text are text_are = refused EEXIST
  symlinkat-puts (Makes dir name slash) text are text_are = either_way slash (refused ENOENT) (written-to k dir (λ d n. either_way _ (refused ENOSPC) (brought ((are, text_are), tt))))

  host-linked : (old dir : Host) (name : List ℕ) → AreBytes name → Puts (link_host k old dir name)
  host-linked (host.Node i) dir name are = either_way _ (refused EPERM) (written-to k dir (λ d n. either_way _ (refused ENOSPC) (brought (are, tt))))
  host-linked (host.Proc i at) dir name are = refused EPERM

  pub linkat-puts : (old : Looked) (m : Made) (same_mount : Bool) → MadeHasBytes m → Puts (linkat_row k old m same_mount)
  linkat-puts old (MakesNoName last) same_mount are = refused EEXIST
  linkat-puts old MakesOver same_mount are = refused EEXIST
  linkat-puts old (Makes dir name slash) same_mount are = either_way slash (refused ENOENT) (either_way _ (refused EXDEV) (host-linked old.host dir name are))

  -- ---- names that move

  kept : (d n : Node) {next : Replying} → Puts next → Puts (unless_kept k d n next)
  kept d n puts = either_way _ (refused EPERM) puts

  module _ (old new : Entered) (are : AreBytes new.name) where
    free-moved : (d to : ℕ) (n : Node) → Puts (move_free k old new d to n)
    free-moved d to n = either_way _ (brought (are, tt)) (refused EACCES)

    over-moved : (d to : ℕ) (n x : Node) → Puts (move_over k old new d to n x)
    over-moved d to n x = either_way _ (refused EACCES) (either_way _ (refused ENOTDIR) (either_way _ (refused EISDIR) (either_way _ (refused ENOTEMPTY) (brought (are, tt)))))

    onto-moved : (d to : ℕ) (dn tn n : Node) (o : Option Host) → Puts (move_onto k old new d to dn tn n o)
    onto-moved d to dn tn n None = kept dn n (free-moved d to n)
    onto-moved d to dn tn n (Some (host.Node j)) = kept dn n (maybe (known_node k j) (λ x is. kept tn x (over-moved d to n x)) (refused ENOENT))
    onto-moved d to dn tn n (Some (host.Proc j at)) = refused EACCES

    entry-moved : (found : Host) → Puts (move_entry k old new found)
    entry-moved (host.Node i) = written-to k old.dir (λ d dn. written-to k new.dir (λ to tn. maybe (known_node k i) (λ n is. onto-moved d to dn tn n new.found) (refused ENOENT)))
    entry-moved (host.Proc i at) = written-to k old.dir (λ d dn. refused EACCES)

    found-moved : (found : Host) → Puts (move_found k old new found)
    found-moved found =
        either_way (is_processes_host k found) (refused EBUSY)
        (either_way (option_map_or (is_processes_host k) new.found false) (refused EBUSY)
        (either_way (not (is_directory_host k found) && (old.slash || new.slash)) (refused ENOTDIR)
        (either_way (is_at_or_above k found new.dir) (refused EINVAL)
        (either_way (is_above_old k old new.found) (refused ENOTEMPTY)
        (either_way (is_one found new.found) (answered refl) (entry-moved found))))))

  uncovered-moved : (old : Entered) (new : Taken) (found : Host) → TakenHasBytes new → Puts (move_uncovered k old new found)
  uncovered-moved old (TakesNoName last) found are = refused EBUSY
  uncovered-moved old TakesCovered found are = refused EBUSY
  uncovered-moved old (Takes new) found are = found-moved old new are found

  taken-moved : (old new : Taken) → TakenHasBytes new → Puts (move_taken k old new)
  taken-moved (TakesNoName last) new are = refused EBUSY
  taken-moved TakesCovered new are = refused EBUSY
  taken-moved (Takes old) new are = maybe old.found (λ found is. uncovered-moved old new found are) (refused ENOENT)

  pub renameat2-puts : (old new : Taken) (same_mount : Bool) → TakenHasBytes new → Puts (renameat2_row k old new same_mount)
  renameat2-puts old new same_mount are = either_way _ (refused EXDEV) (either_way _ (refused EBUSY) (taken-moved old new are))
