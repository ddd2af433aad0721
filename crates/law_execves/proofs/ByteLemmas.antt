-- Host texts that are reached are made of bytes.
use Rattle.std.proofs.Common.{◌≡◌, ℕ, Bool, true, false, cond, List, [], ◌∷◌, Option, Some, None, refl, sym, subst}
use Rattle.std.specs.List.{AllByRecursion}
use Rattle.std.specs.Prelude.{bytes_eq}
use Rattle.std.proofs.lemmas.Slice.Eq.{bytes_eq-Decides}
use Rattle.law_programs.specs.pr_base.Texts.{Text}
use Rattle.law_stops.specs.kr_inode.declared.user.User.{User}
use Rattle.law_stops.specs.kr_inode.Inode.{Entry, entry_named}
use Rattle.law_programs.specs.kr_tree.Lawful.{AreBytes, HasBytes}
use Rattle.law_programs.specs.kr_tree.Tree.{Tree, entries}
use Rattle.law_programs.specs.kr_tree.declared.place.Host.{Host}
use Rattle.law_programs.specs.kr_tree.declared.place.Host.TheVariants.{Node, Proc}
use Rattle.law_programs.specs.kr_tree.declared.place.ProcAt.{ProcAt}
use Rattle.law_programs.proofs.kr_tree.NameLemmas.{map_some}
use Rattle.law_stops.specs.kr_view.HostReach.{object_in, reaches}
use Rattle.law_stops.specs.kr_view.Component.{Finds}
use Rattle.law_stops.specs.kr_view.Processes.{LawsOfProcesses}
use Rattle.law_stops.specs.kr_view.declared.procs.Lead.{Lead}
use Rattle.law_stops.proofs.kr_view.HostReachLemmas.{IsFoundIn, at_top, below_top, entry_in, found_in, last_object}
use Rattle.law_stops.specs.law_kept.Bytes.{AreAllBytes}
use Rattle.law_stops.proofs.law_kept.NameLemmas.{entries-bytes, process-names-bytes}

-- the name under which an entry is found is that of the entry
named-bytes : (name : List ℕ) (es : List Entry) (e : Entry) → AllByRecursion (λ e. AreBytes e.name) es → entry_named name es ≡ Some e → AreBytes name
named-bytes name [] e are is = absurd cc
named-bytes name (x ∷ es) e are is = by (bytes_eq name x.name) refl (named-bytes name es e are.1) is
  where
    by : (b : Bool) → bytes_eq name x.name ≡ b → (entry_named name es ≡ Some e → AreBytes name) → cond b (Some x) (entry_named name es) ≡ Some e → AreBytes name
    by true same later is = subst AreBytes (sym ((bytes_eq-Decides name x.name).0 same)) are.0
    by false other later is = later is

module _ (t : Tree) (user : User) (finds : Finds) (leads : ProcAt → Lead ℕ) (has : HasBytes t) (laws : LawsOfProcesses finds leads) where
  found-bytes : (at : Option ProcAt) (name : List ℕ) (found : ProcAt) → finds at name ≡ Some found → AreBytes name
  found-bytes at name found is = (subst AreAllBytes (laws.named at name found is) (process-names-bytes found)).0

  object-bytes : (name : List ℕ) (dir x : Host) → object_in t finds name dir ≡ Some x → AreBytes name
  object-bytes name dir (Node i) e =
      let n = entry_in t finds name dir i e in
      let own = map_some (λ (e : Entry). e.inode) (entry_named name (entries t n.ino)) i n.there in
      named-bytes name (entries t n.ino) own.0 (entries-bytes t has n.ino) own.1
  object-bytes name dir (Proc i at) e = by dir (found_in t finds name dir i at e)
    where
      by : (dir : Host) → IsFoundIn t finds name i at dir → AreBytes name
      by _ (at_top is found) = found-bytes None name at found
      by _ (below_top up found) = found-bytes (Some up) name at found

  pub reached-bytes : (text : Text) (x : Host) → reaches t user finds text ≡ Some x → AreAllBytes text
  reached-bytes [] x e = tt
  reached-bytes (name ∷ text) x e =
      let s = last_object t user finds text name x e in
      (object-bytes name s.dir x s.there, reached-bytes text s.dir s.way)
