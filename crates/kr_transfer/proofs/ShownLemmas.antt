-- What directories show, by what stands there.
use Rattle.std.proofs.Common.{◌≡◌, ℕ, Bool, true, false, cond, List, [], ◌∷◌, Option, Some, None, refl, ap, ◌∙◌}
use Rattle.std.specs.Prelude.{◌==◌, ◌||◌, not, map as map_list, Result, Ok, Err, IfOk, is_some, if◌then◌else◌}
use Rattle.std.specs.List.{find, list_any}
use Rattle.std.specs.Option.{option_map, option_map_or, option_and_then}
use Rattle.std.proofs.lemmas.Option.{same_Some, none-some}
use Rattle.kr_seen.specs.kr_inode.declared.node.Kind.TheVariants.{Proc as ProcKind}
use Rattle.kr_seen.specs.kr_inode.declared.standing.Standing.{Standing}
use Rattle.kr_seen.specs.kr_inode.Stored.{kind_of}
use Rattle.kr_seen.specs.kr_tree.Tree.{Body, Directory, RegularFile, SymbolicLink, ProcessDirectory, Inode, above, body, inode, standing_of}
use Rattle.kr_seen.specs.kr_tree.declared.place.Host.TheVariants.{Node, Proc}
use Rattle.kr_seen.specs.kr_tree.declared.place.ProcAt.TheVariants.{Dir}
use Rattle.kr_seen.specs.kr_procfs.Objects.{inode_number}
use Rattle.kr_seen.specs.kr_model.Asking.{lives}
use Rattle.kr_seen.specs.kr_model.DirectoryRows as model
use Rattle.kr_seen.specs.kr_model.DirectoryRows.{of_process, of_processes, shown_by, with_dots}
use Rattle.kr_seen.specs.kr_model.Known.{Fact, Family, Known, family_of, known}
use Rattle.kr_seen.specs.kr_model.State as state
use Rattle.kr_seen.specs.kr_model.State.{Image, image_layout, is_pid, process}
use Rattle.kr_transfer.specs.Listing.{all_shown}

pub if-ok : {X E : Type 0} (r : Result X E) (P Q : X → Type 0) → ((x : X) → P x → Q x) → IfOk r P → IfOk r Q
if-ok (Ok x) P Q step h = step x h
if-ok (Err e) P Q step h = tt

-- ---- processes

module _ {M : Type 0} (s : state.State M Image) (pid of : ℕ) where
  pub lives-is : is_some (process of s) ≡ lives (known image_layout pid s) of
  lives-is = each s.living
    where
      one : (p : state.Process M Image) (ps : List (state.Process M Image)) (b : Bool) → is_some (find (is_pid of) ps) ≡ list_any (λ (q : Family). q.pid == of) (map_list (family_of image_layout) ps)
          → is_some (cond b (Some p) (find (is_pid of) ps)) ≡ (b || list_any (λ (q : Family). q.pid == of) (map_list (family_of image_layout) ps))
      one p ps true rest = refl
      one p ps false rest = rest

      each : (ps : List (state.Process M Image)) → is_some (find (is_pid of) ps) ≡ list_any (λ (q : Family). q.pid == of) (map_list (family_of image_layout) ps)
      each [] = refl
      each (p ∷ ps) = one p ps (p.pid == of) (each ps)

-- what goes with its process
pub there-or-not : {A : Type 0} (b : Bool) (x : A) → is_some (if not b then None else Some x) ≡ b
there-or-not true x = refl
there-or-not false x = refl

there-is : {A : Type 0} (b : Bool) (x d : A) → is_some (if not b then None else Some x) ≡ true → option_map_or (λ y. y) (if not b then None else Some x) d ≡ x
there-is true x d e = refl
there-is false x d e = absurd (let no : false ≡ true = e in cc)

pub process-shown : (k : Known) (i of : ℕ) → is_some (shown_by k (Proc i (Dir of))) ≡ true → all_shown k (Proc i (Dir of)) ≡ with_dots (inode_number (Dir of)) i (of_process of)
process-shown k i of e = there-is (lives k of) (with_dots (inode_number (Dir of)) i (of_process of)) [] e

-- ---- the process directory itself

module _ {M : Type 0} (s : state.State M Image) (pid i up : ℕ) where
  pub processes-shown : option_map kind_of (body s.tree i) ≡ Some ProcKind → above s.tree i ≡ Some up → all_shown (known image_layout pid s) (Node i) ≡ with_dots i up (of_processes (known image_layout pid s))
  processes-shown kind stands = by (inode s.tree i) refl kind stands
    where
      of_body : (x : Inode) (b : Body) → x.node.body ≡ b → inode s.tree i ≡ Some x → kind_of b ≡ ProcKind → option_map (λ (s : Standing). s.inode) (standing_of b) ≡ Some up
          → all_shown (known image_layout pid s) (Node i) ≡ with_dots i up (of_processes (known image_layout pid s))
      of_body x (ProcessDirectory None) is there kind stands = absurd (none-some up stands)
      of_body x (ProcessDirectory (Some st)) is there kind stands =
          ap (λ (q : Option Inode). option_map_or (λ y. y) (option_map_or (λ n. model.shown_by_body (known image_layout pid s) i n.body) (option_map (λ (f : Fact). f.node) (option_map (λ (x : Inode). record { node = x.node; names = x.names; directories = x.directories }) q)) None) []) there
          ∙ ap (λ b. option_map_or (λ y. y) (model.shown_by_body (known image_layout pid s) i b) []) is
          ∙ ap (λ up. with_dots i up (of_processes (known image_layout pid s))) (same_Some st.inode up stands)
      of_body x (Directory entries standing) is there kind stands = absurd cc
      of_body x (RegularFile bytes) is there kind stands = absurd cc
      of_body x (SymbolicLink text) is there kind stands = absurd cc

      by : (q : Option Inode) → inode s.tree i ≡ q → option_map kind_of (option_map (λ (x : Inode). x.node.body) q) ≡ Some ProcKind → option_map (λ (s : Standing). s.inode) (option_and_then (λ (x : Inode). standing_of x.node.body) q) ≡ Some up
          → all_shown (known image_layout pid s) (Node i) ≡ with_dots i up (of_processes (known image_layout pid s))
      by None there kind stands = absurd (none-some ProcKind kind)
      by (Some x) there kind stands = of_body x x.node.body refl there (same_Some (kind_of x.node.body) ProcKind kind) stands
