-- What the end of a process leaves of a state.
use Rattle.std.proofs.Common.{◌≡◌, ℕ, None, Some, refl, sym, ap, subst, arith, ◌∙◌}
use Rattle.std.specs.Prelude.{Result, Ok, Err, OnOk, IsSome, List, [], ◌∷◌}
use Rattle.std.specs.Option.{option_map}
use Rattle.kr_perform.specs.kr_view.View.{Row}
use Rattle.kr_perform.specs.law_allowed.kr_tree.Tree.{Body, Directory, Inode, ProcessDirectory, RegularFile, SymbolicLink, inode}
use Rattle.kr_perform.specs.kr_model.Applied.{Mounts, end}
use Rattle.kr_perform.specs.kr_model.Change.{End}
use Rattle.kr_perform.specs.kr_model.State as model
use Rattle.kr_perform.specs.kr_model.State.{Image, process}
use Rattle.kr_perform.proofs.law_lawful.ChangeLemmas.{all-changes-keep}
use Rattle.kr_perform.specs.law_lawful.Laws.{CanAllBeMade}
use Rattle.kr_perform.specs.law_allowed.Drawing.{HasDrawn}
use Rattle.kr_perform.specs.law_allowed.Lasting.{AreModest, HasText, Lasts}
use Rattle.kr_perform.proofs.law_allowed.ChangeLemmas.{modest-last}
use Rattle.kr_perform.proofs.law_allowed.StateLemmas.{StateLasts, end-lasts}
use Rattle.kr_perform.specs.kr_ops.Making.{Makes}
use Rattle.kr_perform.specs.kr_ops.Meaning.{meaning}
use Rattle.kr_perform.specs.kr_ops.Sound.{IsServed}
use Rattle.kr_perform.specs.kr_ops.declared.state.State.{State}
use Rattle.kr_perform.specs.Lawful.{LastsLawful}
use Rattle.kr_perform.specs.Calling.{Runs}

-- what lasts, by how many numbers were drawn
drawn-so-far : {T : Type 0} (calls : ℕ) (s : model.State T Image) → Lasts calls s → StateLasts s.user (record { names = calls; files = calls; pids = calls }) s
drawn-so-far calls s lasts = record {
  user = refl;
  tree = record {
    next = lasts.drawn.inodes;
    inodes = λ i x at. record { text = text-of i x at x.node.body refl; owners = lasts.owners i x at; serials = lasts.drawn.serials i x at };
  };
  files = record { files = lasts.drawn.files; pipes = lasts.drawn.pipes };
  pids = lasts.drawn.pids;
}
  where
    text-of : (i : ℕ) (x : Inode) → inode s.tree i ≡ Some x → (b : Body) → x.node.body ≡ b → HasText b
    text-of i x at (Directory entries standing) is = tt
    text-of i x at (RegularFile bytes) is = tt
    text-of i x at (SymbolicLink text) is = lasts.texts i text (ap (option_map (λ (x : Inode). x.node.body)) at ∙ ap Some is)
    text-of i x at (ProcessDirectory standing) is = tt

-- the end of a process draws none
ended-drawn : {T : Type 0} (calls pid status : ℕ) (s : model.State T Image) → Lasts calls s → HasDrawn calls (end pid status s)
ended-drawn calls pid status s lasts =
    let left = end-lasts s.user (record { names = calls; files = calls; pids = calls }) pid status s (drawn-so-far calls s lasts) in
    record {
      inodes = left.tree.next;
      serials = λ i x at. (left.tree.inodes i x at).serials;
      files = left.files.files;
      pipes = left.files.pipes;
      pids = left.pids;
    }

pub ended-runs : {T : Type 0} {M : ℕ} (number : T → ℕ) (table : List Row) (pid status calls : ℕ) (old new : State T M) → IsSome (process pid (meaning old)) → Makes pid (End status) old new → IsServed new
    → Runs number table calls old → Runs number table calls new
ended-runs {T} number table pid status calls old new lives makes served runs =
    let nowhere : Mounts T = record { found = None; directory = None } in
    let can : CanAllBeMade number table nowhere pid (meaning old) (End status ∷ []) = (lives, lives, tt) in
    let modest : AreModest (meaning old).user (End status ∷ []) = record { users = (tt, tt); drawn = record { names = omega arith; files = omega arith; pids = omega arith } } in
    let lawful = all-changes-keep T number table nowhere pid (End status ∷ []) (meaning old) runs.lasts.lawful can in
    let more = modest-last T number table nowhere pid calls (End status ∷ []) (meaning old) runs.lasts.lawful can modest runs.lasts.lasts in
    let lasts : Lasts calls (end pid status (meaning old)) = record { texts = more.texts; owners = more.owners; user = more.user; drawn = ended-drawn calls pid status (meaning old) runs.lasts.lasts } in
    record { lasts = subst (LastsLawful number table calls) (sym (makes nowhere)) (record { lawful = lawful; lasts = lasts }); served = served }

pub on-ok : {R E A B C : Type 0} (result : Result R E) → (A → B → C) → OnOk result A → OnOk result B → OnOk result C
on-ok (Ok value) f a b = f a b
on-ok (Err e) f a b = tt
