-- Changes that break no rule.
use Rattle.std.proofs.Common.{◌≡◌, ◌≢◌, ℕ, Bool, true, false, ◌&&◌, ◌||◌, not, List, [], ◌∷◌, refl, sym, ap, ◌∙◌, subst}
use Rattle.std.proofs.lemmas.Bool.{and_parts}
use Rattle.kr_seen.specs.pr_base.declared.errno.Errno.TheVariants.{ENOSYS}
use Rattle.kr_seen.specs.rv_mem.Actions.{Action, Done, MayUse, ReadBytes, WriteBytes, allows_uses, carried_out}
use Rattle.kr_seen.specs.rv_mem.Memory.{Memory, after_read, with_pages}
use Rattle.kr_seen.specs.rv_mem.Pages.{any_marked, bytes_from, written}
use Rattle.kr_seen.specs.kr_calls.declared.request.Request.{Request}
use Rattle.kr_seen.specs.kr_tree.Tree.{Tree}
use Rattle.kr_seen.specs.kr_tree.declared.place.Host.{Host}
use Rattle.kr_seen.specs.kr_view.View.{Row}
use Rattle.kr_seen.specs.kr_model.Applied.{Computing, Mounts, applied}
use Rattle.kr_seen.specs.kr_model.Change.{Change, RemoveName, MoveName, SetMode, SetOwner, End, MountOf, ReplaceImage, ReplaceExecutable, CloseOnExec}
use Rattle.kr_seen.specs.kr_model.Judged.{are_quiet, is_quiet}
use Rattle.kr_seen.specs.kr_model.Known.{Known}
use Rattle.kr_seen.specs.kr_model.Operation.{IsNoExec, operation}
use Rattle.kr_seen.specs.kr_model.Reply.{is_refusal}
use Rattle.kr_seen.specs.kr_model.Seen.{Seen, WalkFails}
use Rattle.kr_seen.specs.kr_model.State.{Image, State}
use Rattle.kr_seen.proofs.kr_model.LineLemmas.{refusals}
use Rattle.kr_calm.specs.Foreseen.{are_unjudged, is_judged}
use Rattle.kr_calm.specs.InUse.{is_directory_of, is_in_use}
use Rattle.kr_calm.specs.Laws.{BreakNone, EndBreaks}
use Rattle.kr_calm.specs.Rules.{any_change, breaks_3, breaks_4, breaks_5}

pub or-false : (b : Bool) → (b || false) ≡ b
or-false true = refl
or-false false = refl

module _ {M X : Type 0} (computing : Computing X) (mounts : Mounts M) (pid : ℕ) (test : State M X → Change → State M X → Bool) where
  -- a test that no change passes at which no rule looks
  none-judged : ((s : State M X) (c : Change) (after : State M X) → not (is_judged c) ≡ true → test s c after ≡ false) → (cs : List Change) (s : State M X) → are_unjudged cs ≡ true → any_change computing mounts pid test cs s ≡ false
  none-judged fails [] s e = refl
  none-judged fails (c ∷ cs) s e =
      let parts = and_parts (not (is_judged c)) (are_unjudged cs) e in
      ap (λ b. b || any_change computing mounts pid test cs (applied computing mounts pid c s)) (fails s c (applied computing mounts pid c s) parts.0) ∙ none-judged fails cs (applied computing mounts pid c s) parts.1

unjudged-third : (table : List Row) (t : Tree) (c : Change) → not (is_judged c) ≡ true → breaks_3 table t c ≡ false
unjudged-third table t (RemoveName dir name) e = absurd cc
unjudged-third table t (MoveName dir name to new) e = absurd cc
unjudged-third table t _ e = refl

-- what is quiet is one of these
quiet-unjudged : (c : Change) → is_quiet c ≡ true → not (is_judged c) ≡ true
quiet-unjudged (RemoveName dir name) e = absurd cc
quiet-unjudged (MoveName dir name to new) e = absurd cc
quiet-unjudged (SetMode i mode) e = absurd cc
quiet-unjudged (SetOwner i uid gid) e = absurd cc
quiet-unjudged (End status) e = absurd cc
quiet-unjudged _ e = refl

are-unjudged : (cs : List Change) → are_quiet cs ≡ true → are_unjudged cs ≡ true
are-unjudged [] e = refl
are-unjudged (c ∷ cs) e =
    let parts = and_parts (is_quiet c) (are_quiet cs) e in
    ap (λ b. b && are_unjudged cs) (quiet-unjudged c parts.0) ∙ are-unjudged cs parts.1

module _ {M X : Type 0} where
  unjudged-fourth : (pid : ℕ) (s : State M X) (c : Change) (after : State M X) → not (is_judged c) ≡ true → breaks_4 pid s c after ≡ false
  unjudged-fourth pid s (RemoveName dir name) after e = absurd cc
  unjudged-fourth pid s (MoveName dir name to new) after e = absurd cc
  unjudged-fourth pid s (End status) after e = absurd cc
  unjudged-fourth pid s _ after e = refl

  unjudged-fifth : (table : List Row) (s : State M X) (c : Change) (after : State M X) → not (is_judged c) ≡ true → breaks_5 table s c after ≡ false
  unjudged-fifth table s (SetMode i mode) after e = absurd cc
  unjudged-fifth table s (SetOwner i uid gid) after e = absurd cc
  unjudged-fifth table s _ after e = refl

  pub unjudged_break_none : (computing : Computing X) (mounts : Mounts M) (pid : ℕ) (table : List Row) (cs : List Change) (s : State M X) → are_unjudged cs ≡ true → BreakNone computing mounts pid table cs s
  unjudged_break_none computing mounts pid table cs s e = record {
    third = none-judged computing mounts pid (λ s c after. breaks_3 table s.tree c) (λ s c after u. unjudged-third table s.tree c u) cs s e;
    fourth = none-judged computing mounts pid (breaks_4 pid) (λ s c after u. unjudged-fourth pid s c after u) cs s e;
    fifth = none-judged computing mounts pid (breaks_5 table) (λ s c after u. unjudged-fifth table s c after u) cs s e;
  }

  pub quiet_changes_break_none : (computing : Computing X) (mounts : Mounts M) (pid : ℕ) (table : List Row) (cs : List Change) (s : State M X) → are_quiet cs ≡ true → BreakNone computing mounts pid table cs s
  quiet_changes_break_none computing mounts pid table cs s e = unjudged_break_none computing mounts pid table cs s (are-unjudged cs e)

  pub new_programs_break_none : (computing : Computing X) (mounts : Mounts M) (pid : ℕ) (table : List Row) (s : State M X) (image : Image) (brk : ℕ) (from : MountOf) (host : Host) (dir : ℕ) (name : List ℕ)
      → BreakNone computing mounts pid table (ReplaceImage image brk ∷ ReplaceExecutable from host dir name ∷ CloseOnExec ∷ []) s
  new_programs_break_none computing mounts pid table s image brk from host dir name =
      unjudged_break_none computing mounts pid table (ReplaceImage image brk ∷ ReplaceExecutable from host dir name ∷ CloseOnExec ∷ []) s refl

  pub end_breaks : (computing : Computing X) (mounts : Mounts M) (pid : ℕ) (table : List Row) (status : ℕ) (s : State M X) → EndBreaks computing mounts pid table status s
  end_breaks computing mounts pid table status s = record {
    third = refl;
    fourth = or-false (is_in_use (is_directory_of pid) (applied computing mounts pid (End status) s));
    fifth = refl;
  }

  pub refused_calls_break_none : (computing : Computing X) (mounts : Mounts M) (pid : ℕ) (table : List Row) (request : Request) (seen : Seen) (k : Known) (m : Memory) (s : State M X)
      → IsNoExec request → seen ≢ WalkFails ENOSYS → is_refusal (carried_out (operation pid request seen k) m).reply.outcome ≡ true
      → BreakNone computing mounts pid table (carried_out (operation pid request seen k) m).reply.changes s
  refused_calls_break_none computing mounts pid table request seen k m s kind other refused =
      subst (λ cs. BreakNone computing mounts pid table cs s) (sym (refusals pid request seen k m kind other refused).0) (quiet_changes_break_none computing mounts pid table [] s refl)

pub marks_stay_read : {A : Type 0} (action : Action A) (m : Memory) → m.read_marked ≡ true → (carried_out action m).memory.read_marked ≡ true
marks_stay_read (Done reply) m e = e
marks_stay_read (MayUse at n uses next) m e = marks_stay_read (next (allows_uses m.pages at n uses)) m e
marks_stay_read (ReadBytes at n next) m e = marks_stay_read (next (bytes_from m.pages at n)) (after_read m at n) (ap (λ b. b || any_marked m.pages at n) e)
marks_stay_read (WriteBytes at bytes next) m e = marks_stay_read next (with_pages m (written m.pages at bytes)) e
