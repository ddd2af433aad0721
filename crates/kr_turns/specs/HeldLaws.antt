-- What a watcher may be told of a process that is held at a stop. No clause cites this module.
use Rattle.std.proofs.Common.{◌≡◌, ℕ, sym, ap, subst}
use Rattle.kr_hostview.specs.pr_base.Peeks.{NamesAreTexts}
use Rattle.kr_steps.specs.kr_model.Peeks.{peeked_of}
use Rattle.kr_hostview.specs.kr_ops.Meaning.{meaning}
use Rattle.kr_hostview.specs.Texts.{texts-told}
use Rattle.kr_hostview.proofs.NumberLemmas.{peeked-told}
use Rattle.kr_turns.specs.Held.{Held, Left, stopped_of}

pub held-texts : {P T : Type 0} {M : ℕ} (number : T → ℕ) (h : Held P T M) → NamesAreTexts (peeked_of (stopped_of number h).state h.pid)
held-texts number h = subst NamesAreTexts (sym (peeked-told number (meaning h.state) h.pid)) (texts-told (peeked_of (meaning h.state) h.pid) h.texts)

pub left-parts : {P : Type 0} (k l : Left P) → k ≡ l → (k.stopped ≡ l.stopped) × (k.around ≡ l.around)
left-parts k l same = (ap (λ (j : Left _). j.stopped) same, ap (λ (j : Left _). j.around) same)
