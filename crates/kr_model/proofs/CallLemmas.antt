-- Equal bare states and equal facts give equal replies.
use Rattle.std.proofs.Common.{◌≡◌, ℕ, List, [], ◌∷◌, refl, subst, sym, ap, ◌∙◌}
use Rattle.kr_calls.specs.rv_mem.Actions.{carried_out, AreEqualUnmarked}
use Rattle.kr_calls.proofs.rv_mem.ActionLemmas.{reads_alike}
use Rattle.kr_model.specs.State.{State, image_layout}
use Rattle.kr_model.specs.Known.{Known, known}
use Rattle.kr_model.specs.Operation.{operation}
use Rattle.kr_model.specs.Laws.{CallsAlike, ArePinnedAlong, AllChangesAreBare}
use Rattle.kr_model.specs.Applied.{Computing, Mounts, applied, all_applied, images, layouts}
use Rattle.kr_model.specs.Bare.{bare_mounts, ArePinned}
use Rattle.kr_model.specs.Change.{Change}
use Rattle.kr_model.proofs.BareLemmas.{change-bare}
use Rattle.kr_model.proofs.KnownLemmas.{known-bare}

pub calls-alike : (M N : Type 0) → CallsAlike M N
calls-alike M N p q pid r seen s t m w kind same memories unmarked =
    let k : known image_layout pid s ≡ known image_layout pid t = known-bare M p pid s ∙ ap (known (λ m. m) pid) same ∙ sym (known-bare N q pid t) in
    subst (λ (k : Known). ((carried_out (operation pid r seen (known image_layout pid s)) m).reply ≡ (carried_out (operation pid r seen k) w).reply)
    × AreEqualUnmarked (carried_out (operation pid r seen (known image_layout pid s)) m).memory.pages (carried_out (operation pid r seen k) w).memory.pages) k
    (reads_alike (operation pid r seen (known image_layout pid s)) m w memories unmarked)

-- ---- all changes of a call

pinned_first : {M X : Type 0} (pins : ℕ → ℕ) (computing : Computing X) (mounts : Mounts M) (pid : ℕ) (cs : List Change) (s : State M X) → ArePinnedAlong pins computing mounts pid cs s → ArePinned pins s.tree
pinned_first pins computing mounts pid [] s pinned = pinned
pinned_first pins computing mounts pid (c ∷ cs) s pinned = pinned.0

pub all_bare : (M : Type 0) → AllChangesAreBare M
all_bare M pins mounts pid [] s pinned = refl
all_bare M pins mounts pid (c ∷ cs) s pinned =
    all_bare M pins mounts pid cs (applied images mounts pid c s) pinned.1
    ∙ ap (all_applied layouts (bare_mounts mounts) pid cs) (change-bare M pins mounts pid c s pinned.0 (pinned_first pins images mounts pid cs (applied images mounts pid c s) pinned.1))
