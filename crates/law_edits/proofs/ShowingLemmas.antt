-- What is done for identities is done alike.
use Rattle.std.proofs.Common.{◌≡◌, ℕ, zero, suc, ◌+◌, ◌<◌, Bool, true, false, ◌||◌, cond, List, [], ◌∷◌, length, arith, refl, sym, ap, ◌∙◌}
use Rattle.pt_tracer.specs.rv_mem.Actions.{Action, AreEqualUnmarked, Done, ReadBytes, WriteBytes, allows_uses, carried_out}
use Rattle.pt_tracer.specs.rv_mem.Memory.{Memory}
use Rattle.pt_tracer.specs.rv_mem.Pages.{IsWhole, Pages, any_marked, is_marked, written}
use Rattle.pt_tracer.specs.rv_mem.declared.rights.Use.TheVariants.{Write}
use Rattle.pt_tracer.proofs.rv_mem.ActionLemmas.{AreEqualUnmarked-written, reads_alike}
use Rattle.pt_tracer.proofs.rv_mem.AddressLemmas.{is_marked-written_in}
use Rattle.pt_tracer.specs.kr_inode.declared.user.User.{User}
use Rattle.pt_tracer.specs.pt_ident.Identity.{on_memory}
use Rattle.pt_tracer.specs.pt_ident.IdentityTable.{IdentityTable, shown_owners}
use Rattle.pt_tracer.specs.pt_ident.Showing.{shown_stat}
use Rattle.pt_tracer.specs.pt_faker.Faking.{show_owner}
use Rattle.law_edits.specs.Showing.{EffectsAreDoneAlike, LeaveAlike, OwnersAreShownAlike, just_written}

neither : (a b : Bool) → a ≡ false → b ≡ false → (a || b) ≡ false
neither a b first second = ap (λ c. c || b) first ∙ second

-- no byte of a range is marked
none-marked : (n : ℕ) (m : Pages) (at : ℕ) → ((k : ℕ) → k < n → is_marked m (at + k) ≡ false) → any_marked m at n ≡ false
unfolding any_marked
none-marked zero m at each = refl
none-marked (suc n) m at each =
    let here : at + 0 ≡ at = omega arith in
    neither (is_marked m at) (any_marked m (at + 1) n) (ap (is_marked m) (sym here) ∙ each 0 (omega arith))
    (none-marked n m (at + 1) (λ k small. let next : at + 1 + k ≡ at + (k + 1) = omega arith in ap (is_marked m) next ∙ each (k + 1) (omega (arith, small))))

-- nor any that was just written
pub written-unmarked : (m : Pages) (at : ℕ) (bytes : List ℕ) → IsWhole m → length bytes ≡ 128 → any_marked (written m at bytes) at 128 ≡ false
written-unmarked m at bytes whole long = none-marked 128 (written m at bytes) at (λ k small. is_marked-written_in m at bytes k whole (omega (arith, small, long)))

-- nothing is left to do
abbrev ended : Action (Unit {0})
ended = Done tt

-- an owner that is shown where none is marked
pub owner-unread : (user : User) (table : IdentityTable) (at : ℕ) (m : Memory) → any_marked m.pages at 128 ≡ false → m.read_marked ≡ false → (carried_out (show_owner user table at) m).memory.read_marked ≡ false
owner-unread user table at m unmarked calm = by (allows_uses m.pages at 128 (Write ∷ []))
  where
    by : (b : Bool) → (carried_out (cond b (ReadBytes at 128 (λ bytes. WriteBytes at (shown_stat user table.uid table.gid (shown_owners table) bytes) ended)) ended) m).memory.read_marked ≡ false
    by true = neither m.read_marked (any_marked m.pages at 128) calm unmarked
    by false = calm

alike : {A : Type 0} (action : Action A) (m w : Memory) → AreEqualUnmarked m.pages w.pages → (carried_out action m).memory.read_marked ≡ false → LeaveAlike (carried_out action m) (carried_out action w)
alike action m w same unread = let both = reads_alike action m w same unread in record { replies = both.0; unread = unread; memories = both.1 }

pub effects-are-done-alike : EffectsAreDoneAlike
effects-are-done-alike i e m w same unread = alike (on_memory i e) m w same unread

pub owners-are-shown-alike : OwnersAreShownAlike
owners-are-shown-alike user table at bytes m w long same calm =
    alike (show_owner user table at) (just_written at bytes m) (just_written at bytes w) (AreEqualUnmarked-written bytes m.pages w.pages same at)
    (owner-unread user table at (just_written at bytes m) (written-unmarked m.pages at bytes same.whole long) calm)
