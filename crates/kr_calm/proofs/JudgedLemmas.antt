-- What is judged of a call by what was foreseen of it.
use Rattle.std.proofs.Common.{◌≡◌, ◌≢◌, ◌⊎◌, inl, inr, ℕ, zero, suc, Bool, true, false, ◌&&◌, ◌||◌, not, List, [], ◌∷◌, Option, Some, None, refl, sym, ap, ◌∙◌, subst, ℤ, pos, negsuc, arith}
use Rattle.std.specs.Prelude.{if◌then◌else◌}
use Rattle.std.specs.Option.{option_map_or}
use Rattle.std.proofs.lemmas.Bool.Decides.{nat_tests}
use Rattle.kr_seen.specs.rv_mem.Memory.{Memory}
use Rattle.kr_seen.specs.kr_inode.declared.user.Right.TheVariants.{Search}
use Rattle.kr_seen.specs.kr_calls.declared.request.Request.{Request}
use Rattle.kr_seen.specs.kr_tree.Rights.{may}
use Rattle.kr_seen.specs.kr_view.View.{Row}
use Rattle.kr_seen.specs.kr_model.Applied.{Mounts, all_applied, images}
use Rattle.kr_seen.specs.kr_model.Change.{Change, End, MoveName, RemoveName, SetMode}
use Rattle.kr_seen.specs.kr_model.Known.{Known, known}
use Rattle.kr_seen.specs.kr_model.Laws.{word_told}
use Rattle.kr_seen.specs.kr_model.Seen.{Seen}
use Rattle.kr_seen.specs.kr_model.State.{Image, State, image_layout}
use Rattle.kr_seen.specs.kr_model.Walks.{seen}
use Rattle.kr_seen.specs.kr_model.declared.outcome.Outcome.{Outcome}
use Rattle.kr_seen.specs.kr_model.declared.outcome.Outcome.TheVariants.{Answer, Ended, NoMemory, Wait}
use Rattle.kr_seen.proofs.kr_model.LineLemmas.{row_ended}
use Rattle.kr_seen.specs.Numbered.{state_numbered}
use Rattle.kr_seen.specs.Carrying.{after_row, memory_of, with_memory_of}
use Rattle.kr_calm.specs.Calm.{broken_by_changes, smallest}
use Rattle.kr_calm.specs.Foreseen.{broken_as_foreseen, call_done, call_foreseen, foreseen_of, gives_owner, is_foreseen, prospect}
use Rattle.kr_calm.specs.InUse.{is_directory_of, is_in_use}
use Rattle.kr_calm.specs.Laws.{BreakNone}
use Rattle.kr_calm.specs.Prospects.{answers_zero}
use Rattle.kr_calm.specs.Rules.{breaks_3, serves, takes_in_use}
use Rattle.kr_calm.specs.declared.foreseeing.Foreseen.{Foreseen}
use Rattle.kr_calm.proofs.AlikeLemmas.{foreseen-alike, memory-alike}
use Rattle.kr_calm.proofs.ChangeLemmas.{end_breaks, or-false, unjudged_break_none}
use Rattle.kr_calm.proofs.OwnerLemmas.{owners_break_none}
use Rattle.kr_calm.proofs.ProspectLemmas.{IsForeseeable, foreseeable, foreseen_calls_make_it, moves_one, none-foreseen, nothing_goes, removes, sets_mode}
use Rattle.kr_calm.proofs.UnjudgedLemmas.{others-unjudged}
use Rattle.kr_calm.specs.declared.rule.Rule.{Rule}

-- ---- changes that are foreseen

-- an inode is shut where it was guarded and lets search no more
shut-told : (a v : Bool) (f : ℕ → Bool) (i : ℕ) → (((a && f i) && v) || false) ≡ option_map_or f (if a && v then Some i else None) false
shut-told true true f i = by (f i)
  where
    by : (b : Bool) → ((b && true) || false) ≡ b
    by true = refl
    by false = refl
shut-told true false f i = by (f i)
  where
    by : (b : Bool) → ((b && false) || false) ≡ false
    by true = refl
    by false = refl
shut-told false v f i = refl

module _ {M : Type 0} (table : List Row) (mounts : Mounts M) (pid : ℕ) (t : State M Image) where
  abbrev left_by : List Change → State M Image
  left_by cs = all_applied images mounts pid cs t

  abbrev IsAsForeseen : List Change → Type 0
  IsAsForeseen cs = broken_by_changes table mounts pid cs t ≡ broken_as_foreseen (foreseen_of table t cs) (left_by cs).tree (left_by cs).user

  as-foreseen : (cs : List Change) → IsForeseeable cs → IsAsForeseen cs
  as-foreseen cs nothing_goes = refl
  as-foreseen cs (removes {dir = dir} {name = name}) =
      let third = or-false (breaks_3 table t.tree (RemoveName dir name)) in
      let fourth = or-false (takes_in_use t (RemoveName dir name)) in
      λ j. smallest (third j) (fourth j) false
  as-foreseen cs (moves_one {dir = dir} {name = name} {to = to} {new = new}) =
      let third = or-false (breaks_3 table t.tree (MoveName dir name to new)) in
      let fourth = or-false (takes_in_use t (MoveName dir name to new)) in
      λ j. smallest (third j) (fourth j) false
  as-foreseen cs (sets_mode {i = i} {mode = mode}) =
      let after : State M Image = left_by (SetMode i mode ∷ []) in
      ap (smallest false false) (shut-told (may t.tree t.user i Search) (serves table t i) (λ q. not (may after.tree t.user q Search)) i)

  none-broken : (cs : List Change) → BreakNone images mounts pid table cs t → broken_by_changes table mounts pid cs t ≡ None
  none-broken cs none = λ j. smallest (none.third j) (none.fourth j) (none.fifth j)

  end-broken : (cs : List Change) (status : ℕ) → cs ≡ End status ∷ [] → broken_by_changes table mounts pid cs t ≡ smallest false (is_in_use (is_directory_of pid) (left_by cs)) false
  end-broken cs status e = subst (λ cs. broken_by_changes table mounts pid cs t ≡ smallest false (is_in_use (is_directory_of pid) (left_by cs)) false) (sym e) (ap (λ b. smallest false b false) (end_breaks images mounts pid table status t).fourth)

-- ---- a call

answered-zero : (o : Outcome) → answers_zero o ≡ true → o ≢ Ended
answered-zero o is = λ e. absurd (let same : true ≡ false = sym is ∙ ap answers_zero e in cc)

module _ (table : List Row) (mounts : Mounts ℕ) (pid : ℕ) (request : Request) (s : State ℕ Image) where
  abbrev told : Seen
  told = seen table pid s request

  abbrev k : Known
  k = known image_layout pid s

  abbrev m : Memory
  m = memory_of pid s

  abbrev outcome : Outcome
  outcome = (call_done table pid request s).reply.outcome

  abbrev changes : List Change
  changes = (call_done table pid request s).reply.changes

  abbrev before : State ℕ Image
  before = with_memory_of pid (call_done table pid request s).memory s

  abbrev after : State ℕ Image
  after = after_row mounts pid (call_done table pid request s) s

  others-break-none : is_foreseen request ≡ false → outcome ≢ Ended → BreakNone images mounts pid table changes before
  others-break-none other goes = by (gives_owner request) refl
    where
      by : (b : Bool) → gives_owner request ≡ b → BreakNone images mounts pid table changes before
      by true is = owners_break_none mounts pid table request told s m (call_done table pid request s).memory is
      by false is = unjudged_break_none images mounts pid table changes before (others-unjudged pid request told k m other is goes)

  made : is_foreseen request ≡ true → (done : Bool) → answers_zero outcome ≡ done → changes ≡ (if done then prospect request told k else [])
  made is done e = (foreseen_calls_make_it pid request told k is).changes m ∙ ap (λ b. if b then prospect request told k else []) e

  pub judged-zero : answers_zero outcome ≡ true → broken_by_changes table mounts pid changes before ≡ broken_as_foreseen (call_foreseen table pid request s) after.tree after.user
  judged-zero done = by (is_foreseen request) refl
    where
      by : (b : Bool) → is_foreseen request ≡ b → broken_by_changes table mounts pid changes before ≡ broken_as_foreseen (call_foreseen table pid request s) after.tree after.user
      by true is =
          let same = made is true done in
          subst (λ cs. broken_by_changes table mounts pid cs before ≡ broken_as_foreseen (foreseen_of table before cs) (all_applied images mounts pid cs before).tree (all_applied images mounts pid cs before).user) (sym same)
          (as-foreseen table mounts pid before (prospect request told k) (foreseeable request told k))
          ∙ ap (λ cs. broken_as_foreseen (foreseen_of table before cs) after.tree after.user) same
          ∙ ap (λ f. broken_as_foreseen f after.tree after.user) (foreseen-alike s before (memory-alike pid (call_done table pid request s).memory s) table (prospect request told k))
      by false is =
          none-broken table mounts pid before changes (others-break-none is (answered-zero outcome done))
          ∙ sym (ap (λ cs. broken_as_foreseen (foreseen_of table s cs) after.tree after.user) (none-foreseen request told k is))

  pub judged-else : answers_zero outcome ≡ false → outcome ≢ Ended → broken_by_changes table mounts pid changes before ≡ None
  judged-else other goes = by (is_foreseen request) refl
    where
      by : (b : Bool) → is_foreseen request ≡ b → broken_by_changes table mounts pid changes before ≡ None
      by true is = ap (λ cs. broken_by_changes table mounts pid cs before) (made is false other)
      by false is = none-broken table mounts pid before changes (others-break-none is goes)

  pub judged-end : outcome ≡ Ended → broken_by_changes table mounts pid changes before ≡ smallest false (is_in_use (is_directory_of pid) after) false
  judged-end is = end-broken table mounts pid before changes (word_told request) (row_ended pid request told k m is).1

-- ---- by the state that is left, as the code has it

module _ {T : Type 0} (number : T → ℕ) (left : State T Image) (table : List Row) (mounts : Mounts ℕ) (pid : ℕ) (request : Request) (s : State ℕ Image)
    (same : state_numbered number left ≡ after_row mounts pid (call_done table pid request s) s) (o : Outcome) (came : o ≡ (call_done table pid request s).reply.outcome) where
  abbrev broken : Option Rule
  broken = broken_by_changes table mounts pid (call_done table pid request s).reply.changes (with_memory_of pid (call_done table pid request s).memory s)

  pub ended-judged : (b : Bool) → b ≡ is_in_use (is_directory_of pid) (state_numbered number left) → o ≡ Ended → smallest false b false ≡ broken
  ended-judged b is ended =
      ap (λ b. smallest false b false) (is ∙ ap (is_in_use (is_directory_of pid)) same) ∙ sym (judged-end table mounts pid request s (sym came ∙ ended))

  pub done-judged : (f : Foreseen) → f ≡ call_foreseen table pid request s → answers_zero o ≡ true → broken_as_foreseen f left.tree left.user ≡ broken
  done-judged f is done =
      ap (λ f. broken_as_foreseen f left.tree left.user) is
      ∙ ap (λ (u : State ℕ Image). broken_as_foreseen (call_foreseen table pid request s) u.tree u.user) same
      ∙ sym (judged-zero table mounts pid request s (ap answers_zero (sym came) ∙ done))

  pub else-judged : answers_zero o ≡ false → o ≢ Ended → None ≡ broken
  else-judged other goes = sym (judged-else table mounts pid request s (ap answers_zero (sym came) ∙ other) (λ e. goes (came ∙ e)))

-- ---- outcomes

pub answers-another : (value : ℤ) → value ≢ pos 0 → answers_zero (Answer value) ≡ false
answers-another (pos zero) other = absurd (other refl)
answers-another (pos (suc n)) other = grind (arith, nat_tests)
answers-another (negsuc n) other = refl

pub goes-with-answer : (o : Outcome) (value : ℤ) → o ≡ Answer value → o ≢ Ended
goes-with-answer o value is = λ e. absurd (let same : Answer value ≡ Ended = sym is ∙ e in cc)

pub stays-at-call : (o : Outcome) → (o ≡ Wait) ⊎ (o ≡ NoMemory) → (answers_zero o ≡ false) × (o ≢ Ended)
stays-at-call o (inl is) = (ap answers_zero is, λ e. absurd (let same : Wait ≡ Ended = sym is ∙ e in cc))
stays-at-call o (inr is) = (ap answers_zero is, λ e. absurd (let same : NoMemory ≡ Ended = sym is ∙ e in cc))
