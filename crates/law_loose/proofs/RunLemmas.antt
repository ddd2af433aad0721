-- A quiet loose run comes to what its turns come to: each of its steps is followed by the turns for which it stands.
use Rattle.std.proofs.Common.{◌≡◌, ◌≢◌, ℕ, zero, suc, ◌+◌, ◌<◌, ◌≤◌, Bool, false, List, [], ◌∷◌, ◌++◌, length, Option, Some, None, append-nil, append_assoc, length-append, refl, sym, ap, subst, ◌∙◌, arith}
use Rattle.std.specs.Option.{option_map_or}
use Rattle.std.proofs.lemmas.List.{get_or_append_left}
use Rattle.std.proofs.lemmas.List.Elements.{All-head, All-tail}
use Rattle.kr_loose.specs.kr_view.View.{Row}
use Rattle.kr_loose.specs.kr_model.State.{Image, Layout, Process, State}
use Rattle.kr_loose.specs.kr_stops.Stopped.{Stopped}
use Rattle.kr_loose.specs.kr_stops.Watching.{Watcher}
use Rattle.kr_loose.specs.kr_turns.Run.{Deadlock, Ending, Over, Put, Ran, Slot, Spent, after_put, ended, ending_of, if_any, put_by, run, run_from, turned, with_put}
use Rattle.kr_loose.specs.kr_turns.Steps.{picked_process, ready_processes}
use Rattle.kr_loose.specs.kr_turns.Turn.{Machine, Tally, turn}
use Rattle.kr_loose.specs.kr_core.Between.{between_of}
use Rattle.kr_loose.specs.kr_core.Moving.{Entry, Exit, Instructions, Moved, Plain, StepKind, moved}
use Rattle.kr_loose.specs.LooseRun.{Loose, LooseRan, Step, after_bytes, loose_ended, loose_from, loose_put, loose_run, loosened, noted, step_of, stepped}
use Rattle.kr_loose.specs.Quiet.{AreUndisturbed, IsUndisturbed, MeetNone, met_by}
use Rattle.kr_loose.specs.Slots.{slot_of_turn, slots_of_kind, slots_of_steps}
use Rattle.law_beside.proofs.law_kept.MemoryApartLemmas.{one_runs}
use Rattle.law_loose.specs.Images.{CanBegin, ComeToSame, IsCleared, LooseRunsAreTheirImages, StepLags, all_err, all_out}
use Rattle.law_loose.specs.Lagging.{Lags}
use Rattle.law_loose.specs.Staying.{behind_turn, behind_turns, puts_of_turns}
use Rattle.law_loose.proofs.BelowLemmas.{Whole}
use Rattle.law_loose.proofs.OtherLemmas.{go-alike}
use Rattle.law_loose.proofs.StepLemmas.{steps-lag}

-- ---- steps that were made before

-- some steps come behind others, the last of which stands first
record Extends {S : Type 0} (earlier later : List (Step S)) : Type 0 where
  more : List (Step S)
  same : later ≡ more ++ earlier

module _ {S : Type 0} where
  extends-itself : (steps : List (Step S)) → Extends steps steps
  extends-itself steps = record { more = []; same = refl }

  extends-then : (a b c : List (Step S)) → Extends a b → Extends b c → Extends a c
  extends-then a b c first second = record {
    more = second.more ++ first.more;
    same = second.same ∙ ap (λ (l : List (Step S)). second.more ++ l) first.same ∙ sym (append_assoc second.more first.more a);
  }

  -- their slots come first
  slots-before : (more earlier : List (Step S)) → (rest : List Slot) × (slots_of_steps (more ++ earlier) ≡ slots_of_steps earlier ++ rest)
  slots-before [] earlier = ([], sym (append-nil (slots_of_steps earlier)))
  slots-before (s ∷ more) earlier =
      let before = slots-before more earlier in
      (before.0 ++ slots_of_kind s.pick s.kind, ap (λ (l : List Slot). l ++ slots_of_kind s.pick s.kind) before.1 ∙ append_assoc (slots_of_steps earlier) before.0 (slots_of_kind s.pick s.kind))

  undisturbed-before : (more earlier : List (Step S)) → AreUndisturbed (more ++ earlier) → AreUndisturbed earlier
  undisturbed-before [] earlier left = left
  undisturbed-before (s ∷ more) earlier left = undisturbed-before more earlier left.0

  module _ (asks : S → Stopped → Bool) (table : List Row) where
    unmet-before : (more earlier : List (Step S)) → MeetNone asks 0 table (more ++ earlier) → MeetNone asks 0 table earlier
    unmet-before [] earlier none = none
    unmet-before (s ∷ more) earlier none = unmet-before more earlier (All-tail (λ (t : Step S). met_by asks 0 table t.kind t ≡ false) s (more ++ earlier) none)

module _ {S : Type 0} (f : Watcher S) (table : List Row) (slots : ℕ → Slot) where
  step-extends : (pick fuel : ℕ) (o : Option (Process ℕ Image)) (l : Loose S) → Extends l.steps (step_of f 0 table pick fuel o l).steps
  step-extends pick fuel None l = extends-itself l.steps
  step-extends pick fuel (Some p) l =
      let made : Moved S = moved f 0 table fuel p (between_of p.pid l.paused) l.machine l.paused in
      record { more = record { pick = pick; pid = p.pid; kind = made.kind; before = l.machine; after = made.machine } ∷ []; same = refl }

  then-extends : (left : ℕ) → ((made : ℕ) (l : Loose S) → Extends l.steps (loose_from f 0 table slots left made l).left.steps) → (made : ℕ) (l : Loose S) (o : Option Ending)
      → Extends l.steps (option_map_or (loose_ended l) o (loose_put (put_by (stepped f 0 table slots made l).machine) (loose_from f 0 table slots left (suc made) (after_bytes (stepped f 0 table slots made l))))).left.steps
  then-extends left again made l (Some ending) = extends-itself l.steps
  then-extends left again made l None =
      let next : Loose S = stepped f 0 table slots made l in
      extends-then l.steps next.steps (loose_from f 0 table slots left (suc made) (after_bytes next)).left.steps
      (step-extends (slots made).pick (slots made).fuel (picked_process l.machine.state (slots made).pick) l) (again (suc made) (after_bytes next))

  loose-extends : (left made : ℕ) (l : Loose S) → Extends l.steps (loose_from f 0 table slots left made l).left.steps
  unfolding loose_from
  loose-extends zero made l = extends-itself l.steps
  loose-extends (suc left) made l = then-extends left (loose-extends left) made l (ending_of l.machine)

-- ---- turns one after the other

abbrev last_of : Option Ending → Ending
last_of o = option_map_or (λ (ending : Ending). ending) o Spent

all-out : (xs ys : List Put) → all_out (xs ++ ys) ≡ all_out xs ++ all_out ys
all-out [] ys = refl
all-out (put ∷ xs) ys = ap (λ (l : List ℕ). put.out ++ l) (all-out xs ys) ∙ sym (append_assoc put.out (all_out xs) (all_out ys))

all-err : (xs ys : List Put) → all_err (xs ++ ys) ≡ all_err xs ++ all_err ys
all-err [] ys = refl
all-err (put ∷ xs) ys = ap (λ (l : List ℕ). put.err ++ l) (all-err xs ys) ∙ sym (append_assoc put.err (all_err xs) (all_err ys))

module _ {S : Type 0} (f : Watcher S) (table : List Row) where
  -- each begins in a machine in which some process is ready
  abbrev GoOn : List Slot → Machine S → Type 0
  GoOn [] m = Unit {0}
  GoOn (slot ∷ rest) m = (ending_of m ≡ None) × GoOn rest (behind_turn f table slot m)

  behind-append : (before rest : List Slot) (m : Machine S) → behind_turns f table (before ++ rest) m ≡ behind_turns f table rest (behind_turns f table before m)
  behind-append [] rest m = refl
  behind-append (slot ∷ before) rest m = behind-append before rest (behind_turn f table slot m)

  puts-append : (before rest : List Slot) (m : Machine S) → puts_of_turns f table (before ++ rest) m ≡ puts_of_turns f table before m ++ puts_of_turns f table rest (behind_turns f table before m)
  puts-append [] rest m = refl
  puts-append (slot ∷ before) rest m = ap (λ (l : List Put). put_by (turn f 0 table slot.pick slot.fuel m) ∷ l) (puts-append before rest (behind_turn f table slot m))

  go-append : (before rest : List Slot) (m : Machine S) → GoOn before m → GoOn rest (behind_turns f table before m) → GoOn (before ++ rest) m
  go-append [] rest m first second = second
  go-append (slot ∷ before) rest m first second = (first.0, go-append before rest (behind_turn f table slot m) first.1 second)

  abbrev ran_by : List Slot → Machine S → Ran S
  ran_by rest m = record { puts = puts_of_turns f table rest m; ending = last_of (ending_of (behind_turns f table rest m)); machine = behind_turns f table rest m }

  -- a run whose slots are these makes these turns
  follows : (slots : ℕ → Slot) (rest : List Slot) (made : ℕ) (m : Machine S) → GoOn rest m → ((k : ℕ) → k < length rest → slots (made + k) ≡ slot_of_turn rest k)
      → run_from f 0 table slots (length rest) made m ≡ ran_by rest m
  unfolding run_from
  follows slots [] made m go same = refl
  follows slots (slot ∷ rest) made m go same =
      let here : made ≡ made + 0 = omega arith in
      let first : slots made ≡ slot = ap slots here ∙ same 0 (omega arith) in
      let later : run_from f 0 table slots (length rest) (suc made) (behind_turn f table slot m) ≡ ran_by rest (behind_turn f table slot m) =
      follows slots rest (suc made) (behind_turn f table slot m) go.1
      (λ k below. (let there : suc made + k ≡ made + suc k = omega arith in ap slots there ∙ same (suc k) (omega arith))) in
      ap (λ (o : Option Ending). option_map_or (ended m) o (with_put (put_by (turned f 0 table slots made m)) (run_from f 0 table slots (length rest) (suc made) (after_put (turned f 0 table slots made m))))) go.0
      ∙ ap (λ (s : Slot). with_put (put_by (turn f 0 table s.pick s.fuel m)) (run_from f 0 table slots (length rest) (suc made) (behind_turn f table s m))) first
      ∙ ap (with_put (put_by (turn f 0 table slot.pick slot.fuel m))) later

-- ---- a process is picked where a run goes on

any-ready : {A B : Type 0} (living : List A) (ready : List B) → if_any living (Some Over) (if_any ready (Some Deadlock) None) ≡ None → ready ≢ []
any-ready [] ready e = absurd cc
any-ready (p ∷ living) [] e = absurd cc
any-ready (p ∷ living) (r ∷ ready) e = λ is. cc

picks-one : {S : Type 0} (m : Machine S) (pick : ℕ) → ending_of m ≡ None → (p : Process ℕ Image) × (picked_process m.state pick ≡ Some p)
picks-one m pick e =
    let one = one_runs m.state pick (any-ready m.state.living (ready_processes m.state) e) in
    (one.0, one.1)

-- ---- the run

module _ {S Part Kept : Type 0} (w : Whole S Part Kept) (slots : ℕ → Slot) (m : Machine S) (final : List (Step S)) (unmet : MeetNone w.asks 0 w.table final) (undisturbed : AreUndisturbed final)
    (goods : (before rest : List Slot) → slots_of_steps final ≡ before ++ rest → GoOn w.f w.table before m → w.Good (behind_turns w.f w.table before m)) where
  -- where a loose run stands, and the machine that made the turns of its steps
  record Reaches (n : Machine S) (l : Loose S) : Type 0 where
    made : n ≡ behind_turns w.f w.table (slots_of_steps l.steps) m
    lags : Lags w.f w.asks w.l w.fits n l
    nothing_put : IsCleared n.state
    tame : w.Tame n
    goes : GoOn w.f w.table (slots_of_steps l.steps) m

  -- what it comes to from there, and the turns that are still to be made
  record Comes (n : Machine S) (l : Loose S) (r : LooseRan S) : Type 0 where
    rest : List Slot
    same : slots_of_steps r.left.steps ≡ slots_of_steps l.steps ++ rest
    out : all_out r.puts ≡ all_out (puts_of_turns w.f w.table rest n)
    err : all_err r.puts ≡ all_err (puts_of_turns w.f w.table rest n)
    ending : r.ending ≡ last_of (ending_of (behind_turns w.f w.table rest n))
    lags : Lags w.f w.asks w.l w.fits (behind_turns w.f w.table rest n) r.left
    goes : GoOn w.f w.table rest n

  abbrev FromHere : ℕ → Type 0
  FromHere left = (made : ℕ) (n : Machine S) (l : Loose S) → Reaches n l → (loose_from w.f 0 w.table slots left made l).left.steps ≡ final → Comes n l (loose_from w.f 0 w.table slots left made l)

  -- kinds of steps with their turns
  kind-goes : (pick : ℕ) (kind : StepKind) (n : Machine S) → ending_of n ≡ None → GoOn w.f w.table (slots_of_kind pick kind) n
  kind-goes pick (Instructions zero) n e = tt
  kind-goes pick (Instructions (suc done)) n e = (e, tt)
  kind-goes pick Entry n e = tt
  kind-goes pick (Plain exec) n e = (e, tt)
  kind-goes pick Exit n e = tt

  kind-clears : (pick : ℕ) (kind : StepKind) (n : Machine S) → IsCleared n.state → IsCleared (behind_turns w.f w.table (slots_of_kind pick kind) n).state
  kind-clears pick (Instructions zero) n c = c
  kind-clears pick (Instructions (suc done)) n c = record { out = refl; err = refl }
  kind-clears pick Entry n c = c
  kind-clears pick (Plain exec) n c = record { out = refl; err = refl }
  kind-clears pick Exit n c = c

  module _ (n : Machine S) (l : Loose S) (at : Reaches n l) (later : Extends l.steps final) where
    good-now : w.Good n
    good-now =
        let parts = slots-before later.more l.steps in
        subst (λ (k : Machine S). w.Good k) (sym at.made) (goods (slots_of_steps l.steps) parts.0 (ap (λ (l : List (Step S)). slots_of_steps l) later.same ∙ parts.1) at.goes)

    same-ending : ending_of l.machine ≡ ending_of n
    same-ending =
        w.below.picks.ending l.machine n (go-alike w n l at.lags (w.below.equal.pids n.state l.machine.state at.lags.same (w.scene.stays.pids n good-now)))

    -- nothing comes any more
    comes-here : (ending : Ending) → ending ≡ last_of (ending_of l.machine) → Comes n l (loose_ended l ending)
    comes-here ending is = record {
      rest = [];
      same = sym (append-nil (slots_of_steps l.steps));
      out = refl;
      err = refl;
      ending = is ∙ ap last_of same-ending;
      lags = at.lags;
      goes = tt;
    }

  -- a step, and what comes behind it
  module _ (left : ℕ) (again : FromHere left) (made : ℕ) (n : Machine S) (l : Loose S) (at : Reaches n l) (goes : ending_of l.machine ≡ None) (p : Process ℕ Image) (picked : picked_process l.machine.state (slots made).pick ≡ Some p) where
    abbrev move : Moved S
    move = moved w.f 0 w.table (slots made).fuel p (between_of p.pid l.paused) l.machine l.paused

    abbrev next : Loose S
    next = noted (slots made).pick p.pid move l

    abbrev behind : LooseRan S
    behind = loose_from w.f 0 w.table slots left (suc made) (after_bytes next)

    abbrev own_step : Step S
    own_step = record { pick = (slots made).pick; pid = p.pid; kind = move.kind; before = l.machine; after = move.machine }

    abbrev own_slots : List Slot
    own_slots = slots_of_kind (slots made).pick move.kind

    module _ (is : behind.left.steps ≡ final) where
      later-steps : Extends (own_step ∷ l.steps) final
      later-steps = subst (λ (steps : List (Step S)). Extends (own_step ∷ l.steps) steps) is (loose-extends w.f w.table slots left (suc made) (after_bytes next))

      later-too : Extends l.steps final
      later-too = extends-then l.steps (own_step ∷ l.steps) final (record { more = own_step ∷ []; same = refl }) later-steps

      own-unmet : met_by w.asks 0 w.table move.kind own_step ≡ false
      own-unmet =
          All-head (λ (t : Step S). met_by w.asks 0 w.table t.kind t ≡ false) own_step l.steps
          (unmet-before w.asks w.table later-steps.more (own_step ∷ l.steps) (subst (λ (steps : List (Step S)). MeetNone w.asks 0 w.table steps) later-steps.same unmet))

      own-undisturbed : IsUndisturbed p.pid move.kind l.steps
      own-undisturbed = (undisturbed-before later-steps.more (own_step ∷ l.steps) (subst (λ (steps : List (Step S)). AreUndisturbed steps) later-steps.same undisturbed)).1

      turns-go : ending_of n ≡ None
      turns-go = sym (same-ending n l at later-too) ∙ goes

      slots-go : GoOn w.f w.table own_slots n
      slots-go = kind-goes (slots made).pick move.kind n turns-go

      all-go : GoOn w.f w.table (slots_of_steps l.steps ++ own_slots) m
      all-go = go-append w.f w.table (slots_of_steps l.steps) own_slots m at.goes (subst (λ (k : Machine S). GoOn w.f w.table own_slots k) at.made slots-go)

      made-then : behind_turns w.f w.table own_slots n ≡ behind_turns w.f w.table (slots_of_steps l.steps ++ own_slots) m
      made-then = ap (behind_turns w.f w.table own_slots) at.made ∙ sym (behind-append w.f w.table (slots_of_steps l.steps) own_slots m)

      good-then : w.Good (behind_turns w.f w.table own_slots n)
      good-then =
          let parts = slots-before later-steps.more (own_step ∷ l.steps) in
          subst (λ (k : Machine S). w.Good k) (sym made-then) (goods (slots_of_steps l.steps ++ own_slots) parts.0 (ap (λ (l : List (Step S)). slots_of_steps l) later-steps.same ∙ parts.1) all-go)

      own-lags : StepLags w.f w.asks w.l w.fits w.Tame w.table n own_slots next
      own-lags = steps-lag w (slots made).pick (slots made).fuel n l p picked at.lags at.nothing_put (good-now n l at later-too) at.tame own-unmet own-undisturbed good-then

      reaches-then : Reaches (behind_turns w.f w.table own_slots n) (after_bytes next)
      reaches-then = record {
        made = made-then;
        lags = own-lags.lags;
        nothing_put = kind-clears (slots made).pick move.kind n at.nothing_put;
        tame = own-lags.tame;
        goes = all-go;
      }

      comes-then : Comes n l (loose_put (put_by next.machine) behind)
      comes-then =
          let c = again (suc made) (behind_turns w.f w.table own_slots n) (after_bytes next) reaches-then is in
          let puts : puts_of_turns w.f w.table (own_slots ++ c.rest) n ≡ puts_of_turns w.f w.table own_slots n ++ puts_of_turns w.f w.table c.rest (behind_turns w.f w.table own_slots n) = puts-append w.f w.table own_slots c.rest n in
          let last : behind_turns w.f w.table (own_slots ++ c.rest) n ≡ behind_turns w.f w.table c.rest (behind_turns w.f w.table own_slots n) = behind-append w.f w.table own_slots c.rest n in
          record {
            rest = own_slots ++ c.rest;
            same = c.same ∙ append_assoc (slots_of_steps l.steps) own_slots c.rest;
            out =
                ap (λ (bytes : List ℕ). bytes ++ all_out behind.puts) own-lags.out
                ∙ ap (λ (bytes : List ℕ). all_out (puts_of_turns w.f w.table own_slots n) ++ bytes) c.out
                ∙ sym (all-out (puts_of_turns w.f w.table own_slots n) (puts_of_turns w.f w.table c.rest (behind_turns w.f w.table own_slots n)))
                ∙ sym (ap all_out puts);
            err =
                ap (λ (bytes : List ℕ). bytes ++ all_err behind.puts) own-lags.err
                ∙ ap (λ (bytes : List ℕ). all_err (puts_of_turns w.f w.table own_slots n) ++ bytes) c.err
                ∙ sym (all-err (puts_of_turns w.f w.table own_slots n) (puts_of_turns w.f w.table c.rest (behind_turns w.f w.table own_slots n)))
                ∙ sym (ap all_err puts);
            ending = c.ending ∙ ap (λ (k : Machine S). last_of (ending_of k)) (sym last);
            lags = subst (λ (k : Machine S). Lags w.f w.asks w.l w.fits k behind.left) (sym last) c.lags;
            goes = go-append w.f w.table own_slots c.rest n slots-go c.goes;
          }

  abbrev step_then : ℕ → ℕ → Loose S → Loose S → LooseRan S
  step_then left made l y = loose_put (put_by y.machine) (loose_from w.f 0 w.table slots left (suc made) (after_bytes y))

  then-comes : (left : ℕ) → FromHere left → (made : ℕ) (n : Machine S) (l : Loose S) → Reaches n l → (o : Option Ending) → ending_of l.machine ≡ o
      → (option_map_or (loose_ended l) o (step_then left made l (stepped w.f 0 w.table slots made l))).left.steps ≡ final
      → Comes n l (option_map_or (loose_ended l) o (step_then left made l (stepped w.f 0 w.table slots made l)))
  then-comes left again made n l at (Some ending) e is = comes-here n l at (record { more = []; same = sym is }) ending (ap last_of (sym e))
  then-comes left again made n l at None e is =
      let one = picks-one l.machine (slots made).pick e in
      let noting : stepped w.f 0 w.table slots made l ≡ noted (slots made).pick one.0.pid (moved w.f 0 w.table (slots made).fuel one.0 (between_of one.0.pid l.paused) l.machine l.paused) l =
      ap (λ (o : Option (Process ℕ Image)). step_of w.f 0 w.table (slots made).pick (slots made).fuel o l) one.1 in
      subst (λ (y : Loose S). Comes n l (step_then left made l y)) (sym noting)
      (comes-then left again made n l at e one.0 one.1 (subst (λ (y : Loose S). (step_then left made l y).left.steps ≡ final) noting is))

  comes : (left : ℕ) → FromHere left
  unfolding loose_from
  comes zero made n l at is = comes-here n l at (record { more = []; same = sym is }) (last_of (ending_of l.machine)) refl
  comes (suc left) made n l at is = then-comes left (comes left) made n l at (ending_of l.machine) refl is

-- ---- the law

module _ {S Part Kept : Type 0} (w : Whole S Part Kept) (slots : ℕ → Slot) (steps : ℕ) (m : Machine S) (begins : CanBegin w.fits w.Tame m) where
  abbrev loose : LooseRan S
  loose = loose_run w.f 0 w.table slots steps m

  abbrev image : List Slot
  image = slots_of_steps loose.left.steps

  -- turns of some of the first slots
  run-before : (before rest : List Slot) → image ≡ before ++ rest → GoOn w.f w.table before m → run w.f 0 w.table (slot_of_turn image) (length before) m ≡ ran_by w.f w.table before m
  run-before before rest same go =
      follows w.f w.table (slot_of_turn image) before 0 m go
      (λ k below.
      (let none : 0 + k ≡ k = omega arith in
      ap (slot_of_turn image) none ∙ ap (λ (l : List Slot). slot_of_turn l k) same ∙ get_or_append_left before rest (record { pick = 0; fuel = 1 }) k below))

  module _ (goods : (turns : ℕ) → turns ≤ length image → w.Good (run w.f 0 w.table (slot_of_turn image) turns m).machine) where
    good-before : (before rest : List Slot) → image ≡ before ++ rest → GoOn w.f w.table before m → w.Good (behind_turns w.f w.table before m)
    good-before before rest same go =
        let long : length image ≡ length before + length rest = ap length same ∙ length-append before rest in
        let few : length before ≤ length image = omega (arith, long) in
        subst (λ (r : Ran S). w.Good r.machine) (run-before before rest same go) (goods (length before) few)

    begins-there : Lags w.f w.asks w.l w.fits m (loosened m)
    begins-there = record {
      same = refl;
      tally = refl;
      each = λ pid. record { image = refl; part = refl; goes = begins.go pid };
      fits_turns = begins.fits_watcher;
      fits_steps = begins.fits_watcher;
    }

    module _ (unmet : MeetNone w.asks 0 w.table loose.left.steps) (undisturbed : AreUndisturbed loose.left.steps) where
      come-to-same : ComeToSame (run w.f 0 w.table (slot_of_turn image) (length image) m) loose
      come-to-same =
          let c =
          comes w slots m loose.left.steps unmet undisturbed good-before steps 0 m (loosened m)
          (record { made = refl; lags = begins-there; nothing_put = begins.cleared; tame = begins.tame; goes = tt }) refl in
          let whole : image ≡ c.rest = c.same in
          let all : image ≡ image ++ [] = sym (append-nil image) in
          let ran : run w.f 0 w.table (slot_of_turn image) (length image) m ≡ ran_by w.f w.table c.rest m =
          run-before image [] all (subst (λ (l : List Slot). GoOn w.f w.table l m) (sym whole) c.goes) ∙ ap (λ (l : List Slot). ran_by w.f w.table l m) whole in
          let same : ComeToSame (ran_by w.f w.table c.rest m) loose = record {
            out = c.out;
            err = c.err;
            ending = c.ending;
            status = sym (ap (λ (t : Tally). t.status) c.lags.tally);
            state = c.lags.same;
            tree = sym (ap (λ (s : State ℕ Layout). s.tree) c.lags.same);
          } in
          subst (λ (r : Ran S). ComeToSame r loose) (sym ran) same

pub loose-runs-are-their-images : {S Part Kept : Type 0} (w : Whole S Part Kept) → LooseRunsAreTheirImages w.f w.asks w.l w.fits w.Good w.Tame w.table
loose-runs-are-their-images w slots steps met m begins quiet goods = come-to-same w slots steps m begins goods quiet.walks quiet.calls
