-- How a process goes along with what another one does, in the machine of turns and in that of steps, and what a step leaves of both machines.
use Rattle.std.proofs.Common.{◌≡◌, inl, inr, ℕ, Bool, true, false, cond, List, [], ◌∷◌, Option, Some, None, append-nil, refl, sym, ap, subst, ◌∙◌}
use Rattle.std.specs.Prelude.{map as map_list, ◌==◌, IsSome}
use Rattle.std.specs.List.{All, find}
use Rattle.std.specs.Option.{option_map_or}
use Rattle.std.proofs.lemmas.Bool.{cases_eq}
use Rattle.std.proofs.lemmas.List.Elements.{All-head, All-tail}
use Rattle.kr_loose.specs.kr_model.Judged.{HasShape}
use Rattle.kr_loose.specs.kr_model.Lawful.{ArePids}
use Rattle.kr_loose.specs.kr_model.State.{Image, Layout, Process, State, image_layout, is_pid, process}
use Rattle.kr_loose.specs.kr_core.kr_calls.Arguments.{number}
use Rattle.kr_loose.specs.kr_core.law_allowed.Others.{LivesOn, Own}
use Rattle.kr_loose.specs.kr_tree.Tree.{Tree}
use Rattle.kr_loose.specs.law_steady.Bytes.{HasBytes}
use Rattle.kr_loose.specs.kr_stops.Stopped.{image_in, no_image}
use Rattle.kr_loose.specs.kr_stops.declared.handed.Handed.{Handed}
use Rattle.kr_loose.specs.kr_turns.Run.{Slot, after_put, cleared}
use Rattle.kr_loose.specs.kr_turns.Steps.{picked_process}
use Rattle.kr_loose.specs.kr_turns.Turn.{Machine, calling, turn}
use Rattle.kr_loose.specs.kr_core.Between.{between_of}
use Rattle.kr_loose.specs.kr_core.Moving.{Moved, calls_execve}
use Rattle.kr_loose.specs.kr_core.declared.paused.Begun.{Begun}
use Rattle.kr_loose.specs.kr_core.declared.paused.Between.{Between}
use Rattle.kr_loose.specs.kr_core.declared.paused.Between.TheVariants.{AtCall, Done, Entered}
use Rattle.kr_loose.specs.LooseRun.{Loose, Step, after_bytes, noted}
use Rattle.kr_loose.specs.Quiet.{LeavesFor, others_since_entry}
use Rattle.kr_loose.specs.Local.{EntersAlike, ExitsAlike}
use Rattle.kr_loose.proofs.BehindLemmas.{others-other}
use Rattle.law_beside.proofs.kr_core.law_allowed.OthersLemmas.{lives_on}
use Rattle.law_beside.proofs.kr_core.law_lawful.SumLemmas.{other-test}
use Rattle.law_beside.specs.Beside.{imaged_by, laid}
use Rattle.law_beside.specs.Picks.{GoAlike}
use Rattle.law_loose.specs.Images.{IsCleared, StepLags}
use Rattle.law_loose.specs.Lagging.{ComesAlike, GoesAlike, HasBegun, IsAhead, IsBehind, Lags, LagsAt, MeetsCall, leaving, stays_in}
use Rattle.law_loose.specs.Staying.{behind_turn}
use Rattle.law_loose.proofs.BelowLemmas.{Whole}

abbrev Machines : Type 0
Machines = State ℕ Image

-- ---- who lives on

abbrev pub image_of : Option (Process ℕ Image) → Image
image_of o = option_map_or (λ (p : Process ℕ Image). p.image) o no_image

abbrev pub waits_of : Option (Process ℕ Image) → Bool
waits_of o = option_map_or (λ (p : Process ℕ Image). p.waits) o false

module _ (q : ℕ) (s t : Machines) (on : LivesOn q s t) (lives : IsSome (process q s)) where
  pub lives-on : IsSome (process q t)
  lives-on = by (process q s) refl lives
    where
      by : (o : Option (Process ℕ Image)) → process q s ≡ o → IsSome o → IsSome (process q t)
      by None is some = absurd cc
      by (Some p) is some = subst IsSome (sym (on p is).1) refl

  pub image-on : image_in q t ≡ image_in q s
  image-on = by (process q s) refl lives
    where
      by : (o : Option (Process ℕ Image)) → process q s ≡ o → IsSome o → image_in q t ≡ image_in q s
      by None is some = absurd cc
      by (Some p) is some = let after = on p is in ap image_of after.1 ∙ ap (λ (x : Own ℕ Image). x.image) after.2 ∙ sym (ap image_of is)

  pub waits-on : stays_in q t ≡ stays_in q s
  waits-on = by (process q s) refl lives
    where
      by : (o : Option (Process ℕ Image)) → process q s ≡ o → IsSome o → stays_in q t ≡ stays_in q s
      by None is some = absurd cc
      by (Some p) is some = let after = on p is in ap waits_of after.1 ∙ ap (λ (x : Own ℕ Image). x.waits) after.2 ∙ sym (ap waits_of is)

-- whether a process stays at a call is told by what is laid out
stays-laid : (pid : ℕ) (ps : List (Process ℕ Image)) (h : ℕ → Image → Layout)
    → option_map_or (λ (p : Process ℕ Layout). p.waits) (find (is_pid pid) (map_list (imaged_by h) ps)) false ≡ waits_of (find (is_pid pid) ps)
stays-laid pid [] h = refl
stays-laid pid (p ∷ ps) h = by (p.pid == pid) (stays-laid pid ps h)
  where
    by : (b : Bool) → option_map_or (λ (p : Process ℕ Layout). p.waits) (find (is_pid pid) (map_list (imaged_by h) ps)) false ≡ waits_of (find (is_pid pid) ps)
        → option_map_or (λ (p : Process ℕ Layout). p.waits) (cond b (Some (imaged_by h p)) (find (is_pid pid) (map_list (imaged_by h) ps))) false ≡ waits_of (cond b (Some p) (find (is_pid pid) ps))
    by true rest = refl
    by false rest = rest

pub same-waits : (pid : ℕ) (s t : Machines) → laid s ≡ laid t → stays_in pid s ≡ stays_in pid t
same-waits pid s t same =
    sym (stays-laid pid s.living (λ q. image_layout))
    ∙ ap (λ (u : State ℕ Layout). option_map_or (λ (p : Process ℕ Layout). p.waits) (process pid u) false) same
    ∙ stays-laid pid t.living (λ q. image_layout)

-- ---- bytes that were put out

pub cleared-same : (s : Machines) → IsCleared s → cleared s ≡ s
cleared-same s c = λ i. record {
  tree = s.tree;
  user = s.user;
  files = s.files;
  input = s.input;
  taken = s.taken;
  out = sym c.out i;
  err = sym c.err i;
  living = s.living;
  ended = s.ended;
  next_pid = s.next_pid;
}

abbrev emptied : State ℕ Layout → State ℕ Layout
emptied s = record {
  tree = s.tree;
  user = s.user;
  files = s.files;
  input = s.input;
  taken = s.taken;
  out = [];
  err = [];
  living = s.living;
  ended = s.ended;
  next_pid = s.next_pid;
}

pub cleared-laid : (s t : Machines) → laid s ≡ laid t → laid (cleared s) ≡ laid (cleared t)
cleared-laid s t same = ap emptied same

pub cleared-too : (s t : Machines) → laid s ≡ laid t → IsCleared s → IsCleared t
cleared-too s t same c = record {
  out = sym (ap (λ (u : State ℕ Layout). u.out) same) ∙ c.out;
  err = sym (ap (λ (u : State ℕ Layout). u.err) same) ∙ c.err;
}

-- ---- a process that doesn't move

module _ {S Part Kept : Type 0} (w : Whole S Part Kept) where
  abbrev pub At : ℕ → Option Between → List (Step S) → (turns loose : Machine S) → Type 0
  At q o made turns loose = LagsAt w.f w.asks w.l q o made turns loose

  -- it lives on with all that is its own, and the watcher goes by the same for it and keeps the same
  pub record IsLeft (q : ℕ) (old new : Machine S) : Type 0 where
    pub on : LivesOn q old.state new.state
    pub part : w.l.part q new.watcher ≡ w.l.part q old.watcher
    pub kept : w.l.kept q new.watcher ≡ w.l.kept q old.watcher

  -- or it is just what it was, whether it lives or not
  pub record StaysOther (q : ℕ) (old new : Machine S) : Type 0 where
    pub found : process q new.state ≡ process q old.state
    pub part : w.l.part q new.watcher ≡ w.l.part q old.watcher
    pub kept : w.l.kept q new.watcher ≡ w.l.kept q old.watcher

  pub left-other : (q : ℕ) (old new : Machine S) → StaysOther q old new → IsLeft q old new
  left-other q old new a = record { on = λ p lives. (p, a.found ∙ lives, refl); part = a.part; kept = a.kept }

  pub stays-same : (q : ℕ) (m : Machine S) → StaysOther q m m
  stays-same q m = record { found = refl; part = refl; kept = refl }

  pub stays-then : (q : ℕ) (a b c : Machine S) → StaysOther q a b → StaysOther q b c → StaysOther q a c
  stays-then q a b c first second = record { found = second.found ∙ first.found; part = second.part ∙ first.part; kept = second.kept ∙ first.kept }

  pub left-then : (q : ℕ) (a b c : Machine S) → IsLeft q a b → IsLeft q b c → IsLeft q a c
  left-then q a b c first second = record { on = lives_on q a.state b.state c.state first.on second.on; part = second.part ∙ first.part; kept = second.kept ∙ first.kept }

  left-put : (q : ℕ) (a b : Machine S) → IsLeft q a b → IsLeft q a (after_put b)
  left-put q a b left = record { on = left.on; part = left.part; kept = left.kept }

  -- ---- in both machines

  -- from a machine of turns and one of steps to another of each
  pub record OtherGoes (q : ℕ) (turns loose turns_after loose_after : Machine S) : Type 0 where
    pub images : image_in q turns.state ≡ image_in q loose.state → image_in q turns_after.state ≡ image_in q loose_after.state
    pub goes : stays_in q turns.state ≡ false → stays_in q turns_after.state ≡ false
    pub parts : w.l.part q loose.watcher ≡ w.l.part q turns.watcher → w.l.part q loose_after.watcher ≡ w.l.part q turns_after.watcher
    pub turns_left : IsSome (process q turns.state) → IsLeft q turns turns_after
    pub loose_left : IsSome (process q loose.state) → IsLeft q loose loose_after

  pub both-stay : (q : ℕ) (n m k h : Machine S) → StaysOther q n k → StaysOther q m h → OtherGoes q n m k h
  both-stay q n m k h a b = record {
    images = λ e. ap image_of a.found ∙ e ∙ sym (ap image_of b.found);
    goes = λ e. ap waits_of a.found ∙ e;
    parts = λ e. b.part ∙ e ∙ sym a.part;
    turns_left = λ lives. left-other q n k a;
    loose_left = λ lives. left-other q m h b;
  }

  pub then-goes : (q : ℕ) (n m k h u v : Machine S) → OtherGoes q n m k h → OtherGoes q k h u v → OtherGoes q n m u v
  then-goes q n m k h u v a b = record {
    images = λ e. b.images (a.images e);
    goes = λ e. b.goes (a.goes e);
    parts = λ e. b.parts (a.parts e);
    turns_left = λ lives. left-then q n k u (a.turns_left lives) (b.turns_left (lives-on q n.state k.state (a.turns_left lives).on lives));
    loose_left = λ lives. left-then q m h v (a.loose_left lives) (b.loose_left (lives-on q m.state h.state (a.loose_left lives).on lives));
  }

  pub put-goes : (q : ℕ) (n m k h : Machine S) → OtherGoes q n m k h → OtherGoes q n m (after_put k) (after_put h)
  put-goes q n m k h a = record {
    images = a.images;
    goes = a.goes;
    parts = a.parts;
    turns_left = λ lives. left-put q n k (a.turns_left lives);
    loose_left = λ lives. left-put q m h (a.loose_left lives);
  }

  -- its first stop, made again in the machine of turns, leaves and keeps what it did, where a step left to it what it has to find
  abbrev pub Again : ℕ → Step S → (old new : Machine S) → Type 0
  Again q s old new =
      IsSome (process q old.state) → LeavesFor (calls_execve q old.state) s → w.asks old.watcher (calling 0 q old.state) ≡ false
      → EntersAlike w.f w.asks w.l old.watcher new.watcher q old.state new.state

  module _ (q : ℕ) (s : Step S) (made : List (Step S)) (n m k h : Machine S) (other : q ≡ s.pid → ⊥) (same : laid n.state ≡ laid m.state) (goes : OtherGoes q n m k h) where
    loose-lives : IsSome (process q n.state) → IsSome (process q m.state)
    loose-lives lives = w.below.equal.lives q n.state m.state same lives

    image-turns : IsSome (process q n.state) → image_in q k.state ≡ image_in q n.state
    image-turns lives = image-on q n.state k.state (goes.turns_left lives).on lives

    image-loose : IsSome (process q n.state) → image_in q h.state ≡ image_in q m.state
    image-loose lives = image-on q m.state h.state (goes.loose_left (loose-lives lives)).on (loose-lives lives)

    lives-then : IsSome (process q n.state) → IsSome (process q k.state)
    lives-then lives = lives-on q n.state k.state (goes.turns_left lives).on lives

    runs-on : GoesAlike w.f w.asks w.l q n m → GoesAlike w.f w.asks w.l q k h
    runs-on a = record { image = goes.images a.image; part = goes.parts a.part; goes = goes.goes a.goes }

    comes-on : ComesAlike w.f w.asks w.l q n m → ComesAlike w.f w.asks w.l q k h
    comes-on a = record { alike = runs-on a.alike; lives = lives-then a.lives; meets = subst MeetsCall (sym (image-turns a.lives)) a.meets }

    ahead-on : (begun : Begun) → Again q s n k → HasBegun w.f w.asks w.l q begun made n m → All (LeavesFor begun.exec) (others_since_entry q (s ∷ made)) → IsAhead w.f w.asks w.l q k h
    ahead-on begun again a all =
        let others : List (Step S) = others_since_entry q made in
        let parted : All (LeavesFor begun.exec) (s ∷ others) = subst (All (LeavesFor begun.exec)) (others-other q s made (other-test s.pid q (λ e. other (sym e)))) all in
        let first : LeavesFor begun.exec s = All-head (LeavesFor begun.exec) s others parted in
        let was : IsAhead w.f w.asks w.l q n m = a.ahead (All-tail (LeavesFor begun.exec) s others parted) in
        let now : EntersAlike w.f w.asks w.l n.watcher k.watcher q n.state k.state = again a.lives (subst (λ (b : Bool). LeavesFor b s) a.exec first) was.unmet in
        record {
          image = image-loose a.lives ∙ was.image ∙ sym now.image;
          kept = (goes.loose_left (loose-lives a.lives)).kept ∙ was.kept ∙ sym now.kept;
          unmet = now.unmet;
        }

    begun-on : (begun : Begun) → Again q s n k → HasBegun w.f w.asks w.l q begun made n m → HasBegun w.f w.asks w.l q begun (s ∷ made) k h
    begun-on begun again a = record {
      part = (goes.loose_left (loose-lives a.lives)).part ∙ a.part ∙ sym (goes.turns_left a.lives).part;
      lives = lives-then a.lives;
      meets = subst MeetsCall (sym (image-turns a.lives)) a.meets;
      exec = a.exec ∙ ap (λ (i : Image). number i.regs == 221) (sym (image-turns a.lives));
      waiting = λ e. image-turns a.lives ∙ a.waiting (sym (waits-on q n.state k.state (goes.turns_left a.lives).on a.lives) ∙ e) ∙ sym (image-loose a.lives);
      ahead = ahead-on begun again a;
    }

    behind-on : (handed : Handed) → w.fits m.watcher → w.fits h.watcher → IsBehind w.f w.asks w.l q handed n m → IsBehind w.f w.asks w.l q handed k h
    behind-on handed fits fits_after a =
        let right : IsLeft q m h = goes.loose_left (loose-lives a.lives) in
        let exits : ExitsAlike w.f w.asks w.l m.watcher h.watcher (leaving q handed m) (leaving q handed h) =
        w.scene.local.exit_alike m.watcher h.watcher (leaving q handed m) (leaving q handed h) fits fits_after refl right.part right.kept refl (image-loose a.lives) in
        record {
          lives = lives-then a.lives;
          goes = goes.goes a.goes;
          image = image-turns a.lives ∙ a.image ∙ sym exits.image;
          part = (goes.turns_left a.lives).part ∙ a.part ∙ sym exits.part;
        }

    -- so each stands by the other as before
    pub other-lags : (o : Option Between) → w.fits m.watcher → w.fits h.watcher → Again q s n k → At q o made n m → At q o (s ∷ made) k h
    other-lags None fits fits_after again a = runs-on a
    other-lags (Some AtCall) fits fits_after again a = comes-on a
    other-lags (Some (Entered begun)) fits fits_after again a = begun-on begun again a
    other-lags (Some (Done handed)) fits fits_after again a = behind-on handed fits fits_after a

  -- ---- which process makes a step

  waiter-image : (pid : ℕ) (o : Option Between) (made : List (Step S)) (n m : Machine S) → At pid o made n m → stays_in pid n.state ≡ true → image_in pid n.state ≡ image_in pid m.state
  waiter-image pid None made n m a waits = a.image
  waiter-image pid (Some AtCall) made n m a waits = a.alike.image
  waiter-image pid (Some (Entered begun)) made n m a waits = a.waiting waits
  waiter-image pid (Some (Done handed)) made n m a waits = absurd (let no : false ≡ true = sym a.goes ∙ waits in cc)

  pub go-alike : (n : Machine S) (x : Loose S) → Lags w.f w.asks w.l w.fits n x → ArePids x.machine.state → GoAlike x.machine.state n.state
  go-alike n x lags pids = record {
    pids = pids;
    same = sym lags.same;
    waiters = λ pid p lives waits.
        (let there : stays_in pid n.state ≡ true = same-waits pid n.state x.machine.state lags.same ∙ ap waits_of lives ∙ waits in
        ap (λ (i : Image). i.regs) (sym (waiter-image pid (between_of pid x.paused) x.steps n x.machine (lags.each pid) there)));
  }

  -- the process that is picked for a step, in both machines
  pub record Stand (pick : ℕ) (p : Process ℕ Image) (n : Machine S) (x : Loose S) : Type 0 where
    pub lags : Lags w.f w.asks w.l w.fits n x
    pub nothing_put : IsCleared n.state
    pub good : w.Good n
    pub tame : w.Tame n
    pub pids_turns : ArePids n.state
    pub pids_loose : ArePids x.machine.state
    pub other : Process ℕ Image
    pub picked : picked_process n.state pick ≡ Some other
    pub numbered : other.pid ≡ p.pid
    pub lives_turns : process p.pid n.state ≡ Some other
    pub lives_loose : process p.pid x.machine.state ≡ Some p

  pub stands : (pick : ℕ) (p : Process ℕ Image) (n : Machine S) (x : Loose S) → picked_process x.machine.state pick ≡ Some p → Lags w.f w.asks w.l w.fits n x → IsCleared n.state → w.Good n → w.Tame n → Stand pick p n x
  stands pick p n x picked lags nothing_put good tame =
      let pids : ArePids n.state = w.scene.stays.pids n good in
      let too : ArePids x.machine.state = w.below.equal.pids n.state x.machine.state lags.same pids in
      let both = w.below.picks.one x.machine.state n.state (go-alike n x lags too) pick p picked in
      let number : both.0.pid ≡ p.pid = sym (ap (λ (r : Process ℕ Layout). r.pid) both.2) in
      record {
        lags = lags;
        nothing_put = nothing_put;
        good = good;
        tame = tame;
        pids_turns = pids;
        pids_loose = too;
        other = both.0;
        picked = both.1;
        numbered = number;
        lives_turns = subst (λ (q : ℕ). process q n.state ≡ Some both.0) number (w.below.picks.lives n.state pids pick both.0 both.1);
        lives_loose = w.below.picks.lives x.machine.state too pick p picked;
      }

  -- ---- what a step leaves

  abbrev pub step_by : (pick pid : ℕ) → Moved S → Loose S → Step S
  step_by pick pid made x = record { pick = pick; pid = pid; kind = made.kind; before = x.machine; after = made.machine }

  abbrev pub LagsOf : Machine S → List Slot → Loose S → Type 0
  LagsOf n slots x = StepLags w.f w.asks w.l w.fits w.Tame w.table n slots x

  module _ (pick : ℕ) (p : Process ℕ Image) (n : Machine S) (x : Loose S) (st : Stand pick p n x) (made : Moved S) (between : (q : ℕ) → (q ≡ p.pid → ⊥) → between_of q made.paused ≡ between_of q x.paused) where
    -- the others and the process itself, behind it
    each-lags : (k h : Machine S) → w.fits x.machine.watcher → w.fits h.watcher → ((q : ℕ) → (q ≡ p.pid → ⊥) → OtherGoes q n x.machine k h) → ((q : ℕ) → (q ≡ p.pid → ⊥) → Again q (step_by pick p.pid made x) n k)
        → At p.pid (between_of p.pid made.paused) (step_by pick p.pid made x ∷ x.steps) k h → (q : ℕ) → At q (between_of q made.paused) (step_by pick p.pid made x ∷ x.steps) k h
    each-lags k h fits fits_after others again itself q =
        elim (cases_eq q p.pid) [
          | inl is ↦ subst (λ (r : ℕ). At r (between_of r made.paused) (step_by pick p.pid made x ∷ x.steps) k h) (sym is) itself
          | inr other ↦ subst (λ (o : Option Between). At q o (step_by pick p.pid made x ∷ x.steps) k h) (sym (between q other))
              (other-lags q (step_by pick p.pid made x) x.steps n x.machine k h other st.lags.same (others q other) (between_of q x.paused) fits fits_after (again q other) (st.lags.each q))
        ]

    -- one without a turn, which puts nothing
    pub still-lags : laid x.machine.state ≡ laid made.machine.state → x.machine.tally ≡ made.machine.tally → w.fits made.machine.watcher → ((q : ℕ) → (q ≡ p.pid → ⊥) → StaysOther q x.machine made.machine)
        → At p.pid (between_of p.pid made.paused) (step_by pick p.pid made x ∷ x.steps) n made.machine → LagsOf n [] (noted pick p.pid made x)
    still-lags same tally fits others itself =
        let both : laid n.state ≡ laid made.machine.state = st.lags.same ∙ same in
        let put : IsCleared made.machine.state = cleared-too n.state made.machine.state both st.nothing_put in
        let still : cleared made.machine.state ≡ made.machine.state = cleared-same made.machine.state put in
        let whole : made.machine ≡ after_put made.machine = λ i. record { state = sym still i; watcher = made.machine.watcher; tally = made.machine.tally } in
        let own : At p.pid (between_of p.pid made.paused) (step_by pick p.pid made x ∷ x.steps) n (after_put made.machine) =
        subst (λ (h : Machine S). At p.pid (between_of p.pid made.paused) (step_by pick p.pid made x ∷ x.steps) n h) whole itself in
        record {
          lags = record {
            same = both ∙ ap laid (sym still);
            tally = st.lags.tally ∙ tally;
            each = each-lags n (after_put made.machine) st.lags.fits_steps fits
                (λ q other. both-stay q n x.machine n (after_put made.machine) (stays-same q n) (record { found = (others q other).found; part = (others q other).part; kept = (others q other).kept }))
                (λ q other lives leaves unmet. record { image = refl; kept = refl; unmet = unmet }) own;
            fits_turns = st.lags.fits_turns;
            fits_steps = fits;
          };
          tame = st.tame;
          out = put.out;
          err = put.err;
        }

    -- one with a turn
    module _ (fuel : ℕ) (to : Machine S) (is : turn w.f 0 w.table pick fuel n ≡ to) (same : laid to.state ≡ laid made.machine.state) (good : w.Good (behind_turn w.f w.table (record { pick = pick; fuel = fuel }) n))
        (tame : w.Tame (behind_turn w.f w.table (record { pick = pick; fuel = fuel }) n)) where
      abbrev slot : Slot
      slot = record { pick = pick; fuel = fuel }

      tree-before : x.machine.state.tree ≡ n.state.tree
      tree-before = sym (ap (λ (u : State ℕ Layout). u.tree) st.lags.same)

      tree-after : made.machine.state.tree ≡ (turn w.f 0 w.table pick fuel n).state.tree
      tree-after = sym (ap (λ (t : Machine S). t.state.tree) is ∙ ap (λ (u : State ℕ Layout). u.tree) same)

      -- what the step left, the turn did
      shape-left : HasShape x.machine.state.tree made.machine.state.tree → HasShape n.state.tree (behind_turn w.f w.table slot n).state.tree
      shape-left left = subst (λ (t : Tree). HasShape n.state.tree t) tree-after (subst (λ (t : Tree). HasShape t made.machine.state.tree) tree-before left)

      bytes-left : HasBytes x.machine.state.tree made.machine.state.tree → HasBytes n.state.tree (behind_turn w.f w.table slot n).state.tree
      bytes-left left = subst (λ (t : Tree). HasBytes n.state.tree t) tree-after (subst (λ (t : Tree). HasBytes t made.machine.state.tree) tree-before left)

      again-behind : w.fits to.watcher → (q : ℕ) → (q ≡ p.pid → ⊥) → OtherGoes q n x.machine to made.machine → Again q (step_by pick p.pid made x) n (after_put to)
      again-behind fits q other goes lives leaves unmet =
          let exec : Bool = calls_execve q n.state in
          let stays : w.Stays exec q n.state (behind_turn w.f w.table slot n).state =
          w.scene.stays.others exec q slot n st.other st.good st.tame good tame st.picked (λ e. other (e ∙ st.numbered)) lives (shape-left leaves.0) (λ holds. bytes-left (leaves.1 holds)) in
          w.scene.local.entry_lasts n.watcher to.watcher q n.state (cleared to.state) st.lags.fits_turns fits (goes.turns_left lives).part
          (subst (λ (t : Machine S). w.Stays exec q n.state (cleared t.state)) is stays) unmet

      pub turned-lags : to.tally ≡ made.machine.tally → w.fits to.watcher → w.fits made.machine.watcher → ((q : ℕ) → (q ≡ p.pid → ⊥) → OtherGoes q n x.machine to made.machine)
          → At p.pid (between_of p.pid made.paused) (step_by pick p.pid made x ∷ x.steps) (after_put to) (after_put made.machine) → LagsOf n (slot ∷ []) (noted pick p.pid made x)
      turned-lags tally fits fits_after others itself =
          let behind : Lags w.f w.asks w.l w.fits (after_put to) (after_bytes (noted pick p.pid made x)) = record {
            same = cleared-laid to.state made.machine.state same;
            tally = tally;
            each = each-lags (after_put to) (after_put made.machine) st.lags.fits_steps fits_after (λ q other. put-goes q n x.machine to made.machine (others q other)) (λ q other. again-behind fits q other (others q other)) itself;
            fits_turns = fits;
            fits_steps = fits_after;
          } in
          record {
            lags = subst (λ (t : Machine S). Lags w.f w.asks w.l w.fits (after_put t) (after_bytes (noted pick p.pid made x))) (sym is) behind;
            tame = tame;
            out = sym (ap (λ (u : State ℕ Layout). u.out) same) ∙ ap (λ (t : Machine S). t.state.out) (sym is) ∙ sym (append-nil (turn w.f 0 w.table pick fuel n).state.out);
            err = sym (ap (λ (u : State ℕ Layout). u.err) same) ∙ ap (λ (t : Machine S). t.state.err) (sym is) ∙ sym (append-nil (turn w.f 0 w.table pick fuel n).state.err);
          }
