-- What a turn with a tracer without an identity leaves of other processes, and of where processes stand.
use Rattle.std.specs.FinMap as map
use Rattle.std.proofs.Common.{◌≡◌, ◌≢◌, ◌≤◌, ℕ, Bool, true, false, cond, Option, Some, None, Result, Ok, Err, IsSome, refl, sym, ap, subst, ◌∙◌}
use Rattle.std.specs.Prelude.{◌==◌}
use Rattle.std.specs.Option.{option_and_then, option_map}
use Rattle.law_loose.specs.kr_turns.rv_cpu.Run.{ran}
use Rattle.law_loose.specs.kr_turns.rv_cpu.declared.event.Event.{Event}
use Rattle.law_loose.specs.kr_turns.rv_cpu.declared.event.Event.TheVariants.{Call, Killed, Next}
use Rattle.law_loose.specs.kr_core.rv_mem.Memory.{Memory}
use Rattle.law_loose.specs.kr_core.rv_mem.declared.regs.Regs.{Regs}
use Rattle.law_loose.specs.kr_core.kr_files.Files.{Table, file_at}
use Rattle.law_loose.specs.kr_view.View.{plain}
use Rattle.law_loose.specs.kr_model.Applied.{images, with_image}
use Rattle.law_loose.specs.kr_model.Change.{End}
use Rattle.law_loose.specs.kr_model.State.{Image, Process, State, at_pid, named, opened, process}
use Rattle.law_loose.specs.law_beside.law_allowed.Others.{LivesOn}
use Rattle.law_loose.specs.kr_stops.Stopped.{Stopped, computed, image_in}
use Rattle.law_loose.specs.kr_turns.Breaking.{no_mounts, nothing_reached, plain_rule}
use Rattle.law_loose.specs.kr_turns.PlainCall.{Came, plain_call, plain_reach}
use Rattle.law_loose.specs.kr_turns.Shelving.{lacks_in}
use Rattle.law_loose.specs.kr_turns.Steps.{picked_process}
use Rattle.law_loose.specs.kr_turns.Turn.{Machine, Tally, after_born, after_end as end_with, after_event, after_exit, by_pick, called, calling, killed, turn, turn_of, watched_call, with_broken}
use Rattle.law_loose.specs.kr_turns.declared.plain.CallEnd.{CallEnd}
use Rattle.law_loose.specs.kr_turns.declared.plain.CallEnd.TheVariants as end
use Rattle.law_loose.specs.law_beside.Opened.{NamesOpen, StandOnNodes}
use Rattle.law_loose.proofs.law_beside.NodeLemmas.{nodes_stay}
use Rattle.law_loose.proofs.law_beside.OpenLemmas.{others_stay_open}
use Rattle.law_loose.proofs.law_beside.kr_core.kr_turns.ApartLemmas.{call_leaves, computed_leaves}
use Rattle.law_loose.proofs.law_beside.kr_core.law_allowed.OthersLemmas.{lives_on, others_live, unchanged}
use Rattle.law_loose.proofs.law_beside.kr_core.law_lawful.ProcessChangeLemmas.{found}
use Rattle.law_entries.specs.Lasting.{open_of}
use Rattle.law_entries.specs.Traced.{TellsNoIdentity}
use Rattle.law_entries.specs.pt_tracer.pr_base.declared.errno.Errno.{Errno}
use Rattle.law_entries.specs.pt_tracer.pt_results.kr_calls.declared.request.Request.{Request}
use Rattle.law_entries.specs.pt_tracer.pt_faker.Stopping.{after_request, decoded_at, register_at}
use Rattle.law_entries.specs.pt_tracer.pt_ident.IdentityTable.{IdentityTable, after_birth, after_end}
use Rattle.law_entries.specs.pt_tracer.Watched.{Tracing, after_decoding, after_pending, begin_as, begin_program, by_identities, entered, give_back, gone, has_begun, remembered_in, returned, shown_to, tracer, without_pending}
use Rattle.law_entries.specs.pt_tracer.declared.pending.Pending.{Pending}
use Rattle.law_loosely.proofs.StopLemmas.{holds-entered, holds-exited}
use Rattle.law_loosely.proofs.UserLemmas.{user-called, user-killed}

-- ---- the watcher

-- no stop gives an identity
entry-call : (x : Tracing) (r : Request) (t : Stopped) (o : Option IdentityTable) → o ≡ None → TellsNoIdentity x → TellsNoIdentity (by_identities x r t o).0
entry-call x r t None e none = none
entry-call x r t (Some table) e none = absurd cc

entry-decoded : (x : Tracing) (t : Stopped) (d : Result Request Errno) → TellsNoIdentity x → TellsNoIdentity (after_decoding x t d).0
entry-decoded x t (Ok r) none = entry-call x r t x.identities none none
entry-decoded x t (Err e) none = none

entry-none : (x : Tracing) (t : Stopped) → TellsNoIdentity x → TellsNoIdentity (entered x t).0
entry-none x t none = entry-decoded x (after_request t) (decoded_at t).reply none

begins-none : (x : Tracing) (t : Stopped) (o : Option IdentityTable) → o ≡ None → TellsNoIdentity x → TellsNoIdentity (begin_as x t o).0
begins-none x t None e none = none
begins-none x t (Some table) e none = absurd cc

back-none : (x : Tracing) (p : Pending) (t : Stopped) → TellsNoIdentity x → TellsNoIdentity (give_back x p t).0
back-none x p t none = ap (λ (o : Option IdentityTable). remembered_in o p t.handed.target (register_at (shown_to x.user x.identities p (returned p t)) 10)) none

pending-none : (x : Tracing) (t : Stopped) (o : Option Pending) → TellsNoIdentity x → TellsNoIdentity (after_pending x t o).0
pending-none x t None none = none
pending-none x t (Some p) none = by (has_begun p t)
  where
    by : (b : Bool) → TellsNoIdentity (cond b (begin_program x p t) (give_back x p t)).0
    by true = begins-none _ t x.identities none none
    by false = back-none x p t none

exit-none : (t : Stopped) (x : Tracing) (tally : Tally) (o : Option (Process ℕ Image)) → TellsNoIdentity x → TellsNoIdentity (after_exit tracer t x tally o).watcher
exit-none t x tally None none = none
exit-none t x tally (Some p) none = pending-none (without_pending t.pid x) t (map.get x.pending t.pid) none

-- nor does a birth or an end
born-none : (pid : ℕ) (child : Option ℕ) (x : Tracing) → TellsNoIdentity x → TellsNoIdentity (after_born tracer pid child x)
born-none pid None x none = none
born-none pid (Some child) x none = ap (option_map (after_birth pid child)) none

gone-none : (x : Tracing) (pid : ℕ) → TellsNoIdentity x → TellsNoIdentity (gone x pid)
gone-none x pid none = ap (option_map (after_end pid)) none

end-none : (pid : ℕ) (e : CallEnd) (t : Stopped) (x : Tracing) (tally : Tally) → TellsNoIdentity x → TellsNoIdentity (end_with tracer pid e t x tally).watcher
end-none pid end.Answered t x tally none = exit-none t x tally (process pid t.state) none
end-none pid end.Replaced t x tally none = exit-none t x tally (process pid t.state) none
end-none pid end.Waits t x tally none = none
end-none pid (end.Ended told) t x tally none = gone-none x pid none

-- the first stop of a call, the call, and the tally behind it
abbrev entered-in : ℕ → Machine Tracing → Tracing × Stopped
entered-in pid m = entered m.watcher (calling 0 pid m.state)

abbrev came-in : ℕ → Machine Tracing → Came
came-in pid m = plain_call plain pid (entered-in pid m).1.state

abbrev tally-in : ℕ → Machine Tracing → Tally
tally-in pid m = with_broken (plain_rule 0 plain pid (lacks_in 0 pid m.state) (entered-in pid m).1.state) m.tally

event-none : (pid : ℕ) (e : Event) (m : Machine Tracing) → TellsNoIdentity m.watcher → TellsNoIdentity (after_event tracer 0 plain pid e m).watcher
event-none pid Next m none = none
event-none pid Call m none =
    end-none pid (came-in pid m).end (called pid (came-in pid m)) (after_born tracer pid (came-in pid m).child (entered-in pid m).0) (tally-in pid m)
    (born-none pid (came-in pid m).child (entered-in pid m).0 (entry-none m.watcher (calling 0 pid m.state) none))
event-none pid (Killed signal) m none = gone-none m.watcher pid none

-- ---- the state, as far as edits of the process that runs keep what holds of it

module _ (pid : ℕ) (K : State ℕ Image → Type 0) (closed : (regs : Regs) (memory : Memory) (s : State ℕ Image) → K s → K (computed pid regs memory s)) where
  exit-keeps : (t : Stopped) (x : Tracing) (tally : Tally) (o : Option (Process ℕ Image)) → t.pid ≡ pid → TellsNoIdentity x → K t.state → K (after_exit tracer t x tally o).state
  exit-keeps t x tally None at none holds = holds
  exit-keeps t x tally (Some p) at none holds = holds-exited pid K closed x none t at holds

  end-keeps : (e : CallEnd) (t : Stopped) (x : Tracing) (tally : Tally) → t.pid ≡ pid → TellsNoIdentity x → K t.state → K (end_with tracer pid e t x tally).state
  end-keeps end.Answered t x tally at none holds = exit-keeps t x tally (process pid t.state) at none holds
  end-keeps end.Replaced t x tally at none holds = exit-keeps t x tally (process pid t.state) at none holds
  end-keeps end.Waits t x tally at none holds = holds
  end-keeps (end.Ended told) t x tally at none holds = holds

  module _ (m : Machine Tracing) (none : TellsNoIdentity m.watcher) where
    before-call : K m.state → K (entered-in pid m).1.state
    before-call holds = holds-entered pid K closed m.watcher none (calling 0 pid m.state) refl (closed (image_in pid m.state).regs (image_in pid m.state).memory m.state holds)

    behind-call : K (came-in pid m).state → K (watched_call tracer 0 plain pid m).state
    behind-call holds =
        end-keeps (came-in pid m).end (called pid (came-in pid m)) (after_born tracer pid (came-in pid m).child (entered-in pid m).0) (tally-in pid m) refl
        (born-none pid (came-in pid m).child (entered-in pid m).0 (entry-none m.watcher (calling 0 pid m.state) none)) holds

-- ---- where processes stand

module _ (pid : ℕ) where
  nodes-computed : (regs : Regs) (memory : Memory) (s : State ℕ Image) → StandOnNodes s → StandOnNodes (computed pid regs memory s)
  nodes-computed regs memory s nodes = nodes_stay.computed pid regs memory s nodes

  nodes-event : (e : Event) (m : Machine Tracing) → TellsNoIdentity m.watcher → (e ≡ Call → (plain_reach plain pid (entered-in pid m).1.state nothing_reached).met_proc ≡ false) → StandOnNodes m.state
      → StandOnNodes (after_event tracer 0 plain pid e m).state
  nodes-event Next m none unmet nodes = nodes
  nodes-event Call m none unmet nodes =
      behind-call pid StandOnNodes nodes-computed m none (nodes_stay.call plain pid (entered-in pid m).1.state (unmet refl) (before-call pid StandOnNodes nodes-computed m none nodes))
  nodes-event (Killed signal) m none unmet nodes = nodes_stay.killed pid signal m.state nodes

-- ---- what descriptors name

-- the same files, named by the same descriptors
record NameSame (s t : State ℕ Image) : Type 0 where
  files : t.files ≡ s.files
  names : (pid fd : ℕ) → named pid fd t ≡ named pid fd s

named-computed : (pid q fd : ℕ) (regs : Regs) (memory : Memory) (s : State ℕ Image) → named q fd (computed pid regs memory s) ≡ named q fd s
named-computed pid q fd regs memory s =
    ap (option_and_then (λ (p : Process ℕ Image). map.get p.descs fd)) (found pid (with_image (λ (image : Image). record { regs = regs; memory = memory })) (λ p. refl) q s.living) ∙ by (process q s)
  where
    either : (b : Bool) (p : Process ℕ Image) → map.get (cond b (with_image (λ (image : Image). record { regs = regs; memory = memory }) p) p).descs fd ≡ map.get p.descs fd
    either true p = refl
    either false p = refl

    by : (o : Option (Process ℕ Image))
        → option_and_then (λ (p : Process ℕ Image). map.get p.descs fd) (option_map (at_pid pid (with_image (λ (image : Image). record { regs = regs; memory = memory }))) o)
        ≡ option_and_then (λ (p : Process ℕ Image). map.get p.descs fd) o
    by None = refl
    by (Some p) = either (p.pid == pid) p

name-computed : (pid : ℕ) (s : State ℕ Image) (regs : Regs) (memory : Memory) (t : State ℕ Image) → NameSame s t → NameSame s (computed pid regs memory t)
name-computed pid s regs memory t same = record { files = same.files; names = λ q fd. named-computed pid q fd regs memory t ∙ same.names q fd }

-- so what they name is open in one where it is in the other
names-open-before : (s t : State ℕ Image) → NameSame s t → NamesOpen t → NamesOpen s
names-open-before s t same open_there = record {
  there = λ pid fd x is. subst (λ (files : Table ℕ). IsSome (file_at files x.number)) same.files (open_there.there pid fd x (same.names pid fd ∙ is));
  given = λ n o is.
      let files : file_at t.files n ≡ file_at s.files n = ap (λ (files : Table ℕ). file_at files n) same.files in
      subst (λ (files : Table ℕ). n ≤ files.last_file) same.files (open_there.given n o (files ∙ is));
}

-- ---- another process

module _ (pid q : ℕ) (other : q ≢ pid) (s : State ℕ Image) where
  -- it lives on, the user is the same, and it has open what it had open, of what is open
  pub record StaysOn (t : State ℕ Image) : Type 0 where
    pub lives : LivesOn q s t
    pub user : t.user ≡ s.user
    pub opened : (fd : ℕ) → option_map open_of (opened q fd t) ≡ option_map open_of (opened q fd s)
    pub names : NamesOpen t

  open-again : (regs : Regs) (memory : Memory) (t : State ℕ Image) → NamesOpen t → NamesOpen (computed pid regs memory t)
  open-again regs memory t names = record {
    there = λ n fd x is. names.there n fd x (sym (named-computed pid n fd regs memory t) ∙ is);
    given = names.given;
  }

  stays-computed : (regs : Regs) (memory : Memory) (t : State ℕ Image) → StaysOn t → StaysOn (computed pid regs memory t)
  stays-computed regs memory t stays = record {
    lives = lives_on q s t (computed pid regs memory t) stays.lives (computed_leaves pid q other regs memory t);
    user = stays.user;
    opened = λ fd. ap (option_map open_of) (others_stay_open.computed pid q fd regs memory t) ∙ stays.opened fd;
    names = open-again regs memory t stays.names;
  }

  -- who lived lives
  lives-there : (t : State ℕ Image) → IsSome (process q s) → LivesOn q s t → IsSome (process q t)
  lives-there t some lives = by (process q s) refl some
    where
      by : (o : Option (Process ℕ Image)) → process q s ≡ o → IsSome o → IsSome (process q t)
      by None is some = absurd cc
      by (Some p) is some = let after = lives p is in subst (λ (o : Option (Process ℕ Image)). IsSome o) (sym after.1) refl

  module _ (some : IsSome (process q s)) where
    stays-killed : (signal : ℕ) (t : State ℕ Image) → NamesOpen (killed pid signal t) → StaysOn t → StaysOn (killed pid signal t)
    stays-killed signal t names stays = record {
      lives = lives_on q s t (killed pid signal t) stays.lives (others_live ℕ Image images no_mounts pid (End signal) t q other);
      user = user-killed pid signal t ∙ stays.user;
      opened = λ fd. others_stay_open.killed pid q fd signal t other (lives-there t some stays.lives) stays.names names ∙ stays.opened fd;
      names = names;
    }

    stays-called : (t : State ℕ Image) → NamesOpen (plain_call plain pid t).state → StaysOn t → StaysOn (plain_call plain pid t).state
    stays-called t names stays = record {
      lives = lives_on q s t (plain_call plain pid t).state stays.lives (call_leaves pid q other plain t);
      user = user-called plain pid t ∙ stays.user;
      opened = λ fd. others_stay_open.call plain pid q fd t other (lives-there t some stays.lives) stays.names names ∙ stays.opened fd;
      names = names;
    }

    stays-event : (e : Event) (m : Machine Tracing) → TellsNoIdentity m.watcher → NamesOpen (after_event tracer 0 plain pid e m).state → StaysOn m.state → StaysOn (after_event tracer 0 plain pid e m).state
    stays-event Next m none names stays = stays
    stays-event Call m none names stays =
        let came : State ℕ Image = (came-in pid m).state in
        let same : NameSame came (watched_call tracer 0 plain pid m).state = behind-call pid (λ (t : State ℕ Image). NameSame came t) (name-computed pid came) m none (record { files = refl; names = λ n fd. refl }) in
        let before : StaysOn (entered-in pid m).1.state = before-call pid StaysOn stays-computed m none stays in
        behind-call pid StaysOn stays-computed m none (stays-called (entered-in pid m).1.state (names-open-before came (watched_call tracer 0 plain pid m).state same names) before)
    stays-event (Killed signal) m none names stays = stays-killed signal m.state names stays

-- ---- a whole turn

-- where a process is picked it runs; else nothing changes
abbrev run-in : ℕ → Process ℕ Image → Machine Tracing → Machine Tracing
run-in fuel p m = record { state = computed p.pid (ran fuel p.image.regs p.image.memory).regs (ran fuel p.image.regs p.image.memory).memory m.state; watcher = m.watcher; tally = m.tally }

pub turn-none : (pick fuel : ℕ) (m : Machine Tracing) → TellsNoIdentity m.watcher → TellsNoIdentity (turn tracer 0 plain pick fuel m).watcher
turn-none pick fuel m none = by (picked_process m.state pick)
  where
    by : (o : Option (Process ℕ Image)) → TellsNoIdentity (by_pick tracer 0 plain fuel o m).watcher
    by None = none
    by (Some p) = event-none p.pid (ran fuel p.image.regs p.image.memory).event (run-in fuel p m) none

pub turn-nodes : (pick fuel : ℕ) (m : Machine Tracing) → TellsNoIdentity m.watcher
    → ((p : Process ℕ Image) → picked_process m.state pick ≡ Some p → (ran fuel p.image.regs p.image.memory).event ≡ Call
    → (plain_reach plain p.pid (entered-in p.pid (run-in fuel p m)).1.state nothing_reached).met_proc ≡ false)
    → StandOnNodes m.state → StandOnNodes (turn tracer 0 plain pick fuel m).state
turn-nodes pick fuel m none unmet nodes = by (picked_process m.state pick) refl
  where
    by : (o : Option (Process ℕ Image)) → picked_process m.state pick ≡ o → StandOnNodes (by_pick tracer 0 plain fuel o m).state
    by None is = nodes
    by (Some p) is =
        let end = ran fuel p.image.regs p.image.memory in
        nodes-event p.pid end.event (run-in fuel p m) none (unmet p is) (nodes_stay.computed p.pid end.regs end.memory m.state nodes)

-- what it leaves of another process than the one that runs, where what descriptors name is open before and behind it
pub turn-stays : (pick fuel : ℕ) (m : Machine Tracing) (p : Process ℕ Image) (q : ℕ) → TellsNoIdentity m.watcher → picked_process m.state pick ≡ Some p → (other : q ≢ p.pid) → IsSome (process q m.state)
    → NamesOpen m.state → NamesOpen (turn tracer 0 plain pick fuel m).state → StaysOn p.pid q other m.state (turn tracer 0 plain pick fuel m).state
turn-stays pick fuel m p q none picked other some names names_there =
    let end = ran fuel p.image.regs p.image.memory in
    let turned : Machine Tracing = turn tracer 0 plain pick fuel m in
    let comes : turned ≡ turn_of tracer 0 plain fuel p m = ap (λ (o : Option (Process ℕ Image)). by_pick tracer 0 plain fuel o m) picked in
    let here : StaysOn p.pid q other m.state m.state = record { lives = unchanged q m.state; user = refl; opened = λ fd. refl; names = names } in
    let begun : StaysOn p.pid q other m.state (run-in fuel p m).state = stays-computed p.pid q other m.state end.regs end.memory m.state here in
    subst (λ (n : Machine Tracing). StaysOn p.pid q other m.state n.state) (sym comes)
    (stays-event p.pid q other m.state some end.event (run-in fuel p m) none (subst (λ (n : Machine Tracing). NamesOpen n.state) comes names_there) begun)
