-- The kernel that begins by a start in guest terms.
use Rattle.std.specs.FinMap as map
use Rattle.std.proofs.Common.{◌≡◌, ℕ, Bool, not, true, List, Option, sym, ap, ◌∙◌}
use Rattle.std.specs.Prelude.{Result, Ok, Err, IfOk}
use Rattle.pt_tracer.specs.pr_base.MountText.{MountText}
use Rattle.pt_tracer.specs.pr_base.declared.errno.Errno.{Errno}
use Rattle.pt_tracer.specs.kr_inode.declared.user.User.{User}
use Rattle.kr_core.specs.kr_tree.Tree.{Tree}
use Rattle.kr_core.specs.kr_view.declared.target.Reach.{Reach}
use Rattle.kr_core.specs.kr_view.declared.view.Plain.{Plain}
use Rattle.kr_core.specs.kr_model.State.{Image, State}
use Rattle.kr_core.specs.kr_model.Walks.{and_then}
use Rattle.kr_core.specs.kr_view.View.{plain}
use Rattle.kr_core.specs.kr_first.Starting.{start_of, start_reach}
use Rattle.kr_core.specs.kr_first.declared.starting.First.{First}
use Rattle.kr_core.specs.kr_first.declared.starting.StartFault.{StartFault}
use Rattle.kr_core.specs.kr_first.declared.starting.StartFault.TheVariants as fault
use Rattle.kr_core.specs.Runs.{Machine}
use Rattle.kr_core.specs.Kernel.{Starts}
use Rattle.pt_tracer.specs.pt_bind.Tags.{TagTable}
use Rattle.pt_tracer.specs.pt_canon.TextWalk.{TextSurroundings}
use Rattle.pt_tracer.specs.Keeping.{Keeping}
use Rattle.pt_tracer.specs.Watched.{Tracing, starting_tracing}
use Rattle.pt_first.specs.FirstPeeks.{first_peeked}
use Rattle.pt_first.specs.GuestStart.{IsBegunNoting, guest_start, noting, start_unmet, tagged}
use Rattle.pt_first.specs.declared.begun.Begun.{Begun}
use Rattle.pt_first.specs.pr_words.declared.launch.Launch.{Launch}
use Rattle.pr_start.specs.TracedBeginning.{BeginsTraced, TracedKernel, begun_as, begun_met, fresh, host_number, start_meets, texts_before, traced_beginning, traced_machine, tracing_of}

abbrev pub texts_found : List MountText → Tree → User → TagTable → TextSurroundings
texts_found bindings tree user tags = record { bindings = bindings; peeked = first_peeked tree user; tags = tags }

pub begins-from : (places : Plain) (tracer : Keeping) (reach : Reach) (answer : Result (State ℕ Image) Errno) (result : Result TracedKernel StartFault)
    → Starts {M = 0} host_number places tracer reach answer result → BeginsTraced (and_then answer (λ s. Ok (fresh tracer.tracing s))) result
begins-from places tracer reach answer (Ok k) starts =
    let b = starts.1 in
    let same : fresh tracer.tracing (traced_machine k).state ≡ traced_machine k = λ i. record {
      state = (traced_machine k).state;
      watcher = (sym b.stops_are i).tracing;
      tally = record { status = sym b.status i; broken = sym b.broken i };
    } in
    (ap (λ (a : Result (State ℕ Image) Errno). and_then a (λ s. Ok (fresh tracer.tracing s))) starts.0 ∙ ap (λ (m : Machine Tracing). Ok m) same, record { turns = b.turns; calls = b.calls; shape_changes = b.shape_changes; byte_changes = b.byte_changes; running = b.running; whole = b.whole })
begins-from places tracer reach answer (Err (fault.Err e)) starts = ap (λ (a : Result (State ℕ Image) Errno). and_then a (λ s. Ok (fresh tracer.tracing s))) starts
begins-from places tracer reach answer (Err fault.NoMemory) starts = tt

-- what the first process is told of the walks that found it is no part of what begins
pub begins-noting : (bindings : List MountText) (tree : Tree) (user : User) (ids : Option (ℕ × ℕ)) (launch : Launch) (input : List ℕ) (met : Bool) (b : Begun) (first : First) (tracing : Tracing) → guest_start (texts_before bindings tree user) launch ≡ Ok b → first ≡ noting met b.first
    → tracing ≡ tracing_of bindings tree user ids b → and_then (start_of plain tree user input first) (λ s. Ok (fresh tracing s)) ≡ traced_beginning bindings tree user ids launch input
begins-noting bindings tree user ids launch input met b first tracing answer is traced =
    (λ i. and_then (start_of plain tree user input (is i)) (λ s. Ok (fresh (traced i) s))) ∙ ap (λ r. and_then r (begun_as bindings tree user ids input)) (sym answer)

-- the tracer has the tags of what begins, by bindings that are the texts of the table
pub traced-begins : (found bindings : List MountText) (tree : Tree) (user : User) (old new : TagTable) (ids : Option (ℕ × ℕ)) (launch : Launch) (input : List ℕ) (met : Bool) (first : First) (tracing : Tracing) → found ≡ bindings → old ≡ map.empty
    → IsBegunNoting met (guest_start (texts_found found tree user old) launch) old new (Ok first) → tracing ≡ starting_tracing found new user ids
    → and_then (start_of plain tree user input first) (λ s. Ok (fresh tracing s)) ≡ traced_beginning bindings tree user ids launch input
traced-begins found bindings tree user old new ids launch input met first tracing same none begun traced =
    let b = begun.0 in
    let before : texts_found found tree user old ≡ texts_before bindings tree user = λ i. record { bindings = same i; peeked = first_peeked tree user; tags = none i } in
    begins-noting bindings tree user ids launch input met b first tracing (ap (λ (t : TextSurroundings). guest_start t launch) (sym before) ∙ begun.1) begun.2
    (traced ∙ (λ i. starting_tracing (same i) (begun.3 i) user ids) ∙ (λ i. starting_tracing bindings (tagged (none i) b) user ids))

-- whether its walks met the process directory is told by the kernel that begins
pub start-meets : (found bindings : List MountText) (tree : Tree) (user : User) (old new : TagTable) (launch : Launch) (first : First) (places : Plain) (tracer : Keeping) (answer : Result (State ℕ Image) Errno) (result : Result TracedKernel StartFault)
    → found ≡ bindings → old ≡ map.empty
    → (let texts = texts_found found tree user old in IsBegunNoting (not (start_unmet texts launch true)) (guest_start texts launch) old new (Ok first))
    → Starts {M = 0} host_number places tracer (start_reach plain tree user first) answer result → IfOk result (λ kernel. kernel.met ≡ start_meets bindings tree user launch)
start-meets found bindings tree user old new launch first places tracer answer (Ok k) same none begun starts =
    let texts = texts_found found tree user old in
    let before : texts ≡ texts_before bindings tree user = λ i. record { bindings = same i; peeked = first_peeked tree user; tags = none i } in
    let met : TextSurroundings → Bool = λ t. not (start_unmet t launch true) in
    starts.1.met
    ∙ ap (λ (f : First). (start_reach plain tree user f).met_proc) begun.2
    ∙ ap (λ (r : Result Begun Errno). begun_met tree user (met texts) r) (sym begun.1)
    ∙ ap (λ (t : TextSurroundings). begun_met tree user (met t) (guest_start t launch)) before
start-meets found bindings tree user old new launch first places tracer answer (Err e) same none begun starts = tt
