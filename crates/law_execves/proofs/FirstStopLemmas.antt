-- Both machines at the first stop of an execve.
use Rattle.std.proofs.Common.{◌≡◌, ℕ, Some, refl, sym, ap, subst, ◌∙◌, arith}
use Rattle.std.specs.Option.{option_map}
use Rattle.std.proofs.lemmas.Option.{same_Some}
use Rattle.law_programs.specs.rv_mem.Actions.{AreEqualUnmarked}
use Rattle.law_programs.specs.rv_mem.Layout.{layout_of}
use Rattle.law_programs.specs.rv_mem.Memory.{Memory}
use Rattle.law_programs.specs.rv_mem.declared.regs.Regs.{Regs}
use Rattle.law_stops.specs.pt_args.Bases.{working_text}
use Rattle.law_stops.specs.kr_view.Living.{Each, HasSmallNumbers}
use Rattle.law_stops.specs.kr_view.View.{plain}
use Rattle.law_programs.proofs.law_allowed.DecodedLemmas.{decoding-leaves-pages}
use Rattle.law_programs.proofs.law_allowed.RowLemmas.{StaysLike, lawful-image}
use Rattle.law_programs.proofs.law_allowed.RoomLemmas.{lasting-room}
use Rattle.law_stops.specs.kr_model.Bare.{bare_process, pins_of}
use Rattle.law_stops.specs.kr_model.ProcessDirectory.{living_of}
use Rattle.law_stops.specs.kr_model.State.{Image, Process, State, image_layout, process}
use Rattle.law_stops.proofs.kr_model.BareLemmas.{process-bare}
use Rattle.law_plans.proofs.kr_seen.StandingLemmas.{living-small}
use Rattle.law_stops.specs.kr_steps.Computing.{computed}
use Rattle.law_stops.specs.pt_faker.Stopping.{after_request, memory_at}
use Rattle.law_stops.specs.pt_tracer.Planning.{texts_at}
use Rattle.law_stops.specs.pt_tracer.Watched.{Tracing}
use Rattle.law_stops.specs.law_walks.Scene.{IsMatched}
use Rattle.law_stops.specs.law_walks.States.{scene_of}
use Rattle.law_stops.specs.law_walks.Alike.{AreEqualButForMounts}
use Rattle.law_stops.proofs.law_walks.OneMountLemmas.{lawful_states_are_in_one_mount}
use Rattle.law_stops.proofs.law_walks.BareStateLemmas.{peeks_are_bare}
use Rattle.law_stops.specs.kr_stops.Stopped.{nothing_handed}
use Rattle.law_stops.specs.kr_stops.declared.handed.Handed.{Handed}
use Rattle.law_plans.specs.law_places.Matching.{IsMatch}
use Rattle.law_plans.proofs.law_places.MatchLemmas.{matches_are_matched, tagged_places_are_placed}
use Rattle.law_stops.specs.law_turns.Calls.{decoded_by}
use Rattle.law_stops.specs.law_turns.Lasting.{CanBeCalled}
use Rattle.law_stops.proofs.law_turns.CalledLemmas.{decoded_lasts, decoded_lives, decoded_process}
use Rattle.law_stops.proofs.law_turns.ImageLemmas.{bare_computed, given}
use Rattle.law_stops.proofs.law_turns.MatchLemmas.{match_computed}
use Rattle.law_stops.specs.Scene.{Scene}
use Rattle.law_stops.proofs.AnsweredLemmas.{lives_changed}
use Rattle.law_stops.proofs.CallLemmas as before
use Rattle.law_stops.proofs.CallLemmas.{own_image}
use Rattle.law_programs.specs.Finding.{WorksAt, texts_here}
use Rattle.law_programs.specs.Refusing.{IsBegun}
use Rattle.law_programs.proofs.ShowLemmas.{states_are_shown_alike}
use Rattle.law_programs.proofs.WorkLemmas.{working_directories_are_known}
use Rattle.law_execves.proofs.GoLemmas as go
use Rattle.law_execves.proofs.ExecveLemmas.{ExecveCall, execve_of}
use Rattle.law_execves.specs.Beginning.{BeginsTogether, ExecvesBeginTogether}

module _ {S : Type 0} {scene : Scene S} (execve : ExecveCall scene) where
  open scene use {table, made, pid, traced as n}
  open execve use {callers}
  open execve.callers use {comes as c, also_caller as q, also_lives as also}

  abbrev x : Tracing
  x = n.watcher

  abbrev w : State ℕ Image
  w = n.state

  abbrev s1 : State ℕ Image
  s1 = go.s1 execve

  abbrev p1 : Process ℕ Image
  p1 = go.p1 execve

  abbrev pub at : State ℕ Image
  at = go.at execve

  pub mine : CanBeCalled table made pid s1 p1
  mine = go.mine execve

  memories : AreEqualUnmarked p1.image.memory.pages q.image.memory.pages
  memories = go.memories execve

  -- ---- the kernel with mounts behind decoding

  pages_here : (decoded_by p1).memory.pages ≡ p1.image.memory.pages
  pages_here = decoding-leaves-pages p1.image.regs p1.image.memory mine.holds

  abbrev other_at : State ℕ Image
  other_at = computed pid p1.image.regs (decoded_by q).memory w

  decoded_alike : AreEqualUnmarked (decoded_by p1).memory.pages (decoded_by q).memory.pages
  decoded_alike =
      subst (λ pages. AreEqualUnmarked pages (decoded_by q).memory.pages) (sym pages_here)
      (subst (AreEqualUnmarked p1.image.memory.pages) (sym (before.pages_left callers)) memories)

  stays : StaysLike p1.image.memory.pages (decoded_by p1).memory.pages
  stays =
      let own = mine.lasts.lawful.processes pid p1 mine.lives in
      subst (StaysLike p1.image.memory.pages) (sym pages_here) (record { whole = own.whole; placed = own.paged; layout = refl })

  other_layout : layout_of (decoded_by q).memory.pages ≡ image_layout q.image
  other_layout = ap layout_of (before.pages_left callers)

  match_at : IsMatch table x.tags at other_at
  match_at = match_computed table x.tags s1 w (before.match1 callers) pid p1 q mine.lives also p1.image.regs (decoded_by p1).memory (decoded_by q).memory decoded_alike stays other_layout

  abbrev pub p2 : Process ℕ Image
  p2 = decoded_process table made pid s1 p1 mine

  pub lives2 : process pid at ≡ Some p2
  lives2 = decoded_lives table made pid s1 p1 mine

  small : Each HasSmallNumbers (living_of at)
  small =
      let lasts = decoded_lasts table made pid s1 p1 mine in
      let few = (lasting-room ℕ Image made at c.few lasts.lawful.tree.sound lasts.lasts).pids in
      living-small at lasts.lawful.pids (λ pid fd x there. (lasts.lawful.descriptors pid fd x there).0) (omega (arith, few))

  pub matched : IsMatched (scene_of table at pid x.tags)
  matched = matches_are_matched table x.tags at other_at pid match_at small

  pub works : WorksAt table at pid x.tags p2.cwd (working_text (texts_here table at pid x.tags) pid)
  works =
      working_directories_are_known Image table at pid x.tags p2 matched small (tagged_places_are_placed table at x.tags match_at.placed match_at.tagged) lives2 (match_at.placed.lawful.processes pid p2 lives2).cwd.1

  -- ---- the plain kernel, whatever the tracer leaves

  first_like : StaysLike q.image.memory.pages (decoded_by q).memory.pages
  first_like =
      let own = c.also_lasts.lawful.processes pid q also in
      subst (StaysLike q.image.memory.pages) (sym (before.pages_left callers)) (record { whole = own.whole; placed = own.paged; layout = refl })

  module _ (regs : Regs) (memory : Memory) (like : StaysLike q.image.memory.pages memory.pages) where
    abbrev left : State ℕ Image
    left = computed pid regs memory w

    pub bares : AreEqualButForMounts (pins_of table) (pins_of plain) at left
    bares =
        let rise = c.also_lasts.lawful.pids.living in
        match_at.bares
        ∙ bare_computed pid p1.image.regs (decoded_by q).memory (pins_of plain) w.next_pid w q rise also other_layout
        ∙ sym (bare_computed pid regs memory (pins_of plain) w.next_pid w q rise also like.layout)

    pub texts : (handed : Handed) → texts_at x.bindings x.tags (record { state = left; pid = pid; handed = handed }) ≡ texts_here table at pid x.tags
    texts handed = λ i. record { bindings = c.traces.bindings i; peeked = sym (peeks_are_bare ℕ ℕ (pins_of table) (pins_of plain) at left pid bares) i; tags = x.tags }

    lives_left : process pid left ≡ Some (given pid regs memory q)
    lives_left = lives_changed pid (given pid regs memory) (λ p. refl) w q also

    same_cwd : (given pid regs memory q).cwd.host ≡ p2.cwd.host
    same_cwd =
        same_Some _ _
        (sym (ap (option_map (λ p. p.cwd.host)) (process-bare ℕ (pins_of plain) pid left) ∙ ap (λ o. option_map (λ p. p.cwd.host) (option_map (bare_process image_layout) o)) lives_left)
        ∙ sym (ap (λ b. option_map (λ p. p.cwd.host) (process pid b)) bares)
        ∙ ap (option_map (λ p. p.cwd.host)) (process-bare ℕ (pins_of table) pid at) ∙ ap (λ o. option_map (λ p. p.cwd.host) (option_map (bare_process image_layout) o)) lives2)

    pub begun : IsBegun table at left pid x.tags (working_text (texts_here table at pid x.tags) pid)
    begun = record {
      matched = matched;
      shown = states_are_shown_alike (pins_of table) (pins_of plain) at left pid bares
          (lawful_states_are_in_one_mount left (lawful-image (λ k. k) plain w c.also_lasts.lawful pid q also memory like (λ _. regs)));
      base = p2.cwd;
      at = ap (option_map (λ (p : Process ℕ Image). p.cwd)) lives2;
      works = works;
      other = (given pid regs memory q).cwd;
      also_at = ap (option_map (λ (p : Process ℕ Image). p.cwd)) lives_left;
      same = same_cwd;
    }

  begins : BeginsTogether scene
  begins = record {
    texts =
        ap (λ t. texts_at x.bindings x.tags (after_request t)) (go.calling_is execve)
        ∙ ap (texts_at x.bindings x.tags) (go.after_is execve)
        ∙ texts q.image.regs (decoded_by q).memory first_like nothing_handed
        ∙ ap (λ t. texts_here table t pid x.tags) (sym (go.at_is execve));
    begun = λ regs memory whole placed layout.
        let like : StaysLike q.image.memory.pages memory.pages = record {
          whole = whole;
          placed = placed;
          layout = layout ∙ ap (λ t. layout_of (memory_at t).pages) (go.calling_is execve) ∙ ap (λ (image : Image). layout_of image.memory.pages) (own_image pid w q also);
        }
        in
        subst (λ t. IsBegun table t (computed pid regs memory w) pid x.tags (working_text (texts_here table t pid x.tags) pid)) (sym (go.at_is execve)) (begun regs memory like);
  }

pub execves_begin_together : (S : Type 0) → ExecvesBeginTogether S
execves_begin_together S scene path args env comes decoded calm = begins (execve_of comes path args env decoded calm)
