-- A call without a path, or one that isn't decoded, with its stops on both machines.
use Rattle.std.specs.FinMap as map
use Rattle.std.proofs.Common.{◌≡◌, ◌≢◌, ◌<◌, ℕ, zero, suc, Bool, true, false, cond, List, Option, Some, None, Ok, Err, refl, sym, ap, subst, ◌∙◌, ℤ, arith}
use Rattle.std.specs.Prelude.{get_or, nat_eq}
use Rattle.std.specs.Int.{cast_signed, cast_unsigned, w64}
use Rattle.std.proofs.lemmas.Bool.Decides.{nat_tests}
use Rattle.std.specs.Option.{option_map, option_map_or}
use Rattle.std.proofs.lemmas.Option.{same_Some}
use Rattle.law_turns.proofs.pr_base.MapLemmas.{get-insert_same, get-remove_same}
use Rattle.law_turns.specs.pr_base.declared.errno.Errno.{Errno}
use Rattle.law_edits.specs.rv_mem.Actions.{AreEqualUnmarked, carried_out}
use Rattle.law_edits.specs.rv_mem.Layout.{layout_of}
use Rattle.law_edits.specs.rv_mem.Memory.{Memory}
use Rattle.law_edits.specs.rv_mem.Pages.{HoldsBytes}
use Rattle.law_edits.specs.rv_mem.declared.regs.Regs.{Regs}
use Rattle.law_turns.proofs.rv_mem.AddressLemmas.{byte_at-marked}
use Rattle.law_edits.specs.pt_bind.Tags.{TagTable, dropped}
use Rattle.law_edits.specs.pt_ident.IdentityTable.{after_birth, after_end as forgets}
use Rattle.law_turns.specs.pt_results.Notes.{noted, tags_after}
use Rattle.law_edits.specs.kr_view.View.{Row, plain}
use Rattle.law_turns.specs.kr_calls.Arguments.{number}
use Rattle.law_turns.specs.kr_calls.Decoding.{Decoded, decoding}
use Rattle.law_turns.specs.kr_calls.declared.request.Request.{Request}
use Rattle.law_turns.specs.kr_calls.declared.request.Request.TheVariants as call
use Rattle.law_edits.specs.kr_model.Known.{Known, known}
use Rattle.law_edits.specs.kr_model.Operation.{operation}
use Rattle.law_edits.specs.kr_model.Reply.{Reply}
use Rattle.law_edits.specs.kr_model.Seen.{Seen, NoPath}
use Rattle.law_edits.specs.kr_model.State.{Image, Process, State, image_layout, process, with_process}
use Rattle.law_edits.specs.kr_model.Walks.{seen, targets_of}
use Rattle.law_edits.specs.kr_model.declared.outcome.Outcome.{Outcome}
use Rattle.law_edits.specs.kr_model.declared.outcome.Outcome.TheVariants.{Answer, Wait, Ended, NoMemory}
use Rattle.law_turns.specs.law_allowed.Told.{SourcesAreNamed, mounts_walked}
use Rattle.law_turns.proofs.law_allowed.DecodedLemmas.{decoding-leaves-pages}
use Rattle.law_turns.proofs.law_allowed.RowLemmas.{StaysLike}
use Rattle.law_turns.specs.kr_seen.Carrying.{memory_of}
use Rattle.law_turns.specs.kr_calm.Shelf.{has_path, is_usable, shelf_size, shelf_start, shelved_by, stack_pointer, with_shelf_marked}
use Rattle.law_turns.specs.kr_steps.Answering.{with_answer}
use Rattle.law_turns.specs.kr_steps.Calls.{LastsLawful}
use Rattle.law_turns.specs.kr_steps.Computing.{computed}
use Rattle.law_turns.specs.kr_turns.Breaking.{plain_rule}
use Rattle.law_turns.specs.kr_turns.PlainCall.{Came, child_of, end_of, operated, plain_call, refusal_told, status_told}
use Rattle.law_turns.specs.kr_turns.Shelving.{lacks_in, shelved_in}
use Rattle.law_turns.specs.kr_stops.Stopped.{Stopped, image_in, no_image, nothing_handed}
use Rattle.law_turns.specs.kr_turns.Turn.{Machine, Tally, after_born, after_end, after_exit, after_plain, called, calling, with_broken}
use Rattle.law_turns.specs.kr_stops.Watching.{Watcher, unwatched}
use Rattle.law_turns.specs.kr_turns.declared.plain.CallEnd.{CallEnd}
use Rattle.law_turns.specs.kr_turns.declared.plain.CallEnd.TheVariants as end
use Rattle.law_turns.proofs.kr_stops.EditLemmas.{there}
use Rattle.law_turns.proofs.kr_turns.PlainLemmas.{no-exec-requested}
use Rattle.law_edits.specs.pt_faker.Stopping.{after_request, decoded_at}
use Rattle.law_edits.specs.pt_tracer.Planning.{nowhere}
use Rattle.law_edits.specs.pt_tracer.Registers.{arguments_at}
use Rattle.law_edits.specs.pt_tracer.Watched.{Tracing, after_decoding, after_pending, answer_at, awaiting, entered, exited, tracer, with_pending, with_tags, without_pending}
use Rattle.law_edits.specs.pt_tracer.declared.pending.Pending.{Pending}
use Rattle.law_edits.specs.pt_tracer.declared.registers.Arguments.{Arguments}
use Rattle.law_turns.specs.law_places.Matching.{IsMatch}
use Rattle.law_turns.specs.Calls.{CameAlike, decoded_by, decoded_in, tags_behind}
use Rattle.law_turns.specs.Lasting.{CanBeCalled}
use Rattle.law_turns.specs.Changing.{all_tags_made}
use Rattle.law_turns.specs.Operating.{done_in, written_in}
use Rattle.law_turns.specs.Pathless.{IsPathless}
use Rattle.law_turns.specs.Registers.{registers_in, told_by}
use Rattle.law_turns.proofs.CallLemmas.{by_request, refused_calls_come_alike}
use Rattle.law_turns.proofs.CalledLemmas.{calls_last, decoded_holds, decoded_lasts, decoded_lives, decoded_process, lasts_living, lives_computed, refused_calls_last}
use Rattle.law_turns.proofs.ComeLemmas.{after_end_broken}
use Rattle.law_turns.proofs.ImageLemmas.{given}
use Rattle.law_turns.proofs.MatchLemmas.{match_computed}
use Rattle.law_turns.proofs.PathlessLemmas.{known_written, no_exec, no_targets, pathless_calls_come_alike, pathless_leave, told_none, written_tagged}
use Rattle.law_turns.proofs.QuietLemmas.{kept_none}
use Rattle.law_turns.proofs.RegisterLemmas.{calls_keep_registers}
use Rattle.law_turns.proofs.RunLemmas.{decoded_alike, shelves_keep_matches}
use Rattle.law_turns.proofs.UnreadLemmas.{calm_unread}
use Rattle.law_stops.specs.Noting.{tags_told, told_answer, with_child}
use Rattle.law_stops.specs.Scene.{IsCalm, Scene, mounted_after, traced_after}
use Rattle.law_stops.specs.Turning.{ComeFromCall, HasNoPath, PathlessCallsGoTogether, StayTogether, Traces}
use Rattle.law_stops.proofs.CallerLemmas.{Callers, callers_of}
use Rattle.law_stops.proofs.NoteLemmas.{notes_follow}
use Rattle.law_stops.proofs.PassLemmas.{begins_none, entries_pass, exits_pass}
use Rattle.law_stops.proofs.RegisterLemmas.{put_beside, put_there}

-- the host's own view names no source but its root
pub plain_named : SourcesAreNamed plain
plain_named zero e is = absurd cc
plain_named (suc k) e is = absurd cc

-- ---- a state and a process of it

module _ (pid : ℕ) (s : State ℕ Image) (p : Process ℕ Image) (lives : process pid s ≡ Some p) where
  pub own_image : image_in pid s ≡ p.image
  own_image = ap (λ o. option_map_or (λ (p : Process ℕ Image). p.image) o no_image) lives

-- ---- the tracer as a child is born

module _ (pid : ℕ) (x : Tracing) where
  pub born_tags : (o : Option ℕ) → (after_born tracer pid o x).tags ≡ with_child pid o x.tags
  born_tags None = refl
  born_tags (Some child) = refl

  pub born_bindings : (o : Option ℕ) → (after_born tracer pid o x).bindings ≡ x.bindings
  born_bindings None = refl
  born_bindings (Some child) = refl

  pub born_pending : (o : Option ℕ) → (after_born tracer pid o x).pending ≡ x.pending
  born_pending None = refl
  born_pending (Some child) = refl

  pub born_identities : (o : Option ℕ) → x.identities ≡ None → (after_born tracer pid o x).identities ≡ None
  born_identities None none = none
  born_identities (Some child) none = ap (λ i. option_map (after_birth pid child) i) none

-- one that waits, or whose caller ended, makes no child
waits_alone : (next : ℕ) (r : Request) → child_of next r Wait ≡ None
waits_alone next (call.Clone flags sp ctid) = refl
waits_alone next _ = refl

ends_alone : (next : ℕ) (r : Request) → child_of next r Ended ≡ None
ends_alone next (call.Clone flags sp ctid) = refl
ends_alone next _ = refl

lost_alone : (next : ℕ) (r : Request) → child_of next r NoMemory ≡ None
lost_alone next (call.Clone flags sp ctid) = refl
lost_alone next _ = refl

-- ---- what a call leaves of a machine, whoever watches

-- the status of the process that ended last
abbrev pub status_after : CallEnd → ℕ → ℕ
status_after (end.Ended told) status = told
status_after _ status = status

module _ {T : Type 0} (watcher : Watcher T) (pid : ℕ) where
  pub exit_status : (t : Stopped) (x : T) (tally : Tally) (o : Option (Process ℕ Image)) → (after_exit watcher t x tally o).tally.status ≡ tally.status
  exit_status t x tally None = refl
  exit_status t x tally (Some p) = refl

  pub end_status : (e : CallEnd) (t : Stopped) (x : T) (tally : Tally) → (after_end watcher pid e t x tally).tally.status ≡ status_after e tally.status
  end_status end.Answered t x tally = exit_status t x tally (process pid t.state)
  end_status end.Replaced t x tally = exit_status t x tally (process pid t.state)
  end_status end.Waits t x tally = refl
  end_status (end.Ended told) t x tally = refl

module _ {T : Type 0} (pid : ℕ) where
  pub unwatched_exit : (t : Stopped) (x : T) (tally : Tally) (o : Option (Process ℕ Image)) → (after_exit unwatched t x tally o).state ≡ t.state
  unwatched_exit t x tally None = refl
  unwatched_exit t x tally (Some p) = refl

  pub unwatched_end : (e : CallEnd) (t : Stopped) (x : T) (tally : Tally) → (after_end unwatched pid e t x tally).state ≡ t.state
  unwatched_end end.Answered t x tally = unwatched_exit t x tally (process pid t.state)
  unwatched_end end.Replaced t x tally = unwatched_exit t x tally (process pid t.state)
  unwatched_end end.Waits t x tally = refl
  unwatched_end (end.Ended told) t x tally = refl

-- what the tracer leaves of a state as it is, with these tags
pub record IsLeft (table : List Row) (state : State ℕ Image) (tags : TagTable) (n : Machine Tracing) : Type 0 where
  pub states : n.state ≡ state
  pub tags_are : n.watcher.tags ≡ tags
  pub traces : Traces table n.watcher

-- both machines behind a call, by what the call came to on both
module _ {S : Type 0} (table : List Row) (made pid : ℕ) (came came2 : Came) (x : S) (y : Tracing) (one other : Tally) (tags : TagTable) where
  pub come_from : one.status ≡ other.status → IsLeft table came2.state tags (after_plain tracer pid came2 y other) → CameAlike table tags came came2 → LastsLawful (λ k. k) table (suc made) came.state → LastsLawful (λ k. k) plain (suc made) came2.state
      → ComeFromCall table made (after_plain unwatched pid came x one) (after_plain tracer pid came2 y other)
  come_from statuses left alike lasts also_lasts =
      let mine : (after_plain unwatched pid came x one).state ≡ came.state = unwatched_end pid came.end (called pid came) (after_born unwatched pid came.child x) one in
      record {
        matches = record {
          states = subst (λ t. IsMatch table (after_plain tracer pid came2 y other).watcher.tags t (after_plain tracer pid came2 y other).state) (sym mine)
              (subst (IsMatch table (after_plain tracer pid came2 y other).watcher.tags came.state) (sym left.states) (subst (λ tags. IsMatch table tags came.state came2.state) (sym left.tags_are) alike.states));
          statuses =
              end_status unwatched pid came.end (called pid came) (after_born unwatched pid came.child x) one
              ∙ ap (status_after came.end) statuses ∙ ap (λ e. status_after e other.status) alike.ends
              ∙ sym (end_status tracer pid came2.end (called pid came2) (after_born tracer pid came2.child y) other);
        };
        lasts = subst (LastsLawful (λ k. k) table (suc made)) (sym mine) lasts;
        also_lasts = subst (LastsLawful (λ k. k) plain (suc made)) (sym left.states) also_lasts;
        traces = left.traces;
      }

-- ---- up to the kernels' own calls

module _ {S : Type 0} {scene : Scene S} (callers : Callers scene) where
  open scene use {table, made, pid, mounted as m, traced as n}
  open callers use {comes as c, caller as p, also_caller as q, lives, also_lives as also}

  abbrev pub s : State ℕ Image
  s = m.state

  abbrev pub w : State ℕ Image
  w = n.state

  abbrev pub x : Tracing
  x = n.watcher

  -- with mounts the shelf is marked
  abbrev pub marks : Memory
  marks = shelved_by 1 p.image.regs p.image.memory

  abbrev pub p1 : Process ℕ Image
  p1 = given pid p.image.regs marks p

  abbrev pub s1 : State ℕ Image
  s1 = computed pid p.image.regs marks s

  pub shelf : shelved_in 1 pid s ≡ s1
  shelf = ap (λ (image : Image). computed pid image.regs (shelved_by 1 image.regs image.memory) s) (own_image pid s p lives)

  pub lives1 : process pid s1 ≡ Some p1
  lives1 = lives_computed pid p.image.regs marks s p lives

  -- without them nothing is
  pub no_shelf : shelved_in 0 pid w ≡ w
  no_shelf = ap (λ (t : Stopped). t.state) (there w pid nothing_handed q c.also_lasts.lawful.pids also).one

  pub match1 : IsMatch table x.tags s1 w
  match1 = subst (λ t. IsMatch table x.tags t w) shelf (subst (IsMatch table x.tags (shelved_in 1 pid s)) no_shelf (shelves_keep_matches table x.tags pid s w p c.matches.states lives))

  marked_bytes : HoldsBytes marks.pages
  marked_bytes = by (has_path (number p.image.regs)) (is_usable (stack_pointer p.image.regs) p.image.memory.pages)
    where
      by : (a b : Bool) → HoldsBytes (cond a (cond b (with_shelf_marked (stack_pointer p.image.regs) p.image.memory) p.image.memory) p.image.memory).pages
      by true true = λ a. subst (λ b. b < 256) (sym (byte_at-marked p.image.memory.pages (shelf_start (stack_pointer p.image.regs)) shelf_size a)) ((c.sized pid p lives).bytes a)
      by true false = (c.sized pid p lives).bytes
      by false b = (c.sized pid p lives).bytes

  pub can : CanBeCalled table made pid s1 p1
  can = record {
    lives = lives1;
    lasts = record { lawful = match1.placed.lawful; lasts = lasts_living made (with_process pid (given pid p.image.regs marks)) s c.lasts.lasts };
    few = c.few;
    holds = marked_bytes;
    named = c.named;
  }

  pub can_too : CanBeCalled plain made pid w q
  can_too = record { lives = also; lasts = c.also_lasts; few = c.few; holds = (c.also_sized pid q also).bytes; named = plain_named }

  -- ---- the tracer's own decoding leaves the match

  abbrev pub w2 : State ℕ Image
  w2 = decoded_in pid q w

  abbrev pub q2 : Process ℕ Image
  q2 = decoded_process plain made pid w q can_too

  pub can_then : CanBeCalled plain made pid w2 q2
  can_then = record { lives = decoded_lives plain made pid w q can_too; lasts = decoded_lasts plain made pid w q can_too; few = c.few; holds = decoded_holds plain made pid w q can_too; named = plain_named }

  pub pages_left : (decoded_by q).memory.pages ≡ q.image.memory.pages
  pages_left = decoding-leaves-pages q.image.regs q.image.memory can_too.holds

  pub same_regs : p1.image.regs ≡ q.image.regs
  same_regs = same_Some _ _ (sym (ap (option_map (λ p. p.image.regs)) lives1) ∙ match1.images.registers pid ∙ ap (option_map (λ p. p.image.regs)) also)

  stays_itself : StaysLike p1.image.memory.pages p1.image.memory.pages
  stays_itself = let own = match1.placed.lawful.processes pid p1 lives1 in record { whole = own.whole; placed = own.paged; layout = refl }

  pub itself : computed pid p1.image.regs p1.image.memory s1 ≡ s1
  itself = ap (λ (image : Image). computed pid image.regs image.memory s1) (sym (own_image pid s1 p1 lives1)) ∙ ap (λ (t : Stopped). t.state) (there s1 pid nothing_handed p1 match1.placed.lawful.pids lives1).one

  pub match2 : IsMatch table x.tags s1 w2
  match2 =
      let alike = subst (AreEqualUnmarked p1.image.memory.pages) (sym pages_left) (match1.images.memories pid p1 q lives1 also) in
      let both = match_computed table x.tags s1 w match1 pid p1 q lives1 also p1.image.regs p1.image.memory (decoded_by q).memory alike stays_itself (ap layout_of pages_left) in
      subst (λ (regs : Regs). IsMatch table x.tags s1 (computed pid regs (decoded_by q).memory w)) same_regs (subst (λ t. IsMatch table x.tags t (computed pid p1.image.regs (decoded_by q).memory w)) itself both)

  -- ---- the first stop

  abbrev pub stop : Stopped
  stop = record { state = w; pid = pid; handed = nothing_handed }

  abbrev pub then_stop : Stopped
  then_stop = record { state = w2; pid = pid; handed = nothing_handed }

  pub calling_is : calling 0 pid w ≡ stop
  calling_is = ap (λ t. record { state = t; pid = pid; handed = nothing_handed }) no_shelf

  pub decoded_there : (decoded_at stop).reply ≡ (decoded_by q).reply
  decoded_there = ap (λ (image : Image). (carried_out (decoding image.regs) image.memory).reply) (own_image pid w q also)

  pub after_there : after_request stop ≡ then_stop
  after_there = ap (λ (image : Image). record { state = computed pid image.regs (carried_out (decoding image.regs) image.memory).memory w; pid = pid; handed = nothing_handed }) (own_image pid w q also)

  -- what the mounted machine decodes behind its shelf
  pub decoded_here : (decoded_at (calling 1 pid s)).reply ≡ (decoded_by p1).reply
  decoded_here =
      ap (λ t. (decoded_at (record { state = t; pid = pid; handed = nothing_handed })).reply) shelf
      ∙ ap (λ (image : Image). (carried_out (decoding image.regs) image.memory).reply) (own_image pid s1 p1 lives1)

  pub at_call_is : (after_request (calling 1 pid s)).state ≡ decoded_in pid p1 s1
  at_call_is =
      ap (λ t. (after_request (record { state = t; pid = pid; handed = nothing_handed })).state) shelf
      ∙ ap (λ (image : Image). computed pid image.regs (carried_out (decoding image.regs) image.memory).memory s1) (own_image pid s1 p1 lives1)

  -- ---- what the watchers make of it

  abbrev pub lacks : Bool
  lacks = lacks_in 1 pid s

  abbrev pub judged : Tally
  judged = with_broken (plain_rule 1 table pid lacks s1) m.tally

  pub mounted_call : mounted_after scene ≡ after_plain unwatched pid (plain_call table pid s1) m.watcher judged
  mounted_call = ap (λ t. after_plain unwatched pid (plain_call table pid t) m.watcher (with_broken (plain_rule 1 table pid lacks t) m.tally)) shelf

  abbrev pub unjudged : Stopped → Tally
  unjudged t = with_broken (plain_rule 0 plain pid (lacks_in 0 pid w) t.state) n.tally

  abbrev pub behind_entry : Tracing × Stopped → Machine Tracing
  behind_entry e = after_plain tracer pid (plain_call plain pid e.1.state) e.0 (unjudged e.1)

  pub traced_call : (y : Tracing) (t : Stopped) → entered x stop ≡ (y, t) → traced_after scene ≡ behind_entry (y, t)
  traced_call y t is = ap (λ (u : Stopped). behind_entry (entered x u)) calling_is ∙ ap behind_entry is

  module _ (calm : IsCalm scene) where
    pub calm_call : plain_rule 1 table pid lacks s1 ≡ None
    calm_call =
        let came = plain_call table pid s1 in
        kept_none m.tally.broken (plain_rule 1 table pid lacks s1)
        (sym (after_end_broken unwatched table pid came.end (called pid came) (after_born unwatched pid came.child m.watcher) judged) ∙ sym (ap (λ (x : Machine S). x.tally.broken) mounted_call) ∙ calm)

    pub unread : (decoded_by p1).memory.read_marked ≡ false
    unread = calm_unread table pid lacks s1 p1 lives1 calm_call

    pub requests : (decoded_by p1).reply ≡ (decoded_by q).reply
    requests = (decoded_alike table x.tags pid s1 w p1 q match1 lives1 also unread).requests

    pub requests_then : (decoded_by p1).reply ≡ (decoded_by q2).reply
    requests_then = (decoded_alike table x.tags pid s1 w2 p1 q2 match2 lives1 can_then.lives unread).requests

    -- ---- a call that isn't decoded

    module _ (e : Errno) (is : (decoded_by p1).reply ≡ Err e) where
      abbrev y : Tracing
      y = without_pending pid x

      entered_refused : entered x stop ≡ (y, then_stop)
      entered_refused = ap (after_decoding x (after_request stop)) (decoded_there ∙ sym requests ∙ is) ∙ ap (λ (t : Stopped). (y, t)) after_there

      alike_refused : CameAlike table x.tags (plain_call table pid s1) (plain_call plain pid w2)
      alike_refused = refused_calls_come_alike table pid s1 w2 p1 q2 x.tags e (record { matches = match2; lives = lives1; also = can_then.lives; unread = unread }) is

      -- nothing is kept for the second stop
      left_refused : (t : Stopped) (tally : Tally) (o : Option (Process ℕ Image)) → t.pid ≡ pid → IsLeft table t.state x.tags (after_exit tracer t y tally o)
      left_refused t tally None own = record { states = refl; tags_are = refl; traces = record { bindings = c.traces.bindings; identities = c.traces.identities } }
      left_refused t tally (Some r) own =
          subst (λ (e : Tracing × Stopped). IsLeft table t.state x.tags (record { state = e.1.state; watcher = e.0; tally = tally })) (sym exits)
          (record { states = refl; tags_are = refl; traces = record { bindings = c.traces.bindings; identities = c.traces.identities } })
        where
          exits : exited y t ≡ (without_pending t.pid y, t)
          exits = ap (after_pending (without_pending t.pid y) t) (ap (map.get y.pending) own ∙ get-remove_same x.pending pid)

      refused_together : StayTogether scene
      refused_together =
          let came = refusal_told pid e (decoded_in pid p1 s1) in
          let came2 = refusal_told pid e (decoded_in pid q2 w2) in
          let one : plain_call table pid s1 ≡ came = by_request table pid table s1 p1 (Err e) lives1 is in
          let other : plain_call plain pid w2 ≡ came2 = by_request table pid plain w2 q2 (Err e) can_then.lives (sym requests_then ∙ is) in
          subst (λ x. ComeFromCall table made x (traced_after scene)) (sym (mounted_call ∙ ap (λ came. after_plain unwatched pid came m.watcher judged) one))
          (subst (ComeFromCall table made (after_plain unwatched pid came m.watcher judged)) (sym (traced_call y then_stop entered_refused ∙ ap (λ came. after_plain tracer pid came y (unjudged then_stop)) other))
          (come_from table made pid came came2 m.watcher y judged (unjudged then_stop) x.tags c.matches.statuses (left_refused (called pid came2) (unjudged then_stop) (process pid came2.state) refl)
          (subst (CameAlike table x.tags came) other (subst (λ came. CameAlike table x.tags came (plain_call plain pid w2)) one alike_refused))
          (subst (λ (came : Came). LastsLawful (λ k. k) table (suc made) came.state) one (refused_calls_last table made pid s1 p1 e can is))
          (subst (λ (came : Came). LastsLawful (λ k. k) plain (suc made) came.state) other (refused_calls_last plain made pid w2 q2 e can_then (sym requests_then ∙ is)))))

    -- ---- a call without a path

    module _ (r : Request) (is : (decoded_by p1).reply ≡ Ok r) (kind : IsPathless r) where
      abbrev pending : Pending
      pending = awaiting (arguments_at then_stop) r nowhere None

      abbrev z : Tracing
      z = with_pending (map.insert x.pending pid pending) x

      entered_pathless : entered x stop ≡ (z, then_stop)
      entered_pathless =
          entries_pass x stop r c.traces.identities (decoded_there ∙ sym requests ∙ is) kind
          ∙ ap (λ (t : Stopped). (with_pending (map.insert x.pending pid (awaiting (arguments_at t) r nowhere None)) x, t)) after_there

      abbrev at : State ℕ Image
      at = decoded_in pid p1 s1

      abbrev told : Seen
      told = seen table pid at r

      abbrev reply : Reply
      reply = (done_in pid r told at).reply

      abbrev came : Came
      came = plain_call table pid s1

      abbrev came2 : Came
      came2 = plain_call plain pid w2

      came_is : came ≡ operated table pid r at
      came_is = by_request table pid table s1 p1 (Ok r) lives1 is ∙ sym (no-exec-requested table pid at r (no_exec r kind))

      alike : CameAlike table (tags_behind table pid s1 w2 p1 q2 x.tags r) came came2
      alike = pathless_calls_come_alike table made pid lacks s1 w2 p1 q2 x.tags r match2 can can_then is kind calm_call

      -- the tags behind its changes are those that are told
      tags_are : tags_behind table pid s1 w2 p1 q2 x.tags r ≡ tags_told pid at.next_pid r reply.outcome x.tags
      tags_are =
          let mounts = mounts_walked (targets_of table pid at r) in
          let written = written_in pid r told at in
          let memory = memory_of pid at in
          let none = no_targets table pid at r kind in
          let follow =
          notes_follow table mounts pid written x.tags r memory kind (ap (λ t. (mounts_walked t).found) none) (ap (λ t. (mounts_walked t).directory) none)
          (written_tagged table made pid lacks s1 w2 p1 q2 x.tags r match2 can can_then is kind calm_call) in
          subst (λ (seen : Seen). (let reply = (carried_out (operation pid r seen (known image_layout pid at)) memory).reply in all_tags_made table mounts pid written reply.changes x.tags ≡ tags_told pid at.next_pid r reply.outcome x.tags))
          (sym (told_none table pid at r kind))
          (subst (λ (k : Known). (let reply = (carried_out (operation pid r NoPath k) memory).reply in all_tags_made table mounts pid written reply.changes x.tags ≡ tags_told pid at.next_pid r reply.outcome x.tags))
          (known_written table made pid lacks s1 w2 p1 q2 x.tags r match2 can can_then is kind calm_call) follow)

      -- what the caller's registers are
      registers_then : (value : ℤ) → reply.outcome ≡ Answer value → registers_in pid came2.state ≡ Some (with_answer value q.image.regs)
      registers_then value e =
          let mounts = mounts_walked (targets_of table pid at r) in
          let goes : reply.outcome ≢ Ended = λ ended. absurd (differ (sym e ∙ ended)) in
          let leave = pathless_leave (known image_layout pid at) pid r told (memory_of pid at) kind goes in
          let kept = calls_keep_registers pid r told mounts at (decoded_process table made pid s1 p1 can) (decoded_lives table made pid s1 p1 can) leave in
          sym (alike.states.images.registers pid) ∙ ap (λ (x : Came). registers_in pid x.state) came_is ∙ kept ∙ ap (λ o. Some (told_by o p1.image.regs)) e ∙ ap (λ regs. Some (with_answer value regs)) same_regs
        where
          differ : Answer value ≡ Ended → ⊥
          differ e = cc

      -- ---- the second stop

      abbrev stop2 : Stopped
      stop2 = called pid came2

      module _ (value : ℤ) (q3 : Process ℕ Image) (lives3 : process pid came2.state ≡ Some q3) (regs3 : q3.image.regs ≡ with_answer value q.image.regs) where
        abbrev arguments_of : Regs → Arguments
        arguments_of regs = record { a1 = get_or regs.x 11 0; a2 = get_or regs.x 12 0; a3 = get_or regs.x 13 0; a4 = get_or regs.x 14 0; a5 = get_or regs.x 15 0; a7 = get_or regs.x 17 0 }

        beside : (j : ℕ) → nat_eq j 10 ≡ false → get_or (with_answer value q.image.regs).x j 0 ≡ get_or q.image.regs.x j 0
        beside j other = put_beside q.image.regs.x 10 j (cast_unsigned w64 value) (λ same. absurd (let is : nat_eq j 10 ≡ true = grind (arith, nat_tests) in let never : true ≡ false = sym is ∙ other in cc))

        same_arguments : pending.passed ≡ arguments_at stop2
        same_arguments =
            ap (λ (image : Image). arguments_of image.regs) (own_image pid w2 q2 can_then.lives)
            ∙ sym (λ i. record { a1 = beside 11 refl i; a2 = beside 12 refl i; a3 = beside 13 refl i; a4 = beside 14 refl i; a5 = beside 15 refl i; a7 = beside 17 refl i })
            ∙ ap arguments_of (sym regs3)
            ∙ ap (λ (image : Image). arguments_of image.regs) (sym (own_image pid came2.state q3 lives3))

        same_answer : answer_at stop2 ≡ told_answer value
        same_answer =
            ap (λ (image : Image). cast_signed w64 (get_or image.regs.x 10 0)) (own_image pid came2.state q3 lives3)
            ∙ ap (λ (regs : Regs). cast_signed w64 (get_or regs.x 10 0)) regs3
            ∙ ap (cast_signed w64) (put_there q.image.regs.x 10 (cast_unsigned w64 value) (let many = (c.also_sized pid q also).registers in omega (arith, many)))

        module _ (lasts3 : LastsLawful (λ k. k) plain (suc made) came2.state) (child : Option ℕ) where
          abbrev bearing : Tracing
          bearing = after_born tracer pid child z

          pending_there : map.get bearing.pending pid ≡ Some pending
          pending_there = ap (λ calls. map.get calls pid) (born_pending pid z child) ∙ get-insert_same x.pending pid pending

          exits : exited bearing stop2 ≡ (with_tags (tags_after bearing.tags pid (noted r 0 (answer_at stop2))) (without_pending pid bearing), stop2)
          exits = exits_pass bearing stop2 pending (born_identities pid z child c.traces.identities) pending_there (begins_none r kind) refl same_arguments (there came2.state pid came2.handed q3 lasts3.lawful.pids lives3)

          noted_tags : tags_after bearing.tags pid (noted r 0 (answer_at stop2)) ≡ tags_after (with_child pid child x.tags) pid (noted r 0 (told_answer value))
          noted_tags = ap (λ tags. tags_after tags pid (noted r 0 (answer_at stop2))) (born_tags pid z child) ∙ ap (λ answer. tags_after (with_child pid child x.tags) pid (noted r 0 answer)) same_answer

          left_answered : (tally : Tally) → IsLeft table came2.state (tags_after (with_child pid child x.tags) pid (noted r 0 (told_answer value))) (after_exit tracer stop2 bearing tally (Some q3))
          left_answered tally =
              subst (λ (e : Tracing × Stopped). IsLeft table came2.state (tags_after (with_child pid child x.tags) pid (noted r 0 (told_answer value))) (record { state = e.1.state; watcher = e.0; tally = tally })) (sym exits)
              (record { states = refl; tags_are = noted_tags; traces = record { bindings = born_bindings pid z child ∙ c.traces.bindings; identities = born_identities pid z child c.traces.identities } })

      -- ---- by the outcome

      abbrev leftover : CallEnd → Option ℕ → Tally → Machine Tracing
      leftover e child tally = after_end tracer pid e stop2 (after_born tracer pid child z) tally

      module _ (lasts3 : LastsLawful (λ k. k) plain (suc made) came2.state) (tally : Tally) where
        answered_left : (value : ℤ) → reply.outcome ≡ Answer value → (o : Option (Process ℕ Image)) → process pid came2.state ≡ o → IsLeft table came2.state (tags_told pid at.next_pid r (Answer value) x.tags) (after_exit tracer stop2 (after_born tracer pid (child_of at.next_pid r (Answer value)) z) tally o)
        answered_left value e None none = absurd (never (sym (ap (option_map (λ p. p.image.regs)) none) ∙ registers_then value e))
          where
            never : {A : Type 0} {a : A} → None ≡ Some a → ⊥
            never e = cc
        answered_left value e (Some q3) lives3 =
            left_answered value q3 lives3 (same_Some _ _ (sym (ap (option_map (λ p. p.image.regs)) lives3) ∙ registers_then value e)) lasts3 (child_of at.next_pid r (Answer value)) tally

        still : IsLeft table came2.state x.tags (leftover end.Waits None tally)
        still = record { states = refl; tags_are = refl; traces = record { bindings = c.traces.bindings; identities = c.traces.identities } }

        left_by : (o : Outcome) → reply.outcome ≡ o → IsLeft table came2.state (tags_told pid at.next_pid r o x.tags) (leftover (end_of r o) (child_of at.next_pid r o) tally)
        left_by (Answer value) e = answered_left value e (process pid came2.state) refl
        left_by Wait e = subst (λ child. IsLeft table came2.state x.tags (leftover end.Waits child tally)) (sym (waits_alone at.next_pid r)) still
        left_by NoMemory e = subst (λ child. IsLeft table came2.state x.tags (leftover end.Waits child tally)) (sym (lost_alone at.next_pid r)) still
        left_by Ended e =
            subst (λ child. IsLeft table came2.state (dropped x.tags pid) (leftover (end.Ended (status_told r)) child tally)) (sym (ends_alone at.next_pid r))
            (record { states = refl; tags_are = refl; traces = record { bindings = c.traces.bindings; identities = ap (λ i. option_map (forgets pid) i) c.traces.identities } })

        left : IsLeft table came2.state (tags_told pid at.next_pid r reply.outcome x.tags) (after_plain tracer pid came2 z tally)
        left =
            let ends : end_of r reply.outcome ≡ came2.end = ap (λ (x : Came). x.end) (sym came_is) ∙ alike.ends in
            let children : child_of at.next_pid r reply.outcome ≡ came2.child = ap (λ (x : Came). x.child) (sym came_is) ∙ alike.children in
            subst (λ e. IsLeft table came2.state (tags_told pid at.next_pid r reply.outcome x.tags) (leftover e came2.child tally)) ends
            (subst (λ child. IsLeft table came2.state (tags_told pid at.next_pid r reply.outcome x.tags) (leftover (end_of r reply.outcome) child tally)) children (left_by reply.outcome refl))

      pathless_together : StayTogether scene
      pathless_together =
          let also_lasts = (calls_last plain made pid w2 q2 r can_then (sym requests_then ∙ is) (no_exec r kind)).lasts in
          subst (λ x. ComeFromCall table made x (traced_after scene)) (sym mounted_call)
          (subst (ComeFromCall table made (after_plain unwatched pid came m.watcher judged)) (sym (traced_call z then_stop entered_pathless))
          (come_from table made pid came came2 m.watcher z judged (unjudged then_stop) (tags_told pid at.next_pid r reply.outcome x.tags) c.matches.statuses (left also_lasts (unjudged then_stop))
          (subst (λ tags. CameAlike table tags came came2) tags_are alike) (calls_last table made pid s1 p1 r can is (no_exec r kind)).lasts also_lasts))

    -- ---- either

    together : HasNoPath (decoded_by p1).reply → StayTogether scene
    together kind = by (decoded_by p1).reply refl kind
      where
        by : (reply : Decoded) → (decoded_by p1).reply ≡ reply → HasNoPath reply → StayTogether scene
        by (Ok r) is kind = pathless_together r is kind
        by (Err e) is kind = refused_together e is

pub pathless_calls_go_together : (S : Type 0) → PathlessCallsGoTogether S
pathless_calls_go_together S scene comes kind calm = let callers = callers_of comes in together callers calm (subst HasNoPath (decoded_here callers) kind)
