-- What is so of both machines where a call along paths is made: their states stand together, and the tracer goes by what the state with
-- mounts tells.
use Rattle.std.proofs.Common.{◌≡◌, ◌≤◌, ℕ, Bool, true, false, cond, Option, Some, None, Ok, refl, sym, ap, subst, ◌∙◌, arith}
use Rattle.std.specs.Prelude.{nat_lt}
use Rattle.std.specs.Option.{option_map_or}
use Rattle.std.proofs.lemmas.Bool.Decides.{nat_tests}
use Rattle.law_plans.specs.rv_mem.Actions.{AreEqualUnmarked}
use Rattle.law_plans.specs.rv_mem.Layout.{layout_of}
use Rattle.law_plans.specs.rv_mem.Memory.{Memory}
use Rattle.law_plans.specs.kr_view.View.{plain}
use Rattle.law_stops.specs.kr_calls.Decoding.{decoding}
use Rattle.law_stops.specs.kr_calls.declared.request.Request.{Request}
use Rattle.law_stops.specs.law_allowed.Texts.{LinksHaveTexts}
use Rattle.law_stops.specs.law_allowed.Calls.{HasTextPaths}
use Rattle.law_stops.proofs.law_allowed.DecodedLemmas.{decoded-are-givable, decoding-leaves-pages}
use Rattle.law_stops.proofs.law_allowed.RowLemmas.{stays-like}
use Rattle.law_plans.specs.kr_calm.Rules.{breaks_2}
use Rattle.law_plans.specs.kr_calm.declared.rule.Rule.{Rule}
use Rattle.law_plans.specs.kr_calm.declared.rule.Rule.TheVariants.{SearchStays, ShortNames, SourcesStay, Unread, UsedStay, WithinMounts}
use Rattle.law_plans.specs.kr_model.Bare.{pins_of}
use Rattle.law_plans.specs.kr_model.State.{Image, Process, State, process}
use Rattle.law_plans.specs.kr_model.Walks.{targets_of}
use Rattle.law_plans.specs.kr_seen.CallWalks.{call_reach}
use Rattle.law_stops.specs.kr_steps.Computing.{computed}
use Rattle.law_stops.specs.kr_turns.Breaking.{decoded_rule, nothing_reached, operated_rule, plain_rule_of}
use Rattle.law_stops.specs.kr_stops.Stopped.{Stopped}
use Rattle.law_stops.proofs.kr_turns.PlainLemmas.{no-exec-rule}
use Rattle.law_plans.specs.pt_canon.TextWalk.{TextSurroundings}
use Rattle.law_plans.specs.pt_faker.Stopping.{after_request}
use Rattle.law_plans.specs.pt_tracer.Planning.{edit_for, texts_at}
use Rattle.law_plans.specs.pt_tracer.Watched.{Tracing}
use Rattle.law_plans.proofs.law_walks.BareStateLemmas.{peeks_are_bare}
use Rattle.law_plans.specs.law_places.Matching.{IsMatch}
use Rattle.law_stops.specs.law_turns.Calls.{decoded_by, decoded_in}
use Rattle.law_stops.specs.law_turns.Lasting.{CanBeCalled}
use Rattle.law_stops.proofs.law_turns.CalledLemmas.{decoded_lasts}
use Rattle.law_stops.proofs.law_turns.MatchLemmas.{match_computed}
use Rattle.law_stops.specs.law_turns.PathCalls.{CallsPath, HasPath}
use Rattle.law_stops.proofs.law_turns.RuleLemmas.{no_exec}
use Rattle.law_stops.proofs.law_turns.SettingLemmas.{at_small}
use Rattle.law_plans.specs.Begins.{StandTogether, told_texts}
use Rattle.law_stops.specs.Scene.{IsCalm, Scene, asked, at_first_stop}
use Rattle.law_stops.proofs.CallLemmas as before
use Rattle.law_stops.proofs.CallerLemmas.{Callers}

-- ---- rules that aren't broken

all_none : (first second third fourth fifth sixth : Bool)
    → cond {A = Option Rule} first (Some Unread) (cond second (Some WithinMounts) (cond third (Some SourcesStay) (cond fourth (Some UsedStay) (cond fifth (Some SearchStays) (cond sixth (Some ShortNames) None))))) ≡ None → (second ≡ false) × (sixth ≡ false)
all_none false false false false false false e = (refl, refl)
all_none false false false false false true e = absurd cc
all_none true second third fourth fifth sixth e = absurd cc
all_none false true third fourth fifth sixth e = absurd cc
all_none false false true fourth fifth sixth e = absurd cc
all_none false false false true fifth sixth e = absurd cc
all_none false false false false true sixth e = absurd cc

no_longer : (n : ℕ) → nat_lt 4000 n ≡ false → n ≤ 4000
no_longer n e = grind (arith, nat_tests)

-- a calm call along paths of a caller of both machines
pub record PathCall {S : Type 0} (scene : Scene S) : Type 0 where
  pub callers : Callers scene
  pub request : Request
  pub calm : IsCalm scene
  pub reads : asked scene ≡ Ok request
  pub kind : HasPath request

module _ {S : Type 0} {scene : Scene S} (path_call : PathCall scene) where
  open scene use {table, made, pid, traced as n}
  open path_call use {callers, request as r, calm, reads, kind}
  open path_call.callers use {comes as c, also_caller as q, also_lives as also}

  abbrev pub x : Tracing
  x = n.watcher

  abbrev pub s1 : State ℕ Image
  s1 = before.s1 callers

  abbrev pub p1 : Process ℕ Image
  p1 = before.p1 callers

  abbrev pub then_stop : Stopped
  then_stop = before.then_stop callers

  pub mine : CanBeCalled table made pid s1 p1
  mine = before.can callers

  -- behind decoding
  abbrev pub at : State ℕ Image
  at = decoded_in pid p1 s1

  abbrev pub w2 : State ℕ Image
  w2 = decoded_in pid q n.state

  abbrev pub decoded_memory : Memory
  decoded_memory = (decoded_by q).memory

  pub reads_by : (decoded_by p1).reply ≡ Ok r
  reads_by = sym (before.decoded_here callers) ∙ reads

  pub reads_there : (decoded_by q).reply ≡ Ok r
  reads_there = sym (before.requests callers calm) ∙ reads_by

  pub calls : CallsPath table made pid s1 p1 x.tags r
  calls = let both = before.match1 callers in record { placed = both.placed; tagged = both.tagged; can = mine; decoded = reads_by; kind = kind }

  pub match_at : IsMatch table x.tags at w2
  match_at =
      let one = before.match1 callers in
      let process = mine.lasts.lawful.processes pid p1 mine.lives in
      let stays = stays-like (decoding p1.image.regs) p1.image.memory process.whole process.paged in
      let left = before.pages_left callers in
      let unmarked = subst (λ pages. AreEqualUnmarked pages (decoded_by q).memory.pages) (sym (decoding-leaves-pages p1.image.regs p1.image.memory mine.holds)) (subst (AreEqualUnmarked p1.image.memory.pages) (sym left) (one.images.memories pid p1 q mine.lives also)) in
      let both = match_computed table x.tags s1 n.state one pid p1 q mine.lives also p1.image.regs (decoded_by p1).memory (decoded_by q).memory unmarked stays (ap layout_of left) in
      subst (λ regs. IsMatch table x.tags at (computed pid regs (decoded_by q).memory n.state)) (before.same_regs callers) both

  pub together : StandTogether table x.tags at w2
  together = record { matched = match_at; small = at_small table made pid s1 p1 x.tags r calls; plain_lawful = (before.can_then callers).lasts.lawful }

  pub have_texts : LinksHaveTexts at.tree
  have_texts = (decoded_lasts table made pid s1 p1 mine).lasts.texts

  pub text_paths : HasTextPaths r
  text_paths = (decoded-are-givable p1.image.regs p1.image.memory r mine.holds reads_by).1

  -- ---- what the tracer goes by

  abbrev pub texts : TextSurroundings
  texts = told_texts table at pid x.tags

  pub stop_is : at_first_stop scene ≡ then_stop
  stop_is = ap after_request (before.calling_is callers) ∙ before.after_there callers

  pub texts_are : texts_at x.bindings x.tags then_stop ≡ texts
  texts_are =
      let peeks = peeks_are_bare ℕ ℕ (pins_of table) (pins_of plain) at w2 pid match_at.bares in
      λ i. record { bindings = c.traces.bindings i; peeked = sym peeks i; tags = x.tags }

  pub edit_is : edit_for (texts_at x.bindings x.tags (at_first_stop scene)) (at_first_stop scene) r ≡ edit_for texts then_stop r
  edit_is = ap (λ t. edit_for (texts_at x.bindings x.tags t) t r) stop_is ∙ ap (λ texts. edit_for texts then_stop r) texts_are

  -- ---- the second rule and the sixth

  calm_row : operated_rule 1 table pid (before.lacks callers) r at ≡ None
  calm_row =
      let lacks = before.lacks callers in
      no-exec-rule 1 table pid lacks at r (no_exec r kind)
      ∙ sym (ap (λ o. option_map_or (plain_rule_of 1 table pid lacks s1) o None) mine.lives ∙ ap (λ reply. decoded_rule 1 table pid lacks reply at) reads_by)
      ∙ before.calm_call callers calm

  pub within : breaks_2 table at.tree r (targets_of table pid at r) ≡ false
  within = (all_none _ _ _ _ _ _ calm_row).0

  pub short : (call_reach table pid at r nothing_reached).longest ≤ 4000
  short = no_longer (call_reach table pid at r nothing_reached).longest (all_none _ _ _ _ _ _ calm_row).1
