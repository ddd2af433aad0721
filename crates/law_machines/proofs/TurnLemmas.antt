-- Whole turns keep both machines together, since each call does; so calm runs come to the same.
use Rattle.std.proofs.Common.{◌≡◌, ◌≤◌, ◌^◌, ℕ, List, None}
use Rattle.law_starts.specs.pt_args.Laws.{ShelvesHoldTheirItems, TextsAreReadBack}
use Rattle.pr_top.specs.kr_view.View.{Row, plain}
use Rattle.law_starts.specs.law_kept.Bytes.{TableHasBytes}
use Rattle.law_starts.specs.kr_turns.Run.{Slot, run}
use Rattle.law_starts.specs.kr_turns.Turn.{Machine}
use Rattle.law_starts.specs.kr_stops.Watching.{unwatched}
use Rattle.law_starts.specs.pt_faker.Faking.{Faking, faker}
use Rattle.law_machines.specs.Watchers.{anything, goes_by_bytes}
use Rattle.law_starts.specs.pt_tracer.Watched.{Tracing, tracer}
use Rattle.law_machines.proofs.FakerLemmas.{fakers-watch-bytes}
use Rattle.law_machines.proofs.TracerLemmas.{tracers-watch-bytes}
use Rattle.law_paths.specs.law_stops.Runs.{Kept, faked_by, traced_by}
use Rattle.law_paths.specs.law_stops.Together.{goes_by, gone_by}
use Rattle.law_paths.specs.law_stops.Turning.{tags_kept}
use Rattle.law_paths.proofs.law_stops.RunLemmas.{faked_turns_go_together}
use Rattle.law_paths.proofs.law_stops.TogetherLemmas.{traced_turns_go_together}
use Rattle.law_starts.specs.law_turns.Runs.{ComeAlike}
use Rattle.law_starts.specs.law_allowed.Told.{SourcesAreNamed}
use Rattle.law_starts.proofs.law_turns.ComeLemmas.{runs_come_alike}
use Rattle.law_machines.specs.Turns.{AreTogether, AreTogetherFaked, WholeTurnsGoTogether}
use Rattle.law_machines.proofs.CallLemmas.{calls_go_together}
use Rattle.law_machines.proofs.FakedCallLemmas.{faked_calls_go_together}

pub whole_turns_go_together : TextsAreReadBack → ShelvesHoldTheirItems → (S : Type 0) → WholeTurnsGoTogether S
whole_turns_go_together back shelves S = record {
  untold = λ table pick fuel made m n named bytes few both calm.
      let after =
      traced_turns_go_together S goes_by_bytes table (calls_go_together back shelves S table) (record { named = named; bytes = bytes; watches = tracers-watch-bytes }) pick fuel made m n few both.together both.keeps calm in
      record { together = after.0; keeps = after.1 };
  told = λ table pick fuel made m n named bytes few both calm.
      let after =
      faked_turns_go_together anything goes_by_bytes table (faked_calls_go_together back shelves table)
      (record { named = named; bytes = bytes; fakes = fakers-watch-bytes; watches = tracers-watch-bytes; untold = λ x sound. sound }) pick fuel made m n few both.together both.keeps calm in
      record { together = after.0; keeps = after.1 };
}

-- ---- runs

module _ (back : TextsAreReadBack) (shelves : ShelvesHoldTheirItems) (table : List Row) (named : SourcesAreNamed table) (bytes : TableHasBytes table) (slots : ℕ → Slot) (turns : ℕ) (few : turns ≤ 2 ^ 31) where
  pub untold_runs : (S : Type 0) (m : Machine S) (n : Machine Tracing) → AreTogether table 0 m n → (run unwatched 1 table slots turns m).machine.tally.broken ≡ None
      → ComeAlike (run unwatched 1 table slots turns m) (run tracer 0 plain slots turns n)
  untold_runs S m n both calm =
      let whole = whole_turns_go_together back shelves S in
      runs_come_alike S Tracing _ unwatched tracer tags_kept (gone_by table) (goes_by goes_by_bytes) table slots
      (record {
        together = λ made m n few both keep going calm. (whole.untold table (slots made).pick (slots made).fuel made m n named bytes few (record { together = both; keeps = keep }) calm).together;
        keeps = λ made m n few both keep going calm. (whole.untold table (slots made).pick (slots made).fuel made m n named bytes few (record { together = both; keeps = keep }) calm).keeps;
      }) turns m n few both.together both.keeps calm

  pub told_runs : (m : Machine Faking) (n : Machine Tracing) → AreTogetherFaked table 0 m n → (run faker 1 table slots turns m).machine.tally.broken ≡ None
      → ComeAlike (run faker 1 table slots turns m) (run tracer 0 plain slots turns n)
  told_runs m n both calm =
      let whole = whole_turns_go_together back shelves Faking in
      runs_come_alike Faking Tracing Kept faker tracer tags_kept (faked_by anything table) (traced_by goes_by_bytes) table slots
      (record {
        together = λ made m n few both keep going calm. (whole.told table (slots made).pick (slots made).fuel made m n named bytes few (record { together = both; keeps = keep }) calm).together;
        keeps = λ made m n few both keep going calm. (whole.told table (slots made).pick (slots made).fuel made m n named bytes few (record { together = both; keeps = keep }) calm).keeps;
      }) turns m n few both.together both.keeps calm
