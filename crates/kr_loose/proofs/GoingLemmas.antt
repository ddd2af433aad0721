-- A process that went on made a step of the loose run.
use Rattle.std.proofs.Common.{◌≡◌, ◌≢◌, ◌≤◌, ℕ, suc, Bool, List, [], ◌∷◌, Option, Some, None, refl, sym, ap, subst, arith, ◌∙◌}
use Rattle.std.specs.Prelude.{IsSome, length}
use Rattle.std.specs.Option.{option_map}
use Rattle.std.proofs.lemmas.Option.{same_Some}
use Rattle.kr_core.specs.kr_turns.kr_view.View.{Row}
use Rattle.kr_core.specs.kr_turns.kr_model.State.{Image, Process, process}
use Rattle.kr_core.specs.kr_turns.kr_stops.Stopped.{Stopped}
use Rattle.kr_core.specs.kr_turns.kr_stops.Watching.{Watching}
use Rattle.kr_core.specs.Between.{between_of, phase_at}
use Rattle.kr_core.specs.Kernel.{Kernel, Picks, machine, phase_of}
use Rattle.kr_core.specs.Moving.{Entry, Exit, Instructions, IsMoved, Moved, Plain, StepKind}
use Rattle.kr_core.specs.Stepping.{calls_after}
use Rattle.kr_loose.specs.Behind.{ComesBehind, kept_of}
use Rattle.kr_loose.specs.Going.{HasGone, HasStepped, step_made}
use Rattle.kr_loose.specs.declared.judge.Judge.{Judge}

-- one that is picked lives
pub picked-lives : {P S T : Type 0} {M : ℕ} (number : T → ℕ) (pick pid : ℕ) (k : Kernel P S T M) → Picks number pick pid k → IsSome (process pid (machine number k).state)
picked-lives number pick pid k picks = subst IsSome (sym picks.lives) refl

-- one that lives has a phase
pub has-phase : {P S T : Type 0} {M : ℕ} (number : T → ℕ) (pid : ℕ) (k : Kernel P S T M) → IsSome (process pid (machine number k).state) → phase_of number pid k ≡ None → ⊥
has-phase number pid k lives none = by (process pid (machine number k).state) lives none
  where
    by : (o : Option (Process ℕ Image)) → IsSome o → option_map (λ (p : Process ℕ Image). phase_at (between_of pid k.paused)) o ≡ None → ⊥
    by None lives none = absurd cc
    by (Some p) lives none = absurd cc

-- a step carries out one call at most
pub calls-grow : (kind : StepKind) (n m : ℕ) → m ≡ calls_after kind n → m ≤ suc n
calls-grow (Instructions done) n m e = let is : m ≡ n = e in omega arith
calls-grow Entry n m e = let is : m ≡ n = e in omega arith
calls-grow (Plain exec) n m e = let is : m ≡ suc n = e in omega arith
calls-grow Exit n m e = let is : m ≡ n = e in omega arith

pub none-of : {A : Type 0} (xs : List A) → length xs ≡ 0 → xs ≡ []
none-of [] e = refl
none-of (x ∷ xs) e = absurd (omega arith)

pub some-of : {A : Type 0} (xs : List A) (n : ℕ) → n ≡ length xs → (n ≡ 0 → ⊥) → xs ≢ []
some-of xs n told some = λ none. some (told ∙ ap length none)

module _ {P S T : Type 0} {M : ℕ} (number : T → ℕ) (w : Watching S) (asks : S → Stopped → Bool) (table : List Row) (pick fuel pid : ℕ) (old new : Kernel P S T M) (before after : Judge) where
  pub has-stepped : Picks number pick pid old → HasGone number w asks table fuel pid old new before after → HasStepped number w asks table pick fuel old new before after
  has-stepped picks went =
      let has = went.moves in
      let same : has.own ≡ picks.own = same_Some has.own picks.own (sym has.lives ∙ picks.lives) in
      let made : Moved S = record { kind = went.kind; machine = machine number new; paused = new.paused } in
      let moves : IsMoved w M table fuel picks.own (between_of picks.own.pid old.paused) (machine number old) old.paused made =
      subst (λ (p : Process ℕ Image). IsMoved w M table fuel p (between_of p.pid old.paused) (machine number old) old.paused made) same has.moves in
      record {
        process = picks.own;
        picked = picks.picked;
        kind = went.kind;
        step = λ steps. record { made = made; moves = moves; leaves = refl };
        behind = subst (λ n. ComesBehind asks M table (step_made number pick n went.kind old new) (kept_of old before) (kept_of new after)) (sym picks.same) (went.behind pick);
        calls = has.calls;
        places = has.places;
        turns = has.turns;
      }
