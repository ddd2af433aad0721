-- A walker that processes pause.
use Rattle.std.proofs.Common.{◌≡◌, ◌≢◌, ◌∙◌, ◌+◌, ◌-◌, ℕ, Bool, true, false, cond, List, [], ◌∷◌, length, arith, sym, ap, subst}
use Rattle.std.specs.Ordering.{eq_by_cmp, nat_cmp}
use Rattle.law_steady.proofs.pr_base.MapLemmas.{ties-other}
use Rattle.pt_faker.specs.Stopping.{Stopped}
use Rattle.pt_faker.specs.kr_stops.Remembering.{FreesCaller, KeepsAllFree, KeepsOthersFree, StillAgrees, can_alter_shape}
use Rattle.pt_faker.specs.kr_stops.Stopped.{image_at}
use Rattle.law_steady.specs.pt_canon.Remembering.{Walking}
use Rattle.pt_tracer.specs.Agreeing.{AgreesWith}
use Rattle.pt_tracer.specs.AgreeingLaws.{paused-agrees}
use Rattle.pt_tracer.proofs.AgreeLemmas.{empty-agrees}
use Rattle.pt_tracer.specs.Pausing.{IsPausedBy, IsPausedFor, Pausing, is_pausing}

abbrev pausing : Walking → List ℕ → Pausing
pausing w pids = record { walker = w; pids = pids }

-- ---- who pauses it

some-long : (pid : ℕ) (pids : List ℕ) → is_pausing pid pids ≡ true → length pids ≢ 0
some-long pid [] is none = absurd cc
some-long pid (p ∷ pids) is none = absurd (omega arith)

pub still-pausing : (b old new : Bool) → new ≡ cond b true old → old ≡ true → new ≡ true
still-pausing true old new is was = is
still-pausing false old new is was = is ∙ was

module _ (w : Walking) (pids : List ℕ) (by : IsPausedBy w pids) where
  pub paused-for : (pid : ℕ) → is_pausing pid pids ≡ true → IsPausedFor (pausing w pids) pid
  paused-for pid is = record { pauses = is; stands = λ none. some-long pid pids is (sym by.counts ∙ none) }

  -- with one pause more
  pub paused-more : (v : Walking) (more : List ℕ) → v.pauses ≡ w.pauses + 1 → length more ≡ length pids + 1 → IsPausedBy v more
  paused-more v more is long = record { counts = is ∙ ap (λ n. n + 1) by.counts ∙ sym long }

  -- and with one fewer
  module _ (less : List ℕ) (long : length less + 1 ≡ length pids) where
    pub some-pauses : w.pauses ≢ 0
    some-pauses none = let counts = by.counts in absurd (omega arith)

    pub paused-less : (v : Walking) → v.pauses ≡ w.pauses - 1 → IsPausedBy v less
    paused-less v is = let counts = by.counts in record { counts = omega arith }

-- ---- each has a pause of its own

pub others-paused : (w v : Walking) (pids left : List ℕ) (pid : ℕ) → IsPausedBy v left → ((q : ℕ) → eq_by_cmp nat_cmp pid q ≡ false → is_pausing q left ≡ is_pausing q pids) → KeepsOthersFree IsPausedFor pid (pausing w pids) (pausing v left)
others-paused w v pids left pid by same = record { keeps = λ q other paused. paused-for v left by q (same q (ties-other pid q (λ e. other (sym e))) ∙ paused.pauses) }

pub all-paused : (w v : Walking) (pids more : List ℕ) → IsPausedBy v more → ((q : ℕ) → is_pausing q pids ≡ true → is_pausing q more ≡ true) → KeepsAllFree IsPausedFor (pausing w pids) (pausing v more)
all-paused w v pids more by still q paused = paused-for v more by q (still q paused.pauses)

-- walks leave it to them
pub kept-paused : (x y : Pausing) → y.pids ≡ x.pids → y.walker.pauses ≡ x.walker.pauses → KeepsAllFree IsPausedFor x y
kept-paused x y pids pauses q paused = record {
  pauses = ap (is_pausing q) pids ∙ paused.pauses;
  stands = λ none. paused.stands (sym pauses ∙ none);
}

-- ---- at a call

-- one that can't alter the tree
pub spares-caller : (x : Pausing) (t : Stopped) (b : Bool) → b ≡ can_alter_shape (image_at t).regs → b ≡ false → FreesCaller IsPausedFor t x
spares-caller x t b is not = record { frees = λ alters. absurd cc }

-- and one that can
pub pauses-caller : (x : Pausing) (t : Stopped) (pid : ℕ) → pid ≡ t.pid → IsPausedFor x pid → FreesCaller IsPausedFor t x
pauses-caller x t pid is paused = record { frees = λ alters. subst (IsPausedFor x) is paused }

pub caller-agrees : (x : Pausing) (pid : ℕ) (t : Stopped) → IsPausedFor x pid → AgreesWith x.walker t.state.tree t.state.user
caller-agrees x pid t paused = paused-agrees x.walker t.state.tree t.state.user paused.stands

-- behind a pause nothing is remembered
pub resumed-agrees : (w v : Walking) → v.remembered ≡ [] → StillAgrees AgreesWith w v
resumed-agrees w v empty tree user agrees = empty-agrees v tree user empty
