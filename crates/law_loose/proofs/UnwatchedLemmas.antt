-- The watcher that does nothing is local in what it goes by, which is nothing; so loose runs that nobody watches come to what their turns come to.
use Rattle.std.proofs.Common.{◌≡◌, inl, ℕ, Bool, true, false, cond, List, Option, Some, None, refl, sym, ap, subst, ◌∙◌}
use Rattle.std.specs.Prelude.{◌==◌, IsSome}
use Rattle.std.specs.Option.{option_map}
use Rattle.kr_loose.specs.kr_view.View.{Row}
use Rattle.kr_loose.specs.kr_model.Applied.{with_image}
use Rattle.kr_loose.specs.kr_model.State.{Image, Process, State, at_pid, process}
use Rattle.kr_loose.specs.kr_core.kr_steps.Answering.{going, waiting}
use Rattle.kr_loose.specs.kr_stops.Stopped.{image_in}
use Rattle.kr_loose.specs.kr_stops.Watching.{unwatched}
use Rattle.kr_loose.specs.kr_turns.Turn.{calling, turn}
use Rattle.kr_loose.specs.Local.{IsLocal}
use Rattle.kr_loose.proofs.MarkTurnLemmas.{nobody-marks}
use Rattle.law_beside.proofs.kr_core.kr_stops.EditLemmas.{edited-same, image-edited}
use Rattle.law_beside.proofs.kr_core.law_lawful.ProcessChangeLemmas.{found as found-changed}
use Rattle.law_beside.proofs.law_kept.MemoryApartLemmas.{others_live_on}
use Rattle.law_beside.specs.law_kept.MemoriesApart.{EditsItsOwn}
use Rattle.law_loose.specs.Staying.{StaysBeside}
use Rattle.law_loose.specs.Unwatched.{AnyFits, AnyMachine, IsSound, KeepsImage, UnwatchedRunsAreTheirImages, UnwatchedStepsLag, asks_nothing, goes_by_nothing}
use Rattle.law_loose.proofs.BelowLemmas.{Whole}
use Rattle.law_loose.proofs.BesidesLemmas.{all-beside}
use Rattle.law_loose.proofs.OtherLemmas.{image-on, image_of}
use Rattle.law_loose.proofs.RunLemmas.{loose-runs-are-their-images}
use Rattle.law_loose.proofs.StepLemmas.{steps-lag}
use Rattle.law_loose.proofs.StopLemmas.{at}

abbrev Machines : Type 0
Machines = State ℕ Image

-- ---- what processes compute on

-- a shelf that isn't marked leaves it
shelved-image : (pid : ℕ) (s : Machines) → image_in pid (calling 0 pid s).state ≡ image_in pid s
shelved-image pid s = by (process pid s) refl
  where
    by : (o : Option (Process ℕ Image)) → process pid s ≡ o → image_in pid (calling 0 pid s).state ≡ image_in pid s
    by None is =
        ap image_of (found-changed pid (with_image (λ (image : Image). record { regs = (image_in pid s).regs; memory = (image_in pid s).memory })) (λ q. refl) pid s.living)
        ∙ ap (λ (o : Option (Process ℕ Image)). image_of (option_map (at_pid pid (with_image (λ (image : Image). record { regs = (image_in pid s).regs; memory = (image_in pid s).memory }))) o)) is
        ∙ sym (ap image_of is)
    by (Some p) is = image-edited (image_in pid s).regs (image_in pid s).memory (at pid s) (subst IsSome (sym is) refl)

-- nor does a wait change it
waiting-image : (pid : ℕ) (s : Machines) → image_in pid (waiting pid s) ≡ image_in pid s
waiting-image pid s = ap image_of (found-changed pid (going (λ regs. regs) true) (λ q. refl) pid s.living) ∙ by (process pid s)
  where
    either : (b : Bool) (p : Process ℕ Image) → (cond b (going (λ regs. regs) true p) p).image ≡ p.image
    either true p = refl
    either false p = refl

    by : (o : Option (Process ℕ Image)) → image_of (option_map (at_pid pid (going (λ regs. regs) true)) o) ≡ image_of o
    by None = refl
    by (Some p) = either (p.pid == pid) p

-- ---- the watcher

module _ (S : Type 0) where
  nobody-edits : EditsItsOwn {S = S} unwatched
  nobody-edits = record { entry = λ x t. inl refl; exit = λ x t. inl refl }

  nobody-is-local : IsLocal {S = S} unwatched asks_nothing goes_by_nothing AnyFits KeepsImage
  nobody-is-local = record {
    entry_lasts = λ x y pid s t fits fits_other part stays unmet. record { image = shelved-image pid t ∙ stays ∙ sym (shelved-image pid s); kept = refl; unmet = refl };
    entry_edits = λ x t fits there. edited-same t there;
    entry_fits = λ x t fits. tt;
    entry_part = λ x t q fits. refl;
    entry_kept = λ x t q fits other. refl;
    entry_waits = λ x t r fits there decoded may. refl;
    exit_alike = λ x y t u fits fits_other same part kept handed image. record { image = image; part = refl };
    exit_edits = λ x t fits there. edited-same t there;
    exit_living = λ x t fits. refl;
    exit_fits = λ x t fits. tt;
    exit_part = λ x t q fits other. refl;
    exit_kept = λ x t q fits other. refl;
    born_child = λ x y parent child fits fits_other part. refl;
    born_part = λ x parent child q fits other. refl;
    born_kept = λ x parent child q fits. refl;
    born_fits = λ x parent child fits. tt;
    gone_own = λ x y pid fits fits_other part. refl;
    gone_part = λ x pid q fits other. refl;
    gone_kept = λ x pid q fits other. refl;
    gone_fits = λ x pid fits. tt;
  }

  nobody-stays : (table : List Row) → StaysBeside {S = S} unwatched table IsSound AnyMachine KeepsImage
  nobody-stays table = record {
    pids = λ m good. good.pids;
    unmarked = λ m good. good.unmarked;
    tame = λ slot m good tame meets. tt;
    beside = λ exec pid s m good tame same image. image;
    waits = λ exec pid m n good tame good_after tame_after is. ap (image_in pid) is ∙ waiting-image pid m.state;
    others = λ exec pid slot m p good tame good_after tame_after picked other lives shape bytes.
        image-on pid m.state (turn unwatched 0 table slot.pick slot.fuel m).state (others_live_on S unwatched nobody-edits 0 table slot.pick slot.fuel m p picked pid other) lives;
  }

  abbrev nobody : List Row → Whole S (Unit {0}) (Unit {0})
  nobody table = record {
    f = unwatched;
    asks = asks_nothing;
    l = goes_by_nothing;
    fits = AnyFits;
    Stays = KeepsImage;
    Good = IsSound;
    Tame = AnyMachine;
    table = table;
    scene = record { local = nobody-is-local; marks = nobody-marks S; stays = nobody-stays table };
    below = all-beside S;
  }

pub unwatched-steps-lag : (S : Type 0) → UnwatchedStepsLag S
unwatched-steps-lag S table = steps-lag (nobody S table)

pub unwatched-runs-are-their-images : (S : Type 0) → UnwatchedRunsAreTheirImages S
unwatched-runs-are-their-images S table = loose-runs-are-their-images (nobody S table)
