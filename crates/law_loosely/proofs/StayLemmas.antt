-- What a tracer without an identity goes by lasts beside what a loose run does.
use Rattle.std.proofs.Common.{◌≡◌, ◌≢◌, ℕ, Bool, true, Option, Some, None, IsSome, refl, ap, ◌∙◌}
use Rattle.std.specs.Option.{option_map}
use Rattle.law_loose.specs.kr_view.View.{plain}
use Rattle.law_loose.specs.kr_model.Judged.{HasShape}
use Rattle.law_loose.specs.kr_model.State.{Image, Process, State, process}
use Rattle.law_loose.specs.kr_loose.kr_tree.declared.place.Place.{Place}
use Rattle.law_loose.specs.kr_loose.law_steady.Bytes.{HasBytes}
use Rattle.law_loose.specs.law_beside.law_allowed.Others.{LivesOn, Own}
use Rattle.law_loose.specs.kr_turns.Run.{Slot}
use Rattle.law_loose.specs.kr_turns.Steps.{picked_process}
use Rattle.law_loose.specs.kr_turns.Turn.{Machine, turn}
use Rattle.law_loose.specs.law_beside.Opened.{NamesOpen}
use Rattle.law_loose.specs.Staying.{MeetsNone, behind_turn}
use Rattle.law_loose.proofs.law_beside.OpenLemmas.{others_stay_open}
use Rattle.law_entries.specs.Lasting.{StaysFor, own_of}
use Rattle.law_entries.specs.pt_tracer.Watched.{Tracing, tracer}
use Rattle.law_entries.proofs.ExecveBytes.{bytes-are-reached}
use Rattle.law_loosely.specs.Staying.{IsGood, IsTame, TracersStayBeside}
use Rattle.law_loosely.proofs.StateLemmas.{begins-in, stays-beside, stays-waiting}
use Rattle.law_loosely.proofs.TurnLemmas.{turn-nodes, turn-none, turn-stays}

-- ---- a turn

abbrev turned : Slot → Machine Tracing → Machine Tracing
turned slot m = turn tracer 0 plain slot.pick slot.fuel m

tame-behind : (slot : Slot) (m : Machine Tracing) → IsGood m → IsTame m → MeetsNone tracer plain slot m → IsTame (behind_turn tracer plain slot m)
tame-behind slot m good tame unmet =
    let nodes = turn-nodes slot.pick slot.fuel m tame.none unmet tame.nodes in
    record { none = turn-none slot.pick slot.fuel m tame.none; nodes = record { working = nodes.working; open_files = nodes.open_files } }

names-in : (m : Machine Tracing) → IsGood m → NamesOpen m.state
names-in m good = others_stay_open.lawful (λ k. k) plain m.state good.lawful

-- who lives on has its image and its working directory
own-again : (pid : ℕ) (s t : State ℕ Image) → IsSome (process pid s) → LivesOn pid s t → option_map own_of (process pid t) ≡ option_map own_of (process pid s)
own-again pid s t some lives = by (process pid s) refl some
  where
    by : (o : Option (Process ℕ Image)) → process pid s ≡ o → IsSome o → option_map own_of (process pid t) ≡ option_map own_of o
    by None is some = absurd cc
    by (Some p) is some =
        let after = lives p is in
        let told : Own ℕ Image → Option (Image × Place ℕ) = λ (x : Own ℕ Image). Some (x.image, x.cwd) in
        ap (option_map own_of) after.1 ∙ ap told after.2

stays-behind : (exec : Bool) (pid : ℕ) (slot : Slot) (m : Machine Tracing) (p : Process ℕ Image) → IsGood m → IsTame m → IsGood (behind_turn tracer plain slot m) → IsTame (behind_turn tracer plain slot m)
    → picked_process m.state slot.pick ≡ Some p → pid ≢ p.pid → IsSome (process pid m.state) → HasShape m.state.tree (behind_turn tracer plain slot m).state.tree
    → (exec ≡ true → HasBytes m.state.tree (behind_turn tracer plain slot m).state.tree) → StaysFor exec pid m.state (behind_turn tracer plain slot m).state
stays-behind exec pid slot m p good tame good_there tame_there picked other some shape bytes =
    let names = names-in (behind_turn tracer plain slot m) good_there in
    let names_there : NamesOpen (turned slot m).state = record { there = names.there; given = names.given } in
    let stays = turn-stays slot.pick slot.fuel m p pid tame.none picked other some (names-in m good) names_there in
    record {
      shape = record { sound = good.lawful.tree.sound; shape = shape; user = stays.user };
      sound = good_there.lawful.tree.sound;
      bytes = λ is. bytes-are-reached m.state.tree (behind_turn tracer plain slot m).state.tree shape (bytes is);
      own = own-again pid m.state (turned slot m).state some stays.lives;
      opened = stays.opened;
      here = begins-in m good tame pid;
      there = begins-in (behind_turn tracer plain slot m) good_there tame_there pid;
    }

pub tracers_stay_beside : TracersStayBeside
tracers_stay_beside = record {
  pids = λ m good. good.lawful.pids;
  unmarked = λ m good. good.unmarked;
  tame = tame-behind;
  beside = λ exec pid s m good tame same image. stays-beside exec pid s m good tame same image;
  waits = λ exec pid m n good tame good_there tame_there is. stays-waiting exec pid m n good tame good_there tame_there is;
  others = stays-behind;
}
