-- Machines that match, without the bytes that a turn put out.
use Rattle.std.proofs.Common.{ℕ, List, [], ap}
use Rattle.pt_results.specs.rv_mem.Layout.{Layout}
use Rattle.pt_results.specs.pt_bind.Tags.{TagTable}
use Rattle.law_places.specs.kr_view.View.{Row, plain}
use Rattle.law_places.specs.kr_model.Lawful.{IsLawful}
use Rattle.law_places.specs.kr_model.State.{Image, State}
use Rattle.kr_core.specs.kr_steps.Calls.{LastsLawful}
use Rattle.kr_core.specs.kr_turns.Run.{after_put, cleared}
use Rattle.kr_core.specs.kr_turns.Turn.{Machine}
use Rattle.law_places.specs.Matching.{IsMatch}
use Rattle.law_places.specs.Standing.{PlacesStand}
use Rattle.law_places.specs.Uses.{IsUse, Use, is_cwd, is_exe, is_open}
use Rattle.law_turns.specs.Runs.{GoTogether}

lawful_cleared : (table : List Row) (s : State ℕ Image) → IsLawful (λ m. m) table s → IsLawful (λ m. m) table (cleared s)
lawful_cleared table s l = record {
  tree = l.tree;
  mounts = l.mounts;
  processes = l.processes;
  files = l.files;
  pipes = l.pipes;
  descriptors = l.descriptors;
  uses = record { holds = l.uses.holds; counts = l.uses.counts; numbered = l.uses.numbered };
  room = l.room;
  pids = record { few = l.pids.few; living = l.pids.living; ended = l.pids.ended; apart = l.pids.apart };
  input = l.input;
}

lasts_cleared : (table : List Row) (calls : ℕ) (s : State ℕ Image) → LastsLawful (λ m. m) table calls s → LastsLawful (λ m. m) table calls (cleared s)
lasts_cleared table calls s l = record {
  lawful = lawful_cleared table s l.lawful;
  lasts = record { texts = l.lasts.texts; owners = l.lasts.owners; user = l.lasts.user; drawn = record { inodes = l.lasts.drawn.inodes; serials = l.lasts.drawn.serials; files = l.lasts.drawn.files; pipes = l.lasts.drawn.pipes; pids = l.lasts.drawn.pids } };
}

use_before : (s : State ℕ Image) (x : Use) → IsUse (cleared s) x → IsUse s x
use_before s x (is_cwd k p at) = is_cwd k p at
use_before s x (is_exe k p at) = is_exe k p at
use_before s x (is_open n o q at there) = is_open n o q at there

places_cleared : (table : List Row) (s : State ℕ Image) → PlacesStand table s → PlacesStand table (cleared s)
places_cleared table s stand = record { lawful = lawful_cleared table s stand.lawful; settled = stand.settled; sources = stand.sources; uses = λ x is. stand.uses x (use_before s x is) }

match_cleared : (table : List Row) (tags : TagTable) (s w : State ℕ Image) → IsMatch table tags s w → IsMatch table tags (cleared s) (cleared w)
match_cleared table tags s w m = record {
  bares = ap {B = State (Unit {0}) Layout} (λ (b : State (Unit {0}) Layout). record b { out = []; err = [] }) m.bares;
  images = record { registers = m.images.registers; memories = m.images.memories };
  tagged = record { cwds = m.tagged.cwds; exes = m.tagged.exes; open_files = m.tagged.open_files };
  placed = places_cleared table s m.placed;
}

pub go_cleared : {S T : Type 0} (tags_in : T → TagTable) (table : List Row) (made : ℕ) (m : Machine S) (n : Machine T) → GoTogether tags_in table made m n → GoTogether tags_in table made (after_put m) (after_put n)
go_cleared tags_in table made m n both = record {
  matches = record { states = match_cleared table (tags_in n.watcher) m.state n.state both.matches.states; statuses = both.matches.statuses };
  lasts = lasts_cleared table made m.state both.lasts;
  also_lasts = lasts_cleared plain made n.state both.also_lasts;
}
