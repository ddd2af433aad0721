-- A memory, what a process computes on, and a state without marks: the same pages, rights and bytes, no byte marked, and nothing told
-- of marked bytes that were read.
use Rattle.std.specs.Prelude.{false, map as map_list}
use Rattle.kr_turns.specs.rv_cpu.Run.{Ran}
use Rattle.kr_turns.specs.kr_model.pr_base.Maps.{mapped}
use Rattle.kr_turns.specs.kr_model.rv_mem.Actions.{CarriedOut}
use Rattle.kr_turns.specs.kr_model.rv_mem.Marks.{no_marks}
use Rattle.kr_turns.specs.kr_model.rv_mem.Memory.{Memory}
use Rattle.kr_turns.specs.kr_model.rv_mem.Page.{PageState}
use Rattle.kr_turns.specs.kr_model.rv_mem.Pages.{Pages}
use Rattle.kr_turns.specs.kr_model.Applied.{with_image, with_living}
use Rattle.kr_turns.specs.kr_model.Change.{Change, ReplaceImage}
use Rattle.kr_turns.specs.kr_model.State.{Image, State}

abbrev pub unmarked_page : PageState → PageState
unmarked_page p = record { bytes = p.bytes; rights = p.rights; marks = no_marks }

abbrev pub unmarked_pages : Pages → Pages
unmarked_pages m = mapped (λ n p. unmarked_page p) m

abbrev pub unmarked : Memory → Memory
unmarked m = record { pages = unmarked_pages m.pages; read_marked = false }

-- ---- what actions and instructions leave

abbrev pub unmarked_done : {A : Type 0} → CarriedOut A → CarriedOut A
unmarked_done done = record { reply = done.reply; memory = unmarked done.memory }

abbrev pub unmarked_end : Ran → Ran
unmarked_end end = record { event = end.event; regs = end.regs; memory = unmarked end.memory; done = end.done }

-- ---- a state

abbrev pub unmarked_image : Image → Image
unmarked_image image = record { regs = image.regs; memory = unmarked image.memory }

abbrev pub unmarked_in : {M : Type 0} → State M Image → State M Image
unmarked_in s = with_living (map_list (with_image unmarked_image)) s

-- a new program without marks
abbrev pub unmarked_change : Change → Change
unmarked_change (ReplaceImage image brk) = ReplaceImage (unmarked_image image) brk
unmarked_change c = c
