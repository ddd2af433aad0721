use Rattle.std.proofs.Common.{◌≡◌, ◌+◌, ◌-◌, ◌≤◌, true, length}
use Rattle.kr_calls.specs.rv_mem.Actions.{carried_out}
use Rattle.kr_calls.specs.Expansion.{bytes_with_ends}
use Rattle.kr_exec.specs.Lists.{texts_from, most_texts}
use Rattle.kr_exec.proofs.ListLemmas.{front}
use Rattle.kr_exec.proofs.lists.read_texts.Given as goal

abbrev pub invariant-addresses : goal.invariant-addresses
invariant-addresses g l = record {
  rest : carried_out (texts_from most_texts l.at l.fn.room) l.fn.mem ≡ front l.texts (carried_out (texts_from (most_texts - length l.texts) l.next l.room) l.mem);
  pages : l.mem.pages ≡ l.fn.mem.pages;
  kept : l.fn.mem.read_marked ≡ true → l.mem.read_marked ≡ true;
  room : l.room + bytes_with_ends l.texts ≡ l.fn.room;
  few : length l.texts ≤ most_texts;
}

abbrev pub decreases-addresses : goal.decreases-addresses
decreases-addresses g l = most_texts - length l.texts
