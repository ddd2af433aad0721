use Rattle.std.proofs.Common.{◌≡◌, ◌≤◌, ◌+◌, ◌-◌, ◌++◌, take, length}
use Rattle.std.specs.Prelude.{min}
use Rattle.std.specs.VecDeque.{deque_len, deque_capacity}
use Rattle.kr_files.proofs.pipe.Pipe.put.Given as goal

abbrev pub invariant-loop-byte : goal.invariant-loop-byte
invariant-loop-byte l = record {
  held : l.self-inside.bytes.items ≡ l.fn.self.bytes ++ take l.byte-index l.b;
  room : deque_len l.self-inside.bytes + (l.count - l.byte-index) ≤ deque_capacity l.self-inside.bytes;
  within : l.byte-index ≤ l.count;
  count : l.count ≡ min (length l.b) (65536 - length l.fn.self.bytes);
  short : length l.fn.self.bytes ≤ 65536;
  given : l.byte-items ≡ take l.count l.b;
  reader : l.self-inside.reader ≡ l.fn.self.reader;
  writer : l.self-inside.writer ≡ l.fn.self.writer;
}
