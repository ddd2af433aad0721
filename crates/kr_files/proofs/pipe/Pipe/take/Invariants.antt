use Rattle.std.proofs.Common.{◌≡◌, take, drop, vec_len, vec_capacity, length}
use Rattle.std.specs.Prelude.{min}
use Rattle.kr_files.proofs.pipe.Pipe.take.Given as goal

abbrev pub invariant-loop : goal.invariant-loop
invariant-loop l = record {
  left : l.self-inside.bytes.items ≡ drop l.counter l.fn.self.bytes;
  moved : l.taken.items ≡ take l.counter l.fn.self.bytes;
  moved_count : vec_len l.taken ≡ l.counter;
  room : vec_capacity l.taken ≡ l.count;
  count : l.count ≡ min l.n (length l.fn.self.bytes);
  reader : l.self-inside.reader ≡ l.fn.self.reader;
  writer : l.self-inside.writer ≡ l.fn.self.writer;
}
