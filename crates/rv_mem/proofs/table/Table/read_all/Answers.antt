use Rattle.std.proofs.Common.{◌≡◌, ◌≤◌, ◌+◌, ◌-◌, sym, length, arith}
use Rattle.rv_mem.proofs.AccessLemmas.{bytes_from-zero, any_marked-zero, put_within, read_more, marked_more}
use Rattle.rv_mem.proofs.table.Table.read_all.Goals as goal

pub loop-done-init : goal.loop-done-init
loop-done-init g c = record {
  within = omega arith;
  bytes = sym (bytes_from-zero c.args.self.now c.args.at);
  marked = sym (any_marked-zero c.args.self.now c.args.at);
}

pub loop-done-preserved : goal.loop-done-preserved
loop-done-preserved g c =
    let within : c.loop-done.done + c.min-count.result ≤ length c.loop-done.into = omega (arith, c.min-count.ensures) in
    let count : c.loop-done.done + c.min-count.result - c.loop-done.done ≡ c.min-count.result = omega arith in
    record {
      within = put_within c.loop-done.done c.min-count.result _ c.loop-done.into c.read-seen.new.into within count c.read-seen.auto.into;
      bytes = read_more c.args.self.now c.args.at c.loop-done.done c.min-count.result _ c.loop-done.into c.read-seen.new.into c.loop-done.invariant.bytes within count c.read-seen.ensures.bytes;
      marked = marked_more c.args.self.now c.args.at c.loop-done.done c.min-count.result _ c.loop-done.into c.loop-done.marked c.read-seen.result c.loop-done.invariant.marked within count c.read-seen.ensures.marked;
    }
