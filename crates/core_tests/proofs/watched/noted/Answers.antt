use Rattle.std.proofs.Common.{lit<}
use Rattle.core_tests.proofs.watched.noted.Goals as goal

pub start-requires : goal.start-requires
start-requires g c =
    let ready = c.in_ok-tree.ensures in
    let first = c.in_ok-first.ensures in
    (lit< tt, (lit< tt, (ready.stands, (lit< tt, (ready.free, (ready.lasts, (ready.named, (first.text, (first.cwd, tt)))))))))
