use Rattle.std.proofs.Common.{refl}
use Rattle.kr_exec.proofs.ListLemmas.{address_read, address_refused}
use Rattle.kr_exec.proofs.lists.read_address.Goals as goal

pub returns-in-Some : goal.returns-in-Some
returns-in-Some g c =
    let h = c.in-Some.ensures.some in
    address_read c.args.at c.args.mem.now c.read_number.new.mem _ c.in-Some.address h.0 refl h.2 h.1

pub returns-in-None : goal.returns-in-None
returns-in-None g c =
    let h = c.in-None.ensures.none refl in
    rw h.1 (address_refused c.args.at c.args.mem.now h.0)
