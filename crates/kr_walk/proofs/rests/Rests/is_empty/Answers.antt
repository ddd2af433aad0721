use Rattle.std.proofs.Common.{◌≡◌, ◌∙◌, ap, length, nat_eq, rules, vec_len}
use Rattle.kr_walk.proofs.StackLemmas.{none_left}
use Rattle.kr_walk.proofs.rests.Rests.is_empty.Goals as goal

pub returns : goal.returns
returns c =
    let counted : vec_len c.args.self.now.list ≡ length c.args.self.now.list.items = search rules in
    none_left c.args.self.now.list.items c.is_empty.result c.args.self.now.begun (c.is_empty.ensures ∙ ap (λ n. nat_eq n 0) counted)
