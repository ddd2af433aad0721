use Rattle.kr_seen.proofs.view.ProcView.carries_mounts.Goals as goal

pub returns : goal.returns
returns g c = record {
  sound = c.lawful_states_are_sound.ensures g.P.Places.number c.args.self.now.table c.args.self.now.state c.is_lawful.ensures.lawful c.is_lawful.ensures.served;
  tree = c.is_lawful.ensures.lawful.tree.sound;
  mounts = c.is_lawful.ensures.lawful.mounts;
}
