use Rattle.kr_seen.specs.kr_ops.Meaning.{meaning}
use Rattle.kr_hostview.proofs.HostLemmas.{plain-mounts}
use Rattle.kr_hostview.proofs.target.carries_one_mount.Goals as goal

pub returns : goal.returns
returns g c = record {
  sound = c.lawful_states_are_sound.ensures c.requires.number c.requires.table c.args.state.now c.requires.lawful c.requires.served;
  tree = c.requires.lawful.tree.sound;
  mounts = plain-mounts c.requires.number c.requires.table (meaning c.args.state.now) c.requires.lawful;
}
