use Rattle.std.proofs.Common.{ℕ, ◌+◌, sym, ap, ◌∙◌}
use Rattle.std.specs.Bool.{if◌then◌else◌}
use Rattle.kr_seen.specs.kr_calls.declared.stat.Stat.{Stat}
use Rattle.kr_seen.specs.kr_procfs.Objects.{inode_number}
use Rattle.kr_seen.specs.kr_model.AttributeRows.{directory_size, process_links, s_directory, s_link, stat_of}
use Rattle.kr_seen.specs.kr_model.Known.{known}
use Rattle.kr_seen.specs.kr_model.State.{image_layout}
use Rattle.kr_seen.specs.kr_ops.Meaning.{meaning}
use Rattle.kr_attributes.proofs.stats.process_stat.Goals as goal

pub returns-then-is_process_directory : goal.returns-then-is_process_directory
returns-then-is_process_directory g c = λ pid.
    let k = known image_layout pid (meaning c.args.state.now) in
    let at = c.args.at in
    let directory : ℕ → ℕ → Stat = λ ino links. stat_of 2 ino (s_directory + 0x16d) links k.user.uid k.user.gid directory_size in
    let link : Stat = stat_of 2 (inode_number at) (s_link + 0x1ff) 1 k.user.uid k.user.gid 0 in
    c.stat_of.ensures
    ∙ ap (λ ino. directory ino c.process_links-links.result) c.proc_inode-ino.ensures
    ∙ ap (λ links. directory (inode_number at) links) (c.process_links-links.ensures pid)
    ∙ sym (ap (λ b. if b then directory (inode_number at) (process_links k at) else link) (sym c.is_process_directory.ensures ∙ c.if-is_process_directory.true))
