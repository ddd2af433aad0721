use Rattle.kr_walk.specs.kr_tree.Names.{host_name}
use Rattle.kr_mounts.proofs.SourceLemmas.{text_told}
use Rattle.kr_mounts.proofs.source.directory_text.Goals as goal

pub returns : goal.returns
returns c =
    let told = text_told (host_name c.args.tree.now c.args.dir) c.in_ok-text.text c.in_ok-text.ensures (λ names h. (c.directories_have_host_names.ensures.lead c.args.dir names h).2) in
    record { names = told.0; written = told.1 }
