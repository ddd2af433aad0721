use Rattle.std.proofs.Common.{◌≡◌, Some, sym, ◌∙◌}
use Rattle.std.specs.Option.{option_map}
use Rattle.kr_view.specs.kr_tree.pr_base.Paths.{text_of}
use Rattle.kr_view.specs.kr_tree.Names.{host_name}
use Rattle.kr_walk.proofs.NameLemmas.{below_where_there}
use Rattle.kr_walk.proofs.name.directory_name.Goals as goal

pub returns-in-Some : goal.returns-in-Some
returns-in-Some c =
    let is : Some c.in-Some.text ≡ option_map text_of (host_name c.args.tree.now c.args.ino) = sym c.in-Some.is ∙ c.in_ok-text.ensures in
    below_where_there (host_name c.args.tree.now c.args.ino) c.in-Some.text c.below_the_root.result (λ names h. (c.directories_have_host_names.ensures.lead c.args.ino names h).2) is c.below_the_root.ensures
