use Rattle.std.proofs.Common.{◌≡◌, Some, refl, sym, ap, subst, ◌∙◌}
use Rattle.std.specs.Prelude.{IsSome}
use Rattle.kr_core.specs.kr_first.Starting.{directory_at}
use Rattle.kr_core.specs.kr_mounts.Stored.{table_of}
use Rattle.kr_core.specs.kr_view.Leads.{numbered}
use Rattle.pt_first.specs.pr_words.Command.{word_of}
use Rattle.pr_start.specs.Command.{Chosen, chosen}
use Rattle.pr_start.specs.Directory.{At}
use Rattle.pr_start.specs.Numbers.{directory_told, number_of}
use Rattle.pr_start.proofs.BeginLemmas.{begins-as}
use Rattle.pr_start.proofs.SearchLemmas.{directory-leads, text-chosen}
use Rattle.pr_start.proofs.starting.prepare.Goals as goal

pub returns-clause-prepared : goal.returns-clause-prepared
returns-clause-prepared c =
    let table = table_of c.args.stage.now.places in
    let tree = c.args.stage.now.tree in
    let user = c.args.stage.now.user in
    let launch = c.args.launch in
    let at = directory_told c.in-Ok.directory in
    let found : Chosen = record { path = c.in-Ok-Some.field-0; reach = c.choose.new.reach } in
    let found-is : found ≡ chosen table tree user at.place launch.env (word_of launch.command) c.working_directory.new.reach =
    c.in-Ok-Some.ensures ∙ ap (λ w. chosen table tree user at.place launch.env w c.working_directory.new.reach) c.word_of.ensures in
    λ watch input. begins-as table tree user watch launch input at c.working_directory.new.reach found c.in-Ok-Some.path c.in-Ok-arguments.args c.in-Ok.ensures.directory c.in-Ok.ensures.reach found-is c.in-Ok-Some.field-0-is c.in-Ok-arguments.ensures

pub returns-clause-text : goal.returns-clause-text
returns-clause-text c =
    let table = table_of c.args.stage.now.places in
    let tree = c.args.stage.now.tree in
    let user = c.args.stage.now.user in
    let base = numbered number_of c.in-Ok.directory.place in
    let found : (chosen table tree user base c.args.launch.env (word_of c.args.launch.command) c.working_directory.new.reach).path ≡ Some c.in-Ok-Some.path =
    ap (λ w. (chosen table tree user base c.args.launch.env w c.working_directory.new.reach).path) (sym c.word_of.ensures) ∙ sym (ap (λ (x : Chosen). x.path) c.in-Ok-Some.ensures) ∙ c.in-Ok-Some.field-0-is in
    text-chosen table tree user base c.args.launch.env c.args.launch.command c.working_directory.new.reach c.in-Ok-Some.path c.requires.launch.env c.requires.launch.command found

pub returns-clause-cwd : goal.returns-clause-cwd
returns-clause-cwd c =
    let table = table_of c.args.stage.now.places in
    let tree = c.args.stage.now.tree in
    let user = c.args.stage.now.user in
    let base = numbered number_of c.in-Ok.directory.place in
    let leads = directory-leads table tree user c.args.launch.cwd c.roots_are_directories.ensures c.requires.ready.prepared.stands in
    let at : directory_at table tree user c.in-Ok.directory.path ≡ Some base =
    ap (λ (d : At). directory_at table tree user d.path) c.in-Ok.ensures.directory ∙ leads ∙ ap (λ (d : At). Some d.place) (sym c.in-Ok.ensures.directory) in
    subst IsSome (sym at) refl
