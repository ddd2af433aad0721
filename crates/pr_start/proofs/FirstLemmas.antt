-- A plain kernel can begin with the first process that a tracer found.
use Rattle.std.proofs.Common.{◌≡◌, Bool, List, sym, ap, subst, ◌∙◌}
use Rattle.std.specs.Prelude.{Ok}
use Rattle.pt_tracer.specs.kr_inode.declared.user.User.{User}
use Rattle.kr_core.specs.kr_tree.Tree.{Tree}
use Rattle.kr_core.specs.kr_view.Processes.{no_finds}
use Rattle.kr_core.specs.kr_view.View.{Row, plain}
use Rattle.kr_core.specs.kr_mounts.Standing.{texts_of}
use Rattle.kr_core.specs.law_allowed.Texts.{IsText}
use Rattle.kr_core.specs.kr_first.Started.{LeadsToDirectory}
use Rattle.kr_core.specs.kr_first.declared.starting.First.{First}
use Rattle.kr_core.specs.law_walks.Settled.{IsSettled}
use Rattle.pt_tracer.specs.pr_base.MountText.{MountText}
use Rattle.pt_tracer.specs.pt_bind.Tags.{TagTable}
use Rattle.pt_first.specs.GuestStart.{IsBegunNoting, guest_start}
use Rattle.pt_first.specs.Laws.{FirstsCanStart}
use Rattle.pt_first.specs.pr_words.declared.launch.Launch.{Launch}
use Rattle.pr_start.specs.TracedBeginning.{texts_before}

pub can-start : FirstsCanStart → (met : Bool) (table : List Row) (tree : Tree) (user : User) (bindings : List MountText) (old new : TagTable) (launch : Launch) (first : First) → IsSettled (record { table = table; tree = tree; user = user; finds = no_finds })
    → bindings ≡ texts_of table → IsBegunNoting met (guest_start (record { bindings = bindings; peeked = (texts_before bindings tree user).peeked; tags = old }) launch) old new (Ok first)
    → IsText first.path × LeadsToDirectory plain tree user first.cwd
can-start law met table tree user bindings old new launch first settled same begun =
    let of = law table tree user old launch begun.0 settled (ap (λ (b : List MountText). guest_start (record { bindings = b; peeked = (texts_before b tree user).peeked; tags = old }) launch) (sym same) ∙ begun.1) in
    subst (λ (f : First). IsText f.path × LeadsToDirectory plain tree user f.cwd) (sym begun.2) of
