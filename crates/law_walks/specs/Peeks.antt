-- What peeks are to walks of a kernel: they tell what its own walks over the host's view find, where a last link isn't followed.
use Rattle.std.specs.Prelude.{◌≡◌, ℕ, List, Option, Some, None, Result, Ok, Err}
use Rattle.pt_canon.specs.pr_base.Peeks.{Peeked}
use Rattle.pt_canon.specs.pr_base.WalkFrame.{Fails, Missing, Leads, Links, Jumps}
use Rattle.pt_canon.specs.pr_base.declared.errno.Errno.{Errno}
use Rattle.pt_canon.specs.pr_base.declared.path.WalkMode.TheVariants.{LookLink}
use Rattle.kr_mounts.specs.kr_tree.declared.place.ProcAt.{ProcAt}
use Rattle.kr_mounts.specs.kr_view.declared.procs.Lead.{Lead}
use Rattle.kr_mounts.specs.kr_view.Component.{SeenPlace, Surroundings}
use Rattle.kr_mounts.specs.kr_view.View.{plain, root_place}
use Rattle.kr_mounts.specs.kr_view.Walk.{PlaceTarget, place_walk}
pub use Rattle.kr_model.specs.Peeks.{at_found, kind_along, kind_of_answer, kind_seen}

-- the same tree, user and names of processes over the host's own view, where links of the process directory have leads of
-- their own
abbrev pub over_host : Surroundings → (ProcAt → Lead ℕ) → Surroundings
over_host around leads = record {
  space = record { table = plain; tree = around.space.tree; user = around.space.user; finds = around.space.finds };
  leads = leads;
}

-- the text of a link that has one
abbrev pub text_seen : SeenPlace → Option (List ℕ)
text_seen (Fails e) = None
text_seen Missing = None
text_seen (Leads is_dir p found) = None
text_seen (Links found text) = Some text
text_seen (Jumps found lead) = None

abbrev pub text_of_answer : Surroundings → Result PlaceTarget Errno → Option (List ℕ)
text_of_answer host (Ok target) = at_found host None text_seen target.found
text_of_answer host (Err e) = None

abbrev pub text_along : Surroundings → List ℕ → Option (List ℕ)
text_along host path = text_of_answer host (place_walk host LookLink (root_place host.space.table) path).answer

-- a tracer is told the kind of what each host path leads to, and the text of each link that has one
pub record ArePeeks (peeked : Peeked) (host : Surroundings) : Type 0 where
  pub kind : (path : List ℕ) → peeked.kind path ≡ kind_along host path
  pub link_text : (path text : List ℕ) → text_along host path ≡ Some text → peeked.link_text path ≡ Ok text
