-- Settling keeps the laws of a tree, and so gives what both machines can begin on.
use Rattle.std.proofs.Common.{◌≡◌, ◌∙◌, ◌&&◌, ℕ, Bool, true, false, not, List, [], length, ap, refl}
use Rattle.pr_top.specs.kr_inode.declared.user.Right.TheVariants.{Write, Search}
use Rattle.pr_top.specs.kr_inode.declared.user.User.{User}
use Rattle.pr_top.specs.kr_tree.Changes.{has_no_room, is_too_big}
use Rattle.pr_top.specs.kr_tree.Lawful.{HasNoUnused, IsCounted, IsSound}
use Rattle.pr_top.specs.kr_tree.Names.{is_name}
use Rattle.pr_top.specs.kr_tree.Rights.{may}
use Rattle.pr_top.specs.kr_tree.Tree.{Tree, bytes_of, entries_of}
use Rattle.pr_top.proofs.kr_tree.AddLemmas.{used-added}
use Rattle.pr_top.proofs.kr_tree.CountLemmas.{there}
use Rattle.pr_top.specs.kr_mounts.Growth.{IsGrown, Same, Made}
use Rattle.pr_top.specs.kr_mounts.MountTable.{settling}
use Rattle.pr_top.specs.kr_mounts.Points.{new_body, new_mode}
use Rattle.pr_top.proofs.kr_mounts.BeforeLemmas.{grown_trees_have_all_before}
use Rattle.pr_top.proofs.kr_mounts.GrowthLemmas.{settling_makes_names_alone}
use Rattle.law_starts.proofs.kr_start.ReadyLemmas.{settled-prepared}
use Rattle.law_starts.proofs.law_walks.StartLemmas.{settled_bindings_are_settled}
use Rattle.law_starts.proofs.SourceLemmas.{settled-sources-are-named}
use Rattle.law_machines.specs.GivenOpenings.{SettledIsOpening}

-- ---- a name that is made

no-entries : (is_dir : Bool) → entries_of (new_body is_dir) ≡ []
no-entries true = refl
no-entries false = refl

no-bytes : (is_dir : Bool) → bytes_of (new_body is_dir) ≡ []
no-bytes true = refl
no-bytes false = refl

is-small : (is_dir : Bool) → is_too_big (new_body is_dir) ≡ false
is-small true = refl
is-small false = refl

negated : (b : Bool) → not b ≡ true → b ≡ false
negated true h = absurd cc
negated false h = refl

four : (a b c d : Bool) → (a && (b && (c && d))) ≡ true → (a ≡ true) × (d ≡ true)
four true true true d h = (refl, h)
four true true false d h = absurd cc
four true false c d h = absurd cc
four false b c d h = absurd cc

-- ---- what settling keeps

-- each name that is made has its inode
grown-used : (user : User) (t : Tree) → IsSound t → IsCounted t → HasNoUnused t → (u : Tree) → IsGrown user t u → HasNoUnused u
grown-used user t sound counted used u Same = used
grown-used user t sound counted used _ (Made {u} dir name is_dir so_far takes free may_be) =
    let before = grown_trees_have_all_before user t u sound counted so_far in
    let tests = four (is_name name) (may u user dir Write) (may u user dir Search) (not (has_no_room 0 u)) may_be in
    let room : has_no_room (length (bytes_of (new_body is_dir))) u ≡ false = ap (λ (bytes : List ℕ). has_no_room (length bytes) u) (no-bytes is_dir) ∙ negated (has_no_room 0 u) tests.1 in
    used-added u before.sound before.counted dir name (new_mode is_dir) user.uid user.gid (new_body is_dir) takes tests.0 free (no-entries is_dir) (is-small is_dir) room (grown-used user t sound counted used u so_far)

pub settled-is-opening : SettledIsOpening
settled-is-opening t user root binds table of kept numbered answer bytes =
    let u = (settling t user root binds).tree in
    let grown = settling_makes_names_alone t user root binds in
    let before = grown_trees_have_all_before user t u kept.sound kept.counted grown in
    record {
      kept = record { sound = before.sound; counted = before.counted; used = grown-used user t kept.sound kept.counted kept.used u grown; bytes = bytes };
      prepared = settled-prepared t u user root binds table of kept (there t kept.sound kept.counted) numbered grown refl answer settled_bindings_are_settled;
      sources = settled-sources-are-named t user root binds table kept.sound kept.counted answer;
    }
