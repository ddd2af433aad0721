-- A program that was accepted begins with a memory that a process can have.
use Rattle.std.specs.FinMap as map
use Rattle.std.proofs.Common.{◌≡◌, ◌+◌, ◌-◌, ◌≤◌, ℕ, false, ◌||◌, List, [], ◌∷◌, length, None, arith}
use Rattle.std.specs.Prelude.{nat_lt}
use Rattle.std.specs.List.{All}
use Rattle.std.proofs.lemmas.Bool.Decides.{nat_tests}
use Rattle.std.proofs.lemmas.List.Elements.{All-head, All-tail}
use Rattle.kr_first.specs.rv_mem.Pages.{IsPlaced, IsWhole, Pages, mapped}
use Rattle.kr_first.proofs.rv_mem.SpaceLemmas.{IsPlaced-empty, IsPlaced-mapped, IsPlaced-written, IsWhole-empty, IsWhole-mapped, IsWhole-written}
use Rattle.kr_first.specs.elf_read.Plans.{IsSound, plan_of, planned}
use Rattle.kr_first.specs.elf_read.Rules.{first_broken}
use Rattle.kr_first.specs.elf_read.declared.plan.Segment.{Segment}
use Rattle.kr_first.specs.elf_load.Image.{end_page, file_bytes, first_page, image_pages, rights_in, stack_rights, with_segment, with_segments, with_stack}
use Rattle.kr_first.proofs.elf_load.ImageLemmas.{sound_plan}
use Rattle.kr_first.specs.kr_exec.Interpreters.{bytes_at}
use Rattle.kr_first.specs.kr_exec.declared.plan.ExecPlan.{ExecPlan}
use Rattle.kr_first.specs.Starting.{exceeds, image_of}
use Rattle.kr_first.specs.kr_tree.Tree.{Tree}
use Rattle.law_programs.specs.Images.{IsImage}

-- whole pages, all of them below the last address
record IsFine (m : Pages) : Type 0 where
  whole : IsWhole m
  placed : IsPlaced m

module _ (file : List ℕ) where
  segment-fine : (m : Pages) (s : Segment) → IsSound (length file) s → IsFine m → IsFine (with_segment file m s)
  unfolding with_segment
  segment-fine m s sound fine =
      let pages = mapped m (first_page s) (end_page s - first_page s) (rights_in s.flags) in
      let below = sound.below in
      record {
        whole = IsWhole-written pages s.at (file_bytes file s) (IsWhole-mapped m (first_page s) (end_page s - first_page s) (rights_in s.flags) fine.whole);
        placed = IsPlaced-written pages s.at (file_bytes file s) (IsPlaced-mapped m (first_page s) (end_page s - first_page s) (rights_in s.flags) (omega (arith, below)) fine.placed);
      }

  segments-fine : (m : Pages) (segments : List Segment) → All (IsSound (length file)) segments → IsFine m → IsFine (with_segments file m segments)
  unfolding with_segments
  segments-fine m [] sound fine = fine
  segments-fine m (s ∷ segments) sound fine =
      segments-fine (with_segment file m s) segments (All-tail (IsSound (length file)) s segments sound) (segment-fine m s (All-head (IsSound (length file)) s segments sound) fine)

stack-fine : (m : Pages) (sp : ℕ) (bytes : List ℕ) → IsFine m → IsFine (with_stack m sp bytes)
unfolding with_stack
stack-fine m sp bytes fine =
    record {
      whole = IsWhole-written (mapped m 67108607 256 stack_rights) sp bytes (IsWhole-mapped m 67108607 256 stack_rights fine.whole);
      placed = IsPlaced-written (mapped m 67108607 256 stack_rights) sp bytes (IsPlaced-mapped m 67108607 256 stack_rights (omega arith) fine.placed);
    }

few : (pages : ℕ) → (nat_lt 16384 pages || nat_lt 262144 (0 + pages)) ≡ false → pages ≤ 16384
few pages within = grind (arith, nat_tests)

pub image-is : {M : Type 0} (tree : Tree) (ids : List ℕ) (plan : ExecPlan M) → first_broken (bytes_at tree plan.place.host) ≡ None → plan.plan ≡ plan_of (bytes_at tree plan.place.host) → exceeds tree ids plan ≡ false → IsImage (image_of tree ids plan)
unfolding image_pages
image-is tree ids plan accepted read within =
    let file = bytes_at tree plan.place.host in
    let empty : IsFine map.empty = record { whole = IsWhole-empty; placed = IsPlaced-empty } in
    let fine = stack-fine _ _ _ (segments-fine file map.empty (planned plan.plan) (sound_plan file plan.plan accepted read) empty) in
    record { whole = fine.whole; paged = fine.placed; pages = few _ within }
