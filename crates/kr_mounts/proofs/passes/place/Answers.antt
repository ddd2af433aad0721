use Rattle.std.proofs.Common.{List, ℕ, Ok, Err, sym, subst}
use Rattle.pt_bind.specs.Binding.{IsWritten}
use Rattle.pt_bind.specs.pr_base.Paths.{parts_of}
use Rattle.kr_mounts.specs.Found.{located_told}
use Rattle.kr_mounts.specs.Passes.{standing}
use Rattle.kr_mounts.specs.Stored.{table_of}
use Rattle.kr_mounts.specs.Ways.{IsEnded, wanted_of, way_of}
use Rattle.kr_mounts.proofs.MountLemmas.{placed_memory, placed_nowhere, placed_there}
use Rattle.kr_mounts.proofs.passes.place.Goals as goal

pub along-requires : goal.along-requires
along-requires c = record { numbers = c.requires.numbers; text = subst IsWritten (sym c.as_slice.ensures) c.requires.texts.location }

pub mount_at-requires : goal.mount_at-requires
mount_at-requires c = record { texts = c.requires.texts; part = c.in-Ok.ensures.part }

pub returns-in_err-mount-in-Ok-clause-placed : goal.returns-in_err-mount-in-Ok-clause-placed
returns-in_err-mount-in-Ok-clause-placed c = placed_memory (standing c.args.user (table_of c.args.mounted) (located_told c.args.one) c.args.tree.now) c.along.new.tree _ c.from_residual.ensures.0 c.from_residual.ensures.1

pub with-requires : goal.with-requires
with-requires c = c.in_ok-mount-in-Ok.ensures.texts.location

pub returns-in_err-with-in-Ok-clause-placed : goal.returns-in_err-with-in-Ok-clause-placed
returns-in_err-with-in-Ok-clause-placed c = placed_memory (standing c.args.user (table_of c.args.mounted) (located_told c.args.one) c.args.tree.now) c.along.new.tree _ c.from_residual-in_err-with-in-Ok.ensures.0 c.from_residual-in_err-with-in-Ok.ensures.1

pub returns-in_ok-with-in-Ok-clause-placed : goal.returns-in_ok-with-in-Ok-clause-placed
returns-in_ok-with-in-Ok-clause-placed c =
    let P : List ℕ → Type 0 = λ b. IsEnded (way_of c.args.user (table_of c.args.mounted) (wanted_of (record { is_dir = c.args.one.source.is_dir; keep = c.args.one.keep })) c.args.tree.now (parts_of b)) c.along.new.tree (Ok c.in-Ok.point) in
    placed_there c.args.user c.args.mounted c.args.one c.args.tree.now c.along.new.tree c.requires.texts c.in-Ok.point c.in_ok-mount-in-Ok.mount c.in_ok-with-in-Ok.field-0 (subst P c.as_slice.ensures c.in-Ok.ensures.point) c.in_ok-mount-in-Ok.ensures.row c.in_ok-with-in-Ok.ensures

pub returns-in-Err-clause-placed : goal.returns-in-Err-clause-placed
returns-in-Err-clause-placed c =
    let P : List ℕ → Type 0 = λ b. IsEnded (way_of c.args.user (table_of c.args.mounted) (wanted_of (record { is_dir = c.args.one.source.is_dir; keep = c.args.one.keep })) c.args.tree.now (parts_of b)) c.along.new.tree (Err c.in-Err.stop) in
    placed_nowhere c.args.user c.args.mounted c.args.one c.args.tree.now c.along.new.tree c.requires.texts c.in-Err.stop c.fault_of.result (subst P c.as_slice.ensures c.in-Err.ensures.point) c.fault_of.ensures

pub returns-in_ok-with-in-Ok-clause-more : goal.returns-in_ok-with-in-Ok-clause-more
returns-in_ok-with-in-Ok-clause-more c = record { mount = c.in_ok-mount-in-Ok.mount; added = c.in_ok-with-in-Ok.ensures; spelled = c.in_ok-mount-in-Ok.ensures.texts }
