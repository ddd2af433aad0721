use Rattle.std.proofs.Common.{ℕ, List, ap, subst}
use Rattle.std.specs.Option.{option_map}
use Rattle.kr_mounts.specs.Index.{IsNameNoted, IsKeyNoted, point_cmp, entry_cmp}
use Rattle.kr_mounts.specs.Stored.{row_of_mount, point_told}
use Rattle.kr_mounts.proofs.IndexLemmas.{index_more}
use Rattle.kr_mounts.proofs.mounted.note_mount.Goals as goal

pub returns : goal.returns
returns c = λ table long index.
    let p = c.in-Some.point in
    let name = c.in_ok-name.name in
    let Noted : List ℕ → ℕ → Type 0 = λ bytes n. IsNameNoted c.args.names.now bytes n c.note_name.new.names name in
    let Pointed : ℕ → Type 0 = λ n. IsKeyNoted point_cmp c.args.points.now (record { mount = p.mount; dir = p.dir; name = name }) n c.note_point.new.points in
    let Entered : ℕ → Type 0 = λ n. IsKeyNoted entry_cmp c.args.entries.now (record { dir = p.dir; name = name }) n c.note_entry.new.entries in
    index_more table (row_of_mount c.args.mount.now) c.args.names.now c.note_name.new.names c.args.points.now c.note_point.new.points c.args.entries.now c.note_entry.new.entries index
    (point_told p) name (ap (option_map point_told) c.in-Some.is)
    (subst (Noted p.name) long (subst (λ bytes. Noted bytes c.args.number) c.as_slice.ensures c.in_ok-name.ensures))
    (subst Pointed long c.in_ok-note_point.ensures)
    (subst Entered long c.in_ok-note_entry.ensures)
