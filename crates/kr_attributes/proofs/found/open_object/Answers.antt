use Rattle.std.proofs.Common.{refl, sym, ap, ◌∙◌, w32}
use Rattle.std.proofs.Math.Facts.{to_z-of_z}
use Rattle.kr_seen.specs.kr_files.WithoutMounts.{without_mount}
use Rattle.kr_seen.specs.kr_model.Asking.{descriptor_number}
use Rattle.kr_seen.specs.kr_ops.Meaning.{meaning}
use Rattle.kr_attributes.proofs.FoundLemmas.{is-open, negative, not-open, same-object}
use Rattle.kr_attributes.proofs.found.open_object.Goals as goal

pub returns-in_default-clause-none : goal.returns-in_default-clause-none
returns-in_default-clause-none g c = λ next.
    negative c.args.pid (meaning c.args.state.now) c.args.fd next (ap descriptor_number (sym (to_z-of_z {w = w32} {z = c.args.fd} c.ranges.fd)) ∙ sym c.in_default.ensures)

pub returns-in-None-clause-none : goal.returns-in-None-clause-none
returns-in-None-clause-none g c = λ next.
    not-open c.args.pid (meaning c.args.state.now) c.args.fd next c.in-Some.number (ap descriptor_number (sym (to_z-of_z {w = w32} {z = c.args.fd} c.ranges.fd)) ∙ sym c.in-Some.ensures) (sym c.in-None.ensures)

pub returns-in-Some-opened-clause-some : goal.returns-in-Some-opened-clause-some
returns-in-Some-opened-clause-some g c = record {
  opened = without_mount c.in-Some-opened.opened.now;
  host = c.host_of.ensures ∙ same-object c.in-Some-opened.opened.now.place;
  what = refl;
  goes_on = λ next.
      is-open c.args.pid (meaning c.args.state.now) c.args.fd next c.in-Some.number (ap descriptor_number (sym (to_z-of_z {w = w32} {z = c.args.fd} c.ranges.fd)) ∙ sym c.in-Some.ensures)
      c.in-Some-opened.opened.now (sym c.in-Some-opened.ensures);
}
