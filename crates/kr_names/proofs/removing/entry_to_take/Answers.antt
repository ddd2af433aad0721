use Rattle.std.proofs.Common.{sym, ap, ◌∙◌}
use Rattle.kr_seen.specs.kr_model.Known.{known}
use Rattle.kr_seen.specs.kr_model.NameRows.{take_entry}
use Rattle.kr_seen.specs.kr_model.State.{image_layout}
use Rattle.kr_seen.specs.kr_ops.Meaning.{meaning}
use Rattle.kr_seen.specs.Told.{entered_told}
use Rattle.kr_names.proofs.NodeLemmas.{if-false, if-true, meta-there, node-known}
use Rattle.kr_names.proofs.TakeLemmas.{by-sticky, directory-refuses}
use Rattle.kr_names.proofs.removing.entry_to_take.Goals as goal

pub returns-in-Err-clause-row : goal.returns-in-Err-clause-row
returns-in-Err-clause-row g c = λ pid next.
    directory-refuses (known image_layout pid (meaning c.args.state.now)) (entered_told c.args.entered) c.args.found c.in-Err.errno (c.in-Err.ensures.row pid) next

pub returns-then-is_kept_by_sticky-clause-row : goal.returns-then-is_kept_by_sticky-clause-row
returns-then-is_kept_by_sticky-clause-row g c = λ pid next.
    let s = meaning c.args.state.now in
    let x = meta-there c.args.state.now.tree c.in-Node.ino c.in-Some.node c.in-Some.ensures in
    let y = meta-there c.args.state.now.tree c.in-Ok.dir c.in-Some-meta.above c.in-Some-meta.ensures in
    ap (λ h. take_entry (known image_layout pid s) (entered_told c.args.entered) h next) c.in-Node.is
    ∙ by-sticky pid s (entered_told c.args.entered) c.in-Ok.dir (c.in-Ok.ensures.row pid) c.in-Node.ino x.0 y.0 x.1 y.1 next
    ∙ if-true _ _ _ (sym (c.is_kept_by_sticky.ensures y.0 x.0 y.2 x.2) ∙ c.if-is_kept_by_sticky.true)

pub returns-else-is_kept_by_sticky-clause-row : goal.returns-else-is_kept_by_sticky-clause-row
returns-else-is_kept_by_sticky-clause-row g c = λ pid.
    let s = meaning c.args.state.now in
    let x = meta-there c.args.state.now.tree c.in-Node.ino c.in-Some.node c.in-Some.ensures in
    let y = meta-there c.args.state.now.tree c.in-Ok.dir c.in-Some-meta.above c.in-Some-meta.ensures in
    record {
      node = x.0.node;
      directory = (c.in-Ok.ensures.row pid).host;
      object = c.in-Node.is;
      there = node-known pid s c.in-Node.ino x.0 x.1;
      goes_on = λ next.
          ap (λ h. take_entry (known image_layout pid s) (entered_told c.args.entered) h next) c.in-Node.is
          ∙ by-sticky pid s (entered_told c.args.entered) c.in-Ok.dir (c.in-Ok.ensures.row pid) c.in-Node.ino x.0 y.0 x.1 y.1 next
          ∙ if-false _ _ _ (sym (c.is_kept_by_sticky.ensures y.0 x.0 y.2 x.2) ∙ c.if-is_kept_by_sticky.false);
    }
