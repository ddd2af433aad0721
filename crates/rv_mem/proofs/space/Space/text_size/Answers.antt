use Rattle.std.proofs.Common.{◌∙◌, ◌-◌, Ok, sym, ap}
use Rattle.rv_mem.specs.Memory.{Memory, size_of_text, text_of}
use Rattle.rv_mem.specs.Pages.{bytes_from}
use Rattle.rv_mem.specs.Scan.{text_from}
use Rattle.rv_mem.proofs.PagesLemmas.{length-bytes_from}
use Rattle.rv_mem.proofs.space.Space.text_size.Goals as goal
use Rattle.rv_mem.proofs.space.Space.text_size.Goals.{in-Zero, in-Unreadable, in-Limit}

pub returns-clause-size : goal.returns-clause-size
returns-clause-size g c =
    let pages = c.self.inside.pages in
    let bytes = bytes_from pages c.args.at (c.scan-scan.result.reach - 1) in
    let told = ap (λ (m : Memory). size_of_text (text_of m.pages c.args.at c.args.max)) (sym c.self.view_is)
    ∙ ap (λ most. size_of_text (text_of pages c.args.at most)) (sym c.from.ensures)
    ∙ ap size_of_text c.scan-scan.ensures.text in
    elim c.match-scan.branch [
      | in-Zero w ↦ w.result-is ∙ ap Ok (sym (length-bytes_from pages c.args.at (c.scan-scan.result.reach - 1)))
          ∙ ap (λ end. size_of_text (text_from end bytes)) (sym w.in-Zero.is) ∙ sym told
      | in-Unreadable w ↦ w.result-is ∙ ap (λ end. size_of_text (text_from end bytes)) (sym w.in-Unreadable.is) ∙ sym told
      | in-Limit w ↦ w.result-is ∙ ap (λ end. size_of_text (text_from end bytes)) (sym w.in-Limit.is) ∙ sym told
    ]
