use Rattle.std.proofs.Common.{◌≡◌, ◌∷◌, length, sym, ap, subst, ◌∙◌, arith, Err}
use Rattle.kr_text.specs.Reading.{read_from, counted}
use Rattle.kr_text.specs.Results.{IsListing}
use Rattle.kr_text.proofs.ReadLemmas.{more_read, fault_read, last_read, cut_read, is_listing}
use Rattle.kr_text.proofs.listing.read_lines.Goals as goal

pub returns-in_err-read_line-clause-listing : goal.returns-in_err-read_line-clause-listing
returns-in_err-read_line-clause-listing c =
    let main = subst (λ r. IsListing r (Err c.in_err-read_line.field-0.0)) c.loop-next.invariant.0 (fault_read c.args.elf.now c.loop-next.number c.loop-next.line.now c.in-Some.next.now c.loop-next.lines c.next.new.self c.loop-next.so_far c.read_line.new.so_far c.in_err-read_line.field-0.0 c.in-Some.ensures c.in_err-read_line.ensures.value) in
    grind (arith, main)

pub loop-next-preserved : goal.loop-next-preserved
loop-next-preserved c =
    let n : c.saturating_add-number.result ≡ counted c.loop-next.number = omega (arith, c.saturating_add-number.ensures) in (
      ap (λ k. read_from c.args.elf.now k (c.in-Some.next.now ∷ c.next.new.self) c.read_line.new.so_far) n
          ∙ sym (more_read c.args.elf.now c.loop-next.number c.loop-next.line.now c.in-Some.next.now c.loop-next.lines c.next.new.self c.loop-next.so_far c.read_line.new.so_far c.in-Some.ensures c.in_ok-read_line.ensures.value)
          ∙ c.loop-next.invariant.0,
      c.in_ok-read_line.ensures.drawn,
    )

pub returns-then-is_empty-clause-listing : goal.returns-then-is_empty-clause-listing
returns-then-is_empty-clause-listing c =
    let none : length c.loop-next.line.now ≡ 0 = grind arith in
    is_listing _ _ (sym c.loop-next.invariant.0 ∙ last_read c.args.elf.now c.loop-next.number c.loop-next.line.now c.loop-next.lines c.loop-next.so_far c.in_default.ensures.0 none ∙ sym c.finished.ensures.value)

pub returns-else-is_empty-clause-listing : goal.returns-else-is_empty-clause-listing
returns-else-is_empty-clause-listing c =
    sym c.loop-next.invariant.0 ∙ cut_read c.args.elf.now c.loop-next.number c.loop-next.line.now c.loop-next.lines c.loop-next.so_far c.in_default.ensures.0 (λ none. grind (arith, none))
