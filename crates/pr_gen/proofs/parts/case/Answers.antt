use Rattle.std.proofs.Common.{length, ap, sym, subst, ◌∙◌, arith}
use Rattle.std.specs.Prelude.{Err}
use Rattle.kr_text.specs.kr_tree.Lawful.{AreBytes}
use Rattle.kr_text.specs.Reading.{listing_of}
use Rattle.kr_text.specs.Results.{IsListing}
use Rattle.kr_text.specs.declared.fault.ListFault.{ListFault}
use Rattle.pr_gen.specs.Listing.{case_listing}
use Rattle.pr_gen.proofs.WholeLemmas.{case_read}
use Rattle.pr_gen.proofs.parts.case.Goals as goal

pub unreachable-requires : goal.unreachable-requires
unreachable-requires c =
    let are : AreBytes c.as_slice-3.result.now = subst AreBytes (c.as_slice.ensures ∙ sym c.as_slice-3.ensures) c.are_bytes.ensures in
    let short = c.in_ok-file.ensures.short in
    let size = ap length c.as_slice-3.ensures in
    let read = case_read c.as_slice-3.result.now are (omega (arith, short, size)) c.args.n in
    let same = c.as_slice-2.ensures ∙ c.in_ok-listing.ensures.listing ∙ ap case_listing c.from.ensures in
    let bad = subst (λ (f : ListFault). IsListing (listing_of c.as_slice-3.result.now c.as_slice-2.result.now) (Err f)) c.in-Err-Bad.field-0-is c.in-Err-Bad.ensures.listing in
    let good = ap (listing_of c.as_slice-3.result.now) same ∙ read.1 in
    cc (bad, good)
