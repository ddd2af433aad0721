use Rattle.std.proofs.Common.{◌≡◌, ℕ, List, ◌-◌, ◌++◌, ◌∷◌, Option, length, arith, sym, ap, subst, ◌∙◌, append_assoc, length-append}
use Rattle.kr_seen.specs.kr_calls.DirectoryEntries.{entry_bytes, record_length}
use Rattle.kr_seen.specs.kr_model.DirectoryRows as model
use Rattle.kr_seen.specs.kr_model.DirectoryRows.{behind, fitting, listed_bytes}
use Rattle.kr_seen.specs.kr_model.Known.{known}
use Rattle.kr_seen.specs.kr_model.State.{image_layout}
use Rattle.kr_seen.specs.kr_ops.Meaning.{meaning}
use Rattle.kr_transfer.specs.declared.listing.Listed.{Listed}
use Rattle.kr_transfer.specs.Listing.{all_shown, last_from, told_entry, IsNextFitting}
use Rattle.kr_transfer.proofs.EntriesLemmas.{entry-length}
use Rattle.kr_transfer.proofs.entries.gather.Goals as goal

pub entries-preserved : goal.entries-preserved
entries-preserved g c =
    let all = all_shown (known image_layout c.args.pid (meaning c.args.state.now)) c.args.host in
    let e = c.in-Some.entry in
    let next = subst (λ (o : Option Listed). IsNextFitting all c.entries.last c.entries.left o) c.in-Some.is c.in_ok-entry.ensures.entry in
    let taken : c.record_length-left.result ≡ record_length e.name = c.record_length-left.ensures ∙ ap record_length c.as_slice-name.ensures in
    let one : List ℕ = entry_bytes e.inode e.serial e.kind e.name in
    let told : c.as_slice.result.now ≡ one = c.as_slice.ensures ∙ c.in_ok-told.ensures ∙ ap (entry_bytes e.inode e.serial e.kind) c.as_slice-name.ensures in
    let longer : c.append.new.self ≡ c.entries.bytes ++ one = c.in_ok-append.ensures.ok ∙ ap (λ b. c.entries.bytes ++ b) told in
    let after : ℕ → List model.Listed = λ n. fitting (c.entries.left - n) (behind e.serial all) in
    let rest = next.1 ∙ ap (λ n. told_entry e ∷ after n) (sym taken) in
    let long = ap length longer ∙ length-append c.entries.bytes one in
    let own = entry-length e.inode e.serial e.kind e.name in
    let fits = next.0 in
    let within = c.entries.invariant.within in
    record {
      bytes =
          c.entries.invariant.bytes ∙ ap (λ es. c.entries.bytes ++ listed_bytes es) rest
          ∙ sym (append_assoc c.entries.bytes one (listed_bytes (after c.record_length-left.result)))
          ∙ ap (λ b. b ++ listed_bytes (after c.record_length-left.result)) (sym longer);
      last = c.entries.invariant.last ∙ ap (last_from c.entries.last) rest;
      within = omega arith;
    }
