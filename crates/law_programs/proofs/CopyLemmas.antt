-- A list whose addresses were copied.
use Rattle.std.proofs.Common.{◌≡◌, ℕ, ◌+◌, ◌*◌, ◌%◌, ◌/◌, ◌^◌, ◌<◌, true, List, [], ◌∷◌, ◌++◌, drop, take, length, sym, ap, ◌∙◌, subst, arith}
use Rattle.std.specs.Prelude.{nat_eq}
use Rattle.std.proofs.Math.Seq.{drop-append_seam, take-append_seam}
use Rattle.kr_first.specs.pr_base.Fields.{little_endian}
use Rattle.kr_first.specs.rv_mem.Memory.{text_of}
use Rattle.kr_first.specs.rv_mem.Pages.{IsPlaced, Pages, allows_all, bytes_from}
use Rattle.kr_first.specs.rv_mem.declared.rights.Use.TheVariants.{Read}
use Rattle.kr_first.proofs.rv_mem.PagesLemmas.{bytes_from-add, length-bytes_from}
use Rattle.kr_first.specs.kr_exec.Lists.{most_bytes, next_address}
use Rattle.law_edits.proofs.RangeLemmas.{part_allowed}
use Rattle.law_edits.proofs.ReadLemmas.{one-allowed, page-there}
use Rattle.law_programs.specs.Lists.{AreEntries, IsEnd, IsEntry, IsList, ListsAreCopied, address_in}

-- an address that may be read is followed by one of no more than 64 bits
pub next-is : (m : Pages) (at : ℕ) → IsPlaced m → allows_all m at 8 Read ≡ true → next_address at ≡ at + 8
next-is m at placed e = by (placed (at / 4096) (page-there m (at / 4096) Read (one-allowed m at (part_allowed m at 8 at 1 Read (omega arith) (omega arith) e))))
  where
    by : at / 4096 < 67108863 → (at + 8) % 2 ^ 64 ≡ at + 8
    by low = omega arith

-- ---- equal bytes are equal in both parts

first-same : (w : Pages) (from to n k : ℕ) → bytes_from w from (n + k) ≡ bytes_from w to (n + k) → bytes_from w from n ≡ bytes_from w to n
first-same w from to n k same = sym (first from) ∙ ap (take n) same ∙ first to
  where
    first : (at : ℕ) → take n (bytes_from w at (n + k)) ≡ bytes_from w at n
    first at =
        ap (take n) (bytes_from-add w at n k) ∙ ap (λ size. take size (bytes_from w at n ++ bytes_from w (at + n) k)) (sym (length-bytes_from w at n))
        ∙ take-append_seam (bytes_from w at n) (bytes_from w (at + n) k)

later-same : (w : Pages) (from to n k : ℕ) → bytes_from w from (n + k) ≡ bytes_from w to (n + k) → bytes_from w (from + n) k ≡ bytes_from w (to + n) k
later-same w from to n k same = sym (later from) ∙ ap (drop n) same ∙ later to
  where
    later : (at : ℕ) → drop n (bytes_from w at (n + k)) ≡ bytes_from w (at + n) k
    later at =
        ap (drop n) (bytes_from-add w at n k) ∙ ap (λ size. drop size (bytes_from w at n ++ bytes_from w (at + n) k)) (sym (length-bytes_from w at n))
        ∙ drop-append_seam (bytes_from w at n) (bytes_from w (at + n) k)

-- ---- a list

entry-copied : (w : Pages) (from to : ℕ) (text : List ℕ) → bytes_from w from 8 ≡ bytes_from w to 8 → allows_all w to 8 Read ≡ true → IsEntry w from text → IsEntry w to text
entry-copied w from to text same allowed here =
    let address : address_in w to ≡ address_in w from = ap little_endian (sym same) in
    record { allowed = allowed; some = ap (λ n. nat_eq n 0) address ∙ here.some; stands = ap (λ n. text_of w n most_bytes) address ∙ here.stands }

pub lists_are_copied : ListsAreCopied
lists_are_copied w from to [] placed list same allowed end = subst (IsEnd w) (omega arith) end
lists_are_copied w from to (text ∷ texts) placed list same allowed end =
    let n = 8 * length texts in
    let size : 8 * length (text ∷ texts) ≡ 8 + n = omega arith in
    let both : bytes_from w from (8 + n) ≡ bytes_from w to (8 + n) = ap (bytes_from w from) (sym size) ∙ same ∙ ap (bytes_from w to) size in
    let first : allows_all w to 8 Read ≡ true = part_allowed w to (8 * length (text ∷ texts)) to 8 Read (omega arith) (omega arith) allowed in
    let rest : allows_all w (to + 8) n Read ≡ true = part_allowed w to (8 * length (text ∷ texts)) (to + 8) n Read (omega arith) (omega arith) allowed in
    let last : to + 8 * length (text ∷ texts) ≡ to + 8 + n = omega arith in (
      entry-copied w from to text (first-same w from to 8 n both) first list.0,
      subst (λ a. IsList w a texts) (sym (next-is w to placed first))
          (lists_are_copied w (from + 8) (to + 8) texts placed (subst (λ a. AreEntries w a texts) (next-is w from placed list.0.allowed) list.1) (later-same w from to 8 n both) rest (subst (IsEnd w) last end)),
    )
