use Rattle.std.proofs.Common.{◌≡◌, ◌∙◌, ℕ, take, drop, sym, ap, nat_eq, true, Option, Some, None, if◌then◌else◌, w32}
use Rattle.std.specs.Int.{to_le_bytes}
use Rattle.std.specs.Option.{SomeIff, option_eq}
use Rattle.std.proofs.Math.Seq.{sets}
use Rattle.kr_inode.specs.pr_base.Fields.{little_endian}
use Rattle.pt_ident.proofs.showing.show.Goals as goal

-- a field that was read and found to be a number is that number
is_own : (field : Option ℕ) (P : Type 0) (value own : ℕ) → SomeIff field P value → true ≡ option_eq nat_eq field (Some own) → nat_eq value own ≡ true
is_own None P value own read same = absurd (cc)
is_own (Some x) P value own read same = let is : x ≡ value = read.1 in cc

pub returns-then-eq : goal.returns-then-eq
returns-then-eq c =
    let old = c.args.bytes.now in
    let own : nat_eq (little_endian (take 4 (drop c.args.at old))) c.args.own ≡ true = is_own c.field_u32.result _ _ c.args.own c.field_u32.ensures c.if-eq.ensures in
    c.put.ensures ∙ sym (ap (λ test. if test then sets old c.args.at (to_le_bytes w32 c.args.other) else old) own)
