use Rattle.std.proofs.Common.{◌≡◌, ℕ, ◌<◌, ◌^◌, All, List, Option, None, arith, ap, sym, subst}
use Rattle.std.specs.Prelude.{IsSome}
use Rattle.rv_asm.specs.Program.{Program}
use Rattle.rv_asm.specs.Assembly.{first_fault, IsNear}
use Rattle.pr_gen.specs.Draft.{Draft, IsKept}
use Rattle.pr_gen.proofs.code.Code.finish.Goals as goal

-- a code of less than 2^20 bytes whose labels are all bound
near_code : (p : Program) (size : ℕ) (d : Draft) → IsKept p size → record { size = size; places = p.places } ≡ d → All IsSome d.places → d.size < 2 ^ 20 → IsNear p
near_code p size d kept view bound short =
    let places : p.places ≡ d.places = ap (λ (e : Draft). e.places) view in
    let same : size ≡ d.size = ap (λ (e : Draft). e.size) view in
    record {
      bound = subst (λ (ps : List (Option ℕ)). All IsSome ps) (sym places) bound;
      straight = kept.straight;
      short = omega (arith, kept.counted);
    }

pub unreachable-requires : goal.unreachable-requires
unreachable-requires c =
    let none : first_fault c.self.inside.asm ≡ None = c.finish.ensures.near (near_code c.self.inside.asm c.self.inside.size c.args.self c.self.invariant c.self.view_is c.requires.bound c.requires.short) in
    let wanting = rw none at c.in-Err-Unbound.ensures.code in
    cc

pub unreachable-requires-in-Err-Far : goal.unreachable-requires-in-Err-Far
unreachable-requires-in-Err-Far c =
    let none : first_fault c.self.inside.asm ≡ None = c.finish.ensures.near (near_code c.self.inside.asm c.self.inside.size c.args.self c.self.invariant c.self.view_is c.requires.bound c.requires.short) in
    let wanting = rw none at c.in-Err-Far.ensures.code in
    cc
