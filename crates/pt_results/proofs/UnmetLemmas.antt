-- Whether the process directory is unmet behind a walk that came to an error.
use Rattle.std.proofs.Common.{◌≡◌, Bool, Err, subst}
use Rattle.pt_args.specs.pr_base.declared.errno.Errno.{Errno}
use Rattle.pt_args.specs.pt_canon.Canon.{IsWalkNoted}
use Rattle.pt_args.specs.pt_canon.declared.canon.WalkErr.{WalkErr}
use Rattle.pt_args.specs.pt_canon.declared.canon.WalkErr.TheVariants as fault

pub noted_behind : (T : Type 0) (after new : Bool) (f : WalkErr) (e : Errno) → f ≡ fault.Err e → IsWalkNoted {T = T} after new (Err f) → new ≡ after
noted_behind T after new f e is noted = subst (λ (f : WalkErr). IsWalkNoted {T = T} after new (Err f)) is noted
