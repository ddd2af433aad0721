use Rattle.std.proofs.Common.{◌∷◌, Result, Ok, Err}
use Rattle.std.specs.Fmt.{decimal}
use Rattle.std.specs.Result.{IfOk}
use Rattle.kr_seen.proofs.name.descriptor_directory.Goals as goal

if-ok : {A E : Type 0} (P Q : A → Type 0) (r : Result A E) → ((x : A) → P x → Q x) → IfOk r P → IfOk r Q
if-ok P Q (Ok x) each h = each x h
if-ok P Q (Err e) each h = tt

pub returns : goal.returns
returns c = if-ok _ _ c.entered.result (λ entry h names e. h (decimal c.args.pid ∷ names) (c.in_ok-process.ensures names e)) c.entered.ensures
