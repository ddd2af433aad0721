-- The watcher of identities leaves bytes.
use Rattle.std.specs.FinMap as map
use Rattle.std.proofs.Common.{Bool, true, false, cond, Option, Some, None, refl}
use Rattle.std.specs.Prelude.{Err, Ok, Result}
use Rattle.pr_top.specs.pr_base.declared.errno.Errno.{Errno}
use Rattle.law_starts.specs.kr_calls.declared.request.Request.{Request}
use Rattle.law_starts.specs.kr_stops.Stopped.{Stopped}
use Rattle.law_starts.specs.pt_ident.Identity.{Effect, after_exec, effect, on_memory}
use Rattle.law_starts.specs.pt_ident.IdentityTable.{identity_at}
use Rattle.law_starts.specs.pt_faker.Faking.{Faking, after_decoding, after_due, after_effect, answer_register, begin_program, entered, exited, has_answered_zero, number_register, show_identity, stack_register, without_due, word_of}
use Rattle.law_starts.specs.pt_faker.Stopping.{after_request, decoded_at, memory_at, register_at, with_memory, with_register}
use Rattle.law_starts.specs.pt_faker.declared.due.Due.{Due}
use Rattle.law_starts.specs.pt_faker.declared.due.Due.TheVariants.{BeginsProgram, ForgivesRoot, Remembers, ShowsOwner, Tells}
use Rattle.law_starts.specs.rv_mem.Actions.{carried_out}
use Rattle.law_starts.specs.law_kept.Bytes.{HasBytes}
use Rattle.law_machines.specs.Watchers.{FakersWatchBytes}
use Rattle.law_machines.proofs.StopLemmas.{Fine, carried-keeps, effect-puts, forgiven-keeps, identity-puts, register-keeps, request-keeps, shown-keeps, uncalled-keeps}

effect-keeps : (f : Faking) (r : Request) (t : Stopped) (o : Option Effect) → HasBytes t.state → HasBytes (after_effect f r t o).1.state
effect-keeps f r t None has = has
effect-keeps f r t (Some e) has =
    uncalled-keeps (with_memory (carried_out (on_memory (identity_at f.identities t.pid) e) (memory_at t)).memory t) (carried-keeps Fine (on_memory (identity_at f.identities t.pid) e) (effect-puts (identity_at f.identities t.pid) e) t has).1

decoded-keeps : (f : Faking) (t : Stopped) (r : Result Request Errno) → HasBytes t.state → HasBytes (after_decoding f t r).1.state
decoded-keeps f t (Ok r) has = effect-keeps f r t (effect (identity_at f.identities t.pid) r) has
decoded-keeps f t (Err e) has = has

entry-keeps : (f : Faking) (t : Stopped) → HasBytes t.state → HasBytes (entered f t).1.state
entry-keeps f t has = decoded-keeps f (after_request t) (decoded_at t).reply (request-keeps t has)

begins : (f : Faking) (t : Stopped) (b : Bool) → HasBytes t.state → HasBytes (cond b (begin_program f t) (f, t)).1.state
begins f t true has =
    let i = after_exec (identity_at f.identities t.pid) in
    (carried-keeps Fine (show_identity i (register_at t stack_register)) (identity-puts i (register_at t stack_register)) t has).1
begins f t false has = has

due-keeps : (f : Faking) (t : Stopped) (o : Option Due) → HasBytes t.state → HasBytes (after_due f t o).1.state
due-keeps f t None has = has
due-keeps f t (Some (Tells number answer)) has = register-keeps answer_register (word_of answer) (with_register number_register number t) (register-keeps number_register number t has)
due-keeps f t (Some (Remembers change)) has = forgiven-keeps true t has
due-keeps f t (Some ForgivesRoot) has = forgiven-keeps t.handed.at_root t has
due-keeps f t (Some (ShowsOwner at)) has = shown-keeps f.user f.identities at t has
due-keeps f t (Some BeginsProgram) has = begins f t (has_answered_zero t) has

exit-keeps : (f : Faking) (t : Stopped) → HasBytes t.state → HasBytes (exited f t).1.state
exit-keeps f t has = due-keeps (without_due t.pid f) t (map.get f.dues t.pid) has

pub fakers-watch-bytes : FakersWatchBytes
fakers-watch-bytes = record {
  entry = λ f t sound has. (refl, entry-keeps f t has);
  exit = λ f t sound has. (refl, exit-keeps f t has);
  born = λ f parent child sound. refl;
  gone = λ f pid sound. refl;
}
