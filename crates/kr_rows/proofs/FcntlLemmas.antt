-- What the commands of fcntl(2) reply.
use Rattle.std.proofs.Common.{◌≡◌, ℕ, ◌<◌, ◌≤◌, Bool, true, false, cond, Some, refl, ap, ◌∙◌, arith}
use Rattle.std.specs.Prelude.{nat_lt}
use Rattle.std.proofs.lemmas.Bool.Decides.{nat_tests}
use Rattle.kr_seen.specs.pr_base.declared.errno.Errno.TheVariants.{EINVAL}
use Rattle.kr_seen.specs.kr_files.Descriptors.{lowest_free}
use Rattle.kr_seen.specs.kr_files.declared.opened.Opened.{Opened}
use Rattle.kr_seen.specs.kr_model.Asking.{or_closed}
use Rattle.kr_seen.specs.kr_model.DescriptorRows.{copy_from, copy_under, fcntl_by}
use Rattle.kr_seen.specs.kr_model.Known.{Known}
use Rattle.kr_seen.specs.kr_model.Reply.{refuse}
use Rattle.kr_rows.specs.Commands.{IsUnknown, number_of}
use Rattle.kr_rows.specs.declared.fcntl.Command.{Command}

module _ (k : Known) (fd : ℕ) where
  pub too-high : (from : ℕ) (cloexec : Bool) → 1023 < from → copy_from k fd from cloexec ≡ refuse EINVAL
  too-high from cloexec more = let e : nat_lt 1023 from ≡ true = grind (arith, nat_tests) in ap (λ b. cond b (refuse EINVAL) (copy_under fd cloexec (lowest_free k.caller.descs from))) e

  pub not-too-high : (from : ℕ) (cloexec : Bool) → from ≤ 1023 → copy_from k fd from cloexec ≡ copy_under fd cloexec (lowest_free k.caller.descs from)
  not-too-high from cloexec most = let e : nat_lt 1023 from ≡ false = grind (arith, nat_tests) in ap (λ b. cond b (refuse EINVAL) (copy_under fd cloexec (lowest_free k.caller.descs from))) e

  pub obeyed : (arg : ℕ) (o : Opened (Unit {0})) (given command : Command) → k.opened fd ≡ Some o → given ≡ command → or_closed (k.opened fd) (fcntl_by k (number_of given) arg fd) ≡ fcntl_by k (number_of command) arg fd o
  obeyed arg o given command there is = ap (λ o. or_closed o (fcntl_by k (number_of given) arg fd)) there ∙ ap (λ c. fcntl_by k (number_of c) arg fd o) is

  pub unknown : (n arg : ℕ) (o : Opened (Unit {0})) → IsUnknown n → fcntl_by k n arg fd o ≡ refuse EINVAL
  unknown n arg o h =
      let a = h.dup_fd in
      let b = h.dup_fd_cloexec in
      let c = h.get_fd in
      let d = h.set_fd in
      let e = h.get_fl in
      let f = h.set_fl in
      rw (a, b, c, d, e, f) refl
