-- Pipes that the caller can make, by what is known of it.
use Rattle.std.proofs.Common.{◌≡◌, ℕ, ◌<◌, ◌+◌, Bool, true, false, ◌&&◌, cond, List, [], ◌∷◌, Option, Some, None, IsSome, refl, sym, ap, ◌∙◌, arith}
use Rattle.std.specs.Prelude.{nat_le, nat_lt}
use Rattle.std.specs.FinMap as map
use Rattle.std.specs.Option.{option_map, option_map_or, option_and_then, is_some}
use Rattle.std.proofs.lemmas.Bool.Decides.{nat_tests}
use Rattle.std.proofs.lemmas.Option.{none-some, same_Some}
use Rattle.kr_seen.specs.rv_mem.Actions.{write_if_allowed}
use Rattle.kr_seen.specs.pr_base.declared.errno.Errno.TheVariants.{EFAULT, EMFILE}
use Rattle.kr_seen.specs.kr_calls.Arguments.{has}
use Rattle.kr_seen.specs.kr_files.Descriptors.{lowest_free, lowest_pair}
use Rattle.kr_seen.specs.kr_files.Files.{takes_pipe}
use Rattle.kr_seen.proofs.kr_files.DescriptorLemmas.{lowest_free-some}
use Rattle.kr_seen.proofs.law_lawful.AfterLemmas.{some-of}
use Rattle.kr_seen.specs.kr_model.Change.{MakePipe}
use Rattle.kr_seen.specs.kr_model.DescriptorRows.{o_cloexec, pipe2_row, pipe_numbers, pipe_under}
use Rattle.kr_seen.specs.kr_model.Known.{Known, caller_of, known, no_caller}
use Rattle.kr_seen.specs.kr_model.Reply.{Replying, done, refuse}
use Rattle.kr_seen.specs.kr_model.State as model
use Rattle.kr_seen.specs.kr_ops.Opening.{lowest_of, pair_of, takes_pipe_of}

-- ---- what is known

module _ {T : Type 0} (s : model.State T model.Image) (pid : ℕ) where
  pub lowest-below : (from n : ℕ) → lowest_of pid from s ≡ Some n → n < 1024
  lowest-below from n e = by (model.process pid s) e
    where
      by : (o : Option (model.Process T model.Image)) → option_and_then (λ (p : model.Process T model.Image). lowest_free p.descs from) o ≡ Some n → n < 1024
      by None e = absurd (none-some n e)
      by (Some p) e = (lowest_free-some p.descs from n e).below

  pub two-lowest : (first second : ℕ) → lowest_of pid 0 s ≡ Some first → lowest_of pid (first + 1) s ≡ Some second → pair_of pid s ≡ Some (first, second)
  two-lowest first second e f = by (model.process pid s) e f
    where
      by : (o : Option (model.Process T model.Image)) → option_and_then (λ (p : model.Process T model.Image). lowest_free p.descs 0) o ≡ Some first
          → option_and_then (λ (p : model.Process T model.Image). lowest_free p.descs (first + 1)) o ≡ Some second → option_and_then (λ (p : model.Process T model.Image). lowest_pair p.descs) o ≡ Some (first, second)
      by None e f = absurd (none-some first e)
      by (Some p) e f =
          ap (option_and_then (λ first. option_map (λ second. (first, second)) (lowest_free p.descs (first + 1)))) e
          ∙ ap (option_map (λ second. (first, second))) f

  module _ (lives : IsSome (model.process pid s)) where
    pub pair-known : pair_of pid s ≡ lowest_pair (known model.image_layout pid s).caller.descs
    pair-known =
        let own = some-of (model.process pid s) lives in
        ap (option_and_then (λ (p : model.Process T model.Image). lowest_pair p.descs)) own.1
        ∙ sym (ap (λ o. lowest_pair (option_map_or (caller_of model.image_layout) o no_caller).descs) own.1)

    pub takes-known : takes_pipe_of pid s ≡ (is_some (pair_of pid s) && nat_lt (known model.image_layout pid s).pipes 4096)
    takes-known = by (model.process pid s) lives
      where
        by : (o : Option (model.Process T model.Image)) → IsSome o → option_map_or (λ p. takes_pipe s.files p.descs) o false
            ≡ (is_some (option_and_then (λ (p : model.Process T model.Image). lowest_pair p.descs) o) && nat_lt (map.len s.files.pipes) 4096)
        by None h = absurd cc
        by (Some p) h = refl

-- ---- the row

module _ (k : Known) (buf flags : ℕ) where
  abbrev pub pipe_within : ℕ × ℕ → Replying
  pipe_within fds = write_if_allowed buf (pipe_numbers fds.0 fds.1) (refuse EFAULT) (done 0 (MakePipe fds.0 fds.1 (has flags o_cloexec) ∷ []))

  pub no-pipe : (is_some (lowest_pair k.caller.descs) && nat_lt k.pipes 4096) ≡ false → pipe2_row k buf flags ≡ refuse EMFILE
  no-pipe e = by (lowest_pair k.caller.descs) (nat_le 4096 k.pipes) refl e
    where
      by : (o : Option (ℕ × ℕ)) (b : Bool) → nat_le 4096 k.pipes ≡ b → (is_some o && nat_lt k.pipes 4096) ≡ false → cond b (refuse EMFILE) (pipe_under buf (has flags o_cloexec) o) ≡ refuse EMFILE
      by o true is e = refl
      by None false is e = refl
      by (Some fds) false is e = absurd (let more : nat_lt k.pipes 4096 ≡ true = grind (arith, nat_tests) in cc)

  pub a-pipe : (fds : ℕ × ℕ) → lowest_pair k.caller.descs ≡ Some fds → (is_some (lowest_pair k.caller.descs) && nat_lt k.pipes 4096) ≡ true → pipe2_row k buf flags ≡ pipe_within fds
  a-pipe fds e takes =
      let fewer : nat_lt k.pipes 4096 ≡ true = ap (λ o. is_some o && nat_lt k.pipes 4096) (sym e) ∙ takes in
      let room : nat_le 4096 k.pipes ≡ false = grind (arith, nat_tests) in
      ap (λ b. cond b (refuse EMFILE) (pipe_under buf (has flags o_cloexec) (lowest_pair k.caller.descs))) room
      ∙ ap (pipe_under buf (has flags o_cloexec)) e

module _ {T : Type 0} (s : model.State T model.Image) (pid buf flags : ℕ) (lives : IsSome (model.process pid s)) where
  known-takes : (is_some (lowest_pair (known model.image_layout pid s).caller.descs) && nat_lt (known model.image_layout pid s).pipes 4096) ≡ takes_pipe_of pid s
  known-takes = ap (λ o. is_some o && nat_lt (known model.image_layout pid s).pipes 4096) (sym (pair-known s pid lives)) ∙ sym (takes-known s pid lives)

  pub none-made : takes_pipe_of pid s ≡ false → pipe2_row (known model.image_layout pid s) buf flags ≡ refuse EMFILE
  none-made none = no-pipe (known model.image_layout pid s) buf flags (known-takes ∙ none)

  pub one-made : (bytes : List ℕ) → option_map (λ (fds : ℕ × ℕ). pipe_numbers fds.0 fds.1) (pair_of pid s) ≡ Some bytes → takes_pipe_of pid s ≡ true
      → (fds : ℕ × ℕ) × (pair_of pid s ≡ Some fds) × (pipe2_row (known model.image_layout pid s) buf flags ≡ write_if_allowed buf bytes (refuse EFAULT) (done 0 (MakePipe fds.0 fds.1 (has flags o_cloexec) ∷ [])))
  one-made bytes told takes = by (pair_of pid s) refl told
    where
      by : (o : Option (ℕ × ℕ)) → pair_of pid s ≡ o → option_map (λ (fds : ℕ × ℕ). pipe_numbers fds.0 fds.1) o ≡ Some bytes
          → (fds : ℕ × ℕ) × (pair_of pid s ≡ Some fds) × (pipe2_row (known model.image_layout pid s) buf flags ≡ write_if_allowed buf bytes (refuse EFAULT) (done 0 (MakePipe fds.0 fds.1 (has flags o_cloexec) ∷ [])))
      by None is e = absurd (none-some bytes e)
      by (Some fds) is e = (
        fds,
        is,
        a-pipe (known model.image_layout pid s) buf flags fds (sym (pair-known s pid lives) ∙ is) (known-takes ∙ takes)
            ∙ ap (λ bytes. write_if_allowed buf bytes (refuse EFAULT) (done 0 (MakePipe fds.0 fds.1 (has flags o_cloexec) ∷ []))) (same_Some (pipe_numbers fds.0 fds.1) bytes e),
      )

-- where what is known stays, so does what pipes can be made
pub pair-stays : {T : Type 0} (s t : model.State T model.Image) (pid : ℕ) → IsSome (model.process pid s) → IsSome (model.process pid t) → known model.image_layout pid t ≡ known model.image_layout pid s → pair_of pid t ≡ pair_of pid s
pair-stays s t pid lives still same = pair-known t pid still ∙ ap (λ (k : Known). lowest_pair k.caller.descs) same ∙ sym (pair-known s pid lives)

pub takes-stays : {T : Type 0} (s t : model.State T model.Image) (pid : ℕ) → IsSome (model.process pid s) → IsSome (model.process pid t) → known model.image_layout pid t ≡ known model.image_layout pid s → takes_pipe_of pid t ≡ takes_pipe_of pid s
takes-stays s t pid lives still same =
    takes-known t pid still
    ∙ ap (λ o. is_some o && nat_lt (known model.image_layout pid t).pipes 4096) (pair-stays s t pid lives still same)
    ∙ ap (λ (k : Known). is_some (pair_of pid s) && nat_lt k.pipes 4096) same
    ∙ sym (takes-known s pid lives)
