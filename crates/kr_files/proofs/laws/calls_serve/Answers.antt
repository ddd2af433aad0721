use Rattle.std.proofs.Common.{refl}
use Rattle.std.specs.Prelude.{Ok}
use Rattle.kr_files.proofs.ServedLemmas.{served-open, served-pipe, served-dup, served-dup_to, served-close, served-others, served-fork, served-changed, served-all_changed}
use Rattle.kr_files.proofs.laws.calls_serve.Goals as goal

pub returns : goal.returns
returns g c = record {
  open_ = λ f h d e others r o from cloexec s fresh. served-open f d others s h e r o from cloexec fresh;
  pipe = λ f h d e others r cloexec s fresh. served-pipe f d others s h e r cloexec fresh;
  dup = λ f d others fd from to cloexec s there low. served-dup f d others s _ _ (Ok to) fd from cloexec there low refl refl tt tt;
  dup_to = λ f d others fd to cloexec s there low other. served-dup_to f d others s _ _ (Ok tt) fd to cloexec there low other refl refl tt tt;
  close = λ f d others fd s there. served-close f d others s _ _ fd there refl refl;
  close_others = λ f d e others fd s there. served-others f d others s _ fd there refl e;
  fork = λ f d others s. served-fork f d others s _ refl;
  changes = λ f d others fd change s. served-changed f d others s _ fd change refl;
  names_change = λ f d others change s. served-all_changed f d others s change;
}
