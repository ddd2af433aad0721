-- Living processes in code, by their numbers.
use Rattle.std.specs.Prelude.{ℕ, ◌≡◌, ◌<◌, ◌==◌, false, List, [], ◌∷◌, length, get_or}
use Rattle.kr_ops.specs.declared.state.Process.{Process}

module _ {T : Type 0} {M : ℕ} where
  -- no process of a list has this number
  abbrev pub HaveOthers : ℕ → List (Process T M) → Type 0
  HaveOthers n [] = Unit {0}
  HaveOthers n (p ∷ ps) = ((p.pid == n) ≡ false) × HaveOthers n ps

  -- the process at an index has this number
  pub record HasPid (n k : ℕ) (ps : List (Process T M)) : Type 0 where
    pub process : Process T M
    pub there : process ≡ get_or ps k process
    pub within : k < length ps
    pub pid : process.pid ≡ n

  -- no two have the same
  abbrev pub AreApart : List (Process T M) → Type 0
  AreApart [] = Unit {0}
  AreApart (p ∷ ps) = HaveOthers p.pid ps × AreApart ps
