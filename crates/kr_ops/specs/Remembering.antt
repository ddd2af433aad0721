-- The entry that an executable remembers, of a process in code.
use Rattle.std.specs.Prelude.{ℕ, ◌==◌, ◌&&◌, not, Bool, List, [], length, bytes_eq, if◌then◌else◌}
use Rattle.kr_ops.specs.declared.state.Process.{Process}

-- whether the entry that is remembered, `text` in `at`, is that of a name in a directory; an empty one is that of none
abbrev pub is_entry : (dir : ℕ) → List ℕ → (at : ℕ) → List ℕ → Bool
is_entry dir name at text = not (length text == 0) && (at == dir && bytes_eq text name)

module _ {T : Type 0} {M : ℕ} where
  abbrev pub remembers : ℕ → List ℕ → Process T M → Bool
  remembers dir name p = is_entry dir name p.exe_dir p.exe_name

  abbrev pub named_at : ℕ → List ℕ → Process T M → Process T M
  named_at dir name p = record p { exe_dir = dir; exe_name = name }

  abbrev pub forgotten : ℕ → List ℕ → Process T M → Process T M
  forgotten dir name p = if remembers dir name p then named_at 0 [] p else p

  abbrev pub followed : ℕ → List ℕ → ℕ → List ℕ → Process T M → Process T M
  followed dir name to new p =
      let kept = forgotten to new p in
      if remembers dir name kept then named_at to new kept else kept
