-- Whether a walk is steady so far: each host path at which it looked was. No public clause cites this module.
use Rattle.std.specs.Prelude.{◌≡◌, ℕ, ◌&&◌, Bool, true, List, [], ◌∷◌, Option, Some, None, IfSome, Result, Ok, Err, if◌then◌else◌}
use Rattle.pt_bind.specs.pr_base.Paths.{Component}
use Rattle.pt_bind.specs.pr_base.Peeks.{Peeked}
use Rattle.pt_bind.specs.pr_base.Texts.{Text}
use Rattle.pt_bind.specs.pr_base.WalkFrame.{LookedAt}
use Rattle.pt_bind.specs.Binding.{host_of}
use Rattle.pt_canon.specs.Laws.{host_bytes}
use Rattle.pt_canon.specs.LookedPaths.{paths_at, paths_in, paths_named}
use Rattle.pt_canon.specs.TextWalk.{TextSurroundings, itself_in}
use Rattle.pt_canon.specs.declared.canon.WalkErr.{WalkErr}
use Rattle.pt_canon.specs.declared.canon.WalkErr.TheVariants as fault
use Rattle.pt_canon.specs.declared.sight.Known.{Known}
use Rattle.pt_canon.specs.declared.sight.Known.TheVariants as known

-- once it was asked of these host paths in turn
abbrev pub asked : (List ℕ → Bool) → Bool → List (List ℕ) → Bool
asked test steady [] = steady
asked test steady (path ∷ paths) = asked test (steady && test path) paths

-- behind these looks
abbrev pub behind_looks : TextSurroundings → Bool → List (LookedAt Text) → Bool
behind_looks texts steady [] = steady
behind_looks texts steady (l ∷ looks) = behind_looks texts (asked texts.peeked.steady steady (paths_at texts l)) looks

-- ---- behind one look

-- that at a component from a guest text
abbrev pub looked : TextSurroundings → Bool → Text → Component → Bool
looked texts steady t c = asked texts.peeked.steady steady (paths_in texts.peeked (host_of texts.bindings t) (paths_named texts.bindings t c))

-- as far as the guest text itself goes, if a directory that may be searched is there
abbrev pub entered : TextSurroundings → Bool → Text → Bool
entered texts steady t = (steady && texts.peeked.steady (host_bytes texts t)) && texts.peeked.steady (itself_in (host_of texts.bindings t))

-- what was asked of a guest text before
abbrev pub WasAsked : TextSurroundings → Text → Known → Bool → Type 0
WasAsked texts t known.Nothing steady = Unit {0}
WasAsked texts t known.Directory steady = steady ≡ true → texts.peeked.steady (host_bytes texts t) ≡ true
WasAsked texts t known.Open steady = steady ≡ true → (texts.peeked.steady (host_bytes texts t) ≡ true) × (texts.peeked.steady (itself_in (host_of texts.bindings t)) ≡ true)

-- what is noted once a guest text is gone into, by what was before: where nothing in it can be looked up, all of the look
abbrev pub EntryNoted : TextSurroundings → Text → (old new : Bool) → Result (Unit {0}) WalkErr → Type 0
EntryNoted texts t old new (Ok x) = new ≡ entered texts old t
EntryNoted texts t old new (Err (fault.Err e)) = (c : Component) → new ≡ looked texts old t c
EntryNoted texts t old new (Err fault.NoMemory) = Unit {0}

-- ---- ahead of the looks

-- the host text that is known to be steady is
pub record IsSure (peeked : Peeked) (sure : Option (List ℕ)) : Type 0 where
  pub steady : IfSome sure (λ host. peeked.steady host ≡ true)

-- what is known ahead of a walk that leads straight to a guest text, by whether it is steady so far
abbrev pub known_ahead : TextSurroundings → Bool → Text → Option (List ℕ)
known_ahead texts steady t = if steady && texts.peeked.steady (host_bytes texts t) then Some (host_bytes texts t) else None
