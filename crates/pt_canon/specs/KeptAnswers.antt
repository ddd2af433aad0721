-- How remembered answers are kept. No public clause cites this module.
use Rattle.std.specs.Prelude.{◌≡◌, ℕ, List, map, All, Vec, Option, Some, None, Result, Ok, Err}
use Rattle.lru.specs.LruCache.{LruCache}
use Rattle.pt_bind.specs.Binding.{IsWritten}
use Rattle.pt_canon.specs.Keys.{IsKeyBytes, key_in}
use Rattle.pt_canon.specs.Remembering.{Key, most_remembered, with_newest}
use Rattle.pt_canon.specs.declared.canon.Canon.{Canon}

abbrev pub shown_entry : {Z : Type 0} → Vec ℕ Z × Canon → Key × Canon
shown_entry e = (key_in e.0.items, e.1)

abbrev pub entries_in : {Z : Type 0} → List (Vec ℕ Z × Canon) → List (Key × Canon)
entries_in entries = map shown_entry entries

-- an answer is kept under the bytes of its key
pub record IsKept {Z : Type 0} (e : Vec ℕ Z × Canon) : Type 0 where
  pub key : IsKeyBytes e.0.items
  pub written : IsWritten e.1.guest

pub record AreKept {Z : Type 0} (cache : LruCache (Vec ℕ Z) Canon) : Type 0 where
  pub cap : cache.cap ≡ most_remembered
  pub each : All IsKept cache.entries

-- after the answer for a key was looked for: where it is remembered it is the newest
abbrev pub after_recall : {E : Type 0} → List (Key × Canon) → Key → Result (Option Canon) E → List (Key × Canon)
after_recall entries key (Ok (Some canon)) = with_newest key canon entries
after_recall entries key (Ok None) = entries
after_recall entries key (Err e) = entries
