-- Open files as they are kept: each under a key, with its number and the count of its descriptors. No public
-- clause cites this module.
use Rattle.std.specs.FinMap as map
use Rattle.std.specs.Prelude.{◌≡◌, ◌≢◌, ◌<◌, ◌≤◌, ℕ, ◌-◌, List, [], ◌∷◌, Option, Some, None, map as map_list, nat_lt, IsTrue, slice_index_or, if◌then◌else◌, refl}
use Rattle.std.specs.Option.{option_map, option_map_or, option_and_then}
use Rattle.std.specs.Ordering.{nat_cmp}
use Rattle.std.specs.Coded.{Coded, code_by, coded×, coded_ℕ}
use Rattle.slab.specs.Slab.{Slab, slab_len, get}
use Rattle.kr_files.specs.declared.opened.Opened.{Opened}
use Rattle.kr_files.specs.Opened.{remembers}
use Rattle.kr_files.specs.declared.opened.What.{What}
use Rattle.kr_files.specs.declared.open_files.OpenFile.{OpenFile}
use Rattle.kr_files.specs.Files.{Counted}
use Rattle.kr_files.specs.Slots.{slots}

-- the number of the file under each key, the files by number, the key of the next one, and how many more
-- fit without memory
pub record Store (M : Type 0) : Type 0 where
  pub keys : map.FinMap nat_cmp ℕ
  pub files : map.FinMap nat_cmp (Counted M)
  pub vacant : ℕ
  pub room : ℕ

abbrev pub store_code : {M : Type 0} → Coded (Counted M) → Coded (Store M)
store_code code =
    code_by
    (map.FinMap nat_cmp ℕ × (map.FinMap nat_cmp (Counted _) × (ℕ × ℕ)))
    (coded× (map.code coded_ℕ coded_ℕ) (coded× (map.code coded_ℕ code) (coded× coded_ℕ coded_ℕ)))
    (λ s. (s.keys, (s.files, (s.vacant, s.room))))
    (λ p. record { keys = p.0; files = p.1.0; vacant = p.1.1.0; room = p.1.1.1 })
    (λ _. refl)

module _ {M : Type 0} where
  abbrev pub counted : OpenFile M → Counted M
  counted e = record { opened = e.opened; count = e.count }

  -- the files in slots, by their numbers
  abbrev pub files_in : List (Option (OpenFile M)) → map.FinMap nat_cmp (Counted M)
  files_in [] = map.empty
  files_in (None ∷ rest) = files_in rest
  files_in (Some e ∷ rest) = map.insert (files_in rest) e.number (counted e)

  -- the number in each slot
  abbrev pub numbers_in : List (Option (OpenFile M)) → map.FinMap nat_cmp ℕ
  numbers_in xs = slots (map_list (option_map (λ e. e.number)) xs)

  abbrev pub store_of : Slab (OpenFile M) → Store M
  store_of s = record {
    keys = numbers_in s.slots;
    files = files_in s.slots;
    vacant = s.vacant_key;
    room = s.capacity - slab_len s;
  }

  -- no two slots have the same number
  abbrev pub AreDistinct : List (Option (OpenFile M)) → Type 0
  AreDistinct xs =
      (j k : ℕ) (a b : OpenFile M) → slice_index_or xs j None ≡ Some a → slice_index_or xs k None ≡ Some b
      → a.number ≡ b.number → j ≡ k

  -- each file is named by a descriptor at least
  abbrev pub AreNamed : List (Option (OpenFile M)) → Type 0
  AreNamed xs = (k : ℕ) (a : OpenFile M) → slice_index_or xs k None ≡ Some a → 1 ≤ a.count

  -- what holds of the slots
  pub record AreStored (xs : List (Option (OpenFile M))) : Type 0 where
    pub distinct : AreDistinct xs
    pub named : AreNamed xs

  -- the same files under the same keys
  pub record SameFiles (old new : Store M) : Type 0 where
    pub keys : new.keys ≡ old.keys
    pub files : new.files ≡ old.files

  -- what goes when one descriptor less names a file: the kind of a file that nothing else names
  abbrev pub ended_kind : map.FinMap nat_cmp (Counted M) → ℕ → Option What
  ended_kind files n =
      option_and_then (λ h. if nat_lt 1 h.count then None else Some h.opened.what) (map.get files n)

  -- the files after that
  abbrev pub with_one_less : map.FinMap nat_cmp (Counted M) → ℕ → map.FinMap nat_cmp (Counted M)
  with_one_less files n =
      option_map_or
      (λ h. if nat_lt 1 h.count then map.insert files n (record h { count = h.count - 1 }) else map.remove files n)
      (map.get files n) files

  -- the file with what is open changed
  abbrev pub on_file : (Opened M → Opened M) → OpenFile M → OpenFile M
  on_file f e = record e { opened = f e.opened }

  -- every file was changed so
  abbrev pub ChangesEach : (Opened M → Opened M) → Slab (OpenFile M) → Slab (OpenFile M) → Type 0
  ChangesEach f old new = (q : ℕ) → get new q ≡ option_map (on_file f) (get old q)

  -- the file under one key was changed so, and no other
  pub record ChangesAt (f : Opened M → Opened M) (old new : Slab (OpenFile M)) (key : ℕ) : Type 0 where
    pub here : get new key ≡ option_map (on_file f) (get old key)
    pub others : (q : ℕ) → q ≢ key → get new q ≡ get old q

  -- each of the first `count` files that remember this entry has a copy of the new name
  abbrev pub HasCopies : ℕ → List ℕ → List ℕ → Slab (OpenFile M) → List (Option (List ℕ)) → ℕ → Type 0
  HasCopies dir name new s copies count =
      (k : ℕ) (e : OpenFile M) → k < count → get s k ≡ Some e → IsTrue (remembers dir name e.opened) → slice_index_or copies k None ≡ Some new
