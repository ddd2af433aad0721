-- Texts of names that are bytes: guest texts and host texts over rows of such texts.
use Rattle.std.proofs.Common.{◌≡◌, ℕ, Bool, true, false, List, [], ◌∷◌, ◌++◌, ◌<◌, reverse, cond, Option, Some, None, refl, sym, subst, arith, ◌&&◌}
use Rattle.std.specs.Prelude.{IfSome, map, nat_eq, slice_get}
use Rattle.std.specs.List.{AllByRecursion, find, list_all, onto_first, slice_split}
use Rattle.std.specs.Option.{option_and_then, option_map_or}
use Rattle.std.specs.Str.{bytes_eq}
use Rattle.std.proofs.lemmas.Bool.Decides.{nat_tests}
use Rattle.std.proofs.lemmas.List.{reverse-append}
use Rattle.pr_top.specs.pr_base.MountText.{MountText}
use Rattle.pr_top.specs.pr_base.Paths.{Component, Dot, DotDot, Name, component_of, components_of, dot, dot_dot, is_slash, not_empty, parts_of}
use Rattle.pr_top.specs.pr_base.Texts.{Text, names_below}
use Rattle.pr_top.specs.pr_base.WalkFrame.{name_of}
use Rattle.law_starts.specs.pt_bind.Binding.{guest_in, guest_of, host_at, host_of, located, names_of, source_of}
use Rattle.pr_top.specs.kr_tree.Lawful.{AreBytes}
use Rattle.law_starts.specs.law_kept.Bytes.{AreAllBytes}
use Rattle.law_starts.proofs.law_kept.ListLemmas.{all-at, all-found, bytes-tested}
use Rattle.law_starts.proofs.law_kept.NameLemmas.{if-mapped, names-below-bytes, names-joined}
use Rattle.law_machines.specs.Watchers.{is_byte_row, is_byte_text, is_byte}

-- ---- what is tested

pub both-hold : (a b : Bool) → (a && b) ≡ true → (a ≡ true) × (b ≡ true)
both-hold true b e = (refl, e)
both-hold false b e = absurd cc

text-tested : (names : Text) → is_byte_text names ≡ true → AreAllBytes names
text-tested [] e = tt
text-tested (name ∷ names) e =
    let each = both-hold (list_all is_byte name) (list_all (λ name. list_all is_byte name) names) e in
    (bytes-tested name each.0, text-tested names each.1)

pub record IsByteRow (row : MountText) : Type 0 where
  pub location : AreAllBytes row.location
  pub source : AreAllBytes row.source

pub rows-tested : (rows : List MountText) → list_all is_byte_row rows ≡ true → AllByRecursion IsByteRow rows
rows-tested [] e = tt
rows-tested (row ∷ rows) e =
    let each = both-hold (is_byte_row row) (list_all is_byte_row rows) e in
    let own = both-hold (is_byte_text row.location) (is_byte_text row.source) each.0 in
    (record { location = text-tested row.location own.0; source = text-tested row.source own.1 }, rows-tested rows each.1)

-- and the other way round

both-pass : (a b : Bool) → a ≡ true → b ≡ true → (a && b) ≡ true
both-pass true b first second = second
both-pass false b first second = absurd cc

byte-passes : (b : ℕ) → b < 256 → is_byte b ≡ true
byte-passes b small = grind (arith, nat_tests)

name-passes : (name : List ℕ) → AreBytes name → list_all is_byte name ≡ true
name-passes [] are = refl
name-passes (b ∷ name) are = both-pass (is_byte b) (list_all is_byte name) (byte-passes b are.0) (name-passes name are.1)

text-passes : (names : Text) → AreAllBytes names → is_byte_text names ≡ true
text-passes [] are = refl
text-passes (name ∷ names) are = both-pass (list_all is_byte name) (is_byte_text names) (name-passes name are.0) (text-passes names are.1)

pub rows-pass : (rows : List MountText) → AllByRecursion IsByteRow rows → list_all is_byte_row rows ≡ true
rows-pass [] are = refl
rows-pass (row ∷ rows) are =
    both-pass (is_byte_row row) (list_all is_byte_row rows) (both-pass (is_byte_text row.location) (is_byte_text row.source) (text-passes row.location are.0.location) (text-passes row.source are.0.source)) (rows-pass rows are.1)

-- ---- the names that bytes spell

onto-first : (b : ℕ) (pieces : Text) → AreBytes (b ∷ []) → AreAllBytes pieces → AreAllBytes (onto_first b pieces)
onto-first b [] own are = (own, tt)
onto-first b (piece ∷ pieces) own are = ((own.0, are.0), are.1)

pub pieces-bytes : (test : ℕ → Bool) (path : List ℕ) → AreBytes path → AreAllBytes (slice_split test path)
pieces-bytes test [] are = (tt, tt)
pieces-bytes test (b ∷ path) are = by (test b) (pieces-bytes test path are.1)
  where
    by : (c : Bool) → AreAllBytes (slice_split test path) → AreAllBytes (cond c ([] ∷ slice_split test path) (onto_first b (slice_split test path)))
    by true rest = (tt, rest)
    by false rest = onto-first b (slice_split test path) (are.0, tt) rest

some-bytes : (pieces : Text) → AreAllBytes pieces → AreAllBytes (not_empty pieces)
some-bytes [] are = tt
some-bytes ([] ∷ pieces) are = some-bytes pieces are.1
some-bytes ((b ∷ piece) ∷ pieces) are = (are.0, some-bytes pieces are.1)

parts-bytes : (path : List ℕ) → AreBytes path → AreAllBytes (parts_of path)
parts-bytes path are = some-bytes (slice_split is_slash path) (pieces-bytes is_slash path are)

reversed-names : (names : Text) → AreAllBytes names → AreAllBytes (reverse names)
reversed-names [] are = tt
reversed-names (name ∷ names) are = subst AreAllBytes (sym (reverse-append (name ∷ []) names)) (names-joined (reverse names) (name ∷ []) (reversed-names names are.1) (are.0, tt))

pub names-bytes : (bytes : List ℕ) → AreBytes bytes → AreAllBytes (names_of bytes)
unfolding names_of
names-bytes bytes are = reversed-names (parts_of bytes) (parts-bytes bytes are)

-- ---- components

abbrev pub IsNamedByBytes : Component → Type 0
IsNamedByBytes c = AreBytes (name_of c)

abbrev pub AreNamedByBytes : List Component → Type 0
AreNamedByBytes cs = AllByRecursion IsNamedByBytes cs

component-bytes : (part : List ℕ) → AreBytes part → IsNamedByBytes (component_of part)
component-bytes part are = one (bytes_eq part dot)
  where
    two : (b : Bool) → IsNamedByBytes (cond b DotDot (Name part))
    two true = tt
    two false = are

    one : (b : Bool) → IsNamedByBytes (cond b Dot (cond (bytes_eq part dot_dot) DotDot (Name part)))
    one true = tt
    one false = two (bytes_eq part dot_dot)

pub components-bytes : (path : List ℕ) → AreBytes path → AreNamedByBytes (components_of path)
components-bytes path are = each (parts_of path) (parts-bytes path are)
  where
    each : (parts : Text) → AreAllBytes parts → AreNamedByBytes (map component_of parts)
    each [] are = tt
    each (part ∷ parts) are = (component-bytes part are.0, each parts are.1)

-- ---- rows

module _ (rows : List MountText) (own : AllByRecursion IsByteRow rows) where
  source-names : (k : ℕ) → AreAllBytes (source_of rows k)
  source-names k = by (slice_get rows k) refl
    where
      by : (o : Option MountText) → slice_get rows k ≡ o → AreAllBytes (option_map_or (λ (row : MountText). row.source) o [])
      by None is = tt
      by (Some row) is = (all-at IsByteRow rows k row own is).source

  -- the host text of a text
  pub host-names : (t : Text) → AreAllBytes t → AreAllBytes (host_of rows t)
  host-names [] are = source-names 0
  host-names (name ∷ t) are = by (located rows (name ∷ t)) (host-names t are.1)
    where
      by : (o : Option ℕ) → AreAllBytes (host_of rows t) → AreAllBytes (host_at rows o (name ∷ host_of rows t))
      by None above = (are.0, above)
      by (Some k) above = source-names k

  -- and the guest text of a host text, if it has one
  pub guest-names : (index : ℕ) (host : Text) → AreAllBytes host → IfSome (guest_of rows index host) AreAllBytes
  guest-names index host are = by (find (λ row. nat_eq row.index index) rows) refl
    where
      by : (o : Option MountText) → find (λ row. nat_eq row.index index) rows ≡ o → IfSome (option_and_then (λ row. guest_in row host) o) AreAllBytes
      by None is = tt
      by (Some row) is =
          let found = all-found IsByteRow (λ row. nat_eq row.index index) rows row own is in
          if-mapped AreAllBytes AreAllBytes (λ rest. rest ++ row.location) (names_below row.source host) (λ rest ok. names-joined rest row.location ok found.location) (names-below-bytes row.source host are)
