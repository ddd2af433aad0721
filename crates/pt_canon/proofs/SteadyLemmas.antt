-- Whether a walk is steady, one look at a time.
use Rattle.std.proofs.Common.{◌≡◌, ◌∙◌, ℕ, Bool, true, false, ◌&&◌, List, [], ◌∷◌, refl, ap, sym}
use Rattle.std.specs.List.{list_all}
use Rattle.pt_bind.specs.pr_base.Paths.{Component, Dot, DotDot, Name, text_of}
use Rattle.pt_bind.specs.pr_base.Texts.{Text}
use Rattle.pt_bind.specs.pr_base.WalkFrame.{LookedAt}
use Rattle.pt_bind.specs.Binding.{host_of}
use Rattle.pt_canon.specs.Laws.{MayLook, host_bytes}
use Rattle.pt_canon.specs.LookedPaths.{paths_at, paths_in, paths_inside, paths_named, paths_searched}
use Rattle.pt_canon.specs.Steadily.{asked, behind_looks, entered, looked}
use Rattle.pt_canon.specs.TextWalk.{TextSurroundings, itself_in}

-- ---- tests joined

pub and_assoc : (a b c : Bool) → ((a && b) && c) ≡ (a && (b && c))
and_assoc true b c = refl
and_assoc false b c = refl

pub and_true : (a : Bool) → (a && true) ≡ a
and_true true = refl
and_true false = refl

pub and_first : (a b : Bool) → (a && b) ≡ true → a ≡ true
and_first true b h = refl
and_first false b h = h

pub and_second : (a b : Bool) → (a && b) ≡ true → b ≡ true
and_second true b h = h
and_second false b h = absurd cc

-- ---- a whole walk

asked_all : (test : List ℕ → Bool) (steady : Bool) (paths : List (List ℕ)) → asked test steady paths ≡ (steady && list_all test paths)
asked_all test steady [] = sym (and_true steady)
asked_all test steady (path ∷ paths) = asked_all test (steady && test path) paths ∙ and_assoc steady (test path) (list_all test paths)

-- it is steady where each host path at which it looks is, and if it was before
pub looks_steady : (texts : TextSurroundings) (steady : Bool) (looks : List (LookedAt Text)) → behind_looks texts steady looks ≡ (steady && list_all (λ l. list_all texts.peeked.steady (paths_at texts l)) looks)
looks_steady texts steady [] = sym (and_true steady)
looks_steady texts steady (l ∷ looks) =
    let rest = list_all (λ l. list_all texts.peeked.steady (paths_at texts l)) looks in
    let own = list_all texts.peeked.steady (paths_at texts l) in
    looks_steady texts (asked texts.peeked.steady steady (paths_at texts l)) looks
    ∙ ap (λ s. s && rest) (asked_all texts.peeked.steady steady (paths_at texts l)) ∙ and_assoc steady own rest

-- ---- one look

module _ (texts : TextSurroundings) (t : Text) where
  -- in a directory that may be searched it looks at the guest text, at itself in it, and at the name
  open_paths : (paths : List (List ℕ)) → MayLook texts t → paths_in texts.peeked (host_of texts.bindings t) paths ≡ host_bytes texts t ∷ itself_in (host_of texts.bindings t) ∷ paths
  open_paths paths may =
      let host = host_of texts.bindings t in
      ap (λ k. text_of host ∷ paths_inside texts.peeked host k paths) may.dir ∙ ap (λ k. text_of host ∷ itself_in host ∷ paths_searched k paths) may.searched

  looked_open : (steady : Bool) (c : Component) → MayLook texts t → looked texts steady t c ≡ asked texts.peeked.steady (entered texts steady t) (paths_named texts.bindings t c)
  looked_open steady c may = ap (asked texts.peeked.steady steady) (open_paths (paths_named texts.bindings t c) may)

  pub looked_dot : (steady : Bool) (c : Component) → MayLook texts t → c ≡ Dot → entered texts steady t ≡ looked texts steady t c
  looked_dot steady c may is = sym (looked_open steady c may ∙ ap (λ c. asked texts.peeked.steady (entered texts steady t) (paths_named texts.bindings t c)) is)

  pub looked_dot_dot : (steady : Bool) (c : Component) → MayLook texts t → c ≡ DotDot → entered texts steady t ≡ looked texts steady t c
  looked_dot_dot steady c may is = sym (looked_open steady c may ∙ ap (λ c. asked texts.peeked.steady (entered texts steady t) (paths_named texts.bindings t c)) is)

  pub looked_name : (steady : Bool) (c : Component) (name : List ℕ) (entry : Text) → MayLook texts t → c ≡ Name name → entry ≡ name ∷ t
      → (entered texts steady t && texts.peeked.steady (host_bytes texts entry)) ≡ looked texts steady t c
  looked_name steady c name entry may is entry_is =
      sym
      (looked_open steady c may ∙ ap (λ c. asked texts.peeked.steady (entered texts steady t) (paths_named texts.bindings t c)) is
      ∙ ap (λ q. entered texts steady t && texts.peeked.steady (host_bytes texts q)) (sym entry_is))

  -- what was asked of a directory that is gone into
  pub entered_asked : (steady still : Bool) → still ≡ entered texts steady t → still ≡ true
      → (texts.peeked.steady (host_bytes texts t) ≡ true) × (texts.peeked.steady (itself_in (host_of texts.bindings t)) ≡ true)
  entered_asked steady still is so =
      let dir = texts.peeked.steady (host_bytes texts t) in
      let itself = texts.peeked.steady (itself_in (host_of texts.bindings t)) in
      let all : ((steady && dir) && itself) ≡ true = sym is ∙ so in
      (and_second steady dir (and_first (steady && dir) itself all), and_second (steady && dir) itself all)

  -- and of one that is looked at
  pub seen_asked : (steady still : Bool) → still ≡ (steady && texts.peeked.steady (host_bytes texts t)) → still ≡ true → texts.peeked.steady (host_bytes texts t) ≡ true
  seen_asked steady still is so = and_second steady (texts.peeked.steady (host_bytes texts t)) (sym is ∙ so)

  -- ---- what is asked before a look

  pub none_entered : (steady : Bool) → steady ≡ false → false ≡ entered texts steady t
  none_entered steady none = ap (λ s. entered texts s t) (sym none)

  pub all_entered : (steady itself : Bool) → steady ≡ true → texts.peeked.steady (host_bytes texts t) ≡ true → itself ≡ texts.peeked.steady (itself_in (host_of texts.bindings t)) → itself ≡ entered texts steady t
  all_entered steady itself so dir_so itself_is = itself_is ∙ (λ i. (sym so i && sym dir_so i) && texts.peeked.steady (itself_in (host_of texts.bindings t)))
