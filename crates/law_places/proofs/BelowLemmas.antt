-- Host texts of what lies below a directory, and of what it lies below.
use Rattle.std.proofs.Common.{◌≡◌, ◌≢◌, ◌⊎◌, inl, inr, ℕ, true, List, [], ◌∷◌, ◌++◌, Option, Some, refl, sym, ap, subst, ◌∙◌}
use Rattle.std.specs.Option.{option_map}
use Rattle.std.proofs.lemmas.Bool.{cases_eq}
use Rattle.kr_calm.specs.pr_base.Texts.{Text}
use Rattle.law_walks.specs.kr_inode.declared.standing.Standing.{Standing}
use Rattle.law_walks.specs.kr_inode.declared.user.User.{User}
use Rattle.law_walks.specs.kr_tree.declared.place.Host.{Host}
use Rattle.law_walks.specs.kr_tree.declared.place.Host.TheVariants.{Node, Proc}
use Rattle.law_walks.specs.kr_tree.Lawful.{Above, AtRemoved, AtRoot, Below, Here, IsBelow, IsSound, RisesToEnd}
use Rattle.law_walks.specs.kr_tree.Tree.{Tree, above, root}
use Rattle.law_walks.proofs.kr_tree.BelowLemmas.{below_step, not_below_removed, not_below_root}
use Rattle.law_walks.proofs.kr_tree.EntryLemmas.{entry_stands}
use Rattle.law_walks.proofs.kr_tree.NameLemmas.{some_is}
use Rattle.law_walks.specs.kr_view.Component.{Finds, is_directory_at}
use Rattle.law_walks.specs.kr_view.HostReach.{object_in, reaches}
use Rattle.law_walks.proofs.kr_view.HostReachLemmas.{IsFoundIn, at_top, below_top, entry_in, found_in, last_object}
use Rattle.law_walks.specs.kr_model.State.{inode_of}

-- ---- texts with a name in them

-- a text that is parted at two names: one part has the other name, or they are the same
abbrev pub AreParted : Text → List ℕ → Text → List ℕ → Text → Type 0
AreParted one a h b k = ((more : Text) × (k ≡ more ++ a ∷ h)) ⊎ (((b ≡ a) × (k ≡ h)) ⊎ ((more : Text) × (h ≡ more ++ b ∷ k)))

pub parted_twice : (one : Text) (a : List ℕ) (h two : Text) (b : List ℕ) (k : Text) → one ++ a ∷ h ≡ two ++ b ∷ k → AreParted one a h b k
parted_twice [] a h [] b k e = let names : b ≡ a = cc in let rests : k ≡ h = cc in inr (inl (names, rests))
parted_twice [] a h (c ∷ two) b k e = let rest : h ≡ two ++ b ∷ k = cc in inr (inr (two, rest))
parted_twice (c ∷ one) a h [] b k e = let rest : k ≡ one ++ a ∷ h = cc in inl (one, rest)
parted_twice (c ∷ one) a h (d ∷ two) b k e = let rest : one ++ a ∷ h ≡ two ++ b ∷ k = cc in parted_twice one a h two b k rest

-- a name in a text stands above another part of it, or in that
abbrev pub IsInFront : Text → Text → Text → List ℕ → Text → Type 0
IsInFront rest low more a h = ((one : Text) × (rest ≡ more ++ a ∷ one) × (h ≡ one ++ low)) ⊎ ((two : Text) × (low ≡ two ++ a ∷ h))

pub in_front : (rest low more : Text) (a : List ℕ) (h : Text) → rest ++ low ≡ more ++ a ∷ h → IsInFront rest low more a h
in_front [] low more a h e = inr (more, e)
in_front (c ∷ rest) low [] a h e =
    let names : c ≡ a = cc in
    let rests : h ≡ rest ++ low = cc in
    inl (rest, ap (λ c. c ∷ rest) names, rests)
in_front (c ∷ rest) low (d ∷ more) a h e =
    let names : c ≡ d = cc in
    let rests : rest ++ low ≡ more ++ a ∷ h = cc in
    longer names (in_front rest low more a h rests)
  where
    longer : c ≡ d → IsInFront rest low more a h → IsInFront (c ∷ rest) low (d ∷ more) a h
    longer names (inl x) = inl (x.0, ap (λ d. d ∷ rest) names ∙ ap (λ l. d ∷ l) x.1, x.2)
    longer names (inr x) = inr x

-- ---- going up

-- a directory from which one comes to an end lies below another or doesn't
pub below_or_not : (t : Tree) (top d : ℕ) → RisesToEnd t d → IsBelow t top d ⊎ (¬ IsBelow t top d)
below_or_not t top _ AtRoot = by (cases_eq root top)
  where
    by : (root ≡ top) ⊎ (root ≢ top) → IsBelow t top root ⊎ (¬ IsBelow t top root)
    by (inl same) = inl (subst (IsBelow t top) (sym same) Here)
    by (inr away) = inr (not_below_root t top root away refl)
below_or_not t top d (AtRemoved none) = by (cases_eq d top)
  where
    by : (d ≡ top) ⊎ (d ≢ top) → IsBelow t top d ⊎ (¬ IsBelow t top d)
    by (inl same) = inl (subst (IsBelow t top) (sym same) Here)
    by (inr away) = inr (not_below_removed t top d away none)
below_or_not t top d (Above {up = up} at rises) = by (cases_eq d top) (cases_eq d root) (below_or_not t top up rises)
  where
    by : (d ≡ top) ⊎ (d ≢ top) → (d ≡ root) ⊎ (d ≢ root) → IsBelow t top up ⊎ (¬ IsBelow t top up) → IsBelow t top d ⊎ (¬ IsBelow t top d)
    by (inl same) rooted high = inl (subst (IsBelow t top) (sym same) Here)
    by (inr away) (inl rooted) high = inr (not_below_root t top d away rooted)
    by (inr away) (inr low) (inl high) = inl (Below low at high)
    by (inr away) (inr low) (inr clear) = inr (λ below. clear ((below_step t top d up away low at).0 below))

module _ (t : Tree) (sound : IsSound t) (user : User) (finds : Finds) where
  abbrev reach : Text → Option Host
  reach h = reaches t user finds h

  -- what stands in a directory lies below all that the directory lies below, if it is a directory itself
  pub above_within : (i : ℕ) (n : List ℕ) (d x : Host) → is_directory_at t x ≡ true → object_in t finds n d ≡ Some x → IsBelow t i (inode_of d) → IsBelow t i (inode_of x)
  above_within i n d (Node j) is_dir e below =
      let at = entry_in t finds n d j e in
      let up : above t j ≡ Some at.ino = entry_stands t sound at.ino n j at.there is_dir in
      let high : IsBelow t i at.ino = subst (λ x. IsBelow t i (inode_of x)) at.is below in
      elim (cases_eq j root) [
        | inl is ↦
            let rooted : above t j ≡ Some root = ap (above t) is ∙ ap (option_map (λ (s : Standing). s.inode)) sound.rooted in
            subst (IsBelow t i) (some_is at.ino root (sym up ∙ rooted) ∙ sym is) high
        | inr away ↦ Below away up high
      ]
  above_within i n d (Proc j at) is_dir e below = by d (found_in t finds n d j at e) below
    where
      by : (d : Host) → IsFoundIn t finds n j at d → IsBelow t i (inode_of d) → IsBelow t i j
      by _ (at_top is found) below = below
      by _ (below_top up found) below = below

  -- a directory lies below what is reached above it
  pub below_reached : (more h : Text) (x y : Host) → reach (more ++ h) ≡ Some x → is_directory_at t x ≡ true → reach h ≡ Some y → IsBelow t (inode_of y) (inode_of x)
  below_reached [] h x y way is_dir high = subst (λ x. IsBelow t (inode_of y) (inode_of x)) (some_is y x (sym high ∙ way)) Here
  below_reached (n ∷ more) h x y way is_dir high =
      let l = last_object t user finds (more ++ h) n x way in
      above_within (inode_of y) n l.dir x is_dir l.there (below_reached more h l.dir y l.way l.is_dir high)

  -- what stands above what is reached is reached
  pub reached_above : (more h : Text) (x : Host) → reach (more ++ h) ≡ Some x → (y : Host) × (reach h ≡ Some y)
  reached_above [] h x way = (x, way)
  reached_above (n ∷ more) h x way = let l = last_object t user finds (more ++ h) n x way in reached_above more h l.dir l.way

  -- the way to a directory leads through each that it lies below
  pub record LeadsThrough (h : Text) (i : ℕ) : Type 0 where
    pub more : Text
    pub low : Text
    pub parted : h ≡ more ++ low
    pub way : reach low ≡ Some (Node i)

  one_more : (n : List ℕ) (h : Text) (i : ℕ) → LeadsThrough h i → LeadsThrough (n ∷ h) i
  one_more n h i s = record { more = n ∷ s.more; low = s.low; parted = ap (λ l. n ∷ l) s.parted; way = s.way }

  pub leads_through : (i : ℕ) (h : Text) (d : ℕ) → reach h ≡ Some (Node d) → is_directory_at t (Node d) ≡ true → IsBelow t i d → LeadsThrough h i
  leads_through i h d way is_dir Here = record { more = []; low = h; parted = refl; way = way }
  leads_through i [] d way is_dir (Below away at below) =
      let nodes : Node root ≡ Node d = some_is (Node root) (Node d) way in
      let is : d ≡ root = cc in
      absurd (away is)
  leads_through i (n ∷ h) d way is_dir (Below {up = up} away at below) =
      let l = last_object t user finds h n (Node d) way in
      let e = entry_in t finds n l.dir d l.there in
      let same : e.ino ≡ up = some_is e.ino up (sym (entry_stands t sound e.ino n d e.there is_dir) ∙ at) in
      let dir_is : l.dir ≡ Node up = e.is ∙ ap (λ i. Node i) same in
      one_more n h i (leads_through i h up (l.way ∙ ap Some dir_is) (ap (is_directory_at t) (sym dir_is) ∙ l.is_dir) below)
