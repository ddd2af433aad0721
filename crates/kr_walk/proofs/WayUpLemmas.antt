-- The way up from a directory to the source of a mount.
use Rattle.std.proofs.Common.{◌≡◌, ◌≢◌, ◌<◌, ◌≤◌, ℕ, true, false, Option, Some, None, List, [], ◌∷◌, ◌++◌, length, take, drop, All, refl, sym, ap, subst, ◌∙◌, arith, append-nil, append_assoc, nat_eq}
use Rattle.std.specs.Bool.{if◌then◌else◌}
use Rattle.std.specs.Option.{option_map, option_and_then}
use Rattle.std.proofs.lemmas.Bool.{false_from_ne_true, eq-eqb}
use Rattle.std.proofs.lemmas.List.{length-append}
use Rattle.std.proofs.lemmas.List.Elements.{All-head}
use Rattle.std.proofs.Math.Seq.{take-append_seam, drop-append_seam}
use Rattle.kr_view.specs.kr_tree.pr_base.Texts.{texts_eq}
use Rattle.kr_view.proofs.kr_tree.pr_base.PathLemmas.{below_root_append}
use Rattle.kr_view.proofs.kr_tree.pr_base.TextLemmas.{some_is, map_some, texts_same, below_there}
use Rattle.kr_view.specs.kr_tree.pr_base.Paths.{slash, below_root, IsName, AreNames}
use Rattle.kr_view.specs.kr_tree.kr_inode.declared.standing.Standing.{Standing}
use Rattle.kr_view.specs.kr_tree.Tree.{Tree, above, standing}
use Rattle.kr_view.specs.kr_tree.Names.{named as named_by, host_name, HostNamesLead}
use Rattle.kr_view.specs.kr_tree.Lawful.{IsSound}
use Rattle.kr_view.proofs.kr_tree.NameLemmas.{no_host_name}
use Rattle.kr_view.specs.Names.{Text, names_below, names_down}
use Rattle.kr_walk.proofs.HostNameLemmas.{names_hang_together}

-- on the way up from a directory of this name: the names that were passed, and those of where the way
-- stands. No directory that was passed is called as the one that is looked for
pub record WayUp (t : Tree) (IsTop : Text → Type 0) (name : List ℕ) (dir place bytes : ℕ) : Type 0 where
  pub passed : Text
  pub left : Text
  pub whole : host_name t dir ≡ Some (passed ++ left)
  pub called : host_name t place ≡ Some left
  pub text : name ≡ below_root left ++ below_root passed
  pub end : bytes ≡ length (below_root left)
  pub apart : (top : Text) → IsTop top → names_below top (passed ++ left) ≡ option_map (λ rest. passed ++ rest) (names_below top left)

module _ (t : Tree) (IsTop : Text → Type 0) (name : List ℕ) (dir : ℕ) where
  pub way_begins : Some name ≡ option_map below_root (host_name t dir) → WayUp t IsTop name dir dir (length name)
  way_begins named =
      let m = map_some below_root (host_name t dir) name (sym named) in
      let whole : name ≡ below_root m.0 ++ [] = sym m.2 ∙ sym (append-nil (below_root m.0)) in
      record { passed = []; left = m.0; whole = m.1; called = m.1; text = whole; end = ap length (sym m.2); apart = λ top is. sym (same (names_below top m.0)) }
    where
      same : (o : Option Text) → option_map (λ (rest : Text). [] ++ rest) o ≡ o
      same None = refl
      same (Some rest) = refl

  module _ (place bytes : ℕ) (way : WayUp t IsTop name dir place bytes) where
    pub within : bytes ≤ length name
    within = let sum = length-append (below_root way.left) (below_root way.passed) in omega (arith, way.end, ap length way.text)

    front_is : take bytes name ≡ below_root way.left
    front_is = ap (λ n. take n name) way.end ∙ ap (take (length (below_root way.left))) way.text ∙ take-append_seam (below_root way.left) (below_root way.passed)

    pub rest_is : drop bytes name ≡ below_root way.passed
    rest_is = ap (λ n. drop n name) way.end ∙ ap (drop (length (below_root way.left))) way.text ∙ drop-append_seam (below_root way.left) (below_root way.passed)

    -- the source is found
    pub found_down : (source : ℕ) → source ≡ place → Some (drop bytes name) ≡ option_map below_root (names_down t source dir)
    found_down source is =
        let top : host_name t source ≡ Some way.left = ap (host_name t) is ∙ way.called in
        let down : names_down t source dir ≡ Some way.passed =
        ap (λ o. option_and_then (λ high. option_and_then (names_below high) (host_name t dir)) o) top
        ∙ ap (option_and_then (names_below way.left)) way.whole ∙ below_there way.left way.passed in
        ap Some rest_is ∙ ap (option_map below_root) (sym down)

    -- where the way stands isn't called as what is looked for
    module _ (other : (top : Text) → IsTop top → top ≢ way.left) where
      unlike : (top : Text) → IsTop top → texts_eq top way.left ≡ false
      unlike top is = false_from_ne_true _ (λ h. other top is (texts_same top way.left h))

      -- at the root nothing is left to be found
      pub none_down : (source : ℕ) → bytes ≡ 0 → ((top : Text) → host_name t source ≡ Some top → IsTop top) → names_down t source dir ≡ None
      none_down source none is = by (host_name t source) refl
        where
          empty : (left : Text) → 0 ≡ length (below_root left) → left ≡ []
          empty [] h = refl
          empty (n ∷ left) h = let sum = length-append (below_root left) (slash ∷ n) in absurd (omega arith)

          at_root : way.left ≡ []
          at_root = empty way.left (sym none ∙ way.end)

          nothing : (top : Text) → IsTop top → names_below top way.left ≡ None
          nothing top is =
              ap (names_below top) at_root ∙ ap (λ b. if b then Some [] else None) (ap (texts_eq top) (sym at_root) ∙ unlike top is)

          by : (o : Option Text) → host_name t source ≡ o → names_down t source dir ≡ None
          by None named = ap (option_and_then (λ high. option_and_then (names_below high) (host_name t dir))) named
          by (Some top) named =
              ap (option_and_then (λ high. option_and_then (names_below high) (host_name t dir))) named
              ∙ ap (option_and_then (names_below top)) way.whole
              ∙ way.apart top (is top named)
              ∙ ap (option_map (λ rest. way.passed ++ rest)) (nothing top (is top named))

      module _ (sound : IsSound t) (lead : HostNamesLead t) where
        -- the directory above is there
        pub not_removed : above t place ≡ None → ⊥
        not_removed none = let clash : None ≡ Some way.left = sym (no_host_name t sound place (nowhere (standing t place) none)) ∙ way.called in absurd cc
          where
            nowhere : (o : Option Standing) → option_map (λ s. s.inode) o ≡ None → o ≡ None
            nowhere None h = refl
            nowhere (Some x) h = absurd cc

        -- one step up
        pub way_goes_on : (up last : ℕ) → above t place ≡ Some up → bytes ≢ 0
            → ((front part : List ℕ) → take bytes name ≡ front ++ slash ∷ part → All (λ b. b ≢ slash) part → last ≡ length front) → WayUp t IsTop name dir up last × (last < bytes)
        way_goes_on up last over some slash_at = at way.left refl
          where
            at : (left : Text) → way.left ≡ left → WayUp t IsTop name dir up last × (last < bytes)
            at [] is = absurd (some (way.end ∙ ap (λ l. length (below_root l)) is))
            at (part ∷ left) is =
                let named = (lead place way.left way.called).2 in
                let is_name : IsName part = All-head IsName part left (subst AreNames is named) in
                let last_is : last ≡ length (below_root left) = slash_at (below_root left) part (front_is ∙ ap below_root is) is_name.no_slash in
                let sum = length-append (below_root left) (slash ∷ part) in
                let all : bytes ≡ length (below_root left ++ slash ∷ part) = way.end ∙ ap (λ l. length (below_root l)) is in
                let all_names : way.passed ++ way.left ≡ (way.passed ++ part ∷ []) ++ left = ap (λ l. way.passed ++ l) is ∙ sym (append_assoc way.passed (part ∷ []) left) in
                let whole : host_name t dir ≡ Some ((way.passed ++ part ∷ []) ++ left) = way.whole ∙ ap Some all_names in
                let called : host_name t up ≡ Some left = (names_hang_together t sound lead).up place up over ∙ ap (option_map (drop 1)) way.called ∙ ap (λ l. Some (drop 1 l)) is in
                let text : name ≡ below_root left ++ below_root (way.passed ++ part ∷ []) =
                way.text ∙ ap (λ l. below_root l ++ below_root way.passed) is ∙ append_assoc (below_root left) (slash ∷ part) (below_root way.passed)
                ∙ ap (λ bytes. below_root left ++ bytes) (sym (below_root_append way.passed (part ∷ []))) in (
                  record { passed = way.passed ++ part ∷ []; left = left; whole = whole; called = called; text = text; end = last_is; apart = λ top is_top. further part left is top is_top all_names },
                  omega arith,
                )
              where
                onto : (passed : Text) (part : List ℕ) (o : Option Text) → option_map (λ rest. passed ++ rest) (option_map (λ rest. part ∷ rest) o) ≡ option_map (λ rest. (passed ++ part ∷ []) ++ rest) o
                onto passed part None = refl
                onto passed part (Some rest) = ap Some (sym (append_assoc passed (part ∷ []) rest))

                further : (part : List ℕ) (left : Text) → way.left ≡ part ∷ left → (top : Text) → IsTop top → way.passed ++ way.left ≡ (way.passed ++ part ∷ []) ++ left
                    → names_below top ((way.passed ++ part ∷ []) ++ left) ≡ option_map (λ rest. (way.passed ++ part ∷ []) ++ rest) (names_below top left)
                further part left is top is_top all_names =
                    ap (names_below top) (sym all_names) ∙ way.apart top is_top
                    ∙ ap (λ l. option_map (λ rest. way.passed ++ rest) (names_below top l)) is
                    ∙ ap (λ b. option_map (λ rest. way.passed ++ rest) (if b then Some [] else option_map (λ rest. part ∷ rest) (names_below top left))) (ap (texts_eq top) (sym is) ∙ unlike top is_top)
                    ∙ onto way.passed part (names_below top left)

-- a directory that isn't the source isn't called as the source is
pub called_apart : (t : Tree) → HostNamesLead t → (source place : ℕ) (top left : Text) → host_name t source ≡ Some top → host_name t place ≡ Some left → nat_eq source place ≡ false → top ≢ left
called_apart t lead source place top left named called other same =
    let one : source ≡ place = some_is source place (sym (lead source top named).0 ∙ ap (named_by t) same ∙ (lead place left called).0) in
    let clash : true ≡ false = sym (eq-eqb source place one) ∙ other in absurd cc
