-- Text walks over two kernels that tell the same of each path at which the one looks are one.
use Rattle.std.proofs.Common.{◌≡◌, List, ℕ, [], ◌∷◌, Result, Ok, Err, All, refl, sym, ap, ◌∙◌}
use Rattle.std.proofs.lemmas.List.Elements.{All-head, All-tail, All-weaker}
use Rattle.pt_bind.specs.pr_base.MountText.{MountText}
use Rattle.pt_bind.specs.pr_base.Paths.{Component, Dot, DotDot, Name, text_of}
use Rattle.pt_bind.specs.pr_base.Peeks.{Peeked}
use Rattle.pt_bind.specs.pr_base.SameWalks.{ShowsTheSame}
use Rattle.pt_bind.specs.pr_base.Texts.{Text}
use Rattle.pt_bind.specs.pr_base.WalkFrame.{LookedAt}
use Rattle.pt_bind.specs.pr_base.declared.errno.Errno.{Errno}
use Rattle.pt_bind.specs.pr_base.declared.path.WalkMode.{WalkMode}
use Rattle.pt_bind.specs.pr_base.declared.peeks.PeekKind.{PeekKind}
use Rattle.pt_bind.specs.pr_base.declared.peeks.PeekKind.TheVariants as peek
use Rattle.pt_bind.proofs.pr_base.SameWalkLemmas.{path_same}
use Rattle.pt_bind.specs.Binding.{host_of}
use Rattle.pt_bind.specs.Tags.{TagTable}
use Rattle.pt_canon.specs.LookedPaths.{TellsTheSame, TextWalksAgree, paths_at, paths_in, paths_inside, paths_named, paths_searched, texts_of}
use Rattle.pt_canon.specs.TextWalk.{SeenText, TextSurroundings, in_directory, inside_text, itself_in, look_text, looking_texts, seen_kind, seen_link, seen_text, text_walk, where_found}

module _ (bindings : List MountText) (one two : Peeked) (tags more : TagTable) where
  abbrev home : TextSurroundings
  home = texts_of bindings one tags

  abbrev away : TextSurroundings
  away = texts_of bindings two more

  abbrev Told : List ℕ → Type 0
  Told = TellsTheSame one two

  -- ---- what stands at a text

  kind_same : (t host : Text) → Told (text_of host) → (k : Result PeekKind Errno) → one.kind (text_of host) ≡ k → seen_kind away t host k ≡ seen_kind home t host k
  kind_same t host told (Ok peek.Dir) e = refl
  kind_same t host told (Ok peek.File) e = refl
  kind_same t host told (Ok peek.Link) e = ap (seen_link t) told.link_text
  kind_same t host told (Ok peek.Jump) e = absurd (told.no_jump e)
  kind_same t host told (Err e) h = refl

  text_same : (t : Text) → Told (text_of (host_of bindings t)) → seen_text away t ≡ seen_text home t
  unfolding seen_text
  text_same t told = ap (seen_kind away t (host_of bindings t)) told.told ∙ kind_same t (host_of bindings t) told (one.kind (text_of (host_of bindings t))) refl

  inside_same : (t : Text) (c : Component) → All Told (paths_named bindings t c) → inside_text away t c ≡ inside_text home t c
  inside_same t Dot all = refl
  inside_same t DotDot all = refl
  inside_same t (Name name) all = text_same (name ∷ t) (All-head Told (text_of (host_of bindings (name ∷ t))) [] all)

  -- ---- one look

  searched_same : (k : Result PeekKind Errno) (paths : List (List ℕ)) (x y : SeenText) → (All Told paths → x ≡ y) → All Told (paths_searched k paths) → where_found k x ≡ where_found k y
  searched_same (Ok k) paths x y each all = each all
  searched_same (Err e) paths x y each all = refl

  directory_same : (host : Text) (k : Result PeekKind Errno) (paths : List (List ℕ)) (x y : SeenText) → (All Told paths → x ≡ y) → All Told (paths_inside one host k paths)
      → in_directory k (where_found (two.kind (itself_in host)) x) ≡ in_directory k (where_found (one.kind (itself_in host)) y)
  directory_same host (Ok peek.Dir) paths x y each all =
      let own = All-head Told (itself_in host) (paths_searched (one.kind (itself_in host)) paths) all in
      let rest = All-tail Told (itself_in host) (paths_searched (one.kind (itself_in host)) paths) all in
      ap (λ k. where_found k x) own.told ∙ searched_same (one.kind (itself_in host)) paths x y each rest
  directory_same host (Ok peek.File) paths x y each all = refl
  directory_same host (Ok peek.Link) paths x y each all = refl
  directory_same host (Ok peek.Jump) paths x y each all = refl
  directory_same host (Err e) paths x y each all = refl

  look_same : (t : Text) (c : Component) → All Told (paths_in one (host_of bindings t) (paths_named bindings t c)) → look_text away t c ≡ look_text home t c
  unfolding look_text
  look_same t c all =
      let host = host_of bindings t in
      let behind = paths_inside one host (one.kind (text_of host)) (paths_named bindings t c) in
      let own = All-head Told (text_of host) behind all in
      let rest = All-tail Told (text_of host) behind all in
      ap (λ k. in_directory k (where_found (two.kind (itself_in host)) (inside_text away t c))) own.told
      ∙ directory_same host (one.kind (text_of host)) (paths_named bindings t c) (inside_text away t c) (inside_text home t c) (inside_same t c) rest

  -- both look at the same paths
  searched_paths : (host : Text) (k : Result PeekKind Errno) (paths : List (List ℕ)) → All Told (paths_inside one host k paths) → paths_inside two host k paths ≡ paths_inside one host k paths
  searched_paths host (Ok peek.Dir) paths all =
      let own = All-head Told (itself_in host) (paths_searched (one.kind (itself_in host)) paths) all in
      ap (λ k. itself_in host ∷ paths_searched k paths) own.told
  searched_paths host (Ok peek.File) paths all = refl
  searched_paths host (Ok peek.Link) paths all = refl
  searched_paths host (Ok peek.Jump) paths all = refl
  searched_paths host (Err e) paths all = refl

  pub paths_same : (l : LookedAt Text) → All Told (paths_at home l) → paths_at away l ≡ paths_at home l
  paths_same l all =
      let host = host_of bindings l.place in
      let paths = paths_named bindings l.place l.component in
      let behind = paths_inside one host (one.kind (text_of host)) paths in
      let own = All-head Told (text_of host) behind all in
      let rest = All-tail Told (text_of host) behind all in
      ap (λ k. text_of host ∷ paths_inside two host k paths) own.told ∙ ap (λ ps. text_of host ∷ ps) (searched_paths host (one.kind (text_of host)) paths rest)

  -- ---- walks

  shows_same : (l : LookedAt Text) → All Told (paths_at home l) → ShowsTheSame (looking_texts home) (looking_texts away) l
  shows_same l all = sym (look_same l.place l.component all)

  pub walk_same : (mode : WalkMode) (base : Text) (path : List ℕ) → All (λ l. All Told (paths_at home l)) (text_walk home mode base path).looks → text_walk away mode base path ≡ text_walk home mode base path
  walk_same mode base path all =
      sym (path_same (looking_texts home) (looking_texts away) (record { roots = refl; heres = λ _. refl }) mode base path
      (All-weaker (λ l. All Told (paths_at home l)) (ShowsTheSame (looking_texts home) (looking_texts away)) shows_same (text_walk home mode base path).looks all))

pub text_walks_agree : TextWalksAgree
text_walks_agree bindings one two tags more mode base path all = walk_same bindings one two tags more mode base path all
