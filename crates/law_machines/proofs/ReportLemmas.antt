-- Listings tell the nodes of trees, and reports what runs came to.
use Rattle.std.specs.FinMap as map
use Rattle.std.proofs.Common.{◌≡◌, ℕ, zero, suc, Bool, true, List, [], ◌∷◌, ◌++◌, Option, Some, None, refl, sym, ap, ◌∙◌, map as map_list}
use Rattle.std.specs.List.{flat_map}
use Rattle.std.specs.Option.{option_map, option_map_or}
use Rattle.std.specs.Ordering.{nat_cmp}
use Rattle.pr_top.specs.kr_inode.declared.user.User.{User}
use Rattle.pr_top.specs.kr_text.Canonical.{all_names, below, body_line, canonical, first_name, lines_after, names_under, owner_of, put_in_order, root_name, user_line}
use Rattle.pr_top.specs.kr_tree.Tree.{Inode, Node, Tree, entries, entries_of, inode, node, nodes}
use Rattle.pr_top.specs.pr_base.Maps.{mapped}
use Rattle.pr_top.proofs.pr_base.MapLemmas.{get-mapped, len-mapped, same_values}
use Rattle.pr_top.proofs.kr_tree.NodesLemmas.{get-with_values}
use Rattle.pr_top.specs.pr_run.Report.{answer_of, calm_part}
use Rattle.law_machines.specs.Reports.{ListingsTellNodes, ReportsAreAlike}

module _ (t v : Tree) (same : nodes t ≡ nodes v) where
  -- ---- what is read of a tree

  node_same : (i : ℕ) → node t i ≡ node v i
  node_same i = sym (get-with_values (λ x. x.node) t.inodes i) ∙ ap (λ m. map.get m i) same ∙ get-with_values (λ x. x.node) v.inodes i

  entries_by : (u : Tree) (i : ℕ) → entries u i ≡ option_map_or (λ n. entries_of n.body) (node u i) []
  entries_by u i = by (inode u i)
    where
      by : (o : Option Inode) → option_map_or (λ (x : Inode). entries_of x.node.body) o [] ≡ option_map_or (λ (n : Node). entries_of n.body) (option_map (λ (x : Inode). x.node) o) []
      by None = refl
      by (Some x) = refl

  entries_same : (i : ℕ) → entries t i ≡ entries v i
  entries_same i = entries_by t i ∙ ap (λ o. option_map_or (λ n. entries_of n.body) o []) (node_same i) ∙ sym (entries_by v i)

  -- ---- as many inodes

  abbrev marks : Tree → map.FinMap nat_cmp Bool
  marks u = mapped (λ i (x : Inode). true) u.inodes

  marked : (u : Tree) (i : ℕ) → map.get (marks u) i ≡ option_map (λ (n : Node). true) (node u i)
  marked u i = get-mapped (λ i (x : Inode). true) u.inodes i ∙ by (map.get u.inodes i)
    where
      by : (o : Option Inode) → option_map (λ (x : Inode). true) o ≡ option_map (λ (n : Node). true) (option_map (λ (x : Inode). x.node) o)
      by None = refl
      by (Some x) = refl

  len_same : map.len t.inodes ≡ map.len v.inodes
  len_same = sym (len-mapped (λ i (x : Inode). true) t.inodes) ∙ ap map.len (same_values (marks t) (marks v) (λ i. marked t i ∙ ap (option_map (λ (n : Node). true)) (node_same i) ∙ sym (marked v i))) ∙ len-mapped (λ i (x : Inode). true) v.inodes

  -- ---- names and lines

  names_same : (depth : ℕ) → names_under depth t ≡ names_under depth v
  unfolding names_under
  names_same zero = λ i n. n ∷ []
  names_same (suc depth) = λ i n. n ∷ flat_map (names_same depth i) (map_list (below n.path) (put_in_order [] (entries_same n.ino i)))

  lines_same : (names earlier : List _) → lines_after t earlier names ≡ lines_after v earlier names
  unfolding lines_after
  lines_same [] earlier = refl
  lines_same (n ∷ names) earlier = λ i. option_map_or (λ x. body_line n.path (owner_of x) (first_name n.ino earlier) x.body) (node_same n.ino i) [] ++ lines_same names (earlier ++ n ∷ []) i

  listing_same : (user : User) → canonical t user ≡ canonical v user
  listing_same user =
      ap (λ names. user_line user ++ lines_after t [] names) (ap (λ count. names_under count t root_name) len_same ∙ ap (λ under. under root_name) (names_same (map.len v.inodes)))
      ∙ ap (λ lines. user_line user ++ lines) (lines_same (all_names v) [])

pub listings_tell_nodes : ListingsTellNodes
listings_tell_nodes t v user same = listing_same t v same user

pub reports_are_alike : (S T : Type 0) → ReportsAreAlike S T
reports_are_alike S T plan one other quiet alike =
    ap (λ calm. record { puts = one.puts; calm = calm_part calm one.machine.tally.broken; left = canonical one.machine.state.tree plan.user; answer = answer_of one.ending one.machine.tally.status }) quiet
    ∙ (λ i. record {
      puts = alike.puts i;
      calm = [];
      left = listing_same one.machine.state.tree other.machine.state.tree alike.trees plan.user i;
      answer = answer_of (alike.endings i) (alike.statuses i);
    })
    ∙ sym (ap (λ calm. record { puts = other.puts; calm = calm_part calm other.machine.tally.broken; left = canonical other.machine.state.tree plan.user; answer = answer_of other.ending other.machine.tally.status }) quiet)
