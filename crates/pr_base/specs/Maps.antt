-- Changes of finite maps from numbers.
use Rattle.std.specs.FinMap as map
use Rattle.std.specs.Prelude.{ℕ, ◌≡◌, ◌≢◌, map as map_list}
use Rattle.std.specs.Option.{option_map, option_map_or}
use Rattle.std.specs.Ordering.{nat_cmp}

module _ {X : Type 0} where
  -- the map with the value at a key, if there is one, changed
  unfoldable pub changed : map.FinMap nat_cmp X → ℕ → (X → X) → map.FinMap nat_cmp X
  changed m k f = option_map_or (λ x. map.insert m k (f x)) (map.get m k) m

module _ {X Y : Type 0} where
  -- the map with each value changed
  unfoldable pub mapped : (ℕ → X → Y) → map.FinMap nat_cmp X → map.FinMap nat_cmp Y
  mapped f m = map.from_sorted (map_list (λ e. (e.0, f e.0 e.1)) (map.entries m))

-- ---- laws

-- maps with the same values are one; a change shows at its key alone, and takes none away
pub record MapsChange (X : Type 0) : Type 0 where
  pub one : (m n : map.FinMap nat_cmp X) → ((q : ℕ) → map.get m q ≡ map.get n q) → m ≡ n
  pub here : (m : map.FinMap nat_cmp X) (k : ℕ) (f : X → X) → map.get (changed m k f) k ≡ option_map f (map.get m k)
  pub elsewhere : (m : map.FinMap nat_cmp X) (k : ℕ) (f : X → X) (q : ℕ) → q ≢ k → map.get (changed m k f) q ≡ map.get m q
  pub count : (m : map.FinMap nat_cmp X) (k : ℕ) (f : X → X) → map.len (changed m k f) ≡ map.len m
