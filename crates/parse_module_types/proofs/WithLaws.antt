-- Both productions of a `with` are read alike, but for the sort of the type.
use Rattle.std.proofs.Common.{◌≡◌, ℕ, Bool, true, false, List, Ok, if◌then◌else◌, refl}
use Rattle.std.proofs.Math.Nat.{zero-max}
use Rattle.fut_token.specs.declared.token.Fixed.TheVariants as fixed
use Rattle.fut_token.specs.declared.token.Token.{Token}
use Rattle.fut_ast.specs.ModRows.{with_item}
use Rattle.fut_ast.specs.Rows.{of_mod}
use Rattle.fut_ast.specs.Sorts.{Sort, Tree, Path, SourceType, Whole_type, Applied_type, With_item}
use Rattle.fut_ast.specs.Tokens.{spot_of, starts, tail}
use Rattle.fut_grammar.specs.declared.fault.Stop.{Stop}
use Rattle.fut_grammar.specs.Reading.{Fails, Read, expect, has_at, parts_at, path_at, row_at, sub_at}
use Rattle.parse_module_types.proofs.Stops.{part_stopped, taken}

module _ (sub : (n : Sort) → List Token → Read (Tree n)) (ts : List Token) (first : starts fixed.KeyWith ts ≡ true) where
  pub path_stops : (b : Bool) (e : Stop) → Fails e (path_at (tail ts)) → Fails e (row_at sub {n = With_item b} (of_mod (with_item b)) ts)
  unfolding row_at parts_at has_at
  path_stops true e h = rw (taken fixed.KeyWith ts first) (part_stopped e _ _ _ h)
  path_stops false e h = rw (taken fixed.KeyWith ts first) (part_stopped e _ _ _ h)

  module _ (xs : Path) (us : List Token) (path : path_at (tail ts) ≡ Ok (xs, us)) where
    pub equal_stops : (b : Bool) (e : Stop) → Fails e (expect fixed.Equal us) → Fails e (row_at sub {n = With_item b} (of_mod (with_item b)) ts)
    unfolding row_at parts_at has_at
    equal_stops true e h = rw (taken fixed.KeyWith ts first, path) (part_stopped e _ _ _ h)
    equal_stops false e h = rw (taken fixed.KeyWith ts first, path) (part_stopped e _ _ _ h)

    module _ (vs : List Token) (equal : expect fixed.Equal us ≡ Ok vs) where
      pub type_stops : (b : Bool) (e : Stop) → Fails e (if b then sub Whole_type vs else sub Applied_type vs) → Fails e (row_at sub {n = With_item b} (of_mod (with_item b)) ts)
      unfolding row_at parts_at has_at sub_at
      type_stops true e h = rw (taken fixed.KeyWith ts first, path, equal) (part_stopped e _ _ _ h)
      type_stops false e h = rw (taken fixed.KeyWith ts first, path, equal) (part_stopped e _ _ _ h)

      pub with_is : (b : Bool) (t : SourceType) (h : ℕ) (ws : List Token) → (if b then sub Whole_type vs else sub Applied_type vs) ≡ Ok (t, h, ws) → row_at sub {n = With_item b} (of_mod (with_item b)) ts ≡ Ok (record { place = (spot_of (tail ts)).place; path = xs; ty = t }, h, ws)
      unfolding row_at parts_at has_at sub_at
      with_is true t h ws r = rw (taken fixed.KeyWith ts first, path, equal, r, zero-max h) refl
      with_is false t h ws r = rw (taken fixed.KeyWith ts first, path, equal, r, zero-max h) refl
