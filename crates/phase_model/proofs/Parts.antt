-- The parts after each kind of step, and what the seat with all parts knows.
use Rattle.std.proofs.Common.{◌≡◌, ◌≢◌, ℕ, zero, suc, ◌+◌, ◌-◌, ◌<◌, ◌≤◌, List, [], ◌∷◌, ◌++◌, set, flat_map, sym, refl, ap, arith}
use mathlib.Core.Option.{some, some-injective, some-ne-none}
use lib.ListN.{get_elem?}
use Rattle.phase_model.specs.declared.View.{View}
use Rattle.phase_model.specs.Parts.{total, view, seen, PartsKept}
use Rattle.phase_model.proofs.Together.{alone, each_set, each_snoc}

module _ {V : Type 0} (f : V → ℕ) where
  pub total_set : (l : List V) (i : ℕ) (v w : V) → get_elem? l i ≡ some v → total f (set l i w) + f v ≡ total f l + f w
  total_set [] i v w at = absurd (some-ne-none v (sym at))
  total_set (x ∷ xs) zero v w at = let e : f x ≡ f v = ap f (some-injective x v at) in omega arith
  total_set (x ∷ xs) (suc i) v w at = let e = total_set xs i v w at in omega arith

  pub total_snoc : (l : List V) (w : V) → total f (l ++ w ∷ []) ≡ total f l + f w
  total_snoc [] w = omega arith
  total_snoc (x ∷ xs) w = let e = total_snoc xs w in omega arith

  pub total_at : (l : List V) (i : ℕ) (v : V) → get_elem? l i ≡ some v → f v ≤ total f l
  total_at [] i v at = absurd (some-ne-none v (sym at))
  total_at (x ∷ xs) zero v at = let e : f x ≡ f v = ap f (some-injective x v at) in omega arith
  total_at (x ∷ xs) (suc i) v at = let e = total_at xs i v at in omega arith

  pub total_two : (l : List V) (i j : ℕ) (v w : V) → i ≢ j → get_elem? l i ≡ some v → get_elem? l j ≡ some w → f v + f w ≤ total f l
  total_two [] i j v w n at at' = absurd (some-ne-none v (sym at))
  total_two (x ∷ xs) zero zero v w n at at' = absurd (n refl)
  total_two (x ∷ xs) zero (suc j) v w n at at' = let e : f x ≡ f v = ap f (some-injective x v at) in let h = total_at xs j w at' in omega arith
  total_two (x ∷ xs) (suc i) zero v w n at at' = let e : f x ≡ f w = ap f (some-injective x w at') in let h = total_at xs i v at in omega arith
  total_two (x ∷ xs) (suc i) (suc j) v w n at at' = let h = total_two xs i j v w (λ e. n (ap suc e)) at at' in omega arith

module _ {X : Type 0} where
  abbrev pub parts_of : View X → ℕ
  parts_of v = v.parts

  -- the first seat has all parts
  pub parts_first : (n : ℕ) → PartsKept {X = X} n (view n [] ∷ [])
  parts_first n = record { add_up = omega arith; spent = only }
    where
      only : (j : ℕ) (v : View X) → get_elem? (view n [] ∷ []) j ≡ some v → v.parts ≡ 0 → v.seen ≡ []
      only zero v at none = ap seen (sym (some-injective (view n []) v at))
      only (suc j) v at none = absurd (some-ne-none v (sym at))

  -- the seat i has a new list and its old parts
  pub parts_step : (n : ℕ) (views : List (View X)) (i : ℕ) (v : View X) (xs : List X) → get_elem? views i ≡ some v → 0 < v.parts → PartsKept n views → PartsKept n (set views i (view v.parts xs))
  parts_step n views i v xs at some_part h = record {
    add_up = let e = total_set parts_of views i v (view v.parts xs) at in let a = h.add_up in omega arith;
    spent = each_set (λ u. u.parts ≡ 0 → u.seen ≡ []) views i (view v.parts xs) (λ z. absurd (omega arith)) h.spent;
  }

  -- the seat i hands one part over
  pub parts_split : (n : ℕ) (views : List (View X)) (i : ℕ) (v : View X) → get_elem? views i ≡ some v → 1 < v.parts → PartsKept n views → PartsKept n (set views i (view (v.parts - 1) v.seen) ++ view 1 [] ∷ [])
  parts_split n views i v at two h = record {
    add_up = let e = total_set parts_of views i v (view (v.parts - 1) v.seen) at in let a = h.add_up in let s = total_snoc parts_of (set views i (view (v.parts - 1) v.seen)) (view 1 []) in omega arith;
    spent = each_snoc (λ u. u.parts ≡ 0 → u.seen ≡ []) (set views i (view (v.parts - 1) v.seen)) (view 1 []) (λ z. refl)
        (each_set (λ u. u.parts ≡ 0 → u.seen ≡ []) views i (view (v.parts - 1) v.seen) (λ z. absurd (omega arith)) h.spent);
  }

  -- the seat i takes the parts of the seat j
  pub parts_join : (n : ℕ) (views : List (View X)) (i j : ℕ) (v u : View X) (xs : List X) → get_elem? views i ≡ some v → get_elem? (set views i (view (v.parts + u.parts) xs)) j ≡ some u → 0 < v.parts → PartsKept n views
      → PartsKept n (set (set views i (view (v.parts + u.parts) xs)) j (view 0 []))
  parts_join n views i j v u xs at at' some_part h =
      let b : View X = view (v.parts + u.parts) xs in record {
        add_up = let e = total_set parts_of views i v b at in let a = h.add_up in let s = total_set parts_of (set views i b) j u (view 0 []) at' in omega arith;
        spent = each_set (λ w. w.parts ≡ 0 → w.seen ≡ []) (set views i b) j (view 0 []) (λ z. refl) (each_set (λ w. w.parts ≡ 0 → w.seen ≡ []) views i b (λ z. absurd (omega arith)) h.spent);
      }

  -- the seat that has all parts has all that was seen
  pub has_all : (n : ℕ) (views : List (View X)) (i : ℕ) (v : View X) → get_elem? views i ≡ some v → v.parts ≡ n → PartsKept n views → flat_map seen views ≡ v.seen
  has_all n views i v at all h = alone seen views i v at (λ j u at' apart.
      h.spent j u at' (let t = total_two parts_of views i j v u (λ e. apart (sym e)) at at' in let a = h.add_up in omega arith))
