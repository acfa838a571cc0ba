-- Where each name is bound once, the first node that binds it is the only one.
use Rattle.std.proofs.Common.{◌≡◌, ℕ, zero, suc, ◌≤◌, List, [], ◌∷◌, Bool, true, false, cond, nat_eq, Option, Some, None, slice_get, refl, sym, ap, ◌∙◌, subst, arith}
use Rattle.std.proofs.lemmas.Bool.Decides.{nat_tests}
use Rattle.std.proofs.lemmas.List.Sums.{sum_by-cons}
use Rattle.elab_laws.proofs.Times.{times-append}
use Rattle.told_rows.specs.Tables.{is_bound}
use Rattle.sizing_tables.specs.Told.{node_of}
use Rattle.sizing_tables.proofs.Once.{bound_in, bound_times}

pub some_is : {X : Type 0} (x y : X) → ◌≡◌ {A = Option X} (Some x) (Some y) → x ≡ y
some_is x y e = cc

pub suc_is : (a b : ℕ) → nat_eq (suc a) (suc b) ≡ nat_eq a b
suc_is a b = by (nat_eq a b) refl
  where
    by : (t : Bool) → nat_eq a b ≡ t → nat_eq (suc a) (suc b) ≡ t
    by true e = grind (arith, nat_tests)
    by false e = grind (arith, nat_tests)

pub not_first : (a : ℕ) → nat_eq (suc a) 0 ≡ false
not_first a = grind (arith, nat_tests)

pub not_behind : (a : ℕ) → nat_eq 0 (suc a) ≡ false
not_behind a = grind (arith, nat_tests)

module _ (b : ℕ) where
  -- a node that binds it stands among those that do
  counted : (o : Option ℕ) (os : List (Option ℕ)) → is_bound o b ≡ true → bound_times b (o ∷ os) ≡ suc (bound_times b os)
  unfolding bound_in
  counted None os h = absurd (let z : false ≡ true = h in cc)
  counted (Some c) os h =
      let z : nat_eq c b ≡ true = h in
      let w : nat_eq b c ≡ true = grind (arith, nat_tests) in
      let x : ◌≡◌ {A = ℕ} (cond (nat_eq b c) 1 0) 1 = ap (λ t. cond t 1 0) w in
      omega (arith, sum_by-cons (λ m. cond (nat_eq b m) 1 0) c (bound_in os), x)

  less : (o : Option ℕ) (os : List (Option ℕ)) → bound_times b os ≤ bound_times b (o ∷ os)
  unfolding bound_in
  less None os = omega arith
  less (Some c) os = omega (arith, times-append b (c ∷ []) (bound_in os))

  absent : (os : List (Option ℕ)) (q : ℕ) (o : Option ℕ) → bound_times b os ≡ 0 → slice_get os q ≡ Some o → is_bound o b ≡ false
  absent [] q o none g = absurd (let z : ◌≡◌ {A = Option (Option ℕ)} None (Some o) = g in cc)
  absent (x ∷ os) zero o none g = subst (λ z. is_bound z b ≡ false) (some_is x o g) (off (is_bound x b) refl)
    where
      off : (t : Bool) → is_bound x b ≡ t → t ≡ false
      off true e = absurd (let z = counted x os e in omega (arith, z, none))
      off false e = refl
  absent (x ∷ os) (suc q) o none g = absent os q o (let z = less x os in omega (arith, z, none)) g

  pub home_is : (os : List (Option ℕ)) → bound_times b os ≤ 1 → (q : ℕ) (o : Option ℕ) → slice_get os q ≡ Some o → nat_eq (node_of b os) q ≡ is_bound o b
  unfolding node_of
  home_is [] few q o g = absurd (let z : ◌≡◌ {A = Option (Option ℕ)} None (Some o) = g in cc)
  home_is (x ∷ os) few q o g = at (is_bound x b) refl q g (λ k. home_is os (let z = less x os in omega (arith, z, few)) k o)
    where
      at : (t : Bool) → is_bound x b ≡ t → (q : ℕ) → slice_get (x ∷ os) q ≡ Some o → ((k : ℕ) → slice_get os k ≡ Some o → nat_eq (node_of b os) k ≡ is_bound o b) → nat_eq (cond t 0 (suc (node_of b os))) q ≡ is_bound o b
      at true e zero g behind = sym e ∙ ap (λ z. is_bound z b) (some_is x o g)
      at true e (suc q) g behind = not_behind q ∙ sym (absent os q o (let z = counted x os e in omega (arith, z, few)) g)
      at false e zero g behind = not_first (node_of b os) ∙ sym e ∙ ap (λ z. is_bound z b) (some_is x o g)
      at false e (suc q) g behind = suc_is (node_of b os) q ∙ behind q g
