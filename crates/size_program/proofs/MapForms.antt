-- Maps, form by form.
use Rattle.std.proofs.Common.{◌≡◌, ℕ, ◌+◌, ◌*◌, ◌-◌, ◌/◌, ◌%◌, Bool, true, false, cond, nat_eq, Option, Some, None, refl, sym, ap, ◌∙◌, subst, arith, eq-eqb, ne_eqb}
use Rattle.std.proofs.lemmas.Bool.{eqb-true}
use Rattle.std.specs.Borrow.{Bor}
use Rattle.size_program.specs.declared.maps.Known.{Known}
use Rattle.size_program.specs.declared.maps.NumberMap.{NumberMap, fold-roll-NumberMap}
use Rattle.size_program.specs.declared.maps.NumberMap.TheOpen as layer
use Rattle.size_program.specs.declared.maps.NumberMap.TheVariants as form
use Rattle.size_program.specs.Maps.{Entries, forked, map_form, entry_of, with_entry}

pub entry_empty : (n : ℕ) → entry_of form.Empty n ≡ None
unfolding entry_of map_form
entry_empty n = ap (λ (f : Entries). f n) (ap entry_of (sym form.rolls-Empty) ∙ fold-roll-NumberMap _ map_form layer.Empty)

pub entry_fork : (own : Option (Bor Known)) (odd even : Bor NumberMap) (n : ℕ) → entry_of (form.Fork own odd even) n ≡ forked own (entry_of odd.now) (entry_of even.now) n
unfolding entry_of map_form
entry_fork own odd even n = ap (λ (f : Entries). f n) (ap entry_of (sym (form.rolls-Fork own odd even)) ∙ fold-roll-NumberMap _ map_form (layer.Fork own odd even))

module _ (m : NumberMap) where
  pub empty_made : m ≡ form.Empty → (n : ℕ) → entry_of m n ≡ None
  empty_made is n = ap (λ z. entry_of z n) is ∙ entry_empty n

  pub fork_made : (own : Option (Bor Known)) (odd even : Bor NumberMap) → m ≡ form.Fork own odd even → (n : ℕ) → entry_of m n ≡ forked own (entry_of odd.now) (entry_of even.now) n
  fork_made own odd even is n = ap (λ z. entry_of z n) is ∙ entry_fork own odd even n

pub ruleset maps = (empty_made, fork_made)

-- ---- a number is 0, or odd, or another

module _ (own : Option (Bor Known)) (odd even : Entries) where
  fork_by : (n : ℕ) (a b : Bool) → nat_eq n 0 ≡ a → nat_eq (n % 2) 1 ≡ b → forked own odd even n ≡ cond a own (cond b (odd (n / 2)) (even (n / 2 - 1)))
  fork_by n a b p q = ap (λ z. cond z own (cond (nat_eq (n % 2) 1) (odd (n / 2)) (even (n / 2 - 1)))) p ∙ ap (λ z. cond a own (cond z (odd (n / 2)) (even (n / 2 - 1)))) q

  pub forked_here : (n : ℕ) → n ≡ 0 → forked own odd even n ≡ own
  forked_here n e = fork_by n true (nat_eq (n % 2) 1) (eq-eqb n 0 e) refl

  pub forked_odd : (n k : ℕ) → n ≡ 2 * k + 1 → forked own odd even n ≡ odd k
  forked_odd n k e =
      let a : n % 2 ≡ 1 = omega (arith, e) in
      let b : n / 2 ≡ k = omega (arith, e) in
      fork_by n false true (ne_eqb n 0 (λ z. absurd (omega (arith, e, z)))) (eq-eqb (n % 2) 1 a) ∙ ap odd b

  pub forked_even : (n k : ℕ) → n ≡ 2 * k + 2 → forked own odd even n ≡ even k
  forked_even n k e =
      let a : n % 2 ≡ 0 = omega (arith, e) in
      let b : n / 2 - 1 ≡ k = omega (arith, e) in
      fork_by n false false (ne_eqb n 0 (λ z. absurd (omega (arith, e, z)))) (ne_eqb (n % 2) 1 (λ z. absurd (omega (arith, a, z)))) ∙ ap even b

module _ (m : NumberMap) (n : ℕ) where
  pub find_nothing : m ≡ form.Empty → None ≡ entry_of m n
  find_nothing is = sym (empty_made m is n)

  module _ (own : Option (Bor Known)) (odd even : Bor NumberMap) (is : m ≡ form.Fork own odd even) where
    pub find_here : n ≡ 0 → own ≡ entry_of m n
    find_here e = sym (fork_made m own odd even is n ∙ forked_here own (entry_of odd.now) (entry_of even.now) n e)

    pub find_odd : (o : Option (Bor Known)) → n % 2 ≡ 1 → o ≡ entry_of odd.now (n / 2) → o ≡ entry_of m n
    find_odd o e h = h ∙ sym (fork_made m own odd even is n ∙ forked_odd own (entry_of odd.now) (entry_of even.now) n (n / 2) (omega (arith, e)))

    pub find_even : (o : Option (Bor Known)) → (n ≡ 0 → ⊥) → (n % 2 ≡ 1 → ⊥) → o ≡ entry_of even.now (n / 2 - 1) → o ≡ entry_of m n
    find_even o ne e h = h ∙ sym (fork_made m own odd even is n ∙ forked_even own (entry_of odd.now) (entry_of even.now) n (n / 2 - 1) (grind (arith, ne, e)))

pub ruleset finds = (find_nothing, find_here, find_odd, find_even)

module _ (m : NumberMap) where
  pub nothing_odd : m ≡ form.Empty → (n : ℕ) → entry_of m n ≡ entry_of m (2 * n + 1)
  nothing_odd is n = empty_made m is n ∙ sym (empty_made m is (2 * n + 1))

  pub nothing_even : m ≡ form.Empty → (n : ℕ) → entry_of m n ≡ entry_of m (2 * n + 2)
  nothing_even is n = empty_made m is n ∙ sym (empty_made m is (2 * n + 2))

  module _ (own : Option (Bor Known)) (odd even : Bor NumberMap) (is : m ≡ form.Fork own odd even) where
    pub part_odd : (n : ℕ) → entry_of odd.now n ≡ entry_of m (2 * n + 1)
    part_odd n = sym (fork_made m own odd even is (2 * n + 1) ∙ forked_odd own (entry_of odd.now) (entry_of even.now) (2 * n + 1) n refl)

    pub part_even : (n : ℕ) → entry_of even.now n ≡ entry_of m (2 * n + 2)
    part_even n = sym (fork_made m own odd even is (2 * n + 2) ∙ forked_even own (entry_of odd.now) (entry_of even.now) (2 * n + 2) n refl)

pub ruleset parts = (nothing_odd, nothing_even, part_odd, part_even)

-- ---- one name more

pub data Parity (n : ℕ) : Type 0 where
  is_zero : n ≡ 0 → Parity n
  is_odd : (k : ℕ) → n ≡ 2 * k + 1 → Parity n
  is_even : (k : ℕ) → n ≡ 2 * k + 2 → Parity n

parity : (n : ℕ) → Parity n
parity n = by_zero (nat_eq n 0) refl
  where
    by_odd : (b : Bool) → nat_eq n 0 ≡ false → nat_eq (n % 2) 1 ≡ b → Parity n
    by_odd true z e = let a : n % 2 ≡ 1 = eqb-true (n % 2) 1 e in is_odd (n / 2) (omega (arith, a))
    by_odd false z e = is_even (n / 2 - 1) (grind (arith, z, e))

    by_zero : (b : Bool) → nat_eq n 0 ≡ b → Parity n
    by_zero true e = is_zero (eqb-true n 0 e)
    by_zero false e = by_odd (nat_eq (n % 2) 1) e refl

nat_eq_by : (a b c d : ℕ) → (a ≡ b → c ≡ d) → (c ≡ d → a ≡ b) → nat_eq a b ≡ nat_eq c d
nat_eq_by a b c d f g = by_equal (nat_eq a b) refl
  where
    by_equal : (e : Bool) → nat_eq a b ≡ e → nat_eq a b ≡ nat_eq c d
    by_equal true e = e ∙ sym (eq-eqb c d (f (eqb-true a b e)))
    by_equal false e = e ∙ sym (ne_eqb c d (λ q. never (g q)))
      where
        never : a ≡ b → ⊥
        never q = let x = eq-eqb a b q in cc

module _ (made before odd even : Entries) (v : Bor Known) (o : (n : ℕ) → odd n ≡ before (2 * n + 1)) (e : (n : ℕ) → even n ≡ before (2 * n + 2)) where
  pub entry_zero : (number : ℕ) → number ≡ 0 → ((n : ℕ) → made n ≡ forked (Some v) odd even n) → (n : ℕ) → made n ≡ with_entry number v before n
  entry_zero number z h n = h n ∙ by_parity (parity n)
    where
      at : (b : Bool) → nat_eq n number ≡ b → with_entry number v before n ≡ cond b (Some v) (before n)
      at b q = ap (λ z. cond z (Some v) (before n)) q

      by_parity : Parity n → forked (Some v) odd even n ≡ with_entry number v before n
      by_parity (is_zero q) = forked_here (Some v) odd even n q ∙ sym (at true (eq-eqb n number (q ∙ sym z)))
      by_parity (is_odd k q) = forked_odd (Some v) odd even n k q ∙ o k ∙ ap before (sym q) ∙ sym (at false (ne_eqb n number (λ x. absurd (omega (arith, q, x, z)))))
      by_parity (is_even k q) = forked_even (Some v) odd even n k q ∙ e k ∙ ap before (sym q) ∙ sym (at false (ne_eqb n number (λ x. absurd (omega (arith, q, x, z)))))

  module _ (own : Option (Bor Known)) (mine : own ≡ before 0) (number : ℕ) where
    pub entry_odd : (part : Entries) → number % 2 ≡ 1 → ((n : ℕ) → part n ≡ with_entry (number / 2) v odd n) → ((n : ℕ) → made n ≡ forked own part even n) → (n : ℕ) → made n ≡ with_entry number v before n
    entry_odd part p g h n = h n ∙ by_parity (parity n)
      where
        at : (b : Bool) → nat_eq n number ≡ b → with_entry number v before n ≡ cond b (Some v) (before n)
        at b q = ap (λ z. cond z (Some v) (before n)) q

        by_parity : Parity n → forked own part even n ≡ with_entry number v before n
        by_parity (is_zero q) = forked_here own part even n q ∙ mine ∙ ap before (sym q) ∙ sym (at false (ne_eqb n number (λ x. absurd (omega (arith, q, x, p)))))
        by_parity (is_odd k q) =
            forked_odd own part even n k q ∙ g k ∙ ap (λ z. cond (nat_eq k (number / 2)) (Some v) z) (o k ∙ ap before (sym q))
            ∙ ap (λ z. cond z (Some v) (before n)) (nat_eq_by k (number / 2) n number (λ x. omega (arith, q, x, p)) (λ x. omega (arith, q, x, p)))
        by_parity (is_even k q) = forked_even own part even n k q ∙ e k ∙ ap before (sym q) ∙ sym (at false (ne_eqb n number (λ x. absurd (omega (arith, q, x, p)))))

    pub entry_even : (part : Entries) → (number ≡ 0 → ⊥) → (number % 2 ≡ 1 → ⊥) → ((n : ℕ) → part n ≡ with_entry (number / 2 - 1) v even n) → ((n : ℕ) → made n ≡ forked own odd part n) → (n : ℕ) → made n ≡ with_entry number v before n
    entry_even part ne p g h n = h n ∙ by_parity (parity n)
      where
        half : number ≡ 2 * (number / 2 - 1) + 2
        half = grind (arith, ne, p)

        at : (b : Bool) → nat_eq n number ≡ b → with_entry number v before n ≡ cond b (Some v) (before n)
        at b q = ap (λ z. cond z (Some v) (before n)) q

        by_parity : Parity n → forked own odd part n ≡ with_entry number v before n
        by_parity (is_zero q) = forked_here own odd part n q ∙ mine ∙ ap before (sym q) ∙ sym (at false (ne_eqb n number (λ x. ne (sym x ∙ q))))
        by_parity (is_odd k q) = forked_odd own odd part n k q ∙ o k ∙ ap before (sym q) ∙ sym (at false (ne_eqb n number (λ x. absurd (omega (arith, q, x, half)))))
        by_parity (is_even k q) =
            forked_even own odd part n k q ∙ g k ∙ ap (λ z. cond (nat_eq k (number / 2 - 1)) (Some v) z) (e k ∙ ap before (sym q))
            ∙ ap (λ z. cond z (Some v) (before n)) (nat_eq_by k (number / 2 - 1) n number (λ x. omega (arith, q, x, half)) (λ x. omega (arith, q, x, half)))

pub ruleset entries = (entry_zero, entry_odd, entry_even)
