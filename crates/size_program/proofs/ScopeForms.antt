-- A name more is known.
use Rattle.std.proofs.Common.{◌≡◌, ℕ, Bool, true, false, cond, nat_eq, Option, Some, None, Result, Ok, Err, refl, sym, ap, ◌∙◌, eq-eqb}
use Rattle.std.proofs.lemmas.Bool.{eqb-true}
use Rattle.std.specs.Prelude.{IfOk}
use Rattle.std.specs.Borrow.{Bor}
use Rattle.fut_scalar.specs.declared.memory.NoMemory.{NoMemory}
use Rattle.fut_sizes.specs.Scopes as scopes
use Rattle.fut_sizes.specs.Scopes.{Scope, with_known}
use Rattle.size_arena.specs.Trees.{size_of}
use Rattle.size_program.specs.declared.maps.Known.{Known}
use Rattle.size_program.specs.declared.maps.NumberMap.{NumberMap}
use Rattle.size_program.specs.Maps.{entry_of, with_entry}
use Rattle.size_program.specs.Tables.{In_scope, known_of}

abbrev pub the_known : Known → scopes.Known
the_known k = record { size = size_of k.size.now; is_general = k.is_general }

same_test : (a b : ℕ) → nat_eq a b ≡ nat_eq b a
same_test a b = by_test (nat_eq a b) refl
  where
    by_test : (c : Bool) → nat_eq a b ≡ c → nat_eq a b ≡ nat_eq b a
    by_test true e = e ∙ sym (eq-eqb b a (sym (eqb-true a b e)))
    by_test false e = e ∙ sym (back (nat_eq b a) refl)
      where
        back : (c : Bool) → nat_eq b a ≡ c → c ≡ false
        back true q = let x = eq-eqb a b (sym (eqb-true b a q)) in cc
        back false q = refl

pub one_known : (b : ℕ) (k : Known) (one : Bor Known) (before : NumberMap) (r : Result (Bor NumberMap) NoMemory) → one.now ≡ k → IfOk r (λ made. (n : ℕ) → entry_of made.now n ≡ with_entry b one (entry_of before) n)
    → (scope : Scope) → In_scope before scope → IfOk r (λ made. In_scope made.now (with_known b (the_known k) scope))
one_known b k one before (Ok made) e h scope known = record { known = λ c. at c (nat_eq b c) refl }
  where
    at : (c : ℕ) (t : Bool) → nat_eq b c ≡ t → cond (nat_eq b c) (Some (the_known k)) (scope c) ≡ known_of (entry_of made.now c)
    at c true q = ap (λ z. cond z (Some (the_known k)) (scope c)) q ∙ ap (λ (z : Known). Some (the_known z)) (sym e) ∙ sym (ap known_of (h c ∙ ap (λ z. cond z (Some one) (entry_of before c)) (same_test c b ∙ q)))
    at c false q = ap (λ z. cond z (Some (the_known k)) (scope c)) q ∙ known.known c ∙ sym (ap known_of (h c ∙ ap (λ z. cond z (Some one) (entry_of before c)) (same_test c b ∙ q)))
one_known b k one before (Err x) e h scope known = tt

pub ruleset known_names = (one_known)
