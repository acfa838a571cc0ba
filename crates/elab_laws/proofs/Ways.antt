-- A type parameter of the local function at which a way ends stands among those of the term, and twice if a local definition
-- beside that function has it too.
use Rattle.std.proofs.Common.{ℕ, zero, suc, ◌≤◌, ◌++◌, List, sym, subst, arith}
use mathlib.Core.Logic.{◌⊎◌, inl, inr}
use Rattle.fut_scalar.specs.declared.place.BindId.{BindId}
use Rattle.fut_flat.specs.declared.prim.Ref.{Ref}
use Rattle.fut_flat.specs.Erased.{FlatTerm, FlatTurns}
use Rattle.fut_flat.specs.Terms.{Parameter, Use, Strict, Lambda, Apply, Let, If, Loop, Terms, no_term, term_and, Counted, Over, While}
use Rattle.fut_typing.specs.Typing.{FlatBinding}
use Rattle.fut_typing.specs.Exact.{Way, found, part}
use Rattle.fut_typing.specs.Declared.{Is_parameter}
use Rattle.typing_laws.specs.Ways.{Ends_at, Ends_in, Ends_in_turns, Function_let, Declares_beside, Some_beside, Turns_beside}
use Rattle.elab_laws.specs.Parameters.{type_parameters, local_parameters, all_local_parameters, turns_parameters}
use Rattle.elab_laws.proofs.Times.{times, times-append, Stands, stands_left, stands_right}
use Rattle.elab_laws.proofs.Parameters.{parameter_stands, local_stands, all_stand, turns_stand}

either : {B C : Type 0} {n : ℕ} {xs ys : List ℕ} → (B → Stands n xs) → (C → Stands n ys) → B ⊎ C → Stands n (xs ++ ys)
either {B} {C} {n} {xs} {ys} f g (inl b) = stands_left n xs ys (f b)
either {B} {C} {n} {xs} {ys} f g (inr c) = stands_right n xs ys (g c)

-- n stands in the list, and twice if B
pub record Twice_if (B : Type 0) (n : ℕ) (xs : List ℕ) : Type 0 where
  pub some : 1 ≤ times n xs
  pub twice : B → 2 ≤ times n xs

on_left : {B C : Type 0} {n : ℕ} {xs ys : List ℕ} → Twice_if B n xs → (C → Stands n ys) → Twice_if (B ⊎ C) n (xs ++ ys)
on_left {B} {C} {n} {xs} {ys} x stands = record {
  some = omega (arith, times-append n xs ys, x.some);
  twice = λ h. elim h [ inl b ↦ (let two = x.twice b in omega (arith, times-append n xs ys, two)) | inr c ↦ (let s = (stands c).some in omega (arith, times-append n xs ys, x.some, s)) ];
}

on_right : {B C : Type 0} {n : ℕ} {xs ys : List ℕ} → (C → Stands n xs) → Twice_if B n ys → Twice_if (C ⊎ B) n (xs ++ ys)
on_right {B} {C} {n} {xs} {ys} stands y = record {
  some = omega (arith, times-append n xs ys, y.some);
  twice = λ h. elim h [ inl c ↦ (let s = (stands c).some in omega (arith, times-append n xs ys, y.some, s)) | inr b ↦ (let two = y.twice b in omega (arith, times-append n xs ys, two)) ];
}

module _ (ps : List (Parameter BindId)) (n : ℕ) (i : Is_parameter ps n) where
  here : (b : FlatBinding) (v e : FlatTerm) → Is_parameter b.parameters n → Twice_if (Declares_beside (Let b v e) found n) n (local_parameters (Let b v e))
  here b v e own =
      let s = (parameter_stands b.parameters n own).some in
      let whole = times-append n (type_parameters b.parameters) (local_parameters v ++ local_parameters e) in record {
        some = omega (arith, whole, s);
        twice = λ h. let more = (either (local_stands v n) (local_stands e n) h).some in omega (arith, whole, s, more);
      }

  mutual
    pub stands_along : (t : FlatTerm) (w : Way) → Ends_at (Function_let ps) t w → Twice_if (Declares_beside t w n) n (local_parameters t)
    stands_along t found f = subst (λ t. Twice_if (Declares_beside t found n) n (local_parameters t)) (sym f.is) (here f.bound f.value f.rest (subst (λ qs. Is_parameter qs n) (sym f.parameters) i))
    stands_along (Use r at k) (part j w) f = absurd f
    stands_along (Strict o mark ts) (part j w) f = all_along ts j w f
    stands_along (Lambda qs e) (part j w) f = stands_along e w f
    stands_along (Apply g e) (part zero w) f = on_left (stands_along g w f) (local_stands e n)
    stands_along (Apply g e) (part (suc j) w) f = on_right (local_stands g n) (stands_along e w f)
    stands_along (Let b v e) (part zero w) f = on_right (parameter_stands b.parameters n) (on_left (stands_along v w f) (local_stands e n))
    stands_along (Let b v e) (part (suc j) w) f = on_right (parameter_stands b.parameters n) (on_right (local_stands v n) (stands_along e w f))
    stands_along (If c t e) (part zero w) f = on_left (stands_along c w f) (either (local_stands t n) (local_stands e n))
    stands_along (If c t e) (part (suc zero) w) f = on_right (local_stands c n) (on_left (stands_along t w f) (local_stands e n))
    stands_along (If c t e) (part (suc (suc j)) w) f = on_right (local_stands c n) (on_right (local_stands t n) (stands_along e w f))
    stands_along (Loop mark sizes p first turns body) (part zero w) f = on_left (stands_along first w f) (either (turns_stand turns n) (local_stands body n))
    stands_along (Loop mark sizes p first turns body) (part (suc zero) w) f = on_right (local_stands first n) (on_left (turns_along turns w f) (local_stands body n))
    stands_along (Loop mark sizes p first turns body) (part (suc (suc j)) w) f = on_right (local_stands first n) (on_right (turns_stand turns n) (stands_along body w f))

    all_along : (ts : Terms Ref BindId) (j : ℕ) (w : Way) → Ends_in (Function_let ps) ts j w → Twice_if (Some_beside ts j w n) n (all_local_parameters ts)
    all_along no_term j w f = absurd f
    all_along (term_and t ts) zero w f = on_left (stands_along t w f) (all_stand ts n)
    all_along (term_and t ts) (suc j) w f = on_right (local_stands t n) (all_along ts j w f)

    turns_along : (t : FlatTurns) (w : Way) → Ends_in_turns (Function_let ps) t w → Twice_if (Turns_beside t w n) n (turns_parameters t)
    turns_along (Counted b m) w f = stands_along m w f
    turns_along (Over p e) w f = stands_along e w f
    turns_along (While c) w f = stands_along c w f
