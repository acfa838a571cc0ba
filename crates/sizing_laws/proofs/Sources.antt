-- Typings under two numberings in order are one, with other numbers for records and other names for variables; so the first broken
-- rule is the same, and so are sizes where no variable is left open.
use Rattle.std.proofs.Common.{◌≡◌, ℕ, ◌<◌, List, refl, ◌∙◌, ap, subst}
use mathlib.Core.Logic.{inl, inr}
use Rattle.fut_types.specs.Types.{Ty, Var, Made, Tys, none, more, Sub, applied, all_applied}
use Rattle.fut_typing.specs.Names.{Names, AreNames}
use Rattle.fut_typing.specs.Program.{Defined, program_numbers}
use Rattle.fut_typing.specs.Answers.{Stands, Stands_in, Typing_is}
use Rattle.sizing_laws.specs.Renumbering.{Renumbers, renumbered_head, renumbered_type, renumbered_types, renamed_type, renamed_types}
use Rattle.sizing_laws.specs.Renaming.{Renamed_typing}
use Rattle.sizing_laws.specs.Order.{In_order}
use Rattle.sizing_laws.specs.Claims.{Typed_again}
use Rattle.sizing_laws.specs.Sources.{FirstBrokenIsOne, NothingOpenIsOne, SizingsAreOne}
use Rattle.sizing_laws.proofs.Typing.{typing_is_one}
use Rattle.sizing_laws.proofs.Ordering.{order_is_one}
use Rattle.sizing_laws.proofs.Instances.{typings_are_one}
use Rattle.sizing_laws.proofs.Walk.{sizing_is_one}
use Rattle.sizing_laws.proofs.AliasWalk.{aliases_are_one}

module _ (number variable : ℕ → ℕ) where
  mutual
    unfolding applied

    both_changed : (t : Ty) → applied (λ v. Var (variable v)) (renumbered_type number t) ≡ renamed_type number variable t
    both_changed (Var v) = refl
    both_changed (Made h ts) = ap (Made (renumbered_head number h)) (all_both_changed ts)

    all_both_changed : (ts : Tys) → all_applied (λ v. Var (variable v)) (renumbered_types number ts) ≡ renamed_types number variable ts
    all_both_changed none = refl
    all_both_changed (more t ts) = λ i. more (both_changed t i) (all_both_changed ts i)

-- ---- a type without variables

abbrev Closed : Ty → Type 0
Closed t = (v : ℕ) → Stands v t → ⊥

abbrev All_closed : Tys → Type 0
All_closed ts = (v : ℕ) → Stands_in v ts → ⊥

module _ (number f g : ℕ → ℕ) where
  mutual
    no_names : (t : Ty) → Closed t → renamed_type number f t ≡ renamed_type number g t
    no_names (Var v) h = absurd (h v refl)
    no_names (Made k ts) h = ap (Made (renumbered_head number k)) (all_no_names ts h)

    all_no_names : (ts : Tys) → All_closed ts → renamed_types number f ts ≡ renamed_types number g ts
    all_no_names none h = refl
    all_no_names (more t ts) h = λ i. more (no_names t (λ v s. h v (inl s)) i) (all_no_names ts (λ v s. h v (inr s)) i)

module _ (number f : ℕ → ℕ) where
  mutual
    still_closed : (t : Ty) → Closed t → Closed (renamed_type number f t)
    still_closed (Var v) h w s = h v refl
    still_closed (Made k ts) h w s = all_still_closed ts h w s

    all_still_closed : (ts : Tys) → All_closed ts → All_closed (renamed_types number f ts)
    all_still_closed none h w s = s
    all_still_closed (more t ts) h w (inl s) = still_closed t (λ v s. h v (inl s)) w s
    all_still_closed (more t ts) h w (inr s) = all_still_closed ts (λ v s. h v (inr s)) w s

-- ---- two typings

-- other numbers for records, and other names for variables, from the one typing to the other
record Changed (M N : Names) (ds : List Defined) (types others : Sub) : Type 0 where
  number : ℕ → ℕ
  renumbers : Renumbers M N number
  variable : ℕ → ℕ
  is : (n : ℕ) → n < program_numbers ds → others n ≡ renamed_type number variable (types n)

changed : (M N : Names) → AreNames M → AreNames N → In_order M → In_order N → (ds : List Defined) (types others : Sub) → Typing_is M ds types → Typing_is N ds others → Changed M N ds types others
changed M N m n i j ds types others t o =
    let again : Typed_again M N ds types = typing_is_one M N m n (order_is_one M N m n i j) ds types t in
    let one : Renamed_typing N ds (λ k. renumbered_type again.number (types k)) others again.typing o = typings_are_one N ds (λ k. renumbered_type again.number (types k)) others again.typing o in record {
      number = again.number;
      renumbers = again.renumbers;
      variable = one.renaming.to;
      is = λ k lt. one.is k lt ∙ both_changed again.number one.renaming.to (types k);
    }

pub first_broken_is_one : FirstBrokenIsOne
first_broken_is_one naming k M N m n i j ds types others t o =
    let c : Changed M N ds types others = changed M N m n i j ds types others t o in
    aliases_are_one naming M N m n c.number c.renumbers c.variable (λ v. k) (λ v. refl) ds types others c.is

pub nothing_open_is_one : NothingOpenIsOne
nothing_open_is_one M N m n i j ds types others t o closed k v lt s =
    let c : Changed M N ds types others = changed M N m n i j ds types others t o in
    still_closed c.number c.variable (types k) (λ w r. closed k w lt r) v (subst (Stands v) (c.is k lt) s)

pub sizings_are_one : SizingsAreOne
sizings_are_one M N m n i j ds types others t o closed =
    let c : Changed M N ds types others = changed M N m n i j ds types others t o in record {
      number = c.number;
      renumbers = c.renumbers;
      sizing = sizing_is_one M N m n c.number c.renumbers ds types others (λ k lt. c.is k lt ∙ no_names c.number c.variable (λ v. v) (types k) (λ v s. closed k v lt s));
    }
