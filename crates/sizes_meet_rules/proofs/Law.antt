-- The pass gives a sizing that meets the rules.
use Rattle.std.proofs.Common.{◌≡◌, ◌⊎◌, ℕ, ◌+◌, true, false, inl, Option, Some, None, Ok, refl, subst, inr}
use Rattle.fut_flat.specs.Numbers.{numbers}
use Rattle.fut_typing.specs.Scopes.{nothing as no_types}
use Rattle.sized_types.specs.Sizes.{Free, Size}
use Rattle.fut_sizes.specs.Scopes.{Known, nothing}
use Rattle.fut_typing.specs.Program.{program_numbers}
use Rattle.fut_sizes.specs.ProgramRules.{Program_sized}
use Rattle.fut_sizes.specs.Programs.{no_state, definitions_sized, sizing}
use Rattle.fut_sizes.specs.Scoping.{nothing_known}
use Rattle.sizes_meet_rules.specs.Claims.{SizingMeetsRules, Definitions_have_types, ProgramSizingMeetsRules}
use Rattle.sizes_meet_rules.specs.Known.{Is_const, Judged}
use Rattle.sizes_meet_rules.proofs.Defining.{Known_before, Row_meets, definitions_meet}
use Rattle.sizes_meet_rules.proofs.Using.{None_there}
use Rattle.sizes_meet_rules.proofs.Meeting.{Then_ok, then_ok, same_ok, Meets}
use Rattle.sizes_meet_rules.proofs.Showing.{alone}
use Rattle.sizes_meet_rules.proofs.Walking.{term_part}

judged_nothing : Judged (λ d. ⊥) (λ v. ⊥) nothing nothing_known
judged_nothing = record {
  sizes = λ b t e. absurd (let z : ◌≡◌ {A = Option Known} None (Some (record { size = t; is_general = false })) = e in cc);
  schemes = λ b t e. absurd (let z : ◌≡◌ {A = Option Known} None (Some (record { size = t; is_general = true })) = e in cc);
  none_open = (λ b t e. absurd (let z : ◌≡◌ {A = Option Size} None (Some t) = e in cc), λ b t e. absurd (let z : ◌≡◌ {A = Option Size} None (Some t) = e in cc));
  finds = λ d i. absurd i;
  finds_types = λ v i. absurd i;
}

pub sizing_meets_rules : SizingMeetsRules
sizing_meets_rules N types home K places e lo st d u places_data p t q f = (M.rules u.state.nodes nothing_known judged_nothing (λ n x y. refl), M.here, M.typed)
  where
    M : Meets N types home (λ d. ⊥) (λ v. ⊥) nothing e lo (lo + numbers e) st u.result u.state
    M = alone N types home K places e (term_part N types home K places places_data e) (λ d. ⊥) (λ v. ⊥) nothing no_types lo st d u p t (λ b w i. absurd i) (record { no_slot = λ x i. absurd i; outside = λ x i o. i }) q f

pub program_sizing_meets_rules : ProgramSizingMeetsRules
unfolding sizing
program_sizing_meets_rules N types home K places ds nodes places_data p t q = subst (λ (s : ℕ → Size). Program_sized N types s home ds × Definitions_have_types types s ds 0) (same_ok x1.rest)
    (R.rules x1.first.state.nodes nothing_known (program_numbers ds) judged_constants (λ n l. refl))
  where
    x1 : Then_ok (definitions_sized N types ds 0 nothing no_state) (λ d. Ok d.state.nodes) nodes
    x1 = then_ok (definitions_sized N types ds 0 nothing no_state) q

    no_number : Free → Type 0
    no_number d = ⊥

    judged_constants : Judged (Known_before no_number) None_there nothing nothing_known
    judged_constants = record { sizes = judged_nothing.sizes; schemes = judged_nothing.schemes; none_open = judged_nothing.none_open; finds = λ d i. by_kind d i; finds_types = λ v i. absurd i }
      where
        by_kind : (d : Free) → Known_before no_number d → (false ≡ true) ⊎ Is_const d
        by_kind d (inl i) = inr i
        by_kind d (inr i) = absurd i

    R : Row_meets N types home K places places_data no_number ds 0 nothing no_state x1.first.state
    R = definitions_meet N types home K places places_data ds no_number 0 nothing no_types no_state x1.first (record { no_slot = λ d i. absurd i; outside = λ d i from hi l o. i }) p t (λ b u i. absurd i) x1.done
