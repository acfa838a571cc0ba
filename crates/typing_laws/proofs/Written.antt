-- Generalisation is exact for definitions with written type parameters.
use Rattle.std.proofs.Common.{ℕ, ◌+◌, ◌≤◌, ◌<◌, sym, arith, List, ◌∷◌, ◌++◌}
use mathlib.Core.Logic.{◌⊎◌, inl, inr}
use Rattle.fut_flat.specs.Numbers.{pattern_numbers, numbers}
use Rattle.fut_types.specs.declared.Kind.{Kind}
use Rattle.fut_types.specs.Types.{Var, Sub, Kinds}
use Rattle.fut_typing.specs.Names.{Names, AreNames}
use Rattle.fut_typing.specs.Scopes.{Scope, nothing}
use Rattle.fut_typing.specs.Generalised.{own_types, Scheme}
use Rattle.fut_typing.specs.Program.{Defined, program_numbers, Program_typed}
use Rattle.fut_typing.specs.Exact.{behind, scope_behind, scheme_behind}
use Rattle.fut_typing.specs.Declared.{Is_parameter, Declares, Parameter_in}
use Rattle.fut_typing.proofs.Ranges.{pattern_some}
use Rattle.fut_typing.proofs.Local.{AllLocal}
use Rattle.fut_typing.proofs.Cong.{variant_same}
use Rattle.fut_typing.proofs.Programs.{definition_depends}
use Rattle.fut_typing.proofs.Readings.{Reading, extends_self, plain}
use Rattle.fut_typing.proofs.Below.{Below, either_below, declared_below, program_below}
use Rattle.fut_typing.proofs.Typings.{definition_moves}
use Rattle.typing_laws.specs.Claims.{Alone, WrittenIsExact}
use Rattle.typing_laws.proofs.Chosen.{scope_local, definition_in, whole_within}
use Rattle.typing_laws.proofs.Spelled.{one_label}
use Rattle.typing_laws.proofs.Placed.{stays}
use Rattle.typing_laws.proofs.Lifted.{back}
use Rattle.typing_laws.proofs.Exact.{own_back, Exchanges, exact}
use Rattle.typing_laws.proofs.Programs.{good, lifted_typing, good_back, follows_back}
use Rattle.typing_laws.proofs.Twice as twice

module _ (N : Names) (are : AreNames N) (places : Kind) (before after : List Defined) (d : Defined) (alone : Alone before d after) (K : Kinds) (a : Sub) (typing : Program_typed N places (before ++ d ∷ after) K a) where
  abbrev D : ℕ → Type 0
  D n = Parameter_in before n ⊎ (Declares d.value n ⊎ Parameter_in after n)

  abbrev s : Scheme
  s = scheme_behind N places before d

  abbrev scope : Scope
  scope = scope_behind N places before 0 nothing

  apart : (n : ℕ) → D n → Is_parameter d.parameters n → ⊥
  apart n h i = alone n i h

  here_local : AllLocal (λ n. n < behind before 0) scope
  here_local = scope_local N places before 0 nothing (λ b K a a' t e u. absurd u)

  exchanges : Exchanges N places (before ++ d ∷ after) s D K a
  exchanges = let whole : behind before 0 + (pattern_numbers d.name + numbers d.value) ≤ 0 + program_numbers (before ++ d ∷ after) = whole_within N places d after before 0 in let some : 0 < pattern_numbers d.name = pattern_some d.name in record {
    some = omega arith;
    whole = omega arith;
    depends = definition_depends N places (λ n. n < behind before 0) d (behind before 0) scope here_local;
    lifts = λ c F0 G over wide low suits v.
        let I : Reading = plain (λ n. Var n) in
        lifted_typing N places d.parameters c F0 G over wide (one_label N are) K D low apart d after (λ n i. inr (inr i)) a v.other before 0 nothing (λ n i. inl i) (λ b K a a' t e u. absurd u) (record { uses = λ b J su e x y t t' u u'. absurd u; types = λ b J su e t t' u u'. absurd u })
        (λ n lt. sym (v.outside n (inl lt)))
        (λ local j g. record {
          same = stays s c K a v;
          typed = twice.definition_joins N places d.parameters c F0 G over wide (one_label N are) K D low apart I G (good N places d.parameters c F0 G over wide (one_label N are) K D low apart) d (behind before 0) scope scope scope (λ n i. inr (inl i)) local j (own_types places d.parameters) c
              (twice.own_chosen N places d.parameters c F0 G over wide (one_label N are) K D low apart I G (extends_self G I) (omega arith)) a v.other g.0 v.typed g.1
              (λ z suits. variant_same (λ n. n < behind before 0) s (definition_depends N places (λ n. n < behind before 0) d (behind before 0) scope local) z K a v.other (λ n. elim [ inl lt ↦ sym (v.outside n (inl lt)) | inr k ↦ sym (v.kept n k.0.0 k.0.1 k.1) ]) (g.1 z suits));
          used = λ n p q. twice.definition_used N places d.parameters c F0 G over wide (one_label N are) K D low apart I G (good N places d.parameters c F0 G over wide (one_label N are) K D low apart) d (behind before 0) scope scope scope (λ n i. inr (inl i)) local j n;
        }) typing;
    moves = λ c F0 G over wide low suits x typed. let B : Reading = back N.shapes places d.parameters c F0 G over wide in
        definition_moves N places K K D F0 low B G d (behind before 0) scope scope (λ n i. inr (inl i)) here_local (follows_back N places d.parameters c F0 G over wide (one_label N are) K D low apart suits before (λ n i. inl i)) (own_types places d.parameters) c B G
        (good_back N places d.parameters c F0 G over wide (one_label N are) K D low apart suits) (omega arith) (extends_self G B) (own_back N places s c F0 G over wide (one_label N are) K) x (definition_in N places d after before 0 nothing K x typed).0;
  }

pub written_is_exact : WrittenIsExact
written_is_exact N are places before after d alone p K a typing t =
    let below : Below (λ n. Parameter_in before n ⊎ (Declares d.value n ⊎ Parameter_in after n)) = either_below (Parameter_in before) (λ n. Declares d.value n ⊎ Parameter_in after n) (program_below before) (either_below (Declares d.value) (Parameter_in after) (declared_below d.value) (program_below after)) in
    exact N are places (before ++ d ∷ after) (scheme_behind N places before d) (λ n. Parameter_in before n ⊎ (Declares d.value n ⊎ Parameter_in after n)) below p K a typing (exchanges N are places before after d alone K a typing) t
