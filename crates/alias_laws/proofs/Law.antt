-- The law, definition by definition.
use Rattle.std.proofs.Common.{◌≡◌, ℕ, ◌≤◌, suc, ◌+◌, true, false, List, [], ◌∷◌, None, inl, inr, refl, ap, arith}
use Rattle.fut_flat.specs.Numbers.{pattern_numbers, numbers}
use Rattle.fut_flat.specs.Erased.{FlatTerm}
use Rattle.fut_types.specs.Types.{Sub, Kinds}
use Rattle.fut_typing.specs.Names.{Names}
use Rattle.fut_typing.specs.Program.{Defined}
use Rattle.fut_aliases.specs.Aliases.{Naming, with_alias, first_name_alone}
use Rattle.fut_aliases.specs.Steps.{Answer, then_do, Done}
use Rattle.fut_aliases.specs.Patterns.{Scope, nothing, bound}
use Rattle.fut_aliases.specs.Calls.{Here, Held}
use Rattle.fut_aliases.specs.Looking.{value_looked}
use Rattle.fut_aliases.specs.Programs.{at_top, definitions_looked, broken, first_broken}
use Rattle.alias_laws.specs.Claims.{KeptNamesAnswerTheSame}
use Rattle.alias_laws.proofs.Worlds.{World, empties, grows_not}
use Rattle.alias_laws.proofs.Values.{value_on}
use Rattle.alias_laws.proofs.Losing.{none_lost}
use Rattle.alias_laws.proofs.Stepping.{Free, free_apart, plain, avoiding_less, AnswerR, refused, done, held_value}
use Rattle.alias_laws.proofs.Calling.{no_value_is, ScopeR, HereR, here_is}
use Rattle.alias_laws.proofs.Binding.{bound_is, scope_on}
use Rattle.alias_laws.proofs.Finishing.{HeldIs}
use Rattle.alias_laws.proofs.Walk.{looked_is}
use Rattle.alias_laws.proofs.Looks.{alone_is}

module _ (N : Names) (K : Kinds) (types : Sub) where
  -- ---- definitions

  defined_is : (e : FlatTerm) (lo : ℕ) (w : World) (h h' : Here) → Free w lo (lo + numbers e) → HereR w true h h'
      → AnswerR true w lo (lo + numbers e) [] (HeldIs true []) (value_looked with_alias N K types e lo h []) (value_looked first_name_alone N K types e lo h' [])
  unfolding value_looked
  defined_is e lo w h h' fr here = alone_is N K types e lo None (looked_is N K types e lo None) true w h h' [] [] fr here (none_lost w)

  no_world : World
  no_world = record { known = λ n. false; first = λ n i. (n, i); no_later = λ n i. inr refl; avoided = λ a. false }

  -- nothing from lo on is known
  abbrev Free_from : World → ℕ → Type 0
  Free_from w lo = (n : ℕ) → lo ≤ n → w.known n ≡ false

  definitions_are : (ds : List Defined) (lo : ℕ) (w : World) (scope scope' : Scope) → Free_from w lo → ScopeR w scope scope' → definitions_looked first_name_alone N K types ds lo scope' ≡ definitions_looked with_alias N K types ds lo scope
  definitions_are [] lo w scope scope' f sc = refl
  definitions_are (d ∷ ds) lo w scope scope' f sc = by_answer (defined_is d.value (lo + pattern_numbers d.name) w (at_top lo scope) (at_top lo scope') (λ n l h. f n (omega arith)) (here_is sc (empties (plain w)))) (λ w2 x x' f2 sc2. definitions_are ds (lo + (pattern_numbers d.name + numbers d.value)) w2 x x' f2 sc2)
    where
      next : Naming → Scope → Done Held → Answer (Unit {0})
      next naming scope a = definitions_looked naming N K types ds (lo + (pattern_numbers d.name + numbers d.value)) (bound naming N types false d.name lo a.result.value scope)

      by_answer : {x x' : Answer (Done Held)} → AnswerR true w (lo + pattern_numbers d.name) (lo + pattern_numbers d.name + numbers d.value) [] (HeldIs true []) x x'
          → ((w2 : World) (y y' : Scope) → Free_from w2 (lo + (pattern_numbers d.name + numbers d.value)) → ScopeR w2 y y' → definitions_looked first_name_alone N K types ds (lo + (pattern_numbers d.name + numbers d.value)) y' ≡ definitions_looked with_alias N K types ds (lo + (pattern_numbers d.name + numbers d.value)) y)
          → then_do x' (next first_name_alone scope') ≡ then_do x (next with_alias scope)
      by_answer refused k = refl
      by_answer (done {a} {a'} w2 g o l t q) k =
          let bs = bound_is N types false d.name lo (free_apart o (inl (omega arith)) (λ n y z. f n (omega arith))) (value_on (avoiding_less (grows_not w2) (λ c y. refl)) (held_value q)) (scope_on g sc) in
          k bs.world _ _ (λ n y. free_apart {a = n} {b = suc n} bs.only (inr (omega arith)) (free_apart o (inr (omega arith)) (λ m u v. f m (omega arith))) n (omega arith) (omega arith)) bs.scopes

  kept_names_answer : (ds : List Defined) → first_broken first_name_alone N K types ds ≡ first_broken with_alias N K types ds
  unfolding first_broken no_world
  kept_names_answer ds = ap (broken first_name_alone N K types) (definitions_are ds 0 no_world nothing nothing (λ n h. refl) (λ b. no_value_is))

pub kept_names_answer_the_same : KeptNamesAnswerTheSame
kept_names_answer_the_same = kept_names_answer
