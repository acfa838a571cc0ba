-- The rules of arguments, one after another.
use Rattle.std.proofs.Common.{◌≡◌, ℕ, ◌+◌, ◌<◌, ◌≤◌, List, [], ◌∷◌, length, get_or, drop, Bool, true, false, ◌||◌, is_some, cond, Option, Some, None, refl, sym, ap, ◌∙◌}
use Rattle.fut_aliases.specs.Stars.{Stars, consumes_more, gives_less}
use Rattle.fut_aliases.specs.Values.{Component, functions, starring}
use Rattle.fut_aliases.specs.Steps.{or_else}
use Rattle.fut_aliases.specs.declared.refusals.Broken.{Broken}
use Rattle.fut_aliases.specs.declared.refusals.Broken.TheVariants.{NotConsumable, ResultAliases}
use Rattle.fut_aliases.specs.declared.refusals.Named.{Named}
use Rattle.fut_aliases.specs.declared.refusals.Spot.TheVariants.{First}
use Rattle.fut_aliases.specs.Calls as definition
use Rattle.fut_aliases.specs.Calls.{first_broken, starred_argument, too_hungry, too_shared, when}
use Rattle.alias_values.specs.Trees.{value_of}
use Rattle.alias_values.proofs.Rows.{drop_past, one_more}
use Rattle.uniqueness.specs.declared.held.Held.{Held}
use Rattle.uniqueness.specs.Held.{held_of}
use Rattle.alias_applications.specs.declared.given.Given.{Given}
use Rattle.alias_applications.specs.Givens.{given_of, givens_of}
use Rattle.alias_applications.specs.Rules.{has_starred}

-- ---- whether a function fits

module _ (u : Stars) (a : Held) (w : Stars) (h : w ≡ functions (value_of a.value.now)) where
  pub hungry_some : true ≡ consumes_more u w → Some (NotConsumable a.called (First a.node)) ≡ too_hungry u (held_of a)
  hungry_some e = ap (λ z. when z (NotConsumable a.called (First a.node))) e ∙ ap (λ z. when (consumes_more u z) (NotConsumable a.called (First a.node))) h

  pub hungry_none : false ≡ consumes_more u w → None ≡ too_hungry u (held_of a)
  hungry_none e = ap (λ z. when z (NotConsumable a.called (First a.node))) e ∙ ap (λ z. when (consumes_more u z) (NotConsumable a.called (First a.node))) h

  pub shared_some : true ≡ gives_less u w → Some (ResultAliases a.first_name (First a.node)) ≡ too_shared u (held_of a)
  shared_some e = ap (λ z. when z (ResultAliases a.first_name (First a.node))) e ∙ ap (λ z. when (gives_less u z) (ResultAliases a.first_name (First a.node))) h

  pub shared_none : false ≡ gives_less u w → None ≡ too_shared u (held_of a)
  shared_none e = ap (λ z. when z (ResultAliases a.first_name (First a.node))) e ∙ ap (λ z. when (gives_less u z) (ResultAliases a.first_name (First a.node))) h

pub ruleset fit_forms = (hungry_some, hungry_none, shared_some, shared_none)

-- ---- the first argument that breaks a rule

module _ (rule : definition.Given → Option Broken) (xs : List Given) (i : ℕ) (h : first_broken rule (givens_of xs) ≡ first_broken rule (givens_of (drop i xs))) where
  first_at : (d : Given) (b : Option Broken) → i < length xs → b ≡ rule (given_of (get_or xs i d)) → first_broken rule (givens_of xs) ≡ or_else b (first_broken rule (givens_of (drop (i + 1) xs)))
  first_at d b l e = h ∙ ap (λ z. first_broken rule (givens_of z)) (one_more xs i d l) ∙ ap (λ z. or_else z (first_broken rule (givens_of (drop (i + 1) xs)))) (sym e)

  pub first_more : (d : Given) (b : Option Broken) → i < length xs → b ≡ rule (given_of (get_or xs i d)) → false ≡ is_some b → first_broken rule (givens_of xs) ≡ first_broken rule (givens_of (drop (i + 1) xs))
  first_more d None l e n = first_at d None l e
  first_more d (Some b) l e n = cc

  pub first_here : (d : Given) (b : Option Broken) → i < length xs → b ≡ rule (given_of (get_or xs i d)) → true ≡ is_some b → b ≡ first_broken rule (givens_of xs)
  first_here d None l e n = cc
  first_here d (Some b) l e n = sym (first_at d (Some b) l e)

  pub first_end : length xs ≤ i → None ≡ first_broken rule (givens_of xs)
  first_end l = sym (h ∙ ap (λ z. first_broken rule (givens_of z)) (drop_past xs i l))

pub ruleset first_ones = (first_more, first_here, first_end)

-- ---- an argument whose parameter has a star

module _ (f : Named) (g : definition.Given) where
  abbrev or_starred : Named → List Component → Option Broken
  or_starred n [] = None
  or_starred n (c ∷ cs) = cond c.starred (Some (NotConsumable n (First g.argument.node))) (or_starred n cs)

  some_is : (cs : List Component) → true ≡ has_starred cs → Some (NotConsumable f (First g.argument.node)) ≡ or_starred f cs
  some_is [] e = cc
  some_is (c ∷ cs) e = by_star c.starred e (some_is cs)
    where
      by_star : (b : Bool) → true ≡ b || has_starred cs → (true ≡ has_starred cs → Some (NotConsumable f (First g.argument.node)) ≡ or_starred f cs) → Some (NotConsumable f (First g.argument.node)) ≡ cond b (Some (NotConsumable f (First g.argument.node))) (or_starred f cs)
      by_star true e rest = refl
      by_star false e rest = rest e

  none_is : (cs : List Component) → false ≡ has_starred cs → None ≡ or_starred f cs
  none_is [] e = refl
  none_is (c ∷ cs) e = by_star c.starred e (none_is cs)
    where
      by_star : (b : Bool) → false ≡ b || has_starred cs → (false ≡ has_starred cs → None ≡ or_starred f cs) → None ≡ cond b (Some (NotConsumable f (First g.argument.node))) (or_starred f cs)
      by_star true e rest = cc
      by_star false e rest = rest e

  pub starred_some : (b : Bool) → b ≡ has_starred (starring g.stars g.argument.value) → b ≡ true → Some (NotConsumable f (First g.argument.node)) ≡ starred_argument f g
  starred_some b e t = some_is (starring g.stars g.argument.value) (sym t ∙ e)

  pub starred_none : (b : Bool) → b ≡ has_starred (starring g.stars g.argument.value) → b ≡ false → None ≡ starred_argument f g
  starred_none b e t = none_is (starring g.stars g.argument.value) (sym t ∙ e)

pub ruleset starred_forms = (starred_some, starred_none)
