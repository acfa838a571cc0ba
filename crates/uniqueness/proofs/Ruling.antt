-- Rules on sets and on parts one after another.
use Rattle.std.proofs.Common.{◌≡◌, ℕ, zero, suc, ◌+◌, ◌-◌, ◌<◌, ◌≤◌, List, [], ◌∷◌, length, get_or, drop, true, false, is_some, Option, Some, None, refl, sym, ap, ◌∙◌, arith, add-one}
use Rattle.std.proofs.Math.Seq.{drop-cons}
use Rattle.fut_aliases.specs.declared.aliases.Alias.{Alias}
use Rattle.fut_aliases.specs.declared.refusals.Broken.{Broken}
use Rattle.fut_aliases.specs.Aliases.{Set, union, least}
use Rattle.fut_aliases.specs.Values.{Value, all_of, aliases, components}
use Rattle.fut_aliases.specs.Steps.{naming, or_else}
use Rattle.fut_aliases.specs.Calls as definition
use Rattle.fut_aliases.specs.Calls.{first_broken}
use Rattle.fut_aliases.specs.Operations.{last_value}
use Rattle.alias_values.specs.Components.{onto}
use Rattle.alias_values.specs.Trees.{value_of}
use Rattle.uniqueness.specs.declared.held.Held.{Held}
use Rattle.uniqueness.specs.Held.{held_of, helds_of}

onto_none : (ss : List Set) → onto ss [] ≡ all_of ss
onto_none [] = refl
onto_none (s ∷ ss) = ap (union s) (onto_none ss)

pub all_aliases : (v : Value) (t u : Set) → t ≡ onto (components v) u → u ≡ [] → t ≡ aliases v
all_aliases v t u h e = h ∙ ap (onto (components v)) e ∙ onto_none (components v)

pub told_some : (make : Alias → Broken) (s : Set) (a : Alias) → Some a ≡ least s → Some (make a) ≡ naming make (least s)
told_some make s a h = ap (naming make) h

pub told_none : (make : Alias → Broken) (s : Set) → None ≡ least s → None ≡ naming make (least s)
told_none make s h = ap (naming make) h

pub ruleset rules_of_sets = (all_aliases, told_some, told_none)

-- ---- the first part that breaks a rule

drop_past : (xs : List Held) (i : ℕ) → length xs ≤ i → drop i xs ≡ []
drop_past [] zero l = refl
drop_past [] (suc i) l = refl
drop_past (x ∷ xs) zero l = absurd (omega (arith, l))
drop_past (x ∷ xs) (suc i) l = drop_past xs i (omega (arith, l))

one_more : (xs : List Held) (i : ℕ) (d : Held) → i < length xs → drop i xs ≡ get_or xs i d ∷ drop (i + 1) xs
one_more xs i d l = drop-cons xs i d l ∙ ap (λ j. get_or xs i d ∷ drop j xs) (sym (add-one i))

module _ (rule : definition.Held → Option Broken) (xs : List Held) (i : ℕ) (h : first_broken rule (helds_of xs) ≡ first_broken rule (helds_of (drop i xs))) where
  first_at : (d : Held) (b : Option Broken) → i < length xs → b ≡ rule (held_of (get_or xs i d)) → first_broken rule (helds_of xs) ≡ or_else b (first_broken rule (helds_of (drop (i + 1) xs)))
  first_at d b l e = h ∙ ap (λ z. first_broken rule (helds_of z)) (one_more xs i d l) ∙ ap (λ z. or_else z (first_broken rule (helds_of (drop (i + 1) xs)))) (sym e)

  pub first_more : (d : Held) (b : Option Broken) → i < length xs → b ≡ rule (held_of (get_or xs i d)) → false ≡ is_some b → first_broken rule (helds_of xs) ≡ first_broken rule (helds_of (drop (i + 1) xs))
  first_more d None l e n = first_at d None l e
  first_more d (Some b) l e n = cc

  pub first_here : (d : Held) (b : Option Broken) → i < length xs → b ≡ rule (held_of (get_or xs i d)) → true ≡ is_some b → b ≡ first_broken rule (helds_of xs)
  first_here d None l e n = cc
  first_here d (Some b) l e n = sym (first_at d (Some b) l e)

  pub first_end : length xs ≤ i → None ≡ first_broken rule (helds_of xs)
  first_end l = sym (h ∙ ap (λ z. first_broken rule (helds_of z)) (drop_past xs i l))

pub ruleset first_ones = (first_more, first_here, first_end)

-- ---- the last part

pub last_of_none : (xs : List Held) (s : Set) → length xs ≡ 0 → s ≡ [] → s ≡ aliases (last_value (helds_of xs))
unfolding components
last_of_none [] s l e = e
last_of_none (x ∷ xs) s l e = absurd (omega (arith, l))

last_at : (xs : List Held) (i : ℕ) (d : Held) → suc i ≡ length xs → last_value (helds_of xs) ≡ value_of (get_or xs i d).value.now
last_at [] i d e = absurd (omega (arith, e))
last_at (x ∷ []) zero d e = refl
last_at (x ∷ []) (suc i) d e = absurd (omega (arith, e))
last_at (x ∷ y ∷ xs) zero d e = absurd (omega (arith, e))
last_at (x ∷ y ∷ xs) (suc i) d e = last_at (y ∷ xs) i d (omega (arith, e))

pub last_of_some : (xs : List Held) (d : Held) (s : Set) → 0 < length xs → s ≡ aliases (value_of (get_or xs (length xs - 1) d).value.now) → s ≡ aliases (last_value (helds_of xs))
last_of_some xs d s l e = let i : suc (length xs - 1) ≡ length xs = omega (arith, l) in e ∙ ap aliases (sym (last_at xs (length xs - 1) d i))

pub ruleset last_ones = (last_of_none, last_of_some)
