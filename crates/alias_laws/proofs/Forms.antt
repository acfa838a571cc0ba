-- Steps of the walk by the checker's sets and by whole ones: paths, functions that are called, lets, ends of bodies.
use Rattle.std.proofs.Common.{◌≡◌, ℕ, ◌≤◌, ◌<◌, ◌+◌, Bool, true, false, ◌||◌, List, [], ◌∷◌, Option, Some, None, refl, sym, ap, ap₂, subst, ◌∙◌, arith}
use Rattle.fut_ast.specs.Sorts.{Text}
use Rattle.fut_scalar.specs.declared.place.BindId.{BindId}
use Rattle.fut_flat.specs.declared.prim.Ref.{Ref}
use Rattle.fut_flat.specs.declared.prim.Ref.TheVariants as ref
use Rattle.fut_flat.specs.Terms.{Bound_pattern, Wild_pattern, Tuple_pattern, Record_pattern, Typed_pattern, Patterns, no_pattern, pattern_and}
use Rattle.fut_flat.specs.Numbers.{pattern_numbers}
use Rattle.fut_flat.specs.Erased.{FlatTerm, FlatPattern}
use Rattle.fut_types.specs.Types.{Ty, Sub, Kinds}
use Rattle.fut_typing.specs.Names.{Names}
use Rattle.fut_aliases.specs.declared.refusals.Broken.{Broken}
use Rattle.fut_aliases.specs.declared.refusals.Broken.TheVariants.{ResultAliases}
use Rattle.fut_aliases.specs.declared.refusals.Spot.TheVariants.{First}
use Rattle.fut_aliases.specs.declared.aliases.Alias.{Alias}
use Rattle.fut_aliases.specs.declared.aliases.Alias.TheVariants.{Own}
use Rattle.fut_aliases.specs.Aliases.{Set, Naming, is_in, is_outside, those, with_alias, first_name_alone}
use Rattle.fut_aliases.specs.Stars.{Stars, Leaf, Arrow, Row, primitive_stars, written_stars}
use Rattle.fut_aliases.specs.Values.{Value, Values, Component, starring, part_named}
use Rattle.fut_aliases.specs.Steps.{Losses, Step, give, and_then, demand, or_else, some_alias}
use Rattle.fut_aliases.specs.Patterns.{Scope}
use Rattle.fut_aliases.specs.Calls.{Here, Held, Part, stars_of, stars_behind, too_shared, finished}
use Rattle.fut_aliases.specs.Looking.{part_of, values_of, wanted_parameter, sets_of, shared_in_result, give_back, with_held, misfit, all_misfit, fields_misfit, let_fits, used, use_value, whole, projected, ready}
use Rattle.alias_laws.proofs.Worlds.{World, SetR, empties, unions, those_are, in_set_is, outside_is, either_is, shared_is, grows_not}
use Rattle.alias_laws.proofs.Values.{ValueR, scalars, arrays, functions_are, parts_are, ValuesR, no_values, more_values, ComponentsR, no_components, more_components, components_together, starring_is, cond_is, of_type_is, with_stars_is, at_type_is, part_named_is}
use Rattle.alias_laws.proofs.Losing.{LossesR}
use Rattle.alias_laws.proofs.Since.{Since}
use Rattle.alias_laws.proofs.Stepping.{only_these, avoiding, gone, plain, AnswerR, done, HeldR, held_is, HeldsR, no_parts, more_parts, held_value, held_before, some_same, then_are, demand_then, demand_is, Any}
use Rattle.alias_laws.proofs.Calling.{MaybeR, no_value_is, a_value_is, ScopeR, HereR, here_is, test_where, hungry_same, too_shared_same, stars_of_same, stars_behind_same, PartR, a_name, a_part, ReadyR, is_ready, use_is}
use Rattle.alias_laws.proofs.Finishing.{finished_is, PartIs, held_now, whole_is}

module _ (N : Names) (K : Kinds) (types : Sub) where
  -- ---- uses

  pub use_value_is : {w : World} {scope scope' : Scope} (lo : ℕ) → ScopeR w scope scope' → (r : Ref) → ValueR (plain w) (use_value with_alias N K types lo scope r) (use_value first_name_alone N K types lo scope' r)
  use_value_is {w} {scope} {scope'} lo s (ref.Bound b) = of_name (s b.0)
    where
      of_name : {o o' : Option Value} → MaybeR w o o' → ValueR (plain w) (used with_alias N K types lo o) (used first_name_alone N K types lo o')
      of_name no_value_is = of_type_is K (empties (plain w)) (types lo)
      of_name (a_value_is p) = at_type_is K (types lo) p
  use_value_is {w} lo s (ref.Prim p) = with_stars_is K (empties (plain w)) (primitive_stars p) (types lo)
  use_value_is {w} lo s (ref.Scalar k) = of_type_is K (empties (plain w)) (types lo)

  -- ---- paths

  pub projected_is : {asked : Bool} {w : World} {lo hi : ℕ} {base ls ls' : Losses} {h h' : Here} {p p' : Part} (e : FlatTerm) (f : Text) (n : ℕ) → lo ≤ 2 + n → 2 + n < hi → gone asked base (Own (2 + n)) ≡ false → HereR w asked h h' → LossesR w ls ls' → (asked ≡ true → Since w base ls) → PartR w asked base ls p p'
      → AnswerR asked w lo hi base (PartIs asked base) (projected with_alias N K types h e f n p ls) (projected first_name_alone N K types h' e f n p' ls')
  projected_is {w = w} {lo = lo} {hi = hi} e f n ln nh v here l s (a_name b (held_is before q k t)) = done w (grows_not w) (only_these w lo hi) l s (a_name b (held_is before (part_named_is N f q) k t))
  projected_is {w = w} {lo = lo} {hi = hi} {h = h} {h' = h'} e f n ln nh v here l s (a_part fs ps) =
      then_are hi lo (λ x. whole with_alias N K types e n (part_named N f x)) (λ x. whole first_name_alone N K types e n (part_named N f x)) (omega arith) (omega arith)
      (finished_is K (2 + n) ln nh v here l s (a_part fs ps)) (λ w2 x x' ms ms' g o l2 s2 q. whole_is N K types e n l2 s2 (part_named_is N f q))

  -- ---- functions that are called

  -- a function with all its arguments is called
  abbrev goes : Naming → Here → FlatTerm → ℕ → Part → Stars → Step Part
  goes naming h f n p (Arrow b q r) = give p
  goes naming h f n p u = and_then (finished K h n p) (λ v. whole naming N K types f n v)

  abbrev pub ReadyIs : Bool → Losses → World → Losses → Part → Part → Type 0
  ReadyIs asked base w ls p p' = ReadyR w asked base ls p p'

  called_is : {asked : Bool} {w : World} {lo hi : ℕ} {base ls ls' : Losses} {h h' : Here} {p p' : Part} (f : FlatTerm) (n : ℕ) → lo ≤ n → n < hi → gone asked base (Own n) ≡ false → HereR w asked h h' → LossesR w ls ls' → (asked ≡ true → Since w base ls) → PartR w asked base ls p p'
      → AnswerR asked w lo hi base (ReadyIs asked base) (and_then (finished K h n p) (λ v. whole with_alias N K types f n v) ls) (and_then (finished K h' n p') (λ v. whole first_name_alone N K types f n v) ls')
  called_is {lo = lo} {hi = hi} f n ln nh v here l s p =
      then_are hi lo (λ x. whole with_alias N K types f n x) (λ x. whole first_name_alone N K types f n x) (omega arith) (omega arith) (finished_is K n ln nh v here l s p) (λ w2 x x' ms ms' g o l2 s2 q. done w2 (grows_not w2) (only_these w2 lo hi) l2 s2 (is_ready (held_now l2 q) no_parts))

  goes_is : {asked : Bool} {w : World} {lo hi : ℕ} {base ls ls' : Losses} {h h' : Here} {f f' : Held} {as_well as_well' : List Held} (e : FlatTerm) (n : ℕ) (t : Ty) → lo ≤ n → n < hi → gone asked base (Own n) ≡ false → HereR w asked h h' → LossesR w ls ls' → (asked ≡ true → Since w base ls) → HeldR w asked base ls f f' → HeldsR w asked base ls as_well as_well' → (u : Stars)
      → AnswerR asked w lo hi base (ReadyIs asked base) (goes with_alias h e n (record { head = f; name = None; type = t; arguments = as_well }) u ls) (goes first_name_alone h' e n (record { head = f'; name = None; type = t; arguments = as_well' }) u ls')
  goes_is {w = w} {lo = lo} {hi = hi} e n t ln nh v here l s fs ps (Arrow b q r) = done w (grows_not w) (only_these w lo hi) l s (is_ready fs ps)
  goes_is e n t ln nh v here l s fs ps (Leaf b) = called_is e n ln nh v here l s (a_part fs ps)
  goes_is e n t ln nh v here l s fs ps (Row us) = called_is e n ln nh v here l s (a_part fs ps)

  pub ready_is : {asked : Bool} {w : World} {lo hi : ℕ} {base ls ls' : Losses} {h h' : Here} {p p' : Part} (f : FlatTerm) (n : ℕ) → lo ≤ n → n < hi → gone asked base (Own n) ≡ false → HereR w asked h h' → LossesR w ls ls' → (asked ≡ true → Since w base ls) → PartR w asked base ls p p'
      → AnswerR asked w lo hi base (ReadyIs asked base) (ready with_alias N K types h f n p ls) (ready first_name_alone N K types h' f n p' ls')
  ready_is {w = w} {lo = lo} {hi = hi} f n ln nh v here l s (a_name {f = a} {f' = a'} {t} b x) = use_is K t b (λ z. give (part_of a None t)) (λ z. give (part_of a' None t)) here l x (λ y. done w (grows_not w) (only_these w lo hi) l s (is_ready (held_before s y) no_parts))
  ready_is {w = w} {lo = lo} {hi = hi} f n ln nh v here l s (a_part fs no_parts) = done w (grows_not w) (only_these w lo hi) l s (is_ready fs no_parts)
  ready_is {asked} {w} {lo} {hi} {base} {ls} {ls'} {h} {h'} f n ln nh v here l s (a_part {f = a} {f' = a'} {t} fs (more_parts {a = x} {a' = x'} {as_well} {as_well'} p ps)) =
      subst (λ u. AnswerR asked w lo hi base (ReadyIs asked base) (goes with_alias h f n (record { head = a; name = None; type = t; arguments = x ∷ as_well }) (stars_behind (x ∷ as_well) (stars_of a.value)) ls) (goes first_name_alone h' f n (record { head = a'; name = None; type = t; arguments = x' ∷ as_well' }) u ls'))
      (ap (stars_behind (x ∷ as_well)) (sym (stars_of_same (held_value fs))) ∙ sym (stars_behind_same (more_parts p ps) (stars_of a'.value)))
      (goes_is f n t ln nh v here l s fs (more_parts p ps) (stars_behind (x ∷ as_well) (stars_of a.value)))

  abbrev parameter_of : Stars → Option Stars
  parameter_of (Arrow b q r) = Some q
  parameter_of u = None

  pub wanted_same : {w : World} {asked : Bool} {base ls : Losses} {p p' : Part} → ReadyR w asked base ls p p' → wanted_parameter p' ≡ wanted_parameter p
  wanted_same (is_ready {f} {f' = f'} {as_well = as_well} fs ps) = ap parameter_of (stars_behind_same ps (stars_of f'.value) ∙ ap (stars_behind as_well) (stars_of_same (held_value fs)))

  -- ---- the functions that a pattern takes

  with_held_is : {w : World} {asked : Bool} {base ls : Losses} {a a' : Held} {v v' : Value} → ValueR (avoiding w (gone asked base)) v v' → HeldR w asked base ls a a' → HeldR w asked base ls (with_held with_alias N K types v a) (with_held first_name_alone N K types v' a')
  with_held_is x (held_is before q k s) = held_is before x k s

  values_of_are : {w : World} {v v' : Value} → ValueR w v v' → ValuesR w (values_of v) (values_of v')
  values_of_are scalars = no_values
  values_of_are (arrays p) = no_values
  values_of_are (functions_are p) = no_values
  values_of_are (parts_are ps) = ps

  abbrev Same_rule : (Stars → Held → Option Broken) → World → Bool → Losses → Losses → Type 0
  Same_rule rule w asked base ls = (u : Stars) (a a' : Held) → HeldR w asked base ls a a' → rule u a' ≡ rule u a

  mutual
    unfolding misfit all_misfit fields_misfit

    misfit_same : {w : World} {asked : Bool} {base ls : Losses} {rule : Stars → Held → Option Broken} → Same_rule rule w asked base ls → (p : FlatPattern) (q : ℕ) {a a' : Held} → HeldR w asked base ls a a' → misfit first_name_alone N K types rule p q a' ≡ misfit with_alias N K types rule p q a
    misfit_same r (Typed_pattern p e) q {a} {a'} x = r (written_stars N false e (types q)) a a' x
    misfit_same r (Tuple_pattern ps) q x = all_misfit_same r ps (1 + q) x (values_of_are (held_value x))
    misfit_same r (Record_pattern fs ps) q x = fields_misfit_same r fs ps (1 + q) x
    misfit_same r (Bound_pattern b) q x = refl
    misfit_same r Wild_pattern q x = refl

    all_misfit_same : {w : World} {asked : Bool} {base ls : Losses} {rule : Stars → Held → Option Broken} → Same_rule rule w asked base ls → (ps : Patterns Ref BindId) (q : ℕ) {a a' : Held} {vs vs' : Values} → HeldR w asked base ls a a' → ValuesR (avoiding w (gone asked base)) vs vs' → all_misfit first_name_alone N K types rule ps q a' vs' ≡ all_misfit with_alias N K types rule ps q a vs
    all_misfit_same r no_pattern q x vs = refl
    all_misfit_same r (pattern_and p ps) q x no_values = refl
    all_misfit_same r (pattern_and p ps) q x (more_values v vs) = ap₂ or_else (misfit_same r p q (with_held_is v x)) (all_misfit_same r ps (q + pattern_numbers p) x vs)

    fields_misfit_same : {w : World} {asked : Bool} {base ls : Losses} {rule : Stars → Held → Option Broken} → Same_rule rule w asked base ls → (fs : List Text) (ps : Patterns Ref BindId) (q : ℕ) {a a' : Held} → HeldR w asked base ls a a' → fields_misfit first_name_alone N K types rule fs ps q a' ≡ fields_misfit with_alias N K types rule fs ps q a
    fields_misfit_same r [] ps q x = refl
    fields_misfit_same r (g ∷ fs) no_pattern q x = refl
    fields_misfit_same r (g ∷ fs) (pattern_and p ps) q x = ap₂ or_else (misfit_same r p q (with_held_is (part_named_is N g (held_value x)) x)) (fields_misfit_same r fs ps (q + pattern_numbers p) x)

  pub let_fits_is : {asked : Bool} {w : World} {lo hi : ℕ} {base ls ls' : Losses} {h h' : Here} {a a' : Held} (p : FlatPattern) (q : ℕ) → HereR w asked h h' → LossesR w ls ls' → (asked ≡ true → Since w base ls) → HeldR w asked base ls a a'
      → AnswerR asked w lo hi base (Any {A = Unit {0}}) (let_fits with_alias N K types h p q a ls) (let_fits first_name_alone N K types h' p q a' ls')
  let_fits_is {asked} {a = a} {a' = a'} p q (here_is sc fx) l s x =
      demand_then asked (λ z. demand asked (misfit with_alias N K types too_shared p q a)) (λ z. demand asked (misfit first_name_alone N K types too_shared p q a')) (λ e. misfit_same (λ u b b' y. hungry_same u y) p q x) (λ e1.
      demand_is asked l s (λ e. misfit_same (λ u b b' y. too_shared_same u y) p q x))

  -- ---- the end of a body

  sets_of_are : {w : World} {cs cs' : List Component} → ComponentsR w cs cs' → SetR w (sets_of with_alias N K types cs) (sets_of first_name_alone N K types cs')
  sets_of_are {w} no_components = empties w
  sets_of_are (more_components p ps) = unions p (sets_of_are ps)

  outside_or_fixed : {w : World} {asked : Bool} {test : Alias → Bool} {h h' : Here} {s s' : Set} → HereR w asked h h' → SetR (avoiding w test) s s' → SetR (avoiding w test) (those (λ a. is_outside h.function_from a || is_in a h.fixed) s) (those (λ a. is_outside h'.function_from a || is_in a h'.fixed) s')
  outside_or_fixed {w} {test = test} {s = s} (here_is {f = f} sc fx) p = those_are (test_where w test (either_is (outside_is (plain w) s f) (in_set_is s fx))) p

  shared_in_result_is : {w : World} {test : Alias → Bool} {asked : Bool} {h h' : Here} {before before' cs cs' : List Component} → HereR w asked h h' → ComponentsR (avoiding w test) before before' → ComponentsR (avoiding w test) cs cs'
      → SetR (avoiding w test) (shared_in_result with_alias N K types h before cs) (shared_in_result first_name_alone N K types h' before' cs')
  shared_in_result_is {w} {test} here b no_components = empties (avoiding w test)
  shared_in_result_is {w} {test} here b (more_components {b = starred} p ps) =
      unions (cond_is starred (unions (outside_or_fixed {test = test} here p) (shared_is p (sets_of_are (components_together b ps)))) (empties (avoiding w test)))
      (shared_in_result_is {test = test} here (components_together b (more_components p no_components)) ps)

  pub give_back_is : {asked : Bool} {w : World} {lo hi : ℕ} {base ls ls' : Losses} {h h' : Here} {a a' : Held} (u : Stars) → HereR w asked h h' → LossesR w ls ls' → (asked ≡ true → Since w base ls) → HeldR w asked base ls a a'
      → AnswerR asked w lo hi base (Any {A = Unit {0}}) (give_back with_alias N K types h u a ls) (give_back first_name_alone N K types h' u a' ls')
  give_back_is {asked} {w} {base = base} {ls = ls} {h = h} {h' = h'} {a = a} {a' = a'} u (here_is {scope} {scope'} {fixed} {fixed'} {l = lf} {f = ff} sc fx) l s x =
      demand_then asked (λ z. demand asked (second with_alias o a)) (λ z. demand asked (second first_name_alone o' a')) (λ e. hungry_same u x) (λ e1.
      demand_is asked l s (λ e. ap₂ or_else (shared_same x) (too_shared_same u x)))
    where
      o : Here
      o = record { scope = scope; fixed = fixed; loop_from = lf; function_from = ff; asked = asked }

      o' : Here
      o' = record { scope = scope'; fixed = fixed'; loop_from = lf; function_from = ff; asked = asked }

      second : Naming → Here → Held → Option Broken
      second naming here b = or_else (some_alias (λ n. ResultAliases n (First b.node)) (shared_in_result naming N K types here [] (starring u b.value))) (too_shared u b)

      shared_same : {b b' : Held} → HeldR w asked base ls b b' → some_alias (λ n. ResultAliases n (First b'.node)) (shared_in_result first_name_alone N K types o' [] (starring u b'.value)) ≡ some_alias (λ n. ResultAliases n (First b.node)) (shared_in_result with_alias N K types o [] (starring u b.value))
      shared_same (held_is {n} before q k t) = some_same (λ m. ResultAliases m (First n)) (shared_in_result_is {test = gone asked base} {asked = asked} (here_is {l = lf} {f = ff} sc fx) no_components (starring_is u q))
