-- The walk over a program for its aliases by two numberings, form by form: the same rule is broken first, or none is.
use Rattle.std.proofs.Common.{◌≡◌, ℕ, suc, ◌+◌, ◌≤◌, ◌<◌, arith, Bool, true, false, ◌||◌, cond, List, [], ◌∷◌, ◌++◌, length, Option, Some, None, refl, sym, ap, ◌∙◌, subst}
use Rattle.fut_ast.specs.Sorts.{Text}
use Rattle.fut_scalar.specs.declared.place.BindId.{BindId}
use Rattle.fut_scalar.specs.declared.place.Place.{Place}
use Rattle.fut_flat.specs.declared.prim.Ref.{Ref}
use Rattle.fut_flat.specs.declared.prim.Ref.TheVariants as ref
use Rattle.fut_flat.specs.Terms.{Bound_pattern, Wild_pattern, Tuple_pattern, Record_pattern, Typed_pattern, Patterns, no_pattern, pattern_and, Binding, Operation, Record_of, Project, Ascribe, Coerce, Declared, Use, Strict, Lambda, Apply, Let, If, Loop, Terms, no_term, term_and, Counted, Over, While}
use Rattle.fut_flat.specs.Numbers.{pattern_numbers, all_pattern_numbers, own_numbers, numbers, all_numbers, turn_numbers}
use Rattle.fut_flat.specs.Erased.{FlatTerm, FlatTurns, FlatPattern, FlatType}
use Rattle.fut_types.specs.Types.{Ty, Var, Made, Sub, Kinds}
use Rattle.fut_typing.specs.Names.{Names, AreNames}
use Rattle.fut_typing.specs.Program.{Defined, program_numbers}
use Rattle.fut_typing.proofs.Ranges.{pattern_some, own_some, numbers_some}
use Rattle.fut_aliases.specs.Aliases.{Set, Naming, is_in, union, those, shared, is_outside}
use Rattle.fut_aliases.specs.Stars.{Stars, Leaf, Arrow, Row, written_stars, primitive_stars}
use Rattle.fut_aliases.specs.Values.{Value, Function, Parts, Values, no_value, value_and, of_type, with_stars, at_type, components, aliases, having, unite, Component, starring, part_named}
use Rattle.fut_aliases.specs.Steps.{Losses, Answer, then_do, Done, Step, give, and_then, losses_now, apart, demand, or_else, some_alias}
use Rattle.fut_aliases.specs.declared.refusals.Broken.{Broken}
use Rattle.fut_aliases.specs.declared.refusals.Broken.TheVariants.{ResultAliases}
use Rattle.fut_aliases.specs.declared.refusals.Spot.TheVariants.{First}
use Rattle.fut_aliases.specs.Patterns.{Scope, nothing, with_value, pattern_stars, bound, kept}
use Rattle.fut_aliases.specs.Capturing.{capture, captures, called, first_name}
use Rattle.fut_aliases.specs.Calls.{first_broken as first_broken_of, Here, Held, Part, stars_of, stars_behind, too_hungry, too_shared, finished, use_name}
use Rattle.fut_aliases.specs.Operations.{operation, ascribe}
use Rattle.fut_aliases.specs.Loops.{Carried, own_names, all_carried, over_all_turns, eaten_not_consumable, eaten_captured, shared_firsts, consume_firsts, enter, leave, results}
use Rattle.fut_aliases.specs.Looking.{with_scope, in_loop, flowing, held, part_of, values_of, unnamed, bound_name, wanted_parameter, wanted_component, field_at, wanted_result, or_plain, declared_stars, both_wanted, function_stars, parameter_value, with_parameters, all_kept, body_node, in_body, body_wanted, body_stars, sets_of, shared_in_result, give_back, with_held, misfit, all_misfit, fields_misfit, let_fits, used, use_value, whole, by_itself, projected, ready, with_argument, place_in, wanted_part, value_node, behind_let, turns_node, turn_node, Going, Flow, carried_scope, turn_here, carried_by, looked_again, turned, flow_of, capture_fits, looked, all_looked, turns_looked, condition_looked, value_looked}
use Rattle.fut_aliases.specs.Programs.{at_top, definitions_looked, broken, first_broken}
use Rattle.sizing_laws.specs.Renumbering.{Renumbers, renamed_type}
use Rattle.sizing_laws.specs.Claims.{AliasesAreOne}
use Rattle.sizing_laws.proofs.Written.{place_same}
use Rattle.sizing_laws.proofs.Stars.{to_value, to_values, of_type_value, with_stars_value, at_type_value, components_same, aliases_same, having_value, unite_value, starring_same, part_named_value}
use Rattle.sizing_laws.proofs.AliasSteps.{AnswerR, gives, refuses, StepTo, same, then_are, then_to, then_same, same_step, apart_are, either_are}
use Rattle.sizing_laws.proofs.Calling.{maybe_value, to_scope, to_held, to_helds, to_here, to_part, helds_on, hungry_same, shared_same, settled_same, stars_behind_same, stars_of_same, use_name_same, finished_to, with_value_to, written_at, spread_at, pattern_stars_same, bound_to, kept_same}
use Rattle.sizing_laws.proofs.AliasForms.{ascribe_to, operation_to, captures_same, capture_to, own_names_to, starts_same}

module _ (number : ℕ → ℕ) where
  abbrev val : Value → Value
  val = to_value number

  pub held_as : (e : FlatTerm) (k : ℕ) (v w : Value) → w ≡ val v → StepTo (to_held number) (held e k v) (held e k w)
  held_as e k v w g ls = gives (λ i. record { node = k; called = called e; first_name = first_name e; value = g i; losses = length ls })

  parameter_of : Stars → Option Stars
  parameter_of (Arrow b q r) = Some q
  parameter_of u = None

  wanted_parameter_same : (variable : ℕ → ℕ) (p : Part) → wanted_parameter (to_part number variable p) ≡ wanted_parameter p
  unfolding parameter_of
  wanted_parameter_same variable p = ap parameter_of (ap (stars_behind (to_helds number p.arguments)) (stars_of_same number p.head.value) ∙ stars_behind_same number p.arguments (stars_of p.head.value))

  values_to : (v : Value) → values_of (val v) ≡ to_values number (values_of v)
  values_to (Parts h vs) = refl
  values_to v = refl

module _ (naming : Naming) (M N : Names) (m : AreNames M) (n : AreNames N) (number : ℕ → ℕ) (renumbers : Renumbers M N number)
    (variable : ℕ → ℕ) (K : Kinds) (keeps : (v : ℕ) → K (variable v) ≡ K v) (types others : Sub) (count : ℕ) (typed : (k : ℕ) → k < count → others k ≡ renamed_type number variable (types k)) where
  abbrev go : Value → Value
  go = to_value number

  abbrev hold : Held → Held
  hold = to_held number

  abbrev hereafter : Here → Here
  hereafter = to_here number

  abbrev parting : Part → Part
  parting = to_part number variable

  -- ---- what stands at a node

  written_as : (e : FlatType) (k : ℕ) → k < count → written_stars N false e (others k) ≡ written_stars M false e (types k)
  written_as e k lt = written_at M N m n number renumbers variable types others count typed false e k lt

  value_as : (s : Set) (k : ℕ) → k < count → of_type K s (others k) ≡ go (of_type K s (types k))
  value_as s k lt = ap (of_type K s) (typed k lt) ∙ of_type_value number variable K keeps s (types k)

  stars_as : (p : FlatPattern) (q : ℕ) → q + pattern_numbers p ≤ count → pattern_stars N others p q ≡ pattern_stars M types p q
  stars_as p q le = pattern_stars_same M N m n number renumbers variable types others count typed p q le

  bound_as : (parameter : Bool) (p : FlatPattern) (q : ℕ) (v : Value) (s : Scope) → q + pattern_numbers p ≤ count → bound naming N others parameter p q (go v) (to_scope number s) ≡ to_scope number (bound naming M types parameter p q v s)
  bound_as parameter p q v s le = bound_to M N m n number renumbers variable types others count typed naming parameter p q v s le

  pattern_in : (p : FlatPattern) (q : ℕ) → q + pattern_numbers p ≤ count → q < count
  pattern_in p q le = let some : 0 < pattern_numbers p = pattern_some p in omega (arith, le, some)

  term_in : (e : FlatTerm) (lo : ℕ) → lo + numbers e ≤ count → lo < count
  term_in e lo le = let some : 0 < numbers e = numbers_some e in omega (arith, le, some)

  -- ---- functions

  declared_same : (e : FlatTerm) (k : ℕ) → k < count → declared_stars naming N K others e k ≡ declared_stars naming M K types e k
  declared_same (Strict (Declared e) mark ts) k lt = ap Some (written_as e k lt)
  declared_same e k lt = refl

  both_wanted_same : (w x : Option Stars) → both_wanted naming N K others w x ≡ both_wanted naming M K types w x
  both_wanted_same (Some u) (Some v) = refl
  both_wanted_same (Some u) None = refl
  both_wanted_same None x = refl

  function_stars_same : (ps : Patterns Ref BindId) (q : ℕ) (r : Stars) → q + all_pattern_numbers ps ≤ count → function_stars naming N K others ps q r ≡ function_stars naming M K types ps q r
  function_stars_same no_pattern q r le = refl
  function_stars_same (pattern_and p ps) q r le = λ i. Arrow false (stars_as p q (omega (arith, le)) i) (function_stars_same ps (q + pattern_numbers p) r (omega (arith, le)) i)

  parameter_value_to : (p : FlatPattern) (q : ℕ) → q + pattern_numbers p ≤ count → parameter_value naming N K others p q ≡ go (parameter_value naming M K types p q)
  parameter_value_to p q le = (λ i. with_stars K [] (stars_as p q le i) (typed q (pattern_in p q le) i)) ∙ with_stars_value number variable K keeps [] (pattern_stars M types p q) (types q)

  with_parameters_to : (ps : Patterns Ref BindId) (q : ℕ) (s : Scope) → q + all_pattern_numbers ps ≤ count → with_parameters naming N K others ps q (to_scope number s) ≡ to_scope number (with_parameters naming M K types ps q s)
  with_parameters_to no_pattern q s le = refl
  with_parameters_to (pattern_and p ps) q s le = ap (with_parameters naming N K others ps (q + pattern_numbers p)) (ap (λ v. bound naming N others true p q v (to_scope number s)) (parameter_value_to p q (omega (arith, le))) ∙ bound_as true p q (parameter_value naming M K types p q) s (omega (arith, le)))
      ∙ with_parameters_to ps (q + pattern_numbers p) (bound naming M types true p q (parameter_value naming M K types p q) s) (omega (arith, le))

  all_kept_same : (ps : Patterns Ref BindId) (q : ℕ) → q + all_pattern_numbers ps ≤ count → all_kept naming N K others ps q ≡ all_kept naming M K types ps q
  all_kept_same no_pattern q le = refl
  all_kept_same (pattern_and p ps) q le = λ i. union (((λ j. kept naming N others p q (stars_as p q (omega (arith, le)) j) (parameter_value_to p q (omega (arith, le)) j)) ∙ kept_same M N m n number renumbers variable types others count typed naming p q (pattern_stars M types p q) (parameter_value naming M K types p q)) i) (all_kept_same ps (q + pattern_numbers p) (omega (arith, le)) i)

  in_body_to : (ps : Patterns Ref BindId) (lo : ℕ) (h : Here) → 1 + lo + all_pattern_numbers ps ≤ count → in_body naming N K others ps lo (hereafter h) ≡ hereafter (in_body naming M K types ps lo h)
  in_body_to ps lo h le = λ i. record { scope = with_parameters_to ps (1 + lo) h.scope le i; fixed = union (all_kept_same ps (1 + lo) le i) h.fixed; loop_from = h.loop_from; function_from = lo; asked = h.asked }

  body_wanted_same : (ps : Patterns Ref BindId) (e : FlatTerm) (lo : ℕ) (w : Option Stars) → 1 + lo + all_pattern_numbers ps < count → body_wanted naming N K others ps e lo w ≡ body_wanted naming M K types ps e lo w
  body_wanted_same ps e lo w lt = ap (λ d. both_wanted naming N K others d (wanted_result ps w)) (declared_same e (body_node naming M K types ps lo) lt) ∙ both_wanted_same (declared_stars naming M K types e (body_node naming M K types ps lo)) (wanted_result ps w)

  body_stars_same : (ps : Patterns Ref BindId) (e : FlatTerm) (lo : ℕ) (w : Option Stars) → 1 + lo + all_pattern_numbers ps < count → body_stars naming N K others ps e lo w ≡ body_stars naming M K types ps e lo w
  body_stars_same ps e lo w lt = λ i. or_plain (body_wanted_same ps e lo w lt i) (spread_at M N m n number renumbers variable types others count typed false (body_node naming M K types ps lo) lt i)

  sets_same : (cs : List Component) → sets_of naming N K others cs ≡ sets_of naming M K types cs
  sets_same [] = refl
  sets_same (c ∷ cs) = ap (union c.set) (sets_same cs)

  shared_result_same : (h : Here) (before cs : List Component) → shared_in_result naming N K others (hereafter h) before cs ≡ shared_in_result naming M K types h before cs
  shared_result_same h before [] = refl
  shared_result_same h before (c ∷ cs) = λ i. union (cond c.starred (union (those (λ a. is_outside h.function_from a || is_in a h.fixed) c.set) (shared c.set (sets_same (before ++ cs) i))) []) (shared_result_same h (before ++ c ∷ []) cs i)

  give_back_same : (h : Here) (u : Stars) (a : Held) → give_back naming N K others (hereafter h) u (hold a) ≡ give_back naming M K types h u a
  give_back_same h u a = λ i. and_then (demand h.asked (hungry_same number u a i)) (λ z. demand h.asked (or_else (some_alias (λ k. ResultAliases k (First a.node)) (((λ j. shared_in_result naming N K others (hereafter h) [] (starring_same number u a.value j)) ∙ shared_result_same h [] (starring u a.value)) i)) (shared_same number u a i)))

  -- ---- lets

  module _ (rule : Stars → Held → Option Broken) (equal : (u : Stars) (a : Held) → rule u (hold a) ≡ rule u a) where
    mutual
      unfolding misfit

      misfit_same : (p : FlatPattern) (q : ℕ) (a : Held) → q + pattern_numbers p ≤ count → misfit naming N K others rule p q (hold a) ≡ misfit naming M K types rule p q a
      misfit_same (Typed_pattern p e) q a le = ap (λ u. rule u (hold a)) (written_as e q (pattern_in p q le)) ∙ equal (written_stars M false e (types q)) a
      misfit_same (Tuple_pattern ps) q a le = ap (all_misfit naming N K others rule ps (1 + q) (hold a)) (values_to number a.value) ∙ all_misfit_same ps (1 + q) a (values_of a.value) (omega (arith, le))
      misfit_same (Record_pattern fs ps) q a le = fields_misfit_same fs ps (1 + q) a (omega (arith, le))
      misfit_same (Bound_pattern b) q a le = refl
      misfit_same Wild_pattern q a le = refl

      all_misfit_same : (ps : Patterns Ref BindId) (q : ℕ) (a : Held) (vs : Values) → q + all_pattern_numbers ps ≤ count → all_misfit naming N K others rule ps q (hold a) (to_values number vs) ≡ all_misfit naming M K types rule ps q a vs
      all_misfit_same (pattern_and p ps) q a (value_and v vs) le = λ i. or_else (misfit_same p q (with_held naming M K types v a) (omega (arith, le)) i) (all_misfit_same ps (q + pattern_numbers p) a vs (omega (arith, le)) i)
      all_misfit_same (pattern_and p ps) q a no_value le = refl
      all_misfit_same no_pattern q a vs le = refl

      fields_misfit_same : (fs : List Text) (ps : Patterns Ref BindId) (q : ℕ) (a : Held) → q + all_pattern_numbers ps ≤ count → fields_misfit naming N K others rule fs ps q (hold a) ≡ fields_misfit naming M K types rule fs ps q a
      fields_misfit_same (f ∷ fs) (pattern_and p ps) q a le = λ i. or_else
          ((ap (λ v. misfit naming N K others rule p q (with_held naming N K others v (hold a))) (part_named_value M N m n number renumbers f a.value) ∙ misfit_same p q (with_held naming M K types (part_named M f a.value) a) (omega (arith, le))) i)
          (fields_misfit_same fs ps (q + pattern_numbers p) a (omega (arith, le)) i)
      fields_misfit_same (f ∷ fs) no_pattern q a le = refl
      fields_misfit_same [] ps q a le = refl

  let_fits_same : (h : Here) (p : FlatPattern) (q : ℕ) (a : Held) → q + pattern_numbers p ≤ count → let_fits naming N K others (hereafter h) p q (hold a) ≡ let_fits naming M K types h p q a
  let_fits_same h p q a le = λ i. and_then (demand h.asked (misfit_same too_hungry (hungry_same number) p q a le i)) (λ z. demand h.asked (misfit_same too_shared (shared_same number) p q a le i))

  -- ---- parts of terms

  used_to : (lo : ℕ) (o : Option Value) → lo < count → used naming N K others lo (maybe_value number o) ≡ go (used naming M K types lo o)
  used_to lo (Some v) lt = ap (λ t. at_type K t (go v)) (typed lo lt) ∙ at_type_value number variable K keeps (types lo) v
  used_to lo None lt = value_as [] lo lt

  use_value_to : (lo : ℕ) (s : Scope) (r : Ref) → lo < count → use_value naming N K others lo (to_scope number s) r ≡ go (use_value naming M K types lo s r)
  use_value_to lo s (ref.Bound b) lt = used_to lo (s b.0) lt
  use_value_to lo s (ref.Prim p) lt = ap (with_stars K [] (primitive_stars p)) (typed lo lt) ∙ with_stars_value number variable K keeps [] (primitive_stars p) (types lo)
  use_value_to lo s (ref.Scalar t) lt = value_as [] lo lt

  whole_to : (e : FlatTerm) (lo : ℕ) (v w : Value) → w ≡ go v → lo < count → StepTo parting (whole naming M K types e lo v) (whole naming N K others e lo w)
  whole_to e lo v w g lt ls = gives (λ i. part_of (record { node = lo; called = called e; first_name = first_name e; value = g i; losses = length ls }) None (typed lo lt i))

  by_itself_to : (e : FlatTerm) (k : ℕ) (h : Here) (x y : Step Part) → StepTo parting x y → StepTo hold (by_itself naming M K types e k h x) (by_itself naming N K others e k (hereafter h) y)
  by_itself_to e k h x y g ls = then_to parting _ _ (g ls) (λ p ls2. then_to go _ _ (finished_to number variable K keeps h k p ls2) (λ v ls3. held_as number e k v (go v) refl ls3))

  projected_to : (h : Here) (e : FlatTerm) (f : Text) (lo : ℕ) (p : Part) → lo < count → StepTo parting (projected naming M K types h e f lo p) (projected naming N K others (hereafter h) e f lo (parting p))
  projected_to h e f lo p lt = by_name p.head p.name p.type p.arguments
    where
      valued : (p : Part) → StepTo parting (and_then (finished K h (2 + lo) p) (λ v. whole naming M K types e lo (part_named M f v))) (and_then (finished K (hereafter h) (2 + lo) (parting p)) (λ v. whole naming N K others e lo (part_named N f v)))
      valued p ls = then_to go _ _ (finished_to number variable K keeps h (2 + lo) p ls) (λ v ls2. whole_to e lo (part_named M f v) (part_named N f (go v)) (part_named_value M N m n number renumbers f v) lt ls2)

      by_name : (a : Held) (name : Option BindId) (t : Ty) (xs : List Held) → StepTo parting (projected naming M K types h e f lo (record { head = a; name = name; type = t; arguments = xs })) (projected naming N K others (hereafter h) e f lo (parting (record { head = a; name = name; type = t; arguments = xs })))
      by_name a (Some b) t [] ls = gives (λ i. part_of (with_held naming N K others (part_named_value M N m n number renumbers f a.value i) (unnamed (hold a))) (Some b) (typed lo lt i))
      by_name a (Some b) t (x ∷ xs) ls = valued (record { head = a; name = Some b; type = t; arguments = x ∷ xs }) ls
      by_name a None t xs ls = valued (record { head = a; name = None; type = t; arguments = xs }) ls

  -- a function whose next argument is looked at, by its arguments so far and the stars behind them
  going_on : Names → Sub → Here → FlatTerm → ℕ → Part → List Held → Stars → Step Part
  going_on N types h e k p [] u = and_then (use_name K h p) (λ z. give (part_of p.head None p.type))
  going_on N types h e k p (a ∷ as_well) (Arrow b q r) = give p
  going_on N types h e k p (a ∷ as_well) u = and_then (finished K h k p) (λ v. whole naming N K types e k v)

  by_stars : (h : Here) (e : FlatTerm) (k : ℕ) (p : Part) (x : Held) (xs : List Held) (u : Stars) → k < count → StepTo parting (going_on M types h e k p (x ∷ xs) u) (going_on N others (hereafter h) e k (parting p) (to_helds number (x ∷ xs)) u)
  unfolding going_on
  by_stars h e k p x xs (Arrow b q r) lt ls = gives refl
  by_stars h e k p x xs (Leaf b) lt ls = then_to go _ _ (finished_to number variable K keeps h k p ls) (λ v ls2. whole_to e k v (go v) refl lt ls2)
  by_stars h e k p x xs (Row us) lt ls = then_to go _ _ (finished_to number variable K keeps h k p ls) (λ v ls2. whole_to e k v (go v) refl lt ls2)

  by_arguments : (h : Here) (e : FlatTerm) (k : ℕ) (a : Held) (name : Option BindId) (t : Ty) (xs : List Held) → k < count
      → StepTo parting (ready naming M K types h e k (record { head = a; name = name; type = t; arguments = xs })) (ready naming N K others (hereafter h) e k (parting (record { head = a; name = name; type = t; arguments = xs })))
  unfolding going_on
  by_arguments h e k a name t [] lt ls = then_same (use_name_same number variable K keeps h a name t []) ls _ _ (λ z ls2. gives refl)
  by_arguments h e k a name t (x ∷ xs) lt ls =
      let p : Part = record { head = a; name = name; type = t; arguments = x ∷ xs } in
      subst (λ u. AnswerR (λ (y : Part) (z : Part). z ≡ parting y) (going_on M types h e k p (x ∷ xs) (stars_behind (x ∷ xs) (stars_of a.value)) ls) (going_on N others (hereafter h) e k (parting p) (to_helds number (x ∷ xs)) u ls))
      (sym (ap (stars_behind (to_helds number (x ∷ xs))) (stars_of_same number a.value) ∙ stars_behind_same number (x ∷ xs) (stars_of a.value))) (by_stars h e k p x xs (stars_behind (x ∷ xs) (stars_of a.value)) lt ls)

  ready_to : (h : Here) (e : FlatTerm) (k : ℕ) (p : Part) → k < count → StepTo parting (ready naming M K types h e k p) (ready naming N K others (hereafter h) e k (parting p))
  ready_to h e k p lt = by_arguments h e k p.head p.name p.type p.arguments lt

  with_argument_to : (p : Part) (a : Held) → with_argument naming N K others (parting p) (hold a) ≡ parting (with_argument naming M K types p a)
  with_argument_to p a = λ i. record { head = hold p.head; name = None; type = renamed_type number variable p.type; arguments = sym (helds_on number p.arguments (a ∷ [])) i }

  place_in_same : (t : Ty) (o : Option Text) → place_in naming N K others (renamed_type number variable t) o ≡ place_in naming M K types t o
  place_in_same (Made h ts) (Some f) = place_same M N m n number renumbers f h
  place_in_same (Made h ts) None = refl
  place_in_same (Var v) o = refl

  wanted_part_same : (o : Operation Ref BindId) (lo : ℕ) (w : Option Stars) (i : ℕ) → lo < count → wanted_part naming N K others o lo w i ≡ wanted_part naming M K types o lo w i
  wanted_part_same (Record_of fs) lo w i lt = ap (λ o. wanted_component o w) (ap (λ t. place_in naming N K others t (field_at fs i)) (typed lo lt) ∙ place_in_same (types lo) (field_at fs i))
  wanted_part_same (Ascribe e) lo w i lt = ap Some (written_as e lo lt)
  wanted_part_same (Coerce e) lo w i lt = ap Some (written_as e lo lt)
  wanted_part_same o lo w i lt = refl

  behind_let_to : (b : Binding Ref BindId) (lo : ℕ) (a : Held) (h : Here) → 1 + lo + pattern_numbers b.pattern ≤ count → behind_let naming N K others b lo (hold a) (hereafter h) ≡ hereafter (behind_let naming M K types b lo a h)
  behind_let_to b lo a h le = ap (λ s. with_scope s (hereafter h)) (bound_as false b.pattern (1 + lo) a.value h.scope le)

  -- ---- loops

  abbrev One_going : Type 0
  One_going = Going naming M K types

  abbrev Other_going : Type 0
  Other_going = Going naming N K others

  abbrev One_flow : Type 0
  One_flow = Flow naming M K types

  abbrev Other_flow : Type 0
  Other_flow = Flow naming N K others

  record GoingR (x : One_going) (y : Other_going) : Type 0 where
    over : y.over ≡ x.over
    bring : (s : Scope) → y.bring (to_scope number s) ≡ to_scope number (x.bring s)

  abbrev to_flow : One_flow → Other_flow
  to_flow f = record { value = go f.value; losses = f.losses }

  carried_scope_to : (p : FlatPattern) (q : ℕ) (xs : List Set) (s : Scope) → q + pattern_numbers p ≤ count → carried_scope naming N K others p q xs (to_scope number s) ≡ to_scope number (carried_scope naming M K types p q xs s)
  carried_scope_to p q xs s le = ap (λ v. bound naming N others false p q v (to_scope number s)) (ap (having xs) (value_as [] q (pattern_in p q le)) ∙ having_value number xs (of_type K [] (types q))) ∙ bound_as false p q (having xs (of_type K [] (types q))) s le

  turn_here_to : (h : Here) (p : FlatPattern) (lo : ℕ) (x : One_going) (y : Other_going) → GoingR x y → (xs : List Set) → 1 + lo + pattern_numbers p ≤ count → turn_here naming N K others (hereafter h) p lo y xs ≡ hereafter (turn_here naming M K types h p lo x xs)
  turn_here_to h p lo x y g xs le = ap (λ s. in_loop lo s (hereafter h)) (ap y.bring (carried_scope_to p (1 + lo) xs h.scope le) ∙ g.bring (carried_scope naming M K types p (1 + lo) xs h.scope))

  carried_by_same : (p : FlatPattern) (q : ℕ) (first : FlatTerm) (k : ℕ) (a : Held) (f : One_flow) → q < count → carried_by naming N K others p q first k (hold a) (to_flow f) ≡ carried_by naming M K types p q first k a f
  carried_by_same p q first k a f lt = λ i. all_carried f.losses (starts_same M N m n number renumbers first k a.value i)
      ((ap components (ap (own_names naming N p q) (value_as [] q lt) ∙ own_names_to M N m n number renumbers naming p q (of_type K [] (types q))) ∙ components_same number (own_names naming M p q (of_type K [] (types q)))) i)
      (components_same number a.value i) (components_same number f.value i)

  looked_again_to : (b : Bool) (f : One_flow) (x y : Step Value) → StepTo go x y → StepTo go (looked_again naming M K types b f x) (looked_again naming N K others b (to_flow f) y)
  looked_again_to true f x y g ls = g ls
  looked_again_to false f x y g ls = gives refl

  -- what a turn does, and what it is looked at with
  module _ (h : Here) (p : FlatPattern) (lo at : ℕ) (le : 1 + lo + pattern_numbers p ≤ count) (a : Held) (x : One_going) (y : Other_going) (g : GoingR x y) (condition condition' : Here → Step (Unit {0})) (body body' : Here → Step Held)
      (conditions : (i : Here) → StepTo same (condition i) (condition' (hereafter i))) (bodies : (i : Here) → StepTo hold (body i) (body' (hereafter i))) where
    a_turn : (body : Here → Step Held) (condition : Here → Step (Unit {0})) (h : Here) (cs : List Carried) → Here → Step Value
    a_turn body condition h cs inside = and_then (condition inside) (λ z. and_then (body inside) (λ b. and_then (leave h lo at cs (components b.value)) (λ w. give b.value)))

    a_turn_to : (cs : List Carried) (i j : Here) → j ≡ hereafter i → StepTo go (a_turn body condition h cs i) (a_turn body' condition' (hereafter h) cs j)
    unfolding a_turn
    a_turn_to cs i j e ls = subst (λ k. AnswerR (λ (v : Value) (w : Value). w ≡ go v) (a_turn body condition h cs i ls) (a_turn body' condition' (hereafter h) cs k ls)) (sym e)
        (then_to same _ _ (conditions i ls) (λ z ls2. then_to hold _ _ (bodies i ls2) (λ b ls3. then_same (λ k. leave h lo at cs (components_same number b.value k)) ls3 _ _ (λ w ls4. gives refl))))

    turned_to : (f : One_flow) (cs : List Carried) → StepTo go (turned naming M K types h p lo at a x condition body f cs) (turned naming N K others (hereafter h) p lo at (hold a) y condition' body' (to_flow f) cs)
    unfolding a_turn
    turned_to f cs ls =
        then_same enter_as ls _ _ (λ z ls2.
        then_to go _ _ (looked_again_to h.asked f (a_turn body condition h cs (turn_here naming M K types h p lo x (over_all_turns lo cs))) (a_turn body' condition' (hereafter h) cs (turn_here naming N K others (hereafter h) p lo y (over_all_turns lo cs)))
        (a_turn_to cs (turn_here naming M K types h p lo x (over_all_turns lo cs)) (turn_here naming N K others (hereafter h) p lo y (over_all_turns lo cs)) (turn_here_to h p lo x y g (over_all_turns lo cs) le)) ls2) (λ v ls3.
        gives ((λ i. having (results cs (over_all_turns lo cs) (components_same number v i)) (go v)) ∙ having_value number (results cs (over_all_turns lo cs) (components v)) v)))
      where
        enter_as : enter (hereafter h) (hold a) y.over at cs ≡ enter h a x.over at cs
        enter_as = ap (λ s. enter (hereafter h) (hold a) s at cs) g.over
            ∙ (λ i. and_then (demand h.asked (first_broken_of (eaten_not_consumable h) cs)) (λ z. and_then (demand h.asked (first_broken_of (eaten_captured h) cs)) (λ w.
            and_then (settled_same number h (a ∷ []) i) (λ v. and_then (demand h.asked (some_alias (λ k. ResultAliases k (First at)) (shared_firsts x.over [] cs))) (λ u. consume_firsts cs)))))

    flow_to : StepTo to_flow (flow_of naming M K types h p lo x condition body) (flow_of naming N K others (hereafter h) p lo y condition' body')
    flow_to ls = subst (λ i. AnswerR (λ (v : One_flow) (w : Other_flow). w ≡ to_flow v) (flow_of naming M K types h p lo x condition body ls) (flow_at condition' body' (flowing i) ls)) (sym (turn_here_to h p lo x y g [] le))
        (apart_are ls (then_to same _ _ (conditions (flowing (turn_here naming M K types h p lo x [])) ls) (λ z ls2. then_to hold _ _ (bodies (flowing (turn_here naming M K types h p lo x [])) ls2) (λ b ls3. gives refl))))
      where
        flow_at : (Here → Step (Unit {0})) → (Here → Step Held) → Here → Step Other_flow
        flow_at condition body inside = apart (and_then (condition inside) (λ z. and_then (body inside) (λ b. and_then losses_now (λ ls. give (record { value = b.value; losses = ls })))))

  -- ---- the walk

  captured_same : (e : FlatTerm) (s : Scope) → captures (capture N (to_scope number s) e) ≡ captures (capture M s e)
  captured_same e s = ap captures (capture_to M N m n number renumbers s e) ∙ captures_same number (capture M s e)

  -- the body of a function, where names, what is wanted and the stars of its result are these
  abbrev body_of : Names → Sub → Patterns Ref BindId → FlatTerm → ℕ → Here → Option Stars → Stars → Step (Unit {0})
  body_of N types ps e lo i x u = apart (and_then (by_itself naming N K types e (body_node naming N K types ps lo) i (looked naming N K types e (body_node naming N K types ps lo) i x)) (λ a. give_back naming N K types i u a))

  abbrev declared_at : Names → Sub → FlatTerm → ℕ → Here → Stars → Step Part
  declared_at N types t lo h u = and_then (by_itself naming N K types t (1 + lo) h (looked naming N K types t (1 + lo) h (Some u))) (λ a. and_then (ascribe h u a) (λ v. whole naming N K types t lo v))

  -- an operation, behind whose parts this is wanted
  abbrev strict_at : Names → Sub → Operation Ref BindId → Place → Terms Ref BindId → ℕ → Here → (ℕ → Option Stars) → Step Part
  strict_at N types o mark ts lo h x = and_then (all_looked naming N K types ts (lo + own_numbers o) h x 0) (λ parts. and_then (operation N K types h o lo mark parts) (λ v. whole naming N K types (Strict o mark ts) lo v))

  strict_to : (o : Operation Ref BindId) (mark : Place) (ts : Terms Ref BindId) (lo : ℕ) (h : Here) (w : Option Stars)
      → lo < count → StepTo (to_helds number) (all_looked naming M K types ts (lo + own_numbers o) h (wanted_part naming M K types o lo w) 0) (all_looked naming N K others ts (lo + own_numbers o) (hereafter h) (wanted_part naming M K types o lo w) 0)
      → StepTo parting (strict_at M types o mark ts lo h (wanted_part naming M K types o lo w)) (strict_at N others o mark ts lo (hereafter h) (wanted_part naming N K others o lo w))
  strict_to o mark ts lo h w lt g ls = subst (λ x. AnswerR (λ (y : Part) (z : Part). z ≡ parting y) (strict_at M types o mark ts lo h (wanted_part naming M K types o lo w) ls) (strict_at N others o mark ts lo (hereafter h) x ls)) (sym (λ i j. wanted_part_same o lo w j lt i))
      (then_to (to_helds number) _ _ (g ls) (λ xs ls2. then_to go _ _ (operation_to M N m n number renumbers variable K keeps types others lo (typed lo lt) h o mark xs ls2) (λ v ls3. whole_to (Strict o mark ts) lo v (go v) refl lt ls3)))

  mutual
    unfolding looked

    pub looked_to : (e : FlatTerm) (lo : ℕ) → lo + numbers e ≤ count → (h : Here) (w : Option Stars) → StepTo parting (looked naming M K types e lo h w) (looked naming N K others e lo (hereafter h) w)
    looked_to (Use r at k) lo le h w ls = let lt : lo < count = omega (arith, le) in gives (λ i. part_of (record { node = lo; called = called (Use r at k); first_name = first_name (Use r at k); value = use_value_to lo h.scope r lt i; losses = length ls }) (bound_name r) (typed lo lt i))
    looked_to (Strict (Project f) mark (term_and t no_term)) lo le h w ls = then_to parting _ _ (looked_to t (2 + lo) (omega (arith, le)) h None ls) (λ p ls2. projected_to h (Strict (Project f) mark (term_and t no_term)) f lo p (omega (arith, le)) ls2)
    looked_to (Strict (Declared e) mark (term_and t no_term)) lo le h w ls =
        let lt : lo < count = omega (arith, le) in
        let u : Stars = or_plain w (written_stars M false e (types lo)) in
        subst (λ v. AnswerR (λ (x : Part) (y : Part). y ≡ parting x) (declared_at M types t lo h u ls) (declared_at N others t lo (hereafter h) v ls)) (sym (ap (or_plain w) (written_as e lo lt)))
        (then_to hold _ _ (by_itself_to t (1 + lo) h _ _ (looked_to t (1 + lo) (omega (arith, le)) h (Some u)) ls) (λ a ls2. then_to go _ _ (ascribe_to number h u a ls2) (λ v ls3. whole_to t lo v (go v) refl lt ls3)))
    looked_to (Strict o mark ts) lo le h w ls = let own : 0 < own_numbers o = own_some o in strict_to o mark ts lo h w (omega (arith, le, own)) (all_looked_to ts (lo + own_numbers o) (omega (arith, le)) h (wanted_part naming M K types o lo w) 0) ls
    looked_to (Lambda ps e) lo le h w ls =
        let some : 0 < numbers e = numbers_some e in
        let lt : 1 + lo + all_pattern_numbers ps < count = omega (arith, le, some) in
        let i : Here = in_body naming M K types ps lo h in
        let x : Option Stars = body_wanted naming M K types ps e lo w in
        let u : Stars = body_stars naming M K types ps e lo w in
        then_to same _ _ (subst (λ (y : Here × Option Stars × Stars). AnswerR (λ (v : Unit {0}) (z : Unit {0}). z ≡ same v) (body_of M types ps e lo i x u ls) (body_of N others ps e lo y.0 y.1 y.2 ls))
        (λ j. (sym (in_body_to ps lo h (omega (arith, lt))) j, sym (body_wanted_same ps e lo w lt) j, sym (body_stars_same ps e lo w lt) j))
        (apart_are ls (then_to hold _ _ (by_itself_to e (body_node naming M K types ps lo) i _ _ (looked_to e (body_node naming M K types ps lo) (omega (arith, le)) i x) ls) (λ a ls2. same_step (give_back_same i u a) ls2)))) (λ z ls3.
        then_same (λ j. capture_fits naming N K others h lo (captured_same e h.scope j)) ls3 _ _ (λ y ls4.
        whole_to (Lambda ps e) lo (Function (captures (capture M h.scope e)) (function_stars naming M K types ps (1 + lo) u)) (Function (captures (capture N (to_scope number h.scope) e)) (function_stars naming N K others ps (1 + lo) (body_stars naming N K others ps e lo w)))
        (λ j. Function (captured_same e h.scope j) ((ap (function_stars naming N K others ps (1 + lo)) (body_stars_same ps e lo w lt) ∙ function_stars_same ps (1 + lo) u (omega (arith, lt))) j)) (omega (arith, lt)) ls4))
    looked_to (Apply f e) lo le h w ls =
        then_to parting _ _ (looked_to f (1 + lo) (omega (arith, le)) h None ls) (λ p ls2.
        then_to parting _ _ (ready_to h f (1 + lo) p (term_in f (1 + lo) (omega (arith, le))) ls2) (λ q ls3.
        then_to hold _ _ (subst (λ x. AnswerR (λ (y : Held) (z : Held). z ≡ hold y) (by_itself naming M K types e (1 + lo + numbers f) h (looked naming M K types e (1 + lo + numbers f) h (wanted_parameter q)) ls3) (by_itself naming N K others e (1 + lo + numbers f) (hereafter h) (looked naming N K others e (1 + lo + numbers f) (hereafter h) x) ls3)) (sym (wanted_parameter_same number variable q))
        (by_itself_to e (1 + lo + numbers f) h _ _ (looked_to e (1 + lo + numbers f) (omega (arith, le)) h (wanted_parameter q)) ls3)) (λ a ls4. gives (with_argument_to q a))))
    looked_to (Let b v e) lo le h w ls =
        let at : ℕ = value_node naming M K types b.pattern lo in
        then_to hold _ _ (by_itself_to v at h _ _ (looked_to v at (omega (arith, le)) h None) ls) (λ a ls2.
        then_same (let_fits_same h b.pattern (1 + lo) a (omega (arith, le))) ls2 _ _ (λ z ls3.
        then_to hold _ _ (subst (λ i. AnswerR (λ (x : Held) (y : Held). y ≡ hold x) (by_itself naming M K types e (at + numbers v) (behind_let naming M K types b lo a h) (looked naming M K types e (at + numbers v) (behind_let naming M K types b lo a h) w) ls3) (by_itself naming N K others e (at + numbers v) i (looked naming N K others e (at + numbers v) i w) ls3)) (sym (behind_let_to b lo a h (omega (arith, le))))
        (by_itself_to e (at + numbers v) (behind_let naming M K types b lo a h) _ _ (looked_to e (at + numbers v) (omega (arith, le)) (behind_let naming M K types b lo a h) w) ls3)) (λ r ls4. gives (λ i. part_of (hold r) None (typed lo (omega (arith, le)) i)))))
    looked_to (If c t e) lo le h w ls =
        then_to hold _ _ (by_itself_to c (1 + lo) h _ _ (looked_to c (1 + lo) (omega (arith, le)) h None) ls) (λ z ls2.
        then_to go _ _ (either_are hold go (λ (a : Held) (b : Held). unite a.value b.value) (λ (a : Held) (b : Held). unite a.value b.value) (λ a b. unite_value number a.value b.value) (by_itself_to t (1 + lo + numbers c) h _ _ (looked_to t (1 + lo + numbers c) (omega (arith, le)) h None)) (by_itself_to e (1 + lo + numbers c + numbers t) h _ _ (looked_to e (1 + lo + numbers c + numbers t) (omega (arith, le)) h None)) ls2) (λ v ls3.
        whole_to (If c t e) lo v (go v) refl (omega (arith, le)) ls3))
    looked_to (Loop mark sizes p first turns body) lo le h w ls =
        let ins : 1 + lo + pattern_numbers p ≤ count = omega (arith, le) in
        let at : ℕ = turn_node naming M K types p first turns lo in
        let from : ℕ = turns_node naming M K types p first lo in
        then_to hold _ _ (by_itself_to first (value_node naming M K types p lo) h _ _ (looked_to first (value_node naming M K types p lo) (omega (arith, le)) h None) ls) (λ a ls2.
        then_are _ _ (turns_looked_to turns from (omega (arith, le)) h ls2) (λ x y ls3 g.
        then_to to_flow _ _ (flow_to h p lo at ins a x y g (condition_looked naming M K types turns from) (condition_looked naming N K others turns from) (λ i. by_itself naming M K types body at i (looked naming M K types body at i None)) (λ i. by_itself naming N K others body at i (looked naming N K others body at i None)) (λ i. condition_to turns from (omega (arith, le)) i) (λ i. by_itself_to body at i _ _ (looked_to body at (omega (arith, le)) i None)) ls3) (λ f ls4.
        then_to go _ _ (subst (λ cs. AnswerR (λ (v : Value) (w : Value). w ≡ go v) (turned naming M K types h p lo at a x (condition_looked naming M K types turns from) (λ i. by_itself naming M K types body at i (looked naming M K types body at i None)) f (carried_by naming M K types p (1 + lo) first (value_node naming M K types p lo) a f) ls4) (turned naming N K others (hereafter h) p lo at (hold a) y (condition_looked naming N K others turns from) (λ i. by_itself naming N K others body at i (looked naming N K others body at i None)) (to_flow f) cs ls4)) (sym (carried_by_same p (1 + lo) first (value_node naming M K types p lo) a f (pattern_in p (1 + lo) ins)))
        (turned_to h p lo at ins a x y g (condition_looked naming M K types turns from) (condition_looked naming N K others turns from) (λ i. by_itself naming M K types body at i (looked naming M K types body at i None)) (λ i. by_itself naming N K others body at i (looked naming N K others body at i None)) (λ i. condition_to turns from (omega (arith, le)) i) (λ i. by_itself_to body at i _ _ (looked_to body at (omega (arith, le)) i None)) f (carried_by naming M K types p (1 + lo) first (value_node naming M K types p lo) a f) ls4)) (λ v ls5.
        whole_to (Loop mark sizes p first turns body) lo v (go v) refl (omega (arith, le)) ls5))))

    all_looked_to : (ts : Terms Ref BindId) (lo : ℕ) → lo + all_numbers ts ≤ count → (h : Here) (wanted : ℕ → Option Stars) (i : ℕ) → StepTo (to_helds number) (all_looked naming M K types ts lo h wanted i) (all_looked naming N K others ts lo (hereafter h) wanted i)
    all_looked_to no_term lo le h wanted i ls = gives refl
    all_looked_to (term_and t ts) lo le h wanted i ls = then_to hold _ _ (by_itself_to t lo h _ _ (looked_to t lo (omega (arith, le)) h (wanted i)) ls) (λ a ls2. then_to (to_helds number) _ _ (all_looked_to ts (lo + numbers t) (omega (arith, le)) h wanted (suc i) ls2) (λ xs ls3. gives refl))

    turns_looked_to : (t : FlatTurns) (lo : ℕ) → lo + turn_numbers t ≤ count → (h : Here) (ls : Losses) → AnswerR GoingR (turns_looked naming M K types t lo h ls) (turns_looked naming N K others t lo (hereafter h) ls)
    turns_looked_to (Counted i e) lo le h ls = then_to hold _ _ (by_itself_to e (1 + lo) h _ _ (looked_to e (1 + lo) (omega (arith, le)) h None) ls) (λ a ls2. gives (record { over = refl; bring = λ s. ap (λ v. with_value i.0 v (to_scope number s)) (value_as [] lo (omega (arith, le))) ∙ with_value_to number i.0 (of_type K [] (types lo)) s }))
    turns_looked_to (Over p e) lo le h ls = then_to hold _ _ (by_itself_to e (lo + pattern_numbers p) h _ _ (looked_to e (lo + pattern_numbers p) (omega (arith, le)) h None) ls) (λ a ls2. gives (record {
      over = aliases_same number a.value;
      bring = λ s. ap (λ v. bound naming N others false p lo v (to_scope number s)) ((λ i. of_type K (aliases_same number a.value i) (others lo)) ∙ value_as (aliases a.value) lo (pattern_in p lo (omega (arith, le)))) ∙ bound_as false p lo (of_type K (aliases a.value) (types lo)) s (omega (arith, le));
    }))
    turns_looked_to (While c) lo le h ls = gives (record { over = refl; bring = λ s. refl })

    condition_to : (t : FlatTurns) (lo : ℕ) → lo + turn_numbers t ≤ count → (h : Here) → StepTo same (condition_looked naming M K types t lo h) (condition_looked naming N K others t lo (hereafter h))
    condition_to (While c) lo le h ls = then_to hold _ _ (by_itself_to c lo h _ _ (looked_to c lo le h None) ls) (λ a ls2. gives refl)
    condition_to (Counted i e) lo le h ls = gives refl
    condition_to (Over p e) lo le h ls = gives refl

  -- ---- programs

  behind_same : {A : Type 0} {x y : Answer (Done Held)} (k l : Done Held → Answer A) → AnswerR (λ (a : Held) (b : Held). b ≡ hold a) x y → ((a : Held) (ls : Losses) → l (record { result = hold a; losses = ls }) ≡ k (record { result = a; losses = ls })) → then_do y l ≡ then_do x k
  behind_same k l (gives {a = a} {ls = ls} h) e = ap (λ b. l (record { result = b; losses = ls })) h ∙ e a ls
  behind_same k l refuses e = refl

  definitions_same : (ds : List Defined) (lo : ℕ) (s : Scope) → lo + program_numbers ds ≤ count → definitions_looked naming N K others ds lo (to_scope number s) ≡ definitions_looked naming M K types ds lo s
  unfolding value_looked
  definitions_same [] lo s le = refl
  definitions_same (d ∷ ds) lo s le = behind_same _ _ (by_itself_to d.value (lo + pattern_numbers d.name) (at_top lo s) _ _ (looked_to d.value (lo + pattern_numbers d.name) (omega (arith, le)) (at_top lo s) None) []) (λ a ls.
      ap (definitions_looked naming N K others ds (lo + (pattern_numbers d.name + numbers d.value))) (bound_as false d.name lo a.value s (omega (arith, le))) ∙ definitions_same ds (lo + (pattern_numbers d.name + numbers d.value)) (bound naming M types false d.name lo a.value s) (omega (arith, le)))

  answered_same : (ds : List Defined) → program_numbers ds ≤ count → first_broken naming N K others ds ≡ first_broken naming M K types ds
  unfolding first_broken
  answered_same ds le = λ i. broken naming N K others (definitions_same ds 0 nothing (omega (arith, le)) i)

pub aliases_are_one : AliasesAreOne
aliases_are_one naming M N m n number renumbers variable K keeps ds types others typed = answered_same naming M N m n number renumbers variable K keeps types others (program_numbers ds) typed ds (omega arith)
