-- The aliases of a term's value, or the first rule that is broken, in the order of evaluation: one clause a form. A term's numbers
-- begin at lo.
use Rattle.std.specs.Prelude.{ℕ, zero, suc, ◌+◌, Bool, true, false, ◌||◌, cond, List, [], ◌∷◌, ◌++◌, length, Option, Some, None}
use Rattle.fut_ast.specs.Sorts.{Text}
use Rattle.fut_scalar.specs.declared.place.BindId.{BindId}
use Rattle.fut_flat.specs.declared.prim.Ref.{Ref}
use Rattle.fut_flat.specs.declared.prim.Ref.TheVariants as ref
use Rattle.fut_flat.specs.Terms.{Tuple_pattern, Record_pattern, Typed_pattern, Patterns, no_pattern, pattern_and, Binding, Operation, Tuple_of, Record_of, Project, Ascribe, Coerce, Declared, Use, Strict, Lambda, Apply, Let, If, Loop, Terms, no_term, term_and, Counted, Over, While}
use Rattle.fut_flat.specs.Numbers.{pattern_numbers, all_pattern_numbers, own_numbers, numbers, turn_numbers}
use Rattle.fut_flat.specs.Erased.{FlatTerm, FlatTurns, FlatPattern}
use Rattle.fut_types.specs.Types.{Ty, Made, Sub, Kinds}
use Rattle.fut_types.specs.Shapes.{place}
use Rattle.fut_typing.specs.Names.{Names}
use Rattle.fut_aliases.specs.Aliases.{Set, Naming, is_in, union, those, shared, is_outside}
use Rattle.fut_aliases.specs.Stars.{Stars, Arrow, Row, no_stars, star_at, spread, written_stars, primitive_stars, either}
use Rattle.fut_aliases.specs.Values.{Value, Function, Parts, Values, value_and, no_value, of_type, with_stars, at_type, components, aliases, having, unite, Component, starring, part_named}
use Rattle.fut_aliases.specs.Steps.{Losses, Step, give, and_then, losses_now, lose_too, apart, either_of, demand, or_else, some_alias, lost}
use Rattle.fut_aliases.specs.declared.refusals.Broken.TheVariants.{ResultAliases}
use Rattle.fut_aliases.specs.declared.refusals.Broken.{Broken}
use Rattle.fut_aliases.specs.declared.refusals.Named.TheVariants.{ByAlias, AFunction}
use Rattle.fut_aliases.specs.declared.refusals.Spot.TheVariants.{First}
use Rattle.fut_aliases.specs.Patterns.{Scope, with_value, pattern_stars, bound, kept}
use Rattle.fut_aliases.specs.Capturing.{capture, captures, called, first_name}
use Rattle.fut_aliases.specs.Calls.{Here, Held, Part, stars_of, stars_behind, too_hungry, too_shared, finished, use_name}
use Rattle.fut_aliases.specs.Operations.{operation, ascribe}
use Rattle.fut_aliases.specs.Loops.{Carried, own_names, starts, all_carried, over_all_turns, enter, leave, results}

-- ---- where a term stands

abbrev pub with_scope : Scope → Here → Here
with_scope scope h = record { scope = scope; fixed = h.fixed; loop_from = h.loop_from; function_from = h.function_from; asked = h.asked }

abbrev pub in_function : ℕ → Set → Scope → Here → Here
in_function lo fixed scope h = record { scope = scope; fixed = union fixed h.fixed; loop_from = h.loop_from; function_from = lo; asked = h.asked }

abbrev pub in_loop : ℕ → Scope → Here → Here
in_loop lo scope h = record { scope = scope; fixed = h.fixed; loop_from = lo; function_from = h.function_from; asked = h.asked }

-- where only the flow of values is looked at
abbrev pub flowing : Here → Here
flowing h = record { scope = h.scope; fixed = h.fixed; loop_from = h.loop_from; function_from = h.function_from; asked = false }

-- ---- parts

abbrev pub held : FlatTerm → ℕ → Value → Step Held
held e n v = and_then losses_now (λ ls. give (record { node = n; called = called e; first_name = first_name e; value = v; losses = length ls }))

abbrev pub part_of : Held → Option BindId → Ty → Part
part_of a name t = record { head = a; name = name; type = t; arguments = [] }

abbrev pub values_of : Value → Values
values_of (Parts h vs) = vs
values_of v = no_value

-- a path is no name
abbrev pub unnamed : Held → Held
unnamed a = record { node = a.node; called = AFunction; first_name = a.first_name; value = a.value; losses = a.losses }

abbrev pub bound_name : Ref → Option BindId
bound_name (ref.Bound b) = Some b
bound_name r = None

-- ---- what is wanted of a function, by the written type of the place where it stands

abbrev pub wanted_parameter : Part → Option Stars
wanted_parameter p = parameter_of (stars_behind p.arguments (stars_of p.head.value))
  where
    parameter_of : Stars → Option Stars
    parameter_of (Arrow b q r) = Some q
    parameter_of u = None

abbrev pub wanted_component : Option ℕ → Option Stars → Option Stars
wanted_component i (Some (Row us)) = Some (star_at i us)
wanted_component i w = None

abbrev pub field_at : List Text → ℕ → Option Text
field_at [] i = None
field_at (f ∷ fs) zero = Some f
field_at (f ∷ fs) (suc i) = field_at fs i

abbrev pub result_stars : Patterns Ref BindId → Stars → Stars
result_stars no_pattern u = u
result_stars (pattern_and p ps) (Arrow b q r) = result_stars ps r
result_stars (pattern_and p ps) u = no_stars

abbrev pub wanted_result : Patterns Ref BindId → Option Stars → Option Stars
wanted_result ps (Some u) = Some (result_stars ps u)
wanted_result ps None = None

abbrev pub or_plain : Option Stars → Stars → Stars
or_plain (Some u) v = u
or_plain None v = v

module _ (naming : Naming) (N : Names) (K : Kinds) (types : Sub) where
  -- the stars of a result: those that are declared, with those that are wanted
  abbrev pub declared_stars : FlatTerm → ℕ → Option Stars
  declared_stars (Strict (Declared e) mark ts) n = Some (written_stars N false e (types n))
  declared_stars e n = None

  abbrev pub both_wanted : Option Stars → Option Stars → Option Stars
  both_wanted (Some u) (Some v) = Some (either u v)
  both_wanted (Some u) None = Some u
  both_wanted None w = w

  -- ---- functions

  -- the stars of a function of these parameters, which begin at q
  abbrev pub function_stars : Patterns Ref BindId → ℕ → Stars → Stars
  function_stars no_pattern q r = r
  function_stars (pattern_and p ps) q r = Arrow false (pattern_stars N types p q) (function_stars ps (q + pattern_numbers p) r)

  abbrev pub parameter_value : FlatPattern → ℕ → Value
  parameter_value p q = with_stars K [] (pattern_stars N types p q) (types q)

  abbrev pub with_parameters : Patterns Ref BindId → ℕ → Scope → Scope
  with_parameters no_pattern q scope = scope
  with_parameters (pattern_and p ps) q scope = with_parameters ps (q + pattern_numbers p) (bound naming N types true p q (parameter_value p q) scope)

  abbrev pub all_kept : Patterns Ref BindId → ℕ → Set
  all_kept no_pattern q = []
  all_kept (pattern_and p ps) q = union (kept naming N types p q (pattern_stars N types p q) (parameter_value p q)) (all_kept ps (q + pattern_numbers p))

  -- the body of a function at lo
  abbrev pub body_node : Patterns Ref BindId → ℕ → ℕ
  body_node ps lo = 1 + lo + all_pattern_numbers ps

  abbrev pub in_body : Patterns Ref BindId → ℕ → Here → Here
  in_body ps lo h = in_function lo (all_kept ps (1 + lo)) (with_parameters ps (1 + lo) h.scope) h

  abbrev pub body_wanted : Patterns Ref BindId → FlatTerm → ℕ → Option Stars → Option Stars
  body_wanted ps e lo w = both_wanted (declared_stars e (body_node ps lo)) (wanted_result ps w)

  abbrev pub body_stars : Patterns Ref BindId → FlatTerm → ℕ → Option Stars → Stars
  body_stars ps e lo w = or_plain (body_wanted ps e lo w) (spread false (types (body_node ps lo)))

  -- a component of the result with a star may share with no parameter without one, with nothing from outside, and with no other
  abbrev pub sets_of : List Component → Set
  sets_of [] = []
  sets_of (c ∷ cs) = union c.set (sets_of cs)

  abbrev pub shared_in_result : Here → List Component → List Component → Set
  shared_in_result h before [] = []
  shared_in_result h before (c ∷ cs) = union (cond c.starred (union (those (λ a. is_outside h.function_from a || is_in a h.fixed) c.set) (shared c.set (sets_of (before ++ cs)))) []) (shared_in_result h (before ++ c ∷ []) cs)

  abbrev pub give_back : Here → Stars → Held → Step (Unit {0})
  give_back h u a =
      and_then (demand h.asked (too_hungry u a)) (λ z.
      demand h.asked (or_else (some_alias (λ n. ResultAliases n (First a.node)) (shared_in_result h [] (starring u a.value))) (too_shared u a)))

  -- what a function at a node shares with from outside was not consumed before
  abbrev pub capture_fits : Here → ℕ → Set → Step (Unit {0})
  capture_fits h n s = and_then losses_now (λ ls. demand h.asked (lost ls ByAlias (First n) s))

  -- ---- lets

  abbrev pub with_held : Value → Held → Held
  with_held v a = record { node = a.node; called = a.called; first_name = a.first_name; value = v; losses = a.losses }

  -- the functions that a pattern takes at a written type
  unfoldable mutual
    pub misfit : (Stars → Held → Option Broken) → FlatPattern → ℕ → Held → Option Broken
    misfit rule (Typed_pattern p e) q a = rule (written_stars N false e (types q)) a
    misfit rule (Tuple_pattern ps) q a = all_misfit rule ps (1 + q) a (values_of a.value)
    misfit rule (Record_pattern fs ps) q a = fields_misfit rule fs ps (1 + q) a
    misfit rule p q a = None

    pub all_misfit : (Stars → Held → Option Broken) → Patterns Ref BindId → ℕ → Held → Values → Option Broken
    all_misfit rule (pattern_and p ps) q a (value_and v vs) = or_else (misfit rule p q (with_held v a)) (all_misfit rule ps (q + pattern_numbers p) a vs)
    all_misfit rule ps q a vs = None

    pub fields_misfit : (Stars → Held → Option Broken) → List Text → Patterns Ref BindId → ℕ → Held → Option Broken
    fields_misfit rule (f ∷ fs) (pattern_and p ps) q a = or_else (misfit rule p q (with_held (part_named N f a.value) a)) (fields_misfit rule fs ps (q + pattern_numbers p) a)
    fields_misfit rule fs ps q a = None

  abbrev pub let_fits : Here → FlatPattern → ℕ → Held → Step (Unit {0})
  let_fits h p q a = and_then (demand h.asked (misfit too_hungry p q a)) (λ z. demand h.asked (misfit too_shared p q a))

  -- ---- parts of terms

  abbrev pub used : ℕ → Option Value → Value
  used lo (Some v) = at_type K (types lo) v
  used lo None = of_type K [] (types lo)

  abbrev pub use_value : ℕ → Scope → Ref → Value
  use_value lo scope (ref.Bound b) = used lo (scope b.0)
  use_value lo scope (ref.Prim p) = with_stars K [] (primitive_stars p) (types lo)
  use_value lo scope (ref.Scalar s) = of_type K [] (types lo)

  -- a value at the node of a term
  abbrev pub whole : FlatTerm → ℕ → Value → Step Part
  whole e lo v = and_then (held e lo v) (λ a. give (part_of a None (types lo)))

  -- the value of a term by itself
  abbrev pub by_itself : FlatTerm → ℕ → Here → Step Part → Step Held
  by_itself e n h m = and_then m (λ p. and_then (finished K h n p) (λ v. held e n v))

  -- a path of fields goes on; the field of any other value is a value
  abbrev pub projected : Here → FlatTerm → Text → ℕ → Part → Step Part
  projected h e f lo p = go_on p.name p.arguments
    where
      go_on : Option BindId → List Held → Step Part
      go_on (Some b) [] = give (part_of (with_held (part_named N f p.head.value) (unnamed p.head)) (Some b) (types lo))
      go_on name arguments = and_then (finished K h (2 + lo) p) (λ v. whole e lo (part_named N f v))

  -- a function whose next argument is looked at: it is used, and called where it has all its arguments
  abbrev pub ready : Here → FlatTerm → ℕ → Part → Step Part
  ready h f n p = as_function p.arguments (stars_behind p.arguments (stars_of p.head.value))
    where
      as_function : List Held → Stars → Step Part
      as_function [] u = and_then (use_name K h p) (λ z. give (part_of p.head None p.type))
      as_function (a ∷ more_of) (Arrow b q r) = give p
      as_function (a ∷ more_of) u = and_then (finished K h n p) (λ v. whole f n v)

  abbrev pub with_argument : Part → Held → Part
  with_argument p a = record { head = p.head; name = None; type = p.type; arguments = p.arguments ++ a ∷ [] }

  abbrev pub place_in : Ty → Option Text → Option ℕ
  place_in (Made h ts) (Some f) = place N.shapes (N.label f) h
  place_in t f = None

  -- what is wanted of the i-th part of an operation
  abbrev pub wanted_part : Operation Ref BindId → ℕ → Option Stars → ℕ → Option Stars
  wanted_part Tuple_of lo w i = wanted_component (Some i) w
  wanted_part (Record_of fs) lo w i = wanted_component (place_in (types lo) (field_at fs i)) w
  wanted_part (Ascribe e) lo w i = Some (written_stars N false e (types lo))
  wanted_part (Coerce e) lo w i = Some (written_stars N false e (types lo))
  wanted_part o lo w i = None

  -- where the value stands that a let or a loop at lo binds, and what is behind the let
  abbrev pub value_node : FlatPattern → ℕ → ℕ
  value_node p lo = 1 + lo + pattern_numbers p

  abbrev pub behind_let : Binding Ref BindId → ℕ → Held → Here → Here
  behind_let b lo a h = with_scope (bound naming N types false b.pattern (1 + lo) a.value h.scope) h

  -- ---- loops

  -- what says which turns a loop at lo takes, and its body
  abbrev pub turns_node : FlatPattern → FlatTerm → ℕ → ℕ
  turns_node p first lo = value_node p lo + numbers first

  abbrev pub turn_node : FlatPattern → FlatTerm → FlatTurns → ℕ → ℕ
  turn_node p first turns lo = turns_node p first lo + turn_numbers turns

  -- what the loop goes over, and what each turn binds
  pub record Going : Type 0 where
    pub over : Set
    pub bring : Scope → Scope

  pub record Flow : Type 0 where
    pub value : Value
    pub losses : Losses

  abbrev pub carried_scope : FlatPattern → ℕ → List Set → Scope → Scope
  carried_scope p q xs scope = bound naming N types false p q (having xs (of_type K [] (types q))) scope

  -- inside the loop at lo, where the parameters share with these
  abbrev pub turn_here : Here → FlatPattern → ℕ → Going → List Set → Here
  turn_here h p lo going xs = in_loop lo (going.bring (carried_scope p (1 + lo) xs h.scope)) h

  abbrev pub carried_by : FlatPattern → ℕ → FlatTerm → ℕ → Held → Flow → List Carried
  carried_by p q first n a flow = all_carried flow.losses (starts N first n a.value) (components (own_names naming N p q (of_type K [] (types q)))) (components a.value) (components flow.value)

  -- Where rules are asked for, the body is looked at with what the parameters share with. Where only values flow, the first look has
  -- it all: what the body gives for a parameter shares with what the parameter does, and that is united with it in any case.
  abbrev pub looked_again : Bool → Flow → Step Value → Step Value
  looked_again true flow again = again
  looked_again false flow again = and_then (lose_too flow.losses) (λ z. give flow.value)

  -- the turns of a loop at a node, whose body is at another
  abbrev pub turned : Here → FlatPattern → ℕ → ℕ → Held → Going → (Here → Step (Unit {0})) → (Here → Step Held) → Flow → List Carried → Step Value
  turned h p lo at a going condition body flow cs =
      and_then (enter h a going.over at cs) (λ z.
      and_then (looked_again h.asked flow (a_turn (turn_here h p lo going (over_all_turns lo cs)))) (λ v.
      give (having (results cs (over_all_turns lo cs) (components v)) v)))
    where
      a_turn : Here → Step Value
      a_turn inside =
          and_then (condition inside) (λ y.
          and_then (body inside) (λ g.
          and_then (leave h lo at cs (components g.value)) (λ x. give g.value)))

  -- the first look, for which each parameter stands for itself
  abbrev pub flow_of : Here → FlatPattern → ℕ → Going → (Here → Step (Unit {0})) → (Here → Step Held) → Step Flow
  flow_of h p lo going condition body =
      apart (and_then (condition (flowing (turn_here h p lo going []))) (λ z.
      and_then (body (flowing (turn_here h p lo going []))) (λ g.
      and_then losses_now (λ ls. give (record { value = g.value; losses = ls })))))

  unfoldable mutual
    -- w is what is wanted of a function that stands here
    pub looked : FlatTerm → ℕ → Here → Option Stars → Step Part
    looked (Use r at k) lo h w = and_then (held (Use r at k) lo (use_value lo h.scope r)) (λ a. give (part_of a (bound_name r) (types lo)))
    looked (Strict (Project f) mark (term_and t no_term)) lo h w =
        and_then (looked t (2 + lo) h None) (λ p. projected h (Strict (Project f) mark (term_and t no_term)) f lo p)
    looked (Strict (Declared e) mark (term_and t no_term)) lo h w =
        and_then (by_itself t (1 + lo) h (looked t (1 + lo) h (Some (or_plain w (written_stars N false e (types lo)))))) (λ a.
        and_then (ascribe h (or_plain w (written_stars N false e (types lo))) a) (λ v. whole t lo v))
    looked (Strict o mark ts) lo h w =
        and_then (all_looked ts (lo + own_numbers o) h (wanted_part o lo w) 0) (λ parts.
        and_then (operation N K types h o lo mark parts) (λ v. whole (Strict o mark ts) lo v))
    looked (Lambda ps e) lo h w =
        and_then (apart (and_then (by_itself e (body_node ps lo) (in_body ps lo h) (looked e (body_node ps lo) (in_body ps lo h) (body_wanted ps e lo w))) (λ a. give_back (in_body ps lo h) (body_stars ps e lo w) a))) (λ z.
        and_then (capture_fits h lo (captures (capture N h.scope e))) (λ y.
        whole (Lambda ps e) lo (Function (captures (capture N h.scope e)) (function_stars ps (1 + lo) (body_stars ps e lo w)))))
    looked (Apply f e) lo h w =
        and_then (looked f (1 + lo) h None) (λ p.
        and_then (ready h f (1 + lo) p) (λ q.
        and_then (by_itself e (1 + lo + numbers f) h (looked e (1 + lo + numbers f) h (wanted_parameter q))) (λ a. give (with_argument q a))))
    looked (Let b v e) lo h w =
        and_then (by_itself v (value_node b.pattern lo) h (looked v (value_node b.pattern lo) h None)) (λ a.
        and_then (let_fits h b.pattern (1 + lo) a) (λ z.
        and_then (by_itself e (value_node b.pattern lo + numbers v) (behind_let b lo a h) (looked e (value_node b.pattern lo + numbers v) (behind_let b lo a h) w)) (λ r.
        give (part_of r None (types lo)))))
    looked (If c t e) lo h w =
        and_then (by_itself c (1 + lo) h (looked c (1 + lo) h None)) (λ z.
        and_then (either_of (λ (a : Held) (b : Held). unite a.value b.value) (by_itself t (1 + lo + numbers c) h (looked t (1 + lo + numbers c) h None)) (by_itself e (1 + lo + numbers c + numbers t) h (looked e (1 + lo + numbers c + numbers t) h None))) (λ v.
        whole (If c t e) lo v))
    looked (Loop mark sizes p first turns body) lo h w =
        and_then (by_itself first (value_node p lo) h (looked first (value_node p lo) h None)) (λ a.
        and_then (turns_looked turns (turns_node p first lo) h) (λ going.
        and_then (flow_of h p lo going (condition_looked turns (turns_node p first lo)) (λ inside. by_itself body (turn_node p first turns lo) inside (looked body (turn_node p first turns lo) inside None))) (λ flow.
        and_then (turned h p lo (turn_node p first turns lo) a going (condition_looked turns (turns_node p first lo)) (λ inside. by_itself body (turn_node p first turns lo) inside (looked body (turn_node p first turns lo) inside None)) flow (carried_by p (1 + lo) first (value_node p lo) a flow)) (λ v.
        whole (Loop mark sizes p first turns body) lo v))))

    pub all_looked : Terms Ref BindId → ℕ → Here → (ℕ → Option Stars) → ℕ → Step (List Held)
    all_looked no_term lo h wanted i = give []
    all_looked (term_and t ts) lo h wanted i = and_then (by_itself t lo h (looked t lo h (wanted i))) (λ a. and_then (all_looked ts (lo + numbers t) h wanted (suc i)) (λ more_of. give (a ∷ more_of)))

    -- what is counted or gone over is looked at once; an element shares with the array
    pub turns_looked : FlatTurns → ℕ → Here → Step Going
    turns_looked (Counted i m) lo h = and_then (by_itself m (1 + lo) h (looked m (1 + lo) h None)) (λ a. give (record { over = []; bring = with_value i.0 (of_type K [] (types lo)) }))
    turns_looked (Over p e) lo h = and_then (by_itself e (lo + pattern_numbers p) h (looked e (lo + pattern_numbers p) h None)) (λ a.
        give (record { over = aliases a.value; bring = bound naming N types false p lo (of_type K (aliases a.value) (types lo)) }))
    turns_looked (While c) lo h = give (record { over = []; bring = λ scope. scope })

    -- a condition sees what the loop carries
    pub condition_looked : FlatTurns → ℕ → Here → Step (Unit {0})
    condition_looked (While c) lo h = and_then (by_itself c lo h (looked c lo h None)) (λ a. give tt)
    condition_looked turns lo h = give tt

  -- the value of a term by itself
  unfoldable pub value_looked : FlatTerm → ℕ → Here → Step Held
  value_looked e lo h = by_itself e lo h (looked e lo h None)
