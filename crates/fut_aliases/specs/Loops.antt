-- Loops. A parameter that the body consumes is taken as one with a star: its first value is consumed before the first turn, it
-- shares with nothing when a turn begins, and what the body gives for it must be as fresh. A parameter that the body does not
-- consume shares with its first value and with what the body gives for it, over all turns: of that the names from outside the
-- loop, since a name that the loop binds stands for a value of one turn.
use Rattle.std.specs.Prelude.{ℕ, zero, suc, ◌+◌, Bool, true, false, ◌||◌, cond, nat_eq, List, [], ◌∷◌, ◌++◌, Option, None}
use Rattle.fut_ast.specs.Sorts.{Text}
use Rattle.fut_scalar.specs.declared.place.BindId.{BindId}
use Rattle.fut_flat.specs.declared.prim.Ref.{Ref}
use Rattle.fut_flat.specs.Terms.{Bound_pattern, Tuple_pattern, Record_pattern, Typed_pattern, Patterns, pattern_and, Tuple_of, Record_of, Strict, Terms, term_and}
use Rattle.fut_flat.specs.Numbers.{pattern_numbers, numbers}
use Rattle.fut_flat.specs.Erased.{FlatTerm, FlatPattern}
use Rattle.fut_types.specs.declared.Head.TheVariants as head
use Rattle.fut_typing.specs.Names.{Names}
use Rattle.fut_aliases.specs.Aliases.{Set, Naming, is_in, union, those, shared, is_outside}
use Rattle.fut_aliases.specs.Values.{Value, Parts, Values, value_and, components, named, part_named, with_part_named}
use Rattle.fut_aliases.specs.Steps.{Losses, Step, give, and_then, losses_now, consume, demand, some_alias, is_lost, lost}
use Rattle.fut_aliases.specs.declared.refusals.Broken.TheVariants.{ResultAliases}
use Rattle.fut_aliases.specs.declared.refusals.Broken.{Broken}
use Rattle.fut_aliases.specs.declared.refusals.Named.TheVariants.{ByAlias}
use Rattle.fut_aliases.specs.declared.refusals.Spot.TheVariants.{First}
use Rattle.fut_aliases.specs.Calls.{Here, Held, not_consumable, captured, settled, first_broken}

-- a component that a loop carries
pub record Carried : Type 0 where
  -- where its first value begins
  pub node : ℕ
  -- its own name, if it has one
  pub own : Set
  -- its first value's set
  pub first : Set
  -- the set of what the body gives for it, where each parameter stands for itself
  pub gives : Set
  -- whether condition or body consumes it
  pub is_eaten : Bool

-- ---- the own names of what a pattern binds, by component

module _ (naming : Naming) (N : Names) where
  unfoldable mutual
    -- of a value whose sets are all empty
    pub own_names : FlatPattern → ℕ → Value → Value
    own_names (Bound_pattern b) q v = named naming true q b 0 v
    own_names (Tuple_pattern ps) q (Parts h vs) = Parts h (all_own_names ps (1 + q) vs)
    own_names (Record_pattern fs ps) q v = fields_own_names fs ps (1 + q) v v
    own_names (Typed_pattern p e) q v = own_names p q v
    own_names p q v = v

    pub all_own_names : Patterns Ref BindId → ℕ → Values → Values
    all_own_names (pattern_and p ps) q (value_and v vs) = value_and (own_names p q v) (all_own_names ps (q + pattern_numbers p) vs)
    all_own_names ps q vs = vs

    -- of the parts of v, in what was made so far
    pub fields_own_names : List Text → Patterns Ref BindId → ℕ → Value → Value → Value
    fields_own_names (f ∷ fs) (pattern_and p ps) q v made = fields_own_names fs ps (q + pattern_numbers p) v (with_part_named N f (own_names p q (part_named N f v)) made)
    fields_own_names fs ps q v made = made

-- ---- where the parts of a written tuple or record begin, by component

abbrev pub each_at : ℕ → List Set → List ℕ
each_at n [] = []
each_at n (s ∷ ss) = n ∷ each_at n ss

abbrev pub Labelled : Type 0
Labelled = List (ℕ × List ℕ)

abbrev pub with_label : Names → Text → List ℕ → Labelled → Labelled
with_label N f ns rest = (N.label f, ns) ∷ rest

abbrev pub at_label : ℕ → Labelled → List ℕ
at_label l [] = []
at_label l (x ∷ xs) = cond (nat_eq l x.0) x.1 (at_label l xs)

abbrev pub in_order : List ℕ → Labelled → List ℕ
in_order [] xs = []
in_order (l ∷ ls) xs = at_label l xs ++ in_order ls xs

module _ (N : Names) where
  unfoldable mutual
    pub starts : FlatTerm → ℕ → Value → List ℕ
    starts (Strict Tuple_of mark ts) n (Parts h vs) = all_starts ts (1 + n) vs
    starts (Strict (Record_of fs) mark ts) n (Parts (head.Record r) vs) = in_order (N.shapes.fields r) (fields_start fs ts (1 + n) (Parts (head.Record r) vs))
    starts e n v = each_at n (components v)

    pub all_starts : Terms Ref BindId → ℕ → Values → List ℕ
    all_starts (term_and t ts) n (value_and v vs) = starts t n v ++ all_starts ts (n + numbers t) vs
    all_starts ts n vs = []

    pub fields_start : List Text → Terms Ref BindId → ℕ → Value → Labelled
    fields_start (f ∷ fs) (term_and t ts) n v = with_label N f (starts t n (part_named N f v)) (fields_start fs ts (n + numbers t) v)
    fields_start fs ts n v = []

-- ---- what a loop carries, from what its first look found

abbrev pub some_lost : Losses → Set → Bool
some_lost ls [] = false
some_lost ls (a ∷ s) = is_lost ls a || some_lost ls s

abbrev pub all_carried : Losses → List ℕ → List Set → List Set → List Set → List Carried
all_carried ls (n ∷ ns) (o ∷ os) (f ∷ fs) (g ∷ gs) = record { node = n; own = o; first = f; gives = g; is_eaten = some_lost ls o } ∷ all_carried ls ns os fs gs
all_carried ls ns os fs gs = []

-- The names from outside, over all turns: the least sets of which each has those of the first value, those that the body gives,
-- and the set of each parameter that the body gives. They are reached in as many rounds as there are components.
abbrev pub of_given : Set → List Carried → List Set → Set
of_given s (c ∷ cs) (x ∷ xs) = cond (some_in s c.own) (union x (of_given s cs xs)) (of_given s cs xs)
  where
    some_in : Set → Set → Bool
    some_in t [] = false
    some_in t (a ∷ as_well) = is_in a t || some_in t as_well
of_given s cs xs = []

abbrev pub round_of : ℕ → List Carried → List Set → Carried → Set
round_of from all xs c = cond c.is_eaten [] (union c.first (union (those (is_outside from) c.gives) (of_given c.gives all xs)))

abbrev pub one_round : ℕ → List Carried → List Set → List Carried → List Set
one_round from all xs [] = []
one_round from all xs (c ∷ cs) = round_of from all xs c ∷ one_round from all xs cs

abbrev pub no_sets : List Carried → List Set
no_sets [] = []
no_sets (c ∷ cs) = [] ∷ no_sets cs

abbrev pub rounds : ℕ → ℕ → List Carried → List Set → List Set
rounds zero from all xs = xs
rounds (suc k) from all xs = rounds k from all (one_round from all xs all)

abbrev pub how_many_carried : List Carried → ℕ
how_many_carried [] = 0
how_many_carried (c ∷ cs) = suc (how_many_carried cs)

-- at the start of a turn, beside its own names
abbrev pub over_all_turns : ℕ → List Carried → List Set
over_all_turns from cs = rounds (suc (how_many_carried cs)) from cs (no_sets cs)

-- ---- the first values

abbrev pub eaten_not_consumable : Here → Carried → Option Broken
eaten_not_consumable h c = cond c.is_eaten (not_consumable h (First c.node) c.first) None

abbrev pub eaten_captured : Here → Carried → Option Broken
eaten_captured h c = cond c.is_eaten (captured h (First c.node) c.first) None

abbrev pub firsts : List Carried → Set
firsts [] = []
firsts (c ∷ cs) = union c.first (firsts cs)

-- a first value that is consumed shares with another, or with what the loop goes over
abbrev pub shared_firsts : Set → List Carried → List Carried → Set
shared_firsts over before [] = []
shared_firsts over before (c ∷ cs) = union (cond c.is_eaten (shared c.first (union over (firsts (before ++ cs)))) []) (shared_firsts over (before ++ c ∷ []) cs)

abbrev pub consume_firsts : List Carried → Step (Unit {0})
consume_firsts [] = give tt
consume_firsts (c ∷ cs) = cond c.is_eaten (and_then (consume (First c.node) c.first) (λ z. consume_firsts cs)) (consume_firsts cs)

abbrev pub enter : Here → Held → Set → ℕ → List Carried → Step (Unit {0})
enter h first over body cs =
    and_then (demand h.asked (first_broken (eaten_not_consumable h) cs)) (λ z.
    and_then (demand h.asked (first_broken (eaten_captured h) cs)) (λ y.
    and_then (settled h (first ∷ [])) (λ x.
    and_then (demand h.asked (some_alias (λ n. ResultAliases n (First body)) (shared_firsts over [] cs))) (λ w. consume_firsts cs))))

-- ---- what the body gives

abbrev pub kept_names : List Carried → Set
kept_names [] = []
kept_names (c ∷ cs) = cond c.is_eaten (kept_names cs) (union c.own (kept_names cs))

abbrev pub all_sets : List Set → Set
all_sets [] = []
all_sets (s ∷ ss) = union s (all_sets ss)

-- what it gives for a parameter that it consumes shares with what is outside, with a parameter that it does not consume, or with
-- another component
abbrev pub shared_results : ℕ → Set → List Set → List Carried → List Set → Set
shared_results from kept before (c ∷ cs) (g ∷ gs) =
    union (cond c.is_eaten (union (those (λ a. is_outside from a || is_in a kept) g) (shared g (all_sets (before ++ gs)))) []) (shared_results from kept (before ++ g ∷ []) cs gs)
shared_results from kept before cs gs = []

-- and what it gives from outside was not consumed before the loop
abbrev pub given_loss : Losses → ℕ → ℕ → Carried → Option Broken
given_loss ls from body c = lost ls ByAlias (First body) (those (is_outside from) c.gives)

abbrev pub leave : Here → ℕ → ℕ → List Carried → List Set → Step (Unit {0})
leave h from body cs gs =
    and_then (demand h.asked (some_alias (λ n. ResultAliases n (First body)) (shared_results from (kept_names cs) [] cs gs))) (λ z.
    and_then losses_now (λ ls. demand h.asked (first_broken (given_loss ls from body) cs)))

-- the result: nothing where a parameter is consumed, else what it may have been in any turn
abbrev pub results : List Carried → List Set → List Set → List Set
results (c ∷ cs) (x ∷ xs) (g ∷ gs) = cond c.is_eaten [] (union x g) ∷ results cs xs gs
results cs xs gs = []
