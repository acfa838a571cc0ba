-- The sizing of a term: by structure, in the order of evaluation, the sized type of each node or the first refusal (Futhark
-- Language Reference, "Size Types", "Causality restriction"). A term's numbers begin at lo.
use Rattle.std.specs.Prelude.{ℕ, zero, suc, ◌+◌, nat_eq, nat_lt, Bool, true, false, ◌||◌, cond, List, [], ◌∷◌, ◌++◌, map, Option, Some, None, Ok, Err}
use Rattle.fut_ast.specs.Sorts.{Text}
use Rattle.fut_scalar.specs.declared.place.BindId.{BindId}
use Rattle.fut_flat.specs.declared.prim.Ref.{Ref}
use Rattle.fut_flat.specs.declared.prim.Ref.TheVariants as ref
use Rattle.fut_flat.specs.Terms.{Bound_pattern, Tuple_pattern, Record_pattern, Typed_pattern, Patterns, no_pattern, pattern_and, Operation, Binary, Project, Binding, Use, Strict, Lambda, Apply, Let, If, Loop, Terms, no_term, term_and, Counted, Over, While}
use Rattle.fut_flat.specs.Numbers.{pattern_numbers, all_pattern_numbers, own_numbers, numbers, turn_numbers}
use Rattle.fut_flat.specs.Erased.{FlatTerm, FlatTurns, FlatPattern}
use Rattle.fut_types.specs.Types.{Sub}
use Rattle.fut_typing.specs.Names.{Names}
use Rattle.sized_types.specs.Sizes.{Name, Own, Unknown, Slot, Dim, At, Bound, Size, Hole, Open, Level, Built, Fun, Sizes, no_size, size_and, is_dim, levels, renamed, has}
use Rattle.fut_sizes.specs.Primitives.{prim_size, is_regular}
use Rattle.fut_sizes.specs.Agreeing.{Escapes, Answer, then_do, kept, no_size_of, is_among, names_one, leaving, of_type}
use Rattle.fut_sizes.specs.WrittenSizes.{part_of, coerced, same_dim, parameter_size}
use Rattle.fut_sizes.specs.Operations.{operation}
use Rattle.fut_sizes.specs.Matching.{Found, nothing_found, read, none_opened, inside, in_opened, data_way, function_way, meet}
use Rattle.fut_sizes.specs.Scopes.{Known, Scope, with_known, with_name, i64_size, used, names, as_taken, bound_at, bound_by}
use Rattle.fut_sizes.specs.Functions.{value_name, Taking, function_size, unchosen, size_names, is_slot, quantified, closed}
use Rattle.fut_sizes.specs.Compositions.{composition, composing, without_two}
use Rattle.fut_sizes.specs.Steps.{Step, give, ask, and_then, note, node_size, drop, dropped_by}
use Rattle.fut_sizes.specs.Applications.{Want, Met, Later, Argument, Early, Late, Part, Applied, Waiting, whole, named_value, is_use, all_settled, applied}

-- ---- parameters of functions

-- what has been entered, and what is left of the type that is wanted
pub record Entered : Type 0 where
  pub scope : Scope
  pub parameters : List Taking
  pub wanted : Option Size
  pub found : Found

abbrev pub has_open_slot : Dim → Bool
has_open_slot (At d) = is_slot d
has_open_slot (Bound j i) = false

unfoldable mutual
  pub is_open : Size → Bool
  is_open (Hole v) = false
  is_open (Open n v u) = true
  is_open (Level d t) = has_open_slot d || is_open t
  is_open (Built h ts) = some_open ts
  is_open (Fun k p r) = is_open p || is_open r

  pub some_open : Sizes → Bool
  some_open no_size = false
  some_open (size_and t ts) = is_open t || some_open ts

abbrev pub wanted_size : Option Want → Option Size
wanted_size (Some w) = Some w.size
wanted_size None = None

-- inside a lambda, the positions of the type that is wanted of it: the sizes that the caller chooses are own ones of the
-- parameter's node, and so are those that are met; the argument's value is its name, if it has one
abbrev pub value_of_parameter : ℕ → ℕ → Option ℕ → Dim
value_of_parameter q k (Some b) = At (Name b)
value_of_parameter q k None = At (Own q k)

abbrev pub parameter_frame : FlatPattern → ℕ → ℕ → ℕ → Dim
parameter_frame p q k i = cond (nat_eq i k) (value_of_parameter q k (value_name p)) (At (Own q i))

-- of a parameter whose wanted type is still open, they stay so
abbrev pub open_frame : FlatPattern → ℕ → ℕ → ℕ → Dim
open_frame p q k i = cond (nat_lt i k) (At (Slot i)) (parameter_frame p q k i)

-- the names of a parameter that are parts of its argument
abbrev pub part_names : FlatPattern → List ℕ
part_names (Bound_pattern b) = []
part_names (Typed_pattern p e) = part_names p
part_names p = names p

abbrev pub all_part_names : Patterns Ref BindId → List ℕ
all_part_names no_pattern = []
all_part_names (pattern_and p ps) = part_names p ++ all_part_names ps

-- the names of parts go out of scope with the function: no sized type of a parameter has one
abbrev pub leaving_function : ℕ → List ℕ → List Taking → Size → Answer Size
leaving_function n parts [] t = leaving n parts t
leaving_function n parts (p ∷ ps) t = cond (has (names_one parts) p.size) (Err (Escapes n)) (leaving_function n parts ps t)

abbrev pub bind_ids : List BindId → List ℕ
bind_ids = map (λ (b : BindId). b.0)

abbrev pub field_noted : Option Size → (Size → Step (Unit {0})) → Step (Unit {0})
field_noted (Some t) do_note = do_note t
field_noted None do_note = give tt

module _ (N : Names) (types : Sub) where
  -- a parameter has the sizes that are written, and where none is those that it comes with
  abbrev mutual
    pub in_pattern : FlatPattern → Size → Size
    in_pattern (Typed_pattern p e) t = in_pattern p (parameter_size N same_dim e t)
    in_pattern (Tuple_pattern ps) (Built h ts) = Built h (in_patterns ps ts)
    in_pattern p t = t

    pub in_patterns : Patterns Ref BindId → Sizes → Sizes
    in_patterns (pattern_and p ps) (size_and t ts) = size_and (in_pattern p t) (in_patterns ps ts)
    in_patterns ps ts = ts

  -- a parameter at a node, which comes with this sized type
  abbrev pub entered : FlatPattern → ℕ → Size → Option Size → Found → Entered → Answer Entered
  entered p q t rest σ E = then_do (bound_by N [] q p (in_pattern p t) E.scope)
      (λ k. Ok (record { scope = k.scope; parameters = E.parameters ++ record { pattern = p; node = q; size = in_pattern p t } ∷ []; wanted = rest; found = σ }))

  -- what the lambda at lo is wanted for says the sizes of a parameter, with which those that are written have to agree; where it
  -- does not, the parameter has sizes of its own
  abbrev pub enter_wanted : ℕ → FlatPattern → ℕ → Size → Size → Entered → Answer Entered
  enter_wanted lo p q t r E = then_do (meet lo data_way lo none_opened (in_pattern p t) none_opened t E.found) (λ found. entered p q t (Some r) found E)

  abbrev pub own_sizes : ℕ → Size
  own_sizes q = of_type (λ i. At (Own q i)) 0 (types q)

  abbrev pub enter : ℕ → FlatPattern → ℕ → Option Size → Entered → Answer Entered
  enter lo p q (Some (Fun k t r)) E = cond (is_open t)
      (entered p q (own_sizes q) (Some (in_opened (inside (open_frame p q k) none_opened) r)) E.found E)
      (enter_wanted lo p q (in_opened (inside (parameter_frame p q k) none_opened) t) (in_opened (inside (parameter_frame p q k) none_opened) r) E)
  enter lo p q w E = entered p q (own_sizes q) None E.found E

  abbrev pub all_entered : ℕ → Patterns Ref BindId → ℕ → Entered → Answer Entered
  all_entered lo no_pattern q E = Ok E
  all_entered lo (pattern_and p ps) q E = then_do (enter lo p q E.wanted E) (λ next. all_entered lo ps (q + pattern_numbers p) next)

  abbrev pub none_left : ℕ → List ℕ → Answer (Unit {0})
  none_left at [] = Ok tt
  none_left at (b ∷ bs) = Err (Escapes at)

  -- a lambda of this sized type is matched with what is wanted of it
  unfoldable pub matched : ℕ → Option Want → Size → Found → Answer Met
  matched lo (Some w) own σ = then_do (meet w.node (function_way w.is_regular) lo none_opened w.size none_opened own σ) (λ found. Ok (record { size = own; found = found; later = []; goes_on = true }))
  matched lo None own σ = Ok (record { size = own; found = σ; later = []; goes_on = true })

  -- ---- loops

  -- the levels of a sized type from i on that are among those dropped are the loop's own unknowns
  abbrev pub lacking_dim : ℕ → List ℕ → ℕ → Dim → Dim
  lacking_dim n ds i d = cond (is_among ds i) (At (Unknown n i)) d

  unfoldable mutual
    pub lacking : ℕ → List ℕ → ℕ → Size → Size
    lacking n ds i (Level d t) = Level (lacking_dim n ds i d) (lacking n ds (suc i) t)
    lacking n ds i (Built h ts) = Built h (all_lacking n ds i ts)
    lacking n ds i t = t

    pub all_lacking : ℕ → List ℕ → ℕ → Sizes → Sizes
    all_lacking n ds i no_size = no_size
    all_lacking n ds i (size_and t ts) = size_and (lacking n ds i t) (all_lacking n ds (levels t + i) ts)

  -- the levels kept so far in which what a turn gives differs
  abbrev pub differing_level : List ℕ → ℕ → Dim → Dim → List ℕ → List ℕ
  differing_level ds i d e rest = cond (is_among ds i || is_dim d e) rest (i ∷ rest)

  unfoldable mutual
    pub differing : List ℕ → ℕ → Size → Size → List ℕ
    differing ds i (Level d t) (Level e u) = differing_level ds i d e (differing ds (suc i) t u)
    differing ds i (Built h ts) (Built g us) = all_differing ds i ts us
    differing ds i t u = []

    pub all_differing : List ℕ → ℕ → Sizes → Sizes → List ℕ
    all_differing ds i (size_and t ts) (size_and u us) = differing ds i t u ++ all_differing ds (levels t + i) ts us
    all_differing ds i ts us = []

  -- a turn keeps all that were kept, or those that differ are dropped and there is another; a loop inside another goes on from
  -- what it kept. There are at most as many turns as levels and one.
  abbrev pub another : ℕ → List ℕ → Size → Step Size → Step Size
  another n [] t again = give t
  another n (i ∷ is) t again = and_then (drop n (i ∷ is)) (λ z. again)

  unfoldable pub turns_from : ℕ → ℕ → Size → (Size → Step Size) → Step Size
  turns_from zero n t turn = and_then (dropped_by n) (λ ds. give (lacking n ds 0 t))
  turns_from (suc left) n t turn = and_then (dropped_by n) (λ ds. and_then (turn (lacking n ds 0 t)) (λ u. another n (differing ds 0 (lacking n ds 0 t) u) (lacking n ds 0 t) (turns_from left n t turn)))

  abbrev pub row_of : Size → Size
  row_of (Level d t) = t
  row_of t = t

  -- ---- terms

  -- what a use of a name gives at a node
  abbrev pub use_known : ℕ → Option Known → Size
  use_known lo (Some k) = cond k.is_general (used lo (types lo) k.size) k.size
  use_known lo None = of_type (no_size_of lo) 0 (types lo)

  abbrev pub use_of : ℕ → Scope → Ref → Part
  use_of lo scope (ref.Bound b) = whole (use_known lo (scope b.0))
  use_of lo scope (ref.Prim p) = Applied (used lo (types lo) (prim_size p)) (is_regular p) []
  use_of lo scope (ref.Scalar s) = whole (of_type (no_size_of lo) 0 (types lo))

  -- the nodes of a pattern, which takes this

  unfoldable mutual
    pub pattern_noted : FlatPattern → ℕ → Size → Step (Unit {0})
    pattern_noted (Typed_pattern p e) q t = pattern_noted p q (coerced N e t)
    pattern_noted (Tuple_pattern ps) q (Built h ts) = and_then (note q (Built h ts)) (λ z. patterns_noted ps (1 + q) ts)
    pattern_noted (Record_pattern fs ps) q t = and_then (note q t) (λ z. fields_noted fs ps (1 + q) t)
    pattern_noted p q t = and_then (note q t) (λ z. give tt)

    pub patterns_noted : Patterns Ref BindId → ℕ → Sizes → Step (Unit {0})
    patterns_noted (pattern_and p ps) q (size_and t ts) = and_then (pattern_noted p q t) (λ z. patterns_noted ps (q + pattern_numbers p) ts)
    patterns_noted ps q ts = give tt

    pub fields_noted : List Text → Patterns Ref BindId → ℕ → Size → Step (Unit {0})
    fields_noted (f ∷ fs) (pattern_and p ps) q t = and_then (field_noted (part_of N f t) (pattern_noted p q)) (λ z. fields_noted fs ps (q + pattern_numbers p) t)
    fields_noted fs ps q t = give tt

  abbrev pub parameters_noted : List Taking → Step (Unit {0})
  parameters_noted [] = give tt
  parameters_noted (p ∷ ps) = and_then (pattern_noted p.pattern p.node p.size) (λ z. parameters_noted ps)

  -- the sized types of nodes within an application, once all is matched
  abbrev pub all_noted : List Later → Found → Step (Unit {0})
  all_noted [] σ = give tt
  all_noted (l ∷ ls) σ = and_then (note l.node (quantified (all_settled l.size σ).maker (read (all_settled l.size σ) l.size))) (λ z. all_noted ls (all_settled l.size σ))

  abbrev pub met_noted : ℕ → Met → Step Size
  met_noted n m = and_then (all_noted m.later (all_settled m.size m.found)) (λ z. note n (closed m.goes_on (all_settled m.size m.found).maker (read (all_settled m.size m.found) m.size)))

  -- a part at a node by itself: its function is applied to the arguments so far
  abbrev pub finished : ℕ → Part → Step Size
  finished lo (Applied t regular arguments) = and_then (applied lo regular arguments [] none_opened true t [] nothing_found) (λ m. met_noted lo m)
  finished lo (Waiting f) = and_then (f None nothing_found) (λ m. note lo m.size)

  -- as an argument: a name that is not applied stays open, and a lambda waits
  abbrev pub as_argument : ℕ → FlatTerm → Part → Step Argument
  as_argument lo e (Applied t regular []) = and_then (cond (is_use e) (give t) (note lo t)) (λ u. give (Early lo (named_value e) (is_use e) u))
  as_argument lo e (Applied t regular (a ∷ rest)) = and_then (finished lo (Applied t regular (a ∷ rest))) (λ u. give (Early lo None false u))
  as_argument lo e (Waiting f) = give (Late lo f)

  abbrev pub with_argument : Part → Argument → Step Part
  with_argument (Applied t regular before) a = give (Applied t regular (before ++ a ∷ []))
  with_argument (Waiting f) a = and_then (f None nothing_found) (λ m. give (Applied m.size false (a ∷ [])))

  -- the size names of a head are chosen by parameters
  abbrev pub has_parameters : List ℕ → FlatTerm → ℕ → Answer (Unit {0})
  has_parameters bs (Lambda ps e) lo = Ok tt
  has_parameters bs e lo = none_left lo bs

  abbrev pub with_head : List ℕ → Scope → Scope
  with_head [] scope = scope
  with_head (b ∷ bs) scope = with_head bs (with_name b i64_size scope)

  -- what a let binds: a function's name is general, any other pattern takes the value
  abbrev pub with_general : FlatPattern → Size → Scope → Scope
  with_general (Bound_pattern b) t scope = with_known b.0 (record { size = t; is_general = true }) scope
  with_general p t scope = scope

  abbrev pub let_scope : Binding Ref BindId → ℕ → Size → Scope → Answer Scope
  let_scope b at t scope = cond b.is_function (Ok (with_general b.pattern t scope)) (then_do (bound_by N b.sizes at b.pattern t scope) (λ k. Ok k.scope))

  -- the second node of a binary operator has the sized type of its first operand, that of a field access the one of its record
  abbrev pub second_noted : Operation Ref BindId → ℕ → Sizes → Step (Unit {0})
  second_noted (Binary op) lo (size_and t ts) = and_then (note (1 + lo) t) (λ z. give tt)
  second_noted (Project f) lo (size_and t ts) = and_then (note (1 + lo) t) (λ z. give tt)
  second_noted o lo ts = give tt

  -- ---- compositions

  abbrev pub composed_or : Option Bool → (Bool → Step Part) → Step Part → Step Part
  composed_or (Some left_first) composed other = composed left_first
  composed_or None composed other = other

  abbrev pub right_numbers : FlatTerm → ℕ
  right_numbers (Let c w e) = numbers w
  right_numbers e = 0

  abbrev pub plain_size : ℕ → Size
  plain_size lo = of_type (no_size_of lo) 0 (types lo)

  -- what the composition of two functions is, whose lambda is at a node; its parameter is at the next, then come the outer
  -- application, the name of a function and the inner application
  abbrev pub composition_met : ℕ → Bool → Argument → Argument → ℕ → Step Size
  composition_met lo left_first f g at = and_then (applied lo false (f ∷ g ∷ []) [] none_opened true (composing left_first lo (types (1 + at)) (types (4 + at)) (types (2 + at))) [] nothing_found)
      (λ m. met_noted lo (record { size = m.size; found = m.found; later = without_two m.later; goes_on = m.goes_on }))

  abbrev pub with_pattern_name : FlatPattern → Size → Scope → Scope
  with_pattern_name (Bound_pattern b) t scope = with_name b.0 t scope
  with_pattern_name p t scope = scope

  abbrev pub wanted_as : ℕ → Size → Part → Step Size
  wanted_as n t (Waiting f) = and_then (f (Some (record { node = n; is_regular = false; size = t })) nothing_found) (λ m. give m.size)
  wanted_as n t (Applied u regular arguments) = give t

  unfoldable mutual
    -- bs are the size names of the head that a function's parameters are to choose
    pub sized : FlatTerm → List ℕ → ℕ → Scope → Step Part
    sized (Use r at k) bs lo scope = give (use_of lo scope r)
    sized (Strict o mark ts) bs lo scope = and_then (all_sized ts (lo + own_numbers o) scope)
        (λ us. and_then (ask (operation N types o lo (lo + own_numbers o) ts us)) (λ t. and_then (second_noted o lo us) (λ z. give (whole t))))
    sized (Lambda ps e) bs lo scope = give (Waiting (λ w σ.
        and_then (ask (all_entered lo ps (1 + lo) (record { scope = scope; parameters = []; wanted = wanted_size w; found = σ }))) (λ E.
        and_then (ask (none_left (1 + lo + all_pattern_numbers ps) (unchosen bs E.parameters))) (λ z.
        and_then (parameters_noted E.parameters) (λ y.
        and_then (sized e [] (1 + lo + all_pattern_numbers ps) E.scope) (λ part.
        and_then (finished (1 + lo + all_pattern_numbers ps) part) (λ body.
        and_then (ask (leaving_function lo (all_part_names ps) E.parameters body)) (λ r.
        and_then (note lo (function_size bs lo (1 + lo + all_pattern_numbers ps + numbers e) E.parameters r)) (λ own. ask (matched lo w own E.found))))))))))
    sized (Apply f e) bs lo scope = and_then (sized f [] (1 + lo) scope) (λ part.
        and_then (sized e [] (1 + lo + numbers f) scope) (λ given.
        and_then (as_argument (1 + lo + numbers f) e given) (λ a. with_argument part a)))
    sized (Let b v e) bs lo scope = composed_or (composition b e) (λ left_first.
        and_then (sized v [] (2 + lo) scope) (λ first. and_then (as_argument (2 + lo) v first) (λ f.
        and_then (right_sized e (2 + lo + numbers v) scope) (λ g.
        and_then (composition_met lo left_first f g (4 + lo + numbers v + right_numbers e)) (λ t.
        and_then (node_size (2 + lo)) (λ left. and_then (pattern_noted b.pattern (1 + lo) left) (λ z.
        and_then (inner_sized e (2 + lo + numbers v) t (with_pattern_name b.pattern left scope)) (λ u. give (whole u)))))))))
        (and_then (ask (has_parameters (size_names b.parameters) v (1 + lo + pattern_numbers b.pattern))) (λ z.
        and_then (sized v (size_names b.parameters) (1 + lo + pattern_numbers b.pattern) (with_head (size_names b.parameters) scope)) (λ value.
        and_then (finished (1 + lo + pattern_numbers b.pattern) value) (λ t.
        and_then (ask (let_scope b (1 + lo + pattern_numbers b.pattern) t scope)) (λ inner.
        and_then (pattern_noted b.pattern (1 + lo) t) (λ y.
        and_then (sized e [] (1 + lo + pattern_numbers b.pattern + numbers v) inner) (λ part.
        and_then (finished (1 + lo + pattern_numbers b.pattern + numbers v) part) (λ u.
        and_then (ask (leaving lo (names b.pattern ++ bind_ids b.sizes) u)) (λ r. give (whole r))))))))))
    sized (If c t e) bs lo scope =
        and_then (sized c [] (1 + lo) scope) (λ first. and_then (finished (1 + lo) first) (λ z.
        and_then (sized t [] (1 + lo + numbers c) scope) (λ second. and_then (finished (1 + lo + numbers c) second) (λ u.
        and_then (sized e [] (1 + lo + numbers c + numbers t) scope) (λ third. and_then (finished (1 + lo + numbers c + numbers t) third) (λ x.
        give (whole (kept lo 0 u x))))))))
    -- a size name that no level of the pattern has is refused at the body
    sized (Loop mark sizes p first turns body) bs lo scope =
        and_then (sized first [] (1 + lo + pattern_numbers p) scope) (λ part.
        and_then (finished (1 + lo + pattern_numbers p) part) (λ t.
        and_then (turns_sized turns (1 + lo + pattern_numbers p + numbers first) scope) (λ each.
        and_then (turns_from (suc (levels t)) lo t (λ carried.
        and_then (ask (bound_at N sizes (1 + lo + pattern_numbers p + numbers first + turn_numbers turns) (1 + lo + pattern_numbers p) p carried scope)) (λ k.
        and_then (pattern_noted p (1 + lo) carried) (λ y.
        and_then (ask (each k.scope)) (λ inner.
        and_then (condition_sized turns (1 + lo + pattern_numbers p + numbers first) inner) (λ z.
        and_then (sized body [] (1 + lo + pattern_numbers p + numbers first + turn_numbers turns) inner) (λ given.
        and_then (finished (1 + lo + pattern_numbers p + numbers first + turn_numbers turns) given) (λ u.
        give (renamed (as_taken sizes k.found) u))))))))) (λ r. give (whole r)))))

    -- of a composition: the right function, and the lambda, of which this is wanted
    pub right_sized : FlatTerm → ℕ → Scope → Step Argument
    right_sized (Let c w e) lo scope = and_then (sized w [] (2 + lo) scope) (λ part. as_argument (2 + lo) w part)
    right_sized e lo scope = give (Early lo None false (plain_size lo))

    pub inner_sized : FlatTerm → ℕ → Size → Scope → Step Size
    inner_sized (Let c w e) lo t scope = and_then (node_size (2 + lo)) (λ right. and_then (pattern_noted c.pattern (1 + lo) right) (λ z.
        and_then (sized e [] (2 + lo + numbers w) (with_pattern_name c.pattern right scope)) (λ part. and_then (wanted_as (2 + lo + numbers w) t part) (λ u. note lo u))))
    inner_sized e lo t scope = give t

    pub all_sized : Terms Ref BindId → ℕ → Scope → Step Sizes
    all_sized no_term lo scope = give no_size
    all_sized (term_and t ts) lo scope = and_then (sized t [] lo scope) (λ part. and_then (finished lo part) (λ u. and_then (all_sized ts (lo + numbers t) scope) (λ us. give (size_and u us))))

    -- what is counted or gone over is sized once; it says what each turn's names are
    pub turns_sized : FlatTurns → ℕ → Scope → Step (Scope → Answer Scope)
    turns_sized (Counted i m) lo scope = and_then (sized m [] (1 + lo) scope) (λ part. and_then (finished (1 + lo) part) (λ t. and_then (note lo t) (λ z. give (λ inner. Ok (with_name i.0 t inner)))))
    turns_sized (Over p e) lo scope = and_then (sized e [] (lo + pattern_numbers p) scope) (λ part. and_then (finished (lo + pattern_numbers p) part) (λ t. and_then (pattern_noted p lo (row_of t)) (λ z. give (λ inner. then_do (bound_by N [] (lo + pattern_numbers p) p (row_of t) inner) (λ k. Ok k.scope)))))
    turns_sized (While c) lo scope = give (λ inner. Ok inner)

    -- a condition sees what the loop carries
    pub condition_sized : FlatTurns → ℕ → Scope → Step (Unit {0})
    condition_sized (While c) lo inner = and_then (sized c [] lo inner) (λ part. and_then (finished lo part) (λ z. give tt))
    condition_sized turns lo inner = give tt
