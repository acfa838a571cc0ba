-- Names of patterns and of sizes are bound once, where each number is.
use Rattle.std.proofs.Common.{◌≡◌, ℕ, zero, suc, ◌+◌, ◌≤◌, List, [], ◌∷◌, ◌++◌, replicate, Option, Some, None, refl, ap, ◌∙◌, arith, flat_map}
use Rattle.fut_scalar.specs.declared.place.BindId.{BindId}
use Rattle.fut_flat.specs.declared.prim.Ref.{Ref}
use Rattle.fut_flat.specs.Terms.{Bound_pattern, Wild_pattern, Tuple_pattern, Record_pattern, Typed_pattern, Patterns, no_pattern, pattern_and, Parameter, Size_parameter, Type_parameter, Use, Strict, Lambda, Apply, Let, If, Loop, Terms, no_term, term_and, Counted, Over, While}
use Rattle.fut_flat.specs.Numbers.{own_numbers}
use Rattle.fut_flat.specs.Erased.{FlatPattern, FlatTerm, FlatTurns}
use Rattle.fut_typing.specs.Program.{Defined}
use Rattle.elab_laws.specs.Binders.{binders, type_binders, pattern_binders, all_pattern_binders, parameter_binders, operation_binders, term_binders, all_term_binders, turns_binders, definition_binders}
use Rattle.elab_laws.proofs.Times.{times, times-append}
use Rattle.sizing_tables.specs.Bound.{named, unnamed, pattern_names, all_pattern_names, names_of, all_names, turn_names, program_names, bind_numbers, size_numbers, sizes_of, all_sizes, turn_sizes, program_sizes}

-- the names that nodes bind
unfoldable pub bound_in : List (Option ℕ) → List ℕ
bound_in [] = []
bound_in (None ∷ os) = bound_in os
bound_in (Some b ∷ os) = b ∷ bound_in os

bound_append : (xs ys : List (Option ℕ)) → bound_in (xs ++ ys) ≡ bound_in xs ++ bound_in ys
unfolding bound_in
bound_append [] ys = refl
bound_append (None ∷ xs) ys = bound_append xs ys
bound_append (Some b ∷ xs) ys = ap (λ l. b ∷ l) (bound_append xs ys)

none_bound : (k : ℕ) → bound_in (replicate k None) ≡ []
unfolding bound_in
none_bound zero = refl
none_bound (suc k) = none_bound k

-- how often a number is the name that a node binds
module _ (n : ℕ) where
  abbrev pub bound_times : List (Option ℕ) → ℕ
  bound_times os = times n (bound_in os)

  pub bound_times_append : (xs ys : List (Option ℕ)) → bound_times (xs ++ ys) ≡ bound_times xs + bound_times ys
  bound_times_append xs ys = ap (times n) (bound_append xs ys) ∙ times-append n (bound_in xs) (bound_in ys)

  none_times : (k : ℕ) → bound_times (replicate k None) ≡ 0
  none_times k = ap (times n) (none_bound k)

  -- behind a node that binds nothing
  unnamed_times : (os : List (Option ℕ)) → bound_times (unnamed ++ os) ≡ bound_times os
  unfolding bound_in
  unnamed_times os = refl

  named_times : (b : BindId) (os : List (Option ℕ)) → bound_times (named b ++ os) ≡ times n (b.0 ∷ []) + bound_times os
  unfolding bound_in
  named_times b os = times-append n (b.0 ∷ []) (bound_in os)

  -- ---- patterns

  mutual
    unfolding pattern_names bound_in

    pattern_once : (p : FlatPattern) → bound_times (pattern_names p) ≤ times n (pattern_binders p)
    pattern_once (Bound_pattern b) = omega arith
    pattern_once Wild_pattern = omega arith
    pattern_once (Tuple_pattern ps) = patterns_once ps
    pattern_once (Record_pattern fs ps) = patterns_once ps
    pattern_once (Typed_pattern p t) = omega (arith, pattern_once p, times-append n (pattern_binders p) (type_binders t))

    patterns_once : (ps : Patterns Ref BindId) → bound_times (all_pattern_names ps) ≤ times n (all_pattern_binders ps)
    patterns_once no_pattern = omega arith
    patterns_once (pattern_and p ps) = omega (arith, pattern_once p, patterns_once ps, bound_times_append (pattern_names p) (all_pattern_names ps), times-append n (pattern_binders p) (all_pattern_binders ps))

  -- ---- sizes among parameters

  parameters_once : (ps : List (Parameter BindId)) → times n (size_numbers ps) ≤ times n (parameter_binders ps)
  unfolding size_numbers
  parameters_once [] = omega arith
  parameters_once (Size_parameter b ∷ ps) = omega (arith, parameters_once ps, times-append n (b.0 ∷ []) (size_numbers ps), times-append n (b.0 ∷ []) (parameter_binders ps))
  parameters_once (Type_parameter b lifted ∷ ps) = omega (arith, parameters_once ps, times-append n (b.0 ∷ []) (parameter_binders ps))

  -- ---- terms

  mutual
    unfolding names_of sizes_of bound_in

    term_once : (t : FlatTerm) → bound_times (names_of t) + times n (sizes_of t) ≤ times n (term_binders t)
    term_once (Use r at k) = omega (arith, none_times (1 + (k + k)))
    term_once (Strict o mark ts) = omega (arith, bound_times_append (replicate (own_numbers o) None) (all_names ts), none_times (own_numbers o), all_once ts, times-append n (operation_binders o) (all_term_binders ts))
    term_once (Lambda ps e) = omega (arith, bound_times_append (unnamed ++ all_pattern_names ps) (names_of e), unnamed_times (all_pattern_names ps), patterns_once ps, term_once e, times-append n (all_pattern_binders ps) (term_binders e))
    term_once (Apply f e) = omega (arith, bound_times_append (unnamed ++ names_of f) (names_of e), unnamed_times (names_of f), term_once f, term_once e, times-append n (sizes_of f) (sizes_of e), times-append n (term_binders f) (term_binders e))
    term_once (Let b v e) = omega (
      arith,
      bound_times_append ((unnamed ++ pattern_names b.pattern) ++ names_of v) (names_of e),
      bound_times_append (unnamed ++ pattern_names b.pattern) (names_of v),
      unnamed_times (pattern_names b.pattern),
      times-append n ((bind_numbers b.sizes ++ size_numbers b.parameters) ++ sizes_of v) (sizes_of e),
      times-append n (bind_numbers b.sizes ++ size_numbers b.parameters) (sizes_of v),
      times-append n (bind_numbers b.sizes) (size_numbers b.parameters),
      times-append n (binders b.sizes) (pattern_binders b.pattern ++ (parameter_binders b.parameters ++ (term_binders v ++ term_binders e))),
      times-append n (pattern_binders b.pattern) (parameter_binders b.parameters ++ (term_binders v ++ term_binders e)),
      times-append n (parameter_binders b.parameters) (term_binders v ++ term_binders e),
      times-append n (term_binders v) (term_binders e),
      pattern_once b.pattern,
      parameters_once b.parameters,
      term_once v,
      term_once e,
    )
    term_once (If c t e) = omega (
      arith,
      bound_times_append ((unnamed ++ names_of c) ++ names_of t) (names_of e),
      bound_times_append (unnamed ++ names_of c) (names_of t),
      unnamed_times (names_of c),
      times-append n (sizes_of c ++ sizes_of t) (sizes_of e),
      times-append n (sizes_of c) (sizes_of t),
      times-append n (term_binders c) (term_binders t ++ term_binders e),
      times-append n (term_binders t) (term_binders e),
      term_once c,
      term_once t,
      term_once e,
    )
    term_once (Loop mark sizes p first turns body) = omega (
      arith,
      bound_times_append (((unnamed ++ pattern_names p) ++ names_of first) ++ turn_names turns) (names_of body),
      bound_times_append ((unnamed ++ pattern_names p) ++ names_of first) (turn_names turns),
      bound_times_append (unnamed ++ pattern_names p) (names_of first),
      unnamed_times (pattern_names p),
      times-append n ((bind_numbers sizes ++ sizes_of first) ++ turn_sizes turns) (sizes_of body),
      times-append n (bind_numbers sizes ++ sizes_of first) (turn_sizes turns),
      times-append n (bind_numbers sizes) (sizes_of first),
      times-append n (binders sizes) (pattern_binders p ++ (term_binders first ++ (turns_binders turns ++ term_binders body))),
      times-append n (pattern_binders p) (term_binders first ++ (turns_binders turns ++ term_binders body)),
      times-append n (term_binders first) (turns_binders turns ++ term_binders body),
      times-append n (turns_binders turns) (term_binders body),
      pattern_once p,
      term_once first,
      turns_once turns,
      term_once body,
    )

    all_once : (ts : Terms Ref BindId) → bound_times (all_names ts) + times n (all_sizes ts) ≤ times n (all_term_binders ts)
    all_once no_term = omega arith
    all_once (term_and t ts) = omega (arith, bound_times_append (names_of t) (all_names ts), times-append n (sizes_of t) (all_sizes ts), times-append n (term_binders t) (all_term_binders ts), term_once t, all_once ts)

    turns_once : (t : FlatTurns) → bound_times (turn_names t) + times n (turn_sizes t) ≤ times n (turns_binders t)
    turns_once (Counted i m) = omega (arith, named_times i (names_of m), times-append n (i.0 ∷ []) (term_binders m), term_once m)
    turns_once (Over p e) = omega (arith, bound_times_append (pattern_names p) (names_of e), times-append n (pattern_binders p) (term_binders e), pattern_once p, term_once e)
    turns_once (While c) = term_once c

  -- ---- programs

  pub program_once : (ds : List Defined) → bound_times (program_names ds) + times n (program_sizes ds) ≤ times n (flat_map definition_binders ds)
  unfolding program_names program_sizes bound_in
  program_once [] = omega arith
  program_once (d ∷ ds) = omega (
    arith,
    bound_times_append (pattern_names d.name ++ names_of d.value) (program_names ds),
    bound_times_append (pattern_names d.name) (names_of d.value),
    times-append n (size_numbers d.parameters ++ sizes_of d.value) (program_sizes ds),
    times-append n (size_numbers d.parameters) (sizes_of d.value),
    times-append n (definition_binders d) (flat_map definition_binders ds),
    times-append n (pattern_binders d.name) (parameter_binders d.parameters ++ term_binders d.value),
    times-append n (parameter_binders d.parameters) (term_binders d.value),
    pattern_once d.name,
    parameters_once d.parameters,
    term_once d.value,
    program_once ds,
  )
