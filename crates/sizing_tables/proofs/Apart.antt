-- Where the names of sizes have numbers of sizes and those of patterns have not, all names of a program are told apart.
use Rattle.std.proofs.Common.{◌≡◌, ℕ, ◌++◌, List, [], ◌∷◌, Bool, true, false, replicate, Option, Some, None}
use Rattle.fut_scalar.specs.declared.place.BindId.{BindId}
use Rattle.fut_flat.specs.declared.prim.Ref.{Ref}
use Rattle.fut_flat.specs.Terms.{Bound_pattern, Wild_pattern, Tuple_pattern, Record_pattern, Typed_pattern, Patterns, no_pattern, pattern_and, Parameter, Size_parameter, Type_parameter, Use, Strict, Lambda, Apply, Let, If, Loop, Terms, no_term, term_and, Counted, Over, While}
use Rattle.fut_flat.specs.Numbers.{own_numbers}
use Rattle.fut_flat.specs.Erased.{FlatPattern, FlatTerm, FlatTurns}
use Rattle.fut_typing.specs.Program.{Defined}
use Rattle.fut_meaning.specs.Found.{Sizing}
use Rattle.fut_meaning.specs.Uses.{All_sizes, Parameter_sizes}
use Rattle.elab_laws.specs.Used.{Sizes_bound, All_bound, Turns_bound}
use Rattle.type_soundness.specs.Formed.{Are_sizes, Heads_sized, Pattern_apart, Patterns_apart, Turns_apart, Apart, All_apart, In_turns_apart, Definitions_apart}
use Rattle.sizing_tables.specs.Bound.{unnamed, pattern_names, all_pattern_names, names_of, all_names, turn_names, program_names, bind_numbers, size_numbers, sizes_of, all_sizes, turn_sizes, program_sizes}

module _ (S : ℕ → Bool) where
  -- numbers of sizes; names that are none
  abbrev pub Each_size : List ℕ → Type 0
  Each_size [] = Unit {0}
  Each_size (k ∷ ks) = (S k ≡ true) × Each_size ks

  abbrev pub Each_other : List (Option ℕ) → Type 0
  Each_other [] = Unit {0}
  Each_other (None ∷ os) = Each_other os
  Each_other (Some b ∷ os) = (S b ≡ false) × Each_other os

  pub size_left : (xs ys : List ℕ) → Each_size (xs ++ ys) → Each_size xs
  size_left [] ys h = tt
  size_left (x ∷ xs) ys h = (h.0, size_left xs ys h.1)

  pub size_right : (xs ys : List ℕ) → Each_size (xs ++ ys) → Each_size ys
  size_right [] ys h = h
  size_right (x ∷ xs) ys h = size_right xs ys h.1

  left : (xs ys : List (Option ℕ)) → Each_other (xs ++ ys) → Each_other xs
  left [] ys h = tt
  left (None ∷ xs) ys h = left xs ys h
  left (Some b ∷ xs) ys h = (h.0, left xs ys h.1)

  right : (xs ys : List (Option ℕ)) → Each_other (xs ++ ys) → Each_other ys
  right [] ys h = h
  right (None ∷ xs) ys h = right xs ys h
  right (Some b ∷ xs) ys h = right xs ys h.1

  sizes_are : (bs : List BindId) → Each_size (bind_numbers bs) → Are_sizes S bs
  sizes_are [] h = tt
  sizes_are (b ∷ bs) h = (h.0, sizes_are bs h.1)

  heads_are : (ps : List (Parameter BindId)) → Each_size (size_numbers ps) → Heads_sized S ps
  unfolding size_numbers
  heads_are [] h = tt
  heads_are (Size_parameter b ∷ ps) h = (h.0, heads_are ps h.1)
  heads_are (Type_parameter b lifted ∷ ps) h = heads_are ps h

  mutual
    unfolding pattern_names

    pattern_apart : (p : FlatPattern) → Each_other (pattern_names p) → Pattern_apart S p
    pattern_apart (Bound_pattern b) h = h.0
    pattern_apart Wild_pattern h = tt
    pattern_apart (Tuple_pattern ps) h = patterns_apart ps h
    pattern_apart (Record_pattern fs ps) h = patterns_apart ps h
    pattern_apart (Typed_pattern p t) h = pattern_apart p h

    patterns_apart : (ps : Patterns Ref BindId) → Each_other (all_pattern_names ps) → Patterns_apart S ps
    patterns_apart no_pattern h = tt
    patterns_apart (pattern_and p ps) h = (pattern_apart p (left (pattern_names p) (all_pattern_names ps) h), patterns_apart ps (right (pattern_names p) (all_pattern_names ps) h))

  turns_apart : (t : FlatTurns) → Each_other (turn_names t) → Turns_apart S t
  unfolding names_of
  turns_apart (Counted i n) h = h.0
  turns_apart (Over p e) h = pattern_apart p (left (pattern_names p) (names_of e) h)
  turns_apart (While c) h = tt

  mutual
    unfolding sizes_of names_of

    apart : (t : FlatTerm) → Each_size (sizes_of t) → Each_other (names_of t) → Apart S t
    apart (Use r at k) s h = tt
    apart (Strict o mark ts) s h = all_apart ts s (right (replicate (own_numbers o) None) (all_names ts) h)
    apart (Lambda ps e) s h = let a = left (unnamed ++ all_pattern_names ps) (names_of e) h in (patterns_apart ps a, apart e s (right (unnamed ++ all_pattern_names ps) (names_of e) h))
    apart (Apply f e) s h = let a = left (unnamed ++ names_of f) (names_of e) h in (apart f (size_left (sizes_of f) (sizes_of e) s) a, apart e (size_right (sizes_of f) (sizes_of e) s) (right (unnamed ++ names_of f) (names_of e) h))
    apart (Let b v e) s h =
        let own = bind_numbers b.sizes ++ size_numbers b.parameters in
        let s1 = size_left (own ++ sizes_of v) (sizes_of e) s in
        let s0 = size_left own (sizes_of v) s1 in
        let h1 = left ((unnamed ++ pattern_names b.pattern) ++ names_of v) (names_of e) h in
        let h0 = left (unnamed ++ pattern_names b.pattern) (names_of v) h1 in (
          (sizes_are b.sizes (size_left (bind_numbers b.sizes) (size_numbers b.parameters) s0), heads_are b.parameters (size_right (bind_numbers b.sizes) (size_numbers b.parameters) s0), pattern_apart b.pattern h0),
          apart v (size_right own (sizes_of v) s1) (right (unnamed ++ pattern_names b.pattern) (names_of v) h1),
          apart e (size_right (own ++ sizes_of v) (sizes_of e) s) (right ((unnamed ++ pattern_names b.pattern) ++ names_of v) (names_of e) h),
        )
    apart (If c t e) s h =
        let s1 = size_left (sizes_of c ++ sizes_of t) (sizes_of e) s in
        let h1 = left ((unnamed ++ names_of c) ++ names_of t) (names_of e) h in (
          apart c (size_left (sizes_of c) (sizes_of t) s1) (left (unnamed ++ names_of c) (names_of t) h1),
          apart t (size_right (sizes_of c) (sizes_of t) s1) (right (unnamed ++ names_of c) (names_of t) h1),
          apart e (size_right (sizes_of c ++ sizes_of t) (sizes_of e) s) (right ((unnamed ++ names_of c) ++ names_of t) (names_of e) h),
        )
    apart (Loop mark sizes p first turns body) s h =
        let x1 = bind_numbers sizes ++ sizes_of first in
        let x2 = x1 ++ turn_sizes turns in
        let s2 = size_left x2 (sizes_of body) s in
        let s1 = size_left x1 (turn_sizes turns) s2 in
        let y0 = unnamed ++ pattern_names p in
        let y1 = y0 ++ names_of first in
        let y2 = y1 ++ turn_names turns in
        let h2 = left y2 (names_of body) h in
        let h1 = left y1 (turn_names turns) h2 in
        let ht = right y1 (turn_names turns) h2 in (
          (sizes_are sizes (size_left (bind_numbers sizes) (sizes_of first) s1), pattern_apart p (left y0 (names_of first) h1), turns_apart turns ht),
          apart first (size_right (bind_numbers sizes) (sizes_of first) s1) (right y0 (names_of first) h1),
          in_turns_apart turns (size_right x1 (turn_sizes turns) s2) ht,
          apart body (size_right x2 (sizes_of body) s) (right y2 (names_of body) h),
        )

    all_apart : (ts : Terms Ref BindId) → Each_size (all_sizes ts) → Each_other (all_names ts) → All_apart S ts
    all_apart no_term s h = tt
    all_apart (term_and t ts) s h = (apart t (size_left (sizes_of t) (all_sizes ts) s) (left (names_of t) (all_names ts) h), all_apart ts (size_right (sizes_of t) (all_sizes ts) s) (right (names_of t) (all_names ts) h))

    in_turns_apart : (t : FlatTurns) → Each_size (turn_sizes t) → Each_other (turn_names t) → In_turns_apart S t
    in_turns_apart (Counted i n) s h = apart n s h.1
    in_turns_apart (Over p e) s h = apart e s (right (pattern_names p) (names_of e) h)
    in_turns_apart (While c) s h = apart c s h

  pub definitions_apart : (ds : List Defined) → Each_size (program_sizes ds) → Each_other (program_names ds) → Definitions_apart S ds
  unfolding program_sizes program_names
  definitions_apart [] s h = tt
  definitions_apart (d ∷ ds) s h =
      let own = size_numbers d.parameters ++ sizes_of d.value in
      let s1 = size_left own (program_sizes ds) s in
      let h1 = left (pattern_names d.name ++ names_of d.value) (program_names ds) h in (
        (heads_are d.parameters (size_left (size_numbers d.parameters) (sizes_of d.value) s1), pattern_apart d.name (left (pattern_names d.name) (names_of d.value) h1)),
        apart d.value (size_right (size_numbers d.parameters) (sizes_of d.value) s1) (right (pattern_names d.name) (names_of d.value) h1),
        definitions_apart ds (size_right own (program_sizes ds) s) (right (pattern_names d.name ++ names_of d.value) (program_names ds) h),
      )

-- ---- each name of a size that is bound has the number of one

module _ (Z : Sizing) where
  bound_sizes : (bs : List BindId) → Each_size Z.is_size (bind_numbers bs) → All_sizes (Some Z) bs
  bound_sizes [] h = tt
  bound_sizes (b ∷ bs) h = (h.0, bound_sizes bs h.1)

  pub bound_parameters : (ps : List (Parameter BindId)) → Each_size Z.is_size (size_numbers ps) → Parameter_sizes (Some Z) ps
  unfolding size_numbers
  bound_parameters [] h = tt
  bound_parameters (Size_parameter b ∷ ps) h = (h.0, bound_parameters ps h.1)
  bound_parameters (Type_parameter b lifted ∷ ps) h = bound_parameters ps h

  mutual
    unfolding sizes_of

    pub bound : (t : FlatTerm) → Each_size Z.is_size (sizes_of t) → Sizes_bound (Some Z) t
    bound (Use r at k) s = tt
    bound (Strict o mark ts) s = all_bound ts s
    bound (Lambda ps e) s = bound e s
    bound (Apply f e) s = (bound f (size_left Z.is_size (sizes_of f) (sizes_of e) s), bound e (size_right Z.is_size (sizes_of f) (sizes_of e) s))
    bound (Let b v e) s =
        let own = bind_numbers b.sizes ++ size_numbers b.parameters in
        let s1 = size_left Z.is_size (own ++ sizes_of v) (sizes_of e) s in
        let s0 = size_left Z.is_size own (sizes_of v) s1 in (
          bound_sizes b.sizes (size_left Z.is_size (bind_numbers b.sizes) (size_numbers b.parameters) s0),
          bound_parameters b.parameters (size_right Z.is_size (bind_numbers b.sizes) (size_numbers b.parameters) s0),
          bound v (size_right Z.is_size own (sizes_of v) s1),
          bound e (size_right Z.is_size (own ++ sizes_of v) (sizes_of e) s),
        )
    bound (If c t e) s =
        let s1 = size_left Z.is_size (sizes_of c ++ sizes_of t) (sizes_of e) s in
        (bound c (size_left Z.is_size (sizes_of c) (sizes_of t) s1), bound t (size_right Z.is_size (sizes_of c) (sizes_of t) s1), bound e (size_right Z.is_size (sizes_of c ++ sizes_of t) (sizes_of e) s))
    bound (Loop mark sizes p first turns body) s =
        let x1 = bind_numbers sizes ++ sizes_of first in
        let x2 = x1 ++ turn_sizes turns in
        let s2 = size_left Z.is_size x2 (sizes_of body) s in
        let s1 = size_left Z.is_size x1 (turn_sizes turns) s2 in (
          bound_sizes sizes (size_left Z.is_size (bind_numbers sizes) (sizes_of first) s1),
          bound first (size_right Z.is_size (bind_numbers sizes) (sizes_of first) s1),
          turns_bound turns (size_right Z.is_size x1 (turn_sizes turns) s2),
          bound body (size_right Z.is_size x2 (sizes_of body) s),
        )

    all_bound : (ts : Terms Ref BindId) → Each_size Z.is_size (all_sizes ts) → All_bound (Some Z) ts
    all_bound no_term s = tt
    all_bound (term_and t ts) s = (bound t (size_left Z.is_size (sizes_of t) (all_sizes ts) s), all_bound ts (size_right Z.is_size (sizes_of t) (all_sizes ts) s))

    turns_bound : (t : FlatTurns) → Each_size Z.is_size (turn_sizes t) → Turns_bound (Some Z) t
    turns_bound (Counted i n) s = bound n s
    turns_bound (Over p e) s = bound e s
    turns_bound (While c) s = bound c s
