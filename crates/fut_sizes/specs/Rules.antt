-- What a sizing is: each node of a term has a sized type, and meets one rule a form (Futhark Language Reference, "Size Types").
-- A term's numbers begin at lo, and end before hi. Each name has a home, the number of the node that binds it.
use Rattle.std.specs.Prelude.{◌≡◌, ◌⊎◌, ℕ, ◌+◌, ◌^◌, ◌<◌, ◌≤◌, Bool, true, false, cond, List, [], ◌∷◌, ◌++◌, Option, Some, None, Ok}
use Rattle.fut_ast.specs.Sorts.{Text}
use Rattle.fut_scalar.specs.declared.place.BindId.{BindId}
use Rattle.fut_flat.specs.declared.prim.Ref.{Ref}
use Rattle.fut_flat.specs.declared.prim.Ref.TheVariants as ref
use Rattle.fut_flat.specs.Numbers.{pattern_numbers, all_pattern_numbers, own_numbers, numbers, all_numbers, turn_numbers}
use Rattle.fut_flat.specs.Terms.{Size_term, Size_use, Array_type, Unique_type, Tuple_type, Record_type, Type_terms, no_type, type_and, Operation, Coerce, Bound_pattern, Wild_pattern, Tuple_pattern, Record_pattern, Typed_pattern, Patterns, no_pattern, pattern_and, Binding, Integer, Use, Strict, Lambda, Apply, Let, If, Loop, Terms, no_term, term_and, Counted, Over, While}
use Rattle.fut_flat.specs.Erased.{FlatTerm, FlatType, FlatTurns, FlatPattern}
use Rattle.fut_types.specs.declared.Head.TheVariants as head
use Rattle.fut_types.specs.Types.{Sub}
use Rattle.fut_typing.specs.Names.{Names}
use Rattle.sized_types.specs.Sizes.{Free, Const, Name, Own, Unknown, Slot, Variable, Size, Hole, Open, Level, Built, Fun, Sizes, no_size, size_and, erased, opened, renamed, has, takes}
use Rattle.fut_sizes.specs.Primitives.{prim_size}
use Rattle.fut_sizes.specs.Agreeing.{kept, leave, is_among, names_one}
use Rattle.fut_sizes.specs.WrittenSizes.{part_of}
use Rattle.fut_sizes.specs.Operations.{operation}
use Rattle.fut_sizes.specs.Scopes.{i64_size, names}
use Rattle.fut_sizes.specs.Functions.{value_name}
use Rattle.fut_sizes.specs.Sizing.{lacking, differing, all_part_names, bind_ids, row_of}
use Rattle.fut_sizes.specs.Suiting.{Each, Scoped, Of_positions, Data, Never_at, Instance, Suits}
use Rattle.sized_types.specs.Standing.{stands, has_hole}
use Rattle.fut_sizes.specs.Scoping.{Context, with_name, with_scheme, with_entered, with_positions, with_size_names, with_pattern}

abbrev pub Any_free : Free → Type 0
Any_free d = Unit {0}

-- ---- type variables

-- all variables have the property
unfoldable mutual
  pub Each_hole : (Variable → Type 0) → Size → Type 0
  Each_hole ok (Hole v) = ok v
  Each_hole ok (Open n v u) = ⊥
  Each_hole ok (Level d t) = Each_hole ok t
  Each_hole ok (Built h ts) = Each_holes ok ts
  Each_hole ok (Fun k p r) = Each_hole ok p × Each_hole ok r

  pub Each_holes : (Variable → Type 0) → Sizes → Type 0
  Each_holes ok no_size = Unit {0}
  Each_holes ok (size_and t ts) = Each_hole ok t × Each_holes ok ts

-- replaced by sized types
unfoldable mutual
  pub filled : (Variable → Size) → Size → Size
  filled types (Hole v) = types v
  filled types (Open n v u) = Open n v u
  filled types (Level d t) = Level d (filled types t)
  filled types (Built h ts) = Built h (all_filled types ts)
  filled types (Fun k p r) = Fun k (filled types p) (filled types r)

  pub all_filled : (Variable → Size) → Sizes → Sizes
  all_filled types no_size = no_size
  all_filled types (size_and t ts) = size_and (filled types t) (all_filled types ts)

-- ---- a function used where its sizes are chosen: whatever the caller of the wanted type u chooses, a function of type t, which
-- may name these choices, is used as one of type u
pub record For_each_choice (t u : Size) : Type 0 where
  pub chosen : ℕ
  pub from : Size
  pub to : Size
  pub is_function : t ≡ Fun chosen from to
  pub wanted_chosen : ℕ
  pub wanted_from : Size
  pub wanted_to : Size
  pub wanted : u ≡ Fun wanted_chosen wanted_from wanted_to
  pub n : ℕ
  pub m : ℕ
  pub δ : ℕ → Free
  pub ρ : ℕ → Free
  pub at_choice : Instance chosen from to wanted_chosen wanted_from wanted_to n m δ ρ
  pub parameter : Suits (opened ρ wanted_from) (opened δ from)
  pub result : Suits (opened δ to) (opened ρ wanted_to)

-- a general name's type used where these of its type variables are types of data
pub record Filled_use (is_general : Variable → Bool) (scheme u : Size) : Type 0 where
  pub types : Variable → Size
  pub data_types : (v : Variable) → Data (types v)
  pub closed : (v : Variable) → Each (Scoped Any_free) 0 (types v)
  pub others : (v : Variable) → is_general v ≡ false → types v ≡ Hole v
  -- what stands for the variables may name what the wanted type's caller chooses, the general type knows nothing of it
  pub used : Suits (filled types scheme) u ⊎ ((C : For_each_choice (filled types scheme) u) × Never_at C.n scheme)

-- ---- sizes that the pattern of a let or a loop names, and what each takes
abbrev pub taken_by : (ℕ → Free) → List ℕ → Free → Free
taken_by what bs (Name c) = cond (is_among bs c) (what c) (Name c)
taken_by what bs d = d

-- ---- `:>`: each size that it writes outside of function types is compared, so it can be found
abbrev pub Size_found : Size_term Ref BindId → Context → Type 0
Size_found (Size_use (ref.Bound b)) G = G.finds (Name b.0) ≡ true
Size_found d G = Unit {0}

abbrev mutual
  pub Sizes_found : FlatType → Context → Type 0
  Sizes_found (Array_type d e) G = Size_found d G × Sizes_found e G
  Sizes_found (Unique_type e) G = Sizes_found e G
  Sizes_found (Tuple_type es) G = All_sizes_found es G
  Sizes_found (Record_type fs es) G = All_sizes_found es G
  Sizes_found e G = Unit {0}

  pub All_sizes_found : Type_terms Ref BindId → Context → Type 0
  All_sizes_found no_type G = Unit {0}
  All_sizes_found (type_and e es) G = Sizes_found e G × All_sizes_found es G

abbrev pub Compared_found : Operation Ref BindId → Context → Type 0
Compared_found (Coerce e) G = Sizes_found e G
Compared_found o G = Unit {0}

module _ (N : Names) (types : Sub) (s : ℕ → Size) (home : ℕ → ℕ) where
  -- made by a node of these, or bound there
  abbrev pub Inside : ℕ → ℕ → Free → Type 0
  Inside lo hi (Const c) = ⊥
  Inside lo hi (Name b) = (lo ≤ home b) × (home b < hi)
  Inside lo hi (Own n i) = (lo ≤ n) × (n < hi)
  Inside lo hi (Unknown n i) = (lo ≤ n) × (n < hi)
  Inside lo hi (Slot i) = ⊥

  abbrev pub Outside : ℕ → ℕ → Free → Type 0
  Outside lo hi d = Inside lo hi d → ⊥

  abbrev pub Away : ℕ → ℕ → Size → Type 0
  Away lo hi t = Each (Scoped (Outside lo hi)) 0 t

  -- ---- patterns: at its node each has the sized type of what it takes, under the names that it gives to sizes
  abbrev pub part_fits : Option Size → (Size → Type 0) → Type 0
  part_fits (Some t) fits = fits t
  part_fits None fits = ⊥

  unfoldable mutual
    pub Pattern_takes : (Free → Free) → FlatPattern → ℕ → Size → Type 0
    Pattern_takes what (Bound_pattern b) q t = renamed what (s q) ≡ t
    Pattern_takes what Wild_pattern q t = renamed what (s q) ≡ t
    Pattern_takes what (Tuple_pattern ps) q t = (renamed what (s q) ≡ t) × (ts : Sizes) × (t ≡ Built head.Tuple ts) × All_take what ps (1 + q) ts
    Pattern_takes what (Record_pattern fs ps) q t = (renamed what (s q) ≡ t) × Fields_take what fs ps (1 + q) t
    Pattern_takes what (Typed_pattern p e) q t = Pattern_takes what p q t

    pub All_take : (Free → Free) → Patterns Ref BindId → ℕ → Sizes → Type 0
    All_take what no_pattern q no_size = Unit {0}
    All_take what (pattern_and p ps) q (size_and t ts) = Pattern_takes what p q t × All_take what ps (q + pattern_numbers p) ts
    All_take what ps q ts = ⊥

    pub Fields_take : (Free → Free) → List Text → Patterns Ref BindId → ℕ → Size → Type 0
    Fields_take what [] no_pattern q t = Unit {0}
    Fields_take what (f ∷ fs) (pattern_and p ps) q t = part_fits (part_of N f t) (λ u. Pattern_takes what p q u) × Fields_take what fs ps (q + pattern_numbers p) t
    Fields_take what fs ps q t = ⊥

  -- ---- functions

  -- a parameter that is a name is the value of the argument
  abbrev pub Named_value : Option ℕ → Free → Type 0
  Named_value (Some b) d = d ≡ Name b
  Named_value None d = Unit {0}

  -- a function's type from a parameter on, whose pattern begins at q; the function's own node is lo, and the body's nodes are those
  -- from `at` up to hi
  pub record Binder (lo at hi : ℕ) (p : FlatPattern) (q : ℕ) (u : Size) : Type 0 where
    pub chosen : ℕ
    pub from : Size
    pub to : Size
    pub function : u ≡ Fun chosen from to
    -- what each position of the frame is inside the function
    pub inside : ℕ → Free
    pub position : Free → Option ℕ
    pub placed : (i : ℕ) → i ≤ chosen → position (inside i) ≡ Some i
    pub own : (d : Free) (i : ℕ) → position d ≡ Some i → Inside q (q + pattern_numbers p) d
    pub parameter : s q ≡ opened inside from
    pub parts : Pattern_takes (λ d. d) p q (s q)
    pub low : Each (Of_positions (λ i. i < chosen)) 1 from
    pub kept : Each (Scoped (λ d. (position d ≡ None) × Outside at hi d × Outside lo (1 + lo) d)) 0 u
    pub away : Away (q + pattern_numbers p) hi (s q)
    pub named : Named_value (value_name p) (inside chosen)

  -- what the last parameter's function tells of data: its sizes stand in the parameter's type or can be found
  abbrev pub Tells_size : ℕ → Context → Free → Type 0
  Tells_size q G (Const c) = Unit {0}
  Tells_size q G d = (stands (s q) d ≡ true) ⊎ (G.finds d ≡ true)

  abbrev pub Tells_type : ℕ → Context → Variable → Type 0
  Tells_type q G v = (has_hole (s q) v ≡ true) ⊎ (G.finds_types v ≡ true)

  abbrev pub Telling : Patterns Ref BindId → ℕ → ℕ → ℕ → Size → Size → Context → Type 0
  Telling no_pattern q at k from to G = Data from → Data to → Each (Of_positions (λ i. i < k)) 1 to → Each (Scoped (Tells_size q G)) 0 (s at) × Each_hole (Tells_type q G) (s at)
  Telling (pattern_and p ps) q at k from to G = Unit {0}

  -- a function of these parameters gives what its body gives, without the names that are parts of arguments; no parameter has
  -- one of these in its sized type
  abbrev pub Takes : (Context → Type 0) → List ℕ → Patterns Ref BindId → ℕ → ℕ → ℕ → ℕ → Size → Context → Type 0
  Takes body parts no_pattern lo q at hi u G = (takes (names_one parts) (s at) ≡ false) × (u ≡ renamed (leave lo parts) (s at)) × body G
  Takes body parts (pattern_and p ps) lo q at hi u G = (B : Binder lo at hi p q u) × (has (names_one parts) (s q) ≡ false) × Telling ps q at B.chosen B.from B.to G
      × Takes body parts ps lo (q + pattern_numbers p) at hi (opened B.inside B.to) (with_pattern s p q (with_positions B.position G))

  -- ---- applications

  -- the value of an argument at a node, where it is a name or a constant that an i64 holds
  abbrev pub Is_value : FlatTerm → ℕ → Context → Free → Type 0
  Is_value (Use (ref.Bound x) at j) mid G d = (d ≡ Name x.0) × ((G.sizes x.0 ≡ Some i64_size) ⊎ (G.schemes x.0 ≡ Some i64_size))
  Is_value (Strict (Integer c t) mark no_term) mid G d = (d ≡ Const c) × (s mid ≡ i64_size) × (c < 2 ^ 63)
  Is_value e mid G d = ⊥

  -- What an application gives: what the function gives, or a function whose caller chooses what is still open. That is so only
  -- where nothing is met, and neither the function nor the argument knows of the choice.
  abbrev pub Application_gives : ℕ → Size → Size → ℕ → Size → Size → Type 0
  Application_gives lo function argument chosen to given = (s lo ≡ given)
      ⊎ ((C : For_each_choice given (s lo)) × (C.n ≡ lo → ⊥) × Never_at C.n function × Never_at C.n argument × Each (Of_positions (λ i. i ≤ chosen)) 1 to)

  pub record Applies (e : FlatTerm) (lo mid hi : ℕ) (G : Context) : Type 0 where
    pub chosen : ℕ
    pub from : Size
    pub to : Size
    pub function : s (1 + lo) ≡ Fun chosen from to
    pub closed : Away lo (1 + lo) (s (1 + lo))
    pub inside : ℕ → Free
    pub low : Each (Of_positions (λ i. i < chosen)) 1 from
    pub argument : Suits (s mid) (opened inside from)
    -- the number of the node's unknown that stands for the first position
    pub base : ℕ
    -- a size that the caller chooses is one that is known here, or any: then it is an unknown of the node
    pub known : (i : ℕ) → i < chosen → Outside lo (1 + lo) (inside i) ⊎ (inside i ≡ Unknown lo (base + i))
    pub value : Is_value e mid G (inside chosen) ⊎ (inside chosen ≡ Unknown lo (base + chosen))
    pub new : (i : ℕ) → chosen < i → inside i ≡ Unknown lo (base + i)
    pub result : Application_gives lo (s (1 + lo)) (s mid) chosen to (opened inside to)
    -- what was sized first knows nothing of the other
    pub order : Away (1 + lo) mid (s mid) ⊎ Away mid hi (s (1 + lo))

  -- ---- terms in a row

  abbrev pub part_sizes : Terms Ref BindId → ℕ → Sizes
  part_sizes no_term lo = no_size
  part_sizes (term_and t ts) lo = size_and (s lo) (part_sizes ts (lo + numbers t))

  -- ---- lets: what a name stands for leaves with it

  pub record Let_sized (b : Binding Ref BindId) (lo mid at hi : ℕ) : Type 0 where
    pub what : ℕ → Free
    pub taken : Pattern_takes (taken_by what (bind_ids b.sizes)) b.pattern (1 + lo) (s mid)
    -- a size name is bound at the let, and what it takes stands in the value
    pub sizes_met : (c : ℕ) → is_among (bind_ids b.sizes) c ≡ true → stands (s mid) (what c) ≡ true
    pub bound : (c : ℕ) → is_among (names b.pattern ++ bind_ids b.sizes) c ≡ true → Inside (1 + lo) mid (Name c)
    pub value_away : Away (1 + lo) mid (s mid)
    pub body_away : Away at hi (s (1 + lo))
    pub own_away : Away lo (1 + lo) (s at)
    pub no_parameter : takes (names_one (names b.pattern ++ bind_ids b.sizes)) (s at) ≡ false
    pub result : s lo ≡ renamed (leave lo (names b.pattern ++ bind_ids b.sizes)) (s at)

  -- a function's name, whose uses choose type variables that stand in the type of no other name in scope
  abbrev pub General_form : FlatPattern → FlatTerm → Type 0
  General_form (Bound_pattern x) (Lambda (pattern_and p ps) e) = Unit {0}
  General_form p v = ⊥

  pub record Generalised (p : FlatPattern) (v : FlatTerm) (lo mid at hi : ℕ) (G : Context) : Type 0 where
    pub form : General_form p v
    pub new : Variable → Bool
    pub type : s (1 + lo) ≡ s mid
    pub result : s lo ≡ renamed (leave lo (names p)) (s at)
    pub no_parameter : takes (names_one (names p)) (s at) ≡ false
    pub bound : (c : ℕ) → is_among (names p) c ≡ true → Inside (1 + lo) mid (Name c)
    pub away : Away at hi (s mid)
    pub own_away : Away lo (1 + lo) (s at)
    pub sizes_apart : (b : ℕ) (t : Size) → G.sizes b ≡ Some t → Each_hole (λ v. new v ≡ false) t
    pub schemes_apart : (b : ℕ) (t : Size) → G.schemes b ≡ Some t → Each_hole (λ v. (G.general b v ≡ true) ⊎ (new v ≡ false)) t
    pub types_apart : (v : Variable) → G.finds_types v ≡ true → new v ≡ false

  abbrev pub with_general : FlatPattern → ℕ → (Variable → Bool) → Context → Context
  with_general (Bound_pattern b) q new G = with_scheme b.0 (s q) new (with_entered (s q) G)
  with_general p q new G = G

  -- ---- loops: the parameter keeps all levels but those dropped, in which a turn may give other sizes

  pub record Loops (sizes : List BindId) (p : FlatPattern) (lo mid turns at hi : ℕ) : Type 0 where
    pub dropped : List ℕ
    pub carried : s lo ≡ lacking N types lo dropped 0 (s mid)
    pub no_function : Data (s mid)
    pub what : ℕ → Free
    pub taken : Pattern_takes (taken_by what (bind_ids sizes)) p (1 + lo) (s lo)
    pub sizes_met : (c : ℕ) → is_among (bind_ids sizes) c ≡ true → stands (s lo) (what c) ≡ true
    pub bound : (c : ℕ) → is_among (names p ++ bind_ids sizes) c ≡ true → Inside (1 + lo) mid (Name c)
    pub kept : differing N types dropped 0 (s lo) (renamed (taken_by what (bind_ids sizes)) (s at)) ≡ []
    pub one_type : erased (s mid) ≡ erased (s at)
    pub value_away : Away lo mid (s mid)
    pub turns_away : Away turns hi (s mid)

  -- an if keeps the sizes that both of its branches have; the branches know nothing of its own unknowns
  pub record Branches (lo at_then at_else : ℕ) : Type 0 where
    pub kept_sizes : s lo ≡ kept lo 0 (s at_then) (s at_else)
    pub no_function : Data (s at_then) × Data (s at_else)
    pub one_type : erased (s at_then) ≡ erased (s at_else)
    pub away : Away lo (1 + lo) (s at_then) × Away lo (1 + lo) (s at_else)

  abbrev pub counter : FlatTurns → ℕ → Context → Context
  counter (Counted i m) lo G = with_name i.0 (s lo) G
  counter (Over p e) lo G = with_pattern s p lo G
  counter (While c) lo G = G

  abbrev mutual
    pub Sized : FlatTerm → ℕ → Context → Type 0
    Sized (Use (ref.Bound b) at k) lo G = ((t : Size) × (G.sizes b.0 ≡ Some t) × Suits t (s lo)) ⊎ ((t : Size) × (G.schemes b.0 ≡ Some t) × Filled_use (G.general b.0) t (s lo))
    Sized (Use (ref.Prim p) at k) lo G = Filled_use (λ v. true) (prim_size p) (s lo)
    Sized (Use (ref.Scalar t) at k) lo G = ⊥
    Sized (Strict o mark ts) lo G = All_sized ts (lo + own_numbers o) (lo + own_numbers o + all_numbers ts) G × (operation N types o lo (lo + own_numbers o) ts (part_sizes ts (lo + own_numbers o)) ≡ Ok (s lo)) × Compared_found o G
    Sized (Lambda no_pattern e) lo G = ⊥
    Sized (Lambda ps e) lo G = Takes (Sized e (1 + lo + all_pattern_numbers ps)) (all_part_names ps) ps lo (1 + lo) (1 + lo + all_pattern_numbers ps) (1 + lo + all_pattern_numbers ps + numbers e) (s lo) G
    Sized (Apply f e) lo G = Sized f (1 + lo) G × Sized e (1 + lo + numbers f) G × Applies e lo (1 + lo + numbers f) (1 + lo + numbers f + numbers e) G
    Sized (Let b v e) lo G = Sized v (1 + lo + pattern_numbers b.pattern) G × (
        (Let_sized b lo (1 + lo + pattern_numbers b.pattern) (1 + lo + pattern_numbers b.pattern + numbers v) (1 + lo + pattern_numbers b.pattern + numbers v + numbers e)
        × Sized e (1 + lo + pattern_numbers b.pattern + numbers v) (with_pattern s b.pattern (1 + lo) (with_size_names (bind_ids b.sizes) G)))
        ⊎ ((A : Generalised b.pattern v lo (1 + lo + pattern_numbers b.pattern) (1 + lo + pattern_numbers b.pattern + numbers v) (1 + lo + pattern_numbers b.pattern + numbers v + numbers e) G)
        × Sized e (1 + lo + pattern_numbers b.pattern + numbers v) (with_general b.pattern (1 + lo) A.new G)))
    Sized (If c t e) lo G = Sized c (1 + lo) G × Sized t (1 + lo + numbers c) G × Sized e (1 + lo + numbers c + numbers t) G
        × Branches lo (1 + lo + numbers c) (1 + lo + numbers c + numbers t)
    Sized (Loop mark sizes p first turns body) lo G = Sized first (1 + lo + pattern_numbers p) G
        × Turns_sized turns (1 + lo + pattern_numbers p + numbers first) G (with_pattern s p (1 + lo) (with_size_names (bind_ids sizes) G))
        × Sized body (1 + lo + pattern_numbers p + numbers first + turn_numbers turns) (counter turns (1 + lo + pattern_numbers p + numbers first) (with_pattern s p (1 + lo) (with_size_names (bind_ids sizes) G)))
        × Loops sizes p lo (1 + lo + pattern_numbers p) (1 + lo + pattern_numbers p + numbers first) (1 + lo + pattern_numbers p + numbers first + turn_numbers turns) (1 + lo + pattern_numbers p + numbers first + turn_numbers turns + numbers body)

    pub All_sized : Terms Ref BindId → ℕ → ℕ → Context → Type 0
    All_sized no_term lo hi G = Unit {0}
    All_sized (term_and t ts) lo hi G = Sized t lo G × Away (lo + numbers t) hi (s lo) × All_sized ts (lo + numbers t) hi G

    -- what is counted or gone over stands outside of the loop, a condition inside
    pub Turns_sized : FlatTurns → ℕ → Context → Context → Type 0
    Turns_sized (Counted i m) lo G inner = Sized m (1 + lo) G × (s lo ≡ s (1 + lo))
    Turns_sized (Over p e) lo G inner = Sized e (lo + pattern_numbers p) G × Pattern_takes (λ d. d) p lo (row_of N types (s (lo + pattern_numbers p)))
    Turns_sized (While c) lo G inner = Sized c lo inner
