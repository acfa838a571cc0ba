-- The unfolding of a typed term is never stuck, and what is known of its value is known by its type: each form, from its parts.
use Rattle.std.proofs.Common.{◌≡◌, Bool, true, false, cond, ℕ, suc, ◌+◌, ◌++◌, refl, sym, ap, ◌∙◌, subst, arith, List, [], ◌∷◌, Option, Some, None, length}
use mathlib.Core.Logic.{inl}
use Rattle.fut_meaning.specs.Found.{Told, Sizing}
use Rattle.fut_scalar.specs.declared.place.BindId.{BindId}
use Rattle.fut_scalar.specs.declared.place.Place.{Place}
use Rattle.fut_scalar.specs.declared.scalar.ScalarType.TheVariants as types
use Rattle.fut_flat.specs.declared.prim.Primitive.{Primitive}
use Rattle.fut_flat.specs.declared.prim.Ref.{Ref}
use Rattle.fut_flat.specs.declared.prim.Ref.TheVariants as ref
use Rattle.fut_flat.specs.Terms.{Patterns, Operation, Use, Strict, Lambda, Apply, Let, If, Loop, Terms, no_term, term_and, Counted, Over, While}
use Rattle.fut_flat.specs.Numbers.{pattern_numbers, all_pattern_numbers, own_numbers, numbers, turn_numbers}
use Rattle.fut_flat.specs.Erased.{FlatTerm, FlatPattern, FlatTurns}
use Rattle.fut_blocks.specs.declared.block.Atom.{Atom}
use Rattle.fut_blocks.specs.declared.block.Atom.TheVariants as atom
use Rattle.fut_blocks.specs.Plain.{Action, lets}
use Rattle.fut_blocks.specs.Plain as act
use Rattle.fut_blocks.specs.Rows.{Extent}
use Rattle.fut_types.specs.declared.Kind.TheVariants as kind
use Rattle.fut_types.specs.Types.{Ty, Tys, none, more, Sub, Kinds, HasKind, fun_ty}
use Rattle.fut_typing.specs.Names.{Names, AreNames, count}
use Rattle.fut_typing.specs.Primitives.{array_ty, bool_ty, i64_ty}
use Rattle.fut_typing.specs.Scopes.{Scope, Used}
use Rattle.fut_typing.specs.Typing.{FlatBinding}
use Rattle.fut_meaning.specs.Uses.{is_size_in}
use Rattle.type_soundness.specs.Meant.{Use_meant}
use Rattle.unfold.specs.Knowns.{Known, name_and, Scalar_known, Function_known, Scope as Seen, entered_in, find}
use Rattle.unfold.specs.Shapes.{Shape, Laid}
use Rattle.sized_types.specs.Sizes.{Name, At as Free_size}
use Rattle.unfold.specs.Telling.{expression, literal_row, test_at, size_used, enter}
use Rattle.unfold.specs.Stuck.{Binds_to, turn_counted, turn_row, turn_tested, stuck_count, no_count, stuck_rows, no_rows, No_scalar, No_data, Carried, carried, Turn_names, Stuck, no_such_name, stuck_parts, no_operation, stuck_function, stuck_argument, stuck_application, stuck_value, no_pattern_of, stuck_behind, stuck_condition, no_condition, stuck_then, then_function, stuck_else, else_function, stuck_first, first_function, stuck_turns, no_turn, no_row, stuck_test, no_test, stuck_body, turn_function, Stuck_all, stuck_here, stuck_later, Stuck_turns}
use Rattle.unfold.specs.Unfolding.{Bindings, step, names, named, Binds, Packs, Unfolds, u_name, u_size, u_primitive, u_constant, u_strict, u_lambda, u_apply, u_let, u_packed, u_if, u_counted, u_over, u_while, Unfold_all, u_none, u_more}
use Rattle.unfold_laws.specs.Components.{components}
use Rattle.unfold_laws.specs.Fits.{Given, Bound, Context, behind, World, types_of, Learns, Comes, Is_data, Fits, Name_fits, Names_fit}
use Rattle.unfold_laws.specs.Entered.{All_entered}
use Rattle.unfold_laws.specs.Standing.{All_in_row, All_in_extent, All_in_test}
use Rattle.unfold_laws.specs.Typed.{Are, Stands, Act_typed, Body_typed, any_types}
use Rattle.unfold_laws.proofs.Applying.{primitive_fits, number_fits}
use Rattle.unfold_laws.proofs.Entered.{entered_as}
use Rattle.unfold_laws.proofs.Telling.{On_some, literal_row_all, test_at_all, size_used_all}
use Rattle.unfold_laws.proofs.Fitting.{some_same, none_some, stands_learn, fits_learn, fits_data, kind_data}
use Rattle.unfold_laws.proofs.Functions.{function_fits}
use Rattle.unfold_laws.proofs.Operating.{array_one_component, scalar_fits, of_integers, step_gives, Gives}
use Rattle.unfold_laws.proofs.Packed.{packs_come}
use Rattle.unfold_laws.proofs.Recording.{Each_fits}
use Rattle.unfold_laws.proofs.Seeing.{Bindable}
use Rattle.unfold_laws.proofs.Shaping.{shaped, laid_are, are_laid, laid_length}
use Rattle.unfold_laws.proofs.TypedSteps.{are_kept, learns_self, learns_more, learns_given, learns_steps, comes_none, comes_then, comes_map, comes_step, block_typed, stand_are, are_length, names_length}

-- the pattern's steps are typed, and then the names are as Q has it
abbrev pub Binds_well : Names → Told → Kinds → World → Seen → FlatPattern → Known → (World → Seen → Type 0) → Type 0
Binds_well N T K there seen p s Q = Bindable p s × ((q : ℕ) (inner : Seen) (n m : ℕ) (cs : Bindings) → Binds T.sizes q p s seen n cs inner m → Comes N K there cs (λ behind. Q behind inner))

-- a number is that of a size, or it is not
size_there : (z : Option Sizing) (sc : Seen) (k : ℕ) → is_size_in z k ≡ true → (e : Extent) × (size_used z sc k ≡ Some e)
size_there None sc k is = absurd (let y : false ≡ true = is in cc)
size_there (Some Z) sc k is = (expression Z (entered_in sc) (Free_size (Name k)), ap (λ b. cond b (Some (expression Z (entered_in sc) (Free_size (Name k)))) None) is)

no_size_there : (z : Option Sizing) (sc : Seen) (k : ℕ) → is_size_in z k ≡ false → size_used z sc k ≡ None
no_size_there None sc k is = refl
no_size_there (Some Z) sc k is = ap (λ b. cond b (Some (expression Z (entered_in sc) (Free_size (Name k)))) None) is

module _ (N : Names) (are : AreNames N) (T : Told) (P : ℕ → Type 0) (K : Kinds) where
  abbrev At : World → Ty → Known → Type 0
  At world t s = Fits N T K t world s

  abbrev Known_at : Ty → Known → World → Type 0
  Known_at t s there = Fits N T K t there s

  -- a term, from a number on, is never stuck, its steps are typed, and what is known of its value is known by this type
  abbrev pub Goes : World → Seen → ℕ → FlatTerm → Ty → Type 0
  Goes world sc lo e t = (Stuck T world.0 sc lo e → ⊥) × ((n n' : ℕ) (bs : Bindings) (s : Known) → Unfolds T world.0 sc lo e n bs s n' → Comes N K world bs (Known_at t s))

  -- and so where more is known of what the atoms stand for
  abbrev pub Goes_on : World → Seen → ℕ → FlatTerm → Ty → Type 0
  Goes_on world sc lo e t = (C : Context) → Learns N K world (world.0, C) → Goes (world.0, C) sc lo e t

  pub goes_as : (world : World) (sc : Seen) (lo : ℕ) (e : FlatTerm) (t u : Ty) → t ≡ u → Goes world sc lo e t → Goes world sc lo e u
  goes_as world sc lo e t u same g = subst (Goes world sc lo e) same g

  abbrev Each_at : Tys → List Known → World → Type 0
  Each_at us ss there = Each_fits N T K there us ss

  abbrev pub All_go : World → Seen → ℕ → Terms Ref BindId → Tys → Type 0
  All_go world sc lo ts us = (Stuck_all T world.0 sc lo ts → ⊥) × ((n n' : ℕ) (bs : Bindings) (ss : List Known) → Unfold_all T world.0 sc lo ts n bs ss n' → Comes N K world bs (Each_at us ss))

  abbrev pub All_go_on : World → Seen → ℕ → Terms Ref BindId → Tys → Type 0
  All_go_on world sc lo ts us = (C : Context) → Learns N K world (world.0, C) → All_go (world.0, C) sc lo ts us

  module _ (world : World) (sc : Seen) (lo : ℕ) where
    -- the world itself, and that behind these steps
    abbrev stays : Learns N K world (world.0, world.1)
    stays = learns_self N K world

    abbrev back : Bindings → Context
    back bs = behind world.1 bs

    abbrev goes_back : (bs : Bindings) → Learns N K world (world.0, behind world.1 bs)
    goes_back bs = learns_steps N K bs world

    -- what is known may be packed
    packed : (t : Ty) (s : Known) (n n' n'' : ℕ) (bs cs : Bindings) (u : Atom) → Comes N K world bs (Known_at t s) → Packs s n' cs u n'' → Comes N K world (bs ++ cs) (Known_at t (Scalar_known u))
    packed t s n n' n'' bs cs u c p = comes_then N K world bs cs (Known_at t s) (Known_at t (Scalar_known u)) c (λ C g h. packs_come N are T K s n' cs u n'' p (world.0, C) t h)

    -- ---- names
    bound_goes : (b : BindId) (at : Place) (k : ℕ) (t : Ty) → size_used T.sizes sc b.0 ≡ None → (s : Known) × (find world.0 sc b.0 ≡ Some s) × At world t s → Goes world sc lo (Use (ref.Bound b) at k) t
    bound_goes b at k t apart u = ((λ w. stuck w), (λ n n' bs s x. known n n' bs s x))
      where
        stuck : Stuck T world.0 sc lo (Use (ref.Bound b) at k) → ⊥
        stuck (no_such_name z e) = none_some u.1 e

        known : (n n' : ℕ) (bs : Bindings) (s : Known) → Unfolds T world.0 sc lo (Use (ref.Bound b) at k) n bs s n' → Comes N K world bs (Known_at t s)
        known _ _ _ s (u_name z e) = comes_none N K world (Known_at t s) (subst (At world t) (some_same (sym u.1 ∙ e)) u.2)
        known _ _ _ s (u_size z le) = none_some z apart
        known n n'' _ _ (u_packed {n1 = n'} {bs = bs} {cs = cs} {s = s} {u = w} x p) = packed t s n n' n'' bs cs w (known n n' bs s x) p

    -- a size is an i64
    i64_data : Is_data N i64_ty
    unfolding Is_data
    i64_data = tt

    size_goes : (b : BindId) (at : Place) (k : ℕ) (t : Ty) (e : Extent) → size_used T.sizes sc b.0 ≡ Some e → All_in_extent (Stands (types_of N K world.1)) e → t ≡ i64_ty → Goes world sc lo (Use (ref.Bound b) at k) t
    unfolding Act_typed
    size_goes b at k t e is all same = ((λ w. stuck w), (λ n n' bs s x. known n n' bs s x))
      where
        stuck : Stuck T world.0 sc lo (Use (ref.Bound b) at k) → ⊥
        stuck (no_such_name z q) = none_some is z

        known : (n n' : ℕ) (bs : Bindings) (s : Known) → Unfolds T world.0 sc lo (Use (ref.Bound b) at k) n bs s n' → Comes N K world bs (Known_at t s)
        known _ _ _ s (u_name z q) = none_some is z
        known _ _ _ _ (u_size {x = x} {e = e'} z le) =
            subst (λ y. Comes N K world (step (x ∷ []) (act.Size_of e')) (Known_at y (named x))) (sym same)
            (step_gives N T K world i64_ty i64_data x (act.Size_of e') (subst (All_in_extent (Stands (types_of N K world.1))) (some_same (sym is ∙ z)) all, refl))
        known n n'' _ _ (u_packed {n1 = n'} {bs = bs} {cs = cs} {s = s} {u = w} x p) = packed t s n n' n'' bs cs w (known n n' bs s x) p

    -- it is a size's by its number alone
    number_goes : (b : BindId) (at : Place) (k : ℕ) (t : Ty) (is : Bool) → is_size_in T.sizes b.0 ≡ is → All_entered (Stands (types_of N K world.1)) sc → Name_fits N T K world t (find world.0 sc b.0) is → Goes world sc lo (Use (ref.Bound b) at k) t
    number_goes b at k t true is h e = let q = size_there T.sizes sc b.0 is in size_goes b at k t q.0 q.1 (subst (On_some (All_in_extent (Stands (types_of N K world.1)))) q.1 (size_used_all (Stands (types_of N K world.1)) T.sizes sc b.0 h)) e
    number_goes b at k t false is h u = bound_goes b at k t (no_size_there T.sizes sc b.0 is) u

    prim_goes : (p : Primitive) (at : Place) (k : ℕ) (t : Ty) (scope : Scope) (a : Sub) → Use_meant P (ref.Prim p) → Used kind.Data scope K a (ref.Prim p) t → Goes world sc lo (Use (ref.Prim p) at k) t
    prim_goes p at k t scope a m u = ((λ w. stuck w), (λ n n' bs s x. known n n' bs s x))
      where
        stuck : Stuck T world.0 sc lo (Use (ref.Prim p) at k) → ⊥
        stuck w = elim w [ ]

        known : (n n' : ℕ) (bs : Bindings) (s : Known) → Unfolds T world.0 sc lo (Use (ref.Prim p) at k) n bs s n' → Comes N K world bs (Known_at t s)
        known _ _ _ s (u_primitive e) = comes_none N K world (Known_at t s) (subst (λ y. At world y s) (sym u.2) (primitive_fits N are T K p u.0 u.1 at world e))
        known _ _ _ s (u_constant {c = c} e) = comes_none N K world (Known_at t s) (subst (λ y. At world y s) (sym u.2) (number_fits N are T K p u.0 world c e))
        known n n'' _ _ (u_packed {n1 = n'} {bs = bs} {cs = cs} {s = s} {u = w} x q) = packed t s n n' n'' bs cs w (known n n' bs s x) q

    pub use_goes : (r : Ref) (at : Place) (k : ℕ) (t : Ty) (scope : Scope) (a : Sub) → Use_meant P r → Used kind.Data scope K a r t → Names_fit N T world P scope K a sc → Goes world sc lo (Use r at k) t
    use_goes (ref.Bound b) at k t scope a m u h = number_goes b at k t (is_size_in T.sizes b.0) refl h.0 (h.1 b.0 m t u)
    use_goes (ref.Prim p) at k t scope a m u h = prim_goes p at k t scope a m u
    use_goes (ref.Scalar s) at k t scope a m u h = absurd u

    -- ---- operations
    pub none_go : All_go world sc lo no_term none
    none_go = ((λ w. elim w [ ]), (λ n n' bs ss x. known n n' bs ss x))
      where
        known : (n n' : ℕ) (bs : Bindings) (ss : List Known) → Unfold_all T world.0 sc lo no_term n bs ss n' → Comes N K world bs (Each_at none ss)
        known _ _ _ _ u_none = comes_none N K world (Each_at none []) tt

    pub more_go : (t : FlatTerm) (ts : Terms Ref BindId) (u : Ty) (us : Tys) → Goes world sc lo t u → All_go_on world sc (lo + numbers t) ts us → All_go world sc lo (term_and t ts) (more u us)
    more_go t ts u us g all = ((λ w. stuck w), (λ n n' bs ss x. known n n' bs ss x))
      where
        stuck : Stuck_all T world.0 sc lo (term_and t ts) → ⊥
        stuck (stuck_here w) = g.0 w
        stuck (stuck_later x w) = (all world.1 stays).0 w

        known : (n n' : ℕ) (bs : Bindings) (ss : List Known) → Unfold_all T world.0 sc lo (term_and t ts) n bs ss n' → Comes N K world bs (Each_at (more u us) ss)
        known _ _ _ _ (u_more {bs = bs} {cs = cs} {s = s} {ss = ss} x xs) =
            comes_then N K world bs cs (Known_at u s) (Each_at (more u us) (s ∷ ss)) (g.1 _ _ bs s x) (λ C l h.
            comes_map N K (world.0, C) cs (Each_at us ss) (Each_at (more u us) (s ∷ ss)) ((all C l).1 _ _ cs ss xs) (λ D l' hs. (fits_learn N T K u (world.0, C) (world.0, D) l' s h, hs)))

    -- what is found for it in what was entered stands
    pub literal_stands : (C : Context) → Learns N K world (world.0, C) → All_entered (Stands (types_of N K world.1)) sc → All_in_row (Stands (types_of N K C)) (literal_row T.sizes sc lo)
    literal_stands C l h = literal_row_all (Stands (types_of N K C)) T.sizes sc lo (entered_as _ _ (stands_learn N T K world (world.0, C) l) sc h)

    pub test_stands : (C : Context) → Learns N K world (world.0, C) → All_entered (Stands (types_of N K world.1)) sc → On_some (All_in_test (Stands (types_of N K C))) (test_at T.sizes sc lo)
    test_stands C l h = test_at_all (Stands (types_of N K C)) T.sizes sc lo (entered_as _ _ (stands_learn N T K world (world.0, C) l) sc h)

    pub strict_goes : (o : Operation Ref BindId) (mark : Place) (ts : Terms Ref BindId) (us : Tys) (t : Ty) (entered : All_entered (Stands (types_of N K world.1)) sc) → All_go world sc (lo + own_numbers o) ts us → ((C : Context) (l : Learns N K world (world.0, C)) → (ss : List Known) → Each_fits N T K (world.0, C) us ss → Gives N T K are (world.0, C) (literal_row T.sizes sc lo) (test_at T.sizes sc lo) (literal_stands C l entered) (test_stands C l entered) (T.integer_at lo) mark o ss t) → Goes world sc lo (Strict o mark ts) t
    strict_goes o mark ts us t entered all gives = ((λ w. stuck w), (λ n n' bs s x. known n n' bs s x))
      where
        stuck : Stuck T world.0 sc lo (Strict o mark ts) → ⊥
        stuck (stuck_parts w) = all.0 w
        stuck (no_operation {bs = bs} {ss = ss} x lacks) = (gives (back bs) (goes_back bs) ss (all.1 _ _ bs ss x).1).0 lacks

        known : (n n' : ℕ) (bs : Bindings) (s : Known) → Unfolds T world.0 sc lo (Strict o mark ts) n bs s n' → Comes N K world bs (Known_at t s)
        known _ _ _ s (u_strict {bs = bs} {cs = cs} {ss = ss} x y) = comes_then N K world bs cs (Each_at us ss) (Known_at t s) (all.1 _ _ bs ss x) (λ C l h. (gives C l ss h).1 _ _ cs s y)
        known n n'' _ _ (u_packed {n1 = n'} {bs = bs} {cs = cs} {s = s} {u = w} x p) = packed t s n n' n'' bs cs w (known n n' bs s x) p

    -- ---- functions
    pub lambda_goes : (ps : Patterns Ref BindId) (e : FlatTerm) (t : Ty) → At world t (Function_known ps e (1 + lo + all_pattern_numbers ps) sc) → Goes world sc lo (Lambda ps e) t
    lambda_goes ps e t h = ((λ w. elim w [ ]), (λ n n' bs s x. known n n' bs s x))
      where
        known : (n n' : ℕ) (bs : Bindings) (s : Known) → Unfolds T world.0 sc lo (Lambda ps e) n bs s n' → Comes N K world bs (Known_at t s)
        known _ _ _ s u_lambda = comes_none N K world (Known_at t s) h
        known n n'' _ _ (u_packed {n1 = n'} {bs = bs} {cs = cs} {s = s} {u = w} x p) = packed t s n n' n'' bs cs w (known n n' bs s x) p

    pub apply_goes : (f e : FlatTerm) (t u : Ty) → Goes world sc (1 + lo) f (fun_ty t u) → Goes_on world sc (1 + lo + numbers f) e t → Goes world sc lo (Apply f e) u
    apply_goes f e t u gf ge = ((λ w. stuck w), (λ n n' bs s x. known n n' bs s x))
      where
        stuck : Stuck T world.0 sc lo (Apply f e) → ⊥
        stuck (stuck_function w) = gf.0 w
        stuck (stuck_argument x w) = (ge world.1 stays).0 w
        stuck (stuck_application {bs = bs} {cs = cs} {h = h} {s = s} x y w) =
            let c = (ge (back bs) (goes_back bs)).1 _ _ cs s y in
            (function_fits N T K t u (world.0, behind (back bs) cs) h (fits_learn N T K (fun_ty t u) (world.0, back bs) (world.0, behind (back bs) cs) (learns_steps N K cs (world.0, back bs)) h (gf.1 _ _ bs h x).1) s c.1).0 w

        known : (n n' : ℕ) (bs : Bindings) (s : Known) → Unfolds T world.0 sc lo (Apply f e) n bs s n' → Comes N K world bs (Known_at u s)
        known _ _ _ s' (u_apply {bs = bs} {cs = cs} {ds = ds} {h = h} {s = s} x y z) =
            comes_then N K world bs (cs ++ ds) (Known_at (fun_ty t u) h) (Known_at u s') (gf.1 _ _ bs h x) (λ C l fh.
            comes_then N K (world.0, C) cs ds (Known_at t s) (Known_at u s') ((ge C l).1 _ _ cs s y) (λ D l' fs.
            (function_fits N T K t u (world.0, D) h (fits_learn N T K (fun_ty t u) (world.0, C) (world.0, D) l' h fh) s fs).1 _ _ ds s' z))
        known n n'' _ _ (u_packed {n1 = n'} {bs = bs} {cs = cs} {s = s} {u = w} x p) = packed u s n n' n'' bs cs w (known n n' bs s x) p

    -- ---- lets
    -- the value binds the names that the body sees
    abbrev pub Let_goes : FlatBinding → FlatTerm → (World → Seen → Type 0) → Type 0
    Let_goes b v Q = (Stuck T world.0 sc (1 + lo + pattern_numbers b.pattern) v → ⊥) × ((n n' : ℕ) (bs : Bindings) (s : Known) → Unfolds T world.0 sc (1 + lo + pattern_numbers b.pattern) v n bs s n' → Comes N K world bs (λ there. Binds_well N T K there sc b.pattern s Q))

    abbrev Let_body : FlatBinding → FlatTerm → FlatTerm → Ty → World → Seen → Type 0
    Let_body b v e t there inner = Goes there inner (1 + lo + pattern_numbers b.pattern + numbers v) e t

    pub let_goes : (b : FlatBinding) (v e : FlatTerm) (t : Ty) → Let_goes b v (λ there inner. Goes there inner (1 + lo + pattern_numbers b.pattern + numbers v) e t) → Goes world sc lo (Let b v e) t
    let_goes b v e t g = ((λ w. stuck w), (λ n n' bs s x. known n n' bs s x))
      where
        stuck : Stuck T world.0 sc lo (Let b v e) → ⊥
        stuck (stuck_value w) = g.0 w
        stuck (no_pattern_of {bs = bs} {s = s} x lacks) = let q = (g.1 _ _ bs s x).1.0 T.sizes 0 sc 0 in lacks T.sizes 0 sc q.0 (0, q.1, q.2, q.3)
        stuck (stuck_behind {inner = inner} {bs = bs} {s = s} x y w) = ((g.1 _ _ bs s x).1.1 _ inner y.0 y.2 y.1 y.3).1.0 w

        known : (n n' : ℕ) (bs : Bindings) (s : Known) → Unfolds T world.0 sc lo (Let b v e) n bs s n' → Comes N K world bs (Known_at t s)
        known _ _ _ s' (u_let {inner = inner} {n1 = n1} {n2 = n2} {bs = bs} {cs = cs} {ds = ds} {s = s} x y z) =
            comes_then N K world bs (cs ++ ds) (λ there. Binds_well N T K there sc b.pattern s (Let_body b v e t)) (Known_at t s') (g.1 _ _ bs s x) (λ C l q.
            comes_then N K (world.0, C) cs ds (λ there. Let_body b v e t there inner) (Known_at t s') (q.1 _ inner n1 n2 cs y) (λ D l' go. go.1 _ _ ds s' z))
        known n n'' _ _ (u_packed {n1 = n'} {bs = bs} {cs = cs} {s = s} {u = w} x p) = packed t s n n' n'' bs cs w (known n n' bs s x) p

    -- ---- data
    no_scalar : (there : World) (t : Ty) (s : Known) → t ≡ bool_ty → At there t s → No_scalar s → ⊥
    no_scalar there t s e h lacks = let r = scalar_fits N T K there types.Bool t s e h in lacks r.0 r.1

    no_data : (there : World) (t : Ty) (s : Known) → HasKind K kind.Data t → At there t s → No_data s → ⊥
    no_data there t s k h lacks = let r = shaped N T K there t s (kind_data N K t k) h in let l = r.1 [] in lacks r.0 l.0 l.1

    atom_typed : (there : World) (t : Ty) (u : Atom) → At there t (Scalar_known u) → types_of N K there.1 u t
    atom_typed there t u h = (fits_data N T K t there u h).1

    -- ---- new names for components
    parts_of : Shape → Ty → Tys
    parts_of h t = components N h t none

    atoms_are : (there : World) (h : Shape) (s : Known) (us : List Atom) (t : Ty) → Laid h s us [] → At there t s → Are (types_of N K there.1) us (parts_of h t)
    unfolding parts_of
    atoms_are there h s us t l f = laid_are N T K there h s us [] t none l f tt

    as_many : (there : World) (h : Shape) (s r : Known) (us : List Atom) (xs : List ℕ) (t : Ty) → Laid h s us [] → Laid h r (names xs) [] → At there t s → length xs ≡ count (parts_of h t)
    as_many there h s r us xs t l m f =
        let a = are_length (types_of N K there.1) us (parts_of h t) (atoms_are there h s us t l f) in
        let b = laid_length h s r us [] (names xs) [] l m in let c = names_length xs in omega (arith, a, b, c)

    -- what is laid out on atoms of these types
    on_atoms : (there there' : World) (h : Shape) (s r : Known) (us ws : List Atom) (t : Ty) → Laid h s us [] → Laid h r ws [] → At there t s → Are (types_of N K there'.1) ws (parts_of h t) → At there' t r
    unfolding parts_of
    on_atoms there there' h s r us ws t l m f a = (are_laid N T K there there' h s r us [] ws [] t none l m f a).0

    -- on new names, and on those of a step
    given : World → List Atom → Shape → Ty → World
    given there ws h t = (there.0, Given ws (parts_of h t) ∷ there.1)

    on_given : (there there' : World) (h : Shape) (s r : Known) (us ws : List Atom) (t : Ty) → Laid h s us [] → Laid h r ws [] → At there t s → At (there'.0, Given ws (parts_of h t) ∷ there'.1) t r
    on_given there there' h s r us ws t l m f =
        let a = are_length (types_of N K there.1) us (parts_of h t) (atoms_are there h s us t l f) in
        let b = laid_length h s r us [] ws [] l m in
        on_atoms there (there'.0, Given ws (parts_of h t) ∷ there'.1) h s r us ws t l m f (stand_are (types_of N K (Given ws (parts_of h t) ∷ there'.1)) ws (parts_of h t) (λ u v i. inl i) (omega (arith, a, b)))

    on_step : (there there' : World) (h : Shape) (s r : Known) (us : List Atom) (xs : List ℕ) (t : Ty) (a : Action) → Laid h s us [] → Laid h r (names xs) [] → At there t s → Act_typed N K any_types a (types_of N K there'.1) (parts_of h t) → Comes N K there' (step xs a) (Known_at t r)
    on_step there there' h s r us xs t a l m f typed =
        let e = as_many there h s r us xs t l m f in
        comes_step N K there' xs a (parts_of h t) (Known_at t r) typed e
        (on_atoms there (there'.0, Bound xs a ∷ there'.1) h s r us (names xs) t l m f (stand_are (types_of N K (Bound xs a ∷ there'.1)) (names xs) (parts_of h t) (λ u v i. inl (parts_of h t, (tt, typed), i)) (names_length xs ∙ e)))

    -- steps whose results are laid out
    block_of : (there : World) (h : Shape) (s : Known) (us : List Atom) (t : Ty) (bs : Bindings) → Comes N K there bs (Known_at t s) → Laid h s us [] → Body_typed N K any_types (lets bs us) (types_of N K there.1) (parts_of h t)
    block_of there h s us t bs c l = block_typed N K bs us there.1 (parts_of h t) c.0 (atoms_are (there.0, behind there.1 bs) h s us t l c.1)

    -- ---- branches
    pub if_goes : (c a b : FlatTerm) (t : Ty) → HasKind K kind.Data t → Goes world sc (1 + lo) c bool_ty → Goes_on world sc (1 + lo + numbers c) a t → Goes_on world sc (1 + lo + numbers c + numbers a) b t → Goes world sc lo (If c a b) t
    unfolding Act_typed
    if_goes c a b t k gc ga gb = ((λ w. stuck w), (λ n n' bs s x. known n n' bs s x))
      where
        stuck : Stuck T world.0 sc lo (If c a b) → ⊥
        stuck (stuck_condition w) = gc.0 w
        stuck (no_condition {bs = bs} {s = s} x lacks) = no_scalar (world.0, back bs) bool_ty s refl (gc.1 _ _ bs s x).1 lacks
        stuck (stuck_then x w) = (ga world.1 stays).0 w
        stuck (then_function {bs = bs} {s = s} x lacks) = no_data (world.0, back bs) t s k ((ga world.1 stays).1 _ _ bs s x).1 lacks
        stuck (stuck_else x w) = (gb world.1 stays).0 w
        stuck (else_function {bs = bs} {s = s} x lacks) = no_data (world.0, back bs) t s k ((gb world.1 stays).1 _ _ bs s x).1 lacks

        known : (n n' : ℕ) (bs : Bindings) (s : Known) → Unfolds T world.0 sc lo (If c a b) n bs s n' → Comes N K world bs (Known_at t s)
        known _ _ _ r (u_if {bs = bs} {cs = cs} {ds = ds} {u = u} {h = h} {s = s} {s' = s'} {us = us} {ws = ws} xs x y l z m up q) =
            comes_then N K world bs (step xs (act.If u (lets cs us) (lets ds ws))) (Known_at bool_ty (Scalar_known u)) (Known_at t r) (gc.1 _ _ bs (Scalar_known u) x) (λ C g i.
            let cy = (ga C g).1 _ _ cs s y in
            let cz = (gb C g).1 _ _ ds s' z in
            on_step (world.0, behind C cs) (world.0, C) h s r us xs t (act.If u (lets cs us) (lets ds ws)) l q cy.1
            (atom_typed (world.0, C) bool_ty u i, block_of (world.0, C) h s us t cs cy l, block_of (world.0, C) h s' ws t ds cz m))
        known n n'' _ _ (u_packed {n1 = n'} {bs = bs} {cs = cs} {s = s} {u = w} x p) = packed t s n n' n'' bs cs w (known n n' bs s x) p

    -- ---- loops
    module _ (mark : Place) (sizes : List BindId) (p : FlatPattern) (first body : FlatTerm) (t row : Ty) (k : HasKind K kind.Data t) where
      abbrev at_turns : ℕ
      at_turns = 1 + lo + pattern_numbers p + numbers first

      abbrev Body : FlatTurns → World → Seen → Type 0
      Body turns there inner = Goes there inner (1 + lo + pattern_numbers p + numbers first + turn_numbers turns) body t

      -- what says how many turns there are, outside of the loop
      abbrev pub Outside : FlatTurns → Type 0
      Outside (Counted i number) = HasKind K kind.Integer row × Goes_on world sc (1 + at_turns) number row
      Outside (Over q rows) = Goes_on world sc (at_turns + pattern_numbers q) rows (array_ty row)
      Outside (While test) = Unit {0}

      -- a turn, under the names that the loop carries; its own name is of the type `row`
      abbrev pub Turn : FlatTurns → World → Seen → Type 0
      Turn (Counted i number) there inside = (y : ℕ) → types_of N K there.1 (atom.Name y) row → Body (Counted i number) there (name_and i (named y) (enter T.sizes at_turns (named y) inside))
      Turn (Over q rows) there inside = (y : ℕ) → types_of N K there.1 (atom.Name y) row → Binds_well N T K there inside q (named y) (Body (Over q rows))
      Turn (While test) there inside = Goes there inside at_turns test bool_ty × Body (While test) there inside

      abbrev pub Turns_go : FlatTurns → Type 0
      Turns_go turns = (C : Context) → Learns N K world (world.0, C) → (r : Known) → At (world.0, C) t r → Binds_well N T K (world.0, C) sc p r (Turn turns)

      module _ (gf : Goes world sc (1 + lo + pattern_numbers p) first t) where
        -- with a name for a turn
        abbrev on_turn : ℕ → Context → Context
        on_turn y C = Given (atom.Name y ∷ []) (more row none) ∷ C

        turn_learns : (y : ℕ) (C : Context) → Learns N K (world.0, C) (world.0, on_turn y C)
        turn_learns y C = learns_given N K (atom.Name y ∷ []) (more row none) (world.0, C)

        -- what the loop carries is known of the type, on atoms of its components' types
        carried_in : (h : Shape) (r : Known) → Carried T world.0 sc lo p first h r → (C : Context) × Learns N K world (world.0, C) × At (world.0, C) t r
        carried_in _ _ (carried {bs = bs} {h = h} {s = s} {r = r} {us = us} {ws = ws} x l m) = (Given ws (parts_of h t) ∷ world.1, learns_given N K ws (parts_of h t) world, on_given (world.0, back bs) world h s r us ws t l m (gf.1 _ _ bs s x).1)

        carried_on : (y : ℕ) (h : Shape) (r : Known) → Carried T world.0 sc lo p first h r → (C : Context) × Learns N K world (world.0, on_turn y C) × At (world.0, on_turn y C) t r
        carried_on y h r c = let q = carried_in h r c in (q.0, learns_more N K world (world.0, q.0) (world.0, on_turn y q.0) q.1 (turn_learns y q.0), fits_learn N T K t (world.0, q.0) (world.0, on_turn y q.0) (turn_learns y q.0) r q.2)

        turn_named : (y : ℕ) (C : Context) (bs : Bindings) → types_of N K (behind (on_turn y C) bs) (atom.Name y) row
        turn_named y C bs = (learns_steps N K bs (world.0, on_turn y C)).1 (atom.Name y) row (inl (inl (refl, refl)))

        turns_stuck : (turns : FlatTurns) → Outside turns → Stuck_turns T world.0 sc at_turns turns → ⊥
        turns_stuck (Counted i number) o (stuck_count w) = (o.1 world.1 stays).0 w
        turns_stuck (Counted i number) o (no_count {bs = bs} {s = s} x lacks) = let r = of_integers N T K (world.0, back bs) row s o.0 ((o.1 world.1 stays).1 _ _ bs s x).1 in lacks r.0 r.1
        turns_stuck (Over q rows) o (stuck_rows w) = (o world.1 stays).0 w
        turns_stuck (Over q rows) o (no_rows {bs = bs} {s = s} x lacks) = let r = array_one_component N T K (world.0, back bs) row (array_ty row) s refl ((o world.1 stays).1 _ _ bs s x).1 in lacks r.0 r.1
        turns_stuck (While test) o w = elim w [ ]

        -- the body in some world
        in_turn : (turns : FlatTurns) → Turns_go turns → (inside inner : Seen) (h : Shape) (r : Known) → Carried T world.0 sc lo p first h r → Binds_to T.sizes (1 + lo) p r sc inside → Turn_names T world.0 sc inside at_turns turns inner → (D : Context) × Body turns (world.0, D) inner
        in_turn _ turn inside _ h r c b (turn_counted y x) =
            let q = carried_on y h r c in
            (behind (on_turn y q.0) b.1, ((turn (on_turn y q.0) q.1 r q.2).1 _ inside b.0 b.2 b.1 b.3).1 y (turn_named y q.0 b.1))
        in_turn _ turn inside inner h r c b (turn_row y x d) =
            let q = carried_on y h r c in
            (behind (behind (on_turn y q.0) b.1) d.1, ((((turn (on_turn y q.0) q.1 r q.2).1 _ inside b.0 b.2 b.1 b.3).1 y (turn_named y q.0 b.1)).1 _ inner d.0 d.2 d.1 d.3).1)
        in_turn _ turn inside _ h r c b turn_tested = let q = carried_in h r c in (behind q.0 b.1, ((turn q.0 q.1 r q.2).1 _ inside b.0 b.2 b.1 b.3).1.1)

        loop_stuck : (turns : FlatTurns) → Outside turns → Turns_go turns → Stuck T world.0 sc lo (Loop mark sizes p first turns body) → ⊥
        loop_stuck turns outside turn (stuck_first w) = gf.0 w
        loop_stuck turns outside turn (first_function {bs = bs} {s = s} x lacks) = no_data (world.0, back bs) t s k (gf.1 _ _ bs s x).1 lacks
        loop_stuck turns outside turn (stuck_turns x w) = turns_stuck turns outside w
        loop_stuck turns outside turn (no_turn {h = h} {r = r} c lacks) = let q = carried_in h r c in let d = (turn q.0 q.1 r q.2).0 T.sizes 0 sc 0 in lacks T.sizes 0 sc d.0 (0, d.1, d.2, d.3)
        loop_stuck _ outside turn (no_row {inside = inside} {y = y} {h = h} {r = r} c b lacks) =
            let q = carried_on y h r c in
            let d = (((turn (on_turn y q.0) q.1 r q.2).1 _ inside b.0 b.2 b.1 b.3).1 y (turn_named y q.0 b.1)).0 T.sizes 0 inside 0 in lacks T.sizes 0 inside d.0 (0, d.1, d.2, d.3)
        loop_stuck _ outside turn (stuck_test {inner = inner} {h = h} {r = r} c b w) = let q = carried_in h r c in ((turn q.0 q.1 r q.2).1 _ inner b.0 b.2 b.1 b.3).1.0.0 w
        loop_stuck _ outside turn (no_test {inner = inner} {bs = bs} {h = h} {r = r} {s = s} c b x lacks) =
            let q = carried_in h r c in
            no_scalar (world.0, behind (behind q.0 b.1) bs) bool_ty s refl (((turn q.0 q.1 r q.2).1 _ inner b.0 b.2 b.1 b.3).1.0.1 _ _ bs s x).1 lacks
        loop_stuck turns outside turn (stuck_body {inside = inside} {inner = inner} {h = h} {r = r} c b n w) = (in_turn turns turn inside inner h r c b n).1.0 w
        loop_stuck turns outside turn (turn_function {inside = inside} {inner = inner} {bs = bs} {h = h} {r = r} {s = s} c b n x lacks) =
            let q = in_turn turns turn inside inner h r c b n in no_data (world.0, behind q.0 bs) t s k (q.1.1 _ _ bs s x).1 lacks

        -- the first values and the names of a turn, where a loop is a step
        module _ (h : Shape) (s : Known) (us : List Atom) (l : Laid h s us []) (C : Context) (g : Learns N K world (world.0, C)) (f : At (world.0, C) t s) where
          first_are : (D : Context) → Learns N K (world.0, C) (world.0, D) → Are (types_of N K D) us (parts_of h t)
          first_are D g' = are_kept (types_of N K C) (types_of N K D) g'.1 us (parts_of h t) (atoms_are (world.0, C) h s us t l f)

          -- on new names
          abbrev names_on : List ℕ → Context → Context
          names_on ps D = Given (names ps) (parts_of h t) ∷ D

          names_learn : (ps : List ℕ) (D : Context) → Learns N K (world.0, C) (world.0, D) → Learns N K world (world.0, names_on ps D)
          names_learn ps D g' = learns_more N K world (world.0, D) (world.0, names_on ps D) (learns_more N K world (world.0, C) (world.0, D) g g') (learns_given N K (names ps) (parts_of h t) (world.0, D))

          names_fit : (r : Known) (ps : List ℕ) (D : Context) → Laid h r (names ps) [] → At (world.0, names_on ps D) t r
          names_fit r ps D m = on_given (world.0, C) (world.0, D) h s r us (names ps) t l m f

          -- with a name for the turn
          turn_there : (turns : FlatTurns) → Turns_go turns → (r : Known) (ps : List ℕ) (y : ℕ) (D : Context) → Laid h r (names ps) [] → Learns N K (world.0, C) (world.0, D) → Binds_well N T K (world.0, on_turn y (names_on ps D)) sc p r (Turn turns)
          turn_there turns turn r ps y D m g' =
              turn (on_turn y (names_on ps D)) (learns_more N K world (world.0, names_on ps D) (world.0, on_turn y (names_on ps D)) (names_learn ps D g') (turn_learns y (names_on ps D))) r
              (fits_learn N T K t (world.0, names_on ps D) (world.0, on_turn y (names_on ps D)) (turn_learns y (names_on ps D)) r (names_fit r ps D m))

        loop_known : (turns : FlatTurns) → Outside turns → Turns_go turns → (n n' : ℕ) (bs : Bindings) (s : Known) → Unfolds T world.0 sc lo (Loop mark sizes p first turns body) n bs s n' → Comes N K world bs (Known_at t s)
        unfolding Act_typed Body_typed
        loop_known (Counted i number) outside turn _ _ _ e (u_counted {inner = inner} {n4 = n4} {n5 = n5} {y = y} {bs = bs} {cs = cs} {es = es} {ds = ds} {u = u} {h = h} {s = s} {r = r} {s' = s'} {us = us} {ws = ws} ps xs x l c up m le b z q up' v) =
            comes_then N K world bs (cs ++ step xs (act.For ps us y u (lets (es ++ ds) ws))) (Known_at t s) (Known_at t e) (gf.1 _ _ bs s x) (λ C g f.
            comes_then N K (world.0, C) cs (step xs (act.For ps us y u (lets (es ++ ds) ws))) (Known_at row (Scalar_known u)) (Known_at t e) ((outside.1 C g).1 _ _ cs (Scalar_known u) c) (λ D g' hu.
            on_step (world.0, C) (world.0, D) h s e us xs t (act.For ps us y u (lets (es ++ ds) ws)) l v f (
              first_are h s us l C g f D g',
              as_many (world.0, C) h s r us ps t l m f,
              row,
              tt,
              outside.0,
              atom_typed (world.0, D) row u hu,
              block_of (world.0, on_turn y (names_on h s us l C g f ps D)) h s' ws t (es ++ ds)
                  (comes_then N K (world.0, on_turn y (names_on h s us l C g f ps D)) es ds (λ there. Turn (Counted i number) there inner) (Known_at t s') ((turn_there h s us l C g f (Counted i number) turn r ps y D m g').1 _ inner (suc y) n4 es b)
                  (λ E l' tn. (tn y (l'.1 (atom.Name y) row (inl (inl (refl, refl))))).1 _ _ ds s' z)) q,
            )))
        loop_known (Over o rows) outside turn _ _ _ e (u_over {inside = inside} {inner = inner} {n4 = n4} {n5 = n5} {n6 = n6} {y = y} {bs = bs} {cs = cs} {es = es} {es' = es'} {ds = ds} {u = u} {h = h} {s = s} {r = r} {s' = s'} {us = us} {ws = ws} ps xs x l c up m le b d z q up' v) =
            comes_then N K world bs (cs ++ step xs (act.Over ps us y u (lets (es ++ (es' ++ ds)) ws))) (Known_at t s) (Known_at t e) (gf.1 _ _ bs s x) (λ C g f.
            comes_then N K (world.0, C) cs (step xs (act.Over ps us y u (lets (es ++ (es' ++ ds)) ws))) (Known_at (array_ty row) (Scalar_known u)) (Known_at t e) ((outside C g).1 _ _ cs (Scalar_known u) c) (λ D g' hu.
            on_step (world.0, C) (world.0, D) h s e us xs t (act.Over ps us y u (lets (es ++ (es' ++ ds)) ws)) l v f (
              first_are h s us l C g f D g',
              as_many (world.0, C) h s r us ps t l m f,
              row,
              tt,
              atom_typed (world.0, D) (array_ty row) u hu,
              block_of (world.0, on_turn y (names_on h s us l C g f ps D)) h s' ws t (es ++ (es' ++ ds))
                  (comes_then N K (world.0, on_turn y (names_on h s us l C g f ps D)) es (es' ++ ds) (λ there. Turn (Over o rows) there inside) (Known_at t s') ((turn_there h s us l C g f (Over o rows) turn r ps y D m g').1 _ inside (suc y) n4 es b)
                  (λ E l' tn. comes_then N K (world.0, E) es' ds (λ there. Body (Over o rows) there inner) (Known_at t s') ((tn y (l'.1 (atom.Name y) row (inl (inl (refl, refl))))).1 _ inner n4 n5 es' d) (λ F l'' go. go.1 _ _ ds s' z))) q,
            )))
        loop_known (While test) outside turn _ _ _ e (u_while {inner = inner} {inner' = inner'} {n2 = n2} {n3 = n3} {n4 = n4} {n5 = n5} {bs = bs} {es = es} {cs = cs} {es' = es'} {ds = ds} {u = u} {h = h} {s = s} {r = r} {s' = s'} {us = us} {ws = ws} ps xs x l up m b c d z q up' v) =
            comes_then N K world bs (step xs (act.While mark ps us (lets (es ++ cs) (u ∷ [])) (lets (es' ++ ds) ws))) (Known_at t s) (Known_at t e) (gf.1 _ _ bs s x) (λ C g f.
            let D : Context = names_on h s us l C g f ps C in
            let well = turn D (names_learn h s us l C g f ps C (learns_self N K (world.0, C))) r (names_fit h s us l C g f r ps C m) in
            let tested = comes_then N K (world.0, D) es cs (λ there. Turn (While test) there inner) (Known_at bool_ty (Scalar_known u)) (well.1 _ inner n2 n3 es b) (λ E l' tn. tn.0.1 _ _ cs (Scalar_known u) c) in
            on_step (world.0, C) (world.0, C) h s e us xs t (act.While mark ps us (lets (es ++ cs) (u ∷ [])) (lets (es' ++ ds) ws)) l v f (
              first_are h s us l C g f C (learns_self N K (world.0, C)),
              as_many (world.0, C) h s r us ps t l m f,
              tt,
              block_typed N K (es ++ cs) (u ∷ []) D (more bool_ty none) tested.0 (atom_typed (world.0, behind D (es ++ cs)) bool_ty u tested.1, tt),
              block_of (world.0, D) h s' ws t (es' ++ ds) (comes_then N K (world.0, D) es' ds (λ there. Turn (While test) there inner') (Known_at t s') (well.1 _ inner' n4 n5 es' d) (λ E l' tn. tn.1.1 _ _ ds s' z)) q,
            ))
        loop_known turns outside turn n n'' _ _ (u_packed {n1 = n'} {bs = bs} {cs = cs} {s = s} {u = w} x q) = packed t s n n' n'' bs cs w (loop_known turns outside turn n n' bs s x) q

      pub loop_goes : (turns : FlatTurns) → Goes world sc (1 + lo + pattern_numbers p) first t → Outside turns → Turns_go turns → Goes world sc lo (Loop mark sizes p first turns body) t
      loop_goes turns gf outside turn = (loop_stuck gf turns outside turn, loop_known gf turns outside turn)
