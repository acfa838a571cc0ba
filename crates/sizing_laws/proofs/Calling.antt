-- What names stand for, what patterns bind, and calls, by two numberings.
use Rattle.std.proofs.Common.{◌≡◌, ℕ, ◌+◌, ◌≤◌, ◌<◌, arith, Bool, true, false, cond, nat_eq, nat_le, List, [], ◌∷◌, ◌++◌, Option, Some, None, refl, sym, ap, ◌∙◌, subst}
use Rattle.fut_ast.specs.Sorts.{Text}
use Rattle.fut_scalar.specs.declared.place.BindId.{BindId}
use Rattle.fut_flat.specs.declared.prim.Ref.{Ref}
use Rattle.fut_flat.specs.Terms.{Bound_pattern, Wild_pattern, Tuple_pattern, Record_pattern, Typed_pattern, Patterns, no_pattern, pattern_and}
use Rattle.fut_flat.specs.Numbers.{pattern_numbers, all_pattern_numbers}
use Rattle.fut_flat.specs.Erased.{FlatPattern, FlatType}
use Rattle.fut_types.specs.declared.Head.{Head}
use Rattle.fut_types.specs.declared.Head.TheVariants as head
use Rattle.fut_types.specs.Types.{Ty, Var, Made, none, more, Sub, Kinds}
use Rattle.fut_types.specs.Shapes.{place}
use Rattle.fut_typing.specs.Names.{Names, AreNames}
use Rattle.fut_typing.proofs.Ranges.{pattern_some}
use Rattle.fut_aliases.specs.Aliases.{Set, Naming, union}
use Rattle.fut_aliases.specs.Stars.{Stars, Leaf, Arrow, Row, StarRow, star_and, star_at, with_star, row_of, no_stars, spread, written_stars, consumes_more, gives_less}
use Rattle.fut_aliases.specs.Values.{Value, Function, Parts, Values, no_value, value_and, with_stars, named, aliases, ascribed, part_named, Component, starring, taken, left, those_with}
use Rattle.fut_aliases.specs.Steps.{Losses, behind, and_then, losses_now, consume, demand, or_else, lost}
use Rattle.fut_aliases.specs.declared.refusals.Broken.{Broken}
use Rattle.fut_aliases.specs.declared.refusals.Broken.TheVariants.{NotConsumable, ResultAliases}
use Rattle.fut_aliases.specs.declared.refusals.Named.{Named}
use Rattle.fut_aliases.specs.declared.refusals.Named.TheVariants.{ByAlias, ByName}
use Rattle.fut_aliases.specs.declared.refusals.Spot.TheVariants.{First}
use Rattle.fut_aliases.specs.Patterns.{Scope, with_value, pattern_stars, tuple_stars, record_stars, bound, all_bound, fields_bound, kept, all_kept, fields_kept}
use Rattle.fut_aliases.specs.Calls.{Here, Held, Part, not_consumable, captured, when, too_hungry, too_shared, held_loss, first_broken, settled, Given, given, stars_behind, type_behind, sides, given_sides, clashes, consume_given, left_by, given_to, unstarred, with_own, call_value, stars_of, starred_argument, use_name, partial, call, apply_as, finished}
use Rattle.sizing_laws.specs.Renumbering.{Renumbers, renumbered_head, renamed_type}
use Rattle.sizing_laws.proofs.Written.{cond_through, place_same}
use Rattle.sizing_laws.proofs.Stars.{to_value, to_values, spread_same, with_stars_value, aliases_same, named_value, starring_same, functions_same, ascribed_value, part_named_value, written_same}
use Rattle.sizing_laws.proofs.AliasSteps.{AnswerR, gives, StepTo, then_same}

module _ (number : ℕ → ℕ) where
  abbrev val : Value → Value
  val = to_value number

  -- ---- scopes

  abbrev pub maybe_value : Option Value → Option Value
  maybe_value (Some v) = Some (val v)
  maybe_value None = None

  abbrev pub to_scope : Scope → Scope
  to_scope s b = maybe_value (s b)

  pub with_value_to : (b : ℕ) (v : Value) (s : Scope) → with_value b (val v) (to_scope s) ≡ to_scope (with_value b v s)
  with_value_to b v s = λ i c. cond_through maybe_value (nat_eq c b) (Some v) (s c) i

  -- ---- parts

  abbrev pub to_held : Held → Held
  to_held a = record { node = a.node; called = a.called; first_name = a.first_name; value = val a.value; losses = a.losses }

  abbrev pub to_helds : List Held → List Held
  to_helds [] = []
  to_helds (a ∷ as_well) = to_held a ∷ to_helds as_well

  abbrev pub to_here : Here → Here
  to_here h = record { scope = to_scope h.scope; fixed = h.fixed; loop_from = h.loop_from; function_from = h.function_from; asked = h.asked }

  pub helds_on : (xs ys : List Held) → to_helds (xs ++ ys) ≡ to_helds xs ++ to_helds ys
  helds_on [] ys = refl
  helds_on (x ∷ xs) ys = ap (λ zs. to_held x ∷ zs) (helds_on xs ys)

  -- ---- what may not be consumed, and what may not stand where others are wanted

  pub hungry_same : (u : Stars) (a : Held) → too_hungry u (to_held a) ≡ too_hungry u a
  hungry_same u a = ap (λ w. when (consumes_more u w) (NotConsumable a.called (First a.node))) (functions_same number a.value)

  pub shared_same : (u : Stars) (a : Held) → too_shared u (to_held a) ≡ too_shared u a
  shared_same u a = ap (λ w. when (gives_less u w) (ResultAliases a.first_name (First a.node))) (functions_same number a.value)

  loss_same : (ls : Losses) (a : Held) → held_loss ls (to_held a) ≡ held_loss ls a
  loss_same ls a = ap (lost (behind a.losses ls) ByAlias (First a.node)) (aliases_same number a.value)

  helds_same : (rule : Held → Option Broken) → ((a : Held) → rule (to_held a) ≡ rule a) → (xs : List Held) → first_broken rule (to_helds xs) ≡ first_broken rule xs
  helds_same rule e [] = refl
  helds_same rule e (a ∷ xs) = λ i. or_else (e a i) (helds_same rule e xs i)

  pub settled_same : (h : Here) (xs : List Held) → settled (to_here h) (to_helds xs) ≡ settled h xs
  settled_same h xs = λ i. and_then losses_now (λ ls. demand h.asked (helds_same (held_loss ls) (loss_same ls) xs i))

  -- ---- arguments and their parameters

  abbrev to_given : Given → Given
  to_given g = record { argument = to_held g.argument; stars = g.stars }

  abbrev to_givens : List Given → List Given
  to_givens [] = []
  to_givens (g ∷ gs) = to_given g ∷ to_givens gs

  given_as : (xs : List Held) (u : Stars) → given (to_helds xs) u ≡ to_givens (given xs u)
  given_as [] u = refl
  given_as (a ∷ xs) (Arrow b p r) = ap (λ gs. record { argument = to_held a; stars = p } ∷ gs) (given_as xs r)
  given_as (a ∷ xs) (Leaf b) = ap (λ gs. record { argument = to_held a; stars = no_stars } ∷ gs) (given_as xs (Leaf b))
  given_as (a ∷ xs) (Row us) = ap (λ gs. record { argument = to_held a; stars = no_stars } ∷ gs) (given_as xs (Row us))

  givens_same : (rule : Given → Option Broken) → ((g : Given) → rule (to_given g) ≡ rule g) → (gs : List Given) → first_broken rule (to_givens gs) ≡ first_broken rule gs
  givens_same rule e [] = refl
  givens_same rule e (g ∷ gs) = λ i. or_else (e g i) (givens_same rule e gs i)

  pub stars_behind_same : (xs : List Held) (u : Stars) → stars_behind (to_helds xs) u ≡ stars_behind xs u
  stars_behind_same [] u = refl
  stars_behind_same (a ∷ xs) (Arrow b p r) = stars_behind_same xs r
  stars_behind_same (a ∷ xs) u = refl

  given_sides_same : (gs : List Given) → given_sides (to_givens gs) ≡ given_sides gs
  given_sides_same [] = refl
  given_sides_same (g ∷ gs) = λ i. sides g.argument.node (starring_same number g.stars g.argument.value i) ++ given_sides_same gs i

  taken_same : (u : Stars) (v : Value) → taken u (val v) ≡ taken u v
  taken_same u v = ap (those_with true) (starring_same number u v)

  pub left_same : (u : Stars) (v : Value) → left u (val v) ≡ left u v
  left_same u v = ap (those_with false) (starring_same number u v)

  consume_given_same : (gs : List Given) → consume_given (to_givens gs) ≡ consume_given gs
  consume_given_same [] = refl
  consume_given_same (g ∷ gs) = λ i. and_then (consume (First g.argument.node) (taken_same g.stars g.argument.value i)) (λ z. consume_given_same gs i)

  left_by_same : (gs : List Given) → left_by (to_givens gs) ≡ left_by gs
  left_by_same [] = refl
  left_by_same (g ∷ gs) = λ i. union (left_same g.stars g.argument.value i) (left_by_same gs i)

  given_to_same : (xs : List Held) → given_to (to_helds xs) ≡ given_to xs
  given_to_same [] = refl
  given_to_same (a ∷ xs) = λ i. union (aliases_same number a.value i) (given_to_same xs i)

  pub stars_of_same : (v : Value) → stars_of (val v) ≡ stars_of v
  stars_of_same (Function s u) = refl
  stars_of_same v = refl

  some_starred : Named → ℕ → List Component → Option Broken
  some_starred f n [] = None
  some_starred f n (c ∷ cs) = cond c.starred (Some (NotConsumable f (First n))) (some_starred f n cs)

  starred_as : (f : Named) (g : Given) → starred_argument f g ≡ some_starred f g.argument.node (starring g.stars g.argument.value)
  unfolding some_starred
  starred_as f g = refl

  starred_same : (f : Named) (g : Given) → starred_argument f (to_given g) ≡ starred_argument f g
  starred_same f g = starred_as f (to_given g) ∙ ap (some_starred f g.argument.node) (starring_same number g.stars g.argument.value) ∙ sym (starred_as f g)

  arguments_of : List Given → List Held
  arguments_of [] = []
  arguments_of (g ∷ gs) = g.argument ∷ arguments_of gs

  arguments_to : (gs : List Given) → arguments_of (to_givens gs) ≡ to_helds (arguments_of gs)
  unfolding arguments_of
  arguments_to [] = refl
  arguments_to (g ∷ gs) = ap (λ xs. to_held g.argument ∷ xs) (arguments_to gs)

  arguments_settle : (h : Here) (f : Held) (gs : List Given) → settled (to_here h) (to_held f ∷ arguments_of (to_givens gs)) ≡ settled h (f ∷ arguments_of gs)
  arguments_settle h f gs = ap (λ xs. settled (to_here h) (to_held f ∷ xs)) (arguments_to gs) ∙ settled_same h (f ∷ arguments_of gs)

-- ---- with other names for variables

module _ (number variable : ℕ → ℕ) where
  abbrev to_type : Ty → Ty
  to_type = renamed_type number variable

  abbrev pub to_part : Part → Part
  to_part p = record { head = to_held number p.head; name = p.name; type = to_type p.type; arguments = to_helds number p.arguments }

  type_behind_to : (xs : List Held) (t : Ty) → type_behind (to_helds number xs) (to_type t) ≡ to_type (type_behind xs t)
  type_behind_to [] t = refl
  type_behind_to (a ∷ xs) (Made head.Fun (more p (more r none))) = type_behind_to xs r
  type_behind_to (a ∷ xs) t = refl

  call_value_to : (K : Kinds) (keeps : (v : ℕ) → K (variable v) ≡ K v) (n : ℕ) (s : Set) (u : Stars) (t : Ty) → call_value K n s u (to_type t) ≡ val number (call_value K n s u t)
  call_value_to K keeps n s u t = (λ i. with_stars K (with_own n (nat_le 2 (unstarred ((ap (starring u) (with_stars_value number variable K keeps s u t) ∙ starring_same number u (with_stars K s u t)) i))) s) u (to_type t))
      ∙ with_stars_value number variable K keeps (with_own n (nat_le 2 (unstarred (starring u (with_stars K s u t)))) s) u t

  module _ (K : Kinds) (keeps : (v : ℕ) → K (variable v) ≡ K v) (h : Here) where
    pub use_name_same : (a : Held) (name : Option BindId) (t : Ty) (xs : List Held) → use_name K (to_here number h) (to_part (record { head = a; name = name; type = t; arguments = xs })) ≡ use_name K h (record { head = a; name = name; type = t; arguments = xs })
    use_name_same a None t xs = refl
    use_name_same a (Some b) t xs = λ i. and_then losses_now (λ ls. demand h.asked (lost ls (λ z. ByName b) (First a.node) (aliases_same number a.value i)))

    partial_to : (f : Held) (xs : List Held) → StepTo (val number) (partial K h f xs) (partial K (to_here number h) (to_held number f) (to_helds number xs))
    partial_to f xs ls =
        let e : given (to_helds number xs) (stars_of (val number f.value)) ≡ to_givens number (given xs (stars_of f.value)) = ap (given (to_helds number xs)) (stars_of_same number f.value) ∙ given_as number xs (stars_of f.value) in
        then_same (λ i. demand h.asked (or_else ((ap (first_broken (λ g. too_hungry g.stars g.argument)) e ∙ givens_same number (λ g. too_hungry g.stars g.argument) (λ g. hungry_same number g.stars g.argument) (given xs (stars_of f.value))) i)
        ((ap (first_broken (starred_argument f.called)) e ∙ givens_same number (starred_argument f.called) (starred_same number f.called) (given xs (stars_of f.value))) i))) ls _ _ (λ z ls2.
        then_same (settled_same number h (f ∷ xs)) ls2 _ _ (λ y ls3.
        then_same (λ i. demand h.asked ((ap (first_broken (λ g. too_shared g.stars g.argument)) e ∙ givens_same number (λ g. too_shared g.stars g.argument) (λ g. shared_same number g.stars g.argument) (given xs (stars_of f.value))) i)) ls3 _ _ (λ x ls4.
        gives (λ i. Function (union (aliases_same number f.value i) (given_to_same number xs i)) ((ap (stars_behind (to_helds number xs)) (stars_of_same number f.value) ∙ stars_behind_same number xs (stars_of f.value)) i)))))

    call_to : (n : ℕ) (f : Held) (gs : List Given) (r : Stars) (t : Ty) → StepTo (val number) (call K h n f gs r t) (call K (to_here number h) n (to_held number f) (to_givens number gs) r (to_type t))
    unfolding arguments_of
    call_to n f gs r t ls =
        then_same (λ i. demand h.asked (givens_same number (λ g. or_else (too_hungry g.stars g.argument) (not_consumable h (First g.argument.node) (taken g.stars g.argument.value)))
        (λ g j. or_else (hungry_same number g.stars g.argument j) (not_consumable h (First g.argument.node) (taken_same number g.stars g.argument.value j))) gs i)) ls _ _ (λ z ls2.
        then_same (λ i. demand h.asked (givens_same number (λ g. captured h (First g.argument.node) (taken g.stars g.argument.value)) (λ g j. captured h (First g.argument.node) (taken_same number g.stars g.argument.value j)) gs i)) ls2 _ _ (λ y ls3.
        then_same (arguments_settle number h f gs) ls3 _ _ (λ x ls4.
        then_same (λ i. demand h.asked (clashes [] (sides f.node (starring_same number no_stars f.value i) ++ given_sides_same number gs i))) ls4 _ _ (λ w ls5.
        then_same (λ i. demand h.asked (givens_same number (λ g. too_shared g.stars g.argument) (λ g. shared_same number g.stars g.argument) gs i)) ls5 _ _ (λ v ls6.
        then_same (consume_given_same number gs) ls6 _ _ (λ u ls7.
        gives ((λ i. call_value K n (union (aliases_same number f.value i) (left_by_same number gs i)) r (to_type t)) ∙ call_value_to K keeps n (union (aliases f.value) (left_by gs)) r t)))))))

    called_to : (n : ℕ) (f : Held) (xs : List Held) (t : Ty) (u : Stars) → StepTo (val number) (call K h n f (given xs (stars_of f.value)) u (type_behind xs t)) (call K (to_here number h) n (to_held number f) (given (to_helds number xs) (stars_of (val number f.value))) u (type_behind (to_helds number xs) (to_type t)))
    called_to n f xs t u ls = subst (λ (x : List Given × Ty). AnswerR (λ (v : Value) (w : Value). w ≡ val number v) (call K h n f (given xs (stars_of f.value)) u (type_behind xs t) ls) (call K (to_here number h) n (to_held number f) x.0 u x.1 ls))
        (λ i. (sym (ap (given (to_helds number xs)) (stars_of_same number f.value) ∙ given_as number xs (stars_of f.value)) i, sym (type_behind_to xs t) i)) (call_to n f (given xs (stars_of f.value)) u (type_behind xs t) ls)

    applied_to : (n : ℕ) (a : Held) (name : Option BindId) (t : Ty) (xs : List Held) (u : Stars) → StepTo (val number) (apply_as K h n (record { head = a; name = name; type = t; arguments = xs }) u) (apply_as K (to_here number h) n (to_part (record { head = a; name = name; type = t; arguments = xs })) u)
    applied_to n a name t xs (Arrow b q r) ls = partial_to a xs ls
    applied_to n a name t xs (Leaf b) ls = called_to n a xs t (Leaf b) ls
    applied_to n a name t xs (Row us) ls = called_to n a xs t (Row us) ls

    finished_as : (n : ℕ) (a : Held) (name : Option BindId) (t : Ty) (xs : List Held) → StepTo (val number) (finished K h n (record { head = a; name = name; type = t; arguments = xs })) (finished K (to_here number h) n (to_part (record { head = a; name = name; type = t; arguments = xs })))
    finished_as n a name t [] ls = then_same (use_name_same a name t []) ls _ _ (λ z ls2. gives refl)
    finished_as n a name t (x ∷ xs) ls = subst (λ u. AnswerR (λ (v : Value) (w : Value). w ≡ val number v) (apply_as K h n (record { head = a; name = name; type = t; arguments = x ∷ xs }) (stars_behind (x ∷ xs) (stars_of a.value)) ls) (apply_as K (to_here number h) n (to_part (record { head = a; name = name; type = t; arguments = x ∷ xs })) u ls))
        (sym (ap (stars_behind (to_helds number (x ∷ xs))) (stars_of_same number a.value) ∙ stars_behind_same number (x ∷ xs) (stars_of a.value))) (applied_to n a name t (x ∷ xs) (stars_behind (x ∷ xs) (stars_of a.value)) ls)

    pub finished_to : (n : ℕ) (p : Part) → StepTo (val number) (finished K h n p) (finished K (to_here number h) n (to_part p))
    finished_to n p = finished_as n p.head p.name p.type p.arguments

module _ (M N : Names) (m : AreNames M) (n : AreNames N) (number : ℕ → ℕ) (renumbers : Renumbers M N number) (variable : ℕ → ℕ) (types others : Sub) (count : ℕ) (same : (k : ℕ) → k < count → others k ≡ renamed_type number variable (types k)) where
  -- what stands at a node

  pub written_at : (b : Bool) (e : FlatType) (k : ℕ) → k < count → written_stars N b e (others k) ≡ written_stars M b e (types k)
  written_at b e k lt = ap (written_stars N b e) (same k lt) ∙ written_same M N m n number renumbers variable b e (types k)

  pub spread_at : (b : Bool) (k : ℕ) → k < count → spread b (others k) ≡ spread b (types k)
  spread_at b k lt = ap (spread b) (same k lt) ∙ spread_same number variable b (types k)

  -- ---- stars of patterns

  mutual
    unfolding pattern_stars

    pub pattern_stars_same : (p : FlatPattern) (q : ℕ) → q + pattern_numbers p ≤ count → pattern_stars N others p q ≡ pattern_stars M types p q
    pattern_stars_same (Typed_pattern p e) q le = let some : 0 < pattern_numbers p = pattern_some p in written_at false e q (omega (arith, le, some))
    pattern_stars_same (Tuple_pattern ps) q le = ap Row (tuple_stars_same ps (1 + q) (omega (arith, le)))
    pattern_stars_same (Record_pattern fs ps) q le = ap (record_stars N others fs ps (1 + q)) (same q (omega (arith, le))) ∙ record_stars_same fs ps (1 + q) (types q) (omega (arith, le))
    pattern_stars_same (Bound_pattern b) q le = spread_at false q (omega (arith, le))
    pattern_stars_same Wild_pattern q le = spread_at false q (omega (arith, le))

    tuple_stars_same : (ps : Patterns Ref BindId) (q : ℕ) → q + all_pattern_numbers ps ≤ count → tuple_stars N others ps q ≡ tuple_stars M types ps q
    tuple_stars_same no_pattern q le = refl
    tuple_stars_same (pattern_and p ps) q le = λ i. star_and (pattern_stars_same p q (omega (arith, le)) i) (tuple_stars_same ps (q + pattern_numbers p) (omega (arith, le)) i)

    record_stars_same : (fs : List Text) (ps : Patterns Ref BindId) (q : ℕ) (t : Ty) → q + all_pattern_numbers ps ≤ count → record_stars N others fs ps q (renamed_type number variable t) ≡ record_stars M types fs ps q t
    record_stars_same (f ∷ fs) (pattern_and p ps) q (Made h ts) le = λ i. Row (with_star (place_same M N m n number renumbers f h i) (pattern_stars_same p q (omega (arith, le)) i) (row_of (record_stars_same fs ps (q + pattern_numbers p) (Made h ts) (omega (arith, le)) i)))
    record_stars_same (f ∷ fs) (pattern_and p ps) q (Var v) le = spread_same number variable false (Var v)
    record_stars_same (f ∷ fs) no_pattern q t le = spread_same number variable false t
    record_stars_same [] ps q t le = spread_same number variable false t

  module _ (naming : Naming) where
    mutual
      unfolding bound

      pub bound_to : (parameter : Bool) (p : FlatPattern) (q : ℕ) (v : Value) (s : Scope) → q + pattern_numbers p ≤ count → bound naming N others parameter p q (to_value number v) (to_scope number s) ≡ to_scope number (bound naming M types parameter p q v s)
      bound_to parameter (Bound_pattern b) q v s le = ap (λ w. with_value b.0 w (to_scope number s)) (named_value number naming parameter q b 0 v) ∙ with_value_to number b.0 (named naming parameter q b 0 v) s
      bound_to parameter Wild_pattern q v s le = refl
      bound_to parameter (Tuple_pattern ps) q (Parts h vs) s le = all_bound_to parameter ps (1 + q) vs s (omega (arith, le))
      bound_to parameter (Tuple_pattern ps) q v s le = refl
      bound_to parameter (Record_pattern fs ps) q v s le = fields_bound_to parameter fs ps (1 + q) v s (omega (arith, le))
      bound_to parameter (Typed_pattern p e) q v s le =
          let some : 0 < pattern_numbers p = pattern_some p in
          (λ i. bound naming N others parameter p q ((ap (λ u. ascribed u (to_value number v)) (written_at false e q (omega (arith, le, some))) ∙ ascribed_value number (written_stars M false e (types q)) v) i) (to_scope number s))
          ∙ bound_to parameter p q (ascribed (written_stars M false e (types q)) v) s le

      all_bound_to : (parameter : Bool) (ps : Patterns Ref BindId) (q : ℕ) (vs : Values) (s : Scope) → q + all_pattern_numbers ps ≤ count → all_bound naming N others parameter ps q (to_values number vs) (to_scope number s) ≡ to_scope number (all_bound naming M types parameter ps q vs s)
      all_bound_to parameter (pattern_and p ps) q (value_and v vs) s le = ap (all_bound naming N others parameter ps (q + pattern_numbers p) (to_values number vs)) (bound_to parameter p q v s (omega (arith, le))) ∙ all_bound_to parameter ps (q + pattern_numbers p) vs (bound naming M types parameter p q v s) (omega (arith, le))
      all_bound_to parameter (pattern_and p ps) q no_value s le = refl
      all_bound_to parameter no_pattern q vs s le = refl

      fields_bound_to : (parameter : Bool) (fs : List Text) (ps : Patterns Ref BindId) (q : ℕ) (v : Value) (s : Scope) → q + all_pattern_numbers ps ≤ count → fields_bound naming N others parameter fs ps q (to_value number v) (to_scope number s) ≡ to_scope number (fields_bound naming M types parameter fs ps q v s)
      fields_bound_to parameter (f ∷ fs) (pattern_and p ps) q v s le = ap (fields_bound naming N others parameter fs ps (q + pattern_numbers p) (to_value number v))
          ((λ i. bound naming N others parameter p q (part_named_value M N m n number renumbers f v i) (to_scope number s)) ∙ bound_to parameter p q (part_named M f v) s (omega (arith, le)))
          ∙ fields_bound_to parameter fs ps (q + pattern_numbers p) v (bound naming M types parameter p q (part_named M f v) s) (omega (arith, le))
      fields_bound_to parameter (f ∷ fs) no_pattern q v s le = refl
      fields_bound_to parameter [] ps q v s le = refl

    mutual
      unfolding kept

      pub kept_same : (p : FlatPattern) (q : ℕ) (u : Stars) (v : Value) → kept naming N others p q u (to_value number v) ≡ kept naming M types p q u v
      kept_same (Bound_pattern b) q u v = ap (left u) (named_value number naming true q b 0 v) ∙ left_same number u (named naming true q b 0 v)
      kept_same (Tuple_pattern ps) q (Row us) (Parts h vs) = all_kept_same ps (1 + q) us vs
      kept_same (Tuple_pattern ps) q u v = refl
      kept_same (Record_pattern fs ps) q (Row us) (Parts h vs) = fields_kept_same fs ps (1 + q) h us vs
      kept_same (Record_pattern fs ps) q u v = refl
      kept_same (Typed_pattern p e) q u v = kept_same p q u v
      kept_same Wild_pattern q u v = refl

      all_kept_same : (ps : Patterns Ref BindId) (q : ℕ) (us : StarRow) (vs : Values) → all_kept naming N others ps q us (to_values number vs) ≡ all_kept naming M types ps q us vs
      all_kept_same (pattern_and p ps) q (star_and u us) (value_and v vs) = λ i. union (kept_same p q u v i) (all_kept_same ps (q + pattern_numbers p) us vs i)
      all_kept_same ps q us vs = refl

      fields_kept_same : (fs : List Text) (ps : Patterns Ref BindId) (q : ℕ) (h : Head) (us : StarRow) (vs : Values) → fields_kept naming N others fs ps q (renumbered_head number h) us (to_values number vs) ≡ fields_kept naming M types fs ps q h us vs
      fields_kept_same (f ∷ fs) (pattern_and p ps) q h us vs = λ i. union
          (((λ j. kept naming N others p q (star_at (place_same M N m n number renumbers f h j) us) (part_named_value M N m n number renumbers f (Parts h vs) j)) ∙ kept_same p q (star_at (place M.shapes (M.label f) h) us) (part_named M f (Parts h vs))) i)
          (fields_kept_same fs ps (q + pattern_numbers p) h us vs i)
      fields_kept_same (f ∷ fs) no_pattern q h us vs = refl
      fields_kept_same [] ps q h us vs = refl
