-- The function type of one parameter: what it binds is found again where the function is entered.
use Rattle.std.proofs.Common.{◌≡◌, ◌⊎◌, ℕ, suc, ◌+◌, ◌-◌, ◌<◌, ◌≤◌, List, length, Bool, true, false, ◌||◌, cond, nat_eq, Option, Some, None, refl, sym, ap, ◌∙◌, subst, arith, inl, inr, eqb-true, eq-eqb, lt-ltb, ltb-true}
use Rattle.std.specs.Prelude.{nat_lt}
use Rattle.std.proofs.lemmas.Bool.{ne_eqb}
use Rattle.fut_flat.specs.Numbers.{pattern_numbers}
use Rattle.fut_flat.specs.Terms.{Bound_pattern, Wild_pattern, Tuple_pattern, Record_pattern, Typed_pattern}
use Rattle.fut_flat.specs.Erased.{FlatPattern}
use Rattle.fut_types.specs.declared.Kind.{Kind}
use Rattle.fut_types.specs.Types.{Sub, Kinds}
use Rattle.fut_typing.specs.Names.{Names}
use Rattle.sized_types.specs.Sizes.{Free, Const, Name, Own, Unknown, Slot, Dim, At, Bound, Size, Hole, Open, Level, Built, Fun, Sizes, no_size, size_and, is_free, is_dim, replaced, all_replaced, given, opened, placed, binding, bound}
use Rattle.sized_types.specs.Standing.{stands, some_stands}
use Rattle.fut_sizes.specs.Functions.{stands_among, sizes_in, position_from, or_position, value_name, value_position, is_own, Taking, frame_of, arrow}
use Rattle.fut_sizes.specs.Rules.{Outside, Away, Pattern_takes, Named_value, Binder}
use Rattle.fut_sizes.specs.Agreeing.{is_among}
use Rattle.fut_sizes.specs.Scopes.{names}
use Rattle.fut_sizes.specs.Suiting.{Each, Each_all, Scoped, Of_positions}
use Rattle.sizes_meet_rules.specs.Known.{Is_const, Elsewhere}
use Rattle.sizes_meet_rules.specs.Plain.{Plain_pattern}
use Rattle.sizes_meet_rules.proofs.Listing.{nth, Some_at, found_at, among_found, among_nth, once_found, all_nth, sizes_once, sizes_are, sizes_listed, listed_has}
use Rattle.sizes_meet_rules.proofs.Meeting.{In_nodes, each_scoped, inside_wider, order}
use Rattle.sizes_meet_rules.proofs.Naming.{value_home}
use Rattle.sizes_meet_rules.proofs.Taking.{pattern_some}
use Rattle.sizes_meet_rules.proofs.Replacing.{free_same, each_as, each_both, each_replaced, put_back}

-- what stands in a sized type has what all of its dims have
module _ (C : Free → Type 0) where
  mutual
    unfolding is_dim stands some_stands Each Each_all

    pub standing_has : (t : Size) (j : ℕ) (x : Free) → Each (λ j d. (y : Free) → d ≡ At y → C y) j t → stands t x ≡ true → C x
    standing_has (Hole v) j x h e = absurd (let z : false ≡ true = e in cc)
    standing_has (Open n v u) j x h e = absurd (let z : false ≡ true = e in cc)
    standing_has (Level (At y) t) j x h e = by_first (standing_has t j x h.1) (is_free y x) refl e
      where
        by_first : (stands t x ≡ true → C x) → (b : Bool) → is_free y x ≡ b → b || stands t x ≡ true → C x
        by_first go true q z = subst C (free_same y x q) (h.0 y refl)
        by_first go false q z = go z
    standing_has (Level (Bound k i) t) j x h e = standing_has t j x h.1 e
    standing_has (Built k ts) j x h e = some_standing_has ts j x h e
    standing_has (Fun k p r) j x h e = absurd (let z : false ≡ true = e in cc)

    some_standing_has : (ts : Sizes) (j : ℕ) (x : Free) → Each_all (λ j d. (y : Free) → d ≡ At y → C y) j ts → some_stands ts x ≡ true → C x
    some_standing_has no_size j x h e = absurd (let z : false ≡ true = e in cc)
    some_standing_has (size_and t ts) j x h e = by_first (standing_has t j x h.0) (some_standing_has ts j x h.1) (stands t x) refl e
      where
        by_first : (stands t x ≡ true → C x) → (some_stands ts x ≡ true → C x) → (b : Bool) → stands t x ≡ b → b || some_stands ts x ≡ true → C x
        by_first go rest true q z = go q
        by_first go rest false q z = rest z

-- ---- binding, and entering again

module _ (position : Free → Option ℕ) where
  pub opened_bound : (δ : ℕ → Free) (t : Size) → Each (Scoped (λ x. (m : ℕ) → position x ≡ Some m → δ m ≡ x)) 0 t → opened δ (bound position t) ≡ t
  opened_bound δ t h = put_back (binding position) (given δ) t 0 (each_as (Scoped (λ x. (m : ℕ) → position x ≡ Some m → δ m ≡ x)) (λ i d. given δ (suc i) (binding position i d) ≡ d) here t 0 h)
    where
      one_back : (j : ℕ) (x : Free) (o : Option ℕ) → position x ≡ o → ((m : ℕ) → position x ≡ Some m → δ m ≡ x) → given δ (suc j) (placed j x o) ≡ At x
      one_back j x None e h = refl
      one_back j x (Some m) e h = ap (λ b. cond b (At (δ m)) (Bound j m)) (eq-eqb (suc j) (suc j) refl) ∙ ap At (h m e)

      here : (j : ℕ) (d : Dim) → Scoped (λ x. (m : ℕ) → position x ≡ Some m → δ m ≡ x) j d → given δ (suc j) (binding position j d) ≡ d
      here j (At x) h = one_back j x (position x) refl h
      here j (Bound k i) l = ap (λ b. cond b (At (δ i)) (Bound k i)) (ne_eqb (suc k) (suc j) (λ q. omega (arith, q, l)))

  pub bound_scoped : (Q : Free → Type 0) (t : Size) → Each (Scoped (λ x. position x ≡ None → Q x)) 0 t → Each (Scoped Q) 1 (bound position t)
  bound_scoped Q t h = each_replaced (binding position) (Scoped (λ x. position x ≡ None → Q x)) (Scoped Q) suc (λ j. refl) here t 0 h
    where
      one : (j : ℕ) (x : Free) (o : Option ℕ) → position x ≡ o → (position x ≡ None → Q x) → Scoped Q (suc j) (placed j x o)
      one j x None e h = h e
      one j x (Some m) e h = omega arith

      here : (j : ℕ) (d : Dim) → Scoped (λ x. position x ≡ None → Q x) j d → Scoped Q (suc j) (binding position j d)
      here j (At x) h = one j x (position x) refl h
      here j (Bound k i) l = omega (arith, l)

  -- and back
  mutual
    unfolding Each Each_all replaced all_replaced

    bound_back : (In : Free → Type 0) (Q : ℕ → Type 0) (t : Size) (j : ℕ) → Each (Scoped In) j t → Each (Of_positions Q) (suc j) (replaced (binding position) j t) → Each (Scoped (λ x. (m : ℕ) → position x ≡ Some m → Q m)) j t
    bound_back In Q (Hole v) j h b = tt
    bound_back In Q (Open n v u) j h b = tt
    bound_back In Q (Level (At x) t) j h b = ((λ m e. subst (λ o. Of_positions Q (suc j) (placed j x o)) e b.0 refl), bound_back In Q t j h.1 b.1)
    bound_back In Q (Level (Bound k i) t) j h b = (h.0, bound_back In Q t j h.1 b.1)
    bound_back In Q (Built k ts) j h b = all_bound_back In Q ts j h b
    bound_back In Q (Fun k p r) j h b = (bound_back In Q p (suc j) h.0 b.0, bound_back In Q r (suc j) h.1 b.1)

    all_bound_back : (In : Free → Type 0) (Q : ℕ → Type 0) (ts : Sizes) (j : ℕ) → Each_all (Scoped In) j ts → Each_all (Of_positions Q) (suc j) (all_replaced (binding position) j ts) → Each_all (Scoped (λ x. (m : ℕ) → position x ≡ Some m → Q m)) j ts
    all_bound_back In Q no_size j h b = tt
    all_bound_back In Q (size_and t ts) j h b = (bound_back In Q t j h.0 b.0, all_bound_back In Q ts j h.1 b.1)

  pub bound_low : (Q : ℕ → Type 0) (t : Size) → Each (Scoped (λ x. (m : ℕ) → position x ≡ Some m → Q m)) 0 t → Each (Of_positions Q) 1 (bound position t)
  bound_low Q t h = each_replaced (binding position) (Scoped (λ x. (m : ℕ) → position x ≡ Some m → Q m)) (Of_positions Q) suc (λ j. refl) here t 0 h
    where
      one : (j : ℕ) (x : Free) (o : Option ℕ) → position x ≡ o → ((m : ℕ) → position x ≡ Some m → Q m) → Of_positions Q (suc j) (placed j x o)
      one j x None e h = tt
      one j x (Some m) e h = λ q. h m e

      here : (j : ℕ) (d : Dim) → Scoped (λ x. (m : ℕ) → position x ≡ Some m → Q m) j d → Of_positions Q (suc j) (binding position j d)
      here j (At x) h = one j x (position x) refl h
      here j (Bound k i) l = λ q. absurd (omega (arith, q, l))

-- ---- one parameter

-- the argument's value: its name, if it has one
abbrev pub value_of : Option ℕ → ℕ → Free
value_of (Some b) q = Name b
value_of None q = Unknown q 0

abbrev pub value_place : Option ℕ → ℕ → ℕ → Free → Option ℕ
value_place (Some b) q k (Name c) = cond (nat_eq b c) (Some k) None
value_place (Some b) q k d = None
value_place None q k (Unknown n i) = cond (nat_eq n q) (Some k) None
value_place None q k d = None

abbrev pub Is_value : Option ℕ → Free → Type 0
Is_value (Some b) d = d ≡ Name b
Is_value None d = ⊥

none_some : {A X : Type 0} {a : A} → None ≡ Some a → X
none_some {a = a} e = absurd (let z : None ≡ Some a = e in cc)

some_same : {A : Type 0} {a b : A} → Some a ≡ Some b → a ≡ b
some_same e = cc

-- size names of a head that no parameter before has chosen: no name of the pattern is one of them, and those that it chooses are at
-- home there
pub record Headed (home : ℕ → ℕ) (bs : List ℕ) (p : FlatPattern) (q : ℕ) (own : Size) : Type 0 where
  pub apart : (b : ℕ) → is_among (names p) b ≡ true → is_among bs b ≡ false
  pub at_home : (b : ℕ) → stands_among (sizes_in (is_own bs q) own) (Name b) ≡ true → home b ≡ q

-- the name that is a parameter's value is one of the pattern's
value_among : (p : FlatPattern) (b : ℕ) → value_name p ≡ Some b → is_among (names p) b ≡ true
value_among (Bound_pattern x) b e = ap (λ c. cond c true false) (eq-eqb b x.0 (let z : Some x.0 ≡ Some b = e in let y : b ≡ x.0 = cc in y))
value_among Wild_pattern b e = none_some e
value_among (Tuple_pattern ps) b e = none_some e
value_among (Record_pattern fs ps) b e = none_some e
value_among (Typed_pattern p t) b e = value_among p b e

module _ (N : Names) (types : Sub) (home : ℕ → ℕ) (K : Kinds) (places : Kind) (lo at hi q : ℕ) (p : FlatPattern) (plain : Plain_pattern types home K places p q) (In : Free → Type 0) (E : Elsewhere N types home q hi In) (l2 : q < at) (l3 : at ≤ hi)
    (bs : List ℕ) (own : Size) (own_is : Each (Scoped (λ x. (is_own bs q x ≡ true) ⊎ (In x ⊎ Is_const x))) 0 own) (own_stands : Each (Scoped (λ x. stands own x ≡ true)) 0 own) (head : Headed home bs p q own) where
  abbrev pub taking : Taking
  taking = record { pattern = p; node = q; size = own }

  abbrev pub chosen : List Free
  chosen = sizes_in (is_own bs q) own

  abbrev pub frame : List Free → Free → Option ℕ
  frame met d = frame_of chosen taking met d

  abbrev pub position : Free → Option ℕ
  position d = or_position (position_from 0 chosen d) (value_place (value_name p) q (length chosen) d)

  abbrev pub inside : List Free → ℕ → Free
  inside met i = cond (nat_lt i (length chosen)) (nth chosen i) (cond (nat_eq i (length chosen)) (value_of (value_name p) q) (nth met (i - suc (length chosen))))

  -- which sizes may stand in what the function gives
  abbrev pub May_stand : List Free → Free → Type 0
  May_stand met x = In x ⊎ ((stands own x ≡ true) ⊎ (Is_value (value_name p) x ⊎ (Is_const x ⊎ (stands_among met x ≡ true))))

  abbrev pub Or_const : Free → Type 0
  Or_const x = In x ⊎ Is_const x

  -- of the parameter's own sizes, or written
  abbrev pub Own_or_known : Free → Type 0
  Own_or_known x = (is_own bs q x ≡ true) ⊎ Or_const x

  own_free : (j : ℕ) (d : Dim) → Scoped Own_or_known j d → (x : Free) → d ≡ At x → Own_or_known x
  own_free j (At y) h x e = subst Own_or_known (let z : y ≡ x = cc in z) h
  own_free j (Bound k i) h x e = absurd (let z : Bound k i ≡ At x = e in cc)

  pub standing_own : (x : Free) → stands own x ≡ true → Own_or_known x
  standing_own x e = standing_has Own_or_known own 0 x (each_as (Scoped Own_or_known) (λ j d. (y : Free) → d ≡ At y → Own_or_known y) own_free own 0 own_is) e

  pub standing_chosen : (x : Free) → stands own x ≡ true → is_own bs q x ≡ true → stands_among chosen x ≡ true
  standing_chosen x e o = standing_has (λ y. is_own bs q y ≡ true → stands_among chosen y ≡ true) own 0 x (sizes_listed (is_own bs q) own) e o

  pub value_apart : (b : ℕ) → value_name p ≡ Some b → is_among bs b ≡ false
  value_apart b e = head.apart b (value_among p b e)

  -- what the parameter chooses is made or bound there
  chosen_at : (x : Free) → is_own bs q x ≡ true → stands_among chosen x ≡ true → In_nodes N types home q (1 + q) x
  chosen_at (Own n i) e s = let z : n ≡ q = eqb-true n q e in (omega (arith, z), omega (arith, z))
  chosen_at (Name c) e s = let z : home c ≡ q = head.at_home c s in (omega (arith, z), omega (arith, z))
  chosen_at (Const c) e s = absurd (let z : false ≡ true = e in cc)
  chosen_at (Unknown n i) e s = absurd (let z : false ≡ true = e in cc)
  chosen_at (Slot i) e s = absurd (let z : false ≡ true = e in cc)

  pub owned_here : (x : Free) → is_own bs q x ≡ true → stands own x ≡ true → In_nodes N types home q (1 + q) x
  owned_here x e s = chosen_at x e (standing_chosen x s e)

  pub chosen_here : (x : Free) (i : ℕ) → position_from 0 chosen x ≡ Some i → is_own bs q x ≡ true
  chosen_here x i e = by_place (found_at chosen 0 x i e)
    where
      by_place : Some_at chosen 0 x i → is_own bs q x ≡ true
      by_place (j, a, b, c) = ap (is_own bs q) (sym c) ∙ all_nth (is_own bs q) chosen (sizes_are (is_own bs q) own) j b

  pub chosen_among : (x : Free) (i : ℕ) → position_from 0 chosen x ≡ Some i → stands_among chosen x ≡ true
  chosen_among x i e = by_place (found_at chosen 0 x i e)
    where
      by_place : Some_at chosen 0 x i → stands_among chosen x ≡ true
      by_place (j, a, b, c) = subst (λ y. stands_among chosen y ≡ true) c (among_nth chosen j b)

  -- what is chosen stands in the parameter's type, where all of its sizes do
  pub chosen_stands : (x : Free) → stands_among chosen x ≡ true → stands own x ≡ true
  chosen_stands x s = listed_has (λ y. stands own y ≡ true) (is_own bs q) own own_stands x s

  -- its name is at home there
  abbrev Named_home : Option ℕ → Type 0
  Named_home r = (b : ℕ) → r ≡ Some b → home b ≡ q

  value_here : (r : Option ℕ) → Named_home r → (x : Free) (k i : ℕ) → value_place r q k x ≡ Some i → In_nodes N types home q (1 + q) x
  value_here (Some y) h (Name c) k i e = by_name (nat_eq y c) refl e
    where
      by_name : (b : Bool) → nat_eq y c ≡ b → cond b (Some k) None ≡ Some i → (q ≤ home c) × (home c < 1 + q)
      by_name true f e = let z : home c ≡ q = ap home (sym (eqb-true y c f)) ∙ h y refl in (omega (arith, z), omega (arith, z))
      by_name false f e = none_some e
  value_here (Some y) h (Const c) k i e = none_some e
  value_here (Some y) h (Own n m) k i e = none_some e
  value_here (Some y) h (Unknown n m) k i e = none_some e
  value_here (Some y) h (Slot m) k i e = none_some e
  value_here None h (Unknown n m) k i e = by_node (nat_eq n q) refl e
    where
      by_node : (b : Bool) → nat_eq n q ≡ b → cond b (Some k) None ≡ Some i → (q ≤ n) × (n < 1 + q)
      by_node true f e = let z : n ≡ q = eqb-true n q f in (omega (arith, z), omega (arith, z))
      by_node false f e = none_some e
  value_here None h (Const c) k i e = none_some e
  value_here None h (Own n m) k i e = none_some e
  value_here None h (Name n) k i e = none_some e
  value_here None h (Slot m) k i e = none_some e

  -- what has a position is bound at the parameter
  pub position_here : (x : Free) (i : ℕ) → position x ≡ Some i → In_nodes N types home q (1 + q) x
  position_here x i e = by_chosen (position_from 0 chosen x) refl e
    where
      by_chosen : (o : Option ℕ) → position_from 0 chosen x ≡ o → or_position o (value_place (value_name p) q (length chosen) x) ≡ Some i → In_nodes N types home q (1 + q) x
      by_chosen (Some j) f e = chosen_at x (chosen_here x j f) (chosen_among x j f)
      by_chosen None f e = value_here (value_name p) (value_home types home K places p q plain) x (length chosen) i e

  const_outside : (a b : ℕ) (x : Free) → Is_const x → In_nodes N types home a b x → ⊥
  const_outside a b (Const c) i h = h
  const_outside a b (Name c) i h = i
  const_outside a b (Own c m) i h = i
  const_outside a b (Unknown c m) i h = i
  const_outside a b (Slot c) i h = i

  pub known_nowhere : (x : Free) → Or_const x → In_nodes N types home q (1 + q) x → ⊥
  known_nowhere x (inl i) h = E.outside x i (inside_wider N types home q (1 + q) q hi (omega arith) (omega (arith, l2, l3)) x h)
  known_nowhere x (inr i) h = const_outside q (1 + q) x i h

  pub known_no_position : (x : Free) → Or_const x → position x ≡ None
  known_no_position x o = by_position (position x) refl
    where
      by_position : (r : Option ℕ) → position x ≡ r → position x ≡ None
      by_position None e = e
      by_position (Some m) e = absurd (known_nowhere x o (position_here x m e))

  module _ (met : List Free) (mets : (x : Free) → stands_among met x ≡ true → (n : ℕ) × ((i : ℕ) × (x ≡ Unknown n i) × (In (Unknown n i) → ⊥))) where
    -- the value of the argument, where no chosen size is meant
    value_known : (r : Option ℕ) (x : Free) → (In x ⊎ ((stands own x ≡ true) ⊎ (Is_value r x ⊎ (Is_const x ⊎ (stands_among met x ≡ true))))) → position_from 0 chosen x ≡ None → (k i : ℕ) → value_position k q r x ≡ Some i → (i ≡ k) × (value_of r q ≡ x)
    value_known (Some y) (Name c) o f k i e = by_name (nat_eq y c) refl e
      where
        by_name : (b : Bool) → nat_eq y c ≡ b → cond b (Some k) None ≡ Some i → (i ≡ k) × (Name y ≡ Name c)
        by_name true g e = (sym (some_same e), ap Name (eqb-true y c g))
        by_name false g e = none_some e
    value_known (Some y) (Const c) o f k i e = none_some e
    value_known (Some y) (Own n m) o f k i e = none_some e
    value_known (Some y) (Unknown n m) o f k i e = none_some e
    value_known (Some y) (Slot m) o f k i e = none_some e
    value_known None (Own n m) o f k i e = by_node (nat_eq n q) refl e
      where
        there : In (Own n m) ⊎ ((stands own (Own n m) ≡ true) ⊎ (⊥ ⊎ (⊥ ⊎ (stands_among met (Own n m) ≡ true)))) → n ≡ q → ⊥
        there (inl i) z = E.outside (Own n m) i (omega (arith, z), omega (arith, z, l2, l3))
        there (inr (inl s)) z = let w = among_found chosen 0 (Own n m) (standing_chosen (Own n m) s (eq-eqb n q z)) in none_some (sym f ∙ w.1)
        there (inr (inr (inl s))) z = s
        there (inr (inr (inr (inl s)))) z = s
        there (inr (inr (inr (inr s)))) z = let w = mets (Own n m) s in let y : Own n m ≡ Unknown w.0 w.1.0 = w.1.1 in cc

        by_node : (b : Bool) → nat_eq n q ≡ b → cond b (Some k) None ≡ Some i → (i ≡ k) × (Unknown q 0 ≡ Own n m)
        by_node true g e = absurd (there o (eqb-true n q g))
        by_node false g e = none_some e
    value_known None (Const c) o f k i e = none_some e
    value_known None (Name c) o f k i e = none_some e
    value_known None (Unknown n m) o f k i e = none_some e
    value_known None (Slot m) o f k i e = none_some e

    at_chosen : (j : ℕ) → j < length chosen → inside met j ≡ nth chosen j
    at_chosen j b = ap (λ c. cond c (nth chosen j) (cond (nat_eq j (length chosen)) (value_of (value_name p) q) (nth met (j - suc (length chosen))))) (lt-ltb j (length chosen) b)

    not_less : (j k : ℕ) → k ≤ j → nat_lt j k ≡ false
    not_less j k b = by_less (nat_lt j k) refl
      where
        by_less : (c : Bool) → nat_lt j k ≡ c → nat_lt j k ≡ false
        by_less true e = absurd (let z : j < k = ltb-true j k e in omega (arith, z, b))
        by_less false e = e

    pub at_value : inside met (length chosen) ≡ value_of (value_name p) q
    at_value = ap (λ c. cond c (nth chosen (length chosen)) (cond (nat_eq (length chosen) (length chosen)) (value_of (value_name p) q) (nth met (length chosen - suc (length chosen))))) (not_less (length chosen) (length chosen) (omega arith))
        ∙ ap (λ c. cond c (value_of (value_name p) q) (nth met (length chosen - suc (length chosen)))) (eq-eqb (length chosen) (length chosen) refl)

    at_met : (j : ℕ) → inside met (suc (length chosen) + j) ≡ nth met j
    at_met j = ap (λ c. cond c (nth chosen i) (cond (nat_eq i (length chosen)) (value_of (value_name p) q) (nth met (i - suc (length chosen))))) (not_less i (length chosen) (omega arith))
        ∙ ap (λ c. cond c (value_of (value_name p) q) (nth met (i - suc (length chosen)))) (ne_eqb i (length chosen) (λ z. omega (arith, z))) ∙ ap (nth met) (let z : i - suc (length chosen) ≡ j = omega arith in z)
      where
        i : ℕ
        i = suc (length chosen) + j

    pub frame_back : (x : Free) → May_stand met x → (m : ℕ) → frame met x ≡ Some m → inside met m ≡ x
    frame_back x o m e = by_chosen (position_from 0 chosen x) refl e
      where
        chosen_back : Some_at chosen 0 x m → inside met m ≡ x
        chosen_back (j, a, b, c) = ap (inside met) (let z : m ≡ j = omega (arith, a) in z) ∙ at_chosen j b ∙ c

        met_back : Some_at met (suc (length chosen)) x m → inside met m ≡ x
        met_back (j, a, b, c) = ap (inside met) a ∙ at_met j ∙ c

        by_value : (r : Option ℕ) → value_position (length chosen) q (value_name p) x ≡ r → position_from 0 chosen x ≡ None → or_position r (position_from (suc (length chosen)) met x) ≡ Some m → inside met m ≡ x
        by_value (Some j) f g e = let k = value_known (value_name p) x o g (length chosen) j f in ap (inside met) (sym (some_same e) ∙ k.0) ∙ at_value ∙ k.1
        by_value None f g e = met_back (found_at met (suc (length chosen)) x m e)

        by_chosen : (r : Option ℕ) → position_from 0 chosen x ≡ r → or_position r (or_position (value_position (length chosen) q (value_name p) x) (position_from (suc (length chosen)) met x)) ≡ Some m → inside met m ≡ x
        by_chosen (Some j) f e = chosen_back (found_at chosen 0 x m (f ∙ e))
        by_chosen None f e = by_value (value_position (length chosen) q (value_name p) x) refl f e

    pub frame_none : (x : Free) → May_stand met x → frame met x ≡ None → Or_const x
    frame_none x (inl i) e = inl i
    frame_none x (inr (inl s)) e = by_own (standing_own x s)
      where
        by_own : Own_or_known x → Or_const x
        by_own (inl o) = let w = among_found chosen 0 x (standing_chosen x s o) in absurd (let z : Some w.0 ≡ None = ap (λ r. or_position r (or_position (value_position (length chosen) q (value_name p) x) (position_from (suc (length chosen)) met x))) (sym w.1) ∙ e in cc)
        by_own (inr o) = o
    frame_none x (inr (inr (inl s))) e = absurd (by_value (value_name p) s (position_from 0 chosen x) e)
      where
        by_value : (r : Option ℕ) → Is_value r x → (c : Option ℕ) → or_position c (or_position (value_position (length chosen) q r x) (position_from (suc (length chosen)) met x)) ≡ None → ⊥
        by_value r s (Some j) e = let z : Some j ≡ None = e in cc
        by_value (Some y) s None e = let z : Some (length chosen) ≡ None = ap (λ b. or_position (cond b (Some (length chosen)) None) (position_from (suc (length chosen)) met x)) (sym (eq-eqb y y refl)) ∙ ap (λ w. or_position (value_position (length chosen) q (Some y) w) (position_from (suc (length chosen)) met x)) (sym s) ∙ e in cc
        by_value None s None e = s
    frame_none x (inr (inr (inr (inl i)))) e = inr i
    frame_none x (inr (inr (inr (inr s)))) e = absurd (by_chosen (position_from 0 chosen x) (value_position (length chosen) q (value_name p) x) e)
      where
        by_chosen : (c r : Option ℕ) → or_position c (or_position r (position_from (suc (length chosen)) met x)) ≡ None → ⊥
        by_chosen (Some j) r e = let z : Some j ≡ None = e in cc
        by_chosen None (Some j) e = let z : Some j ≡ None = e in cc
        by_chosen None None e = let w = among_found met (suc (length chosen)) x s in let z : Some w.0 ≡ None = sym w.1 ∙ e in cc

    -- ---- the parameter's arrow

    pub arrow_back : (t : Size) → Each (Scoped (May_stand met)) 0 t → opened (inside met) (bound (frame met) t) ≡ t
    arrow_back t h = opened_bound (frame met) (inside met) t (each_scoped (May_stand met) (λ x. (m : ℕ) → frame met x ≡ Some m → inside met m ≡ x) frame_back t 0 h)

    pub own_may : Each (Scoped (May_stand met)) 0 own
    own_may = each_scoped (λ x. stands own x ≡ true) (May_stand met) (λ x h. inr (inl h)) own 0 own_stands

    -- and what all sizes have beside
    pub arrow_scoped : (X : Free → Type 0) → Each (Scoped X) 0 own → (t : Size) → Each (Scoped (λ x. May_stand met x × X x)) 0 t → Each (Scoped (λ x. Or_const x × X x)) 0 (arrow chosen taking met t)
    unfolding Each
    arrow_scoped X o t h = (
      bound_scoped (frame met) (λ x. Or_const x × X x) own (each_as (λ j d. Scoped (May_stand met) j d × Scoped X j d) (Scoped (λ x. frame met x ≡ None → Or_const x × X x)) both own 0 (each_both (Scoped (May_stand met)) (Scoped X) own 0 own_may o)),
      bound_scoped (frame met) (λ x. Or_const x × X x) t (each_scoped (λ x. May_stand met x × X x) (λ x. frame met x ≡ None → Or_const x × X x) (λ x w e. (frame_none x w.0 e, w.1)) t 0 h),
    )
      where
        both : (j : ℕ) (d : Dim) → Scoped (May_stand met) j d × Scoped X j d → Scoped (λ x. frame met x ≡ None → Or_const x × X x) j d
        both j (At x) w = λ e. (frame_none x w.0 e, w.1)
        both j (Bound k i) w = w.0

    -- what is known has no position
    known_not_chosen : (x : Free) → Or_const x → position_from 0 chosen x ≡ None
    known_not_chosen x o = by_place (position_from 0 chosen x) refl
      where
        by_place : (r : Option ℕ) → position_from 0 chosen x ≡ r → position_from 0 chosen x ≡ None
        by_place None f = f
        by_place (Some i) f = absurd (known_nowhere x o (chosen_at x (chosen_here x i f) (chosen_among x i f)))

    known_not_value : (r : Option ℕ) → Named_home r → (x : Free) → Or_const x → (k i : ℕ) → value_position k q r x ≡ Some i → ⊥
    known_not_value (Some y) h (Name c) o k i e = by_name (nat_eq y c) refl e
      where
        by_name : (b : Bool) → nat_eq y c ≡ b → cond b (Some k) None ≡ Some i → ⊥
        by_name true g e = known_nowhere (Name c) o (let z : home c ≡ q = ap home (sym (eqb-true y c g)) ∙ h y refl in (omega (arith, z), omega (arith, z)))
        by_name false g e = none_some e
    known_not_value (Some y) h (Const c) o k i e = none_some e
    known_not_value (Some y) h (Own n m) o k i e = none_some e
    known_not_value (Some y) h (Unknown n m) o k i e = none_some e
    known_not_value (Some y) h (Slot m) o k i e = none_some e
    known_not_value None h (Own n m) o k i e = by_node (nat_eq n q) refl e
      where
        by_node : (b : Bool) → nat_eq n q ≡ b → cond b (Some k) None ≡ Some i → ⊥
        by_node true g e = known_nowhere (Own n m) o (let z : n ≡ q = eqb-true n q g in (omega (arith, z), omega (arith, z)))
        by_node false g e = none_some e
    known_not_value None h (Const c) o k i e = none_some e
    known_not_value None h (Name c) o k i e = none_some e
    known_not_value None h (Unknown n m) o k i e = none_some e
    known_not_value None h (Slot m) o k i e = none_some e

    known_not_met : (x : Free) → Or_const x → stands_among met x ≡ true → ⊥
    known_not_met x (inl i) s = let w = mets x s in w.1.2 (subst In w.1.1 i)
    known_not_met x (inr c) s = let w = mets x s in subst Is_const w.1.1 c

    met_found : (k : ℕ) (x : Free) (m : ℕ) → position_from k met x ≡ Some m → stands_among met x ≡ true
    met_found k x m e = by_place (found_at met k x m e)
      where
        by_place : Some_at met k x m → stands_among met x ≡ true
        by_place (j, a, b, c) = subst (λ y. stands_among met y ≡ true) c (among_nth met j b)

    known_no_frame : (x : Free) → Or_const x → (m : ℕ) → frame met x ≡ Some m → ⊥
    known_no_frame x o m e = by_value (value_position (length chosen) q (value_name p) x) refl (ap (λ r. or_position r (or_position (value_position (length chosen) q (value_name p) x) (position_from (suc (length chosen)) met x))) (sym (known_not_chosen x o)) ∙ e)
      where
        by_value : (r : Option ℕ) → value_position (length chosen) q (value_name p) x ≡ r → or_position (value_position (length chosen) q (value_name p) x) (position_from (suc (length chosen)) met x) ≡ Some m → ⊥
        by_value (Some j) f g = known_not_value (value_name p) (value_home types home K places p q plain) x o (length chosen) j f
        by_value None f g = known_not_met x o (met_found (suc (length chosen)) x m (ap (λ r. or_position r (position_from (suc (length chosen)) met x)) (sym f) ∙ g))

    -- each size that is chosen stands in the parameter
    frame_listed : (i : ℕ) → i < length chosen → frame met (nth chosen i) ≡ Some i
    frame_listed i b = ap (λ r. or_position r (or_position (value_position (length chosen) q (value_name p) (nth chosen i)) (position_from (suc (length chosen)) met (nth chosen i)))) (once_found chosen (sizes_once (is_own bs q) own) 0 i b) ∙ ap Some (let z : 0 + i ≡ i = omega arith in z)

    pub chosen_there : (i : ℕ) → i < length chosen → Each (Of_positions (λ m. m ≡ i → ⊥)) 1 (bound (frame met) own) → ⊥
    chosen_there i b h = listed_has (λ x. (m : ℕ) → frame met x ≡ Some m → m ≡ i → ⊥) (is_own bs q) own (bound_back (frame met) (λ x. stands own x ≡ true) (λ m. m ≡ i → ⊥) own 0 own_stands h) (nth chosen i) (among_nth chosen i b) i (frame_listed i b) refl

    pub frame_chosen : (x : Free) → stands own x ≡ true → (m : ℕ) → frame met x ≡ Some m → m < length chosen
    frame_chosen x s m e = by_own (standing_own x s)
      where
        by_place : (i : ℕ) → m ≡ i → Some_at chosen 0 x i → m < length chosen
        by_place i z (j, a, b, c) = omega (arith, z, a, b)

        by_own : Own_or_known x → m < length chosen
        by_own (inl o) =
            let w = among_found chosen 0 x (standing_chosen x s o) in
            by_place w.0 (some_same (sym e ∙ ap (λ r. or_position r (or_position (value_position (length chosen) q (value_name p) x) (position_from (suc (length chosen)) met x))) w.1)) (found_at chosen 0 x w.0 w.1)
        by_own (inr o) = absurd (known_no_frame x o m e)

    not_chosen : (x : Free) → is_own bs q x ≡ false → position_from 0 chosen x ≡ None
    not_chosen x e = by_place (position_from 0 chosen x) refl
      where
        by_place : (r : Option ℕ) → position_from 0 chosen x ≡ r → position_from 0 chosen x ≡ None
        by_place None f = f
        by_place (Some i) f = absurd (let z : false ≡ true = sym e ∙ chosen_here x i f in cc)

    -- the argument's value, and what is met, have positions behind those that are chosen
    pub frame_value : (x : Free) → Is_value (value_name p) x → frame met x ≡ Some (length chosen)
    frame_value x v = by_value (value_name p) value_apart v
      where
        by_value : (r : Option ℕ) → ((b : ℕ) → r ≡ Some b → is_among bs b ≡ false) → Is_value r x → or_position (position_from 0 chosen x) (or_position (value_position (length chosen) q r x) (position_from (suc (length chosen)) met x)) ≡ Some (length chosen)
        by_value (Some y) apart v = ap (λ c. or_position c (or_position (value_position (length chosen) q (Some y) x) (position_from (suc (length chosen)) met x))) (not_chosen x (ap (is_own bs q) v ∙ apart y refl)) ∙ ap (λ z. or_position (value_position (length chosen) q (Some y) z) (position_from (suc (length chosen)) met x)) v
            ∙ ap (λ b. or_position (cond b (Some (length chosen)) None) (position_from (suc (length chosen)) met x)) (eq-eqb y y refl)
        by_value None apart v = absurd v

    pub frame_met : (x : Free) → stands_among met x ≡ true → (j : ℕ) × (frame met x ≡ Some (suc (length chosen) + j))
    frame_met x s = by_form (mets x s)
      where
        no_value : (r : Option ℕ) (n i : ℕ) → value_position (length chosen) q r (Unknown n i) ≡ None
        no_value (Some b) n i = refl
        no_value None n i = refl

        by_place : (m : ℕ) → position_from (suc (length chosen)) met x ≡ Some m → Some_at met (suc (length chosen)) x m → (j : ℕ) × (position_from (suc (length chosen)) met x ≡ Some (suc (length chosen) + j))
        by_place m e (j, a, b, c) = (j, e ∙ ap Some a)

        by_form : (n : ℕ) × ((i : ℕ) × (x ≡ Unknown n i) × (In (Unknown n i) → ⊥)) → (j : ℕ) × (frame met x ≡ Some (suc (length chosen) + j))
        by_form (n, (i, e, u)) =
            let w = among_found met (suc (length chosen)) x s in
            let k = by_place w.0 w.1 (found_at met (suc (length chosen)) x w.0 w.1) in (
              k.0,
              ap (λ c. or_position c (or_position (value_position (length chosen) q (value_name p) x) (position_from (suc (length chosen)) met x))) (not_chosen x (ap (is_own bs q) e))
                  ∙ ap (λ z. or_position (value_position (length chosen) q (value_name p) z) (position_from (suc (length chosen)) met x)) e ∙ ap (λ c. or_position c (position_from (suc (length chosen)) met x)) (no_value (value_name p) n i) ∙ k.1,
            )

    -- what has the place of the argument's value is that
    pub value_is : (x : Free) → May_stand met x → frame met x ≡ Some (length chosen) → Is_value (value_name p) x
    value_is x o e = by_form o
      where
        here : value_of (value_name p) q ≡ x
        here = sym at_value ∙ frame_back x o (length chosen) e

        other : (r : Option ℕ) → value_of r q ≡ x → (Unknown q 0 ≡ x → ⊥) → Is_value r x
        other (Some b) z never = sym z
        other None z never = never z

        known : Or_const x → Unknown q 0 ≡ x → ⊥
        known (inl i) z = E.outside (Unknown q 0) (subst In (sym z) i) (omega arith, omega (arith, l2, l3))
        known (inr c) z = subst Is_const (sym z) c

        by_own : Own_or_known x → Unknown q 0 ≡ x → ⊥
        by_own (inl s) z = let w : false ≡ true = ap (is_own bs q) z ∙ s in cc
        by_own (inr w) z = known w z

        by_form : May_stand met x → Is_value (value_name p) x
        by_form (inl i) = other (value_name p) here (known (inl i))
        by_form (inr (inl s)) = other (value_name p) here (by_own (standing_own x s))
        by_form (inr (inr (inl v))) = v
        by_form (inr (inr (inr (inl c)))) = other (value_name p) here (known (inr c))
        by_form (inr (inr (inr (inr s)))) = absurd (let w = frame_met x s in let z : suc (length chosen) + w.0 ≡ length chosen = some_same (sym w.1 ∙ e) in omega (arith, z))

    placed_value : (r : Option ℕ) → ((b : ℕ) → r ≡ Some b → is_among bs b ≡ false) → or_position (position_from 0 chosen (value_of r q)) (value_place r q (length chosen) (value_of r q)) ≡ Some (length chosen)
    placed_value (Some y) apart = ap (λ r. or_position r (value_place (Some y) q (length chosen) (Name y))) (not_chosen (Name y) (apart y refl)) ∙ ap (λ b. cond b (Some (length chosen)) None) (eq-eqb y y refl)
    placed_value None apart = ap (λ r. or_position r (value_place None q (length chosen) (Unknown q 0))) (not_chosen (Unknown q 0) refl) ∙ ap (λ b. cond b (Some (length chosen)) None) (eq-eqb q q refl)

    pub placed_at : (i : ℕ) → i ≤ length chosen → position (inside met i) ≡ Some i
    placed_at i a = by_side (order i (length chosen))
      where
        by_side : (i < length chosen) ⊎ (length chosen ≤ i) → position (inside met i) ≡ Some i
        by_side (inl b) = ap position (at_chosen i b) ∙ ap (λ r. or_position r (value_place (value_name p) q (length chosen) (nth chosen i))) (once_found chosen (sizes_once (is_own bs q) own) 0 i b) ∙ ap Some (let z : 0 + i ≡ i = omega arith in z)
        by_side (inr b) = let z : i ≡ length chosen = omega (arith, a, b) in ap (λ j. position (inside met j)) z ∙ ap position at_value ∙ placed_value (value_name p) value_apart ∙ ap Some (sym z)

    module _ (Elow : Elsewhere N types home lo (1 + lo) In) (s : ℕ → Size) (here : s q ≡ own) (takes : Pattern_takes N types s home (λ d. d) p q (s q)) where
      abbrev Kept : Free → Type 0
      Kept d = (position d ≡ None) × Outside N types s home at hi d × Outside N types s home lo (1 + lo) d

      kept_of : (x : Free) → Or_const x → Kept x
      kept_of x (inl i) = (known_no_position x (inl i), λ h. E.outside x i (inside_wider N types home at hi q hi (omega (arith, l2)) (omega arith) x h), λ h. Elow.outside x i h)
      kept_of x (inr i) = (known_no_position x (inr i), λ h. const_outside at hi x i h, λ h. const_outside lo (1 + lo) x i h)

      pub own_away : (x : Free) → Own_or_known x → stands own x ≡ true → In_nodes N types home (q + pattern_numbers p) hi x → ⊥
      own_away x (inl e) y h = beyond x (owned_here x e y) h (pattern_some p)
        where
          beyond : (x : Free) → In_nodes N types home q (1 + q) x → In_nodes N types home (q + pattern_numbers p) hi x → 1 ≤ pattern_numbers p → ⊥
          beyond (Const c) i h n = i
          beyond (Slot c) i h n = i
          beyond (Name c) i h n = let a = i.1 in let b = h.0 in omega (arith, a, b, n)
          beyond (Own c m) i h n = let a = i.1 in let b = h.0 in omega (arith, a, b, n)
          beyond (Unknown c m) i h n = let a = i.1 in let b = h.0 in omega (arith, a, b, n)
      own_away x (inr (inl i)) y h = E.outside x i (inside_wider N types home (q + pattern_numbers p) hi q hi (omega arith) (omega arith) x h)
      own_away x (inr (inr c)) y h = const_outside (q + pattern_numbers p) hi x c h

      pub value_named : (r : Option ℕ) (d : Free) → d ≡ value_of r q → Named_value N types s home r d
      value_named (Some y) d e = e
      value_named None d e = tt

      pub all_kept : (t : Size) → Each (Scoped (May_stand met)) 0 t → Each (Scoped Kept) 0 (arrow chosen taking met t)
      unfolding Each
      all_kept t h = (bound_scoped (frame met) Kept own (each_scoped (May_stand met) (λ x. frame met x ≡ None → Kept x) (λ x o e. kept_of x (frame_none x o e)) own 0 own_may), bound_scoped (frame met) Kept t (each_scoped (May_stand met) (λ x. frame met x ≡ None → Kept x) (λ x o e. kept_of x (frame_none x o e)) t 0 h))

      abbrev pub binder : (t : Size) → Each (Scoped (May_stand met)) 0 t → Binder N types s home lo at hi p q (arrow chosen taking met t)
      binder t h = record {
        chosen = length chosen;
        from = bound (frame met) own;
        to = bound (frame met) t;
        function = refl;
        inside = inside met;
        position = position;
        placed = placed_at;
        own = λ d i e. inside_wider N types home q (1 + q) q (q + pattern_numbers p) (omega arith) (let n = pattern_some p in omega (arith, n)) d (position_here d i e);
        parameter = here ∙ sym (arrow_back own own_may);
        parts = takes;
        low = bound_low (frame met) (λ i. i < length chosen) own (each_scoped (λ x. stands own x ≡ true) (λ x. (m : ℕ) → frame met x ≡ Some m → m < length chosen) frame_chosen own 0 own_stands);
        kept = all_kept t h;
        away = subst (λ w. Away N types s home (q + pattern_numbers p) hi w) (sym here) (each_scoped (λ x. stands own x ≡ true) (λ x. Outside N types s home (q + pattern_numbers p) hi x) (λ x y. own_away x (standing_own x y) y) own 0 own_stands);
        named = value_named (value_name p) (inside met (length chosen)) at_value;
      }
