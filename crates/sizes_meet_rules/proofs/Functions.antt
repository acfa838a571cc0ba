-- Functions: each parameter binds the sizes that are its own, and the last arrow those that the body meets.
use Rattle.std.proofs.Common.{◌≡◌, ◌⊎◌, ℕ, suc, ◌+◌, ◌<◌, ◌≤◌, List, [], length, Bool, true, false, ◌&&◌, cond, Option, Some, None, refl, sym, ap, ◌∙◌, subst, arith, inl, inr, lt-ltb, ltb-true, eq-eqb}
use Rattle.std.specs.Prelude.{nat_lt, nat_le}
use Rattle.std.proofs.lemmas.Bool.{ne_eqb, le-leb, leb-true}
use Rattle.fut_flat.specs.Terms.{Bound_pattern, Wild_pattern, Tuple_pattern, Record_pattern, Typed_pattern, no_pattern}
use Rattle.fut_flat.specs.Erased.{FlatPattern}
use Rattle.fut_types.specs.declared.Kind.{Kind}
use Rattle.fut_types.specs.Types.{Sub, Kinds}
use Rattle.fut_typing.specs.Names.{Names}
use Rattle.sized_types.specs.Sizes.{Free, Const, Name, Own, Unknown, Slot, Dim, At, Bound, Variable, Size, Hole, Open, Level, Built, Fun, Sizes, no_size, size_and, placed, binding, bound, renaming, renamed, replaced, all_replaced}
use Rattle.sized_types.specs.Standing.{stands}
use Rattle.fut_sizes.specs.Functions.{stands_among, sizes_in, position_from, or_position, value_name, is_own, is_met, without}
use Rattle.fut_sizes.specs.Rules.{Each_hole, Each_holes, Tells_size, Tells_type, Telling}
use Rattle.fut_sizes.specs.Scopes.{i64_size, Scope, names}
use Rattle.fut_sizes.specs.Sizing.{part_names}
use Rattle.fut_sizes.specs.Scoping.{Context, with_positions, with_pattern, if_some}
use Rattle.fut_sizes.specs.Suiting.{Each, Each_all, Scoped, Of_positions}
use Rattle.sizes_meet_rules.specs.Known.{is_i64_size, None_open, Is_const, Elsewhere}
use Rattle.sizes_meet_rules.proofs.Settling.{Any_variable}
use Rattle.sizes_meet_rules.specs.Plain.{Plain_pattern}
use Rattle.sizes_meet_rules.proofs.Arrows.{Is_value, value_place, Headed, value_apart, chosen, chosen_here, frame, position, May_stand, standing_own, frame_value, frame_met}
use Rattle.sizes_meet_rules.proofs.Listing.{Some_at, found_at, among_found, all_nth, sizes_are, sizes_listed, without_or}
use Rattle.sizes_meet_rules.proofs.Meeting.{Met_in, With_met, met_wider}
use Rattle.sizes_meet_rules.proofs.Naming.{value_home, Named_by, No_name_of, Stands_there, known_same, general_same, named_there, named_among, Judged_but, judged_with}
use Rattle.sizes_meet_rules.proofs.Taking.{Has_parts, bound_scope, Nodes, names_home}
use Rattle.fut_flat.specs.Numbers.{pattern_numbers}
use Rattle.fut_sizes.specs.Agreeing.{is_among}
use Rattle.sizes_meet_rules.proofs.Replacing.{each_as, each_both, each_back, hole_as}

-- ---- what a bound type names

module _ (position : Free → Option ℕ) (Q : ℕ → Type 0) where
  one_unbound : (j : ℕ) (x : Free) (o : Option ℕ) → position x ≡ o → Of_positions Q (suc j) (placed j x o) → (m : ℕ) → position x ≡ Some m → Q m
  one_unbound j x None e h m f = absurd (let z : None ≡ Some m = sym e ∙ f in cc)
  one_unbound j x (Some k) e h m f = subst Q (let z : Some k ≡ Some m = sym e ∙ f in cc) (h refl)

  mutual
    unfolding Each Each_all replaced all_replaced

    pub unbound : (t : Size) (j : ℕ) → Each (λ i d. Unit {0}) j t → Each (Of_positions Q) (suc j) (replaced (binding position) j t) → Each (λ i d. (x : Free) → d ≡ At x → (m : ℕ) → position x ≡ Some m → Q m) j t
    unbound (Hole v) j a h = tt
    unbound (Open n v u) j a h = tt
    unbound (Level (At y) t) j a h = ((λ x e. subst (λ z. (m : ℕ) → position z ≡ Some m → Q m) (let z : y ≡ x = cc in z) (one_unbound j y (position y) refl h.0)), unbound t j a.1 h.1)
    unbound (Level (Bound k i) t) j a h = ((λ x e. absurd (let z : Bound k i ≡ At x = e in cc)), unbound t j a.1 h.1)
    unbound (Built k ts) j a h = all_unbound ts j a h
    unbound (Fun k p r) j a h = (unbound p (suc j) a.0 h.0, unbound r (suc j) a.1 h.1)

    all_unbound : (ts : Sizes) (j : ℕ) → Each_all (λ i d. Unit {0}) j ts → Each_all (Of_positions Q) (suc j) (all_replaced (binding position) j ts) → Each_all (λ i d. (x : Free) → d ≡ At x → (m : ℕ) → position x ≡ Some m → Q m) j ts
    all_unbound no_size j a h = tt
    all_unbound (size_and t ts) j a h = (unbound t j a.0 h.0, all_unbound ts j a.1 h.1)

-- ---- sizes that a body meets

-- each is an unknown that is not known outside
abbrev pub Unknown_met : (Free → Type 0) → Free → Type 0
Unknown_met In x = (n : ℕ) × ((i : ℕ) × (x ≡ Unknown n i) × (In (Unknown n i) → ⊥))

abbrev pub Unmet : ℕ → ℕ → (Free → Type 0) → Type 0
Unmet lo hi In = (n i : ℕ) → In (Unknown n i) → is_met lo hi (Unknown n i) ≡ true → ⊥

pub met_between : (lo hi n i : ℕ) → is_met lo hi (Unknown n i) ≡ true → (lo ≤ n) × (n < hi)
met_between lo hi n i e = by_first (nat_le lo n) refl e
  where
    by_first : (b : Bool) → nat_le lo n ≡ b → b && nat_lt n hi ≡ true → (lo ≤ n) × (n < hi)
    by_first true f g = (leb-true lo n f, ltb-true n hi g)
    by_first false f g = absurd (let z : false ≡ true = g in cc)

pub met_unknown : (lo hi : ℕ) (In : Free → Type 0) → Unmet lo hi In → (t : Size) (x : Free) → stands_among (sizes_in (is_met lo hi) t) x ≡ true → Unknown_met In x
met_unknown lo hi In unmet t x e = by_place (found_at (sizes_in (is_met lo hi) t) 0 x w.0 w.1)
  where
    w : (i : ℕ) × (position_from 0 (sizes_in (is_met lo hi) t) x ≡ Some i)
    w = among_found (sizes_in (is_met lo hi) t) 0 x e

    by_form : (y : Free) → is_met lo hi y ≡ true → Unknown_met In y
    by_form (Unknown n i) h = (n, (i, refl, λ k. unmet n i k h))
    by_form (Const c) h = absurd (let z : false ≡ true = h in cc)
    by_form (Name c) h = absurd (let z : false ≡ true = h in cc)
    by_form (Own n i) h = absurd (let z : false ≡ true = h in cc)
    by_form (Slot i) h = absurd (let z : false ≡ true = h in cc)

    by_place : Some_at (sizes_in (is_met lo hi) t) 0 x w.0 → Unknown_met In x
    by_place (j, a, b, c) = by_form x (ap (is_met lo hi) (sym c) ∙ all_nth (is_met lo hi) (sizes_in (is_met lo hi) t) (sizes_are (is_met lo hi) t) j b)

pub none_met : (In : Free → Type 0) (x : Free) → stands_among [] x ≡ true → Unknown_met In x
none_met In x e = absurd (let z : false ≡ true = e in cc)

pub number_closed : (u : Size) → ◌≡◌ {A = Option Size} (Some i64_size) (Some u) → Each_hole Any_variable u
unfolding Each_hole Each_holes
number_closed u z = subst (Each_hole Any_variable) (let v : i64_size ≡ u = cc in v) tt

module _ (N : Names) (types : Sub) (home : ℕ → ℕ) (K : Kinds) (places : Kind) (lo at hi q : ℕ) (p : FlatPattern) (plain : Plain_pattern types home K places p q) (In : Free → Type 0) (Vars : Variable → Type 0) (E : Elsewhere N types home q hi In) (l0 : lo < q) (l2 : q < at) (l2' : q + pattern_numbers p ≤ at) (l3 : at ≤ hi) (parts : List ℕ) (among : (b : ℕ) → is_among (part_names p) b ≡ true → is_among parts b ≡ true)
    (bs : List ℕ) (own : Size) (own_is : Each (Scoped (λ x. (is_own bs q x ≡ true) ⊎ (In x ⊎ Is_const x))) 0 own) (own_stands : Each (Scoped (λ x. stands own x ≡ true)) 0 own) (head : Headed home bs p q own) where
  -- what is known behind the parameter
  abbrev pub Entered_in : Free → Type 0
  Entered_in d = In d ⊎ ((stands own d ≡ true) ⊎ Named_by N p own d)

  abbrev pub May : List Free → Free → Type 0
  May met x = May_stand N types home K places lo at hi q p plain In E l2 l3 bs own own_is own_stands head met x

  -- not the name of a part of an argument
  abbrev pub No_part : Free → Type 0
  No_part x = (b : ℕ) → x ≡ Name b → is_among parts b ≡ false

  -- a name is the value or a part of the argument
  abbrev Value_or_part : FlatPattern → Free → Type 0
  Value_or_part r x = Is_value (value_name r) x ⊎ ((b : ℕ) × (x ≡ Name b) × (is_among (part_names r) b ≡ true))

  named_value : (r : FlatPattern) (n : ℕ) → Plain_pattern types home K places r n → (x : Free) → Named_by N r own x → Value_or_part r x
  named_value (Bound_pattern y) n s x h = inl h.0
  named_value Wild_pattern n s x h = absurd h
  named_value (Tuple_pattern ps) n s x h = let w = named_there types home K places N (Tuple_pattern ps) n s own x h in inr (w.0, w.1, named_among N (Tuple_pattern ps) own w.0 (subst (λ z. Named_by N (Tuple_pattern ps) own z) w.1 h))
  named_value (Record_pattern fs ps) n s x h = let w = named_there types home K places N (Record_pattern fs ps) n s own x h in inr (w.0, w.1, named_among N (Record_pattern fs ps) own w.0 (subst (λ z. Named_by N (Record_pattern fs ps) own z) w.1 h))
  named_value (Typed_pattern r t) n s x h = named_value r n s.1 x h

  pub entered_may : (met : List Free) (x : Free) → Entered_in x → No_part x → May met x
  entered_may met x (inl i) bare = inl i
  entered_may met x (inr (inl s)) bare = inr (inl s)
  entered_may met x (inr (inr n)) bare = by_form (named_value p q plain x n)
    where
      by_form : Value_or_part p x → May met x
      by_form (inl v) = inr (inr (inl v))
      by_form (inr (b, e, f)) = absurd (let z : true ≡ false = sym (among b f) ∙ bare b e in cc)

  -- a parameter that is no number is no size of what follows
  named_number : (r : FlatPattern) (x : Free) → Named_by N r own x → Is_value (value_name r) x → is_i64_size own ≡ true
  named_number (Bound_pattern y) x h v = h.1
  named_number Wild_pattern x h v = absurd h
  named_number (Tuple_pattern ps) x h v = absurd v
  named_number (Record_pattern fs ps) x h v = absurd v
  named_number (Typed_pattern r t) x h v = named_number r x h v

  known_no_value : (x : Free) → (r : Option ℕ) → ((b : ℕ) → r ≡ Some b → home b ≡ q) → In x ⊎ Is_const x → Is_value r x → ⊥
  known_no_value x (Some b) h (inl i) v = let y = h b refl in E.outside (Name b) (subst In v i) (omega (arith, y), omega (arith, y, l2, l3))
  known_no_value x (Some b) h (inr c) v = subst Is_const v c
  known_no_value x None h o v = v

  own_no_value : (x : Free) (r : Option ℕ) → ((b : ℕ) → r ≡ Some b → is_among bs b ≡ false) → is_own bs q x ≡ true → Is_value r x → ⊥
  own_no_value x (Some b) apart o v = let z : false ≡ true = sym (apart b refl) ∙ ap (is_own bs q) (sym v) ∙ o in cc
  own_no_value x None apart o v = v

  pub no_value : (x : Free) → is_i64_size own ≡ false → Entered_in x → Is_value (value_name p) x → ⊥
  no_value x e (inl i) v = known_no_value x (value_name p) (value_home types home K places p q plain) (inl i) v
  no_value x e (inr (inl s)) v = by_own (standing_own N types home K places lo at hi q p plain In E l2 l3 bs own own_is own_stands head x s)
    where
      by_own : (is_own bs q x ≡ true) ⊎ (In x ⊎ Is_const x) → ⊥
      by_own (inl o) = own_no_value x (value_name p) (value_apart N types home K places lo at hi q p plain In E l2 l3 bs own own_is own_stands head) o v
      by_own (inr w) = known_no_value x (value_name p) (value_home types home K places p q plain) w v
  no_value x e (inr (inr n)) v = let z : true ≡ false = sym (named_number p x n v) ∙ e in cc

  is_met_here : (n i : ℕ) → lo ≤ n → n < hi → is_met lo hi (Unknown n i) ≡ true
  is_met_here n i a b = ap (λ c. c && nat_lt n hi) (le-leb lo n a) ∙ lt-ltb n hi b

  by_met : (met : List Free) (x : Free) → Met_in lo hi x → (is_met lo hi x ≡ true → stands_among met x ≡ true) → May met x
  by_met met (Const c) m k = inr (inr (inr (inl tt)))
  by_met met (Unknown n i) m k = inr (inr (inr (inr (k (is_met_here n i m.0 m.1)))))
  by_met met (Name c) m k = absurd m
  by_met met (Own n i) m k = absurd m
  by_met met (Slot i) m k = absurd m

  -- what the body gives, without the names of parts
  abbrev pub Left_in : Free → Type 0
  Left_in x = (Entered_in x ⊎ Met_in lo hi x) × No_part x

  -- in the last arrow, what is met has its position
  pub last_may : (t : Size) → Each (Scoped Left_in) 0 t → Each (Scoped (λ x. May (sizes_in (is_met lo hi) t) x × No_part x)) 0 t
  last_may t h = each_as (λ j d. Scoped Left_in j d × ((x : Free) → d ≡ At x → is_met lo hi x ≡ true → stands_among met x ≡ true)) (Scoped (λ x. May met x × No_part x)) here t 0
      (each_both (Scoped Left_in) (λ j d. (x : Free) → d ≡ At x → is_met lo hi x ≡ true → stands_among met x ≡ true) t 0 h (sizes_listed (is_met lo hi) t))
    where
      met : List Free
      met = sizes_in (is_met lo hi) t

      by_size : (x : Free) → Left_in x → (is_met lo hi x ≡ true → stands_among met x ≡ true) → May met x × No_part x
      by_size x (inl o, bare) k = (entered_may met x o bare, bare)
      by_size x (inr m, bare) k = (by_met met x m k, bare)

      here : (j : ℕ) (d : Dim) → Scoped Left_in j d × ((x : Free) → d ≡ At x → is_met lo hi x ≡ true → stands_among met x ≡ true) → Scoped (λ x. May met x × No_part x) j d
      here j (At x) o = by_size x o.0 (o.1 x refl)
      here j (Bound k i) o = o.0

  -- ---- what the rules know behind the parameter

  -- a name that the parameter neither binds nor chooses
  not_named : (c : ℕ) → is_among (names p) c ≡ false → position_from 0 (sizes_in (is_own bs q) own) (Name c) ≡ None → position N types home K places lo at hi q p plain In E l2 l3 bs own own_is own_stands head (Name c) ≡ None
  not_named c n e = ap (λ o. or_position o (value_place (value_name p) q (length (sizes_in (is_own bs q) own)) (Name c))) e ∙ by_value (value_name p) (other p q plain n)
    where
      by_value : (r : Option ℕ) → ((b : ℕ) → r ≡ Some b → b ≡ c → ⊥) → value_place r q (length (sizes_in (is_own bs q) own)) (Name c) ≡ None
      by_value (Some y) h = ap (λ b. cond b (Some (length (sizes_in (is_own bs q) own))) None) (ne_eqb y c (h y refl))
      by_value None h = refl

      other : (r : FlatPattern) (m : ℕ) → Plain_pattern types home K places r m → is_among (names r) c ≡ false → (b : ℕ) → value_name r ≡ Some b → b ≡ c → ⊥
      other (Bound_pattern y) m h n b e z = let w : y.0 ≡ b = (let v : Some y.0 ≡ Some b = e in cc) in let v : true ≡ false = sym (ap (λ b. cond b true false) (eq-eqb c y.0 (sym (w ∙ z)))) ∙ n in cc
      other Wild_pattern m h n b e z = let v : None ≡ Some b = e in cc
      other (Tuple_pattern ps) m h n b e z = let v : None ≡ Some b = e in cc
      other (Record_pattern fs ps) m h n b e z = let v : None ≡ Some b = e in cc
      other (Typed_pattern r t) m h n b e z = other r m h.1 n b e z

  -- and one that it chooses
  chosen_named : (c i : ℕ) → position_from 0 (sizes_in (is_own bs q) own) (Name c) ≡ Some i → position N types home K places lo at hi q p plain In E l2 l3 bs own own_is own_stands head (Name c) ≡ Some i
  chosen_named c i e = ap (λ o. or_position o (value_place (value_name p) q (length (sizes_in (is_own bs q) own)) (Name c))) e

  owned_no_name : (d : Free) → stands own d ≡ true → No_name_of (names p) d
  owned_no_name d s b e = by_among (is_among (names p) b) refl
    where
      at_home : is_among (names p) b ≡ true → (q ≤ home b) × (home b < q + pattern_numbers p)
      at_home f = names_home types home K places p q plain b f

      by_own : is_among (names p) b ≡ true → (is_own bs q d ≡ true) ⊎ (In d ⊎ Is_const d) → ⊥
      by_own f (inl o) = let z : false ≡ true = sym (head.apart b f) ∙ ap (is_own bs q) (sym e) ∙ o in cc
      by_own f (inr (inl i)) = let h = at_home f in let x = h.0 in let y = h.1 in E.outside (Name b) (subst In e i) (x, omega (arith, y, l2', l3))
      by_own f (inr (inr c)) = subst Is_const e c

      by_among : (k : Bool) → is_among (names p) b ≡ k → is_among (names p) b ≡ false
      by_among true f = absurd (by_own f (standing_own N types home K places lo at hi q p plain In E l2 l3 bs own own_is own_stands head d s))
      by_among false f = f

  -- the names that no parameter has chosen yet
  abbrev pub Left_names : List ℕ
  Left_names = without (sizes_in (is_own bs q) own) bs

  abbrev Known_there : Context → ℕ → Bool → Size → Type 0
  Known_there G b g u = cond g (G.schemes b) (if_some (position N types home K places lo at hi q p plain In E l2 l3 bs own own_is own_stands head (Name b)) (G.sizes b)) ≡ Some u

  pub entered_judged : Has_parts N p own → Each_hole Any_variable own → (s : ℕ → Size) (scope : Scope) (G : Context) → ((b : ℕ) → is_among bs b ≡ true → scope b ≡ Some (record { size = i64_size; is_general = false })) → Judged_but bs In Vars scope G → Nodes N p q own s
      → Judged_but Left_names Entered_in Vars (bound_scope N p own scope) (with_pattern s p q (with_positions (λ d. position N types home K places lo at hi q p plain In E l2 l3 bs own own_is own_stands head d) G))
  entered_judged fits closed s scope G heads J nodes = judged_with N types K places Entered_in Vars home s Left_names In Vars p q plain own fits nodes scope
      (with_positions (λ d. position N types home K places lo at hi q p plain In E l2 l3 bs own own_is own_stands head d) G) (λ b i h. let x = h.0 in let y = h.1 in E.outside (Name b) i (omega (arith, x), omega (arith, y, l2', l3))) split (λ v i. inl i) known none_open closed J.finds J.finds_types
    where
      split : (d : Free) → Entered_in d → In d ⊎ (Stands_there (names p) own d ⊎ (Named_by N p own d ⊎ Is_const d))
      split d (inl i) = inl i
      split d (inr (inl s)) = inr (inl (s, owned_no_name d s))
      split d (inr (inr n)) = inr (inr (inl n))

      -- what the parameter chooses is a number
      chosen_known : (b : ℕ) (g : Bool) (u : Size) (i : ℕ) → position_from 0 (sizes_in (is_own bs q) own) (Name b) ≡ Some i → scope b ≡ Some (record { size = u; is_general = g }) → Known_there G b g u
      chosen_known b true u i e z = absurd (let y : false ≡ true = general_same i64_size u (sym (heads b (chosen_here N types home K places lo at hi q p plain In E l2 l3 bs own own_is own_stands head (Name b) i e)) ∙ z) in cc)
      chosen_known b false u i e z = ap (λ o. if_some o (G.sizes b)) (chosen_named b i e) ∙ ap Some (known_same i64_size u (sym (heads b (chosen_here N types home K places lo at hi q p plain In E l2 l3 bs own own_is own_stands head (Name b) i e)) ∙ z))

      not_chosen_known : (b : ℕ) (g : Bool) (u : Size) → is_among bs b ≡ false → is_among (names p) b ≡ false → position_from 0 (sizes_in (is_own bs q) own) (Name b) ≡ None → scope b ≡ Some (record { size = u; is_general = g }) → Known_there G b g u
      not_chosen_known b true u k n e z = J.schemes b u k z
      not_chosen_known b false u k n e z = ap (λ o. if_some o (G.sizes b)) (not_named b n e) ∙ J.sizes b u k z

      none_there : (b : ℕ) → stands_among (sizes_in (is_own bs q) own) (Name b) ≡ true → position_from 0 (sizes_in (is_own bs q) own) (Name b) ≡ None → ⊥
      none_there b s e = let w = among_found (sizes_in (is_own bs q) own) 0 (Name b) s in let z : Some w.0 ≡ None = sym w.1 ∙ e in cc

      -- no name of the head that is left
      no_head : (b : ℕ) → is_among Left_names b ≡ false → position_from 0 (sizes_in (is_own bs q) own) (Name b) ≡ None → (c : Bool) → is_among bs b ≡ c → is_among bs b ≡ false
      no_head b k e false f = f
      no_head b k e true f = absurd (by_choice (without_or (sizes_in (is_own bs q) own) bs b f))
        where
          by_choice : (stands_among (sizes_in (is_own bs q) own) (Name b) ≡ true) ⊎ (is_among Left_names b ≡ true) → ⊥
          by_choice (inl y) = none_there b y e
          by_choice (inr y) = let z : true ≡ false = sym y ∙ k in cc

      known : (b : ℕ) (g : Bool) (u : Size) → is_among Left_names b ≡ false → is_among (names p) b ≡ false → scope b ≡ Some (record { size = u; is_general = g }) → Known_there G b g u
      known b g u k n z = by_position (position_from 0 (sizes_in (is_own bs q) own) (Name b)) refl
        where
          by_position : (o : Option ℕ) → position_from 0 (sizes_in (is_own bs q) own) (Name b) ≡ o → Known_there G b g u
          by_position (Some i) e = chosen_known b g u i e z
          by_position None e = not_chosen_known b g u (no_head b k e (is_among bs b) refl) n e z

      none_open : None_open (with_positions (λ d. position N types home K places lo at hi q p plain In E l2 l3 bs own own_is own_stands head d) G)
      none_open = (λ b u z. by_position (position N types home K places lo at hi q p plain In E l2 l3 bs own own_is own_stands head (Name b)) b u z, J.none_open.1)
        where
          by_position : (o : Option ℕ) (b : ℕ) (u : Size) → if_some o (G.sizes b) ≡ Some u → Each_hole Any_variable u
          by_position (Some i) b u z = number_closed u z
          by_position None b u z = J.none_open.0 b u z

  -- ---- what a function of data tells
  module _ (met : List Free) (mets : (x : Free) → stands_among met x ≡ true → Unknown_met In x) (s : ℕ → Size) (scope : Scope) (G : Context) (J : Judged_but bs In Vars scope G) (here : s q ≡ own) where
    abbrev many : ℕ
    many = length (chosen N types home K places lo at hi q p plain In E l2 l3 bs own own_is own_stands head)

    abbrev place : Free → Option ℕ
    place x = frame N types home K places lo at hi q p plain In E l2 l3 bs own own_is own_stands head met x

    tells_by : (x : Free) → (stands (s q) x ≡ true) ⊎ (G.finds x ≡ true) → Tells_size N types s home q G x
    tells_by (Const c) h = tt
    tells_by (Name c) h = h
    tells_by (Own n i) h = h
    tells_by (Unknown n i) h = h
    tells_by (Slot i) h = h

    tells_const : (x : Free) → Is_const x → Tells_size N types s home q G x
    tells_const (Const c) h = tt
    tells_const (Name c) h = absurd h
    tells_const (Own n i) h = absurd h
    tells_const (Unknown n i) h = absurd h
    tells_const (Slot i) h = absurd h

    tells_known : (x : Free) → (G.finds x ≡ true) ⊎ Is_const x → Tells_size N types s home q G x
    tells_known x (inl f) = tells_by x (inr f)
    tells_known x (inr c) = tells_const x c

    tells_one : (x : Free) → May met x → ((m : ℕ) → place x ≡ Some m → m < many) → Tells_size N types s home q G x
    tells_one x (inl i) low = tells_known x (J.finds x i)
    tells_one x (inr (inl y)) low = tells_by x (inl (ap (λ u. stands u x) here ∙ y))
    tells_one x (inr (inr (inl v))) low = absurd (let z = low many (frame_value N types home K places lo at hi q p plain In E l2 l3 bs own own_is own_stands head met mets x v) in omega (arith, z))
    tells_one x (inr (inr (inr (inl c)))) low = tells_const x c
    tells_one x (inr (inr (inr (inr y)))) low = absurd (let w = frame_met N types home K places lo at hi q p plain In E l2 l3 bs own own_is own_stands head met mets x y in let z = low (suc many + w.0) w.1 in omega (arith, z))

    any_dim : (j : ℕ) (d : Dim) → Scoped (May met) j d → Unit {0}
    any_dim j d h = tt

    -- of the body's size, which leaves the function by a renaming
    module _ (ρ : Free → Free) (leaves : (x : Free) → ((j : ℕ) × (ρ x ≡ Unknown lo j)) ⊎ ((ρ x ≡ x) × No_part x)) (u : Size) (met_is : met ≡ sizes_in (is_met lo hi) (renamed ρ u)) where
      abbrev Listed : ℕ → Dim → Type 0
      Listed j d = (x : Free) → d ≡ At x → is_met lo hi x ≡ true → stands_among met x ≡ true

      abbrev Low : ℕ → Dim → Type 0
      Low j d = (x : Free) → d ≡ At x → (m : ℕ) → place x ≡ Some m → m < many

      tells_left : (x : Free) → With_met Entered_in at hi x → (is_met lo hi (ρ x) ≡ true → stands_among met (ρ x) ≡ true) → ((m : ℕ) → place (ρ x) ≡ Some m → m < many) → Tells_size N types s home q G x
      tells_left x o listed low = by_left (leaves x)
        where
          by_size : With_met Entered_in at hi x → ρ x ≡ x → No_part x → Tells_size N types s home q G x
          by_size (inl i) e bare = tells_one x (entered_may met x i bare) (λ m z. low m (ap place e ∙ z))
          by_size (inr i) e bare = tells_one x (by_met met x (met_wider at hi lo hi (omega (arith, l0, l2)) (omega arith) x i) (λ z. subst (λ y. stands_among met y ≡ true) e (listed (ap (is_met lo hi) e ∙ z)))) (λ m z. low m (ap place e ∙ z))

          by_left : ((j : ℕ) × (ρ x ≡ Unknown lo j)) ⊎ ((ρ x ≡ x) × No_part x) → Tells_size N types s home q G x
          by_left (inl (j, e)) =
              let y = listed (ap (is_met lo hi) e ∙ is_met_here lo j (omega arith) (omega (arith, l0, l2, l3))) in
              let w = frame_met N types home K places lo at hi q p plain In E l2 l3 bs own own_is own_stands head met mets (ρ x) y in
              absurd (let z = low (suc many + w.0) w.1 in omega (arith, z))
          by_left (inr (e, bare)) = by_size o e bare

      pub tells : Each (Scoped (With_met Entered_in at hi)) 0 u → Each_hole Vars u → s at ≡ u → Telling N types s home no_pattern q at many (bound place own) (bound place (renamed ρ u)) G
      tells h v e = λ d1 d2 low. (
        subst (λ w. Each (Scoped (Tells_size N types s home q G)) 0 w) (sym e) (each_as (λ j d. Scoped (With_met Entered_in at hi) j d × (Listed j (renaming ρ j d) × Low j (renaming ρ j d))) (Scoped (Tells_size N types s home q G)) one_told u 0
            (each_both (Scoped (With_met Entered_in at hi)) (λ j d. Listed j (renaming ρ j d) × Low j (renaming ρ j d)) u 0 h
            (each_both (λ j d. Listed j (renaming ρ j d)) (λ j d. Low j (renaming ρ j d)) u 0 (each_back (renaming ρ) Listed u 0 listed_all) (each_back (renaming ρ) Low u 0 (low_all low))))),
        subst (λ w. Each_hole (Tells_type N types s home q G) w) (sym e) (hole_as Vars (Tells_type N types s home q G) (λ w o. inr (J.finds_types w o)) u v),
      )
        where
          listed_all : Each Listed 0 (renamed ρ u)
          listed_all = subst (λ ms. Each (λ j d. (x : Free) → d ≡ At x → is_met lo hi x ≡ true → stands_among ms x ≡ true) 0 (renamed ρ u)) (sym met_is) (sizes_listed (is_met lo hi) (renamed ρ u))

          any_dim : (j : ℕ) (d : Dim) → Listed j d → Unit {0}
          any_dim j d h = tt

          low_all : Each (Of_positions (λ i. i < many)) 1 (bound place (renamed ρ u)) → Each Low 0 (renamed ρ u)
          low_all low = unbound place (λ i. i < many) (renamed ρ u) 0 (each_as Listed (λ i d. Unit {0}) any_dim (renamed ρ u) 0 listed_all) low

          one_told : (j : ℕ) (d : Dim) → Scoped (With_met Entered_in at hi) j d × (Listed j (renaming ρ j d) × Low j (renaming ρ j d)) → Scoped (Tells_size N types s home q G) j d
          one_told j (At x) o = tells_left x o.0 (o.1.0 (ρ x) refl) (o.1.1 (ρ x) refl)
          one_told j (Bound k i) o = o.0
