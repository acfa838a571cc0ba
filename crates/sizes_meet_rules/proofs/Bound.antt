-- What a let or a loop binds: its pattern takes a value, and may name sizes.
use Rattle.std.proofs.Common.{◌≡◌, ◌⊎◌, ℕ, suc, ◌+◌, ◌<◌, ◌≤◌, List, [], ◌∷◌, ◌++◌, length, Bool, true, false, cond, nat_eq, Some, None, Ok, Err, refl, sym, ap, ◌∙◌, subst, arith, inl, inr, eq-eqb}
use Rattle.fut_scalar.specs.declared.place.BindId.{BindId}
use Rattle.fut_flat.specs.Numbers.{pattern_numbers}
use Rattle.fut_flat.specs.Terms.{Bound_pattern, Wild_pattern, Tuple_pattern, Record_pattern, Typed_pattern}
use Rattle.fut_flat.specs.Erased.{FlatPattern, FlatType}
use Rattle.fut_types.specs.declared.Kind.{Kind}
use Rattle.fut_types.specs.Types.{Sub, Kinds}
use Rattle.fut_typing.specs.Names.{Names}
use Rattle.fut_typing.specs.Patterns.{Pattern_typed, with_pattern as typed_with}
use Rattle.fut_typing.specs.Scopes.{Scope as TypeScope, the_one, with_sizes as typed_with_sizes}
use Rattle.sized_types.specs.Sizes.{Free, Const, Name, Own, Unknown, Slot, Variable, Size, erased, renaming, renamed}
use Rattle.sized_types.specs.Standing.{stands}
use Rattle.fut_sizes.specs.Agreeing.{is_among, Escapes, Answer, then_do}
use Rattle.fut_sizes.specs.Functions.{is_slot}
use Rattle.fut_sizes.specs.Matching.{Found, nothing_found, found_size, counted, none_opened, data_way, meet}
use Rattle.fut_sizes.specs.Rules.{Each_hole, taken_by, Pattern_takes}
use Rattle.fut_sizes.specs.Scopes.{Scope, names, with_name, i64_size, with_size_names, Taken, number_in, as_slot, as_taken, taken, is_still_open, all_met, bound_at, bound_by}
use Rattle.fut_sizes.specs.Scoping.{Context, with_pattern, with_size_name, with_size_names as context_with_sizes}
use Rattle.fut_sizes.specs.Sizing.{bind_ids, pattern_noted}
use Rattle.fut_sizes.specs.Steps.{State, Done}
use Rattle.fut_sizes.specs.Suiting.{Each, Scoped, Data}
use Rattle.fut_sizes.specs.WrittenSizes.{same_dim, has_sizes, coerced}
use Rattle.sizes_meet_rules.specs.Known.{Says, Is_const, Known_names, Judged, Elsewhere}
use Rattle.sizes_meet_rules.specs.Plain.{Written_data, Is_name, Plain_pattern, Plain_sizes}
use Rattle.sizes_meet_rules.proofs.Binding.{Behind, value_behind, not_taken}
use Rattle.sizes_meet_rules.proofs.Functions.{number_closed}
use Rattle.sizes_meet_rules.proofs.Heading.{size_known, head_later}
use Rattle.sizes_meet_rules.proofs.Forming.{renaming_keeps, renaming_back, formed_replaced}
use Rattle.sizes_meet_rules.proofs.Meeting.{then_ok, same_ok, refused_ok, Met_in, With_met, met_no_slot, met_outside, In_nodes, elsewhere_narrower, says_more}
use Rattle.sizes_meet_rules.proofs.Naming.{Named_by, Stands_there, known_same, general_same, named_among, named_there, Head_name, With_head, judged_all, judged_with, known_with, known_wider}
use Rattle.sizes_meet_rules.proofs.Operating.{with_says}
use Rattle.sizes_meet_rules.proofs.Reading.{met_reads}
use Rattle.sizes_meet_rules.proofs.Replacing.{erased_replaced, hole_as}
use Rattle.sizes_meet_rules.proofs.Settling.{Is_settled, Any_variable}
use Rattle.sizes_meet_rules.proofs.Showing.{bound_ran, sizes_written}
use Rattle.sizes_meet_rules.proofs.Taking.{pattern_some, taken_is, Has_parts, bound_scope, Nodes, among_joined, among_first, among_later, names_home, Pattern_ran, Noted_pattern, noted_is, takes_it, data_written, written_settled}
use Rattle.sizes_meet_rules.proofs.Taking_sizes.{what, taken_as, reads_taken, slots_open, data_renamed, names_met, name_stands, taken_stands}

-- the sized type of a pattern that takes a value: with the size names that its written type has
abbrev pub pattern_size : Names → List BindId → FlatPattern → Size → Size
pattern_size N [] p t = t
pattern_size N (b ∷ bs) (Typed_pattern p e) t = coerced N e t
pattern_size N bs p t = t

-- ---- a loop refuses a size name that no level has at its body, a let at its value: where none is refused, that is the same

all_met_there : (unmet at i : ℕ) (bs : List BindId) (σ : Found) (z : Unit {0}) → all_met unmet i bs σ ≡ Ok z → all_met at i bs σ ≡ Ok z
all_met_there unmet at i [] σ z e = e
all_met_there unmet at i (b ∷ bs) σ z e = by_open (is_still_open (σ.size i)) (all_met_there unmet at (suc i) bs σ z) e
  where
    by_open : (c : Bool) → (all_met unmet (suc i) bs σ ≡ Ok z → all_met at (suc i) bs σ ≡ Ok z) → ◌≡◌ {A = Answer (Unit {0})} (cond c (Err (Escapes unmet)) (all_met unmet (suc i) bs σ)) (Ok z) → ◌≡◌ {A = Answer (Unit {0})} (cond c (Err (Escapes at)) (all_met at (suc i) bs σ)) (Ok z)
    by_open true go y = refused_ok y
    by_open false go y = go y

pub bound_here : (N : Names) (sizes : List BindId) (unmet at : ℕ) (p : FlatPattern) (t : Size) (scope : Scope) (k : Taken) → bound_at N sizes unmet at p t scope ≡ Ok k → bound_by N sizes at p t scope ≡ Ok k
unfolding bound_by
bound_here N sizes unmet at p t scope k e =
    let x1 = then_ok (taken N sizes at p t (record { scope = with_size_names sizes scope; found = counted (length sizes) nothing_found })) e in
    let x2 = then_ok (all_met unmet 0 sizes x1.first.found) x1.rest in
    ap (λ a. then_do a (λ y. then_do (all_met at 0 sizes y.found) (λ z. Ok y))) x1.done
    ∙ ap (λ a. then_do a (λ z. Ok x1.first)) (all_met_there unmet at 0 sizes x1.first.found x2.first x2.done) ∙ x2.rest

-- ---- the rules know the size names too

size_name_sizes : (b c : ℕ) (g : Bool) (u : Size) (scope : Scope) (G : Context) → (scope c ≡ Some (record { size = u; is_general = g }) → cond g (G.schemes c) (G.sizes c) ≡ Some u) → with_name b i64_size scope c ≡ Some (record { size = u; is_general = g }) → cond g ((with_size_name b G).schemes c) ((with_size_name b G).sizes c) ≡ Some u
size_name_sizes b c g u scope G known e = by_name (nat_eq b c) g e known
  where
    by_name : (k : Bool) (g : Bool) → cond k (Some (record { size = i64_size; is_general = false })) (scope c) ≡ Some (record { size = u; is_general = g }) → (scope c ≡ Some (record { size = u; is_general = g }) → cond g (G.schemes c) (G.sizes c) ≡ Some u) → cond g (cond k None (G.schemes c)) (cond k (Some i64_size) (G.sizes c)) ≡ Some u
    by_name true true z go = absurd (let y : false ≡ true = general_same i64_size u z in cc)
    by_name true false z go = ap Some (known_same i64_size u z)
    by_name false true z go = go z
    by_name false false z go = go z

judged_size : (In : Free → Type 0) (Vars : Variable → Type 0) (b : ℕ) (scope : Scope) (G : Context) → Judged In Vars scope G → Judged In Vars (with_name b i64_size scope) (with_size_name b G)
judged_size In Vars b scope G J = record {
  sizes = λ c u z. size_name_sizes b c false u scope G (J.sizes c u) z;
  schemes = λ c u z. size_name_sizes b c true u scope G (J.schemes c u) z;
  none_open = (λ c u z. by_size c u (nat_eq b c) z, λ c u z. by_scheme c u (nat_eq b c) z);
  finds = J.finds;
  finds_types = J.finds_types;
}
  where
    by_size : (c : ℕ) (u : Size) (k : Bool) → cond k (Some i64_size) (G.sizes c) ≡ Some u → Each_hole Any_variable u
    by_size c u true z = number_closed u z
    by_size c u false z = J.none_open.0 c u z

    by_scheme : (c : ℕ) (u : Size) (k : Bool) → cond k None (G.schemes c) ≡ Some u → Each_hole Any_variable u
    by_scheme c u true z = absurd (let w : None ≡ Some u = z in cc)
    by_scheme c u false z = J.none_open.1 c u z

judged_sizes : (In : Free → Type 0) (Vars : Variable → Type 0) (bs : List BindId) (scope : Scope) (G : Context) → Judged In Vars scope G → Judged In Vars (with_size_names bs scope) (context_with_sizes (bind_ids bs) G)
judged_sizes In Vars [] scope G J = J
judged_sizes In Vars (b ∷ bs) scope G J = judged_sizes In Vars bs (with_name b.0 i64_size scope) (with_size_name b.0 G) (judged_size In Vars b.0 scope G J)

module _ (N : Names) (types : Sub) (home : ℕ → ℕ) (K : Kinds) (places : Kind) where
  known_sizes : (In : Free → Type 0) (Vars : Variable → Type 0) (bs : List BindId) (scope : Scope) (T : TypeScope) → ((d : Free) → Head_name (bind_ids bs) d → In d) → Known_names In Vars home scope K types T → Known_names In Vars home (with_size_names bs scope) K types (typed_with_sizes bs T)
  known_sizes In Vars [] scope T more known = known
  known_sizes In Vars (b ∷ bs) scope T more known = known_sizes In Vars bs (with_name b.0 i64_size scope) (typed_with_sizes (b ∷ []) T) (λ d h. more d (head_later b.0 (bind_ids bs) d h))
      (size_known N types home K places In Vars b scope T (more (Name b.0) (ap (λ k. cond k true (is_among (bind_ids bs) b.0)) (eq-eqb b.0 b.0 refl))) known)

  module _ (In : Free → Type 0) (Vars : Variable → Type 0) (scope : Scope) (T : TypeScope) (sizes : List BindId) (p : FlatPattern) (t : Size) (lo q from at hi : ℕ) where
    abbrev pub width : Size
    width = pattern_size N sizes p t

    -- what is known behind the pattern, where the value's nodes go from one on, up to another
    abbrev pub Bound_in : Free → Type 0
    Bound_in d = Behind N types home K places (With_head (bind_ids sizes) In) Vars scope p width lo q from at hi d

    abbrev pub scope_behind : Scope
    scope_behind = bound_scope N p width (with_size_names sizes scope)

    abbrev pub bound_names : List ℕ
    bound_names = names p ++ bind_ids sizes

    pub record Binds (k : Taken) : Type 0 where
      pub scope_is : k.scope ≡ scope_behind
      pub says : Says Bound_in Vars width
      pub typed : erased width ≡ erased t
      pub known : Known_names In Vars home scope K types T → Known_names Bound_in Vars home scope_behind K types (typed_with the_one p q (typed_with_sizes sizes T))
      pub noted : (st : State) (w : Done (Unit {0})) → pattern_noted N types p q t st ≡ Ok w → Noted_pattern types home K places N p q width st w.state
      pub takes : (s : ℕ → Size) → Nodes N p q width s → Pattern_takes N types s home (taken_by (what sizes k.found) (bind_ids sizes)) p q t
      pub sizes_met : (c : ℕ) → is_among (bind_ids sizes) c ≡ true → stands t (what sizes k.found c) ≡ true
      pub taken_same : (d : Free) → is_slot d ≡ false → as_taken sizes k.found d ≡ taken_by (what sizes k.found) (bind_ids sizes) d
      pub judged : (s : ℕ → Size) (G : Context) → Judged In Vars scope G → Nodes N p q width s → Judged Bound_in Vars scope_behind (with_pattern s p q (context_with_sizes (bind_ids sizes) G))
      pub at_home : (c : ℕ) → is_among bound_names c ≡ true → (q ≤ home c) × (home c < q + pattern_numbers p)

    -- known before, met in the value, or a name of the pattern
    abbrev pub In_parts : Free → Type 0
    In_parts d = In d ⊎ (Met_in from at d ⊎ ((b : ℕ) × (d ≡ Name b) × (is_among bound_names b ≡ true)))

    module _ (plain : Plain_pattern types home K places p q) where
      pub split : (d : Free) → Bound_in d → In_parts d
      split d (inl (inl i)) = inl i
      split (Name b) (inl (inr h)) = inr (inr (b, refl, among_later (names p) (bind_ids sizes) b h))
      split (Const c) (inl (inr h)) = absurd h
      split (Own n i) (inl (inr h)) = absurd h
      split (Unknown n i) (inl (inr h)) = absurd h
      split (Slot i) (inl (inr h)) = absurd h
      split d (inr (inl m)) = inr (inl m.0)
      split d (inr (inr n)) = let w = named_there types home K places N p q plain width d n in inr (inr (w.0, w.1, among_first (names p) (bind_ids sizes) w.0 (named_among N p width w.0 (subst (Named_by N p width) w.1 n))))

    module _ (plain : Plain_pattern types home K places p q) (at_home : (c : ℕ) → is_among bound_names c ≡ true → (q ≤ home c) × (home c < q + pattern_numbers p)) (l0 : lo ≤ q) (l : q + pattern_numbers p ≤ at) (l3 : at ≤ hi) (E : Elsewhere N types home lo hi In) where
      pub bound_elsewhere : Elsewhere N types home at hi Bound_in
      bound_elsewhere = record { no_slot = λ d i. no_slot d (split plain d i); outside = λ d i o. outside d (split plain d i) o }
        where
          no_slot : (d : Free) → In_parts d → is_slot d ≡ false
          no_slot d (inl j) = E.no_slot d j
          no_slot d (inr (inl m)) = met_no_slot from at d m
          no_slot d (inr (inr (n, e, g))) = ap is_slot e

          outside : (d : Free) → In_parts d → In_nodes N types home at hi d → ⊥
          outside d (inl j) o = (elsewhere_narrower N types home lo hi at hi In (omega (arith, l0, l)) (omega arith) E).outside d j o
          outside d (inr (inl m)) o = met_outside N types home from at at hi (inl (omega arith)) d m o
          outside d (inr (inr (n, e, g))) o = let w = subst (λ y. In_nodes N types home at hi y) e o in let u = w.0 in let v = (at_home n g).1 in omega (arith, u, v, l)

  -- ---- a pattern that names no sizes

  module _ (In : Free → Type 0) (Vars : Variable → Type 0) (scope : Scope) (T : TypeScope) (p : FlatPattern) (t : Size) (lo q from at hi : ℕ) (plain : Plain_pattern types home K places p q) (fits : Pattern_typed N places K types p q T) (l0 : lo ≤ q) (l : q + pattern_numbers p ≤ hi) (E : Elsewhere N types home lo hi In) where
    none_named : (d : Free) → With_head [] In d → In d
    none_named d (inl i) = i
    none_named (Name b) (inr h) = absurd (let z : false ≡ true = h in cc)
    none_named (Const c) (inr h) = absurd h
    none_named (Own n i) (inr h) = absurd h
    none_named (Unknown n i) (inr h) = absurd h
    none_named (Slot i) (inr h) = absurd h

    abbrev Plain_in : Free → Type 0
    Plain_in d = Bound_in In Vars scope T [] p t lo q from at hi d

    pub plain_binds : (k : Taken) → Pattern_ran types home K places N p t (record { scope = scope; found = counted 0 nothing_found }) k → Says Plain_in Vars t → erased t ≡ types q → Binds In Vars scope T [] p t lo q from at hi k
    plain_binds k R says e = record {
      scope_is = R.scope;
      says = says;
      typed = refl;
      known = λ known. known_with N types K places Plain_in Vars home In Vars (λ d i. inl (inl i)) (λ v i. i) p q T plain fits t R.parts scope T known says e (λ d n. inr (inr n));
      noted = λ st w z. noted_is types home K places N p q plain t R.parts st w z;
      takes = λ s n. takes_it types home K places N s (taken_by (what [] k.found) []) (not_taken (what [] k.found)) p q plain t R.parts n;
      sizes_met = λ c y. absurd (let z : false ≡ true = y in cc);
      taken_same = taken_as [] k.found;
      judged = judged;
      at_home = at_home;
    }
      where
        at_home : (c : ℕ) → is_among (names p ++ []) c ≡ true → (q ≤ home c) × (home c < q + pattern_numbers p)
        at_home c z = by_side (among_joined (names p) [] c z)
          where
            by_side : (is_among (names p) c ≡ true) ⊎ (is_among [] c ≡ true) → (q ≤ home c) × (home c < q + pattern_numbers p)
            by_side (inl f) = names_home types home K places p q plain c f
            by_side (inr f) = absurd (let y : false ≡ true = f in cc)

        judged : (s : ℕ → Size) (G : Context) → Judged In Vars scope G → Nodes N p q t s → Judged Plain_in Vars (bound_scope N p t scope) (with_pattern s p q G)
        judged s G J nodes = judged_all Plain_in Vars (bound_scope N p t scope) (with_pattern s p q G) (judged_with N types K places Plain_in Vars home s [] In Vars p q plain t R.parts nodes scope G
            (λ b i h. E.outside (Name b) i (let x = h.0 in let y = h.1 in (omega (arith, x, l0), omega (arith, y, l)))) parts (λ v i. inl i) known J.none_open (hole_as Vars Any_variable (λ v i. tt) t says.variables) J.finds J.finds_types)
          where
            known : (b : ℕ) (g : Bool) (u : Size) → false ≡ false → is_among (names p) b ≡ false → scope b ≡ Some (record { size = u; is_general = g }) → cond g (G.schemes b) (G.sizes b) ≡ Some u
            known b true u k n z = J.schemes b u z
            known b false u k n z = J.sizes b u z

            met_there : (d : Free) → Met_in from at d → (stands t d ≡ true) ⊎ Is_const d → Stands_there (names p) t d ⊎ (Named_by N p t d ⊎ Is_const d)
            met_there (Const c) m h = inr (inr tt)
            met_there (Name c) m h = absurd m
            met_there (Own n i) m h = absurd m
            met_there (Slot i) m h = absurd m
            met_there (Unknown n i) m (inr h) = absurd h
            met_there (Unknown n i) m (inl h) = inl (h, λ b z. absurd (let y : Unknown n i ≡ Name b = z in cc))

            parts : (d : Free) → Plain_in d → In d ⊎ (Stands_there (names p) t d ⊎ (Named_by N p t d ⊎ Is_const d))
            parts d (inl i) = inl (none_named d i)
            parts d (inr (inl i)) = inr (met_there d i.0 i.1)
            parts d (inr (inr i)) = inr (inr (inl i))

  -- ---- one that does: a name with a written type

  one_part : (r : FlatPattern) → Is_name r → (w : Size) → Has_parts N r w
  one_part (Bound_pattern x) i w = tt
  one_part Wild_pattern i w = tt
  one_part (Tuple_pattern ps) i w = absurd i
  one_part (Record_pattern fs ps) i w = absurd i
  one_part (Typed_pattern r e) i w = absurd i

  one_node : (r : FlatPattern) → Is_name r → (q : ℕ) (w t : Size) (ρ : Free → Free) (s : ℕ → Size) → Nodes N r q w s → renamed ρ w ≡ t → Pattern_takes N types s home ρ r q t
  unfolding Pattern_takes
  one_node (Bound_pattern x) i q w t ρ s n e = ap (renamed ρ) n ∙ e
  one_node Wild_pattern i q w t ρ s n e = ap (renamed ρ) n ∙ e
  one_node (Tuple_pattern ps) i q w t ρ s n e = absurd i
  one_node (Record_pattern fs ps) i q w t ρ s n e = absurd i
  one_node (Typed_pattern r x) i q w t ρ s n e = absurd i

  one_taken : (r : FlatPattern) → Is_name r → (sizes : List BindId) (at : ℕ) (w : Size) (k after : Taken) → taken N sizes at r w k ≡ Ok after → (after.scope ≡ bound_scope N r w k.scope) × (after.found ≡ k.found)
  unfolding taken
  one_taken (Bound_pattern x) i sizes at w k after z = let y = sym (same_ok z) in (ap (λ (v : Taken). v.scope) y, ap (λ (v : Taken). v.found) y)
  one_taken Wild_pattern i sizes at w k after z = let y = sym (same_ok z) in (ap (λ (v : Taken). v.scope) y, ap (λ (v : Taken). v.found) y)
  one_taken (Tuple_pattern ps) i sizes at w k after z = absurd i
  one_taken (Record_pattern fs ps) i sizes at w k after z = absurd i
  one_taken (Typed_pattern r e) i sizes at w k after z = absurd i

  module _ (In : Free → Type 0) (Vars : Variable → Type 0) (scope : Scope) (T : TypeScope) (x : BindId) (xs : List BindId) (r : FlatPattern) (e : FlatType) (t : Size) (lo mid q from at hi : ℕ) (name : Is_name r) (written : Written_data e) (plain : Plain_pattern types home K places r q)
      (homes : (c : ℕ) → is_among (bind_ids (x ∷ xs)) c ≡ true → (home c ≡ q) × (is_among (names r) c ≡ false)) (fits : Pattern_typed N places K types (Typed_pattern r e) q (typed_with_sizes (x ∷ xs) T)) (l0 : lo ≤ q) (l : q + pattern_numbers r ≤ hi) (l1 : q < q + pattern_numbers r) (E : Elsewhere N types home lo hi In) where
    abbrev sizes : List BindId
    sizes = x ∷ xs

    abbrev w : Size
    w = coerced N e t

    abbrev Sized_in : Free → Type 0
    Sized_in d = Bound_in In Vars scope T sizes (Typed_pattern r e) t lo q from at hi d

    abbrev Head_in : Free → Type 0
    Head_in d = With_head (bind_ids sizes) In d

    pub record Steps (k : Taken) : Type 0 where
      pub after : Found
      pub met : meet mid data_way mid none_opened (renamed (as_slot sizes) w) none_opened t (counted (length sizes) nothing_found) ≡ Ok after
      pub scope_is : k.scope ≡ bound_scope N r w (with_size_names sizes scope)
      pub found : k.found ≡ after
      pub all_taken : (z : Unit {0}) × (all_met mid 0 sizes k.found ≡ Ok z)

    steps : (k : Taken) → bound_by N sizes mid (Typed_pattern r e) t scope ≡ Ok k → Steps k
    unfolding bound_by taken
    steps k z =
        let x1 = then_ok (taken N sizes mid (Typed_pattern r e) t (record { scope = with_size_names sizes scope; found = counted (length sizes) nothing_found })) z in
        let x2 = then_ok (all_met mid 0 sizes x1.first.found) x1.rest in
        let y1 = then_ok (meet mid data_way mid none_opened (renamed (as_slot sizes) w) none_opened t (counted (length sizes) nothing_found)) x1.done in
        let y2 = then_ok (has_sizes N true mid e w) y1.rest in
        let o = one_taken r name sizes mid w (record { scope = with_size_names sizes scope; found = y1.first }) x1.first y2.rest in
        let same = same_ok x2.rest in record {
          after = y1.first;
          met = y1.done;
          scope_is = ap (λ (v : Taken). v.scope) (sym same) ∙ o.0;
          found = ap (λ (v : Taken). v.found) (sym same) ∙ o.1;
          all_taken = (x2.first, ap (λ (v : Taken). all_met mid 0 sizes v.found) (sym same) ∙ x2.done);
        }

    module _ (k : Taken) (ran : bound_by N sizes mid (Typed_pattern r e) t scope ≡ Ok k) (says_value : Says (With_met In from at) Vars t) (is_data : Data t) (settled : Each (Scoped Is_settled) 0 t) (closed : Each_hole Any_variable t) (typed : erased t ≡ types q) (known : Known_names In Vars home scope K types T) where
      S : Steps k
      S = steps k ran

      -- the pattern's own sized type
      known_head : Known_names Head_in Vars home (with_size_names sizes scope) K types (typed_with_sizes sizes T)
      known_head = known_sizes Head_in Vars sizes scope T (λ d h. inr h) (λ b u a. known_wider N types K places Head_in Vars home In Vars (λ d i. inl i) (λ v i. i) scope b u (known b u a))

      more : (d : Free) → With_met In from at d → With_met Head_in from at d
      more d (inl i) = inl (inl i)
      more d (inr m) = inr m

      whole_says : Says (With_met Head_in from at) Vars w × (erased w ≡ erased t)
      unfolding coerced
      whole_says = with_says N types K places (With_met Head_in from at) Vars (λ c. inr tt) None same_dim (λ i d z. z) e written (sizes_written N types home K places Head_in (With_met Head_in from at) Vars (λ d i. inl i) e (with_size_names sizes scope) (typed_with_sizes sizes T) (types q) known_head fits.1) t 0 (says_more (With_met In from at) (With_met Head_in from at) Vars t more says_value)

      w_data : Data w
      unfolding coerced
      w_data = data_written N None same_dim e written t 0 is_data

      w_settled : Each (Scoped Is_settled) 0 w
      unfolding coerced
      w_settled = (with_says N types K places Is_settled Any_variable (λ c. refl) None same_dim (λ i d z. z) e written (written_settled e) t 0 (record { sizes = settled; variables = closed; formed = says_value.formed })).0.sizes

      says : Says Sized_in Vars w
      says = value_behind N types home K places Head_in Vars scope (Typed_pattern r e) w lo q from at hi whole_says.0 w_data

      read_taken : renamed (taken_by (what sizes S.after) (bind_ids sizes)) w ≡ t
      read_taken = sym (reads_taken sizes S.after w w_data w_settled)
          ∙ (met_reads mid mid none_opened (renamed (as_slot sizes) w) t (counted (length sizes) nothing_found) S.after (data_renamed sizes S.after (as_slot sizes) w w_data) is_data (formed_replaced (renaming (as_slot sizes)) (renaming_keeps (as_slot sizes)) (renaming_back (as_slot sizes)) w 0 whole_says.0.formed) says_value.formed
          (slots_open sizes S.after mid mid w w_data w_settled) settled (erased_replaced (renaming (as_slot sizes)) w 0 ∙ whole_says.1) S.met).0

      all_named : (c : ℕ) → is_among (bind_ids sizes) c ≡ true → stands w (Name c) ≡ true
      all_named = name_stands mid mid sizes w t w_data is_data w_settled settled (counted (length sizes) nothing_found) S.after (λ j. refl) S.met (subst (λ (σ : Found). (c : ℕ) → is_among (bind_ids sizes) c ≡ true → is_still_open (found_size σ (number_in 0 sizes c)) ≡ false) S.found (names_met mid 0 sizes k.found S.all_taken.0 S.all_taken.1))

      -- what the rules know behind it
      parts : (d : Free) → Sized_in d → In d ⊎ (Stands_there (names r) w d ⊎ (Named_by N r w d ⊎ Is_const d))
      parts d (inl (inl i)) = inl i
      parts (Name b) (inl (inr h)) = inr (inl (all_named b h, λ c z. ap (is_among (names r)) (let v : c ≡ b = (let u : Name b ≡ Name c = z in cc) in v) ∙ (homes b h).1))
      parts (Const c) (inl (inr h)) = absurd h
      parts (Own n i) (inl (inr h)) = absurd h
      parts (Unknown n i) (inl (inr h)) = absurd h
      parts (Slot i) (inl (inr h)) = absurd h
      parts d (inr (inl i)) = inr (met_there d i.0 i.1)
        where
          met_there : (d : Free) → Met_in from at d → (stands w d ≡ true) ⊎ Is_const d → Stands_there (names r) w d ⊎ (Named_by N r w d ⊎ Is_const d)
          met_there (Const c) m h = inr (inr tt)
          met_there (Name c) m h = absurd m
          met_there (Own n i) m h = absurd m
          met_there (Slot i) m h = absurd m
          met_there (Unknown n i) m (inr h) = absurd h
          met_there (Unknown n i) m (inl h) = inl (h, λ b z. absurd (let y : Unknown n i ≡ Name b = z in cc))
      parts d (inr (inr i)) = inr (inr (inl i))

      judged : (s : ℕ → Size) (G : Context) → Judged In Vars scope G → Nodes N r q w s → Judged Sized_in Vars (bound_scope N r w (with_size_names sizes scope)) (with_pattern s (Typed_pattern r e) q (context_with_sizes (bind_ids sizes) G))
      judged s G J0 nodes = judged_all Sized_in Vars (bound_scope N r w (with_size_names sizes scope)) (with_pattern s r q (context_with_sizes (bind_ids sizes) G)) (judged_with N types K places Sized_in Vars home s [] In Vars r q plain w (one_part r name w) nodes (with_size_names sizes scope) (context_with_sizes (bind_ids sizes) G)
          (λ b i h. E.outside (Name b) i (let y = h.0 in let z = h.1 in (omega (arith, y, l0), omega (arith, z, l)))) parts (λ v i. inl i) there J.none_open (hole_as Vars Any_variable (λ v i. tt) w whole_says.0.variables) J.finds J.finds_types)
        where
          J : Judged In Vars (with_size_names sizes scope) (context_with_sizes (bind_ids sizes) G)
          J = judged_sizes In Vars sizes scope G J0

          there : (b : ℕ) (g : Bool) (u : Size) → false ≡ false → is_among (names r) b ≡ false → with_size_names sizes scope b ≡ Some (record { size = u; is_general = g }) → cond g ((context_with_sizes (bind_ids sizes) G).schemes b) ((context_with_sizes (bind_ids sizes) G).sizes b) ≡ Some u
          there b true u k n z = J.schemes b u z
          there b false u k n z = J.sizes b u z

      noted_typed : (st : State) (v : Done (Unit {0})) → pattern_noted N types (Typed_pattern r e) q t st ≡ Ok v → pattern_noted N types r q w st ≡ Ok v
      unfolding pattern_noted
      noted_typed st v z = z

      pub sized_binds : Binds In Vars scope T sizes (Typed_pattern r e) t lo q from at hi k
      unfolding Pattern_takes
      sized_binds = record {
        scope_is = S.scope_is;
        says = says;
        typed = whole_says.1;
        known = λ n. known_with N types K places Sized_in Vars home Head_in Vars (λ d i. inl i) (λ v i. i) r q (typed_with_sizes sizes T) plain fits.0 w (one_part r name w) (with_size_names sizes scope) (typed_with_sizes sizes T) known_head says (whole_says.1 ∙ typed) (λ d i. inr (inr i));
        noted = λ st v z. let P = noted_is types home K places N r q plain w (one_part r name w) st v (noted_typed st v z) in record { kept = P.kept; nodes = P.nodes; dropped = P.dropped };
        takes = λ s n. one_node r name q w t (taken_by (what sizes k.found) (bind_ids sizes)) s n (subst (λ (σ : Found). renamed (taken_by (what sizes σ) (bind_ids sizes)) w ≡ t) (sym S.found) read_taken);
        sizes_met = subst (λ (σ : Found). (c : ℕ) → is_among (bind_ids sizes) c ≡ true → stands t (what sizes σ c) ≡ true) (sym S.found)
            (taken_stands mid mid sizes w t w_data is_data w_settled settled (counted (length sizes) nothing_found) S.after (λ j. refl) S.met (subst (λ (σ : Found). (c : ℕ) → is_among (bind_ids sizes) c ≡ true → is_still_open (found_size σ (number_in 0 sizes c)) ≡ false) S.found (names_met mid 0 sizes k.found S.all_taken.0 S.all_taken.1)) read_taken);
        taken_same = taken_as sizes k.found;
        judged = judged;
        at_home = at_home;
      }
        where
          at_home : (c : ℕ) → is_among (names r ++ bind_ids sizes) c ≡ true → (q ≤ home c) × (home c < q + pattern_numbers r)
          at_home c z = by_side (among_joined (names r) (bind_ids sizes) c z)
            where
              by_side : (is_among (names r) c ≡ true) ⊎ (is_among (bind_ids sizes) c ≡ true) → (q ≤ home c) × (home c < q + pattern_numbers r)
              by_side (inl f) = names_home types home K places r q plain c f
              by_side (inr f) = let h = (homes c f).0 in (omega (arith, h), omega (arith, h, l1))

  -- ---- any pattern of a let or a loop, which takes data

  pub pattern_plain : (sizes : List BindId) (p : FlatPattern) (q : ℕ) → Plain_sizes types home K places sizes p q → Plain_pattern types home K places p q
  pattern_plain [] p q h = h
  pattern_plain (x ∷ xs) (Typed_pattern r e) q h = (h.1, h.2)
  pattern_plain (x ∷ xs) (Bound_pattern b) q h = absurd h
  pattern_plain (x ∷ xs) Wild_pattern q h = absurd h
  pattern_plain (x ∷ xs) (Tuple_pattern ps) q h = absurd h
  pattern_plain (x ∷ xs) (Record_pattern fs ps) q h = absurd h

  -- the names that it binds are at home there
  pub sizes_home : (sizes : List BindId) (p : FlatPattern) (q : ℕ) → Plain_sizes types home K places sizes p q → (c : ℕ) → is_among (names p ++ bind_ids sizes) c ≡ true → (q ≤ home c) × (home c < q + pattern_numbers p)
  sizes_home sizes p q h c e = by_side (among_joined (names p) (bind_ids sizes) c e)
    where
      named : (xs : List BindId) (r : FlatPattern) → Plain_sizes types home K places xs r q → is_among (bind_ids xs) c ≡ true → home c ≡ q
      named [] r h f = absurd (let z : false ≡ true = f in cc)
      named (x ∷ xs) (Typed_pattern r e) h f = (h.3 c f).0
      named (x ∷ xs) (Bound_pattern b) h f = absurd h
      named (x ∷ xs) Wild_pattern h f = absurd h
      named (x ∷ xs) (Tuple_pattern ps) h f = absurd h
      named (x ∷ xs) (Record_pattern fs ps) h f = absurd h

      by_side : (is_among (names p) c ≡ true) ⊎ (is_among (bind_ids sizes) c ≡ true) → (q ≤ home c) × (home c < q + pattern_numbers p)
      by_side (inl f) = names_home types home K places p q (pattern_plain sizes p q h) c f
      by_side (inr f) = let z = named sizes p h f in let n = pattern_some p in (omega (arith, z), omega (arith, z, n))

  module _ (In : Free → Type 0) (Vars : Variable → Type 0) (scope : Scope) (T : TypeScope) (t : Size) (lo mid q from at hi : ℕ) (l0 : lo ≤ q) (E : Elsewhere N types home lo hi In) (says_value : Says (With_met In from at) Vars t) (is_data : Data t) (settled : Each (Scoped Is_settled) 0 t) (closed : Each_hole Any_variable t) (typed : erased t ≡ types q) (known : Known_names In Vars home scope K types T) where
    nothing_named : (p : FlatPattern) → q + pattern_numbers p ≤ hi → Plain_pattern types home K places p q → Pattern_typed N places K types p q T → (k : Taken) → bound_by N [] mid p t scope ≡ Ok k → Binds In Vars scope T [] p t lo q from at hi k
    nothing_named p l plain fits k ran = plain_binds In Vars scope T p t lo q from at hi plain fits l0 l E k
        (taken_is types home K places N mid p q T plain fits t is_data says_value.formed settled closed typed (record { scope = scope; found = counted 0 nothing_found }) k (bound_ran N mid p t scope k ran))
        (value_behind N types home K places (With_head [] In) Vars scope p t lo q from at hi (says_more (With_met In from at) (With_met (With_head [] In) from at) Vars t more says_value) is_data) typed
      where
        more : (d : Free) → With_met In from at d → With_met (With_head [] In) from at d
        more d (inl i) = inl (inl i)
        more d (inr m) = inr m

    pub binds : (sizes : List BindId) (p : FlatPattern) → q + pattern_numbers p ≤ hi → Plain_sizes types home K places sizes p q → Pattern_typed N places K types p q (typed_with_sizes sizes T) → (k : Taken) → bound_by N sizes mid p t scope ≡ Ok k → Binds In Vars scope T sizes p t lo q from at hi k
    binds [] p l plain fits k ran = nothing_named p l plain fits k ran
    binds (x ∷ xs) (Typed_pattern r e) l plain fits k ran = sized_binds In Vars scope T x xs r e t lo mid q from at hi plain.0 plain.1 plain.2 plain.3 fits l0 l (let n = pattern_some r in omega (arith, n)) E k ran says_value is_data settled closed typed known
    binds (x ∷ xs) (Bound_pattern b) l plain fits k ran = absurd plain
    binds (x ∷ xs) Wild_pattern l plain fits k ran = absurd plain
    binds (x ∷ xs) (Tuple_pattern ps) l plain fits k ran = absurd plain
    binds (x ∷ xs) (Record_pattern fs ps) l plain fits k ran = absurd plain
