-- A lambda whose parameters come with sizes that the context around does not know: behind its parameters they are found, since they
-- stand there. So the rules that hold where they are known beforehand hold without that.
use Rattle.std.proofs.Common.{◌≡◌, ◌⊎◌, ℕ, ◌+◌, List, [], ◌∷◌, Bool, true, false, ◌||◌, cond, nat_eq, Option, Some, None, refl, sym, ap, ◌∙◌, subst, inl, inr, eq-eqb, eqb-true}
use Rattle.std.proofs.Math.Path.{fun_ext}
use Rattle.fut_scalar.specs.declared.place.BindId.{BindId}
use Rattle.fut_flat.specs.declared.prim.Ref.{Ref}
use Rattle.fut_flat.specs.Numbers.{pattern_numbers}
use Rattle.fut_flat.specs.Terms.{Bound_pattern, Wild_pattern, Tuple_pattern, Record_pattern, Typed_pattern, Patterns, no_pattern, pattern_and}
use Rattle.fut_flat.specs.Erased.{FlatPattern}
use Rattle.fut_types.specs.declared.Kind.{Kind}
use Rattle.fut_types.specs.Types.{Sub, Kinds}
use Rattle.fut_typing.specs.Names.{Names}
use Rattle.sized_types.specs.Sizes.{Free, Const, Name, Own, Unknown, Slot, Variable, Size, opened}
use Rattle.sized_types.specs.Standing.{stands, has_hole, stands_told, has_told}
use Rattle.fut_sizes.specs.Agreeing.{is_among}
use Rattle.fut_sizes.specs.Rules.{Tells_size, Tells_type, Telling, Takes}
use Rattle.fut_sizes.specs.Scopes.{names, all_names}
use Rattle.fut_sizes.specs.Scoping.{Context, is_name, is_number, if_some, with_name, with_entered, with_positions, with_pattern, with_all_patterns}
use Rattle.sizes_meet_rules.proofs.Entering.{param, Own_nodes}
use Rattle.sizes_meet_rules.proofs.Meeting.{each_scoped}
use Rattle.sizes_meet_rules.proofs.Naming.{or_first, or_later}
use Rattle.sizes_meet_rules.proofs.Replacing.{hole_as}
use Rattle.sizes_meet_rules.proofs.Taking.{first_node, among_first, among_later}

-- ---- two contexts, of which the first finds some sizes more

pub record Same_but (S : Free → Bool) (F G : Context) : Type 0 where
  pub sizes : F.sizes ≡ G.sizes
  pub schemes : F.schemes ≡ G.schemes
  pub general : F.general ≡ G.general
  pub finds : (d : Free) → F.finds d ≡ G.finds d || S d
  pub finds_types : F.finds_types ≡ G.finds_types

or_none : (a : Bool) → a || false ≡ a
or_none true = refl
or_none false = refl

regrouped : (a b c e : Bool) → a || (b || (c || e)) ≡ (a || (b || c)) || e
regrouped true b c e = refl
regrouped false true c e = refl
regrouped false false c e = refl

same_context : (F G : Context) → Same_but (λ d. false) F G → F ≡ G
same_context F G h =
    ap (λ (x : ℕ → Option Size). record { sizes = x; schemes = F.schemes; general = F.general; finds = F.finds; finds_types = F.finds_types }) h.sizes
    ∙ ap (λ (x : ℕ → Option Size). record { sizes = G.sizes; schemes = x; general = F.general; finds = F.finds; finds_types = F.finds_types }) h.schemes
    ∙ ap (λ (x : ℕ → Variable → Bool). record { sizes = G.sizes; schemes = G.schemes; general = x; finds = F.finds; finds_types = F.finds_types }) h.general
    ∙ ap (λ (x : Free → Bool). record { sizes = G.sizes; schemes = G.schemes; general = G.general; finds = x; finds_types = F.finds_types }) (fun_ext (λ d. h.finds d ∙ or_none (G.finds d)))
    ∙ ap (λ (x : Variable → Bool). record { sizes = G.sizes; schemes = G.schemes; general = G.general; finds = G.finds; finds_types = x }) h.finds_types

name_is : (b : ℕ) (d : Free) → is_name b d ≡ true → d ≡ Name b
name_is b (Name c) e = ap Name (sym (eqb-true b c e))
name_is b (Const c) e = absurd (let z : false ≡ true = e in cc)
name_is b (Own n i) e = absurd (let z : false ≡ true = e in cc)
name_is b (Unknown n i) e = absurd (let z : false ≡ true = e in cc)
name_is b (Slot i) e = absurd (let z : false ≡ true = e in cc)

-- it finds no name of these more
abbrev pub Unnamed_by : (Free → Bool) → List ℕ → Type 0
Unnamed_by S bs = (b : ℕ) → is_among bs b ≡ true → S (Name b) ≡ false

module _ (S : Free → Bool) where
  entered_same : (t : Size) (F G : Context) → Same_but S F G → Same_but S (with_entered t F) (with_entered t G)
  entered_same t F G h = record {
    sizes = h.sizes;
    schemes = h.schemes;
    general = h.general;
    finds = λ d. ap (λ b. stands t d || (stands_told t d || b)) (h.finds d) ∙ regrouped (stands t d) (stands_told t d) (G.finds d) (S d);
    finds_types = ap {B = Variable → Bool} (λ (f : Variable → Bool) (v : Variable). has_hole t v || (has_told t v || f v)) h.finds_types;
  }

  named_same : (b : ℕ) (t : Size) (F G : Context) → S (Name b) ≡ false → Same_but S F G → Same_but S (with_name b t F) (with_name b t G)
  named_same b t F G none h = record {
    sizes = ap {B = ℕ → Option Size} (λ (f : ℕ → Option Size) (c : ℕ). cond (nat_eq b c) (Some t) (f c)) h.sizes;
    schemes = ap {B = ℕ → Option Size} (λ (f : ℕ → Option Size) (c : ℕ). cond (nat_eq b c) None (f c)) h.schemes;
    general = h.general;
    finds = λ d. by_name d (is_name b d) refl;
    finds_types = h.finds_types;
  }
    where
      by_name : (d : Free) (c : Bool) → is_name b d ≡ c → cond (is_name b d) (is_number t) (F.finds d) ≡ cond (is_name b d) (is_number t) (G.finds d) || S d
      by_name d true e = ap (λ c. cond c (is_number t) (F.finds d)) e ∙ sym (or_none (is_number t)) ∙ ap (λ c. is_number t || c) (sym (ap S (name_is b d e) ∙ none)) ∙ ap (λ c. cond c (is_number t) (G.finds d) || S d) (sym e)
      by_name d false e = ap (λ c. cond c (is_number t) (F.finds d)) e ∙ h.finds d ∙ ap (λ c. cond c (is_number t) (G.finds d) || S d) (sym e)

  positions_same : (position : Free → Option ℕ) (F G : Context) → Same_but S F G → Same_but S (with_positions position F) (with_positions position G)
  positions_same position F G h = record { sizes = ap {B = ℕ → Option Size} (λ (f : ℕ → Option Size) (c : ℕ). if_some (position (Name c)) (f c)) h.sizes; schemes = h.schemes; general = h.general; finds = h.finds; finds_types = h.finds_types }

  module _ (s : ℕ → Size) where
    mutual
      pattern_same : (p : FlatPattern) (q : ℕ) (F G : Context) → Unnamed_by S (names p) → Same_but S F G → Same_but S (with_pattern s p q F) (with_pattern s p q G)
      pattern_same (Bound_pattern x) q F G n h = named_same x.0 (s q) (with_entered (s q) F) (with_entered (s q) G) (n x.0 (ap (λ c. cond c true false) (eq-eqb x.0 x.0 refl))) (entered_same (s q) F G h)
      pattern_same Wild_pattern q F G n h = entered_same (s q) F G h
      pattern_same (Tuple_pattern ps) q F G n h = all_same ps (1 + q) (with_entered (s q) F) (with_entered (s q) G) n (entered_same (s q) F G h)
      pattern_same (Record_pattern fs ps) q F G n h = all_same ps (1 + q) (with_entered (s q) F) (with_entered (s q) G) n (entered_same (s q) F G h)
      pattern_same (Typed_pattern p e) q F G n h = pattern_same p q F G n h

      all_same : (ps : Patterns Ref BindId) (q : ℕ) (F G : Context) → Unnamed_by S (all_names ps) → Same_but S F G → Same_but S (with_all_patterns s ps q F) (with_all_patterns s ps q G)
      all_same no_pattern q F G n h = h
      all_same (pattern_and p ps) q F G n h = all_same ps (q + pattern_numbers p) (with_pattern s p q F) (with_pattern s p q G) (λ b e. n b (among_later (names p) (all_names ps) b e)) (pattern_same p q F G (λ b e. n b (among_first (names p) (all_names ps) b e)) h)

-- ---- what a pattern took is found behind it

module _ (s : ℕ → Size) (d : Free) where
  abbrev No_name : List ℕ → Type 0
  No_name bs = (b : ℕ) → is_among bs b ≡ true → d ≡ Name b → ⊥

  name_found : (x : ℕ) (t : Size) (G : Context) → (d ≡ Name x → ⊥) → G.finds d ≡ true → (with_name x t G).finds d ≡ true
  name_found x t G n e = by_name (is_name x d) refl
    where
      by_name : (c : Bool) → is_name x d ≡ c → cond (is_name x d) (is_number t) (G.finds d) ≡ true
      by_name true z = absurd (n (name_is x d z))
      by_name false z = ap (λ c. cond c (is_number t) (G.finds d)) z ∙ e

  still_found : (t : Size) (G : Context) → G.finds d ≡ true → (with_entered t G).finds d ≡ true
  still_found t G e = or_later (stands t d) (stands_told t d || G.finds d) (or_later (stands_told t d) (G.finds d) e)

  own_name : (x : BindId) → is_among (x.0 ∷ []) x.0 ≡ true
  own_name x = ap (λ c. cond c true false) (eq-eqb x.0 x.0 refl)

  mutual
    found_still : (p : FlatPattern) (q : ℕ) (G : Context) → No_name (names p) → G.finds d ≡ true → (with_pattern s p q G).finds d ≡ true
    found_still (Bound_pattern x) q G n e = name_found x.0 (s q) (with_entered (s q) G) (n x.0 (own_name x)) (still_found (s q) G e)
    found_still Wild_pattern q G n e = still_found (s q) G e
    found_still (Tuple_pattern ps) q G n e = all_found ps (1 + q) (with_entered (s q) G) n (still_found (s q) G e)
    found_still (Record_pattern fs ps) q G n e = all_found ps (1 + q) (with_entered (s q) G) n (still_found (s q) G e)
    found_still (Typed_pattern p t) q G n e = found_still p q G n e

    all_found : (ps : Patterns Ref BindId) (q : ℕ) (G : Context) → No_name (all_names ps) → G.finds d ≡ true → (with_all_patterns s ps q G).finds d ≡ true
    all_found no_pattern q G n e = e
    all_found (pattern_and p ps) q G n e = all_found ps (q + pattern_numbers p) (with_pattern s p q G) (λ b z. n b (among_later (names p) (all_names ps) b z)) (found_still p q G (λ b z. n b (among_first (names p) (all_names ps) b z)) e)

  pub taken_found : (p : FlatPattern) (q : ℕ) (G : Context) → No_name (names p) → stands (s q) d ≡ true → (with_pattern s p q G).finds d ≡ true
  taken_found (Bound_pattern x) q G n e = name_found x.0 (s q) (with_entered (s q) G) (n x.0 (own_name x)) (or_first (stands (s q) d) (stands_told (s q) d || G.finds d) e)
  taken_found Wild_pattern q G n e = or_first (stands (s q) d) (stands_told (s q) d || G.finds d) e
  taken_found (Tuple_pattern ps) q G n e = all_found ps (1 + q) (with_entered (s q) G) n (or_first (stands (s q) d) (stands_told (s q) d || G.finds d) e)
  taken_found (Record_pattern fs ps) q G n e = all_found ps (1 + q) (with_entered (s q) G) n (or_first (stands (s q) d) (stands_told (s q) d || G.finds d) e)
  taken_found (Typed_pattern p t) q G n e = taken_found p q G n e

-- ---- the parameters of a function

module _ (N : Names) (types : Sub) (home : ℕ → ℕ) (K : Kinds) (places : Kind) (come : ℕ → Size) where
  -- it stands in one of them
  abbrev pub standing : Patterns Ref BindId → ℕ → Free → Bool
  standing no_pattern q d = false
  standing (pattern_and p ps) q d = stands (param N types home K places come p q) d || standing ps (q + pattern_numbers p) d

  -- where these sizes are found beside
  abbrev pub with_standing : Patterns Ref BindId → ℕ → Context → Context
  with_standing ps q G = record { sizes = G.sizes; schemes = G.schemes; general = G.general; finds = λ d. G.finds d || standing ps q d; finds_types = G.finds_types }

  pub with_standing_same : (ps : Patterns Ref BindId) (q : ℕ) (G : Context) → Same_but (standing ps q) (with_standing ps q G) G
  with_standing_same ps q G = record { sizes = refl; schemes = refl; general = refl; finds = λ d. refl; finds_types = refl }

  module _ (s : ℕ → Size) (lo at hi : ℕ) (parts : List ℕ) (body : Context → Type 0) where
    tells_less : (ps : Patterns Ref BindId) (q k : ℕ) (from to : Size) (S : Free → Bool) (F G : Context) → ((d : Free) → S d ≡ true → (ps ≡ no_pattern) → stands (s q) d ≡ true) → Same_but S F G → Telling N types s home ps q at k from to F → Telling N types s home ps q at k from to G
    tells_less no_pattern q k from to S F G there h tell = λ a b low. let w = tell a b low in (
      each_scoped (Tells_size N types s home q F) (Tells_size N types s home q G) size_told (s at) 0 w.0,
      hole_as (Tells_type N types s home q F) (Tells_type N types s home q G) type_told (s at) w.1,
    )
      where
        by_found : (d : Free) (c e : Bool) → S d ≡ c → G.finds d ≡ e → F.finds d ≡ true → (stands (s q) d ≡ true) ⊎ (G.finds d ≡ true)
        by_found d c true z y x = inr y
        by_found d true false z y x = inl (there d z refl)
        by_found d false false z y x = absurd (let w : false ≡ true = ap (λ b. b || false) (sym y) ∙ ap (λ b. G.finds d || b) (sym z) ∙ sym (h.finds d) ∙ x in cc)

        by_size : (d : Free) → (stands (s q) d ≡ true) ⊎ (F.finds d ≡ true) → (stands (s q) d ≡ true) ⊎ (G.finds d ≡ true)
        by_size d (inl e) = inl e
        by_size d (inr e) = by_found d (S d) (G.finds d) refl refl e

        size_told : (d : Free) → Tells_size N types s home q F d → Tells_size N types s home q G d
        size_told (Const c) w = tt
        size_told (Name c) w = by_size (Name c) w
        size_told (Own n i) w = by_size (Own n i) w
        size_told (Unknown n i) w = by_size (Unknown n i) w
        size_told (Slot i) w = by_size (Slot i) w

        type_told : (v : Variable) → Tells_type N types s home q F v → Tells_type N types s home q G v
        type_told v (inl e) = inl e
        type_told v (inr e) = inr (ap (λ (f : Variable → Bool). f v) (sym h.finds_types) ∙ e)
    tells_less (pattern_and p ps) q k from to S F G there h tell = tt

    pub takes_less : (ps : Patterns Ref BindId) (q : ℕ) (u : Size) (F G : Context) → Same_but (standing ps q) F G → Unnamed_by (standing ps q) (all_names ps) → Own_nodes N types home K places come ps q s → Takes N types s home body parts ps lo q at hi u F → Takes N types s home body parts ps lo q at hi u G
    takes_less no_pattern q u F G h n o t = (t.0, t.1, subst body (same_context F G h) t.2)
    takes_less (pattern_and p ps) q u F G h n o (B, has, tell, rest) =
        (B, has, tells_less ps q B.chosen B.from B.to (standing (pattern_and p ps) q) F G there h tell, takes_less ps (q + pattern_numbers p) (opened B.inside B.to) (with_pattern s p q (with_positions B.position F)) (with_pattern s p q (with_positions B.position G)) behind later o.1 rest)
      where
        t : Size
        t = param N types home K places come p q

        more : Free → Bool
        more d = standing ps (q + pattern_numbers p) d

        here : s q ≡ t
        here = first_node N p q t s o.0

        neither : (a b : Bool) → a || b ≡ false → (a ≡ false) × (b ≡ false)
        neither true b e = absurd (let z : true ≡ false = e in cc)
        neither false b e = (refl, e)

        there : (d : Free) → stands t d || more d ≡ true → ps ≡ no_pattern → stands (s q) d ≡ true
        there d e z = ap (λ x. stands x d) here ∙ sym (or_none (stands t d)) ∙ ap (λ x. stands t d || standing x (q + pattern_numbers p) d) (sym z) ∙ e

        later : Unnamed_by more (all_names ps)
        later b e = (neither (stands t (Name b)) (more (Name b)) (n b (among_later (names p) (all_names ps) b e))).1

        inside : Same_but (standing (pattern_and p ps) q) (with_pattern s p q (with_positions B.position F)) (with_pattern s p q (with_positions B.position G))
        inside = pattern_same (standing (pattern_and p ps) q) s p q (with_positions B.position F) (with_positions B.position G) (λ b e. n b (among_first (names p) (all_names ps) b e)) (positions_same (standing (pattern_and p ps) q) B.position F G h)

        no_name : (d : Free) → stands t d ≡ true → (b : ℕ) → is_among (names p) b ≡ true → d ≡ Name b → ⊥
        no_name d e b f z = let y : true ≡ false = sym e ∙ ap (stands t) z ∙ (neither (stands t (Name b)) (more (Name b)) (n b (among_first (names p) (all_names ps) b f))).0 in cc

        by_standing : (d : Free) (c : Bool) → stands t d ≡ c → (with_pattern s p q (with_positions B.position F)).finds d ≡ (with_pattern s p q (with_positions B.position G)).finds d || more d
        by_standing d true e =
            let found = taken_found s d p q (with_positions B.position G) (no_name d e) (ap (λ x. stands x d) here ∙ e) in
            inside.finds d ∙ ap (λ b. b || (stands t d || more d)) found ∙ ap (λ b. b || more d) (sym found)
        by_standing d false e = inside.finds d ∙ ap (λ b. (with_pattern s p q (with_positions B.position G)).finds d || (b || more d)) e

        behind : Same_but more (with_pattern s p q (with_positions B.position F)) (with_pattern s p q (with_positions B.position G))
        behind = record { sizes = inside.sizes; schemes = inside.schemes; general = inside.general; finds = λ d. by_standing d (stands t d) refl; finds_types = inside.finds_types }
