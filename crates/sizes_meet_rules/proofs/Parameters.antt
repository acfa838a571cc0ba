-- The function type of some parameters and a body meets the rules where the body does.
use Rattle.std.proofs.Common.{◌≡◌, ◌⊎◌, ℕ, suc, ◌+◌, ◌<◌, ◌≤◌, List, [], length, Bool, true, false, cond, Option, Some, None, refl, sym, ap, ◌∙◌, subst, arith, inl, inr, eq-eqb}
use Rattle.fut_scalar.specs.declared.place.BindId.{BindId}
use Rattle.fut_flat.specs.declared.prim.Ref.{Ref}
use Rattle.fut_flat.specs.Numbers.{pattern_numbers, all_pattern_numbers}
use Rattle.fut_flat.specs.Terms.{Bound_pattern, Wild_pattern, Tuple_pattern, Record_pattern, Typed_pattern, Patterns, no_pattern, pattern_and}
use Rattle.fut_flat.specs.Erased.{FlatTerm, FlatPattern}
use Rattle.fut_types.specs.declared.Kind.{Kind}
use Rattle.fut_types.specs.Types.{Ty, Sub, Kinds, HasKind, level, fun_ty}
use Rattle.fut_typing.specs.Names.{Names}
use Rattle.fut_typing.specs.Patterns.{pattern_types, arrows, Pattern_typed, Patterns_typed, Parameters_typed, with_pattern as typed_with, with_patterns as all_typed_with}
use Rattle.fut_typing.specs.Scopes.{Scope as TypeScope, the_one}
use Rattle.fut_typing.specs.Typing.{Typed}
use Rattle.sized_types.specs.Sizes.{Free, Const, Name, Own, Unknown, Slot, Dim, At, Bound, Variable, Size, Hole, Open, Level, Built, Fun, Sizes, no_size, size_and, has, some_has, erased, all_erased, bound, binding, renaming, renamed, takes}
use Rattle.sized_types.specs.Standing.{stands}
use Rattle.fut_sizes.specs.Agreeing.{left, leave, names_one, is_among}
use Rattle.fut_sizes.specs.Functions.{chosen_by, value_name, stands_among, sizes_in, is_own, is_met, is_slot, arrow, function_size, without, unchosen}
use Rattle.fut_sizes.specs.Rules.{Each_hole, Pattern_takes, Telling, Takes, Sized}
use Rattle.fut_sizes.specs.Scopes.{Scope, i64_size, names}
use Rattle.fut_sizes.specs.Sizing.{in_pattern, own_sizes, part_names, all_part_names}
use Rattle.fut_sizes.specs.Scoping.{Context, with_positions, with_pattern}
use Rattle.fut_sizes.specs.Steps.{State}
use Rattle.fut_sizes.specs.Suiting.{Each, Each_all, Scoped}
use Rattle.sizes_meet_rules.specs.Known.{is_i64_size, Known_names, Is_const, Elsewhere, Formed}
use Rattle.sizes_meet_rules.specs.Plain.{Plain_pattern, Plain_parts, Plain_patterns, parameter, Plain_head, Formed_type}
use Rattle.sizes_meet_rules.proofs.Arrows.{Is_value, Headed, chosen_stands, value_is, bound_low, frame, frame_chosen, chosen_there, position, May_stand, arrow_back, arrow_scoped, binder, owned_here, standing_own}
use Rattle.sizes_meet_rules.proofs.Binding.{Leaves, left_name}
use Rattle.sizes_meet_rules.proofs.Entering.{Lacks, param, Param_says, Written_in, All_written_in, param_says, param_data, takings, all_bound, All_fit, Own_nodes}
use Rattle.sizes_meet_rules.proofs.Settling.{Any_variable}
use Rattle.sizes_meet_rules.proofs.Showing.{sizes_written}
use Rattle.sizes_meet_rules.proofs.Forming.{number_replaced, renaming_keeps, renaming_back, binding_keeps, binding_back, formed_replaced}
use Rattle.sizes_meet_rules.proofs.Functions.{no_value, Unknown_met, Unmet, met_unknown, none_met, Entered_in, entered_may, last_may, entered_judged, tells}
use Rattle.sizes_meet_rules.proofs.Meeting.{In_nodes, Met_in, With_met, met_wider, each_scoped, inside_wider, elsewhere_narrower, Meets}
use Rattle.sizes_meet_rules.proofs.Naming.{Named_by, each_stands, named_there, known_with, known_wider, With_head, Judged_but, judged_all}
use Rattle.sizes_meet_rules.proofs.Listing.{listed_is, without_or, without_among}
use Rattle.sizes_meet_rules.proofs.Taking.{pattern_some, Has_parts, bound_scope, not_bound, Nodes, first_node, among_first, among_later, takes_it}
use Rattle.sizes_meet_rules.proofs.Replacing.{each_as, each_both, each_replaced, erased_replaced, hole_replaced, hole_as}

-- what has no dim of some property
either : (a b : Bool) → cond a true b ≡ false → (a ≡ false) × (b ≡ false)
either true b e = absurd (let z : true ≡ false = e in cc)
either false b e = (refl, e)

module _ (q : Dim → Bool) where
  mutual
    unfolding has some_has Each Each_all

    each_lacks : (t : Size) (j : ℕ) → has q t ≡ false → Each (λ i d. q d ≡ false) j t
    each_lacks (Hole v) j e = tt
    each_lacks (Open n v u) j e = tt
    each_lacks (Level d t) j e = let w = either (q d) (has q t) e in (w.0, each_lacks t j w.1)
    each_lacks (Built h ts) j e = all_lack ts j e
    each_lacks (Fun k p r) j e = let w = either (has q p) (has q r) e in (each_lacks p (suc j) w.0, each_lacks r (suc j) w.1)

    all_lack : (ts : Sizes) (j : ℕ) → some_has q ts ≡ false → Each_all (λ i d. q d ≡ false) j ts
    all_lack no_size j e = tt
    all_lack (size_and t ts) j e = let w = either (has q t) (some_has q ts) e in (each_lacks t j w.0, all_lack ts j w.1)

-- parameters as sized types come to their nodes: a parameter's own, or one of these sizes
module _ (N : Names) (types : Sub) (home : ℕ → ℕ) (K : Kinds) (places : Kind) (data_places : 1 ≤ level places) (come : ℕ → Size) (W : Free → Type 0) where
  -- ---- the sized type of a parameter
  abbrev own : FlatPattern → ℕ → Size
  own p q = param N types home K places come p q

  abbrev pub Comes : FlatPattern → ℕ → Type 0
  Comes p q = (come q ≡ own_sizes N types q) ⊎ Param_says N types home K places W q (own p q)

  abbrev pub All_come : Patterns Ref BindId → ℕ → Type 0
  All_come no_pattern q = Unit {0}
  All_come (pattern_and p ps) q = Comes p q × All_come ps (q + pattern_numbers p)

  -- the size names of a head
  abbrev pub Come_head : List ℕ → Patterns Ref BindId → ℕ → Type 0
  Come_head bs no_pattern q = Unit {0}
  Come_head bs (pattern_and p ps) q = Headed home bs p q (own p q) × Come_head (without (sizes_in (is_own bs q) (own p q)) bs) ps (q + pattern_numbers p)

  pub none_headed : (ps : Patterns Ref BindId) (q : ℕ) → Come_head [] ps q
  none_headed no_pattern q = tt
  none_headed (pattern_and p ps) q = (record { apart = λ b e. refl; at_home = λ b e. absurd (let z : false ≡ true = listed_is (is_own [] q) (own p q) (Name b) e in cc) }, none_headed ps (q + pattern_numbers p))

  abbrev Own_or_known : List ℕ → (Free → Type 0) → ℕ → Free → Type 0
  Own_or_known bs In q x = (is_own bs q x ≡ true) ⊎ (In x ⊎ Is_const x)

  own_says : (bs : List ℕ) (In : Free → Type 0) (p : FlatPattern) (q : ℕ) → Comes p q → ((d : Free) → W d → In d) → Plain_pattern types home K places p q → Formed_type (types q) → Written_in N types home K places (Own_or_known bs In q) p → Param_says N types home K places (Own_or_known bs In q) q (own p q)
  own_says bs In p q (inl e) i h f w = subst (λ t. Param_says N types home K places (Own_or_known bs In q) q (in_pattern N types p t)) (sym e) (param_says N types home K places (Own_or_known bs In q) (λ c. inr (inr tt)) p q h f (λ i. inl (eq-eqb q q refl)) w)
  own_says bs In p q (inr o) i h f w = record { sizes = each_scoped W (Own_or_known bs In q) (λ d y. inr (inl (i d y))) (own p q) 0 o.sizes; typed = o.typed; formed = o.formed; variables = o.variables }

  own_stands : (bs : List ℕ) (In : Free → Type 0) (p : FlatPattern) (q : ℕ) → Param_says N types home K places (Own_or_known bs In q) q (own p q) → HasKind K places (types q) → Each (Scoped (λ x. stands (own p q) x ≡ true)) 0 (own p q)
  own_stands bs In p q o k = each_stands (Own_or_known bs In q) (λ x. stands (own p q) x ≡ true) (own p q) (param_data N types home K places (own p q) q data_places k o.formed o.typed) o.sizes (λ x e. e)

  head_owned : (bs : List ℕ) (In : Free → Type 0) (q : ℕ) (d : Free) → With_head bs In d → Own_or_known bs In q d
  head_owned bs In q d (inl i) = inr (inl i)
  head_owned bs In q (Name b) (inr h) = inl h
  head_owned bs In q (Const c) (inr h) = absurd h
  head_owned bs In q (Own n i) (inr h) = absurd h
  head_owned bs In q (Unknown n i) (inr h) = absurd h
  head_owned bs In q (Slot i) (inr h) = absurd h

  -- written sizes are known
  mutual
    written_known : (bs : List ℕ) (In : Free → Type 0) (Vars : Variable → Type 0) (scope : Scope) (T : TypeScope) → Known_names (With_head bs In) Vars home scope K types T → (p : FlatPattern) (q n : ℕ) → Plain_pattern types home K places p n → Pattern_typed N places K types p n T → Written_in N types home K places (Own_or_known bs In q) p
    written_known bs In Vars scope T known (Bound_pattern x) q n h t = tt
    written_known bs In Vars scope T known Wild_pattern q n h t = tt
    written_known bs In Vars scope T known (Tuple_pattern ps) q n h t = all_written_known bs In Vars scope T known ps q (1 + n) h t.0
    written_known bs In Vars scope T known (Record_pattern fs ps) q n h t = tt
    written_known bs In Vars scope T known (Typed_pattern p e) q n h t = (sizes_written N types home K places (With_head bs In) (Own_or_known bs In q) Vars (head_owned bs In q) e scope T (types n) known t.1, written_known bs In Vars scope T known p q n h.1 t.0)

    all_written_known : (bs : List ℕ) (In : Free → Type 0) (Vars : Variable → Type 0) (scope : Scope) (T : TypeScope) → Known_names (With_head bs In) Vars home scope K types T → (ps : Patterns Ref BindId) (q n : ℕ) → Plain_parts types home K places ps n → Patterns_typed N places K types ps n T → All_written_in N types home K places (Own_or_known bs In q) ps
    all_written_known bs In Vars scope T known no_pattern q n h t = tt
    all_written_known bs In Vars scope T known (pattern_and p ps) q n h t = (written_known bs In Vars scope T known p q n h.0 t.0, all_written_known bs In Vars scope T known ps q (n + pattern_numbers p) h.1 t.1)

  module _ (e : FlatTerm) (lo at hi : ℕ) (l3 : at < hi) (parts : List ℕ) (u r : Size) (L : Leaves lo parts u r) (before after : State) (Vars : Variable → Type 0) (final : Scope)
      (body : (In : Free → Type 0) (scope : Scope) (T : TypeScope) → Typed N places e at T K types → Known_names In Vars home scope K types T → Elsewhere N types home at hi In → scope ≡ final → Meets N types home In Vars scope e at hi before u after) where
    abbrev size_from : List ℕ → Patterns Ref BindId → ℕ → Size
    size_from bs ps q = function_size bs lo hi (takings N types home K places come ps q) r

    -- the name of no part of an argument
    abbrev No_part_of : Free → Type 0
    No_part_of x = (b : ℕ) → x ≡ Name b → is_among parts b ≡ false

    abbrev Rest_in : Patterns Ref BindId → (Free → Type 0) → Free → Type 0
    Rest_in no_pattern In d = (In d ⊎ Met_in lo hi d) × No_part_of d
    Rest_in (pattern_and p ps) In d = (In d ⊎ Is_const d) × No_part_of d

    -- of the body's size
    abbrev Body_in : Patterns Ref BindId → (Free → Type 0) → Type 0
    Body_in no_pattern In = Each (Scoped (With_met In at hi)) 0 u × Each_hole Vars u
    Body_in (pattern_and p ps) In = Unit {0}

    pub record Rest (bs : List ℕ) (ps : Patterns Ref BindId) (q : ℕ) (In : Free → Type 0) (scope : Scope) : Type 0 where
      pub body_says : Body_in ps In
      pub sizes : Each (Scoped (Rest_in ps In)) 0 (size_from bs ps q)
      pub variables : Each_hole Vars (size_from bs ps q)
      pub formed : Formed (size_from bs ps q)
      pub typed : erased (size_from bs ps q) ≡ arrows (pattern_types types ps q) (types at)
      pub here : after.nodes at ≡ u
      pub kept : (n : ℕ) → (n < at) ⊎ (hi ≤ n) → after.nodes n ≡ before.nodes n
      pub dropped : (n : ℕ) → (n < at) ⊎ (hi ≤ n) → after.dropped n ≡ before.dropped n
      pub rules : (s : ℕ → Size) (G : Context) → Judged_but bs In Vars scope G → Own_nodes N types home K places come ps q s → ((n : ℕ) → at ≤ n → n < hi → s n ≡ after.nodes n) → Takes N types s home (Sized N types s home e at) parts ps lo q at hi (size_from bs ps q) G

    -- a size leaves as it is, or as an unknown
    left_as : (x : Free) → ((j : ℕ) × (leave lo parts x ≡ Unknown lo j)) ⊎ ((leave lo parts x ≡ x) × No_part_of x)
    left_as (Name b) = by_name (left_name lo parts 0 b)
      where
        by_name : ((j : ℕ) × (left lo 0 parts b ≡ Unknown lo j)) ⊎ ((left lo 0 parts b ≡ Name b) × (is_among parts b ≡ false)) → ((j : ℕ) × (left lo 0 parts b ≡ Unknown lo j)) ⊎ ((left lo 0 parts b ≡ Name b) × No_part_of (Name b))
        by_name (inl w) = inl w
        by_name (inr (e, f)) = inr (e, λ c z. subst (λ m. is_among parts m ≡ false) (let y : Name b ≡ Name c = z in let v : b ≡ c = cc in v) f)
    left_as (Const c) = inr (refl, λ b z. absurd (let y : Const c ≡ Name b = z in cc))
    left_as (Own n i) = inr (refl, λ b z. absurd (let y : Own n i ≡ Name b = z in cc))
    left_as (Unknown n i) = inr (refl, λ b z. absurd (let y : Unknown n i ≡ Name b = z in cc))
    left_as (Slot i) = inr (refl, λ b z. absurd (let y : Slot i ≡ Name b = z in cc))

    -- the body
    last_rest : (In : Free → Type 0) (scope : Scope) (T : TypeScope) → Typed N places e at T K types → Known_names In Vars home scope K types T → Elsewhere N types home at hi In → scope ≡ final → lo < at → Rest [] no_pattern at In scope
    unfolding function_size
    last_rest In scope T t k E z l = record {
      body_says = (M.says.sizes, M.says.variables);
      sizes = subst (λ w. Each (Scoped (Rest_in no_pattern In)) 0 w) (sym L.result) (each_replaced (renaming (leave lo parts)) (Scoped (With_met In at hi)) (Scoped (Rest_in no_pattern In)) (λ j. j) (λ j. refl) turned u 0 M.says.sizes);
      variables = subst (λ w. Each_hole Vars w) (sym L.result) (hole_replaced (renaming (leave lo parts)) Vars u 0 M.says.variables);
      formed = subst Formed (sym L.result) (formed_replaced (renaming (leave lo parts)) (renaming_keeps (leave lo parts)) (renaming_back (leave lo parts)) u 0 M.says.formed);
      typed = ap erased L.result ∙ erased_replaced (renaming (leave lo parts)) u 0 ∙ M.typed;
      here = M.here;
      kept = M.kept;
      dropped = M.dropped;
      rules = λ s G J o a. let here : s at ≡ u = a at (omega arith) l3 ∙ M.here in
          (subst (λ w. takes (names_one parts) w ≡ false) (sym here) L.no_parameter, L.result ∙ ap (renamed (leave lo parts)) (sym here), M.rules s G (judged_all In Vars scope G J) a);
    }
      where
        M : Meets N types home In Vars scope e at hi before u after
        M = body In scope T t k E z

        by_size : (x : Free) → With_met In at hi x → ((j : ℕ) × (leave lo parts x ≡ Unknown lo j)) ⊎ ((leave lo parts x ≡ x) × No_part_of x) → Rest_in no_pattern In (leave lo parts x)
        by_size x o (inl (j, w)) = subst (λ y. Rest_in no_pattern In y) (sym w) (inr (omega arith, omega (arith, l, l3)), λ b z. absurd (let y : Unknown lo j ≡ Name b = z in cc))
        by_size x (inl i) (inr (w, bare)) = subst (λ y. Rest_in no_pattern In y) (sym w) (inl i, bare)
        by_size x (inr i) (inr (w, bare)) = subst (λ y. Rest_in no_pattern In y) (sym w) (inr (met_wider at hi lo hi (omega (arith, l)) (omega arith) x i), bare)

        turned : (j : ℕ) (d : Dim) → Scoped (With_met In at hi) j d → Scoped (Rest_in no_pattern In) j (renaming (leave lo parts) j d)
        turned j (At x) o = by_size x o (left_as x)
        turned j (Bound k i) o = o

    module _ (bs : List ℕ) (p : FlatPattern) (q : ℕ) (plain : Plain_pattern types home K places p q) (k : HasKind K places (types q)) (In : Free → Type 0) (scope : Scope) (head : Headed home bs p q (own p q)) (heads : (b : ℕ) → is_among bs b ≡ true → scope b ≡ Some (record { size = i64_size; is_general = false })) (o : Param_says N types home K places (Own_or_known bs In q) q (own p q)) (parts_there : Has_parts N p (own p q)) (unmet : Unmet lo hi In) (lacks : has (names_one parts) (own p q) ≡ false) (among : (b : ℕ) → is_among (part_names p) b ≡ true → is_among parts b ≡ true) (l0 : lo < q) (l2 : q < at) (l2' : q + pattern_numbers p ≤ at) (E : Elsewhere N types home q hi In) (E0 : Elsewhere N types home lo (1 + lo) In) where
      -- the size names that are left
      abbrev later : List ℕ
      later = without (sizes_in (is_own bs q) (own p q)) bs

      abbrev In' : Free → Type 0
      In' = Entered_in N types home K places lo at hi q p plain In Vars E l0 l2 l2' (omega (arith, l3)) parts among bs (own p q) o.sizes (own_stands bs In p q o k) head

      abbrev May_be : List Free → Free → Type 0
      May_be met x = May_stand N types home K places lo at hi q p plain In E l2 (omega (arith, l3)) bs (own p q) o.sizes (own_stands bs In p q o k) head met x

      abbrev many : ℕ
      many = length (sizes_in (is_own bs q) (own p q))

      abbrev place : List Free → Free → Option ℕ
      place met x = frame N types home K places lo at hi q p plain In E l2 (omega (arith, l3)) bs (own p q) o.sizes (own_stands bs In p q o k) head met x

      abbrev one_arrow : List Free → Size → Size
      one_arrow met t = arrow (sizes_in (is_own bs q) (own p q)) (record { pattern = p; node = q; size = own p q }) met t

      arrow_typed : (met : List Free) (t : Size) (u : Ty) → erased t ≡ u → erased (one_arrow met t) ≡ fun_ty (types q) u
      unfolding erased all_erased
      arrow_typed met t u z = ap (λ w. fun_ty w (erased (bound (place met) t))) (erased_replaced (binding (place met)) (own p q) 0 ∙ o.typed) ∙ ap (fun_ty (types q)) (erased_replaced (binding (place met)) t 0 ∙ z)

      -- nothing in it is the value of a parameter that is no number
      abbrev No_value : Free → Type 0
      No_value x = is_i64_size (own p q) ≡ false → Is_value (value_name p) x → ⊥

      not_placed : (met : List Free) (mets : (x : Free) → stands_among met x ≡ true → Unknown_met In x) → is_i64_size (own p q) ≡ false → (x : Free) → May_be met x × No_value x → (m : ℕ) → place met x ≡ Some m → m ≡ many → ⊥
      not_placed met mets e x w m z y = w.1 e (value_is N types home K places lo at hi q p plain In E l2 (omega (arith, l3)) bs (own p q) o.sizes (own_stands bs In p q o k) head met mets x w.0 (z ∙ ap Some y))

      arrow_formed : (met : List Free) (mets : (x : Free) → stands_among met x ≡ true → Unknown_met In x) (t : Size) → Each (Scoped (λ x. May_be met x × No_value x)) 0 t → Formed t → Formed (one_arrow met t)
      unfolding Formed
      arrow_formed met mets t m h = (
        formed_replaced (binding (place met)) (binding_keeps (place met)) (binding_back (place met)) (own p q) 0 o.formed,
        formed_replaced (binding (place met)) (binding_keeps (place met)) (binding_back (place met)) t 0 h,
        bound_low (place met) (λ i. i < many) (own p q) (each_scoped (λ x. stands (own p q) x ≡ true) (λ x. (m : ℕ) → place met x ≡ Some m → m < many) (frame_chosen N types home K places lo at hi q p plain In E l2 (omega (arith, l3)) bs (own p q) o.sizes (own_stands bs In p q o k) head met mets) (own p q) 0 (own_stands bs In p q o k)),
        λ e. bound_low (place met) (λ i. i ≡ many → ⊥) t (each_scoped (λ x. May_be met x × No_value x) (λ x. (i : ℕ) → place met x ≡ Some i → i ≡ many → ⊥) (not_placed met mets (sym (number_replaced (binding (place met)) (own p q) 0) ∙ e)) t 0 m),
        chosen_there N types home K places lo at hi q p plain In E l2 (omega (arith, l3)) bs (own p q) o.sizes (own_stands bs In p q o k) head met mets,
      )

      arrow_variables : (met : List Free) (t : Size) → Each_hole Vars t → Each_hole Vars (one_arrow met t)
      unfolding Each_hole
      arrow_variables met t h = (hole_replaced (binding (place met)) Vars (own p q) 0 (hole_as (λ v. ⊥) Vars (λ v i. absurd i) (own p q) o.variables), hole_replaced (binding (place met)) Vars t 0 h)

      at_parameter : (s : ℕ → Size) → Nodes N p q (own p q) s → s q ≡ own p q
      at_parameter s n = first_node N p q (own p q) s n

      -- a parameter has the name of no part
      own_no_part : Each (Scoped No_part_of) 0 (own p q)
      own_no_part = each_as (λ j d. Scoped (Own_or_known bs In q) j d × (names_one parts d ≡ false)) (Scoped No_part_of) here (own p q) 0 (each_both (Scoped (Own_or_known bs In q)) (λ j d. names_one parts d ≡ false) (own p q) 0 o.sizes (each_lacks (names_one parts) (own p q) 0 lacks))
        where
          by_form : (x : Free) → names_one parts (At x) ≡ false → No_part_of x
          by_form x f b z = ap (λ y. names_one parts (At y)) (sym z) ∙ f

          here : (j : ℕ) (d : Dim) → Scoped (Own_or_known bs In q) j d × (names_one parts d ≡ false) → Scoped No_part_of j d
          here j (At x) w = by_form x w.1
          here j (Bound m i) w = w.0

      -- one arrow more
      one_more : (ps : Patterns Ref BindId) (met : List Free) (mets : (x : Free) → stands_among met x ≡ true → Unknown_met In x)
          → size_from bs (pattern_and p ps) q ≡ one_arrow met (size_from later ps (q + pattern_numbers p))
          → Each (Scoped (λ x. May_be met x × No_part_of x)) 0 (size_from later ps (q + pattern_numbers p)) → Each (Scoped (λ x. May_be met x × No_value x)) 0 (size_from later ps (q + pattern_numbers p)) → Rest later ps (q + pattern_numbers p) In' (bound_scope N p (own p q) scope)
          → ((s : ℕ → Size) (G : Context) → Judged_but bs In Vars scope G → s q ≡ own p q → ((n : ℕ) → at ≤ n → n < hi → s n ≡ after.nodes n) → Telling N types s home ps q at many (bound (place met) (own p q)) (bound (place met) (size_from later ps (q + pattern_numbers p))) G)
          → Rest bs (pattern_and p ps) q In scope
      one_more ps met mets shape m mv R tell = record {
        body_says = tt;
        sizes = subst (λ w. Each (Scoped (λ d. (In d ⊎ Is_const d) × No_part_of d)) 0 w) (sym shape) (arrow_scoped N types home K places lo at hi q p plain In E l2 (omega (arith, l3)) bs (own p q) o.sizes (own_stands bs In p q o k) head met mets No_part_of own_no_part t m);
        variables = subst (λ w. Each_hole Vars w) (sym shape) (arrow_variables met t R.variables);
        formed = subst Formed (sym shape) (arrow_formed met mets t mv R.formed);
        typed = ap erased shape ∙ arrow_typed met t (arrows (pattern_types types ps (q + pattern_numbers p)) (types at)) R.typed;
        here = R.here;
        kept = R.kept;
        dropped = R.dropped;
        rules = rules;
      }
        where
          t : Size
          t = size_from later ps (q + pattern_numbers p)

          may : Each (Scoped (May_be met)) 0 t
          may = each_scoped (λ x. May_be met x × No_part_of x) (May_be met) (λ x w. w.0) t 0 m

          rules : (s : ℕ → Size) (G : Context) → Judged_but bs In Vars scope G → Own_nodes N types home K places come (pattern_and p ps) q s → ((n : ℕ) → at ≤ n → n < hi → s n ≡ after.nodes n) → Takes N types s home (Sized N types s home e at) parts (pattern_and p ps) lo q at hi (size_from bs (pattern_and p ps) q) G
          rules s G judged own_nodes a = subst (λ w. Takes N types s home (Sized N types s home e at) parts (pattern_and p ps) lo q at hi w G) (sym shape) (
            binder N types home K places lo at hi q p plain In E l2 (omega (arith, l3)) bs (own p q) o.sizes (own_stands bs In p q o k) head met mets E0 s (at_parameter s own_nodes.0) (subst (λ w. Pattern_takes N types s home (λ d. d) p q w) (sym (at_parameter s own_nodes.0)) (takes_it types home K places N s (λ d. d) (λ d. refl) p q plain (own p q) parts_there own_nodes.0)) t may,
            ap (has (names_one parts)) (at_parameter s own_nodes.0) ∙ lacks,
            tell s G judged (at_parameter s own_nodes.0) a,
            subst (λ w. Takes N types s home (Sized N types s home e at) parts ps lo (q + pattern_numbers p) at hi w (with_pattern s p q (with_positions (λ d. position N types home K places lo at hi q p plain In E l2 (omega (arith, l3)) bs (own p q) o.sizes (own_stands bs In p q o k) head d) G)))
                (sym (arrow_back N types home K places lo at hi q p plain In E l2 (omega (arith, l3)) bs (own p q) o.sizes (own_stands bs In p q o k) head met mets t may))
                (R.rules s (with_pattern s p q (with_positions (λ d. position N types home K places lo at hi q p plain In E l2 (omega (arith, l3)) bs (own p q) o.sizes (own_stands bs In p q o k) head d) G))
                (entered_judged N types home K places lo at hi q p plain In Vars E l0 l2 l2' (omega (arith, l3)) parts among bs (own p q) o.sizes (own_stands bs In p q o k) head parts_there (hole_as (λ v. ⊥) Any_variable (λ v i. tt) (own p q) o.variables) s scope G heads judged own_nodes.0) own_nodes.1 a),
          )

      -- ---- what is known behind the parameter
      abbrev There : Free → Type 0
      There x = In_nodes N types home q (q + pattern_numbers p) x

      here_not_there : (x : Free) (a b : ℕ) → (q + pattern_numbers p ≤ a) ⊎ (b ≤ q) → There x → In_nodes N types home a b x → ⊥
      here_not_there (Const c) a b d i j = i
      here_not_there (Slot c) a b d i j = i
      here_not_there (Name c) a b (inl d) i j = let y = i.1 in let z = j.0 in omega (arith, y, z, d)
      here_not_there (Name c) a b (inr d) i j = let y = i.0 in let z = j.1 in omega (arith, y, z, d)
      here_not_there (Own c m) a b (inl d) i j = let y = i.1 in let z = j.0 in omega (arith, y, z, d)
      here_not_there (Own c m) a b (inr d) i j = let y = i.0 in let z = j.1 in omega (arith, y, z, d)
      here_not_there (Unknown c m) a b (inl d) i j = let y = i.1 in let z = j.0 in omega (arith, y, z, d)
      here_not_there (Unknown c m) a b (inr d) i j = let y = i.0 in let z = j.1 in omega (arith, y, z, d)

      named_here : (x : Free) → Named_by N p (own p q) x → There x
      named_here x n = let w = named_there types home K places N p q plain (own p q) x n in subst There (sym w.1) w.2

      -- a size that stands in the parameter is its own, or known
      by_standing : (X : Type 0) (x : Free) → stands (own p q) x ≡ true → (There x → X) → (In x → X) → (Is_const x → X) → X
      by_standing X x z f g h = by_own (standing_own N types home K places lo at hi q p plain In E l2 (omega (arith, l3)) bs (own p q) o.sizes (own_stands bs In p q o k) head x z)
        where
          by_own : Own_or_known bs In q x → X
          by_own (inl i) = f (inside_wider N types home q (1 + q) q (q + pattern_numbers p) (omega arith) (let n = pattern_some p in omega (arith, n)) x (owned_here N types home K places lo at hi q p plain In E l2 (omega (arith, l3)) bs (own p q) o.sizes (own_stands bs In p q o k) head x i z))
          by_own (inr (inl i)) = g i
          by_own (inr (inr c)) = h c

      const_no_slot : (x : Free) → Is_const x → is_slot x ≡ false
      const_no_slot (Const c) i = refl
      const_no_slot (Slot c) i = absurd i
      const_no_slot (Name c) i = refl
      const_no_slot (Own c m) i = refl
      const_no_slot (Unknown c m) i = refl

      const_nowhere : (a b : ℕ) (x : Free) → Is_const x → In_nodes N types home a b x → ⊥
      const_nowhere a b (Const c) i h = h
      const_nowhere a b (Name c) i h = i
      const_nowhere a b (Own c m) i h = i
      const_nowhere a b (Unknown c m) i h = i
      const_nowhere a b (Slot c) i h = i

      here_no_slot : (x : Free) → There x → is_slot x ≡ false
      here_no_slot (Const c) i = refl
      here_no_slot (Slot c) i = absurd i
      here_no_slot (Name c) i = refl
      here_no_slot (Own c m) i = refl
      here_no_slot (Unknown c m) i = refl

      entered_no_slot : (x : Free) → In' x → is_slot x ≡ false
      entered_no_slot x (inl i) = E.no_slot x i
      entered_no_slot x (inr (inl z)) = by_standing (is_slot x ≡ false) x z (here_no_slot x) (E.no_slot x) (const_no_slot x)
      entered_no_slot x (inr (inr n)) = here_no_slot x (named_here x n)

      entered_outside : (a b : ℕ) → (q + pattern_numbers p ≤ a) ⊎ (b ≤ q) → ((x : Free) → In x → In_nodes N types home a b x → ⊥) → (x : Free) → In' x → In_nodes N types home a b x → ⊥
      entered_outside a b d h x (inl i) j = h x i j
      entered_outside a b d h x (inr (inl z)) j = by_standing ⊥ x z (λ i. here_not_there x a b d i j) (λ i. h x i j) (λ i. const_nowhere a b x i j)
      entered_outside a b d h x (inr (inr n)) j = here_not_there x a b d (named_here x n) j

      behind : Elsewhere N types home (q + pattern_numbers p) hi In'
      behind = record { no_slot = entered_no_slot; outside = entered_outside (q + pattern_numbers p) hi (inl (omega arith)) (λ x i j. E.outside x i (inside_wider N types home (q + pattern_numbers p) hi q hi (omega arith) (omega arith) x j)) }

      before_it : Elsewhere N types home lo (1 + lo) In'
      before_it = record { no_slot = entered_no_slot; outside = entered_outside lo (1 + lo) (inr (omega (arith, l0))) (λ x i j. E0.outside x i j) }

      unmet_behind : Unmet lo hi In'
      unmet_behind n i (inl x) z = unmet n i x z
      unmet_behind n i (inr (inl x)) z = by_own (standing_own N types home K places lo at hi q p plain In E l2 (omega (arith, l3)) bs (own p q) o.sizes (own_stands bs In p q o k) head (Unknown n i) x)
        where
          by_own : Own_or_known bs In q (Unknown n i) → ⊥
          by_own (inl y) = let w : false ≡ true = y in cc
          by_own (inr (inl y)) = unmet n i y z
          by_own (inr (inr y)) = y
      unmet_behind n i (inr (inr x)) z = let w = named_there types home K places N p q plain (own p q) (Unknown n i) x in let y : Unknown n i ≡ Name w.0 = w.1 in cc

      head_behind : (x : Free) → With_head bs In x → With_head later In' x
      head_behind x (inl i) = inl (inl i)
      head_behind (Name b) (inr h) = by_choice (without_or (sizes_in (is_own bs q) (own p q)) bs b h)
        where
          by_choice : (stands_among (sizes_in (is_own bs q) (own p q)) (Name b) ≡ true) ⊎ (is_among later b ≡ true) → With_head later In' (Name b)
          by_choice (inl y) = inl (inr (inl (chosen_stands N types home K places lo at hi q p plain In E l2 (omega (arith, l3)) bs (own p q) o.sizes (own_stands bs In p q o k) head (Name b) y)))
          by_choice (inr y) = inr y
      head_behind (Const c) (inr h) = absurd h
      head_behind (Own n i) (inr h) = absurd h
      head_behind (Unknown n i) (inr h) = absurd h
      head_behind (Slot i) (inr h) = absurd h

      -- the names that are left are numbers still
      heads_behind : (b : ℕ) → is_among later b ≡ true → bound_scope N p (own p q) scope b ≡ Some (record { size = i64_size; is_general = false })
      heads_behind b e = let y = without_among (sizes_in (is_own bs q) (own p q)) bs b e in not_bound N p (own p q) b scope (no_name b y) ∙ heads b y
        where
          no_name : (b : ℕ) → is_among bs b ≡ true → is_among (names p) b ≡ false
          no_name b y = by_among (is_among (names p) b) refl
            where
              by_among : (c : Bool) → is_among (names p) b ≡ c → is_among (names p) b ≡ false
              by_among true f = absurd (let z : true ≡ false = sym y ∙ head.apart b f in cc)
              by_among false f = f

      known_behind : (T : TypeScope) → Pattern_typed N places K types p q T → Known_names (With_head bs In) Vars home scope K types T → Known_names (With_head later In') Vars home (bound_scope N p (own p q) scope) K types (typed_with the_one p q T)
      known_behind T fits h = known_with N types K places (With_head later In') Vars home (With_head bs In) Vars head_behind (λ v i. i) p q T plain fits (own p q) parts_there scope T h
          (record { sizes = each_scoped (λ x. stands (own p q) x ≡ true) (With_head later In') (λ x z. inl (inr (inl z))) (own p q) 0 (own_stands bs In p q o k); variables = hole_as (λ v. ⊥) Vars (λ v i. absurd i) (own p q) o.variables; formed = o.formed }) o.typed (λ x n. inl (inr (inr n)))

      no_value_here : (x : Free) → is_i64_size (own p q) ≡ false → In' x → Is_value (value_name p) x → ⊥
      no_value_here x e i v = no_value N types home K places lo at hi q p plain In Vars E l0 l2 l2' (omega (arith, l3)) parts among bs (own p q) o.sizes (own_stands bs In p q o k) head x e i v

      met_no_value : (x : Free) (r : Option ℕ) → Met_in lo hi x → Is_value r x → ⊥
      met_no_value x (Some b) m v = subst (Met_in lo hi) v m
      met_no_value x None m v = v

      const_no_value : (x : Free) (r : Option ℕ) → Is_const x → Is_value r x → ⊥
      const_no_value x (Some b) c v = subst Is_const v c
      const_no_value x None c v = v

      each_scoped2 : (met : List Free) (t : Size) → Each (Scoped (λ x. May_be met x × No_part_of x)) 0 t → Each (Scoped No_value) 0 t → Each (Scoped (λ x. May_be met x × No_value x)) 0 t
      each_scoped2 met t a b = each_as (λ j d. Scoped (λ x. May_be met x × No_part_of x) j d × Scoped No_value j d) (Scoped (λ x. May_be met x × No_value x)) both t 0 (each_both (Scoped (λ x. May_be met x × No_part_of x)) (Scoped No_value) t 0 a b)
        where
          both : (j : ℕ) (d : Dim) → Scoped (λ x. May_be met x × No_part_of x) j d × Scoped No_value j d → Scoped (λ x. May_be met x × No_value x) j d
          both j (At x) w = (w.0.0, w.1)
          both j (Bound m i) w = w.0

      last_parameter : Rest later no_pattern (q + pattern_numbers p) In' (bound_scope N p (own p q) scope) → Rest bs (pattern_and p no_pattern) q In scope
      unfolding function_size
      last_parameter R = one_more no_pattern (sizes_in (is_met lo hi) r) (met_unknown lo hi In unmet r) refl may (each_scoped2 (sizes_in (is_met lo hi) r) r may (each_scoped (Rest_in no_pattern In') No_value bare r 0 R.sizes)) R
          (λ s G judged here a. subst (λ w. Telling N types s home no_pattern q at many (bound (place (sizes_in (is_met lo hi) r)) (own p q)) (bound (place (sizes_in (is_met lo hi) r)) w) G) (sym L.result)
          (tells N types home K places lo at hi q p plain In Vars E l0 l2 l2' (omega (arith, l3)) parts among bs (own p q) o.sizes (own_stands bs In p q o k) head (sizes_in (is_met lo hi) r) (met_unknown lo hi In unmet r) s scope G judged here (leave lo parts) left_as u (ap (sizes_in (is_met lo hi)) L.result) R.body_says.0 R.body_says.1 (a at (omega arith) l3 ∙ R.here)))
        where
          bare : (x : Free) → Rest_in no_pattern In' x → No_value x
          bare x (inl i, b) e v = no_value_here x e i v
          bare x (inr i, b) e v = met_no_value x (value_name p) i v

          may : Each (Scoped (λ x. May_be (sizes_in (is_met lo hi) r) x × No_part_of x)) 0 r
          may = last_may N types home K places lo at hi q p plain In Vars E l0 l2 l2' (omega (arith, l3)) parts among bs (own p q) o.sizes (own_stands bs In p q o k) head r R.sizes

      earlier_parameter : (p2 : FlatPattern) (ps : Patterns Ref BindId) → Rest later (pattern_and p2 ps) (q + pattern_numbers p) In' (bound_scope N p (own p q) scope) → Rest bs (pattern_and p (pattern_and p2 ps)) q In scope
      unfolding function_size
      earlier_parameter p2 ps R = one_more (pattern_and p2 ps) [] (none_met In) refl (each_scoped (λ d. (In' d ⊎ Is_const d) × No_part_of d) (λ x. May_be [] x × No_part_of x) may (size_from later (pattern_and p2 ps) (q + pattern_numbers p)) 0 R.sizes) (each_scoped (λ d. (In' d ⊎ Is_const d) × No_part_of d) (λ x. May_be [] x × No_value x) (λ x w. ((may x w).0, bare x w)) (size_from later (pattern_and p2 ps) (q + pattern_numbers p)) 0 R.sizes) R (λ s G judged here a. tt)
        where
          bare : (x : Free) → (In' x ⊎ Is_const x) × No_part_of x → No_value x
          bare x (inl i, b) e v = no_value_here x e i v
          bare x (inr c, b) e v = const_no_value x (value_name p) c v

          may : (x : Free) → (In' x ⊎ Is_const x) × No_part_of x → May_be [] x × No_part_of x
          may x (inl i, bare) = (entered_may N types home K places lo at hi q p plain In Vars E l0 l2 l2' (omega (arith, l3)) parts among bs (own p q) o.sizes (own_stands bs In p q o k) head [] x i bare, bare)
          may x (inr c, bare) = (inr (inr (inr (inl c))), bare)

      next_parameter : (ps : Patterns Ref BindId) → Rest later ps (q + pattern_numbers p) In' (bound_scope N p (own p q) scope) → Rest bs (pattern_and p ps) q In scope
      next_parameter no_pattern R = last_parameter R
      next_parameter (pattern_and p2 ps) R = earlier_parameter p2 ps R

    -- all parameters, which choose all names of the head
    pub all_rest : (ps : Patterns Ref BindId) (bs : List ℕ) (q : ℕ) (In : Free → Type 0) (scope : Scope) (T : TypeScope) → q + all_pattern_numbers ps ≡ at → lo < q → Plain_patterns types home K places ps q → Come_head bs ps q → All_come ps q → ((d : Free) → W d → In d) → unchosen bs (takings N types home K places come ps q) ≡ []
        → ((b : ℕ) → is_among bs b ≡ true → scope b ≡ Some (record { size = i64_size; is_general = false })) → Parameters_typed N places K types ps q T → All_fit N types home K places come ps q → Unmet lo hi In → Lacks parts (takings N types home K places come ps q) → ((b : ℕ) → is_among (all_part_names ps) b ≡ true → is_among parts b ≡ true) → Typed N places e at (all_typed_with the_one ps q T) K types
        → Known_names (With_head bs In) Vars home scope K types T → Elsewhere N types home q hi In → Elsewhere N types home lo (1 + lo) In → all_bound N types home K places come ps q scope ≡ final → Rest bs ps q In scope
    all_rest no_pattern bs q In scope T m l plain hd come_there wide none_left heads fits parts_there unmet lacks among t known E E0 z = subst (λ n. Rest bs no_pattern n In scope) (let y : at ≡ q = omega (arith, m) in y)
        (subst (λ xs. Rest xs no_pattern at In scope) (sym none_left) (last_rest In scope T t no_head_known (elsewhere_narrower N types home q hi at hi In (omega (arith, m)) (omega arith) E) z (omega (arith, m, l))))
      where
        no_head : (xs : List ℕ) → xs ≡ [] → (x : Free) → With_head xs In x → In x
        no_head xs e x (inl i) = i
        no_head xs e (Name b) (inr h) = absurd (let w : false ≡ true = ap (λ l. is_among l b) (sym e) ∙ h in cc)
        no_head xs e (Const c) (inr h) = absurd h
        no_head xs e (Own n i) (inr h) = absurd h
        no_head xs e (Unknown n i) (inr h) = absurd h
        no_head xs e (Slot i) (inr h) = absurd h

        no_head_known : Known_names In Vars home scope K types T
        no_head_known b u a = known_wider N types K places In Vars home (With_head bs In) Vars (no_head bs none_left) (λ v i. i) scope b u (known b u a)
    all_rest (pattern_and p ps) bs q In scope T m l (plain, f, k, rest) hd come_there wide none_left heads fits parts_there unmet lacks among t known E E0 z =
        let n = pattern_some p in
        let l2 : q < at = omega (arith, m, n) in
        let l2' : q + pattern_numbers p ≤ at = omega (arith, m) in
        let first : (b : ℕ) → is_among (part_names p) b ≡ true → is_among parts b ≡ true = λ b e. among b (among_first (part_names p) (all_part_names ps) b e) in
        let head : Headed home bs p q (own p q) = hd.0 in
        let o = own_says bs In p q come_there.0 wide plain f (written_known bs In Vars scope T known p q q plain fits.0) in
        next_parameter bs p q plain k In scope head heads o parts_there.0 unmet lacks.0 first l l2 l2' E E0 ps
        (all_rest ps (later bs p q plain k In scope head heads o parts_there.0 unmet lacks.0 first l l2 l2' E E0) (q + pattern_numbers p) (In' bs p q plain k In scope head heads o parts_there.0 unmet lacks.0 first l l2 l2' E E0) (bound_scope N p (own p q) scope) (typed_with the_one p q T) (omega (arith, m)) (omega (arith, l)) rest hd.1 come_there.1 (λ d i. inl (wide d i)) none_left
        (heads_behind bs p q plain k In scope head heads o parts_there.0 unmet lacks.0 first l l2 l2' E E0) fits.1 parts_there.1 (unmet_behind bs p q plain k In scope head heads o parts_there.0 unmet lacks.0 first l l2 l2' E E0)
        lacks.1 (λ b e. among b (among_later (part_names p) (all_part_names ps) b e)) t
        (known_behind bs p q plain k In scope head heads o parts_there.0 unmet lacks.0 first l l2 l2' E E0 T fits.0 known) (behind bs p q plain k In scope head heads o parts_there.0 unmet lacks.0 first l l2 l2' E E0) (before_it bs p q plain k In scope head heads o parts_there.0 unmet lacks.0 first l l2 l2' E E0) z)

-- ---- by itself a parameter has its own sizes

module _ (N : Names) (types : Sub) (home : ℕ → ℕ) (K : Kinds) (places : Kind) (data_places : 1 ≤ level places) (W : Free → Type 0) where
  pub own_head : (ps : Patterns Ref BindId) (bs : List ℕ) (q : ℕ) → Plain_head types home K places N bs ps q → Come_head N types home K places data_places (own_sizes N types) W bs ps q
  own_head no_pattern bs q h = tt
  own_head (pattern_and p ps) bs q h = (record { apart = h.0.apart; at_home = h.0.at_home }, own_head ps (without (chosen_by bs (parameter types home K places N p q)) bs) (q + pattern_numbers p) h.1)

  pub own_come : (ps : Patterns Ref BindId) (q : ℕ) → All_come N types home K places data_places (own_sizes N types) W ps q
  own_come no_pattern q = tt
  own_come (pattern_and p ps) q = (inl refl, own_come ps (q + pattern_numbers p))
