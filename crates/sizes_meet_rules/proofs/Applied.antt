-- An application of a name or a primitive to all of its arguments meets the rules where these do.
use Rattle.std.proofs.Common.{◌≡◌, ◌⊎◌, ℕ, suc, ◌+◌, ◌<◌, ◌≤◌, List, [], ◌∷◌, ◌++◌, Bool, true, false, cond, Option, Some, None, Ok, refl, sym, ap, ◌∙◌, subst, arith, inl, inr}
use Rattle.std.specs.Prelude.{length}
use Rattle.fut_flat.specs.declared.prim.Ref.TheVariants as ref
use Rattle.fut_flat.specs.Numbers.{numbers}
use Rattle.fut_flat.specs.Terms.{Use, Apply}
use Rattle.fut_flat.specs.Erased.{FlatTerm}
use Rattle.fut_types.specs.declared.Kind.{Kind}
use Rattle.fut_types.specs.declared.Head.TheVariants as head
use Rattle.fut_types.specs.Types.{Ty, Made, none, more, fun_ty, Sub, Kinds, HasKind, level}
use Rattle.fut_typing.specs.Names.{Names}
use Rattle.sized_types.specs.Sizes.{Free, Const, Name, Own, Unknown, Slot, Variable, Size, Hole, Open, Level, Built, Fun, erased, renamed}
use Rattle.fut_sizes.specs.Agreeing.{Answer}
use Rattle.fut_sizes.specs.Applications.{Later, Argument, Part, Applied, is_function, uses}
use Rattle.fut_sizes.specs.Primitives.{prim_size, is_regular}
use Rattle.fut_sizes.specs.Functions.{is_slot, unknown_slot, closed}
use Rattle.fut_sizes.specs.Matching.{Found, nothing_found, made_at, found_size, read, none_opened, dim_in, in_opened}
use Rattle.fut_sizes.specs.Rules.{Each_hole, Sized}
use Rattle.fut_sizes.specs.Scopes.{Scope, instance}
use Rattle.fut_sizes.specs.Scoping.{Context}
use Rattle.fut_sizes.specs.Sizing.{finished}
use Rattle.fut_sizes.specs.Steps.{State, Done, at_node}
use Rattle.fut_sizes.specs.Suiting.{Each, Scoped, Free_of, Suits, suits_same}
use Rattle.sizes_meet_rules.specs.Known.{is_i64_size, Says, Judged, Elsewhere}
use Rattle.sizes_meet_rules.specs.Plain.{Reduces, Is_reduction, One_left, Is_call}
use Rattle.sizes_meet_rules.proofs.Applying.{read_twice}
use Rattle.sizes_meet_rules.proofs.Chains.{Given, Waiting_given, Named_given, Widths, arguments, Takes_all, widened, widened_widths, here, wants, laters, last_opened, last_size, last_goes, last_found, Matched_ran, last_slots, arrows_of, argument_by, All_plain, Reads, Kept, met_all}
use Rattle.sizes_meet_rules.proofs.Filling.{Rest_fine}
use Rattle.sizes_meet_rules.proofs.Frames.{Okay, none_meant, by_itself, Frames, not_filled, Framed, Settled_parameters, quantified_as}
use Rattle.sizes_meet_rules.proofs.Meeting.{each_scoped, met_wider, at_itself, at_another, With_met, met_settled}
use Rattle.sizes_meet_rules.proofs.Noting.{last_settled, within_avoids, Placed, placed_order, Avoids, Within, Right, noting, noting_other, noting_right, right_as, right_first, right_later, both_closed, both_avoid, both_within, both_distinct, laters_avoid, laters_within, laters_distinct, laters_closed, uses_avoid, uses_within, uses_distinct, uses_closed, met_noted_is, ended, Stages, Unnamed, stages}
use Rattle.sizes_meet_rules.proofs.Reading.{found_settled}
use Rattle.sizes_meet_rules.proofs.Replacing.{hole_as}
use Rattle.sizes_meet_rules.proofs.Settling.{Any_variable}
use Rattle.sizes_meet_rules.proofs.Showing.{Law_of}
use Rattle.fut_sizes.specs.Levels.{levels_within}
use Rattle.fut_sizes.specs.Applications.{Want, Met}
use Rattle.sizes_meet_rules.proofs.Meeting.{Meets}
use Rattle.sizes_meet_rules.proofs.Heads.{Head, Primitive_head, Resolved, resolved, primitive_lambda, primitive_named, primitive_wide}
use Rattle.sizes_meet_rules.proofs.Parts.{spine, all_some, Data_meets, Function_meets, Lambda_waits, Lambda_wide, Named_wide, Given_meets, All_given, One_waits, First_waits, All_parts, below, none_dropped, not_in_outside, Later_part, all_plain, all_fit, Last_says, last_says, Inner_nodes, nodes_of, stage_here, rules_all}
use Rattle.sizes_meet_rules.proofs.Later.{own_state, with_size, sized_by, state_by, Went_by, sized_arguments, sized_arrows, sized_spine, sized_placed, sized_widths, data_parts, one_parts, none_later, one_later, one_given}
use Rattle.sizes_meet_rules.proofs.Spines.{Spine, Spine_meets, Spine_law}
use Rattle.sizes_meet_rules.proofs.Named.{named_found, same_named, named_size, named_is_function, Used_as}
use Rattle.sizes_meet_rules.proofs.Lambdas.{Wants_formed, wanted_of, found_behind, Lambda_result, All_data_given}
use Rattle.sizes_meet_rules.proofs.Primitives.{types_there, prim_fine, reduction_fine}
use Rattle.sizes_meet_rules.proofs.Wanting.{then_is}
use Rattle.sizes_meet_rules.proofs.Wide.{same_wanted, same_behind, wide_size, wide_is_function, wide_answer, behind_settled, Wide_went, wide_meets, wide_later, wide_gives}

module _ (N : Names) (types : Sub) (home : ℕ → ℕ) (K : Kinds) (places : Kind) (data_places : 1 ≤ level places) where
  -- ---- with the numbers that are kept for each result

  wide_argument : (g : Given) (m : ℕ) (o : Option Argument) → argument_by o (record { node = g.node; value = g.value; named = g.named; size = g.size; own = g.own; term = g.term; width = m; waits = g.waits }) ≡ argument_by o g
  wide_argument g m None = refl
  wide_argument g m (Some f) = refl

  wide_arguments : (gs : List Given) (t : Size) → arguments (widened gs t) ≡ arguments gs
  wide_arguments [] t = refl
  wide_arguments (g ∷ gs) (Fun k p r) = ap (λ a. a ∷ arguments (widened gs r)) (wide_argument g (levels_within r) g.waits) ∙ ap (λ xs. argument_by g.waits g ∷ xs) (wide_arguments gs r)
  wide_arguments (g ∷ gs) (Hole v) = refl
  wide_arguments (g ∷ gs) (Open m v u) = refl
  wide_arguments (g ∷ gs) (Level d t) = refl
  wide_arguments (g ∷ gs) (Built f ts) = refl

  wide_arrows : (gs : List Given) (t : Size) (u : Ty) → arrows_of types (widened gs t) u ≡ arrows_of types gs u
  wide_arrows [] t u = refl
  wide_arrows (g ∷ gs) (Fun k p r) u = ap (fun_ty (types g.node)) (wide_arrows gs r u)
  wide_arrows (g ∷ gs) (Hole v) u = refl
  wide_arrows (g ∷ gs) (Open m v w) u = refl
  wide_arrows (g ∷ gs) (Level d t) u = refl
  wide_arrows (g ∷ gs) (Built f ts) u = refl

  wide_spines : (f : FlatTerm) (gs : List Given) (t : Size) → spine f (widened gs t) ≡ spine f gs
  wide_spines f [] t = refl
  wide_spines f (g ∷ gs) (Fun k p r) = wide_spines (Apply f g.term) gs r
  wide_spines f (g ∷ gs) (Hole v) = refl
  wide_spines f (g ∷ gs) (Open m v u) = refl
  wide_spines f (g ∷ gs) (Level d t) = refl
  wide_spines f (g ∷ gs) (Built h ts) = refl

  wide_placed : (gs : List Given) (t : Size) (from hi : ℕ) → Placed gs from hi → Placed (widened gs t) from hi
  wide_placed [] t from hi p = p
  wide_placed (g ∷ gs) (Fun k x r) from hi p = (p.0, wide_placed gs r (from + numbers g.term) hi p.1)
  wide_placed (g ∷ gs) (Hole v) from hi p = p
  wide_placed (g ∷ gs) (Open m v u) from hi p = p
  wide_placed (g ∷ gs) (Level d t) from hi p = p
  wide_placed (g ∷ gs) (Built f ts) from hi p = p

  module _ (In : Free → Type 0) (Vars : Variable → Type 0) (scope : Scope) where
    wide_data : (g : Given) (m : ℕ) (st mid : State) → Data_meets N types home K places data_places In Vars scope g st mid → Data_meets N types home K places data_places In Vars scope (record { node = g.node; value = g.value; named = g.named; size = g.size; own = g.own; term = g.term; width = m; waits = g.waits }) st mid
    wide_data g m st mid h = (record { value_is = h.0.value_is; inner = record { says = h.0.inner.says; typed = h.0.inner.typed; kept = h.0.inner.kept; dropped = h.0.inner.dropped; rules = h.0.inner.rules }; noted = h.0.noted; value_known = h.0.value_known; suits = h.0.suits; own_sizes = h.0.own_sizes; own_named = h.0.own_named; own_number = h.0.own_number }, h.1)

    wide_function : (g : Given) (m : ℕ) (st mid : State) → Function_meets N types home K places data_places In Vars scope g st mid → Function_meets N types home K places data_places In Vars scope (record { node = g.node; value = g.value; named = g.named; size = g.size; own = g.own; term = g.term; width = m; waits = g.waits }) st mid
    wide_function g m st mid h = (record { value_is = h.0.value_is; inner = record { says = h.0.inner.says; typed = h.0.inner.typed; kept = h.0.inner.kept; dropped = h.0.inner.dropped; rules = h.0.inner.rules }; noted = h.0.noted; value_known = h.0.value_known; suits = h.0.suits; own_sizes = h.0.own_sizes; own_named = h.0.own_named; own_number = h.0.own_number }, h.1)

    wide_given : (gs : List Given) (t : Size) (st A : State) → All_given N types home K places data_places In Vars scope gs st A → All_given N types home K places data_places In Vars scope (widened gs t) st A
    wide_given [] t st A h = h
    wide_given (g ∷ gs) (Fun k p r) st A h = (h.0, (wide_data g (levels_within r) st h.0 h.1.0, wide_given gs r h.0 A h.1.1))
    wide_given (g ∷ gs) (Hole v) st A h = h
    wide_given (g ∷ gs) (Open m v u) st A h = h
    wide_given (g ∷ gs) (Level d t) st A h = h
    wide_given (g ∷ gs) (Built f ts) st A h = h

    wide_lambda : (g : Given) (m : ℕ) → Lambda_waits N types home K places data_places In Vars scope g → Lambda_waits N types home K places data_places In Vars scope (record { node = g.node; value = g.value; named = g.named; size = g.size; own = g.own; term = g.term; width = m; waits = g.waits })
    wide_lambda g m h = record { st = h.st; part = h.part; waits = h.waits; waits_is = h.waits_is; value = h.value; named = h.named; flat = h.flat }

    wide_waits : (gs : List Given) (t : Size) (st A : State) → One_waits N types home K places data_places In Vars scope gs st A → One_waits N types home K places data_places In Vars scope (widened gs t) st A
    wide_waits [] t st A h = absurd h
    wide_waits (g ∷ gs) (Fun k p r) st A (inl h) = inl (h.0, (wide_data g (levels_within r) st h.0 h.1.0, wide_waits gs r h.0 A h.1.1))
    wide_waits (g ∷ gs) (Fun k p r) st A (inr (inl h)) = inr (inl (wide_lambda g (levels_within r) h.0, wide_given gs r st A h.1))
    wide_waits (g ∷ gs) (Fun k p r) st A (inr (inr h)) = inr (inr (h.0, (wide_function g (levels_within r) st h.0 h.1.0, wide_given gs r h.0 A h.1.1)))
    wide_waits (g ∷ gs) (Hole v) st A h = h
    wide_waits (g ∷ gs) (Open m v u) st A h = h
    wide_waits (g ∷ gs) (Level d t) st A h = h
    wide_waits (g ∷ gs) (Built f ts) st A h = h

    wide_first : (gs : List Given) (t : Size) (st A : State) → First_waits N types home K places data_places In Vars scope gs st A → First_waits N types home K places data_places In Vars scope (widened gs t) st A
    wide_first [] t st A h = absurd h
    wide_first (g ∷ gs) (Fun k p r) st A (inl (L, h)) = inl (record { st = L.st; part = L.part; waits = L.waits; waits_is = L.waits_is; value = L.value; named = L.named; is_fun = L.is_fun; gives = L.gives }, wide_given gs r st A h)
    wide_first (g ∷ gs) (Fun k p r) st A (inr (mid, (L, h))) = inr (mid, (record { own = L.own; waits_is = L.waits_is; own_fun = L.own_fun; value_is = L.value_is; value_known = L.value_known; says = L.says; typed = L.typed; arrows = L.arrows; of_function = L.of_function; kept = L.kept; dropped = L.dropped; noted = L.noted; rules = L.rules }, wide_given gs r mid A h))
    wide_first (g ∷ gs) (Hole v) st A h = h
    wide_first (g ∷ gs) (Open m v u) st A h = h
    wide_first (g ∷ gs) (Level d t) st A h = h
    wide_first (g ∷ gs) (Built f ts) st A h = h

  -- ---- it is applied to all of them

  abbrev Nonempty : List Given → Type 0
  Nonempty [] = ⊥
  Nonempty (g ∷ gs) = Unit {0}

  last_closed : (lo : ℕ) (gs : List Given) (t : Size) → Each_hole Any_variable t → Each_hole Any_variable (last_size lo gs t)
  unfolding Each_hole
  last_closed lo [] t h = h
  last_closed lo (g ∷ gs) (Fun k p r) h = last_closed lo gs r h.1
  last_closed lo (g ∷ gs) (Hole v) h = h
  last_closed lo (g ∷ gs) (Open m v u) h = h
  last_closed lo (g ∷ gs) (Level d t) h = h
  last_closed lo (g ∷ gs) (Built f ts) h = h

  -- nothing is chosen again
  ends_alike : (b : Bool) (maker : ℕ → ℕ) (t : Size) → Settled_parameters 0 t → closed b maker t ≡ renamed (unknown_slot maker) t
  unfolding closed
  ends_alike true maker t h = quantified_as maker t h
  ends_alike false maker t h = refl

  module _ (In : Free → Type 0) (Vars : Variable → Type 0) (scope : Scope) (f : FlatTerm) (lo : ℕ) (E : Elsewhere N types home lo (lo + numbers f) In) (term : FlatTerm) (term_some : 1 ≤ numbers term) (gs : List Given) (is : f ≡ spine term gs) (placed : Placed gs (lo + length (arguments gs) + numbers term) (lo + numbers f)) (some : Nonempty gs) (u : Done Size)
      (t : Size) (says : Says (With_met In (lo + length (arguments gs) + numbers term) (lo + numbers f)) Vars t) (size_typed : erased t ≡ arrows_of types gs (types lo)) (takes : Takes_all gs t) (M : Matched_ran lo N types (With_met In (lo + length (arguments gs) + numbers term) (lo + numbers f)) gs t u) (rule : (m : ℕ) (s : ℕ → Size) (G : Context) → Judged In Vars scope G → s m ≡ t → Sized N types s home term m G)
      (st A : State) (parts : All_parts N types home K places data_places In Vars scope (lo + numbers f) A M.after gs st A) (later : Later_part N types home K places data_places In Vars scope A M.after gs) where
    abbrev B : State
    B = M.after

    abbrev first : ℕ
    first = lo + length (arguments gs) + numbers term

    abbrev hi : ℕ
    hi = lo + numbers f

    from_lo : lo ≤ first
    from_lo = omega arith

    head_some : 1 ≤ numbers term
    head_some = term_some

    room : first ≤ hi
    room = placed_order gs first hi placed

    abbrev Known_in : Free → Type 0
    Known_in x = With_met In first hi x

    known_settled : (x : Free) → Known_in x → is_slot x ≡ false
    known_settled x = met_settled N types home In lo hi first hi E x

    any_holes : Each_hole Any_variable t
    any_holes = hole_as Vars Any_variable (λ v i. tt) t says.variables

    plain_given : All_plain lo Known_in Known_in known_settled known_settled gs
    plain_given = all_plain N types home K places data_places In Vars scope lo first hi E from_lo A B gs st A first (omega arith) placed parts

    abbrev τ : Found
    τ = M.last

    no_frames : Frames
    no_frames j i = Const 0

    unframed : Framed none_opened none_meant no_frames
    unframed j i l = absurd l

    meant : Each (Okay Known_in none_meant) 0 t
    meant = by_itself Known_in t says.sizes

    matched_first : Reads lo Known_in Known_in known_settled known_settled gs none_opened t nothing_found τ × Kept lo Known_in Known_in known_settled known_settled (last_found lo gs t nothing_found) M.first
    matched_first = met_all lo Known_in Known_in known_settled known_settled gs none_opened t nothing_found none_meant no_frames unframed takes meant says.formed plain_given (last_found lo gs t nothing_found) M.first τ M.extends M.met

    matched : Reads lo Known_in Known_in known_settled known_settled gs none_opened t nothing_found τ
    matched = matched_first.0

    slots : (i : ℕ) → (τ.size i ≡ Slot i) ⊎ Known_in (τ.size i)
    slots i = by_last (M.slots i)
      where
        by_last : (τ.size i ≡ M.first.size i) ⊎ Known_in (τ.size i) → (τ.size i ≡ Slot i) ⊎ Known_in (τ.size i)
        by_last (inl z) = subst (λ d. (d ≡ Slot i) ⊎ Known_in d) (sym z) (matched_first.1.slots (last_slots lo Known_in Known_in known_settled known_settled gs t nothing_found (λ j. inl refl)) i)
        by_last (inr h) = inr h

    makers : (x : ℕ) → x < (last_found lo gs t nothing_found).next → τ.maker x ≡ (last_found lo gs t nothing_found).maker x
    makers x l = M.makers x (let e = matched_first.1.next in omega (arith, l, e)) ∙ matched_first.1.maker x l

    twice : (x : Free) → found_size τ (found_size τ x) ≡ found_size τ x
    twice (Slot i) = by_slot (slots i)
      where
        by_slot : (τ.size i ≡ Slot i) ⊎ Known_in (τ.size i) → found_size τ (τ.size i) ≡ τ.size i
        by_slot (inl z) = ap (found_size τ) z
        by_slot (inr w) = found_settled τ (τ.size i) (known_settled (τ.size i) w)
    twice (Const c) = refl
    twice (Name c) = refl
    twice (Own n c) = refl
    twice (Unknown n c) = refl

    abbrev read_size : Size
    read_size = read τ (in_opened (last_opened lo gs none_opened t nothing_found) (last_size lo gs t))

    read_again : (read τ read_size ≡ read_size) × Each_hole Any_variable read_size
    read_again = read_twice τ (dim_in (last_opened lo gs none_opened t nothing_found)) twice (last_size lo gs t) 0 (last_closed lo gs t any_holes)

    none_again : closed (last_goes lo gs true t) τ.maker (read τ read_size) ≡ renamed (unknown_slot τ.maker) (read τ read_size)
    none_again = ends_alike (last_goes lo gs true t) τ.maker (read τ read_size) (subst (Settled_parameters 0) (sym read_again.0) (last_settled N types τ lo Known_in known_settled Known_in known_settled gs none_opened t nothing_found none_meant no_frames unframed (λ j i l. absurd l) takes meant says.formed any_holes plain_given matched))

    abbrev all_laters : List Later
    all_laters = laters lo gs none_opened t nothing_found ++ uses (wants lo gs none_opened t nothing_found)

    abbrev made : Size
    made = renamed (unknown_slot τ.maker) (read τ read_size)

    now : u ≡ record { result = made; state = record { nodes = at_node lo made (noting N types τ all_laters B.nodes); dropped = B.dropped } }
    now = met_noted_is N types τ lo read_size all_laters (last_goes lo gs true t) B u none_again read_again.1
        (both_closed N types τ (laters lo gs none_opened t nothing_found) (uses (wants lo gs none_opened t nothing_found)) (laters_closed N types τ lo gs none_opened t nothing_found any_holes) (uses_closed N types τ lo gs none_opened t nothing_found any_holes)) M.noted

    node_here : u.state.nodes lo ≡ made
    node_here = ap (λ (x : Done Size). x.state.nodes lo) now ∙ at_itself lo made (noting N types τ all_laters B.nodes)

    node_else : (x : ℕ) → (lo ≡ x → ⊥) → u.state.nodes x ≡ noting N types τ all_laters B.nodes x
    node_else x h = ap (λ (x' : Done Size). x'.state.nodes x) now ∙ at_another lo x made (noting N types τ all_laters B.nodes) h

    all_within : Within N types τ (suc lo) hi all_laters
    all_within = both_within N types τ (suc lo) hi (laters lo gs none_opened t nothing_found) (uses (wants lo gs none_opened t nothing_found)) (laters_within N types τ lo gs none_opened t nothing_found hi (let a = head_some in let b = room in omega (arith, a, b)))
        (uses_within N types τ lo gs none_opened t nothing_found (suc lo) first hi (all_some gs) placed (let a = head_some in omega (arith, a)))

    all_right : Right N types τ all_laters (noting N types τ all_laters B.nodes)
    all_right = noting_right N types τ all_laters B.nodes (both_distinct N types τ (suc lo) first (laters lo gs none_opened t nothing_found) (uses (wants lo gs none_opened t nothing_found)) (laters_distinct N types τ lo gs none_opened t nothing_found)
        (laters_within N types τ lo gs none_opened t nothing_found first (let a = head_some in omega (arith, a))) (uses_distinct N types τ lo gs none_opened t nothing_found first hi (all_some gs) placed) (λ x l. uses_avoid N types τ lo gs none_opened t nothing_found first hi x placed l))

    module _ (s : ℕ → Size) (agrees : (x : ℕ) → lo ≤ x → x < hi → s x ≡ u.state.nodes x) where
      right_here : Right N types τ all_laters s
      right_here = right_as N types τ (suc lo) hi all_laters s (noting N types τ all_laters B.nodes) all_within (λ x l l'. agrees x (omega (arith, l)) l' ∙ node_else x (λ z. omega (arith, z, l))) all_right

      behind_all : (x : ℕ) → first ≤ x → x < hi → Avoids N types τ x (uses (wants lo gs none_opened t nothing_found)) → s x ≡ B.nodes x
      behind_all x l l' v = let a = head_some in agrees x (omega (arith, l)) l' ∙ node_else x (λ z. omega (arith, z, l, a))
          ∙ noting_other N types τ all_laters B.nodes x (both_avoid N types τ x (laters lo gs none_opened t nothing_found) (uses (wants lo gs none_opened t nothing_found)) (laters_avoid N types τ lo gs none_opened t nothing_found x (omega (arith, l, a))) v)

      stages_here : Unnamed N types τ lo Known_in known_settled gs s → Stages N types τ lo Known_in known_settled gs no_frames t nothing_found s
      stages_here unnamed = stages N types τ lo Known_in known_settled Known_in known_settled gs none_opened t nothing_found none_meant no_frames unframed (λ j i l. absurd l) takes meant says.formed any_holes plain_given matched s
          (right_first N types τ (laters lo gs none_opened t nothing_found) (uses (wants lo gs none_opened t nothing_found)) s right_here) (right_later N types τ (laters lo gs none_opened t nothing_found) (uses (wants lo gs none_opened t nothing_found)) s right_here) unnamed
          (let a = room in let b = head_some in agrees lo (omega arith) (omega (arith, a, b)) ∙ node_here ∙ ap (renamed (unknown_slot τ.maker)) read_again.0)

    nodes_here : (s : ℕ → Size) → ((x : ℕ) → lo ≤ x → x < hi → s x ≡ u.state.nodes x) → Unnamed N types τ lo Known_in known_settled gs s × Inner_nodes N types home K places data_places In Vars scope lo first hi E from_lo A B τ slots s room gs st A parts
    nodes_here s agrees = nodes_of N types home K places data_places In Vars scope lo first hi E from_lo A B τ slots s room gs none_opened t nothing_found st A first takes placed parts (λ x l l' o. later.nodes x o) (λ x l l' v. behind_all s agrees x l l' v)

    spine_rules : (s : ℕ → Size) (G : Context) → Judged In Vars scope G → ((x : ℕ) → lo ≤ x → x < hi → s x ≡ u.state.nodes x) → Sized N types s home f lo G
    spine_rules s G J agrees =
        let a = head_some in
        let nodes = nodes_here s agrees in
        let staged = stages_here s agrees nodes.0 in
        let at_head : s (here lo gs) ≡ t = stage_here N types home K places data_places In Vars scope lo first hi E from_lo A B τ slots gs no_frames t nothing_found s takes staged ∙ not_filled Known_in (ended N types τ lo no_frames) t says.sizes in
        subst (λ h. Sized N types s home h lo G) (sym is)
        (rules_all N types home K places data_places In Vars scope lo first hi E from_lo A B τ slots s G J room gs no_frames none_meant t nothing_found term st A first takes meant says.formed (λ j i l. absurd l) (omega (arith, a)) (omega arith) refl placed parts makers staged nodes.1
        (rule (here lo gs) s G J at_head))

    no_more : (x : ℕ) → (x < lo) ⊎ (hi ≤ x) → lo ≡ x → ⊥
    no_more x (inl l) z = omega (arith, l, z)
    no_more x (inr l) z = let a = head_some in let b = room in omega (arith, l, z, a, b)

    beyond : (x : ℕ) → (x < lo) ⊎ (hi ≤ x) → (x < first) ⊎ (hi ≤ x)
    beyond x (inl l) = let a = head_some in inl (omega (arith, l, a))
    beyond x (inr l) = inr l

    above : (x : ℕ) → (x < lo) ⊎ (hi ≤ x) → (x < suc lo) ⊎ (hi ≤ x)
    above x (inl l) = inl (omega (arith, l))
    above x (inr l) = inr l

    last : Last_says N types home K places data_places In Vars scope lo first hi E from_lo A B τ slots (types lo) (u.state.nodes lo)
    last = last_says N types home K places data_places In Vars scope lo first hi E from_lo A B τ slots gs no_frames none_meant t nothing_found st A first (types lo) takes meant says.variables says.formed size_typed (λ j i l. absurd l) room (let a = head_some in omega (arith, a)) placed parts makers u.state.nodes
        (stages_here u.state.nodes (λ x l l'. refl) (nodes_here u.state.nodes (λ x l l'. refl)).0)

    result_here : u.state.nodes lo ≡ u.result
    result_here = node_here ∙ sym (ap (λ (x : Done Size). x.result) now)

    pub spine_meets : Meets N types home In Vars scope f lo hi st u.result u.state
    spine_meets = record {
      says = subst (λ w. Says (With_met In lo hi) Vars w) result_here last.says;
      typed = ap erased (sym result_here) ∙ last.typed;
      here = result_here;
      kept = λ x o. node_else x (λ z. no_more x o z) ∙ noting_other N types τ all_laters B.nodes x (within_avoids N types τ (suc lo) hi all_laters x (above x o) all_within) ∙ later.nodes x (not_in_outside N types home K places data_places In Vars scope gs first hi placed x (beyond x o)) ∙ below N types home K places data_places In Vars scope hi A B gs st A first hi placed parts x (beyond x o);
      dropped = λ x o. ap (λ (x' : Done Size). x'.state.dropped x) now ∙ later.dropped x (not_in_outside N types home K places data_places In Vars scope gs first hi placed x (beyond x o)) ∙ none_dropped N types home K places data_places In Vars scope hi A B gs st A first hi placed parts x (beyond x o);
      rules = λ s G J agrees. spine_rules s G J agrees;
    }

  -- ---- an application

  -- the first argument, and those behind it
  record First (gs : List Given) : Type 0 where
    argument : Argument
    others : List Argument
    is : arguments gs ≡ argument ∷ others
    some : Nonempty gs

  some_given : (f e h : FlatTerm) (gs : List Given) → (Apply f e ≡ h → ⊥) → Apply f e ≡ spine h gs → First gs
  some_given f e h [] n z = absurd (n z)
  some_given f e h (g ∷ gs) n z = record { argument = argument_by g.waits g; others = arguments gs; is = refl; some = tt }

  module _ (In : Free → Type 0) (Vars : Variable → Type 0) (scope : Scope) where
    sized_some : (gs : List Given) (st A : State) (h : One_waits N types home K places data_places In Vars scope gs st A) → Nonempty gs → Nonempty (sized_by N types home K places data_places In Vars scope gs st A h)
    sized_some [] st A h s = absurd s
    sized_some (g ∷ gs) st A (inl h) s = tt
    sized_some (g ∷ gs) st A (inr (inl h)) s = tt
    sized_some (g ∷ gs) st A (inr (inr h)) s = tt

    module _ (f : FlatTerm) (lo : ℕ) (st : State) (d : Done Part) (S : Spine N types home K places data_places false In Vars scope f lo st d) (E : Elsewhere N types home lo (lo + numbers f) In) (kind : (H : Primitive_head N types home K In Vars scope S.term S.size S.regular S.type) → HasKind K places (types lo) ⊎ (Reduces H.primitive × One_left types home K places (types lo))) (some : Nonempty S.given) (u : Done Size) (q : finished N types lo d.result d.state ≡ Ok u) where
      abbrev wide : List Given
      wide = widened S.given S.size

      -- what is left of a primitive has no function and no new variable
      fine_there : (gs : List Given) → S.type ≡ arrows_of types gs (types lo) → (H : Primitive_head N types home K In Vars scope S.term S.size S.regular S.type) → Rest_fine gs (prim_size H.primitive)
      fine_there gs arrows H = by_kind (kind H)
        where
          by_left : (t : Ty) → types lo ≡ t → Reduces H.primitive → One_left types home K places t → Rest_fine gs (prim_size H.primitive)
          by_left (Made head.Fun (more a (more c none))) z r o = reduction_fine H.node H.primitive S.type H.given H.typed (λ x. ⊥) (λ x i. absurd i) Vars K H.kinds types gs a c r (let k = o.1 in omega (arith, data_places, k)) (arrows ∙ ap (arrows_of types gs) z)
          by_left t z r o = absurd o

          by_kind : HasKind K places (types lo) ⊎ (Reduces H.primitive × One_left types home K places (types lo)) → Rest_fine gs (prim_size H.primitive)
          by_kind (inl k) = prim_fine H.node H.primitive S.type H.given H.typed (λ x. ⊥) (λ x i. absurd i) Vars K H.kinds types gs (types lo) (omega (arith, data_places, k)) arrows
          by_kind (inr w) = by_left (types lo) refl w.0 w.1

      abbrev end_here : ℕ
      end_here = lo + numbers f

      wide_some : (gs : List Given) (t : Size) → Nonempty gs → Nonempty (widened gs t)
      wide_some [] t s = absurd s
      wide_some (g ∷ gs) (Fun k p r) s = tt
      wide_some (g ∷ gs) (Hole v) s = tt
      wide_some (g ∷ gs) (Open m v x) s = tt
      wide_some (g ∷ gs) (Level e t) s = tt
      wide_some (g ∷ gs) (Built h ts) s = tt

      -- these are the arguments in the end
      module _ (gs : List Given) (same_arguments : arguments gs ≡ arguments wide) (same_arrows : (x : Ty) → arrows_of types gs x ≡ arrows_of types wide x) (same_spine : spine S.term gs ≡ spine S.term wide) (placed_wide : Placed wide (lo + length (arguments wide) + numbers S.term) end_here → Placed gs (lo + length (arguments wide) + numbers S.term) end_here) (some_there : Nonempty gs) where
        abbrev first_here : ℕ
        first_here = lo + length (arguments gs) + numbers S.term

        abbrev Known_here : Free → Type 0
        Known_here x = With_met In first_here end_here x

        settled_here : (x : Free) → Known_here x → is_slot x ≡ false
        settled_here x = met_settled N types home In lo end_here first_here end_here E x

        from_here : lo ≤ first_here
        from_here = omega arith

        arrows_there : S.type ≡ arrows_of types gs (types lo)
        arrows_there = S.typed ∙ sym (same_arrows (types lo) ∙ wide_arrows S.given S.size (types lo))

        is_there : f ≡ spine S.term gs
        is_there = S.is ∙ sym (same_spine ∙ wide_spines S.term S.given S.size)

        placed_there : Placed gs first_here end_here
        placed_there = subst (λ xs. Placed gs (lo + length xs + numbers S.term) end_here) (sym same_arguments) (placed_wide (subst (λ xs. Placed wide (lo + length xs + numbers S.term) end_here) (sym (wide_arguments S.given S.size)) (wide_placed S.given S.size (lo + length (arguments S.given) + numbers S.term) end_here S.placed)))

        ran_there : finished N types lo (Applied S.size S.regular (arguments gs)) d.state ≡ Ok u
        ran_there = ap (λ xs. finished N types lo (Applied S.size S.regular xs) d.state) (same_arguments ∙ wide_arguments S.given S.size) ∙ ap (λ p. finished N types lo p d.state) (sym S.part) ∙ q

        abbrev Resolved_there : (State → Type 0) → Type 0
        Resolved_there Ends = Resolved N types home K In Vars scope S.term S.size S.regular S.type Known_here (λ x i. inl i) settled_here lo gs d.state u Ends

        meets_there : (Ends : State → Type 0) (R : Resolved_there Ends) → All_parts N types home K places data_places In Vars scope end_here d.state R.ran.after gs st d.state → Later_part N types home K places data_places In Vars scope d.state R.ran.after gs → Meets N types home In Vars scope f lo end_here st u.result u.state
        meets_there Ends R parts later = spine_meets In Vars scope f lo E S.term S.some gs is_there placed_there some_there u R.size R.says (R.typed ∙ arrows_there) R.takes R.ran R.rule st d.state parts later

      -- data alone
      data_meets : All_given N types home K places data_places In Vars scope S.given st d.state → Meets N types home In Vars scope f lo end_here st u.result u.state
      data_meets h = meets_there wide refl (λ x. refl) refl (λ p. p) (wide_some S.given S.size some) (λ s. s ≡ d.state) R
          (subst (λ B. All_parts N types home K places data_places In Vars scope end_here d.state B wide st d.state) (sym R.ends) (data_parts N types home K places data_places In Vars scope end_here d.state d.state wide st d.state wide_h))
          (subst (λ B. Later_part N types home K places data_places In Vars scope d.state B wide) (sym R.ends) (none_later N types home K places data_places In Vars scope d.state wide))
        where
          wide_h : All_given N types home K places data_places In Vars scope wide st d.state
          wide_h = wide_given In Vars scope S.given S.size st d.state h

          R : Resolved N types home K In Vars scope S.term S.size S.regular S.type (With_met In (lo + length (arguments wide) + numbers S.term) end_here) (λ x i. inl i) (settled_here wide refl (λ x. refl) refl (λ p. p) (wide_some S.given S.size some)) lo wide d.state u (λ s. s ≡ d.state)
          R = resolved N types home K In Vars scope S.term S.size S.regular S.type (With_met In (lo + length (arguments wide) + numbers S.term) end_here) (λ x i. inl i) (settled_here wide refl (λ x. refl) refl (λ p. p) (wide_some S.given S.size some)) lo wide d.state u (types lo)
              (arrows_there wide refl (λ x. refl) refl (λ p. p) (wide_some S.given S.size some)) (widened_widths S.given S.size) (ran_there wide refl (λ x. refl) refl (λ p. p) (wide_some S.given S.size some))
              (fine_there wide (arrows_there wide refl (λ x. refl) refl (λ p. p) (wide_some S.given S.size some)))
              (all_fit N types home K places data_places In Vars scope lo (lo + length (arguments wide) + numbers S.term) end_here E (omega arith) wide st d.state (lo + length (arguments wide) + numbers S.term) (omega arith) (placed_there wide refl (λ x. refl) refl (λ p. p) (wide_some S.given S.size some)) wide_h) S.head

      -- and a lambda
      lambda_meets : One_waits N types home K places data_places In Vars scope S.given st d.state → Primitive_head N types home K In Vars scope S.term S.size S.regular S.type → Meets N types home In Vars scope f lo end_here st u.result u.state
      lambda_meets h H = meets_there gs same_arguments same_arrows same_spine same_placed some_there (λ s. Went × (s ≡ behind)) R
          (subst (λ B. All_parts N types home K places data_places In Vars scope end_here d.state B gs st d.state) (sym R.ends.1) (one_parts N types home K places data_places In Vars scope first_there end_here wide st d.state wide_h placed_here R.ends.0))
          (subst (λ B. Later_part N types home K places data_places In Vars scope d.state B gs) (sym R.ends.1) (one_later N types home K places data_places In Vars scope wide st d.state wide_h R.ends.0))
        where
          wide_h : One_waits N types home K places data_places In Vars scope wide st d.state
          wide_h = wide_waits In Vars scope S.given S.size st d.state h

          gs : List Given
          gs = sized_by N types home K places data_places In Vars scope wide st d.state wide_h

          behind : State
          behind = state_by N types home K places data_places In Vars scope wide st d.state wide_h

          Went : Type 0
          Went = Went_by N types home K places data_places In Vars scope wide st d.state wide_h

          same_arguments : arguments gs ≡ arguments wide
          same_arguments = sized_arguments N types home K places data_places In Vars scope wide st d.state wide_h

          same_arrows : (x : Ty) → arrows_of types gs x ≡ arrows_of types wide x
          same_arrows = sized_arrows N types home K places data_places In Vars scope wide st d.state wide_h

          same_spine : spine S.term gs ≡ spine S.term wide
          same_spine = sized_spine N types home K places data_places In Vars scope S.term wide st d.state wide_h

          same_placed : Placed wide (lo + length (arguments wide) + numbers S.term) end_here → Placed gs (lo + length (arguments wide) + numbers S.term) end_here
          same_placed = sized_placed N types home K places data_places In Vars scope wide st d.state wide_h (lo + length (arguments wide) + numbers S.term) end_here

          some_there : Nonempty gs
          some_there = sized_some wide st d.state wide_h (wide_some S.given S.size some)

          first_there : ℕ
          first_there = lo + length (arguments gs) + numbers S.term

          -- the same numbers, by the arguments before the lambda is sized
          placed_here : Placed wide first_there end_here
          placed_here = subst (λ xs. Placed wide (lo + length xs + numbers S.term) end_here) (sym same_arguments) (placed_there wide refl (λ x. refl) refl (λ p. p) (wide_some S.given S.size some))

          R : Resolved N types home K In Vars scope S.term S.size S.regular S.type (With_met In first_there end_here) (λ x i. inl i) (settled_here gs same_arguments same_arrows same_spine same_placed some_there) lo gs d.state u (λ s. Went × (s ≡ behind))
          R = primitive_lambda N types home K In Vars scope S.term S.size S.regular S.type (With_met In first_there end_here) (λ x i. inl i) (settled_here gs same_arguments same_arrows same_spine same_placed some_there) lo gs d.state u (types lo)
              (arrows_there gs same_arguments same_arrows same_spine same_placed some_there) (sized_widths N types home K places data_places In Vars scope wide st d.state wide_h S.size (widened_widths S.given S.size)) (ran_there gs same_arguments same_arrows same_spine same_placed some_there) H (fine_there gs (arrows_there gs same_arguments same_arrows same_spine same_placed some_there) H)
              Went behind (one_given N types home K places data_places In Vars scope lo first_there end_here E (omega arith) Went wide st d.state first_there (omega arith) placed_here wide_h (λ w. w))

      -- and a lambda before data, which takes the parameters that are wanted of it
      module _ (g : Given) (gs : List Given) (z : g ∷ gs ≡ wide) (L : Lambda_wide N types home K places data_places In Vars scope g) (h : All_given N types home K places data_places In Vars scope gs st d.state) (H : Primitive_head N types home K In Vars scope S.term S.size S.regular S.type) where
        abbrev opened_size : Size
        opened_size = instance H.node (types_there H.node H.primitive S.type H.given H.typed) (prim_size H.primitive)

        abbrev answer : Answer (Done Met)
        answer = wide_answer N types home K places data_places In Vars scope g L gs lo (is_regular H.primitive) opened_size d.state

        abbrev first_now : Given
        first_now = with_size g (wide_size answer)

        abbrev behind : State
        behind = own_state d.state answer

        waits_now : argument_by first_now.waits first_now ≡ argument_by g.waits g
        waits_now = ap (λ o. argument_by o first_now) L.waits_is ∙ ap (λ o. argument_by o g) (sym L.waits_is)

        same_arguments : arguments (first_now ∷ gs) ≡ arguments wide
        same_arguments = ap (λ a. a ∷ arguments gs) waits_now ∙ ap arguments z

        same_arrows : (x : Ty) → arrows_of types (first_now ∷ gs) x ≡ arrows_of types wide x
        same_arrows x = ap (λ ws. arrows_of types ws x) z

        same_spine : spine S.term (first_now ∷ gs) ≡ spine S.term wide
        same_spine = ap (spine S.term) z

        same_placed : Placed wide (lo + length (arguments wide) + numbers S.term) end_here → Placed (first_now ∷ gs) (lo + length (arguments wide) + numbers S.term) end_here
        same_placed p = subst (λ ws. Placed ws (lo + length (arguments wide) + numbers S.term) end_here) (sym z) p

        abbrev from_there : ℕ
        from_there = first_here (first_now ∷ gs) same_arguments same_arrows same_spine same_placed tt

        low : lo ≤ from_there
        low = omega arith

        placed_now : Placed (first_now ∷ gs) from_there end_here
        placed_now = placed_there (first_now ∷ gs) same_arguments same_arrows same_spine same_placed tt

        node_is : from_there ≡ g.node
        node_is = sym placed_now.0

        first_room : g.node + numbers g.term ≤ end_here
        first_room = let y = placed_now.0 in let q = placed_order gs (from_there + numbers g.term) end_here placed_now.1 in omega (arith, y, q)

        abbrev Went : Type 0
        Went = Wide_went N types home K places data_places In Vars scope lo from_there end_here E low g L node_is first_room answer d.state

        abbrev Behind_it : Free → Type 0
        Behind_it x = With_met In (g.node + numbers g.term) end_here x

        abbrev waiting_now : Waiting_given first_now
        waiting_now = record { waiting = L.waits.waiting; waits = L.waits_is; value = L.value; named = L.named; is_fun = wide_is_function answer }

        data_all : All_data_given (λ x. With_met In from_there end_here x) Vars K types gs
        data_all = all_fit N types home K places data_places In Vars scope lo from_there end_here E low gs st d.state (from_there + numbers g.term) (omega arith) placed_now.1 h

        data_there : All_data_given Behind_it Vars K types gs
        data_there = all_fit N types home K places data_places In Vars scope lo (g.node + numbers g.term) end_here E (let y = node_is in omega (arith, y)) gs st d.state (g.node + numbers g.term) (omega arith) (subst (λ m. Placed gs (m + numbers g.term) end_here) node_is placed_now.1) h

        run : (before : Found) (m : Done Met) → found_behind lo first_now gs opened_size ≡ Ok before → Wants_formed Behind_it K (wanted_of lo (is_regular H.primitive) first_now gs opened_size before).size × (erased (wanted_of lo (is_regular H.primitive) first_now gs opened_size before).size ≡ types g.node)
            → L.waits.waiting (Some (wanted_of lo (is_regular H.primitive) first_now gs opened_size before)) (made_at (here lo gs) before) d.state ≡ Ok m
            → Lambda_result (λ x. With_met In from_there end_here x) Vars Went behind first_now (types g.node) (wanted_of lo (is_regular H.primitive) first_now gs opened_size before) (made_at (here lo gs) before) m
        run before m b f q =
            let w = wanted_of lo (is_regular H.primitive) first_now gs opened_size before in
            let is : answer ≡ Ok m = then_is (found_behind lo g gs opened_size) (λ y. L.waits.waiting (Some (wanted_of lo (is_regular H.primitive) g gs opened_size y)) (made_at (here lo gs) y) d.state) (sym (same_behind lo g (wide_size answer) gs opened_size) ∙ b)
            (ap (λ (v : Want). L.waits.waiting (Some v) (made_at (here lo gs) before) d.state) (sym (same_wanted lo (is_regular H.primitive) g (wide_size answer) gs opened_size before)) ∙ q) in
            wide_gives N types home K places data_places In Vars scope lo from_there end_here E low g L node_is first_room answer d.state w (made_at (here lo gs) before) m is f.0 f.1 q

        R : Resolved N types home K In Vars scope S.term S.size S.regular S.type (λ x. With_met In from_there end_here x) (λ x i. inl i) (settled_here (first_now ∷ gs) same_arguments same_arrows same_spine same_placed tt) lo (first_now ∷ gs) d.state u (λ s. Went × (s ≡ behind))
        R = primitive_wide N types home K In Vars scope S.term S.size S.regular S.type (λ x. With_met In from_there end_here x) (λ x i. inl i) (settled_here (first_now ∷ gs) same_arguments same_arrows same_spine same_placed tt) Behind_it (behind_settled N types home K places data_places In Vars scope lo from_there end_here E low g L node_is first_room answer d.state)
            lo first_now gs d.state u (types lo) (arrows_there (first_now ∷ gs) same_arguments same_arrows same_spine same_placed tt) (sized_width (subst (λ ws. Widths ws S.size) (sym z) (widened_widths S.given S.size))) (ran_there (first_now ∷ gs) same_arguments same_arrows same_spine same_placed tt) H (fine_there (first_now ∷ gs) (arrows_there (first_now ∷ gs) same_arguments same_arrows same_spine same_placed tt) H)
            Went behind waiting_now L.waits.of_function.0 L.waits.of_function.1.0 L.waits.of_function.1.1 data_all data_there run
          where
            by_size : (t : Size) → Widths (g ∷ gs) t → Widths (first_now ∷ gs) t
            by_size (Fun k p r) w = w
            by_size (Hole v) w = tt
            by_size (Open m v x) w = tt
            by_size (Level e t) w = tt
            by_size (Built h ts) w = tt

            sized_width : Widths (g ∷ gs) S.size → Widths (first_now ∷ gs) S.size
            sized_width w = by_size S.size w

        one_first : Meets N types home In Vars scope f lo end_here st u.result u.state
        one_first = meets_there (first_now ∷ gs) same_arguments same_arrows same_spine same_placed tt (λ s. Went × (s ≡ behind)) R
            (subst (λ B. All_parts N types home K places data_places In Vars scope end_here d.state B (first_now ∷ gs) st d.state) (sym R.ends.1)
            (st, (inr (inr (wide_meets N types home K places data_places In Vars scope lo from_there end_here E low g L node_is first_room answer d.state R.ends.0, refl)), data_parts N types home K places data_places In Vars scope end_here behind d.state gs st d.state h)))
            (subst (λ B. Later_part N types home K places data_places In Vars scope d.state B (first_now ∷ gs)) (sym R.ends.1) (wide_later N types home K places data_places In Vars scope lo from_there end_here E low g L node_is first_room answer d.state R.ends.0 gs))

      -- and a name or an application before data, which is used at the sizes that are wanted of it
      module _ (g : Given) (gs : List Given) (z : g ∷ gs ≡ wide) (mid : State) (L : Named_wide N types home K places data_places In Vars scope g st mid) (h : All_given N types home K places data_places In Vars scope gs mid d.state) (H : Primitive_head N types home K In Vars scope S.term S.size S.regular S.type) where
        abbrev types_here : Variable → Ty
        types_here = types_there H.node H.primitive S.type H.given H.typed

        abbrev named_opened : Size
        named_opened = instance H.node types_here (prim_size H.primitive)

        abbrev named_answer : Answer Found
        named_answer = named_found lo (is_regular H.primitive) g L.own gs named_opened

        abbrev size_now : Size
        size_now = named_size H.node types_here (prim_size H.primitive) named_answer

        abbrev named_now : Given
        named_now = record { node = g.node; value = g.value; named = g.named; size = size_now; own = cond g.named size_now L.own; term = g.term; width = g.width; waits = g.waits }

        named_arguments : arguments (named_now ∷ gs) ≡ arguments wide
        named_arguments = ap (λ a. a ∷ arguments gs) (ap (λ o. argument_by o named_now) L.waits_is ∙ ap (λ o. argument_by o g) (sym L.waits_is)) ∙ ap arguments z

        named_arrows : (x : Ty) → arrows_of types (named_now ∷ gs) x ≡ arrows_of types wide x
        named_arrows x = ap (λ ws. arrows_of types ws x) z

        named_spine : spine S.term (named_now ∷ gs) ≡ spine S.term wide
        named_spine = ap (spine S.term) z

        named_placed : Placed wide (lo + length (arguments wide) + numbers S.term) end_here → Placed (named_now ∷ gs) (lo + length (arguments wide) + numbers S.term) end_here
        named_placed p = subst (λ ws. Placed ws (lo + length (arguments wide) + numbers S.term) end_here) (sym z) p

        abbrev begins : ℕ
        begins = first_here (named_now ∷ gs) named_arguments named_arrows named_spine named_placed tt

        placed_there_now : Placed (named_now ∷ gs) begins end_here
        placed_there_now = placed_there (named_now ∷ gs) named_arguments named_arrows named_spine named_placed tt

        begins_at : begins ≡ g.node
        begins_at = sym placed_there_now.0

        begins_within : begins ≤ end_here
        begins_within = placed_order (named_now ∷ gs) begins end_here placed_there_now

        abbrev In_all : Free → Type 0
        In_all x = With_met In begins end_here x

        data_behind : All_data_given In_all Vars K types gs
        data_behind = all_fit N types home K places data_places In Vars scope lo begins end_here E (omega arith) gs mid d.state (begins + numbers g.term) (omega arith) placed_there_now.1 h

        -- none of its sizes is made at a node before its arguments
        fresh_at : (n : ℕ) → lo ≤ n → n < begins → (x : Free) → In_all x → Free_of n x
        fresh_at n l l' (Const c) w = tt
        fresh_at n l l' (Name c) w = tt
        fresh_at n l l' (Own k i) (inl w) = λ e. let b = begins_within in E.outside (Own k i) w (omega (arith, e, l), omega (arith, e, l', b))
        fresh_at n l l' (Own k i) (inr w) = absurd w
        fresh_at n l l' (Unknown k i) (inl w) = λ e. let b = begins_within in E.outside (Unknown k i) w (omega (arith, e, l), omega (arith, e, l', b))
        fresh_at n l l' (Unknown k i) (inr w) = λ e. let a = w.0 in omega (arith, e, a, l')
        fresh_at n l l' (Slot i) (inl w) = let y : true ≡ false = E.no_slot (Slot i) w in cc
        fresh_at n l l' (Slot i) (inr w) = w

        term_there : 1 ≤ numbers S.term
        term_there = S.some

        abbrev given_named : Named_given named_now
        given_named = record { own = L.own; waits = L.waits_is; own_fun = L.own_fun; is_fun = named_is_function H.node types_here (prim_size H.primitive) named_answer }

        named_width : (t : Size) → Widths (g ∷ gs) t → Widths (named_now ∷ gs) t
        named_width (Fun k p r) w = w
        named_width (Hole v) w = tt
        named_width (Open m v x) w = tt
        named_width (Level e t) w = tt
        named_width (Built b ts) w = tt

        named_room : g.node + numbers g.term ≤ end_here
        named_room = let y = begins_at in let q = placed_order gs (begins + numbers g.term) end_here placed_there_now.1 in omega (arith, y, q)

        own_later : (x : Free) → With_met In g.node (g.node + numbers g.term) x → With_met In g.node end_here x
        own_later x (inl i) = inl i
        own_later x (inr i) = inr (met_wider g.node (g.node + numbers g.term) g.node end_here (omega arith) named_room x i)

        own_in : (x : Free) → With_met In g.node (g.node + numbers g.term) x → In_all x
        own_in x i = subst (λ m. With_met In m end_here x) (sym begins_at) (own_later x i)

        R_named : Resolved N types home K In Vars scope S.term S.size S.regular S.type In_all (λ x i. inl i) (settled_here (named_now ∷ gs) named_arguments named_arrows named_spine named_placed tt) lo (named_now ∷ gs) d.state u (λ s. Used_as In_all Vars L.own named_now.size × (s ≡ d.state))
        R_named = primitive_named N types home K In Vars scope S.term S.size S.regular S.type In_all (λ x i. inl i) (settled_here (named_now ∷ gs) named_arguments named_arrows named_spine named_placed tt) lo named_now gs d.state u (types lo) (arrows_there (named_now ∷ gs) named_arguments named_arrows named_spine named_placed tt)
            (named_width S.size (subst (λ ws. Widths ws S.size) (sym z) (widened_widths S.given S.size))) (ran_there (named_now ∷ gs) named_arguments named_arrows named_spine named_placed tt) H (fine_there (named_now ∷ gs) (arrows_there (named_now ∷ gs) named_arguments named_arrows named_spine named_placed tt) H)
            given_named L.of_function.0 L.of_function.1.0 L.of_function.1.1 data_behind (record { formed = L.says.formed; sizes = each_scoped (λ x. With_met In g.node (g.node + numbers g.term) x) In_all own_in L.own 0 L.says.sizes; variables = L.says.variables; arrows = L.arrows }) L.typed
            (ap (named_size H.node types_here (prim_size H.primitive)) (sym (same_named lo (is_regular H.primitive) g size_now (cond g.named size_now L.own) L.own gs named_opened)))
            (λ b w. fresh_at (here lo gs) (omega arith) (let n = term_there in omega (arith, n)) (Unknown (here lo gs) b) w refl) lo (suc lo) (λ e. omega (arith, e)) (λ x w. (fresh_at lo (omega arith) (omega arith) x w, fresh_at (suc lo) (omega arith) (let n = term_there in omega (arith, n)) x w))

        no_number : (t : Size) → is_function t ≡ true → is_i64_size t ≡ true → ⊥
        no_number (Fun k p r) a b = let y : false ≡ true = b in cc
        no_number (Hole v) a b = let y : false ≡ true = a in cc
        no_number (Open m v x) a b = let y : false ≡ true = b in cc
        no_number (Level e t) a b = let y : false ≡ true = b in cc
        no_number (Built k ts) a b = let y : false ≡ true = a in cc

        named_meets : Used_as In_all Vars L.own named_now.size → Given_meets N types home K places data_places In Vars scope end_here named_now st mid
        named_meets U = record {
          value_is = L.value_is;
          inner = record {
            says = record { sizes = sizes_there; variables = U.says.variables; formed = U.says.formed };
            typed = U.typed ∙ L.typed;
            kept = L.kept;
            dropped = L.dropped;
            rules = λ s G J e a. L.rules s G J size_now U.suits e a;
          };
          noted = λ e. L.noted e ∙ ap (λ b. cond b size_now L.own) (sym e);
          value_known = L.value_known;
          suits = node_suits g.named;
          own_sizes = node_sizes g.named;
          own_named = λ e. ap (λ b. cond b size_now L.own) e;
          own_number = λ e. absurd (no_number size_now (named_is_function H.node types_here (prim_size H.primitive) named_answer) e);
        }
          where
            sizes_there : Each (Scoped (λ x. With_met In g.node end_here x)) 0 size_now
            sizes_there = subst (λ m. Each (Scoped (λ x. With_met In m end_here x)) 0 size_now) begins_at U.says.sizes

            node_suits : (b : Bool) → Suits (cond b size_now L.own) size_now
            node_suits true = suits_same
            node_suits false = U.suits

            node_sizes : (b : Bool) → Each (Scoped (λ x. With_met In g.node end_here x)) 0 (cond b size_now L.own)
            node_sizes true = sizes_there
            node_sizes false = each_scoped (λ x. With_met In g.node (g.node + numbers g.term) x) (λ x. With_met In g.node end_here x) own_later L.own 0 L.says.sizes

        one_named : Meets N types home In Vars scope f lo end_here st u.result u.state
        one_named = meets_there (named_now ∷ gs) named_arguments named_arrows named_spine named_placed tt (λ s. Used_as In_all Vars L.own named_now.size × (s ≡ d.state)) R_named
            (subst (λ B. All_parts N types home K places data_places In Vars scope end_here d.state B (named_now ∷ gs) st d.state) (sym R_named.ends.1)
            (mid, (inr (inl (named_meets R_named.ends.0, (L.own, L.waits_is))), data_parts N types home K places data_places In Vars scope end_here d.state d.state gs mid d.state h)))
            (subst (λ B. Later_part N types home K places data_places In Vars scope d.state B (named_now ∷ gs)) (sym R_named.ends.1) (none_later N types home K places data_places In Vars scope d.state (named_now ∷ gs)))

      first_meets : (ws : List Given) → ws ≡ wide → First_waits N types home K places data_places In Vars scope ws st d.state → Primitive_head N types home K In Vars scope S.term S.size S.regular S.type → Meets N types home In Vars scope f lo end_here st u.result u.state
      first_meets [] z h H = absurd h
      first_meets (g ∷ gs) z (inl (L, h)) H = one_first g gs z L h H
      first_meets (g ∷ gs) z (inr (mid, (L, h))) H = one_named g gs z mid L h H

      any_meets : Meets N types home In Vars scope f lo end_here st u.result u.state
      any_meets = by_kind S.meet
        where
          by_kind : Spine_meets N types home K places data_places false In Vars scope S.given st d.state (Primitive_head N types home K In Vars scope S.term S.size S.regular S.type) → Meets N types home In Vars scope f lo end_here st u.result u.state
          by_kind (inl h) = data_meets h
          by_kind (inr (inl h)) = lambda_meets h.1 h.2
          by_kind (inr (inr h)) = first_meets wide refl (wide_first In Vars scope S.given S.size st d.state h.1) h.2

  pub apply_part : (f e : FlatTerm) → Spine_law N types home K places data_places (Apply f e) → Law_of N types home K places (Apply f e)
  apply_part f e law In Vars scope T lo st d pl t known E q = inr (inr (record {
    function = S.size;
    regular = S.regular;
    argument = F.argument;
    others = F.others;
    is_applied = S.part ∙ ap (Applied S.size S.regular) F.is;
    by_itself = λ u z. any_meets In Vars scope (Apply f e) lo st d S E (kind pl.0) F.some u z;
  }))
    where
      S : Spine N types home K places data_places false In Vars scope (Apply f e) lo st d
      S = law false In Vars scope T lo st d pl.1 t known E q

      no_apply : Head N types home K In Vars scope S.term S.size S.regular S.type → Apply f e ≡ S.term → ⊥
      no_apply (inl H) z = let y : Apply f e ≡ Use (ref.Bound H.bind) H.place H.number = z ∙ H.term_is in cc
      no_apply (inr H) z = let y : Apply f e ≡ Use (ref.Prim H.primitive) H.place H.number = z ∙ H.term_is in cc

      F : First S.given
      F = some_given f e S.term S.given (no_apply S.head) S.is

      -- a name that is applied is no primitive
      call_head : (h : FlatTerm) (gs : List Given) → Is_call (spine h gs) → Is_call h
      call_head h [] c = c
      call_head h (g ∷ gs) c = call_head (Apply h g.term) gs c

      reduction_head : (h : FlatTerm) (gs : List Given) → Is_reduction (spine h gs) → Is_reduction h
      reduction_head h [] c = c
      reduction_head h (g ∷ gs) c = reduction_head (Apply h g.term) gs c

      kind : HasKind K places (types lo) ⊎ (Is_call f ⊎ (One_left types home K places (types lo) × Is_reduction f)) → (H : Primitive_head N types home K In Vars scope S.term S.size S.regular S.type) → HasKind K places (types lo) ⊎ (Reduces H.primitive × One_left types home K places (types lo))
      kind (inl k) H = inl k
      kind (inr (inl k)) H = absurd (subst Is_call H.term_is (call_head S.term S.given (subst Is_call S.is k)))
      kind (inr (inr k)) H = inr (subst Is_reduction H.term_is (reduction_head S.term S.given (subst Is_reduction S.is k.1)), k.0)
