-- Parameters that are met one after the other: what stays, and where the type parameters stand.
use Rattle.std.proofs.Common.{◌≡◌, ℕ, ◌+◌, ◌<◌, ◌≤◌, ◌^◌, List, [], ◌∷◌, ◌++◌, length, take, slice_index_or, refl, sym, ◌∙◌, ap, subst, arith, append_assoc, length-append}
use Rattle.fut_scalar.specs.declared.place.BindId.{BindId}
use Rattle.fut_flat.specs.declared.pat.Head.{Head}
use Rattle.fut_flat.specs.Terms.{Parameter, Size_parameter, Type_parameter}
use Rattle.fut_flat.specs.Erased.{parameter_form, parameters}
use Rattle.fut_types.specs.declared.Kind.{Kind}
use Rattle.fut_types.specs.declared.Kind.TheVariants as kind
use Rattle.fut_typing.specs.Generalised.{parameter_kind}
use Rattle.type_graph.specs.Graph.{Each, far, Fits}
use Rattle.type_graph.proofs.Grown.{node_old}
use Rattle.type_graph.specs.Claims.{parameter_node}
use Rattle.type_schemes.specs.Uses.{type_numbers, One_each}
use Rattle.type_scopes.specs.declared.names.Known.TheVariants as known
use Rattle.type_scopes.specs.declared.names.Seat.{Seat}
use Rattle.type_scopes.specs.declared.Inference.{Inference}
use Rattle.type_scopes.specs.Table.{IsSeated, entered, seat_at, seated}
use Rattle.type_scopes.specs.Scopes.{Safe, Later, More}
use Rattle.type_scopes.proofs.Going.{later_graph, later_none, later_then}
use Rattle.type_scopes.proofs.Opening.{later_entered, more_entered, more_none, more_then, opened_size, same_more}
use Rattle.type_scopes.proofs.Seating.{later_seated, seat_same}
use Rattle.type_scopes.specs.Parameters.{with_parameter, Met_type, Met_size, Meets_one, Meets_all}
use Rattle.type_scopes.proofs.Rows.{each_map, each_one, map_both, take_more, append_none}

module _ (base depth n : ℕ) (k : Kind) (i i' : Inference) (s : Safe base i) (m : Met_type base depth n k i i') where
  abbrev grown : Inference
  grown = record i { nodes = with_parameter i.nodes n k depth }

  abbrev place : Seat
  place = record { node = length i.nodes; depth = depth }

  abbrev placed : Inference
  placed = seated grown n place

  one_longer : length (with_parameter i.nodes n k depth) ≡ length i.nodes + 1
  one_longer = length-append i.nodes (parameter_node n k depth ∷ [])

  later_grown : Later base i grown
  later_grown = later_graph base i (with_parameter i.nodes n k depth) i.entries s m.extends (λ N T born r K a so. record { fits = λ j lt. subst (Fits T K a (a j)) (node_old i.nodes (parameter_node n k depth) j lt) (so.fits j (omega (arith, one_longer))) })

  later_placed : Later base grown placed
  later_placed = later_seated base grown n place later_grown.safe m.unmet

  pub room_for_one : length i.nodes < far
  room_for_one = let g : length (with_parameter i.nodes n k depth) < 2 ^ 32 = m.extends.sound.graph.short in let e = one_longer in omega (arith, g, e)

  inside : length i.nodes < length placed.nodes
  inside = let e = one_longer in omega (arith, e)

  pub type_later : Later base i i'
  type_later = subst (λ (j : Inference). Later base i j) (sym m.is) (later_then base i grown (entered placed n (known.Type (length i.nodes))) later_grown
      (later_then base grown placed (entered placed n (known.Type (length i.nodes))) later_placed (later_entered kind.Any base 0 0 placed n later_placed.safe m.named (known.Type (length i.nodes)) inside)))

  pub type_more : More i i'
  type_more = subst (λ (j : Inference). More i j) (sym m.is) (same_more i placed (entered placed n (known.Type (length i.nodes))) (record { names = refl; past = refl }) (more_entered kind.Any base 0 0 placed n later_placed.safe m.named (known.Type (length i.nodes))))

  -- where it stands
  pub type_seat : seat_at i'.seats n ≡ record { node = length i.nodes; depth = depth }
  type_seat = ap (λ (j : Inference). seat_at j.seats n) m.is ∙ seat_same i.seats n place m.listed

  pub type_nodes : i'.nodes ≡ with_parameter i.nodes n k depth
  type_nodes = ap (λ (j : Inference). j.nodes) m.is

  pub type_seated : IsSeated i'.seats n
  type_seated = subst (λ (x : Seat). x.node < far) (sym type_seat) room_for_one

module _ (base n : ℕ) (i i' : Inference) (s : Safe base i) (m : Met_size n i i') where
  pub size_later : Later base i i'
  size_later = subst (λ (j : Inference). Later base i j) (sym m.is) (opened_size kind.Any base 0 0 i n s m.named m.fresh).later

  pub size_more : More i i'
  size_more = subst (λ (j : Inference). More i j) (sym m.is) (opened_size kind.Any base 0 0 i n s m.named m.fresh).more

module _ (places : Kind) (base depth : ℕ) where
  pub one_later : (p : Parameter BindId) (i i' : Inference) → Safe base i → Meets_one places base depth p i i' → Later base i i'
  one_later (Size_parameter b) i i' s m = size_later base b.0 i i' s m
  one_later (Type_parameter b lifted) i i' s m = type_later base depth b.0 (parameter_kind places lifted) i i' s m

  one_more : (p : Parameter BindId) (i i' : Inference) → Safe base i → Meets_one places base depth p i i' → More i i'
  one_more (Size_parameter b) i i' s m = size_more base b.0 i i' s m
  one_more (Type_parameter b lifted) i i' s m = type_more base depth b.0 (parameter_kind places lifted) i i' s m

  pub all_later : (ps : List (Parameter BindId)) (i i' : Inference) → Safe base i → Meets_all places base depth ps i i' → Later base i i'
  unfolding Meets_all
  all_later [] i i' s m = subst (λ (j : Inference). Later base i j) (sym m) (later_none base i s)
  all_later (p ∷ ps) i i' s m = let l = one_later p i m.0 s m.1 in later_then base i m.0 i' l (all_later ps m.0 i' l.safe m.2)

  pub all_more : (ps : List (Parameter BindId)) (i i' : Inference) → Safe base i → Meets_all places base depth ps i i' → More i i'
  unfolding Meets_all
  all_more [] i i' s m = subst (λ (j : Inference). More i j) (sym m) (more_none i)
  all_more (p ∷ ps) i i' s m = let l = one_later p i m.0 s m.1 in more_then i m.0 i' (one_more p i m.0 s m.1) (all_more ps m.0 i' l.safe m.2)

  -- one more at the end
  pub meets_none : (i : Inference) → Meets_all places base depth [] i i
  unfolding Meets_all
  meets_none i = refl

  pub meets_more : (ps : List (Parameter BindId)) (p : Parameter BindId) (i m i' : Inference) → Meets_all places base depth ps i m → Meets_one places base depth p m i' → Meets_all places base depth (ps ++ p ∷ []) i i'
  unfolding Meets_all
  meets_more [] p i m i' h o = (i', subst (λ (j : Inference). Meets_one places base depth p j i') h o, refl)
  meets_more (q ∷ ps) p i m i' h o = (h.0, h.1, meets_more ps p h.0 m i' h.2 o)

  -- none of them was met before
  pub all_unmet : (ps : List (Parameter BindId)) (i i' : Inference) → Safe base i → Meets_all places base depth ps i i' → Each (λ n. IsSeated i.seats n → ⊥) (type_numbers ps)
  unfolding Meets_all
  all_unmet [] i i' s m = tt
  all_unmet (Size_parameter b ∷ ps) i i' s m = let l = size_later base b.0 i m.0 s m.1 in
      each_map (λ n. IsSeated m.0.seats n → ⊥) (λ n. IsSeated i.seats n → ⊥) (λ n no is. no (subst (λ (x : Seat). x.node < far) (sym (l.seats n is)) is)) (type_numbers ps) (all_unmet ps m.0 i' l.safe m.2)
  all_unmet (Type_parameter b lifted ∷ ps) i i' s m = let l = type_later base depth b.0 (parameter_kind places lifted) i m.0 s m.1 in (
    m.1.unmet,
    each_map (λ n. IsSeated m.0.seats n → ⊥) (λ n. IsSeated i.seats n → ⊥) (λ n no is. no (subst (λ (x : Seat). x.node < far) (sym (l.seats n is)) is)) (type_numbers ps) (all_unmet ps m.0 i' l.safe m.2),
  )

  -- each stands once
  pub all_once : (ps : List (Parameter BindId)) (i i' : Inference) → Safe base i → Meets_all places base depth ps i i' → One_each ps
  unfolding Meets_all
  all_once [] i i' s m = tt
  all_once (Size_parameter b ∷ ps) i i' s m = all_once ps m.0 i' (size_later base b.0 i m.0 s m.1).safe m.2
  all_once (Type_parameter b lifted ∷ ps) i i' s m = let l = type_later base depth b.0 (parameter_kind places lifted) i m.0 s m.1 in (
    (λ c. each_one (λ n. IsSeated m.0.seats n → ⊥) (type_numbers ps) b.0 (all_unmet ps m.0 i' l.safe m.2) c (type_seated base depth b.0 (parameter_kind places lifted) i m.0 s m.1)),
    all_once ps m.0 i' l.safe m.2,
  )

-- where a type parameter stands behind the parameters: its node is new
pub record Stands_at (depth low high : ℕ) (seats : List Seat) (n : ℕ) : Type 0 where
  pub seated_one : IsSeated seats n
  pub from : low ≤ (seat_at seats n).node
  pub below : (seat_at seats n).node < high
  pub at_depth : (seat_at seats n).depth ≡ depth

module _ (places : Kind) (base depth : ℕ) where
  pub all_stand : (ps : List (Parameter BindId)) (i i' : Inference) → Safe base i → Meets_all places base depth ps i i' → Each (Stands_at depth (length i.nodes) (length i'.nodes) i'.seats) (type_numbers ps)
  unfolding Meets_all
  all_stand [] i i' s m = tt
  all_stand (Size_parameter b ∷ ps) i i' s m = let l = size_later base b.0 i m.0 s m.1 in
      each_map (Stands_at depth (length m.0.nodes) (length i'.nodes) i'.seats) (Stands_at depth (length i.nodes) (length i'.nodes) i'.seats) (λ n x. lower (length i.nodes) (length m.0.nodes) (length i'.nodes) i'.seats n l.longer x) (type_numbers ps) (all_stand ps m.0 i' l.safe m.2)
    where
      lower : (a b c : ℕ) (seats : List Seat) (n : ℕ) → a ≤ b → Stands_at depth b c seats n → Stands_at depth a c seats n
      lower a b c seats n le x = record { seated_one = x.seated_one; from = (let z : b ≤ (seat_at seats n).node = x.from in omega arith); below = x.below; at_depth = x.at_depth }
  all_stand (Type_parameter b lifted ∷ ps) i i' s m =
      let k : Kind = parameter_kind places lifted in
      let l = type_later base depth b.0 k i m.0 s m.1 in
      let r = all_later places base depth ps m.0 i' l.safe m.2 in
      let e : seat_at i'.seats b.0 ≡ record { node = length i.nodes; depth = depth } = r.seats b.0 (type_seated base depth b.0 k i m.0 s m.1) ∙ type_seat base depth b.0 k i m.0 s m.1 in
      let long : length m.0.nodes ≡ length i.nodes + 1 = ap length (type_nodes base depth b.0 k i m.0 s m.1) ∙ length-append i.nodes (parameter_node b.0 k depth ∷ []) in
      let room : length i.nodes < far = room_for_one base depth b.0 k i m.0 s m.1 in
      let rest : length m.0.nodes ≤ length i'.nodes = r.longer in (
        record {
          seated_one = subst (λ (x : Seat). x.node < far) (sym e) room;
          from = subst (λ (x : Seat). length i.nodes ≤ x.node) (sym e) (omega arith);
          below = subst (λ (x : Seat). x.node < length i'.nodes) (sym e) (omega arith);
          at_depth = ap (λ (x : Seat). x.depth) e;
        },
        each_map (Stands_at depth (length m.0.nodes) (length i'.nodes) i'.seats) (Stands_at depth (length i.nodes) (length i'.nodes) i'.seats) (λ n x. lower (length i.nodes) (length m.0.nodes) (length i'.nodes) i'.seats n l.longer x) (type_numbers ps) (all_stand ps m.0 i' l.safe m.2),
      )
    where
      lower : (a b c : ℕ) (seats : List Seat) (n : ℕ) → a ≤ b → Stands_at depth b c seats n → Stands_at depth a c seats n
      lower a b c seats n le x = record { seated_one = x.seated_one; from = (let z : b ≤ (seat_at seats n).node = x.from in omega arith); below = x.below; at_depth = x.at_depth }

-- how far the parameters are met
types_both : (ps : List (Parameter BindId)) (p : Parameter BindId) → type_numbers (ps ++ p ∷ []) ≡ type_numbers ps ++ type_numbers (p ∷ [])
types_both [] p = refl
types_both (Size_parameter b ∷ ps) p = types_both ps p
types_both (Type_parameter b lifted ∷ ps) p = ap (λ ns. b.0 ∷ ns) (types_both ps p)

pub record So_far (places : Kind) (base depth : ℕ) (heads : List Head) (own own' : List ℕ) (i i' : Inference) : Type 0 where
  pub safe : Safe base i'
  pub meets : Meets_all places base depth (parameters heads) i i'
  pub noted : own' ≡ own ++ type_numbers (parameters heads)

module _ (places : Kind) (base depth : ℕ) (own : List ℕ) (i : Inference) where
  pub so_far_none : Safe base i → So_far places base depth [] own own i i
  so_far_none s = record { safe = s; meets = meets_none places base depth i; noted = sym (append_none own) }

  pub so_far_more : (heads : List Head) (n : ℕ) (d : Head) (own1 own2 : List ℕ) (i1 i2 : Inference) → n < length heads → So_far places base depth (take n heads) own own1 i i1 → own2 ≡ own1 ++ type_numbers (parameter_form (slice_index_or heads n d).form ∷ []) → Meets_one places base depth (parameter_form (slice_index_or heads n d).form) i1 i2 → So_far places base depth (take (n + 1) heads) own own2 i i2
  so_far_more heads n d own1 own2 i1 i2 lt g eo m = let p : Parameter BindId = parameter_form (slice_index_or heads n d).form in
      let e : parameters (take n heads) ++ p ∷ [] ≡ parameters (take (n + 1) heads) = sym (map_both (λ (h : Head). parameter_form h.form) (take n heads) (slice_index_or heads n d ∷ [])) ∙ ap parameters (take_more heads n d lt) in record {
        safe = (one_later places base depth p i1 i2 g.safe m).safe;
        meets = subst (λ ps. Meets_all places base depth ps i i2) e (meets_more places base depth (parameters (take n heads)) p i i1 i2 g.meets m);
        noted = eo ∙ ap (λ ns. ns ++ type_numbers (p ∷ [])) g.noted ∙ append_assoc own (type_numbers (parameters (take n heads))) (type_numbers (p ∷ [])) ∙ ap (λ ns. own ++ ns) (sym (types_both (parameters (take n heads)) p) ∙ ap type_numbers e);
      }
