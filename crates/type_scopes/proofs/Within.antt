-- Behind a definition's parameters: what the graph allows, and what stands in scope, however the type parameters are read.
use Rattle.std.proofs.Common.{◌≡◌, ℕ, ◌+◌, ◌<◌, ◌≤◌, List, [], ◌∷◌, ◌++◌, length, sym, ◌∙◌, ap, subst, arith}
use Rattle.std.specs.List.{Contains}
use Rattle.fut_scalar.specs.declared.place.BindId.{BindId}
use Rattle.fut_flat.specs.Terms.{Parameter, Size_parameter, Type_parameter}
use Rattle.fut_types.specs.declared.Kind.{Kind}
use Rattle.fut_types.specs.Types.{Ty, Sub, Kinds}
use Rattle.fut_typing.specs.Names.{Names}
use Rattle.fut_typing.specs.Primitives.{i64_ty}
use Rattle.fut_typing.specs.Scopes.{Scope, with_uses, with_type, this_type}
use Rattle.fut_typing.specs.Patterns.{with_parameters}
use Rattle.fut_typing.specs.Generalised.{parameter_kind}
use Rattle.fut_typing.specs.Homes.{Env, env_parameters, scope_of}
use Rattle.fut_typing.proofs.Envs.{needs_parameters, scope_parameters}
use Rattle.type_graph.specs.Graph.{far, Reading, Tables, read, Solves}
use Rattle.type_graph.specs.Claims.{Bears, Possible}
use Rattle.type_schemes.specs.Schemes.{ReadsElse}
use Rattle.type_schemes.specs.Uses.{type_numbers, types_read}
use Rattle.type_schemes.proofs.Readings.{Each_type, each_read}
use Rattle.type_scopes.specs.declared.names.Known.TheVariants as known
use Rattle.type_scopes.specs.declared.names.Seat.{Seat}
use Rattle.type_scopes.specs.declared.Inference.{Inference}
use Rattle.type_scopes.specs.Table.{known_at, seat_at, seated}
use Rattle.type_scopes.specs.Scopes.{Safe, Reads, Homes, Knows, Ready, Puts}
use Rattle.type_scopes.proofs.Putting.{puts_none, puts_then}
use Rattle.type_scopes.proofs.Opening.{knows_with, means_uses}
use Rattle.type_scopes.proofs.Seating.{knows_type}
use Rattle.type_scopes.specs.Parameters.{with_parameter, Met_type, Met_size, Meets_all}
use Rattle.type_scopes.proofs.Meeting.{size_later, type_later, type_seat, type_nodes, type_seated, all_later, all_once, all_stand, Stands_at}
use Rattle.type_scopes.proofs.Reading.{state_read, reads_read, solves_from, possible_to, possible_from}
use Rattle.type_scopes.proofs.Rows.{each_one}

abbrev pub anywhere : Homes
anywhere home = Unit {0}

abbrev pub nothing : Kinds → Sub → Type 0
nothing K a = Unit {0}

-- one type parameter
module _ (N : Names) (T : Tables) (born : ℕ → ℕ) (base depth n : ℕ) (k : Kind) (i i' : Inference) (s : Safe base i) (m : Met_type base depth n k i i') (r : Reads i' N T born) where
  here : (T.seat n ≡ length i.nodes) × (born n ≡ depth)
  here = let w = r.seats n (type_seated base depth n k i i' s m) in let e = type_seat base depth n k i i' s m in (w.0 ∙ ap (λ (x : Seat). x.node) e, w.1 ∙ ap (λ (x : Seat). x.depth) e)

  bears : Bears T base n k depth i.nodes (with_parameter i.nodes n k depth)
  bears = m.bears T ((type_later base depth n k i i' s m).reads N T born r).told here.0

  type_put : Puts T born base nothing anywhere i.nodes i'.nodes
  type_put = subst (λ ns. Puts T born base nothing anywhere i.nodes ns) (sym (type_nodes base depth n k i i' s m)) (record {
    forth = λ K a p h. bears.forth K a p;
    back = bears.back;
    done = λ K a p. tt;
    keeps = bears.keeps;
    state = bears.state;
    backed = λ home h x. bears.backed home born (let z : born n ≡ depth = here.1 in omega arith) x;
  })

  type_stands : (K : Kinds) (full : Sub) → Solves T K full i'.nodes → full (length i.nodes) ≡ T.rigid n k
  type_stands K full so = bears.stands K full (subst (λ ns. Solves T K full ns) (type_nodes base depth n k i i' s m) so)

module _ (N : Names) (T : Tables) (born : ℕ → ℕ) (places : Kind) (base depth : ℕ) where
  size_nodes : (b : BindId) (i i' : Inference) → Met_size b.0 i i' → i'.nodes ≡ i.nodes
  size_nodes b i i' m = ap (λ (j : Inference). j.nodes) m.is

  pub all_put : (ps : List (Parameter BindId)) (i i' : Inference) → Safe base i → Meets_all places base depth ps i i' → Reads i' N T born → Puts T born base nothing anywhere i.nodes i'.nodes
  unfolding Meets_all
  all_put [] i i' s m r = subst (λ ns. Puts T born base nothing anywhere i.nodes ns) (sym (ap (λ (j : Inference). j.nodes) m)) (puts_none T born base nothing anywhere i.nodes (λ K a. tt))
  all_put (Size_parameter b ∷ ps) i i' s m r = let l = size_later base b.0 i m.0 s m.1 in subst (λ ns. Puts T born base nothing anywhere ns i'.nodes) (size_nodes b i m.0 m.1) (all_put ps m.0 i' l.safe m.2 r)
  all_put (Type_parameter b lifted ∷ ps) i i' s m r =
      let k : Kind = parameter_kind places lifted in let l = type_later base depth b.0 k i m.0 s m.1 in let rest = all_later places base depth ps m.0 i' l.safe m.2 in
      puts_then T born base nothing nothing nothing anywhere anywhere anywhere i.nodes m.0.nodes i'.nodes (type_put N T born base depth b.0 k i m.0 s m.1 (rest.reads N T born r)) (all_put ps m.0 i' l.safe m.2 r) (λ K a h. (tt, tt)) (λ K a x y. tt) (λ home h. (tt, tt))

  -- each type parameter's node stands for it
  pub all_bear : (ps : List (Parameter BindId)) (i i' : Inference) → Safe base i → Meets_all places base depth ps i i' → Reads i' N T born → Each_type places (λ n k. (K : Kinds) (full : Sub) → Solves T K full i'.nodes → full (seat_at i'.seats n).node ≡ T.rigid n k) ps
  unfolding Meets_all
  all_bear [] i i' s m r = tt
  all_bear (Size_parameter b ∷ ps) i i' s m r = all_bear ps m.0 i' (size_later base b.0 i m.0 s m.1).safe m.2 r
  all_bear (Type_parameter b lifted ∷ ps) i i' s m r =
      let k : Kind = parameter_kind places lifted in let l = type_later base depth b.0 k i m.0 s m.1 in let rest = all_later places base depth ps m.0 i' l.safe m.2 in (
        (λ K full so. ap (λ (x : Seat). full x.node) (rest.seats b.0 (type_seated base depth b.0 k i m.0 s m.1) ∙ type_seat base depth b.0 k i m.0 s m.1) ∙ type_stands N T born base depth b.0 k i m.0 s m.1 (rest.reads N T born r) K full (rest.keeps N T born r K full so)),
        all_bear ps m.0 i' l.safe m.2 r,
      )

  -- what the names of the parameters stand for
  size_knows : (b : BindId) (i i' : Inference) → Met_size b.0 i i' → (scope : Scope) (K : Kinds) (full : Sub) → Safe base i → Knows T.shapes i scope K full → Knows T.shapes i' (with_uses b.0 (this_type i64_ty) scope) K full
  size_knows b i i' m scope K full s kn = subst (λ (j : Inference). Knows T.shapes j (with_uses b.0 (this_type i64_ty) scope) K full) (sym m.is)
      (knows_with T.shapes i b.0 known.Size (i.past ++ record { name = b.0; known = known_at i.names b.0 } ∷ []) (this_type i64_ty) scope K full m.named
      (means_uses places base depth 0 i b.0 s m.named T.shapes known.Size (this_type i64_ty) scope K full m.fresh kn (λ t. ((λ e. e), (λ e. e))) (λ t z. z)) kn)

  type_knows : (b : BindId) (k : Kind) (i i' : Inference) → Safe base i → Met_type base depth b.0 k i i' → Reads i' N T born → (t : Ty) → t ≡ T.rigid b.0 k → (scope : Scope) (K : Kinds) (full : Sub) → Solves T K full i'.nodes → Knows T.shapes i scope K full → Knows T.shapes i' (with_type b.0 t scope) K full
  type_knows b k i i' s m r t e scope K full so kn =
      let placed : Inference = seated (record i { nodes = with_parameter i.nodes b.0 k depth }) b.0 (record { node = length i.nodes; depth = depth }) in
      subst (λ (j : Inference). Knows T.shapes j (with_type b.0 t scope) K full) (sym m.is)
      (knows_type T.shapes placed b.0 (length i.nodes) (placed.past ++ record { name = b.0; known = known_at placed.names b.0 } ∷ []) t scope K full m.named m.fresh (type_stands N T born base depth b.0 k i i' s m r K full so ∙ sym e) kn)

  pub all_know : (ps : List (Parameter BindId)) (i i' : Inference) → Safe base i → Meets_all places base depth ps i i' → Reads i' N T born → (c : Sub) → Each_type places (λ n k. c n ≡ T.rigid n k) ps → (scope : Scope) (K : Kinds) (full : Sub) → Solves T K full i'.nodes → Knows T.shapes i scope K full → Knows T.shapes i' (with_parameters ps c scope) K full
  unfolding Meets_all
  all_know [] i i' s m r c e scope K full so kn = subst (λ (j : Inference). Knows T.shapes j scope K full) (sym m) kn
  all_know (Size_parameter b ∷ ps) i i' s m r c e scope K full so kn =
      all_know ps m.0 i' (size_later base b.0 i m.0 s m.1).safe m.2 r c e (with_uses b.0 (this_type i64_ty) scope) K full so (size_knows b i m.0 m.1 scope K full s kn)
  all_know (Type_parameter b lifted ∷ ps) i i' s m r c e scope K full so kn =
      let k : Kind = parameter_kind places lifted in let l = type_later base depth b.0 k i m.0 s m.1 in let rest = all_later places base depth ps m.0 i' l.safe m.2 in
      all_know ps m.0 i' l.safe m.2 r c e.1 (with_type b.0 (c b.0) scope) K full so (type_knows b k i m.0 s m.1 (rest.reads N T born r) (c b.0) e.0 scope K full (rest.keeps N T born r K full so) kn)

-- the part of a program behind the parameters may be gone over, in each reading
module _ (N : Names) (places : Kind) (T : Tables) (home born : ℕ → ℕ) (base : ℕ) (E : Env) (d lo : ℕ) (ps : List (Parameter BindId)) (i i' : Inference) (s : Safe base i) (rd : Ready N places T home born base E d lo i) (m : Meets_all places base (1 + d) ps i i') (r : Reads i' N T born) where
  stand : (n : ℕ) → Contains (type_numbers ps) n → Stands_at (1 + d) (length i.nodes) (length i'.nodes) i'.seats n
  stand n o = each_one (Stands_at (1 + d) (length i.nodes) (length i'.nodes) i'.seats) (type_numbers ps) n (all_stand places base (1 + d) ps i i' s m) o

  pub own_new : (n : ℕ) → Contains (type_numbers ps) n → length i.nodes ≤ T.seat n
  own_new n o = let x = stand n o in let z : T.seat n ≡ (seat_at i'.seats n).node = (r.seats n x.seated_one).0 in let y : length i.nodes ≤ (seat_at i'.seats n).node = x.from in omega arith

  own_seated : (n : ℕ) → Contains (type_numbers ps) n → T.seat n < length i'.nodes
  own_seated n o = let x = stand n o in let z : T.seat n ≡ (seat_at i'.seats n).node = (r.seats n x.seated_one).0 in let y : (seat_at i'.seats n).node < length i'.nodes = x.below in omega arith

  pub own_born : (n : ℕ) → Contains (type_numbers ps) n → born n ≡ 1 + d
  own_born n o = let x = stand n o in (r.seats n x.seated_one).1 ∙ x.at_depth

  module _ (v : Reading) (else_ : ReadsElse (type_numbers ps) T.rigid v) where
    abbrev pub reads_so : Reads i' N (read T v) born
    reads_so = reads_read i' N T born v r

    pub params_put : Puts (read T v) born base nothing anywhere i.nodes i'.nodes
    params_put = all_put N (read T v) born places base (1 + d) ps i i' s m reads_so

    pub before_to : (K : Kinds) (a : Sub) → Possible T base K a i.nodes → Possible (read T v) base K a i.nodes
    before_to K a p = possible_to T home base i.nodes rd.state (type_numbers ps) own_new v else_ K a p

    before_from : (K : Kinds) (a : Sub) → Possible (read T v) base K a i.nodes → Possible T base K a i.nodes
    before_from K a p = possible_from T home base i.nodes rd.state (type_numbers ps) own_new v else_ K a p

    pub ready_within : 1 + d < far → Ready N places (read T v) home born base (env_parameters ps (types_read places v ps) E) (1 + d) (1 + lo) i'
    ready_within lt = record {
      depth = lt;
      outer = rd.outer;
      state = params_put.state home (state_read T v home base i.nodes [] rd.state);
      backed = params_put.backed home tt rd.backed;
      plain = λ n k h. else_.others n k (λ o. let z : T.seat n < length i'.nodes = own_seated n o in absurd (omega arith)) ∙ rd.plain n k (let l : length i.nodes ≤ length i'.nodes = (all_later places base (1 + d) ps i i' s m).longer in omega arith);
      narrow = λ n nd. let q = rd.narrow n (needs_parameters ps (types_read places v ps) E n nd) in let q0 : n < lo = q.0 in let q1 : home n ≤ d = q.1 in (omega arith, omega arith);
      knows = λ K full so. subst (λ (z : Scope). Knows T.shapes i' z K full) (sym (scope_parameters N places ps (types_read places v ps) E))
          (all_know N (read T v) born places base (1 + d) ps i i' s m reads_so (types_read places v ps) (each_read places v ps (all_once places base (1 + d) ps i i' s m)) (scope_of N places E) K full so
          (rd.knows K full (solves_from T home base i.nodes rd.state (type_numbers ps) own_new v else_ K full (params_put.keeps K full so))));
      below = λ K a b same p. params_put.forth K b (before_to K b (rd.below K a b (λ n lt. same n (omega arith)) (before_from K a (params_put.back K a p)))) tt;
    }
