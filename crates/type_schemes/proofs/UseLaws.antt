-- What is told of a definition that has ended.
use Rattle.std.proofs.Common.{◌≡◌, ℕ, ◌+◌, ◌≤◌, ◌<◌, true, false, List, length, refl, sym, ◌∙◌, ap, subst, arith}
use Rattle.std.specs.List.{Contains}
use mathlib.Core.Logic.{◌⊎◌, inl, inr}
use Rattle.fut_scalar.specs.declared.place.BindId.{BindId}
use Rattle.fut_scalar.specs.declared.scalar.IntType.{IntType}
use Rattle.fut_scalar.specs.declared.scalar.IntType.TheVariants as int
use Rattle.fut_scalar.specs.declared.scalar.ScalarType.TheVariants as scalar
use Rattle.fut_flat.specs.Terms.{Bound_pattern, Parameter}
use Rattle.fut_flat.specs.Numbers.{numbers}
use Rattle.fut_flat.specs.Erased.{FlatTerm}
use Rattle.fut_types.specs.declared.Kind.{Kind}
use Rattle.fut_types.specs.declared.Head.{Head}
use Rattle.fut_types.specs.declared.Head.TheVariants as head
use Rattle.fut_types.specs.declared.shapes.ShapeTable.{ShapeTable}
use Rattle.fut_types.specs.Types.{Ty, Made, none, Sub, Kinds, level, rank, scalar_ty}
use Rattle.fut_types.proofs.TyLaws.{same_head, level_most}
use Rattle.fut_typing.specs.Names.{Names}
use Rattle.fut_typing.specs.Primitives.{i32_ty, i64_ty}
use Rattle.fut_typing.specs.Scopes.{Scope}
use Rattle.fut_typing.specs.Free.{is_within, has_types, is_free}
use Rattle.fut_typing.specs.Generalised.{own_types, Scheme, Outside, Suits, Variant as Typing_variant, Reused, Generalised}
use Rattle.fut_typing.specs.Typing.{Bound, Typed}
use Rattle.fut_typing.specs.Homes.{Env, Needs, named_scheme, scope_of}
use Rattle.fut_typing.proofs.Ranges.{true_or, or_true, or_false, within_true, within_yes, within_false}
use Rattle.fut_typing.proofs.Cong.{mixed, mixed_free, mixed_kept, mixed_outside, within_no, Inside, Depends, generalised_same, named_depends, scope_local}
use Rattle.fut_typing.proofs.Deep.{free_deep, kept_home}
use Rattle.type_graph.specs.declared.Form.TheVariants as form
use Rattle.type_graph.specs.declared.Node.{Node}
use Rattle.type_graph.specs.Graph.{far, node_at, Reading, Tables, read, Told, Solves, IsGraph, IsBound, AreEntries}
use Rattle.type_graph.specs.Claims.{Possible}
use Rattle.type_graph.specs.Rereading.{Apart, Deeper, Left}
use Rattle.type_schemes.specs.declared.Part.{Part}
use Rattle.type_schemes.specs.Schemes.{Definition, Copies, Instance, ReadsElse, Of_kinds, Variant, Exact}
use Rattle.type_schemes.proofs.Regrown.{lt_or, other, low_other, regrown_solves}
use Rattle.type_schemes.proofs.Laws.{contains_or}
use Rattle.type_schemes.proofs.Laws as schemes
use Rattle.type_schemes.specs.Uses.{type_numbers, types_read, Means, Ended, IsOne, Generalises, Law}
use Rattle.type_schemes.proofs.Readings.{Each_type, type_map, one_of, choose, choose_else, choose_kind, choose_is, types_chosen, suits_read, suits_all, params_same, type_refl, types_own}

-- two types that are of every kind
tag : Head → Type 0
tag (head.Scalar (scalar.Int int.I32)) = Unit {0}
tag h = ⊥

two_types : i32_ty ≡ i64_ty → ⊥
unfolding tag
two_types e = subst tag (same_head _ _ _ _ e) tt

every_kind : (K : Kinds) (k : Kind) (i : IntType) → level k ≤ rank K (scalar_ty (scalar.Int i))
unfolding rank
every_kind K k i = level_most k

module _ (N : Names) (places : Kind) (table : ShapeTable) (T : Tables) (home born : ℕ → ℕ) (base : ℕ) (before : List Node) (d : Definition) (b : BindId) (ps : List (Parameter BindId)) (v : FlatTerm) (lo : ℕ) (E : Env)
    (g : IsGraph d.nodes) (bd : IsBound table (length d.entries) d.nodes) (ae : AreEntries table (length d.nodes) d.entries) (told : Told table d.entries T) (ap' : Apart T.shapes (length table.positions)) (bl : base ≤ length d.nodes) (e : Ended N places T home born base before d b ps v lo E) where
  abbrev s : Scheme
  s = named_scheme N places b ps v lo (scope_of N places E)

  lo_in : lo < base
  lo_in = let z : lo + (1 + numbers v) ≤ base = e.inside in omega arith

  -- what is at home at the depth or below is not free, and what is kept is at home there
  low_kept : (n : ℕ) → home n ≤ d.depth → s.free n ≡ false
  low_kept n le = elim (true_or (s.free n)) as (λ x. s.free n ≡ false) [
    | inr f ↦ f
    | inl t ↦ elim (or_true (is_within lo 1 n) (is_free (has_types ps) v (lo + 1) n) t) as (λ x. s.free n ≡ false) [
      | inl w ↦
          let q = within_true lo 1 n w in let q0 : lo ≤ n = q.0 in let q1 : n < lo + 1 = q.1 in let z : n ≡ lo = omega arith in
          let h : home n ≡ 1 + d.depth = ap home z ∙ e.here in absurd (omega arith)
      | inr f ↦
          let deep = free_deep home (1 + d.depth) e.written (let z : e.written ≤ d.depth = e.around in omega arith) ps v (1 + lo) n e.homed (subst (λ m. is_free (has_types ps) v m n ≡ true) (let z : lo + 1 ≡ 1 + lo = omega arith in z) f) in
          let h : 1 + d.depth ≤ home n = deep.2 in absurd (omega arith)
    ]
  ]

  kept_low : (n : ℕ) → lo ≤ n → n < lo + (1 + numbers v) → s.free n ≡ false → home n ≤ d.depth
  kept_low n p q f =
      let o = or_false (is_within lo 1 n) (is_free (has_types ps) v (lo + 1) n) f in
      elim (within_false lo 1 n o.0) as (λ x. home n ≤ d.depth) [
        | inl lt ↦ absurd (omega arith)
        | inr le ↦
            let h : home n ≤ e.written = kept_home home (1 + d.depth) e.written (let z : e.written ≤ d.depth = e.around in omega arith) ps v (1 + lo) n e.homed (omega arith) (omega arith) (subst (λ m. is_free (has_types ps) v m n ≡ false) (let z : lo + 1 ≡ 1 + lo = omega arith in z) o.1) in
            let w : e.written ≤ d.depth = e.around in omega arith
      ]

  program_low : (n : ℕ) → home n ≤ d.depth → n < base
  program_low n le = elim (lt_or n base) as (λ x. n < base) [ inl h ↦ h | inr h ↦ let z : d.depth < home n = e.outer n h in absurd (omega arith) ]

  where_is : (n : ℕ) → Outside s n ⊎ Inside s n
  where_is n = elim (lt_or n lo) as (λ x. Outside s n ⊎ Inside s n) [
    | inl lt ↦ inl (inl lt)
    | inr ge ↦ elim (lt_or n (lo + (1 + numbers v))) as (λ x. Outside s n ⊎ Inside s n) [ inl lt ↦ inr (ge, lt) | inr le ↦ inl (inr le) ]
  ]

  alike_typed : (x y : Sub) → Each_type places (λ n k. x n ≡ y n) ps → (K : Kinds) (a : Sub) → s.typed x K a → s.typed y K a
  alike_typed x y same K a t = subst (λ (z : Scope). Bound N places (Bound_pattern b) lo (scope_of N places E) (Typed N places v (lo + 1) z) K a) (params_same places x y ps (scope_of N places E) same) t

  depends : Depends (Needs E) s
  depends = named_depends N places (Needs E) b ps v lo (scope_of N places E) (scope_local N places E)

  own_else : ReadsElse d.own T.rigid T.rigid
  own_else = record { others = λ n k never. refl }

  own_in : (n : ℕ) → Contains (type_numbers ps) n → Contains d.own n
  own_in n o = subst (λ xs. Contains xs n) (sym e.own) o

  itself_kind : (K : Kinds) (n : ℕ) (k : Kind) → level k ≤ rank K (Made (head.Rigid n k) none)
  unfolding rank
  itself_kind K n k = let z : level k ≤ 4 = level_most k in omega arith

  own_kinds : (K : Kinds) → Of_kinds d.own K T.rigid
  own_kinds K n k own = subst (λ t. level k ≤ rank K t) (sym (e.plain n k own)) (itself_kind K n k)

  whole : (K : Kinds) (full : Sub) → Solves T K full d.nodes → Possible T base K full d.nodes
  whole K full sf = record { full = full; agrees = λ i lt. refl; solves = sf }

  -- a variant as a solution where its types are chosen for the parameters
  module _ (x : Sub) where
    r' : Reading
    r' = choose places x T.rigid ps

    r_else : ReadsElse d.own T.rigid r'
    unfolding r'
    r_else = record { others = λ n k never. choose_else places x T.rigid ps n k (λ o. never (subst (λ xs. Contains xs n) (sym e.own) o)) }

    r_kinds : (K : Kinds) → Suits places K x ps → Of_kinds d.own K r'
    unfolding r'
    r_kinds K suits n k own = choose_kind places K x T.rigid ps suits n k (own_kinds K n k own)

    r_types : Each_type places (λ n k. types_read places r' ps n ≡ x n) ps
    unfolding r'
    r_types = types_chosen places x T.rigid ps e.once

    r_is : (n : ℕ) (k : Kind) → IsOne places ps n k → r' n k ≡ x n
    unfolding r'
    r_is n k one = one_of places (λ n k. choose places x T.rigid ps n k ≡ x n) ps (choose_is places x T.rigid ps) n k one

    types_back : Each_type places (λ n k. x n ≡ types_read places r' ps n) ps
    types_back = type_map places (λ n k. types_read places r' ps n ≡ x n) (λ n k. x n ≡ types_read places r' ps n) (λ n k z. sym z) ps r_types

    module _ (K : Kinds) (a : Sub) (p : Possible T base K a before) (w : Typing_variant s x K a) where
      possible : Possible (read T r') base K w.other d.nodes
      possible = e.forth r' r_else K w.other (e.below r' r_else K a w.other (λ n out. sym (w.outside n out)) p) (alike_typed x (types_read places r' ps) types_back K w.other w.typed)

      same_low : (n : ℕ) → home n ≤ d.depth → possible.full n ≡ a n
      same_low n le = possible.agrees n (program_low n le) ∙ elim (where_is n) as (λ y. w.other n ≡ a n) [ inl out ↦ w.outside n out | inr i ↦ w.kept n i.0 i.1 (low_kept n le) ]

  -- a solution of another reading as a variant
  module _ (K : Kinds) (full : Sub) (r : Reading) (al : ReadsElse d.own T.rigid r) (o : Sub) (so : Solves (read T r) K o d.nodes) (low : (n : ℕ) → home n ≤ d.depth → o n ≡ full n) where
    moved : Sub
    moved = mixed (is_within lo (1 + numbers v)) s.free o full

    moved_out : (n : ℕ) → Outside s n → moved n ≡ full n
    unfolding moved
    moved_out n out = mixed_outside (is_within lo (1 + numbers v)) s.free o full n (within_no lo (1 + numbers v) n out)

    moved_kept : (n : ℕ) → lo ≤ n → n < lo + (1 + numbers v) → s.free n ≡ false → moved n ≡ full n
    unfolding moved
    moved_kept n p q f = mixed_kept (is_within lo (1 + numbers v)) s.free o full n (within_yes lo (1 + numbers v) n p q) f

    moved_free : (n : ℕ) → lo ≤ n → n < lo + (1 + numbers v) → s.free n ≡ true → moved n ≡ o n
    unfolding moved
    moved_free n p q f = mixed_free (is_within lo (1 + numbers v)) s.free o full n (within_yes lo (1 + numbers v) n p q) f

    moved_in : (n : ℕ) → lo ≤ n → n < lo + (1 + numbers v) → o n ≡ moved n
    moved_in n p q = elim (true_or (s.free n)) as (λ y. o n ≡ moved n) [
      | inl f ↦ sym (moved_free n p q f)
      | inr f ↦ low n (kept_low n p q f) ∙ sym (moved_kept n p q f)
    ]

    moved_same : (n : ℕ) → (Needs E n ⊎ Inside s n) → o n ≡ moved n
    moved_same n (inl m) = let q = e.narrow n m in low n q.1 ∙ sym (moved_out n (inl q.0))
    moved_same n (inr w) = moved_in n w.0 w.1

    moved_typed : s.typed (types_read places r ps) K moved
    moved_typed = depends (types_read places r ps) K o moved moved_same (e.done r al K o (record { full = o; agrees = λ n lt. refl; solves = so }))

    moved_variant : (x : Sub) → Each_type places (λ n k. types_read places r ps n ≡ x n) ps → Typing_variant s x K full
    moved_variant x same = record { other = moved; outside = moved_out; kept = moved_kept; typed = alike_typed (types_read places r ps) x same K moved moved_typed }

  -- a use is an instance, and an instance is a use
  module _ (store : List Part) (first count : ℕ) (c : Copies d store first count lo) where
    exact : Exact T home base d store first count lo
    exact = schemes.law table T home base d store first count lo g bd ae told.listed ap' bl (let z : lo < base = lo_in in omega arith) e.state c

    use_instance : (K : Kinds) (full : Sub) (t : Ty) → Solves T K full d.nodes → Reused places s lo K full t → Instance T.shapes store first count K full t
    use_instance K full t sf u =
        let p : Possible T base K full before = e.back K full (whole K full sf) in
        let q = possible u.0 K full p u.2.0 in
        exact.to K full t sf (record {
          reading = r' u.0;
          alike = r_else u.0;
          kinds = r_kinds u.0 K u.1;
          other = q.full;
          solves = q.solves;
          is = u.2.1 ∙ sym (q.agrees lo lo_in);
          low = λ j jl rt le. e.backed.notes j jl (let z : d.depth < far = e.depth in omega arith) (r' u.0) K q.full T.rigid K full (record { solves = q.solves; holds = tt }) (record { solves = sf; holds = tt }) (record {
            numbers = λ m hm. same_low u.0 K full p u.2.0 m (omega arith);
            parameters = λ n k bn. (r_else u.0).others n k (λ o. let z : d.depth < born n = e.later n o in omega arith);
          });
        })

    instance_use : (K : Kinds) (full : Sub) (t : Ty) → Solves T K full d.nodes → Instance T.shapes store first count K full t → Reused places s lo K full t
    unfolding moved_variant
    instance_use K full t sf i =
        let found : Variant T d lo K full t = exact.from K full t (own_kinds K) sf i in
        let low : (n : ℕ) → home n ≤ d.depth → found.other n ≡ full n = λ n le. exact.homes K full t sf found n (program_low n le) le in (
          types_read places found.reading ps,
          suits_read places K found.reading ps e.once (λ n k o. found.kinds n k (own_in n o)),
          (
            moved_variant K full found.reading found.alike found.other found.solves low (types_read places found.reading ps) (type_refl places (types_read places found.reading ps) ps),
            found.is ∙ moved_in K full found.reading found.alike found.other found.solves low lo (omega arith) (omega arith),
          ),
        )

    means : Means T d.nodes store first count (Reused places s lo)
    means = record { to = use_instance; from = instance_use }

  -- generalised definitions
  plain_types : Each_type places (λ n k. types_read places T.rigid ps n ≡ own_types places ps n) ps
  plain_types = types_own places T ps e.once (λ n k o. e.plain n k (own_in n o))

  general_forth : (K : Kinds) (a : Sub) → Possible T base K a before → Generalised places s K a → Possible T base K a d.nodes
  general_forth K a p gen = e.forth T.rigid own_else K a p (alike_typed (own_types places ps) (types_read places T.rigid ps) (type_map places (λ n k. types_read places T.rigid ps n ≡ own_types places ps n) (λ n k. own_types places ps n ≡ types_read places T.rigid ps n) (λ n k z. sym z) ps plain_types) K a gen.0)

  -- a solution in which the parameters have chosen types, where none of them is fixed at the depth around
  module _ (deeper : (n : ℕ) → Contains d.own n → Deeper d.nodes n d.depth) (x : Sub) (K : Kinds) (suits : Suits places K x ps) (full : Sub) (sf : Solves T K full d.nodes) where
    keeps : (i n : ℕ) (k : Kind) (y m : ℕ) → i < length d.nodes → (node_at d.nodes i).form ≡ form.Made (head.Rigid n k) y m → (node_at d.nodes i).level ≤ d.depth → r' x n k ≡ T.rigid n k
    keeps i n k y m lt is le = elim (contains_or d.own n) as (λ z. r' x n k ≡ T.rigid n k) [
      | inl o ↦ let z : d.depth < (node_at d.nodes i).level = deeper n o i lt (k, y, m, is) in absurd (omega arith)
      | inr never ↦ (r_else x).others n k never
    ]

    heads : (i n : ℕ) (k : Kind) (y m : ℕ) → i < length d.nodes → (node_at d.nodes i).form ≡ form.Made (head.Rigid n k) y m → (level k ≤ rank K (r' x n k)) ⊎ (r' x n k ≡ T.rigid n k)
    heads i n k y m lt is = elim (contains_or d.own n) as (λ z. (level k ≤ rank K (r' x n k)) ⊎ (r' x n k ≡ T.rigid n k)) [ inl o ↦ inl (r_kinds x K suits n k o) | inr never ↦ inr ((r_else x).others n k never) ]

    abbrev None : ℕ → Type 0
    None i = ⊥

    none_or : (i : ℕ) → None i ⊎ (None i → ⊥)
    none_or i = inr (λ z. z)

    abbrev anew : Sub
    anew = other table d.entries T home base d.nodes g bd ae told.listed ap' e.state K full sf d.depth (r' x) heads keeps None none_or full (λ i z le. z) (λ i lt z. absurd z)

    anew_solves : Solves (read T (r' x)) K anew d.nodes
    anew_solves = regrown_solves table d.entries T home base d.nodes g bd ae told.listed ap' e.state K full sf d.depth (r' x) heads keeps None none_or full (λ i z le. z) (λ i lt z. absurd z) (λ i lt z. absurd z)

    anew_low : (n : ℕ) → home n ≤ d.depth → anew n ≡ full n
    anew_low n le =
        let nb : n < base = program_low n le in
        low_other table d.entries T home base d.nodes g bd ae told.listed ap' e.state K full sf d.depth (r' x) heads keeps None none_or full (λ i z le. z) (λ i lt z. absurd z) n (omega arith)
        (elim (e.state.homes n nb) as (λ y. (node_at d.nodes (e.state.top n)).level ≤ d.depth) [ inl h ↦ (let q : (node_at d.nodes (e.state.top n)).level ≤ home n = h in omega arith) | inr w ↦ absurd w ])

    chosen_variant : Typing_variant s x K full
    chosen_variant = moved_variant K full (r' x) (r_else x) anew anew_solves anew_low x (r_types x)

  general_full : ((n : ℕ) → Contains d.own n → Deeper d.nodes n d.depth) → (K : Kinds) (full : Sub) → Solves T K full d.nodes → Generalised places s K full
  general_full deeper K full sf = (
    alike_typed (types_read places T.rigid ps) (own_types places ps) plain_types K full (e.done T.rigid own_else K full (whole K full sf)),
    λ x suits. chosen_variant deeper x K suits full sf,
  )

  general_done : ((n : ℕ) → Contains d.own n → Deeper d.nodes n d.depth) → (K : Kinds) (a : Sub) → Possible T base K a d.nodes → Generalised places s K a
  general_done deeper K a p = generalised_same places (Needs E) s depends K p.full a (λ n. elim [ inl m ↦ p.agrees n (let q : n < lo = (e.narrow n m).0 in let z : lo < base = lo_in in omega arith) | inr i ↦ p.agrees n (let q : n < lo + (1 + numbers v) = i.1 in let z : lo + (1 + numbers v) ≤ base = e.inside in omega arith) ])
      (general_full deeper K p.full p.solves)

  -- a parameter that is fixed at the depth around has no two types
  all_i32 : Sub
  all_i32 n = i32_ty

  all_i64 : Sub
  all_i64 n = i64_ty

  suits_32 : (K : Kinds) → Suits places K all_i32 ps
  unfolding all_i32
  suits_32 K = suits_all places K all_i32 ps (λ n k. every_kind K k int.I32)

  suits_64 : (K : Kinds) → Suits places K all_i64 ps
  unfolding all_i64
  suits_64 K = suits_all places K all_i64 ps (λ n k. every_kind K k int.I64)

  differ : (n : ℕ) → all_i32 n ≡ all_i64 n → ⊥
  unfolding all_i32 all_i64
  differ n q = two_types q

  escaped : (n : ℕ) (k : Kind) → IsOne places ps n k → Left T home born d.nodes d.depth n k → (K : Kinds) (a : Sub) → Possible T base K a before → Generalised places s K a → ⊥
  escaped n k one left K a p gen =
      let w : Typing_variant s all_i32 K a = gen.1 all_i32 (suits_32 K) in
      let x : Typing_variant s all_i64 K a = gen.1 all_i64 (suits_64 K) in
      let q = possible all_i32 K a p w in
      let y = possible all_i64 K a p x in
      differ n (sym (r_is all_i32 n k one) ∙ left (r' all_i32) K q.full (r' all_i64) K y.full q.solves y.solves (record {
        numbers = λ m hm. same_low all_i32 K a p w m hm ∙ sym (same_low all_i64 K a p x m hm);
        parameters = λ m j bm. (r_else all_i32).others m j (λ o. let z : d.depth < born m = e.later m o in omega arith) ∙ sym ((r_else all_i64).others m j (λ o. let z : d.depth < born m = e.later m o in omega arith));
      }) ∙ r_is all_i64 n k one)

  pub tells : Generalises N places T home born base before d b ps v lo E
  tells = record { uses = means; forth = general_forth; done = general_done; escapes = escaped }

pub law : Law
law N places table T home born base before d b ps v lo E g bd ae told ap' bl e = tells N places table T home born base before d b ps v lo E g bd ae told ap' bl e
