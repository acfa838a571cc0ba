-- The type scheme of a definition without written type parameters, read off the graph: what has level 0 has one type in all
-- uses, and for all else types of their kinds may be put.
use Rattle.std.proofs.Common.{◌≡◌, ◌↔◌, ℕ, zero, suc, ◌+◌, ◌≤◌, ◌<◌, max, refl, sym, ◌∙◌, ap, subst, arith, Bool, true, false, List, [], ◌∷◌, ◌++◌, length}
use Rattle.std.specs.List.{All}
use mathlib.Core.Logic.{◌⊎◌, inl, inr}
use Rattle.fut_flat.specs.Numbers.{pattern_numbers, numbers}
use Rattle.fut_types.specs.declared.Kind.{Kind}
use Rattle.fut_types.specs.declared.Kind.TheVariants as kind
use Rattle.fut_types.specs.Types.{Ty, Var, Made, Tys, none, more, Sub, Kinds, HasKind, applied, all_applied}
use Rattle.fut_types.proofs.TyLaws.{applied_var, applied_agree, Occurs, Occurs_in, same_parts, same_first, same_rest}
use Rattle.fut_typing.specs.Names.{Names}
use Rattle.fut_typing.specs.Free.{is_within, has_types, is_free}
use Rattle.fut_typing.specs.Homes.{At_home, written_if, Homed}
use Rattle.fut_typing.specs.Scopes.{Scope, nothing}
use Rattle.fut_typing.specs.Patterns.{with_pattern}
use Rattle.fut_typing.specs.Generalised.{Scheme, Reused}
use Rattle.fut_typing.specs.Program.{Defined, program_numbers, definition_scheme, Program_typed}
use Rattle.fut_typing.specs.Answers.{Met, Principal, default, default_at}
use Rattle.fut_typing.specs.Exact.{behind, scope_behind, scheme_behind, Fixed, Instance}
use Rattle.fut_typing.proofs.Ranges.{pattern_some, true_or, or_true, or_false, within_true, within_false}
use Rattle.fut_typing.proofs.Local.{AllLocal, local_more, local_pattern}
use Rattle.fut_typing.proofs.Cong.{Kept, reused_local}
use Rattle.fut_typing.proofs.Programs.{definition_depends}
use Rattle.fut_typing.proofs.Deep.{free_deep, kept_home}
use Rattle.fut_typing.proofs.Exact.{definition_exact}
use Rattle.type_graph.specs.declared.Form.{Form}
use Rattle.type_graph.specs.declared.Form.TheVariants as form
use Rattle.type_graph.specs.declared.Node.{Node}
use Rattle.type_graph.specs.declared.Entry.{Entry}
use Rattle.type_graph.specs.Graph.{far, node_at, Tables, Meeting}
use Rattle.type_graph.specs.State.{Backed}
use Rattle.type_graph.specs.Resolving.{resolved, noted, Stable, Loose}
use Rattle.type_graph.proofs.Resolution.{factors, plain_types, vars_home}
use Rattle.type_graph.specs.Claims.{Possible}
use Rattle.flat_numbers.specs.Listed.{Program_homed}
use Rattle.type_scopes.specs.declared.Inference.{Inference}
use Rattle.type_answers.specs.Left.{Decided, Undecided}
use Rattle.type_answers.specs.Typings.{Done, Closed}
use Rattle.type_answers.specs.Programs.{Exactly}
use Rattle.type_answers.proofs.Typings.{stands, closes}
use Rattle.type_answers.proofs.Programs.{gives_typing}
use Rattle.type_infer.specs.Reading.{default_of, node_default, fixed_at, fixed_default}
use Rattle.type_infer.specs.Inferring.{TypeScheme, Instantiates, Has_scheme, Has_typing}

-- ---- substitutions

-- two that make the same of a type agree on what stands in it
mutual
  unfolding applied

  at_variable : (f g : Sub) (t : Ty) → applied f t ≡ applied g t → (v : ℕ) → Occurs v t → f v ≡ g v
  at_variable f g (Var n) e v o = subst (λ k. f k ≡ g k) (sym o) e
  at_variable f g (Made h ts) e v o = at_variables f g ts (same_parts h h (all_applied f ts) (all_applied g ts) e) v o

  at_variables : (f g : Sub) (ts : Tys) → all_applied f ts ≡ all_applied g ts → (v : ℕ) → Occurs_in v ts → f v ≡ g v
  at_variables f g none e v o = absurd o
  at_variables f g (more t ts) e v (inl o) = at_variable f g t (same_first (applied f t) (applied g t) (all_applied f ts) (all_applied g ts) e) v o
  at_variables f g (more t ts) e v (inr o) = at_variables f g ts (same_rest (applied f t) (applied g t) (all_applied f ts) (all_applied g ts) e) v o

-- one after the other
mutual
  unfolding applied

  in_turn : (f g : Sub) (t : Ty) → applied f (applied g t) ≡ applied (λ v. applied f (g v)) t
  in_turn f g (Var n) = refl
  in_turn f g (Made h ts) = ap (Made h) (all_in_turn f g ts)

  all_in_turn : (f g : Sub) (ts : Tys) → all_applied f (all_applied g ts) ≡ all_applied (λ v. applied f (g v)) ts
  all_in_turn f g none = refl
  all_in_turn f g (more t ts) = λ i. more (in_turn f g t i) (all_in_turn f g ts i)

-- what is fixed, or what is chosen
abbrev put_at : ℕ → Ty → Ty → Ty
put_at zero t u = t
put_at (suc l) t u = u

abbrev put_all : (ℕ → ℕ) → Sub → Sub → Sub
put_all level f g v = put_at (level v) (f v) (g v)

abbrev is_general : ℕ → Bool
is_general zero = false
is_general (suc l) = true

-- a default stays
default_stays : (v : ℕ) (k : Kind) (by : Sub) → by v ≡ Var v → applied by (default_at v k) ≡ default_at v k
unfolding applied
default_stays v kind.Any by e = e
default_stays v kind.Data by e = e
default_stays v kind.Equal by e = e
default_stays v kind.Scalar by e = e
default_stays v kind.Integer by e = refl

-- ---- the homes of a definition's numbers

module _ (home : ℕ → ℕ) where
  abbrev Low : ℕ → Type 0
  Low n = home n ≤ 0

  abbrev Homed_at : Defined → ℕ → Type 0
  Homed_at d lo = At_home home 1 lo (pattern_numbers d.name) × Homed home 1 (written_if (has_types d.parameters) 1 0) d.value (lo + pattern_numbers d.name)

  homed_in : (before after : List Defined) (d : Defined) (lo : ℕ) → Program_homed home (before ++ d ∷ after) lo → Homed_at d (behind before lo)
  homed_in [] after d lo h = (h.0, h.1)
  homed_in (e ∷ before) after d lo h = homed_in before after d (lo + (pattern_numbers e.name + numbers e.value)) h.2

  homed_before : (before after : List Defined) (lo : ℕ) → Program_homed home (before ++ after) lo → Program_homed home before lo
  homed_before [] after lo h = tt
  homed_before (e ∷ before) after lo h = (h.0, h.1, homed_before before after (lo + (pattern_numbers e.name + numbers e.value)) h.2)

  module _ (N : Names) (d : Defined) (lo : ℕ) (scope : Scope) (h : Homed_at d lo) where
    abbrev s : Scheme
    s = definition_scheme N kind.Data d lo scope

    -- what is at home outside has one type in all uses
    low_fixed : (n : ℕ) → Low n → Fixed s n
    low_fixed n low = elim (true_or (s.free n)) as (λ x. Fixed s n) [ inl f ↦ absurd (deep f) | inr f ↦ inr f ]
      where
        deep : s.free n ≡ true → ⊥
        deep f = elim (or_true (is_within lo (pattern_numbers d.name) n) (is_free (has_types d.parameters) d.value (lo + pattern_numbers d.name) n) f) as (λ x. ⊥) [
          | inl w ↦ let i = within_true lo (pattern_numbers d.name) n w in let e : home n ≡ 1 = h.0 n i.0 i.1 in omega (arith, e, low)
          | inr w ↦ let i = free_deep home 1 0 (omega arith) d.parameters d.value (lo + pattern_numbers d.name) n h.1 w in let e : 1 ≤ home n = i.2 in omega (arith, e, low)
        ]

    -- and the other way round, in the definition
    kept_low : (n : ℕ) → Kept s n → Low n
    kept_low n k =
        let no = or_false (is_within lo (pattern_numbers d.name) n) (is_free (has_types d.parameters) d.value (lo + pattern_numbers d.name) n) k.1 in
        let from : lo ≤ n = k.0.0 in
        let to : n < lo + (pattern_numbers d.name + numbers d.value) = k.0.1 in
        kept_home home 1 0 (omega arith) d.parameters d.value (lo + pattern_numbers d.name) n h.1
        (elim (within_false lo (pattern_numbers d.name) n no.0) as (λ x. lo + pattern_numbers d.name ≤ n) [ inl l ↦ absurd (omega (arith, l, from)) | inr r ↦ r ]) (omega (arith, to)) no.1

  -- the uses of names depend on such numbers alone
  scope_low : (N : Names) (ds : List Defined) (lo : ℕ) (scope : Scope) → Program_homed home ds lo → AllLocal Low scope → AllLocal Low (scope_behind N kind.Data ds lo scope)
  scope_low N [] lo scope h all = all
  scope_low N (d ∷ ds) lo scope h all =
      let q : Scheme = definition_scheme N kind.Data d lo scope in
      scope_low N ds (lo + (pattern_numbers d.name + numbers d.value)) (with_pattern (Reused kind.Data q) d.name lo scope) h.2
      (local_pattern Low (Reused kind.Data q) d.name lo scope (λ n from to. local_more (λ n. Low n ⊎ Kept q n) Low (Reused kind.Data q n) (λ n. elim [ inl m ↦ m | inr k ↦ kept_low N d lo scope (h.0, h.1) n k ])
      (reused_local kind.Data Low q (definition_depends N kind.Data Low d lo scope all) n (from, omega (arith, to)))) all)

-- ---- the graph

behind_in : (before after : List Defined) (d : Defined) (lo : ℕ) → behind before lo + (pattern_numbers d.name + numbers d.value) ≤ lo + program_numbers (before ++ d ∷ after)
behind_in [] after d lo = omega arith
behind_in (e ∷ before) after d lo = let z : behind before (lo + (pattern_numbers e.name + numbers e.value)) + (pattern_numbers d.name + numbers d.value) ≤ lo + (pattern_numbers e.name + numbers e.value) + program_numbers (before ++ d ∷ after) = behind_in before after d (lo + (pattern_numbers e.name + numbers e.value)) in omega (arith, z)

lt_or : (m n : ℕ) → (m < n) ⊎ (n ≤ m)
lt_or zero zero = inr (omega arith)
lt_or zero (suc n) = inl (omega arith)
lt_or (suc m) zero = inr (omega arith)
lt_or (suc m) (suc n) = elim (lt_or m n) as (λ x. (suc m < suc n) ⊎ (suc n ≤ suc m)) [ inl h ↦ inl (omega (arith, h)) | inr h ↦ inr (omega (arith, h)) ]

module _ (N : Names) (ds : List Defined) (T : Tables) (home born : ℕ → ℕ) (nodes : List Node) (entries : List Entry) (d : Done T home (program_numbers ds) nodes entries) (x : Exactly N kind.Data ds T nodes)
    (outer : (m : ℕ) → program_numbers ds ≤ m → far ≤ home m) (backed : Backed (Meeting T nodes []) home born nodes []) (homed : Program_homed home ds 0)
    (decided : (n : ℕ) → n < program_numbers ds → Decided nodes n) (D : ℕ) (sb : Stable nodes D)
    (instance : (K : Kinds) (a : Sub) → Program_typed N kind.Data ds K a → (by : Sub) × ((v : ℕ) → HasKind K (noted nodes v) (by v)) × ((n : ℕ) → n < program_numbers ds → a n ≡ applied by (resolved nodes D n)))
    (typing : (K : Kinds) (by : Sub) → ((v : ℕ) → HasKind K (noted nodes v) (by v)) → Program_typed N kind.Data ds K (λ n. applied by (resolved nodes D n))) where
  abbrev r : Sub
  r = resolved nodes D

  abbrev fixed : Sub
  fixed v = fixed_default v (node_at nodes v)

  abbrev level_of : ℕ → ℕ
  level_of v = (node_at nodes v).level

  abbrev principal : Principal N.shapes (program_numbers ds) (Program_typed N kind.Data ds)
  principal = record {
    kinds = noted nodes;
    types = resolved nodes D;
    opens = [];
    once = λ i j x lt lj. absurd (omega arith);
    instance = λ K a h. let w = instance K a h in (w.0, w.1, (λ k x lt. absurd (omega arith)), w.2);
    typing = λ K by suits met. typing K by suits;
  }

  in_nodes : (n : ℕ) → n < program_numbers ds → n < length nodes
  in_nodes n lt = let l : program_numbers ds ≤ length nodes = d.low in omega (arith, lt, l)

  -- what stands in the type of a number is free, and of no higher level than its home
  standing : (n v : ℕ) → n < program_numbers ds → Occurs v (r n) → (v < length nodes) × ((node_at nodes v).form ≡ form.Free) × (level_of v ≤ home n)
  standing n v lt o = let w = vars_home T home (program_numbers ds) nodes d.graph d.state D sb n lt (in_nodes n lt) v o in (w.0, free (node_at nodes v).form refl w.1, w.2)
    where
      free : (f : Form) → (node_at nodes v).form ≡ f → Loose f → f ≡ form.Free
      free form.Free e l = refl
      free (form.Link j) e l = absurd l
      free (form.Made h y m) e l = absurd l
      free (form.Open y m) e l = absurd (decided n lt T home (program_numbers ds) d.state D sb v (stands v (r n) o) (subst (Undecided (node_at nodes v).kind) (sym e) tt))

  -- a solution gives variables the types that a typing puts for them
  module _ (K : Kinds) (by : Sub) (p : Possible T (program_numbers ds) K (λ n. applied by (resolved nodes D n)) nodes) where
    put : (n v : ℕ) → n < program_numbers ds → Occurs v (r n) → p.full v ≡ by v
    put n v lt o = at_variable p.full by (r n) (sym (factors nodes d.graph T K p.full p.solves D n (in_nodes n lt) ∙ plain_types nodes d.graph T d.plain p.full D n (in_nodes n lt)) ∙ p.agrees n lt) v o

  -- two typings that agree on what is at home outside agree on what has level 0
  module _ (K : Kinds) (by other : Sub) (suits : (v : ℕ) → HasKind K (noted nodes v) (by v)) (suits_other : (v : ℕ) → HasKind K (noted nodes v) (other v))
      (same : (n : ℕ) → n < program_numbers ds → home n ≤ 0 → applied by (resolved nodes D n) ≡ applied other (resolved nodes D n)) where
    one : Possible T (program_numbers ds) K (λ n. applied by (resolved nodes D n)) nodes
    one = x.to K (λ n. applied by (resolved nodes D n)) (typing K by suits)

    two : Possible T (program_numbers ds) K (λ n. applied other (resolved nodes D n)) nodes
    two = x.to K (λ n. applied other (resolved nodes D n)) (typing K other suits_other)

    agree : (l m : ℕ) → l ≡ 0 → home m ≤ l → one.full m ≡ two.full m
    agree l m zero_is le = elim (lt_or m (program_numbers ds)) as (λ y. one.full m ≡ two.full m) [
      | inl lt ↦ one.agrees m lt ∙ same m lt (omega (arith, le, zero_is)) ∙ sym (two.agrees m lt)
      | inr past ↦ let far_off : far ≤ home m = outer m past in absurd (omega (arith, far_off, le, zero_is))
    ]

    same_low : (n v : ℕ) → n < program_numbers ds → Occurs v (r n) → level_of v ≡ 0 → by v ≡ other v
    same_low n v lt o low =
        sym (put K by one n v lt o)
        ∙ backed.notes v (standing n v lt o).0 (omega (arith, low)) T.rigid K one.full T.rigid K two.full (record { solves = one.solves; holds = tt }) (record { solves = two.solves; holds = tt })
        (record { numbers = λ m le. agree (level_of v) m low le; parameters = λ m k le. refl })
        ∙ put K other two n v lt o

  -- ---- a definition
  module _ (before after : List Defined) (f : Defined) (split : ds ≡ before ++ f ∷ after) (unwritten : has_types f.parameters ≡ false)
      (K : Kinds) (a : Sub) (typed : Program_typed N kind.Data ds K a) (defaults : (n : ℕ) → n < program_numbers ds → a n ≡ applied (default (noted nodes)) (resolved nodes D n)) where
    abbrev scope : Scope
    scope = scope_behind N kind.Data before 0 nothing

    abbrev q : Scheme
    q = scheme_behind N kind.Data before f

    homed_here : Homed_at home f (behind before 0)
    homed_here = homed_in home before after f 0 (subst (λ (l : List Defined). Program_homed home l 0) split homed)

    within_here : behind before 0 + (pattern_numbers f.name + numbers f.value) ≤ program_numbers ds
    within_here = subst (λ (l : List Defined). behind before 0 + (pattern_numbers f.name + numbers f.value) ≤ program_numbers l) (sym split) (let z : behind before 0 + (pattern_numbers f.name + numbers f.value) ≤ 0 + program_numbers (before ++ f ∷ after) = behind_in before after f 0 in omega (arith, z))

    first_in : behind before 0 < program_numbers ds
    first_in = let z : 0 < pattern_numbers f.name = pattern_some f.name in let y = within_here in omega (arith, y, z)

    abbrev Exact_for : List Defined → Type 0
    Exact_for l = (p : Principal N.shapes (program_numbers l) (Program_typed N kind.Data l)) (K : Kinds) (a : Sub) → Program_typed N kind.Data l K a → (t : Ty) → Reused kind.Data q (behind before 0) K a t ↔ Instance N.shapes (program_numbers l) (Program_typed N kind.Data l) p q K a t

    exact : Exact_for ds
    exact = subst Exact_for (sym split) (definition_exact N kind.Data before after f unwritten)

    abbrev own : (by : Sub) × ((v : ℕ) → HasKind K (noted nodes v) (by v)) × ((n : ℕ) → n < program_numbers ds → a n ≡ applied by (resolved nodes D n))
    own = instance K a typed

    -- what the typing at hand puts for a variable is its default
    own_default : (v : ℕ) → Occurs v (r (behind before 0)) → own.0 v ≡ default_at v (noted nodes v)
    own_default v o = at_variable own.0 (default (noted nodes)) (r (behind before 0)) (sym (own.2 (behind before 0) first_in) ∙ defaults (behind before 0) first_in) v o

    -- what stands for a variable of level 0 stays
    fixed_is : (v : ℕ) → Occurs v (r (behind before 0)) → level_of v ≡ 0 → fixed v ≡ default_at v (noted nodes v)
    fixed_is v o low = ap (fixed_at v (node_at nodes v)) low ∙ ap (default_of v (noted nodes v)) (standing (behind before 0) v first_in o).1

    fixed_stays : (by : Sub) (v : ℕ) → Occurs v (r (behind before 0)) → level_of v ≡ 0 → by v ≡ Var v → applied by (fixed v) ≡ default_at v (noted nodes v)
    fixed_stays by v o low left = ap (applied by) (fixed_is v o low) ∙ default_stays v (noted nodes v) by left

    general_free : (by : Sub) (v l : ℕ) → level_of v ≡ suc l → applied by (fixed v) ≡ by v
    general_free by v l high = ap (applied by) (ap (fixed_at v (node_at nodes v)) high) ∙ applied_var by v

    abbrev scheme : TypeScheme
    scheme = record { type = applied fixed (r (behind before 0)); general = λ v. is_general (level_of v); kinds = noted nodes }

    -- from a use to an instance
    module _ (t : Ty) (i : Instance N.shapes (program_numbers ds) (Program_typed N kind.Data ds) principal q K a t) where
      abbrev chosen : Sub
      chosen = put_all level_of (λ v. Var v) i.by

      chosen_suits : (l v : ℕ) → level_of v ≡ l → is_general (level_of v) ≡ true → HasKind K (noted nodes v) (chosen v)
      chosen_suits zero v is e = absurd (let z : false ≡ true = sym (ap is_general is) ∙ e in cc)
      chosen_suits (suc l) v is e = subst (HasKind K (noted nodes v)) (sym (ap (λ m. put_at m (Var v) (i.by v)) is)) (i.kinds v)

      chosen_left : (l v : ℕ) → level_of v ≡ l → is_general (level_of v) ≡ false → chosen v ≡ Var v
      chosen_left zero v is e = ap (λ m. put_at m (Var v) (i.by v)) is
      chosen_left (suc l) v is e = absurd (let z : true ≡ false = sym (ap is_general is) ∙ e in cc)

      fixed_same : (n : ℕ) → n < program_numbers ds → home n ≤ 0 → applied i.by (resolved nodes D n) ≡ applied own.0 (resolved nodes D n)
      fixed_same n lt low = i.fixed n lt (low_fixed home N f (behind before 0) scope homed_here n low) ∙ own.2 n lt

      chosen_is : (l v : ℕ) → Occurs v (r (behind before 0)) → level_of v ≡ l → i.by v ≡ applied chosen (fixed v)
      chosen_is zero v o is = same_low K i.by own.0 i.kinds own.1 fixed_same (behind before 0) v first_in o is ∙ own_default v o ∙ sym (fixed_stays chosen v o is (ap (λ m. put_at m (Var v) (i.by v)) is))
      chosen_is (suc l) v o is = sym (general_free chosen v l is ∙ ap (λ m. put_at m (Var v) (i.by v)) is)

      to_instance : (by : Sub) × Instantiates scheme K by × (t ≡ applied by (applied fixed (r (behind before 0))))
      to_instance = (
        chosen,
        record { chosen = λ v e. chosen_suits (level_of v) v refl e; left = λ v e. chosen_left (level_of v) v refl e },
        i.is ∙ applied_agree i.by (λ v. applied chosen (fixed v)) (r (behind before 0)) (λ v o. chosen_is (level_of v) v o refl) ∙ sym (in_turn chosen fixed (r (behind before 0))),
      )

    -- and back
    module _ (t : Ty) (by : Sub) (w : Instantiates scheme K by) (is : t ≡ applied by (applied fixed (r (behind before 0)))) where
      abbrev mixed : Sub
      mixed = put_all level_of own.0 by

      mixed_suits : (l v : ℕ) → level_of v ≡ l → HasKind K (noted nodes v) (mixed v)
      mixed_suits zero v e = subst (HasKind K (noted nodes v)) (sym (ap (λ m. put_at m (own.0 v) (by v)) e)) (own.1 v)
      mixed_suits (suc l) v e = subst (HasKind K (noted nodes v)) (sym (ap (λ m. put_at m (own.0 v) (by v)) e)) (w.chosen v (ap is_general e))

      -- what is at home outside keeps its type
      mixed_same : (n : ℕ) → home n ≤ 0 → applied mixed (resolved nodes D n) ≡ a n
      mixed_same n low = elim (lt_or n (program_numbers ds)) as (λ y. applied mixed (resolved nodes D n) ≡ a n) [
        | inl lt ↦ applied_agree mixed own.0 (r n) (λ v o. ap (λ m. put_at m (own.0 v) (by v)) (let z : level_of v ≤ home n = (standing n v lt o).2 in let e : level_of v ≡ 0 = omega (arith, z, low) in e)) ∙ sym (own.2 n lt)
        | inr past ↦ let far_off : far ≤ home n = outer n past in absurd (omega (arith, far_off, low))
      ]

      mixed_is : (l v : ℕ) → Occurs v (r (behind before 0)) → level_of v ≡ l → applied by (fixed v) ≡ mixed v
      mixed_is zero v o e = fixed_stays by v o e (w.left v (ap is_general e)) ∙ sym (own_default v o) ∙ sym (ap (λ m. put_at m (own.0 v) (by v)) e)
      mixed_is (suc l) v o e = general_free by v l e ∙ sym (ap (λ m. put_at m (own.0 v) (by v)) e)

      -- it is used in the typing that puts these types
      used_there : Reused kind.Data q (behind before 0) K (λ n. applied mixed (resolved nodes D n)) (applied mixed (r (behind before 0)))
      used_there = (exact principal K (λ n. applied mixed (resolved nodes D n)) (typing K mixed (λ v. mixed_suits (level_of v) v refl)) (applied mixed (r (behind before 0)))).1
          (record { by = mixed; kinds = λ v. mixed_suits (level_of v) v refl; met = λ k x lt. absurd (omega arith); fixed = λ n lt e. refl; is = refl })

      to_use : Reused kind.Data q (behind before 0) K a t
      to_use = subst (Reused kind.Data q (behind before 0) K a) (sym (is ∙ in_turn by fixed (r (behind before 0)) ∙ applied_agree (λ v. applied by (fixed v)) mixed (r (behind before 0)) (λ v o. mixed_is (level_of v) v o refl)))
          (reused_local kind.Data (Low home) q (definition_depends N kind.Data (Low home) f (behind before 0) scope (scope_low home N before 0 nothing (homed_before home before (f ∷ after) 0 (subst (λ (l : List Defined). Program_homed home l 0) split homed)) (λ b K a a' t e u. absurd u)))
          (behind before 0) (omega arith, (let z : 0 < pattern_numbers f.name = pattern_some f.name in omega (arith, z))) K (λ n. applied mixed (resolved nodes D n)) a (applied mixed (r (behind before 0)))
          (λ n. elim [ inl low ↦ mixed_same n low | inr k ↦ mixed_same n (kept_low home N f (behind before 0) scope homed_here n k) ]) used_there)

    pub has_scheme : Has_scheme nodes q K a
    has_scheme = record {
      scheme = scheme;
      shown = (D, λ e le. ap (applied fixed) (sb (behind before 0) (in_nodes (behind before 0) first_in) e le));
      uses = λ t. ((λ u. to_instance t ((exact principal K a typed t).0 u)), (λ w. to_use t w.0 w.1 w.2));
    }

-- from some depth on two readings are the same
stable_same : (nodes : List Node) (D E : ℕ) → Stable nodes D → Stable nodes E → (i : ℕ) → i < length nodes → resolved nodes D i ≡ resolved nodes E i
stable_same nodes D E d e i lt = sym (d i lt (max D E) (omega arith)) ∙ e i lt (max D E) (omega arith)

module _ (N : Names) (ds : List Defined) (T : Tables) (home born : ℕ → ℕ) (i : Inference) (d : Done T home (program_numbers ds) i.nodes i.entries) (x : Exactly N kind.Data ds T i.nodes)
    (outer : (m : ℕ) → program_numbers ds ≤ m → far ≤ home m) (backed : Backed (Meeting T i.nodes []) home born i.nodes []) (homed : Program_homed home ds 0)
    (decided : (n : ℕ) → n < program_numbers ds → Decided i.nodes n) where
  c : Closed T (program_numbers ds) i.nodes
  c = closes T home (program_numbers ds) i.nodes i.entries d decided

  instances : (K : Kinds) (a : Sub) → Program_typed N kind.Data ds K a → (by : Sub) × ((v : ℕ) → HasKind K (noted i.nodes v) (by v)) × ((n : ℕ) → n < program_numbers ds → a n ≡ applied by (resolved i.nodes c.depth n))
  instances K a h = let w = c.principal.instance K a (x.to K a h) in (w.0, (λ v. subst (λ (ks : Kinds). HasKind K (ks v) (w.0 v)) c.kinds (w.1 v)), (λ n lt. w.3 n lt ∙ ap (λ (s : Sub). applied w.0 (s n)) c.types))

  typings : (K : Kinds) (by : Sub) → ((v : ℕ) → HasKind K (noted i.nodes v) (by v)) → Program_typed N kind.Data ds K (λ n. applied by (resolved i.nodes c.depth n))
  typings K by suits = x.from K (λ n. applied by (resolved i.nodes c.depth n)) (subst (λ (s : Sub). Possible T (program_numbers ds) K (λ n. applied by (s n)) i.nodes) c.types
      (c.principal.typing K by (λ v. subst (λ (ks : Kinds). HasKind K (ks v) (by v)) (sym c.kinds) (suits v)) (subst (All (Met T.shapes by)) (sym c.opens) (λ k y lt. absurd (omega arith)))))

  -- a typing, and the type schemes of its definitions
  pub has_typing : Has_typing ds i N
  has_typing = let t = gives_typing N ds T home i.nodes i.entries d x decided in record {
    types = λ m. applied (default (noted i.nodes)) (resolved i.nodes t.0 m);
    typing = t.2;
    comes = λ m lt. (t.0, λ e le. ap (applied (λ v. node_default v (node_at i.nodes v))) (t.1 m (in_range m lt) e le) ∙ defaulted m lt t.0 t.1);
    schemes = λ before after f split unwritten K a typed same.
        has_scheme N ds T home born i.nodes i.entries d x outer backed homed decided c.depth c.stable instances typings before after f split unwritten K a typed
        (λ n lt. same n lt ∙ ap (applied (default (noted i.nodes))) (stable_same i.nodes t.0 c.depth t.1 c.stable n (in_range n lt)));
  }
    where
      in_range : (n : ℕ) → n < program_numbers ds → n < length i.nodes
      in_range n lt = let l : program_numbers ds ≤ length i.nodes = d.low in omega (arith, lt, l)

      -- the defaults of what stands in the types of numbers
      defaulted : (n : ℕ) → n < program_numbers ds → (E : ℕ) → Stable i.nodes E → applied (λ v. node_default v (node_at i.nodes v)) (resolved i.nodes E n) ≡ applied (default (noted i.nodes)) (resolved i.nodes E n)
      defaulted n lt E sb = applied_agree (λ v. node_default v (node_at i.nodes v)) (default (noted i.nodes)) (resolved i.nodes E n) (λ v o.
          ap (default_of v (noted i.nodes v)) (standing N ds T home born i.nodes i.entries d x outer backed homed decided c.depth c.stable instances typings n v lt (subst (Occurs v) (stable_same i.nodes E c.depth sb c.stable n (in_range n lt)) o)).1)
