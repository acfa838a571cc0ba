-- Two typings of a term, the second of which has the chosen types for a local function where the first has the function's own,
-- give a third: the same is lifted as of a definition, in each term on the way to the function.
use Rattle.std.proofs.Common.{◌≡◌, ℕ, zero, suc, ◌+◌, ◌≤◌, ◌<◌, refl, sym, ◌∙◌, subst, arith, Bool, true, false, List, Some}
use mathlib.Core.Logic.{◌⊎◌, inl, inr}
use Rattle.fut_scalar.specs.declared.place.BindId.{BindId}
use Rattle.fut_scalar.specs.declared.place.Place.{Place}
use Rattle.fut_flat.specs.declared.prim.Ref.{Ref}
use Rattle.fut_flat.specs.Terms.{Parameter, Use, Strict, Lambda, Apply, Let, If, Loop, Terms, no_term, term_and, Counted, Over, While}
use Rattle.fut_flat.specs.Numbers.{pattern_numbers, all_pattern_numbers, own_numbers, numbers, all_numbers, turn_numbers}
use Rattle.fut_flat.specs.Erased.{FlatTerm, FlatTurns, FlatPattern}
use Rattle.fut_types.specs.declared.Kind.{Kind}
use Rattle.fut_types.specs.declared.Kind.TheVariants as kind
use Rattle.fut_types.specs.Types.{Ty, Var, more, Sub, Kinds, HasKind, fun_ty}
use Rattle.fut_typing.specs.Names.{Names}
use Rattle.fut_typing.specs.Scopes.{Scope, with_sizes, the_one, IsArray}
use Rattle.fut_typing.specs.Patterns.{arrows, with_pattern, with_patterns, with_parameters, Pattern_typed}
use Rattle.fut_typing.specs.Free.{is_within}
use Rattle.fut_typing.specs.Generalised.{own_types, Suits, Scheme, Variant, Reused, Generalised}
use Rattle.fut_typing.specs.Typing.{scheme_of, FlatBinding, term_types, operand, Function_name, with_turns, Bound, let_scheme, Let_typed, with_let, Typed, All_typed, Turns_typed}
use Rattle.fut_typing.specs.Exact.{Way, found, part, Fixed, scheme_along, scheme_in, scheme_turns}
use Rattle.fut_typing.specs.Declared.{Is_parameter, Declares, Some_declare, Turns_declare}
use Rattle.fut_typing.proofs.Ranges.{pattern_some, operand_own, true_or}
use Rattle.fut_typing.proofs.Local.{Agree, AllLocal, Covers, all_local_more, local_with, local_one, local_sizes, local_parameters, local_ones, local_all_ones, local_turns, pattern_types_same, pattern_same, parameters_same}
use Rattle.fut_typing.proofs.Cong.{rule_same, written_same, terms_same, bound_same, let_same, cong, cong_all, cong_turns}
use Rattle.fut_typing.proofs.Locals.{or_right, up_to, let_depends, body_local, carried_local, turned_local}
use Rattle.fut_typing.proofs.Readings.{Reading, image, read_kind, Extends, extends_more, extends_self, plain}
unfoldable use Rattle.fut_typing.proofs.Readings.{read, read_all}
use Rattle.fut_typing.proofs.Follows.{read_array}
use Rattle.fut_typing.proofs.Instances.{parameter_limit}
use Rattle.typing_laws.specs.Ways.{Ends_at, Ends_in, Ends_in_turns, Function_let, Declares_beside, Some_beside, Turns_beside}
unfoldable use Rattle.typing_laws.proofs.Lifted.{lifted, all_lifted}
use Rattle.typing_laws.proofs.Pairs as pairs
use Rattle.typing_laws.proofs.Joins as joins
use Rattle.typing_laws.proofs.Twice as twice
use Rattle.typing_laws.proofs.Placed.{stays, In_term, placed, placed_in, placed_turns}

-- what is before the function, and what is behind it
early : (s : Scheme) (lo many : ℕ) → lo + many ≤ s.first → Covers (Fixed s) lo many
early s lo many le n p q = inl (inl (omega arith))

late : (s : Scheme) (lo many : ℕ) → s.first + s.many ≤ lo → Covers (Fixed s) lo many
late s lo many le n p q = inl (inr (omega arith))

early_at : (s : Scheme) (n : ℕ) → n < s.first → Fixed s n
early_at s n lt = inl (inl lt)

late_at : (s : Scheme) (n : ℕ) → s.first + s.many ≤ n → Fixed s n
late_at s n le = inl (inr le)

before : (s : Scheme) (lo : ℕ) (scope : Scope) → lo ≤ s.first → AllLocal (λ n. n < lo) scope → AllLocal (Fixed s) scope
before s lo scope le all = all_local_more (λ n. n < lo) (Fixed s) scope (λ n lt. inl (inl (omega arith))) all

module _ (N : Names) (places : Kind) (ps : List (Parameter BindId)) (c : Sub) (F0 G : ℕ) (over : F0 ≤ G) (wide : parameter_limit ps ≤ G) (one_label : (l l' i : ℕ) → N.shapes.position l ≡ Some i → N.shapes.position l' ≡ Some i → l ≡ l') (K : Kinds)
    (D : ℕ → Type 0) (low : (n : ℕ) → D n → n < F0) (apart : (n : ℕ) → D n → Is_parameter ps n → ⊥) (suits : Suits places K c ps) where
  abbrev lift : Ty → Ty → Ty
  lift = pairs.lift N places ps c F0 G over wide

  abbrev two : Sub → Sub → Sub
  two = pairs.two N places ps c F0 G over wide

  abbrev Joins : Reading → ℕ → Scope → Scope → Scope → Type 0
  Joins = joins.Joins N places ps c F0 G over wide one_label K

  abbrev Good_for : Reading → ℕ → Type 0
  Good_for = twice.Good_for N places ps c F0 G over wide one_label K D low apart

  abbrev Chosen : List (Parameter BindId) → Sub → Sub → Sub → Reading → ℕ → Type 0
  Chosen = twice.Chosen N places ps c F0 G over wide one_label K D low apart

  -- the parameters' own types are left as they are
  abbrev Ground : Reading → Type 0
  Ground I = Extends G (plain (λ n. Var n)) I

  -- the types m are those of a typing, but in the function s, which is typed with the chosen types
  abbrev pub Half : (Sub → Type 0) → Scheme → Sub → Type 0
  Half T s m = (b : Sub) × Agree (Fixed s) b m × T b × s.typed c K m

  equal : (I : Reading) (t u t' u' : Ty) → t ≡ u → t' ≡ u' → read I (lift t t') ≡ read I (lift u u')
  equal I t u t' u' e e' = joins.equal N places ps c F0 G over wide one_label K I t u t' u' e e'

  lifted_same : (I : Reading) (s : Scheme) (a b m : Sub) → Agree (Fixed s) b m → Agree (Fixed s) (image I (two a b)) (image I (two a m))
  lifted_same I s a b m same n f = equal I (a n) (a n) (b n) (m n) refl (same n f)

  -- of numbers before the function or behind it
  equal_at : (I : Reading) (s : Scheme) (a b m : Sub) → Agree (Fixed s) b m → (n n' : ℕ) → Fixed s n → Fixed s n' → a n ≡ a n' → b n ≡ b n' → image I (two a m) n ≡ image I (two a m) n'
  equal_at I s a b m same n n' f f' e e' = let is = lifted_same I s a b m same in sym (is n f) ∙ equal I _ _ _ _ e e' ∙ is n' f'

  kind_both : (I : Reading) (F : ℕ) → Good_for I F → (k : Kind) (t t' : Ty) → HasKind K k t → HasKind K k t' → HasKind K k (read I (lift t t'))
  kind_both I F good k t t' h h' = read_kind K K I good.suited k (lift t t') (pairs.lift_kind N places ps c F0 G over wide K k t t' h h')

  -- ---- what stands beside the way
  module _ (S : Scheme) (I : Reading) (F : ℕ) (good : Good_for I F) (l r s : Scope) (j : Joins I F l r s) (here : AllLocal (Fixed S) s) (a b m : Sub) (same : Agree (Fixed S) b m) where
    side : (t : FlatTerm) (lo : ℕ) → ((n : ℕ) → Declares t n → D n) → AllLocal (λ n. n < lo) s → Covers (Fixed S) lo (numbers t) → Typed N places t lo l K a → Typed N places t lo r K b → Typed N places t lo s K (image I (two a m))
    side t lo few local covers h h' = cong N places (Fixed S) t lo s here covers K (image I (two a b)) (image I (two a m)) (lifted_same I S a b m same) (twice.both N places ps c F0 G over wide one_label K D low apart t lo I F good few l r s local j a b h h')

    side_all : (ts : Terms Ref BindId) (lo : ℕ) → ((n : ℕ) → Some_declare ts n → D n) → AllLocal (λ n. n < lo) s → Covers (Fixed S) lo (all_numbers ts) → All_typed N places ts lo l K a → All_typed N places ts lo r K b → All_typed N places ts lo s K (image I (two a m))
    side_all ts lo few local covers h h' = cong_all N places (Fixed S) ts lo s here covers K (image I (two a b)) (image I (two a m)) (lifted_same I S a b m same) (twice.all_both N places ps c F0 G over wide one_label K D low apart ts lo I F good few l r s local j a b h h')

    side_turns : (t : FlatTurns) (lo : ℕ) (li ri si : Scope) → ((n : ℕ) → Turns_declare t n → D n) → AllLocal (λ n. n < lo) s → AllLocal (λ n. n < lo) si → AllLocal (Fixed S) si → Joins I F li ri si → Covers (Fixed S) lo (turn_numbers t)
        → Turns_typed N places t lo l li K a → Turns_typed N places t lo r ri K b → Turns_typed N places t lo s si K (image I (two a m))
    side_turns t lo li ri si few local locali herei ji covers h h' = cong_turns N places (Fixed S) t lo s si here herei covers K (image I (two a b)) (image I (two a m)) (lifted_same I S a b m same)
        (twice.turns_both N places ps c F0 G over wide one_label K D low apart t lo I F good few l r s li ri si local locali j ji a b h h')

    -- a pattern, and a value whose typing is known
    side_bound : (p : FlatPattern) (lo : ℕ) (value : Type 0) → Covers (Fixed S) lo (pattern_numbers p + 1) → value → Pattern_typed N places K a p lo l → Pattern_typed N places K b p lo r → a lo ≡ a (lo + pattern_numbers p) → b lo ≡ b (lo + pattern_numbers p)
        → Bound N places p lo s (λ J x. value) K (image I (two a m))
    side_bound p lo value covers v h h' e e' = bound_same N places (Fixed S) p lo 1 s (λ J x. value) K (image I (two a b)) (image I (two a m)) here (omega arith) covers (lifted_same I S a b m same) (λ x. x)
        ((joins.pattern_joins N places ps c F0 G over wide one_label K I good.suited F p lo l r s j a b h h', v), equal I _ _ _ _ e e')

    -- a term of these parts, where what it says itself is before the function or behind it
    apply_node : (g e : FlatTerm) (lo : ℕ) → 1 + lo < S.first → Fixed S (1 + lo + numbers g) → Typed N places (Apply g e) lo l K a → Typed N places (Apply g e) lo r K b
        → Typed N places g (1 + lo) s K (image I (two a m)) → Typed N places e (1 + lo + numbers g) s K (image I (two a m)) → Typed N places (Apply g e) lo s K (image I (two a m))
    unfolding read lifted
    apply_node g e lo under at h h' x y = let is = lifted_same I S a b m same in
        ((x, y), sym (is (1 + lo) (early_at S (1 + lo) under)) ∙ equal I _ _ _ _ h.1 h'.1 ∙ (λ k. fun_ty (is (1 + lo + numbers g) at k) (is lo (early_at S lo (omega arith)) k)))

    if_node : (x t e : FlatTerm) (lo : ℕ) → 1 + lo < S.first → Fixed S (1 + lo + numbers x) → Fixed S (1 + lo + numbers x + numbers t) → Typed N places (If x t e) lo l K a → Typed N places (If x t e) lo r K b
        → Typed N places x (1 + lo) s K (image I (two a m)) → Typed N places t (1 + lo + numbers x) s K (image I (two a m)) → Typed N places e (1 + lo + numbers x + numbers t) s K (image I (two a m)) → Typed N places (If x t e) lo s K (image I (two a m))
    unfolding read lifted
    if_node x t e lo under at end h h' u v w = let is = lifted_same I S a b m same in let first : Fixed S lo = early_at S lo (omega arith) in (
      ((u, v), w),
      sym (is (1 + lo) (early_at S (1 + lo) under)) ∙ equal I _ _ _ _ h.1 h'.1,
      equal_at I S a b m same lo (1 + lo + numbers x) first at h.2 h'.2,
      equal_at I S a b m same lo (1 + lo + numbers x + numbers t) first end h.3 h'.3,
      subst (HasKind K places) (is lo first) (kind_both I F good places (a lo) (b lo) h.4 h'.4),
    )

  -- what a loop carries
  abbrev inside : List BindId → FlatPattern → ℕ → Scope → Scope
  inside sizes p lo scope = with_pattern the_one p (1 + lo) (with_sizes sizes scope)

  joins_inside : (I : Reading) (F : ℕ) (sizes : List BindId) (p : FlatPattern) (lo : ℕ) (l r s : Scope) → Joins I F l r s → Joins I F (inside sizes p lo l) (inside sizes p lo r) (inside sizes p lo s)
  joins_inside I F sizes p lo l r s j = joins.joins_ones N places ps c F0 G over wide one_label K I F p (1 + lo) (with_sizes sizes l) (with_sizes sizes r) (with_sizes sizes s) (joins.joins_sizes N places ps c F0 G over wide one_label K I F sizes l r s j)

  module _ (S : Scheme) (I : Reading) (F : ℕ) (good : Good_for I F) (l r s : Scope) (j : Joins I F l r s) (here : AllLocal (Fixed S) s) (a b m : Sub) (same : Agree (Fixed S) b m) where
    loop_node : (mark : Place) (sizes : List BindId) (p : FlatPattern) (first : FlatTerm) (turns : FlatTurns) (body : FlatTerm) (lo : ℕ) → 1 + lo + pattern_numbers p < S.first → Fixed S (1 + lo + pattern_numbers p + numbers first + turn_numbers turns)
        → Typed N places (Loop mark sizes p first turns body) lo l K a → Typed N places (Loop mark sizes p first turns body) lo r K b → Typed N places first (1 + lo + pattern_numbers p) s K (image I (two a m))
        → Turns_typed N places turns (1 + lo + pattern_numbers p + numbers first) s (inside sizes p lo s) K (image I (two a m))
        → Typed N places body (1 + lo + pattern_numbers p + numbers first + turn_numbers turns) (with_turns turns (1 + lo + pattern_numbers p + numbers first) (inside sizes p lo s)) K (image I (two a m)) → Typed N places (Loop mark sizes p first turns body) lo s K (image I (two a m))
    loop_node mark sizes p first turns body lo under at h h' u v w =
        let first_at : 1 + lo < S.first = omega arith in
        let start : Fixed S lo = early_at S lo (omega arith) in (
          (
            (
              side_bound S I F good (with_sizes sizes l) (with_sizes sizes r) (with_sizes sizes s) (joins.joins_sizes N places ps c F0 G over wide one_label K I F sizes l r s j) (local_sizes (Fixed S) sizes s here) a b m same p (1 + lo) (Typed N places first (1 + lo + pattern_numbers p) s K (image I (two a m)))
                  (early S (1 + lo) (pattern_numbers p + 1) (omega arith)) u h.0.0.0.0.0 h'.0.0.0.0.0 h.0.0.0.1 h'.0.0.0.1,
              v,
            ),
            w,
          ),
          equal_at I S a b m same lo (1 + lo) start (early_at S (1 + lo) first_at) h.1 h'.1,
          equal_at I S a b m same lo (1 + lo + pattern_numbers p + numbers first + turn_numbers turns) start at h.2 h'.2,
          subst (HasKind K places) (lifted_same I S a b m same lo start) (kind_both I F good places (a lo) (b lo) h.3 h'.3),
        )

  -- the types of terms in a row, and what turns bind, are before the function or behind it
  heads_same : (ts : Terms Ref BindId) (lo : ℕ) (r : Scope) (i : ℕ) (w : Way) → Ends_in (Function_let ps) ts i w → (x y : Sub) → Agree (Fixed (scheme_in N places ts lo r i w)) x y → term_types x ts lo ≡ term_types y ts lo
  heads_same no_term lo r i w ends x y same = absurd ends
  heads_same (term_and t ts) lo r zero w ends x y same =
      let S : Scheme = scheme_along N places t lo r w in let q : In_term N places ps t lo r w = placed N places ps t lo r w ends in
      let low : lo < S.first = q.low in let high : S.first + S.many ≤ lo + numbers t = q.high in
      λ k. more (same lo (early_at S lo low) k) (terms_same N places (Fixed S) x y same ts (lo + numbers t) (late S (lo + numbers t) (all_numbers ts) high) k)
  heads_same (term_and t ts) lo r (suc i) w ends x y same =
      let S : Scheme = scheme_in N places ts (lo + numbers t) r i w in let q = placed_in N places ps ts (lo + numbers t) r i w ends in let low : lo + numbers t < S.first = q.low in
      λ k. more (same lo (early_at S lo (omega arith)) k) (heads_same ts (lo + numbers t) r i w ends x y same k)

  turn_names : (t : FlatTurns) (lo : ℕ) (r ri : Scope) (w : Way) → Ends_in_turns (Function_let ps) t w → (outer : Scope) → AllLocal (Fixed (scheme_turns N places t lo r ri w)) outer → AllLocal (Fixed (scheme_turns N places t lo r ri w)) (with_turns t lo outer)
  turn_names (Counted b m) lo r ri w ends outer all = let S : Scheme = scheme_along N places m (1 + lo) r w in let q : In_term N places ps m (1 + lo) r w = placed N places ps m (1 + lo) r w ends in let low : 1 + lo < S.first = q.low in
      local_with (Fixed S) b.0 (the_one lo) outer (local_one (Fixed S) lo (early_at S lo (omega arith))) all
  turn_names (Over p e) lo r ri w ends outer all = let S : Scheme = scheme_along N places e (lo + pattern_numbers p) r w in let q : In_term N places ps e (lo + pattern_numbers p) r w = placed N places ps e (lo + pattern_numbers p) r w ends in let low : lo + pattern_numbers p < S.first = q.low in
      local_ones (Fixed S) p lo outer (early S lo (pattern_numbers p) (omega arith)) all
  turn_names (While e) lo r ri w ends outer all = all

  -- ---- a definition around the function, with the pattern p and the value v: its names stand for those of r, and its pattern's for those of o
  module _ (qs : List (Parameter BindId)) (p : FlatPattern) (v : FlatTerm) (lo : ℕ) (o r : Scope) (w : Way) (ends : Ends_at (Function_let ps) v w) where
    -- it, and the function in it where its parameters are chosen so
    abbrev pub around : Scheme
    around = scheme_of qs p v lo (λ y. Bound N places p lo o (Typed N places v (lo + pattern_numbers p) (with_parameters qs y r)))

    abbrev pub inner : Sub → Scheme
    inner y = scheme_along N places v (lo + pattern_numbers p) (with_parameters qs y r) w

    abbrev pub half_typed : Sub → Kinds → Sub → Type 0
    half_typed y J m = Half (around.typed y K) (inner y) m

    abbrev pub half : Scheme
    half = record { parameters = qs; first = lo; many = pattern_numbers p + numbers v; free = around.free; typed = half_typed }

    stands : (y : Sub) → In_term N places ps v (lo + pattern_numbers p) (with_parameters qs y r) w
    stands y = placed N places ps v (lo + pattern_numbers p) (with_parameters qs y r) w ends

    inner_variant : (y x : Sub) → around.typed y K x → Variant (inner y) c K x
    inner_variant y x t = let q : In_term N places ps v (lo + pattern_numbers p) (with_parameters qs y r) w = stands y in (q.gives K x t.0.1).1 c (subst (Suits places K c) (sym q.parameters) suits)

    -- what has one type in all its uses has one in the function's
    pub around_fixed : (y : Sub) (n : ℕ) → Fixed around n → Fixed (inner y) n
    around_fixed y n (inl (inl lt)) = let q : In_term N places ps v (lo + pattern_numbers p) (with_parameters qs y r) w = stands y in let under : lo + pattern_numbers p < (inner y).first = q.low in early_at (inner y) n (omega arith)
    around_fixed y n (inl (inr le)) = let q : In_term N places ps v (lo + pattern_numbers p) (with_parameters qs y r) w = stands y in let up : (inner y).first + (inner y).many ≤ lo + pattern_numbers p + numbers v = q.high in late_at (inner y) n (omega arith)
    around_fixed y n (inr e) = let q : In_term N places ps v (lo + pattern_numbers p) (with_parameters qs y r) w = stands y in elim (true_or ((inner y).free n)) as (λ x. Fixed (inner y) n) [
      | inl f ↦ absurd (let z : around.free n ≡ true = or_right (is_within lo (pattern_numbers p) n) _ (q.freed _ n f) in (let x : true ≡ false = sym z ∙ e in cc))
      | inr f ↦ inr f
    ]

    -- each of its variants is one in which the function is typed with the chosen types
    pub half_variant : (x y b m : Sub) → Agree (Fixed (inner x)) b m → Variant around y K b → Variant half y K m
    half_variant x y b m same vb =
        let vi : Variant (inner y) c K vb.other = inner_variant y vb.other vb.typed in record {
          other = vi.other;
          outside = λ n out. stays (inner y) c K vb.other vi n (around_fixed y n (inl out)) ∙ vb.outside n out ∙ same n (around_fixed x n (inl out));
          kept = λ n p q f. stays (inner y) c K vb.other vi n (around_fixed y n (inr f)) ∙ vb.kept n p q f ∙ same n (around_fixed x n (inr f));
          typed = (vb.other, λ n f. sym (stays (inner y) c K vb.other vi n f), vb.typed, vi.typed);
        }

    pub half_used : (n : ℕ) → lo ≤ n → n < lo + pattern_numbers p → (b : Sub) (t : Ty) → Reused places around n K b t → Reused places half n K b t
    unfolding half_variant
    half_used n from to b t u = let y : Sub = u.0 in let vb : Variant around y K b = u.2.0 in let vi : Variant (inner y) c K vb.other = inner_variant y vb.other vb.typed in
        let q : In_term N places ps v (lo + pattern_numbers p) (with_parameters qs y r) w = stands y in let under : lo + pattern_numbers p < (inner y).first = q.low in
        (y, u.1, (half_variant y y b b (λ n f. refl) vb, u.2.1 ∙ sym (stays (inner y) c K vb.other vi n (early_at (inner y) n (omega arith)))))

    -- its pattern, and its value's typing
    pub half_bound : (J : Reading) (H : ℕ) → Good_for J H → (l s : Scope) → Joins J H l o s → AllLocal (λ n. n < lo) s → (y a m : Sub) (value : Type 0) → value → Pattern_typed N places K a p lo l → a lo ≡ a (lo + pattern_numbers p) → half_typed y K m
        → Bound N places p lo s (λ J x. value) K (image J (two a m))
    half_bound J H goodJ l s j local y a m value t h e half = let q : In_term N places ps v (lo + pattern_numbers p) (with_parameters qs y r) w = stands y in let under : lo + pattern_numbers p < (inner y).first = q.low in
        side_bound (inner y) J H goodJ l o s j (before (inner y) lo s (omega arith) local) a half.0 m half.1 p lo value (early (inner y) lo (pattern_numbers p + 1) (omega arith)) t h half.2.0.0 e half.2.1

    half_let : (f : Bool) (named : Type 0) (b m : Sub) → (around.typed (own_types places qs) K b → half_typed (own_types places qs) K m) → ((y : Sub) → Variant around y K b → Variant half y K m) → Let_typed N places f named around K b → Let_typed N places f named half K m
    half_let true named b m typed all h = (h.0, (typed h.1.0, λ y suits. all y (h.1.1 y suits)))
    half_let false named b m typed all h = typed h

  -- ---- a let whose value is beside the way, and the function's own
  value_move : (d : FlatBinding) (v : FlatTerm) (lo : ℕ) (I : Reading) (F : ℕ) → ((n : ℕ) → Declares v n → D n) → (l r s : Scope) → AllLocal (λ n. n < lo) s → Joins I F l r s
      → (x y z : Sub) (J : Reading) (H : ℕ) → Good_for J H → F ≤ H → Extends F I J → Chosen d.parameters x y z J H → (a b : Sub)
      → (let_scheme N places d v lo l (Typed N places v (1 + lo + pattern_numbers d.pattern))).typed x K a → (let_scheme N places d v lo r (Typed N places v (1 + lo + pattern_numbers d.pattern))).typed y K b → (let_scheme N places d v lo s (Typed N places v (1 + lo + pattern_numbers d.pattern))).typed z K (image J (two a b))
  value_move d v lo I F few l r s local j = let at : ℕ = 1 + lo + pattern_numbers d.pattern in twice.let_move N places ps c F0 G over wide one_label K D low apart d v lo I F l r s j
      (λ x y z J H goodJ more a b. twice.both N places ps c F0 G over wide one_label K D low apart v at J H goodJ few (with_parameters d.parameters x l) (with_parameters d.parameters y r) (with_parameters d.parameters z s) (local_parameters (λ n. n < at) d.parameters z s (up_to N places lo at s (omega arith) local)) more a b)

  let_here : (d : FlatBinding) (v e : FlatTerm) (lo : ℕ) → d.is_function ≡ true → d.parameters ≡ ps → (I : Reading) (F : ℕ) → Good_for I F → Ground I → G ≤ F → ((n : ℕ) → (Declares v n ⊎ Declares e n) → D n) → (l r s : Scope) → AllLocal (λ n. n < lo) s → Joins I F l r s → (a m : Sub)
      → Typed N places (Let d v e) lo l K a → Half (Typed N places (Let d v e) lo r K) (scheme_along N places (Let d v e) lo r found) m → Typed N places (Let d v e) lo s K (image I (two a m))
  let_here d v e lo function parameters I F good ground le few l r s local j a m h half =
      let b : Sub = half.0 in let end : ℕ = 1 + lo + pattern_numbers d.pattern + numbers v in let named : Type 0 = Function_name d.sizes d.pattern in let own : Sub = own_types places d.parameters in
      let ls : Scheme = let_scheme N places d v lo l (Typed N places v (1 + lo + pattern_numbers d.pattern)) in
      let rs : Scheme = let_scheme N places d v lo r (Typed N places v (1 + lo + pattern_numbers d.pattern)) in
      let ss : Scheme = let_scheme N places d v lo s (Typed N places v (1 + lo + pattern_numbers d.pattern)) in
      let left : named × Generalised places ls K a = subst (λ f. Let_typed N places f named ls K a) function h.0.0 in
      let right : named × Generalised places rs K b = subst (λ f. Let_typed N places f named rs K b) function half.2.0.0 in
      let here : AllLocal (Fixed rs) s = before rs lo s (omega arith) local in
      let move = value_move d v lo I F (λ n i. few n (inl i)) l r s local j in
      let chosen : Chosen d.parameters own c own I F = subst (λ qs. Chosen qs (own_types places qs) c (own_types places qs) I F) (sym parameters) (twice.own_chosen N places ps c F0 G over wide one_label K D low apart I F ground le) in
      let typed : ss.typed own K (image I (two a m)) = move own c own I F good (omega arith) (extends_self F I) chosen a m left.1.0 half.3 in
      let all : Generalised places ss K (image I (two a m)) = twice.generalised_joins N places ps c F0 G over wide one_label K D low apart I F good d.parameters (1 + lo) (pattern_numbers d.pattern + numbers v) ss.free ls.typed rs.typed ss.typed
      (let_depends N places (λ n. n < 1 + lo) d v lo s (up_to N places lo (1 + lo) s (omega arith) local)) move a m typed left.1.1
      (λ y suits. let vb : Variant rs y K b = right.1.1 y suits in record { other = vb.other; outside = λ n out. vb.outside n out ∙ half.1 n (inl out); kept = λ n p q f. vb.kept n p q f ∙ half.1 n (inr f); typed = vb.typed }) in (
        (
          subst (λ f. Let_typed N places f named ss K (image I (two a m))) (sym function) (left.0, all),
          side rs I F good (with_let N places d lo l ls) (with_let N places d lo r rs) (with_let N places d lo s ss)
              (twice.let_names N places ps c F0 G over wide one_label K D low apart d v lo I F l r s (λ n p q. twice.let_used N places ps c F0 G over wide one_label K D low apart d v lo I F l r s good local rs.typed move n) j)
              (body_local N places (Fixed rs) d v lo s here (λ n f k. inr k.1) (λ n f p q. absurd (let x : true ≡ false = sym function ∙ f in cc))) a b m half.1 e end (λ n i. few n (inr i))
              (body_local N places (λ n. n < end) d v lo s (up_to N places lo end s (omega arith) local) (λ n e k. let k1 : n < 1 + lo + (pattern_numbers d.pattern + numbers v) = k.0.1 in omega arith) (λ n e p q. omega arith))
              (late rs end (numbers e) (omega arith)) h.0.1 half.2.0.1,
        ),
        equal_at I rs a b m half.1 lo end (early_at rs lo (omega arith)) (late_at rs end (omega arith)) h.1 half.2.1,
      )

  -- ---- along the way
  mutual
    unfolding read lifted

    pub within : (t : FlatTerm) (lo : ℕ) (w : Way) → Ends_at (Function_let ps) t w → (I : Reading) (F : ℕ) → Good_for I F → Ground I → G ≤ F → ((n : ℕ) → Declares_beside t w n → D n) → (l r s : Scope) → AllLocal (λ n. n < lo) s → Joins I F l r s → (a m : Sub)
        → Typed N places t lo l K a → Half (Typed N places t lo r K) (scheme_along N places t lo r w) m → Typed N places t lo s K (image I (two a m))
    within t lo found ends I F good ground le few l r s local j a m h half =
        subst (λ t. ((n : ℕ) → Declares_beside t found n → D n) → Typed N places t lo l K a → Half (Typed N places t lo r K) (scheme_along N places t lo r found) m → Typed N places t lo s K (image I (two a m))) (sym ends.is)
        (λ few h half. let_here ends.bound ends.value ends.rest lo ends.function ends.parameters I F good ground le few l r s local j a m h half) few h half
    within (Use x at k) lo (part i w) ends I F good ground le few l r s local j a m h half = absurd ends
    within (Strict o mark ts) lo (part i w) ends I F good ground le few l r s local j a m h half =
        let b : Sub = half.0 in let to : ℕ = lo + own_numbers o in let S : Scheme = scheme_in N places ts (lo + own_numbers o) r i w in
        let q = placed_in N places ps ts (lo + own_numbers o) r i w ends in let under : lo + own_numbers o < S.first = q.low in
        let here : AllLocal (Fixed S) s = before S lo s (omega arith) local in
        let same : Agree (Fixed S) (image I (two a b)) (image I (two a m)) = lifted_same I S a b m half.1 in
        let w1 : operand o lo < lo + own_numbers o = (operand_own o lo).1 in (
          within_in ts to i w ends I F good ground le few l r s (up_to N places lo to s (omega arith) local) j a m h.0 (b, half.1, half.2.0, half.3),
          rule_same N places K o _ _ _ _ _ _ (same lo (early_at S lo (omega arith))) (same (operand o lo) (early_at S (operand o lo) (omega arith))) (heads_same ts (lo + own_numbers o) r i w ends (image I (two a b)) (image I (two a m)) same)
              (twice.operation_both N places ps c F0 G over wide one_label K D low apart o ts lo I good.suited a b h.1 half.2.1),
          written_same N places (Fixed S) K (image I (two a b)) (image I (two a m)) o s _ _ same here (same lo (early_at S lo (omega arith))) (joins.written_joins N places ps c F0 G over wide one_label K I good.suited F o l r s j a b (a lo) (b lo) h.2 half.2.2),
        )
    within (Lambda qs e) lo (part i w) ends I F good ground le few l r s local j a m h half =
        let b : Sub = half.0 in let at : ℕ = 1 + lo + all_pattern_numbers qs in let S : Scheme = scheme_along N places e (1 + lo + all_pattern_numbers qs) (with_patterns the_one qs (1 + lo) r) w in
        let q : In_term N places ps e at (with_patterns the_one qs (1 + lo) r) w = placed N places ps e at (with_patterns the_one qs (1 + lo) r) w ends in let under : at < S.first = q.low in
        let here : AllLocal (Fixed S) s = before S lo s (omega arith) local in
        let same : Agree (Fixed S) (image I (two a b)) (image I (two a m)) = lifted_same I S a b m half.1 in (
          (
            parameters_same (Fixed S) N places K (image I (two a b)) (image I (two a m)) same qs (1 + lo) s here (early S (1 + lo) (all_pattern_numbers qs) (omega arith)) (joins.parameters_join N places ps c F0 G over wide one_label K I good.suited F qs (1 + lo) l r s j a b h.0.0 half.2.0.0),
            within e at w ends I F good ground le few (with_patterns the_one qs (1 + lo) l) (with_patterns the_one qs (1 + lo) r) (with_patterns the_one qs (1 + lo) s) (local_all_ones (λ n. n < at) qs (1 + lo) s (λ n p q. q) (up_to N places lo at s (omega arith) local)) (joins.joins_all_ones N places ps c F0 G over wide one_label K I F qs (1 + lo) l r s j) a m h.0.1 (b, half.1, half.2.0.1, half.3),
          ),
          sym (same lo (early_at S lo (omega arith))) ∙ twice.function_both N places ps c F0 G over wide one_label K D low apart qs lo at I a b h.1 half.2.1
              ∙ (λ k. arrows (pattern_types_same (Fixed S) N places K (image I (two a b)) (image I (two a m)) same qs (1 + lo) (early S (1 + lo) (all_pattern_numbers qs) (omega arith)) k) (same at (early_at S at under) k)),
        )
    within (Apply g e) lo (part zero w) ends I F good ground le few l r s local j a m h half =
        let b : Sub = half.0 in let at : ℕ = 1 + lo + numbers g in let S : Scheme = scheme_along N places g (1 + lo) r w in
        let q : In_term N places ps g (1 + lo) r w = placed N places ps g (1 + lo) r w ends in let under : 1 + lo < S.first = q.low in let up : S.first + S.many ≤ at = q.high in
        let here : AllLocal (Fixed S) s = before S lo s (omega arith) local in
        apply_node S I F good l r s j here a b m half.1 g e lo under (late_at S at up) h half.2
        (within g (1 + lo) w ends I F good ground le (λ n i. few n (inl i)) l r s (up_to N places lo (1 + lo) s (omega arith) local) j a m h.0.0 (b, half.1, half.2.0.0, half.3))
        (side S I F good l r s j here a b m half.1 e at (λ n i. few n (inr i)) (up_to N places lo at s (omega arith) local) (late S at (numbers e) up) h.0.1 half.2.0.1)
    within (Apply g e) lo (part (suc i) w) ends I F good ground le few l r s local j a m h half =
        let b : Sub = half.0 in let at : ℕ = 1 + lo + numbers g in let S : Scheme = scheme_along N places e (1 + lo + numbers g) r w in
        let q : In_term N places ps e at r w = placed N places ps e at r w ends in let under : at < S.first = q.low in
        let here : AllLocal (Fixed S) s = before S lo s (omega arith) local in
        apply_node S I F good l r s j here a b m half.1 g e lo (omega arith) (early_at S at under) h half.2
        (side S I F good l r s j here a b m half.1 g (1 + lo) (λ n i. few n (inl i)) (up_to N places lo (1 + lo) s (omega arith) local) (early S (1 + lo) (numbers g) (omega arith)) h.0.0 half.2.0.0)
        (within e at w ends I F good ground le (λ n i. few n (inr i)) l r s (up_to N places lo at s (omega arith) local) j a m h.0.1 (b, half.1, half.2.0.1, half.3))
    within (Let d v e) lo (part zero w) ends I F good ground le few l r s local j a m h half =
        let b : Sub = half.0 in let at : ℕ = 1 + lo + pattern_numbers d.pattern in let own : Sub = own_types places d.parameters in
        let S : Scheme = inner d.parameters d.pattern v (1 + lo) (with_sizes d.sizes r) r w ends own in
        let q : In_term N places ps v at (with_parameters d.parameters own r) w = placed N places ps v at (with_parameters d.parameters own r) w ends in let under : at < S.first = q.low in let up : S.first + S.many ≤ at + numbers v = q.high in
        let here : AllLocal (Fixed S) s = before S lo s (omega arith) local in
        let move : (x y z : Sub) (J : Reading) (H : ℕ) → Good_for J H → F ≤ H → Extends F I J → Chosen d.parameters x y z J H → (a m : Sub) → (twice.let_of N places ps c F0 G over wide one_label K D low apart d v lo I F l r s l).typed x K a → half_typed d.parameters d.pattern v (1 + lo) (with_sizes d.sizes r) r w ends y K m → (twice.let_of N places ps c F0 G over wide one_label K D low apart d v lo I F l r s s).typed z K (image J (two a m)) =
        λ x y z J H goodJ more ext chosen a m t t'.
        let further : Joins J H l r s = joins.joins_more N places ps c F0 G over wide one_label K I J F H l r s more ext j in
        half_bound d.parameters d.pattern v (1 + lo) (with_sizes d.sizes r) r w ends J H goodJ (with_sizes d.sizes l) (with_sizes d.sizes s) (joins.joins_sizes N places ps c F0 G over wide one_label K J H d.sizes l r s further)
        (local_sizes (λ n. n < 1 + lo) d.sizes s (up_to N places lo (1 + lo) s (omega arith) local)) y a m (Typed N places v at (with_parameters d.parameters z s) K (image J (two a m)))
        (within v at w ends J H goodJ (extends_more G F (plain (λ n. Var n)) I J le ground ext) (omega arith) (λ n i. few n (inr (inl i))) (with_parameters d.parameters x l) (with_parameters d.parameters y r) (with_parameters d.parameters z s) (local_parameters (λ n. n < at) d.parameters z s (up_to N places lo at s (omega arith) local))
        (joins.joins_parameters N places ps c F0 G over wide one_label K J H d.parameters x y z l r s chosen further) a m t.0.1 (t'.0, t'.1, t'.2.0.1, t'.3)) t.0.0 t.1 t' in
        let used = twice.let_used N places ps c F0 G over wide one_label K D low apart d v lo I F l r s good local (half_typed d.parameters d.pattern v (1 + lo) (with_sizes d.sizes r) r w ends) move in (
          (
            twice.let_pair N places ps c F0 G over wide one_label K D low apart d v lo I F l r s good local (half_typed d.parameters d.pattern v (1 + lo) (with_sizes d.sizes r) r w ends) move (λ n i. few n (inl i)) a m h.0.0
                (half_let d.parameters d.pattern v (1 + lo) (with_sizes d.sizes r) r w ends d.is_function (Function_name d.sizes d.pattern) b m (λ t. (b, half.1, t, half.3)) (λ y vb. half_variant d.parameters d.pattern v (1 + lo) (with_sizes d.sizes r) r w ends own y b m half.1 vb) half.2.0.0),
            side S I F good (with_let N places d lo l (twice.let_of N places ps c F0 G over wide one_label K D low apart d v lo I F l r s l)) (with_let N places d lo r (twice.let_of N places ps c F0 G over wide one_label K D low apart d v lo I F l r s r)) (with_let N places d lo s (twice.let_of N places ps c F0 G over wide one_label K D low apart d v lo I F l r s s))
                (twice.let_names N places ps c F0 G over wide one_label K D low apart d v lo I F l r s (λ n p q J su ext x y t t' u u'. used n J su ext x y t t' u (half_used d.parameters d.pattern v (1 + lo) (with_sizes d.sizes r) r w ends n p q y t' u')) j)
                (body_local N places (Fixed S) d v lo s here (λ n f k. around_fixed d.parameters d.pattern v (1 + lo) (with_sizes d.sizes r) r w ends own n (inr k.1)) (λ n f p q. early_at S n (omega arith))) a b m half.1 e (at + numbers v) (λ n i. few n (inr (inr i)))
                (body_local N places (λ n. n < at + numbers v) d v lo s (up_to N places lo (at + numbers v) s (omega arith) local) (λ n e k. let k1 : n < 1 + lo + (pattern_numbers d.pattern + numbers v) = k.0.1 in omega arith) (λ n e p q. omega arith))
                (late S (at + numbers v) (numbers e) up) h.0.1 half.2.0.1,
          ),
          equal_at I S a b m half.1 lo (at + numbers v) (early_at S lo (omega arith)) (late_at S (at + numbers v) up) h.1 half.2.1,
        )
    within (Let d v e) lo (part (suc i) w) ends I F good ground le few l r s local j a m h half =
        let b : Sub = half.0 in let at : ℕ = 1 + lo + pattern_numbers d.pattern in
        let ls : Scheme = let_scheme N places d v lo l (Typed N places v (1 + lo + pattern_numbers d.pattern)) in
        let rs : Scheme = let_scheme N places d v lo r (Typed N places v (1 + lo + pattern_numbers d.pattern)) in
        let ss : Scheme = let_scheme N places d v lo s (Typed N places v (1 + lo + pattern_numbers d.pattern)) in
        let S : Scheme = scheme_along N places e (1 + lo + pattern_numbers d.pattern + numbers v) (with_let N places d lo r (let_scheme N places d v lo r (Typed N places v (1 + lo + pattern_numbers d.pattern)))) w in
        let q : In_term N places ps e (at + numbers v) (with_let N places d lo r rs) w = placed N places ps e (at + numbers v) (with_let N places d lo r rs) w ends in let under : at + numbers v < S.first = q.low in
        let here : AllLocal (Fixed S) s = before S lo s (omega arith) local in
        let same : Agree (Fixed S) (image I (two a b)) (image I (two a m)) = lifted_same I S a b m half.1 in
        let move = value_move d v lo I F (λ n i. few n (inr (inl i))) l r s local j in (
          (
            let_same N places (Fixed S) d.is_function (Function_name d.sizes d.pattern) ss K (image I (two a b)) (image I (two a m)) (let_depends N places (Fixed S) d v lo s here) (λ n i. let i1 : n < 1 + lo + (pattern_numbers d.pattern + numbers v) = i.1 in early_at S n (omega arith)) same
                (twice.let_pair N places ps c F0 G over wide one_label K D low apart d v lo I F l r s good local rs.typed move (λ n i. few n (inl i)) a b h.0.0 half.2.0.0),
            within e (at + numbers v) w ends I F good ground le (λ n i. few n (inr (inr i))) (with_let N places d lo l ls) (with_let N places d lo r rs) (with_let N places d lo s ss)
                (body_local N places (λ n. n < at + numbers v) d v lo s (up_to N places lo (at + numbers v) s (omega arith) local) (λ n e k. let k1 : n < 1 + lo + (pattern_numbers d.pattern + numbers v) = k.0.1 in omega arith) (λ n e p q. omega arith))
                (twice.let_names N places ps c F0 G over wide one_label K D low apart d v lo I F l r s (λ n p q. twice.let_used N places ps c F0 G over wide one_label K D low apart d v lo I F l r s good local rs.typed move n) j) a m h.0.1 (b, half.1, half.2.0.1, half.3),
          ),
          equal_at I S a b m half.1 lo (at + numbers v) (early_at S lo (omega arith)) (early_at S (at + numbers v) under) h.1 half.2.1,
        )
    within (If x t e) lo (part zero w) ends I F good ground le few l r s local j a m h half =
        let b : Sub = half.0 in let at : ℕ = 1 + lo + numbers x in let end : ℕ = at + numbers t in let S : Scheme = scheme_along N places x (1 + lo) r w in
        let q : In_term N places ps x (1 + lo) r w = placed N places ps x (1 + lo) r w ends in let under : 1 + lo < S.first = q.low in let up : S.first + S.many ≤ at = q.high in
        let here : AllLocal (Fixed S) s = before S lo s (omega arith) local in
        if_node S I F good l r s j here a b m half.1 x t e lo under (late_at S at up) (late_at S end (omega arith)) h half.2
        (within x (1 + lo) w ends I F good ground le (λ n i. few n (inl i)) l r s (up_to N places lo (1 + lo) s (omega arith) local) j a m h.0.0.0 (b, half.1, half.2.0.0.0, half.3))
        (side S I F good l r s j here a b m half.1 t at (λ n i. few n (inr (inl i))) (up_to N places lo at s (omega arith) local) (late S at (numbers t) up) h.0.0.1 half.2.0.0.1)
        (side S I F good l r s j here a b m half.1 e end (λ n i. few n (inr (inr i))) (up_to N places lo end s (omega arith) local) (late S end (numbers e) (omega arith)) h.0.1 half.2.0.1)
    within (If x t e) lo (part (suc zero) w) ends I F good ground le few l r s local j a m h half =
        let b : Sub = half.0 in let at : ℕ = 1 + lo + numbers x in let end : ℕ = at + numbers t in let S : Scheme = scheme_along N places t (1 + lo + numbers x) r w in
        let q : In_term N places ps t at r w = placed N places ps t at r w ends in let under : at < S.first = q.low in let up : S.first + S.many ≤ end = q.high in
        let here : AllLocal (Fixed S) s = before S lo s (omega arith) local in
        if_node S I F good l r s j here a b m half.1 x t e lo (omega arith) (early_at S at under) (late_at S end up) h half.2
        (side S I F good l r s j here a b m half.1 x (1 + lo) (λ n i. few n (inl i)) (up_to N places lo (1 + lo) s (omega arith) local) (early S (1 + lo) (numbers x) (omega arith)) h.0.0.0 half.2.0.0.0)
        (within t at w ends I F good ground le (λ n i. few n (inr (inl i))) l r s (up_to N places lo at s (omega arith) local) j a m h.0.0.1 (b, half.1, half.2.0.0.1, half.3))
        (side S I F good l r s j here a b m half.1 e end (λ n i. few n (inr (inr i))) (up_to N places lo end s (omega arith) local) (late S end (numbers e) up) h.0.1 half.2.0.1)
    within (If x t e) lo (part (suc (suc i)) w) ends I F good ground le few l r s local j a m h half =
        let b : Sub = half.0 in let at : ℕ = 1 + lo + numbers x in let end : ℕ = at + numbers t in let S : Scheme = scheme_along N places e (1 + lo + numbers x + numbers t) r w in
        let q : In_term N places ps e end r w = placed N places ps e end r w ends in let under : end < S.first = q.low in
        let here : AllLocal (Fixed S) s = before S lo s (omega arith) local in
        if_node S I F good l r s j here a b m half.1 x t e lo (omega arith) (early_at S at (omega arith)) (early_at S end under) h half.2
        (side S I F good l r s j here a b m half.1 x (1 + lo) (λ n i. few n (inl i)) (up_to N places lo (1 + lo) s (omega arith) local) (early S (1 + lo) (numbers x) (omega arith)) h.0.0.0 half.2.0.0.0)
        (side S I F good l r s j here a b m half.1 t at (λ n i. few n (inr (inl i))) (up_to N places lo at s (omega arith) local) (early S at (numbers t) (omega arith)) h.0.0.1 half.2.0.0.1)
        (within e end w ends I F good ground le (λ n i. few n (inr (inr i))) l r s (up_to N places lo end s (omega arith) local) j a m h.0.1 (b, half.1, half.2.0.1, half.3))
    within (Loop mark sizes p first turns body) lo (part zero w) ends I F good ground le few l r s local j a m h half =
        let b : Sub = half.0 in let at_first : ℕ = 1 + lo + pattern_numbers p in let at_turns : ℕ = at_first + numbers first in let at_body : ℕ = at_turns + turn_numbers turns in
        let li : Scope = inside sizes p lo l in let ri : Scope = inside sizes p lo r in let si : Scope = inside sizes p lo s in
        let S : Scheme = scheme_along N places first (1 + lo + pattern_numbers p) r w in
        let q : In_term N places ps first at_first r w = placed N places ps first at_first r w ends in let under : at_first < S.first = q.low in let up : S.first + S.many ≤ at_turns = q.high in
        let here : AllLocal (Fixed S) s = before S lo s (omega arith) local in
        let there : AllLocal (Fixed S) si = carried_local N places mark sizes p first turns body lo s local (Fixed S) (λ n lt. early_at S n (omega arith)) in
        let carried : Joins I F li ri si = joins_inside I F sizes p lo l r s j in
        let turned : Joins I F (with_turns turns at_turns li) (with_turns turns at_turns ri) (with_turns turns at_turns si) = joins.joins_turns N places ps c F0 G over wide one_label K I F turns at_turns li ri si carried in
        loop_node S I F good l r s j here a b m half.1 mark sizes p first turns body lo under (late_at S at_body (omega arith)) h half.2
        (within first at_first w ends I F good ground le (λ n i. few n (inl i)) l r s (up_to N places lo at_first s (omega arith) local) j a m h.0.0.0.0.1 (b, half.1, half.2.0.0.0.0.1, half.3))
        (side_turns S I F good l r s j here a b m half.1 turns at_turns li ri si (λ n i. few n (inr (inl i))) (up_to N places lo at_turns s (omega arith) local) (carried_local N places mark sizes p first turns body lo s local (λ n. n < at_turns) (λ n lt. omega arith)) there carried (late S at_turns (turn_numbers turns) up) h.0.0.1 half.2.0.0.1)
        (side S I F good (with_turns turns at_turns li) (with_turns turns at_turns ri) (with_turns turns at_turns si) turned (local_turns (Fixed S) turns at_turns si (late S at_turns (turn_numbers turns) up) there) a b m half.1 body at_body (λ n i. few n (inr (inr i))) (turned_local N places mark sizes p first turns body lo s local (λ n. n < at_body) (λ n lt. lt)) (late S at_body (numbers body) (omega arith)) h.0.1 half.2.0.1)
    within (Loop mark sizes p first turns body) lo (part (suc zero) w) ends I F good ground le few l r s local j a m h half =
        let b : Sub = half.0 in let at_first : ℕ = 1 + lo + pattern_numbers p in let at_turns : ℕ = at_first + numbers first in let at_body : ℕ = at_turns + turn_numbers turns in
        let li : Scope = inside sizes p lo l in let ri : Scope = inside sizes p lo r in let si : Scope = inside sizes p lo s in
        let S : Scheme = scheme_turns N places turns (1 + lo + pattern_numbers p + numbers first) r (inside sizes p lo r) w in
        let q = placed_turns N places ps turns (1 + lo + pattern_numbers p + numbers first) r (inside sizes p lo r) w ends in let under : at_turns < S.first = q.low in let up : S.first + S.many ≤ at_body = q.high in
        let here : AllLocal (Fixed S) s = before S lo s (omega arith) local in
        let there : AllLocal (Fixed S) si = carried_local N places mark sizes p first turns body lo s local (Fixed S) (λ n lt. early_at S n (omega arith)) in
        let carried : Joins I F li ri si = joins_inside I F sizes p lo l r s j in
        let turned : Joins I F (with_turns turns at_turns li) (with_turns turns at_turns ri) (with_turns turns at_turns si) = joins.joins_turns N places ps c F0 G over wide one_label K I F turns at_turns li ri si carried in
        loop_node S I F good l r s j here a b m half.1 mark sizes p first turns body lo (omega arith) (late_at S at_body up) h half.2
        (side S I F good l r s j here a b m half.1 first at_first (λ n i. few n (inl i)) (up_to N places lo at_first s (omega arith) local) (early S at_first (numbers first) (omega arith)) h.0.0.0.0.1 half.2.0.0.0.0.1)
        (within_turns turns at_turns w ends I F good ground le (λ n i. few n (inr (inl i))) l r s li ri si (up_to N places lo at_turns s (omega arith) local) (carried_local N places mark sizes p first turns body lo s local (λ n. n < at_turns) (λ n lt. omega arith)) j carried a m h.0.0.1 (b, half.1, half.2.0.0.1, half.3))
        (side S I F good (with_turns turns at_turns li) (with_turns turns at_turns ri) (with_turns turns at_turns si) turned (turn_names turns (1 + lo + pattern_numbers p + numbers first) r (inside sizes p lo r) w ends si there) a b m half.1 body at_body (λ n i. few n (inr (inr i))) (turned_local N places mark sizes p first turns body lo s local (λ n. n < at_body) (λ n lt. lt)) (late S at_body (numbers body) up) h.0.1 half.2.0.1)
    within (Loop mark sizes p first turns body) lo (part (suc (suc i)) w) ends I F good ground le few l r s local j a m h half =
        let b : Sub = half.0 in let at_first : ℕ = 1 + lo + pattern_numbers p in let at_turns : ℕ = at_first + numbers first in let at_body : ℕ = at_turns + turn_numbers turns in
        let li : Scope = inside sizes p lo l in let ri : Scope = inside sizes p lo r in let si : Scope = inside sizes p lo s in
        let S : Scheme = scheme_along N places body (1 + lo + pattern_numbers p + numbers first + turn_numbers turns) (with_turns turns (1 + lo + pattern_numbers p + numbers first) (inside sizes p lo r)) w in
        let q : In_term N places ps body at_body (with_turns turns at_turns ri) w = placed N places ps body at_body (with_turns turns at_turns ri) w ends in let under : at_body < S.first = q.low in
        let here : AllLocal (Fixed S) s = before S lo s (omega arith) local in
        let there : AllLocal (Fixed S) si = carried_local N places mark sizes p first turns body lo s local (Fixed S) (λ n lt. early_at S n (omega arith)) in
        let carried : Joins I F li ri si = joins_inside I F sizes p lo l r s j in
        let turned : Joins I F (with_turns turns at_turns li) (with_turns turns at_turns ri) (with_turns turns at_turns si) = joins.joins_turns N places ps c F0 G over wide one_label K I F turns at_turns li ri si carried in
        loop_node S I F good l r s j here a b m half.1 mark sizes p first turns body lo (omega arith) (early_at S at_body under) h half.2
        (side S I F good l r s j here a b m half.1 first at_first (λ n i. few n (inl i)) (up_to N places lo at_first s (omega arith) local) (early S at_first (numbers first) (omega arith)) h.0.0.0.0.1 half.2.0.0.0.0.1)
        (side_turns S I F good l r s j here a b m half.1 turns at_turns li ri si (λ n i. few n (inr (inl i))) (up_to N places lo at_turns s (omega arith) local) (carried_local N places mark sizes p first turns body lo s local (λ n. n < at_turns) (λ n lt. omega arith)) there carried (early S at_turns (turn_numbers turns) (omega arith)) h.0.0.1 half.2.0.0.1)
        (within body at_body w ends I F good ground le (λ n i. few n (inr (inr i))) (with_turns turns at_turns li) (with_turns turns at_turns ri) (with_turns turns at_turns si) (turned_local N places mark sizes p first turns body lo s local (λ n. n < at_body) (λ n lt. lt)) turned a m h.0.1 (b, half.1, half.2.0.1, half.3))

    within_in : (ts : Terms Ref BindId) (lo : ℕ) (i : ℕ) (w : Way) → Ends_in (Function_let ps) ts i w → (I : Reading) (F : ℕ) → Good_for I F → Ground I → G ≤ F → ((n : ℕ) → Some_beside ts i w n → D n) → (l r s : Scope) → AllLocal (λ n. n < lo) s → Joins I F l r s → (a m : Sub)
        → All_typed N places ts lo l K a → Half (All_typed N places ts lo r K) (scheme_in N places ts lo r i w) m → All_typed N places ts lo s K (image I (two a m))
    within_in no_term lo i w ends I F good ground le few l r s local j a m h half = absurd ends
    within_in (term_and t ts) lo zero w ends I F good ground le few l r s local j a m h half =
        let b : Sub = half.0 in let at : ℕ = lo + numbers t in let S : Scheme = scheme_along N places t lo r w in
        let q : In_term N places ps t lo r w = placed N places ps t lo r w ends in let under : lo < S.first = q.low in let up : S.first + S.many ≤ at = q.high in (
          within t lo w ends I F good ground le (λ n i. few n (inl i)) l r s local j a m h.0 (b, half.1, half.2.0, half.3),
          side_all S I F good l r s j (before S lo s (omega arith) local) a b m half.1 ts at (λ n i. few n (inr i)) (up_to N places lo at s (omega arith) local) (late S at (all_numbers ts) up) h.1 half.2.1,
        )
    within_in (term_and t ts) lo (suc i) w ends I F good ground le few l r s local j a m h half =
        let b : Sub = half.0 in let at : ℕ = lo + numbers t in let S : Scheme = scheme_in N places ts (lo + numbers t) r i w in
        let q = placed_in N places ps ts (lo + numbers t) r i w ends in let under : at < S.first = q.low in (
          side S I F good l r s j (before S lo s (omega arith) local) a b m half.1 t lo (λ n i. few n (inl i)) local (early S lo (numbers t) (omega arith)) h.0 half.2.0,
          within_in ts at i w ends I F good ground le (λ n i. few n (inr i)) l r s (up_to N places lo at s (omega arith) local) j a m h.1 (b, half.1, half.2.1, half.3),
        )

    within_turns : (t : FlatTurns) (lo : ℕ) (w : Way) → Ends_in_turns (Function_let ps) t w → (I : Reading) (F : ℕ) → Good_for I F → Ground I → G ≤ F → ((n : ℕ) → Turns_beside t w n → D n) → (l r s li ri si : Scope) → AllLocal (λ n. n < lo) s → AllLocal (λ n. n < lo) si → Joins I F l r s → Joins I F li ri si → (a m : Sub)
        → Turns_typed N places t lo l li K a → Half (Turns_typed N places t lo r ri K) (scheme_turns N places t lo r ri w) m → Turns_typed N places t lo s si K (image I (two a m))
    within_turns (Counted i n) lo w ends I F good ground le few l r s li ri si local locali j ji a m h half =
        let b : Sub = half.0 in let S : Scheme = scheme_along N places n (1 + lo) r w in
        let q : In_term N places ps n (1 + lo) r w = placed N places ps n (1 + lo) r w ends in let under : 1 + lo < S.first = q.low in
        let same : Agree (Fixed S) (image I (two a b)) (image I (two a m)) = lifted_same I S a b m half.1 in (
          within n (1 + lo) w ends I F good ground le few l r s (up_to N places lo (1 + lo) s (omega arith) local) j a m h.0 (b, half.1, half.2.0, half.3),
          equal_at I S a b m half.1 lo (1 + lo) (early_at S lo (omega arith)) (early_at S (1 + lo) under) h.1 half.2.1,
          subst (HasKind K kind.Integer) (same lo (early_at S lo (omega arith))) (kind_both I F good kind.Integer (a lo) (b lo) h.2 half.2.2),
        )
    within_turns (Over p e) lo w ends I F good ground le few l r s li ri si local locali j ji a m h half =
        let b : Sub = half.0 in let at : ℕ = lo + pattern_numbers p in let S : Scheme = scheme_along N places e (lo + pattern_numbers p) r w in
        let q : In_term N places ps e at r w = placed N places ps e at r w ends in let under : at < S.first = q.low in let some : 0 < pattern_numbers p = pattern_some p in
        let same : Agree (Fixed S) (image I (two a b)) (image I (two a m)) = lifted_same I S a b m half.1 in (
          (
            pattern_same (Fixed S) N places K (image I (two a b)) (image I (two a m)) same p lo si (before S lo si (omega arith) locali) (early S lo (pattern_numbers p) (omega arith)) (joins.pattern_joins N places ps c F0 G over wide one_label K I good.suited F p lo li ri si ji a b h.0.0 half.2.0.0),
            within e at w ends I F good ground le few l r s (up_to N places lo at s (omega arith) local) j a m h.0.1 (b, half.1, half.2.0.1, half.3),
          ),
          subst (λ t. IsArray places K (read I (lift (a at) (m at))) t) (same lo (early_at S lo (omega arith))) (subst (λ t. IsArray places K t (read I (lift (a lo) (b lo)))) (same at (early_at S at under))
              (read_array N places K K I good.suited (lift (a at) (b at)) (lift (a lo) (b lo)) (pairs.lift_array N places ps c F0 G over wide K (a at) (a lo) (b at) (b lo) h.1 half.2.1))),
        )
    within_turns (While t) lo w ends I F good ground le few l r s li ri si local locali j ji a m h half =
        let b : Sub = half.0 in let S : Scheme = scheme_along N places t lo ri w in
        let q : In_term N places ps t lo ri w = placed N places ps t lo ri w ends in let under : lo < S.first = q.low in
        let same : Agree (Fixed S) (image I (two a b)) (image I (two a m)) = lifted_same I S a b m half.1 in
        (within t lo w ends I F good ground le few li ri si locali ji a m h.0 (b, half.1, half.2.0, half.3), sym (same lo (early_at S lo under)) ∙ equal I _ _ _ _ h.1 half.2.1)
