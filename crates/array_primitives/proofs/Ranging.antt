-- Ranges of integers.
use Rattle.std.proofs.Common.{◌≡◌, ℕ, zero, suc, ◌+◌, ◌<◌, ◌≤◌, ◌^◌, List, [], ◌∷◌, ◌++◌, map, length, get_or, Some, None, Option, Ok, Err, Result, Bool, true, false, refl, sym, ap, ◌∙◌, subst, arith, add-one}
use Rattle.std.specs.Prelude.{◌%◌, ◌/◌, ◌-◌, IfSome, ◌&&◌, ◌||◌, cond, nat_le, ℤ, pos, negsuc, ◌+ℤ◌, ◌-ℤ◌, neg_ℤ, int_lt, int_le, unsigned_abs}
use Rattle.std.proofs.Math.Nat.{mod-eq_of_lt, div-eq_of_lt, add-div_right}
use Rattle.std.proofs.lemmas.Bool.{le-leb, lt-leb, leb-false}
use Rattle.std.proofs.lemmas.Int.{ints}
use Rattle.fut_scalar.specs.Integers.{FitsType, integer_of, reduced, width_of}
use Rattle.fut_scalar.specs.declared.place.Place.{Place}
use Rattle.fut_scalar.specs.declared.report.FailKind.TheVariants as kind
use Rattle.fut_scalar.specs.declared.scalar.IntType.{IntType}
use Rattle.fut_scalar.specs.declared.scalar.IntType.TheVariants.{I8, I16, I32, I64, U8, U16, U32, U64}
use Rattle.fut_scalar.specs.declared.scalar.Scalar.{Scalar}
use Rattle.fut_scalar.specs.declared.scalar.Scalar.TheVariants as scalar
use Rattle.fut_scalar.specs.declared.scalar.ScalarType.TheVariants as sort
use Rattle.fut_arithmetic.specs.Types.{IsOf}
use Rattle.fut_arithmetic.specs.Words.{lowest, order_of, scalar_of_order, scalar_of_word, word_of}
use Rattle.fut_ast.specs.declared.node.End.{End}
use Rattle.fut_ast.specs.declared.node.End.TheVariants as end
use Rattle.fut_value.specs.Data.{Datum, Scalar_datum, Array_datum, Scalar_shape, datums}
use Rattle.fut_meaning.specs.Arrays.{checked, range, range_by, range_of, range_count, stepped_from, unit_step, most_words}
use Rattle.fut_meaning.specs.Outcomes.{Val}
use Rattle.array_data.specs.declared.data.Data.{Data}
use Rattle.array_data.specs.declared.data.Data.TheVariants as hold
use Rattle.array_primitives.specs.declared.ranges.Integer.{Integer}
use Rattle.array_primitives.specs.declared.ranges.Stride.{Stride}
use Rattle.array_primitives.specs.declared.ranges.Stride.TheVariants as stride
use Rattle.array_primitives.specs.declared.ranges.Way.{Way}
use Rattle.array_data.specs.declared.stop.Stop.{Stop}
use Rattle.array_data.specs.declared.stop.Stop.TheVariants.{Failed, Memory}
use Rattle.array_primitives.specs.Ranges.{over_lowest, step_held, Integer_is, integer_is, no_memory_integer, many, Spans, spans, no_step, not_up, Leads, leads, leads_away, Long_is, long_is, too_long, no_way}
use Rattle.array_data.specs.Answers.{Tells, told, report_told, no_memory_told}
use Rattle.array_data.specs.Held.{as_held, fitted, held, held_all, scalars}
use Rattle.array_data.proofs.Forms.{map_push}
use Rattle.array_data.proofs.Holding.{held_scalar, held_words}

-- ---- integers in the order of their type

back : (z l : ℤ) → (z -ℤ l) +ℤ l ≡ z
back z l = omega (arith, ints)

ordered : (t : IntType) (n : ℕ) → n < 2 ^ width_of t → integer_of t n ≡ over_lowest t (order_of (scalar.Int t n))
ordered t n h = sym (ap (λ z. z +ℤ lowest t) (above t n h) ∙ back (integer_of t n) (lowest t))
  where
    above : (t : IntType) (m : ℕ) → m < 2 ^ width_of t → pos (unsigned_abs (integer_of t m -ℤ lowest t)) ≡ integer_of t m -ℤ lowest t
    above I8 m h = omega (arith, ints)
    above I16 m h = omega (arith, ints)
    above I32 m h = omega (arith, ints)
    above I64 m h = omega (arith, ints)
    above U8 m h = omega (arith, ints)
    above U16 m h = omega (arith, ints)
    above U32 m h = omega (arith, ints)
    above U64 m h = omega (arith, ints)

pub integer_read : (d : Data) (s r : Scalar) (t : IntType) (n o : ℕ) → d ≡ hold.Scalar s → r ≡ fitted s → r ≡ scalar.Int t n → n < 2 ^ width_of t → o ≡ order_of (scalar.Int t n) → Integer_is (held d) (Ok (record { ty = t; above = o }))
integer_read d s r t n o p q x l e = integer_is n (ap held p ∙ held_scalar s ∙ ap Scalar_datum (sym q ∙ x)) (ordered t n l ∙ ap (over_lowest t) (sym e))

pub ruleset integers = (integer_read, no_memory_integer)

-- ---- steps

pub step_up : (s : Stride) (n : ℕ) → s ≡ stride.Up n → step_held s ≡ pos n
unfolding step_held
step_up s n e = ap step_held e

pub step_down : (s : Stride) (n : ℕ) → s ≡ stride.Down n → step_held s ≡ neg_ℤ (pos n)
unfolding step_held
step_down s n e = ap step_held e

pub up_between : (s : Stride) (a b n : ℕ) → a ≤ b → n + a ≡ b → s ≡ stride.Up n → step_held s ≡ pos b -ℤ pos a
up_between s a b n l e q = step_up s n q ∙ (let k : pos n ≡ pos b -ℤ pos a = omega (arith, ints) in k)

pub down_between : (s : Stride) (a b n : ℕ) → b < a → n + b ≡ a → s ≡ stride.Down n → step_held s ≡ pos b -ℤ pos a
down_between s a b n l e q = step_down s n q ∙ (let k : neg_ℤ (pos n) ≡ pos b -ℤ pos a = omega (arith, ints) in k)

pub unit_down : (s : Stride) (e : End) → e ≡ end.Above → s ≡ stride.Down 1 → step_held s ≡ unit_step e
unit_down s e p q = step_down s 1 q ∙ sym (ap unit_step p)

pub unit_below : (s : Stride) (e : End) → e ≡ end.Below → s ≡ stride.Up 1 → step_held s ≡ unit_step e
unit_below s e p q = step_up s 1 q ∙ sym (ap unit_step p)

pub unit_through : (s : Stride) (e : End) → e ≡ end.Through → s ≡ stride.Up 1 → step_held s ≡ unit_step e
unit_through s e p q = step_up s 1 q ∙ sym (ap unit_step p)

pub after_up : (s : Stride) (n a : ℕ) → s ≡ stride.Up n → pos (a + n) ≡ pos a +ℤ step_held s
after_up s n a e = (let k : pos (a + n) ≡ pos a +ℤ pos n = omega (arith, ints) in k) ∙ ap (λ z. pos a +ℤ z) (sym (step_up s n e))

pub after_down : (s : Stride) (n a : ℕ) → s ≡ stride.Down n → n ≤ a → pos (a - n) ≡ pos a +ℤ step_held s
after_down s n a e l = (let k : pos (a - n) ≡ pos a +ℤ neg_ℤ (pos n) = omega (arith, ints) in k) ∙ ap (λ z. pos a +ℤ z) (sym (step_down s n e))

pub ruleset strides = (up_between, down_between, unit_down, unit_below, unit_through, after_up, after_down)

-- ---- the way to the end

pub ruleset spanning = (spans, no_step, not_up)

module _ (f s t : ℤ) (step far : ℕ) (p : unsigned_abs s ≡ step) where
  up_below : int_lt (pos 0) s ≡ true → int_le f t ≡ true → unsigned_abs (t -ℤ f) ≡ far → range_count end.Below f s t ≡ Some ((far + step - 1) / step)
  up_below q l e = ap (λ b. cond (b && int_le f t) (Some ((unsigned_abs (t -ℤ f) + unsigned_abs s - 1) / unsigned_abs s)) None) q ∙ ap (λ b. cond b (Some ((unsigned_abs (t -ℤ f) + unsigned_abs s - 1) / unsigned_abs s)) None) l
      ∙ ap (λ n. Some ((n + unsigned_abs s - 1) / unsigned_abs s)) e ∙ ap (λ m. Some ((far + m - 1) / m)) p

  down_above : int_lt s (pos 0) ≡ true → int_le t f ≡ true → unsigned_abs (f -ℤ t) ≡ far → range_count end.Above f s t ≡ Some ((far + step - 1) / step)
  down_above q l e = ap (λ b. cond (b && int_le t f) (Some ((unsigned_abs (f -ℤ t) + unsigned_abs s - 1) / unsigned_abs s)) None) q ∙ ap (λ b. cond b (Some ((unsigned_abs (f -ℤ t) + unsigned_abs s - 1) / unsigned_abs s)) None) l
      ∙ ap (λ n. Some ((n + unsigned_abs s - 1) / unsigned_abs s)) e ∙ ap (λ m. Some ((far + m - 1) / m)) p

  through : ((int_lt (pos 0) s && int_le f t) || (int_lt s (pos 0) && int_le t f)) ≡ true → unsigned_abs (t -ℤ f) ≡ far → range_count end.Through f s t ≡ Some (far / step + 1)
  through q e = ap (λ b. cond b (Some (unsigned_abs (t -ℤ f) / unsigned_abs s + 1)) None) q ∙ ap (λ n. Some (n / unsigned_abs s + 1)) e ∙ ap (λ m. Some (far / m + 1)) p

  none_below : (int_lt (pos 0) s && int_le f t) ≡ false → range_count end.Below f s t ≡ None
  none_below q = ap (λ b. cond b (Some ((unsigned_abs (t -ℤ f) + unsigned_abs s - 1) / unsigned_abs s)) None) q

  none_above : (int_lt s (pos 0) && int_le t f) ≡ false → range_count end.Above f s t ≡ None
  none_above q = ap (λ b. cond b (Some ((unsigned_abs (f -ℤ t) + unsigned_abs s - 1) / unsigned_abs s)) None) q

  none_through : ((int_lt (pos 0) s && int_le f t) || (int_lt s (pos 0) && int_le t f)) ≡ false → range_count end.Through f s t ≡ None
  none_through q = ap (λ b. cond b (Some (unsigned_abs (t -ℤ f) / unsigned_abs s + 1)) None) q

and_same : (b c d e : Bool) → b ≡ d → c ≡ e → (b && c) ≡ (d && e)
and_same b c d e p q = ap (λ z. z && c) p ∙ ap (λ z. d && z) q

or_same : (b c d e : Bool) → b ≡ d → c ≡ e → (b || c) ≡ (d || e)
or_same b c d e p q = ap (λ z. z || c) p ∙ ap (λ z. d || z) q

no_and : (b : Bool) → (b && false) ≡ false
no_and true = refl
no_and false = refl

le_so : (a b : ℕ) (l : ℤ) → a ≤ b → int_le (pos a +ℤ l) (pos b +ℤ l) ≡ true
le_so a b l h = grind (arith, ints)

le_not : (a b : ℕ) (l : ℤ) → b < a → int_le (pos a +ℤ l) (pos b +ℤ l) ≡ false
le_not a b l h = grind (arith, ints)

above_zero : (n : ℕ) → 0 < n → int_lt (pos 0) (pos n) ≡ true
above_zero n h = grind (arith, ints)

not_below : (n : ℕ) → int_lt (pos n) (pos 0) ≡ false
not_below n = grind (arith, ints)

below_zero : (n : ℕ) → 0 < n → int_lt (neg_ℤ (pos n)) (pos 0) ≡ true
below_zero n h = grind (arith, ints)

not_above : (n : ℕ) → int_lt (pos 0) (neg_ℤ (pos n)) ≡ false
not_above n = grind (arith, ints)

far_up : (a b far : ℕ) (l : ℤ) → far + a ≡ b → unsigned_abs ((pos b +ℤ l) -ℤ (pos a +ℤ l)) ≡ far
far_up a b far l h = omega (arith, ints)

far_down : (a b far : ℕ) (l : ℤ) → far + b ≡ a → unsigned_abs ((pos b +ℤ l) -ℤ (pos a +ℤ l)) ≡ far
far_down a b far l h = omega (arith, ints)

size_down : (n : ℕ) → unsigned_abs (neg_ℤ (pos n)) ≡ n
size_down n = omega (arith, ints)

module _ (t : IntType) (a b n : ℕ) where
  abbrev from : ℤ
  from = over_lowest t a

  abbrev to : ℤ
  to = over_lowest t b

  up_above : Leads end.Above from (pos n) to None
  up_above = leads_away (none_above from (pos n) to n 0 refl (ap (λ z. z && int_le to from) (not_below n)))

  up_to : (r : Option Way) → Spans n a b r → Leads end.Below from (pos n) to r
  up_to _ (spans {w} p q e) = leads (omega arith) (up_below from (pos n) to w.step w.far (sym q) (above_zero n p) (le_so a b (lowest t) (omega arith)) (far_up a b w.far (lowest t) e))
  up_to _ (no_step e) = leads_away (none_below from (pos n) to n 0 refl (ap (λ z. int_lt (pos 0) (pos z) && int_le from to) e))
  up_to _ (not_up l) = leads_away (none_below from (pos n) to n 0 refl (ap (λ z. int_lt (pos 0) (pos n) && z) (le_not a b (lowest t) l) ∙ no_and (int_lt (pos 0) (pos n))))

  up_through : (r : Option Way) → Spans n a b r → Leads end.Through from (pos n) to r
  up_through _ (spans {w} p q e) = leads (omega arith) (through from (pos n) to w.step w.far (sym q) (ap (λ z. z || (int_lt (pos n) (pos 0) && int_le to from)) (and_same _ _ true true (above_zero n p) (le_so a b (lowest t) (omega arith)))) (far_up a b w.far (lowest t) e))
  up_through _ (no_step e) = leads_away (none_through from (pos n) to n 0 refl (ap (λ z. (int_lt (pos 0) (pos z) && int_le from to) || (int_lt (pos z) (pos 0) && int_le to from)) e))
  up_through _ (not_up l) = leads_away (none_through from (pos n) to n 0 refl (or_same _ _ false false (ap (λ z. int_lt (pos 0) (pos n) && z) (le_not a b (lowest t) l) ∙ no_and (int_lt (pos 0) (pos n))) (ap (λ z. z && int_le to from) (not_below n))))

  down_below : Leads end.Below from (neg_ℤ (pos n)) to None
  down_below = leads_away (none_below from (neg_ℤ (pos n)) to n 0 (size_down n) (ap (λ z. z && int_le from to) (not_above n)))

  down_to : (r : Option Way) → Spans n b a r → Leads end.Above from (neg_ℤ (pos n)) to r
  down_to _ (spans {w} p q e) = leads (omega arith) (down_above from (neg_ℤ (pos n)) to w.step w.far (size_down n ∙ sym q) (below_zero n p) (le_so b a (lowest t) (omega arith)) (far_up b a w.far (lowest t) e))
  down_to _ (no_step e) = leads_away (none_above from (neg_ℤ (pos n)) to n 0 (size_down n) (ap (λ z. int_lt (neg_ℤ (pos z)) (pos 0) && int_le to from) e))
  down_to _ (not_up l) = leads_away (none_above from (neg_ℤ (pos n)) to n 0 (size_down n) (ap (λ z. int_lt (neg_ℤ (pos n)) (pos 0) && z) (le_not b a (lowest t) l) ∙ no_and (int_lt (neg_ℤ (pos n)) (pos 0))))

  down_through : (r : Option Way) → Spans n b a r → Leads end.Through from (neg_ℤ (pos n)) to r
  down_through _ (spans {w} p q e) = leads (omega arith) (through from (neg_ℤ (pos n)) to w.step w.far (size_down n ∙ sym q)
      (or_same _ _ false true (ap (λ z. z && int_le from to) (not_above n)) (and_same _ _ true true (below_zero n p) (le_so b a (lowest t) (omega arith)))) (far_down a b w.far (lowest t) e))
  down_through _ (no_step e) = leads_away (none_through from (neg_ℤ (pos n)) to n 0 (size_down n) (ap (λ z. (int_lt (pos 0) (neg_ℤ (pos z)) && int_le from to) || (int_lt (neg_ℤ (pos z)) (pos 0) && int_le to from)) e))
  down_through _ (not_up l) = leads_away (none_through from (neg_ℤ (pos n)) to n 0 (size_down n) (or_same _ _ false false (ap (λ z. z && int_le from to) (not_above n)) (ap (λ z. int_lt (neg_ℤ (pos n)) (pos 0) && z) (le_not b a (lowest t) l) ∙ no_and (int_lt (neg_ℤ (pos n)) (pos 0)))))

module _ (e : End) (t : IntType) (a b : ℕ) (s : Stride) (n : ℕ) where
  pub way_up_above : s ≡ stride.Up n → e ≡ end.Above → Leads e (over_lowest t a) (step_held s) (over_lowest t b) None
  way_up_above p q = subst (λ e. Leads e (over_lowest t a) (step_held s) (over_lowest t b) None) (sym q) (subst (λ z. Leads end.Above (over_lowest t a) z (over_lowest t b) None) (sym (step_up s n p)) (up_above t a b n))

  pub way_up_below : (r : Option Way) → s ≡ stride.Up n → e ≡ end.Below → Spans n a b r → Leads e (over_lowest t a) (step_held s) (over_lowest t b) r
  way_up_below r p q h = subst (λ e. Leads e (over_lowest t a) (step_held s) (over_lowest t b) r) (sym q) (subst (λ z. Leads end.Below (over_lowest t a) z (over_lowest t b) r) (sym (step_up s n p)) (up_to t a b n r h))

  pub way_up_through : (r : Option Way) → s ≡ stride.Up n → e ≡ end.Through → Spans n a b r → Leads e (over_lowest t a) (step_held s) (over_lowest t b) r
  way_up_through r p q h = subst (λ e. Leads e (over_lowest t a) (step_held s) (over_lowest t b) r) (sym q) (subst (λ z. Leads end.Through (over_lowest t a) z (over_lowest t b) r) (sym (step_up s n p)) (up_through t a b n r h))

  pub way_down_below : s ≡ stride.Down n → e ≡ end.Below → Leads e (over_lowest t a) (step_held s) (over_lowest t b) None
  way_down_below p q = subst (λ e. Leads e (over_lowest t a) (step_held s) (over_lowest t b) None) (sym q) (subst (λ z. Leads end.Below (over_lowest t a) z (over_lowest t b) None) (sym (step_down s n p)) (down_below t a b n))

  pub way_down_above : (r : Option Way) → s ≡ stride.Down n → e ≡ end.Above → Spans n b a r → Leads e (over_lowest t a) (step_held s) (over_lowest t b) r
  way_down_above r p q h = subst (λ e. Leads e (over_lowest t a) (step_held s) (over_lowest t b) r) (sym q) (subst (λ z. Leads end.Above (over_lowest t a) z (over_lowest t b) r) (sym (step_down s n p)) (down_to t a b n r h))

  pub way_down_through : (r : Option Way) → s ≡ stride.Down n → e ≡ end.Through → Spans n b a r → Leads e (over_lowest t a) (step_held s) (over_lowest t b) r
  way_down_through r p q h = subst (λ e. Leads e (over_lowest t a) (step_held s) (over_lowest t b) r) (sym q) (subst (λ z. Leads end.Through (over_lowest t a) z (over_lowest t b) r) (sym (step_down s n p)) (down_through t a b n r h))

pub ruleset leading = (way_up_above, way_up_below, way_up_through, way_down_below, way_down_above, way_down_through)

-- ---- how many elements

pub none_before : (far step r : ℕ) → 0 < step → far ≡ 0 → r ≡ 0 → r ≡ (far + step - 1) / step
none_before far step r h e q = q ∙ sym (ap (λ z. (z + step - 1) / step) e ∙ div-eq_of_lt (let k : 0 + step - 1 < step = omega arith in k))

pub some_before : (far step r : ℕ) → 0 < step → (far ≡ 0 → ⊥) → r ≡ (far - 1) / step + 1 → r ≡ (far + step - 1) / step
some_before far step r h e q = q ∙ sym (add-div_right (far - 1) h) ∙ ap (λ z. z / step) (let k : far - 1 + step ≡ far + step - 1 = omega arith in k)

pub ruleset counted = (none_before, some_before)

module _ (at : Place) where
  pub few_so : (n : ℕ) (b : Bool) → b ≡ nat_le n most_words → b ≡ true → Long_is at (Some n) (Ok n)
  few_so n b p q = long_is refl (sym p ∙ q)

  pub not_few : (n : ℕ) (b : Bool) → b ≡ nat_le n most_words → b ≡ false → Long_is at (Some n) (Err (Failed (record { kind = kind.TooLarge; place = at })))
  not_few n b p q = too_long n refl (sym p ∙ q)

  pub through_many : (step far n : ℕ) (b : Bool) → n ≡ far / step → b ≡ nat_le n most_words → b ≡ false → Long_is at (Some (many end.Through step far)) (Err (Failed (record { kind = kind.TooLarge; place = at })))
  through_many step far n b e p q = too_long (far / step + 1) refl (lt-leb (far / step + 1) most_words (let k : most_words < n = leb-false n most_words (sym p ∙ q) in omega arith))

  pub through_few : (step far n : ℕ) (r : Result ℕ Stop) → n ≡ far / step → Long_is at (Some (n + 1)) r → Long_is at (Some (many end.Through step far)) r
  through_few step far n r e h = subst (λ z. Long_is at (Some (z + 1)) r) e h

  module _ (e : End) (f s t : ℤ) where
    pub no_way_so : Leads e f s t None → Long_is at (range_count e f s t) (Err (Failed (record { kind = kind.Range; place = at })))
    no_way_so (leads_away q) = no_way q

    module _ (w : Way) where
      long_so : (r : Result ℕ Stop) → Leads e f s t (Some w) → Long_is at (Some (many e w.step w.far)) r → Long_is at (range_count e f s t) r
      long_so r (leads p q) h = subst (λ z. Long_is at z r) (sym q) h

      pub long_below : (r : Result ℕ Stop) (n : ℕ) → Leads e f s t (Some w) → e ≡ end.Below → n ≡ (w.far + w.step - 1) / w.step → Long_is at (Some n) r → Long_is at (range_count e f s t) r
      long_below r n l p q h = long_so r l (subst (λ e. Long_is at (Some (many e w.step w.far)) r) (sym p) (subst (λ z. Long_is at (Some z) r) q h))

      pub long_above : (r : Result ℕ Stop) (n : ℕ) → Leads e f s t (Some w) → e ≡ end.Above → n ≡ (w.far + w.step - 1) / w.step → Long_is at (Some n) r → Long_is at (range_count e f s t) r
      long_above r n l p q h = long_so r l (subst (λ e. Long_is at (Some (many e w.step w.far)) r) (sym p) (subst (λ z. Long_is at (Some z) r) q h))

      pub long_through : (r : Result ℕ Stop) → Leads e f s t (Some w) → e ≡ end.Through → Long_is at (Some (many end.Through w.step w.far)) r → Long_is at (range_count e f s t) r
      long_through r l p h = long_so r l (subst (λ e. Long_is at (Some (many e w.step w.far)) r) (sym p) h)

pub led_by_step : (e : End) (f s t : ℤ) (w : Way) → Leads e f s t (Some w) → 0 < w.step
led_by_step e f s t w (leads p q) = p

pub ruleset lengths = (few_so, not_few, through_many, through_few, no_way_so, long_below, long_above, long_through, led_by_step)

-- ---- the elements

some_eq : {a b : ℕ} → Some a ≡ Some b → a ≡ b
some_eq {a} e = ap (λ o. from a o) e
  where
    from : ℕ → Option ℕ → ℕ
    from a None = a
    from a (Some b) = b

unfoldable pub nth : (z s : ℤ) → ℕ → ℤ
nth z s zero = z
nth z s (suc i) = nth (z +ℤ s) s i

nth_more : (z s : ℤ) (i : ℕ) → nth z s (suc i) ≡ nth z s i +ℤ s
unfolding nth
nth_more z s zero = refl
nth_more z s (suc i) = nth_more (z +ℤ s) s i

stepped_more : (t : IntType) (z s : ℤ) (i : ℕ) → stepped_from t z s (suc i) ≡ stepped_from t z s i ++ Scalar_datum (scalar.Int t (reduced t (nth z s i))) ∷ []
unfolding nth
stepped_more t z s zero = refl
stepped_more t z s (suc i) = ap (λ x. Scalar_datum (scalar.Int t (reduced t z)) ∷ x) (stepped_more t (z +ℤ s) s i)

unfoldable pub Stepped : IntType → (z s : ℤ) → ℕ → List ℕ → Option ℕ → Type 0
Stepped t z s i ws next = (scalars (sort.Int t) ws ≡ stepped_from t z s i) × ((k : ℕ) → next ≡ Some k → over_lowest t k ≡ nth z s i)

module _ (t : IntType) (s : ℤ) where
  pub stepping_start : (a : ℕ) (ws : List ℕ) (next : Option ℕ) → ws ≡ [] → next ≡ Some a → Stepped t (over_lowest t a) s 0 ws next
  unfolding Stepped scalars nth
  stepping_start a ws next e q = (ap (map (λ w. Scalar_datum (scalar_of_word (sort.Int t) w))) e, λ k p. ap (over_lowest t) (some_eq (sym p ∙ q)))

  module _ (z : ℤ) (i : ℕ) where
    pub stepping_more : (ws vs : List ℕ) (next next' : Option ℕ) (k : ℕ) (d : Scalar) (w : ℕ) → Stepped t z s i ws next → next ≡ Some k → d ≡ scalar_of_order (sort.Int t) k → IsOf (sort.Int t) d → w ≡ word_of d → vs ≡ ws ++ w ∷ [] → IfSome next' (λ n. pos n ≡ pos k +ℤ s) → Stepped t z s (i + 1) vs next'
    unfolding Stepped scalars
    stepping_more ws vs next next' k d w h p x y q v a =
        let word : w ≡ reduced t (over_lowest t k) = q ∙ ap word_of x in
        let fit : reduced t (over_lowest t k) < 2 ^ width_of t = (subst (λ d. FitsType d) x y.1) in (
          ap (map (λ w. Scalar_datum (scalar_of_word (sort.Int t) w))) v ∙ map_push (λ w. Scalar_datum (scalar_of_word (sort.Int t) w)) ws w
              ∙ ap (λ l. l ++ Scalar_datum (scalar.Int t (w % 2 ^ width_of t)) ∷ []) h.0
              ∙ ap (λ n. stepped_from t z s i ++ Scalar_datum (scalar.Int t n) ∷ []) (ap (λ n. n % 2 ^ width_of t) word ∙ mod-eq_of_lt fit ∙ ap (reduced t) (h.1 k p))
              ∙ sym (stepped_more t z s i) ∙ ap (stepped_from t z s) (sym (add-one i)),
          λ n e. one_on n (subst (λ o. IfSome o (λ n. pos n ≡ pos k +ℤ s)) e a),
        )
      where
        add_back : (m l : ℤ) → (m +ℤ s) +ℤ l ≡ (m +ℤ l) +ℤ s
        add_back m l = omega (arith, ints)

        one_on : (n : ℕ) → IfSome (Some n) (λ n. pos n ≡ pos k +ℤ s) → over_lowest t n ≡ nth z s (i + 1)
        one_on n e = ap (λ m. m +ℤ lowest t) e ∙ add_back (pos k) (lowest t) ∙ ap (λ m. m +ℤ s) (h.1 k p) ∙ sym (nth_more z s i) ∙ ap (nth z s) (sym (add-one i))

    pub stepping_end : (n : ℕ) (ws : List ℕ) (next : Option ℕ) → n ≤ i → i ≤ n → Stepped t z s i ws next → scalars (sort.Int t) ws ≡ stepped_from t z s n
    unfolding Stepped
    stepping_end n ws next l m h = let q : i ≡ n = omega arith in h.0 ∙ ap (stepped_from t z s) q

pub ruleset stepping = (stepping_start, stepping_more, stepping_end)

-- ---- ranges

module _ (at : Place) (e : End) (ty : IntType) (f s t : ℤ) where
  pub range_stops : (x : Stop) → Long_is at (range_count e f s t) (Err x) → Tells {A = Datum} (range_by at e ty f s t) (Err x)
  range_stops _ (too_long n q l) = report_told (ap (range_of at ty f s) q ∙ ap (λ b. checked b kind.TooLarge at (Val (Array_datum (Scalar_shape (sort.Int ty)) (datums (stepped_from ty f s n))))) l)
  range_stops _ (no_way q) = report_told (ap (range_of at ty f s) q)

  pub range_done : (n : ℕ) (ws vs : List ℕ) → Long_is at (range_count e f s t) (Ok n) → scalars (sort.Int ty) ws ≡ stepped_from ty f s n → vs ≡ ws → Tells (range_by at e ty f s t) (as_held (Ok (hold.Words (sort.Int ty) vs)))
  range_done n ws vs (long_is q l) h v = told (ap (range_of at ty f s) q ∙ ap (λ b. checked b kind.TooLarge at (Val (Array_datum (Scalar_shape (sort.Int ty)) (datums (stepped_from ty f s n))))) l
      ∙ ap Val (ap (λ z. Array_datum (Scalar_shape (sort.Int ty)) (datums z)) (sym h ∙ ap (scalars (sort.Int ty)) (sym v)) ∙ sym (held_words (sort.Int ty) vs)))

pub ruleset ranging = (range_stops, range_done, no_memory_told)

two_there : (ds : List Data) (x y : Data) → length ds ≡ 2 → ds ≡ get_or ds 0 x ∷ get_or ds 1 y ∷ []
two_there [] x y l = absurd (omega arith)
two_there (a ∷ []) x y l = absurd (omega arith)
two_there (a ∷ b ∷ []) x y l = refl
two_there (a ∷ b ∷ c ∷ ds) x y l = absurd (omega arith)

three_there : (ds : List Data) (x y z : Data) → length ds ≡ 3 → ds ≡ get_or ds 0 x ∷ get_or ds 1 y ∷ get_or ds 2 z ∷ []
three_there [] x y z l = absurd (omega arith)
three_there (a ∷ []) x y z l = absurd (omega arith)
three_there (a ∷ b ∷ []) x y z l = absurd (omega arith)
three_there (a ∷ b ∷ c ∷ []) x y z l = refl
three_there (a ∷ b ∷ c ∷ d ∷ ds) x y z l = absurd (omega arith)

module _ (at : Place) (b : Bool) (e : End) (ds : List Data) where
  pub range_memory : Tells {A = Datum} (range at b e (held_all ds)) (Err Memory)
  range_memory = no_memory_told

  -- an integer that cannot be read
  pub unread_integer : (d : Datum) (x : Stop) → Integer_is d (Err x) → Tells {A = Datum} (range at b e (held_all ds)) (Err x)
  unread_integer d _ no_memory_integer = no_memory_told

  module _ (x y x' : Data) (k l : Integer) (r : Result Datum Stop) where
    pub plain_range : (s : Stride) → b ≡ false → length ds ≡ 2 → Integer_is (held (get_or ds 0 x)) (Ok k) → Integer_is (held (get_or ds 1 x')) (Ok l) → k.ty ≡ l.ty → step_held s ≡ unit_step e
        → Tells (range_by at e k.ty (over_lowest k.ty k.above) (step_held s) (over_lowest k.ty l.above)) r → Tells (range at b e (held_all ds)) r
    unfolding range held_all
    plain_range s p n (integer_is m q u) (integer_is m' q' u') t g h = subst (λ o. Tells o r) (sym
        (ap (λ b. range at b e (held_all ds)) p ∙ ap (λ ds. range at false e (map held ds)) (two_there ds x x' n) ∙ ap (λ d. range at false e (d ∷ held (get_or ds 1 x') ∷ [])) q ∙ ap (λ d. range at false e (Scalar_datum (scalar.Int k.ty m) ∷ d ∷ [])) q'
        ∙ ap (λ z. range_by at e k.ty z (unit_step e) (integer_of k.ty m')) u ∙ ap (range_by at e k.ty (over_lowest k.ty k.above) (unit_step e)) (ap (λ t. integer_of t m') t ∙ u' ∙ ap (λ t. over_lowest t l.above) (sym t))
        ∙ ap (λ z. range_by at e k.ty (over_lowest k.ty k.above) z (over_lowest k.ty l.above)) (sym g))) h

    pub stepped_range : (j : Integer) (s : Stride) → b ≡ true → length ds ≡ 3 → Integer_is (held (get_or ds 0 x)) (Ok k) → Integer_is (held (get_or ds 1 y)) (Ok j) → Integer_is (held (get_or ds 2 x')) (Ok l) → k.ty ≡ j.ty → k.ty ≡ l.ty → step_held s ≡ pos j.above -ℤ pos k.above
        → Tells (range_by at e k.ty (over_lowest k.ty k.above) (step_held s) (over_lowest k.ty l.above)) r → Tells (range at b e (held_all ds)) r
    unfolding range held_all
    stepped_range j s p n (integer_is m q u) (integer_is i w v) (integer_is m' q' u') t' t g h = subst (λ o. Tells o r) (sym
        (ap (λ b. range at b e (held_all ds)) p ∙ ap (λ ds. range at true e (map held ds)) (three_there ds x y x' n) ∙ ap (λ d. range at true e (d ∷ held (get_or ds 1 y) ∷ held (get_or ds 2 x') ∷ [])) q ∙ ap (λ d. range at true e (Scalar_datum (scalar.Int k.ty m) ∷ d ∷ held (get_or ds 2 x') ∷ [])) w
        ∙ ap (λ d. range at true e (Scalar_datum (scalar.Int k.ty m) ∷ Scalar_datum (scalar.Int j.ty i) ∷ d ∷ [])) q'
        ∙ ap (λ z. range_by at e k.ty z (integer_of k.ty i -ℤ z) (integer_of k.ty m')) u ∙ ap (range_by at e k.ty (over_lowest k.ty k.above) (integer_of k.ty i -ℤ over_lowest k.ty k.above)) (ap (λ t. integer_of t m') t ∙ u' ∙ ap (λ t. over_lowest t l.above) (sym t))
        ∙ ap (λ z. range_by at e k.ty (over_lowest k.ty k.above) z (over_lowest k.ty l.above)) (ap (λ z. z -ℤ over_lowest k.ty k.above) (ap (λ t. integer_of t i) t' ∙ v ∙ ap (λ t. over_lowest t j.above) (sym t')) ∙ apart (pos j.above) (pos k.above) (lowest k.ty) ∙ sym g))) h
      where
        apart : (m n o : ℤ) → (m +ℤ o) -ℤ (n +ℤ o) ≡ m -ℤ n
        apart m n o = omega (arith, ints)

pub ruleset ranges = (range_memory, unread_integer, plain_range, stepped_range)
