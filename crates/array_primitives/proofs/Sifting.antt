-- Rows that pass a test, and those that do not.
use Rattle.std.proofs.Common.{◌≡◌, ℕ, zero, suc, ◌+◌, ◌<◌, ◌≤◌, List, [], ◌∷◌, ◌++◌, map, length, get_or, take, slice_get, Some, Ok, Err, Result, Bool, true, false, refl, sym, ap, ◌∙◌, subst, arith, add-one}
use Rattle.std.specs.Prelude.{◌%◌}
use Rattle.std.specs.Bool.{beq}
use Rattle.std.proofs.lemmas.Bool.{eq-eqb, ne_eqb}
use Rattle.std.proofs.lemmas.List.{append-nil, take_all}
use Rattle.fut_scalar.specs.declared.place.Place.{Place}
use Rattle.fut_scalar.specs.declared.scalar.ScalarType.{ScalarType}
use Rattle.fut_scalar.specs.declared.scalar.ScalarType.TheVariants as sort
use Rattle.fut_flat.specs.declared.prim.Primitive.{Primitive}
use Rattle.fut_flat.specs.declared.prim.Primitive.TheVariants as prim
use Rattle.fut_value.specs.Data.{Shape, Datum, Tuple_datum, Array_datum, datums, shape_of, array_words}
use Rattle.fut_meaning.specs.Arrays.{Counted, rows_of, each_out, truth_of_datum}
use Rattle.fut_meaning.specs.Jobs.{Apply_each, job, alone, truths, counting, sifted, two_arrays}
use Rattle.fut_meaning.specs.Outcomes.{Out, Val, and_then}
use Rattle.array_data.specs.declared.form.Form.{Form}
use Rattle.array_data.specs.declared.built.Built.{Built}
use Rattle.array_data.specs.declared.data.Data.{Data}
use Rattle.array_primitives.specs.declared.jobs.Finish.{Finish}
use Rattle.array_primitives.specs.declared.jobs.Finish.TheVariants as finish
use Rattle.array_primitives.specs.declared.jobs.Plan.{Plan}
use Rattle.array_primitives.specs.declared.jobs.Plan.TheVariants as plan
use Rattle.array_data.specs.declared.stop.Stop.{Stop}
use Rattle.array_data.specs.declared.stop.Stop.TheVariants.{Memory}
use Rattle.array_data.specs.Answers.{each_at, Counts, counts, Row_is, row_is, Added, added}
use Rattle.array_data.specs.Held.{scalars, shape_held, held, held_all, built_rows, rows_in, row_shape_in}
use Rattle.array_primitives.specs.Plans.{made_of, odd, Plans, plan_each, Counted_is, counted_is, counted_memory, Sieved}
use Rattle.array_data.proofs.Building.{no_rows}
use Rattle.array_primitives.proofs.Columning.{alone_long, one_row}
use Rattle.array_primitives.proofs.Planning.{one_held, no_plan}
use Rattle.array_data.proofs.RowsRead.{take_row}

-- ---- the plan

filter_known : (told : Shape) (at : Place) (d : Datum) → rows_of d ≡ Val (row_shape_in d, rows_in d) → job false told prim.Filter at (d ∷ []) ≡ Val (Apply_each (alone (rows_in d)) (made_of told finish.Kept at (d ∷ [])))
unfolding job
filter_known told at d q = ap (λ z. and_then z (λ r. Val (Apply_each (alone r.1) (truths (λ bs. counting d (Val (Array_datum r.0 (datums (sifted true r.1 bs))))))))) q

partition_known : (told : Shape) (at : Place) (d : Datum) → rows_of d ≡ Val (row_shape_in d, rows_in d) → job false told prim.Partition at (d ∷ []) ≡ Val (Apply_each (alone (rows_in d)) (made_of told finish.Parted at (d ∷ [])))
unfolding job
partition_known told at d q = ap (λ z. and_then z (λ r. Val (Apply_each (alone r.1) (truths (λ bs. counting d (Val (two_arrays r.0 r.1 bs))))))) q

row_alone : (d : Datum) (k : ℕ) (es : List Datum) → each_at k (d ∷ []) ≡ Some es → slice_get (alone (rows_in d)) k ≡ Some es
row_alone d k es h = one_row (rows_in d) k es (slice_get (rows_in d) k) refl h

module _ (p : Primitive) (at : Place) (ds : List Data) (d : Data) (n : ℕ) (one : length ds ≡ 1) where
  as_one : (q : Primitive) (r : Result Plan Stop) → p ≡ q → Plans q at (held (get_or ds 0 d) ∷ []) r → Plans p at (held_all ds) r
  as_one q r i h = subst (λ z. Plans z at (held_all ds) r) (sym i) (subst (λ z. Plans q at z r) (sym (one_held ds d one)) h)

  pub filter_planned : p ≡ prim.Filter → Counts (held (get_or ds 0 d)) (Ok n) → Plans p at (held_all ds) (Ok (plan.Each finish.Kept n))
  unfolding Plans
  filter_planned i (counts q m) = as_one prim.Filter (Ok (plan.Each finish.Kept n)) i
      (λ told. plan_each (alone (rows_in (held (get_or ds 0 d)))) (filter_known told at (held (get_or ds 0 d)) q) (m ∙ sym (alone_long (rows_in (held (get_or ds 0 d))))) (λ k es l h. row_alone (held (get_or ds 0 d)) k es h))

  pub partition_planned : p ≡ prim.Partition → Counts (held (get_or ds 0 d)) (Ok n) → Plans p at (held_all ds) (Ok (plan.Each finish.Parted n))
  unfolding Plans
  partition_planned i (counts q m) = as_one prim.Partition (Ok (plan.Each finish.Parted n)) i
      (λ told. plan_each (alone (rows_in (held (get_or ds 0 d)))) (partition_known told at (held (get_or ds 0 d)) q) (m ∙ sym (alone_long (rows_in (held (get_or ds 0 d))))) (λ k es l h. row_alone (held (get_or ds 0 d)) k es h))

pub ruleset sieves = (filter_planned, partition_planned, no_plan)

-- ---- truths

truths_told : (ws : List ℕ) → each_out truth_of_datum (scalars sort.Bool ws) ≡ Val (map odd ws)
unfolding scalars
truths_told [] = refl
truths_told (w ∷ ws) = ap (λ z. and_then z (λ bs. Val (odd w ∷ bs))) (truths_told ws)

bool_words : (t : ScalarType) (ws : List ℕ) → length ws ≡ 0 → scalars t ws ≡ scalars sort.Bool ws
unfolding scalars
bool_words t [] e = refl
bool_words t (w ∷ ws) e = absurd (omega arith)

all_words : (b : Built) → length b.rows ≤ 0 → built_rows b ≡ scalars b.ty b.words
unfolding built_rows held_all
all_words b l = ap (λ z. scalars b.ty b.words ++ held_all z) (no_rows b.rows l) ∙ append-nil (scalars b.ty b.words)

pub no_truths : (b : Built) → length b.rows ≤ 0 → length b.words ≡ 0 → built_rows b ≡ scalars sort.Bool b.words
no_truths b l e = all_words b l ∙ bool_words b.ty b.words e

pub all_truths : (b : Built) (r : Bool) → length b.rows ≤ 0 → (r ≡ true → b.ty ≡ sort.Bool) → r ≡ true → built_rows b ≡ scalars sort.Bool b.words
all_truths b r l h e = all_words b l ∙ ap (λ z. scalars z b.words) (h e)

pub truths_not : (b : Built) (r : Bool) → r ≡ false → r ≡ true → built_rows b ≡ scalars sort.Bool b.words
truths_not b r p q = cc

pub ruleset truth_words = (no_truths, all_truths, truths_not)

-- ---- rows that are kept

pub passes_odd : (w : ℕ) (t : Bool) → t ≡ true → w % 2 ≡ 1 → true ≡ beq (odd w) t
passes_odd w t e q = sym (ap (λ z. beq z t) (eq-eqb (w % 2) 1 q) ∙ ap (beq true) e)

pub fails_odd : (w : ℕ) (t : Bool) → t ≡ true → (w % 2 ≡ 1 → ⊥) → false ≡ beq (odd w) t
fails_odd w t e q = sym (ap (λ z. beq z t) (ne_eqb (w % 2) 1 q) ∙ ap (beq false) e)

pub passes_even : (w : ℕ) (t : Bool) → t ≡ false → (w % 2 ≡ 1 → ⊥) → true ≡ beq (odd w) t
passes_even w t e q = sym (ap (λ z. beq z t) (ne_eqb (w % 2) 1 q) ∙ ap (beq false) e)

pub fails_even : (w : ℕ) (t : Bool) → t ≡ false → w % 2 ≡ 1 → false ≡ beq (odd w) t
fails_even w t e q = sym (ap (λ z. beq z t) (eq-eqb (w % 2) 1 q) ∙ ap (beq true) e)

pub ruleset passings = (passes_odd, fails_odd, passes_even, fails_even)

unfoldable pub Kept_up_to : Bool → List Datum → List ℕ → ℕ → List Datum → Type 0
Kept_up_to t xs ws i ds = (ds ≡ sifted t (take i xs) (map odd (take i ws))) × (length (take i xs) ≡ i)

sifted_end : (t b : Bool) (xs : List Datum) (bs : List Bool) (x : Datum) → beq b t ≡ true → length xs ≡ length bs → sifted t (xs ++ x ∷ []) (bs ++ b ∷ []) ≡ sifted t xs bs ++ x ∷ []
sifted_end true true [] [] x q e = refl
sifted_end false false [] [] x q e = refl
sifted_end true false [] [] x q e = cc
sifted_end false true [] [] x q e = cc
sifted_end t b [] (c ∷ bs) x q e = absurd (omega arith)
sifted_end t b (y ∷ xs) [] x q e = absurd (omega arith)
sifted_end true b (y ∷ xs) (true ∷ bs) x q e = ap (λ z. y ∷ z) (sifted_end true b xs bs x q (omega arith))
sifted_end true b (y ∷ xs) (false ∷ bs) x q e = sifted_end true b xs bs x q (omega arith)
sifted_end false b (y ∷ xs) (true ∷ bs) x q e = sifted_end false b xs bs x q (omega arith)
sifted_end false b (y ∷ xs) (false ∷ bs) x q e = ap (λ z. y ∷ z) (sifted_end false b xs bs x q (omega arith))

sifted_out : (t b : Bool) (xs : List Datum) (bs : List Bool) (x : Datum) → beq b t ≡ false → length xs ≡ length bs → sifted t (xs ++ x ∷ []) (bs ++ b ∷ []) ≡ sifted t xs bs
sifted_out true true [] [] x q e = cc
sifted_out false false [] [] x q e = cc
sifted_out true false [] [] x q e = refl
sifted_out false true [] [] x q e = refl
sifted_out t b [] (c ∷ bs) x q e = absurd (omega arith)
sifted_out t b (y ∷ xs) [] x q e = absurd (omega arith)
sifted_out true b (y ∷ xs) (true ∷ bs) x q e = ap (λ z. y ∷ z) (sifted_out true b xs bs x q (omega arith))
sifted_out true b (y ∷ xs) (false ∷ bs) x q e = sifted_out true b xs bs x q (omega arith)
sifted_out false b (y ∷ xs) (true ∷ bs) x q e = sifted_out false b xs bs x q (omega arith)
sifted_out false b (y ∷ xs) (false ∷ bs) x q e = ap (λ z. y ∷ z) (sifted_out false b xs bs x q (omega arith))

sifted_less : (t : Bool) (xs : List Datum) (bs : List Bool) (n : ℕ) → length bs ≤ n → sifted t (take n xs) bs ≡ sifted t xs bs
sifted_less t [] bs zero l = refl
sifted_less t [] bs (suc n) l = refl
sifted_less t (x ∷ xs) [] zero l = refl
sifted_less t (x ∷ xs) [] (suc n) l = refl
sifted_less t (x ∷ xs) (b ∷ bs) zero l = absurd (omega arith)
sifted_less true (x ∷ xs) (true ∷ bs) (suc n) l = ap (λ z. x ∷ z) (sifted_less true xs bs n (omega arith))
sifted_less true (x ∷ xs) (false ∷ bs) (suc n) l = sifted_less true xs bs n (omega arith)
sifted_less false (x ∷ xs) (true ∷ bs) (suc n) l = sifted_less false xs bs n (omega arith)
sifted_less false (x ∷ xs) (false ∷ bs) (suc n) l = ap (λ z. x ∷ z) (sifted_less false xs bs n (omega arith))

odd_more : (ws : List ℕ) (i d : ℕ) → i < length ws → map odd (take (suc i) ws) ≡ map odd (take i ws) ++ odd (get_or ws i d) ∷ []
odd_more [] i d l = absurd (omega arith)
odd_more (w ∷ ws) zero d l = refl
odd_more (w ∷ ws) (suc i) d l = ap (λ z. odd w ∷ z) (odd_more ws i d (omega arith))

all_odd : (ws : List ℕ) → length (map odd ws) ≡ length ws
all_odd [] = refl
all_odd (w ∷ ws) = ap suc (all_odd ws)

odd_long : (ws : List ℕ) (i : ℕ) → i ≤ length ws → length (map odd (take i ws)) ≡ i
odd_long ws zero l = refl
odd_long [] (suc i) l = absurd (omega arith)
odd_long (w ∷ ws) (suc i) l = ap suc (odd_long ws i (omega arith))

long_more : (xs : List Datum) (i : ℕ) (x : Datum) → slice_get xs i ≡ Some x → length (take (suc i) xs) ≡ suc i
long_more [] i x e = cc
long_more (y ∷ xs) zero x e = refl
long_more (y ∷ xs) (suc i) x e = ap suc (long_more xs i x e)

module _ (t : Bool) (d : Datum) (ws : List ℕ) where
  pub sift_start : (ds : List Datum) → ds ≡ [] → Kept_up_to t (rows_in d) ws 0 ds
  unfolding Kept_up_to
  sift_start ds e = (e, refl)

  module _ (i k : ℕ) (x : Datum) (ds : List Datum) (b : Bool) (l : i < length ws) (h : Kept_up_to t (rows_in d) ws i ds) (g : Row_is d i (Ok x)) (w : b ≡ beq (odd (get_or ws i k)) t) where
    same_long : length (take i (rows_in d)) ≡ length (map odd (take i ws))
    unfolding Kept_up_to
    same_long = h.1 ∙ sym (odd_long ws i (omega arith))

    one_on : (ds' : List Datum) → ds' ≡ sifted t (take i (rows_in d) ++ x ∷ []) (map odd (take i ws) ++ odd (get_or ws i k) ∷ []) → Row_is d i (Ok x) → Kept_up_to t (rows_in d) ws (i + 1) ds'
    unfolding Kept_up_to
    one_on ds' e (row_is q) = subst (λ z. (ds' ≡ sifted t (take z (rows_in d)) (map odd (take z ws))) × (length (take z (rows_in d)) ≡ z)) (sym (add-one i)) (
      e ∙ ap (sifted t (take i (rows_in d) ++ x ∷ [])) (sym (odd_more ws i k l)) ∙ ap (λ z. sifted t z (map odd (take (suc i) ws))) (sym (take_row (rows_in d) i x q)),
      long_more (rows_in d) i x q,
    )

    pub sift_keep : (ds' : List Datum) → b ≡ true → Added x ds ds' (Ok tt) → Kept_up_to t (rows_in d) ws (i + 1) ds'
    unfolding Kept_up_to
    sift_keep ds' e (added a) = one_on ds' (a ∙ ap (λ z. z ++ x ∷ []) h.0 ∙ sym (sifted_end t (odd (get_or ws i k)) (take i (rows_in d)) (map odd (take i ws)) x (sym w ∙ e) same_long)) g

    pub sift_skip : b ≡ false → Kept_up_to t (rows_in d) ws (i + 1) ds
    unfolding Kept_up_to
    sift_skip e = one_on ds (h.0 ∙ sym (sifted_out t (odd (get_or ws i k)) (take i (rows_in d)) (map odd (take i ws)) x (sym w ∙ e) same_long)) g

  pub sift_end : (i : ℕ) (ds : List Datum) → length ws ≤ i → i ≤ length ws → Kept_up_to t (rows_in d) ws i ds → ds ≡ sifted t (rows_in d) (map odd ws)
  unfolding Kept_up_to
  sift_end i ds l m h = h.0 ∙ ap (λ z. sifted t (take i (rows_in d)) (map odd z)) (take_all i ws l) ∙ sifted_less t (rows_in d) (map odd ws) i (omega (arith, all_odd ws))

pub ruleset sifting = (sift_start, sift_keep, sift_skip, sift_end)

-- ---- arrays of them

pub sieve_is : (d : Datum) (h : Form) (s es : List Datum) (v : Datum) → s ≡ es → shape_held h ≡ row_shape_in d → v ≡ Array_datum (shape_held h) (datums s) → v ≡ Array_datum (row_shape_in d) (datums es)
sieve_is d h s es v e q p = p ∙ ap (λ z. Array_datum z (datums s)) q ∙ ap (λ z. Array_datum (row_shape_in d) (datums z)) e

pub ruleset sieving = (sieve_is)

module _ (at : Place) (d : Datum) (b : Built) (r : Bool) (t : r ≡ true → built_rows b ≡ scalars sort.Bool b.words) (x : r ≡ true) (ws : List ℕ) (y : ws ≡ b.words) where
  known_truths : (k : List Bool → Out Counted) → truths k (built_rows b) ≡ k (map odd ws)
  known_truths k = ap (λ z. and_then (each_out truth_of_datum z) k) (t x) ∙ ap (λ z. and_then z k) (truths_told b.words) ∙ ap (λ z. k (map odd z)) (sym y)

  pub kept_rows : (v : Datum) → v ≡ Array_datum (row_shape_in d) (datums (sifted true (rows_in d) (map odd ws))) → Sieved finish.Kept at d (built_rows b) (Ok v)
  unfolding Sieved
  kept_rows v q = counted_is {c = array_words (shape_of d)} {d = v} (known_truths (λ bs. counting d (Val (Array_datum (row_shape_in d) (datums (sifted true (rows_in d) bs))))) ∙ ap (λ z. Val (array_words (shape_of d), z)) (sym q))

  pub parted_rows : (a c : Data) (ps qs rs : List Data) (v : Datum) → held a ≡ Array_datum (row_shape_in d) (datums (sifted true (rows_in d) (map odd ws))) → held c ≡ Array_datum (row_shape_in d) (datums (sifted false (rows_in d) (map odd ws))) → ps ≡ [] → qs ≡ ps ++ a ∷ [] → rs ≡ qs ++ c ∷ [] → v ≡ Tuple_datum (datums (held_all rs)) → Sieved finish.Parted at d (built_rows b) (Ok v)
  unfolding Sieved held_all
  parted_rows a c ps qs rs v q p e f g u = counted_is {c = array_words (shape_of d)} {d = v} (known_truths (λ bs. counting d (Val (two_arrays (row_shape_in d) (rows_in d) bs)))
      ∙ ap (λ z. Val (array_words (shape_of d), z)) (sym (u ∙ ap (λ z. Tuple_datum (datums (map held z))) (g ∙ ap (λ z. z ++ c ∷ []) (f ∙ ap (λ z. z ++ a ∷ []) e))
      ∙ ap (λ z. Tuple_datum (datums (z ∷ held c ∷ []))) q ∙ ap (λ z. Tuple_datum (datums (Array_datum (row_shape_in d) (datums (sifted true (rows_in d) (map odd ws))) ∷ z ∷ []))) p)))

pub sieved_memory : (f : Finish) (at : Place) (d : Datum) (es : List Datum) → Sieved f at d es (Err Memory)
unfolding Sieved
sieved_memory f at d es = counted_memory

pub ruleset keeping = (kept_rows, parted_rows, sieved_memory)
