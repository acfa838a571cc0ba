-- Numbers, sizes as data, and copies.
use Rattle.std.proofs.Common.{◌≡◌, ℕ, zero, suc, ◌+◌, ◌<◌, ◌≤◌, ◌^◌, List, [], ◌∷◌, ◌++◌, map, length, Ok, Err, Result, Bool, true, false, nat_eq, refl, sym, ap, ◌∙◌, subst, arith, add-one, append_assoc}
use Rattle.std.specs.Prelude.{◌%◌, nat_le, replicate}
use Rattle.std.proofs.Math.Nat.{mod-eq_of_lt}
use Rattle.std.proofs.lemmas.Bool.{le-leb, lt-leb, ne_eqb, eq-eqb}
use Rattle.std.proofs.lemmas.List.{append-nil}
use Rattle.fut_scalar.specs.declared.place.Place.{Place}
use Rattle.fut_scalar.specs.declared.report.FailKind.TheVariants as kind
use Rattle.fut_scalar.specs.declared.scalar.IntType.TheVariants.{I64}
use Rattle.fut_scalar.specs.declared.scalar.Scalar.{Scalar}
use Rattle.fut_scalar.specs.declared.scalar.Scalar.TheVariants as scalar
use Rattle.fut_scalar.specs.declared.scalar.ScalarType.TheVariants as sort
use Rattle.fut_arithmetic.specs.Words.{scalar_of_word}
use Rattle.fut_flat.specs.declared.prim.Primitive.TheVariants as prim
use Rattle.fut_value.specs.Data.{Shape, Array_shape, Unmet_shape, Datum, Scalar_datum, Array_datum, datums, shape_of, array_words, weight}
use Rattle.fut_meaning.specs.Arrays.{exact_of, rows_of, checked, fresh, shared, i64, most_words}
use Rattle.fut_meaning.specs.Jobs.{Job, Done, done, job, i64_shape, numbers_from, of_weight}
use Rattle.fut_meaning.specs.Outcomes.{Out, Val, Fail, Wrong, and_then}
use Rattle.array_data.specs.declared.form.Form.{Form}
use Rattle.array_data.specs.declared.form.Form.TheVariants as form
use Rattle.array_data.specs.declared.data.Data.{Data}
use Rattle.array_data.specs.declared.data.Data.TheVariants as hold
use Rattle.array_data.specs.declared.sizes.Exact.{Exact}
use Rattle.array_data.specs.declared.sizes.Exact.TheVariants as exact
use Rattle.array_data.specs.declared.stop.Stop.{Stop}
use Rattle.array_data.specs.declared.stop.Stop.TheVariants.{Failed, Memory}
use Rattle.array_data.specs.Answers.{Copied, copied, not_copied, Counts, Added, added, not_added, All_added, all_added, not_all_added, Exact_is, exact_is, exact_held, Does, does, does_fail, does_memory, does_lost, Numbers, Replicas}
use Rattle.array_data.specs.Held.{fitted, scalars, held, held_all, as_held, rows_in, row_shape_in, shape_held}
use Rattle.array_data.proofs.Forms.{map_push}
use Rattle.array_data.proofs.Holding.{held_scalar, held_words, form_array}
use Rattle.array_data.proofs.Jobbing.{rows_stop, rows_go, exact_stop, exact_go, rows_counted, added_does, all_there}

pub number_is : (n : ℕ) → n < 2 ^ 64 → held (hold.Scalar (scalar.Int I64 n)) ≡ i64 n
number_is n l = held_scalar (scalar.Int I64 n) ∙ ap (λ z. Scalar_datum (scalar.Int I64 z)) (mod-eq_of_lt l)

-- ---- numbers one after the other

numbers_more : (n i : ℕ) → numbers_from (suc n) i ≡ numbers_from n i ++ i64 (i + n) ∷ []
numbers_more zero i = let e : i ≡ i + 0 = omega arith in ap (λ z. i64 z ∷ []) e
numbers_more (suc n) i = ap (λ z. i64 i ∷ z) (let e : suc i + n ≡ i + suc n = omega arith in numbers_more n (suc i) ∙ ap (λ z. numbers_from n (suc i) ++ i64 z ∷ []) e)

pub count_start : (ws : List ℕ) → ws ≡ [] → Numbers 0 ws
unfolding Numbers scalars
count_start ws e = ap (map (λ w. Scalar_datum (scalar_of_word (sort.Int I64) w))) e

pub count_more : (i : ℕ) (ws vs : List ℕ) → i < 2 ^ 64 → Numbers i ws → vs ≡ ws ++ i ∷ [] → Numbers (i + 1) vs
unfolding Numbers scalars
count_more i ws vs l h e =
    ap (map (λ w. Scalar_datum (scalar_of_word (sort.Int I64) w))) e ∙ map_push (λ w. Scalar_datum (scalar_of_word (sort.Int I64) w)) ws i
    ∙ ap (λ z. z ++ Scalar_datum (scalar.Int I64 (i % 2 ^ 64)) ∷ []) h ∙ ap (λ z. numbers_from i 0 ++ Scalar_datum (scalar.Int I64 z) ∷ []) (mod-eq_of_lt l ∙ (let e : i ≡ 0 + i = omega arith in e))
    ∙ sym (numbers_more i 0) ∙ ap (λ z. numbers_from z 0) (sym (add-one i))

pub count_end : (i n : ℕ) (ws : List ℕ) → n ≤ i → i ≤ n → Numbers i ws → Numbers n ws
count_end i n ws l m h = let q : i ≡ n = omega arith in subst (λ z. Numbers z ws) q h

pub ruleset counting = (count_start, count_more, count_end)

pub numbers_held : (n : ℕ) (ws vs : List ℕ) → Numbers n ws → vs ≡ ws → held (hold.Words (sort.Int I64) vs) ≡ Array_datum i64_shape (datums (numbers_from n 0))
unfolding Numbers
numbers_held n ws vs h e = held_words (sort.Int I64) vs ∙ ap (λ z. Array_datum i64_shape (datums (scalars (sort.Int I64) z))) e ∙ ap (λ z. Array_datum i64_shape (datums z)) h

pub ruleset numbers = (number_is, numbers_held)

-- ---- iota

module _ (at : Place) (n : Datum) where
  pub iota_no_size : (e : Stop) → Exact_is n (Err e) → Does (job false Unmet_shape prim.Iota at (n ∷ [])) (Err e)
  unfolding job
  iota_no_size e h = exact_stop n _ e h

  pub iota_below : (z : Exact) (k : ℕ) → Exact_is n (Ok z) → z ≡ exact.Below k → Does (job false Unmet_shape prim.Iota at (n ∷ [])) (Err (Failed (record { kind = kind.Range; place = at })))
  unfolding job exact_held
  iota_below z k h e = exact_go n _ (exact.Below k) _ (subst (λ z. Exact_is n (Ok z)) e h) (does_fail refl)

  module _ (z : Exact) (k : ℕ) (h : Exact_is n (Ok z)) (e : z ≡ exact.Natural k) where
    pub iota_heavy : (b : Bool) → b ≡ nat_le k most_words → b ≡ false → Does (job false Unmet_shape prim.Iota at (n ∷ [])) (Err (Failed (record { kind = kind.TooLarge; place = at })))
    unfolding job exact_held
    iota_heavy b q l = exact_go n _ (exact.Natural k) _ (subst (λ z. Exact_is n (Ok z)) e h) (does_fail (ap (λ b. done (checked b kind.TooLarge at (fresh (Array_datum i64_shape (datums (numbers_from k 0)))))) (sym q ∙ l)))

    pub iota_done : (d : Data) (b : Bool) → b ≡ nat_le k most_words → b ≡ true → held d ≡ Array_datum i64_shape (datums (numbers_from k 0)) → Does (job false Unmet_shape prim.Iota at (n ∷ [])) (as_held (Ok d))
    unfolding job exact_held
    iota_done d b p l q = exact_go n _ (exact.Natural k) _ (subst (λ z. Exact_is n (Ok z)) e h) (does {c = array_words (shape_of (Array_datum i64_shape (datums (numbers_from k 0))))} {d = held d}
        (ap (λ b. done (checked b kind.TooLarge at (fresh (Array_datum i64_shape (datums (numbers_from k 0)))))) (sym p ∙ l) ∙ ap (λ z. Val (Done (array_words (shape_of (Array_datum i64_shape (datums (numbers_from k 0)))), z))) (sym q)))

pub ruleset iotas = (iota_no_size, iota_below, iota_heavy, iota_done, does_memory)

-- ---- what counts say

module _ (at : Place) (d : Datum) where
  pub indices_no_rows : (e : Stop) → Counts d (Err e) → Does (job false Unmet_shape prim.Indices at (d ∷ [])) (Err e)
  unfolding job
  indices_no_rows e h = rows_stop d _ e h

  pub length_no_rows : (e : Stop) → Counts d (Err e) → Does (job false Unmet_shape prim.Length at (d ∷ [])) (Err e)
  unfolding job
  length_no_rows e h = rows_stop d _ e h

  pub null_no_rows : (e : Stop) → Counts d (Err e) → Does (job false Unmet_shape prim.Null at (d ∷ [])) (Err e)
  unfolding job
  null_no_rows e h = rows_stop d _ e h

  module _ (c : ℕ) (g : Counts d (Ok c)) where
    pub indices_done : (v : Data) → held v ≡ Array_datum i64_shape (datums (numbers_from c 0)) → Does (job false Unmet_shape prim.Indices at (d ∷ [])) (as_held (Ok v))
    unfolding job
    indices_done v q = rows_go d _ c _ g (does {c = array_words (shape_of (Array_datum i64_shape (datums (numbers_from (length (rows_in d)) 0))))} {d = held v}
        (ap (λ z. Val (Done (array_words (shape_of (Array_datum i64_shape (datums (numbers_from (length (rows_in d)) 0)))), z))) (sym (q ∙ ap (λ z. Array_datum i64_shape (datums (numbers_from z 0))) (rows_counted d c g)))))

    pub length_done : (v : Data) → held v ≡ i64 c → Does (job false Unmet_shape prim.Length at (d ∷ [])) (as_held (Ok v))
    unfolding job
    length_done v q = rows_go d _ c _ g (does {c = 0} {d = held v} (ap (λ z. Val (Done (0, z))) (sym (q ∙ ap i64 (rows_counted d c g)))))

    pub null_done : (b : Bool) → b ≡ nat_eq c 0 → Does (job false Unmet_shape prim.Null at (d ∷ [])) (as_held (Ok (hold.Scalar (scalar.Bool b))))
    unfolding job
    null_done b q = rows_go d _ c _ g (does {c = 0} {d = held (hold.Scalar (scalar.Bool b))} (ap (λ z. Val (Done (0, z))) (ap (λ z. Scalar_datum (scalar.Bool (nat_eq z 0))) (sym (rows_counted d c g)) ∙ ap (λ z. Scalar_datum (scalar.Bool z)) (sym q) ∙ sym (held_scalar (scalar.Bool b)))))

    pub null_yes : c ≡ 0 → Does (job false Unmet_shape prim.Null at (d ∷ [])) (as_held (Ok (hold.Scalar (scalar.Bool true))))
    null_yes e = null_done true (sym (eq-eqb c 0 e))

    pub null_no : (c ≡ 0 → ⊥) → Does (job false Unmet_shape prim.Null at (d ∷ [])) (as_held (Ok (hold.Scalar (scalar.Bool false))))
    null_no e = null_done false (sym (ne_eqb c 0 e))

pub ruleset counts_told = (indices_no_rows, length_no_rows, null_no_rows, indices_done, length_done, null_done, null_yes, null_no, does_memory)

pub copy_done : (at : Place) (d : Data) (r : Result Data Stop) → Copied d r → Does (job false Unmet_shape prim.Copy at (held d ∷ [])) (as_held r)
unfolding job
copy_done at d _ (copied {c} q) = does {c = array_words (shape_of (held d))} {d = held c} (ap (λ z. Val (Done (array_words (shape_of (held d)), z))) (sym q))
copy_done at d _ not_copied = does_memory

pub ruleset copies = (copy_done)

-- ---- copies of a row

replicate_more : (n : ℕ) (d : Datum) → replicate (suc n) d ≡ replicate n d ++ d ∷ []
replicate_more zero d = refl
replicate_more (suc n) d = ap (λ z. d ∷ z) (replicate_more n d)

unfoldable pub Copies_pushed : Datum → ℕ → List Datum → List Datum → Type 0
Copies_pushed d i ds0 ds = ds ≡ ds0 ++ replicate i d

module _ (d : Data) (ds0 : List Datum) where
  pub copies_start : Copies_pushed (held d) 0 ds0 ds0
  unfolding Copies_pushed
  copies_start = sym (append-nil ds0)

  pub copies_more : (i : ℕ) (e : Data) (ds ds' : List Datum) → Copies_pushed (held d) i ds0 ds → Copied d (Ok e) → Added (held e) ds ds' (Ok tt) → Copies_pushed (held d) (i + 1) ds0 ds'
  unfolding Copies_pushed
  copies_more i e ds ds' h (copied q) (added a) =
      a ∙ ap (λ z. z ++ held e ∷ []) h ∙ ap (λ z. (ds0 ++ replicate i (held d)) ++ z ∷ []) q ∙ append_assoc ds0 (replicate i (held d)) (held d ∷ [])
      ∙ ap (λ z. ds0 ++ z) (sym (replicate_more i (held d))) ∙ ap (λ z. ds0 ++ replicate z (held d)) (sym (add-one i))

  pub copies_end : (i n : ℕ) (ds : List Datum) → n ≤ i → i ≤ n → Copies_pushed (held d) i ds0 ds → All_added (replicate n (held d)) ds0 ds (Ok tt)
  unfolding Copies_pushed
  copies_end i n ds l m h = let q : i ≡ n = omega arith in all_added (h ∙ ap (λ z. ds0 ++ replicate z (held d)) q)

pub ruleset copying = (copies_start, copies_more, copies_end, not_all_added)

module _ (at : Place) (n : ℕ) (d : Datum) where
  pub replicas_memory : Replicas at n d (Err Memory)
  unfolding Replicas
  replicas_memory = does_memory

  pub replicas_stop : (es ds ds' : List Datum) (e : Stop) → All_added es ds ds' (Err e) → Replicas at n d (Err e)
  unfolding Replicas
  replicas_stop es ds ds' _ not_all_added = does_memory

  module _ (f h k w : Form) (q : shape_held f ≡ shape_of d) (e : h ≡ f) (x : k ≡ h) (y : w ≡ form.Array n k) where
    whole_shape : shape_held w ≡ Array_shape n (shape_of d)
    whole_shape = ap shape_held y ∙ form_array n k ∙ ap (Array_shape n) (ap shape_held x ∙ ap shape_held e ∙ q)

    pub replicas_heavy : false ≡ nat_le (weight (shape_held w)) most_words → Replicas at n d (Err (Failed (record { kind = kind.TooLarge; place = at })))
    unfolding Replicas
    replicas_heavy l = does_fail (ap (λ b. checked b kind.TooLarge at (done (fresh (Array_datum (shape_of d) (datums (replicate n d)))))) (ap (λ z. nat_le (weight z) most_words) (sym whole_shape) ∙ sym l))

    pub replicas_done : (ds ds' : List Datum) (v : Data) → true ≡ nat_le (weight (shape_held w)) most_words → ds ≡ [] → All_added (replicate n d) ds ds' (Ok tt) → held v ≡ Array_datum (shape_held h) (datums ds') → Replicas at n d (as_held (Ok v))
    unfolding Replicas
    replicas_done ds ds' v l p a t = does {c = array_words (shape_of (Array_datum (shape_of d) (datums (replicate n d))))} {d = held v}
        (ap (λ b. checked b kind.TooLarge at (done (fresh (Array_datum (shape_of d) (datums (replicate n d)))))) (ap (λ z. nat_le (weight z) most_words) (sym whole_shape) ∙ sym l)
        ∙ ap (λ z. Val (Done (array_words (shape_of (Array_datum (shape_of d) (datums (replicate n d)))), z))) (sym (t ∙ ap (λ z. Array_datum z (datums ds')) (ap shape_held e ∙ q) ∙ ap (λ z. Array_datum (shape_of d) (datums z)) (all_there (replicate n d) ds ds' p a))))

pub ruleset replicas = (replicas_memory, replicas_stop, replicas_heavy, replicas_done)

module _ (at : Place) (n d : Datum) where
  pub replicate_no_size : (e : Stop) → Exact_is n (Err e) → Does (job false Unmet_shape prim.Replicate at (n ∷ d ∷ [])) (Err e)
  unfolding job
  replicate_no_size e h = exact_stop n _ e h

  pub replicate_below : (z : Exact) (k : ℕ) → Exact_is n (Ok z) → z ≡ exact.Below k → Does (job false Unmet_shape prim.Replicate at (n ∷ d ∷ [])) (Err (Failed (record { kind = kind.Range; place = at })))
  unfolding job exact_held
  replicate_below z k h e = exact_go n _ (exact.Below k) _ (subst (λ z. Exact_is n (Ok z)) e h) (does_fail refl)

  pub replicate_done : (z : Exact) (k : ℕ) (r : Result Datum Stop) → Exact_is n (Ok z) → z ≡ exact.Natural k → Replicas at k d r → Does (job false Unmet_shape prim.Replicate at (n ∷ d ∷ [])) r
  unfolding job exact_held Replicas
  replicate_done z k r h e t = exact_go n _ (exact.Natural k) r (subst (λ z. Exact_is n (Ok z)) e h) t

pub ruleset replications = (replicate_no_size, replicate_below, replicate_done)
