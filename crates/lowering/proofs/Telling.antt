-- What the sizes of told rows are worth, and the steps that read them.
use Rattle.std.proofs.Common.{◌≡◌, ℕ, zero, suc, ◌+◌, ◌<◌, ◌≤◌, ◌^◌, ◌%◌, List, [], ◌∷◌, ◌++◌, Bool, false, Option, Some, None, ℤ, pos, map, drop, length, slice_get, refl, sym, ap, ◌∙◌, subst, arith}
use Rattle.std.proofs.Math.Nat.{mod-eq_of_lt}
use Rattle.fut_scalar.specs.declared.place.Place.{Place}
use Rattle.fut_scalar.specs.declared.scalar.IntType.{IntType}
use Rattle.fut_scalar.specs.declared.scalar.IntType.TheVariants.{I64, U64}
use Rattle.fut_scalar.specs.declared.scalar.Scalar.{Scalar}
use Rattle.fut_scalar.specs.declared.scalar.Scalar.TheVariants as scalar
use Rattle.fut_scalar.specs.declared.scalar.ScalarType.TheVariants as sort
use Rattle.fut_scalar.specs.Integers.{integer_of}
use Rattle.fut_arithmetic.specs.Types.{type_of}
use Rattle.fut_value.specs.Data.{Shape, Scalar_shape, Tuple_shape, Record_shape, Array_shape, Shapes, no_shape, shape_and, Named_shapes, no_named_shape, named_shape_and, Datum, Scalar_datum, shape_of}
use Rattle.fut_value.specs.Leaves.{in_rows, leaves, all_leaves, named_leaves}
use Rattle.fut_meaning.specs.Accessors.{or_wrong, count_of}
use Rattle.fut_meaning.specs.Arrays.{each_out, integer_of_scalar}
use Rattle.fut_meaning.specs.Found.{count}
use Rattle.fut_meaning.specs.Meaning.{counts}
use Rattle.fut_meaning.specs.Places as places
use Rattle.fut_meaning.specs.Outcomes.{Out, Val, and_then, gives, the, Then}
use Rattle.fut_meaning.specs.Sames.{All_same, all_none, all_more}
use Rattle.fut_blocks.specs.Meaning.{Names, bound}
use Rattle.fut_blocks.specs.Meaning as source
use Rattle.fut_blocks.specs.Sizes as sizes_of
use Rattle.fut_blocks.specs.Rows.{Row as Told_row, Rows, Named_rows, Extent}
use Rattle.steps_simulate.proofs.Alike.{Alike, alike_same, alike_on, alike_then, alike_value, alike_back}
use Rattle.core_ir.specs.declared.block.Var.{Var}
use Rattle.core_ir.specs.declared.block.Atom.{Atom}
use Rattle.core_ir.specs.declared.block.Atom.TheVariants as atom
use Rattle.core_ir.specs.declared.block.Operation.TheVariants as operation
use Rattle.core_ir.specs.Arrays.{exact_in, all_told}
use Rattle.core_ir.specs.Bundles.{Component, One, Row, sizes, all_sizes, of_width}
use Rattle.core_ir.specs.Meaning.{Env, number, value_of, values_of, groups_of, named, one, operated, act_means}
use Rattle.core_ir.specs.Plain.{Action, Operate}
use Rattle.core_values.specs.Components.{components, One_type, scalars, tuples, records, arrays, All_one_type, no_part, part_and, Named_one_type, no_field, field_and}
use Rattle.core_values.proofs.Good.{components_are_sized}
use Rattle.core_values.proofs.Same.{leaves_many}
use Rattle.lowering.specs.Knowns.{Scope, width}
use Rattle.lowering.specs.Telling.{Sized, Worth, Along, no_size, in_sized, all_along, Row_told, scalar_told, tuple_told, record_told, array_told, data_told, rows_told, Rows_told, no_part_told, part_and_told, Named_told, no_field_told, field_and_told, Extent_told, nowhere_told, exactly_told, worth_told, length_told, counted_told, Tells, tell_none, tell_worth, tell_along, All_tell, all_told_none, all_told_more}
use Rattle.lowering.proofs.Deeds.{row_shaped}
use Rattle.lowering.proofs.Runs.{run, alike_runs}
use Rattle.lowering.proofs.Scalars.{scalar_found, one_data}
use Rattle.lowering.proofs.Stands.{both_on, Have, Has, Holds, Extends, extends_same, extends_on, has_on, lowers_found, operand_found, new_bind, new_grows}

-- ---- what a size is worth

-- an integer, which counts as a number of rows
pub data Counts (e : Env) (n : ℕ) : Sized → ℕ → Type 0 where
  worth_counts : {u : Atom} {s : Scalar} {z : ℤ} → Has e n u (One s) → integer_of_scalar s ≡ Val z → Counts e n (Worth u) (count_of z)
  along_counts : {u : Atom} {c : Component} {j k : ℕ} → Has e n u c → slice_get (sizes c) j ≡ Some k → Counts e n (Along u j) k

abbrev pub All_count : Env → ℕ → List (List Sized) → List (List ℕ) → Type 0
All_count e n = All_same (All_same (Counts e n))

module _ {d e : Env} {n m : ℕ} (x : Extends n d e) (le : n ≤ m) where
  counts_on : {s : Sized} {k : ℕ} → Counts d n s k → Counts e m s k
  counts_on (worth_counts {u = u} h q) = worth_counts (has_on x le u h) q
  counts_on (along_counts {u = u} h q) = along_counts (has_on x le u h) q

  all_counts_on : {ss : List Sized} {ks : List ℕ} → All_same (Counts d n) ss ks → All_same (Counts e m) ss ks
  all_counts_on all_none = all_none
  all_counts_on (all_more c a) = all_more (counts_on c) (all_counts_on a)

  pub all_count_on : {sss : List (List Sized)} {kss : List (List ℕ)} → All_count d n sss kss → All_count e m sss kss
  all_count_on all_none = all_none
  all_count_on (all_more c a) = all_more (all_counts_on c) (all_count_on a)

nothing_counts : (e : Env) (n : ℕ) → Counts e n no_size 0
nothing_counts e n = worth_counts {s = scalar.Int I64 0} (record { value = refl; below = tt }) refl

-- ---- rows

-- ranks are those of the type
abbrev ranks : List (List ℕ) → List ℕ
ranks [] = []
ranks (ds ∷ dss) = length ds ∷ ranks dss

same_head : {x y : ℕ} {xs ys : List ℕ} → x ∷ xs ≡ y ∷ ys → x ≡ y
same_head e = cc

same_tail : {x y : ℕ} {xs ys : List ℕ} → x ∷ xs ≡ y ∷ ys → xs ≡ ys
same_tail e = cc

ranks_more : (ds es fs gs : List (List ℕ)) → ranks ds ≡ ranks es → ranks fs ≡ ranks gs → ranks (ds ++ fs) ≡ ranks (es ++ gs)
ranks_more [] [] fs gs e f = f
ranks_more [] (k ∷ es) fs gs e f = absurd (let z : [] ≡ length k ∷ ranks es = e in cc)
ranks_more (d ∷ ds) [] fs gs e f = absurd (let z : length d ∷ ranks ds ≡ [] = e in cc)
ranks_more (d ∷ ds) (k ∷ es) fs gs e f = ap (λ z. z ∷ ranks (ds ++ fs)) (same_head e) ∙ ap (λ z. length k ∷ z) (ranks_more ds es fs gs (same_tail e) f)

longer_ranks : (n m : ℕ) (ds es : List (List ℕ)) → ranks ds ≡ ranks es → ranks (map (λ sizes. n ∷ sizes) ds) ≡ ranks (map (λ sizes. m ∷ sizes) es)
longer_ranks n m [] [] e = refl
longer_ranks n m [] (k ∷ es) e = absurd (let z : [] ≡ length k ∷ ranks es = e in cc)
longer_ranks n m (d ∷ ds) [] e = absurd (let z : length d ∷ ranks ds ≡ [] = e in cc)
longer_ranks n m (d ∷ ds) (k ∷ es) e = ap (λ z. suc z ∷ ranks (map (λ sizes. n ∷ sizes) ds)) (same_head e) ∙ ap (λ z. suc (length k) ∷ z) (longer_ranks n m ds es (same_tail e))

rows_ranks : (n m : ℕ) (ds es : List (List ℕ)) → ranks ds ≡ ranks es → ranks (in_rows n ds) ≡ ranks (in_rows m es)
rows_ranks n m [] [] e = refl
rows_ranks n m [] (k ∷ es) e = absurd (let z : [] ≡ length k ∷ ranks es = e in cc)
rows_ranks n m (d ∷ ds) [] e = absurd (let z : length d ∷ ranks ds ≡ [] = e in cc)
rows_ranks n m (d ∷ ds) (k ∷ es) e = longer_ranks n m (d ∷ ds) (k ∷ es) e

mutual
  unfolding leaves all_leaves named_leaves

  ranks_same : {h k : Shape} → One_type h k → ranks (leaves h) ≡ ranks (leaves k)
  ranks_same scalars = refl
  ranks_same (tuples o) = all_ranks o
  ranks_same (records o) = named_ranks o
  ranks_same (arrays {n} {m} {h} {k} o) = rows_ranks n m (leaves h) (leaves k) (ranks_same o)

  all_ranks : {hs ks : Shapes} → All_one_type hs ks → ranks (all_leaves hs) ≡ ranks (all_leaves ks)
  all_ranks no_part = refl
  all_ranks (part_and {h} {k} {hs} {ks} o p) = ranks_more (leaves h) (leaves k) (all_leaves hs) (all_leaves ks) (ranks_same o) (all_ranks p)

  named_ranks : {hs ks : Named_shapes} → Named_one_type hs ks → ranks (named_leaves hs) ≡ ranks (named_leaves ks)
  named_ranks no_field = refl
  named_ranks (field_and {h = h} {k} {hs} {ks} o p) = ranks_more (leaves h) (leaves k) (named_leaves hs) (named_leaves ks) (ranks_same o) (named_ranks p)

-- ---- the sizes of components

module _ {e : Env} {n : ℕ} where
  along_from : {u : Atom} {c : Component} → Has e n u c → (ks : List ℕ) (i : ℕ) → ((j k : ℕ) → slice_get ks j ≡ Some k → slice_get (sizes c) (i + j) ≡ Some k) → All_same (Counts e n) (map (Along u) (counts (length ks) i)) ks
  along_from h [] i g = all_none
  along_from {c = c} h (k ∷ ks) i g =
      all_more (along_counts h (subst (λ z. slice_get (sizes c) z ≡ Some k) (omega arith) (g 0 k refl)))
      (along_from h ks (suc i) (λ j l q. subst (λ z. slice_get (sizes c) z ≡ Some l) (omega arith) (g (suc j) l q)))

  along_all : (dss : List (List ℕ)) {us : List Atom} (cs : Row) → Have e n us cs → ranks dss ≡ ranks (all_sizes cs) → All_count e n (all_along dss us) (all_sizes cs)
  along_all [] _ all_none q = all_none
  along_all [] (c ∷ cs) a q = absurd (let z : [] ≡ length (sizes c) ∷ ranks (all_sizes cs) = q in cc)
  along_all (ds ∷ dss) [] a q = absurd (let z : length ds ∷ ranks dss ≡ [] = q in cc)
  along_all (ds ∷ dss) (c ∷ cs) (all_more {x = u} h a) q =
      all_more (subst (λ z. All_same (Counts e n) (map (Along u) (counts z 0)) (sizes c)) (sym (same_head q)) (along_from h (sizes c) 0 (λ j k g. subst (λ z. slice_get (sizes c) z ≡ Some k) (omega arith) g))) (along_all dss cs a (same_tail q))

  in_sized_counts : {s : Sized} {k : ℕ} {sss : List (List Sized)} {dss : List (List ℕ)} → Counts e n s k → All_count e n sss dss → All_count e n (in_sized s sss) (in_rows k dss)
  in_sized_counts c all_none = all_more (all_more c (all_more (nothing_counts e n) all_none)) all_none
  in_sized_counts {s} {k} c (all_more b a) = longer (all_more b a)
    where
      longer : {sss : List (List Sized)} {dss : List (List ℕ)} → All_count e n sss dss → All_count e n (map (λ ss. s ∷ ss) sss) (map (λ sizes. k ∷ sizes) dss)
      longer all_none = all_none
      longer (all_more b a) = all_more (all_more c b) (longer a)

  shorter : (k : ℕ) {sss : List (List Sized)} (dss : List (List ℕ)) → All_count e n sss (map (λ sizes. k ∷ sizes) dss) → All_count e n (map (drop 1) sss) dss
  shorter k [] all_none = all_none
  shorter k (d ∷ dss) (all_more (all_more c b) a) = all_more b (shorter k dss a)

  behind : (k w : ℕ) {sss : List (List Sized)} (dss : List (List ℕ)) → w ≡ length dss → All_count e n sss (in_rows k dss) → All_count e n (map (drop 1) (of_width w sss)) dss
  behind k zero [] q a = all_none
  behind k zero (d ∷ dss) q a = absurd (omega (arith, q))
  behind k (suc w) [] q a = absurd (omega (arith, q))
  behind k (suc w) (d ∷ dss) q a = shorter k (d ∷ dss) a

  first_counts : {k : ℕ} {s : Sized} {ss : List Sized} {sss : List (List Sized)} (dss : List (List ℕ)) → All_count e n ((s ∷ ss) ∷ sss) (in_rows k dss) → Counts e n s k
  first_counts [] (all_more (all_more c b) a) = c
  first_counts (d ∷ dss) (all_more (all_more c b) a) = c

-- ---- rows that are told

pub record Shown (e : Env) (n : ℕ) (h : Shape) (sss : List (List Sized)) (o : Out Shape) : Type 0 where
  pub shape : Shape
  pub is : o ≡ Val shape
  pub typed : One_type h shape
  pub sized : All_count e n sss (leaves shape)

record Parts_shown (e : Env) (n : ℕ) (hs : Shapes) (sss : List (List Sized)) (o : Out Shapes) : Type 0 where
  shapes : Shapes
  is : o ≡ Val shapes
  typed : All_one_type hs shapes
  sized : All_count e n sss (all_leaves shapes)

record Fields_shown (e : Env) (n : ℕ) (hs : Named_shapes) (sss : List (List Sized)) (o : Out Named_shapes) : Type 0 where
  shapes : Named_shapes
  is : o ≡ Val shapes
  typed : Named_one_type hs shapes
  sized : All_count e n sss (named_leaves shapes)

pub record Extent_shown (e : Env) (n : ℕ) (s : Sized) (o : Out (Option ℤ)) : Type 0 where
  pub worth : Option ℤ
  pub is : o ≡ Val worth
  pub counts : Counts e n s (count worth)

rows_case : {e : Env} {n z : ℕ} {h : Shape} {sss : List (List Sized)} {o : Out Shape} (k : Shape) → One_type (Array_shape z h) k → All_count e n sss (leaves k) → o ≡ Val k → Shown e n h (map (drop 1) (of_width (width h) sss)) (and_then o (λ h. Val (places.row_of h)))
unfolding leaves
rows_case {h = h} _ (arrays {m = m} {k = k} o) a q = record { shape = k; is = ap (λ z. and_then z (λ h. Val (places.row_of h))) q; typed = o; sized = behind m (width h) (leaves k) (leaves_many o) a }

length_case : {e : Env} {n z : ℕ} {h : Shape} {s : Sized} {ss : List Sized} {sss : List (List Sized)} {o : Out Shape} (k : Shape) → One_type (Array_shape z h) k → All_count e n ((s ∷ ss) ∷ sss) (leaves k) → o ≡ Val k → Extent_shown e n s (and_then o (λ h. Val (Some (pos (places.size_of h)))))
unfolding leaves
length_case _ (arrays {m = m} {k = k} o) a q = record { worth = Some (pos m); is = ap (λ z. and_then z (λ h. Val (Some (pos (places.size_of h))))) q; counts = first_counts (leaves k) a }

worth_case : {e : Env} {n : ℕ} {w : Atom} {t : IntType} {o : Out Datum} (s : Scalar) → type_of s ≡ sort.Int t → Has e n w (One s) → o ≡ Val (Scalar_datum s) → Extent_shown e n (Worth w) (and_then o (λ d. Val (sizes_of.datum_worth d)))
worth_case (scalar.Int t m) e h q = record { worth = Some (integer_of t m); is = ap (λ z. and_then z (λ d. Val (sizes_of.datum_worth d))) q; counts = worth_counts h refl }
worth_case {t = t} (scalar.Bool b) e h q = absurd (let z : sort.Bool ≡ sort.Int t = e in cc)

exact_counts : (e : Env) (n k : ℕ) → k < 2 ^ 64 → Counts e n (Worth (atom.Constant (scalar.Int U64 k))) k
exact_counts e n k lt = subst (Counts e n (Worth (atom.Constant (scalar.Int U64 k)))) (mod-eq_of_lt lt) (worth_counts {s = scalar.Int U64 (k % 2 ^ 64)} {z = pos (k % 2 ^ 64)} (record { value = refl; below = tt }) refl)

module _ {d : Env} {n : ℕ} {sc : Scope} {env : Names Datum} (k : Holds d n sc env) where
  mutual
    unfolding leaves all_leaves named_leaves

    pub row_shown : {r : Told_row} {h : Shape} {sss : List (List Sized)} → Row_told sc r h sss → Shown d n h sss (source.row_shape env r)
    row_shown (scalar_told {t = t}) = record { shape = Scalar_shape t; is = refl; typed = scalars; sized = all_more all_none all_none }
    row_shown (tuple_told t) = let s = rows_shown t in record { shape = Tuple_shape s.shapes; is = ap (λ z. and_then z (λ hs. Val (Tuple_shape hs))) s.is; typed = tuples s.typed; sized = s.sized }
    row_shown (record_told t) = let s = named_shown t in record { shape = Record_shape s.shapes; is = ap (λ z. and_then z (λ hs. Val (Record_shape hs))) s.is; typed = records s.typed; sized = s.sized }
    row_shown (array_told {e = e} {r = r} x t) =
        let a = extent_shown x in
        let s = row_shown t in
        record {
          shape = Array_shape (count a.worth) s.shape;
          is = ap (λ z. and_then z (λ z. and_then (source.row_shape env r) (λ h. Val (Array_shape (count z) h)))) a.is ∙ ap (λ z. and_then z (λ h. Val (Array_shape (count a.worth) h))) s.is;
          typed = arrays s.typed;
          sized = in_sized_counts a.counts s.sized;
        }
    row_shown (data_told {h = h} {us = us} l) =
        let f = lowers_found k l in
        record {
          shape = shape_of f.datum;
          is = ap (λ z. and_then z (λ d. Val (shape_of d))) f.is;
          typed = f.is_data.typed;
          sized = subst (λ z. All_count d n (all_along (leaves h) us) z) (components_are_sized f.datum f.is_data.regular) (along_all (leaves h) (components f.datum) f.have (ranks_same f.is_data.typed ∙ ap ranks (sym (components_are_sized f.datum f.is_data.regular))));
        }
    row_shown (rows_told t) = let s = row_shown t in rows_case s.shape s.typed s.sized s.is

    rows_shown : {rs : Rows} {hs : Shapes} {sss : List (List Sized)} → Rows_told sc rs hs sss → Parts_shown d n hs sss (sizes_of.row_shapes env rs)
    rows_shown no_part_told = record { shapes = no_shape; is = refl; typed = no_part; sized = all_none }
    rows_shown (part_and_told {rs = rs} t ts) =
        let s = row_shown t in
        let r = rows_shown ts in
        record {
          shapes = shape_and s.shape r.shapes;
          is = ap (λ z. and_then z (λ h. and_then (sizes_of.row_shapes env rs) (λ hs. Val (shape_and h hs)))) s.is ∙ ap (λ z. and_then z (λ hs. Val (shape_and s.shape hs))) r.is;
          typed = part_and s.typed r.typed;
          sized = both_on s.sized r.sized;
        }

    named_shown : {fs : Named_rows} {hs : Named_shapes} {sss : List (List Sized)} → Named_told sc fs hs sss → Fields_shown d n hs sss (sizes_of.named_shapes env fs)
    named_shown no_field_told = record { shapes = no_named_shape; is = refl; typed = no_field; sized = all_none }
    named_shown (field_and_told {f = f} {rs = rs} t ts) =
        let s = row_shown t in
        let r = named_shown ts in
        record {
          shapes = named_shape_and f s.shape r.shapes;
          is = ap (λ z. and_then z (λ h. and_then (sizes_of.named_shapes env rs) (λ hs. Val (named_shape_and f h hs)))) s.is ∙ ap (λ z. and_then z (λ hs. Val (named_shape_and f s.shape hs))) r.is;
          typed = field_and s.typed r.typed;
          sized = both_on s.sized r.sized;
        }

    pub extent_shown : {e : Extent} {s : Sized} → Extent_told sc e s → Extent_shown d n s (source.extent_worth env e)
    extent_shown nowhere_told = record { worth = None; is = refl; counts = nothing_counts d n }
    extent_shown (exactly_told {n = m} lt) = record { worth = Some (pos m); is = refl; counts = exact_counts d n m lt }
    extent_shown (worth_told o) = let f = scalar_found (operand_found k o) in worth_case f.scalar f.typed f.has f.is
    extent_shown (length_told t) = let s = row_shown t in length_case s.shape s.typed s.sized s.is
    extent_shown (counted_told {e = e} {r = r} x i) =
        let a = extent_shown x in
        let s = row_shaped k r i in
        record {
          worth = Some (pos (count a.worth));
          is = ap (λ z. and_then z (λ h. Val (Some (pos (places.size_of h))))) (ap (λ z. and_then z (λ z. and_then (source.row_shape env r) (λ h. Val (Array_shape (count z) h)))) a.is ∙ ap (λ z. and_then z (λ h. Val (Array_shape (count a.worth) h))) s.is);
          counts = a.counts;
        }

-- ---- the steps that read sizes

-- an integer of an atom, which counts as a number of rows
pub data Told_atom (e : Env) (n : ℕ) : Atom → ℕ → Type 0 where
  told_atom : {u : Atom} {s : Scalar} {z : ℤ} → Has e n u (One s) → integer_of_scalar s ≡ Val z → Told_atom e n u (count_of z)

pub record Told_run (budget : ℕ) (tight : Bool) (e : Env) (n : ℕ) (bs : List (List Var × Action)) (us : List Atom) (ks : List ℕ) (m : ℕ) : Type 0 where
  pub env : Env
  pub runs : Alike (run tight budget bs e) (gives 0 env)
  pub extends : Extends n e env
  pub grows : n ≤ m
  pub atoms : All_same (Told_atom env m) us ks

module _ (tight : Bool) (budget : ℕ) where
  told_on : {d e : Env} {n m : ℕ} → Extends n d e → n ≤ m → {u : Atom} {k : ℕ} → Told_atom d n u k → Told_atom e m u k
  told_on x le (told_atom {u = u} h q) = told_atom (has_on x le u h) q

  all_told_on : {d e : Env} {n m : ℕ} → Extends n d e → n ≤ m → {us : List Atom} {ks : List ℕ} → All_same (Told_atom d n) us ks → All_same (Told_atom e m) us ks
  all_told_on x le all_none = all_none
  all_told_on x le (all_more t a) = all_more (told_on x le t) (all_told_on x le a)

  -- a size that is read
  dimension_step : (e : Env) (u : Atom) (j : ℕ) (at : Place) (x : Var) {k : ℕ} {env : Env} {c : Component} → value_of e u ≡ Val c → slice_get (sizes c) j ≡ Some k → bound (map number (x ∷ [])) (One (scalar.Int U64 k) ∷ []) e ≡ Some env → Alike (Then (act_means tight false budget (Operate (operation.Dimension u j) at) e) (λ cs. named (x ∷ []) cs e)) (gives 0 env)
  unfolding act_means operated
  dimension_step e u j at x {k} {env} {c} q r b =
      subst (λ z. Alike (Then (the z) (λ cs. named (x ∷ []) cs e)) (gives 0 env)) (sym (ap (λ z. and_then z (λ c. and_then (or_wrong (slice_get (sizes c) j)) (λ n. one (Val (scalar.Int U64 n))))) q ∙ ap (λ z. and_then (or_wrong z) (λ n. one (Val (scalar.Int U64 n)))) r))
      (subst (λ z. Alike (Then (gives 0 (One (scalar.Int U64 k) ∷ [])) (λ cs. named (x ∷ []) cs e)) (the (or_wrong z))) b (alike_value (One (scalar.Int U64 k) ∷ []) (λ cs. named (x ∷ []) cs e)))

  tells_run : {ss : List Sized} {n m : ℕ} {bs : List (List Var × Action)} {us : List Atom} {e : Env} {ks : List ℕ} → Tells ss n bs us m → All_same (Counts e n) ss ks → Told_run budget tight e n bs us ks m
  unfolding run
  tells_run {n = n} {e = e} tell_none all_none = record { env = e; runs = alike_same _; extends = extends_same n e; grows = omega arith; atoms = all_none }
  tells_run (tell_worth {u = u} t) (all_more (worth_counts h q) a) =
      let r = tells_run t a in
      record { env = r.env; runs = r.runs; extends = r.extends; grows = r.grows; atoms = all_more (told_atom (has_on r.extends r.grows u h) q) r.atoms }
  tells_run {e = e} (tell_along {u = u} {j = j} {at = at} {x = x} {bs = bs} w t) (all_more (along_counts {k = k} h q) a) =
      let p = one_data (scalar.Int U64 k) refl in
      let b = new_bind e w p.data_are in
      let r = tells_run t (all_counts_on b.extends (new_grows w) a) in
      let le = new_grows w in
      record {
        env = r.env;
        runs = alike_on (alike_then (dimension_step e u j at x h.value q (ap (λ z. bound (map number (x ∷ [])) z e) p.are ∙ b.is)) (λ e. alike_same (run tight budget bs e))) (alike_on (alike_value b.env (run tight budget bs)) r.runs);
        extends = extends_on le b.extends r.extends;
        grows = omega (arith, le, r.grows);
        atoms = all_more (told_on r.extends r.grows (told_atom {s = scalar.Int U64 k} (first_has b.have p.are) refl)) r.atoms;
      }
    where
      first_has : {e : Env} {n : ℕ} {u : Atom} {c : Component} {cs : Row} → Have e n (u ∷ []) cs → c ∷ [] ≡ cs → Has e n u c
      first_has {e} {n} {u} {c} a q = by (subst (λ z. Have e n (u ∷ []) z) (sym q) a)
        where
          by : Have e n (u ∷ []) (c ∷ []) → Has e n u c
          by (all_more h b) = h

pub record All_run (budget : ℕ) (tight : Bool) (e : Env) (n : ℕ) (bs : List (List Var × Action)) (uss : List (List Atom)) (kss : List (List ℕ)) (m : ℕ) : Type 0 where
  pub env : Env
  pub runs : Alike (run tight budget bs e) (gives 0 env)
  pub extends : Extends n e env
  pub grows : n ≤ m
  pub atoms : All_same (All_same (Told_atom env m)) uss kss

pub all_tell_run : (tight : Bool) (budget : ℕ) {sss : List (List Sized)} {n m : ℕ} {bs : List (List Var × Action)} {uss : List (List Atom)} {e : Env} {kss : List (List ℕ)} → All_tell sss n bs uss m → All_count e n sss kss → All_run budget tight e n bs uss kss m
unfolding run
all_tell_run tight budget {n = n} {e = e} all_told_none all_none = record { env = e; runs = alike_same _; extends = extends_same n e; grows = omega arith; atoms = all_none }
all_tell_run tight budget {e = e} (all_told_more {bs = bs} {cs = cs} t ts) (all_more a b) =
    let r = tells_run tight budget t a in
    let s = all_tell_run tight budget ts (all_count_on r.extends r.grows b) in
    record {
      env = s.env;
      runs = alike_on (alike_back (alike_runs tight budget bs cs e)) (alike_on (alike_then r.runs (λ e. alike_same (run tight budget cs e))) (alike_on (alike_value r.env (run tight budget cs)) s.runs));
      extends = extends_on r.grows r.extends s.extends;
      grows = omega (arith, r.grows, s.grows);
      atoms = all_more (all_told_on tight budget s.extends s.grows r.atoms) s.atoms;
    }

-- and how they are read
record Read (e : Env) (us : List Atom) (ks : List ℕ) : Type 0 where
  row : Row
  numbers : List ℤ
  values : values_of e us ≡ Val row
  exact : each_out exact_in row ≡ Val numbers
  counted : map count_of numbers ≡ ks

atoms_read : {e : Env} {n : ℕ} {us : List Atom} {ks : List ℕ} → All_same (Told_atom e n) us ks → Read e us ks
atoms_read all_none = record { row = []; numbers = []; values = refl; exact = refl; counted = refl }
atoms_read {e} (all_more {xs = us} (told_atom {s = s} {z = z} h q) a) =
    let r = atoms_read a in
    record {
      row = One s ∷ r.row;
      numbers = z ∷ r.numbers;
      values = ap (λ z. and_then z (λ c. and_then (values_of e us) (λ cs. Val (c ∷ cs)))) h.value ∙ ap (λ z. and_then z (λ cs. Val (One s ∷ cs))) r.values;
      exact = ap (λ z. and_then z (λ y. and_then (each_out exact_in r.row) (λ ys. Val (y ∷ ys)))) q ∙ ap (λ x. and_then x (λ ys. Val (z ∷ ys))) r.exact;
      counted = ap (λ y. count_of z ∷ y) r.counted;
    }

pub record Groups_read (e : Env) (uss : List (List Atom)) (kss : List (List ℕ)) : Type 0 where
  pub rows : List Row
  pub values : groups_of e uss ≡ Val rows
  pub told : all_told rows ≡ Val kss

pub groups_read : {e : Env} {n : ℕ} {uss : List (List Atom)} {kss : List (List ℕ)} → All_same (All_same (Told_atom e n)) uss kss → Groups_read e uss kss
groups_read all_none = record { rows = []; values = refl; told = refl }
groups_read {e} (all_more {x' = ks} {xs = uss} a b) =
    let r = atoms_read a in
    let s = groups_read b in
    record {
      rows = r.row ∷ s.rows;
      values = ap (λ z. and_then z (λ cs. and_then (groups_of e uss) (λ css. Val (cs ∷ css)))) r.values ∙ ap (λ z. and_then z (λ css. Val (r.row ∷ css))) s.values;
      told = ap (λ z. and_then (and_then z (λ zs. Val (map count_of zs))) (λ y. and_then (all_told s.rows) (λ ys. Val (y ∷ ys)))) r.exact ∙ ap (λ z. and_then (all_told s.rows) (λ ys. Val (z ∷ ys))) r.counted ∙ ap (λ z. and_then z (λ ys. Val (ks ∷ ys))) s.told;
    }

-- ---- their sorts

tells_grow : {ss : List Sized} {n m : ℕ} {bs : List (List Var × Action)} {us : List Atom} → Tells ss n bs us m → n ≤ m
tells_grow tell_none = omega arith
tells_grow (tell_worth t) = tells_grow t
tells_grow (tell_along w t) = let x = new_grows w in let y = tells_grow t in omega (arith, x, y)

pub all_tell_grow : {sss : List (List Sized)} {n m : ℕ} {bs : List (List Var × Action)} {uss : List (List Atom)} → All_tell sss n bs uss m → n ≤ m
all_tell_grow all_told_none = omega arith
all_tell_grow (all_told_more t ts) = let x = tells_grow t in let y = all_tell_grow ts in omega (arith, x, y)
