-- Functions and operators on rows: where they cover those on data, so do the steps that apply them.
use Rattle.std.proofs.Common.{◌≡◌, ℕ, ◌++◌, Bool, true, false, List, [], ◌∷◌, map, refl, sym, ap, ◌∙◌, subst, arith}
use Rattle.fut_scalar.specs.declared.place.Place.{Place}
use Rattle.fut_value.specs.Data.{Shape, Array_shape, Datum, Array_datum, datums, shape_of}
use Rattle.fut_value.specs.Data as shape
use Rattle.fut_value.specs.Leaves.{leaves}
use Rattle.fut_meaning.specs.Arrays.{Counted, all_fresh, all_shared}
use Rattle.fut_meaning.specs.Arrays as source
use Rattle.fut_meaning.specs.Jobs.{In_order, Reordered, order_kept, order_on, order_swapped, order_then, all_of, Applied, two_of, Reduces, reduces, finished, array_of_results, prefixes_on}
use Rattle.fut_meaning.specs.Outcomes.{Out, Val, Fail, Wrong, Rel, gives, the, Then, each_of, Bracket}
use Rattle.fut_meaning.specs.Sames.{All_same, all_none, all_more, same_value}
use Rattle.fut_meaning.proofs.Sims.{append_same}
use Rattle.steps_simulate.specs.Covers.{Covers, Covered, covered}
use Rattle.steps_simulate.proofs.Covers.{covers_exact, covers_more_words, covers_then, covers_each, covers_all, covers_bracket, covers_known_left, covers_known_right, covers_report, covers_wrong, report_covers, wrong_covers}
use Rattle.core_ir.specs.Bundles.{Row, array_words, glued}
use Rattle.core_ir.specs.Lists as rows
use Rattle.core_ir.specs.Meaning.{Results, counted, Reduction, reduction}
use Rattle.core_values.specs.Components.{components, One_type, Regular, Of_type, none_of, one_of, Components_of}
use Rattle.core_values.specs.Claims.{apart}
use Rattle.core_values.proofs.Counts.{counts_agree}
use Rattle.core_values.proofs.Making.{arrays_are_made, made_are_regular, made_are_typed}

-- ---- lists of rows

pub row_list : {h : Shape} {rs : List Row} {ds : List Datum} → All_same (Components_of h) rs ds → rs ≡ map components ds
row_list all_none = refl
row_list (all_more {x' = d} {xs = rs} p a) = ap (λ z. z ∷ rs) p.are ∙ ap (λ z. components d ∷ z) (row_list a)

pub row_types : {h : Shape} {rs : List Row} {ds : List Datum} → All_same (Components_of h) rs ds → Of_type h ds
row_types all_none = none_of
row_types (all_more p a) = one_of p.regular p.typed (row_types a)

-- ---- what comes out

-- the same outcome, whose words are counted on both sides
pub fresh_covers : (k : Shape) (p : Out Datum) → ((d : Datum) → p ≡ Val d → Regular d) → ((d : Datum) → p ≡ Val d → One_type k (shape_of d)) → Covers (Components_of k) (counted (apart p)) (Then (the (all_fresh p)) (λ r. gives r.0 r.1))
fresh_covers k (Val d) g o =
    covers_known_left (Val (components d)) (components d) (λ bs. gives (array_words bs) bs) _ refl
    (covers_known_right (Val (shape.array_words (shape_of d), d)) (shape.array_words (shape_of d), d) (λ r. gives r.0 r.1) _ refl
    (covers_more_words (let e = counts_agree d (g d refl) in omega (arith, e)) (same_value (record { are = refl; regular = g d refl; typed = o d refl }))))
fresh_covers k (Fail r) g o = covers_report r _ _
fresh_covers k Wrong g o = covers_wrong _ _

-- or on neither
pub shared_covers : (k : Shape) (p : Out Datum) → ((d : Datum) → p ≡ Val d → Regular d) → ((d : Datum) → p ≡ Val d → One_type k (shape_of d)) → Covers (Components_of k) (the (apart p)) (Then (the (all_shared p)) (λ r. gives r.0 r.1))
shared_covers k (Val d) g o = covers_known_right (Val (0, d)) (0, d) (λ r. gives r.0 r.1) _ refl (covers_exact (same_value (record { are = refl; regular = g d refl; typed = o d refl })))
shared_covers k (Fail r) g o = report_covers r _
shared_covers k Wrong g o = wrong_covers _

-- ---- arrays of results

pub made_covers : (misfit : Bool) (at : Place) (told : Shape) {rs : List Row} {ds : List Datum} → One_type told told → All_same (Components_of told) rs ds → Covers (Components_of (Array_shape 0 told)) (counted (glued misfit at (leaves told) rs)) (finished (array_of_results misfit told at) ds)
made_covers misfit at told {rs} {ds} t a =
    subst (λ z. Covers (Components_of (Array_shape 0 told)) (counted (glued misfit at (leaves told) z)) (finished (array_of_results misfit told at) ds)) (sym (row_list a))
    (subst (λ z. Covers (Components_of (Array_shape 0 told)) (counted z) (finished (array_of_results misfit told at) ds)) (sym (arrays_are_made misfit at told ds t (row_types a)))
    (fresh_covers (Array_shape 0 told) (source.array misfit at told ds) (made_are_regular misfit at told ds t (row_types a)) (made_are_typed misfit at told ds t (row_types a))))

-- a function on each row
pub map_covers : {A : Type 0} (misfit : Bool) (at : Place) (told : Shape) (R : Row → A → Type 0) (g : Row → Results) (f : A → Rel Datum) {rs : List Row} {args : List A} → One_type told told → ((r : Row) (a : A) → R r a → Covers (Components_of told) (g r) (f a)) → All_same R rs args → Covers (Components_of (Array_shape 0 told)) (Then (each_of g rs) (λ rows. counted (glued misfit at (leaves told) rows))) (Then (each_of f args) (finished (array_of_results misfit told at)))
map_covers misfit at told R g f t l a = covers_then (covers_each l a) (λ rows ds b. made_covers misfit at told t b)

-- ---- reductions

record Reorders {A A' : Type 0} (r : A → A' → Type 0) (ys : List A) (xs' : List A') : Type 0 where
  order : List A'
  are : Reordered xs' order
  same : All_same r ys order

reordered : {A A' : Type 0} {r : A → A' → Type 0} {xs ys : List A} {xs' : List A'} → Reordered xs ys → All_same r xs xs' → Reorders r ys xs'
reordered {xs' = xs'} order_kept a = record { order = xs'; are = order_kept; same = a }
reordered (order_on o) (all_more {x' = y} s a) = let b = reordered o a in record { order = y ∷ b.order; are = order_on b.are; same = all_more s b.same }
reordered order_swapped (all_more {x' = y} s (all_more {x' = z} {xs' = zs} t a)) = record { order = z ∷ y ∷ zs; are = order_swapped; same = all_more t (all_more s a) }
reordered (order_then o o') a = let b = reordered o a in let c = reordered o' b.same in record { order = c.order; are = order_then b.are c.are; same = c.same }

in_order : {A A' : Type 0} {r : A → A' → Type 0} (any : Bool) {xs ys : List A} {xs' : List A'} → In_order any xs ys → All_same r xs xs' → (zs : List A') × In_order any xs' zs × All_same r ys zs
in_order {r = r} false {xs' = xs'} e a = (xs', refl, subst (λ z. All_same r z xs') e a)
in_order true o a = let b = reordered o a in (b.order, b.are, b.same)

-- nothing is asked of an operator
abbrev pub Any_operator : Datum → List Datum → Type 0
Any_operator ne ds = Unit {0}

module _ (tight any : Bool) (h : Shape) (op : Row → Row → Results) (f : Applied) (l : (p q : Row) (d e : Datum) → Components_of h p d → Components_of h q e → Covers (Components_of h) (op p q) (two_of f d e)) {ne : Row} {ne' : Datum} (n : Components_of h ne ne') where
  by_order : {ds zs : List Datum} (o : Out Row) (g : ℕ) → In_order any ds zs → Covered (Components_of h) (Bracket tight (two_of f) ne' zs) o g → Covered (Components_of h) (Reduces tight any Any_operator f ne' ds) o g
  by_order o g i (covered o' k x le s) = covered o' k (reduces tt i x) le s

  reduction_goes : {rs : List Row} {ds : List Datum} → All_same (Components_of h) rs ds → (o : Out Row) (g : ℕ) → Reduction tight any op ne rs o g → Covered (Components_of h) (Reduces tight any Any_operator f ne' ds) o g
  reduction_goes a _ _ (reduction {o = o} {f = g} i x) =
      let z = in_order any i a in by_order o g z.1 ((covers_bracket tight n (λ p d q e s t. l p q d e s t) z.2).each o g x)

  pub reduction_covers : {rs : List Row} {ds : List Datum} → All_same (Components_of h) rs ds → Covers (Components_of h) (Reduction tight any op ne rs) (Reduces tight any Any_operator f ne' ds)
  reduction_covers a = record { each = reduction_goes a }

  pub reductions_cover : {rss : List (List Row)} {dss : List (List Datum)} → All_same (All_same (Components_of h)) rss dss → Covers (All_same (Components_of h)) (all_of (Reduction tight any op ne) rss) (all_of (Reduces tight any Any_operator f ne') dss)
  reductions_cover a = covers_all (λ rs ds b. reduction_covers b) a

pub prefixes_same : {A A' : Type 0} {r : A → A' → Type 0} {done xs : List A} {done' xs' : List A'} → All_same r done done' → All_same r xs xs' → All_same (All_same r) (rows.prefixes_on done xs) (rows.prefixes_on done' xs')
prefixes_same d all_none = all_none
prefixes_same d (all_more s a) = let e = append_same d (all_more s all_none) in all_more e (prefixes_same e a)

-- the prefixes of data are said in the meaning of programs
prefixes_are : (done ds : List Datum) → rows.prefixes_on done ds ≡ prefixes_on done ds
prefixes_are done [] = refl
prefixes_are done (d ∷ ds) = ap (λ z. (done ++ d ∷ []) ∷ z) (prefixes_are (done ++ d ∷ []) ds)

-- the reductions of all prefixes
pub scan_covers : (tight misfit : Bool) (at : Place) (h : Shape) (op : Row → Row → Results) (f : Applied) {ne : Row} {ne' : Datum} {rs : List Row} {ds : List Datum} → One_type h h → ((p q : Row) (d e : Datum) → Components_of h p d → Components_of h q e → Covers (Components_of h) (op p q) (two_of f d e)) → Components_of h ne ne' → All_same (Components_of h) rs ds → Covers (Components_of (Array_shape 0 h)) (Then (all_of (Reduction tight false op ne) (rows.prefixes_on [] rs)) (λ rows. counted (glued misfit at (leaves h) rows))) (Then (all_of (Reduces tight false Any_operator f ne') (prefixes_on [] ds)) (finished (array_of_results misfit h at)))
scan_covers tight misfit at h op f {ne} {ne'} {rs} {ds} t l n a =
    subst (λ z. Covers (Components_of (Array_shape 0 h)) (Then (all_of (Reduction tight false op ne) (rows.prefixes_on [] rs)) (λ rows. counted (glued misfit at (leaves h) rows))) (Then (all_of (Reduces tight false Any_operator f ne') z) (finished (array_of_results misfit h at)))) (prefixes_are [] ds)
    (covers_then (reductions_cover tight false h op f l n (prefixes_same all_none a)) (λ rows es b. made_covers misfit at h t b))
