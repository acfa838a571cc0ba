-- Bundles whose rows stand side by side.
use Rattle.std.proofs.Common.{◌≡◌, ℕ, zero, suc, ◌+◌, ◌<◌, ◌≤◌, List, [], ◌∷◌, ◌++◌, map, length, get_or, take, slice_get, Some, Bor, Ok, Err, Option, Bool, true, false, nat_eq, refl, sym, ap, ◌∙◌, subst, arith, add-one, append_assoc}
use Rattle.std.specs.Prelude.{◌&&◌, ◌==◌}
use Rattle.std.proofs.Math.ListN.{get_or-map}
use Rattle.std.proofs.lemmas.Bool.{eqb-true, eqb-false, eq-eqb, ne_eqb}
use Rattle.std.proofs.lemmas.List.{append-nil, length-map, take_all}
use Rattle.fut_scalar.specs.declared.place.Place.{Place}
use Rattle.fut_scalar.specs.declared.report.FailKind.TheVariants as kind
use Rattle.fut_scalar.specs.declared.report.Report.{Report}
use Rattle.fut_meaning.specs.Arrays.{fitting}
use Rattle.fut_meaning.specs.Operations.{report}
use Rattle.fut_meaning.specs.Outcomes.{Out, Val, Fail, Wrong, and_then}
use Rattle.fut_meaning.specs.Sames.{all_none, all_more}
use Rattle.core_arrays.specs.Arenas.{Array}
use Rattle.core_ir.specs.declared.block.Rows.{Rows}
use Rattle.core_ir.specs.Arrays.{rows_together}
use Rattle.core_ir.specs.Bundles.{Row, rows_of}
use Rattle.core_ir.specs.Lists.{paired}
use Rattle.core_ir.specs.Meaning.{Env, values_of, groups_of, source_rows}
use Rattle.core_ir.specs.Plain.{Bundle, Of_rows, bundle_form}
use Rattle.core_ir.specs.Typed.{Sort, Sorts, Together, one_bundle, and_bundles, Groups_are, Rows_are, Source_gives, rows_give}
use Rattle.core_code.specs.Registers.{State, AllShow, none_shown, Stands}
use Rattle.core_code.specs.declared.stop.Stop.{Stop}
use Rattle.core_code.specs.declared.stop.Stop.TheVariants.{Failed, Memory}
use Rattle.core_code.proofs.Frames.{all_show_on, stands_on}
use Rattle.core_code.proofs.Reading.{show_append}
use Rattle.core_steps.specs.Rows.{BundleTold, bundle_told, bundle_failed, no_bundle, Bundle_counted, Grown, RowPushed, row_pushed, no_row, Bundle_pushed}
use Rattle.core_steps.specs.Sources.{SourceTold, source_told, source_failed, no_source, Source_counted, Source_pushed}
use Rattle.core_steps.proofs.Gathering.{take_get}
use Rattle.core_steps.proofs.Operands.{values_there}
use Rattle.core_steps.proofs.Taking.{grown_same, grown_on}

-- ---- the bundles of a source

-- bundles with rows of sorts, and the values of their arrays
pub data Bundles_are (G : Sorts) (env : Env) : List Bundle → List (List Sort) → List Row → Type 0 where
  no_bundles : Bundles_are G env [] [] []
  bundles_and : {r : Bundle} {rs : List Bundle} {ss : List Sort} {sss : List (List Sort)} {cs : Row} {css : List Row} → Rows_are G r ss → values_of env r.arrays ≡ Val cs → Bundles_are G env rs sss css → Bundles_are G env (r ∷ rs) (ss ∷ sss) (cs ∷ css)

abbrev joined : {A : Type 0} → List (List A) → List A
joined [] = []
joined (xs ∷ []) = xs
joined (xs ∷ ys ∷ xss) = xs ++ joined (ys ∷ xss)

pub record Source_bundles (G : Sorts) (env : Env) (rs : List Bundle) (row : List Sort) : Type 0 where
  pub sorts : List (List Sort)
  pub values : List Row
  pub are : Bundles_are G env rs sorts values
  pub whole : row ≡ joined sorts

pub source_bundles : (G : Sorts) (env : Env) (n : ℕ) (held : List Array) (t : List ℕ) (rs : List Bundle) (row : List Sort) → Stands G env n held t → Source_gives G (Of_rows rs) row → Source_bundles G env rs row
source_bundles G env n held t rs row st (rows_give g k) = by_groups rs row g k
  where
    by_groups : (rs : List Bundle) (row : List Sort) {bss : List (List Sort)} → Groups_are G (map (λ r. r.arrays) rs) bss → Together (map (λ r. r.width) rs) bss row → Source_bundles G env rs row
    by_groups [] row g k = elim k [ ]
    by_groups (r ∷ []) row (all_more a all_none) (one_bundle {bs = bs} b w) =
        let v = values_there G env n held t r.arrays bs st a in
        record { sorts = row ∷ []; values = v.0 ∷ []; are = bundles_and (record { sorts = bs; bundled = b; wide = w; are = a }) v.1 no_bundles; whole = refl }
    by_groups (r ∷ s ∷ rs) _ (all_more a g) (and_bundles {ss = ss} {bs = bs} {rest = rest} b w k) =
        let v = values_there G env n held t r.arrays bs st a in
        by_rest v (by_groups (s ∷ rs) rest g k)
      where
        by_rest : (v : (cs : Row) × (values_of env r.arrays ≡ Val cs)) → Source_bundles G env (s ∷ rs) rest → Source_bundles G env (r ∷ s ∷ rs) (ss ++ rest)
        by_rest v x = by_are x.sorts x.values x.are x.whole
          where
            by_are : (sss : List (List Sort)) (css : List Row) → Bundles_are G env (s ∷ rs) sss css → rest ≡ joined sss → Source_bundles G env (r ∷ s ∷ rs) (ss ++ rest)
            by_are _ _ (bundles_and {ss = ts} {sss = sss} {cs = ds} {css = css} y u m) e = record {
              sorts = ss ∷ ts ∷ sss;
              values = v.0 ∷ ds ∷ css;
              are = bundles_and (record { sorts = bs; bundled = b; wide = w; are = a }) v.1 (bundles_and y u m);
              whole = ap (λ z. ss ++ z) e;
            }

groups_val : (G : Sorts) (env : Env) (rs : List Bundle) (sss : List (List Sort)) (css : List Row) → Bundles_are G env rs sss css → groups_of env (map (λ r. r.arrays) rs) ≡ Val css
groups_val G env _ _ _ no_bundles = refl
groups_val G env _ _ _ (bundles_and {rs = rs} {sss = sss} {cs = cs} {css = css} x v m) =
    ap (λ z. and_then z (λ cs. and_then (groups_of env (map (λ r. r.arrays) rs)) (λ css. Val (cs ∷ css)))) v ∙ ap (λ z. and_then z (λ css. Val (cs ∷ css))) (groups_val G env rs sss css m)

abbrev widths : List Bundle → List ℕ
widths = map (λ r. r.width)

source_is : (at : Place) (G : Sorts) (env : Env) (rs : List Bundle) (sss : List (List Sort)) (css : List Row) → Bundles_are G env rs sss css → source_rows false at env (Of_rows rs) ≡ rows_together false at (widths rs) css
source_is at G env rs sss css m = ap (λ z. and_then z (rows_together false at (widths rs))) (groups_val G env rs sss css m)

-- ---- how many rows they have

abbrev equal_to : ℕ → List ℕ → Bool
equal_to n [] = true
equal_to n (m ∷ ms) = nat_eq m n && equal_to n ms

-- each has rows, so many
pub data Counted (at : Place) : List Bundle → List Row → List ℕ → Type 0 where
  none_counted : Counted at [] [] []
  counted_and : {r : Bundle} {rs : List Bundle} {cs : Row} {css : List Row} {rows : List Row} {ns : List ℕ} → rows_of false at r.width cs ≡ Val rows → Counted at rs css ns → Counted at (r ∷ rs) (cs ∷ css) (length rows ∷ ns)

-- all rows side by side, or the report that they do not fit
pub data Together_is (at : Place) (ws : List ℕ) (css : List Row) (n : ℕ) : Bool → Type 0 where
  together : (rows : List Row) → rows_together false at ws css ≡ Val rows → length rows ≡ n → Together_is at ws css n true
  apart : rows_together false at ws css ≡ Fail (report kind.Size at) → Together_is at ws css n false

paired_many : {A : Type 0} (xs ys : List (List A)) → length xs ≡ length ys → length (paired xs ys) ≡ length xs
paired_many [] ys e = refl
paired_many (x ∷ xs) [] e = absurd (omega (arith, e))
paired_many (x ∷ xs) (y ∷ ys) e = ap suc (paired_many xs ys (omega (arith, e)))

together_counted : (at : Place) (rs : List Bundle) (css : List Row) (n : ℕ) (ns : List ℕ) → Counted at rs css (n ∷ ns) → Together_is at (widths rs) css n (equal_to n ns)
together_counted at _ _ _ _ (counted_and {rows = rows} e none_counted) = together rows e refl
together_counted at _ _ _ _ (counted_and {r = r} {cs = cs} {rows = xs} e (counted_and {r = s} {rs = rs} {cs = ds} {css = css} {rows = ys} {ns = ns} f k)) =
    by_rest (equal_to (length ys) ns) refl (together_counted at (s ∷ rs) (ds ∷ css) (length ys) ns (counted_and f k))
  where
    rest : Out (List Row)
    rest = rows_together false at (widths (s ∷ rs)) (ds ∷ css)

    beside : Out (List Row) → Out (List Row)
    beside o = and_then o (λ ss. fitting false (nat_eq (length xs) (length ss)) at (Val (paired xs ss)))

    whole : (o : Out (List Row)) → rest ≡ o → rows_together false at (widths (r ∷ s ∷ rs)) (cs ∷ ds ∷ css) ≡ beside o
    whole o q = ap (λ z. and_then z (λ rs. and_then rest (λ ss. fitting false (nat_eq (length rs) (length ss)) at (Val (paired rs ss))))) e ∙ ap beside q

    by_test : (zs : List Row) → rest ≡ Val zs → length zs ≡ length ys → equal_to (length ys) ns ≡ true → (b : Bool) → nat_eq (length ys) (length xs) ≡ b → Together_is at (widths (r ∷ s ∷ rs)) (cs ∷ ds ∷ css) (length xs) (nat_eq (length ys) (length xs) && equal_to (length xs) ns)
    by_test zs q l a true t =
        let same : length ys ≡ length xs = eqb-true (length ys) (length xs) t in
        let all : (nat_eq (length ys) (length xs) && equal_to (length xs) ns) ≡ true = ap (λ z. z && equal_to (length xs) ns) t ∙ ap (λ z. equal_to z ns) (sym same) ∙ a in
        let fit : nat_eq (length xs) (length zs) ≡ true = eq-eqb (length xs) (length zs) (sym (l ∙ same)) in
        subst (Together_is at (widths (r ∷ s ∷ rs)) (cs ∷ ds ∷ css) (length xs)) (sym all)
        (together (paired xs zs) (whole (Val zs) q ∙ ap (λ z. fitting false z at (Val (paired xs zs))) fit) (paired_many xs zs (sym (l ∙ same))))
    by_test zs q l a false t =
        let other : nat_eq (length xs) (length zs) ≡ false = ne_eqb (length xs) (length zs) (λ z. eqb-false (length ys) (length xs) t (sym l ∙ sym z)) in
        subst (Together_is at (widths (r ∷ s ∷ rs)) (cs ∷ ds ∷ css) (length xs)) (sym (ap (λ z. z && equal_to (length xs) ns) t))
        (apart (whole (Val zs) q ∙ ap (λ z. fitting false z at (Val (paired xs zs))) other))

    by_apart : rest ≡ Fail (report kind.Size at) → equal_to (length ys) ns ≡ false → (b : Bool) → nat_eq (length ys) (length xs) ≡ b → Together_is at (widths (r ∷ s ∷ rs)) (cs ∷ ds ∷ css) (length xs) (nat_eq (length ys) (length xs) && equal_to (length xs) ns)
    by_apart q a true t =
        let same : length ys ≡ length xs = eqb-true (length ys) (length xs) t in
        subst (Together_is at (widths (r ∷ s ∷ rs)) (cs ∷ ds ∷ css) (length xs)) (sym (ap (λ z. z && equal_to (length xs) ns) t ∙ ap (λ z. equal_to z ns) (sym same) ∙ a)) (apart (whole (Fail (report kind.Size at)) q))
    by_apart q a false t = subst (Together_is at (widths (r ∷ s ∷ rs)) (cs ∷ ds ∷ css) (length xs)) (sym (ap (λ z. z && equal_to (length xs) ns) t)) (apart (whole (Fail (report kind.Size at)) q))

    by_rest : (b : Bool) → equal_to (length ys) ns ≡ b → Together_is at (widths (s ∷ rs)) (ds ∷ css) (length ys) b → Together_is at (widths (r ∷ s ∷ rs)) (cs ∷ ds ∷ css) (length xs) (nat_eq (length ys) (length xs) && equal_to (length xs) ns)
    by_rest _ a (together zs q l) = by_test zs q l a (nat_eq (length ys) (length xs)) refl
    by_rest _ a (apart q) = by_apart q a (nat_eq (length ys) (length xs)) refl

-- ---- one of several

pub record Bundle_at (G : Sorts) (env : Env) (rs : List Bundle) (sss : List (List Sort)) (css : List Row) (j : ℕ) (r : Bundle) : Type 0 where
  pub sorts : List Sort
  pub value : Row
  pub there : slice_get rs j ≡ Some r
  pub sorts_there : slice_get sss j ≡ Some sorts
  pub value_there : slice_get css j ≡ Some value
  pub are : Rows_are G r sorts
  pub is : values_of env r.arrays ≡ Val value

bundle_at : (G : Sorts) (env : Env) (rs : List Bundle) (sss : List (List Sort)) (css : List Row) (j : ℕ) (d : Bundle) → j < length rs → Bundles_are G env rs sss css → Bundle_at G env rs sss css j (get_or rs j d)
bundle_at G env _ _ _ j d l no_bundles = absurd (omega (arith, l))
bundle_at G env _ _ _ zero d l (bundles_and {ss = ss} {cs = cs} x v m) = record { sorts = ss; value = cs; there = refl; sorts_there = refl; value_there = refl; are = x; is = v }
bundle_at G env _ _ _ (suc j) d l (bundles_and {rs = rs} {sss = sss} {css = css} x v m) =
    let k = bundle_at G env rs sss css j d (omega (arith, l)) m in
    record { sorts = k.sorts; value = k.value; there = k.there; sorts_there = k.sorts_there; value_there = k.value_there; are = k.are; is = k.is }

same_value : {A : Type 0} (o : Out A) (a b : A) → o ≡ Val a → o ≡ Val b → a ≡ b
same_value o a b e f = let z : Val a ≡ Val b = sym e ∙ f in cc

counted_append : (at : Place) (rs : List Bundle) (css : List Row) (ns : List ℕ) (r : Bundle) (cs : Row) (rows : List Row) → Counted at rs css ns → rows_of false at r.width cs ≡ Val rows → Counted at (rs ++ r ∷ []) (css ++ cs ∷ []) (ns ++ length rows ∷ [])
counted_append at _ _ _ r cs rows none_counted e = counted_and e none_counted
counted_append at _ _ _ r cs rows (counted_and {rs = rs} {css = css} {ns = ns} f k) e = counted_and f (counted_append at rs css ns r cs rows k e)

and_true : (b : Bool) → (b && true) ≡ (true && b)
and_true true = refl
and_true false = refl

and_moved : (a b c : Bool) → (a && (b && c)) ≡ ((a && b) && c)
and_moved true b c = refl
and_moved false b c = refl

equal_append : (n : ℕ) (ns : List ℕ) (m : ℕ) → equal_to n (ns ++ m ∷ []) ≡ (equal_to n ns && nat_eq m n)
equal_append n [] m = and_true (nat_eq m n)
equal_append n (k ∷ ns) m = ap (λ z. nat_eq k n && z) (equal_append n ns m) ∙ and_moved (nat_eq k n) (equal_to n ns) (nat_eq m n)

-- the rows of one of them are a report
together_fails : (at : Place) (G : Sorts) (env : Env) (rs : List Bundle) (sss : List (List Sort)) (css : List Row) (j : ℕ) (ns : List ℕ) (r : Bundle) (cs : Row) (s : Report) → Bundles_are G env rs sss css → Counted at (take j rs) (take j css) ns → slice_get rs j ≡ Some r → slice_get css j ≡ Some cs → rows_of false at r.width cs ≡ Fail s → rows_together false at (widths rs) css ≡ Fail s
together_fails at G env _ _ _ j ns r cs s no_bundles k e f g = cc
together_fails at G env _ _ _ zero ns r cs s (bundles_and {r = q} {cs = ds} x v no_bundles) k e f g =
    let y : q ≡ r = cc in let z : ds ≡ cs = cc in ap (λ u. rows_of false at u.width ds) y ∙ ap (rows_of false at r.width) z ∙ g
together_fails at G env _ _ _ zero ns r cs s (bundles_and {r = q} {cs = ds} x v (bundles_and {r = p} {rs = rs} {cs = es} {css = css} y u m)) k e f g =
    let a : q ≡ r = cc in let b : ds ≡ cs = cc in
    ap (λ z. and_then z (λ rows. and_then (rows_together false at (widths (p ∷ rs)) (es ∷ css)) (λ others. fitting false (nat_eq (length rows) (length others)) at (Val (paired rows others))))) (ap (λ u. rows_of false at u.width ds) a ∙ ap (rows_of false at r.width) b ∙ g)
together_fails at G env _ _ _ (suc j) ns r cs s (bundles_and x v no_bundles) k e f g = cc
together_fails at G env _ _ _ (suc j) _ r cs s (bundles_and {r = q} {cs = ds} x v (bundles_and {r = p} {rs = rs} {ss = ts} {sss = sss} {cs = es} {css = css} y u m)) (counted_and {rows = rows} {ns = ns} h k) e f g =
    ap (λ z. and_then z (λ rows. and_then (rows_together false at (widths (p ∷ rs)) (es ∷ css)) (λ others. fitting false (nat_eq (length rows) (length others)) at (Val (paired rows others))))) h
    ∙ ap (λ z. and_then z (λ others. fitting false (nat_eq (length rows) (length others)) at (Val (paired rows others)))) (together_fails at G env (p ∷ rs) (ts ∷ sss) (es ∷ css) j ns r cs s (bundles_and y u m) k e f g)

-- ---- the count

pub record Counts_so (at : Place) (rs : List Bundle) (css : List Row) (count j : ℕ) (same : Bool) : Type 0 where
  pub counts : List ℕ
  pub counted : Counted at (take j rs) (take j css) (count ∷ counts)
  pub same_is : same ≡ equal_to count counts

unfoldable pub Counts_go : List ℕ → List Array → List Bundle → Place → ℕ → ℕ → Bool → Type 0
Counts_go t held rs at count j same = (G : Sorts) (env : Env) (n : ℕ) (row : List Sort) (st : Stands G env n held t) (g : Source_gives G (Of_rows rs) row) → Counts_so at rs (source_bundles G env n held t rs row st g).values count j same

module _ (t : List ℕ) (held : List Array) (given : Bor (List Rows)) (at : Place) where
  abbrev bundles : List Bundle
  bundles = map bundle_form given.now

  -- what one bundle's count says
  told_at : (G : Sorts) (env : Env) (sss : List (List Sort)) (css : List Row) (j m : ℕ) (r : Bundle) (b : Bundle_at G env bundles sss css j r) → BundleTold env r at (Ok m) → (rows : List Row) × (rows_of false at r.width b.value ≡ Val rows) × (length rows ≡ m)
  told_at G env sss css j _ r b (bundle_told cs rows v y) = let z : cs ≡ b.value = same_value (values_of env r.arrays) cs b.value v b.is in (rows, ap (rows_of false at r.width) (sym z) ∙ y, refl)

  failed_at : (G : Sorts) (env : Env) (sss : List (List Sort)) (css : List Row) (j : ℕ) (ns : List ℕ) (r : Bundle) → Bundles_are G env bundles sss css → Counted at (take j bundles) (take j css) ns → Bundle_at G env bundles sss css j r → (e : Stop) → BundleTold env r at (Err e) → SourceTold (source_rows false at env (Of_rows bundles)) (Err e)
  failed_at G env sss css j ns r m k b _ (bundle_failed {s} cs v y) =
      let z : cs ≡ b.value = same_value (values_of env r.arrays) cs b.value v b.is in
      source_failed (source_is at G env bundles sss css m ∙ together_fails at G env bundles sss css j ns r b.value s m k b.there b.value_there (ap (rows_of false at r.width) (sym z) ∙ y))
  failed_at G env sss css j ns r m k b _ no_bundle = no_source

  long : length bundles ≡ length given.now
  long = length-map given.now bundle_form

  pub count_first : (d : Rows) (count : ℕ) → (length given.now ≡ 0 → ⊥) → Bundle_counted t held (bundle_form (get_or given.now 0 d)) at (Ok count) → Counts_go t held bundles at count 1 true
  unfolding Bundle_counted Counts_go
  count_first d count ne h G env n row st g =
      let x = source_bundles G env n held t bundles row st g in
      let b : Bundle_at G env bundles x.sorts x.values 0 (get_or bundles 0 (bundle_form d)) = bundle_at G env bundles x.sorts x.values 0 (bundle_form d) (positive (length bundles) (λ e. ne (omega (arith, e, long)))) x.are in
      let y = told_at G env x.sorts x.values 0 count (get_or bundles 0 (bundle_form d)) b (subst (λ z. BundleTold env z at (Ok count)) (sym (get_or-map bundle_form given.now 0 d)) (h G env n b.sorts st (subst (λ z. Rows_are G z b.sorts) (get_or-map bundle_form given.now 0 d) b.are))) in
      record {
        counts = [];
        counted = subst (λ z. Counted at (take 1 bundles) (take 1 x.values) (z ∷ [])) y.2
            (subst (λ z. Counted at z (take 1 x.values) (length y.0 ∷ [])) (sym (take_get bundles 0 (get_or bundles 0 (bundle_form d)) b.there))
            (subst (λ z. Counted at (get_or bundles 0 (bundle_form d) ∷ []) z (length y.0 ∷ [])) (sym (take_get x.values 0 b.value b.value_there)) (counted_and y.1 none_counted)));
        same_is = refl;
      }
    where
      positive : (n : ℕ) → (n ≡ 0 → ⊥) → 0 < n
      positive zero ne = absurd (ne refl)
      positive (suc n) ne = omega arith

  pub count_first_failed : (d : Rows) (e : Stop) → (length given.now ≡ 0 → ⊥) → Bundle_counted t held (bundle_form (get_or given.now 0 d)) at (Err e) → Source_counted t held (Of_rows bundles) at (Err e)
  unfolding Bundle_counted Source_counted
  count_first_failed d e ne h G env n row st g =
      let x = source_bundles G env n held t bundles row st g in
      let b : Bundle_at G env bundles x.sorts x.values 0 (get_or bundles 0 (bundle_form d)) = bundle_at G env bundles x.sorts x.values 0 (bundle_form d) (positive (length bundles) (λ e. ne (omega (arith, e, long)))) x.are in
      failed_at G env x.sorts x.values 0 [] (get_or bundles 0 (bundle_form d)) x.are none_counted b e (subst (λ z. BundleTold env z at (Err e)) (sym (get_or-map bundle_form given.now 0 d)) (h G env n b.sorts st (subst (λ z. Rows_are G z b.sorts) (get_or-map bundle_form given.now 0 d) b.are)))
    where
      positive : (n : ℕ) → (n ≡ 0 → ⊥) → 0 < n
      positive zero ne = absurd (ne refl)
      positive (suc n) ne = omega arith

  module _ (count j : ℕ) (same : Bool) (h : Counts_go t held bundles at count j same) where
    pub count_more : (d : Rows) (other : ℕ) (same' : Bool) → j < length given.now → Bundle_counted t held (bundle_form (get_or given.now j d)) at (Ok other) → same' ≡ (same && other == count) → Counts_go t held bundles at count (j + 1) same'
    unfolding Bundle_counted Counts_go
    count_more d other same' l k e G env n row st g =
        let x = source_bundles G env n held t bundles row st g in
        let so = h G env n row st g in
        let r : Bundle = get_or bundles j (bundle_form d) in
        let b : Bundle_at G env bundles x.sorts x.values j r = bundle_at G env bundles x.sorts x.values j (bundle_form d) (omega (arith, l, long)) x.are in
        let y = told_at G env x.sorts x.values j other r b (subst (λ z. BundleTold env z at (Ok other)) (sym (get_or-map bundle_form given.now j d)) (k G env n b.sorts st (subst (λ z. Rows_are G z b.sorts) (get_or-map bundle_form given.now j d) b.are))) in
        subst (λ z. Counts_so at bundles x.values count z same') (sym (add-one j))
        (record {
          counts = so.counts ++ other ∷ [];
          counted = subst (λ z. Counted at (take (suc j) bundles) (take (suc j) x.values) (count ∷ (so.counts ++ z ∷ []))) y.2
              (subst (λ z. Counted at z (take (suc j) x.values) (count ∷ (so.counts ++ length y.0 ∷ []))) (sym (take_get bundles j r b.there))
              (subst (λ z. Counted at (take j bundles ++ r ∷ []) z (count ∷ (so.counts ++ length y.0 ∷ []))) (sym (take_get x.values j b.value b.value_there))
              (counted_append at (take j bundles) (take j x.values) (count ∷ so.counts) r b.value y.0 so.counted y.1)));
          same_is = e ∙ ap (λ z. z && other == count) so.same_is ∙ sym (equal_append count so.counts other);
        })

    pub count_failed : (d : Rows) (e : Stop) → j < length given.now → Bundle_counted t held (bundle_form (get_or given.now j d)) at (Err e) → Source_counted t held (Of_rows bundles) at (Err e)
    unfolding Bundle_counted Counts_go Source_counted
    count_failed d e l k G env n row st g =
        let x = source_bundles G env n held t bundles row st g in
        let so = h G env n row st g in
        let r : Bundle = get_or bundles j (bundle_form d) in
        let b : Bundle_at G env bundles x.sorts x.values j r = bundle_at G env bundles x.sorts x.values j (bundle_form d) (omega (arith, l, long)) x.are in
        failed_at G env x.sorts x.values j (count ∷ so.counts) r x.are so.counted b e (subst (λ z. BundleTold env z at (Err e)) (sym (get_or-map bundle_form given.now j d)) (k G env n b.sorts st (subst (λ z. Rows_are G z b.sorts) (get_or-map bundle_form given.now j d) b.are)))

    whole : (G : Sorts) (env : Env) (n : ℕ) (row : List Sort) (st : Stands G env n held t) (g : Source_gives G (Of_rows bundles) row) → length given.now ≤ j → Together_is at (widths bundles) (source_bundles G env n held t bundles row st g).values count same
    unfolding Counts_go
    whole G env n row st g l =
        let x = source_bundles G env n held t bundles row st g in
        let so = h G env n row st g in
        let rs : take j bundles ≡ bundles = take_all j bundles (omega (arith, l, long)) in
        let cs : take j x.values ≡ x.values = take_all j x.values (omega (arith, l, long, values_long G env bundles x.sorts x.values x.are)) in
        subst (Together_is at (widths bundles) x.values count) (sym so.same_is) (together_counted at bundles x.values count so.counts (subst (λ z. Counted at z x.values (count ∷ so.counts)) rs (subst (λ z. Counted at (take j bundles) z (count ∷ so.counts)) cs so.counted)))
      where
        values_long : (G : Sorts) (env : Env) (rs : List Bundle) (sss : List (List Sort)) (css : List Row) → Bundles_are G env rs sss css → length css ≡ length rs
        values_long G env _ _ _ no_bundles = refl
        values_long G env _ _ _ (bundles_and {rs = rs} {sss = sss} {css = css} x v m) = ap suc (values_long G env rs sss css m)

    pub count_end : length given.now ≤ j → same ≡ true → Source_counted t held (Of_rows bundles) at (Ok count)
    unfolding Source_counted
    count_end l e G env n row st g = by_together same e (whole G env n row st g l)
      where
        x : Source_bundles G env bundles row
        x = source_bundles G env n held t bundles row st g

        by_together : (b : Bool) → b ≡ true → Together_is at (widths bundles) x.values count b → SourceTold (source_rows false at env (Of_rows bundles)) (Ok count)
        by_together _ q (together rows f m) = subst (λ z. SourceTold (source_rows false at env (Of_rows bundles)) (Ok z)) m (source_told rows (source_is at G env bundles x.sorts x.values x.are ∙ f))
        by_together _ q (apart f) = cc

    pub count_apart : (e : Stop) → length given.now ≤ j → same ≡ false → e ≡ Failed (report kind.Size at) → Source_counted t held (Of_rows bundles) at (Err e)
    unfolding Source_counted
    count_apart e l q f G env n row st g = subst (λ z. SourceTold (source_rows false at env (Of_rows bundles)) (Err z)) (sym f) (by_together same q (whole G env n row st g l))
      where
        x : Source_bundles G env bundles row
        x = source_bundles G env n held t bundles row st g

        by_together : (b : Bool) → b ≡ false → Together_is at (widths bundles) x.values count b → SourceTold (source_rows false at env (Of_rows bundles)) (Err (Failed (report kind.Size at)))
        by_together _ q (together rows f m) = cc
        by_together _ q (apart f) = source_failed (source_is at G env bundles x.sorts x.values x.are ∙ f)

pub count_memory : (t : List ℕ) (held : List Array) (rs : List Bundle) (at : Place) (e : Stop) → e ≡ Memory → Source_counted t held (Of_rows rs) at (Err e)
unfolding Source_counted
count_memory t held rs at e q G env n row st g = subst (λ z. SourceTold (source_rows false at env (Of_rows rs)) (Err z)) (sym q) no_source

pub ruleset counting = (count_memory, count_first, count_more, count_end)

-- ---- a row of each

-- rows of bundles by one number
pub data Rows_at (at : Place) (i : ℕ) : List Bundle → List Row → List Row → Type 0 where
  no_rows_at : Rows_at at i [] [] []
  rows_at_and : {r : Bundle} {rs : List Bundle} {cs : Row} {css : List Row} {p : Row} {ps : List Row} (rows : List Row) → rows_of false at r.width cs ≡ Val rows → slice_get rows i ≡ Some p → Rows_at at i rs css ps → Rows_at at i (r ∷ rs) (cs ∷ css) (p ∷ ps)

row_at : (rows : List Row) (i : ℕ) → i < length rows → (p : Row) × (slice_get rows i ≡ Some p)
row_at [] i l = absurd (omega (arith, l))
row_at (x ∷ rows) zero l = (x, refl)
row_at (x ∷ rows) (suc i) l = row_at rows i (omega (arith, l))

paired_get : {A : Type 0} (xs ys : List (List A)) (i : ℕ) (x y : List A) → slice_get xs i ≡ Some x → slice_get ys i ≡ Some y → slice_get (paired xs ys) i ≡ Some (x ++ y)
paired_get [] ys i x y e f = cc
paired_get (a ∷ xs) [] i x y e f = cc
paired_get (a ∷ xs) (b ∷ ys) zero x y e f = let p : a ≡ x = cc in let q : b ≡ y = cc in ap (λ z. Some (z ++ b)) p ∙ ap (λ z. Some (x ++ z)) q
paired_get (a ∷ xs) (b ∷ ys) (suc i) x y e f = paired_get xs ys i x y e f

record Joined_at (at : Place) (i : ℕ) (rs : List Bundle) (css rows : List Row) : Type 0 where
  parts : List Row
  are : Rows_at at i rs css parts
  whole : slice_get rows i ≡ Some (joined parts)

joined_at : (at : Place) (i : ℕ) (G : Sorts) (env : Env) (rs : List Bundle) (sss : List (List Sort)) (css rows : List Row) → Bundles_are G env rs sss css → rows_together false at (widths rs) css ≡ Val rows → i < length rows → Joined_at at i rs css rows
joined_at at i G env _ _ _ rows no_bundles e l = cc
joined_at at i G env _ _ _ rows (bundles_and x v no_bundles) e l = let p = row_at rows i l in record { parts = p.0 ∷ []; are = rows_at_and rows e p.1 no_rows_at; whole = p.1 }
joined_at at i G env _ _ _ rows (bundles_and {r = r} {cs = cs} x v (bundles_and {r = s} {rs = rs} {ss = ts} {sss = sss} {cs = ds} {css = css} y u m)) e l = by_rows (rows_of false at r.width cs) refl e (λ zs f n. joined_at at i G env (s ∷ rs) (ts ∷ sss) (ds ∷ css) zs (bundles_and y u m) f n)
  where
    rest : Out (List Row)
    rest = rows_together false at (widths (s ∷ rs)) (ds ∷ css)

    Further : Type 0
    Further = (zs : List Row) → rest ≡ Val zs → i < length zs → Joined_at at i (s ∷ rs) (ds ∷ css) zs

    by_joined : (xs zs : List Row) → rows_of false at r.width cs ≡ Val xs → length xs ≡ length zs → rows ≡ paired xs zs → Joined_at at i (s ∷ rs) (ds ∷ css) zs → Joined_at at i (r ∷ s ∷ rs) (cs ∷ ds ∷ css) rows
    by_joined xs zs q n f k =
        by_parts k.parts k.are k.whole (row_at xs i (omega (arith, l, ap length f, paired_many xs zs n)))
      where
        by_parts : (ps : List Row) → Rows_at at i (s ∷ rs) (ds ∷ css) ps → slice_get zs i ≡ Some (joined ps) → (p : Row) × (slice_get xs i ≡ Some p) → Joined_at at i (r ∷ s ∷ rs) (cs ∷ ds ∷ css) rows
        by_parts _ (rows_at_and {p = b} {ps = ps} ys g h k) w p = record { parts = p.0 ∷ b ∷ ps; are = rows_at_and xs q p.1 (rows_at_and ys g h k); whole = ap (λ z. slice_get z i) f ∙ paired_get xs zs i p.0 (joined (b ∷ ps)) p.1 w }

    by_test : (xs zs : List Row) → rows_of false at r.width cs ≡ Val xs → rest ≡ Val zs → (b : Bool) → nat_eq (length xs) (length zs) ≡ b → fitting false b at (Val (paired xs zs)) ≡ Val rows → Further → Joined_at at i (r ∷ s ∷ rs) (cs ∷ ds ∷ css) rows
    by_test xs zs q f true t g k =
        let n : length xs ≡ length zs = eqb-true (length xs) (length zs) t in
        let w : rows ≡ paired xs zs = let z : Val rows ≡ Val (paired xs zs) = sym g in cc in
        by_joined xs zs q n w (k zs f (omega (arith, l, ap length w, paired_many xs zs n, n)))
    by_test xs zs q f false t g k = cc

    by_rest : (xs : List Row) → rows_of false at r.width cs ≡ Val xs → (o : Out (List Row)) → rest ≡ o → and_then o (λ ss. fitting false (nat_eq (length xs) (length ss)) at (Val (paired xs ss))) ≡ Val rows → Further → Joined_at at i (r ∷ s ∷ rs) (cs ∷ ds ∷ css) rows
    by_rest xs q (Val zs) f g k = by_test xs zs q f (nat_eq (length xs) (length zs)) refl g k
    by_rest xs q (Fail t) f g k = cc
    by_rest xs q Wrong f g k = cc

    by_rows : (o : Out (List Row)) → rows_of false at r.width cs ≡ o → and_then (rows_of false at r.width cs) (λ rs. and_then rest (λ ss. fitting false (nat_eq (length rs) (length ss)) at (Val (paired rs ss)))) ≡ Val rows → Further → Joined_at at i (r ∷ s ∷ rs) (cs ∷ ds ∷ css) rows
    by_rows (Val xs) q g k = by_rest xs q rest refl (sym (ap (λ z. and_then z (λ rs. and_then rest (λ ss. fitting false (nat_eq (length rs) (length ss)) at (Val (paired rs ss))))) q) ∙ g) k
    by_rows (Fail t) q g k = let z : Fail t ≡ Val rows = sym (ap (λ z. and_then z (λ rs. and_then rest (λ ss. fitting false (nat_eq (length rs) (length ss)) at (Val (paired rs ss))))) q) ∙ g in cc
    by_rows Wrong q g k = let z : Wrong ≡ Val rows = sym (ap (λ z. and_then z (λ rs. and_then rest (λ ss. fitting false (nat_eq (length rs) (length ss)) at (Val (paired rs ss))))) q) ∙ g in cc

joined_append : {A : Type 0} (xss : List (List A)) (xs : List A) → joined (xss ++ xs ∷ []) ≡ joined xss ++ xs
joined_append [] xs = refl
joined_append (ys ∷ []) xs = refl
joined_append (ys ∷ zs ∷ xss) xs = ap (λ z. ys ++ z) (joined_append (zs ∷ xss) xs) ∙ sym (append_assoc ys (joined (zs ∷ xss)) xs)

record Part_at (at : Place) (i : ℕ) (r : Bundle) (cs : Row) (ps : List Row) (j : ℕ) : Type 0 where
  rows : List Row
  part : Row
  read : rows_of false at r.width cs ≡ Val rows
  there : slice_get rows i ≡ Some part
  next : slice_get ps j ≡ Some part

part_at : (at : Place) (i : ℕ) (rs : List Bundle) (css ps : List Row) (j : ℕ) (r : Bundle) (cs : Row) → Rows_at at i rs css ps → slice_get rs j ≡ Some r → slice_get css j ≡ Some cs → Part_at at i r cs ps j
part_at at i _ _ _ j r cs no_rows_at e f = cc
part_at at i _ _ _ zero r cs (rows_at_and {r = q} {cs = ds} {p = p} rows g h k) e f =
    let a : q ≡ r = cc in let b : ds ≡ cs = cc in
    record { rows = rows; part = p; read = ap (λ z. rows_of false at r.width z) (sym b) ∙ ap (λ z. rows_of false at z.width ds) (sym a) ∙ g; there = h; next = refl }
part_at at i _ _ _ (suc j) r cs (rows_at_and {rs = rs} {css = css} {ps = ps} rows g h k) e f = let z = part_at at i rs css ps j r cs k e f in record { rows = z.rows; part = z.part; read = z.read; there = z.there; next = z.next }

parts_long : (at : Place) (i : ℕ) (rs : List Bundle) (css ps : List Row) → Rows_at at i rs css ps → length ps ≡ length rs
parts_long at i _ _ _ no_rows_at = refl
parts_long at i _ _ _ (rows_at_and {rs = rs} {css = css} {ps = ps} rows g h k) = ap suc (parts_long at i rs css ps k)

sorts_long : (G : Sorts) (env : Env) (rs : List Bundle) (sss : List (List Sort)) (css : List Row) → Bundles_are G env rs sss css → length sss ≡ length rs
sorts_long G env _ _ _ no_bundles = refl
sorts_long G env _ _ _ (bundles_and {rs = rs} {sss = sss} {css = css} x v m) = ap suc (sorts_long G env rs sss css m)

get_within : {A : Type 0} (xs : List A) (i : ℕ) (x : A) → slice_get xs i ≡ Some x → i < length xs
get_within [] i x e = cc
get_within (y ∷ xs) zero x e = omega arith
get_within (y ∷ xs) (suc i) x e = let k = get_within xs i x e in omega (arith, k)

some_same : {A : Type 0} (o : Option A) (a b : A) → o ≡ Some a → o ≡ Some b → a ≡ b
some_same o a b e f = let h : Some a ≡ Some b = sym e ∙ f in cc

pub record Parts_so (sss : List (List Sort)) (ps : List Row) (j : ℕ) (S0 S : State) : Type 0 where
  pub ws : List ℕ
  pub shown : AllShow S.arena.arrays (joined (take j sss)) (joined (take j ps)) ws
  pub stack : S.stack ≡ S0.stack ++ ws
  pub words : S.words ≡ S0.words
  pub grown : Grown S0 S

unfoldable pub Parts_go : List Bundle → ℕ → ℕ → State → State → Type 0
Parts_go rs i j S0 S =
    (at : Place) (G : Sorts) (env : Env) (n : ℕ) (sss : List (List Sort)) (css ps : List Row) → Stands G env n S0.arena.arrays S0.words → Bundles_are G env rs sss css → Rows_at at i rs css ps → Parts_so sss ps j S0 S

module _ (given : Bor (List Rows)) (i : ℕ) (S0 : State) where
  abbrev pushed_bundles : List Bundle
  pushed_bundles = map bundle_form given.now

  pub parts_start : Parts_go pushed_bundles i 0 S0 S0
  unfolding Parts_go
  parts_start at G env n sss css ps st m k = record { ws = []; shown = none_shown; stack = sym (append-nil S0.stack); words = refl; grown = grown_same S0 }

  module _ (j : ℕ) (S : State) (h : Parts_go pushed_bundles i j S0 S) where
    pub parts_more : (d : Rows) (S' : State) → j < length given.now → S'.words ≡ S.words → Bundle_pushed (bundle_form (get_or given.now j d)) i S S' (Ok tt) → Parts_go pushed_bundles i (j + 1) S0 S'
    unfolding Parts_go Bundle_pushed
    parts_more d S' l w k at G env n sss css ps st m y =
        subst (λ z. Parts_so sss ps z S0 S') (sym (add-one j)) (by_push (h at G env n sss css ps st m y))
      where
        r : Bundle
        r = get_or pushed_bundles j (bundle_form d)

        same : r ≡ bundle_form (get_or given.now j d)
        same = get_or-map bundle_form given.now j d

        b : Bundle_at G env pushed_bundles sss css j r
        b = bundle_at G env pushed_bundles sss css j (bundle_form d) (omega (arith, l, length-map given.now bundle_form)) m

        p : Part_at at i r b.value ps j
        p = part_at at i pushed_bundles css ps j r b.value y b.there b.value_there

        by_row : Parts_so sss ps j S0 S → RowPushed (λ ds. slice_get p.rows i ≡ Some ds) b.sorts S S' (Ok tt) → Parts_so sss ps (suc j) S0 S'
        by_row so (row_pushed ds vs e sh q g) =
            let part : ds ≡ p.part = some_same (slice_get p.rows i) ds p.part e p.there in
            let ts : joined (take (suc j) sss) ≡ joined (take j sss) ++ b.sorts = ap joined (take_get sss j b.sorts b.sorts_there) ∙ joined_append (take j sss) b.sorts in
            let tp : joined (take (suc j) ps) ≡ joined (take j ps) ++ ds = ap joined (take_get ps j p.part p.next) ∙ joined_append (take j ps) p.part ∙ ap (λ z. joined (take j ps) ++ z) (sym part) in
            record {
              ws = so.ws ++ vs;
              shown = subst (λ z. AllShow S'.arena.arrays (joined (take (suc j) sss)) z (so.ws ++ vs)) (sym tp)
                  (subst (λ z. AllShow S'.arena.arrays z (joined (take j ps) ++ ds) (so.ws ++ vs)) (sym ts)
                  (show_append S'.arena.arrays (joined (take j sss)) (joined (take j ps)) so.ws b.sorts ds vs (all_show_on S.arena.arrays S'.arena.arrays (joined (take j sss)) (joined (take j ps)) so.ws g.arrays so.shown) sh));
              stack = q ∙ ap (λ z. z ++ vs) so.stack ∙ append_assoc S0.stack so.ws vs;
              words = w ∙ so.words;
              grown = grown_on S0 S S' so.grown g;
            }

        by_push : Parts_so sss ps j S0 S → Parts_so sss ps (suc j) S0 S'
        by_push so =
            by_row so
            (k G env n b.sorts b.value p.rows at (subst (Stands G env n S.arena.arrays) (sym so.words) (stands_on G env n n S0.arena.arrays S.arena.arrays S0.words S0.words (omega arith) (λ x l. refl) so.grown.arrays st)) (subst (λ z. Rows_are G z b.sorts) same b.are)
            (ap (λ z. values_of env z.arrays) (sym same) ∙ b.is) (ap (λ z. rows_of false at z.width b.value) (sym same) ∙ p.read) (get_within p.rows i p.part p.there))

    pub parts_end : length given.now ≤ j → Source_pushed (Of_rows pushed_bundles) i S0 S (Ok tt)
    unfolding Parts_go Source_pushed
    parts_end l G env n row rows at st g e m =
        let x = source_bundles G env n S0.arena.arrays S0.words pushed_bundles row st g in
        let y = joined_at at i G env pushed_bundles x.sorts x.values rows x.are (sym (source_is at G env pushed_bundles x.sorts x.values x.are) ∙ e) m in
        let so = h at G env n x.sorts x.values y.parts st x.are y.are in
        let many : length pushed_bundles ≡ length given.now = length-map given.now bundle_form in
        let ts : take j x.sorts ≡ x.sorts = take_all j x.sorts (omega (arith, l, many, sorts_long G env pushed_bundles x.sorts x.values x.are)) in
        let tp : take j y.parts ≡ y.parts = take_all j y.parts (omega (arith, l, many, parts_long at i pushed_bundles x.values y.parts y.are)) in
        row_pushed (joined y.parts) so.ws y.whole
        (subst (λ z. AllShow S.arena.arrays z (joined y.parts) so.ws) (sym x.whole) (subst (λ z. AllShow S.arena.arrays (joined x.sorts) (joined z) so.ws) tp (subst (λ z. AllShow S.arena.arrays (joined z) (joined (take j y.parts)) so.ws) ts so.shown)))
        so.stack so.grown

pub parts_memory : (rs : List Bundle) (i : ℕ) (S S' : State) (e : Stop) → e ≡ Memory → Source_pushed (Of_rows rs) i S S' (Err e)
unfolding Source_pushed
parts_memory rs i S S' e q G env n row rows at st g y l = subst (λ z. RowPushed (λ ds. slice_get rows i ≡ Some ds) row S S' (Err z)) (sym q) no_row

pub ruleset pushing = (parts_start, parts_more, parts_end, parts_memory)
