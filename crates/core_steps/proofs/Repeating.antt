-- Arrays of rows that are all the same.
use Rattle.std.proofs.Common.{◌≡◌, ℕ, zero, suc, ◌+◌, ◌-◌, ◌*◌, ◌<◌, ◌≤◌, ◌^◌, min, List, [], ◌∷◌, ◌++◌, map, length, get_or, take, drop, slice_get, Some, Ok, Err, Bool, true, false, nat_le, OnOk, refl, sym, ap, ◌∙◌, subst, arith, add-one, append_assoc}
use Rattle.std.specs.Prelude.{◌&&◌, replicate}
use Rattle.std.proofs.Math.Nat.{suc-mul}
use Rattle.std.proofs.Math.Seq.{take-append_seam}
use Rattle.std.proofs.lemmas.Bool.{eq-eqb}
use Rattle.std.proofs.lemmas.List.{append-nil, length-append, length-map, length-replicate, map-append}
use Rattle.fut_scalar.specs.declared.place.Place.{Place}
use Rattle.fut_scalar.specs.declared.report.FailKind.TheVariants as kind
use Rattle.fut_scalar.specs.declared.scalar.ScalarType.{ScalarType}
use Rattle.fut_arithmetic.specs.Words.{scalar_of_word}
use Rattle.fut_value.specs.Leaves.{extent}
use Rattle.fut_meaning.specs.Arrays.{checked, fitting, most_words}
use Rattle.fut_meaning.specs.Operations.{report}
use Rattle.fut_meaning.specs.Outcomes.{Out, Val, and_then}
use Rattle.core_arrays.specs.Arenas.{Array, Arena, array, with_array}
use Rattle.core_ir.specs.declared.block.Atom.{Atom}
use Rattle.core_ir.specs.Arrays.{replicated, sized_by}
use Rattle.core_ir.specs.Bundles.{Component, Many, Row, sizes, cells, all_sizes, first_cells, same_sizes, all_same_sizes, all_have, sizes_or, weight_of, within_weight, columns, bundle, stacked, glued}
use Rattle.core_ir.specs.Meaning.{Env, value_of, values_of}
use Rattle.core_ir.specs.Typed.{Sort, Bundled, bare, full}
use Rattle.core_code.specs.Registers.{State, state, elem_of, rank_of, ShowsArray, Shows, AllShow, none_shown}
use Rattle.core_code.specs.Answers.{Answer, OnlyMemory, ReadAll, read_all, Reads_all}
use Rattle.core_code.specs.declared.stop.Stop.{Stop}
use Rattle.core_code.specs.declared.stop.Stop.TheVariants.{Failed, Memory}
use Rattle.core_code.proofs.Frames.{shows_on}
use Rattle.core_steps.specs.Gluing.{sort_at, sorts_at, column_cells, CellsPut, cells_put, Cells_put, WordsTold, words_told, no_words, Sizes_read, ColumnMade, column_made, no_column, ColumnsMade, columns_made, no_columns, Within_told, GluedTold, glued_told, glue_failed, no_glue, Bare_told}
use Rattle.core_steps.specs.Repeating.{repeated, Cells_repeated, Column_repeated, Row_repeated, Repeated_told, Replicate_told}
use Rattle.core_steps.specs.Rows.{CountTold, count_told, count_failed, no_count}
use Rattle.core_steps.specs.Sources.{Size_asked}
use Rattle.core_steps.proofs.Gathering.{cells_many, sizes_many, drop_map, get_some, columns_get, columns_many, Columns_so, columns_next, columns_whole}
use Rattle.core_steps.proofs.Glueing.{told_is, bundle_columns, columns_sizes, bundled_lifted, are_words}
use Rattle.core_steps.proofs.Literals.{results_sorts}
use Rattle.core_steps.proofs.Operands.{get_behind, get_front, values_there}
use Rattle.core_steps.proofs.Sizing.{shown_at, shown_many}
use Rattle.core_steps.proofs.Sourcing.{sized_then}

-- ---- the cells of one component

repeated_behind : {A : Type 0} (n : ℕ) (xs : List A) → repeated n xs ++ xs ≡ repeated (suc n) xs
repeated_behind zero xs = sym (append-nil xs)
repeated_behind (suc n) xs = append_assoc xs (repeated n xs) xs ∙ ap (λ z. xs ++ z) (repeated_behind n xs)

repeated_many : {A : Type 0} (n : ℕ) (xs : List A) → length (repeated n xs) ≡ n * length xs
repeated_many zero xs = omega arith
repeated_many (suc n) xs = let h = repeated_many n xs in omega (arith, length-append xs (repeated n xs), h, suc-mul n (length xs))

unfoldable pub Cells_so : List Array → Atom → ℕ → ℕ → List ℕ → Type 0
Cells_so rs u w j vs = (c : Component) → Shows rs (sort_at u) c w → map (scalar_of_word (elem_of u)) vs ≡ repeated j (cells c)

module _ (rs : List Array) (u : Atom) (w : ℕ) where
  pub cells_start : Cells_so rs u w 0 []
  unfolding Cells_so
  cells_start c sh = refl

  pub cells_more : (j : ℕ) (vs vs' : List ℕ) → Cells_so rs u w j vs → Cells_put rs u w vs vs' (Ok tt) → Cells_so rs u w (j + 1) vs'
  unfolding Cells_so Cells_put
  cells_more j vs vs' h k c sh = by_put (k c sh)
    where
      by_put : CellsPut u c vs vs' (Ok tt) → map (scalar_of_word (elem_of u)) vs' ≡ repeated (j + 1) (cells c)
      by_put (cells_put ys p q) =
          ap (map (scalar_of_word (elem_of u))) p ∙ map-append (scalar_of_word (elem_of u)) vs ys ∙ ap (λ z. z ++ map (scalar_of_word (elem_of u)) ys) (h c sh) ∙ ap (λ z. repeated j (cells c) ++ z) q
          ∙ repeated_behind j (cells c) ∙ ap (λ z. repeated z (cells c)) (sym (add-one j))

  pub cells_end : (count j : ℕ) (vs : List ℕ) → j ≡ count → Cells_so rs u w j vs → Cells_repeated rs u w count (Ok vs)
  unfolding Cells_so Cells_repeated
  cells_end count j vs e h c sh = words_told (h c sh ∙ ap (λ z. repeated z (cells c)) e)

  pub cells_stop : (count : ℕ) (e : Stop) → e ≡ Memory → Cells_repeated rs u w count (Err e)
  unfolding Cells_repeated
  cells_stop count e q c sh = subst (λ z. WordsTold (λ vs. map (scalar_of_word (elem_of u)) vs ≡ repeated count (cells c)) (Err z)) (sym q) no_words

pub ruleset cells_rules = (cells_start, cells_more, cells_end, cells_stop)

-- ---- one array

module _ (u : Atom) (w count : ℕ) (A A' : Arena) where
  abbrev column_of : Component → Component
  column_of c = Many (count ∷ sizes c) (repeated count (cells c))

  pub column_ok : (number : ℕ) (vs ds : List ℕ) → Cells_repeated A.arrays u w count (Ok vs) → Sizes_read A.arrays u w count (Ok ds) → number ≡ length A.arrays → A' ≡ with_array A ds vs → Column_repeated u w count A A' (Ok number)
  unfolding Cells_repeated Sizes_read Column_repeated
  column_ok number vs ds h k n p c sh = by_words (h c sh) (k c sh)
    where
      by_words : WordsTold (λ vs. map (scalar_of_word (elem_of u)) vs ≡ repeated count (cells c)) (Ok vs) → WordsTold (λ ds. ds ≡ count ∷ sizes c) (Ok ds) → ColumnMade ((sort_at u).0, suc (sort_at u).1) (column_of c) A A' (Ok number)
      by_words (words_told x) (words_told y) =
          let many : length vs ≡ count * extent (sizes c) =
          sym (length-map vs (scalar_of_word (elem_of u))) ∙ ap length x ∙ repeated_many count (cells c) ∙ ap (λ z. count * z) (cells_many A.arrays (sort_at u) c w sh) in
          let shown : ShowsArray A'.arrays (elem_of u) (suc (rank_of u)) (column_of c) number = record {
            array = array ds vs;
            there = ap (λ (z : Arena). slice_get z.arrays number) p ∙ ap (slice_get (A.arrays ++ array ds vs ∷ [])) n ∙ get_behind A.arrays (array ds vs);
            is = ap (λ z. Many z (repeated count (cells c))) (sym y) ∙ ap (Many ds) (sym x);
            deep = ap length y ∙ ap suc (sizes_many A.arrays (sort_at u) c w sh);
            full = many ∙ sym (ap extent y);
          } in
          column_made shown
          (record {
            arrays = λ i a z. ap (λ (z : Arena). slice_get z.arrays i) p ∙ get_front A.arrays (array ds vs ∷ []) i a z;
            handed = let t : A'.handed ≡ min (A.handed + length vs) (2 ^ 64 - 1) = ap (λ (z : Arena). z.handed) p in let v : extent (sizes (column_of c)) ≡ count * extent (sizes c) = refl in omega (arith, t, v, many);
          })

  pub column_stop : (e : Stop) → e ≡ Memory → Column_repeated u w count A A' (Err e)
  unfolding Column_repeated
  column_stop e q c sh = subst (λ z. ColumnMade ((sort_at u).0, suc (sort_at u).1) (column_of c) A A' (Err z)) (sym q) no_column

pub ruleset column_rules = (column_stop)

-- ---- all arrays

same_cells : (c : ℕ) (row : Row) (x : Component) (rest : Row) → drop c row ≡ x ∷ rest → (n : ℕ) → column_cells c (replicate n row) ≡ repeated n (cells x)
same_cells c row x rest e zero = refl
same_cells c row x rest e (suc n) = ap (λ z. first_cells z ++ column_cells c (replicate n row)) e ∙ ap (λ z. cells x ++ z) (same_cells c row x rest e n)

unfoldable pub Row_goes : List Atom → ℕ → List ℕ → ℕ → Arena → Arena → List ℕ → Type 0
Row_goes us count ws c A0 A made = (row : Row) → AllShow A0.arrays (sorts_at us) row ws → Columns_so us (columns count (all_sizes row) (replicate count row)) c A0 A made

module _ (us : List Atom) (count : ℕ) (ws : List ℕ) (A0 : Arena) where
  pub row_start : Row_goes us count ws 0 A0 A0 []
  unfolding Row_goes
  row_start row sh = record { shown = none_shown; grown = record { arrays = λ i a e. e; handed = omega arith } }

  pub row_more : (c : ℕ) (d : Atom) (e : ℕ) (A A' : Arena) (w : ℕ) (made made' : List ℕ) → c < length us → Row_goes us count ws c A0 A made → Column_repeated (get_or us c d) (get_or ws c e) count A A' (Ok w) → made' ≡ made ++ w ∷ [] → Row_goes us count ws (c + 1) A0 A' made'
  unfolding Row_goes Column_repeated
  row_more c d e A A' w made made' l h k p row sh =
      let x = shown_at A0.arrays us (sorts_at us) row ws c d e l refl sh in
      let so = h row sh in
      let cs : Row = columns count (all_sizes row) (replicate count row) in
      let s : Sort = sort_at (get_or us c d) in
      let left : drop c (all_sizes row) ≡ sizes x.component ∷ map sizes (drop (suc c) row) = drop_map sizes c row ∙ ap (map sizes) x.left in
      let em : slice_get cs c ≡ Some (Many (count ∷ sizes x.component) (repeated count (cells x.component))) =
      columns_get count (all_sizes row) (replicate count row) c (sizes x.component) (map sizes (drop (suc c) row)) left ∙ ap (λ z. Some (Many (count ∷ sizes x.component) z)) (same_cells c row x.component (drop (suc c) row) x.left count) in
      subst (λ z. Columns_so us cs z A0 A' made') (sym (add-one c))
      (columns_next us cs c s (count ∷ sizes x.component) (repeated count (cells x.component)) A0 A A' made made' w (get_some sort_at us c d l) em p so
      (k x.component (shows_on A0.arrays A.arrays s x.component (get_or ws c e) so.grown.arrays x.shown)))

  pub row_end : (c : ℕ) (A : Arena) (made : List ℕ) → length us ≤ c → Row_goes us count ws c A0 A made → Row_repeated us count ws A0 A (Ok made)
  unfolding Row_goes Row_repeated
  row_end c A made l h row sh =
      columns_whole us (columns count (all_sizes row) (replicate count row)) c A0 A made l (omega (arith, columns_many count (all_sizes row) (replicate count row), length-map row sizes, (shown_many A0.arrays (sorts_at us) row ws sh).0, length-map us sort_at)) (h row sh)

  pub row_stop : (A : Arena) (e : Stop) → e ≡ Memory → Row_repeated us count ws A0 A (Err e)
  unfolding Row_repeated
  row_stop A e q row sh = subst (λ z. ColumnsMade (sorts_at us) (columns count (all_sizes row) (replicate count row)) A0 A (Err z)) (sym q) no_columns

pub ruleset columns_rules = (row_start, row_more, row_end, row_stop)

-- ---- within the greatest weight

same_as_itself : (ds : List ℕ) → same_sizes ds ds ≡ true
same_as_itself [] = refl
same_as_itself (d ∷ ds) = ap (λ z. z && same_sizes ds ds) (eq-eqb d d refl) ∙ same_as_itself ds

pub all_same_as_themselves : (ds : List (List ℕ)) → all_same_sizes ds ds ≡ true
all_same_as_themselves [] = refl
all_same_as_themselves (d ∷ ds) = ap (λ z. z && all_same_sizes ds ds) (same_as_itself d) ∙ all_same_as_themselves ds

all_alike : (n : ℕ) (row : Row) → all_have (all_sizes row) (replicate n row) ≡ true
all_alike zero row = refl
all_alike (suc n) row = ap (λ z. z && all_have (all_sizes row) (replicate n row)) (all_same_as_themselves (all_sizes row)) ∙ all_alike n row

sizes_same : (n : ℕ) (row : Row) → sizes_or (all_sizes row) (replicate n row) ≡ all_sizes row
sizes_same zero row = refl
sizes_same (suc n) row = refl

-- of the weight alone is there a report
glued_bundle : (at : Place) (n : ℕ) (row : Row) → glued false at (all_sizes row) (replicate n row) ≡ within_weight at (bundle n (all_sizes row) (replicate n row))
unfolding glued stacked
glued_bundle at n row =
    ap (λ z. and_then (stacked false at z (replicate n row)) (within_weight at)) (sizes_same n row)
    ∙ ap (λ z. and_then (fitting false z at (Val (bundle (length (replicate n row)) (all_sizes row) (replicate n row)))) (within_weight at)) (all_alike n row)
    ∙ ap (λ z. within_weight at (bundle z (all_sizes row) (replicate n row))) (length-replicate n row)

glued_same : (at : Place) (n : ℕ) (row : Row) → (length row ≡ 0 → ⊥) → glued false at (all_sizes row) (replicate n row) ≡ checked (nat_le (weight_of (map (λ d. n ∷ d) (all_sizes row))) most_words) kind.TooLarge at (Val (columns n (all_sizes row) (replicate n row)))
unfolding within_weight
glued_same at n row ne =
    glued_bundle at n row ∙ ap (within_weight at) (bundle_columns n (all_sizes row) (replicate n row) (λ e. ne (omega (arith, e, length-map row sizes))))
    ∙ ap (λ z. checked (nat_le (weight_of z) most_words) kind.TooLarge at (Val (columns n (all_sizes row) (replicate n row)))) (columns_sizes n (all_sizes row) (replicate n row))

module _ (us : List Atom) (count mark : ℕ) (at : Place) (S S' : State) where
  pub repeated_stop : (e : Stop) → e ≡ Memory → Repeated_told us count mark at S S' (Err e)
  unfolding Repeated_told
  repeated_stop e q row below ws out p m sh b = subst (λ z. GluedTold (glued false at (all_sizes row) (replicate count row)) out below S S' (Err z)) (sym q) no_glue

  pub repeated_bare : (r : Answer) → length us ≡ 0 → Bare_told count mark at S S' r → Repeated_told us count mark at S S' r
  unfolding Bare_told Repeated_told
  repeated_bare r e h row below ws out p m sh b = by_bundle out (sorts_at us) (by_atoms us e) b
    where
      by_atoms : (us : List Atom) → length us ≡ 0 → sorts_at us ≡ []
      by_atoms [] q = refl
      by_atoms (u ∷ us) q = absurd (omega (arith, q))

      by_row : (row : Row) → length row ≡ 0 → (t : ScalarType) → GluedTold (glued false at (all_sizes row) (replicate count row)) ((t, 2) ∷ []) below S S' r
      by_row [] q t = subst (λ z. GluedTold z ((t, 2) ∷ []) below S S' r) (sym (glued_bundle at count [])) (h below ws t p m)
      by_row (c ∷ cs) q t = absurd (omega (arith, q))

      by_bundle : (out ss : List Sort) → ss ≡ [] → Bundled ss out → GluedTold (glued false at (all_sizes row) (replicate count row)) out below S S' r
      by_bundle _ _ q (bare {t}) = by_row row (omega (arith, (shown_many S.arena.arrays (sorts_at us) row ws sh).0, length-map us sort_at, e)) t
      by_bundle _ _ q full = cc

  module _ (words : List ℕ) (w : words ≡ take (length S.stack - mark) (drop mark S.stack)) (some : length us ≡ 0 → ⊥) where
    by_weight : (b : Bool) (row : Row) (below ws : List ℕ) → Within_told S.arena.arrays us count words (Ok b) → S.stack ≡ below ++ ws → length below ≡ mark → AllShow S.arena.arrays (sorts_at us) row ws
        → glued false at (all_sizes row) (replicate count row) ≡ checked b kind.TooLarge at (Val (columns count (all_sizes row) (replicate count row)))
    unfolding Within_told
    by_weight b row below ws k p m sh =
        let x : AllShow S.arena.arrays (sorts_at us) row words = subst (AllShow S.arena.arrays (sorts_at us) row) (sym (are_words us count mark at S S' words w below ws p m)) sh in
        let ne : length row ≡ 0 → ⊥ = λ e. some (omega (arith, e, (shown_many S.arena.arrays (sorts_at us) row ws sh).0, length-map us sort_at)) in
        glued_same at count row ne ∙ ap (λ z. checked z kind.TooLarge at (Val (columns count (all_sizes row) (replicate count row)))) (told_is (nat_le (weight_of (map (λ d. count ∷ d) (all_sizes row))) most_words) b (k row x))

    pub repeated_large : (e : Stop) → Within_told S.arena.arrays us count words (Ok false) → e ≡ Failed (report kind.TooLarge at) → Repeated_told us count mark at S S' (Err e)
    unfolding Repeated_told
    repeated_large e k q row below ws out p m sh b =
        subst (λ z. GluedTold (glued false at (all_sizes row) (replicate count row)) out below S S' (Err z)) (sym q) (glue_failed (by_weight false row below ws k p m sh))

    repeated_ok : (made s1 : List ℕ) → Within_told S.arena.arrays us count words (Ok true) → Row_repeated us count words S.arena S'.arena (Ok made) → s1 ≡ take mark S.stack → S'.stack ≡ s1 ++ made → Repeated_told us count mark at S S' (Ok tt)
    unfolding Row_repeated Repeated_told
    repeated_ok made s1 k c q v row below ws out p m sh b =
        by_columns (by_weight true row below ws k p m sh) (c row (subst (AllShow S.arena.arrays (sorts_at us) row) (sym (are_words us count mark at S S' words w below ws p m)) sh))
      where
        cs : Row
        cs = columns count (all_sizes row) (replicate count row)

        by_columns : glued false at (all_sizes row) (replicate count row) ≡ Val cs → ColumnsMade (sorts_at us) cs S.arena S'.arena (Ok made) → GluedTold (glued false at (all_sizes row) (replicate count row)) out below S S' (Ok tt)
        by_columns e (columns_made y z) =
            glued_told cs made e (subst (λ s. AllShow S'.arena.arrays s cs made) (sym (bundled_lifted (sorts_at us) out b (λ e. some (omega (arith, e, length-map us sort_at))))) y)
            (v ∙ ap (λ z. z ++ made) (q ∙ ap (take mark) p ∙ ap (λ z. take z (below ++ ws)) (sym m) ∙ take-append_seam below ws)) z

    pub repeated_pushed : (made s1 : List ℕ) (r : Answer) → Within_told S.arena.arrays us count words (Ok true) → Row_repeated us count words S.arena S'.arena (Ok made) → s1 ≡ take mark S.stack → OnOk r (S'.stack ≡ s1 ++ made) → OnlyMemory r → Repeated_told us count mark at S S' r
    repeated_pushed made s1 (Ok tt) k c q v m = repeated_ok made s1 k c q v
    repeated_pushed made s1 (Err e) k c q v m = repeated_stop e m

pub ruleset repeats = (repeated_bare, repeated_stop)

-- ---- as a step

module _ (u : Atom) (us : List Atom) (at : Place) (S S' : State) where
  abbrev rows_of : Env → Out Row
  rows_of env = and_then (value_of env u) (λ c. and_then (values_of env us) (λ row. replicated false at c row))

  pub replicate_memory : (e : Stop) → e ≡ Memory → Replicate_told u us at S S' (Err e)
  unfolding Replicate_told
  replicate_memory e q G env n s ss out st i a b d = subst (λ z. GluedTold (rows_of env) out S.stack S S' (Err z)) (sym q) no_glue

  abbrev so_many : Row → ℕ → Out Row
  so_many row n = glued false at (all_sizes row) (replicate n row)

  by_count : (env : Env) (cs : Row) → values_of env us ≡ Val cs → rows_of env ≡ and_then (and_then (value_of env u) (λ c. sized_by at c Val)) (so_many cs)
  by_count env cs e = ap (λ z. and_then (value_of env u) (λ c. and_then z (λ row. replicated false at c row))) e ∙ sized_then at (value_of env u) (so_many cs)

  pub replicate_done : (count mark : ℕ) (s1 : List ℕ) (r : Answer) → Size_asked S.words u at (Ok count) → mark ≡ length S.stack → Reads_all S.words us S.stack s1 (Ok tt) → Repeated_told us count mark at (state S.arena S.words s1) S' r → Replicate_told u us at S S' r
  unfolding Size_asked Reads_all Repeated_told Replicate_told
  replicate_done count mark s1 r h m k g G env n s ss out st i a b d = by_read (k G env n S.arena.arrays ss st b) count refl (h G env n S.arena.arrays s st i a)
    where
      sorts : sorts_at us ≡ ss
      sorts = results_sorts G us ss b

      by_glue : {r : Answer} (row : Row) → rows_of env ≡ so_many row count → GluedTold (so_many row count) out S.stack (state S.arena S.words s1) S' r → GluedTold (rows_of env) out S.stack S S' r
      by_glue row e (glued_told cs ws f sh q y) = glued_told cs ws (e ∙ f) sh q (record { arrays = y.arrays; handed = y.handed })
      by_glue row e (glue_failed f) = glue_failed (e ∙ f)
      by_glue row e no_glue = no_glue

      by_read : ReadAll (values_of env us) S.arena.arrays ss S.stack s1 (Ok tt) → (c : ℕ) → c ≡ count → CountTold (and_then (value_of env u) (λ c. sized_by at c Val)) (Ok c) → GluedTold (rows_of env) out S.stack S S' r
      by_read (read_all {cs} {ws} e sh q) c z (count_told y) =
          by_glue cs (by_count env cs e ∙ ap (λ z. and_then z (so_many cs)) y ∙ ap (so_many cs) z)
          (g cs S.stack ws out q (sym m) (subst (λ z. AllShow S.arena.arrays z cs ws) (sym sorts) sh) (subst (λ z. Bundled z out) (sym sorts) d))

  -- the count may fail where the row's operands have values
  pub replicate_stop : (e : Stop) → Size_asked S.words u at (Err e) → Replicate_told u us at S S' (Err e)
  unfolding Size_asked Replicate_told
  replicate_stop e h G env n s ss out st i a b d = by_told (values_there G env n S.arena.arrays S.words us ss st b) (h G env n S.arena.arrays s st i a)
    where
      by_told : {e : Stop} → (cs : Row) × (values_of env us ≡ Val cs) → CountTold (and_then (value_of env u) (λ c. sized_by at c Val)) (Err e) → GluedTold (rows_of env) out S.stack S S' (Err e)
      by_told v (count_failed q) = glue_failed (by_count env v.0 v.1 ∙ ap (λ z. and_then z (so_many v.0)) q)
      by_told v no_count = no_glue

pub ruleset replicates = (replicate_memory)
