-- How deep data says that it is at most.
use Rattle.std.proofs.Common.{◌≡◌, ℕ, zero, suc, ◌+◌, ◌-◌, ◌<◌, ◌≤◌, List, [], ◌∷◌, length, get_or, drop, Result, refl, sym, ap, ◌∙◌, subst, arith, add-one}
use Rattle.std.specs.Prelude.{max, cond, nat_eq, IfOk}
use Rattle.std.proofs.Math.Dec.{eqb-suc-zero}
use Rattle.std.proofs.Math.Seq.{drop-cons}
use Rattle.fut_scalar.specs.declared.scalar.Scalar.{Scalar}
use Rattle.fut_scalar.specs.declared.scalar.ScalarType.{ScalarType}
use Rattle.fut_ast.specs.Sorts.{Text}
use Rattle.array_data.specs.declared.form.Form.{Form}
use Rattle.array_data.specs.declared.data.Data.{Data, fold-roll-Data, out-roll-Data}
use Rattle.array_data.specs.declared.data.Data.TheOpen as open_data
use Rattle.array_data.specs.declared.data.Data.TheVariants as hold
use Rattle.array_data.specs.declared.built.Built.{Built}
use Rattle.array_data.specs.Depths.{depth_step, depth_told, row_depth_step, row_depth_told, deepest, built_depth, depth_of_rows, most_deep, open_parts, parts_in}
use Rattle.array_data.proofs.Forms.{drop_past}

module _ (d : Data) where
  pub depth_scalar : (s : Scalar) → d ≡ hold.Scalar s → 0 ≡ depth_told d
  unfolding depth_told depth_step
  depth_scalar s e = sym (ap depth_told (e ∙ sym (hold.rolls-Scalar s)) ∙ fold-roll-Data ℕ depth_step (open_data.Scalar s))

  pub depth_words : (t : ScalarType) (ws : List ℕ) → d ≡ hold.Words t ws → 1 ≡ depth_told d
  unfolding depth_told depth_step
  depth_words t ws e = sym (ap depth_told (e ∙ sym (hold.rolls-Words t ws)) ∙ fold-roll-Data ℕ depth_step (open_data.Words t ws))

  pub depth_rows : (n : ℕ) (h : Form) (ds : List Data) → d ≡ hold.Rows n h ds → n ≡ depth_told d
  unfolding depth_told depth_step
  depth_rows n h ds e = sym (ap depth_told (e ∙ sym (hold.rolls-Rows n h ds)) ∙ fold-roll-Data ℕ depth_step (open_data.Rows n h ds))

  pub depth_tuple : (n : ℕ) (ds : List Data) → d ≡ hold.Tuple n ds → n ≡ depth_told d
  unfolding depth_told depth_step
  depth_tuple n ds e = sym (ap depth_told (e ∙ sym (hold.rolls-Tuple n ds)) ∙ fold-roll-Data ℕ depth_step (open_data.Tuple n ds))

  pub depth_record : (n : ℕ) (fs : List Text) (ds : List Data) → d ≡ hold.Record n fs ds → n ≡ depth_told d
  unfolding depth_told depth_step
  depth_record n fs ds e = sym (ap depth_told (e ∙ sym (hold.rolls-Record n fs ds)) ∙ fold-roll-Data ℕ depth_step (open_data.Record n fs ds))

  pub row_depth_scalar : (s : Scalar) → d ≡ hold.Scalar s → 0 ≡ row_depth_told d
  unfolding row_depth_told row_depth_step
  row_depth_scalar s e = sym (ap row_depth_told (e ∙ sym (hold.rolls-Scalar s)) ∙ fold-roll-Data ℕ row_depth_step (open_data.Scalar s))

  pub row_depth_words : (t : ScalarType) (ws : List ℕ) → d ≡ hold.Words t ws → 0 ≡ row_depth_told d
  unfolding row_depth_told row_depth_step
  row_depth_words t ws e = sym (ap row_depth_told (e ∙ sym (hold.rolls-Words t ws)) ∙ fold-roll-Data ℕ row_depth_step (open_data.Words t ws))

  pub row_depth_rows : (n k : ℕ) (h : Form) (ds : List Data) → d ≡ hold.Rows n h ds → k ≡ n - 1 → k ≡ row_depth_told d
  unfolding row_depth_told row_depth_step
  row_depth_rows n k h ds e q = q ∙ sym (ap row_depth_told (e ∙ sym (hold.rolls-Rows n h ds)) ∙ fold-roll-Data ℕ row_depth_step (open_data.Rows n h ds))

  pub row_depth_tuple : (n : ℕ) (ds : List Data) → d ≡ hold.Tuple n ds → 0 ≡ row_depth_told d
  unfolding row_depth_told row_depth_step
  row_depth_tuple n ds e = sym (ap row_depth_told (e ∙ sym (hold.rolls-Tuple n ds)) ∙ fold-roll-Data ℕ row_depth_step (open_data.Tuple n ds))

  pub row_depth_record : (n : ℕ) (fs : List Text) (ds : List Data) → d ≡ hold.Record n fs ds → 0 ≡ row_depth_told d
  unfolding row_depth_told row_depth_step
  row_depth_record n fs ds e = sym (ap row_depth_told (e ∙ sym (hold.rolls-Record n fs ds)) ∙ fold-roll-Data ℕ row_depth_step (open_data.Record n fs ds))

pub ruleset depths = (depth_scalar, depth_words, depth_rows, depth_tuple, depth_record)

pub ruleset row_depths = (row_depth_scalar, row_depth_words, row_depth_rows, row_depth_tuple, row_depth_record)

-- ---- the greatest of some

unfoldable pub Deepest_from : ℕ → ℕ → List Data → ℕ → Type 0
Deepest_from n m ds i = deepest n ds ≡ deepest m (drop i ds)

module _ (n : ℕ) (ds : List Data) where
  pub deepest_start : Deepest_from n n ds 0
  unfolding Deepest_from
  deepest_start = refl

  pub deepest_more : (m m' k i : ℕ) (d : Data) → i < length ds → k ≡ depth_told (get_or ds i d) → m' ≡ max m k → Deepest_from n m ds i → Deepest_from n m' ds (i + 1)
  unfolding Deepest_from deepest
  deepest_more m m' k i d l e q h = h ∙ ap (deepest m) (drop-cons ds i d l) ∙ ap (λ z. deepest (max m z) (drop (suc i) ds)) (sym e) ∙ ap (λ z. deepest z (drop (suc i) ds)) (sym q) ∙ ap (λ z. deepest m' (drop z ds)) (sym (add-one i))

  pub deepest_end : (m k i : ℕ) → length ds ≤ i → Deepest_from n m ds i → k ≡ m + 1 → k ≡ deepest n ds + 1
  unfolding Deepest_from deepest
  deepest_end m k i l h e = e ∙ ap (λ z. z + 1) (sym (h ∙ ap (deepest m) (drop_past ds i l)))

pub ruleset deepest_rows = (deepest_start, deepest_more, deepest_end)

-- ---- what is made says how deep it is

pub tuple_made : (n : ℕ) (qs ps ds : List Data) → n ≡ deepest 0 qs + 1 → qs ≡ ps → depth_told (hold.Tuple n ds) ≡ deepest 0 ps + 1
tuple_made n qs ps ds e q = sym (depth_tuple (hold.Tuple n ds) n ds refl) ∙ e ∙ ap (λ z. deepest 0 z + 1) q

pub record_made : (n : ℕ) (fs : List Text) (qs ps ds : List Data) → n ≡ deepest 0 qs + 1 → qs ≡ ps → depth_told (hold.Record n fs ds) ≡ deepest 0 ps + 1
record_made n fs qs ps ds e q = sym (depth_record (hold.Record n fs ds) n fs ds refl) ∙ e ∙ ap (λ z. deepest 0 z + 1) q

pub ruleset depths_made = (tuple_made, record_made)

module _ (n : ℕ) (b : Built) where
  pub array_made : (h : Form) (ds : List Data) → length b.words ≡ 0 → depth_told (hold.Rows n h ds) ≡ built_depth n b
  unfolding built_depth
  array_made h ds e = sym (depth_rows (hold.Rows n h ds) n h ds refl) ∙ ap (λ z. cond (nat_eq z 0) n 1) (sym e)

  words_deep : (l : ℕ) → (l ≡ 0 → ⊥) → 1 ≡ cond (nat_eq l 0) n 1
  words_deep zero e = absurd (e refl)
  words_deep (suc l) e = sym (ap (λ z. cond z n 1) (eqb-suc-zero l))

  pub words_made : (t : ScalarType) (ws : List ℕ) → (length b.words ≡ 0 → ⊥) → depth_told (hold.Words t ws) ≡ built_depth n b
  unfolding built_depth
  words_made t ws e = sym (depth_words (hold.Words t ws) t ws refl) ∙ words_deep (length b.words) e

pub ruleset rows_made = (array_made, words_made)

-- ---- arrays of rows that are looked at

pub words_told : (t : ScalarType) (ws : List ℕ) → depth_told (hold.Words t ws) ≡ 1
words_told t ws = sym (depth_words (hold.Words t ws) t ws refl)

pub rows_told : (n m : ℕ) (h : Form) (qs ps ds : List Data) → n ≡ deepest m qs + 1 → qs ≡ ps → depth_told (hold.Rows n h ds) ≡ deepest m ps + 1
rows_told n m h qs ps ds e q = sym (depth_rows (hold.Rows n h ds) n h ds refl) ∙ e ∙ ap (λ z. deepest m z + 1) q

module _ {E : Type 0} (n : ℕ) (b : Built) (r : Result Data E) where
  pub of_rows : (ds : List Data) → length b.words ≡ 0 → ds ≡ b.rows → IfOk r (λ d. depth_told d ≡ deepest n ds + 1) → IfOk r (λ d. depth_told d ≡ depth_of_rows n b)
  unfolding depth_of_rows built_depth
  of_rows ds l e = subst (λ z. IfOk r (λ d. depth_told d ≡ z)) (ap (λ z. deepest n z + 1) e ∙ ap (λ z. cond (nat_eq z 0) (deepest n b.rows + 1) 1) (sym l))

  pub of_words : (length b.words ≡ 0 → ⊥) → IfOk r (λ d. depth_told d ≡ 1) → IfOk r (λ d. depth_told d ≡ depth_of_rows n b)
  unfolding depth_of_rows built_depth
  of_words l = subst (λ z. IfOk r (λ d. depth_told d ≡ z)) (words_deep (deepest n b.rows + 1) b (length b.words) l)

  pub of_depth : (m : ℕ) → m ≡ deepest n b.rows + 1 → IfOk r (λ d. depth_told d ≡ built_depth m b) → IfOk r (λ d. depth_told d ≡ depth_of_rows n b)
  unfolding depth_of_rows
  of_depth m e = subst (λ z. IfOk r (λ d. depth_told d ≡ built_depth z b)) e

pub ruleset arrays_made = (words_told, rows_told, of_rows, of_words, of_depth)

-- ---- a record with another part

parts_record : (n : ℕ) (fs : List Text) (ps : List Data) → parts_in (hold.Record n fs ps) ≡ ps
unfolding parts_in
parts_record n fs ps = ap parts_in (sym (hold.rolls-Record n fs ps)) ∙ ap open_parts (out-roll-Data (open_data.Record n fs ps))

pub replaced_record : (n : ℕ) (fs : List Text) (xs qs ps : List Data) → n ≡ deepest 0 xs + 1 → xs ≡ qs → ps ≡ qs → depth_told (hold.Record n fs ps) ≡ deepest 0 (parts_in (hold.Record n fs ps)) + 1
replaced_record n fs xs qs ps e q p = sym (depth_record (hold.Record n fs ps) n fs ps refl) ∙ e ∙ ap (λ z. deepest 0 z + 1) (q ∙ sym p ∙ sym (parts_record n fs ps))

pub ruleset replaced_made = (replaced_record)

-- ---- nothing that is made is too deep

pub few_words : (t : ScalarType) (ws : List ℕ) → depth_told (hold.Words t ws) ≤ most_deep
few_words t ws = subst (λ z. z ≤ most_deep) (depth_words (hold.Words t ws) t ws refl) (omega arith)

module _ (n : ℕ) (l : n ≤ most_deep) (ds : List Data) where
  pub few_rows : (h : Form) → depth_told (hold.Rows n h ds) ≤ most_deep
  few_rows h = subst (λ z. z ≤ most_deep) (depth_rows (hold.Rows n h ds) n h ds refl) l

  pub few_parts : depth_told (hold.Tuple n ds) ≤ most_deep
  few_parts = subst (λ z. z ≤ most_deep) (depth_tuple (hold.Tuple n ds) n ds refl) l

  pub few_fields : (fs : List Text) → depth_told (hold.Record n fs ds) ≤ most_deep
  few_fields fs = subst (λ z. z ≤ most_deep) (depth_record (hold.Record n fs ds) n fs ds refl) l

pub ruleset not_too_deep = (few_words, few_rows, few_parts, few_fields)
