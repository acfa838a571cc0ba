-- Labels in the order of their names: what tests show of them, and that names and records can be numbered in order.
use Rattle.std.proofs.Common.{◌≡◌, ℕ, zero, suc, ◌+◌, ◌-◌, ◌≤◌, ◌<◌, true, List, [], ◌∷◌, length, slice_index_or, Some, refl, sym, ap, ◌∙◌, subst, arith}
use Rattle.std.specs.List.{AllPairs}
use Rattle.std.specs.Borrow.{Bor}
use native.Mathlib.Decide.{ℕ_discrete}
use Rattle.fut_ast.specs.Sorts.{Text}
use Rattle.fut_flat.specs.Erased.{texts}
use Rattle.fut_types.specs.Shapes.{Tells_position, Rising, row_of, label_at, labels_from, position_at, fields_of}
use Rattle.fut_typing.specs.Names.{Names}
use Rattle.type_infer.specs.Inferring.{Numbers, Told_by}
use Rattle.type_rules.specs.declared.labels.Labels.{Labels}
use Rattle.type_rules.specs.Labels.{IsLabels, number_of}
use Rattle.type_scopes.specs.declared.Inference.{Inference}
use Rattle.sizing_laws.specs.Order.{is_before, Labels_rise, In_order}
use Rattle.sizing_laws.specs.Claims.{Put_in_order}
use Rattle.sizing_laws.proofs.Ordering.{before_more, some_order}
use Rattle.typed_programs.specs.Ordered.{Is_ordered, Some_order, name_at, Numbered_so, Rise_so, Labels_known}

-- ---- what tests show

below_more : (labels : List ℕ) (many at : ℕ) → ((k : ℕ) → k < at → label_at labels k < many) → label_at labels at < many → (k : ℕ) → k < at + 1 → label_at labels k < many
below_more labels many at h one k lt = elim (ℕ_discrete k at) as (λ d. label_at labels k < many) [ yes e ↦ subst (λ j. label_at labels j < many) (sym e) one | no ne ↦ h k (omega (arith, ne)) ]

pub one_below : (labels : List ℕ) (many at d : ℕ) → at < length labels → ((k : ℕ) → k < at → label_at labels k < many) → slice_index_or labels at d < many → (k : ℕ) → k < at + 1 → label_at labels k < many
unfolding label_at
one_below labels many at d lt h one = below_more labels many at h (subst (λ n. n < many) (same labels at lt) one)
  where
    same : (xs : List ℕ) (i : ℕ) → i < length xs → slice_index_or xs i d ≡ slice_index_or xs i 0
    same [] i lt = absurd (omega arith)
    same (x ∷ xs) zero lt = refl
    same (x ∷ xs) (suc i) lt = same xs i (omega arith)

pub texts_long : (names : List (Bor Text)) → length (texts names) ≡ length names
texts_long [] = refl
texts_long (x ∷ names) = ap suc (texts_long names)

text_at : (names : List (Bor Text)) (at : ℕ) (d : Bor Text) → at < length names → name_at (texts names) at ≡ (slice_index_or names at d).now
text_at [] at d lt = absurd (omega arith)
text_at (x ∷ names) zero d lt = refl
text_at (x ∷ names) (suc at) d lt = text_at names at d (omega arith)

pub one_numbered : (labels : Labels) (names : List (Bor Text)) (at : ℕ) (d : Bor Text) (number : ℕ) → at < length names → ((k : ℕ) → k < at → number_of labels (name_at (texts names) k) ≡ Some k)
    → number_of labels (slice_index_or names at d).now ≡ Some number → number ≡ at → (k : ℕ) → k < at + 1 → number_of labels (name_at (texts names) k) ≡ Some k
one_numbered labels names at d number lt h one e k below = elim (ℕ_discrete k at) as (λ z. number_of labels (name_at (texts names) k) ≡ Some k) [
  | yes q ↦ subst (λ j. number_of labels (name_at (texts names) j) ≡ Some j) (sym q) (ap (number_of labels) (text_at names at d lt) ∙ one ∙ ap Some e)
  | no ne ↦ h k (omega (arith, ne))
]

pub one_rises : (names : List (Bor Text)) (at : ℕ) (c d : Bor Text) → 1 ≤ at → at < length names → ((k : ℕ) → suc k < at → is_before (name_at (texts names) k) (name_at (texts names) (suc k)) ≡ true)
    → is_before (slice_index_or names (at - 1) c).now (slice_index_or names at d).now ≡ true → (k : ℕ) → suc k < at + 1 → is_before (name_at (texts names) k) (name_at (texts names) (suc k)) ≡ true
one_rises names at c d some lt h one k below = elim (ℕ_discrete (suc k) at) as (λ z. is_before (name_at (texts names) k) (name_at (texts names) (suc k)) ≡ true) [
  | yes q ↦ subst (λ (z : Text × Text). is_before z.0 z.1 ≡ true)
      (λ i. (sym (ap (name_at (texts names)) (let w : k ≡ at - 1 = omega (arith, q) in w) ∙ text_at names (at - 1) c (omega arith)) i, sym (ap (name_at (texts names)) q ∙ text_at names at d lt) i)) one
  | no ne ↦ h k (omega (arith, ne))
]

all_rise : (names : List Text) → Rise_so names → (m n : ℕ) → m < n → n < length names → is_before (name_at names m) (name_at names n) ≡ true
all_rise names r m zero lt within = absurd (omega arith)
all_rise names r m (suc k) lt within = elim (ℕ_discrete m k) as (λ d. is_before (name_at names m) (name_at names (suc k)) ≡ true) [
  | yes e ↦ subst (λ j. is_before (name_at names j) (name_at names (suc k)) ≡ true) (sym e) (r k within)
  | no ne ↦ before_more (name_at names m) (name_at names k) (name_at names (suc k)) (all_rise names r m k (omega (arith, ne)) (omega arith)) (r k within)
]

module _ (i : Inference) (labels : IsLabels i.labels i.table) (names : List Text) (long : length names ≡ length i.table.positions) (numbered : Numbered_so i.labels names) (rise : Rise_so names) where
  -- the name of a number is the one at its place
  name_is : (s : Text) (m : ℕ) → number_of i.labels s ≡ Some m → (m < length names) × (s ≡ name_at names m)
  name_is s m e = let lt : m < length i.table.positions = labels.within s m e in let within : m < length names = omega arith in (within, labels.one s (name_at names m) m e (numbered m within))

  pub shows_ordered : Labels_known i.table.labels (length i.table.positions) → Is_ordered i
  shows_ordered known = record {
    known = known;
    rises = λ s t m n a b lt. (let x = name_is s m a in let y = name_is t n b in subst (λ (z : Text × Text). is_before z.0 z.1 ≡ true) (λ k. (sym x.1 k, sym y.1 k)) (all_rise names rise m n lt y.0));
  }

-- ---- records have their parts in order

label_rises : (from : ℕ) (xs : List ℕ) → Rising from xs → (i j d : ℕ) → i < j → j < length xs → slice_index_or xs i d < slice_index_or xs j d
label_rises from [] r i j d lt within = absurd (omega arith)
label_rises from (x ∷ xs) r i zero d lt within = absurd (omega arith)
label_rises from (x ∷ xs) r zero (suc j) d lt within = above (suc x) xs r.1 j d (omega arith)
  where
    above : (from : ℕ) (xs : List ℕ) → Rising from xs → (j d : ℕ) → j < length xs → from ≤ slice_index_or xs j d
    above from [] r j d within = absurd (omega arith)
    above from (x ∷ xs) r zero d within = r.0
    above from (x ∷ xs) r (suc j) d within = let z : suc x ≤ slice_index_or xs j d = above (suc x) xs r.1 j d (omega arith) in let y : from ≤ x = r.0 in omega arith
label_rises from (x ∷ xs) r (suc i) (suc j) d lt within = label_rises (suc x) xs r.1 i j d (omega arith) (omega arith)

-- a label of a record is one of the table
label_known : (labels : List ℕ) (many first count : ℕ) → ((k : ℕ) → k < length labels → label_at labels k < many) → first + count ≤ length labels → (i d : ℕ) → i < length (labels_from labels first count) → slice_index_or (labels_from labels first count) i d < many
unfolding labels_from
label_known labels many first zero known le i d lt = absurd (omega arith)
label_known labels many first (suc count) known le zero d lt = known first (omega arith)
label_known labels many first (suc count) known le (suc i) d lt = label_known labels many (suc first) count known (omega arith) i d (omega arith)

module _ (i : Inference) (labels : IsLabels i.labels i.table) (ordered : Is_ordered i) (N : Names) (numbers : Numbers i N) where
  -- a label in hand is that of its name alone
  name_of : (s : Text) (k : ℕ) → k < length i.table.positions → N.label s ≡ k → number_of i.labels s ≡ Some k
  name_of s k lt e = let t : Text = labels.name k in subst (λ u. number_of i.labels u ≡ Some k) (numbers.names.one_label t s (numbers.labelled.label t k (labels.named k lt) ∙ sym e)) (labels.named k lt)

  rows_rise : (n : ℕ) → n < length i.table.records → AllPairs (Labels_rise N) (fields_of i.table n)
  rows_rise n lt a b d below within = λ s t e g.
      let row : (row_of i.table n).first + (row_of i.table n).count ≤ length i.table.labels = labels.is_table.rows n lt in
      let one : slice_index_or (fields_of i.table n) a d < length i.table.positions = label_known i.table.labels (length i.table.positions) (row_of i.table n).first (row_of i.table n).count ordered.known row a d (omega arith) in
      let two : slice_index_or (fields_of i.table n) b d < length i.table.positions = label_known i.table.labels (length i.table.positions) (row_of i.table n).first (row_of i.table n).count ordered.known row b d within in
      ordered.rises s t (slice_index_or (fields_of i.table n) a d) (slice_index_or (fields_of i.table n) b d) (name_of s (slice_index_or (fields_of i.table n) a d) one e) (name_of t (slice_index_or (fields_of i.table n) b d) two g)
      (label_rises 0 (fields_of i.table n) (labels.is_table.rising n lt) a b d below within)

  module _ (M : Names) (put : Put_in_order N M) where
    goes_on : Numbers i M
    goes_on = record {
      names = put.names;
      labelled = record {
        label = λ s k e. ap (λ (f : Text → ℕ). f s) put.label ∙ numbers.labelled.label s k e;
        shapes = record {
          fields = λ n lt. put.fields n (subst (AllPairs (Labels_rise N)) (sym (numbers.labelled.shapes.fields n lt)) (rows_rise n lt)) ∙ numbers.labelled.shapes.fields n lt;
          position = λ l lt. subst (λ (f : ℕ → _). Tells_position (position_at i.table l) (f l)) (sym put.position) (numbers.labelled.shapes.position l lt);
        };
      };
    }

-- a numbering in order that goes on from the table in hand
pub record Numbers_in_order (i : Inference) : Type 0 where
  pub names : Names
  pub numbers : Numbers i names
  pub order : In_order names

pub numbers_in_order : (i : Inference) → IsLabels i.labels i.table → Is_ordered i → (N : Names) × Numbers i N → Numbers_in_order i
numbers_in_order i labels ordered some = let w = some_order some.0 some.1.names in record { names = w.0; numbers = goes_on i labels ordered some.0 some.1 w.0 w.1; order = w.1.order }

-- what is told of each numbering that goes on from a table holds of one in order
pub in_some_order : (P : Names → Type 0) (i : Inference) → Told_by P i → Is_ordered i → Some_order P
in_some_order P i told ordered = let w = numbers_in_order i told.labels ordered told.some in (w.names, w.numbers.names, w.order, told.holds w.names w.numbers)
