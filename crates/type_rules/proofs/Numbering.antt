-- One name more.
use Rattle.std.proofs.Common.{◌≡◌, ℕ, zero, suc, ◌+◌, ◌≤◌, ◌<◌, Bool, true, false, cond, List, [], ◌∷◌, ◌++◌, length, slice_index_or, Option, Some, None, refl, sym, ◌∙◌, ap, subst, arith}
use Rattle.std.specs.Str.{bytes_eq}
use Rattle.std.specs.HashMap.{get_by}
use Rattle.std.proofs.lemmas.Slice.Eq.{bytes_eq-Decides}
use mathlib.Core.Logic.{◌⊎◌, inl, inr}
use native.Mathlib.Decide.{ℕ_discrete}
use Rattle.fut_ast.specs.Sorts.{Text}
use Rattle.fut_types.specs.declared.shapes.Fields.{Fields}
use Rattle.fut_types.specs.declared.shapes.ShapeTable.{ShapeTable}
use Rattle.fut_types.specs.Shapes.{IsTable, Rising, position_at, fields_of, row_of, some_fields, label_at, labels_from}
use Rattle.fut_typing.specs.Names.{Spells}
use Rattle.type_rules.specs.declared.labels.Labels.{Labels}
use Rattle.type_rules.specs.Labels.{number_of, record_of, row_in, IsLabels, Goes_on, One_more, Tells_number}

some_is : (n m : ℕ) → Some n ≡ Some m → n ≡ m
some_is n m e = cc

none_not : (m : ℕ) (n : Option ℕ) → n ≡ None → n ≡ Some m → ⊥
none_not m n e h = let k : Some m ≡ None = sym h ∙ e in cc

append_none : {X : Type 0} (xs : List X) → xs ≡ xs ++ []
append_none [] = refl
append_none (x ∷ xs) = ap (λ l. x ∷ l) (append_none xs)

place_old : (ps : List (Option ℕ)) (p : Option ℕ) (i : ℕ) → i < length ps → slice_index_or (ps ++ p ∷ []) i None ≡ slice_index_or ps i None
place_old [] p i lt = absurd (omega arith)
place_old (x ∷ ps) p zero lt = refl
place_old (x ∷ ps) p (suc i) lt = place_old ps p i (omega arith)

place_new : (ps : List (Option ℕ)) (p : Option ℕ) → slice_index_or (ps ++ p ∷ []) (length ps) None ≡ p
place_new [] p = refl
place_new (x ∷ ps) p = place_new ps p

long_new : {X : Type 0} (ps : List X) (p : X) → length (ps ++ p ∷ []) ≡ length ps + 1
long_new [] p = refl
long_new (x ∷ ps) p = ap suc (long_new ps p) ∙ (let e : suc (length ps + 1) ≡ suc (length ps) + 1 = omega arith in e)

pub goes_nowhere : (labels : Labels) (table : ShapeTable) → Goes_on labels table labels table
goes_nowhere labels table = record { numbers = λ s n h. h; fields = []; records = append_none table.records; row = []; labels_are = append_none table.labels; places = []; positions = append_none table.positions }

pub number_found : (labels : Labels) (text : Text) (r : Option ℕ) → get_by (λ k. bytes_eq text k.now) labels.numbers ≡ r → number_of labels text ≡ r
unfolding number_of
number_found labels text r h = h

rows_same : (table table' : ShapeTable) (n : ℕ) → table'.records ≡ table.records → table'.labels ≡ table.labels → (row_of table n).first + (row_of table n).count ≤ length table.labels → (row_of table' n).first + (row_of table' n).count ≤ length table'.labels
unfolding row_of
rows_same table table' n r l h = subst (λ rs. (slice_index_or rs n some_fields).first + (slice_index_or rs n some_fields).count ≤ length table'.labels) (sym r)
    (subst (λ ls. (slice_index_or table.records n some_fields).first + (slice_index_or table.records n some_fields).count ≤ length ls) (sym l) h)

-- a new name
module _ (labels labels' : Labels) (table table' : ShapeTable) (text : Text) (place : Option ℕ) (fresh : number_of labels text ≡ None)
    (spells : Tells_number (Spells text) place) (known : (s : Text) → number_of labels' s ≡ cond (bytes_eq text s) (Some (length table.positions)) (number_of labels s))
    (same_records : table'.records ≡ table.records) (same_labels : table'.labels ≡ table.labels) (places : table'.positions ≡ table.positions ++ place ∷ []) (same_rows : (ls : List ℕ) → record_of labels' ls ≡ record_of labels ls) (is : IsLabels labels table) where
  cases : (s : Text) (n : ℕ) → number_of labels' s ≡ Some n → ((text ≡ s) × (n ≡ length table.positions)) ⊎ (number_of labels s ≡ Some n)
  cases s n h = go (bytes_eq text s) refl
    where
      go : (b : Bool) → bytes_eq text s ≡ b → ((text ≡ s) × (n ≡ length table.positions)) ⊎ (number_of labels s ≡ Some n)
      go true e = inl ((bytes_eq-Decides text s).0 e, some_is n (length table.positions) (sym h ∙ known s ∙ ap (λ b. cond b (Some (length table.positions)) (number_of labels s)) e))
      go false e = inr (sym (ap (λ b. cond b (Some (length table.positions)) (number_of labels s)) e) ∙ sym (known s) ∙ h)

  pub new_number : number_of labels' text ≡ Some (length table.positions)
  new_number = known text ∙ ap (λ b. cond b (Some (length table.positions)) (number_of labels text)) ((bytes_eq-Decides text text).1 refl)

  old_number : (s : Text) (n : ℕ) → number_of labels s ≡ Some n → number_of labels' s ≡ Some n
  old_number s n h = go (bytes_eq text s) refl
    where
      go : (b : Bool) → bytes_eq text s ≡ b → number_of labels' s ≡ Some n
      go true e = absurd (none_not n (number_of labels s) (ap (number_of labels) (sym ((bytes_eq-Decides text s).0 e)) ∙ fresh) h)
      go false e = known s ∙ ap (λ b. cond b (Some (length table.positions)) (number_of labels s)) e ∙ h

  long : length table'.positions ≡ length table.positions + 1
  long = ap length places ∙ long_new table.positions place

  at_new : position_at table' (length table.positions) ≡ place
  unfolding position_at
  at_new = ap (λ ps. slice_index_or ps (length table.positions) None) places ∙ place_new table.positions place

  at_old : (n : ℕ) → n < length table.positions → position_at table' n ≡ position_at table n
  unfolding position_at
  at_old n lt = ap (λ ps. slice_index_or ps n None) places ∙ place_old table.positions place n lt

  pub named_on : Goes_on labels table labels' table'
  named_on = record { numbers = old_number; fields = []; records = same_records ∙ append_none table.records; row = []; labels_are = same_labels ∙ append_none table.labels; places = place ∷ []; positions = places }

  spelled' : (s : Text) (n : ℕ) → number_of labels' s ≡ Some n → Tells_number (Spells s) (position_at table' n)
  spelled' s n h = elim (cases s n h) as (λ d. Tells_number (Spells s) (position_at table' n)) [
    | inl e ↦ subst (λ j. Tells_number (Spells s) (position_at table' j)) (sym e.1) (subst (λ t. Tells_number (Spells t) (position_at table' (length table.positions))) e.0 (subst (Tells_number (Spells text)) (sym at_new) spells))
    | inr o ↦ subst (Tells_number (Spells s)) (sym (at_old n (is.within s n o))) (is.spelled s n o)
  ]

  one' : (s t : Text) (n : ℕ) → number_of labels' s ≡ Some n → number_of labels' t ≡ Some n → s ≡ t
  one' s t n h k = elim (cases s n h) as (λ d. s ≡ t) [
    | inl e ↦ elim (cases t n k) as (λ d. s ≡ t) [
      | inl f ↦ sym e.0 ∙ f.0
      | inr o ↦ absurd (let lt : n < length table.positions = is.within t n o in let q : n ≡ length table.positions = e.1 in omega arith)
    ]
    | inr o ↦ elim (cases t n k) as (λ d. s ≡ t) [
      | inl f ↦ absurd (let lt : n < length table.positions = is.within s n o in let q : n ≡ length table.positions = f.1 in omega arith)
      | inr p ↦ is.one s t n o p
    ]
  ]

  within' : (s : Text) (n : ℕ) → number_of labels' s ≡ Some n → n < length table'.positions
  within' s n h = elim (cases s n h) as (λ d. n < length table'.positions) [
    | inl e ↦ (let q : n ≡ length table.positions = e.1 in let l : length table'.positions ≡ length table.positions + 1 = long in omega arith)
    | inr o ↦ (let lt : n < length table.positions = is.within s n o in let l : length table'.positions ≡ length table.positions + 1 = long in omega arith)
  ]

  abbrev name' : ℕ → Text
  name' n = elim (ℕ_discrete n (length table.positions)) as (λ d. Text) [ yes e ↦ text | no ne ↦ is.name n ]

  named' : (n : ℕ) → n < length table'.positions → number_of labels' (name' n) ≡ Some n
  named' n lt = elim (ℕ_discrete n (length table.positions)) as (λ d. number_of labels' (elim d as (λ d. Text) [ yes e ↦ text | no ne ↦ is.name n ]) ≡ Some n) [
    | yes e ↦ new_number ∙ ap Some (sym e)
    | no ne ↦ old_number (is.name n) n (is.named n (let l : length table'.positions ≡ length table.positions + 1 = long in grind (arith, ne)))
  ]

  same_fields : (n : ℕ) → fields_of table' n ≡ fields_of table n
  unfolding row_of
  same_fields n = ap (λ ls. labels_from ls (slice_index_or table'.records n some_fields).first (slice_index_or table'.records n some_fields).count) same_labels
      ∙ ap (λ rs. labels_from table.labels (slice_index_or rs n some_fields).first (slice_index_or rs n some_fields).count) same_records

  pub named_is : IsLabels labels' table'
  named_is = record {
    is_table = record {
      rows = λ n lt. table_rows n (subst (λ rs. n < length rs) same_records lt);
      rising = λ n lt. subst (Rising 0) (sym (same_fields n)) (is.is_table.rising n (subst (λ rs. n < length rs) same_records lt));
    };
    within = within';
    name = name';
    named = named';
    one = one';
    spelled = spelled';
    rows = λ n lt. same_rows (fields_of table' n) ∙ ap (record_of labels) (same_fields n) ∙ is.rows n (subst (λ rs. n < length rs) same_records lt);
    found = λ ls n h. let f = is.found ls n (sym (same_rows ls) ∙ h) in (subst (λ rs. n < length rs) (sym same_records) f.0, same_fields n ∙ f.1);
  }
    where
      table_rows : (n : ℕ) → n < length table.records → (row_of table' n).first + (row_of table' n).count ≤ length table'.labels
      table_rows n lt = rows_same table table' n same_records same_labels (is.is_table.rows n lt)

pub numbers_after : (labels labels' : Labels) (text : Text) (n m : ℕ) → n ≡ m → ((s : Text) → get_by (λ k. bytes_eq s k.now) labels'.numbers ≡ cond (bytes_eq text s) (Some n) (get_by (λ k. bytes_eq s k.now) labels.numbers)) → (s : Text) → number_of labels' s ≡ cond (bytes_eq text s) (Some m) (number_of labels s)
unfolding number_of
numbers_after labels labels' text n m e h s = h s ∙ ap (λ k. cond (bytes_eq text s) (Some k) (number_of labels s)) e

pub same_record : (labels labels' : Labels) (ls : List ℕ) → labels'.rows ≡ labels.rows → record_of labels' ls ≡ record_of labels ls
same_record labels labels' ls e = ap (λ m. row_in m ls) e

-- one record more
row_old : (rs : List Fields) (r : Fields) (i : ℕ) → i < length rs → slice_index_or (rs ++ r ∷ []) i some_fields ≡ slice_index_or rs i some_fields
row_old [] r i lt = absurd (omega arith)
row_old (x ∷ rs) r zero lt = refl
row_old (x ∷ rs) r (suc i) lt = row_old rs r i (omega arith)

row_new : (rs : List Fields) (r : Fields) → slice_index_or (rs ++ r ∷ []) (length rs) some_fields ≡ r
row_new [] r = refl
row_new (x ∷ rs) r = row_new rs r

long_append : (xs ys : List ℕ) → length (xs ++ ys) ≡ length xs + length ys
long_append [] ys = omega arith
long_append (x ∷ xs) ys = ap suc (long_append xs ys) ∙ (let e : suc (length xs + length ys) ≡ suc (length xs) + length ys = omega arith in e)

label_old : (xs ys : List ℕ) (i : ℕ) → i < length xs → label_at (xs ++ ys) i ≡ label_at xs i
unfolding label_at
label_old [] ys i lt = absurd (omega arith)
label_old (x ∷ xs) ys zero lt = refl
label_old (x ∷ xs) ys (suc i) lt = label_old xs ys i (omega arith)

pub labels_old : (xs ys : List ℕ) (count first : ℕ) → first + count ≤ length xs → labels_from (xs ++ ys) first count ≡ labels_from xs first count
unfolding labels_from
labels_old xs ys zero first le = refl
labels_old xs ys (suc count) first le = λ i. label_old xs ys first (omega arith) i ∷ labels_old xs ys count (suc first) (omega arith) i

label_next : (x : ℕ) (xs : List ℕ) (i : ℕ) → label_at (x ∷ xs) (suc i) ≡ label_at xs i
unfolding label_at
label_next x xs i = refl

labels_next : (x : ℕ) (xs : List ℕ) (count first : ℕ) → labels_from (x ∷ xs) (suc first) count ≡ labels_from xs first count
unfolding labels_from
labels_next x xs zero first = refl
labels_next x xs (suc count) first = λ i. label_next x xs first i ∷ labels_next x xs count (suc first) i

label_first : (x : ℕ) (xs : List ℕ) → label_at (x ∷ xs) 0 ≡ x
unfolding label_at
label_first x xs = refl

labels_none : (xs : List ℕ) (first : ℕ) → labels_from xs first 0 ≡ []
unfolding labels_from
labels_none xs first = refl

labels_cons : (xs : List ℕ) (first count : ℕ) → labels_from xs first (suc count) ≡ label_at xs first ∷ labels_from xs (suc first) count
unfolding labels_from
labels_cons xs first count = refl

pub labels_new : (xs ys : List ℕ) → labels_from (xs ++ ys) (length xs) (length ys) ≡ ys
labels_new [] [] = labels_none [] 0
labels_new [] (y ∷ ys) = labels_cons (y ∷ ys) 0 (length ys) ∙ (λ i. label_first y ys i ∷ (labels_next y ys (length ys) 0 ∙ labels_new [] ys) i)
labels_new (x ∷ xs) ys = labels_next x (xs ++ ys) (length ys) (length xs) ∙ labels_new xs ys

module _ (labels labels' : Labels) (table table' : ShapeTable) (row : List ℕ) (fresh : record_of labels row ≡ None) (same_numbers : (s : Text) → number_of labels' s ≡ number_of labels s)
    (known : (ls : List ℕ) → record_of labels' ls ≡ cond (bytes_eq row ls) (Some (length table.records)) (record_of labels ls)) (more : One_more table row table') (is : IsLabels labels table) (rises : Rising 0 row) where
  row_at_old : (n : ℕ) → n < length table.records → row_of table' n ≡ row_of table n
  unfolding row_of
  row_at_old n lt = ap (λ rs. slice_index_or rs n some_fields) more.records ∙ row_old table.records _ n lt

  row_at_new : row_of table' (length table.records) ≡ record { first = length table.labels; count = length row }
  unfolding row_of
  row_at_new = ap (λ rs. slice_index_or rs (length table.records) some_fields) more.records ∙ row_new table.records _

  fields_old : (n : ℕ) → n < length table.records → fields_of table' n ≡ fields_of table n
  fields_old n lt = ap (λ (r : Fields). labels_from table'.labels r.first r.count) (row_at_old n lt) ∙ ap (λ ls. labels_from ls (row_of table n).first (row_of table n).count) more.labels_are ∙ labels_old table.labels row (row_of table n).count (row_of table n).first (is.is_table.rows n lt)

  fields_new : fields_of table' (length table.records) ≡ row
  fields_new = ap (λ (r : Fields). labels_from table'.labels r.first r.count) row_at_new ∙ ap (λ ls. labels_from ls (length table.labels) (length row)) more.labels_are ∙ labels_new table.labels row

  long_records : length table'.records ≡ length table.records + 1
  long_records = ap length more.records ∙ long_new table.records _

  long_labels : length table'.labels ≡ length table.labels + length row
  long_labels = ap length more.labels_are ∙ long_append table.labels row

  pub new_record : record_of labels' row ≡ Some (length table.records)
  new_record = known row ∙ ap (λ b. cond b (Some (length table.records)) (record_of labels row)) ((bytes_eq-Decides row row).1 refl)

  row_cases : (ls : List ℕ) (n : ℕ) → record_of labels' ls ≡ Some n → ((row ≡ ls) × (n ≡ length table.records)) ⊎ (record_of labels ls ≡ Some n)
  row_cases ls n h = go (bytes_eq row ls) refl
    where
      go : (b : Bool) → bytes_eq row ls ≡ b → ((row ≡ ls) × (n ≡ length table.records)) ⊎ (record_of labels ls ≡ Some n)
      go true e = inl ((bytes_eq-Decides row ls).0 e, some_is n (length table.records) (sym h ∙ known ls ∙ ap (λ b. cond b (Some (length table.records)) (record_of labels ls)) e))
      go false e = inr (sym (ap (λ b. cond b (Some (length table.records)) (record_of labels ls)) e) ∙ sym (known ls) ∙ h)

  record_old : (ls : List ℕ) (n : ℕ) → record_of labels ls ≡ Some n → record_of labels' ls ≡ Some n
  record_old ls n h = go (bytes_eq row ls) refl
    where
      go : (b : Bool) → bytes_eq row ls ≡ b → record_of labels' ls ≡ Some n
      go true e = absurd (none_not n (record_of labels ls) (ap (record_of labels) (sym ((bytes_eq-Decides row ls).0 e)) ∙ fresh) h)
      go false e = known ls ∙ ap (λ b. cond b (Some (length table.records)) (record_of labels ls)) e ∙ h

  lower : (n : ℕ) → n < length table'.records → (n < length table.records) ⊎ (n ≡ length table.records)
  lower n lt = elim (ℕ_discrete n (length table.records)) as (λ d. (n < length table.records) ⊎ (n ≡ length table.records)) [
    | yes e ↦ inr e
    | no ne ↦ inl (let l : length table'.records ≡ length table.records + 1 = long_records in grind (arith, ne))
  ]

  table_is : IsTable table'
  table_is = record {
    rows = λ n lt. elim (lower n lt) as (λ d. (row_of table' n).first + (row_of table' n).count ≤ length table'.labels) [
      | inl o ↦ subst (λ (r : Fields). r.first + r.count ≤ length table'.labels) (sym (row_at_old n o)) (let w : (row_of table n).first + (row_of table n).count ≤ length table.labels = is.is_table.rows n o in let l : length table'.labels ≡ length table.labels + length row = long_labels in omega arith)
      | inr e ↦ subst (λ m. (row_of table' m).first + (row_of table' m).count ≤ length table'.labels) (sym e) (subst (λ (r : Fields). r.first + r.count ≤ length table'.labels) (sym row_at_new) (let l : length table'.labels ≡ length table.labels + length row = long_labels in omega arith))
    ];
    rising = λ n lt. elim (lower n lt) as (λ d. Rising 0 (fields_of table' n)) [
      | inl o ↦ subst (Rising 0) (sym (fields_old n o)) (is.is_table.rising n o)
      | inr e ↦ subst (λ m. Rising 0 (fields_of table' m)) (sym e) (subst (Rising 0) (sym fields_new) rises)
    ];
  }

  same_positions : (n : ℕ) → position_at table' n ≡ position_at table n
  unfolding position_at
  same_positions n = ap (λ ps. slice_index_or ps n None) more.positions

  pub recorded_on : Goes_on labels table labels' table'
  recorded_on = record { numbers = λ s n h. same_numbers s ∙ h; fields = record { first = length table.labels; count = length row } ∷ []; records = more.records; row = row; labels_are = more.labels_are; places = []; positions = more.positions ∙ append_none table.positions }

  pub recorded_is : IsLabels labels' table'
  recorded_is = record {
    is_table = table_is;
    within = λ s n h. subst (λ ps. n < length ps) (sym more.positions) (is.within s n (sym (same_numbers s) ∙ h));
    name = is.name;
    named = λ n lt. same_numbers (is.name n) ∙ is.named n (subst (λ ps. n < length ps) more.positions lt);
    one = λ s t n h k. is.one s t n (sym (same_numbers s) ∙ h) (sym (same_numbers t) ∙ k);
    spelled = λ s n h. subst (Tells_number (Spells s)) (sym (same_positions n)) (is.spelled s n (sym (same_numbers s) ∙ h));
    rows = λ n lt. elim (lower n lt) as (λ d. record_of labels' (fields_of table' n) ≡ Some n) [
      | inl o ↦ ap (record_of labels') (fields_old n o) ∙ record_old (fields_of table n) n (is.rows n o)
      | inr e ↦ subst (λ m. record_of labels' (fields_of table' m) ≡ Some m) (sym e) (ap (record_of labels') fields_new ∙ new_record)
    ];
    found = λ ls n h. elim (row_cases ls n h) as (λ d. (n < length table'.records) × (fields_of table' n ≡ ls)) [
      | inl e ↦ (let l : length table'.records ≡ length table.records + 1 = long_records in let q : n ≡ length table.records = e.1 in omega arith, subst (λ m. fields_of table' m ≡ ls) (sym e.1) (fields_new ∙ e.0))
      | inr o ↦ let f = is.found ls n o in (let l : length table'.records ≡ length table.records + 1 = long_records in let q : n < length table.records = f.0 in omega arith, fields_old n f.0 ∙ f.1)
    ];
  }

pub numbers_same : (labels labels' : Labels) → labels'.numbers ≡ labels.numbers → (s : Text) → number_of labels' s ≡ number_of labels s
unfolding number_of
numbers_same labels labels' e s = ap (λ m. get_by (λ k. bytes_eq s k.now) m) e

-- without names and records
pub no_table : (labels : Labels) (table : ShapeTable) → table.records ≡ [] → table.positions ≡ [] → ((s : Text) → number_of labels s ≡ None) → ((ls : List ℕ) → record_of labels ls ≡ None) → IsLabels labels table
no_table labels table rs ps none nothing = record {
  is_table = record { rows = λ n lt. absurd (no_record n lt); rising = λ n lt. absurd (no_record n lt) };
  within = λ s n h. absurd (none_not n (number_of labels s) (none s) h);
  name = λ n. [];
  named = λ n lt. absurd (let l : length table.positions ≡ 0 = ap length ps in omega arith);
  one = λ s t n h k. absurd (none_not n (number_of labels s) (none s) h);
  spelled = λ s n h. absurd (none_not n (number_of labels s) (none s) h);
  rows = λ n lt. absurd (no_record n lt);
  found = λ ls n h. absurd (none_not n (record_of labels ls) (nothing ls) h);
}
  where
    no_record : (n : ℕ) → n < length table.records → ⊥
    no_record n lt = let l : length table.records ≡ 0 = ap length rs in omega arith
