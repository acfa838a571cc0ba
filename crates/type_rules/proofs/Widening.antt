-- What stays true where a table goes on.
use Rattle.std.proofs.Common.{◌≡◌, ◌↔◌, ℕ, zero, suc, ◌+◌, ◌≤◌, ◌<◌, List, [], ◌∷◌, ◌++◌, length, slice_index_or, Some, None, refl, sym, ◌∙◌, ap, subst, arith}
use Rattle.std.specs.List.{Contains}
use Rattle.fut_ast.specs.Sorts.{Text}
use Rattle.fut_types.specs.declared.Head.{Head}
use Rattle.fut_types.specs.declared.Head.TheVariants as head
use Rattle.fut_types.specs.declared.shapes.Fields.{Fields}
use Rattle.fut_types.specs.declared.shapes.ShapeTable.{ShapeTable}
use Rattle.fut_types.specs.Shapes.{Shapes, IsTable, IsKnown, Tells, Tells_position, fields_of, row_of, labels_from, position_at, some_fields}
use Rattle.fut_typing.specs.Names.{Names, Once}
use Rattle.type_graph.specs.declared.Form.{Form}
use Rattle.type_graph.specs.declared.Form.TheVariants as form
use Rattle.type_graph.specs.declared.Node.{Node}
use Rattle.type_graph.specs.declared.Entry.{Entry}
use Rattle.type_graph.specs.Graph.{Each, node_at, entry_at, Tables, Told, Bound}
use Rattle.type_graph.specs.Claims.{Sound}
use Rattle.type_rules.specs.declared.labels.Labels.{Labels}
use Rattle.type_rules.specs.Labels.{record_of, IsLabels, Goes_on, Labelled}
use Rattle.type_rules.proofs.Numbering.{labels_old}
use Rattle.type_rules.specs.Fields.{Numbered, Row_is}
use Rattle.type_rules.proofs.Asking.{each_lower}

long_append : {X : Type 0} (xs ys : List X) → length (xs ++ ys) ≡ length xs + length ys
long_append [] ys = omega arith
long_append (x ∷ xs) ys = ap suc (long_append xs ys) ∙ (let e : suc (length xs + length ys) ≡ suc (length xs) + length ys = omega arith in e)

at_old : {X : Type 0} (xs ys : List X) (i : ℕ) (d : X) → i < length xs → slice_index_or (xs ++ ys) i d ≡ slice_index_or xs i d
at_old [] ys i d lt = absurd (omega arith)
at_old (x ∷ xs) ys zero d lt = refl
at_old (x ∷ xs) ys (suc i) d lt = at_old xs ys i d (omega arith)

module _ (l0 l1 : Labels) (t0 t1 : ShapeTable) (is : IsTable t0) (on : Goes_on l0 t0 l1 t1) where
  pub more_records : length t0.records ≤ length t1.records
  more_records = let e : length t1.records ≡ length t0.records + length on.fields = ap length on.records ∙ long_append t0.records on.fields in omega arith

  pub more_positions : length t0.positions ≤ length t1.positions
  more_positions = let e : length t1.positions ≡ length t0.positions + length on.places = ap length on.positions ∙ long_append t0.positions on.places in omega arith

  row_same : (n : ℕ) → n < length t0.records → row_of t1 n ≡ row_of t0 n
  unfolding row_of
  row_same n lt = ap (λ rs. slice_index_or rs n some_fields) on.records ∙ at_old t0.records on.fields n some_fields lt

  fields_same : (n : ℕ) → n < length t0.records → fields_of t1 n ≡ fields_of t0 n
  fields_same n lt = ap (λ (r : Fields). labels_from t1.labels r.first r.count) (row_same n lt) ∙ ap (λ ls. labels_from ls (row_of t0 n).first (row_of t0 n).count) on.labels_are ∙ labels_old t0.labels on.row (row_of t0 n).count (row_of t0 n).first (is.rows n lt)

  position_same : (n : ℕ) → n < length t0.positions → position_at t1 n ≡ position_at t0 n
  unfolding position_at
  position_same n lt = ap (λ ps. slice_index_or ps n None) on.positions ∙ at_old t0.positions on.places n None lt

  pub tells_less : (S : Shapes) → Tells t1 S → Tells t0 S
  tells_less S t = record {
    fields = λ n lt. t.fields n (let m : length t0.records ≤ length t1.records = more_records in omega arith) ∙ fields_same n lt;
    position = λ n lt. subst (λ o. Tells_position o (S.position n)) (position_same n lt) (t.position n (let m : length t0.positions ≤ length t1.positions = more_positions in omega arith));
  }

  pub labelled_less : (N : Names) → Labelled l1 t1 N → Labelled l0 t0 N
  labelled_less N l = record { label = λ s n h. l.label s n (on.numbers s n h); shapes = tells_less N.shapes l.shapes }

  pub told_less : (entries : List Entry) (T : Tables) → Told t1 entries T → Told t0 entries T
  told_less entries T t = record { shapes = tells_less T.shapes t.shapes; listed = t.listed }

  known_more : (h : Head) → IsKnown t0 h → IsKnown t1 h
  unfolding IsKnown
  known_more (head.Record n) k = let m : length t0.records ≤ length t1.records = more_records in omega arith
  known_more head.Tuple k = tt
  known_more (head.Scalar s) k = tt
  known_more head.Array k = tt
  known_more head.Fun k = tt
  known_more (head.Rigid n i) k = tt
  known_more (head.Abstract n d) k = tt

  bound_more : (m : ℕ) (f : Form) → Bound t0 m f → Bound t1 m f
  bound_more m form.Free b = tt
  bound_more m (form.Link j) b = tt
  bound_more m (form.Made h x n) b = known_more h b
  bound_more m (form.Open e n) b = b

  pub sound_more : (nodes : List Node) (entries : List Entry) → Sound t0 nodes entries → Sound t1 nodes entries
  sound_more nodes entries s = record {
    graph = s.graph;
    bound = record { forms = λ i lt. bound_more (length entries) (node_at nodes i).form (s.bound.forms i lt) };
    are = record { within = λ e lt. let w = s.are.within e lt in (w.0, (let p : (entry_at entries e).label < length t0.positions = w.1 in let m : length t0.positions ≤ length t1.positions = more_positions in omega arith), w.2) };
  }

pub row_of_list : (labels : Labels) (table : ShapeTable) (row list sl : List ℕ) (n : ℕ) → IsLabels labels table → record_of labels sl ≡ Some n → sl ≡ list → (Once row × ((l : ℕ) → Contains list l ↔ Contains row l) × (length list ≡ length row)) → Row_is table row n
row_of_list labels table row list sl n is h e w = let f = is.found sl n h in record {
  once = w.0;
  within = f.0;
  same = λ l. subst (λ xs. Contains xs l ↔ Contains row l) (sym (f.1 ∙ e)) (w.1 l);
  long = ap length (f.1 ∙ e) ∙ w.2;
}

-- the labels of names are labels of the table
numbered_within : (labels : Labels) (table : ShapeTable) → IsLabels labels table → (ss : List Text) (ns : List ℕ) → Numbered labels ss ns → Each (λ l. l < length table.positions) ns
unfolding Numbered
numbered_within labels table is [] [] h = tt
numbered_within labels table is [] (n ∷ ns) h = absurd h
numbered_within labels table is (s ∷ ss) [] h = tt
numbered_within labels table is (s ∷ ss) (n ∷ ns) h = (is.within s n h.0, numbered_within labels table is ss ns h.1)

numbered_long : (labels : Labels) (ss : List Text) (ns : List ℕ) → Numbered labels ss ns → length ns ≡ length ss
unfolding Numbered
numbered_long labels [] [] h = refl
numbered_long labels [] (n ∷ ns) h = absurd h
numbered_long labels (s ∷ ss) [] h = absurd h
numbered_long labels (s ∷ ss) (n ∷ ns) h = ap suc (numbered_long labels ss ns h.1)

pub row_within : (l0 l1 : Labels) (t0 t1 : ShapeTable) → IsLabels l0 t0 → Goes_on l0 t0 l1 t1 → (ss : List Text) (ns rs : List ℕ) → Numbered l0 ss ns → rs ≡ ns → Each (λ l. l < length t1.positions) rs
row_within l0 l1 t0 t1 is on ss ns rs h e = subst (Each (λ l. l < length t1.positions)) (sym e) (each_lower (length t0.positions) (length t1.positions) ns (more_positions l0 l1 t0 t1 is.is_table on) (numbered_within l0 t0 is ss ns h))

pub row_long : (labels : Labels) (ss : List Text) (ns rs : List ℕ) (n : ℕ) → Numbered labels ss ns → rs ≡ ns → length ss ≡ n → n ≡ length rs
row_long labels ss ns rs n h e l = sym l ∙ sym (numbered_long labels ss ns h) ∙ ap length (sym e)
