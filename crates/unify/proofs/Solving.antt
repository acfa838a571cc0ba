-- The substitution that a solved graph is.
use Rattle.std.proofs.Common.{◌≡◌, ◌≢◌, ℕ, zero, suc, ◌+◌, ◌*◌, ◌≤◌, ◌<◌, ◌^◌, List, [], ◌∷◌, length, All, refl, sym, ◌∙◌, ap, subst, arith}
use Rattle.std.proofs.Math.Nat.{mul-le-mul_right, suc-mul}
use mathlib.Core.Logic.{inl, inr}
use Rattle.fut_types.specs.declared.Head.{Head}
use Rattle.fut_types.specs.declared.Head.TheVariants as head
use Rattle.fut_types.specs.declared.shapes.ShapeTable.{ShapeTable}
use Rattle.fut_types.specs.Shapes.{Shapes, HasPart, IsKnown, Tells}
use Rattle.fut_types.specs.Types.{Ty, Tys, Var, Made, none, Sub, Kinds, level, rank, applied, size, row}
use Rattle.fut_types.proofs.TyLaws.{part_smaller}
use Rattle.type_graph.specs.declared.Form.{Form}
use Rattle.type_graph.specs.declared.Form.TheVariants as form
use Rattle.type_graph.specs.declared.Node.{Node}
use Rattle.type_graph.specs.declared.Entry.{Entry}
use Rattle.type_graph.specs.Graph.{far, free_node, node_at, entry_at, Tables, Plain, Told, Shows, Fits, Solves, IsMaker, Fitting, Within, IsGraph, Bound, AreEntries}
use Rattle.type_graph.proofs.PartLaws.{plain_made}
use Rattle.type_graph.proofs.Loop.{self_tables, told_self}
use Rattle.type_graph.specs.Claims.{Sound}
use Rattle.type_graph.proofs.Grown.{lt_or}
use Rattle.type_graph.specs.Resolving.{type_of as type_of_form, resolved, noted, SettledIn, Settled}
use Rattle.type_graph.proofs.Resolution.{stable, link_stable, made_stable, loose_stable, has_stable}
use Rattle.unify.specs.declared.Ty.{Ty as Tree}
use Rattle.unify.specs.declared.Ty.TheVariants as tree
use Rattle.unify.specs.declared.Known.{Known}
use Rattle.unify.specs.declared.Subst.{Subst}
use Rattle.unify.specs.Substitutions.{type_of, known_at, kinds_of, Has_parts, Suits, Meets, AreParts, AreKnown, AreBinds, Each_variable, Named, IsSolved, Unifies, Apart, Within as WithinType, All_within, All_variables}
use Rattle.unify.specs.Putting.{Ready, Blank, Puts, Bars}
use Rattle.unify.specs.Reading.{variables, chain_of, parts_read, known_of, bind_of, known_from, binds_from, answer}
use Rattle.unify.proofs.Trees.{type_made}
use Rattle.unify.proofs.Meaning.{type_at, row_within, row_each, chain_has, chain_named, known_long, known_read, all_none, all_one, all_binds, binds_at, binds_once, Says, all_says, says_at}

-- tables as these shapes and entries say, where no type parameter has a node
abbrev pub tables_for : Shapes → List Entry → Tables
tables_for S entries = record { shapes = S; entry = entry_at entries; rigid = λ n k. Made (head.Rigid n k) none; seat = λ n. 4294967296 }

pub told_for : (table : ShapeTable) (S : Shapes) (entries : List Entry) → Tells table S → Told table entries (tables_for S entries)
told_for table S entries t = record { shapes = t; listed = λ e lt. refl }

pub plain_for : (S : Shapes) (entries : List Entry) → Plain (tables_for S entries)
plain_for S entries = record { own = λ n k. refl }

abbrev pub own_shapes : ShapeTable → List Entry → Shapes
own_shapes table entries = (self_tables table entries).shapes

pub own_told : (table : ShapeTable) (entries : List Entry) → Tells table (own_shapes table entries)
own_told table entries = (told_self table entries).shapes

-- solutions of the graph meet the substitution, and the other way round
module _ (S : Shapes) (nodes : List Node) (entries : List Entry) (g : IsGraph nodes) where
  form_says : (a : Sub) (i : ℕ) (f : Form) → Fitting f → Shows (tables_for S entries) a (a i) f → Says a i f
  form_says a i form.Free fit s = tt
  form_says a i (form.Link j) fit s = s
  form_says a i (form.Made h x n) fit s = s ∙ plain_made (tables_for S entries) a h x n (plain_for S entries) fit
  form_says a i (form.Open e n) fit s = tt

  form_parts : (a : Sub) (t : Ty) (f : Form) → Shows (tables_for S entries) a t f → Has_parts S a t (parts_read entries f)
  form_parts a t form.Free s = all_none (λ (p : ℕ × Tree). HasPart S p.0 t (applied a (type_of p.1)))
  form_parts a t (form.Link j) s = all_none (λ (p : ℕ × Tree). HasPart S p.0 t (applied a (type_of p.1)))
  form_parts a t (form.Made h x n) s = all_none (λ (p : ℕ × Tree). HasPart S p.0 t (applied a (type_of p.1)))
  form_parts a t (form.Open e n) s = chain_has S entries a t e n s

  form_shows : (a : Sub) (i : ℕ) (f : Form) → Fitting f → Says a i f → Has_parts S a (a i) (parts_read entries f) → Shows (tables_for S entries) a (a i) f
  form_shows a i form.Free fit s p = tt
  form_shows a i (form.Link j) fit s p = s
  form_shows a i (form.Made h x n) fit s p = s ∙ sym (plain_made (tables_for S entries) a h x n (plain_for S entries) fit)
  form_shows a i (form.Open e n) fit s p = chain_named S entries a (a i) e n p

  node_suits : (K : Kinds) (a : Sub) (i : ℕ) → Fits (tables_for S entries) K a (a i) (node_at nodes i) → Suits S K a (a i) (known_of entries (node_at nodes i))
  node_suits K a i f = record { kind = f.has; parts = form_parts a (a i) (node_at nodes i).form f.shows }

  pub solves_meets : (K : Kinds) (a : Sub) → Solves (tables_for S entries) K a nodes → Meets S (answer nodes entries) K a
  solves_meets K a s = record {
    suits = λ v lt. subst (Suits S K a (a v)) (sym (known_read entries nodes v)) (node_suits K a v (s.fits v (subst (λ n. v < n) (known_long entries nodes) lt)));
    binds = all_says a nodes (λ i lt. form_says a i (node_at nodes i).form (g.fitting i lt) (s.fits i lt).shows);
  }

  pub meets_solves : (K : Kinds) (a : Sub) → Meets S (answer nodes entries) K a → Solves (tables_for S entries) K a nodes
  meets_solves K a m = record {
    fits = λ i lt. let suits : Suits S K a (a i) (known_of entries (node_at nodes i)) = subst (Suits S K a (a i)) (known_read entries nodes i) (m.suits i (subst (λ n. i < n) (sym (known_long entries nodes)) lt)) in record {
      shows = form_shows a i (node_at nodes i).form (g.fitting i lt) (says_at a nodes m.binds i lt) suits.parts;
      has = suits.kind;
    };
  }

-- types by their parts
var_within : (table : ShapeTable) (m n : ℕ) → n < m → WithinType table m (Var n)
unfolding WithinType
var_within table m n lt = lt

made_within : (table : ShapeTable) (m : ℕ) (h : Head) (ts : Tys) → IsKnown table h → IsMaker h → All_within table m ts → WithinType table m (Made h ts)
unfolding WithinType
made_within table m h ts k mk w = (k, mk, w)

var_each : (P : ℕ → Type 0) (n : ℕ) → P n → Each_variable P (Var n)
unfolding Each_variable
var_each P n p = p

made_each : (P : ℕ → Type 0) (h : Head) (ts : Tys) → All_variables P ts → Each_variable P (Made h ts)
unfolding Each_variable
made_each P h ts w = w

-- a number past the end is a variable
past : (nodes : List Node) (v : ℕ) → length nodes ≤ v → node_at nodes v ≡ free_node
unfolding node_at
past [] v le = refl
past (x ∷ xs) zero le = absurd (omega arith)
past (x ∷ xs) (suc v) le = past xs v (omega arith)

resolved_past : (nodes : List Node) (d v : ℕ) → length nodes ≤ v → resolved nodes d v ≡ Var v
unfolding resolved
resolved_past nodes zero v le = refl
resolved_past nodes (suc d) v le = ap (λ (n : Node). type_of_form (resolved nodes d) v n.form) (past nodes v le)

-- sizes and numbers, in this order
times_less : (p q m : ℕ) → p < q → p * m + m ≤ q * m
times_less p q m lt = let h : suc p * m ≤ q * m = mul-le-mul_right m lt in subst (λ n. n ≤ q * m) (suc-mul p m) h

in_order : (p q m x y : ℕ) → p < q → x < m → p * m + x < q * m + y
in_order p q m x y lt lx = let h : p * m + m ≤ q * m = times_less p q m lt in omega arith

-- a substitution that a graph is is solved, where each node has a type
module _ (table : ShapeTable) (nodes : List Node) (entries : List Entry) (so : Sound table nodes entries) (st : Ready (tables_for (own_shapes table entries) entries) nodes) (settled : (i : ℕ) → i < length nodes → SettledIn nodes i) where
  abbrev pub T0 : Tables
  T0 = tables_for (own_shapes table entries) entries

  pub each_settled : (i : ℕ) → i < length nodes → Settled nodes i
  each_settled i lt = settled i lt st.top st.tops

  abbrev pub depth : ℕ
  depth = (stable nodes each_settled).0

  abbrev pub types : Sub
  types = resolved nodes depth

  made_is : (i : ℕ) (h : Head) (x n : ℕ) → i < length nodes → (node_at nodes i).form ≡ form.Made h x n → types i ≡ Made h (row types x n)
  made_is i h x n lt e = made_stable T0 (λ n. far) 0 nodes so.graph st depth (stable nodes each_settled).1 i h x n lt e

  link_is : (i j : ℕ) → i < length nodes → (node_at nodes i).form ≡ form.Link j → types i ≡ types j
  link_is i j lt e = link_stable T0 (λ n. far) 0 nodes so.graph st depth (stable nodes each_settled).1 i j lt e

  -- no node is made by a type parameter
  is_maker : (i : ℕ) (h : Head) (x n : ℕ) → i < length nodes → (node_at nodes i).form ≡ form.Made h x n → IsMaker h
  is_maker i (head.Rigid m k) x n lt e = absurd (let l : 4294967296 < length nodes = (st.seated m i lt (k, x, n, e)).0 in let s : length nodes < 2 ^ 32 = so.graph.short in omega arith)
  is_maker i (head.Scalar s) x n lt e = tt
  is_maker i head.Array x n lt e = tt
  is_maker i head.Tuple x n lt e = tt
  is_maker i (head.Record m) x n lt e = tt
  is_maker i head.Fun x n lt e = tt
  is_maker i (head.Abstract m d) x n lt e = tt

  long : length (known_from entries nodes) ≡ length nodes
  long = known_long entries nodes

  chain_are : (e n : ℕ) → e < length entries → AreParts table (length nodes) (chain_of entries e n)
  unfolding chain_of
  chain_are e zero le k d lt = absurd (omega arith)
  chain_are e (suc n) le zero d lt = let y = so.are.within e le in (y.1, subst (WithinType table (length nodes)) (sym (type_at (entry_at entries e).child)) (var_within table (length nodes) (entry_at entries e).child y.0))
  chain_are e (suc n) le (suc k) d lt = chain_are (entry_at entries e).next n (so.are.within e le).2 k d (omega arith)

  form_are : (f : Form) → Bound table (length entries) f → AreParts table (length nodes) (parts_read entries f)
  form_are form.Free b = all_none (λ (p : ℕ × Tree). (p.0 < length table.positions) × WithinType table (length nodes) (type_of p.1))
  form_are (form.Link j) b = all_none (λ (p : ℕ × Tree). (p.0 < length table.positions) × WithinType table (length nodes) (type_of p.1))
  form_are (form.Made h x n) b = all_none (λ (p : ℕ × Tree). (p.0 < length table.positions) × WithinType table (length nodes) (type_of p.1))
  form_are (form.Open e n) b = chain_are e n b.0

  answer_known : AreKnown table (length nodes) (known_from entries nodes)
  answer_known v lt = subst (λ (k : Known). AreParts table (length nodes) k.parts) (sym (known_read entries nodes v)) (form_are (node_at nodes v).form (so.bound.forms v (subst (λ n. v < n) long lt)))

  -- what holds of each bind
  each_bind : (P : ℕ × Tree → Type 0) → ((i j : ℕ) → i < length nodes → (node_at nodes i).form ≡ form.Link j → P (i, tree.Var j)) → ((i : ℕ) (h : Head) (x n : ℕ) → i < length nodes → (node_at nodes i).form ≡ form.Made h x n → P (i, tree.Made h (variables x n))) → All P (binds_from 0 nodes)
  each_bind P link made = all_binds P nodes (λ i lt. go i lt (node_at nodes i).form refl)
    where
      go : (i : ℕ) → i < length nodes → (f : Form) → (node_at nodes i).form ≡ f → All P (bind_of i f)
      go i lt form.Free e = all_none P
      go i lt (form.Link j) e = all_one P (i, tree.Var j) (link i j lt e)
      go i lt (form.Made h x n) e = all_one P (i, tree.Made h (variables x n)) (made i h x n lt e)
      go i lt (form.Open y n) e = all_none P

  link_below : (i j : ℕ) → i < length nodes → (node_at nodes i).form ≡ form.Link j → j < i
  link_below i j lt e = subst (Within (length nodes) i) e (so.graph.within i lt)

  row_below : (i : ℕ) (h : Head) (x n : ℕ) → i < length nodes → (node_at nodes i).form ≡ form.Made h x n → x + n ≤ length nodes
  row_below i h x n lt e = subst (Within (length nodes) i) e (so.graph.within i lt)

  answer_binds : AreBinds table (length nodes) (binds_from 0 nodes)
  answer_binds = each_bind (λ b. (b.0 < length nodes) × WithinType table (length nodes) (type_of b.1))
      (λ i j lt e. (lt, subst (WithinType table (length nodes)) (sym (type_at j)) (var_within table (length nodes) j (let l : j < i = link_below i j lt e in omega arith))))
      (λ i h x n lt e. (
        lt,
        subst (WithinType table (length nodes)) (sym (type_made (tree.Made h (variables x n)) h (variables x n) refl))
            (made_within table (length nodes) h _ (subst (Bound table (length entries)) e (so.bound.forms i lt)) (is_maker i h x n lt e) (row_within table (length nodes) x n (row_below i h x n lt e))),
      ))

  abbrev pub order : ℕ → ℕ
  order v = size (types v) * length nodes + v

  answer_inside : All (λ b. Each_variable (λ v. order v < order b.0) (type_of b.1)) (binds_from 0 nodes)
  answer_inside = each_bind (λ b. Each_variable (λ v. order v < order b.0) (type_of b.1))
      (λ i j lt e. subst (Each_variable (λ v. order v < order i)) (sym (type_at j)) (var_each (λ v. order v < order i) j
      (subst (λ t. order j < size t * length nodes + i) (sym (link_is i j lt e)) (let l : j < i = link_below i j lt e in omega arith))))
      (λ i h x n lt e. subst (Each_variable (λ v. order v < order i)) (sym (type_made (tree.Made h (variables x n)) h (variables x n) refl)) (made_each (λ v. order v < order i) h _
      (row_each (λ v. order v < order i) x n (λ p lp. in_order (size (types (x + p))) (size (types i)) (length nodes) (x + p) i (part_smaller types (types i) h x n p (made_is i h x n lt e) lp) (let w : x + n ≤ length nodes = row_below i h x n lt e in omega arith)))))

  answer_bound : All (λ b. types b.0 ≡ applied types (type_of b.1)) (binds_from 0 nodes)
  answer_bound = all_says types nodes (λ i lt. go i lt (node_at nodes i).form refl)
    where
      go : (i : ℕ) → i < length nodes → (f : Form) → (node_at nodes i).form ≡ f → Says types i f
      go i lt form.Free e = tt
      go i lt (form.Link j) e = link_is i j lt e
      go i lt (form.Made h x n) e = made_is i h x n lt e
      go i lt (form.Open y n) e = tt

  answer_free : (v : ℕ) → All (λ b. b.0 ≢ v) (binds_from 0 nodes) → types v ≡ Var v
  answer_free v h = elim (lt_or v (length nodes)) as (λ d. types v ≡ Var v) [
    | inl lt ↦ go lt (node_at nodes v).form refl (binds_at (λ b. b.0 ≢ v) nodes h v lt)
    | inr le ↦ resolved_past nodes depth v le
  ]
    where
      go : v < length nodes → (f : Form) → (node_at nodes v).form ≡ f → All (λ b. b.0 ≢ v) (bind_of v f) → types v ≡ Var v
      go lt form.Free e n = loose_stable T0 (λ n. far) 0 nodes so.graph st depth (stable nodes each_settled).1 v form.Free lt e tt
      go lt (form.Link j) e n = absurd (n 0 (0, tree.Var 0) (omega arith) refl)
      go lt (form.Made h x m) e n = absurd (n 0 (0, tree.Var 0) (omega arith) refl)
      go lt (form.Open y m) e n = loose_stable T0 (λ n. far) 0 nodes so.graph st depth (stable nodes each_settled).1 v (form.Open y m) lt e tt

  kinds_same : noted nodes ≡ kinds_of (answer nodes entries)
  kinds_same j v = (sym (known_read entries nodes v) j).kind

  has_kind : (i : ℕ) → i < length nodes → level (known_at (answer nodes entries) i).kind ≤ rank (kinds_of (answer nodes entries)) (types i)
  has_kind i lt = subst (λ (k : Known). level k.kind ≤ rank (kinds_of (answer nodes entries)) (types i)) (sym (known_read entries nodes i))
      (subst (λ K. level (node_at nodes i).kind ≤ rank K (types i)) kinds_same (has_stable T0 (λ n. far) 0 nodes so.graph st depth (stable nodes each_settled).1 i lt))

  no_parts : (P : ℕ × Tree → Type 0) (i : ℕ) (f : Form) → (node_at nodes i).form ≡ f → parts_read entries f ≡ [] → All P (known_at (answer nodes entries) i).parts
  no_parts P i f e z = subst (λ (k : Known). All P k.parts) (sym (known_read entries nodes i)) (subst (All P) (sym (ap (parts_read entries) e ∙ z)) (all_none P))

  pub answer_solved : IsSolved table (answer nodes entries)
  answer_solved = record {
    short = subst (λ n. n < 2 ^ 32) (sym long) so.graph.short;
    known = subst (λ n. AreKnown table n (known_from entries nodes)) (sym long) answer_known;
    binds = subst (λ n. AreBinds table n (binds_from 0 nodes)) (sym long) answer_binds;
    once = binds_once nodes 0;
    order = order;
    inside = answer_inside;
    types = types;
    bound = answer_bound;
    free = answer_free;
    kinds = each_bind (λ b. level (known_at (answer nodes entries) b.0).kind ≤ rank (kinds_of (answer nodes entries)) (types b.0)) (λ i j lt e. has_kind i lt) (λ i h x n lt e. has_kind i lt);
    named = λ S told. each_bind (λ b. All (λ p. Named S (answer nodes entries) types (types b.0) p.0 (applied types (type_of p.1))) (known_at (answer nodes entries) b.0).parts)
        (λ i j lt e. no_parts (λ p. Named S (answer nodes entries) types (types i) p.0 (applied types (type_of p.1))) i (form.Link j) e refl)
        (λ i h x n lt e. no_parts (λ p. Named S (answer nodes entries) types (types i) p.0 (applied types (type_of p.1))) i (form.Made h x n) e refl);
  }

-- what is put in is what is asked
module _ (table : ShapeTable) (n0 nodes : List Node) (entries : List Entry) (s : Subst) (left right : Ty) (blank : Blank (length s.known) n0) where
  abbrev pub Asked : Shapes → Kinds → Sub → Type 0
  Asked S K a = Meets S s K a × (applied a left ≡ applied a right)

  pub answer_unifies : (S : Shapes) → IsGraph nodes → Puts (tables_for S entries) n0 (Asked S) nodes → Unifies S s left right (answer nodes entries)
  answer_unifies S g x = record {
    longer = subst (λ n. length s.known ≤ n) (sym (known_long entries nodes)) (let l : length n0 ≤ length nodes = x.longer in let e : length n0 ≡ length s.known = blank.long in omega arith);
    forth = λ K a m e. let f = x.forth K a (blank.solves (tables_for S entries) K a) (m, e) in (f.0, (λ v lt. f.1 v (subst (λ n. v < n) (sym blank.long) lt)), solves_meets S nodes entries g K f.0 f.2);
    back = λ K a m. (x.done K a (meets_solves S nodes entries g K a m)).0;
    equal = λ K a m. (x.done K a (meets_solves S nodes entries g K a m)).1;
  }

  pub bars_apart : (S : Shapes) → Bars (tables_for S entries) n0 (Asked S) → Apart S s left right
  bars_apart S bars K a m e = bars (plain_for S entries) K a (blank.solves (tables_for S entries) K a) (m, e)

  pub endless_apart : (S : Shapes) → Puts (tables_for S entries) n0 (Asked S) nodes → ((K : Kinds) (a : Sub) → Solves (tables_for S entries) K a nodes → ⊥) → Apart S s left right
  endless_apart S x bars K a m e = let f = x.forth K a (blank.solves (tables_for S entries) K a) (m, e) in bars K f.0 f.2

-- nothing is put in yet
pub blank_sound : (table : ShapeTable) (count : ℕ) (nodes : List Node) (entries : List Entry) → Blank count nodes → entries ≡ [] → Sound table nodes entries
blank_sound table count nodes entries b e = record {
  graph = b.graph;
  bound = b.bound table (length entries);
  are = subst (AreEntries table (length nodes)) (sym e) (record { within = λ e lt. absurd (omega arith) });
}
