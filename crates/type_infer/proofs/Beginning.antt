-- What is known where nothing has been gone over.
use Rattle.std.proofs.Common.{◌≡◌, ℕ, zero, suc, ◌≤◌, ◌<◌, List, [], ◌∷◌, length, map, slice_index_or, refl, sym, ◌∙◌, ap, subst, arith}
use mathlib.Core.Logic.{inl}
use Rattle.fut_types.specs.declared.Kind.{Kind}
use Rattle.fut_types.specs.declared.Head.{Head}
use Rattle.fut_types.specs.declared.Head.TheVariants as head
use Rattle.fut_types.specs.Types.{Made, none, Sub, Kinds, level}
use Rattle.fut_typing.specs.Names.{Names}
use Rattle.fut_typing.specs.Homes.{empty}
use Rattle.type_graph.specs.declared.Form.TheVariants as form
use Rattle.type_graph.specs.declared.Node.{Node}
use Rattle.type_graph.specs.Graph.{far, node_at, entry_at, Tables, Plain, Each, Bound, Within, Fitting, IsRoot, Once, parts_of, Fits, Solves, Meeting, IsGraph}
use Rattle.type_graph.specs.State.{Sure, State, form_cap, Backed}
use Rattle.type_graph.specs.Claims.{Possible}
use Rattle.type_rules.specs.Labels.{IsLabels}
use Rattle.type_scopes.specs.declared.Inference.{Inference}
use Rattle.type_scopes.specs.declared.names.Known.{Known}
use Rattle.type_scopes.specs.Table.{seat_at}
use Rattle.type_scopes.specs.Scopes.{Stored, Safe, Reads, Means, Ready}
use Rattle.type_infer.specs.Inferring.{Numbers}
use Rattle.type_infer.specs.Graphs.{base_node, home_at, Begun}

-- the tables that are read off what is in hand: each type parameter stands for itself, where it was met
abbrev pub tables_of : Inference → Names → Tables
tables_of i N = record { shapes = N.shapes; entry = entry_at i.entries; rigid = λ n k. Made (head.Rigid n k) none; seat = λ n. (seat_at i.seats n).node }

abbrev pub born_of : Inference → ℕ → ℕ
born_of i n = (seat_at i.seats n).depth

pub plain_tables : (i : Inference) (N : Names) → Plain (tables_of i N)
plain_tables i N = record { own = λ n k. refl }

pub reads_tables : (i : Inference) (N : Names) → Numbers i N → Reads i N (tables_of i N) (born_of i)
reads_tables i N n = record { names = n.names; labelled = n.labelled; shapes = refl; told = record { shapes = n.labelled.shapes; listed = λ e lt. refl }; seats = λ m lt. (refl, refl) }

-- free nodes at their homes
base_at : (homes : List ℕ) (n : ℕ) → node_at (map base_node homes) n ≡ base_node (home_at homes n)
unfolding node_at
base_at [] n = refl
base_at (h ∷ homes) zero = refl
base_at (h ∷ homes) (suc n) = base_at homes n

long_map : (homes : List ℕ) → length (map base_node homes) ≡ length homes
long_map [] = refl
long_map (h ∷ homes) = ap suc (long_map homes)

home_in : (homes : List ℕ) (d n : ℕ) → n < length homes → slice_index_or homes n d ≡ home_at homes n
home_in [] d n lt = absurd (omega arith)
home_in (h ∷ homes) d zero lt = refl
home_in (h ∷ homes) d (suc n) lt = home_in homes d n (omega arith)

pub home_is : (homes : List ℕ) (n : ℕ) → n < length homes → home_at homes n ≡ slice_index_or homes n 0
home_is homes n lt = sym (home_in homes 0 n lt)

pub home_past : (homes : List ℕ) (n : ℕ) → length homes ≤ n → far ≤ home_at homes n
home_past [] n le = omega arith
home_past (h ∷ homes) zero le = absurd (omega arith)
home_past (h ∷ homes) (suc n) le = home_past homes n (omega arith)

free_link : (j : ℕ) → form.Free ≡ form.Link j → ⊥
free_link j e = cc

free_made : (h : Head) (x n : ℕ) → form.Free ≡ form.Made h x n → ⊥
free_made h x n e = cc

module _ (homes : List ℕ) (i : Inference) (nodes : i.nodes ≡ map base_node homes) where
  at : (n : ℕ) → node_at i.nodes n ≡ base_node (home_at homes n)
  at n = ap (λ l. node_at l n) nodes ∙ base_at homes n

  free : (n : ℕ) → (node_at i.nodes n).form ≡ form.Free
  free n = ap (λ (x : Node). x.form) (at n)

  level_is : (n : ℕ) → (node_at i.nodes n).level ≡ home_at homes n
  level_is n = ap (λ (x : Node). x.level) (at n)

  pub long : length i.nodes ≡ length homes
  long = ap length nodes ∙ long_map homes

  -- whatever types the program's numbers have, nothing is asked of them
  solves : (T : Tables) (K : Kinds) (a : Sub) → Solves T K a i.nodes
  solves T K a = record { fits = λ n lt. subst (Fits T K a (a n)) (sym (at n)) (record { shows = tt; has = omega arith }) }

  pub possible : (T : Tables) (base : ℕ) (K : Kinds) (a : Sub) → Possible T base K a i.nodes
  possible T base K a = record { full = a; agrees = λ n lt. refl; solves = solves T K a }

  pub state : (T : Tables) → State T (home_at homes) (length homes) i.nodes []
  state T = record {
    top = λ n. n;
    tops = record {
      below = λ n lt. lt;
      roots = λ n lt. subst IsRoot (sym (free n)) tt;
      links = λ n j lt e. absurd (free_link j (sym (free n) ∙ e));
      selves = λ n lt r. refl;
    };
    capped = λ n lt. subst (λ (x : Node). level x.kind ≤ form_cap x.form) (sym (at n)) (omega arith);
    parts = λ n q lt o. subst (λ f. Each (Sure i.nodes [] (λ n. n) q) (parts_of T f)) (sym (free n)) tt;
    bare = λ n j lt e. absurd (free_link j (sym (free n) ∙ e));
    afar = λ n j lt e. absurd (free_link j (sym (free n) ∙ e));
    homes = λ m lt. inl (let e : (node_at i.nodes m).level ≡ home_at homes m = level_is m in omega arith);
    once = λ n lt. subst (Once T) (sym (free n)) tt;
    seated = λ n m lt p. absurd (free_made (head.Rigid n p.0) p.1 p.2 (sym (free m) ∙ p.3));
  }

  pub backed : (T : Tables) (born : ℕ → ℕ) → Backed (Meeting T i.nodes []) (home_at homes) born i.nodes []
  backed T born = record {
    notes = λ n lt lf r K a r' K' a' s s' ag. ag.numbers n (let e : (node_at i.nodes n).level ≡ home_at homes n = level_is n in omega arith);
    asks = tt;
  }

  graph : length homes < 4294967295 → ((n : ℕ) → n < length homes → home_at homes n ≤ far) → IsGraph i.nodes
  graph short near = record {
    short = let l : length i.nodes ≡ length homes = long in omega arith;
    within = λ n lt. subst (Within (length i.nodes) n) (sym (free n)) tt;
    fitting = λ n lt. subst Fitting (sym (free n)) tt;
    near = λ n lt. subst (λ l. l ≤ far) (sym (level_is n)) (near n (subst (λ m. n < m) long lt));
  }

-- where inference begins
module _ (homes : List ℕ) (i0 i : Inference) (b : Begun homes i0 i) where
  pub ready : (N : Names) (places : Kind) (T : Tables) (born : ℕ → ℕ) → Plain T → Ready N places T (home_at homes) born (length homes) empty 0 0 i
  ready N places T born pl = record {
    depth = omega arith;
    outer = home_past homes;
    state = state homes i b.nodes T;
    backed = backed homes i b.nodes T born;
    plain = λ n k le. pl.own n k;
    narrow = λ n h. absurd h;
    knows = λ K full so n lt. subst (λ (k : Known). Means T.shapes i.store k (λ K a t. ⊥) (λ t. ⊥) K full) (sym (b.names n)) (record { usable = λ t h. h; used = λ t h. h; denoted = λ t h. h; denotes = λ t h. h });
    below = λ K a c same p. possible homes i b.nodes T (length homes) K c;
  }

  module _ (short : length homes < 4294967295) (labels : IsLabels i0.labels i0.table) where
    labels_are : IsLabels i.labels i.table
    labels_are = subst (λ l. IsLabels l i.table) (sym b.labels) (subst (IsLabels i0.labels) (sym b.table) labels)

    pub safe : Safe (length homes) i
    safe = record {
      table = labels_are.is_table;
      labels = labels_are;
      sound = record {
        graph = graph homes i b.nodes short b.near;
        bound = record { forms = λ n lt. subst (Bound i.table (length i.entries)) (sym (free homes i b.nodes n)) tt };
        are = record { within = λ e lt. absurd (let l : length i.entries ≡ 0 = ap length b.entries in omega arith) };
      };
      inside = let l : length i.nodes ≡ length homes = long homes i b.nodes in omega arith;
      short = let l : length i.store ≡ 0 = ap length b.store in omega arith;
      stored = λ n lt. subst (Stored (length homes) (length i.nodes) i.table i.store) (sym (b.names n)) tt;
    }
