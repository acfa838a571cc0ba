-- One demand after another.
use Rattle.std.proofs.Common.{◌≡◌, ℕ, zero, suc, ◌+◌, ◌≤◌, ◌<◌, List, [], ◌∷◌, ◌++◌, length, take, refl, sym, ◌∙◌, ap, subst, arith, slice_index_or, Result, Ok, Err, OnOk, IfErr}
use Rattle.std.proofs.Math.Seq.{take-suc}
use Rattle.fut_types.specs.declared.shapes.ShapeTable.{ShapeTable}
use Rattle.fut_types.specs.Types.{Sub, Kinds}
use Rattle.fut_types.specs.Shapes.{Shapes}
use Rattle.type_graph.specs.declared.Node.{Node}
use Rattle.type_graph.specs.declared.Entry.{Entry}
use Rattle.type_graph.specs.declared.UnifyErr.{UnifyErr}
use Rattle.type_graph.specs.declared.UnifyErr.TheVariants as err
use Rattle.type_graph.specs.Graph.{Tables, Tells}
use Rattle.type_graph.specs.Claims.{Sound, Extends, Adds, Nowhere}
use Rattle.type_rules.specs.declared.demand.Demand.{Demand}
use Rattle.type_rules.specs.Demands.{Met, All_met, IsDemand, Are_demands, Allows, All_allow}

abbrev pub Claim : Type 1
Claim = Kinds → Sub → Type 0

abbrev pub Homes : Type 1
Homes = (ℕ → ℕ) → Type 0

pub on_ok : {T E P Q : Type 0} (r : Result T E) → (P → Q) → OnOk r P → OnOk r Q
on_ok (Ok v) f p = f p
on_ok (Err e) f p = tt

pub tells : {P Q : Type 0} (e : UnifyErr) → (P → Q) → Tells P e → Tells Q e
tells (err.Clash i j) f p = f p
tells (err.BadKind i k) f p = f p
tells (err.Infinite i) f p = f p
tells err.Memory f p = tt

pub tells_both : {P Q R : Type 0} (e : UnifyErr) → (P → Q → R) → Tells P e → Tells Q e → Tells R e
tells_both (err.Clash i j) f p q = f p q
tells_both (err.BadKind i k) f p q = f p q
tells_both (err.Infinite i) f p q = f p q
tells_both err.Memory f p q = tt

pub if_err : {T P Q : Type 0} (r : Result T UnifyErr) → (P → Q) → IfErr r (Tells P) → IfErr r (Tells Q)
if_err (Ok v) f p = tt
if_err (Err e) f p = tells e f p

pub extends_same : (table : ShapeTable) (nodes : List Node) (entries : List Entry) → Sound table nodes entries → Extends table nodes entries nodes entries
extends_same table nodes entries s = record { sound = s; longer = omega arith; told = λ T t. t }

pub extends_then : (table : ShapeTable) (n0 n1 n2 : List Node) (e0 e1 e2 : List Entry) → Extends table n0 e0 n1 e1 → Extends table n1 e1 n2 e2 → Extends table n0 e0 n2 e2
extends_then table n0 n1 n2 e0 e1 e2 x y = record { sound = y.sound; longer = (let p : length n0 ≤ length n1 = x.longer in let q : length n1 ≤ length n2 = y.longer in omega arith); told = λ T t. x.told T (y.told T t) }

module _ (T : Tables) (base : ℕ) where
  pub adds_none : (P : Claim) (H : Homes) (nodes : List Node) → ((K : Kinds) (a : Sub) → P K a) → Adds T base P H nodes nodes
  adds_none P H nodes h = record { forth = λ K a p q. p; back = λ K a p. p; done = λ K a p. h K a; keeps = λ K a s. s; state = λ home s. s; backed = λ home born g b. b }

  pub adds_then : (P Q R : Claim) (G H I : Homes) (n0 n1 n2 : List Node) → Adds T base P G n0 n1 → Adds T base Q H n1 n2
      → ((K : Kinds) (a : Sub) → R K a → P K a × Q K a) → ((K : Kinds) (a : Sub) → P K a → Q K a → R K a) → ((home : ℕ → ℕ) → I home → G home × H home) → Adds T base R I n0 n2
  adds_then P Q R G H I n0 n1 n2 x y split join homes = record {
    forth = λ K a p r. let s = split K a r in y.forth K a (x.forth K a p s.0) s.1;
    back = λ K a p. x.back K a (y.back K a p);
    done = λ K a p. join K a (x.done K a (y.back K a p)) (y.done K a p);
    keeps = λ K a s. x.keeps K a (y.keeps K a s);
    state = λ home s. y.state home (x.state home s);
    backed = λ home born i b. let g = homes home i in y.backed home born g.1 (x.backed home born g.0 b);
  }

  pub adds_as : (P R : Claim) (H I : Homes) (n0 n1 : List Node) → ((K : Kinds) (a : Sub) → R K a → P K a) → ((K : Kinds) (a : Sub) → P K a → R K a) → ((home : ℕ → ℕ) → I home → H home) → Adds T base P H n0 n1 → Adds T base R I n0 n1
  adds_as P R H I n0 n1 split join homes x = record {
    forth = λ K a p r. x.forth K a p (split K a r);
    back = x.back;
    done = λ K a p. join K a (x.done K a p);
    keeps = x.keeps;
    state = x.state;
    backed = λ home born i b. x.backed home born (homes home i) b;
  }

  pub nowhere_as : (P R : Claim) (n0 : List Node) → ((K : Kinds) (a : Sub) → R K a → P K a) → Nowhere T base P n0 → Nowhere T base R n0
  nowhere_as P R n0 split x pl K a p r = x pl K a p (split K a r)

  pub nowhere_then : (P Q R : Claim) (H : Homes) (n0 n1 : List Node) → Adds T base P H n0 n1 → Nowhere T base Q n1 → ((K : Kinds) (a : Sub) → R K a → P K a × Q K a) → Nowhere T base R n0
  nowhere_then P Q R H n0 n1 x y split pl K a p r = let s = split K a r in y pl K a (x.forth K a p s.0) s.1

pub no_demand : (T : Tables) (base : ℕ) (nodes : List Node) → Adds T base (λ K a. All_met T.shapes K a []) (λ home. All_allow home []) nodes nodes
unfolding All_met
no_demand T base nodes = adds_none T base (λ K a. All_met T.shapes K a []) (λ home. All_allow home []) nodes (λ K a. tt)

-- all demands, split at one
pub met_to : (S : Shapes) (K : Kinds) (a : Sub) (ds : List Demand) (d : Demand) → All_met S K a (ds ++ d ∷ []) → All_met S K a ds × Met S K a d
unfolding All_met
met_to S K a [] d h = (tt, h.0)
met_to S K a (x ∷ ds) d h = let w = met_to S K a ds d h.1 in ((h.0, w.0), w.1)

pub met_from : (S : Shapes) (K : Kinds) (a : Sub) (ds : List Demand) (d : Demand) → All_met S K a ds → Met S K a d → All_met S K a (ds ++ d ∷ [])
unfolding All_met
met_from S K a [] d h m = (m, tt)
met_from S K a (x ∷ ds) d h m = (h.0, met_from S K a ds d h.1 m)

pub allow_to : (home : ℕ → ℕ) (ds : List Demand) (d : Demand) → All_allow home (ds ++ d ∷ []) → All_allow home ds × Allows home d
unfolding All_allow
allow_to home [] d h = (tt, h.0)
allow_to home (x ∷ ds) d h = let w = allow_to home ds d h.1 in ((h.0, w.0), w.1)

pub demand_at : (table : ShapeTable) (base : ℕ) (ds : List Demand) (i : ℕ) (d : Demand) → i < length ds → Are_demands table base ds → IsDemand table base (slice_index_or ds i d)
unfolding Are_demands
demand_at table base [] i d lt h = absurd (omega arith)
demand_at table base (x ∷ ds) zero d lt h = h.0
demand_at table base (x ∷ ds) (suc i) d lt h = demand_at table base ds i d (omega arith) h.1

take_next : (ds : List Demand) (i : ℕ) (d : Demand) → i < length ds → take (i + 1) ds ≡ take i ds ++ slice_index_or ds i d ∷ []
take_next ds i d lt = let e : i + 1 ≡ suc i = omega arith in ap (λ n. take n ds) e ∙ take-suc ds i d lt

met_at : (S : Shapes) (K : Kinds) (a : Sub) (ds : List Demand) (i : ℕ) (d : Demand) → All_met S K a ds → i < length ds → All_met S K a (take i ds) × Met S K a (slice_index_or ds i d)
unfolding All_met
met_at S K a [] i d h lt = absurd (omega arith)
met_at S K a (x ∷ ds) zero d h lt = (tt, h.0)
met_at S K a (x ∷ ds) (suc i) d h lt = let w = met_at S K a ds i d h.1 (omega arith) in ((h.0, w.0), w.1)

module _ (T : Tables) (base : ℕ) (ds : List Demand) (i : ℕ) (d : Demand) (n0 n1 n2 : List Node) (lt : i < length ds)
    (x : Adds T base (λ K a. All_met T.shapes K a (take i ds)) (λ home. All_allow home (take i ds)) n0 n1) where
  pub put_more : Adds T base (λ K a. Met T.shapes K a (slice_index_or ds i d)) (λ home. Allows home (slice_index_or ds i d)) n1 n2 → Adds T base (λ K a. All_met T.shapes K a (take (i + 1) ds)) (λ home. All_allow home (take (i + 1) ds)) n0 n2
  put_more y = adds_then T base (λ K a. All_met T.shapes K a (take i ds)) (λ K a. Met T.shapes K a (slice_index_or ds i d)) (λ K a. All_met T.shapes K a (take (i + 1) ds))
      (λ home. All_allow home (take i ds)) (λ home. Allows home (slice_index_or ds i d)) (λ home. All_allow home (take (i + 1) ds)) n0 n1 n2 x y
      (λ K a h. met_to T.shapes K a (take i ds) (slice_index_or ds i d) (subst (All_met T.shapes K a) (take_next ds i d lt) h))
      (λ K a g h. subst (All_met T.shapes K a) (sym (take_next ds i d lt)) (met_from T.shapes K a (take i ds) (slice_index_or ds i d) g h))
      (λ home h. allow_to home (take i ds) (slice_index_or ds i d) (subst (All_allow home) (take_next ds i d lt) h))

  -- what all demands say, the first of them say
  pub put_refused : Nowhere T base (λ K a. Met T.shapes K a (slice_index_or ds i d)) n1 → Nowhere T base (λ K a. All_met T.shapes K a ds) n0
  put_refused y = nowhere_then T base (λ K a. All_met T.shapes K a (take i ds)) (λ K a. Met T.shapes K a (slice_index_or ds i d)) (λ K a. All_met T.shapes K a ds) (λ home. All_allow home (take i ds)) n0 n1 x y (λ K a h. met_at T.shapes K a ds i d h lt)

pub take_all : (ds : List Demand) (i : ℕ) → length ds ≤ i → take i ds ≡ ds
take_all [] zero h = refl
take_all [] (suc i) h = refl
take_all (x ∷ ds) zero h = absurd (omega arith)
take_all (x ∷ ds) (suc i) h = ap (λ l. x ∷ l) (take_all ds i (omega arith))
