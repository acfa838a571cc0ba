-- The parts of a copy may be used, in every later graph and store.
use Rattle.std.proofs.Common.{◌≡◌, ℕ, zero, suc, ◌+◌, ◌≤◌, ◌<◌, List, length, sym, subst, arith}
use Rattle.fut_types.specs.declared.shapes.ShapeTable.{ShapeTable}
use Rattle.type_graph.specs.declared.Entry.{Entry}
use Rattle.type_graph.specs.Graph.{Bound, IsBound, AreEntries}
use Rattle.type_schemes.specs.declared.PartForm.{PartForm}
use Rattle.type_schemes.specs.declared.PartForm.TheVariants as part
use Rattle.type_schemes.specs.declared.Part.{Part}
use Rattle.type_schemes.specs.Schemes.{part_at, Definition, chain, PartOk, Copies, Extends, PartWithin, Region, PartKnown, Known}

pub copies_region : (d : Definition) (store : List Part) (first count root : ℕ) → Copies d store first count root → length store ≡ first + count → length store < 4294967295 → Region (length d.nodes) store first count
copies_region d store first count root c long short = record {
  some = c.some;
  within = omega arith;
  short = short;
  each = λ k p q. go k (part_at store k) (part_at store k).form q (c.parts.within k p q) (c.parts.each k p q);
}
  where
    go : (k : ℕ) (p : Part) (f : PartForm) → k < first + count → p.source < length d.nodes → PartOk d store first (first + count) c.memo (first + count) k p f → PartWithin (length d.nodes) first (first + count) k f
    go k p part.Free kl inn ok = tt
    go k p (part.Shared j) kl inn ok = subst (λ i. i < length d.nodes) ok.0 inn
    go k p (part.Again m) kl inn ok = (ok.from, (let z : m < k = ok.to in omega arith))
    go k p (part.Made h x n) kl inn ok = (ok.1.parts.from, ok.1.parts.to, ok.1.built)
    go k p (part.Open x n) kl inn ok = (ok.1.parts.from, ok.1.parts.to)

-- the labels of a chain are in the table
chain_in : (table : ShapeTable) (n : ℕ) (entries : List Entry) → AreEntries table n entries → (e i : ℕ) → e < length entries → chain entries e i < length entries
unfolding chain
chain_in table n entries a e zero h = h
chain_in table n entries a e (suc i) h = (a.within (chain entries e i) (chain_in table n entries a e i h)).2

pub copies_known : (table : ShapeTable) (d : Definition) (store : List Part) (first count root : ℕ) → IsBound table (length d.entries) d.nodes → AreEntries table (length d.nodes) d.entries → Copies d store first count root → Known table store first count
copies_known table d store first count root b a c k p q = go (part_at store k) (part_at store k).form (c.parts.within k p q) (c.parts.each k p q)
  where
    go : (p : Part) (f : PartForm) → p.source < length d.nodes → PartOk d store first (first + count) c.memo (first + count) k p f → PartKnown table store f
    go p part.Free inn ok = tt
    go p (part.Shared j) inn ok = tt
    go p (part.Again m) inn ok = tt
    go p (part.Made h x n) inn ok = subst (Bound table (length d.entries)) ok.1.form (b.forms p.source inn)
    go p (part.Open x n) inn ok = λ i il. subst (λ l. l < length table.positions) (sym (ok.1.parts.labels i il)) (a.within (chain d.entries ok.1.entry i) (chain_in table (length d.nodes) d.entries a ok.1.entry i ok.1.within)).1

within_more : (n n' f e k : ℕ) (p : PartForm) → n ≤ n' → PartWithin n f e k p → PartWithin n' f e k p
within_more n n' f e k part.Free le w = tt
within_more n n' f e k (part.Shared j) le w = omega arith
within_more n n' f e k (part.Again m) le w = w
within_more n n' f e k (part.Made h x c) le w = w
within_more n n' f e k (part.Open x c) le w = w

pub region_more : (n n' : ℕ) (store store' : List Part) (f c : ℕ) → n ≤ n' → Extends store store' → length store' < 4294967295 → Region n store f c → Region n' store' f c
region_more n n' store store' f c le ex short r = record {
  some = r.some;
  within = let a : f + c ≤ length store = r.within in let b : length store ≤ length store' = ex.0 in omega arith;
  short = short;
  each = λ k p q. subst (λ (x : Part). PartWithin n' f (f + c) k x.form) (sym (ex.1 k (let a : f + c ≤ length store = r.within in omega arith))) (within_more n n' f (f + c) k (part_at store k).form le (r.each k p q));
}

known_part : (table : ShapeTable) (store store' : List Part) (n first end k : ℕ) (f : PartForm) → ((j : ℕ) → j < end → part_at store' j ≡ part_at store j) → PartWithin n first end k f → PartKnown table store f → PartKnown table store' f
known_part table store store' n first end k part.Free same w h = tt
known_part table store store' n first end k (part.Shared j) same w h = tt
known_part table store store' n first end k (part.Again m) same w h = tt
known_part table store store' n first end k (part.Made g x c) same w h = h
known_part table store store' n first end k (part.Open x c) same w h = λ i il. let xe : x + c ≤ end = w.1 in subst (λ (y : Part). y.label < length table.positions) (sym (same (x + i) (omega arith))) (h i il)

pub known_more : (table : ShapeTable) (n : ℕ) (store store' : List Part) (f c : ℕ) → Extends store store' → Region n store f c → Known table store f c → Known table store' f c
known_more table n store store' f c ex r kn k p q =
    let a : f + c ≤ length store = r.within in
    subst (λ (x : Part). PartKnown table store' x.form) (sym (ex.1 k (omega arith))) (known_part table store store' n f (f + c) k (part_at store k).form (λ j jl. ex.1 j (omega arith)) (r.each k p q) (kn k p q))
