-- What a substitution asks of a graph, and that only the types of its variables count for it.
use Rattle.std.proofs.Common.{◌≡◌, ℕ, zero, suc, ◌+◌, ◌≤◌, ◌<◌, List, [], ◌∷◌, ◌++◌, length, take, slice_index_or, All, refl, sym, ◌∙◌, ap, subst, arith}
use mathlib.Core.Logic.{◌⊎◌, inl, inr}
use Rattle.fut_types.specs.declared.Kind.{Kind}
use Rattle.fut_types.specs.declared.shapes.ShapeTable.{ShapeTable}
use Rattle.fut_types.specs.Types.{Ty, Sub, Kinds, level, rank, applied}
use Rattle.fut_types.specs.Shapes.{Shapes, HasPart}
use Rattle.type_graph.specs.declared.Node.{Node}
use Rattle.type_graph.specs.declared.Task.TheVariants as task
use Rattle.type_graph.specs.Graph.{Tables, Solves, IsTask, Holds}
use Rattle.type_graph.proofs.Adding.{Agree}
use Rattle.unify.specs.declared.Ty.{Ty as Tree}
use Rattle.unify.specs.declared.Known.{Known}
use Rattle.unify.specs.declared.Subst.{Subst}
use Rattle.unify.specs.Substitutions.{type_of, Within, AreParts, AreBinds, AreKnown, nothing, Has_parts, Suits, Suit_first, All_suit, Bound, Meets}
use Rattle.unify.specs.Putting.{Puts, Bars, Always, Planted}
use Rattle.unify.proofs.Trees.{applied_low, within_more, item_at}
use Rattle.unify.proofs.Putting.{puts_none, puts_then, bars_then}

pub same_task : (table : ShapeTable) (n m i j : ℕ) → n ≤ m → i < n → j < m → IsTask table m (task.Same i j)
unfolding IsTask
same_task table n m i j le p q = (omega arith, q)

pub has_task : (table : ShapeTable) (n i : ℕ) (k : Kind) (l : ℕ) → i < n → IsTask table n (task.Has i k l)
unfolding IsTask
has_task table n i k l p = p

pub part_task : (table : ShapeTable) (n m i label j : ℕ) → n ≤ m → i < n → j < m → label < length table.positions → IsTask table m (task.Part i label j)
unfolding IsTask
part_task table n m i label j le p q r = (omega arith, q, r)

-- a node's type is that of a tree
module _ (table : ShapeTable) (T : Tables) (n0 n1 : List Node) (number planted : ℕ) (t : Ty) (lt : number < length n0) (w : Within table (length n0) t) (x : Planted T n0 (λ a. applied a t) planted n1) where
  type_second : (K : Kinds) (a b : Sub) → Agree (length n0) b a → Solves T K b n1 → a number ≡ applied a t → Holds T K b (task.Same number planted)
  unfolding Holds
  type_second K a b e s r = e number lt ∙ r ∙ sym (applied_low table (length n0) b a e t w) ∙ sym (x.same K b s)

  type_both : (K : Kinds) (a : Sub) → Solves T K a n1 → Always K a → Holds T K a (task.Same number planted) → a number ≡ applied a t
  unfolding Holds
  type_both K a s u q = q ∙ x.same K a s

  pub type_puts : (n2 : List Node) → Puts T n1 (λ K a. Holds T K a (task.Same number planted)) n2 → Puts T n0 (λ K a. a number ≡ applied a t) n2
  type_puts n2 y = puts_then T n0 n1 Always (λ K a. Holds T K a (task.Same number planted)) (λ K a. a number ≡ applied a t) (λ K a r. tt) type_second n2 type_both x.puts y

  pub type_bars : Bars T n1 (λ K a. Holds T K a (task.Same number planted)) → Bars T n0 (λ K a. a number ≡ applied a t)
  type_bars y = bars_then T n0 n1 Always (λ K a. Holds T K a (task.Same number planted)) (λ K a. a number ≡ applied a t) (λ K a r. tt) type_second x.puts y

part_same : (S : Shapes) (label : ℕ) (t t' u u' : Ty) → t ≡ t' → u ≡ u' → HasPart S label t u → HasPart S label t' u'
part_same S label t t' u u' e f h = subst (λ v. HasPart S label v u') e (subst (HasPart S label t) f h)

-- a node's type has a part
module _ (table : ShapeTable) (T : Tables) (n0 n1 : List Node) (number label planted : ℕ) (t : Ty) (lt : number < length n0) (w : Within table (length n0) t) (x : Planted T n0 (λ a. applied a t) planted n1) where
  part_second : (K : Kinds) (a b : Sub) → Agree (length n0) b a → Solves T K b n1 → HasPart T.shapes label (a number) (applied a t) → Holds T K b (task.Part number label planted)
  unfolding Holds
  part_second K a b e s r = part_same T.shapes label (a number) (b number) (applied a t) (b planted) (sym (e number lt)) (sym (applied_low table (length n0) b a e t w) ∙ sym (x.same K b s)) r

  part_both : (K : Kinds) (a : Sub) → Solves T K a n1 → Always K a → Holds T K a (task.Part number label planted) → HasPart T.shapes label (a number) (applied a t)
  unfolding Holds
  part_both K a s u q = part_same T.shapes label (a number) (a number) (a planted) (applied a t) refl (x.same K a s) q

  pub part_puts : (n2 : List Node) → Puts T n1 (λ K a. Holds T K a (task.Part number label planted)) n2 → Puts T n0 (λ K a. HasPart T.shapes label (a number) (applied a t)) n2
  part_puts n2 y = puts_then T n0 n1 Always (λ K a. Holds T K a (task.Part number label planted)) (λ K a. HasPart T.shapes label (a number) (applied a t)) (λ K a r. tt) part_second n2 part_both x.puts y

  pub part_bars : Bars T n1 (λ K a. Holds T K a (task.Part number label planted)) → Bars T n0 (λ K a. HasPart T.shapes label (a number) (applied a t))
  part_bars y = bars_then T n0 n1 Always (λ K a. Holds T K a (task.Part number label planted)) (λ K a. HasPart T.shapes label (a number) (applied a t)) (λ K a r. tt) part_second x.puts y

-- two types are equal
module _ (table : ShapeTable) (T : Tables) (n0 n1 : List Node) (planted : ℕ) (t u : Ty) (wt : Within table (length n0) t) (wu : Within table (length n0) u) (x : Planted T n0 (λ a. applied a t) planted n1) where
  equal_second : (K : Kinds) (a b : Sub) → Agree (length n0) b a → Solves T K b n1 → applied a t ≡ applied a u → b planted ≡ applied b u
  equal_second K a b e s r = x.same K b s ∙ applied_low table (length n0) b a e t wt ∙ r ∙ sym (applied_low table (length n0) b a e u wu)

  equal_both : (K : Kinds) (a : Sub) → Solves T K a n1 → Always K a → a planted ≡ applied a u → applied a t ≡ applied a u
  equal_both K a s v q = sym (x.same K a s) ∙ q

  pub equal_puts : (n2 : List Node) → Puts T n1 (λ K a. a planted ≡ applied a u) n2 → Puts T n0 (λ K a. applied a t ≡ applied a u) n2
  equal_puts n2 y = puts_then T n0 n1 Always (λ K a. a planted ≡ applied a u) (λ K a. applied a t ≡ applied a u) (λ K a r. tt) equal_second n2 equal_both x.puts y

  pub equal_bars : Bars T n1 (λ K a. a planted ≡ applied a u) → Bars T n0 (λ K a. applied a t ≡ applied a u)
  equal_bars y = bars_then T n0 n1 Always (λ K a. a planted ≡ applied a u) (λ K a. applied a t ≡ applied a u) (λ K a r. tt) equal_second x.puts y

-- all of a list, one after another
all_last : {X : Type 0} (P : X → Type 0) (xs : List X) (x : X) → All P xs → P x → All P (xs ++ x ∷ [])
all_last {X} P [] x h p zero d lt = p
all_last {X} P [] x h p (suc k) d lt = absurd (omega arith)
all_last {X} P (y ∷ ys) x h p zero d lt = h 0 d (omega arith)
all_last {X} P (y ∷ ys) x h p (suc k) d lt = all_last P ys x (λ k d lt. h (suc k) d (omega arith)) p k d (omega arith)

all_left : {X : Type 0} (P : X → Type 0) (xs : List X) (x : X) → All P (xs ++ x ∷ []) → All P xs
all_left {X} P [] x h k d lt = absurd (omega arith)
all_left {X} P (y ∷ ys) x h zero d lt = h 0 d (omega arith)
all_left {X} P (y ∷ ys) x h (suc k) d lt = all_left P ys x (λ k d lt. h (suc k) d (omega arith)) k d (omega arith)

all_right : {X : Type 0} (P : X → Type 0) (xs : List X) (x : X) → All P (xs ++ x ∷ []) → P x
all_right {X} P [] x h = h 0 x (omega arith)
all_right {X} P (y ∷ ys) x h = all_right P ys x (λ k d lt. h (suc k) d (omega arith))

all_take : {X : Type 0} (P : X → Type 0) (xs : List X) (at : ℕ) → All P xs → All P (take at xs)
all_take {X} P [] zero h k d lt = absurd (omega arith)
all_take {X} P [] (suc at) h k d lt = absurd (omega arith)
all_take {X} P (y ∷ ys) zero h k d lt = absurd (omega arith)
all_take {X} P (y ∷ ys) (suc at) h zero d lt = h 0 d (omega arith)
all_take {X} P (y ∷ ys) (suc at) h (suc k) d lt = all_take P ys at (λ k d lt. h (suc k) d (omega arith)) k d (omega arith)

-- the element that a loop has come to
pub all_item : {X : Type 0} (P : X → Type 0) (items xs : List X) (at : ℕ) (x : X) → items ≡ xs → at < length items → x ≡ slice_index_or items at x → All P xs → P x
all_item {X} P items xs at x e lt is h = subst P (sym (item_at items xs at x e is)) (h at x (subst (λ l. at < length l) e lt))

pub list_first : {X : Type 0} (T : Tables) (nodes : List Node) (Q : X → Kinds → Sub → Type 0) (xs : List X) → Puts T nodes (λ K a. All (λ x. Q x K a) (take 0 xs)) nodes
list_first {X} T nodes Q xs = puts_none T nodes (λ K a. All (λ x. Q x K a) (take 0 xs)) (λ K a s k d lt. absurd (omega arith))

module _ {X : Type 0} (T : Tables) (n0 n1 : List Node) (Q : X → Kinds → Sub → Type 0) (xs : List X) (at : ℕ) (x : X) (local : (K : Kinds) (a b : Sub) → Agree (length n0) b a → Q x K a → Q x K b) (so_far : Puts T n0 (λ K a. All (λ y. Q y K a) (take at xs)) n1) where
  pub list_next : (n2 : List Node) → take (at + 1) xs ≡ take at xs ++ x ∷ [] → Puts T n1 (Q x) n2 → Puts T n0 (λ K a. All (λ y. Q y K a) (take (at + 1) xs)) n2
  list_next n2 is y = puts_then T n0 n1 (λ K a. All (λ y. Q y K a) (take at xs)) (Q x) (λ K a. All (λ y. Q y K a) (take (at + 1) xs))
      (λ K a r. all_left (λ y. Q y K a) (take at xs) x (subst (All (λ y. Q y K a)) is r))
      (λ K a b e s r. local K a b e (all_right (λ y. Q y K a) (take at xs) x (subst (All (λ y. Q y K a)) is r)))
      n2
      (λ K a s p q. subst (All (λ y. Q y K a)) (sym is) (all_last (λ y. Q y K a) (take at xs) x p q))
      so_far y

  pub list_bars : x ≡ slice_index_or xs at x → at < length xs → Bars T n1 (Q x) → Bars T n0 (λ K a. All (λ y. Q y K a) xs)
  list_bars is lt y = bars_then T n0 n1 (λ K a. All (λ y. Q y K a) (take at xs)) (Q x) (λ K a. All (λ y. Q y K a) xs)
      (λ K a r. all_take (λ y. Q y K a) xs at r)
      (λ K a b e s r. local K a b e (subst (λ y. Q y K a) (sym is) (r at x lt)))
      so_far y

-- a part of a variable's type, and a bind, are asked of its variables alone
pub part_local : (table : ShapeTable) (S : Shapes) (m number : ℕ) (p : ℕ × Tree) → number < m → Within table m (type_of p.1) → (K : Kinds) (a b : Sub) → Agree m b a → HasPart S p.0 (a number) (applied a (type_of p.1)) → HasPart S p.0 (b number) (applied b (type_of p.1))
part_local table S m number p lt w K a b e h = part_same S p.0 (a number) (b number) (applied a (type_of p.1)) (applied b (type_of p.1)) (sym (e number lt)) (sym (applied_low table m b a e (type_of p.1) w)) h

pub bind_local : (table : ShapeTable) (m : ℕ) (p : ℕ × Tree) → p.0 < m → Within table m (type_of p.1) → (K : Kinds) (a b : Sub) → Agree m b a → a p.0 ≡ applied a (type_of p.1) → b p.0 ≡ applied b (type_of p.1)
bind_local table m p lt w K a b e h = e p.0 lt ∙ h ∙ sym (applied_low table m b a e (type_of p.1) w)

pub parts_local : (table : ShapeTable) (S : Shapes) (m number : ℕ) (parts : List (ℕ × Tree)) → number < m → AreParts table m parts → (K : Kinds) (a b : Sub) → Agree m b a → Has_parts S a (a number) parts → Has_parts S b (b number) parts
parts_local table S m number parts lt w K a b e h k d l = part_local table S m number (slice_index_or parts k d) lt (w k d l).1 K a b e (h k d l)

pub binds_local : (table : ShapeTable) (m : ℕ) (binds : List (ℕ × Tree)) → AreBinds table m binds → (K : Kinds) (a b : Sub) → Agree m b a → Bound a binds → Bound b binds
binds_local table m binds w K a b e h k d l = bind_local table m (slice_index_or binds k d) (w k d l).0 (w k d l).1 K a b e (h k d l)

-- more nodes
pub parts_more : (table : ShapeTable) (m n : ℕ) (parts : List (ℕ × Tree)) → m ≤ n → AreParts table m parts → AreParts table n parts
parts_more table m n parts le w k d lt = ((w k d lt).0, within_more table m n le (type_of (slice_index_or parts k d).1) (w k d lt).1)

pub binds_more : (table : ShapeTable) (m n : ℕ) (binds : List (ℕ × Tree)) → m ≤ n → AreBinds table m binds → AreBinds table n binds
binds_more table m n binds le w k d lt = ((let p : (slice_index_or binds k d).0 < m = (w k d lt).0 in omega arith), within_more table m n le (type_of (slice_index_or binds k d).1) (w k d lt).1)

pub known_more : (table : ShapeTable) (m n : ℕ) (known : List Known) → m ≤ n → AreKnown table m known → AreKnown table n known
known_more table m n known le w v lt = parts_more table m n (slice_index_or known v nothing).parts le (w v lt)

-- what is known of a variable
pub suits_local : (table : ShapeTable) (S : Shapes) (m number : ℕ) (known : Known) → number < m → AreParts table m known.parts → (K : Kinds) (a b : Sub) → Agree m b a → Suits S K a (a number) known → Suits S K b (b number) known
suits_local table S m number known lt w K a b e h = record {
  kind = subst (λ t. level known.kind ≤ rank K t) (sym (e number lt)) h.kind;
  parts = parts_local table S m number known.parts lt w K a b e h.parts;
}

pub suits_first : (T : Tables) (number l : ℕ) (known : Known) (K : Kinds) (a : Sub) → Suits T.shapes K a (a number) known → Holds T K a (task.Has number known.kind l)
unfolding Holds
suits_first T number l known K a h = h.kind

module _ (table : ShapeTable) (T : Tables) (n0 n1 : List Node) (number l : ℕ) (known : Known) (lt : number < length n0) (w : AreParts table (length n0) known.parts) (x : Puts T n0 (λ K a. Holds T K a (task.Has number known.kind l)) n1) where
  suits_both : (K : Kinds) (a : Sub) → Solves T K a n1 → Holds T K a (task.Has number known.kind l) → Has_parts T.shapes a (a number) known.parts → Suits T.shapes K a (a number) known
  unfolding Holds
  suits_both K a s h p = record { kind = h; parts = p }

  pub suits_puts : (n2 : List Node) → Puts T n1 (λ K a. Has_parts T.shapes a (a number) known.parts) n2 → Puts T n0 (λ K a. Suits T.shapes K a (a number) known) n2
  suits_puts n2 y = puts_then T n0 n1 (λ K a. Holds T K a (task.Has number known.kind l)) (λ K a. Has_parts T.shapes a (a number) known.parts) (λ K a. Suits T.shapes K a (a number) known)
      (suits_first T number l known) (λ K a b e s h. parts_local table T.shapes (length n0) number known.parts lt w K a b e h.parts) n2 suits_both x y

  pub suits_bars : Bars T n1 (λ K a. Has_parts T.shapes a (a number) known.parts) → Bars T n0 (λ K a. Suits T.shapes K a (a number) known)
  suits_bars y = bars_then T n0 n1 (λ K a. Holds T K a (task.Has number known.kind l)) (λ K a. Has_parts T.shapes a (a number) known.parts) (λ K a. Suits T.shapes K a (a number) known)
      (suits_first T number l known) (λ K a b e s h. parts_local table T.shapes (length n0) number known.parts lt w K a b e h.parts) x y

pub suits_none : (T : Tables) (nodes : List Node) (known : List Known) → Puts T nodes (λ K a. Suit_first T.shapes K a known 0) nodes
suits_none T nodes known = puts_none T nodes (λ K a. Suit_first T.shapes K a known 0) (λ K a s v lt. absurd (omega arith))

any_default : {X : Type 0} (xs : List X) (k : ℕ) (d e : X) → k < length xs → slice_index_or xs k d ≡ slice_index_or xs k e
any_default {X} [] k d e lt = absurd (omega arith)
any_default {X} (x ∷ xs) zero d e lt = refl
any_default {X} (x ∷ xs) (suc k) d e lt = any_default xs k d e (omega arith)

less_or : (v n : ℕ) → v < n + 1 → (v < n) ⊎ (v ≡ n)
less_or zero zero h = inr refl
less_or zero (suc n) h = inl (omega arith)
less_or (suc v) zero h = absurd (omega arith)
less_or (suc v) (suc n) h = elim (less_or v n (omega arith)) as (λ d. (suc v < suc n) ⊎ (suc v ≡ suc n)) [ inl p ↦ inl (omega arith) | inr p ↦ inr (ap suc p) ]

-- the item of a loop over what is known
module _ (items known : List Known) (at : ℕ) (x : Known) (same : items ≡ known) (below : at < length items) (is : x ≡ slice_index_or items at x) where
  pub known_below : at < length known
  known_below = subst (λ l. at < length l) same below

  pub known_is : slice_index_or known at nothing ≡ x
  known_is = any_default known at nothing x known_below ∙ sym (is ∙ ap (λ l. slice_index_or l at x) same)

  pub known_parts : (table : ShapeTable) (m : ℕ) → AreKnown table m known → AreParts table m x.parts
  known_parts table m w = subst (λ (y : Known). AreParts table m y.parts) known_is (w at known_below)

  module _ (table : ShapeTable) (T : Tables) (n0 n1 : List Node) (long : length known ≤ length n0) (w : AreKnown table (length n0) known) (so_far : Puts T n0 (λ K a. Suit_first T.shapes K a known at) n1) where
    one_local : (K : Kinds) (a b : Sub) → Agree (length n0) b a → Suits T.shapes K a (a at) (slice_index_or known at nothing) → Suits T.shapes K b (b at) x
    one_local K a b e h = suits_local table T.shapes (length n0) at x (let l : at < length known = known_below in omega arith) (known_parts table (length n0) w) K a b e (subst (Suits T.shapes K a (a at)) known_is h)

    pub known_next : (n2 : List Node) → Puts T n1 (λ K a. Suits T.shapes K a (a at) x) n2 → Puts T n0 (λ K a. Suit_first T.shapes K a known (at + 1)) n2
    known_next n2 y = puts_then T n0 n1 (λ K a. Suit_first T.shapes K a known at) (λ K a. Suits T.shapes K a (a at) x) (λ K a. Suit_first T.shapes K a known (at + 1))
        (λ K a r v lt. r v (omega arith))
        (λ K a b e s r. one_local K a b e (r at (omega arith)))
        n2
        (λ K a s p q v lt. elim (less_or v at lt) as (λ d. Suits T.shapes K a (a v) (slice_index_or known v nothing)) [
          | inl l ↦ p v l
          | inr e ↦ subst (λ i. Suits T.shapes K a (a i) (slice_index_or known i nothing)) (sym e) (subst (Suits T.shapes K a (a at)) (sym known_is) q)
        ])
        so_far y

    pub known_bars : Bars T n1 (λ K a. Suits T.shapes K a (a at) x) → Bars T n0 (λ K a. All_suit T.shapes K a known)
    known_bars y = bars_then T n0 n1 (λ K a. Suit_first T.shapes K a known at) (λ K a. Suits T.shapes K a (a at) x) (λ K a. All_suit T.shapes K a known)
        (λ K a r v lt. r v (let l : at < length known = known_below in omega arith))
        (λ K a b e s r. one_local K a b e (r at known_below))
        so_far y

pub known_all : (T : Tables) (n0 n1 : List Node) (known : List Known) (at : ℕ) → at ≡ length known → Puts T n0 (λ K a. Suit_first T.shapes K a known at) n1 → Puts T n0 (λ K a. All_suit T.shapes K a known) n1
known_all T n0 n1 known at e x = subst (λ n. Puts T n0 (λ K a. Suit_first T.shapes K a known n) n1) e x

-- all of a substitution
module _ (table : ShapeTable) (T : Tables) (n0 n1 : List Node) (s : Subst) (w : AreBinds table (length n0) s.binds) (x : Puts T n0 (λ K a. All_suit T.shapes K a s.known) n1) where
  pub subst_puts : (n2 : List Node) → Puts T n1 (λ K a. Bound a s.binds) n2 → Puts T n0 (λ K a. Meets T.shapes s K a) n2
  subst_puts n2 y = puts_then T n0 n1 (λ K a. All_suit T.shapes K a s.known) (λ K a. Bound a s.binds) (λ K a. Meets T.shapes s K a)
      (λ K a m. m.suits) (λ K a b e sol m. binds_local table (length n0) s.binds w K a b e m.binds) n2 (λ K a sol p q. record { suits = p; binds = q }) x y

  pub subst_bars : Bars T n1 (λ K a. Bound a s.binds) → Bars T n0 (λ K a. Meets T.shapes s K a)
  subst_bars y = bars_then T n0 n1 (λ K a. All_suit T.shapes K a s.known) (λ K a. Bound a s.binds) (λ K a. Meets T.shapes s K a)
      (λ K a m. m.suits) (λ K a b e sol m. binds_local table (length n0) s.binds w K a b e m.binds) x y

-- and two types besides
module _ (table : ShapeTable) (T : Tables) (n0 n1 : List Node) (s : Subst) (t u : Ty) (wt : Within table (length n0) t) (wu : Within table (length n0) u) (x : Puts T n0 (λ K a. Meets T.shapes s K a) n1) where
  pub load_puts : (n2 : List Node) → Puts T n1 (λ K a. applied a t ≡ applied a u) n2 → Puts T n0 (λ K a. Meets T.shapes s K a × (applied a t ≡ applied a u)) n2
  load_puts n2 y = puts_then T n0 n1 (λ K a. Meets T.shapes s K a) (λ K a. applied a t ≡ applied a u) (λ K a. Meets T.shapes s K a × (applied a t ≡ applied a u))
      (λ K a r. r.0) (λ K a b e sol r. applied_low table (length n0) b a e t wt ∙ r.1 ∙ sym (applied_low table (length n0) b a e u wu)) n2 (λ K a sol p q. (p, q)) x y

  pub load_bars : Bars T n1 (λ K a. applied a t ≡ applied a u) → Bars T n0 (λ K a. Meets T.shapes s K a × (applied a t ≡ applied a u))
  load_bars y = bars_then T n0 n1 (λ K a. Meets T.shapes s K a) (λ K a. applied a t ≡ applied a u) (λ K a. Meets T.shapes s K a × (applied a t ≡ applied a u))
      (λ K a r. r.0) (λ K a b e sol r. applied_low table (length n0) b a e t wt ∙ r.1 ∙ sym (applied_low table (length n0) b a e u wu)) x y
