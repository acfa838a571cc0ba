-- Chains: what is found along one, and what one more entry and one less make of it.
use Rattle.std.proofs.Common.{◌≡◌, ℕ, zero, suc, ◌<◌, ◌≤◌, Bool, true, false, ◌&&◌, cond, nat_eq, nat_lt, List, [], ◌∷◌, ◌++◌, length, map, reverse, take, get_or, Option, Some, None, refl, sym, ap, ◌∙◌, arith, lt-ltb, le-ltb, length-take-le, take_all, take-suc}
use Rattle.std.proofs.lemmas.Bool.{eq-eqb, eqb-true, ltb-true, ltb-false}
use Rattle.std.proofs.lemmas.List.{length-reverse, reverse-append}
use Rattle.fut_aliases.specs.declared.aliases.Alias.{Alias}
use Rattle.fut_aliases.specs.declared.aliases.Alias.TheVariants.{Part, Own}
use Rattle.fut_aliases.specs.declared.refusals.Spot.{Spot}
use Rattle.fut_aliases.specs.declared.refusals.Loss.{Loss}
use Rattle.fut_aliases.specs.Aliases.{is_alias}
use Rattle.fut_aliases.specs.Steps.{Losses, behind, lost_at}
use Rattle.alias_losses.specs.declared.chains.Entry.{Entry}
use Rattle.alias_losses.specs.Chains.{node_of, last, seen, Chain}

-- ---- aliases

and_left : (s t : Bool) → (s && t) ≡ true → s ≡ true
and_left true t h = refl
and_left false t h = cc

and_right : (s t : Bool) → (s && t) ≡ true → t ≡ true
and_right true t h = h
and_right false t h = cc

same_node : (a b : Alias) → is_alias a b ≡ true → node_of a ≡ node_of b
same_node (Part n i x) (Part m j y) h = eqb-true n m (and_left (nat_eq n m) (nat_eq i j) h)
same_node (Part n i x) (Own m) h = cc
same_node (Own n) (Part m j y) h = cc
same_node (Own n) (Own m) h = eqb-true n m h

alike : (a b c : Alias) → is_alias a b ≡ true → is_alias a c ≡ is_alias b c
alike (Part n i x) (Part m j y) (Part k l z) h = ap (λ w. nat_eq w k && nat_eq i l) (eqb-true n m (and_left (nat_eq n m) (nat_eq i j) h)) ∙ ap (λ w. nat_eq m k && nat_eq w l) (eqb-true i j (and_right (nat_eq n m) (nat_eq i j) h))
alike (Part n i x) (Part m j y) (Own k) h = refl
alike (Part n i x) (Own m) c h = cc
alike (Own n) (Part m j y) c h = cc
alike (Own n) (Own m) (Part k l z) h = refl
alike (Own n) (Own m) (Own k) h = ap (λ w. nat_eq w k) (eqb-true n m h)

-- ---- what is seen

seen_alike : (k : ℕ) (a b : Alias) (es : List Entry) → is_alias a b ≡ true → seen k a es ≡ seen k b es
unfolding seen
seen_alike k a b [] h = refl
seen_alike k a b (e ∷ es) h = ap (λ t. cond (nat_lt (length es) k) None (cond t (Some e.loss.at) (seen k a es))) (alike a b e.loss.alias h) ∙ ap (λ z. cond (nat_lt (length es) k) None (cond (is_alias b e.loss.alias) (Some e.loss.at) z)) (seen_alike k a b es h)

pub seen_low : (k : ℕ) (a : Alias) (es : List Entry) → length es ≤ k → seen k a es ≡ None
unfolding seen
seen_low k a [] l = refl
seen_low k a (e ∷ es) l = ap (λ t. cond t None (cond (is_alias a e.loss.alias) (Some e.loss.at) (seen k a es))) (lt-ltb (length es) k (omega (arith, l)))

-- at an entry behind the first so many
pub seen_at : (k : ℕ) (a : Alias) (e : Entry) (es : List Entry) → k ≤ length es → seen k a (e ∷ es) ≡ cond (is_alias a e.loss.alias) (Some e.loss.at) (seen k a es)
unfolding seen
seen_at k a e es l = ap (λ t. cond t None (cond (is_alias a e.loss.alias) (Some e.loss.at) (seen k a es))) (le-ltb (length es) k l)

-- past an entry of another alias
pub seen_past : (k : ℕ) (a : Alias) (e : Entry) (es : List Entry) → is_alias a e.loss.alias ≡ false → seen k a (e ∷ es) ≡ seen k a es
seen_past k a e es h = by_order (nat_lt (length es) k) refl
  where
    by_order : (t : Bool) → nat_lt (length es) k ≡ t → seen k a (e ∷ es) ≡ seen k a es
    by_order true t = let l : length es < k = ltb-true (length es) k t in seen_low k a (e ∷ es) (omega (arith, l)) ∙ sym (seen_low k a es (omega (arith, l)))
    by_order false t = seen_at k a e es (ltb-false (length es) k t) ∙ ap (λ s. cond s (Some e.loss.at) (seen k a es)) h

pub seen_none : (k : ℕ) (a : Alias) (es : List Entry) → seen 0 a es ≡ None → seen k a es ≡ None
seen_none k a [] h = seen_low k a [] (omega arith)
seen_none k a (e ∷ es) h = by_alias (is_alias a e.loss.alias) refl (seen_none k a es)
  where
    by_alias : (s : Bool) → is_alias a e.loss.alias ≡ s → (seen 0 a es ≡ None → seen k a es ≡ None) → seen k a (e ∷ es) ≡ None
    by_alias true i less = let w : Some e.loss.at ≡ None = ap (λ s. cond s (Some e.loss.at) (seen 0 a es)) (sym i) ∙ sym (seen_at 0 a e es (omega arith)) ∙ h in cc
    by_alias false i less = seen_past k a e es i ∙ less (sym (seen_past 0 a e es i) ∙ h)

-- ---- the list of losses

-- of entries, the newest first
abbrev pub losses_of : List Entry → Losses
losses_of [] = []
losses_of (e ∷ es) = losses_of es ++ e.loss ∷ []

length_pushed : (ls : Losses) (l : Loss) → length (ls ++ l ∷ []) ≡ suc (length ls)
length_pushed [] l = refl
length_pushed (x ∷ ls) l = ap suc (length_pushed ls l)

length_losses : (es : List Entry) → length (losses_of es) ≡ length es
length_losses [] = refl
length_losses (e ∷ es) = length_pushed (losses_of es) e.loss ∙ ap suc (length_losses es)

behind_all : (k : ℕ) (ls : Losses) → length ls ≤ k → behind k ls ≡ []
behind_all zero [] l = refl
behind_all zero (x ∷ ls) l = absurd (omega (arith, l))
behind_all (suc k) [] l = refl
behind_all (suc k) (x ∷ ls) l = behind_all k ls (omega (arith, l))

behind_pushed : (k : ℕ) (ls : Losses) (l : Loss) → k ≤ length ls → behind k (ls ++ l ∷ []) ≡ behind k ls ++ l ∷ []
behind_pushed zero ls l h = refl
behind_pushed (suc k) [] l h = absurd (omega (arith, h))
behind_pushed (suc k) (x ∷ ls) l h = behind_pushed k ls l (omega (arith, h))

abbrev or_then : Option Spot → Option Spot → Option Spot
or_then (Some p) q = Some p
or_then None q = q

or_none : (p : Option Spot) → or_then p None ≡ p
or_none (Some p) = refl
or_none None = refl

lost_pushed : (ls : Losses) (l : Loss) (a : Alias) → lost_at (ls ++ l ∷ []) a ≡ or_then (lost_at ls a) (cond (is_alias a l.alias) (Some l.at) None)
lost_pushed [] l a = refl
lost_pushed (x ∷ ls) l a = by_alias (is_alias a x.alias) (lost_pushed ls l a)
  where
    by_alias : (s : Bool) → lost_at (ls ++ l ∷ []) a ≡ or_then (lost_at ls a) (cond (is_alias a l.alias) (Some l.at) None) → cond s (Some x.at) (lost_at (ls ++ l ∷ []) a) ≡ or_then (cond s (Some x.at) (lost_at ls a)) (cond (is_alias a l.alias) (Some l.at) None)
    by_alias true less = refl
    by_alias false less = less

pub found_in : (k : ℕ) (a : Alias) (es : List Entry) → Chain es → seen k a es ≡ lost_at (behind k (losses_of es)) a
unfolding Chain
found_in k a [] c = seen_low k a [] (omega arith) ∙ sym (ap (λ z. lost_at z a) (behind_all k [] (omega arith)))
found_in k a (e ∷ es) (before, once, c) = by_order (nat_lt (length es) k) refl (found_in k a es c)
  where
    by_alias : (s : Bool) → is_alias a e.loss.alias ≡ s → cond s (Some e.loss.at) (seen k a es) ≡ or_then (seen k a es) (cond s (Some e.loss.at) None)
    by_alias true i = sym (ap (λ z. or_then z (Some e.loss.at)) (seen_none k a es (seen_alike 0 a e.loss.alias es i ∙ once)))
    by_alias false i = sym (or_none (seen k a es))

    by_order : (t : Bool) → nat_lt (length es) k ≡ t → seen k a es ≡ lost_at (behind k (losses_of es)) a → seen k a (e ∷ es) ≡ lost_at (behind k (losses_of es ++ e.loss ∷ [])) a
    by_order true t less = let l : length es < k = ltb-true (length es) k t in
        seen_low k a (e ∷ es) (omega (arith, l)) ∙ sym (ap (λ z. lost_at z a) (behind_all k (losses_of es ++ e.loss ∷ []) (omega (arith, l, length_pushed (losses_of es) e.loss, length_losses es))))
    by_order false t less = let l : k ≤ length es = ltb-false (length es) k t in
        seen_at k a e es l ∙ by_alias (is_alias a e.loss.alias) refl ∙ ap (λ z. or_then z (cond (is_alias a e.loss.alias) (Some e.loss.at) None)) less
        ∙ sym (ap (λ z. lost_at z a) (behind_pushed k (losses_of es) e.loss (omega (arith, l, length_losses es))) ∙ lost_pushed (behind k (losses_of es)) e.loss a)

-- ---- along a chain

-- from the newest at a node on
unfoldable pub from : ℕ → List Entry → List Entry
from n [] = []
from n (e ∷ es) = cond (nat_eq n (node_of e.loss.alias)) (e ∷ es) (from n es)

pub last_low : (n : ℕ) (es : List Entry) → last n es ≤ length es
unfolding last
last_low n [] = omega arith
last_low n (e ∷ es) = by_node (nat_eq n (node_of e.loss.alias)) (last_low n es)
  where
    by_node : (t : Bool) → last n es ≤ length es → cond t (suc (length es)) (last n es) ≤ suc (length es)
    by_node true l = omega arith
    by_node false l = omega (arith, l)

length_from : (n : ℕ) (es : List Entry) → length (from n es) ≡ last n es
unfolding from last
length_from n [] = refl
length_from n (e ∷ es) = by_node (nat_eq n (node_of e.loss.alias)) (length_from n es)
  where
    by_node : (t : Bool) → length (from n es) ≡ last n es → length (cond t (e ∷ es) (from n es)) ≡ cond t (suc (length es)) (last n es)
    by_node true less = refl
    by_node false less = less

pub chain_from : (n : ℕ) (es : List Entry) → Chain es → Chain (from n es)
unfolding from Chain
chain_from n [] c = tt
chain_from n (e ∷ es) c = by_node (nat_eq n (node_of e.loss.alias)) (chain_from n es c.2)
  where
    by_node : (t : Bool) → Chain (from n es) → Chain (cond t (e ∷ es) (from n es))
    by_node true less = c
    by_node false less = less

pub from_twice : (n : ℕ) (es : List Entry) → from n (from n es) ≡ from n es
unfolding from
from_twice n [] = refl
from_twice n (e ∷ es) = by_node (nat_eq n (node_of e.loss.alias)) refl (from_twice n es)
  where
    by_node : (t : Bool) → nat_eq n (node_of e.loss.alias) ≡ t → from n (from n es) ≡ from n es → from n (cond t (e ∷ es) (from n es)) ≡ cond t (e ∷ es) (from n es)
    by_node true t less = ap (λ z. cond z (e ∷ es) (from n es)) t
    by_node false t less = less

pub equal_self : (n : ℕ) → nat_eq n n ≡ true
equal_self n = eq-eqb n n refl

other_node : (a : Alias) (e : Entry) → nat_eq (node_of a) (node_of e.loss.alias) ≡ false → is_alias a e.loss.alias ≡ false
other_node a e h = by_alias (is_alias a e.loss.alias) refl
  where
    by_alias : (s : Bool) → is_alias a e.loss.alias ≡ s → s ≡ false
    by_alias true i = let w : true ≡ false = sym (equal_self (node_of a)) ∙ ap (nat_eq (node_of a)) (same_node a e.loss.alias i) ∙ h in w
    by_alias false i = refl

pub seen_from : (k : ℕ) (a : Alias) (es : List Entry) → seen k a es ≡ seen k a (from (node_of a) es)
unfolding from
seen_from k a [] = refl
seen_from k a (e ∷ es) = by_node (nat_eq (node_of a) (node_of e.loss.alias)) refl (seen_from k a es)
  where
    by_node : (t : Bool) → nat_eq (node_of a) (node_of e.loss.alias) ≡ t → seen k a es ≡ seen k a (from (node_of a) es) → seen k a (e ∷ es) ≡ seen k a (cond t (e ∷ es) (from (node_of a) es))
    by_node true t less = refl
    by_node false t less = seen_past k a e es (other_node a e t) ∙ less

-- the top entry is at the node
pub top_node : (n : ℕ) (e : Entry) (es : List Entry) → from n (e ∷ es) ≡ e ∷ es → nat_eq n (node_of e.loss.alias) ≡ true
unfolding from
top_node n e es h = by_node (nat_eq n (node_of e.loss.alias)) refl h
  where
    by_node : (t : Bool) → nat_eq n (node_of e.loss.alias) ≡ t → cond t (e ∷ es) (from n es) ≡ e ∷ es → t ≡ true
    by_node true t g = refl
    by_node false t g = let w : length (from n es) ≡ suc (length es) = ap length g in absurd (omega (arith, w, length_from n es, last_low n es))

-- ---- the oldest entries, the newest of them first

abbrev pub oldest : ℕ → List Entry → List Entry
oldest i es = reverse (take i es)

pub length_oldest : (i : ℕ) (es : List Entry) → i ≤ length es → length (oldest i es) ≡ i
length_oldest i es l = length-reverse (take i es) ∙ length-take-le i es l

pub oldest_all : (es : List Entry) → oldest (length es) es ≡ reverse es
oldest_all es = ap reverse (take_all (length es) es (omega arith))

pub oldest_more : (i : ℕ) (es : List Entry) (d : Entry) → i < length es → oldest (suc i) es ≡ get_or es i d ∷ oldest i es
oldest_more i es d l = ap reverse (take-suc es i d l) ∙ reverse-append (take i es) (get_or es i d ∷ [])

pub from_oldest : (n i : ℕ) (es : List Entry) → i ≤ length es → from n (oldest i es) ≡ oldest (last n (oldest i es)) es
unfolding from last
from_oldest n i [] l = none_there n i
  where
    none_there : (n i : ℕ) → from n (oldest i []) ≡ oldest (last n (oldest i [])) []
    none_there n zero = refl
    none_there n (suc i) = refl
from_oldest n i (x ∷ xs) l = go_down n i l
  where
    es : List Entry
    es = x ∷ xs

    by_node : (n i : ℕ) (e : Entry) (t : Bool) → i ≤ length es → oldest (suc i) es ≡ e ∷ oldest i es → from n (oldest i es) ≡ oldest (last n (oldest i es)) es → cond t (e ∷ oldest i es) (from n (oldest i es)) ≡ oldest (cond t (suc (length (oldest i es))) (last n (oldest i es))) es
    by_node n i e true l more less = sym more ∙ ap (λ z. oldest (suc z) es) (sym (length_oldest i es l))
    by_node n i e false l more less = less

    go_down : (n i : ℕ) → i ≤ length es → from n (oldest i es) ≡ oldest (last n (oldest i es)) es
    go_down n zero l = refl
    go_down n (suc i) l = let more : oldest (suc i) es ≡ get_or es i x ∷ oldest i es = oldest_more i es x (omega (arith, l)) in
        ap (from n) more ∙ by_node n i (get_or es i x) (nat_eq n (node_of (get_or es i x).loss.alias)) (omega (arith, l)) more (go_down n i (omega (arith, l))) ∙ ap (λ z. oldest (last n z) es) (sym more)

-- ---- the list of losses in order

abbrev pub shown : List Entry → Losses
shown = map (λ (e : Entry). e.loss)

losses_pushed : (es : List Entry) (e : Entry) → losses_of (es ++ e ∷ []) ≡ e.loss ∷ losses_of es
losses_pushed [] e = refl
losses_pushed (x ∷ es) e = ap (λ z. z ++ x.loss ∷ []) (losses_pushed es e)

pub losses_shown : (es : List Entry) → losses_of (reverse es) ≡ shown es
losses_shown [] = refl
losses_shown (e ∷ es) = ap losses_of (reverse-append (e ∷ []) es) ∙ losses_pushed (reverse es) e ∙ ap (λ z. e.loss ∷ z) (losses_shown es)

pub found_shown : (k : ℕ) (a : Alias) (es : List Entry) → Chain (reverse es) → seen k a (reverse es) ≡ lost_at (behind k (shown es)) a
found_shown k a es c = found_in k a (reverse es) c ∙ ap (λ z. lost_at (behind k z) a) (losses_shown es)
