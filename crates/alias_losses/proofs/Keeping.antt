-- One more entry, and one less.
use Rattle.std.proofs.Common.{◌≡◌, ℕ, suc, ◌+◌, ◌-◌, ◌<◌, ◌≤◌, Bool, true, false, cond, nat_eq, List, [], ◌∷◌, ◌++◌, length, reverse, set, get_or, None, refl, sym, ap, ◌∙◌, subst, arith, take, take_at, take_all, take-take, get_or-set_other, get_or-set_same}
use Rattle.std.proofs.lemmas.Bool.{eqb-true}
use Rattle.std.proofs.lemmas.List.{length-reverse, length-take, length_push, map-append, reverse-append}
use Rattle.fut_aliases.specs.declared.refusals.Loss.{Loss}
use Rattle.fut_aliases.specs.Steps.{Losses, lost_at}
use Rattle.alias_losses.specs.declared.chains.Entry.{Entry}
use Rattle.alias_losses.specs.Chains.{node_of, last, Chain, Chained}
use Rattle.alias_losses.proofs.Tables.{behind_end}
use Rattle.alias_losses.proofs.Linked.{equal_self, shown, found_shown}

pub chained_none : Chained [] []
unfolding Chained Chain last
chained_none = (tt, λ n. refl)

-- the table reaches further
pub chained_reached : (es : List Entry) (newest reached : List ℕ) → Chained es newest → ((n : ℕ) → get_or reached n 0 ≡ get_or newest n 0) → Chained es reached
unfolding Chained
chained_reached es newest reached (c, heads) same = (c, λ n. same n ∙ heads n)

last_pushed : (es : List Entry) (e : Entry) → reverse (es ++ e ∷ []) ≡ e ∷ reverse es
last_pushed es e = reverse-append es (e ∷ [])

number_set : (xs : List ℕ) (n v m : ℕ) → n < length xs → get_or (set xs n v) m 0 ≡ cond (nat_eq m n) v (get_or xs m 0)
number_set xs n v m l = by_node (nat_eq m n) refl
  where
    by_node : (t : Bool) → nat_eq m n ≡ t → get_or (set xs n v) m 0 ≡ cond t v (get_or xs m 0)
    by_node true t = ap (λ z. get_or (set xs n v) z 0) (eqb-true m n t) ∙ get_or-set_same xs n v 0 l
    by_node false t = get_or-set_other xs n m v 0 (λ e. let w : true ≡ false = sym (equal_self n) ∙ ap (λ z. nat_eq z n) (sym e) ∙ t in cc)

one_pushed : (es : List Entry) (newest reached : List ℕ) (e : Entry) (count : ℕ) → Chained es newest → lost_at (shown es) e.loss.alias ≡ None → e.before ≡ get_or newest (node_of e.loss.alias) 0
    → ((n : ℕ) → get_or reached n 0 ≡ get_or newest n 0) → node_of e.loss.alias < length reached → count ≡ length es + 1 → Chained (es ++ e ∷ []) (set reached (node_of e.loss.alias) count)
unfolding Chained Chain last
one_pushed es newest reached e count (c, heads) once before same l counted = rw (last_pushed es e)
    ((before ∙ heads (node_of e.loss.alias), found_shown 0 e.loss.alias es c ∙ once, c), λ m. number_set reached (node_of e.loss.alias) count m l ∙ ap (λ z. cond (nat_eq m (node_of e.loss.alias)) z (get_or reached m 0)) sized ∙ ap (cond (nat_eq m (node_of e.loss.alias)) (suc (length (reverse es)))) (same m ∙ heads m))
  where
    sized : count ≡ suc (length (reverse es))
    sized = omega (arith, counted, length-reverse es)

pub chained_pushed : (es pushed : List Entry) (newest reached put : List ℕ) (l : Loss) (before count n : ℕ) → Chained es newest → lost_at (shown es) l.alias ≡ None → n ≡ node_of l.alias → before ≡ get_or newest n 0
    → ((m : ℕ) → get_or reached m 0 ≡ get_or newest m 0) → n < length reached → count ≡ length es + 1 → pushed ≡ es ++ record { loss = l; before = before } ∷ [] → put ≡ set reached n count → Chained pushed put
chained_pushed es pushed newest reached put l before count n c once n_is before_is same room counted pushed_is put_is = rw (pushed_is, put_is ∙ ap (λ z. set reached z count) n_is)
    (one_pushed es newest reached (record { loss = l; before = before }) count c once (before_is ∙ ap (λ z. get_or newest z 0) n_is) same (subst (λ z. z < length reached) n_is room) counted)

pub shown_pushed : (es : List Entry) (e : Entry) → shown (es ++ e ∷ []) ≡ shown es ++ e.loss ∷ []
shown_pushed es e = map-append (λ (e : Entry). e.loss) es (e ∷ [])

-- ---- one less

module _ (es ms : List Entry) (e : Entry) (newest : List ℕ) (h : Chained ms newest) (is : ms ≡ es ++ e ∷ []) where
  popped : Chain (e ∷ reverse es) × ((n : ℕ) → get_or newest n 0 ≡ last n (e ∷ reverse es))
  unfolding Chained
  popped = rw (ap reverse is ∙ last_pushed es e) at h

  pub chained_less : node_of e.loss.alias < length newest → Chained es (set newest (node_of e.loss.alias) e.before)
  unfolding Chained Chain last
  chained_less l = (popped.0.2, λ m. number_set newest (node_of e.loss.alias) e.before m l ∙ by_node m (nat_eq m (node_of e.loss.alias)) refl)
    where
      by_node : (m : ℕ) (t : Bool) → nat_eq m (node_of e.loss.alias) ≡ t → cond t e.before (get_or newest m 0) ≡ last m (reverse es)
      by_node m true t = popped.0.0 ∙ ap (λ n. last n (reverse es)) (sym (eqb-true m (node_of e.loss.alias) t))
      by_node m false t = popped.1 m ∙ ap (λ z. cond z (suc (length (reverse es))) (last m (reverse es))) t

  pub chained_there : length newest ≤ node_of e.loss.alias → Chained es newest
  unfolding Chained last
  chained_there l = let w : 0 ≡ suc (length (reverse es)) = behind_end newest (node_of e.loss.alias) l ∙ popped.1 (node_of e.loss.alias) ∙ ap (λ z. cond z (suc (length (reverse es))) (last (node_of e.loss.alias) (reverse es))) (equal_self (node_of e.loss.alias)) in absurd (omega (arith, w))

  pub shown_less : shown es ≡ take (length (shown ms) - 1) (shown ms)
  shown_less = sym (rw (is, shown_pushed es e) (take_at (shown es) (e.loss ∷ []) (length (shown es ++ e.loss ∷ []) - 1) (omega (arith, length_push (shown es) e.loss))))

pub shown_none : (es ms : List Entry) → ms ≡ [] → es ≡ [] → shown es ≡ take (length (shown ms) - 1) (shown ms)
shown_none es ms m e = rw (m, e) refl

-- losses that are put back one by one
pub one_less : (h : ℕ) (es fs gs : Losses) → take h fs ≡ take h es → h < length fs → gs ≡ take (length fs - 1) fs → take h gs ≡ take h es
one_less h es fs gs same more is = ap (take h) is ∙ take-take h (length fs - 1) fs (omega (arith, more)) ∙ same

pub all_left : (h : ℕ) (es fs : Losses) → take h fs ≡ take h es → length fs ≤ h → fs ≡ take h es
all_left h es fs same less = sym (take_all h fs less) ∙ same

pub shorter : (es fs : Losses) (h : ℕ) → h < length es → fs ≡ take (length es - 1) es → length fs < length es
shorter es fs h more is = rw is (omega (arith, length-take (length es - 1) es, more))

pub ruleset putting_back = (one_less, all_left, shorter)

pub ruleset keeping = (chained_less, chained_there, shown_less, shown_none, chained_none, chained_reached, shown_pushed)
