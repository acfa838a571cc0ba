-- Slots that are chosen again, form by form.
use Rattle.std.proofs.Common.{◌≡◌, ℕ, suc, ◌+◌, ◌-◌, ◌<◌, ◌≤◌, List, length, Bool, true, false, cond, nat_eq, nat_lt, Some, None, Result, Ok, Err, refl, sym, ap, ◌∙◌, add-one, eq-eqb, ne_eqb, lt-ltb, le-ltb}
use Rattle.std.specs.Prelude.{IfOk}
use Rattle.std.specs.Borrow.{Bor}
use Rattle.fut_scalar.specs.declared.memory.NoMemory.{NoMemory}
use Rattle.sized_types.specs.Sizes.{Free, Dim, At, Bound, Size, Hole, Open, Level, Built, Fun, Sizes, no_size, size_and, replaced, all_replaced, renamed}
use Rattle.fut_sizes.specs.Applications.{is_arrow}
use Rattle.fut_sizes.specs.Functions.{at_slot, behind, chosen_again, chosen_in, closed, is_slot, position_from, quantified, sizes_in, unknown_slot}
use Rattle.size_arena.specs.declared.dims.Dim as dims
use Rattle.size_arena.specs.declared.dims.Free as frees
use Rattle.size_arena.specs.declared.trees.SizeTree.{SizeTree}
use Rattle.size_arena.specs.declared.trees.SizeTree.TheVariants as form
use Rattle.size_arena.specs.Trees.{dim_of, size_of}
use Rattle.size_arena.proofs.Forms.{size_fun}
use Rattle.size_making.specs.Placing.{frees_of}
use Rattle.size_making.proofs.PlacingForms.{frees_length}
use Rattle.size_settling.specs.declared.renewing.Choices.{Choices, fold-roll-Choices}
use Rattle.size_settling.specs.declared.renewing.Choices.TheOpen as layer
use Rattle.size_settling.specs.declared.renewing.Choices.TheVariants as choices
use Rattle.size_settling.specs.Choosing.{Replacing, choices_form, choices_of}

abbrev pub Counted : Type 0
Counted = Result ℕ NoMemory

abbrev pub Dim_made : Type 0
Dim_made = Result dims.Dim NoMemory

abbrev pub Tree_made : Type 0
Tree_made = Result (Bor SizeTree) NoMemory

-- ---- one size

pub all_counted : (es : List frees.Free) (c b : ℕ) (o : Counted) → c ≡ length es → IfOk o (λ n. n ≡ c + b) → IfOk o (λ n. n ≡ length (frees_of es) + b)
all_counted es c b (Ok n) e h = h ∙ ap (λ z. z + b) (e ∙ sym (frees_length es))
all_counted es c b (Err x) e h = tt

pub ruleset counting = (all_counted)

module _ (k j : ℕ) (ds : List Free) where
  pub again_chosen : (d : Free) (i p : ℕ) → Some i ≡ position_from 0 ds d → p ≡ k + i → Bound j p ≡ chosen_again k ds j (At d)
  again_chosen d i p e h = ap (Bound j) h ∙ ap (λ z. at_slot j k z d) e

  pub again_not : (d : Free) → None ≡ position_from 0 ds d → At d ≡ chosen_again k ds j (At d)
  again_not d e = ap (λ z. at_slot j k z d) e

  module _ (l i : ℕ) where
    by_place : (a b : Bool) → nat_eq l j ≡ a → nat_lt i k ≡ b → chosen_again k ds j (Bound l i) ≡ Bound l (cond a (cond b i (length ds + i)) i)
    by_place a b p q = ap (λ z. Bound l (cond z (cond (nat_lt i k) i (length ds + i)) i)) p ∙ ap (λ z. Bound l (cond a (cond z i (length ds + i)) i)) q

    pub bound_elsewhere : (l ≡ j → ⊥) → Bound l i ≡ chosen_again k ds j (Bound l i)
    bound_elsewhere ne = sym (by_place false (nat_lt i k) (ne_eqb l j ne) refl)

    pub bound_before : l ≡ j → i < k → Bound l i ≡ chosen_again k ds j (Bound l i)
    bound_before e h = sym (by_place true true (eq-eqb l j e) (lt-ltb i k h))

    pub bound_behind : (m : ℕ) → l ≡ j → k ≤ i → m ≡ length ds + i → Bound l m ≡ chosen_again k ds j (Bound l i)
    bound_behind m e h p = ap (Bound l) p ∙ sym (by_place true false (eq-eqb l j e) (le-ltb i k h))

pub ruleset again = (again_chosen, again_not, bound_elsewhere, bound_before, bound_behind)

-- ---- one function type inside another

pub nothing_chosen : choices_of choices.Nothing ≡ (λ j d. d)
unfolding choices_of choices_form
nothing_chosen = ap choices_of (sym choices.rolls-Nothing) ∙ fold-roll-Choices _ choices_form layer.Nothing

pub chosen_behind : (j k : ℕ) (ds : Bor (List frees.Free)) (outer : Bor Choices) → choices_of (choices.Behind j k ds outer) ≡ behind k j (frees_of ds.now) (choices_of outer.now)
unfolding choices_of choices_form
chosen_behind j k ds outer = ap choices_of (sym (choices.rolls-Behind j k ds outer)) ∙ fold-roll-Choices _ choices_form (layer.Behind j k ds outer)

module _ (c : Choices) (i : ℕ) (d : Dim) where
  pub dim_stays : c ≡ choices.Nothing → d ≡ choices_of c i d
  dim_stays is = sym (ap (λ z. choices_of z i d) is ∙ ap (λ (z : Replacing). z i d) nothing_chosen)

  pub dim_again : (j k b : ℕ) (ds : Bor (List frees.Free)) (outer : Bor Choices) (e : dims.Dim) (o : Dim_made) → c ≡ choices.Behind j k ds outer → dim_of e ≡ choices_of outer.now i d → b ≡ i - suc j
      → IfOk o (λ x. dim_of x ≡ chosen_again k (frees_of ds.now) b (dim_of e)) → IfOk o (λ x. dim_of x ≡ choices_of c i d)
  dim_again j k b ds outer e (Ok x) is before p h =
      h ∙ ap (λ z. chosen_again k (frees_of ds.now) z (dim_of e)) p ∙ ap (chosen_again k (frees_of ds.now) (i - suc j)) before
      ∙ sym (ap (λ z. choices_of z i d) is ∙ ap (λ (z : Replacing). z i d) (chosen_behind j k ds outer))
  dim_again j k b ds outer e (Err x) is before p h = tt

pub ruleset choices_made = (dim_stays, dim_again)

-- ---- what is no function type

mutual
  unfolding replaced all_replaced

  same_sizes : (j : ℕ) (t : Size) → replaced (λ j d. d) j t ≡ t
  same_sizes j (Hole v) = refl
  same_sizes j (Open n v u) = refl
  same_sizes j (Level d t) = ap (Level d) (same_sizes j t)
  same_sizes j (Built h ts) = ap (Built h) (all_same_sizes j ts)
  same_sizes j (Fun k p r) = rw (same_sizes (suc j) p, same_sizes (suc j) r) refl

  all_same_sizes : (j : ℕ) (ts : Sizes) → all_replaced (λ j d. d) j ts ≡ ts
  all_same_sizes j no_size = refl
  all_same_sizes j (size_and t ts) = rw (same_sizes j t, all_same_sizes j ts) refl

module _ (c : Choices) (n : ℕ → ℕ) (j : ℕ) (t : Size) where
  pub ends_as_it_is : (o : Tree_made) → c ≡ choices.Nothing → IfOk o (λ m. size_of m.now ≡ renamed (unknown_slot n) t) → IfOk o (λ m. size_of m.now ≡ renamed (unknown_slot n) (replaced (choices_of c) j t))
  ends_as_it_is (Ok m) is h = h ∙ ap (renamed (unknown_slot n)) (sym (ap (λ (z : Replacing). replaced z j t) (ap choices_of is ∙ nothing_chosen) ∙ same_sizes j t))
  ends_as_it_is (Err x) is h = tt

  pub ends_chosen : (u : Size) (o : Tree_made) → u ≡ replaced (choices_of c) j t → IfOk o (λ m. size_of m.now ≡ renamed (unknown_slot n) u) → IfOk o (λ m. size_of m.now ≡ renamed (unknown_slot n) (replaced (choices_of c) j t))
  ends_chosen u (Ok m) e h = h ∙ ap (renamed (unknown_slot n)) e
  ends_chosen u (Err x) e h = tt

pub ruleset ends = (ends_as_it_is, ends_chosen)

module _ (n : ℕ → ℕ) (j : ℕ) (outer : Replacing) where
  ends_so : (t : Size) → is_arrow t ≡ false → chosen_in n outer j t ≡ renamed (unknown_slot n) (replaced outer j t)
  unfolding chosen_in
  ends_so (Hole v) so = refl
  ends_so (Open m v u) so = refl
  ends_so (Level d t) so = refl
  ends_so (Built h ts) so = refl
  ends_so (Fun k p r) so = cc

  pub data_ends : (t a : Size) (o : Tree_made) → t ≡ a → is_arrow a ≡ false → IfOk o (λ m. size_of m.now ≡ renamed (unknown_slot n) (replaced outer j t)) → IfOk o (λ m. size_of m.now ≡ chosen_in n outer j t)
  data_ends t a (Ok m) is so h = h ∙ sym (ends_so t (ap is_arrow is ∙ so))
  data_ends t a (Err x) is so h = tt

-- ---- function types

pub open_kept : (es fs : List frees.Free) (t u : Size) → fs ≡ es → frees_of es ≡ sizes_in is_slot t → t ≡ u → frees_of fs ≡ sizes_in is_slot u
open_kept es fs t u e h is = ap frees_of e ∙ h ∙ ap (sizes_in is_slot) is

pub ruleset opens = (open_kept)

module _ (n : ℕ → ℕ) (j k : ℕ) (p r : Size) (outer : Replacing) where
  abbrev arrow_with : List Free → Size
  arrow_with ds = Fun (length ds + k) (replaced (behind k j ds outer) (suc j) p) (chosen_in n (behind k j ds outer) (suc j) r)

  arrow_is : chosen_in n outer j (Fun k p r) ≡ arrow_with (sizes_in is_slot (replaced outer (suc j) p))
  unfolding chosen_in
  arrow_is = refl

  module _ (i c : ℕ) (ds : List Free) (inner : Replacing) (a b : Size) (e : i ≡ j + 1) (slots : ds ≡ sizes_in is_slot (replaced outer i p)) (count : c ≡ length ds + k) (next : inner ≡ behind k j ds outer)
      (taken : a ≡ replaced inner i p) (given : b ≡ chosen_in n inner i r) where
    inside : i ≡ suc j
    inside = e ∙ add-one j

    parts_are : Fun c a b ≡ arrow_with ds
    parts_are = ap (λ z. Fun z a b) count
        ∙ ap (λ z. Fun (length ds + k) z b) (taken ∙ ap (λ (z : Replacing). replaced z i p) next ∙ ap (λ z. replaced (behind k j ds outer) z p) inside)
        ∙ ap (Fun (length ds + k) (replaced (behind k j ds outer) (suc j) p)) (given ∙ ap (λ (z : Replacing). chosen_in n z i r) next ∙ ap (λ z. chosen_in n (behind k j ds outer) z r) inside)

    pub arrow_again : Fun c a b ≡ chosen_in n outer j (Fun k p r)
    arrow_again = parts_are ∙ ap arrow_with (slots ∙ ap (λ z. sizes_in is_slot (replaced outer z p)) inside) ∙ sym arrow_is

module _ (n : ℕ → ℕ) (j : ℕ) (t : SizeTree) (c inner : Choices) where
  pub function_chosen : (height k i m : ℕ) (p r a b : Bor SizeTree) (ds : Bor (List frees.Free)) (outer : Bor Choices) (o : Tree_made) → t ≡ form.Fun height k p r → outer.now ≡ c → inner ≡ choices.Behind j k ds outer
      → i ≡ j + 1 → frees_of ds.now ≡ sizes_in is_slot (replaced (choices_of c) i (size_of p.now)) → m ≡ length (frees_of ds.now) + k
      → size_of a.now ≡ replaced (choices_of inner) i (size_of p.now) → size_of b.now ≡ chosen_in n (choices_of inner) i (size_of r.now)
      → IfOk o (λ x. size_of x.now ≡ Fun m (size_of a.now) (size_of b.now)) → IfOk o (λ x. size_of x.now ≡ chosen_in n (choices_of c) j (size_of t))
  function_chosen height k i m p r a b ds outer (Ok x) is same within e slots count taken given h =
      h ∙ arrow_again n j k (size_of p.now) (size_of r.now) (choices_of c) i m (frees_of ds.now) (choices_of inner) (size_of a.now) (size_of b.now) e slots count
      (ap choices_of within ∙ chosen_behind j k ds outer ∙ ap (λ z. behind k j (frees_of ds.now) (choices_of z)) same) taken given
      ∙ sym (ap (chosen_in n (choices_of c) j) (ap size_of is ∙ size_fun height k p r))
  function_chosen height k i m p r a b ds outer (Err x) is same within e slots count taken given h = tt

-- ---- at the outside

module _ (n : ℕ → ℕ) (t : Size) where
  pub nothing_quantified : (o : Tree_made) → IfOk o (λ m. size_of m.now ≡ chosen_in n (choices_of choices.Nothing) 0 t) → IfOk o (λ m. size_of m.now ≡ quantified n t)
  unfolding quantified
  nothing_quantified (Ok m) h = h ∙ ap (λ (z : Replacing). chosen_in n z 0 t) nothing_chosen
  nothing_quantified (Err x) h = tt

  pub goes_on_closed : (b : Bool) (o : Tree_made) → b ≡ true → IfOk o (λ m. size_of m.now ≡ quantified n t) → IfOk o (λ m. size_of m.now ≡ closed b n t)
  unfolding closed
  goes_on_closed b (Ok m) e h = h ∙ sym (ap (λ z. closed z n t) e)
  goes_on_closed b (Err x) e h = tt

  pub last_closed : (b : Bool) (o : Tree_made) → b ≡ false → IfOk o (λ m. size_of m.now ≡ renamed (unknown_slot n) t) → IfOk o (λ m. size_of m.now ≡ closed b n t)
  unfolding closed
  last_closed b (Ok m) e h = h ∙ sym (ap (λ z. closed z n t) e)
  last_closed b (Err x) e h = tt

pub ruleset none_chosen = (nothing_quantified)

pub ruleset closes = (goes_on_closed, last_closed)
