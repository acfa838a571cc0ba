-- What a loop carries, component by component.
use Rattle.std.proofs.Common.{◌≡◌, ℕ, ◌+◌, ◌<◌, ◌≤◌, true, false, ◌||◌, List, [], ◌∷◌, ◌++◌, length, get_or, drop, min, Some, None, refl, sym, ap, ◌∙◌, arith}
use Rattle.std.specs.Borrow.{Bor}
use Rattle.fut_aliases.specs.declared.aliases.Alias.{Alias}
use Rattle.fut_aliases.specs.declared.refusals.Spot.{Spot}
use Rattle.fut_aliases.specs.Aliases.{Set}
use Rattle.fut_aliases.specs.Loops as definition
use Rattle.fut_aliases.specs.Loops.{all_carried, some_lost}
use Rattle.fut_aliases.specs.Steps.{Losses, is_some, lost_at}
use Rattle.alias_joins.specs.SetRows.{sets_of}
use Rattle.alias_values.proofs.Rows.{drop_past, one_more}
use Rattle.alias_loops.specs.declared.carried.Carried.{Carried}
use Rattle.alias_loops.specs.Carried.{carried_of, carrieds_of}
use Rattle.alias_loops.proofs.Dropping.{made_all, one_made, some_left}

-- ---- whether some alias was consumed

module _ (ls : Losses) (s : Set) (i : ℕ) where
  lost_here_or : (d : Alias) → i < length s → some_lost ls (drop i s) ≡ (is_some (lost_at ls (get_or s i d)) || some_lost ls (drop (i + 1) s))
  lost_here_or d l = ap (some_lost ls) (one_more s i d l)

  pub lost_more : (d : Alias) → i < length s → None ≡ lost_at ls (get_or s i d) → some_lost ls s ≡ some_lost ls (drop i s) → some_lost ls s ≡ some_lost ls (drop (i + 1) s)
  lost_more d l h e = e ∙ lost_here_or d l ∙ ap (λ z. is_some z || some_lost ls (drop (i + 1) s)) (sym h)

  pub lost_here : (d : Alias) (p : Spot) → i < length s → Some p ≡ lost_at ls (get_or s i d) → some_lost ls s ≡ some_lost ls (drop i s) → true ≡ some_lost ls s
  lost_here d p l h e = sym (e ∙ lost_here_or d l ∙ ap (λ z. is_some z || some_lost ls (drop (i + 1) s)) (sym h))

  pub lost_end : length s ≤ i → some_lost ls s ≡ some_lost ls (drop i s) → false ≡ some_lost ls s
  lost_end l e = sym (e ∙ ap (some_lost ls) (drop_past s i l))

pub ruleset lost_forms = (lost_more, lost_here, lost_end)

-- ---- components

module _ (ls : Losses) (ns : List ℕ) (os fs gs : List (Bor Set)) where
  abbrev left_from : ℕ → List definition.Carried
  left_from i = all_carried ls (drop i ns) (sets_of (drop i os)) (sets_of (drop i fs)) (sets_of (drop i gs))

  abbrev pub Carrying : ℕ → List Carried → Type 0
  Carrying i made = all_carried ls ns (sets_of os) (sets_of fs) (sets_of gs) ≡ carrieds_of made ++ all_carried ls (drop i ns) (sets_of (drop i os)) (sets_of (drop i fs)) (sets_of (drop i gs))

  pub carried_more : (i : ℕ) (n : ℕ) (o f g : Bor Set) (made longer : List Carried) (c : Carried) → i < length ns → i < length os → i < length fs → i < length gs → Carrying i made
      → c.node ≡ get_or ns i n → c.own ≡ get_or os i o → c.first ≡ get_or fs i f → c.gives ≡ get_or gs i g → c.is_eaten ≡ some_lost ls (get_or os i o).now → longer ≡ made ++ c ∷ [] → Carrying (i + 1) longer
  carried_more i n o f g made longer c l1 l2 l3 l4 h e1 e2 e3 e4 e5 e =
      h ∙ ap (λ z. carrieds_of made ++ z)
      (ap (λ z. all_carried ls z (sets_of (drop i os)) (sets_of (drop i fs)) (sets_of (drop i gs))) (one_more ns i n l1)
      ∙ ap (λ z. all_carried ls (get_or ns i n ∷ drop (i + 1) ns) (sets_of z) (sets_of (drop i fs)) (sets_of (drop i gs))) (one_more os i o l2)
      ∙ ap (λ z. all_carried ls (get_or ns i n ∷ drop (i + 1) ns) (sets_of (get_or os i o ∷ drop (i + 1) os)) (sets_of z) (sets_of (drop i gs))) (one_more fs i f l3)
      ∙ ap (λ z. all_carried ls (get_or ns i n ∷ drop (i + 1) ns) (sets_of (get_or os i o ∷ drop (i + 1) os)) (sets_of (get_or fs i f ∷ drop (i + 1) fs)) (sets_of z)) (one_more gs i g l4))
      ∙ one_made carried_of made longer c _ (left_from (i + 1)) e is
    where
      is : carried_of c ≡ record { node = get_or ns i n; own = (get_or os i o).now; first = (get_or fs i f).now; gives = (get_or gs i g).now; is_eaten = some_lost ls (get_or os i o).now }
      is = cc

  nothing_left : (n : ℕ) → n ≡ min (min (min (length ns) (length os)) (length fs)) (length gs) → left_from n ≡ []
  nothing_left n e = by_lists (drop n ns) (drop n os) (drop n fs) (drop n gs) refl refl refl refl
    where
      by_lists : (a : List ℕ) (b c d : List (Bor Set)) → a ≡ drop n ns → b ≡ drop n os → c ≡ drop n fs → d ≡ drop n gs → all_carried ls a (sets_of b) (sets_of c) (sets_of d) ≡ []
      by_lists [] b c d p q r s = refl
      by_lists (x ∷ a) [] c d p q r s = refl
      by_lists (x ∷ a) (y ∷ b) [] d p q r s = refl
      by_lists (x ∷ a) (y ∷ b) (z ∷ c) [] p q r s = refl
      by_lists (x ∷ a) (y ∷ b) (z ∷ c) (w ∷ d) p q r s = absurd (omega (arith, e, some_left ns a n x p, some_left os b n y q, some_left fs c n z r, some_left gs d n w s))

  pub carried_end : (n i : ℕ) (made : List Carried) → n ≡ min (min (min (length ns) (length os)) (length fs)) (length gs) → i ≤ n → n ≤ i → Carrying i made → carrieds_of made ≡ all_carried ls ns (sets_of os) (sets_of fs) (sets_of gs)
  carried_end n i made e l m h = let o : i ≡ n = omega (arith, l, m) in sym (h ∙ made_all carried_of made (left_from i) (ap left_from o ∙ nothing_left n e))
