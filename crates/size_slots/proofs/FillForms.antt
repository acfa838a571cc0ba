-- A variable that has been taken, form by form, and in what the variables have taken so far.
use Rattle.std.proofs.Common.{◌≡◌, ℕ, ◌+◌, ◌<◌, ◌≤◌, List, [], ◌∷◌, ◌++◌, length, get_or, take, drop, Bool, true, false, cond, refl, sym, ap, ◌∙◌, add-one, arith}
use Rattle.std.proofs.Math.Seq.{drop-cons}
use Rattle.std.proofs.lemmas.Grind.{take-set_at}
use Rattle.std.proofs.lemmas.List.{drop-set-lt, length-set, take_all}
use Rattle.std.specs.Prelude.{slice_set}
use Rattle.std.specs.Borrow.{Bor}
use Rattle.fut_types.specs.declared.Head.{Head}
use Rattle.fut_types.specs.Types.{Ty}
use Rattle.sized_types.specs.Sizes.{Dim, Variable, Size, Hole, Open, Level, Built, Fun, Sizes, size_and}
use Rattle.fut_sizes.specs.Matching.{is_open, filled, all_filled}
use Rattle.size_arena.specs.declared.trees.SizeTree.{SizeTree}
use Rattle.size_arena.specs.Trees.{variable_of, size_of, sizes_of}
use Rattle.size_arena.proofs.Forms.{forms}
use Rattle.size_arena.proofs.Parts.{drop_past, parts_at, parts_end, before, before_more, before_none}
use Rattle.size_slots.specs.declared.slots.Chosen.{Chosen}
use Rattle.size_slots.specs.Held.{chosen_or, Filled}

module _ (n : ℕ) (v : Variable) (s : Size) where
  pub filled_hole : (x : Variable) → Hole x ≡ filled n v s (Hole x)
  unfolding filled
  filled_hole x = refl

  pub filled_same : (m : ℕ) (x : Variable) (u : Ty) → true ≡ is_open n v m x → s ≡ filled n v s (Open m x u)
  unfolding filled
  filled_same m x u h = ap (λ z. cond z s (Open m x u)) h

  pub filled_other : (m : ℕ) (x : Variable) (u : Ty) → false ≡ is_open n v m x → Open m x u ≡ filled n v s (Open m x u)
  unfolding filled
  filled_other m x u h = ap (λ z. cond z s (Open m x u)) h

  pub filled_level : (d : Dim) (t u w : Size) → u ≡ filled n v s t → w ≡ Level d u → w ≡ filled n v s (Level d t)
  unfolding filled
  filled_level d t u w b c = c ∙ ap (Level d) b

  pub filled_built : (h : Head) (ts us : Sizes) (w : Size) → us ≡ all_filled n v s ts → w ≡ Built h us → w ≡ filled n v s (Built h ts)
  unfolding filled all_filled
  filled_built h ts us w a b = b ∙ ap (Built h) a

  pub filled_fun : (k : ℕ) (p r q t w : Size) → q ≡ filled n v s p → t ≡ filled n v s r → w ≡ Fun k q t → w ≡ filled n v s (Fun k p r)
  unfolding filled
  filled_fun k p r q t w a b c = rw (c, b, a) refl

  module _ (ts : List SizeTree) (i : ℕ) (made : List SizeTree) (h : all_filled n v s (sizes_of ts) ≡ before made (all_filled n v s (sizes_of (drop i ts)))) where
    pub fills_more : (t part : SizeTree) (more : List SizeTree) → i < length ts → size_of part ≡ filled n v s (size_of (get_or ts i t)) → more ≡ made ++ part ∷ []
        → all_filled n v s (sizes_of ts) ≡ before more (all_filled n v s (sizes_of (drop (i + 1) ts)))
    unfolding filled all_filled
    fills_more t part more l e b =
        h ∙ ap (before made) (ap (all_filled n v s) (parts_at ts i t l) ∙ ap (λ z. size_and z (all_filled n v s (sizes_of (drop (i + 1) ts)))) (sym e))
        ∙ sym (before_more made part (all_filled n v s (sizes_of (drop (i + 1) ts))))
        ∙ ap (λ z. before z (all_filled n v s (sizes_of (drop (i + 1) ts)))) (sym b)

    pub fills_end : length ts ≤ i → sizes_of made ≡ all_filled n v s (sizes_of ts)
    unfolding all_filled
    fills_end l = sym (h ∙ ap (before made) (ap (all_filled n v s) (parts_end ts i l)) ∙ before_none made)

pub ruleset fills = (forms, filled_hole, filled_same, filled_other, filled_level, filled_built, filled_fun)

pub ruleset all_fills = (fills_more, fills_end)

-- ---- what was taken so far, one after another

pub chosen_behind : (cs : List Chosen) (c : Chosen) (m : ℕ) (w : Variable) (t : Size) → chosen_or (cs ++ c ∷ []) m w t ≡ chosen_or cs m w (cond (is_open c.node (variable_of c.variable) m w) (size_of c.size.now) t)
chosen_behind [] c m w t = refl
chosen_behind (x ∷ cs) c m w t = ap (cond (is_open x.node (variable_of x.variable) m w) (size_of x.size.now)) (chosen_behind cs c m w t)

module _ (fill : Size → Size) (cs : List Chosen) where
  pub record Filling (ds : List Chosen) (i : ℕ) : Type 0 where
    pub many : length ds ≡ length cs
    pub rest : drop i ds ≡ drop i cs
    pub done : (m : ℕ) (w : Variable) (t : Size) → chosen_or (take i ds) m w (fill (chosen_or (drop i cs) m w t)) ≡ fill (chosen_or cs m w t)

  pub filling_starts : Filling cs 0
  filling_starts = record { many = refl; rest = refl; done = λ m w t. refl }

  chosen_by : (b : Bool) (a t : Size) → cond b (fill a) (fill t) ≡ fill (cond b a t)
  chosen_by true a t = refl
  chosen_by false a t = refl

  abbrev tail : List Chosen → List Chosen
  tail [] = []
  tail (x ∷ xs) = xs

  abbrev head_or : Chosen → List Chosen → Chosen
  head_or c [] = c
  head_or c (x ∷ xs) = x

  pub filling_more : (ds es : List Chosen) (i : ℕ) (c x : Chosen) → Filling ds i → i < length ds → x.node ≡ (get_or ds i c).node → x.variable ≡ (get_or ds i c).variable → size_of x.size.now ≡ fill (size_of (get_or ds i c).size.now) → es ≡ slice_set ds i x → Filling es (i + 1)
  filling_more ds es i c x f l n v s e = record {
    many = ap length e ∙ length-set ds i x ∙ f.many;
    rest = ap (drop (i + 1)) e ∙ drop-set-lt (i + 1) ds i x (omega arith) ∙ rests;
    done = λ m w t. ap (λ z. chosen_or z m w (fill (chosen_or (drop (i + 1) cs) m w t))) (ap (take (i + 1)) e ∙ take-set_at ds i (i + 1) x refl l)
        ∙ chosen_behind (take i ds) x m w (fill (chosen_or (drop (i + 1) cs) m w t)) ∙ ap (chosen_or (take i ds) m w) (one m w t) ∙ f.done m w t;
  }
    where
      split : drop i cs ≡ get_or ds i c ∷ drop (i + 1) ds
      split = sym f.rest ∙ drop-cons ds i c l ∙ ap (λ z. get_or ds i c ∷ drop z ds) (sym (add-one i))

      own : drop i cs ≡ get_or cs i c ∷ drop (i + 1) cs
      own = drop-cons cs i c (omega (arith, f.many, l)) ∙ ap (λ z. get_or cs i c ∷ drop z cs) (sym (add-one i))

      rests : drop (i + 1) ds ≡ drop (i + 1) cs
      rests = ap tail (sym split ∙ own)

      same : get_or cs i c ≡ get_or ds i c
      same = ap (head_or c) (sym own ∙ split)

      one : (m : ℕ) (w : Variable) (t : Size) → cond (is_open x.node (variable_of x.variable) m w) (size_of x.size.now) (fill (chosen_or (drop (i + 1) cs) m w t)) ≡ fill (chosen_or (drop i cs) m w t)
      one m w t = ap (λ z. cond (is_open z (variable_of x.variable) m w) (size_of x.size.now) (fill (chosen_or (drop (i + 1) cs) m w t))) n
          ∙ ap (λ z. cond (is_open (get_or ds i c).node (variable_of z) m w) (size_of x.size.now) (fill (chosen_or (drop (i + 1) cs) m w t))) v
          ∙ ap (λ z. cond (is_open (get_or ds i c).node (variable_of (get_or ds i c).variable) m w) z (fill (chosen_or (drop (i + 1) cs) m w t))) s
          ∙ chosen_by (is_open (get_or ds i c).node (variable_of (get_or ds i c).variable) m w) (size_of (get_or ds i c).size.now) (chosen_or (drop (i + 1) cs) m w t)
          ∙ ap fill (sym (ap (λ z. chosen_or z m w t) (own ∙ ap (λ z. z ∷ drop (i + 1) cs) same)))

  -- what stands at i is read off another list that is the same
  pub filling_next : (ds es s : List Chosen) (i : ℕ) (c : Chosen) (size : Bor SizeTree) → s ≡ ds → Filling ds i → i < length ds → size_of size.now ≡ fill (size_of (get_or s i c).size.now)
      → es ≡ slice_set ds i (record { node = (get_or s i c).node; variable = (get_or s i c).variable; size = size }) → Filling es (i + 1)
  filling_next ds es s i c size is f l e p = filling_more ds es i c (record { node = (get_or s i c).node; variable = (get_or s i c).variable; size = size }) f l
      (ap (λ (z : List Chosen). (get_or z i c).node) is) (ap (λ (z : List Chosen). (get_or z i c).variable) is) (e ∙ ap (λ (z : List Chosen). fill (size_of (get_or z i c).size.now)) is) p

  pub filling_ends : (ds : List Chosen) (i : ℕ) → Filling ds i → length ds ≤ i → Filled cs fill ds
  filling_ends ds i f l m w t = sym (ap (λ z. chosen_or z m w (fill t)) all_taken) ∙ ap (λ z. chosen_or (take i ds) m w (fill (chosen_or z m w t))) (sym none_left) ∙ f.done m w t
    where
      none_left : drop i cs ≡ []
      none_left = drop_past cs i (omega (arith, f.many, l))

      all_taken : take i ds ≡ ds
      all_taken = take_all i ds l

pub ruleset filling = (filling_starts, filling_ends)
