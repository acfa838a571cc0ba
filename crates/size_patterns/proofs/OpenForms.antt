-- Whether something is open in a sized type, form by form.
use Rattle.std.proofs.Common.{◌≡◌, ℕ, ◌+◌, ◌<◌, ◌≤◌, List, length, get_or, drop, Bool, true, false, cond, refl, sym, ap, ◌∙◌}
use Rattle.std.specs.Prelude.{◌||◌}
use Rattle.fut_types.specs.declared.Head.{Head}
use Rattle.fut_types.specs.Types.{Ty}
use Rattle.sized_types.specs.Sizes.{Dim, Variable, Size, Hole, Open, Level, Built, Fun, Sizes}
use Rattle.fut_sizes.specs.Sizing.{has_open_slot, is_open, some_open}
use Rattle.size_arena.specs.declared.trees.SizeTree.{SizeTree}
use Rattle.size_arena.specs.Trees.{size_of, sizes_of}
use Rattle.size_arena.proofs.Forms.{forms}
use Rattle.size_arena.proofs.Parts.{parts_at, parts_end}

or_cond : (a b : Bool) → (a || b) ≡ cond a true b
or_cond true b = refl
or_cond false b = refl

pub open_hole : (v : Variable) → false ≡ is_open (Hole v)
unfolding is_open
open_hole v = refl

pub open_open : (n : ℕ) (v : Variable) (u : Ty) → true ≡ is_open (Open n v u)
unfolding is_open
open_open n v u = refl

pub open_level : (d : Dim) (t : Size) → is_open (Level d t) ≡ cond (has_open_slot d) true (is_open t)
unfolding is_open
open_level d t = or_cond (has_open_slot d) (is_open t)

pub open_built : (h : Head) (ts : Sizes) → is_open (Built h ts) ≡ some_open ts
unfolding is_open some_open
open_built h ts = refl

pub open_fun : (k : ℕ) (p r : Size) → is_open (Fun k p r) ≡ cond (is_open p) true (is_open r)
unfolding is_open
open_fun k p r = or_cond (is_open p) (is_open r)

module _ (ts : List SizeTree) (i : ℕ) (t : SizeTree) where
  open_here : i < length ts → some_open (sizes_of (drop i ts)) ≡ cond (is_open (size_of (get_or ts i t))) true (some_open (sizes_of (drop (i + 1) ts)))
  unfolding is_open some_open
  open_here l = ap some_open (parts_at ts i t l) ∙ or_cond (is_open (size_of (get_or ts i t))) (some_open (sizes_of (drop (i + 1) ts)))

  pub opens_more : i < length ts → false ≡ is_open (size_of (get_or ts i t)) → some_open (sizes_of ts) ≡ some_open (sizes_of (drop i ts)) → some_open (sizes_of ts) ≡ some_open (sizes_of (drop (i + 1) ts))
  opens_more l h e = e ∙ open_here l ∙ ap (λ z. cond z true (some_open (sizes_of (drop (i + 1) ts)))) (sym h)

  pub opens_here : i < length ts → true ≡ is_open (size_of (get_or ts i t)) → some_open (sizes_of ts) ≡ some_open (sizes_of (drop i ts)) → true ≡ some_open (sizes_of ts)
  opens_here l h e = sym (e ∙ open_here l ∙ ap (λ z. cond z true (some_open (sizes_of (drop (i + 1) ts)))) (sym h))

module _ (ts : List SizeTree) (i : ℕ) where
  pub opens_end : length ts ≤ i → some_open (sizes_of ts) ≡ some_open (sizes_of (drop i ts)) → false ≡ some_open (sizes_of ts)
  unfolding is_open some_open
  opens_end l e = sym (e ∙ ap some_open (parts_end ts i l))

pub ruleset opens = (forms, open_hole, open_open, open_level, open_built, open_fun)

pub ruleset some_opens = (opens_more, opens_here, opens_end)
