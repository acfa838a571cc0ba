-- Sized types with their sizes read, form by form.
use Rattle.std.proofs.Common.{◌≡◌, ℕ, ◌+◌, ◌<◌, ◌≤◌, List, [], ◌∷◌, ◌++◌, length, get_or, drop, Some, None, Result, Ok, Err, refl, sym, ap, ◌∙◌, add-one}
use Rattle.std.specs.Prelude.{IfOk}
use Rattle.std.specs.Borrow.{Bor}
use Rattle.fut_scalar.specs.declared.memory.NoMemory.{NoMemory}
use Rattle.fut_types.specs.declared.Head.{Head}
use Rattle.fut_types.specs.Types.{Ty}
use Rattle.sized_types.specs.Sizes.{Free, Variable, size_and, renamed, Dim, At, Bound, Hole, Open, Level, Built, Fun, replaced, all_replaced, renaming}
use Rattle.fut_sizes.specs.Matching as matching
use Rattle.fut_sizes.specs.Matching.{found_size, found_dim, read, all_read}
use Rattle.size_arena.specs.declared.dims.Dim as dims
use Rattle.size_arena.specs.declared.dims.Free as frees
use Rattle.size_arena.specs.declared.dims.Variable as variables
use Rattle.size_arena.specs.declared.trees.SizeTree.{SizeTree}
use Rattle.size_arena.specs.declared.trees.SizeTree.TheVariants as form
use Rattle.size_arena.specs.declared.types.TypeTree.{TypeTree}
use Rattle.size_arena.specs.Trees.{free_of, dim_of, variable_of, type_of, size_of, sizes_of}
use Rattle.size_arena.proofs.Forms.{size_hole, size_open, size_level, size_built, size_fun}
use Rattle.size_arena.proofs.Parts.{parts_at, parts_end, before, before_more, before_none}
use Rattle.size_arena.proofs.ScopeForms.{changes_more, changes_end}
use Rattle.size_slots.specs.declared.slots.Found.{Found}
use Rattle.size_slots.specs.declared.slots.Chosen.{Chosen}
use Rattle.size_slots.specs.Held.{chosen_size, Choice, chosen, unchosen, Holds}

-- whatever substitution the tables hold
abbrev pub Always : Found → (matching.Found → ℕ → Type 0) → Type 0
Always f P = (σ : matching.Found) → Holds f σ → (j : ℕ) → P σ j

abbrev pub by : matching.Found → ℕ → Dim → Dim
by σ = renaming (found_size σ)

abbrev pub Tree_made : Type 0
Tree_made = Result (Bor SizeTree) NoMemory

module _ (f : Found) where
  pub read_at : (d x : frees.Free) → ((σ : matching.Found) → Holds f σ → free_of x ≡ found_size σ (free_of d)) → Always f (λ σ j. At (free_of x) ≡ by σ j (At (free_of d)))
  read_at d x h σ held j = ap At (h σ held)

  pub read_bound : (k i : ℕ) → Always f (λ σ j. Bound k i ≡ by σ j (Bound k i))
  read_bound k i σ held j = refl

  module _ (t : SizeTree) where
    pub hole_read : (v : variables.Variable) → t ≡ form.Hole v → Always f (λ σ j. size_of t ≡ replaced (by σ) j (size_of t))
    unfolding replaced
    hole_read v is σ held j = rw (is, size_hole) refl

    pub open_read : (n : ℕ) (v : variables.Variable) (u : Bor TypeTree) → t ≡ form.Open n v u → Always f (λ σ j. size_of t ≡ replaced (by σ) j (size_of t))
    unfolding replaced
    open_read n v u is σ held j = rw (is, size_open) refl

    pub level_read : (height : ℕ) (d x : dims.Dim) (r under : Bor SizeTree) (o : Tree_made) → t ≡ form.Level height d r → Always f (λ σ j. dim_of x ≡ by σ j (dim_of d)) → Always f (λ σ j. size_of under.now ≡ replaced (by σ) j (size_of r.now))
        → IfOk o (λ made. size_of made.now ≡ Level (dim_of x) (size_of under.now)) → Always f (λ σ j. IfOk o (λ made. size_of made.now ≡ replaced (by σ) j (size_of t)))
    unfolding replaced
    level_read height d x r under (Ok made) is p q e σ held j = e ∙ ap (λ z. Level z (size_of under.now)) (p σ held j) ∙ ap (Level (by σ j (dim_of d))) (q σ held j) ∙ sym (ap (replaced (by σ) j) (ap size_of is ∙ size_level height d r))
    level_read height d x r under (Err z) is p q e σ held j = tt

    pub built_read : (height : ℕ) (h : Head) (ts us : Bor (List SizeTree)) (o : Tree_made) → t ≡ form.Built height h ts → Always f (λ σ j. sizes_of us.now ≡ all_replaced (by σ) j (sizes_of ts.now))
        → IfOk o (λ made. size_of made.now ≡ Built h (sizes_of us.now)) → Always f (λ σ j. IfOk o (λ made. size_of made.now ≡ replaced (by σ) j (size_of t)))
    unfolding replaced all_replaced
    built_read height h ts us (Ok made) is q e σ held j = e ∙ ap (Built h) (q σ held j) ∙ sym (ap (replaced (by σ) j) (ap size_of is ∙ size_built height h ts))
    built_read height h ts us (Err z) is q e σ held j = tt

    pub fun_read : (height k : ℕ) (p r q s : Bor SizeTree) (o : Tree_made) → t ≡ form.Fun height k p r → Always f (λ σ j. size_of q.now ≡ replaced (by σ) j (size_of p.now)) → Always f (λ σ j. size_of s.now ≡ replaced (by σ) j (size_of r.now))
        → IfOk o (λ made. size_of made.now ≡ Fun k (size_of q.now) (size_of s.now)) → Always f (λ σ j. IfOk o (λ made. size_of made.now ≡ replaced (by σ) j (size_of t)))
    unfolding replaced
    fun_read height k p r q s (Ok made) is a b e σ held j = e ∙ ap (λ z. Fun k z (size_of s.now)) (a σ held (j + 1)) ∙ ap (Fun k (replaced (by σ) (j + 1) (size_of p.now))) (b σ held (j + 1)) ∙ rw (is, size_fun, add-one) refl
    fun_read height k p r q s (Err z) is a b e σ held j = tt

  module _ (ts : List SizeTree) (i : ℕ) (made : List SizeTree) (h : Always f (λ σ j. all_replaced (by σ) j (sizes_of ts) ≡ before made (all_replaced (by σ) j (sizes_of (drop i ts))))) where
    pub parts_more : (t part : SizeTree) (more : List SizeTree) → i < length ts → Always f (λ σ j. size_of part ≡ replaced (by σ) j (size_of (get_or ts i t))) → more ≡ made ++ part ∷ []
        → Always f (λ σ j. all_replaced (by σ) j (sizes_of ts) ≡ before more (all_replaced (by σ) j (sizes_of (drop (i + 1) ts))))
    parts_more t part more l e b σ held j = changes_more (by σ) j ts i made (h σ held j) t part more l (e σ held j) b

    pub parts_over : length ts ≤ i → Always f (λ σ j. sizes_of made ≡ all_replaced (by σ) j (sizes_of ts))
    parts_over l σ held j = changes_end (by σ) j ts i made (h σ held j) l

pub ruleset dims_read = (read_at, read_bound)

-- ---- open variables stand for what they took too

-- whatever substitution the tables hold
abbrev pub Held_by : Found → (matching.Found → Type 0) → Type 0
Held_by f P = (σ : matching.Found) → Holds f σ → P σ

opened_stays : (ρ : Free → Free) (n : ℕ) (v : Variable) (u : Ty) → Open n v u ≡ renamed ρ (Open n v u)
unfolding replaced
opened_stays ρ n v u = refl

found_is : (σ : matching.Found) (d : Dim) → by σ 0 d ≡ found_dim σ 0 d
found_is σ (At d) = refl
found_is σ (Bound k i) = refl

module _ (f : Found) (t : SizeTree) where
  pub hole_whole : (v : variables.Variable) → t ≡ form.Hole v → Held_by f (λ σ. size_of t ≡ read σ (size_of t))
  unfolding read
  hole_whole v is σ held = rw (is, size_hole) refl

  module _ (n : ℕ) (v : variables.Variable) (u : Bor TypeTree) (cs : List Chosen) (is : t ≡ form.Open n v u) (same : cs ≡ f.chosen) where
    taken_is : (σ : matching.Found) → Holds f σ → renamed (found_size σ) (chosen_size cs n (variable_of v) (type_of u.now)) ≡ read σ (size_of t)
    unfolding read
    taken_is σ held = ap (λ z. renamed (found_size σ) (chosen_size z n (variable_of v) (type_of u.now))) same ∙ sym (held.types n (variable_of v) (type_of u.now)) ∙ sym (ap (read σ) (ap size_of is ∙ size_open n v u))

    pub open_whole : (s : Bor SizeTree) (o : Tree_made) → Choice cs n (variable_of v) (Some s) → Always f (λ σ j. IfOk o (λ made. size_of made.now ≡ replaced (by σ) j (size_of s.now))) → Held_by f (λ σ. IfOk o (λ made. size_of made.now ≡ read σ (size_of t)))
    open_whole s (Ok made) (chosen p) h σ held = h σ held 0 ∙ ap (renamed (found_size σ)) (sym (p (type_of u.now))) ∙ taken_is σ held
    open_whole s (Err x) c h σ held = tt

    pub still_open : Choice cs n (variable_of v) None → Held_by f (λ σ. size_of t ≡ read σ (size_of t))
    still_open (unchosen p) σ held = stays ∙ ap (renamed (found_size σ)) (sym (p (type_of u.now))) ∙ taken_is σ held
      where
        stays : size_of t ≡ renamed (found_size σ) (Open n (variable_of v) (type_of u.now))
        stays = ap size_of is ∙ size_open n v u ∙ opened_stays (found_size σ) n (variable_of v) (type_of u.now)

  pub level_whole : (height : ℕ) (d x : dims.Dim) (r under : Bor SizeTree) (o : Tree_made) → t ≡ form.Level height d r → Always f (λ σ j. dim_of x ≡ by σ j (dim_of d)) → Held_by f (λ σ. size_of under.now ≡ read σ (size_of r.now))
      → IfOk o (λ made. size_of made.now ≡ Level (dim_of x) (size_of under.now)) → Held_by f (λ σ. IfOk o (λ made. size_of made.now ≡ read σ (size_of t)))
  unfolding read
  level_whole height d x r under (Ok made) is p q e σ held =
      e ∙ ap (λ z. Level z (size_of under.now)) (p σ held 0 ∙ found_is σ (dim_of d)) ∙ ap (Level (found_dim σ 0 (dim_of d))) (q σ held) ∙ sym (ap (read σ) (ap size_of is ∙ size_level height d r))
  level_whole height d x r under (Err z) is p q e σ held = tt

  pub built_whole : (height : ℕ) (h : Head) (ts us : Bor (List SizeTree)) (o : Tree_made) → t ≡ form.Built height h ts → Held_by f (λ σ. sizes_of us.now ≡ all_read σ (sizes_of ts.now))
      → IfOk o (λ made. size_of made.now ≡ Built h (sizes_of us.now)) → Held_by f (λ σ. IfOk o (λ made. size_of made.now ≡ read σ (size_of t)))
  unfolding read all_read
  built_whole height h ts us (Ok made) is q e σ held = e ∙ ap (Built h) (q σ held) ∙ sym (ap (read σ) (ap size_of is ∙ size_built height h ts))
  built_whole height h ts us (Err z) is q e σ held = tt

  pub fun_whole : (height k : ℕ) (p r q s : Bor SizeTree) (o : Tree_made) → t ≡ form.Fun height k p r → Held_by f (λ σ. size_of q.now ≡ read σ (size_of p.now)) → Held_by f (λ σ. size_of s.now ≡ read σ (size_of r.now))
      → IfOk o (λ made. size_of made.now ≡ Fun k (size_of q.now) (size_of s.now)) → Held_by f (λ σ. IfOk o (λ made. size_of made.now ≡ read σ (size_of t)))
  unfolding read
  fun_whole height k p r q s (Ok made) is a b e σ held = e ∙ ap (λ z. Fun k z (size_of s.now)) (a σ held) ∙ ap (Fun k (read σ (size_of p.now))) (b σ held) ∙ sym (ap (read σ) (ap size_of is ∙ size_fun height k p r))
  fun_whole height k p r q s (Err z) is a b e σ held = tt

module _ (f : Found) (ts : List SizeTree) (i : ℕ) (made : List SizeTree) (h : Held_by f (λ σ. all_read σ (sizes_of ts) ≡ before made (all_read σ (sizes_of (drop i ts))))) where
  pub wholes_more : (t part : SizeTree) (more : List SizeTree) → i < length ts → Held_by f (λ σ. size_of part ≡ read σ (size_of (get_or ts i t))) → more ≡ made ++ part ∷ []
      → Held_by f (λ σ. all_read σ (sizes_of ts) ≡ before more (all_read σ (sizes_of (drop (i + 1) ts))))
  unfolding read all_read
  wholes_more t part more l e b σ held =
      h σ held ∙ ap (before made) (ap (all_read σ) (parts_at ts i t l) ∙ ap (λ z. size_and z (all_read σ (sizes_of (drop (i + 1) ts)))) (sym (e σ held)))
      ∙ sym (before_more made part (all_read σ (sizes_of (drop (i + 1) ts)))) ∙ ap (λ z. before z (all_read σ (sizes_of (drop (i + 1) ts)))) (sym b)

  pub wholes_over : length ts ≤ i → Held_by f (λ σ. sizes_of made ≡ all_read σ (sizes_of ts))
  unfolding all_read
  wholes_over l σ held = sym (h σ held ∙ ap (before made) (ap (all_read σ) (parts_end ts i l)) ∙ before_none made)
