-- Names that go out of scope, form by form.
use Rattle.std.proofs.Common.{◌≡◌, ℕ, suc, ◌+◌, ◌<◌, ◌≤◌, List, [], ◌∷◌, ◌++◌, length, get_or, drop, Bool, true, false, cond, Ok, Err, refl, sym, ap, ◌∙◌, add-one, eq-eqb, ne_eqb, lt-ltb, le-ltb}
use Rattle.std.proofs.Math.Seq.{drop-cons}
use Rattle.std.specs.Borrow.{Bor}
use Rattle.fut_types.specs.declared.Head.{Head}
use Rattle.fut_types.specs.Types.{Ty}
use Rattle.sized_types.specs.Sizes.{Name, Unknown, Slot, Dim, At, Bound, Variable, Size, Hole, Open, Level, Built, Fun, Sizes, size_and, replaced, all_replaced, renaming, has, some_has, takes, some_takes}
use Rattle.fut_sizes.specs.Agreeing.{is_among, left, leave, leaving, names_one}
use Rattle.fut_sizes.specs.Matching.{is_unknown, any_size}
use Rattle.size_arena.specs.declared.agreeing.Refusal.TheVariants as refusal
use Rattle.size_arena.specs.declared.agreeing.SizeErr.TheVariants as size_err
use Rattle.size_arena.specs.declared.trees.SizeTree.{SizeTree}
use Rattle.size_arena.specs.Answers.{Gives, gives, refuses, no_memory}
use Rattle.size_arena.specs.Trees.{size_of, sizes_of}
use Rattle.size_arena.proofs.Forms.{forms}
use Rattle.size_arena.proofs.Parts.{drop_past, parts_at, parts_end, before, before_more, before_none}

-- ---- names in a row

module _ (xs : List ℕ) (b i : ℕ) where
  pub among_more : i < length xs → (b ≡ get_or xs i 0 → ⊥) → is_among xs b ≡ is_among (drop i xs) b → is_among xs b ≡ is_among (drop (i + 1) xs) b
  among_more l h e = e ∙ ap (λ z. is_among z b) (drop-cons xs i 0 l) ∙ ap (λ z. cond z true (is_among (drop (suc i) xs) b)) (ne_eqb b (get_or xs i 0) h) ∙ rw add-one refl

pub ruleset among = (among_more)

-- ---- properties

pub is_unknown_of : (n i : ℕ) → true ≡ is_unknown (At (Unknown n i))
is_unknown_of n i = refl

-- ---- whether a size stands in a sized type

module _ (q : Dim → Bool) where
  pub has_hole : (v : Variable) → false ≡ has q (Hole v)
  unfolding has
  has_hole v = refl

  pub has_open : (n : ℕ) (v : Variable) (u : Ty) → false ≡ has q (Open n v u)
  unfolding has
  has_open n v u = refl

  pub has_level : (d : Dim) (t : Size) → has q (Level d t) ≡ cond (q d) true (has q t)
  unfolding has
  has_level d t = refl

  pub has_built : (h : Head) (ts : Sizes) → has q (Built h ts) ≡ some_has q ts
  unfolding has some_has
  has_built h ts = refl

  pub has_fun : (k : ℕ) (p r : Size) → has q (Fun k p r) ≡ cond (has q p) true (has q r)
  unfolding has
  has_fun k p r = refl

  pub takes_hole : (v : Variable) → false ≡ takes q (Hole v)
  unfolding takes
  takes_hole v = refl

  pub takes_open : (n : ℕ) (v : Variable) (u : Ty) → false ≡ takes q (Open n v u)
  unfolding takes
  takes_open n v u = refl

  pub takes_level : (d : Dim) (t : Size) → takes q (Level d t) ≡ takes q t
  unfolding takes
  takes_level d t = refl

  pub takes_built : (h : Head) (ts : Sizes) → takes q (Built h ts) ≡ some_takes q ts
  unfolding takes some_takes
  takes_built h ts = refl

  pub takes_fun : (k : ℕ) (p r : Size) → takes q (Fun k p r) ≡ cond (has q p) true (takes q r)
  unfolding takes
  takes_fun k p r = refl

  module _ (ts : List SizeTree) (i : ℕ) where
    pub some_more : (t : SizeTree) → i < length ts → false ≡ has q (size_of (get_or ts i t)) → some_has q (sizes_of ts) ≡ some_has q (sizes_of (drop i ts)) → some_has q (sizes_of ts) ≡ some_has q (sizes_of (drop (i + 1) ts))
    unfolding has some_has
    some_more t l h e = e ∙ ap (some_has q) (parts_at ts i t l) ∙ ap (λ z. cond z true (some_has q (sizes_of (drop (i + 1) ts)))) (sym h)

    pub some_here : (t : SizeTree) → i < length ts → true ≡ has q (size_of (get_or ts i t)) → some_has q (sizes_of ts) ≡ some_has q (sizes_of (drop i ts)) → true ≡ some_has q (sizes_of ts)
    unfolding has some_has
    some_here t l h e = sym (e ∙ ap (some_has q) (parts_at ts i t l) ∙ ap (λ z. cond z true (some_has q (sizes_of (drop (i + 1) ts)))) (sym h))

    pub some_end : length ts ≤ i → some_has q (sizes_of ts) ≡ some_has q (sizes_of (drop i ts)) → false ≡ some_has q (sizes_of ts)
    unfolding has some_has
    some_end l e = sym (e ∙ ap (some_has q) (parts_end ts i l))

    pub taken_more : (t : SizeTree) → i < length ts → false ≡ takes q (size_of (get_or ts i t)) → some_takes q (sizes_of ts) ≡ some_takes q (sizes_of (drop i ts)) → some_takes q (sizes_of ts) ≡ some_takes q (sizes_of (drop (i + 1) ts))
    unfolding takes some_takes
    taken_more t l h e = e ∙ ap (some_takes q) (parts_at ts i t l) ∙ ap (λ z. cond z true (some_takes q (sizes_of (drop (i + 1) ts)))) (sym h)

    pub taken_here : (t : SizeTree) → i < length ts → true ≡ takes q (size_of (get_or ts i t)) → some_takes q (sizes_of ts) ≡ some_takes q (sizes_of (drop i ts)) → true ≡ some_takes q (sizes_of ts)
    unfolding takes some_takes
    taken_here t l h e = sym (e ∙ ap (some_takes q) (parts_at ts i t l) ∙ ap (λ z. cond z true (some_takes q (sizes_of (drop (i + 1) ts)))) (sym h))

    pub taken_end : length ts ≤ i → some_takes q (sizes_of ts) ≡ some_takes q (sizes_of (drop i ts)) → false ≡ some_takes q (sizes_of ts)
    unfolding takes some_takes
    taken_end l e = sym (e ∙ ap (some_takes q) (parts_end ts i l))

pub ruleset has_forms = (forms, has_hole, has_open, has_level, has_built, has_fun)

pub ruleset some_has_forms = (some_more, some_here, some_end)

pub ruleset takes_forms = (forms, takes_hole, takes_open, takes_level, takes_built, takes_fun)

pub ruleset some_takes_forms = (taken_more, taken_here, taken_end)

-- ---- changes

module _ (xs : List ℕ) (b i : ℕ) where
  pub left_more : (n j k : ℕ) → i < length xs → (b ≡ get_or xs i 0 → ⊥) → k ≡ j + 1 → left n 0 xs b ≡ left n j (drop i xs) b → left n 0 xs b ≡ left n k (drop (i + 1) xs) b
  left_more n j k l h a e = e ∙ ap (λ z. left n j z b) (drop-cons xs i 0 l) ∙ ap (λ z. cond z (Unknown n j) (left n (suc j) (drop (suc i) xs) b)) (ne_eqb b (get_or xs i 0) h) ∙ rw (a, add-one j, add-one i) refl

  pub left_here : (n j : ℕ) → i < length xs → b ≡ get_or xs i 0 → left n 0 xs b ≡ left n j (drop i xs) b → Unknown n j ≡ left n 0 xs b
  left_here n j l h e = sym (e ∙ ap (λ z. left n j z b) (drop-cons xs i 0 l) ∙ ap (λ z. cond z (Unknown n j) (left n (suc j) (drop (suc i) xs) b)) (eq-eqb b (get_or xs i 0) h))

  pub left_end : (n j : ℕ) → length xs ≤ i → left n 0 xs b ≡ left n j (drop i xs) b → Name b ≡ left n 0 xs b
  left_end n j l e = sym (e ∙ ap (λ z. left n j z b) (drop_past xs i l))

module _ (j k i : ℕ) where
  pub any_near : k < j → Bound k i ≡ any_size j (Bound k i)
  any_near h = ap (λ z. cond z (Bound k i) (At (Slot i))) (sym (lt-ltb k j h))

  pub any_far : j ≤ k → At (Slot i) ≡ any_size j (Bound k i)
  any_far h = ap (λ z. cond z (Bound k i) (At (Slot i))) (sym (le-ltb k j h))

pub ruleset any = (any_near, any_far)

module _ (g : ℕ → Dim → Dim) (j : ℕ) where
  pub changed_hole : (v : Variable) → replaced g j (Hole v) ≡ Hole v
  unfolding replaced
  changed_hole v = refl

  pub changed_open : (n : ℕ) (v : Variable) (u : Ty) → replaced g j (Open n v u) ≡ Open n v u
  unfolding replaced
  changed_open n v u = refl

  pub changed_level : (d e : Dim) (t u w : Size) → e ≡ g j d → u ≡ replaced g j t → w ≡ Level e u → w ≡ replaced g j (Level d t)
  unfolding replaced
  changed_level d e t u w a b c = rw (c, b, a) refl

  pub changed_built : (h : Head) (ts us : Sizes) (w : Size) → us ≡ all_replaced g j ts → w ≡ Built h us → w ≡ replaced g j (Built h ts)
  unfolding replaced all_replaced
  changed_built h ts us w a b = b ∙ ap (Built h) a

  pub changed_fun : (k i : ℕ) (p r q s w : Size) → i ≡ j + 1 → q ≡ replaced g i p → s ≡ replaced g i r → w ≡ Fun k q s → w ≡ replaced g j (Fun k p r)
  unfolding replaced
  changed_fun k i p r q s w e a b c = rw (c, b, a, e, add-one) refl

  module _ (ts : List SizeTree) (i : ℕ) (made : List SizeTree) (h : all_replaced g j (sizes_of ts) ≡ before made (all_replaced g j (sizes_of (drop i ts)))) where
    pub changes_more : (t part : SizeTree) (more : List SizeTree) → i < length ts → size_of part ≡ replaced g j (size_of (get_or ts i t)) → more ≡ made ++ part ∷ []
        → all_replaced g j (sizes_of ts) ≡ before more (all_replaced g j (sizes_of (drop (i + 1) ts)))
    unfolding replaced all_replaced
    changes_more t part more l e b =
        h ∙ ap (before made) (ap (all_replaced g j) (parts_at ts i t l) ∙ ap (λ z. size_and z (all_replaced g j (sizes_of (drop (i + 1) ts)))) (sym e))
        ∙ sym (before_more made part (all_replaced g j (sizes_of (drop (i + 1) ts))))
        ∙ ap (λ z. before z (all_replaced g j (sizes_of (drop (i + 1) ts)))) (sym b)

    pub changes_end : length ts ≤ i → sizes_of made ≡ all_replaced g j (sizes_of ts)
    unfolding all_replaced
    changes_end l = sym (h ∙ ap (before made) (ap (all_replaced g j) (parts_end ts i l)) ∙ before_none made)

pub ruleset changes = (forms, changed_hole, changed_open, changed_level, changed_built, changed_fun)

pub ruleset all_changes = (changes_more, changes_end)

-- ---- the end of a scope

module _ (n : ℕ) (xs : List ℕ) (t : Size) where
  pub leaving_escapes : true ≡ takes (names_one xs) t → Gives (leaving n xs t) (Err (size_err.Refused (refusal.Escapes n)))
  unfolding leaving
  leaving_escapes h = refuses (rw (sym h) refl)

  pub leaving_ok : (made : Bor SizeTree) → false ≡ takes (names_one xs) t → size_of made.now ≡ replaced (renaming (leave n xs)) 0 t → Gives (leaving n xs t) (Ok made)
  unfolding leaving
  leaving_ok made h e = gives (rw (sym h, e) refl)

pub ruleset leaves = (leaving_escapes, leaving_ok, no_memory)
