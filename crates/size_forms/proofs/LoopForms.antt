-- What a loop counts or goes over, and its turns.
use Rattle.std.proofs.Common.{◌≡◌, ℕ, List, [], ◌∷◌, length, Some, None, Result, Ok, Err, refl, sym, ap, ◌∙◌, arith}
use Rattle.std.specs.Borrow.{Bor}
use Rattle.fut_types.specs.Types.{Sub}
use Rattle.fut_types.specs.declared.Head.{Head}
use Rattle.fut_typing.specs.Names.{Names}
use Rattle.sized_types.specs.Sizes.{Size}
use Rattle.fut_sizes.specs.Sizing.{differing, row_of}
use Rattle.fut_sizes.specs.Steps.{give, drop}
use Rattle.size_arena.specs.declared.agreeing.SizeErr.{SizeErr}
use Rattle.size_arena.specs.declared.agreeing.SizeErr.TheVariants as size_err
use Rattle.size_arena.specs.declared.dims.Dim.{Dim}
use Rattle.size_arena.specs.declared.dims.Variable.{Variable}
use Rattle.size_arena.specs.declared.trees.SizeTree.{SizeTree}
use Rattle.size_arena.specs.declared.trees.SizeTree.TheVariants as tree
use Rattle.size_arena.specs.declared.types.TypeTree.{TypeTree}
use Rattle.size_arena.specs.Trees.{size_of}
use Rattle.size_arena.proofs.Forms.{size_hole, size_open, size_level, size_built, size_fun}
use Rattle.size_program.specs.declared.tables.Tables.{Tables}
use Rattle.size_program.specs.Answers.{Steps}
use Rattle.size_program.proofs.StepLaws.{steps_then, steps_stop, given, out_of_memory}
use Rattle.size_forms.specs.Loops.{kept_or_dropped}
use Rattle.size_forms.specs.Shown.{turn_is}

-- ---- rows

module _ (t : Bor SizeTree) (N : Names) (types : Sub) where
  pub row_level : (height : ℕ) (d : Dim) (r : Bor SizeTree) → t.now ≡ tree.Level height d r → size_of r.now ≡ row_of N types (size_of t.now)
  row_level height d r is = sym (ap (λ z. row_of N types (size_of z)) is ∙ ap (row_of N types) (size_level height d r))

  pub row_hole : (v : Variable) → t.now ≡ tree.Hole v → size_of t.now ≡ row_of N types (size_of t.now)
  row_hole v is = let a = ap size_of is ∙ size_hole v in a ∙ sym (ap (row_of N types) a)

  pub row_open : (n : ℕ) (v : Variable) (u : Bor TypeTree) → t.now ≡ tree.Open n v u → size_of t.now ≡ row_of N types (size_of t.now)
  row_open n v u is = let a = ap size_of is ∙ size_open n v u in a ∙ sym (ap (row_of N types) a)

  pub row_built : (height : ℕ) (h : Head) (ts : Bor (List SizeTree)) → t.now ≡ tree.Built height h ts → size_of t.now ≡ row_of N types (size_of t.now)
  row_built height h ts is = let a = ap size_of is ∙ size_built height h ts in a ∙ sym (ap (row_of N types) a)

  pub row_fun : (height k : ℕ) (p r : Bor SizeTree) → t.now ≡ tree.Fun height k p r → size_of t.now ≡ row_of N types (size_of t.now)
  row_fun height k p r is = let a = ap size_of is ∙ size_fun height k p r in a ∙ sym (ap (row_of N types) a)

-- ---- the end of a turn

abbrev pub Unit_drop : ℕ → List ℕ → Tables → Tables → Result (Unit {0}) SizeErr → Type 0
Unit_drop n is f g r = Steps (λ (u y : Unit {0}). y ≡ u) (drop n is) f g r

-- what a turn dropped, as code has it
module _ (n : ℕ) (t : Bor SizeTree) (m : ℕ) (levels : List ℕ) (f : Tables) where
  pub turn_keeps : length levels ≡ 0 → Steps turn_is (kept_or_dropped n levels (size_of t.now)) f f (Ok (record { kept = Some t; next = m }))
  turn_keeps none = by_levels levels none
    where
      by_levels : (is : List ℕ) → length is ≡ 0 → Steps turn_is (kept_or_dropped n is (size_of t.now)) f f (Ok (record { kept = Some t; next = m }))
      by_levels [] e = given turn_is (record { kept = Some t; next = m }) (Some (size_of t.now)) f refl
      by_levels (i ∷ is) e = absurd (omega (arith, e))

  pub turn_drops : (g : Tables) (u : Unit {0}) → (length levels ≡ 0 → ⊥) → Unit_drop n levels f g (Ok u) → Steps turn_is (kept_or_dropped n levels (size_of t.now)) f g (Ok (record { kept = None; next = m }))
  turn_drops g u some dropped = by_levels levels some dropped
    where
      by_levels : (is : List ℕ) → (length is ≡ 0 → ⊥) → Unit_drop n is f g (Ok u) → Steps turn_is (kept_or_dropped n is (size_of t.now)) f g (Ok (record { kept = None; next = m }))
      by_levels [] e d = elim (e refl) [ ]
      by_levels (i ∷ is) e d = steps_then (λ (u y : Unit {0}). y ≡ u) turn_is (drop n (i ∷ is)) (λ z. give None) f g g (Ok u) u (Ok (record { kept = None; next = m })) refl d (λ y q. given turn_is (record { kept = None; next = m }) None g tt)

  pub turn_stops : (g : Tables) (x : SizeErr) → (length levels ≡ 0 → ⊥) → Unit_drop n levels f g (Err x) → Steps turn_is (kept_or_dropped n levels (size_of t.now)) f g (Err x)
  turn_stops g x some dropped = by_levels levels some dropped
    where
      by_levels : (is : List ℕ) → (length is ≡ 0 → ⊥) → Unit_drop n is f g (Err x) → Steps turn_is (kept_or_dropped n is (size_of t.now)) f g (Err x)
      by_levels [] e d = elim (e refl) [ ]
      by_levels (i ∷ is) e d = steps_stop (λ (u y : Unit {0}). y ≡ u) turn_is (drop n (i ∷ is)) (λ z. give None) f g g (Err x) x refl d

pub turn_memory : (n : ℕ) (levels : List ℕ) (t : Size) (f g : Tables) → Steps turn_is (kept_or_dropped n levels t) f g (Err size_err.Memory)
turn_memory n levels t f g = out_of_memory turn_is (kept_or_dropped n levels t) f g

module _ (n m : ℕ) (c : Bor SizeTree) (u : Size) (ds levels : List ℕ) (f g : Tables) (found : (N : Names) (types : Sub) → levels ≡ differing N types ds 0 (size_of c.now) u) where
  pub end_keeps : length levels ≡ 0 → (N : Names) (types : Sub) → Steps turn_is (kept_or_dropped n (differing N types ds 0 (size_of c.now) u) (size_of c.now)) f f (Ok (record { kept = Some c; next = m }))
  end_keeps none N types = rw (sym (found N types)) (turn_keeps n c m levels f none)

  pub end_drops : (w : Unit {0}) → (length levels ≡ 0 → ⊥) → Unit_drop n levels f g (Ok w) → (N : Names) (types : Sub) → Steps turn_is (kept_or_dropped n (differing N types ds 0 (size_of c.now) u) (size_of c.now)) f g (Ok (record { kept = None; next = m }))
  end_drops w some d N types = rw (sym (found N types)) (turn_drops n c m levels f g w some d)

  pub end_stops : (x : SizeErr) → (length levels ≡ 0 → ⊥) → Unit_drop n levels f g (Err x) → (N : Names) (types : Sub) → Steps turn_is (kept_or_dropped n (differing N types ds 0 (size_of c.now) u) (size_of c.now)) f g (Err x)
  end_stops x some d N types = rw (sym (found N types)) (turn_stops n c m levels f g x some d)

pub ruleset ends = (end_keeps, end_drops, end_stops, turn_memory)
