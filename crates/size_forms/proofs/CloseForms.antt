-- The ends of lets in one another, one after another.
use Rattle.std.proofs.Common.{◌≡◌, ℕ, zero, suc, ◌+◌, ◌<◌, ◌≤◌, List, [], ◌∷◌, ◌++◌, true, length, get_or, drop, take, map, Result, Ok, Err, refl, sym, ap, ◌∙◌, subst, arith, add-one}
use Rattle.std.proofs.Math.Seq.{drop-cons}
use Rattle.std.specs.Borrow.{Bor}
use Rattle.fut_types.specs.Types.{Sub}
use Rattle.fut_typing.specs.Names.{Names}
use Rattle.sized_types.specs.Sizes.{Size}
use Rattle.fut_sizes.specs.Agreeing.{Answer, leaving}
use Rattle.fut_sizes.specs.Applications.{Part, all_settled, whole}
use Rattle.fut_sizes.specs.Functions as functions
use Rattle.fut_sizes.specs.Matching.{nothing_found, read}
use Rattle.fut_sizes.specs.Sizing.{finished}
use Rattle.fut_sizes.specs.Steps.{State, Step, give, ask, and_then, note}
use Rattle.size_slots.specs.declared.slots.Found.{Found}
use Rattle.size_slots.specs.declared.slots.Maker.{Maker}
use Rattle.size_slots.specs.Held.{Held, Holds, Fall, maker_of}
use Rattle.size_arena.specs.declared.agreeing.SizeErr.{SizeErr}
use Rattle.size_arena.specs.declared.trees.SizeTree.{SizeTree}
use Rattle.size_arena.specs.Answers.{Gives}
use Rattle.size_arena.specs.Answers as arena
use Rattle.size_arena.specs.Trees.{size_of}
use Rattle.size_arena.proofs.Parts.{drop_past}
use Rattle.size_program.specs.declared.tables.Tables.{Tables}
use Rattle.size_program.specs.Answers.{Answers, answers, refuses, no_memory, Steps}
use Rattle.size_program.proofs.StepLaws.{steps_then, steps_stop, ask_then, ask_stop, given, same_step, weaker, stopped}
use Rattle.size_forms.specs.declared.lets.Ending.{Ending}
use Rattle.size_forms.specs.Lets.{closed, all_closed}
use Rattle.size_forms.specs.Shown.{end_of, tree_is, whole_part}
use Rattle.size_forms.proofs.LetLaws.{closed_split}
use Rattle.size_forms.proofs.OpenedLaws.{whole_finished}

-- an answer on trees, as answers go here
pub given_answer : (a : Answer Size) (r : Result (Bor SizeTree) SizeErr) → Gives a r → Answers tree_is a r
given_answer a r (arena.gives {t = t} e) = answers e refl
given_answer a r (arena.refuses {e = x} e) = refuses e
given_answer a r arena.no_memory = no_memory

-- ---- a part that is applied to nothing

pub nothing_held : (table : Found) → Holds table nothing_found → Held table
nothing_held table h = (nothing_found, h)

pub held_falls : (table : Found) → Held table → Fall table.slots
held_falls table (σ, h) = h.fall

module _ (N : Names) (types : Sub) (n : ℕ) (t settled made : Bor SizeTree) (f g : Tables) (table : Found) (makers : List Maker) (same : makers ≡ table.makers) (held : Holds table (all_settled (size_of t.now) nothing_found)) (r : size_of settled.now ≡ read (all_settled (size_of t.now) nothing_found) (size_of t.now)) (c : size_of made.now ≡ functions.closed true (maker_of makers) (size_of settled.now)) where
  noted_so : (s : State) → note n (size_of made.now) s ≡ finished N types n (whole (size_of t.now)) s
  noted_so s = ap (λ z. note n z s) (c ∙ ap (λ z. functions.closed true (maker_of z) (size_of settled.now)) same ∙ ap (λ (z : ℕ → ℕ). functions.closed true z (size_of settled.now)) (sym held.makers) ∙ ap (functions.closed true (all_settled (size_of t.now) nothing_found).maker) r) ∙ sym (whole_finished N types n (size_of t.now) s)

  pub finish_done : (u : Unit {0}) → Steps (λ (u : Unit {0}) (y : Size). y ≡ size_of made.now) (note n (size_of made.now)) f g (Ok u) → Steps tree_is (finished N types n (whole (size_of t.now))) f g (Ok made)
  finish_done u noted = same_step tree_is (note n (size_of made.now)) (finished N types n (whole (size_of t.now))) f g (Ok made) noted_so (weaker (λ (u : Unit {0}) (y : Size). y ≡ size_of made.now) tree_is (note n (size_of made.now)) f g (Ok u) u made refl (λ y e. e) noted)

  pub finish_stops : (x : SizeErr) → Steps (λ (u : Unit {0}) (y : Size). y ≡ size_of made.now) (note n (size_of made.now)) f g (Err x) → Steps tree_is (finished N types n (whole (size_of t.now))) f g (Err x)
  finish_stops x noted = same_step tree_is (note n (size_of made.now)) (finished N types n (whole (size_of t.now))) f g (Err x) noted_so (stopped (λ (u : Unit {0}) (y : Size). y ≡ size_of made.now) tree_is (note n (size_of made.now)) f g (Err x) x refl noted)

-- ---- ends, the innermost first

-- those from the k-th on have ended, and this is what has left them
pub record Closed_to (xs : List Ending) (first : Size) (f : Tables) (k : ℕ) (t : Bor SizeTree) (g : Tables) : Type 0 where
  pub short : k ≤ length xs
  pub goes : (N : Names) (types : Sub) → Steps whole_part (all_closed types (map end_of (drop k xs)) (whole first) N) f g (Ok t)

pub none_closed : (xs : List Ending) (f : Tables) (k : ℕ) (t : Bor SizeTree) → k ≡ length xs → Closed_to xs (size_of t.now) f k t f
unfolding all_closed
none_closed xs f k t e = record {
  short = omega (arith, e);
  goes = λ N types. subst (λ (z : List Ending). Steps whole_part (all_closed types (map end_of z) (whole (size_of t.now)) N) f f (Ok t)) (sym (drop_past xs k (omega (arith, e)))) (given whole_part t (whole (size_of t.now)) f refl);
}

pub all_closed_so : (xs : List Ending) (first : Size) (f : Tables) (k : ℕ) (t : Bor SizeTree) (g : Tables) → Closed_to xs first f k t g → k ≤ 0 → (N : Names) (types : Sub) → Steps whole_part (all_closed types (map end_of xs) (whole first) N) f g (Ok t)
all_closed_so xs first f k t g so_far e N types = subst (λ z. Steps whole_part (all_closed types (map end_of (drop z xs)) (whole first) N) f g (Ok t)) none (so_far.goes N types)
  where
    none : k ≡ 0
    none = omega (arith, e)

module _ (xs : List Ending) (first : Size) (f : Tables) (j k : ℕ) (t : Bor SizeTree) (g h : Tables) (so_far : Closed_to xs first f j t g) (at : j ≡ k + 1) (x : Ending) where
  below : k < length xs
  below = let a = so_far.short in omega (arith, a, at)

  abbrev the_end : Ending
  the_end = get_or xs k x

  dropped : drop k xs ≡ the_end ∷ drop j xs
  dropped = drop-cons xs k x below ∙ ap (λ z. the_end ∷ drop z xs) (sym (at ∙ add-one k))

  abbrev behind : Names → Sub → Size → Step Part
  behind N types u = and_then (ask (leaving (end_of the_end).node (end_of the_end).names u)) (λ r. give (whole r))

  -- what is left of the ends, where the next one gives this
  next_so : (N : Names) (types : Sub) (h : Tables) (r : Result (Bor SizeTree) SizeErr) → Steps whole_part (closed types (end_of the_end) (whole (size_of t.now)) N) g h r → Steps whole_part (all_closed types (map end_of (drop k xs)) (whole first) N) f h r
  unfolding all_closed
  next_so N types h r one = subst (λ (z : List Ending). Steps whole_part (all_closed types (map end_of z) (whole first) N) f h r) (sym dropped)
      (steps_then whole_part whole_part (all_closed types (map end_of (drop j xs)) (whole first) N) (λ p. closed types (end_of the_end) p N) f g h (Ok t) t r refl (so_far.goes N types) (λ p e. subst (λ z. Steps whole_part (closed types (end_of the_end) z N) g h r) (sym e) one))

  -- the rest does not go on
  stops_so : (N : Names) (types : Sub) (h : Tables) (e : SizeErr) → Steps whole_part (closed types (end_of the_end) (whole (size_of t.now)) N) g h (Err e) → Steps whole_part (all_closed types (map end_of xs) (whole first) N) f h (Err e)
  stops_so N types h e one = same_step whole_part (and_then (all_closed types (map end_of (drop k xs)) (whole first) N) (λ q. all_closed types (map end_of (take k xs)) q N)) (all_closed types (map end_of xs) (whole first) N) f h (Err e)
      (λ s. sym (closed_split N types (map end_of (take k xs)) (map end_of (drop k xs)) (whole first) s) ∙ ap (λ z. all_closed types z (whole first) N s) joined)
      (steps_stop whole_part whole_part (all_closed types (map end_of (drop k xs)) (whole first) N) (λ q. all_closed types (map end_of (take k xs)) q N) f h h (Err e) e refl (next_so N types h (Err e) one))
    where
      parted : (ys : List Ending) (i : ℕ) → map end_of (take i ys) ++ map end_of (drop i ys) ≡ map end_of ys
      parted [] zero = refl
      parted [] (suc i) = refl
      parted (y ∷ ys) zero = refl
      parted (y ∷ ys) (suc i) = ap (λ z. end_of y ∷ z) (parted ys i)

      joined : map end_of (take k xs) ++ map end_of (drop k xs) ≡ map end_of xs
      joined = parted xs k

  pub unfinished : (e : SizeErr) → ((N : Names) (types : Sub) → Steps tree_is (finished N types the_end.inner (whole (size_of t.now))) g h (Err e)) → (N : Names) (types : Sub) → Steps whole_part (all_closed types (map end_of xs) (whole first) N) f h (Err e)
  unfinished e fin N types = stops_so N types h e (steps_stop tree_is whole_part (finished N types the_end.inner (whole (size_of t.now))) (behind N types) g h h (Err e) e refl (fin N types))

  module _ (w : Bor SizeTree) (fin : (N : Names) (types : Sub) → Steps tree_is (finished N types the_end.inner (whole (size_of t.now))) g h (Ok w)) where
    left_so : (N : Names) (types : Sub) (r : Result (Bor SizeTree) SizeErr) → Steps whole_part (behind N types (size_of w.now)) h h r → Steps whole_part (closed types (end_of the_end) (whole (size_of t.now)) N) g h r
    left_so N types r leaves = steps_then tree_is whole_part (finished N types the_end.inner (whole (size_of t.now))) (behind N types) g h h (Ok w) w r refl (fin N types) (λ y e. subst (λ z. Steps whole_part (behind N types z) h h r) (sym e) leaves)

    pub escapes : (e : SizeErr) → Gives (leaving (end_of the_end).node (end_of the_end).names (size_of w.now)) (Err e) → (N : Names) (types : Sub) → Steps whole_part (all_closed types (map end_of xs) (whole first) N) f h (Err e)
    escapes e leave N types = stops_so N types h e (left_so N types (Err e) (ask_stop tree_is whole_part (leaving the_end.node the_end.names.now (size_of w.now)) (λ r. give (whole r)) h h (Err e) e refl (given_answer _ (Err e) leave)))

    pub one_closed : (r : Bor SizeTree) → Gives (leaving (end_of the_end).node (end_of the_end).names (size_of w.now)) (Ok r) → Closed_to xs first f k r h
    one_closed r leave = record {
      short = let a = below in omega (arith, a);
      goes = λ N types. next_so N types h (Ok r) (left_so N types (Ok r) (ask_then tree_is whole_part (leaving the_end.node the_end.names.now (size_of w.now)) (λ r. give (whole r)) h h (Ok r) r (Ok r) refl (given_answer _ (Ok r) leave) (λ y e. given whole_part r (whole y) h (ap whole e))));
    }
