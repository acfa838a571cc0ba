-- Conditions, compositions, and lets with what stands behind them, from the answers for their parts.
use Rattle.std.proofs.Common.{◌≡◌, ℕ, zero, suc, ◌+◌, ◌-◌, Bool, false, true, List, [], ◌∷◌, ◌++◌, length, get_or, drop, take, map, Option, Some, Result, Ok, Err, IfOk, refl, sym, ap, ◌∙◌, subst, arith}
use Rattle.std.proofs.Math.Seq.{drop-cons}
use Rattle.std.proofs.lemmas.List.{take_rest}
use Rattle.std.specs.Borrow.{Bor}
use Rattle.fut_flat.specs.declared.exp.Let.{Let as LetTree}
use Rattle.fut_flat.specs.declared.exp.Loop.{Loop as LoopTree}
use Rattle.fut_flat.specs.declared.prim.Ref.{Ref}
use Rattle.fut_scalar.specs.declared.place.BindId.{BindId}
use Rattle.fut_flat.specs.Terms.{Binding, Bound_pattern, Counted, Let, Over, Record_pattern, Tuple_pattern, Typed_pattern, While, Wild_pattern}
use Rattle.fut_flat.specs.Numbers.{numbers, pattern_numbers, turn_numbers}
use Rattle.fut_flat.specs.Erased.{FlatPattern, FlatTerm, FlatTurns, Row, lets, pattern_of, term_of}
use Rattle.fut_flat.proofs.ErasedForms.{loop_of, row_of, turns_of}
use Rattle.fut_flat.proofs.ErasedForms as flat
use Rattle.fut_types.specs.Types.{Sub}
use Rattle.fut_typing.specs.Names.{Names}
use Rattle.sized_types.specs.Sizes.{Size}
use Rattle.fut_sizes.specs.Agreeing.{Answer, leaving, then_do}
use Rattle.fut_sizes.specs.Applications.{Argument, Met, Part, applied, whole}
use Rattle.fut_sizes.specs.Compositions.{composing, composition, without_two}
use Rattle.fut_sizes.specs.Functions.{size_names}
use Rattle.fut_sizes.specs.Matching.{none_opened, nothing_found}
use Rattle.fut_sizes.specs.Scopes.{Scope}
use Rattle.fut_sizes.specs.Sizing.{composition_met, finished, met_noted}
use Rattle.fut_sizes.specs.Steps.{State, Step, give, ask, and_then, note}
use Rattle.alias_parts.specs.Known.{Knows}
use Rattle.size_arena.specs.declared.agreeing.SizeErr.{SizeErr}
use Rattle.size_arena.specs.declared.trees.SizeTree.{SizeTree}
use Rattle.size_arena.specs.Answers as arena
use Rattle.size_arena.specs.Trees.{size_of}
use Rattle.size_arena.proofs.Parts.{drop_past}
use Rattle.size_program.specs.declared.maps.NumberMap.{NumberMap}
use Rattle.size_program.specs.declared.program.Program.{Program}
use Rattle.size_program.specs.declared.tables.Tables.{Tables}
use Rattle.size_program.specs.Answers.{Answers, answers, refuses, no_memory, Steps, Takes}
use Rattle.size_program.specs.Tables.{In_scope}
use Rattle.size_program.proofs.StepLaws.{ask_stop, ask_then, given, same_step, steps_stop, steps_then}
use Rattle.size_slots.specs.declared.slots.Found.{Found}
use Rattle.size_applying.specs.declared.arguments.Part as parts
use Rattle.size_applying.specs.declared.compositions.Composition.{Composition}
use Rattle.size_applying.specs.declared.going.Application.{Application}
use Rattle.size_applying.specs.Composed.{Composed, composes, composes_not}
use Rattle.size_applying.specs.Going.{Is_met}
use Rattle.size_applying.specs.Wanted.{Is_part}
use Rattle.size_forms.specs.declared.lets.Bound.{Bound}
use Rattle.size_forms.specs.declared.lets.Ending.{Ending}
use Rattle.size_forms.specs.declared.lets.Head.{Head}
use Rattle.size_forms.specs.declared.loops.Each as eachs
use Rattle.size_forms.specs.declared.walked.Given.{Given}
use Rattle.size_forms.specs.declared.walked.Walked.{Walked}
use Rattle.size_forms.specs.declared.walked.Whole.{Whole}
use Rattle.size_forms.specs.Compositions.{lambda_at, second_at}
use Rattle.size_forms.specs.Lets.{End, all_closed, behind_row, body_at, closed, head_entered, let_bound, let_opened, value_at}
use Rattle.size_forms.specs.Shown.{argument_is, bound_is, end_of, head_is, part_is, tree_is, whole_is, whole_part}
use Rattle.size_forms.specs.Walked.{argument_sized, part_sized, whole_sized}
use Rattle.size_forms.proofs.LetLaws.{closed_split, one_closed, row_numbers}
use Rattle.size_walk.specs.Walked.{composed_body, condition_going, each_end, nothing_is}
use Rattle.size_walk.proofs.TurnLaws.{test_stops, tested}
use Rattle.size_walk.proofs.Joining.{halted, reformed, retold}

-- ---- conditions

module _ (types : Sub) (p : Program) (names : NumberMap) (turns : FlatTurns) (c : FlatTerm) (is : turns ≡ While c) (at first : ℕ) (e : at ≡ each_end turns first) where
  while_first : at ≡ first
  while_first = e ∙ ap (λ z. each_end z first) is

  pub while_stops : (x : SizeErr) (f g h : Tables) → Takes whole_is p names (whole_sized types c [] at) f g (Err x) → Takes nothing_is p names (condition_going types turns first) f h (Err x)
  while_stops x f g h one = test_stops types p names turns first c is x f g h (subst (λ z. Takes whole_is p names (whole_sized types c [] z) f g (Err x)) while_first one)

  pub while_tested : (f g : Tables) (w : Whole) (next : ℕ) → Takes whole_is p names (whole_sized types c [] at) f g (Ok w) → Takes nothing_is p names (condition_going types turns first) f g (Ok next)
  while_tested f g w next one = tested types p names turns first c is f g w next (subst (λ z. Takes whole_is p names (whole_sized types c [] z) f g (Ok w)) while_first one)

  pub while_next : (next : ℕ) → next ≡ at + numbers c → next ≡ first + turn_numbers turns
  while_next next there = there ∙ ap (λ z. z + numbers c) while_first ∙ ap (λ z. first + turn_numbers z) (sym is)

pub counted_next : (turns : FlatTurns) (b : BindId) (c : FlatTerm) → turns ≡ Counted b c → (at first : ℕ) → at ≡ each_end turns first → at ≡ first + turn_numbers turns
counted_next turns b c is at first e = e ∙ ap (λ z. each_end z first) is ∙ ap (λ z. first + turn_numbers z) (sym is)

pub over_next : (turns : FlatTurns) (q : FlatPattern) (c : FlatTerm) → turns ≡ Over q c → (at first : ℕ) → at ≡ each_end turns first → at ≡ first + turn_numbers turns
over_next turns q c is at first e = e ∙ ap (λ z. each_end z first) is ∙ ap (λ z. first + turn_numbers z) (sym is)

pub each_there : (r : Result eachs.Each SizeErr) (i j k : ℕ) → IfOk r (λ (e : eachs.Each). e.next ≡ i) → i ≡ j → k ≡ j → IfOk r (λ (e : eachs.Each). e.next ≡ k)
each_there (Ok e) i j k there a b = there ∙ a ∙ sym b
each_there (Err x) i j k there a b = tt

pub loop_numbers : (l : LoopTree) → numbers (loop_of l) ≡ 1 + pattern_numbers (pattern_of l.pat) + numbers (term_of l.first) + turn_numbers (turns_of l.form) + numbers (term_of l.body)
loop_numbers l = ap numbers (flat.loop_is l)

-- ---- compositions

module _ (N : Names) (types : Sub) (n : ℕ) (left_first : Bool) (k : ℕ) (f g : Argument) (t : Bor SizeTree) (is : size_of t.now ≡ composing left_first n (types (1 + k)) (types (4 + k)) (types (2 + k))) (table : Found) (a b : Tables) where
  abbrev applying_both : Size → Step Met
  applying_both u = applied n false (f ∷ g ∷ []) [] none_opened true u [] nothing_found

  abbrev noting_both : Met → Step Size
  noting_both m = met_noted N types n (record { size = m.size; found = m.found; later = without_two m.later; goes_on = m.goes_on })

  as_both : (h : Tables) (r : Result (Bor SizeTree) SizeErr) → Steps tree_is (and_then (applying_both (size_of t.now)) noting_both) a h r → Steps tree_is (composition_met N types n left_first f g k) a h r
  as_both h r x = subst (λ z. Steps tree_is (and_then (applying_both z) noting_both) a h r) is x

  pub both_stop : (x : SizeErr) (h : Tables) → Steps {B = Application} (Is_met table) (applying_both (size_of t.now)) a b (Err x) → Steps tree_is (composition_met N types n left_first f g k) a h (Err x)
  both_stop x h first = as_both h (Err x) (steps_stop (Is_met table) tree_is (applying_both (size_of t.now)) noting_both a b h (Err x) x refl first)

  pub both_met : (m : Application) (h : Tables) (r : Result (Bor SizeTree) SizeErr) → Steps (Is_met table) (applying_both (size_of t.now)) a b (Ok m) → ((y : Met) → Is_met table m y → Steps tree_is (noting_both y) b h r) → Steps tree_is (composition_met N types n left_first f g k) a h r
  both_met m h r first rest = as_both h r (steps_then (Is_met table) tree_is (applying_both (size_of t.now)) noting_both a b h (Ok m) m r refl first rest)

-- ---- the ends of lets

ending_answer : (a : Answer Size) (r : Result (Bor SizeTree) SizeErr) → arena.Gives a r → Answers tree_is a r
ending_answer a r (arena.gives {t = t} e) = answers e refl
ending_answer a r (arena.refuses {e = x} e) = refuses e
ending_answer a r arena.no_memory = no_memory

module _ (N : Names) (types : Sub) where
  pub none_closed : (xs : List Ending) → length xs ≡ 0 → (p : Part) (f : Tables) (q : parts.Part) → Is_part N types q p → Steps (Is_part N types) (all_closed types (map end_of xs) p N) f f (Ok q)
  unfolding all_closed
  none_closed [] e p f q so = given (Is_part N types) q p f so
  none_closed (x ∷ xs) e p f q so = cc

  module _ (xs : List Ending) (d : Ending) (k : ℕ) (last : k + 1 ≡ length xs) (p : Part) where
    abbrev the_last : Ending
    the_last = get_or xs k d

    abbrev outer : Part → Step Part
    outer q = all_closed types (map end_of (take k xs)) q N

    abbrev behind_last : Size → Step Part
    behind_last u = and_then (ask (leaving (end_of the_last).node (end_of the_last).names u)) (λ r. give (whole r))

    split : map end_of xs ≡ map end_of (take k xs) ++ end_of the_last ∷ []
    split = sym (parted xs k) ∙ ap (λ (z : List Ending). map end_of (take k xs) ++ map end_of z) (drop-cons xs k d (omega (arith, last)) ∙ ap (λ z. the_last ∷ z) (drop_past xs (suc k) (omega (arith, last))))
      where
        parted : (ys : List Ending) (i : ℕ) → map end_of (take i ys) ++ map end_of (drop i ys) ≡ map end_of ys
        parted [] zero = refl
        parted [] (suc i) = refl
        parted (y ∷ ys) zero = refl
        parted (y ∷ ys) (suc i) = ap (λ z. end_of y ∷ z) (parted ys i)

    closing_is : (s : State) → and_then (closed types (end_of the_last) p N) outer s ≡ all_closed types (map end_of xs) p N s
    closing_is s = sym (ap (λ z. all_closed types z p N s) split ∙ closed_split N types (map end_of (take k xs)) (end_of the_last ∷ []) p s ∙ ap (λ z. then_do z (λ d. outer d.result d.state)) (one_closed N types (end_of the_last) p s))

    module _ {D : Type 0} (R : D → Part → Type 0) (f g : Tables) where
      as_closing : (h : Tables) (r : Result D SizeErr) → Steps R (and_then (closed types (end_of the_last) p N) outer) f h r → Steps R (all_closed types (map end_of xs) p N) f h r
      as_closing h r x = same_step R (and_then (closed types (end_of the_last) p N) outer) (all_closed types (map end_of xs) p N) f h r closing_is x

      pub last_stops : (x : SizeErr) (h : Tables) → Steps tree_is (finished N types the_last.inner p) f g (Err x) → Steps R (all_closed types (map end_of xs) p N) f h (Err x)
      last_stops x h first = as_closing h (Err x) (steps_stop whole_part R (closed types (end_of the_last) p N) outer f h h (Err x) x refl (steps_stop tree_is whole_part (finished N types the_last.inner p) behind_last f g h (Err x) x refl first))

      module _ (w : Bor SizeTree) (first : Steps tree_is (finished N types the_last.inner p) f g (Ok w)) where
        last_then : (h : Tables) (r : Result (Bor SizeTree) SizeErr) → Steps whole_part (behind_last (size_of w.now)) g h r → Steps whole_part (closed types (end_of the_last) p N) f h r
        last_then h r rest = steps_then tree_is whole_part (finished N types the_last.inner p) behind_last f g h (Ok w) w r refl first (λ y e. subst (λ z. Steps whole_part (behind_last z) g h r) (sym e) rest)

        pub last_escapes : (x : SizeErr) (h : Tables) → arena.Gives (leaving (end_of the_last).node (end_of the_last).names (size_of w.now)) (Err x) → Steps R (all_closed types (map end_of xs) p N) f h (Err x)
        last_escapes x h leaves = as_closing h (Err x) (steps_stop whole_part R (closed types (end_of the_last) p N) outer f h h (Err x) x refl
            (last_then h (Err x) (ask_stop tree_is whole_part (leaving (end_of the_last).node (end_of the_last).names (size_of w.now)) (λ r. give (whole r)) g h (Err x) x refl (ending_answer _ (Err x) leaves))))

        module _ (t : Bor SizeTree) (leaves : arena.Gives (leaving (end_of the_last).node (end_of the_last).names (size_of w.now)) (Ok t)) where
          outer_then : (h : Tables) (r : Result D SizeErr) → Steps R (outer (whole (size_of t.now))) g h r → Steps R (all_closed types (map end_of xs) p N) f h r
          outer_then h r rest = as_closing h r (steps_then whole_part R (closed types (end_of the_last) p N) outer f g h (Ok t) t r refl
              (last_then g (Ok t) (ask_then tree_is whole_part (leaving (end_of the_last).node (end_of the_last).names (size_of w.now)) (λ r. give (whole r)) g g (Ok t) t (Ok t) refl (ending_answer _ (Ok t) leaves) (λ y e. given whole_part t (whole y) g (ap whole e))))
              (λ y e. subst (λ z. Steps R (outer z) g h r) (sym e) rest))

          pub outer_stops : (x : SizeErr) (h k' : Tables) → Steps whole_part (outer (whole (size_of t.now))) g h (Err x) → Steps R (all_closed types (map end_of xs) p N) f k' (Err x)
          outer_stops x h k' rest = outer_then k' (Err x) (halted whole_part R (outer (whole (size_of t.now))) g h x k' rest)

          pub outer_done : (o : Bor SizeTree) (q : D) (h : Tables) → ((y : Part) → y ≡ whole (size_of o.now) → R q y) → Steps whole_part (outer (whole (size_of t.now))) g h (Ok o) → Steps R (all_closed types (map end_of xs) p N) f h (Ok q)
          outer_done o q h shown rest = outer_then h (Ok q) (retold whole_part R (outer (whole (size_of t.now))) g h o q shown rest)

-- ---- one let

module _ (types : Sub) (p : Program) (names : NumberMap) (l : Row) (n : ℕ) (f : Tables) where
  abbrev bound_so : Names → Scope → Size → Step Scope
  bound_so N scope t = let_bound types l n t N scope

  abbrev valued : Names → Scope → Scope → Step Scope
  valued N scope inside = and_then (whole_sized types l.1 (size_names l.0.parameters) (value_at l n) N inside) (bound_so N scope)

  abbrev pub Headed : Result Head SizeErr → Type 0
  Headed r = (N : Names) (scope : Scope) → In_scope names scope → Answers head_is (head_entered types l n N scope) r

  pub heading_stops : (x : SizeErr) (h : Tables) → Headed (Err x) → Takes bound_is p names (let_opened types l n) f h (Err x)
  heading_stops x h first = record { takes = λ N scope knows within. ask_stop head_is (bound_is N) (head_entered types l n N scope) (valued N scope) f h (Err x) x refl (first N scope within) }

  module _ (hd : Head) (first : Headed (Ok hd)) (e : FlatTerm) (bs : List ℕ) (i : ℕ) (term : e ≡ l.1) (heads : bs ≡ size_names l.0.parameters) (at : i ≡ value_at l n) (g : Tables) where
    headed_then : (h : Tables) (r : Result Bound SizeErr) → ((N : Names) (scope : Scope) → Knows p.names N → In_scope names scope → (inside : Scope) → In_scope hd.names.now inside → Steps (bound_is N) (valued N scope inside) f h r) → Takes bound_is p names (let_opened types l n) f h r
    headed_then h r rest = record { takes = λ N scope knows within. ask_then head_is (bound_is N) (head_entered types l n N scope) (valued N scope) f h (Ok hd) hd r refl (first N scope within) (rest N scope knows within) }

    value_there : {r : Result Whole SizeErr} → Takes whole_is p hd.names.now (whole_sized types e bs i) f g r → (N : Names) → Knows p.names N → (inside : Scope) → In_scope hd.names.now inside → Steps (whole_is N) (whole_sized types l.1 (size_names l.0.parameters) (value_at l n) N inside) f g r
    value_there {r = r} second N knows inside in_inside = subst (λ z. Steps (whole_is N) (whole_sized types z (size_names l.0.parameters) (value_at l n) N inside) f g r) term
        (subst (λ z. Steps (whole_is N) (whole_sized types e z (value_at l n) N inside) f g r) heads (subst (λ z. Steps (whole_is N) (whole_sized types e bs z N inside) f g r) at (second.takes N inside knows in_inside)))

    pub value_stops : (x : SizeErr) (h : Tables) → Takes whole_is p hd.names.now (whole_sized types e bs i) f g (Err x) → Takes bound_is p names (let_opened types l n) f h (Err x)
    value_stops x h second = headed_then h (Err x) (λ N scope knows within inside in_inside. steps_stop (whole_is N) (bound_is N) (whole_sized types l.1 (size_names l.0.parameters) (value_at l n) N inside) (bound_so N scope) f g h (Err x) x refl (value_there second N knows inside in_inside))

    pub value_done : (w : Whole) (h : Tables) (r : Result Bound SizeErr) → Takes whole_is p hd.names.now (whole_sized types e bs i) f g (Ok w) → Takes bound_is p names (let_bound types l n (size_of w.size.now)) g h r → Takes bound_is p names (let_opened types l n) f h r
    value_done w h r second third = headed_then h r (λ N scope knows within inside in_inside. steps_then (whole_is N) (bound_is N) (whole_sized types l.1 (size_names l.0.parameters) (value_at l n) N inside) (bound_so N scope) f g h (Ok w) w r refl (value_there second N knows inside in_inside)
        (λ t same. subst (λ z. Steps (bound_is N) (bound_so N scope z) g h r) (sym same) (third.takes N scope knows within)))

pub value_term : (l : LetTree) → term_of l.value ≡ (row_of l).1
value_term l = sym (ap (λ (z : Row). z.1) (flat.row_is l))

pub value_ends : (l : LetTree) (n i next : ℕ) → i ≡ value_at (row_of l) n → next ≡ i + numbers (term_of l.value) → next ≡ body_at (row_of l) n
value_ends l n i next at there = there ∙ ap (λ z. z + numbers (term_of l.value)) at ∙ ap (λ z. value_at (row_of l) n + numbers z) (value_term l)

-- ---- what stands behind lets

pub lets_none : (ls : List LetTree) (e : FlatTerm) → length ls ≡ 0 → lets (map row_of ls) e ≡ e
unfolding lets
lets_none [] e none = refl
lets_none (l ∷ ls) e none = cc

pub lets_first : (ls : List LetTree) (d : LetTree) (e : FlatTerm) → (length ls ≡ 0 → ⊥) → lets (map row_of ls) e ≡ Let (row_of (get_or ls 0 d)).0 (row_of (get_or ls 0 d)).1 (lets (map row_of (drop 1 ls)) e)
unfolding lets
lets_first [] d e some = elim (some refl) [ ]
lets_first (l ∷ ls) d e some = refl

pub lets_split : (ls : List LetTree) (k : ℕ) (e : FlatTerm) → lets (map row_of (take k ls)) (lets (map row_of (drop k ls)) e) ≡ lets (map row_of ls) e
unfolding lets
lets_split [] zero e = refl
lets_split [] (suc k) e = refl
lets_split (l ∷ ls) zero e = refl
lets_split (l ∷ ls) (suc k) e = ap (Let (row_of l).0 (row_of l).1) (lets_split ls k e)

module _ (b : Binding Ref BindId) (e : FlatTerm) where
  pub composed_is : {o : Option Composition} → Composed (composition b e) e o → (c : Composition) → o ≡ Some c → e ≡ composed_body c
  composed_is (composes {c = x} said same) c is = same ∙ ap composed_body (some_same x c is)
    where
      some_same : (x y : Composition) → Some x ≡ Some y → x ≡ y
      some_same x y is = cc
  composed_is (composes_not none) c is = cc

  pub composed_says : {o : Option Composition} → Composed (composition b e) e o → (c : Composition) → o ≡ Some c → composition b (composed_body c) ≡ Some c.left_first
  composed_says (composes {c = x} said same) c is = subst (λ (z : Composition). composition b (composed_body z) ≡ Some z.left_first) (some_same x c is) (ap (composition b) (sym same) ∙ said)
    where
      some_same : (x y : Composition) → Some x ≡ Some y → x ≡ y
      some_same x y is = cc
  composed_says (composes_not none) c is = cc

pub while_ends : (turns : FlatTurns) (c : FlatTerm) (at : ℕ) → turns ≡ While c → at ≡ each_end turns at
while_ends turns c at is = sym (ap (λ z. each_end z at) is)

-- what is behind something is behind its parts
pub next_there : {A : Type 0} (of : A → ℕ) (r : Result A SizeErr) (i k : ℕ) → IfOk r (λ a. of a ≡ i) → i ≡ k → IfOk r (λ a. of a ≡ k)
next_there of (Ok a) i k there same = there ∙ same
next_there of (Err x) i k there same = tt

pub loop_ends : (l : LoopTree) (n i at next : ℕ) → i ≡ 1 + n + pattern_numbers (pattern_of l.pat) → at ≡ i + numbers (term_of l.first) → next ≡ at + turn_numbers (turns_of l.form) + numbers (term_of l.body) → next ≡ n + numbers (loop_of l)
loop_ends l n i at next value begin end = omega (arith, value, begin, end, loop_numbers l)

-- ---- the names of a composition's functions have one number each

abbrev with_pattern : Binding Ref BindId → FlatPattern → Binding Ref BindId
with_pattern b q = record { sizes = b.sizes; parameters = b.parameters; is_function = b.is_function; pattern = q }

left_name : (b : Binding Ref BindId) (q : FlatPattern) (e : FlatTerm) (x : Bool) → composition (with_pattern b q) e ≡ Some x → pattern_numbers q ≡ 1
left_name b (Bound_pattern f) e x is = refl
left_name b Wild_pattern e x is = cc
left_name b (Tuple_pattern ps) e x is = cc
left_name b (Record_pattern fs ps) e x is = cc
left_name b (Typed_pattern q t) e x is = cc

right_name : (b : Binding Ref BindId) (q : FlatPattern) (c : Binding Ref BindId) (r : FlatPattern) (w e : FlatTerm) (x : Bool) → composition (with_pattern b q) (Let (with_pattern c r) w e) ≡ Some x → pattern_numbers r ≡ 1
right_name b (Bound_pattern f) c (Bound_pattern g) w e x is = refl
right_name b (Bound_pattern f) c Wild_pattern w e x is = cc
right_name b (Bound_pattern f) c (Tuple_pattern ps) w e x is = cc
right_name b (Bound_pattern f) c (Record_pattern fs ps) w e x is = cc
right_name b (Bound_pattern f) c (Typed_pattern q t) w e x is = cc
right_name b Wild_pattern c r w e x is = cc
right_name b (Tuple_pattern ps) c r w e x is = cc
right_name b (Record_pattern fs ps) c r w e x is = cc
right_name b (Typed_pattern q t) c r w e x is = cc

module _ (l : LetTree) (c : Composition) (n i : ℕ) (first_at : i ≡ n + 2) where
  pub second_there : (next : ℕ) → next ≡ i + numbers (term_of l.value) → next ≡ second_at (row_of l) n
  second_there next there = let a = ap numbers (value_term l) in omega (arith, first_at, there, a)

  module _ (left_next j : ℕ) (there : left_next ≡ i + numbers (term_of l.value)) (value_at : j ≡ left_next + 2) where
    pub right_at : j ≡ 2 + second_at (row_of l) n
    right_at = let a = second_there left_next there in omega (arith, a, value_at)

    module _ (k : ℕ) (behind : k ≡ j + numbers (term_of c.second.now.value)) where
      pub lambda_there : k ≡ lambda_at (row_of l) (row_of c.second.now) n
      lambda_there = let a = right_at in let b = ap numbers (value_term c.second.now) in omega (arith, a, b, behind)

      pub composed_ends : composition (row_of l).0 (composed_body c) ≡ Some c.left_first → (next : ℕ) → next ≡ k + numbers (term_of c.lambda.now) → next ≡ n + numbers (Let (row_of l).0 (row_of l).1 (composed_body c))
      composed_ends is next end =
          let a = lambda_there in
          let one = left_name (row_of l).0 (row_of l).0.pattern (composed_body c) c.left_first is in
          let other = right_name (row_of l).0 (row_of l).0.pattern (row_of c.second.now).0 (row_of c.second.now).0.pattern (row_of c.second.now).1 (term_of c.lambda.now) c.left_first is in
          omega (arith, a, one, other, end)

pub value_given : (types : Sub) (p : Program) (names : NumberMap) (l : LetTree) (i : ℕ) (f g : Tables) (r : Result Given SizeErr) → Takes (argument_is types) p names (argument_sized types (term_of l.value) i) f g r → Takes (argument_is types) p names (argument_sized types (row_of l).1 i) f g r
value_given types p names l i f g r first = subst (λ z. Takes (argument_is types) p names (argument_sized types z i) f g r) (value_term l) first

-- a node is noted, and what is known there is a term
module _ (m n : ℕ) (same : m ≡ n) (t : Bor SizeTree) (g h : Tables) where
  abbrev noted_is : Unit {0} → Size → Type 0
  noted_is v y = y ≡ size_of t.now

  pub noted_stops : {D : Type 0} (R : D → Part → Type 0) (x : SizeErr) (k : Tables) → Steps {B = Unit {0}} noted_is (note m (size_of t.now)) g h (Err x) → Steps R (and_then (note n (size_of t.now)) (λ z. give (whole z))) g k (Err x)
  noted_stops R x k first = subst (λ z. Steps R (and_then (note z (size_of t.now)) (λ y. give (whole y))) g k (Err x)) same (steps_stop noted_is R (note m (size_of t.now)) (λ z. give (whole z)) g h k (Err x) x refl first)

  pub noted_done : (N : Names) (types : Sub) (w : Walked) (u : Unit {0}) → ((N : Names) (types : Sub) → Is_part N types w.part (whole (size_of t.now))) → Steps {B = Unit {0}} noted_is (note m (size_of t.now)) g h (Ok u) → Steps (part_is types N) (and_then (note n (size_of t.now)) (λ z. give (whole z))) g h (Ok w)
  noted_done N types w u part first = subst (λ z. Steps (part_is types N) (and_then (note z (size_of t.now)) (λ y. give (whole y))) g h (Ok w)) same
      (reformed noted_is (part_is types N) (note m (size_of t.now)) whole g h u w (λ y e. subst (λ z. Is_part N types w.part (whole z)) (sym e) (part N types)) first)

-- the code's slice of what is left of a row
pub rest_of : (ls : List LetTree) (k : ℕ) (e : FlatTerm) → lets (map row_of (take (length ls - k) (drop k ls))) e ≡ lets (map row_of (drop k ls)) e
rest_of ls k e = ap (λ (z : List LetTree). lets (map row_of z) e) (take_rest ls k)

pub lets_composed : (ls : List LetTree) (d : LetTree) (e : FlatTerm) → (length ls ≡ 0 → ⊥) → (c : Composition) → Composed (composition (row_of (get_or ls 0 d)).0 (lets (map row_of (take (length ls - 1) (drop 1 ls))) e)) (lets (map row_of (take (length ls - 1) (drop 1 ls))) e) (Some c)
    → lets (map row_of ls) e ≡ Let (row_of (get_or ls 0 d)).0 (row_of (get_or ls 0 d)).1 (composed_body c)
lets_composed ls d e some c said = lets_first ls d e some ∙ ap (Let (row_of (get_or ls 0 d)).0 (row_of (get_or ls 0 d)).1) (sym (rest_of ls 1 e) ∙ composed_is (row_of (get_or ls 0 d)).0 (lets (map row_of (take (length ls - 1) (drop 1 ls))) e) said c refl)

module _ (types : Sub) (p : Program) (names : NumberMap) {B : Type 0} (R : Names → B → Part → Type 0) (f g : Tables) (r : Result B SizeErr) where
  -- a row is one of its first lets and one of the others
  pub split_row : (ls : List LetTree) (k : ℕ) (e : FlatTerm) (bs : List ℕ) (n : ℕ) → Takes R p names (part_sized types (lets (map row_of (take k ls)) (lets (map row_of (drop k ls)) e)) bs n) f g r → Takes R p names (part_sized types (lets (map row_of ls) e) bs n) f g r
  split_row ls k e bs n x = subst (λ z. Takes R p names (part_sized types z bs n) f g r) (lets_split ls k e) x

  pub other_term : (d e : FlatTerm) → d ≡ e → (bs : List ℕ) (n : ℕ) → Takes R p names (part_sized types d bs n) f g r → Takes R p names (part_sized types e bs n) f g r
  other_term d e same bs n x = subst (λ z. Takes R p names (part_sized types z bs n) f g r) same x

  pub other_place : (d e : FlatTerm) (bs cs : List ℕ) (i j : ℕ) → d ≡ e → bs ≡ cs → i ≡ j → Takes R p names (part_sized types d bs i) f g r → Takes R p names (part_sized types e cs j) f g r
  other_place d e bs cs i j same heads at x = subst (λ z. Takes R p names (part_sized types z cs j) f g r) same (subst (λ z. Takes R p names (part_sized types d z j) f g r) heads (subst (λ z. Takes R p names (part_sized types d bs z) f g r) at x))

pub split_ends : (ls : List LetTree) (k : ℕ) (e : FlatTerm) (n i next : ℕ) → i ≡ behind_row (map row_of (take k ls)) n → next ≡ i + numbers (lets (map row_of (take (length ls - k) (drop k ls))) e) → next ≡ n + numbers (lets (map row_of ls) e)
split_ends ls k e n i next at there = there ∙ ap (λ z. i + numbers z) (rest_of ls k e) ∙ ap (λ z. z + numbers (lets (map row_of (drop k ls)) e)) at ∙ row_numbers (map row_of (take k ls)) (lets (map row_of (drop k ls)) e) n ∙ ap (λ z. n + numbers z) (lets_split ls k e)

-- the same ends
pub ends_there : (N : Names) (types : Sub) (xs ys : List End) → xs ≡ ys → (y : Part) (f g : Tables) (r : Result parts.Part SizeErr) → Steps (Is_part N types) (all_closed types xs y N) f g r → Steps (Is_part N types) (all_closed types ys y N) f g r
ends_there N types xs ys same y f g r x = subst (λ z. Steps (Is_part N types) (all_closed types z y N) f g r) same x
