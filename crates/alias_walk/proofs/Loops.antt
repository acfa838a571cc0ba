-- What each return of the walk over a loop answers, given what was answered for its parts.
use Rattle.std.proofs.Common.{◌≡◌, ℕ, ◌+◌, Bool, true, false, List, [], ◌∷◌, ◌++◌, length, Option, Some, None, Result, Ok, Err, refl, sym, ap, ◌∙◌, subst, arith}
use Rattle.std.specs.Borrow.{Bor}
use Rattle.fut_flat.specs.Erased.{FlatPattern, FlatTerm, FlatTurns, pattern_of, term_of}
use Rattle.fut_flat.specs.Numbers.{numbers, pattern_numbers, turn_numbers}
use Rattle.fut_flat.specs.Terms.{Counted, Loop, Over, While}
use Rattle.fut_flat.specs.declared.exp.Loop.{Loop as LoopTree}
use Rattle.fut_flat.proofs.ErasedForms.{loop_is as tree_is, loop_of, turns_of}
use Rattle.fut_scalar.specs.declared.place.BindId.{BindId}
use Rattle.fut_typing.specs.Names.{Names}
use Rattle.fut_aliases.specs.Aliases.{Set, first_name_alone}
use Rattle.fut_aliases.specs.Calls as definition
use Rattle.fut_aliases.specs.Calls.{Here}
use Rattle.fut_aliases.specs.Capturing.{or_name, some_name, turns_name}
use Rattle.fut_aliases.specs.Looking.{Flow, Going, carried_by, carried_scope, condition_looked, flowing, looked_again, turn_here, turns_looked, whole}
use Rattle.fut_aliases.specs.Loops.{Carried, enter, leave, over_all_turns, results}
use Rattle.fut_aliases.specs.Patterns.{Scope, bound, with_value}
use Rattle.fut_aliases.specs.Stars.{Stars}
use Rattle.fut_aliases.specs.Steps.{Losses, Step, and_then, behind, give, lose_all}
use Rattle.fut_aliases.specs.Values.{Value, aliases, components, having, of_type}
use Rattle.fut_aliases.specs.declared.refusals.Named.{Named}
use Rattle.fut_aliases.specs.declared.refusals.Named.TheVariants.{AFunction}
use Rattle.alias_applications.specs.Shown.{shown_value}
use Rattle.alias_loops.specs.Carried.{carrieds_of}
use Rattle.alias_values.specs.declared.trees.ValueTree.{ValueTree}
use Rattle.alias_values.specs.Trees.{value_of}
use Rattle.uniqueness.specs.Answers.{Grows, Stepped, stepped}
use Rattle.uniqueness.specs.declared.held.Stop.{Stop}
use Rattle.uniqueness.specs.Held.{held_of}
use Rattle.uniqueness.proofs.Growing.{lose_all_grows}
use Rattle.alias_forms.specs.declared.loops.GoneOver.{GoneOver}
use Rattle.alias_forms.specs.declared.loops.LoopFlow.{LoopFlow}
use Rattle.alias_forms.specs.declared.loops.Passed.{Passed}
use Rattle.alias_forms.specs.declared.loops.Turn.{Turn}
use Rattle.alias_forms.specs.declared.seen.Found.{Found}
use Rattle.alias_forms.specs.declared.seen.Seen.{Seen}
use Rattle.alias_forms.specs.declared.seen.Site.{Site}
use Rattle.alias_forms.specs.Loops.{GoingEnds, PassedEnds, brings, flow_shown, going_of, turn_shown}
use Rattle.alias_forms.specs.Seen.{Names_in, held_found, part_seen}
use Rattle.alias_forms.specs.Turns.{flow_looked, turn_again, turn_looked, turned_looked}
use Rattle.alias_forms.specs.Walked.{here_at, kinds_at, look, look_alone, types_at}
use Rattle.alias_forms.proofs.Binding.{bind_ok, bind_stop, from_here, given, grew, reshown, restopped, reworded}
use Rattle.alias_forms.proofs.BranchForms.{joined_is}
use Rattle.alias_forms.proofs.LoopForms.{again_is, loop_is, turned_is}

behind_grown : (ls q : Losses) → behind (length ls) (ls ++ q) ≡ q
behind_grown [] q = refl
behind_grown (l ∷ ls) q = behind_grown ls q

module _ (N : Names) (s : Site) where
  -- ---- the whole loop

  module _ (W : LoopTree) (lo node at : ℕ) (w : Option Stars) (q : node ≡ 1 + lo + pattern_numbers (pattern_of W.pat)) (r : at ≡ node + numbers (term_of W.first)) where
    abbrev as_whole : Value → Step definition.Part
    as_whole v = whole first_name_alone N (kinds_at s) (types_at s) (loop_of W) lo v

    abbrev carries : definition.Held → Flow first_name_alone N (kinds_at s) (types_at s) → List Carried
    carries a flow = carried_by first_name_alone N (kinds_at s) (types_at s) (pattern_of W.pat) (1 + lo) (term_of W.first) node a flow

    abbrev turned_at : definition.Held → Going first_name_alone N (kinds_at s) (types_at s) → Flow first_name_alone N (kinds_at s) (types_at s) → List Carried → Step Value
    turned_at a going flow cs = turned_looked first_name_alone N (kinds_at s) (types_at s) (here_at s) (pattern_of W.pat) (turns_of W.form) (term_of W.body) at lo a going flow cs

    abbrev turned_then : definition.Held → Going first_name_alone N (kinds_at s) (types_at s) → Flow first_name_alone N (kinds_at s) (types_at s) → Step definition.Part
    turned_then a going flow = and_then (turned_at a going flow (carries a flow)) as_whole

    abbrev flow_at : Going first_name_alone N (kinds_at s) (types_at s) → Step (Flow first_name_alone N (kinds_at s) (types_at s))
    flow_at going = flow_looked first_name_alone N (kinds_at s) (types_at s) (here_at s) (pattern_of W.pat) (turns_of W.form) (term_of W.body) at lo going

    abbrev flow_then : definition.Held → Going first_name_alone N (kinds_at s) (types_at s) → Step definition.Part
    flow_then a going = and_then (flow_at going) (turned_then a going)

    abbrev going_at : Step (Going first_name_alone N (kinds_at s) (types_at s))
    going_at = turns_looked first_name_alone N (kinds_at s) (types_at s) (turns_of W.form) at (here_at s)

    abbrev going_then : definition.Held → Step definition.Part
    going_then a = and_then going_at (flow_then a)

    loop_step : look N s (loop_of W) lo w ≡ and_then (look_alone N s (term_of W.first) node None) going_then
    loop_step = subst (λ (e : FlatTerm). look N s e lo w ≡ and_then (look_alone N s (term_of W.first) node None) (λ a. and_then going_at (λ going. and_then (flow_at going) (λ flow. and_then (turned_at a going flow (carries a flow)) (λ v. whole first_name_alone N (kinds_at s) (types_at s) e lo v)))))
        (sym (tree_is W)) (loop_is first_name_alone N (kinds_at s) (types_at s) W.mark W.sizes.now (pattern_of W.pat) (term_of W.first) (turns_of W.form) (term_of W.body) lo node at (here_at s) w q r)

    as_loop : {e : Result Seen Stop} {old new : Losses} → Stepped part_seen (and_then (look_alone N s (term_of W.first) node None) going_then) old new e → Stepped part_seen (look N s (loop_of W) lo w) old new e
    as_loop x = reworded loop_step x

    pub loop_first_stops : {stop : Stop} {old mid new : Losses} → Stepped held_found (look_alone N s (term_of W.first) node None) old mid (Err stop) → Stepped part_seen (look N s (loop_of W) lo w) old new (Err stop)
    loop_first_stops x = as_loop (bind_stop going_then x)

    module _ {old l1 : Losses} (a : Found) (first : Stepped held_found (look_alone N s (term_of W.first) node None) old l1 (Ok a)) where
      pub going_stops : {stop : Stop} {end new : Losses} → Stepped (going_of N (kinds_at s) (types_at s) (turns_of W.form) at) going_at l1 end (Err stop) → Stepped part_seen (look N s (loop_of W) lo w) old new (Err stop)
      going_stops x = as_loop (bind_ok going_then first (bind_stop (flow_then (held_found a)) x))

      module _ {l2 : Losses} (g : GoneOver) (going : Stepped (going_of N (kinds_at s) (types_at s) (turns_of W.form) at) going_at l1 l2 (Ok g)) where
        abbrev over : Going first_name_alone N (kinds_at s) (types_at s)
        over = going_of N (kinds_at s) (types_at s) (turns_of W.form) at g

        pub flow_stops_at : {stop : Stop} {end new : Losses} → Stepped (flow_shown N (kinds_at s) (types_at s) l2) (flow_at over) l2 end (Err stop) → Stepped part_seen (look N s (loop_of W) lo w) old new (Err stop)
        flow_stops_at x = as_loop (bind_ok going_then first (bind_ok (flow_then (held_found a)) going (bind_stop (turned_then (held_found a) over) x)))

        module _ {l3 : Losses} (f : LoopFlow) (flow : Stepped (flow_shown N (kinds_at s) (types_at s) l2) (flow_at over) l2 l3 (Ok f)) (back : l3 ≡ l2) (carried : carrieds_of f.carried.now ≡ carries (held_found a) (flow_shown N (kinds_at s) (types_at s) l2 f)) where
          turned_as : turned_at (held_found a) over (flow_shown N (kinds_at s) (types_at s) l2 f) (carries (held_found a) (flow_shown N (kinds_at s) (types_at s) l2 f)) ≡ turned_at (held_found a) over (flow_shown N (kinds_at s) (types_at s) l3 f) (carrieds_of f.carried.now)
          turned_as = ap (turned_at (held_found a) over (flow_shown N (kinds_at s) (types_at s) l2 f)) (sym carried) ∙ ap (λ (z : Losses). turned_at (held_found a) over (flow_shown N (kinds_at s) (types_at s) z f) (carrieds_of f.carried.now)) (sym back)

          pub turned_stops : {stop : Stop} {end new : Losses} → Stepped shown_value (turned_at (held_found a) over (flow_shown N (kinds_at s) (types_at s) l3 f) (carrieds_of f.carried.now)) l3 end (Err stop) → Stepped part_seen (look N s (loop_of W) lo w) old new (Err stop)
          turned_stops x = as_loop (bind_ok going_then first (bind_ok (flow_then (held_found a)) going (bind_ok (turned_then (held_found a) over) flow (bind_stop as_whole (reworded turned_as x)))))

          pub loop_done : {v : Bor ValueTree} {new : Losses} {e : Result Seen Stop} → Stepped shown_value (turned_at (held_found a) over (flow_shown N (kinds_at s) (types_at s) l3 f) (carrieds_of f.carried.now)) l3 new (Ok v) → Stepped part_seen (as_whole (value_of v.now)) new new e → Stepped part_seen (look N s (loop_of W) lo w) old new e
          loop_done x y = as_loop (bind_ok going_then first (bind_ok (flow_then (held_found a)) going (bind_ok (turned_then (held_found a) over) flow (bind_ok as_whole (reworded turned_as x) y))))

  -- ---- what it goes over

  module _ (i : BindId) (m : FlatTerm) (at first : ℕ) (p : first ≡ at + 1) where
    abbrev counted_next : definition.Held → Step (Going first_name_alone N (kinds_at s) (types_at s))
    counted_next a = give (record { over = []; bring = with_value i.0 (of_type (kinds_at s) [] (types_at s at)) })

    counted_is : turns_looked first_name_alone N (kinds_at s) (types_at s) (Counted i m) at (here_at s) ≡ and_then (look_alone N s m first None) counted_next
    unfolding turns_looked
    counted_is = ap (λ n. and_then (look_alone N s m n None) counted_next) (omega (arith, p))

    pub count_stops : {stop : Stop} {old mid new : Losses} → Stepped held_found (look_alone N s m first None) old mid (Err stop) → Stepped (going_of N (kinds_at s) (types_at s) (Counted i m) at) (turns_looked first_name_alone N (kinds_at s) (types_at s) (Counted i m) at (here_at s)) old new (Err stop)
    count_stops x = reworded counted_is (bind_stop counted_next x)

    pub count_done : {old new : Losses} {f : Found} {set over : Set} {v : Bor ValueTree} {g : GoneOver} → Stepped held_found (look_alone N s m first None) old new (Ok f) → set ≡ [] → value_of v.now ≡ of_type (kinds_at s) set (types_at s at) → g.over.now ≡ over → over ≡ [] → g.element ≡ Some v
        → Stepped (going_of N (kinds_at s) (types_at s) (Counted i m) at) (turns_looked first_name_alone N (kinds_at s) (types_at s) (Counted i m) at (here_at s)) old new (Ok g)
    count_done {v = v} {g = g} x e k o n b = reworded counted_is (bind_ok counted_next x (given (ap (λ z. record { over = g.over.now; bring = brings N (types_at s) (Counted i m) at z }) b
        ∙ ap (λ (z : Value). record { over = g.over.now; bring = with_value i.0 z }) (k ∙ ap (λ (z : Set). of_type (kinds_at s) z (types_at s at)) e) ∙ ap (λ (z : Set). record { over = z; bring = with_value i.0 (of_type (kinds_at s) [] (types_at s at)) }) (o ∙ n))))

  module _ (p : FlatPattern) (e : FlatTerm) (at node : ℕ) (q : node ≡ at + pattern_numbers p) where
    abbrev over_next : definition.Held → Step (Going first_name_alone N (kinds_at s) (types_at s))
    over_next a = give (record { over = aliases a.value; bring = bound first_name_alone N (types_at s) false p at (of_type (kinds_at s) (aliases a.value) (types_at s at)) })

    over_is : turns_looked first_name_alone N (kinds_at s) (types_at s) (Over p e) at (here_at s) ≡ and_then (look_alone N s e node None) over_next
    unfolding turns_looked
    over_is = ap (λ n. and_then (look_alone N s e n None) over_next) (sym q)

    pub array_stops : {stop : Stop} {old mid new : Losses} → Stepped held_found (look_alone N s e node None) old mid (Err stop) → Stepped (going_of N (kinds_at s) (types_at s) (Over p e) at) (turns_looked first_name_alone N (kinds_at s) (types_at s) (Over p e) at (here_at s)) old new (Err stop)
    array_stops x = reworded over_is (bind_stop over_next x)

    pub array_done : {old new : Losses} {f : Found} {over : Set} {v : Bor ValueTree} {g : GoneOver} → Stepped held_found (look_alone N s e node None) old new (Ok f) → over ≡ aliases (value_of f.held.value.now) → value_of v.now ≡ of_type (kinds_at s) over (types_at s at) → g.over.now ≡ over → g.element ≡ Some v
        → Stepped (going_of N (kinds_at s) (types_at s) (Over p e) at) (turns_looked first_name_alone N (kinds_at s) (types_at s) (Over p e) at (here_at s)) old new (Ok g)
    array_done {over = over} {g = g} x a k o b = reworded over_is (bind_ok over_next x (given (ap (λ z. record { over = g.over.now; bring = brings N (types_at s) (Over p e) at z }) b
        ∙ ap (λ (z : Value). record { over = g.over.now; bring = bound first_name_alone N (types_at s) false p at z }) k
        ∙ ap (λ (z : Set). record { over = z; bring = bound first_name_alone N (types_at s) false p at (of_type (kinds_at s) over (types_at s at)) }) o
        ∙ ap (λ (z : Set). record { over = z; bring = bound first_name_alone N (types_at s) false p at (of_type (kinds_at s) z (types_at s at)) }) a)))

  pub while_done : {ls : Losses} (c : FlatTerm) (at : ℕ) {over : Set} {g : GoneOver} → g.over.now ≡ over → over ≡ [] → g.element ≡ None → Stepped (going_of N (kinds_at s) (types_at s) (While c) at) (turns_looked first_name_alone N (kinds_at s) (types_at s) (While c) at (here_at s)) ls ls (Ok g)
  unfolding turns_looked
  while_done c at {g = g} o n b = given (ap (λ z. record { over = g.over.now; bring = brings N (types_at s) (While c) at z }) b ∙ ap (λ (z : Set). record { over = z; bring = λ scope. scope }) (o ∙ n))

  -- ---- a turn

  module _ (turns : FlatTurns) (body : FlatTerm) (at node : ℕ) (q : node ≡ at + turn_numbers turns) where
    abbrev body_next : (Unit {0}) → Step definition.Held
    body_next z = look_alone N s body node None

    turn_is : turn_looked first_name_alone N (kinds_at s) (types_at s) turns body at (here_at s) ≡ and_then (condition_looked first_name_alone N (kinds_at s) (types_at s) turns at (here_at s)) body_next
    turn_is = ap (λ n. and_then (condition_looked first_name_alone N (kinds_at s) (types_at s) turns at (here_at s)) (λ z. look_alone N s body n None)) (sym q)

    module _ {old mid : Losses} {c : Passed} (passed : Stepped (λ p. tt) (condition_looked first_name_alone N (kinds_at s) (types_at s) turns at (here_at s)) old mid (Ok c)) where
      pub turn_body_stops : {stop : Stop} {end new : Losses} → Stepped held_found (look_alone N s body node None) mid end (Err stop) → Stepped turn_shown (turn_looked first_name_alone N (kinds_at s) (types_at s) turns body at (here_at s)) old new (Err stop)
      turn_body_stops x = reworded turn_is (bind_ok body_next passed (restopped x))

      pub turn_done : {f : Found} {t : Turn} {new : Losses} → Stepped held_found (look_alone N s body node None) mid new (Ok f) → t.held ≡ f.held → Stepped turn_shown (turn_looked first_name_alone N (kinds_at s) (types_at s) turns body at (here_at s)) old new (Ok t)
      turn_done x e = reworded turn_is (bind_ok body_next passed (reshown (ap held_of e) x))

  pub condition_stops : (turns : FlatTurns) (body : FlatTerm) (at : ℕ) {stop : Stop} {old mid new : Losses} → Stepped {B = Passed} (λ p. tt) (condition_looked first_name_alone N (kinds_at s) (types_at s) turns at (here_at s)) old mid (Err stop) → Stepped turn_shown (turn_looked first_name_alone N (kinds_at s) (types_at s) turns body at (here_at s)) old new (Err stop)
  condition_stops turns body at x = bind_stop (λ z. look_alone N s body (at + turn_numbers turns) None) x

  -- a turn in a place that is the same
  pub turn_there : (turns : FlatTurns) (body : FlatTerm) (at : ℕ) {h k : Here} {old new : Losses} {r : Result Turn Stop} → h ≡ k → Stepped turn_shown (turn_looked first_name_alone N (kinds_at s) (types_at s) turns body at h) old new r → Stepped turn_shown (turn_looked first_name_alone N (kinds_at s) (types_at s) turns body at k) old new r
  turn_there turns body at {old = old} {new = new} {r = r} e x = subst (λ (z : Here). Stepped turn_shown (turn_looked first_name_alone N (kinds_at s) (types_at s) turns body at z) old new r) e x

  -- ---- a condition

  module _ (c : FlatTerm) (at : ℕ) where
    abbrev tested_next : definition.Held → Step (Unit {0})
    tested_next a = give tt

    test_is : condition_looked first_name_alone N (kinds_at s) (types_at s) (While c) at (here_at s) ≡ and_then (look_alone N s c at None) tested_next
    unfolding condition_looked
    test_is = refl

    pub test_stops_at : {stop : Stop} {old mid new : Losses} → Stepped held_found (look_alone N s c at None) old mid (Err stop) → Stepped {B = Passed} (λ p. tt) (condition_looked first_name_alone N (kinds_at s) (types_at s) (While c) at (here_at s)) old new (Err stop)
    test_stops_at x = reworded test_is (bind_stop tested_next x)

    pub tested : {f : Found} {p : Passed} {old new : Losses} → Stepped held_found (look_alone N s c at None) old new (Ok f) → Stepped (λ (p : Passed). tt) (condition_looked first_name_alone N (kinds_at s) (types_at s) (While c) at (here_at s)) old new (Ok p)
    tested x = reworded test_is (bind_ok tested_next x (given refl))

  pub counted_passed : (i : BindId) (m : FlatTerm) (at : ℕ) {p : Passed} {ls : Losses} → Stepped (λ (p : Passed). tt) (condition_looked first_name_alone N (kinds_at s) (types_at s) (Counted i m) at (here_at s)) ls ls (Ok p)
  unfolding condition_looked
  counted_passed i m at = given refl

  pub over_passed : (q : FlatPattern) (m : FlatTerm) (at : ℕ) {p : Passed} {ls : Losses} → Stepped (λ (p : Passed). tt) (condition_looked first_name_alone N (kinds_at s) (types_at s) (Over q m) at (here_at s)) ls ls (Ok p)
  unfolding condition_looked
  over_passed q m at = given refl

  -- ---- inside a loop

  module _ (p : FlatPattern) (turns : FlatTurns) (at lo : ℕ) (g : GoneOver) (xs : List Set) {scope : Scope} (is : scope ≡ brings N (types_at s) turns at g.element (carried_scope first_name_alone N (kinds_at s) (types_at s) p (1 + lo) xs (here_at s).scope)) where
    pub flowing_is : record { scope = scope; fixed = (here_at s).fixed; loop_from = lo; function_from = (here_at s).function_from; asked = false } ≡ flowing (turn_here first_name_alone N (kinds_at s) (types_at s) (here_at s) p lo (going_of N (kinds_at s) (types_at s) turns at g) xs)
    flowing_is = ap (λ (z : Scope). record { scope = z; fixed = (here_at s).fixed; loop_from = lo; function_from = (here_at s).function_from; asked = false }) is

    pub asked_is : record { scope = scope; fixed = (here_at s).fixed; loop_from = lo; function_from = (here_at s).function_from; asked = (here_at s).asked } ≡ turn_here first_name_alone N (kinds_at s) (types_at s) (here_at s) p lo (going_of N (kinds_at s) (types_at s) turns at g) xs
    asked_is = ap (λ (z : Scope). record { scope = z; fixed = (here_at s).fixed; loop_from = lo; function_from = (here_at s).function_from; asked = (here_at s).asked }) is

  -- ---- the first look

  module _ (p : FlatPattern) (first : FlatTerm) (lo node : ℕ) (a : definition.Held) where
    pub carried_is : (turns : FlatTurns) (body : FlatTerm) (at : ℕ) (h : Here) {old mid : Losses} {before : ℕ} {t : Turn} (f : LoopFlow) → Stepped turn_shown (turn_looked first_name_alone N (kinds_at s) (types_at s) turns body at h) old mid (Ok t) → before ≡ length old → f.later.now ≡ behind before mid → f.value ≡ t.held.value
        → carried_by first_name_alone N (kinds_at s) (types_at s) p (1 + lo) first node a (record { value = value_of t.held.value.now; losses = mid }) ≡ carried_by first_name_alone N (kinds_at s) (types_at s) p (1 + lo) first node a (flow_shown N (kinds_at s) (types_at s) old f)
    carried_is turns body at h {old = old} {t = t} f x b l v = ap (λ (z : Losses). carried_by first_name_alone N (kinds_at s) (types_at s) p (1 + lo) first node a (record { value = value_of t.held.value.now; losses = z })) (sym (joined_is old (grew x) b l)) ∙ ap (λ (z : Bor ValueTree). carried_by first_name_alone N (kinds_at s) (types_at s) p (1 + lo) first node a (record { value = value_of z.now; losses = old ++ f.later.now })) (sym v)

  -- ---- the last look

  module _ (again : Step Value) {old new : Losses} (before : Losses) (f : LoopFlow) where
    flows_on : Grows before old → ((b flow : Losses) → Grows b old → Grows b flow → f.later.now ≡ behind (length b) flow → new ≡ lose_all flow old) → Stepped shown_value (looked_again first_name_alone N (kinds_at s) (types_at s) false (flow_shown N (kinds_at s) (types_at s) before f) again) old new (Ok f.value)
    flows_on g lost = stepped (ap (λ (z : Losses). Ok (record { result = value_of f.value.now; losses = z })) (sym new_is)) (subst (Grows old) (sym new_is) (lose_all_grows (before ++ f.later.now) old))
      where
        new_is : new ≡ lose_all (before ++ f.later.now) old
        new_is = lost before (before ++ f.later.now) g (f.later.now, refl) (sym (behind_grown before f.later.now))

  pub look_flows : (asked : Bool) (again : Step Value) {old new : Losses} (before : Losses) (f : LoopFlow) → asked ≡ false → Grows before old → ((b flow : Losses) → Grows b old → Grows b flow → f.later.now ≡ behind (length b) flow → new ≡ lose_all flow old) → Stepped shown_value (looked_again first_name_alone N (kinds_at s) (types_at s) asked (flow_shown N (kinds_at s) (types_at s) before f) again) old new (Ok f.value)
  look_flows asked again {old = old} {new = new} before f e g lost = subst (λ (z : Bool). Stepped shown_value (looked_again first_name_alone N (kinds_at s) (types_at s) z (flow_shown N (kinds_at s) (types_at s) before f) again) old new (Ok f.value)) (sym e) (flows_on again before f g lost)

  pub look_asked : (asked : Bool) (flow : Flow first_name_alone N (kinds_at s) (types_at s)) (again : Step Value) {old new : Losses} {r : Result (Bor ValueTree) Stop} → asked ≡ true → Stepped shown_value again old new r → Stepped shown_value (looked_again first_name_alone N (kinds_at s) (types_at s) asked flow again) old new r
  look_asked asked flow again {old = old} {new = new} {r = r} e x = subst (λ (z : Bool). Stepped shown_value (looked_again first_name_alone N (kinds_at s) (types_at s) z flow again) old new r) (sym e) x

  module _ (turns : FlatTurns) (body : FlatTerm) (at lo node : ℕ) (cs : List Carried) (inside : Here) (q : node ≡ at + turn_numbers turns) where
    abbrev left_next : definition.Held → Step Value
    left_next g = and_then (leave (here_at s) lo node cs (components g.value)) (λ x. give g.value)

    abbrev again_at : Step Value
    again_at = turn_again first_name_alone N (kinds_at s) (types_at s) (here_at s) turns body at lo cs inside

    abbrev a_turn : Step definition.Held
    a_turn = turn_looked first_name_alone N (kinds_at s) (types_at s) turns body at inside

    as_again : {old new : Losses} {r : Result (Bor ValueTree) Stop} → Stepped shown_value (and_then a_turn left_next) old new r → Stepped shown_value again_at old new r
    as_again {old = old} x = from_here (again_is first_name_alone N (kinds_at s) (types_at s) (here_at s) turns body at lo cs inside old ∙ ap (λ n. and_then a_turn (λ g. and_then (leave (here_at s) lo n cs (components g.value)) (λ x. give g.value)) old) (sym q)) x

    pub again_stops : {stop : Stop} {old mid new : Losses} → Stepped turn_shown a_turn old mid (Err stop) → Stepped shown_value again_at old new (Err stop)
    again_stops x = as_again (bind_stop left_next x)

    module _ {old mid : Losses} (t : Turn) (turn : Stepped turn_shown a_turn old mid (Ok t)) where
      pub leave_stops : {stop : Stop} {end new : Losses} → Stepped {B = (Unit {0})} (λ u. tt) (leave (here_at s) lo node cs (components (value_of t.held.value.now))) mid end (Err stop) → Stepped shown_value again_at old new (Err stop)
      leave_stops x = as_again (bind_ok left_next turn (bind_stop (λ (x : Unit {0}). give (value_of t.held.value.now)) x))

      pub again_done : {u : Unit {0}} → Stepped (λ u. tt) (leave (here_at s) lo node cs (components (value_of t.held.value.now))) mid mid (Ok u) → Stepped shown_value again_at old mid (Ok t.held.value)
      again_done x = as_again (bind_ok left_next turn (bind_ok (λ (x : Unit {0}). give (value_of t.held.value.now)) x (given refl)))

  -- ---- the turns

  module _ (p : FlatPattern) (turns : FlatTurns) (body : FlatTerm) (at lo node : ℕ) (a : definition.Held) (going : Going first_name_alone N (kinds_at s) (types_at s)) (flow : Flow first_name_alone N (kinds_at s) (types_at s)) (cs : List Carried) (q : node ≡ at + turn_numbers turns) where
    abbrev turned_step : Step Value
    turned_step = turned_looked first_name_alone N (kinds_at s) (types_at s) (here_at s) p turns body at lo a going flow cs

    abbrev last_look : List Set → Step Value
    last_look xs = looked_again first_name_alone N (kinds_at s) (types_at s) (here_at s).asked flow (turn_again first_name_alone N (kinds_at s) (types_at s) (here_at s) turns body at lo cs (turn_here first_name_alone N (kinds_at s) (types_at s) (here_at s) p lo going xs))

    abbrev valued : List Set → Value → Step Value
    valued xs v = give (having (results cs xs (components v)) v)

    abbrev entered_next : List Set → (Unit {0}) → Step Value
    entered_next xs z = and_then (last_look xs) (valued xs)

    as_turned : {xs : List Set} {old new : Losses} {r : Result (Bor ValueTree) Stop} → xs ≡ over_all_turns lo cs → Stepped shown_value (and_then (enter (here_at s) a going.over node cs) (entered_next xs)) old new r → Stepped shown_value turned_step old new r
    as_turned {old = old} {new = new} {r = r} e x = reworded (turned_is first_name_alone N (kinds_at s) (types_at s) (here_at s) p turns body at lo node a going flow cs q) (subst (λ (z : List Set). Stepped shown_value (and_then (enter (here_at s) a going.over node cs) (entered_next z)) old new r) e x)

    pub enter_stops : {stop : Stop} {old mid new : Losses} → Stepped {B = (Unit {0})} (λ u. tt) (enter (here_at s) a going.over node cs) old mid (Err stop) → Stepped shown_value turned_step old new (Err stop)
    enter_stops x = as_turned refl (bind_stop (entered_next (over_all_turns lo cs)) x)

    module _ {old mid : Losses} {u : Unit {0}} (entered : Stepped (λ u. tt) (enter (here_at s) a going.over node cs) old mid (Ok u)) {xs : List Set} (e : xs ≡ over_all_turns lo cs) where
      pub look_stops : {stop : Stop} {end new : Losses} → Stepped shown_value (last_look xs) mid end (Err stop) → Stepped shown_value turned_step old new (Err stop)
      look_stops x = as_turned e (bind_ok (entered_next xs) entered (bind_stop (valued xs) x))

      pub turned_done : {g v : Bor ValueTree} {new : Losses} → Stepped shown_value (last_look xs) mid new (Ok g) → value_of v.now ≡ having (results cs xs (components (value_of g.now))) (value_of g.now) → Stepped shown_value turned_step old new (Ok v)
      turned_done x k = as_turned e (bind_ok (entered_next xs) entered (bind_ok (valued xs) x (given k)))

-- ---- what is told of a loop beside its value

pub loop_named : (W : LoopTree) {a flow name : Option Named} → a ≡ some_name (term_of W.first) → flow ≡ or_name (turns_name (turns_of W.form)) (some_name (term_of W.body)) → name ≡ or_name a flow → Names_in (loop_of W) AFunction name
unfolding some_name
loop_named W {a = a} {name = name} p q n = subst (λ (e : FlatTerm). Names_in e AFunction name) (sym (tree_is W)) (by_form p q n)
  where
    by_form : {a flow name : Option Named} → a ≡ some_name (term_of W.first) → flow ≡ or_name (turns_name (turns_of W.form)) (some_name (term_of W.body)) → name ≡ or_name a flow → Names_in (Loop W.mark W.sizes.now (pattern_of W.pat) (term_of W.first) (turns_of W.form) (term_of W.body)) AFunction name
    by_form {a = a} {flow = flow} p q n = record { called_so = refl; first_so = n ∙ ap (or_name a) q ∙ ap (λ z. or_name z (or_name (turns_name (turns_of W.form)) (some_name (term_of W.body)))) p }

pub loop_numbers : (W : LoopTree) (lo : ℕ) {node at body next : ℕ} → node ≡ 1 + lo + pattern_numbers (pattern_of W.pat) → at ≡ node + numbers (term_of W.first) → body ≡ at + turn_numbers (turns_of W.form) → next ≡ body + numbers (term_of W.body) → next ≡ lo + numbers (loop_of W)
loop_numbers W lo {next = next} p q r n = subst (λ (e : FlatTerm). next ≡ lo + numbers e) (sym (tree_is W)) (by_form p q r n)
  where
    by_form : {node at body next : ℕ} → node ≡ 1 + lo + pattern_numbers (pattern_of W.pat) → at ≡ node + numbers (term_of W.first) → body ≡ at + turn_numbers (turns_of W.form) → next ≡ body + numbers (term_of W.body) → next ≡ lo + numbers (Loop W.mark W.sizes.now (pattern_of W.pat) (term_of W.first) (turns_of W.form) (term_of W.body))
    by_form p q r n = omega (arith, p, q, r, n)

pub counted_ends : (i : BindId) (m : FlatTerm) (at : ℕ) {first next : ℕ} {name : Option Named} → first ≡ at + 1 → name ≡ some_name m → next ≡ first + numbers m → (name ≡ turns_name (Counted i m)) × (next ≡ at + turn_numbers (Counted i m))
unfolding turns_name
counted_ends i m at p n q = (n, omega (arith, p, q))

pub over_ends : (p : FlatPattern) (e : FlatTerm) (at : ℕ) {node next : ℕ} {name : Option Named} → node ≡ at + pattern_numbers p → name ≡ some_name e → next ≡ node + numbers e → (name ≡ turns_name (Over p e)) × (next ≡ at + turn_numbers (Over p e))
unfolding turns_name
over_ends p e at q n r = (n, omega (arith, q, r))

pub tested_ends : (c : FlatTerm) (at : ℕ) {next : ℕ} {name : Option Named} {p : Passed} → name ≡ some_name c → next ≡ at + numbers c → p.first_name ≡ name → p.after ≡ next → PassedEnds (While c) at p
unfolding turns_name
tested_ends c at n q a b = record { first = a ∙ n; next = b ∙ q }

pub counted_goes : {turns : FlatTurns} (i : BindId) (m : FlatTerm) (at : ℕ) (g : GoneOver) {p : Passed} → turns ≡ Counted i m → GoingEnds turns at g → p.first_name ≡ g.first_name → p.after ≡ g.after → PassedEnds turns at p
counted_goes i m at g {p = p} e x a b = subst (λ (z : FlatTurns). PassedEnds z at p) (sym e) (by_ends (subst (λ (z : FlatTurns). GoingEnds z at g) e x))
  where
    by_ends : GoingEnds (Counted i m) at g → PassedEnds (Counted i m) at p
    by_ends y = record { first = a ∙ y.0; next = b ∙ y.1 }

pub over_goes : {turns : FlatTurns} (q : FlatPattern) (m : FlatTerm) (at : ℕ) (g : GoneOver) {p : Passed} → turns ≡ Over q m → GoingEnds turns at g → p.first_name ≡ g.first_name → p.after ≡ g.after → PassedEnds turns at p
over_goes q m at g {p = p} e x a b = subst (λ (z : FlatTurns). PassedEnds z at p) (sym e) (by_ends (subst (λ (z : FlatTurns). GoingEnds z at g) e x))
  where
    by_ends : GoingEnds (Over q m) at g → PassedEnds (Over q m) at p
    by_ends y = record { first = a ∙ y.0; next = b ∙ y.1 }

pub both_named : {a b x y name : Option Named} → name ≡ or_name a b → a ≡ x → b ≡ y → name ≡ or_name x y
both_named {a = a} {y = y} n p q = n ∙ ap (or_name a) q ∙ ap (λ z. or_name z y) p
