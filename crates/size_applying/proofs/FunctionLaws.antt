-- The arguments that are functions, one after another, a law for each turn of a loop over what is wanted of them.
use Rattle.std.proofs.Common.{◌≡◌, ℕ, Bool, true, false, cond, List, [], ◌∷◌, Option, Some, Result, Ok, Err, refl, sym, ap, ◌∙◌, subst}
use Rattle.std.specs.Borrow.{Bor}
use Rattle.fut_flat.specs.declared.exp.Exp.{Exp}
use Rattle.fut_types.specs.Types.{Sub}
use Rattle.fut_typing.specs.Names.{Names}
use Rattle.fut_sizes.specs.Agreeing.{Answer, then_do}
use Rattle.fut_sizes.specs.Applications.{Argument, Early, Late, Met, Want, Wanting, all_matched, data_met, functions_met, is_function}
use Rattle.fut_sizes.specs.Matching as matching
use Rattle.fut_sizes.specs.Matching.{function_way, made_at, meet, none_opened}
use Rattle.fut_sizes.specs.Steps.{State, Done, Step, give, ask, and_then}
use Rattle.size_arena.specs.declared.agreeing.SizeErr.{SizeErr}
use Rattle.size_arena.specs.declared.dims.Free as frees
use Rattle.size_arena.specs.declared.trees.SizeTree.{SizeTree}
use Rattle.size_slots.specs.declared.slots.Found.{Found}
use Rattle.size_slots.specs.Held.{Holds, Met as Has_met, met, unmet, no_memory_met}
use Rattle.size_slots.proofs.MeetLaws.{Told}
use Rattle.size_program.specs.declared.maps.NumberMap.{NumberMap}
use Rattle.size_program.specs.declared.tables.Tables.{Tables}
use Rattle.size_program.specs.Tables.{Stands}
use Rattle.size_program.specs.Answers.{Answers, answers, refuses, no_memory, Runs, runs, Steps}
use Rattle.size_program.proofs.StepLaws.{Ran, ran, ran_not, asked, ask_then, ask_stop, steps_then, steps_stop, same_step, given}
use Rattle.size_applying.specs.declared.arguments.Argument as arguments
use Rattle.size_applying.specs.declared.arguments.Argument.TheVariants as argument
use Rattle.size_applying.specs.declared.arguments.Wanting as wantings
use Rattle.size_applying.specs.Wanted.{Waits, Is_argument, is_early, is_late, Wants, All_want, function_met, function_taken, wish}
use Rattle.size_applying.proofs.EachLaws.{First, each_first, each_none}
use Rattle.size_applying.proofs.WayLaws.{matched_by}

-- what a table has met is an answer
pub met_answers : (table : Found) (a : Answer matching.Found) (r : Told) → Has_met a table r → Answers (matched_by table) a r
met_answers table a r (met σ p holds) = answers p holds
met_answers table a r (unmet p) = refuses p
met_answers table a r no_memory_met = no_memory

-- ---- one argument

-- what is sized late at a node
pub record Sized_late (N : Names) (types : Sub) (e : Exp) (n : ℕ) (names : NumberMap) (a : Argument) : Type 0 where
  pub sizing : Option Want → matching.Found → Step Met
  pub is : a ≡ Late n sizing
  pub waits : Waits N types e n names [] sizing

module _ (N : Names) (types : Sub) where
  pub late_is : (e : Bor Exp) (n : ℕ) (names : Bor NumberMap) (a : Argument) (x : arguments.Argument) → x ≡ argument.Late e n names → Is_argument N types x a → Sized_late N types e.now n names.now a
  late_is e n names a x is all = by_all (subst (λ z. Is_argument N types z a) is all)
    where
      by_all : {a : Argument} → Is_argument N types (argument.Late e n names) a → Sized_late N types e.now n names.now a
      by_all (is_late {f = f} waits) = record { sizing = f; is = refl; waits = waits }

  module _ (regular : Bool) (c : wantings.Wanting) (w : Wanting) (wants : Wants N types c w) (σ : matching.Found) where
    early_by : (at : ℕ) (value : Option frees.Free) (named : Bool) (t : Bor SizeTree) {b : Argument} → Is_argument N types (argument.Early at value named t) b → (s : State) → ask (function_met regular (record { node = w.node; argument = b; opened = w.opened; wanted = w.wanted }) σ) s ≡ function_taken regular (record { node = w.node; argument = b; opened = w.opened; wanted = w.wanted }) σ s
    early_by at value named t is_early s = refl

    -- one that is sized already
    pub early_taken : (at : ℕ) (value : Option frees.Free) (named : Bool) (t : Bor SizeTree) → c.argument ≡ argument.Early at value named t → (table : Found) (g : Tables) (r : Told) → Has_met (function_met regular w σ) table r → Steps (matched_by table) (function_taken regular w σ) g g r
    early_taken at value named t is table g r m = same_step (matched_by table) (ask (function_met regular w σ)) (function_taken regular w σ) g g r (early_by at value named t (subst (λ z. Is_argument N types z w.argument) is wants.argument)) (asked (matched_by table) (function_met regular w σ) g r (met_answers table (function_met regular w σ) r m))

    module _ (f : Option Want → matching.Found → Step Met) (at : ℕ) (is : w.argument ≡ Late at f) where
      late_by : (s : State) → and_then (f (Some (wish regular w σ)) (made_at w.node σ)) (λ m. give m.found) s ≡ function_taken regular w σ s
      late_by s = sym (ap (λ z. function_taken regular (record { node = w.node; argument = z; opened = w.opened; wanted = w.wanted }) σ s) is)

      -- a lambda, which is sized now
      module _ {B : Type 0} (R : B → Met → Type 0) (table : Found) (g h : Tables) (k : Result B SizeErr) (sizes : Steps R (f (Some (wish regular w σ)) (made_at w.node σ)) g h k) where
        pub late_taken : (x : B) → k ≡ Ok x → ((m : Met) → R x m → Holds table m.found) → Steps (matched_by table) (function_taken regular w σ) g h (Ok tt)
        late_taken x is holds = same_step (matched_by table) (and_then (f (Some (wish regular w σ)) (made_at w.node σ)) (λ m. give m.found)) (function_taken regular w σ) g h (Ok tt) late_by
            (steps_then R (matched_by table) (f (Some (wish regular w σ)) (made_at w.node σ)) (λ m. give m.found) g h h k x (Ok tt) is sizes (λ m related. given (matched_by table) tt m.found h (holds m related)))

        pub late_stop : (x : SizeErr) → k ≡ Err x → Steps (matched_by table) (function_taken regular w σ) g h (Err x)
        late_stop x is = same_step (matched_by table) (and_then (f (Some (wish regular w σ)) (made_at w.node σ)) (λ m. give m.found)) (function_taken regular w σ) g h (Err x) late_by
            (steps_stop R (matched_by table) (f (Some (wish regular w σ)) (made_at w.node σ)) (λ m. give m.found) g h h k x is sizes)

-- ---- one after another

module _ (regular : Bool) where
  by_test : (b : Bool) (m : Answer matching.Found) (σ : matching.Found) (next : matching.Found → Step matching.Found) (s : State) → and_then (cond b (ask m) (give σ)) next s ≡ and_then (ask (cond b m (Ok σ))) next s
  by_test true m σ next s = refl
  by_test false m σ next s = refl

  functions_by : (a : Argument) (w : Wanting) (ws : List Wanting) (σ : matching.Found) (s : State)
      → functions_met regular (record { node = w.node; argument = a; opened = w.opened; wanted = w.wanted } ∷ ws) σ s ≡ and_then (function_taken regular (record { node = w.node; argument = a; opened = w.opened; wanted = w.wanted }) σ) (functions_met regular ws) s
  unfolding functions_met
  functions_by (Early at value named t) w ws σ s = by_test (is_function t) (meet w.node (function_way regular) at w.opened w.wanted none_opened t (made_at w.node σ)) σ (functions_met regular ws) s
  functions_by (Late at f) w ws σ s = refl

  pub functions_law : (w : Wanting) (ws : List Wanting) (σ : matching.Found) (s : State) → functions_met regular (w ∷ ws) σ s ≡ and_then (function_taken regular w σ) (functions_met regular ws) s
  functions_law w ws σ s = functions_by w.argument w ws σ s

  functions_none : (σ : matching.Found) (s : State) → functions_met regular [] σ s ≡ Ok (record { result = σ; state = s })
  unfolding functions_met
  functions_none σ s = refl

module _ (N : Names) (types : Sub) (regular : Bool) where
  -- behind some arguments, of which these are left
  pub record Functions_far (answer : Answer (Done matching.Found)) (g : Tables) (table : Found) (left : List wantings.Wanting) : Type 0 where
    pub ws : List Wanting
    pub found : matching.Found
    pub state : State
    pub want : All_want N types left ws
    pub holds : Holds table found
    pub stands : Stands g state
    pub same : answer ≡ functions_met regular ws found state

  abbrev pub Functions_left : Step matching.Found → Tables → Tables → Found → List wantings.Wanting → Type 0
  Functions_left whole f g table left = (s : State) → Stands f s → Functions_far (whole s) g table left

  pub functions_start : (f : Tables) (table : Found) (cs : List wantings.Wanting) (ws : List Wanting) (σ : matching.Found) → All_want N types cs ws → Holds table σ → Functions_left (functions_met regular ws σ) f f table cs
  functions_start f table cs ws σ want holds s stands = record { ws = ws; found = σ; state = s; want = want; holds = holds; stands = stands; same = refl }

  module _ (whole : Step matching.Found) (f g : Tables) (table : Found) (left : List wantings.Wanting) (so_far : Functions_left whole f g table left) where
    module _ (c : wantings.Wanting) (rest : List wantings.Wanting) (split : left ≡ c ∷ rest) (after : Found) (h : Tables) (k : Told) (taken : (w : Wanting) → Wants N types c w → (σ : matching.Found) → Holds table σ → Steps (matched_by after) (function_taken regular w σ) g h k) where
      first_of : (s : State) (r : Functions_far (whole s) g table left) → First (Wants N types) c rest r.ws
      first_of s r = each_first (Wants N types) left r.ws c rest split r.want

      same_by : (s : State) (r : Functions_far (whole s) g table left) → whole s ≡ and_then (function_taken regular (first_of s r).first r.found) (functions_met regular (first_of s r).behind) r.state
      same_by s r = r.same ∙ ap (λ z. functions_met regular z r.found r.state) (first_of s r).is ∙ functions_law regular (first_of s r).first (first_of s r).behind r.found r.state

      taken_runs : (s : State) (r : Functions_far (whole s) g table left) → Runs (matched_by after) (function_taken regular (first_of s r).first r.found r.state) h k
      taken_runs s r = (taken (first_of s r).first (first_of s r).related r.found r.holds).steps r.state r.stands

      pub functions_more : k ≡ Ok tt → Functions_left whole f h after rest
      functions_more done s stands =
          let r : Functions_far (whole s) g table left = so_far s stands in
          let d : Ran (matched_by after) (function_taken regular (first_of s r).first r.found r.state) h k (taken_runs s r) tt = ran (matched_by after) (function_taken regular (first_of s r).first r.found r.state) h k (taken_runs s r) tt done in
          record {
            ws = (first_of s r).behind;
            found = d.result;
            state = d.state;
            want = (first_of s r).others;
            holds = d.related;
            stands = d.stands;
            same = same_by s r ∙ ap (λ z. then_do z (λ d. functions_met regular (first_of s r).behind d.result d.state)) d.is;
          }

      pub functions_stop : {C : Type 0} (Q : C → matching.Found → Type 0) (e : SizeErr) → k ≡ Err e → Steps Q whole f h (Err e)
      functions_stop Q e is = record {
        steps = λ s stands. let r : Functions_far (whole s) g table left = so_far s stands in
            subst (λ z. Runs Q z h (Err e)) (sym (same_by s r)) (ran_not (matched_by after) (function_taken regular (first_of s r).first r.found r.state) h k (taken_runs s r) Q (λ d. functions_met regular (first_of s r).behind d.result d.state) h e is);
      }

    pub functions_end : left ≡ [] → Steps (matched_by table) whole f g (Ok tt)
    functions_end none = record {
      steps = λ s stands. let r : Functions_far (whole s) g table left = so_far s stands in
          runs r.state (r.same ∙ ap (λ z. functions_met regular z r.found r.state) (each_none (Wants N types) left r.ws none r.want) ∙ functions_none regular r.found r.state) r.holds r.stands;
    }

-- ---- the data first, then the functions

module _ (regular : Bool) (ws : List Wanting) (σ : matching.Found) (table after : Found) (g h : Tables) (k : Told) (has_met : Has_met (data_met ws σ) table k) where
  pub all_then : (r : Told) → k ≡ Ok tt → ((τ : matching.Found) → Holds table τ → Steps (matched_by after) (functions_met regular ws τ) g h r) → Steps (matched_by after) (all_matched regular ws σ) g h r
  unfolding all_matched
  all_then r done rest = ask_then (matched_by table) (matched_by after) (data_met ws σ) (λ τ. functions_met regular ws τ) g h k tt r done (met_answers table (data_met ws σ) k has_met) (λ τ holds. rest τ holds)

  pub all_stop : (x : SizeErr) → k ≡ Err x → Steps (matched_by after) (all_matched regular ws σ) g h (Err x)
  unfolding all_matched
  all_stop x is = ask_stop (matched_by table) (matched_by after) (data_met ws σ) (λ τ. functions_met regular ws τ) g h k x is (met_answers table (data_met ws σ) k has_met)
