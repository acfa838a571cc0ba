-- An application on its way along its arguments, a law for each turn of a loop over them.
use Rattle.std.proofs.Common.{◌≡◌, ℕ, suc, ◌+◌, Bool, true, false, List, [], ◌∷◌, ◌++◌, length, Result, Ok, Err, refl, sym, ap, ◌∙◌, subst}
use Rattle.fut_scalar.specs.declared.memory.NoMemory.{NoMemory}
use Rattle.fut_types.specs.Types.{Sub}
use Rattle.fut_typing.specs.Names.{Names}
use Rattle.sized_types.specs.Sizes.{Size, Fun}
use Rattle.fut_sizes.specs.Agreeing.{Answer}
use Rattle.fut_sizes.specs.Applications.{Argument, Later, Met, Wanting, all_matched, applied, applied_frame, is_arrow, uses}
use Rattle.fut_sizes.specs.Levels.{levels_within}
use Rattle.fut_sizes.specs.Matching as matching
use Rattle.fut_sizes.specs.Matching.{Opened, counted, made_at, in_opened, inside, none_opened, nothing_found, read}
use Rattle.fut_sizes.specs.Steps.{State, Done, Step}
use Rattle.size_arena.specs.declared.agreeing.SizeErr.{SizeErr}
use Rattle.size_arena.specs.declared.agreeing.SizeErr.TheVariants as size_err
use Rattle.size_slots.specs.declared.slots.Found.{Found}
use Rattle.size_slots.specs.Held.{Holds}
use Rattle.size_program.specs.declared.tables.Tables.{Tables}
use Rattle.size_program.specs.Tables.{Stands}
use Rattle.size_program.specs.Answers.{Runs, runs, refused, no_memory_left, Steps}
use Rattle.size_program.proofs.StepLaws.{Ran, ran, ok_in, err_in}
use Rattle.size_applying.specs.declared.arguments.Argument as arguments
use Rattle.size_applying.specs.declared.arguments.Wanting as wantings
use Rattle.size_applying.specs.declared.going.Application.{Application}
use Rattle.size_applying.specs.Wanted.{Are_arguments, All_want, Is_argument}
use Rattle.size_applying.specs.Going.{Goes, Takes_arrow, arrow_taken, gives_last, no_arrow_left, Is_met}
use Rattle.size_applying.specs.Going as going
use Rattle.size_applying.specs.Sharing.{Chained, any_last}
use Rattle.size_applying.proofs.SharingForms.{chained_with}
use Rattle.size_applying.proofs.EachLaws.{First, each_first, each_none, each_length}
use Rattle.size_applying.proofs.ApplyLaws.{wanting_at, arrow_law, again_law, over_law, again_stop, end_law, end_stop}

-- what a matched table is to a substitution
abbrev pub matched_by : Found → Unit {0} → matching.Found → Type 0
matched_by table u σ = Holds table σ

any_chained : (a : Application) → Chained a.later (gives_last a) → Chained a.later any_last
any_chained a c = chained_with (gives_last a) any_last a.later (λ l h. tt) c

never_ok : (u : Unit {0}) (x : SizeErr) → ok_in (Unit {0}) SizeErr u ≡ Err x → ⊥
never_ok u x e = cc

other_err : (C : Type 0) (y x : SizeErr) → err_in (Unit {0}) SizeErr y ≡ Err x → err_in C SizeErr y ≡ Err x
other_err C y x e = cc

-- the parts of a function type
record An_arrow (t : Size) : Type 0 where
  chosen : ℕ
  from : Size
  to : Size
  is : t ≡ Fun chosen from to

arrow_of : (N : Names) (types : Sub) (m : ℕ) (a : Argument) (ws : List Wanting) (φ : Opened) (goes_on : Bool) (t : Size) (ls : List Later) (σ : matching.Found) (new : Application) (after : Found) {r : Result Bool NoMemory} → Takes_arrow N types m a ws φ goes_on t ls σ new after r → r ≡ Ok true → An_arrow t
arrow_of N types m a ws φ goes_on t ls σ new after (arrow_taken {k = k} {p = p} {r = r} e goes holds) is = record { chosen = k; from = p; to = r; is = e }
arrow_of N types m a ws φ goes_on t ls σ new after (no_arrow_left e goes holds) is = cc
arrow_of N types m a ws φ goes_on t ls σ new after going.no_memory_left is = cc

module _ (N : Names) (types : Sub) (n : ℕ) (regular : Bool) where
  -- an application that is behind some of its arguments, of which these are left: what the whole gives is what is left gives
  pub record Far (whole : Answer (Done Met)) (g : Tables) (a : Application) (table : Found) (left : List arguments.Argument) : Type 0 where
    pub rest : List Argument
    pub ws : List Wanting
    pub opened : Opened
    pub goes_on : Bool
    pub gives : Size
    pub later : List Later
    pub found : matching.Found
    pub state : State
    pub left_are : Are_arguments N types left rest
    pub goes : Goes N types a ws opened goes_on gives later
    pub holds : Holds table found
    pub stands : Stands g state
    pub same : whole ≡ applied n regular rest ws opened goes_on gives later found state

  abbrev pub Under_way : Step Met → Tables → Tables → Application → Found → List arguments.Argument → Type 0
  Under_way whole f g a table left = (s : State) → Stands f s → Far (whole s) g a table left

  pub way_start : (f : Tables) (a : Application) (table : Found) (t : Size) (xs : List arguments.Argument) (given : List Argument) → Are_arguments N types xs given → Goes N types a [] none_opened true t [] → Holds table nothing_found
      → Under_way (applied n regular given [] none_opened true t [] nothing_found) f f a table xs
  way_start f a table t xs given are goes holds s stands = record {
    rest = given;
    ws = [];
    opened = none_opened;
    goes_on = true;
    gives = t;
    later = [];
    found = nothing_found;
    state = s;
    left_are = are;
    goes = goes;
    holds = holds;
    stands = stands;
    same = refl;
  }

  -- what the calls say that take an argument x at m along an arrow
  abbrev pub Taking : ℕ → arguments.Argument → Application → Found → Application → Found → Result Bool NoMemory → Type 0
  Taking m x old before new after r = (a : Argument) (ws : List Wanting) (φ : Opened) (goes_on : Bool) (t : Size) (ls : List Later) (σ : matching.Found) → Is_argument N types x a → Goes N types old ws φ goes_on t ls → Holds before σ
      → Takes_arrow N types m a ws φ goes_on t ls σ new after r

  abbrev pub Taking_again : ℕ → arguments.Argument → Application → Found → Application → Found → Result Bool NoMemory → Type 0
  Taking_again m x old before new after r = (a : Argument) (ws : List Wanting) (φ : Opened) (goes_on : Bool) (t : Size) (ls : List Later) (σ : matching.Found) → Is_argument N types x a → Goes N types old ws φ goes_on t ls → Holds before σ
      → Takes_arrow N types m a [] none_opened false (read σ (in_opened φ t)) (ls ++ uses ws) σ new after r

  -- what the calls say that match all that is wanted so far
  abbrev pub Matching : List wantings.Wanting → Found → Tables → Found → Tables → Result (Unit {0}) SizeErr → Type 0
  Matching cs before g after h r = (ws : List Wanting) → All_want N types cs ws → (σ : matching.Found) → Holds before σ → Steps (matched_by after) (all_matched regular ws σ) g h r

  -- ---- an arrow is taken

  module _ (answer : Answer (Done Met)) (g : Tables) (b : Argument) (bs : List Argument) (m : ℕ) (new : Application) (after : Found) (left : List arguments.Argument) (are : Are_arguments N types left bs) (at : m ≡ n + length bs) where
    module _ (ws : List Wanting) (φ : Opened) (goes_on : Bool) (t : Size) (ls : List Later) (σ : matching.Found) (s : State) (stands : Stands g s) (same : answer ≡ applied n regular (b ∷ bs) ws φ goes_on t ls σ s) where
      pub along_arrow : {r : Result Bool NoMemory} → Takes_arrow N types m b ws φ goes_on t ls σ new after r → r ≡ Ok true → Far answer g new after left
      along_arrow (arrow_taken {k = k} {p = p} {r = r} e goes holds) is = record {
        rest = bs;
        ws = ws ++ wanting_at m b φ k p σ ∷ [];
        opened = inside (applied_frame m σ.next k b) φ;
        goes_on = is_arrow r;
        gives = r;
        later = ls ++ record { node = suc m; size = in_opened φ t } ∷ [];
        found = counted (suc k + levels_within r) (made_at m σ);
        state = s;
        left_are = are;
        goes = goes;
        holds = holds;
        stands = stands;
        same = same ∙ ap (λ (z : Step Met). z s) (arrow_law n regular b bs ws φ goes_on t ls σ k p r e)
            ∙ ap (λ z. applied n regular bs (ws ++ wanting_at z b φ k p σ ∷ []) (inside (applied_frame z σ.next k b) φ) (is_arrow r) r (ls ++ record { node = suc z; size = in_opened φ t } ∷ []) (counted (suc k + levels_within r) (made_at z σ)) s) (sym at);
      }
      along_arrow (no_arrow_left e goes holds) is = cc
      along_arrow going.no_memory_left is = cc

  module _ (whole : Step Met) (f g : Tables) (a : Application) (before : Found) (m : ℕ) (x : arguments.Argument) (left rest : List arguments.Argument) (split : left ≡ x ∷ rest) (at : m ≡ n + length rest) (way : Under_way whole f g a before left) where
    pub way_arrow : (new : Application) (after : Found) (k : Result Bool NoMemory) → k ≡ Ok true → Taking m x a before new after k → Under_way whole f g new after rest
    way_arrow new after k is taking s stands =
        let far : Far (whole s) g a before left = way s stands in
        let one : First (Is_argument N types) x rest far.rest = each_first (Is_argument N types) left far.rest x rest split far.left_are in
        along_arrow (whole s) g one.first one.behind m new after rest one.others (at ∙ ap (λ z. n + z) (sym (each_length (Is_argument N types) one.others))) far.ws far.opened far.goes_on far.gives far.later far.found far.state far.stands
        (far.same ∙ ap (λ z. applied n regular z far.ws far.opened far.goes_on far.gives far.later far.found far.state) one.is)
        (taking one.first far.ws far.opened far.goes_on far.gives far.later far.found one.related far.goes far.holds) is

    -- ---- none is left

    pub record Stuck (answer : Answer (Done Met)) (b : Application) (after : Found) : Type 0 where
      pub first : Argument
      pub behind : List Argument
      pub ws : List Wanting
      pub opened : Opened
      pub goes_on : Bool
      pub gives : Size
      pub later : List Later
      pub found : matching.Found
      pub state : State
      pub is_first : Is_argument N types x first
      pub others : Are_arguments N types rest behind
      pub no_arrow : is_arrow gives ≡ false
      pub goes : Goes N types b ws opened goes_on gives later
      pub holds : Holds after found
      pub stands : Stands g state
      pub same : answer ≡ applied n regular (first ∷ behind) ws opened goes_on gives later found state

    module _ (b : Application) (after : Found) where
      stuck_by : (answer : Answer (Done Met)) (c : Argument) (cs : List Argument) (ws : List Wanting) (φ : Opened) (goes_on : Bool) (t : Size) (ls : List Later) (σ : matching.Found) (s : State) → Is_argument N types x c → Are_arguments N types rest cs → Stands g s
          → answer ≡ applied n regular (c ∷ cs) ws φ goes_on t ls σ s → {r : Result Bool NoMemory} → Takes_arrow N types m c ws φ goes_on t ls σ b after r → r ≡ Ok false → Stuck answer b after
      stuck_by answer c cs ws φ goes_on t ls σ s is others stands same (arrow_taken e goes holds) not_so = cc
      stuck_by answer c cs ws φ goes_on t ls σ s is others stands same (no_arrow_left e goes holds) not_so = record {
        first = c;
        behind = cs;
        ws = ws;
        opened = φ;
        goes_on = goes_on;
        gives = t;
        later = ls;
        found = σ;
        state = s;
        is_first = is;
        others = others;
        no_arrow = e;
        goes = goes;
        holds = holds;
        stands = stands;
        same = same;
      }
      stuck_by answer c cs ws φ goes_on t ls σ s is others stands same going.no_memory_left not_so = cc

      pub stuck : (k : Result Bool NoMemory) → k ≡ Ok false → Taking m x a before b after k → (s : State) → Stands f s → Stuck (whole s) b after
      stuck k not_so taking s stands =
          let far : Far (whole s) g a before left = way s stands in
          let one : First (Is_argument N types) x rest far.rest = each_first (Is_argument N types) left far.rest x rest split far.left_are in
          stuck_by (whole s) one.first one.behind far.ws far.opened far.goes_on far.gives far.later far.found far.state one.related one.others far.stands
          (far.same ∙ ap (λ z. applied n regular z far.ws far.opened far.goes_on far.gives far.later far.found far.state) one.is)
          (taking one.first far.ws far.opened far.goes_on far.gives far.later far.found one.related far.goes far.holds) not_so

    module _ (b : Application) (after : Found) (k : Result Bool NoMemory) (not_so : k ≡ Ok false) (taking : Taking m x a before b after k) where
      -- all is matched, what is given is read, and an arrow of that is taken
      module _ (met : Found) (h : Tables) (j : Result (Unit {0}) SizeErr) (all : Matching b.wantings after g met h j) where
        ready : (s : State) → Stands f s → Stuck (whole s) b after
        ready s stands = stuck b after k not_so taking s stands

        matching_runs : (s : State) (stands : Stands f s) → Runs (matched_by met) (all_matched regular (ready s stands).ws (ready s stands).found (ready s stands).state) h j
        matching_runs s stands = let r : Stuck (whole s) b after = ready s stands in (all r.ws r.goes.wants r.found r.holds).steps r.state r.stands

        module _ (done : j ≡ Ok tt) (new : Application) (last : Found) (i : Result Bool NoMemory) (again : Taking_again m x b met new last i) where
          step : (s : State) (stands : Stands f s) → Ran (matched_by met) (all_matched regular (ready s stands).ws (ready s stands).found (ready s stands).state) h j (matching_runs s stands) tt
          step s stands = ran (matched_by met) (all_matched regular (ready s stands).ws (ready s stands).found (ready s stands).state) h j (matching_runs s stands) tt done

          pub way_again : i ≡ Ok true → Under_way whole f h new last rest
          way_again so s stands =
              let r : Stuck (whole s) b after = ready s stands in
              let d : Ran (matched_by met) (all_matched regular r.ws r.found r.state) h j (matching_runs s stands) tt = step s stands in
              let taken : Takes_arrow N types m r.first [] none_opened false (read d.result (in_opened r.opened r.gives)) (r.later ++ uses r.ws) d.result new last i = again r.first r.ws r.opened r.goes_on r.gives r.later d.result r.is_first r.goes d.related in
              let arrow : An_arrow (read d.result (in_opened r.opened r.gives)) = arrow_of N types m r.first [] none_opened false (read d.result (in_opened r.opened r.gives)) (r.later ++ uses r.ws) d.result new last taken so in
              along_arrow (whole s) h r.first r.behind m new last rest r.others (at ∙ ap (λ z. n + z) (sym (each_length (Is_argument N types) r.others))) [] none_opened false (read d.result (in_opened r.opened r.gives)) (r.later ++ uses r.ws) d.result d.state d.stands
              (r.same ∙ again_law n regular r.first r.behind r.ws r.opened r.goes_on r.later r.found r.state (record { result = d.result; state = d.state }) d.is r.gives arrow.chosen arrow.from arrow.to r.no_arrow arrow.is)
              taken so

          over_by : (s : State) (c : Argument) (cs : List Argument) (ws : List Wanting) (φ : Opened) (goes_on : Bool) (t : Size) (ls : List Later) (σ τ : matching.Found) (u v : State) → whole s ≡ applied n regular (c ∷ cs) ws φ goes_on t ls σ u → is_arrow t ≡ false
              → all_matched regular ws σ u ≡ Ok (record { result = τ; state = v }) → Stands h v → {i : Result Bool NoMemory} → Takes_arrow N types m c [] none_opened false (read τ (in_opened φ t)) (ls ++ uses ws) τ new last i → i ≡ Ok false → Runs (Is_met last) (whole s) h (Ok new)
          over_by s c cs ws φ goes_on t ls σ τ u v same plain p stands (arrow_taken e goes holds) is = cc
          over_by s c cs ws φ goes_on t ls σ τ u v same plain p stands (no_arrow_left e goes holds) is =
              runs v (same ∙ over_law n regular c cs ws φ goes_on ls σ u (record { result = τ; state = v }) p t plain e) (record { size = goes.gives; found = holds; later = goes.later; goes_on = goes.last; chained = any_chained new goes.chained }) stands
          over_by s c cs ws φ goes_on t ls σ τ u v same plain p stands going.no_memory_left is = cc

          pub way_over : i ≡ Ok false → Steps (Is_met last) whole f h (Ok new)
          way_over over = record {
            steps = λ s stands.
                let r : Stuck (whole s) b after = ready s stands in
                let d : Ran (matched_by met) (all_matched regular r.ws r.found r.state) h j (matching_runs s stands) tt = step s stands in
                over_by s r.first r.behind r.ws r.opened r.goes_on r.gives r.later r.found d.result r.state d.state r.same r.no_arrow d.is d.stands (again r.first r.ws r.opened r.goes_on r.gives r.later d.result r.is_first r.goes d.related) over;
          }

        pub way_stop : {C : Type 0} (Q : C → Met → Type 0) (e : SizeErr) → j ≡ Err e → Steps Q whole f h (Err e)
        way_stop {C = C} Q e is = record { steps = λ s stands. by_runs s (ready s stands) (matching_runs s stands) is }
          where
            by_runs : (s : State) (r : Stuck (whole s) b after) {j : Result (Unit {0}) SizeErr} → Runs (matched_by met) (all_matched regular r.ws r.found r.state) h j → j ≡ Err e → Runs Q (whole s) h (Err e)
            by_runs s r (runs {x = u} v p z stands) is = elim (never_ok u e is) [ ]
            by_runs s r (refused {e = y} p) is = subst (λ z. Runs Q (whole s) h z) (other_err C (size_err.Refused y) e is) (refused (r.same ∙ again_stop n regular r.first r.behind r.ws r.opened r.goes_on r.later r.found r.state r.gives r.no_arrow _ p))
            by_runs s r no_memory_left is = subst (λ z. Runs Q (whole s) h z) (other_err C size_err.Memory e is) no_memory_left

  -- ---- no argument is left

  module _ (whole : Step Met) (f g : Tables) (a : Application) (before : Found) (left : List arguments.Argument) (none : left ≡ []) (way : Under_way whole f g a before left) (met : Found) (h : Tables) (j : Result (Unit {0}) SizeErr) (all : Matching a.wantings before g met h j) where
    end_runs : (s : State) (stands : Stands f s) → Runs (matched_by met) (all_matched regular (way s stands).ws (way s stands).found (way s stands).state) h j
    end_runs s stands = let r : Far (whole s) g a before left = way s stands in (all r.ws r.goes.wants r.found r.holds).steps r.state r.stands

    end_same : (s : State) (r : Far (whole s) g a before left) → whole s ≡ applied n regular [] r.ws r.opened r.goes_on r.gives r.later r.found r.state
    end_same s r = r.same ∙ ap (λ z. applied n regular z r.ws r.opened r.goes_on r.gives r.later r.found r.state) (each_none (Is_argument N types) left r.rest none r.left_are)

    pub way_end : (new : Application) → j ≡ Ok tt
        → ((ws : List Wanting) (φ : Opened) (goes_on : Bool) (t : Size) (ls : List Later) (σ : matching.Found) → Goes N types a ws φ goes_on t ls → Holds met σ → Goes N types new [] none_opened goes_on (read σ (in_opened φ t)) (ls ++ uses ws))
        → Steps (Is_met met) whole f h (Ok new)
    way_end new done concluded = record {
      steps = λ s stands.
          let r : Far (whole s) g a before left = way s stands in
          let d : Ran (matched_by met) (all_matched regular r.ws r.found r.state) h j (end_runs s stands) tt = ran (matched_by met) (all_matched regular r.ws r.found r.state) h j (end_runs s stands) tt done in
          let goes : Goes N types new [] none_opened r.goes_on (read d.result (in_opened r.opened r.gives)) (r.later ++ uses r.ws) = concluded r.ws r.opened r.goes_on r.gives r.later d.result r.goes d.related in
          runs d.state (end_same s r ∙ end_law n regular r.ws r.opened r.goes_on r.gives r.later r.found r.state (record { result = d.result; state = d.state }) d.is) (record { size = goes.gives; found = d.related; later = goes.later; goes_on = goes.last; chained = any_chained new goes.chained }) d.stands;
    }

    pub way_end_stop : {C : Type 0} (Q : C → Met → Type 0) (e : SizeErr) → j ≡ Err e → Steps Q whole f h (Err e)
    way_end_stop {C = C} Q e is = record { steps = λ s stands. by_runs s (way s stands) (end_runs s stands) is }
      where
        by_runs : (s : State) (r : Far (whole s) g a before left) {j : Result (Unit {0}) SizeErr} → Runs (matched_by met) (all_matched regular r.ws r.found r.state) h j → j ≡ Err e → Runs Q (whole s) h (Err e)
        by_runs s r (runs {x = u} v p z stands) is = elim (never_ok u e is) [ ]
        by_runs s r (refused {e = y} p) is = subst (λ z. Runs Q (whole s) h z) (other_err C (size_err.Refused y) e is) (refused (end_same s r ∙ end_stop n regular r.ws r.opened r.goes_on r.gives r.later r.found r.state _ p))
        by_runs s r no_memory_left is = subst (λ z. Runs Q (whole s) h z) (other_err C size_err.Memory e is) no_memory_left
