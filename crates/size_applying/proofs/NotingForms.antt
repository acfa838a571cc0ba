-- The nodes within an application, one after another.
use Rattle.std.proofs.Common.{◌≡◌, ℕ, ◌+◌, ◌<◌, ◌≤◌, Bool, true, List, [], ◌∷◌, length, get_or, drop, Option, Some, None, Result, Ok, Err, refl, sym, ap, ◌∙◌, subst, add-one, arith}
use Rattle.std.proofs.Math.ListN.{drop_of_length-le}
use Rattle.std.proofs.Math.Seq.{drop-cons}
use Rattle.std.specs.Borrow.{Bor}
use Rattle.fut_types.specs.Types.{Sub}
use Rattle.fut_typing.specs.Names.{Names}
use Rattle.sized_types.specs.Sizes.{Size}
use Rattle.fut_sizes.specs.Agreeing.{Answer, then_do}
use Rattle.fut_sizes.specs.Applications.{Later, Met, all_settled}
use Rattle.fut_sizes.specs.Compositions.{without_two}
use Rattle.fut_sizes.specs.Functions.{closed, quantified}
use Rattle.fut_sizes.specs.Matching as matching
use Rattle.fut_sizes.specs.Matching.{read}
use Rattle.fut_sizes.specs.Sizing.{all_noted, met_noted}
use Rattle.fut_sizes.specs.Steps.{State, Done, note, and_then}
use Rattle.size_arena.specs.declared.agreeing.SizeErr.{SizeErr}
use Rattle.size_arena.specs.declared.trees.SizeTree.{SizeTree}
use Rattle.size_arena.specs.Trees.{size_of}
use Rattle.size_slots.specs.declared.slots.Found.{Found}
use Rattle.size_slots.specs.Held.{Holds}
use Rattle.size_program.specs.declared.tables.Tables.{Tables}
use Rattle.size_program.specs.Tables.{Stands}
use Rattle.size_program.specs.Answers.{Runs, runs, refused, no_memory_left, Steps}
use Rattle.size_program.proofs.StepLaws.{Ran, ran, ran_not, steps_then, steps_stop, stopped, weaker}
use Rattle.size_applying.specs.declared.arguments.Later as laters
use Rattle.size_applying.specs.declared.going.Application.{Application}
use Rattle.size_applying.specs.declared.seeing.Seen.{Seen}
use Rattle.size_applying.specs.Going.{Is_met}
use Rattle.size_applying.specs.Sharing.{Chain, Chained, any_last, Sees, Leads_on, found_later, Has_seen, noted_size}
use Rattle.size_applying.specs.Wanted.{later_size, laters_of}
use Rattle.size_applying.proofs.SharingForms.{chained_behind}

abbrev pub Noted : Type 0
Noted = Result (Unit {0}) SizeErr

-- a sized type that is noted, by another name, and what is known besides
pub noted_so : {A : Type 0} (x : A) (H : A → Type 0) (n : ℕ) (t u : Size) (f g : Tables) (r : Noted) → r ≡ Ok tt → H x → t ≡ u → Steps (λ (z : Unit {0}) (y : Size). y ≡ t) (note n t) f g r → Steps (λ (z : A) (y : Size). H z) (note n u) f g (Ok x)
noted_so {A = A} x H n t u f g r done h is first = subst (λ z. Steps (λ (z : A) (y : Size). H z) (note n z) f g (Ok x)) is (record { steps = λ s stands. by_runs (note n t s) (first.steps s stands) done })
  where
    by_runs : (a : Answer (Done Size)) {r : Noted} → Runs (λ (z : Unit {0}) (y : Size). y ≡ t) a g r → r ≡ Ok tt → Runs (λ (z : A) (y : Size). H z) a g (Ok x)
    by_runs a (runs s p related stands) e = runs s p h stands
    by_runs a (refused p) e = cc
    by_runs a no_memory_left e = cc

pub noted_not : {A : Type 0} (H : A → Type 0) (n : ℕ) (t u : Size) (f g : Tables) (r : Noted) (e : SizeErr) → r ≡ Err e → t ≡ u → Steps (λ (z : Unit {0}) (y : Size). y ≡ t) (note n t) f g r → Steps (λ (z : A) (y : Size). H z) (note n u) f g (Err e)
noted_not {A = A} H n t u f g r e stop is first = subst (λ z. Steps (λ (z : A) (y : Size). H z) (note n z) f g (Err e)) is (stopped (λ (z : Unit {0}) (y : Size). y ≡ t) (λ (z : A) (y : Size). H z) (note n t) f g r e stop first)

-- what was seen last is of the node before those that are left
abbrev pub Kept : Option Seen → matching.Found → List laters.Later → Type 0
Kept None σ left = Chained left any_last
Kept (Some s) σ left = (l : laters.Later) × Sees s σ (later_size l) × Chain l left any_last

leads_now : (last : Option Seen) (σ : matching.Found) (m : laters.Later) (ls : List laters.Later) → Kept last σ (m ∷ ls) → Leads_on last m σ
leads_now None σ m ls k = tt
leads_now (Some s) σ m ls k = (k.0, k.1, k.2.0)

kept_next : (last : Option Seen) (σ τ : matching.Found) (m : laters.Later) (ls : List laters.Later) (s : Seen) → Kept last σ (m ∷ ls) → Sees s τ (later_size m) → Kept (Some s) τ ls
kept_next None σ τ m ls s k sees = (m, sees, k)
kept_next (Some b) σ τ m ls s k sees = (m, sees, k.2.1)

-- these nodes are left
pub record Noted_far (N : Names) (types : Sub) (answer : Answer (Done (Unit {0}))) (g : Tables) (table : Found) (last : Option Seen) (left : List laters.Later) : Type 0 where
  pub found : matching.Found
  pub state : State
  pub holds : Holds table found
  pub stands : Stands g state
  pub kept : Kept last found left
  pub same : answer ≡ all_noted N types (laters_of left) found state

abbrev pub So_noted : List laters.Later → Found → Tables → Found → Tables → Option Seen → ℕ → Type 0
So_noted ls before f table g last i = (N : Names) (types : Sub) (σ : matching.Found) → Holds before σ → Chained ls any_last → (s : State) → Stands f s → Noted_far N types (all_noted N types (laters_of ls) σ s) g table last (drop i ls)

pub noted_start : (ls : List laters.Later) (before : Found) (f : Tables) → So_noted ls before f before f None 0
noted_start ls before f N types σ holds chained s stands = record { found = σ; state = s; holds = holds; stands = stands; kept = chained; same = refl }

-- what is known of one node
abbrev pub Noting : Option Seen → laters.Later → Found → Tables → Found → Tables → Result Seen SizeErr → Type 0
Noting last l before f after g r = (σ : matching.Found) → Holds before σ → Leads_on last l σ → Steps (λ (z : Seen) (y : Size). Has_seen after l σ z) (note l.node (noted_size l σ)) f g r

module _ (ls : List laters.Later) (before table after : Found) (f g h : Tables) (last : Option Seen) (i : ℕ) (so_far : So_noted ls before f table g last i) (x : laters.Later) (k : Result Seen SizeErr) (l : i < length ls) (noting : Noting last (get_or ls i x) table g after h k) where
  abbrev this : laters.Later
  this = get_or ls i x

  abbrev rest : List laters.Later
  rest = drop (i + 1) ls

  left_is : drop i ls ≡ this ∷ rest
  left_is = drop-cons ls i x l ∙ ap (λ z. this ∷ drop z ls) (sym (add-one i))

  module _ (N : Names) (types : Sub) (answer : Answer (Done (Unit {0}))) (far : Noted_far N types answer g table last (drop i ls)) where
    kept_here : Kept last far.found (this ∷ rest)
    kept_here = subst (Kept last far.found) left_is far.kept

    one_runs : Runs (λ (z : Seen) (y : Size). Has_seen after this far.found z) (note this.node (noted_size this far.found) far.state) h k
    one_runs = (noting far.found far.holds (leads_now last far.found this rest kept_here)).steps far.state far.stands

    one_same : answer ≡ then_do (note this.node (noted_size this far.found) far.state) (λ d. all_noted N types (laters_of rest) (found_later this far.found) d.state)
    one_same = far.same ∙ ap (λ z. all_noted N types (laters_of z) far.found far.state) left_is

    next_far : (s : Seen) → k ≡ Ok s → Noted_far N types answer h after (Some s) rest
    next_far s done =
        let d : Ran (λ (z : Seen) (y : Size). Has_seen after this far.found z) (note this.node (noted_size this far.found) far.state) h k one_runs s
        = ran (λ (z : Seen) (y : Size). Has_seen after this far.found z) (note this.node (noted_size this far.found) far.state) h k one_runs s done in
        record {
          found = found_later this far.found;
          state = d.state;
          holds = d.related.0;
          stands = d.stands;
          kept = kept_next last far.found (found_later this far.found) this rest s kept_here d.related.1;
          same = one_same ∙ ap (λ z. then_do z (λ d. all_noted N types (laters_of rest) (found_later this far.found) d.state)) d.is;
        }

    no_next : (e : SizeErr) → k ≡ Err e → Runs (λ (u : Unit {0}) (y : Unit {0}). y ≡ u) answer h (Err e)
    no_next e is = subst (λ z. Runs (λ (u : Unit {0}) (y : Unit {0}). y ≡ u) z h (Err e)) (sym one_same)
        (ran_not (λ (z : Seen) (y : Size). Has_seen after this far.found z) (note this.node (noted_size this far.found) far.state) h k one_runs (λ (u : Unit {0}) (y : Unit {0}). y ≡ u)
        (λ d. all_noted N types (laters_of rest) (found_later this far.found) d.state) h e is)

  pub noted_more : (s : Seen) → k ≡ Ok s → So_noted ls before f after h (Some s) (i + 1)
  noted_more s done N types σ holds chained state stands = next_far N types (all_noted N types (laters_of ls) σ state) (so_far N types σ holds chained state stands) s done

  pub noted_stop : (e : SizeErr) → k ≡ Err e → (N : Names) (types : Sub) (σ : matching.Found) → Holds before σ → Chained ls any_last → Steps (λ (u : Unit {0}) (y : Unit {0}). y ≡ u) (all_noted N types (laters_of ls) σ) f h (Err e)
  noted_stop e is N types σ holds chained = record { steps = λ s stands. no_next N types (all_noted N types (laters_of ls) σ s) (so_far N types σ holds chained s stands) e is }

pub noted_end : (ls : List laters.Later) (before table : Found) (f g : Tables) (last : Option Seen) (i : ℕ) → So_noted ls before f table g last i → length ls ≤ i → (N : Names) (types : Sub) (σ : matching.Found) → Holds before σ → Chained ls any_last → Steps (λ (u : Unit {0}) (y : Unit {0}). y ≡ u) (all_noted N types (laters_of ls) σ) f g (Ok tt)
noted_end ls before table f g last i so_far l N types σ holds chained = record {
  steps = λ s stands.
      let far : Noted_far N types (all_noted N types (laters_of ls) σ s) g table last (drop i ls) = so_far N types σ holds chained s stands in
      runs far.state (far.same ∙ ap (λ z. all_noted N types (laters_of z) far.found far.state) (drop_of_length-le ls l)) refl far.stands;
}

-- ---- the whole

module _ (N : Names) (types : Sub) (n : ℕ) (ls : List Later) (σ : matching.Found) (f g h : Tables) (whole : Bor SizeTree) (k : Noted) (all : Steps (λ (u : Unit {0}) (y : Unit {0}). y ≡ u) (all_noted N types ls σ) f g k) where
  pub whole_first_stop : (e : SizeErr) → k ≡ Err e → Steps (λ (t : Bor SizeTree) (y : Size). y ≡ size_of t.now) (and_then (all_noted N types ls σ) (λ z. note n (size_of whole.now))) f g (Err e)
  whole_first_stop e stop = steps_stop (λ (u : Unit {0}) (y : Unit {0}). y ≡ u) (λ (t : Bor SizeTree) (y : Size). y ≡ size_of t.now) (all_noted N types ls σ) (λ z. note n (size_of whole.now)) f g g k e stop all

  module _ (j : Noted) (last : Steps (λ (u : Unit {0}) (y : Size). y ≡ size_of whole.now) (note n (size_of whole.now)) g h j) (done : k ≡ Ok tt) where
    pub whole_noted : j ≡ Ok tt → Steps (λ (t : Bor SizeTree) (y : Size). y ≡ size_of t.now) (and_then (all_noted N types ls σ) (λ z. note n (size_of whole.now))) f h (Ok whole)
    whole_noted noted = steps_then (λ (u : Unit {0}) (y : Unit {0}). y ≡ u) (λ (t : Bor SizeTree) (y : Size). y ≡ size_of t.now) (all_noted N types ls σ) (λ z. note n (size_of whole.now)) f g h k tt (Ok whole) done all
        (λ y related. weaker (λ (u : Unit {0}) (y : Size). y ≡ size_of whole.now) (λ (t : Bor SizeTree) (y : Size). y ≡ size_of t.now) (note n (size_of whole.now)) g h j tt whole noted (λ a e. e) last)

    pub whole_stop : (e : SizeErr) → j ≡ Err e → Steps (λ (t : Bor SizeTree) (y : Size). y ≡ size_of t.now) (and_then (all_noted N types ls σ) (λ z. note n (size_of whole.now))) f h (Err e)
    whole_stop e stop = steps_then (λ (u : Unit {0}) (y : Unit {0}). y ≡ u) (λ (t : Bor SizeTree) (y : Size). y ≡ size_of t.now) (all_noted N types ls σ) (λ z. note n (size_of whole.now)) f g h k tt (Err e) done all
        (λ y related. stopped (λ (u : Unit {0}) (y : Size). y ≡ size_of whole.now) (λ (t : Bor SizeTree) (y : Size). y ≡ size_of t.now) (note n (size_of whole.now)) g h j e stop last)

-- what is noted is closed
pub result_told : (N : Names) (types : Sub) (n : ℕ) (size : Size) (goes_on : Bool) (ls : List Later) (σ : matching.Found) (f g : Tables) (t : Size) (r : Result (Bor SizeTree) SizeErr) → t ≡ closed goes_on (all_settled size σ).maker (read (all_settled size σ) size)
    → Steps (λ (t : Bor SizeTree) (y : Size). y ≡ size_of t.now) (and_then (all_noted N types ls (all_settled size σ)) (λ z. note n t)) f g r
    → Steps (λ (t : Bor SizeTree) (y : Size). y ≡ size_of t.now) (met_noted N types n (record { size = size; found = σ; later = ls; goes_on = goes_on })) f g r
result_told N types n size goes_on ls σ f g t r is h = subst (λ u. Steps (λ (t : Bor SizeTree) (y : Size). y ≡ size_of t.now) (and_then (all_noted N types ls (all_settled size σ)) (λ z. note n u)) f g r) is h

pub closed_goes_on : (n : ℕ → ℕ) (t u : Size) → t ≡ closed true n u → t ≡ quantified n u
unfolding closed
closed_goes_on n t u is = is

-- ---- what an application is over with

pub is_chained : (table : Found) (a : Application) (m : Met) → Is_met table a m → (ls : List laters.Later) → ls ≡ a.later → Chained ls any_last
is_chained table a m is ls e = subst (λ z. Chained z any_last) (sym e) is.chained

module _ (N : Names) (types : Sub) (n : ℕ) (table : Found) (a : Application) (f g : Tables) (r : Result (Bor SizeTree) SizeErr) (m : Met) (is : Is_met table a m) where
  met_by : (ls ks : List Later) → ls ≡ ks → Steps (λ (t : Bor SizeTree) (y : Size). y ≡ size_of t.now) (met_noted N types n (record { size = size_of a.gives.size.now; found = m.found; later = ls; goes_on = a.gives.goes_on })) f g r
      → Steps (λ (t : Bor SizeTree) (y : Size). y ≡ size_of t.now) (met_noted N types n (record { size = m.size; found = m.found; later = ks; goes_on = m.goes_on })) f g r
  met_by ls ks e h = subst (λ z. Steps (λ (t : Bor SizeTree) (y : Size). y ≡ size_of t.now) (met_noted N types n (record { size = m.size; found = m.found; later = ks; goes_on = z })) f g r) is.goes_on
      (subst (λ z. Steps (λ (t : Bor SizeTree) (y : Size). y ≡ size_of t.now) (met_noted N types n (record { size = m.size; found = m.found; later = z; goes_on = a.gives.goes_on })) f g r) e
      (subst (λ z. Steps (λ (t : Bor SizeTree) (y : Size). y ≡ size_of t.now) (met_noted N types n (record { size = z; found = m.found; later = ls; goes_on = a.gives.goes_on })) f g r) is.size h))

  pub met_told : (ls : List laters.Later) → ls ≡ a.later → Steps (λ (t : Bor SizeTree) (y : Size). y ≡ size_of t.now) (met_noted N types n (record { size = size_of a.gives.size.now; found = m.found; later = laters_of ls; goes_on = a.gives.goes_on })) f g r
      → Steps (λ (t : Bor SizeTree) (y : Size). y ≡ size_of t.now) (met_noted N types n m) f g r
  met_told ls e h = met_by (laters_of ls) m.later (ap laters_of e ∙ is.later) h

  pub composed_told : (ls ks : List laters.Later) → ls ≡ a.later → laters_of ks ≡ without_two (laters_of ls) → Steps (λ (t : Bor SizeTree) (y : Size). y ≡ size_of t.now) (met_noted N types n (record { size = size_of a.gives.size.now; found = m.found; later = laters_of ks; goes_on = a.gives.goes_on })) f g r
      → Steps (λ (t : Bor SizeTree) (y : Size). y ≡ size_of t.now) (met_noted N types n (record { size = m.size; found = m.found; later = without_two m.later; goes_on = m.goes_on })) f g r
  composed_told ls ks e w h = met_by (laters_of ks) (without_two m.later) (w ∙ ap (λ z. without_two (laters_of z)) e ∙ ap without_two is.later) h

-- ---- but the first two

abbrev pub But_two : List laters.Later → List laters.Later → Type 0
But_two ls ks = (laters_of ks ≡ without_two (laters_of ls)) × (Chained ls any_last → Chained ks any_last)

none_but : (ls ks : List laters.Later) → ks ≡ drop (length ls) ls → Chained ks any_last
none_but ls ks e = subst (λ z. Chained z any_last) (sym (e ∙ drop_of_length-le ls (omega arith))) tt

few : (ls ks : List laters.Later) → length ls < 2 → ks ≡ drop (length ls) ls → But_two ls ks
few [] ks l e = (ap laters_of e, λ c. none_but [] ks e)
few (x ∷ []) ks l e = (ap laters_of e, λ c. none_but (x ∷ []) ks e)
few (x ∷ y ∷ ls) ks l e = absurd (omega (arith, l))

many : (ls ks : List laters.Later) → 2 ≤ length ls → ks ≡ drop 2 ls → But_two ls ks
many [] ks l e = absurd (omega (arith, l))
many (x ∷ []) ks l e = absurd (omega (arith, l))
many (x ∷ y ∷ ls) ks l e = (ap laters_of e, λ c. subst (λ z. Chained z any_last) (sym e) (chained_behind any_last y ls (chained_behind any_last x (y ∷ ls) c)))

pub few_told : (ls ks : List laters.Later) → length ls < 2 → ks ≡ drop (length ls) ls → laters_of ks ≡ without_two (laters_of ls)
few_told ls ks l e = (few ls ks l e).0

pub many_told : (ls ks : List laters.Later) → 2 ≤ length ls → ks ≡ drop 2 ls → laters_of ks ≡ without_two (laters_of ls)
many_told ls ks l e = (many ls ks l e).0

pub few_chained : (ls ks : List laters.Later) → length ls < 2 → ks ≡ drop (length ls) ls → Chained ls any_last → Chained ks any_last
few_chained ls ks l e = (few ls ks l e).1

pub many_chained : (ls ks : List laters.Later) → 2 ≤ length ls → ks ≡ drop 2 ls → Chained ls any_last → Chained ks any_last
many_chained ls ks l e = (many ls ks l e).1

pub ruleset fewer = (few_told, many_told, few_chained, many_chained)
