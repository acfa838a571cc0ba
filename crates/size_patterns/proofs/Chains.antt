-- Answers and steps in a row.
use Rattle.std.proofs.Common.{◌≡◌, Result, Ok, Err, refl, sym, ap, ◌∙◌, subst}
use Rattle.fut_sizes.specs.Agreeing.{Answer, then_do}
use Rattle.fut_sizes.specs.Steps.{State, Done, Step, give, and_then}
use Rattle.size_arena.specs.declared.agreeing.SizeErr.{SizeErr}
use Rattle.size_program.specs.declared.tables.Tables.{Tables}
use Rattle.size_program.specs.Answers.{Answers, answers, Runs, runs, Steps}
use Rattle.size_program.specs.Tables.{Stands}
use Rattle.size_program.proofs.StepLaws.{answered, answered_not, ran, ran_not}

-- what is left of a row, from what is so far
pub record Reaches {A B : Type 0} (so : A → Type 0) (whole : B) (rest : A → B) : Type 0 where
  pub now : A
  pub here : so now
  pub same : whole ≡ rest now

pub reach_start : {A B : Type 0} (so : A → Type 0) (rest : A → B) (a : A) → so a → Reaches so (rest a) rest
reach_start so rest a h = record { now = a; here = h; same = refl }

-- ---- answers

module _ {A B C X : Type 0} (so : A → Type 0) (whole : Answer C) (rest : A → Answer C) (step : A → Answer B) (next : B → Answer C) (R : X → B → Type 0) (k : Result X SizeErr)
    (reached : Reaches so whole rest) (first : (a : A) → so a → Answers R (step a) k) (is_next : (a : A) → so a → rest a ≡ then_do (step a) next) where
  pub reach_more : (x : X) → k ≡ Ok x → Reaches (R x) whole next
  reach_more x is =
      let d = answered R (step reached.now) k (first reached.now reached.here) x is in
      record { now = d.result; here = d.related; same = reached.same ∙ is_next reached.now reached.here ∙ ap (λ z. then_do z next) d.is }

  pub reach_stop : {D : Type 0} (Q : D → C → Type 0) (x : SizeErr) → k ≡ Err x → Answers Q whole (Err x)
  reach_stop Q x is = subst (λ z. Answers Q z (Err x)) (sym (reached.same ∙ is_next reached.now reached.here)) (answered_not R (step reached.now) k (first reached.now reached.here) Q next x is)

-- what is reached may be said otherwise
pub reach_as : {A B : Type 0} (so other : A → Type 0) (whole : B) (rest : A → B) → ((a : A) → so a → other a) → Reaches so whole rest → Reaches other whole rest
reach_as so other whole rest h r = record { now = r.now; here = h r.now r.here; same = r.same }

-- nothing is left
pub reach_end : {A X : Type 0} (so : A → Type 0) (whole : Answer A) (rest : A → Answer A) (Q : X → A → Type 0) (x : X) → Reaches so whole rest → ((a : A) → rest a ≡ Ok a) → ((a : A) → so a → Q x a) → Answers Q whole (Ok x)
reach_end so whole rest Q x r e h = answers (r.same ∙ e r.now) (h r.now r.here)

-- ---- steps

-- what is left of a step, from tables on
pub record Goes {A : Type 0} (f g : Tables) (whole rest : Step A) : Type 0 where
  pub goes : (s : State) → Stands f s → Reaches (Stands g) (whole s) rest

pub goes_start : {A : Type 0} (f : Tables) (m : Step A) → Goes f f m m
goes_start f m = record { goes = λ s stands. record { now = s; here = stands; same = refl } }

module _ {A B X : Type 0} (R : X → B → Type 0) (f g h : Tables) (whole rest next : Step A) (m : Step B) (k : Result X SizeErr)
    (reached : Goes f g whole rest) (first : Steps R m g h k) (is_next : (s : State) → rest s ≡ and_then m (λ z. next) s) where
  pub goes_more : (x : X) → k ≡ Ok x → Goes f h whole next
  goes_more x is = record {
    goes = λ s stands.
        let r = reached.goes s stands in
        let d = ran R (m r.now) h k (first.steps r.now r.here) x is in
        record { now = d.state; here = d.stands; same = r.same ∙ is_next r.now ∙ ap (λ z. then_do z (λ (d : Done B). next d.state)) d.is };
  }

  pub goes_stop : {D : Type 0} (Q : D → A → Type 0) (x : SizeErr) → k ≡ Err x → Steps Q whole f h (Err x)
  goes_stop Q x is = record {
    steps = λ s stands.
        let r = reached.goes s stands in
        subst (λ z. Runs Q z h (Err x)) (sym (r.same ∙ is_next r.now)) (ran_not R (m r.now) h k (first.steps r.now r.here) Q (λ (d : Done B). next d.state) h x is);
  }

pub goes_end : {A X : Type 0} (Q : X → A → Type 0) (f g : Tables) (whole rest : Step A) (x : X) (y : A) → Goes f g whole rest → ((s : State) → rest s ≡ give y s) → Q x y → Steps Q whole f g (Ok x)
goes_end Q f g whole rest x y reached e h = record {
  steps = λ s stands. let r = reached.goes s stands in runs r.now (r.same ∙ e r.now) h r.here;
}
