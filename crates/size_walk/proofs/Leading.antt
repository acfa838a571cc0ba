-- Loops of steps: how far code has come, and what is left.
use Rattle.std.proofs.Common.{◌≡◌, Result, Ok, refl, sym, ap, ◌∙◌, subst}
use Rattle.fut_sizes.specs.Agreeing.{Answer, then_do}
use Rattle.fut_sizes.specs.Steps.{State, Done, Step, and_then}
use Rattle.size_arena.specs.declared.agreeing.SizeErr.{SizeErr}
use Rattle.size_program.specs.declared.tables.Tables.{Tables}
use Rattle.size_program.specs.Tables.{Stands}
use Rattle.size_program.specs.Answers.{Runs, Steps}
use Rattle.size_program.proofs.StepLaws.{ran}

-- a step has come to another state, where code has X and this is left of the step
pub record Lead {A X : Type 0} (Now : X → Type 0) (rest : X → Step A) (now : Tables) (a : Answer (Done A)) : Type 0 where
  pub at : X
  pub holds : Now at
  pub state : State
  pub stands : Stands now state
  pub is : a ≡ rest at state

pub record Leads {A X : Type 0} (Now : X → Type 0) (step : Step A) (rest : X → Step A) (old now : Tables) : Type 0 where
  pub leads : (s : State) → Stands old s → Lead Now rest now (step s)

module _ {A X : Type 0} (Now : X → Type 0) (rest : X → Step A) where
  pub leads_start : (x : X) → Now x → (f : Tables) → Leads Now (rest x) rest f f
  leads_start x now f = record { leads = λ s stands. record { at = x; holds = now; state = s; stands = stands; is = refl } }

  module _ (step : Step A) (f g h : Tables) (so_far : Leads Now step rest f g) where
    -- and further
    pub leads_on : {Y : Type 0} (Later : Y → Type 0) (after : Y → Step A) → ((x : X) → Now x → Leads Later (rest x) after g h) → Leads Later step after f h
    leads_on Later after more = record {
      leads = λ s stands.
          let l = so_far.leads s stands in
          let m = (more l.at l.holds).leads l.state l.stands in
          record { at = m.at; holds = m.holds; state = m.state; stands = m.stands; is = l.is ∙ m.is };
    }

    -- to the end
    pub leads_to : {B : Type 0} (R : B → A → Type 0) (r : Result B SizeErr) → ((x : X) → Now x → Steps R (rest x) g h r) → Steps R step f h r
    leads_to R r last = record {
      steps = λ s stands.
          let l = so_far.leads s stands in
          subst (λ z. Runs R z h r) (sym l.is) ((last l.at l.holds).steps l.state l.stands);
    }

-- a step that ran, and what follows
module _ {A B C Y : Type 0} (R : B → A → Type 0) (m : Step A) (next : A → Step C) (Later : Y → Type 0) (after : Y → Step C) (f g h : Tables) where
  pub then_leads : (k : Result B SizeErr) (x : B) → k ≡ Ok x → Steps R m f g k → ((a : A) → R x a → Leads Later (next a) after g h) → Leads Later (and_then m next) after f h
  then_leads k x is first rest = record {
    leads = λ s stands.
        let d = ran R (m s) g k (first.steps s stands) x is in
        let l = (rest d.result d.related).leads d.state d.stands in
        record { at = l.at; holds = l.holds; state = l.state; stands = l.stands; is = ap (λ z. then_do z (λ d. next d.result d.state)) d.is ∙ l.is };
  }

-- another step that does the same
pub same_lead : {A X : Type 0} (Now : X → Type 0) (rest : X → Step A) (m n : Step A) (f g : Tables) → ((s : State) → n s ≡ m s) → Leads Now m rest f g → Leads Now n rest f g
same_lead Now rest m n f g same first = record {
  leads = λ s stands. let l = first.leads s stands in record { at = l.at; holds = l.holds; state = l.state; stands = l.stands; is = same s ∙ l.is };
}
