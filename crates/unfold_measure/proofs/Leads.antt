-- A walk that goes on: what is left of something, from what it has had.
use Rattle.std.proofs.Common.{◌≡◌, ℕ, suc, ◌+◌, ◌++◌, max, true, List, [], ◌∷◌, Some, sym, subst, arith}
use Rattle.std.proofs.Common.{append_assoc}
use Rattle.fut_scalar.specs.declared.place.BindId.{BindId}
use Rattle.fut_flat.specs.declared.prim.Ref.{Ref}
use Rattle.fut_flat.specs.Erased.{FlatTerm, terms}
use Rattle.fut_flat.specs.Terms.{Binding, Let}
use Rattle.fut_meaning.specs.Knowns.{Known, Data, Knowns, Scope, known_bound}
use Rattle.fut_meaning.specs.Walk.{is_let, Visits, All_visits, v_more, Row_visits, v_let, Runs, Given_visits, g_more, Function_visits, f_applied}
use Rattle.fut_meaning.specs.Comes.{Inside_all, in_rest, Inside_row, in_next, Inside_given, in_later, Inside_function, in_applied_on, Stuck_given, stuck_later, Stuck_function, stuck_on, no_pattern_later}
use Rattle.unfold_measure.specs.Held.{knowns}
use Rattle.unfold_measure.specs.Answers.{Leads}

-- nothing was had so far
from_none : (P : ℕ → ℕ → Type 0) (m d : ℕ) → P m d → P (0 + m) (max 0 d)
from_none P m d x = subst (λ z. P z (max 0 d)) (omega arith) (subst (λ z. P m z) (omega arith) x)

from_zero : (P : ℕ → Type 0) (n : ℕ) → P n → P (0 + n)
from_zero P n x = subst P (omega arith) x

-- ---- rows

pub leads_start : {tops sc : Scope} {e : FlatTerm} → Leads tops sc e 0 0 sc e
leads_start {tops} {sc} {e} = record { visits = λ s m d v. from_none (Row_visits tops sc e s) m d v; inside = λ n inner t i. from_zero (λ z. Inside_row tops sc e z inner t) n i; stuck = λ s. s }

pub leads_on : {tops sc sc1 sc2 : Scope} {e e1 e2 : FlatTerm} {n1 d1 n2 d2 : ℕ} → Leads tops sc e n1 d1 sc1 e1 → Leads tops sc1 e1 n2 d2 sc2 e2 → Leads tops sc e (n1 + n2) (max d1 d2) sc2 e2
leads_on {tops} {sc} {e = e} {n1 = n1} {d1} {n2} {d2} a b = record {
  visits = λ s m d v. subst (λ z. Row_visits tops sc e s z (max (max d1 d2) d)) (omega arith) (subst (λ z. Row_visits tops sc e s (n1 + (n2 + m)) z) (omega arith) (a.visits s (n2 + m) (max d2 d) (b.visits s m d v)));
  inside = λ n inner t i. subst (λ z. Inside_row tops sc e z inner t) (omega arith) (a.inside (n2 + n) inner t (b.inside n inner t i));
  stuck = λ s. a.stuck (b.stuck s);
}

pub leads_let : {tops sc inner : Scope} {b : Binding Ref BindId} {v e : FlatTerm} {s : Known} {m d : ℕ} → is_let (Let b v e) ≡ true → Visits tops sc v s m d → known_bound b.pattern s sc ≡ Some inner → Leads tops sc (Let b v e) m d inner e
leads_let l v h = record { visits = λ s m d r. v_let l v h r; inside = λ n inner t i. in_next l v h i; stuck = λ s. no_pattern_later l v h s }

-- ---- functions applied to data

pub record Function_leads (tops : Scope) (k : ℕ) (h : Known) (nodes depth k' : ℕ) (h' : Known) : Type 0 where
  pub visits : (m d : ℕ) → Function_visits tops k' h' m d → Function_visits tops k h (nodes + m) (max depth d)
  pub inside : (n : ℕ) (sc : Scope) (t : FlatTerm) → Inside_function tops k' h' n sc t → Inside_function tops k h (nodes + n) sc t
  pub stuck : Stuck_function tops k' h' → Stuck_function tops k h

pub function_start : {tops : Scope} {k : ℕ} {h : Known} → Function_leads tops k h 0 0 k h
function_start {tops} {k} {h} = record { visits = λ m d v. from_none (Function_visits tops k h) m d v; inside = λ n sc t i. from_zero (λ z. Inside_function tops k h z sc t) n i; stuck = λ s. s }

pub function_on : {tops : Scope} {k k' : ℕ} {h h' : Known} {n d : ℕ} {s : Known} {m1 d1 : ℕ} → Function_leads tops k h n d (suc k') h' → Runs tops h' Data s m1 d1 → Function_leads tops k h (n + m1) (max d d1) k' s
function_on {tops} {k} {h = h} {n = n} {d} {m1 = m1} {d1} a r = record {
  visits = λ m e v. subst (λ z. Function_visits tops k h z (max (max d d1) e)) (omega arith) (subst (λ z. Function_visits tops k h (n + (m1 + m)) z) (omega arith) (a.visits (m1 + m) (max d1 e) (f_applied r v)));
  inside = λ j sc t i. subst (λ z. Inside_function tops k h z sc t) (omega arith) (a.inside (m1 + j) sc t (in_applied_on r i));
  stuck = λ s. a.stuck (stuck_on r s);
}

-- ---- the arguments of a primitive

pub record Given_leads (tops : Scope) (ks : List ℕ) (ss : Knowns) (nodes depth : ℕ) (ks' : List ℕ) (ss' : Knowns) : Type 0 where
  pub visits : (m d : ℕ) → Given_visits tops ks' ss' m d → Given_visits tops ks ss (nodes + m) (max depth d)
  pub inside : (n : ℕ) (sc : Scope) (t : FlatTerm) → Inside_given tops ks' ss' n sc t → Inside_given tops ks ss (nodes + n) sc t
  pub stuck : Stuck_given tops ks' ss' → Stuck_given tops ks ss

pub given_start : {tops : Scope} {ks : List ℕ} {ss : Knowns} → Given_leads tops ks ss 0 0 ks ss
given_start {tops} {ks} {ss} = record { visits = λ m d v. from_none (Given_visits tops ks ss) m d v; inside = λ n sc t i. from_zero (λ z. Inside_given tops ks ss z sc t) n i; stuck = λ s. s }

pub given_on : {tops : Scope} {ks ks' : List ℕ} {ss ss' : Knowns} {k : ℕ} {s : Known} {n d m1 d1 : ℕ} → Given_leads tops ks ss n d (k ∷ ks') (Rattle.fut_meaning.specs.Knowns.known_and s ss') → Function_visits tops k s m1 d1 → Given_leads tops ks ss (n + m1) (max d d1) ks' ss'
given_on {tops} {ks} {ss = ss} {n = n} {d} {m1} {d1} a r = record {
  visits = λ m e v. subst (λ z. Given_visits tops ks ss z (max (max d d1) e)) (omega arith) (subst (λ z. Given_visits tops ks ss (n + (m1 + m)) z) (omega arith) (a.visits (m1 + m) (max d1 e) (g_more r v)));
  inside = λ j sc t i. subst (λ z. Inside_given tops ks ss z sc t) (omega arith) (a.inside (m1 + j) sc t (in_later r i));
  stuck = λ s. a.stuck (stuck_later r s);
}

-- ---- parts

pub record All_lead (tops sc : Scope) (ts : List FlatTerm) (nodes depth : ℕ) (done : List Known) (rest : List FlatTerm) : Type 0 where
  pub visits : (ss : List Known) (m d : ℕ) → All_visits tops sc (terms rest) (knowns ss) m d → All_visits tops sc (terms ts) (knowns (done ++ ss)) (nodes + m) (max depth d)
  pub inside : (n : ℕ) (sc' : Scope) (t : FlatTerm) → Inside_all tops sc (terms rest) n sc' t → Inside_all tops sc (terms ts) (nodes + n) sc' t

pub all_start : {tops sc : Scope} {ts : List FlatTerm} → All_lead tops sc ts 0 0 [] ts
all_start {tops} {sc} {ts} = record { visits = λ ss m d v. from_none (All_visits tops sc (terms ts) (knowns ss)) m d v; inside = λ n sc' t i. from_zero (λ z. Inside_all tops sc (terms ts) z sc' t) n i }

pub all_on : {tops sc : Scope} {ts rest : List FlatTerm} {t : FlatTerm} {n d : ℕ} {done : List Known} {s : Known} {m1 d1 : ℕ} → All_lead tops sc ts n d done (t ∷ rest) → Visits tops sc t s m1 d1 → All_lead tops sc ts (n + m1) (max d d1) (done ++ s ∷ []) rest
unfolding terms knowns
all_on {tops} {sc} {ts} {n = n} {d} {done} {s} {m1} {d1} a r = record {
  visits = λ ss m e v. subst (λ z. All_visits tops sc (terms ts) (knowns z) (n + m1 + m) (max (max d d1) e)) (sym (append_assoc done (s ∷ []) ss)) (subst (λ z. All_visits tops sc (terms ts) (knowns (done ++ s ∷ ss)) z (max (max d d1) e)) (omega arith) (subst (λ z. All_visits tops sc (terms ts) (knowns (done ++ s ∷ ss)) (n + (m1 + m)) z) (omega arith) (a.visits (s ∷ ss) (m1 + m) (max d1 e) (v_more r v))));
  inside = λ j sc' t i. subst (λ z. Inside_all tops sc (terms ts) z sc' t) (omega arith) (a.inside (m1 + j) sc' t (in_rest r i));
}
