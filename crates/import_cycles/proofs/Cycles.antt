-- The first file that leads to itself, of files and of the numbers that tell them.
use Rattle.std.proofs.Common.{◌≡◌, ℕ, zero, suc, ◌+◌, ◌-◌, ◌<◌, ◌≤◌, List, ◌∷◌, length, sym, subst, arith, ◌⊎◌, inl, inr, Some, None}
use Rattle.std.specs.List.{range_with_len}
use Rattle.std.proofs.lemmas.Bool.{cases_lt}
use Rattle.elab_scopes.specs.Imports.{Source_file}
use Rattle.file_order.specs.Order.{Among, First_cycle, itself, behind, Leads, imports, through}
use Rattle.import_cycles.specs.Graphs.{Are_imports, Cycle_is, Leads_in, at_once, later_on, Rows}

pub leads_files : (fs : List Source_file) (rs : Rows) → Are_imports fs rs → (to from : ℕ) → Leads_in rs to from → Leads fs to from
leads_files fs rs is to from (at_once a) = imports (subst (Among to) (is from) a)
leads_files fs rs is to from (later_on {j = j} a l) = through (subst (Among j) (is from) a) (leads_files fs rs is to j l)

pub files_lead : (fs : List Source_file) (rs : Rows) → Are_imports fs rs → (to from : ℕ) → Leads fs to from → Leads_in rs to from
files_lead fs rs is to from (imports a) = at_once (subst (Among to) (sym (is from)) a)
files_lead fs rs is to from (through {j = j} a l) = later_on (subst (Among j) (sym (is from)) a) (files_lead fs rs is to j l)

-- from a number on, no one before it in the row leads to itself
first_from : (fs : List Source_file) (k from n : ℕ) → from ≤ k → k < from + n → ((j : ℕ) → from ≤ j → j < k → Leads fs j j → ⊥) → Leads fs k k → First_cycle fs k (range_with_len from n)
first_from fs k from zero ge lt none l = absurd (omega (arith, ge, lt))
first_from fs k from (suc n) ge lt none l = by_order (cases_lt from k) (λ gt. first_from fs k (from + 1) n (omega (arith, gt)) (omega (arith, lt)) (λ j a b. none j (omega (arith, a)) b) l)
  where
    same : k ≤ from → from ≡ k
    same le = omega (arith, ge, le)

    by_order : (from < k) ⊎ (k ≤ from) → (from < k → First_cycle fs k (range_with_len (from + 1) n)) → First_cycle fs k (from ∷ range_with_len (from + 1) n)
    by_order (inl gt) rest = behind (none from (omega arith) gt) (rest gt)
    by_order (inr le) rest = subst (λ z. First_cycle fs k (z ∷ range_with_len (from + 1) n)) (sym (same le)) (itself l)

pub cycle_found : (rs : Rows) (k : ℕ) → 1 ≤ k → k < length rs → ((j : ℕ) → 1 ≤ j → j < k → Leads_in rs j j → ⊥) → Leads_in rs k k → (fs : List Source_file) → Are_imports fs rs → Cycle_is fs (length rs) (Some k)
cycle_found rs k ge lt none l fs is = first_from fs k 1 (length rs - 1) ge (omega (arith, lt, ge)) (λ j a b m. none j a b (files_lead fs rs is j j m)) (leads_files fs rs is k k l)

pub no_cycle : (rs : Rows) (n : ℕ) → length rs ≤ n → ((j : ℕ) → 1 ≤ j → j < n → Leads_in rs j j → ⊥) → (fs : List Source_file) → Are_imports fs rs → Cycle_is fs (length rs) None
no_cycle rs n le none fs is k ge lt l = none k ge (omega (arith, lt, le)) (files_lead fs rs is k k l)

-- one more file leads not to itself
pub one_more : (rs : Rows) (n : ℕ) → ((j : ℕ) → 1 ≤ j → j < n → Leads_in rs j j → ⊥) → (Leads_in rs n n → ⊥) → (j : ℕ) → 1 ≤ j → j < n + 1 → Leads_in rs j j → ⊥
one_more rs n none not j ge lt l = by_order (cases_lt j n)
  where
    same : n ≤ j → j ≡ n
    same le = omega (arith, lt, le)

    by_order : (j < n) ⊎ (n ≤ j) → ⊥
    by_order (inl b) = none j ge b l
    by_order (inr le) = not (subst (λ z. Leads_in rs z z) (same le) l)
