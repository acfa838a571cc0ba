-- Lists of numbers and demands, one after another.
use Rattle.std.proofs.Common.{◌≡◌, ℕ, suc, ◌+◌, ◌-◌, ◌≤◌, ◌<◌, List, [], ◌∷◌, ◌++◌, length, drop, slice_index_or, refl, sym, ◌∙◌, ap, arith, append_assoc}
use Rattle.type_graph.specs.Graph.{numbers}
use Rattle.type_rules.specs.declared.demand.Demand.{Demand}
use Rattle.type_rules.specs.declared.demand.Demand.TheVariants as demand
use Rattle.type_rules.proofs.Filling.{drop_next, drop_all, step_more, end_of}
use Rattle.type_rules.specs.Records.{part_demands}

numbers_cons : (first n m : ℕ) → n ≡ suc m → numbers first n ≡ first ∷ numbers (suc first) m
unfolding numbers
numbers_cons first n m e = ap (numbers first) e

numbers_none : (first n : ℕ) → n ≡ 0 → numbers first n ≡ []
unfolding numbers
numbers_none first n e = ap (numbers first) e

append_none : (xs : List ℕ) → xs ≡ xs ++ []
append_none [] = refl
append_none (x ∷ xs) = ap (λ l. x ∷ l) (append_none xs)

pub number_step : (xs ys all : List ℕ) (first count at : ℕ) → at < count → ys ≡ xs ++ (first + at) ∷ [] → xs ++ numbers (first + at) (count - at) ≡ all → ys ++ numbers (first + (at + 1)) (count - (at + 1)) ≡ all
number_step xs ys all first count at lt is h = ap (λ l. l ++ numbers (first + (at + 1)) (count - (at + 1))) is ∙ append_assoc xs ((first + at) ∷ []) (numbers (first + (at + 1)) (count - (at + 1)))
    ∙ ap (λ n. xs ++ (first + at) ∷ numbers n (count - (at + 1))) (let e : first + (at + 1) ≡ suc (first + at) = omega arith in e) ∙ ap (λ l. xs ++ l) (sym (numbers_cons (first + at) (count - at) (count - (at + 1)) (omega arith))) ∙ h

pub number_end : (xs all : List ℕ) (first count at : ℕ) → count ≤ at → xs ++ numbers (first + at) (count - at) ≡ all → xs ≡ all
number_end xs all first count at le h = append_none xs ∙ ap (λ l. xs ++ l) (sym (numbers_none (first + at) (count - at) (omega arith))) ∙ h

pub number_start : (first count : ℕ) (xs : List ℕ) → xs ≡ [] → xs ++ numbers (first + 0) (count - 0) ≡ numbers first count
number_start first count xs e = ap (λ l. l ++ numbers (first + 0) (count - 0)) e ∙ (λ i. numbers ((let p : first + 0 ≡ first = omega arith in p) i) ((let q : count - 0 ≡ count = omega arith in q) i))

parts_cons : (id l p : ℕ) (ls ps : List ℕ) → part_demands id (l ∷ ls) (p ∷ ps) ≡ demand.Part id l p ∷ part_demands id ls ps
unfolding part_demands
parts_cons id l p ls ps = refl

parts_none : (id : ℕ) (ps : List ℕ) → part_demands id [] ps ≡ []
unfolding part_demands
parts_none id ps = refl

module _ (xs all : List Demand) (id : ℕ) (ls ps : List ℕ) (at : ℕ) where
  pub part_step : (ys : List Demand) → length ps ≡ length ls → at < length ls → ys ≡ xs ++ demand.Part id (slice_index_or ls at 0) (slice_index_or ps at 0) ∷ [] → xs ++ part_demands id (drop at ls) (drop at ps) ≡ all
      → ys ++ part_demands id (drop (at + 1) ls) (drop (at + 1) ps) ≡ all
  part_step ys long lt is h = step_more xs ys (part_demands id (drop at ls) (drop at ps)) (part_demands id (drop (at + 1) ls) (drop (at + 1) ps)) all (demand.Part id (slice_index_or ls at 0) (slice_index_or ps at 0) ∷ []) is
      ((λ i. part_demands id (drop_next ls at 0 lt i) (drop_next ps at 0 (let q : at < length ps = omega arith in q) i)) ∙ parts_cons id (slice_index_or ls at 0) (slice_index_or ps at 0) (drop (at + 1) ls) (drop (at + 1) ps)) h

  pub part_end : length ls ≤ at → xs ++ part_demands id (drop at ls) (drop at ps) ≡ all → xs ≡ all
  part_end le h = end_of xs (part_demands id (drop at ls) (drop at ps)) all (ap (λ l. part_demands id l (drop at ps)) (drop_all ls at le) ∙ parts_none id (drop at ps)) h
