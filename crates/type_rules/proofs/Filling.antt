-- Lists of demands, one after another.
use Rattle.std.proofs.Common.{◌≡◌, ℕ, zero, suc, ◌+◌, ◌-◌, ◌≤◌, ◌<◌, List, [], ◌∷◌, ◌++◌, length, drop, slice_index_or, refl, sym, ◌∙◌, ap, subst, arith, append_assoc}
use Rattle.fut_scalar.specs.declared.scalar.ScalarType.TheVariants as scalar
use Rattle.fut_scalar.specs.declared.scalar.IntType.TheVariants as int
use Rattle.fut_flat.specs.declared.act.Part.{Part}
use Rattle.fut_types.specs.declared.Kind.{Kind}
use Rattle.type_rules.specs.declared.demand.Demand.{Demand}
use Rattle.type_rules.specs.declared.demand.Demand.TheVariants as demand
use Rattle.type_rules.specs.Lists.{all_same, all_sizes, left_demand, index_demands, update_demands, function_demands}

drop_suc : {X : Type 0} (xs : List X) (at : ℕ) (d : X) → at < length xs → drop at xs ≡ slice_index_or xs at d ∷ drop (suc at) xs
drop_suc [] at d h = absurd (omega arith)
drop_suc (x ∷ xs) zero d h = refl
drop_suc (x ∷ xs) (suc at) d h = drop_suc xs at d (omega arith)

pub drop_next : {X : Type 0} (xs : List X) (at : ℕ) (d : X) → at < length xs → drop at xs ≡ slice_index_or xs at d ∷ drop (at + 1) xs
drop_next xs at d h = drop_suc xs at d h ∙ ap (λ n. slice_index_or xs at d ∷ drop n xs) (let e : suc at ≡ at + 1 = omega arith in e)

pub drop_all : {X : Type 0} (xs : List X) (at : ℕ) → length xs ≤ at → drop at xs ≡ []
drop_all [] zero h = refl
drop_all [] (suc at) h = refl
drop_all (x ∷ xs) zero h = absurd (omega arith)
drop_all (x ∷ xs) (suc at) h = drop_all xs at (omega arith)

append_none : {X : Type 0} (xs : List X) → xs ++ [] ≡ xs
append_none [] = refl
append_none (x ∷ xs) = ap (λ l. x ∷ l) (append_none xs)

-- what is added is what comes next of the rest
pub step_more : (xs ys rest rest' all added : List Demand) → ys ≡ xs ++ added → rest ≡ added ++ rest' → xs ++ rest ≡ all → ys ++ rest' ≡ all
step_more xs ys rest rest' all added is next h = ap (λ l. l ++ rest') is ∙ append_assoc xs added rest' ∙ ap (λ l. xs ++ l) (sym next) ∙ h

pub step_last : (xs ys rest all : List Demand) (d : Demand) → ys ≡ xs ++ d ∷ [] → rest ≡ d ∷ [] → xs ++ rest ≡ all → ys ≡ all
step_last xs ys rest all d is next h = is ∙ ap (λ l. xs ++ l) (sym next) ∙ h

pub end_of : (xs rest all : List Demand) → rest ≡ [] → xs ++ rest ≡ all → xs ≡ all
end_of xs rest all none h = sym (append_none xs) ∙ ap (λ l. xs ++ l) (sym none) ∙ h

same_cons : (e p : ℕ) (ps : List ℕ) → all_same e (p ∷ ps) ≡ demand.Same p e ∷ all_same e ps
unfolding all_same
same_cons e p ps = refl

sizes_cons : (p : ℕ) (ps : List ℕ) → all_sizes (p ∷ ps) ≡ demand.Is p (scalar.Int int.I64) ∷ all_sizes ps
unfolding all_sizes
sizes_cons p ps = refl

module _ (xs all : List Demand) (ps : List ℕ) (at : ℕ) where
  pub same_step : (ys : List Demand) (e : ℕ) → at < length ps → ys ≡ xs ++ demand.Same (slice_index_or ps at 0) e ∷ [] → xs ++ all_same e (drop at ps) ≡ all → ys ++ all_same e (drop (at + 1) ps) ≡ all
  same_step ys e lt is h = step_more xs ys (all_same e (drop at ps)) (all_same e (drop (at + 1) ps)) all (demand.Same (slice_index_or ps at 0) e ∷ []) is (ap (all_same e) (drop_next ps at 0 lt) ∙ same_cons e (slice_index_or ps at 0) (drop (at + 1) ps)) h

  pub same_end : (e : ℕ) → length ps ≤ at → xs ++ all_same e (drop at ps) ≡ all → xs ≡ all
  unfolding all_same
  same_end e le h = end_of xs (all_same e (drop at ps)) all (ap (all_same e) (drop_all ps at le)) h

  pub sizes_step : (ys : List Demand) → at < length ps → ys ≡ xs ++ demand.Is (slice_index_or ps at 0) (scalar.Int int.I64) ∷ [] → xs ++ all_sizes (drop at ps) ≡ all → ys ++ all_sizes (drop (at + 1) ps) ≡ all
  sizes_step ys lt is h = step_more xs ys (all_sizes (drop at ps)) (all_sizes (drop (at + 1) ps)) all (demand.Is (slice_index_or ps at 0) (scalar.Int int.I64) ∷ []) is (ap all_sizes (drop_next ps at 0 lt) ∙ sizes_cons (slice_index_or ps at 0) (drop (at + 1) ps)) h

  pub sizes_end : length ps ≤ at → xs ++ all_sizes (drop at ps) ≡ all → xs ≡ all
  unfolding all_sizes
  sizes_end le h = end_of xs (all_sizes (drop at ps)) all (ap all_sizes (drop_all ps at le)) h

index_cons : (places : Kind) (p : Part) (ps : List Part) (x t : ℕ) → index_demands places (p ∷ ps) x t ≡ demand.Array x (x + 1) ∷ demand.Has (x + 1) places ∷ left_demand p t (t + 1) ∷ index_demands places ps (x + 1) (t + 1)
unfolding index_demands
index_cons places p ps x t = refl

index_none : (places : Kind) (x t : ℕ) → index_demands places [] x t ≡ demand.Same t x ∷ []
unfolding index_demands
index_none places x t = refl

module _ (xs ys all : List Demand) (places : Kind) (ps : List Part) (at : ℕ) (x t : ℕ) where
  pub index_step : (d : Part) → at < length ps → ys ≡ xs ++ (demand.Array (x + at) (x + at + 1) ∷ demand.Has (x + at + 1) places ∷ left_demand (slice_index_or ps at d) (t + at) (t + at + 1) ∷ [])
      → xs ++ index_demands places (drop at ps) (x + at) (t + at) ≡ all → ys ++ index_demands places (drop (at + 1) ps) (x + (at + 1)) (t + (at + 1)) ≡ all
  index_step d lt is h = let e1 : x + at + 1 ≡ x + (at + 1) = omega arith in let e2 : t + at + 1 ≡ t + (at + 1) = omega arith in
      subst (λ m. ys ++ index_demands places (drop (at + 1) ps) m (t + (at + 1)) ≡ all) e1 (subst (λ m. ys ++ index_demands places (drop (at + 1) ps) (x + at + 1) m ≡ all) e2
      (step_more xs ys (index_demands places (drop at ps) (x + at) (t + at)) (index_demands places (drop (at + 1) ps) (x + at + 1) (t + at + 1)) all _ is
      (ap (λ l. index_demands places l (x + at) (t + at)) (drop_next ps at d lt) ∙ index_cons places (slice_index_or ps at d) (drop (at + 1) ps) (x + at) (t + at)) h))

  pub index_end : length ps ≤ at → ys ≡ xs ++ demand.Same (t + at) (x + at) ∷ [] → xs ++ index_demands places (drop at ps) (x + at) (t + at) ≡ all → ys ≡ all
  index_end le is h = step_last xs ys (index_demands places (drop at ps) (x + at) (t + at)) all (demand.Same (t + at) (x + at)) is (ap (λ l. index_demands places l (x + at) (t + at)) (drop_all ps at le) ∙ index_none places (x + at) (t + at)) h

update_cons : (places : Kind) (i v : ℕ) (vs : List ℕ) (x : ℕ) → update_demands places (i ∷ v ∷ vs) x ≡ demand.Is i (scalar.Int int.I64) ∷ demand.Array x (x + 1) ∷ demand.Has (x + 1) places ∷ update_demands places (v ∷ vs) (x + 1)
unfolding update_demands
update_cons places i v vs x = refl

update_one : (places : Kind) (v x : ℕ) → update_demands places (v ∷ []) x ≡ demand.Same v x ∷ []
unfolding update_demands
update_one places v x = refl

module _ (xs ys all : List Demand) (places : Kind) (ps : List ℕ) (at x : ℕ) where
  pub update_step : 1 ≤ at → at + 1 < length ps → ys ≡ xs ++ (demand.Is (slice_index_or ps at 0) (scalar.Int int.I64) ∷ demand.Array (x + (at - 1)) (x + (at - 1) + 1) ∷ demand.Has (x + (at - 1) + 1) places ∷ [])
      → xs ++ update_demands places (drop at ps) (x + (at - 1)) ≡ all → ys ++ update_demands places (drop (at + 1) ps) (x + (at + 1 - 1)) ≡ all
  update_step some lt is h = let e : x + (at - 1) + 1 ≡ x + (at + 1 - 1) = omega arith in
      subst (λ m. ys ++ update_demands places (drop (at + 1) ps) m ≡ all) e
      (step_more xs ys (update_demands places (drop at ps) (x + (at - 1))) (update_demands places (drop (at + 1) ps) (x + (at - 1) + 1)) all _ is
      (ap (λ l. update_demands places l (x + (at - 1))) (drop_next ps at 0 (omega arith) ∙ ap (λ l. slice_index_or ps at 0 ∷ l) (drop_next ps (at + 1) 0 lt)) ∙ update_cons places (slice_index_or ps at 0) (slice_index_or ps (at + 1) 0) (drop (at + 1 + 1) ps) (x + (at - 1))
      ∙ ap (λ l. demand.Is (slice_index_or ps at 0) (scalar.Int int.I64) ∷ demand.Array (x + (at - 1)) (x + (at - 1) + 1) ∷ demand.Has (x + (at - 1) + 1) places ∷ update_demands places l (x + (at - 1) + 1)) (sym (drop_next ps (at + 1) 0 lt))) h)

  pub update_end : at < length ps → length ps ≤ at + 1 → ys ≡ xs ++ demand.Same (slice_index_or ps at 0) (x + (at - 1)) ∷ [] → xs ++ update_demands places (drop at ps) (x + (at - 1)) ≡ all → ys ≡ all
  update_end lt le is h = step_last xs ys (update_demands places (drop at ps) (x + (at - 1))) all (demand.Same (slice_index_or ps at 0) (x + (at - 1))) is
      (ap (λ l. update_demands places l (x + (at - 1))) (drop_next ps at 0 lt ∙ ap (λ l. slice_index_or ps at 0 ∷ l) (drop_all ps (at + 1) le)) ∙ update_one places (slice_index_or ps at 0) (x + (at - 1))) h

function_cons : (p : ℕ) (ps : List ℕ) (body x : ℕ) → function_demands (p ∷ ps) body x ≡ demand.Fun x p (x + 1) ∷ function_demands ps body (x + 1)
unfolding function_demands
function_cons p ps body x = refl

function_none : (body x : ℕ) → function_demands [] body x ≡ demand.Same x body ∷ []
unfolding function_demands
function_none body x = refl

module _ (xs ys all : List Demand) (ps : List ℕ) (at body x : ℕ) where
  pub function_step : at < length ps → ys ≡ xs ++ demand.Fun (x + at) (slice_index_or ps at 0) (x + at + 1) ∷ [] → xs ++ function_demands (drop at ps) body (x + at) ≡ all → ys ++ function_demands (drop (at + 1) ps) body (x + (at + 1)) ≡ all
  function_step lt is h = subst (λ m. ys ++ function_demands (drop (at + 1) ps) body m ≡ all) (let e : x + at + 1 ≡ x + (at + 1) = omega arith in e)
      (step_more xs ys (function_demands (drop at ps) body (x + at)) (function_demands (drop (at + 1) ps) body (x + at + 1)) all (demand.Fun (x + at) (slice_index_or ps at 0) (x + at + 1) ∷ []) is
      (ap (λ l. function_demands l body (x + at)) (drop_next ps at 0 lt) ∙ function_cons (slice_index_or ps at 0) (drop (at + 1) ps) body (x + at)) h)

  pub function_end : length ps ≤ at → ys ≡ xs ++ demand.Same (x + at) body ∷ [] → xs ++ function_demands (drop at ps) body (x + at) ≡ all → ys ≡ all
  function_end le is h = step_last xs ys (function_demands (drop at ps) body (x + at)) all (demand.Same (x + at) body) is (ap (λ l. function_demands l body (x + at)) (drop_all ps at le) ∙ function_none body (x + at)) h
