-- Reading names and atoms.
use Rattle.std.proofs.Common.{◌≡◌, ℕ, zero, suc, ◌+◌, ◌<◌, ◌≤◌, List, [], ◌∷◌, ◌++◌, map, length, get_or, drop, slice_get, Option, Some, None, Ok, Err, ◌⊎◌, inl, inr, Result, refl, sym, ap, ◌∙◌, subst, arith, add-one, append_assoc}
use Rattle.std.proofs.Math.Nat.{mod-eq_of_lt}
use Rattle.std.proofs.Math.Seq.{drop-cons}
use Rattle.std.proofs.lemmas.List.{append-nil}
use Rattle.std.proofs.lemmas.Option.{slice_get-get_or, slice_get_past}
use Rattle.fut_scalar.specs.Integers.{FitsType}
use Rattle.fut_scalar.specs.declared.scalar.Scalar.{Scalar}
use Rattle.fut_scalar.specs.declared.scalar.Scalar.TheVariants as scalar
use Rattle.fut_meaning.specs.Accessors.{or_wrong}
use Rattle.fut_meaning.specs.Outcomes.{Out, Val, Fail, Wrong, and_then, the}
use Rattle.fut_blocks.specs.declared.block.Atom.{Atom}
use Rattle.fut_blocks.specs.declared.block.Atom.TheVariants as atom
use Rattle.fut_blocks.specs.Meaning.{Component, Names, look, fitted, value_of, values_of}
use Rattle.array_data.specs.declared.stop.Stop.{Stop}
use Rattle.array_data.specs.declared.stop.Stop.TheVariants.{Stuck, Memory}
use Rattle.array_data.specs.declared.data.Data.{Data}
use Rattle.array_data.specs.declared.data.Data.TheVariants as hold
use Rattle.array_data.specs.Held.{held, held_all, as_held}
use Rattle.fut_eval.specs.Answers.{as_scalar}
use Rattle.array_data.proofs.Holding.{held_scalar}
use Rattle.fut_eval.proofs.Holding.{held_length, held_get, held_append}
use Rattle.fut_value.specs.Data.{Scalar_datum}
use Rattle.fut_eval.specs.Answers.{Tells, told, report_told, no_memory_told, lost, Fit, Stands, Runs, ran, failed, no_memory, gone, Reads, Reads_all, Reads_data, as_all_held, Pushed, pushed, not_pushed, Copied, copied, not_copied}
use Rattle.fut_eval.proofs.Tells.{the_is, told_is, kept_same, fit_append}

pub fitted_same : (s : Scalar) → FitsType s → fitted s ≡ s
fitted_same (scalar.Int t n) h = ap (λ m. scalar.Int t m) (mod-eq_of_lt h)
fitted_same (scalar.Bool b) h = refl

-- what is found in the table under a name that stands is the name's
found : (q : Option Component) (p : Option Component) (d : Component) → ((v : Component) → q ≡ Some v → p ≡ Some v) → p ≡ Some d → (q ≡ None) ⊎ (q ≡ Some d)
found None p d h e = inl refl
found (Some v) p d h e = let i = h v refl in let k : v ≡ d = cc in inr (ap Some k)

missing : (q : Option Component) (p : Option Component) → ((v : Component) → q ≡ Some v → p ≡ Some v) → p ≡ None → Tells (or_wrong q) (Err Stuck)
missing None p h e = lost refl
missing (Some v) p h e = let i = h v refl in cc

tells_found : (q : Option Component) (d : Component) (r : Result Component Stop) → (q ≡ None) ⊎ (q ≡ Some d) → Tells (Val d) r → Tells (or_wrong q) r
tells_found q d r (inl e) h = lost (ap or_wrong e)
tells_found q d r (inr e) h = subst (λ z. Tells (or_wrong z) r) (sym e) h

pub stands_at : (table : List Data) (x : ℕ) (d : Data) → x < length table → (env : Names Component) (n : ℕ) → Stands env n (held_all table) → (look env x ≡ None) ⊎ (look env x ≡ Some (held (get_or table x d)))
stands_at table x d l env n st =
    found (look env x) (slice_get (held_all table) x) (held (get_or table x d)) (λ v q. (st.each x v q).1)
    (slice_get-get_or (held_all table) x (held d) (omega (arith, held_length table)) ∙ ap Some (held_get table x d))

copy_told : (d : Data) (r : Result Data Stop) → Copied d r → Tells (Val (held d)) (as_held r)
copy_told d _ (copied e) = told (ap Val (sym e))
copy_told d _ not_copied = no_memory_told

pub read_name : (table : List Data) (x : ℕ) (d c : Data) (r : Result Data Stop) → x < length table → c ≡ get_or table x d → Copied c r → Reads (held_all table) (atom.Name x) (as_held r)
unfolding Reads
read_name table x d c r l e h env n st = tells_found (look env x) (held c) (as_held r) (subst (λ z. (look env x ≡ None) ⊎ (look env x ≡ Some (held z))) (sym e) (stands_at table x d l env n st)) (copy_told c r h)

-- an array that was given up
pub read_given_up : (table : List Data) (u : Atom) → Reads (held_all table) u (as_held (Err Memory))
unfolding Reads
read_given_up table u env n st = no_memory_told

pub read_beyond : (table : List Data) (x : ℕ) → length table ≤ x → Reads (held_all table) (atom.Name x) (Err Stuck)
unfolding Reads
read_beyond table x l env n st = missing (look env x) (slice_get (held_all table) x) (λ v q. (st.each x v q).1) (slice_get_past (held_all table) x (omega (arith, held_length table)))

pub read_constant : (table : List Data) (s : Scalar) → Reads (held_all table) (atom.Constant s) (as_held (Ok (hold.Scalar s)))
unfolding Reads
read_constant table s env n st = told (ap Val (sym (held_scalar s)))

pub ruleset readings = (read_name, read_given_up, read_beyond, read_constant)

pub scalar_name : (table : List Data) (x : ℕ) (d c : Data) (s r : Scalar) → x < length table → c ≡ get_or table x d → c ≡ hold.Scalar s → r ≡ fitted s → Reads (held_all table) (atom.Name x) (as_scalar (Ok r))
unfolding Reads
scalar_name table x d c s r l q e f env n st =
    tells_found (look env x) (Scalar_datum (fitted s)) (Ok (Scalar_datum r)) (subst (λ z. (look env x ≡ None) ⊎ (look env x ≡ Some z)) (ap held (sym q ∙ e) ∙ held_scalar s) (stands_at table x d l env n st)) (told (ap (λ z. Val (Scalar_datum z)) (sym f)))

pub no_scalar : (table : List Data) (u : Atom) → Reads (held_all table) u (as_scalar (Err Memory))
unfolding Reads
no_scalar table u env n st = no_memory_told

pub scalar_beyond : (table : List Data) (x : ℕ) → length table ≤ x → Reads (held_all table) (atom.Name x) (as_scalar (Err Stuck))
scalar_beyond table x l = read_beyond table x l

pub scalar_constant : (table : List Data) (s r : Scalar) → r ≡ fitted s → Reads (held_all table) (atom.Constant s) (as_scalar (Ok r))
unfolding Reads
scalar_constant table s r f env n st = told (ap (λ z. Val (Scalar_datum z)) (sym f))

pub ruleset scalar_readings = (scalar_name, no_scalar, scalar_beyond, scalar_constant)

-- a scalar that is found
pub found_scalar : (table : List Data) (x : ℕ) (d : Data) (v : Scalar) → x < length table → get_or table x d ≡ hold.Scalar v → Reads (held_all table) (atom.Name x) (Ok (held (hold.Scalar v)))
found_scalar table x d v l e = read_name table x d (hold.Scalar v) (Ok (hold.Scalar v)) l (sym e) (copied refl)

pub ruleset scalars_found = (found_scalar, read_constant)

pub push_done : (s : Data) (st st' : List Data) → st' ≡ st ++ s ∷ [] → Pushed (held s) (held_all st) (held_all st') (Ok tt)
push_done s st st' e = pushed (ap held_all e ∙ held_append st s)

pub ruleset pushes = (push_done, not_pushed)

-- some atoms are read, and their values lie on the stack
pub data Half (env : Names Component) (us rest : List Atom) (stack stack' : List Component) : Type 0 where
  half : (vs : List Component) → stack' ≡ stack ++ vs → Fit vs → values_of env us ≡ and_then (values_of env rest) (λ ws. Val (vs ++ ws)) → Half env us rest stack stack'
  half_lost : values_of env us ≡ Wrong → Half env us rest stack stack'

unfoldable pub Half_read : List Component → List Atom → ℕ → List Component → List Component → Type 0
Half_read table us i stack stack' = (env : Names Component) (n : ℕ) → Stands env n table → Half env us (drop i us) stack stack'

nothing_before : (o : Out (List Component)) → o ≡ and_then o (λ ws. Val ([] ++ ws))
nothing_before (Val vs) = refl
nothing_before (Fail r) = refl
nothing_before Wrong = refl

pub half_start : (table : List Component) (us : List Atom) (stack : List Component) → Half_read table us 0 stack stack
unfolding Half_read
half_start table us stack env n st = half [] (sym (append-nil stack)) tt (nothing_before (values_of env us))

next_atom : (us : List Atom) (i : ℕ) (d : Atom) → i < length us → drop i us ≡ get_or us i d ∷ drop (suc i) us
next_atom us i d l = drop-cons us i d l

one_more : (o : Out Component) (p : Out (List Component)) (v : Component) (vs : List Component) → o ≡ Val v → and_then (and_then o (λ v. and_then p (λ ws. Val (v ∷ ws)))) (λ ws. Val (vs ++ ws)) ≡ and_then p (λ ws. Val ((vs ++ v ∷ []) ++ ws))
one_more o p v vs e = ap (λ z. and_then (and_then z (λ v. and_then p (λ ws. Val (v ∷ ws)))) (λ ws. Val (vs ++ ws))) e ∙ rest p
  where
    rest : (p : Out (List Component)) → and_then (and_then p (λ ws. Val (v ∷ ws))) (λ ws. Val (vs ++ ws)) ≡ and_then p (λ ws. Val ((vs ++ v ∷ []) ++ ws))
    rest (Val ws) = ap Val (sym (append_assoc vs (v ∷ []) ws))
    rest (Fail r) = refl
    rest Wrong = refl

lost_more : (o : Out Component) (p : Out (List Component)) (vs : List Component) → o ≡ Wrong → and_then (and_then o (λ v. and_then p (λ ws. Val (v ∷ ws)))) (λ ws. Val (vs ++ ws)) ≡ Wrong
lost_more o p vs e = ap (λ z. and_then (and_then z (λ v. and_then p (λ ws. Val (v ∷ ws)))) (λ ws. Val (vs ++ ws))) e

fail_more : (o : Out Component) (p : Out (List Component)) (vs : List Component) (r : _) → o ≡ Fail r → and_then (and_then o (λ v. and_then p (λ ws. Val (v ∷ ws)))) (λ ws. Val (vs ++ ws)) ≡ Fail r
fail_more o p vs r e = ap (λ z. and_then (and_then z (λ v. and_then p (λ ws. Val (v ∷ ws)))) (λ ws. Val (vs ++ ws))) e

module _ (table : List Component) (us : List Atom) (i : ℕ) (d : Atom) (stack s1 : List Component) (l : i < length us) (h : Half_read table us i stack s1) where
  whole : (env : Names Component) (vs : List Component) → values_of env us ≡ and_then (values_of env (drop i us)) (λ ws. Val (vs ++ ws)) → values_of env us ≡ and_then (values_of env (get_or us i d ∷ drop (suc i) us)) (λ ws. Val (vs ++ ws))
  whole env vs e = e ∙ ap (λ z. and_then (values_of env z) (λ ws. Val (vs ++ ws))) (next_atom us i d l)

  pub half_stop : (e : Stop) → Reads table (get_or us i d) (Err e) → Reads_all table us stack s1 (Err e)
  unfolding Half_read Reads Reads_all
  half_stop e k env n st = by_half (h env n st) (k env n st)
    where
      by_half : {e : Stop} → Half env us (drop i us) stack s1 → Tells (value_of env (get_or us i d)) (Err e) → Runs (the (values_of env us)) n table table stack s1 (Err e)
      by_half (half_lost q) k = gone 0 (the_is (values_of env us) Wrong q)
      by_half (half vs q f e) (report_told {r} p) = failed 0 (the_is (values_of env us) (Fail r) (whole env vs e ∙ fail_more (value_of env (get_or us i d)) (values_of env (drop (suc i) us)) vs r p))
      by_half (half vs q f e) no_memory_told = no_memory
      by_half (half vs q f e) (lost p) = gone 0 (the_is (values_of env us) Wrong (whole env vs e ∙ lost_more (value_of env (get_or us i d)) (values_of env (drop (suc i) us)) vs p))

  pub half_full : (v : Component) (s2 : List Component) (e : Stop) → Pushed v s1 s2 (Err e) → Reads_all table us stack s2 (Err e)
  unfolding Reads_all
  half_full v s2 _ not_pushed env n st = no_memory

  pub half_more : (v : Component) (s2 : List Component) → Reads table (get_or us i d) (Ok v) → Pushed v s1 s2 (Ok tt) → Half_read table us (i + 1) stack s2
  unfolding Half_read Reads
  half_more v s2 k (pushed p) env n st = subst (λ z. Half env us (drop z us) stack s2) (sym (add-one i)) (by_half (h env n st) (k env n st))
    where
      by_half : Half env us (drop i us) stack s1 → Tells (value_of env (get_or us i d)) (Ok v) → Half env us (drop (suc i) us) stack s2
      by_half (half_lost q) k = half_lost q
      by_half (half vs q g e) (told r) = half (vs ++ v ∷ []) (p ∙ ap (λ z. z ++ v ∷ []) q ∙ append_assoc stack vs (v ∷ [])) (fit_append vs (v ∷ []) g (tt, tt)) (whole env vs e ∙ one_more (value_of env (get_or us i d)) (values_of env (drop (suc i) us)) v vs r)
      by_half (half vs q g e) (lost r) = half_lost (whole env vs e ∙ lost_more (value_of env (get_or us i d)) (values_of env (drop (suc i) us)) vs r)

drop_past : {A : Type 0} (xs : List A) (n : ℕ) → length xs ≤ n → drop n xs ≡ []
drop_past [] zero l = refl
drop_past [] (suc n) l = refl
drop_past (x ∷ xs) zero l = absurd (omega arith)
drop_past (x ∷ xs) (suc n) l = drop_past xs n (omega arith)

pub half_end : (table : List Component) (us : List Atom) (i : ℕ) (stack s1 : List Component) → length us ≤ i → Half_read table us i stack s1 → Reads_all table us stack s1 (Ok tt)
unfolding Half_read Reads_all
half_end table us i stack s1 l h env n st = by_half (h env n st)
  where
    by_half : Half env us (drop i us) stack s1 → Runs (the (values_of env us)) n table table stack s1 (Ok tt)
    by_half (half_lost q) = gone 0 (the_is (values_of env us) Wrong q)
    by_half (half vs q f e) =
        ran vs 0 q f (kept_same n table) (the_is (values_of env us) (Val vs) (e ∙ ap (λ z. and_then (values_of env z) (λ ws. Val (vs ++ ws))) (drop_past us i l) ∙ ap Val (append-nil vs)))

pub ruleset lists = (half_start, half_stop, half_full, half_more, half_end)

-- ---- data that is read

module _ (table : List Component) (us : List Atom) (s s' : List Data) (q : s ≡ []) where
  pub data_unread : (e : Stop) → Reads_all table us (held_all s) (held_all s') (Err e) → Reads_data table us (as_all_held (Err e))
  unfolding Reads_all Reads_data
  data_unread e h env n st = by_run (h env n st)
    where
      by_run : {e : Stop} → Runs (the (values_of env us)) n table table (held_all s) (held_all s') (Err e) → Tells (values_of env us) (Err e)
      by_run (failed {r} f y) = report_told (told_is (values_of env us) (Fail r) f y)
      by_run no_memory = no_memory_told
      by_run (gone f y) = lost (told_is (values_of env us) Wrong f y)

  pub data_all_read : (xs : List Data) → xs ≡ s' → Reads_all table us (held_all s) (held_all s') (Ok tt) → Reads_data table us (as_all_held (Ok xs))
  unfolding Reads_all Reads_data held_all
  data_all_read xs e h env n st = by_run (h env n st)
    where
      by_run : Runs (the (values_of env us)) n table table (map held s) (map held s') (Ok tt) → Tells (values_of env us) (Ok (map held xs))
      by_run (ran vs f w v x y) = told (told_is (values_of env us) (Val vs) f y ∙ ap Val (sym (ap (map held) e ∙ w ∙ ap (λ z. map held z ++ vs) q)))
      by_run (gone f y) = lost (told_is (values_of env us) Wrong f y)

pub ruleset data_lists = (data_unread, data_all_read)
