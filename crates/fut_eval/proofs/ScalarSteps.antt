-- Steps of one name whose operation gives one scalar: the stack is not used.
use Rattle.std.proofs.Common.{◌≡◌, ℕ, ◌≤◌, List, [], ◌∷◌, ◌++◌, length, get_or, slice_set, Some, Ok, Err, refl, sym, ap, ◌∙◌, subst, arith}
use Rattle.std.proofs.Math.Seq.{drop-append_seam, take-append_seam}
use Rattle.fut_scalar.specs.declared.scalar.Scalar.{Scalar}
use Rattle.fut_blocks.specs.declared.block.Act.TheVariants as act
use Rattle.fut_blocks.specs.declared.block.Operation.{Operation}
use Rattle.fut_blocks.specs.declared.block.Step.{Step}
use Rattle.fut_blocks.specs.Plain.{action_of, binding_of}
use Rattle.fut_blocks.specs.Meaning.{Component}
use Rattle.fut_blocks.proofs.Layers.{action_of-Operate}
use Rattle.array_data.specs.declared.data.Data.TheVariants as hold
use Rattle.array_data.specs.declared.stop.Stop.{Stop}
use Rattle.array_data.specs.declared.stop.Stop.TheVariants.{Stuck}
use Rattle.array_data.specs.Held.{held}
use Rattle.fut_eval.specs.Answers.{Answer, Gives, Operates, Named, named, beyond, stored, Stored, is_stored, past, Takes}
use Rattle.fut_eval.specs.Runs.{Act_runs, Step_runs}
use Rattle.fut_eval.proofs.Storing.{take_done, take_stop, bind_store}
use Rattle.fut_eval.proofs.Acts.{act_operate}
use Rattle.fut_eval.proofs.Steps.{step_stop, step_done}

-- a name for the one value above others
take_one : (x : ℕ) (v : Component) (t t' s : List Component) → t' ≡ slice_set t x v → Takes (x ∷ []) (length s) t t' (s ++ v ∷ []) s (Ok tt)
unfolding stored
take_one x v t t' s e =
    take_done (x ∷ []) (length s) t t' (s ++ v ∷ []) s
    (bind_store (x ∷ []) (length s) t t' (s ++ v ∷ []) (Ok tt) (subst (λ z. Stored (x ∷ []) z t t' (Ok tt)) (sym (drop-append_seam s (v ∷ []))) (is_stored refl e)))
    (sym (take-append_seam s (v ∷ [])))

take_beyond : (x : ℕ) (v : Component) (t t' s : List Component) → length t ≤ x → Takes (x ∷ []) (length s) t t' (s ++ v ∷ []) s (Err Stuck)
take_beyond x v t t' s l =
    take_stop (x ∷ []) (length s) t t' (s ++ v ∷ []) s Stuck
    (bind_store (x ∷ []) (length s) t t' (s ++ v ∷ []) (Err Stuck) (subst (λ z. Stored (x ∷ []) z t t' (Err Stuck)) (sym (drop-append_seam s (v ∷ []))) (past 0 (omega arith) l)))

one_name : (xs : List ℕ) (x z : ℕ) → length xs ≡ 1 → x ≡ get_or xs 0 z → xs ≡ x ∷ []
one_name [] x z e q = absurd (omega arith)
one_name (y ∷ []) x z e q = ap (λ k. k ∷ []) (sym q)
one_name (y ∷ w ∷ xs) x z e q = absurd (omega arith)

-- an operation that gives one scalar, and its one name
module _ (budget : ℕ) (d : Step) (o : Operation) (q : d.act ≡ act.Operate o) (t s : List Component) where
  operates : (s' : List Component) (r : Answer) → Operates t o s s' r → Act_runs budget (action_of d.act) t t s s' r
  operates s' r h = subst (λ z. Act_runs budget z t t s s' r) (sym (ap action_of q ∙ action_of-Operate o)) (act_operate budget t t s s' o r h)

  pub scalar_stop : (e : Stop) → Gives t o (Err e) → Step_runs budget (binding_of d) t t s s (Err e)
  unfolding Gives
  scalar_stop e h = step_stop budget d t t s s e (operates s (Err e) (h s))

  pub scalar_named : (x z : ℕ) (v : Scalar) (t' : List Component) (r : Answer) → length d.names.now ≡ 1 → x ≡ get_or d.names.now 0 z → Gives t o (Ok (Some v)) → Named x (held (hold.Scalar v)) t t' r → Step_runs budget (binding_of d) t t' s s r
  unfolding Gives
  scalar_named x z v t' r l e h k = by_name r k
    where
      taken : (r : Answer) → Named x (held (hold.Scalar v)) t t' r → Takes (x ∷ []) (length s) t t' (s ++ held (hold.Scalar v) ∷ []) s r
      taken _ (named e) = take_one x (held (hold.Scalar v)) t t' s e
      taken _ (beyond l) = take_beyond x (held (hold.Scalar v)) t t' s l

      by_name : (r : Answer) → Named x (held (hold.Scalar v)) t t' r → Step_runs budget (binding_of d) t t' s s r
      by_name r k = step_done budget d t t s (s ++ held (hold.Scalar v) ∷ []) t' s (length s) r refl (operates (s ++ held (hold.Scalar v) ∷ []) (Ok tt) (h s)) (subst (λ xs. Takes xs (length s) t t' (s ++ held (hold.Scalar v) ∷ []) s r) (sym (one_name d.names.now x z l e)) (taken r k))

pub ruleset scalar_steps = (scalar_stop, scalar_named)
