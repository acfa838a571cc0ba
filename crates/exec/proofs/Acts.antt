-- What steps with blocks answer, by what their parts do.
use Rattle.std.proofs.Common.{◌≡◌, ℕ, List, length, map, true, false, Bor, Ok, Err, sym, ap, ◌∙◌, refl, subst}
use Rattle.fut_scalar.specs.declared.place.Place.{Place}
use Rattle.fut_scalar.specs.declared.scalar.IntType.{IntType}
use Rattle.fut_scalar.specs.declared.scalar.ScalarType.TheVariants as sort
use Rattle.fut_meaning.specs.Accessors.{turns_of_scalar}
use Rattle.fut_meaning.specs.Meaning.{counts}
use Rattle.fut_meaning.specs.Outcomes.{and_then, the, Then, choose, turns}
use Rattle.core_ir.specs.declared.block.Var.{Var}
use Rattle.core_ir.specs.declared.block.Atom.{Atom}
use Rattle.core_ir.specs.declared.block.Block.{Block}
use Rattle.core_ir.specs.declared.block.Making.{Making}
use Rattle.core_ir.specs.declared.block.View.{View}
use Rattle.core_ir.specs.declared.block.Op.{Op}
use Rattle.core_ir.specs.declared.block.Op.TheVariants as op
use Rattle.core_ir.specs.Bundles.{Row}
use Rattle.core_ir.specs.Meaning.{Results, values_of, scalar_at, truth_at, for_turns, act_means}
use Rattle.core_ir.specs.Numbered.{Act_numbered}
use Rattle.core_ir.specs.Plain.{Action, If, For, While, Body, view_form, making_form, action_of, body_of}
use Rattle.core_ir.specs.Typed.{Sort, sort_of, Atom_is, if_gives, for_gives, while_gives}
use Rattle.core_ir.proofs.Layers.{action_of-View, action_of-Make, action_of-If, action_of-For, action_of-While}
use Rattle.core_code.specs.Registers.{State, state}
use Rattle.core_code.specs.Answers.{Answer, TruthTold, truth_told, Truth_reads, TurnsTold, turns_told, Turns_read, ReadAll, read_all, Reads_all, Runs, no_memory}
use Rattle.core_code.specs.Runs.{act_runs, body_runs, Act_runs, Body_runs, index_turn, For_runs, loops, While_runs}
use Rattle.core_code.specs.declared.stop.Stop.{Stop}
use Rattle.core_code.specs.declared.stop.Stop.TheVariants.{Memory}
use Rattle.core_code.proofs.Frames.{leads_trans, leads_val, runs_on, runs_in, kept_same, stands_more}
use Rattle.exec.proofs.Steps.{body_rises}

pub act_memory : (budget : ℕ) (a : Action) (S S' : State) (e : Stop) → e ≡ Memory → Act_runs budget a S S' (Err e)
unfolding Act_runs
act_memory budget a S S' e q G env ss n last st g na = subst (λ z. Runs (act_runs budget a env) ss n S S' (Err z)) (sym q) no_memory

module _ (budget : ℕ) (S S' : State) (c : Atom) (a b : Body) where
  pub if_yes : (r : Answer) → Truth_reads S.words c (Ok true) → Body_runs budget a S S' r → Act_runs budget (If c a b) S S' r
  unfolding Truth_reads Act_runs Body_runs act_means Act_numbered
  if_yes r h k G env ss n last st (if_gives ku ga gb) (mid, na, nb) = by_truth (h G env n S.arena.arrays st ku)
    where
      by_truth : TruthTold (truth_at env c) (Ok true) → Runs (Then (the (truth_at env c)) (λ z. choose z (body_runs budget a env) (body_runs budget b env))) ss n S S' r
      by_truth (truth_told e) =
          runs_in (Then (the (truth_at env c)) (λ z. choose z (body_runs budget a env) (body_runs budget b env))) (body_runs budget a env) ss n S S' r
          (leads_val (truth_at env c) (λ z. choose z (body_runs budget a env) (body_runs budget b env)) true e) (k G env ss n mid st ga na)

  pub if_no : (r : Answer) → Truth_reads S.words c (Ok false) → Body_runs budget b S S' r → Act_runs budget (If c a b) S S' r
  unfolding Truth_reads Act_runs Body_runs act_means Act_numbered
  if_no r h k G env ss n last st (if_gives ku ga gb) (mid, na, nb) = by_truth (h G env n S.arena.arrays st ku)
    where
      by_truth : TruthTold (truth_at env c) (Ok false) → Runs (Then (the (truth_at env c)) (λ z. choose z (body_runs budget a env) (body_runs budget b env))) ss n S S' r
      by_truth (truth_told e) =
          let z = body_rises a n mid na in
          runs_on (Then (the (truth_at env c)) (λ z. choose z (body_runs budget a env) (body_runs budget b env))) (body_runs budget b env) ss n mid S S S' 0 r z (kept_same n S) refl
          (leads_val (truth_at env c) (λ z. choose z (body_runs budget a env) (body_runs budget b env)) false e) (k G env ss mid last (stands_more G env n mid S.arena.arrays S.words z st) gb nb)

module _ (budget : ℕ) (S S' : State) (us : List Atom) (s1 : List ℕ) (mark : ℕ) (r : Answer) (p : mark ≡ length S.stack) (h : Reads_all S.words us S.stack s1 (Ok tt)) where
  pub for_done : (xs : List Var) (i : Var) (c : Atom) (b : Body) (ty : IntType) (count : ℕ) → i.elem ≡ sort.Int ty → Turns_read S.words ty c (Ok count) → For_runs budget b xs i ty count mark (state S.arena S.words s1) S' r → Act_runs budget (For xs us i c b) S S' r
  unfolding Reads_all Turns_read Act_runs For_runs act_means Act_numbered
  for_done xs i c b ty count e k x G env _ n last st (for_gives t a g is gb) (mid, u, w, nb) = by_first (h G env n S.arena.arrays (map sort_of xs) st a) (k G env n S.arena.arrays st (subst (λ z. Atom_is G c (sort.Int z, 0)) same g))
    where
      same : t ≡ ty
      same = let z : sort.Int t ≡ sort.Int ty = sym (ap (λ (z : Sort). z.0) is) ∙ e in cc

      loop : Row → Results
      loop = for_turns (body_runs budget b) xs i env c

      by_first : ReadAll (values_of env us) S.arena.arrays (map sort_of xs) S.stack s1 (Ok tt) → TurnsTold ty (and_then (scalar_at env c) turns_of_scalar) (Ok count) → Runs (Then (the (values_of env us)) (for_turns (body_runs budget b) xs i env c)) (map sort_of xs) n S S' r
      by_first (read_all {cs} {ws} q sh w1) (turns_told q1 m) =
          runs_in (Then (the (values_of env us)) (for_turns (body_runs budget b) xs i env c)) (turns (index_turn budget b xs i ty env) (counts count 0) cs) (map sort_of xs) n S S' r
          (leads_trans 0 0 (Then (the (values_of env us)) (for_turns (body_runs budget b) xs i env c)) (for_turns (body_runs budget b) xs i env c cs) (turns (index_turn budget b xs i ty env) (counts count 0) cs)
          (leads_val (values_of env us) (for_turns (body_runs budget b) xs i env c) cs q)
          (leads_val (and_then (scalar_at env c) turns_of_scalar) (λ d. turns (index_turn budget b xs i d.0 env) (counts d.1 0) cs) (ty, count) q1))
          (x G env n S.stack cs
          (record { mid = mid; last = last; stands = st; rises = u; index = w; sort = is ∙ ap (λ z. (sort.Int z, 0)) same; typed = gb; numbered = nb })
          (record { ws = ws; stack = w1; long = sym p; shown = sh }) m)

  pub while_act_done : (at : Place) (xs : List Var) (t b : Body) → While_runs budget t b xs at mark (state S.arena S.words s1) S' r → Act_runs budget (While at xs us t b) S S' r
  unfolding Reads_all Act_runs While_runs act_means Act_numbered
  while_act_done at xs t b x G env _ n last st (while_gives a gt gb) (mid, u, middle, nt, nb) = by_first (h G env n S.arena.arrays (map sort_of xs) st a)
    where
      by_first : ReadAll (values_of env us) S.arena.arrays (map sort_of xs) S.stack s1 (Ok tt) → Runs (Then (the (values_of env us)) (loops budget budget t b xs at env)) (map sort_of xs) n S S' r
      by_first (read_all {cs} {ws} q sh w1) =
          runs_in (Then (the (values_of env us)) (loops budget budget t b xs at env)) (loops budget budget t b xs at env cs) (map sort_of xs) n S S' r
          (leads_val (values_of env us) (loops budget budget t b xs at env) cs q)
          (x G env n S.stack cs
          (record { mid = mid; middle = middle; last = last; stands = st; rises = u; test = gt; typed = gb; test_numbered = nt; numbered = nb })
          (record { ws = ws; stack = w1; long = sym p; shown = sh }))

-- the same of an operation as it lies in Core
module _ (budget : ℕ) (o : Op) (at : Place) (xs : Bor (List Var)) (us : Bor (List Atom)) (S S' : State) (s1 : List ℕ) (mark : ℕ) (r : Answer) (p : mark ≡ length S.stack) (h : Reads_all S.words us.now S.stack s1 (Ok tt)) where
  pub op_for : (i : Var) (c : Atom) (b : Bor Block) (ty : IntType) (count : ℕ) → o ≡ op.For xs us i c b → i.elem ≡ sort.Int ty → Turns_read S.words ty c (Ok count) → For_runs budget (body_of b.now) xs.now i ty count mark (state S.arena S.words s1) S' r → Act_runs budget (action_of o at) S S' r
  op_for i c b ty count e q k x =
      subst (λ a. Act_runs budget a S S' r) (sym (ap (λ z. action_of z at) e ∙ action_of-For xs us i c b at)) (for_done budget S S' us.now s1 mark r p h xs.now i c (body_of b.now) ty count q k x)

  pub op_while : (t b : Bor Block) → o ≡ op.While xs us t b → While_runs budget (body_of t.now) (body_of b.now) xs.now at mark (state S.arena S.words s1) S' r → Act_runs budget (action_of o at) S S' r
  op_while t b e x =
      subst (λ a. Act_runs budget a S S' r) (sym (ap (λ z. action_of z at) e ∙ action_of-While xs us t b at)) (while_act_done budget S S' us.now s1 mark r p h at xs.now (body_of t.now) (body_of b.now) x)

-- steps that run no block
pub op_view : (budget : ℕ) (o : Op) (v : View) (at : Place) (S S' : State) (r : Answer) → o ≡ op.View v → Act_runs budget (view_form v at) S S' r → Act_runs budget (action_of o at) S S' r
op_view budget o v at S S' r e h = subst (λ a. Act_runs budget a S S' r) (sym (ap (λ z. action_of z at) e ∙ action_of-View v at)) h

pub op_make : (budget : ℕ) (o : Op) (m : Making) (at : Place) (S S' : State) (r : Answer) → o ≡ op.Make m → Act_runs budget (making_form m at) S S' r → Act_runs budget (action_of o at) S S' r
op_make budget o m at S S' r e h = subst (λ a. Act_runs budget a S S' r) (sym (ap (λ z. action_of z at) e ∙ action_of-Make m at)) h

pub ruleset act_rules = (act_memory, action_of-If, if_yes, if_no)
