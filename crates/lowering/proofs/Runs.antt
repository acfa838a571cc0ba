-- Runs of steps of Core, and what of blocks covers them.
use Rattle.std.proofs.Common.{◌≡◌, ℕ, ◌++◌, List, [], ◌∷◌, Bool, false, Some, sym, ap, ◌∙◌, subst, map, ◌≤◌}
use Rattle.fut_value.specs.Data.{Shape, Datum}
use Rattle.fut_meaning.specs.Accessors.{or_wrong}
use Rattle.fut_meaning.specs.Outcomes.{Out, Val, Rel, gives, the, Then}
use Rattle.fut_meaning.specs.Sames.{Same_out, same_value}
use Rattle.fut_blocks.specs.Meaning.{Names, bound}
use Rattle.fut_blocks.specs.Meaning as source
use Rattle.steps_simulate.specs.Covers.{Covers}
use Rattle.steps_simulate.proofs.Alike.{Alike, alike_same, alike_on, alike_then, alike_grouped, alike_value, alike_given, alike_back}
use Rattle.steps_simulate.proofs.Covers.{covers_exact, covers_then, covers_left, covers_right, covers_known_left, covers_known_right, covers_also}
use Rattle.core_ir.specs.declared.block.Var.{Var}
use Rattle.core_ir.specs.declared.block.Atom.{Atom}
use Rattle.core_ir.specs.Bundles.{Row}
use Rattle.core_ir.specs.Meaning.{Env, number, named, under, act_means, body_means}
use Rattle.core_ir.specs.Plain.{Action, lets}
use Rattle.lowering.specs.Knowns.{Known, Scope, knowns, names, New}
use Rattle.lowering.specs.Lowering.{Bindings, step}
use Rattle.lowering.specs.Programs.{Are_components}
use Rattle.lowering.proofs.Stands.{All_stand, Holds, Extends, extends_same, holds_on, knowns_stand, names_hold, new_bind, new_grows, extends_on}

-- what a run adds to the variables, for data of which this is known
pub record Gives (d : Env) (n : ℕ) (ks : List Known) (m : ℕ) (e : Env) (vs : List Datum) : Type 0 where
  pub extends : Extends n d e
  pub stand : All_stand e m ks vs

module _ (tight : Bool) (budget : ℕ) where
  -- steps, one after the other
  unfoldable pub run : Bindings → Env → Rel Env
  run [] d = gives 0 d
  run (b ∷ bs) d = Then (Then (act_means tight false budget b.1 d) (λ cs. named b.0 cs d)) (run bs)

  pub alike_lets : (bs cs : Bindings) (us : List Atom) (d : Env) → Alike (Then (run bs d) (λ e. body_means tight false budget (lets cs us) e)) (body_means tight false budget (lets (bs ++ cs) us) d)
  unfolding run lets body_means
  alike_lets [] cs us d = alike_value d (λ e. body_means tight false budget (lets cs us) e)
  alike_lets (b ∷ bs) cs us d = alike_on (alike_back (alike_grouped _ _ _)) (alike_then (alike_same _) (λ e. alike_lets bs cs us e))

  pub alike_runs : (bs cs : Bindings) (d : Env) → Alike (Then (run bs d) (run cs)) (run (bs ++ cs) d)
  unfolding run
  alike_runs [] cs d = alike_value d (run cs)
  alike_runs (b ∷ bs) cs d = alike_on (alike_back (alike_grouped _ _ _)) (alike_then (alike_same _) (λ e. alike_runs bs cs e))

  -- no step
  pub no_step : {d : Env} {n : ℕ} {ks : List Known} {o : Out (List Datum)} (vs : List Datum) → o ≡ Val vs → All_stand d n ks vs → Covers (Gives d n ks n) (run [] d) (the o)
  unfolding run
  no_step {d} {n} {ks} vs e a = covers_exact (subst (λ z. Same_out (Gives d n ks n) (Val d) z) (sym e) (same_value (record { extends = extends_same n d; stand = a })))

  -- one step, whose components get new variables
  pub step_covers : {d : Env} {n m : ℕ} {hs : List Shape} {xs : List Var} {P : Rel (List Datum)} (a : Action) → Covers (Are_components hs) (act_means tight false budget a d) P → New n xs hs m → Covers (Gives d n (knowns hs (names xs)) m) (run (step xs a) d) P
  unfolding run
  step_covers {d} {n} {m} {hs} {xs} {P} a sim w =
      covers_left (alike_back (alike_given _))
      (covers_right (alike_given P)
      (covers_then sim (λ cs vs p.
      let r = new_bind d w p.data_are in
      covers_exact (subst (λ z. Same_out (Gives d n (knowns hs (names xs)) m) (or_wrong (bound (map number xs) z d)) (Val vs)) (sym p.are)
      (subst (λ z. Same_out (Gives d n (knowns hs (names xs)) m) (or_wrong z) (Val vs)) (sym r.is)
      (same_value (record { extends = r.extends; stand = knowns_stand hs p.data_are r.have })))))))

-- new variables and names for data, and what follows under them
pub under_covers : (ps : List ℕ) {B B' : Type 0} {q : B → B' → Type 0} {d : Env} {n m : ℕ} {hs : List Shape} {xs : List Var} {cs : Row} {vs : List Datum} {sc inner : Scope} {env : Names Datum} {k : Env → Rel B} {k' : Names Datum → Rel B'}
    → New n xs hs m → bound ps (knowns hs (names xs)) sc ≡ Some inner → Are_components hs cs vs → Holds d n sc env
    → ((e : Env) (env' : Names Datum) → Extends n d e → Holds e m inner env' → Covers q (k e) (k' env')) → Covers q (under xs cs d k) (source.under ps vs env k')
under_covers ps {d = d} {hs = hs} {xs} {cs} {vs} {env = env} {k} {k'} w b p h l =
    let r = new_bind d w p.data_are in
    let s = names_hold ps (knowns_stand hs p.data_are r.have) (holds_on r.extends (new_grows w) h) b in
    covers_known_left (or_wrong (bound (map number xs) cs d)) r.env k _ (ap (λ z. or_wrong (bound (map number xs) z d)) p.are ∙ ap or_wrong r.is)
    (covers_known_right (or_wrong (bound ps vs env)) s.env k' (k r.env) (ap or_wrong s.is) (l r.env s.env r.extends s.holds))

module _ (tight : Bool) (budget : ℕ) where
  -- steps that come to one environment, and then others
  pub covers_behind : {d e : Env} {n m k : ℕ} {ks : List Known} {P : Rel (List Datum)} (bs cs : Bindings) → Alike (run tight budget bs d) (gives 0 e) → Extends n d e → n ≤ m → Covers (Gives e m ks k) (run tight budget cs e) P → Covers (Gives d n ks k) (run tight budget (bs ++ cs) d) P
  covers_behind {d} {e} bs cs a x le s =
      covers_left (alike_back (alike_on (alike_back (alike_runs tight budget bs cs d)) (alike_on (alike_then a (λ e. alike_same (run tight budget cs e))) (alike_value e (run tight budget cs)))))
      (covers_also (λ e' vs g. record { extends = extends_on le x g.extends; stand = g.stand }) s)
