-- What acts answer, by what their parts do.
use Rattle.std.proofs.Common.{◌≡◌, ℕ, ◌<◌, ◌^◌, List, length, true, false, Ok, Err, sym, subst, arith}
use Rattle.fut_scalar.specs.Integers.{width_of}
use Rattle.fut_scalar.specs.declared.place.Place.{Place}
use Rattle.fut_scalar.specs.declared.report.FailKind.TheVariants as kind
use Rattle.fut_scalar.specs.declared.scalar.IntType.{IntType}
use Rattle.fut_meaning.specs.Meaning.{counts}
use Rattle.fut_meaning.specs.Operations.{report}
use Rattle.fut_meaning.specs.Outcomes.{Val, and_then, the, Then, stops, sticks, choose, turns, while_turns}
use Rattle.fut_blocks.specs.declared.block.Atom.{Atom}
use Rattle.fut_blocks.specs.declared.block.Operation.{Operation}
use Rattle.array_data.specs.declared.stop.Stop.TheVariants.{Stuck, Memory}
use Rattle.fut_blocks.specs.Plain.{Action, Operate, Coerce, If, For, Over, While, Body}
use Rattle.fut_blocks.specs.Meaning.{Component, Results, value_of, values_of, truth_of_atom, turns_of_datum, under, test_turn, for_turns, row_turns, act_means, body_means}
use Rattle.fut_blocks.specs.Rows.{Row, Size_test}
use Rattle.fut_blocks.specs.Numbered.{Act_numbered}
use Rattle.fut_blocks.proofs.Layers.{action_of-Operate, action_of-Make, action_of-Primitive, action_of-Size, action_of-Coerce, action_of-If, action_of-For, action_of-ForEach, action_of-While}
use Rattle.array_data.specs.declared.stop.Stop.{Stop}
use Rattle.fut_eval.specs.Answers.{Answer, Runs, ran, failed, no_memory, gone, Truth_at, Turns_at, Operates, Reads, Reads_all, told, lost}
use Rattle.std.proofs.Common.{◌∙◌}
use Rattle.array_data.specs.declared.data.Data.{Data}
use Rattle.array_data.specs.Held.{held_all, rows_in, row_shape_in}
use Rattle.array_data.specs.Answers.{Counts, counts as rows_told, no_array}
use Rattle.array_data.proofs.Jobbing.{rows_counted}
use Rattle.fut_meaning.specs.Arrays.{rows_of}
use Rattle.fut_eval.proofs.Holding.{held_length}
use Rattle.fut_eval.specs.Runs.{Coerces, Made_runs, Act_runs, Body_runs, index_turn, row_turn, For_runs, Over_runs, While_runs}
use Rattle.fut_eval.proofs.Tells.{tells_then, tells_stop, leads_then, runs_in, runs_less, then_next, then_stop, stands_more}
use Rattle.fut_eval.proofs.Steps.{body_rises}

module _ (budget : ℕ) (t t' s s' : List Component) where
  pub act_operate : (o : Operation) (r : Answer) → Operates t o s s' r → Act_runs budget (Operate o) t t s s' r
  unfolding Operates Act_runs act_means
  act_operate o r h env n last st na l = h env n st

  module _ (c : Atom) (a b : Body) where
    pub if_stop : (e : Stop) → Truth_at t c (Err e) → Act_runs budget (If c a b) t t s s (Err e)
    unfolding Truth_at Act_runs act_means
    if_stop e h env n last st na l = then_stop n t t s s (truth_of_atom env c) (λ z. choose z (body_means true budget a env) (body_means true budget b env)) e (h env n st)

    pub if_yes : (r : Answer) → Truth_at t c (Ok true) → Body_runs budget a t t' s s' r → Act_runs budget (If c a b) t t' s s' r
    unfolding Truth_at Act_runs Body_runs act_means Act_numbered
    if_yes r h k env n last st (mid, na, nb) l =
        then_next n t t' s s' (truth_of_atom env c) (λ z. choose z (body_means true budget a env) (body_means true budget b env)) true r (h env n st) (k env n mid st na (let z = body_rises b mid last nb in omega arith))

    pub if_no : (r : Answer) → Truth_at t c (Ok false) → Body_runs budget b t t' s s' r → Act_runs budget (If c a b) t t' s s' r
    unfolding Truth_at Act_runs Body_runs act_means Act_numbered
    if_no r h k env n last st (mid, na, nb) l =
        let z = body_rises a n mid na in
        then_next n t t' s s' (truth_of_atom env c) (λ z. choose z (body_means true budget a env) (body_means true budget b env)) false r (h env n st)
        (runs_less (body_means true budget b env) n mid t t' s s' r z (k env mid last (stands_more env n mid t z st) nb l))

-- what follows the first values of a loop
after_first : (n : ℕ) (t t' s s' : List Component) (m : Results) (k : List Component → Results) (vs : List Component) (f : ℕ) (r : Answer) → m (Val vs) f → Runs (k vs) n t t' s s' r → Runs (Then m k) n t t' s s' r
after_first n t t' s s' m k vs f r h x = runs_in n t t' s s' (Then m k) (k vs) r (leads_then m k vs f h) x

first_stop : (n : ℕ) (t s s' : List Component) (m : Results) (k : List Component → Results) (e : Stop) → Runs m n t t s s' (Err e) → Runs (Then m k) n t t s s' (Err e)
first_stop n t s s' m k _ (failed f y) = failed f (stops y)
first_stop n t s s' m k _ no_memory = no_memory
first_stop n t s s' m k _ (gone f y) = gone f (sticks y)

module _ (budget : ℕ) (t s s1 : List Component) (us : List Atom) where
  module _ (xs : List ℕ) (i : ℕ) (c : Atom) (b : Body) where
    pub for_first_stop : (e : Stop) → Reads_all t us s s1 (Err e) → Act_runs budget (For xs us i c b) t t s s1 (Err e)
    unfolding Reads_all Act_runs act_means
    for_first_stop e h env n last st na l = first_stop n t s s1 (the (values_of env us)) (for_turns (body_means true budget b) xs i env c) e (h env n st)

    module _ (h : Reads_all t us s s1 (Ok tt)) where
      pub for_count_stop : (e : Stop) → Turns_at t c (Err e) → Act_runs budget (For xs us i c b) t t s s1 (Err e)
      unfolding Reads_all Turns_at Act_runs act_means
      for_count_stop e k env n last st na l = by_first (h env n st)
        where
          by_first : Runs (the (values_of env us)) n t t s s1 (Ok tt) → Runs (Then (the (values_of env us)) (for_turns (body_means true budget b) xs i env c)) n t t s s1 (Err e)
          by_first (ran vs f q w x y) =
              after_first n t t s s1 (the (values_of env us)) (for_turns (body_means true budget b) xs i env c) vs f (Err e) y
              (then_stop n t t s s1 (and_then (value_of env c) turns_of_datum) _ e (k env n st))
          by_first (gone f y) = gone f (sticks y)

      pub for_done : (ty : IntType) (count mark : ℕ) (t' s' : List Component) (r : Answer) → Turns_at t c (Ok (ty, count)) → count < 2 ^ width_of ty → mark ≡ length s → For_runs budget b xs i ty count mark t t' s1 s' r → Act_runs budget (For xs us i c b) t t' s s' r
      unfolding Reads_all Turns_at Act_runs For_runs act_means Act_numbered
      for_done ty count mark t' s' r k m p x env n last st (mid, u, w, nb) l = by_first (h env n st)
        where
          by_first : Runs (the (values_of env us)) n t t s s1 (Ok tt) → Runs (Then (the (values_of env us)) (for_turns (body_means true budget b) xs i env c)) n t t' s s' r
          by_first (ran vs f q v z y) =
              after_first n t t' s s' (the (values_of env us)) (for_turns (body_means true budget b) xs i env c) vs f r y
              (then_next n t t' s s' (and_then (value_of env c) turns_of_datum) (λ d. turns (index_turn budget b xs i d.0 env) (counts d.1 0) vs) (ty, count) r (k env n st)
              (x env n mid last s vs st u w nb l q (sym p) v m))
          by_first (gone f y) = gone f (sticks y)

  module _ (xs : List ℕ) (i : ℕ) (c : Atom) (b : Body) where
    pub over_first_stop : (e : Stop) → Reads_all t us s s1 (Err e) → Act_runs budget (Over xs us i c b) t t s s1 (Err e)
    unfolding Reads_all Act_runs act_means
    over_first_stop e h env n last st na l = first_stop n t s s1 (the (values_of env us)) (row_turns (body_means true budget b) xs i env c) e (h env n st)

    module _ (h : Reads_all t us s s1 (Ok tt)) where
      pub over_rows_stop : (e : Stop) → Reads t c (Err e) → Act_runs budget (Over xs us i c b) t t s s1 (Err e)
      unfolding Reads_all Reads Act_runs act_means
      over_rows_stop e k env n last st na l = by_first (h env n st)
        where
          by_first : Runs (the (values_of env us)) n t t s s1 (Ok tt) → Runs (Then (the (values_of env us)) (row_turns (body_means true budget b) xs i env c)) n t t s s1 (Err e)
          by_first (ran vs f q w x y) =
              after_first n t t s s1 (the (values_of env us)) (row_turns (body_means true budget b) xs i env c) vs f (Err e) y
              (then_stop n t t s s1 (and_then (value_of env c) rows_of) _ e (tells_stop (value_of env c) rows_of e (k env n st)))
          by_first (gone f y) = gone f (sticks y)

      pub over_no_array : (d : Component) (e : Stop) → Reads t c (Ok d) → Counts d (Err e) → Act_runs budget (Over xs us i c b) t t s s1 (Err e)
      unfolding Reads_all Reads Act_runs act_means
      over_no_array d _ k (no_array g) env n last st na l = by_first (h env n st)
        where
          by_first : Runs (the (values_of env us)) n t t s s1 (Ok tt) → Runs (Then (the (values_of env us)) (row_turns (body_means true budget b) xs i env c)) n t t s s1 (Err Stuck)
          by_first (ran vs f q w x y) =
              after_first n t t s s1 (the (values_of env us)) (row_turns (body_means true budget b) xs i env c) vs f (Err Stuck) y
              (then_stop n t t s s1 (and_then (value_of env c) rows_of) _ Stuck (tells_then (value_of env c) rows_of d (Err Stuck) (k env n st) (lost g)))
          by_first (gone f y) = gone f (sticks y)

      pub over_done : (d : Component) (m mark : ℕ) (t' s' : List Component) (r : Answer) → Reads t c (Ok d) → Counts d (Ok m) → mark ≡ length s → Over_runs budget b xs i d mark t t' s1 s' r → Act_runs budget (Over xs us i c b) t t' s s' r
      unfolding Reads_all Reads Act_runs Over_runs act_means Act_numbered
      over_done d m mark t' s' r k (rows_told g w) p x env n last st (mid, u, v, nb) l = by_first (h env n st)
        where
          by_first : Runs (the (values_of env us)) n t t s s1 (Ok tt) → Runs (Then (the (values_of env us)) (row_turns (body_means true budget b) xs i env c)) n t t' s s' r
          by_first (ran vs f q y z o) =
              after_first n t t' s s' (the (values_of env us)) (row_turns (body_means true budget b) xs i env c) vs f r o
              (then_next n t t' s s' (and_then (value_of env c) rows_of) (λ rs. turns (row_turn budget b xs i env) rs.1 vs) (row_shape_in d, rows_in d) r
              (tells_then (value_of env c) rows_of d (Ok (row_shape_in d, rows_in d)) (k env n st) (told g))
              (x env n mid last s vs st u v nb l q (sym p) y))
          by_first (gone f y) = gone f (sticks y)

  module _ (at : Place) (xs : List ℕ) (c b : Body) where
    pub while_first_stop : (e : Stop) → Reads_all t us s s1 (Err e) → Act_runs budget (While at xs us c b) t t s s1 (Err e)
    unfolding Reads_all Act_runs act_means
    while_first_stop e h env n last st na l = first_stop n t s s1 (the (values_of env us)) _ e (h env n st)

    pub while_act_done : (mark : ℕ) (t' s' : List Component) (r : Answer) → Reads_all t us s s1 (Ok tt) → mark ≡ length s → While_runs budget c b xs at mark t t' s1 s' r → Act_runs budget (While at xs us c b) t t' s s' r
    unfolding Reads_all Act_runs While_runs act_means Act_numbered
    while_act_done mark t' s' r h p x env n last st (mid, u, mid', nc, nb) l = by_first (h env n st)
      where
        by_first : Runs (the (values_of env us)) n t t s s1 (Ok tt) → Runs (Then (the (values_of env us)) (while_turns budget (report kind.Turns at) (test_turn (body_means true budget c) xs env) (λ ws. under xs ws env (body_means true budget b)))) n t t' s s' r
        by_first (ran vs f q v z y) =
            after_first n t t' s s' (the (values_of env us)) (while_turns budget (report kind.Turns at) (test_turn (body_means true budget c) xs env) (λ ws. under xs ws env (body_means true budget b))) vs f r y
            (x env n mid mid' last s vs st u nc nb l q (sym p) v)
        by_first (gone f y) = gone f (sticks y)

pub held_for_done : (budget : ℕ) (t given : List Data) (s : List Data) (s1 : List Component) (us : List Atom) (xs : List ℕ) (i : ℕ) (c : Atom) (b : Body) → Reads_all (held_all t) us (held_all s) s1 (Ok tt) → (ty : IntType) (count mark : ℕ) (t' s' : List Component) (r : Answer) → Turns_at (held_all t) c (Ok (ty, count)) → count < 2 ^ width_of ty → mark ≡ length s → given ≡ t → For_runs budget b xs i ty count mark (held_all given) t' s1 s' r → Act_runs budget (For xs us i c b) (held_all t) t' (held_all s) s' r
held_for_done budget t given s s1 us xs i c b h ty count mark t' s' r k m p e x =
    for_done budget (held_all t) (held_all s) s1 us xs i c b h ty count mark t' s' r k m (p ∙ sym (held_length s)) (subst (λ z. For_runs budget b xs i ty count mark (held_all z) t' s1 s' r) e x)

pub held_while_act_done : (budget : ℕ) (t given : List Data) (s : List Data) (s1 : List Component) (us : List Atom) (at : Place) (xs : List ℕ) (c b : Body) (mark : ℕ) (t' s' : List Component) (r : Answer) → Reads_all (held_all t) us (held_all s) s1 (Ok tt) → mark ≡ length s → given ≡ t → While_runs budget c b xs at mark (held_all given) t' s1 s' r → Act_runs budget (While at xs us c b) (held_all t) t' (held_all s) s' r
held_while_act_done budget t given s s1 us at xs c b mark t' s' r h p e x =
    while_act_done budget (held_all t) (held_all s) s1 us at xs c b mark t' s' r h (p ∙ sym (held_length s)) (subst (λ z. While_runs budget c b xs at mark (held_all z) t' s1 s' r) e x)

pub held_over_done : (budget : ℕ) (t given : List Data) (s : List Data) (s1 : List Component) (us : List Atom) (xs : List ℕ) (i : ℕ) (c : Atom) (b : Body) → Reads_all (held_all t) us (held_all s) s1 (Ok tt) → (d : Component) (m mark : ℕ) (t' s' : List Component) (r : Answer) → Reads (held_all t) c (Ok d) → Counts d (Ok m) → mark ≡ length s → given ≡ t → Over_runs budget b xs i d mark (held_all given) t' s1 s' r → Act_runs budget (Over xs us i c b) (held_all t) t' (held_all s) s' r
held_over_done budget t given s s1 us xs i c b h d m mark t' s' r k g p e x =
    over_done budget (held_all t) (held_all s) s1 us xs i c b h d m mark t' s' r k g (p ∙ sym (held_length s)) (subst (λ z. Over_runs budget b xs i d mark (held_all z) t' s1 s' r) e x)

pub act_made : (budget : ℕ) (a : Action) (t given : List Data) (s s' : List Component) (r : Answer) → Made_runs a (held_all t) s s' r → given ≡ t → Act_runs budget a (held_all t) (held_all given) s s' r
unfolding Made_runs Act_runs
act_made budget a t given s s' r h e env n last st na l = subst (λ z. Runs (act_means true budget a env) n (held_all t) (held_all z) s s' r) (sym e) (h budget env n st)

pub act_coerce : (budget : ℕ) (at : Place) (w : Size_test) (row : Row) (t s : List Component) (r : Answer) → Coerces t at w row r → Act_runs budget (Coerce at w row) t t s s r
unfolding Coerces Made_runs Act_runs
act_coerce budget at w row t s r h env n last st na l = h s budget env n st

pub act_memory : (budget : ℕ) (a : Action) (t s : List Component) → Act_runs budget a t t s s (Err Memory)
unfolding Act_runs
act_memory budget a t s env n last st na l = no_memory

pub ruleset act_rules = (action_of-Operate, action_of-Make, action_of-Primitive, act_memory, act_made, act_coerce, action_of-If, action_of-For, action_of-ForEach, action_of-While, act_operate, if_stop, if_yes, if_no, for_first_stop, for_count_stop, held_for_done, over_first_stop, over_rows_stop, over_no_array, held_over_done, rows_counted, while_first_stop, held_while_act_done)
