-- Known functions applied to arguments, and where there is no way on in them.
use Rattle.std.proofs.Common.{◌≡◌, ◌<◌, ◌≤◌, ◌++◌, ℕ, suc, List, [], ◌∷◌, map, length, get_or, drop, false, Some, Ok, Err, refl, sym, ap, ◌∙◌, subst, append_assoc, arith}
use Rattle.std.proofs.lemmas.List.{length-append}
use Rattle.std.specs.Prelude.{IfErr, IfOk, Result}
use Rattle.std.specs.Borrow.{Bor}
use Rattle.fut_scalar.specs.declared.place.Place.{Place}
use Rattle.fut_flat.specs.declared.pat.Pat.{Pat}
use Rattle.fut_flat.specs.declared.prim.Primitive.{Primitive}
use Rattle.fut_flat.specs.Erased.{pattern_of, patterns, term_of}
use Rattle.fut_meaning.specs.Operations.{parameters_of}
use Rattle.unfold.specs.Held.{known_of, scope_of}
use Rattle.unfold.specs.Knowns.{Function_known, Known, Knowns, Primitive_known, knowns, listed}
use Rattle.unfold.specs.Stuck.{No_arguments, is_function, job_function, no_arguments, no_function, stuck_job, stuck_result, the_function}
use Rattle.unfold.specs.Unfolding.{Bindings, a_body, a_job, a_waits, data_known, named, step}
use Rattle.unfold.specs.declared.known.Field.{Field}
use Rattle.unfold.specs.declared.known.Function.{Function}
use Rattle.unfold.specs.declared.known.Known.{Known as Held_known}
use Rattle.unfold.specs.declared.known.Names.{Names as Held_names}
use Rattle.unfold.specs.declared.known.Entered.{Entered as Held_entered}
use Rattle.unfold.specs.declared.known.KnownForm.{KnownForm, KnownForm-F, out-KnownForm, roll-KnownForm, roll-out-KnownForm}
use Rattle.unfold.specs.declared.known.KnownForm.TheVariants as form
use Rattle.unfold.specs.declared.known.Scope.{Scope as Held_scope}
use Rattle.unfold.proofs.Mirror.{function_is, known_function, known_primitive, known_record, known_scalar, known_tuple}
use Rattle.unfold_parts.specs.Answers.{answered, unanswered, Applied_primitive, Is_ready, primitive_applied, primitive_ready, primitive_refused}
use Rattle.unfold_parts.specs.Jobs.{Begins, Begun_to, Ended_to, ended_to, not_ended}
use Rattle.unfold_parts.specs.declared.jobs.Job.{Job}
use Rattle.unfold_parts.specs.declared.primitives.Applied.{Applied as Step_form}
use Rattle.unfold_parts.specs.declared.primitives.Applied.TheVariants as step_form
use Rattle.unfold_parts.proofs.Packs.{unpacked_no_data}
use Rattle.fut_blocks.specs.Plain as act
use Rattle.fut_blocks.specs.Plain.{lets}
use Rattle.unfold_parts.proofs.Refusing.{only_memory, refused_as}
use Rattle.unfold_parts.specs.Refused.{lost}
use Rattle.unfold_parts.specs.States.{steps_of}
use Rattle.unfold_parts.specs.declared.refusal.Refusal.{Refusal}
use Rattle.unfold_parts.specs.declared.refusal.Refusal.TheVariants.{Lost, Memory}
use Rattle.unfold_parts.specs.declared.steps.Unfolding.{Unfolding}
use Rattle.unfold_program.specs.declared.walked.Context.{Context}
use Rattle.unfold_program.specs.declared.walked.Walked.{Walked}
use Rattle.unfold_program.specs.Answers.{Unfolded, unfolded, refused, Applied, applied, not_applied, All_applied, all_applied, not_all_applied, Job_applied, Argued, argued, not_argued, scope_in, written, defined, told}
use Rattle.unfold_program.proofs.Growing.{grown}
use Rattle.fut_meaning.specs.Meaning.{first_node}
use Rattle.unfold.specs.Telling.{function_row}
use Rattle.unfold.specs.Unfolding as rules
use Rattle.unfold_parts.specs.Told.{Applies, Applies_all, Binds, Stuck, Stuck_run, Stuck_runs}

back : (f g : KnownForm) → out-KnownForm f ≡ out-KnownForm g → f ≡ g
back f g q = sym (roll-out-KnownForm f) ∙ ap roll-KnownForm q ∙ roll-out-KnownForm g

abbrev Layer : Type 0
Layer = KnownForm-F Held_entered KnownForm Held_names Field Function Held_known

module _ (c : Context) (s : Known) (old new : Unfolding) (h : Held_known) where
  no_function_known : (f : Known) → known_of h ≡ f → is_function f ≡ false → Applied c (known_of h) s old new (Err Lost)
  no_function_known f e q = not_applied (lost (λ td tl. no_function (ap is_function e ∙ q)))

  -- data is no function
  pub apply_of_other : ((f : Bor Function) → h.form ≡ form.Function f → ⊥) → ((p : Primitive) (at : Place) (ss : Bor (List Held_known)) → h.form ≡ form.Primitive p at ss → ⊥) → Applied c (known_of h) s old new (Err Lost)
  apply_of_other nf np = at (out-KnownForm h.form) refl
    where
      at : (l : Layer) → out-KnownForm h.form ≡ l → Applied c (known_of h) s old new (Err Lost)
      at (KnownForm-F.Scalar u) q = no_function_known _ (known_scalar h u (back _ _ (q ∙ sym (form.outs-Scalar u)))) refl
      at (KnownForm-F.Tuple ss) q = no_function_known _ (known_tuple h ss (back _ _ (q ∙ sym (form.outs-Tuple ss)))) refl
      at (KnownForm-F.Record fs) q = no_function_known _ (known_record h fs (back _ _ (q ∙ sym (form.outs-Record fs)))) refl
      at (KnownForm-F.Function g) q = absurd (nf g (back _ _ (q ∙ sym (form.outs-Function g))))
      at (KnownForm-F.Primitive p place ss) q = absurd (np p place ss (back _ _ (q ∙ sym (form.outs-Primitive p place ss))))

  pub apply_of_primitive : (r : Result Held_known Refusal) (p : Primitive) (at : Place) (ss : Bor (List Held_known)) → h.form ≡ form.Primitive p at ss → Applied c (Primitive_known p at (knowns (map known_of ss.now))) s old new r → Applied c (known_of h) s old new r
  apply_of_primitive r p at ss is a = subst (λ z. Applied c z s old new r) (sym (known_primitive h p at ss is)) a

-- the same answer, given otherwise
module _ (c : Context) (old new : Unfolding) (r r' : Result Held_known Refusal) (is : r' ≡ r) where
  pub applied_as : (f s : Known) → Applied c f s old new r → Applied c f s old new r'
  applied_as f s h = subst (λ z. Applied c f s old new z) (sym is) h

  pub job_as : (p : Primitive) (at : Place) (ss : List Known) → Job_applied c p at ss old new r → Job_applied c p at ss old new r'
  job_as p at ss h gs s e ready = applied_as (Primitive_known p at gs) s (h gs s e ready)

-- a primitive with one argument more
module _ (c : Context) (p : Primitive) (at : Place) (ss : Knowns) (s : Known) (old mid : Unfolding) where
  pub primitive_as : (a a' : Step_form) → a ≡ a' → Applied_primitive p at ss s old.next (steps_of old) (steps_of mid) mid.next (Ok a) → Applied_primitive p at ss s old.next (steps_of old) (steps_of mid) mid.next (Ok a')
  primitive_as a a' e h = subst (λ z. Applied_primitive p at ss s old.next (steps_of old) (steps_of mid) mid.next (Ok z)) e h

  pub primitive_known : (k : Held_known) → Applied_primitive p at ss s old.next (steps_of old) (steps_of mid) mid.next (Ok (step_form.Known k)) → Applied c (Primitive_known p at ss) s old mid (Ok k)
  primitive_known k (primitive_applied bs g a) = applied bs g (λ td tl. a td (defined c))

  pub primitive_err : (new : Unfolding) (r : Refusal) → Applied_primitive p at ss s old.next (steps_of old) (steps_of mid) mid.next (Err r) → Applied c (Primitive_known p at ss) s old new (Err r)
  primitive_err new r (primitive_refused x) = not_applied (refused_as (λ w td tl. w td (defined c)) x)

  pub primitive_job : (new : Unfolding) (given : Bor (List Held_known)) (r : Result Held_known Refusal) → Applied_primitive p at ss s old.next (steps_of old) (steps_of mid) mid.next (Ok (step_form.Ready given)) → Job_applied c p at (map known_of given.now) mid new r → Applied c (Primitive_known p at ss) s old new r
  primitive_job new given r (primitive_ready e ready same n) job = from_here r (job ss s e (subst (Is_ready p) (sym e) ready))
    where
      from_here : (r : Result Held_known Refusal) → Applied c (Primitive_known p at ss) s mid new r → Applied c (Primitive_known p at ss) s old new r
      from_here _ (applied {r = k} bs g a) = applied bs (g ∙ ap (λ z. z ++ bs) same) (subst (λ z. Applies (told c) (defined c) (Primitive_known p at ss) s z bs (known_of k) new.next) n a)
      from_here _ (not_applied x) = not_applied x

pub job_mark : (c : Context) (us : List Known) (f : Known) (m1 m2 : Unfolding) (k : Held_known) (mark : ℕ) → mark ≡ length (steps_of m1) → All_applied c us f m1 m2 (Ok k) → mark ≤ length (steps_of m2)
job_mark c us f m1 m2 k mark q (all_applied cs g a) = omega (arith, q, ap length g, length-append (steps_of m1) cs)

-- a primitive on arrays with all its arguments
module _ (c : Context) (p : Primitive) (at : Place) (ss : List Known) (old m1 : Unfolding) where
  pub job_unbegun : (new : Unfolding) (r : Refusal) → Begun_to p ss old.next (steps_of old) (steps_of m1) m1.next (Err r) → Job_applied c p at ss old new (Err r)
  job_unbegun new r (unanswered x) gs s e ready =
      let full = subst (Is_ready p) e ready in
      not_applied (refused_as (λ lacks td tl. no_arguments full.full full.arrays (subst (No_arguments p) e lacks)) x)

  module _ (j : Job) (m2 : Unfolding) where
    -- what its function comes to, on the names of its arguments
    on_names : (gs : Knowns) (s : Known) {bs : Bindings} → ss ≡ listed gs ++ s ∷ [] → Begins p ss old.next bs j m1.next → Stuck_runs (told c) (defined c) (map known_of j.arguments.now) (known_of j.function) → Stuck_runs (told c) (defined c) (map named j.params.now) (the_function p (listed gs ++ s ∷ []))
    on_names gs s e b w = subst (λ z. Stuck_runs (told c) (defined c) (map named j.params.now) (the_function p z)) e (subst (λ z. Stuck_runs (told c) (defined c) (map named j.params.now) z) b.function (subst (λ z. Stuck_runs (told c) (defined c) z (known_of j.function)) b.named.knowns w))

    applied_on_names : (gs : Knowns) (s : Known) {t : Known} {n : ℕ} {bs cs : Bindings} → ss ≡ listed gs ++ s ∷ [] → Begins p ss old.next bs j m1.next → Applies_all (told c) (defined c) (map known_of j.arguments.now) (known_of j.function) m1.next cs t n → Applies_all (told c) (defined c) (map named j.params.now) (the_function p (listed gs ++ s ∷ [])) m1.next cs t n
    applied_on_names gs s {t} {n} {cs = cs} e b w = subst (λ z. Applies_all (told c) (defined c) (map named j.params.now) (the_function p z) m1.next cs t n) e (subst (λ z. Applies_all (told c) (defined c) (map named j.params.now) z m1.next cs t n) b.function (subst (λ z. Applies_all (told c) (defined c) z (known_of j.function) m1.next cs t n) b.named.knowns w))

    pub job_stuck : (new : Unfolding) (r : Refusal) → Begun_to p ss old.next (steps_of old) (steps_of m1) m1.next (Ok j) → All_applied c (map known_of j.arguments.now) (known_of j.function) m1 m2 (Err r) → Job_applied c p at ss old new (Err r)
    job_stuck new r (answered bs g b) (not_all_applied x) gs s e ready =
        let full = subst (Is_ready p) e ready in
        not_applied (refused_as (λ w td tl. stuck_job j.params.now full.full full.arrays b.named.many ((on_names gs s e b w) td tl)) x)

    module _ (mark : ℕ) (k : Held_known) (q : mark ≡ length (steps_of m1)) where
      pub job_end : (new : Unfolding) (r : Result Held_known Refusal) → Begun_to p ss old.next (steps_of old) (steps_of m1) m1.next (Ok j) → All_applied c (map known_of j.arguments.now) (known_of j.function) m1 m2 (Ok k) → Ended_to (told c).sizes mark p at (known_of j.function) j.atoms.now j.params.now (known_of k) m2.next (steps_of m2) (steps_of new) new.next r → Job_applied c p at ss old new r
      job_end new _ (answered bs g b) (all_applied cs g' a) (ended_to {row = row} {s = h} {m} {ds} {w} row_told pk f is n) gs s e ready =
          let full = subst (Is_ready p) e ready in
          let job = act.Job row p at j.atoms.now j.params.now (lets (cs ++ ds) (w ∷ [])) in
          let whole : Applies (told c) (defined c) (Primitive_known p at gs) s old.next (bs ++ step (m ∷ []) job) (named m) (suc m) = (λ td tl. subst (λ z. rules.Applies td (defined c) (Primitive_known p at gs) s old.next (bs ++ step (m ∷ []) (act.Job z p at j.atoms.now j.params.now (lets (cs ++ ds) (w ∷ [])))) (named m) (suc m)) (sym (row_told td.sizes tl.sizes ∙ ap (λ z. function_row td.sizes p z j.atoms.now) b.function ∙ ap (λ z. function_row td.sizes p (the_function p z) j.atoms.now) e)) (a_job {x = m} j.params.now full.full full.arrays (subst (λ z. data_known (parameters_of p) z ≡ Some b.arguments) e b.are_data) b.packs b.named.upward b.named.many ((applied_on_names gs s e b a) td tl) pk (omega arith))) in
          applied (bs ++ step (m ∷ []) job)
          (f (steps_of m1) cs (sym q) g' ∙ ap (λ z. z ++ step (m ∷ []) job) g ∙ append_assoc (steps_of old) bs _)
          (subst (λ z. Applies (told c) (defined c) (Primitive_known p at gs) s old.next (bs ++ step (m ∷ []) job) (known_of h) z) (sym n) (subst (λ z. Applies (told c) (defined c) (Primitive_known p at gs) s old.next (bs ++ step (m ∷ []) job) z (suc m)) (sym is) whole))
      job_end new _ (answered bs g b) (all_applied cs g' a) (not_ended x) gs s e ready =
          let full = subst (Is_ready p) e ready in
          not_applied (refused_as (λ lacks td tl. job_function j.params.now full.full full.arrays b.named.many ((applied_on_names gs s e b a) td tl) (unpacked_no_data (known_of k) lacks)) x)

-- a function with one argument more
module _ (c : Context) (s : Known) (old : Unfolding) (h : Held_known) (f : Bor Function) (is : h.form ≡ form.Function f) where
  as_function : (new : Unfolding) (r : Result Held_known Refusal) → Applied c (Function_known (patterns (map pattern_of f.now.parameters.now)) (term_of f.now.body.now) f.now.first (scope_in f.now)) s old new r → Applied c (known_of h) s old new r
  as_function new r a = subst (λ z. Applied c z s old new r) (sym (known_function h f is)) a

  pub apply_unargued : (mid new : Unfolding) (r : Refusal) → Argued (told c).sizes f.now s old mid (Err r) → Applied c (known_of h) s old new (Err r)
  apply_unargued mid new r (not_argued x) = subst (λ z. Applied c z s old new (Err r)) (function_is f.now ∙ sym (known_function h f is)) (not_applied (refused_as (λ w td tl. w td (defined c)) x))

  module _ (inner : Held_scope) (mid : Unfolding) where
    -- it waits for further ones
    pub apply_waits : (qs : List Pat) (r : Result Held_known Refusal) → Argued (told c).sizes f.now s old mid (Ok inner) → 1 < length f.now.parameters.now → qs ≡ drop 1 f.now.parameters.now → IfOk r (λ k. known_of k ≡ Function_known (patterns (map pattern_of qs)) (term_of f.now.body.now) f.now.first (scope_of inner)) → IfErr r (λ x. x ≡ Memory) → Applied c (known_of h) s old mid r
    unfolding patterns
    apply_waits qs (Err x) a some q e m = not_applied (only_memory m)
    apply_waits qs (Ok k) (argued d bs nonempty g b) some q e m = as_function mid (Ok k) (applied bs g (subst (λ z. Applies (told c) (defined c) (Function_known (patterns (map pattern_of f.now.parameters.now)) (term_of f.now.body.now) f.now.first (scope_in f.now)) s old.next bs z mid.next) (sym (e ∙ ap (λ z. Function_known (patterns (map pattern_of z)) (term_of f.now.body.now) f.now.first (scope_of inner)) q)) (waits f.now.parameters.now some b)))
      where
        waits : (ps : List Pat) → 1 < length ps → Binds (told c).sizes (first_node (patterns (map pattern_of ps)) f.now.first) (pattern_of (get_or ps 0 d)) s (scope_in f.now) old.next bs (scope_of inner) mid.next → Applies (told c) (defined c) (Function_known (patterns (map pattern_of ps)) (term_of f.now.body.now) f.now.first (scope_in f.now)) s old.next bs (Function_known (patterns (map pattern_of (drop 1 ps))) (term_of f.now.body.now) f.now.first (scope_of inner)) mid.next
        waits [] some b = absurd (omega (arith, some))
        waits (p ∷ []) some b = absurd (omega (arith, some))
        waits (p ∷ q ∷ ps) some b = λ td tl. a_waits (b td.sizes tl.sizes)

    -- or its body is unfolded
    pub apply_runs : (new : Unfolding) (r : Walked) → Argued (told c).sizes f.now s old mid (Ok inner) → length f.now.parameters.now ≤ 1 → Unfolded c (scope_of inner) f.now.first (term_of f.now.body.now) mid new (Ok r) → Applied c (known_of h) s old new (Ok r.known)
    unfolding patterns
    apply_runs new r (argued d es nonempty ge b) few (unfolded bs g u k) = as_function new (Ok r.known) (applied (es ++ bs) (grown (steps_of old) (steps_of mid) (steps_of new) es bs ge g) (runs f.now.parameters.now nonempty few b))
      where
        runs : (ps : List Pat) → (length ps ≡ 0 → ⊥) → length ps ≤ 1 → Binds (told c).sizes (first_node (patterns (map pattern_of ps)) f.now.first) (pattern_of (get_or ps 0 d)) s (scope_in f.now) old.next es (scope_of inner) mid.next → Applies (told c) (defined c) (Function_known (patterns (map pattern_of ps)) (term_of f.now.body.now) f.now.first (scope_in f.now)) s old.next (es ++ bs) (known_of r.known) new.next
        runs [] nonempty few b = absurd (nonempty refl)
        runs (p ∷ []) nonempty few b = λ td tl. a_body (b td.sizes tl.sizes) (u td tl)
        runs (p ∷ q ∷ ps) nonempty few b = absurd (omega (arith, few))

    pub apply_stuck : (new : Unfolding) (r : Refusal) → Argued (told c).sizes f.now s old mid (Ok inner) → length f.now.parameters.now ≤ 1 → Unfolded c (scope_of inner) f.now.first (term_of f.now.body.now) mid new (Err r) → Applied c (known_of h) s old new (Err r)
    unfolding patterns
    apply_stuck new r (argued d es nonempty ge b) few (refused x) = as_function new (Err r) (not_applied (refused_as (λ w. stuck_there f.now.parameters.now nonempty few b w) x))
      where
        stuck_there : (ps : List Pat) → (length ps ≡ 0 → ⊥) → length ps ≤ 1 → Binds (told c).sizes (first_node (patterns (map pattern_of ps)) f.now.first) (pattern_of (get_or ps 0 d)) s (scope_in f.now) old.next es (scope_of inner) mid.next → Stuck (told c) (defined c) (scope_of inner) f.now.first (term_of f.now.body.now) → Stuck_run (told c) (defined c) (Function_known (patterns (map pattern_of ps)) (term_of f.now.body.now) f.now.first (scope_in f.now)) s
        stuck_there [] nonempty few b w = absurd (nonempty refl)
        stuck_there (p ∷ []) nonempty few b w = λ td tl. stuck_result (old.next, es, mid.next, b td.sizes tl.sizes) (w td tl)
        stuck_there (p ∷ q ∷ ps) nonempty few b w = absurd (omega (arith, few))

    pub apply_walks : (new : Unfolding) (r : Result (Unit {0}) Refusal) (w : Walked) → Argued (told c).sizes f.now s old mid (Ok inner) → length f.now.parameters.now ≤ 1 → Unfolded c (scope_of inner) f.now.first (term_of f.now.body.now) mid new (written r w) → Applied c (known_of h) s old new (written r w.known)
    apply_walks new (Ok u) w a few h = apply_runs new w a few h
    apply_walks new (Err x) w a few h = apply_stuck new x a few h
