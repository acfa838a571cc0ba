-- Steps of sizing, one after another.
use Rattle.std.proofs.Common.{◌≡◌, Result, Ok, Err, refl, sym, ap, ◌∙◌, subst}
use Rattle.fut_typing.specs.Names.{Names}
use Rattle.fut_sizes.specs.Agreeing.{Answer, then_do}
use Rattle.fut_sizes.specs.Scopes.{Scope}
use Rattle.fut_sizes.specs.Steps.{State, Done, Step, give, ask, and_then}
use Rattle.alias_parts.specs.Known.{Knows}
use Rattle.size_arena.specs.declared.agreeing.Refusal.{Refusal}
use Rattle.size_arena.specs.declared.agreeing.SizeErr.{SizeErr}
use Rattle.size_arena.specs.declared.agreeing.SizeErr.TheVariants as size_err
use Rattle.size_arena.specs.Answers.{refusal_of}
use Rattle.size_program.specs.declared.maps.NumberMap.{NumberMap}
use Rattle.size_program.specs.declared.program.Program.{Program}
use Rattle.size_program.specs.declared.tables.Tables.{Tables}
use Rattle.size_program.specs.Tables.{In_scope, Stands}
use Rattle.size_program.specs.Answers.{Answers, answers, refuses, no_memory, Runs, runs, refused, no_memory_left, Steps, Going, Takes}

-- a result, of these types
abbrev pub ok_in : (A E : Type 0) → A → Result A E
ok_in A E a = Ok a

abbrev pub err_in : (A E : Type 0) → E → Result A E
err_in A E e = Err e

-- first one, then another, then what follows
pub regrouped : {A B C : Type 0} (m : Step A) (n : A → Step B) (o : B → Step C) (s : State) → and_then (and_then m n) o s ≡ and_then m (λ a. and_then (n a) o) s
regrouped {A = A} {B = B} {C = C} m n o s = by_answer (m s)
  where
    by_answer : (a : Answer (Done A)) → then_do (then_do a (λ d. n d.result d.state)) (λ d. o d.result d.state) ≡ then_do a (λ d. then_do (n d.result d.state) (λ e. o e.result e.state))
    by_answer (Ok d) = refl
    by_answer (Err e) = refl

-- ---- an answer that runs, taken apart by what code has

module _ {A B : Type 0} (R : B → A → Type 0) (m : Answer (Done A)) (g : Tables) (k : Result B SizeErr) (first : Runs R m g k) where
  pub record Ran (x : B) : Type 0 where
    pub result : A
    pub state : State
    pub is : m ≡ Ok (record { result = result; state = state })
    pub related : R x result
    pub stands : Stands g state

  pub ran : (x : B) → k ≡ Ok x → Ran x
  ran x is = by_first first is
    where
      same : (y : B) → ok_in _ SizeErr y ≡ Ok x → y ≡ x
      same y e = cc

      never : (y : SizeErr) → err_in B SizeErr y ≡ Ok x → ⊥
      never y e = cc

      by_first : {k : Result B SizeErr} → Runs R m g k → k ≡ Ok x → Ran x
      by_first (runs {x = y} {y = a} s p h there) is = record { result = a; state = s; is = p; related = subst (λ z. R z a) (same y is) h; stands = there }
      by_first (refused {e = y} p) is = elim (never (size_err.Refused y) is) [ ]
      by_first no_memory_left is = elim (never size_err.Memory is) [ ]

  -- a refusal, or memory ran out, stays so whatever would follow
  pub ran_not : {C D : Type 0} (Q : D → C → Type 0) (next : Done A → Answer (Done C)) (h : Tables) (x : SizeErr) → k ≡ Err x → Runs Q (then_do m next) h (Err x)
  ran_not {C = C} {D = D} Q next h x is = by_first first is
    where
      never : (y : B) → ok_in _ SizeErr y ≡ Err x → ⊥
      never y e = cc

      other : (y : SizeErr) → err_in B SizeErr y ≡ Err x → err_in D SizeErr y ≡ Err x
      other y e = cc

      by_first : {k : Result B SizeErr} → Runs R m g k → k ≡ Err x → Runs Q (then_do m next) h (Err x)
      by_first (runs {x = y} s p r there) is = elim (never y is) [ ]
      by_first (refused {e = y} p) is = subst (λ z. Runs Q (then_do m next) h z) (other (size_err.Refused y) is) (refused (ap (λ z. then_do z next) p))
      by_first no_memory_left is = subst (λ z. Runs Q (then_do m next) h z) (other size_err.Memory is) no_memory_left

-- ---- the same of an answer that keeps no state

module _ {A B : Type 0} (R : B → A → Type 0) (a : Answer A) (k : Result B SizeErr) (first : Answers R a k) where
  pub record Answered (x : B) : Type 0 where
    pub result : A
    pub is : a ≡ Ok result
    pub related : R x result

  pub answered : (x : B) → k ≡ Ok x → Answered x
  answered x is = by_first first is
    where
      same : (y : B) → ok_in _ SizeErr y ≡ Ok x → y ≡ x
      same y e = cc

      never : (y : SizeErr) → err_in B SizeErr y ≡ Ok x → ⊥
      never y e = cc

      by_first : {k : Result B SizeErr} → Answers R a k → k ≡ Ok x → Answered x
      by_first (answers {x = y} {y = b} p h) is = record { result = b; is = p; related = subst (λ z. R z b) (same y is) h }
      by_first (refuses {e = y} p) is = elim (never (size_err.Refused y) is) [ ]
      by_first no_memory is = elim (never size_err.Memory is) [ ]

  pub answered_not : {C D : Type 0} (Q : D → C → Type 0) (next : A → Answer C) (x : SizeErr) → k ≡ Err x → Answers Q (then_do a next) (Err x)
  answered_not {C = C} {D = D} Q next x is = by_first first is
    where
      never : (y : B) → ok_in _ SizeErr y ≡ Err x → ⊥
      never y e = cc

      other : (y : SizeErr) → err_in B SizeErr y ≡ Err x → err_in D SizeErr y ≡ Err x
      other y e = cc

      by_first : {k : Result B SizeErr} → Answers R a k → k ≡ Err x → Answers Q (then_do a next) (Err x)
      by_first (answers {x = y} p h) is = elim (never y is) [ ]
      by_first (refuses {e = y} p) is = subst (λ z. Answers Q (then_do a next) z) (other (size_err.Refused y) is) (refuses (ap (λ z. then_do z next) p))
      by_first no_memory is = subst (λ z. Answers Q (then_do a next) z) (other size_err.Memory is) no_memory

-- one answer after another
module _ {A B C D : Type 0} (R : B → A → Type 0) (Q : D → C → Type 0) (next : A → Answer C) (a : Answer A) where
  pub answers_then : (k : Result B SizeErr) (x : B) (r : Result D SizeErr) → k ≡ Ok x → Answers R a k → ((y : A) → R x y → Answers Q (next y) r) → Answers Q (then_do a next) r
  answers_then k x r is first rest = let d = answered R a k first x is in subst (λ z. Answers Q (then_do z next) r) (sym d.is) (rest d.result d.related)

-- ---- steps, one after another

module _ {A B C D : Type 0} (R : B → A → Type 0) (Q : D → C → Type 0) (m : Step A) (next : A → Step C) (f g h : Tables) where
  pub steps_then : (k : Result B SizeErr) (x : B) (r : Result D SizeErr) → k ≡ Ok x → Steps R m f g k → ((y : A) → R x y → Steps Q (next y) g h r) → Steps Q (and_then m next) f h r
  steps_then k x r is first rest = record {
    steps = λ s stands.
        let d = ran R (m s) g k (first.steps s stands) x is in
        subst (λ z. Runs Q (then_do z (λ d. next d.result d.state)) h r) (sym d.is) ((rest d.result d.related).steps d.state d.stands);
  }

  pub steps_stop : (k : Result B SizeErr) (x : SizeErr) → k ≡ Err x → Steps R m f g k → Steps Q (and_then m next) f h (Err x)
  steps_stop k x is first = record { steps = λ s stands. ran_not R (m s) g k (first.steps s stands) Q (λ d. next d.result d.state) h x is }

-- an answer is asked for
module _ {A B C D : Type 0} (R : B → A → Type 0) (Q : D → C → Type 0) (a : Answer A) (next : A → Step C) (f h : Tables) where
  pub ask_then : (k : Result B SizeErr) (x : B) (r : Result D SizeErr) → k ≡ Ok x → Answers R a k → ((y : A) → R x y → Steps Q (next y) f h r) → Steps Q (and_then (ask a) next) f h r
  ask_then k x r is first rest = record {
    steps = λ s stands.
        let d = answered R a k first x is in
        subst (λ z. Runs Q (and_then (ask z) next s) h r) (sym d.is) ((rest d.result d.related).steps s stands);
  }

  pub ask_stop : (k : Result B SizeErr) (x : SizeErr) → k ≡ Err x → Answers R a k → Steps Q (and_then (ask a) next) f h (Err x)
  ask_stop k x is first = by_first first is
    where
      never : (y : B) → ok_in _ SizeErr y ≡ Err x → ⊥
      never y e = cc

      other : (y : SizeErr) → err_in B SizeErr y ≡ Err x → err_in D SizeErr y ≡ Err x
      other y e = cc

      by_first : {k : Result B SizeErr} → Answers R a k → k ≡ Err x → Steps Q (and_then (ask a) next) f h (Err x)
      by_first (answers {x = y} p h) is = elim (never y is) [ ]
      by_first (refuses {e = y} p) is = subst (λ z. Steps Q (and_then (ask a) next) f h z) (other (size_err.Refused y) is) (record { steps = λ s stands. refused (ap (λ z. and_then (ask z) next s) p) })
      by_first no_memory is = subst (λ z. Steps Q (and_then (ask a) next) f h z) (other size_err.Memory is) (record { steps = λ s stands. no_memory_left })

-- what is asked for last
module _ {A B : Type 0} (R : B → A → Type 0) (a : Answer A) (f : Tables) where
  pub asked : (r : Result B SizeErr) → Answers R a r → Steps R (ask a) f f r
  asked r (answers p h) = record { steps = λ s stands. runs s (ap (λ z. ask z s) p) h stands }
  asked r (refuses p) = record { steps = λ s stands. refused (ap (λ z. ask z s) p) }
  asked r no_memory = record { steps = λ s stands. no_memory_left }

module _ {A B : Type 0} (R : B → A → Type 0) where
  -- a result is given
  pub given : (x : B) (y : A) (f : Tables) → R x y → Steps R (give y) f f (Ok x)
  given x y f h = record { steps = λ s stands. runs s refl h stands }

  pub out_of_memory : (step : Step A) (f g : Tables) → Steps R step f g (Err size_err.Memory)
  out_of_memory step f g = record { steps = λ s stands. no_memory_left }

  -- another relation, and another step that does the same
  pub weaker : {D : Type 0} (Q : D → A → Type 0) (step : Step A) (f g : Tables) (k : Result B SizeErr) (x : B) (y : D) → k ≡ Ok x → ((a : A) → R x a → Q y a) → Steps R step f g k → Steps Q step f g (Ok y)
  weaker Q step f g k x y is h first = record { steps = λ s stands. let d = ran R (step s) g k (first.steps s stands) x is in runs d.state d.is (h d.result d.related) d.stands }

  pub same_step : (m n : Step A) (f g : Tables) (r : Result B SizeErr) → ((s : State) → m s ≡ n s) → Steps R m f g r → Steps R n f g r
  same_step m n f g r h first = record { steps = λ s stands. subst (λ z. Runs R z g r) (h s) (first.steps s stands) }

-- the last step's refusal is that of both
module _ {A B D : Type 0} (R : B → A → Type 0) (Q : D → A → Type 0) (step : Step A) (f g : Tables) where
  pub stopped : (k : Result B SizeErr) (x : SizeErr) → k ≡ Err x → Steps R step f g k → Steps Q step f g (Err x)
  stopped k x is first = record { steps = λ s stands. by_first (step s) (first.steps s stands) is }
    where
      never : (y : B) → ok_in _ SizeErr y ≡ Err x → ⊥
      never y e = cc

      other : (y : SizeErr) → err_in B SizeErr y ≡ Err x → err_in D SizeErr y ≡ Err x
      other y e = cc

      by_first : (a : Answer (Done A)) {k : Result B SizeErr} → Runs R a g k → k ≡ Err x → Runs Q a g (Err x)
      by_first a (runs {x = y} s p r there) is = elim (never y is) [ ]
      by_first a (refused {e = y} p) is = subst (λ z. Runs Q a g z) (other (size_err.Refused y) is) (refused p)
      by_first a no_memory_left is = subst (λ z. Runs Q a g z) (other size_err.Memory is) no_memory_left

-- ---- in a scope

module _ {A B : Type 0} (R : Names → B → A → Type 0) (p : Program) (names : NumberMap) (go : Going A) (f g : Tables) where
  pub taken_out_of_memory : Takes R p names go f g (Err size_err.Memory)
  taken_out_of_memory = record { takes = λ N scope knows in_scope. out_of_memory (R N) (go N scope) f g }
