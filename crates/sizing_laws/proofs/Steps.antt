-- Answers and steps by two numberings: both refuse the same, or give results that are alike.
use Rattle.std.proofs.Common.{◌≡◌, ℕ, Bool, true, false, cond, nat_eq, List, ◌++◌, Ok, Err, refl, sym, ap, subst}
use Rattle.sized_types.specs.Sizes.{Size}
use Rattle.fut_sizes.specs.Agreeing.{Refusal, Answer, then_do}
use Rattle.fut_sizes.specs.Steps.{State, Done, Step, give, ask, at_node, note}
use Rattle.sizing_laws.specs.Renumbering.{renumbered}

-- ---- answers

pub data AnswerR {A B : Type 0} (R : A → B → Type 0) : Answer A → Answer B → Type 0 where
  gives : {a : A} {b : B} → R a b → AnswerR R (Ok a) (Ok b)
  refuses : {e : Refusal} → AnswerR R (Err e) (Err e)

-- they are the same
abbrev pub One : {A : Type 0} → A → A → Type 0
One a b = b ≡ a

pub then_are : {A B C D : Type 0} {R : A → B → Type 0} {S : C → D → Type 0} {x : Answer A} {y : Answer B} (k : A → Answer C) (l : B → Answer D)
    → AnswerR R x y → ((a : A) (b : B) → R a b → AnswerR S (k a) (l b)) → AnswerR S (then_do x k) (then_do y l)
then_are k l (gives h) f = f _ _ h
then_are k l refuses f = refuses

-- where both are the same first
pub then_same : {A C D : Type 0} {S : C → D → Type 0} {x y : Answer A} (k : A → Answer C) (l : A → Answer D) → y ≡ x → ((a : A) → AnswerR S (k a) (l a)) → AnswerR S (then_do x k) (then_do y l)
then_same {A} {C} {D} {S} {x} {y} k l e f = subst (λ z. AnswerR S (then_do x k) (then_do z l)) (sym e) (same x)
  where
    same : (x : Answer A) → AnswerR S (then_do x k) (then_do x l)
    same (Ok a) = f a
    same (Err g) = refuses

pub same_are : {A : Type 0} {x y : Answer A} → y ≡ x → AnswerR One x y
same_are {A} {x} {y} e = subst (λ z. AnswerR One x z) (sym e) (same x)
  where
    same : (x : Answer A) → AnswerR One x x
    same (Ok a) = gives refl
    same (Err g) = refuses

pub are_same : {A : Type 0} {x y : Answer A} → AnswerR One x y → y ≡ x
are_same (gives h) = ap Ok h
are_same refuses = refl

-- one of two by a test
pub cond_are : {A B : Type 0} (R : A → B → Type 0) (b c : Bool) {x y : A} {x' y' : B} → c ≡ b → R x x' → R y y' → R (cond b x y) (cond c x' y')
cond_are {A} {B} R b c {x} {y} {x'} {y'} e p q = subst (λ d. R (cond b x y) (cond d x' y')) (sym e) (by_test b)
  where
    by_test : (b : Bool) → R (cond b x y) (cond b x' y')
    by_test true = p
    by_test false = q

-- ---- steps

module _ (number : ℕ → ℕ) where
  -- a size and the renumbered one
  abbrev pub SizeR : Size → Size → Type 0
  SizeR t u = u ≡ renumbered number t

  pub record StateR (s t : State) : Type 0 where
    pub nodes : (n : ℕ) → SizeR (s.nodes n) (t.nodes n)
    pub dropped : t.dropped ≡ s.dropped

  pub data DoneR {A B : Type 0} (R : A → B → Type 0) : Done A → Done B → Type 0 where
    done : {a : A} {b : B} {s t : State} → R a b → StateR s t → DoneR R (record { result = a; state = s }) (record { result = b; state = t })

  abbrev pub StepR : {A B : Type 0} → (A → B → Type 0) → Step A → Step B → Type 0
  StepR R m n = (s t : State) → StateR s t → AnswerR (DoneR R) (m s) (n t)

pub then_step : {A B C D : Type 0} {number : ℕ → ℕ} {R : A → B → Type 0} {S : C → D → Type 0} {x : Answer (Done A)} {y : Answer (Done B)} (k : Done A → Answer (Done C)) (l : Done B → Answer (Done D))
    → AnswerR (DoneR number R) x y → ((a : A) (b : B) (s t : State) → R a b → StateR number s t → AnswerR (DoneR number S) (k (record { result = a; state = s })) (l (record { result = b; state = t })))
    → AnswerR (DoneR number S) (then_do x k) (then_do y l)
then_step k l (gives (done h z)) f = f _ _ _ _ h z
then_step k l refuses f = refuses

module _ (number : ℕ → ℕ) where
  pub give_step : {A B : Type 0} {R : A → B → Type 0} {a : A} {b : B} → R a b → StepR number R (give a) (give b)
  give_step h s t z = gives (done h z)

  pub ask_step : {A B : Type 0} {R : A → B → Type 0} {x : Answer A} {y : Answer B} → AnswerR R x y → StepR number R (ask x) (ask y)
  ask_step h s t z = then_are _ _ h (λ a b p. gives (done p z))

  pub note_state : (n : ℕ) (x y : Size) → SizeR number x y → {s t : State} → StateR number s t → StateR number (record { nodes = at_node n x s.nodes; dropped = s.dropped }) (record { nodes = at_node n y t.nodes; dropped = t.dropped })
  note_state n x y e {s} {t} z = record { nodes = λ k. cond_are (SizeR number) (nat_eq n k) (nat_eq n k) refl e (z.nodes k); dropped = z.dropped }

  pub drop_state : (n : ℕ) (levels : List ℕ) {s t : State} → StateR number s t → StateR number (record { nodes = s.nodes; dropped = at_node n (s.dropped n ++ levels) s.dropped }) (record { nodes = t.nodes; dropped = at_node n (t.dropped n ++ levels) t.dropped })
  drop_state n levels z = record { nodes = z.nodes; dropped = λ i. at_node n (z.dropped i n ++ levels) (z.dropped i) }

  pub note_step : (n : ℕ) (x y : Size) → SizeR number x y → StepR number (SizeR number) (note n x) (note n y)
  note_step n x y e s t z = gives (done e (note_state n x y e z))
