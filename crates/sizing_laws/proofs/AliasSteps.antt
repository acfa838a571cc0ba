-- Steps of the rules on aliases by two numberings: both refuse the same, or consume the same and give results that are alike.
use Rattle.std.proofs.Common.{◌≡◌, Ok, Err, refl, sym, subst}
use Rattle.fut_aliases.specs.declared.refusals.Broken.{Broken}
use Rattle.fut_aliases.specs.Steps.{Answer, then_do, Losses, Done, Step, either_of}

pub data AnswerR {A B : Type 0} (R : A → B → Type 0) : Answer (Done A) → Answer (Done B) → Type 0 where
  gives : {a : A} {b : B} {ls : Losses} → R a b → AnswerR R (Ok (record { result = a; losses = ls })) (Ok (record { result = b; losses = ls }))
  refuses : {e : Broken} → AnswerR R (Err e) (Err e)

-- the results of one are what f makes of those of the other
abbrev pub StepTo : {A B : Type 0} → (A → B) → Step A → Step B → Type 0
StepTo {A} {B} f m n = (ls : Losses) → AnswerR (λ (a : A) (b : B). b ≡ f a) (m ls) (n ls)

abbrev pub same : {A : Type 0} → A → A
same a = a

pub then_are : {A B C D : Type 0} {R : A → B → Type 0} {S : C → D → Type 0} {x : Answer (Done A)} {y : Answer (Done B)} (k : Done A → Answer (Done C)) (l : Done B → Answer (Done D))
    → AnswerR R x y → ((a : A) (b : B) (ls : Losses) → R a b → AnswerR S (k (record { result = a; losses = ls })) (l (record { result = b; losses = ls }))) → AnswerR S (then_do x k) (then_do y l)
then_are k l (gives h) f = f _ _ _ h
then_are k l refuses f = refuses

pub then_to : {A B C D : Type 0} {S : C → D → Type 0} {x : Answer (Done A)} {y : Answer (Done B)} (f : A → B) (k : Done A → Answer (Done C)) (l : Done B → Answer (Done D))
    → AnswerR (λ (a : A) (b : B). b ≡ f a) x y → ((a : A) (ls : Losses) → AnswerR S (k (record { result = a; losses = ls })) (l (record { result = f a; losses = ls }))) → AnswerR S (then_do x k) (then_do y l)
then_to {S = S} f k l h go = then_are k l h (λ a b ls e. subst (λ b. AnswerR S (k (record { result = a; losses = ls })) (l (record { result = b; losses = ls }))) (sym e) (go a ls))

-- the same step comes first
pub then_same : {A C D : Type 0} {S : C → D → Type 0} {m n : Step A} (e : n ≡ m) (ls : Losses) (k : Done A → Answer (Done C)) (l : Done A → Answer (Done D))
    → ((a : A) (ls : Losses) → AnswerR S (k (record { result = a; losses = ls })) (l (record { result = a; losses = ls }))) → AnswerR S (then_do (m ls) k) (then_do (n ls) l)
then_same {A = A} {S = S} {m = m} {n = n} e ls k l go = subst (λ o. AnswerR S (then_do (m ls) k) (then_do (o ls) l)) (sym e) (at_answer (m ls))
  where
    at_answer : (x : Answer (Done A)) → AnswerR S (then_do x k) (then_do x l)
    at_answer (Ok d) = go d.result d.losses
    at_answer (Err e) = refuses

pub same_step : {A : Type 0} {m n : Step A} → n ≡ m → StepTo same m n
same_step {A} {m} {n} e ls = subst (λ o. AnswerR (λ (a : A) (b : A). b ≡ a) (m ls) (o ls)) (sym e) (at_answer (m ls))
  where
    at_answer : (x : Answer (Done A)) → AnswerR (λ (a : A) (b : A). b ≡ a) x x
    at_answer (Ok d) = gives refl
    at_answer (Err e) = refuses

-- of `apart`
pub apart_are : {A B : Type 0} {R : A → B → Type 0} {x : Answer (Done A)} {y : Answer (Done B)} (ls : Losses) → AnswerR R x y
    → AnswerR R (then_do x (λ d. Ok (record { result = d.result; losses = ls }))) (then_do y (λ d. Ok (record { result = d.result; losses = ls })))
apart_are ls h = then_are _ _ h (λ a b ms r. gives r)

pub either_are : {A B : Type 0} (f : A → B) {C D : Type 0} (g : C → D) (join : A → A → C) (other : B → B → D) → ((a b : A) → other (f a) (f b) ≡ g (join a b)) → {m n : Step A} {o p : Step B} → StepTo f m o → StepTo f n p
    → StepTo g (either_of join m n) (either_of other o p)
either_are f g join other e h k ls = then_to f _ _ (h ls) (λ a ms. then_to f _ _ (k ls) (λ b ns. gives (e a b)))
