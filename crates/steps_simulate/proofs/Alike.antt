-- Relations that allow the same, and what simulates one of them.
use Rattle.std.proofs.Common.{sym, subst, arith, add_assoc, zero-add}
use Rattle.fut_meaning.specs.Outcomes.{Out, Val, Fail, Wrong, and_then, Rel, exact, gives, the, Then, goes_on, stops, sticks}
use Rattle.fut_meaning.proofs.Within.{Within, within_same, within_then}

pub record Alike {A : Type 0} (m m' : Rel A) : Type 0 where
  pub to : Within m m'
  pub from : Within m' m

pub alike_same : {A : Type 0} (m : Rel A) → Alike m m
alike_same m = record { to = within_same m; from = within_same m }

pub alike_on : {A : Type 0} {m m' m'' : Rel A} → Alike m m' → Alike m' m'' → Alike m m''
alike_on a b = record { to = λ o f x. b.to o f (a.to o f x); from = λ o f x. a.from o f (b.from o f x) }

pub alike_then : {A B : Type 0} {m m' : Rel A} {k k' : A → Rel B} → Alike m m' → ((a : A) → Alike (k a) (k' a)) → Alike (Then m k) (Then m' k')
alike_then a b = record { to = within_then _ _ _ _ a.to (λ x. (b x).to); from = within_then _ _ _ _ a.from (λ x. (b x).from) }

grouped : {A B C : Type 0} (m : Rel A) (k : A → Rel B) (l : B → Rel C) → Within (Then m (λ a. Then (k a) l)) (Then (Then m k) l)
grouped m k l _ _ (goes_on {f = f} x (goes_on {o = o} {f = g} {g = h} y z)) = subst (λ n. Then (Then m k) l o n) (add_assoc f g h) (goes_on (goes_on x y) z)
grouped m k l _ _ (goes_on x (stops y)) = stops (goes_on x y)
grouped m k l _ _ (goes_on x (sticks y)) = sticks (goes_on x y)
grouped m k l _ _ (stops x) = stops (stops x)
grouped m k l _ _ (sticks x) = sticks (sticks x)

ungrouped : {A B C : Type 0} (m : Rel A) (k : A → Rel B) (l : B → Rel C) → Within (Then (Then m k) l) (Then m (λ a. Then (k a) l))
ungrouped m k l _ _ (goes_on {o = o} {g = h} (goes_on {f = f} {g} x y) z) = subst (λ n. Then m (λ a. Then (k a) l) o n) (sym (add_assoc f g h)) (goes_on x (goes_on y z))
ungrouped m k l _ _ (stops (goes_on x y)) = goes_on x (stops y)
ungrouped m k l _ _ (stops (stops x)) = stops x
ungrouped m k l _ _ (sticks (goes_on x y)) = goes_on x (sticks y)
ungrouped m k l _ _ (sticks (sticks x)) = sticks x

pub alike_grouped : {A B C : Type 0} (m : Rel A) (k : A → Rel B) (l : B → Rel C) → Alike (Then m (λ a. Then (k a) l)) (Then (Then m k) l)
alike_grouped m k l = record { to = grouped m k l; from = ungrouped m k l }

then_value : {A B : Type 0} (a : A) (k : A → Rel B) → Within (Then (gives 0 a) k) (k a)
then_value a k _ _ (goes_on {o} {g} exact y) = subst (λ n. k a o n) (sym (zero-add g)) y
then_value a k _ _ (stops z) = elim z [ ]
then_value a k _ _ (sticks z) = elim z [ ]

-- a value that is there at once
pub alike_value : {A B : Type 0} (a : A) (k : A → Rel B) → Alike (Then (gives 0 a) k) (k a)
alike_value a k = record { to = then_value a k; from = λ o f x. subst (λ n. Then (gives 0 a) k o n) (zero-add f) (goes_on exact x) }

then_given : {A : Type 0} (m : Rel A) → Within (Then m (λ a. gives 0 a)) m
then_given m _ _ (goes_on {a} {f} x exact) = subst (λ n. m (Val a) n) (omega arith) x
then_given m _ _ (stops x) = x
then_given m _ _ (sticks x) = x

given_then : {A : Type 0} (m : Rel A) → Within m (Then m (λ a. gives 0 a))
given_then m (Val a) f x = subst (λ n. Then m (λ a. gives 0 a) (Val a) n) (omega arith) (goes_on x exact)
given_then m (Fail r) f x = stops x
given_then m Wrong f x = sticks x

-- a value that is given on as it is
pub alike_given : {A : Type 0} (m : Rel A) → Alike (Then m (λ a. gives 0 a)) m
alike_given m = record { to = then_given m; from = given_then m }

joined : {A B : Type 0} (o : Out A) (k : A → Out B) → Within (Then (the o) (λ a. the (k a))) (the (and_then o k))
joined (Val a) k o f x = then_value a (λ a. the (k a)) o f x
joined (Fail r) k _ _ (goes_on x y) = elim x [ ]
joined (Fail r) k _ _ (stops exact) = exact
joined (Fail r) k _ _ (sticks x) = elim x [ ]
joined Wrong k _ _ (goes_on x y) = elim x [ ]
joined Wrong k _ _ (stops x) = elim x [ ]
joined Wrong k _ _ (sticks exact) = exact

parted : {A B : Type 0} (o : Out A) (k : A → Out B) → Within (the (and_then o k)) (Then (the o) (λ a. the (k a)))
parted (Val a) k o f x = subst (λ n. Then (gives 0 a) (λ a. the (k a)) o n) (zero-add f) (goes_on exact x)
parted (Fail r) k _ _ exact = stops exact
parted Wrong k _ _ exact = sticks exact

pub alike_joined : {A B : Type 0} (o : Out A) (k : A → Out B) → Alike (Then (the o) (λ a. the (k a))) (the (and_then o k))
alike_joined o k = record { to = joined o k; from = parted o k }

pub alike_back : {A : Type 0} {m m' : Rel A} → Alike m m' → Alike m' m
alike_back a = record { to = a.from; from = a.to }
