-- Operations on what is read.
use Rattle.std.proofs.Common.{◌≡◌, ℕ, List, [], ◌∷◌, ◌++◌, Result, Ok, Err, Bool, true, false, cond, not, Some, None, refl, sym, ap, ◌∙◌, subst}
use Rattle.std.specs.Bool.{beq}
use Rattle.std.specs.Ordering.{int_eq}
use Rattle.fut_scalar.specs.Integers.{integer_of}
use Rattle.fut_scalar.specs.declared.operator.BinOp.TheVariants as binary
use Rattle.fut_scalar.specs.declared.scalar.Scalar.TheVariants as scalar
use Rattle.fut_arithmetic.specs.Operations.{result_of}
use Rattle.fut_meaning.specs.Arrays.{scalar_of_datum, truth_of_datum}
use Rattle.fut_value.specs.Data.{Scalar_datum}
use Rattle.array_data.specs.declared.data.Data.TheVariants as hold
use Rattle.array_data.specs.Held.{held}
use Rattle.array_data.proofs.Holding.{held_scalar}
use Rattle.array_data.specs.Answers.{Parted, parted, not_parted}
use Rattle.array_data.proofs.Forms.{listed_datums}
use Rattle.fut_eval.specs.Answers.{as_scalar}
use Rattle.fut_eval.proofs.Reading.{fitted_same}
use Rattle.std.proofs.lemmas.List.{append-nil}
use Rattle.fut_scalar.specs.Integers.{FitsType}
use Rattle.fut_scalar.specs.declared.operator.BinOp.{BinOp}
use Rattle.fut_scalar.specs.declared.operator.UnOp.{UnOp}
use Rattle.fut_scalar.specs.declared.place.Place.{Place}
use Rattle.fut_scalar.specs.declared.report.FailKind.TheVariants as kind
use Rattle.fut_scalar.specs.declared.scalar.IntType.{IntType}
use Rattle.fut_scalar.specs.declared.scalar.Scalar.{Scalar}
use Rattle.fut_scalar.specs.declared.scalar.ScalarType.{ScalarType}
use Rattle.fut_arithmetic.specs.Conversions.{converted}
use Rattle.fut_meaning.specs.Accessors.{or_wrong, truth_of_scalar, turns_of_scalar}
use Rattle.fut_meaning.specs.Operations.{report, reported, truth_result, equal}
use Rattle.fut_meaning.specs.Operators.{by_kind, is_same_type, binary_result, unary_result}
use Rattle.fut_meaning.specs.Outcomes.{Out, Val, Fail, Wrong, and_then, the}
use Rattle.fut_blocks.specs.declared.block.Atom.{Atom}
use Rattle.fut_blocks.specs.declared.block.Operation.{Operation}
use Rattle.fut_blocks.specs.declared.block.Operation.TheVariants as operation
use Rattle.fut_blocks.specs.Meaning.{Component, Names, fitted, value_of, parts_of, one, asserted, binary_scalar, operated, truth_of_atom, turns_of_datum}
use Rattle.array_data.specs.declared.stop.Stop.{Stop}
use Rattle.array_data.specs.declared.stop.Stop.TheVariants.{Failed, Memory}
use Rattle.fut_eval.specs.Answers.{Answer, Tells, Runs, ran, failed, no_memory, Reads, Truth_at, Turns_at, Gives, Operates, Pushed, pushed, not_pushed}
use Rattle.fut_eval.proofs.Tells.{the_is, tells_then, tells_stop, runs_next, runs_stop, kept_same, fit_any}

module _ (table : List Component) (u : Atom) where
  pub truth_read_stop : (e : Stop) → Reads table u (as_scalar (Err e)) → Truth_at table u (Err e)
  unfolding Reads Truth_at
  truth_read_stop e h env n st = tells_stop (value_of env u) truth_of_datum e (h env n st)

  truth_same : (v : Scalar) → truth_of_datum (Scalar_datum v) ≡ truth_of_scalar v
  truth_same (scalar.Int t n) = refl
  truth_same (scalar.Bool b) = refl

  pub truth_read : (v : Scalar) (r : Result Bool Stop) → Reads table u (as_scalar (Ok v)) → Tells (truth_of_scalar v) r → Truth_at table u r
  unfolding Reads Truth_at
  truth_read v r h k env n st = tells_then (value_of env u) truth_of_datum (Scalar_datum v) r (h env n st) (subst (λ z. Tells z r) (sym (truth_same v)) k)

  pub turns_read_stop : (e : Stop) → Reads table u (as_scalar (Err e)) → Turns_at table u (Err e)
  unfolding Reads Turns_at
  turns_read_stop e h env n st = tells_stop (value_of env u) turns_of_datum e (h env n st)

  pub turns_read : (v : Scalar) (r : Result (IntType × ℕ) Stop) → Reads table u (as_scalar (Ok v)) → Tells (turns_of_scalar v) r → Turns_at table u r
  unfolding Reads Turns_at
  turns_read v r h k env n st = tells_then (value_of env u) turns_of_datum (Scalar_datum v) r (h env n st) k

pub ruleset atoms_told = (truth_read_stop, truth_read, turns_read_stop, turns_read)

by_push : (n : ℕ) (t s s' : List Component) (v w : Scalar) (r : Answer) → w ≡ v → Pushed (Scalar_datum w) s s' r → Runs (the (Val (Scalar_datum v ∷ []))) n t t s s' r
by_push n t s s' v w _ e (pushed p) = subst (λ z. Runs (the (Val (Scalar_datum z ∷ []))) n t t s s' (Ok tt)) e (ran (Scalar_datum w ∷ []) 0 p (tt, tt) (kept_same n t) (the_is (Val (Scalar_datum w ∷ [])) (Val (Scalar_datum w ∷ [])) refl))
by_push n t s s' v w _ e not_pushed = no_memory

-- one value of an outcome, on the stack
value_pushed : (n : ℕ) (t s s' : List Component) (v : Scalar) (r : Answer) → FitsType v → Pushed (held (hold.Scalar v)) s s' r → Runs (the (Val (Scalar_datum v ∷ []))) n t t s s' r
value_pushed n t s s' v r f h = by_push n t s s' v (fitted v) r (fitted_same v f) (subst (λ z. Pushed z s s' r) (held_scalar v) h)

-- what an operation gives on scalars
data Compared (a b : Scalar) : Type 0 where
  compared : (t : Bool) → binary_result binary.Eq a b ≡ Some (Ok (scalar.Bool t)) → binary_result binary.Ne a b ≡ Some (Ok (scalar.Bool (not t))) → Compared a b
  apart : binary_result binary.Eq a b ≡ None → binary_result binary.Ne a b ≡ None → Compared a b

integers_compared : (t u : IntType) (m n : ℕ) (z : Bool) → is_same_type t u ≡ z → Compared (scalar.Int t m) (scalar.Int u n)
unfolding binary_result result_of
integers_compared t u m n true e =
    compared (int_eq (integer_of t m) (integer_of t n))
    (ap (λ z. cond z (Some (by_kind (result_of binary.Eq (scalar.Int t m) (scalar.Int u n)))) None) e)
    (ap (λ z. cond z (Some (by_kind (result_of binary.Ne (scalar.Int t m) (scalar.Int u n)))) None) e)
integers_compared t u m n false e =
    apart
    (ap (λ z. cond z (Some (by_kind (result_of binary.Eq (scalar.Int t m) (scalar.Int u n)))) None) e)
    (ap (λ z. cond z (Some (by_kind (result_of binary.Ne (scalar.Int t m) (scalar.Int u n)))) None) e)

compare : (a b : Scalar) → Compared a b
unfolding binary_result result_of
compare (scalar.Int t m) (scalar.Int u n) = integers_compared t u m n (is_same_type t u) refl
compare (scalar.Bool a) (scalar.Bool b) = compared (beq a b) refl refl
compare (scalar.Int t m) (scalar.Bool b) = apart refl refl
compare (scalar.Bool a) (scalar.Int u n) = apart refl refl

equal_given : (at : Place) (a b : Scalar) → Compared a b → binary_scalar binary.Eq at (Scalar_datum a) (Scalar_datum b) ≡ reported at (binary_result binary.Eq a b)
unfolding equal
equal_given at a b (compared t e f) = ap (λ z. and_then (and_then (or_wrong z) truth_result) (λ b. Val (scalar.Bool b))) e ∙ sym (ap (reported at) e)
equal_given at a b (apart e f) = ap (λ z. and_then (and_then (or_wrong z) truth_result) (λ b. Val (scalar.Bool b))) e ∙ sym (ap (reported at) e)

unequal_given : (at : Place) (a b : Scalar) → Compared a b → binary_scalar binary.Ne at (Scalar_datum a) (Scalar_datum b) ≡ reported at (binary_result binary.Ne a b)
unfolding equal
unequal_given at a b (compared t e f) = ap (λ z. and_then (and_then (or_wrong z) truth_result) (λ b. Val (scalar.Bool (not b)))) e ∙ sym (ap (reported at) f)
unequal_given at a b (apart e f) = ap (λ z. and_then (and_then (or_wrong z) truth_result) (λ b. Val (scalar.Bool (not b)))) e ∙ sym (ap (reported at) f)

given_scalar : (op : BinOp) (at : Place) (a b : Scalar) → binary_scalar op at (Scalar_datum a) (Scalar_datum b) ≡ reported at (binary_result op a b)
given_scalar binary.Eq at a b = equal_given at a b (compare a b)
given_scalar binary.Ne at a b = unequal_given at a b (compare a b)
given_scalar op at a b = refl

module _ (t s s' : List Component) where
  module _ (op : BinOp) (at : Place) (a b : Atom) where
    pub left_stop : (e : Stop) → Reads t a (as_scalar (Err e)) → Operates t (operation.Binary op at a b) s s (Err e)
    unfolding Reads Operates operated
    left_stop e h env n st = runs_stop n t t s s (value_of env a) _ e (h env n st)

    pub right_stop : (v : Scalar) (e : Stop) → Reads t a (as_scalar (Ok v)) → Reads t b (as_scalar (Err e)) → Operates t (operation.Binary op at a b) s s (Err e)
    unfolding Reads Operates operated
    right_stop v e h k env n st =
        runs_next n t t s s (value_of env a) (λ v. and_then (value_of env b) (λ w. one (binary_scalar op at v w))) (Scalar_datum v) (Err e) (h env n st)
        (runs_stop n t t s s (value_of env b) _ e (k env n st))

    pub binary_stop : (v w : Scalar) (e : Stop) → Reads t a (as_scalar (Ok v)) → Reads t b (as_scalar (Ok w)) → Tells (reported at (binary_result op v w)) (Err e) → Operates t (operation.Binary op at a b) s s (Err e)
    unfolding Reads Operates operated
    binary_stop v w e h k l env n st =
        runs_next n t t s s (value_of env a) (λ v. and_then (value_of env b) (λ w. one (binary_scalar op at v w))) (Scalar_datum v) (Err e) (h env n st)
        (runs_next n t t s s (value_of env b) (λ w. one (binary_scalar op at (Scalar_datum v) w)) (Scalar_datum w) (Err e) (k env n st)
        (runs_stop n t t s s (binary_scalar op at (Scalar_datum v) (Scalar_datum w)) _ e (subst (λ z. Tells z (Err e)) (sym (given_scalar op at v w)) l)))

    pub binary_done : (v w x : Scalar) (r : Answer) → Reads t a (as_scalar (Ok v)) → Reads t b (as_scalar (Ok w)) → Tells (reported at (binary_result op v w)) (Ok x) → FitsType x → Pushed (held (hold.Scalar x)) s s' r → Operates t (operation.Binary op at a b) s s' r
    unfolding Reads Operates operated
    binary_done v w x r h k l f p env n st =
        runs_next n t t s s' (value_of env a) (λ v. and_then (value_of env b) (λ w. one (binary_scalar op at v w))) (Scalar_datum v) r (h env n st)
        (runs_next n t t s s' (value_of env b) (λ w. one (binary_scalar op at (Scalar_datum v) w)) (Scalar_datum w) r (k env n st)
        (runs_next n t t s s' (binary_scalar op at (Scalar_datum v) (Scalar_datum w)) (λ z. Val (Scalar_datum z ∷ [])) x r (subst (λ z. Tells z (Ok x)) (sym (given_scalar op at v w)) l) (value_pushed n t s s' x r f p)))

  module _ (op : UnOp) (a : Atom) where
    pub operand_stop : (e : Stop) → Reads t a (as_scalar (Err e)) → Operates t (operation.Unary op a) s s (Err e)
    unfolding Reads Operates operated
    operand_stop e h env n st = runs_stop n t t s s (value_of env a) _ e (h env n st)

    pub unary_stop : (v : Scalar) (e : Stop) → Reads t a (as_scalar (Ok v)) → Tells (or_wrong (unary_result op v)) (Err e) → Operates t (operation.Unary op a) s s (Err e)
    unfolding Reads Operates operated
    unary_stop v e h l env n st =
        runs_next n t t s s (value_of env a) (λ v. one (and_then (scalar_of_datum v) (λ s. or_wrong (unary_result op s)))) (Scalar_datum v) (Err e) (h env n st) (runs_stop n t t s s (or_wrong (unary_result op v)) _ e l)

    pub unary_done : (v x : Scalar) (r : Answer) → Reads t a (as_scalar (Ok v)) → Tells (or_wrong (unary_result op v)) (Ok x) → FitsType x → Pushed (held (hold.Scalar x)) s s' r → Operates t (operation.Unary op a) s s' r
    unfolding Reads Operates operated
    unary_done v x r h l f p env n st =
        runs_next n t t s s' (value_of env a) (λ v. one (and_then (scalar_of_datum v) (λ s. or_wrong (unary_result op s)))) (Scalar_datum v) r (h env n st)
        (runs_next n t t s s' (or_wrong (unary_result op v)) (λ z. Val (Scalar_datum z ∷ [])) x r l (value_pushed n t s s' x r f p))

  module _ (to : ScalarType) (a : Atom) where
    pub convert_stop : (e : Stop) → Reads t a (as_scalar (Err e)) → Operates t (operation.Convert to a) s s (Err e)
    unfolding Reads Operates operated
    convert_stop e h env n st = runs_stop n t t s s (value_of env a) _ e (h env n st)

    pub convert_done : (v x : Scalar) (r : Answer) → Reads t a (as_scalar (Ok v)) → x ≡ converted to v → FitsType x → Pushed (held (hold.Scalar x)) s s' r → Operates t (operation.Convert to a) s s' r
    unfolding Reads Operates operated
    convert_done v x r h q f p env n st =
        runs_next n t t s s' (value_of env a) (λ v. one (and_then (scalar_of_datum v) (λ s. Val (converted to s)))) (Scalar_datum v) r (h env n st)
        (subst (λ z. Runs (the (Val (Scalar_datum z ∷ []))) n t t s s' r) q (value_pushed n t s s' x r f p))

  module _ (at : Place) (a : Atom) where
    same_order : (o : Out Component) → and_then (and_then o truth_of_datum) (asserted at) ≡ and_then o (λ v. and_then (truth_of_datum v) (asserted at))
    same_order (Val v) = refl
    same_order (Fail r) = refl
    same_order Wrong = refl

    regroup : (env : Names Component) (n : ℕ) (r : Answer) → Runs (the (and_then (truth_of_atom env a) (asserted at))) n t t s s r → Runs (the (operated env (operation.Assert at a))) n t t s s r
    unfolding operated
    regroup env n r h = subst (λ z. Runs (the z) n t t s s r) (same_order (value_of env a)) h

    pub assert_stop : (e : Stop) → Truth_at t a (Err e) → Operates t (operation.Assert at a) s s (Err e)
    unfolding Truth_at Operates
    assert_stop e h env n st = regroup env n (Err e) (runs_stop n t t s s (truth_of_atom env a) (asserted at) e (h env n st))

    pub assert_holds : Truth_at t a (Ok true) → Operates t (operation.Assert at a) s s (Ok tt)
    unfolding Truth_at Operates
    assert_holds h env n st =
        regroup env n (Ok tt) (runs_next n t t s s (truth_of_atom env a) (asserted at) true (Ok tt) (h env n st)
        (ran [] 0 (sym (append-nil s)) tt (kept_same n t) (the_is (asserted at true) (Val []) refl)))

    pub assert_fails : Truth_at t a (Ok false) → Operates t (operation.Assert at a) s s (Err (Failed (report kind.Assert at)))
    unfolding Truth_at Operates
    assert_fails h env n st =
        regroup env n (Err (Failed (report kind.Assert at))) (runs_next n t t s s (truth_of_atom env a) (asserted at) false (Err (Failed (report kind.Assert at))) (h env n st)
        (failed 0 (the_is (asserted at false) (Fail (report kind.Assert at)) refl)))

module _ (t s : List Component) (a : Atom) where
  pub parts_unread : (e : Stop) → Reads t a (Err e) → Operates t (operation.Parts a) s s (Err e)
  unfolding Reads Operates operated
  parts_unread e h env n st = runs_stop n t t s s (value_of env a) parts_of e (h env n st)

  pub parts_done : (d : Component) (s' : List Component) (r : Answer) → Reads t a (Ok d) → Parted d s s' r → Operates t (operation.Parts a) s s' r
  unfolding Reads Operates operated
  parts_done d s' _ h not_parted env n st = no_memory
  parts_done d s' _ h (parted es e q) env n st =
      runs_next n t t s s' (value_of env a) parts_of d (Ok tt) (h env n st)
      (ran es 0 q (fit_any es) (kept_same n t) (the_is (parts_of d) (Val es) (ap parts_of e ∙ ap Val (listed_datums es))))

-- ---- the one scalar that an operation gives

module _ (t : List Component) where
  module _ (op : BinOp) (at : Place) (a b : Atom) where
    pub gives_right_stop : (v : Scalar) (e : Stop) → Reads t a (as_scalar (Ok v)) → Reads t b (as_scalar (Err e)) → Gives t (operation.Binary op at a b) (Err e)
    unfolding Gives
    gives_right_stop v e h k s = right_stop t s s op at a b v e h k

    pub gives_binary_stop : (v w : Scalar) (e : Stop) → Reads t a (as_scalar (Ok v)) → Reads t b (as_scalar (Ok w)) → Tells (reported at (binary_result op v w)) (Err e) → Gives t (operation.Binary op at a b) (Err e)
    unfolding Gives
    gives_binary_stop v w e h k l s = binary_stop t s s op at a b v w e h k l

    pub gives_binary : (v w x : Scalar) → Reads t a (as_scalar (Ok v)) → Reads t b (as_scalar (Ok w)) → Tells (reported at (binary_result op v w)) (Ok x) → FitsType x → Gives t (operation.Binary op at a b) (Ok (Some x))
    unfolding Gives
    gives_binary v w x h k l f s = binary_done t s (s ++ held (hold.Scalar x) ∷ []) op at a b v w x (Ok tt) h k l f (pushed refl)

  module _ (op : UnOp) (a : Atom) where
    pub gives_operand_stop : (e : Stop) → Reads t a (as_scalar (Err e)) → Gives t (operation.Unary op a) (Err e)
    unfolding Gives
    gives_operand_stop e h s = operand_stop t s s op a e h

    pub gives_unary_stop : (v : Scalar) (e : Stop) → Reads t a (as_scalar (Ok v)) → Tells (or_wrong (unary_result op v)) (Err e) → Gives t (operation.Unary op a) (Err e)
    unfolding Gives
    gives_unary_stop v e h l s = unary_stop t s s op a v e h l

    pub gives_unary : (v x : Scalar) → Reads t a (as_scalar (Ok v)) → Tells (or_wrong (unary_result op v)) (Ok x) → FitsType x → Gives t (operation.Unary op a) (Ok (Some x))
    unfolding Gives
    gives_unary v x h l f s = unary_done t s (s ++ held (hold.Scalar x) ∷ []) op a v x (Ok tt) h l f (pushed refl)

  module _ (to : ScalarType) (a : Atom) where
    pub gives_convert_stop : (e : Stop) → Reads t a (as_scalar (Err e)) → Gives t (operation.Convert to a) (Err e)
    unfolding Gives
    gives_convert_stop e h s = convert_stop t s s to a e h

    pub gives_converted : (v x : Scalar) → Reads t a (as_scalar (Ok v)) → x ≡ converted to v → FitsType x → Gives t (operation.Convert to a) (Ok (Some x))
    unfolding Gives
    gives_converted v x h q f s = convert_done t s (s ++ held (hold.Scalar x) ∷ []) to a v x (Ok tt) h q f (pushed refl)

  pub gives_none : (o : Operation) → Gives t o (Ok None)
  unfolding Gives
  gives_none o = tt

pub ruleset scalar_results = (gives_right_stop, gives_binary_stop, gives_binary, gives_operand_stop, gives_unary_stop, gives_unary, gives_convert_stop, gives_converted, gives_none)

pub operation_memory : (o : Operation) (t s s' : List Component) → Operates t o s s' (Err Memory)
unfolding Operates
operation_memory o t s s' env n st = no_memory

-- an operation, by the scalar that it gives
module _ (o : Operation) (t s : List Component) where
  pub given_stop : (e : Stop) → Gives t o (Err e) → Operates t o s s (Err e)
  unfolding Gives
  given_stop e h = h s

  pub given_pushed : (v : Scalar) (s' : List Component) (r : Answer) → Gives t o (Ok (Some v)) → Pushed (held (hold.Scalar v)) s s' r → Operates t o s s' r
  unfolding Gives
  given_pushed v s' _ h (pushed e) = subst (λ z. Operates t o s z (Ok tt)) (sym e) (h s)
  given_pushed v s' _ h not_pushed = operation_memory o t s s'

pub ruleset operations = (parts_unread, parts_done, operation_memory, given_stop, given_pushed, assert_stop, assert_holds, assert_fails)
