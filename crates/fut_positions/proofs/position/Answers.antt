use Rattle.std.proofs.Common.{◌≡◌, ◌<◌, ◌^◌, ℕ, List, Result, Ok, Err, sym, ◌∙◌, ap, subst, true≢false, arith}
use Rattle.std.specs.Fmt.{decimal}
use Rattle.std.specs.Str.Parse.{ParsesUnsigned}
use Rattle.std.proofs.lemmas.Fmt.{parse-decimal}
use Rattle.std.proofs.lemmas.Slice.Eq.{bytes_eq-Decides}
use Rattle.fut_positions.proofs.position.Goals as goal
use Rattle.fut_positions.proofs.position.Goals.{else-at-count-via-then-at-count+else-eq, else-at-count-via-else-at-count}

-- a name that spells a position is read as that position
module _ {E : Type 0} (name : List ℕ) (r : Result ℕ E) (parses : ParsesUnsigned {E = E} 64 10 name r) (k : ℕ) (small : k < 2 ^ 64) (spelled : decimal k ≡ name) where
  read : r ≡ Ok k
  read = parse-decimal 64 k name r small small (sym spelled) parses

  is_read : (at : ℕ) → r ≡ Ok at → k ≡ at
  is_read at is = ap value (sym read ∙ is)
    where
      value : Result ℕ E → ℕ
      value (Ok n) = n
      value (Err e) = at

  is_no_error : (e : E) → r ≡ Err e → ⊥
  is_no_error e is = subst is_error (sym is ∙ read) tt
    where
      is_error : Result ℕ E → Type 0
      is_error (Ok n) = ⊥
      is_error (Err x) = Unit {0}

pub returns-in-Err : goal.returns-in-Err
returns-in-Err c k lt e = is_no_error c.args.name.now c.parse.result c.parse.ensures.value.0 k (omega (arith, c.ranges.count.fits)) e c.in-Err.field-0 c.in-Err.is

pub returns-then-eq : goal.returns-then-eq
returns-then-eq c = (
  c.if-at-count.true,
  sym c.format.ensures.text ∙ (bytes_eq-Decides c.format.result.now c.args.name.now).0 (sym c.eq.ensures ∙ c.if-eq.true),
  λ k lt e. is_read c.args.name.now c.parse.result c.parse.ensures.value.0 k (omega (arith, c.ranges.count.fits)) e c.in-Ok.at c.in-Ok.is,
)

pub returns-else-at-count : goal.returns-else-at-count
returns-else-at-count c k lt e =
    let is : k ≡ c.in-Ok.at = is_read c.args.name.now c.parse.result c.parse.ensures.value.0 k (omega (arith, c.ranges.count.fits)) e c.in-Ok.at c.in-Ok.is in
    elim c.else-at-count.branch [
      | else-at-count-via-then-at-count+else-eq w ↦ true≢false (sym ((bytes_eq-Decides w.format.result.now c.args.name.now).1 (w.format.ensures.text ∙ ap decimal (sym is) ∙ e)) ∙ sym w.eq.ensures ∙ w.if-eq.false)
      | else-at-count-via-else-at-count w ↦ omega (arith, is, w.if-at-count.false)
    ]
