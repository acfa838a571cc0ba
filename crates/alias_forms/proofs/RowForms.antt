-- A row of lets is one let after another, and then its body.
use Rattle.std.proofs.Common.{◌≡◌, ℕ, ◌+◌, List, [], ◌∷◌, Option, None, Ok, Err, refl, sym, ap, ◌∙◌, arith}
use Rattle.fut_flat.specs.Erased.{FlatTerm, Row, lets}
use Rattle.fut_flat.specs.Numbers.{numbers, pattern_numbers}
use Rattle.fut_types.specs.Types.{Kinds, Sub}
use Rattle.fut_typing.specs.Names.{Names}
use Rattle.fut_aliases.specs.Aliases.{Naming}
use Rattle.fut_aliases.specs.Calls as definition
use Rattle.fut_aliases.specs.Calls.{Here, finished}
use Rattle.fut_aliases.specs.Capturing.{or_name, some_name}
use Rattle.fut_aliases.specs.Looking.{behind_let, held, let_fits, looked, part_of}
use Rattle.fut_aliases.specs.Stars.{Stars}
use Rattle.fut_aliases.specs.Steps.{Answer, Done, Losses, Step, and_then, give, then_do}
use Rattle.alias_forms.specs.Rows.{behind_row, behind_rows, let_looked, row_looked, row_name}
use Rattle.alias_forms.proofs.SeenForms.{or_name_more}
use Rattle.alias_forms.proofs.WalkForms.{alone}

module _ (naming : Naming) (N : Names) (K : Kinds) (types : Sub) where
  -- what a term gives by itself is held already
  held_again : (e : FlatTerm) (n : ℕ) (h : Here) (w : Option Stars) (ls : Losses) → alone naming N K types e n h w ls ≡ then_do (alone naming N K types e n h w ls) (λ d. held e n d.result.value d.losses)
  held_again e n h w ls = by_part (looked naming N K types e n h w ls)
    where
      by_value : (x : Answer (Done _)) → then_do x (λ d. held e n d.result d.losses) ≡ then_do (then_do x (λ d. held e n d.result d.losses)) (λ d. held e n d.result.value d.losses)
      by_value (Ok d) = refl
      by_value (Err b) = refl

      by_part : (x : Answer (Done definition.Part)) → then_do x (λ d. and_then (finished K h n d.result) (λ v. held e n v) d.losses) ≡ then_do (then_do x (λ d. and_then (finished K h n d.result) (λ v. held e n v) d.losses)) (λ d. held e n d.result.value d.losses)
      by_part (Ok d) = by_value (finished K h n d.result d.losses)
      by_part (Err b) = refl

  -- the body behind a row, held as the row
  abbrev pub body_of : List Row → FlatTerm → ℕ → Option Stars → Here → Step definition.Held
  body_of ls e n w inside = and_then (alone naming N K types e (behind_rows ls n) inside w) (λ r. held (lets ls e) n r.value)

  -- what stands behind a let, and what follows it
  module _ (l : Row) (ls : List Row) (e : FlatTerm) (n : ℕ) (h : Here) (w : Option Stars) where
    abbrev behind : definition.Held → Here
    behind a = behind_let naming N K types l.0 n a h

    abbrev fits : Done definition.Held → Answer (Done (Unit {0}))
    fits a = let_fits naming N K types h l.0.pattern (1 + n) a.result a.losses

    abbrev given_as : Done definition.Held → Answer (Done definition.Part)
    given_as r = give (part_of r.result None (types n)) r.losses

    abbrev held_as : Done definition.Part → Answer (Done definition.Held)
    held_as p = and_then (finished K h n p.result) (λ v. held (lets (l ∷ ls) e) n v) p.losses

    by_body : (x : Answer (Done definition.Held)) → then_do (then_do (then_do x (λ r. held (lets ls e) (behind_row l n) r.result.value r.losses)) given_as) held_as ≡ then_do x (λ r. held (lets (l ∷ ls) e) n r.result.value r.losses)
    by_body (Ok r) = refl
    by_body (Err b) = refl

    by_row : (x : Answer (Done Here)) → then_do (then_do (then_do x (λ j. body_of ls e (behind_row l n) w j.result j.losses)) given_as) held_as ≡ then_do x (λ j. body_of (l ∷ ls) e n w j.result j.losses)
    unfolding behind_rows
    by_row (Ok j) = by_body (alone naming N K types e (behind_rows ls (behind_row l n)) j.result w j.losses)
    by_row (Err b) = refl

    by_part : (x : Answer (Done definition.Held)) → then_do (then_do x (λ r. held (lets ls e) (behind_row l n) r.result.value r.losses)) given_as ≡ then_do x (λ r. and_then (held (lets ls e) (behind_row l n) r.result.value) (λ a. give (part_of a None (types n))) r.losses)
    by_part (Ok r) = refl
    by_part (Err b) = refl

    by_inside : (x : Answer (Done Here)) → then_do (then_do x (λ j. body_of ls e (behind_row l n) w j.result j.losses)) given_as ≡ then_do x (λ j. and_then (alone naming N K types e (behind_rows ls (behind_row l n)) j.result w) (λ r. and_then (held (lets ls e) (behind_row l n) r.value) (λ a. give (part_of a None (types n)))) j.losses)
    by_inside (Ok j) = by_part (alone naming N K types e (behind_rows ls (behind_row l n)) j.result w j.losses)
    by_inside (Err b) = refl

  pub row_alone : (ls : List Row) (e : FlatTerm) (n : ℕ) (h : Here) (w : Option Stars) (old : Losses) → alone naming N K types (lets ls e) n h w old ≡ and_then (row_looked naming N K types ls n h) (body_of ls e n w) old
  unfolding lets behind_rows row_looked looked
  row_alone [] e n h w old = held_again e n h w old
  row_alone (l ∷ ls) e n h w old = by_value (λ a z. row_alone ls e (behind_row l n) (behind l ls e n h w a.result) w z.losses) (alone naming N K types l.1 (1 + n + pattern_numbers l.0.pattern) h None old)
    where
      by_fit : ((a : Done definition.Held) (z : Done (Unit {0})) → alone naming N K types (lets ls e) (behind_row l n) (behind l ls e n h w a.result) w z.losses ≡ and_then (row_looked naming N K types ls (behind_row l n) (behind l ls e n h w a.result)) (body_of ls e (behind_row l n) w) z.losses) → (a : Done definition.Held) (y : Answer (Done (Unit {0}))) → then_do (then_do y (λ z. then_do (alone naming N K types (lets ls e) (behind_row l n) (behind l ls e n h w a.result) w z.losses) (given_as l ls e n h w))) (held_as l ls e n h w) ≡ then_do (then_do (then_do y (λ z. give (behind l ls e n h w a.result) z.losses)) (λ i. row_looked naming N K types ls (behind_row l n) i.result i.losses)) (λ j. body_of (l ∷ ls) e n w j.result j.losses)
      by_fit k a (Ok z) = ap (λ x. then_do (then_do x (given_as l ls e n h w)) (held_as l ls e n h w)) (k a z) ∙ by_row l ls e n h w (row_looked naming N K types ls (behind_row l n) (behind l ls e n h w a.result) z.losses)
      by_fit k a (Err b) = refl

      by_value : ((a : Done definition.Held) (z : Done (Unit {0})) → alone naming N K types (lets ls e) (behind_row l n) (behind l ls e n h w a.result) w z.losses ≡ and_then (row_looked naming N K types ls (behind_row l n) (behind l ls e n h w a.result)) (body_of ls e (behind_row l n) w) z.losses) → (x : Answer (Done definition.Held)) → then_do (then_do x (λ a. then_do (fits l ls e n h w a) (λ z. then_do (alone naming N K types (lets ls e) (behind_row l n) (behind l ls e n h w a.result) w z.losses) (given_as l ls e n h w)))) (held_as l ls e n h w) ≡ then_do (then_do (then_do x (λ a. then_do (fits l ls e n h w a) (λ z. give (behind l ls e n h w a.result) z.losses))) (λ i. row_looked naming N K types ls (behind_row l n) i.result i.losses)) (λ j. body_of (l ∷ ls) e n w j.result j.losses)
      by_value k (Ok a) = by_fit k a (fits l ls e n h w a)
      by_value k (Err b) = refl

  pub lets_is : (l : Row) (ls : List Row) (e : FlatTerm) (n : ℕ) (h : Here) (w : Option Stars) (old : Losses) → looked naming N K types (lets (l ∷ ls) e) n h w old ≡ and_then (let_looked naming N K types l n h) (λ i. and_then (row_looked naming N K types ls (behind_row l n) i) (λ j. and_then (alone naming N K types e (behind_rows ls (behind_row l n)) j w) (λ r. and_then (held (lets ls e) (behind_row l n) r.value) (λ a. give (part_of a None (types n)))))) old
  unfolding lets looked
  lets_is l ls e n h w old = by_value (alone naming N K types l.1 (1 + n + pattern_numbers l.0.pattern) h None old)
    where
      after_row : Done Here → Answer (Done definition.Part)
      after_row j = and_then (alone naming N K types e (behind_rows ls (behind_row l n)) j.result w) (λ r. and_then (held (lets ls e) (behind_row l n) r.value) (λ a. give (part_of a None (types n)))) j.losses

      by_fit : (a : Done definition.Held) (y : Answer (Done (Unit {0}))) → then_do y (λ z. then_do (alone naming N K types (lets ls e) (behind_row l n) (behind l ls e n h w a.result) w z.losses) (given_as l ls e n h w)) ≡ then_do (then_do y (λ z. give (behind l ls e n h w a.result) z.losses)) (λ i. then_do (row_looked naming N K types ls (behind_row l n) i.result i.losses) after_row)
      by_fit a (Ok z) = ap (λ x. then_do x (given_as l ls e n h w)) (row_alone ls e (behind_row l n) (behind l ls e n h w a.result) w z.losses) ∙ by_inside l ls e n h w (row_looked naming N K types ls (behind_row l n) (behind l ls e n h w a.result) z.losses)
      by_fit a (Err b) = refl

      by_value : (x : Answer (Done definition.Held)) → then_do x (λ a. then_do (fits l ls e n h w a) (λ z. then_do (alone naming N K types (lets ls e) (behind_row l n) (behind l ls e n h w a.result) w z.losses) (given_as l ls e n h w))) ≡ then_do (then_do x (λ a. then_do (fits l ls e n h w a) (λ z. give (behind l ls e n h w a.result) z.losses))) (λ i. then_do (row_looked naming N K types ls (behind_row l n) i.result i.losses) after_row)
      by_value (Ok a) = by_fit a (fits l ls e n h w a)
      by_value (Err b) = refl

-- ---- the names and the numbers of a row

pub row_names : (ls : List Row) (e : FlatTerm) → some_name (lets ls e) ≡ or_name (row_name ls) (some_name e)
unfolding lets row_name some_name
row_names [] e = refl
row_names (l ∷ ls) e = ap (or_name (some_name l.1)) (row_names ls e) ∙ sym (or_name_more (some_name l.1) (row_name ls) (some_name e))

pub row_numbers : (ls : List Row) (e : FlatTerm) (n : ℕ) → n + numbers (lets ls e) ≡ behind_rows ls n + numbers e
unfolding lets behind_rows
row_numbers [] e n = refl
row_numbers (l ∷ ls) e n = let rest : behind_row l n + numbers (lets ls e) ≡ behind_rows ls (behind_row l n) + numbers e = row_numbers ls e (behind_row l n) in omega (arith, rest)
