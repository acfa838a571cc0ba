-- Types and patterns of each sort, with what may not stand behind them, and items of lists of them.
use Rattle.std.proofs.Common.{◌≡◌, ◌≤◌, ◌+◌, ℕ, suc, max, true, false, List, Ok, Err, refl, sym, ap, ◌∙◌, subst, arith, ◌&&◌}
use Rattle.std.proofs.Math.Nat.{zero-max}
use Rattle.std.specs.Result.{IfOk}
use Rattle.fut_token.specs.declared.token.Fixed.TheVariants as fixed
use Rattle.fut_token.specs.declared.token.Token.{Token}
use Rattle.fut_ast.specs.declared.ty.TypeArg.TheVariants as type_arg
use Rattle.fut_ast.specs.Behind.{begins, begins_named}
use Rattle.fut_ast.specs.Sorts.{Sort, Tree, Text, SourceType, SourcePat, Whole_type, Applied_type, Atomic_type, Type_argument, Whole_pat, Atomic_pat, Pat_field}
use Rattle.fut_ast.specs.Tokens.{spot_of, starts, tail}
use Rattle.fut_ast.specs.declared.node.Spot.{Spot}
use Rattle.fut_ast.specs.Rows.{of_pat, of_type, pat_type}
use Rattle.fut_ast.specs.TypeRows.{named_arrow}
use Rattle.fut_ast.specs.Nodes.{type_at}
use Rattle.fut_ast.specs.declared.ty.TypeForm.TheVariants as type_form
use Rattle.fut_ast.specs.PatRows.{short_field}
use Rattle.fut_grammar.specs.declared.fault.Fault.{Fault}
use Rattle.fut_grammar.specs.declared.fault.Stop.TheVariants as stop
use Rattle.fut_grammar.specs.Reading.{◌>>=◌, Gives, Read, refuse, refuse_sort, expect, has_at, parts_at, row_at, sub_at, word_at}
use Rattle.fut_grammar.specs.Phrases.{applied_type_at, atomic_pat_at, atomic_type_at, bounded, ended, once_at, phrases, read_at, step, whole_pat_at, whole_type_at}
use Rattle.parse_types.specs.declared.patterns.PatSort.{PatSort}
use Rattle.parse_types.specs.declared.patterns.PatSort.TheVariants as pat_sort
use Rattle.parse_types.specs.declared.types.TypeSort.{TypeSort}
use Rattle.parse_types.specs.declared.types.TypeSort.TheVariants as sort
use Rattle.parse_types.specs.Found.{tree_found}
use Rattle.parse_types.specs.Handed.{Answer, Reads, ReadsPat, ReadsType, sort_of}
use Rattle.parse_types.specs.Made.{goes_on_with, node_of, read_as}
use Rattle.parse_types.specs.Closed.{Closes}
use Rattle.parse_types.specs.Signs.{before, not_before}
use Rattle.parse_types.proofs.ReadLaws.{before_as, before_low, by_read, by_test, same_read}
use Rattle.fut_grammar.proofs.Bools.{and_left, and_right}
use Rattle.fut_scalar.specs.declared.place.Place.{Place}

-- nothing of the sort begins here
pub no_type : (n : TypeSort) (d : ℕ) (ts : List Token) (f : Fault) → begins (sort_of n) ts ≡ false → f ≡ refuse_sort Whole_type ts → f ≡ refuse_sort Applied_type ts → f ≡ refuse_sort Atomic_type ts → ReadsType n (suc d) ts (Err (stop.Fault f))
unfolding read_at bounded
no_type sort.Whole d ts f none whole applied atomic = (rw (none, whole) refl, tt)
no_type sort.Applied d ts f none whole applied atomic = (rw (none, applied) refl, tt)
no_type sort.Atomic d ts f none whole applied atomic = (rw (none, atomic) refl, tt)

pub no_pat : (n : PatSort) (d : ℕ) (ts : List Token) (f : Fault) → begins Whole_pat ts ≡ false → f ≡ refuse ts → ReadsPat n (suc d) ts (Err (stop.Fault f))
unfolding read_at bounded refuse_sort
no_pat pat_sort.Whole d ts f none same = (rw (none, same) refl, tt)
no_pat pat_sort.Atomic d ts f none same = (rw (none, same) refl, tt)

-- one begins here
module _ (d : ℕ) (ts : List Token) where
  pub whole_type_read : (r : Answer Whole_type) → begins Whole_type ts ≡ true → Gives tree_found r (not_before fixed.Arrow (whole_type_at (phrases (read_at d)) (suc d) ts)) → IfOk r (λ x. x.height ≤ d + 1) → Reads Whole_type (suc d) ts r
  unfolding read_at bounded ended step
  whole_type_read r begun given low = let one : suc d ≡ d + 1 = omega arith in (rw begun given, rw one low)

  pub applied_type_read : (r : Answer Applied_type) → begins Applied_type ts ≡ true → Gives tree_found r (applied_type_at (phrases (read_at d)) (suc d) ts) → IfOk r (λ x. x.height ≤ d + 1) → Reads Applied_type (suc d) ts r
  unfolding read_at bounded ended step
  applied_type_read r begun given low =
      let one : suc d ≡ d + 1 = omega arith in (rw begun (subst (λ m. Gives tree_found r m) (sym (same_read (applied_type_at (phrases (read_at d)) (suc d) ts))) given), rw one low)

  pub atomic_type_read : (r : Answer Atomic_type) → begins Atomic_type ts ≡ true → Gives tree_found r (atomic_type_at (phrases (read_at d)) (suc d) ts) → IfOk r (λ x. x.height ≤ d + 1) → Reads Atomic_type (suc d) ts r
  unfolding read_at bounded ended step
  atomic_type_read r begun given low =
      let one : suc d ≡ d + 1 = omega arith in (rw begun (subst (λ m. Gives tree_found r m) (sym (same_read (atomic_type_at (phrases (read_at d)) (suc d) ts))) given), rw one low)

  abbrev typed_at : Spot → Read SourcePat
  typed_at at = goes_on_with (once_at (phrases (read_at d)) (suc d) (starts fixed.Colon) pat_type at (λ p. p)) (atomic_pat_at (phrases (read_at d)) (suc d) ts)

  pub whole_pat_read : (r : Answer Whole_pat) → begins Whole_pat ts ≡ true → (at : Spot) → at ≡ spot_of ts → Gives tree_found r (not_before fixed.Colon (typed_at at)) → IfOk r (λ x. x.height ≤ d + 1) → Reads Whole_pat (suc d) ts r
  unfolding read_at bounded ended step whole_pat_at
  whole_pat_read r begun at same given low =
      let one : suc d ≡ d + 1 = omega arith in (rw begun (subst (λ s. Gives tree_found r (not_before fixed.Colon (typed_at s))) same given), rw one low)

  pub atomic_pat_read : (r : Answer Atomic_pat) → begins Atomic_pat ts ≡ true → Gives tree_found r (atomic_pat_at (phrases (read_at d)) (suc d) ts) → IfOk r (λ x. x.height ≤ d + 1) → Reads Atomic_pat (suc d) ts r
  unfolding read_at bounded ended step
  atomic_pat_read r begun given low =
      let one : suc d ≡ d + 1 = omega arith in (rw begun (subst (λ m. Gives tree_found r m) (sym (same_read (atomic_pat_at (phrases (read_at d)) (suc d) ts))) given), rw one low)

-- a parameter with a name, and a type behind the arrow
abbrev pub named_from : ((n : Sort) → List Token → Read (Tree n)) → Text → Place → SourceType × ℕ × List Token → Read SourceType
named_from sub name place y = sub Whole_type y.2 >>= λ z. Ok (type_at place (type_form.Named name y.0 z.0), suc (max y.1 z.1), z.2)

module _ (sub : (n : Sort) → List Token → Read (Tree n)) (ts bs : List Token) (name : Text) where
  abbrev pub named_row : Read SourceType
  named_row = before fixed.Arrow (before fixed.CloseParen (sub Whole_type (tail (tail bs)))) >>= named_from sub name (spot_of ts).place

  pub named_as : bs ≡ tail ts → (starts fixed.OpenParen ts && begins_named (tail ts)) ≡ true → word_at bs ≡ Ok (name, tail bs) → row_at sub (of_type named_arrow) ts ≡ named_row
  unfolding row_at parts_at has_at expect sub_at
  named_as same named read =
      let begun : starts fixed.OpenParen ts ≡ true = and_left _ _ named in
      let colon : starts fixed.Colon (tail bs) ≡ true = ap (λ us. starts fixed.Colon (tail us)) same ∙ and_right _ _ (and_right _ _ named) in
      let word : word_at (tail ts) ≡ Ok (name, tail bs) = sym (ap word_at same) ∙ read in
      by_read (sub Whole_type (tail (tail bs)))
      (λ y first. by_test (starts fixed.CloseParen y.2)
      (λ closed. by_test (starts fixed.Arrow (tail y.2))
      (λ arrow. by_read (sub Whole_type (tail (tail y.2)))
      (λ z second. let high : max (max 0 y.1) z.1 ≡ max y.1 z.1 = ap (λ k. max k z.1) (zero-max y.1) in rw (begun, word, colon, first, closed, arrow, second, high) refl)
      (λ f second. rw (begun, word, colon, first, closed, arrow, second) refl))
      (λ arrow. rw (begun, word, colon, first, closed, arrow) refl))
      (λ closed. rw (begun, word, colon, first, closed) refl))
      (λ f first. rw (begun, word, colon, first) refl)

pub named_read : (d : ℕ) (r q p : Answer Whole_type) (us vs : List Token) → us ≡ vs → Gives tree_found r (read_at d Whole_type us) → Closes fixed.CloseParen r q → Closes fixed.Arrow q p → Gives tree_found p (before fixed.Arrow (before fixed.CloseParen (read_at d Whole_type vs)))
named_read d r q p us vs same read closed arrow =
    let first = subst (λ ts. Gives tree_found r (read_at d Whole_type ts)) same read in
    before_as (λ t. t.now) fixed.Arrow q p (before fixed.CloseParen (read_at d Whole_type vs)) arrow (before_as (λ t. t.now) fixed.CloseParen r q (read_at d Whole_type vs) closed first)

pub named_low : (k : ℕ) (r q p : Answer Whole_type) → IfOk r (λ x. x.height ≤ k) → Closes fixed.CloseParen r q → Closes fixed.Arrow q p → IfOk p (λ x. x.height ≤ k)
named_low k r q p low closed arrow = before_low fixed.Arrow q p k arrow (before_low fixed.CloseParen r q k closed low)

-- behind nothing, the height is that of the phrase
abbrev pub alone : {A : Type 0} → Read A → Read A
alone m = m >>= λ y. Ok (y.0, max 0 y.1, y.2)

pub node_alone : {A B : Type 0} (f : A → B) (m : Read A) → node_of f m ≡ node_of f (alone m)
node_alone f (Ok y) = rw (zero-max y.1) refl
node_alone f (Err e) = refl

-- an argument of a type is no node
abbrev pub argument_row : Read SourceType → Read (Tree Type_argument)
argument_row m = read_as type_arg.Of (alone m) >>= λ y. Ok y

pub argument_as : (m : Read SourceType) → read_as type_arg.Of m ≡ argument_row m
argument_as (Ok y) = rw (zero-max y.1) refl
argument_as (Err f) = refl

-- nor is a field of a pattern, behind which no equals sign may stand
abbrev pub field_row : Text → Read SourcePat → Read (Tree Pat_field)
field_row name m = not_before fixed.Equal (read_as (λ p. (name, p)) (alone m))

pub field_as : (name : Text) (m : Read SourcePat) → read_as (λ p. (name, p)) (not_before fixed.Equal m) ≡ field_row name m
field_as name (Ok y) = by_test (starts fixed.Equal y.2) (λ e. rw (zero-max y.1, e) refl) (λ e. rw (zero-max y.1, e) refl)
field_as name (Err f) = refl

pub short_as : (sub : (n : Sort) → List Token → Read (Tree n)) (ts us : List Token) (name : Text) → word_at ts ≡ Ok (name, us) → starts fixed.Equal us ≡ false → not_before fixed.Equal (row_at sub (of_pat short_field) ts) ≡ row_at sub (of_pat short_field) ts
unfolding row_at parts_at has_at
short_as sub ts us name read none = rw (read, none) refl
