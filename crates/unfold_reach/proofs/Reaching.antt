-- Tables of what is named, one part after the other.
use Rattle.std.proofs.Common.{◌≡◌, ℕ, ◌+◌, ◌<◌, ◌≤◌, ◌||◌, List, ◌∷◌, map, length, get_or, set, drop, Bool, true, false, nat_eq, refl, sym, ap, ◌∙◌, subst, arith}
use Rattle.std.proofs.lemmas.Bool.{eqb-true, eqb-false, eq-eqb, ne_eqb}
use Rattle.std.proofs.lemmas.List.{length-set, get_or-set_same, get_or-set_other}
use Rattle.std.specs.Borrow.{Bor}
use Rattle.fut_scalar.specs.declared.place.BindId.{BindId}
use Rattle.fut_scalar.specs.declared.place.Place.{Place}
use Rattle.fut_scalar.specs.declared.scalar.ScalarType.{ScalarType}
use Rattle.fut_flat.specs.declared.act.Act.{Act}
use Rattle.fut_flat.specs.declared.exp.Exp.{Exp}
use Rattle.fut_flat.specs.declared.exp.Form.TheVariants as form
use Rattle.fut_flat.specs.declared.exp.Let.{Let as LetTree}
use Rattle.fut_flat.specs.declared.exp.Loop.{Loop as LoopTree}
use Rattle.fut_flat.specs.declared.exp.LoopForm.{LoopForm}
use Rattle.fut_flat.specs.declared.exp.LoopForm.TheVariants as turns
use Rattle.fut_flat.specs.declared.pat.Pat.{Pat}
use Rattle.fut_flat.specs.declared.prim.Primitive.{Primitive}
use Rattle.fut_flat.specs.declared.prim.Ref.{Ref}
use Rattle.fut_flat.specs.declared.prim.Ref.TheVariants as ref
use Rattle.fut_flat.specs.Erased.{FlatTerm, lets, parameters, pattern_of, patterns, term_of, terms}
use Rattle.fut_flat.specs.Terms.{Let}
use Rattle.fut_flat.proofs.ErasedForms.{row_of, turns_of, loop_is, row_is, term_use, term_strict, term_lambda, term_apply, term_lets, term_if, term_loop, turns_counted, turns_over, turns_while}
use Rattle.fut_meaning.specs.Flats.{is_flat_use}
use Rattle.fut_meaning.specs.Programs.{turns_have_use, all_names_of, names_of, names_of_turns, with_sizes, with_parameters}
use Rattle.unfold_reach.specs.Reach.{is_set, Uses, use_of, uses, all_use, Named_more, named_more, Noted, noted, Noted_turns, noted_turns, Noted_rows, noted_rows}
use Rattle.unfold_reach.proofs.Lists.{one_more, drop_end}

-- ---- one number more

pub named_same : (named : List Bool) (b : BindId) → length named ≤ b.0 → Named_more b named named
named_same named b le = named_more refl (λ k lt. sym (ap (λ z. z || is_set named k) (ne_eqb b.0 k (λ e. omega (arith, le, lt, e)))))

pub named_set : (named : List Bool) (b : BindId) → b.0 < length named → Named_more b named (set named b.0 true)
named_set named b lt = named_more (length-set named b.0 true) (λ k lt'. at k (nat_eq b.0 k) refl)
  where
    at : (k : ℕ) (c : Bool) → nat_eq b.0 k ≡ c → is_set (set named b.0 true) k ≡ (nat_eq b.0 k || is_set named k)
    at k true q = ap (λ z. is_set (set named b.0 true) z) (sym (eqb-true b.0 k q)) ∙ get_or-set_same named b.0 true false lt ∙ sym (ap (λ z. z || is_set named k) q)
    at k false q = get_or-set_other named b.0 k true false (λ e. eqb-false b.0 k q (sym e)) ∙ sym (ap (λ z. z || is_set named k) q)

-- one number is another, either way
pub equal_turned : (m n : ℕ) → nat_eq m n ≡ nat_eq n m
equal_turned m n = at (nat_eq m n) refl
  where
    at : (c : Bool) → nat_eq m n ≡ c → nat_eq m n ≡ nat_eq n m
    at true q = q ∙ sym (eq-eqb n m (sym (eqb-true m n q)))
    at false q = q ∙ sym (ne_eqb n m (λ e. eqb-false m n q (sym e)))

-- ---- one part after the other

or_moves : (u v o : Bool) → (v || (u || o)) ≡ ((u || v) || o)
or_moves true true o = refl
or_moves true false o = refl
or_moves false true o = refl
or_moves false false o = refl

module _ {old : List Bool} where
  pub noted_nothing : {U : Uses} → ((bs : List BindId) (k : ℕ) → U bs k ≡ false) → Noted U old old
  noted_nothing h = noted refl (λ bs k lt. sym (ap (λ z. z || is_set old k) (h bs k)))

  pub noted_then : {U V : Uses} {mid new : List Bool} → Noted U old mid → Noted V mid new → Noted (λ bs k. U bs k || V bs k) old new
  noted_then {U} {V} (noted l f) (noted m g) = noted (m ∙ l) (λ bs k lt. g bs k (subst (λ z. k < z) (sym l) lt) ∙ ap (λ z. V bs k || z) (f bs k lt) ∙ or_moves (U bs k) (V bs k) (is_set old k))

  noted_as : {t u : FlatTerm} {new : List Bool} → t ≡ u → Noted (uses u) old new → Noted (uses t) old new
  noted_as {new = new} e h = subst (λ z. Noted (uses z) old new) (sym e) h

-- under other local names
noted_under : {U : Uses} {old new : List Bool} (w : List BindId → List BindId) → Noted U old new → Noted (λ bs k. U (w bs) k) old new
noted_under w (noted l f) = noted l (λ bs k lt. f (w bs) k lt)

module _ (old : List Bool) where
  pub use_bound : (b : BindId) (r : Ref) (new : List Bool) → r ≡ ref.Bound b → Named_more b old new → Noted (use_of r) old new
  use_bound b r new e (named_more l h) = subst (λ z. Noted (use_of z) old new) (sym e) (noted l (λ bs k lt. h k lt))

  pub use_primitive : (p : Primitive) (r : Ref) → r ≡ ref.Prim p → Noted (use_of r) old old
  use_primitive p r e = subst (λ z. Noted (use_of z) old old) (sym e) (noted_nothing (λ bs k. refl))

  pub use_scalar : (s : ScalarType) (r : Ref) → r ≡ ref.Scalar s → Noted (use_of r) old old
  use_scalar s r e = subst (λ z. Noted (use_of z) old old) (sym e) (noted_nothing (λ bs k. refl))

module _ (e : Exp) (old new : List Bool) where
  pub note_use : (r : Ref) (n : ℕ) → e.form ≡ form.Use r n → Noted (use_of r) old new → Noted (uses (term_of e)) old new
  note_use r n is (noted l f) = noted_as (term_use e r n is) (noted l f)

  pub note_lambda : (ps : Bor (List Pat)) (b : Bor Exp) → e.form ≡ form.Lambda ps b → Noted (uses (term_of b.now)) old new → Noted (uses (term_of e)) old new
  note_lambda ps b is (noted l f) = noted_as (term_lambda e ps b is) (noted l (λ bs k lt. f (all_names_of (patterns (map pattern_of ps.now)) bs) k lt))

  pub note_strict : (a : Act) (mark : Place) (es : Bor (List Exp)) → e.form ≡ form.Strict a mark es → Noted (all_use (terms (map term_of es.now))) old new → Noted (uses (term_of e)) old new
  note_strict a mark es is (noted l f) = noted_as (term_strict e a mark es is) (noted l f)

  module _ (mid : List Bool) where
    pub note_apply : (f x : Bor Exp) → e.form ≡ form.Apply f x → Noted (uses (term_of f.now)) old mid → Noted (uses (term_of x.now)) mid new → Noted (uses (term_of e)) old new
    note_apply f x is a b = noted_as (term_apply e f x is) (noted_then a b)

    pub note_lets : (ls : Bor (List LetTree)) (b : Bor Exp) → e.form ≡ form.Lets ls b → Noted_rows (map row_of ls.now) old mid → Noted (uses (term_of b.now)) mid new → Noted (uses (term_of e)) old new
    note_lets ls b is (noted_rows f) h = noted_as (term_lets e ls b is) (f _ _ h)

    module _ (mid' : List Bool) where
      pub note_if : (c a b : Bor Exp) → e.form ≡ form.If c a b → Noted (uses (term_of c.now)) old mid → Noted (uses (term_of a.now)) mid mid' → Noted (uses (term_of b.now)) mid' new → Noted (uses (term_of e)) old new
      note_if c a b is h h' h'' = noted_as (term_if e c a b is) (noted_then h (noted_then h' h''))

      pub note_loop : (l : Bor LoopTree) → e.form ≡ form.Loop l → Noted (uses (term_of l.now.first)) old mid → Noted_turns (turns_of l.now.form) mid mid' → Noted (uses (term_of l.now.body)) mid' new → Noted (uses (term_of e)) old new
      note_loop l is h (noted_turns m g) (noted n b) = noted_as (term_loop e l is ∙ loop_is l.now) (noted_then h (noted_then turned inside))
        where
          turned : Noted (λ bs k. turns_have_use (λ ds p. is_flat_use tt ds p k) bs (names_of (pattern_of l.now.pat) (with_sizes l.now.sizes.now bs)) (turns_of l.now.form)) mid mid'
          turned = noted m (λ bs k lt. g bs (names_of (pattern_of l.now.pat) (with_sizes l.now.sizes.now bs)) k lt)

          inside : Noted (λ bs k. uses (term_of l.now.body) (names_of_turns (turns_of l.now.form) (names_of (pattern_of l.now.pat) (with_sizes l.now.sizes.now bs))) k) mid' new
          inside = noted n (λ bs k lt. b (names_of_turns (turns_of l.now.form) (names_of (pattern_of l.now.pat) (with_sizes l.now.sizes.now bs))) k lt)

-- ---- parts

-- what is noted of the parts from one on leads to all of them
pub data All_noted (es : List Exp) (old now : List Bool) (i : ℕ) : Type 0 where
  all_noted : ((last : List Bool) → Noted (all_use (terms (map term_of (drop i es)))) now last → Noted (all_use (terms (map term_of es))) old last) → All_noted es old now i

pub all_start : (es : List Exp) (old : List Bool) → All_noted es old old 0
all_start es old = all_noted (λ last h. h)

pub all_more : (es : List Exp) (old now : List Bool) (i : ℕ) (d : Exp) (next : List Bool) → i < length es → All_noted es old now i → Noted (uses (term_of (get_or es i d))) now next → All_noted es old next (i + 1)
unfolding terms
all_more es old now i d next lt (all_noted f) h = all_noted (λ last g. f last (subst (λ z. Noted (all_use (terms (map term_of z))) now last) (sym (one_more es i d lt)) (noted_then h g)))

pub all_done : (es : List Exp) (old now : List Bool) (i : ℕ) → length es ≤ i → All_noted es old now i → Noted (all_use (terms (map term_of es))) old now
unfolding terms
all_done es old now i le (all_noted f) = f now (subst (λ z. Noted (all_use (terms (map term_of z))) now now) (sym (drop_end i es le)) (noted_nothing (λ bs k. refl)))

-- ---- rows of lets

pub data Lets_noted (ls : List LetTree) (old now : List Bool) (i : ℕ) : Type 0 where
  lets_noted : ((body : FlatTerm) (last : List Bool) → Noted (uses (lets (map row_of (drop i ls)) body)) now last → Noted (uses (lets (map row_of ls) body)) old last) → Lets_noted ls old now i

pub lets_start : (ls : List LetTree) (old : List Bool) → Lets_noted ls old old 0
lets_start ls old = lets_noted (λ body last h. h)

pub lets_more : (ls : List LetTree) (old now : List Bool) (i : ℕ) (d : LetTree) (next : List Bool) → i < length ls → Lets_noted ls old now i → Noted (uses (term_of (get_or ls i d).value)) now next → Lets_noted ls old next (i + 1)
unfolding lets
lets_more ls old now i d next lt (lets_noted f) h = lets_noted (λ body last g. f body last (subst (λ z. Noted (uses (lets (map row_of z) body)) now last) (sym (one_more ls i d lt)) (behind body last g)))
  where
    behind : (body : FlatTerm) (last : List Bool) → Noted (uses (lets (map row_of (drop (i + 1) ls)) body)) next last → Noted (uses (lets (map row_of (get_or ls i d ∷ drop (i + 1) ls)) body)) now last
    behind body last (noted m g) = noted_as (ap (λ z. Let z.0 z.1 (lets (map row_of (drop (i + 1) ls)) body)) (row_is (get_or ls i d))) (noted_then (noted_under (with_parameters (parameters (get_or ls i d).heads.now)) h) (noted_under (λ bs. names_of (pattern_of (get_or ls i d).pat) (with_sizes (get_or ls i d).sizes.now bs)) (noted m g)))

pub lets_done : (ls : List LetTree) (old now : List Bool) (i : ℕ) → length ls ≤ i → Lets_noted ls old now i → Noted_rows (map row_of ls) old now
unfolding lets
lets_done ls old now i le (lets_noted f) = noted_rows (λ body last h. f body last (subst (λ z. Noted (uses (lets (map row_of z) body)) now last) (sym (drop_end i ls le)) h))

-- ---- how many turns a loop has

module _ (t : LoopForm) (old new : List Bool) where
  pub turns_counted_noted : (i : BindId) (n : Exp) → t ≡ turns.For i n → Noted (uses (term_of n)) old new → Noted_turns (turns_of t) old new
  turns_counted_noted i n is (noted m f) = subst (λ z. Noted_turns z old new) (sym (ap turns_of is ∙ turns_counted i n)) (noted_turns m (λ bs cs k lt. f bs k lt))

  pub turns_over_noted : (p : Pat) (a : Exp) → t ≡ turns.ForIn p a → Noted (uses (term_of a)) old new → Noted_turns (turns_of t) old new
  turns_over_noted p a is (noted m f) = subst (λ z. Noted_turns z old new) (sym (ap turns_of is ∙ turns_over p a)) (noted_turns m (λ bs cs k lt. f bs k lt))

  pub turns_while_noted : (c : Exp) → t ≡ turns.While c → Noted (uses (term_of c)) old new → Noted_turns (turns_of t) old new
  turns_while_noted c is (noted m f) = subst (λ z. Noted_turns z old new) (sym (ap turns_of is ∙ turns_while c)) (noted_turns m (λ bs cs k lt. f cs k lt))
