-- Lets in a row, and what stands behind them.
use Rattle.std.proofs.Common.{◌≡◌, ℕ, zero, suc, ◌+◌, ◌*◌, ◌≤◌, ◌<◌, Bool, true, false, List, [], ◌∷◌, ◌++◌, length, map, take, slice_index_or, refl, sym, ◌∙◌, ap, subst, arith}
use Rattle.std.proofs.Math.Seq.{take-suc}
use mathlib.Core.Logic.{inl, inr}
use Rattle.fut_scalar.specs.declared.place.BindId.{BindId}
use Rattle.fut_types.specs.declared.Kind.{Kind}
use Rattle.fut_types.specs.declared.shapes.ShapeTable.{ShapeTable}
use Rattle.fut_types.specs.Types.{Sub, Kinds}
use Rattle.fut_flat.specs.declared.exp.Let.{Let as LetTree}
use Rattle.fut_flat.specs.declared.pat.Head.{Head}
use Rattle.fut_flat.specs.Terms.{Parameter}
use Rattle.fut_flat.specs.Numbers.{numbers, pattern_numbers}
use Rattle.fut_flat.specs.Erased.{FlatTerm, FlatPattern, Row, parameters, pattern_of, term_of, lets}
use Rattle.fut_flat.proofs.ErasedForms.{row_of, row_is}
use Rattle.fut_typing.specs.Names.{Names}
use Rattle.fut_typing.specs.Scopes.{Scope}
use Rattle.fut_typing.specs.Homes.{Env, At_home, Homed, scope_of}
use Rattle.fut_typing.specs.Typing.{Typed}
use Rattle.fut_typing.specs.Rows.{behind, behind_all, env_rows, with_row, with_rows, Rows_homed}
use Rattle.fut_typing.proofs.Ranges.{numbers_some, pattern_some}
use Rattle.fut_typing.proofs.Envs.{scope_function, scope_value, behind_more, env_more, rows_homed}
use Rattle.type_scopes.specs.declared.Inference.{Inference}
use Rattle.type_scopes.specs.declared.names.Past.{Past}
use Rattle.type_scopes.specs.Table.{undone}
use Rattle.type_rules.specs.declared.demand.Demand.TheVariants as demand
use Rattle.type_rules.specs.Demands.{Are_demands}
use Rattle.type_scopes.specs.Scopes.{Around, Claim, Homes, Safe, Claimed, Opened, Refused, nothing_claimed}
use Rattle.type_scopes.proofs.Claiming.{refused_as}
use Rattle.type_scopes.proofs.Going.{knows_more, later_then}
use Rattle.type_scopes.proofs.Putting.{puts_then}
use Rattle.type_scopes.proofs.Opening.{Both, Whole, more_same, opened_as, opened_both, opened_refused, opened_then, closed_after}
use Rattle.type_scopes.proofs.Binding.{binds_none}
use Rattle.type_constraints.specs.Parts.{Term_claim, Term_homes, Constrained, Unconstrained, value_row, Row_claim, Row_homes, env_row, Rows_claim, Rows_homes, Demands_put, Demands_refused, Ruled, Unruled}
use Rattle.type_constraints.proofs.Depending.{depends_term}
use Rattle.type_constraints.proofs.Forms.{anywhere, ruled, unruled}
use Rattle.type_constraints.proofs.Values.{same_allowed, same_says, same_within}

-- how many numbers lets have
pub behind_from : (ls : List Row) (lo : ℕ) → behind_all ls lo ≡ lo + behind_all ls 0
unfolding behind_all
behind_from [] lo = omega arith
behind_from (l ∷ ls) lo = let x = behind_from ls (behind l lo) in let y = behind_from ls (behind l 0) in omega (arith, x, y)

pub numbers_lets : (ls : List Row) (body : FlatTerm) → numbers (lets ls body) ≡ behind_all ls 0 + numbers body
unfolding lets behind_all
numbers_lets [] body = refl_zero
  where
    refl_zero : numbers body ≡ 0 + numbers body
    refl_zero = omega arith
numbers_lets (l ∷ ls) body = let x = numbers_lets ls body in let y = behind_from ls (behind l 0) in omega (arith, x, y)

-- a row, split at one
pub behind_split : (ls : List Row) (l : Row) (rest : List Row) → behind_all (ls ++ l ∷ rest) 0 ≡ behind_all ls 0 + behind l 0 + behind_all rest 0
unfolding behind_all
behind_split [] l rest = let x = behind_from rest (behind l 0) in omega (arith, x)
behind_split (m ∷ ls) l rest = let x = behind_split ls l rest in let y = behind_from (ls ++ l ∷ rest) (behind m 0) in let z = behind_from ls (behind m 0) in omega (arith, x, y, z)

homed_split : (home : ℕ → ℕ) (d : ℕ) (w : Around d) (ls : List Row) (l : Row) (rest : List Row) (lo : ℕ) → Rows_homed home d w.0 (ls ++ l ∷ rest) lo → Rows_homed home d w.0 ls lo × Row_homes d l (behind_all ls lo) home
unfolding Rows_homed behind_all
homed_split home d w [] l rest lo h = (tt, (w, h.0))
homed_split home d w (m ∷ ls) l rest lo h = let x = homed_split home d w ls l rest (behind m lo) h.1 in ((h.0, x.0), x.1)

module _ (N : Names) (places : Kind) where
  seen : (sizes : List BindId) (p : FlatPattern) (ps : List (Parameter BindId)) (f : Bool) (v : FlatTerm) (lo : ℕ) (E : Env) (K : Kinds) (a : Sub) → Row_claim places (record { sizes = sizes; parameters = ps; is_function = f; pattern = p }, v) lo N (scope_of N places E) K a
      → scope_of N places (env_row (record { sizes = sizes; parameters = ps; is_function = f; pattern = p }, v) lo E) ≡ with_row N places (record { sizes = sizes; parameters = ps; is_function = f; pattern = p }, v) lo (scope_of N places E)
  seen sizes p ps true v lo E K a h = scope_function N places sizes p ps v lo E h.0
  seen sizes p ps false v lo E K a h = scope_value N places sizes p ps v lo E

  row_seen : (l : Row) (lo : ℕ) (E : Env) (K : Kinds) (a : Sub) → Row_claim places l lo N (scope_of N places E) K a → scope_of N places (env_row l lo E) ≡ with_row N places l lo (scope_of N places E)
  row_seen l lo E K a h = seen l.0.sizes l.0.pattern l.0.parameters l.0.is_function l.1 lo E K a h

  -- lets in a row, the whole of each of which has the type of a number
  module _ (whole : ℕ) where
    -- what the body behind a row sees
    rows_seen : (ls : List Row) (lo : ℕ) (E : Env) (K : Kinds) (a : Sub) → Rows_claim places whole ls lo N (scope_of N places E) K a → scope_of N places (env_rows ls lo E) ≡ with_rows N places ls lo (scope_of N places E)
    unfolding Rows_claim env_rows with_rows
    rows_seen [] lo E K a h = refl
    rows_seen (l ∷ ls) lo E K a h = let e = row_seen l lo E K a h.0.0 in
        rows_seen ls (behind l lo) (env_row l lo E) K a (subst (λ (s : Scope). Rows_claim places whole ls (behind l lo) N s K a) (sym e) h.1) ∙ ap (with_rows N places ls (behind l lo)) e

    rows_split : (ls : List Row) (l : Row) (rest : List Row) (lo : ℕ) (scope : Scope) (K : Kinds) (a : Sub) → Rows_claim places whole (ls ++ l ∷ rest) lo N scope K a → Rows_claim places whole ls lo N scope K a × (Row_claim places l (behind_all ls lo) N (with_rows N places ls lo scope) K a × (a whole ≡ a (behind_all ls lo)))
    unfolding Rows_claim behind_all with_rows
    rows_split [] l rest lo scope K a h = (tt, h.0)
    rows_split (m ∷ ls) l rest lo scope K a h = let w = rows_split ls l rest (behind m lo) (with_row N places m lo scope) K a h.1 in ((h.0, w.0), w.1)

    rows_join : (ls : List Row) (l : Row) (lo : ℕ) (scope : Scope) (K : Kinds) (a : Sub) → Rows_claim places whole ls lo N scope K a → Row_claim places l (behind_all ls lo) N (with_rows N places ls lo scope) K a → a whole ≡ a (behind_all ls lo) → Rows_claim places whole (ls ++ l ∷ []) lo N scope K a
    unfolding Rows_claim behind_all with_rows
    rows_join [] l lo scope K a h g e = ((g, e), tt)
    rows_join (m ∷ ls) l lo scope K a h g e = (h.0, rows_join ls l (behind m lo) (with_row N places m lo scope) K a h.1 g e)

    -- a row and its body
    abbrev pub inside : List Row → FlatTerm → ℕ → Scope → Kinds → Sub → Type 0
    inside ls body lo scope K a = Rows_claim places whole ls lo N scope K a × Typed N places body (behind_all ls lo) (with_rows N places ls lo scope) K a

    whole_to : (ls : List Row) (body : FlatTerm) (lo : ℕ) (scope : Scope) (K : Kinds) (a : Sub) → a whole ≡ a lo → Typed N places (lets ls body) lo scope K a → inside ls body lo scope K a × (a whole ≡ a (behind_all ls lo))
    unfolding lets Rows_claim behind_all with_rows
    whole_to [] body lo scope K a e h = ((tt, h), e)
    whole_to (l ∷ ls) body lo scope K a e h = let w = whole_to ls body (behind l lo) (with_row N places l lo scope) K a (e ∙ h.1) h.0.1 in ((((h.0.0, e), w.0.0), w.0.1), w.1)

    next_is : (ls : List Row) (lo : ℕ) (scope : Scope) (K : Kinds) (a : Sub) → Rows_claim places whole ls lo N scope K a → a whole ≡ a (behind_all ls lo) → a whole ≡ a lo
    unfolding Rows_claim behind_all
    next_is [] lo scope K a h e = e
    next_is (l ∷ ls) lo scope K a h e = h.0.1

    whole_from : (ls : List Row) (body : FlatTerm) (lo : ℕ) (scope : Scope) (K : Kinds) (a : Sub) → inside ls body lo scope K a → a whole ≡ a (behind_all ls lo) → Typed N places (lets ls body) lo scope K a
    unfolding lets Rows_claim behind_all with_rows
    whole_from [] body lo scope K a h e = h.1
    whole_from (l ∷ ls) body lo scope K a h e = (
      (h.0.0.0, whole_from ls body (behind l lo) (with_row N places l lo scope) K a (h.0.1, h.1) e),
      sym h.0.0.1 ∙ next_is ls (behind l lo) (with_row N places l lo scope) K a h.0.1 e,
    )

-- a part that binds names, and then a claim on the types of numbers before its end
module _ (places : Kind) (base d lo hi : ℕ) (P Q R : Claim) (G H I : Homes) (into : Env → Env) (i0 i1 i2 : Inference) (split : Both places P Q R into) (homes : (home : ℕ → ℕ) → I home → G home × H home) (x : Opened places base d lo hi P G into i0 i1) (join : Whole places P Q R into)
    (early : (N : Names) (E : Env) (K : Kinds) (a b : Sub) → ((n : ℕ) → n < hi → a n ≡ b n) → Q N (scope_of N places E) K a → Q N (scope_of N places E) K b) (y : Claimed places base d hi Q H i1 i2) where
  opened_early : Opened places base d lo hi R I into i0 i2
  opened_early = record {
    later = later_then base i0 i1 i2 x.later y.later;
    more = more_same i0 i1 i2 x.more y.same;
    adds = λ N T home born E r rd h. let g = homes home h in let r1 = y.later.reads N T born r in
        puts_then T born base (P N (scope_of N places E)) (Q N (scope_of N places (into E))) (R N (scope_of N places E)) G H I i0.nodes i1.nodes i2.nodes (x.adds N T home born E r1 rd g.0) (y.adds N T home born (into E) r (x.ready N T home born E r1 rd g.0) g.1) (split N E) (join N E) homes;
    ready = λ N T home born E r rd h. let g = homes home h in let rd1 = x.ready N T home born E (y.later.reads N T born r) rd g.0 in let p = y.adds N T home born (into E) r rd1 g.1 in
        let longer : length i1.nodes ≤ length i2.nodes = y.later.longer in record {
          depth = rd1.depth;
          outer = rd1.outer;
          state = p.state home rd1.state;
          backed = p.backed home g.1 rd1.backed;
          plain = λ n k q. rd1.plain n k (omega arith);
          narrow = rd1.narrow;
          knows = λ K full so. knows_more T.shapes base i1 i2 (scope_of N places (into E)) K full x.later.safe y.same.names y.later.store (rd1.knows K full (p.keeps K full so));
          below = λ K a b same q. p.forth K b (rd1.below K a b same (p.back K a q)) (early N (into E) K a b same (p.done K a q));
        };
  }

-- how far lets are gone over
pub record Lets_open (places : Kind) (base d lo at : ℕ) (ls : List Row) (i i' : Inference) : Type 0 where
  pub next : at ≡ behind_all ls lo
  pub opened : Opened places base d lo (behind_all ls lo) (Rows_claim places lo ls lo) (Rows_homes d ls lo) (env_rows ls lo) i i'

pub lets_none : (places : Kind) (base d lo : ℕ) (i : Inference) → Safe base i → Lets_open places base d lo lo [] i i
unfolding behind_all Rows_claim Rows_homed env_rows
lets_none places base d lo i s = record {
  next = refl;
  opened = opened_as places base d lo lo nothing_claimed (Rows_claim places lo [] lo) (λ home. At_home home d lo 0) (Rows_homes d [] lo) (λ E. E) (λ E. E) i i (λ N E K a h. (tt, tt)) (λ N E K a p q. tt) (λ home h n x y. absurd (omega arith)) refl (binds_none base lo i s places d lo (omega arith));
}

module _ (places : Kind) (base d lo at : ℕ) (ls : List Row) (l : Row) (i0 i1 i2 : Inference) (g : Lets_open places base d lo at ls i0 i1) where
  abbrev here : ℕ
  here = behind_all ls lo

  abbrev gone : Claim
  gone N scope K a = Rows_claim places lo ls lo N scope K a × Row_claim places l here N (with_rows N places ls lo scope) K a

  abbrev gone_homes : Homes
  gone_homes home = Rows_homes d ls lo home × Row_homes d l here home

  abbrev same : Claim
  same N scope K a = a lo ≡ a at

  to_row : (N : Names) (E : Env) (K : Kinds) (a : Sub) → Rows_claim places lo ls lo N (scope_of N places E) K a → Row_claim places l here N (with_rows N places ls lo (scope_of N places E)) K a → Row_claim places l here N (scope_of N places (env_rows ls lo E)) K a
  to_row N E K a p h = subst (λ (s : Scope). Row_claim places l here N s K a) (sym (rows_seen N places lo ls lo E K a p)) h

  from_row : (N : Names) (E : Env) (K : Kinds) (a : Sub) → Rows_claim places lo ls lo N (scope_of N places E) K a → Row_claim places l here N (scope_of N places (env_rows ls lo E)) K a → Row_claim places l here N (with_rows N places ls lo (scope_of N places E)) K a
  from_row N E K a p h = subst (λ (s : Scope). Row_claim places l here N s K a) (rows_seen N places lo ls lo E K a p) h

  parted : (rest : List Row) (N : Names) (E : Env) (K : Kinds) (a : Sub) → Rows_claim places lo (ls ++ l ∷ rest) lo N (scope_of N places E) K a → gone N (scope_of N places E) K a × (a lo ≡ a at)
  parted rest N E K a h = let w = rows_split N places lo ls l rest lo (scope_of N places E) K a h in ((w.0, w.1.0), subst (λ m. a lo ≡ a m) (sym g.next) w.1.1)

  homes_parted : (rest : List Row) (home : ℕ → ℕ) → Rows_homes d (ls ++ l ∷ rest) lo home → gone_homes home
  homes_parted rest home h = let w = homed_split home d h.0 ls l rest lo h.1 in ((h.0, w.0), w.1)

  pub lets_refused : (all rest : List Row) → all ≡ ls ++ l ∷ rest → Refused places base d at (Row_claim places l at) (Row_homes d l at) i1 i2 → Refused places base d lo (Rows_claim places lo all lo) (Rows_homes d all lo) i0 i2
  lets_refused all rest ea c = subst (λ x. Refused places base d lo (Rows_claim places lo x lo) (Rows_homes d x lo) i0 i2) (sym ea)
      (opened_refused places base d lo here (Rows_claim places lo ls lo) (Row_claim places l here) (Rows_claim places lo (ls ++ l ∷ rest) lo) (Rows_homes d ls lo) (Row_homes d l here) (Rows_homes d (ls ++ l ∷ rest) lo) (env_rows ls lo) i0 i1 i2
      (λ N E K a h. let w = parted rest N E K a h in (w.0.0, to_row N E K a w.0.0 w.0.1)) (homes_parted rest) g.opened
      (subst (λ m. Refused places base d m (Row_claim places l m) (Row_homes d l m) i1 i2) g.next c))

  module _ (i3 : Inference) (c : Opened places base d at (behind l at) (Row_claim places l at) (Row_homes d l at) (env_row l at) i1 i2) where
    abbrev end : ℕ
    end = behind_all (ls ++ l ∷ []) lo

    end_is : behind l at ≡ end
    end_is = ap (behind l) g.next ∙ sym (behind_more ls l lo)

    gone_both : Opened places base d lo end gone gone_homes (λ E. env_row l here (env_rows ls lo E)) i0 i2
    gone_both = opened_both places base d lo here (Rows_claim places lo ls lo) (Row_claim places l here) gone (Rows_homes d ls lo) (Row_homes d l here) gone_homes (env_rows ls lo) i0 i1 i2 (λ N E K a h. (h.0, to_row N E K a h.0 h.1)) (λ home h. h) g.opened end (env_row l here)
        (λ N E K a x y. (x, from_row N E K a x y))
        (subst (λ m. Opened places base d here m (Row_claim places l here) (Row_homes d l here) (env_row l here) i1 i2) (sym (behind_more ls l lo)) (subst (λ m. Opened places base d m (behind l m) (Row_claim places l m) (Row_homes d l m) (env_row l m) i1 i2) g.next c))

    pub lets_more : (next : ℕ) → next ≡ behind l at → Demands_put base (demand.Same lo at ∷ []) i2 i3 → Lets_open places base d lo next (ls ++ l ∷ []) i0 i3
    lets_more next en r = record {
      next = en ∙ end_is;
      opened = opened_as places base d lo end (Rows_claim places lo (ls ++ l ∷ []) lo) (Rows_claim places lo (ls ++ l ∷ []) lo) (Rows_homes d (ls ++ l ∷ []) lo) (Rows_homes d (ls ++ l ∷ []) lo) (λ E. env_row l here (env_rows ls lo E)) (env_rows (ls ++ l ∷ []) lo) i0 i3
          (λ N E K a h. (h, tt)) (λ N E K a x y. x) (λ home h. h) (λ k E. sym (env_more ls l lo E) k)
          (opened_early places base d lo end gone same (Rows_claim places lo (ls ++ l ∷ []) lo) gone_homes anywhere (Rows_homes d (ls ++ l ∷ []) lo) (λ E. env_row l here (env_rows ls lo E)) i0 i2 i3 (parted []) (λ home h. (homes_parted [] home h, tt)) gone_both
          (λ N E K a x y. rows_join N places lo ls l lo (scope_of N places E) K a x.0 x.1 (subst (λ m. a lo ≡ a m) g.next y))
          (λ N E K a b same h. let z : at < end = before_end in let y : lo < end = first_before in sym (same lo y) ∙ h ∙ same at z)
          (ruled places base d end (demand.Same lo at ∷ []) (λ K a. a lo ≡ a at) (same_says lo at) (same_allowed lo at) i2 i3 (r places d end)));
    }
      where
        before_end : at < end
        before_end = let e = end_is in omega (arith, e)

        first_before : lo < end
        first_before = let e = end_is in let z = behind_from ls lo in omega (arith, e, z, g.next)

    pub lets_asked : (all rest : List Row) → all ≡ ls ++ l ∷ rest → Demands_refused base (demand.Same lo at ∷ []) i2 i3 → Refused places base d lo (Rows_claim places lo all lo) (Rows_homes d all lo) i0 i3
    lets_asked all rest ea r = subst (λ x. Refused places base d lo (Rows_claim places lo x lo) (Rows_homes d x lo) i0 i3) (sym ea)
        (opened_refused places base d lo end gone same (Rows_claim places lo (ls ++ l ∷ rest) lo) gone_homes anywhere (Rows_homes d (ls ++ l ∷ rest) lo) (λ E. env_row l here (env_rows ls lo E)) i0 i2 i3 (parted rest) (λ home h. (homes_parted rest home h, tt)) gone_both
        (unruled places base d end (demand.Same lo at ∷ []) (λ K a. a lo ≡ a at) (same_says lo at) (same_allowed lo at) i2 i3 (r places d end)))

-- the row, its body, and that both wholes have one type
module _ (places : Kind) (base d lo from : ℕ) (ls : List Row) (body : FlatTerm) (eq : from ≡ behind_all ls lo) where
  homes : (home : ℕ → ℕ) → Term_homes d (lets ls body) lo home → Rows_homes d ls lo home × Term_homes d body from home
  homes home h = let w = rows_homed home d h.0.0 ls body lo h.1 in ((h.0, w.0), (h.0, subst (λ m. Homed home d h.0.0 body m) (sym eq) w.1))

  abbrev within : Claim
  within N scope = inside N places lo ls body lo scope

  to_body : (N : Names) (E : Env) (K : Kinds) (a : Sub) → within N (scope_of N places E) K a → Rows_claim places lo ls lo N (scope_of N places E) K a × Term_claim places body from N (scope_of N places (env_rows ls lo E)) K a
  to_body N E K a h = (h.0, subst (λ (s : Scope). Typed N places body from s K a) (sym (rows_seen N places lo ls lo E K a h.0)) (subst (λ m. Typed N places body m (with_rows N places ls lo (scope_of N places E)) K a) (sym eq) h.1))

  from_body : (N : Names) (E : Env) (K : Kinds) (a : Sub) → Rows_claim places lo ls lo N (scope_of N places E) K a → Term_claim places body from N (scope_of N places (env_rows ls lo E)) K a → within N (scope_of N places E) K a
  from_body N E K a p q = (p, subst (λ m. Typed N places body m (with_rows N places ls lo (scope_of N places E)) K a) eq (subst (λ (s : Scope). Typed N places body from s K a) (rows_seen N places lo ls lo E K a p) q))

  pub lets_err1 : (i0 i1 : Inference) → Refused places base d lo (Rows_claim places lo ls lo) (Rows_homes d ls lo) i0 i1 → Unconstrained places base d lo (lets ls body) i0 i1
  lets_err1 i0 i1 c = refused_as places base d lo (Rows_claim places lo ls lo) (Term_claim places (lets ls body) lo) (Rows_homes d ls lo) (Term_homes d (lets ls body) lo) i0 i1 (λ N E K a h. (whole_to N places lo ls body lo (scope_of N places E) K a refl h).0.0) (λ home h. (homes home h).0) c

  module _ (i0 i1 : Inference) (x : Opened places base d lo (behind_all ls lo) (Rows_claim places lo ls lo) (Rows_homes d ls lo) (env_rows ls lo) i0 i1) where
    at_from : Opened places base d lo from (Rows_claim places lo ls lo) (Rows_homes d ls lo) (env_rows ls lo) i0 i1
    at_from = subst (λ m. Opened places base d lo m (Rows_claim places lo ls lo) (Rows_homes d ls lo) (env_rows ls lo) i0 i1) (sym eq) x

    lets_err2 : (i2 : Inference) → Unconstrained places base d from body i1 i2 → Unconstrained places base d lo (lets ls body) i0 i2
    lets_err2 i2 c = opened_refused places base d lo from (Rows_claim places lo ls lo) (Term_claim places body from) (Term_claim places (lets ls body) lo) (Rows_homes d ls lo) (Term_homes d body from) (Term_homes d (lets ls body) lo) (env_rows ls lo) i0 i1 i2
        (λ N E K a h. to_body N E K a (whole_to N places lo ls body lo (scope_of N places E) K a refl h).0) homes at_from c

    module _ (i2 : Inference) (c : Constrained places base d from body i1 i2) where
      both : Opened places base d lo (from + numbers body) within (Term_homes d (lets ls body) lo) (env_rows ls lo) i0 i2
      both = opened_then places base d lo from (Rows_claim places lo ls lo) (Term_claim places body from) within (Rows_homes d ls lo) (Term_homes d body from) (Term_homes d (lets ls body) lo) (env_rows ls lo) i0 i1 i2 to_body homes at_from
          (from + numbers body) (omega arith) (depends_term places body from (from + numbers body) refl) from_body c

      abbrev one_type : Claim
      one_type N scope K a = a lo ≡ a from

      to_all : (N : Names) (E : Env) (K : Kinds) (a : Sub) → Typed N places (lets ls body) lo (scope_of N places E) K a → within N (scope_of N places E) K a × (a lo ≡ a from)
      to_all N E K a h = let w = whole_to N places lo ls body lo (scope_of N places E) K a refl h in (w.0, subst (λ m. a lo ≡ a m) (sym eq) w.1)

      from_all : (N : Names) (E : Env) (K : Kinds) (a : Sub) → within N (scope_of N places E) K a → a lo ≡ a from → Typed N places (lets ls body) lo (scope_of N places E) K a
      from_all N E K a p q = whole_from N places lo ls body lo (scope_of N places E) K a p (subst (λ m. a lo ≡ a m) eq q)

      lets_ok : (i3 i4 : Inference) → Safe base i0 → Demands_put base (demand.Same lo from ∷ []) i2 i3
          → ((before added : List Past) → i3.past ≡ before ++ added → length before ≡ length i0.past → i4 ≡ record i3 { names = undone added i3.names; past = before }) → Constrained places base d lo (lets ls body) i0 i4
      lets_ok i3 i4 s r back = closed_after places base d lo (from + numbers body) within one_type (Term_claim places (lets ls body) lo) (Term_homes d (lets ls body) lo) anywhere (Term_homes d (lets ls body) lo) (env_rows ls lo) i0 i2 i3 i4 s
          to_all (λ home h. (h, tt)) both from_all (ruled places base d (from + numbers body) (demand.Same lo from ∷ []) (λ K a. a lo ≡ a from) (same_says lo from) (same_allowed lo from) i2 i3 (r places d (from + numbers body))) back

      lets_err3 : (i3 : Inference) → Demands_refused base (demand.Same lo from ∷ []) i2 i3 → Unconstrained places base d lo (lets ls body) i0 i3
      lets_err3 i3 r = opened_refused places base d lo (from + numbers body) within one_type (Term_claim places (lets ls body) lo) (Term_homes d (lets ls body) lo) anywhere (Term_homes d (lets ls body) lo) (env_rows ls lo) i0 i2 i3 to_all (λ home h. (h, tt)) both
          (unruled places base d (from + numbers body) (demand.Same lo from ∷ []) (λ K a. a lo ≡ a from) (same_says lo from) (same_allowed lo from) i2 i3 (r places d (from + numbers body)))

    pub lets_unruled : (i3 : Inference) → Unruled places base d from body (demand.Same lo from ∷ []) i1 i3 → Unconstrained places base d lo (lets ls body) i0 i3
    lets_unruled i3 (inl u) = lets_err2 i3 u
    lets_unruled i3 (inr w) = lets_err3 w.0 w.1.0 i3 w.1.1

    pub lets_ruled : (i3 i4 : Inference) → Safe base i0 → Ruled places base d from body (demand.Same lo from ∷ []) i1 i3
        → ((before added : List Past) → i3.past ≡ before ++ added → length before ≡ length i0.past → i4 ≡ record i3 { names = undone added i3.names; past = before }) → Constrained places base d lo (lets ls body) i0 i4
    lets_ruled i3 i4 s r back = lets_ok r.0 r.1.0 i3 i4 s r.1.1 back

-- of the trees
some_numbers : (l : Row) → 1 < behind l 0
some_numbers l = let z : 0 < pattern_numbers l.0.pattern = pattern_some l.0.pattern in let y : 0 < numbers l.1 = numbers_some l.1 in omega arith

pub some_rows : (es : List LetTree) → 0 < length es → 0 < behind_all (map row_of es) 0
unfolding behind_all
some_rows [] h = absurd (omega arith)
some_rows (e ∷ es) h = let z = some_numbers (row_of e) in let x = behind_from (map row_of es) (behind (row_of e) 0) in omega (arith, z, x)

map_both : (xs ys : List LetTree) → map row_of (xs ++ ys) ≡ map row_of xs ++ map row_of ys
map_both [] ys = refl
map_both (x ∷ xs) ys = ap (λ l. row_of x ∷ l) (map_both xs ys)

pub row_split : (es : List LetTree) (n : ℕ) (d : LetTree) → n < length es → (rest : List Row) × (map row_of es ≡ map row_of (take n es) ++ row_of (slice_index_or es n d) ∷ rest)
row_split [] n d lt = absurd (omega arith)
row_split (x ∷ es) zero d lt = (map row_of es, refl)
row_split (x ∷ es) (suc n) d lt = let w = row_split es n d (omega arith) in (w.0, ap (λ l. row_of x ∷ l) w.1)

pub row_more : (es : List LetTree) (n : ℕ) (d : LetTree) → n < length es → map row_of (take n es) ++ row_of (slice_index_or es n d) ∷ [] ≡ map row_of (take (n + 1) es)
row_more es n d lt = let z : suc n ≡ n + 1 = omega arith in sym (map_both (take n es) (slice_index_or es n d ∷ [])) ∙ ap (map row_of) (sym (take-suc es n d lt) ∙ ap (λ m. take m es) z)

numbers_in : (es : List LetTree) (n : ℕ) (d : LetTree) → n < length es → behind_all (map row_of (take n es)) 0 + behind (row_of (slice_index_or es n d)) 0 ≤ behind_all (map row_of es) 0
numbers_in es n d lt = let w = row_split es n d lt in let x = ap (λ l. behind_all l 0) w.1 in let y = behind_split (map row_of (take n es)) (row_of (slice_index_or es n d)) w.0 in omega (arith, x, y)

pub row_falls : (es : List LetTree) (n : ℕ) (d : LetTree) (t : ℕ) → n < length es → t ≡ 3 * behind_all (map row_of es) 0 + 2 → 3 * behind (row_of (slice_index_or es n d)) 0 + 1 < t
row_falls es n d t lt is = let z = numbers_in es n d lt in omega (arith, z, is)

pub row_room : (es : List LetTree) (n : ℕ) (d : LetTree) (lo at base : ℕ) → n < length es → at ≡ behind_all (map row_of (take n es)) lo → behind_all (map row_of es) lo ≤ base → behind (row_of (slice_index_or es n d)) at ≤ base
row_room es n d lo at base lt is h = let z = numbers_in es n d lt in let x = behind_from (map row_of (take n es)) lo in let y = behind_from (map row_of es) lo in omega (arith, z, x, y, is, h)

pub row_same : (es : List LetTree) (n lo at base : ℕ) (table : ShapeTable) → n < length es → at ≡ behind_all (map row_of (take n es)) lo → behind_all (map row_of es) lo ≤ base → Are_demands table base (demand.Same lo at ∷ [])
row_same [] n lo at base table lt is h = absurd (omega arith)
row_same (e ∷ es) n lo at base table lt is h = let z = row_room (e ∷ es) n e lo at base lt is h in let x = behind_from (map row_of (take n (e ∷ es))) lo in let inside : at < base = omega (arith, z) in same_within table base lo at (omega (arith, x, is)) inside

pub value_is : (l : LetTree) → l.is_function ≡ false → length l.heads.now ≡ 0 → row_of l ≡ value_row l.sizes.now (pattern_of l.pat) (term_of l.value)
value_is l f h = row_is l ∙ (λ k. (record { sizes = l.sizes.now; parameters = none l.heads.now h k; is_function = f k; pattern = pattern_of l.pat }, term_of l.value))
  where
    none : (hs : List Head) → length hs ≡ 0 → parameters hs ≡ []
    none [] h = refl
    none (x ∷ hs) h = absurd (omega arith)
