-- Terms as blocks, and both branches of a condition.
use Rattle.std.proofs.Common.{◌≡◌, ℕ, ◌+◌, ◌≤◌, ◌++◌, [], ◌∷◌, length, Option, Some, None, Bool, true, false, Ok, Err, sym, ap, ◌∙◌, subst, append_assoc, append-nil, arith}
use Rattle.std.specs.Prelude.{Result}
use Rattle.std.proofs.lemmas.List.{length-append}
use Rattle.fut_flat.specs.Erased.{FlatTerm}
use Rattle.fut_flat.specs.Terms.{If}
use Rattle.fut_blocks.specs.Plain.{body_of, lets}
use Rattle.fut_blocks.specs.Plain as act
use Rattle.unfold.specs.Held.{known_of}
use Rattle.unfold.specs.Knowns.{Known, Scalar_known, Scope}
use Rattle.unfold.specs.Shapes.{Scalar_shape, laid_scalar}
use Rattle.unfold.specs.Stuck.{No_data, else_function, no_condition, stuck_condition, stuck_else, stuck_then, then_function}
use Rattle.unfold.specs.Unfolding.{Bindings, step, u_if, u_packed}
use Rattle.fut_blocks.specs.declared.block.Atom.{Atom}
use Rattle.unfold_parts.specs.Answers.{Cut}
use Rattle.unfold_parts.specs.States.{steps_of}
use Rattle.unfold_parts.specs.declared.refusal.Refusal.{Refusal}
use Rattle.unfold_parts.specs.declared.steps.Unfolding.{Unfolding}
use Rattle.unfold_parts.proofs.Refusing.{refused_as}
use Rattle.unfold_program.specs.declared.walked.Branch.{Branch}
use Rattle.unfold_program.specs.declared.walked.Context.{Context}
use Rattle.unfold_program.specs.declared.walked.Shapes.{Shapes}
use Rattle.unfold_program.specs.declared.walked.Walked.{Walked}
use Rattle.unfold_program.specs.declared.walked.WalkedScalar.{WalkedScalar}
use Rattle.unfold_program.specs.Answers.{Unfolded, unfolded, refused, Becomes, stays, becomes_one, Closed_to, closed_to, other_form, not_closed, No_block, stuck_inside, gives_function, Blocked_to, blocked_to, block_differs, not_blocked, Stepped_to, stepped_to, not_stepped, is_component, Asked, asked_one, asked_same, Branches_stuck, Branches_to, branches_to, branches_differ, no_branches, Scalar_unfolded, scalar_unfolded, no_scalar_unfolded, Not_scalar, stuck_term, other_value, agreed, defined, told}
use Rattle.unfold_program.proofs.Growing.{grown, moved, stuck_at, ending}
use Rattle.unfold_parts.specs.Told.{Stuck, Unfolds}

module _ (c : Context) (sc : Scope) (lo : ℕ) (t : FlatTerm) where
  -- what is known may be made one component
  pub becomes : {n m k : ℕ} {bs cs : Bindings} {s s' : Known} → Unfolds (told c) (defined c) sc lo t n bs s m → Becomes s m cs s' k → Unfolds (told c) (defined c) sc lo t n (bs ++ cs) s' k
  becomes {n} {m} {bs = bs} {s = s} u stays = subst (λ z. Unfolds (told c) (defined c) sc lo t n z s m) (sym (append-nil bs)) u
  becomes u (becomes_one p) = λ td tl. u_packed (u td tl) p

  -- a term behind the steps from a mark on, as a block
  pub closes : (mark : ℕ) (like : Known) (old mid new : Unfolding) (w : Walked) (r : Result (Option Branch) Refusal) → Unfolded c sc lo t old mid (Ok w) → Closed_to mark like w mid new r → Blocked_to c sc mark lo t like old new r
  closes mark like old mid new w _ (unfolded bs g u h) (closed_to cs us b l f q) =
      blocked_to (bs ++ cs) us
      (λ outside inside len e. let z = f outside (inside ++ bs) len (g ∙ ap (λ z. z ++ bs) e ∙ append_assoc outside inside bs) in (z.0, z.1 ∙ ap (λ z. lets z us) (append_assoc inside bs cs)))
      (becomes u b) l (q ∙ h)
  closes mark like old mid new w _ (unfolded bs g u h) (other_form none same) = block_differs bs none (same ∙ g)
  closes mark like old mid new w _ (unfolded bs g u h) (not_closed x) = not_blocked (refused_as (gives_function u) x)

  pub block_mark : (old mid : Unfolding) (mark : ℕ) (r : Walked) → mark ≤ length (steps_of old) → Unfolded c sc lo t old mid (Ok r) → mark ≤ length (steps_of mid)
  block_mark old mid mark r q (unfolded bs g u h) = omega (arith, q, ap length g, length-append (steps_of old) bs)

  pub block_stuck : (mark : ℕ) (like : Known) (old new : Unfolding) (r : Refusal) → Unfolded c sc lo t old new (Err r) → Blocked_to c sc mark lo t like old new (Err r)
  block_stuck mark like old new r (refused h) = not_blocked (refused_as stuck_inside h)

pub asked_component : (packs : Bool) (s like : Known) (u : Atom) → packs ≡ true → like ≡ Scalar_known u → Asked packs s like
asked_component packs s like u e is = subst (Asked packs s) (sym is) (asked_one e)

not_packs : {packs : Bool} {s like : Known} → Asked packs s like → is_component like ≡ false → packs ≡ false
not_packs (asked_one e) n = absurd (let z : true ≡ false = n in cc)
not_packs (asked_same e) n = e

-- what is asked for is data, if the first branch gives some
no_such : (c : Context) (sc : Scope) (truth : WalkedScalar) (ta tb : FlatTerm) (packs : Bool) (old m1 : Unfolding) (w : Walked) {like : Known} → Asked packs (known_of w.known) like → Unfolded c sc truth.at ta old m1 (Ok w) → No_data like → Branches_stuck c sc truth ta tb old
no_such c sc truth ta tb packs old m1 w (asked_one {u = u} p) h lacks lo n es tc at v = absurd (lacks Scalar_shape (u ∷ []) laid_scalar)
no_such c sc truth ta tb packs old m1 w (asked_same p) (unfolded bs g x h) lacks lo n es tc at v = λ td tl. then_function ((moved c at x) td tl) lacks

pub closed_mark : (c : Context) (sc : Scope) (lo : ℕ) (t : FlatTerm) (old m1 : Unfolding) (mark : ℕ) (like : Known) (w : Walked) (m2 : Unfolding) (a : Branch) → mark ≡ length (steps_of old) → Unfolded c sc lo t old m1 (Ok w) → Closed_to mark like w m1 m2 (Ok (Some a)) → mark ≤ length (steps_of m2)
closed_mark c sc lo t old m1 mark like w m2 a q (unfolded bs g u h) (closed_to cs us b l f n) = omega (arith, q, ap length ((f (steps_of old) bs (sym q) g).0))

-- ---- both branches, from the first one on

module _ (c : Context) (sc : Scope) (truth : WalkedScalar) (ta tb : FlatTerm) (packs : Bool) (old m1 : Unfolding) where
  pub then_err : (new : Unfolding) (r : Refusal) → Unfolded c sc truth.at ta old m1 (Err r) → Branches_to c sc truth ta tb packs old new (Err r)
  then_err new r (refused x) = no_branches (refused_as (λ w lo n bs tc at v td tl. stuck_then (v td tl) ((stuck_at c at w) td tl)) x)

  module _ (mark : ℕ) (like : Known) (w : Walked) where
    pub then_unlaid : (m2 new : Unfolding) (r : Refusal) → Unfolded c sc truth.at ta old m1 (Ok w) → Closed_to mark like w m1 m2 (Err r) → Branches_to c sc truth ta tb packs old new (Err r)
    then_unlaid m2 new r (unfolded bs g u h) (not_closed x) = no_branches (refused_as (λ lacks lo n es tc at v td tl. then_function ((moved c at u) td tl) lacks) x)

    pub then_differs : (new : Unfolding) → Asked packs (known_of w.known) like → Unfolded c sc truth.at ta old m1 (Ok w) → Closed_to mark like w m1 new (Ok None) → Branches_to c sc truth ta tb packs old new (Ok None)
    then_differs new asked (unfolded bs g u h) (other_form none same) = branches_differ bs (not_packs asked none) (same ∙ g)

    module _ (m2 : Unfolding) (a : Branch) (q : mark ≡ length (steps_of old)) where
      pub else_err : (m3 new : Unfolding) (r : Refusal) → Unfolded c sc truth.at ta old m1 (Ok w) → Closed_to mark like w m1 m2 (Ok (Some a)) → Blocked_to c sc mark a.at tb like m2 m3 (Err r) → Branches_to c sc truth ta tb packs old new (Err r)
      else_err m3 new r (unfolded bs g u h) (closed_to cs us b l f n) (not_blocked x) = no_branches (refused_as none x)
        where
          none : No_block c sc a.at tb → Branches_stuck c sc truth ta tb old
          none (stuck_inside z) lo i es tc at v td tl = stuck_else ((moved c at u) td tl) ((stuck_at c (omega (arith, n, h, at)) z) td tl)
          none (gives_function u' lacks) lo i es tc at v td tl = else_function ((moved c (omega (arith, n, h, at)) u') td tl) lacks

      pub else_differs : (new : Unfolding) → Asked packs (known_of w.known) like → Unfolded c sc truth.at ta old m1 (Ok w) → Closed_to mark like w m1 m2 (Ok (Some a)) → Blocked_to c sc mark a.at tb like m2 new (Ok None) → Branches_to c sc truth ta tb packs old new (Ok None)
      else_differs new asked (unfolded bs g u h) (closed_to cs us b l f n) (block_differs ds none same) = branches_differ ds (not_packs asked none) (same ∙ ap (λ z. z ++ ds) ((f (steps_of old) bs (sym q) g).0))

      module _ (m3 new : Unfolding) (e : Branch) where
        pub branches_end : (r : Result (Option Walked) Refusal) → Asked packs (known_of w.known) like → Unfolded c sc truth.at ta old m1 (Ok w) → Closed_to mark like w m1 m2 (Ok (Some a)) → Blocked_to c sc mark a.at tb like m2 m3 (Ok (Some e)) → Stepped_to like (act.If truth.atom (body_of a.block.now) (body_of e.block.now)) e.at m3 new r → Branches_to c sc truth ta tb packs old new r
        branches_end _ asked (unfolded bs g u h) (closed_to cs us b l f n) (blocked_to ds ws f' u' l' h') (stepped_to xs gs up lx) =
            let first = f (steps_of old) bs (sym q) g in
            let second = f' (steps_of old) [] (sym q) (first.0 ∙ sym (append-nil (steps_of old))) in
            branches_to (record {
              steps = step xs (act.If truth.atom (lets (bs ++ cs) us) (lets ds ws));
              grown = gs ∙ ap (λ z. z ++ step xs (act.If truth.atom (body_of a.block.now) (body_of e.block.now))) (second.0) ∙ ap (λ z. steps_of old ++ step xs z) (ap (λ z. act.If truth.atom z (body_of e.block.now)) (first.1) ∙ ap (λ z. act.If truth.atom (lets (bs ++ cs) us) z) (second.1));
              unfolds = λ lo i es tc at v td tl. u_if xs (v td tl) ((moved c at (becomes c sc truth.at ta u b)) td tl) l ((moved c (omega (arith, n, h, at)) u') td tl) l' up lx;
              behind = omega (arith, n, h, h');
            })
        branches_end _ asked (unfolded bs g u h) (closed_to cs us b l f n) (blocked_to ds ws f' u' l' h') (not_stepped x) = no_branches (refused_as (no_such c sc truth ta tb packs old m1 w asked (unfolded bs g u h)) x)

-- the same from where as many steps and names stand again
pub branches_again : (c : Context) (sc : Scope) (truth : WalkedScalar) (ta tb : FlatTerm) (packs : Bool) (old now new : Unfolding) (r : Result (Option Walked) Refusal) → steps_of now ≡ steps_of old → now.next ≡ old.next → Branches_to c sc truth ta tb packs now new r → Branches_to c sc truth ta tb packs old new r
branches_again c sc truth ta tb packs old now new _ e n (branches_to k) = branches_to (record {
  steps = k.steps;
  grown = k.grown ∙ ap (λ z. z ++ k.steps) e;
  unfolds = λ lo i bs tc at v. k.unfolds lo i bs tc at (ending c (sym n) v);
  behind = k.behind;
})
branches_again c sc truth ta tb packs old now new _ e n (branches_differ bs none g) = branches_differ bs none (g ∙ ap (λ z. z ++ bs) e)
branches_again c sc truth ta tb packs old now new _ e n (no_branches x) = no_branches (refused_as (λ w lo i bs tc at v. w lo i bs tc at (ending c (sym n) v)) x)

-- ---- a condition with both branches

module _ (c : Context) (sc : Scope) (lo : ℕ) (tc ta tb : FlatTerm) (first : ℕ) (old m1 : Unfolding) (q : first ≡ lo + 1) where
  pub if_test_err : (new : Unfolding) (r : Refusal) → Scalar_unfolded c sc first tc old m1 (Err r) → Unfolded c sc lo (If tc ta tb) old new (Err r)
  if_test_err new r (no_scalar_unfolded x) = refused (refused_as none x)
    where
      none : Not_scalar c sc first tc → Stuck (told c) (defined c) sc lo (If tc ta tb)
      none (stuck_term w) td tl = stuck_condition ((stuck_at c (omega (arith, q)) w) td tl)
      none (other_value u lacks) td tl = no_condition ((moved c (omega (arith, q)) u) td tl) lacks

  module _ (truth : WalkedScalar) (packs : Bool) (new : Unfolding) where
    pub if_branched : (r : Walked) → Scalar_unfolded c sc first tc old m1 (Ok truth) → Branches_to c sc truth ta tb packs m1 new (Ok (Some r)) → Unfolded c sc lo (If tc ta tb) old new (Ok r)
    if_branched r (scalar_unfolded bs g p h) (branches_to k) = unfolded (bs ++ k.steps) (grown (steps_of old) (steps_of m1) (steps_of new) bs k.steps g k.grown) (k.unfolds lo old.next bs tc (omega (arith, h, q)) (moved c (omega (arith, q)) p)) (omega (arith, k.behind, h, q))

    pub if_branches_err : (later : Unfolding) (r : Refusal) → Scalar_unfolded c sc first tc old m1 (Ok truth) → Branches_to c sc truth ta tb packs m1 new (Err r) → Unfolded c sc lo (If tc ta tb) old later (Err r)
    if_branches_err later r (scalar_unfolded bs g p h) (no_branches x) = refused (refused_as (λ w. w lo old.next bs tc (omega (arith, h, q)) (moved c (omega (arith, q)) p)) x)

-- where both are unfolded once more
module _ (c : Context) (sc : Scope) (truth : WalkedScalar) (ta tb : FlatTerm) (old : Unfolding) where
  pub branches_mark : (packs : Bool) (mid : Unfolding) (mark : ℕ) → mark ≡ length (steps_of old) → Branches_to c sc truth ta tb packs old mid (Ok None) → mark ≤ length (steps_of mid)
  branches_mark packs mid mark q (branches_differ bs none g) = omega (arith, q, ap length g, length-append (steps_of old) bs)

  pub branches_cut : (packs : Bool) (mid now : Unfolding) (mark : ℕ) → mark ≡ length (steps_of old) → Branches_to c sc truth ta tb packs old mid (Ok None) → Cut mark (steps_of mid) (steps_of now) → steps_of now ≡ steps_of old
  branches_cut packs mid now mark q (branches_differ bs none g) f = f (steps_of old) bs (sym q) g

-- ---- what an answer is

module _ {mark : ℕ} {like : Known} {w : Walked} {old new : Unfolding} {o o' : Option Branch} where
  pub closed_as : o ≡ o' → Closed_to mark like w old new (Ok o) → Closed_to mark like w old new (Ok o')
  closed_as e h = subst (λ z. Closed_to mark like w old new (Ok z)) e h

module _ {c : Context} {sc : Scope} {mark lo : ℕ} {t : FlatTerm} {like : Known} {old new : Unfolding} {o o' : Option Branch} where
  pub blocked_as : o ≡ o' → Blocked_to c sc mark lo t like old new (Ok o) → Blocked_to c sc mark lo t like old new (Ok o')
  blocked_as e h = subst (λ z. Blocked_to c sc mark lo t like old new (Ok z)) e h

module _ {c : Context} {sc : Scope} {truth : WalkedScalar} {ta tb : FlatTerm} {packs : Bool} {old new : Unfolding} {o o' : Shapes} (w : Walked) where
  pub branches_as : o ≡ o' → Branches_to c sc truth ta tb packs old new (agreed (Ok o) w) → Branches_to c sc truth ta tb packs old new (agreed (Ok o') w)
  branches_as e h = subst (λ z. Branches_to c sc truth ta tb packs old new (agreed (Ok z) w)) e h
