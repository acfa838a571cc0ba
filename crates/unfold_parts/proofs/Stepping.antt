-- Steps are put one behind the other.
use Rattle.std.proofs.Common.{◌≡◌, ℕ, ◌+◌, ◌++◌, List, [], ◌∷◌, map, length, take, drop, Ok, Err, false, refl, sym, ap, ◌∙◌, subst, arith}
use Rattle.std.specs.Prelude.{Result, IfErr, IfOk}
use Rattle.std.specs.Borrow.{Bor}
use Rattle.std.proofs.lemmas.List.{map-append}
use mathlib.Core.List.{cons≢nil, head-eq_of_cons-eq, tail-eq_of_cons-eq}
use Rattle.fut_scalar.specs.declared.scalar.Scalar.TheVariants as scalar
use Rattle.fut_blocks.proofs.Layers.{binding_of-made, binding_of-parts, body_of-made, action_of-Operate, action_of-If}
use Rattle.fut_blocks.specs.declared.block.Act.{Act}
use Rattle.fut_blocks.specs.declared.block.Act.TheVariants as act
use Rattle.fut_blocks.specs.declared.block.Atom.{Atom}
use Rattle.fut_blocks.specs.declared.block.Atom.TheVariants as atom
use Rattle.fut_blocks.specs.declared.block.Block.{Block, roll-Block}
use Rattle.fut_blocks.specs.declared.block.Operation.{Operation}
use Rattle.fut_blocks.specs.declared.block.Step.{Step, roll-Step}
use Rattle.fut_blocks.specs.Plain.{Action, Operate, Give, If, action_of, binding_of, body_of, lets}
use Rattle.unfold.specs.Unfolding.{Bindings, both_hold}
use Rattle.unfold_parts.specs.Answers.{Named_as, named_as, not_named, Pushed, pushed, not_pushed, Computed, computed, not_computed, Cut, Blocked, blocked, not_blocked}
use Rattle.unfold_parts.specs.declared.refusal.Refusal.{Refusal}
use Rattle.unfold_parts.specs.declared.refusal.Refusal.TheVariants.{Memory}

pub named_ok : (n next : ℕ) → next ≡ n + 1 → Named_as n next (Ok n)
named_ok n next e = named_as (e ∙ omega arith)

pub named_err : (n next : ℕ) → Named_as n next (Err Memory)
named_err n next = not_named

pub pushed_ok : (s : Step) (items items' : List Step) (u : Unit {0}) → items' ≡ items ++ s ∷ [] → Pushed (binding_of s) (map binding_of items) (map binding_of items') (Ok u)
pushed_ok s items items' u e = pushed (ap (map binding_of) e ∙ map-append binding_of items (s ∷ []))

pub pushed_err : (s : List ℕ × Action) (before after : Bindings) → Pushed s before after (Err Memory)
pushed_err s before after = not_pushed

-- a step is pushed under a new name
pub named_step : (s : Step) (names : Bor (List ℕ)) (x n mid next : ℕ) (before between after : Bindings) (u : Unit {0}) → Named_as n mid (Ok x) → between ≡ before → names.now ≡ x ∷ [] → next ≡ mid → Pushed (binding_of (roll-Step record { names = names; act = s.act })) between after (Ok u) → Computed (binding_of s).1 n before after next (Ok (atom.Name x))
named_step s names x n mid next before between after u (named_as e) same i later (pushed q) = subst (λ z. Computed z n before after next (Ok (atom.Name x))) (sym (ap (λ (z : List ℕ × Action). z.1) (binding_of-parts s))) (computed (q ∙ ap (λ z. z ++ binding_of (roll-Step record { names = names; act = s.act }) ∷ []) same ∙ ap (λ z. before ++ z ∷ []) (binding_of-made (record { names = names; act = s.act }) ∙ ap (λ z. (z, action_of s.act)) i)) (later ∙ e))

-- the act of a step that is made
module _ (names : Bor (List ℕ)) (n next : ℕ) (before after : Bindings) (r : Result Atom Refusal) where
  pub as_act : (a : Act) (b : Action) → action_of a ≡ b → Computed (binding_of (roll-Step record { names = names; act = a })).1 n before after next r → Computed b n before after next r
  as_act a b e h = subst (λ z. Computed z n before after next r) (ap (λ (z : List ℕ × Action). z.1) (binding_of-made (record { names = names; act = a })) ∙ e) h

  pub as_operation : (o : Operation) → Computed (binding_of (roll-Step record { names = names; act = act.Operate o })).1 n before after next r → Computed (Operate o) n before after next r
  as_operation o h = as_act (act.Operate o) (Operate o) (action_of-Operate o) h

  pub as_both : (u w : Atom) (yea nay : Bor Block) → body_of yea.now ≡ Give (w ∷ []) → body_of nay.now ≡ Give (atom.Constant (scalar.Bool false) ∷ []) → Computed (binding_of (roll-Step record { names = names; act = act.If u yea nay })).1 n before after next r → Computed (both_hold u w) n before after next r
  as_both u w yea nay y f h = as_act (act.If u yea nay) (both_hold u w) (action_of-If u yea nay ∙ ap (λ z. If u z (body_of nay.now)) y ∙ ap (λ z. If u (Give (w ∷ [])) z) f) h

-- no memory, or no name, is left for the step
module _ (a : Action) (n next : ℕ) (before after : Bindings) where
  pub unnamed_step : {m mid : ℕ} {r : Refusal} → Named_as m mid (Err r) → Computed a n before after next (Err r)
  unnamed_step not_named = not_computed

  pub unpushed_step : {s : List ℕ × Action} {between behind : Bindings} {r : Refusal} → Pushed s between behind (Err r) → Computed a n before after next (Err r)
  unpushed_step not_pushed = not_computed

  pub unmade_step : {r : Refusal} → r ≡ Memory → Computed a n before after next (Err r)
  unmade_step e = subst (λ z. Computed a n before after next (Err z)) (sym e) not_computed

-- ---- blocks

pub gives : (row : Bor (List Step)) (us : Bor (List Atom)) (u : Atom) (r : Result (Bor Block) Refusal) → row.now ≡ [] → us.now ≡ u ∷ [] → IfOk r (λ b. b.now ≡ roll-Block record { steps = row; results = us }) → IfOk r (λ b. body_of b.now ≡ Give (u ∷ []))
unfolding lets
gives row us u (Ok b) q i e = ap body_of e ∙ body_of-made (record { steps = row; results = us }) ∙ ap (λ z. lets (map binding_of z) us.now) q ∙ ap Give i
gives row us u (Err r) q i e = tt

-- the first ones of a list, and the others
pub parted : (outside inside : Bindings) (items : List Step) → map binding_of items ≡ outside ++ inside → (map binding_of (take (length outside) items) ≡ outside) × (map binding_of (drop (length outside) items) ≡ inside)
parted [] inside items e = (refl, e)
parted (o ∷ os) inside [] e = absurd (cons≢nil (sym e))
parted (o ∷ os) inside (x ∷ xs) e = let r = parted os inside xs (tail-eq_of_cons-eq e) in (ap (λ z. z ∷ map binding_of (take (length os) xs)) (head-eq_of_cons-eq e) ∙ ap (λ z. o ∷ z) r.0, r.1)

pub cut_is : (mark : ℕ) (items items' : List Step) → items' ≡ take mark items → Cut mark (map binding_of items) (map binding_of items')
cut_is mark items items' e outside inside l q = let r = parted outside inside items q in ap (map binding_of) (e ∙ ap (λ z. take z items) (sym l)) ∙ r.0

pub blocked_is : (mark : ℕ) (us : Bor (List Atom)) (items items' : List Step) (row : Bor (List Step)) (r : Result (Bor Block) Refusal) → row.now ≡ drop mark items → items' ≡ take mark items → IfOk r (λ b. b.now ≡ roll-Block record { steps = row; results = us }) → IfErr r (λ x. x ≡ Memory) → Blocked mark us.now (map binding_of items) (map binding_of items') r
blocked_is mark us items items' row (Err r) q i e f = subst (λ z. Blocked mark us.now (map binding_of items) (map binding_of items') (Err z)) (sym f) not_blocked
blocked_is mark us items items' row (Ok b) q i e f = blocked parts
  where
    parts : (outside inside : Bindings) → length outside ≡ mark → map binding_of items ≡ outside ++ inside → (map binding_of items' ≡ outside) × (body_of b.now ≡ lets inside us.now)
    parts outside inside l k = let r = parted outside inside items k in (ap (map binding_of) (i ∙ ap (λ z. take z items) (sym l)) ∙ r.0, ap body_of e ∙ body_of-made (record { steps = row; results = us }) ∙ ap (λ z. lets (map binding_of z) us.now) (q ∙ ap (λ z. drop z items) (sym l)) ∙ ap (λ z. lets z us.now) r.1)

pub ruleset stepping = (named_ok, named_err, pushed_ok, pushed_err)
