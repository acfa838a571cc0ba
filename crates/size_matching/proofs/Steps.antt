-- Steps of matching, one after another.
use Rattle.std.proofs.Common.{◌≡◌, Ok, Err, refl, sym, ap, ◌∙◌, subst}
use Rattle.std.specs.Prelude.{IfOk}
use Rattle.fut_sizes.specs.Agreeing.{Answer, then_do}
use Rattle.fut_sizes.specs.Matching as matching
use Rattle.size_arena.specs.declared.agreeing.SizeErr.{SizeErr}
use Rattle.size_slots.specs.declared.slots.Found.{Found}
use Rattle.size_slots.specs.Held.{Holds, Held, Met, met, unmet, no_memory_met}
use Rattle.size_matching.specs.Agreed.{Agrees, agrees, differs}
use Rattle.size_slots.proofs.MeetLaws.{Told}

abbrev pub Step : Type 0
Step = matching.Found → Answer matching.Found

-- what a step says of a table before and behind it
abbrev pub On : Found → Step → Found → Told → Type 0
On f a g r = (σ : matching.Found) → Holds f σ → Met (a σ) g r

pub no_err : (x : SizeErr) (u : Unit {0}) → Err x ≡ Ok u → ⊥
no_err x u e = cc

pub no_ok : (x : SizeErr) (u : Unit {0}) → Ok u ≡ Err x → ⊥
no_ok x u e = cc

module _ (f g h : Found) (a b c : Step) where
  pub then_on : (k r : Told) (x : Unit {0}) → k ≡ Ok x → On f a g k → On g b h r → ((σ : matching.Found) → Holds f σ → c σ ≡ then_do (a σ) b) → On f c h r
  then_on k r x is m n e σ held = go (m σ held) is
    where
      go : {k : Told} → Met (a σ) g k → k ≡ Ok x → Met (c σ) h r
      go (met τ p there) is = subst (λ z. Met z h r) (sym (e σ held ∙ ap (λ z. then_do z b) p)) (n τ there)
      go (unmet {e = y} p) is = elim (no_err _ x is) [ ]
      go no_memory_met is = elim (no_err _ x is) [ ]

pub stop_on : (f g : Found) (a b c : Step) (k : Told) (x : SizeErr) → k ≡ Err x → On f a g k → ((σ : matching.Found) → Holds f σ → c σ ≡ then_do (a σ) b) → On f c g (Err x)
stop_on f g a b c k x is m e σ held = go (m σ held) is
  where
    go : {k : Told} → Met (a σ) g k → k ≡ Err x → Met (c σ) g (Err x)
    go (met τ p there) is = elim (no_ok x tt is) [ ]
    go (unmet {e = y} p) is = subst (λ z. Met (c σ) g z) is (unmet (e σ held ∙ ap (λ z. then_do z b) p))
    go no_memory_met is = subst (λ z. Met (c σ) g z) is no_memory_met

pub held_on : (f g : Found) (a : Step) (k : Told) (x : Unit {0}) → k ≡ Ok x → Held f → On f a g k → Held g
held_on f g a k x is h m = go (m h.0 h.1) is
  where
    go : {k : Told} → Met (a h.0) g k → k ≡ Ok x → Held g
    go (met τ p there) is = (τ, there)
    go (unmet {e = y} p) is = elim (no_err _ x is) [ ]
    go no_memory_met is = elim (no_err _ x is) [ ]

-- where a step is done, its table holds a substitution as before
pub still_held : (f g : Found) (a : Step) (r : Told) → Held f → On f a g r → IfOk r (λ u. Held g)
still_held f g a r h m = go (m h.0 h.1)
  where
    go : {r : Told} → Met (a h.0) g r → IfOk r (λ u. Held g)
    go (met τ p there) = (τ, there)
    go (unmet {e = y} p) = tt
    go no_memory_met = tt

-- another name for the same step
pub as_on : (f g : Found) (a c : Step) (r : Told) → On f a g r → ((σ : matching.Found) → Holds f σ → c σ ≡ a σ) → On f c g r
as_on f g a c r m e σ held = subst (λ z. Met z g r) (sym (e σ held)) (m σ held)

-- nothing is done
pub same_on : (f : Found) (c : Step) → ((σ : matching.Found) → c σ ≡ Ok σ) → On f c f (Ok tt)
same_on f c e σ held = met σ (e σ) held

-- sized types have to agree
pub agree_on : (f : Found) (c : Step) (a : Answer (Unit {0})) (r : Told) → Agrees a r → ((σ : matching.Found) → c σ ≡ then_do a (λ z. Ok σ)) → On f c f r
agree_on f c a (Ok u) (agrees p) e σ held = met σ (e σ ∙ ap (λ z. then_do z (λ z. Ok σ)) p) held
agree_on f c a (Err x) (differs p) e σ held = unmet (e σ ∙ ap (λ z. then_do z (λ z. Ok σ)) p)

-- ---- a row of steps

-- what is left of a step c from a table on
pub record Reaches (c : Step) (g : Found) (b : Step) (σ : matching.Found) : Type 0 where
  pub now : matching.Found
  pub holds : Holds g now
  pub same : c σ ≡ b now

abbrev pub Reached : Found → Step → Found → Step → Type 0
Reached f c g b = (σ : matching.Found) → Holds f σ → Reaches c g b σ

pub reach_start : (f : Found) (c : Step) → Reached f c f c
reach_start f c σ held = record { now = σ; holds = held; same = refl }

module _ (f g h : Found) (c b : Step) (reached : Reached f c g b) where
  pub reach_more : (a d : Step) (k : Told) (x : Unit {0}) → k ≡ Ok x → On g a h k → ((τ : matching.Found) → b τ ≡ then_do (a τ) d) → Reached f c h d
  reach_more a d k x is m e σ held = go (m (reached σ held).now (reached σ held).holds) is
    where
      go : {k : Told} → Met (a (reached σ held).now) h k → k ≡ Ok x → Reaches c h d σ
      go (met τ p there) is = record { now = τ; holds = there; same = (reached σ held).same ∙ e (reached σ held).now ∙ ap (λ z. then_do z d) p }
      go (unmet {e = y} p) is = elim (no_err _ x is) [ ]
      go no_memory_met is = elim (no_err _ x is) [ ]

  pub reach_stop : (a d : Step) (k : Told) (x : SizeErr) → k ≡ Err x → On g a h k → ((τ : matching.Found) → b τ ≡ then_do (a τ) d) → On f c h (Err x)
  reach_stop a d k x is m e σ held = go (m (reached σ held).now (reached σ held).holds) is
    where
      go : {k : Told} → Met (a (reached σ held).now) h k → k ≡ Err x → Met (c σ) h (Err x)
      go (met τ p there) is = elim (no_ok x tt is) [ ]
      go (unmet {e = y} p) is = subst (λ z. Met (c σ) h z) is (unmet ((reached σ held).same ∙ e (reached σ held).now ∙ ap (λ z. then_do z d) p))
      go no_memory_met is = subst (λ z. Met (c σ) h z) is no_memory_met

  pub reach_end : ((τ : matching.Found) → b τ ≡ Ok τ) → On f c g (Ok tt)
  reach_end e σ held = met (reached σ held).now ((reached σ held).same ∙ e (reached σ held).now) (reached σ held).holds

pub two_same : {A B C : Type 0} (f : A → B → C) {x y : A} {u v : B} → y ≡ x → v ≡ u → f x u ≡ f y v
two_same f {x} {y} {u} {v} p q = sym (ap (λ z. f z v) p ∙ ap (f x) q)
