-- What is consumed grows, so what a part consumed can be put back.
use Rattle.std.proofs.Common.{◌≡◌, Bool, true, false, cond, [], ◌∷◌, ◌++◌, length, take, take_at, Ok, refl, sym, ap, ◌∙◌, append_assoc, append-nil}
use Rattle.fut_aliases.specs.declared.refusals.Loss.{Loss}
use Rattle.fut_aliases.specs.Steps.{Losses, Step, apart, then_do, is_lost, lose, lose_all}
use Rattle.uniqueness.specs.Answers.{Grows}

pub grows_not : (ls : Losses) → Grows ls ls
grows_not ls = ([], sym (append-nil ls))

grows_on : (ls ms ns : Losses) → Grows ls ms → Grows ms ns → Grows ls ns
grows_on ls ms ns (p, e) (q, f) = (p ++ q, f ∙ ap (λ z. z ++ q) e ∙ append_assoc ls p q)

lose_grows : (l : Loss) (ls : Losses) → Grows ls (lose l ls)
lose_grows l ls = by_loss (is_lost ls l.alias)
  where
    by_loss : (t : Bool) → Grows ls (cond t ls (ls ++ l ∷ []))
    by_loss true = grows_not ls
    by_loss false = (l ∷ [], refl)

pub lose_all_grows : (ms ls : Losses) → Grows ls (lose_all ms ls)
unfolding lose_all
lose_all_grows [] ls = grows_not ls
lose_all_grows (l ∷ ms) ls = grows_on ls (lose l ls) (lose_all ms (lose l ls)) (lose_grows l ls) (lose_all_grows ms (lose l ls))

pub apart_is : (m : Step (Unit {0})) (ls ms : Losses) → m ls ≡ Ok (record { result = tt; losses = ms }) → Grows ls ms → apart m ls ≡ Ok (record { result = tt; losses = take (length ls) ms })
apart_is m ls ms e (q, g) = ap (λ z. then_do z (λ d. Ok (record { result = d.result; losses = ls }))) e ∙ ap (λ z. Ok (record { result = tt; losses = z })) (sym (ap (take (length ls)) g ∙ take_at ls q (length ls) refl))
